-- The calls that wait are judged one after another.
use Rattle.std.proofs.Common.{ℕ, suc, ◌+◌, ◌≡◌, ◌<◌, ◌≤◌, true, false, if◌then◌else◌, List, [], ◌∷◌, ◌++◌, length, map, set, get_or, refl, ap, sym, subst, ◌∙◌, arith, append_assoc, append-nil, add-one}
use Rattle.dt_world_model.specs.World.{World}
use Rattle.dt_calls_model.specs.declared.calls.Call.{Call}
use Rattle.dt_calls_model.specs.declared.calls.CallState.TheVariants as state
use Rattle.dt_calls_model.specs.CallTold as told
use Rattle.dt_calls_model.specs.CallTold.{CallEntry}
use Rattle.dt_calls_model.specs.CallStep.{becomes_unsure, judge_all, judged, verdicts_from}
use Rattle.dt_calls_model.specs.Calls.{Calls}
use Rattle.dt_call_parts.specs.Courses.{HasGoneOn}
use Rattle.dt_call_parts.specs.Telling.{TellsCalls}
use Rattle.dt_call_parts.proofs.Courses.{tells_then}

-- the item after others
get_behind : (xs ys : List Call) (y d : Call) → get_or (xs ++ y ∷ ys) (length xs) d ≡ y
get_behind [] ys y d = refl
get_behind (x ∷ xs) ys y d = get_behind xs ys y d

set_behind : (xs ys : List Call) (y z : Call) → set (xs ++ y ∷ ys) (length xs) z ≡ xs ++ z ∷ ys
set_behind [] ys y z = refl
set_behind (x ∷ xs) ys y z = ap (λ (r : List Call). x ∷ r) (set_behind xs ys y z)

mapped_long : (d : Call → Call) (xs : List Call) → length (map d xs) ≡ length xs
mapped_long d [] = refl
mapped_long d (x ∷ xs) = ap suc (mapped_long d xs)

mapped_behind : (d : Call → Call) (xs ys : List Call) (y : Call) → map d (xs ++ y ∷ []) ++ ys ≡ map d xs ++ d y ∷ ys
mapped_behind d [] ys y = refl
mapped_behind d (x ∷ xs) ys y = ap (λ (r : List Call). d x ∷ r) (mapped_behind d xs ys y)

long_behind : (xs : List Call) (y : Call) → length (xs ++ y ∷ []) ≡ suc (length xs)
long_behind [] y = refl
long_behind (x ∷ xs) y = ap suc (long_behind xs y)

abbrev told_if : World → ℕ → Call → List CallEntry
told_if w n call = if becomes_unsure w call then record { moment = w.now; told = told.Unsure n } ∷ [] else []

number_behind : (n : ℕ) (xs : List Call) → suc n + length xs ≡ n + suc (length xs)
number_behind n xs = omega arith

verdicts_after : (w : World) (n : ℕ) (xs : List Call) (y : Call) → verdicts_from w n (xs ++ y ∷ []) ≡ verdicts_from w n xs ++ told_if w (n + length xs) y
verdicts_after w n [] y = append-nil (told_if w n y) ∙ ap (λ (k : ℕ). told_if w k y) (let z : n ≡ n + 0 = omega arith in z)
verdicts_after w n (x ∷ xs) y =
    ap (λ (ls : List CallEntry). told_if w n x ++ ls) (verdicts_after w (suc n) xs y ∙ ap (λ (k : ℕ). verdicts_from w (suc n) xs ++ told_if w k y) (number_behind n xs))
    ∙ sym (append_assoc (told_if w n x) (verdicts_from w (suc n) xs) (told_if w (n + suc (length xs)) y))

from_none : (n : ℕ) → 0 + n ≡ n
from_none n = omega arith

module _ {L : Type 0} (tells : L → CallEntry → L → Type 0) (w : World) (all : List Call) (l : L) where
  -- the calls before this one were judged
  pub record JudgesOn (i : ℕ) (calls : List Call) (m : L) : Type 0 where
    pub before : List Call
    pub rest : List Call
    pub are_all : all ≡ before ++ rest
    pub count : length before ≡ i
    pub now : calls ≡ map (judged w) before ++ rest
    pub lines : TellsCalls tells (verdicts_from w 0 before) l m

  pub begun : JudgesOn 0 all l
  begun = record { before = []; rest = all; are_all = refl; count = refl; now = refl; lines = refl }

  -- the next call
  record IsNext (i : ℕ) (calls : List Call) (call : Call) (before rest : List Call) : Type 0 where
    behind : List Call
    is : rest ≡ call ∷ behind

  next_is : (i : ℕ) (calls : List Call) (call : Call) (before rest : List Call) → length before ≡ i → calls ≡ map (judged w) before ++ rest → i < length calls → call ≡ get_or calls i call → IsNext i calls call before rest
  next_is i calls call before [] count now there is = absurd (let long = mapped_long (judged w) before in let same : length calls ≡ length (map (judged w) before) = ap length (now ∙ append-nil (map (judged w) before)) in omega arith)
  next_is i calls call before (x ∷ xs) count now there is =
      let at : length (map (judged w) before) ≡ i = mapped_long (judged w) before ∙ count in
      let found : call ≡ x =
      is
      ∙ ap (λ (cs : List Call). get_or cs i call) now
      ∙ ap (λ (k : ℕ). get_or (map (judged w) before ++ x ∷ xs) k call) (sym at)
      ∙ get_behind (map (judged w) before) xs x call in
      record { behind = xs; is = ap (λ (y : Call). y ∷ xs) (sym found) }

  goes_on : (i : ℕ) (call : Call) (before behind : List Call) (calls after : List Call) (m n : L) → all ≡ before ++ call ∷ behind → length before ≡ i → after ≡ map (judged w) before ++ judged w call ∷ behind
      → TellsCalls tells (verdicts_from w 0 before) l m → TellsCalls tells (told_if w i call) m n → JudgesOn (i + 1) after n
  goes_on i call before behind calls after m n are count now lines more = record {
    before = before ++ call ∷ [];
    rest = behind;
    are_all = are ∙ sym (append_assoc before (call ∷ []) behind);
    count = long_behind before call ∙ ap suc count ∙ sym (add-one i);
    now = now ∙ sym (mapped_behind (judged w) before behind call);
    lines = subst (λ (ls : List CallEntry). TellsCalls tells ls l n) (sym (verdicts_after w 0 before call ∙ ap (λ (k : ℕ). verdicts_from w 0 before ++ told_if w k call) (from_none (length before)))) (tells_then tells (verdicts_from w 0 before) (told_if w (length before) call) l m n lines (subst (λ (k : ℕ). TellsCalls tells (told_if w k call) m n) (sym count) more));
  }

  module _ (i : ℕ) (calls : List Call) (m : L) (on : JudgesOn i calls m) where
    pub ended : length calls ≤ i → (c : Calls) → c.world ≡ w → c.calls ≡ all → HasGoneOn tells judge_all c l m (record c { calls = calls })
    ended past c is_world is_all =
        let none : on.rest ≡ [] = none_left on.rest on.now in
        let before_all : on.before ≡ all = sym (on.are_all ∙ ap (λ (r : List Call). on.before ++ r) none ∙ append-nil on.before) in
        let before_is : on.before ≡ c.calls = before_all ∙ sym is_all in
        record {
          lines = subst (λ (v : World). TellsCalls tells (verdicts_from v 0 c.calls) l m) (sym is_world) (subst (λ (cs : List Call). TellsCalls tells (verdicts_from w 0 cs) l m) before_is on.lines);
          calls = ap (λ (cs : List Call). record c { calls = cs })
              (on.now ∙ ap (λ (r : List Call). map (judged w) on.before ++ r) none ∙ append-nil (map (judged w) on.before) ∙ ap (map (judged w)) before_is ∙ ap (λ (v : World). map (judged v) c.calls) (sym is_world));
        }
      where
        none_left : (rest : List Call) → calls ≡ map (judged w) on.before ++ rest → rest ≡ []
        none_left [] h = refl
        none_left (x ∷ xs) h = absurd (let long = mapped_long (judged w) on.before in let count = on.count in let same = ap length h in let both = long_both (map (judged w) on.before) x xs in omega arith)
          where
            long_both : (cs : List Call) (b : Call) (bs : List Call) → length cs < length (cs ++ b ∷ bs)
            long_both [] b bs = omega arith
            long_both (c ∷ cs) b bs = let h = long_both cs b bs in omega arith

    module _ (call : Call) (there : i < length calls) (is : call ≡ get_or calls i call) where
      pub next_sure : becomes_unsure w call ≡ false → JudgesOn (i + 1) calls m
      next_sure sure =
          let next = next_is i calls call on.before on.rest on.count on.now there is in
          let same : judged w call ≡ call = rw sure refl in
          let told : told_if w i call ≡ [] = rw sure refl in
          goes_on i call on.before next.behind calls calls m m (on.are_all ∙ ap (λ (r : List Call). on.before ++ r) next.is) on.count
          (on.now ∙ ap (λ (r : List Call). map (judged w) on.before ++ r) next.is ∙ ap (λ (y : Call). map (judged w) on.before ++ y ∷ next.behind) (sym same))
          on.lines (subst (λ (ls : List CallEntry). TellsCalls tells ls m m) (sym told) refl)

      pub next_unsure : becomes_unsure w call ≡ true → (n : L) → tells m (record { moment = w.now; told = told.Unsure i }) n → JudgesOn (i + 1) (set calls i (record call { state = state.Unsure })) n
      next_unsure unsure n tell =
          let next = next_is i calls call on.before on.rest on.count on.now there is in
          let new : Call = record call { state = state.Unsure } in
          let same : judged w call ≡ new = rw unsure refl in
          let told : told_if w i call ≡ (record { moment = w.now; told = told.Unsure i }) ∷ [] = rw unsure refl in
          let at : length (map (judged w) on.before) ≡ i = mapped_long (judged w) on.before ∙ on.count in
          goes_on i call on.before next.behind calls (set calls i new) m n (on.are_all ∙ ap (λ (r : List Call). on.before ++ r) next.is) on.count
          (ap (λ (cs : List Call). set cs i new) (on.now ∙ ap (λ (r : List Call). map (judged w) on.before ++ r) next.is)
          ∙ ap (λ (k : ℕ). set (map (judged w) on.before ++ call ∷ next.behind) k new) (sym at)
          ∙ set_behind (map (judged w) on.before) next.behind call new
          ∙ ap (λ (y : Call). map (judged w) on.before ++ y ∷ next.behind) (sym same))
          on.lines (subst (λ (ls : List CallEntry). TellsCalls tells ls m n) (sym told) (n, tell, refl))
