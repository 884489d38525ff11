-- Only the calls whose numbers are kept are looked at: the others don't wait.
use Rattle.std.proofs.Common.{ℕ, zero, suc, ◌+◌, ◌≡◌, ◌<◌, ◌≤◌, Bool, true, false, List, [], ◌∷◌, ◌++◌, length, set, get_or, take, drop, refl, ap, sym, subst, ◌∙◌, inl, inr, arith, add-one, append_assoc}
use Rattle.std.specs.Prelude.{◌&&◌, ◌||◌}
use Rattle.std.proofs.lemmas.List.{get_or_default}
use Rattle.dt_world_model.specs.World.{World}
use Rattle.dt_calls_model.specs.declared.calls.Call.{Call}
use Rattle.dt_calls_model.specs.declared.calls.CallState.TheVariants as state
use Rattle.dt_calls_model.specs.CallStep.{becomes_unsure, judge_all, is_posted_in_vain, is_replied_in_vain, is_waiting}
use Rattle.dt_calls_model.specs.CallTold as told
use Rattle.dt_calls_model.specs.CallTold.{CallEntry}
use Rattle.dt_calls_model.specs.Calls.{Calls, call_in, no_call}
use Rattle.dt_calls_model.specs.Messages.{reversed}
use Rattle.dt_call_parts.specs.Courses.{HasGoneOn}
use Rattle.dt_call_parts.specs.Waiting.{Covers}
use Rattle.dt_call_parts.proofs.Verdicts.{JudgesOn, begun, ended, next_sure, next_unsure}
use Rattle.dt_call_parts.proofs.Waiting.{covers_drop, covers_there}

-- LISTS from a place on
drop_there : {A : Type 0} (i : ℕ) (xs : List A) (y : A) (ys : List A) → drop i xs ≡ y ∷ ys → i < length xs
drop_there zero [] y ys h = absurd cc
drop_there (suc i) [] y ys h = absurd cc
drop_there zero (x ∷ xs) y ys h = omega arith
drop_there (suc i) (x ∷ xs) y ys h = let e = drop_there i xs y ys h in omega arith

drop_first : (i : ℕ) (xs : List Call) (y : Call) (ys : List Call) → drop i xs ≡ y ∷ ys → y ≡ get_or xs i y
drop_first zero [] y ys h = absurd cc
drop_first (suc i) [] y ys h = absurd cc
drop_first zero (x ∷ xs) y ys h = cc
drop_first (suc i) (x ∷ xs) y ys h = drop_first i xs y ys h

drop_rest : (i : ℕ) (xs : List Call) (y : Call) (ys : List Call) → drop i xs ≡ y ∷ ys → drop (suc i) xs ≡ ys
drop_rest zero [] y ys h = absurd cc
drop_rest (suc i) [] y ys h = absurd cc
drop_rest zero (x ∷ xs) y ys h = cc
drop_rest (suc i) (x ∷ xs) y ys h = drop_rest i xs y ys h

drop_past : (i : ℕ) (xs : List Call) → drop i xs ≡ [] → length xs ≤ i
drop_past zero [] h = omega arith
drop_past (suc i) [] h = omega arith
drop_past zero (x ∷ xs) h = absurd cc
drop_past (suc i) (x ∷ xs) h = let e = drop_past i xs h in omega arith

drop_set : {A : Type 0} (i j : ℕ) (xs : List A) (y : A) → i ≤ j → drop (suc j) (set xs i y) ≡ drop (suc j) xs
drop_set i j [] y h = refl
drop_set zero j (x ∷ xs) y h = refl
drop_set (suc i) zero (x ∷ xs) y h = absurd (omega arith)
drop_set (suc i) (suc j) (x ∷ xs) y h = drop_set i j xs y (omega arith)

pub drop_at : (i : ℕ) (xs : List ℕ) (y : ℕ) → i < length xs → y ≡ get_or xs i y → drop i xs ≡ y ∷ drop (i + 1) xs
drop_at i xs y h is = from i xs h is ∙ ap (λ (n : ℕ). y ∷ drop n xs) (sym (add-one i))
  where
    from : (j : ℕ) (zs : List ℕ) → j < length zs → y ≡ get_or zs j y → drop j zs ≡ y ∷ drop (suc j) zs
    from j [] lt e = absurd (omega arith)
    from zero (z ∷ zs) lt e = let s : y ≡ z = e in ap (λ (x : ℕ). x ∷ zs) (sym s)
    from (suc j) (z ∷ zs) lt e = from j zs (omega arith) e

pub none_from : (ys : List ℕ) (i : ℕ) → length ys ≤ i → drop i ys ≡ []
none_from [] zero e = refl
none_from [] (suc i) e = refl
none_from (y ∷ ys) zero e = absurd (omega arith)
none_from (y ∷ ys) (suc i) e = none_from ys i (omega arith)

not_both : (a b : Bool) → a ≡ false → (a && b) ≡ false
not_both true b h = absurd cc
not_both false b h = refl

sure_if : (w : World) (call : Call) → is_waiting call.state ≡ false → becomes_unsure w call ≡ false
sure_if w call not = not_both (is_waiting call.state) (is_posted_in_vain w call.flow call.request || is_replied_in_vain w (reversed call.flow) call.reply) not

module _ {L : Type 0} (tells : L → CallEntry → L → Type 0) (w : World) (all : List Call) (l : L) where
  -- Those before a call are judged, and these numbers are left.
  pub record JudgesTo (ks : List ℕ) (calls : List Call) (m : L) : Type 0 where
    pub at : ℕ
    pub on : JudgesOn tells w all l at calls m
    pub left : Covers at ks (drop at calls)

  pub starts : (ks : List ℕ) → Covers 0 ks all → JudgesTo ks all l
  starts ks h = record { at = 0; on = begun tells w all l; left = h }

  record Reached (k : ℕ) (ks : List ℕ) (calls : List Call) (m : L) : Type 0 where
    there : k < length calls
    on : JudgesOn tells w all l k calls m
    left : Covers (suc k) ks (drop (suc k) calls)

  module _ (calls : List Call) (m : L) where
    -- a call that doesn't wait is passed over
    pass : (at : ℕ) (x : Call) (xs : List Call) → drop at calls ≡ x ∷ xs → is_waiting x.state ≡ false → JudgesOn tells w all l at calls m → JudgesOn tells w all l (suc at) calls m
    pass at x xs is not on = subst (λ (n : ℕ). JudgesOn tells w all l n calls m) (add-one at) (next_sure tells w all l at calls m on x (drop_there at calls x xs is) (drop_first at calls x xs is) (sure_if w x not))

    reach : (rest : List Call) (at k : ℕ) (ks : List ℕ) → drop at calls ≡ rest → Covers at (k ∷ ks) rest → JudgesOn tells w all l at calls m → Reached k ks calls m
    reach [] at k ks is h on = absurd h
    reach (x ∷ xs) at k ks is (inl h) on = record {
      there = subst (λ (n : ℕ). n < length calls) (sym h.0) (drop_there at calls x xs is);
      on = subst (λ (n : ℕ). JudgesOn tells w all l n calls m) (sym h.0) on;
      left = subst (λ (n : ℕ). Covers (suc n) ks (drop (suc n) calls)) (sym h.0) (subst (λ (r : List Call). Covers (suc at) ks r) (sym (drop_rest at calls x xs is)) h.1);
    }
    reach (x ∷ xs) at k ks is (inr h) on = reach xs (suc at) k ks (drop_rest at calls x xs is) h.1 (pass at x xs is h.0 on)

    pass_all : (rest : List Call) (at : ℕ) → drop at calls ≡ rest → Covers at [] rest → JudgesOn tells w all l at calls m → (n : ℕ) × (length calls ≤ n) × JudgesOn tells w all l n calls m
    pass_all [] at is h on = (at, drop_past at calls is, on)
    pass_all (x ∷ xs) at is h on = pass_all xs (suc at) (drop_rest at calls x xs is) h.1 (pass at x xs is h.0 on)

    pub all_judged : JudgesTo [] calls m → (c : Calls) → c.world ≡ w → c.calls ≡ all → HasGoneOn tells judge_all c l m (record c { calls = calls })
    all_judged to c is_world is_all =
        let e = pass_all (drop to.at calls) to.at refl to.left to.on in
        ended tells w all l e.0 calls m e.2 e.1 c is_world is_all

    module _ (k : ℕ) (ks : List ℕ) (to : JudgesTo (k ∷ ks) calls m) where
      reached : Reached k ks calls m
      reached = reach (drop to.at calls) to.at k ks refl to.left to.on

      pub call_is_there : k < length calls
      call_is_there = reached.there

      module _ (call : Call) (is : call ≡ get_or calls k call) where
        pub looked_sure : becomes_unsure w call ≡ false → JudgesTo ks calls m
        looked_sure sure = record {
          at = k + 1;
          on = next_sure tells w all l k calls m reached.on call reached.there is sure;
          left = subst (λ (n : ℕ). Covers n ks (drop n calls)) (sym (add-one k)) reached.left;
        }

        pub looked_unsure : becomes_unsure w call ≡ true → (n : L) → tells m (record { moment = w.now; told = told.Unsure k }) n → JudgesTo ks (set calls k (record call { state = state.Unsure })) n
        looked_unsure unsure n tell =
            let new : Call = record call { state = state.Unsure } in
            record {
              at = k + 1;
              on = next_unsure tells w all l k calls m reached.on call reached.there is unsure n tell;
              left = subst (λ (i : ℕ). Covers i ks (drop i (set calls k new))) (sym (add-one k)) (subst (λ (r : List Call). Covers (suc k) ks r) (sym (drop_set k k calls new (omega arith))) reached.left);
            }

-- THE NUMBERS of calls that wait no more are dropped
pub take_set : (k : ℕ) (xs : List ℕ) (y : ℕ) → k < length xs → take (suc k) (set xs k y) ≡ take k xs ++ y ∷ []
take_set k [] y h = absurd (omega arith)
take_set zero (x ∷ xs) y h = refl
take_set (suc k) (x ∷ xs) y h = ap (λ (r : List ℕ). x ∷ r) (take_set k xs y (omega arith))

module _ (calls : List Call) (xs : List ℕ) (kept place : ℕ) (number : ℕ) (order : kept ≤ place) (there : place < length xs) (is : number ≡ get_or xs place number) (h : Covers 0 (take kept xs ++ drop place xs) calls) where
  here : Covers 0 (take kept xs ++ number ∷ drop (place + 1) xs) calls
  here = subst (λ (r : List ℕ). Covers 0 (take kept xs ++ r) calls) (drop_at place xs number there is) h

  pub number_there : number < length calls
  number_there = let e = covers_there 0 (take kept xs) number (drop (place + 1) xs) calls here in omega arith

  pub number_kept : Covers 0 (take (kept + 1) (set xs kept number) ++ drop (place + 1) (set xs kept number)) calls
  number_kept =
      let front : take (kept + 1) (set xs kept number) ≡ take kept xs ++ number ∷ [] = ap (λ (n : ℕ). take n (set xs kept number)) (add-one kept) ∙ take_set kept xs number (omega arith) in
      let back : drop (place + 1) (set xs kept number) ≡ drop (place + 1) xs = ap (λ (n : ℕ). drop n (set xs kept number)) (add-one place) ∙ drop_set kept place xs number order ∙ ap (λ (n : ℕ). drop n xs) (sym (add-one place)) in
      let all : take (kept + 1) (set xs kept number) ++ drop (place + 1) (set xs kept number) ≡ take kept xs ++ number ∷ drop (place + 1) xs =
      ap (λ (r : List ℕ). r ++ drop (place + 1) (set xs kept number)) front ∙ ap (λ (r : List ℕ). (take kept xs ++ number ∷ []) ++ r) back ∙ append_assoc (take kept xs) (number ∷ []) (drop (place + 1) xs) in
      subst (λ (r : List ℕ). Covers 0 r calls) (sym all) here

  pub number_dropped : (d : Call) → is_waiting (get_or calls number d).state ≡ false → Covers 0 (take kept xs ++ drop (place + 1) xs) calls
  number_dropped d not =
      let found : get_or calls number d ≡ call_in calls number = get_or_default calls number d no_call number_there in
      let here_not : is_waiting (call_in calls number).state ≡ false = subst (λ (x : Call). is_waiting x.state ≡ false) found not in
      covers_drop 0 (take kept xs) number (drop (place + 1) xs) calls here (λ i e. let same : i ≡ number = omega arith in subst (λ (k : ℕ). is_waiting (call_in calls k).state ≡ false) (sym same) here_not)
