-- The sides of all flows are read one after another.
use Rattle.std.proofs.Common.{ℕ, zero, suc, ◌+◌, ◌≡◌, ◌≤◌, List, [], ◌∷◌, ◌++◌, fold, length, drop, Some, refl, ap, sym, subst, ◌∙◌, arith, append_assoc, append-nil, add-one}
use Rattle.std.specs.Prelude.{slice_get}
use Rattle.dt_units.specs.declared.endpoints.Flow.{Flow}
use Rattle.dt_calls_model.specs.Calls.{Calls, Side}
use Rattle.dt_calls_model.specs.CallTold.{CallEntry}
use Rattle.dt_calls_model.specs.Reads.{Course, read_side, read_sides}
use Rattle.dt_call_parts.specs.Courses.{HasGoneOn, HasStopped, from_calls}
use Rattle.dt_call_parts.specs.Kept.{keys_in}
use Rattle.dt_call_parts.specs.Telling.{TellsCalls}
use Rattle.dt_call_parts.proofs.Courses.{adds_fold, behind, behind_behind, at, tells_then}

-- the flow at a place, and those after it
flow_behind : (fs : List Flow) (i : ℕ) (f : Flow) → slice_get fs i ≡ Some f → drop i fs ≡ f ∷ drop (suc i) fs
flow_behind [] i f h = absurd cc
flow_behind (x ∷ xs) zero f h = let same : x ≡ f = cc in ap (λ (y : Flow). y ∷ xs) same
flow_behind (x ∷ xs) (suc i) f h = flow_behind xs i f h

-- among those that a reading began with
pub flow_there : (i : ℕ) (now first : List Flow) (f : Flow) → now ≡ first → slice_get now i ≡ Some f → drop i first ≡ f ∷ drop (i + 1) first
flow_there i now first f same is = subst (λ (fs : List Flow). drop i fs ≡ f ∷ drop (i + 1) fs) same (flow_behind now i f is ∙ ap (λ (k : ℕ). f ∷ drop k now) (sym (add-one i)))

none_behind : (keys : List Flow) (i : ℕ) → length keys ≤ i → drop i keys ≡ []
none_behind [] zero h = refl
none_behind [] (suc i) h = refl
none_behind (k ∷ ks) zero h = absurd (omega arith)
none_behind (k ∷ ks) (suc i) h = none_behind ks i (omega arith)

module _ {L : Type 0} (tells : L → CallEntry → L → Type 0) (answer : List ℕ → List ℕ) (side : Side) (c : Calls) (l : L) where
  abbrev Rest : Calls → List Flow → Course
  Rest d keys = fold (read_side answer side) (from_calls d) keys

  -- the flows before this place were read
  pub record SidesOn (i : ℕ) (d : Calls) (m : L) : Type 0 where
    pub so_far : List CallEntry
    pub goes : read_sides answer side (from_calls c) ≡ behind so_far (Rest d (drop i (keys_in c.flows)))
    pub lines : TellsCalls tells so_far l m

  pub begun : SidesOn 0 c l
  begun = record { so_far = []; goes = refl; lines = refl }

  module _ (i : ℕ) (d : Calls) (m : L) (on : SidesOn i d m) where
    pub ended : length (keys_in c.flows) ≤ i → HasGoneOn tells (read_sides answer side) c l m d
    ended past =
        let is : read_sides answer side (from_calls c) ≡ at on.so_far d =
        on.goes ∙ ap (λ (keys : List Flow). behind on.so_far (Rest d keys)) (none_behind (keys_in c.flows) i past) ∙ ap (λ (ls : List CallEntry). at ls d) (append-nil on.so_far) in
        record {
          lines = subst (λ (r : Course). TellsCalls tells r.told l m) (sym is) on.lines;
          calls = ap (λ (r : Course). r.calls) (sym is);
        }

    module _ (f : Flow) (here : drop i (keys_in c.flows) ≡ f ∷ drop (i + 1) (keys_in c.flows)) where
      abbrev one : Course
      one = read_side answer side (from_calls d) f

      abbrev keys : List Flow
      keys = drop (i + 1) (keys_in c.flows)

      split : read_sides answer side (from_calls c) ≡ behind (on.so_far ++ one.told) (Rest one.calls keys)
      split =
          on.goes
          ∙ ap (λ (ks : List Flow). behind on.so_far (Rest d ks)) here
          ∙ ap (behind on.so_far) (adds_fold answer side keys one.told one.calls)
          ∙ sym (behind_behind on.so_far one.told (Rest one.calls keys))

      pub next : (n : L) (e : Calls) → HasGoneOn tells (λ r. read_side answer side r f) d m n e → SidesOn (i + 1) e n
      next n e gone = subst (λ (x : Calls). SidesOn (i + 1) x n) (sym gone.calls) (record { so_far = on.so_far ++ one.told; goes = split; lines = tells_then tells on.so_far one.told l m n on.lines gone.lines })

      pub stopped : (n : L) → HasStopped tells (λ r. read_side answer side r f) d m n → HasStopped tells (read_sides answer side) c l n
      stopped n stop =
          let more = (Rest one.calls keys).told in
          record {
            part = on.so_far ++ stop.part;
            rest = stop.rest ++ more;
            told =
                append_assoc on.so_far stop.part (stop.rest ++ more)
                ∙ ap (λ (ls : List CallEntry). on.so_far ++ ls) (sym (append_assoc stop.part stop.rest more) ∙ ap (λ (ls : List CallEntry). ls ++ more) stop.told)
                ∙ sym (append_assoc on.so_far one.told more)
                ∙ ap (λ (r : Course). r.told) (sym split);
            lines = tells_then tells on.so_far stop.part l m n on.lines stop.lines;
          }
