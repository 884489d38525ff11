-- What the scans over segments find, from the last segment to the first or from the first to the last.
use Rattle.std.proofs.Common.{ℕ, suc, ◌+◌, ◌≡◌, true, false, List, [], ◌∷◌, ◌++◌, length, take, drop, Option, Some, None, refl, sym, ap, ◌∙◌, inl, inr, arith, append_assoc}
use Rattle.std.specs.Prelude.{nat_le, nat_lt, ◌==◌}
use Rattle.std.proofs.lemmas.List.{take_more, append-nil}
use Rattle.std.proofs.lemmas.Bool.{cases_Bool}
use Rattle.std.proofs.lemmas.Bool.Decides.{nat_tests}
use Rattle.std.specs.List.{slice_get}
use Rattle.std.proofs.lemmas.Option.{get_or_from_slice_get, slice_get_within}
use Rattle.dt_units.specs.declared.parameters.Params.{Params}
use Rattle.dt_flow_model.specs.Numbering.{number_of}
use Rattle.dt_flow_model.specs.SendRecord.{Segment, acknowledged, before_all, end_of}
use Rattle.dt_flow_model.specs.SendActs.{Act, better, give_up, meet, release, renew, resend, send}
use Rattle.dt_send.specs.SentSegments.{IsPlaceOf, earlier_place}
use Rattle.dt_send.proofs.SentSegmentLemmas.{drop_at}

not_later : (m n : ℕ) → nat_le m n ≡ true → nat_lt n m ≡ false
not_later m n h = grind (arith, nat_tests)

later : (m n : ℕ) → nat_le m n ≡ false → nat_lt n m ≡ true
later m n h = grind (arith, nat_tests)

-- one segment more is looked at, before the others
pub place_late : (i : ℕ) (g : Segment) (gs : List Segment) (o : Option Act) (best : Option (ℕ × ℕ)) → IsPlaceOf (i + 1) o best → IsPlaceOf i (better g gs true o) (earlier_place (i, g.last) best)
place_late i g gs None best h = let e : i + 0 ≡ i = omega arith in ap (earlier_place (i, g.last)) h ∙ ap (λ (k : ℕ). Some (k, g.last)) (sym e)
place_late i g gs (Some (resend before h after)) best f =
    elim (cases_Bool (nat_le g.last h.last)) [
      | inl y ↦ rw (y, f, not_later g.last h.last y) (let e : i + 0 ≡ i = omega arith in ap (λ (k : ℕ). Some (k, g.last)) (sym e))
      | inr n ↦ rw (n, f, later g.last h.last n) (let e : i + 1 + length before ≡ i + suc (length before) = omega arith in ap (λ (k : ℕ). Some (k, h.last)) e)
    ]
place_late i g gs (Some (give_up a z)) best h = elim h [ ]
place_late i g gs (Some release) best h = elim h [ ]
place_late i g gs (Some renew) best h = elim h [ ]
place_late i g gs (Some (send a z)) best h = elim h [ ]
place_late i g gs (Some meet) best h = elim h [ ]

pub place_passed : (i : ℕ) (g : Segment) (gs : List Segment) (o : Option Act) (best : Option (ℕ × ℕ)) → IsPlaceOf (i + 1) o best → IsPlaceOf i (better g gs false o) best
place_passed i g gs None best h = h
place_passed i g gs (Some (resend before k after)) best h = h ∙ (let e : i + 1 + length before ≡ i + suc (length before) = omega arith in ap (λ (n : ℕ). Some (n, k.last)) e)
place_passed i g gs (Some (give_up a z)) best h = elim h [ ]
place_passed i g gs (Some release) best h = elim h [ ]
place_passed i g gs (Some renew) best h = elim h [ ]
place_passed i g gs (Some (send a z)) best h = elim h [ ]
place_passed i g gs (Some meet) best h = elim h [ ]

-- ACKNOWLEDGEMENTS: segments that were passed, before a split
abbrev pub behind_all : List Segment → Option (List Segment × List Segment) → Option (List Segment × List Segment)
behind_all gs None = None
behind_all gs (Some (gone, rest)) = Some (gs ++ gone, rest)

pub behind_one : (gs : List Segment) (g : Segment) (o : Option (List Segment × List Segment)) → behind_all gs (before_all g o) ≡ behind_all (gs ++ g ∷ []) o
behind_one gs g None = refl
behind_one gs g (Some (gone, rest)) = ap (λ (hs : List Segment). Some (hs, rest)) (sym (append_assoc gs (g ∷ []) gone))

pub behind_none : (o : Option (List Segment × List Segment)) → behind_all [] o ≡ o
behind_none None = refl
behind_none (Some (gone, rest)) = refl

-- the number isn't that of the offset: the segment there is passed
equal : (m n : ℕ) → m ≡ n → (m == n) ≡ true
equal m n h = grind (arith, nat_tests)

unequal : (m n : ℕ) → (m ≡ n → ⊥) → (m == n) ≡ false
unequal m n h = grind (arith, nat_tests)

passed : (p : Params) (k left : ℕ) (g : Segment) (gs : List Segment) → (number_of p left == k) ≡ false → acknowledged p k left (g ∷ gs) ≡ before_all g (acknowledged p k (end_of g) gs)
passed p k left g gs h = rw h refl

reached : (p : Params) (k left : ℕ) (gs : List Segment) → (number_of p left == k) ≡ true → acknowledged p k left gs ≡ Some ([], gs)
reached p k left [] h = rw h refl
reached p k left (g ∷ gs) h = rw h refl

unreached : (p : Params) (k left : ℕ) → (number_of p left == k) ≡ false → acknowledged p k left [] ≡ None
unreached p k left h = rw h refl

-- the first of the segments were passed, which end at an offset
abbrev pub HasPassed : Params → ℕ → ℕ → List Segment → ℕ → ℕ → Type 0
HasPassed p k left gs place end = acknowledged p k left gs ≡ behind_all (take place gs) (acknowledged p k end (drop place gs))

pub passed_more : (p : Params) (k left : ℕ) (gs : List Segment) (place end : ℕ) (g : Segment) (next : ℕ) → HasPassed p k left gs place end → slice_get gs place ≡ Some g → (number_of p end ≡ k → ⊥) → end_of g ≡ next → HasPassed p k left gs (place + 1) next
passed_more p k left gs place end g next h is other e =
    let rest = drop (place + 1) gs in
    let more : take (place + 1) gs ≡ take place gs ++ g ∷ [] = take_more gs place g (slice_get_within gs place g is) ∙ ap (λ (x : Segment). take place gs ++ x ∷ []) (get_or_from_slice_get gs place g g is) in
    h
    ∙ ap (λ (l : List Segment). behind_all (take place gs) (acknowledged p k end l)) (drop_at gs place g is)
    ∙ ap (behind_all (take place gs)) (passed p k end g rest (unequal (number_of p end) k other))
    ∙ behind_one (take place gs) g (acknowledged p k (end_of g) rest)
    ∙ ap (λ (l : List Segment). behind_all l (acknowledged p k (end_of g) rest)) (sym more)
    ∙ ap (λ (n : ℕ). behind_all (take (place + 1) gs) (acknowledged p k n rest)) e

pub splits_there : (p : Params) (k left : ℕ) (gs : List Segment) (place end : ℕ) → HasPassed p k left gs place end → number_of p end ≡ k → acknowledged p k left gs ≡ Some (take place gs, drop place gs)
splits_there p k left gs place end h e =
    h
    ∙ ap (behind_all (take place gs)) (reached p k end (drop place gs) (equal (number_of p end) k e))
    ∙ ap (λ (l : List Segment). Some (l, drop place gs)) (append-nil (take place gs))

pub splits_nowhere : (p : Params) (k left : ℕ) (gs : List Segment) (place end : ℕ) → HasPassed p k left gs place end → drop place gs ≡ [] → (number_of p end ≡ k → ⊥) → acknowledged p k left gs ≡ None
splits_nowhere p k left gs place end h none other =
    h
    ∙ ap (λ (l : List Segment). behind_all (take place gs) (acknowledged p k end l)) none
    ∙ ap (behind_all (take place gs)) (unreached p k end (unequal (number_of p end) k other))
