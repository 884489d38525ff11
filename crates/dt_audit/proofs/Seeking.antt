-- A place is sought among gaps that follow one another.
use Rattle.std.proofs.Common.{ℕ, zero, suc, ◌≡◌, ◌<◌, ◌≤◌, Bool, true, false, ◌&&◌, List, [], ◌∷◌, ◌++◌, length, get_or, refl, ◌∙◌, arith}
use Rattle.std.specs.Prelude.{◌||◌, nat_le, nat_lt}
use Rattle.std.specs.List.{list_any}
use Rattle.std.specs.List.Sorted.{IsNonDecreasingBy, IsPartitionPoint}
use Rattle.std.proofs.lemmas.Bool.{leb-false, leb-true}
use Rattle.std.proofs.lemmas.Bool.Decides.{nat_tests}
use Rattle.dt_audit.specs.declared.gaps.Gap.{Gap}
use Rattle.dt_audit.specs.FlowNotes.{Rise, gaps_end, holds}

least_below : (least : ℕ) (gaps : List Gap) (k : ℕ) (d : Gap) → Rise least gaps → k < length gaps → least ≤ (get_or gaps k d).from
least_below least [] k d h lt = absurd (omega arith)
least_below least (g ∷ gs) zero d h lt = h.0
least_below least (g ∷ gs) (suc k) d h lt = omega (arith, h.0, h.1, least_below g.to gs k d h.2 (omega arith))

ends_rise : (least : ℕ) (gaps : List Gap) (i j : ℕ) (d : Gap) → Rise least gaps → i ≤ j → j < length gaps → (get_or gaps i d).to ≤ (get_or gaps j d).to
ends_rise least [] i j d h le lt = absurd (omega arith)
ends_rise least (g ∷ gs) zero zero d h le lt = omega arith
ends_rise least (g ∷ gs) zero (suc j) d h le lt = omega (arith, least_below g.to gs j d h.2 (omega arith), not_empty g.to gs j d h.2 (omega arith))
  where
    not_empty : (least : ℕ) (gaps : List Gap) (k : ℕ) (d : Gap) → Rise least gaps → k < length gaps → (get_or gaps k d).from < (get_or gaps k d).to
    not_empty least [] k d h lt = absurd (omega arith)
    not_empty least (g ∷ gs) zero d h lt = h.1
    not_empty least (g ∷ gs) (suc k) d h lt = not_empty g.to gs k d h.2 (omega arith)
ends_rise least (g ∷ gs) (suc i) zero d h le lt = absurd (omega arith)
ends_rise least (g ∷ gs) (suc i) (suc j) d h le lt = ends_rise g.to gs i j d h.2 (omega arith) (omega arith)

pub ends_sorted : (gaps : List Gap) → Rise 0 gaps → IsNonDecreasingBy (λ g. g.to) gaps
ends_sorted gaps h = λ i j d le lt. ends_rise 0 gaps i j d h le lt

-- a place below all gaps is in none
none_above : (least place : ℕ) (gaps : List Gap) → Rise least gaps → place < least → list_any (holds place) gaps ≡ false
none_above least place [] h lt = refl
none_above least place (g ∷ gs) h lt =
    let off : nat_le g.from place ≡ false = grind (arith, nat_tests) in
    rw off (none_above g.to place gs h.2 (omega arith))

-- the gaps that end at a place or before it don't hold it; of the others the first may
pub sought : (least place i : ℕ) (gaps : List Gap) (d : Gap) → Rise least gaps → i ≤ length gaps → ((k : ℕ) → k < i → (get_or gaps k d).to ≤ place) → (i < length gaps → place < (get_or gaps i d).to)
    → list_any (holds place) gaps ≡ (nat_lt i (length gaps) && nat_le (get_or gaps i d).from place)
sought least place i [] d h le passed first = let off : nat_lt i 0 ≡ false = grind (arith, nat_tests) in rw off refl
sought least place zero (g ∷ gs) d h le passed first =
    let a : nat_lt 0 (suc (length gs)) ≡ true = grind (arith, nat_tests) in
    let b : nat_lt place g.to ≡ true = (let lt = first (omega arith) in grind (arith, nat_tests)) in
    let c : list_any (holds place) gs ≡ false = none_above g.to place gs h.2 (first (omega arith)) in
    rw (a, b, c) (last (nat_le g.from place))
  where
    last : (b : Bool) → ((b && true) || false) ≡ b
    last true = refl
    last false = refl
sought least place (suc i) (g ∷ gs) d h le passed first =
    let a : nat_lt (suc i) (suc (length gs)) ≡ nat_lt i (length gs) = grind (arith, nat_tests) in
    let b : nat_lt place g.to ≡ false = (let lt = passed 0 (omega arith) in grind (arith, nat_tests)) in
    rw (a, b) (behind (nat_le g.from place) (list_any (holds place) gs) ∙ sought g.to place i gs d h.2 (omega arith) (λ k lt. passed (suc k) (omega arith)) (λ lt. first (omega arith)))
  where
    behind : (b c : Bool) → ((b && false) || c) ≡ c
    behind true c = refl
    behind false c = refl

-- a gap after all others
rise_append : (least from to : ℕ) (gaps : List Gap) → Rise least gaps → gaps_end least gaps ≤ from → from < to → Rise least (gaps ++ (record { from = from; to = to }) ∷ [])
rise_append least from to [] h le lt = (le, lt, tt)
rise_append least from to (g ∷ gs) h le lt = (h.0, h.1, rise_append g.to from to gs h.2 le lt)

end_append : (least from to : ℕ) (gaps : List Gap) → gaps_end least (gaps ++ (record { from = from; to = to }) ∷ []) ≡ to
end_append least from to [] = refl
end_append least from to (g ∷ gs) = end_append g.to from to gs

-- what is found at the place that a search among the ends comes to
pub sought_at : (place i : ℕ) (gaps : List Gap) → Rise 0 gaps → i ≤ length gaps → IsPartitionPoint (λ g. nat_le g.to place ≡ true) (λ g. nat_le g.to place ≡ false) gaps i → (d : Gap) → list_any (holds place) gaps ≡ (nat_lt i (length gaps) && nat_le (get_or gaps i d).from place)
sought_at place i gaps h le part d =
    sought 0 place i gaps d h le
    (λ k lt. leb-true (get_or gaps k d).to place (part.0 k d (omega arith) lt))
    (λ lt. leb-false (get_or gaps i d).to place (part.1 i d (omega arith) lt))

pub gap_added : (from to : ℕ) (gaps : List Gap) → Rise 0 gaps → gaps_end 0 gaps ≤ from → from < to → Rise 0 (gaps ++ (record { from = from; to = to }) ∷ []) × (gaps_end 0 (gaps ++ (record { from = from; to = to }) ∷ []) ≡ to)
gap_added from to gaps h le lt = (rise_append 0 from to gaps h le lt, end_append 0 from to gaps)
