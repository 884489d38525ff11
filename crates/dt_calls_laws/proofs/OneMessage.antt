-- What stands from a begin mark to the next end mark is one message.
use Rattle.std.proofs.Common.{ℕ, zero, suc, ◌+◌, ◌-◌, ◌<◌, ◌≤◌, ◌≡◌, Bool, true, false, List, [], ◌∷◌, ◌++◌, drop, length, take, refl, ap, sym, subst, inl, inr, ◌⊎◌, ◌∙◌, arith}
use Rattle.std.proofs.Math.Seq.{drop-append-add, drop-nil, take-append_seam}
use Rattle.std.proofs.lemmas.List.{length-append}
use Rattle.dt_items.specs.declared.item.Item.{Item}
use Rattle.dt_items.specs.Unread.{marked}
use Rattle.dt_calls_laws.specs.Wholes.{AreSome, IsOneMessage, begins_with, ends_at, items_of_all}

pub length_marked : (m : List ℕ) (begin end : Bool) → length (marked m begin end false) ≡ length m
length_marked [] begin end = refl
length_marked (x ∷ []) begin end = refl
length_marked (x ∷ y ∷ rest) begin end = ap suc (length_marked (y ∷ rest) false end)

-- after the first item of a message none begins one
none_begins : (m : List ℕ) (end : Bool) (q : ℕ) (rest : List Item) → q < length m → begins_with (drop q (marked m false end false ++ rest)) ≡ false
none_begins [] end q rest h = absurd (omega arith)
none_begins (x ∷ []) end zero rest h = refl
none_begins (x ∷ []) end (suc q) rest h = absurd (omega arith)
none_begins (x ∷ y ∷ m) end zero rest h = refl
none_begins (x ∷ y ∷ m) end (suc q) rest h = none_begins (y ∷ m) end q rest (omega arith)

none_inside : (m : List ℕ) (q : ℕ) (rest : List Item) → suc q < length m → begins_with (drop (suc q) (marked m true true false ++ rest)) ≡ false
none_inside [] q rest h = absurd (omega arith)
none_inside (x ∷ []) q rest h = absurd (omega arith)
none_inside (x ∷ y ∷ m) q rest h = none_begins (y ∷ m) true q rest (omega arith)

-- the first end mark is that of the last item
first_end : (m : List ℕ) (begin : Bool) (rest : List Item) (k : ℕ) → 0 < length m → ends_at k (marked m begin true false ++ rest) ≡ true → ((j : ℕ) → j < k → ends_at j (marked m begin true false ++ rest) ≡ false) → suc k ≡ length m
first_end [] begin rest k some end none = absurd (omega arith)
first_end (x ∷ []) begin rest zero some end none = refl
first_end (x ∷ []) begin rest (suc k) some end none = let no = none zero (omega arith) in absurd cc
first_end (x ∷ y ∷ m) begin rest zero some end none = absurd cc
first_end (x ∷ y ∷ m) begin rest (suc k) some end none = ap suc (first_end (y ∷ m) false rest k (omega arith) end (λ j h. none (suc j) (omega arith)))

abbrev StartsAt : List (List ℕ) → ℕ → Type 0
StartsAt ms place = (before behind : List (List ℕ)) × (message : List ℕ) × (ms ≡ before ++ message ∷ behind) × (place ≡ length (items_of_all before)) × (drop place (items_of_all ms) ≡ items_of_all (message ∷ behind)) × (0 < length message)

-- a begin mark stands where a message starts
later : (m : List ℕ) (ms : List (List ℕ)) (place : ℕ) → StartsAt ms place → StartsAt (m ∷ ms) (length (marked m true true false) + place)
later m ms place s = (
  m ∷ s.0,
  s.1,
  s.2,
  ap (λ (l : List (List ℕ)). m ∷ l) s.3,
  (let at = s.4 in let both = length-append (marked m true true false) (items_of_all s.0) in omega (arith, at, both)),
  drop-append-add (marked m true true false) (items_of_all ms) place ∙ s.5,
  s.6,
)

pub side : (a b : ℕ) → (a < b) ⊎ (b ≤ a)
side zero zero = inr (omega arith)
side zero (suc b) = inl (omega arith)
side (suc a) zero = inr (omega arith)
side (suc a) (suc b) = elim (side a b) [ inl l ↦ inl (omega arith) | inr r ↦ inr (omega arith) ]

starts : (ms : List (List ℕ)) (place : ℕ) → AreSome ms → begins_with (drop place (items_of_all ms)) ≡ true → StartsAt ms place
starts [] place some h = let none : begins_with (drop place []) ≡ false = ap begins_with (drop-nil place) in absurd cc
starts (m ∷ ms) zero some h = ([], ms, m, refl, refl, refl, some.0)
starts (m ∷ ms) (suc q) some h =
    elim (side (suc q) (length m)) [
      | inl inside ↦ let none = none_inside m q (items_of_all ms) inside in absurd cc
      | inr past ↦
          let len : length (marked m true true false) ≡ length m = length_marked m true true in
          let at : suc q ≡ length (marked m true true false) + (suc q - length m) = omega (arith, len, past) in
          let rest : begins_with (drop (suc q - length m) (items_of_all ms)) ≡ true = ap begins_with (sym (ap (λ (n : ℕ). drop n (marked m true true false ++ items_of_all ms)) at ∙ drop-append-add (marked m true true false) (items_of_all ms) (suc q - length m))) ∙ h in
          subst (StartsAt (m ∷ ms)) (sym at) (later m ms (suc q - length m) (starts ms (suc q - length m) some.1 rest))
    ]

pub one_message : (ms : List (List ℕ)) (place k : ℕ) → AreSome ms → begins_with (drop place (items_of_all ms)) ≡ true → ends_at k (drop place (items_of_all ms)) ≡ true → ((j : ℕ) → j < k → ends_at j (drop place (items_of_all ms)) ≡ false) → IsOneMessage ms place k
one_message ms place k some begin end none =
    let s = starts ms place some begin in
    let message = s.2 in
    let rest = items_of_all s.1 in
    let count : suc k ≡ length message = first_end message true rest k s.6 (subst (λ (is : List Item). ends_at k is ≡ true) s.5 end) (λ j h. subst (λ (is : List Item). ends_at j is ≡ false) s.5 (none j h)) in
    record {
      before = s.0;
      message = message;
      behind = s.1;
      all = s.3;
      starts = s.4;
      count = count;
      items =
          ap (take (suc k)) s.5
          ∙ ap (λ (n : ℕ). take n (marked message true true false ++ rest)) (count ∙ sym (length_marked message true true))
          ∙ take-append_seam (marked message true true false) rest;
    }
