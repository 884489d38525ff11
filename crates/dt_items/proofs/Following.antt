-- The items that go on a piece are those without a mark, and then one whose only mark is the end mark.
use Rattle.std.proofs.Common.{◌≡◌, ℕ, zero, suc, ◌+◌, ◌<◌, ◌≤◌, Bool, true, false, not, ◌||◌, cond, List, [], ◌∷◌, length, take, Some, refl, sym, ap, ◌∙◌, arith}
use Rattle.std.specs.List.{slice_get}
use Rattle.dt_items.specs.declared.item.Item.{Item}
use Rattle.dt_items.specs.Unread.{goes_on, following}
use Rattle.dt_items.specs.Unmarked.{is_unmarked, unmarked_count}
use Rattle.dt_items.proofs.Longest.{all_off, from_all_off}

-- nothing goes on after an end mark
pub ended : (n : ℕ) (before : Item) (items : List Item) → before.end ≡ true → following n before items ≡ []
ended n before [] h = refl
ended zero before (item ∷ items) h = refl
ended (suc n) before (item ∷ items) h = ap (λ b. cond (not (b || (item.begin || item.run))) (item ∷ following n item items) []) h

only_end : (a b c : Bool) → not (a || (b || c)) ≡ false → b ≡ false → c ≡ false → a ≡ true
only_end true b c h p q = refl
only_end false true c h p q = cc
only_end false false true h p q = cc
only_end false false false h p q = cc

steps_on : (n : ℕ) (before item : Item) (items : List Item) → goes_on before item ≡ true → length (following (suc n) before (item ∷ items)) ≡ suc (length (following n item items))
steps_on n before item items h = ap (λ b. length (cond b (item ∷ following n item items) [])) h

steps_not : (n : ℕ) (before item : Item) (items : List Item) → goes_on before item ≡ false → length (following (suc n) before (item ∷ items)) ≡ 0
steps_not n before item items h = ap (λ b. length (cond b (item ∷ following n item items) [])) h

goes : (before item : Item) → before.end ≡ false → is_unmarked item ≡ true → goes_on before item ≡ true
goes before item p h = let off = all_off item.end item.begin item.run h in from_all_off before.end item.begin item.run p off.1 off.2

-- no mark stands among them: all go on
pub all_follow : (n : ℕ) (before : Item) (items : List Item) → before.end ≡ false → length (take n items) ≤ unmarked_count (take n items) → length (following n before items) ≡ length (take n items)
all_follow zero before [] p h = refl
all_follow (suc n) before [] p h = refl
all_follow zero before (item ∷ items) p h = refl
all_follow (suc n) before (item ∷ items) p h =
    elim (is_unmarked item) as (λ b. is_unmarked item ≡ b → suc (length (take n items)) ≤ cond b (suc (unmarked_count (take n items))) 0 → length (following (suc n) before (item ∷ items)) ≡ suc (length (take n items))) [
      | true ↦ λ e q. steps_on n before item items (goes before item p e) ∙ ap suc (all_follow n item items (all_off item.end item.begin item.run e).0 (omega arith))
      | false ↦ λ e q. absurd (omega arith)
    ] refl h

-- the item at the first mark goes on, as the last
pub one_more : (n : ℕ) (before : Item) (items : List Item) (x : Item) → before.end ≡ false → unmarked_count (take n items) < n → slice_get items (unmarked_count (take n items)) ≡ Some x → goes_on before x ≡ true → length (following n before items) ≡ unmarked_count (take n items) + 1
one_more zero before items x p lt h g = absurd (omega arith)
one_more (suc n) before [] x p lt h g = cc
one_more (suc n) before (item ∷ items) x p lt h g =
    elim (is_unmarked item) as (λ b. is_unmarked item ≡ b → cond b (suc (unmarked_count (take n items))) 0 < suc n → slice_get (item ∷ items) (cond b (suc (unmarked_count (take n items))) 0) ≡ Some x → length (following (suc n) before (item ∷ items)) ≡ cond b (suc (unmarked_count (take n items))) 0 + 1) [
      | true ↦ λ e q r.
          let off = all_off item.end item.begin item.run e in
          let same : goes_on item x ≡ goes_on before x = ap (λ b. not (b || (x.begin || x.run))) (off.0 ∙ sym p) in
          let more = one_more n item items x off.0 (omega arith) r (same ∙ g) in
          omega (arith, steps_on n before item items (goes before item p e), more)
      | false ↦ λ e q r.
          let is_x : item ≡ x = cc in
          let here : goes_on before item ≡ true = ap (goes_on before) is_x ∙ g in
          let off = all_off before.end item.begin item.run here in
          let last = only_end item.end item.begin item.run e off.1 off.2 in
          steps_on n before item items here ∙ ap (λ items. suc (length items)) (ended n item items last)
    ] refl lt h

-- or it doesn't
pub no_more : (n : ℕ) (before : Item) (items : List Item) (x : Item) → before.end ≡ false → unmarked_count (take n items) < n → slice_get items (unmarked_count (take n items)) ≡ Some x → goes_on before x ≡ false → length (following n before items) ≡ unmarked_count (take n items)
no_more zero before items x p lt h g = absurd (omega arith)
no_more (suc n) before [] x p lt h g = cc
no_more (suc n) before (item ∷ items) x p lt h g =
    elim (is_unmarked item) as (λ b. is_unmarked item ≡ b → cond b (suc (unmarked_count (take n items))) 0 < suc n → slice_get (item ∷ items) (cond b (suc (unmarked_count (take n items))) 0) ≡ Some x → length (following (suc n) before (item ∷ items)) ≡ cond b (suc (unmarked_count (take n items))) 0) [
      | true ↦ λ e q r.
          let off = all_off item.end item.begin item.run e in
          let same : goes_on item x ≡ goes_on before x = ap (λ b. not (b || (x.begin || x.run))) (off.0 ∙ sym p) in
          let more = no_more n item items x off.0 (omega arith) r (same ∙ g) in
          omega (arith, steps_on n before item items (goes before item p e), more)
      | false ↦ λ e q r.
          let is_x : item ≡ x = cc in
          steps_not n before item items (ap (goes_on before) is_x ∙ g)
    ] refl lt h
