-- What a read takes is the longest prefix of at most n items that is one piece.
use Rattle.std.proofs.Common.{◌≡◌, ℕ, zero, suc, ◌+◌, ◌<◌, ◌≤◌, Bool, true, false, not, ◌||◌, cond, List, [], ◌∷◌, length, get_or, take, refl, sym, ap, arith}
use Rattle.dt_items.specs.declared.item.Item.{Item}
use Rattle.dt_items.specs.Unread.{goes_on, following, first_piece, IsOnePiece, IsLongestPiece}
use Rattle.dt_items.proofs.Pieces.{first_piece-prefix, first_piece-fits}

-- each item goes on the piece of the item before it
abbrev Goes : Item → List Item → Type 0
Goes before [] = Unit {0}
Goes before (item ∷ items) = (goes_on before item ≡ true) × Goes item items

pub all_off : (a b c : Bool) → not (a || (b || c)) ≡ true → (a ≡ false) × (b ≡ false) × (c ≡ false)
all_off true b c h = cc
all_off false true c h = cc
all_off false false true h = cc
all_off false false false h = (refl, refl, refl)

pub from_all_off : (a b c : Bool) → a ≡ false → b ≡ false → c ≡ false → not (a || (b || c)) ≡ true
from_all_off true b c p q r = cc
from_all_off false true c p q r = cc
from_all_off false false true p q r = cc
from_all_off false false false p q r = refl

following_goes : (n : ℕ) (before : Item) (items : List Item) → Goes before (following n before items)
following_goes n before [] = tt
following_goes zero before (item ∷ items) = tt
following_goes (suc n) before (item ∷ items) =
    elim (goes_on before item) as (λ b. goes_on before item ≡ b → Goes before (cond b (item ∷ following n item items) [])) [
      | true ↦ λ e. (e, following_goes n item items)
      | false ↦ λ e. tt
    ] refl

no_longer : (n k : ℕ) (before : Item) (items : List Item) → k ≤ n → Goes before (take k items) → length (take k items) ≤ length (following n before items)
no_longer n zero before items p h = omega arith
no_longer n (suc k) before [] p h = omega arith
no_longer zero (suc k) before (item ∷ items) p h = absurd (omega arith)
no_longer (suc n) (suc k) before (item ∷ items) p h =
    let e = ap (λ b. length (cond b (item ∷ following n item items) [])) h.0 in
    omega (arith, no_longer n k item items (omega arith) h.1)

ends : (first : Item) (items : List Item) → Goes first items → (i : ℕ) (d : Item) → i + 1 < length (first ∷ items) → (get_or (first ∷ items) i d).end ≡ false
ends first [] h i d p = absurd (omega arith)
ends first (item ∷ items) h zero d p = (all_off first.end item.begin item.run h.0).0
ends first (item ∷ items) h (suc i) d p = ends item items h.1 i d (omega arith)

begins : (first : Item) (items : List Item) → Goes first items → (i : ℕ) (d : Item) → i < length items → (get_or items i d).begin ≡ false
begins first [] h i d p = absurd (omega arith)
begins first (item ∷ items) h zero d p = (all_off first.end item.begin item.run h.0).1
begins first (item ∷ items) h (suc i) d p = begins item items h.1 i d (omega arith)

runs : (first : Item) (items : List Item) → Goes first items → (i : ℕ) (d : Item) → i < length items → (get_or items i d).run ≡ false
runs first [] h i d p = absurd (omega arith)
runs first (item ∷ items) h zero d p = (all_off first.end item.begin item.run h.0).2
runs first (item ∷ items) h (suc i) d p = runs item items h.1 i d (omega arith)

-- a fact of every item after the first
behind : (P : Item → Type 0) (first : Item) (items : List Item) → ((i : ℕ) (d : Item) → i < length items → P (get_or items i d)) → (i : ℕ) (d : Item) → 0 < i → i < length (first ∷ items) → P (get_or (first ∷ items) i d)
behind P first items h zero d p q = absurd (omega arith)
behind P first items h (suc i) d p q = h i d (omega arith)

one_piece : (first : Item) (items : List Item) → Goes first items → IsOnePiece (first ∷ items)
one_piece first items h = record {
  end_last = ends first items h;
  begin_first = behind (λ item. item.begin ≡ false) first items (begins first items h);
  run_first = behind (λ item. item.run ≡ false) first items (runs first items h);
}

goes_from_one : (first : Item) (items : List Item) → IsOnePiece (first ∷ items) → Goes first items
goes_from_one first [] one = tt
goes_from_one first (item ∷ items) one =
    let rest : IsOnePiece (item ∷ items) = record {
      end_last = λ i d p. one.end_last (suc i) d (omega arith);
      begin_first = λ i d p q. one.begin_first (suc i) d (omega arith) (omega arith);
      run_first = λ i d p q. one.run_first (suc i) d (omega arith) (omega arith);
    } in (
      from_all_off first.end item.begin item.run (one.end_last 0 first (omega arith)) (one.begin_first 1 first (omega arith) (omega arith)) (one.run_first 1 first (omega arith) (omega arith)),
      goes_from_one item items rest,
    )

none_one : IsOnePiece []
none_one = record {
  end_last = λ i d p. absurd (omega arith);
  begin_first = λ i d p q. absurd (omega arith);
  run_first = λ i d p q. absurd (omega arith);
}

first_piece-one : (n : ℕ) (items : List Item) → IsOnePiece (first_piece n items)
first_piece-one n [] = none_one
first_piece-one zero (item ∷ items) = none_one
first_piece-one (suc n) (item ∷ items) = one_piece item _ (following_goes n item items)

first_piece-longest : (n : ℕ) (items : List Item) (k : ℕ) → k ≤ n → IsOnePiece (take k items) → length (take k items) ≤ length (first_piece n items)
first_piece-longest n items zero p one = omega arith
first_piece-longest n [] (suc k) p one = omega arith
first_piece-longest zero (item ∷ items) (suc k) p one = absurd (omega arith)
first_piece-longest (suc n) (item ∷ items) (suc k) p one =
    omega (arith, no_longer n k item items (omega arith) (goes_from_one item (take k items) one))

pub first_piece-is_longest : (n : ℕ) (items : List Item) → IsLongestPiece n items (first_piece n items)
first_piece-is_longest n items = record {
  prefix = sym (first_piece-prefix n items);
  fits = first_piece-fits n items;
  one = first_piece-one n items;
  longest = first_piece-longest n items;
}
