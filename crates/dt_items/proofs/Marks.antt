-- The item at a place of octets that come together.
use Rattle.std.proofs.Common.{◌≡◌, ℕ, zero, suc, ◌+◌, ◌-◌, ◌<◌, Bool, true, false, ◌&&◌, List, [], ◌∷◌, ◌++◌, length, get_or, take, drop, refl, ap, eqb, arith}
use Rattle.std.proofs.lemmas.Bool.Decides.{nat_tests}
use Rattle.dt_items.specs.declared.item.Item.{Item}
use Rattle.dt_items.specs.Unread.{marked, unmarked, unmarked_item}

-- what stands at a place past the end
abbrev pub blank : Item
blank = record { octet = 0; begin = false; end = false; run = false }

pub length-marked : (octets : List ℕ) (begin end run : Bool) → length (marked octets begin end run) ≡ length octets
length-marked [] begin end run = refl
length-marked (x ∷ []) begin end run = refl
length-marked (x ∷ y ∷ rest) begin end run = ap suc (length-marked (y ∷ rest) false end false)

and_yes : (b : Bool) → (b && true) ≡ b
and_yes true = refl
and_yes false = refl

and_no : (b : Bool) → (b && false) ≡ false
and_no true = refl
and_no false = refl

pub marked-at : (octets : List ℕ) (i : ℕ) (begin end run : Bool) (d : Item) → i < length octets → get_or (marked octets begin end run) i d ≡ record { octet = get_or octets i 0; begin = begin && eqb i 0; end = end && eqb (i + 1) (length octets); run = run && eqb i 0 }
marked-at [] i begin end run d h = absurd (omega arith)
marked-at (x ∷ []) zero begin end run d h =
    rw (and_yes begin, and_yes end, and_yes run) refl
marked-at (x ∷ []) (suc i) begin end run d h = absurd (omega arith)
marked-at (x ∷ y ∷ rest) zero begin end run d h =
    let more : eqb 1 (suc (suc (length rest))) ≡ false = grind (arith, nat_tests) in
    rw (and_yes begin, and_yes run, more, and_no end) refl
marked-at (x ∷ y ∷ rest) (suc i) begin end run d h =
    let later : eqb (suc i) 0 ≡ false = grind (arith, nat_tests) in
    let same : eqb (suc i + 1) (suc (suc (length rest))) ≡ eqb (i + 1) (suc (length rest)) = grind (arith, nat_tests) in
    rw (later, same, and_no begin, and_no run) (marked-at (y ∷ rest) i false end false d (omega arith))

but_last : (octet : ℕ) (rest : List ℕ) (end : Bool) → take (length rest) (marked (octet ∷ rest) false end false) ≡ unmarked (take (length rest) (octet ∷ rest))
but_last octet [] end = refl
but_last octet (next ∷ rest) end = ap (λ items. unmarked_item octet ∷ items) (but_last next rest end)

-- between the first octet and the last none has a mark
pub middle : (octets : List ℕ) (last : ℕ) (begin end run : Bool) → suc last ≡ length octets → 0 < last → take last (marked octets begin end run) ≡ take 1 (marked octets begin end run) ++ unmarked (take (last - 1) (drop 1 octets))
middle [] last begin end run h p = absurd (omega arith)
middle (x ∷ []) last begin end run h p = absurd (omega arith)
middle (x ∷ y ∷ rest) zero begin end run h p = absurd (omega arith)
middle (x ∷ y ∷ rest) (suc n) begin end run h p =
    let one : suc n - 1 ≡ n = omega arith in
    let all : n ≡ length rest = omega arith in
    rw (one, all) (ap (λ items. record { octet = x; begin = begin; end = false; run = run } ∷ items) (but_last y rest end))
