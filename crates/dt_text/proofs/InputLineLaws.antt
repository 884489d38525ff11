-- The first line of an input.
use Rattle.std.proofs.Common.{◌≡◌, ℕ, zero, suc, ◌+◌, ◌-◌, ◌<◌, ◌==◌, Bool, true, false, List, [], ◌∷◌, ◌++◌, length, get_or, take, drop, refl, sym, ap, ◌∙◌, arith, length-drop, take_all, drop-cons, add-one}
use Rattle.std.proofs.lemmas.List.{take-append-drop}
use Rattle.std.proofs.lemmas.Bool.{eqb-true}
use Rattle.dt_text.specs.InputLines.{lines_of, in_front}

is_false : (b : Bool) → (b ≡ true → ⊥) → b ≡ false
is_false true h = absurd (h refl)
is_false false h = refl

-- up to the first line feed
pub up_to_feed : (input : List ℕ) (k : ℕ) → k < length input → ((j : ℕ) → j < k → (get_or input j 0 == 10) ≡ true → ⊥) → (get_or input k 0 == 10) ≡ true → lines_of input ≡ take k input ∷ lines_of (drop (suc k) input)
up_to_feed [] k lt none here = absurd (omega arith)
up_to_feed (b ∷ bs) zero lt none here = rw here refl
up_to_feed (b ∷ bs) (suc k) lt none here =
    let other : (b == 10) ≡ false = is_false (b == 10) (none 0 (omega arith)) in
    rw other (ap (in_front b) (up_to_feed bs k (omega arith) (λ j l. none (suc j) (omega arith)) here))

-- an input without a line feed is one line
pub no_feed : (input : List ℕ) → 0 < length input → ((j : ℕ) → j < length input → (get_or input j 0 == 10) ≡ true → ⊥) → lines_of input ≡ input ∷ []
no_feed [] some none = absurd (omega arith)
no_feed (b ∷ []) some none =
    let other : (b == 10) ≡ false = is_false (b == 10) (none 0 (omega arith)) in rw other refl
no_feed (b ∷ c ∷ bs) some none =
    let other : (b == 10) ≡ false = is_false (b == 10) (none 0 (omega arith)) in
    rw other (ap (in_front b) (no_feed (c ∷ bs) (omega arith) (λ j l. none (suc j) (omega arith))))

-- the rest of an input, as the code cuts it
rest_of : (input : List ℕ) (k : ℕ) → take (length input - k) (drop k input) ≡ drop k input
rest_of input k = take_all (length input - k) (drop k input) (omega (arith, length-drop k input))

pub first_line : (input : List ℕ) (k : ℕ) → lines_of input ≡ take k input ∷ lines_of (drop (suc k) input) → lines_of input ≡ take k input ∷ lines_of (take (length input - (k + 1)) (drop (k + 1) input))
first_line input k h = rw (add-one k, rest_of input (suc k)) h

-- the line, its line feed and the rest are the input
pub in_parts : (input : List ℕ) (k : ℕ) → k < length input → (get_or input k 0 == 10) ≡ true → input ≡ take k input ++ 10 ∷ take (length input - (k + 1)) (drop (k + 1) input)
in_parts input k lt here =
    sym (take-append-drop k input)
    ∙ ap (λ rest. take k input ++ rest) (drop-cons input k 0 lt ∙ ap (λ x. x ∷ drop (suc k) input) (eqb-true (get_or input k 0) 10 here))
    ∙ ap (λ rest. take k input ++ 10 ∷ rest) (sym (rw (add-one k) (rest_of input (suc k))))
