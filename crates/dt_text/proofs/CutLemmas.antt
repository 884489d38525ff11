-- A text cut at the first of some octets, head by head; and the words of a line by cuts.
use Rattle.std.proofs.Common.{◌≡◌, ℕ, suc, ◌+◌, ◌<◌, ◌≤◌, true, false, cond, not, eqb, ltb, ◌==◌, List, [], ◌∷◌, Option, Some, None, option_map, length, take, drop, refl, sym, ap, ◌∙◌, arith, inl, inr}
use Rattle.std.proofs.Math.Numerals.{one-add, add-one}
use Rattle.std.proofs.lemmas.Bool.{lt-ltb, le-ltb}
use Rattle.std.specs.List.{position_or_len, onto_first}
use Rattle.std.proofs.lemmas.Bool.{cases_Bool, cases_lt}
use Rattle.std.proofs.lemmas.List.Splits.{slice_split-cons_yes, slice_split-cons_no}
use Rattle.dt_text.specs.Splitting.{words, cut}

-- a place that is in a list, and one that isn't
placed : ℕ → ℕ → Option ℕ
placed n len = cond (ltb n len) (Some n) None

placed-in : (n len : ℕ) → n < len → placed n len ≡ Some n
unfolding placed
placed-in n len h = ap (λ b. cond b (Some n) None) (lt-ltb n len h)

placed-past : (n len : ℕ) → len ≤ n → placed n len ≡ None
unfolding placed
placed-past n len h = ap (λ b. cond b (Some n) None) (le-ltb n len h)

placed-later : (n len : ℕ) → placed (1 + n) (suc len) ≡ option_map (λ k. 1 + k) (placed n len)
placed-later n len =
    elim (cases_lt n len) [
      | inl inside ↦ placed-in _ _ (omega arith) ∙ sym (ap (option_map (λ k. 1 + k)) (placed-in n len inside))
      | inr past ↦ placed-past _ _ (omega arith) ∙ sym (ap (option_map (λ k. 1 + k)) (placed-past n len past))
    ]

-- the parts at a place
parts : List ℕ → ℕ → List ℕ × List ℕ
parts text place = (take place text, drop (place + 1) text)

-- the parts with one octet more at the front
abbrev pub onto_front : ℕ → Option (List ℕ × List ℕ) → Option (List ℕ × List ℕ)
onto_front x cut = option_map (λ p. (x ∷ p.0, p.1)) cut

cut-is : (octet : ℕ) (text : List ℕ) → cut octet text ≡ option_map (parts text) (placed (position_or_len (λ x. x == octet) text) (length text))
unfolding parts placed
cut-is octet text = refl

pub cut-cons_yes : (octet x : ℕ) (text : List ℕ) → eqb x octet ≡ true → cut octet (x ∷ text) ≡ Some ([], text)
unfolding parts
cut-cons_yes octet x text h =
    let zero : position_or_len (λ y. y == octet) (x ∷ text) ≡ 0 = ap (λ b. cond (not b) (1 + position_or_len (λ y. y == octet) text) 0) h in
    cut-is octet (x ∷ text) ∙ ap (λ n. option_map (parts (x ∷ text)) (placed n (suc (length text)))) zero ∙ ap (option_map (parts (x ∷ text))) (placed-in 0 (suc (length text)) (omega arith))

parts-later : (x : ℕ) (text : List ℕ) (found : Option ℕ) → option_map (parts (x ∷ text)) (option_map (λ k. 1 + k) found) ≡ onto_front x (option_map (parts text) found)
unfolding parts
parts-later x text None = refl
parts-later x text (Some n) = rw (one-add, add-one, add-one) refl

pub cut-cons_no : (octet x : ℕ) (text : List ℕ) → eqb x octet ≡ false → cut octet (x ∷ text) ≡ onto_front x (cut octet text)
cut-cons_no octet x text h =
    let later : position_or_len (λ y. y == octet) (x ∷ text) ≡ 1 + position_or_len (λ y. y == octet) text = ap (λ b. cond (not b) (1 + position_or_len (λ y. y == octet) text) 0) h in
    cut-is octet (x ∷ text)
    ∙ ap (λ n. option_map (parts (x ∷ text)) (placed n (suc (length text)))) later
    ∙ ap (option_map (parts (x ∷ text))) (placed-later (position_or_len (λ y. y == octet) text) (length text))
    ∙ parts-later x text (placed (position_or_len (λ y. y == octet) text) (length text))
    ∙ ap (onto_front x) (sym (cut-is octet text))

onto_front-none : (x : ℕ) (cut : Option (List ℕ × List ℕ)) → onto_front x cut ≡ None → cut ≡ None
onto_front-none x None h = refl
onto_front-none x (Some p) h = cc

pub onto_front-some : (x : ℕ) (cut : Option (List ℕ × List ℕ)) (first more : List ℕ) → onto_front x cut ≡ Some (first, more)
    → (before : List ℕ) × (cut ≡ Some (before, more)) × (first ≡ x ∷ before)
onto_front-some x None first more h = cc
onto_front-some x (Some p) first more h =
    let pairs : ◌≡◌ {A = List ℕ × List ℕ} (x ∷ p.0, p.1) (first, more) = cc in
    (p.0, ap (λ rest. Some (p.0, rest)) (ap (λ q. q.1) pairs), sym (ap (λ q. q.0) pairs))

-- without a space the line is one word
pub words-cut_none : (text : List ℕ) → cut 32 text ≡ None → words text ≡ text ∷ []
words-cut_none [] h = refl
words-cut_none (x ∷ text) h =
    elim (cases_Bool (eqb x 32)) [
      | inl is ↦ let some = sym h ∙ cut-cons_yes 32 x text is in cc
      | inr other ↦ slice_split-cons_no (λ y. y == 32) x text other ∙ ap (onto_first x) (words-cut_none text (onto_front-none x _ (sym (cut-cons_no 32 x text other) ∙ h)))
    ]

-- the first word stands before the first space
pub words-cut_some : (text first more : List ℕ) → cut 32 text ≡ Some (first, more) → words text ≡ first ∷ words more
words-cut_some [] first more h = cc
words-cut_some (x ∷ text) first more h =
    elim (cases_Bool (eqb x 32)) [
      | inl is ↦
          let pairs : ◌≡◌ {A = Option (List ℕ × List ℕ)} (Some ([], text)) (Some (first, more)) = sym (cut-cons_yes 32 x text is) ∙ h in
          let same : ◌≡◌ {A = List ℕ × List ℕ} ([], text) (first, more) = cc in
          slice_split-cons_yes (λ y. y == 32) x text is ∙ ap (λ q. q.0 ∷ words q.1) same
      | inr other ↦
          let found = onto_front-some x (cut 32 text) first more (sym (cut-cons_no 32 x text other) ∙ h) in
          slice_split-cons_no (λ y. y == 32) x text other ∙ ap (onto_first x) (words-cut_some text found.0 more found.1) ∙ ap (λ word. word ∷ words more) (sym found.2)
    ]

words-some_by : (text : List ℕ) (found : Option (List ℕ × List ℕ)) → cut 32 text ≡ found → 0 < length (words text)
words-some_by text None h = omega (arith, ap length (words-cut_none text h))
words-some_by text (Some parts) h = omega (arith, ap length (words-cut_some text parts.0 parts.1 h))

-- a line has a word at least
pub words-some : (text : List ℕ) → 0 < length (words text)
words-some text = words-some_by text (cut 32 text) refl
