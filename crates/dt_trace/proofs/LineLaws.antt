-- A line that is written is read.
use Rattle.std.proofs.Common.{◌≡◌, ℕ, suc, ◌<◌, ◌≤◌, ◌^◌, Bool, true, false, cond, eqb, ◌==◌, List, [], ◌∷◌, ◌++◌, length, Option, Some, None, Result, Ok, Err, refl, sym, ap, ◌∙◌, arith, codes, inl, inr}
use Rattle.std.specs.Fmt.{decimal, digit_glyph}
use Rattle.std.specs.List.{AllByRecursion}
use Rattle.std.specs.Option.{ok_or}
use Rattle.std.specs.Str.{bytes_eq}
use Rattle.std.proofs.lemmas.Bool.Decides.{nat_tests}
use Rattle.std.proofs.lemmas.Fmt.{decimal_is_IsNumeral}
use Rattle.dt_edges.specs.Wires.{Datagram}
use Rattle.dt_log.specs.Words.{Text, hex_text, spaced, row_text}
use Rattle.dt_reports.specs.declared.faults.LineFault.{LineFault}
use Rattle.dt_reports.specs.declared.faults.LineFault.TheVariants as faults
use Rattle.dt_text.specs.Hexadecimal.{octets_of_hex}
use Rattle.dt_text.specs.Splitting.{cut, words, word}
use Rattle.dt_text.specs.Lines.{◌>>=◌}
use Rattle.dt_text.proofs.CutLemmas.{words-cut_none, words-cut_some, cut-cons_no, onto_front}
use Rattle.dt_text.proofs.CutLaws.{IsFree, IsFree-append, IsFree-cons, IsFree-decimal, cut-at}
use Rattle.dt_text.proofs.NumberLaws.{numeral-decimal}
use Rattle.dt_text.proofs.HexLaws.{octets_of_hex-hex_text, is_hex-hex_text}
use Rattle.dt_trace.specs.Inputs.{Input, Reading, Taken, FailedTake, FailedGive, FailedOpen, input_words, octets_words, found_words}
use Rattle.dt_trace.specs.Lines.{datagram, failure, input_of, input_said, most_link, most_number, most_taken, number_read, octets_read, reading_said, failure_said, take_said, empty_said, octets_said}
use Rattle.dt_trace.specs.Standing.{Fits, HasFound, IsInput}

-- WORDS WITHOUT SPACES AND LINE FEEDS

-- each word is free of the octet
abbrev pub AreFree : ℕ → List Text → Type 0
AreFree octet [] = Unit {0}
AreFree octet (word ∷ more) = IsFree octet word × AreFree octet more

glyph_other : (octet digit : ℕ) → octet < 33 → eqb (digit_glyph false digit) octet ≡ false
glyph_other octet digit h = grind (arith, nat_tests)

hex_free : (octet : ℕ) (octets : List ℕ) → octet < 33 → IsFree octet (hex_text octets)
unfolding IsFree
hex_free octet [] h = tt
hex_free octet (x ∷ octets) h = (glyph_other octet _ h, (glyph_other octet _ h, hex_free octet octets h))

number_free : (octet n : ℕ) → octet < 33 → n ≤ most_number → IsFree octet (decimal n)
number_free octet n h small = IsFree-decimal octet n (inl (omega (arith, h))) (omega (arith, small))

-- a letter
letter_free : (octet x : ℕ) → octet < 33 → 32 < x → IsFree octet (x ∷ [])
unfolding IsFree
letter_free octet x h big = (grind (arith, nat_tests), tt)

octets_free : (octet : ℕ) (octets : List ℕ) → octet < 33 → AreFree octet (octets_words octets)
octets_free octet [] h = tt
octets_free octet (x ∷ octets) h = (hex_free octet (x ∷ octets) h, tt)

found_free : (octet : ℕ) (found : Option Datagram) → octet < 33 → HasFound found → AreFree octet (found_words found)
found_free octet None h is = (letter_free octet 45 h (omega arith), tt)
found_free octet (Some d) h is = (number_free octet d.link h (omega (arith, is.link)), octets_free octet d.octets h)

pub input_free : (octet : ℕ) (input : Input) → octet < 33 → IsInput input → AreFree octet (input_words input)
input_free octet (Reading reading) h is = (letter_free octet 64 h (omega arith), (number_free octet reading h is, tt))
input_free octet (Taken found) h is = (letter_free octet 60 h (omega arith), found_free octet found h is)
input_free octet FailedTake h is = (letter_free octet 60 h (omega arith), (letter_free octet 120 h (omega arith), tt))
input_free octet (FailedGive number) h is = (letter_free octet 33 h (omega arith), (number_free octet number h is.1, tt))
input_free octet FailedOpen h is = (letter_free octet 33 h (omega arith), (number_free octet 0 h (omega arith), tt))

-- CUTTING

cut_free : (text : List ℕ) → IsFree 32 text → cut 32 text ≡ None
unfolding IsFree
cut_free [] h = refl
cut_free (x ∷ text) h = cut-cons_no 32 x text h.0 ∙ ap (onto_front x) (cut_free text h.1)

-- words with a space between two of them are cut into these words
words_joined : (first : Text) (more : List Text) → AreFree 32 (first ∷ more) → words (spaced (first ∷ more)) ≡ first ∷ more
words_joined first [] h = words-cut_none first (cut_free first h.0)
words_joined first (next ∷ more) h =
    words-cut_some (spaced (first ∷ next ∷ more)) first (spaced (next ∷ more)) (cut-at 32 first (spaced (next ∷ more)) h.0)
    ∙ ap (λ rest. first ∷ rest) (words_joined next more h.1)

-- they have no line feed
pub spaced_free : (first : Text) (more : List Text) → AreFree 10 (first ∷ more) → IsFree 10 (spaced (first ∷ more))
spaced_free first [] h = h.0
spaced_free first (next ∷ more) h = IsFree-append 10 first (32 ∷ spaced (next ∷ more)) h.0 (IsFree-cons 10 32 (spaced (next ∷ more)) refl (spaced_free next more h.1))

-- READING

then : {A B : Type 0} (read : Result A LineFault) (value : A) (next : A → Result B LineFault) (line : Result B LineFault) → read ≡ Ok value → next value ≡ line → (read >>= next) ≡ line
then read value next line h rest = ap (λ r. r >>= next) h ∙ rest

number_again : (most n : ℕ) → most < 2 ^ 64 → n ≤ most → number_read most (decimal n) ≡ Ok n
number_again most n small within = ap (λ (o : Option ℕ). ok_or o faults.Number) (numeral-decimal most n small within)

reading_again : (first : Text) (n : ℕ) → n ≤ most_number → reading_said (first ∷ decimal n ∷ []) ≡ Ok (Reading n)
reading_again first n within = then (number_read most_number (decimal n)) n _ _ (number_again most_number n (omega arith) within) refl

failure_again : (n : ℕ) → n ≤ most_number → failure_said (codes "!" ∷ decimal n ∷ []) ≡ Ok (failure n)
failure_again n within = then (number_read most_number (decimal n)) n _ _ (number_again most_number n (omega arith) within) refl

decimal_some : (n : ℕ) → n < 2 ^ 64 → 0 < length (decimal n)
decimal_some n small = omega (arith, (decimal_is_IsNumeral n small).0.0)

octets_again : (octet : ℕ) (octets : List ℕ) → length (octet ∷ octets) ≤ most_taken → AllByRecursion (λ x. x < 256) (octet ∷ octets) → octets_read (hex_text (octet ∷ octets)) ≡ Ok (octet ∷ octets)
octets_again octet octets few all =
    ap (λ b. cond b (Ok (octets_of_hex (hex_text (octet ∷ octets)))) (Err faults.Hex)) (is_hex-hex_text most_taken (octet ∷ octets) all (omega arith) few)
    ∙ ap Ok (octets_of_hex-hex_text (octet ∷ octets) all)

-- a number is neither `-` nor `x`
not_mark : (n : ℕ) (text : Text) → IsFree 45 text → IsFree 120 text → 0 < length text → (bytes_eq text (codes "-") ≡ false) × (bytes_eq text (codes "x") ≡ false)
unfolding IsFree
not_mark n [] h k some = absurd (omega arith)
not_mark n (x ∷ text) h k some = (rw h.0 refl, rw k.0 refl)

datagram_again : (link : ℕ) (octets : List ℕ) → Fits (record { link = link; octets = octets }) → take_said (codes "<" ∷ decimal link ∷ octets_words octets) ≡ Ok (datagram link octets)
datagram_again link [] h =
    let marks = not_mark link (decimal link) (IsFree-decimal 45 link (inl (omega arith)) (omega (arith, h.link))) (IsFree-decimal 120 link (inr (omega arith)) (omega (arith, h.link))) (decimal_some link (omega (arith, h.link))) in
    rw (marks.0, marks.1) (then (number_read most_link (decimal link)) link (λ l. Ok (datagram l [])) _ (number_again most_link link (omega arith) h.link) refl)
datagram_again link (octet ∷ octets) h =
    let marks = not_mark link (decimal link) (IsFree-decimal 45 link (inl (omega arith)) (omega (arith, h.link))) (IsFree-decimal 120 link (inr (omega arith)) (omega (arith, h.link))) (decimal_some link (omega (arith, h.link))) in
    rw (marks.0, marks.1) (then (number_read most_link (decimal link)) link _ _ (number_again most_link link (omega arith) h.link)
    (then (octets_read (hex_text (octet ∷ octets))) (octet ∷ octets) (λ o. Ok (datagram link o)) _ (octets_again octet octets h.few h.octets) refl))

found_again : (found : Option Datagram) → HasFound found → take_said (codes "<" ∷ found_words found) ≡ Ok (Taken found)
found_again None h = refl
found_again (Some d) h = datagram_again d.link d.octets h

-- from one on no number stands for `open`
give_again : (n : ℕ) → 0 < n → failure n ≡ FailedGive n
give_again n some = let other : (n == 0) ≡ false = grind (arith, nat_tests) in rw other refl

said_again : (input : Input) → IsInput input → input_said (input_words input) ≡ Ok input
said_again (Reading reading) h = reading_again (codes "@") reading h
said_again (Taken found) h = found_again found h
said_again FailedTake h = refl
said_again (FailedGive number) h = failure_again number h.1 ∙ ap Ok (give_again number h.0)
said_again FailedOpen h = failure_again 0 (omega arith)

-- words that are joined are cut again
input_cut : (input : Input) → IsInput input → input_said (words (spaced (input_words input))) ≡ input_said (input_words input)
input_cut (Reading reading) h = ap input_said (words_joined (codes "@") (decimal reading ∷ []) (input_free 32 (Reading reading) (omega arith) h))
input_cut (Taken found) h = ap input_said (words_joined (codes "<") (found_words found) (input_free 32 (Taken found) (omega arith) h))
input_cut FailedTake h = refl
input_cut (FailedGive number) h = ap input_said (words_joined (codes "!") (decimal number ∷ []) (input_free 32 (FailedGive number) (omega arith) h))
input_cut FailedOpen h = ap input_said (words_joined (codes "!") (decimal 0 ∷ []) (input_free 32 FailedOpen (omega arith) tt))

pub input_again : (input : Input) → IsInput input → input_of (spaced (input_words input)) ≡ Ok input
unfolding input_of
input_again input h = input_cut input h ∙ said_again input h
