-- A line that is read spells its input, and a trace that is read its inputs.
use Rattle.std.proofs.Common.{◌≡◌, ℕ, suc, ◌+◌, ◌*◌, ◌%◌, ◌<◌, ◌≤◌, ◌^◌, Bool, true, false, cond, ◌==◌, ◌&&◌, List, [], ◌∷◌, length, Option, Some, None, Result, Ok, Err, refl, sym, ap, subst, ◌∙◌, arith, codes, inl, inr, nat_lt, if◌then◌else◌}
use Rattle.std.specs.Char.{digit_value, is_ascii_hexdigit}
use Rattle.std.specs.Fmt.{decimal}
use Rattle.std.specs.List.{AllByRecursion, list_all}
use Rattle.std.specs.Option.{ok_or}
use Rattle.std.specs.Str.{bytes_eq, str_to_ascii_lowercase}
use Rattle.std.proofs.lemmas.Bool.{cases_Bool, eqb-true}
use Rattle.std.proofs.lemmas.Bool.Decides.{nat_tests}
use Rattle.std.proofs.lemmas.List.Splits.{join_with_byte-slice_split}
use Rattle.dt_edges.specs.Wires.{Datagram}
use Rattle.dt_log.specs.Words.{Text, hex_text, spaced}
use Rattle.dt_reports.specs.declared.faults.LineFault.{LineFault}
use Rattle.dt_reports.specs.declared.faults.LineFault.TheVariants as faults
use Rattle.dt_text.specs.Hexadecimal.{are_pairs, is_hex, octets_of_hex}
use Rattle.dt_text.specs.InputLines.{lines_of}
use Rattle.dt_text.specs.Lines.{◌>>=◌}
use Rattle.dt_text.specs.Numerals.{numeral}
use Rattle.dt_text.specs.Splitting.{word, words}
use Rattle.dt_text.specs.WordKinds.{HexWord, IsHex}
use Rattle.dt_text.proofs.HexLaws.{hex_text-pairs}
use Rattle.dt_text.proofs.NumberLaws.{numeral-only}
use Rattle.dt_text.proofs.WordLaws.{chosen, is_text, value-only}
use Rattle.dt_trace.specs.Inputs.{Input, Reading, Taken, FailedTake, FailedGive, FailedOpen, input_words, octets_words}
use Rattle.dt_trace.specs.Lines.{alone_said, counted, datagram, empty_said, failure, failure_said, input_of, input_said, most_link, most_number, most_taken, number_read, octets_read, octets_said, reading_said, take_said}
use Rattle.dt_trace.specs.Spelling.{AllSpell, SpellInputs, Spells, in_lower_case}
use Rattle.dt_trace.specs.Standing.{Fits, HasFound, IsInput, Stand, noted_all}
use Rattle.dt_trace.specs.Traces.{Recorded, is_placed, note_then, noted, nothing, read_from, trace_of}
use Rattle.dt_trace.proofs.Folding.{read_end, read_next}

-- WORDS

ok_then : {A B : Type 0} (read : Result A LineFault) (next : A → Result B LineFault) (value : B) → (read >>= next) ≡ Ok value → (found : A) × (read ≡ Ok found) × (next found ≡ Ok value)
ok_then (Ok found) next value h = (found, refl, h)
ok_then (Err fault) next value h = absurd cc

counted_is : (count : ℕ) (line : List Text) (done : Unit {0}) → counted count line ≡ Ok done → length line ≡ count
counted_is count line done h =
    elim (chosen (length line == count) (Ok tt) (Err faults.Count) done h) [
      | inl p ↦ eqb-true (length line) count p.0
      | inr fault ↦ absurd cc
    ]

two_words : (line : List Text) → length line ≡ 2 → line ≡ word 0 line ∷ word 1 line ∷ []
two_words [] e = absurd (omega arith)
two_words (a ∷ []) e = absurd (omega arith)
two_words (a ∷ b ∷ []) e = refl
two_words (a ∷ b ∷ c ∷ more) e = absurd (omega arith)

three_words : (line : List Text) → length line ≡ 3 → line ≡ word 0 line ∷ word 1 line ∷ word 2 line ∷ []
three_words [] e = absurd (omega arith)
three_words (a ∷ []) e = absurd (omega arith)
three_words (a ∷ b ∷ []) e = absurd (omega arith)
three_words (a ∷ b ∷ c ∷ []) e = refl
three_words (a ∷ b ∷ c ∷ d ∷ more) e = absurd (omega arith)

number_found : (read : Option ℕ) (n : ℕ) → ok_or read faults.Number ≡ Ok n → read ≡ Some n
number_found None n h = absurd cc
number_found (Some m) n h = let same : m ≡ n = cc in ap (λ x. Some x) same

number_is : (most n : ℕ) (text : Text) → most < 2 ^ 64 → number_read most text ≡ Ok n → (text ≡ decimal n) × (n ≤ most)
number_is most n text small h = numeral-only most n text small (number_found (numeral most text) n h)

-- the words of a line, up to the case of digits, and that the input may be said
abbrev Says : List Text → Input → Type 0
Says line input = IsInput input × (in_lower_case line ≡ input_words input)

pair_says : (line : List Text) (input said : Input) (first second : Text) → length line ≡ 2 → bytes_eq (word 0 line) first ≡ true → word 1 line ≡ second → IsInput said → input_words said ≡ first ∷ second ∷ [] → ◌≡◌ {A = Result Input LineFault} (Ok said) (Ok input) → Says line input
pair_says line input said first second two begins ends fits spelled is =
    let same : said ≡ input = cc in
    subst (Says line) same (fits, ap in_lower_case (two_words line two) ∙ ap (λ (x : Text). x ∷ word 1 line ∷ []) (is_text (word 0 line) first begins) ∙ ap (λ (x : Text). first ∷ x ∷ []) ends ∙ sym spelled)

reading_only : (line : List Text) (input : Input) → bytes_eq (word 0 line) (codes "@") ≡ true → reading_said line ≡ Ok input → Says line input
reading_only line input begins h =
    let count = ok_then (counted 2 line) _ input h in
    let number = ok_then (number_read most_number (word 1 line)) _ input count.2 in
    let is = number_is most_number number.0 (word 1 line) (omega arith) number.1 in
    pair_says line input (Reading number.0) (codes "@") (decimal number.0) (counted_is 2 line count.0 count.1) begins is.0 is.1 refl number.2

failure_says : (line : List Text) (input : Input) (n : ℕ) → length line ≡ 2 → bytes_eq (word 0 line) (codes "!") ≡ true → word 1 line ≡ decimal n → n ≤ most_number → ◌≡◌ {A = Result Input LineFault} (Ok (failure n)) (Ok input) → Says line input
failure_says line input n two begins ends within is =
    elim (cases_Bool (n == 0)) [
      | inl y ↦
          let zero : n ≡ 0 = eqb-true n 0 y in
          let opens : failure n ≡ FailedOpen = rw y refl in
          pair_says line input FailedOpen (codes "!") (decimal 0) two begins (ends ∙ ap decimal zero) tt refl (ap (λ (i : Input). Ok i) (sym opens) ∙ is)
      | inr other ↦
          let some : 0 < n = grind (arith, nat_tests) in
          let gives : failure n ≡ FailedGive n = rw other refl in
          pair_says line input (FailedGive n) (codes "!") (decimal n) two begins ends (some, within) refl (ap (λ (i : Input). Ok i) (sym gives) ∙ is)
    ]

failure_only : (line : List Text) (input : Input) → bytes_eq (word 0 line) (codes "!") ≡ true → failure_said line ≡ Ok input → Says line input
failure_only line input begins h =
    let count = ok_then (counted 2 line) _ input h in
    let number = ok_then (number_read most_number (word 1 line)) _ input count.2 in
    let is = number_is most_number number.0 (word 1 line) (omega arith) number.1 in
    failure_says line input number.0 (counted_is 2 line count.0 count.1) begins is.0 is.1 number.2

alone_only : (line : List Text) (input said : Input) (text : Text) → bytes_eq (word 0 line) (codes "<") ≡ true → bytes_eq (word 1 line) text ≡ true → IsInput said → input_words said ≡ codes "<" ∷ text ∷ [] → alone_said said line ≡ Ok input → Says line input
alone_only line input said text begins ends fits spelled h =
    let count = ok_then (counted 2 line) _ input h in
    pair_says line input said (codes "<") text (counted_is 2 line count.0 count.1) begins (is_text (word 1 line) text ends) fits spelled count.2

empty_only : (line : List Text) (input : Input) → bytes_eq (word 0 line) (codes "<") ≡ true → length line ≡ 2 → empty_said line ≡ Ok input → Says line input
empty_only line input begins two h =
    let link = ok_then (number_read most_link (word 1 line)) _ input h in
    let is = number_is most_link link.0 (word 1 line) (omega arith) link.1 in
    pair_says line input (datagram link.0 []) (codes "<") (decimal link.0) two begins is.0 (record { link = is.1; few = omega arith; octets = tt }) refl link.2

-- HEXADECIMAL DIGITS

hex_is : (most : ℕ) (hex : Text) → is_hex most hex ≡ true → IsHex most hex
hex_is most hex h = (value-only (HexWord most) hex hex refl (ap (λ (b : Bool). cond b (Ok hex) (Err faults.Hex)) h)).1

both : (a b : Bool) → (a && b) ≡ true → (a ≡ true) × (b ≡ true)
both true b h = (refl, h)
both false b h = absurd cc

small_digit : (x : ℕ) → is_ascii_hexdigit x ≡ true → digit_value x < 16
small_digit x h = grind (arith, nat_tests)

small_octets : (hex : Text) → list_all is_ascii_hexdigit hex ≡ true → AllByRecursion (λ octet. octet < 256) (octets_of_hex hex)
small_octets [] h = tt
small_octets (a ∷ []) h = tt
small_octets (a ∷ b ∷ more) h =
    let first = both (is_ascii_hexdigit a) (list_all is_ascii_hexdigit (b ∷ more)) h in
    let second = both (is_ascii_hexdigit b) (list_all is_ascii_hexdigit more) first.1 in
    (omega (arith, small_digit a first.0, small_digit b second.0), small_octets more second.1)

few_octets : (hex : Text) → 2 * length (octets_of_hex hex) ≤ length hex
few_octets [] = omega arith
few_octets (a ∷ []) = omega arith
few_octets (a ∷ b ∷ more) = omega (arith, few_octets more)

some_words : (hex : Text) → 0 < length hex → (length hex % 2 == 0) ≡ true → octets_words (octets_of_hex hex) ≡ hex_text (octets_of_hex hex) ∷ []
some_words [] some even = absurd (omega arith)
some_words (a ∷ []) some even = absurd cc
some_words (a ∷ b ∷ more) some even = refl

octets_only : (line : List Text) (input : Input) → bytes_eq (word 0 line) (codes "<") ≡ true → octets_said line ≡ Ok input → Says line input
octets_only line input begins h =
    let count = ok_then (counted 3 line) _ input h in
    let link = ok_then (number_read most_link (word 1 line)) _ input count.2 in
    let octets = ok_then (octets_read (word 2 line)) _ input link.2 in
    let is = number_is most_link link.0 (word 1 line) (omega arith) link.1 in
    let hex = word 2 line in
    elim (chosen (is_hex most_taken hex) (Ok (octets_of_hex hex)) (Err faults.Hex) octets.0 octets.1) [
      | inl p ↦
          let read : octets_of_hex hex ≡ octets.0 = cc in
          let digits = hex_is most_taken hex p.0 in
          let pairs = both (length hex % 2 == 0) (list_all is_ascii_hexdigit hex) digits.pairs in
          let said : Input = datagram link.0 (octets_of_hex hex) in
          let same : said ≡ input = ap (datagram link.0) read ∙ (let e : datagram link.0 octets.0 ≡ input = cc in e) in
          let fits : Fits (record { link = link.0; octets = octets_of_hex hex }) = record { link = is.1; few = omega (arith, few_octets hex, digits.within); octets = small_octets hex pairs.1 } in
          let spelled : in_lower_case line ≡ input_words said =
          ap in_lower_case (three_words line (counted_is 3 line count.0 count.1))
          ∙ ap (λ (x : Text). x ∷ word 1 line ∷ str_to_ascii_lowercase hex ∷ []) (is_text (word 0 line) (codes "<") begins)
          ∙ ap (λ (x : Text). codes "<" ∷ x ∷ str_to_ascii_lowercase hex ∷ []) is.0
          ∙ ap (λ (x : Text). codes "<" ∷ decimal link.0 ∷ x ∷ []) (sym (hex_text-pairs hex digits.pairs))
          ∙ ap (λ (xs : List Text). codes "<" ∷ decimal link.0 ∷ xs) (sym (some_words hex digits.some pairs.0))
          in
          subst (Says line) same (fits, spelled)
      | inr fault ↦ absurd cc
    ]

take_only : (line : List Text) (input : Input) → bytes_eq (word 0 line) (codes "<") ≡ true → take_said line ≡ Ok input → Says line input
take_only line input begins h =
    elim (chosen (nat_lt (length line) 2) (Err faults.Count) _ input h) [
      | inl few ↦ absurd (let e = few.1 in cc)
      | inr h ↦ elim (chosen (bytes_eq (word 1 line) (codes "-")) _ _ input h) [
        | inl none ↦ alone_only line input (Taken None) (codes "-") begins none.0 tt refl none.1
        | inr h ↦ elim (chosen (bytes_eq (word 1 line) (codes "x")) _ _ input h) [
          | inl failed ↦ alone_only line input FailedTake (codes "x") begins failed.0 tt refl failed.1
          | inr h ↦ elim (chosen (length line == 2) _ _ input h) [
            | inl empty ↦ empty_only line input begins (eqb-true (length line) 2 empty.0) empty.1
            | inr h ↦ octets_only line input begins h
          ]
        ]
      ]
    ]

said_only : (line : List Text) (input : Input) → input_said line ≡ Ok input → Says line input
said_only line input h =
    elim (chosen (bytes_eq (word 0 line) (codes "@")) _ _ input h) [
      | inl p ↦ reading_only line input p.0 p.1
      | inr h ↦ elim (chosen (bytes_eq (word 0 line) (codes "<")) _ _ input h) [
        | inl p ↦ take_only line input p.0 p.1
        | inr h ↦ elim (chosen (bytes_eq (word 0 line) (codes "!")) _ _ input h) [
          | inl p ↦ failure_only line input p.0 p.1
          | inr fault ↦ absurd cc
        ]
      ]
    ]

-- A LINE
line_only : (octets : List ℕ) (input : Input) → input_of octets ≡ Ok input → IsInput input × Spells octets input
unfolding input_of
line_only octets input h =
    let said = said_only (words octets) input h in
    (said.0, record { words = words octets; whole = sym (join_with_byte-slice_split 32 octets); same = said.1 })

-- ALL LINES
placed_only : (line : ℕ) (before after : Recorded) (octets : List ℕ) (more : List (List ℕ)) (input : Input) (placed : Bool) → input_of octets ≡ Ok input → is_placed line before input ≡ placed → ((next : Recorded) → read_from (suc line) next more ≡ Ok after → SpellInputs (suc line) next more after)
    → (if placed then read_from (suc line) (noted before input) more else Err (line, faults.Order)) ≡ Ok after → SpellInputs line before (octets ∷ more) after
placed_only line before after octets more input true said stands rest h =
    let one = line_only octets input said in
    let k = rest (noted before input) h in
    record { inputs = input ∷ k.inputs; spelled = (one.1, k.spelled); stand = (one.0, stands, k.stand); noted = k.noted }
placed_only line before after octets more input false said stands rest h = absurd cc

noted_only : (line : ℕ) (before after : Recorded) (octets : List ℕ) (more : List (List ℕ)) (read : Result Input LineFault) → input_of octets ≡ read → ((next : Recorded) → read_from (suc line) next more ≡ Ok after → SpellInputs (suc line) next more after)
    → note_then line before read (λ next. read_from (suc line) next more) ≡ Ok after → SpellInputs line before (octets ∷ more) after
noted_only line before after octets more (Err fault) said rest h = absurd cc
noted_only line before after octets more (Ok input) said rest h = placed_only line before after octets more input (is_placed line before input) said refl rest h

lines_only : (line : ℕ) (before after : Recorded) (lines : List (List ℕ)) → read_from line before lines ≡ Ok after → SpellInputs line before lines after
lines_only line before after [] h =
    let e = sym (read_end line before) ∙ h in
    let same : before ≡ after = cc in
    record { inputs = []; spelled = tt; stand = tt; noted = same }
lines_only line before after (octets ∷ more) h =
    noted_only line before after octets more (input_of octets) refl (λ next k. lines_only (suc line) next after more k) (sym (read_next line before octets more) ∙ h)

pub trace_only : (octets : List ℕ) (t : Recorded) → trace_of octets ≡ Ok t → SpellInputs 1 nothing (lines_of octets) t
trace_only octets t h = lines_only 1 nothing t (lines_of octets) h
