-- The text of a log without its `unsent` lines is the text of the other lines.
use Rattle.std.proofs.Common.{◌≡◌, ◌==◌, ◌/◌, ◌%◌, ◌<◌, if◌then◌else◌, ℕ, zero, suc, Bool, true, false, not, List, [], ◌∷◌, ◌++◌, filter, map, Option, Some, refl, sym, ap, subst, ◌∙◌, arith}
use Rattle.std.specs.Prelude.{codes}
use Rattle.std.specs.Fmt.{decimal, digit_glyph, digits, digits_onto}
use Rattle.std.specs.List.{join_with_byte}
use Rattle.std.specs.Str.{bytes_eq}
use Rattle.std.proofs.lemmas.Bool.Decides.{nat_tests}
use Rattle.std.proofs.lemmas.List.Splits.{join_with_byte-slice_split}
use Rattle.dt_reports.specs.Entries.{Entry}
use Rattle.dt_reports.specs.Told.{Told}
use Rattle.dt_reports.specs.declared.faults.Fault.{Fault}
use Rattle.dt_reports.specs.declared.faults.Fault.TheVariants as faults
use Rattle.dt_reports.specs.declared.faults.LineFault.{LineFault}
use Rattle.dt_reports.specs.declared.faults.LineFault.TheVariants as line_faults
use Rattle.dt_reports.specs.declared.faults.Refusal.TheVariants as refusals
use Rattle.dt_reports.specs.declared.faults.SetupFault.TheVariants as setup_faults
use Rattle.dt_reports.specs.declared.faults.StepFault.TheVariants as step_faults
use Rattle.dt_reports.specs.declared.reports.Report.TheVariants as reports
use Rattle.dt_log.specs.LogLines.{line_words}
use Rattle.dt_log.specs.Logs.{entry_words, log_text}
use Rattle.dt_log.specs.Words.{Text, spaced}
use Rattle.dt_log.proofs.WordLaws.{lines_again, words_again}
use Rattle.dt_node.specs.Acts.{Deed, Gives, Says, entry, lines_of_deed, log_lines}
use Rattle.dt_node.specs.InOrder.{is_third, is_unsent, is_unsent_line, without_unsent, without_unsent_lines}

-- A number isn't `unsent`: its digits are below the letters
abbrev IsLow : Text → Type 0
IsLow [] = Unit {0}
IsLow (octet ∷ text) = (octet < 58) × IsLow text

either : (b : Bool) (x y : Text) → IsLow x → IsLow y → IsLow (if b then x else y)
either true x y h k = h
either false x y h k = k

glyph : (n : ℕ) → digit_glyph false (n % 10) < 58
glyph n = let small : n % 10 < 10 = omega arith in grind (arith, nat_tests)

low_digits : (k n : ℕ) (text : Text) → IsLow text → IsLow (digits_onto k 10 false n text)
low_digits zero n text h = h
low_digits (suc k) n text h =
    either (n / 10 == 0) (digit_glyph false (n % 10) ∷ text) (digits_onto k 10 false (n / 10) (digit_glyph false (n % 10) ∷ text)) (glyph n, h) (low_digits k (n / 10) (digit_glyph false (n % 10) ∷ text) (glyph n, h))

low_number : (n : ℕ) → IsLow (decimal n)
unfolding digits
low_number n = low_digits 64 n [] tt

other_octet : (octet : ℕ) → octet < 58 → (octet == 117) ≡ false
other_octet octet h = grind (arith, nat_tests)

not_unsent : (text : Text) → IsLow text → bytes_eq text (codes "unsent") ≡ false
not_unsent [] h = refl
not_unsent (octet ∷ text) h = rw (other_octet octet h.0) refl

line_third : (fault : LineFault) (moment : ℕ) (me line : ℕ) → is_third (line_words moment (Some me) (reports.Fault line (faults.Line fault))) ≡ false
line_third line_faults.Word moment me line = refl
line_third line_faults.Count moment me line = refl
line_third line_faults.Number moment me line = refl
line_third line_faults.Flow moment me line = refl
line_third line_faults.Hex moment me line = refl
line_third line_faults.Order moment me line = refl

fault_third : (fault : Fault) (moment : ℕ) (me line : ℕ) → is_third (line_words moment (Some me) (reports.Fault line fault)) ≡ false
fault_third (faults.Line fault) moment me line = line_third fault moment me line
fault_third (faults.Param fault) moment me line = refl
fault_third (faults.Setup (setup_faults.Twice n)) moment me line = refl
fault_third (faults.Setup (setup_faults.Unknown n)) moment me line = refl
fault_third (faults.Setup (setup_faults.Stray n)) moment me line = refl
fault_third (faults.Setup setup_faults.NoMemory) moment me line = refl
fault_third (faults.Step step_faults.BadFlow) moment me line = refl
fault_third (faults.Step (step_faults.NoStation n)) moment me line = refl
fault_third (faults.Step (step_faults.NoCopy n)) moment me line = refl
fault_third (faults.Step (step_faults.Lost n)) moment me line = refl
fault_third (faults.Step (step_faults.TooLate held charge)) moment me line = refl
fault_third (faults.Step step_faults.NoMemory) moment me line = refl

-- the third word of a node's line is `unsent` exactly where that is told
third_is : (moment me : ℕ) (told : Told) → is_third (line_words moment (Some me) told) ≡ is_unsent told
third_is moment me (reports.Refused flow (refusals.Quiet until)) = refl
third_is moment me (reports.Refused flow (refusals.Full free)) = refl
third_is moment me (reports.Lost copy) = not_unsent (decimal copy) (low_number copy)
third_is moment me (reports.Fault line fault) = fault_third fault moment me line
third_is moment me other = search refl

line_is : (moment me : ℕ) (told : Told) → is_unsent_line (spaced (entry_words (entry me moment told))) ≡ is_unsent told
line_is moment me told = ap is_third (words_again (entry me moment told)) ∙ third_is moment me told

-- all lines are this node's
abbrev IsOf : ℕ → List Entry → Type 0
IsOf me [] = Unit {0}
IsOf me (e ∷ es) = (e.node ≡ Some me) × IsOf me es

abbrev line_of : Entry → List ℕ
line_of e = spaced (entry_words e)

abbrev stays : List ℕ → Bool
stays line = not (is_unsent_line line)

keep_one : (me : ℕ) (e : Entry) → e.node ≡ Some me → is_unsent_line (line_of e) ≡ is_unsent e.told
keep_one me e h = subst (λ (n : Option ℕ). is_unsent_line (line_of (record { moment = e.moment; node = n; told = e.told })) ≡ is_unsent e.told) (sym h) (line_is e.moment me e.told)

keep_if : (e : Entry) (es : List Entry) (b : Bool) → is_unsent_line (line_of e) ≡ b → is_unsent e.told ≡ b → filter stays (map line_of es ++ [] ∷ []) ≡ map line_of (without_unsent es) ++ [] ∷ [] →
    filter stays (line_of e ∷ (map line_of es ++ [] ∷ [])) ≡ map line_of (without_unsent (e ∷ es)) ++ [] ∷ []
keep_if e es true h k rest = rw (h, k) rest
keep_if e es false h k rest = rw (h, k) (ap (λ (lines : List (List ℕ)). line_of e ∷ lines) rest)

keep_all : (me : ℕ) (es : List Entry) → IsOf me es → filter stays (map line_of es ++ [] ∷ []) ≡ map line_of (without_unsent es) ++ [] ∷ []
keep_all me [] h = refl
keep_all me (e ∷ es) h = keep_if e es (is_unsent e.told) (keep_one me e h.0) refl (keep_all me es h.1)

lines_apart : (me : ℕ) (es : List Entry) → IsOf me es → without_unsent_lines (log_text es) ≡ log_text (without_unsent es)
lines_apart me es h =
    ap (λ (lines : List (List ℕ)). join_with_byte 10 (filter stays lines)) (lines_again es)
    ∙ ap (join_with_byte 10) (keep_all me es h ∙ sym (lines_again (without_unsent es)))
    ∙ join_with_byte-slice_split 10 (log_text (without_unsent es))

of_append : (me : ℕ) (es fs : List Entry) → IsOf me es → IsOf me fs → IsOf me (es ++ fs)
of_append me [] fs h k = k
of_append me (e ∷ es) fs h k = (h.0, of_append me es fs h.1 k)

deed_of : (me : ℕ) (deed : Deed) → IsOf me (lines_of_deed me deed)
deed_of me (Says moment told) = (refl, tt)
deed_of me (Gives moment link octets true) = (refl, tt)
deed_of me (Gives moment link octets false) = tt

deeds_of : (me : ℕ) (deeds : List Deed) → IsOf me (log_lines me deeds)
deeds_of me [] = tt
deeds_of me (deed ∷ deeds) = of_append me (lines_of_deed me deed) (log_lines me deeds) (deed_of me deed) (deeds_of me deeds)

-- THE LOG OF A NODE, without the lines whose third word is `unsent`
pub log_apart : (me : ℕ) (deeds : List Deed) → without_unsent_lines (log_text (log_lines me deeds)) ≡ log_text (without_unsent (log_lines me deeds))
log_apart me deeds = lines_apart me (log_lines me deeds) (deeds_of me deeds)
