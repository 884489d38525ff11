-- A trace that is written is read.
use Rattle.std.proofs.Common.{◌≡◌, ℕ, suc, ◌+◌, ◌<◌, Bool, true, false, List, [], ◌∷◌, ◌++◌, length, Result, Ok, Err, refl, sym, ap, subst, ◌∙◌, arith, append_assoc, codes, if◌then◌else◌}
use Rattle.std.proofs.Math.Numerals.{add-one}
use Rattle.dt_log.specs.Words.{Text, spaced, row_text}
use Rattle.dt_reports.specs.declared.faults.LineFault.{LineFault}
use Rattle.dt_text.specs.InputLines.{lines_of, in_front}
use Rattle.dt_text.proofs.CutLaws.{IsFree}
use Rattle.dt_trace.specs.Inputs.{Input, Reading, Taken, FailedTake, FailedGive, FailedOpen, found_words, input_text, input_words, trace_text}
use Rattle.std.specs.Fmt.{decimal}
use Rattle.dt_trace.specs.Lines.{input_of}
use Rattle.dt_trace.specs.Traces.{Recorded, is_placed, note_then, noted, nothing, read_from, trace_of}
use Rattle.dt_trace.specs.Standing.{IsInput, Stand, noted_all}
use Rattle.dt_trace.proofs.Folding.{read_end, read_next}
use Rattle.dt_trace.proofs.LineLaws.{input_again, input_free, spaced_free}

-- a text without a line feed, and its line feed, are a line
line_cut : (text rest : List ℕ) → IsFree 10 text → lines_of (text ++ 10 ∷ rest) ≡ text ∷ lines_of rest
unfolding IsFree
line_cut [] rest free = refl
line_cut (x ∷ text) rest free = rw free.0 (ap (in_front x) (line_cut text rest free.1))

one_line : (input : Input) → IsInput input → IsFree 10 (spaced (input_words input))
one_line (Reading reading) h = spaced_free (codes "@") (decimal reading ∷ []) (input_free 10 (Reading reading) (omega arith) h)
one_line (Taken found) h = spaced_free (codes "<") (found_words found) (input_free 10 (Taken found) (omega arith) h)
one_line FailedTake h = spaced_free (codes "<") (codes "x" ∷ []) (input_free 10 FailedTake (omega arith) h)
one_line (FailedGive number) h = spaced_free (codes "!") (decimal number ∷ []) (input_free 10 (FailedGive number) (omega arith) h)
one_line FailedOpen h = spaced_free (codes "!") (decimal 0 ∷ []) (input_free 10 FailedOpen (omega arith) h)

pub input_cut : (input : Input) (rest : List ℕ) → IsInput input → lines_of (input_text input ++ rest) ≡ spaced (input_words input) ∷ lines_of rest
input_cut input rest h = ap lines_of (append_assoc (spaced (input_words input)) (codes "\n") rest) ∙ line_cut (spaced (input_words input)) rest (one_line input h)

-- the first input is read, and then the rest
noted_next : (line : ℕ) (t : Recorded) (input : Input) (placed : Bool) (rest : Recorded → Result Recorded (ℕ × LineFault)) → is_placed line t input ≡ true → note_then line t (Ok input) rest ≡ rest (noted t input)
noted_next line t input placed rest h = rw h refl

pub read_back : (line : ℕ) (t : Recorded) (inputs : List Input) → Stand line t inputs → read_from line t (lines_of (trace_text inputs)) ≡ Ok (noted_all t inputs)
read_back line t [] h = read_end line t
read_back line t (input ∷ inputs) h =
    ap (read_from line t) (input_cut input (trace_text inputs) h.0)
    ∙ read_next line t (spaced (input_words input)) (lines_of (trace_text inputs))
    ∙ ap (λ said. note_then line t said (λ next. read_from (suc line) next (lines_of (trace_text inputs)))) (input_again input h.0)
    ∙ noted_next line t input true (λ next. read_from (suc line) next (lines_of (trace_text inputs))) h.1
    ∙ read_back (suc line) (noted t input) inputs h.2

pub trace_read : (inputs : List Input) → Stand 1 nothing inputs → trace_of (trace_text inputs) ≡ Ok (noted_all nothing inputs)
trace_read inputs h = read_back 1 nothing inputs h

-- ONE MORE INPUT
pub noted_more : (t : Recorded) (inputs more : List Input) → noted_all t (inputs ++ more) ≡ noted_all (noted_all t inputs) more
noted_more t [] more = refl
noted_more t (input ∷ inputs) more = noted_more (noted t input) inputs more

next_line : (line n : ℕ) → suc line + n ≡ line + suc n
next_line line n = omega arith

no_line : (line : ℕ) → line + 0 ≡ line
no_line line = omega arith

pub stand_more : (line : ℕ) (t : Recorded) (inputs more : List Input) → Stand line t inputs → Stand (line + length inputs) (noted_all t inputs) more → Stand line t (inputs ++ more)
stand_more line t [] more h k = subst (λ (n : ℕ). Stand n t more) (no_line line) k
stand_more line t (input ∷ inputs) more h k = (h.0, h.1, stand_more (suc line) (noted t input) inputs more h.2 (rw (next_line line (length inputs)) k))
