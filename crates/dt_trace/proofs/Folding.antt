-- A trace is read line by line.
use Rattle.std.proofs.Common.{◌≡◌, ℕ, suc, ◌+◌, List, [], ◌∷◌, length, Result, Ok, Err, refl, sym, ap, ◌∙◌, arith}
use Rattle.std.proofs.Math.Numerals.{add-one}
use Rattle.dt_reports.specs.declared.faults.LineFault.{LineFault}
use Rattle.dt_text.specs.InputLines.{lines_of}
use Rattle.dt_trace.specs.Lines.{input_of}
use Rattle.dt_trace.specs.Traces.{Recorded, note_then, read_from}

pub read_next : (line : ℕ) (t : Recorded) (octets : List ℕ) (more : List (List ℕ)) → read_from line t (octets ∷ more) ≡ note_then line t (input_of octets) (λ next. read_from (suc line) next more)
unfolding read_from
read_next line t octets more = refl

pub read_end : (line : ℕ) (t : Recorded) → read_from line t [] ≡ Ok t
unfolding read_from
read_end line t = refl

-- a line was noted, and the rest is read
pub noted_on : (line : ℕ) (t after : Recorded) (octets : List ℕ) (lines more : List (List ℕ)) (all : Result Recorded (ℕ × LineFault)) → lines ≡ octets ∷ more → read_from line t lines ≡ all
    → ((rest : Recorded → Result Recorded (ℕ × LineFault)) → note_then line t (input_of octets) rest ≡ rest after) → read_from (line + 1) after more ≡ all
noted_on line t after octets lines more all cut on notes =
    ap (λ n. read_from n after more) (add-one line) ∙ sym (notes (λ next. read_from (suc line) next more)) ∙ sym (read_next line t octets more) ∙ sym (ap (read_from line t) cut) ∙ on

-- a line was refused
pub refused_at : (line : ℕ) (t : Recorded) (fault : LineFault) (octets : List ℕ) (lines more : List (List ℕ)) (all : Result Recorded (ℕ × LineFault)) → lines ≡ octets ∷ more → read_from line t lines ≡ all
    → ((rest : Recorded → Result Recorded (ℕ × LineFault)) → note_then line t (input_of octets) rest ≡ Err (line, fault)) → all ≡ Err (line, fault)
refused_at line t fault octets lines more all cut on notes =
    sym on ∙ ap (read_from line t) cut ∙ read_next line t octets more ∙ notes (λ next. read_from (suc line) next more)

-- nothing is left
pub read_empty : (line : ℕ) (t : Recorded) (rest : List ℕ) (all : Result Recorded (ℕ × LineFault)) → length rest ≡ 0 → read_from line t (lines_of rest) ≡ all → all ≡ Ok t
read_empty line t [] all none on = sym on ∙ read_end line t
read_empty line t (octet ∷ rest) all none on = absurd (omega arith)
