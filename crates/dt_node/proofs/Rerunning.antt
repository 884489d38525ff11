-- A trace is read after a script.
use Rattle.std.proofs.Common.{◌≡◌, inl, ℕ, suc, ◌+◌, ◌^◌, ◌<◌, ◌≤◌, ◌==◌, Bool, true, false, if◌then◌else◌, List, [], ◌∷◌, length, Option, Result, Ok, Err, sym, ap, subst, ◌∙◌, arith}
use Rattle.dt_reports.specs.declared.faults.LineFault.{LineFault}
use Rattle.dt_reports.specs.declared.faults.LineFault.TheVariants.{Order}
use Rattle.dt_text.specs.InputLines.{in_front, lines_of}
use Rattle.dt_trace.specs.Inputs.{Input}
use Rattle.dt_trace.specs.Lines.{input_of}
use Rattle.dt_trace.specs.Traces.{Recorded, is_placed, note_then, noted, nothing, read_from, trace_of}
use Rattle.dt_edges.specs.Sinks.{SinkSight}
use Rattle.dt_node.specs.declared.outcomes.NodeOutcome.{NodeOutcome}
use Rattle.dt_node.specs.declared.cut_inputs.CutInput.{CutInput}
use Rattle.dt_node.specs.InputParts.{CutsTo, text_of}
use Rattle.dt_node.specs.Retracing.{RefusesWith, Reruns, RerunsBy, Retraces, RetracesBy, refused_text}
use Rattle.dt_trace.proofs.Folding.{read_end, read_next}

first_of : (n line : ℕ) (f g : LineFault) → ◌≡◌ {A = Result Recorded (ℕ × LineFault)} (Err (n, f)) (Err (line, g)) → n ≡ line
first_of n line f g h = let pair : ◌≡◌ {A = ℕ × LineFault} (n, f) (line, g) = cc in ap (λ q. q.0) pair

place_bound : (n line count : ℕ) (t : Recorded) (fault f : LineFault) (input : Input) (rest : Recorded → Result Recorded (ℕ × LineFault)) (placed : Bool) → ((next : Recorded) → rest next ≡ Err (line, fault) → line < suc n + count)
    → (if placed then rest (noted t input) else Err (n, f)) ≡ Err (line, fault) → line < suc n + count
place_bound n line count t fault f input rest true more h = more (noted t input) h
place_bound n line count t fault f input rest false more h = let same = first_of n line f fault h in omega (arith, same)

-- the number of a refused line is that of one that is there
note_bound : (n line count : ℕ) (t : Recorded) (fault : LineFault) (input : Result Input LineFault) (rest : Recorded → Result Recorded (ℕ × LineFault)) → ((next : Recorded) → rest next ≡ Err (line, fault) → line < suc n + count) → note_then n t input rest ≡ Err (line, fault) → line < suc n + count
note_bound n line count t fault (Err f) rest more h = let same = first_of n line f fault h in omega (arith, same)
note_bound n line count t fault (Ok input) rest more h = place_bound n line count t fault Order input rest (is_placed n t input) more h

pub line_bound : (n line : ℕ) (t : Recorded) (fault : LineFault) (lines : List (List ℕ)) → read_from n t lines ≡ Err (line, fault) → line < n + length lines
line_bound n line t fault [] h = absurd (let e = sym (read_end n t) ∙ h in cc)
line_bound n line t fault (octets ∷ lines) h =
    let less = note_bound n line (length lines) t fault (input_of octets) (λ next. read_from (suc n) next lines) (λ next e. line_bound (suc n) line next fault lines e) (sym (read_next n t octets lines) ∙ h) in
    omega (arith, less)

-- an input has no more lines than octets
front_length : (octet : ℕ) (lines : List (List ℕ)) → length (in_front octet lines) ≤ length lines + 1
front_length octet [] = omega arith
front_length octet (line ∷ lines) = omega arith

lines_if : (b : Bool) (octet n : ℕ) (lines : List (List ℕ)) → length lines ≤ n → length (if b then [] ∷ lines else in_front octet lines) ≤ suc n
lines_if true octet n lines h = omega (arith, h)
lines_if false octet n lines h = omega (arith, h, front_length octet lines)

pub lines_few : (octets : List ℕ) → length (lines_of octets) ≤ length octets
lines_few [] = omega arith
lines_few (octet ∷ octets) = lines_if (octet == 10) octet (length octets) (lines_of octets) (lines_few octets)

-- WHAT IS LEFT, by the parts of the input
pub no_mark : (octets : List ℕ) (lines : ℕ) (outcome : NodeOutcome) (a z : SinkSight) → CutsTo (Err lines) octets → RefusesWith outcome (refused_text (lines + 1) Order) a z → Retraces octets outcome a z
no_mark octets lines outcome a z cut h =
    inl (subst (λ (p : Option (List (List ℕ) × List (List ℕ))). RetracesBy (length (lines_of octets)) p outcome a z) (sym cut.0)
    (subst (λ (n : ℕ). RefusesWith outcome (refused_text (n + 1) Order) a z) cut.1 h))

by_trace : (octets : List ℕ) (p : CutInput) (said : Result Recorded (ℕ × LineFault)) (outcome : NodeOutcome) (a z : SinkSight) → CutsTo (Ok p) octets → trace_of p.trace.now ≡ said → RerunsBy p.mark p.script.now said outcome a z → Retraces octets outcome a z
by_trace octets p said outcome a z (parts, cut, is) read h =
    inl (subst (λ (c : Option (List (List ℕ) × List (List ℕ))). RetracesBy (length (lines_of octets)) c outcome a z) (sym cut)
    (subst (λ (r : Result Recorded (ℕ × LineFault)). RerunsBy (length parts.0 + 1) (text_of parts.0) r outcome a z) (sym read ∙ ap (read_from 1 nothing) is.trace)
    (subst (λ (n : ℕ). RerunsBy n (text_of parts.0) said outcome a z) is.mark (subst (λ (xs : List ℕ). RerunsBy p.mark xs said outcome a z) is.script h))))

pub runs_again : (octets : List ℕ) (p : CutInput) (t : Recorded) (outcome : NodeOutcome) (a z : SinkSight) → CutsTo (Ok p) octets → trace_of p.trace.now ≡ Ok t → Reruns p.script.now t outcome a z → Retraces octets outcome a z
runs_again octets p t outcome a z cut read h = by_trace octets p (Ok t) outcome a z cut read h

pub refuses_line : (octets : List ℕ) (p : CutInput) (line : ℕ) (fault : LineFault) (outcome : NodeOutcome) (a z : SinkSight) → CutsTo (Ok p) octets → trace_of p.trace.now ≡ Err (line, fault) → RefusesWith outcome (refused_text (p.mark + line) fault) a z → Retraces octets outcome a z
refuses_line octets p line fault outcome a z cut read h = by_trace octets p (Err (line, fault)) outcome a z cut read h

-- the number of a refused line fits
pub number_fits : (octets : List ℕ) (p : CutInput) (line : ℕ) (fault : LineFault) → CutsTo (Ok p) octets → trace_of p.trace.now ≡ Err (line, fault) → p.mark + line < 2 ^ 33
number_fits octets p line fault (parts, cut, is) read =
    let bound = line_bound 1 line nothing fault (lines_of p.trace.now) read in
    let few = lines_few p.trace.now in
    omega (arith, bound, few, is.few)
