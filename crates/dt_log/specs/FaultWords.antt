-- The words of faults: one row for each.
use Rattle.std.specs.Prelude.{List, [], ◌∷◌, codes, decimal}
use Rattle.dt_units.specs.declared.parameters.Field.{Field}
use Rattle.dt_units.specs.declared.parameters.Field.TheVariants.{Mpl, R, A, Rto, Probe, Seg, Cap, Rcap, Window, RunLimit}
use Rattle.dt_layout.specs.declared.faults.LayoutFault.{LayoutFault}
use Rattle.dt_layout.specs.declared.faults.LayoutFault.TheVariants as layout_faults
use Rattle.dt_reports.specs.declared.faults.Fault.{Fault}
use Rattle.dt_reports.specs.declared.faults.Fault.TheVariants.{Line, Param, Setup, Step}
use Rattle.dt_reports.specs.declared.faults.LineFault.{LineFault}
use Rattle.dt_reports.specs.declared.faults.LineFault.TheVariants as line_faults
use Rattle.dt_reports.specs.declared.faults.SetupFault.{SetupFault}
use Rattle.dt_reports.specs.declared.faults.SetupFault.TheVariants as setup_faults
use Rattle.dt_reports.specs.declared.faults.StepFault.{StepFault}
use Rattle.dt_reports.specs.declared.faults.StepFault.TheVariants as step_faults
use Rattle.dt_reports.specs.declared.faults.Refusal.{Refusal}
use Rattle.dt_reports.specs.declared.faults.Refusal.TheVariants as refusals
use Rattle.dt_log.specs.Words.{Text}

-- why a send was refused
abbrev pub refusal_words : Refusal → List Text
refusal_words (refusals.Quiet until) = codes "quiet" ∷ decimal until ∷ []
refusal_words (refusals.Full free) = codes "full" ∷ decimal free ∷ []

-- why octets don't read
abbrev pub layout_fault_words : LayoutFault → List Text
layout_fault_words (layout_faults.Short len) = codes "short" ∷ decimal len ∷ []
layout_fault_words (layout_faults.Version octet) = codes "version" ∷ decimal octet ∷ []
layout_fault_words (layout_faults.Length told there) = codes "length" ∷ decimal told ∷ decimal there ∷ []
layout_fault_words layout_faults.Dead = codes "dead" ∷ []
layout_fault_words (layout_faults.Protocol octet) = codes "protocol" ∷ decimal octet ∷ []
layout_fault_words (layout_faults.Kind octet) = codes "kind" ∷ decimal octet ∷ []
layout_fault_words (layout_faults.Flags octet) = codes "flags" ∷ decimal octet ∷ []
layout_fault_words (layout_faults.Window value) = codes "window" ∷ decimal value ∷ []
layout_fault_words (layout_faults.Size len) = codes "size" ∷ decimal len ∷ []

abbrev pub field_text : Field → Text
field_text Mpl = codes "mpl"
field_text R = codes "r"
field_text A = codes "a"
field_text Rto = codes "rto"
field_text Probe = codes "probe"
field_text Seg = codes "seg"
field_text Cap = codes "cap"
field_text Rcap = codes "rcap"
field_text Window = codes "window"
field_text RunLimit = codes "run_limit"

abbrev pub line_fault_text : LineFault → Text
line_fault_text line_faults.Word = codes "word"
line_fault_text line_faults.Count = codes "count"
line_fault_text line_faults.Number = codes "number"
line_fault_text line_faults.Flow = codes "flow"
line_fault_text line_faults.Hex = codes "hex"
line_fault_text line_faults.Order = codes "order"

abbrev pub setup_fault_words : SetupFault → List Text
setup_fault_words (setup_faults.Twice n) = codes "twice" ∷ decimal n ∷ []
setup_fault_words (setup_faults.Unknown n) = codes "unknown" ∷ decimal n ∷ []
setup_fault_words (setup_faults.Stray n) = codes "stray" ∷ decimal n ∷ []
setup_fault_words setup_faults.NoMemory = codes "out" ∷ codes "of" ∷ codes "memory" ∷ []

abbrev pub step_fault_words : StepFault → List Text
step_fault_words step_faults.BadFlow = codes "bad" ∷ codes "flow" ∷ []
step_fault_words (step_faults.NoStation n) = codes "no" ∷ codes "station" ∷ decimal n ∷ []
step_fault_words (step_faults.NoCopy n) = codes "no" ∷ codes "copy" ∷ decimal n ∷ []
step_fault_words (step_faults.Lost n) = codes "lost" ∷ decimal n ∷ []
step_fault_words (step_faults.TooLate held charge) = codes "too" ∷ codes "late" ∷ decimal held ∷ decimal charge ∷ []
step_fault_words step_faults.NoMemory = codes "out" ∷ codes "of" ∷ codes "memory" ∷ []

-- why a line of an input is refused
abbrev pub fault_words : Fault → List Text
fault_words (Line fault) = line_fault_text fault ∷ []
fault_words (Param fault) = codes "param" ∷ field_text fault.field ∷ decimal fault.value ∷ []
fault_words (Setup fault) = setup_fault_words fault
fault_words (Step fault) = step_fault_words fault
