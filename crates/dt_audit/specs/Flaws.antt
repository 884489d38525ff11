-- How flaws are written.
use Rattle.std.specs.Prelude.{List, [], ◌∷◌, codes}
use Rattle.dt_log.specs.FaultWords.{line_fault_text}
use Rattle.dt_log.specs.Words.{Text}
use Rattle.dt_audit.specs.declared.flaws.Flaw.{Flaw}
use Rattle.dt_audit.specs.declared.flaws.Flaw.TheVariants.{Line, Stray, Breaks}
use Rattle.dt_audit.specs.declared.flaws.Promise.{Promise}
use Rattle.dt_audit.specs.declared.flaws.Promise.TheVariants.{InOrder, SkipsReported, AcknowledgedIsGiven, RunsUnbroken}

-- the promises by the numbers that the log of an audit gives them
abbrev pub promise_text : Promise → Text
promise_text InOrder = codes "S1"
promise_text SkipsReported = codes "S3"
promise_text AcknowledgedIsGiven = codes "S4"
promise_text RunsUnbroken = codes "S6"

abbrev pub flaw_words : Flaw → List Text
flaw_words (Line fault) = line_fault_text fault ∷ []
flaw_words Stray = codes "stray" ∷ []
flaw_words (Breaks promise) = codes "breaks" ∷ promise_text promise ∷ []
