-- A line of a script that was read, and stands where it may.
use Rattle.std.proofs.Common.{◌≡◌, ◌∙◌, ℕ, List, Option, Some, None, Result, Ok, Err, ap, refl, subst, sym}
use Rattle.dt_edges.specs.Sinks.{SinkSight}
use Rattle.dt_edges.proofs.Puts.{takes_as, takes_nothing}
use Rattle.dt_reports.specs.declared.faults.Fault.{Fault}
use Rattle.dt_text.specs.declared.lines.Form.TheVariants.{Script}
use Rattle.dt_text.specs.declared.stages.Stage.{Stage}
use Rattle.dt_text.specs.Lines.{line_of}
use Rattle.dt_text.specs.Said.{Said}
use Rattle.dt_text.specs.Stages.{stage_after}
use Rattle.dt_fold.specs.Folds.{Turned}
use Rattle.dt_fold.specs.Logging.{TurnsTo}
use Rattle.dt_script.specs.Codes.{LeadsTo}
use Rattle.dt_script.specs.Drafts.{Draft, done_by, done_if, stage_of, turn_line, turn_read}

module _ {K : Type 0} (sight : K → SinkSight) where
  turned_by : (turn : Result (Turned Draft) Fault) (answer : Option Fault) (before after : Draft) (out : K) → LeadsTo turn (Ok answer) before after → TurnsTo sight turn (Ok answer) before after out out
  turned_by (Err fault) None before after out h = absurd h
  turned_by (Ok turned) None before after out h = (h.0, takes_as _ _ (sight out) (sight out) (sym h.1) (takes_nothing (sight out)))
  turned_by turn (Some fault) before after out h = (h.0, h.1, refl)

  pub line_turns : (octets : List ℕ) (line : Said) (stage : Stage) (answer : Option Fault) (before after : Draft) (out : K) → line_of Script octets ≡ Ok line → Some stage ≡ stage_after Script (stage_of before) line → LeadsTo (done_by before line) (Ok answer) before after → TurnsTo sight (turn_line before octets) (Ok answer) before after out out
  line_turns octets line stage answer before after out read stands h =
      let same : turn_line before octets ≡ done_by before line = ap (turn_read before) read ∙ ap (λ (s : Option Stage). done_if s before line) (sym stands) in
      subst (λ (t : Result (Turned Draft) Fault). TurnsTo sight t (Ok answer) before after out out) (sym same) (turned_by (done_by before line) answer before after out h)
