-- A run that is run again meets its stop, where its readings reach it and nothing fails.
use Rattle.std.proofs.Common.{◌≡◌, ◌⊎◌, inl, inr, ℕ, ◌+◌, List, length, Option, Some, Result, refl, subst, arith}
use Rattle.dt_edges.specs.Counts.{HasRisen}
use Rattle.dt_edges.specs.Sinks.{SinkSight}
use Rattle.dt_edges.specs.Wires.{Plan}
use Rattle.dt_reports.specs.declared.faults.LineFault.{LineFault}
use Rattle.dt_text.specs.InputLines.{lines_of}
use Rattle.dt_trace.specs.Traces.{Recorded, nothing, or_zero, read_from}
use Rattle.dt_node.specs.declared.output_forms.OutputForm.TheVariants as forms
use Rattle.dt_node.specs.declared.outcomes.NodeOutcome.{NodeOutcome}
use Rattle.dt_node.specs.declared.outcomes.NodeOutcome.TheVariants.{Done, Refused, NoMemory, WireFault, ClockStill, WriteFault}
use Rattle.dt_node.specs.Answering.{AnswersBy}
use Rattle.dt_script.specs.Drafts.{refusal_text}
use Rattle.dt_script.specs.Orders.{Orders}
use Rattle.dt_node.specs.Serving.{Serves, edges}
use Rattle.dt_node.specs.Reaching.{GoesToStop}
use Rattle.dt_node.specs.InputParts.{text_of}
use Rattle.dt_node.specs.Retracing.{Reruns, RerunsBy, Retraces, RetracesBy, edges_before}
use Rattle.dt_node.proofs.Planned.{no_fault}
use Rattle.dt_node.proofs.Repeated.{fresh}

abbrev pub MeetsStop : NodeOutcome → Type 0
MeetsStop outcome = (outcome ≡ Done) ⊎ (outcome ≡ NoMemory)

module _ (octets : List ℕ) (g : GoesToStop octets) (a z : SinkSight) (free : HasRisen a.faults z.faults → ⊥) where
  abbrev plan : Plan
  plan = record { entries = g.recorded.takes; failing_takes = g.recorded.failing_takes; failing_gives = g.recorded.failing_gives; open_fails = g.recorded.open_fails }

  served : (outcome : NodeOutcome) (h : Reruns (text_of g.script) g.recorded outcome a z) → Serves forms.Log g.orders outcome (edges_before g.recorded a) (edges h.wire h.clock z) → MeetsStop outcome
  served Done h k = inl refl
  served NoMemory h k = inr refl
  served Refused h k = absurd k.ends
  served WriteFault h k = absurd (free k.sink_faults)
  served WireFault h k = absurd (no_fault plan (length k.readings) (length k.takes) g.takes g.opens (k.planned_faults (fresh g.recorded)))
  served ClockStill h k = h.completes g.orders (or_zero g.recorded.readings) g.accepted refl refl g.reaches (λ risen. omega (arith, risen, k.take_faults)) free

  runs_to_stop : (outcome : NodeOutcome) → Reruns (text_of g.script) g.recorded outcome a z → MeetsStop outcome
  runs_to_stop outcome h = served outcome h (subst (λ (x : Option Orders). AnswersBy forms.Log x (refusal_text (text_of g.script)) outcome (edges_before g.recorded a) (edges h.wire h.clock z)) g.accepted h.answers)

  pub meets_stop : (outcome : NodeOutcome) → Retraces octets outcome a z → MeetsStop outcome
  meets_stop outcome (inl h) =
      let parts = subst (λ (c : Option (List (List ℕ) × List (List ℕ))). RetracesBy (length (lines_of octets)) c outcome a z) g.cut h in
      runs_to_stop outcome (subst (λ (r : Result Recorded (ℕ × LineFault)). RerunsBy (length g.script + 1) (text_of g.script) r outcome a z) g.read parts)
  meets_stop outcome (inr wants) = inr wants.0
