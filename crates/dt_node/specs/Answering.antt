-- What `serve` and `serve_traced` leave, script and all.
use Rattle.std.specs.Prelude.{◌≡◌, ℕ, List, Option, Some, None}
use Rattle.dt_node.specs.declared.outcomes.NodeOutcome.{NodeOutcome}
use Rattle.dt_node.specs.declared.outcomes.NodeOutcome.TheVariants.{Done, Refused, NoMemory, WireFault, ClockStill, WriteFault}
use Rattle.dt_node.specs.declared.output_forms.OutputForm.{OutputForm}
use Rattle.dt_script.specs.Drafts.{refusal_text, script_of}
use Rattle.dt_script.specs.Orders.{Orders}
use Rattle.dt_node.specs.Serving.{Edges, Logs, Serves, SinkFaults}

-- answers that a script leads to that is refused
abbrev pub MayRefuse : NodeOutcome → Type 0
MayRefuse Refused = Unit {0}
MayRefuse NoMemory = Unit {0}
MayRefuse WriteFault = Unit {0}
MayRefuse Done = ⊥
MayRefuse WireFault = ⊥
MayRefuse ClockStill = ⊥

-- A refused script: its one line is logged, and neither wire nor clock is called.
pub record RefusesAs (outcome : NodeOutcome) (text : List ℕ) (before after : Edges) : Type 0 where
  pub may : MayRefuse outcome
  pub wire : after.wire ≡ before.wire
  pub clock : after.clock ≡ before.clock
  pub log : Logs outcome text before.held after.held
  pub sink_faults : SinkFaults outcome before.faults after.faults

abbrev pub AnswersBy : OutputForm → Option Orders → List ℕ → NodeOutcome → Edges → Edges → Type 0
AnswersBy form None text outcome before after = RefusesAs outcome text before after
AnswersBy form (Some o) text outcome before after = Serves form o outcome before after

-- What is written has this form. `Refused` comes exactly where the script is refused; else the answer is that of its orders.
abbrev pub Answers : OutputForm → List ℕ → NodeOutcome → Edges → Edges → Type 0
Answers form octets outcome before after = AnswersBy form (script_of octets) (refusal_text octets) outcome before after
