-- What a call of the program says is what a run is.
use Rattle.std.proofs.Common.{◌≡◌, false, subst}
use Rattle.dt_edges.specs.Clocks.{ClockSight}
use Rattle.dt_edges.specs.Sources.{SourceSight}
use Rattle.dt_edges.specs.Wires.{WireInMemory}
use Rattle.dt_top.specs.Answering.{Answers}
use Rattle.dt_command.specs.Commands.{uses_wire}
use Rattle.dt_trial.specs.Trials.{IsRunFrom, StartSeen, command_in, run_from}
use Rattle.dt_trial.specs.declared.run_results.RunResult.{RunResult}

-- two starts whose parts are the same
pub is_start : (s t : StartSeen) → s.words ≡ t.words → s.source ≡ t.source → s.clock ≡ t.clock → s.out ≡ t.out → s.err ≡ t.err → s ≡ t
is_start s t words source clock out err = λ i. record { words = words i; source = source i; clock = clock i; out = out i; err = err i }

pub is_run : (start begun : StartSeen) (wire wire_after : WireInMemory) (left : RunResult) (source_after : SourceSight) (clock_after : ClockSight)
    → begun ≡ start → Answers (run_from begun wire wire_after left source_after clock_after)
    → (uses_wire (command_in begun.words) ≡ false → wire_after ≡ wire)
    → IsRunFrom start wire wire_after left
is_run start begun wire wire_after left source_after clock_after e answers same = record {
  source_after = source_after;
  clock_after = clock_after;
  answers = subst (λ s. Answers (run_from s wire wire_after left source_after clock_after)) e answers;
  same_wire = subst (λ (s : StartSeen). uses_wire (command_in s.words) ≡ false → wire_after ≡ wire) e same;
}
