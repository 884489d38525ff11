use Rattle.std.proofs.Common.{◌≡◌, length}
use Rattle.dt_machine.specs.Intakes.{FirstAreLate}
use Rattle.dt_machine.proofs.intakes.Intake.fresh.Given as goal

abbrev pub invariant-loop : goal.invariant-loop
invariant-loop l = record {
  passed : FirstAreLate l.now l.initial.self.backlog.waiting l.self.backlog.waiting;
  room : length l.buf ≡ length l.initial.buf;
  empty : l.self.empty ≡ l.initial.self.empty;
  haste : l.self.haste ≡ l.initial.self.haste;
}
