use Rattle.std.proofs.Common.{subst, sym}
use Rattle.dt_edges.specs.Clocks.{ClockInMemory, ReadsOne, clock_in_memory}
use Rattle.dt_edges.proofs.Readings.{reads_one}
use Rattle.dt_edges.proofs.mem_clocks.MemClockClock.TheImpl.Goals as goal

pub now-tells : goal.now-tells
now-tells c =
    subst (λ (clock : ClockInMemory). ReadsOne c.result (clock_in_memory c.args.self.now) (clock_in_memory clock)) (sym c.ensures.after)
    (reads_one c.args.self.now c.result c.ensures.some c.ensures.planned)
