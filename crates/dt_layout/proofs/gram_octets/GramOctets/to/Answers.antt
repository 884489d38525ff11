use Rattle.std.proofs.Common.{arith}
use Rattle.dt_layout.proofs.CarriedLemmas.{long_enough}
use Rattle.dt_layout.proofs.gram_octets.GramOctets.to.Goals as goal

pub four_at-requires : goal.four_at-requires
four_at-requires c = omega (arith, long_enough c.args.self.octets.now _ c.args.self.reads)
