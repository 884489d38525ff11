use Rattle.dt_layout.proofs.CarriedLemmas.{short_enough}
use Rattle.dt_layout.proofs.gram_octets.GramOctets.copy_into.Goals as goal

pub returns : goal.returns
returns c = rw (c.refill.ensures.fits.1 (short_enough c.args.self.octets.now _ c.args.self.reads)) at c.refill.ensures.filled
