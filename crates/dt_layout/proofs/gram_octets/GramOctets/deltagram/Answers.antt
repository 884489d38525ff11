use Rattle.dt_layout.proofs.CarriedLemmas.{long_enough}
use Rattle.dt_layout.proofs.gram_octets.GramOctets.deltagram.Goals as goal

pub fields_in-requires : goal.fields_in-requires
fields_in-requires c = long_enough c.args.self.octets.now _ c.args.self.reads
