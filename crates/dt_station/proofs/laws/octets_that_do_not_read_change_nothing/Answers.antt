use Rattle.dt_station.proofs.Lawful.{arrives_bad}
use Rattle.dt_station.proofs.laws.octets_that_do_not_read_change_nothing.Goals as goal

pub returns : goal.returns
returns c s = λ p now link parcel admitted fault station a me h. arrives_bad p now link parcel admitted fault station a me h
