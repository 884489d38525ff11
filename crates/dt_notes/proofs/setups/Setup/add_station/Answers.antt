use Rattle.dt_notes.proofs.SetupTables.{station_done}
use Rattle.dt_notes.proofs.setups.Setup.add_station.Goals as goal
use Rattle.dt_notes.proofs.setups.Setup.add_station.Goals.{in-Ok, in-Err}

pub returns-clause-ok : goal.returns-clause-ok
returns-clause-ok c =
    let i = c.self.inside in
    elim c.match-insert.branch [
      | in-Ok w ↦ rw w.result-is (station_done i.rules i.zeros.entries i.links.entries i.ways.entries c.args.self.now c.self.view_is c.station_fault.result c.in_default.not-Some c.args.station.0 c.args.zero c.insert.new.self.entries c.station_fault.ensures w.in-Ok.ensures.entries)
      | in-Err w ↦ rw w.result-is tt
    ]
