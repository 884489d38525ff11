use Rattle.dt_notes.proofs.SetupTables.{route_done}
use Rattle.dt_notes.proofs.setups.Setup.add_route.Goals as goal
use Rattle.dt_notes.proofs.setups.Setup.add_route.Goals.{in-Ok, in-Err}

pub returns-clause-ok : goal.returns-clause-ok
returns-clause-ok c =
    let i = c.self.inside in
    elim c.match-insert.branch [
      | in-Ok w ↦ rw w.result-is (route_done i.rules i.zeros.entries i.links.entries i.ways.entries c.args.self.now c.self.view_is c.route_fault.result c.in_default.not-Some c.args.at.0 c.args.to.0 c.args.link c.insert.new.self.entries c.route_fault.ensures w.in-Ok.ensures.entries)
      | in-Err w ↦ rw w.result-is tt
    ]
