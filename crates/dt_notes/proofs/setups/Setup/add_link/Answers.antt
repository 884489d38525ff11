use Rattle.std.proofs.Common.{ℕ, List, refl, sym, subst}
use Rattle.dt_world_model.specs.declared.links.Link.{Link}
use Rattle.dt_notes.specs.Setups.{AreNumbered}
use Rattle.dt_notes.proofs.SetupTables.{link_done, numbered_last}
use Rattle.dt_notes.proofs.setups.Setup.add_link.Goals as goal
use Rattle.dt_notes.proofs.setups.Setup.add_link.Goals.{in-Ok, in-Err}

pub invariant_of-self : goal.invariant_of-self
invariant_of-self c =
    let l : Link = record { link = c.args.link; from = c.args.from.0; to = c.args.to.0; charge = c.args.charge; pace = c.args.pace } in
    elim c.match-insert.branch [
      | in-Ok w ↦ subst (λ (es : List (ℕ × Link)). AreNumbered es) (sym w.in-Ok.ensures.entries) (numbered_last c.self.inside.links.entries c.args.link l refl c.self.invariant)
      | in-Err w ↦ subst (λ (es : List (ℕ × Link)). AreNumbered es) (sym w.in-Err.ensures.err) c.self.invariant
    ]

pub returns-clause-ok : goal.returns-clause-ok
returns-clause-ok c =
    let i = c.self.inside in
    let l : Link = record { link = c.args.link; from = c.args.from.0; to = c.args.to.0; charge = c.args.charge; pace = c.args.pace } in
    elim c.match-insert.branch [
      | in-Ok w ↦ rw w.result-is (link_done i.rules i.zeros.entries i.links.entries i.ways.entries c.args.self.now c.self.view_is c.link_fault.result c.in_default.not-Some l c.insert.new.self.entries c.self.invariant c.link_fault.ensures w.in-Ok.ensures.entries)
      | in-Err w ↦ rw w.result-is tt
    ]
