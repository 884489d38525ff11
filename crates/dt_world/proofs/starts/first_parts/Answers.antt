use Rattle.std.proofs.Common.{◌∙◌, refl, ap, subst, sym}
use Rattle.dt_world.specs.Worlds.{IsWhole, world_seen}
use Rattle.dt_world.specs.declared.world_parts.WorldParts.{WorldParts}
use Rattle.dt_world.proofs.Beginning.{begun_whole, begun_world}
use Rattle.dt_world.proofs.starts.first_parts.Goals as goal

pub returns-clause-whole : goal.returns-clause-whole
returns-clause-whole c =
    let parts : WorldParts = record { rules = c.rules-rules.result.now; now = 0; stations = c.in_ok-stations.stations; links = c.in_ok-links.links; notes = record { ledger = c.new.result; runs = c.new-2.result; copies = c.new-3.result } } in
    subst (λ (p : WorldParts). IsWhole p) (sym c.in_ok-new.ensures.ok)
    (begun_whole c.args.setup.now parts c.links-stated.result.now.entries c.rules-rules.ensures.same c.links-stated.ensures.links refl c.in_ok-links.ensures c.in_ok-stations.ensures.seen c.new-3.ensures c.new.ensures c.new-2.ensures.empty c.rules-rules.ensures.within c.links-stated.ensures.numbers c.in_ok-stations.ensures.all)

pub returns-clause-seen : goal.returns-clause-seen
returns-clause-seen c =
    let parts : WorldParts = record { rules = c.rules-rules.result.now; now = 0; stations = c.in_ok-stations.stations; links = c.in_ok-links.links; notes = record { ledger = c.new.result; runs = c.new-2.result; copies = c.new-3.result } } in
    ap (λ (p : WorldParts). world_seen p) c.in_ok-new.ensures.ok
    ∙ begun_world c.args.setup.now parts c.links-stated.result.now.entries c.rules-rules.ensures.same c.links-stated.ensures.links refl c.in_ok-links.ensures c.in_ok-stations.ensures.seen c.new-3.ensures c.new.ensures c.new-2.ensures.empty
