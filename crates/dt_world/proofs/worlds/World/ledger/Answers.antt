use Rattle.std.proofs.Common.{ap, subst, ◌∙◌}
use Rattle.dt_world_model.specs.WorldFacts.{SafeLedgers, SafeWorld}
use Rattle.dt_world_laws.proofs.Promise.{facts_are_safe}
use Rattle.dt_world.specs.Worlds.{WorldValue, world_seen}
use Rattle.dt_world.proofs.worlds.World.ledger.Goals as goal

pub returns-clause-safe_ledgers : goal.returns-clause-safe_ledgers
returns-clause-safe_ledgers c = subst (λ (x : WorldValue). SafeLedgers x.state x.state.ledgers) c.self.view_is c.self.invariant.2

pub returns-clause-safe : goal.returns-clause-safe
returns-clause-safe c = λ unspent.
    let whole = c.self.invariant.1 (ap (λ (x : WorldValue). x.spent) c.self.view_is ∙ unspent) in
    subst (λ (x : WorldValue). SafeWorld x.state) c.self.view_is (λ f. facts_are_safe (world_seen c.self.inside.parts.value) f whole.facts)
