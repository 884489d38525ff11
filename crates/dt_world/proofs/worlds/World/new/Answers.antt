use Rattle.std.proofs.Common.{ap, false, sym, subst}
use Rattle.dt_world_model.specs.World.{World}
use Rattle.dt_world_model.specs.WorldFacts.{WorldFacts}
use Rattle.dt_world_laws.proofs.Promise.{facts_are_safe}
use Rattle.dt_world_laws.proofs.Starts.{new_world_facts}
use Rattle.dt_world.specs.Worlds.{WorldValue}
use Rattle.dt_world.proofs.Beginning.{new_buf}
use Rattle.dt_world.proofs.Possible.{safe_now}
use Rattle.dt_world.proofs.worlds.World.new.Goals as goal

pub invariant_of-result : goal.invariant_of-result
invariant_of-result c = (
  new_buf c.new-buf.result.items c.resize.new.self.items c.new-buf.result.len c.new-buf.ensures.items c.new-buf.ensures.len c.in_ok-resize.ensures.items,
  λ u. c.in_ok-parts.ensures.whole,
  safe_now c.in_ok-parts.parts.value c.in_ok-parts.ensures.whole,
)

pub returns-clause-made : goal.returns-clause-made
returns-clause-made c = ap (λ (w : World). let v : WorldValue = record { state = w; spent = false } in v) c.in_ok-parts.ensures.seen

pub returns-clause-facts : goal.returns-clause-facts
returns-clause-facts c = subst (λ (v : WorldValue). WorldFacts v.state) (sym (returns-clause-made c)) (new_world_facts c.args.setup.now)

pub returns-clause-safe : goal.returns-clause-safe
returns-clause-safe c = λ f. facts_are_safe _ f (returns-clause-facts c)
