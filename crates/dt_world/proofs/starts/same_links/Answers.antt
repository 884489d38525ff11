use Rattle.std.proofs.Common.{ℕ, List, subst}
use Rattle.dt_world_model.specs.declared.links.Link.{Link}
use Rattle.dt_world.proofs.Beginning.{Copied, copied_more}
use Rattle.dt_world.proofs.starts.same_links.Goals as goal

pub loop-number-preserved : goal.loop-number-preserved
loop-number-preserved c =
    let before = subst (λ (left : List (ℕ × Link)). Copied c.loop-number.same.entries left c.args.links.now.entries) c.in-Some.ensures.steps c.loop-number.invariant in
    copied_more c.loop-number.same.entries c.insert.new.self.entries c.in-Some.number.now c.in-Some.link.now c.next.new.self c.args.links.now.entries before c.in_ok-insert.ensures.entries
