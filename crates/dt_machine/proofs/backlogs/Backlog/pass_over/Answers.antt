use Rattle.std.proofs.Common.{◌≡◌, ◌+◌, ℕ, suc, ap, arith, drop, map, ◌∙◌}
use Rattle.dt_machine.specs.Backlogs.{Backlogged, waiting_at}
use Rattle.dt_machine.proofs.Packing.{without_first}
use Rattle.dt_machine.proofs.backlogs.Backlog.pass_over.Goals as goal

pub returns-else-is_empty : goal.returns-else-is_empty
returns-else-is_empty c =
    let i = c.self.inside in
    let one : i.handed + 1 ≡ suc i.handed = omega arith in
    ap (λ (n : ℕ). map (waiting_at i.octets.items) (drop n i.places.items)) one
    ∙ without_first (waiting_at i.octets.items) i.handed i.places.items
    ∙ ap (λ (b : Backlogged). drop 1 b.waiting) c.self.view_is
