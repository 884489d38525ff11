use Rattle.std.proofs.Common.{◌≡◌, ◌+◌, ◌≤◌}
use Rattle.dt_host.specs.Hosts.{send_records}
use Rattle.dt_table.specs.Places.{present}
use Rattle.dt_host.specs.Sides.{IsSendSide}
use Rattle.dt_host.specs.Soonest.{missed_senders}
use Rattle.dt_table.proofs.Slots.{notes_in}
use Rattle.dt_host.proofs.SendSides.{noted_in, seen}
use Rattle.dt_host.proofs.Stale.{stale}
use Rattle.dt_host.proofs.send_side.SendSide.resend_due.Given as goal

-- each look took a moment away that was no more
abbrev pub invariant-loop-moment : goal.invariant-loop-moment
invariant-loop-moment g l = record {
  side : IsSendSide l.self-inside.rules.value l.self-inside.latest.ms l.self-inside.table.places l.self-inside.table.slots.items l.self-inside.table.agenda;
  same : seen l.self-inside.rules.value l.self-inside.latest.ms l.self-inside.table.slots.items ≡ l.fn.self;
  looks : l.steps + stale l.self-inside.rules.value l.self-inside.latest.ms (send_records (present l.self-inside.table.slots.items)) (notes_in l.self-inside.table.slots.items (noted_in l.self-inside.table.agenda)) ≤ l.fn.steps + missed_senders l.self-inside.rules.value l.self-inside.latest.ms (send_records (present l.self-inside.table.slots.items));
}

abbrev pub decreases-loop-moment : goal.decreases-loop-moment
decreases-loop-moment g l = stale l.self-inside.rules.value l.self-inside.latest.ms (send_records (present l.self-inside.table.slots.items)) (notes_in l.self-inside.table.slots.items (noted_in l.self-inside.table.agenda))
