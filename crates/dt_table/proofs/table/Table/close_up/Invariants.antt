use Rattle.std.proofs.Common.{ℕ, ◌≡◌, ◌<◌, ◌≤◌, length, None}
use Rattle.dt_table.specs.Agendas.{note_at}
use Rattle.dt_table.specs.Places.{StandOnce, slot}
use Rattle.dt_table.specs.Tables.{IsPlaced, rows}
use Rattle.dt_table.proofs.table.Table.close_up.Given as goal

-- those so far stand without a gap, and what stands is what stood
abbrev pub invariant-loop-from : goal.invariant-loop-from
invariant-loop-from g l = record {
  placed : IsPlaced (length l.fn.self.agenda) l.self.places l.self.slots.items l.self.agenda;
  once : StandOnce l.self.places;
  same : rows l.self.slots.items (note_at l.self.agenda) ≡ rows l.fn.self.slots.items (note_at l.fn.self.agenda);
  long : length l.self.slots.items ≡ l.count;
  behind : l.to ≤ l.from;
  gap : (k : ℕ) → l.to ≤ k → k < l.from → slot l.self.slots.items k ≡ None;
}
