use Rattle.std.proofs.Common.{ℕ, ◌≡◌, length}
use Rattle.dt_table.specs.Agendas.{no_note, note_at}
use Rattle.dt_table.proofs.agenda.Agenda.new.Given as goal

-- so many tables so far, each without a place
abbrev pub invariant-loop-kind : goal.invariant-loop-kind
invariant-loop-kind l = record {
  long : length l.tables.items ≡ l._kind;
  none : (i : ℕ) → note_at l.tables.items i ≡ no_note l._kind;
}
