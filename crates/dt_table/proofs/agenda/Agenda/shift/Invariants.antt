use Rattle.std.proofs.Common.{ℕ, ◌≡◌, ◌≢◌}
use Rattle.dt_table.specs.Agendas.{HasRoom, note_at}
use Rattle.dt_table.proofs.Agendas.{blend}
use Rattle.dt_table.proofs.agenda.Agenda.shift.Given as goal

-- the moments so far are noted in the other place
abbrev pub invariant-loop-kind : goal.invariant-loop-kind
invariant-loop-kind l = record {
  to : note_at l.self l.to ≡ blend l.kind (note_at l.fn.self l.from) (note_at l.fn.self l.to);
  others : (i : ℕ) → i ≢ l.to → note_at l.self i ≡ note_at l.fn.self i;
  room : (count : ℕ) → HasRoom count l.fn.self → HasRoom count l.self;
}
