use Rattle.std.proofs.Common.{ℕ, ◌≡◌, ◌≢◌, length}
use Rattle.dt_table.specs.Agendas.{HasRoom, no_note, note_at}
use Rattle.dt_table.proofs.Agendas.{blend}
use Rattle.dt_table.proofs.agenda.Agenda.forget.Given as goal

-- of the kinds so far nothing is noted
abbrev pub invariant-loop-kind : goal.invariant-loop-kind
invariant-loop-kind l = record {
  here : note_at l.self l.place ≡ blend l.kind (no_note (length l.fn.self)) (note_at l.fn.self l.place);
  others : (i : ℕ) → i ≢ l.place → note_at l.self i ≡ note_at l.fn.self i;
  room : (count : ℕ) → HasRoom count l.fn.self → HasRoom count l.self;
}
