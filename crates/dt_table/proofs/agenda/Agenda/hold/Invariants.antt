use Rattle.std.proofs.Common.{ℕ, suc, ◌≡◌, take}
use Rattle.dt_table.specs.Agendas.{HasRoom, note_at}
use Rattle.dt_table.proofs.agenda.Agenda.hold.Given as goal

-- the tables so far have one place more, and none has lost one
abbrev pub invariant-loop-kind : goal.invariant-loop-kind
invariant-loop-kind l = record {
  more : HasRoom (suc l.count) (take l.kind l.self-inside.tables.items);
  room : HasRoom l.count l.self-inside.tables.items;
  same : (i : ℕ) → note_at l.self-inside.tables.items i ≡ note_at l.fn.self i;
  held : HasRoom (suc l.count) l.fn.self → HasRoom (suc l.count) l.self-inside.tables.items;
}
