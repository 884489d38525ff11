use Rattle.std.proofs.Common.{ℕ, ◌<◌, length, sym, subst}
use Rattle.dt_table.proofs.Closing.{gone_placed, its_within, room_at}
use Rattle.dt_table.proofs.table.Table.remove.Goals as goal

pub index_mut-requires : goal.index_mut-requires
index_mut-requires g c =
    let t = c.args.self.now in
    subst (λ (n : ℕ). c.args.place < n) (sym t.slots.ok.0) (its_within (length t.agenda) t.places t.slots.items t.agenda c.requires.placed c.args.flow.now c.args.place c.requires.here)

pub forget-requires : goal.forget-requires
forget-requires g c =
    let t = c.args.self.now in
    room_at (length t.agenda) t.places t.slots.items t.agenda c.requires.placed c.args.place (its_within (length t.agenda) t.places t.slots.items t.agenda c.requires.placed c.args.flow.now c.args.place c.requires.here)

pub returns-clause-placed : goal.returns-clause-placed
returns-clause-placed g c =
    let t = c.args.self.now in
    gone_placed (length t.agenda) t.places t.slots.items t.agenda c.requires.placed c.args.flow.now c.args.place c.requires.here c.leave.new.self c.leave.ensures c.forget.new.self c.forget.ensures.here c.forget.ensures.others c.forget.ensures.room
