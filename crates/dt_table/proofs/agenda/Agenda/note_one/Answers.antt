use Rattle.std.proofs.Common.{ℕ, suc, ◌<◌, List, Option, length, set, sym, ap, subst, ◌∙◌}
use Rattle.dt_table.specs.Agendas.{HasRoom, Tables, note_at}
use Rattle.dt_table.proofs.Agendas.{one_here, one_other, one_room, place_there}
use Rattle.dt_table.proofs.agenda.Agenda.note_one.Goals as goal

pub set-requires : goal.set-requires
set-requires c = place_there c.self.inside.tables.items c.args.kind c.args.place c.index_mut-table.result.now c.index_mut-table.ensures.value (subst (λ (l : Tables). c.args.kind < length l) (sym c.self.view_is) c.requires.kind) c.args.moment (subst (λ (l : Tables). HasRoom (suc c.args.place) l) (sym c.self.view_is) c.requires.room)

pub returns-clause-here : goal.returns-clause-here
returns-clause-here c =
    ap (λ (t : List (Option ℕ)). note_at (set c.self.inside.tables.items c.args.kind t) c.args.place) c.set.ensures
    ∙ one_here c.self.inside.tables.items c.args.kind c.args.place c.index_mut-table.result.now c.index_mut-table.ensures.value (subst (λ (l : Tables). c.args.kind < length l) (sym c.self.view_is) c.requires.kind) c.args.moment (subst (λ (l : Tables). HasRoom (suc c.args.place) l) (sym c.self.view_is) c.requires.room)
    ∙ ap (λ (l : Tables). set (note_at l c.args.place) c.args.kind c.args.moment) c.self.view_is

pub returns-clause-others : goal.returns-clause-others
returns-clause-others c = λ i apart.
    ap (λ (t : List (Option ℕ)). note_at (set c.self.inside.tables.items c.args.kind t) i) c.set.ensures
    ∙ one_other c.self.inside.tables.items c.args.kind c.args.place c.index_mut-table.result.now c.index_mut-table.ensures.value (subst (λ (l : Tables). c.args.kind < length l) (sym c.self.view_is) c.requires.kind) c.args.moment i apart
    ∙ ap (λ (l : Tables). note_at l i) c.self.view_is

pub returns-clause-room : goal.returns-clause-room
returns-clause-room c = λ count room.
    subst (λ (t : List (Option ℕ)). HasRoom count (set c.self.inside.tables.items c.args.kind t)) (sym c.set.ensures) (one_room c.self.inside.tables.items c.args.kind c.args.place c.index_mut-table.result.now c.index_mut-table.ensures.value (subst (λ (l : Tables). c.args.kind < length l) (sym c.self.view_is) c.requires.kind) c.args.moment count (subst (λ (l : Tables). HasRoom count l) (sym c.self.view_is) room))
