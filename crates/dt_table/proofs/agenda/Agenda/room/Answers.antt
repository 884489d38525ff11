use Rattle.std.proofs.Common.{◌≡◌, ◌-◌, Some, length, sym, ap, subst, ◌∙◌, arith}
use Rattle.std.specs.Prelude.{slice_get}
use Rattle.dt_table.specs.Agendas.{HasRoom, Tables}
use Rattle.dt_table.proofs.Agendas.{got_there, room_got}
use Rattle.dt_table.proofs.agenda.Agenda.room.Goals as goal

pub returns-in-Some : goal.returns-in-Some
returns-in-Some c = λ count some room.
    let ts = c.deref.result.now in
    let got : slice_get ts (length ts - 1) ≡ Some c.in-Some.table.now = sym c.in-Some.ensures.value in
    let long = room_got count ts (length ts - 1) c.in-Some.table.now got (subst (λ (l : Tables). HasRoom count l) (sym (c.deref.ensures.value ∙ c.self.view_is)) room) in
    omega (arith, long, c.room.ensures)

pub returns-in-None : goal.returns-in-None
returns-in-None c = λ count some room.
    let ts = c.deref.result.now in
    let long = ap (λ (l : Tables). length l) (c.deref.ensures.value ∙ c.self.view_is) in
    absurd (got_there ts (length ts - 1) (omega (arith, some, long)) (sym c.in-None.ensures.value))
