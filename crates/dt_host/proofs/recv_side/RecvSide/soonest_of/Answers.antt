use Rattle.std.proofs.Common.{ℕ, ◌<◌, ◌≡◌, Some, None, sym, subst, ◌∙◌}
use Rattle.dt_recv.specs.Receivers.{ReceiverValue}
use Rattle.dt_units.specs.declared.endpoints.Flow.{Flow}
use Rattle.dt_world_model.specs.Tables.{earliest}
use Rattle.dt_host.specs.Notes.{recv_kinds, recv_place}
use Rattle.dt_host.specs.Sides.{RecvSideValue}
use Rattle.dt_host.specs.Soonest.{receiver_moment}
use Rattle.dt_host.proofs.RecvSides.{place_less, wake_none, wake_some}
use Rattle.dt_table.proofs.Agendas.{first_at, none_at}
use Rattle.dt_host.proofs.recv_side.RecvSide.soonest_of.Goals as goal

pub returns-in_err-moment : goal.returns-in_err-moment
returns-in_err-moment c =
    let h = c.self.inside in
    c.from_residual.ensures
    ∙ subst (λ (v : RecvSideValue). None ≡ earliest (λ (e : Flow × ReceiverValue). receiver_moment v.rules c.args.kind e.1) v.entries) c.self.view_is (sym (wake_none h.rules.value h.table.places h.table.slots.items h.table.agenda c.self.invariant c.args.kind (none_at h.table.agenda c.place_of.result (recv_place c.args.kind) c.place_of.ensures c.in_err-moment.ensures)))

pub returns : goal.returns
returns c =
    let h = c.self.inside in
    subst (λ (v : RecvSideValue). Some c.in_ok-moment.moment ≡ earliest (λ (e : Flow × ReceiverValue). receiver_moment v.rules c.args.kind e.1) v.entries) c.self.view_is (sym (wake_some h.rules.value h.table.places h.table.slots.items h.table.agenda c.self.invariant c.args.kind c.in_ok-moment.moment c.in_ok-moment.field-0-1 (first_at h.table.agenda c.place_of.result (recv_place c.args.kind) c.place_of.ensures c.in_ok-moment.moment c.in_ok-moment.field-0-1 c.in_ok-moment.ensures)))

pub first-requires : goal.first-requires
first-requires c = subst (λ (n : ℕ). c.place_of.result < n) (sym c.self.invariant.counted) (subst (λ (n : ℕ). n < recv_kinds) (sym c.place_of.ensures) (place_less c.args.kind))
