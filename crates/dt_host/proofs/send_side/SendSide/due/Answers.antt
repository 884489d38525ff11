use Rattle.std.proofs.Common.{ℕ, ◌<◌, sym, subst}
use Rattle.dt_host.specs.declared.dues.DueKind.TheVariants as due
use Rattle.dt_host.specs.Notes.{send_kinds, send_place}
use Rattle.dt_host.specs.Sides.{IsSendKept, SendSideValue}
use Rattle.dt_host.specs.Soonest.{IsQuiet, IsSoonest, sender_moment}
use Rattle.dt_table.proofs.Agendas.{first_at, none_at}
use Rattle.dt_host.proofs.SendSides.{exact_here, no_moment, place_less, quiet_all, quiet_yet, soonest_here}
use Rattle.dt_table.proofs.Tables.{first_stands, first_within}
use Rattle.dt_host.proofs.send_side.SendSide.due.Goals as goal

pub returns-in_err-moment-clause-quiet : goal.returns-in_err-moment-clause-quiet
returns-in_err-moment-clause-quiet c = λ none.
    let h = c.self.inside in
    subst (λ (v : SendSideValue). IsQuiet (sender_moment v.rules v.latest c.args.kind) v.latest v.entries) c.self.view_is (quiet_all h.rules.value h.latest.ms h.table.places h.table.slots.items h.table.agenda c.self.invariant c.args.kind (none_at h.table.agenda c.place_of.result (send_place c.args.kind) c.place_of.ensures c.in_err-moment.ensures))

pub returns-then-moment-self-clause-quiet : goal.returns-then-moment-self-clause-quiet
returns-then-moment-self-clause-quiet c = λ none.
    let h = c.self.inside in
    subst (λ (v : SendSideValue). IsQuiet (sender_moment v.rules v.latest c.args.kind) v.latest v.entries) c.self.view_is (quiet_yet h.rules.value h.latest.ms h.table.places h.table.slots.items h.table.agenda c.self.invariant c.args.kind c.in_ok-moment.moment c.in_ok-moment.place (first_at h.table.agenda c.place_of.result (send_place c.args.kind) c.place_of.ensures c.in_ok-moment.moment c.in_ok-moment.place c.in_ok-moment.ensures) c.if-moment-self.true)

pub first-requires : goal.first-requires
first-requires c =
    let h = c.self.inside in
    subst (λ (n : ℕ). c.place_of.result < n) (sym c.self.invariant.counted) (subst (λ (n : ℕ). n < send_kinds) (sym c.place_of.ensures) (place_less c.args.kind))

pub index-requires : goal.index-requires
index-requires c =
    let h = c.self.inside in
    let first = (first_at h.table.agenda c.place_of.result (send_place c.args.kind) c.place_of.ensures c.in_ok-moment.moment c.in_ok-moment.place c.in_ok-moment.ensures) in
    subst (λ (n : ℕ). c.in_ok-moment.place < n) (sym h.table.slots.ok.0) (first_within (IsSendKept h.rules.value h.latest.ms) send_kinds h.table.places h.table.slots.items h.table.agenda c.self.invariant (send_place c.args.kind) (no_moment c.args.kind) c.in_ok-moment.moment c.in_ok-moment.place first)

pub unreachable-requires : goal.unreachable-requires
unreachable-requires c =
    let h = c.self.inside in
    let first = (first_at h.table.agenda c.place_of.result (send_place c.args.kind) c.place_of.ensures c.in_ok-moment.moment c.in_ok-moment.place c.in_ok-moment.ensures) in
    first_stands (IsSendKept h.rules.value h.latest.ms) send_kinds h.table.places h.table.slots.items h.table.agenda c.self.invariant (send_place c.args.kind) (no_moment c.args.kind) c.in_ok-moment.moment c.in_ok-moment.place first c.index.result.now c.index.ensures c.in_default.is

pub returns-clause-found : goal.returns-clause-found
returns-clause-found c =
    let h = c.self.inside in
    let exact = exact_here h.rules.value h.latest.ms h.table.places h.table.slots.items h.table.agenda c.self.invariant c.args.kind c.in_ok-moment.moment c.in_ok-moment.place (first_at h.table.agenda c.place_of.result (send_place c.args.kind) c.place_of.ensures c.in_ok-moment.moment c.in_ok-moment.place c.in_ok-moment.ensures) c.index.result.now c.index.ensures c.in-Some.flow c.in-Some.field-0-1 c.in-Some.is c.requires.exact in
    subst (λ (v : SendSideValue). IsSoonest (sender_moment v.rules v.latest c.args.kind) v.latest v.entries (due.Send c.args.kind) (record { kind = due.Send c.args.kind; moment = c.in_ok-moment.moment; flow = c.in-Some.flow })) c.self.view_is
    (soonest_here h.rules.value h.latest.ms h.table.places h.table.slots.items h.table.agenda c.self.invariant c.args.kind c.in_ok-moment.moment c.in_ok-moment.place (first_at h.table.agenda c.place_of.result (send_place c.args.kind) c.place_of.ensures c.in_ok-moment.moment c.in_ok-moment.place c.in_ok-moment.ensures) c.index.result.now c.index.ensures c.in-Some.flow c.in-Some.field-0-1 c.in-Some.is c.if-moment-self.false exact)
