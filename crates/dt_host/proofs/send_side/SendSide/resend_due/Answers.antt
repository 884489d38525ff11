use Rattle.std.proofs.Common.{ℕ, ◌≡◌, ◌<◌, Some, refl, sym, ap, subst, ◌∙◌, arith}
use Rattle.dt_flow_model.specs.declared.acts.SendKind.TheVariants.{Resend}
use Rattle.dt_host.specs.declared.dues.DueKind.TheVariants as due
use Rattle.dt_host.specs.Notes.{send_kinds}
use Rattle.dt_host.specs.Hosts.{send_records}
use Rattle.dt_table.specs.Places.{present}
use Rattle.dt_host.specs.Sides.{IsSendKept, SendSideValue}
use Rattle.dt_host.specs.Soonest.{IsQuiet, IsSoonest, missed_senders, sender_moment}
use Rattle.dt_table.proofs.Slots.{notes_in}
use Rattle.dt_host.proofs.SendSides.{are_send_noted, less_stale, noted_in, quiet_all, quiet_yet, resend_here, resend_is, righted_side, soonest_here}
use Rattle.dt_table.proofs.Tables.{first_room, first_stands, first_within}
use Rattle.dt_host.proofs.Stale.{compared_apart, compared_same, stale_most}
use Rattle.dt_host.proofs.send_side.SendSide.resend_due.Goals as goal

pub loop-moment-init : goal.loop-moment-init
loop-moment-init g c =
    let h = c.self.inside in
    let most = stale_most h.rules.value h.latest.ms (send_records (present h.table.slots.items)) (notes_in h.table.slots.items (noted_in h.table.agenda)) (are_send_noted h.rules.value h.latest.ms h.table.places h.table.slots.items h.table.agenda c.self.invariant) in
    record { side = c.self.invariant; same = c.self.view_is; looks = omega arith }

pub returns-then-moment-self-clause-quiet : goal.returns-then-moment-self-clause-quiet
returns-then-moment-self-clause-quiet g c = λ none.
    let h = c.loop-moment.self-inside in
    subst (λ (v : SendSideValue). IsQuiet (sender_moment v.rules v.latest Resend) v.latest v.entries) c.loop-moment.invariant.same (quiet_yet h.rules.value h.latest.ms h.table.places h.table.slots.items h.table.agenda c.loop-moment.invariant.side Resend c.in-Some.moment c.in-Some.place c.in-Some.ensures c.if-moment-self.true)

pub returns-then-moment-self-clause-same : goal.returns-then-moment-self-clause-same
returns-then-moment-self-clause-same g c = c.loop-moment.invariant.same

pub returns-then-eq-clause-same : goal.returns-then-eq-clause-same
returns-then-eq-clause-same g c = c.loop-moment.invariant.same

pub returns-clause-same : goal.returns-clause-same
returns-clause-same g c = c.loop-moment.invariant.same

pub returns-then-moment-self-clause-looks : goal.returns-then-moment-self-clause-looks
returns-then-moment-self-clause-looks g c =
    let looks = c.loop-moment.invariant.looks in
    let most = ap (λ (v : SendSideValue). missed_senders v.rules v.latest (send_records v.entries)) c.loop-moment.invariant.same in
    omega arith

pub returns-then-moment-self-clause-none : goal.returns-then-moment-self-clause-none
returns-then-moment-self-clause-none g c = λ none.
    let looks = c.loop-moment.invariant.looks in
    let most = ap (λ (v : SendSideValue). missed_senders v.rules v.latest (send_records v.entries)) c.loop-moment.invariant.same in
    omega arith

pub index-requires : goal.index-requires
index-requires g c =
    let h = c.loop-moment.self-inside in
    subst (λ (n : ℕ). c.in-Some.place < n) (sym h.table.slots.ok.0) (first_within (IsSendKept h.rules.value h.latest.ms) send_kinds h.table.places h.table.slots.items h.table.agenda c.loop-moment.invariant.side 2 refl c.in-Some.moment c.in-Some.place c.in-Some.ensures)

pub unreachable-requires : goal.unreachable-requires
unreachable-requires g c =
    let h = c.loop-moment.self-inside in
    first_stands (IsSendKept h.rules.value h.latest.ms) send_kinds h.table.places h.table.slots.items h.table.agenda c.loop-moment.invariant.side 2 refl c.in-Some.moment c.in-Some.place c.in-Some.ensures c.index.result.now c.index.ensures c.in_default-index.is

pub returns-then-eq-clause-found : goal.returns-then-eq-clause-found
returns-then-eq-clause-found g c =
    let h = c.loop-moment.self-inside in
    let resend = resend_is h.rules.value h.latest.ms h.table.places h.table.slots.items h.table.agenda c.loop-moment.invariant.side c.in-Some.moment c.in-Some.place c.in-Some.ensures c.index.result.now c.index.ensures c.in-Some-index.flow c.in-Some-index.sender c.in-Some-index.is c.moments-resend.result c.moments-resend.ensures.moments in
    let due_now : c.moments-resend.result.resend ≡ Some c.in-Some.moment = compared_same c.moments-resend.result.resend c.in-Some.moment c.if-eq.ensures in
    subst (λ (v : SendSideValue). IsSoonest (sender_moment v.rules v.latest Resend) v.latest v.entries (due.Send Resend) (record { kind = due.Send Resend; moment = c.in-Some.moment; flow = c.in-Some-index.flow })) c.loop-moment.invariant.same
    (soonest_here h.rules.value h.latest.ms h.table.places h.table.slots.items h.table.agenda c.loop-moment.invariant.side Resend c.in-Some.moment c.in-Some.place c.in-Some.ensures c.index.result.now c.index.ensures c.in-Some-index.flow c.in-Some-index.sender c.in-Some-index.is c.if-moment-self.false (sym resend ∙ due_now))

pub returns-then-eq-clause-looks : goal.returns-then-eq-clause-looks
returns-then-eq-clause-looks g c =
    let looks = c.loop-moment.invariant.looks in
    let one = c.moments-resend.ensures.looks in
    let most = ap (λ (v : SendSideValue). missed_senders v.rules v.latest (send_records v.entries)) c.loop-moment.invariant.same in
    omega arith

pub note_one-requires-clause-room : goal.note_one-requires-clause-room
note_one-requires-clause-room g c =
    let h = c.loop-moment.self-inside in
    first_room (IsSendKept h.rules.value h.latest.ms) send_kinds h.table.places h.table.slots.items h.table.agenda c.loop-moment.invariant.side 2 refl c.in-Some.moment c.in-Some.place c.in-Some.ensures

pub loop-moment-smaller : goal.loop-moment-smaller
loop-moment-smaller g c =
    let h = c.loop-moment.self-inside in
    let resend = resend_is h.rules.value h.latest.ms h.table.places h.table.slots.items h.table.agenda c.loop-moment.invariant.side c.in-Some.moment c.in-Some.place c.in-Some.ensures c.index.result.now c.index.ensures c.in-Some-index.flow c.in-Some-index.sender c.in-Some-index.is c.moments-resend.result c.moments-resend.ensures.moments in
    let apart = compared_apart c.moments-resend.result.resend c.in-Some.moment c.if-eq.ensures in
    let here = resend_here h.table.agenda c.note_one.new.self c.in-Some.place c.moments-resend.result.resend c.loop-moment.invariant.side.counted c.note_one.ensures.here in
    let less = less_stale h.rules.value h.latest.ms h.table.places h.table.slots.items h.table.agenda c.loop-moment.invariant.side c.in-Some.moment c.in-Some.place c.in-Some.ensures c.index.result.now c.index.ensures c.in-Some-index.flow c.in-Some-index.sender c.in-Some-index.is c.moments-resend.result.resend resend c.note_one.new.self here c.note_one.ensures.others apart in
    omega arith

pub loop-moment-preserved : goal.loop-moment-preserved
loop-moment-preserved g c =
    let h = c.loop-moment.self-inside in
    let resend = resend_is h.rules.value h.latest.ms h.table.places h.table.slots.items h.table.agenda c.loop-moment.invariant.side c.in-Some.moment c.in-Some.place c.in-Some.ensures c.index.result.now c.index.ensures c.in-Some-index.flow c.in-Some-index.sender c.in-Some-index.is c.moments-resend.result c.moments-resend.ensures.moments in
    let apart = compared_apart c.moments-resend.result.resend c.in-Some.moment c.if-eq.ensures in
    let here = resend_here h.table.agenda c.note_one.new.self c.in-Some.place c.moments-resend.result.resend c.loop-moment.invariant.side.counted c.note_one.ensures.here in
    let less = less_stale h.rules.value h.latest.ms h.table.places h.table.slots.items h.table.agenda c.loop-moment.invariant.side c.in-Some.moment c.in-Some.place c.in-Some.ensures c.index.result.now c.index.ensures c.in-Some-index.flow c.in-Some-index.sender c.in-Some-index.is c.moments-resend.result.resend resend c.note_one.new.self here c.note_one.ensures.others apart in
    let one = c.moments-resend.ensures.looks in
    let looks = c.loop-moment.invariant.looks in
    record {
      side = righted_side h.rules.value h.latest.ms h.table.places h.table.slots.items h.table.agenda c.loop-moment.invariant.side c.in-Some.moment c.in-Some.place c.in-Some.ensures c.index.result.now c.index.ensures c.in-Some-index.flow c.in-Some-index.sender c.in-Some-index.is c.moments-resend.result.resend resend c.note_one.new.self here c.note_one.ensures.others c.note_one.ensures.room;
      same = c.loop-moment.invariant.same;
      looks = omega arith;
    }

pub returns-clause-quiet : goal.returns-clause-quiet
returns-clause-quiet g c = λ none.
    let h = c.loop-moment.self-inside in
    subst (λ (v : SendSideValue). IsQuiet (sender_moment v.rules v.latest Resend) v.latest v.entries) c.loop-moment.invariant.same (quiet_all h.rules.value h.latest.ms h.table.places h.table.slots.items h.table.agenda c.loop-moment.invariant.side Resend c.in_default.ensures)

pub returns-clause-looks : goal.returns-clause-looks
returns-clause-looks g c =
    let looks = c.loop-moment.invariant.looks in
    let most = ap (λ (v : SendSideValue). missed_senders v.rules v.latest (send_records v.entries)) c.loop-moment.invariant.same in
    omega arith

pub returns-clause-none : goal.returns-clause-none
returns-clause-none g c = λ none.
    let looks = c.loop-moment.invariant.looks in
    let most = ap (λ (v : SendSideValue). missed_senders v.rules v.latest (send_records v.entries)) c.loop-moment.invariant.same in
    omega arith

pub invariant_of-self : goal.invariant_of-self
invariant_of-self g c = c.loop-moment.invariant.side

pub invariant_of-self-then-eq : goal.invariant_of-self-then-eq
invariant_of-self-then-eq g c = c.loop-moment.invariant.side

pub invariant_of-self-in_default : goal.invariant_of-self-in_default
invariant_of-self-in_default g c = c.loop-moment.invariant.side

pub first-requires : goal.first-requires
first-requires g c = let e = c.loop-moment.invariant.side.counted in omega arith

pub note_one-requires-clause-kind : goal.note_one-requires-clause-kind
note_one-requires-clause-kind g c = let e = c.loop-moment.invariant.side.counted in omega arith
