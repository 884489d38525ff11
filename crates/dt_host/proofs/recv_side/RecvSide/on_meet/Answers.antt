use Rattle.std.proofs.Common.{◌≡◌, refl, sym, ap, subst, ◌∙◌}
use Rattle.std.specs.Prelude.{IfSome, unwrap_or}
use Rattle.dt_units.specs.declared.parameters.Params.{Params}
use Rattle.dt_layout.specs.Carried.{IsGram}
use Rattle.dt_flow_model.specs.Frames.{reply_frame}
use Rattle.dt_flow_model.specs.ReceiveRecord.{Receiver, after_meet, answer_to_meet}
use Rattle.dt_world_model.specs.Host.{Host, host_with_receiver, receiver_at}
use Rattle.dt_host.specs.Notes.{recv_kinds}
use Rattle.dt_host.specs.Hosts.{receivers_of}
use Rattle.dt_table.specs.Places.{present}
use Rattle.dt_host.specs.Sides.{IsRecvKept, RecvSideValue}
use Rattle.dt_host.proofs.RecvTurns.{kept_meet, look_none, met_without, nothing, unchanged}
use Rattle.dt_host.proofs.RecvSides.{answer_here, gram_here, reply_here, side_set, step_after, step_entry}
use Rattle.dt_table.proofs.Tables.{Read, Written, never_empty, whole}
use Rattle.dt_host.proofs.recv_side.RecvSide.on_meet.Goals as goal

pub returns-in_default-clause-met : goal.returns-in_default-clause-met
returns-in_default-clause-met g c =
    let h = c.self.inside in
    let none = look_none c.args.flow.now (present h.table.slots.items) c.in_default.ensures.none in
    subst (λ (v : RecvSideValue). (host : Host) → (c.reply_without.result ≡ answer_to_meet v.rules (receiver_at (record host { receivers = receivers_of v.entries }) c.args.flow.now) c.args.number) × (record host { receivers = receivers_of v.entries } ≡ host_with_receiver (record host { receivers = receivers_of v.entries }) c.args.flow.now (after_meet v.rules (receiver_at (record host { receivers = receivers_of v.entries }) c.args.flow.now)))) c.self.view_is
    (λ host. ((rw c.deref.ensures at c.reply_without.ensures.answer) ∙ met_without h.rules.value c.args.number ∙ ap (λ (r : Receiver). answer_to_meet h.rules.value r c.args.number) (sym (nothing c.args.flow.now (present h.table.slots.items) none)), unchanged c.args.flow.now (present h.table.slots.items) none (λ (r : Receiver). after_meet h.rules.value r) refl host))

pub place-requires : goal.place-requires
place-requires g c = whole (IsRecvKept c.self.inside.rules.value) recv_kinds c.self.inside.table.places c.self.inside.table.slots.items c.self.inside.table.agenda c.self.invariant

pub invariant_of-self : goal.invariant_of-self
invariant_of-self g c =
    let h = c.self.inside in
    let at : Read h.table.places h.table.slots.items c.args.flow.now c.in-Some.place = record { once = c.place.ensures.once; place = c.in-Some.ensures.here; read = c.index_mut.result.now; from = c.index_mut.ensures.value; owner = c.in-Some-index_mut.field-0-0; value = c.in-Some-index_mut.receiver; is = c.in-Some-index_mut.is } in
    side_set h.rules.value h.table.places h.table.slots.items h.table.agenda c.self.invariant c.args.flow.now c.in-Some.place at c.on_meet-arrived.new.self (step_entry c.self.invariant at (λ (q : Params) (r : Receiver). after_meet q r) (kept_meet h.rules.value) c.on_meet-arrived.new.self c.on_meet-arrived.ensures.after) c.note.new.self c.note_of-note.result c.note.ensures.here c.note_of-note.ensures.note c.note.ensures.others c.note.ensures.room

pub returns-clause-met : goal.returns-clause-met
returns-clause-met g c =
    let h = c.self.inside in
    let at : Read h.table.places h.table.slots.items c.args.flow.now c.in-Some.place = record { once = c.place.ensures.once; place = c.in-Some.ensures.here; read = c.index_mut.result.now; from = c.index_mut.ensures.value; owner = c.in-Some-index_mut.field-0-0; value = c.in-Some-index_mut.receiver; is = c.in-Some-index_mut.is } in
    subst (λ (v : RecvSideValue). (host : Host) → (c.on_meet-arrived.result ≡ answer_to_meet v.rules (receiver_at (record host { receivers = receivers_of v.entries }) c.args.flow.now) c.args.number) × (record host { receivers = receivers_of (present (Written h.table.slots.items c.in-Some.place at.owner c.on_meet-arrived.new.self)) } ≡ host_with_receiver (record host { receivers = receivers_of v.entries }) c.args.flow.now (after_meet v.rules (receiver_at (record host { receivers = receivers_of v.entries }) c.args.flow.now)))) c.self.view_is
    (λ host. (c.on_meet-arrived.ensures.answer ∙ answer_here c.self.invariant at (λ (q : Params) (r : Receiver). answer_to_meet q r c.args.number), step_after c.self.invariant at (λ (q : Params) (r : Receiver). after_meet q r) (kept_meet h.rules.value) c.on_meet-arrived.new.self c.on_meet-arrived.ensures.after host))

pub returns-clause-reply : goal.returns-clause-reply
returns-clause-reply g c =
    let h = c.self.inside in
    let at : Read h.table.places h.table.slots.items c.args.flow.now c.in-Some.place = record { once = c.place.ensures.once; place = c.in-Some.ensures.here; read = c.index_mut.result.now; from = c.index_mut.ensures.value; owner = c.in-Some-index_mut.field-0-0; value = c.in-Some-index_mut.receiver; is = c.in-Some-index_mut.is } in
    subst (λ (v : RecvSideValue). c.on_meet-arrived.new.reply ≡ unwrap_or (reply_frame v.rules c.args.flow.now c.on_meet-arrived.result) c.args.reply.now) c.self.view_is
    (reply_here c.self.invariant at c.on_meet-arrived.result c.args.reply.now c.on_meet-arrived.new.reply c.on_meet-arrived.ensures.reply)

pub returns-clause-gram : goal.returns-clause-gram
returns-clause-gram g c =
    let h = c.self.inside in
    let at : Read h.table.places h.table.slots.items c.args.flow.now c.in-Some.place = record { once = c.place.ensures.once; place = c.in-Some.ensures.here; read = c.index_mut.result.now; from = c.index_mut.ensures.value; owner = c.in-Some-index_mut.field-0-0; value = c.in-Some-index_mut.receiver; is = c.in-Some-index_mut.is } in
    subst (λ (v : RecvSideValue). IfSome (reply_frame v.rules c.args.flow.now c.on_meet-arrived.result) (λ octets. IsGram octets)) c.self.view_is
    (gram_here c.self.invariant at c.on_meet-arrived.result c.on_meet-arrived.ensures.gram)

pub unreachable-requires : goal.unreachable-requires
unreachable-requires g c = never_empty (IsRecvKept c.self.inside.rules.value) recv_kinds c.self.inside.table.places c.self.inside.table.slots.items c.self.inside.table.agenda c.self.invariant c.place.ensures.once c.args.flow.now c.in-Some.place (sym c.in-Some.ensures.here) c.index_mut.result.now c.index_mut.ensures.value c.in_default-index_mut.is
