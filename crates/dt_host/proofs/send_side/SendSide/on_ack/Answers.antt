use Rattle.std.proofs.Common.{◌≡◌, refl, sym, subst}
use Rattle.std.specs.Option.{option_and_then}
use Rattle.dt_flow_model.specs.declared.arrivals.Arrived.TheVariants.{Acked, Dropped}
use Rattle.dt_flow_model.specs.SendRecord.{on_ack}
use Rattle.dt_world_model.specs.Host.{ack_answer, sender_at}
use Rattle.dt_host.specs.Notes.{send_kinds}
use Rattle.dt_host.specs.Hosts.{send_records}
use Rattle.dt_table.specs.Places.{present}
use Rattle.dt_host.specs.Sides.{IsSendKept, SendSideValue}
use Rattle.dt_host.proofs.SenderTables.{dropped}
use Rattle.dt_host.proofs.SendSides.{ack_ignored, ack_taken, all_send, entry_here, side_set}
use Rattle.dt_table.proofs.Tables.{Read, Written, never_empty, whole}
use Rattle.dt_host.proofs.send_side.SendSide.on_ack.Goals as goal

pub returns-in_default-clause-acked : goal.returns-in_default-clause-acked
returns-in_default-clause-acked g c = λ host.
    let h = c.self.inside in
    subst (λ (v : SendSideValue). ack_answer (record host { senders = send_records v.entries }) c.args.flow.now (option_and_then (λ x. on_ack v.rules x c.args.number c.args.window) (sender_at (record host { senders = send_records v.entries }) c.args.flow.now)) ≡ (Dropped, record host { senders = send_records v.entries })) c.self.view_is
    (dropped h.rules.value c.args.flow.now (present h.table.slots.items) (all_send h.rules.value h.latest.ms h.table.places h.table.slots.items h.table.agenda c.self.invariant) host (present h.table.slots.items) c.args.number c.args.window refl c.in_default.ensures.none)

pub place-requires : goal.place-requires
place-requires g c = whole (IsSendKept c.self.inside.rules.value c.self.inside.latest.ms) send_kinds c.self.inside.table.places c.self.inside.table.slots.items c.self.inside.table.agenda c.self.invariant

pub invariant_of-self : goal.invariant_of-self
invariant_of-self g c =
    let h = c.self.inside in
    let at : Read h.table.places h.table.slots.items c.args.flow.now c.in-Some.place = record { once = c.place.ensures.once; place = c.in-Some.ensures.here; read = c.index_mut.result.now; from = c.index_mut.ensures.value; owner = c.in-Some-index_mut.field-0-0; value = c.in-Some-index_mut.sender; is = c.in-Some-index_mut.is } in
    side_set h.rules.value h.latest.ms h.table.places h.table.slots.items h.table.agenda c.self.invariant c.args.flow.now c.in-Some.place at c.on_ack-acked.new.self (entry_here c.self.invariant at c.on_ack-acked.new.self c.on_ack-acked.ensures.others) c.note.new.self c.note_of-note.result c.note.ensures.here c.note_of-note.ensures.note c.note.ensures.others c.note.ensures.room

pub invariant_of-self-2 : goal.invariant_of-self-2
invariant_of-self-2 g c =
    let h = c.self.inside in
    let at : Read h.table.places h.table.slots.items c.args.flow.now c.in-Some.place = record { once = c.place.ensures.once; place = c.in-Some.ensures.here; read = c.index_mut.result.now; from = c.index_mut.ensures.value; owner = c.in-Some-index_mut.field-0-0; value = c.in-Some-index_mut.sender; is = c.in-Some-index_mut.is } in
    side_set h.rules.value h.latest.ms h.table.places h.table.slots.items h.table.agenda c.self.invariant c.args.flow.now c.in-Some.place at c.on_ack-acked.new.self (entry_here c.self.invariant at c.on_ack-acked.new.self c.on_ack-acked.ensures.others) c.note.new.self c.note_of-note.result c.note.ensures.here c.note_of-note.ensures.note c.note.ensures.others c.note.ensures.room

pub returns-in_default-acked-clause-acked : goal.returns-in_default-acked-clause-acked
returns-in_default-acked-clause-acked g c = λ host.
    let h = c.self.inside in
    let at : Read h.table.places h.table.slots.items c.args.flow.now c.in-Some.place = record { once = c.place.ensures.once; place = c.in-Some.ensures.here; read = c.index_mut.result.now; from = c.index_mut.ensures.value; owner = c.in-Some-index_mut.field-0-0; value = c.in-Some-index_mut.sender; is = c.in-Some-index_mut.is } in
    subst (λ (v : SendSideValue). ack_answer (record host { senders = send_records v.entries }) c.args.flow.now (option_and_then (λ x. on_ack v.rules x c.args.number c.args.window) (sender_at (record host { senders = send_records v.entries }) c.args.flow.now)) ≡ (Dropped, record host { senders = send_records (present (Written h.table.slots.items c.in-Some.place at.owner c.on_ack-acked.new.self)) })) c.self.view_is
    (ack_ignored c.self.invariant at host c.args.number c.args.window c.on_ack-acked.new.self c.in_default-acked.ensures.none c.in_default-acked.ensures.acked)

pub returns-clause-acked : goal.returns-clause-acked
returns-clause-acked g c = λ host.
    let h = c.self.inside in
    let at : Read h.table.places h.table.slots.items c.args.flow.now c.in-Some.place = record { once = c.place.ensures.once; place = c.in-Some.ensures.here; read = c.index_mut.result.now; from = c.index_mut.ensures.value; owner = c.in-Some-index_mut.field-0-0; value = c.in-Some-index_mut.sender; is = c.in-Some-index_mut.is } in
    subst (λ (v : SendSideValue). ack_answer (record host { senders = send_records v.entries }) c.args.flow.now (option_and_then (λ x. on_ack v.rules x c.args.number c.args.window) (sender_at (record host { senders = send_records v.entries }) c.args.flow.now)) ≡ (Acked c.in-Some-acked.count, record host { senders = send_records (present (Written h.table.slots.items c.in-Some.place at.owner c.on_ack-acked.new.self)) })) c.self.view_is
    (ack_taken c.self.invariant at host c.args.number c.args.window c.on_ack-acked.new.self c.in-Some-acked.count c.in-Some-acked.ensures.acked)

pub unreachable-requires : goal.unreachable-requires
unreachable-requires g c = never_empty (IsSendKept c.self.inside.rules.value c.self.inside.latest.ms) send_kinds c.self.inside.table.places c.self.inside.table.slots.items c.self.inside.table.agenda c.self.invariant c.place.ensures.once c.args.flow.now c.in-Some.place (sym c.in-Some.ensures.here) c.index_mut.result.now c.index_mut.ensures.value c.in_default-index_mut.is
