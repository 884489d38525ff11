use Rattle.std.proofs.Common.{◌≡◌, [], None, length, refl, sym, ap, subst, ◌∙◌, arith}
use Rattle.std.specs.Prelude.{nat_le, IfErr, IfSome, Result, Ok, Err, unwrap_or}
use Rattle.std.specs.Map.{lookup}
use Rattle.dt_items.specs.declared.memory.NoMemory.{NoMemory}
use Rattle.dt_items.specs.Unread.{items_of}
use Rattle.dt_units.specs.declared.parameters.Params.{Params}
use Rattle.dt_layout.specs.Carried.{IsGram}
use Rattle.dt_flow_model.specs.declared.arrivals.Arrived.{Arrived}
use Rattle.dt_flow_model.specs.declared.arrivals.Arrived.TheVariants.{Dropped}
use Rattle.dt_flow_model.specs.declared.arrivals.Action.TheVariants.{Make}
use Rattle.dt_flow_model.specs.Frames.{reply_frame}
use Rattle.dt_flow_model.specs.ReceiveRecord.{Receiver, action_on, after_data, answer_to_data}
use Rattle.dt_world_model.specs.Host.{Host, receiver_at}
use Rattle.dt_world_model.specs.Tables.{look, same_flow}
use Rattle.dt_host.specs.Notes.{recv_kinds}
use Rattle.dt_host.specs.Answers.{IsDataAnswer, IsDataTaken}
use Rattle.dt_host.specs.Hosts.{receivers_of}
use Rattle.dt_table.specs.Places.{equal_flows, present}
use Rattle.dt_host.specs.Sides.{IsRecvKept, RecvSideValue}
use Rattle.dt_host.proofs.RecvTurns.{drops, kept_data, looked_without, made_without, dropped_alone, told_alone}
use Rattle.dt_host.proofs.RecvSides.{answer_here, gram_here, reply_here, side_set, step_after, step_entry}
use Rattle.dt_table.proofs.Tables.{Read, Written, never_empty, whole}
use Rattle.dt_host.proofs.recv_side.RecvSide.on_data.Goals as goal

if_err : (r : Result Arrived NoMemory) → {P : Type 0} → P → IfErr r (λ _. P)
if_err (Ok done) h = tt
if_err (Err why) h = h

pub place-requires : goal.place-requires
place-requires g c = whole (IsRecvKept c.self.inside.rules.value) recv_kinds c.self.inside.table.places c.self.inside.table.slots.items c.self.inside.table.agenda c.self.invariant

pub unreachable-requires : goal.unreachable-requires
unreachable-requires g c = never_empty (IsRecvKept c.self.inside.rules.value) recv_kinds c.self.inside.table.places c.self.inside.table.slots.items c.self.inside.table.agenda c.self.invariant c.place.ensures.once c.args.flow.now c.in-Some.place (sym c.in-Some.ensures.here) c.index_mut.result.now c.index_mut.ensures.value c.in_default-index_mut.is

pub invariant_of-self : goal.invariant_of-self
invariant_of-self g c =
    let h = c.self.inside in
    let at : Read h.table.places h.table.slots.items c.args.flow.now c.in-Some.place = record { once = c.place.ensures.once; place = c.in-Some.ensures.here; read = c.index_mut.result.now; from = c.index_mut.ensures.value; owner = c.in-Some-index_mut.field-0-0; value = c.in-Some-index_mut.receiver; is = c.in-Some-index_mut.is } in
    let k = c.args.segment.now in
    let items = items_of k.payload in
    let entry = step_entry c.self.invariant at (λ (q : Params) (r : Receiver). after_data q h.latest.ms r k.drf k.number items) (kept_data h.rules.value h.latest.ms k.drf k.number items) c.on_segment-arrived.new.self c.on_segment-arrived.ensures.after in
    side_set h.rules.value h.table.places h.table.slots.items h.table.agenda c.self.invariant c.args.flow.now c.in-Some.place at c.on_segment-arrived.new.self entry c.note.new.self c.note_of-note.result c.note.ensures.here c.note_of-note.ensures.note c.note.ensures.others c.note.ensures.room

pub returns-in-Some : goal.returns-in-Some
returns-in-Some g c =
    let h = c.self.inside in
    let at : Read h.table.places h.table.slots.items c.args.flow.now c.in-Some.place = record { once = c.place.ensures.once; place = c.in-Some.ensures.here; read = c.index_mut.result.now; from = c.index_mut.ensures.value; owner = c.in-Some-index_mut.field-0-0; value = c.in-Some-index_mut.receiver; is = c.in-Some-index_mut.is } in
    let k = c.args.segment.now in
    let items = items_of k.payload in
    record {
      answer =
          subst (λ (v : RecvSideValue). IsDataAnswer v.rules c.args.flow.now k.drf k.number items v.entries (Ok c.on_segment-arrived.result)) c.self.view_is
          (λ host. c.on_segment-arrived.ensures.answer ∙ answer_here c.self.invariant at (λ (q : Params) (r : Receiver). answer_to_data q r k.drf k.number items));
      after =
          subst (λ (v : RecvSideValue). IsDataTaken v.rules v.latest c.args.flow.now k.drf k.number items v.entries (present (Written h.table.slots.items c.in-Some.place at.owner c.on_segment-arrived.new.self)) (Ok c.on_segment-arrived.result)) c.self.view_is
          (λ host. step_after c.self.invariant at (λ (q : Params) (r : Receiver). after_data q h.latest.ms r k.drf k.number items) (kept_data h.rules.value h.latest.ms k.drf k.number items) c.on_segment-arrived.new.self c.on_segment-arrived.ensures.after host);
      reply =
          subst (λ (v : RecvSideValue). c.on_segment-arrived.new.reply ≡ unwrap_or (reply_frame v.rules c.args.flow.now c.on_segment-arrived.result) c.args.reply.now) c.self.view_is
          (reply_here c.self.invariant at c.on_segment-arrived.result c.args.reply.now c.on_segment-arrived.new.reply c.on_segment-arrived.ensures.reply);
      gram =
          subst (λ (v : RecvSideValue). IfSome (reply_frame v.rules c.args.flow.now c.on_segment-arrived.result) (λ octets. IsGram octets)) c.self.view_is
          (gram_here c.self.invariant at c.on_segment-arrived.result c.on_segment-arrived.ensures.gram);
      same = ap (λ (v : RecvSideValue). let w : RecvSideValue = record v { entries = (present (Written h.table.slots.items c.in-Some.place at.owner c.on_segment-arrived.new.self)) } in w) c.self.view_is;
      memory = λ host. tt;
      looks = (let one = c.on_segment-arrived.ensures.looks in let two = c.note_of-note.ensures.looks in omega arith);
    }

pub make-requires-clause-none : goal.make-requires-clause-none
make-requires-clause-none g c =
    let h = c.self.inside in
    subst (λ (v : RecvSideValue). lookup (equal_flows c.args.flow.now) v.entries ≡ None) c.self.view_is c.in_default.ensures.none

pub make-requires-clause-makes : goal.make-requires-clause-makes
make-requires-clause-makes g c =
    let h = c.self.inside in
    let k = c.args.segment.now in
    let items = items_of k.payload in
    let looked = looked_without h.rules.value k.drf k.number k.payload.octets.now k.payload.begin k.payload.end c.params.result.now c.action.result (c.params.ensures.same ∙ c.deref.ensures) c.action.ensures in
    subst (λ (v : RecvSideValue). action_on v.rules (record { unread = []; standing = None }) k.drf k.number items ≡ Make) c.self.view_is (sym looked ∙ c.in-Make.is)

pub returns-in-Make-clause-memory : goal.returns-in-Make-clause-memory
returns-in-Make-clause-memory g c =
    let h = c.self.inside in
    let k = c.args.segment.now in
    let items = items_of k.payload in
    let absent = c.in_default.ensures.none in
    let looked = looked_without h.rules.value k.drf k.number k.payload.octets.now k.payload.begin k.payload.end c.params.result.now c.action.result (c.params.ensures.same ∙ c.deref.ensures) c.action.ensures in
    subst (λ (v : RecvSideValue). (host : Host) → IfErr c.make.result (λ _. (look same_flow c.args.flow.now (receivers_of v.entries) ≡ None) × (action_on v.rules (receiver_at (record host { receivers = receivers_of v.entries }) c.args.flow.now) k.drf k.number items ≡ Make))) c.self.view_is
    (λ host. if_err c.make.result (made_without c.args.flow.now (present h.table.slots.items) absent h.rules.value k.drf k.number items (sym looked ∙ c.in-Make.is)))

pub returns-in-TellNumber-clause-answer : goal.returns-in-TellNumber-clause-answer
returns-in-TellNumber-clause-answer g c =
    let h = c.self.inside in
    let k = c.args.segment.now in
    let items = items_of k.payload in
    let absent = c.in_default.ensures.none in
    let looked = looked_without h.rules.value k.drf k.number k.payload.octets.now k.payload.begin k.payload.end c.params.result.now c.action.result (c.params.ensures.same ∙ c.deref.ensures) c.action.ensures in
    subst (λ (v : RecvSideValue). IsDataAnswer v.rules c.args.flow.now k.drf k.number items v.entries (Ok c.reply_without.result)) c.self.view_is
    (λ host. (rw c.deref-in-TellNumber.ensures at c.reply_without.ensures.answer) ∙ (told_alone c.args.flow.now (present h.table.slots.items) absent h.rules.value h.latest.ms k.drf k.number items (sym looked ∙ c.in-TellNumber.is) host).0)

pub returns-in-TellNumber-clause-after : goal.returns-in-TellNumber-clause-after
returns-in-TellNumber-clause-after g c =
    let h = c.self.inside in
    let k = c.args.segment.now in
    let items = items_of k.payload in
    let absent = c.in_default.ensures.none in
    let looked = looked_without h.rules.value k.drf k.number k.payload.octets.now k.payload.begin k.payload.end c.params.result.now c.action.result (c.params.ensures.same ∙ c.deref.ensures) c.action.ensures in
    subst (λ (v : RecvSideValue). IsDataTaken v.rules v.latest c.args.flow.now k.drf k.number items v.entries v.entries (Ok c.reply_without.result)) c.self.view_is
    (λ host. (told_alone c.args.flow.now (present h.table.slots.items) absent h.rules.value h.latest.ms k.drf k.number items (sym looked ∙ c.in-TellNumber.is) host).1)

pub returns-in_default-action : goal.returns-in_default-action
returns-in_default-action g c =
    let h = c.self.inside in
    let k = c.args.segment.now in
    let items = items_of k.payload in
    let absent = c.in_default.ensures.none in
    let looked = looked_without h.rules.value k.drf k.number k.payload.octets.now k.payload.begin k.payload.end c.params.result.now c.action.result (c.params.ensures.same ∙ c.deref.ensures) c.action.ensures in
    let is = sym looked ∙ drops k.drf (nat_le (length k.payload.octets.now) c.params.result.now.rcap) c.action.result c.action.ensures c.in_default-action.not-Make c.in_default-action.not-TellNumber in
    let alone = dropped_alone c.args.flow.now (present h.table.slots.items) absent h.rules.value h.latest.ms k.drf k.number items is in
    record {
      answer = subst (λ (v : RecvSideValue). IsDataAnswer v.rules c.args.flow.now k.drf k.number items v.entries (Ok Dropped)) c.self.view_is (λ host. (alone host).0);
      after = subst (λ (v : RecvSideValue). IsDataTaken v.rules v.latest c.args.flow.now k.drf k.number items v.entries v.entries (Ok Dropped)) c.self.view_is (λ host. (alone host).1);
      reply = refl;
      gram = tt;
      same = refl;
      memory = λ host. tt;
      looks = omega arith;
    }
