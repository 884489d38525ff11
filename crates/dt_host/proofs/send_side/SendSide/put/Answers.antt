use Rattle.std.proofs.Common.{◌≡◌, ◌+◌, ◌<◌, length, None, false, sym, ap, subst, ◌∙◌}
use Rattle.std.proofs.lemmas.Result.{err_from_is_err_and}
use Rattle.std.specs.Prelude.{IfErr, Result, Ok, Err}
use Rattle.std.specs.Map.{lookup}
use Rattle.dt_items.specs.Unread.{marked}
use Rattle.dt_flow_model.specs.Keeping.{octets_below, taken_by}
use Rattle.dt_flow_model.specs.Acting.{record_for}
use Rattle.dt_world_model.specs.Tables.{look, same_flow}
use Rattle.dt_host.specs.Notes.{send_kinds}
use Rattle.dt_host.specs.Answers.{IsSent}
use Rattle.dt_host.specs.Hosts.{send_records}
use Rattle.dt_host.specs.declared.faults.SendFault.{SendFault}
use Rattle.dt_table.specs.Places.{equal_flows, present}
use Rattle.dt_host.specs.Sides.{IsSendKept, SendSideValue}
use Rattle.dt_send.specs.Senders.{SenderValue}
use Rattle.dt_host.proofs.SenderTables.{none_is}
use Rattle.dt_host.proofs.SendSides.{all_send, counted_here, entry_here, put_refused, put_taken, side_set}
use Rattle.dt_table.proofs.Tables.{Read, Written, never_empty, whole}
use Rattle.dt_host.proofs.send_side.SendSide.put.Goals as goal

if_err : (r : Result (Unit {0}) SendFault) → {P : SendFault → Type 0} → ((why : SendFault) → P why) → IfErr r P
if_err (Ok done) h = tt
if_err (Err why) h = h why

pub make-requires-clause-none : goal.make-requires-clause-none
make-requires-clause-none g c =
    let h = c.self.inside in
    subst (λ (v : SendSideValue). lookup (equal_flows c.args.flow.now) v.entries ≡ None) c.self.view_is c.in_default.ensures.none

pub returns-in_default-clause-memory : goal.returns-in_default-clause-memory
returns-in_default-clause-memory g c =
    let h = c.self.inside in
    let gone = none_is h.rules.value c.args.flow.now (present h.table.slots.items) (all_send h.rules.value h.latest.ms h.table.places h.table.slots.items h.table.agenda c.self.invariant) c.in_default.ensures.none in
    if_err c.make.result (λ why is. subst (λ (v : SendSideValue). look same_flow c.args.flow.now (send_records v.entries) ≡ None) c.self.view_is gone)

pub place-requires : goal.place-requires
place-requires g c = whole (IsSendKept c.self.inside.rules.value c.self.inside.latest.ms) send_kinds c.self.inside.table.places c.self.inside.table.slots.items c.self.inside.table.agenda c.self.invariant

pub put-put-requires : goal.put-put-requires
put-put-requires g c =
    let h = c.self.inside in
    let at : Read h.table.places h.table.slots.items c.args.flow.now c.in-Some.place = record { once = c.place.ensures.once; place = c.in-Some.ensures.here; read = c.index_mut.result.now; from = c.index_mut.ensures.value; owner = c.in-Some-index_mut.field-0-0; value = c.in-Some-index_mut.sender; is = c.in-Some-index_mut.is } in
    let k = c.args.asked.now in
    let counted = subst (λ (v : SendSideValue). taken_by (record_for v.rules v.latest (look same_flow c.args.flow.now (send_records v.entries))) + length k.octets.now < octets_below) (sym c.self.view_is) c.requires.counted in
    counted_here c.self.invariant at k.octets.now k.begin k.end (length k.octets.now) counted

pub invariant_of-self : goal.invariant_of-self
invariant_of-self g c =
    let h = c.self.inside in
    let at : Read h.table.places h.table.slots.items c.args.flow.now c.in-Some.place = record { once = c.place.ensures.once; place = c.in-Some.ensures.here; read = c.index_mut.result.now; from = c.index_mut.ensures.value; owner = c.in-Some-index_mut.field-0-0; value = c.in-Some-index_mut.sender; is = c.in-Some-index_mut.is } in
    side_set h.rules.value h.latest.ms h.table.places h.table.slots.items h.table.agenda c.self.invariant c.args.flow.now c.in-Some.place at c.put-put.new.self (entry_here c.self.invariant at c.put-put.new.self (c.put-put.ensures.after ∙ ap (λ (s : SenderValue). let w : SenderValue = record at.value { state = s.state } in w) (sym c.put-put.ensures.after))) c.note.new.self c.note_of-note.result c.note.ensures.here c.note_of-note.ensures.note c.note.ensures.others c.note.ensures.room

pub invariant_of-self-2 : goal.invariant_of-self-2
invariant_of-self-2 g c =
    let h = c.self.inside in
    let at : Read h.table.places h.table.slots.items c.args.flow.now c.in-Some.place = record { once = c.place.ensures.once; place = c.in-Some.ensures.here; read = c.index_mut.result.now; from = c.index_mut.ensures.value; owner = c.in-Some-index_mut.field-0-0; value = c.in-Some-index_mut.sender; is = c.in-Some-index_mut.is } in
    side_set h.rules.value h.latest.ms h.table.places h.table.slots.items h.table.agenda c.self.invariant c.args.flow.now c.in-Some.place at c.put-put.new.self (entry_here c.self.invariant at c.put-put.new.self (c.put-put.ensures.after ∙ ap (λ (s : SenderValue). let w : SenderValue = record at.value { state = s.state } in w) (sym c.put-put.ensures.after))) c.note.new.self c.note_of-note.result c.note.ensures.here c.note_of-note.ensures.note c.note.ensures.others c.note.ensures.room

pub returns-in_err-put-clause-sent : goal.returns-in_err-put-clause-sent
returns-in_err-put-clause-sent g c =
    let h = c.self.inside in
    let at : Read h.table.places h.table.slots.items c.args.flow.now c.in-Some.place = record { once = c.place.ensures.once; place = c.in-Some.ensures.here; read = c.index_mut.result.now; from = c.index_mut.ensures.value; owner = c.in-Some-index_mut.field-0-0; value = c.in-Some-index_mut.sender; is = c.in-Some-index_mut.is } in
    let k = c.args.asked.now in
    let err = err_from_is_err_and c.from_residual.result c.from_residual.ensures.1 in
    subst (λ (v : SendSideValue). IsSent v.rules v.latest c.args.flow.now (marked k.octets.now k.begin k.end false) v.entries (present (Written h.table.slots.items c.in-Some.place at.owner c.put-put.new.self)) c.from_residual.result) c.self.view_is
    (put_refused c.self.invariant at k.octets.now k.begin k.end c.put-put.new.self c.put-put.ensures.after _ c.in_err-put.ensures.fault c.from_residual.result (err.1 ∙ ap (λ (why : SendFault). Err why) err.2))

pub returns-clause-sent : goal.returns-clause-sent
returns-clause-sent g c =
    let h = c.self.inside in
    let at : Read h.table.places h.table.slots.items c.args.flow.now c.in-Some.place = record { once = c.place.ensures.once; place = c.in-Some.ensures.here; read = c.index_mut.result.now; from = c.index_mut.ensures.value; owner = c.in-Some-index_mut.field-0-0; value = c.in-Some-index_mut.sender; is = c.in-Some-index_mut.is } in
    let k = c.args.asked.now in
    subst (λ (v : SendSideValue). IsSent v.rules v.latest c.args.flow.now (marked k.octets.now k.begin k.end false) v.entries (present (Written h.table.slots.items c.in-Some.place at.owner c.put-put.new.self)) (Ok tt)) c.self.view_is
    (put_taken c.self.invariant at k.octets.now k.begin k.end c.put-put.new.self c.put-put.ensures.after c.in_ok-put.ensures.fault)

pub unreachable-requires : goal.unreachable-requires
unreachable-requires g c = never_empty (IsSendKept c.self.inside.rules.value c.self.inside.latest.ms) send_kinds c.self.inside.table.places c.self.inside.table.slots.items c.self.inside.table.agenda c.self.invariant c.place.ensures.once c.args.flow.now c.in-Some.place (sym c.in-Some.ensures.here) c.index_mut.result.now c.index_mut.ensures.value c.in_default-index_mut.is
