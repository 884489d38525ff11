use Rattle.std.proofs.Common.{◌≡◌, [], None, length, sym, ap, subst, ◌∙◌}
use Rattle.std.specs.Prelude.{Ok}
use Rattle.std.proofs.lemmas.Result.{err_from_is_err_and}
use Rattle.std.specs.Map.{lookup}
use Rattle.dt_items.specs.Unread.{items_of}
use Rattle.dt_flow_model.specs.declared.arrivals.Action.TheVariants.{Make}
use Rattle.dt_flow_model.specs.ReceiveRecord.{action_on}
use Rattle.dt_table.specs.Agendas.{Note}
use Rattle.dt_host.specs.Notes.{recv_kinds}
use Rattle.dt_host.specs.Answers.{IsDataAnswer, IsDataTaken}
use Rattle.dt_table.specs.Places.{equal_flows, present}
use Rattle.dt_host.specs.Sides.{IsRecvKept, RecvSideValue}
use Rattle.dt_host.proofs.RecvSides.{all_recv, made_after, made_answer, made_entry, data_kept, side_kept, side_more}
use Rattle.dt_table.proofs.Tables.{present_kept, present_more, whole}
use Rattle.dt_host.proofs.recv_side.RecvSide.make.Goals as goal

pub add-requires-clause-placed : goal.add-requires-clause-placed
add-requires-clause-placed g c =
    let h = c.self.inside in
    whole (IsRecvKept h.rules.value) recv_kinds h.table.places h.table.slots.items h.table.agenda c.self.invariant

pub add-requires-clause-kinds : goal.add-requires-clause-kinds
add-requires-clause-kinds g c =
    let h = c.self.inside in
    ap (λ (n : Note). length n) c.note_of-note.ensures.note ∙ sym c.self.invariant.counted

pub add-requires-clause-none : goal.add-requires-clause-none
add-requires-clause-none g c =
    let h = c.self.inside in
    let absent = ap (λ (v : RecvSideValue). lookup (equal_flows c.args.flow.now) v.entries) c.self.view_is ∙ c.requires.none in
    absent

pub invariant_of-self : goal.invariant_of-self
invariant_of-self g c =
    let h = c.self.inside in
    side_kept h.rules.value h.table.places h.table.slots.items h.table.agenda c.self.invariant c.add.new.self.places c.add.new.self.slots.items c.add.new.self.agenda c.add.ensures.placed c.in_err-add.ensures.err

pub invariant_of-self-2 : goal.invariant_of-self-2
invariant_of-self-2 g c =
    let h = c.self.inside in
    let absent = ap (λ (v : RecvSideValue). lookup (equal_flows c.args.flow.now) v.entries) c.self.view_is ∙ c.requires.none in
    let k = c.args.segment.now in
    let items = items_of k.payload in
    let makes = subst (λ (v : RecvSideValue). action_on v.rules (record { unread = []; standing = None }) k.drf k.number items ≡ Make) (sym c.self.view_is) c.requires.makes in
    side_more h.rules.value h.table.places h.table.slots.items h.table.agenda c.self.invariant c.add.new.self.places c.add.new.self.slots.items c.add.new.self.agenda c.add.ensures.placed c.args.flow.now c.on_segment-arrived.new.self c.note_of-note.result c.in_ok-add.ensures.ok (made_entry h.rules.value h.latest.ms (present h.table.slots.items) (all_recv h.rules.value h.table.places h.table.slots.items h.table.agenda c.self.invariant) c.args.flow.now absent k.drf k.number items makes c.in_ok-receiver.receiver c.on_segment-arrived.new.self c.in_ok-receiver.ensures c.on_segment-arrived.ensures.after) c.note_of-note.ensures.note

pub returns-in_err-add-clause-after : goal.returns-in_err-add-clause-after
returns-in_err-add-clause-after g c =
    let h = c.self.inside in
    let k = c.args.segment.now in
    let items = items_of k.payload in
    let err = err_from_is_err_and c.from_residual-in_err-add.result c.from_residual-in_err-add.ensures.1 in
    subst (λ (v : RecvSideValue). IsDataTaken v.rules v.latest c.args.flow.now k.drf k.number items v.entries (present c.add.new.self.slots.items) c.from_residual-in_err-add.result) c.self.view_is
    (data_kept h.rules.value h.latest.ms c.args.flow.now k.drf k.number items (present h.table.slots.items) (present c.add.new.self.slots.items) (present_kept (IsRecvKept h.rules.value) recv_kinds h.table.places h.table.slots.items h.table.agenda c.self.invariant c.add.new.self.places c.add.new.self.slots.items c.add.new.self.agenda c.add.ensures.placed c.in_err-add.ensures.err) c.from_residual-in_err-add.result err.0 err.1)

pub returns-clause-answer : goal.returns-clause-answer
returns-clause-answer g c =
    let h = c.self.inside in
    let absent = ap (λ (v : RecvSideValue). lookup (equal_flows c.args.flow.now) v.entries) c.self.view_is ∙ c.requires.none in
    let k = c.args.segment.now in
    let items = items_of k.payload in
    let makes = subst (λ (v : RecvSideValue). action_on v.rules (record { unread = []; standing = None }) k.drf k.number items ≡ Make) (sym c.self.view_is) c.requires.makes in
    subst (λ (v : RecvSideValue). IsDataAnswer v.rules c.args.flow.now k.drf k.number items v.entries (Ok c.on_segment-arrived.result)) c.self.view_is
    (λ host. made_answer h.rules.value h.latest.ms (present h.table.slots.items) (all_recv h.rules.value h.table.places h.table.slots.items h.table.agenda c.self.invariant) c.args.flow.now absent k.drf k.number items makes c.in_ok-receiver.receiver c.on_segment-arrived.new.self c.in_ok-receiver.ensures c.on_segment-arrived.ensures.after c.on_segment-arrived.result c.on_segment-arrived.ensures.answer)

pub returns-clause-after : goal.returns-clause-after
returns-clause-after g c =
    let h = c.self.inside in
    let absent = ap (λ (v : RecvSideValue). lookup (equal_flows c.args.flow.now) v.entries) c.self.view_is ∙ c.requires.none in
    let k = c.args.segment.now in
    let items = items_of k.payload in
    let makes = subst (λ (v : RecvSideValue). action_on v.rules (record { unread = []; standing = None }) k.drf k.number items ≡ Make) (sym c.self.view_is) c.requires.makes in
    subst (λ (v : RecvSideValue). IsDataTaken v.rules v.latest c.args.flow.now k.drf k.number items v.entries (present c.add.new.self.slots.items) (Ok c.on_segment-arrived.result)) c.self.view_is
    (λ host. made_after h.rules.value h.latest.ms (present h.table.slots.items) (all_recv h.rules.value h.table.places h.table.slots.items h.table.agenda c.self.invariant) c.args.flow.now absent k.drf k.number items makes c.in_ok-receiver.receiver c.on_segment-arrived.new.self c.in_ok-receiver.ensures c.on_segment-arrived.ensures.after (present c.add.new.self.slots.items) (present_more (IsRecvKept h.rules.value) recv_kinds h.table.places h.table.slots.items h.table.agenda c.self.invariant c.add.new.self.places c.add.new.self.slots.items c.add.new.self.agenda c.add.ensures.placed c.args.flow.now c.on_segment-arrived.new.self c.note_of-note.result c.in_ok-add.ensures.ok absent) host)
