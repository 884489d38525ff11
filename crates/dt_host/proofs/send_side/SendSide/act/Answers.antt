use Rattle.std.proofs.Common.{Option, ◌≡◌, refl, sym, ap, subst, ◌∙◌, arith}
use Rattle.std.specs.Prelude.{IfSome, IsSome, unwrap_or}
use Rattle.dt_layout.specs.Carried.{IsGram}
use Rattle.dt_flow_model.specs.Frames.{frame_of_act}
use Rattle.dt_flow_model.specs.SendRecord.{SendRecord}
use Rattle.dt_flow_model.specs.SendActs.{Act, kind_and_moment, record_after, told_of}
use Rattle.dt_world_model.specs.Tables.{look, same_flow, write_or_erase}
use Rattle.dt_host.specs.Notes.{send_kinds}
use Rattle.dt_host.specs.Dues.{HasDue}
use Rattle.dt_host.specs.Hosts.{send_records}
use Rattle.dt_table.specs.Places.{present}
use Rattle.dt_host.specs.Sides.{IsSendKept, SendSideValue}
use Rattle.dt_host.proofs.SenderTables.{none_is}
use Rattle.dt_host.proofs.SendSides.{HasDueIn, act_entry, act_goes, act_stays, all_send, chosen_here, frame_here, gram_here, side_left, side_set, told_here}
use Rattle.dt_table.proofs.Tables.{Read, Written, never_empty, whole, written_placed}
use Rattle.dt_host.proofs.send_side.SendSide.act.Goals as goal

pub unreachable-requires : goal.unreachable-requires
unreachable-requires g c =
    let h = c.self.inside in
    let d = subst (λ (v : SendSideValue). HasDueIn c.args.flow.now v) (sym c.self.view_is) c.requires.due in
    let none = none_is h.rules.value c.args.flow.now (present h.table.slots.items) (all_send h.rules.value h.latest.ms h.table.places h.table.slots.items h.table.agenda c.self.invariant) c.in_default.ensures.none in
    let there = d.2.there in
    absurd cc

pub place-requires : goal.place-requires
place-requires g c = whole (IsSendKept c.self.inside.rules.value c.self.inside.latest.ms) send_kinds c.self.inside.table.places c.self.inside.table.slots.items c.self.inside.table.agenda c.self.invariant

pub act-act-requires-clause-due : goal.act-act-requires-clause-due
act-act-requires-clause-due g c =
    let h = c.self.inside in
    let at : Read h.table.places h.table.slots.items c.args.flow.now c.in-Some.place = record { once = c.place.ensures.once; place = c.in-Some.ensures.here; read = c.index_mut.result.now; from = c.index_mut.ensures.value; owner = c.in-Some-index_mut.field-0-0; value = c.in-Some-index_mut.sender; is = c.in-Some-index_mut.is } in
    let d = subst (λ (v : SendSideValue). HasDueIn c.args.flow.now v) (sym c.self.view_is) c.requires.due in
    subst (λ (o : Option Act). IsSome (kind_and_moment at.value.rules at.value.state o)) (sym (chosen_here c.self.invariant at d.0 d.1 d.2)) refl

pub remove-requires-clause-placed : goal.remove-requires-clause-placed
remove-requires-clause-placed g c =
    let h = c.self.inside in
    let at : Read h.table.places h.table.slots.items c.args.flow.now c.in-Some.place = record { once = c.place.ensures.once; place = c.in-Some.ensures.here; read = c.index_mut.result.now; from = c.index_mut.ensures.value; owner = c.in-Some-index_mut.field-0-0; value = c.in-Some-index_mut.sender; is = c.in-Some-index_mut.is } in
    written_placed (IsSendKept h.rules.value h.latest.ms) send_kinds h.table.places h.table.slots.items h.table.agenda c.self.invariant c.args.flow.now c.in-Some.place at c.act-act.new.self

pub invariant_of-self : goal.invariant_of-self
invariant_of-self g c =
    let h = c.self.inside in
    let at : Read h.table.places h.table.slots.items c.args.flow.now c.in-Some.place = record { once = c.place.ensures.once; place = c.in-Some.ensures.here; read = c.index_mut.result.now; from = c.index_mut.ensures.value; owner = c.in-Some-index_mut.field-0-0; value = c.in-Some-index_mut.sender; is = c.in-Some-index_mut.is } in
    side_left h.rules.value h.latest.ms h.table.places h.table.slots.items h.table.agenda c.self.invariant c.args.flow.now c.in-Some.place at c.act-act.new.self c.remove.new.self.places c.remove.new.self.slots.items c.remove.new.self.agenda c.remove.ensures.placed c.remove.ensures.slots c.remove.ensures.notes

pub invariant_of-self-in_default-act : goal.invariant_of-self-in_default-act
invariant_of-self-in_default-act g c =
    let h = c.self.inside in
    let at : Read h.table.places h.table.slots.items c.args.flow.now c.in-Some.place = record { once = c.place.ensures.once; place = c.in-Some.ensures.here; read = c.index_mut.result.now; from = c.index_mut.ensures.value; owner = c.in-Some-index_mut.field-0-0; value = c.in-Some-index_mut.sender; is = c.in-Some-index_mut.is } in
    let d = subst (λ (v : SendSideValue). HasDueIn c.args.flow.now v) (sym c.self.view_is) c.requires.due in
    side_set h.rules.value h.latest.ms h.table.places h.table.slots.items h.table.agenda c.self.invariant c.args.flow.now c.in-Some.place at c.act-act.new.self (act_entry c.self.invariant at d.0 d.1 d.2 c.act-act.new.self c.act-act.ensures.after) c.note.new.self c.note_of-note.result c.note.ensures.here c.note_of-note.ensures.note c.note.ensures.others c.note.ensures.room

pub returns-in-Released-clause-told : goal.returns-in-Released-clause-told
returns-in-Released-clause-told g c =
    let h = c.self.inside in
    let at : Read h.table.places h.table.slots.items c.args.flow.now c.in-Some.place = record { once = c.place.ensures.once; place = c.in-Some.ensures.here; read = c.index_mut.result.now; from = c.index_mut.ensures.value; owner = c.in-Some-index_mut.field-0-0; value = c.in-Some-index_mut.sender; is = c.in-Some-index_mut.is } in
    subst (λ (v : SendSideValue). (x : SendRecord) (act : Act) → HasDue v.rules v.latest (look same_flow c.args.flow.now (send_records v.entries)) x act → c.act-act.result ≡ told_of v.rules x act) c.self.view_is
    (λ x act due. told_here c.self.invariant at x act due c.act-act.result c.act-act.ensures.told)

pub returns-in-Released-clause-frame : goal.returns-in-Released-clause-frame
returns-in-Released-clause-frame g c =
    let h = c.self.inside in
    let at : Read h.table.places h.table.slots.items c.args.flow.now c.in-Some.place = record { once = c.place.ensures.once; place = c.in-Some.ensures.here; read = c.index_mut.result.now; from = c.index_mut.ensures.value; owner = c.in-Some-index_mut.field-0-0; value = c.in-Some-index_mut.sender; is = c.in-Some-index_mut.is } in
    subst (λ (v : SendSideValue). (x : SendRecord) (act : Act) → HasDue v.rules v.latest (look same_flow c.args.flow.now (send_records v.entries)) x act → c.act-act.new.frame ≡ unwrap_or (frame_of_act v.rules c.args.flow.now x act) c.args.frame.now) c.self.view_is
    (λ x act due. frame_here c.self.invariant at x act due c.args.frame.now c.act-act.new.frame c.act-act.ensures.frame)

pub returns-in-Released-clause-gram : goal.returns-in-Released-clause-gram
returns-in-Released-clause-gram g c =
    let h = c.self.inside in
    let at : Read h.table.places h.table.slots.items c.args.flow.now c.in-Some.place = record { once = c.place.ensures.once; place = c.in-Some.ensures.here; read = c.index_mut.result.now; from = c.index_mut.ensures.value; owner = c.in-Some-index_mut.field-0-0; value = c.in-Some-index_mut.sender; is = c.in-Some-index_mut.is } in
    subst (λ (v : SendSideValue). (x : SendRecord) (act : Act) → HasDue v.rules v.latest (look same_flow c.args.flow.now (send_records v.entries)) x act → IfSome (frame_of_act v.rules c.args.flow.now x act) (λ octets. IsGram octets)) c.self.view_is
    (λ x act due. gram_here c.self.invariant at x act due c.act-act.ensures.gram)

pub returns-in-Released-clause-after : goal.returns-in-Released-clause-after
returns-in-Released-clause-after g c =
    let h = c.self.inside in
    let at : Read h.table.places h.table.slots.items c.args.flow.now c.in-Some.place = record { once = c.place.ensures.once; place = c.in-Some.ensures.here; read = c.index_mut.result.now; from = c.index_mut.ensures.value; owner = c.in-Some-index_mut.field-0-0; value = c.in-Some-index_mut.sender; is = c.in-Some-index_mut.is } in
    subst (λ (v : SendSideValue). (x : SendRecord) (act : Act) → HasDue v.rules v.latest (look same_flow c.args.flow.now (send_records v.entries)) x act → send_records (present c.remove.new.self.slots.items) ≡ write_or_erase same_flow c.args.flow.now (record_after v.rules v.latest x act) (send_records v.entries)) c.self.view_is
    (λ x act due. act_goes c.self.invariant at x act due c.act-act.new.self c.act-act.ensures.after (sym (told_here c.self.invariant at x act due c.act-act.result c.act-act.ensures.told) ∙ c.in-Released.is) c.remove.new.self.slots.items c.remove.ensures.slots)

pub returns-in_default-act : goal.returns-in_default-act
returns-in_default-act g c =
    let h = c.self.inside in
    let at : Read h.table.places h.table.slots.items c.args.flow.now c.in-Some.place = record { once = c.place.ensures.once; place = c.in-Some.ensures.here; read = c.index_mut.result.now; from = c.index_mut.ensures.value; owner = c.in-Some-index_mut.field-0-0; value = c.in-Some-index_mut.sender; is = c.in-Some-index_mut.is } in
    record {
      told =
          subst (λ (v : SendSideValue). (x : SendRecord) (act : Act) → HasDue v.rules v.latest (look same_flow c.args.flow.now (send_records v.entries)) x act → c.act-act.result ≡ told_of v.rules x act) c.self.view_is
          (λ x act due. told_here c.self.invariant at x act due c.act-act.result c.act-act.ensures.told);
      frame =
          subst (λ (v : SendSideValue). (x : SendRecord) (act : Act) → HasDue v.rules v.latest (look same_flow c.args.flow.now (send_records v.entries)) x act → c.act-act.new.frame ≡ unwrap_or (frame_of_act v.rules c.args.flow.now x act) c.args.frame.now) c.self.view_is
          (λ x act due. frame_here c.self.invariant at x act due c.args.frame.now c.act-act.new.frame c.act-act.ensures.frame);
      gram =
          subst (λ (v : SendSideValue). (x : SendRecord) (act : Act) → HasDue v.rules v.latest (look same_flow c.args.flow.now (send_records v.entries)) x act → IfSome (frame_of_act v.rules c.args.flow.now x act) (λ octets. IsGram octets)) c.self.view_is
          (λ x act due. gram_here c.self.invariant at x act due c.act-act.ensures.gram);
      after =
          subst (λ (v : SendSideValue). (x : SendRecord) (act : Act) → HasDue v.rules v.latest (look same_flow c.args.flow.now (send_records v.entries)) x act → send_records (present (Written h.table.slots.items c.in-Some.place at.owner c.act-act.new.self)) ≡ write_or_erase same_flow c.args.flow.now (record_after v.rules v.latest x act) (send_records v.entries)) c.self.view_is
          (λ x act due. act_stays c.self.invariant at x act due c.act-act.new.self c.act-act.ensures.after (λ released. c.in_default-act.not-Released (told_here c.self.invariant at x act due c.act-act.result c.act-act.ensures.told ∙ released)));
      same = ap (λ (v : SendSideValue). let w : SendSideValue = record v { entries = (present (Written h.table.slots.items c.in-Some.place at.owner c.act-act.new.self)) } in w) c.self.view_is;
      looks = (let one = c.act-act.ensures.looks in let two = c.note_of-note.ensures.looks in omega arith);
    }

pub unreachable-requires-in_default-index_mut : goal.unreachable-requires-in_default-index_mut
unreachable-requires-in_default-index_mut g c = never_empty (IsSendKept c.self.inside.rules.value c.self.inside.latest.ms) send_kinds c.self.inside.table.places c.self.inside.table.slots.items c.self.inside.table.agenda c.self.invariant c.place.ensures.once c.args.flow.now c.in-Some.place (sym c.in-Some.ensures.here) c.index_mut.result.now c.index_mut.ensures.value c.in_default-index_mut.is
