use Rattle.std.proofs.Common.{ℕ, Option, refl, sym, ap, subst, ◌∙◌, arith}
use Rattle.std.proofs.lemmas.Bool.{false≢true}
use Rattle.std.specs.Prelude.{IsSome}
use Rattle.dt_flow_model.specs.declared.acts.RecvKind.{RecvKind}
use Rattle.dt_host.specs.Notes.{recv_kinds}
use Rattle.dt_table.specs.Places.{present}
use Rattle.dt_host.specs.Sides.{IsRecvKept, RecvSideValue}
use Rattle.dt_host.proofs.RecvTurns.{look_none}
use Rattle.dt_host.proofs.RecvSides.{ActDone, HasDueIn, act_entry, act_gone, act_stayed, due_here, side_left, side_set}
use Rattle.dt_table.proofs.Tables.{Read, Written, never_empty, whole, written_placed}
use Rattle.dt_host.proofs.recv_side.RecvSide.act.Goals as goal

pub unreachable-requires : goal.unreachable-requires
unreachable-requires g c =
    let h = c.self.inside in
    let d = subst (λ (v : RecvSideValue). HasDueIn c.args.flow.now v) (sym c.self.view_is) c.requires.due in
    let none = look_none c.args.flow.now (present h.table.slots.items) c.in_default.ensures.none in
    let there = d.4.there in
    absurd cc

pub place-requires : goal.place-requires
place-requires g c = whole (IsRecvKept c.self.inside.rules.value) recv_kinds c.self.inside.table.places c.self.inside.table.slots.items c.self.inside.table.agenda c.self.invariant

pub act-act-requires : goal.act-act-requires
act-act-requires g c =
    let h = c.self.inside in
    let at : Read h.table.places h.table.slots.items c.args.flow.now c.in-Some.place = record { once = c.place.ensures.once; place = c.in-Some.ensures.here; read = c.index_mut.result.now; from = c.index_mut.ensures.value; owner = c.in-Some-index_mut.field-0-0; value = c.in-Some-index_mut.receiver; is = c.in-Some-index_mut.is } in
    let d = subst (λ (v : RecvSideValue). HasDueIn c.args.flow.now v) (sym c.self.view_is) c.requires.due in
    subst (λ (o : Option (RecvKind × ℕ)). IsSome o) (sym (due_here c.self.invariant at c.self.inside.latest.ms d.0 d.1 d.2 d.3 d.4)) refl

pub remove-requires-clause-placed : goal.remove-requires-clause-placed
remove-requires-clause-placed g c =
    let h = c.self.inside in
    let at : Read h.table.places h.table.slots.items c.args.flow.now c.in-Some.place = record { once = c.place.ensures.once; place = c.in-Some.ensures.here; read = c.index_mut.result.now; from = c.index_mut.ensures.value; owner = c.in-Some-index_mut.field-0-0; value = c.in-Some-index_mut.receiver; is = c.in-Some-index_mut.is } in
    written_placed (IsRecvKept h.rules.value) recv_kinds h.table.places h.table.slots.items h.table.agenda c.self.invariant c.args.flow.now c.in-Some.place at c.act-act.new.self

pub invariant_of-self : goal.invariant_of-self
invariant_of-self g c =
    let h = c.self.inside in
    let at : Read h.table.places h.table.slots.items c.args.flow.now c.in-Some.place = record { once = c.place.ensures.once; place = c.in-Some.ensures.here; read = c.index_mut.result.now; from = c.index_mut.ensures.value; owner = c.in-Some-index_mut.field-0-0; value = c.in-Some-index_mut.receiver; is = c.in-Some-index_mut.is } in
    side_left h.rules.value h.table.places h.table.slots.items h.table.agenda c.self.invariant c.args.flow.now c.in-Some.place at c.act-act.new.self c.remove.new.self.places c.remove.new.self.slots.items c.remove.new.self.agenda c.remove.ensures.placed c.remove.ensures.slots c.remove.ensures.notes

pub invariant_of-self-else-idle : goal.invariant_of-self-else-idle
invariant_of-self-else-idle g c =
    let h = c.self.inside in
    let at : Read h.table.places h.table.slots.items c.args.flow.now c.in-Some.place = record { once = c.place.ensures.once; place = c.in-Some.ensures.here; read = c.index_mut.result.now; from = c.index_mut.ensures.value; owner = c.in-Some-index_mut.field-0-0; value = c.in-Some-index_mut.receiver; is = c.in-Some-index_mut.is } in
    let d = subst (λ (v : RecvSideValue). HasDueIn c.args.flow.now v) (sym c.self.view_is) c.requires.due in
    let entry = act_entry c.self.invariant at c.self.inside.latest.ms d.0 d.1 d.2 d.3 d.4 c.act-act.new.self (c.act-act.ensures.after d.2 d.3 (due_here c.self.invariant at c.self.inside.latest.ms d.0 d.1 d.2 d.3 d.4)) (λ idle. false≢true (sym c.if-idle.false ∙ c.is_idle-idle.ensures.1 idle)) in
    side_set h.rules.value h.table.places h.table.slots.items h.table.agenda c.self.invariant c.args.flow.now c.in-Some.place at c.act-act.new.self entry c.note.new.self c.note_of-note.result c.note.ensures.here c.note_of-note.ensures.note c.note.ensures.others c.note.ensures.room

pub returns-then-idle : goal.returns-then-idle
returns-then-idle g c =
    let h = c.self.inside in
    let at : Read h.table.places h.table.slots.items c.args.flow.now c.in-Some.place = record { once = c.place.ensures.once; place = c.in-Some.ensures.here; read = c.index_mut.result.now; from = c.index_mut.ensures.value; owner = c.in-Some-index_mut.field-0-0; value = c.in-Some-index_mut.receiver; is = c.in-Some-index_mut.is } in
    let d = subst (λ (v : RecvSideValue). ActDone v.rules v.latest c.args.flow.now v.entries (present c.remove.new.self.slots.items) c.act-act.result c.args.frame.now c.act-act.new.frame) c.self.view_is (act_gone c.self.invariant at c.self.inside.latest.ms c.act-act.result c.args.frame.now c.act-act.new.frame c.act-act.new.self c.act-act.ensures.told c.act-act.ensures.frame c.act-act.ensures.gram c.act-act.ensures.after (c.is_idle-idle.ensures.0 c.if-idle.true) c.remove.new.self.slots.items c.remove.ensures.slots) in
    record { told = d.told; frame = d.frame; gram = d.gram; after = d.after; same = ap (λ (v : RecvSideValue). let w : RecvSideValue = record v { entries = (present c.remove.new.self.slots.items) } in w) c.self.view_is; looks = (let one = c.act-act.ensures.looks in omega arith) }

pub returns-else-idle : goal.returns-else-idle
returns-else-idle g c =
    let h = c.self.inside in
    let at : Read h.table.places h.table.slots.items c.args.flow.now c.in-Some.place = record { once = c.place.ensures.once; place = c.in-Some.ensures.here; read = c.index_mut.result.now; from = c.index_mut.ensures.value; owner = c.in-Some-index_mut.field-0-0; value = c.in-Some-index_mut.receiver; is = c.in-Some-index_mut.is } in
    let d = subst (λ (v : RecvSideValue). ActDone v.rules v.latest c.args.flow.now v.entries (present (Written h.table.slots.items c.in-Some.place at.owner c.act-act.new.self)) c.act-act.result c.args.frame.now c.act-act.new.frame) c.self.view_is (act_stayed c.self.invariant at c.self.inside.latest.ms c.act-act.result c.args.frame.now c.act-act.new.frame c.act-act.new.self c.act-act.ensures.told c.act-act.ensures.frame c.act-act.ensures.gram c.act-act.ensures.after (λ idle. false≢true (sym c.if-idle.false ∙ c.is_idle-idle.ensures.1 idle))) in
    record { told = d.told; frame = d.frame; gram = d.gram; after = d.after; same = ap (λ (v : RecvSideValue). let w : RecvSideValue = record v { entries = (present (Written h.table.slots.items c.in-Some.place at.owner c.act-act.new.self)) } in w) c.self.view_is; looks = (let one = c.act-act.ensures.looks in let two = c.note_of-note.ensures.looks in omega arith) }

pub unreachable-requires-in_default-index_mut : goal.unreachable-requires-in_default-index_mut
unreachable-requires-in_default-index_mut g c = never_empty (IsRecvKept c.self.inside.rules.value) recv_kinds c.self.inside.table.places c.self.inside.table.slots.items c.self.inside.table.agenda c.self.invariant c.place.ensures.once c.args.flow.now c.in-Some.place (sym c.in-Some.ensures.here) c.index_mut.result.now c.index_mut.ensures.value c.in_default-index_mut.is
