use Rattle.std.proofs.Common.{◌+◌, ◌^◌, List, ap, arith, subst, sym, ◌∙◌}
use Rattle.indexmap.specs.IndexMap.{insert_entry}
use Rattle.dt_audit.specs.Books.{Book}
use Rattle.dt_units.specs.declared.endpoints.Flow.{Flow}
use Rattle.dt_audit.specs.FlowNotes.{Notes, TakenWithin}
use Rattle.dt_world_model.proofs.Maps.{equal_flows}
use Rattle.dt_audit.proofs.Entries.{on_any, taken_absent, taken_found, taken_more, taken_there, absent_changed, absent_flawed, there_changed}
use Rattle.dt_audit.proofs.notebooks.Notebook.change.Goals as goal

pub returns-in-Some-clause-notes : goal.returns-in-Some-clause-notes
returns-in-Some-clause-notes c =
    there_changed c.args.flow.now c.args.change c.args.self.now c.self.inside.lives.entries c.self.inside.flows.entries c.self.view_is c.lives_of-lives.result c.lives_of-lives.ensures
    c.in-Some.notes.now c.follow.new.self c.follow.result _ c.in-Some.ensures.value c.follow.ensures.notes ((c.get_mut.follows.holds c.follow.new.self).0)

pub returns-in-Some-2-clause-notes : goal.returns-in-Some-2-clause-notes
returns-in-Some-2-clause-notes c =
    absent_flawed c.args.flow.now c.args.change c.args.self.now c.self.inside.lives.entries c.self.inside.flows.entries c.self.view_is c.lives_of-lives.result c.lives_of-lives.ensures
    c.new-notes.result c.follow-2.new.self c.in_ok-flaw.field-0 c.in-Some-2.flaw c.in_default.ensures.value c.new-notes.ensures c.in_ok-flaw.ensures.notes c.in-Some-2.is

pub returns-clause-notes : goal.returns-clause-notes
returns-clause-notes c =
    absent_changed c.args.flow.now c.args.change c.args.self.now c.self.inside.lives.entries c.self.inside.flows.entries c.self.view_is c.lives_of-lives.result c.lives_of-lives.ensures
    c.new-notes.result c.follow-2.new.self c.in_ok-flaw.field-0 _ c.in_default.ensures.value c.new-notes.ensures c.in_ok-flaw.ensures.notes c.in_default-2.not-Some
    (c.in_ok-insert.ensures.entries ∙ ap (λ (xs : List (Flow × Notes)). insert_entry equal_flows xs c.args.flow.now c.follow-2.new.self) (ap (λ m. m.entries) c.get_mut.follows.holds-at-none))

pub follow-requires : goal.follow-requires
follow-requires c =
    let same = ap (λ (b : Book Notes). b.flows) c.self.view_is in
    record { room = taken_found (2 ^ 61) c.args.flow.now c.in-Some.notes.now c.self.inside.flows.entries c.in-Some.ensures.value (subst (TakenWithin (2 ^ 61)) (sym same) c.requires.room) }

pub returns-in-Some-clause-grows : goal.returns-in-Some-clause-grows
returns-in-Some-clause-grows c = λ most h.
    let same = ap (λ (b : Book Notes). b.flows) c.self.view_is in
    on_any c.follow.result
    (taken_there most c.args.flow.now c.in-Some.notes.now c.follow.new.self c.self.inside.flows.entries _ c.in-Some.ensures.value c.follow.ensures.grows ((c.get_mut.follows.holds c.follow.new.self).0) (subst (TakenWithin most) (sym same) h))

pub returns-in-Some-2-clause-grows : goal.returns-in-Some-2-clause-grows
returns-in-Some-2-clause-grows c = λ most h.
    let same = ap (λ m. m.entries) c.get_mut.follows.holds-at-none ∙ ap (λ (b : Book Notes). b.flows) c.self.view_is in
    subst (TakenWithin (most + 4294967295)) (sym same) (taken_more most (most + 4294967295) c.args.self.now.flows (omega arith) h)

pub returns-clause-grows : goal.returns-clause-grows
returns-clause-grows c = λ most h.
    let same = ap (λ (b : Book Notes). b.flows) c.self.view_is in
    taken_absent most c.args.flow.now c.new-notes.result c.follow-2.new.self c.self.inside.flows.entries _ c.new-notes.ensures c.in_ok-flaw.ensures.grows
    (c.in_ok-insert.ensures.entries ∙ ap (λ (xs : List (Flow × Notes)). insert_entry equal_flows xs c.args.flow.now c.follow-2.new.self) (ap (λ m. m.entries) c.get_mut.follows.holds-at-none))
    (subst (TakenWithin most) (sym same) h)
