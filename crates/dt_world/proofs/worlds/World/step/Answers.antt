use Rattle.std.proofs.Common.{rules, ◌≡◌, Some, ap, subst, sym, ◌∙◌}
use Rattle.dt_world_model.specs.World.{World}
use Rattle.dt_world_model.specs.WorldStep.{first_refusal, refusals}
use Rattle.dt_world.specs.declared.world_parts.WorldParts.{WorldParts}
use Rattle.dt_notes.specs.Events.{event_of}
use Rattle.dt_world.specs.Worlds.{IsWhole, WorldValue, world_seen}
use Rattle.dt_world.proofs.Stepping.{buf_kept, done_in, is_done, is_refused, is_spent, spent_in, whole_after}
use Rattle.dt_world.proofs.Possible.{safe_now}
use Rattle.dt_world.proofs.worlds.World.step.Goals as goal

pub invariant_of-self : goal.invariant_of-self
invariant_of-self g c =
    let unspent = ap (λ (x : WorldValue). x.spent) c.self.view_is ∙ c.requires.unspent in
    let e = event_of c.args.event.now in
    let parts = c.deref_mut.result.now in
    let is = c.deref_mut.ensures.value in
    let begun = ap (λ (p : WorldParts). first_refusal (refusals (world_seen p) e)) (is ∙ sym c.deref.ensures) ∙ sym c.in_default.ensures in
    let whole = whole_after parts (subst (λ (p : WorldParts). IsWhole p) (sym is) (c.self.invariant.1 unspent)) e c.in-Ok.ensures.can begun c.apply_event.new.parts g.L.Lines.tells c.args.lines.now c.apply_event.new.lines c.in-Ok.ensures.happens c.in-Ok.ensures.rules c.in-Ok.ensures.links c.in-Ok.ensures.moment c.in-Ok.ensures.stations in
    (buf_kept c.apply_event.new.buf c.self.inside.buf.items c.self.inside.buf.len (search rules) (search rules) c.self.invariant.0, λ u. whole, safe_now c.apply_event.new.parts whole)

pub returns-in-Ok : goal.returns-in-Ok
returns-in-Ok g c =
    let unspent = ap (λ (x : WorldValue). x.spent) c.self.view_is ∙ c.requires.unspent in
    let h = c.in-Ok.ensures in
    let e = event_of c.args.event.now in
    let parts = c.deref_mut.result.now in
    let is = c.deref_mut.ensures.value in
    let begun = ap (λ (p : WorldParts). first_refusal (refusals (world_seen p) e)) (is ∙ sym c.deref.ensures) ∙ sym c.in_default.ensures in
    let seen = ap (λ (p : WorldParts). let v : WorldValue = record { state = world_seen p; spent = c.self.inside.spent } in v) is ∙ c.self.view_is in
    done_in g.L.Lines.tells (world_seen parts) (world_seen c.apply_event.new.parts) e c.args.lines.now c.apply_event.new.lines c.args.self.now c.self.inside.spent unspent seen
    (is_done parts (subst (λ (p : WorldParts). IsWhole p) (sym is) (c.self.invariant.1 unspent)) e h.can begun c.apply_event.new.parts g.L.Lines.tells c.args.lines.now c.apply_event.new.lines h.within h.happens)

pub returns-in-Err : goal.returns-in-Err
returns-in-Err g c =
    let unspent = ap (λ (x : WorldValue). x.spent) c.self.view_is ∙ c.requires.unspent in
    let h = c.in-Err.ensures in
    let e = event_of c.args.event.now in
    let parts = c.deref_mut.result.now in
    let is = c.deref_mut.ensures.value in
    let begun = ap (λ (p : WorldParts). first_refusal (refusals (world_seen p) e)) (is ∙ sym c.deref.ensures) ∙ sym c.in_default.ensures in
    let seen = ap (λ (p : WorldParts). let v : WorldValue = record { state = world_seen p; spent = c.self.inside.spent } in v) is ∙ c.self.view_is in
    spent_in g.L.Lines.tells (world_seen parts) e c.args.lines.now c.apply_event.new.lines c.args.self.now _ c.self.inside.spent unspent seen
    (is_spent parts (subst (λ (p : WorldParts). IsWhole p) (sym is) (c.self.invariant.1 unspent)) e h.can begun c.apply_event.new.parts g.L.Lines.tells c.args.lines.now c.apply_event.new.lines h.may h.happens)

pub returns-in-Some : goal.returns-in-Some
returns-in-Some g c =
    let e = event_of c.args.event.now in
    is_refused g.L.Lines.tells c.args.self.now e c.args.lines.now c.in-Some.fault
    (subst (λ (w : World). Some c.in-Some.fault ≡ first_refusal (refusals w e)) (ap world_seen c.deref.ensures ∙ ap (λ (x : WorldValue). x.state) c.self.view_is) c.in-Some.ensures)
