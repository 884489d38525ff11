use Rattle.std.proofs.Common.{rules, ◌≡◌, ◌∙◌, ap, get_or, subst, sym, arith, refl}
use Rattle.dt_layout.specs.Carried.{life_of}
use Rattle.dt_shelf.specs.Shelves.{Held, Shelf}
use Rattle.dt_shelf.proofs.Picking.{is_again, is_stale, left_by, nowhere, took}
use Rattle.dt_shelf.proofs.shelves.Shelf.take_into.Goals as goal

pub returns-in_err-place-clause-taken : goal.returns-in_err-place-clause-taken
returns-in_err-place-clause-taken c = rw (nowhere c.args.flow.now c.args.number c.args.self.now.held (sym c.place.ensures ∙ c.in_err-place.was)) (search rules)

pub returns-in_err-place-clause-left : goal.returns-in_err-place-clause-left
returns-in_err-place-clause-left c = rw (nowhere c.args.flow.now c.args.number c.args.self.now.held (sym c.place.ensures ∙ c.in_err-place.was)) refl

-- the packet that left, by its parts
pub returns-in_default-clause-taken : goal.returns-in_default-clause-taken
returns-in_default-clause-taken c =
    let flow = c.args.flow.now in
    let at = sym c.place.ensures ∙ c.in_ok-place.was in
    let held : c.self.inside.held.items ≡ c.args.self.now.held = ap (λ (s : Shelf). s.held) c.self.view_is in
    let h : Held = record { link = c.link.inside.link; flow = c.link.inside.flow; number = c.link.inside.number; frame = c.link.inside.frame.value; since = c.link.inside.since } in
    let there = subst (λ (d : Held). d ≡ get_or c.args.self.now.held c.in_ok-place.place d) (sym c.link.view_is) (rw (sym held) c.remove.ensures.value) in
    let same = c.as_gram-2.ensures.same ∙ c.copy_into.ensures ∙ c.as_gram.ensures.same ∙ c.deref.ensures in
    took flow c.args.number c.args.now c.args.self.now.held c.in_ok-place.place h _ at there (is_stale flow c.args.number c.args.now h (omega (arith, c.in_default.ensures.none, c.life.ensures ∙ ap life_of same)))

pub returns-in_default-clause-left : goal.returns-in_default-clause-left
returns-in_default-clause-left c =
    let at = sym c.place.ensures ∙ c.in_ok-place.was in
    left_by c.args.flow.now c.args.number c.self.inside.room c.self.inside.held.items c.remove.new.self.items c.args.self.now c.in_ok-place.place c.remove.result c.self.view_is at c.remove.ensures.value c.remove.ensures.items

pub returns-clause-taken : goal.returns-clause-taken
returns-clause-taken c =
    let flow = c.args.flow.now in
    let at = sym c.place.ensures ∙ c.in_ok-place.was in
    let held : c.self.inside.held.items ≡ c.args.self.now.held = ap (λ (s : Shelf). s.held) c.self.view_is in
    let h : Held = record { link = c.link.inside.link; flow = c.link.inside.flow; number = c.link.inside.number; frame = c.link.inside.frame.value; since = c.link.inside.since } in
    let there = subst (λ (d : Held). d ≡ get_or c.args.self.now.held c.in_ok-place.place d) (sym c.link.view_is) (rw (sym held) c.remove.ensures.value) in
    let same = c.as_gram.ensures.same ∙ c.deref.ensures in
    took flow c.args.number c.args.now c.args.self.now.held c.in_ok-place.place h _ at there
    (rw (c.lower.ensures.life_alone, c.in-Some.ensures.charge.0, c.copy_into.ensures, same) (is_again flow c.args.number c.args.now h (omega (arith, c.in-Some.ensures.charge, c.life.ensures ∙ ap life_of (c.as_gram-2.ensures.same ∙ c.copy_into.ensures ∙ same)))))

pub returns-clause-left : goal.returns-clause-left
returns-clause-left c =
    let at = sym c.place.ensures ∙ c.in_ok-place.was in
    left_by c.args.flow.now c.args.number c.self.inside.room c.self.inside.held.items c.remove.new.self.items c.args.self.now c.in_ok-place.place c.remove.result c.self.view_is at c.remove.ensures.value c.remove.ensures.items
