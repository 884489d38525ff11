use Rattle.std.proofs.Common.{ℕ, List, [], ◌∷◌, ◌++◌, length, false, ap, refl, ◌∙◌}
use Rattle.dt_world_model.specs.World.{Copy}
use Rattle.dt_notes.specs.declared.copies.CopySlot.{CopySlot}
use Rattle.dt_notes.specs.Copies.{copies_of, put_copy}
use Rattle.dt_notes.proofs.Slots.{added_seen}
use Rattle.dt_notes.proofs.copies.Copies.add.Goals as goal

pub returns-clause-ok : goal.returns-clause-ok
returns-clause-ok c =
    let octets = c.self.inside.octets.items in
    let more = c.args.octets.now in
    let slots = c.self.inside.slots.items in
    let s : CopySlot = record { start = c.len-start.result; put = c.args.put; birth = c.birth.result; place = c.place.result; length = length more; link = c.args.link; lost = false } in
    ap (λ (own : List ℕ). copies_of own c.push_reserved.new.self.items) c.in_ok-extend_from_slice.ensures.items
    ∙ ap (λ (kept : List CopySlot). copies_of (octets ++ more) kept) c.push_reserved.ensures.items
    ∙ ap (λ (kept : List CopySlot). copies_of (octets ++ more) (kept ++ s ∷ [])) c.in_ok-reserve.ensures.items
    ∙ added_seen octets more slots s (c.len-start.ensures ∙ c.self.inside.octets.ok.0) refl c.self.invariant
    ∙ ap (λ (birth : ℕ). copies_of octets slots ++ put_copy c.args.link more (record { birth = birth; place = c.place.result }) c.args.put ∷ []) c.birth.ensures
    ∙ ap (λ (place : ℕ). copies_of octets slots ++ put_copy c.args.link more (record { birth = c.args.mark.birth; place = place }) c.args.put ∷ []) c.place.ensures
    ∙ ap (λ (copies : List Copy). copies ++ put_copy c.args.link more c.args.mark c.args.put ∷ []) c.self.view_is
