use Rattle.std.proofs.Common.{◌<◌, List, length, ap, sym, ◌∙◌, arith, set}
use Rattle.std.proofs.lemmas.List.{length-map}
use Rattle.dt_world_model.specs.World.{Copy}
use Rattle.dt_notes.specs.Copies.{copy_in, copy_of, lost_copy}
use Rattle.dt_notes.proofs.Slots.{lost_seen}
use Rattle.dt_notes.proofs.copies.Copies.lose.Goals as goal

pub returns : goal.returns
returns c =
    let octets = c.self.inside.octets.items in
    let slots = c.self.inside.slots.items in
    let slot = c.index_mut-slot.result.now in
    let same = ap length c.self.view_is in
    let long = length-map slots (copy_of octets) in
    let within : c.args.number < length slots = omega (arith, same, long, c.requires) in
    lost_seen octets slots c.args.number slot within slot (sym c.index_mut-slot.ensures.value)
    ∙ ap (λ (copies : List Copy). set copies c.args.number (lost_copy (copy_in copies c.args.number))) c.self.view_is
