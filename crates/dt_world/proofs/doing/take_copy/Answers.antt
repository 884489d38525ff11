use Rattle.std.proofs.Common.{ℕ, ap, subst, sym, ◌∙◌}
use Rattle.dt_layout.specs.Carried.{IsGram}
use Rattle.dt_world_model.specs.World.{Copy}
use Rattle.dt_notes.specs.Copies.{copy_in}
use Rattle.dt_world.proofs.Arriving.{gram_short}
use Rattle.dt_world.proofs.doing.take_copy.Goals as goal

pub unreachable-requires-then-not-refill : goal.unreachable-requires-then-not-refill
unreachable-requires-then-not-refill c =
    let octets = ap (λ (x : Copy). x.parcel.octets) c.in-Some.ensures.copy ∙ ap (λ (k : ℕ). (copy_in c.args.copies.now k).parcel.octets) c.from.ensures in
    let h = c.if-not-refill.ensures.fits.1 (gram_short _ (subst IsGram (sym octets) c.requires.gram)) in
    cc
