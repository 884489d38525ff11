use Rattle.std.proofs.Common.{arith, sym}
use Rattle.dt_layout.proofs.GramLemmas.{gram_stands}
use Rattle.dt_layout.proofs.gram_octets.GramOctets.read.Goals as goal

pub invariant_of-result : goal.invariant_of-result
invariant_of-result c = record { reads = gram_stands c.args.octets.now (λ i. omega (arith, c.type_inv.octets i)) (sym c.in_ok-check.ensures) }
