use Rattle.std.proofs.Common.{◌<◌, ◌≤◌, ℕ, zero, suc, List, [], ◌∷◌, length, get_or, take, Option, Some, None, arith, length-take}
use Rattle.std.specs.List.{AllByRecursion}
use Rattle.std.specs.Option.{IfSome}
use Rattle.dt_edges.specs.Wires.{handed}
use Rattle.dt_trace.specs.Standing.{HasFound}
use Rattle.dt_trace.specs.Lines.{most_taken}
use Rattle.dt_node.proofs.running.input_of.Goals as goal

all_by_place : (xs : List ℕ) → ((i : ℕ) → get_or xs i 0 < 256) → AllByRecursion (λ octet. octet < 256) xs
all_by_place [] h = tt
all_by_place (x ∷ xs) h = (h 0, all_by_place xs (λ i. h (suc i)))

all_take : (n : ℕ) (xs : List ℕ) → AllByRecursion (λ octet. octet < 256) xs → AllByRecursion (λ octet. octet < 256) (take n xs)
all_take zero xs h = tt
all_take (suc n) [] h = tt
all_take (suc n) (x ∷ xs) h = (h.0, all_take n xs h.1)

-- a datagram of a take fits into a line
found_fits : (found : Option (ℕ × ℕ)) (buf : List ℕ) (room : ℕ) → IfSome found (λ d. d.0 ≤ 255) → IfSome found (λ d. d.1 ≤ room) → room ≤ most_taken → ((i : ℕ) → get_or buf i 0 < 256) → HasFound (handed found buf)
found_fits None buf room link within size octets = tt
found_fits (Some d) buf room link within size octets = record { link = link; few = omega (arith, length-take d.1 buf, within, size); octets = all_take d.1 buf (all_by_place buf octets) }

pub returns-clause-fits : goal.returns-clause-fits
returns-clause-fits c = found_fits c.args.came c.args.octets.now (length c.args.octets.now) c.requires.link c.requires.within c.requires.room (λ i. omega (arith, c.type_inv.octets i))
