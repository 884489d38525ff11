use Rattle.std.proofs.Common.{◌≡◌, ◌*◌, ◌/◌, length, take}
use Rattle.dt_text.specs.Hexadecimal.{octets_of_hex}
use Rattle.dt_text.proofs.hexadecimal.decode_hex.Given as goal

-- the octets of the pairs so far are there
abbrev pub invariant-loop-i : goal.invariant-loop-i
invariant-loop-i l = (length l.octets.items ≡ length l.hex / 2) × (take l.i l.octets.items ≡ octets_of_hex (take (2 * l.i) l.hex))
