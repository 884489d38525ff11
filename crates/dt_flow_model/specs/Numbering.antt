-- Offsets and sequence numbers. An offset counts the octets of a send record since the record began, and has no bound. A packet carries the number of an offset, which goes round at 2^32.
-- How numbers are counted on and compared is said in dt_units (`number_after`, `number_distance`, `relation_of`).
use Rattle.std.specs.Prelude.{ℕ, ◌+◌, ◌-◌, ◌%◌, ◌^◌, ◌==◌, Bool, if◌then◌else◌, nat_lt}
use Rattle.dt_units.specs.declared.parameters.Params.{Params}
use Rattle.dt_units.specs.declared.order.Relation.{Relation}
use Rattle.dt_units.specs.declared.order.Relation.TheVariants.{Above, Below, Equal}
use Rattle.dt_units.specs.Numbers.{quantum}

-- the sequence number of an offset
abbrev pub number_of : Params → ℕ → ℕ
number_of p offset = (p.start + offset) % 2 ^ 32

-- A crossing is an offset that is a multiple of the quantum. Offset 0 is one.
abbrev pub is_crossing : Params → ℕ → Bool
is_crossing p offset = (offset % quantum p) == 0

-- how many octets there are from an offset up to the next crossing above it. The quantum is at least 1, so there is one
abbrev pub up_to_crossing : Params → ℕ → ℕ
up_to_crossing p offset = quantum p - offset % quantum p

-- where a place stands against another: the order that the relation of numbers is proved to be
abbrev pub order_of : ℕ → ℕ → Relation
order_of place other = if place == other then Equal else (if nat_lt other place then Above else Below)
