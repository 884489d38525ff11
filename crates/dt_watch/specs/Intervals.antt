-- The interval in which a clock is, at a reading of another.
use Rattle.std.specs.Prelude.{ℕ, ◌-◌, ◌==◌, Bool, true, max, nat_le, if◌then◌else◌, Option, Some, None}
use Rattle.dt_watch.specs.declared.interval.Passage.{Passage}
use Rattle.dt_watch.specs.declared.lower.Lower.{Lower}
use Rattle.dt_watch.specs.declared.upper.Upper.{Upper}
use Rattle.dt_watch.specs.Lower.{kept_lower}
use Rattle.dt_watch.specs.Upper.{kept_upper}

-- A DATAGRAM GIVES A LOWER BOUND, where its sender knew a reading that had passed
abbrev pub lower_seen : Lower → Passage → Lower
lower_seen l p = if p.sure.micros == 0 then l else record l { present = kept_lower l.bounds l.present (record { reading = p.sure; at = p.made }) }

-- and an upper one: when it was made, this clock had not passed what it read when it came
abbrev pub upper_seen : Upper → Passage → Upper
upper_seen u p = record u { present = kept_upper u.bounds u.present (record { reading = p.came; at = p.made }) }

-- the interval isn't empty
abbrev pub is_possible : Option ℕ → ℕ → Bool
is_possible None least = true
is_possible (Some most) least = nat_le least most

-- its width counts where its lower end is known: not at a datagram that was made before the bounds that are kept
abbrev pub widened : ℕ → ℕ → Option ℕ → ℕ → ℕ
widened width sure None least = width
widened width sure (Some most) least = if sure == 0 then width else (if least == 0 then width else max width (most - least))
