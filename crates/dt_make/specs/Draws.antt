-- The numbers of the generator, and what a round is drawn from.
use Rattle.std.specs.Prelude.{ℕ, zero, suc, ◌+◌, ◌*◌, ◌/◌, ◌%◌}

-- the number after x
abbrev pub next_x : ℕ → ℕ
next_x x = (x * 1103515245 + 12345) % 2147483648

-- x after so many rounds. It starts as 1
unfoldable pub x_after : ℕ → ℕ
x_after zero = 1
x_after (suc i) = next_x (x_after i)

-- what is drawn from x: its upper bits
abbrev pub draw_of : ℕ → ℕ
draw_of x = x / 65536

-- what round i is drawn from, where the first is round 0
abbrev pub draw_at : ℕ → ℕ
draw_at i = draw_of (x_after (suc i))

-- how many octets the message of a draw has
abbrev pub length_of : ℕ → ℕ
length_of draw = 1 + draw / 4 % 16
