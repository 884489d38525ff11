-- THE SCHEDULE of so many rounds.
use Rattle.std.specs.Prelude.{ℕ, zero, suc, ◌+◌, ◌++◌, flat_map, codes}
use Rattle.std.specs.List.{range_with_len}
use Rattle.dt_log.specs.Words.{Text}
use Rattle.dt_make.specs.Draws.{draw_at}
use Rattle.dt_make.specs.Kinds.{kind_of, copies_of}
use Rattle.dt_make.specs.Rounds.{round_lines}

-- the most rounds of a schedule
abbrev pub most_rounds : ℕ
most_rounds = 50000

-- two stations, with one link each way
abbrev pub setup_text : Text
setup_text = codes "params 1000 3000 200 500 800 100 4096 4096 512 2147483648\nstation 1 0\nstation 2 0\nlink 1 1 2 50 0\nlink 2 2 1 50 0\nroute 1 2 1\nroute 2 1 2\ngo\n"

-- how many copies are put before round i
unfoldable pub copies_before : ℕ → ℕ
copies_before zero = 0
copies_before (suc i) = copies_before i + copies_of (kind_of (draw_at i))

-- round i, where the first is round 0
abbrev pub round_text : ℕ → Text
round_text i = round_lines i (draw_at i) (copies_before i)

-- the setup, and then rounds 0 to n - 1
abbrev pub make_text : ℕ → Text
make_text n = setup_text ++ flat_map round_text (range_with_len 0 n)
