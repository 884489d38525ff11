-- The text of a round.
use Rattle.std.specs.Prelude.{ℕ, ◌+◌, ◌%◌, List, [], ◌∷◌, ◌++◌, map, flat_map, codes}
use Rattle.std.specs.List.{range_with_len}
use Rattle.dt_log.specs.Words.{Text, hex_text, row_text}
use Rattle.dt_make.specs.Draws.{length_of}
use Rattle.dt_make.specs.Lines.{line_text}
use Rattle.dt_make.specs.Kinds.{kind_of, lines_of}

-- the message of round i with so many octets: octet j is i + j, as far as an octet goes
abbrev pub message : ℕ → ℕ → List ℕ
message i length = map (λ j. (i + j) % 256) (range_with_len 0 length)

-- the line by which a message is sent
abbrev pub send_text : List ℕ → Text
send_text octets = row_text (codes "send" ∷ codes "1:10>2:20" ∷ codes "be" ∷ hex_text octets ∷ [])

-- round i with this draw, where c copies were put before: its message is sent, something happens, and the message is read
abbrev pub round_lines : ℕ → ℕ → ℕ → Text
round_lines i draw c = send_text (message i (length_of draw)) ++ (flat_map line_text (lines_of (kind_of draw) c) ++ codes "read 1:10>2:20 65536\n")
