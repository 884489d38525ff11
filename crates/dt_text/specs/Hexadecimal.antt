-- Octets as words: each is a pair of hexadecimal digits, in either case.
use Rattle.std.specs.Prelude.{ℕ, ◌+◌, ◌*◌, ◌%◌, Bool, ◌&&◌, List, [], ◌∷◌, length, ◌==◌, nat_le, nat_lt}
use Rattle.std.specs.Char.{digit_value, is_ascii_hexdigit}
use Rattle.std.specs.List.{list_all}

-- pairs of hexadecimal digits
abbrev pub are_pairs : List ℕ → Bool
are_pairs word = (length word % 2 == 0) && list_all is_ascii_hexdigit word

-- from 1 to most pairs
abbrev pub is_hex : ℕ → List ℕ → Bool
is_hex most word = nat_lt 0 (length word) && nat_le (length word) (2 * most) && are_pairs word

-- the octets that pairs of hexadecimal digits spell: the high digit stands first
abbrev pub octets_of_hex : List ℕ → List ℕ
octets_of_hex (high ∷ low ∷ more) = (16 * digit_value high + digit_value low) ∷ octets_of_hex more
octets_of_hex (_ ∷ []) = []
octets_of_hex [] = []
