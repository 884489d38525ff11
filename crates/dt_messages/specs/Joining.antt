-- How whole messages are put together from pieces where there is a longest message.
use Rattle.std.specs.Prelude.{◌≡◌, ℕ, ◌+◌, ◌^◌, ◌-◌, ◌&&◌, ◌||◌, min, nat_le, not, is_some, option_map, Bool, true, false, List, [], ◌∷◌, length, Option, Some, None, if◌then◌else◌}
use Rattle.dt_calls_model.specs.Messages.{Piece, joined}
use Rattle.dt_messages.specs.declared.joiners.Marks.{Marks}

pub record MessageValue : Type 0 where
  pub octets : List ℕ
  -- whether octets were left out since the message before it, or may have been: a run mark was read, or a message was too long
  pub gap : Bool

pub record JoinerValue : Type 0 where
  -- how many octets a message has at most; there is no such number where none is given
  pub longest : Option ℕ
  -- what was read of a message that isn't whole yet
  pub begun : Option (List ℕ)
  -- whether octets were left out since the last whole message, or may have been
  pub gap : Bool
  -- how many messages were longer, up to 2^64 - 1
  pub dropped : ℕ

abbrev pub new_joiner : Option ℕ → JoinerValue
new_joiner longest = record { longest = longest; begun = None; gap = false; dropped = 0 }

-- a piece that was read, by its marks and its octets
abbrev pub piece_with : Marks → List ℕ → Piece
piece_with marks octets = record { run = marks.run; begin = marks.begin; end = marks.end; octets = octets }

-- A LONGEST MESSAGE: what has outgrown it is dropped. With none this is what was begun.
abbrev pub fits : Option ℕ → ℕ → Bool
fits None count = true
fits (Some longest) count = nat_le count longest

abbrev pub fitting : Option ℕ → List ℕ → Option (List ℕ)
fitting longest octets = if fits longest (length octets) then Some octets else None

abbrev pub within : Option ℕ → Option (List ℕ) → Option (List ℕ)
within None begun = begun
within (Some longest) None = None
within (Some longest) (Some octets) = fitting (Some longest) octets

abbrev pub joined_within : Option ℕ → Option (List ℕ) → Piece → Option (List ℕ)
joined_within longest begun p = within longest (joined begun p)

-- whether it is with this piece that a message outgrows the longest
abbrev pub outgrows : Option ℕ → Option (List ℕ) → Piece → Bool
outgrows longest begun p = is_some (joined begun p) && not (is_some (joined_within longest begun p))

-- the message that a piece makes whole, and what waits after it
abbrev pub whole_within : Option ℕ → Option (List ℕ) → Piece → Option (List ℕ)
whole_within longest begun p = if p.end then joined_within longest begun p else None

abbrev pub begun_within : Option ℕ → Option (List ℕ) → Piece → Option (List ℕ)
begun_within longest begun p = if p.end then None else joined_within longest begun p

-- one more, and 2^64 - 1 at most
abbrev pub counted_up : ℕ → ℕ
counted_up n = min (n + 1) (2 ^ 64 - 1)

-- A GAP: octets were left out since the last whole message, or may have been. A run mark was read, or a message outgrew the longest, with this piece or before it
abbrev pub has_gap : JoinerValue → Piece → Bool
has_gap j p = j.gap || p.run || outgrows j.longest j.begun p

-- A PIECE GOES ON IT: the message that it makes whole, and the joiner after it. A gap is reported once, with the next whole message.
abbrev pub message_with : JoinerValue → Piece → Option MessageValue
message_with j p = option_map (λ octets. record { octets = octets; gap = has_gap j p }) (whole_within j.longest j.begun p)

abbrev pub joiner_after : JoinerValue → Piece → JoinerValue
joiner_after j p =
    record {
      longest = j.longest;
      begun = begun_within j.longest j.begun p;
      gap = has_gap j p && not (is_some (whole_within j.longest j.begun p));
      dropped = if outgrows j.longest j.begun p then counted_up j.dropped else j.dropped;
    }

-- the same before it is asked whether the piece ends the message
abbrev pub grown : JoinerValue → Piece → JoinerValue
grown j p =
    record {
      longest = j.longest;
      begun = joined_within j.longest j.begun p;
      gap = has_gap j p;
      dropped = if outgrows j.longest j.begun p then counted_up j.dropped else j.dropped;
    }

-- PIECES ONE AFTER THE OTHER, of which none makes a message whole
abbrev pub joiner_by : JoinerValue → List Piece → JoinerValue
joiner_by j [] = j
joiner_by j (p ∷ pieces) = joiner_by (joiner_after j p) pieces

abbrev pub NoneWhole : JoinerValue → List Piece → Type 0
NoneWhole j [] = Unit {0}
NoneWhole j (p ∷ pieces) = (message_with j p ≡ None) × NoneWhole (joiner_after j p) pieces

-- Octets that were read are lost with what was begun, and that is reported as a gap.
abbrev pub lost : JoinerValue → JoinerValue
lost j = record j { begun = None; gap = true }

-- Nothing is begun and no gap is to be reported: but for its count it is as a new one.
abbrev pub is_idle : JoinerValue → Bool
is_idle j = not (is_some j.begun) && not j.gap
