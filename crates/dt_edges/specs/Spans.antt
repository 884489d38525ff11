-- Datagrams whose octets stand one after another in one list.
use Rattle.std.specs.Prelude.{ℕ, ◌+◌, ◌≤◌, min, ◌++◌, List, [], ◌∷◌, replicate, slice_range, Option, None, IfSome}
use Rattle.std.specs.List.{flat_map}
use Rattle.std.specs.Option.{option_map}
use Rattle.dt_edges.specs.declared.spans.Span.{Span}
use Rattle.dt_edges.specs.declared.mem_inboxes.Found.{Found}
use Rattle.dt_edges.specs.Wires.{Datagram}

-- the datagram that stands at this place
abbrev pub datagram_at : List ℕ → Span → Datagram
datagram_at octets span = record { link = span.link; octets = slice_range octets span.start span.end }

-- the place is within so many octets
pub record IsWithin (len : ℕ) (span : Span) : Type 0 where
  pub ordered : span.start ≤ span.end
  pub within : span.end ≤ len

-- an entry that is a datagram is one of a link, and stands within so many octets
abbrev pub IsEntry : ℕ → Option Span → Type 0
IsEntry len entry = IfSome entry (λ span. IsWithin len span × (span.link ≤ 255))

-- what takes handed over that used an entry, with nothing for those before it that found none
abbrev pub answers_of : List ℕ → List Found → List (Option Datagram)
answers_of octets found = flat_map (λ (f : Found). replicate f.idle None ++ option_map (datagram_at octets) f.datagram ∷ []) found

-- the first octets of a datagram, as many as there is room for
abbrev pub cut_span : ℕ → Span → Span
cut_span room span = record span { end = min span.end (span.start + room) }
