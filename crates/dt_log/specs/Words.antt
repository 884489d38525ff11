-- How numbers, flows, octets and marks are written, and how words make a line. A number is written as its
-- decimal digits, without a leading zero.
use Rattle.std.specs.Prelude.{ℕ, ◌/◌, ◌%◌, Bool, true, false, List, [], ◌∷◌, ◌++◌, codes}
use Rattle.std.specs.Fmt.{decimal, digit_glyph}
use Rattle.std.specs.List.{flat_map, join_with_byte}
use Rattle.dt_units.specs.declared.endpoints.Flow.{Flow}

-- a text is octets
abbrev pub Text : Type 0
Text = List ℕ

-- `a:p`
abbrev pub endpoint_text : ℕ → ℕ → Text
endpoint_text node port = decimal node ++ 58 ∷ decimal port

-- `a:p>b:q`
unfoldable pub flow_text : Flow → Text
flow_text f = endpoint_text f.from.0 f.from_port ++ 62 ∷ endpoint_text f.to.0 f.to_port

-- the two hexadecimal digits of an octet, the high one first, in lower case
abbrev pub octet_text : ℕ → Text
octet_text octet = digit_glyph false (octet / 16) ∷ digit_glyph false (octet % 16) ∷ []

abbrev pub hex_text : List ℕ → Text
hex_text octets = flat_map octet_text octets

-- a letter, where the mark is there
abbrev pub letter : Text → Bool → Text
letter text true = text
letter text false = []

-- letters, or `-` where there is none
abbrev pub or_dash : Text → Text
or_dash [] = codes "-"
or_dash (first ∷ more) = first ∷ more

-- `d` for the data-run flag, `b` for the begin and `e` for the end of a message, in this order
abbrev pub sent_letters : Bool → Bool → Bool → Text
sent_letters drf begin end = or_dash (letter (codes "d") drf ++ letter (codes "b") begin ++ letter (codes "e") end)

-- `r` for a run mark, `b` for the begin and `e` for the end of a message, in this order
abbrev pub read_letters : Bool → Bool → Bool → Text
read_letters run begin end = or_dash (letter (codes "r") run ++ letter (codes "b") begin ++ letter (codes "e") end)

-- which record was released
abbrev pub record_text : Bool → Text
record_text true = codes "send"
record_text false = codes "receive"

-- whether data has a run mark, or goes on
abbrev pub run_text : Bool → Text
run_text true = codes "run"
run_text false = codes "on"

-- words with one space between two of them
abbrev pub spaced : List Text → Text
spaced words = join_with_byte 32 words

-- a line: its words with one space between two of them, and one line feed
abbrev pub row_text : List Text → Text
row_text words = spaced words ++ codes "\n"
