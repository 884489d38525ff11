-- What the words of a line may be: for each kind of word the values that it has, how a word is read, the fault where it isn't of the kind, how
-- a value is written, and the values that are written so.
use Rattle.std.specs.Prelude.{◌≡◌, ℕ, ◌*◌, ◌<◌, ◌≤◌, Bool, true, false, List, ◌∷◌, ◌++◌, map, length, codes, IsTrue, Option, Some, None, Result, Ok, Err, if◌then◌else◌, nat_le}
use Rattle.std.specs.Option.{ok_or}
use Rattle.std.specs.Fmt.{decimal}
use Rattle.std.specs.Str.{bytes_eq}
use Rattle.std.specs.List.{join_with_byte, AllByRecursion}
use Rattle.dt_units.specs.declared.endpoints.Flow.{Flow}
use Rattle.dt_units.specs.Flows.{IsFlow}
use Rattle.dt_edges.specs.declared.addresses.Address.{Address}
use Rattle.dt_reports.specs.declared.faults.LineFault.{LineFault}
use Rattle.dt_reports.specs.declared.faults.LineFault.TheVariants as faults
use Rattle.dt_text.specs.Numerals.{numeral}
use Rattle.dt_text.specs.Endpoints.{flow_read, address_read}
use Rattle.dt_text.specs.Hexadecimal.{is_hex, are_pairs}
use Rattle.dt_log.specs.Words.{flow_text}

pub data WordKind : Type 0 where
  -- a number from least to most
  NumberWord : (least most : ℕ) → WordKind
  FlowWord : WordKind
  AddressWord : WordKind
  -- 1 to most pairs of hexadecimal digits
  HexWord : (most : ℕ) → WordKind
  -- `be`, `b`, `e` or `-`: whether a message begins with the octets, and whether it ends with them
  MarksWord : WordKind
  -- `first` or `again`: whether a node begins again after an earlier life
  AgainWord : WordKind

-- The value of digits is the digits, as they are written.
abbrev pub Value : WordKind → Type 0
Value (NumberWord least most) = ℕ
Value FlowWord = Flow
Value AddressWord = Address
Value (HexWord most) = List ℕ
Value MarksWord = Bool × Bool
Value AgainWord = Bool

abbrev pub number_from : ℕ → Option ℕ → Result ℕ LineFault
number_from least None = Err faults.Number
number_from least (Some n) = if nat_le least n then Ok n else Err faults.Number

abbrev pub marks_of : List ℕ → Result (Bool × Bool) LineFault
marks_of word =
    if bytes_eq word (codes "be") then Ok (true, true) else (
    if bytes_eq word (codes "b") then Ok (true, false) else (
    if bytes_eq word (codes "e") then Ok (false, true) else (
    if bytes_eq word (codes "-") then Ok (false, false) else Err faults.Word)))

abbrev pub again_of : List ℕ → Result Bool LineFault
again_of word =
    if bytes_eq word (codes "first") then Ok false else (
    if bytes_eq word (codes "again") then Ok true else Err faults.Word)

-- the value that a word has, or the fault where it isn't of the kind
abbrev pub value_read : (kind : WordKind) → List ℕ → Result (Value kind) LineFault
value_read (NumberWord least most) word = number_from least (numeral most word)
value_read FlowWord word = ok_or (flow_read word) faults.Flow
value_read AddressWord word = ok_or (address_read word) faults.Number
value_read (HexWord most) word = if is_hex most word then Ok word else Err faults.Hex
value_read MarksWord word = marks_of word
value_read AgainWord word = again_of word

-- `w.x.y.z:p`
unfoldable pub address_text : Address → List ℕ
address_text a = join_with_byte 46 (map decimal a.ip) ++ 58 ∷ decimal a.port

abbrev pub marks_text : Bool × Bool → List ℕ
marks_text marks = if marks.0 then (if marks.1 then codes "be" else codes "b") else (if marks.1 then codes "e" else codes "-")

abbrev pub again_text : Bool → List ℕ
again_text again = if again then codes "again" else codes "first"

-- the word that a value is written as
abbrev pub value_text : (kind : WordKind) → Value kind → List ℕ
value_text (NumberWord least most) n = decimal n
value_text FlowWord flow = flow_text flow
value_text AddressWord address = address_text address
value_text (HexWord most) hex = hex
value_text MarksWord marks = marks_text marks
value_text AgainWord again = again_text again

-- the numbers of an address, of which there are four
pub record IsAddress (a : Address) : Type 0 where
  pub four : length a.ip ≡ 4
  pub octets : AllByRecursion (λ n. n ≤ 255) a.ip
  pub port : a.port ≤ 65535

-- 1 to most pairs of hexadecimal digits
pub record IsHex (most : ℕ) (hex : List ℕ) : Type 0 where
  pub some : 0 < length hex
  pub within : length hex ≤ 2 * most
  pub pairs : IsTrue (are_pairs hex)

-- the value is one of the kind
abbrev pub IsOfKind : (kind : WordKind) → Value kind → Type 0
IsOfKind (NumberWord least most) n = (least ≤ n) × (n ≤ most)
IsOfKind FlowWord flow = IsFlow flow
IsOfKind AddressWord address = IsAddress address
IsOfKind (HexWord most) hex = IsHex most hex
IsOfKind MarksWord marks = Unit {0}
IsOfKind AgainWord again = Unit {0}
