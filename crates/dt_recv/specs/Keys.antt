-- The keys of the table of cases: a case in five bits.
use Rattle.std.specs.Prelude.{ℕ, ◌+◌, ◌*◌, Bool, true, false, Option, Some, None}
use Rattle.dt_units.specs.declared.order.Relation.{Relation}
use Rattle.dt_units.specs.declared.order.Relation.TheVariants.{Below, Equal, Above}
use Rattle.dt_flow_model.specs.declared.arrivals.Action.{Action}
use Rattle.dt_flow_model.specs.declared.arrivals.Action.TheVariants.{Drop, Make, TellNumber, TellExpected, Accept, Skip, Close}
use Rattle.dt_flow_model.specs.ReceiveRecord.{action_with, action_without, close_if}

abbrev pub bit : Bool → ℕ
bit false = 0
bit true = 1

abbrev pub rank : Relation → ℕ
rank Below = 0
rank Equal = 1
rank Above = 2

-- The key of a data packet: 1 where the octets fit, 2 for the data-run flag, 4 where a record stands, and 8 times the relation of its number to the expected one, which is below where no record stands.
abbrev pub standing_key : Option Relation → ℕ
standing_key None = 0
standing_key (Some relation) = 4 + 8 * rank relation

abbrev pub data_key : Bool → Bool → Option Relation → ℕ
data_key fits drf relation = bit fits + 2 * bit drf + standing_key relation

-- The key of a closing packet: 24, 4 where a record stands, and 1 where its number is the expected one.
abbrev pub close_key : Option Bool → ℕ
close_key None = 24
close_key (Some equal) = 28 + bit equal

-- the rows in words: the action at a relation or none
abbrev pub data_action : Option Relation → Bool → Bool → Action
data_action None drf fits = action_without drf fits
data_action (Some relation) drf fits = action_with relation drf fits

abbrev pub closing_action : Option Bool → Action
closing_action None = Drop
closing_action (Some equal) = close_if equal

-- the number of an action in a row of the table
abbrev pub action_code : Action → ℕ
action_code Drop = 0
action_code Make = 1
action_code TellNumber = 2
action_code TellExpected = 3
action_code Accept = 4
action_code Skip = 5
action_code Close = 6
