-- What has a few values, as numbers.
use Rattle.std.specs.Prelude.{ℕ, ◌==◌, nat_le, ◌&&◌, Bool, true, false, if◌then◌else◌}
use Rattle.dt_orders_model.specs.declared.lanes.Word.{Word}
use Rattle.dt_orders_model.specs.declared.lanes.Word.TheVariants as word
use Rattle.dt_orders_model.specs.declared.registers.RowState.{RowState}
use Rattle.dt_orders_model.specs.declared.registers.RowState.TheVariants as state
use Rattle.dt_orders_model.specs.declared.requests.Kind.{Kind}
use Rattle.dt_orders_model.specs.declared.requests.Kind.TheVariants as kind

abbrev pub code_of_bool : Bool → ℕ
code_of_bool false = 0
code_of_bool true = 1

abbrev pub code_of_kind : Kind → ℕ
code_of_kind kind.Order = 1
code_of_kind kind.Cancel = 2
code_of_kind kind.Ask = 3

abbrev pub kind_of_code : ℕ → Kind
kind_of_code code = if code == 1 then kind.Order else if code == 2 then kind.Cancel else kind.Ask

-- 0 is no row
abbrev pub code_of_state : RowState → ℕ
code_of_state state.AtWork = 1
code_of_state state.Cancelled = 2
code_of_state state.Done = 3

abbrev pub state_of_code : ℕ → RowState
state_of_code code = if code == 1 then state.AtWork else if code == 2 then state.Cancelled else state.Done

abbrev pub code_of_word : Word → ℕ
code_of_word word.Done = 1
code_of_word word.Never = 2
code_of_word word.AtWork = 3
code_of_word word.NotNow = 4
code_of_word word.Old = 5
code_of_word word.Stale = 6
code_of_word word.Forked = 7
code_of_word word.Hello = 8
code_of_word word.Told = 9

abbrev pub word_of_code : ℕ → Word
word_of_code code = if code == 1 then word.Done else if code == 2 then word.Never else if code == 3 then word.AtWork else if code == 4 then word.NotNow else if code == 5 then word.Old else if code == 6 then word.Stale else if code == 7 then word.Forked else if code == 8 then word.Hello else word.Told

abbrev pub is_from_to : (least most code : ℕ) → Bool
is_from_to least most code = nat_le least code && nat_le code most
