-- What a call on octets answers: 0 to 5 as every call of the library, and what became of an order.
use Rattle.std.specs.Prelude.{ℕ, ◌+◌}
use Rattle.dt_orders_model.specs.declared.lanes.Fate.{Fate}
use Rattle.dt_orders_model.specs.declared.lanes.Fate.TheVariants as fate
use Rattle.dt_orders_model.specs.declared.lanes.Word.{Word}
use Rattle.dt_orders_octets.specs.Codes.{code_of_word}

abbrev pub ok : ℕ
ok = 0

abbrev pub invalid : ℕ
invalid = 3

abbrev pub none : ℕ
none = 5

-- the words of answers
abbrev pub said_as : Word → ℕ
said_as w = 64 + code_of_word w

abbrev pub done : ℕ
done = 65

abbrev pub never : ℕ
never = 66

abbrev pub at_work : ℕ
at_work = 67

abbrev pub old : ℕ
old = 69

abbrev pub stale : ℕ
stale = 70

abbrev pub forked : ℕ
forked = 71

abbrev pub hello : ℕ
hello = 72

-- what a server does
abbrev pub execute : ℕ
execute = 80

abbrev pub read : ℕ
read = 81

-- what an answer is to a client
abbrev pub unknown : ℕ
unknown = 82

abbrev pub waits : ℕ
waits = 83

abbrev pub strange : ℕ
strange = 84

abbrev pub unsure : ℕ
unsure = 85

abbrev pub alarm : ℕ
alarm = 86

abbrev pub fate_as : Fate → ℕ
fate_as fate.Done = done
fate_as fate.Never = never
fate_as fate.Unknown = unknown
