-- Tokens, as the keys of a map, and how many each flow has.
use Rattle.std.specs.Prelude.{ℕ, ◌≡◌, List, count_by, map}
use Rattle.dt_units.specs.declared.endpoints.Flow.{Flow}
use Rattle.dt_world_model.specs.Tables.{same_flow}
use Rattle.dt_service_model.specs.declared.names.Token.{Token}
use Rattle.dt_tokens.specs.declared.tokens.Name.{Name}
use Rattle.dt_tokens.specs.Counts.{count_of}

abbrev pub name_of : Token → Name
name_of t = record { flow = t.flow; life = t.number.life; count = t.number.count }

abbrev pub token_of : Name → Token
token_of n = record { flow = n.flow; number = record { life = n.life; count = n.count } }

abbrev pub tokens_in : List (Name × Unit {0}) → List Token
tokens_in names = map (λ e. token_of e.0) names

abbrev pub of_flow : Flow → List Token → ℕ
of_flow f tokens = count_by (λ (t : Token). same_flow t.flow f) tokens

-- of each flow it is known how many there are
abbrev pub AreCounted : List (Flow × ℕ) → List Token → Type 0
AreCounted counts tokens = (f : Flow) → count_of counts f ≡ of_flow f tokens
