-- How often it is told that replies are uncertain, and why.
use Rattle.std.specs.Prelude.{◌≡◌, ℕ, true, List}
use Rattle.dt_units.specs.declared.endpoints.Flow.{Flow}
use Rattle.dt_world_model.specs.Host.{one_if}
use Rattle.dt_world_model.specs.Tables.{same_flow, total}
use Rattle.dt_calls_model.specs.Messages.{reversed}
use Rattle.dt_service_model.specs.declared.happenings.Happening.{Happening}
use Rattle.dt_service_model.specs.CallBook.{CallBook, is_service, kind_in}
use Rattle.dt_service_model.specs.Hearing.{GivesUp, Heard, is_uncertain}

-- how often the flow is among what was told and wasn't taken
abbrev pub uncertain_in : Flow → List Happening → ℕ
uncertain_in f told = total (λ happening. one_if (is_uncertain f happening)) told

-- A REPORT SAYS SO: octets of the way back were given up, and they had gone from a service's port
pub record GivesUpReply (f : Flow) (what : Heard) (h : CallBook) : Type 0 where
  pub back : Flow
  pub count : ℕ
  pub gives_up : what ≡ GivesUp back count
  pub of_service : is_service (kind_in back.from_port h.ports) ≡ true
  pub way : same_flow (reversed back) f ≡ true
