-- What becomes of a call over a network of services, in one statement.
use Rattle.std.specs.Prelude.{ℕ, ◌+◌, ◌<◌, ◌≤◌, ◌≡◌, ◌==◌, false, All, Contains, List, Some}
use Rattle.dt_units.specs.declared.endpoints.Flow.{Flow}
use Rattle.dt_world_model.specs.Tables.{look}
use Rattle.dt_endpoint.specs.Endpoints.{EndpointValue}
use Rattle.dt_network.specs.Network.{Setup}
use Rattle.dt_service_model.specs.declared.happenings.Happening.TheVariants.{Answered}
use Rattle.dt_service_model.specs.declared.names.CallNumber.{CallNumber}
use Rattle.dt_service_model.specs.Accounts.{ends_in, waits_in}
use Rattle.dt_service_laws.specs.Causes.{IsPatient, TellCauses}
use Rattle.dt_service_laws.specs.Fates.{all_by, calls_at, lost_at, still_in, told_at}
use Rattle.dt_service_laws.specs.Histories.{Message, at_the, calls_on, count_of, replies_on}
use Rattle.dt_service_laws.specs.Services.{Services, Turn, services_by}
use Rattle.dt_service_laws.specs.Tie.{AreSentOf, TakesCallsAlone}

-- THE CALLS OF A NODE, each by its name: each that was made has one end that was reported, or waits, or was lost with its program. Those are all of them, and only of one that found no memory it isn't known whether it was made: if it was, it has its end
pub record AreAccounted (setup : Setup) (n : ℕ) (turns : List Turn) (s : Services) : Type 0 where
  pub made : List Message
  pub are : AreSentOf (at_the n (λ m. all_by)) setup turns s made
  pub accounts : (name : CallNumber) → count_of name made ≡ ends_in name (told_at n setup turns s) + waits_in name (still_in ((services_by setup turns s).book n)) + waits_in name (lost_at n setup turns s)

-- no call that waits at a node has its deadline after it. At a node that is closed each has its end
abbrev pub AreAllPatient : Services → Type 0
AreAllPatient s = (n : ℕ) (e : EndpointValue) → look ◌==◌ n s.network.endpoints ≡ Some e → (s.book n).closed ≡ false → All (IsPatient e.latest) (s.book n).calls

-- THE FATE OF A CALL of a flow from a caller to a service, by its name
pub record HasOneFate (setup : Setup) (f : Flow) (turns : List Turn) (s : Services) (name : CallNumber) : Type 0 where
  -- it is made once at most; a call that is declined or refused is none, and no octet is taken of the flow but of calls that were made
  pub made : count_of name (calls_at f.from.0 setup turns s) ≤ 1
  pub taken : TakesCallsAlone setup f turns s
  -- where it was made it has one end that was reported, or waits, or was lost with its program
  pub accounts : AreAccounted setup f.from.0 turns s
  -- where it is answered, its service gave that answer to it
  pub answered : (answer : List ℕ) → Contains (told_at f.from.0 setup turns s) (Answered name answer) → 0 < count_of name (calls_on f setup turns s) → Contains (replies_on f setup turns s) (record { number = name; carried = answer })
  -- where it is unsure, an octet of its request was given up in that turn, or its patience was over, or its node was closed; and each of these ends a call that waits
  pub causes : TellCauses setup turns s
  pub patient : AreAllPatient (services_by setup turns s)
