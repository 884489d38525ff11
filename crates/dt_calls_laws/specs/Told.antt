-- What was reported of calls, while calls go on.
use Rattle.std.specs.Prelude.{ℕ, ◌<◌, ◌≤◌, ◌≡◌, ◌≢◌, ◌^◌, List, length}
use Rattle.std.specs.List.{All}
use Rattle.dt_calls_model.specs.declared.calls.Posted.TheVariants.{Refused}
use Rattle.dt_calls_model.specs.Calls.{Calls, call_at}
use Rattle.dt_calls_model.specs.CallFacts.{CourseFacts}
use Rattle.dt_calls_model.specs.CallTold as told
use Rattle.dt_calls_model.specs.CallTold.{CallEntry, CallTold}
use Rattle.dt_calls_model.specs.Promises.{payload_of}
use Rattle.dt_calls_model.specs.Reads.{Course}

module _ (answer : List ℕ → List ℕ) where
  -- an answer is told of a call that is there, whose request was taken, and is the handler's to its payload
  abbrev pub IsTold : Calls → CallTold → Type 0
  IsTold c (told.Made call flow count) = Unit {0}
  IsTold c (told.Declined call) = Unit {0}
  IsTold c (told.Served call) = Unit {0}
  IsTold c (told.Answered call octets) = (call < length c.calls) × (octets ≡ answer (payload_of c.world (call_at c call))) × ((call_at c call).request ≢ Refused)
  IsTold c (told.Unsure call) = Unit {0}

  abbrev pub AreTold : Calls → List CallEntry → Type 0
  AreTold c entries = All (λ (e : CallEntry). IsTold c e.told) entries

  -- A STEP GOES ON: the facts hold at this point, numbers of calls go into their eight octets, and what was told is right
  pub record IsOn (c : Course) : Type 0 where
    pub facts : CourseFacts answer c.calls
    pub few : length c.calls.calls ≤ 2 ^ 64
    pub told : AreTold c.calls c.told
