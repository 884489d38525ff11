-- What an event of the world within a step leaves of the world, and what is heard of it.
use Rattle.std.specs.Prelude.{◌≡◌, Bool, true, false, Result, Ok, Err}
use Rattle.dt_items.specs.declared.memory.NoMemory.{NoMemory}
use Rattle.dt_reports.specs.declared.faults.StepFault.{StepFault}
use Rattle.dt_reports.specs.declared.faults.StepFault.TheVariants as fault
use Rattle.dt_world_model.specs.WorldStep.{WorldEvent}
use Rattle.dt_world.specs.Worlds.{WorldValue}
use Rattle.dt_calls_model.specs.Reads.{happens}
use Rattle.dt_call_parts.specs.Hearing.{HeardValue, for_event, heard_all}

pub record HasHappened (e : WorldEvent) (w : WorldValue) (h : HeardValue) (after : WorldValue) (heard : HeardValue) : Type 0 where
  pub world : after.state ≡ (happens e w.state).1
  pub unspent : after.spent ≡ false
  pub heard_is : heard ≡ heard_all (happens e w.state).0 (for_event h)
  pub whole : heard.failed ≡ false

-- Where memory ran out nothing is said: what the event belongs to is used no more.
abbrev pub Happens : {U E : Type 0} → Result U E → WorldEvent → WorldValue → HeardValue → WorldValue → HeardValue → Type 0
Happens (Ok done) e w h after heard = HasHappened e w h after heard
Happens (Err fault) e w h after heard = Unit {0}

-- what an event says whose step answered so, and of which all was heard or not
abbrev pub ended : Result (Unit {0}) StepFault → Bool → Result (Unit {0}) NoMemory
ended answer true = Err record {}
ended (Ok done) false = Ok done
ended (Err fault.NoMemory) false = Err record {}
ended (Err fault.BadFlow) false = Ok tt
ended (Err (fault.NoStation n)) false = Ok tt
ended (Err (fault.NoCopy n)) false = Ok tt
ended (Err (fault.Lost n)) false = Ok tt
ended (Err (fault.TooLate held charge)) false = Ok tt
