-- What a part of a step leaves: the calls go on as the definition says, and its lines are reported.
use Rattle.std.specs.Prelude.{◌≡◌, List, [], ◌++◌, Result, Ok, Err}
use Rattle.dt_calls_model.specs.Calls.{Calls}
use Rattle.dt_calls_model.specs.CallTold.{CallEntry}
use Rattle.dt_calls_model.specs.Reads.{Course}
use Rattle.dt_call_parts.specs.Telling.{TellsCalls}

-- a part begins with these calls, and has told nothing yet
abbrev pub from_calls : Calls → Course
from_calls c = record { told = []; calls = c }

module _ {L : Type 0} (tells : L → CallEntry → L → Type 0) (does : Course → Course) (c : Calls) (l m : L) where
  -- it is done
  pub record HasGoneOn (after : Calls) : Type 0 where
    pub lines : TellsCalls tells (does (from_calls c)).told l m
    pub calls : after ≡ (does (from_calls c)).calls

  -- it stopped for want of memory: a first part of its lines was reported
  pub record HasStopped : Type 0 where
    pub part : List CallEntry
    pub rest : List CallEntry
    pub told : part ++ rest ≡ (does (from_calls c)).told
    pub lines : TellsCalls tells part l m

  abbrev pub GoesOn : {U E : Type 0} → Result U E → Calls → Type 0
  GoesOn (Ok done) after = HasGoneOn after
  GoesOn (Err e) after = HasStopped
