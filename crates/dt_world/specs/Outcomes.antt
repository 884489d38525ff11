-- What happens to a world and what a step answers: what is told, and what is left.
use Rattle.std.specs.Prelude.{◌≡◌, ◌++◌, true, false, List, None, Result, Ok, Err}
use Rattle.dt_units.specs.declared.endpoints.Flow.{Flow}
use Rattle.dt_reports.specs.Entries.{Entry}
use Rattle.dt_reports.specs.declared.faults.StepFault.{StepFault}
use Rattle.dt_reports.specs.declared.faults.StepFault.TheVariants as fault
use Rattle.dt_flow_model.specs.Facts.{KeepsFates}
use Rattle.dt_world_model.specs.Ledgers.{ledger_of}
use Rattle.dt_world_model.specs.World.{Noted, World, view}
use Rattle.dt_world_model.specs.WorldFacts.{SafeLedgers, SafeWorld, WorldFacts}
use Rattle.dt_world_model.specs.WorldStep.{Refused, Stepped, WorldEvent, after_event, first_refusal, refusals, world_step}
use Rattle.dt_world.specs.Stopping.{ComesTo, HasNoted, IsAtItsEnd, KeepsLedger, MayStop}
use Rattle.dt_world.specs.Reporters.{TellsAll}
use Rattle.dt_world.specs.Worlds.{WorldValue}

module _ {L : Type 0} (tells : L → Entry → L → Type 0) where
  -- WHAT HAPPENS: all lines are reported and the world is the one after; or, for want of memory, it came to some point. Then the lines up to there are reported, the world has what was noted up to there, and its ledgers are safe.
  pub record HasHappened (r : List Entry × World) (before after : L) (world : World) : Type 0 where
    pub lines : TellsAll tells r.0 before after
    pub world_is : world ≡ r.1

  pub record HasStopped (w : World) (comes : Noted → Type 0) (r : List Entry × World) (before after : L) (world : World) : Type 0 where
    pub noted : Noted
    pub comes_to : comes noted
    pub rest : List Entry
    pub told : noted.lines ++ rest ≡ r.0
    pub lines : TellsAll tells noted.lines before after
    pub has_noted : HasNoted w noted world
    pub kept : (f : Flow) → KeepsLedger (ledger_of w.ledgers f) (ledger_of world.ledgers f)
    pub safe : SafeLedgers world world.ledgers

  abbrev pub Happens : {U E : Type 0} → Result U E → World → (Noted → Type 0) → List Entry × World → L → L → World → Type 0
  Happens (Ok done) w comes r before after world = HasHappened r before after world
  Happens (Err e) w comes r before after world = HasStopped w comes r before after world

  -- A STEP IS DONE: no count would have passed its end; it told the definition's lines, gave its world, changed no fate that isn't open, and each flow is safe. The world has the facts about time, from which the next step goes on.
  pub record IsDone (w : WorldValue) (e : WorldEvent) (before after : L) (new : WorldValue) : Type 0 where
    pub told : List Entry
    pub step : world_step w.state e ≡ Stepped told new.state
    pub lines : TellsAll tells told before after
    pub unspent : new.spent ≡ false
    pub within : IsAtItsEnd w.state e → ⊥
    pub safe : SafeWorld new.state
    pub facts : WorldFacts new.state
    pub fates : (f : Flow) → KeepsFates (view w.state f).taken (view new.state f).taken

  -- It is refused as the definition refuses it, and changes nothing.
  pub record IsRefused (w : WorldValue) (e : WorldEvent) (fault : StepFault) (before after : L) (new : WorldValue) : Type 0 where
    pub step : world_step w.state e ≡ Refused fault
    pub same : new ≡ w
    pub lines : after ≡ before

  -- It found no memory, where it may want some, or a count would have passed its end: it wasn't to be refused, came to some point of its event and told the definition's lines up to there. The world is spent: it has what was noted up to there and nothing else is new. So it has the lives that it had, nothing that was acknowledged, given or read before is gone, and its ledgers are safe.
  pub record IsSpent (w : WorldValue) (e : WorldEvent) (before after : L) (new : WorldValue) : Type 0 where
    pub begun : first_refusal (refusals w.state e) ≡ None
    pub may : MayStop w.state e
    pub noted : Noted
    pub comes_to : ComesTo w.state e noted
    pub rest : List Entry
    pub told : noted.lines ++ rest ≡ (after_event w.state e).0
    pub lines : TellsAll tells noted.lines before after
    pub spent : new.spent ≡ true
    pub has_noted : HasNoted w.state noted new.state
    pub kept : (f : Flow) → KeepsLedger (ledger_of w.state.ledgers f) (ledger_of new.state.ledgers f)
    pub safe : SafeLedgers new.state new.state.ledgers

  abbrev pub FailsWith : StepFault → WorldValue → WorldEvent → L → L → WorldValue → Type 0
  FailsWith fault.BadFlow w e before after new = IsRefused w e fault.BadFlow before after new
  FailsWith (fault.NoStation n) w e before after new = IsRefused w e (fault.NoStation n) before after new
  FailsWith (fault.NoCopy n) w e before after new = IsRefused w e (fault.NoCopy n) before after new
  FailsWith (fault.Lost n) w e before after new = IsRefused w e (fault.Lost n) before after new
  FailsWith (fault.TooLate held charge) w e before after new = IsRefused w e (fault.TooLate held charge) before after new
  FailsWith fault.NoMemory w e before after new = IsSpent w e before after new

  -- the answer of a step
  abbrev pub Answers : {U : Type 0} → Result U StepFault → WorldValue → WorldEvent → L → L → WorldValue → Type 0
  Answers (Ok done) w e before after new = IsDone w e before after new
  Answers (Err fault) w e before after new = FailsWith fault w e before after new
