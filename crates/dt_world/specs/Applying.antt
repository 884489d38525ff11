-- What an event that isn't refused leaves of a world's parts.
use Rattle.std.specs.Prelude.{◌≡◌, ◌≤◌, OnErr, OnOk, Result}
use Rattle.dt_reports.specs.Entries.{Entry}
use Rattle.dt_world_model.specs.Tables.{AllEntries}
use Rattle.dt_world_model.specs.WorldFacts.{CanHappen}
use Rattle.dt_world_model.specs.WorldStep.{WorldEvent, after_event}
use Rattle.dt_world.specs.declared.world_parts.WorldParts.{WorldParts}
use Rattle.dt_notes.specs.Moments.{most_now}
use Rattle.dt_world.specs.Outcomes.{Happens}
use Rattle.dt_world.specs.Stopping.{ComesTo, IsAtItsEnd, MayStop}
use Rattle.dt_world.specs.Worlds.{IsStationOf, world_seen}

pub record IsApplied {L U E : Type 0} (tells : L → Entry → L → Type 0) (result : Result U E) (old : WorldParts) (e : WorldEvent) (before after : L) (new : WorldParts) : Type 0 where
  pub happens : Happens tells result (world_seen old) (ComesTo (world_seen old) e) (after_event (world_seen old) e) before after (world_seen new)
  pub stations : OnOk result (AllEntries (IsStationOf new.rules new.now) new.stations.entries)
  pub moment : OnOk result (new.now ≤ most_now)
  pub can : CanHappen e
  -- no count would have passed its end, and it found no memory only where it may
  pub within : OnOk result (IsAtItsEnd (world_seen old) e → ⊥)
  pub may : OnErr result (MayStop (world_seen old) e)
  pub rules : new.rules ≡ old.rules
  pub links : new.links ≡ old.links
