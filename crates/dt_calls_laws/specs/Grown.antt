-- What the events of the world that are no send and no read leave of a flow: more octets given at the end, and nothing else.
use Rattle.std.specs.Prelude.{◌≡◌, List, ◌++◌, map}
use Rattle.dt_flow_model.specs.declared.rows.Given.{Given}
use Rattle.dt_flow_model.specs.Ledger.{item_of}
use Rattle.dt_world_model.specs.Ledgers.{FlowLedger}
use Rattle.dt_world_model.specs.WorldStep.{Arrives, Loses, Passes, Reads, Restarts, Sends, Ticks, WorldEvent}

pub record GrowsAtEnd (l after : FlowLedger) : Type 0 where
  pub taken : map item_of after.taken ≡ map item_of l.taken
  pub more : List Given
  pub given : after.given ≡ l.given ++ more
  pub reads : after.reads ≡ l.reads

abbrev pub IsNoSendOrRead : WorldEvent → Type 0
IsNoSendOrRead (Passes by) = Unit {0}
IsNoSendOrRead (Sends f octets begin end) = ⊥
IsNoSendOrRead (Reads f most) = ⊥
IsNoSendOrRead (Ticks n) = Unit {0}
IsNoSendOrRead (Arrives copy) = Unit {0}
IsNoSendOrRead (Loses copy) = Unit {0}
IsNoSendOrRead (Restarts n) = Unit {0}
