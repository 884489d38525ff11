-- What a read takes and leaves at a host.
use Rattle.std.specs.Prelude.{ℕ, ◌≡◌, false, List, drop, length, map}
use Rattle.dt_items.specs.declared.item.Item.{Item}
use Rattle.dt_items.specs.Unread.{first_piece}
use Rattle.dt_units.specs.declared.endpoints.Flow.{Flow}
use Rattle.dt_flow_model.specs.Ledger.{item_of}
use Rattle.dt_world_model.specs.Host.{Host, receiver_at}
use Rattle.dt_world_model.specs.Ledgers.{FlowLedger}
use Rattle.dt_world_model.specs.Tables.{same_flow}

abbrev pub unread_at : Host → Flow → List Item
unread_at host f = (receiver_at host f).unread

-- A STATION'S READ: the first piece goes, and nothing else does.
pub record HasRead (f : Flow) (most : ℕ) (host after : Host) : Type 0 where
  pub taken : unread_at after f ≡ drop (length (first_piece most (unread_at host f))) (unread_at host f)
  pub others : (g : Flow) → same_flow f g ≡ false → unread_at after g ≡ unread_at host g

-- two ledgers of a flow with the same octets taken and given
pub record KeepsOctets (l after : FlowLedger) : Type 0 where
  pub taken : map item_of after.taken ≡ map item_of l.taken
  pub given : after.given ≡ l.given
