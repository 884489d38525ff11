-- What an event leaves of a flow: the octets that it took, the rows that are gone, and the life of its reader.
use Rattle.std.specs.Prelude.{ℕ, ◌+◌, ◌-◌, ◌≡◌, ◌≢◌, List, ◌++◌, length, map, take}
use Rattle.dt_items.specs.declared.item.Item.{Item}
use Rattle.dt_items.specs.Unread.{first_piece}
use Rattle.dt_units.specs.declared.endpoints.Flow.{Flow}
use Rattle.dt_flow_model.specs.declared.rows.Given.{Given}
use Rattle.dt_flow_model.specs.Ledger.{given_item_of, item_of}
use Rattle.dt_world_model.specs.Ledgers.{ledger_of}
use Rattle.dt_world_model.specs.World.{World, placed, view}
use Rattle.dt_world_model.specs.WorldStep.{Arrives, Loses, Passes, Reads, Restarts, Sends, Ticks, WorldEvent}
use Rattle.dt_calls_model.specs.CallFacts.{rows_gone, taken_rows}

-- the octets that a flow took, with their marks
abbrev pub items_taken : World → Flow → List Item
items_taken w f = map item_of (taken_rows w f)

pub record Steady (w after : World) (g : Flow) : Type 0 where
  pub gone : rows_gone after g ≡ rows_gone w g
  pub life : (placed after g.to.0).life ≡ (placed w g.to.0).life

pub record Calm (w after : World) (g : Flow) : Type 0 where
  pub items : items_taken after g ≡ items_taken w g
  pub steady : Steady w after g

-- the given rows of a flow, and how many of them are gone
abbrev pub rows_given : World → Flow → List Given
rows_given w g = (ledger_of w.ledgers g).given

abbrev pub count_gone : World → Flow → ℕ
count_gone w g = length (rows_given w g) - length (view w g).unread

-- WHAT IS GIVEN is unread after what was.
pub record GivesUnread (w after : World) (g : Flow) : Type 0 where
  pub more : List Given
  pub given : rows_given after g ≡ rows_given w g ++ more
  pub unread : (view after g).unread ≡ (view w g).unread ++ map given_item_of more

-- A READ: the rows of the first piece that was unread are gone too.
abbrev pub count_read : World → Flow → ℕ → ℕ
count_read w f most = length (first_piece most (view w f).unread)

pub record PieceIsGone (w after : World) (f : Flow) (most : ℕ) : Type 0 where
  pub items : items_taken after f ≡ items_taken w f
  pub gone : rows_gone after f ≡ take (count_gone w f + count_read w f most) (rows_given w f)
  pub life : (placed after f.to.0).life ≡ (placed w f.to.0).life

-- A RESTART of the reader: all given rows are gone.
pub record AllIsGone (w after : World) (g : Flow) : Type 0 where
  pub items : items_taken after g ≡ items_taken w g
  pub gone : rows_gone after g ≡ rows_given w g

-- the event starts no station of this number again
abbrev pub IsNoRestartOf : ℕ → WorldEvent → Type 0
IsNoRestartOf m (Passes by) = Unit {0}
IsNoRestartOf m (Sends f octets begin end) = Unit {0}
IsNoRestartOf m (Reads f most) = Unit {0}
IsNoRestartOf m (Ticks n) = Unit {0}
IsNoRestartOf m (Arrives copy) = Unit {0}
IsNoRestartOf m (Loses copy) = Unit {0}
IsNoRestartOf m (Restarts n) = n ≢ m
