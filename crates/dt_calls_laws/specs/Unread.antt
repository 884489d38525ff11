-- What is unread are the last given rows.
use Rattle.std.specs.Prelude.{ℕ, suc, ◌+◌, ◌<◌, ◌≤◌, ◌≡◌, false, List, drop, get_or, length, map}
use Rattle.dt_units.specs.declared.endpoints.Flow.{Flow}
use Rattle.dt_flow_model.specs.declared.rows.Given.{Given}
use Rattle.dt_flow_model.specs.Ledger.{given_at, given_item_of}
use Rattle.dt_world_model.specs.World.{World, placed, view}
use Rattle.dt_calls_model.specs.Messages.{Piece}
use Rattle.dt_calls_laws.specs.Calm.{count_gone, rows_given}

-- They are the rows after those that are gone, with their marks, and of the reader's present life.
pub record UnreadIsTheEnd (w : World) (f : Flow) : Type 0 where
  pub items : (view w f).unread ≡ map given_item_of (drop (count_gone w f) (rows_given w f))
  pub lives : (k : ℕ) → count_gone w f ≤ k → k < length (rows_given w f) → (given_at (rows_given w f) k).life ≡ (placed w f.to.0).life

-- THE ROWS OF A PIECE stand at a place of the given rows, are of one life, and have no marks inside the piece.
pub record ArePiece (given : List Given) (from count life : ℕ) (p : Piece) : Type 0 where
  pub fits : from + count ≤ length given
  pub some : 0 < count
  pub lives : (k : ℕ) → k < count → (given_at given (from + k)).life ≡ life
  pub one_run : (k : ℕ) → suc k < count → (given_at given (from + suc k)).run ≡ false
  pub one_end : (k : ℕ) → suc k < count → (given_at given (from + k)).end ≡ false
  pub run : p.run ≡ (given_at given from).run
  pub begin : p.begin ≡ (given_at given from).begin
  pub end : (k : ℕ) → suc k ≡ count → p.end ≡ (given_at given (from + k)).end
  pub many : length p.octets ≡ count
  pub octets : (k : ℕ) → k < count → get_or p.octets k 0 ≡ (given_at given (from + k)).octet
