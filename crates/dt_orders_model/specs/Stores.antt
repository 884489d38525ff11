-- A server's store, and what its commits make of it.
use Rattle.std.specs.Prelude.{◌≡◌, ℕ, suc, ◌+◌, ◌==◌, ◌&&◌, ◌⊎◌, Bool, true, false, length, if◌then◌else◌, List, [], ◌∷◌, Option, Some, None}
use Rattle.dt_orders_model.specs.declared.knowledge.Known.{Known}
use Rattle.dt_orders_model.specs.declared.knowledge.Opening.{Opening}
use Rattle.dt_orders_model.specs.declared.knowledge.Place.{Place}
use Rattle.dt_orders_model.specs.declared.registers.Meta.{Meta}
use Rattle.dt_orders_model.specs.declared.registers.Row.{Row}
use Rattle.dt_orders_model.specs.declared.registers.RowState.TheVariants.{AtWork, Cancelled, Done}
use Rattle.dt_orders_model.specs.Chains.{is_on_by, place_in, shared_by}
use Rattle.dt_orders_model.specs.Writing.{horizon_after, row_after, row_finished, row_touched}

-- THE NAME OF AN ORDER: its lane, which is a client's lane, its number and its tag
pub record Name : Type 0 where
  pub lane : ℕ
  pub number : ℕ
  pub tag : ℕ

abbrev pub is_same : Name → Name → Bool
is_same a b = a.lane == b.lane && (a.number == b.number && a.tag == b.tag)

-- what a server did with an order
pub data Act : Type 0 where
  Executed : Act
  Withdrawn : Act

-- AN ORDER WAS TAKEN: it was executed or withdrawn, by the commit of this clock
pub record Taken : Type 0 where
  pub name : Name
  pub stamp : ℕ
  pub act : Act

-- AN ORDER GOT ITS RESULT, some octets
pub record Given : Type 0 where
  pub name : Name
  pub result : List ℕ

-- a row with the result beside it
pub record Entry : Type 0 where
  pub row : Row
  pub result : List ℕ

-- A SERVER'S STORE: its numbers, its last opening and the older ones, the newest first, and its rows; and, as no server keeps them, all orders that were taken in its history and all results
pub record Store : Type 0 where
  pub clock : ℕ
  pub horizon : ℕ
  pub opening : Opening
  pub older : List Opening
  pub rows : ℕ → Option Entry
  pub log : List Taken
  pub results : List Given

-- how often an order was taken
abbrev pub times : Name → List Taken → ℕ
times o [] = 0
times o (d ∷ ds) = if is_same d.name o then suc (times o ds) else times o ds

-- how often it was executed
abbrev pub is_executed : Act → Bool
is_executed Executed = true
is_executed Withdrawn = false

abbrev pub executions : Name → List Taken → ℕ
executions o [] = 0
executions o (d ∷ ds) = if is_same d.name o && is_executed d.act then suc (executions o ds) else executions o ds

-- how many results it got
abbrev pub results_of : Name → List Given → ℕ
results_of o [] = 0
results_of o (g ∷ gs) = if is_same g.name o then suc (results_of o gs) else results_of o gs

-- one of a list
abbrev pub Among : {A : Type 0} → A → List A → Type 0
Among x [] = ⊥
Among x (y ∷ ys) = (x ≡ y) ⊎ Among x ys

abbrev pub meta_of : Store → Meta
meta_of s = record { clock = s.clock; horizon = s.horizon; opening = length s.older; nonce = s.opening.nonce }

abbrev pub row_of : Option Entry → Option Row
row_of None = None
row_of (Some e) = Some e.row

abbrev pub place_of : Known → Store → Place
place_of q s = place_in q.opening q.nonce s.clock (s.opening ∷ s.older)

abbrev pub shared : Known → Store → ℕ
shared q s = shared_by q.clock (place_of q s)

abbrev pub is_on : Known → Store → Bool
is_on q s = is_on_by q.clock (place_of q s)

-- WHAT AN ANSWER NAMES: the store's last commit
abbrev pub heard : Store → Known
heard s = record { opening = length s.older; nonce = s.opening.nonce; clock = s.clock }

abbrev pub put : (ℕ → Option Entry) → ℕ → Option Entry → ℕ → Option Entry
put rows lane entry other = if other == lane then entry else rows other

-- COMMITS. Each adds one to the clock.
-- an order is executed, and its result is there
abbrev pub executed : Store → Name → List ℕ → Store
executed s o result = record s { clock = s.clock + 1; rows = put s.rows o.lane (Some (record { row = row_after (s.clock + 1) s.horizon (row_of (s.rows o.lane)) o.number o.tag Done; result = result })); log = record { name = o; stamp = s.clock + 1; act = Executed } ∷ s.log; results = record { name = o; result = result } ∷ s.results }

-- an order is executed, and is at work
abbrev pub begun : Store → Name → Store
begun s o = record s { clock = s.clock + 1; rows = put s.rows o.lane (Some (record { row = row_after (s.clock + 1) s.horizon (row_of (s.rows o.lane)) o.number o.tag AtWork; result = [] })); log = record { name = o; stamp = s.clock + 1; act = Executed } ∷ s.log }

-- an order is cancelled
abbrev pub withdrawn : Store → Name → Store
withdrawn s o = record s { clock = s.clock + 1; rows = put s.rows o.lane (Some (record { row = row_after (s.clock + 1) s.horizon (row_of (s.rows o.lane)) o.number o.tag Cancelled; result = [] })); log = record { name = o; stamp = s.clock + 1; act = Withdrawn } ∷ s.log }

-- a row is touched
abbrev pub touched : Store → ℕ → Entry → Store
touched s lane e = record s { clock = s.clock + 1; rows = put s.rows lane (Some (record e { row = row_touched (s.clock + 1) e.row })) }

-- an order at work gets its result
abbrev pub finished : Store → ℕ → Entry → List ℕ → Store
finished s lane e result = record s { clock = s.clock + 1; rows = put s.rows lane (Some (record { row = row_finished (s.clock + 1) e.row; result = result })); results = record { name = record { lane = lane; number = e.row.number; tag = e.row.tag }; result = result } ∷ s.results }

-- a row is forgotten
abbrev pub forgotten : Store → ℕ → Entry → Store
forgotten s lane e = record s { clock = s.clock + 1; horizon = horizon_after s.horizon e.row; rows = put s.rows lane None }

-- the store is opened
abbrev pub reopened : Store → ℕ → Store
reopened s nonce = record s { clock = s.clock + 1; opening = record { nonce = nonce; first = s.clock + 1 }; older = s.opening ∷ s.older }
