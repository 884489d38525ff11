-- What holds of a store by itself.
use Rattle.std.proofs.Common.{◌≡◌, ◌+◌, ◌≤◌, ◌<◌, ◌∙◌, ℕ, List, ◌∷◌, ◌⊎◌, inl, inr, arith, refl}
use Rattle.std.specs.Prelude.{◌-◌, Option, Some, None}
use Rattle.dt_orders_model.specs.declared.registers.RowState.{RowState}
use Rattle.dt_orders_model.specs.declared.registers.RowState.TheVariants.{AtWork, Cancelled, Done}
use Rattle.dt_orders_model.specs.Closing.{IsClosed}
use Rattle.dt_orders_model.specs.Stores.{Act, Among, Entry, Executed, Given, Name, Store, Taken, Withdrawn, reopened, results_of, row_of, times}
use Rattle.dt_orders_model.specs.Writing.{floor_of}
use Rattle.dt_orders_laws.proofs.Closed.{KeepsClosed}
use Rattle.dt_orders_laws.proofs.Lists.{name_at}
use Rattle.dt_orders_laws.proofs.Places.{AreFirsts, firsts_later}

-- an order was taken so, by some commit
abbrev pub TookAs : List Taken → Name → Act → Type 0
TookAs log o act = (stamp : ℕ) × Among (record { name = o; stamp = stamp; act = act }) log

-- what a row's state says is so
abbrev pub Told : List Taken → List Given → Name → RowState → List ℕ → Type 0
Told log results o AtWork r = TookAs log o Executed × (results_of o results ≡ 0)
Told log results o Cancelled r = TookAs log o Withdrawn
Told log results o Done r = TookAs log o Executed × Among (record { name = o; result = r }) results

pub record IsRow (clock horizon : ℕ) (log : List Taken) (results : List Given) (lane : ℕ) (e : Entry) : Type 0 where
  pub born : e.row.born ≤ horizon
  pub stamp : e.row.stamp ≤ clock
  pub told : Told log results (name_at lane e.row.number e.row.tag) e.row.state e.result

abbrev pub RowHolds : (clock horizon : ℕ) → List Taken → List Given → ℕ → Option Entry → Type 0
RowHolds clock horizon log results lane None = Unit {0}
RowHolds clock horizon log results lane (Some e) = IsRow clock horizon log results lane e

pub record IsTaken (clock horizon : ℕ) (rows : ℕ → Option Entry) (d : Taken) : Type 0 where
  pub some : 0 < d.stamp
  pub within : d.stamp ≤ clock
  pub closed : (shared : ℕ) → shared < d.stamp → IsClosed horizon (row_of (rows d.name.lane)) d.name.number shared

-- A SOUND STORE: each row says what is so, each order that was taken is closed for all who heard of no commit from its own on, and was taken once
pub record Sound (s : Store) : Type 0 where
  pub horizon : s.horizon ≤ s.clock
  pub firsts : AreFirsts s.clock (s.opening ∷ s.older)
  pub rows : (lane : ℕ) → RowHolds s.clock s.horizon s.log s.results lane (s.rows lane)
  pub log : (d : Taken) → Among d s.log → IsTaken s.clock s.horizon s.rows d
  pub once : (o : Name) → times o s.log ≤ 1
  pub results : (o : Name) → results_of o s.results ≤ times o s.log

-- more was taken, and more results are there, but for none of this lane
pub record MoreBy (lane : ℕ) (log : List Taken) (results : List Given) (log' : List Taken) (results' : List Given) : Type 0 where
  pub taken : (d : Taken) → Among d log → Among d log'
  pub given : (g : Given) → Among g results → Among g results'
  pub same : (o : Name) → o.lane ≡ lane → results_of o results' ≡ results_of o results

told_more : (lane number tag : ℕ) (log : List Taken) (results : List Given) (log' : List Taken) (results' : List Given) (state : RowState) (r : List ℕ) → MoreBy lane log results log' results' → Told log results (name_at lane number tag) state r → Told log' results' (name_at lane number tag) state r
told_more lane number tag log results log' results' AtWork r m t = ((t.0.0, m.taken (record { name = name_at lane number tag; stamp = t.0.0; act = Executed }) t.0.1), m.same (name_at lane number tag) refl ∙ t.1)
told_more lane number tag log results log' results' Cancelled r m t = (t.0, m.taken (record { name = name_at lane number tag; stamp = t.0; act = Withdrawn }) t.1)
told_more lane number tag log results log' results' Done r m t = ((t.0.0, m.taken (record { name = name_at lane number tag; stamp = t.0.0; act = Executed }) t.0.1), m.given (record { name = name_at lane number tag; result = r }) t.1)

pub row_more : (clock horizon clock' horizon' lane : ℕ) (log : List Taken) (results : List Given) (log' : List Taken) (results' : List Given) (e : Option Entry) → clock ≤ clock' → horizon ≤ horizon' → MoreBy lane log results log' results' → RowHolds clock horizon log results lane e → RowHolds clock' horizon' log' results' lane e
row_more clock horizon clock' horizon' lane log results log' results' None c h m r = tt
row_more clock horizon clock' horizon' lane log results log' results' (Some e) c h m r = record {
  born = let b = r.born in omega arith;
  stamp = let s = r.stamp in omega arith;
  told = told_more lane e.row.number e.row.tag log results log' results' e.row.state e.result m r.told;
}

pub nothing_more : (lane : ℕ) (log : List Taken) (results : List Given) → MoreBy lane log results log results
nothing_more lane log results = record { taken = λ d m. m; given = λ g m. m; same = λ o e. refl }

-- the floor of a lane isn't above the horizon
pub floor_within : (clock horizon lane : ℕ) (log : List Taken) (results : List Given) (e : Option Entry) → RowHolds clock horizon log results lane e → floor_of horizon (row_of e) ≤ horizon
floor_within clock horizon lane log results None r = omega arith
floor_within clock horizon lane log results (Some e) r = r.born

-- A COMMIT leaves the store with these rows
abbrev pub grown : Store → ℕ → (ℕ → Option Entry) → List Taken → List Given → Store
grown s horizon rows log results = record s { clock = s.clock + 1; horizon = horizon; rows = rows; log = log; results = results }

-- one more that was taken: by this commit, and closed for all who heard until it
pub record IsNewly (clock horizon : ℕ) (rows : ℕ → Option Entry) (d : Taken) : Type 0 where
  pub stamp : d.stamp ≡ clock + 1
  pub closed : (shared : ℕ) → shared < clock + 1 → IsClosed horizon (row_of (rows d.name.lane)) d.name.number shared

pub record Grows (s : Store) (horizon : ℕ) (rows : ℕ → Option Entry) (log : List Taken) (results : List Given) : Type 0 where
  pub within : horizon ≤ s.clock + 1
  pub keeps : KeepsClosed s.clock s.horizon s.rows horizon rows
  pub rows_hold : (lane : ℕ) → RowHolds (s.clock + 1) horizon log results lane (rows lane)
  pub taken : (d : Taken) → Among d log → Among d s.log ⊎ IsNewly s.clock horizon rows d
  pub once : (o : Name) → times o log ≤ 1
  pub given : (o : Name) → results_of o results ≤ times o log

pub still_taken : (s : Store) (horizon : ℕ) (rows : ℕ → Option Entry) → KeepsClosed s.clock s.horizon s.rows horizon rows → (d : Taken) → IsTaken s.clock s.horizon s.rows d → IsTaken (s.clock + 1) horizon rows d
still_taken s horizon rows k d t = record {
  some = t.some;
  within = let w = t.within in omega arith;
  closed = λ shared below. let w = t.within in k.keeps d.name.lane d.name.number shared (omega arith) (t.closed shared below);
}

newly_taken : (s : Store) (horizon : ℕ) (rows : ℕ → Option Entry) (d : Taken) → IsNewly s.clock horizon rows d → IsTaken (s.clock + 1) horizon rows d
newly_taken s horizon rows d n = record {
  some = let e = n.stamp in omega arith;
  within = let e = n.stamp in omega arith;
  closed = λ shared below. let e = n.stamp in n.closed shared (omega arith);
}

taken_by : (s : Store) (horizon : ℕ) (rows : ℕ → Option Entry) (d : Taken) → Sound s → KeepsClosed s.clock s.horizon s.rows horizon rows → Among d s.log ⊎ IsNewly s.clock horizon rows d → IsTaken (s.clock + 1) horizon rows d
taken_by s horizon rows d sound k (inl m) = still_taken s horizon rows k d (sound.log d m)
taken_by s horizon rows d sound k (inr n) = newly_taken s horizon rows d n

pub sound_grown : (s : Store) (horizon : ℕ) (rows : ℕ → Option Entry) (log : List Taken) (results : List Given) → Sound s → Grows s horizon rows log results → Sound (grown s horizon rows log results)
sound_grown s horizon rows log results sound g = record {
  horizon = g.within;
  firsts = firsts_later s.clock (s.clock + 1) (s.opening ∷ s.older) (omega arith) sound.firsts;
  rows = g.rows_hold;
  log = λ d m. taken_by s horizon rows d sound g.keeps (g.taken d m);
  once = g.once;
  results = g.given;
}

-- A STORE THAT IS OPENED is as sound
pub sound_reopened : (s : Store) (nonce : ℕ) → Sound s → Sound (reopened s nonce)
sound_reopened s nonce sound = record {
  horizon = let h = sound.horizon in omega arith;
  firsts = (omega arith, firsts_later s.clock (s.clock + 1 - 1) (s.opening ∷ s.older) (omega arith) sound.firsts);
  rows = λ lane. row_more s.clock s.horizon (s.clock + 1) s.horizon lane s.log s.results s.log s.results (s.rows lane) (omega arith) (omega arith) (nothing_more lane s.log s.results) (sound.rows lane);
  log = λ d m. still_taken s s.horizon s.rows (record { keeps = λ lane number shared w c. c }) d (sound.log d m);
  once = sound.once;
  results = sound.results;
}
