-- Histories of a server and of the orders that were noted, over any wire and any crash.
use Rattle.std.specs.Prelude.{◌≡◌, ◌≢◌, ◌≤◌, ℕ, Bool, true, false, List, [], ◌∷◌, Option, Some, None}
use Rattle.dt_orders_model.specs.declared.knowledge.Known.{Known}
use Rattle.dt_orders_model.specs.declared.knowledge.Opening.{Opening}
use Rattle.dt_orders_model.specs.declared.registers.RowState.TheVariants.{AtWork}
use Rattle.dt_orders_model.specs.declared.requests.Asked.{Asked}
use Rattle.dt_orders_model.specs.declared.requests.Kind.{Kind}
use Rattle.dt_orders_model.specs.declared.requests.Verdict.{Verdict}
use Rattle.dt_orders_model.specs.declared.requests.Verdict.TheVariants as verdict
use Rattle.dt_orders_model.specs.Judging.{verdict_of}
use Rattle.dt_orders_model.specs.Stores.{Among, Entry, Name, Store, begun, executed, finished, forgotten, heard, is_same, meta_of, place_of, reopened, row_of, shared, touched, withdrawn}

-- AN ORDER WAS NOTED by its client, with a commit that the client had heard of
pub record Note : Type 0 where
  pub name : Name
  pub since : Known

-- A CALL of a note: the order or its cancelling, with what the client knew when it called
pub record Call : Type 0 where
  pub note : Note
  pub kind : Kind
  pub knows : Option Known

abbrev pub asked_of : Call → Asked
asked_of c = record { kind = c.kind; number = c.note.name.number; tag = c.note.name.tag; since = c.note.since; knows = c.knows }

abbrev pub known_or : Known → Option Known → Known
known_or q None = q
known_or q (Some other) = other

-- how the server judges a call, by its present store
abbrev pub verdict_at : Bool → Store → Call → Verdict
verdict_at strict s c = verdict_of (meta_of s) (row_of (s.rows c.note.name.lane)) (asked_of c) (record { since = place_of c.note.since s; knows = place_of (known_or c.note.since c.knows) s }) strict

-- THE WORLD: the server's present store, each state that its store ever had, and each note that was ever made
pub record World : Type 0 where
  pub present : Store
  pub past : List Store
  pub notes : List Note

-- no order of these notes has the name
abbrev pub IsNew : Name → List Note → Type 0
IsNew o [] = Unit {0}
IsNew o (n ∷ ns) = (is_same n.name o ≡ false) × IsNew o ns

-- no note of the order names a commit that more is shared up to
abbrev pub HasNoNewer : World → Note → Type 0
HasNoNewer w note = (n : Note) → Among n w.notes → is_same n.name note.name ≡ true → shared n.since w.present ≤ shared note.since w.present

-- no opening of the list has the nonce
abbrev pub IsDrawn : ℕ → List Opening → Type 0
IsDrawn nonce [] = Unit {0}
IsDrawn nonce (o ∷ older) = (o.nonce ≢ nonce) × IsDrawn nonce older

abbrev pub IsDrawnAnew : ℕ → List Store → Type 0
IsDrawnAnew nonce [] = Unit {0}
IsDrawnAnew nonce (s ∷ ss) = IsDrawn nonce (s.opening ∷ s.older) × IsDrawnAnew nonce ss

abbrev pub commit : World → Store → World
commit w s = record { present = s; past = s ∷ w.past; notes = w.notes }

abbrev pub noted : World → Note → World
noted w n = record { present = w.present; past = w.past; notes = n ∷ w.notes }

-- WHAT A SERVER COMMITS. A call is of any note that was ever made, as often as one likes and in any order: whatever a wire loses, repeats or reorders, and whatever a client's crash or an old copy of its store brings again, is among these
pub data Commits (w : World) : Store → Type 0 where
  executes : (strict : Bool) (c : Call) (result : List ℕ) → Among c.note w.notes → verdict_at strict w.present c ≡ verdict.Execute → Commits w (executed w.present c.note.name result)
  begins : (strict : Bool) (c : Call) → Among c.note w.notes → verdict_at strict w.present c ≡ verdict.Execute → Commits w (begun w.present c.note.name)
  cancels : (strict : Bool) (c : Call) → Among c.note w.notes → verdict_at strict w.present c ≡ verdict.Cancel → Commits w (withdrawn w.present c.note.name)
  touches : (strict : Bool) (c : Call) (e : Entry) → Among c.note w.notes → verdict_at strict w.present c ≡ verdict.Touch → w.present.rows c.note.name.lane ≡ Some e → Commits w (touched w.present c.note.name.lane e)
  finishes : (lane : ℕ) (e : Entry) (result : List ℕ) → w.present.rows lane ≡ Some e → e.row.state ≡ AtWork → Commits w (finished w.present lane e result)
  forgets : (lane : ℕ) (e : Entry) → w.present.rows lane ≡ Some e → e.row.state ≢ AtWork → Commits w (forgotten w.present lane e)

-- ONE STEP WITHOUT A LOSS. An order is noted with what was heard of any commit; a handler fails, and its client may go on from the commit that the answer names; a commit; a server that starts again
pub data Goes (w : World) : World → Type 0 where
  notes : (o : Name) (s : Store) → IsNew o w.notes → Among s w.past → Goes w (noted w (record { name = o; since = heard s }))
  fails : (strict : Bool) (c : Call) → Among c.note w.notes → verdict_at strict w.present c ≡ verdict.Execute → Goes w (noted w (record { name = c.note.name; since = heard w.present }))
  commits : (s : Store) → Commits w s → Goes w (commit w s)
  starts : (nonce : ℕ) → IsDrawnAnew nonce w.past → Goes w (commit w (reopened w.present nonce))

-- an empty store in its first opening
abbrev pub first_store : ℕ → Store
first_store nonce = record { clock = 1; horizon = 0; opening = record { nonce = nonce; first = 1 }; older = []; rows = λ _. None; log = []; results = [] }

abbrev pub first_world : ℕ → World
first_world nonce = record { present = first_store nonce; past = first_store nonce ∷ []; notes = [] }

-- ANY HISTORY: steps without a loss, and set backs. A store that is set back is any state that it ever had, opened anew: so after a power cut, of a restored backup, and of a standby that takes over
pub data Reached : World → Type 0 where
  first : (nonce : ℕ) → Reached (first_world nonce)
  goes : {w : World} (v : World) → Reached w → Goes w v → Reached v
  set_back : {w : World} (s : Store) (nonce : ℕ) → Reached w → Among s w.past → IsDrawnAnew nonce w.past → Reached (commit w (reopened s nonce))

-- from one world on to another, without a loss
pub data Onward (w : World) : World → Type 0 where
  stays : Onward w w
  on : {u : World} (v : World) → Onward w u → Goes u v → Onward w v
