-- Both ends of orders together: histories of a server, its clients and the wire between them.
use Rattle.std.specs.Prelude.{◌≡◌, ◌≤◌, ◌+◌, ℕ, Bool, true, List, [], ◌∷◌, Option, Some, None, ◌⊎◌}
use Rattle.dt_orders_model.specs.declared.knowledge.Known.{Known}
use Rattle.dt_orders_model.specs.declared.lanes.Called.{Called}
use Rattle.dt_orders_model.specs.declared.lanes.Lane.{Lane}
use Rattle.dt_orders_model.specs.declared.lanes.Order.{Order}
use Rattle.dt_orders_model.specs.declared.lanes.Word.{Word}
use Rattle.dt_orders_model.specs.Histories.{IsDrawnAnew, World, commit, first_store, first_world, noted}
use Rattle.dt_orders_model.specs.Lanes.{call_of, given_of}
use Rattle.dt_orders_model.specs.Stores.{Among, Store, heard, is_on, reopened}
use Rattle.dt_orders_world_laws.specs.Clients.{Ended, Kept, Process, adopted_on, asked_on, attempt_of, called_on, cancelled_on, ended_on, first_process, heard_on, name_on, noted_on, opened_on, put_at, question_of}
use Rattle.dt_orders_world_laws.specs.Wires.{Handles, Reply, Sent, Works, reply_to}

-- WHICH STORES MAY BE SET BACK, and whether the server takes only calls of clients that know its present opening
pub record Rules : Type 0 where
  pub strict : Bool
  pub server : Bool
  pub clients : Bool

-- A FATE THAT A PROGRAM WAS TOLD
pub record Told : Type 0 where
  pub client : ℕ
  pub ended : Ended

-- BOTH ENDS: the server's history, and what a crash may leave of its store; all calls that were ever made, all answers that the server ever made, and those that ever left it; the clients; and all fates that their programs were told
pub record Both : Type 0 where
  pub server : World
  pub alive : List Store
  pub sent : List Sent
  pub made : List Reply
  pub left : List Reply
  pub clients : ℕ → Process
  pub told : List Told

-- some of a list
abbrev pub AreAmong : {A : Type 0} → List A → List A → Type 0
AreAmong {A = A} some all = (x : A) → Among x some → Among x all

-- whatever a crash leaves has the commit on its path
abbrev pub IsFirm : Known → List Store → Type 0
IsFirm q stores = (s : Store) → Among s stores → is_on q s ≡ true

-- an answer that left the server names the commit
abbrev pub WasAnswered : Known → List Reply → Type 0
WasAnswered q left = (r : Reply) × Among r left × (r.answer.heard ≡ q)

abbrev pub MayAsk : Option Known → List Reply → Type 0
MayAsk None left = Unit {0}
MayAsk (Some q) left = WasAnswered q left

-- no opening of any client has the nonce
abbrev pub IsFresh : ℕ → (ℕ → Process) → Type 0
IsFresh nonce clients = (i : ℕ) → Among nonce (clients i).nonces → ⊥

-- each fate that a client wrote is stored
abbrev pub AllStored : Process → Type 0
AllStored p = (e : Ended) → Among e p.fates → e.record_number ≤ p.stored

abbrev pub with_client : Both → ℕ → Process → Both
with_client w i p = record w { clients = put_at w.clients i p }

abbrev pub makes : Both → ℕ → Process → Sent → Both
makes w i p s = record w { clients = put_at w.clients i p; sent = s ∷ w.sent }

abbrev pub handled : Both → World → Reply → Both
handled w v r = record w { server = v; alive = v.present ∷ w.alive; made = r ∷ w.made }

abbrev pub opened_server : Both → Store → ℕ → Both
opened_server w s nonce = record w { server = commit w.server (reopened s nonce); alive = reopened s nonce ∷ [] }

-- ONE STEP. The server handles any call that was ever made, as often as one likes and in any order, and an answer that left it is heard by any call, any number of times or never: whatever a wire loses, repeats or reorders is among these
pub data Step (rules : Rules) (w : Both) : Both → Type 0 where
  handles : (s : Sent) (v : World) (said : Word) (value : ℕ) (result : List ℕ) → Among s w.sent → Handles rules.strict w.server s v said result → Step rules w (handled w v (reply_to s (heard v.present) said value result w.sent))
  works : (s : Store) → Works w.server s → Step rules w (record w { server = commit w.server s; alive = s ∷ w.alive })
  -- a sync: a crash leaves no less than the commits that it covered
  syncs : (kept : List Store) → AreAmong kept w.alive → Among w.server.present kept → Step rules w (record w { alive = kept })
  -- an answer leaves once the commit that it names is there after any crash
  leaves : (r : Reply) → Among r w.made → IsFirm r.answer.heard w.alive → Step rules w (record w { left = r ∷ w.left })
  -- the server dies or loses power, and starts again
  opens : (s : Store) (nonce : ℕ) → Among s w.alive → IsDrawnAnew nonce w.server.past → Step rules w (opened_server w s nonce)
  -- its store is any state that it ever had
  set_back : rules.server ≡ true → (s : Store) (nonce : ℕ) → Among s w.server.past → IsDrawnAnew nonce w.server.past → Step rules w (opened_server w s nonce)
  gives : (i lane uid : ℕ) (l : Lane) (o : Order) → given_of (w.clients i).client ((w.clients i).lanes lane) uid ((w.clients i).number + 1) ≡ Some l → l.order ≡ Some o → Step rules w (record (with_client w i (noted_on (w.clients i) lane l)) { server = noted w.server (record { name = name_on lane o; since = o.since }) })
  calls : (i lane : ℕ) (c : Called) → call_of (w.clients i).client ((w.clients i).lanes lane) (w.clients i).stored (attempt_of (w.clients i)) ≡ Some c → Step rules w (makes w i (called_on (w.clients i) lane c) (record { lane = lane; called = c }))
  asks : (i lane : ℕ) (since : Known) (knows : Option Known) → (knows ≡ (w.clients i).client.known) ⊎ MayAsk knows w.left → Step rules w (makes w i (asked_on (w.clients i) lane (question_of (w.clients i) since knows)) (record { lane = lane; called = question_of (w.clients i) since knows }))
  ends : (i lane : ℕ) → Step rules w (with_client w i (ended_on (w.clients i) lane))
  hears : (i lane : ℕ) (c : Called) (r : Reply) → Among r w.left → (w.clients i).waits lane ≡ Some c → Step rules w (with_client w i (heard_on (w.clients i) lane c r))
  cancels : (i lane : ℕ) → Step rules w (with_client w i (cancelled_on (w.clients i) lane))
  adopts : (i : ℕ) → AllStored (w.clients i) → Step rules w (with_client w i (adopted_on (w.clients i)))
  -- a client's store is synced up to a record
  stores : (i stored : ℕ) (kept : List Kept) → stored ≤ (w.clients i).number → AreAmong kept (w.clients i).alive → ((k : Kept) → Among k kept → stored ≤ k.number) → Step rules w (with_client w i (record (w.clients i) { stored = stored; alive = kept }))
  -- a fate is reported once it is stored
  tells : (i : ℕ) (e : Ended) → Among e (w.clients i).fates → e.record_number ≤ (w.clients i).stored → Step rules w (record w { told = record { client = i; ended = e } ∷ w.told })
  -- a client dies or loses power, and starts again
  dies : (i nonce : ℕ) (k : Kept) → Among k (w.clients i).alive → IsFresh nonce w.clients → Step rules w (with_client w i (opened_on (w.clients i) k nonce))
  -- its store is any state that it ever had
  restores : rules.clients ≡ true → (i nonce : ℕ) (k : Kept) → Among k (w.clients i).olds → IsFresh nonce w.clients → Step rules w (with_client w i (opened_on (w.clients i) k nonce))

-- a server with an empty store, and clients with empty stores, whose nonces differ
abbrev pub first_both : ℕ → (ℕ → ℕ) → Both
first_both nonce nonces = record {
  server = first_world nonce;
  alive = first_store nonce ∷ [];
  sent = [];
  made = [];
  left = [];
  clients = λ i. first_process (nonces i);
  told = [];
}

-- ANY HISTORY of both ends
pub data Runs (rules : Rules) : Both → Type 0 where
  begins : (nonce : ℕ) (nonces : ℕ → ℕ) → ((i j : ℕ) → nonces i ≡ nonces j → i ≡ j) → Runs rules (first_both nonce nonces)
  goes : {w : Both} (v : Both) → Runs rules w → Step rules w v → Runs rules v
