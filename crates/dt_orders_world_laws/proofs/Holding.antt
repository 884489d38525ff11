-- What holds of both ends in every history, whatever is set back.
use Rattle.std.proofs.Common.{◌≡◌, ◌≤◌, ◌<◌, ◌∙◌, ℕ, List, false, ap, subst}
use Rattle.std.specs.Prelude.{max, Option, Some, None}
use Rattle.dt_orders_model.specs.declared.knowledge.Known.{Known}
use Rattle.dt_orders_model.specs.declared.lanes.Called.{Called}
use Rattle.dt_orders_model.specs.declared.lanes.Fate.{Fate}
use Rattle.dt_orders_model.specs.declared.lanes.Fate.TheVariants as fate
use Rattle.dt_orders_model.specs.declared.lanes.Lane.{Lane}
use Rattle.dt_orders_model.specs.declared.lanes.Order.{Order}
use Rattle.dt_orders_model.specs.declared.lanes.Word.{Word}
use Rattle.dt_orders_model.specs.declared.lanes.Word.TheVariants as word
use Rattle.dt_orders_model.specs.Closing.{IsClosed}
use Rattle.dt_orders_model.specs.Fates.{WasExecuted, WasWithdrawn}
use Rattle.dt_orders_model.specs.Histories.{Note, Reached}
use Rattle.dt_orders_model.specs.Judging.{is_ask}
use Rattle.dt_orders_model.specs.Stores.{Among, Name, Store, heard, row_of, shared}
use Rattle.dt_orders_world_laws.specs.Both.{AreAmong, Both, Told}
use Rattle.dt_orders_world_laws.specs.Clients.{Ended, Kept, Process, name_on}
use Rattle.dt_orders_world_laws.specs.Wires.{Reply, Sent, name_of, note_of}

-- a commit that somebody may have heard of
pub record WasHeard (past : List Store) (q : Known) : Type 0 where
  pub store : Store
  pub there : Among store past
  pub is : q ≡ heard store

abbrev pub MayKnow : List Store → Option Known → Type 0
MayKnow past None = Unit {0}
MayKnow past (Some q) = WasHeard past q

-- a lane's order was noted
abbrev pub IsGiven : List Note → ℕ → Option Order → Type 0
IsGiven notes lane None = Unit {0}
IsGiven notes lane (Some o) = Among (record { name = name_on lane o; since = o.since }) notes

-- the greatest number that is in use on a lane
abbrev pub top_of : ℕ → Option Order → ℕ
top_of last None = last
top_of last (Some o) = max last o.number

abbrev pub top : Lane → ℕ
top l = top_of l.last l.order

abbrev pub IsMade : List Sent → ℕ → Option Called → Type 0
IsMade sent lane None = Unit {0}
IsMade sent lane (Some c) = Among (record { lane = lane; called = c }) sent

-- DONE IS SO, at the commit that the answer named
pub record DoneAt (past : List Store) (e : Ended) : Type 0 where
  pub store : Store
  pub there : Among store past
  pub is : e.heard ≡ Some (heard store)
  pub executed : WasExecuted store e.name e.result

abbrev pub FateIs : List Store → Ended → Fate → Type 0
FateIs past e fate.Done = DoneAt past e
FateIs past e fate.Never = Unit {0}
FateIs past e fate.Unknown = Unit {0}

abbrev pub IsTrueFate : List Store → Ended → Type 0
IsTrueFate past e = FateIs past e e.fate

-- WHAT AN ANSWER SAYS IS SO at its commit
abbrev pub SaysTrue : List Note → Store → Reply → Word → Type 0
SaysTrue notes s r word.Done = WasExecuted s (name_of r.call) r.result
SaysTrue notes s r word.Never = WasWithdrawn s (name_of r.call)
SaysTrue notes s r word.NotNow = Among (record { name = name_of r.call; since = heard s }) notes
SaysTrue notes s r word.Old = IsClosed s.horizon (row_of (s.rows r.call.lane)) r.call.called.number (shared r.call.called.since s)
SaysTrue notes s r word.Stale = IsClosed s.horizon (row_of (s.rows r.call.lane)) r.call.called.number (shared r.call.called.since s)
SaysTrue notes s r word.AtWork = Unit {0}
SaysTrue notes s r word.Forked = Unit {0}
SaysTrue notes s r word.Hello = Unit {0}
SaysTrue notes s r word.Told = Unit {0}

pub record IsReply (notes : List Note) (past : List Store) (sent : List Sent) (r : Reply) : Type 0 where
  pub call : Among r.call sent
  pub attempt : r.answer.attempt ≡ r.call.called.attempt
  pub store : Store
  pub there : Among store past
  pub is : r.answer.heard ≡ heard store
  pub says : SaysTrue notes store r r.answer.word

pub record IsCall (notes : List Note) (past : List Store) (s : Sent) : Type 0 where
  pub noted : is_ask s.called.kind ≡ false → Among (note_of s) notes
  pub knows : MayKnow past s.called.knows

-- what is in a client's memory, or in its store
pub record IsMind (notes : List Note) (past : List Store) (q : Option Known) (lanes : ℕ → Lane) (es : List Ended) : Type 0 where
  pub known : MayKnow past q
  pub orders : (lane : ℕ) → IsGiven notes lane (lanes lane).order
  pub fates : (e : Ended) → Among e es → IsTrueFate past e

pub record IsClient (notes : List Note) (past : List Store) (sent : List Sent) (p : Process) : Type 0 where
  pub mind : IsMind notes past p.client.known p.lanes p.fates
  pub stopped : MayKnow past p.client.stopped
  pub kept : (k : Kept) → Among k p.olds → IsMind notes past k.known k.lanes k.fates
  pub alive : AreAmong p.alive p.olds
  pub waits : (lane : ℕ) → IsMade sent lane (p.waits lane)
  pub once : p.client.is_once ≡ false
  pub own : Among p.client.nonce p.nonces
  pub counts : (s : Sent) → Among s sent → s.called.attempt.nonce ≡ p.client.nonce → s.called.attempt.count < p.count
  pub numbers : (n : Note) → Among n notes → n.name.tag ≡ p.client.nonce → n.name.number ≤ top (p.lanes n.name.lane)

-- of an opening of some client
pub record IsOf (clients : ℕ → Process) (nonce : ℕ) : Type 0 where
  pub client : ℕ
  pub there : Among nonce (clients client).nonces

pub record Holds (w : Both) : Type 0 where
  pub reached : Reached w.server
  pub alive : AreAmong w.alive w.server.past
  pub calls : (s : Sent) → Among s w.sent → IsCall w.server.notes w.server.past s
  pub callers : (s : Sent) → Among s w.sent → IsOf w.clients s.called.attempt.nonce
  pub alone : (a b : Sent) → Among a w.sent → Among b w.sent → a.called.attempt ≡ b.called.attempt → a ≡ b
  pub tags : (n : Note) → Among n w.server.notes → IsOf w.clients n.name.tag
  pub apart : (i j nonce : ℕ) → Among nonce (w.clients i).nonces → Among nonce (w.clients j).nonces → i ≡ j
  pub made : (r : Reply) → Among r w.made → IsReply w.server.notes w.server.past w.sent r
  pub left : AreAmong w.left w.made
  pub each : (i : ℕ) → IsClient w.server.notes w.server.past w.sent (w.clients i)
  pub told : (t : Told) → Among t w.told → IsTrueFate w.server.past t.ended

-- MORE of everything
module _ (notes : List Note) (notes' : List Note) (past : List Store) (past' : List Store) (more : AreAmong notes notes') (later : AreAmong past past') where
  pub heard_later : (q : Known) → WasHeard past q → WasHeard past' q
  heard_later q h = record { store = h.store; there = later h.store h.there; is = h.is }

  pub may_later : (q : Option Known) → MayKnow past q → MayKnow past' q
  may_later None h = tt
  may_later (Some q) h = heard_later q h

  pub given_later : (lane : ℕ) (o : Option Order) → IsGiven notes lane o → IsGiven notes' lane o
  given_later lane None h = tt
  given_later lane (Some o) h = more (record { name = name_on lane o; since = o.since }) h

  pub fate_later : (e : Ended) (f : Fate) → FateIs past e f → FateIs past' e f
  fate_later e fate.Done h = record { store = h.store; there = later h.store h.there; is = h.is; executed = h.executed }
  fate_later e fate.Never h = tt
  fate_later e fate.Unknown h = tt

  pub mind_later : (known : Option Known) (lanes : ℕ → Lane) (fates : List Ended) → IsMind notes past known lanes fates → IsMind notes' past' known lanes fates
  mind_later known lanes fates m = record {
    known = may_later known m.known;
    orders = λ lane. given_later lane (lanes lane).order (m.orders lane);
    fates = λ e t. fate_later e e.fate (m.fates e t);
  }

  pub call_later : (s : Sent) → IsCall notes past s → IsCall notes' past' s
  call_later s c = record { noted = λ e. more (note_of s) (c.noted e); knows = may_later s.called.knows c.knows }

  pub says_later : (s : Store) (r : Reply) (said : Word) → SaysTrue notes s r said → SaysTrue notes' s r said
  says_later s r word.Done h = h
  says_later s r word.Never h = h
  says_later s r word.NotNow h = more (record { name = name_of r.call; since = heard s }) h
  says_later s r word.Old h = h
  says_later s r word.Stale h = h
  says_later s r word.AtWork h = tt
  says_later s r word.Forked h = tt
  says_later s r word.Hello h = tt
  says_later s r word.Told h = tt

  pub reply_later : (sent sent' : List Sent) → AreAmong sent sent' → (r : Reply) → IsReply notes past sent r → IsReply notes' past' sent' r
  reply_later sent sent' calls r x = record {
    call = calls r.call x.call;
    attempt = x.attempt;
    store = x.store;
    there = later x.store x.there;
    is = x.is;
    says = says_later x.store r r.answer.word x.says;
  }

  -- a client beside which the server moves: notes more have names that were noted
  pub client_later : (sent : List Sent) (p : Process) → ((n : Note) → Among n notes' → (m : Note) × Among m notes × (m.name ≡ n.name)) → IsClient notes past sent p → IsClient notes' past' sent p
  client_later sent p names c = record {
    mind = mind_later p.client.known p.lanes p.fates c.mind;
    stopped = may_later p.client.stopped c.stopped;
    kept = λ k m. mind_later k.known k.lanes k.fates (c.kept k m);
    alive = c.alive;
    waits = c.waits;
    once = c.once;
    own = c.own;
    counts = c.counts;
    numbers = λ n m e.
        let had = names n m in
        let tag : had.0.name.tag ≡ p.client.nonce = ap (λ (o : Name). o.tag) had.2 ∙ e in
        subst (λ (o : Name). o.number ≤ top (p.lanes o.lane)) had.2 (c.numbers had.0 had.1 tag);
  }
