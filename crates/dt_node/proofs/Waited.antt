-- For how long the takes of a run are to wait, turn after turn.
use Rattle.std.proofs.Common.{◌≡◌, ◌⊎◌, ℕ, ◌+◌, ◌<◌, ◌≤◌, min, nat_lt, List, [], ◌∷◌, ◌++◌, length, take, Option, Some, None, refl, sym, ap, subst, ◌∙◌, append_assoc, length-append, arith, inl, inr}
use Rattle.std.specs.Option.{IfSome}
use borrow.Author.Tests.{ltb-true, ltb-false}
use Rattle.std.proofs.lemmas.Bool.{cases_Bool}
use Rattle.std.proofs.lemmas.List.{append-nil}
use Rattle.std.proofs.Math.Seq.{take-append_seam}
use Rattle.dt_edges.specs.Counts.{next_count}
use Rattle.dt_edges.specs.Wires.{Datagram, HasWaited, OpenFails, Opening, OpensOne, SameGiving, SameTaking, TakeFails, WireSight}
use Rattle.dt_world_model.specs.Station.{station_wake}
use Rattle.dt_units.specs.declared.parameters.Params.{Params}
use Rattle.dt_node.specs.declared.outcomes.NodeOutcome.{NodeOutcome}
use Rattle.dt_node.specs.declared.outcomes.NodeOutcome.TheVariants.{NoMemory, WireFault, WriteFault}
use Rattle.dt_node.specs.declared.watch.Watch.{Watch}
use Rattle.dt_script.specs.declared.orders.Orders as code
use Rattle.dt_turn.specs.declared.nodes.Node as coded
use Rattle.dt_script.specs.Codes.{orders_seen}
use Rattle.dt_turn.specs.Codes.{left_of, node_seen}
use Rattle.dt_script.specs.Orders.{Orders}
use Rattle.dt_turn.specs.Nodes.{Node, first_node}
use Rattle.dt_node.specs.Acts.{answer_of}
use Rattle.dt_turn.specs.Turns.{turn}
use Rattle.dt_node.specs.Runs.{first_watch, moment, next_moment, next_watch, wait_until, wakes_by}
use Rattle.dt_node.specs.Waiting.{Asks, CountsPauses, IsShort, OpensOnce, Pause, last_asked, node_pauses, pause_of, pauses_from, pauses_then, wait_in}

-- the turns of the readings that are left
abbrev pub pauses_of : Orders → Watch → List ℕ → Option Datagram → Node → List (Option Datagram) → List Pause
pauses_of o watch [] t n ts = []
pauses_of o watch (r ∷ rs) t n ts = pauses_from o (next_watch r watch) t n rs ts

pauses_from_is : (o : Orders) (watch : Watch) (came : Option Datagram) (node : Node) (rs : List ℕ) (ts : List (Option Datagram)) → pauses_from o watch came node rs ts ≡ pauses_then o watch (answer_of (turn o (moment watch) came node)) ts (pauses_of o watch rs)
unfolding pauses_from
pauses_from_is o watch came node [] ts = refl
pauses_from_is o watch came node (r ∷ rs) ts = refl

-- The pauses of all readings and takes that begin with these: those so far, and then those of the turn that has come.
abbrev pub PausesCome : Orders → List ℕ → List (Option Datagram) → Watch → Option Datagram → Node → List Pause → Type 0
PausesCome o rs ts watch came node ps = (more : List ℕ) (further : List (Option Datagram)) → node_pauses o (rs ++ more) (ts ++ further) ≡ ps ++ pauses_from o watch came node more further

-- the same after a turn
abbrev pub PausesCame : Orders → List ℕ → List (Option Datagram) → Watch → Option Node → List Pause → Type 0
PausesCame o rs ts watch answer ps = (more : List ℕ) (further : List (Option Datagram)) → node_pauses o (rs ++ more) (ts ++ further) ≡ ps ++ pauses_then o watch answer further (pauses_of o watch more)

-- and after its take
abbrev pub PausesTook : Orders → List ℕ → List (Option Datagram) → Watch → Option Datagram → Node → List Pause → Type 0
PausesTook o rs ts watch t node ps = (more : List ℕ) (further : List (Option Datagram)) → node_pauses o (rs ++ more) (ts ++ further) ≡ ps ++ pauses_of o watch more t node further

-- WHAT WAS ASKED OF THE WIRE so far: it was opened once, and in each of these pauses a take was called
pub record Asking (P : List Pause → Type 0) (takes : ℕ) (b v : WireSight) : Type 0 where
  pub pauses : List Pause
  pub list : P pauses
  pub many : length pauses ≡ takes
  pub told : IfSome v.last_wait (λ wait. Some wait ≡ last_asked b.last_wait pauses)
  pub opened : v.opens ≡ next_count b.opens

told_same : (a b : Option ℕ) → a ≡ b → IfSome a (λ wait. Some wait ≡ b)
told_same None b e = tt
told_same (Some wait) b e = e

last_more : (before : Option ℕ) (ps : List Pause) (p : Pause) → last_asked before (ps ++ p ∷ []) ≡ Some (wait_in p)
last_more before [] p = refl
last_more before (q ∷ qs) p = last_more (Some (wait_in q)) qs p

told_last : (told before : Option ℕ) (ps : List Pause) (p : Pause) (wait : ℕ) → IfSome told (λ x. x ≡ wait) → wait ≡ wait_in p → IfSome told (λ x. Some x ≡ last_asked before (ps ++ p ∷ []))
told_last None before ps p wait h e = tt
told_last (Some x) before ps p wait h e = ap (λ (n : ℕ). let o : Option ℕ = Some n in o) (h ∙ e) ∙ sym (last_more before ps p)

told_on : (ps : List Pause) (before now after : Option ℕ) → after ≡ now → IfSome now (λ x. Some x ≡ last_asked before ps) → IfSome after (λ x. Some x ≡ last_asked before ps)
told_on ps before now after e h = subst (λ (told : Option ℕ). IfSome told (λ x. Some x ≡ last_asked before ps)) (sym e) h

pauses_first : (o : Orders) (r : ℕ) → PausesCome o (r ∷ []) [] (first_watch r) None (first_node o) []
unfolding node_pauses
pauses_first o r more further = refl

pub asking_first : (o : Orders) (r : ℕ) (opening : Opening) (b v : WireSight) → OpensOne opening b v → Asking (PausesCome o (r ∷ []) [] (first_watch r) None (first_node o)) 0 b v
asking_first o r opening b v h = record {
  pauses = [];
  list = pauses_first o r;
  many = refl;
  told = told_same v.last_wait b.last_wait h.same.last_wait;
  opened = h.opens;
}

module _ (o : Orders) (rs : List ℕ) (ts : List (Option Datagram)) (watch : Watch) (b v w : WireSight) where
  pub asking_turn : (came : Option Datagram) (node : Node) (now : ℕ) (answer : Option Node) → now ≡ moment watch → answer_of (turn o now came node) ≡ answer → SameTaking v w
      → Asking (PausesCome o rs ts watch came node) (length ts) b v → Asking (PausesCame o rs ts watch answer) (length ts) b w
  asking_turn came node now answer n a same h =
      let is : answer_of (turn o (moment watch) came node) ≡ answer = ap (λ (k : ℕ). answer_of (turn o k came node)) (sym n) ∙ a in
      record {
        pauses = h.pauses;
        list = λ more further. h.list more further ∙ ap (λ (ps : List Pause). h.pauses ++ ps) (pauses_from_is o watch came node more further ∙ ap (λ (x : Option Node). pauses_then o watch x further (pauses_of o watch more)) is);
        many = h.many;
        told = told_on h.pauses b.last_wait v.last_wait w.last_wait same.last_wait h.told;
        opened = same.opens ∙ h.opened;
      }

  -- a take answered
  pub asking_take : (node : Node) (t : Option Datagram) (wait : ℕ) → SameGiving v w → HasWaited wait w → wait ≡ wait_in (pause_of o watch node)
      → Asking (PausesCame o rs ts watch (Some node)) (length ts) b v → Asking (PausesTook o rs (ts ++ t ∷ []) watch t node) (length (ts ++ t ∷ [])) b w
  asking_take node t wait same waited is h =
      let p = pause_of o watch node in
      record {
        pauses = h.pauses ++ p ∷ [];
        list = λ more further. ap (node_pauses o (rs ++ more)) (append_assoc ts (t ∷ []) further) ∙ h.list more (t ∷ further) ∙ sym (append_assoc h.pauses (p ∷ []) (pauses_of o watch more t node further));
        many = omega (arith, h.many, length-append h.pauses (p ∷ []), length-append ts (t ∷ []));
        told = told_last w.last_wait b.last_wait h.pauses p wait waited is;
        opened = same.opens ∙ h.opened;
      }

-- and the next turn comes
pub asking_next : (o : Orders) (rs : List ℕ) (r : ℕ) (ts : List (Option Datagram)) (t : Option Datagram) (watch : Watch) (node : Node) (takes : ℕ) (b v : WireSight) → Asking (PausesTook o rs ts watch t node) takes b v → Asking (PausesCome o (rs ++ r ∷ []) ts (next_watch r watch) t node) takes b v
asking_next o rs r ts t watch node takes b v h = record {
  pauses = h.pauses;
  list = λ more further. ap (λ xs. node_pauses o xs (ts ++ further)) (append_assoc rs (r ∷ []) more) ∙ h.list (r ∷ more) further;
  many = h.many;
  told = h.told;
  opened = h.opened;
}

-- HOW A RUN ENDS
module _ (o : Orders) (outcome : NodeOutcome) (rs : List ℕ) (ts : List (Option Datagram)) (b v : WireSight) where
  -- the pauses of exactly these
  at_end : (ps : List Pause) → node_pauses o (rs ++ []) (ts ++ []) ≡ ps → node_pauses o rs ts ≡ ps
  at_end ps h = sym (ap (λ xs. node_pauses o xs (ts ++ [])) (append-nil rs) ∙ ap (node_pauses o rs) (append-nil ts)) ∙ h

  ended : (ps rest : List Pause) → node_pauses o rs ts ≡ ps ++ rest → CountsPauses outcome (length rs) (length ts) (length ps) → IfSome v.last_wait (λ wait. Some wait ≡ last_asked b.last_wait ps) → OpensOnce outcome (length rs) b.opens v.opens → Asks o outcome rs ts b v
  ended ps rest e counted told opens = record {
    pauses = ps;
    first = sym (take-append_seam ps rest) ∙ ap (take (length ps)) (sym e);
    counted = counted;
    last_wait = told;
    opens = opens;
  }

  -- each take that was called answered
  pub asks_turned : (watch : Watch) (answer : Option Node) → (h : Asking (PausesCame o rs ts watch answer) (length ts) b v) → CountsPauses outcome (length rs) (length ts) (length h.pauses) → OpensOnce outcome (length rs) b.opens v.opens → Asks o outcome rs ts b v
  asks_turned watch answer h counted opens = ended h.pauses (pauses_then o watch answer [] (pauses_of o watch [])) (at_end _ (h.list [] [])) counted h.told opens

  pub asks_took : (watch : Watch) (t : Option Datagram) (node : Node) → (h : Asking (PausesTook o rs ts watch t node) (length ts) b v) → CountsPauses outcome (length rs) (length ts) (length h.pauses) → OpensOnce outcome (length rs) b.opens v.opens → Asks o outcome rs ts b v
  asks_took watch t node h counted opens = ended h.pauses [] (at_end _ (h.list [] [])) counted h.told opens

-- the last take failed
module _ (o : Orders) (rs : List ℕ) (ts : List (Option Datagram)) (some : 0 < length rs) (watch : Watch) (node : Node) (wait : ℕ) (b v w : WireSight) (failed : TakeFails v w) (waited : HasWaited wait w) (is : wait ≡ wait_in (pause_of o watch node)) (h : Asking (PausesCame o rs ts watch (Some node)) (length ts) b v) where
  abbrev all : List Pause
  all = h.pauses ++ pause_of o watch node ∷ []

  all_of : node_pauses o rs ts ≡ all ++ []
  all_of = at_end o WireFault rs ts b w _ (h.list [] []) ∙ sym (append-nil all)

  number : length all ≡ length ts + 1
  number = omega (arith, h.many, length-append h.pauses (pause_of o watch node ∷ []))

  told : IfSome w.last_wait (λ x. Some x ≡ last_asked b.last_wait all)
  told = told_last w.last_wait b.last_wait h.pauses (pause_of o watch node) wait waited is

  opened : w.opens ≡ next_count b.opens
  opened = failed.same.opens ∙ h.opened

  pub asks_failed : Asks o WireFault rs ts b w
  asks_failed = ended o WireFault rs ts b w all [] all_of (inr (some, number)) told opened

  pub asks_failed_write : Asks o WriteFault rs ts b w
  asks_failed_write = ended o WriteFault rs ts b w all [] all_of (inr (some, number)) told (inl opened)

-- no take was called
no_pauses : (o : Orders) → node_pauses o [] [] ≡ []
unfolding node_pauses
no_pauses o = refl

nothing_asked : (o : Orders) (outcome : NodeOutcome) (b v : WireSight) → v.last_wait ≡ b.last_wait → CountsPauses outcome 0 0 0 → OpensOnce outcome 0 b.opens v.opens → Asks o outcome [] [] b v
nothing_asked o outcome b v same counted opens = ended o outcome [] [] b v [] [] (no_pauses o) counted (told_same v.last_wait b.last_wait same) opens

pub asks_unopened : (o : Orders) (b v : WireSight) → OpenFails b v → Asks o WireFault [] [] b v
asks_unopened o b v h = nothing_asked o WireFault b v h.same.last_wait (inl (refl, refl)) h.opens

pub asks_unopened_write : (o : Orders) (b v : WireSight) → OpenFails b v → Asks o WriteFault [] [] b v
asks_unopened_write o b v h = nothing_asked o WriteFault b v h.same.last_wait (inl refl) (inl h.opens)

pub asks_memory_early : (o : Orders) (b : WireSight) → Asks o NoMemory [] [] b b
asks_memory_early o b = nothing_asked o NoMemory b b refl refl (inr (refl, refl))

pub asks_write_early : (o : Orders) (b : WireSight) → Asks o WriteFault [] [] b b
asks_write_early o b = nothing_asked o WriteFault b b refl (inl refl) (inr (refl, refl))

-- THE CODE'S WAIT is that of the pause
pub asked_wait : (o : code.Orders) (node : coded.Node) (watch : Watch) (now wait : ℕ) → node.io.station.rules ≡ o.setup.rules → now ≡ moment watch → wait ≡ wait_until (wakes_by (station_wake node.io.station.rules node.io.station.state) (next_moment o.stop (left_of o node.next))) now
    → wait ≡ wait_in (pause_of (orders_seen o) watch (node_seen o node))
asked_wait o node watch now wait rules n e =
    e ∙ ap (λ (p : Params). wait_until (wakes_by (station_wake p node.io.station.state) (next_moment o.stop (left_of o node.next))) now) rules
    ∙ ap (λ (k : ℕ). wait_until (wakes_by (station_wake o.setup.rules node.io.station.state) (next_moment o.stop (left_of o node.next))) k) n

-- A WAIT IS SHORT
reaches : (due now wait : ℕ) → wait ≡ wait_until due now → (1 ≤ wait) × (wait ≤ 1000) × (now < due → now + wait ≤ due) × (due ≤ now → wait ≡ 1) × (wait < 1000 → due ≤ now + wait)
reaches due now wait e = (omega (arith, e), omega (arith, e), λ later. omega (arith, e, later), λ past. omega (arith, e, past), λ short. omega (arith, e, short))

-- what is due first is at hand, or due already
to_later : (due now wait moment : ℕ) → due ≤ moment → (1 ≤ wait) × (wait ≤ 1000) × (now < due → now + wait ≤ due) × (due ≤ now → wait ≡ 1) × (wait < 1000 → due ≤ now + wait) → now < moment → now + wait ≤ moment
to_later due now wait moment below r later =
    elim (cases_Bool (nat_lt now due)) [
      | inl y ↦ let less = ltb-true now due y in omega (arith, r.2 less)
      | inr k ↦ let past : due ≤ now = omega (arith, ltb-false now due k) in omega (arith, r.3 past)
    ]

earlier_of : (wake next : ℕ) → (min wake next ≡ wake) ⊎ (min wake next ≡ next)
earlier_of wake next = elim (cases_Bool (nat_lt wake next)) [
  | inl y ↦ let less = ltb-true wake next y in inl (omega arith)
  | inr k ↦ let more = ltb-false wake next k in inr (omega arith)
]

short_by : (now : ℕ) (wake : Option ℕ) (next : ℕ) → (let p : Pause = record { now = now; wake = wake; next = next } in IsShort p (wait_in p))
short_by now None next = let r = reaches next now (wait_until next now) refl in record {
  some = r.0;
  most = r.1;
  to_next = r.2;
  to_wake = tt;
  due_next = r.3;
  due_wake = tt;
  no_sooner = λ short. inl (r.4 short);
}
short_by now (Some wake) next =
    let due = min wake next in
    let wait = wait_until due now in
    let r = reaches due now wait refl in
    let which = earlier_of wake next in
    let below_wake : due ≤ wake = omega arith in
    let below_next : due ≤ next = omega arith in
    record {
      some = r.0;
      most = r.1;
      to_next = λ later. to_later due now wait next below_next r later;
      to_wake = λ later. to_later due now wait wake below_wake r later;
      due_next = λ past. r.3 (omega (arith, past));
      due_wake = λ past. r.3 (omega (arith, past));
      no_sooner = λ short. let by = r.4 short in elim which [ inl e ↦ inr (omega (arith, by, e)) | inr e ↦ inl (omega (arith, by, e)) ];
    }

pub short_wait : (p : Pause) → IsShort p (wait_in p)
short_wait p = short_by p.now p.wake p.next
