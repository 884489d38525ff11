-- A network with shelves, step by step, and the network without.
use Rattle.std.proofs.Common.{◌≡◌, ◌∙◌, ◌==◌, ◌&&◌, ◌≤◌, ℕ, Bool, true, false, List, [], ◌∷◌, ◌++◌, cond, Option, Some, None, refl, sym, ap, subst, arith, inl, inr}
use Rattle.std.specs.Prelude.{Contains}
use Rattle.std.proofs.lemmas.Bool.{cases_Bool}
use Rattle.std.proofs.lemmas.List.Elements.{Contains-append_left}
use Rattle.dt_layout.specs.Reading.{gram_fault, gram_in}
use Rattle.dt_layout.specs.Spelling.{AreOctets, Gram}
use Rattle.dt_world_model.proofs.Tables.{look_write, look_write_other, nat_is, nat_self}
use Rattle.dt_world_model.specs.Tables.{look, write}
use Rattle.dt_endpoint.specs.declared.answers.Received.{Received}
use Rattle.dt_endpoint.specs.Calls.{Arrives}
use Rattle.dt_endpoint.specs.Endpoints.{EndpointValue}
use Rattle.dt_network.specs.Duties.{KeepsDuties, KeepsFrom}
use Rattle.dt_network.specs.Network.{Flight, Network, Setup, clock_of}
use Rattle.dt_network.specs.Steps.{AreSteps, CallArrive, Calls, DoesFrom, IsStep, Pass, Step, network_after, network_by}
use Rattle.dt_early.specs.Delays.{AreAt, Call as Handed, IsDelay}
use Rattle.dt_early.specs.Early.{Early, EarlyShelf, ShelfArrives, empty_shelf}
use Rattle.dt_early_laws.specs.Shelved.{AreShelfSteps, Bare, Comes, ComesFrom, KeepShelvesDuties, Limits, ShelfStep, Shelved, Without, bare, comes, is_opening, limits, none, shelved_after, shelved_by}
use Rattle.dt_early_laws.proofs.Keeping.{call_same}
use Rattle.dt_early_laws.proofs.Shelving.{Arrived, Every, OnShelf, arrivals, arrived_from, came_on, every_more, every_to, flights_are, later, network_of}

steps_more : (setup : Setup) (xs ys : List Step) (net : Network) → AreSteps setup xs net → AreSteps setup ys (network_by xs net) → AreSteps setup (xs ++ ys) net
steps_more setup [] ys net a b = b
steps_more setup (x ∷ xs) ys net a b = (a.0, steps_more setup xs ys (network_after x net) a.1 b)

duties_more : (setup : Setup) (xs ys : List Step) (net : Network) → KeepsDuties setup xs net → KeepsDuties setup ys (network_by xs net) → KeepsDuties setup (xs ++ ys) net
duties_more setup [] ys net a b = b
duties_more setup (x ∷ xs) ys net a b = (a.0, duties_more setup xs ys (network_after x net) a.1 b)

by_more : (xs ys : List Step) (net : Network) → network_by (xs ++ ys) net ≡ network_by ys (network_by xs net)
by_more [] ys net = refl
by_more (x ∷ xs) ys net = by_more xs ys (network_after x net)

some_is : (a b : EndpointValue) (o : Option EndpointValue) → o ≡ Some a → o ≡ Some b → a ≡ b
some_is a b o x y = cc

-- WHAT IS ON THE SHELVES is as long there as it says, at each node that found memory
abbrev pub Held : Setup → Shelved → Type 0
Held setup s = (m : ℕ) (e : EndpointValue) → look ◌==◌ m s.network.endpoints ≡ Some e → e.spent ≡ false → Every (OnShelf (clock_of setup m) s.network e) (s.shelf m).held

-- at a node whose endpoint stays
held_on : (setup : Setup) (net after : Network) (m : ℕ) (e : EndpointValue) (hs : List Early) → net.now ≤ after.now → ((g : Flight) → Contains net.left g → Contains after.left g)
    → Every (OnShelf (clock_of setup m) net e) hs → Every (OnShelf (clock_of setup m) after e) hs
held_on setup net after m e hs time more all = every_to (OnShelf (clock_of setup m) net e) (OnShelf (clock_of setup m) after e) (λ h k. later (clock_of setup m) net after e e time more refl h k) hs all

held_bare : (setup : Setup) (step : Step) (s : Shelved) → Held setup s → IsStep setup step s.network → Held setup (shelved_after (Bare step) s)
held_bare setup (Pass by) s held is m e found unspent = held_on setup s.network (network_after (Pass by) s.network) m e (s.shelf m).held (omega arith) (λ g w. w) (held m e found unspent)
held_bare setup (Calls k call f) s held is m e found unspent =
    elim (cases_Bool (k == m)) [
      | inl y ↦ own y
      | inr o ↦
          let before : look ◌==◌ m s.network.endpoints ≡ Some e = sym (look_write_other _ _ ◌==◌ nat_self nat_is m k f s.network.endpoints o) ∙ found in
          let all = held_on setup s.network after m e (s.shelf m).held (omega arith) (λ g w. Contains-append_left s.network.left _ g w) (held m e before unspent) in
          subst (λ (b : Bool). Every (OnShelf (clock_of setup m) after e) (cond (is_opening call && b) empty_shelf (s.shelf m)).held) (sym o) (kept (is_opening call) all)
    ]
  where
    after : Network
    after = network_after (Calls k call f) s.network

    kept : (b : Bool) → Every (OnShelf (clock_of setup m) after e) (s.shelf m).held → Every (OnShelf (clock_of setup m) after e) (cond (b && false) empty_shelf (s.shelf m)).held
    kept true all = all
    kept false all = all

    own : (k == m) ≡ true → Every (OnShelf (clock_of setup m) after e) (cond (is_opening call && (k == m)) empty_shelf (s.shelf m)).held
    own y =
        let key : k ≡ m = nat_is k m y in
        let now_there : look ◌==◌ m after.endpoints ≡ Some f = subst (λ (j : ℕ). look ◌==◌ j after.endpoints ≡ Some f) key (look_write _ _ ◌==◌ nat_self nat_is k f s.network.endpoints) in
        let same : f ≡ e = some_is f e _ now_there found in
        rw y (by_opening (is_opening call) refl same key)
      where
        by_look : (o : Option EndpointValue) → look ◌==◌ k s.network.endpoints ≡ o → DoesFrom setup k call f o → is_opening call ≡ false → f ≡ e → k ≡ m → Every (OnShelf (clock_of setup m) after e) (s.shelf m).held
        by_look None was does shut same key = absurd does
        by_look (Some old) was does shut same key =
            let unspent_f : f.spent ≡ false = ap (λ (x : EndpointValue). x.spent) same ∙ unspent in
            let keeps = call_same setup k call old f shut does unspent_f in
            let all = held m old (subst (λ (j : ℕ). look ◌==◌ j s.network.endpoints ≡ Some old) key was) keeps.unspent in
            subst (λ (x : EndpointValue). Every (OnShelf (clock_of setup m) after x) (s.shelf m).held) same
            (every_to (OnShelf (clock_of setup m) s.network old) (OnShelf (clock_of setup m) after f) (λ h o. later (clock_of setup m) s.network after old f (omega arith) (λ g w. Contains-append_left s.network.left _ g w) keeps.ins h o) (s.shelf m).held all)

        by_opening : (b : Bool) → is_opening call ≡ b → f ≡ e → k ≡ m → Every (OnShelf (clock_of setup m) after e) (cond (b && true) empty_shelf (s.shelf m)).held
        by_opening true is_open same key = tt
        by_opening false shut same key = by_look (look ◌==◌ k s.network.endpoints) refl is shut same key

held_limits : (setup : Setup) (n most of_flow : ℕ) (s : Shelved) → Held setup s → Held setup (shelved_after (Limits n most of_flow) s)
held_limits setup n most of_flow s held m e found unspent =
    elim (cases_Bool (n == m)) [
      | inl y ↦ let key : n ≡ m = nat_is n m y in rw y (subst (λ (j : ℕ). Every (OnShelf (clock_of setup m) s.network e) (s.shelf j).held) (sym key) (held m e found unspent))
      | inr o ↦ rw o (held m e found unspent)
    ]

module _ (setup : Setup) (spells : (bytes : List ℕ) → AreOctets bytes → gram_fault bytes ≡ None → Gram bytes (gram_in bytes))
    (delays : (answer : Received) (now link : ℕ) (octets : List ℕ) (waited : ℕ) (s t : EarlyShelf) (e f : EndpointValue) → ShelfArrives answer now link octets waited s e t f → IsDelay Arrives now link octets waited s e t f) where
  abbrev pub Unshelved : List ShelfStep → Shelved → Type 0
  Unshelved ss s = (steps : List Step) × Without ss steps × AreSteps setup steps s.network × KeepsDuties setup steps s.network × (network_by steps s.network ≡ (shelved_by ss s).network)

  -- A DATAGRAM COMES BY A SHELF
  record CameBy (n now : ℕ) (t : EarlyShelf) (f : EndpointValue) (s after : Shelved) : Type 0 where
    pub calls : List (Handed EndpointValue)
    pub at : AreAt now calls
    pub steps : AreSteps setup (arrivals setup spells n calls) s.network
    pub keeps : KeepsDuties setup (arrivals setup spells n calls) s.network
    pub is : network_by (arrivals setup spells n calls) s.network ≡ after.network
    pub held : Held setup after

  came_by : (n now link : ℕ) (datagram : List ℕ) (waited : ℕ) (answer : Received) (t : EarlyShelf) (f e : EndpointValue) (s : Shelved) → Held setup s → look ◌==◌ n s.network.endpoints ≡ Some e
      → ShelfArrives answer now link datagram waited (s.shelf n) e t f → AreOctets datagram → KeepsFrom setup s.network n (CallArrive now link datagram waited answer) (Some e)
      → CameBy n now t f s (shelved_after (Comes n now link datagram waited answer t f) s)
  came_by n now link datagram waited answer t f e s held found does are duty =
      record { calls = d.2.0; at = d.2.2; steps = a.steps; keeps = a.keeps; is = is; held = held_after }
    where
      d : IsDelay Arrives now link datagram waited (s.shelf n) e t f
      d = delays answer now link datagram waited (s.shelf n) t e f does

      after : Shelved
      after = shelved_after (Comes n now link datagram waited answer t f) s

      on : e.spent ≡ false → Every (OnShelf (clock_of setup n) s.network e) ((s.shelf n).held ++ d.0 ∷ [])
      on u = every_more (OnShelf (clock_of setup n) s.network e) (s.shelf n).held d.0 (held n e found u) (came_on setup spells n s.network e now link datagram waited d.0 d.1 are u duty.0 duty.1)

      a : Arrived setup spells n d.2.0 t.held s.network e f
      a = arrived_from setup spells n d.2.0 ((s.shelf n).held ++ d.0 ∷ []) t.held s.network e f now found d.2.1 d.2.2 duty.0 d.2.3 on

      is : network_by (arrivals setup spells n d.2.0) s.network ≡ after.network
      is = a.is ∙ ap (λ (l : List Flight). network_of setup spells n s.network.now (write ◌==◌ n f s.network.endpoints) (s.network.left ++ l))
          (sym (flights_are setup spells n s.network.now (look ◌==◌ n s.network.endpoints) e f a.more found a.frames))

      held_after : Held setup after
      held_after m x now_there unspent =
          elim (cases_Bool (n == m)) [
            | inl y ↦
                let key : n ≡ m = nat_is n m y in
                let found : look ◌==◌ m after.network.endpoints ≡ Some f = subst (λ (j : ℕ). look ◌==◌ j after.network.endpoints ≡ Some f) key (look_write _ _ ◌==◌ nat_self nat_is n f s.network.endpoints) in
                let same : f ≡ x = some_is f x _ found now_there in
                let all = a.on (ap (λ (z : EndpointValue). z.spent) same ∙ unspent) in
                let there_too : Every (OnShelf (clock_of setup n) after.network f) t.held = subst (λ (net : Network). Every (OnShelf (clock_of setup n) net f) t.held) is all in
                let of_x : Every (OnShelf (clock_of setup n) after.network x) t.held = subst (λ (z : EndpointValue). Every (OnShelf (clock_of setup n) after.network z) t.held) same there_too in
                rw y (subst (λ (j : ℕ). Every (OnShelf (clock_of setup j) after.network x) t.held) key of_x)
            | inr o ↦
                let before : look ◌==◌ m s.network.endpoints ≡ Some x = sym (look_write_other _ _ ◌==◌ nat_self nat_is m n f s.network.endpoints o) ∙ now_there in
                rw o (held_on setup s.network after.network m x (s.shelf m).held (omega arith) (λ g w. Contains-append_left s.network.left _ g w) (held m x before unspent))
          ]

  -- and then all else is as in the rest
  unshelved_from : (n now link : ℕ) (datagram : List ℕ) (waited : ℕ) (answer : Received) (t : EarlyShelf) (f : EndpointValue) (ss : List ShelfStep) (s : Shelved) (o : Option EndpointValue) → Held setup s
      → look ◌==◌ n s.network.endpoints ≡ o → ComesFrom answer now link datagram waited (s.shelf n) o t f → AreOctets datagram → KeepsFrom setup s.network n (CallArrive now link datagram waited answer) o
      → (Held setup (shelved_after (Comes n now link datagram waited answer t f) s) → Unshelved ss (shelved_after (Comes n now link datagram waited answer t f) s))
      → Unshelved (Comes n now link datagram waited answer t f ∷ ss) s
  unshelved_from n now link datagram waited answer t f ss s None held found does are duty rest = absurd does
  unshelved_from n now link datagram waited answer t f ss s (Some e) held found does are duty rest =
      let c = came_by n now link datagram waited answer t f e s held found does are duty in
      let k = rest c.held in
      let firsts = arrivals setup spells n c.calls in (
        firsts ++ k.0,
        comes c.calls c.at k.1,
        steps_more setup firsts k.0 s.network c.steps (subst (AreSteps setup k.0) (sym c.is) k.2),
        duties_more setup firsts k.0 s.network c.keeps (subst (KeepsDuties setup k.0) (sym c.is) k.3),
        by_more firsts k.0 s.network ∙ ap (network_by k.0) c.is ∙ k.4,
      )

  pub unshelved : (ss : List ShelfStep) (s : Shelved) → Held setup s → AreShelfSteps setup ss s → KeepShelvesDuties setup ss s → Unshelved ss s
  unshelved [] s held are keep = ([], none, tt, tt, refl)
  unshelved (Bare step ∷ ss) s held are keep =
      let k = unshelved ss (shelved_after (Bare step) s) (held_bare setup step s held are.0) are.1 keep.1 in
      (step ∷ k.0, bare k.1, (are.0, k.2), (keep.0, k.3), k.4)
  unshelved (Limits n most of_flow ∷ ss) s held are keep =
      let k = unshelved ss (shelved_after (Limits n most of_flow) s) (held_limits setup n most of_flow s held) are.1 keep.1 in
      (k.0, limits k.1, k.2, k.3, k.4)
  unshelved (Comes n now link datagram waited answer t f ∷ ss) s held are keep =
      unshelved_from n now link datagram waited answer t f ss s (look ◌==◌ n s.network.endpoints) held refl are.0 keep.0.0 keep.0.1
      (λ held_after. unshelved ss (shelved_after (Comes n now link datagram waited answer t f) s) held_after are.1 keep.1)
