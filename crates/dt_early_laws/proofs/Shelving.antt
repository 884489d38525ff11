-- What is on a shelf is in time when it is handed in, so the steps without shelves keep the duties.
use Rattle.std.proofs.Common.{◌≡◌, ◌∙◌, ◌⊎◌, ◌==◌, ◌+◌, ◌-◌, ◌<◌, ◌≤◌, ◌^◌, ℕ, true, false, List, [], ◌∷◌, ◌++◌, append-nil, append_assoc, drop, length, map, min, Option, Some, None, refl, sym, ap, subst, arith, inl, inr}
use Rattle.std.specs.Prelude.{Contains, nat_le, if◌then◌else◌}
use Rattle.std.proofs.Math.Seq.{drop-append_seam}
use Rattle.std.proofs.lemmas.Bool.{cases_Bool}
use Rattle.std.proofs.lemmas.Bool.Decides.{nat_tests}
use Rattle.std.proofs.lemmas.List.{map-append}
use Rattle.std.proofs.lemmas.List.Elements.{Contains-append_left}
use Rattle.dt_layout.specs.declared.faults.LayoutFault.{LayoutFault}
use Rattle.dt_layout.specs.Carried.{life_of}
use Rattle.dt_layout.specs.Reading.{gram_fault, gram_in}
use Rattle.dt_layout.specs.Spelling.{AreOctets, Gram}
use Rattle.dt_world_model.proofs.Tables.{look_write, nat_is, nat_self}
use Rattle.dt_world_model.specs.Relay.{charge_of}
use Rattle.dt_world_model.specs.Tables.{look, write}
use Rattle.dt_endpoint.specs.declared.answers.Received.TheVariants as arrived
use Rattle.dt_endpoint.specs.Acts.{OutFrameValue}
use Rattle.dt_endpoint.specs.Calls.{Arrives, arrive_fault, arrive_refusal, has_link}
use Rattle.dt_endpoint.specs.Endpoints.{EndpointValue}
use Rattle.dt_network.specs.Duties.{IsInTime, KeepsDuties, KeepsFrom, KeepsTime}
use Rattle.dt_network.specs.Network.{Flight, Network, Setup, clock_of, flights}
use Rattle.dt_network.specs.Steps.{AreSteps, Call, CallArrive, Calls, DoesFrom, Step, network_after, network_by}
use Rattle.dt_early.specs.Delays.{AreAt, AreCalls, Call as Handed, Delays, HandsOver, IsOneOf, IsWhatCame, hands, here, loses, stays, there}
use Rattle.dt_early.specs.Early.{Early, most_waited}
use Rattle.dt_early_laws.specs.Shelved.{arrival_at}
use Rattle.dt_early_laws.proofs.Keeping.{Appended, arrival_appended, arrival_same}

-- of each of a list
abbrev pub Every : {A : Type 0} → (A → Type 0) → List A → Type 0
Every P [] = Unit {0}
Every P (x ∷ xs) = P x × Every P xs

pub every_more : {A : Type 0} (P : A → Type 0) (xs : List A) (y : A) → Every P xs → P y → Every P (xs ++ y ∷ [])
every_more P [] y h k = (k, tt)
every_more P (x ∷ xs) y h k = (h.0, every_more P xs y h.1 k)

pub every_to : {A : Type 0} (P Q : A → Type 0) → ((x : A) → P x → Q x) → (xs : List A) → Every P xs → Every Q xs
every_to P Q to [] h = tt
every_to P Q to (x ∷ xs) h = (to x h.0, every_to P Q to xs h.1)

one_of : (P : Early → Type 0) (h : Early) {hs rest : List Early} → IsOneOf h hs rest → Every P hs → P h × Every P rest
one_of P h here all = (all.0, all.1)
one_of P h (there one) all = let k = one_of P h one all.1 in (k.0, (all.0, k.1))

-- WHAT IS ON A SHELF, at a network and an endpoint: if it would be admitted as it came, a frame that left was under way no longer than it is allowed to with its time here
pub record Since (ahead : ℕ) (net : Network) (e : EndpointValue) (h : Early) : Type 0 where
  pub flight : Flight
  pub left : Contains net.left flight
  pub octets : flight.frame.octets ≡ h.octets
  pub in_time : net.now - flight.put ≤ charge_of h.link e.state.relay.ins + h.waited + ((net.now + ahead) - h.since)

pub record OnShelf (ahead : ℕ) (net : Network) (e : EndpointValue) (h : Early) : Type 0 where
  pub are_octets : AreOctets h.octets
  pub began : h.since ≤ net.now + ahead
  pub since : has_link h.link e.state.relay.ins ≡ true → gram_fault h.octets ≡ None → h.waited < life_of h.octets → Since ahead net e h

-- it is there also when time has passed, more frames have left, and other calls were made
pub later : (ahead : ℕ) (net after : Network) (e f : EndpointValue) → net.now ≤ after.now → ((g : Flight) → Contains net.left g → Contains after.left g) → f.state.relay.ins ≡ e.state.relay.ins
    → (h : Early) → OnShelf ahead net e h → OnShelf ahead after f h
later ahead net after e f time more ins h k = record {
  are_octets = k.are_octets;
  began = omega (arith, k.began, time);
  since = λ linked reads alive.
      let s = k.since (subst (λ is. has_link h.link is ≡ true) ins linked) reads alive in
      record {
        flight = s.flight;
        left = more s.flight s.left;
        octets = s.octets;
        in_time =
            subst (λ is. after.now - s.flight.put ≤ charge_of h.link is + h.waited + ((after.now + ahead) - h.since)) (sym ins)
            (passed net.now after.now ahead s.flight.put (charge_of h.link e.state.relay.ins) h.waited h.since time k.began s.in_time);
      };
}
  where
    passed : (now at ahead put charge waited since : ℕ) → now ≤ at → since ≤ now + ahead → now - put ≤ charge + waited + ((now + ahead) - since) → at - put ≤ charge + waited + ((at + ahead) - since)
    passed now at ahead put charge waited since time began in_time = omega (arith, time, began, in_time)

-- WHAT ISN'T REFUSED came on a link of a node that found memory, reads, and has more life than it waited
record Admitted (link : ℕ) (datagram : List ℕ) (waited : ℕ) (e : EndpointValue) : Type 0 where
  pub unspent : e.spent ≡ false
  pub linked : has_link link e.state.relay.ins ≡ true
  pub reads : gram_fault datagram ≡ None
  pub alive : waited < life_of datagram

fault_parts : (waited : ℕ) (datagram : List ℕ) (o : Option LayoutFault) → arrive_fault waited datagram o ≡ None → (o ≡ None) × (waited < life_of datagram)
fault_parts waited datagram (Some fault) h = absurd cc
fault_parts waited datagram None h =
    elim (cases_Bool (nat_le (life_of datagram) waited)) [
      | inl y ↦ let some : Some arrived.Stale ≡ None = rw y at h in absurd cc
      | inr n ↦ (refl, grind (arith, nat_tests))
    ]

admitted : (link : ℕ) (datagram : List ℕ) (waited : ℕ) (e : EndpointValue) → arrive_refusal link datagram waited e ≡ None → Admitted link datagram waited e
admitted link datagram waited e h =
    elim (cases_Bool e.spent) [
      | inl y ↦ let some : Some arrived.Spent ≡ None = rw y at h in absurd cc
      | inr n ↦
          let rest : (if has_link link e.state.relay.ins then arrive_fault waited datagram (gram_fault datagram) else Some arrived.NoLink) ≡ None = rw n at h in
          elim (cases_Bool (has_link link e.state.relay.ins)) [
            | inl y ↦ let parts = fault_parts waited datagram (gram_fault datagram) (rw y at rest) in record { unspent = n; linked = y; reads = parts.0; alive = parts.1 }
            | inr o ↦ let some : Some arrived.NoLink ≡ None = rw o at rest in absurd cc
          ]
    ]

is_admitted : (link : ℕ) (datagram : List ℕ) (waited : ℕ) (e : EndpointValue) → e.spent ≡ false → has_link link e.state.relay.ins ≡ true → gram_fault datagram ≡ None → waited < life_of datagram → arrive_refusal link datagram waited e ≡ None
is_admitted link datagram waited e unspent linked reads alive =
    let young : nat_le (life_of datagram) waited ≡ false = grind (arith, nat_tests) in
    rw (unspent, linked, reads, young) refl

life_is : (bytes : List ℕ) → (gram_in bytes).life ≡ life_of bytes
unfolding life_of gram_in
life_is bytes = refl

module _ (setup : Setup) (spells : (bytes : List ℕ) → AreOctets bytes → gram_fault bytes ≡ None → Gram bytes (gram_in bytes)) (n : ℕ) where
  abbrev pub ahead : ℕ
  ahead = clock_of setup n

  -- WHAT COMES is as one that was put on the shelf just now
  pub came_on : (net : Network) (e : EndpointValue) (now link : ℕ) (datagram : List ℕ) (waited : ℕ) (came : Early) → IsWhatCame came now link datagram waited → AreOctets datagram → e.spent ≡ false
      → KeepsTime setup net n now → (arrive_refusal link datagram waited e ≡ None → IsInTime net e link datagram waited) → OnShelf ahead net e came
  came_on net e now link datagram waited came is are unspent time duty = record {
    are_octets = subst AreOctets (sym is.octets) are;
    began = omega (arith, is.since, time.clock);
    since = λ linked reads alive.
        let k = duty (is_admitted link datagram waited e unspent
        (subst (λ x. has_link x e.state.relay.ins ≡ true) is.link linked)
        (subst (λ x. gram_fault x ≡ None) is.octets reads)
        (subst (λ x. x < life_of datagram) is.waited (subst (λ x. came.waited < life_of x) is.octets alive))) in
        record {
          flight = k.flight;
          left = k.left;
          octets = k.octets ∙ sym is.octets;
          in_time =
              subst (λ l. net.now - k.flight.put ≤ charge_of l e.state.relay.ins + came.waited + ((net.now + ahead) - came.since)) (sym is.link)
              (subst (λ x. net.now - k.flight.put ≤ charge_of link e.state.relay.ins + x + ((net.now + ahead) - came.since)) (sym is.waited)
              (more (net.now - k.flight.put) (charge_of link e.state.relay.ins + waited) ((net.now + ahead) - came.since) k.in_time));
        };
  }
    where
      more : (a b c : ℕ) → a ≤ b → a ≤ b + c
      more a b c le = omega (arith, le)

  -- WHAT THE SHELF HANDS IN is in time, if it isn't refused
  handed_time : (now since waited said life : ℕ) → since ≤ now → said < life → life < 2 ^ 32 → ((now ≡ since) × (said ≡ waited)) ⊎ (said ≡ min (waited + (now - since) + 1) most_waited) → (waited + (now - since) ≤ said)
  handed_time now since waited said life before alive short (inl k) = omega (arith, before, k.0, k.1)
  handed_time now since waited said life before alive short (inr k) = grind (arith, nat_tests)

  handed_in : (net : Network) (e : EndpointValue) (h : Early) (c : Handed EndpointValue) → OnShelf ahead net e h → HandsOver h c → KeepsTime setup net n c.now
      → arrive_refusal c.link c.octets c.waited e ≡ None → IsInTime net e c.link c.octets c.waited
  handed_in net e h c k over time clear =
      let a = admitted c.link c.octets c.waited e clear in
      let reads : gram_fault h.octets ≡ None = subst (λ x. gram_fault x ≡ None) over.1 a.reads in
      let gram = spells h.octets k.are_octets reads in
      let life : life_of h.octets < 2 ^ 32 = subst (λ x. x < 2 ^ 32) (life_is h.octets) gram.fits.life in
      let alive : c.waited < life_of h.octets = subst (λ x. c.waited < life_of x) over.1 a.alive in
      let before : h.since ≤ c.now = omega (arith, k.began, time.clock) in
      let long = handed_time c.now h.since h.waited c.waited (life_of h.octets) before alive life over.2 in
      let young : h.waited < life_of h.octets = omega (arith, long, alive) in
      let s = k.since (subst (λ x. has_link x e.state.relay.ins ≡ true) over.0 a.linked) reads young in
      record {
        flight = s.flight;
        left = s.left;
        octets = s.octets ∙ sym over.1;
        in_time =
            subst (λ l. net.now - s.flight.put ≤ charge_of l e.state.relay.ins + c.waited) (sym over.0)
            (within (net.now - s.flight.put) (charge_of h.link e.state.relay.ins) h.waited (net.now + ahead) h.since c.now c.waited s.in_time time.clock long);
      }
    where
      within : (under charge waited clock since now said : ℕ) → under ≤ charge + waited + (clock - since) → now ≡ clock → waited + (now - since) ≤ said → under ≤ charge + said
      within under charge waited clock since now said a b c = omega (arith, a, b, c)

  -- THE ARRIVALS OF ONE CALL OF THE SHELF, from a network in which its node's endpoint is this
  abbrev pub arrivals : List (Handed EndpointValue) → List Step
  arrivals calls = map (arrival_at n) calls

  pub record Arrived (calls : List (Handed EndpointValue)) (left : List Early) (net : Network) (e f : EndpointValue) : Type 0 where
    pub steps : AreSteps setup (arrivals calls) net
    pub keeps : KeepsDuties setup (arrivals calls) net
    pub more : List OutFrameValue
    pub frames : f.frames ≡ e.frames ++ more
    pub is : network_by (arrivals calls) net ≡ record { now = net.now; endpoints = write ◌==◌ n f net.endpoints; left = net.left ++ map (λ g. record { frame = g; put = net.now }) more }
    pub on : f.spent ≡ false → Every (OnShelf ahead (network_by (arrivals calls) net) f) left

  write_same : (e : EndpointValue) (es : List (ℕ × EndpointValue)) → look ◌==◌ n es ≡ Some e → write ◌==◌ n e es ≡ es
  write_same e [] found = absurd cc
  write_same e (x ∷ es) found =
      elim (cases_Bool (x.0 == n)) [
        | inl y ↦
            let is : Some x.1 ≡ Some e = rw y at found in
            let same : x.1 ≡ e = cc in
            let key : x.0 ≡ n = nat_is x.0 n y in
            rw y (ap (λ (p : ℕ × EndpointValue). p ∷ es) (sym (pair_is x.0 n x.1 e key same)))
        | inr o ↦ let rest : look ◌==◌ n es ≡ Some e = rw o at found in rw o (ap (λ (ys : List (ℕ × EndpointValue)). x ∷ ys) (write_same e es rest))
      ]
    where
      pair_is : (j k : ℕ) (a b : EndpointValue) → j ≡ k → a ≡ b → ◌≡◌ {A = ℕ × EndpointValue} (j, a) (k, b)
      pair_is j k a b x y = cc

  write_write : (a b : EndpointValue) (es : List (ℕ × EndpointValue)) → write ◌==◌ n b (write ◌==◌ n a es) ≡ write ◌==◌ n b es
  write_write a b [] = rw (nat_self n) refl
  write_write a b (x ∷ es) =
      elim (cases_Bool (x.0 == n)) [
        | inl y ↦ rw (y, nat_self n) refl
        | inr o ↦ rw (o, o) (ap (λ (ys : List (ℕ × EndpointValue)). x ∷ ys) (write_write a b es))
      ]

  abbrev pub network_of : (now : ℕ) → List (ℕ × EndpointValue) → List Flight → Network
  network_of now es l = record { now = now; endpoints = es; left = l }

  network_is : (now : ℕ) (es fs : List (ℕ × EndpointValue)) (l k : List Flight) → es ≡ fs → l ≡ k → network_of now es l ≡ network_of now fs k
  network_is now es fs l k a b = cc

  pub flights_are : (now : ℕ) (o : Option EndpointValue) (e f : EndpointValue) (more : List OutFrameValue) → o ≡ Some e → f.frames ≡ e.frames ++ more → flights now o f ≡ map (λ g. record { frame = g; put = now }) more
  flights_are now o e f more found frames =
      rw found (ap (map (λ g. record { frame = g; put = now })) (ap (drop (length e.frames)) frames ∙ drop-append_seam e.frames more))

  abbrev call_of : Handed EndpointValue → Call
  call_of c = CallArrive c.now c.link c.octets c.waited c.answer

  abbrev after_one : Handed EndpointValue → Network → Network
  after_one c net = network_after (Calls n (call_of c) c.after) net

  -- what is on the shelf is there after an arrival too
  stay_on : (c : Handed EndpointValue) (hs : List Early) (net : Network) (e : EndpointValue) → Arrives c.answer c.now c.link c.octets c.waited e c.after
      → (e.spent ≡ false → Every (OnShelf ahead net e) hs) → c.after.spent ≡ false → Every (OnShelf ahead (after_one c net) c.after) hs
  stay_on c hs net e does on unspent =
      let same = arrival_same c.answer c.now c.link c.octets c.waited e c.after does unspent in
      every_to (OnShelf ahead net e) (OnShelf ahead (after_one c net) c.after) (λ x o. later ahead net (after_one c net) e c.after (omega arith) (λ g w. Contains-append_left net.left _ g w) same.ins x o) hs (on same.unspent)

  arrived_step : (c : Handed EndpointValue) (cs : List (Handed EndpointValue)) (left : List Early) (net : Network) (e f : EndpointValue) → look ◌==◌ n net.endpoints ≡ Some e → Arrives c.answer c.now c.link c.octets c.waited e c.after
      → KeepsTime setup net n c.now → (arrive_refusal c.link c.octets c.waited e ≡ None → IsInTime net e c.link c.octets c.waited) → Arrived cs left (after_one c net) c.after f → Arrived (c ∷ cs) left net e f
  arrived_step c cs left net e f found does time clear k = record {
    steps = (subst (λ o. DoesFrom setup n (call_of c) c.after o) (sym found) does, k.steps);
    keeps = (subst (λ o. KeepsFrom setup net n (call_of c) o) (sym found) (time, clear), k.keeps);
    more = first.more ++ k.more;
    frames = k.frames ∙ ap (λ (fs : List OutFrameValue). fs ++ k.more) first.frames ∙ append_assoc e.frames first.more k.more;
    is = k.is ∙ network_is net.now (write ◌==◌ n f (write ◌==◌ n c.after net.endpoints)) (write ◌==◌ n f net.endpoints) _ _ (write_write c.after f net.endpoints) lefts;
    on = k.on;
  }
    where
      flown : OutFrameValue → Flight
      flown g = record { frame = g; put = net.now }

      first : Appended e c.after
      first = arrival_appended c.answer c.now c.link c.octets c.waited e c.after does

      lefts : (after_one c net).left ++ map flown k.more ≡ net.left ++ map flown (first.more ++ k.more)
      lefts =
          ap (λ (l : List Flight). (net.left ++ l) ++ map flown k.more) (flights_are net.now (look ◌==◌ n net.endpoints) e c.after first.more found first.frames)
          ∙ append_assoc net.left (map flown first.more) (map flown k.more)
          ∙ ap (λ (l : List Flight). net.left ++ l) (sym (map-append flown first.more k.more))

  pub arrived_from : (calls : List (Handed EndpointValue)) (hs left : List Early) (net : Network) (e f : EndpointValue) (now : ℕ) → look ◌==◌ n net.endpoints ≡ Some e → AreCalls Arrives calls e f → AreAt now calls → KeepsTime setup net n now
      → Delays calls hs left → (e.spent ≡ false → Every (OnShelf ahead net e) hs) → Arrived calls left net e f
  arrived_from calls hs left net e f now found are at time stays on =
      subst (λ x. Arrived [] left net e x) (sym are)
      (record {
        steps = tt;
        keeps = tt;
        more = [];
        frames = sym (append-nil e.frames);
        is = network_is net.now net.endpoints (write ◌==◌ n e net.endpoints) net.left (net.left ++ []) (sym (write_same e net.endpoints found)) (sym (append-nil net.left));
        on = on;
      })
  arrived_from calls hs left net e f now found are at time (loses {rest = rest} h one goes) on =
      arrived_from calls rest left net e f now found are at time goes (λ u. (one_of (OnShelf ahead net e) h one (on u)).1)
  arrived_from calls hs left net e f now found are at time (hands {c = c} {cs = cs} {rest = rest} h one over goes) on =
      let own = subst (KeepsTime setup net n) (sym at.0) time in
      let after = after_one c net in
      let on_rest : e.spent ≡ false → Every (OnShelf ahead net e) rest = λ u. (one_of (OnShelf ahead net e) h one (on u)).1 in
      arrived_step c cs left net e f found are.0 own
      (λ clear. handed_in net e h c (one_of (OnShelf ahead net e) h one (on (admitted c.link c.octets c.waited e clear).unspent)).0 over own clear)
      (arrived_from cs rest left after c.after f now (look_write _ _ ◌==◌ nat_self nat_is n c.after net.endpoints) are.1 at.1 (record { clock = time.clock; most = time.most }) goes (stay_on c rest net e are.0 on_rest))
