-- Each frame that is handed in again is a frame that a take handed over, with less life.
use Rattle.std.proofs.Common.{◌≡◌, ◌∙◌, ◌+◌, ◌-◌, ◌<◌, ◌≤◌, ◌==◌, ◌∷◌, if◌then◌else◌, [], All, Bool, List, Option, Some, None, ap, arith, inl, inr, length, leb-false, map, nat_le, nat_lt, refl, rules, subst, suc, sym, zero, ℕ, true, false}
use Rattle.std.specs.List.{Contains}
use Rattle.std.specs.Option.{IfSome, option_map, option_to_list}
use Rattle.std.proofs.lemmas.Bool.{cases_Bool}
use Rattle.std.proofs.lemmas.List.Elements.{All-append, All-cons, All-head, All-map, All-nil, All-tail, All-weaker}
use Rattle.dt_units.specs.declared.endpoints.Flow.{Flow}
use Rattle.dt_units.specs.declared.parameters.Params.{Params}
use Rattle.dt_edges.specs.Wires.{Datagram}
use Rattle.dt_layout.specs.declared.faults.LayoutFault.{LayoutFault}
use Rattle.dt_layout.specs.Carried.{IsGram, life_of, lowered}
use Rattle.dt_layout.specs.Reading.{gram_fault}
use Rattle.dt_layout.proofs.CarriedLemmas.{lowers}
use Rattle.dt_world_model.specs.Script.{Done, Script, ◌>>=◌}
use Rattle.dt_world_model.specs.Station.{Arrive, Station, Tick, station_event}
use Rattle.dt_shelf.specs.declared.taken.Taken.{Taken}
use Rattle.dt_shelf.specs.declared.taken.Taken.TheVariants as taken
use Rattle.dt_shelf.specs.Shelves.{Held, Shelf, empty_shelf, held_packet, hold, take_held, taken_at}
use Rattle.dt_turn.specs.declared.packet_answers.PacketAnswer.{PacketAnswer}
use Rattle.dt_turn.specs.declared.packet_answers.PacketAnswer.TheVariants as heard
use Rattle.dt_node.specs.declared.watch.Watch.{Watch}
use Rattle.dt_node.specs.Acts.{answer_of}
use Rattle.dt_script.specs.Drafts.{has_link}
use Rattle.dt_node.specs.HandingIn.{HandIn, IsAgainOf, IsOld, Lowered, again_after, again_arriving, again_by, again_from, again_in, again_on, again_then, as_it_was, hand_in_at, handed_again, handed_from, handed_over, once_more}
use Rattle.dt_turn.specs.Hearing.{heard_in}
use Rattle.dt_script.specs.Orders.{Command, Orders}
use Rattle.dt_turn.specs.Nodes.{Node, first_node, node_with}
use Rattle.dt_node.specs.Runs.{capped, first_watch, moment, most_equal, next_watch}
use Rattle.dt_turn.specs.Shelving.{Round, datagram, early_number, fetch, fetch_on, fetch_turns, first_round, hold_if, inside, plain, round, round_with, rounds, rounds_on, use_shelf}
use Rattle.dt_turn.specs.Turns.{comes, do_due, event_of, finish, hand_in, turn}
use Rattle.dt_node.proofs.Completed.{answer_then}
use Rattle.dt_shelf.proofs.Keeping.{pick_had, pick_keeps, take_had}

-- WHAT LESS LIFE IS
lowered_gram : (by : ℕ) (first octets : List ℕ) → Lowered by first octets → IsGram first → IsGram octets × (life_of octets + by ≡ life_of first)
lowered_gram by first octets (as_it_was same) g = (g, omega arith)
lowered_gram by first octets (once_more before charge start here h less) g =
    let k = lowered_gram before start here h g in
    let l = lowers charge here k.0 less in
    (l.reads, omega (arith, l.life, k.1, less))

module _ (P : HandIn → Type 0) where
  -- a frame on the shelf, and one that is handed in: it is one that was handed over, and has paid for the time since
  record OnShelf (now : ℕ) (h : Held) : Type 0 where
    first : HandIn
    from : P first
    link : h.link ≡ first.datagram.link
    by : ℕ
    less : Lowered by first.datagram.octets h.frame
    earlier : first.moment ≤ h.since
    paid : h.since ≤ first.moment + by
    past : h.since ≤ now

  record Comes (now more : ℕ) (d : Datagram) : Type 0 where
    first : HandIn
    from : P first
    link : d.link ≡ first.datagram.link
    by : ℕ
    less : Lowered by first.datagram.octets d.octets
    earlier : first.moment ≤ now
    paid : now + more ≤ first.moment + by

  abbrev AllOn : ℕ → Shelf → Type 0
  AllOn now shelf = All (OnShelf now) shelf.held

  on_later : (now after : ℕ) (shelf : Shelf) → now ≤ after → AllOn now shelf → AllOn after shelf
  on_later now after shelf h all =
      All-weaker (OnShelf now) (OnShelf after) (λ x k. record { first = k.first; from = k.from; link = k.link; by = k.by; less = k.less; earlier = k.earlier; paid = k.paid; past = omega (arith, h, k.past) }) shelf.held all

  at_once : (now : ℕ) (d : Datagram) → Comes now 1 d → Comes now 0 d
  at_once now d k = record { first = k.first; from = k.from; link = k.link; by = k.by; less = k.less; earlier = k.earlier; paid = omega (arith, k.paid) }

  if_at_once : (now : ℕ) (next : Option Datagram) → IfSome next (Comes now 1) → IfSome next (Comes now 0)
  if_at_once now None h = tt
  if_at_once now (Some d) h = at_once now d h

  is_held : (now : ℕ) (d : Datagram) (flow : Flow) (number : ℕ) → Comes now 0 d → OnShelf now (held_packet d.link flow number d.octets now)
  is_held now d flow number k = record { first = k.first; from = k.from; link = k.link; by = k.by; less = k.less; earlier = k.earlier; paid = omega (arith, k.paid); past = omega arith }

  again_if : (now : ℕ) (h : Held) (b : Bool) (link : ℕ) (octets : List ℕ) → nat_le (life_of h.frame) (now - h.since + 1) ≡ b → (if b then taken.Stale else taken.Again h.link (lowered (now - h.since + 1) h.frame)) ≡ taken.Again link octets → OnShelf now h → Comes now 1 (datagram link octets)
  again_if now h true link octets e t k = absurd cc
  again_if now h false link octets e t k =
      let charge = now - h.since + 1 in
      let below : charge < life_of h.frame = omega (arith, leb-false _ _ e) in
      let same_link : h.link ≡ link = cc in
      let same_octets : lowered charge h.frame ≡ octets = cc in
      record {
        first = k.first;
        from = k.from;
        link = sym same_link ∙ k.link;
        by = k.by + charge;
        less = subst (Lowered (k.by + charge) k.first.datagram.octets) same_octets (once_more k.by charge k.first.datagram.octets h.frame k.less below);
        earlier = omega (arith, k.earlier, k.past);
        paid = omega (arith, k.paid, k.past);
      }

  is_again : (now : ℕ) (h : Held) (link : ℕ) (octets : List ℕ) → taken_at now h ≡ taken.Again link octets → OnShelf now h → Comes now 1 (datagram link octets)
  is_again now h link octets t k = again_if now h (nat_le (life_of h.frame) (now - h.since + 1)) link octets refl t k

  -- THE SHELF
  held_on : (now : ℕ) (x : Held) (shelf : Shelf) → OnShelf now x → AllOn now shelf → AllOn now (hold x shelf).1
  held_on now x shelf here h =
      elim (cases_Bool (nat_lt (length shelf.held) shelf.room)) [
        | inl y ↦ rw y (All-append (OnShelf now) shelf.held (x ∷ []) h (All-cons (OnShelf now) x [] here (All-nil (OnShelf now))))
        | inr n ↦ rw n h
      ]

  hold_on : (now : ℕ) (d : Datagram) (flow : Flow) (number : Option ℕ) (shelf : Shelf) → Comes now 0 d → AllOn now shelf → AllOn now (answer_of (hold_if now d flow number shelf))
  hold_on now d flow None shelf here h = h
  hold_on now d flow (Some number) shelf here h = held_on now (held_packet d.link flow number d.octets now) shelf (is_held now d flow number here) h

  abbrev Fetched : ℕ → Option Datagram × Shelf → Type 0
  Fetched now r = AllOn now r.1 × IfSome r.0 (Comes now 1)

  fetched_by : (again : Shelf → Script (Unit {0}) (Option Datagram × Shelf)) (flow : Flow) (number now : ℕ) (t : Option Taken) (after : Shelf) → ((shelf : Shelf) → AllOn now shelf → Fetched now (answer_of (again shelf))) → ((link : ℕ) (octets : List ℕ) → t ≡ Some (taken.Again link octets) → Comes now 1 (datagram link octets)) → AllOn now after → Fetched now (answer_of (fetch_on again flow number (t, after)))
  fetched_by again flow number now None after on comes h = (h, tt)
  fetched_by again flow number now (Some taken.Stale) after on comes h = on after h
  fetched_by again flow number now (Some (taken.Again link octets)) after on comes h = (h, comes link octets refl)

  fetched : (most : ℕ) (flow : Flow) (number now : ℕ) (shelf : Shelf) → AllOn now shelf → Fetched now (answer_of (fetch_turns most flow number now shelf))
  fetched zero flow number now shelf h = (h, tt)
  fetched (suc most) flow number now shelf h =
      let r = take_held flow number now shelf in
      fetched_by (fetch_turns most flow number now) flow number now r.0 r.1 (λ s k. fetched most flow number now s k)
      (λ link octets e. let t = take_had flow number now shelf (taken.Again link octets) e in is_again now t.0 link octets t.2 (pick_had flow number (OnShelf now) shelf.held t.0 t.1 h))
      (pick_keeps flow number (OnShelf now) shelf.held h)

  -- A ROUND
  abbrev Kept : ℕ → Round → Type 0
  Kept now r = AllOn now r.shelf × IfSome r.next (Comes now 1)

  used : (now : ℕ) (d : Datagram) (h : PacketAnswer) (station : Station (Unit {0})) (shelf : Shelf) → Comes now 0 d → AllOn now shelf → Kept now (answer_of (use_shelf now d h station shelf))
  used now d heard.Nothing station shelf here all = (all, tt)
  used now d (heard.Refused flow replied) station shelf here all =
      let s = hold_if now d flow (early_number replied d.octets) shelf in
      subst (Kept now) (sym (answer_then s (λ after. Done (round_with station after None)))) (hold_on now d flow (early_number replied d.octets) shelf here all, tt)
  used now d (heard.Accepted flow next) station shelf here all =
      subst (Kept now) (sym (answer_then (fetch flow next now shelf) (λ r. Done (round_with station r.1 r.0)))) (fetched (length shelf.held) flow next now shelf all)

  round_kept : (p : Params) (now : ℕ) (d : Datagram) (station : Station (Unit {0})) (shelf : Shelf) → Comes now 0 d → AllOn now shelf → Kept now (answer_of (round p now d station shelf))
  round_kept p now d station shelf here all =
      let event = station_event p now (Arrive d.link (plain d.octets)) station in
      let h = heard_in event heard.Nothing in
      subst (Kept now) (sym (answer_then event (λ after. use_shelf now d h after shelf))) (used now d h (answer_of event) shelf here all)

  -- what rounds leave, and what they hand in again
  record Goes (now : ℕ) (r : Round) (frames : List Datagram) (after : Round) : Type 0 where
    shelf : AllOn now after.shelf
    again : All (Comes now 1) frames

  list_of : (now : ℕ) (next : Option Datagram) → IfSome next (Comes now 1) → All (Comes now 1) (option_to_list next)
  list_of now None h = All-nil (Comes now 1)
  list_of now (Some d) h = All-cons (Comes now 1) d [] h (All-nil (Comes now 1))

  goes_on : (most : ℕ) (p : Params) (now : ℕ) (next : Option Datagram) (r : Round) → ((r : Round) → AllOn now r.shelf → IfSome r.next (Comes now 0) → Goes now r (again_in most p now r) (answer_of (rounds most p now r))) → IfSome next (Comes now 0) → AllOn now r.shelf → Goes now r (again_on (again_in most p now) p now next r) (answer_of (rounds_on (rounds most p now) p now next r))
  goes_on most p now None r on here all = record { shelf = all; again = All-nil (Comes now 1) }
  goes_on most p now (Some d) r on here all =
      let s = round p now d r.station r.shelf in
      let kept = round_kept p now d r.station r.shelf here all in
      let after = answer_of s in
      let k = on after kept.0 (if_at_once now after.next kept.1) in
      record {
        shelf = subst (λ (x : Round). AllOn now x.shelf) (sym (answer_then s (rounds most p now))) k.shelf;
        again = All-append (Comes now 1) (option_to_list after.next) (again_in most p now after) (list_of now after.next kept.1) k.again;
      }

  goes : (most : ℕ) (p : Params) (now : ℕ) (r : Round) → AllOn now r.shelf → IfSome r.next (Comes now 0) → Goes now r (again_in most p now r) (answer_of (rounds most p now r))
  goes zero p now r all here = record { shelf = all; again = All-nil (Comes now 1) }
  goes (suc most) p now r all here = goes_on most p now r.next r (λ r all here. goes most p now r all here) here all

  -- A TURN
  abbrev MayHold : ℕ → Option Shelf → Type 0
  MayHold now shelf = IfSome shelf (AllOn now)

  first_comes : (now : ℕ) (d : Datagram) → P (hand_in_at now d) → Comes now 0 d
  first_comes now d h = record { first = hand_in_at now d; from = h; link = refl; by = 0; less = as_it_was d.octets; earlier = omega arith; paid = omega arith }

  record Turned (now : ℕ) (frames : List Datagram) (after : Option Shelf) : Type 0 where
    shelf : MayHold now after
    again : All (Comes now 1) frames

  arrived : (p : Params) (now : ℕ) (d : Datagram) (fault : Option LayoutFault) (station : Station (Unit {0})) (shelf : Option Shelf) → P (hand_in_at now d) → MayHold now shelf → Turned now (again_arriving p now d fault station shelf) (answer_of (comes p now d fault station shelf)).1
  arrived p now d (Some fault) station shelf here all = record { shelf = all; again = All-nil (Comes now 1) }
  arrived p now d None station None here all =
      record {
        shelf = subst (λ (r : Station (Unit {0}) × Option Shelf). MayHold now r.1) (sym (answer_then (station_event p now (Arrive d.link (plain d.octets)) station) (λ after. Done (inside after None)))) tt;
        again = All-nil (Comes now 1);
      }
  arrived p now d None station (Some shelf) here all =
      let most = suc (length shelf.held) in
      let k = goes most p now (first_round d station shelf) all (first_comes now d here) in
      record {
        shelf = subst (λ (r : Station (Unit {0}) × Option Shelf). MayHold now r.1) (sym (answer_then (rounds most p now (first_round d station shelf)) (λ r. Done (inside r.station (Some r.shelf))))) k.shelf;
        again = k.again;
      }

  handed : (p : Params) (now : ℕ) (came : Option Datagram) (node : Node) → IfSome came (λ d. P (hand_in_at now d)) → MayHold now node.shelf → Turned now (again_by p now came node) (answer_of (hand_in p now came node.station node.shelf)).1
  handed p now None node here all = record { shelf = all; again = All-nil (Comes now 1) }
  handed p now (Some d) node here all =
      elim (cases_Bool (has_link d.link node.station.relay.ins)) [
        | inl y ↦ rw y (arrived p now d (gram_fault d.octets) node.station node.shelf here all)
        | inr n ↦ rw n (record { shelf = all; again = All-nil (Comes now 1) })
      ]

-- COMMANDS AND TICKS leave the shelf alone
due_shelf : (p : Params) (now : ℕ) (shelf : Option Shelf) (cs : List Command) (station : Station (Unit {0})) → (answer_of (do_due p now shelf cs station)).shelf ≡ shelf
due_shelf p now shelf [] station = refl
due_shelf p now shelf (c ∷ cs) station =
    elim (cases_Bool (nat_le c.at now)) [
      | inl y ↦
          rw y (ap (λ (n : Node). n.shelf) (answer_then (station_event p now (event_of c.task) station) (λ after. do_due p now shelf cs after))
          ∙ due_shelf p now shelf cs (answer_of (station_event p now (event_of c.task) station)))
      | inr n ↦ rw n refl
    ]

finish_shelf : (o : Orders) (now : ℕ) (node after : Node) → answer_of (finish o now node) ≡ Some after → after.shelf ≡ node.shelf
finish_shelf o now node after e =
    elim (cases_Bool (nat_le o.stop now)) [
      | inl y ↦ let stops : None ≡ Some after = rw y at e in absurd cc
      | inr n ↦
          let s = station_event o.setup.params now Tick node.station in
          let goes : answer_of (s >>= λ after. Done (Some (node_with after node.commands node.shelf))) ≡ Some after = rw n at e in
          let is : Some (node_with (answer_of s) node.commands node.shelf) ≡ Some after = sym (answer_then s (λ after. Done (Some (node_with after node.commands node.shelf)))) ∙ goes in
          let same : node_with (answer_of s) node.commands node.shelf ≡ after = cc in
          sym (ap (λ (n : Node). n.shelf) same)
    ]

turn_shelf : (o : Orders) (now : ℕ) (came : Option Datagram) (node after : Node) → answer_of (turn o now came node) ≡ Some after → after.shelf ≡ (answer_of (hand_in o.setup.params now came node.station node.shelf)).1
turn_shelf o now came node after e =
    let first = hand_in o.setup.params now came node.station node.shelf in
    let r = answer_of first in
    let second = do_due o.setup.params now r.1 node.commands r.0 in
    finish_shelf o now (answer_of second) after
    (sym (answer_then first (λ r. do_due o.setup.params now r.1 node.commands r.0 >>= λ done. finish o now done) ∙ answer_then second (λ done. finish o now done)) ∙ e)
    ∙ due_shelf o.setup.params now r.1 node.commands r.0

-- A RUN
moment_on : (r : ℕ) (w : Watch) → moment w ≤ moment (next_watch r w)
moment_on r w =
    elim (cases_Bool (nat_lt w.greatest (capped r))) [
      | inl y ↦ let less : w.greatest < capped r = grind (arith, y) in rw y (omega (arith, less))
      | inr n ↦ rw n (omega arith)
    ]

module _ (P : HandIn → Type 0) where
  abbrev Old : HandIn → Type 0
  Old again = (first : HandIn) × P first × IsOld first again

  is_old : (now : ℕ) (d : Datagram) → Comes P now 1 d → Old (hand_in_at now d)
  is_old now d k = (
    k.first,
    k.from,
    record {
      by = k.by;
      link = k.link;
      lowered = k.less;
      earlier = k.earlier;
      charged = k.paid;
      life = λ g. (lowered_gram k.by k.first.datagram.octets d.octets k.less g).1;
    },
  )

  module _ (o : Orders) where
    After : Watch → Option Node → Type 0
    After watch answer = IfSome answer (λ node. MayHold P (moment watch) node.shelf)

    answer_after : (watch : Watch) (came : Option Datagram) (node : Node) (answer : Option Node) → answer_of (turn o (moment watch) came node) ≡ answer → MayHold P (moment watch) (answer_of (hand_in o.setup.params (moment watch) came node.station node.shelf)).1 → IfSome answer (λ node. MayHold P (moment watch) node.shelf)
    answer_after watch came node None e h = tt
    answer_after watch came node (Some after) e h = subst (MayHold P (moment watch)) (sym (turn_shelf o (moment watch) came node after e)) h

    old_after : (watch : Watch) (answer : Option Node) (takes : List (Option Datagram)) (next : Option Datagram → Node → List (Option Datagram) → List HandIn) → IfSome answer (λ node. MayHold P (moment watch) node.shelf) → ((t : Option Datagram) (node : Node) (ts : List (Option Datagram)) → takes ≡ t ∷ ts → MayHold P (moment watch) node.shelf → All Old (next t node ts)) → All Old (again_after watch answer takes next)
    old_after watch None takes next h on = All-nil Old
    old_after watch (Some node) [] next h on = All-nil Old
    old_after watch (Some node) (t ∷ ts) next h on = elim (watch.equal == most_equal) as (λ (x : Bool). All Old (if x then [] else next t node ts)) [ true ↦ All-nil Old | false ↦ on t node ts refl h ]

    old_then : (watch : Watch) (came : Option Datagram) (node : Node) (takes : List (Option Datagram)) (next : Option Datagram → Node → List (Option Datagram) → List HandIn) → IfSome came (λ d. P (hand_in_at (moment watch) d)) → MayHold P (moment watch) node.shelf → ((t : Option Datagram) (node : Node) (ts : List (Option Datagram)) → takes ≡ t ∷ ts → MayHold P (moment watch) node.shelf → All Old (next t node ts)) → All Old (again_then o watch came node takes next)
    old_then watch came node takes next here all on =
        let now = moment watch in
        let k = handed P o.setup.params now came node here all in
        let again = again_by o.setup.params now came node in
        All-append Old (map (hand_in_at now) again) (again_after watch (answer_of (turn o now came node)) takes next)
        (All-map Old (hand_in_at now) again (All-weaker (Comes P now 1) (λ d. Old (hand_in_at now d)) (is_old now) again k.again))
        (old_after watch (answer_of (turn o now came node)) takes next (answer_after watch came node (answer_of (turn o now came node)) refl k.shelf) on)

    may_later : (now after : ℕ) (shelf : Option Shelf) → now ≤ after → MayHold P now shelf → MayHold P after shelf
    may_later now after None h all = tt
    may_later now after (Some shelf) h all = on_later P now after shelf h all

    came_first : (watch : Watch) (r : ℕ) (rs : List ℕ) (t : Option Datagram) (ts : List (Option Datagram)) → All P (handed_from watch (r ∷ rs) (t ∷ ts)) → IfSome t (λ d. P (hand_in_at (moment (next_watch r watch)) d)) × All P (handed_from (next_watch r watch) rs ts)
    came_first watch r rs None ts h = (tt, h)
    came_first watch r rs (Some d) ts h = (All-head P _ _ h, All-tail P _ _ h)

    old_from : (watch : Watch) (came : Option Datagram) (node : Node) (rs : List ℕ) (takes : List (Option Datagram)) → IfSome came (λ d. P (hand_in_at (moment watch) d)) → MayHold P (moment watch) node.shelf → All P (handed_from watch rs takes) → All Old (again_from o watch came node rs takes)
    unfolding again_from
    old_from watch came node [] takes here all further = old_then watch came node takes (λ t n ts. []) here all (λ t n ts e k. All-nil Old)
    old_from watch came node (r ∷ rs) takes here all further =
        old_then watch came node takes (λ t n ts. again_from o (next_watch r watch) t n rs ts) here all
        (λ t n ts e k.
        let f = came_first watch r rs t ts (subst (λ (xs : List (Option Datagram)). All P (handed_from watch (r ∷ rs) xs)) e further) in
        old_from (next_watch r watch) t n rs ts f.0 (may_later (moment watch) (moment (next_watch r watch)) n.shelf (moment_on r watch) k) f.1)

    empty_holds : (now : ℕ) (room : Option ℕ) → MayHold P now (option_map empty_shelf room)
    empty_holds now None = tt
    empty_holds now (Some room) = All-nil (OnShelf P now)

    old_run : (rs : List ℕ) (takes : List (Option Datagram)) → All P (handed_over rs takes) → All Old (handed_again o rs takes)
    unfolding handed_again
    old_run [] takes h = All-nil Old
    old_run (r ∷ rs) takes h = old_from (first_watch r) None (first_node o) rs takes tt (empty_holds (moment (first_watch r)) o.setup.shelf) h

all_contained : {A : Type 0} (xs : List A) → All (Contains xs) xs
all_contained xs = λ i d below. (i, below, search rules)

-- each frame that is handed in again is one that a take handed over, with less life
pub again_is_old : (o : Orders) (rs : List ℕ) (takes : List (Option Datagram)) → All (IsAgainOf (handed_over rs takes)) (handed_again o rs takes)
again_is_old o rs takes = old_run (Contains (handed_over rs takes)) o rs takes (all_contained (handed_over rs takes))
