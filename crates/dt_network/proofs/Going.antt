-- The world goes beside the network, call by call.
use Rattle.std.proofs.Common.{◌≤◌, ◌≡◌, ◌∙◌, ◌⊎◌, ◌==◌, ◌+◌, ◌-◌, ◌<◌, ℕ, suc, Bool, true, false, List, [], ◌∷◌, ◌++◌, append-nil, append_assoc, drop, length, map, take, Option, Some, None, refl, sym, ap, subst, arith, inl, inr}
use Rattle.std.specs.Prelude.{All}
use Rattle.std.proofs.lemmas.Bool.Decides.{nat_tests}
use Rattle.std.proofs.lemmas.List.{take-append-drop}
use Rattle.std.proofs.lemmas.List.Elements.{All-contains}
use Rattle.dt_units.specs.declared.endpoints.Flow.{Flow}
use Rattle.dt_units.specs.Flows.{IsFlow}
use Rattle.dt_units.specs.Limits.{IsWithinLimits}
use Rattle.dt_layout.specs.Carried.{life_of}
use Rattle.dt_flow_model.specs.Frames.{Mark, marked_packet, value_in}
use Rattle.dt_world_laws.proofs.Lifting.{lifted_fates, no_lift}
use Rattle.dt_world_laws.proofs.Promise.{facts_are_safe}
use Rattle.dt_world_model.specs.Relay.{charge_of}
use Rattle.dt_world_model.specs.Station.{Event, Read, Send, Station, Tick, station_with}
use Rattle.dt_world_model.specs.Tables.{look, write}
use Rattle.dt_world_model.specs.Tags.{bare_event}
use Rattle.dt_world_model.specs.World.{World, view}
use Rattle.dt_world_model.specs.WorldFacts.{IsCopy, WorldFacts}
use Rattle.dt_world_model.specs.WorldStep.{event_at, restart_at}
use Rattle.dt_endpoint.specs.Acts.{OutFrameValue}
use Rattle.dt_endpoint.specs.Calls.{arrive_event, arrive_refusal, read_answer, send_answer}
use Rattle.dt_endpoint.specs.Endpoints.{EndpointValue, with_route}
use Rattle.dt_endpoint.specs.Networks.{late_event}
use Rattle.std.proofs.Math.Seq.{drop-length, take-nil}
use Rattle.std.proofs.lemmas.Bool.{cases_Bool}
use Rattle.dt_items.specs.declared.item.Item.{Item}
use Rattle.dt_items.specs.Unread.{first_piece, marked}
use Rattle.dt_flow_model.specs.declared.rows.Given.{Given}
use Rattle.dt_flow_model.specs.declared.rows.Taken as rows
use Rattle.dt_flow_model.specs.Facts.{AllGivenFacts, Joined, Rising}
use Rattle.dt_world_model.proofs.Tables.{flow_is, look_write, nat_is, nat_self}
use Rattle.dt_world_model.specs.Ledgers.{ledger_of}
use Rattle.dt_world_model.specs.Tables.{same_flow}
use Rattle.dt_world_model.specs.WorldStep.{Passes}
use Rattle.dt_calls_laws.proofs.Calm.{others_calm}
use Rattle.dt_calls_laws.specs.Calm.{Calm, PieceIsGone, items_taken}
use Rattle.dt_calls_laws.specs.Sent.{SendLeaves}
use Rattle.dt_calls_model.specs.CallFacts.{rows_gone}
use Rattle.dt_endpoint.specs.declared.answers.Ticked.{Ticked}
use Rattle.dt_endpoint.specs.declared.answers.Sent.{Sent}
use Rattle.dt_endpoint.specs.declared.answers.Received.{Received}
use Rattle.dt_endpoint.specs.declared.answers.Delivered.{Delivered}
use Rattle.dt_network.proofs.Accounts.{IsSpentAt, Account, Sure, calm_account, joined_front, lost_account, read_account, restart_account, spent_event, spent_here, spent_restart, spent_still, taking_account, unspent_here, none_spent}
use Rattle.dt_network.proofs.Picking.{read_of_taken}
use Rattle.dt_network.specs.Books.{Chosen, none}
use Rattle.dt_network.proofs.Pieces.{piece_read}
use Rattle.dt_network.proofs.Refusals.{is_refused}
use Rattle.dt_network.proofs.Told.{read_told, send_items, send_told, taken_if, takes_if}
use Rattle.dt_network.specs.Octets.{AreTaken, IsReadOf, IsTaken, Takes, TakesIf, TakesIn, all_read, items_read, read_by, read_if, read_in_step}
use Rattle.dt_reports.specs.Told.{Told}
use Rattle.dt_flow_model.specs.Safe.{SafeLedger}
use Rattle.dt_world_model.specs.World.{placed}
use Rattle.dt_world_model.specs.WorldStep.{items_with, occasion, restarted}
use Rattle.dt_network.proofs.Booked.{Booked, again_booked, event_booked, new_booked, safe_untimed}
use Rattle.dt_network.proofs.Booking.{brings, untimed}
use Rattle.dt_network.specs.Books.{AllFound, Book, FoundIn, IsSafeBook, book_after, book_all, book_by, book_from, book_of, given_all, items_in, new_book, no_mark}
use Rattle.dt_world_laws.proofs.Worlds.{placed_is}
use Rattle.dt_world_model.specs.Host.{receiver_at}
use Rattle.dt_world_model.specs.World.{Placed}
use Rattle.dt_calls_laws.proofs.UnreadEnd.{unread_end}
use Rattle.dt_network.specs.Steps.{network_by}
use Rattle.dt_network.proofs.Events.{called, event_beside, is_at, stations_after, stays_station}
use Rattle.dt_network.proofs.Rerouting.{IsSeen, booked_stands, calm_stands, calm_through, moved_there, relink_keeps, reroute_keeps, same_life}
use Rattle.dt_relay.specs.Ways as ways
use Rattle.dt_world_model.specs.declared.links.Route.{Route}
use Rattle.dt_endpoint.specs.declared.answers.Routed.{Routed}
use Rattle.dt_network.proofs.Frames.{Ends}
use Rattle.dt_network.proofs.Openings.{again_beside, network_begins, begun}
use Rattle.dt_network.proofs.Outcomes.{Admits, IsLost, IsPieceOf, IsStill, ReadIsRefused, ReadsTo, SendIsRefused, SendsFrom, arrival_comes_to, followed_is_still, pulled_frame_is_still, pulled_report_is_still, read_comes_to, route_comes_to, same_is_still, send_comes_to, tick_comes_to}
use Rattle.dt_network.proofs.Worlds.{Goes, goes_by_read, goes_by_restart, goes_by_send, goes_by_tick, goes_in_time, goes_late, is_named, late_calm, piece_goes, read_is_calm, life_again, restart_calm, restart_life, restart_loses, send_does, send_is_steady, tick_calm}
use Rattle.dt_network.specs.Beside.{GoesBeside, GoesOn, GoesOnBy, IsBeside, IsLate, IsStationOf, IsUnderWay, KeepsAllFates, on_link, stays}
use Rattle.dt_network.specs.Duties.{IsInTime, Keeps, KeepsCall, KeepsDuties, KeepsFrom, KeepsTime}
use Rattle.dt_network.specs.Network.{Flight, Network, Options, Setup, flights, new_network, opened_with}
use Rattle.dt_network.specs.Stations.{first_world, links_of, relink, relinked, reroute, rerouted}
use Rattle.dt_network.specs.Steps.{AddRoute, AreSteps, Call, CallArrive, CallRead, CallSend, CallTick, Calls, Does, DoesFrom, Follow, IsStep, OpenAgain, Pass, PullFrame, PullReport, Step, network_after}

-- the world after a step of the network, which goes on to it so, with what the step takes and reads of each flow
pub record NextWorld (setup : Setup) (before after : Network) (w : World) (on : World → Type 0) (takes : Flow → List Item → Type 0) (read : Flow → List Item) (books : Flow → Book → Book) (found : Type 0) : Type 0 where
  pub world : World
  pub goes_on : on world
  pub fates : KeepsAllFates w world
  pub beside : IsBeside setup after world
  pub accounts : (g : Flow) (joined : Bool) → Sure before w g joined → Account w world after g (takes g) (read g) joined
  pub booked : found → (g : Flow) (b : Book) → Booked w g b → Booked world g (books g b)
  pub none_spent : found → (g : Flow) → (IsSpentAt before g → ⊥) → IsSpentAt after g → ⊥

goes_nowhere : (w : World) → WorldFacts w → Goes w w
goes_nowhere w facts = record { onward = stays; facts = facts; fates = λ f. lifted_fates w.params (view w f) (view w f) (no_lift w.params (view w f)) }

-- TIME PASSES
time_beside : (setup : Setup) (net : Network) (w : World) (by : ℕ) → IsWithinLimits w.params → IsBeside setup net w → NextWorld setup net (network_after (Pass by) net) w (GoesOn (Pass by) w) (λ g. TakesIn g (Pass by)) (λ g. []) (λ g b. b) (Unit {0})
time_beside setup net w by limits h =
    let goes = goes_in_time w by limits h.facts in
    let later : World = record w { now = w.now + by } in
    record {
      world = record w { now = w.now + by };
      goes_on = goes.onward;
      fates = goes.fates;
      beside = record {
        params = h.params;
        now = ap (λ (k : ℕ). k + by) h.now;
        endpoints = λ n e found.
            let s = h.endpoints n e found in
            record { at = s.at; there = s.there; clock = s.clock; rules = s.rules; past = omega (arith, s.past); state = s.state };
        left = h.left;
        facts = goes.facts;
      };
      accounts = λ g joined sure. calm_account w later net (network_after (Pass by) net) g (TakesIn g (Pass by)) [] joined (others_calm w limits h.facts (Passes by) g tt refl tt tt) refl (λ s. record { reader = s.reader; there = s.there; spent = s.spent }) refl sure;
      booked = λ found g b k. record { rows = k.rows; given = k.given; lives = k.lives };
      none_spent = λ found g before s. before (record { reader = s.reader; there = s.there; spent = s.spent });
    }

calm_same : (w : World) (g : Flow) → Calm w w g
calm_same w g = record { items = refl; steady = record { gone = refl; life = refl } }

abbrev IsNothing : List Item → Type 0
IsNothing taken = taken ≡ []

module _ (setup : Setup) (net : Network) (w : World) (limits : IsWithinLimits w.params) (h : IsBeside setup net w) (n : ℕ) (e : EndpointValue) (found : look ◌==◌ n net.endpoints ≡ Some e) (s : IsStationOf setup w n e) (f : EndpointValue) where
  abbrev after : Network
  after = called net n e f

  abbrev Next : Call → Type 0
  Next call = NextWorld setup net (called net n e f) w (GoesOnBy call n w) (λ g. Takes g call) (λ g. read_by g call) (λ g b. book_from g n call (Some e) f b) (f.spent ≡ false)

  -- a call whose reports are noted
  abbrev IsNoted : Call → Type 0
  IsNoted call = (g : Flow) (b : Book) → book_from g n call (Some e) f b ≡ book_by g n (items_in call) (drop (length e.reports) f.reports) b

  -- NOTHING happens to the world
  still : (call : Call) → GoesOnBy call n w w → IsNoted call → IsStill e f → ((g : Flow) → Takes g call []) → ((g : Flow) → read_by g call ≡ []) → Next call
  still call on noted k takes_none unread =
      let here : IsStationOf setup w n f =
      record { at = s.at; there = s.there; clock = s.clock; rules = k.rules ∙ s.rules; past = omega (arith, s.past, k.latest); state = λ unspent. k.state ∙ s.state (sym k.spent ∙ unspent) } in
      let nothing : flights net.now (Some e) f ≡ [] = ap (λ (fs : List OutFrameValue). map (λ (g : OutFrameValue). let t : Flight = record { frame = g; put = net.now } in t) fs) k.frames in
      let same : net.left ++ flights net.now (Some e) f ≡ net.left = ap (λ (fs : List Flight). net.left ++ fs) nothing ∙ append-nil net.left in
      record {
        world = w;
        goes_on = on;
        fates = (goes_nowhere w h.facts).fates;
        beside = record {
          params = h.params;
          now = h.now;
          endpoints = stations_after setup net.endpoints w n f here (λ m g other found. h.endpoints m g found);
          left = subst (λ (fs : List Flight). All (IsUnderWay w.copies) fs) (sym same) h.left;
          facts = h.facts;
        };
        accounts = λ g joined sure. calm_account w w net after g (Takes g call) (read_by g call) joined (calm_same w g) (takes_none g) (spent_still net n e f g found k.spent) (unread g) sure;
        booked = λ memory g b was. subst (Booked w g) (sym (noted g b)) (record { rows = was.rows ∙ sym (ap (λ (rs : List Told). book_all g (b.lives n) (items_in call) rs b.rows) k.reports); given = was.given ∙ sym (ap (λ (rs : List Told). given_all g (b.lives n) (items_in call) rs b.given) k.reports); lives = was.lives });
        none_spent = λ memory g before. none_spent net n e f g found memory before;
      }

  -- AN EVENT
  abbrev Accounts : Call → Event Mark → Type 0
  Accounts call event = (g : Flow) (joined : Bool) → Sure net w g joined → Account w (event_at w n event (Some s.at)).1 after g (Takes g call) (read_by g call) joined

  -- the octets that the world notes for it are those of the call
  abbrev SameItems : Call → Event Mark → Type 0
  SameItems call event = (occasion w n event).items ≡ items_in call

  by_event : (call : Call) (now : ℕ) → KeepsTime setup net n now → e.spent ≡ false → (event : Event Mark) → Ends now (bare_event event) e f → (goes : Goes w (event_at w n event (Some s.at)).1) → GoesOnBy call n w (event_at w n event (Some s.at)).1 → Accounts call event → IsNoted call → SameItems call event → Next call
  by_event call now time unspent event ends goes on accounts noted same =
      record { world = (event_at w n event (Some s.at)).1; goes_on = on; fates = goes.fates; beside = event_beside setup net w h n e s now time unspent event f ends goes.facts; accounts = accounts; none_spent = λ memory g before. none_spent net n e f g found memory before; booked = λ memory g b was. subst (Booked (event_at w n event (Some s.at)).1 g) (sym (noted g b)) (event_booked w n s.at s.there now e f (is_at setup net w h n e s now time unspent) event ends memory g b (items_in call) same was) }

  -- an event that takes nothing and reads nothing
  calm_event : (call : Call) (event : Event Mark) → e.spent ≡ false → ((g : Flow) → Calm w (event_at w n event (Some s.at)).1 g) → ((g : Flow) → Takes g call []) → ((g : Flow) → read_by g call ≡ []) → Accounts call event
  calm_event call event unspent calm takes_none unread g joined sure = calm_account w (event_at w n event (Some s.at)).1 net after g (Takes g call) (read_by g call) joined (calm g) (takes_none g) (spent_event net n e f g found unspent) (unread g) sure

  named : e.spent ≡ false → e.state.host.me ≡ n
  named unspent = ap (λ (st : Station (Unit {0})). st.host.me) (s.state unspent) ∙ is_named w n s.at s.there limits h.facts

  apart : (a b me : ℕ) → a ≡ me → (b == me) ≡ false → (a == b) ≡ false
  apart a b me same other = grind (arith, nat_tests)

  apart_from : (a b me : ℕ) → b ≡ me → (a == me) ≡ false → (a == b) ≡ false
  apart_from a b me same other = grind (arith, nat_tests)

  by_tick : (now : ℕ) (answer : Ticked) → KeepsTime setup net n now → (f ≡ e) ⊎ ((e.spent ≡ false) × Ends now Tick e f) → Next (CallTick now answer)
  by_tick now answer time (inl same) = still (CallTick now answer) stays (λ g b. refl) (same_is_still e f same) (λ g. refl) (λ g. refl)
  by_tick now answer time (inr k) =
      by_event (CallTick now answer) now time k.0 Tick k.1 (goes_by_tick w n s.at s.there limits h.facts) (goes_by_tick w n s.at s.there limits h.facts).onward
      (calm_event (CallTick now answer) Tick k.0 (tick_calm w n s.at s.there limits h.facts) (λ g. refl) (λ g. refl))
      (λ g b. refl) refl

  -- a send that is refused takes nothing of its flow
  none_if : (same : Bool) (answer : Sent) (items : List Item) → IsTaken answer items [] → TakesIf same answer items []
  none_if true answer items h = h
  none_if false answer items h = refl

  send_accounts : (now : ℕ) (flow : Flow) (octets : List ℕ) (begin end : Bool) (answer : Sent) → KeepsTime setup net n now → IsFlow flow → SendsFrom answer now flow octets begin end e f → flow.from.0 ≡ n → Accounts (CallSend now flow octets begin end answer) (Send flow octets begin end)
  send_accounts now flow octets begin end answer time is k from g joined sure =
      let call = CallSend now flow octets begin end answer in
      let v = (event_at w n (Send flow octets begin end) (Some s.at)).1 in
      let refused = send_answer now flow octets begin end e in
      let items = marked octets begin end false in
      let told = send_told w n s.at now e flow octets begin end (is_at setup net w h n e s now time k.unspent) in
      let leaves : SendLeaves (is_refused refused) flow octets begin end w.ledgers v.ledgers = subst (λ (b : Bool). SendLeaves b flow octets begin end w.ledgers v.ledgers) told (send_does w n s.at s.there limits h.facts flow octets begin end from) in
      let steady = send_is_steady w n s.at s.there limits h.facts flow octets begin end is from g in
      taking_account w v net after g (Takes g call) [] joined (taken_if (same_flow flow g) refused items) (takes_if (same_flow flow g) answer refused items (k.taken items))
      (send_items w v flow g octets begin end refused (same_flow flow g) refl leaves) steady.gone steady.life (spent_event net n e f g found k.unspent) refl sure

  by_send : (now : ℕ) (flow : Flow) (octets : List ℕ) (begin end : Bool) (answer : Sent) → KeepsTime setup net n now → IsFlow flow → SendIsRefused answer e f ⊎ SendsFrom answer now flow octets begin end e f → Next (CallSend now flow octets begin end answer)
  by_send now flow octets begin end answer time is (inl k) =
      still (CallSend now flow octets begin end answer) stays (λ g b. refl) (same_is_still e f k.same) (λ g. none_if (same_flow flow g) answer (marked octets begin end false) (k.none (marked octets begin end false))) (λ g. refl)
  by_send now flow octets begin end answer time is (inr k) =
      let from = k.from ∙ named k.unspent in
      let goes = goes_by_send w n s.at s.there limits h.facts flow octets begin end is from (apart flow.from.0 flow.to.0 e.state.host.me k.from k.to) in
      by_event (CallSend now flow octets begin end answer) now time k.unspent (Send flow octets begin end) k.ends goes goes.onward
      (send_accounts now flow octets begin end answer time is k from)
      (λ g b. refl) refl

  none_read_if : (same : Bool) (items : List Item) → items ≡ [] → read_if same items ≡ []
  none_read_if true items h = h
  none_read_if false items h = refl

  read_accounts : (now : ℕ) (flow : Flow) (room : ℕ) (buf : List ℕ) (answer : Delivered) → KeepsTime setup net n now → IsFlow flow → ReadsTo answer now flow room buf e f → flow.to.0 ≡ n → Accounts (CallRead now flow room buf answer) (Read flow room)
  read_accounts now flow room buf answer time is k to g joined sure = by_flow (same_flow flow g) refl
    where
      here_is : same_flow flow g ≡ true → (n == g.to.0) ≡ true
      here_is y = let same : flow ≡ g = flow_is flow g y in let node : g.to.0 ≡ n = subst (λ (x : Flow). x.to.0 ≡ n) same to in rw node (nat_self n)

      by_answer : same_flow flow g ≡ true → IsPieceOf answer buf (read_answer now flow room e) ⊎ IsLost answer buf f → Account w (event_at w n (Read flow room) (Some s.at)).1 after g (IsNothing) (items_read answer buf) joined
      by_answer y (inl piece) =
          let same : flow ≡ g = flow_is flow g y in
          let v = (event_at w n (Read flow room) (Some s.at)).1 in
          let gone : PieceIsGone w v g room = subst (λ (x : Flow). PieceIsGone w v x room) same (piece_goes w n s.at s.there limits h.facts flow room is to) in
          let told = read_told w n s.at now e flow room limits h.facts s.there (is_at setup net w h n e s now time k.unspent) to in
          let read : items_read answer buf ≡ first_piece room (view w g).unread = piece_read answer buf room (view w flow).unread (read_answer now flow room e) told piece ∙ ap (λ (x : Flow). first_piece room (view w x).unread) same in
          read_account w v net after g IsNothing joined room h.facts gone (items_read answer buf) read refl (unspent_here net n e f g found (here_is y) k.unspent) sure
      by_answer y (inr lost) =
          let v = (event_at w n (Read flow room) (Some s.at)).1 in
          let gone : PieceIsGone w v g room = subst (λ (x : Flow). PieceIsGone w v x room) (flow_is flow g y) (piece_goes w n s.at s.there limits h.facts flow room is to) in
          lost_account w v net after g IsNothing joined room h.facts gone (items_read answer buf) lost.none refl (spent_here net n e f g found (here_is y) lost.spent)

      by_flow : (same : Bool) → same_flow flow g ≡ same → Account w (event_at w n (Read flow room) (Some s.at)).1 after g (IsNothing) (read_if same (items_read answer buf)) joined
      by_flow true y = by_answer y k.answered
      by_flow false o = calm_account w (event_at w n (Read flow room) (Some s.at)).1 net after g IsNothing [] joined (read_is_calm w n s.at s.there limits h.facts flow room is to g o) refl (spent_event net n e f g found k.unspent) refl sure

  by_read : (now : ℕ) (flow : Flow) (room : ℕ) (buf : List ℕ) (answer : Delivered) → KeepsTime setup net n now → IsFlow flow → ReadIsRefused answer buf e f ⊎ ReadsTo answer now flow room buf e f → Next (CallRead now flow room buf answer)
  by_read now flow room buf answer time is (inl k) = still (CallRead now flow room buf answer) stays (λ g b. refl) (same_is_still e f k.same) (λ g. refl) (λ g. none_read_if (same_flow flow g) (items_read answer buf) k.none)
  by_read now flow room buf answer time is (inr k) =
      let to = k.to ∙ named k.unspent in
      let goes = goes_by_read w n s.at s.there limits h.facts flow room is to (apart_from flow.from.0 flow.to.0 e.state.host.me k.to k.from) in
      by_event (CallRead now flow room buf answer) now time k.unspent (Read flow room) k.ends goes goes.onward
      (read_accounts now flow room buf answer time is k to)
      (λ g b. refl) refl

  -- the copy of a datagram, and that it comes in time
  by_copy : (now link : ℕ) (datagram : List ℕ) (waited : ℕ) (answer : Received) → KeepsTime setup net n now → Admits now link datagram waited e f → (i : IsInTime net e link datagram waited) → IsUnderWay w.copies i.flight → Next (CallArrive now link datagram waited answer)
  by_copy now link datagram waited answer time k i under =
      let c = under.copy in
      let octets : c.parcel.octets ≡ datagram = ap (λ (g : OutFrameValue). g.octets) under.frame ∙ i.octets in
      let ins : e.state.relay.ins ≡ s.at.station.relay.ins = ap (λ (st : Station (Unit {0})). st.relay.ins) (s.state k.unspent) in
      let charge : charge_of link s.at.station.relay.ins ≡ charge_of link e.state.relay.ins = ap (charge_of link) (sym ins) in
      let event : arrive_event link datagram waited ≡ arrive_event link c.parcel.octets waited = ap (λ (os : List ℕ). arrive_event link os waited) (sym octets) in
      let late : IsLate w n s.at link c waited =
      record {
        there = s.there;
        copy = under.there;
        below = subst (λ (os : List ℕ). waited < life_of os) (sym octets) k.below;
        in_time = omega (arith, i.in_time, charge, under.put, h.now);
      } in
      let call = CallArrive now link datagram waited answer in
      let is : IsCopy w.params w.now (view w) c = All-contains (IsCopy w.params w.now (view w)) w.copies c h.facts.copies under.there in
      let comes = late_event (on_link link c) waited in
      let goes = goes_late w n s.at s.there limits h.facts link c waited late in
      by_event call now time k.unspent comes (subst (λ (ev : Event (Unit {0})). Ends now ev e f) event k.ends) goes goes.onward
      (calm_event call comes k.unspent (late_calm w n s.at s.there limits h.facts link c waited late) (λ g. refl) (λ g. refl))
      (λ g b. refl) (brings c.parcel.tag waited c.parcel.octets is.packet.gram late.below ∙ ap (λ (os : List ℕ). items_with (marked_packet no_mark (value_in os))) octets)

  by_arrival : (now link : ℕ) (datagram : List ℕ) (waited : ℕ) (answer : Received) → KeepsTime setup net n now → (arrive_refusal link datagram waited e ≡ None → IsInTime net e link datagram waited) → IsStill e f ⊎ Admits now link datagram waited e f → Next (CallArrive now link datagram waited answer)
  by_arrival now link datagram waited answer time owed (inl same) = still (CallArrive now link datagram waited answer) stays (λ g b. refl) same (λ g. refl) (λ g. refl)
  by_arrival now link datagram waited answer time owed (inr k) =
      let i = owed k.clear in
      by_copy now link datagram waited answer time k i (All-contains (IsUnderWay w.copies) net.left i.flight h.left i.left)

  -- A ROUTE IS ADDED: the station has one more
  abbrev and_route : Route → List Route
  and_route route = s.at.station.relay.routes ++ route ∷ []

  same_but_routes : (route : Route) → IsSeen s.at (rerouted (and_route route) s.at)
  same_but_routes route = record { zero = refl; life = refl; host = refl }

  route_beside : (route : Route) → f ≡ with_route route e → IsStationOf setup (reroute w n s.at (and_route route)) n f
  route_beside route is = record {
    at = rerouted (and_route route) s.at;
    there = moved_there w n s.at s.there (rerouted (and_route route) s.at) (same_but_routes route) w.links;
    clock = s.clock;
    rules = ap (λ (x : EndpointValue). x.rules) is ∙ s.rules;
    past = omega (arith, s.past, ap (λ (x : EndpointValue). x.latest) is);
    state = λ unspent. ap (λ (x : EndpointValue). x.state) is ∙ ap (λ (st : Station (Unit {0})). let t : Station (Unit {0}) = station_with st.host (ways.with_route route st.relay) in t) (s.state (sym (ap (λ (x : EndpointValue). x.spent) is) ∙ unspent));
  }

  by_route : (route : Route) (answer : Routed) → (f ≡ e) ⊎ (f ≡ with_route route e) → Next (AddRoute route answer)
  by_route route answer (inl same) = still (AddRoute route answer) (inl refl) (λ g b. refl) (same_is_still e f same) (λ g. refl) (λ g. refl)
  by_route route answer (inr is) =
      let call = AddRoute route answer in
      let new = rerouted (and_route route) s.at in
      let seen = same_but_routes route in
      let v = reroute w n s.at (and_route route) in
      let none_left : drop (length e.frames) f.frames ≡ [] = ap (λ (x : EndpointValue). drop (length e.frames) x.frames) is ∙ drop-length e.frames in
      let none_told : drop (length e.reports) f.reports ≡ [] = ap (λ (x : EndpointValue). drop (length e.reports) x.reports) is ∙ drop-length e.reports in
      let nothing : flights net.now (Some e) f ≡ [] = ap (λ (fs : List OutFrameValue). map (λ (g : OutFrameValue). let t : Flight = record { frame = g; put = net.now } in t) fs) none_left in
      let same : net.left ++ flights net.now (Some e) f ≡ net.left = ap (λ (fs : List Flight). net.left ++ fs) nothing ∙ append-nil net.left in
      record {
        world = v;
        goes_on = inr (record { at = s.at; there = s.there; is = refl });
        fates = (goes_nowhere w h.facts).fates;
        beside = record {
          params = h.params;
          now = h.now;
          endpoints = stations_after setup net.endpoints v n f (route_beside route is) (λ m g other found. stays_station setup w v n m new g refl refl refl other (h.endpoints m g found));
          left = subst (λ (fs : List Flight). All (IsUnderWay w.copies) fs) (sym same) h.left;
          facts = reroute_keeps w n s.at s.there (and_route route) h.facts;
        };
        accounts = λ g joined sure. calm_account w v net after g (Takes g call) (read_by g call) joined (calm_stands w n s.at s.there new seen w.links g) refl (spent_still net n e f g found (ap (λ (x : EndpointValue). x.spent) is)) refl sure;
        booked = λ memory g b was. booked_stands w n s.at s.there new seen w.links g _ (record { rows = was.rows ∙ sym (ap (λ (rs : List Told). book_all g (b.lives n) (items_in call) rs b.rows) none_told); given = was.given ∙ sym (ap (λ (rs : List Told). given_all g (b.lives n) (items_in call) rs b.given) none_told); lives = was.lives });
        none_spent = λ memory g before. none_spent net n e f g found memory before;
      }

  -- A NODE OPENS AGAIN: its station starts again, and has the links and routes that it is handed
  by_opening : (again : Option ℕ) (options : Options) (now : ℕ) → KeepsTime setup net n now → f ≡ opened_with setup n (Some now) options → Next (OpenAgain again options)
  by_opening again options now time is =
      let call = OpenAgain again options in
      let goes = goes_by_restart w n s.at s.there limits h.facts in
      let u = (restart_at w n (Some s.at)).1 in
      let at = restarted w.params w.now s.at in
      let new = relinked options at in
      let there : look ◌==◌ n u.stations ≡ Some at = look_write ℕ Placed ◌==◌ nat_self nat_is n at w.stations in
      let seen : IsSeen at new = record { zero = refl; life = refl; host = refl } in
      let stations = write ◌==◌ n new u.stations in
      let links = links_of stations stations in
      let v = relink u n at options in
      record {
        world = v;
        goes_on = record { at = s.at; there = s.there; is = refl };
        fates = goes.fates;
        beside = again_beside setup net w h n e s (is_named w n s.at s.there limits h.facts) now time options f is (relink_keeps u n at there options goes.facts);
        accounts = λ g joined sure. elim (cases_Bool (n == g.to.0)) [
          | inl y ↦
              let same = nat_is n g.to.0 y in
              let lost = restart_loses w n s.at s.there limits h.facts g same in
              let calm = calm_stands u n at there new seen links g in
              restart_account w v after g (Takes g call) [] joined h.facts (record { items = calm.items ∙ lost.items; gone = calm.steady.gone ∙ lost.gone }) (calm.steady.life ∙ restart_life w n s.at s.there limits h.facts g same) refl refl
          | inr o ↦ calm_account w v net after g (Takes g call) [] joined (calm_through w u v g (restart_calm w n s.at s.there limits h.facts g o) (calm_stands u n at there new seen links g)) refl (spent_restart net n e f g found o) refl sure
        ];
        booked = λ memory g b was. booked_stands u n at there new seen links g _ (again_booked w n s.at g b (λ m same. life_again w n s.at s.there limits h.facts m same) was);
        none_spent = λ memory g before. none_spent net n e f g found memory before;
      }

  -- A CALL
  call_beside : (call : Call) → Does setup n call e f → KeepsCall setup net n call e → Next call
  call_beside (CallTick now answer) does keeps = by_tick now answer keeps (tick_comes_to answer now e f does)
  call_beside (CallSend now flow octets begin end answer) does keeps = by_send now flow octets begin end answer keeps does.0 (send_comes_to answer now flow octets begin end e f does.1)
  call_beside (CallRead now flow room buf answer) does keeps = by_read now flow room buf answer keeps does.0 (read_comes_to answer now flow room buf e f does.1)
  call_beside (CallArrive now link datagram waited answer) does keeps = by_arrival now link datagram waited answer keeps.0 keeps.1 (arrival_comes_to answer now link datagram waited e f does)
  call_beside PullFrame does keeps = still PullFrame stays (λ g b. refl) (pulled_frame_is_still e f does) (λ g. refl) (λ g. refl)
  call_beside PullReport does keeps = still PullReport stays (λ g b. refl) (pulled_report_is_still e f does) (λ g. refl) (λ g. refl)
  call_beside (Follow flow done) does keeps = still (Follow flow done) stays (λ g b. refl) (followed_is_still flow done setup n e f does) (λ g. refl) (λ g. refl)
  call_beside (AddRoute route answer) does keeps = by_route route answer (route_comes_to answer route e f does)
  call_beside (OpenAgain again options) does keeps = by_opening again options keeps.now keeps.time (does ∙ ap (λ (o : Option ℕ). opened_with setup n o options) keeps.told)

-- A STEP
by_node : (setup : Setup) (net : Network) (w : World) → IsWithinLimits w.params → IsBeside setup net w → (n : ℕ) (call : Call) (f : EndpointValue) (o : Option EndpointValue) → look ◌==◌ n net.endpoints ≡ o → DoesFrom setup n call f o → KeepsFrom setup net n call o
    → NextWorld setup net (record { now = net.now; endpoints = write ◌==◌ n f net.endpoints; left = net.left ++ flights net.now o f }) w (GoesOnBy call n w) (λ g. Takes g call) (λ g. read_by g call) (λ g b. book_from g n call o f b) (f.spent ≡ false)
by_node setup net w limits h n call f None found does keeps = absurd does
by_node setup net w limits h n call f (Some e) found does keeps = call_beside setup net w limits h n e found (h.endpoints n e found) f call does keeps

pub step_beside : (setup : Setup) (net : Network) (w : World) → IsWithinLimits w.params → IsBeside setup net w → (s : Step) → IsStep setup s net → Keeps setup s net → NextWorld setup net (network_after s net) w (GoesOn s w) (λ g. TakesIn g s) (λ g. read_in_step g s) (λ g b. book_after g s net b) (FoundIn s)
step_beside setup net w limits h (Pass by) does keeps = time_beside setup net w by limits h
step_beside setup net w limits h (Calls n call f) does keeps = by_node setup net w limits h n call f (look ◌==◌ n net.endpoints) refl does keeps

-- A LIST OF STEPS
pub steps_beside : (setup : Setup) (net : Network) (w : World) → IsWithinLimits setup.params → IsBeside setup net w → (steps : List Step) → AreSteps setup steps net → KeepsDuties setup steps net → GoesBeside setup steps net w
steps_beside setup net w limits h [] does keeps = (h, λ f. facts_are_safe w f h.facts)
steps_beside setup net w limits h (s ∷ steps) does keeps =
    let next = step_beside setup net w (subst IsWithinLimits (sym h.params) limits) h s does.0 keeps.0 in
    (h, λ f. facts_are_safe w f h.facts, (next.world, next.goes_on, next.fates, steps_beside setup (network_after s net) next.world limits next.beside steps does.1 keeps.1))

pub network_goes : (setup : Setup) (steps : List Step) → IsWithinLimits setup.params → AreSteps setup steps (new_network setup) → KeepsDuties setup steps (new_network setup) → GoesBeside setup steps (new_network setup) (first_world setup)
network_goes setup steps limits does keeps = steps_beside setup (new_network setup) (first_world setup) limits (network_begins setup) steps does keeps

-- what holds of given rows holds of the first of them
record Fronts (taken : List rows.Taken) (given : List Given) : Type 0 where
  rising : Rising 0 given
  facts : AllGivenFacts taken given
  joined : Joined None given

rising_front : (place : ℕ) (xs ys : List Given) → Rising place (xs ++ ys) → Rising place xs
rising_front place [] ys h = tt
rising_front place (x ∷ xs) ys h = (h.0, rising_front (suc x.place) xs ys h.1)

given_front : (taken : List rows.Taken) (xs ys : List Given) → AllGivenFacts taken (xs ++ ys) → AllGivenFacts taken xs
given_front taken [] ys h = tt
given_front taken (x ∷ xs) ys h = (h.0, given_front taken xs ys h.1)

fronts_of : (taken : List rows.Taken) (xs ys : List Given) → Fronts taken (xs ++ ys) → Fronts taken xs
fronts_of taken xs ys h = record { rising = rising_front 0 xs ys h.rising; facts = given_front taken xs ys h.facts; joined = joined_front None xs ys h.joined }

-- ALL THAT WAS TAKEN AND READ of a flow in some steps
pub record HasRead (setup : Setup) (steps : List Step) (net : Network) (w : World) (g : Flow) (joined : Bool) : Type 0 where
  pub last : World
  pub facts : WorldFacts last
  pub taken : List Item
  pub are_taken : AreTaken g steps taken
  pub items : items_taken last g ≡ items_taken w g ++ taken
  pub rows : List Given
  pub gone : rows_gone last g ≡ rows_gone w g ++ rows
  pub rise : (placed w g.to.0).life ≤ (placed last g.to.0).life
  pub beside : IsBeside setup (network_by steps net) last
  pub none_spent : AllFound steps → (IsSpentAt net g → ⊥) → IsSpentAt (network_by steps net) g → ⊥
  pub chosen : (life : ℕ) → (placed last g.to.0).life ≤ life → (AllFound steps × (IsSpentAt net g → ⊥)) ⊎ ((placed last g.to.0).life < life) → Chosen life joined rows (all_read g steps)
  pub booked : AllFound steps → (b : Book) → Booked w g b → Booked last g (book_of g steps net b)

-- memory that is found in all steps is found in the first, and in the others
memory_parts : (s : Step) (steps : List Step) (before after : Type 0) (first last life : ℕ) → first ≤ last → (FoundIn s → before → after) → (AllFound (s ∷ steps) × before) ⊎ (last < life) → (after ⊎ (first < life)) × ((AllFound steps × after) ⊎ (last < life))
memory_parts s steps before after first last life rise on (inl found) = (inl (on found.0.0 found.1), inl (found.0.1, on found.0.0 found.1))
memory_parts s steps before after first last life rise on (inr less) = (inr (omega arith), inr less)

new_unspent : (setup : Setup) (g : Flow) → IsSpentAt (new_network setup) g → ⊥
new_unspent setup g s =
    let b = begun setup setup.nodes g.to.0 s.reader s.there in
    let no : false ≡ true = ap (λ (x : EndpointValue). x.spent) b.is ∙ s.spent in
    absurd cc

pub steps_read : (setup : Setup) (net : Network) (w : World) → IsWithinLimits setup.params → IsBeside setup net w → (steps : List Step) → AreSteps setup steps net → KeepsDuties setup steps net → (g : Flow) (joined : Bool) → Sure net w g joined → HasRead setup steps net w g joined
steps_read setup net w limits h [] does keeps g joined sure =
    record { last = w; facts = h.facts; taken = []; are_taken = refl; items = sym (append-nil (items_taken w g)); rows = []; gone = sym (append-nil (rows_gone w g)); rise = omega arith; beside = h; none_spent = λ found unspent. unspent; chosen = λ life by memory. none; booked = λ found b was. was }
steps_read setup net w limits h (s ∷ steps) does keeps g joined sure =
    let next = step_beside setup net w (subst IsWithinLimits (sym h.params) limits) h s does.0 keeps.0 in
    let a = next.accounts g joined sure in
    let rest = steps_read setup (network_after s net) next.world limits next.beside steps does.1 keeps.1 g a.next a.sure in
    record {
      last = rest.last;
      facts = rest.facts;
      taken = a.taken ++ rest.taken;
      are_taken = (a.taken, rest.taken, a.takes_them, rest.are_taken, refl);
      items = rest.items ∙ ap (λ (is : List Item). is ++ rest.taken) a.items ∙ append_assoc (items_taken w g) a.taken rest.taken;
      rows = a.rows ++ rest.rows;
      gone = rest.gone ∙ ap (λ (rs : List Given). rs ++ rest.rows) a.gone ∙ append_assoc (rows_gone w g) a.rows rest.rows;
      rise = omega (arith, a.rise, rest.rise);
      beside = rest.beside;
      none_spent = λ found unspent. rest.none_spent found.1 (next.none_spent found.0 g unspent);
      chosen = λ life by memory.
          let parts = memory_parts s steps (IsSpentAt net g → ⊥) (IsSpentAt (network_after s net) g → ⊥) (placed next.world g.to.0).life (placed rest.last g.to.0).life life rest.rise (λ found unspent. next.none_spent found g unspent) memory in
          a.chosen life (omega (arith, rest.rise, by)) parts.0 rest.rows (all_read g steps) (rest.chosen life by parts.1);
      booked = λ found b was. rest.booked found.1 (book_after g s net b) (next.booked found.0 g b was);
    }

pub network_reads : (setup : Setup) (steps : List Step) (f : Flow) → IsWithinLimits setup.params → AreSteps setup steps (new_network setup) → KeepsDuties setup steps (new_network setup) → (taken : List Item) × AreTaken f steps taken × IsReadOf false (all_read f steps) taken
network_reads setup steps f limits does keeps =
    let w = first_world setup in
    let start : rows_gone w f ≡ [] = take-nil (length (ledger_of w.ledgers f).given - length (view w f).unread) in
    let r = steps_read setup (new_network setup) w limits (network_begins setup) steps does keeps f false (λ e. inl (inl start)) in
    let rows_are : rows_gone r.last f ≡ r.rows = r.gone ∙ ap (λ (rs : List Given). rs ++ r.rows) start in
    let taken_rows = (ledger_of r.last.ledgers f).taken in
    let given = (ledger_of r.last.ledgers f).given in
    let k = length given - length (view r.last f).unread in
    let facts = r.facts.flows f in
    let life = (placed r.last f.to.0).life + 1 in
    let fronts : Fronts taken_rows r.rows =
    subst (Fronts taken_rows) rows_are (fronts_of taken_rows (take k given) (drop k given) (subst (Fronts taken_rows) (sym (take-append-drop k given)) (record { rising = facts.receive_side.rising; facts = facts.receive_side.given_facts; joined = facts.read_side.joined }))) in
    (r.taken, r.are_taken, subst (λ (is : List Item). IsReadOf false (all_read f steps) is) r.items (read_of_taken life taken_rows None false r.rows (all_read f steps) fronts.rising fronts.facts fronts.joined (r.chosen life (omega arith) (inr (omega arith)))))

-- THE LEDGER THAT IS TOLD
not_spent : (b : Bool) → (b ≡ true → ⊥) → b ≡ false
not_spent true h = absurd (h refl)
not_spent false h = refl

pub network_tells : (setup : Setup) (steps : List Step) (f : Flow) → IsWithinLimits setup.params → AreSteps setup steps (new_network setup) → KeepsDuties setup steps (new_network setup) → AllFound steps → IsSafeBook f (network_by steps (new_network setup)) (book_of f steps (new_network setup) new_book) (all_read f steps)
network_tells setup steps f limits does keeps found =
    let w = first_world setup in
    let start : rows_gone w f ≡ [] = take-nil (length (ledger_of w.ledgers f).given - length (view w f).unread) in
    let r = steps_read setup (new_network setup) w limits (network_begins setup) steps does keeps f false (λ e. inl (inl start)) in
    let rows_are : rows_gone r.last f ≡ r.rows = r.gone ∙ ap (λ (rs : List Given). rs ++ r.rows) start in
    let b = book_of f steps (new_network setup) new_book in
    let was : Booked r.last f b = r.booked found new_book (new_booked setup f) in
    let given = (ledger_of r.last.ledgers f).given in
    let k = length given - length (view r.last f).unread in
    let reads_told = (ledger_of r.last.ledgers f).reads in
    let safe : SafeLedger (placed r.last f.from.0).life (map untimed (ledger_of r.last.ledgers f).taken) given reads_told = safe_untimed (placed r.last f.from.0).life (ledger_of r.last.ledgers f).taken given reads_told (facts_are_safe r.last f r.facts).ledger in
    record {
      given = given;
      accepted = was.given;
      reads = reads_told;
      safe = subst (λ (life : ℕ). SafeLedger life b.rows given reads_told) (was.lives f.from.0) (subst (λ (ts : List rows.Taken). SafeLedger (placed r.last f.from.0).life ts given reads_told) was.rows safe);
      gone = r.rows;
      unread = drop k given;
      split = sym (take-append-drop k given) ∙ ap (λ (rs : List Given). rs ++ drop k given) rows_are;
      chosen = subst (λ (life : ℕ). Chosen life false r.rows (all_read f steps)) (was.lives f.to.0) (r.chosen (placed r.last f.to.0).life (omega arith) (inl (found, new_unspent setup f)));
      unread_is = λ e there.
          let s = r.beside.endpoints f.to.0 e there in
          let unspent : e.spent ≡ false = not_spent e.spent (λ y. r.none_spent found (new_unspent setup f) (record { reader = e; there = there; spent = y })) in
          let seen : (view r.last f).unread ≡ (receiver_at s.at.station.host f).unread = ap (λ (a : Placed). (receiver_at a.station.host f).unread) (placed_is r.last f.to.0 s.at s.there r.facts) in
          sym (unread_end r.last f r.facts).items ∙ seen ∙ sym (ap (λ (st : Station (Unit {0})). (receiver_at st.host f).unread) (s.state unspent));
    }
