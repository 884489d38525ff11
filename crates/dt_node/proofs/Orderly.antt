-- What a station and a node do is in order.
use Rattle.std.proofs.Common.{◌≡◌, ◌⊎◌, if◌then◌else◌, ◌==◌, ℕ, zero, suc, Bool, true, false, nat_le, List, [], ◌∷◌, ◌++◌, length, map, Option, Some, None, Result, Ok, Err, refl, sym, ap, ◌∙◌, inl, inr}
use Rattle.std.proofs.lemmas.Bool.{false≢true}
use Rattle.dt_units.specs.declared.parameters.Params.{Params}
use Rattle.dt_units.specs.declared.endpoints.Flow.{Flow}
use Rattle.dt_items.specs.declared.piece.Piece.{Piece}
use Rattle.dt_items.specs.Unread.{marked, octets_of, piece_told}
use Rattle.dt_edges.specs.Wires.{Datagram}
use Rattle.dt_layout.specs.declared.faults.LayoutFault.{LayoutFault}
use Rattle.dt_layout.specs.Spelling.{PacketValue, Data, Ack, Meet, Close}
use Rattle.dt_layout.specs.Reading.{gram_in, packet_read, gram_fault}
use Rattle.dt_layout.specs.Carried.{to_of}
use Rattle.dt_reports.specs.Entries.{Entry}
use Rattle.dt_reports.specs.Told.{Told}
use Rattle.dt_reports.specs.declared.faults.Refusal.{Refusal}
use Rattle.dt_reports.specs.declared.reports.Report.TheVariants.{Unsent}
use Rattle.dt_flow_model.specs.declared.acts.SendAct.{SendAct}
use Rattle.dt_flow_model.specs.declared.acts.SendAct.TheVariants as A
use Rattle.dt_flow_model.specs.declared.acts.RecvAct.{RecvAct}
use Rattle.dt_flow_model.specs.declared.acts.RecvAct.TheVariants as T
use Rattle.dt_flow_model.specs.declared.arrivals.Arrived.{Arrived}
use Rattle.dt_flow_model.specs.declared.arrivals.Arrived.TheVariants as arrived
use Rattle.dt_flow_model.specs.Frames.{flow_of, reply_frame}
use Rattle.dt_flow_model.specs.SendActs.{told_of}
use Rattle.dt_flow_model.specs.ReceiveRecord.{recv_told_of}
use Rattle.dt_world_model.specs.declared.links.Entered.{Entered}
use Rattle.dt_world_model.specs.declared.links.Entered.TheVariants.{Queued, NoRoute, Full}
use Rattle.dt_world_model.specs.Host.{Host, HostAct, Offer, arrive, least, offers, read_octets, receiver_at, recv_act, send_act, send_octets, told_arrival, told_recv, told_send, turn_of, work}
use Rattle.dt_world_model.specs.Relay.{Expired, Goes, Left, Out, Parcel, Relay, admit, enter, leave, with_outs}
use Rattle.dt_world_model.specs.Script.{Script, Done, Tell, Ask, Hand, ◌>>=◌}
use Rattle.dt_world_model.specs.Station.{Arrive, Event, Read, Send, Station, Tick, come, come_in, deliver, do_turns, flush, flush_at, flush_entered, flush_links, flush_on, flush_turns, go_on, happen, pass_on, send_off, settle_station, station_event, station_with, told_piece, told_sent}
use Rattle.dt_world_model.proofs.Offers.{turn_if}
use Rattle.dt_shelf.specs.declared.taken.Taken.{Taken}
use Rattle.dt_shelf.specs.declared.taken.Taken.TheVariants as taken
use Rattle.dt_shelf.specs.Shelves.{Shelf, held_packet, hold, take_held}
use Rattle.dt_world_laws.proofs.Plays.{do_turn, link_of}
use Rattle.dt_node.specs.declared.watch.Watch.{Watch}
use Rattle.dt_node.specs.Acts.{Act, Deed, Says, Gives, act_of, acts_of, answer_of, entry, log_lines, node_lines}
use Rattle.dt_script.specs.Drafts.{has_link}
use Rattle.dt_node.specs.InOrder.{InOrder, Orderly, UnsentInOrder, is_unsent, link_put, without_unsent}
use Rattle.dt_script.specs.Orders.{Command, Orders}
use Rattle.dt_turn.specs.Nodes.{Node, node_with, first_node}
use Rattle.dt_node.specs.Runs.{Run, after_turn, turn_then, run_from, node_run, first_watch, next_watch, moment, most_equal, ends, ends_at, Ending, Stopped, Unfinished, StoodStill}
use Rattle.dt_turn.specs.declared.packet_answers.PacketAnswer.{PacketAnswer}
use Rattle.dt_turn.specs.declared.packet_answers.PacketAnswer.TheVariants as heard
use Rattle.dt_turn.specs.Hearing.{heard_in}
use Rattle.dt_turn.specs.Shelving.{Round, arrive as arrives, early_number, fetch, fetch_on, fetch_turns, first_round, hold_if, inside, plain, round, round_with, rounds, rounds_on, told_held, use_shelf}
use Rattle.dt_turn.specs.Turns.{comes, hand_in, event_of, do_due, finish, turn}

abbrev Any : {A : Type 0} → Script (Unit {0}) A → Type 0
Any s = (before : Option ℕ) → Orderly before s

then_in_order : {A B : Type 0} (s : Script (Unit {0}) A) (k : A → Script (Unit {0}) B) (before : Option ℕ) → Orderly before s → ((a : A) → Any (k a)) → Orderly before (s >>= k)
then_in_order (Done a) k before h g = g a before
then_in_order (Tell told s) k before h g = (h.0, then_in_order s k (link_put told) h.1 g)
then_in_order (Ask host octets s) k before h g = then_in_order (s tt) k before h g
then_in_order (Hand link parcel s) k before h g = (h.0, then_in_order s k None h.1 g)

any_then : {A B : Type 0} (s : Script (Unit {0}) A) (k : A → Script (Unit {0}) B) → Any s → ((a : A) → Any (k a)) → Any (s >>= k)
any_then s k h g before = then_in_order s k before (h before) g

any_if : {A : Type 0} (b : Bool) (s t : Script (Unit {0}) A) → Any s → Any t → Any (if b then s else t)
any_if true s t h g = h
any_if false s t h g = g

-- A STATION

flush_on_any : (again : Out (Unit {0}) → Script (Unit {0}) (Out (Unit {0}))) → ((out : Out (Unit {0})) → Any (again out)) → (r : Option (Left (Unit {0}))) (out : Out (Unit {0})) → Any (flush_on again (r, out))
flush_on_any again h None out = λ before. tt
flush_on_any again h (Some Expired) out = λ before. (refl, h out None)
flush_on_any again h (Some (Goes parcel)) out = λ before. (refl, (refl, h out None))

flush_turns_any : (most now : ℕ) (out : Out (Unit {0})) → Any (flush_turns most now out)
flush_turns_any zero now out = λ before. tt
flush_turns_any (suc most) now out = flush_on_any (flush_turns most now) (flush_turns_any most now) (leave now out).0 (leave now out).1

flush_at_any : (link now : ℕ) (outs : List (Out (Unit {0}))) → Any (flush_at link now outs)
flush_at_any link now [] = λ before. tt
flush_at_any link now (out ∷ outs) =
    any_if (out.link == link) _ _
    (any_then (flush now out) (λ after. Done (after ∷ outs)) (flush_turns_any (length out.waits) now out) (λ r before. tt))
    (any_then (flush_at link now outs) (λ rest. Done (out ∷ rest)) (flush_at_any link now outs) (λ rest before. tt))

flush_links_any : (now : ℕ) (links : List ℕ) (outs : List (Out (Unit {0}))) → Any (flush_links now links outs)
flush_links_any now [] outs = λ before. tt
flush_links_any now (link ∷ links) outs = any_then (flush_at link now outs) (λ rest. flush_links now links rest) (flush_at_any link now outs) (λ rest. flush_links_any now links rest)

flush_entered_any : (now : ℕ) (entered : Entered) (relay : Relay (Unit {0})) → Any (flush_entered now (entered, relay))
flush_entered_any now (Queued link) relay = any_then (flush_at link now relay.outs) (λ outs. Done (with_outs relay outs)) (flush_at_any link now relay.outs) (λ outs before. tt)
flush_entered_any now (NoRoute to) relay = λ before. (refl, tt)
flush_entered_any now (Full link) relay = λ before. (refl, tt)

pass_on_any : (parcel : Parcel (Unit {0})) (now : ℕ) (relay : Relay (Unit {0})) → Any (pass_on parcel now relay)
pass_on_any parcel now relay = flush_entered_any now (enter parcel now relay).0 (enter parcel now relay).1

send_off_any : (now : ℕ) (host : Host) (frame : Option (List ℕ)) (relay : Relay (Unit {0})) → Any (send_off now host frame relay)
send_off_any now host None relay = λ before. tt
send_off_any now host (Some octets) relay = λ before. any_then (pass_on (plain octets) now relay) (λ after. Done (station_with host after)) (pass_on_any (plain octets) now relay) (λ after before. tt) before

-- a line after which no frame stands
after_line : {A : Type 0} (told : Told) (s : Script (Unit {0}) A) → is_unsent told ≡ false → Any s → Any (Tell told s)
after_line told s e h before = (e, h (link_put told))

send_quiet : (f : Flow) (act : SendAct) → is_unsent (told_send f act) ≡ false
send_quiet f (A.GaveUp count) = refl
send_quiet f A.Released = refl
send_quiet f A.Renewed = refl
send_quiet f (A.Resent cut) = refl
send_quiet f (A.Sent cut) = refl
send_quiet f (A.Met number) = refl

recv_quiet : (f : Flow) (act : RecvAct) → is_unsent (told_recv f act) ≡ false
recv_quiet f T.Released = refl
recv_quiet f (T.Acked number window) = refl

turn_quiet : (p : Params) (now : ℕ) (host : Host) (act : HostAct) → is_unsent (turn_of p now host act).told ≡ false
turn_quiet p now host (send_act f x act) = send_quiet f (told_of p x act)
turn_quiet p now host (recv_act f y kind) = recv_quiet f (recv_told_of p (receiver_at host f).unread y kind)

go_on_any : (again : Station (Unit {0}) → Script (Unit {0}) (Station (Unit {0}))) (p : Params) (now : ℕ) (host : Host) (o : Option Offer) (station : Station (Unit {0})) → ((s : Station (Unit {0})) → Any (again s)) → Any (go_on again now (turn_if p now host o) station)
go_on_any again p now host None station h = λ before. tt
go_on_any again p now host (Some o) station h =
    let t = turn_of p now host o.act in
    any_then (do_turn now t station.relay) again (after_line t.told (send_off now t.host t.frame station.relay) (turn_quiet p now host o.act) (send_off_any now t.host t.frame station.relay)) h

do_turns_any : (most : ℕ) (p : Params) (now : ℕ) (station : Station (Unit {0})) → Any (do_turns most p now station)
do_turns_any zero p now station = λ before. tt
do_turns_any (suc most) p now station = go_on_any (do_turns most p now) p now station.host (least (offers p now station.host)) station (λ s. do_turns_any most p now s)

settle_any : (p : Params) (now : ℕ) (station : Station (Unit {0})) → Any (settle_station p now station)
settle_any p now station =
    any_then (flush_links now (map link_of station.relay.outs) station.relay.outs) (λ outs. do_turns (work p now station.host) p now (station_with station.host (with_outs station.relay outs)))
    (flush_links_any now (map link_of station.relay.outs) station.relay.outs) (λ outs. do_turns_any (work p now station.host) p now (station_with station.host (with_outs station.relay outs)))

sent_quiet : (f : Flow) (count : ℕ) (r : Option Refusal) → is_unsent (told_sent f count r) ≡ false
sent_quiet f count None = refl
sent_quiet f count (Some fault) = refl

read_quiet : (f : Flow) (octets : List ℕ) (r : Option Piece) → is_unsent (told_piece f octets r) ≡ false
read_quiet f octets None = refl
read_quiet f octets (Some piece) = refl

arrival_quiet : (f : Flow) (v : PacketValue) (r : Arrived) → is_unsent (told_arrival f v r) ≡ false
arrival_quiet f v (arrived.Quiet until) = refl
arrival_quiet f v (arrived.Accepted run count) = refl
arrival_quiet f v (arrived.Replied number window) = refl
arrival_quiet f v (arrived.Acked count) = refl
arrival_quiet f v (arrived.Closing number) = refl
arrival_quiet f (Data from_port to_port number drf begin end octets) arrived.Dropped = refl
arrival_quiet f (Ack from_port to_port number window) arrived.Dropped = refl
arrival_quiet f (Meet from_port to_port number) arrived.Dropped = refl
arrival_quiet f (Close from_port to_port number) arrived.Dropped = refl

deliver_any : (p : Params) (now from : ℕ) (r : Result PacketValue LayoutFault) (station : Station (Unit {0})) → Any (deliver p now from r station)
deliver_any p now from (Err fault) station = λ before. (refl, tt)
deliver_any p now from (Ok v) station =
    let f = flow_of from station.host.me v in
    let r = arrive p now from v station.host in
    after_line (told_arrival f v r.0) (send_off now r.1 (reply_frame p f r.0) station.relay) (arrival_quiet f v r.0) (send_off_any now r.1 (reply_frame p f r.0) station.relay)

come_any : (p : Params) (now : ℕ) (mine : Bool) (parcel : Parcel (Unit {0})) (station : Station (Unit {0})) → Any (come p now mine parcel station)
come_any p now true parcel station = deliver_any p now (gram_in parcel.octets).from (packet_read (gram_in parcel.octets)) station
come_any p now false parcel station = any_then (pass_on parcel now station.relay) (λ relay. Done (station_with station.host relay)) (pass_on_any parcel now station.relay) (λ relay before. tt)

come_in_any : (p : Params) (now link : ℕ) (parcel : Option (Parcel (Unit {0}))) (station : Station (Unit {0})) → Any (come_in p now link parcel station)
come_in_any p now link None station = λ before. (refl, tt)
come_in_any p now link (Some parcel) station = come_any p now (to_of parcel.octets == station.host.me) parcel station

happen_any : (p : Params) (now : ℕ) (e : Event (Unit {0})) (station : Station (Unit {0})) → Any (happen p now e station)
happen_any p now Tick station = λ before. tt
happen_any p now (Send f octets begin end) station = λ before. (sent_quiet f _ (send_octets p now f (marked octets begin end false) station.host).0, tt)
happen_any p now (Read f most) station = λ before. let r = read_octets p now f most station.host in (read_quiet f (octets_of r.0) (piece_told r.0), tt)
happen_any p now (Arrive link parcel) station = come_in_any p now link (admit link parcel station.relay) station

event_any : (p : Params) (now : ℕ) (e : Event (Unit {0})) (station : Station (Unit {0})) → Any (station_event p now e station)
event_any p now e station =
    any_then (settle_station p now station) (λ before. happen p now e before >>= λ after. settle_station p now after) (settle_any p now station)
    (λ before. any_then (happen p now e before) (λ after. settle_station p now after) (happen_any p now e before) (λ after. settle_any p now after))

-- A NODE

held_quiet : (flow : Flow) (number : ℕ) (room : Bool) → is_unsent (told_held flow number room) ≡ false
held_quiet flow number true = refl
held_quiet flow number false = refl

hold_any : (now : ℕ) (d : Datagram) (flow : Flow) (number : Option ℕ) (shelf : Shelf) → Any (hold_if now d flow number shelf)
hold_any now d flow None shelf = λ before. tt
hold_any now d flow (Some number) shelf = λ before. (held_quiet flow number (hold (held_packet d.link flow number d.octets now) shelf).0, tt)

fetch_on_any : (again : Shelf → Script (Unit {0}) (Option Datagram × Shelf)) → ((shelf : Shelf) → Any (again shelf)) → (flow : Flow) (number : ℕ) (t : Option Taken) (shelf : Shelf) → Any (fetch_on again flow number (t, shelf))
fetch_on_any again h flow number None shelf = λ before. tt
fetch_on_any again h flow number (Some taken.Stale) shelf = λ before. (refl, h shelf None)
fetch_on_any again h flow number (Some (taken.Again link octets)) shelf = λ before. (refl, tt)

fetch_any : (most : ℕ) (flow : Flow) (number now : ℕ) (shelf : Shelf) → Any (fetch_turns most flow number now shelf)
fetch_any zero flow number now shelf = λ before. tt
fetch_any (suc most) flow number now shelf =
    let r = take_held flow number now shelf in
    fetch_on_any (fetch_turns most flow number now) (fetch_any most flow number now) flow number r.0 r.1

use_any : (now : ℕ) (d : Datagram) (h : PacketAnswer) (station : Station (Unit {0})) (shelf : Shelf) → Any (use_shelf now d h station shelf)
use_any now d heard.Nothing station shelf = λ before. tt
use_any now d (heard.Refused flow replied) station shelf = any_then (hold_if now d flow (early_number replied d.octets) shelf) (λ after. Done (round_with station after None)) (hold_any now d flow (early_number replied d.octets) shelf) (λ after before. tt)
use_any now d (heard.Accepted flow next) station shelf = any_then (fetch flow next now shelf) (λ r. Done (round_with station r.1 r.0)) (fetch_any (length shelf.held) flow next now shelf) (λ r before. tt)

round_any : (p : Params) (now : ℕ) (d : Datagram) (station : Station (Unit {0})) (shelf : Shelf) → Any (round p now d station shelf)
round_any p now d station shelf =
    let event = station_event p now (Arrive d.link (plain d.octets)) station in
    let h = heard_in event heard.Nothing in
    any_then event (λ after. use_shelf now d h after shelf) (event_any p now (Arrive d.link (plain d.octets)) station) (λ after. use_any now d h after shelf)

rounds_on_any : (again : Round → Script (Unit {0}) Round) → ((r : Round) → Any (again r)) → (p : Params) (now : ℕ) (d : Option Datagram) (r : Round) → Any (rounds_on again p now d r)
rounds_on_any again h p now None r = λ before. tt
rounds_on_any again h p now (Some d) r = any_then (round p now d r.station r.shelf) again (round_any p now d r.station r.shelf) h

rounds_any : (most : ℕ) (p : Params) (now : ℕ) (r : Round) → Any (rounds most p now r)
rounds_any zero p now r = λ before. tt
rounds_any (suc most) p now r = rounds_on_any (rounds most p now) (rounds_any most p now) p now r.next r

arrive_any : (p : Params) (now : ℕ) (d : Datagram) (station : Station (Unit {0})) (shelf : Option Shelf) → Any (arrives p now d station shelf)
arrive_any p now d station None = any_then (station_event p now (Arrive d.link (plain d.octets)) station) (λ after. Done (inside after None)) (event_any p now (Arrive d.link (plain d.octets)) station) (λ after before. tt)
arrive_any p now d station (Some shelf) = any_then (rounds (suc (length shelf.held)) p now (first_round d station shelf)) (λ r. Done (inside r.station (Some r.shelf))) (rounds_any (suc (length shelf.held)) p now (first_round d station shelf)) (λ r before. tt)

comes_any : (p : Params) (now : ℕ) (d : Datagram) (o : Option LayoutFault) (station : Station (Unit {0})) (shelf : Option Shelf) → Any (comes p now d o station shelf)
comes_any p now d None station shelf = arrive_any p now d station shelf
comes_any p now d (Some fault) station shelf = λ before. (refl, tt)

hand_in_any : (p : Params) (now : ℕ) (came : Option Datagram) (station : Station (Unit {0})) (shelf : Option Shelf) → Any (hand_in p now came station shelf)
hand_in_any p now None station shelf = λ before. tt
hand_in_any p now (Some d) station shelf = any_if (has_link d.link station.relay.ins) _ _ (comes_any p now d (gram_fault d.octets) station shelf) (λ before. tt)

do_due_any : (p : Params) (now : ℕ) (shelf : Option Shelf) (cs : List Command) (station : Station (Unit {0})) → Any (do_due p now shelf cs station)
do_due_any p now shelf [] station = λ before. tt
do_due_any p now shelf (c ∷ cs) station =
    any_if (nat_le c.at now) _ _
    (any_then (station_event p now (event_of c.task) station) (λ after. do_due p now shelf cs after) (event_any p now (event_of c.task) station) (λ after. do_due_any p now shelf cs after))
    (λ before. tt)

finish_any : (o : Orders) (now : ℕ) (node : Node) → Any (finish o now node)
finish_any o now node =
    any_if (nat_le o.stop now) _ _ (λ before. (refl, tt))
    (any_then (station_event o.setup.params now Tick node.station) (λ after. Done (Some (node_with after node.commands node.shelf))) (event_any o.setup.params now Tick node.station) (λ after before. tt))

turn_any : (o : Orders) (now : ℕ) (came : Option Datagram) (node : Node) → Any (turn o now came node)
turn_any o now came node =
    any_then (hand_in o.setup.params now came node.station node.shelf) (λ r. do_due o.setup.params now r.1 node.commands r.0 >>= λ done. finish o now done) (hand_in_any o.setup.params now came node.station node.shelf)
    (λ r. any_then (do_due o.setup.params now r.1 node.commands r.0) (λ done. finish o now done) (do_due_any o.setup.params now r.1 node.commands r.0) (λ done. finish_any o now done))

-- ITS ACTS

acts_then : {A : Type 0} (now : ℕ) (s : Script (Unit {0}) A) (before : Option ℕ) (more : List Act) → Orderly before s → ((b : Option ℕ) → InOrder b more) → InOrder before (acts_of now s ++ more)
acts_then now (Done a) before more h g = g before
acts_then now (Tell told s) before more h g = (h.0, acts_then now s (link_put told) more h.1 g)
acts_then now (Ask host octets s) before more h g = acts_then now (s tt) before more h g
acts_then now (Hand link parcel s) before more h g = (h.0, acts_then now s None more h.1 g)

ends_in_order : (rs : List ℕ) (ts : List (Option Datagram)) (e : Ending) (b : Option ℕ) → InOrder b (ends_at rs ts e).acts
ends_in_order [] [] e b = tt
ends_in_order [] (t ∷ ts) e b = tt
ends_in_order (r ∷ rs) ts e b = tt

after_in_order : (watch : Watch) (answer : Option Node) (rs : List ℕ) (takes : List (Option Datagram)) (next : Option Datagram → Node → List (Option Datagram) → Run) → ((t : Option Datagram) (n : Node) (ts : List (Option Datagram)) (b : Option ℕ) → InOrder b (next t n ts).acts) → (b : Option ℕ) → InOrder b (after_turn watch answer rs takes next).acts
after_in_order watch None rs takes next h b = ends_in_order rs takes Stopped b
after_in_order watch (Some node) rs [] next h b = ends_in_order rs [] Unfinished b
after_in_order watch (Some node) rs (t ∷ ts) next h b =
    elim (watch.equal == most_equal) as (λ (x : Bool). InOrder b (if x then ends_at rs ts StoodStill else next t node ts).acts) [ true ↦ ends_in_order rs ts StoodStill b | false ↦ h t node ts b ]

then_in : (o : Orders) (watch : Watch) (came : Option Datagram) (node : Node) (rs : List ℕ) (takes : List (Option Datagram)) (next : Option Datagram → Node → List (Option Datagram) → Run) → ((t : Option Datagram) (n : Node) (ts : List (Option Datagram)) (b : Option ℕ) → InOrder b (next t n ts).acts) → (b : Option ℕ) → InOrder b (turn_then o watch came node rs takes next).acts
then_in o watch came node rs takes next h b =
    let script = turn o (moment watch) came node in
    acts_then (moment watch) script b (after_turn watch (answer_of script) rs takes next).acts (turn_any o (moment watch) came node b) (after_in_order watch (answer_of script) rs takes next h)

run_in_order : (o : Orders) (watch : Watch) (came : Option Datagram) (node : Node) (rs : List ℕ) (takes : List (Option Datagram)) (b : Option ℕ) → InOrder b (run_from o watch came node rs takes).acts
unfolding run_from
run_in_order o watch came node [] takes b = then_in o watch came node [] takes (λ t n ts. ends Unfinished) (λ t n ts b. tt) b
run_in_order o watch came node (r ∷ rs) takes b = then_in o watch came node (r ∷ rs) takes (λ t n ts. run_from o (next_watch r watch) t n rs ts) (λ t n ts b. run_in_order o (next_watch r watch) t n rs ts b) b

pub node_in_order : (o : Orders) (rs : List ℕ) (takes : List (Option Datagram)) → InOrder None (node_run o rs takes).acts
unfolding node_run
node_in_order o [] takes = tt
node_in_order o (r ∷ rs) takes = run_in_order o (first_watch r) None (first_node o) rs takes None

-- AN UNSENT LINE stands in the place of a frame, and so after the `put` line of its link
unsent_told : (told : Told) (link : ℕ) → is_unsent told ≡ false → told ≡ Unsent link → ⊥
unsent_told told link quiet e = false≢true (sym quiet ∙ ap is_unsent e)

pub unsent_in_order : (me : ℕ) (deeds : List Deed) (before line : Option ℕ) → InOrder before (map act_of deeds) → (before ≡ line) ⊎ (before ≡ None) → UnsentInOrder line (log_lines me deeds)
unsent_in_order me [] before line h s = tt
unsent_in_order me (Says moment told ∷ deeds) before line h s = ((λ link e. absurd (unsent_told told link h.0 e)), unsent_in_order me deeds (link_put told) (link_put told) h.1 (inl refl))
unsent_in_order me (Gives moment link octets true ∷ deeds) before line h (inl same) = ((λ k e. let there : link ≡ k = cc in sym same ∙ h.0 ∙ ap Some there), unsent_in_order me deeds None None h.1 (inl refl))
unsent_in_order me (Gives moment link octets true ∷ deeds) before line h (inr none) = let there : None ≡ Some link = sym none ∙ h.0 in absurd cc
unsent_in_order me (Gives moment link octets false ∷ deeds) before line h s = unsent_in_order me deeds None line h.1 (inr refl)

-- WITHOUT THE UNSENT LINES

keeps_line : (me moment : ℕ) (told : Told) (rest : List Entry) → is_unsent told ≡ false → without_unsent (entry me moment told ∷ rest) ≡ entry me moment told ∷ without_unsent rest
keeps_line me moment told rest e = rw e refl

pub unsent_apart : (me : ℕ) (deeds : List Deed) (before : Option ℕ) → InOrder before (map act_of deeds) → without_unsent (log_lines me deeds) ≡ node_lines me (map act_of deeds)
unsent_apart me [] before h = refl
unsent_apart me (Says moment told ∷ deeds) before h = keeps_line me moment told (log_lines me deeds) h.0 ∙ ap (λ (es : List Entry). entry me moment told ∷ es) (unsent_apart me deeds (link_put told) h.1)
unsent_apart me (Gives moment link octets true ∷ deeds) before h = unsent_apart me deeds None h.1
unsent_apart me (Gives moment link octets false ∷ deeds) before h = unsent_apart me deeds None h.1
