use Rattle.std.proofs.Common.{rules, ◌≡◌, ◌<◌, ◌≤◌, ◌==◌, ◌∙◌, ℕ, Bool, true, false, List, length, Option, None, Some, Result, Ok, Err, refl, sym, ap, subst, arith}
use Rattle.std.proofs.lemmas.Bool.{eq-eqb}
use Rattle.std.specs.Option.{IfSome}
use Rattle.dt_fold.specs.declared.stops.Stop.{Stop}
use Rattle.dt_fold.specs.declared.stops.Stop.TheVariants as stops
use Rattle.dt_edges.specs.Wires.{Datagram, HasWaited, OpensOne, TakesOne, WireSight, handed}
use Rattle.dt_edges.specs.declared.addresses.Peer.{Peer}
use Rattle.dt_edges.specs.declared.failures.Failed.{Failed}
use Rattle.dt_trace.specs.Inputs.{FailedTake, Input, Reading, Taken as Found}
use Rattle.dt_trace.specs.Standing.{HasFound}
use Rattle.dt_trace.specs.Written.{input_written}
use Rattle.dt_trace.specs.Lines.{most_taken}
use Rattle.dt_world_model.specs.Station.{station_wake}
use Rattle.dt_edges.specs.Counts.{HasRisen}
use Rattle.dt_edges.specs.Sinks.{SinkSight}
use Rattle.dt_fold.specs.Logging.{HasAll, HasPart}
use Rattle.dt_turn.specs.Turns.{turn}
use Rattle.dt_node.specs.Logging.{NotesBehind, NotesFault, noted_text}
use Rattle.dt_turn.proofs.Readying.{ready_later, not_equal}
use Rattle.dt_node.specs.declared.output_forms.OutputForm.{OutputForm}
use Rattle.dt_node.specs.declared.recorders.Writer.{Writer}
use Rattle.dt_node.specs.declared.watch.Watch.{Watch}
use Rattle.dt_script.specs.Orders.{Orders}
use Rattle.dt_turn.specs.Nodes.{Node, first_node}
use Rattle.dt_script.specs.Codes.{orders_seen}
use Rattle.dt_turn.specs.Codes.{IsReady, arrived, left_of, node_seen}
use Rattle.dt_node.specs.TurnScripts.{turned}
use Rattle.dt_node.specs.Runs.{moment, most_equal, next_moment, next_watch, wait_until, wakes_by}
use Rattle.dt_node.specs.Deeds.{Scene, TurnEnds, scene}
use Rattle.dt_node.specs.declared.outcomes.NodeOutcome.TheVariants.{WriteFault}
use Rattle.dt_node.specs.Serving.{Edges, Serves, edges}
use Rattle.dt_node.specs.Waiting.{pause_of, wait_in}
use Rattle.dt_node.proofs.Waited.{asked_wait}
use Rattle.dt_node.proofs.Watching.{IsWell, goes_on, first_well}
use Rattle.dt_node.proofs.Served.{Going, Noted, Passed, edges_of, noted_take, scene_of, going_first, passed_by, going_on}
use Rattle.dt_node.proofs.Endings.{answer_by, serve_done, serve_still, serve_stopped, serve_take_write, noted_err, noted_ok, unopened_ends, untaken_ends}
use Rattle.dt_node.proofs.running.run_turns.Given.{Over}
use Rattle.dt_node.proofs.running.run_turns.Goals.{After-take_turn}
use Rattle.dt_node.proofs.running.run_turns.Goals as goal

-- THE TURN THAT WAS TAKEN: how it stood before all turns and before this one, and what this one left
module _ (g : Over) (c : After-take_turn g) where
  abbrev form : OutputForm
  form = c.args.run.now.recorder.writer.form

  abbrev orders : Orders
  orders = orders_seen c.args.orders.now

  abbrev first : Edges
  first = edges (g.W.Wire.sight c.args.wire.now) (g.C.Clock.sight c.args.clock.now) (g.K.Sink.sight c.args.out.now)

  abbrev before : Edges
  before = edges (g.W.Wire.sight c.turns.wire) (g.C.Clock.sight c.turns.clock) (g.K.Sink.sight c.turns.out)

  abbrev left : Scene
  left = scene c.take_turn.new.self.recorder.writer.gives (g.W.Wire.sight c.take_turn.new.wire) (g.K.Sink.sight c.take_turn.new.out)

  abbrev after : Node
  after = node_seen c.args.orders.now c.take_turn.new.self.node

  abbrev Ends : Result Bool Stop → OutputForm → Option Datagram → Type 0
  Ends r f came =
      let now = c.moment-moment.result in
      TurnEnds r f orders.setup.me now (noted_text f (Reading c.turns.reading)) (turn orders now came (node_seen c.args.orders.now c.turns.run.node)) (turned r after) (scene_of c.turns.run.recorder.writer.gives before) left

  -- its call speaks of the form that is written now, and of the datagram as it was lent
  abbrev Ended : Result Bool Stop → Type 0
  Ended r = Ends r c.turns.run.recorder.writer.form (arrived c.datagram_of-arrival.result)

  ends : (r : Result Bool Stop) → Ended r → Ends r form (handed c.turns.came c.turns.octets)
  ends r h = subst (λ (d : Option Datagram). Ends r form d) c.datagram_of-arrival.ensures (subst (λ (f : OutputForm). Ends r f (arrived c.datagram_of-arrival.result)) c.turns.invariant.form h)

  -- it was played whole
  passed : (stopped now : Bool) → stopped ≡ now → Ended (Ok stopped) → Passed form orders first left.gives c.turns.watch (turned (Ok now) after) (edges_of left before.clock)
  passed stopped now e h =
      subst (λ (x : Bool). Passed form orders first left.gives c.turns.watch (turned (Ok x) after) (edges_of left before.clock)) e
      (passed_by form orders first c.turns.reading c.turns.run.recorder.writer.gives c.turns.watch (handed c.turns.came c.turns.octets) (node_seen c.args.orders.now c.turns.run.node) before left c.moment-moment.result (turned (Ok stopped) after) stopped c.moment-moment.ensures c.turns.invariant.going (ends (Ok stopped) h))

  -- or it stopped
  stops_by : (stop : Stop) → Ended (Err stop) → Serves form orders (answer_by stop) first (edges_of left before.clock)
  stops_by stop h =
      serve_stopped form orders first stop c.turns.reading c.turns.run.recorder.writer.gives c.turns.watch (handed c.turns.came c.turns.octets) (node_seen c.args.orders.now c.turns.run.node) before left c.moment-moment.result (turned (Err stop) after) c.moment-moment.ensures c.turns.invariant.going (ends (Err stop) h)

  -- IT GOES ON
  record Went : Type 0 where
    goes : Passed form orders first left.gives c.turns.watch (Some after) (edges_of left before.clock)
    same : c.take_turn.new.self.recorder.writer.form ≡ form
    asks : (wait : ℕ) → wait ≡ wait_until (wakes_by (station_wake c.take_turn.new.self.node.io.station.rules c.take_turn.new.self.node.io.station.state) (next_moment c.args.orders.now.stop (left_of c.args.orders.now c.take_turn.new.self.node.next))) c.moment-moment.result → wait ≡ wait_in (pause_of orders c.turns.watch after)

  went : (stopped : Bool) → stopped ≡ false → Ended (Ok stopped) → c.take_turn.new.self.recorder.writer.form ≡ c.turns.run.recorder.writer.form → IsReady c.args.orders.now c.moment-moment.result c.take_turn.new.self.node → Went
  went stopped e h same ready = record {
    goes = passed stopped false e h;
    same = same ∙ c.turns.invariant.form;
    asks = λ wait is. asked_wait c.args.orders.now c.take_turn.new.self.node c.turns.watch c.moment-moment.result wait ready.rules c.moment-moment.ensures is;
  }

  -- and what its take found is written, or not
  module _ (w : Went) (wait room : ℕ) (v : WireSight) (found : Option Datagram) (input : Input) (z : SinkSight) (size : room ≡ most_taken) (takes : TakesOne room found left.wire v) (waited : HasWaited wait v) (is : wait ≡ wait_in (pause_of orders c.turns.watch after)) (says : input ≡ Found found) (fits : HasFound found) where
    took : TakesOne most_taken found left.wire v
    took = subst (λ (k : ℕ). TakesOne k found left.wire v) size takes

    in_form : {T E : Type 0} (r : Result T E) → NotesBehind c.take_turn.new.self.recorder.writer.form input r (g.K.Sink.sight c.take_turn.new.out) z → NotesBehind form (Found found) r (g.K.Sink.sight c.take_turn.new.out) z
    in_form r h =
        subst (λ (f : OutputForm). NotesBehind f (Found found) r (g.K.Sink.sight c.take_turn.new.out) z) w.same
        (subst (λ (i : Input). NotesBehind c.take_turn.new.self.recorder.writer.form i r (g.K.Sink.sight c.take_turn.new.out) z) says h)

    written : NotesBehind {T = Unit {0}} {E = Failed} c.take_turn.new.self.recorder.writer.form input (Ok tt) (g.K.Sink.sight c.take_turn.new.out) z → Noted form orders first left.gives c.turns.watch after found (edges v before.clock z)
    written h =
        let put : HasAll (noted_text form (Found found)) (g.K.Sink.sight c.take_turn.new.out) z × (z.faults ≡ left.faults) = noted_ok Failed form (Found found) tt (g.K.Sink.sight c.take_turn.new.out) z (in_form (Ok tt) h) in
        noted_take form orders first left.gives c.turns.watch after (edges_of left before.clock) found v z.held z.faults wait fits put.0 put.1 w.goes took waited is

    unwritten : (fault : Failed) → NotesBehind {T = Unit {0}} {E = Failed} c.take_turn.new.self.recorder.writer.form input (Err fault) (g.K.Sink.sight c.take_turn.new.out) z → Serves form orders WriteFault first (edges v before.clock z)
    unwritten fault h =
        let put : HasPart (noted_text form (Found found)) (g.K.Sink.sight c.take_turn.new.out) z × HasRisen left.faults z.faults = noted_err (Unit {0}) form (Found found) fault (g.K.Sink.sight c.take_turn.new.out) z (in_form (Err fault) h) in
        serve_take_write form orders first left.gives c.turns.watch after (edges_of left before.clock) found v z.held z.faults wait fits w.goes took waited is put.0 put.1

pub returns-in-Err-clause-serves : goal.returns-in-Err-clause-serves
returns-in-Err-clause-serves g c =
    let sight = g.W.Wire.sight in
    unopened_ends c.args.run.now.recorder.writer.form (orders_seen c.args.orders.now) (sight c.args.wire.now) (sight c.open.new.self) (g.C.Clock.sight c.args.clock.now) (g.K.Sink.sight c.args.out.now) (g.K.Sink.sight c.fail.new.out) c.fail.result
    c.in-Err.ensures.failed c.fail.ensures.notes

pub turns-init : goal.turns-init
turns-init g c =
    let sight = g.W.Wire.sight in
    let form = c.args.run.now.recorder.writer.form in
    let o = orders_seen c.args.orders.now in
    let b = edges (sight c.args.wire.now) (g.C.Clock.sight c.args.clock.now) (g.K.Sink.sight c.args.out.now) in
    let n = edges (sight c.open.new.self) (g.C.Clock.sight c.now-reading.new.self) (g.K.Sink.sight c.args.out.now) in
    let r = c.now-reading.result in
    let opens = subst (λ (xs : List Peer). OpensOne (record { local = o.setup.local; peers = xs }) b.wire n.wire) c.deref.ensures.value c.in_default.ensures.opened in
    let first = going_first form o b n.wire r n.clock (omega (arith, c.now-reading.type_inv)) c.requires.good.stop opens c.now-reading.ensures in
    let watched = subst (λ (w : Watch). Going form o b r 0 w None (first_node o) n) (sym c.start-watch.ensures) first in
    let counted = subst (λ (gives : ℕ). Going form o b r gives c.start-watch.result None (first_node o) n) (sym c.requires.new) watched in
    let zero : 0 ≤ moment c.start-watch.result = omega arith in
    record {
      going = subst (λ (x : Node). Going form o b r c.args.run.now.recorder.writer.gives c.start-watch.result None x n) (sym c.requires.first) counted;
      well = subst IsWell (sym c.start-watch.ensures) (first_well r);
      ready = ready_later c.args.orders.now c.args.run.now.node 0 (moment c.start-watch.result) zero c.requires.ready;
      within = tt;
      empty = c.requires.empty;
      form = refl;
    }

pub returns-in-Ok-true-clause-serves : goal.returns-in-Ok-true-clause-serves
returns-in-Ok-true-clause-serves g c =
    let k = (goal.at.returns-in-Ok-true-clause-serves g c).After-take_turn in
    serve_done (form g k) (orders g k) (first g k) (left g k).gives c.turns.watch (edges_of (left g k) (before g k).clock) (passed g k c.in-Ok-true.field-0 true c.in-Ok-true.field-0-test c.in-Ok-true.ensures.ends)

pub returns-in-Err-NoMemory-clause-serves : goal.returns-in-Err-NoMemory-clause-serves
returns-in-Err-NoMemory-clause-serves g c = stops_by g (goal.at.returns-in-Err-NoMemory-clause-serves g c).After-take_turn stops.NoMemory (rw c.in-Err-NoMemory.field-0-is at c.in-Err-NoMemory.ensures.ends)

pub returns-in-Err-NoMemory-clause-memory : goal.returns-in-Err-NoMemory-clause-memory
returns-in-Err-NoMemory-clause-memory g c = λ is. (rw c.in-Err-NoMemory.field-0-is at c.in-Err-NoMemory.ensures.leaves.memory) refl

pub returns-in-Err-WriteFault-clause-serves : goal.returns-in-Err-WriteFault-clause-serves
returns-in-Err-WriteFault-clause-serves g c = stops_by g (goal.at.returns-in-Err-WriteFault-clause-serves g c).After-take_turn stops.WriteFault (rw c.in-Err-WriteFault.field-0-is at c.in-Err-WriteFault.ensures.ends)

pub returns-in-Err-take-clause-serves : goal.returns-in-Err-take-clause-serves
returns-in-Err-take-clause-serves g c =
    let k = (goal.at.returns-in-Err-take-clause-serves g c).After-take_turn in
    let w = went g k c.in-Ok-false.field-0 c.in-Ok-false.field-0-test c.in-Ok-false.ensures.ends c.in-Ok-false.ensures.same_form c.in-Ok-false.ensures.leaves.ready in
    let wait = c.wait_for-wait.result in
    let a = g.K.Sink.sight c.take_turn.new.out in
    let z = g.K.Sink.sight c.fail-in-Err-take.new.out in
    let noted = subst (λ (f : OutputForm). NotesFault FailedTake f c.fail-in-Err-take.result a z) w.same c.fail-in-Err-take.ensures.notes in
    untaken_ends (form g k) (orders g k) (first g k) (left g k).gives c.turns.watch (after g k) (left g k).wire (g.W.Wire.sight c.take.new.self) (before g k).clock a z wait c.fail-in-Err-take.result w.goes c.in-Err-take.ensures.failed c.take.ensures.waited (w.asks wait c.wait_for-wait.ensures) noted

pub returns-in-Err-note-clause-serves : goal.returns-in-Err-note-clause-serves
returns-in-Err-note-clause-serves g c =
    let k = (goal.at.returns-in-Err-note-clause-serves g c).After-take_turn in
    let w = went g k c.in-Ok-false.field-0 c.in-Ok-false.field-0-test c.in-Ok-false.ensures.ends c.in-Ok-false.ensures.same_form c.in-Ok-false.ensures.leaves.ready in
    let size : length c.turns.octets ≡ most_taken = search rules in
    unwritten g k w c.wait_for-wait.result (length c.turns.octets) (g.W.Wire.sight c.take.new.self) (handed c.in-Ok.found c.take.new.buf) (input_written c.input_of.result) (g.K.Sink.sight c.note.new.out) size c.in-Ok.ensures.taken c.take.ensures.waited (w.asks _ c.wait_for-wait.ensures) c.input_of.ensures.input c.input_of.ensures.fits
    c.in-Err-note.field-0 c.in-Err-note.ensures.notes

pub returns-then-watch-eq-MOST_EQUAL-clause-serves : goal.returns-then-watch-eq-MOST_EQUAL-clause-serves
returns-then-watch-eq-MOST_EQUAL-clause-serves g c =
    let k = (goal.at.returns-then-watch-eq-MOST_EQUAL-clause-serves g c).After-take_turn in
    let w = went g k c.in-Ok-false.field-0 c.in-Ok-false.field-0-test c.in-Ok-false.ensures.ends c.in-Ok-false.ensures.same_form c.in-Ok-false.ensures.leaves.ready in
    let size : length c.turns.octets ≡ most_taken = search rules in
    let found = handed c.in-Ok.found c.take.new.buf in
    let z = g.K.Sink.sight c.note.new.out in
    let on = written g k w c.wait_for-wait.result (length c.turns.octets) (g.W.Wire.sight c.take.new.self) found (input_written c.input_of.result) z size c.in-Ok.ensures.taken c.take.ensures.waited (w.asks _ c.wait_for-wait.ensures) c.input_of.ensures.input c.input_of.ensures.fits c.in_default-note.ensures.notes in
    serve_still (form g k) (orders g k) (first g k) (left g k).gives c.turns.watch (after g k) (edges (g.W.Wire.sight c.take.new.self) (before g k).clock z) found (eq-eqb c.turns.watch.equal most_equal c.if-watch-eq-MOST_EQUAL.true) on

pub turns-preserved : goal.turns-preserved
turns-preserved g c =
    let k = (goal.at.turns-preserved g c).After-take_turn in
    let w = went g k c.in-Ok-false.field-0 c.in-Ok-false.field-0-test c.in-Ok-false.ensures.ends c.in-Ok-false.ensures.same_form c.in-Ok-false.ensures.leaves.ready in
    let found = handed c.in-Ok.found c.take.new.buf in
    let size : length c.turns.octets ≡ most_taken = search rules in
    let z = g.K.Sink.sight c.note.new.out in
    let on = written g k w c.wait_for-wait.result (length c.turns.octets) (g.W.Wire.sight c.take.new.self) found (input_written c.input_of.result) z size c.in-Ok.ensures.taken c.take.ensures.waited (w.asks _ c.wait_for-wait.ensures) c.input_of.ensures.input c.input_of.ensures.fits c.in_default-note.ensures.notes in
    let watch = c.turns.watch in
    let well = c.turns.invariant.well in
    let other : (watch.equal == most_equal) ≡ false = not_equal watch.equal most_equal c.if-watch-eq-MOST_EQUAL.false in
    let few : watch.equal < most_equal = omega (arith, well.few, c.if-watch-eq-MOST_EQUAL.false) in
    let o = orders g k in
    let stop : moment watch < o.stop = omega (arith, c.moment-moment.ensures, c.in-Ok-false.ensures.leaves.going c.in-Ok-false.field-0-test) in
    let r = c.now-reading-in-turns.result in
    let goes = λ (n : ℕ). goes_on watch r n o.stop well few in
    let clock = g.C.Clock.sight c.now-reading-in-turns.new.self in
    let wire = g.W.Wire.sight c.take.new.self in
    let going = going_on (form g k) o (first g k) (left g k).gives watch (after g k) (edges wire (before g k).clock z) found r clock (omega (arith, c.now-reading-in-turns.type_inv)) other few stop (λ n h. (goes n).paced h) on c.now-reading-in-turns.ensures in
    let later : c.moment-moment.result ≤ moment (next_watch r watch) = omega (arith, c.moment-moment.ensures, (goes 0).later) in
    let counted = subst (λ (calls : ℕ). Going (form g k) o (first g k) r calls (next_watch r watch) found (after g k) (edges wire clock z)) (sym (ap (λ (w : Writer). w.gives) c.in_default-note.ensures.same)) going in
    record {
      going = subst (λ (w : Watch). Going (form g k) o (first g k) r c.note.new.self.writer.gives w found (after g k) (edges wire clock z)) (sym c.next-watch.ensures) counted;
      well = subst IsWell (sym c.next-watch.ensures) (goes 0).well;
      ready = subst (λ (w : Watch). IsReady c.args.orders.now (moment w) c.take_turn.new.self.node) (sym c.next-watch.ensures) (ready_later c.args.orders.now c.take_turn.new.self.node c.moment-moment.result (moment (next_watch r watch)) later c.in-Ok-false.ensures.leaves.ready);
      within = subst (λ (n : ℕ). IfSome c.in-Ok.found (λ d. d.1 ≤ n)) size c.in-Ok.ensures.within;
      empty = c.in_default-note.ensures.empty;
      form = ap (λ (w : Writer). w.form) c.in_default-note.ensures.same ∙ w.same;
    }
