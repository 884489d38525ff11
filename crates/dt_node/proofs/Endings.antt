-- How a run ends.
use Rattle.std.proofs.Common.{◌≡◌, ◌⊎◌, ◌+◌, ◌*◌, ◌^◌, ◌<◌, ◌≤◌, ◌==◌, ℕ, Bool, true, false, List, [], ◌∷◌, ◌++◌, length, map, Option, Some, None, Ok, Err, refl, sym, ap, subst, ◌∙◌, arith, min, length-append, inl, inr}
use Rattle.std.specs.Option.{IfSome}
use Rattle.std.proofs.lemmas.List.{append-nil, map-append}
use Rattle.std.specs.Io.KnownBytes.{Appends}
use Rattle.std.proofs.KnownBytes.{Appends-nil, Appends-trans}
use Rattle.dt_edges.specs.Clocks.{ClockSight}
use Rattle.dt_edges.specs.Counts.{HasRisen, is_planned, last_count, next_count}
use Rattle.dt_edges.specs.Sinks.{SinkSight, Takes}
use Rattle.dt_edges.specs.Telling.{NotesAll}
use Rattle.dt_edges.specs.Wires.{Datagram, HasWaited, OpenFails, Opening, Plan, TakeFails, TakesOne, WireSight}
use Rattle.std.specs.Prelude.{if◌then◌else◌}
use Rattle.dt_log.specs.Logs.{log_text}
use Rattle.dt_text.specs.InputLines.{most_input}
use Rattle.dt_fold.specs.declared.stops.Stop.{Stop}
use Rattle.dt_fold.specs.declared.stops.Stop.TheVariants as stops
use Rattle.dt_fold.specs.Folds.{Folded, fold_input}
use Rattle.dt_fold.specs.Logging.{HasAll, HasPart, StopsIn}
use Rattle.dt_node.specs.declared.watch.Watch.{Watch}
use Rattle.dt_node.specs.declared.outcomes.NodeOutcome.{NodeOutcome}
use Rattle.dt_node.specs.declared.outcomes.NodeOutcome.TheVariants.{Done, Refused, NoMemory, WireFault, ClockStill, WriteFault}
use Rattle.dt_script.specs.Orders.{Orders, opening_of}
use Rattle.dt_turn.specs.Nodes.{Node}
use Rattle.dt_node.specs.Acts.{Act, Deed, act_of, answer_of, node_lines, sent_frames, fates}
use Rattle.dt_turn.specs.Turns.{turn}
use Rattle.dt_node.specs.Runs.{Ending, Run, node_run, moment, most_equal}
use Rattle.dt_script.specs.Codes.{IsGood}
use Rattle.dt_script.specs.Drafts.{Draft, Empty, orders_in, read_script, refusal_text, script_turns}
use Rattle.dt_script.proofs.Fitting.{script_good, script_read}
use Rattle.dt_trace.specs.Inputs.{Input, FailedOpen, FailedTake, Reading, Taken as Found}
use Rattle.dt_trace.specs.Standing.{HasFound}
use Rattle.dt_trace.specs.Lines.{most_taken}
use Rattle.dt_node.specs.declared.output_forms.OutputForm.{OutputForm}
use Rattle.dt_node.specs.declared.output_forms.OutputForm.TheVariants as forms
use Rattle.dt_node.specs.Deeds.{FatesFrom, FaultsBy, Scene, Sublist, TurnEnds, counted, deeds_text, lost}
use Rattle.dt_node.specs.TakingIn.{failed_gives}
use Rattle.dt_node.specs.Logging.{NotesBehind, NotesFault, noted_text}
use Rattle.dt_node.specs.InOrder.{InOrder}
use Rattle.dt_node.specs.Serving.{AppendsPart, CountsTakes, Edges, EndsAs, FailsAs, GivesAs, GivesSome, HasOpened, IsFresh, IsWhole, Logs, NoneFails, Serves, SinkFaults, TakeFaults, Written, first_entries, edges, first_readings}
use Rattle.dt_node.specs.Answering.{Answers, AnswersBy, RefusesAs}
use Rattle.dt_node.proofs.Noting.{notes_none, notes_then, nothing_notes, sub_then}
use Rattle.dt_node.proofs.Doing.{acts_more, lost_more, sent_sub}
use Rattle.dt_node.proofs.RunsOn.{came_of, run_cut, run_nothing, run_still, run_stopped, run_taken, run_unfinished}
use Rattle.dt_node.proofs.Again.{again_is_old}
use Rattle.dt_node.proofs.Keeping.{Given, PlannedTakes, Read, Taken, given_on, taken_more, taken_on}
use Rattle.dt_node.proofs.Orderly.{node_in_order, unsent_apart, unsent_in_order}
use Rattle.dt_node.proofs.Unsent.{log_apart}
use Rattle.dt_node.proofs.Beginning.{part_then}
use Rattle.dt_node.proofs.Listing.{came_list, list_came, list_took, no_list, took_list}
use Rattle.dt_node.specs.Waiting.{Asks, CountsPauses, OpensOnce, pause_of, wait_in}
use Rattle.dt_node.proofs.Waited.{asking_take, asking_turn, asks_failed, asks_failed_write, asks_memory_early, asks_took, asks_turned, asks_unopened, asks_unopened_write, asks_write_early}
use Rattle.dt_node.proofs.Tracing.{Unfailed, far_none, far_take, far_turn, written_failed, written_far, written_unopened}
use Rattle.dt_node.proofs.Served.{Going, Noted, Passed, edges_of, scene_of, some_any, some_both, some_map, with_held}

module _ (o : Orders) (b : Edges) (rs : List ℕ) (ts : List (Option Datagram)) (few : length rs ≤ most_equal * o.stop + 1) (small : o.stop < 2 ^ 32) where
  readings_planned : (c : ClockSight) → Read rs b.clock c → IfSome b.clock.plan (λ p. b.clock.readings ≡ Some [] → rs ≡ first_readings p (length rs))
  readings_planned c h = some_map b.clock.plan (λ p. b.clock.readings ≡ Some [] → length rs < last_count → (c.readings ≡ Some rs) × (rs ≡ first_readings p (length rs))) (λ p. b.clock.readings ≡ Some [] → rs ≡ first_readings p (length rs))
      (λ p k fresh. (k fresh (omega arith)).1) h.planned

  module _ (less : length ts ≤ length rs) (v : WireSight) (h : Taken (opening_of o) ts b.wire v) where
    takes_planned : IfSome b.wire.plan (λ p. IsFresh b.wire → ts ≡ first_entries p (length ts))
    takes_planned = some_map b.wire.plan (λ p. b.wire.takes ≡ 0 → b.wire.used ≡ 0 → length ts ≤ last_count → PlannedTakes p ts v.used) (λ p. IsFresh b.wire → ts ≡ first_entries p (length ts))
        (λ p k fresh. (k fresh.takes fresh.used (omega arith)).entries) h.planned

    none_fails : IfSome b.wire.plan (λ p. IsFresh b.wire → (p.open_fails ≡ false) × NoneFails p.failing_takes (length ts))
    none_fails = some_both b.wire.plan (λ p. b.wire.takes ≡ 0 → b.wire.used ≡ 0 → length ts ≤ last_count → PlannedTakes p ts v.used) (λ p. p.open_fails ≡ false) (λ p. IsFresh b.wire → (p.open_fails ≡ false) × NoneFails p.failing_takes (length ts))
        (λ p k j fresh. (j, (k fresh.takes fresh.used (omega arith)).well)) h.planned h.opened

fates_planned : (b : Edges) (v : WireSight) (outcome : NodeOutcome) (deeds : List Deed) → Given deeds b.wire v → IfSome b.wire.plan (λ p. IsFresh b.wire → IsWhole outcome → length (fates deeds) < 2 ^ 64 → FatesFrom p.failing_gives 0 (fates deeds))
fates_planned b v outcome deeds h = some_map b.wire.plan (λ p. b.wire.gives + length (fates deeds) ≤ last_count → FatesFrom p.failing_gives b.wire.gives (fates deeds)) (λ p. IsFresh b.wire → IsWhole outcome → length (fates deeds) < 2 ^ 64 → FatesFrom p.failing_gives 0 (fates deeds))
    (λ p k fresh whole few. let z = fresh.gives in subst (λ (m : ℕ). FatesFrom p.failing_gives m (fates deeds)) z (k (omega arith))) h.plan

-- A RUN THAT WAS CUT OFF: nothing is said of its end, and what is said of the rest is what is known of its beginning

-- the answer of a run that stopped so
abbrev pub answer_by : Stop → NodeOutcome
answer_by stops.NoMemory = NoMemory
answer_by stops.WriteFault = WriteFault

record IsCut (stop : Stop) (outcome : NodeOutcome) : Type 0 where
  ends : (ending : Ending) → EndsAs outcome ending
  counted : (readings takes : ℕ) → CountsTakes outcome readings takes
  unopened : (readings : ℕ) → HasOpened outcome readings → ⊥
  part : IsWhole outcome → ⊥
  fails : (p : Plan) (readings takes : ℕ) → FailsAs outcome p readings takes
  unfailed : Unfailed outcome
  pauses : (readings takes pauses : ℕ) → pauses ≡ takes → CountsPauses outcome readings takes pauses
  opens : (readings before after : ℕ) → (after ≡ next_count before) ⊎ ((readings ≡ 0) × (after ≡ before)) → OpensOnce outcome readings before after
  logs : (text : List ℕ) (before after : Option (List ℕ)) → AppendsPart text before after → Logs outcome text before after
  gives : (deeds : List Deed) (before after : Option (List Datagram)) → GivesSome deeds before after → GivesAs outcome deeds before after
  faults : (before after : ℕ) → FaultsBy stop before after → SinkFaults outcome before after

cut_by : (stop : Stop) → IsCut stop (answer_by stop)
cut_by stops.NoMemory = search refl
cut_by stops.WriteFault = search (refl, inl)

-- no call of the wire failed but gives
faults_kept : (form : OutputForm) (stop : Stop) (before after : ℕ) → after ≡ before → TakeFaults form (answer_by stop) before after
faults_kept form stops.NoMemory before after e = e
faults_kept forms.Log stops.WriteFault before after e = e
faults_kept forms.Trace stops.WriteFault before after e = inl e

-- one failed, and a trace tells of it
faults_traced : (form : OutputForm) (before after : ℕ) → form ≡ forms.Trace → HasRisen before after → TakeFaults form WriteFault before after
faults_traced forms.Log before after e h = absurd cc
faults_traced forms.Trace before after e h = inr h

-- all frames that aren't lost are some of the frames
gives_sent : (deeds : List Deed) (before after : Option (List Datagram)) → NotesAll (sent_frames deeds) before after → GivesSome deeds before after
gives_sent deeds before after given = record { frames = sent_frames deeds; some = sent_sub deeds; given = given }

-- nothing was asked of the wire
asks_early : (o : Orders) (stop : Stop) (b : WireSight) → Asks o (answer_by stop) [] [] b b
asks_early o stops.NoMemory b = asks_memory_early o b
asks_early o stops.WriteFault b = asks_write_early o b

module _ (form : OutputForm) (o : Orders) (b : Edges) where
  -- WHAT A RUN LEAVES OF THE WIRE AND OF THE CLOCK, whatever its answer is: its acts are those of the definition, and wire and clock tell of it
  pub record Ran (rs : List ℕ) (ts : List (Option Datagram)) (deeds : List Deed) (v : WireSight) (c : ClockSight) : Type 0 where
    pub acts : map act_of deeds ≡ (node_run o rs ts).acts
    pub told_readings : NotesAll rs b.clock.readings c.readings
    pub told_takes : NotesAll ts b.wire.taken v.taken
    pub few : length rs ≤ most_equal * o.stop + 1
    pub lost : min (b.wire.give_faults + lost deeds) last_count ≤ v.give_faults
    pub same_wire_plan : v.plan ≡ b.wire.plan
    pub same_clock_plan : c.plan ≡ b.clock.plan
    pub planned_readings : IfSome b.clock.plan (λ p. b.clock.readings ≡ Some [] → rs ≡ first_readings p (length rs))
    pub planned_takes : IfSome b.wire.plan (λ p. IsFresh b.wire → ts ≡ first_entries p (length ts))

  -- and what its answer says
  pub record Answered (outcome : NodeOutcome) (rs : List ℕ) (ts : List (Option Datagram)) (deeds : List Deed) (n : Edges) : Type 0 where
    pub text : List ℕ
    pub written : Written form o outcome rs ts deeds text
    pub log : Logs outcome text b.held n.held
    pub ends : EndsAs outcome (node_run o rs ts).ending
    pub counted : CountsTakes outcome (length rs) (length ts)
    pub asks : Asks o outcome rs ts b.wire n.wire
    pub opening : HasOpened outcome (length rs) → IfSome n.wire.opening (λ now. now ≡ Some (opening_of o))
    pub take_faults : TakeFaults form outcome b.wire.take_faults n.wire.take_faults
    pub sink_faults : SinkFaults outcome b.faults n.faults
    pub frames : GivesAs outcome deeds b.wire.given n.wire.given
    pub planned_faults : IfSome b.wire.plan (λ p. IsFresh b.wire → FailsAs outcome p (length rs) (length ts))
    pub planned_fates : IfSome b.wire.plan (λ p. IsFresh b.wire → IsWhole outcome → length (fates deeds) < 2 ^ 64 → FatesFrom p.failing_gives 0 (fates deeds))

  in_order : (rs : List ℕ) (ts : List (Option Datagram)) (deeds : List Deed) → map act_of deeds ≡ (node_run o rs ts).acts → InOrder None (map act_of deeds)
  in_order rs ts deeds e = subst (λ (acts : List Act). InOrder None acts) (sym e) (node_in_order o rs ts)

  serves : (outcome : NodeOutcome) (rs : List ℕ) (ts : List (Option Datagram)) (deeds : List Deed) (n : Edges) → Ran rs ts deeds n.wire n.clock → Answered outcome rs ts deeds n → Serves form o outcome b n
  serves outcome rs ts deeds n r s =
      let ordered = in_order rs ts deeds r.acts in
      record {
        readings = rs;
        takes = ts;
        deeds = deeds;
        told_readings = r.told_readings;
        told_takes = r.told_takes;
        acts = r.acts;
        text = s.text;
        written = s.written;
        log = s.log;
        unsent = unsent_in_order o.setup.me deeds None None ordered (inl refl);
        apart = log_apart o.setup.me deeds ∙ ap log_text (unsent_apart o.setup.me deeds None ordered ∙ ap (node_lines o.setup.me) r.acts);
        ends = s.ends;
        again = again_is_old o rs ts;
        counted = s.counted;
        few = r.few;
        asks = s.asks;
        opening = s.opening;
        take_faults = s.take_faults;
        give_faults = r.lost;
        sink_faults = s.sink_faults;
        frames = s.frames;
        same_wire_plan = r.same_wire_plan;
        same_clock_plan = r.same_clock_plan;
        planned_readings = r.planned_readings;
        planned_takes = r.planned_takes;
        planned_faults = s.planned_faults;
        planned_fates = s.planned_fates;
      }

  -- THE WIRE AND THE CLOCK, by what is kept of them
  ran_by : (rs : List ℕ) (ts : List (Option Datagram)) (deeds : List Deed) (v : WireSight) (c : ClockSight) → map act_of deeds ≡ (node_run o rs ts).acts → length ts ≤ length rs → length rs ≤ most_equal * o.stop + 1 → o.stop < 2 ^ 32 → Read rs b.clock c → Taken (opening_of o) ts b.wire v
      → min (b.wire.give_faults + lost deeds) last_count ≤ v.give_faults → Ran rs ts deeds v c
  ran_by rs ts deeds v c acts less few small read taken lost = record {
    acts = acts;
    told_readings = read.told;
    told_takes = taken.taken;
    few = few;
    lost = lost;
    same_wire_plan = taken.plan;
    same_clock_plan = read.plan;
    planned_readings = readings_planned o b rs ts few small c read;
    planned_takes = takes_planned o b rs ts few small less v taken;
  }

  -- nothing was done
  ran_nothing : Ran [] [] [] b.wire b.clock
  ran_nothing = record {
    acts = sym (ap (λ (r : Run). r.acts) (run_nothing o));
    told_readings = notes_none b.clock.readings;
    told_takes = notes_none b.wire.taken;
    few = omega arith;
    lost = omega arith;
    same_wire_plan = refl;
    same_clock_plan = refl;
    planned_readings = some_any b.clock.plan (λ p. b.clock.readings ≡ Some [] → [] ≡ first_readings p (length {A = ℕ} [])) (λ p fresh. refl);
    planned_takes = some_any b.wire.plan (λ p. IsFresh b.wire → [] ≡ first_entries p (length {A = Option Datagram} [])) (λ p fresh. refl);
  }

  -- then a call of the wire failed: it told nothing, and gave nothing
  ran_failed : (rs : List ℕ) (ts : List (Option Datagram)) (deeds : List Deed) (v w : WireSight) (c : ClockSight) → Ran rs ts deeds v c → NotesAll ts b.wire.taken w.taken → w.give_faults ≡ v.give_faults → w.plan ≡ v.plan → Ran rs ts deeds w c
  ran_failed rs ts deeds v w c r told same plan = record {
    acts = r.acts;
    told_readings = r.told_readings;
    told_takes = told;
    few = r.few;
    lost = omega (arith, r.lost);
    same_wire_plan = plan ∙ r.same_wire_plan;
    same_clock_plan = r.same_clock_plan;
    planned_readings = r.planned_readings;
    planned_takes = r.planned_takes;
  }

  ran_turned : (gives : ℕ) (watch : Watch) (answer : Option Node) (n : Edges) (h : Passed form o b gives watch answer n) → map act_of h.deeds ≡ (node_run o h.readings h.takes).acts → Ran h.readings h.takes h.deeds n.wire n.clock
  ran_turned gives watch answer n h acts = let k = h.kept in ran_by h.readings h.takes h.deeds n.wire n.clock acts (omega (arith, k.counted)) k.few k.small k.read k.taken k.given.lost

  -- ENDINGS AFTER WHICH NOTHING WAS CUT OFF
  pub serve_done : (gives : ℕ) (watch : Watch) (n : Edges) → Passed form o b gives watch None n → Serves form o Done b n
  serve_done gives watch n h =
      let k = h.kept in
      let run = run_stopped o h.readings h.takes (map act_of h.deeds) watch h.came in
      serves Done h.readings h.takes h.deeds n (ran_turned gives watch None n h (sym (ap (λ (r : Run). r.acts) run))) (record {
        text = h.text;
        written = written_far form o h.inputs Done h.readings h.takes h.deeds h.text tt (came_list o h.readings h.takes h.deeds h.inputs watch None h.list) h.far;
        log = k.held;
        ends = ap (λ (r : Run). r.ending) run;
        counted = k.counted;
        asks = asks_turned o Done h.readings h.takes b.wire n.wire watch None h.asks h.asks.many h.asks.opened;
        opening = λ _. k.taken.opening;
        take_faults = k.taken.faults;
        sink_faults = k.faults;
        frames = k.given.given;
        planned_faults = none_fails o b h.readings h.takes k.few k.small (omega (arith, k.counted)) n.wire k.taken;
        planned_fates = fates_planned b n.wire Done h.deeds k.given;
      })

  pub serve_still : (gives : ℕ) (watch : Watch) (node : Node) (n : Edges) (t : Option Datagram) → (watch.equal == most_equal) ≡ true → Noted form o b gives watch node t n → Serves form o ClockStill b n
  serve_still gives watch node n t e h =
      let ts = h.takes ++ t ∷ [] in
      let run = run_still o h.readings h.takes t (map act_of h.deeds) watch node e h.came in
      let number : length ts ≡ length h.takes + 1 = length-append h.takes (t ∷ []) in
      let less : length ts ≤ length h.readings = omega (arith, number, h.counted) in
      serves ClockStill h.readings ts h.deeds n (ran_by h.readings ts h.deeds n.wire n.clock (sym (ap (λ (r : Run). r.acts) run)) less h.few h.small h.read h.taken h.given.lost) (record {
        text = h.text;
        written = written_far form o h.inputs ClockStill h.readings ts h.deeds h.text tt (took_list o h.readings ts h.deeds h.inputs watch t node h.list) h.far;
        log = h.held;
        ends = ap (λ (r : Run). r.ending) run;
        counted = number ∙ h.counted;
        asks = asks_took o ClockStill h.readings ts b.wire n.wire watch t node h.asks h.asks.many h.asks.opened;
        opening = λ _. h.taken.opening;
        take_faults = h.taken.faults;
        sink_faults = h.faults;
        frames = h.given.given;
        planned_faults = none_fails o b h.readings ts h.few h.small less n.wire h.taken;
        planned_fates = fates_planned b n.wire ClockStill h.deeds h.given;
      })

  -- A take failed
  failing_planned : (rs : List ℕ) (ts : List (Option Datagram)) (v w : WireSight) → length rs ≤ most_equal * o.stop + 1 → o.stop < 2 ^ 32 → length ts + 1 ≡ length rs → Taken (opening_of o) ts b.wire v → TakeFails v w → IfSome b.wire.plan (λ p. IsFresh b.wire → FailsAs WireFault p (length rs) (length ts))
  failing_planned rs ts v w few small counted h k =
      let plan = subst (λ (x : Option Plan). IfSome x (λ p. v.takes < last_count → is_planned p.failing_takes (v.takes + 1) ≡ true)) h.plan k.plan in
      some_both b.wire.plan (λ p. IsFresh b.wire → (p.open_fails ≡ false) × NoneFails p.failing_takes (length ts)) (λ p. v.takes < last_count → is_planned p.failing_takes (v.takes + 1) ≡ true) (λ p. IsFresh b.wire → FailsAs WireFault p (length rs) (length ts))
      (λ p none one fresh.
      let zero = fresh.takes in
      let same : v.takes ≡ length ts = omega (arith, h.count (omega arith)) in
      let well = none fresh in
      let here = subst (λ (m : ℕ). is_planned p.failing_takes (m + 1) ≡ true) same (one (omega arith)) in
      inr (well.0, (let some : 0 < length rs = omega arith in some), well.1, here))
      (none_fails o b rs ts few small (omega arith) v h) plan

  -- it hands nothing over
  told_failed : (ts : List (Option Datagram)) (v w : WireSight) → Taken (opening_of o) ts b.wire v → TakeFails v w → NotesAll ts b.wire.taken w.taken
  told_failed ts v w h j = subst (λ (xs : List (Option Datagram)). NotesAll xs b.wire.taken w.taken) (append-nil ts) (notes_then ts [] b.wire.taken v.taken w.taken h.taken (nothing_notes v.taken w.taken j.taken))

  ran_untaken : (gives : ℕ) (watch : Watch) (node : Node) (n : Edges) (v : WireSight) (h : Passed form o b gives watch (Some node) n) → TakeFails n.wire v → Ran h.readings h.takes h.deeds v n.clock
  ran_untaken gives watch node n v h j =
      let run = run_unfinished o h.readings h.takes (map act_of h.deeds) watch node h.came in
      ran_failed h.readings h.takes h.deeds n.wire v n.clock (ran_turned gives watch (Some node) n h (sym (ap (λ (r : Run). r.acts) run))) (told_failed h.takes n.wire v h.kept.taken j) j.same.give_faults j.same.plan

  pub serve_wire : (gives : ℕ) (watch : Watch) (node : Node) (n : Edges) (v : WireSight) (held : Option (List ℕ)) (faults wait : ℕ) → Passed form o b gives watch (Some node) n → TakeFails n.wire v → HasWaited wait v → wait ≡ wait_in (pause_of o watch node)
      → Appends n.held held (noted_text form FailedTake) → faults ≡ n.faults → Serves form o WireFault b (with_held n v held faults)
  serve_wire gives watch node n v held faults wait h j waited is put same =
      let k = h.kept in
      let some : 0 < length h.readings = omega (arith, k.counted) in
      let given = given_on h.deeds b.wire n.wire v k.given j.same in
      serves WireFault h.readings h.takes h.deeds (with_held n v held faults) (ran_untaken gives watch node n v h j) (record {
        text = h.text ++ noted_text form FailedTake;
        written = written_failed form o h.inputs WireFault h.readings h.takes h.deeds h.text tt some (came_list o h.readings h.takes h.deeds h.inputs watch (Some node) h.list) h.far;
        log = Appends-trans b.held n.held held h.text (noted_text form FailedTake) k.held put;
        ends = ap (λ (r : Run). r.ending) (run_unfinished o h.readings h.takes (map act_of h.deeds) watch node h.came);
        counted = inr k.counted;
        asks = asks_failed o h.readings h.takes some watch node wait b.wire n.wire v j waited is h.asks;
        opening = λ _. subst (λ (x : Option (Option Opening)). IfSome x (λ now. now ≡ Some (opening_of o))) (sym j.same.opening) k.taken.opening;
        take_faults = subst (λ (m : ℕ). HasRisen m v.take_faults) k.taken.faults j.faults;
        sink_faults = same ∙ k.faults;
        frames = given.given;
        planned_faults = failing_planned h.readings h.takes n.wire v k.few k.small k.counted k.taken j;
        planned_fates = fates_planned b v WireFault h.deeds given;
      })

  -- The open failed
  ran_unopened : (v : WireSight) → OpenFails b.wire v → Ran [] [] [] v b.clock
  ran_unopened v h = ran_failed [] [] [] b.wire v b.clock ran_nothing (subst (λ (x : Option (List (Option Datagram))). NotesAll [] b.wire.taken x) (sym h.same.taken) (notes_none b.wire.taken)) h.same.give_faults h.same.plan

  given_unopened : (v : WireSight) → OpenFails b.wire v → NotesAll [] b.wire.given v.given
  given_unopened v h = subst (λ (x : Option (List Datagram)). NotesAll [] b.wire.given x) (sym h.same.given) (notes_none b.wire.given)

  pub serve_unopened : (v : WireSight) (held : Option (List ℕ)) (faults : ℕ) → OpenFails b.wire v → Appends b.held held (noted_text form FailedOpen) → faults ≡ b.faults → Serves form o WireFault b (with_held b v held faults)
  serve_unopened v held faults h put same = serves WireFault [] [] [] (with_held b v held faults) (ran_unopened v h) (record {
    text = noted_text form FailedOpen;
    written = written_unopened form o WireFault tt;
    log = put;
    ends = ap (λ (r : Run). r.ending) (run_nothing o);
    counted = inl (refl, refl);
    asks = asks_unopened o b.wire v h;
    opening = λ k. absurd (omega arith);
    take_faults = h.faults;
    sink_faults = same;
    frames = given_unopened v h;
    planned_faults = some_map b.wire.plan (λ p. p.open_fails ≡ true) (λ p. IsFresh b.wire → FailsAs WireFault p (length {A = ℕ} []) (length {A = Option Datagram} [])) (λ p k fresh. inl (k, refl)) h.plan;
    planned_fates = some_any b.wire.plan (λ p. IsFresh b.wire → IsWhole WireFault → length {A = Bool} [] < 2 ^ 64 → FatesFrom p.failing_gives 0 []) (λ p fresh whole few. tt);
  })

  -- ENDINGS THAT CUT A RUN OFF: memory ran out, or a put failed. A first part of the text stands there, and the wire was given some of the frames
  cut : (stop : Stop) (rs : List ℕ) (ts : List (Option Datagram)) (deeds : List Deed) (text : List ℕ) (n : Edges) → Ran rs ts deeds n.wire n.clock → Written form o (answer_by stop) rs ts deeds text → AppendsPart text b.held n.held → Asks o (answer_by stop) rs ts b.wire n.wire
      → TakeFaults form (answer_by stop) b.wire.take_faults n.wire.take_faults → FaultsBy stop b.faults n.faults → GivesSome deeds b.wire.given n.wire.given → Serves form o (answer_by stop) b n
  cut stop rs ts deeds text n ran written log asks take_faults faults frames =
      let is = cut_by stop in
      serves (answer_by stop) rs ts deeds n ran (record {
        text = text;
        written = written;
        log = is.logs text b.held n.held log;
        ends = is.ends (node_run o rs ts).ending;
        counted = is.counted (length rs) (length ts);
        asks = asks;
        opening = λ h. absurd (is.unopened (length rs) h);
        take_faults = take_faults;
        sink_faults = is.faults b.faults n.faults faults;
        frames = is.gives deeds b.wire.given n.wire.given frames;
        planned_faults = some_any b.wire.plan (λ p. IsFresh b.wire → FailsAs (answer_by stop) p (length rs) (length ts)) (λ p fresh. is.fails p (length rs) (length ts));
        planned_fates = some_any b.wire.plan (λ p. IsFresh b.wire → IsWhole (answer_by stop) → length (fates deeds) < 2 ^ 64 → FatesFrom p.failing_gives 0 (fates deeds)) (λ p fresh whole few. absurd (is.part whole));
      })

  -- the put failed that told of a take that failed
  pub serve_wire_write : (gives : ℕ) (watch : Watch) (node : Node) (n : Edges) (v : WireSight) (held : Option (List ℕ)) (faults wait : ℕ) → form ≡ forms.Trace → Passed form o b gives watch (Some node) n → TakeFails n.wire v → HasWaited wait v → wait ≡ wait_in (pause_of o watch node)
      → AppendsPart (noted_text form FailedTake) n.held held → HasRisen n.faults faults → Serves form o WriteFault b (with_held n v held faults)
  serve_wire_write gives watch node n v held faults wait trace h j waited is put risen =
      let k = h.kept in
      let line = noted_text form FailedTake in
      let some : 0 < length h.readings = omega (arith, k.counted) in
      cut stops.WriteFault h.readings h.takes h.deeds (h.text ++ line) (with_held n v held faults) (ran_untaken gives watch node n v h j)
      (written_failed form o h.inputs WriteFault h.readings h.takes h.deeds h.text tt some (came_list o h.readings h.takes h.deeds h.inputs watch (Some node) h.list) h.far)
      (part_then h.text line (h.text ++ line) b.held n.held held refl k.held put) (asks_failed_write o h.readings h.takes some watch node wait b.wire n.wire v j waited is h.asks)
      (faults_traced form b.wire.take_faults v.take_faults trace (subst (λ (m : ℕ). HasRisen m v.take_faults) k.taken.faults j.faults)) (subst (λ (m : ℕ). HasRisen m faults) k.faults risen)
      (gives_sent h.deeds b.wire.given v.given (given_on h.deeds b.wire n.wire v k.given j.same).given)

  -- the put failed that told of an open that failed
  pub serve_unopened_write : (v : WireSight) (held : Option (List ℕ)) (faults : ℕ) → form ≡ forms.Trace → OpenFails b.wire v → AppendsPart (noted_text form FailedOpen) b.held held → HasRisen b.faults faults → Serves form o WriteFault b (with_held b v held faults)
  serve_unopened_write v held faults trace h put risen =
      cut stops.WriteFault [] [] [] (noted_text form FailedOpen) (with_held b v held faults) (ran_unopened v h) (written_unopened form o WriteFault tt) put (asks_unopened_write o b.wire v h) (faults_traced form b.wire.take_faults v.take_faults trace h.faults) risen
      (gives_sent [] b.wire.given v.given (given_unopened v h))

  -- what a take found wasn't written
  pub serve_take_write : (gives : ℕ) (watch : Watch) (node : Node) (n : Edges) (t : Option Datagram) (v : WireSight) (held : Option (List ℕ)) (faults wait : ℕ) → HasFound t → Passed form o b gives watch (Some node) n → TakesOne most_taken t n.wire v → HasWaited wait v → wait ≡ wait_in (pause_of o watch node)
      → AppendsPart (noted_text form (Found t)) n.held held → HasRisen n.faults faults → Serves form o WriteFault b (with_held n v held faults)
  serve_take_write gives watch node n t v held faults wait fits h j waited is put risen =
      let k = h.kept in
      let ts = h.takes ++ t ∷ [] in
      let line = noted_text form (Found t) in
      let inputs : List Input = h.inputs ++ Found t ∷ [] in
      let less : length ts ≤ length h.readings = omega (arith, length-append h.takes (t ∷ []), k.counted) in
      let taken = taken_more (opening_of o) h.takes t b.wire n.wire v k.taken j in
      let given = given_on h.deeds b.wire n.wire v k.given j.same in
      let asked = asking_take o h.readings h.takes watch b.wire n.wire v node t wait j.same waited is h.asks in
      cut stops.WriteFault h.readings ts h.deeds (h.text ++ line) (with_held n v held faults) (ran_by h.readings ts h.deeds v n.clock (sym (run_taken o h.readings h.takes t (map act_of h.deeds) watch node h.came)) less k.few k.small k.read taken given.lost)
      (written_far form o inputs WriteFault h.readings ts h.deeds (h.text ++ line) tt (took_list o h.readings ts h.deeds inputs watch t node (list_took o h.readings h.takes t h.deeds h.inputs watch node h.list)) (far_take form o.setup.me h.inputs h.readings h.takes h.deeds h.text t fits h.far))
      (part_then h.text line (h.text ++ line) b.held n.held held refl k.held put) (asks_took o WriteFault h.readings ts b.wire v watch t node asked (inl asked.many) (inl asked.opened)) (faults_kept form stops.WriteFault b.wire.take_faults v.take_faults taken.faults)
      (subst (λ (m : ℕ). HasRisen m faults) k.faults risen) (gives_sent h.deeds b.wire.given v.given given.given)

  -- a turn stopped
  pub serve_stopped : (stop : Stop) (reading gives : ℕ) (watch : Watch) (came : Option Datagram) (node : Node) (n : Edges) (t : Scene) (now : ℕ) (answer : Option Node) → now ≡ moment watch → Going form o b reading gives watch came node n
      → TurnEnds (Err stop) form o.setup.me now (noted_text form (Reading reading)) (turn o now came node) answer (scene_of gives n) t → Serves form o (answer_by stop) b (edges_of t n.clock)
  serve_stopped stop reading gives watch came node n t now answer e h (more, acts, some) =
      let k = h.kept in
      let played = turn o now came node in
      let rs = h.earlier ++ reading ∷ [] in
      let deeds = h.deeds ++ more in
      let line = noted_text form (Reading reading) ++ deeds_text form gives o.setup.me more in
      let inputs : List Input = h.inputs ++ Reading reading ∷ failed_gives (counted 0 (fates h.deeds)) more in
      let acted : map act_of deeds ≡ (node_run o rs h.takes).acts =
      map-append act_of h.deeds more ∙ sym (run_cut o rs h.takes (map act_of h.deeds ++ map act_of more) watch (answer_of played) (came_of o rs h.takes (map act_of h.deeds) (map act_of more) watch came node now (answer_of played) e acts refl h.comes)) in
      let taken = taken_on (opening_of o) h.takes b.wire n.wire t.wire k.taken some.wire.same in
      let asked = asking_turn o rs h.takes watch b.wire n.wire t.wire came node now (answer_of played) e refl some.wire.same h.asks in
      cut stop rs h.takes deeds (h.text ++ line) (edges_of t n.clock) (ran_by rs h.takes deeds t.wire n.clock acted (omega (arith, k.counted)) k.few k.small k.read taken (omega (arith, lost_more h.deeds more, k.given.lost, some.wire.lost)))
      (written_far form o inputs (answer_by stop) rs h.takes deeds (h.text ++ line) (cut_by stop).unfailed (came_list o rs h.takes deeds inputs watch (answer_of played) (list_came o h.earlier reading h.takes h.deeds more h.inputs watch came node now (answer_of played) e acts refl h.list))
      (far_turn form o.setup.me h.inputs h.earlier h.takes h.deeds more h.text reading gives h.fits k.calls h.far))
      (part_then h.text line (h.text ++ line) b.held n.held t.held refl k.held some.held)
      (asks_turned o (answer_by stop) rs h.takes b.wire t.wire watch (answer_of played) asked ((cut_by stop).pauses (length rs) (length h.takes) (length asked.pauses) asked.many) ((cut_by stop).opens (length rs) b.wire.opens t.wire.opens (inl asked.opened)))
      (faults_kept form stop b.wire.take_faults t.wire.take_faults taken.faults) (subst (λ (m : ℕ). FaultsBy stop m t.faults) k.faults some.faults)
      (record {
        frames = sent_frames h.deeds ++ some.wire.frames;
        some = subst (λ (fs : List Datagram). Sublist (sent_frames h.deeds ++ some.wire.frames) fs) (sym (acts_more h.deeds more)) (sub_then (sent_sub h.deeds) some.wire.some);
        given = notes_then (sent_frames h.deeds) some.wire.frames b.wire.given n.wire.given t.wire.given k.given.given some.wire.given;
      })

  -- memory ran out, or a put failed, before the wire was opened
  pub serve_early : (stop : Stop) (held : Option (List ℕ)) (faults : ℕ) → AppendsPart [] b.held held → FaultsBy stop b.faults faults → Serves form o (answer_by stop) b (record b { held = held; faults = faults })
  serve_early stop held faults h same =
      cut stop [] [] [] [] (record b { held = held; faults = faults }) ran_nothing (written_far form o [] (answer_by stop) [] [] [] [] (cut_by stop).unfailed (no_list o) (far_none form o.setup.me)) h
      (asks_early o stop b.wire) (faults_kept form stop b.wire.take_faults b.wire.take_faults refl) same (gives_sent [] b.wire.given b.wire.given (notes_none b.wire.given))

-- A SCRIPT THAT WAS READ, and its answer

-- what a run leaves, from a sink on that took nothing before it
logs_from : (outcome : NodeOutcome) (text : List ℕ) (a m e : Option (List ℕ)) → Appends a m [] → Logs outcome text m e → Logs outcome text a e
logs_from Done text a m e h k = Appends-trans a m e [] text h k
logs_from Refused text a m e h k = Appends-trans a m e [] text h k
logs_from NoMemory text a m e h k = part_then [] text text a m e refl h k
logs_from WireFault text a m e h k = Appends-trans a m e [] text h k
logs_from ClockStill text a m e h k = Appends-trans a m e [] text h k
logs_from WriteFault text a m e h k = part_then [] text text a m e refl h k

serves_from : (form : OutputForm) (o : Orders) (outcome : NodeOutcome) (w : WireSight) (c : ClockSight) (s t : SinkSight) (e : Edges) → Takes [] s t → Serves form o outcome (edges w c t) e → Serves form o outcome (edges w c s) e
serves_from form o outcome w c s t e h k = record {
  readings = k.readings;
  takes = k.takes;
  deeds = k.deeds;
  told_readings = k.told_readings;
  told_takes = k.told_takes;
  acts = k.acts;
  text = k.text;
  written = k.written;
  log = logs_from outcome k.text s.held t.held e.held h.held k.log;
  unsent = k.unsent;
  apart = k.apart;
  again = k.again;
  ends = k.ends;
  counted = k.counted;
  few = k.few;
  asks = k.asks;
  opening = k.opening;
  take_faults = k.take_faults;
  give_faults = k.give_faults;
  sink_faults = subst (λ (n : ℕ). SinkFaults outcome n e.faults) h.faults k.sink_faults;
  frames = k.frames;
  same_wire_plan = k.same_wire_plan;
  same_clock_plan = k.same_clock_plan;
  planned_readings = k.planned_readings;
  planned_takes = k.planned_takes;
  planned_faults = k.planned_faults;
  planned_fates = k.planned_fates;
}

answers_by : (form : OutputForm) (octets : List ℕ) (outcome : NodeOutcome) (b a : Edges) (accepted : Bool) (o : Option Orders) → (read_script octets).accepted ≡ accepted → orders_in (read_script octets).state ≡ o →
    AnswersBy form (if accepted then o else None) (refusal_text octets) outcome b a → Answers form octets outcome b a
answers_by form octets outcome b a accepted o e f h =
    subst (λ (x : Bool). AnswersBy form (if x then orders_in (read_script octets).state else None) (refusal_text octets) outcome b a) (sym e)
    (subst (λ (x : Option Orders). AnswersBy form (if accepted then x else None) (refusal_text octets) outcome b a) (sym f) h)

read_is : (octets : List ℕ) (start : Draft) → start ≡ Empty → fold_input script_turns start octets ≡ read_script octets
unfolding read_script
read_is octets start e = ap (λ (d : Draft). fold_input script_turns d octets) e

module _ (octets : List ℕ) (start : Draft) (empty : start ≡ Empty) where
  abbrev pub folded : Folded Draft
  folded = fold_input script_turns start octets

  same : folded ≡ read_script octets
  same = read_is octets start empty

  logs_nothing : folded.accepted ≡ true → (read_script octets).text ≡ []
  logs_nothing a = (script_read octets).text (ap (λ (f : Folded Draft). f.accepted) (sym same) ∙ a)

  -- the orders are there
  pub orders_there : (accepted : Bool) (state : Draft) → accepted ≡ true → accepted ≡ folded.accepted → state ≡ folded.state → orders_in state ≡ None → ⊥
  orders_there accepted state a e f none =
      let there = (script_read octets).there (ap (λ (f : Folded Draft). f.accepted) (sym same) ∙ sym e ∙ a) in
      let gone : orders_in (read_script octets).state ≡ None = ap (λ (f : Folded Draft). orders_in f.state) (sym same) ∙ ap orders_in (sym f) ∙ none in
      let found = there.1 in
      absurd cc

  pub orders_good : (state : Draft) (o : Orders) → length octets ≤ most_input → state ≡ folded.state → Some o ≡ orders_in state → IsGood o
  orders_good state o few f e = script_good octets o few (ap (λ (f : Folded Draft). orders_in f.state) (sym same) ∙ ap orders_in (sym f) ∙ sym e)

  module _ (form : OutputForm) (w : WireSight) (c : ClockSight) (s t : SinkSight) where
    -- they were carried out
    pub answers_served : (accepted : Bool) (state : Draft) (o : Orders) (outcome : NodeOutcome) (e : Edges) → accepted ≡ true → accepted ≡ folded.accepted → state ≡ folded.state → Some o ≡ orders_in state → Takes folded.text s t → Serves form o outcome (edges w c t) e → Answers form octets outcome (edges w c s) e
    answers_served accepted state o outcome e a f g k took serves =
        let here : folded.accepted ≡ true = sym f ∙ a in
        let nothing : folded.text ≡ [] = ap (λ (f : Folded Draft). f.text) same ∙ logs_nothing here in
        answers_by form octets outcome (edges w c s) e true (Some o) (ap (λ (f : Folded Draft). f.accepted) (sym same) ∙ here) (ap (λ (f : Folded Draft). orders_in f.state) (sym same) ∙ ap orders_in (sym g) ∙ sym k)
        (serves_from form o outcome w c s t e (subst (λ (xs : List ℕ). Takes xs s t) nothing took) serves)

    -- the script was refused
    pub answers_refused : (accepted : Bool) → accepted ≡ false → accepted ≡ folded.accepted → Takes folded.text s t → Answers form octets Refused (edges w c s) (edges w c t)
    answers_refused accepted a f took =
        let text = subst (λ (f : Folded Draft). Takes f.text s t) same took in
        answers_by form octets Refused (edges w c s) (edges w c t) false (orders_in (read_script octets).state) (ap (λ (f : Folded Draft). f.accepted) (sym same) ∙ sym f ∙ a) refl
        (record { may = tt; wire = refl; clock = refl; log = text.held; sink_faults = text.faults })

    -- its reading stopped
    stopped_by : (outcome : NodeOutcome) (accepted : Bool) (o : Option Orders) → (read_script octets).accepted ≡ accepted → orders_in (read_script octets).state ≡ o → (accepted ≡ true → (read_script octets).text ≡ []) → AppendsPart (refusal_text octets) s.held t.held →
        RefusesAs outcome (refusal_text octets) (edges w c s) (edges w c t) → ((k : Orders) → AppendsPart [] s.held t.held → Serves form k outcome (edges w c s) (edges w c t)) → Answers form octets outcome (edges w c s) (edges w c t)
    stopped_by outcome false o e f none h refuses serves = answers_by form octets outcome (edges w c s) (edges w c t) false o e f refuses
    stopped_by outcome true None e f none h refuses serves = answers_by form octets outcome (edges w c s) (edges w c t) true None e f refuses
    stopped_by outcome true (Some k) e f none h refuses serves =
        answers_by form octets outcome (edges w c s) (edges w c t) true (Some k) e f (serves k (subst (λ (xs : List ℕ). AppendsPart xs s.held t.held) (none refl) h))

    pub answers_memory : StopsIn folded.text stops.NoMemory s t → Answers form octets NoMemory (edges w c s) (edges w c t)
    answers_memory stopped =
        let text = subst (λ (f : Folded Draft). StopsIn f.text stops.NoMemory s t) same stopped in
        let part : AppendsPart (refusal_text octets) s.held t.held = (text.0, text.1.held) in
        stopped_by NoMemory (read_script octets).accepted (orders_in (read_script octets).state) refl refl (script_read octets).text part (record { may = tt; wire = refl; clock = refl; log = part; sink_faults = text.1.faults })
        (λ k nothing. serve_early form k (edges w c s) stops.NoMemory t.held t.faults nothing text.1.faults)

    pub answers_write : StopsIn folded.text stops.WriteFault s t → Answers form octets WriteFault (edges w c s) (edges w c t)
    answers_write stopped =
        let text = subst (λ (f : Folded Draft). StopsIn f.text stops.WriteFault s t) same stopped in
        let part : AppendsPart (refusal_text octets) s.held t.held = (text.count, text.held) in
        stopped_by WriteFault (read_script octets).accepted (orders_in (read_script octets).state) refl refl (script_read octets).text part (record { may = tt; wire = refl; clock = refl; log = part; sink_faults = text.faults })
        (λ k nothing. serve_early form k (edges w c s) stops.WriteFault t.held t.faults nothing text.faults)

-- A CALL OF THE WIRE FAILED, and that was noted, or not
behind_ok : (form : OutputForm) (input : Input) (a z : SinkSight) → NotesBehind {T = Unit {0}} {E = Unit {0}} form input (Ok tt) a z → HasAll (noted_text form input) a z × (z.faults ≡ a.faults)
behind_ok forms.Log input a z e = (subst (λ (s : SinkSight). HasAll [] a s) (sym e) (Appends-nil a.held), ap (λ (s : SinkSight). s.faults) e)
behind_ok forms.Trace input a z h = h

behind_err : (form : OutputForm) (input : Input) (a z : SinkSight) → NotesBehind {T = Unit {0}} {E = Unit {0}} form input (Err tt) a z → (form ≡ forms.Trace) × HasPart (noted_text form input) a z × HasRisen a.faults z.faults
behind_err forms.Log input a z h = absurd h
behind_err forms.Trace input a z h = (refl, h.0, h.1)

pub noted_ok : {T : Type 0} (E : Type 0) (form : OutputForm) (input : Input) (done : T) (a z : SinkSight) → NotesBehind {E = E} form input (Ok done) a z → HasAll (noted_text form input) a z × (z.faults ≡ a.faults)
noted_ok E forms.Log input done a z e = behind_ok forms.Log input a z e
noted_ok E forms.Trace input done a z h = h

pub noted_err : {E : Type 0} (T : Type 0) (form : OutputForm) (input : Input) (fault : E) (a z : SinkSight) → NotesBehind {T = T} form input (Err fault) a z → HasPart (noted_text form input) a z × HasRisen a.faults z.faults
noted_err T forms.Log input fault a z h = absurd h
noted_err T forms.Trace input fault a z h = h

module _ (form : OutputForm) (o : Orders) where
  pub unopened_ends : (w v : WireSight) (c : ClockSight) (a z : SinkSight) (outcome : NodeOutcome) → OpenFails w v → NotesFault FailedOpen form outcome a z → Serves form o outcome (edges w c a) (edges v c z)
  unopened_ends w v c a z Done h n = absurd n
  unopened_ends w v c a z Refused h n = absurd n
  unopened_ends w v c a z NoMemory h n = absurd n
  unopened_ends w v c a z ClockStill h n = absurd n
  unopened_ends w v c a z WireFault h n = let k = behind_ok form FailedOpen a z n in serve_unopened form o (edges w c a) v z.held z.faults h k.0 k.1
  unopened_ends w v c a z WriteFault h n = let k = behind_err form FailedOpen a z n in serve_unopened_write form o (edges w c a) v z.held z.faults k.0 h k.1 k.2

  pub untaken_ends : (b : Edges) (gives : ℕ) (watch : Watch) (node : Node) (w v : WireSight) (c : ClockSight) (a z : SinkSight) (wait : ℕ) (outcome : NodeOutcome) → Passed form o b gives watch (Some node) (edges w c a) → TakeFails w v → HasWaited wait v → wait ≡ wait_in (pause_of o watch node) → NotesFault FailedTake form outcome a z → Serves form o outcome b (edges v c z)
  untaken_ends b gives watch node w v c a z wait Done p h waited is n = absurd n
  untaken_ends b gives watch node w v c a z wait Refused p h waited is n = absurd n
  untaken_ends b gives watch node w v c a z wait NoMemory p h waited is n = absurd n
  untaken_ends b gives watch node w v c a z wait ClockStill p h waited is n = absurd n
  untaken_ends b gives watch node w v c a z wait WireFault p h waited is n = let k = behind_ok form FailedTake a z n in serve_wire form o b gives watch node (edges w c a) v z.held z.faults wait p h waited is k.0 k.1
  untaken_ends b gives watch node w v c a z wait WriteFault p h waited is n = let k = behind_err form FailedTake a z n in serve_wire_write form o b gives watch node (edges w c a) v z.held z.faults wait k.0 p h waited is k.1 k.2
