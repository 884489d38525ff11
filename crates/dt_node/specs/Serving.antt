-- What a run of a node leaves: what is true of it, answer by answer.
use Rattle.std.specs.Prelude.{◌≡◌, ◌⊎◌, ℕ, ◌+◌, ◌*◌, ◌^◌, ◌<◌, ◌≤◌, Bool, true, false, All, List, [], ◌∷◌, length, map, take, Option, Some, None, IfSome, min, Ok}
use Rattle.std.specs.Io.KnownBytes.{Appends}
use Rattle.std.specs.List.{range_with_len}
use Rattle.dt_edges.specs.Clocks.{ClockSight, reading_at}
use Rattle.dt_edges.specs.Counts.{HasRisen, is_planned, last_count}
use Rattle.dt_edges.specs.Sinks.{SinkSight}
use Rattle.dt_edges.specs.Telling.{NotesAll}
use Rattle.dt_edges.specs.Wires.{Datagram, Plan, WireSight, cut_to, entry_at}
use Rattle.dt_log.specs.Logs.{log_text}
use Rattle.dt_node.specs.declared.outcomes.NodeOutcome.{NodeOutcome}
use Rattle.dt_node.specs.declared.outcomes.NodeOutcome.TheVariants.{Done, Refused, NoMemory, WireFault, ClockStill, WriteFault}
use Rattle.dt_script.specs.Orders.{Orders, opening_of}
use Rattle.dt_node.specs.Acts.{Deed, act_of, log_lines, node_lines, sent_frames, node_frames, fates}
use Rattle.dt_node.specs.Runs.{Ending, Stopped, StoodStill, Unfinished, node_run, most_equal}
use Rattle.dt_node.specs.HandingIn.{IsAgainOf, handed_again, handed_over}
use Rattle.dt_node.specs.InOrder.{UnsentInOrder, without_unsent_lines}
use Rattle.dt_node.specs.declared.output_forms.OutputForm.{OutputForm}
use Rattle.dt_node.specs.declared.output_forms.OutputForm.TheVariants as forms
use Rattle.dt_node.specs.Deeds.{Sublist, lost, lost_numbers, FatesFrom}
use Rattle.dt_node.specs.TakingIn.{run_inputs}
use Rattle.dt_node.specs.Waiting.{Asks}
use Rattle.dt_trace.specs.Inputs.{trace_text}
use Rattle.dt_trace.specs.Standing.{Stand, noted_all}
use Rattle.dt_trace.specs.Traces.{Recorded, nothing, trace_of}
use Rattle.dt_trace.specs.Lines.{most_taken}

-- a wire, a clock and a sink, as they tell: of the sink what it holds, and its count of faults
pub record Edges : Type 0 where
  pub wire : WireSight
  pub clock : ClockSight
  pub held : Option (List ℕ)
  pub faults : ℕ

abbrev pub edges : WireSight → ClockSight → SinkSight → Edges
edges wire clock out = record { wire = wire; clock = clock; held = out.held; faults = out.faults }

-- what is seen of a wire, a clock and a sink by what each kind tells
abbrev pub seen_by : {W C K : Type 0} → (W → WireSight) → (C → ClockSight) → (K → SinkSight) → W → C → K → Edges
seen_by wire clock sink w c k = edges (wire w) (clock c) (sink k)

-- PLANS

-- the first readings of a plan, the last one repeated
abbrev pub first_readings : List ℕ → ℕ → List ℕ
first_readings plan n = map (reading_at plan) (range_with_len 0 n)

-- what the first takes find by a plan that weren't meant to fail
abbrev pub first_entries : Plan → ℕ → List (Option Datagram)
first_entries p n = map (λ k. cut_to most_taken (entry_at p.entries k)) (range_with_len 0 n)

-- none of the first calls fails
abbrev pub NoneFails : List ℕ → ℕ → Type 0
NoneFails failing n = (k : ℕ) → k < n → is_planned failing (k + 1) ≡ false

-- no call was made yet
pub record IsFresh (w : WireSight) : Type 0 where
  pub takes : w.takes ≡ 0
  pub gives : w.gives ≡ 0
  pub used : w.used ≡ 0

-- ANSWERS

-- answers after which nothing was cut off
abbrev pub IsWhole : NodeOutcome → Type 0
IsWhole Done = Unit {0}
IsWhole WireFault = Unit {0}
IsWhole ClockStill = Unit {0}
IsWhole Refused = ⊥
IsWhole NoMemory = ⊥
IsWhole WriteFault = ⊥

-- a first part of the text stands after what the sink held, where it tells that
abbrev pub AppendsPart : List ℕ → Option (List ℕ) → Option (List ℕ) → Type 0
AppendsPart text before after = (count : ℕ) × Appends before after (take count text)

-- The text stands there, or a first part of it.
abbrev pub Logs : NodeOutcome → List ℕ → Option (List ℕ) → Option (List ℕ) → Type 0
Logs Done text before after = Appends before after text
Logs Refused text before after = Appends before after text
Logs WireFault text before after = Appends before after text
Logs ClockStill text before after = Appends before after text
Logs NoMemory text before after = AppendsPart text before after
Logs WriteFault text before after = AppendsPart text before after

-- the sink's count of faults
abbrev pub SinkFaults : NodeOutcome → ℕ → ℕ → Type 0
SinkFaults WriteFault before after = HasRisen before after
SinkFaults Done before after = after ≡ before
SinkFaults Refused before after = after ≡ before
SinkFaults NoMemory before after = after ≡ before
SinkFaults WireFault before after = after ≡ before
SinkFaults ClockStill before after = after ≡ before

-- Done comes where a turn met a due stop, and ClockStill where the clock stood still before that.
abbrev pub EndsAs : NodeOutcome → Ending → Type 0
EndsAs Done ending = ending ≡ Stopped
EndsAs ClockStill ending = ending ≡ StoodStill
EndsAs WireFault ending = ending ≡ Unfinished
EndsAs NoMemory ending = Unit {0}
EndsAs WriteFault ending = Unit {0}
EndsAs Refused ending = ⊥

-- how many takes answered Ok, by the number of readings
abbrev pub CountsTakes : NodeOutcome → ℕ → ℕ → Type 0
CountsTakes Done readings takes = takes + 1 ≡ readings
CountsTakes ClockStill readings takes = takes ≡ readings
CountsTakes WireFault readings takes = ((readings ≡ 0) × (takes ≡ 0)) ⊎ (takes + 1 ≡ readings)
CountsTakes Refused readings takes = Unit {0}
CountsTakes NoMemory readings takes = Unit {0}
CountsTakes WriteFault readings takes = Unit {0}

-- the wire was opened, and it isn't the open that failed
abbrev pub HasOpened : NodeOutcome → ℕ → Type 0
HasOpened Done readings = Unit {0}
HasOpened ClockStill readings = Unit {0}
HasOpened WireFault readings = 0 < readings
HasOpened Refused readings = ⊥
HasOpened NoMemory readings = ⊥
HasOpened WriteFault readings = ⊥

-- The count of faults of open and take. In a trace the put may fail that tells of an open or of a take that failed
abbrev pub TakeFaults : OutputForm → NodeOutcome → ℕ → ℕ → Type 0
TakeFaults form WireFault before after = HasRisen before after
TakeFaults form Done before after = after ≡ before
TakeFaults form Refused before after = after ≡ before
TakeFaults form NoMemory before after = after ≡ before
TakeFaults form ClockStill before after = after ≡ before
TakeFaults forms.Log WriteFault before after = after ≡ before
TakeFaults forms.Trace WriteFault before after = (after ≡ before) ⊎ HasRisen before after

-- which of the calls fail by the plan
abbrev pub FailsAs : NodeOutcome → Plan → ℕ → ℕ → Type 0
FailsAs Done p readings takes = (p.open_fails ≡ false) × NoneFails p.failing_takes takes
FailsAs ClockStill p readings takes = (p.open_fails ≡ false) × NoneFails p.failing_takes takes
FailsAs WireFault p readings takes =
    ((p.open_fails ≡ true) × (readings ≡ 0))
    ⊎ ((p.open_fails ≡ false) × (0 < readings) × NoneFails p.failing_takes takes × (is_planned p.failing_takes (takes + 1) ≡ true))
FailsAs Refused p readings takes = Unit {0}
FailsAs NoMemory p readings takes = Unit {0}
FailsAs WriteFault p readings takes = Unit {0}

-- the wire was given some of the node's frames, in their order
pub record GivesSome (deeds : List Deed) (before after : Option (List Datagram)) : Type 0 where
  pub frames : List Datagram
  pub some : Sublist frames (node_frames (map act_of deeds))
  pub given : NotesAll frames before after

-- what the wire was given: the frames that aren't lost, or some of the node's frames
abbrev pub GivesAs : NodeOutcome → List Deed → Option (List Datagram) → Option (List Datagram) → Type 0
GivesAs Done deeds before after = NotesAll (sent_frames deeds) before after
GivesAs Refused deeds before after = NotesAll (sent_frames deeds) before after
GivesAs WireFault deeds before after = NotesAll (sent_frames deeds) before after
GivesAs ClockStill deeds before after = NotesAll (sent_frames deeds) before after
GivesAs NoMemory deeds before after = GivesSome deeds before after
GivesAs WriteFault deeds before after = GivesSome deeds before after

-- WHAT IS WRITTEN OF A RUN

-- the inputs of a run, with the numbers of the takes that failed, and whether the wire wasn't opened
abbrev pub recorded : List ℕ → List (Option Datagram) → List Deed → List ℕ → Bool → Recorded
recorded readings takes deeds failing unopened = record { readings = readings; takes = takes; failing_takes = failing; failing_gives = lost_numbers 0 (fates deeds); open_fails = unopened }

-- The lines of a trace: those of the run's inputs, one after another. They come to what is recorded. With fewer than 2^64 gives each may stand where it does.
pub record Traced (o : Orders) (readings : List ℕ) (takes : List (Option Datagram)) (deeds : List Deed) (failing : List ℕ) (unopened : Bool) (text : List ℕ) : Type 0 where
  pub spelled : text ≡ trace_text (run_inputs o readings takes deeds failing unopened)
  pub noted : noted_all nothing (run_inputs o readings takes deeds failing unopened) ≡ recorded readings takes deeds failing unopened
  pub stand : length (fates deeds) < 2 ^ 64 → Stand 1 nothing (run_inputs o readings takes deeds failing unopened)

-- Which calls failed: none, or the open, or the last take. After a put that failed it may be any of these.
abbrev pub HasFailed : NodeOutcome → (readings takes : ℕ) → List ℕ → Bool → Type 0
HasFailed Done readings takes failing unopened = (failing ≡ []) × (unopened ≡ false)
HasFailed ClockStill readings takes failing unopened = (failing ≡ []) × (unopened ≡ false)
HasFailed NoMemory readings takes failing unopened = (failing ≡ []) × (unopened ≡ false)
HasFailed WireFault readings takes failing unopened = ((readings ≡ 0) × (failing ≡ []) × (unopened ≡ true)) ⊎ ((0 < readings) × (failing ≡ (takes + 1) ∷ []) × (unopened ≡ false))
HasFailed WriteFault readings takes failing unopened = ((failing ≡ []) × (unopened ≡ false)) ⊎ (((readings ≡ 0) × (failing ≡ []) × (unopened ≡ true)) ⊎ ((0 < readings) × (failing ≡ (takes + 1) ∷ []) × (unopened ≡ false)))
HasFailed Refused readings takes failing unopened = ⊥

-- The trace of a run. It is read back as what the run took in.
pub record IsTrace (o : Orders) (outcome : NodeOutcome) (readings : List ℕ) (takes : List (Option Datagram)) (deeds : List Deed) (text : List ℕ) : Type 0 where
  pub failing : List ℕ
  pub unopened : Bool
  pub failed : HasFailed outcome (length readings) (length takes) failing unopened
  pub traced : Traced o readings takes deeds failing unopened text
  pub read : length (fates deeds) < 2 ^ 64 → trace_of text ≡ Ok (recorded readings takes deeds failing unopened)

-- The log: the lines of the run, and after the `put` line of each frame that was lost its `unsent` line. Or the trace.
abbrev pub Written : OutputForm → Orders → NodeOutcome → List ℕ → List (Option Datagram) → List Deed → List ℕ → Type 0
Written forms.Log o outcome readings takes deeds text = text ≡ log_text (log_lines o.setup.me deeds)
Written forms.Trace o outcome readings takes deeds text = IsTrace o outcome readings takes deeds text

-- WHAT IS TRUE OF A RUN OF ACCEPTED ORDERS, by the form of what is written

pub record Serves (form : OutputForm) (o : Orders) (outcome : NodeOutcome) (before after : Edges) : Type 0 where
  -- the readings, what the takes handed over, and the acts as they were done
  pub readings : List ℕ
  pub takes : List (Option Datagram)
  pub deeds : List Deed
  -- the clock and the wire tell these, where they tell
  pub told_readings : NotesAll readings before.clock.readings after.clock.readings
  pub told_takes : NotesAll takes before.wire.taken after.wire.taken
  -- the acts are those of the node's run
  pub acts : map act_of deeds ≡ (node_run o readings takes).acts
  -- what is written
  pub text : List ℕ
  pub written : Written form o outcome readings takes deeds text
  pub log : Logs outcome text before.held after.held
  -- in a log each `unsent` line stands directly after the `put` line of its link
  pub unsent : UnsentInOrder None (log_lines o.setup.me deeds)
  -- without the lines whose third word is `unsent` the text is the node's
  pub apart : without_unsent_lines (log_text (log_lines o.setup.me deeds)) ≡ log_text (node_lines o.setup.me (node_run o readings takes).acts)
  pub ends : EndsAs outcome (node_run o readings takes).ending
  -- what is handed in again, a take handed over: its life is less by more than the time since, and nothing else has changed
  pub again : All (IsAgainOf (handed_over readings takes)) (handed_again o readings takes)
  pub counted : CountsTakes outcome (length readings) (length takes)
  -- a run has so many turns at most
  pub few : length readings ≤ most_equal * o.stop + 1
  -- the wire is opened once, and each take is to wait to what is due next, and no longer
  pub asks : Asks o outcome readings takes before.wire after.wire
  pub opening : HasOpened outcome (length readings) → IfSome after.wire.opening (λ now. now ≡ Some (opening_of o))
  pub take_faults : TakeFaults form outcome before.wire.take_faults after.wire.take_faults
  pub give_faults : min (before.wire.give_faults + lost deeds) last_count ≤ after.wire.give_faults
  pub sink_faults : SinkFaults outcome before.faults after.faults
  pub frames : GivesAs outcome deeds before.wire.given after.wire.given
  -- plans
  pub same_wire_plan : after.wire.plan ≡ before.wire.plan
  pub same_clock_plan : after.clock.plan ≡ before.clock.plan
  pub planned_readings : IfSome before.clock.plan (λ p. before.clock.readings ≡ Some [] → readings ≡ first_readings p (length readings))
  pub planned_takes : IfSome before.wire.plan (λ p. IsFresh before.wire → takes ≡ first_entries p (length takes))
  pub planned_faults : IfSome before.wire.plan (λ p. IsFresh before.wire → FailsAs outcome p (length readings) (length takes))
  pub planned_fates : IfSome before.wire.plan (λ p. IsFresh before.wire → IsWhole outcome → length (fates deeds) < 2 ^ 64 → FatesFrom p.failing_gives 0 (fates deeds))
