-- What was done of a node's acts, and what was reported of it.
use Rattle.std.specs.Prelude.{◌≡◌, ℕ, ◌+◌, ◌≤◌, Bool, true, false, List, [], ◌∷◌, ◌++◌, length, map, take, IfSome, min, Option, Result, Ok, Err}
use Rattle.std.specs.Io.KnownBytes.{Appends}
use Rattle.dt_edges.specs.Counts.{HasRisen, is_planned, last_count, next_count}
use Rattle.dt_edges.specs.Sinks.{SinkSight, Takes}
use Rattle.dt_edges.specs.Telling.{NotesAll}
use Rattle.dt_edges.specs.Wires.{Datagram, SameTaking, WireSight}
use Rattle.dt_log.specs.Logs.{log_text}
use Rattle.dt_fold.specs.declared.stops.Stop.{Stop}
use Rattle.dt_fold.specs.declared.stops.Stop.TheVariants as stops
use Rattle.dt_fold.specs.Logging.{StopsIn}
use Rattle.dt_trace.specs.Inputs.{FailedGive, trace_text}
use Rattle.dt_world_model.specs.Script.{Script}
use Rattle.dt_node.specs.Acts.{Act, Tells, Hands, Deed, Says, Gives, act_of, acts_of, answer_of, log_lines, sent_frames, node_frames, fates}
use Rattle.dt_node.specs.declared.output_forms.OutputForm.{OutputForm}
use Rattle.dt_node.specs.declared.output_forms.OutputForm.TheVariants as forms
use Rattle.dt_node.specs.declared.node_logs.NodeLog.{NodeLog}
use Rattle.dt_node.specs.declared.recorders.Writer.{Writer}
use Rattle.dt_node.specs.Logging.{LogSight}

-- some of these, in their order
pub data Sublist {A : Type 0} : List A → List A → Type 0 where
  none : Sublist [] []
  left : (x : A) (xs ys : List A) → Sublist xs ys → Sublist xs (x ∷ ys)
  held : (x : A) (xs ys : List A) → Sublist xs ys → Sublist (x ∷ xs) (x ∷ ys)

-- how many are true
abbrev pub count_true : List Bool → ℕ
count_true [] = 0
count_true (true ∷ bs) = count_true bs + 1
count_true (false ∷ bs) = count_true bs

-- how many frames were lost
abbrev pub lost : List Deed → ℕ
lost deeds = count_true (fates deeds)

-- Of gives one after another, the first of which has the number after `calls`, those fail that are listed.
abbrev pub FatesFrom : List ℕ → ℕ → List Bool → Type 0
FatesFrom failing calls [] = Unit {0}
FatesFrom failing calls (gone ∷ more) = (gone ≡ is_planned failing (calls + 1)) × FatesFrom failing (calls + 1) more

-- THE NUMBERS OF GIVES, which are counted up to 2^64 - 1

-- so many gives, and those of these frames
abbrev pub counted : ℕ → List Bool → ℕ
counted calls [] = calls
counted calls (gone ∷ more) = counted (next_count calls) more

-- the numbers of those that were lost
abbrev pub lost_numbers : ℕ → List Bool → List ℕ
lost_numbers calls [] = []
lost_numbers calls (true ∷ more) = next_count calls ∷ lost_numbers (next_count calls) more
lost_numbers calls (false ∷ more) = lost_numbers (next_count calls) more

-- WHAT IS WRITTEN of deeds, after so many gives: the lines of a log, or those of a trace that tell which gives failed
abbrev pub deeds_text : OutputForm → (gives me : ℕ) → List Deed → List ℕ
deeds_text forms.Log gives me deeds = log_text (log_lines me deeds)
deeds_text forms.Trace gives me deeds = trace_text (map FailedGive (lost_numbers gives (fates deeds)))

-- The frames of these deeds were given: the wire has taken those that aren't lost, and the others are faults.
pub record Gave (deeds : List Deed) (w v : WireSight) : Type 0 where
  pub given : NotesAll (sent_frames deeds) w.given v.given
  pub lost : min (w.give_faults + lost deeds) last_count ≤ v.give_faults
  pub gives : w.gives + length (fates deeds) ≤ last_count → v.gives ≡ w.gives + length (fates deeds)
  pub plan : IfSome w.plan (λ p. w.gives + length (fates deeds) ≤ last_count → FatesFrom p.failing_gives w.gives (fates deeds))
  pub same : SameTaking w v

-- Some of the frames were given. The others count as not lost.
pub record GaveSome (deeds : List Deed) (w v : WireSight) : Type 0 where
  pub frames : List Datagram
  pub some : Sublist frames (node_frames (map act_of deeds))
  pub given : NotesAll frames w.given v.given
  pub lost : min (w.give_faults + lost deeds) last_count ≤ v.give_faults
  pub same : SameTaking w v

-- All of these deeds were done.
pub record Did (deeds : List Deed) (s t : LogSight) : Type 0 where
  pub fixed : t.fixed ≡ s.fixed
  pub gives : t.gives ≡ counted s.gives (fates deeds)
  pub failed : t.failed ≡ false
  pub out : Takes (deeds_text s.fixed.form s.gives s.fixed.me deeds) s.out t.out
  pub wire : Gave deeds s.wire t.wire

-- why nothing more is done: a line couldn't be written, or memory ran out
abbrev pub stop_by : Bool → Stop
stop_by true = stops.WriteFault
stop_by false = stops.NoMemory

-- A first part of these deeds was done, and the last line of it may be cut.
pub record DidSome (deeds : List Deed) (s t : LogSight) : Type 0 where
  pub fixed : t.fixed ≡ s.fixed
  pub out : StopsIn (deeds_text s.fixed.form s.gives s.fixed.me deeds) (stop_by t.failed) s.out t.out
  pub wire : GaveSome deeds s.wire t.wire

-- an act that wasn't done, as if it were done and nothing were lost
abbrev pub unlost : Act → Deed
unlost (Tells moment told) = Says moment told
unlost (Hands moment link octets) = Gives moment link octets false

-- WHAT A TURN LEAVES

-- how many frames were given, and what a wire and a sink tell
pub record Scene : Type 0 where
  pub gives : ℕ
  pub wire : WireSight
  pub held : Option (List ℕ)
  pub faults : ℕ

abbrev pub scene : ℕ → WireSight → SinkSight → Scene
scene gives wire out = record { gives = gives; wire = wire; held = out.held; faults = out.faults }

-- of what writes over a wire and a sink, and of a log
abbrev pub written_scene : {W K : Type 0} → (W → WireSight) → (K → SinkSight) → Writer → W → K → Scene
written_scene wire sink writer w k = scene writer.gives (wire w) (sink k)

abbrev pub log_scene : {W K : Type 0} → (W → WireSight) → (K → SinkSight) → NodeLog W K → Scene
log_scene wire sink log = written_scene wire sink log.writer log.wire.now log.out.now

-- all of these deeds were done, and something was written first
pub record Wrote (form : OutputForm) (me : ℕ) (first : List ℕ) (deeds : List Deed) (s t : Scene) : Type 0 where
  pub gives : t.gives ≡ counted s.gives (fates deeds)
  pub held : Appends s.held t.held (first ++ deeds_text form s.gives me deeds)
  pub faults : t.faults ≡ s.faults
  pub wire : Gave deeds s.wire t.wire

abbrev pub FaultsBy : Stop → ℕ → ℕ → Type 0
FaultsBy stops.NoMemory before after = after ≡ before
FaultsBy stops.WriteFault before after = HasRisen before after

-- a first part of them was done
pub record WroteSome (form : OutputForm) (me : ℕ) (first : List ℕ) (deeds : List Deed) (stop : Stop) (s t : Scene) : Type 0 where
  pub held : (count : ℕ) × Appends s.held t.held (take count (first ++ deeds_text form s.gives me deeds))
  pub faults : FaultsBy stop s.faults t.faults
  pub wire : GaveSome deeds s.wire t.wire

-- A turn by its script: it was played whole, or it stopped and says why.
abbrev pub TurnEnds : {A : Type 0} → Result Bool Stop → OutputForm → (me now : ℕ) → List ℕ → Script (Unit {0}) A → A → Scene → Scene → Type 0
TurnEnds (Ok stopped) form me now first script answer s t = (deeds : List Deed) × (map act_of deeds ≡ acts_of now script) × Wrote form me first deeds s t × (answer_of script ≡ answer)
TurnEnds (Err stop) form me now first script answer s t = (deeds : List Deed) × (map act_of deeds ≡ acts_of now script) × WroteSome form me first deeds stop s t
