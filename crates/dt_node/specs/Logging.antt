-- What a log writes of what is told, and what it gives to the wire.
use Rattle.std.specs.Prelude.{◌≡◌, ℕ, Bool, true, false, List, [], take, Option, Result, Ok, Err}
use Rattle.std.specs.Io.KnownBytes.{Appends}
use Rattle.std.specs.Borrow.{GName}
use Rattle.dt_edges.specs.Counts.{HasRisen, next_count}
use Rattle.dt_edges.specs.Sinks.{Grows, Puts, SinkSight, Takes, TakesPart}
use Rattle.dt_edges.specs.Wires.{Datagram, GiveFails, GivesOne, WireSight}
use Rattle.dt_reports.specs.Told.{Told}
use Rattle.dt_reports.specs.declared.reports.Report.TheVariants as report
use Rattle.dt_log.specs.Logs.{entry_text}
use Rattle.dt_fold.specs.Logging.{HasAll, HasPart, with_waiting}
use Rattle.dt_trace.specs.Inputs.{FailedGive, Input, input_text}
use Rattle.dt_world_model.specs.Host.{Host}
use Rattle.dt_world_model.specs.Relay.{Parcel}
use Rattle.dt_node.specs.Acts.{entry}
use Rattle.dt_node.specs.declared.output_forms.OutputForm.{OutputForm}
use Rattle.dt_node.specs.declared.output_forms.OutputForm.TheVariants as forms
use Rattle.dt_node.specs.declared.node_logs.NodeLog.{NodeLog}
use Rattle.dt_node.specs.declared.outcomes.NodeOutcome.{NodeOutcome}
use Rattle.dt_node.specs.declared.outcomes.NodeOutcome.TheVariants as outcomes

-- WHAT IS WRITTEN, by the form: a log has a line of each report, and a trace one of each input. A give that failed has its line in both

-- of an input
abbrev pub noted_text : OutputForm → Input → List ℕ
noted_text forms.Log input = []
noted_text forms.Trace input = input_text input

-- what no call of a log changes: the form of what it writes, the moment and the node of its lines, and which wire and sink it has
pub record Fixed : Type 0 where
  pub form : OutputForm
  pub moment : ℕ
  pub me : ℕ
  pub wire : GName
  pub out : GName

-- a log, by what its wire and its sink tell; `failed` after a line that couldn't be written
pub record LogSight : Type 0 where
  pub fixed : Fixed
  -- how many frames were given
  pub gives : ℕ
  pub failed : Bool
  pub out : SinkSight
  pub wire : WireSight

abbrev pub fixed_of : {W K : Type 0} → NodeLog W K → Fixed
fixed_of log = record { form = log.writer.form; moment = log.moment; me = log.me; wire = log.wire.ghost_name; out = log.out.ghost_name }

abbrev pub log_sight : {W K : Type 0} → (W → WireSight) → (K → SinkSight) → NodeLog W K → LogSight
log_sight wire sink log = record { fixed = fixed_of log; gives = log.writer.gives; failed = log.failed; out = sink log.out.now; wire = wire log.wire.now }

-- a text was put: whole, or a first part of it, where a put failed
abbrev pub WroteBy : Bool → List ℕ → SinkSight → SinkSight → Type 0
WroteBy false text before after = Takes text before after
WroteBy true text before after = TakesPart text before after

abbrev pub line_at : Fixed → Told → List ℕ
line_at fixed told = entry_text (entry fixed.me fixed.moment told)

-- what is written of a report, and of the give of this number that failed
abbrev pub told_text : OutputForm → Fixed → Told → List ℕ
told_text forms.Log fixed told = line_at fixed told
told_text forms.Trace fixed told = []

abbrev pub lost_text : OutputForm → Fixed → (number link : ℕ) → List ℕ
lost_text forms.Log fixed number link = line_at fixed (report.Unsent link)
lost_text forms.Trace fixed number link = input_text (FailedGive number)

abbrev pub TellsIf : Bool → Told → LogSight → LogSight → Type 0
TellsIf true told s t = t ≡ s
TellsIf false told s t = (t.fixed ≡ s.fixed) × (t.gives ≡ s.gives) × (t.wire ≡ s.wire) × WroteBy t.failed (told_text s.fixed.form s.fixed told) s.out t.out

-- A report is made: its line is written, if it has one. After a line that couldn't be written nothing is done any more.
abbrev pub LogTells : LogSight → Told → LogSight → Type 0
LogTells s told t = TellsIf s.failed told s t

-- a frame was given, and lost or not
abbrev pub GaveBy : Bool → Datagram → WireSight → WireSight → Type 0
GaveBy true d before after = GiveFails before after
GaveBy false d before after = GivesOne d before after

abbrev pub UnsentIf : Bool → ℕ → LogSight → LogSight → Type 0
UnsentIf true link s t = WroteBy t.failed (lost_text s.fixed.form s.fixed t.gives link) s.out t.out
UnsentIf false link s t = (t.failed ≡ false) × (t.out ≡ s.out)

-- the line of the last give, which failed
pub record LogLoses (link : ℕ) (s t : LogSight) : Type 0 where
  pub fixed : t.fixed ≡ s.fixed
  pub gives : t.gives ≡ s.gives
  pub wire : t.wire ≡ s.wire
  pub out : WroteBy t.failed (lost_text s.fixed.form s.fixed s.gives link) s.out t.out

abbrev pub HandsIf : Bool → ℕ → List ℕ → LogSight → LogSight → Type 0
HandsIf true link octets s t = t ≡ s
HandsIf false link octets s t =
    (lost : Bool) × (t.fixed ≡ s.fixed) × (t.gives ≡ next_count s.gives) × GaveBy lost (record { link = link; octets = octets }) s.wire t.wire × UnsentIf lost link s t

-- A frame is handed out: it is given to the wire, and where it is lost a line is written.
abbrev pub LogHands : LogSight → ℕ → List ℕ → LogSight → Type 0
LogHands s link octets t = HandsIf s.failed link octets s t

-- THE LOG AS A VISITOR

abbrev pub log_tells : {V : Type 0} → (V → LogSight) → V → Told → V → Type 0
log_tells view v told w = LogTells (view v) told (view w)

abbrev pub log_tags : {V : Type 0} → V → Host → List ℕ → Unit {0} → V → Type 0
log_tags v host octets tag w = w ≡ v

abbrev pub log_hands : {V : Type 0} → (V → LogSight) → V → ℕ → Parcel (Unit {0}) → V → Type 0
log_hands view v link parcel w = LogHands (view v) link parcel.octets (view w)

abbrev pub log_fails : {V : Type 0} → V → V → Type 0
log_fails v w = ⊥

-- AN INPUT IS NOTED on a sink: its line is written where the form has one
abbrev pub Notes : {K T E : Type 0} → (K → SinkSight) → OutputForm → Input → Result T E → K → K → Type 0
Notes sight forms.Log input (Ok done) old new = new ≡ old
Notes sight forms.Log input (Err fault) old new = ⊥
Notes sight forms.Trace input result old new = Puts sight (input_text input) result old new

-- the same of a sink behind an empty buffer, which is empty again
abbrev pub NotesBehind : {T E : Type 0} → OutputForm → Input → Result T E → SinkSight → SinkSight → Type 0
NotesBehind forms.Log input (Ok done) before after = after ≡ before
NotesBehind forms.Log input (Err fault) before after = ⊥
NotesBehind forms.Trace input (Ok done) before after = HasAll (input_text input) before after × (after.faults ≡ before.faults)
NotesBehind forms.Trace input (Err fault) before after = HasPart (input_text input) before after × HasRisen before.faults after.faults

-- a fault of the wire is noted: that is the end, or the put failed that told it
abbrev pub NotesFault : Input → OutputForm → NodeOutcome → SinkSight → SinkSight → Type 0
NotesFault input form outcomes.Done before after = ⊥
NotesFault input form outcomes.Refused before after = ⊥
NotesFault input form outcomes.NoMemory before after = ⊥
NotesFault input form outcomes.ClockStill before after = ⊥
NotesFault input form outcomes.WireFault before after = NotesBehind {T = Unit {0}} {E = Unit {0}} form input (Ok tt) before after
NotesFault input form outcomes.WriteFault before after = NotesBehind {T = Unit {0}} {E = Unit {0}} form input (Err tt) before after

-- what a sink shows of the octets that it holds, and its faults
pub record Shown : Type 0 where
  pub held : Option (List ℕ)
  pub reached : Option (List ℕ)
  pub faults : ℕ

abbrev pub shown : SinkSight → Shown
shown s = record { held = s.held; reached = s.reached; faults = s.faults }

-- of a sink and the octets that wait for it
abbrev pub shown_behind : SinkSight → List ℕ → Shown
shown_behind s waiting = shown (with_waiting s waiting)

-- a text was put whole, or a first part of it
abbrev pub Gathers : {T E : Type 0} → List ℕ → Result T E → Shown → Shown → Type 0
Gathers text (Ok done) before after = Appends before.held after.held text × Grows before.reached after.reached × (after.faults ≡ before.faults)
Gathers text (Err fault) before after = ((count : ℕ) × Appends before.held after.held (take count text)) × Grows before.reached after.reached × HasRisen before.faults after.faults
