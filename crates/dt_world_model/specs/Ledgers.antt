-- The ledgers and the runs of all flows, and how they follow the reports of a station's event. They follow the reports and nothing else.
use Rattle.std.specs.Prelude.{ℕ, ◌+◌, Bool, List, [], ◌++◌, fold, length, Option, Some, None, unwrap_or}
use Rattle.dt_items.specs.declared.item.Item.{Item}
use Rattle.dt_units.specs.declared.parameters.Params.{Params}
use Rattle.dt_units.specs.declared.endpoints.Flow.{Flow}
use Rattle.dt_layout.specs.Spelling.{PacketValue, Data, Ack, Meet, Close}
use Rattle.dt_reports.specs.declared.flow_totals.Totals.{Totals}
use Rattle.dt_reports.specs.Matters as matter
use Rattle.dt_reports.specs.Matters.{Matter, matter_of}
use Rattle.dt_reports.specs.Told.{Told}
use Rattle.dt_flow_model.specs.declared.rows.Fate.{Fate}
use Rattle.dt_flow_model.specs.declared.rows.Fate.TheVariants as fate
use Rattle.dt_flow_model.specs.declared.rows.Taken.{Taken}
use Rattle.dt_flow_model.specs.declared.rows.Given.{Given}
use Rattle.dt_flow_model.specs.declared.rows.ReadCount.{ReadCount}
use Rattle.dt_flow_model.specs.Ledger.{settle, note_first, take_rows, given_rows, note_read, first_unsent}
use Rattle.dt_flow_model.specs.SendRecord.{SendRecord}
use Rattle.dt_flow_model.specs.Flow.{Crossing, Run, ack_place, crossings_told, new_flow, run_goes_on, run_told, tag_of}
use Rattle.dt_flow_model.specs.Frames.{Mark, flow_in, value_in}
use Rattle.dt_world_model.specs.Tables.{same_flow, look, total, write}
use Rattle.dt_world_model.specs.Host.{Host, sender_at, receiver_at}

-- the ledger of one flow
pub record FlowLedger : Type 0 where
  pub taken : List Taken
  pub given : List Given
  pub reads : List ReadCount

-- the run of one flow, and its last three crossings
pub record FlowRun : Type 0 where
  pub run : Option Run
  pub crossings : List Crossing

-- those of all flows, in the order of their first octets
pub record Ledgers : Type 0 where
  pub rows : List (Flow × FlowLedger)
  pub runs : List (Flow × FlowRun)

abbrev pub ledger_of : Ledgers → Flow → FlowLedger
ledger_of all f = unwrap_or (look same_flow f all.rows) (record { taken = []; given = []; reads = [] })

abbrev pub run_of : Ledgers → Flow → FlowRun
run_of all f = unwrap_or (look same_flow f all.runs) (record { run = None; crossings = [] })

-- WHAT A REPORT SAYS OF THE WORLD: a change of one flow's ledger and run, a packet that leaves a station, or neither.
pub data Change : Type 0 where
  -- octets were taken
  Takes : Change
  -- so many octets went out for the first time
  Transmits : (count : ℕ) → Change
  -- a segment went out again, or a rendezvous packet did
  TransmitsAgain : Change
  -- so many octets were given up, and so many were acknowledged
  GivesUp : (count : ℕ) → Change
  Settles : (count : ℕ) → Change
  -- octets were accepted, as a new run or not
  Accepts : (run : Bool) → Change
  -- so many octets were read
  ReadsOut : (count : ℕ) → Change

pub data Effect : Type 0 where
  Changes : (flow : Flow) → (change : Change) → Effect
  Leaves : (link life : ℕ) → Effect
  Neither : Effect

abbrev pub effect_by : Matter → Effect
effect_by (matter.Taken f count) = Changes f Takes
effect_by (matter.Refused f fault) = Neither
effect_by (matter.Transmitted f number count) = Changes f (Transmits count)
effect_by (matter.Retransmitted f) = Changes f TransmitsAgain
effect_by (matter.GivenUp f count) = Changes f (GivesUp count)
effect_by (matter.Acknowledged f count window) = Changes f (Settles count)
effect_by (matter.Accepted f number count run) = Changes f (Accepts run)
effect_by (matter.Replied f number) = Neither
effect_by (matter.Dropped f) = Neither
effect_by (matter.ReadOut f run begin end octets) = Changes f (ReadsOut (length octets))
effect_by (matter.NothingRead f) = Neither
effect_by (matter.Left link life) = Leaves link life
effect_by (matter.Begun life) = Neither
effect_by matter.Neither = Neither

abbrev pub effect_of : Told → Effect
effect_of told = effect_by (matter_of told)

-- an event at a station, at a moment of the world
pub record Occasion : Type 0 where
  pub params : Params
  pub now : ℕ
  pub node : ℕ
  pub life : ℕ
  -- what the event brings beyond what is reported: the octets of a send or of a packet, and the packet's place
  pub items : List Item
  pub place : ℕ

-- HOW THE LEDGER FOLLOWS. It goes by no number. What is taken and accepted is what the event brought. The octets that go out for the first time are the leftmost open ones of the present life without a first moment.
abbrev pub ledger_after : Occasion → Change → FlowLedger → FlowLedger
ledger_after o Takes l = record l { taken = take_rows o.life o.items l.taken }
ledger_after o (Transmits count) l = record l { taken = note_first o.now (first_unsent o.life l.taken) count l.taken }
ledger_after o TransmitsAgain l = l
ledger_after o (GivesUp count) l = record l { taken = settle o.life fate.Uncertain count l.taken }
ledger_after o (Settles count) l = record l { taken = settle o.life fate.Acked count l.taken }
ledger_after o (Accepts run) l = record l { given = l.given ++ given_rows o.life o.now run o.place o.items }
ledger_after o (ReadsOut count) l = record l { reads = note_read o.life count l.reads }

-- HOW THE RUN FOLLOWS, by the ledger before the report. A first transmission may begin a run and may be a crossing, any other goes on with the run.
abbrev pub run_with : Occasion → Change → FlowLedger → FlowRun → FlowRun
run_with o Takes l r = r
run_with o (Transmits count) l r =
    let place = first_unsent o.life l.taken in
    record { run = run_told o.params place o.now r.run; crossings = crossings_told o.params place o.now r.run r.crossings }
run_with o TransmitsAgain l r = record { run = run_goes_on o.now r.run; crossings = r.crossings }
run_with o (GivesUp count) l r = r
run_with o (Settles count) l r = r
run_with o (Accepts run) l r = r
run_with o (ReadsOut count) l r = r

abbrev pub ledgers_by : Occasion → Effect → Ledgers → Ledgers
ledgers_by o (Changes f change) all =
    record {
      rows = write same_flow f (ledger_after o change (ledger_of all f)) all.rows;
      runs = write same_flow f (run_with o change (ledger_of all f) (run_of all f)) all.runs;
    }
ledgers_by o (Leaves link life) all = all
ledgers_by o Neither all = all

abbrev pub ledgers_after : Occasion → Told → Ledgers → Ledgers
ledgers_after o told all = ledgers_by o (effect_of told) all

-- THE TAG OF A FRAME: its birth is now, and its place is known from the ledger and from the host after the act or the reply that made the frame.
-- of the flow the tag of what a sender makes reads the taken rows alone. No act makes a frame without a send record
abbrev pub place_sent : Params → FlowLedger → ℕ → Option SendRecord → ℕ
place_sent p l number None = 0
place_sent p l number (Some x) = tag_of p (record (new_flow 0 0) { taken = l.taken }) x number

-- a host makes no closing packet
abbrev pub place_for : Occasion → FlowLedger → Host → Flow → PacketValue → ℕ
place_for o l host f (Data from_port to_port number drf begin end octets) = place_sent o.params l number (sender_at host f)
place_for o l host f (Ack from_port to_port number window) = ack_place (receiver_at host f).standing l.given number o.place
place_for o l host f (Meet from_port to_port number) = place_sent o.params l number (sender_at host f)
place_for o l host f (Close from_port to_port number) = 0

abbrev pub mark_of : Occasion → Ledgers → Host → List ℕ → Mark
mark_of o all host octets = let f = flow_in octets in record { birth = o.now; place = place_for o (ledger_of all f) host f (value_in octets) }

-- THE TOTALS of a flow, over all lives of its stations
abbrev pub and_fate : Fate → Totals → Totals
and_fate fate.Open t = record t { unsettled = t.unsettled + 1 }
and_fate fate.Acked t = record t { acked = t.acked + 1 }
and_fate fate.Uncertain t = record t { uncertain = t.uncertain + 1 }

-- without the fates, and then with those of all taken rows
abbrev pub totals_begun : FlowLedger → Totals
totals_begun l = record { taken = length l.taken; acked = 0; uncertain = 0; unsettled = 0; given = length l.given; read = total (λ r. r.count) l.reads }

abbrev pub totals_of : FlowLedger → Totals
totals_of l = fold (λ t row. and_fate row.fate t) (totals_begun l) l.taken
