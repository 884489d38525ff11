-- The world: stations, links, the copies that were put on them, and the ledgers.
use Rattle.std.specs.Prelude.{ℕ, ◌==◌, Bool, false, List, [], ◌∷◌, ◌++◌, length, map, Option, Some, None, unwrap_or}
use Rattle.dt_units.specs.declared.parameters.Params.{Params}
use Rattle.dt_units.specs.declared.endpoints.Flow.{Flow}
use Rattle.dt_reports.specs.declared.reports.Report.TheVariants as report
use Rattle.dt_reports.specs.Told.{Told, totals_told}
use Rattle.dt_reports.specs.Entries.{Entry}
use Rattle.dt_flow_model.specs.SendRecord.{SendRecord}
use Rattle.dt_flow_model.specs.ReceiveRecord.{Receiver}
use Rattle.dt_flow_model.specs.Flow.{FlowState}
use Rattle.dt_flow_model.specs.Frames.{Mark}
use Rattle.dt_world_model.specs.declared.links.Link.{Link}
use Rattle.dt_world_model.specs.Tables.{look}
use Rattle.dt_world_model.specs.Host.{first_host, sender_at, receiver_at}
use Rattle.dt_world_model.specs.Relay.{Parcel, new_relay}
use Rattle.dt_world_model.specs.Station.{Station, station_with}
use Rattle.dt_world_model.specs.Ledgers.{Changes, Effect, FlowLedger, FlowRun, Leaves, Ledgers, Neither, Occasion, effect_of, ledger_of, run_of, ledgers_after, mark_of, totals_of}
use Rattle.dt_world_model.specs.Script.{Handler}

-- a station in the world: its clock is ahead of the world's moment by `zero`
pub record Placed : Type 0 where
  pub zero : ℕ
  pub life : ℕ
  pub station : Station Mark

-- a copy of a packet on a link, since the moment when it was put there
pub record Copy : Type 0 where
  pub link : ℕ
  pub parcel : Parcel Mark
  pub put : ℕ
  pub lost : Bool

pub record World : Type 0 where
  pub params : Params
  pub now : ℕ
  pub stations : List (ℕ × Placed)
  pub links : List Link
  -- numbered from 0 in the order of leaving
  pub copies : List Copy
  pub ledgers : Ledgers

-- what stands for a station that isn't there: one that starts
abbrev pub placed : World → ℕ → Placed
placed w n = unwrap_or (look ◌==◌ n w.stations) (record { zero = 0; life = 0; station = station_with (first_host n) (new_relay [] [] []) })

-- WHAT THE WORLD NOTES while a station's event is played: the ledgers, the copies, and the lines reported
pub record Noted : Type 0 where
  pub ledgers : Ledgers
  pub copies : List Copy
  pub lines : List Entry

-- where a packet leaves, the world reports the number of the copy too
abbrev pub world_told : ℕ → Told → Effect → Told
world_told copies told (Changes f change) = told
world_told copies told (Leaves link life) = report.PutAs link life copies
world_told copies told Neither = told

abbrev pub note_told : Occasion → Told → Noted → Noted
note_told o told d = record {
  ledgers = ledgers_after o told d.ledgers;
  copies = d.copies;
  lines = d.lines ++ (record { moment = o.now; node = Some o.node; told = world_told (length d.copies) told (effect_of told) }) ∷ [];
}

-- each packet that leaves is a copy on its link
abbrev pub note_copy : Occasion → ℕ → Parcel Mark → Noted → Noted
note_copy o link parcel d = record { ledgers = d.ledgers; copies = d.copies ++ (record { link = link; parcel = parcel; put = o.now; lost = false }) ∷ []; lines = d.lines }

abbrev pub world_handler : Occasion → Handler Noted Mark
world_handler o = record { tell = note_told o; tag = λ host octets d. mark_of o d.ledgers host octets; hand = note_copy o }

-- THE LAST LINES of a run: one a flow, in the order in which the flows' first octets were taken, and the end
abbrev pub last_lines : World → List Entry
last_lines w =
    map (λ e. record { moment = w.now; node = None; told = totals_told e.0 (totals_of e.1) }) w.ledgers.rows
    ++ (record { moment = w.now; node = None; told = report.End }) ∷ []

-- ONE FLOW OF THE WORLD, as its laws see it: what it has at its sending station, and at its receiving one
pub record SenderSide : Type 0 where
  pub zero : ℕ
  pub life : ℕ
  pub until : ℕ
  pub sender : Option SendRecord

pub record ReceiverSide : Type 0 where
  pub zero : ℕ
  pub life : ℕ
  pub until : ℕ
  pub receiver : Receiver

abbrev pub sender_side : Placed → Flow → SenderSide
sender_side s f = record { zero = s.zero; life = s.life; until = s.station.host.until; sender = sender_at s.station.host f }

abbrev pub receiver_side : Placed → Flow → ReceiverSide
receiver_side s f = record { zero = s.zero; life = s.life; until = s.station.host.until; receiver = receiver_at s.station.host f }

abbrev pub flow_state : ℕ → SenderSide → ReceiverSide → FlowLedger → FlowRun → FlowState
flow_state now x y l r =
    record {
      now = now;
      sender_zero = x.zero;
      sender_life = x.life;
      sender_until = x.until;
      sender = x.sender;
      receiver_zero = y.zero;
      receiver_life = y.life;
      receiver_until = y.until;
      receiver = y.receiver.standing;
      unread = y.receiver.unread;
      taken = l.taken;
      given = l.given;
      reads = l.reads;
      run = r.run;
      crossings = r.crossings;
    }

abbrev pub view : World → Flow → FlowState
view w f = flow_state w.now (sender_side (placed w f.from.0) f) (receiver_side (placed w f.to.0) f) (ledger_of w.ledgers f) (run_of w.ledgers f)
