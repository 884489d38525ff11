-- The numbers of a world's lines are those of the code.
use Rattle.std.proofs.Common.{ℕ, suc, ◌+◌, ◌*◌, ◌^◌, ◌<◌, ◌≤◌, ◌≡◌, ◌==◌, List, [], ◌∷◌, ◌++◌, map, Option, Some, None, Ok, Result, refl, sym, ap, subst, ◌∙◌, false, arith}
use Rattle.std.specs.Prelude.{is_some, unwrap_or}
use Rattle.dt_units.specs.declared.endpoints.Flow.{Flow}
use Rattle.dt_reports.specs.Entries.{Entry}
use Rattle.dt_log.specs.Logs.{log_text}
use Rattle.dt_flow_model.specs.Frames.{Mark}
use Rattle.dt_world_model.specs.Ledgers.{FlowLedger, Occasion, mark_of, totals_of}
use Rattle.dt_world_model.specs.Script.{Ask, Done, Hand, Script, Tell, play}
use Rattle.dt_world_model.specs.Station.{Arrive, Event, Read, Send, Tick, station_event}
use Rattle.dt_world_model.specs.Tables.{AllEntries, look, write}
use Rattle.dt_world_model.specs.World.{Noted, Placed, World, last_lines, note_copy, note_told, placed, world_handler}
use Rattle.dt_reports.specs.Told.{totals_told}
use Rattle.dt_reports.specs.declared.reports.Report.TheVariants as report
use Rattle.dt_world_model.specs.WorldStep.{Arrives, Loses, Passes, Reads, Restarts, Sends, Ticks, WorldEvent, after_event, copy_at, event_at, link_for, noted_at, restart_at, restarted}
use Rattle.dt_world_model.proofs.Tables.{all_look, all_write, nat_is, nat_self}
use Rattle.dt_world_laws.proofs.Books.{cause_of, no_placed, occasion_is}
use Rattle.dt_audit.specs.declared.facts.Fact.{Fact}
use Rattle.dt_audit.specs.Audits.{has_flaw}
use Rattle.dt_audit.specs.Books.{Book, begun, flaw_in, follow_on}
use Rattle.dt_audit.specs.LogRows.{FlowLog, by_rows}
use Rattle.dt_audit.specs.Telling.{AreWritten, NodeInRange, fact_told, follow_facts}
use Rattle.dt_audit.specs.declared.flaws.Flaw.{Flaw}
use Rattle.dt_audit.proofs.Readings.{log_tells}
use Rattle.dt_audit_laws.specs.Bounds.{AreToldAt, IsShort, IsWithin, IsYoung}
use Rattle.dt_audit_laws.specs.Logs.{AreInRange, FactsPass}

-- MOMENTS AND NODES
pub told_one : (now : ℕ) (lines : List Entry) (entry : Entry) → AreToldAt now lines → entry.moment ≡ now → NodeInRange entry.node → AreToldAt now (lines ++ entry ∷ [])
told_one now [] entry h moment node = (moment, node, tt)
told_one now (line ∷ lines) entry h moment node = (h.0, h.1, told_one now lines entry h.2 moment node)

played_told : {A : Type 0} (o : Occasion) (s : Script Mark A) (d : Noted) → o.node < 2 ^ 32 → AreToldAt o.now d.lines → AreToldAt o.now (play (world_handler o) s d).0.lines
played_told o (Done a) d node h = h
played_told o (Tell r s) d node h = played_told o s (note_told o r d) node (told_one o.now d.lines _ h refl node)
played_told o (Ask host octets c) d node h = played_told o (c (mark_of o d.ledgers host octets)) d node h
played_told o (Hand link parcel s) d node h = played_told o s (note_copy o link parcel d) node h

-- fewer steps are within more
pub all_young : (count : ℕ) (es : List (ℕ × Placed)) → AllEntries (IsYoung count) es → AllEntries (IsYoung (suc count)) es
all_young count [] h = tt
all_young count (e ∷ es) h = ((h.0.0, omega (arith, h.0.1)), all_young count es h.1)

-- A STEP
module _ (count : ℕ) (w : World) (within : IsWithin count w) where
  young_at : (n : ℕ) (at : Placed) → look ◌==◌ n w.stations ≡ Some at → IsYoung count n at
  young_at n at there = all_look ℕ Placed ◌==◌ nat_self nat_is (IsYoung count) n at w.stations there within.stations

  young_by : (n : ℕ) (o : Option Placed) → look ◌==◌ n w.stations ≡ o → (unwrap_or o (no_placed n)).life ≤ count
  young_by n None e = omega arith
  young_by n (Some at) e = (young_at n at e).1

  pub young_life : (n : ℕ) → (placed w n).life ≤ count
  young_life n = young_by n (look ◌==◌ n w.stations) refl

  -- it stays so
  later : w.now ≤ suc count * 2 ^ 32
  later = omega (arith, within.now)

  written_young : (n : ℕ) (at : Placed) → n < 2 ^ 32 → at.life ≤ suc count → AllEntries (IsYoung (suc count)) (write ◌==◌ n at w.stations)
  written_young n at node life = all_write ℕ Placed ◌==◌ nat_self nat_is (IsYoung (suc count)) n at w.stations (node, life) (all_young count w.stations within.stations)

  event_within : (n : ℕ) (e : Event Mark) (o : Option Placed) → look ◌==◌ n w.stations ≡ o → IsWithin (suc count) (event_at w n e o).1
  event_within n e None is = record { stations = all_young count w.stations within.stations; now = later }
  event_within n e (Some at) is = let young = young_at n at is in record { stations = written_young n _ young.0 (omega (arith, young.1)); now = later }

  restart_within : (n : ℕ) (o : Option Placed) → look ◌==◌ n w.stations ≡ o → IsWithin (suc count) (restart_at w n o).1
  restart_within n None is = record { stations = all_young count w.stations within.stations; now = later }
  restart_within n (Some at) is = let young = young_at n at is in record { stations = written_young n (restarted w.params w.now at) young.0 (omega (arith, young.1)); now = later }

  pub effect_within : (e : WorldEvent) → IsShort e → IsWithin (suc count) (after_event w e).1
  effect_within (Passes by) short = record { stations = all_young count w.stations within.stations; now = omega (arith, within.now, short) }
  effect_within (Sends f octets begin end) short = event_within f.from.0 (Send f octets begin end) (look ◌==◌ f.from.0 w.stations) refl
  effect_within (Reads f most) short = event_within f.to.0 (Read f most) (look ◌==◌ f.to.0 w.stations) refl
  effect_within (Ticks n) short = event_within n Tick (look ◌==◌ n w.stations) refl
  effect_within (Arrives k) short = event_within (link_for w k).to (Arrive (copy_at w k).link (copy_at w k).parcel) (look ◌==◌ (link_for w k).to w.stations) refl
  effect_within (Loses k) short = record { stations = all_young count w.stations within.stations; now = later }
  effect_within (Restarts n) short = restart_within n (look ◌==◌ n w.stations) refl

  -- its lines are reported at its moment
  event_told : (n : ℕ) (e : Event Mark) (o : Option Placed) → look ◌==◌ n w.stations ≡ o → AreToldAt w.now (event_at w n e o).0
  event_told n e None is = tt
  event_told n e (Some at) is =
      subst (λ (o : Occasion). AreToldAt w.now (play (world_handler o) (station_event w.params (w.now + at.zero) e at.station) (noted_at w)).0.lines) (sym (occasion_is w n e))
      (played_told (record { params = w.params; now = w.now; node = n; life = (placed w n).life; items = (cause_of e).0; place = (cause_of e).1 }) (station_event w.params (w.now + at.zero) e at.station) (noted_at w) (young_at n at is).0 tt)

  restart_told : (n : ℕ) (o : Option Placed) → look ◌==◌ n w.stations ≡ o → AreToldAt w.now (restart_at w n o).0
  restart_told n None is = tt
  restart_told n (Some at) is = (refl, (young_at n at is).0, tt)

  pub effect_told : (e : WorldEvent) → AreToldAt w.now (after_event w e).0
  effect_told (Passes by) = tt
  effect_told (Sends f octets begin end) = event_told f.from.0 (Send f octets begin end) (look ◌==◌ f.from.0 w.stations) refl
  effect_told (Reads f most) = event_told f.to.0 (Read f most) (look ◌==◌ f.to.0 w.stations) refl
  effect_told (Ticks n) = event_told n Tick (look ◌==◌ n w.stations) refl
  effect_told (Arrives k) = event_told (link_for w k).to (Arrive (copy_at w k).link (copy_at w k).parcel) (look ◌==◌ (link_for w k).to w.stations) refl
  effect_told (Loses k) = (refl, tt, tt)
  effect_told (Restarts n) = restart_told n (look ◌==◌ n w.stations) refl

-- LINES THAT ARE READ BACK
pub told_written : (now : ℕ) (lines : List Entry) → now < 2 ^ 64 → AreToldAt now lines → AreInRange lines → AreWritten lines
told_written now [] small told ranges = tt
told_written now (line ∷ lines) small told ranges = (record { moment = omega (arith, told.0, small); node = told.1; told = ranges.0 }, told_written now lines small told.2 ranges.1)

pub written_then : (lines more : List Entry) → AreWritten lines → AreWritten more → AreWritten (lines ++ more)
written_then [] more h k = k
written_then (line ∷ lines) more h k = (h.0, written_then lines more h.1 k)

-- THE LAST LINES say nothing of octets and lives
module _ (w : World) where
  abbrev totals_line : Flow × FlowLedger → Entry
  totals_line e = record { moment = w.now; node = None; told = totals_told e.0 (totals_of e.1) }

  abbrev end_line : Entry
  end_line = record { moment = w.now; node = None; told = report.End }

  totals_pass : (rows : List (Flow × FlowLedger)) (book : Book FlowLog) → FactsPass (map fact_told (map totals_line rows ++ end_line ∷ [])) book book
  totals_pass [] book = (book, refl, refl)
  totals_pass (row ∷ rows) book = (book, refl, totals_pass rows book)

  pub last_pass : (book : Book FlowLog) → FactsPass (map fact_told (last_lines w)) book book
  last_pass book = totals_pass w.ledgers.rows book

  totals_written : (rows : List (Flow × FlowLedger)) → w.now < 2 ^ 64 → AreWritten (map totals_line rows ++ end_line ∷ [])
  totals_written [] small = (record { moment = small; node = tt; told = tt }, tt)
  totals_written (row ∷ rows) small = (record { moment = small; node = tt; told = tt }, totals_written rows small)

  pub last_written : w.now < 2 ^ 64 → AreWritten (last_lines w)
  last_written small = totals_written w.ledgers.rows small

-- A LOG WHOSE LINES PASS HAS NO FLAW
facts_lead : (number : ℕ) (facts : List Fact) (book next : Book FlowLog) → FactsPass facts book next → follow_facts by_rows number facts book ≡ Ok next
unfolding follow_facts
facts_lead number [] book next same = ap Ok (sym same)
facts_lead number (fact ∷ facts) book next h = ap (follow_on by_rows number (follow_facts by_rows (suc number) facts)) h.1 ∙ facts_lead (suc number) facts h.0 next h.2

pub passes_log : (entries : List Entry) (next : Book FlowLog) → AreWritten entries → FactsPass (map fact_told entries) (begun by_rows) next → has_flaw (log_text entries) ≡ false
passes_log entries next written passes = ap (λ (r : Result (Book FlowLog) (ℕ × Flaw)). is_some (flaw_in r)) (log_tells by_rows entries written ∙ facts_lead 1 (map fact_told entries) (begun by_rows) next passes)
