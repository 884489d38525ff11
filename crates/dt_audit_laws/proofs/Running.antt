-- The lines of a run pass, step by step.
use Rattle.std.proofs.Common.{ℕ, suc, ◌+◌, ◌<◌, ◌≤◌, ◌^◌, ◌≡◌, false, List, [], ◌∷◌, ◌++◌, length, map, Option, Some, None, refl, sym, ap, subst, arith}
use Rattle.std.proofs.lemmas.List.{map-append}
use Rattle.std.specs.List.{All}
use Rattle.std.proofs.lemmas.List.Elements.{All-nil, All-cons, All-head, All-tail}
use Rattle.dt_units.specs.declared.parameters.Params.{Params}
use Rattle.dt_units.specs.Limits.{IsWithinLimits}
use Rattle.dt_reports.specs.Entries.{Entry}
use Rattle.dt_reports.specs.declared.faults.StepFault.{StepFault}
use Rattle.dt_log.specs.Logs.{log_text}
use Rattle.dt_flow_model.specs.Flow.{new_flow}
use Rattle.dt_flow_model.specs.Frames.{flow_between}
use Rattle.dt_world_model.specs.Setup.{Setup, new_world, placed_first}
use Rattle.dt_world_model.specs.Tables.{AllEntries}
use Rattle.dt_world_model.specs.World.{SenderSide, World, last_lines, placed, view}
use Rattle.dt_world_model.specs.WorldFacts.{CanHappen}
use Rattle.dt_world_model.specs.WorldStep.{Stepped, WorldEvent, after_event, first_refusal, refusals, run, run_from, step_unless, then_step, world_after, world_step}
use Rattle.dt_world_laws.proofs.Running.{run_goes}
use Rattle.dt_world_laws.proofs.Starts.{new_sender, new_world_facts}
use Rattle.dt_audit.specs.declared.facts.Fact.{Fact}
use Rattle.dt_audit.specs.Audits.{has_flaw}
use Rattle.dt_audit.specs.Books.{Book, begun}
use Rattle.dt_audit.specs.LogRows.{FlowLog, by_rows, no_rows}
use Rattle.dt_audit.specs.Telling.{AreWritten, fact_told}
use Rattle.dt_audit_laws.specs.Books.{FollowsAll}
use Rattle.dt_audit_laws.specs.Bounds.{IsShort, IsYoung}
use Rattle.dt_audit_laws.specs.Logged.{CanBeSetUp, IsLogged, StepPasses}
use Rattle.dt_audit_laws.specs.Logs.{FactsPass}
use Rattle.dt_audit_laws.proofs.Bounding.{all_young, effect_told, effect_within, last_pass, last_written, passes_log, told_written, written_then, young_life}
use Rattle.dt_audit_laws.proofs.Keeping.{same_follows}
use Rattle.dt_audit_laws.proofs.Lines.{passes_then}
use Rattle.dt_audit_laws.proofs.SmallSteps.{begun_follows}
use Rattle.dt_audit_laws.proofs.Stepping.{effect_log}

-- A NEW WORLD
new_life : (setup : Setup) (n : ℕ) → (placed (new_world setup) n).life ≡ 0
new_life setup n = ap (λ (s : SenderSide). s.life) (new_sender setup setup.stations n (flow_between 0 0 0 0))

new_young : (setup : Setup) (es : List (ℕ × ℕ)) → AllEntries (λ (n ahead : ℕ). n < 2 ^ 32) es → AllEntries (IsYoung 0) (map (λ (e : ℕ × ℕ). (e.0, placed_first setup e.0 e.1)) es)
new_young setup [] h = tt
new_young setup (e ∷ es) h = ((h.0, omega arith), new_young setup es h.1)

pub begun_logged : (setup : Setup) → CanBeSetUp setup → IsLogged 0 (new_world setup) (begun by_rows)
begun_logged setup can = record {
  limits = can.limits;
  facts = new_world_facts setup;
  within = record { stations = new_young setup setup.stations can.stations; now = omega arith };
  follows = record {
    flows = λ f. same_follows setup.params (new_flow 0 0) (view (new_world setup) f) no_rows refl refl (new_life setup f.from.0) refl (begun_follows setup.params 0 0);
    senders = λ f. sym (new_life setup f.from.0);
    receivers = λ f. sym (new_life setup f.to.0);
  };
}

-- A STEP
young_one : (count life : ℕ) → suc count < 2 ^ 32 → life ≤ count → life + 1 < 2 ^ 32
young_one count life small le = omega arith

pub effect_passes : (count : ℕ) (w : World) (book : Book FlowLog) (e : WorldEvent) → suc count < 2 ^ 32 → CanHappen e → IsShort e → IsLogged count w book → first_refusal (refusals w e) ≡ None → StepPasses count (after_event w e).1 book (after_event w e).0
effect_passes count w book e small can short h clear =
    let goes = run_goes (e ∷ []) ([], w) h.limits h.facts (All-cons CanHappen e [] can (All-nil CanHappen)) in
    let there = rw clear at goes in
    let log = effect_log w h.limits h.facts book h.follows (λ n. young_one count (placed w n).life small (young_life count w h.within n)) e can clear in
    record {
      next = log.book;
      passes = log.passes;
      written = told_written w.now (after_event w e).0 (omega (arith, h.within.now, small)) (effect_told count w h.within e) log.ranges;
      logged = record {
        limits = subst IsWithinLimits (sym there.1) h.limits;
        facts = there.0.0;
        within = effect_within count w h.within e short;
        follows = subst (λ (p : Params). FollowsAll p (view (after_event w e).1) log.book) (sym there.1) log.follows;
      };
    }

by_outcome : (count : ℕ) (book : Book FlowLog) (o : Option StepFault) (r : List Entry × World) (lines : List Entry) (after : World) → step_unless o r ≡ Stepped lines after → (o ≡ None → StepPasses count r.1 book r.0) → StepPasses count after book lines
by_outcome count book None r lines after e h = let told : r.0 ≡ lines = cc in let world : r.1 ≡ after = cc in subst (λ (v : World). StepPasses count v book lines) world (subst (λ (ls : List Entry). StepPasses count r.1 book ls) told (h refl))
by_outcome count book (Some fault) r lines after e h = absurd cc

pub step_passes : (count : ℕ) (w : World) (book : Book FlowLog) (e : WorldEvent) (lines : List Entry) (after : World) → suc count < 2 ^ 32 → CanHappen e → IsShort e → IsLogged count w book → world_step w e ≡ Stepped lines after → StepPasses count after book lines
step_passes count w book e lines after small can short h is = by_outcome count book (first_refusal (refusals w e)) (after_event w e) lines after is (λ clear. effect_passes count w book e small can short h clear)

-- A RUN
pub record RunPasses (count : ℕ) (r : List Entry × World) : Type 0 where
  pub book : Book FlowLog
  pub passes : FactsPass (map fact_told r.0) (begun by_rows) book
  pub written : AreWritten r.0
  pub logged : IsLogged count r.1 book

-- fewer steps are within more
pub logged_more : (count : ℕ) (w : World) (book : Book FlowLog) → IsLogged count w book → IsLogged (suc count) w book
logged_more count w book h = record { limits = h.limits; facts = h.facts; within = record { stations = all_young count w.stations h.within.stations; now = omega (arith, h.within.now) }; follows = h.follows }

one_passes : (count : ℕ) (r : List Entry × World) (e : WorldEvent) (o : Option StepFault) → first_refusal (refusals r.1 e) ≡ o → suc count < 2 ^ 32 → CanHappen e → IsShort e → RunPasses count r → RunPasses (suc count) (then_step r (step_unless o (after_event r.1 e)))
one_passes count r e (Some fault) clear small can short h = record { book = h.book; passes = h.passes; written = h.written; logged = logged_more count r.1 h.book h.logged }
one_passes count r e None clear small can short h =
    let one = effect_passes count r.1 h.book e small can short h.logged clear in
    record {
      book = one.next;
      passes = subst (λ (facts : List Fact). FactsPass facts (begun by_rows) one.next) (sym (map-append fact_told r.0 (after_event r.1 e).0)) (passes_then (map fact_told r.0) (map fact_told (after_event r.1 e).0) (begun by_rows) h.book one.next h.passes one.passes);
      written = written_then r.0 (after_event r.1 e).0 h.written one.written;
      logged = one.logged;
    }

run_passes : (count : ℕ) (es : List WorldEvent) (r : List Entry × World) → count + length es < 2 ^ 32 → All CanHappen es → All IsShort es → RunPasses count r → RunPasses (count + length es) (run_from es r)
run_passes count [] r small can short h = let same : count + 0 ≡ count = omega arith in rw same h
run_passes count (e ∷ es) r small can short h =
    let same : suc count + length es ≡ count + suc (length es) = omega arith in
    subst (λ (k : ℕ). RunPasses k (run_from es (then_step r (world_step r.1 e)))) same
    (run_passes (suc count) es (then_step r (world_step r.1 e)) (omega arith) (All-tail CanHappen e es can) (All-tail IsShort e es short)
    (one_passes count r e (first_refusal (refusals r.1 e)) refl (omega arith) (All-head CanHappen e es can) (All-head IsShort e es short) h))

pub run_has_no_flaw : (setup : Setup) (es : List WorldEvent) → CanBeSetUp setup → All CanHappen es → All IsShort es → length es < 2 ^ 32 → has_flaw (log_text ((run es (new_world setup)).0 ++ last_lines (world_after (new_world setup) es))) ≡ false
run_has_no_flaw setup es can happen short small =
    let r = run es (new_world setup) in
    let start : RunPasses 0 ([], new_world setup) = record { book = begun by_rows; passes = refl; written = tt; logged = begun_logged setup can } in
    let h : RunPasses (0 + length es) r = run_passes 0 es ([], new_world setup) (omega arith) happen short start in
    passes_log (r.0 ++ last_lines r.1) h.book (written_then r.0 (last_lines r.1) h.written (last_written r.1 (omega (arith, h.logged.within.now, small))))
    (subst (λ (facts : List Fact). FactsPass facts (begun by_rows) h.book) (sym (map-append fact_told r.0 (last_lines r.1))) (passes_then (map fact_told r.0) (map fact_told (last_lines r.1)) (begun by_rows) h.book h.book h.passes (last_pass r.1 h.book)))
