-- The runs of all flows: a map by flow is the definition's table. And what both lists become when one flow changes.
use Rattle.std.proofs.Common.{◌≡◌, true, List, [], Option, Some, is_some, Result, Ok, Err, OnErr, OnOk, IsOk, refl, sym, ap, ◌∙◌}
use Rattle.std.specs.Prelude.{OnSome, unwrap_or}
use Rattle.std.specs.Map.{lookup, set_value}
use Rattle.indexmap.specs.IndexMap.{insert_entry}
use Rattle.dt_units.specs.declared.endpoints.Flow.{Flow}
use Rattle.dt_world_model.specs.Ledgers.{Change, Changes, FlowLedger, FlowRun, Ledgers, Occasion, ledger_after, ledger_of, ledgers_by, run_of, run_with}
use Rattle.dt_world_model.specs.Tables.{look, same_flow, write}
use Rattle.dt_world_model.proofs.Maps.{equal_flows, flow_again, flow_inserted, flow_looked, flow_there, flow_written}
use Rattle.dt_world_model.proofs.Tables.{flow_is, flow_self, look_write}
use Rattle.dt_ledger.proofs.Entries.{changed, on_some}
use Rattle.dt_notes.specs.Notes.{IsThere, begun, run_in}
use Rattle.dt_notes.specs.Runs.{no_run}

pub inserted : (f : Flow) (r : FlowRun) (es : List (Flow × FlowRun)) → insert_entry equal_flows es f r ≡ write same_flow f r es
inserted f r es = flow_inserted f (insert_entry equal_flows) (λ b. refl) (λ b e rest. refl) r es

-- of a result that is Ok what holds where it is
pub ok_holds : {A E : Type 0} (P : Type 0) (r : Result A E) → IsOk r → OnOk r P → P
ok_holds P (Ok a) is h = h
ok_holds P (Err e) is h = absurd cc

pub on_ok : {A E : Type 0} (P Q : Type 0) (r : Result A E) → (P → Q) → OnOk r P → OnOk r Q
on_ok P Q (Ok a) f h = f h
on_ok P Q (Err e) f h = tt

pub on_both : {A E : Type 0} (P Q R : Type 0) (r : Result A E) → (P → Q → R) → OnOk r P → OnOk r Q → OnOk r R
on_both P Q R (Ok a) f h k = f h k
on_both P Q R (Err e) f h k = tt

module _ (o : Occasion) (change : Change) (f : Flow) (rows : List (Flow × FlowLedger)) (runs : List (Flow × FlowRun)) where
  abbrev all : Ledgers
  all = record { rows = rows; runs = runs }

  abbrev ledger : FlowLedger
  ledger = ledger_of all f

  -- both lists change as the change says
  pub both_change : (rows' : List (Flow × FlowLedger)) (runs' : List (Flow × FlowRun)) → rows' ≡ write same_flow f (ledger_after o change ledger) rows → runs' ≡ write same_flow f (run_with o change ledger (run_of all f)) runs
      → (let after : Ledgers = record { rows = rows'; runs = runs' } in after) ≡ ledgers_by o (Changes f change) all
  both_change rows' runs' r s =
      ap (λ (l : List (Flow × FlowLedger)). let after : Ledgers = record { rows = l; runs = runs' } in after) r
      ∙ ap (λ (l : List (Flow × FlowRun)). let after : Ledgers = record { rows = write same_flow f (ledger_after o change ledger) rows; runs = l } in after) s

  -- the flow's run stands and stays, and its ledger changes by a loan
  module _ {B : Type 0} (loan : Option B) (b : B) (l after : FlowLedger) (rows' : List (Flow × FlowLedger)) (is : loan ≡ Some b) (wrote : OnSome loan (rows' ≡ write same_flow f after rows)) (found : Some l ≡ look same_flow f rows) where
    pub rows_change : after ≡ ledger_after o change l → rows' ≡ write same_flow f (ledger_after o change ledger) rows
    rows_change e = changed (ledger_after o change) f rows rows' l after found e (on_some loan b is wrote)

    pub rows_change_alone : run_with o change ledger (run_of all f) ≡ run_of all f → is_some (look same_flow f runs) ≡ true → after ≡ ledger_after o change l → (let after : Ledgers = record { rows = rows'; runs = runs } in after) ≡ ledgers_by o (Changes f change) all
    rows_change_alone stays there e = both_change rows' runs (rows_change e) (flow_there f no_run runs there ∙ ap (λ (run : FlowRun). write same_flow f run runs) (sym stays))

  -- its run changes by a loan
  pub run_changes : (run after : FlowRun) (runs' : List (Flow × FlowRun)) → Some run ≡ lookup (equal_flows f) runs → runs' ≡ set_value (equal_flows f) runs after → after ≡ run_with o change ledger run → runs' ≡ write same_flow f (run_with o change ledger (run_of all f)) runs
  run_changes run after runs' found e is =
      let here : run_of all f ≡ run = ap (λ (r : Option FlowRun). unwrap_or r no_run) (sym (flow_looked f runs) ∙ sym found) in
      e ∙ flow_written f after run runs (sym found) ∙ ap (λ (r : FlowRun). write same_flow f r runs) (is ∙ ap (run_with o change ledger) (sym here))

-- what holds anyway holds after an error
pub after_an_error : {A E P : Type 0} (r : Result A E) → P → OnErr r P
after_an_error (Ok a) p = tt
after_an_error (Err e) p = p

-- A FLOW BEGINS
module _ (f : Flow) (all : Ledgers) where
  abbrev l : FlowLedger
  l = ledger_of all f

  abbrev r : FlowRun
  r = run_of all f

  pub both_begin : (rows : List (Flow × FlowLedger)) (runs : List (Flow × FlowRun)) → rows ≡ write same_flow f l all.rows → runs ≡ write same_flow f r all.runs → (let after : Ledgers = record { rows = rows; runs = runs } in after) ≡ begun f all
  both_begin rows runs a b =
      ap (λ (x : List (Flow × FlowLedger)). let after : Ledgers = record { rows = x; runs = runs } in after) a
      ∙ ap (λ (x : List (Flow × FlowRun)). let after : Ledgers = record { rows = write same_flow f l all.rows; runs = x } in after) b

  pub begun_there : IsThere f (begun f all)
  begun_there = record { rows = ap is_some (look_write Flow FlowLedger same_flow flow_self flow_is f l all.rows); run = ap is_some (look_write Flow FlowRun same_flow flow_self flow_is f r all.runs) }

  ledger_begun : ledger_of (begun f all) f ≡ l
  ledger_begun = ap (λ (found : Option FlowLedger). unwrap_or found (record { taken = []; given = []; reads = [] })) (look_write Flow FlowLedger same_flow flow_self flow_is f l all.rows)

  run_begun : run_of (begun f all) f ≡ r
  run_begun = ap (λ (found : Option FlowRun). unwrap_or found no_run) (look_write Flow FlowRun same_flow flow_self flow_is f r all.runs)

  -- and a change of it is what it was
  pub begun_changes : (o : Occasion) (c : Change) → ledgers_by o (Changes f c) (begun f all) ≡ ledgers_by o (Changes f c) all
  begun_changes o c =
      both_change o c f all.rows all.runs (ledgers_by o (Changes f c) (begun f all)).rows (ledgers_by o (Changes f c) (begun f all)).runs
      (ap (λ (x : FlowLedger). write same_flow f (ledger_after o c x) (write same_flow f l all.rows)) ledger_begun ∙ flow_again f l (ledger_after o c l) all.rows)
      (ap (λ (x : FlowLedger). write same_flow f (run_with o c x (run_of (begun f all) f)) (write same_flow f r all.runs)) ledger_begun
      ∙ ap (λ (x : FlowRun). write same_flow f (run_with o c l x) (write same_flow f r all.runs)) run_begun
      ∙ flow_again f r (run_with o c l r) all.runs)

-- a run that is begun where its flow has none
pub run_begins : (f : Flow) (old new : List (Flow × FlowRun)) (runs : List (Flow × FlowRun)) → new ≡ write same_flow f (run_in old f) old → old ≡ runs → new ≡ write same_flow f (run_in runs f) runs
run_begins f old new runs e same = e ∙ ap (λ (es : List (Flow × FlowRun)). write same_flow f (run_in es f) es) same

-- what changes of a flow that was begun
pub begun_then : (o : Occasion) (f : Flow) (all mid after : Ledgers) (x c : Change) → x ≡ c → mid ≡ begun f all → after ≡ ledgers_by o (Changes f c) mid → after ≡ ledgers_by o (Changes f x) all
begun_then o f all mid after x c is begins changes =
    changes
    ∙ ap (λ (m : Ledgers). ledgers_by o (Changes f c) m) begins
    ∙ begun_changes f all o c
    ∙ ap (λ (d : Change). ledgers_by o (Changes f d) all) (sym is)
