-- The last lines of a world, one after another.
use Rattle.std.proofs.Common.{◌≡◌, ℕ, suc, ◌+◌, ◌<◌, List, [], ◌∷◌, ◌++◌, length, map, get_or, take, drop, Some, None, Result, IsErr, ap, sym, subst, ◌∙◌, append-nil, arith}
use Rattle.std.specs.Prelude.{option_map}
use Rattle.std.specs.List.{slice_get}
use Rattle.std.proofs.Math.ListN.{get_or-append}
use Rattle.std.proofs.Math.Seq.{get_or-append_seam, take-append_seam}
use Rattle.std.proofs.lemmas.List.Concat.{flat_map-append}
use Rattle.dt_edges.proofs.Puts.{puts_then}
use Rattle.std.proofs.lemmas.List.{get_or-map, length-append, length-map}
use Rattle.std.proofs.lemmas.Option.{slice_get-get_or}
use Rattle.dt_units.specs.declared.endpoints.Flow.{Flow}
use Rattle.dt_reports.specs.declared.flow_totals.Totals.{Totals}
use Rattle.dt_reports.specs.declared.reports.Report.TheVariants as report
use Rattle.dt_reports.specs.Entries.{Entry}
use Rattle.dt_reports.specs.Told.{Told, totals_told}
use Rattle.dt_edges.specs.Sinks.{Puts, SinkSight, Takes, TakesPart}
use Rattle.dt_log.specs.Logs.{entry_text, log_text}
use Rattle.dt_log.proofs.Parts.{puts_as, puts_failed_between, takes_next, text_around}
use Rattle.dt_world_model.specs.Ledgers.{FlowLedger, totals_of}
use Rattle.dt_world_model.specs.World.{World, last_lines}

abbrev by_world : ℕ → Told → Entry
by_world moment told = record { moment = moment; node = None; told = told }

abbrev flow_line : World → Flow × FlowLedger → Entry
flow_line w e = by_world w.now (totals_told e.0 (totals_of e.1))

abbrev end_line : World → Entry
end_line w = by_world w.now report.End

abbrev no_flow : Flow × FlowLedger
no_flow = (record { from = record { 0 = 0 }; from_port = 0; to = record { 0 = 0 }; to_port = 0 }, record { taken = []; given = []; reads = [] })

module _ (w : World) where
  abbrev rows : List (Flow × FlowLedger)
  rows = w.ledgers.rows

  flow_at_is : (i : ℕ) (flow : Flow) (totals : Totals) → i < length rows → option_map (λ (e : Flow × FlowLedger). e.0) (slice_get rows i) ≡ Some flow → option_map (λ (e : Flow × FlowLedger). totals_of e.1) (slice_get rows i) ≡ Some totals
      → get_or (last_lines w) i (end_line w) ≡ by_world w.now (totals_told flow totals)
  flow_at_is i flow totals h f t =
      let x = get_or rows i no_flow in
      let there : slice_get rows i ≡ Some x = slice_get-get_or rows i no_flow h in
      let f' : Some x.0 ≡ Some flow = ap (option_map (λ (e : Flow × FlowLedger). e.0)) (sym there) ∙ f in
      let t' : Some (totals_of x.1) ≡ Some totals = ap (option_map (λ (e : Flow × FlowLedger). totals_of e.1)) (sym there) ∙ t in
      let flow_is : x.0 ≡ flow = cc in
      let totals_is : totals_of x.1 ≡ totals = cc in
      get_or-append (map (flow_line w) rows) (end_line w ∷ []) (end_line w) i (omega (arith, h, length-map rows (flow_line w)))
      ∙ get_or-map (flow_line w) rows i no_flow (end_line w) h
      ∙ ap (λ (g : Flow). by_world w.now (totals_told g (totals_of x.1))) flow_is
      ∙ ap (λ (s : Totals). by_world w.now (totals_told flow s)) totals_is

  end_at_is : get_or (last_lines w) (length rows) (end_line w) ≡ end_line w
  end_at_is = ap (λ i. get_or (last_lines w) i (end_line w)) (sym (length-map rows (flow_line w))) ∙ get_or-append_seam (map (flow_line w) rows) (end_line w) [] (end_line w)

  lines_length : length (last_lines w) ≡ length rows + 1
  lines_length = length-append (map (flow_line w) rows) (end_line w ∷ []) ∙ ap (λ n. n + 1) (length-map rows (flow_line w))

  -- what is told, by its parts
  told_is : (moment : ℕ) (told : Told) (flow : Flow) (totals : Totals) → moment ≡ w.now → told ≡ totals_told flow totals → by_world moment told ≡ by_world w.now (totals_told flow totals)
  told_is moment told flow totals m t = ap (λ (n : ℕ). by_world n told) m ∙ ap (λ (r : Told). by_world w.now r) t

  -- the line of a flow is put after those before it
  pub flow_put : (i moment : ℕ) (told : Told) (flow : Flow) (totals : Totals) (a b c : SinkSight) → moment ≡ w.now → told ≡ totals_told flow totals → i < length rows → option_map (λ (e : Flow × FlowLedger). e.0) (slice_get rows i) ≡ Some flow → option_map (λ (e : Flow × FlowLedger). totals_of e.1) (slice_get rows i) ≡ Some totals
      → Takes (log_text (take i (last_lines w))) a b → Takes (entry_text (by_world moment told)) b c → Takes (log_text (take (i + 1) (last_lines w))) a c
  flow_put i moment told flow totals a b c m r h f t before one =
      takes_next entry_text (last_lines w) i (end_line w) a b c (omega (arith, h, lines_length)) before
      (subst (λ (e : Entry). Takes (entry_text e) b c) (told_is moment told flow totals m r ∙ sym (flow_at_is i flow totals h f t)) one)

  -- or a first part of it, where the put fails
  pub flow_failed : {K T E : Type 0} (sight : K → SinkSight) (i moment : ℕ) (told : Told) (flow : Flow) (totals : Totals) (r : Result T E) (old between new : K) → moment ≡ w.now → told ≡ totals_told flow totals → i < length rows → option_map (λ (e : Flow × FlowLedger). e.0) (slice_get rows i) ≡ Some flow → option_map (λ (e : Flow × FlowLedger). totals_of e.1) (slice_get rows i) ≡ Some totals
      → Takes (log_text (take i (last_lines w))) (sight old) (sight between) → TakesPart (entry_text (by_world moment told)) (sight between) (sight new) → IsErr r → Puts sight (log_text (last_lines w)) r old new
  flow_failed sight i moment told flow totals r old between new m e h f t before part is =
      puts_failed_between sight (log_text (last_lines w)) (log_text (take i (last_lines w))) (entry_text (get_or (last_lines w) i (end_line w))) (log_text (drop (suc i) (last_lines w))) r old between new
      (text_around entry_text (last_lines w) i (end_line w) (omega (arith, h, lines_length))) before (subst (λ (x : Entry). TakesPart (entry_text x) (sight between) (sight new)) (told_is moment told flow totals m e ∙ sym (flow_at_is i flow totals h f t)) part) is

  -- the end is put after all flows
  pub end_put : {K T E : Type 0} (sight : K → SinkSight) (n moment : ℕ) (r : Result T E) (old between new : K) → moment ≡ w.now → n ≡ length rows → Takes (log_text (take n (last_lines w))) (sight old) (sight between) → Puts sight (entry_text (by_world moment report.End)) r between new → Puts sight (log_text (last_lines w)) r old new
  end_put sight n moment r old between new m e before put =
      let flows = map (flow_line w) rows in
      let front : take n (last_lines w) ≡ flows = ap (λ k. take k (last_lines w)) (e ∙ sym (length-map rows (flow_line w))) ∙ take-append_seam flows (end_line w ∷ []) in
      let end : Puts sight (log_text (end_line w ∷ [])) r between new = puts_as sight (log_text (end_line w ∷ [])) (entry_text (end_line w)) r between new (append-nil (entry_text (end_line w))) (subst (λ (k : ℕ). Puts sight (entry_text (by_world k report.End)) r between new) m put) in
      puts_as sight (log_text (last_lines w)) (log_text flows ++ log_text (end_line w ∷ [])) r old new (flat_map-append entry_text flows (end_line w ∷ []))
      (puts_then sight (log_text flows) (log_text (end_line w ∷ [])) r old between new (subst (λ (l : List Entry). Takes (log_text l) (sight old) (sight between)) front before) end)
