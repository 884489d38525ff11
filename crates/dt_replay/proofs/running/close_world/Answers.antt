use Rattle.std.proofs.Common.{◌≡◌, ◌∙◌, List, Some, ap, length, subst, arith}
use Rattle.std.specs.Prelude.{option_map}
use Rattle.std.specs.List.{slice_get}
use Rattle.dt_units.specs.declared.endpoints.Flow.{Flow}
use Rattle.dt_edges.proofs.Puts.{takes_nothing}
use Rattle.dt_world_model.specs.Ledgers.{FlowLedger, totals_of}
use Rattle.dt_replay.proofs.Closing.{end_put, flow_failed, flow_put}
use Rattle.dt_replay.proofs.running.close_world.Goals as goal

pub loop-i-init : goal.loop-i-init
loop-i-init g c = record {
  taken = takes_nothing _;
  flows = c.flows-i-end.ensures.count ∙ ap length c.ledger-ledger.ensures.rows;
}

pub returns-in_err-tell : goal.returns-in_err-tell
returns-in_err-tell g c =
    let w = c.args.world.now.state in
    let flow = subst (λ (l : List (Flow × FlowLedger)). option_map (λ (e : Flow × FlowLedger). e.0) (slice_get l c.loop-i.i) ≡ Some c.flow_at.result) c.ledger-ledger.ensures.rows c.flow_at.ensures in
    let totals = subst (λ (l : List (Flow × FlowLedger)). option_map (λ (e : Flow × FlowLedger). totals_of e.1) (slice_get l c.loop-i.i) ≡ Some c.totals_at-totals.result) c.ledger-ledger.ensures.rows c.totals_at-totals.ensures in
    flow_failed w g.K.Sink.sight c.loop-i.i c.now.result _ c.flow_at.result c.totals_at-totals.result c.from_residual.result c.args.out.now c.loop-i.out c.tell.new.out c.now.ensures c.report.ensures (omega (arith, c.loop-i-test.true, c.loop-i.invariant.flows)) flow totals c.loop-i.invariant.taken c.in_err-tell.ensures c.from_residual.ensures.0

pub loop-i-preserved : goal.loop-i-preserved
loop-i-preserved g c =
    let w = c.args.world.now.state in
    let flow = subst (λ (l : List (Flow × FlowLedger)). option_map (λ (e : Flow × FlowLedger). e.0) (slice_get l c.loop-i.i) ≡ Some c.flow_at.result) c.ledger-ledger.ensures.rows c.flow_at.ensures in
    let totals = subst (λ (l : List (Flow × FlowLedger)). option_map (λ (e : Flow × FlowLedger). totals_of e.1) (slice_get l c.loop-i.i) ≡ Some c.totals_at-totals.result) c.ledger-ledger.ensures.rows c.totals_at-totals.ensures in
    record {
      taken = flow_put w c.loop-i.i c.now.result _ c.flow_at.result c.totals_at-totals.result _ _ _ c.now.ensures c.report.ensures (omega (arith, c.loop-i-test.true, c.loop-i.invariant.flows)) flow totals c.loop-i.invariant.taken c.in_ok-tell.ensures;
      flows = c.loop-i.invariant.flows;
    }

pub returns : goal.returns
returns g c =
    end_put c.args.world.now.state g.K.Sink.sight c.loop-i.i c.now-2.result c.tell-2.result c.args.out.now c.loop-i.out c.tell-2.new.out c.now-2.ensures (omega (arith, c.loop-i-test.false, c.loop-i.invariant.flows, c.loop-i.auto.i-end)) c.loop-i.invariant.taken c.tell-2.ensures
