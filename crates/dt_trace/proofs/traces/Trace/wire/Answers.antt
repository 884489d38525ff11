use Rattle.std.proofs.Common.{◌≡◌, ◌∙◌, None, ap, map, sym, rules}
use Rattle.std.specs.Option.{option_map}
use Rattle.dt_trace.specs.Traces.{Recorded, taken_seen}
use Rattle.dt_trace.proofs.Wiring.{wire_more}
use Rattle.dt_trace.proofs.traces.Trace.wire.Goals as goal

pub loop-take-preserved : goal.loop-take-preserved
loop-take-preserved c = wire_more _ (option_map taken_seen) c.args.self.now c.deref-take-items.result.now _ c.take-item.result c.loop-take.take-index c.loop-take.wire c.add_found.new.wire c.take-item.is (ap (λ (t : Recorded). t.takes) (sym c.self.view_is) ∙ ap (map (option_map taken_seen)) (sym c.deref-take-items.ensures.value)) c.loop-take-test.true c.loop-take.invariant c.in_ok-add_found.ensures

-- refused here: wire_opens_always
pub loop-take-init : goal.loop-take-init
loop-take-init c = search rules
