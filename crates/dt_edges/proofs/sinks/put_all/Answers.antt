use Rattle.std.proofs.Common.{◌≡◌, ◌+◌, length, arith, length-drop, ap, rules}
use Rattle.dt_edges.proofs.Puts.{puts_until, takes_further, rest_cut}
use Rattle.dt_edges.proofs.sinks.put_all.Goals as goal

pub loop-rest-preserved : goal.loop-rest-preserved
loop-rest-preserved g c =
    let i = c.loop-rest.invariant in
    let len : length c.loop-rest.rest.now + i.0 ≡ length c.args.bytes.now = omega (arith, i.1, ap length i.2, length-drop i.0 c.args.bytes.now) in (
      i.0 + c.in_ok-taken.taken,
      omega (arith, i.1, c.in_ok-taken.ensures.within),
      rest_cut c.args.bytes.now c.loop-rest.rest.now i.0 c.in_ok-taken.taken i.2,
      takes_further c.args.bytes.now c.loop-rest.rest.now i.0 c.in_ok-taken.taken _ _ _ i.2 i.3
          (record { held = c.in_ok-taken.ensures.taken; reached = c.put.ensures.reached; faults = c.in_ok-taken.ensures.counted; identity = c.put.ensures.same_sink }),
      λ none. absurd (omega (arith, c.in_ok-taken.ensures.some, c.in_ok-taken.ensures.within, len, ap length none)),
    )

pub returns-in_err-taken-clause-puts : goal.returns-in_err-taken-clause-puts
returns-in_err-taken-clause-puts g c =
    let i = c.loop-rest.invariant in
    puts_until g.K.Sink.sight c.args.bytes.now i.0 c.from_residual.result c.args.out.now c.loop-rest.out c.put.new.self i.3 c.from_residual.ensures.0 c.in_err-taken.ensures.taken c.in_err-taken.ensures.reached c.in_err-taken.ensures.counted c.in_err-taken.ensures.same_sink

-- refused here: put_all_drops_the_last
pub loop-rest-init : goal.loop-rest-init
loop-rest-init g c = search rules
