use Rattle.std.proofs.Common.{◌+◌, drop, arith, ap, sym, ◌∙◌}
use Rattle.std.proofs.lemmas.List.{drop-drop}
use Rattle.dt_edges.proofs.Puts.{puts_until, takes_further, drop_cut}
use Rattle.dt_edges.proofs.buffers.Buffer.pass_on.Goals as goal

pub loop-self-preserved : goal.loop-self-preserved
loop-self-preserved g c =
    let i = c.loop-self.invariant in
    let k = c.in_ok-taken.taken in
    let waiting = drop c.self.inside.passed c.self.inside.octets.items in (
      i.0 + k,
      sym (drop-drop k c.loop-self.self-inside.passed c.loop-self.self-inside.octets.items) ∙ ap (drop k) i.1 ∙ drop-drop k i.0 waiting,
      takes_further waiting _ i.0 k _ _ _ (drop_cut _ _ _ c.deref.ensures.value ∙ i.1) i.2
          (record { held = c.in_ok-taken.ensures.taken; reached = c.put.ensures.reached; faults = c.in_ok-taken.ensures.counted; identity = c.put.ensures.same_sink }),
      omega (arith, c.in_ok-taken.ensures.within, c.deref.ensures.len, i.3),
      i.4,
      i.5,
    )

pub returns-in_err-taken-clause-puts : goal.returns-in_err-taken-clause-puts
returns-in_err-taken-clause-puts g c =
    let i = c.loop-self.invariant in
    rw (sym c.self.view_is) (puts_until g.K.Sink.sight (drop c.self.inside.passed c.self.inside.octets.items) i.0 c.from_residual.result c.args.out.now c.loop-self.out c.put.new.self i.2 c.from_residual.ensures.0 c.in_err-taken.ensures.taken c.in_err-taken.ensures.reached c.in_err-taken.ensures.counted c.in_err-taken.ensures.same_sink)
