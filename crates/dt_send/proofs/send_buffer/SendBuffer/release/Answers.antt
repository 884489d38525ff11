use Rattle.std.proofs.Common.{None, ◌≡◌, ◌<◌, ◌∙◌, length, ap, subst, sym, arith}
use Rattle.std.proofs.lemmas.Bool.Decides.{nat_tests}
use Rattle.dt_units.specs.declared.parameters.Params.{Params}
use Rattle.dt_send.specs.SendBuffer.{IsSendBuffer, record_of}
use Rattle.dt_send.proofs.StepLemmas.{all_wait, anew_rings, begins_anew, released, renewed}
use Rattle.dt_send.proofs.send_buffer.SendBuffer.release.Goals as goal

pub returns-then-is_empty-clause-acts : goal.returns-then-is_empty-clause-acts
returns-then-is_empty-clause-acts c =
    let r = c.requires in
    let none : length c.args.self.now.items.items ≡ 0 = grind (arith, nat_tests) in
    released c.args.context.now.rules.now c.args.context.now.at (record_of c.args.self.now) r.chosen (omega (arith, all_wait c.args.context.now.rules.now c.args.context.now.at c.args.self.now r.rings r.chosen))

pub returns-clause-rings : goal.returns-clause-rings
returns-clause-rings c =
    let r = c.requires in
    let k = c.args.self.now in
    let some : 0 < length k.items.items = grind (arith, nat_tests) in
    let window : c.args.context.now.rules.now.window ≡ c.from-self.result = sym (c.from-self.ensures ∙ ap (λ (p : Params). p.window) c.params.ensures.same) in
    subst (λ edge. IsSendBuffer c.args.context.now.rules.now (record k { left = 0; edge = edge; touched = c.args.context.now.at; crossed = None; next = 0 })) window
    (anew_rings c.args.context.now.rules.now c.args.context.now.at k r.rings r.chosen c.args.context.now.timely some)

pub returns-clause-acts : goal.returns-clause-acts
returns-clause-acts c =
    let r = c.requires in
    let k = c.args.self.now in
    let some : 0 < length k.items.items = grind (arith, nat_tests) in
    let window : c.args.context.now.rules.now.window ≡ c.from-self.result = sym (c.from-self.ensures ∙ ap (λ (p : Params). p.window) c.params.ensures.same) in
    renewed c.args.context.now.rules.now c.args.context.now.at (record_of k) r.chosen (omega (arith, some, all_wait c.args.context.now.rules.now c.args.context.now.at k r.rings r.chosen)) _
    (ap (λ edge. record_of (record k { left = 0; edge = edge; touched = c.args.context.now.at; crossed = None; next = 0 })) (sym window) ∙ begins_anew c.args.context.now.rules.now c.args.context.now.at k r.rings r.chosen)
