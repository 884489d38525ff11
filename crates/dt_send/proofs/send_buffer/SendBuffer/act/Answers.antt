use Rattle.std.proofs.Common.{sym, subst, arith}
use Rattle.dt_flow_model.specs.declared.acts.SendAct.{SendAct}
use Rattle.dt_flow_model.specs.declared.acts.SendAct.TheVariants.{GaveUp}
use Rattle.dt_send.specs.declared.send_buffer.SendBuffer.{SendBuffer}
use Rattle.dt_send.specs.SendBuffer.{Acts, IsSendBuffer, record_of}
use Rattle.dt_send.proofs.RingLemmas.{bounded, found_offset, found_within}
use Rattle.dt_send.proofs.StepLemmas.{first_ends, gives_acts, gives_rings, leftmost_there, some_out}
use Rattle.dt_send.proofs.send_buffer.SendBuffer.act.Goals as goal

pub give_up-requires-clause-some : goal.give_up-requires-clause-some
give_up-requires-clause-some c =
    let chosen = rw c.in-Some-GiveUp.field-0-is at c.in-Some-GiveUp.ensures.chosen in
    some_out c.args.context.now.rules.now c.args.context.now.at c.args.context.now.timely c.args.self.now c.requires.rings chosen

pub give_up-requires-clause-end : goal.give_up-requires-clause-end
give_up-requires-clause-end c = λ s is.
    let chosen = rw c.in-Some-GiveUp.field-0-is at c.in-Some-GiveUp.ensures.chosen in
    let r = c.requires.rings in
    let k = c.args.self.now in (
      first_ends c.args.context.now.rules.now c.args.context.now.at c.args.context.now.timely k r chosen s is,
      omega (arith, found_offset c.args.context.now.rules.now k r 0 s is, found_within c.args.context.now.rules.now k r 0 s is, bounded c.args.context.now.rules.now k r, r.lie),
    )

pub returns-in-Some-GiveUp-clause-rings : goal.returns-in-Some-GiveUp-clause-rings
returns-in-Some-GiveUp-clause-rings c =
    let chosen = rw c.in-Some-GiveUp.field-0-is at c.in-Some-GiveUp.ensures.chosen in
    let r = c.requires.rings in
    let k = c.args.self.now in
    let s = leftmost_there c.args.context.now.rules.now c.args.context.now.at c.args.context.now.timely k r chosen in
    subst (λ (j : SendBuffer). IsSendBuffer c.args.context.now.rules.now j) (sym (c.give_up.ensures.gone s.0 s.1)) (gives_rings c.args.context.now.rules.now c.args.context.now.at c.args.context.now.timely k r chosen s.0 s.1)

pub returns-in-Some-GiveUp-clause-acts : goal.returns-in-Some-GiveUp-clause-acts
returns-in-Some-GiveUp-clause-acts c =
    let chosen = rw c.in-Some-GiveUp.field-0-is at c.in-Some-GiveUp.ensures.chosen in
    let r = c.requires.rings in
    let k = c.args.self.now in
    let s = leftmost_there c.args.context.now.rules.now c.args.context.now.at c.args.context.now.timely k r chosen in
    subst (λ (told : SendAct). Acts c.args.context.now.rules.now c.args.context.now.flow.now c.args.context.now.at (record_of k) told (record_of c.give_up.new.self) c.args.frame.now c.args.frame.now) (sym (c.give_up.ensures.told s.0 s.1))
    (subst (λ (j : SendBuffer). Acts c.args.context.now.rules.now c.args.context.now.flow.now c.args.context.now.at (record_of k) (GaveUp s.0.length) (record_of j) c.args.frame.now c.args.frame.now) (sym (c.give_up.ensures.gone s.0 s.1))
    (gives_acts c.args.context.now.rules.now c.args.context.now.at c.args.context.now.timely k r chosen s.0 s.1 c.args.context.now.flow.now c.args.frame.now))

pub returns-in-Some-Release-clause-acts : goal.returns-in-Some-Release-clause-acts
returns-in-Some-Release-clause-acts c = c.release.ensures.acts c.args.context.now.flow.now c.args.frame.now
