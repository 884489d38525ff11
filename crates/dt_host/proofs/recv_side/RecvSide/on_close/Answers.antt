use Rattle.std.proofs.Common.{sym, ap, ◌∙◌}
use Rattle.dt_flow_model.specs.ReceiveRecord.{Receiver, answer_to_close}
use Rattle.dt_host.proofs.RecvTurns.{found_is, look_none, nothing}
use Rattle.dt_host.proofs.recv_side.RecvSide.on_close.Goals as goal

pub returns-in-Some-clause-answer : goal.returns-in-Some-clause-answer
returns-in-Some-clause-answer g c = λ host.
    let a = c.args in
    let found = found_is a.flow.now a.self.now.entries c.in-Some.receiver.now (sym c.in-Some.ensures.value) in
    c.on_close.ensures.answer ∙ ap (λ (r : Receiver). answer_to_close r a.number) (sym found)

pub returns-in-None-clause-answer : goal.returns-in-None-clause-answer
returns-in-None-clause-answer g c = λ host.
    let a = c.args in
    let none = look_none a.flow.now a.self.now.entries (sym c.in-None.ensures.value) in
    ap (λ (r : Receiver). answer_to_close r a.number) (sym (nothing a.flow.now a.self.now.entries none))
