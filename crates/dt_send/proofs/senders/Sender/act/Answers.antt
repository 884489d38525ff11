use Rattle.std.proofs.Common.{ap, ◌∙◌, arith}
use Rattle.dt_units.specs.declared.parameters.Params.{Params}
use Rattle.dt_send.specs.SendBuffer.{record_of}
use Rattle.dt_send.proofs.GramLemmas.{gram_seen}
use Rattle.dt_send.proofs.SenderLemmas.{act_counted, after_seen, frame_seen, seen, told_seen}
use Rattle.dt_send.proofs.senders.Sender.act.Goals as goal

pub returns-clause-told : goal.returns-clause-told
returns-clause-told g c = told_seen c.deref.result.now c.self.inside.flow (record_of c.self.inside.buffer) c.args.self.now (ap (λ (p : Params). seen p c.self.inside.flow (record_of c.self.inside.buffer)) c.deref.ensures ∙ c.self.view_is) c.args.now c.act.result (record_of c.act.new.self) c.args.frame.now c.act.new.frame c.act.ensures.acts

pub returns-clause-frame : goal.returns-clause-frame
returns-clause-frame g c = frame_seen c.deref.result.now c.self.inside.flow (record_of c.self.inside.buffer) c.args.self.now (ap (λ (p : Params). seen p c.self.inside.flow (record_of c.self.inside.buffer)) c.deref.ensures ∙ c.self.view_is) c.args.now c.act.result (record_of c.act.new.self) c.args.frame.now c.act.new.frame c.act.ensures.acts

pub returns-clause-after : goal.returns-clause-after
returns-clause-after g c = after_seen c.self.inside.rules.value c.self.inside.flow (record_of c.self.inside.buffer) c.args.self.now c.self.view_is c.args.now c.act.result (record_of c.act.new.self) c.args.frame.now c.act.new.frame (rw c.deref.ensures at c.act.ensures.acts)

pub returns-clause-counted : goal.returns-clause-counted
returns-clause-counted g c = act_counted c.deref.result.now c.self.inside.flow (record_of c.self.inside.buffer) c.args.self.now (ap (λ (p : Params). seen p c.self.inside.flow (record_of c.self.inside.buffer)) c.deref.ensures ∙ c.self.view_is) c.args.now c.act.result (record_of c.act.new.self) c.args.frame.now c.act.new.frame c.act.ensures.acts c.requires.due

pub returns-clause-gram : goal.returns-clause-gram
returns-clause-gram g c = gram_seen c.self.inside.rules.value c.self.invariant.limits c.self.inside.flow (record { from = omega arith; from_port = omega arith; to = omega arith; to_port = omega arith }) c.args.now (record_of c.self.inside.buffer) c.self.invariant.within.kept c.args.self.now c.self.view_is
