use Rattle.std.proofs.Common.{sym, subst}
use Rattle.dt_scenario.specs.Parts.{scene_in}
use Rattle.dt_calls_input.specs.declared.inputs.InputCalls.{InputCalls}
use Rattle.dt_calls_input.specs.declared.outcomes.CallsOutcome.{CallsOutcome}
use Rattle.dt_calls_input.specs.CallEnds.{CallsEnd}
use Rattle.dt_calls_input.proofs.CallFolds.{made_by_lines, own_answers, served_once}
use Rattle.dt_calls_input.proofs.CallEnds.{calls_end}
use Rattle.dt_calls_input.proofs.running.calls.Goals as goal

pub returns-clause-once : goal.returns-clause-once
returns-clause-once g c = λ count. served_once count c.args.bytes.now c.requires.few

pub returns-clause-calls : goal.returns-clause-calls
returns-clause-calls g c = λ count. made_by_lines count c.args.bytes.now c.requires.few

pub returns-clause-answers : goal.returns-clause-answers
returns-clause-answers g c = own_answers c.args.bytes.now c.requires.few

pub returns-clause-ends : goal.returns-clause-ends
returns-clause-ends g c =
    subst (λ (o : CallsOutcome). CallsEnd o c.args.bytes.now (g.K.Sink.sight c.args.out.now) (g.K.Sink.sight c.fold_behind_buffer-folded.new.out)) (sym c.outcome_of.ensures)
    (calls_end c.args.bytes.now (scene_in (λ (s : InputCalls). s.calls.calls) c.new-input.result) c.fold_behind_buffer-folded.result (g.K.Sink.sight c.args.out.now) (g.K.Sink.sight c.fold_behind_buffer-folded.new.out) c.new-input.ensures c.fold_behind_buffer-folded.ensures)
