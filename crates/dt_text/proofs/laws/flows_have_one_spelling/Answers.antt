use Rattle.dt_text.proofs.FlowLaws.{flow-text, flow-only}
use Rattle.dt_text.proofs.laws.flows_have_one_spelling.Goals as goal

pub returns-clause-read : goal.returns-clause-read
returns-clause-read c = flow-text

pub returns-clause-only : goal.returns-clause-only
returns-clause-only c = flow-only
