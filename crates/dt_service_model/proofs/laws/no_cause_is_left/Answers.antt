use Rattle.dt_service_model.proofs.Accounts.{judge_leaves_none}
use Rattle.dt_service_model.proofs.laws.no_cause_is_left.Goals as goal

pub returns : goal.returns
returns c = λ now h. judge_leaves_none now h
