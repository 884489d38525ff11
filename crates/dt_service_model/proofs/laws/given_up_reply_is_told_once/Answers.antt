use Rattle.dt_service_model.proofs.Uncertain.{end_tells_once, given_up_is_told, told_as_given_up, turn_tells_once}
use Rattle.dt_service_model.proofs.laws.given_up_reply_is_told_once.Goals as goal

pub returns : goal.returns
returns c = record { told = given_up_is_told; alone = told_as_given_up; once = turn_tells_once; end = end_tells_once }
