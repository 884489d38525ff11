use Rattle.dt_orders_laws.proofs.Ends.{done_of_execution, done_of_row, done_stays}
use Rattle.dt_orders_laws.proofs.laws.done_means_executed_once_with_this_result.Goals as goal

pub returns : goal.returns
returns c = record { answered = done_of_row; written = done_of_execution; stays = done_stays }
