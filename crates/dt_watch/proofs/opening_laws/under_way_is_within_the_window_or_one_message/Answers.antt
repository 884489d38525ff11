use Rattle.dt_watch.proofs.Entering.{runs_within, window_or_one}
use Rattle.dt_watch.proofs.opening_laws.under_way_is_within_the_window_or_one_message.Goals as goal

pub returns : goal.returns
returns c = record { admitted = window_or_one; always = runs_within }
