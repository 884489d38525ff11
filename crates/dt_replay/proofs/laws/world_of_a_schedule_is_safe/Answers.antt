use Rattle.dt_replay.proofs.Scenes.{all_safe, lines_safe}
use Rattle.dt_replay.proofs.laws.world_of_a_schedule_is_safe.Goals as goal

pub returns-clause-all_along : goal.returns-clause-all_along
returns-clause-all_along c = lines_safe

pub returns-clause-whole : goal.returns-clause-whole
returns-clause-whole c = all_safe
