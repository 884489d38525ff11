use Rattle.dt_replay.proofs.Scenes.{all_safe, lines_safe}
use Rattle.dt_top.proofs.laws.each_schedule_is_safe.Goals as goal

pub returns-clause-safe : goal.returns-clause-safe
returns-clause-safe c octets = λ count. lines_safe count octets

pub returns-clause-whole : goal.returns-clause-whole
returns-clause-whole c = all_safe
