use Rattle.dt_host.proofs.Apart.{act_apart, came_apart, read_apart, sent_apart}
use Rattle.dt_host.proofs.laws.other_flows_stay.Goals as goal

pub returns-clause-sent : goal.returns-clause-sent
returns-clause-sent c = λ p now f g items host apart. sent_apart f g host apart p now items

pub returns-clause-read : goal.returns-clause-read
returns-clause-read c = λ p now most f g host apart. read_apart f g host apart p now most

pub returns-clause-came : goal.returns-clause-came
returns-clause-came c = λ p now from g v host apart. came_apart p now from g v host apart

pub returns-clause-act : goal.returns-clause-act
returns-clause-act c = λ p now host turn e. act_apart p now host turn e
