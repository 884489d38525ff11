use Rattle.std.proofs.Common.{ap, sym}
use Rattle.std.proofs.Common.{ℕ}
use Rattle.dt_world_model.specs.Host.{first_host}
use Rattle.dt_network.proofs.Away.{opening_is_safe, opening_keeps}
use Rattle.dt_network.proofs.node_that_was_away_opens_at_once.Goals as goal

pub returns-clause-facts : goal.returns-clause-facts
returns-clause-facts c = opening_keeps

pub returns-clause-safe : goal.returns-clause-safe
returns-clause-safe c = opening_is_safe

pub returns-clause-host : goal.returns-clause-host
returns-clause-host c = λ p n now at outs ins routes named. ap (λ (m : ℕ). first_host m) (sym named)
