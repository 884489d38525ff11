use Rattle.std.proofs.Common.{rules}
use Rattle.std.proofs.lemmas.Fn.{filter_same}
use Rattle.dt_early.specs.Early.{is_alive}
use Rattle.dt_early.proofs.shelves.drop_old.Goals as goal

pub returns : goal.returns
returns c = filter_same _ (is_alive c.args.now) _ (λ x b f' k. search rules) _ _ c.retain.ensures.filtered
