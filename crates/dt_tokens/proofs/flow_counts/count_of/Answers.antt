use Rattle.std.proofs.Common.{ap, ◌∙◌, ℕ, Option}
use Rattle.std.specs.Option.{unwrap_or}
use Rattle.dt_tokens.proofs.FlowCounts.{looked_up}
use Rattle.dt_tokens.proofs.flow_counts.count_of.Goals as goal

pub returns : goal.returns
returns c = c.unwrap_or.ensures ∙ ap (λ (o : Option ℕ). unwrap_or o 0) (c.copied.ensures ∙ c.get.ensures.value) ∙ looked_up c.args.counts.now.entries c.args.flow.now
