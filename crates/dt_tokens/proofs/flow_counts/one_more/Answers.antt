use Rattle.std.proofs.Common.{ap, ℕ, ◌+◌, Some}
use Rattle.dt_tokens.proofs.FlowCounts.{more_counted}
use Rattle.dt_tokens.proofs.flow_counts.one_more.Goals as goal

pub returns-clause-more : goal.returns-clause-more
returns-clause-more c =
    more_counted c.args.flow (Some (c.count_of-count.result + 1)) c.args.counts.now.entries c.insert.new.self.entries (λ q. c.in_ok-insert.ensures.updates.0 q) (ap (λ (n : ℕ). Some (n + 1)) c.count_of-count.ensures)
