use Rattle.std.proofs.Common.{ap, ◌∙◌, sym, subst, refl, arith, ℕ, ◌≡◌, ◌-◌, Option, Some, None}
use Rattle.std.specs.Prelude.{IsSome}
use Rattle.std.specs.Option.{unwrap_or}
use Rattle.dt_tokens.specs.Counts.{count_of}
use Rattle.dt_tokens.proofs.FlowCounts.{less_counted, looked_up, not_zero}
use Rattle.dt_tokens.proofs.flow_counts.one_less.Goals as goal

pub returns-then-count-eq1 : goal.returns-then-count-eq1
returns-then-count-eq1 c =
    let none : 0 ≡ count_of c.args.counts.now.entries c.args.flow.now - 1 = omega (arith, c.if-count-eq1.true, c.count_of-count.ensures) in
    less_counted c.args.flow.now None c.args.counts.now.entries c.swap_remove.new.self.entries (λ q. c.swap_remove.ensures.updates.0 q) none

pub returns-in-Some : goal.returns-in-Some
returns-in-Some c =
    let count = c.count_of-count.result - 1 in
    let w = c.get_mut.follows.holds count in
    let there : IsSome (Some c.in-Some.counted.now) = refl in
    let found = subst (λ (o : Option ℕ). IsSome o) c.in-Some.ensures.value there in
    less_counted c.args.flow.now (Some count) c.args.counts.now.entries (c.get_mut.follows.lender count).entries (λ q. (w.3 found).0 q) (ap (λ (n : ℕ). n - 1) c.count_of-count.ensures)

pub returns-in_default : goal.returns-in_default
returns-in_default c =
    absurd (not_zero (count_of c.args.counts.now.entries c.args.flow.now) (ap (λ (o : Option ℕ). unwrap_or o 0) c.in_default.ensures.value ∙ looked_up c.args.counts.now.entries c.args.flow.now) c.requires)
