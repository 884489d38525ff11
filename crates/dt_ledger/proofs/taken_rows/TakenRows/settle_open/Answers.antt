use Rattle.std.proofs.Common.{◌≡◌, ℕ, false, sym, subst, ap, ◌∙◌, arith}
use Rattle.dt_flow_model.specs.declared.rows.Fate.{Fate}
use Rattle.dt_flow_model.specs.Ledger.{is_open, is_open_in, settle}
use Rattle.dt_ledger.specs.Rows.{IsPassed, fates_in}
use Rattle.dt_ledger.proofs.Beside.{beside_settled, beside_written}
use Rattle.dt_ledger.proofs.Counting.{open_fate}
use Rattle.dt_ledger.proofs.Settling.{length-settle, settle_as_open}
use Rattle.dt_ledger.proofs.taken_rows.TakenRows.settle_open.Goals as goal

pub returns-then-is_open : goal.returns-then-is_open
returns-then-is_open c =
    let is_it = open_fate c.args.fate (sym c.is_open.ensures ∙ c.if-is_open.true) in
    sym (ap (λ (f : Fate). settle c.args.life f c.args.count c.args.self.now) is_it ∙ settle_as_open c.args.life c.args.count c.args.self.now)

pub invariant_of-self : goal.invariant_of-self
invariant_of-self c =
    let inside = c.self.inside in
    let rows = inside.rows.items in
    let fate = c.args.fate in
    let life = c.args.life in
    let count = c.args.count in
    let call = c.settle_leftmost-self-inside in
    let closed : is_open fate ≡ false = sym c.is_open.ensures ∙ c.if-is_open.false in
    let is : call.new.rows ≡ settle life fate count rows =
    call.ensures.settled ∙ ap (λ (l : ℕ). settle l fate count c.deref_mut.result.now) c.of-from.ensures.life ∙ ap (settle life fate count) c.deref_mut.ensures.value in
    beside_written call.new.counts _ inside.rows.len call.new.rows rows (settle life fate count rows) is
    (length-settle life fate count rows)
    (omega (arith, inside.rows.ok.0))
    (beside_settled inside.counts call.new.counts inside.progress call.result life fate count rows closed
    (call.ensures.counted ∙ ap fates_in is)
    (subst (IsPassed is_open_in call.result) is call.ensures.passed) c.self.invariant)
