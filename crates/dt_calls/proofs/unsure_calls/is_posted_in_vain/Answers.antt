use Rattle.std.proofs.Common.{ℕ, ◌+◌, ◌≡◌, ◌<◌, ◌≤◌, length, true, false, take, drop, below_more, sym, ap, subst, ◌∙◌, arith}
use Rattle.std.specs.Prelude.{slice_get}
use Rattle.dt_calls_model.specs.CallStep.{is_in_vain, is_posted_in_vain}
use Rattle.dt_ledger.specs.Flows.{ledger_in}
use Rattle.dt_world_model.specs.Ledgers.{ledger_of}
use Rattle.std.specs.List.{list_any}
use Rattle.dt_flow_model.specs.Ledger.{row_at}
use Rattle.dt_calls.proofs.JudgeParts.{any_there, none_there, row_is}
use Rattle.dt_calls.proofs.unsure_calls.is_posted_in_vain.Goals as goal

pub returns-then-is_in_vain : goal.returns-then-is_in_vain
returns-then-is_in_vain c =
    let f = c.args.flow.now in
    let w = c.args.world.now.state in
    let there = sym (ap (λ rows. slice_get (ledger_in rows f).taken c.loop-at.at) c.ledger-ledger.ensures.rows) ∙ c.taken_at.ensures in
    let yes = sym c.is_in_vain.ensures ∙ c.if-is_in_vain.true in
    let less : c.loop-at.at < c.in-Taken.place + c.in-Taken.count = let a = c.min-end.ensures in let b = c.saturating_add.ensures in let d = c.from.ensures in let e = c.loop-at-test.true in omega arith in
    let any = any_there (is_in_vain c.life-life.result) (ledger_of w.ledgers f).taken c.in-Taken.place c.in-Taken.count c.loop-at.at c.taken_at.result c.loop-at.auto.at less there yes in
    sym (ap (is_posted_in_vain w f) c.in-Taken.is ∙ subst (λ (life : ℕ). list_any (is_in_vain life) (take c.in-Taken.count (drop c.in-Taken.place (ledger_of w.ledgers f).taken)) ≡ true) c.life-life.ensures any)

pub loop-at-preserved : goal.loop-at-preserved
loop-at-preserved c =
    let f = c.args.flow.now in
    let rows = (ledger_of c.args.world.now.state.ledgers f).taken in
    let there = sym (ap (λ rows. slice_get (ledger_in rows f).taken c.loop-at.at) c.ledger-ledger.ensures.rows) ∙ c.taken_at.ensures in
    let here : is_in_vain c.life-life.result (row_at rows c.loop-at.at) ≡ false = ap (is_in_vain c.life-life.result) (row_is rows c.loop-at.at c.taken_at.result there) ∙ sym c.is_in_vain.ensures ∙ c.if-is_in_vain.false in
    λ k from less. below_more (λ (k : ℕ). c.in-Taken.place ≤ k → is_in_vain c.life-life.result (row_at rows k) ≡ false) c.loop-at.at (λ j lt fr. c.loop-at.invariant j fr lt) (λ fr. here) k less from

pub returns : goal.returns
returns c =
    let f = c.args.flow.now in
    let w = c.args.world.now.state in
    let rows = (ledger_of w.ledgers f).taken in
    let long : c.taken_count.result ≡ length rows = c.taken_count.ensures ∙ ap (λ rows. length (ledger_in rows f).taken) c.ledger-ledger.ensures.rows in
    let none = none_there (is_in_vain c.life-life.result) rows c.in-Taken.place c.in-Taken.count (λ k from less there. c.loop-at.invariant k from
    (let a = c.min-end.ensures in let b = c.saturating_add.ensures in let d = c.from.ensures in let e = c.loop-at-test.false in let h = c.taken_count.type_inv in omega arith)) in
    sym (ap (is_posted_in_vain w f) c.in-Taken.is ∙ subst (λ (life : ℕ). list_any (is_in_vain life) (take c.in-Taken.count (drop c.in-Taken.place rows)) ≡ false) c.life-life.ensures none)
