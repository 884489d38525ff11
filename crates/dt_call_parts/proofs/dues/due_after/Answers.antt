use Rattle.std.proofs.Common.{true, false, ap, sym, ◌∙◌}
use Rattle.dt_call_parts.specs.declared.dues.Due.TheVariants as due
use Rattle.dt_call_parts.proofs.FlowTables.{due_is, key_found, piece_none}
use Rattle.dt_call_parts.specs.Flows.{flows_seen}
use Rattle.dt_call_parts.proofs.dues.due_after.Goals as goal

pub returns-in-true-true : goal.returns-in-true-true
returns-in-true-true c =
    let x = c.in-Some.flow in
    let es = c.args.flows.now.entries in
    sym (due_is (flows_seen es) c.args.heard.now x c.reversed-way.result true true (piece_none _ c.piece.result c.args.heard.now.piece c.piece.ensures (sym c.is_some.ensures ∙ c.if-is_some.false)) (sym c.has_several.ensures ∙ c.if-has_several.false) (sym c.in-Some.ensures) c.reversed-way.ensures.flow (key_found x es ∙ sym c.in-true-true.ensures) (key_found c.reversed-way.result es ∙ sym c.in-true-true.ensures'))

pub returns-in-true-false : goal.returns-in-true-false
returns-in-true-false c =
    let x = c.in-Some.flow in
    let es = c.args.flows.now.entries in
    sym (due_is (flows_seen es) c.args.heard.now x c.reversed-way.result true false (piece_none _ c.piece.result c.args.heard.now.piece c.piece.ensures (sym c.is_some.ensures ∙ c.if-is_some.false)) (sym c.has_several.ensures ∙ c.if-has_several.false) (sym c.in-Some.ensures) c.reversed-way.ensures.flow (key_found x es ∙ sym c.in-true-false.ensures) (key_found c.reversed-way.result es ∙ sym c.in-true-false.ensures'))

pub returns-in-false-true : goal.returns-in-false-true
returns-in-false-true c =
    let x = c.in-Some.flow in
    let es = c.args.flows.now.entries in
    ap due.Flow c.reversed-way.ensures.flow
    ∙ sym (due_is (flows_seen es) c.args.heard.now x c.reversed-way.result false true (piece_none _ c.piece.result c.args.heard.now.piece c.piece.ensures (sym c.is_some.ensures ∙ c.if-is_some.false)) (sym c.has_several.ensures ∙ c.if-has_several.false) (sym c.in-Some.ensures) c.reversed-way.ensures.flow (key_found x es ∙ sym c.in-false-true.ensures) (key_found c.reversed-way.result es ∙ sym c.in-false-true.ensures'))

pub returns-in-false-false : goal.returns-in-false-false
returns-in-false-false c =
    let x = c.in-Some.flow in
    let es = c.args.flows.now.entries in
    sym (due_is (flows_seen es) c.args.heard.now x c.reversed-way.result false false (piece_none _ c.piece.result c.args.heard.now.piece c.piece.ensures (sym c.is_some.ensures ∙ c.if-is_some.false)) (sym c.has_several.ensures ∙ c.if-has_several.false) (sym c.in-Some.ensures) c.reversed-way.ensures.flow (key_found x es ∙ sym c.in-false-false.ensures) (key_found c.reversed-way.result es ∙ sym c.in-false-false.ensures'))
