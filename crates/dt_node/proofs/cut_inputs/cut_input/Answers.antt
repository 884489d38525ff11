use Rattle.std.proofs.Common.{◌∙◌, arith, refl, sym}
use Rattle.std.proofs.lemmas.Bool.{eqb-true}
use Rattle.dt_node.proofs.Cutting.{cut_found, cut_none, passed_more, passed_none}
use Rattle.dt_node.proofs.cut_inputs.cut_input.Goals as goal

pub loop-rest-init : goal.loop-rest-init
loop-rest-init c = passed_none c.args.input.now

pub returns : goal.returns
returns c = cut_none c.args.input.now c.loop-rest.rest.now c.loop-rest.lines (omega (arith, eqb-true _ _ (sym c.is_empty.ensures ∙ c.loop-rest-test.false))) c.requires c.loop-rest.invariant

pub returns-then-is_mark : goal.returns-then-is_mark
returns-then-is_mark c =
    cut_found c.args.input.now c.loop-rest.rest.now c.split_line.result.0.now c.split_line.result.1.now c.loop-rest.lines _ (omega (arith, c.split_line.ensures.fewer)) c.requires c.loop-rest.invariant c.split_line.ensures.lines c.split_line.ensures.fewer
    (sym c.is_mark.ensures ∙ c.if-is_mark.true) refl refl refl

pub loop-rest-preserved : goal.loop-rest-preserved
loop-rest-preserved c =
    passed_more c.args.input.now c.loop-rest.rest.now c.split_line.result.0.now c.split_line.result.1.now c.loop-rest.lines (omega (arith, c.split_line.ensures.fewer)) c.loop-rest.invariant c.split_line.ensures.lines c.split_line.ensures.parts c.split_line.ensures.fewer
    (sym c.is_mark.ensures ∙ c.if-is_mark.false)
