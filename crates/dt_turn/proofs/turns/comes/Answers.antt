use Rattle.dt_turn.proofs.Coming.{bad_plays}
use Rattle.dt_turn.proofs.turns.comes.Goals as goal

pub returns-in-Err-clause-ends : goal.returns-in-Err-clause-ends
returns-in-Err-clause-ends g c =
    let v = g.V.Visitor in
    bad_plays v.tells (v.tags c.args.now) v.hands _ _ _ _ c.in-Err.fault _ _ c.args.visitor.now c.tell.new.self c.in-Err.ensures.fault c.tell.ensures
