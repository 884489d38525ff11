use Rattle.std.proofs.Common.{refl}
use Rattle.std.proofs.lemmas.Result.{err_from_is_err_and}
use Rattle.dt_relay.specs.Carrying.{parcel_seen}
use Rattle.dt_world_model.specs.Station.{pass_on}
use Rattle.dt_station.proofs.Flushes.{kept}
use Rattle.dt_station.proofs.Passes.{ends_made, enter_others}
use Rattle.dt_station.proofs.Playing.{stops_here}
use Rattle.dt_station.proofs.passing.wait.Goals as goal

-- no memory for it: nothing was told yet
pub returns-in_err-entered-clause-ends : goal.returns-in_err-entered-clause-ends
returns-in_err-entered-clause-ends g c =
    let v = g.V.Visitor in
    let now = c.args.now.ms in
    let p = err_from_is_err_and c.from_residual.result c.from_residual.ensures.1 in
    rw p.1 (stops_here v.tells (v.tags now) v.hands v.fails (pass_on (record { octets = c.args.frame.now; tag = c.args.tag }) now c.args.relay.now) c.args.visitor.now)

pub returns-in_err-entered-clause-others : goal.returns-in_err-entered-clause-others
returns-in_err-entered-clause-others g c = rw c.in_err-entered.ensures.same refl

pub returns-clause-ends : goal.returns-clause-ends
returns-clause-ends g c =
    let v = g.V.Visitor in
    let now = c.args.now.ms in
    ends_made v.tells (v.tags now) v.hands v.fails now c.args.frame.now c.args.tag (parcel_seen g.P.Carry.octets g.P.Carry.label c.make.result) c.args.relay.now c.flush_entered.new.relay c.args.visitor.now c.flush_entered.new.visitor c.flush_entered.result
    c.make.ensures.octets c.make.ensures.label (rw (c.in_ok-entered.ensures.answer, c.in_ok-entered.ensures.after) at c.flush_entered.ensures.ends)

pub returns-clause-others : goal.returns-clause-others
returns-clause-others g c =
    kept c.args.relay.now c.enter.new.self c.flush_entered.new.relay _ c.flush_entered.ensures.others (enter_others (parcel_seen g.P.Carry.octets g.P.Carry.label c.make.result) c.args.now.ms c.args.relay.now c.enter.new.self c.in_ok-entered.ensures.after)
