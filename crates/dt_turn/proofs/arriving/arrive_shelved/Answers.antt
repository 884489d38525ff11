use Rattle.std.proofs.Common.{arith, length, suc}
use Rattle.std.proofs.lemmas.Result.{err_from_is_err_and}
use Rattle.dt_station.proofs.Playing.{leads_here}
use Rattle.dt_turn.specs.Codes.{handed_seen, incoming_seen}
use Rattle.dt_turn.specs.Shelving.{datagram, first_round, rounds}
use Rattle.dt_turn.proofs.Readying.{goes_first, goes_then}
use Rattle.dt_turn.proofs.Shelved.{rounds_done, rounds_go, rounds_stop}
use Rattle.dt_turn.proofs.arriving.arrive_shelved.Goals as goal

-- the first round is that of what came
pub rounds-init : goal.rounds-init
rounds-init g c =
    let v = g.V.Visitor in
    let st = c.args.io.now.station in
    let now = c.args.now in
    let shelf = c.args.shelf.now in
    let whole = rounds (suc (length shelf.held)) st.rules now (first_round (incoming_seen c.args.incoming) st.state shelf) in
    record {
      most = suc (length shelf.held);
      enough = omega arith;
      leads = leads_here v.tells (v.tags now) v.hands v.fails whole c.args.visitor.now;
      taken = tt;
      go = c.requires.go;
      on = goes_first now st c.requires.go;
    }

pub returns-in_err-link-clause-ends : goal.returns-in_err-link-clause-ends
returns-in_err-link-clause-ends g c =
    let v = g.V.Visitor in
    let i = c.rounds.invariant in
    let st = c.args.io.now.station in
    let now = c.args.now in
    let whole = rounds (suc (length c.args.shelf.now.held)) st.rules now (first_round (incoming_seen c.args.incoming) st.state c.args.shelf.now) in
    let p = err_from_is_err_and c.from_residual.result c.from_residual.ensures.1 in
    rw (p.1) (rounds_stop v.tells (v.tags now) v.hands v.fails whole c.args.visitor.now c.rounds.visitor st.rules c.rounds.io.station.rules now i.most (handed_seen c.rounds.io.taken.value c.rounds.handed) c.rounds.io.station.state c.rounds.shelf i.on.rules i.enough i.leads c.round.new.visitor c.in_err-link.ensures.ends)

pub rounds-preserved : goal.rounds-preserved
rounds-preserved g c =
    let v = g.V.Visitor in
    let i = c.rounds.invariant in
    let st = c.args.io.now.station in
    let now = c.args.now in
    let whole = rounds (suc (length c.args.shelf.now.held)) st.rules now (first_round (incoming_seen c.args.incoming) st.state c.args.shelf.now) in
    let next = datagram c.in-Some.link c.round.new.io.taken.value in
    let ends = rw c.in-Some.is at c.in_ok-link.ensures.ends in
    let fewer = rw c.in-Some.is at c.in_ok-link.ensures.fewer in
    let taken = rw c.in-Some.is at c.in_ok-link.ensures.taken in
    let on = c.in_ok-link.ensures.on in
    let step = rounds_go v.tells (v.tags now) v.hands v.fails whole c.args.visitor.now c.rounds.visitor st.rules c.rounds.io.station.rules now i.most (handed_seen c.rounds.io.taken.value c.rounds.handed) c.rounds.io.station.state c.rounds.shelf i.on.rules i.enough i.leads c.round.new.visitor next c.round.new.io.station.state c.round.new.shelf fewer ends in
    record {
      most = step.0;
      enough = step.1;
      leads = step.2;
      taken = taken;
      go = record { unspent = on.unspent; past = on.past; moment = c.requires.go.moment };
      on = goes_then now st c.rounds.io.station c.round.new.io.station i.on on;
    }

pub returns-clause-ends : goal.returns-clause-ends
returns-clause-ends g c =
    let v = g.V.Visitor in
    let i = c.rounds.invariant in
    let st = c.args.io.now.station in
    let now = c.args.now in
    let whole = rounds (suc (length c.args.shelf.now.held)) st.rules now (first_round (incoming_seen c.args.incoming) st.state c.args.shelf.now) in
    let ends = rw c.in_default.is at c.in_ok-link.ensures.ends in
    rounds_done v.tells (v.tags now) v.hands v.fails whole c.args.visitor.now c.rounds.visitor st.rules c.rounds.io.station.rules now i.most (handed_seen c.rounds.io.taken.value c.rounds.handed) c.rounds.io.station.state c.rounds.shelf i.on.rules i.enough i.leads c.round.new.visitor c.round.new.io.station.state c.round.new.shelf ends

pub returns-clause-on : goal.returns-clause-on
returns-clause-on g c = goes_then c.args.now c.args.io.now.station c.rounds.io.station c.round.new.io.station c.rounds.invariant.on c.in_ok-link.ensures.on
