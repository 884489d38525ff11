use Rattle.std.proofs.Common.{◌≡◌, None, Ok, Option, Result, ℕ, refl, sym}
use Rattle.std.proofs.lemmas.Result.{err_from_is_err_and}
use Rattle.dt_items.specs.declared.memory.NoMemory.{NoMemory}
use Rattle.dt_turn.specs.declared.packet_answers.PacketAnswer.TheVariants as heard
use Rattle.dt_turn.specs.Codes.{incoming_seen, next_seen}
use Rattle.dt_turn.specs.Hearing.{heard_in}
use Rattle.dt_turn.specs.Shelving.{plain, round_with}
use Rattle.dt_turn.proofs.Shelved.{fetched_ends, held_then, round_ends, round_stops}
use Rattle.dt_world_model.specs.Station.{Arrive, station_event}
use Rattle.dt_turn.proofs.arriving.round.Goals as goal

pub returns-in_err-hear_arrival-clause-ends : goal.returns-in_err-hear_arrival-clause-ends
returns-in_err-hear_arrival-clause-ends g c =
    let v = g.V.Visitor in
    let st = c.args.io.now.station in
    let p = err_from_is_err_and c.from_residual.result c.from_residual.ensures.1 in
    rw (p.1, sym (rw c.deref.ensures at c.incoming-incoming.ensures)) (round_stops v.tells (v.tags c.args.now) v.hands v.fails st.rules c.args.now (incoming_seen c.incoming-incoming.result) st.state c.args.shelf.now c.args.visitor.now c.hear_arrival.new.visitor c.in_err-hear_arrival.ensures.ends)

pub returns-in-Nothing-clause-ends : goal.returns-in-Nothing-clause-ends
returns-in-Nothing-clause-ends g c =
    let v = g.V.Visitor in
    let st = c.args.io.now.station in
    let came = c.incoming-incoming.result in
    let now = c.args.now in
    let event = station_event st.rules now (Arrive came.link (plain came.gram.octets.now)) st.state in
    let is : heard.Nothing ≡ heard_in event heard.Nothing = cc (c.in_ok-hear_arrival.ensures.heard, c.in-Nothing.is) in
    let done : Result (Unit {0}) (Unit {0}) = Ok tt in
    rw (sym (rw c.deref.ensures at c.incoming-incoming.ensures)) (round_ends v.tells (v.tags now) v.hands v.fails st.rules now (incoming_seen came) st.state c.args.shelf.now c.args.visitor.now done c.hear_arrival.new.visitor c.hear_arrival.new.visitor c.hear_arrival.new.station.state
    heard.Nothing (round_with c.hear_arrival.new.station.state c.args.shelf.now None) is c.in_ok-hear_arrival.ensures.ends (refl, refl))

pub returns-in-Accepted-clause-ends : goal.returns-in-Accepted-clause-ends
returns-in-Accepted-clause-ends g c =
    let v = g.V.Visitor in
    let st = c.args.io.now.station in
    let came = c.incoming-incoming.result in
    let now = c.args.now in
    let event = station_event st.rules now (Arrive came.link (plain came.gram.octets.now)) st.state in
    let flow = c.in-Accepted.flow in
    let next = c.in-Accepted.next in
    let is : heard.Accepted flow next ≡ heard_in event heard.Nothing = cc (c.in_ok-hear_arrival.ensures.heard, c.in-Accepted.is) in
    let after = c.hear_arrival.new.station.state in
    let done : Result (Option ℕ) NoMemory = Ok c.fetch.result in
    rw (sym (rw c.deref.ensures at c.incoming-incoming.ensures)) (round_ends v.tells (v.tags now) v.hands v.fails st.rules now (incoming_seen came) st.state c.args.shelf.now c.args.visitor.now done c.hear_arrival.new.visitor c.fetch.new.visitor after
    (heard.Accepted flow next) (round_with after c.fetch.new.shelf (next_seen c.fetch.new.taken done)) is c.in_ok-hear_arrival.ensures.ends
    (fetched_ends v.tells (v.tags now) v.hands v.fails done now (incoming_seen came) flow next after c.args.shelf.now c.fetch.new.shelf (next_seen c.fetch.new.taken done) c.hear_arrival.new.visitor c.fetch.new.visitor c.fetch.ensures.plays))

pub returns-in-Refused-clause-ends : goal.returns-in-Refused-clause-ends
returns-in-Refused-clause-ends g c =
    let v = g.V.Visitor in
    let st = c.args.io.now.station in
    let came = c.incoming-incoming.result in
    let now = c.args.now in
    let event = station_event st.rules now (Arrive came.link (plain came.gram.octets.now)) st.state in
    let flow = c.in-Refused.flow in
    let replied = c.in-Refused.replied in
    let is : heard.Refused flow replied ≡ heard_in event heard.Nothing = cc (c.in_ok-hear_arrival.ensures.heard, c.in-Refused.is) in
    let after = c.hear_arrival.new.station.state in
    let shelf = c.hold_if.new.shelf in
    let done : Result (Unit {0}) (Unit {0}) = Ok tt in
    rw (sym (rw c.deref.ensures at c.incoming-incoming.ensures)) (round_ends v.tells (v.tags now) v.hands v.fails st.rules now (incoming_seen came) st.state c.args.shelf.now c.args.visitor.now done c.hear_arrival.new.visitor c.hold_if.new.visitor after
    (heard.Refused flow replied) (round_with after shelf None) is c.in_ok-hear_arrival.ensures.ends
    (held_then v.tells (v.tags now) v.hands v.fails now (incoming_seen came) flow replied c.early_number-number.result after c.args.shelf.now shelf c.hear_arrival.new.visitor c.hold_if.new.visitor c.early_number-number.ensures c.hold_if.ensures.plays))
