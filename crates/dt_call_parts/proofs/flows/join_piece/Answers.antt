use Rattle.std.proofs.Common.{◌≡◌, sym, subst}
use Rattle.std.specs.Prelude.{IfOk, option_map}
use Rattle.dt_calls_model.specs.Calls as model
use Rattle.dt_calls_model.specs.Calls.{begun_at, with_begun}
use Rattle.dt_calls_model.specs.Messages.{begun_with, whole_with}
use Rattle.dt_messages.specs.Joining.{piece_with}
use Rattle.dt_call_parts.specs.Sides.{side_seen}
use Rattle.dt_call_parts.proofs.FlowTables.{begun_found, if_ok_weaker, key_lost, on_err_weaker, wrote, wrote_same}
use Rattle.dt_call_parts.proofs.flows.join_piece.Goals as goal

pub unreachable-requires : goal.unreachable-requires
unreachable-requires c = key_lost c.args.flow.now c.args.flows.now.entries c.requires.there (sym c.in-None.ensures.value)

pub returns-clause-whole : goal.returns-clause-whole
returns-clause-whole c =
    let side = side_seen c.args.side in
    let piece = piece_with c.args.marks c.args.octets.now in
    let found = begun_found c.args.flow.now c.in-Some.sides.now c.args.flows.now.entries (sym c.in-Some.ensures.value) in
    subst (λ (b : model.Begun). IfOk c.join.result (λ whole. option_map (λ message. message.items) whole ≡ whole_with (begun_at side b) piece)) (sym found) c.join.ensures.whole

pub returns-clause-begun : goal.returns-clause-begun
returns-clause-begun c =
    let side = side_seen c.args.side in
    let piece = piece_with c.args.marks c.args.octets.now in
    let es = c.args.flows.now.entries in
    let there = sym c.in-Some.ensures.value in
    if_ok_weaker c.join.result
    (wrote c.args.flow.now c.join.new.self c.in-Some.sides.now es (c.get_mut.follows.lender c.join.new.self).entries (λ (b : model.Begun). with_begun side (begun_with (begun_at side b) piece) b) there ((c.get_mut.follows.holds c.join.new.self).0))
    c.join.ensures.begun

pub returns-clause-same : goal.returns-clause-same
returns-clause-same c =
    let es = c.args.flows.now.entries in
    let there = sym c.in-Some.ensures.value in
    on_err_weaker c.join.result
    (wrote_same c.args.flow.now c.join.new.self c.in-Some.sides.now es (c.get_mut.follows.lender c.join.new.self).entries there c.requires.there ((c.get_mut.follows.holds c.join.new.self).0))
    c.join.ensures.same
