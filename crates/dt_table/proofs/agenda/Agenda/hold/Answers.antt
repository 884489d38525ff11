use Rattle.std.proofs.Common.{ℕ, suc, ◌<◌, List, Option, length, ap, ◌∙◌, arith}
use Rattle.std.proofs.lemmas.Result.{err_from_is_err_and}
use Rattle.dt_table.specs.Agendas.{Tables}
use Rattle.dt_table.proofs.Agendas.{next_room, read_table, room_at, same_kinds, still_noted, still_room}
use Rattle.dt_table.proofs.agenda.Agenda.hold.Goals as goal

pub hold-requires : goal.hold-requires
hold-requires c =
    let ts = c.loop-kind.self-inside.tables.items in
    let within : c.loop-kind.kind < length ts = (let a = c.loop-kind-test.true in let b = c.len-kind-end.ensures in let k = c.self.inside.tables.ok.0 in let v = ap (λ (l : Tables). length l) c.self.view_is in let s = same_kinds c.args.self.now ts 0 (c.loop-kind.invariant.same 0) in omega arith) in
    let room = room_at c.args.count ts c.loop-kind.kind c.loop-kind.invariant.room within in
    let same = ap (λ (l : List (Option ℕ)). length l) (read_table ts c.loop-kind.kind c.index_mut-table.result.now c.index_mut-table.ensures.value within) in
    omega arith

pub loop-kind-preserved : goal.loop-kind-preserved
loop-kind-preserved c =
    let ts = c.loop-kind.self-inside.tables.items in
    let within : c.loop-kind.kind < length ts = (let a = c.loop-kind-test.true in let b = c.len-kind-end.ensures in let k = c.self.inside.tables.ok.0 in let v = ap (λ (l : Tables). length l) c.self.view_is in let s = same_kinds c.args.self.now ts 0 (c.loop-kind.invariant.same 0) in omega arith) in
    record {
      more = next_room (suc c.args.count) c.loop-kind.kind ts c.hold.new.self within (let n = c.in_ok-hold.ensures.ok in omega arith) c.loop-kind.invariant.more;
      room = still_room ts c.loop-kind.kind c.index_mut-table.result.now c.hold.new.self c.index_mut-table.ensures.value within c.in_ok-hold.ensures.same c.args.count c.in_ok-hold.ensures.room c.loop-kind.invariant.room;
      same = λ i. still_noted ts c.loop-kind.kind c.index_mut-table.result.now c.hold.new.self c.index_mut-table.ensures.value within c.in_ok-hold.ensures.same i ∙ c.loop-kind.invariant.same i;
      held = λ room. still_room ts c.loop-kind.kind c.index_mut-table.result.now c.hold.new.self c.index_mut-table.ensures.value within c.in_ok-hold.ensures.same (suc c.args.count) c.in_ok-hold.ensures.room (c.loop-kind.invariant.held room);
    }

pub returns-in_err-hold-clause-memory : goal.returns-in_err-hold-clause-memory
returns-in_err-hold-clause-memory c =
    let ts = c.loop-kind.self-inside.tables.items in
    let within : c.loop-kind.kind < length ts = (let a = c.loop-kind-test.true in let b = c.len-kind-end.ensures in let k = c.self.inside.tables.ok.0 in let v = ap (λ (l : Tables). length l) c.self.view_is in let s = same_kinds c.args.self.now ts 0 (c.loop-kind.invariant.same 0) in omega arith) in
    let same = ap (λ (l : List (Option ℕ)). length l) (read_table ts c.loop-kind.kind c.index_mut-table.result.now c.index_mut-table.ensures.value within) in
    let err = err_from_is_err_and c.from_residual.result c.from_residual.ensures.1 in
    rw err.1 (λ room. let long = room_at (suc c.args.count) ts c.loop-kind.kind (c.loop-kind.invariant.held room) within in omega (arith, long, same, c.in_err-hold.ensures.memory))
