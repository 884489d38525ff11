use Rattle.std.proofs.Common.{ℕ, ◌≡◌, ◌≤◌, List, Option, Some, None, length, sym, ap, subst, ◌∙◌, arith}
use Rattle.dt_units.specs.declared.endpoints.Flow.{Flow}
use Rattle.dt_table.specs.Agendas.{note_at}
use Rattle.dt_table.specs.Places.{StandOnce, slot}
use Rattle.dt_table.specs.Tables.{IsPlaced, rows}
use Rattle.dt_table.proofs.Closing.{cut_placed, cut_rows, from_place, from_within, moved_gap, moved_long, moved_placed, moved_rows, room_at, to_empty, to_within}
use Rattle.dt_table.proofs.Slots.{rest_empty, taken_from}
use Rattle.dt_table.proofs.Standing.{moved_once}
use Rattle.dt_table.proofs.table.Table.close_up.Goals as goal

pub shift-requires-clause-here : goal.shift-requires-clause-here
shift-requires-clause-here g c =
    let s = c.loop-from.self in
    let here : slot s.slots.items c.loop-from.from ≡ Some (c.in-Some.flow, c.in-Some.moved) = taken_from s.slots.items c.loop-from.from c.index_mut.result.now c.in-Some.flow c.in-Some.moved (let l = c.loop-from.invariant.long in let t = c.loop-from-test.true in let n = c.len-count.ensures in omega arith) c.index_mut.ensures.value (sym c.take.ensures.value ∙ c.in-Some.is) in
    from_place (length c.args.self.now.agenda) s.places s.slots.items s.agenda c.loop-from.invariant.placed c.loop-from.invariant.once c.loop-from.from c.loop-from.to c.loop-from.invariant.behind c.loop-from.invariant.gap c.in-Some.flow c.in-Some.moved here c.take.new.self c.take.ensures.after

pub shift-requires-clause-within : goal.shift-requires-clause-within
shift-requires-clause-within g c =
    let s = c.loop-from.self in
    let here : slot s.slots.items c.loop-from.from ≡ Some (c.in-Some.flow, c.in-Some.moved) = taken_from s.slots.items c.loop-from.from c.index_mut.result.now c.in-Some.flow c.in-Some.moved (let l = c.loop-from.invariant.long in let t = c.loop-from-test.true in let n = c.len-count.ensures in omega arith) c.index_mut.ensures.value (sym c.take.ensures.value ∙ c.in-Some.is) in
    to_within (length c.args.self.now.agenda) s.places s.slots.items s.agenda c.loop-from.invariant.placed c.loop-from.invariant.once c.loop-from.from c.loop-from.to c.loop-from.invariant.behind c.loop-from.invariant.gap c.in-Some.flow c.in-Some.moved here c.take.new.self c.take.ensures.after

pub shift-requires-clause-empty : goal.shift-requires-clause-empty
shift-requires-clause-empty g c =
    let s = c.loop-from.self in
    let here : slot s.slots.items c.loop-from.from ≡ Some (c.in-Some.flow, c.in-Some.moved) = taken_from s.slots.items c.loop-from.from c.index_mut.result.now c.in-Some.flow c.in-Some.moved (let l = c.loop-from.invariant.long in let t = c.loop-from-test.true in let n = c.len-count.ensures in omega arith) c.index_mut.ensures.value (sym c.take.ensures.value ∙ c.in-Some.is) in
    to_empty (length c.args.self.now.agenda) s.places s.slots.items s.agenda c.loop-from.invariant.placed c.loop-from.invariant.once c.loop-from.from c.loop-from.to c.loop-from.invariant.behind c.loop-from.invariant.gap c.in-Some.flow c.in-Some.moved here c.take.new.self c.take.ensures.after

pub shift-requires-in-loop-from-clause-from : goal.shift-requires-in-loop-from-clause-from
shift-requires-in-loop-from-clause-from g c =
    let s = c.loop-from.self in
    let here : slot s.slots.items c.loop-from.from ≡ Some (c.in-Some.flow, c.in-Some.moved) = taken_from s.slots.items c.loop-from.from c.index_mut.result.now c.in-Some.flow c.in-Some.moved (let l = c.loop-from.invariant.long in let t = c.loop-from-test.true in let n = c.len-count.ensures in omega arith) c.index_mut.ensures.value (sym c.take.ensures.value ∙ c.in-Some.is) in
    room_at (length c.args.self.now.agenda) s.places s.slots.items s.agenda c.loop-from.invariant.placed c.loop-from.from (from_within (length c.args.self.now.agenda) s.places s.slots.items s.agenda c.loop-from.invariant.placed c.loop-from.invariant.once c.loop-from.from c.loop-from.to c.loop-from.invariant.behind c.loop-from.invariant.gap c.in-Some.flow c.in-Some.moved here c.take.new.self c.take.ensures.after)

pub shift-requires-in-loop-from-clause-to : goal.shift-requires-in-loop-from-clause-to
shift-requires-in-loop-from-clause-to g c =
    let s = c.loop-from.self in
    let here : slot s.slots.items c.loop-from.from ≡ Some (c.in-Some.flow, c.in-Some.moved) = taken_from s.slots.items c.loop-from.from c.index_mut.result.now c.in-Some.flow c.in-Some.moved (let l = c.loop-from.invariant.long in let t = c.loop-from-test.true in let n = c.len-count.ensures in omega arith) c.index_mut.ensures.value (sym c.take.ensures.value ∙ c.in-Some.is) in
    room_at (length c.args.self.now.agenda) s.places s.slots.items s.agenda c.loop-from.invariant.placed c.loop-from.to (let w = from_within (length c.args.self.now.agenda) s.places s.slots.items s.agenda c.loop-from.invariant.placed c.loop-from.invariant.once c.loop-from.from c.loop-from.to c.loop-from.invariant.behind c.loop-from.invariant.gap c.in-Some.flow c.in-Some.moved here c.take.new.self c.take.ensures.after in let b = c.loop-from.invariant.behind in omega arith)

pub loop-from-preserved : goal.loop-from-preserved
loop-from-preserved g c =
    let s = c.loop-from.self in
    let here : slot s.slots.items c.loop-from.from ≡ Some (c.in-Some.flow, c.in-Some.moved) = taken_from s.slots.items c.loop-from.from c.index_mut.result.now c.in-Some.flow c.in-Some.moved (let l = c.loop-from.invariant.long in let t = c.loop-from-test.true in let n = c.len-count.ensures in omega arith) c.index_mut.ensures.value (sym c.take.ensures.value ∙ c.in-Some.is) in
    record {
      placed = moved_placed (length c.args.self.now.agenda) s.places s.slots.items s.agenda c.loop-from.invariant.placed c.loop-from.invariant.once c.loop-from.from c.loop-from.to c.loop-from.invariant.behind c.loop-from.invariant.gap c.in-Some.flow c.in-Some.moved here c.take.new.self c.take.ensures.after c.shift.new.self c.shift.ensures c.shift-in-loop-from.new.self c.shift-in-loop-from.ensures.from c.shift-in-loop-from.ensures.to c.shift-in-loop-from.ensures.others c.shift-in-loop-from.ensures.room;
      once = subst StandOnce (sym c.shift.ensures) (moved_once c.in-Some.flow s.places c.loop-from.invariant.once c.loop-from.from (from_place (length c.args.self.now.agenda) s.places s.slots.items s.agenda c.loop-from.invariant.placed c.loop-from.invariant.once c.loop-from.from c.loop-from.to c.loop-from.invariant.behind c.loop-from.invariant.gap c.in-Some.flow c.in-Some.moved here c.take.new.self c.take.ensures.after) c.loop-from.to (to_within (length c.args.self.now.agenda) s.places s.slots.items s.agenda c.loop-from.invariant.placed c.loop-from.invariant.once c.loop-from.from c.loop-from.to c.loop-from.invariant.behind c.loop-from.invariant.gap c.in-Some.flow c.in-Some.moved here c.take.new.self c.take.ensures.after) (to_empty (length c.args.self.now.agenda) s.places s.slots.items s.agenda c.loop-from.invariant.placed c.loop-from.invariant.once c.loop-from.from c.loop-from.to c.loop-from.invariant.behind c.loop-from.invariant.gap c.in-Some.flow c.in-Some.moved here c.take.new.self c.take.ensures.after));
      same = moved_rows (length c.args.self.now.agenda) s.places s.slots.items s.agenda c.loop-from.invariant.placed c.loop-from.invariant.once c.loop-from.from c.loop-from.to c.loop-from.invariant.behind c.loop-from.invariant.gap c.in-Some.flow c.in-Some.moved here c.take.new.self c.take.ensures.after c.shift.new.self c.shift.ensures c.shift-in-loop-from.new.self c.shift-in-loop-from.ensures.from c.shift-in-loop-from.ensures.to c.shift-in-loop-from.ensures.others c.shift-in-loop-from.ensures.room ∙ c.loop-from.invariant.same;
      long = moved_long (length c.args.self.now.agenda) s.places s.slots.items s.agenda c.loop-from.invariant.placed c.loop-from.invariant.once c.loop-from.from c.loop-from.to c.loop-from.invariant.behind c.loop-from.invariant.gap c.in-Some.flow c.in-Some.moved here c.take.new.self c.take.ensures.after ∙ c.loop-from.invariant.long;
      behind = (let b = c.loop-from.invariant.behind in omega arith);
      gap = moved_gap (length c.args.self.now.agenda) s.places s.slots.items s.agenda c.loop-from.invariant.placed c.loop-from.invariant.once c.loop-from.from c.loop-from.to c.loop-from.invariant.behind c.loop-from.invariant.gap c.in-Some.flow c.in-Some.moved here c.take.new.self c.take.ensures.after;
    }

pub returns-clause-placed : goal.returns-clause-placed
returns-clause-placed g c =
    let s = c.loop-from.self in
    let rest : (k : ℕ) → c.loop-from.to ≤ k → slot s.slots.items k ≡ None = λ k le. rest_empty s.slots.items c.loop-from.to c.loop-from.from (let l = c.loop-from.invariant.long in let t = c.loop-from-test.false in omega arith) c.loop-from.invariant.gap k le in
    subst (λ (os : List (Option (Flow × _))). IsPlaced (length c.args.self.now.agenda) s.places os s.agenda) (sym c.truncate.ensures.items) (cut_placed (length c.args.self.now.agenda) s.places s.slots.items s.agenda c.loop-from.invariant.placed c.loop-from.to rest)

pub returns-clause-rows : goal.returns-clause-rows
returns-clause-rows g c =
    let s = c.loop-from.self in
    let rest : (k : ℕ) → c.loop-from.to ≤ k → slot s.slots.items k ≡ None = λ k le. rest_empty s.slots.items c.loop-from.to c.loop-from.from (let l = c.loop-from.invariant.long in let t = c.loop-from-test.false in omega arith) c.loop-from.invariant.gap k le in
    ap (λ (os : List (Option (Flow × _))). rows os (note_at s.agenda)) c.truncate.ensures.items ∙ cut_rows (length c.args.self.now.agenda) s.places s.slots.items s.agenda c.loop-from.invariant.placed c.loop-from.to rest ∙ c.loop-from.invariant.same
