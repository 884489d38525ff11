use Rattle.std.proofs.Common.{ℕ, ◌++◌, List, [], ◌∷◌, Option, length, refl, sym, ap, subst, ◌∙◌, arith}
use Rattle.std.specs.Prelude.{OnErr, Result, Ok, Err}
use Rattle.std.specs.Map.{lookup}
use Rattle.dt_items.specs.declared.memory.NoMemory.{NoMemory}
use Rattle.dt_units.specs.declared.endpoints.Flow.{Flow}
use Rattle.dt_table.specs.Agendas.{HasRoom, note_at}
use Rattle.dt_table.specs.Places.{equal_flows}
use Rattle.dt_table.specs.Tables.{IsPlaced, Row, Slots}
use Rattle.dt_table.proofs.Closing.{added_placed, added_rows, held_placed, last_empty, pushed_placed, pushed_rows, still_none}
use Rattle.dt_table.proofs.Tables.{entries, entries_are, row_of}
use Rattle.dt_table.proofs.table.Table.add.Goals as goal

on_err : (r : Result (Unit {0}) NoMemory) → {P : Type 0} → P → OnErr r P
on_err (Ok done) h = tt
on_err (Err why) h = h

pub assign-requires-clause-new : goal.assign-requires-clause-new
assign-requires-clause-new g c =
    let s = c.close_up.new.self in
    let none = ap (λ (es : List _). lookup (equal_flows c.args.flow.now) es) (sym (entries_are s.slots.items (note_at s.agenda)) ∙ ap (λ (rs : List _). entries rs) c.close_up.ensures.rows ∙ entries_are c.args.self.now.slots.items (note_at c.args.self.now.agenda)) ∙ c.requires.none in
    still_none (length c.args.self.now.agenda) s.places s.slots.items s.agenda c.close_up.ensures.placed c.len-place.result (let n = c.len-place.ensures in let k = s.slots.ok.0 in omega arith) c.push.new.self.items c.in_ok-push.ensures.items c.hold-2.new.self c.in_ok-hold-2.ensures.same c.in_ok-hold-2.ensures.room c.in_ok-hold-2.ensures.ok c.hold.new.self c.in_ok-hold.ensures.same c.in_ok-hold.ensures.ok c.args.flow.now none

pub assign-requires-clause-empty : goal.assign-requires-clause-empty
assign-requires-clause-empty g c =
    let s = c.close_up.new.self in
    let none = ap (λ (es : List _). lookup (equal_flows c.args.flow.now) es) (sym (entries_are s.slots.items (note_at s.agenda)) ∙ ap (λ (rs : List _). entries rs) c.close_up.ensures.rows ∙ entries_are c.args.self.now.slots.items (note_at c.args.self.now.agenda)) ∙ c.requires.none in
    last_empty (length c.args.self.now.agenda) s.places s.slots.items s.agenda c.close_up.ensures.placed c.len-place.result (let n = c.len-place.ensures in let k = s.slots.ok.0 in omega arith) c.push.new.self.items c.in_ok-push.ensures.items c.hold-2.new.self c.in_ok-hold-2.ensures.same c.in_ok-hold-2.ensures.room c.in_ok-hold-2.ensures.ok c.hold.new.self c.in_ok-hold.ensures.same c.in_ok-hold.ensures.ok c.args.flow.now none

pub returns-in_err-assign-clause-placed : goal.returns-in_err-assign-clause-placed
returns-in_err-assign-clause-placed g c =
    let s = c.close_up.new.self in
    subst (λ (fs : List (Option Flow)). IsPlaced (length c.args.self.now.agenda) fs c.push.new.self.items c.hold.new.self) (sym c.in_err-assign.ensures.err) (pushed_placed (length c.args.self.now.agenda) s.places s.slots.items s.agenda c.close_up.ensures.placed c.len-place.result (let n = c.len-place.ensures in let k = s.slots.ok.0 in omega arith) c.push.new.self.items c.in_ok-push.ensures.items c.hold-2.new.self c.in_ok-hold-2.ensures.same c.in_ok-hold-2.ensures.room c.in_ok-hold-2.ensures.ok c.hold.new.self c.in_ok-hold.ensures.same c.in_ok-hold.ensures.ok)

pub returns-in_err-assign-clause-err : goal.returns-in_err-assign-clause-err
returns-in_err-assign-clause-err g c =
    let s = c.close_up.new.self in
    on_err c.from_residual-in_err-assign.result (pushed_rows (length c.args.self.now.agenda) s.places s.slots.items s.agenda c.close_up.ensures.placed c.len-place.result (let n = c.len-place.ensures in let k = s.slots.ok.0 in omega arith) c.push.new.self.items c.in_ok-push.ensures.items c.hold-2.new.self c.in_ok-hold-2.ensures.same c.in_ok-hold-2.ensures.room c.in_ok-hold-2.ensures.ok c.hold.new.self c.in_ok-hold.ensures.same c.in_ok-hold.ensures.ok ∙ c.close_up.ensures.rows)

pub returns-in_err-hold-clause-placed : goal.returns-in_err-hold-clause-placed
returns-in_err-hold-clause-placed g c =
    let s = c.close_up.new.self in
    held_placed (length c.args.self.now.agenda) s.places s.slots.items s.agenda c.close_up.ensures.placed s.places (λ j. refl) (omega arith) c.hold.new.self c.in_err-hold.ensures.same (subst (λ (n : ℕ). HasRoom n c.hold.new.self) (let n = c.len-place.ensures in let k = s.slots.ok.0 in omega arith) c.in_err-hold.ensures.room)

pub returns-in_err-hold-2-clause-placed : goal.returns-in_err-hold-2-clause-placed
returns-in_err-hold-2-clause-placed g c =
    let s = c.close_up.new.self in
    held_placed (length c.args.self.now.agenda) s.places s.slots.items s.agenda c.close_up.ensures.placed c.hold-2.new.self c.in_err-hold-2.ensures.same c.in_err-hold-2.ensures.room c.hold.new.self c.in_ok-hold.ensures.same (subst (λ (n : ℕ). HasRoom n c.hold.new.self) (let n = c.len-place.ensures in let k = s.slots.ok.0 in omega arith) c.in_ok-hold.ensures.room)

pub returns-in_err-push-clause-placed : goal.returns-in_err-push-clause-placed
returns-in_err-push-clause-placed g c =
    let s = c.close_up.new.self in
    subst (λ (os : Slots _). IsPlaced (length c.args.self.now.agenda) c.hold-2.new.self os c.hold.new.self) (sym c.in_err-push.ensures.items) (held_placed (length c.args.self.now.agenda) s.places s.slots.items s.agenda c.close_up.ensures.placed c.hold-2.new.self c.in_ok-hold-2.ensures.same c.in_ok-hold-2.ensures.room c.hold.new.self c.in_ok-hold.ensures.same (subst (λ (n : ℕ). HasRoom n c.hold.new.self) (let n = c.len-place.ensures in let k = s.slots.ok.0 in omega arith) c.in_ok-hold.ensures.room))

pub returns-clause-placed : goal.returns-clause-placed
returns-clause-placed g c =
    let s = c.close_up.new.self in
    let none = ap (λ (es : List _). lookup (equal_flows c.args.flow.now) es) (sym (entries_are s.slots.items (note_at s.agenda)) ∙ ap (λ (rs : List _). entries rs) c.close_up.ensures.rows ∙ entries_are c.args.self.now.slots.items (note_at c.args.self.now.agenda)) ∙ c.requires.none in
    let ready = pushed_placed (length c.args.self.now.agenda) s.places s.slots.items s.agenda c.close_up.ensures.placed c.len-place.result (let n = c.len-place.ensures in let k = s.slots.ok.0 in omega arith) c.push.new.self.items c.in_ok-push.ensures.items c.hold-2.new.self c.in_ok-hold-2.ensures.same c.in_ok-hold-2.ensures.room c.in_ok-hold-2.ensures.ok c.hold.new.self c.in_ok-hold.ensures.same c.in_ok-hold.ensures.ok in
    added_placed (length c.args.self.now.agenda) s.places s.slots.items s.agenda c.close_up.ensures.placed c.len-place.result (let n = c.len-place.ensures in let k = s.slots.ok.0 in omega arith) c.push.new.self.items c.in_ok-push.ensures.items c.hold-2.new.self c.in_ok-hold-2.ensures.same c.in_ok-hold-2.ensures.room c.in_ok-hold-2.ensures.ok c.hold.new.self c.in_ok-hold.ensures.same c.in_ok-hold.ensures.ok c.args.flow.now none c.args.made c.args.note.now c.note.new.self (c.note.ensures.here (c.requires.kinds ∙ sym ready.counted)) c.note.ensures.others c.note.ensures.room c.assign.new.self c.in_ok-assign.ensures.ok

pub returns-clause-ok : goal.returns-clause-ok
returns-clause-ok g c =
    let s = c.close_up.new.self in
    let none = ap (λ (es : List _). lookup (equal_flows c.args.flow.now) es) (sym (entries_are s.slots.items (note_at s.agenda)) ∙ ap (λ (rs : List _). entries rs) c.close_up.ensures.rows ∙ entries_are c.args.self.now.slots.items (note_at c.args.self.now.agenda)) ∙ c.requires.none in
    let ready = pushed_placed (length c.args.self.now.agenda) s.places s.slots.items s.agenda c.close_up.ensures.placed c.len-place.result (let n = c.len-place.ensures in let k = s.slots.ok.0 in omega arith) c.push.new.self.items c.in_ok-push.ensures.items c.hold-2.new.self c.in_ok-hold-2.ensures.same c.in_ok-hold-2.ensures.room c.in_ok-hold-2.ensures.ok c.hold.new.self c.in_ok-hold.ensures.same c.in_ok-hold.ensures.ok in
    added_rows (length c.args.self.now.agenda) s.places s.slots.items s.agenda c.close_up.ensures.placed c.len-place.result (let n = c.len-place.ensures in let k = s.slots.ok.0 in omega arith) c.push.new.self.items c.in_ok-push.ensures.items c.hold-2.new.self c.in_ok-hold-2.ensures.same c.in_ok-hold-2.ensures.room c.in_ok-hold-2.ensures.ok c.hold.new.self c.in_ok-hold.ensures.same c.in_ok-hold.ensures.ok c.args.flow.now none c.args.made c.args.note.now c.note.new.self (c.note.ensures.here (c.requires.kinds ∙ sym ready.counted)) c.note.ensures.others c.note.ensures.room ∙ ap (λ (rs : List (Row _)). rs ++ row_of (c.args.flow.now, c.args.made) c.args.note.now ∷ []) c.close_up.ensures.rows
