use Rattle.std.proofs.Common.{ℕ, suc, ◌≡◌, ◌<◌, ◌≢◌, Option, None, length, set, sym, ap, subst, ◌∙◌, arith}
use Rattle.dt_table.specs.Agendas.{HasRoom, Note, Tables, no_note, note_at}
use Rattle.dt_timers.specs.Deadlines.{moment_at}
use Rattle.dt_table.specs.Places.{slot}
use Rattle.dt_table.proofs.Agendas.{blend, blend_all, blend_next, kind_at, kinds_noted, read_table, room_at, same_kinds}
use Rattle.dt_table.proofs.agenda.Agenda.shift.Goals as goal

pub index-requires : goal.index-requires
index-requires c =
    let o = c.self-in-loop-kind.inside.tables.ok.0 in
    let w = ap (λ (l : Tables). length l) c.self-in-loop-kind.view_is in
    let a = c.loop-kind-test.true in let b = c.len-kind-end.ensures in let k = c.self.inside.tables.ok.0 in let v = ap (λ (l : Tables). length l) c.self.view_is in let s = (same_kinds c.args.self.now c.loop-kind.self (suc c.args.to) (c.loop-kind.invariant.others (suc c.args.to) (λ e. omega arith))) in omega arith

pub at-moment-requires : goal.at-moment-requires
at-moment-requires c =
    let ts = c.self-in-loop-kind.inside.tables.items in
    let w = ap (λ (l : Tables). length l) c.self-in-loop-kind.view_is in
    let within : c.loop-kind.kind < length ts = (let a = c.loop-kind-test.true in let b = c.len-kind-end.ensures in let k = c.self.inside.tables.ok.0 in let v = ap (λ (l : Tables). length l) c.self.view_is in let s = (same_kinds c.args.self.now c.loop-kind.self (suc c.args.to) (c.loop-kind.invariant.others (suc c.args.to) (λ e. omega arith))) in omega arith) in
    let room = room_at (suc c.args.from) ts c.loop-kind.kind (subst (λ (l : Tables). HasRoom (suc c.args.from) l) (sym c.self-in-loop-kind.view_is) (c.loop-kind.invariant.room (suc c.args.from) c.requires.from)) within in
    let same = ap (λ l. length l) (read_table ts c.loop-kind.kind c.index.result.now c.index.ensures within) in
    omega arith

pub note_one-requires-clause-room : goal.note_one-requires-clause-room
note_one-requires-clause-room c = c.loop-kind.invariant.room (suc c.args.to) c.requires.to

pub note_one-requires-clause-kind : goal.note_one-requires-clause-kind
note_one-requires-clause-kind c = let a = c.loop-kind-test.true in let b = c.len-kind-end.ensures in let k = c.self.inside.tables.ok.0 in let v = ap (λ (l : Tables). length l) c.self.view_is in let s = (same_kinds c.args.self.now c.loop-kind.self (suc c.args.to) (c.loop-kind.invariant.others (suc c.args.to) (λ e. omega arith))) in omega arith

pub loop-kind-preserved : goal.loop-kind-preserved
loop-kind-preserved c =
    let k = c.loop-kind.kind in
    let ts = c.self-in-loop-kind.inside.tables.items in
    let from = note_at c.args.self.now c.args.from in
    let to = note_at c.args.self.now c.args.to in
    let w = ap (λ (l : Tables). length l) c.self-in-loop-kind.view_is in
    let within : k < length ts = (let a = c.loop-kind-test.true in let b = c.len-kind-end.ensures in let k = c.self.inside.tables.ok.0 in let v = ap (λ (l : Tables). length l) c.self.view_is in let s = (same_kinds c.args.self.now c.loop-kind.self (suc c.args.to) (c.loop-kind.invariant.others (suc c.args.to) (λ e. omega arith))) in omega arith) in
    let many = kinds_noted c.args.self.now c.args.from in
    let inside : k < length from = (let s = (same_kinds c.args.self.now c.loop-kind.self (suc c.args.to) (c.loop-kind.invariant.others (suc c.args.to) (λ e. omega arith))) in omega arith) in
    let off : c.args.from ≢ c.args.to = (λ e. c.if-to-from.false (sym e)) in
    let moment : c.at-moment.result ≡ slot from k =
    c.at-moment.ensures ∙ ap (λ t. moment_at t c.args.from) (read_table ts k c.index.result.now c.index.ensures within) ∙ sym (kind_at ts k c.args.from) ∙ ap (λ (l : Tables). slot (note_at l c.args.from) k) c.self-in-loop-kind.view_is
    ∙ ap (λ (n : Note). slot n k) (c.loop-kind.invariant.others c.args.from off) in
    record {
      to =
          c.note_one.ensures.here
          ∙ ap (λ (n : Note). set n k c.at-moment.result) c.loop-kind.invariant.to
          ∙ ap (λ (o : Option ℕ). set (blend k from to) k o) moment
          ∙ blend_next k from to None inside;
      others = λ i apart. c.note_one.ensures.others i apart ∙ c.loop-kind.invariant.others i apart;
      room = λ count room. c.note_one.ensures.room count (c.loop-kind.invariant.room count room);
    }

pub forget-requires : goal.forget-requires
forget-requires c = c.loop-kind.invariant.room (suc c.args.from) c.requires.from

pub returns-clause-from : goal.returns-clause-from
returns-clause-from c = λ apart. c.forget.ensures.here ∙ ap (λ (n : ℕ). no_note n) (same_kinds c.args.self.now c.loop-kind.self (suc c.args.to) (c.loop-kind.invariant.others (suc c.args.to) (λ e. omega arith)))

pub returns-clause-to : goal.returns-clause-to
returns-clause-to c =
    let from = kinds_noted c.args.self.now c.args.from in
    let to = kinds_noted c.args.self.now c.args.to in
    let end : length c.args.self.now ≡ c.loop-kind.kind = (let a = c.loop-kind-test.false in let r = c.loop-kind.auto.kind-end in let b = c.len-kind-end.ensures in let o = c.self.inside.tables.ok.0 in let v = ap (λ (l : Tables). length l) c.self.view_is in omega arith) in
    c.forget.ensures.others c.args.to (λ e. c.if-to-from.false e)
    ∙ c.loop-kind.invariant.to
    ∙ blend_all c.loop-kind.kind (note_at c.args.self.now c.args.from) (note_at c.args.self.now c.args.to) (omega arith) (omega arith)

pub returns-clause-room : goal.returns-clause-room
returns-clause-room c = λ count room. c.forget.ensures.room count (c.loop-kind.invariant.room count room)
