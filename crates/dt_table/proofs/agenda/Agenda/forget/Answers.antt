use Rattle.std.proofs.Common.{ℕ, suc, ◌≡◌, ◌<◌, Option, None, length, set, sym, ap, ◌∙◌, arith}
use Rattle.dt_table.specs.Agendas.{Note, Tables, no_note, note_at}
use Rattle.dt_table.proofs.Agendas.{blend, blend_all, blend_next, kinds_noted, none_noted, same_kinds, so_many}
use Rattle.dt_table.proofs.agenda.Agenda.forget.Goals as goal

pub note_one-requires-clause-room : goal.note_one-requires-clause-room
note_one-requires-clause-room c = c.loop-kind.invariant.room (suc c.args.place) c.requires

pub note_one-requires-clause-kind : goal.note_one-requires-clause-kind
note_one-requires-clause-kind c = let a = c.loop-kind-test.true in let b = c.len-kind-end.ensures in let k = c.self.inside.tables.ok.0 in let v = ap (λ (l : Tables). length l) c.self.view_is in let s = (same_kinds c.args.self.now c.loop-kind.self (suc c.args.place) (c.loop-kind.invariant.others (suc c.args.place) (λ e. omega arith))) in omega arith

pub loop-kind-preserved : goal.loop-kind-preserved
loop-kind-preserved c =
    let k = c.loop-kind.kind in
    let kinds = length c.args.self.now in
    let old = note_at c.args.self.now c.args.place in
    let many = so_many kinds in
    let within : k < length (no_note kinds) = (let a = c.loop-kind-test.true in let b = c.len-kind-end.ensures in let o = c.self.inside.tables.ok.0 in let v = ap (λ (l : Tables). length l) c.self.view_is in omega arith) in
    record {
      here =
          c.note_one.ensures.here
          ∙ ap (λ (n : Note). set n k None) c.loop-kind.invariant.here
          ∙ ap (λ (o : Option ℕ). set (blend k (no_note kinds) old) k o) (sym (none_noted kinds k))
          ∙ blend_next k (no_note kinds) old None within;
      others = λ i apart. c.note_one.ensures.others i apart ∙ c.loop-kind.invariant.others i apart;
      room = λ count room. c.note_one.ensures.room count (c.loop-kind.invariant.room count room);
    }

pub returns-clause-here : goal.returns-clause-here
returns-clause-here c =
    let many = so_many (length c.args.self.now) in
    let long = kinds_noted c.args.self.now c.args.place in
    let end : length c.args.self.now ≡ c.loop-kind.kind = (let a = c.loop-kind-test.false in let r = c.loop-kind.auto.kind-end in let b = c.len-kind-end.ensures in let o = c.self.inside.tables.ok.0 in let v = ap (λ (l : Tables). length l) c.self.view_is in omega arith) in
    c.loop-kind.invariant.here ∙ blend_all c.loop-kind.kind (no_note (length c.args.self.now)) (note_at c.args.self.now c.args.place) (omega arith) (omega arith)
