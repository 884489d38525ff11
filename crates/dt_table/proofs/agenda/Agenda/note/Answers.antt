use Rattle.std.proofs.Common.{ℕ, suc, ◌≡◌, ◌<◌, Option, None, length, set, ap, ◌∙◌, arith}
use Rattle.dt_table.specs.Agendas.{Note, Tables, note_at}
use Rattle.dt_table.proofs.Agendas.{blend, blend_all, blend_next, kinds_noted, same_kinds}
use Rattle.dt_table.proofs.agenda.Agenda.note.Goals as goal

pub note_one-requires-clause-room : goal.note_one-requires-clause-room
note_one-requires-clause-room c = c.loop-kind.invariant.room (suc c.args.place) c.requires

pub note_one-requires-clause-kind : goal.note_one-requires-clause-kind
note_one-requires-clause-kind c = let a = c.loop-kind-test.true in let b = c.min-kind-end.ensures in let n = c.len.ensures in let k = c.self.inside.tables.ok.0 in let v = ap (λ (l : Tables). length l) c.self.view_is in let s = (same_kinds c.args.self.now c.loop-kind.self (suc c.args.place) (c.loop-kind.invariant.others (suc c.args.place) (λ e. omega arith))) in omega arith

pub loop-kind-preserved : goal.loop-kind-preserved
loop-kind-preserved c =
    let within : c.loop-kind.kind < length c.args.moments.now = (let a = c.loop-kind-test.true in let b = c.min-kind-end.ensures in omega arith) in
    record {
      here =
          c.note_one.ensures.here
          ∙ ap (λ (n : Note). set n c.loop-kind.kind c.moment_in.result) c.loop-kind.invariant.here
          ∙ ap (λ (o : Option ℕ). set (blend c.loop-kind.kind c.args.moments.now (note_at c.args.self.now c.args.place)) c.loop-kind.kind o) c.moment_in.ensures
          ∙ blend_next c.loop-kind.kind c.args.moments.now (note_at c.args.self.now c.args.place) None within;
      others = λ i apart. c.note_one.ensures.others i apart ∙ c.loop-kind.invariant.others i apart;
      room = λ count room. c.note_one.ensures.room count (c.loop-kind.invariant.room count room);
    }

pub returns-clause-here : goal.returns-clause-here
returns-clause-here c = λ as_many.
    let long = kinds_noted c.args.self.now c.args.place in
    let end : length c.args.self.now ≡ c.loop-kind.kind = (let a = c.loop-kind-test.false in let r = c.loop-kind.auto.kind-end in let b = c.min-kind-end.ensures in let n = c.len.ensures in let o = c.self.inside.tables.ok.0 in let v = ap (λ (l : Tables). length l) c.self.view_is in omega arith) in
    c.loop-kind.invariant.here ∙ blend_all c.loop-kind.kind c.args.moments.now (note_at c.args.self.now c.args.place) (omega arith) (omega arith)
