use Rattle.std.proofs.Common.{ℕ, ◌≡◌, ◌++◌, List, [], ◌∷◌, Option, None, length, length-append, ap, ◌∙◌, arith}
use Rattle.std.proofs.lemmas.List.{replicate_more}
use Rattle.dt_table.specs.Agendas.{Note, Tables, note_at}
use Rattle.dt_table.proofs.Agendas.{one_more_kind}
use Rattle.dt_table.proofs.agenda.Agenda.new.Goals as goal

pub loop-kind-preserved : goal.loop-kind-preserved
loop-kind-preserved c =
    let l = c.loop-kind in
    let pushed : c.push.new.self.items ≡ l.tables.items ++ [] ∷ [] = c.in_ok-push.ensures.items ∙ ap (λ (t : List (Option ℕ)). l.tables.items ++ t ∷ []) c.new.ensures in
    record {
      long = (let e = ap (λ (ts : Tables). length ts) pushed ∙ length-append l.tables.items ([] ∷ []) in let n = l.invariant.long in omega arith);
      none = λ i.
          ap (λ (ts : Tables). note_at ts i) pushed ∙ one_more_kind l.tables.items i ∙ ap (λ (n : Note). n ++ None ∷ []) (l.invariant.none i) ∙ replicate_more l._kind None;
    }
