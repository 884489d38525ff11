use Rattle.std.proofs.Common.{◌≡◌, false, sym, subst, ◌∙◌, true, arith}
use Rattle.dt_flow_model.specs.declared.rows.Taken.{Taken}
use Rattle.dt_ledger.specs.Rows.{waits_in}
use Rattle.dt_ledger.proofs.Passing.{closed_not_waiting, first_here, first_nowhere, none_on, sent_not_waiting, waits}
use Rattle.dt_ledger.proofs.taken_rows.first_waiting.Goals as goal
use Rattle.dt_ledger.proofs.taken_rows.first_waiting.Goals.{else-is_open_in-via-then-is_open_in+else-is_unsent, else-is_open_in-via-else-is_open_in}

pub returns-then-is_unsent-clause-place : goal.returns-then-is_unsent-clause-place
returns-then-is_unsent-clause-place c =
    let life = c.args.from.life in
    let x = c.index-rows-place.result in
    let here : waits_in life x ≡ true = waits life x (sym c.is_open_in.ensures ∙ c.if-is_open_in.true) (sym c.is_unsent.ensures ∙ c.if-is_unsent.true) in
    sym (first_here life c.loop-place.place c.args.rows.now x c.loop-place-test.true (subst (λ (r : Taken). waits_in life r ≡ true) c.index-rows-place.is here) c.loop-place.invariant.1)

pub loop-place-preserved : goal.loop-place-preserved
loop-place-preserved c =
    let life = c.args.from.life in
    let x = c.index-rows-place.result in
    elim c.else-is_open_in.branch [
      | else-is_open_in-via-then-is_open_in+else-is_unsent w ↦
          let not_here : waits_in life x ≡ false = sent_not_waiting life x (sym w.is_unsent.ensures ∙ w.if-is_unsent.false) in
          (omega arith, none_on (waits_in life) c.loop-place.place c.args.rows.now x c.loop-place-test.true (subst (λ (r : Taken). waits_in life r ≡ false) c.index-rows-place.is not_here) c.loop-place.invariant.1)
      | else-is_open_in-via-else-is_open_in w ↦
          let not_here : waits_in life x ≡ false = closed_not_waiting life x (sym c.is_open_in.ensures ∙ w.if-is_open_in.false) in
          (omega arith, none_on (waits_in life) c.loop-place.place c.args.rows.now x c.loop-place-test.true (subst (λ (r : Taken). waits_in life r ≡ false) c.index-rows-place.is not_here) c.loop-place.invariant.1)
    ]

pub returns-clause-place : goal.returns-clause-place
returns-clause-place c = sym (first_nowhere c.args.from.life c.loop-place.place c.args.rows.now (omega arith) c.loop-place.invariant.1)
