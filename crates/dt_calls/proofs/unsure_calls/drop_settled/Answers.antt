use Rattle.std.proofs.Common.{ℕ, ◌+◌, ◌<◌, ◌≤◌, ◌++◌, drop, length, length-set, set, take, sym, ap, subst, ◌∙◌, arith, rules}
use Rattle.dt_call_parts.specs.Waiting.{Covers}
use Rattle.dt_call_parts.proofs.JudgeWaiting.{number_dropped, number_kept, number_there}
use Rattle.dt_call_parts.proofs.WaitingLeft.{Wait, all_kept, number_waits}
use Rattle.dt_calls.proofs.unsure_calls.drop_settled.Goals as goal
use Rattle.dt_calls.proofs.unsure_calls.drop_settled.Goals.{then-is_waiting, else-is_waiting}

pub offset_bounds-calls-number : goal.offset_bounds-calls-number
offset_bounds-calls-number c =
    let inv = c.loop-place.invariant in
    let there : c.index-number.result.now < length c.args.calls.now = number_there c.args.calls.now c.loop-place.waiting.items c.loop-place.kept c.loop-place.place c.index-number.result.now inv.order (search rules) c.index-number.ensures inv.covers in
    search rules

pub bounds-calls-number : goal.bounds-calls-number
bounds-calls-number c =
    let inv = c.loop-place.invariant in
    number_there c.args.calls.now c.loop-place.waiting.items c.loop-place.kept c.loop-place.place c.index-number.result.now inv.order (search rules) c.index-number.ensures inv.covers

pub loop-place-preserved : goal.loop-place-preserved
loop-place-preserved c =
    let inv = c.loop-place.invariant in
    let calls = c.args.calls.now in
    let xs = c.loop-place.waiting.items in
    let kept = c.loop-place.kept in
    let place = c.loop-place.place in
    let number = c.index-number.result.now in
    let less : place < length xs = search rules in
    elim c.if-is_waiting.branch [
      | then-is_waiting w ↦
          let more : Covers 0 (take (kept + 1) (set xs kept number) ++ drop (place + 1) (set xs kept number)) calls = number_kept calls xs kept place number inv.order less c.index-number.ensures inv.covers in
          let still : Wait 0 (take (kept + 1) (set xs kept number)) calls = number_waits calls xs kept number _ (let o = inv.order in omega arith) (number_there calls xs kept place number inv.order less c.index-number.ensures inv.covers) (sym w.if-is_waiting.ensures) inv.wait in
          record {
            order = let e = w.kept-is in omega arith;
            long = ap (λ v. length v.items) w.waiting-is ∙ length-set xs kept number ∙ inv.long;
            covers = subst (λ (n : ℕ). Covers 0 (take n c.if-is_waiting.waiting.items ++ drop (place + 1) c.if-is_waiting.waiting.items) calls) (sym w.kept-is)
                (subst (λ v. Covers 0 (take (kept + 1) v.items ++ drop (place + 1) v.items) calls) (sym w.waiting-is) more);
            wait = subst (λ (n : ℕ). Wait 0 (take n c.if-is_waiting.waiting.items) calls) (sym w.kept-is) (subst (λ v. Wait 0 (take (kept + 1) v.items) calls) (sym w.waiting-is) still);
          }
      | else-is_waiting w ↦
          let fewer : Covers 0 (take kept xs ++ drop (place + 1) xs) calls = number_dropped calls xs kept place number inv.order less c.index-number.ensures inv.covers _ (sym w.if-is_waiting.ensures) in
          record {
            order = let e = w.kept-is in omega arith;
            long = ap (λ v. length v.items) w.waiting-is ∙ inv.long;
            covers = subst (λ (n : ℕ). Covers 0 (take n c.if-is_waiting.waiting.items ++ drop (place + 1) c.if-is_waiting.waiting.items) calls) (sym w.kept-is)
                (subst (λ v. Covers 0 (take kept v.items ++ drop (place + 1) v.items) calls) (sym w.waiting-is) fewer);
            wait = subst (λ (n : ℕ). Wait 0 (take n c.if-is_waiting.waiting.items) calls) (sym w.kept-is) (subst (λ v. Wait 0 (take kept v.items) calls) (sym w.waiting-is) inv.wait);
          }
    ]

pub returns-clause-left : goal.returns-clause-left
returns-clause-left c =
    let inv = c.loop-place.invariant in
    let xs = c.loop-place.waiting.items in
    let past : length xs ≤ c.loop-place.place = search rules in
    c.truncate.ensures.items ∙ all_kept xs c.loop-place.kept c.loop-place.place c.args.calls.now past inv.covers inv.wait
