use Rattle.std.proofs.Common.{ℕ, ◌+◌, ◌≡◌, ◌<◌, ◌≤◌, List, drop, length, refl, sym, ap, subst, ◌∙◌, arith, rules}
use Rattle.dt_calls_model.specs.CallStep.{becomes_unsure}
use Rattle.dt_calls.specs.Parts.{calls_seen}
use Rattle.dt_calls.proofs.JudgeParts.{is_there, same_read, sure_next, to_number, unsure_next}
use Rattle.dt_call_parts.proofs.JudgeWaiting.{JudgesTo, all_judged, none_from}
use Rattle.dt_calls.proofs.unsure_calls.mark_waiting_unsure.Goals as goal
use Rattle.dt_calls.proofs.unsure_calls.mark_waiting_unsure.Goals.{then-becomes_unsure, else-becomes_unsure}

pub index-requires : goal.index-requires
index-requires g c =
    let less : c.loop-place.place < length c.args.parts.now.waiting.items = search rules in
    let there = is_there g.L.CallLines.tells c.args.parts.now c.loop-place.parts c.args.lines.now c.loop-place.lines c.loop-place.place c.index-number.result.now less c.loop-place.invariant.same c.index-number.ensures c.loop-place.invariant.to in
    omega (arith, there, c.loop-place.parts.calls.ok.0)

pub index_mut-requires : goal.index_mut-requires
index_mut-requires g c =
    let less : c.loop-place.place < length c.args.parts.now.waiting.items = search rules in
    let there = is_there g.L.CallLines.tells c.args.parts.now c.loop-place.parts c.args.lines.now c.loop-place.lines c.loop-place.place c.index-number.result.now less c.loop-place.invariant.same c.index-number.ensures c.loop-place.invariant.to in
    omega (arith, there, c.loop-place.parts.calls.ok.0)

pub loop-place-preserved : goal.loop-place-preserved
loop-place-preserved g c =
    let tells = g.L.CallLines.tells in
    let fn = c.args.parts.now in
    let loop = c.loop-place.parts in
    let after = c.if-becomes_unsure.parts in
    let inv = c.loop-place.invariant in
    let i = c.loop-place.place in
    let k = c.index-number.result.now in
    let l = c.args.lines.now in
    let m = c.loop-place.lines in
    let n = c.if-becomes_unsure.lines in
    let ks = drop (i + 1) fn.waiting.items in
    let less : c.loop-place.place < length c.args.parts.now.waiting.items = search rules in
    let to = to_number g.L.CallLines.tells c.args.parts.now c.loop-place.parts c.args.lines.now c.loop-place.lines c.loop-place.place c.index-number.result.now less c.loop-place.invariant.same c.index-number.ensures c.loop-place.invariant.to in
    let there = is_there g.L.CallLines.tells c.args.parts.now c.loop-place.parts c.args.lines.now c.loop-place.lines c.loop-place.place c.index-number.result.now less c.loop-place.invariant.same c.index-number.ensures c.loop-place.invariant.to in
    elim c.if-becomes_unsure.branch [
      | then-becomes_unsure w ↦
          let x = w.index_mut.result.now in
          let is = same_read loop.calls.items k x c.index.result.now there w.index_mut.ensures.value c.index.ensures in
          let next = unsure_next tells fn loop after l m n k ks x to inv.same inv.covers w.index_mut.ensures.value (subst (λ p. p ≡ record loop { calls = p.calls }) (sym w.parts-is) refl)
          c.now-moment.result (ap (becomes_unsure loop.world.state) is ∙ sym w.if-becomes_unsure.ensures) (ap (λ p. p.calls.items) w.parts-is) c.now-moment.ensures (subst (λ o. tells m _ o) (sym w.lines-is) w.line.ensures) in
          record { to = next.to; same = next.same; covers = next.covers }
      | else-becomes_unsure w ↦
          let x = c.index.result.now in
          let next = sure_next tells fn loop after l m n k ks x to inv.same inv.covers c.index.ensures (subst (λ p. p ≡ record loop { calls = p.calls }) (sym w.parts-is) refl)
          (sym w.if-becomes_unsure.ensures) (ap (λ p. p.calls.items) w.parts-is) w.lines-is in
          record { to = next.to; same = next.same; covers = next.covers }
    ]

pub returns-clause-goes : goal.returns-clause-goes
returns-clause-goes g c =
    let fn = c.args.parts.now in
    let loop = c.loop-place.parts in
    let inv = c.loop-place.invariant in
    let past : length fn.waiting.items ≤ c.loop-place.place = search rules in
    let to = subst (λ (ns : List ℕ). JudgesTo g.L.CallLines.tells fn.world.state fn.calls.items c.args.lines.now ns loop.calls.items c.loop-place.lines) (none_from fn.waiting.items c.loop-place.place past) inv.to in
    let gone = all_judged g.L.CallLines.tells fn.world.state fn.calls.items c.args.lines.now loop.calls.items c.loop-place.lines to (calls_seen fn) refl refl in
    record { lines = gone.lines; calls = ap calls_seen inv.same ∙ gone.calls }
