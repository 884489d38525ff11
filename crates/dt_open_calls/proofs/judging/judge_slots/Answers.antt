use Rattle.std.proofs.Common.{ℕ, rules, ◌+◌, ◌<◌, ◌≤◌, ◌≡◌, ◌++◌, ◌∷◌, [], List, get_or, drop, length, map, filter_map, deque_len, deque_capacity, refl, sym, subst, ap, ◌∙◌, arith}
use Rattle.dt_service_model.specs.declared.happenings.Happening.{Happening}
use Rattle.dt_open_calls.specs.Slots.{Slot, judged_slot, unsure_slot}
use Rattle.dt_open_calls.proofs.Lists.{map_stepped, rest_end}
use Rattle.dt_open_calls.proofs.Found.{due_stepped, judged_over, room_stepped, told_stepped, unsure_over}
use Rattle.dt_open_calls.proofs.judging.judge_slots.Goals as goal

pub loop-place-preserved-then-is_calm : goal.loop-place-preserved-then-is_calm
loop-place-preserved-then-is_calm c =
    let now = c.args.now in
    let dues = c.args.dues.now in
    let i = c.loop-place.place in
    let xs = c.loop-place.slots.items in
    let inv = c.loop-place.invariant in
    let h = c.is_calm.ensures c.if-is_calm.true in
    let same = unsure_over now dues xs inv.due i h.0 h.1 in
    record {
      judged = judged_over now dues xs inv.due i h.0 h.1 ∙ inv.judged;
      told = ap (λ (hs : List Happening). c.loop-place.happenings.items ++ hs) same ∙ inv.told;
      room = subst (λ (hs : List Happening). deque_len c.loop-place.happenings + length hs ≤ deque_capacity c.loop-place.happenings) (sym same) inv.room;
      due = inv.due;
    }

pub loop-place-preserved : goal.loop-place-preserved
loop-place-preserved c =
    let now = c.args.now in
    let i = c.loop-place.place in
    let xs = c.loop-place.slots.items in
    let inv = c.loop-place.invariant in
    let lt : i < length xs = omega (arith, c.loop-place-test.true) in
    let x = c.index_mut.result.now in
    let v = c.index_mut.ensures.value in
    let y = c.judge_slot.new.slot in
    let hs = c.loop-place.happenings in
    let is : y ≡ judged_slot now (get_or xs i x) = c.judge_slot.ensures.slot ∙ ap (judged_slot now) v in
    record {
      judged = map_stepped (judged_slot now) i xs _ _ y x lt (search rules) is inv.judged;
      told = told_stepped now i xs _ y x lt (search rules) hs.items _ _ (c.judge_slot.ensures.told ∙ ap (λ (s : Slot). hs.items ++ filter_map (unsure_slot now) (s ∷ [])) v) inv.told;
      room = room_stepped now i xs _ y x lt (search rules) (deque_len hs) _ (deque_capacity hs) _ (c.judge_slot.ensures.count ∙ ap (λ (s : Slot). deque_len hs + length (filter_map (unsure_slot now) (s ∷ []))) v) c.judge_slot.ensures.room inv.room;
      due = due_stepped now i xs _ y x lt (search rules) c.args.dues.now inv.due is;
    }

pub returns-clause-slots : goal.returns-clause-slots
returns-clause-slots c = sym (rest_end (map (judged_slot c.args.now)) refl c.loop-place.place c.loop-place.slots.items (search rules)) ∙ c.loop-place.invariant.judged
