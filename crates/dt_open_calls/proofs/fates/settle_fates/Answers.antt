use Rattle.std.proofs.Common.{ℕ, rules, ◌≡◌, ◌<◌, ◌≤◌, ◌+◌, List, length, refl, ap, sym, ◌∙◌, arith}
use Rattle.dt_table.specs.Places.{slot}
use Rattle.dt_open_calls.specs.Slots.{Slot, count_past, fated_slot, has_octets_on}
use Rattle.dt_open_calls.proofs.Found.{due_touched, slot_at, slot_within}
use Rattle.dt_open_calls.proofs.Lists.{long_stepped}
use Rattle.dt_open_calls.proofs.Settled.{before_stepped, fated_from, settle_begins, settle_ends, settle_spent, settle_step, span_stepped}
use Rattle.dt_open_calls.proofs.fates.settle_fates.Goals as goal

pub loop-place-init : goal.loop-place-init
loop-place-init c =
    let t = c.args.fate.now in
    record {
      settled = settle_begins t.given_up t.flow c.args.span.first c.args.span.last t.count c.args.slots.now.items c.requires.span;
      due = c.requires.due;
      span = c.requires.span;
      before = λ i d h lt o. let r = c.requires.span i d h o in absurd (omega arith);
      reached = omega arith;
      long = refl;
    }

pub returns-then-rest-eq0-clause-slots : goal.returns-then-rest-eq0-clause-slots
returns-then-rest-eq0-clause-slots c =
    let t = c.args.fate.now in
    let xs = c.loop-place.slots.items in
    let z : c.loop-place.rest ≡ 0 = omega arith in
    sym (settle_spent t.given_up t.flow c.loop-place.place xs) ∙ ap (λ (n : ℕ). fated_from t.given_up t.flow c.loop-place.place n xs) (sym z) ∙ c.loop-place.invariant.settled

pub loop-place-preserved : goal.loop-place-preserved
loop-place-preserved c =
    let t = c.args.fate.now in
    let g = t.given_up in
    let f = t.flow in
    let i = c.loop-place.place in
    let xs = c.loop-place.slots.items in
    let rest = c.loop-place.rest in
    let inv = c.loop-place.invariant in
    let k = c.args.slots.now.ok.0 in
    let m = c.len.ensures in
    let lt : i < length xs = omega (arith, inv.long) in
    let some : 0 < rest = omega arith in
    let x = c.index_mut.result.now in
    let v = c.index_mut.ensures.value ∙ slot_at xs i x lt in
    let s = c.settle_slot-rest.new.slot in
    let is : s ≡ fated_slot g f rest (slot xs i) = c.settle_slot-rest.ensures.slot ∙ ap (fated_slot g f rest) v in
    let left : c.settle_slot-rest.result ≡ count_past f rest (slot xs i) = c.settle_slot-rest.ensures.count ∙ ap (count_past f rest) v in
    record {
      settled = settle_step g f i rest c.settle_slot-rest.result xs _ _ s lt (search rules) is left inv.settled;
      due = due_touched c.loop-place.dues.items c.touch_slot.new.dues.items xs _ i s c.index.result.now lt c.touch_slot.ensures.earlier (λ call h. c.touch_slot.ensures.here call (c.index.ensures ∙ h)) inv.due (search rules);
      span = span_stepped g f i rest c.args.span.first c.args.span.last xs _ s lt is inv.span (search rules);
      before = before_stepped g f i rest c.settle_slot-rest.result c.loop-place.reached xs _ s lt some is left inv.before (search rules);
      reached = omega arith;
      long = long_stepped xs _ i _ s inv.long (search rules);
    }

pub returns-clause-slots : goal.returns-clause-slots
returns-clause-slots c =
    let t = c.args.fate.now in
    let inv = c.loop-place.invariant in
    sym (settle_ends t.given_up t.flow c.loop-place.place c.loop-place.rest c.loop-place.slots.items (λ j d le h o. let r = inv.span j d h o in let w = slot_within c.loop-place.slots.items j d h in let k = c.args.slots.now.ok.0 in let m = c.len.ensures in absurd (omega (arith, inv.long)))) ∙ inv.settled
