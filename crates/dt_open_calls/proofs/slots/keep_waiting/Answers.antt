use Rattle.std.proofs.Common.{rules, ◌<◌, length, map, refl, sym, ap, ◌∙◌, arith}
use Rattle.dt_open_calls.specs.Slots.{waiting_slot}
use Rattle.dt_open_calls.proofs.Lists.{long_stepped, map_stepped, rest_end}
use Rattle.dt_open_calls.proofs.slots.keep_waiting.Goals as goal

pub loop-place-preserved : goal.loop-place-preserved
loop-place-preserved c =
    let i = c.loop-place.place in
    let xs = c.loop-place.slots.items in
    let inv = c.loop-place.invariant in
    let k = c.args.slots.now.ok.0 in
    let m = c.len-place-end.ensures in
    let lt : i < length xs = omega (arith, inv.long) in
    record {
      kept = map_stepped waiting_slot i xs _ _ _ c.index_mut.result.now lt (search rules) (c.keep_if_waiting.ensures ∙ ap waiting_slot c.index_mut.ensures.value) inv.kept;
      long = long_stepped xs _ i _ c.keep_if_waiting.new.slot inv.long (search rules);
    }

pub returns : goal.returns
returns c =
    let k = c.args.slots.now.ok.0 in
    let m = c.len-place-end.ensures in
    sym (rest_end (map waiting_slot) refl c.loop-place.place c.loop-place.slots.items (omega (arith, c.loop-place.invariant.long))) ∙ c.loop-place.invariant.kept
