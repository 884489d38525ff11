use Rattle.std.proofs.Common.{ℕ, ◌≡◌, ◌<◌, ◌≤◌, length, true}
use Rattle.dt_table.specs.Places.{slot}
use Rattle.dt_open_calls.specs.Slots.{AreDue, Each, fated, has_octets_on}
use Rattle.dt_open_calls.proofs.Lists.{on_rest}
use Rattle.dt_open_calls.proofs.Settled.{fated_from}
use Rattle.dt_open_calls.proofs.fates.settle_fates.Given as goal

abbrev pub invariant-loop-place : goal.invariant-loop-place
invariant-loop-place l = record {
  settled : fated_from l.fate.given_up l.fate.flow l.place l.rest l.slots.items ≡ fated l.fn.fate.given_up l.fn.fate.flow l.fn.fate.count l.fn.slots.items;
  due : AreDue l.dues.items l.slots.items;
  span : Each (λ i call. has_octets_on l.fate.flow call ≡ true → (l.fn.span.first ≤ i) × (i ≤ l.fn.span.last)) l.slots.items;
  before : Each (λ i call. i < l.place → has_octets_on l.fate.flow call ≡ true → (l.rest ≡ 0) × (l.reached ≤ i)) l.slots.items;
  reached : l.reached ≤ l.place;
  long : length l.slots.items ≡ length l.fn.slots.items;
}
