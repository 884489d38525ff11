-- The watch from turn to turn.
use Rattle.std.proofs.Common.{ℕ, ◌+◌, ◌-◌, ◌*◌, ◌^◌, ◌<◌, ◌≤◌, nat_lt, arith, inl, inr}
use Rattle.std.proofs.lemmas.Bool.{cases_Bool}
use borrow.Author.Tests.{ltb-true}
use Rattle.dt_node.specs.declared.watch.Watch.{Watch}
use Rattle.dt_node.specs.Runs.{capped, first_watch, next_watch, moment, most_equal}

pub record IsWell (w : Watch) : Type 0 where
  pub order : w.first ≤ w.greatest
  pub within : w.greatest ≤ 2 ^ 62
  pub some : 0 < w.equal
  pub few : w.equal ≤ most_equal

-- how many turns there can be yet before the stop
abbrev pub left_before : ℕ → Watch → ℕ
left_before stop w = most_equal * (stop - moment w) + (most_equal - w.equal)

pub record Goes (n stop : ℕ) (w v : Watch) : Type 0 where
  pub well : IsWell v
  pub later : moment w ≤ moment v
  pub paced : n ≤ most_equal * moment w + w.equal → n + 1 ≤ most_equal * moment v + v.equal
  pub falls : moment w < stop → left_before stop v < left_before stop w

new_moment : (w : Watch) (reading n stop : ℕ) → IsWell w → w.equal < most_equal → w.greatest < capped reading → Goes n stop w (record { first = w.first; greatest = capped reading; equal = 1 })
new_moment w reading n stop well few h = record {
  well = record { order = omega (arith, well.order); within = omega arith; some = omega arith; few = omega arith };
  later = omega (arith, well.order);
  paced = λ p. omega (arith, well.order);
  falls = λ p. omega (arith, well.order);
}

same_moment : (w : Watch) (reading n stop : ℕ) → IsWell w → w.equal < most_equal → Goes n stop w (record { first = w.first; greatest = w.greatest; equal = w.equal + 1 })
same_moment w reading n stop well few = record {
  well = record { order = well.order; within = well.within; some = omega arith; few = omega arith };
  later = omega arith;
  paced = λ p. omega arith;
  falls = λ p. omega arith;
}

pub goes_on : (w : Watch) (reading n stop : ℕ) → IsWell w → w.equal < most_equal → Goes n stop w (next_watch reading w)
goes_on w reading n stop well few =
    elim (cases_Bool (nat_lt w.greatest (capped reading))) [
      | inl y ↦ let h = ltb-true _ _ y in rw y (new_moment w reading n stop well few h)
      | inr k ↦ rw k (same_moment w reading n stop well few)
    ]

pub first_well : (reading : ℕ) → IsWell (first_watch reading)
first_well reading = record { order = omega arith; within = omega arith; some = omega arith; few = omega arith }
