-- One more reading of a clock in memory.
use Rattle.std.proofs.Common.{◌≡◌, ℕ, ◌+◌, ◌<◌, List, [], ◌∷◌, ◌++◌, length, map, true, nat_lt, refl, ap, sym, ◌∙◌, arith, zero-add, inl, inr, lt-ltb}
use Rattle.std.proofs.lemmas.Bool.{cases_Bool}
use borrow.Author.Tests.{ltb-true}
use Rattle.std.specs.List.{range_with_len}
use Rattle.std.proofs.lemmas.List.FromFn.{map-range_with_len_more, length-map-range_with_len}
use Rattle.std.specs.Option.{IfSome, IsSome}
use Rattle.dt_edges.specs.Counts.{last_count, next_count}
use Rattle.dt_edges.specs.Telling.{Notes}
use Rattle.dt_edges.specs.Clocks.{ClockInMemory, reading_at, told_readings, clock_in_memory, clock_after, ReadsOne}

notes_reading : (plan : List ℕ) (taken reading after : ℕ) → reading ≡ reading_at plan taken → after ≡ next_count taken → Notes reading (told_readings (record { plan = plan; taken = taken })) (told_readings (record { plan = plan; taken = after }))
notes_reading plan taken reading after r a =
    elim (cases_Bool (nat_lt after last_count)) [
      | inl y ↦
          let below : taken < last_count = omega (arith, ltb-true _ _ y) in
          let one : after ≡ taken + 1 = omega (arith, ltb-true _ _ y) in
          let t : nat_lt taken last_count ≡ true = lt-ltb _ _ below in
          rw (y, t) (
            map (reading_at plan) (range_with_len 0 taken),
            refl,
            ap (λ n. map (reading_at plan) (range_with_len 0 n)) one
                ∙ map-range_with_len_more (reading_at plan) 0 taken taken (zero-add taken)
                ∙ ap (λ x. map (reading_at plan) (range_with_len 0 taken) ++ x ∷ []) (sym r),
          )
      | inr n ↦ rw n tt
    ]

reads_by_plan : (plan : List ℕ) (taken reading : ℕ) → reading ≡ reading_at plan taken → IfSome (told_readings (record { plan = plan; taken = taken })) (λ before. reading ≡ reading_at plan (length before))
reads_by_plan plan taken reading r =
    elim (cases_Bool (nat_lt taken last_count)) [
      | inl y ↦ rw y (r ∙ ap (reading_at plan) (sym (length-map-range_with_len (reading_at plan) 0 taken)))
      | inr n ↦ rw n tt
    ]

-- a clock that told its readings tells one more, while few were taken
tells_readings : (plan : List ℕ) (taken after : ℕ) → after ≡ next_count taken → IfSome (told_readings (record { plan = plan; taken = taken })) (λ before. length before + 1 < last_count → IsSome (told_readings (record { plan = plan; taken = after })))
tells_readings plan taken after a =
    elim (cases_Bool (nat_lt taken last_count)) [
      | inl y ↦
          rw y (λ few.
          let below : after < last_count = omega (arith, few, length-map-range_with_len (reading_at plan) 0 taken) in
          let t : nat_lt after last_count ≡ true = lt-ltb _ _ below in
          rw t refl)
      | inr n ↦ rw n tt
    ]

-- what a reading by the plan does to what the clock tells
pub reads_one : (clock : ClockInMemory) (reading : ℕ) → 0 < length clock.plan → reading ≡ reading_at clock.plan clock.taken → ReadsOne reading (clock_in_memory clock) (clock_in_memory (clock_after clock))
reads_one clock reading some r = record {
  some = some;
  readings = notes_reading clock.plan clock.taken reading (next_count clock.taken) r refl;
  by_plan = reads_by_plan clock.plan clock.taken reading r;
  tells = tells_readings clock.plan clock.taken (next_count clock.taken) refl;
  plan = refl;
}
