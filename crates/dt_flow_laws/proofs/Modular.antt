-- Numbers that go round: near each other, their order is that of their offsets.
use Rattle.std.proofs.Common.{ℕ, ◌+◌, ◌-◌, ◌<◌, ◌≤◌, ◌≡◌, refl, arith, inl, inr, sym, ap, ◌∙◌}
use Rattle.std.specs.Prelude.{◌%◌, ◌==◌, true, false, nat_lt}
use Rattle.std.proofs.lemmas.Bool.{cases_lt, cases_Bool}
use Rattle.std.proofs.lemmas.Bool.Decides.{nat_tests}
use Rattle.dt_units.specs.declared.order.Relation.{Relation}
use Rattle.dt_units.specs.declared.order.Relation.TheVariants.{Above, Below, Equal}
use Rattle.dt_units.specs.declared.parameters.Params.{Params}
use Rattle.dt_flow_model.specs.Numbering.{number_of, order_of}
use Rattle.dt_units.specs.Numbers.{number_after, number_distance, relation_by, relation_of}

-- the number after those of a packet
pub after_number : (p : Params) (number offset count : ℕ) → number ≡ number_of p offset → number_after number count ≡ number_of p (offset + count)
after_number p number offset count e = let k : number ≡ (p.start + offset) % 4294967296 = e in let goal : (number + count) % 4294967296 ≡ (p.start + (offset + count)) % 4294967296 = omega arith in goal

-- a distance that is less than the way round
distance_up : (s a b : ℕ) → a ≤ b → b < a + 4294967296 → (((s + b) % 4294967296) + (4294967296 - ((s + a) % 4294967296))) % 4294967296 ≡ b - a
distance_up s a b le lt = omega arith

distance_down : (s a b : ℕ) → a < b → b < a + 4294967296 → (((s + a) % 4294967296) + (4294967296 - ((s + b) % 4294967296))) % 4294967296 ≡ 4294967296 - (b - a)
distance_down s a b le lt = omega arith

pub distance_from : (p : Params) (low high : ℕ) → low ≤ high → high < low + 4294967296 → number_distance (number_of p high) (number_of p low) ≡ high - low
distance_from p low high le lt = distance_up p.start low high le lt

pub distance_to : (p : Params) (low high : ℕ) → low < high → high < low + 4294967296 → number_distance (number_of p low) (number_of p high) ≡ 4294967296 - (high - low)
distance_to p low high le lt = distance_down p.start low high le lt

-- equal numbers are equal offsets
pub same_offset : (p : Params) (a b : ℕ) → number_of p a ≡ number_of p b → a < b + 4294967296 → b < a + 4294967296 → a ≡ b
same_offset p a b e lt lt' = let k : (p.start + a) % 4294967296 ≡ (p.start + b) % 4294967296 = e in let goal : a ≡ b = omega arith in goal

relation_at : (d : ℕ) (r : Relation) → relation_by d ≡ r → (e : ℕ) → e ≡ d → relation_by e ≡ r
relation_at d r h e same = ap relation_by same ∙ h

by_zero : relation_by 0 ≡ Equal
by_zero = refl

by_up : (d : ℕ) → 0 < d → d < 2147483648 → relation_by d ≡ Above
by_up d pos lt = let a : (d == 0) ≡ false = grind (arith, nat_tests) in let b : nat_lt d 2147483648 ≡ true = grind (arith, nat_tests) in rw (a, b)

by_down : (d : ℕ) → 2147483648 ≤ d → relation_by d ≡ Below
by_down d ge = let a : (d == 0) ≡ false = grind (arith, nat_tests) in let b : nat_lt d 2147483648 ≡ false = grind (arith, nat_tests) in rw (a, b)

pub relation_is : (p : Params) (n expected : ℕ) → n < expected + 2147483648 → expected ≤ n + 2147483648 → relation_of (number_of p n) (number_of p expected) ≡ order_of n expected
relation_is p n expected lt lt' =
    elim (cases_lt n expected) [
      | inl below ↦
          let a : (n == expected) ≡ false = grind (arith, nat_tests) in let b : nat_lt expected n ≡ false = grind (arith, nat_tests) in
          rw (a, b) (relation_at (4294967296 - (expected - n)) Below (by_down (4294967296 - (expected - n)) (omega arith)) _ (distance_to p n expected below (omega arith)))
      | inr ge ↦
          elim (cases_lt expected n) [
            | inl above ↦
                let a : (n == expected) ≡ false = grind (arith, nat_tests) in let b : nat_lt expected n ≡ true = grind (arith, nat_tests) in
                rw (a, b) (relation_at (n - expected) Above (by_up (n - expected) (omega arith) (omega arith)) _ (distance_from p expected n ge (omega arith)))
            | inr le ↦
                let a : (n == expected) ≡ true = grind (arith, nat_tests) in
                rw a (relation_at 0 Equal by_zero _ (distance_from p expected n ge (omega arith) ∙ omega arith))
          ]
    ]

-- what an order says
pub is_equal : (n expected : ℕ) → order_of n expected ≡ Equal → n ≡ expected
is_equal n expected h =
    elim (cases_Bool (n == expected)) [
      | inl same ↦ grind (arith, nat_tests)
      | inr other ↦ elim (cases_Bool (nat_lt expected n)) [ inl up ↦ absurd (let e = rw (other, up) at h in cc) | inr down ↦ absurd (let e = rw (other, down) at h in cc) ]
    ]

pub is_above : (n expected : ℕ) → order_of n expected ≡ Above → expected < n
is_above n expected h =
    elim (cases_Bool (n == expected)) [
      | inl same ↦ absurd (let e = rw same at h in cc)
      | inr other ↦ elim (cases_Bool (nat_lt expected n)) [ inl up ↦ grind (arith, nat_tests) | inr down ↦ absurd (let e = rw (other, down) at h in cc) ]
    ]

-- the order of offsets is that of their places
order_below : (a b : ℕ) → a < b → order_of a b ≡ Below
order_below a b lt = let e : (a == b) ≡ false = grind (arith, nat_tests) in let d : nat_lt b a ≡ false = grind (arith, nat_tests) in rw (e, d)

order_above : (a b : ℕ) → b < a → order_of a b ≡ Above
order_above a b lt = let e : (a == b) ≡ false = grind (arith, nat_tests) in let d : nat_lt b a ≡ true = grind (arith, nat_tests) in rw (e, d)

order_equal : (a b : ℕ) → a ≡ b → order_of a b ≡ Equal
order_equal a b same = let e : (a == b) ≡ true = grind (arith, nat_tests) in rw e

pub order_places : (base n expected place top : ℕ) → base + n ≡ place → base + expected ≡ top → order_of n expected ≡ order_of place top
order_places base n expected place top e e' =
    elim (cases_lt n expected) [
      | inl lt ↦ order_below n expected lt ∙ sym (order_below place top (omega arith))
      | inr ge ↦ elim (cases_lt expected n) [ inl gt ↦ order_above n expected gt ∙ sym (order_above place top (omega arith)) | inr le ↦ order_equal n expected (omega arith) ∙ sym (order_equal place top (omega arith)) ]
    ]
