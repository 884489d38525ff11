-- A run over what another took in goes as far as that one.
use Rattle.std.proofs.Common.{◌≡◌, inl, inr, ℕ, zero, suc, ◌+◌, ◌-◌, ◌<◌, ◌≤◌, ◌==◌, nat_le, true, false, List, [], ◌∷◌, ◌++◌, length, map, drop, Option, refl, sym, ap, ◌∙◌, arith}
use Rattle.std.specs.List.{range_with_len}
use Rattle.std.proofs.lemmas.Bool.{cases_Bool}
use Rattle.std.proofs.lemmas.List.{length-drop, take-append-drop}
use Rattle.std.proofs.lemmas.List.FromFn.{length-map-range_with_len, take-map-range_with_len}
use borrow.Author.Tests.{eq-eqb, eqb-true, leb-false, leb-true}
use Rattle.dt_edges.specs.Counts.{is_planned}
use Rattle.dt_edges.specs.Wires.{Datagram, Plan}
use Rattle.dt_node.specs.declared.outcomes.NodeOutcome.{NodeOutcome}
use Rattle.dt_node.specs.declared.outcomes.NodeOutcome.TheVariants.{Done, Refused, NoMemory, WireFault, ClockStill, WriteFault}
use Rattle.dt_script.specs.Orders.{Orders}
use Rattle.dt_node.specs.Runs.{Ending, LeftOver, Run, StoodStill, Stopped, Unfinished, node_run}
use Rattle.dt_node.specs.Serving.{CountsTakes, EndsAs, FailsAs, HasFailed, IsWhole, NoneFails}
use Rattle.dt_node.proofs.Leaving.{HasEnded, run_leaves}

-- so many of a plan are the first of more
more_of : {X : Type 0} (f : ℕ → X) (n m : ℕ) → n ≤ m → (more : List X) × (map f (range_with_len 0 m) ≡ map f (range_with_len 0 n) ++ more) × (length more ≡ m - n)
more_of f n m least =
    let all = map f (range_with_len 0 m) in (
      drop n all,
      sym (take-append-drop n all) ∙ ap (λ xs. xs ++ drop n all) (take-map-range_with_len f 0 m n least),
      length-drop n all ∙ ap (λ (k : ℕ). k - n) (length-map-range_with_len f 0 m),
    )

-- which takes fail, where one does
pub just_one : (n k : ℕ) → is_planned (n ∷ []) k ≡ true → n ≡ k
just_one n k h = elim (cases_Bool (n == k)) [
  | inl y ↦ eqb-true n k y
  | inr other ↦ absurd (let e : false ≡ true = rw other at h in cc)
]

not_beyond : (failing : List ℕ) (n m : ℕ) → failing ≡ (n + 1) ∷ [] → NoneFails failing m → m ≤ n
not_beyond failing n m is h = elim (cases_Bool (nat_le m n)) [
  | inl y ↦ leb-true m n y
  | inr other ↦ absurd (
      let fails : is_planned ((n + 1) ∷ []) (n + 1) ≡ false = ap (λ (ns : List ℕ). is_planned ns (n + 1)) (sym is) ∙ h n (leb-false m n other) in
      let here : (n + 1 == n + 1) ≡ true = eq-eqb (n + 1) (n + 1) refl in
      let e : true ≡ false = rw here at fails in
      cc
      )
]

pub no_fault : (p : Plan) (n m : ℕ) → p.failing_takes ≡ [] → p.open_fails ≡ false → FailsAs WireFault p n m → ⊥
no_fault p n m none opens (inl h) = absurd (let e : false ≡ true = sym opens ∙ h.0 in cc)
no_fault p n m none opens (inr h) = absurd (let e : false ≡ true = ap (λ (ns : List ℕ). is_planned ns (m + 1)) (sym none) ∙ h.3 in cc)

-- THE RUNS over the first readings and the first takes of a plan
module _ (o : Orders) (f : ℕ → ℕ) (g : ℕ → Option Datagram) where
  abbrev pub run : ℕ → ℕ → Run
  run n m = node_run o (map f (range_with_len 0 n)) (map g (range_with_len 0 m))

  leaves : (n m n' m' : ℕ) → n ≤ n' → m ≤ m' → 0 < (n' - n) + (m' - m) → HasEnded (run n m).ending → (run n' m').ending ≡ LeftOver
  leaves n m n' m' less least some h =
      let readings = more_of f n n' less in
      let takes = more_of g m m' least in
      ap (λ rs. (node_run o rs (map g (range_with_len 0 m'))).ending) readings.1
      ∙ ap (λ ts. (node_run o (map f (range_with_len 0 n) ++ readings.0) ts).ending) takes.1
      ∙ run_leaves o (map f (range_with_len 0 n)) readings.0 (map g (range_with_len 0 m)) takes.0 (omega (arith, some, readings.2, takes.2)) h

  by_rest : (k n m n' m' : ℕ) → k ≡ (n' - n) + (m' - m) → n ≤ n' → m ≤ m' → HasEnded (run n m).ending → ((run n' m').ending ≡ LeftOver → ⊥) → (n' ≡ n) × (m' ≡ m)
  by_rest zero n m n' m' e less least h never = (omega (arith, e, less, least), omega (arith, e, less, least))
  by_rest (suc k) n m n' m' e less least h never = absurd (never (leaves n m n' m' less least (omega (arith, e)) h))

  -- a run that goes on after one that has ended is that one
  no_longer : (n m n' m' : ℕ) → n ≤ n' → m ≤ m' → HasEnded (run n m).ending → ((run n' m').ending ≡ LeftOver → ⊥) → (n' ≡ n) × (m' ≡ m)
  no_longer n m n' m' less least h never = by_rest ((n' - n) + (m' - m)) n m n' m' refl less least h never

  ended_never_left : (ending : Ending) → HasEnded ending → ending ≡ LeftOver → ⊥
  ended_never_left ending (inl h) e = absurd cc
  ended_never_left ending (inr h) e = absurd cc

  back : (n m n' m' : ℕ) → (n' ≡ n) × (m' ≡ m) → (n ≡ n') × (m ≡ m')
  back n m n' m' h = (sym h.0, sym h.1)

  -- two runs that have ended
  same_length : (n m n' m' : ℕ) → m ≤ n → n ≤ m + 1 → m' ≤ n' → n' ≤ m' + 1 → HasEnded (run n m).ending → HasEnded (run n' m').ending → (n' ≡ n) × (m' ≡ m)
  same_length n m n' m' a b c d h k = elim (cases_Bool (nat_le n n')) [
    | inl y ↦ elim (cases_Bool (nat_le m m')) [
      | inl z ↦ no_longer n m n' m' (leb-true n n' y) (leb-true m m' z) h (ended_never_left (run n' m').ending k)
      | inr other ↦ let less = leb-false m m' other in let least = leb-true n n' y in back n' m' n m (no_longer n' m' n m (omega (arith, a, b, c, d, less, least)) (omega (arith, less)) k (ended_never_left (run n m).ending h))
    ]
    | inr other ↦ let less = leb-false n n' other in back n' m' n m (no_longer n' m' n m (omega (arith, less)) (omega (arith, a, b, c, d, less)) k (ended_never_left (run n m).ending h))
  ]

  -- the same answer, and as many readings and takes
  abbrev pub IsAsFar : NodeOutcome → NodeOutcome → (n m n' m' : ℕ) → Type 0
  IsAsFar outcome again n m n' m' = (again ≡ outcome) × (n' ≡ n) × (m' ≡ m)

  -- after a run that met its stop
  after_done : (again : NodeOutcome) (p : Plan) (n m n' m' : ℕ) → (run n m).ending ≡ Stopped → m + 1 ≡ n → p.failing_takes ≡ [] → p.open_fails ≡ false
      → IsWhole again → EndsAs again (run n' m').ending → CountsTakes again n' m' → FailsAs again p n' m' → IsAsFar Done again n m n' m'
  after_done Done p n m n' m' ends counts none opens whole h k fails = let same = same_length n m n' m' (omega (arith, counts)) (omega (arith, counts)) (omega (arith, k)) (omega (arith, k)) (inl ends) (inl h) in (refl, same.0, same.1)
  after_done ClockStill p n m n' m' ends counts none opens whole h k fails = absurd (let same = same_length n m n' m' (omega (arith, counts)) (omega (arith, counts)) (omega (arith, k)) (omega (arith, k)) (inl ends) (inr h) in omega (arith, same.0, same.1, counts, k))
  after_done WireFault p n m n' m' ends counts none opens whole h k fails = absurd (no_fault p n' m' none opens fails)
  after_done Refused p n m n' m' ends counts none opens whole h k fails = absurd whole
  after_done NoMemory p n m n' m' ends counts none opens whole h k fails = absurd whole
  after_done WriteFault p n m n' m' ends counts none opens whole h k fails = absurd whole

  -- after a run whose clock stood still
  after_still : (again : NodeOutcome) (p : Plan) (n m n' m' : ℕ) → (run n m).ending ≡ StoodStill → m ≡ n → p.failing_takes ≡ [] → p.open_fails ≡ false
      → IsWhole again → EndsAs again (run n' m').ending → CountsTakes again n' m' → FailsAs again p n' m' → IsAsFar ClockStill again n m n' m'
  after_still ClockStill p n m n' m' ends counts none opens whole h k fails = let same = same_length n m n' m' (omega (arith, counts)) (omega (arith, counts)) (omega (arith, k)) (omega (arith, k)) (inr ends) (inr h) in (refl, same.0, same.1)
  after_still Done p n m n' m' ends counts none opens whole h k fails = absurd (let same = same_length n m n' m' (omega (arith, counts)) (omega (arith, counts)) (omega (arith, k)) (omega (arith, k)) (inr ends) (inl h) in omega (arith, same.0, same.1, counts, k))
  after_still WireFault p n m n' m' ends counts none opens whole h k fails = absurd (no_fault p n' m' none opens fails)
  after_still Refused p n m n' m' ends counts none opens whole h k fails = absurd whole
  after_still NoMemory p n m n' m' ends counts none opens whole h k fails = absurd whole
  after_still WriteFault p n m n' m' ends counts none opens whole h k fails = absurd whole

  -- after a run whose wire wasn't opened
  no_takes : (n m : ℕ) → n ≡ 0 → CountsTakes WireFault n m → m ≡ 0
  no_takes n m none (inl h) = h.1
  no_takes n m none (inr h) = absurd (omega (arith, none, h))

  unopened_again : (p : Plan) (n m n' m' : ℕ) → n ≡ 0 → m ≡ 0 → p.open_fails ≡ true → CountsTakes WireFault n' m' → FailsAs WireFault p n' m' → IsAsFar WireFault WireFault n m n' m'
  unopened_again p n m n' m' none nothing opens k (inl h) = let takes = no_takes n' m' h.1 k in (refl, h.1 ∙ sym none, takes ∙ sym nothing)
  unopened_again p n m n' m' none nothing opens k (inr h) = absurd (let e : true ≡ false = sym opens ∙ h.0 in cc)

  after_unopened : (again : NodeOutcome) (p : Plan) (n m n' m' : ℕ) → n ≡ 0 → m ≡ 0 → p.open_fails ≡ true
      → IsWhole again → CountsTakes again n' m' → FailsAs again p n' m' → IsAsFar WireFault again n m n' m'
  after_unopened WireFault p n m n' m' none nothing opens whole k fails = unopened_again p n m n' m' none nothing opens k fails
  after_unopened Done p n m n' m' none nothing opens whole k fails = absurd (let e : true ≡ false = sym opens ∙ fails.0 in cc)
  after_unopened ClockStill p n m n' m' none nothing opens whole k fails = absurd (let e : true ≡ false = sym opens ∙ fails.0 in cc)
  after_unopened Refused p n m n' m' none nothing opens whole k fails = absurd whole
  after_unopened NoMemory p n m n' m' none nothing opens whole k fails = absurd whole
  after_unopened WriteFault p n m n' m' none nothing opens whole k fails = absurd whole

  -- after a run one of whose takes failed
  one_more : (n m : ℕ) → 0 < n → CountsTakes WireFault n m → m + 1 ≡ n
  one_more n m some (inl h) = absurd (omega (arith, some, h.0))
  one_more n m some (inr h) = h

  failed_again : (p : Plan) (n m n' m' : ℕ) → m + 1 ≡ n → p.failing_takes ≡ (m + 1) ∷ [] → p.open_fails ≡ false → CountsTakes WireFault n' m' → FailsAs WireFault p n' m' → IsAsFar WireFault WireFault n m n' m'
  failed_again p n m n' m' counts one opens k (inl h) = absurd (let e : false ≡ true = sym opens ∙ h.0 in cc)
  failed_again p n m n' m' counts one opens k (inr h) =
      let here = just_one (m + 1) (m' + 1) (ap (λ (ns : List ℕ). is_planned ns (m' + 1)) (sym one) ∙ h.3) in
      let more = one_more n' m' h.1 k in
      (refl, omega (arith, here, more, counts), omega (arith, here))

  never_left : (n m : ℕ) → (run n m).ending ≡ Unfinished → (run n m).ending ≡ LeftOver → ⊥
  never_left n m h e = absurd cc

  same_ending : (n m n' m' : ℕ) → n' ≡ n → m' ≡ m → (run n' m').ending ≡ (run n m).ending
  same_ending n m n' m' e k = ap (λ (i : ℕ). (run i m').ending) e ∙ ap (λ (j : ℕ). (run n j).ending) k

  after_failed : (again : NodeOutcome) (p : Plan) (n m n' m' : ℕ) → (run n m).ending ≡ Unfinished → m + 1 ≡ n → p.failing_takes ≡ (m + 1) ∷ [] → p.open_fails ≡ false
      → IsWhole again → EndsAs again (run n' m').ending → CountsTakes again n' m' → FailsAs again p n' m' → IsAsFar WireFault again n m n' m'
  after_failed WireFault p n m n' m' ends counts one opens whole h k fails = failed_again p n m n' m' counts one opens k fails
  after_failed Done p n m n' m' ends counts one opens whole h k fails = absurd (
      let least = not_beyond p.failing_takes m m' one fails.1 in
      let same = no_longer n' m' n m (omega (arith, least, counts, k)) least (inl h) (never_left n m ends) in
      let e : Stopped ≡ Unfinished = sym h ∙ same_ending n m n' m' (sym same.0) (sym same.1) ∙ ends in
      cc
      )
  after_failed ClockStill p n m n' m' ends counts one opens whole h k fails = absurd (
      let least = not_beyond p.failing_takes m m' one fails.1 in
      let same = no_longer n' m' n m (omega (arith, least, counts, k)) least (inr h) (never_left n m ends) in
      omega (arith, same.0, same.1, counts, k)
      )
  after_failed Refused p n m n' m' ends counts one opens whole h k fails = absurd whole
  after_failed NoMemory p n m n' m' ends counts one opens whole h k fails = absurd whole
  after_failed WriteFault p n m n' m' ends counts one opens whole h k fails = absurd whole

  after_fault : (again : NodeOutcome) (p : Plan) (n m n' m' : ℕ) → (run n m).ending ≡ Unfinished → CountsTakes WireFault n m → HasFailed WireFault n m p.failing_takes p.open_fails
      → IsWhole again → EndsAs again (run n' m').ending → CountsTakes again n' m' → FailsAs again p n' m' → IsAsFar WireFault again n m n' m'
  after_fault again p n m n' m' ends counts (inl h) whole g k fails = after_unopened again p n m n' m' h.0 (no_takes n m h.0 counts) h.2 whole k fails
  after_fault again p n m n' m' ends counts (inr h) whole g k fails = after_failed again p n m n' m' ends (one_more n m h.0 counts) h.1 h.2 whole g k fails

  -- THE RUN OVER WHAT ANOTHER TOOK IN
  pub as_far : (outcome again : NodeOutcome) (p : Plan) (n m n' m' : ℕ) → IsWhole outcome → EndsAs outcome (run n m).ending → CountsTakes outcome n m → HasFailed outcome n m p.failing_takes p.open_fails
      → IsWhole again → EndsAs again (run n' m').ending → CountsTakes again n' m' → FailsAs again p n' m' → IsAsFar outcome again n m n' m'
  as_far Done again p n m n' m' whole ends counts failed whole' h k fails = after_done again p n m n' m' ends counts failed.0 failed.1 whole' h k fails
  as_far ClockStill again p n m n' m' whole ends counts failed whole' h k fails = after_still again p n m n' m' ends counts failed.0 failed.1 whole' h k fails
  as_far WireFault again p n m n' m' whole ends counts failed whole' h k fails = after_fault again p n m n' m' ends counts failed whole' h k fails
  as_far Refused again p n m n' m' whole ends counts failed whole' h k fails = absurd whole
  as_far NoMemory again p n m n' m' whole ends counts failed whole' h k fails = absurd whole
  as_far WriteFault again p n m n' m' whole ends counts failed whole' h k fails = absurd whole
