-- The facts give the safe ledger.
use Rattle.dt_flow_model.specs.declared.rows.ReadCount.{ReadCount}
use Rattle.std.proofs.Common.{ℕ, zero, suc, ◌+◌, ◌<◌, ◌≤◌, ◌≡◌, ◌⊎◌, ◌==◌, Bool, true, false, List, [], ◌∷◌, length, Option, Some, None, refl, ◌∙◌, inl, inr, arith, ◌≢◌, sym}
use Rattle.std.specs.Prelude.{◌||◌}
use Rattle.std.proofs.lemmas.List.{append-nil}
use Rattle.std.proofs.lemmas.Bool.{cases_Bool}
use Rattle.std.proofs.lemmas.Bool.Decides.{nat_tests}
use Rattle.dt_flow_model.specs.Facts.{AllGivenFacts, Facts, IsGiven, Joined, JoinsTo, Rising}
use Rattle.dt_flow_model.specs.Flow.{FlowState}
use Rattle.dt_flow_model.specs.Ledger.{given_at, is_given, item_of, row_at, sent_item_of, HasNoEntry, OneEntryEach, read_count_at}
use Rattle.dt_flow_model.specs.Safe.{Follows, Safe}
use Rattle.dt_flow_model.specs.declared.rows.Fate.TheVariants.{Uncertain}
use Rattle.dt_flow_model.specs.declared.rows.Given.{Given}
use Rattle.dt_flow_model.specs.declared.rows.Taken.{Taken}
use Rattle.dt_units.specs.declared.parameters.Params.{Params}
use Rattle.dt_flow_laws.proofs.Ledger.{past_at, first_within}

-- a place that a row names is given, by the test
or_true : (a b : Bool) → b ≡ true → (a || b) ≡ true
or_true true b h = refl
or_true false b h = h

pub given_test : (given : List Given) (p : ℕ) → IsGiven given p → is_given given p ≡ true
given_test [] p h = elim h [ ]
given_test (g ∷ gs) p (inl h) = let e : (g.place == p) ≡ true = grind (arith, nat_tests) in rw e
given_test (g ∷ gs) p (inr h) = or_true (g.place == p) (is_given gs p) (given_test gs p h)

not_given : (given : List Given) (p : ℕ) → is_given given p ≡ false → IsGiven given p → ⊥
not_given given p h g = let e = given_test given p g in cc

-- places rise
rising_above : (n : ℕ) (given : List Given) (k : ℕ) → Rising n given → k < length given → n ≤ (given_at given k).place
rising_above n [] k h lt = absurd (omega arith)
rising_above n (g ∷ gs) zero h lt = h.0
rising_above n (g ∷ gs) (suc k) h lt = omega (arith, h.0, rising_above (suc g.place) gs k h.1 (omega arith))

pub rising_at : (n : ℕ) (given : List Given) (j k : ℕ) → Rising n given → j < k → k < length given → (given_at given j).place < (given_at given k).place
rising_at n [] j k h lt lt' = absurd (omega arith)
rising_at n (g ∷ gs) j zero h lt lt' = absurd (omega arith)
rising_at n (g ∷ gs) zero (suc k) h lt lt' = omega (arith, rising_above (suc g.place) gs k h.1 (omega arith))
rising_at n (g ∷ gs) (suc j) (suc k) h lt lt' = rising_at (suc g.place) gs j k h.1 (omega arith) (omega arith)

-- a given row is its place's
intact_at : (taken : List Taken) (given : List Given) (k : ℕ) → AllGivenFacts taken given → k < length given → item_of (row_at taken (given_at given k).place) ≡ sent_item_of (given_at given k)
intact_at taken [] k h lt = absurd (omega arith)
intact_at taken (g ∷ gs) zero h lt = h.0.item
intact_at taken (g ∷ gs) (suc k) h lt = intact_at taken gs k h.1 (omega arith)

-- a given row names a place of the ledger
taken_at : (taken : List Taken) (given : List Given) (k : ℕ) → AllGivenFacts taken given → k < length given → (given_at given k).place < length taken
taken_at taken [] k h lt = absurd (omega arith)
taken_at taken (g ∷ gs) zero h lt = first_within taken g.place h.0.first h.0.first_is
taken_at taken (g ∷ gs) (suc k) h lt = taken_at taken gs k h.1 (omega arith)

-- runs are joined
first_joined : (given : List Given) → Joined None given → 0 < length given → (given_at given 0).run ≡ true
first_joined [] h lt = absurd (omega arith)
first_joined (g ∷ gs) h lt = elim (cases_Bool g.run) [ inl y ↦ y | inr n ↦ elim (h.0 n) [ ] ]

follows_of : (before row : Given) → JoinsTo (Some before) row → Follows before row
follows_of before row h = record { place = omega arith; life = h.1 }

joined_at : (before : Option Given) (given : List Given) (k : ℕ) → Joined before given → suc k < length given → (given_at given (suc k)).run ≡ false → Follows (given_at given k) (given_at given (suc k))
joined_at before [] k h lt off = absurd (omega arith)
joined_at before (g ∷ []) k h lt off = absurd (omega arith)
joined_at before (g ∷ g' ∷ gs) zero h lt off = follows_of g g' (h.1.0 off)
joined_at before (g ∷ g' ∷ gs) (suc k) h lt off = joined_at (Some g) (g' ∷ gs) k h.1 (omega arith) off

skipped_of : (given : List Given) (taken : List Taken) (life p : ℕ) → IsGiven given p ⊎ ((row_at taken p).fate ≡ Uncertain) ⊎ ((row_at taken p).life < life)
    → is_given given p ≡ false → life ≤ (row_at taken p).life → (row_at taken p).fate ≡ Uncertain
skipped_of given taken life p (inl g) off le = absurd (not_given given p off g)
skipped_of given taken life p (inr (inl u)) off le = u
skipped_of given taken life p (inr (inr l)) off le = absurd (omega arith)

-- each life has one entry of what was read
absent_at : (life : ℕ) (es : List ReadCount) (k : ℕ) → HasNoEntry life es → k < length es → (read_count_at es k).life ≢ life
absent_at life [] k h lt = absurd (omega arith)
absent_at life (e ∷ es) zero h lt = h.0
absent_at life (e ∷ es) (suc k) h lt = absent_at life es k h.1 (omega arith)

once_at : (es : List ReadCount) (j k : ℕ) → OneEntryEach es → j < k → k < length es → (read_count_at es j).life ≢ (read_count_at es k).life
once_at [] j k h lt lt' = absurd (omega arith)
once_at (e ∷ es) j zero h lt lt' = absurd (omega arith)
once_at (e ∷ es) zero (suc k) h lt lt' = λ same. absent_at e.life es k h.0 (omega arith) (sym same)
once_at (e ∷ es) (suc j) (suc k) h lt lt' = once_at es j k h.1 (omega arith) (omega arith)

pub safe_of : (c : Params) (s : FlowState) → Facts c s → Safe s
safe_of c s f = record {
  ledger = record {
    in_order = λ j k lt lt'. rising_at 0 s.given j k f.receive_side.rising lt lt';
    in_ledger = λ k lt. taken_at s.taken s.given k f.receive_side.given_facts lt;
    intact = λ k lt. intact_at s.taken s.given k f.receive_side.given_facts lt;
    skips_reported = λ p lt off le. skipped_of s.given s.taken s.sender_life p (f.receive_side.skipped p lt) off le;
    acknowledged_given = λ p e. given_test s.given p (f.receive_side.acked p e);
    first_runs = λ lt. first_joined s.given f.read_side.joined lt;
    unbroken = λ k lt off. let e : k + 1 ≡ suc k = omega arith in rw e (joined_at None s.given k f.read_side.joined (omega arith) (rw e at off));
    read_within = f.read_side.within;
    one_entry = λ j k lt lt'. once_at s.reads j k f.read_side.one_entry lt lt';
  };
  released_reported = λ e p mine h.
      let l : s.taken ≡ f.send_side.old = (rw e at f.send_side.ledger) ∙ append-nil f.send_side.old in
      let past : (row_at s.taken p).life < s.sender_life = rw l (past_at s.sender_life f.send_side.old f.send_side.past p (rw l at h)) in
      omega arith;
  unread = f.read_side.unread_is;
}
