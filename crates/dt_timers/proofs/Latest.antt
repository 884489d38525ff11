-- The places of a tournament of which one isn't played, and what a write to a place makes of them.
use Rattle.std.proofs.Common.{ℕ, ◌≡◌, ◌<◌, inl, inr, true, false, List, length, set, Option, Some, None, refl, sym, ap, subst, ◌∙◌, arith, get_or-set_same, get_or-set_other, length-set, set-set}
use Rattle.std.specs.Prelude.{is_some}
use Rattle.std.proofs.lemmas.Bool.{cases_eq, eqb-true, eqb-false}
use Rattle.std.proofs.lemmas.List.{set_comm}
use Rattle.dt_timers.specs.declared.deadline.Deadline.{Deadline}
use Rattle.dt_timers.specs.Latest.{IsBeside, is_in, with_latest}
use Rattle.dt_timers.specs.Order.{IsBy, sooner_of}
use Rattle.dt_timers.specs.Tournaments.{IsSoonestOf, deadline_in, node}
use Rattle.dt_timers.proofs.Order.{by_first, by_second, by_then, is_one}
use Rattle.dt_timers.proofs.Tournaments.{set_again}

module _ (places : List (Option Deadline)) where
  pub long : (l : Option Deadline) → length (with_latest l places) ≡ length places
  long None = refl
  long (Some d) = length-set places d.place (Some d)

  pub elsewhere : (l : Option Deadline) (i : ℕ) → is_in l i ≡ false → node (with_latest l places) i ≡ node places i
  elsewhere None i h = refl
  elsewhere (Some d) i h = get_or-set_other places d.place i (Some d) None (λ e. eqb-false d.place i h (sym e))

  pub there : (l : Option Deadline) (i : ℕ) → is_in l i ≡ true → IsBeside l places → l ≡ node (with_latest l places) i
  there None i h beside = absurd cc
  there (Some d) i h beside = sym (get_or-set_same places d.place (Some d) None beside.0) ∙ ap (node (set places d.place (Some d))) (eqb-true d.place i h)

  -- ANOTHER MOMENT of the one that isn't played, or none
  pub again : (l : Option Deadline) (i : ℕ) (m : Option ℕ) → is_in l i ≡ true → IsBeside l places → with_latest (deadline_in i m) places ≡ set (with_latest l places) i (deadline_in i m)
  again None i m h beside = absurd cc
  again (Some d) i m h beside = by m ∙ ap (λ (k : ℕ). set (set places k (Some d)) i (deadline_in i m)) (sym (eqb-true d.place i h))
    where
      empty : node places i ≡ None
      empty = ap (node places) (sym (eqb-true d.place i h)) ∙ beside.1

      by : (m : Option ℕ) → with_latest (deadline_in i m) places ≡ set (set places i (Some d)) i (deadline_in i m)
      by None = sym (set_again places i None empty) ∙ sym (set-set places i (Some d) None)
      by (Some n) = sym (set-set places i (Some d) (deadline_in i (Some n)))

  pub again_beside : (l : Option Deadline) (i : ℕ) (m : Option ℕ) → is_in l i ≡ true → IsBeside l places → IsBeside (deadline_in i m) places
  again_beside None i m h beside = absurd cc
  again_beside (Some d) i None h beside = tt
  again_beside (Some d) i (Some n) h beside = subst (λ (k : ℕ). (k < length places) × (node places k ≡ None)) (eqb-true d.place i h) beside

  -- NOTHING NEW
  pub unchanged : (l : Option Deadline) (i : ℕ) (o : Option Deadline) → is_in l i ≡ false → node places i ≡ o → with_latest l places ≡ set (with_latest l places) i o
  unchanged l i o h is = sym (set_again (with_latest l places) i o (elsewhere l i h ∙ is))

  -- A PLACE OF THE TREE is emptied
  pub emptied : (l : Option Deadline) (i : ℕ) → is_in l i ≡ false → with_latest l (set places i None) ≡ set (with_latest l places) i None
  emptied None i h = refl
  emptied (Some d) i h = set_comm places i d.place None (Some d) (λ e. eqb-false d.place i h (sym e))

  pub emptied_beside : (l : Option Deadline) (i : ℕ) → IsBeside l places → IsBeside l (set places i None)
  emptied_beside None i beside = tt
  emptied_beside (Some d) i beside = (let same = length-set places i None in let within = beside.0 in omega arith, still)
    where
      still : node (set places i None) d.place ≡ None
      still =
          elim (cases_eq d.place i) [
            | inl same ↦ subst (λ (k : ℕ). node (set places k None) d.place ≡ None) same (get_or-set_same places d.place None None beside.0)
            | inr apart ↦ get_or-set_other places i d.place None None apart ∙ beside.1
          ]

  -- THE NEXT ONE that isn't played: its place is empty in the tree
  pub kept : (i n : ℕ) → with_latest (deadline_in i (Some n)) (set places i None) ≡ set places i (deadline_in i (Some n))
  kept i n = set-set places i None (deadline_in i (Some n))

  pub kept_beside : (i n : ℕ) → i < length places → IsBeside (deadline_in i (Some n)) (set places i None)
  kept_beside i n within = (let same = length-set places i None in omega arith, get_or-set_same places i None None within)

  -- THE SOONEST of all is that of the tree, or the one that isn't played
  pub soonest_of_both : (l top : Option Deadline) → IsBeside l places → IsSoonestOf places top → IsSoonestOf (with_latest l places) (sooner_of l top)
  soonest_of_both None top beside soonest = soonest
  soonest_of_both (Some d) top beside soonest = (stands, by)
    where
      first : Option Deadline
      first = sooner_of (Some d) top

      all : List (Option Deadline)
      all = set places d.place (Some d)

      own : node all d.place ≡ Some d
      own = get_or-set_same places d.place (Some d) None beside.0

      in_tree : (o : Option Deadline) → o ≡ top → sooner_of (Some d) o ≡ o → (i : ℕ) × (node all i ≡ o)
      in_tree None is none = absurd cc
      in_tree (Some e) is won =
          elim (cases_eq soonest.0.0 d.place) [
            | inl same ↦ absurd (let wrong : None ≡ Some e = sym beside.1 ∙ ap (node places) (sym same) ∙ soonest.0.1 ∙ sym is in cc)
            | inr apart ↦ (soonest.0.0, get_or-set_other places d.place soonest.0.0 (Some d) None apart ∙ soonest.0.1 ∙ sym is)
          ]

      stands : (i : ℕ) × (node all i ≡ first)
      stands =
          elim (is_one (Some d) top) [
            | inl it ↦ (d.place, own ∙ sym it)
            | inr other ↦ let found = in_tree top refl other in (found.0, found.1 ∙ sym other)
          ]

      by : (i : ℕ) → IsBy first (node all i)
      by i =
          elim (cases_eq i d.place) [
            | inl same ↦ subst (λ (o : Option Deadline). IsBy first o) (sym (ap (node all) same ∙ own)) (by_first (Some d) top)
            | inr apart ↦ subst (λ (o : Option Deadline). IsBy first o) (sym (get_or-set_other places d.place i (Some d) None apart)) (by_then first top (node places i) (by_second (Some d) top) (soonest.1 i))
          ]

-- by the test of the code
pub none_is : (o : Option ℕ) → is_some o ≡ false → o ≡ None
none_is None h = refl
none_is (Some n) h = absurd cc

-- the one that was put last is played, and the next one is kept
pub next_kept : (all places after : List (Option Deadline)) (i : ℕ) (m : Option ℕ) (placed : Option Deadline) → is_some m ≡ true → placed ≡ deadline_in i m → places ≡ all → after ≡ set places i None → with_latest placed after ≡ set all i (deadline_in i m)
next_kept all places after i None placed h is played emptied = absurd cc
next_kept all places after i (Some n) placed h is played emptied =
    ap (λ (o : Option Deadline). with_latest o after) is
    ∙ ap (with_latest (deadline_in i (Some n))) (emptied ∙ ap (λ (ps : List (Option Deadline)). set ps i None) played)
    ∙ kept all i n

-- THE SAME IN MORE PLACES
module _ (places more : List (Option Deadline)) (same : (i : ℕ) → node more i ≡ node places i) (wide : length places < length more) where
  pub doubled_beside : (l : Option Deadline) → IsBeside l places → IsBeside l more
  doubled_beside None beside = tt
  doubled_beside (Some d) beside = (let within = beside.0 in omega arith, same d.place ∙ beside.1)

  pub doubled_same : (l : Option Deadline) → IsBeside l places → (i : ℕ) → node (with_latest l more) i ≡ node (with_latest l places) i
  doubled_same None beside i = same i
  doubled_same (Some d) beside i =
      elim (cases_eq i d.place) [
        | inl is ↦
            ap (node (set more d.place (Some d))) is
            ∙ get_or-set_same more d.place (Some d) None (let within = beside.0 in omega arith)
            ∙ sym (get_or-set_same places d.place (Some d) None beside.0)
            ∙ ap (node (set places d.place (Some d))) (sym is)
        | inr apart ↦
            get_or-set_other more d.place i (Some d) None apart
            ∙ same i
            ∙ sym (get_or-set_other places d.place i (Some d) None apart)
      ]
