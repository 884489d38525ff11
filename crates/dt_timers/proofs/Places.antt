-- The moments that stand in the places of a tournament.
use Rattle.std.proofs.Common.{ℕ, ◌≡◌, ◌<◌, ◌≤◌, ◌⊎◌, inl, inr, List, [], ◌∷◌, length, map, set, zero, suc, Option, Some, None, refl, sym, ap, subst, ◌∙◌, get_or-set_same, get_or-set_other}
use Rattle.std.proofs.lemmas.Bool.{cases_eq}
use Rattle.dt_timers.specs.declared.deadline.Deadline.{Deadline}
use Rattle.dt_timers.specs.Order.{IsBy}
use Rattle.dt_timers.specs.Tournaments.{IsSoonestOf, deadline_in, node}
use Rattle.dt_timers.specs.Deadlines.{HasNoMoment, IsFirst, StandInPlace, moment_at, moment_of}

abbrev pub moments : List (Option Deadline) → List (Option ℕ)
moments places = map moment_of places

pub moment_is : (places : List (Option Deadline)) (i : ℕ) → moment_at (moments places) i ≡ moment_of (node places i)
moment_is [] i = refl
moment_is (d ∷ ds) zero = refl
moment_is (d ∷ ds) (suc i) = moment_is ds i

own_moment : (place : ℕ) (m : Option ℕ) → moment_of (deadline_in place m) ≡ m
own_moment place None = refl
own_moment place (Some m) = refl

pub set_moment : (places : List (Option Deadline)) (i : ℕ) (m : Option ℕ) (d : Option Deadline) → moment_of d ≡ m → moments (set places i d) ≡ set (moments places) i m
set_moment [] i m d e = refl
set_moment (c ∷ cs) zero m d e = ap (λ (n : Option ℕ). n ∷ moments cs) e
set_moment (c ∷ cs) (suc i) m d e = ap (λ (ms : List (Option ℕ)). moment_of c ∷ ms) (set_moment cs i m d e)

pub wrote : (places : List (Option Deadline)) (place : ℕ) (m : Option ℕ) → moments (set places place (deadline_in place m)) ≡ set (moments places) place m
wrote places place m = set_moment places place m (deadline_in place m) (own_moment place m)

in_place : (i : ℕ) (m : Option ℕ) (d : Deadline) → deadline_in i m ≡ Some d → d.place ≡ i
in_place i None d e = absurd cc
in_place i (Some m) d e = let same : (let c : Deadline = record { moment = m; place = i } in c) ≡ d = cc in ap (λ (c : Deadline). c.place) (sym same)

pub stand : (places : List (Option Deadline)) (place : ℕ) (m : Option ℕ) → place < length places → StandInPlace places → StandInPlace (set places place (deadline_in place m))
stand places place m within all = λ i d e.
    elim (cases_eq i place) [
      | inl same ↦ in_place place m d (sym (get_or-set_same places place (deadline_in place m) None within) ∙ ap (node (set places place (deadline_in place m))) (sym same) ∙ e) ∙ sym same
      | inr apart ↦ all i d (sym (get_or-set_other places place i (deadline_in place m) None apart) ∙ e)
    ]

pub same_places : (places others : List (Option Deadline)) → ((i : ℕ) → node others i ≡ node places i) → StandInPlace places → StandInPlace others
same_places places others same all = λ i d e. all i d (sym (same i) ∙ e)

pub same_moments : (places others : List (Option Deadline)) → ((i : ℕ) → node others i ≡ node places i) → (i : ℕ) → moment_at (moments others) i ≡ moment_at (moments places) i
same_moments places others same i = moment_is others i ∙ ap moment_of (same i) ∙ sym (moment_is places i)

-- THE FIRST
deadline_there : (d : Option Deadline) (m : ℕ) → moment_of d ≡ Some m → (e : Deadline) × (d ≡ Some e) × (e.moment ≡ m)
deadline_there None m h = absurd cc
deadline_there (Some d) m h = (d, refl, cc)

module _ (places : List (Option Deadline)) (all : StandInPlace places) where
  pub none_first : IsSoonestOf places None → HasNoMoment (moment_at (moments places))
  none_first soonest = λ i m h.
      let d = deadline_there (node places i) m (sym (moment_is places i) ∙ h) in
      let none : IsBy None (Some d.0) = subst (λ (o : Option Deadline). IsBy None o) d.1 (soonest.1 i) in
      absurd none

  pub is_first : (d : Deadline) → IsSoonestOf places (Some d) → IsFirst (moment_at (moments places)) d.moment d.place
  is_first d soonest = record {
    there = (let at = all (soonest.0).0 d (soonest.0).1 in moment_is places d.place ∙ ap (λ (i : ℕ). moment_of (node places i)) at ∙ ap moment_of (soonest.0).1);
    least = λ i m h. later i m (deadline_there (node places i) m (sym (moment_is places i) ∙ h));
  }
    where
      later : (i m : ℕ) → (e : Deadline) × (node places i ≡ Some e) × (e.moment ≡ m) → (d.moment < m) ⊎ ((d.moment ≡ m) × (d.place ≤ i))
      later i m e =
          let by : IsBy (Some d) (Some e.0) = subst (λ (o : Option Deadline). IsBy (Some d) o) e.1 (soonest.1 i) in
          subst (λ (n : ℕ). (d.moment < n) ⊎ ((d.moment ≡ n) × (d.place ≤ i))) e.2
          (subst (λ (n : ℕ). (d.moment < e.0.moment) ⊎ ((d.moment ≡ e.0.moment) × (d.place ≤ n))) (all i e.0 e.1) by)
