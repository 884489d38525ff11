-- A deadline or none as it is kept: none has the greatest moment, and a place beyond all that there are.
use Rattle.std.proofs.Common.{inl, inr, sym}
use Rattle.std.proofs.lemmas.Bool.{cases_Bool, eqb-true}
use Rattle.std.specs.Prelude.{ℕ, ◌≡◌, ◌==◌, refl, if◌then◌else◌, Option, Some, None}
use Rattle.dt_timers.specs.declared.deadline.Deadline.{Deadline}

abbrev pub greatest : ℕ
greatest = 18446744073709551615

abbrev pub deadline_seen : ℕ → ℕ → Option Deadline
deadline_seen moment place = if place == greatest then None else Some (record { moment = moment; place = place })

abbrev pub moment_kept : Option Deadline → ℕ
moment_kept None = greatest
moment_kept (Some d) = d.moment

abbrev pub place_kept : Option Deadline → ℕ
place_kept None = greatest
place_kept (Some d) = d.place

-- what is kept of it gives it back
pub moment_back : (moment place : ℕ) → (place ≡ greatest → moment ≡ greatest) → moment_kept (deadline_seen moment place) ≡ moment
moment_back moment place none =
    elim (cases_Bool (place == greatest)) [
      | inl y ↦ rw y (sym (none (eqb-true place greatest y)))
      | inr n ↦ rw n refl
    ]

pub place_back : (moment place : ℕ) → place_kept (deadline_seen moment place) ≡ place
place_back moment place =
    elim (cases_Bool (place == greatest)) [
      | inl y ↦ rw y (sym (eqb-true place greatest y))
      | inr n ↦ rw n refl
    ]
