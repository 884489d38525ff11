-- Datagrams of a former opening.
use Rattle.std.specs.Prelude.{◌≡◌, ◌≢◌, ℕ, ◌≤◌, List, [], ◌∷◌}
use Rattle.dt_watch.specs.declared.arrivals.Arrival.{Arrival}
use Rattle.dt_watch.specs.declared.arrivals.Judgement.TheVariants.{Present}
use Rattle.dt_watch.specs.declared.openings.Openings.{Openings}
use Rattle.dt_watch.specs.Openings.{judgement_of, openings_after}

-- the datagrams of this opening have no reading after this one
abbrev pub HaveNoneAfter : ℕ → ℕ → List Arrival → Type 0
HaveNoneAfter name last [] = Unit {0}
HaveNoneAfter name last (a ∷ arrivals) = (a.opening ≡ name → a.sure.micros ≤ last) × HaveNoneAfter name last arrivals

-- none of the datagrams of this opening is taken, whatever comes between them
abbrev pub NoneIsTaken : ℕ → Openings → List Arrival → Type 0
NoneIsTaken name o [] = Unit {0}
NoneIsTaken name o (a ∷ arrivals) = (a.opening ≡ name → judgement_of o a ≢ Present) × NoneIsTaken name (openings_after o a) arrivals
