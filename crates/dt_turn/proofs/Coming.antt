-- Octets that came.
use Rattle.std.proofs.Common.{◌≡◌, ℕ, List, Option, Some, refl, subst}
use Rattle.dt_units.specs.declared.parameters.Params.{Params}
use Rattle.dt_edges.specs.Wires.{Datagram}
use Rattle.dt_layout.specs.declared.faults.LayoutFault.{LayoutFault}
use Rattle.dt_reports.specs.Told.{Told}
use Rattle.dt_reports.specs.declared.reports.Report.TheVariants.{Bad}
use Rattle.dt_world_model.specs.Host.{Host}
use Rattle.dt_world_model.specs.Relay.{Parcel}
use Rattle.dt_world_model.specs.Script.{Plays}
use Rattle.dt_world_model.specs.Station.{Station}
use Rattle.dt_shelf.specs.Shelves.{Shelf}
use Rattle.dt_turn.specs.Shelving.{inside}
use Rattle.dt_turn.specs.Turns.{comes}

-- Octets that don't read are reported, and nothing else comes of them.
pub bad_plays : {V : Type 0} (tells : V → Told → V → Type 0) (tags : V → Host → List ℕ → Unit {0} → V → Type 0) (hands : V → ℕ → Parcel (Unit {0}) → V → Type 0) (p : Params) (now : ℕ) (d : Datagram) (o : Option LayoutFault) (fault : LayoutFault) (station : Station (Unit {0})) (shelf : Option Shelf) (v w : V) → Some fault ≡ o → tells v (Bad fault) w → Plays tells tags hands (comes p now d o station shelf) v w (inside station shelf)
bad_plays tells tags hands p now d o fault station shelf v w e h =
    subst (λ (o : Option LayoutFault). Plays tells tags hands (comes p now d o station shelf) v w (inside station shelf)) e (w, h, (refl, refl))
