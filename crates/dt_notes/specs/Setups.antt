-- A setup as its calls keep it: three tables, of which the definition's lists are the entries. And what its calls answer.
use Rattle.std.specs.Prelude.{ℕ, ◌≡◌, List, map, Result, Ok, Err}
use Rattle.dt_reports.specs.declared.faults.SetupFault.{SetupFault}
use Rattle.dt_reports.specs.declared.faults.SetupFault.TheVariants as fault
use Rattle.dt_world_model.specs.declared.links.Link.{Link}
use Rattle.dt_world_model.specs.declared.links.Route.{Route}
use Rattle.dt_world_model.specs.Setup.{Setup}
use Rattle.dt_world_model.specs.Tables.{AllEntries}

abbrev pub links_of : List (ℕ × Link) → List Link
links_of entries = map (λ e. e.1) entries

-- each link stands under its number
abbrev pub AreNumbered : List (ℕ × Link) → Type 0
AreNumbered entries = AllEntries (λ n link. link.link ≡ n) entries

-- each route, with the station that has it
abbrev pub stated_route : (ℕ × ℕ) × ℕ → ℕ × Route
stated_route e = (e.0.0, record { to = e.0.1; link = e.1 })

abbrev pub stated_routes : List ((ℕ × ℕ) × ℕ) → List (ℕ × Route)
stated_routes entries = map stated_route entries

-- A call that isn't Ok answers the fault that the definition gives, or want of memory where the definition gives none.
abbrev pub IsFaultOf : Result Setup SetupFault → SetupFault → Type 0
IsFaultOf (Ok after) answered = answered ≡ fault.NoMemory
IsFaultOf (Err given) answered = answered ≡ given
