-- Which facts the lines of a log tell that was written of reports.
use Rattle.std.specs.Prelude.{ℕ, suc, ◌<◌, ◌^◌, Option, Some, None, List, [], ◌∷◌, Result, Ok}
use Rattle.dt_units.specs.Flows.{IsFlow}
use Rattle.dt_reports.specs.Entries.{Entry}
use Rattle.dt_reports.specs.Told.{Told}
use Rattle.dt_reports.specs.Matters as matter
use Rattle.dt_reports.specs.Matters.{Matter, matter_of}
use Rattle.dt_audit.specs.declared.facts.Fact.{Fact}
use Rattle.dt_audit.specs.declared.facts.Fact.TheVariants.{Took, Sent, Settled, Uncertain, Accepted, Restarted, Other}
use Rattle.dt_audit.specs.declared.flaws.Flaw.{Flaw}
use Rattle.dt_audit.specs.Books.{Book, Keeping, follow_fact, follow_on}

-- what a node's report says of octets and lives
abbrev pub fact_by_matter : ℕ → Matter → Fact
fact_by_matter node (matter.Taken f count) = Took f count
fact_by_matter node (matter.Refused f fault) = Other
fact_by_matter node (matter.Transmitted f number count) = Sent f number count
fact_by_matter node (matter.Retransmitted f) = Other
fact_by_matter node (matter.GivenUp f count) = Uncertain f count
fact_by_matter node (matter.Acknowledged f count window) = Settled f count
fact_by_matter node (matter.Accepted f number count run) = Accepted f number count run
fact_by_matter node (matter.Replied f number) = Other
fact_by_matter node (matter.Dropped f) = Other
fact_by_matter node (matter.ReadOut f run begin end octets) = Other
fact_by_matter node (matter.NothingRead f) = Other
fact_by_matter node (matter.Left link life) = Other
fact_by_matter node (matter.Begun life) = Restarted node life
fact_by_matter node matter.Neither = Other

abbrev pub fact_by : ℕ → Told → Fact
fact_by node told = fact_by_matter node (matter_of told)

abbrev pub fact_in : Option ℕ → Told → Fact
fact_in None told = Other
fact_in (Some node) told = fact_by node told

-- an entry tells its report's fact where it has a node
abbrev pub fact_told : Entry → Fact
fact_told entry = fact_in entry.node entry.told

-- the numbers of a report that states a fact are those of the code
abbrev pub IsMatterInRange : Matter → Type 0
IsMatterInRange (matter.Taken f count) = IsFlow f × (count < 2 ^ 32)
IsMatterInRange (matter.Refused f fault) = Unit {0}
IsMatterInRange (matter.Transmitted f number count) = IsFlow f × (number < 2 ^ 32) × (count < 2 ^ 32)
IsMatterInRange (matter.Retransmitted f) = Unit {0}
IsMatterInRange (matter.GivenUp f count) = IsFlow f × (count < 2 ^ 32)
IsMatterInRange (matter.Acknowledged f count window) = IsFlow f × (count < 2 ^ 32) × (window < 2 ^ 32)
IsMatterInRange (matter.Accepted f number count run) = IsFlow f × (number < 2 ^ 32) × (count < 2 ^ 32)
IsMatterInRange (matter.Replied f number) = Unit {0}
IsMatterInRange (matter.Dropped f) = Unit {0}
IsMatterInRange (matter.ReadOut f run begin end octets) = Unit {0}
IsMatterInRange (matter.NothingRead f) = Unit {0}
IsMatterInRange (matter.Left link life) = Unit {0}
IsMatterInRange (matter.Begun life) = life < 2 ^ 32
IsMatterInRange matter.Neither = Unit {0}

abbrev pub IsInRange : Told → Type 0
IsInRange told = IsMatterInRange (matter_of told)

abbrev pub NodeInRange : Option ℕ → Type 0
NodeInRange None = Unit {0}
NodeInRange (Some node) = node < 2 ^ 32

pub record IsWritten (entry : Entry) : Type 0 where
  pub moment : entry.moment < 2 ^ 64
  pub node : NodeInRange entry.node
  pub told : IsInRange entry.told

abbrev pub AreWritten : List Entry → Type 0
AreWritten [] = Unit {0}
AreWritten (entry ∷ entries) = IsWritten entry × AreWritten entries

-- facts one after another, as the lines of a log
unfoldable pub follow_facts : {A : Type 0} → Keeping A → ℕ → List Fact → Book A → Result (Book A) (ℕ × Flaw)
follow_facts keeping number [] book = Ok book
follow_facts keeping number (fact ∷ facts) book = follow_on keeping number (follow_facts keeping (suc number) facts) (follow_fact keeping fact book)
