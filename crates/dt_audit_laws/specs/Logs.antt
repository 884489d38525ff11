-- What the lines of a log lead to, one after another.
use Rattle.std.specs.Prelude.{◌≡◌, List, [], ◌∷◌, map, Ok}
use Rattle.dt_units.specs.declared.parameters.Params.{Params}
use Rattle.dt_units.specs.declared.endpoints.Flow.{Flow}
use Rattle.dt_reports.specs.Entries.{Entry}
use Rattle.dt_flow_model.specs.Flow.{FlowState}
use Rattle.dt_audit.specs.declared.facts.Fact.{Fact}
use Rattle.dt_audit.specs.Books.{Book, follow_fact}
use Rattle.dt_audit.specs.LogRows.{FlowLog, by_rows}
use Rattle.dt_audit.specs.Telling.{IsInRange, fact_told}
use Rattle.dt_audit_laws.specs.Books.{FollowsAll}

-- facts that pass one after another, from what is kept before them to what is kept after them
abbrev pub FactsPass : List Fact → Book FlowLog → Book FlowLog → Type 0
FactsPass [] book next = next ≡ book
FactsPass (fact ∷ facts) book next = (between : Book FlowLog) × (follow_fact by_rows fact book ≡ Ok between) × FactsPass facts between next

-- the numbers of each report that states a fact are those of the code
abbrev pub AreInRange : List Entry → Type 0
AreInRange [] = Unit {0}
AreInRange (entry ∷ entries) = IsInRange entry.told × AreInRange entries

-- THE LOG OF ALL FLOWS: the lines that were reported pass, and what they lead to follows all flows as they are
pub record LogOf (p : Params) (views : Flow → FlowState) (start : Book FlowLog) (lines : List Entry) : Type 0 where
  pub book : Book FlowLog
  pub passes : FactsPass (map fact_told lines) start book
  pub follows : FollowsAll p views book
  pub ranges : AreInRange lines

-- of a flow a log shows the rows, the run and the lives alone
pub record ShowsAlike (s t : FlowState) : Type 0 where
  pub taken : t.taken ≡ s.taken
  pub given : t.given ≡ s.given
  pub run : t.run ≡ s.run
  pub sender : t.sender_life ≡ s.sender_life
  pub receiver : t.receiver_life ≡ s.receiver_life
