-- What a small step of a flow tells, and what the lines of it do to a log.
use Rattle.std.specs.Prelude.{ℕ, ◌≡◌, true, List, [], ◌∷◌, length, Ok}
use Rattle.dt_units.specs.declared.parameters.Params.{Params}
use Rattle.dt_reports.specs.Told.{Told}
use Rattle.dt_flow_model.specs.Flow.{FlowState, Packet}
use Rattle.dt_flow_model.specs.Numbering.{number_of}
use Rattle.dt_flow_model.specs.SendRecord.{items_in, next_of}
use Rattle.dt_flow_model.specs.Steps.{Step, accepts, accepts_first, gives_up, is_acked, makes, meets, passes, reads, receiver_releases, receiver_restarts, releases, renews, resends, sender_restarts, sends, takes, tells_expected, tells_number}
use Rattle.dt_audit.specs.declared.flow_facts.FlowFact.{FlowFact}
use Rattle.dt_audit.specs.declared.flow_facts.FlowFact.TheVariants.{Took, Sent, Settled, Uncertain, Accepted}
use Rattle.dt_audit.specs.declared.flow_facts.Lives.{Lives}
use Rattle.dt_audit.specs.declared.facts.Fact.{Fact}
use Rattle.dt_audit.specs.declared.facts.Fact.TheVariants as facts
use Rattle.dt_audit.specs.Telling.{fact_by}
use Rattle.dt_audit.specs.LogRows.{FlowLog, rows_after}

-- of the facts that a log states of a flow, those of a small step
abbrev pub changes_of : (p : Params) (s after : FlowState) (ins made : List Packet) → Step p s ins made after → List FlowFact
changes_of p s after ins made (passes t by) = []
changes_of p s after ins made (sender_restarts t a) = []
changes_of p s after ins made (receiver_restarts t) = []
changes_of p s after ins made (makes t edge a b c) = []
changes_of p s after ins made (takes t x items a b) = Took (length items) ∷ []
changes_of p s after ins made (gives_up t x g rest a b) = Uncertain (length g.items) ∷ []
changes_of p s after ins made (releases t x a b c d) = []
changes_of p s after ins made (renews t x edge a b c d) = []
changes_of p s after ins made (resends t x before behind g a b c) = []
changes_of p s after ins made (sends t x cut rest a b c d e) = Sent (number_of p (next_of x)) (length cut) ∷ []
changes_of p s after ins made (meets t x a b c) = []
changes_of p s after ins made (is_acked t x q window gone rest edge a b c d e) = Settled (items_in gone) ∷ []
changes_of p s after ins made (accepts_first t q items due told a b c d e) = Accepted q.number (length items) true ∷ []
changes_of p s after ins made (accepts t y q drf run items due a b c d e f) = Accepted q.number (length items) run ∷ []
changes_of p s after ins made (tells_number t q y window a b c) = []
changes_of p s after ins made (tells_expected t y due told window a b) = []
changes_of p s after ins made (receiver_releases t y a b) = []
changes_of p s after ins made (reads t y piece rest a b) = []

-- lines that pass one after another
abbrev pub AllPass : Lives → List FlowFact → FlowLog → FlowLog → Type 0
AllPass lives [] log next = next ≡ log
AllPass lives (change ∷ changes) log next = (between : FlowLog) × (rows_after lives change log ≡ Ok between) × AllPass lives changes between next

-- what a fact says of its flow, if it is a flow's
abbrev pub changes_in : Fact → List FlowFact
changes_in (facts.Took f count) = Took count ∷ []
changes_in (facts.Sent f number count) = Sent number count ∷ []
changes_in (facts.Settled f count) = Settled count ∷ []
changes_in (facts.Uncertain f count) = Uncertain count ∷ []
changes_in (facts.Accepted f number count run) = Accepted number count run ∷ []
changes_in (facts.Restarted node life) = []
changes_in facts.Other = []

-- of a report that a node makes, what its line says of its flow
abbrev pub changes_told : ℕ → Told → List FlowFact
changes_told node told = changes_in (fact_by node told)
