-- What a log has of the state of its flow.
use Rattle.std.specs.Prelude.{ℕ, ◌-◌, ◌<◌, ◌≡◌, true, List}
use Rattle.dt_units.specs.declared.parameters.Params.{Params}
use Rattle.dt_flow_model.specs.Flow.{FlowState}
use Rattle.dt_world_laws.specs.Follow.{flow_ledger}
use Rattle.dt_audit.specs.declared.flow_facts.FlowFact.{FlowFact}
use Rattle.dt_audit.specs.declared.flow_facts.Lives.{Lives}
use Rattle.dt_audit.specs.LogRows.{FlowLog, is_sent}
use Rattle.dt_audit_laws.specs.Numbering.{IsNumbered}
use Rattle.dt_audit_laws.specs.Showing.{Shows, UnsentLast}
use Rattle.dt_audit_laws.specs.Telling.{AllPass}

abbrev pub lives_of : FlowState → Lives
lives_of s = record { sender = s.sender_life; receiver = s.receiver_life }

pub record FollowsFlow (p : Params) (s : FlowState) (log : FlowLog) : Type 0 where
  -- its rows are those of the flow's ledger
  pub shows : Shows (flow_ledger s) log
  -- its numbers are those of the present run
  pub numbered : IsNumbered p s.run log
  -- its edge is after all places that were sent, and after one that was
  pub above : (place : ℕ) → is_sent s.taken place ≡ true → place < log.edge
  pub last : 0 < log.edge → is_sent s.taken (log.edge - 1) ≡ true
  -- octets of the present life that weren't sent are open and come last
  pub unsent : UnsentLast s.sender_life s.taken

-- the lines of a step pass, and the log follows the flow after it
pub record Followed (p : Params) (s after : FlowState) (changes : List FlowFact) (log : FlowLog) : Type 0 where
  pub next : FlowLog
  pub passes : AllPass (lives_of s) changes log next
  pub follows : FollowsFlow p after next
