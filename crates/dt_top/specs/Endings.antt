-- How a run ends: the exit status, and the text on standard error.
use Rattle.std.specs.Prelude.{ℕ, List, [], codes}
use Rattle.dt_audit.specs.declared.outcomes.AuditOutcome.{AuditOutcome}
use Rattle.dt_audit.specs.declared.outcomes.AuditOutcome.TheVariants as verdict
use Rattle.dt_calls_input.specs.declared.outcomes.CallsOutcome.{CallsOutcome}
use Rattle.dt_calls_input.specs.declared.outcomes.CallsOutcome.TheVariants as called
use Rattle.dt_node.specs.declared.outcomes.NodeOutcome.{NodeOutcome}
use Rattle.dt_node.specs.declared.outcomes.NodeOutcome.TheVariants as node
use Rattle.dt_replay.specs.declared.outcomes.Outcome.{Outcome}
use Rattle.dt_replay.specs.declared.outcomes.Outcome.TheVariants as outcome
use Rattle.dt_top.specs.declared.ending.Ending.{Ending}
use Rattle.dt_top.specs.declared.input.InputFault.{InputFault}
use Rattle.dt_top.specs.declared.input.InputFault.TheVariants as faults
use Rattle.dt_top.specs.declared.ending.Ending.TheVariants.{Done, Usage, TooLong, Refused, NoMemory, WireFault, ClockStill, ReadFault, WriteFault}

abbrev pub status_of : Ending → ℕ
status_of Done = 0
status_of Usage = 2
status_of TooLong = 3
status_of Refused = 3
status_of NoMemory = 4
status_of WireFault = 5
status_of ClockStill = 6
status_of ReadFault = 7
status_of WriteFault = 8

abbrev pub text_of : Ending → List ℕ
text_of Done = []
text_of Usage = codes "usage: deltat replay | node | make N | trace | retrace | calls | audit\n"
text_of TooLong = codes "input longer than 16777216 octets\n"
text_of Refused = codes "input refused\n"
text_of NoMemory = codes "out of memory\n"
text_of WireFault = codes "wire failed\n"
text_of ClockStill = codes "clock stands still\n"
text_of ReadFault = codes "read failed\n"
text_of WriteFault = codes "write failed\n"

-- how a run ends that has no input
abbrev pub lacking : InputFault → Ending
lacking faults.TooLong = TooLong
lacking faults.NoMemory = NoMemory
lacking faults.ReadFault = ReadFault

-- how a run ends whose replay, node, calls or audit do
abbrev pub replay_ending : Outcome → Ending
replay_ending outcome.Done = Done
replay_ending outcome.Refused = Refused
replay_ending outcome.NoMemory = NoMemory
replay_ending outcome.WriteFault = WriteFault

abbrev pub node_ending : NodeOutcome → Ending
node_ending node.Done = Done
node_ending node.Refused = Refused
node_ending node.NoMemory = NoMemory
node_ending node.WireFault = WireFault
node_ending node.ClockStill = ClockStill
node_ending node.WriteFault = WriteFault

abbrev pub calls_ending : CallsOutcome → Ending
calls_ending called.Done = Done
calls_ending called.Refused = Refused
calls_ending called.NoMemory = NoMemory
calls_ending called.WriteFault = WriteFault

-- a log with a flaw is a refused input
abbrev pub audit_ending : AuditOutcome → Ending
audit_ending verdict.Yes = Done
audit_ending verdict.No = Refused
audit_ending verdict.NoMemory = NoMemory
audit_ending verdict.WriteFault = WriteFault
