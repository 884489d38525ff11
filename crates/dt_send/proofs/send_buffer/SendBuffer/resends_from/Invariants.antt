use Rattle.std.proofs.Common.{◌≡◌, ◌≤◌, drop, length}
use Rattle.dt_flow_model.specs.SendActs.{resends_from}
use Rattle.dt_send.specs.SendBuffer.{record_of}
use Rattle.dt_send.proofs.send_buffer.SendBuffer.resends_from.Given as goal

abbrev pub invariant-loop-place : goal.invariant-loop-place
invariant-loop-place l = (l.place ≤ length l.self.outstanding_segments.items) × (l.first ≡ resends_from l.rules l.now (drop l.place (record_of l.self).outstanding))

abbrev pub decreases-loop-place : goal.decreases-loop-place
decreases-loop-place l = l.place
