use Rattle.std.proofs.Common.{◌≤◌, drop, length}
use Rattle.dt_flow_model.specs.SendActs.{resending}
use Rattle.dt_send.specs.SendBuffer.{record_of}
use Rattle.dt_send.specs.SentSegments.{IsPlaceOf}
use Rattle.dt_send.proofs.send_buffer.SendBuffer.late_place.Given as goal

abbrev pub invariant-loop-place : goal.invariant-loop-place
invariant-loop-place l = (l.place ≤ length l.self.outstanding_segments.items) × IsPlaceOf l.place (resending l.rules l.now (drop l.place (record_of l.self).outstanding)) l.best

abbrev pub decreases-loop-place : goal.decreases-loop-place
decreases-loop-place l = l.place
