use Rattle.std.proofs.Common.{◌≡◌, ◌+◌, take}
use Rattle.dt_send.specs.SendBuffer.{record_of}
use Rattle.dt_send.specs.SentSegments.{octets_in}
use Rattle.dt_send.proofs.Scans.{HasPassed}
use Rattle.dt_send.proofs.send_buffer.SendBuffer.acknowledged.Given as goal

abbrev pub invariant-loop-place : goal.invariant-loop-place
invariant-loop-place l = (l.end ≡ l.self.left + octets_in (take l.place l.self.outstanding_segments.items)) × HasPassed l.rules l.number l.self.left (record_of l.self).outstanding l.place l.end
