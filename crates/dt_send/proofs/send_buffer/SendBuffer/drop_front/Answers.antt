use Rattle.std.proofs.Common.{arith}
use Rattle.dt_send.proofs.SentSegmentLemmas.{octets_in-parts}
use Rattle.dt_send.proofs.send_buffer.SendBuffer.drop_front.Goals as goal

pub overflow_sub-len : goal.overflow_sub-len
overflow_sub-len c = omega (arith, c.requires.end.end_is, c.requires.lie, octets_in-parts c.args.self.now.outstanding_segments.items c.args.segments)
