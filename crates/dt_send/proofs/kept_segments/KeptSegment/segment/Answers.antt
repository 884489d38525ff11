use Rattle.std.proofs.Common.{rules}
use Rattle.dt_send.proofs.kept_segments.KeptSegment.segment.Goals as goal

-- refused here: a_kept_segment_forgets_its_last_transmission
pub returns : goal.returns
returns c = search rules
