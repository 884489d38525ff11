use Rattle.dt_flow_laws.proofs.Told.{first_moment_is}
use Rattle.dt_flow_laws.proofs.ranges.segments_keep_the_first_moments_of_the_ledger.Goals as goal

pub returns : goal.returns
returns c = first_moment_is
