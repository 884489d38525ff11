use Rattle.std.proofs.Common.{rules}
use Rattle.dt_recv.proofs.acknowledgements.Acknowledgement.write.Goals as goal

-- refused here: acknowledgement_has_less_life
pub returns-clause-spelled : goal.returns-clause-spelled
returns-clause-spelled c = search rules
