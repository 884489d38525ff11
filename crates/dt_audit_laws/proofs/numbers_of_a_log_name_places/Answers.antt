use Rattle.std.proofs.Common.{arith}
use Rattle.dt_audit_laws.proofs.Naming.{named, sends_numbered}
use Rattle.dt_audit_laws.proofs.numbers_of_a_log_name_places.Goals as goal

pub returns-clause-named : goal.returns-clause-named
returns-clause-named c p run offset log numbered le near = named p run offset log numbered le (omega arith)

pub returns-clause-kept : goal.returns-clause-kept
returns-clause-kept c p run o offset count ledger log next shows last lt at sent = sends_numbered p run o offset count ledger log next shows last lt at sent
