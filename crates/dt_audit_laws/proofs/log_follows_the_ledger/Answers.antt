use Rattle.dt_audit_laws.proofs.Following.{accepted, acknowledged, given_up, sent, took}
use Rattle.dt_audit_laws.proofs.log_follows_the_ledger.Goals as goal

pub returns-clause-took : goal.returns-clause-took
returns-clause-took c o receiver ledger log s = took o receiver ledger log s

pub returns-clause-sent : goal.returns-clause-sent
returns-clause-sent c o receiver number count ledger log s last le = sent o receiver number count ledger log s last le

pub returns-clause-given_up : goal.returns-clause-given_up
returns-clause-given_up c o receiver count ledger log s le = given_up o receiver count ledger log s le

pub returns-clause-acknowledged : goal.returns-clause-acknowledged
returns-clause-acknowledged c o receiver count ledger log s le safe = acknowledged o receiver count ledger log s le safe

pub returns-clause-accepted : goal.returns-clause-accepted
returns-clause-accepted c o sender number run ledger log s some found first last safe = accepted o sender number run ledger log s some found first last safe
