use Rattle.dt_audit.specs.LogRows.{by_rows}
use Rattle.dt_audit.proofs.Readings.{line_tells, log_tells}
use Rattle.dt_audit.proofs.laws.logs_tell_the_facts_of_their_reports.Goals as goal

pub returns-clause-line : goal.returns-clause-line
returns-clause-line c entry h = line_tells entry h

pub returns-clause-log : goal.returns-clause-log
returns-clause-log c entries h = log_tells by_rows entries h
