-- What an audit of a log finds, and what it writes.
use Rattle.std.specs.Prelude.{ℕ, ◌≡◌, Bool, true, false, is_some, List, [], ◌∷◌, codes, Option, Some, None, Result}
use Rattle.dt_edges.specs.Sinks.{SinkSight, Takes, TakesPart}
use Rattle.dt_log.specs.LogLines.{at_line}
use Rattle.dt_log.specs.Words.{Text, row_text}
use Rattle.dt_units.specs.declared.endpoints.Flow.{Flow}
use Rattle.dt_flow_model.specs.Safe.{SafeLedger}
use Rattle.dt_audit.specs.declared.flaws.Flaw.{Flaw}
use Rattle.dt_audit.specs.declared.outcomes.AuditOutcome.{AuditOutcome}
use Rattle.dt_audit.specs.declared.outcomes.AuditOutcome.TheVariants.{Yes, No, NoMemory, WriteFault}
use Rattle.dt_audit.specs.Books.{Book, flaw_in, follow_log, kept, life_in}
use Rattle.dt_audit.specs.Flaws.{flaw_words}
use Rattle.dt_audit.specs.LogRows.{FlowLog, by_rows}

-- THE LEDGER OF A LOG, where every line reads and none is stray or breaks a promise; else the first line that isn't so, with the first flaw that it meets
abbrev pub ledger_of : List ℕ → Result (Book FlowLog) (ℕ × Flaw)
ledger_of octets = follow_log by_rows octets

abbrev pub has_flaw : List ℕ → Bool
has_flaw octets = is_some (flaw_in (ledger_of octets))

-- the verdict as a line
abbrev pub verdict_text : Option (ℕ × Flaw) → Text
verdict_text None = row_text (codes "audit" ∷ codes "yes" ∷ [])
verdict_text (Some (line, flaw)) = row_text (at_line line (flaw_words flaw))

-- what the audit of a log writes
abbrev pub audit_text : List ℕ → Text
audit_text octets = verdict_text (flaw_in (ledger_of octets))

-- HOW AN AUDIT ENDS. Yes comes of a log without a flaw alone, and No of one that has a flaw; each has written the verdict. Want of memory has written nothing. Where a put failed a first part was written, and the sink's count of faults rose.
abbrev pub Audits : AuditOutcome → List ℕ → SinkSight → SinkSight → Type 0
Audits Yes octets before after = (has_flaw octets ≡ false) × Takes (audit_text octets) before after
Audits No octets before after = (has_flaw octets ≡ true) × Takes (audit_text octets) before after
Audits NoMemory octets before after = after ≡ before
Audits WriteFault octets before after = TakesPart (audit_text octets) before after

-- The ledger of each flow is safe, in what a log shows: places in order, skips reported, acknowledged is given, runs unbroken. Of octets, marks and reads it shows nothing: in its rows they are blank.
abbrev pub AreSafe : Book FlowLog → Type 0
AreSafe ledger = (f : Flow) → SafeLedger (life_in ledger.lives f.from.0) (kept by_rows ledger.flows f).taken (kept by_rows ledger.flows f).given []
