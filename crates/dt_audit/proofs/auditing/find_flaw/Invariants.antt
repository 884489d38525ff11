use Rattle.std.proofs.Common.{◌≡◌, ◌+◌, ◌*◌, ◌≤◌, length}
use Rattle.dt_audit.specs.Audits.{ledger_of}
use Rattle.dt_audit.specs.Books.{flaw_in}
use Rattle.dt_audit.specs.FlowNotes.{TakenWithin}
use Rattle.dt_audit.proofs.Lines.{found_from}
use Rattle.dt_audit.proofs.auditing.find_flaw.Given as goal

-- what is found in the lines that are left is what is found in all
abbrev pub invariant-loop-rest : goal.invariant-loop-rest
invariant-loop-rest l = record {
  left : flaw_in (ledger_of l.bytes) ≡ found_from l.number l.rest l.notebook;
  within : TakenWithin (l.number * 4294967295) l.notebook.flows;
  few : l.number + length l.rest ≤ length l.bytes + 1;
}

abbrev pub decreases-loop-rest : goal.decreases-loop-rest
decreases-loop-rest l = length l.rest
