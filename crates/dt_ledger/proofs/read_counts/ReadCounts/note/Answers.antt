use Rattle.std.proofs.Common.{◌∷◌, Option, ap, arith}
use Rattle.dt_flow_model.specs.declared.rows.ReadCount.{ReadCount}
use Rattle.dt_ledger.specs.Reads.{all_reads, read_of_all, reads_in}
use Rattle.dt_ledger.proofs.Reading.{read_of_all-note_read}
use Rattle.dt_ledger.proofs.read_counts.ReadCounts.note.Goals as goal

pub invariant_of-self-2 : goal.invariant_of-self-2
invariant_of-self-2 c =
    let first = c.in-Some.first in
    let later = reads_in c.self.inside.later.entries in
    record {
      none = λ e. absurd cc;
      sum = omega (arith, c.self.invariant.sum, ap read_of_all c.in_ok-add_in.ensures.ok, read_of_all-note_read c.args.life c.args.count (first ∷ later), ap (λ (o : Option ReadCount). read_of_all (all_reads o later)) c.in-Some.is);
    }
