use Rattle.std.proofs.Common.{◌≡◌, true, false, length, refl, sym, ◌∙◌, arith, rules}
use Rattle.std.specs.Prelude.{nat_le, nat_lt}
use Rattle.std.specs.List.Sorted.{IsPartitionPoint}
use Rattle.std.proofs.lemmas.Bool.Decides.{nat_tests}
use Rattle.std.proofs.lemmas.List.Sorted.{IsPartitionPoint-from_clause, IsPartitionedBy-leb}
use Rattle.dt_audit.specs.declared.gaps.Gap.{Gap}
use Rattle.dt_audit.proofs.Seeking.{ends_sorted, sought_at}
use Rattle.dt_audit.proofs.gaps.is_among.Goals as goal

pub returns-then-passed-gaps : goal.returns-then-passed-gaps
returns-then-passed-gaps c =
    let gaps = c.args.gaps.now in
    let place = c.args.place in
    let passed = c.partition_point-passed.result in
    let point : IsPartitionPoint (λ (g : Gap). nat_le g.to place ≡ true) (λ (g : Gap). nat_le g.to place ≡ false) gaps passed =
    IsPartitionPoint-from_clause (λ (g : Gap). nat_le g.to place) gaps passed c.partition_point-passed.ensures.partitioned (IsPartitionedBy-leb (λ (g : Gap). g.to) gaps place (ends_sorted gaps c.requires)) (λ a r f' k. search rules) in
    let there : nat_lt passed (length gaps) ≡ true = grind (arith, nat_tests) in
    sym (sought_at place passed gaps c.requires c.partition_point-passed.ensures.bound point (record { from = 0; to = 0 }) ∙ rw there refl)

pub returns-else-passed-gaps : goal.returns-else-passed-gaps
returns-else-passed-gaps c =
    let gaps = c.args.gaps.now in
    let place = c.args.place in
    let passed = c.partition_point-passed.result in
    let point : IsPartitionPoint (λ (g : Gap). nat_le g.to place ≡ true) (λ (g : Gap). nat_le g.to place ≡ false) gaps passed =
    IsPartitionPoint-from_clause (λ (g : Gap). nat_le g.to place) gaps passed c.partition_point-passed.ensures.partitioned (IsPartitionedBy-leb (λ (g : Gap). g.to) gaps place (ends_sorted gaps c.requires)) (λ a r f' k. search rules) in
    let behind : nat_lt passed (length gaps) ≡ false = grind (arith, nat_tests) in
    behind ∙ sym (sought_at place passed gaps c.requires c.partition_point-passed.ensures.bound point (record { from = 0; to = 0 }) ∙ rw behind refl)
