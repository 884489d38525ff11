use Rattle.std.proofs.Common.{◌+◌, ◌++◌, List, ℕ, length, refl, sym, ap, ◌∙◌, arith}
use Rattle.std.specs.Prelude.{nat_le, if◌then◌else◌}
use Rattle.dt_layout.specs.declared.limits.TheConstants.{MOST_SHORT_DATA, PACKET_HEADER, PROTOCOL, VERSION_1, VERSION_2}
use Rattle.dt_layout.specs.Heads.{headed}
use Rattle.dt_layout.specs.Kinds.{header_spelling}
use Rattle.dt_layout.specs.Spelling.{gram_header}
use Rattle.dt_layout.proofs.WriteLemmas.{headed_spelling, is_deltagram, joined, written}
use Rattle.dt_layout.proofs.data_heads.DataHead.write.Goals as goal

pub returns-clause-len : goal.returns-clause-len
returns-clause-len c =
    let heads = joined _ _ _ _ _ (gram_header c.version_for_data-version.result PROTOCOL (PACKET_HEADER + c.args.self.now.count) c.args.life c.args.from c.args.to) (header_spelling c.fields-kind.result.0 c.fields-kind.result.1)
    c.clear.ensures c.append.ensures c.deltagram_header.ensures c.append-2.ensures c.write.ensures in
    ap length heads

pub returns-clause-spelled : goal.returns-clause-spelled
returns-clause-spelled c = λ octets count.
    let h = c.args.self.now in
    let fields = header_spelling c.fields-kind.result.0 c.fields-kind.result.1 in
    let heads = joined _ _ _ _ _ (gram_header c.version_for_data-version.result PROTOCOL (PACKET_HEADER + h.count) c.args.life c.args.from c.args.to) fields
    c.clear.ensures c.append.ensures c.deltagram_header.ensures c.append-2.ensures c.write.ensures in
    let version = c.version_for_data-version.ensures ∙ ap (λ (n : ℕ). if nat_le n MOST_SHORT_DATA then VERSION_1 else VERSION_2) (sym count) in
    ap (λ (xs : List ℕ). xs ++ octets) heads
    ∙ written (headed h octets) c.version_for_data-version.result c.args.life c.args.from c.args.to _ fields octets version (headed_spelling h.from_port h.to_port h.number h.drf h.begin h.end fields octets c.fields-kind.ensures.spelled) refl (ap (λ (n : ℕ). PACKET_HEADER + n) (sym count))

pub returns-clause-gram : goal.returns-clause-gram
returns-clause-gram c = λ octets count.
    record {
      fits = is_deltagram (headed c.args.self.now octets) c.args.life c.args.from c.args.to (omega (arith, count, c.requires.some), omega (arith, count, c.requires.fits), omega arith) c.requires.alive (omega arith) (omega arith) (omega arith);
      spelled = returns-clause-spelled c octets count;
    }
