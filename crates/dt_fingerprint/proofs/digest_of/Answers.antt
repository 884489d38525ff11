use Rattle.std.proofs.Common.{◌≡◌, ◌++◌, ◌∙◌, ℕ, List, [], ap, arith, subst, sym, take, take_all}
use Rattle.std.specs.Prelude.{slice_index}
use Rattle.std.specs.Int.{to_be_bytes, w32}
use Rattle.sha2.specs.Hashers.{Holds256}
use Rattle.sha2.specs.Sha256.{sha256}
use Rattle.dt_fingerprint.specs.Fingerprints.{digest_of, with_numbers}
use Rattle.dt_fingerprint.proofs.Written.{with_more}
use Rattle.dt_fingerprint.proofs.digest_of.Goals as goal

pub loop-i-init : goal.loop-i-init
unfolding with_numbers
loop-i-init c = c.new-hasher.ensures

pub loop-i-preserved : goal.loop-i-preserved
loop-i-preserved c =
    let before = with_numbers [] (take c.loop-i.i c.args.numbers.now) in
    let one : c.to_be_bytes.result ≡ to_be_bytes w32 (slice_index c.args.numbers.now c.loop-i.i) = c.to_be_bytes.ensures in
    subst (λ (m : List ℕ). Holds256 c.update.new.self m) (ap (λ (xs : List ℕ). before ++ xs) one ∙ sym (with_more c.loop-i.i c.args.numbers.now (omega arith))) (c.update.ensures before c.loop-i.invariant)

pub returns : goal.returns
unfolding digest_of
returns c = c.finalize.ensures (with_numbers [] (take c.loop-i.i c.args.numbers.now)) c.loop-i.invariant ∙ ap (λ (xs : List ℕ). sha256 (with_numbers [] xs)) (take_all c.loop-i.i c.args.numbers.now (omega (arith, c.loop-i-test.false)))
