use Rattle.std.proofs.Common.{◌≡◌, ◌∙◌, List, ℕ, ap, sym}
use Rattle.byteorder.specs.Endian.{big_number}
use Rattle.dt_units.specs.declared.parameters.Params.{Params}
use Rattle.dt_fingerprint.specs.Fingerprints.{digest_of, fingerprint_of, numbers_of}
use Rattle.dt_fingerprint.proofs.fingerprint.Goals as goal

pub returns-clause-value : goal.returns-clause-value
unfolding fingerprint_of
returns-clause-value c = c.read_u64.ensures ∙ ap (λ (octets : List ℕ). big_number 8 octets) c.digest_of.ensures ∙ ap (λ (p : Params). big_number 8 (digest_of (numbers_of p))) c.params-params.ensures.same

pub returns-clause-equal : goal.returns-clause-equal
unfolding fingerprint_of
returns-clause-equal c = λ p same. ap (λ (q : Params). big_number 8 (digest_of (numbers_of q))) (same ∙ sym c.params-params.ensures.same) ∙ sym (c.read_u64.ensures ∙ ap (λ (octets : List ℕ). big_number 8 octets) c.digest_of.ensures)
