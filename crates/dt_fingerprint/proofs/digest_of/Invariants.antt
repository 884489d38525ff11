use Rattle.std.proofs.Common.{[], take}
use Rattle.sha2.specs.Hashers.{Holds256}
use Rattle.dt_fingerprint.specs.Fingerprints.{with_numbers}
use Rattle.dt_fingerprint.proofs.digest_of.Given as goal

abbrev pub invariant-loop-i : goal.invariant-loop-i
invariant-loop-i l = Holds256 l.hasher (with_numbers [] (take l.i l.numbers))
