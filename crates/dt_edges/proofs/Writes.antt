-- A write that takes nothing.
use Rattle.std.proofs.Common.{◌≡◌, ℕ, List, ◌++◌, take, Option, Some, None, ◌∙◌, append-nil}
use Rattle.std.specs.Io.KnownBytes.{Appends, Keeps}

-- Octets that grow by none stay.
pub took_none : (n : ℕ) (octets : List ℕ) (a b : Option (List ℕ)) → n ≡ 0 → Appends a b (take n octets) → Keeps a b
took_none n octets None b e p = tt
took_none n octets (Some x) None e p = absurd p
took_none n octets (Some x) (Some y) e p = let q : y ≡ x ++ take 0 octets = rw e at p in q ∙ append-nil x
