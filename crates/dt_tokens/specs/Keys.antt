-- The keys of entries, in their order.
use Rattle.std.specs.Prelude.{List, map}

abbrev pub keys_in : {K V : Type 0} → List (K × V) → List K
keys_in es = map (λ e. e.0) es
