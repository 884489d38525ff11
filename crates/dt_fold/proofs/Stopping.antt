-- Calls that stop within a text.
use Rattle.std.proofs.Common.{◌≡◌, ℕ, ◌+◌, List, ◌++◌, length, take, min, sym, subst, ◌∙◌, arith}
use Rattle.std.proofs.Math.Seq.{take-append-add}
use Rattle.std.proofs.lemmas.List.{take-append-le, take_min}
use Rattle.dt_edges.specs.Sinks.{SinkSight, Takes}
use Rattle.dt_edges.proofs.Puts.{takes_as, takes_then, takes_part_first, takes_part_then}
use Rattle.dt_fold.specs.declared.stops.Stop.{Stop}
use Rattle.dt_fold.specs.declared.stops.Stop.TheVariants as stops
use Rattle.dt_fold.specs.Logging.{StopsIn}

-- the first octets of a text are the first of a longer one
pub first_of : (xs ys : List ℕ) (n : ℕ) → take n xs ≡ take (min n (length xs)) (xs ++ ys)
first_of xs ys n = sym (take-append-le (min n (length xs)) xs ys (omega arith) ∙ take_min n xs)

-- A call that stops within a text stops within a longer one.
pub stops_more : (stop : Stop) (xs ys : List ℕ) (a b : SinkSight) → StopsIn xs stop a b → StopsIn (xs ++ ys) stop a b
stops_more stops.NoMemory xs ys a b h = (min h.0 (length xs), takes_as (take h.0 xs) (take (min h.0 (length xs)) (xs ++ ys)) a b (first_of xs ys h.0) h.1)
stops_more stops.WriteFault xs ys a b h = takes_part_first xs ys a b h

-- It stops after what was put before.
pub stops_after : (stop : Stop) (xs ys : List ℕ) (a b c : SinkSight) → Takes xs a b → StopsIn ys stop b c → StopsIn (xs ++ ys) stop a c
stops_after stops.NoMemory xs ys a b c t h = (length xs + h.0, takes_as (xs ++ take h.0 ys) (take (length xs + h.0) (xs ++ ys)) a c (sym (take-append-add xs ys h.0)) (takes_then xs (take h.0 ys) a b c t h.1))
stops_after stops.WriteFault xs ys a b c t h = takes_part_then xs ys a b c t h

pub stops_as : (stop : Stop) (xs ys : List ℕ) (a b : SinkSight) → xs ≡ ys → StopsIn xs stop a b → StopsIn ys stop a b
stops_as stop xs ys a b e h = subst (λ zs. StopsIn zs stop a b) e h
