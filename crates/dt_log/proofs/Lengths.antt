-- How many digits numbers take at most.
use Rattle.std.proofs.Common.{ℕ, ◌<◌, ◌≤◌, ◌^◌, length, decimal, arith}
use Rattle.std.proofs.lemmas.Fmt.{length-decimal-le}

pub port_length : (n : ℕ) → n < 2 ^ 16 → length (decimal n) ≤ 5
port_length n h = length-decimal-le 5 n (omega arith) (omega arith) (omega arith)

pub node_length : (n : ℕ) → n < 2 ^ 32 → length (decimal n) ≤ 10
node_length n h = length-decimal-le 10 n (omega arith) (omega arith) (omega arith)
