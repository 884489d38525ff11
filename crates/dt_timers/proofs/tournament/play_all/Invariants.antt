use Rattle.std.proofs.Common.{ℕ, ◌≡◌, ◌+◌, ◌≤◌, length}
use Rattle.dt_timers.specs.Tournaments.{node}
use Rattle.dt_timers.proofs.Tournaments.{ArePlayedFrom}
use Rattle.dt_timers.proofs.tournament.play_all.Given as goal

-- the nodes so far are played, and the places are as they were
abbrev pub invariant-loop-at : goal.invariant-loop-at
invariant-loop-at l = record {
  long : length l.nodes ≡ length l.fn.nodes;
  within : l.at + l.at ≤ length l.nodes;
  played : ArePlayedFrom l.at l.nodes;
  places : (k : ℕ) → length l.fn.nodes ≤ k + k → node l.nodes k ≡ node l.fn.nodes k;
}

abbrev pub decreases-loop-at : goal.decreases-loop-at
decreases-loop-at l = l.at
