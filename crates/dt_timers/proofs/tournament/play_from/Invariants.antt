use Rattle.std.proofs.Common.{◌-◌, ℕ, ◌≡◌, ◌+◌, ◌<◌, ◌≤◌, ◌/◌, length}
use Rattle.dt_timers.specs.Tournaments.{ArePlayedBut, node}
use Rattle.dt_timers.proofs.tournament.play_from.Given as goal

-- all is played but for the node above the one that changed last, whose deadline is at hand, and the places are as they were
abbrev pub invariant-loop-at : goal.invariant-loop-at
invariant-loop-at l = record {
  long : length l.nodes ≡ length l.fn.nodes;
  some : 1 ≤ l.at;
  within : l.at < length l.nodes;
  winner_is : l.winner ≡ node l.nodes l.at;
  played : ArePlayedBut (l.at / 2) l.nodes;
  places : (k : ℕ) → length l.fn.nodes ≤ k + k → node l.nodes k ≡ node l.fn.nodes k;
}

abbrev pub decreases-loop-at : goal.decreases-loop-at
decreases-loop-at l = l.at - 1
