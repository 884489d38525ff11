use Rattle.std.proofs.Common.{◌≤◌, length, ℕ}
use Rattle.dt_station.proofs.Playing.{Leads}
use Rattle.dt_turn.specs.Shelving.{fetch, fetch_turns}
use Rattle.dt_turn.proofs.arriving.fetch.Given as goal

-- what is left to fetch leads to the end of all; so many turns are enough
abbrev pub invariant-fetching : goal.invariant-fetching
invariant-fetching g l =
    let v = g.V.Visitor in
    record {
      most : ℕ;
      enough : length l.shelf.held ≤ most;
      leads : Leads v.tells (v.tags l.now.ms) v.hands v.fails (fetch l.fn.wanted.flow l.fn.wanted.number l.now.ms l.fn.shelf) l.fn.visitor (fetch_turns most l.fn.wanted.flow l.fn.wanted.number l.now.ms l.shelf) l.visitor;
      fewer : length l.shelf.held ≤ length l.fn.shelf.held;
    }

abbrev pub decreases-fetching : goal.decreases-fetching
decreases-fetching g l = length l.shelf.held
