use Rattle.std.proofs.Common.{◌<◌, length, suc, ℕ}
use Rattle.dt_station.proofs.Playing.{Leads}
use Rattle.dt_turn.specs.Codes.{GoesOn, IsTaken, MayGo, handed_seen, incoming_seen}
use Rattle.dt_turn.specs.Shelving.{first_round, rounds}
use Rattle.dt_turn.proofs.arriving.arrive_shelved.Given as goal

-- the rounds that are left lead to the end of all; so many are enough
abbrev pub invariant-rounds : goal.invariant-rounds
invariant-rounds g l =
    let v = g.V.Visitor in
    let rules = l.fn.io.station.rules in
    record {
      most : ℕ;
      enough : length l.shelf.held < most;
      leads : Leads v.tells (v.tags l.now) v.hands v.fails (rounds (suc (length l.fn.shelf.held)) rules l.now (first_round (incoming_seen l.fn.incoming) l.fn.io.station.state l.fn.shelf)) l.fn.visitor (rounds most rules l.now (first_round (handed_seen l.io.taken.value l.handed) l.io.station.state l.shelf)) l.visitor;
      taken : IsTaken l.io.taken.value l.handed;
      go : MayGo l.now l.io.station;
      on : GoesOn l.now 0 l.fn.io.station l.io.station;
    }

abbrev pub decreases-rounds : goal.decreases-rounds
decreases-rounds g l = length l.shelf.held
