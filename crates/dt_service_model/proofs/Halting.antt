-- What holds from a node to the one at which its turn stopped for want of memory, where each move in between keeps it.
use Rattle.std.proofs.Common.{ℕ, ◌≡◌, List, sym, subst}
use Rattle.std.specs.Prelude.{fold}
use Rattle.dt_units.specs.declared.endpoints.Flow.{Flow}
use Rattle.dt_world_model.specs.Station.{Event, Read}
use Rattle.dt_service_model.specs.declared.call_counts.CallCounts.{CallCounts}
use Rattle.dt_service_model.specs.CallBook.{CallBook}
use Rattle.dt_service_model.specs.Stopping.{EndStops, EventStops, ReadStops, TurnStops, at_flow, at_judging, at_piece, behind_event, in_end, in_event, in_read, not_begun, not_done, not_read}
use Rattle.dt_service_model.specs.Turns.{Node, happens, most_read, read_flow, read_times, with_book}
use Rattle.dt_service_model.proofs.Walking.{IsKept, flows_kept, read_through, reads_kept, times_kept}

-- any event
abbrev pub Any : (now : ℕ) → Event (Unit {0}) → Node → Type 0
Any now event x = Unit {0}

-- each move of a turn and each stop of an event keeps it, where the event is one that may be
pub record IsKeptToStop (R : Node → Node → Type 0) (May : (now : ℕ) → Event (Unit {0}) → Node → Type 0) : Type 0 where
  pub kept : (now : ℕ) → IsKept now R
  pub reads : (now : ℕ) (f : Flow) (x : Node) → May now (Read f most_read) x
  pub hears : (now : ℕ) (event : Event (Unit {0})) (x : Node) → May now event x → R x (happens now event x)
  pub stops : (now : ℕ) (event : Event (Unit {0})) (x st : Node) → May now event x → EventStops now event x st → R x st
  pub lost : (begun : List (Flow × List ℕ)) (counts : CallCounts) (x : Node) → R x (with_book (λ h. record h { begun = begun; counts = counts }) x)

module _ (R : Node → Node → Type 0) (May : (now : ℕ) → Event (Unit {0}) → Node → Type 0) (walk : IsKeptToStop R May) where
  there : (x st y : Node) → st ≡ y → R x y → R x st
  there x st y is part = subst (R x) (sym is) part

  read_stopped : (now : ℕ) (f : Flow) (x st : Node) → ReadStops now f x st → R x st
  read_stopped now f x st (not_read is) = there x st x is ((walk.kept now).itself x)
  read_stopped now f x st (in_read may stops) = walk.stops now (Read f most_read) x st (walk.reads now f x) stops
  read_stopped now f x st (at_piece may begun counts is) =
      let y = happens now (Read f most_read) x in
      let z = with_book (λ h. record h { begun = begun; counts = counts }) y in
      there x st z is ((walk.kept now).through x y z (walk.hears now (Read f most_read) x (walk.reads now f x)) (walk.lost begun counts y))

  pub end_stopped : (now : ℕ) (x st : Node) → EndStops now x st → R x st
  end_stopped now x st (not_begun is) = there x st x is ((walk.kept now).itself x)
  end_stopped now x st (at_flow done left f count at stops) =
      let y = fold (read_flow now) x done in
      let z = read_times count now f y in
      let first = flows_kept now R (walk.kept now) done x in
      let second = times_kept now R (walk.kept now) count f y in
      (walk.kept now).through x y st first ((walk.kept now).through y z st second (read_stopped now f z st stops))
  end_stopped now x st (at_judging is) = there x st (read_through now x) is (reads_kept now R (walk.kept now) x)

  pub turn_stopped : (now : ℕ) (event : Event (Unit {0})) (change : CallBook → CallBook) (x st : Node) → May now event x → ((y : Node) → R y (with_book change y)) → TurnStops now event change x st → R x st
  turn_stopped now event change x st may changed (not_done is) = there x st x is ((walk.kept now).itself x)
  turn_stopped now event change x st may changed (in_event stops) = walk.stops now event x st may stops
  turn_stopped now event change x st may changed (behind_event is) = there x st (happens now event x) is (walk.hears now event x may)
  turn_stopped now event change x st may changed (in_end stops) =
      let y = happens now event x in
      let z = with_book change y in
      (walk.kept now).through x y st (walk.hears now event x may) ((walk.kept now).through y z st (changed y) (end_stopped now z st stops))
