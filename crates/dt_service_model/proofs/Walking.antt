-- What holds from a node to the one after the end of its turn, where each move in between keeps it.
use Rattle.std.proofs.Common.{ℕ, zero, suc, Bool, true, false, List, [], ◌∷◌, Option, Some, None}
use Rattle.std.specs.Prelude.{◌&&◌, cond, fold}
use Rattle.dt_units.specs.declared.endpoints.Flow.{Flow}
use Rattle.dt_world_model.specs.Station.{Read}
use Rattle.dt_calls_model.specs.Messages.{Piece}
use Rattle.dt_endpoint.specs.Endpoints.{moment_of}
use Rattle.dt_service_model.specs.Ends.{judge}
use Rattle.dt_service_model.specs.CallBook.{may_read}
use Rattle.dt_service_model.specs.Turns.{Node, comes_in, done_with, happens, most_read, most_reads, piece_at, read_flow, read_times, reads, sweep, take_read, turn_end, with_book}
use Rattle.dt_service_model.specs.Whole.{take_piece}

pub record IsKept (now : ℕ) (R : Node → Node → Type 0) : Type 0 where
  pub itself : (x : Node) → R x x
  pub through : (x y z : Node) → R x y → R y z → R x z
  pub hears : (f : Flow) (x : Node) → R x (happens now (Read f most_read) x)
  pub done : (f : Flow) (x : Node) → R x (with_book (done_with f) x)
  pub takes : (f : Flow) (p : Piece) (x : Node) → R x (with_book (take_piece f p) x)
  pub swept : (x : Node) → R x (with_book (sweep x.endpoint.state.host) x)

-- all that is unread is read, and what was begun without a receiver goes
abbrev pub read_through : (now : ℕ) → Node → Node
read_through now x = let y = reads now x in with_book (sweep y.endpoint.state.host) y

module _ (now : ℕ) (R : Node → Node → Type 0) (kept : IsKept now R) where
  take_kept : (again : Node → Node) (f : Flow) (o : Option Piece) (x : Node) → ((y : Node) → R y (again y)) → R x (take_read again f o x)
  take_kept again f None x more = kept.done f x
  take_kept again f (Some p) x more = let y = with_book (take_piece f p) x in kept.through x y (again y) (kept.takes f p x) (more y)

  if_kept : (b : Bool) (one x : Node) → R x one → R x (cond b one x)
  if_kept true one x h = h
  if_kept false one x h = kept.itself x

  pub times_kept : (most : ℕ) (f : Flow) (x : Node) → R x (read_times most now f x)
  times_kept zero f x = kept.itself x
  times_kept (suc most) f x =
      let y = happens now (Read f most_read) x in
      if_kept (comes_in x f && may_read f x.book) (take_read (read_times most now f) f (piece_at now f x.endpoint) y) x
      (kept.through x y _ (kept.hears f x) (take_kept (read_times most now f) f (piece_at now f x.endpoint) y (λ z. times_kept most f z)))

  pub flows_kept : (flows : List Flow) (x : Node) → R x (fold (read_flow now) x flows)
  flows_kept [] x = kept.itself x
  flows_kept (f ∷ flows) x = kept.through x (read_flow now x f) _ (times_kept most_reads f x) (flows_kept flows (read_flow now x f))

  pub reads_kept : (x : Node) → R x (read_through now x)
  reads_kept x = let y = reads now x in kept.through x y (read_through now x) (flows_kept x.book.unread x) (kept.swept y)

  -- and calls are judged
  pub end_kept : ((moment : ℕ) (x : Node) → R x (with_book (judge moment) x)) → (x : Node) → R x (turn_end now x)
  end_kept judged x = let y = read_through now x in kept.through x y (turn_end now x) (reads_kept x) (judged (moment_of now y.endpoint) y)
