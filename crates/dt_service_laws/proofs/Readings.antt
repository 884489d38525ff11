-- What a program puts together from its reads are messages of the octets that it read.
use Rattle.std.proofs.Common.{ℕ, Bool, true, false, List, [], ◌∷◌, Option, None, refl, sym, subst, inl, take}
use Rattle.std.specs.Prelude.{cond, ◌==◌}
use Rattle.dt_items.specs.declared.item.Item.{Item}
use Rattle.dt_items.specs.Unread.{marked}
use Rattle.dt_units.specs.declared.endpoints.Flow.{Flow}
use Rattle.dt_world_model.specs.Tables.{same_flow}
use Rattle.dt_calls_model.specs.Messages.{Piece}
use Rattle.dt_messages.specs.Joining.{begun_within, whole_within}
use Rattle.dt_endpoint.specs.declared.answers.Delivered.{Delivered as Answer}
use Rattle.dt_endpoint.specs.declared.answers.Delivered.TheVariants as answer
use Rattle.dt_network.specs.Octets.{AreTaken, IsReadOf, all_read, items_read, read_by, read_if, read_in_step}
use Rattle.dt_network.specs.Steps.{AddRoute, Call, CallArrive, CallRead, CallSend, CallTick, Calls, Follow, OpenAgain, Pass, PullFrame, PullReport, Step}
use Rattle.dt_service_laws.specs.Orders.{AreSomeOf, none}
use Rattle.dt_service_laws.specs.Reading.{begun_of, found_by, found_in, messages_read, piece_answered, piece_if, piece_of, whole_of}
use Rattle.dt_service_laws.specs.Wholes.{begun_after, listed, messages_from, messages_in}
use Rattle.dt_service_laws.proofs.Orders.{both, some_through}
use Rattle.dt_service_laws.proofs.Pieces.{begun_stays, messages_append, piece_begun, piece_messages, piece_with, whole_stays}
use Rattle.dt_service_laws.proofs.Wholes.{IsSameOrNone, in_order}

module _ (longest : Option ℕ) where
  record Goes (found : Option Piece × Option (List ℕ)) (items : List Item) (t : Option (List ℕ)) : Type 0 where
    wholes : AreSomeOf (listed (whole_of longest found)) (messages_from t items)
    begun : IsSameOrNone (begun_of longest found) (begun_after t items)

  leaves_all : (r t : Option (List ℕ)) → IsSameOrNone r t → Goes (None, r) [] t
  leaves_all r t same = record { wholes = none; begun = same }

  adds : (b run begin end : Bool) (octets : List ℕ) (r t : Option (List ℕ)) → IsSameOrNone r t → Goes (piece_if b (piece_of run begin end octets), r) (read_if b (marked octets begin end run)) t
  adds false run begin end octets r t same = leaves_all r t same
  adds true run begin end [] r t same = leaves_all r t same
  adds true run begin end (o ∷ octets) r t same =
      let p = piece_with begin end run (o ∷ octets) in
      record {
        wholes = subst (λ (ms : List (List ℕ)). AreSomeOf (listed (whole_within longest r p)) ms) (sym (piece_messages t o octets begin end run)) (whole_stays longest r t p same);
        begun = subst (λ (o : Option (List ℕ)). IsSameOrNone (begun_within longest r p) o) (sym (piece_begun t o octets begin end run)) (begun_stays longest r t p same);
      }

  reads_none : (b : Bool) (r t : Option (List ℕ)) → IsSameOrNone r t → Goes (piece_if b None, r) (read_if b []) t
  reads_none true r t same = leaves_all r t same
  reads_none false r t same = leaves_all r t same

  by_answer : (b : Bool) (a : Answer) (buf : List ℕ) (r t : Option (List ℕ)) → IsSameOrNone r t → Goes (piece_if b (piece_answered a buf), r) (read_if b (items_read a buf)) t
  by_answer b (answer.Read len run begin end) buf r t same = adds b run begin end (take len buf) r t same
  by_answer b answer.Nothing buf r t same = reads_none b r t same
  by_answer b answer.NoMemory buf r t same = reads_none b r t same
  by_answer b answer.Spent buf r t same = reads_none b r t same
  by_answer b answer.BadFlow buf r t same = reads_none b r t same
  by_answer b answer.NoRoom buf r t same = reads_none b r t same

  opens : (b : Bool) (r t : Option (List ℕ)) → IsSameOrNone r t → Goes (None, cond b None r) [] t
  opens true r t same = record { wholes = none; begun = inl refl }
  opens false r t same = leaves_all r t same

  by_call : (f : Flow) (n : ℕ) (call : Call) (r t : Option (List ℕ)) → IsSameOrNone r t → Goes (found_by f n call r) (read_by f call) t
  by_call f n (CallRead now flow room buf a) r t same = by_answer (same_flow flow f) a buf r t same
  by_call f n (OpenAgain again options) r t same = opens (n == f.to.0) r t same
  by_call f n (CallTick now a) r t same = leaves_all r t same
  by_call f n (CallSend now flow octets begin end a) r t same = leaves_all r t same
  by_call f n (CallArrive now link datagram waited a) r t same = leaves_all r t same
  by_call f n PullFrame r t same = leaves_all r t same
  by_call f n PullReport r t same = leaves_all r t same
  by_call f n (AddRoute route a) r t same = leaves_all r t same
  by_call f n (Follow flow done) r t same = leaves_all r t same

  by_step : (f : Flow) (s : Step) (r t : Option (List ℕ)) → IsSameOrNone r t → Goes (found_in f s r) (read_in_step f s) t
  by_step f (Pass by) r t same = leaves_all r t same
  by_step f (Calls n call after) r t same = by_call f n call r t same

  pub read_messages : (f : Flow) (steps : List Step) (r t : Option (List ℕ)) → IsSameOrNone r t → AreSomeOf (messages_read longest f r steps) (messages_from t (all_read f steps))
  read_messages f [] r t same = none
  read_messages f (s ∷ steps) r t same =
      let g = by_step f s r t same in
      subst (λ (ms : List (List ℕ)). AreSomeOf (messages_read longest f r (s ∷ steps)) ms) (sym (messages_append t (read_in_step f s) (all_read f steps)))
      (both g.wholes (read_messages f steps (begun_of longest (found_in f s r)) (begun_after t (read_in_step f s)) g.begun))

  -- where what is read is what was sent
  pub network_messages : (steps : List Step) (f : Flow) → (taken : List Item) × AreTaken f steps taken × IsReadOf false (all_read f steps) taken → (taken : List Item) × AreTaken f steps taken × AreSomeOf (messages_read longest f None steps) (messages_in taken)
  network_messages steps f n = (n.0, n.1, some_through (read_messages f steps None None (inl refl)) (in_order (all_read f steps) n.0 n.2))
