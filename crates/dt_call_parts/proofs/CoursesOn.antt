-- The facts of calls hold while sides are read, so also where the reading stops.
use Rattle.std.proofs.Common.{ℕ, ◌≡◌, ◌≤◌, ◌^◌, true, List, length, Some, sym, subst}
use Rattle.std.proofs.lemmas.List.Elements.{All-nil}
use Rattle.dt_units.specs.declared.endpoints.Flow.{Flow}
use Rattle.dt_world_model.specs.Tables.{has_key, look, same_flow}
use Rattle.dt_calls_laws.specs.Told.{IsOn, IsTold}
use Rattle.dt_calls_laws.proofs.PieceRead.{is_there}
use Rattle.dt_calls_laws.proofs.SideReads.{piece_leads, side_leads, sides_lead}
use Rattle.dt_calls_model.specs.CallFacts.{CourseFacts}
use Rattle.dt_calls_model.specs.Calls.{Calls, Side}
use Rattle.dt_calls_model.specs.CallTold.{CallEntry}
use Rattle.dt_calls_model.specs.Messages.{Piece}
use Rattle.dt_calls_model.specs.Reads.{Course, read_side, read_sides, take_piece, take_whole}
use Rattle.dt_call_parts.specs.Courses.{HasGoneOn, from_calls}
use Rattle.dt_call_parts.proofs.Readings.{has_joined, has_read, made_whole, piece_read}

module _ (answer : List ℕ → List ℕ) where
  pub starts_on : (c : Calls) → CourseFacts answer c → length c.calls ≤ 2 ^ 64 → IsOn answer (from_calls c)
  starts_on c facts few = record { facts = facts; few = few; told = All-nil (λ (e : CallEntry). IsTold answer c e.told) }

  -- whatever was told before
  goes_on_from : (d : Course) (e : Calls) → IsOn answer d → e ≡ d.calls → IsOn answer (from_calls e)
  goes_on_from d e on is = starts_on e (subst (CourseFacts answer) (sym is) on.facts) (subst (λ (x : Calls). length x.calls ≤ 2 ^ 64) (sym is) on.few)

  module _ {L : Type 0} (tells : L → CallEntry → L → Type 0) (side : Side) (c e : Calls) (l m : L) (on : IsOn answer (from_calls c)) where
    pub sides_on : HasGoneOn tells (read_sides answer side) c l m e → IsOn answer (from_calls e)
    sides_on gone = goes_on_from (read_sides answer side (from_calls c)) e (sides_lead answer side (from_calls c) on).0.on gone.calls

    module _ (f : Flow) (key : has_key same_flow f c.flows ≡ true) where
      pub side_on : HasGoneOn tells (λ (r : Course). read_side answer side r f) c l m e → IsOn answer (from_calls e)
      side_on gone = goes_on_from (read_side answer side (from_calls c) f) e (side_leads answer side f (from_calls c) on key).0.on gone.calls

      -- a piece, and the message that it makes whole
      pub piece_on : (piece : Piece) → piece_read tells answer side f c ≡ Some piece → HasGoneOn tells (take_whole answer side f (made_whole tells answer side f piece (has_read tells answer side f c))) (has_joined tells answer side f piece (has_read tells answer side f c)) l m e → IsOn answer (from_calls e)
      piece_on piece is gone =
          let found = is_there (look same_flow f c.flows) key in
          goes_on_from (take_piece answer side f piece (from_calls (has_read tells answer side f c))) e (piece_leads answer side f (from_calls c) on found.0 found.1 piece is).0.on gone.calls
