-- Where one flow alone is due, its two sides are read and no others; where nothing is due, none.
use Rattle.std.proofs.Common.{ℕ, ◌≡◌, ◌≤◌, ◌^◌, true, List, length, Result, Ok, Err, refl, ap, sym, ◌∙◌, inl, inr, ◌⊎◌}
use Rattle.std.proofs.lemmas.List.Elements.{All-nil}
use Rattle.dt_units.specs.declared.endpoints.Flow.{Flow}
use Rattle.dt_world_model.specs.Tables.{has_key, same_flow}
use Rattle.dt_world_model.specs.World.{World}
use Rattle.dt_calls_laws.specs.Leads as laws
use Rattle.dt_calls_laws.specs.Leads.{Leads}
use Rattle.dt_calls_laws.specs.Told.{IsOn, IsTold}
use Rattle.dt_calls_laws.proofs.SideReads.{side_leads}
use Rattle.dt_calls_model.specs.CallFacts.{CourseFacts}
use Rattle.dt_calls_model.specs.Calls.{Calls, Client, Server, Side, flow_read}
use Rattle.dt_calls_model.specs.CallTold.{CallEntry}
use Rattle.dt_calls_model.specs.Reads.{Course, read_all, read_side, read_sides}
use Rattle.dt_call_parts.specs.declared.dues.Due.TheVariants as due
use Rattle.dt_call_parts.specs.Courses.{GoesOn, HasGoneOn, HasStopped, from_calls}
use Rattle.dt_call_parts.specs.Dues.{BothRest, IsDue}
use Rattle.dt_call_parts.specs.Resting.{RestsAt}
use Rattle.dt_call_parts.proofs.Courses.{adds_side, adds_sides, behind, gone_stop, gone_then, stop_then}
use Rattle.dt_call_parts.proofs.Servings.{gone_as, stopped_as}
use Rattle.dt_call_parts.proofs.Skips.{has_by_keys, none_read, one_read}

module _ (answer : List ℕ → List ℕ) (c : Calls) (course : CourseFacts answer c) (few : length c.calls ≤ 2 ^ 64) where
  pub is_on : IsOn answer (from_calls c)
  is_on = record { facts = course; few = few; told = All-nil (λ (e : CallEntry). IsTold answer c e.told) }

  -- a side that is read then rests, and what rested rests
  module _ (side : Side) (f : Flow) (there : has_key same_flow f c.flows ≡ true) where
    abbrev after : Course
    after = read_side answer side (from_calls c) f

    leads : Leads answer (from_calls c) after × laws.IsDone side after.calls.world f
    leads = side_leads answer side f (from_calls c) is_on there

    pub goes_on : Leads answer (from_calls c) after
    goes_on = leads.0

    here : RestsAt after.calls.world (flow_read side f)
    here = record { unread = leads.1.read; rests = leads.1.rests }

    pub others : (g : Flow) → RestsAt c.world g → RestsAt after.calls.world g
    others g h = record { unread = leads.0.quiet.read g h.unread; rests = leads.0.quiet.rests g.to.0 h.rests }

    pub one_is : ((k : Flow) → has_key same_flow k c.flows ≡ true → (k ≡ f) ⊎ RestsAt c.world (flow_read side k)) → read_sides answer side (from_calls c) ≡ after
    one_is rests = one_read answer side f c here others there rests

either_side : (w : World) (k f : Flow) (side : Side) → (k ≡ f) ⊎ BothRest w k → (k ≡ f) ⊎ RestsAt w (flow_read side k)
either_side w k f side (inl e) = inl e
either_side w k f side (inr rest) = inr (rest side)

-- NOTHING
pub none_is : (answer : List ℕ → List ℕ) (c : Calls) → IsDue due.Nothing c.world c.flows → read_all answer (from_calls c) ≡ from_calls c
none_is answer c d =
    ap (read_sides answer Client) (none_read answer Server c (λ k there. d.rest k there Server)) ∙ none_read answer Client c (λ k there. d.rest k there Client)

-- ONE FLOW
module _ (answer : List ℕ → List ℕ) (c : Calls) (course : CourseFacts answer c) (few : length c.calls ≤ 2 ^ 64) (f : Flow) (d : IsDue (due.Flow f) c.world c.flows) where
  abbrev first : Course
  first = read_side answer Server (from_calls c) f

  on : Leads answer (from_calls c) first
  on = goes_on answer c course few Server f d.there

  key_same : (k : Flow) → has_key same_flow k first.calls.flows ≡ has_key same_flow k c.flows
  key_same k = has_by_keys k first.calls.flows c.flows on.names

  rest_then : (k : Flow) → (k ≡ f) ⊎ BothRest c.world k → (k ≡ f) ⊎ RestsAt first.calls.world (flow_read Client k)
  rest_then k (inl e) = inl e
  rest_then k (inr rest) = inr (others answer c course few Server f d.there (flow_read Client k) (rest Client))

  pub both_is : read_all answer (from_calls c) ≡ read_side answer Client (read_side answer Server (from_calls c) f) f
  both_is =
      ap (read_sides answer Client) (one_is answer c course few Server f d.there (λ k there. either_side c.world k f Server (d.rest k there)))
      ∙ adds_sides answer Client first.told first.calls
      ∙ ap (behind first.told) (one_is answer first.calls on.on.facts on.on.few Client f (key_same f ∙ d.there) (λ k there. rest_then k (d.rest k (sym (key_same k) ∙ there))))
      ∙ sym (adds_side answer Client f first.told first.calls)

-- WHAT THE CODE READS is what the definitions read
module _ {L : Type 0} (tells : L → CallEntry → L → Type 0) (answer : List ℕ → List ℕ) where
  pub none_goes : (c : Calls) (l : L) → IsDue due.Nothing c.world c.flows → HasGoneOn tells (read_all answer) c l l c
  none_goes c l d = gone_as tells (read_all answer) (λ r. r) c l l (none_is answer c d) c (record { lines = refl; calls = refl })

  module _ (c : Calls) (l m : L) where
    pub sides_stop : HasStopped tells (read_sides answer Server) c l m → HasStopped tells (read_all answer) c l m
    sides_stop stop = stop_then tells (read_sides answer Server) (read_sides answer Client) (adds_sides answer Client) c l m stop

    pub sides_go : {U E : Type 0} (n : L) (d e : Calls) (r : Result U E) → HasGoneOn tells (read_sides answer Server) c l m d → GoesOn tells (read_sides answer Client) d m n r e → GoesOn tells (read_all answer) c l n r e
    sides_go n d e (Ok done) one two = gone_then tells (read_sides answer Server) (read_sides answer Client) (adds_sides answer Client) c d e l m n one two
    sides_go n d e (Err why) one two = gone_stop tells (read_sides answer Server) (read_sides answer Client) (adds_sides answer Client) c d l m n one two

    module _ (course : CourseFacts answer c) (few : length c.calls ≤ 2 ^ 64) (f : Flow) (is : IsDue (due.Flow f) c.world c.flows) where
      abbrev Both : Course → Course
      Both r = read_side answer Client (read_side answer Server r f) f

      pub both_stop : HasStopped tells (λ r. read_side answer Server r f) c l m → HasStopped tells (read_all answer) c l m
      both_stop stop = stopped_as tells (read_all answer) Both c l m (both_is answer c course few f is) (stop_then tells (λ r. read_side answer Server r f) (λ r. read_side answer Client r f) (adds_side answer Client f) c l m stop)

      pub both_go : {U E : Type 0} (n : L) (d e : Calls) (r : Result U E) → HasGoneOn tells (λ r. read_side answer Server r f) c l m d → GoesOn tells (λ r. read_side answer Client r f) d m n r e → GoesOn tells (read_all answer) c l n r e
      both_go n d e (Ok done) one two = gone_as tells (read_all answer) Both c l n (both_is answer c course few f is) e (gone_then tells (λ r. read_side answer Server r f) (λ r. read_side answer Client r f) (adds_side answer Client f) c d e l m n one two)
      both_go n d e (Err why) one two = stopped_as tells (read_all answer) Both c l n (both_is answer c course few f is) (gone_stop tells (λ r. read_side answer Server r f) (λ r. read_side answer Client r f) (adds_side answer Client f) c d l m n one two)
