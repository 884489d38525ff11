-- What is known of the flows with a call after an event: which of them may have something to read.
use Rattle.std.proofs.Common.{ℕ, ◌≡◌, Bool, true, false, if◌then◌else◌, List, [], ◌∷◌, map, Option, Some, None, refl, ap, sym, subst, ◌∙◌, inl, inr}
use Rattle.std.specs.Prelude.{◌||◌, is_some}
use Rattle.std.proofs.lemmas.Bool.{cases_Bool}
use Rattle.dt_units.specs.declared.endpoints.Flow.{Flow}
use Rattle.dt_units.specs.Flows.{IsFlow}
use Rattle.dt_reports.specs.Entries.{Entry}
use Rattle.dt_world_model.specs.Tables.{has_key, look, same_flow}
use Rattle.dt_world_model.specs.World.{World}
use Rattle.dt_world_model.specs.WorldFacts.{CanHappen}
use Rattle.dt_world_model.specs.WorldStep.{Arrives, Loses, Passes, Reads, Restarts, Sends, Ticks, WorldEvent}
use Rattle.dt_world_model.proofs.Tables.{all_look, flow_is, flow_self}
use Rattle.dt_calls_laws.specs.Grown.{IsNoSendOrRead}
use Rattle.dt_calls_laws.specs.NoPass.{IsNoPass}
use Rattle.dt_calls_model.specs.Calls.{Begun, Calls, Client, Server, Side, flow_read, with_flow}
use Rattle.dt_calls_model.specs.CallFacts.{CallFacts, FlowRests}
use Rattle.dt_calls_model.specs.CallStep.{flows_after, without_reader}
use Rattle.dt_calls_model.specs.Heard.{ALoss, APiece, ARefusal, ATaking, AnAcceptance, Heard, NoMessage, heard}
use Rattle.dt_calls_model.specs.Messages.{Piece, reversed}
use Rattle.dt_calls_model.specs.Reads.{happens, post}
use Rattle.dt_call_parts.specs.declared.dues.Due.{Due}
use Rattle.dt_call_parts.specs.declared.dues.Due.TheVariants as due
use Rattle.dt_call_parts.specs.Dues.{BothRest, IsDue, IsThere, RestsBut, due_after, due_after_event, due_of, due_with}
use Rattle.dt_call_parts.specs.Hearing.{HeardValue, first_piece, for_event, heard_all, heard_with, is_other}
use Rattle.dt_call_parts.specs.Kept.{IsKeptWorld, keys_in}
use Rattle.dt_call_parts.specs.Resting.{RestsAt}
use Rattle.dt_call_parts.proofs.Givings.{AllGiveNone, GivesNone, IsNoRestart}
use Rattle.dt_call_parts.proofs.Rests.{quiet_rests, restart_rests, sent_rests}
use Rattle.dt_call_parts.proofs.Skips.{has_added, has_by_keys, has_with}

-- WHAT WAS HEARD of an event: of which flows it gave nothing
abbrev pub Clear : Flow → Option Flow → Type 0
Clear g None = Unit {0}
Clear g (Some f) = same_flow f g ≡ false

record IsClear (g : Flow) (h : HeardValue) : Type 0 where
  piece : h.piece ≡ None
  several : h.several ≡ false
  clear : Clear g h.accepted

never_none : (piece : Piece) (kept : Option Piece) → first_piece piece kept ≡ None → ⊥
never_none piece None e = cc
never_none piece (Some kept) e = cc

first_false : (a b : Bool) → (a || b) ≡ false → a ≡ false
first_false true b e = e
first_false false b e = refl

second_false : (a b : Bool) → (a || b) ≡ false → b ≡ false
second_false true b e = absurd cc
second_false false b e = e

not_other : (g flow : Flow) (before : Option Flow) → is_other flow before ≡ false → same_flow flow g ≡ false → Clear g before
not_other g flow None e apart = tt
not_other g flow (Some f) e apart =
    elim (cases_Bool (same_flow f flow)) [
      | inl y ↦ let is : flow ≡ f = sym (flow_is f flow y) in subst (λ (h : Flow). same_flow h g ≡ false) is apart
      | inr n ↦ absurd (let wrong : true ≡ false = rw n at e in cc)
    ]

clear_before : (g : Flow) (what : Heard) (h : HeardValue) → IsClear g (heard_with what h) → GivesNone g what × IsClear g h
clear_before g (APiece piece) h c = absurd (never_none piece h.piece c.piece)
clear_before g ATaking h c = (tt, record { piece = c.piece; several = c.several; clear = c.clear })
clear_before g ARefusal h c = (tt, record { piece = c.piece; several = c.several; clear = c.clear })
clear_before g (AnAcceptance flow) h c =
    (c.clear, record { piece = c.piece; several = first_false h.several (is_other flow h.accepted) c.several; clear = not_other g flow h.accepted (second_false h.several (is_other flow h.accepted) c.several) c.clear })
clear_before g (ALoss flow) h c = (tt, record { piece = c.piece; several = c.several; clear = c.clear })
clear_before g NoMessage h c = (tt, record { piece = c.piece; several = c.several; clear = c.clear })

clear_all : (g : Flow) (es : List Entry) (h : HeardValue) → IsClear g (heard_all es h) → AllGiveNone g es × IsClear g h
clear_all g [] h c = (tt, c)
clear_all g (e ∷ es) h c =
    let rest = clear_all g es (heard_with (heard e.told) h) c in
    let one = clear_before g (heard e.told) h rest.1 in
    ((one.0, rest.0), one.1)

-- BEHIND AN EVENT in which no time passed and nothing started again
module _ (w : World) (kept : IsKeptWorld w) (flows : List (Flow × Begun)) (rest : (k : Flow) → has_key same_flow k flows ≡ true → BothRest w k) (h0 : HeardValue) where
  module _ (e : WorldEvent) (still : IsNoPass e) (can : CanHappen e) (living : (g : Flow) → IsNoRestart w g e) where
    abbrev after : World
    after = (happens e w).1

    abbrev told : HeardValue
    told = heard_all (happens e w).0 (for_event h0)

    rests_if : (k : Flow) → has_key same_flow k flows ≡ true → (side : Side) → IsClear (flow_read side k) told → RestsAt after (flow_read side k)
    rests_if k there side clear = quiet_rests w kept e (flow_read side k) still can (living (flow_read side k)) (clear_all (flow_read side k) (happens e w).0 (for_event h0) clear).0 (rest k there side)

    module _ (piece : told.piece ≡ None) (several : told.several ≡ false) where
      module _ (x : Flow) (is : told.accepted ≡ Some x) where
        clear_of : (g : Flow) → same_flow x g ≡ false → IsClear g told
        clear_of g apart = record { piece = piece; several = several; clear = subst (Clear g) (sym is) apart }

        -- both sides, where neither reads the flow
        both_if : (k : Flow) → has_key same_flow k flows ≡ true → same_flow x k ≡ false → same_flow x (reversed k) ≡ false → BothRest after k
        both_if k there one two Server = rests_if k there Server (clear_of k one)
        both_if k there one two Client = rests_if k there Client (clear_of (reversed k) two)

        by_ways : (a b : Bool) → has_key same_flow x flows ≡ a → has_key same_flow (reversed x) flows ≡ b → (k : Flow) → has_key same_flow k flows ≡ true → RestsBut (due_with a b x) after k
        by_ways true true here back k there = tt
        by_ways false false here back k there =
            elim (cases_Bool (same_flow x k)) [
              | inl y ↦ absurd (let is_x : has_key same_flow x flows ≡ true = subst (λ (g : Flow). has_key same_flow g flows ≡ true) (sym (flow_is x k y)) there in cc)
              | inr one ↦
                  elim (cases_Bool (same_flow x (reversed k))) [
                    | inl y ↦ absurd (let is_back : has_key same_flow (reversed x) flows ≡ true = subst (λ (g : Flow). has_key same_flow (reversed g) flows ≡ true) (sym (flow_is x (reversed k) y)) there in cc)
                    | inr two ↦ both_if k there one two
                  ]
            ]
        by_ways true false here back k there =
            elim (cases_Bool (same_flow x k)) [
              | inl y ↦ inl (sym (flow_is x k y))
              | inr one ↦
                  elim (cases_Bool (same_flow x (reversed k))) [
                    | inl y ↦ absurd (let is_back : has_key same_flow (reversed x) flows ≡ true = subst (λ (g : Flow). has_key same_flow (reversed g) flows ≡ true) (sym (flow_is x (reversed k) y)) there in cc)
                    | inr two ↦ inr (both_if k there one two)
                  ]
            ]
        by_ways false true here back k there =
            elim (cases_Bool (same_flow x k)) [
              | inl y ↦ absurd (let is_x : has_key same_flow x flows ≡ true = subst (λ (g : Flow). has_key same_flow g flows ≡ true) (sym (flow_is x k y)) there in cc)
              | inr one ↦
                  elim (cases_Bool (same_flow x (reversed k))) [
                    | inl y ↦ inl (ap reversed (sym (flow_is x (reversed k) y)))
                    | inr two ↦ inr (both_if k there one two)
                  ]
            ]

        there_by : (a b : Bool) → has_key same_flow x flows ≡ a → has_key same_flow (reversed x) flows ≡ b → IsThere (due_with a b x) flows
        there_by true true here back = tt
        there_by false false here back = tt
        there_by true false here back = here
        there_by false true here back = back

      rests_by : (o : Option Flow) → told.accepted ≡ o → (k : Flow) → has_key same_flow k flows ≡ true → RestsBut (due_of flows o) after k
      rests_by None is k there = λ side. rests_if k there side (record { piece = piece; several = several; clear = subst (Clear (flow_read side k)) (sym is) tt })
      rests_by (Some x) is k there = by_ways x is (has_key same_flow x flows) (has_key same_flow (reversed x) flows) refl refl k there

    there_of : (o : Option Flow) → IsThere (due_of flows o) flows
    there_of None = tt
    there_of (Some x) = by_key (has_key same_flow x flows) (has_key same_flow (reversed x) flows) refl refl
      where
        by_key : (a b : Bool) → has_key same_flow x flows ≡ a → has_key same_flow (reversed x) flows ≡ b → IsThere (due_with a b x) flows
        by_key true true here back = tt
        by_key false false here back = tt
        by_key true false here back = here
        by_key false true here back = back

    none_if : (o : Option Piece) → is_some o ≡ false → o ≡ None
    none_if None e = refl
    none_if (Some piece) e = absurd cc

    due_if : (b : Bool) → (is_some told.piece || told.several) ≡ b → (k : Flow) → has_key same_flow k flows ≡ true → RestsBut (if b then due.All else due_of flows told.accepted) after k
    due_if true e k there = tt
    due_if false e k there = rests_by (none_if told.piece (first_false (is_some told.piece) told.several e)) (second_false (is_some told.piece) told.several e) told.accepted refl k there

    there_if : (b : Bool) → IsThere (if b then due.All else due_of flows told.accepted) flows
    there_if true = tt
    there_if false = there_of told.accepted

    pub rests_behind : (k : Flow) → has_key same_flow k flows ≡ true → RestsBut (due_after flows told) after k
    rests_behind k there = due_if (is_some told.piece || told.several) refl k there

    pub there_behind : IsThere (due_after flows told) flows
    there_behind = there_if (is_some told.piece || told.several)

-- the flows stay, whatever station starts again
keys_stay : (e : WorldEvent) (flows : List (Flow × Begun)) → keys_in (flows_after e flows) ≡ keys_in flows
keys_stay (Passes by) flows = refl
keys_stay (Sends f octets begin end) flows = refl
keys_stay (Reads f most) flows = refl
keys_stay (Ticks n) flows = refl
keys_stay (Arrives copy) flows = refl
keys_stay (Loses copy) flows = refl
keys_stay (Restarts n) flows = over flows
  where
    over : (es : List (Flow × Begun)) → keys_in (map (without_reader n) es) ≡ keys_in es
    over [] = refl
    over (x ∷ xs) = ap (λ (ks : List Flow). x.0 ∷ ks) (over xs)

-- by the same keys
with_keys : (d : Due) (w : World) (flows others : List (Flow × Begun)) → keys_in others ≡ keys_in flows → IsDue d w flows → IsDue d w others
with_keys d w flows others same h = record {
  rest = λ k there. h.rest k (sym (has_by_keys k others flows same) ∙ there);
  there = is_there d h.there;
}
  where
    is_there : (e : Due) → IsThere e flows → IsThere e others
    is_there due.Nothing t = tt
    is_there (due.Flow f) t = has_by_keys f others flows same ∙ t
    is_there due.All t = tt

pub by_same_keys : (d : Due) (w : World) (flows others : List (Flow × Begun)) → keys_in others ≡ keys_in flows → IsDue d w flows → IsDue d w others
by_same_keys d w flows others same h = with_keys d w flows others same h

module _ (w : World) (kept : IsKeptWorld w) (flows : List (Flow × Begun)) (settled : IsDue due.Nothing w flows) (h0 : HeardValue) where
  behind : (e : WorldEvent) → IsNoSendOrRead e → IsDue (due_after_event e flows (heard_all (happens e w).0 (for_event h0))) (happens e w).1 flows
  behind (Passes by) may = record { rest = λ k there. tt; there = tt }
  behind (Sends f octets begin end) may = absurd may
  behind (Reads f most) may = absurd may
  behind (Ticks n) may = record { rest = rests_behind w kept flows settled.rest h0 (Ticks n) tt tt (λ g. tt); there = there_behind w kept flows settled.rest h0 (Ticks n) tt tt (λ g. tt) }
  behind (Arrives copy) may = record { rest = rests_behind w kept flows settled.rest h0 (Arrives copy) tt tt (λ g. tt); there = there_behind w kept flows settled.rest h0 (Arrives copy) tt tt (λ g. tt) }
  behind (Loses copy) may = record { rest = rests_behind w kept flows settled.rest h0 (Loses copy) tt tt (λ g. tt); there = there_behind w kept flows settled.rest h0 (Loses copy) tt tt (λ g. tt) }
  behind (Restarts n) may = record { rest = λ k there side. restart_rests w kept n (flow_read side k) (settled.rest k there side); there = tt }

  pub due_left : (e : WorldEvent) → IsNoSendOrRead e → IsDue (due_after_event e (flows_after e flows) (heard_all (happens e w).0 (for_event h0))) (happens e w).1 (flows_after e flows)
  due_left (Passes by) may = behind (Passes by) may
  due_left (Sends f octets begin end) may = absurd may
  due_left (Reads f most) may = absurd may
  due_left (Ticks n) may = behind (Ticks n) may
  due_left (Arrives copy) may = behind (Arrives copy) may
  due_left (Loses copy) may = behind (Loses copy) may
  due_left (Restarts n) may = with_keys due.Nothing (happens (Restarts n) w).1 flows (flows_after (Restarts n) flows) (keys_stay (Restarts n) flows) (behind (Restarts n) may)

-- BEHIND A CALL its flow is due
pub due_made : (c : Calls) (f : Flow) (octets : List ℕ) → IsFlow f → IsKeptWorld c.world → IsDue due.Nothing c.world c.flows → IsDue (due.Flow f) (post f octets c.world).1 (with_flow f c.flows)
due_made c f octets flow kept settled = record {
  rest = λ k there. elim (has_with k f c.flows there) [ inl e ↦ inl e | inr old ↦ inr (λ side. sent_rests f octets c.world (flow_read side k) flow kept (settled.rest k old side)) ];
  there = has_added f c.flows;
}

-- BETWEEN STEPS nothing is due
module _ (answer : List ℕ → List ℕ) (c : Calls) (facts : CallFacts answer c) where
  rests_now : (k : Flow) (b : Begun) → FlowRests c k b → BothRest c.world k
  rests_now k b h Server = record { unread = h.all_read Server; rests = h.server_rests }
  rests_now k b h Client = record { unread = h.all_read Client; rests = h.client_rests }

  rests_of : (k : Flow) (o : Option Begun) → look same_flow k c.flows ≡ o → is_some o ≡ true → BothRest c.world k
  rests_of k None is there = absurd cc
  rests_of k (Some b) is there = rests_now k b (all_look Flow Begun same_flow flow_self flow_is (FlowRests c) k b c.flows is facts.rest)

  pub nothing_due : IsDue due.Nothing c.world c.flows
  nothing_due = record { rest = λ k there. rests_of k (look same_flow k c.flows) refl there; there = tt }
