-- A side reads a piece: the facts of calls stay, and a message that it makes whole comes for the first time.
use Rattle.std.proofs.Common.{ℕ, zero, suc, ◌+◌, ◌-◌, ◌<◌, ◌≡◌, ◌≢◌, ◌==◌, Bool, true, false, List, [], ◌∷◌, Option, Some, None, refl, ap, sym, subst, ◌∙◌, inl, inr, arith, append-nil}
use Rattle.std.specs.Prelude.{is_some, not}
use Rattle.std.proofs.lemmas.Bool.{cases_Bool}
use Rattle.std.proofs.lemmas.List.Elements.{All-contains, All-get_or, All-weaker}
use Rattle.dt_items.specs.Unread.{first_piece}
use Rattle.dt_units.specs.declared.endpoints.Flow.{Flow}
use Rattle.dt_units.specs.Flows.{IsFlow}
use Rattle.dt_units.specs.Limits.{IsWithinLimits}
use Rattle.dt_reports.specs.Entries.{Entry}
use Rattle.dt_reports.specs.declared.faults.StepFault.{StepFault}
use Rattle.dt_flow_model.specs.Ledger.{is_given}
use Rattle.dt_world_model.specs.Tables.{AllEntries, Distinct, has_key, look, same_flow, write}
use Rattle.dt_world_model.specs.World.{Placed, World, view}
use Rattle.dt_world_model.specs.WorldFacts.{CanHappen, WorldFacts}
use Rattle.dt_world_model.specs.WorldStep.{Reads, WorldEvent, after_event, first_refusal, refusals, step_unless, then_step}
use Rattle.dt_world_model.proofs.Tables.{all_found, distinct_write, flow_is, flow_self, look_write, look_write_other}
use Rattle.dt_world_laws.proofs.Running.{run_goes}
use Rattle.std.proofs.lemmas.List.Elements.{All-cons, All-nil}
use Rattle.dt_calls_model.specs.declared.calls.Posted.TheVariants.{Refused, Taken}
use Rattle.dt_calls_model.specs.CallFacts.{CallIsKept, CourseFacts, FlowIsKept, Span, last_of, requests_on, rows_gone}
use Rattle.dt_calls_model.specs.Calls.{Begun, Calls, Client, Server, Side, begun_at, call_at, flow_read, is_call, with_begun}
use Rattle.dt_calls_model.specs.Heard.{piece_in}
use Rattle.dt_calls_model.specs.Messages.{Piece, begun_with, message_of, reversed}
use Rattle.dt_calls_model.specs.Promises.{payload_of}
use Rattle.dt_calls_model.specs.Reads.{happens, most_read}
use Rattle.dt_calls_laws.specs.Calm.{Calm, PieceIsGone, count_gone, count_read, items_taken, rows_given}
use Rattle.dt_calls_laws.specs.Comes.{MessageComes}
use Rattle.dt_calls_laws.specs.HasRead.{unread_at}
use Rattle.dt_calls_laws.specs.Joins.{IsWhole, Joins}
use Rattle.dt_calls_laws.specs.Leads.{PieceKeeps}
use Rattle.dt_calls_laws.specs.ReadTold.{piece_of}
use Rattle.dt_calls_laws.proofs.Calm.{effect_key, piece_gone, read_calm, station_facts, two_numbers}
use Rattle.dt_calls_laws.proofs.Ended.{placed_is}
use Rattle.dt_calls_laws.proofs.Joining.{joins}
use Rattle.dt_calls_laws.proofs.Kept.{read_keeps_octets}
use Rattle.dt_calls_laws.proofs.Onward.{GoneStays, KeysStay, Still, begun_stays, call_kept, call_less, flow_calm, flow_found, flow_of_call, flow_still, given_later, none_taken, payload_stays, request_within}
use Rattle.dt_calls_laws.proofs.Reading.{read_tells_the_next}
use Rattle.dt_calls_laws.proofs.Spans.{IsRequest, requests_are, to_lie}
use Rattle.dt_calls_laws.proofs.UnreadEnd.{some_is}

-- AN EVENT THAT ISN'T REFUSED happens
pub happens_is : (w : World) (e : WorldEvent) → first_refusal (refusals w e) ≡ None → happens e w ≡ after_event w e
happens_is w e clear = ap (λ (o : Option StepFault). then_step ([], w) (step_unless o (after_event w e))) clear

pub record Goes (w after : World) : Type 0 where
  pub facts : WorldFacts after
  pub params : after.params ≡ w.params

pub happens_goes : (w : World) (e : WorldEvent) → IsWithinLimits w.params → WorldFacts w → CanHappen e → Goes w (happens e w).1
happens_goes w e limits facts can =
    let g = run_goes (e ∷ []) ([], w) limits facts (All-cons CanHappen e [] can (All-nil CanHappen)) in
    record { facts = g.0.0; params = g.1 }

pub clear_of_two : {F : Type 0} (a b : Bool) (u v : F) → a ≡ false → b ≡ false → first_refusal ((a, u) ∷ (b, v) ∷ []) ≡ None
clear_of_two a b u v e k = rw (e, k) refl

pub is_there : {A : Type 0} (o : Option A) → is_some o ≡ true → (a : A) × (o ≡ Some a)
is_there None h = absurd cc
is_there (Some a) h = (a, refl)

pub key_found : (o : Option Begun) (b : Begun) → o ≡ Some b → is_some o ≡ true
key_found o b e = rw e refl

-- FLOWS THAT ARE APART
module _ (flows : List (Flow × Begun)) (f k : Flow) (one_way : has_key same_flow (reversed f) flows ≡ false) (there : has_key same_flow k flows ≡ true) (other : same_flow f k ≡ false) where
  not_back : reversed f ≡ k → ⊥
  not_back e = let no : has_key same_flow k flows ≡ false = subst (λ (g : Flow). has_key same_flow g flows ≡ false) e one_way in absurd cc

  pub apart_from : (side : Side) → (same_flow (flow_read side f) k ≡ false) × (same_flow (flow_read side f) (reversed k) ≡ false)
  apart_from Server =
      (other, elim (cases_Bool (same_flow f (reversed k))) [ inl y ↦ absurd (not_back (ap reversed (flow_is f (reversed k) y))) | inr o ↦ o ])
  apart_from Client = (
    elim (cases_Bool (same_flow (reversed f) k)) [ inl y ↦ absurd (not_back (flow_is (reversed f) k y)) | inr o ↦ o ],
    elim (cases_Bool (same_flow (reversed f) (reversed k))) [
      | inl y ↦
          let same : f ≡ k = ap reversed (flow_is (reversed f) (reversed k) y) in
          let yes : same_flow f k ≡ true = subst (λ (g : Flow). same_flow f g ≡ true) same (flow_self f) in
          absurd cc
      | inr o ↦ o
    ],
  )

-- a flow and its way back
pub not_own : (f : Flow) → f.from.0 ≢ f.to.0 → same_flow f (reversed f) ≡ false
not_own f h = elim (cases_Bool (same_flow f (reversed f))) [ inl y ↦ absurd (h (ap (λ (g : Flow). g.from.0) (flow_is f (reversed f) y))) | inr o ↦ o ]

pub not_own_back : (f : Flow) → f.from.0 ≢ f.to.0 → same_flow (reversed f) f ≡ false
not_own_back f h = elim (cases_Bool (same_flow (reversed f) f)) [ inl y ↦ absurd (h (sym (ap (λ (g : Flow). g.from.0) (flow_is (reversed f) f y)))) | inr o ↦ o ]

-- an entry that is there is written
pub key_same : (f k : Flow) (b : Begun) (flows : List (Flow × Begun)) → has_key same_flow f flows ≡ true → has_key same_flow k (write same_flow f b flows) ≡ has_key same_flow k flows
key_same f k b flows there =
    elim (cases_Bool (same_flow f k)) [
      | inl y ↦
          subst (λ (g : Flow). has_key same_flow g (write same_flow f b flows) ≡ has_key same_flow g flows) (flow_is f k y)
          (ap (λ (o : Option Begun). is_some o) (look_write Flow Begun same_flow flow_self flow_is f b flows) ∙ sym there)
      | inr o ↦ ap (λ (x : Option Begun). is_some x) (look_write_other Flow Begun same_flow flow_self flow_is k f b flows o)
    ]

module _ (answer : List ℕ → List ℕ) where
  -- THE SAME CALLS over another world, in which all flows took the same
  pub same_calls : (c : Calls) (after : World) (flows : List (Flow × Begun)) → CourseFacts answer c → Goes c.world after → KeysStay c.world after → GoneStays c.world after → ((k : Flow) → items_taken after k ≡ items_taken c.world k)
      → Distinct same_flow flows → ((k : Flow) → has_key same_flow k flows ≡ has_key same_flow k c.flows)
      → let next : Calls = record { world = after; calls = c.calls; flows = flows } in AllEntries (FlowIsKept answer next) flows → CourseFacts answer next
  same_calls c after flows facts goes stations gone items distinct keys kept =
      let next : Calls = record { world = after; calls = c.calls; flows = flows } in
      record {
        limits = subst IsWithinLimits (sym goes.params) facts.limits;
        world = goes.facts;
        distinct = distinct;
        flows = kept;
        others = λ k one two. none_taken c.world after k (items k) (facts.others k (sym (keys k) ∙ one) (sym (keys (reversed k)) ∙ two));
        calls = All-weaker (CallIsKept c) (CallIsKept next) (λ call h. call_kept c next call (λ there. keys call.flow ∙ there) gone h) c.calls facts.calls;
        once = facts.once;
      }

  pub still_calls : (c : Calls) (after : World) (flows : List (Flow × Begun)) (k : Flow) → ((g : Flow) → items_taken after g ≡ items_taken c.world g) → Still c (record { world = after; calls = c.calls; flows = flows }) k
  still_calls c after flows k items = record {
    go = record { calls = λ n h. h; requests = λ n h. refl };
    spans = refl;
    replies = record { replies = λ n h. refl; none_new = λ n place count is reply. is };
    items = items k;
    items_back = items (reversed k);
  }

  -- WHAT A SIDE READS
  abbrev pub spans_at : (side : Side) (c : Calls) (f : Flow) (b : Begun) → FlowIsKept answer c f b → List Span
  spans_at Server c f b h = requests_on c f
  spans_at Client c f b h = h.replies

  abbrev pub carried_at : Side → Calls → Span → List ℕ
  carried_at Server c s = payload_of c.world (call_at c s.call)
  carried_at Client c s = answer (payload_of c.world (call_at c s.call))

  pub reads_clear : (side : Side) (c : Calls) (f : Flow) (b : Begun) → FlowIsKept answer c f b → first_refusal (refusals c.world (Reads (flow_read side f) most_read)) ≡ None
  reads_clear Server c f b h = clear_of_two _ _ _ _ (two_numbers f.from.0 f.to.0 h.two_ends) (ap not h.to_there)
  reads_clear Client c f b h = clear_of_two _ _ _ _ (two_numbers f.to.0 f.from.0 (λ e. h.two_ends (sym e))) (ap not h.from_there)

  pub reader_there : (side : Side) (c : Calls) (f : Flow) (b : Begun) → FlowIsKept answer c f b → (at : Placed) × (look ◌==◌ (flow_read side f).to.0 c.world.stations ≡ Some at)
  reader_there Server c f b h = is_there (look ◌==◌ f.to.0 c.world.stations) h.to_there
  reader_there Client c f b h = is_there (look ◌==◌ f.from.0 c.world.stations) h.from_there

  pub flow_read_is : (side : Side) (f : Flow) → IsFlow f → IsFlow (flow_read side f)
  flow_read_is Server f h = h
  flow_read_is Client f h = record { from = h.to; from_port = h.to_port; to = h.from; to_port = h.from_port }

  module _ (side : Side) (c : Calls) (f : Flow) (b : Begun) (facts : CourseFacts answer c) (there : look same_flow f c.flows ≡ Some b) where
    abbrev g : Flow
    g = flow_read side f

    abbrev read_world : World
    read_world = (happens (Reads g most_read) c.world).1

    pub here : FlowIsKept answer c f b
    here = flow_found answer c f b facts there

    reader : (at : Placed) × (look ◌==◌ g.to.0 c.world.stations ≡ Some at)
    reader = reader_there side c f b here

    flow_g : IsFlow g
    flow_g = flow_read_is side f here.ranges

    is_read : happens (Reads g most_read) c.world ≡ after_event c.world (Reads g most_read)
    is_read = happens_is c.world (Reads g most_read) (reads_clear side c f b here)

    world_is : read_world ≡ (after_event c.world (Reads g most_read)).1
    world_is = ap (λ (r : List Entry × World). r.1) is_read

    pub read_goes : Goes c.world read_world
    read_goes = happens_goes c.world (Reads g most_read) facts.limits facts.world flow_g

    pub read_items : (k : Flow) → items_taken read_world k ≡ items_taken c.world k
    read_items k = ap (λ (w : World). items_taken w k) world_is ∙ (read_keeps_octets c.world g k most_read reader.0 reader.1).taken

    pub read_apart : (k : Flow) → same_flow g k ≡ false → Calm c.world read_world k
    read_apart k other = subst (λ (w : World). Calm c.world w k) (sym world_is) (read_calm c.world facts.limits facts.world g most_read reader.0 flow_g reader.1 k other)

    pub read_gone : PieceIsGone c.world read_world g most_read
    read_gone = subst (λ (w : World). PieceIsGone c.world w g most_read) (sym world_is) (piece_gone c.world facts.limits facts.world g most_read reader.0 flow_g reader.1)

    pub read_keys : KeysStay c.world read_world
    read_keys m h = subst (λ (w : World). has_key ◌==◌ m w.stations ≡ true) (sym world_is) (effect_key c.world (Reads g most_read) m h)

    pub read_stays_gone : GoneStays c.world read_world
    read_stays_gone k place h =
        elim (cases_Bool (same_flow g k)) [
          | inl y ↦
              let same : g ≡ k = flow_is g k y in
              subst (λ (x : Flow). is_given (rows_gone read_world x) place ≡ true) same
              (subst (λ gs. is_given gs place ≡ true) (sym read_gone.gone) (given_later (count_gone c.world g) (count_read c.world g most_read) (rows_given c.world g) place (subst (λ (x : Flow). is_given (rows_gone c.world x) place ≡ true) (sym same) h)))
          | inr o ↦ subst (λ gs. is_given gs place ≡ true) (sym (read_apart k o).steady.gone) h
        ]

    -- what its lines tell
    pub read_told : piece_in (happens (Reads g most_read) c.world).0 ≡ piece_of (first_piece most_read (view c.world g).unread)
    read_told =
        let at = reader.0 in
        ap (λ (r : List Entry × World). piece_in r.0) is_read
        ∙ read_tells_the_next c.world g most_read at facts.limits reader.1 (station_facts c.world g.to.0 at facts.world reader.1).host
        ∙ ap (λ (a : Placed). piece_of (first_piece most_read (unread_at a.station.host g))) (sym (placed_is c.world g.to.0 at reader.1))

    -- THE FLOWS after it, where this one's sides have begun so much
    module _ (b' : Begun) (kept : FlowIsKept answer (record { world = read_world; calls = c.calls; flows = write same_flow f b' c.flows }) f b') where
      abbrev next : Calls
      next = record { world = read_world; calls = c.calls; flows = write same_flow f b' c.flows }

      keys : (k : Flow) → has_key same_flow k (write same_flow f b' c.flows) ≡ has_key same_flow k c.flows
      keys k = key_same f k b' c.flows (key_found (look same_flow f c.flows) b there)

      each : (k : Flow) (x : Begun) → look same_flow k (write same_flow f b' c.flows) ≡ Some x → FlowIsKept answer next k x
      each k x found =
          elim (cases_Bool (same_flow f k)) [
            | inl y ↦
                let same : f ≡ k = flow_is f k y in
                let is : b' ≡ x = some_is b' x (sym (look_write Flow Begun same_flow flow_self flow_is f b' c.flows) ∙ subst (λ (i : Flow). look same_flow i (write same_flow f b' c.flows) ≡ Some x) (sym same) found) in
                subst (λ (i : Flow). FlowIsKept answer next i x) same (subst (λ (y : Begun). FlowIsKept answer next f y) is kept)
            | inr o ↦
                let was : look same_flow k c.flows ≡ Some x = sym (look_write_other Flow Begun same_flow flow_self flow_is k f b' c.flows o) ∙ found in
                let h = flow_found answer c k x facts was in
                let apart = apart_from c.flows f k here.one_way (key_found (look same_flow k c.flows) x was) o side in
                flow_calm answer c next k x h read_keys (keys (reversed k) ∙ h.one_way) (still_calls c read_world next.flows k read_items) (read_apart k apart.0).steady (read_apart (reversed k) apart.1).steady
          ]

      pub read_course : CourseFacts answer next
      read_course =
          let distinct = distinct_write Flow Begun same_flow flow_self flow_is f b' c.flows facts.distinct in
          same_calls c read_world next.flows facts read_goes read_keys read_stays_gone read_items distinct keys
          (all_found Flow Begun same_flow flow_self flow_is (FlowIsKept answer next) next.flows distinct each)

  -- A PIECE IS READ
  less_zero : (n : ℕ) → (0 < n → ⊥) → n ≡ 0
  less_zero zero h = refl
  less_zero (suc n) h = absurd (h (omega arith))

  joins_at : (side : Side) (c : Calls) (f : Flow) (b : Begun) (p : Piece) (facts : CourseFacts answer c) (there : look same_flow f c.flows ≡ Some b) → piece_of (first_piece most_read (view c.world (flow_read side f)).unread) ≡ Some p
      → (h : FlowIsKept answer c f b) → Joins c.world (read_world side c f b facts there) (flow_read side f) (spans_at side c f b h) (carried_at side c) (begun_at side b) p
  joins_at Server c f b p facts there told h =
      joins c.world (read_world Server c f b facts there) f most_read p facts.world (read_gone Server c f b facts there) told (requests_on c f) (carried_at Server c) (to_lie c.world f (carried_at Server c) 0 (requests_on c f) h.requests) b.request h.requests_begun
  joins_at Client c f b p facts there told h =
      joins c.world (read_world Client c f b facts there) (reversed f) most_read p facts.world (read_gone Client c f b facts there) told h.replies (carried_at Client c) (to_lie c.world (reversed f) (carried_at Client c) 0 h.replies h.are_replies.lie) b.reply h.replies_begun

  abbrev pub after_piece : Side → Piece → Begun → Begun
  after_piece side p b = with_begun side (begun_with (begun_at side b) p) b

  -- the flow that is read
  flow_piece : (side : Side) (c : Calls) (f : Flow) (b : Begun) (p : Piece) (facts : CourseFacts answer c) (there : look same_flow f c.flows ≡ Some b) (h : FlowIsKept answer c f b)
      → Joins c.world (read_world side c f b facts there) (flow_read side f) (spans_at side c f b h) (carried_at side c) (begun_at side b) p
      → let b' = after_piece side p b in FlowIsKept answer (record { world = read_world side c f b facts there; calls = c.calls; flows = write same_flow f b' c.flows }) f b'
  flow_piece Server c f b p facts there h j =
      let b' = after_piece Server p b in
      let w' = read_world Server c f b facts there in
      let flows' = write same_flow f b' c.flows in
      let items = read_items Server c f b facts there in
      flow_still answer c (record { world = w'; calls = c.calls; flows = flows' }) f b b' h (read_keys Server c f b facts there) (key_same f (reversed f) b' c.flows (key_found (look same_flow f c.flows) b there) ∙ h.one_way)
      (still_calls c w' flows' f items) j.waits
      (begun_stays c.world w' (reversed f) h.replies h.replies b.reply (read_apart Server c f b facts there (reversed f) (not_own f h.two_ends)).steady (λ s k. k) h.replies_begun)
  flow_piece Client c f b p facts there h j =
      let b' = after_piece Client p b in
      let w' = read_world Client c f b facts there in
      let flows' = write same_flow f b' c.flows in
      let items = read_items Client c f b facts there in
      flow_still answer c (record { world = w'; calls = c.calls; flows = flows' }) f b b' h (read_keys Client c f b facts there) (key_same f (reversed f) b' c.flows (key_found (look same_flow f c.flows) b there) ∙ h.one_way)
      (still_calls c w' flows' f items)
      (begun_stays c.world w' f (requests_on c f) (requests_on c f) b.request (read_apart Client c f b facts there f (not_own_back f h.two_ends)).steady (λ s k. k) h.requests_begun)
      j.waits

  -- what is known of a call that is there
  pub kept_at : (c : Calls) (f : Flow) (n : ℕ) → CourseFacts answer c → is_call c f n ≡ true → CallIsKept c (call_at c n)
  kept_at c f n facts is = All-get_or (CallIsKept c) c.calls n _ (call_less c f n is) facts.calls

  comes_at : (side : Side) (c : Calls) (f : Flow) (b : Begun) (facts : CourseFacts answer c) (there : look same_flow f c.flows ≡ Some b) (h : FlowIsKept answer c f b) (flows : List (Flow × Begun)) (message : List ℕ)
      → IsWhole c.world (read_world side c f b facts there) (flow_read side f) (spans_at side c f b h) (carried_at side c) message → MessageComes answer side (record { world = read_world side c f b facts there; calls = c.calls; flows = flows }) f message
  comes_at Server c f b facts there h flows message whole =
      let w' = read_world Server c f b facts there in
      let n = whole.span.call in
      let r = All-contains (IsRequest c.calls f) (requests_on c f) whole.span (requests_are c.calls f) whole.there in
      let call = call_at c n in
      let kept = kept_at c f n facts r.call in
      let last : last_of call.request ≡ whole.span.place + whole.span.count - 1 = ap last_of r.request in
      let still = still_calls c w' flows f (read_items Server c f b facts there) in
      let same : payload_of w' call ≡ payload_of c.world call = payload_stays c (record { world = w'; calls = c.calls; flows = flows }) f [] n still.go (still.items ∙ sym (append-nil (items_taken c.world f))) r.call (request_within answer c f b n h r.call) in
      record {
        call = n;
        is_call = r.call;
        is = whole.is ∙ ap (message_of n) (sym same);
        unserved = less_zero call.served (λ some.
            let was : is_given (rows_gone c.world call.flow) (last_of call.request) ≡ true = kept.served_is_gone some in
            let there' : is_given (rows_gone c.world f) (whole.span.place + whole.span.count - 1) ≡ true = subst (λ (i : ℕ). is_given (rows_gone c.world f) i ≡ true) last (subst (λ (k : Flow). is_given (rows_gone c.world k) (last_of call.request) ≡ true) (flow_of_call c f n r.call) was) in
            let no : true ≡ false = sym there' ∙ whole.new in
            absurd cc);
        taken = λ none. (let no : Taken whole.span.place whole.span.count ≡ Refused = sym r.request ∙ none in absurd cc);
        gone = subst (λ (i : ℕ). is_given (rows_gone w' f) i ≡ true) (sym last) whole.gone;
      }
  comes_at Client c f b facts there h flows message whole =
      let w' = read_world Client c f b facts there in
      let n = whole.span.call in
      let r = All-contains (λ s. (is_call c f s.call ≡ true) × ((call_at c s.call).reply ≡ Some (Taken s.place s.count))) h.replies whole.span h.are_replies.of_calls whole.there in
      let call = call_at c n in
      let kept = kept_at c f n facts r.0 in
      let still = still_calls c w' flows f (read_items Client c f b facts there) in
      let same : payload_of w' call ≡ payload_of c.world call = payload_stays c (record { world = w'; calls = c.calls; flows = flows }) f [] n still.go (still.items ∙ sym (append-nil (items_taken c.world f))) r.0 (request_within answer c f b n h r.0) in
      record {
        call = n;
        is_call = r.0;
        is = whole.is ∙ ap (λ (o : List ℕ). message_of n (answer o)) (sym same);
        served = kept.replied (λ none. let no : Some (Taken whole.span.place whole.span.count) ≡ None = sym r.1 ∙ none in absurd cc);
      }

  pub piece_keeps : (side : Side) (c : Calls) (f : Flow) (b : Begun) (p : Piece) (facts : CourseFacts answer c) → look same_flow f c.flows ≡ Some b → piece_in (happens (Reads (flow_read side f) most_read) c.world).0 ≡ Some p
      → PieceKeeps answer side f b p (record { world = (happens (Reads (flow_read side f) most_read) c.world).1; calls = c.calls; flows = write same_flow f (after_piece side p b) c.flows })
  piece_keeps side c f b p facts there told =
      let h = flow_found answer c f b facts there in
      let j = joins_at side c f b p facts there (sym (read_told side c f b facts there) ∙ told) h in
      let b' = after_piece side p b in
      record {
        facts = read_course side c f b facts there b' (flow_piece side c f b p facts there h j);
        comes = λ message is. comes_at side c f b facts there h (write same_flow f b' c.flows) message (j.whole message is);
      }
