-- What sending a cut, sending a segment again and a rendezvous do to the rings.
use Rattle.std.proofs.Common.{ℕ, suc, ◌+◌, ◌-◌, ◌≤◌, ◌<◌, ◌^◌, ◌≡◌, true, List, [], ◌∷◌, ◌++◌, length, take, drop, set, Option, Some, None, refl, sym, ap, ◌∙◌, subst, arith, length-append}
use Rattle.std.specs.Prelude.{if◌then◌else◌}
use Rattle.std.specs.List.{slice_get}
use Rattle.std.specs.Option.{option_map_or}
use Rattle.std.proofs.lemmas.List.{drop-drop}
use Rattle.circular_buffer.specs.Buffer.{buffer}
use Rattle.dt_items.specs.declared.item.Item.{Item}
use Rattle.dt_units.specs.declared.parameters.Params.{Params}
use Rattle.dt_units.specs.declared.endpoints.Flow.{Flow}
use Rattle.dt_flow_model.specs.declared.acts.Cut.{Cut}
use Rattle.dt_flow_model.specs.declared.acts.SendAct.TheVariants.{Resent, Sent}
use Rattle.dt_flow_model.specs.declared.acts.SendKind.TheVariants as kind
use Rattle.dt_flow_model.specs.Numbering.{is_crossing, number_of}
use Rattle.dt_flow_model.specs.SendRecord.{Segment, SendRecord, crossed_after, cut_of, cut_size, cut_told, leads, may_go, next_from, next_of, rest_of}
use Rattle.dt_flow_model.specs.SendActs.{Act, IsDue, record_after, resend, resending, send}
use Rattle.dt_flow_model.specs.Frames.{data_packet, forth}
use Rattle.dt_flow_model.specs.Keeping.{IsSegment}
use Rattle.dt_flow_model.proofs.Chains.{next_append}
use Rattle.dt_flow_model.proofs.Chosen.{act_is_due, cut_count, cut_within}
use Rattle.dt_flow_model.proofs.Records.{cut_segment}
use Rattle.dt_send.specs.declared.sent_segments.SentSegment.{SentSegment}
use Rattle.dt_send.specs.declared.send_buffer.SendBuffer.{SendBuffer}
use Rattle.dt_send.specs.SentSegments.{IsPlaceOf, segment_of, segments_of, octets_in}
use Rattle.dt_send.specs.SendBuffer.{Acts, IsSendBuffer, IsChosen, IsWithin, record_of}
use Rattle.dt_send.proofs.ActLemmas.{act_within, acts_by, resend_chosen, resends_chosen, sends_chosen}
use Rattle.dt_send.proofs.RingLemmas.{found, found_offset, found_within, next_is, waits}
use Rattle.dt_send.proofs.SentSegmentLemmas.{fact-at, octets_in-again, octets_in-append, segments-again, segments-append, segments-length, split_at}

-- A CUT
module _ (p : Params) (now : ℕ) (le : now ≤ 2 ^ 62) (k : SendBuffer) (r : IsSendBuffer p k) (c : IsChosen p now (record_of k) kind.Send) (n : ℕ) (is : n ≡ cut_size p (record_of k)) where
  cut_shape : (c.act ≡ send (cut_of p (record_of k)) (rest_of p (record_of k))) × (0 < length (cut_of p (record_of k))) × (length (record_of k).outstanding < 64)
  cut_shape = sends_chosen p now (record_of k) c

  sent_segment : SentSegment
  sent_segment = record { offset = k.next; length = n; first = now; last = now }

  -- what is sent of the cut is the cut
  pub cut_items : (from : ℕ) → from ≡ k.next - k.left → take n (drop from k.items.items) ≡ cut_of p (record_of k)
  cut_items from e =
      let here : from ≡ octets_in k.outstanding_segments.items = omega (arith, e, next_is p k r) in
      ap (λ (m : ℕ). take m (drop from k.items.items)) is ∙ ap (λ (m : ℕ). take (cut_size p (record_of k)) (drop m k.items.items)) here

  pub cut_fits : k.next + n ≤ k.left + length k.items.items
  cut_fits =
      let x = record_of k in
      let short : n ≤ length x.waiting = subst (λ (m : ℕ). m ≤ length x.waiting) (sym is) (cut_within (may_go p x) true x.waiting) in
      omega (arith, short, waits p k r, next_is p k r)

  pub cut_is_segment : (from : ℕ) → from ≡ k.next - k.left → IsSegment p (record { offset = k.next; items = take n (drop from k.items.items); first = now; last = now })
  cut_is_segment from e =
      let g = cut_segment p r.limits (record_of k) r.within.kept now (cut_of p (record_of k)) [] refl (cut_shape).1 in
      subst (λ (l : List Item). IsSegment p (record { offset = k.next; items = l; first = now; last = now })) (sym (cut_items from e)) (record { piece = g.piece; some = g.some; fits = g.fits })

  pub few : length k.outstanding_segments.items < k.outstanding_segments.capacity
  few = omega (arith, r.places, segments-length k.outstanding_segments.items k.items.items, (cut_shape).2)

  ss-after : List SentSegment
  ss-after = k.outstanding_segments.items ++ (record { offset = k.next; length = n; first = now; last = now }) ∷ []

  segments_after : segments_of (k.outstanding_segments.items ++ (record { offset = k.next; length = n; first = now; last = now }) ∷ []) k.items.items ≡ (record_of k).outstanding ++ (record { offset = next_of (record_of k); items = cut_of p (record_of k); first = now; last = now }) ∷ []
  segments_after =
      let ss = k.outstanding_segments.items in
      let here : octets_in ss ≡ k.next - k.left = omega (arith, next_is p k r) in
      segments-append ss ((record { offset = k.next; length = n; first = now; last = now }) ∷ []) k.items.items
      ∙ ap (λ (l : List Item). (record_of k).outstanding ++ (record { offset = k.next; items = l; first = now; last = now }) ∷ []) (cut_items (octets_in ss) here)
      ∙ ap (λ (m : ℕ). (record_of k).outstanding ++ (record { offset = m; items = cut_of p (record_of k); first = now; last = now }) ∷ []) r.next

  octets_after : octets_in (k.outstanding_segments.items ++ (record { offset = k.next; length = n; first = now; last = now }) ∷ []) ≡ octets_in k.outstanding_segments.items + n
  octets_after = omega (arith, octets_in-append k.outstanding_segments.items ((record { offset = k.next; length = n; first = now; last = now }) ∷ []))

  waiting_after : drop (octets_in (k.outstanding_segments.items ++ (record { offset = k.next; length = n; first = now; last = now }) ∷ [])) k.items.items ≡ rest_of p (record_of k)
  waiting_after =
      ap (λ (m : ℕ). drop m k.items.items) octets_after
      ∙ sym (drop-drop n (octets_in k.outstanding_segments.items) k.items.items)
      ∙ ap (λ (m : ℕ). drop m (drop (octets_in k.outstanding_segments.items) k.items.items)) is

  sent_record : SendRecord
  sent_record =
      record (record_of k) {
        touched = now;
        crossed = crossed_after p now (record_of k);
        outstanding = (record_of k).outstanding ++ (record { offset = next_of (record_of k); items = cut_of p (record_of k); first = now; last = now }) ∷ [];
        waiting = rest_of p (record_of k);
      }

  pub sent_is : record_of (record k {
    touched = now;
    crossed = (if is_crossing p k.next then Some now else k.crossed);
    next = k.next + n;
    outstanding_segments = buffer (k.outstanding_segments.items ++ (record { offset = k.next; length = n; first = now; last = now }) ∷ []) k.outstanding_segments.capacity;
  }) ≡ record (record_of k) {
    touched = now;
    crossed = crossed_after p now (record_of k);
    outstanding = (record_of k).outstanding ++ (record { offset = next_of (record_of k); items = cut_of p (record_of k); first = now; last = now }) ∷ [];
    waiting = rest_of p (record_of k);
  }
  sent_is =
      let x = record_of k in
      let ss = k.outstanding_segments.items ++ (record { offset = k.next; length = n; first = now; last = now }) ∷ [] in
      ap (λ (m : ℕ). record x { touched = now; crossed = (if is_crossing p m then Some now else k.crossed); outstanding = segments_of ss k.items.items; waiting = drop (octets_in ss) k.items.items }) r.next
      ∙ ap (λ (l : List Segment). record x { touched = now; crossed = crossed_after p now x; outstanding = l; waiting = drop (octets_in ss) k.items.items }) segments_after
      ∙ ap (λ (l : List Item). record x { touched = now; crossed = crossed_after p now x; outstanding = x.outstanding ++ (record { offset = next_of x; items = cut_of p x; first = now; last = now }) ∷ []; waiting = l }) waiting_after

  after_send : record_after p now (record_of k) c.act ≡ Some (record (record_of k) {
    touched = now;
    crossed = crossed_after p now (record_of k);
    outstanding = (record_of k).outstanding ++ (record { offset = next_of (record_of k); items = cut_of p (record_of k); first = now; last = now }) ∷ [];
    waiting = rest_of p (record_of k);
  })
  after_send = rw (cut_shape).0 refl

  next_after : next_of (record (record_of k) {
    touched = now;
    crossed = crossed_after p now (record_of k);
    outstanding = (record_of k).outstanding ++ (record { offset = next_of (record_of k); items = cut_of p (record_of k); first = now; last = now }) ∷ [];
    waiting = rest_of p (record_of k);
  }) ≡ k.next + n
  next_after =
      let x = record_of k in
      let count : length (cut_of p x) ≡ n = cut_count p x ∙ sym is in
      next_append x.left x.outstanding ((record { offset = next_of x; items = cut_of p x; first = now; last = now }) ∷ []) ∙ omega (arith, count, r.next)

  pub sent_rings : IsSendBuffer p (record k {
    touched = now;
    crossed = (if is_crossing p k.next then Some now else k.crossed);
    next = k.next + n;
    outstanding_segments = buffer (k.outstanding_segments.items ++ (record { offset = k.next; length = n; first = now; last = now }) ∷ []) k.outstanding_segments.capacity;
  })
  sent_rings = record {
    limits = r.limits;
    within = subst (λ (x : SendRecord). IsWithin p x) (sym sent_is) (act_within p now (record_of k) c.act _ r.limits le r.within c.chosen after_send);
    lie = omega (arith, octets_after, cut_fits, next_is p k r);
    next = sym next_after ∙ ap next_of (sym sent_is);
    room = r.room;
    places = r.places;
  }

  pub sent_acts : (f : Flow) (cut : Cut) (items : List Item) (was frame : List ℕ) → items ≡ cut_of p (record_of k) → cut ≡ cut_told p (record_of k) k.next items → frame ≡ forth p f (data_packet f (number_of p k.next) (leads (record_of k) k.next) items) → Acts p f now (record_of k) (Sent cut) (record_of (record k {
    touched = now;
    crossed = (if is_crossing p k.next then Some now else k.crossed);
    next = k.next + n;
    outstanding_segments = buffer (k.outstanding_segments.items ++ (record { offset = k.next; length = n; first = now; last = now }) ∷ []) k.outstanding_segments.capacity;
  })) was frame
  sent_acts f cut items was frame e told wrote =
      let x = record_of k in
      acts_by p f now x c.act (Sent cut) _ was frame c.chosen
      (rw ((cut_shape).0) (ap Sent (told ∙ ap (λ (l : List Item). cut_told p x k.next l) e ∙ ap (λ (m : ℕ). cut_told p x m (cut_of p x)) r.next)))
      (rw ((cut_shape).0) (wrote ∙ ap (λ (l : List Item). forth p f (data_packet f (number_of p k.next) (leads x k.next) l)) e ∙ ap (λ (m : ℕ). forth p f (data_packet f (number_of p m) (leads x m) (cut_of p x))) r.next))
      (sent_is ∙ rw ((cut_shape).0) refl)

-- AGAIN
-- the places of a list's parts
take_front : {X : Type 0} (before : List X) (x : X) (after : List X) → take (length before) (before ++ x ∷ after) ≡ before
take_front [] x after = refl
take_front (b ∷ before) x after = ap (λ l. b ∷ l) (take_front before x after)

get_front : {X : Type 0} (before : List X) (x : X) (after : List X) → slice_get (before ++ x ∷ after) (length before) ≡ Some x
get_front [] x after = refl
get_front (b ∷ before) x after = get_front before x after

drop_front : {X : Type 0} (before : List X) (x : X) (after : List X) → drop (length before + 1) (before ++ x ∷ after) ≡ after
drop_front [] x after = refl
drop_front (b ∷ before) x after = let e : suc (length before) + 1 ≡ suc (length before + 1) = omega arith in rw e (drop_front before x after)

parts_at : (gs before : List Segment) (g : Segment) (after : List Segment) (place : ℕ) → gs ≡ before ++ g ∷ after → place ≡ length before → (take place gs ≡ before) × (slice_get gs place ≡ Some g) × (drop (place + 1) gs ≡ after)
parts_at gs before g after place e q = rw (e, q) (take_front before g after, get_front before g after, drop_front before g after)

pub no_place : (p : Params) (now : ℕ) (x : SendRecord) → IsChosen p now x kind.Resend → IsPlaceOf 0 (resending p now x.outstanding) None → ⊥
no_place p now x c h =
    let w = resends_chosen p now x c in
    let e : resending p now x.outstanding ≡ Some (resend w.0 w.1 w.2) = resend_chosen p now x c ∙ ap (λ (a : Act). Some a) w.3 in
    let f : IsPlaceOf 0 (Some (resend w.0 w.1 w.2)) None = subst (λ o. IsPlaceOf 0 o None) e h in
    absurd cc

module _ (p : Params) (now : ℕ) (le : now ≤ 2 ^ 62) (k : SendBuffer) (r : IsSendBuffer p k) (c : IsChosen p now (record_of k) kind.Resend) (place last : ℕ) (at : IsPlaceOf 0 (resending p now (record_of k).outstanding) (Some (place, last))) where
  w : (before : List Segment) × (g : Segment) × (after : List Segment) × (c.act ≡ resend before g after) × ((record_of k).outstanding ≡ before ++ g ∷ after)
  w = resends_chosen p now (record_of k) c

  place_is : place ≡ length (w).0
  place_is =
      let e : resending p now (record_of k).outstanding ≡ Some (resend (w).0 (w).1 (w).2) = resend_chosen p now (record_of k) c ∙ ap (λ (a : Act). Some a) (w).3 in
      let f : Some (place, last) ≡ Some (0 + length (w).0, (w).1.last) = subst (λ o. IsPlaceOf 0 o (Some (place, last))) e at in
      ap (λ (o : Option (ℕ × ℕ)). option_map_or (λ (q : ℕ × ℕ). q.0) o 0) f ∙ omega arith

  pub place_there : place < length k.outstanding_segments.items
  place_there =
      let n : length (record_of k).outstanding ≡ length (w).0 + suc (length (w).2) = ap (λ (l : List Segment). length l) (w).4 ∙ length-append (w).0 ((w).1 ∷ (w).2) in
      omega (arith, place_is, segments-length k.outstanding_segments.items k.items.items, n)

  module _ (s : SentSegment) (is : slice_get k.outstanding_segments.items place ≡ Some s) where
    -- the segment at the place
    g-at : Segment
    g-at = segment_of s (drop (octets_in (take place k.outstanding_segments.items)) k.items.items)

    chosen_is : c.act ≡ resend (take place (record_of k).outstanding) (segment_of s (drop (octets_in (take place k.outstanding_segments.items)) k.items.items)) (drop (place + 1) (record_of k).outstanding)
    chosen_is =
        let gs = (record_of k).outstanding in
        let g : Segment = segment_of s (drop (octets_in (take place k.outstanding_segments.items)) k.items.items) in
        let parts = parts_at gs (w).0 (w).1 (w).2 place (w).4 place_is in
        let here : Some g ≡ Some (w).1 = sym (found p k r place s is) ∙ parts.1 in
        let same : g ≡ (w).1 = cc in
        (w).3
        ∙ ap (λ (b : List Segment). resend b (w).1 (w).2) (sym parts.0)
        ∙ ap (λ (h : Segment). resend (take place gs) h (w).2) (sym same)
        ∙ ap (λ (a : List Segment). resend (take place gs) g a) (sym parts.2)

    -- it goes out again after its last transmission, and at most a day after its first
    pub again_late : (s.last ≤ now) × (now < s.first + 2 ^ 32)
    again_late =
        let due = subst (λ (act : Act). IsDue p now (record_of k) act) chosen_is (act_is_due p now (record_of k) c.act c.chosen) in
        (omega (arith, due.1), omega (arith, due.2, r.limits.r))

    again_offset : s.offset ≡ k.left + octets_in (take place k.outstanding_segments.items)
    again_offset = found_offset p k r place s is

    again_items : (from : ℕ) → from ≡ s.offset - k.left → drop from k.items.items ≡ drop (octets_in (take place k.outstanding_segments.items)) k.items.items
    again_items from e = let here : from ≡ octets_in (take place k.outstanding_segments.items) = omega (arith, e, again_offset) in ap (λ (m : ℕ). drop m k.items.items) here

    pub again_there : (k.left ≤ s.offset) × (s.offset + s.length ≤ k.left + length k.items.items)
    again_there = (omega (arith, again_offset), omega (arith, again_offset, found_within p k r place s is, r.lie))

    pub again_is_segment : (from : ℕ) → from ≡ s.offset - k.left → IsSegment p (segment_of s (drop from k.items.items))
    again_is_segment from e = subst (λ (l : List Item). IsSegment p (segment_of s l)) (sym (again_items from e)) (fact-at (IsSegment p) (record_of k).outstanding place (segment_of s (drop (octets_in (take place k.outstanding_segments.items)) k.items.items)) r.within.kept.segments (found p k r place s is))

    pub again_is : record_of (record k { touched = now; outstanding_segments = buffer (set k.outstanding_segments.items place (record s { last = now })) k.outstanding_segments.capacity }) ≡ record (record_of k) {
      touched = now;
      outstanding = take place (record_of k).outstanding ++ (record (segment_of s (drop (octets_in (take place k.outstanding_segments.items)) k.items.items)) { last = now }) ∷ drop (place + 1) (record_of k).outstanding;
    }
    again_is =
        let x = record_of k in
        let ss = set k.outstanding_segments.items place (record s { last = now }) in
        ap (λ (l : List Segment). record x { touched = now; outstanding = l; waiting = drop (octets_in ss) k.items.items }) (segments-again k.outstanding_segments.items k.items.items place s now is)
        ∙ ap (λ (m : ℕ). record x { touched = now; outstanding = take place x.outstanding ++ (record (segment_of s (drop (octets_in (take place k.outstanding_segments.items)) k.items.items)) { last = now }) ∷ drop (place + 1) x.outstanding; waiting = drop m k.items.items }) (octets_in-again k.outstanding_segments.items place s now is)

    after_again : record_after p now (record_of k) c.act ≡ Some (record (record_of k) {
      touched = now;
      outstanding = take place (record_of k).outstanding ++ (record (segment_of s (drop (octets_in (take place k.outstanding_segments.items)) k.items.items)) { last = now }) ∷ drop (place + 1) (record_of k).outstanding;
    })
    after_again = rw chosen_is refl

    next_again : next_of (record (record_of k) {
      touched = now;
      outstanding = take place (record_of k).outstanding ++ (record (segment_of s (drop (octets_in (take place k.outstanding_segments.items)) k.items.items)) { last = now }) ∷ drop (place + 1) (record_of k).outstanding;
    }) ≡ next_of (record_of k)
    next_again =
        let x = record_of k in
        let g : Segment = segment_of s (drop (octets_in (take place k.outstanding_segments.items)) k.items.items) in
        next_append x.left (take place x.outstanding) ((record g { last = now }) ∷ drop (place + 1) x.outstanding)
        ∙ sym (next_append x.left (take place x.outstanding) (g ∷ drop (place + 1) x.outstanding))
        ∙ ap (λ (l : List Segment). next_from x.left l) (sym (split_at x.outstanding place g (found p k r place s is)))

    pub again_rings : IsSendBuffer p (record k { touched = now; outstanding_segments = buffer (set k.outstanding_segments.items place (record s { last = now })) k.outstanding_segments.capacity })
    again_rings = record {
      limits = r.limits;
      within = subst (λ (x : SendRecord). IsWithin p x) (sym again_is) (act_within p now (record_of k) c.act _ r.limits le r.within c.chosen after_again);
      lie = omega (arith, r.lie, octets_in-again k.outstanding_segments.items place s now is);
      next = r.next ∙ sym next_again ∙ ap next_of (sym again_is);
      room = r.room;
      places = r.places;
    }

    pub again_acts : (f : Flow) (cut : Cut) (from : ℕ) (was frame : List ℕ) → from ≡ s.offset - k.left → cut ≡ cut_told p (record_of k) s.offset (take s.length (drop from k.items.items)) → frame ≡ forth p f (data_packet f (number_of p s.offset) (leads (record_of k) s.offset) (take s.length (drop from k.items.items))) → Acts p f now (record_of k) (Resent cut) (record_of (record k { touched = now; outstanding_segments = buffer (set k.outstanding_segments.items place (record s { last = now })) k.outstanding_segments.capacity })) was frame
    again_acts f cut from was frame e told wrote =
        let x = record_of k in
        acts_by p f now x c.act (Resent cut) _ was frame c.chosen
        (rw chosen_is (ap Resent (told ∙ ap (λ (l : List Item). cut_told p x s.offset (take s.length l)) (again_items from e))))
        (rw chosen_is (wrote ∙ ap (λ (l : List Item). forth p f (data_packet f (number_of p s.offset) (leads x s.offset) (take s.length l))) (again_items from e)))
        (again_is ∙ rw chosen_is refl)
