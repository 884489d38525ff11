-- What the steps of the rings mean: the steps of the record.
use Rattle.std.proofs.Common.{ℕ, ◌+◌, ◌-◌, ◌≤◌, ◌<◌, ◌^◌, ◌≡◌, Bool, false, List, [], ◌∷◌, ◌++◌, length, take, drop, get_or, Some, None, refl, sym, ap, ◌∙◌, subst, inl, inr, arith, length-append}
use Rattle.std.specs.Prelude.{unwrap_or}
use Rattle.std.specs.List.{All, slice_get}
use Rattle.std.proofs.lemmas.List.{drop-append-le, length-drop, length-take-le, take-append-drop}
use Rattle.std.proofs.lemmas.Option.{slice_get-get_or}
use Rattle.std.proofs.lemmas.List.Elements.{All-nil, All-cons}
use Rattle.circular_buffer.specs.Buffer.{Buffer, buffer}
use Rattle.dt_items.specs.declared.item.Item.{Item}
use Rattle.dt_items.specs.Unread.{marked}
use Rattle.dt_units.specs.declared.parameters.Params.{Params}
use Rattle.dt_units.specs.declared.endpoints.Flow.{Flow}
use Rattle.dt_flow_model.specs.declared.acts.SendAct.TheVariants.{GaveUp, Released, Renewed}
use Rattle.dt_flow_model.specs.declared.acts.SendKind.TheVariants as kind
use Rattle.dt_flow_model.specs.Facts.{Chain}
use Rattle.dt_flow_model.specs.SendRecord.{Segment, SendRecord, held_of, items_in, new_record, next_from, next_of, put, record_acked}
use Rattle.dt_flow_model.specs.SendActs.{give_up, record_after, renew}
use Rattle.dt_flow_model.specs.Keeping.{HasNoRun, taken_by}
use Rattle.dt_flow_model.proofs.Chains.{all_drop, chain_front, next_append}
use Rattle.dt_flow_model.proofs.Records.{acked_counts, acked_kept, put_counts, put_kept}
use Rattle.dt_send.specs.declared.sent_segments.SentSegment.{SentSegment}
use Rattle.dt_send.specs.declared.send_buffer.SendBuffer.{SendBuffer}
use Rattle.dt_send.specs.SentSegments.{segment_of, segments_of, octets_in}
use Rattle.dt_send.specs.SendBuffer.{Acts, IsSendBuffer, IsChosen, IsEndAt, IsWithin, record_of}
use Rattle.dt_send.proofs.SentSegmentLemmas.{items_in-segments, next-segments, no_segments, octets-take-more, octets_in-parts, segments-drop, segments-length, segments-more, segments-take, waiting-drop, drop_at}
use Rattle.dt_send.proofs.RingLemmas.{found, found_offset, waits}
use Rattle.dt_send.proofs.ActLemmas.{act_within, acts_by, gives_up_chosen, releases_chosen}

-- PUTTING
pub marked_plain : (octets : List ℕ) (begin end : Bool) → All HasNoRun (marked octets begin end false)
marked_plain [] begin end = All-nil HasNoRun
marked_plain (x ∷ []) begin end = All-cons HasNoRun _ [] refl (All-nil HasNoRun)
marked_plain (x ∷ y ∷ rest) begin end = All-cons HasNoRun _ (marked (y ∷ rest) false end false) refl (marked_plain (y ∷ rest) false end)

pub put_within : (p : Params) (x : SendRecord) (items : List Item) → IsWithin p x → All HasNoRun items → held_of x + length items ≤ p.cap → taken_by x + length items < 2 ^ 62 → IsWithin p (put items x)
put_within p x items h plain fits counted = record {
  kept = put_kept p x items h.kept plain fits;
  counted = omega (arith, counted, put_counts x items);
  timed = record { touched = h.timed.touched; crossed = h.timed.crossed; segments = h.timed.segments };
}

module _ (p : Params) (k : SendBuffer) (r : IsSendBuffer p k) (added : List Item) (ring : Buffer Item) (e : ring ≡ buffer (k.items.items ++ added) k.items.capacity) where
  pub put_is : record_of (record k { items = ring }) ≡ put added (record_of k)
  put_is =
      let ss = k.outstanding_segments.items in
      let is : ring.items ≡ k.items.items ++ added = ap (λ (b : Buffer Item). b.items) e in
      let x = record_of k in
      let gs : segments_of ss ring.items ≡ segments_of ss k.items.items = ap (λ l. segments_of ss l) is ∙ segments-more ss k.items.items added r.lie in
      let ws : drop (octets_in ss) ring.items ≡ drop (octets_in ss) k.items.items ++ added = ap (λ l. drop (octets_in ss) l) is ∙ drop-append-le (octets_in ss) k.items.items added r.lie in
      ap (λ (l : List Segment). record x { outstanding = l; waiting = drop (octets_in ss) ring.items }) gs ∙ ap (λ (l : List Item). record x { waiting = l }) ws

  pub put_rings : All HasNoRun added → held_of (record_of k) + length added ≤ p.cap → taken_by (record_of k) + length added < 2 ^ 62 → IsSendBuffer p (record k { items = ring })
  put_rings plain fits counted = record {
    limits = r.limits;
    within = subst (λ (x : SendRecord). IsWithin p x) (sym put_is) (put_within p (record_of k) added r.within plain fits counted);
    lie = let n = ap (λ (b : Buffer Item). length b.items) e in omega (arith, r.lie, n, length-append k.items.items added);
    next = r.next ∙ ap next_of (sym put_is);
    room = ap (λ (b : Buffer Item). b.capacity) e ∙ r.room;
    places = r.places;
  }

-- THE FIRST SEGMENTS GO
module _ (p : Params) (k : SendBuffer) (r : IsSendBuffer p k) (n end : ℕ) (h : IsEndAt k n end) where
  gone_is : end - k.left ≡ octets_in (take n k.outstanding_segments.items)
  gone_is = omega (arith, h.end_is)

  rest_of_rings : SendBuffer
  rest_of_rings =
      record k {
        left = end;
        outstanding_segments = buffer (drop n k.outstanding_segments.items) k.outstanding_segments.capacity;
        items = buffer (drop (end - k.left) k.items.items) k.items.capacity;
      }

  pub dropped_is : record_of (record k {
    left = end;
    outstanding_segments = buffer (drop n k.outstanding_segments.items) k.outstanding_segments.capacity;
    items = buffer (drop (end - k.left) k.items.items) k.items.capacity;
  }) ≡ record (record_of k) { left = end; outstanding = drop n (record_of k).outstanding }
  dropped_is =
      let ss = k.outstanding_segments.items in
      let is = k.items.items in
      let x = record_of k in
      ap (λ (m : ℕ). record x { left = end; outstanding = segments_of (drop n ss) (drop m is); waiting = drop (octets_in (drop n ss)) (drop m is) }) gone_is
      ∙ ap (λ (l : List Segment). record x { left = end; outstanding = l; waiting = drop (octets_in (drop n ss)) (drop (octets_in (take n ss)) is) }) (segments-drop ss is n)
      ∙ ap (λ (l : List Item). record x { left = end; outstanding = drop n x.outstanding; waiting = l }) (waiting-drop ss is n)

  -- the end of the first segments
  lie_front : octets_in (take n k.outstanding_segments.items) ≤ length k.items.items
  lie_front = omega (arith, r.lie, octets_in-parts k.outstanding_segments.items n)

  pub front_ends : next_from k.left (take n (record_of k).outstanding) ≡ end
  front_ends =
      let ss = take n k.outstanding_segments.items in
      let same = segments-take k.outstanding_segments.items k.items.items n in
      let whole = take-append-drop n (record_of k).outstanding in
      let chain : Chain k.left (take n (record_of k).outstanding) = chain_front k.left (take n (record_of k).outstanding) (drop n (record_of k).outstanding) (subst (λ (gs : List Segment). Chain k.left gs) (sym whole) r.within.kept.chain) in
      let short : Chain k.left (segments_of ss k.items.items) = subst (λ (gs : List Segment). Chain k.left gs) (sym same) chain in
      ap (λ (gs : List Segment). next_from k.left gs) (sym same) ∙ next-segments k.left ss k.items.items lie_front short ∙ sym h.end_is

  pub front_count : items_in (take n (record_of k).outstanding) ≡ end - k.left
  front_count = ap items_in (sym (segments-take k.outstanding_segments.items k.items.items n)) ∙ items_in-segments (take n k.outstanding_segments.items) k.items.items lie_front ∙ sym gone_is

  next_stays : next_from end (drop n (record_of k).outstanding) ≡ next_of (record_of k)
  next_stays =
      ap (λ m. next_from m (drop n (record_of k).outstanding)) (sym front_ends)
      ∙ sym (next_append k.left (take n (record_of k).outstanding) (drop n (record_of k).outstanding))
      ∙ ap (λ (gs : List Segment). next_from k.left gs) (take-append-drop n (record_of k).outstanding)

  -- the rings are rings again, with another edge of the window
  pub dropped_rings : (edge : ℕ) → IsWithin p (record (record_of k) { left = end; edge = edge; outstanding = drop n (record_of k).outstanding }) → IsSendBuffer p (record k {
    left = end;
    edge = edge;
    outstanding_segments = buffer (drop n k.outstanding_segments.items) k.outstanding_segments.capacity;
    items = buffer (drop (end - k.left) k.items.items) k.items.capacity;
  })
  dropped_rings edge w =
      let same = ap (λ (x : SendRecord). record x { edge = edge }) dropped_is in
      record {
        limits = r.limits;
        within = subst (λ (x : SendRecord). IsWithin p x) (sym same) w;
        lie = omega (arith, r.lie, octets_in-parts k.outstanding_segments.items n, length-drop (end - k.left) k.items.items, gone_is);
        next = r.next ∙ sym next_stays ∙ ap next_of (sym same);
        room = r.room;
        places = r.places;
      }

  -- an acknowledgement of them
  acked_within : (w : ℕ) → w ≤ 65536 → IsWithin p (record (record_of k) { left = end; edge = end + w; outstanding = drop n (record_of k).outstanding })
  acked_within w le =
      let x = record_of k in
      let whole = sym (take-append-drop n x.outstanding) in
      let t : IsWithin p (record_acked x (take n x.outstanding) (drop n x.outstanding) w) = record {
        kept = acked_kept p x (take n x.outstanding) (drop n x.outstanding) w r.within.kept whole le;
        counted = omega (arith, r.within.counted, acked_counts x (take n x.outstanding) (drop n x.outstanding) w whole);
        timed = record { touched = r.within.timed.touched; crossed = r.within.timed.crossed; segments = all_drop (λ g. (g.first ≤ 2 ^ 62) × (g.last ≤ 2 ^ 62)) n x.outstanding r.within.timed.segments };
      } in
      subst (λ (m : ℕ). IsWithin p (record x { left = m; edge = m + w; outstanding = drop n x.outstanding })) front_ends t

  pub acked_rings : (w : ℕ) → w ≤ 65536 → IsSendBuffer p (record k {
    left = end;
    edge = end + w;
    outstanding_segments = buffer (drop n k.outstanding_segments.items) k.outstanding_segments.capacity;
    items = buffer (drop (end - k.left) k.items.items) k.items.capacity;
  })
  acked_rings w le = dropped_rings (end + w) (acked_within w le)

  pub acked_is : (w : ℕ) → record_acked (record_of k) (take n (record_of k).outstanding) (drop n (record_of k).outstanding) w ≡ record_of (record k {
    left = end;
    edge = end + w;
    outstanding_segments = buffer (drop n k.outstanding_segments.items) k.outstanding_segments.capacity;
    items = buffer (drop (end - k.left) k.items.items) k.items.capacity;
  })
  acked_is w =
      let x = record_of k in
      ap (λ (m : ℕ). record x { left = m; edge = m + w; outstanding = drop n x.outstanding }) front_ends ∙ sym (ap (λ (y : SendRecord). record y { edge = end + w }) dropped_is)

-- RELEASE AND RENEWAL
pub released : (p : Params) (now : ℕ) (x : SendRecord) (c : IsChosen p now x kind.Release) → length x.waiting ≡ 0 → (f : Flow) (frame : List ℕ) → Acts p f now x Released x frame frame
released p now x c none f frame =
    elim (releases_chosen p now x c).1 [
      | inl a ↦ acts_by p f now x c.act Released x frame frame c.chosen (rw (a.0) refl) (rw (a.0) refl) (rw (a.0) refl)
      | inr a ↦ absurd (omega (arith, a.1))
    ]

pub renewed : (p : Params) (now : ℕ) (x : SendRecord) (c : IsChosen p now x kind.Release) → 0 < length x.waiting → (after : SendRecord) → after ≡ new_record p now x.waiting → (f : Flow) (frame : List ℕ) → Acts p f now x Renewed after frame frame
renewed p now x c some after e f frame =
    elim (releases_chosen p now x c).1 [
      | inl a ↦ absurd (omega (arith, ap (λ (l : List Item). length l) a.1))
      | inr a ↦ acts_by p f now x c.act Renewed after frame frame c.chosen (rw (a.0) refl) (rw (a.0) refl) (rw (a.0) e)
    ]

module _ (p : Params) (now : ℕ) (k : SendBuffer) (r : IsSendBuffer p k) (c : IsChosen p now (record_of k) kind.Release) where
  nothing_out : k.outstanding_segments.items ≡ []
  nothing_out = no_segments k.outstanding_segments.items k.items.items (releases_chosen p now (record_of k) c).0

  pub all_wait : length (record_of k).waiting ≡ length k.items.items
  all_wait = omega (arith, waits p k r, ap octets_in nothing_out)

  pub begins_anew : record_of (record k { left = 0; edge = p.window; touched = now; crossed = None; next = 0 }) ≡ new_record p now (record_of k).waiting
  begins_anew = ap (λ (gs : List Segment). record (new_record p now (record_of k).waiting) { outstanding = gs }) (releases_chosen p now (record_of k) c).0

  pub anew_rings : now ≤ 2 ^ 62 → 0 < length k.items.items → IsSendBuffer p (record k { left = 0; edge = p.window; touched = now; crossed = None; next = 0 })
  anew_rings le some =
      let x = record_of k in
      let act : c.act ≡ renew = elim (releases_chosen p now x c).1 [
        | inl a ↦ absurd (omega (arith, ap (λ (l : List Item). length l) a.1, all_wait))
        | inr a ↦ a.0
      ] in
      record {
        limits = r.limits;
        within = subst (λ (y : SendRecord). IsWithin p y) (sym begins_anew) (act_within p now x c.act (new_record p now x.waiting) r.limits le r.within c.chosen (rw act refl));
        lie = r.lie;
        next = ap next_of (sym begins_anew);
        room = r.room;
        places = r.places;
      }

-- GIVING UP
no_sent_segment : SentSegment
no_sent_segment = record { offset = 0; length = 0; first = 0; last = 0 }

module _ (p : Params) (now : ℕ) (le : now ≤ 2 ^ 62) (k : SendBuffer) (r : IsSendBuffer p k) (c : IsChosen p now (record_of k) kind.GiveUp) where
  pub some_out : 0 < length k.outstanding_segments.items
  some_out =
      let g = gives_up_chosen p now (record_of k) c in
      omega (arith, segments-length k.outstanding_segments.items k.items.items, ap (λ (gs : List Segment). length gs) g.3)

  -- the items of the leftmost segment
  pub leftmost_there : (s : SentSegment) × (slice_get k.outstanding_segments.items 0 ≡ Some s)
  leftmost_there = (get_or k.outstanding_segments.items 0 no_sent_segment, slice_get-get_or k.outstanding_segments.items 0 no_sent_segment some_out)

  module _ (s : SentSegment) (is : slice_get k.outstanding_segments.items 0 ≡ Some s) where
    pub first_ends : IsEndAt k 1 (s.offset + s.length)
    first_ends = record { there = omega (arith, some_out); end_is = let m = octets-take-more k.outstanding_segments.items 0 s is in omega (arith, found_offset p k r 0 s is) }

    -- the leftmost segment
    leftmost : (record_of k).outstanding ≡ segment_of s k.items.items ∷ drop 1 (record_of k).outstanding
    leftmost = drop_at (record_of k).outstanding 0 (segment_of s k.items.items) (found p k r 0 s is)

    given_up : c.act ≡ give_up (segment_of s k.items.items) (drop 1 (record_of k).outstanding)
    given_up =
        let g = gives_up_chosen p now (record_of k) c in
        let same : g.0 ∷ g.1 ≡ segment_of s k.items.items ∷ drop 1 (record_of k).outstanding = sym g.3 ∙ leftmost in
        let head : g.0 ≡ segment_of s k.items.items = cc in
        let tail : g.1 ≡ drop 1 (record_of k).outstanding = cc in
        g.2 ∙ ap (λ (h : Segment). give_up h g.1) head ∙ ap (λ (gs : List Segment). give_up (segment_of s k.items.items) gs) tail

    lies : length (take s.length k.items.items) ≡ s.length
    lies = length-take-le s.length k.items.items (let m = octets-take-more k.outstanding_segments.items 0 s is in let parts = octets_in-parts k.outstanding_segments.items 1 in omega (arith, r.lie))

    gives_after : record (record_of k) { left = s.offset + s.length; outstanding = drop 1 (record_of k).outstanding } ≡ unwrap_or (record_after p now (record_of k) c.act) (record_of k)
    gives_after = rw given_up (ap (λ (m : ℕ). record (record_of k) { left = s.offset + m; outstanding = drop 1 (record_of k).outstanding }) (sym lies))

    pub gives_rings : IsSendBuffer p (record k {
      left = s.offset + s.length;
      outstanding_segments = buffer (drop 1 k.outstanding_segments.items) k.outstanding_segments.capacity;
      items = buffer (drop (s.offset + s.length - k.left) k.items.items) k.items.capacity;
    })
    gives_rings =
        let x = record_of k in
        let e : record_after p now x c.act ≡ Some (record x { left = s.offset + s.length; outstanding = drop 1 x.outstanding }) = rw given_up (ap (λ (m : ℕ). Some (record x { left = s.offset + m; outstanding = drop 1 x.outstanding })) lies) in
        dropped_rings p k r 1 (s.offset + s.length) first_ends k.edge (act_within p now x c.act _ r.limits le r.within c.chosen e)

    pub gives_acts : (f : Flow) (frame : List ℕ) → Acts p f now (record_of k) (GaveUp s.length) (record_of (record k {
      left = s.offset + s.length;
      outstanding_segments = buffer (drop 1 k.outstanding_segments.items) k.outstanding_segments.capacity;
      items = buffer (drop (s.offset + s.length - k.left) k.items.items) k.items.capacity;
    })) frame frame
    gives_acts f frame =
        acts_by p f now (record_of k) c.act (GaveUp s.length) _ frame frame c.chosen (rw given_up (ap GaveUp (sym lies))) (rw given_up refl)
        (dropped_is p k r 1 (s.offset + s.length) first_ends ∙ gives_after)
