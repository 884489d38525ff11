-- What the rings keep, in numbers.
use Rattle.std.proofs.Common.{ℕ, ◌+◌, ◌≤◌, ◌<◌, ◌^◌, ◌≡◌, length, take, drop, Some, ◌∙◌, arith}
use Rattle.std.specs.List.{slice_get}
use Rattle.std.proofs.lemmas.List.{length-drop}
use Rattle.dt_units.specs.declared.parameters.Params.{Params}
use Rattle.dt_flow_model.specs.SendRecord.{held_of}
use Rattle.dt_send.specs.declared.sent_segments.SentSegment.{SentSegment}
use Rattle.dt_send.specs.declared.send_buffer.SendBuffer.{SendBuffer}
use Rattle.dt_send.specs.SentSegments.{segment_of, octets_in}
use Rattle.dt_send.specs.SendBuffer.{IsSendBuffer, record_of}
use Rattle.dt_send.proofs.SentSegmentLemmas.{fact-at, items_in-segments, next-segments, offset-at, segment-get, within-at}

module _ (p : Params) (k : SendBuffer) (r : IsSendBuffer p k) where
  -- how many octets are outstanding
  pub next_is : k.next ≡ k.left + octets_in k.outstanding_segments.items
  next_is = r.next ∙ next-segments k.left k.outstanding_segments.items k.items.items r.lie r.within.kept.chain

  pub waits : length (record_of k).waiting + octets_in k.outstanding_segments.items ≡ length k.items.items
  waits = let d = length-drop (octets_in k.outstanding_segments.items) k.items.items in let l = r.lie in omega arith

  pub held_is : held_of (record_of k) ≡ length k.items.items
  held_is = omega (arith, waits, items_in-segments k.outstanding_segments.items k.items.items r.lie)

  pub held_fits : length k.items.items ≤ p.cap
  held_fits = omega (arith, held_is, r.within.kept.held)

  -- offsets are below 2^62
  pub bounded : k.left + length k.items.items < 2 ^ 62
  bounded = omega (arith, r.within.counted, waits, next_is, r.next)

  pub edge_bounded : k.edge ≤ k.left + 65536
  edge_bounded = r.within.kept.edge

  -- a segment, by its place in the list of items
  pub found : (i : ℕ) (s : SentSegment) → slice_get k.outstanding_segments.items i ≡ Some s → slice_get (record_of k).outstanding i ≡ Some (segment_of s (drop (octets_in (take i k.outstanding_segments.items)) k.items.items))
  found i s h = segment-get k.outstanding_segments.items k.items.items i s h

  pub found_offset : (i : ℕ) (s : SentSegment) → slice_get k.outstanding_segments.items i ≡ Some s → s.offset ≡ k.left + octets_in (take i k.outstanding_segments.items)
  found_offset i s h = offset-at k.left k.outstanding_segments.items k.items.items i s r.lie r.within.kept.chain h

  pub found_within : (i : ℕ) (s : SentSegment) → slice_get k.outstanding_segments.items i ≡ Some s → octets_in (take i k.outstanding_segments.items) + s.length ≤ octets_in k.outstanding_segments.items
  found_within i s h = within-at k.outstanding_segments.items i s h

  pub found_timed : (i : ℕ) (s : SentSegment) → slice_get k.outstanding_segments.items i ≡ Some s → (s.first ≤ 2 ^ 62) × (s.last ≤ 2 ^ 62)
  found_timed i s h = fact-at (λ g. (g.first ≤ 2 ^ 62) × (g.last ≤ 2 ^ 62)) (record_of k).outstanding i (segment_of s (drop (octets_in (take i k.outstanding_segments.items)) k.items.items)) r.within.timed.segments (found i s h)
