-- No sum of a record wraps in 64 bits, where counts of octets and moments are bounded.
use Rattle.std.proofs.Common.{ℕ, ◌+◌, ◌<◌, ◌≤◌, ◌^◌, List, [], ◌∷◌, Option, Some, None, arith, inl, inr}
use Rattle.std.specs.List.{All}
use Rattle.std.proofs.lemmas.Bool.{cases_Bool}
use Rattle.std.proofs.lemmas.List.Elements.{All-cons, All-head, All-nil, All-tail}
use Rattle.dt_units.specs.Limits.{IsWithinLimits}
use Rattle.dt_units.specs.Times.{give_time, receive_time, send_time, spacing_time}
use Rattle.dt_units.specs.declared.parameters.Params.{Params}
use Rattle.dt_flow_model.specs.Facts.{Chain}
use Rattle.dt_flow_model.specs.Keeping.{IsBy, IsRecvUpTo, IsSendRecord, IsUpTo, ReceiveRecordFits, RecordFits, SegmentFits, most_moment, octets_below, taken_by}
use Rattle.dt_flow_model.specs.Numbering.{is_crossing}
use Rattle.dt_flow_model.specs.ReceiveRecord.{ReceiveRecord}
use Rattle.dt_flow_model.specs.SendActs.{may_send_from, spaced_from}
use Rattle.dt_flow_model.specs.SendRecord.{Segment, SendRecord, end_of, next_from, next_of}
use Rattle.dt_flow_model.proofs.Chains.{chain_next}

module _ (p : Params) (limits : IsWithinLimits p) (now : ℕ) (by : now ≤ most_moment) where
  -- each time bound is at most nine days
  times_small : (give_time p < 2 ^ 30) × (send_time p < 2 ^ 30) × (receive_time p < 2 ^ 30) × (spacing_time p < 2 ^ 30)
  times_small = (omega (arith, limits.mpl, limits.r, limits.a), omega (arith, limits.mpl, limits.r, limits.a), omega (arith, limits.mpl, limits.r, limits.a), omega (arith, limits.mpl, limits.r, limits.a))

  -- segments that end at an offset
  segments_fit : (offset : ℕ) (gs : List Segment) → Chain offset gs → next_from offset gs < octets_below → All (λ g. (g.first ≤ g.last) × (g.last ≤ now)) gs → All (SegmentFits p) gs
  segments_fit offset [] chain end all = All-nil (SegmentFits p)
  segments_fit offset (g ∷ gs) chain end all =
      let own = All-head (λ h. (h.first ≤ h.last) × (h.last ≤ now)) g gs all in
      let rest = chain_next (end_of g) gs chain.2 in
      All-cons (SegmentFits p) g gs
      (record {
        ends = omega (arith, rest, end);
        resent_until = omega (arith, own.0, own.1, by, limits.r);
        resent_from = omega (arith, own.1, by, limits.rto);
        given_up = omega (arith, own.0, own.1, by, times_small.0);
      })
      (segments_fit (end_of g) gs chain.2 end (All-tail (λ h. (h.first ≤ h.last) × (h.last ≤ now)) g gs all))

  spaced_fits : (crossed : Option ℕ) → IsBy now crossed → spaced_from p crossed < 2 ^ 63
  spaced_fits None h = omega arith
  spaced_fits (Some m) h = omega (arith, h, by, times_small.3)

  sends_fits : (x : SendRecord) → IsBy now x.crossed → may_send_from p x < 2 ^ 63
  sends_fits x h = elim (cases_Bool (is_crossing p (next_of x))) [ inl y ↦ rw y (spaced_fits x.crossed h) | inr n ↦ rw n (omega arith) ]

  pub record_fits : (x : SendRecord) → IsSendRecord p x → IsUpTo now x → taken_by x < octets_below → RecordFits p x
  record_fits x kept up end =
      let next = chain_next x.left x.outstanding kept.chain in
      record {
        left = omega (arith, next, end);
        next = omega (arith, end);
        edge = omega (arith, kept.edge, next, end);
        released = omega (arith, up.touched, by, times_small.1);
        meets = omega (arith, up.touched, by, limits.probe);
        sends = sends_fits x up.crossed;
        segments = segments_fit x.left x.outstanding kept.chain (omega (arith, end)) up.segments;
      }

  owed_fits : (due : Option ℕ) → IsBy (now + p.a) due → IsBy (2 ^ 63) due
  owed_fits None h = tt
  owed_fits (Some m) h = omega (arith, h, by, limits.a)

  pub receive_record_fits : (y : ReceiveRecord) → IsRecvUpTo p now y → ReceiveRecordFits p y
  receive_record_fits y up = record { released = omega (arith, up.touched, by, times_small.2); owed = owed_fits y.due up.due }
