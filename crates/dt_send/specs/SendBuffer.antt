-- What a send record's two rings mean: the record of the model.
use Rattle.std.specs.Prelude.{ℕ, ◌+◌, ◌<◌, ◌≤◌, ◌≡◌, All, List, length, drop, take, Some, unwrap_or, IfSome}
use Rattle.dt_units.specs.declared.parameters.Params.{Params}
use Rattle.dt_units.specs.declared.endpoints.Flow.{Flow}
use Rattle.dt_units.specs.Limits.{IsWithinLimits}
use Rattle.dt_flow_model.specs.declared.acts.SendKind.{SendKind}
use Rattle.dt_flow_model.specs.declared.acts.SendAct.{SendAct}
use Rattle.dt_flow_model.specs.SendRecord.{SendRecord, next_of}
use Rattle.dt_flow_model.specs.SendActs.{Act, act_of, kind_of, most_segments, told_of, record_after}
use Rattle.dt_flow_model.specs.Frames.{frame_of_act}
use Rattle.dt_flow_model.specs.Keeping.{IsBy, IsSendRecord, most_moment, octets_below, taken_by}
use Rattle.dt_send.specs.declared.send_buffer.SendBuffer.{SendBuffer}
use Rattle.dt_send.specs.SentSegments.{segments_of, octets_in}

-- the outstanding items stand first, segment by segment, and then the waiting ones
abbrev pub record_of : SendBuffer → SendRecord
record_of k =
    record {
      left = k.left;
      edge = k.edge;
      touched = k.touched;
      crossed = k.crossed;
      outstanding = segments_of k.outstanding_segments.items k.items.items;
      waiting = drop (octets_in k.outstanding_segments.items) k.items.items;
    }

-- each moment that a record notes is at most this one
pub record IsTimedBy (moment : ℕ) (x : SendRecord) : Type 0 where
  pub touched : x.touched ≤ moment
  pub crossed : IsBy moment x.crossed
  pub segments : All (λ g. (g.first ≤ moment) × (g.last ≤ moment)) x.outstanding

-- what the record keeps, so that its sums fit
pub record IsWithin (p : Params) (x : SendRecord) : Type 0 where
  pub kept : IsSendRecord p x
  -- fewer than 2^62 octets were taken since it began
  pub counted : taken_by x < octets_below
  pub timed : IsTimedBy most_moment x

-- what the rings keep
pub record IsSendBuffer (p : Params) (k : SendBuffer) : Type 0 where
  pub limits : IsWithinLimits p
  pub within : IsWithin p (record_of k)
  -- the outstanding segments lie within the items
  pub lie : octets_in k.outstanding_segments.items ≤ length k.items.items
  pub next : k.next ≡ next_of (record_of k)
  pub room : k.items.capacity ≡ p.cap
  pub places : k.outstanding_segments.capacity ≡ most_segments

-- the first so many segments end at an offset
pub record IsEndAt (k : SendBuffer) (segments end : ℕ) : Type 0 where
  pub there : segments ≤ length k.outstanding_segments.items
  pub end_is : end ≡ k.left + octets_in (take segments k.outstanding_segments.items)

-- The act that is chosen at now is of this kind.
pub record IsChosen (p : Params) (now : ℕ) (x : SendRecord) (kind : SendKind) : Type 0 where
  pub act : Act
  pub chosen : act_of p now x ≡ Some act
  pub of_kind : kind_of act ≡ kind

-- The act that is chosen at now was done: what is reported of it, the frame that it makes or else the one that was there, and the record after it or, where it was released, as it was.
pub record Acts (p : Params) (f : Flow) (now : ℕ) (x : SendRecord) (told : SendAct) (after : SendRecord) (was frame : List ℕ) : Type 0 where
  pub told_is : IfSome (act_of p now x) (λ act. told ≡ told_of p x act)
  pub frame_is : IfSome (act_of p now x) (λ act. frame ≡ unwrap_or (frame_of_act p f x act) was)
  pub after_is : IfSome (act_of p now x) (λ act. after ≡ unwrap_or (record_after p now x act) x)
