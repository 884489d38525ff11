-- A visitor that collects: the frames that leave, the reports, and the answer to the call. It may fail for want of memory, and then it collects nothing more.
use Rattle.std.specs.Prelude.{ℕ, ◌≡◌, Bool, true, false, List, [], ◌∷◌, ◌++◌, take, Result, Ok, Err}
use Rattle.dt_reports.specs.Told.{Told}
use Rattle.dt_world_model.specs.Host.{Host}
use Rattle.dt_world_model.specs.Relay.{Parcel}
use Rattle.dt_world_model.specs.Script.{Script}
use Rattle.dt_endpoint.specs.declared.heard_answers.HeardAnswer.{HeardAnswer}
use Rattle.dt_endpoint.specs.declared.heard_answers.HeardAnswer.TheVariants as heard
use Rattle.dt_endpoint.specs.Acts.{Hands, OutFrameValue, Tells, acts_of, answer_of, frames_in, out_frame, reports_in}
use Rattle.dt_endpoint.specs.Counts.{Counted, counts_act, counts_acts}
use Rattle.dt_endpoint.specs.Hearing.{heard_in, hears, kept, piece_after, piece_in}

pub record Collected : Type 0 where
  pub frames : List OutFrameValue
  pub reports : List Told
  -- what was answered to the call that is under way
  pub heard : HeardAnswer
  pub piece : List ℕ
  pub counts : Counted
  pub failed : Bool

-- a report is made, and a frame handed out
abbrev pub with_told : Told → Collected → Collected
with_told told s = record { frames = s.frames; reports = s.reports ++ kept told ∷ []; heard = hears told s.heard; piece = piece_after told s.piece; counts = counts_act (Tells told) s.counts; failed = s.failed }

abbrev pub with_handed : ℕ → Parcel (Unit {0}) → Collected → Collected
with_handed link parcel s = record { frames = s.frames ++ out_frame link parcel.octets ∷ []; reports = s.reports; heard = s.heard; piece = s.piece; counts = counts_act (Hands link parcel.octets) s.counts; failed = s.failed }

-- a call begins
abbrev pub begun : Collected → Collected
begun s = record { frames = s.frames; reports = s.reports; heard = heard.Nothing; piece = []; counts = s.counts; failed = s.failed }

-- nothing was collected
pub record Same (s t : Collected) : Type 0 where
  pub frames : t.frames ≡ s.frames
  pub reports : t.reports ≡ s.reports
  pub counts : t.counts ≡ s.counts

-- AS A VISITOR
pub record CollectTells (s : Collected) (told : Told) (t : Collected) : Type 0 where
  pub done : t.failed ≡ false → t ≡ with_told told s
  pub not : t.failed ≡ true → Same s t

abbrev pub CollectTags : Collected → Host → List ℕ → Unit {0} → Collected → Type 0
CollectTags s host octets tag t = t ≡ s

pub record CollectHands (s : Collected) (link : ℕ) (parcel : Parcel (Unit {0})) (t : Collected) : Type 0 where
  pub fine : s.failed ≡ false
  pub done : t ≡ with_handed link parcel s

abbrev pub CollectFails : Collected → Collected → Type 0
CollectFails s t = Same s t

-- ALL OF A SCRIPT IS COLLECTED
abbrev pub collected : {A : Type 0} → Script (Unit {0}) A → Collected → Collected
collected script s = record {
  frames = s.frames ++ frames_in (acts_of script);
  reports = s.reports ++ reports_in (acts_of script);
  heard = heard_in script s.heard;
  piece = piece_in script s.piece;
  counts = counts_acts (acts_of script) s.counts;
  failed = s.failed;
}

-- or a first part of it
pub record CollectsPart {A : Type 0} (script : Script (Unit {0}) A) (s t : Collected) : Type 0 where
  pub count : ℕ
  pub frames : t.frames ≡ s.frames ++ frames_in (take count (acts_of script))
  pub reports : t.reports ≡ s.reports ++ reports_in (take count (acts_of script))
  pub counts : t.counts ≡ counts_acts (take count (acts_of script)) s.counts

abbrev pub CollectEnds : {A U E : Type 0} → Result U E → Script (Unit {0}) A → Collected → Collected → A → Type 0
CollectEnds (Ok done) script s t answer = (t ≡ collected script s) × (answer_of script ≡ answer)
CollectEnds (Err fault) script s t answer = CollectsPart script s t
