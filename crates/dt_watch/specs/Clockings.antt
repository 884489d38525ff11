-- What is known of the clocks of one opening of a peer, over its datagrams.
use Rattle.std.specs.Prelude.{◌≡◌, ℕ, ◌+◌, ◌-◌, ◌/◌, ◌||◌, Bool, true, false, not, max, min, nat_lt, if◌then◌else◌, Option, None}
use Rattle.dt_watch.specs.declared.clock_bounds.ClockBounds.{ClockBounds}
use Rattle.dt_watch.specs.declared.readings.Reading.{Reading}
use Rattle.dt_watch.specs.declared.interval.Interval.{Interval}
use Rattle.dt_watch.specs.declared.interval.Passage.{Passage}
use Rattle.dt_watch.specs.declared.lower.Lower.{Lower}
use Rattle.dt_watch.specs.declared.upper.Upper.{Upper}
use Rattle.dt_watch.specs.declared.clocks.Spans.{Spans}
use Rattle.dt_watch.specs.declared.clocks.Clocks.{Clocks}
use Rattle.dt_watch.specs.Intervals.{is_possible, lower_seen, upper_seen, widened}
use Rattle.dt_watch.specs.Lower.{kept_lower, lower_at, turned}
use Rattle.dt_watch.specs.Upper.{upper_at}

-- SPANS: 16 s, and at first as much as was over since the first datagram when they began, 0.25 s at least
abbrev pub span_of : ℕ → ℕ → ℕ
span_of since began = min (max (began - since) 250000) 16000000

abbrev pub is_over : ℕ → ℕ → ℕ → Bool
is_over since came span = nat_lt (since + span) came

-- AT FIRST nothing is known
pub record Begins (c : Clocks) (b : ClockBounds) (came : Reading) : Type 0 where
  pub heard : c.heard ≡ record { bounds = b; present = None; former = None }
  pub lower : c.interval.lower ≡ record { bounds = b; present = None; former = None }
  pub upper : c.interval.upper ≡ record { bounds = b; present = None; former = None }
  pub widths : max c.interval.widths.present c.interval.widths.former ≡ 0
  pub spans : c.spans ≡ record { since = came; last = came; heard = came; interval = came }

-- A SPAN ENDS where it is over, and AFTER A SILENCE everything is forgotten, but that an alarm rang
abbrev pub is_silent : Clocks → Reading → Bool
is_silent c came = is_over c.spans.last.micros came.micros 30000000

abbrev pub heard_over : Clocks → Reading → Bool
heard_over c came = is_over c.spans.heard.micros came.micros (span_of c.spans.since.micros c.spans.heard.micros / 2)

abbrev pub interval_over : Clocks → Reading → Bool
interval_over c came = is_over c.spans.interval.micros came.micros (span_of c.spans.since.micros c.spans.interval.micros)

abbrev pub lower_turned : Bool → Lower → Lower
lower_turned true l = record l { present = None; former = turned l.present l.former }
lower_turned false l = l

abbrev pub upper_turned : Bool → Upper → Upper
upper_turned true u = record u { present = None; former = turned u.present u.former }
upper_turned false u = u

abbrev pub at_end : Bool → Reading → Reading → Reading
at_end true came since = came
at_end false came since = since

abbrev pub spans_turned : (heard interval : Bool) → Reading → Spans → Spans
spans_turned heard interval came s = record s { heard = at_end heard came s.heard; interval = at_end interval came s.interval }

pub record Turns (c d : Clocks) (came : Reading) : Type 0 where
  pub heard : d.heard ≡ lower_turned (heard_over c came) c.heard
  pub lower : d.interval.lower ≡ lower_turned (interval_over c came) c.interval.lower
  pub upper : d.interval.upper ≡ upper_turned (interval_over c came) c.interval.upper
  pub present : d.interval.widths.present ≡ (if interval_over c came then 0 else c.interval.widths.present)
  pub former : d.interval.widths.former ≡ (if interval_over c came then c.interval.widths.present else c.interval.widths.former)
  pub broken : d.is_broken ≡ c.is_broken
  pub spans : d.spans ≡ spans_turned (heard_over c came) (interval_over c came) came c.spans

-- what is known before a datagram is seen
abbrev pub lower_begun : (silent over : Bool) → ClockBounds → Lower → Lower
lower_begun true over b l = record { bounds = b; present = None; former = None }
lower_begun false over b l = lower_turned over l

abbrev pub upper_begun : (silent over : Bool) → ClockBounds → Upper → Upper
upper_begun true over b u = record { bounds = b; present = None; former = None }
upper_begun false over b u = upper_turned over u

abbrev pub width_begun : (silent over : Bool) → (turned width : ℕ) → ℕ
width_begun true over turned width = 0
width_begun false true turned width = turned
width_begun false false turned width = width

abbrev pub spans_begun : (silent heard interval : Bool) → Reading → Spans → Spans
spans_begun true heard interval came s = record { since = came; last = came; heard = came; interval = came }
spans_begun false heard interval came s = spans_turned heard interval came s

pub record BeginsOrTurns (c d : Clocks) (came : Reading) : Type 0 where
  pub heard : d.heard ≡ lower_begun (is_silent c came) (heard_over c came) c.heard.bounds c.heard
  pub lower : d.interval.lower ≡ lower_begun (is_silent c came) (interval_over c came) c.heard.bounds c.interval.lower
  pub upper : d.interval.upper ≡ upper_begun (is_silent c came) (interval_over c came) c.heard.bounds c.interval.upper
  pub present : d.interval.widths.present ≡ width_begun (is_silent c came) (interval_over c came) 0 c.interval.widths.present
  pub former : d.interval.widths.former ≡ width_begun (is_silent c came) (interval_over c came) c.interval.widths.present c.interval.widths.former
  pub broken : d.is_broken ≡ c.is_broken
  pub spans : d.spans ≡ spans_begun (is_silent c came) (heard_over c came) (interval_over c came) came c.spans

-- A DATAGRAM of the opening
abbrev pub with_stamp : Lower → Passage → Lower
with_stamp l p = record l { present = kept_lower l.bounds l.present (record { reading = p.made; at = p.came }) }

pub record Hears (c d : Clocks) (p : Passage) : Type 0 where
  pub heard : d.heard ≡ with_stamp (lower_begun (is_silent c p.came) (heard_over c p.came) c.heard.bounds c.heard) p
  pub lower : d.interval.lower ≡ lower_seen (lower_begun (is_silent c p.came) (interval_over c p.came) c.heard.bounds c.interval.lower) p
  pub upper : d.interval.upper ≡ upper_seen (upper_begun (is_silent c p.came) (interval_over c p.came) c.heard.bounds c.interval.upper) p
  pub present : d.interval.widths.present ≡ widened (width_begun (is_silent c p.came) (interval_over c p.came) 0 c.interval.widths.present) p.sure.micros (upper_at d.interval.upper p.made.micros) (lower_at d.interval.lower p.made.micros)
  pub former : d.interval.widths.former ≡ width_begun (is_silent c p.came) (interval_over c p.came) c.interval.widths.present c.interval.widths.former
  pub broken : d.is_broken ≡ (c.is_broken || not (is_possible (upper_at d.interval.upper p.made.micros) (lower_at d.interval.lower p.made.micros)))
  pub spans : d.spans ≡ record (spans_begun (is_silent c p.came) (heard_over c p.came) (interval_over c p.came) p.came c.spans) { last = p.came }

-- WHAT IS PASSED ON of the peer's clock: nothing after a silence
abbrev pub sure_now : Clocks → ℕ → ℕ
sure_now c made = if is_over c.spans.last.micros made 24000000 then 0 else lower_at c.heard made
