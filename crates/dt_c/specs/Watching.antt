-- The calls of a watch. Each answers that the handle isn't open and changes nothing, or is the call of its watch.
use Rattle.std.specs.Prelude.{◌≡◌, ◌⊎◌, ◌+◌, ◌-◌, ◌*◌, ◌/◌, ◌^◌, ◌≤◌, ◌&&◌, ◌==◌, not, ℕ, nat_le, nat_lt, max, min, Bool, true, false, if◌then◌else◌, Option, Some, None, IsNone}
use Rattle.dt_watch.specs.declared.readings.Reading.{Reading}
use Rattle.dt_watch.specs.declared.interval.Passage.{Passage}
use Rattle.dt_watch.specs.declared.arrivals.Arrival.{Arrival}
use Rattle.dt_watch.specs.declared.arrivals.Judgement.{Judgement}
use Rattle.dt_watch.specs.declared.arrivals.Judgement.TheVariants.{Early, Former, OtherParameters, Present, Unproved}
use Rattle.dt_watch.specs.declared.clock_bounds.ClockBounds.{ClockBounds}
use Rattle.dt_watch.specs.declared.clocks.Clocks.{Clocks}
use Rattle.dt_watch.specs.declared.openings.Openings.{Openings}
use Rattle.dt_watch.specs.declared.watches.Watch.{Watch}
use Rattle.dt_watch.specs.declared.windows.Window.{Window}
use Rattle.dt_watch.specs.Ages.{age_of, waited_of}
use Rattle.dt_watch.specs.Clockings.{Begins, Hears, sure_now}
use Rattle.dt_watch.specs.Governor.{cut_of}
use Rattle.dt_watch.specs.Lower.{lower_around}
use Rattle.dt_watch.specs.Openings.{judgement_of, openings_after}
use Rattle.dt_watch.specs.Watches.{Chosen, pick, uncertain_of}
use Rattle.dt_watch.specs.Windows.{MayEnter, larger, smaller}
use Rattle.dt_c.specs.declared.watch_structs.WatchOptions.{WatchOptions}
use Rattle.dt_c.specs.declared.watch_structs.CPassage.{CPassage}
use Rattle.dt_c.specs.declared.watch_structs.CArrival.{CArrival}
use Rattle.dt_c.specs.declared.watch_slots.WatchSlot.{WatchSlot}
use Rattle.dt_c.specs.CStructs.{invalid, never, none, not_open, ok}

abbrev pub empty_watch : WatchSlot
empty_watch = record { watch = None; window = None }

-- a reading has 48 bits
abbrev pub is_reading : ℕ → Bool
is_reading n = nat_lt n (2 ^ 48)

abbrev pub is_passage : CPassage → Bool
is_passage p = is_reading p.made && (is_reading p.sure && is_reading p.came)

abbrev pub is_arrival : CArrival → Bool
is_arrival a = is_reading a.sure && is_reading a.came

abbrev pub SamePassage : Passage → CPassage → Type 0
SamePassage q p = (q.made.micros ≡ p.made) × (q.sure.micros ≡ p.sure) × (q.came.micros ≡ p.came)

abbrev pub SameArrival : Arrival → CArrival → Type 0
SameArrival b a = (b.fingerprint ≡ a.fingerprint) × (b.opening ≡ a.opening) × (b.sure.micros ≡ a.sure) × (b.came.micros ≡ a.came) × (b.is_frame ≡ not (a.is_frame == 0))

abbrev pub judgement_code : Judgement → ℕ
judgement_code Present = 32
judgement_code Unproved = 33
judgement_code Former = 34
judgement_code Early = 35
judgement_code OtherParameters = 36

abbrev pub status_of_clocks : Bool → ℕ
status_of_clocks is_broken = if is_broken then none else ok

-- where the handle is open its watch goes on, and its window stays
abbrev pub WatchGoesOn : Option Watch → Option Watch → Type 0 → (Watch → Watch → Type 0) → Type 0
WatchGoesOn None None without does = without
WatchGoesOn (Some w) (Some x) without does = does w x
WatchGoesOn None (Some x) without does = ⊥
WatchGoesOn (Some w) None without does = ⊥

-- an argument out of its range changes nothing
abbrev pub IfFit : Bool → Type 0 → Type 0 → Type 0
IfFit true unfit does = does
IfFit false unfit does = unfit

-- AN OPENING
abbrev pub watch_size : ℕ
watch_size = 48

abbrev pub fits_watch : WatchOptions → Bool
fits_watch o = nat_le o.drift 1000 && (nat_le o.grain 1000000 && (is_reading o.gap && is_reading o.at))

abbrev pub fits_window : WatchOptions → Bool
fits_window o = nat_le (8 * o.segment) o.most && nat_lt o.most (2 ^ 40)

-- of an opening nothing is known yet
pub record KnowsNothing (c : Clocks) (b : ClockBounds) (at : ℕ) : Type 0 where
  pub heard : c.heard ≡ record { bounds = b; present = None; former = None }
  pub lower : c.interval.lower ≡ record { bounds = b; present = None; former = None }
  pub upper : c.interval.upper ≡ record { bounds = b; present = None; former = None }
  pub since : c.spans.since.micros ≡ at

-- the watch of these options
pub record WatchFits (w : Watch) (o : WatchOptions) : Type 0 where
  pub drift : w.bounds.drift ≡ o.drift
  pub grain : w.bounds.grain ≡ o.grain
  pub fingerprint : w.openings.fingerprint ≡ o.fingerprint
  pub gap : w.openings.gap.micros ≡ o.gap
  pub grained : w.openings.grain ≡ o.grain
  pub present : w.openings.present ≡ None
  pub first : KnowsNothing w.first w.bounds o.at
  pub second : KnowsNothing w.second w.bounds o.at

abbrev pub WindowFits : Window → WatchOptions → Type 0
WindowFits w o = (w.segment ≡ o.segment) × (w.most ≡ o.most) × (w.octets ≡ min (16 * o.segment) o.most)

abbrev pub OpenedBy : Option Watch → Option Window → WatchOptions → Type 0
OpenedBy (Some w) (Some v) o = WatchFits w o × WindowFits v o
OpenedBy (Some w) None o = ⊥
OpenedBy None v o = ⊥

abbrev pub Opened : WatchSlot → WatchOptions → Type 0
Opened s o = OpenedBy s.watch s.window o

abbrev pub OpeningWatch : (status : ℕ) → WatchOptions → WatchSlot → WatchSlot → Type 0
OpeningWatch status o s t = IfFit ((o.size == watch_size) && (fits_watch o && fits_window o)) ((status ≡ invalid) × (t ≡ s)) ((status ≡ ok) × Opened t o)

-- THE CLOCKS of an opening
abbrev pub BeginningWatch : (status : ℕ) → Bool → (came : ℕ) → Watch → Watch → Type 0
BeginningWatch status second came w x = IfFit (is_reading came) ((status ≡ invalid) × (x ≡ w)) ((status ≡ ok) × ((r : Reading) × (r.micros ≡ came) × Chosen second w x (λ c d. Begins d w.bounds r)))

abbrev pub Beginning : (status : ℕ) → Bool → (came : ℕ) → WatchSlot → WatchSlot → Type 0
Beginning status second came s t = WatchGoesOn s.watch t.watch (status ≡ not_open) (λ w x. BeginningWatch status second came w x) × (t.window ≡ s.window)

abbrev pub HearingWatch : (status : ℕ) → Bool → CPassage → Watch → Watch → Type 0
HearingWatch status second p w x = IfFit (is_passage p) ((status ≡ invalid) × (x ≡ w)) ((status ≡ status_of_clocks (pick second x).is_broken) × ((q : Passage) × SamePassage q p × Chosen second w x (λ c d. Hears c d q)))

abbrev pub Hearing : (status : ℕ) → Bool → CPassage → WatchSlot → WatchSlot → Type 0
Hearing status second p s t = WatchGoesOn s.watch t.watch (status ≡ not_open) (λ w x. HearingWatch status second p w x) × (t.window ≡ s.window)

-- THE JUDGEMENT
abbrev pub JudgingWatch : (status : ℕ) → CArrival → Watch → Watch → Type 0
JudgingWatch status a w x = IfFit (is_arrival a) ((status ≡ invalid) × (x ≡ w)) ((q : Arrival) × SameArrival q a × (status ≡ judgement_code (judgement_of w.openings q)) × (x ≡ record w { openings = openings_after w.openings q }))

abbrev pub Judging : (status : ℕ) → CArrival → WatchSlot → WatchSlot → Type 0
Judging status a s t = WatchGoesOn s.watch t.watch (status ≡ not_open) (λ w x. JudgingWatch status a w x) × (t.window ≡ s.window)

-- WHAT IS SURE, and how old a datagram is
abbrev pub said_of : Option Watch → Bool → ℕ → (Watch → ℕ) → ℕ
said_of None fit else_says says = else_says
said_of (Some w) true else_says says = says w
said_of (Some w) false else_says says = else_says

abbrev pub SureIs : (result : ℕ) → Bool → (made : ℕ) → WatchSlot → WatchSlot → Type 0
SureIs result second made s t = (t ≡ s) × (result ≡ said_of s.watch (is_reading made) 0 (λ w. sure_now (pick second w) made))

abbrev pub AroundIs : (result : ℕ) → Bool → (at : ℕ) → WatchSlot → WatchSlot → Type 0
AroundIs result second at s t = (t ≡ s) × (result ≡ said_of s.watch (is_reading at) 0 (λ w. lower_around (pick second w).interval.lower at))

abbrev pub AgeIs : (result : ℕ) → Bool → (came sure : ℕ) → WatchSlot → WatchSlot → Type 0
AgeIs result second came sure s t = (t ≡ s) × (result ≡ said_of s.watch (is_reading came && (is_reading sure && nat_le sure came)) never (λ w. age_of came sure (uncertain_of (pick second w))))

abbrev pub waited_or_most : ℕ → ℕ → ℕ
waited_or_most age charge = if nat_lt age (2 ^ 52) then waited_of age charge else 4294967295

-- THE WINDOW
abbrev pub window_of : Option Window → ℕ
window_of None = 0
window_of (Some w) = w.octets

abbrev pub WindowIs : (result : ℕ) → WatchSlot → WatchSlot → Type 0
WindowIs result s t = (t ≡ s) × (result ≡ window_of s.window)

abbrev pub EntersBy : Option Window → (result under_way octets : ℕ) → Type 0
EntersBy None result under_way octets = result ≡ 0
EntersBy (Some w) result under_way octets = ((result ≡ 1) × MayEnter w under_way octets) ⊎ ((result ≡ 0) × (MayEnter w under_way octets → ⊥))

abbrev pub MayEnterIs : (result : ℕ) → (under_way octets : ℕ) → WatchSlot → WatchSlot → Type 0
MayEnterIs result under_way octets s t = (t ≡ s) × EntersBy s.window result under_way octets

abbrev pub WindowGoesOn : Option Window → Option Window → (status : ℕ) → (Window → ℕ) → Type 0
WindowGoesOn None None status octets = status ≡ not_open
WindowGoesOn (Some w) (Some x) status octets = (status ≡ ok) × (x.octets ≡ octets w) × (x.segment ≡ w.segment) × (x.most ≡ w.most)
WindowGoesOn None (Some x) status octets = ⊥
WindowGoesOn (Some w) None status octets = ⊥

abbrev pub Growing : (status : ℕ) → Bool → WatchSlot → WatchSlot → Type 0
Growing status fast s t = WindowGoesOn s.window t.window status (λ w. larger w fast) × (t.watch ≡ s.watch)

abbrev pub Shrinking : (status : ℕ) → (thousandths : ℕ) → WatchSlot → WatchSlot → Type 0
Shrinking status thousandths s t = WindowGoesOn s.window t.window status (λ w. smaller w thousandths) × (t.watch ≡ s.watch)

-- the aim and the cut, where the arguments are in their ranges
abbrev pub aim_or_none : (base budget resend : ℕ) → ℕ
aim_or_none base budget resend = if nat_lt base (2 ^ 50) && nat_lt resend (2 ^ 50) then min (max (base / 4) 2000) (max (min ((budget - base) / 2) (3 * resend / 4 - base)) 500) else 0

abbrev pub cut_or_none : (queue base aim : ℕ) → ℕ
cut_or_none queue base aim = if nat_lt queue (2 ^ 50) && (nat_lt base (2 ^ 50) && nat_lt aim queue) then cut_of queue base aim else 0
