-- What a call of a watch says, where its arguments are in their ranges.
use Rattle.std.proofs.Common.{◌≡◌, ℕ, Bool, true, false, refl, sym, subst}
use Rattle.dt_watch.specs.declared.readings.Reading.{Reading}
use Rattle.dt_watch.specs.declared.interval.Passage.{Passage}
use Rattle.dt_watch.specs.declared.arrivals.Arrival.{Arrival}
use Rattle.dt_watch.specs.declared.watches.Watch.{Watch}
use Rattle.dt_watch.specs.Clockings.{Begins, Hears}
use Rattle.dt_watch.specs.Openings.{judgement_of, openings_after}
use Rattle.dt_watch.specs.Watches.{Chosen, pick}
use Rattle.dt_c.specs.declared.watch_structs.CPassage.{CPassage}
use Rattle.dt_c.specs.declared.watch_structs.CArrival.{CArrival}
use Rattle.dt_c.specs.Watching.{BeginningWatch, HearingWatch, IfFit, JudgingWatch, SameArrival, SamePassage, is_arrival, is_passage, is_reading, judgement_code, status_of_clocks}

fits : (A B : Type 0) (fit : Bool) → fit ≡ true → B → IfFit fit A B
fits A B fit is does = subst (λ (it : Bool). IfFit it A B) (sym is) does

pub begins : (second : Bool) (came : ℕ) (w x : Watch) (r : Reading) → is_reading came ≡ true → r.micros ≡ came → Chosen second w x (λ c d. Begins d w.bounds r) → BeginningWatch 0 second came w x
begins second came w x r fit micros chosen = fits _ _ (is_reading came) fit (refl, (r, micros, chosen))

pub hears : (status : ℕ) (second : Bool) (p : CPassage) (w x : Watch) (q : Passage) → is_passage p ≡ true → SamePassage q p → status ≡ status_of_clocks (pick second x).is_broken → Chosen second w x (λ c d. Hears c d q) → HearingWatch status second p w x
hears status second p w x q fit same says chosen = fits _ _ (is_passage p) fit (says, (q, same, chosen))

pub judges : (status : ℕ) (a : CArrival) (w x : Watch) (q : Arrival) → is_arrival a ≡ true → SameArrival q a → status ≡ judgement_code (judgement_of w.openings q) → x ≡ record w { openings = openings_after w.openings q } → JudgingWatch status a w x
judges status a w x q fit same says after = fits _ _ (is_arrival a) fit (q, same, says, after)
