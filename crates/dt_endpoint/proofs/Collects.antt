-- A script that is played before a collector: all of it is collected, or a first part.
use Rattle.std.proofs.Common.{◌≡◌, ◌∙◌, ℕ, suc, true, false, List, [], ◌∷◌, ◌++◌, append_assoc, take, Result, Ok, Err, refl, sym, ap, inl, inr}
use Rattle.std.proofs.lemmas.Bool.{cases_Bool, false≢true}
use Rattle.std.proofs.lemmas.List.{append-nil}
use Rattle.dt_reports.specs.Told.{Told}
use Rattle.dt_world_model.specs.Host.{Host}
use Rattle.dt_world_model.specs.Relay.{Parcel}
use Rattle.dt_world_model.specs.Script.{Ask, Concludes, Done, Hand, Plays, Script, Stops, Tell}
use Rattle.dt_endpoint.specs.Acts.{acts_of, answer_of, frames_in, out_frame, reports_in}
use Rattle.dt_endpoint.specs.Counts.{counts_acts}
use Rattle.dt_endpoint.specs.Hearing.{kept}
use Rattle.dt_endpoint.specs.Collecting.{CollectEnds, CollectFails, CollectHands, CollectTags, CollectTells, Collected, CollectsPart, Same, collected, with_handed, with_told}

same_self : (s : Collected) → Same s s
same_self s = record { frames = refl; reports = refl; counts = refl }

same_then : (s m t : Collected) → Same s m → Same m t → Same s t
same_then s m t h k = record { frames = k.frames ∙ h.frames; reports = k.reports ∙ h.reports; counts = k.counts ∙ h.counts }

same_is : (s t : Collected) → s ≡ t → Same s t
same_is s t e = record { frames = sym (ap (λ (c : Collected). c.frames) e); reports = sym (ap (λ (c : Collected). c.reports) e); counts = sym (ap (λ (c : Collected). c.counts) e) }

-- a collector that has failed collects nothing more
pub record Still (s t : Collected) : Type 0 where
  pub failed : t.failed ≡ true
  pub same : Same s t

still_tells : (s t : Collected) (r : Told) → CollectTells s r t → s.failed ≡ true → Still s t
still_tells s t r h f =
    elim (cases_Bool t.failed) [
      | inl y ↦ record { failed = y; same = h.not y }
      | inr n ↦ absurd (false≢true (sym n ∙ ap (λ (c : Collected). c.failed) (h.done n) ∙ f))
    ]

stops_still : {A : Type 0} (script : Script (Unit {0}) A) (s t : Collected) → Stops CollectTells CollectTags CollectHands CollectFails script s t → s.failed ≡ true → Same s t
stops_still (Done a) s t p f = same_is s t p
stops_still (Tell r k) s t (inl p) f = same_is s t p
stops_still (Tell r k) s t (inr p) f = let q = still_tells s p.0 r p.1 f in same_then s p.0 t q.same (stops_still k p.0 t p.2 q.failed)
stops_still (Ask host octets k) s t (inl p) f = same_is s t p
stops_still (Ask host octets k) s t (inr p) f = same_then s p.0 t (same_is s p.0 (sym p.2)) (stops_still (k p.1) p.0 t p.3 (ap (λ (c : Collected). c.failed) p.2 ∙ f))
stops_still (Hand link parcel k) s t (inl p) f = same_is s t p
stops_still (Hand link parcel k) s t (inr (inl p)) f = p
stops_still (Hand link parcel k) s t (inr (inr p)) f = absurd (false≢true (sym p.1.fine ∙ f))

pub plays_stops : {A : Type 0} (script : Script (Unit {0}) A) (s t : Collected) (b : A) → Plays CollectTells CollectTags CollectHands script s t b → Stops CollectTells CollectTags CollectHands CollectFails script s t
plays_stops (Done a) s t b p = p.0
plays_stops (Tell r k) s t b p = inr (p.0, p.1, plays_stops k p.0 t b p.2)
plays_stops (Ask host octets k) s t b p = inr (p.0, p.1, p.2, plays_stops (k p.1) p.0 t b p.3)
plays_stops (Hand link parcel k) s t b p = inr (inr (p.0, p.1, plays_stops k p.0 t b p.2))

-- NOTHING WAS COLLECTED, or something and then more
part_none : {A : Type 0} (script : Script (Unit {0}) A) (s t : Collected) → Same s t → CollectsPart script s t
part_none script s t h = record {
  count = 0;
  frames = h.frames ∙ sym (append-nil s.frames);
  reports = h.reports ∙ sym (append-nil s.reports);
  counts = h.counts;
}

part_told : {A : Type 0} (r : Told) (k : Script (Unit {0}) A) (s m t : Collected) → m ≡ with_told r s → CollectsPart k m t → CollectsPart (Tell r k) s t
part_told r k s m t e h = record {
  count = suc h.count;
  frames = h.frames ∙ ap (λ (c : Collected). c.frames ++ frames_in (take h.count (acts_of k))) e;
  reports = h.reports ∙ ap (λ (c : Collected). c.reports ++ reports_in (take h.count (acts_of k))) e ∙ append_assoc s.reports (kept r ∷ []) (reports_in (take h.count (acts_of k)));
  counts = h.counts ∙ ap (λ (c : Collected). counts_acts (take h.count (acts_of k)) c.counts) e;
}

part_handed : {A : Type 0} (link : ℕ) (parcel : Parcel (Unit {0})) (k : Script (Unit {0}) A) (s m t : Collected) → m ≡ with_handed link parcel s → CollectsPart k m t → CollectsPart (Hand link parcel k) s t
part_handed link parcel k s m t e h = record {
  count = suc h.count;
  frames = h.frames ∙ ap (λ (c : Collected). c.frames ++ frames_in (take h.count (acts_of k))) e ∙ append_assoc s.frames (out_frame link parcel.octets ∷ []) (frames_in (take h.count (acts_of k)));
  reports = h.reports ∙ ap (λ (c : Collected). c.reports ++ reports_in (take h.count (acts_of k))) e;
  counts = h.counts ∙ ap (λ (c : Collected). counts_acts (take h.count (acts_of k)) c.counts) e;
}

part_asked : {A : Type 0} (host : Host) (octets : List ℕ) (k : Unit {0} → Script (Unit {0}) A) (s m t : Collected) → m ≡ s → CollectsPart (k tt) m t → CollectsPart (Ask host octets k) s t
part_asked host octets k s m t e h = record {
  count = h.count;
  frames = h.frames ∙ ap (λ (c : Collected). c.frames ++ frames_in (take h.count (acts_of (k tt)))) e;
  reports = h.reports ∙ ap (λ (c : Collected). c.reports ++ reports_in (take h.count (acts_of (k tt)))) e;
  counts = h.counts ∙ ap (λ (c : Collected). counts_acts (take h.count (acts_of (k tt))) c.counts) e;
}

-- A FIRST PART is collected where it stops
pub first_part : {A : Type 0} (script : Script (Unit {0}) A) (s t : Collected) → Stops CollectTells CollectTags CollectHands CollectFails script s t → CollectsPart script s t
first_part (Done a) s t p = part_none (Done a) s t (same_is s t p)
first_part (Tell r k) s t (inl p) = part_none (Tell r k) s t (same_is s t p)
first_part (Tell r k) s t (inr p) =
    elim (cases_Bool p.0.failed) [
      | inl y ↦ part_none (Tell r k) s t (same_then s p.0 t (p.1.not y) (stops_still k p.0 t p.2 y))
      | inr n ↦ part_told r k s p.0 t (p.1.done n) (first_part k p.0 t p.2)
    ]
first_part (Ask host octets k) s t (inl p) = part_none (Ask host octets k) s t (same_is s t p)
first_part (Ask host octets k) s t (inr p) = part_asked host octets k s p.0 t p.2 (first_part (k p.1) p.0 t p.3)
first_part (Hand link parcel k) s t (inl p) = part_none (Hand link parcel k) s t (same_is s t p)
first_part (Hand link parcel k) s t (inr (inl p)) = part_none (Hand link parcel k) s t p
first_part (Hand link parcel k) s t (inr (inr p)) = part_handed link parcel k s p.0 t p.1.done (first_part k p.0 t p.2)

-- ALL OF IT is collected where it is played and the collector hasn't failed in the end
was_well : {A : Type 0} (script : Script (Unit {0}) A) (m t : Collected) (b : A) → Plays CollectTells CollectTags CollectHands script m t b → t.failed ≡ false → m.failed ≡ false
was_well (Done a) m t b p f = ap (λ (c : Collected). c.failed) p.0 ∙ f
was_well (Tell r k) m t b p f = let n = was_well k p.0 t b p.2 f in sym (ap (λ (c : Collected). c.failed) (p.1.done n)) ∙ n
was_well (Ask host octets k) m t b p f = sym (ap (λ (c : Collected). c.failed) p.2) ∙ was_well (k p.1) p.0 t b p.3 f
was_well (Hand link parcel k) m t b p f = p.1.fine

done_collects : {A : Type 0} (a : A) (s : Collected) → s ≡ collected (Done a) s
done_collects a s = rw (append-nil s.frames, append-nil s.reports) refl

told_collects : {A : Type 0} (r : Told) (k : Script (Unit {0}) A) (s : Collected) → collected k (with_told r s) ≡ collected (Tell r k) s
told_collects r k s = rw (append_assoc s.reports (kept r ∷ []) (reports_in (acts_of k))) refl

handed_collects : {A : Type 0} (link : ℕ) (parcel : Parcel (Unit {0})) (k : Script (Unit {0}) A) (s : Collected) → collected k (with_handed link parcel s) ≡ collected (Hand link parcel k) s
handed_collects link parcel k s = rw (append_assoc s.frames (out_frame link parcel.octets ∷ []) (frames_in (acts_of k))) refl

pub whole : {A : Type 0} (script : Script (Unit {0}) A) (s t : Collected) (b : A) → Plays CollectTells CollectTags CollectHands script s t b → t.failed ≡ false → (t ≡ collected script s) × (answer_of script ≡ b)
whole (Done a) s t b p f = (sym p.0 ∙ done_collects a s, p.1)
whole (Tell r k) s t b p f =
    let e = p.1.done (was_well k p.0 t b p.2 f) in
    let rest = whole k p.0 t b p.2 f in
    (rest.0 ∙ ap (λ (c : Collected). collected k c) e ∙ told_collects r k s, rest.1)
whole (Ask host octets k) s t b p f =
    let rest = whole (k p.1) p.0 t b p.3 f in
    (rest.0 ∙ ap (λ (c : Collected). collected (k tt) c) p.2, rest.1)
whole (Hand link parcel k) s t b p f =
    let rest = whole k p.0 t b p.2 f in
    (rest.0 ∙ ap (λ (c : Collected). collected k c) p.1.done ∙ handed_collects link parcel k s, rest.1)

pub ended_part : {A U E : Type 0} (result : Result U E) (script : Script (Unit {0}) A) (s t : Collected) (b : A) → Concludes CollectTells CollectTags CollectHands CollectFails result script s t b → CollectsPart script s t
ended_part (Ok done) script s t b h = first_part script s t (plays_stops script s t b h)
ended_part (Err fault) script s t b h = first_part script s t h

pub ended : {A U E : Type 0} (result : Result U E) (script : Script (Unit {0}) A) (s t : Collected) (b : A) → Concludes CollectTells CollectTags CollectHands CollectFails result script s t b → t.failed ≡ false → CollectEnds result script s t b
ended (Ok done) script s t b h f = whole script s t b h f
ended (Err fault) script s t b h f = first_part script s t h
