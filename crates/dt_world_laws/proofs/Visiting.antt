-- A visitor that goes as a handler does, and may fail: in a report or a packet, which then do nothing, or where it is asked for a tag. As long as it has not failed, it is seen as the handler's state; from then on as the state that it had. So it ends where the play ends, or it is seen as a state on the way.
use Rattle.std.proofs.Common.{◌≡◌, ℕ, Bool, true, false, List, [], ◌++◌, Result, Ok, Err, refl, sym, ap, subst, ◌∙◌, inl, inr, append_assoc}
use Rattle.std.proofs.lemmas.Bool.{cases_Bool}
use Rattle.std.proofs.lemmas.List.{append-nil}
use Rattle.dt_reports.specs.Told.{Told}
use Rattle.dt_world_model.specs.Host.{Host}
use Rattle.dt_world_model.specs.Relay.{Parcel}
use Rattle.dt_world_laws.specs.Visits.{IsOnTheWay}
use Rattle.dt_world_model.specs.Script.{Script, Done, Tell, Ask, Hand, Plays, Stops, Concludes, Handler, play, Along}

-- A STATE ON THE WAY of a play
module _ {S T : Type 0} (handler : Handler S T) where
  -- what holds all along holds there
  pub along_at : {A : Type 0} (fact : S → Type 0) (script : Script T A) (s t : S) → Along handler fact script s → IsOnTheWay handler script s t → fact t
  along_at fact (Done a) s t h e = subst fact (sym e) h
  along_at fact (Tell r script) s t h (inl e) = subst fact (sym e) h.0
  along_at fact (Tell r script) s t h (inr rest) = along_at fact script (handler.tell r s) t h.1 rest
  along_at fact (Ask host octets script) s t h (inl e) = subst fact (sym e) h.0
  along_at fact (Ask host octets script) s t h (inr rest) = along_at fact (script (handler.tag host octets s)) s t h.1 rest
  along_at fact (Hand link q script) s t h (inl e) = subst fact (sym e) h.0
  along_at fact (Hand link q script) s t h (inr rest) = along_at fact script (handler.hand link q s) t h.1 rest

  first_on_the_way : {A : Type 0} (script : Script T A) (s t : S) → t ≡ s → IsOnTheWay handler script s t
  first_on_the_way (Done a) s t e = e
  first_on_the_way (Tell r script) s t e = inl e
  first_on_the_way (Ask host octets script) s t e = inl e
  first_on_the_way (Hand link q script) s t e = inl e

  -- what only grows, as the lines that are reported, is there a prefix of what it is at the end
  module _ {E : Type 0} (lines : S → List E) (told : (r : Told) (s : S) → (more : List E) × (lines (handler.tell r s) ≡ lines s ++ more)) (handed : (link : ℕ) (q : Parcel T) (s : S) → lines (handler.hand link q s) ≡ lines s) where
    abbrev pub IsPrefix : List E → List E → Type 0
    IsPrefix xs ys = (rest : List E) × (xs ++ rest ≡ ys)

    grows : {A : Type 0} (script : Script T A) (s : S) → IsPrefix (lines s) (lines (play handler script s).0)
    grows (Done a) s = ([], append-nil (lines s))
    grows (Tell r script) s =
        let m = told r s in
        let k = grows script (handler.tell r s) in
        (m.0 ++ k.0, sym (append_assoc (lines s) m.0 k.0) ∙ ap (λ (xs : List E). xs ++ k.0) (sym m.1) ∙ k.1)
    grows (Ask host octets script) s = grows (script (handler.tag host octets s)) s
    grows (Hand link q script) s =
        let k = grows script (handler.hand link q s) in
        (k.0, ap (λ (xs : List E). xs ++ k.0) (sym (handed link q s)) ∙ k.1)

    first_grows : {A : Type 0} (script : Script T A) (s t : S) → t ≡ s → IsPrefix (lines t) (lines (play handler script s).0)
    first_grows script s t e = let k = grows script s in (k.0, ap (λ (u : S). lines u ++ k.0) e ∙ k.1)

    pub prefix_at : {A : Type 0} (script : Script T A) (s t : S) → IsOnTheWay handler script s t → IsPrefix (lines t) (lines (play handler script s).0)
    prefix_at (Done a) s t e = first_grows (Done a) s t e
    prefix_at (Tell r script) s t (inl e) = first_grows (Tell r script) s t e
    prefix_at (Tell r script) s t (inr rest) = prefix_at script (handler.tell r s) t rest
    prefix_at (Ask host octets script) s t (inl e) = first_grows (Ask host octets script) s t e
    prefix_at (Ask host octets script) s t (inr rest) = prefix_at (script (handler.tag host octets s)) s t rest
    prefix_at (Hand link q script) s t (inl e) = first_grows (Hand link q script) s t e
    prefix_at (Hand link q script) s t (inr rest) = prefix_at script (handler.hand link q s) t rest

module _ {V T S : Type 0} (tells : V → Told → V → Type 0) (tags : V → Host → List ℕ → T → V → Type 0) (hands : V → ℕ → Parcel T → V → Type 0) (fails : V → V → Type 0) (failed : V → Bool) (sees : V → S → Type 0) (handler : Handler S T) where
  -- from one state to the next: this was done, or it has failed and nothing was
  pub record Goes (v w : V) (s after : S) : Type 0 where
    pub done : failed w ≡ false → (failed v ≡ false) × sees w after
    pub not : failed w ≡ true → sees w s

  pub record Tagged (v w : V) (s : S) (t asked : T) : Type 0 where
    pub seen : sees w s
    pub told : failed w ≡ false → (failed v ≡ false) × (t ≡ asked)

  pub record Follows : Type 0 where
    pub tell : (v w : V) (r : Told) (s : S) → tells v r w → sees v s → Goes v w s (handler.tell r s)
    pub tag : (v w : V) (host : Host) (octets : List ℕ) (t : T) (s : S) → tags v host octets t w → sees v s → Tagged v w s t (handler.tag host octets s)
    pub hand : (v w : V) (link : ℕ) (p : Parcel T) (s : S) → hands v link p w → sees v s → Goes v w s (handler.hand link p s)
    pub fail : (v w : V) (s : S) → fails v w → sees v s → sees w s

  module _ (f : Follows) where
    -- AFTER A FAILURE nothing changes
    goes_failed : (v w : V) (s after : S) → Goes v w s after → failed v ≡ true → (failed w ≡ true) × sees w s
    goes_failed v w s after g bad =
        elim (cases_Bool (failed w)) [
          | inl y ↦ (y, g.not y)
          | inr n ↦ let was = (g.done n).0 in absurd (cc)
        ]

    tag_failed : (v w : V) (s : S) (t asked : T) → Tagged v w s t asked → failed v ≡ true → failed w ≡ true
    tag_failed v w s t asked g bad =
        elim (cases_Bool (failed w)) [
          | inl y ↦ y
          | inr n ↦ let was = (g.told n).0 in absurd (cc)
        ]

    plays_failed : {A : Type 0} (script : Script T A) (v w : V) (b : A) (s : S) → Plays tells tags hands script v w b → sees v s → failed v ≡ true → failed w ≡ true
    plays_failed (Done a) v w b s p now bad = subst (λ (x : V). failed x ≡ true) p.0 bad
    plays_failed (Tell r script) v w b s p now bad = let k = goes_failed v p.0 s (handler.tell r s) (f.tell v p.0 r s p.1 now) bad in plays_failed script p.0 w b s p.2 k.1 k.0
    plays_failed (Ask host octets script) v w b s p now bad =
        let g = f.tag v p.0 host octets p.1 s p.2 now in
        plays_failed (script p.1) p.0 w b s p.3 g.seen (tag_failed v p.0 s p.1 (handler.tag host octets s) g bad)
    plays_failed (Hand link q script) v w b s p now bad = let k = goes_failed v p.0 s (handler.hand link q s) (f.hand v p.0 link q s p.1 now) bad in plays_failed script p.0 w b s p.2 k.1 k.0

    stops_failed : {A : Type 0} (script : Script T A) (v w : V) (s : S) → Stops tells tags hands fails script v w → sees v s → failed v ≡ true → sees w s
    stops_failed (Done a) v w s p now bad = subst (λ (x : V). sees x s) p now
    stops_failed (Tell r script) v w s (inl p) now bad = subst (λ (x : V). sees x s) p now
    stops_failed (Tell r script) v w s (inr p) now bad = let k = goes_failed v p.0 s (handler.tell r s) (f.tell v p.0 r s p.1 now) bad in stops_failed script p.0 w s p.2 k.1 k.0
    stops_failed (Ask host octets script) v w s (inl p) now bad = subst (λ (x : V). sees x s) p now
    stops_failed (Ask host octets script) v w s (inr p) now bad =
        let g = f.tag v p.0 host octets p.1 s p.2 now in
        stops_failed (script p.1) p.0 w s p.3 g.seen (tag_failed v p.0 s p.1 (handler.tag host octets s) g bad)
    stops_failed (Hand link q script) v w s (inl p) now bad = subst (λ (x : V). sees x s) p now
    stops_failed (Hand link q script) v w s (inr (inl p)) now bad = f.fail v w s p now
    stops_failed (Hand link q script) v w s (inr (inr p)) now bad = let k = goes_failed v p.0 s (handler.hand link q s) (f.hand v p.0 link q s p.1 now) bad in stops_failed script p.0 w s p.2 k.1 k.0

    -- A VISITOR THAT HASN'T FAILED at the end has played all
    abbrev pub EndsAt : {A : Type 0} → Script T A → S → V → A → Type 0
    EndsAt script s w b = sees w (play handler script s).0 × ((play handler script s).1 ≡ b)

    stepped : {A : Type 0} (script : Script T A) (v m w : V) (b : A) (s after : S) → Goes v m s after → Plays tells tags hands script m w b → failed w ≡ false → (failed m ≡ false → sees m after → EndsAt script after w b) → EndsAt script after w b
    stepped script v m w b s after g p fine rest =
        elim (cases_Bool (failed m)) [
          | inl y ↦ let bad = plays_failed script m w b s p (g.not y) y in absurd (cc)
          | inr n ↦ rest n (g.done n).1
        ]

    pub plays_play : {A : Type 0} (script : Script T A) (v w : V) (b : A) (s : S) → Plays tells tags hands script v w b → sees v s → failed w ≡ false → EndsAt script s w b
    plays_play (Done a) v w b s p now fine = (subst (λ (x : V). sees x s) p.0 now, p.1)
    plays_play (Tell r script) v w b s p now fine = stepped script v p.0 w b s (handler.tell r s) (f.tell v p.0 r s p.1 now) p.2 fine (λ n seen. plays_play script p.0 w b (handler.tell r s) p.2 seen fine)
    plays_play (Ask host octets script) v w b s p now fine =
        let g = f.tag v p.0 host octets p.1 s p.2 now in
        elim (cases_Bool (failed p.0)) [
          | inl y ↦ let bad = plays_failed (script p.1) p.0 w b s p.3 g.seen y in absurd (cc)
          | inr n ↦ subst (λ (t : T). EndsAt (script t) s w b) (g.told n).1 (plays_play (script p.1) p.0 w b s p.3 g.seen fine)
        ]
    plays_play (Hand link q script) v w b s p now fine = stepped script v p.0 w b s (handler.hand link q s) (f.hand v p.0 link q s p.1 now) p.2 fine (λ n seen. plays_play script p.0 w b (handler.hand link q s) p.2 seen fine)

    -- what was played to its end was played up to some point
    plays_stops : {A : Type 0} (script : Script T A) (v w : V) (b : A) → Plays tells tags hands script v w b → Stops tells tags hands fails script v w
    plays_stops (Done a) v w b p = p.0
    plays_stops (Tell r script) v w b p = inr (p.0, p.1, plays_stops script p.0 w b p.2)
    plays_stops (Ask host octets script) v w b p = inr (p.0, p.1, p.2, plays_stops (script p.1) p.0 w b p.3)
    plays_stops (Hand link q script) v w b p = inr (inr (p.0, p.1, plays_stops script p.0 w b p.2))

    pub concludes_stops : {A U E : Type 0} (result : Result U E) (script : Script T A) (v w : V) (b : A) → Concludes tells tags hands fails result script v w b → Stops tells tags hands fails script v w
    concludes_stops (Ok done) script v w b p = plays_stops script v w b p
    concludes_stops (Err e) script v w b p = p

    -- WHEREVER IT STOPPED it is seen as a state on the way
    abbrev pub StopsAt : {A : Type 0} → Script T A → S → V → Type 0
    StopsAt script s w = (t : S) × sees w t × IsOnTheWay handler script s t

    here : {A : Type 0} (script : Script T A) (s : S) (w : V) → sees w s → StopsAt script s w
    here script s w now = (s, now, first_on_the_way handler script s s refl)

    pub stops_at : {A : Type 0} (script : Script T A) (v w : V) (s : S) → Stops tells tags hands fails script v w → sees v s → StopsAt script s w
    stops_at (Done a) v w s p now = here (Done a) s w (subst (λ (x : V). sees x s) p now)
    stops_at (Tell r script) v w s (inl p) now = here (Tell r script) s w (subst (λ (x : V). sees x s) p now)
    stops_at (Tell r script) v w s (inr p) now =
        let g = f.tell v p.0 r s p.1 now in
        elim (cases_Bool (failed p.0)) [
          | inl y ↦ here (Tell r script) s w (stops_failed script p.0 w s p.2 (g.not y) y)
          | inr n ↦ let k = stops_at script p.0 w (handler.tell r s) p.2 (g.done n).1 in (k.0, k.1, inr k.2)
        ]
    stops_at (Ask host octets script) v w s (inl p) now = here (Ask host octets script) s w (subst (λ (x : V). sees x s) p now)
    stops_at (Ask host octets script) v w s (inr p) now =
        let g = f.tag v p.0 host octets p.1 s p.2 now in
        elim (cases_Bool (failed p.0)) [
          | inl y ↦ here (Ask host octets script) s w (stops_failed (script p.1) p.0 w s p.3 g.seen y)
          | inr n ↦ let k = subst (λ (t : T). StopsAt (script t) s w) (g.told n).1 (stops_at (script p.1) p.0 w s p.3 g.seen) in (k.0, k.1, inr k.2)
        ]
    stops_at (Hand link q script) v w s (inl p) now = here (Hand link q script) s w (subst (λ (x : V). sees x s) p now)
    stops_at (Hand link q script) v w s (inr (inl p)) now = here (Hand link q script) s w (f.fail v w s p now)
    stops_at (Hand link q script) v w s (inr (inr p)) now =
        let g = f.hand v p.0 link q s p.1 now in
        elim (cases_Bool (failed p.0)) [
          | inl y ↦ here (Hand link q script) s w (stops_failed script p.0 w s p.2 (g.not y) y)
          | inr n ↦ let k = stops_at script p.0 w (handler.hand link q s) p.2 (g.done n).1 in (k.0, k.1, inr k.2)
        ]

-- A part that every step leaves is left by all.
module _ {V T K : Type 0} (tells : V → Told → V → Type 0) (tags : V → Host → List ℕ → T → V → Type 0) (hands : V → ℕ → Parcel T → V → Type 0) (fails : V → V → Type 0) (key : V → K)
    (at_tell : (v w : V) (r : Told) → tells v r w → key w ≡ key v) (at_tag : (v w : V) (host : Host) (octets : List ℕ) (t : T) → tags v host octets t w → key w ≡ key v) (at_hand : (v w : V) (link : ℕ) (p : Parcel T) → hands v link p w → key w ≡ key v) (at_fail : (v w : V) → fails v w → key w ≡ key v) where
  pub plays_keep : {A : Type 0} (script : Script T A) (v w : V) (b : A) → Plays tells tags hands script v w b → key w ≡ key v
  plays_keep (Done a) v w b p = ap key (sym p.0)
  plays_keep (Tell r script) v w b p = plays_keep script p.0 w b p.2 ∙ at_tell v p.0 r p.1
  plays_keep (Ask host octets script) v w b p = plays_keep (script p.1) p.0 w b p.3 ∙ at_tag v p.0 host octets p.1 p.2
  plays_keep (Hand link q script) v w b p = plays_keep script p.0 w b p.2 ∙ at_hand v p.0 link q p.1

  pub stops_keep : {A : Type 0} (script : Script T A) (v w : V) → Stops tells tags hands fails script v w → key w ≡ key v
  stops_keep (Done a) v w p = ap key (sym p)
  stops_keep (Tell r script) v w (inl p) = ap key (sym p)
  stops_keep (Tell r script) v w (inr p) = stops_keep script p.0 w p.2 ∙ at_tell v p.0 r p.1
  stops_keep (Ask host octets script) v w (inl p) = ap key (sym p)
  stops_keep (Ask host octets script) v w (inr p) = stops_keep (script p.1) p.0 w p.3 ∙ at_tag v p.0 host octets p.1 p.2
  stops_keep (Hand link q script) v w (inl p) = ap key (sym p)
  stops_keep (Hand link q script) v w (inr (inl p)) = at_fail v w p
  stops_keep (Hand link q script) v w (inr (inr p)) = stops_keep script p.0 w p.2 ∙ at_hand v p.0 link q p.1

  pub concludes_keep : {A U E : Type 0} (result : Result U E) (script : Script T A) (v w : V) (b : A) → Concludes tells tags hands fails result script v w b → key w ≡ key v
  concludes_keep (Ok done) script v w b p = plays_keep script v w b p
  concludes_keep (Err e) script v w b p = stops_keep script v w p
