-- How a script is played, step by step.
use Rattle.std.proofs.Common.{◌≡◌, ℕ, List, Result, Ok, Err, inl, inr, refl, subst, sym}
use Rattle.dt_reports.specs.Told.{Told}
use Rattle.dt_world_model.specs.Host.{Host}
use Rattle.dt_world_model.specs.Relay.{Parcel}
use Rattle.dt_world_model.specs.Script.{Answers, Ask, Concludes, Done, Hand, Plays, Script, Stops, Tell, ◌>>=◌}

module _ {V T : Type 0} (tells : V → Told → V → Type 0) (tags : V → Host → List ℕ → T → V → Type 0) (hands : V → ℕ → Parcel T → V → Type 0) (fails : V → V → Type 0) where
  -- To play the rest from here is to play the whole from its beginning.
  pub record Leads {A : Type 0} (whole : Script T A) (first : V) (rest : Script T A) (here : V) : Type 0 where
    pub plays : (w : V) (b : A) → Plays tells tags hands rest here w b → Plays tells tags hands whole first w b
    pub stops : (w : V) → Stops tells tags hands fails rest here w → Stops tells tags hands fails whole first w

  pub leads_here : {A : Type 0} (s : Script T A) (v : V) → Leads s v s v
  leads_here s v = record { plays = λ w b h. h; stops = λ w h. h }

  pub leads_is : {A : Type 0} (whole rest s : Script T A) (first here : V) → rest ≡ s → Leads whole first rest here → Leads whole first s here
  leads_is whole rest s first here e l = subst (λ (x : Script T _). Leads whole first x here) e l

  pub leads_tell : {A : Type 0} (whole rest s : Script T A) (first v m : V) (r : Told) → Leads whole first rest v → rest ≡ Tell r s → tells v r m → Leads whole first s m
  leads_tell whole rest s first v m r l e h = record {
    plays = λ w b p. l.plays w b (rw e (m, h, p));
    stops = λ w p. l.stops w (rw e (inr (m, h, p)));
  }

  pub leads_hand : {A : Type 0} (whole rest s : Script T A) (first v m : V) (link : ℕ) (q : Parcel T) → Leads whole first rest v → rest ≡ Hand link q s → hands v link q m → Leads whole first s m
  leads_hand whole rest s first v m link q l e h = record {
    plays = λ w b p. l.plays w b (rw e (m, h, p));
    stops = λ w p. l.stops w (rw e (inr (inr (m, h, p))));
  }

  pub plays_bind : {A B : Type 0} (s : Script T A) (k : A → Script T B) (v m w : V) (a : A) (b : B) → Plays tells tags hands s v m a → Plays tells tags hands (k a) m w b → Plays tells tags hands (s >>= k) v w b
  plays_bind (Done x) k v m w a b p q = rw (p.0, p.1) q
  plays_bind (Tell r s) k v m w a b p q = (p.0, p.1, plays_bind s k p.0 m w a b p.2 q)
  plays_bind (Ask host octets s) k v m w a b p q = (p.0, p.1, p.2, plays_bind (s p.1) k p.0 m w a b p.3 q)
  plays_bind (Hand link o s) k v m w a b p q = (p.0, p.1, plays_bind s k p.0 m w a b p.2 q)

  pub stops_after : {A B : Type 0} (s : Script T A) (k : A → Script T B) (v m w : V) (a : A) → Plays tells tags hands s v m a → Stops tells tags hands fails (k a) m w → Stops tells tags hands fails (s >>= k) v w
  stops_after (Done x) k v m w a p q = rw (p.0, p.1) q
  stops_after (Tell r s) k v m w a p q = inr (p.0, p.1, stops_after s k p.0 m w a p.2 q)
  stops_after (Ask host octets s) k v m w a p q = inr (p.0, p.1, p.2, stops_after (s p.1) k p.0 m w a p.3 q)
  stops_after (Hand link o s) k v m w a p q = inr (inr (p.0, p.1, stops_after s k p.0 m w a p.2 q))

  pub stops_here : {A : Type 0} (s : Script T A) (v : V) → Stops tells tags hands fails s v v
  stops_here (Done x) v = refl
  stops_here (Tell r s) v = inl refl
  stops_here (Ask host octets s) v = inl refl
  stops_here (Hand link o s) v = inl refl

  pub stops_within : {A B : Type 0} (s : Script T A) (k : A → Script T B) (v w : V) → Stops tells tags hands fails s v w → Stops tells tags hands fails (s >>= k) v w
  stops_within (Done x) k v w p = rw p (stops_here (k x) w)
  stops_within (Tell r s) k v w (inl p) = inl p
  stops_within (Tell r s) k v w (inr p) = inr (p.0, p.1, stops_within s k p.0 w p.2)
  stops_within (Ask host octets s) k v w (inl p) = inl p
  stops_within (Ask host octets s) k v w (inr p) = inr (p.0, p.1, p.2, stops_within (s p.1) k p.0 w p.3)
  stops_within (Hand link o s) k v w (inl p) = inl p
  stops_within (Hand link o s) k v w (inr (inl p)) = inr (inl p)
  stops_within (Hand link o s) k v w (inr (inr p)) = inr (inr (p.0, p.1, stops_within s k p.0 w p.2))

  -- a part is played, and what comes after it is left
  pub leads_after : {A B : Type 0} (whole : Script T B) (first : V) (s : Script T A) (k : A → Script T B) (v m : V) (a : A) → Leads whole first (s >>= k) v → Plays tells tags hands s v m a → Leads whole first (k a) m
  leads_after whole first s k v m a l h = record {
    plays = λ w b p. l.plays w b (plays_bind s k v m w a b h p);
    stops = λ w p. l.stops w (stops_after s k v m w a h p);
  }

  module _ {U E : Type 0} where
    pub leads_ends : {A : Type 0} (whole rest : Script T A) (first here w : V) (b : A) (result : Result U E) → Leads whole first rest here → Concludes tells tags hands fails result rest here w b → Concludes tells tags hands fails result whole first w b
    leads_ends whole rest first here w b (Ok done) l h = l.plays w b h
    leads_ends whole rest first here w b (Err e) l h = l.stops w h

    pub ends_tell : {A : Type 0} (r : Told) (s : Script T A) (v m w : V) (b : A) (result : Result U E) → tells v r m → Concludes tells tags hands fails result s m w b → Concludes tells tags hands fails result (Tell r s) v w b
    ends_tell r s v m w b (Ok done) h k = (m, h, k)
    ends_tell r s v m w b (Err e) h k = inr (m, h, k)

    pub ends_ask : {A : Type 0} (host : Host) (octets : List ℕ) (s : T → Script T A) (v m w : V) (t : T) (b : A) (result : Result U E) → tags v host octets t m → Concludes tells tags hands fails result (s t) m w b → Concludes tells tags hands fails result (Ask host octets s) v w b
    ends_ask host octets s v m w t b (Ok done) h k = (m, t, h, k)
    ends_ask host octets s v m w t b (Err e) h k = inr (m, t, h, k)

    pub ends_after : {A B : Type 0} (s : Script T A) (k : A → Script T B) (v m w : V) (a : A) (b : B) (result : Result U E) → Plays tells tags hands s v m a → Concludes tells tags hands fails result (k a) m w b → Concludes tells tags hands fails result (s >>= k) v w b
    ends_after s k v m w a b (Ok done) h e = plays_bind s k v m w a b h e
    ends_after s k v m w a b (Err x) h e = stops_after s k v m w a h e

    -- the last step is not seen
    pub ends_with : {A B : Type 0} (s : Script T A) (f : A → B) (v w : V) (a : A) (b : B) (result : Result U E) → Concludes tells tags hands fails result s v w a → b ≡ f a → Concludes tells tags hands fails result (s >>= λ a. Done (f a)) v w b
    ends_with s f v w a b (Ok done) h e = plays_bind s (λ a. Done (f a)) v w w a b h (refl, sym e)
    ends_with s f v w a b (Err x) h e = stops_within s (λ a. Done (f a)) v w h

    -- only the answer changes
    pub ends_done : {A B : Type 0} (r : Told) (f : A → B) (v w : V) (a b : A) (result : Result U E) → Concludes tells tags hands fails result (Tell r (Done a)) v w b → Concludes tells tags hands fails result (Tell r (Done (f a))) v w (f b)
    ends_done r f v w a b result h = ends_with (Tell r (Done a)) f v w b (f b) result h refl

  -- what holds of the answer whatever tags are answered, holds of the one that was played
  pub answers_hold : {A : Type 0} (fact : A → Type 0) (s : Script T A) (v w : V) (b : A) → Answers fact s → Plays tells tags hands s v w b → fact b
  answers_hold fact (Done a) v w b h p = subst fact p.1 h
  answers_hold fact (Tell r s) v w b h p = answers_hold fact s p.0 w b h p.2
  answers_hold fact (Ask host octets s) v w b h p = answers_hold fact (s p.1) p.0 w b (h p.1) p.3
  answers_hold fact (Hand link o s) v w b h p = answers_hold fact s p.0 w b h p.2
