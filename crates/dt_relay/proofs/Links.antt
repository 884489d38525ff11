-- Out links by their place and by their number, and what a packet that enters or leaves does to the list of them.
use Rattle.std.proofs.Common.{◌≡◌, ℕ, zero, suc, ◌+◌, ◌<◌, ◌≤◌, ◌==◌, nat_lt, List, [], ◌∷◌, ◌++◌, Bool, true, false, cond, Option, Some, None, slice_get, slice_set, get_or, length, refl, sym, subst, ◌∙◌, ap, arith}
use Rattle.std.proofs.lemmas.Option.{slice_get-get_or}
use Rattle.dt_layout.specs.Carried.{to_of}
use Rattle.dt_world_model.specs.declared.links.Entered.{Entered}
use Rattle.dt_world_model.specs.declared.links.Entered.TheVariants.{Full, NoRoute, Queued}
use Rattle.dt_world_model.specs.Relay.{Left, Out, Parcel, Relay, Waiting, enter, last_out, leave, leave_first, left_of, may_leave_from, most_on_link, on_link, push, route_to, with_outs, with_waits}
use Rattle.dt_relay.specs.Places.{link_of, place_from, place_of}

after_step : (b : Bool) (i k : ℕ) (rest : Option ℕ) → (rest ≡ Some k → i + 1 ≤ k) → cond b (Some i) rest ≡ Some k → i ≤ k
after_step true i k rest ih h = let e : i ≡ k = cc in omega arith
after_step false i k rest ih h = let e : i + 1 ≤ k = ih h in omega arith

-- a place that is found is not before the first that is looked at
pub place_after : {A : Type 0} (key : A → ℕ) (i n k : ℕ) (xs : List A) → place_from key i n xs ≡ Some k → i ≤ k
place_after key i n k [] h = absurd (cc)
place_after key i n k (x ∷ xs) h = after_step (key x == n) i k (place_from key (i + 1) n xs) (place_after key (i + 1) n k xs) h

-- a change's answer, and the queues with the changed one in its place
abbrev pub put_at : {A T : Type 0} → List (Out T) → ℕ → A × Out T → A × List (Out T)
put_at outs k r = (r.0, slice_set outs k r.1)

abbrev pub unchanged : {A T : Type 0} → A → List (Out T) → A × List (Out T)
unchanged otherwise outs = (otherwise, outs)

abbrev pub put_first : {A T : Type 0} → List (Out T) → A × Out T → A × List (Out T)
put_first outs r = (r.0, r.1 ∷ outs)

abbrev pub put_later : {A T : Type 0} → Out T → A × List (Out T) → A × List (Out T)
put_later o r = (r.0, o ∷ r.1)

at_step : {A T : Type 0} (b : Bool) (i j k : ℕ) (rest : Option ℕ) (change : Out T → A × Out T) (o out : Out T) (outs : List (Out T)) (r : A × List (Out T)) →
    (rest ≡ Some j → i + 1 ≤ j) →
    ((m : ℕ) → j ≡ i + 1 + m → rest ≡ Some j → slice_get outs m ≡ Some out → r ≡ put_at outs m (change out)) →
    j ≡ i + k → cond b (Some i) rest ≡ Some j → slice_get (o ∷ outs) k ≡ Some out →
    cond b (put_first outs (change o)) (put_later o r) ≡ put_at (o ∷ outs) k (change out)
at_step true i j zero rest change o out outs r later ih e h at = let same : o ≡ out = cc in rw same refl
at_step true i j (suc k) rest change o out outs r later ih e h at = let same : i ≡ j = cc in absurd (omega arith)
at_step false i j zero rest change o out outs r later ih e h at = let after : i + 1 ≤ j = later h in absurd (omega arith)
at_step false i j (suc k) rest change o out outs r later ih e h at = let there : r ≡ put_at outs k (change out) = ih k (omega arith) h at in rw there refl

-- where the link's place is known, its queue is changed there, and nothing else
pub on_link_from : {A T : Type 0} (link i : ℕ) (otherwise : A) (change : Out T → A × Out T) (outs : List (Out T)) (out : Out T) (k j : ℕ) →
    j ≡ i + k → place_from link_of i link outs ≡ Some j → slice_get outs k ≡ Some out →
    on_link link otherwise change outs ≡ put_at outs k (change out)
on_link_from link i otherwise change [] out k j e h at = absurd (cc)
on_link_from link i otherwise change (o ∷ outs) out k j e h at =
    at_step (o.link == link) i j k (place_from link_of (i + 1) link outs) change o out outs (on_link link otherwise change outs)
    (place_after link_of (i + 1) link j outs) (λ m. on_link_from link (i + 1) otherwise change outs out m j) e h at

pub on_link_at : {A T : Type 0} (link : ℕ) (otherwise : A) (change : Out T → A × Out T) (outs : List (Out T)) (out : Out T) (k : ℕ) →
    Some k ≡ place_of link_of link outs → k < length outs → out ≡ get_or outs k out →
    on_link link otherwise change outs ≡ put_at outs k (change out)
on_link_at link otherwise change outs out k h small at =
    on_link_from link 0 otherwise change outs out k k (omega arith) (sym h) (slice_get-get_or outs k out small ∙ ap Some (sym at))

no_step : {A T : Type 0} (b : Bool) (i : ℕ) (rest : Option ℕ) (otherwise : A) (here : A × List (Out T)) (o : Out T) (outs : List (Out T)) (r : A × List (Out T)) →
    (rest ≡ None → r ≡ unchanged otherwise outs) → cond b (Some i) rest ≡ None → cond b here (put_later o r) ≡ unchanged otherwise (o ∷ outs)
no_step true i rest otherwise here o outs r ih h = absurd (cc)
no_step false i rest otherwise here o outs r ih h = let same : r ≡ unchanged otherwise outs = ih h in rw same refl

pub on_link_none : {A T : Type 0} (link i : ℕ) (otherwise : A) (change : Out T → A × Out T) (outs : List (Out T)) →
    place_from link_of i link outs ≡ None → on_link link otherwise change outs ≡ unchanged otherwise outs
on_link_none link i otherwise change [] h = refl
on_link_none link i otherwise change (o ∷ outs) h =
    no_step (o.link == link) i (place_from link_of (i + 1) link outs) otherwise ((change o).0, (change o).1 ∷ outs) o outs (on_link link otherwise change outs)
    (on_link_none link (i + 1) otherwise change outs) h

pub on_link_nowhere : {A T : Type 0} (link : ℕ) (otherwise : A) (change : Out T → A × Out T) (outs : List (Out T)) →
    None ≡ place_of link_of link outs → on_link link otherwise change outs ≡ unchanged otherwise outs
on_link_nowhere link otherwise change outs h = on_link_none link 0 otherwise change outs (sym h)

abbrev pub put_in : {A T : Type 0} → Relay T → A × List (Out T) → A × Relay T
put_in relay r = (r.0, with_outs relay r.1)

pub enter_there : {T : Type 0} (p : Parcel T) (to now link k : ℕ) (relay : Relay T) (out : Out T) → to ≡ to_of p.octets →
    Some link ≡ route_to to relay.routes → Some k ≡ place_of link_of link relay.outs → k < length relay.outs → out ≡ get_or relay.outs k out →
    enter p now relay ≡ put_in relay (put_at relay.outs k (push p now out))
enter_there p to now link k relay out t r h small at =
    rw (← t, ← r, on_link_at link (NoRoute (to_of p.octets)) (push p now) relay.outs out k h small at) refl

pub enter_nowhere : {T : Type 0} (p : Parcel T) (to now link : ℕ) (relay : Relay T) → to ≡ to_of p.octets →
    Some link ≡ route_to to relay.routes → None ≡ place_of link_of link relay.outs →
    enter p now relay ≡ put_in relay (unchanged (NoRoute (to_of p.octets)) relay.outs)
enter_nowhere p to now link relay t r h =
    let there : Some link ≡ route_to (to_of p.octets) relay.routes = rw t at r in rw (← there, on_link_nowhere link (NoRoute (to_of p.octets)) (push p now) relay.outs h) refl

module _ {T : Type 0} where
  -- a queue stays that of its link
  pushed_link : (b : Bool) (parcel : Parcel T) (now : ℕ) (out : Out T) →
      (cond {A = Entered × Out T} b (Queued out.link, with_waits out (out.waits ++ (record { parcel = parcel; since = now }) ∷ []) out.last) (Full out.link, out)).1.link ≡ out.link
  pushed_link true parcel now out = refl
  pushed_link false parcel now out = refl

  pub push_link : (parcel : Parcel T) (now : ℕ) (out : Out T) → (push parcel now out).1.link ≡ out.link
  push_link parcel now out = pushed_link (nat_lt (length out.waits) most_on_link) parcel now out

  left_link : (b : Bool) (now : ℕ) (out : Out T) (w : Waiting T) (ws : List (Waiting T)) →
      (cond {A = Option (Left T) × Out T} b (None, out) (Some (left_of now w), with_waits out ws (last_out now out.last (left_of now w)))).1.link ≡ out.link
  left_link true now out w ws = refl
  left_link false now out w ws = refl

  first_link : (now : ℕ) (out : Out T) (ws : List (Waiting T)) → (leave_first now out ws).1.link ≡ out.link
  first_link now out [] = refl
  first_link now out (w ∷ ws) = left_link (nat_lt now (may_leave_from out.pace out.last)) now out w ws

  pub leave_link : (now : ℕ) (out : Out T) → (leave now out).1.link ≡ out.link
  leave_link now out = first_link now out out.waits
