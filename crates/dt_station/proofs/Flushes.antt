-- A link that is flushed, one packet at a time.
use Rattle.std.proofs.Common.{sym, subst, map, slice_index, drop, add-one, ◌≡◌, ℕ, ◌+◌, ◌<◌, ◌==◌, List, [], ◌∷◌, length, Bool, true, false, cond, Option, Some, None, is_some, refl, ◌∙◌, ap, arith, nat_lt, eq-eqb}
use Rattle.std.proofs.lemmas.Bool.Decides.{nat_tests}
use Rattle.std.proofs.Math.Seq.{drop-cons}
use Rattle.dt_layout.specs.Carried.{life_of}
use Rattle.dt_reports.specs.declared.reports.Report.TheVariants.{ExpiredOut, Put}
use Rattle.dt_relay.specs.Places.{link_of, place_of}
use Rattle.dt_relay.proofs.Links.{leave_link, on_link_nowhere}
use Rattle.dt_world_model.specs.Relay.{Expired, Goes, Left, Out, Parcel, Relay, Waiting, last_out, leave, leave_first, left_of, may_leave_from, on_link, with_outs, with_waits}
use Rattle.dt_world_model.specs.Script.{Done, Hand, Script, Tell, ◌>>=◌}
use Rattle.dt_station.specs.Leaving.{let_out}
use Rattle.dt_world_model.specs.Station.{flush, flush_at, flush_on, flush_turns}

module _ {T : Type 0} where
  -- one queue: what came of the first leaves the rest to flush
  turn_step : (b : Bool) (now : ℕ) (out : Out T) (w : Waiting T) (ws : List (Waiting T)) (later : Out T) → later.waits ≡ ws →
      flush_on (flush_turns (length ws) now) (cond {A = Option (Left T) × Out T} b (None, out) (Some (left_of now w), later))
      ≡ flush_on (flush now) (cond {A = Option (Left T) × Out T} b (None, out) (Some (left_of now w), later))
  turn_step true now out w ws later e = refl
  turn_step false now out w ws later e = by (left_of now w)
    where
      by : (left : Left T) → flush_on (flush_turns (length ws) now) (Some left, later) ≡ flush_on (flush now) (Some left, later)
      by (Goes parcel) = rw e refl
      by Expired = rw e refl

  turns_unfold : (now : ℕ) (out : Out T) (ws : List (Waiting T)) → out.waits ≡ ws → flush_turns (length ws) now out ≡ flush_on (flush now) (leave_first now out ws)
  turns_unfold now out [] e = refl
  turns_unfold now out (w ∷ ws) e =
      subst (λ (us : List (Waiting T)). flush_on (flush_turns (length ws) now) (leave_first now out us) ≡ flush_on (flush now) (leave_first now out (w ∷ ws))) (sym e)
      (turn_step (nat_lt now (may_leave_from out.pace out.last)) now out w ws (with_waits out ws (last_out now out.last (left_of now w))) refl)

  flush_unfolds : (now : ℕ) (out : Out T) → flush now out ≡ flush_on (flush now) (leave now out)
  flush_unfolds now out = turns_unfold now out out.waits refl

  -- the queue of a link: what came of its first leaves the link to flush
  abbrev pub flush_left : ℕ → ℕ → Option (Left T) × List (Out T) → Script T (List (Out T))
  flush_left link now (None, outs) = Done outs
  flush_left link now (Some Expired, outs) = Tell (ExpiredOut link) (flush_at link now outs)
  flush_left link now (Some (Goes parcel), outs) = Tell (Put link (life_of parcel.octets)) (Hand link parcel (flush_at link now outs))

  -- the queue that was changed is still that of its link
  here_case : (link now : ℕ) (out : Out T) (outs : List (Out T)) (r : Option (Left T) × Out T) → out.link ≡ link → r.1.link ≡ link →
      (flush_on (flush now) r >>= λ after. Done (after ∷ outs)) ≡ flush_left link now (r.0, r.1 ∷ outs)
  here_case link now out outs (None, later) e f = refl
  here_case link now out outs (Some Expired, later) e f = rw f (rw (eq-eqb link link refl) refl)
  here_case link now out outs (Some (Goes parcel), later) e f = rw f (rw (eq-eqb link link refl) refl)

  later_case : (link now : ℕ) (out : Out T) (r : Option (Left T) × List (Out T)) → (out.link == link) ≡ false →
      (flush_left link now r >>= λ rest. Done (out ∷ rest)) ≡ flush_left link now (r.0, out ∷ r.1)
  later_case link now out (None, outs) e = refl
  later_case link now out (Some Expired, outs) e = rw e refl
  later_case link now out (Some (Goes parcel), outs) e = rw e refl

  at_case : (b : Bool) (link now : ℕ) (out : Out T) (outs : List (Out T)) → flush_at link now outs ≡ flush_left link now (on_link link None (leave now) outs) → (out.link == link) ≡ b →
      flush_at link now (out ∷ outs) ≡ flush_left link now (on_link link None (leave now) (out ∷ outs))
  at_case true link now out outs ih e =
      let here : out.link ≡ link = grind (arith, nat_tests) in
      rw (e, flush_unfolds now out) (here_case link now out outs (leave now out) here (leave_link now out ∙ here))
  at_case false link now out outs ih e = rw (e, ih) (later_case link now out (on_link link None (leave now) outs) e)

  -- To flush a link is to let packets leave it until none does.
  pub at_unfolds : (link now : ℕ) (outs : List (Out T)) → flush_at link now outs ≡ flush_left link now (on_link link None (leave now) outs)
  at_unfolds link now [] = refl
  at_unfolds link now (out ∷ outs) = at_case (out.link == link) link now out outs (at_unfolds link now outs) refl

  left_expired : (link now : ℕ) (r : Option (Left T) × List (Out T)) → Some Expired ≡ r.0 → flush_left link now r ≡ Tell (ExpiredOut link) (flush_at link now r.1)
  left_expired link now (None, outs) h = absurd (cc)
  left_expired link now (Some (Goes parcel), outs) h = absurd (cc)
  left_expired link now (Some Expired, outs) h = refl

  left_goes : (link now : ℕ) (parcel : Parcel T) (r : Option (Left T) × List (Out T)) → Some (Goes parcel) ≡ r.0 → flush_left link now r ≡ Tell (Put link (life_of parcel.octets)) (Hand link parcel (flush_at link now r.1))
  left_goes link now parcel (None, outs) h = absurd (cc)
  left_goes link now parcel (Some Expired, outs) h = absurd (cc)
  left_goes link now parcel (Some (Goes other), outs) h = let e : parcel ≡ other = cc in rw e refl

  left_none : (link now : ℕ) (r : Option (Left T) × List (Out T)) → None ≡ r.0 → flush_left link now r ≡ Done r.1
  left_none link now (None, outs) h = refl
  left_none link now (Some left, outs) h = absurd (cc)

  -- what a call of leave answered says what is left to flush
  module _ (link now : ℕ) (outs rest : List (Out T)) (same : rest ≡ (on_link link None (leave now) outs).1) where
    pub flush_expired : Some Expired ≡ (on_link link None (leave now) outs).0 → flush_at link now outs ≡ Tell (ExpiredOut link) (flush_at link now rest)
    flush_expired h = rw same (at_unfolds link now outs ∙ left_expired link now (on_link link None (leave now) outs) h)

    pub flush_goes : (parcel : Parcel T) → Some (Goes parcel) ≡ (on_link link None (leave now) outs).0 → flush_at link now outs ≡ Tell (Put link (life_of parcel.octets)) (Hand link parcel (flush_at link now rest))
    flush_goes parcel h = rw same (at_unfolds link now outs ∙ left_goes link now parcel (on_link link None (leave now) outs) h)

    pub flush_none : None ≡ (on_link link None (leave now) outs).0 → flush_at link now outs ≡ Done rest
    flush_none h = rw same (at_unfolds link now outs ∙ left_none link now (on_link link None (leave now) outs) h)

  -- each call of leave that answers takes one away
  abbrev pub waiting_on : List (Out T) → ℕ
  waiting_on [] = 0
  waiting_on (out ∷ outs) = length out.waits + waiting_on outs

  first_falls : (b : Bool) (out later : Out T) (w : Waiting T) (ws : List (Waiting T)) (left x : Left T) → later.waits ≡ ws →
      Some x ≡ (cond {A = Option (Left T) × Out T} b (None, out) (Some left, later)).0 → length (cond {A = Option (Left T) × Out T} b (None, out) (Some left, later)).1.waits < length (w ∷ ws)
  first_falls true out later w ws left x e h = absurd (cc)
  first_falls false out later w ws left x e h = let n : length later.waits ≡ length ws = ap length e in omega arith

  one_falls : (now : ℕ) (out : Out T) (ws : List (Waiting T)) (x : Left T) → Some x ≡ (leave_first now out ws).0 → length (leave_first now out ws).1.waits < length ws
  one_falls now out [] x h = absurd (cc)
  one_falls now out (w ∷ ws) x h =
      first_falls (nat_lt now (may_leave_from out.pace out.last)) out (with_waits out ws (last_out now out.last (left_of now w))) w ws (left_of now w) x refl h

  falls_case : (b : Bool) (out : Out T) (outs : List (Out T)) (x : Left T) (here : Option (Left T) × Out T) (later : Option (Left T) × List (Out T)) →
      (Some x ≡ here.0 → length here.1.waits < length out.waits) → (Some x ≡ later.0 → waiting_on later.1 < waiting_on outs) →
      Some x ≡ (cond {A = Option (Left T) × List (Out T)} b (here.0, here.1 ∷ outs) (later.0, out ∷ later.1)).0 →
      waiting_on (cond {A = Option (Left T) × List (Out T)} b (here.0, here.1 ∷ outs) (later.0, out ∷ later.1)).1 < waiting_on (out ∷ outs)
  falls_case true out outs x here later f g h = let k : length here.1.waits < length out.waits = f h in omega arith
  falls_case false out outs x here later f g h = let k : waiting_on later.1 < waiting_on outs = g h in omega arith

  pub leave_falls : (link now : ℕ) (outs : List (Out T)) (x : Left T) → Some x ≡ (on_link link None (leave now) outs).0 → waiting_on (on_link link None (leave now) outs).1 < waiting_on outs
  leave_falls link now [] x h = absurd (cc)
  leave_falls link now (out ∷ outs) x h =
      falls_case (out.link == link) out outs x (leave now out) (on_link link None (leave now) outs) (one_falls now out out.waits x) (leave_falls link now outs x) h

  links_case : {A : Type 0} (b : Bool) (out : Out T) (outs : List (Out T)) (here : A × Out T) (later : A × List (Out T)) → here.1.link ≡ out.link → map link_of later.1 ≡ map link_of outs →
      map link_of (cond {A = A × List (Out T)} b (here.0, here.1 ∷ outs) (later.0, out ∷ later.1)).1 ≡ map link_of (out ∷ outs)
  links_case true out outs here later h k = ap (λ l. l ∷ map link_of outs) h
  links_case false out outs here later h k = ap (λ ls. out.link ∷ ls) k

  -- the links stay where they are
  pub leave_links : (link now : ℕ) (outs : List (Out T)) → map link_of (on_link link None (leave now) outs).1 ≡ map link_of outs
  leave_links link now [] = refl
  leave_links link now (out ∷ outs) = links_case (out.link == link) out outs (leave now out) (on_link link None (leave now) outs) (leave_link now out) (leave_links link now outs)

  -- the first is let out, and the rest is left to flush
  out_first : (link now : ℕ) (r : Option (Left T) × List (Out T)) → true ≡ is_some r.0 → flush_left link now r ≡ (let_out link r >>= flush_at link now)
  out_first link now (None, outs) h = absurd (cc)
  out_first link now (Some Expired, outs) h = refl
  out_first link now (Some (Goes parcel), outs) h = refl

  pub flush_first : (link now : ℕ) (outs : List (Out T)) → true ≡ is_some (on_link link None (leave now) outs).0 → flush_at link now outs ≡ (let_out link (on_link link None (leave now) outs) >>= flush_at link now)
  flush_first link now outs h = at_unfolds link now outs ∙ out_first link now (on_link link None (leave now) outs) h

  pub flush_on_link : (first link now : ℕ) (outs : List (Out T)) → link ≡ first → true ≡ is_some (on_link link None (leave now) outs).0 → flush_at first now outs ≡ (let_out link (on_link link None (leave now) outs) >>= flush_at first now)
  flush_on_link first link now outs e h = subst (λ (l : ℕ). flush_at l now outs ≡ (let_out link (on_link link None (leave now) outs) >>= flush_at l now)) e (flush_first link now outs h)

  some_falls : (o : Option (Left T)) (link now : ℕ) (outs : List (Out T)) → o ≡ (on_link link None (leave now) outs).0 → true ≡ is_some o → waiting_on (on_link link None (leave now) outs).1 < waiting_on outs
  some_falls None link now outs e h = absurd (cc)
  some_falls (Some x) link now outs e h = leave_falls link now outs x e

  pub ready_falls : (link now : ℕ) (outs : List (Out T)) → true ≡ is_some (on_link link None (leave now) outs).0 → waiting_on (on_link link None (leave now) outs).1 < waiting_on outs
  ready_falls link now outs h = some_falls (on_link link None (leave now) outs).0 link now outs refl h

  -- where nothing leaves, nothing changes
  first_stays : (b : Bool) (out later : Out T) (left : Left T) → None ≡ (cond {A = Option (Left T) × Out T} b (None, out) (Some left, later)).0 → (cond {A = Option (Left T) × Out T} b (None, out) (Some left, later)).1 ≡ out
  first_stays true out later left h = refl
  first_stays false out later left h = absurd (cc)

  one_stays : (now : ℕ) (out : Out T) (ws : List (Waiting T)) → None ≡ (leave_first now out ws).0 → (leave_first now out ws).1 ≡ out
  one_stays now out [] h = refl
  one_stays now out (w ∷ ws) h = first_stays (nat_lt now (may_leave_from out.pace out.last)) out (with_waits out ws (last_out now out.last (left_of now w))) (left_of now w) h

  stays_case : (b : Bool) (out : Out T) (outs : List (Out T)) (here : Option (Left T) × Out T) (later : Option (Left T) × List (Out T)) → (None ≡ here.0 → here.1 ≡ out) → (None ≡ later.0 → later.1 ≡ outs) →
      None ≡ (cond {A = Option (Left T) × List (Out T)} b (here.0, here.1 ∷ outs) (later.0, out ∷ later.1)).0 →
      (cond {A = Option (Left T) × List (Out T)} b (here.0, here.1 ∷ outs) (later.0, out ∷ later.1)).1 ≡ out ∷ outs
  stays_case true out outs here later f g h = ap (λ (o : Out T). o ∷ outs) (f h)
  stays_case false out outs here later f g h = ap (λ (os : List (Out T)). out ∷ os) (g h)

  leave_stays : (link now : ℕ) (outs : List (Out T)) → None ≡ (on_link link None (leave now) outs).0 → (on_link link None (leave now) outs).1 ≡ outs
  leave_stays link now [] h = refl
  leave_stays link now (out ∷ outs) h = stays_case (out.link == link) out outs (leave now out) (on_link link None (leave now) outs) (one_stays now out out.waits) (leave_stays link now outs) h

  not_some : (o : Option (Left T)) → false ≡ is_some o → None ≡ o
  not_some None h = refl
  not_some (Some x) h = absurd (cc)

  pub flush_ends : (link now : ℕ) (outs : List (Out T)) → false ≡ is_some (on_link link None (leave now) outs).0 → flush_at link now outs ≡ Done outs
  flush_ends link now outs h =
      let none = not_some (on_link link None (leave now) outs).0 h in
      flush_none link now outs outs (sym (leave_stays link now outs none)) none

  pub flush_ends_on : (first link now : ℕ) (outs : List (Out T)) → link ≡ first → false ≡ is_some (on_link link None (leave now) outs).0 → flush_at first now outs ≡ Done outs
  flush_ends_on first link now outs e h = subst (λ (l : ℕ). flush_at l now outs ≡ Done outs) e (flush_ends link now outs h)

  pub flush_nowhere : (link now : ℕ) (outs : List (Out T)) → None ≡ place_of link_of link outs → flush_at link now outs ≡ Done outs
  flush_nowhere link now outs h = at_unfolds link now outs ∙ ap (flush_left link now) (on_link_nowhere link None (leave now) outs h)

  -- what a call of leave answered says what is told
  module _ (link : ℕ) (outs : List (Out T)) where
    pub out_none : (r : Option (Left T) × List (Out T)) → outs ≡ r.1 → None ≡ r.0 → let_out link r ≡ Done outs
    out_none (None, rest) e h = ap Done (sym e)
    out_none (Some left, rest) e h = absurd (cc)

    pub out_expired : (r : Option (Left T) × List (Out T)) → outs ≡ r.1 → Some Expired ≡ r.0 → let_out link r ≡ Tell (ExpiredOut link) (Done outs)
    out_expired (None, rest) e h = absurd (cc)
    out_expired (Some (Goes parcel), rest) e h = absurd (cc)
    out_expired (Some Expired, rest) e h = ap (λ (os : List (Out T)). Tell (ExpiredOut link) (Done os)) (sym e)

    pub out_goes : (parcel : Parcel T) (r : Option (Left T) × List (Out T)) → outs ≡ r.1 → Some (Goes parcel) ≡ r.0 → let_out link r ≡ Tell (Put link (life_of parcel.octets)) (Hand link parcel (Done outs))
    out_goes parcel (None, rest) e h = absurd (cc)
    out_goes parcel (Some Expired, rest) e h = absurd (cc)
    out_goes parcel (Some (Goes other), rest) e h = let same : parcel ≡ other = cc in rw (same, e) refl

pub next_link : (links now_links : List ℕ) (i link : ℕ) → now_links ≡ links → i < length links → link ≡ slice_index now_links i → drop i links ≡ link ∷ drop (i + 1) links
next_link links now_links i link same small at = rw (add-one, at, same) (drop-cons links i 0 small)

-- only queues change
pub kept : {T : Type 0} (first before after : Relay T) (outs : List (Out T)) → after ≡ with_outs before outs → before ≡ with_outs first before.outs → after ≡ with_outs first after.outs
kept first before after outs a b =
    let ins : before.ins ≡ first.ins = ap (λ (r : Relay _). r.ins) b in
    let routes : before.routes ≡ first.routes = ap (λ (r : Relay _). r.routes) b in
    rw (a, ins, routes) refl
