-- What a shelf does is what a link that delays does.
use Rattle.std.proofs.Common.{◌≡◌, ℕ, Bool, true, false, List, [], ◌∷◌, ◌++◌, append_assoc, filter, ◌&&◌, Option, Some, None, inl, inr, refl, sym, subst, ap, ◌∙◌}
use Rattle.std.proofs.lemmas.Bool.{cases_Bool}
use Rattle.dt_units.specs.declared.endpoints.Flow.{Flow}
use Rattle.dt_flow_model.specs.Frames.{node}
use Rattle.dt_world_model.specs.Host.{Host}
use Rattle.dt_endpoint.specs.declared.answers.Received.{Received}
use Rattle.dt_endpoint.specs.declared.answers.Received.TheVariants as arrived
use Rattle.dt_early.specs.declared.early_data.Data.{Data as DataValue}
use Rattle.dt_early.specs.Early.{Arrives, ArrivesIf, Early, EarlyShelf, HandsIn, Replays, ReplaysFor, again, aged, breaks, early_of, ends, is_alive, may_be_held, pick, is_ready, expected_at, ready, waited_by, with_early}
use Rattle.dt_early.specs.Delays.{AreAt, AreCalls, Call, Delays, HandsOver, IsDelay, IsOneOf, IsWhatCame, hands, here, loses, stays, there}

-- what is picked is one of the list
pub picked_one : (test : Early → Bool) (hs : List Early) (h : Early) → (pick test hs).0 ≡ Some h → IsOneOf h hs (pick test hs).1
picked_one test [] h e = absurd cc
picked_one test (x ∷ hs) h e =
    elim (cases_Bool (test x)) [
      | inl y ↦ rw y (let same : x ≡ h = let k : Some x ≡ Some h = rw y at e in cc in subst (λ (z : Early). IsOneOf h (z ∷ hs) hs) (sym same) here)
      | inr n ↦ rw n (there (picked_one test hs h (rw n at e)))
    ]

one_framed : {h : Early} {hs rest : List Early} (more : List Early) → IsOneOf h hs rest → IsOneOf h (hs ++ more) (rest ++ more)
one_framed more here = here
one_framed more (there one) = there (one_framed more one)

last_one : (h : Early) (hs : List Early) → IsOneOf h (hs ++ h ∷ []) hs
last_one h [] = here
last_one h (x ∷ hs) = there (last_one h hs)

module _ {V : Type 0} where
  pub framed : {cs : List (Call V)} {hs left : List Early} (more : List Early) → Delays cs hs left → Delays cs (hs ++ more) (left ++ more)
  framed more stays = stays
  framed more (hands h one over then) = hands h (one_framed more one) over (framed more then)
  framed more (loses h one then) = loses h (one_framed more one) (framed more then)

  pub joined : {cs ds : List (Call V)} {hs between left : List Early} → Delays cs hs between → Delays ds between left → Delays (cs ++ ds) hs left
  joined stays then = then
  joined (hands h one over on) then = hands h one over (joined on then)
  joined (loses h one on) then = loses h one (joined on then)

  consed : {cs : List (Call V)} {hs left : List Early} (x : Early) → Delays cs hs left → Delays cs (x ∷ hs) (x ∷ left)
  consed x stays = stays
  consed x (hands h one over then) = hands h (there one) over (consed x then)
  consed x (loses h one then) = loses h (there one) (consed x then)

  -- what has no life left is lost
  pub sifted : (test : Early → Bool) (hs : List Early) → Delays {V = V} [] hs (filter test hs)
  sifted test [] = stays
  sifted test (x ∷ hs) =
      elim (cases_Bool (test x)) [
        | inl y ↦ rw y (consed x (sifted test hs))
        | inr n ↦ rw n (loses x here (sifted test hs))
      ]

  module _ (host : V → Host) (arrives : Received → (now link : ℕ) → List ℕ → (waited : ℕ) → V → V → Type 0) where
    abbrev Goes : ℕ → List Early → V → List Early → V → Type 0
    Goes now hs v left w = (calls : List (Call V)) × AreCalls arrives calls v w × AreAt now calls × Delays calls hs left

    abbrev call_of : (now : ℕ) (h : Early) (answer : Received) (after : V) → Call V
    call_of now h answer after = record { now = now; link = h.link; octets = h.octets; waited = waited_by now h; answer = answer; after = after }

    round : (now : ℕ) (h : Early) (answer : Received) (v mid w : V) (hs rest left : List Early) → IsOneOf h hs rest → arrives answer now h.link h.octets (waited_by now h) v mid → Goes now rest mid left w → Goes now hs v left w
    round now h answer v mid w hs rest left one does (calls, are, at, delays) = (call_of now h answer mid ∷ calls, (does, are), (refl, at), hands h one (refl, refl, inr refl) delays)

    pub replayed : (now : ℕ) (flow : Flow) (first last : Received) (s : EarlyShelf) (v : V) (t : EarlyShelf) (w : V) → Replays host arrives now flow first last s v t w → Goes now s.held v t.held w
    replayed now flow first last s v t w (ends none) = ([], refl, tt, stays)
    replayed now flow first last s v t w (again h got mid is does on) =
        let test = is_ready (expected_at (host v) flow) now flow in
        round now h got v mid w s.held (pick test s.held).1 t.held (picked_one test s.held h is) does (replayed now flow first last (ready (host v) now flow s).1 mid t w on)
    replayed now flow first last s v t w (breaks h is does) =
        let test = is_ready (expected_at (host v) flow) now flow in
        round now h arrived.NoMemory v w w s.held (pick test s.held).1 t.held (picked_one test s.held h is) does ([], refl, tt, stays)

    replayed_for : (brought : Option DataValue) (now : ℕ) (first last : Received) (s : EarlyShelf) (v : V) (t : EarlyShelf) (w : V) → ReplaysFor host arrives brought now first last s v t w → Goes now s.held v t.held w
    replayed_for None now first last s v t w (_, same, after) = rw (same, after) ([], refl, tt, stays)
    replayed_for (Some d) now first last s v t w on = replayed now d.flow first last s v t w on

    -- what came, where nothing is known of its data
    abbrev came_so : (now link : ℕ) → List ℕ → (waited : ℕ) → Flow → Early
    came_so now link octets waited f = record { link = link; flow = f; number = 0; octets = octets; life = 0; waited = waited; since = now }

    no_flow : Flow
    no_flow = record { from = node 0; from_port = 0; to = node 0; to_port = 0 }

    handed : (brought : Option DataValue) (answer : Received) (now link : ℕ) (octets : List ℕ) (waited : ℕ) (s : EarlyShelf) (v : V) (t : EarlyShelf) (w : V) → HandsIn host arrives brought answer now link octets waited (aged now s) v t w → IsDelay arrives now link octets waited s v t w
    handed brought answer now link octets waited s v t w (first, mid, does, on) =
        let came = came_so now link octets waited no_flow in
        let then = replayed_for brought now first answer (aged now s) mid t w on in
        let call : Call V = record { now = now; link = link; octets = octets; waited = waited; answer = first; after = mid } in
        (came, record { since = refl; link = refl; octets = refl; waited = refl }, (call ∷ then.0, (does, then.1), (refl, then.2), hands came (last_one came s.held) (refl, refl, inl (refl, refl)) (joined (sifted (is_alive now) s.held) then.3)))

    held : (d : DataValue) (now link : ℕ) (octets : List ℕ) (waited : ℕ) (s : EarlyShelf) (v : V) (t : EarlyShelf) (w : V) → t ≡ with_early (early_of d now link octets waited) (aged now s) → w ≡ v → IsDelay arrives now link octets waited s v t w
    held d now link octets waited s v t w shelf same =
        let came = early_of d now link octets waited in
        rw (shelf) (came, record { since = refl; link = refl; octets = refl; waited = refl }, ([], same, tt, framed (came ∷ []) (sifted (is_alive now) s.held)))

    arrives_so : (b : Bool) (brought : Option DataValue) (answer : Received) (now link : ℕ) (octets : List ℕ) (waited : ℕ) (s : EarlyShelf) (v : V) (t : EarlyShelf) (w : V) → ArrivesIf host arrives b brought answer now link octets waited (aged now s) v t w → IsDelay arrives now link octets waited s v t w
    arrives_so true (Some d) answer now link octets waited s v t w (done, shelf, same) = held d now link octets waited s v t w shelf same
    arrives_so true None answer now link octets waited s v t w on = handed None answer now link octets waited s v t w on
    arrives_so false brought answer now link octets waited s v t w on = handed brought answer now link octets waited s v t w on

    pub delays : (brought : Option DataValue) (answer : Received) (now link : ℕ) (octets : List ℕ) (waited : ℕ) (s t : EarlyShelf) (v w : V) → Arrives host arrives brought answer now link octets waited (aged now s) v t w → IsDelay arrives now link octets waited s v t w
    delays brought answer now link octets waited s t v w (found, on) = arrives_so (may_be_held (host v) brought (aged now s) && found) brought answer now link octets waited s v t w on
