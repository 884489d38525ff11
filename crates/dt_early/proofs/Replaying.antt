-- A round more: what is ready is handed in, and what is left is handed in after it.
use Rattle.std.proofs.Common.{◌≡◌, ℕ, List, Option, Some, None, ap, subst, sym, ◌∙◌}
use Rattle.dt_units.specs.declared.endpoints.Flow.{Flow}
use Rattle.dt_world_model.specs.Host.{Host}
use Rattle.dt_endpoint.specs.declared.answers.Received.{Received}
use Rattle.dt_endpoint.specs.declared.answers.Received.TheVariants.{NoMemory}
use Rattle.dt_early.specs.Early.{Early, EarlyShelf, Replays, again, breaks, ends, expected_at, is_ready, ready, waited_by, with_held}
use Rattle.dt_early.proofs.Picking.{none_left}

module _ {V : Type 0} (host : V → Host) (arrives : Received → (now link : ℕ) → List ℕ → (waited : ℕ) → V → V → Type 0) (now : ℕ) (flow : Flow) (first : Received) where
  -- what is left leads to the end of all
  abbrev pub Leads : EarlyShelf → V → EarlyShelf → V → Type 0
  Leads s v at x = (last : Received) (t : EarlyShelf) (w : V) → Replays host arrives now flow first last at x t w → Replays host arrives now flow first last s v t w

  pub goes_on : (s at left : EarlyShelf) (v x mid : V) (h : Early) (got : Received) → Leads s v at x → Some h ≡ (ready (host x) now flow at).0 → left ≡ (ready (host x) now flow at).1 → arrives got now h.link h.octets (waited_by now h) x mid → Leads s v left mid
  goes_on s at left v x mid h got leads is rest does last t w r = leads last t w (again h got mid (sym is) does (subst (λ (l : EarlyShelf). Replays host arrives now flow first last l mid t w) rest r))

  -- nothing is ready, and the shelf is as it was
  pub stops : (s at left : EarlyShelf) (v x : V) → Leads s v at x → None ≡ (ready (host x) now flow at).0 → left ≡ (ready (host x) now flow at).1 → Replays host arrives now flow first first s v left x
  stops s at left v x leads is rest =
      let same : left ≡ at = rest ∙ ap (λ (hs : List Early). with_held hs at) (none_left (is_ready (expected_at (host x) flow) now flow) at.held (sym is)) in
      leads first left x (subst (λ (l : EarlyShelf). Replays host arrives now flow first first at x l x) (sym same) (ends (sym is)))

  pub broke : (s at left : EarlyShelf) (v x mid : V) (h : Early) → Leads s v at x → Some h ≡ (ready (host x) now flow at).0 → left ≡ (ready (host x) now flow at).1 → arrives NoMemory now h.link h.octets (waited_by now h) x mid → Replays host arrives now flow first NoMemory s v left mid
  broke s at left v x mid h leads is rest does = leads NoMemory left mid (subst (λ (l : EarlyShelf). Replays host arrives now flow first NoMemory at x l mid) (sym rest) (breaks h (sym is) does))

  -- what is handed in, by the parts of what was taken
  pub handed_by : (view h : Early) (octets : List ℕ) (waited : ℕ) (got : Received) (x mid : V) → view ≡ h → octets ≡ view.octets → waited ≡ waited_by now h → arrives got now view.link octets waited x mid → arrives got now h.link h.octets (waited_by now h) x mid
  handed_by view h octets waited got x mid is spelled long does =
      let a : arrives got now view.link view.octets waited x mid = subst (λ (o : List ℕ). arrives got now view.link o waited x mid) spelled does in
      let b : arrives got now view.link view.octets (waited_by now h) x mid = subst (λ (w : ℕ). arrives got now view.link view.octets w x mid) long a in
      subst (λ (z : Early). arrives got now z.link z.octets (waited_by now h) x mid) is b
