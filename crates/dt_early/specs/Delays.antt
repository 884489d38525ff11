-- A shelf is a link that delays: what is behind it sees calls that it could see without one, in which each datagram comes at most once, later, and has waited so much longer.
use Rattle.std.specs.Prelude.{◌≡◌, ℕ, ◌⊎◌, List, [], ◌∷◌, ◌++◌}
use Rattle.dt_endpoint.specs.declared.answers.Received.{Received}
use Rattle.dt_early.specs.Early.{Early, EarlyShelf, waited_by}

-- A DATAGRAM CAME at a moment on a link, and had waited so long
pub record IsWhatCame (h : Early) (now on : ℕ) (datagram : List ℕ) (long : ℕ) : Type 0 where
  pub since : h.since ≡ now
  pub link : h.link ≡ on
  pub octets : h.octets ≡ datagram
  pub waited : h.waited ≡ long

-- one of a list, and the others in their order
pub data IsOneOf (h : Early) : List Early → List Early → Type 0 where
  here : {hs : List Early} → IsOneOf h (h ∷ hs) hs
  there : {x : Early} {hs rest : List Early} → IsOneOf h hs rest → IsOneOf h (x ∷ hs) (x ∷ rest)

-- A CALL WITHOUT A SHELF, with its answer and what is behind then
pub record Call (V : Type 0) : Type 0 where
  pub now : ℕ
  pub link : ℕ
  pub octets : List ℕ
  pub waited : ℕ
  pub answer : Received
  pub after : V

module _ {V : Type 0} where
  -- IT HANDS IN what came, as it came and at once, or later with the time between more
  abbrev pub HandsOver : Early → Call V → Type 0
  HandsOver h c = (c.link ≡ h.link) × (c.octets ≡ h.octets) × (((c.now ≡ h.since) × (c.waited ≡ h.waited)) ⊎ (c.waited ≡ waited_by c.now h))

  -- EACH CALL HANDS IN ONE OF THOSE UNDER WAY, which is under way no more; some are lost, and the others stay
  pub data Delays : List (Call V) → List Early → List Early → Type 0 where
    stays : {hs : List Early} → Delays [] hs hs
    hands : {c : Call V} {cs : List (Call V)} {hs rest left : List Early} (h : Early) → IsOneOf h hs rest → HandsOver h c → Delays cs rest left → Delays (c ∷ cs) hs left
    loses : {cs : List (Call V)} {hs rest left : List Early} (h : Early) → IsOneOf h hs rest → Delays cs rest left → Delays cs hs left

  -- all at one moment
  abbrev pub AreAt : ℕ → List (Call V) → Type 0
  AreAt now [] = Unit {0}
  AreAt now (c ∷ cs) = (c.now ≡ now) × AreAt now cs

  module _ (arrives : Received → (now link : ℕ) → List ℕ → (waited : ℕ) → V → V → Type 0) where
    -- the calls are made one after another, each as its contract says
    abbrev pub AreCalls : List (Call V) → V → V → Type 0
    AreCalls [] v w = w ≡ v
    AreCalls (c ∷ cs) v w = arrives c.answer c.now c.link c.octets c.waited v c.after × AreCalls cs c.after w

    -- ONE CALL OF A SHELF is a list of calls without, at its moment: of what is on the shelf and what came
    abbrev pub IsDelay : (now link : ℕ) → List ℕ → (waited : ℕ) → EarlyShelf → V → EarlyShelf → V → Type 0
    IsDelay now link octets waited s v t w = (came : Early) × IsWhatCame came now link octets waited × ((calls : List (Call V)) × AreCalls calls v w × AreAt now calls × Delays calls (s.held ++ came ∷ []) t.held)
