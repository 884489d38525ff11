-- The packet at the first place of its flow and number is the one that is picked.
use Rattle.std.proofs.Common.{◌≡◌, ◌-◌, ◌+◌, ◌<◌, ◌≤◌, ℕ, zero, suc, true, false, nat_le, All, List, [], ◌∷◌, length, get_or, Option, Some, None, refl, ap, sym, subst, ◌∙◌, arith, le-leb}
use borrow.Author.Tests.{lt-leb}
use Rattle.std.specs.List.{position, remove}
use Rattle.std.specs.Option.{option_map}
use Rattle.std.proofs.lemmas.List.Quantifiers.{position-Some}
use Rattle.std.proofs.lemmas.List.Sums.{fails_before_first}
use Rattle.dt_units.specs.declared.endpoints.Flow.{Flow}
use Rattle.dt_layout.specs.Carried.{life_of, lowered}
use Rattle.dt_shelf.specs.declared.taken.Taken.{Taken}
use Rattle.dt_shelf.specs.declared.taken.Taken.TheVariants.{Again, Stale}
use Rattle.dt_shelf.specs.Shelves.{Held, Shelf, is_of, pick, taken_at}

module _ (flow : Flow) (number : ℕ) where
  passed_over : (h : Held) (hs : List Held) → is_of flow number h ≡ false → pick flow number (h ∷ hs) ≡ ((pick flow number hs).0, h ∷ (pick flow number hs).1)
  passed_over h hs e = rw e refl

  pick_at : (hs : List Held) (i : ℕ) (d : Held) → i < length hs → d ≡ get_or hs i d → is_of flow number (get_or hs i d) ≡ true → ((k : ℕ) → k < i → is_of flow number (get_or hs k d) ≡ false) → pick flow number hs ≡ (Some d, remove hs i)
  pick_at [] i d h is hit misses = absurd (omega arith)
  pick_at (x ∷ hs) zero d h is hit misses = rw (hit, sym is) refl
  pick_at (x ∷ hs) (suc i) d h is hit misses =
      passed_over x hs (misses zero (omega arith)) ∙ ap (λ (r : Option Held × List Held). (r.0, x ∷ r.1)) (pick_at hs i d (omega arith) is hit (λ k below. misses (suc k) (omega arith)))

  pub picked : (hs : List Held) (i : ℕ) (d : Held) → position (is_of flow number) hs ≡ Some i → d ≡ get_or hs i d → pick flow number hs ≡ (Some d, remove hs i)
  picked hs i d at is = let first = position-Some (is_of flow number) hs i d at in pick_at hs i d first.0 is first.1 first.2

  pick_none : (hs : List Held) → ((k : ℕ) (d : Held) → k < length hs → is_of flow number (get_or hs k d) ≡ false) → pick flow number hs ≡ (None, hs)
  pick_none [] misses = refl
  pick_none (x ∷ hs) misses = passed_over x hs (misses zero x (omega arith)) ∙ ap (λ (r : Option Held × List Held). (r.0, x ∷ r.1)) (pick_none hs (λ k d below. misses (suc k) d (omega arith)))

  pub nowhere : (hs : List Held) → position (is_of flow number) hs ≡ None → pick flow number hs ≡ (None, hs)
  nowhere hs at = pick_none hs (λ k d below. fails_before_first (is_of flow number) hs k d (grind (arith, at, below)))

  module _ (now : ℕ) where
    pub took : (hs : List Held) (i : ℕ) (d : Held) (t : Taken) → position (is_of flow number) hs ≡ Some i → d ≡ get_or hs i d → t ≡ taken_at now d → Some t ≡ option_map (taken_at now) (pick flow number hs).0
    took hs i d t at is e = ap Some e ∙ sym (ap (λ (r : Option Held × List Held). option_map (taken_at now) r.0) (picked hs i d at is))

    pub is_stale : (d : Held) → life_of d.frame ≤ now - d.since + 1 → Stale ≡ taken_at now d
    is_stale d h = let e : nat_le (life_of d.frame) (now - d.since + 1) ≡ true = le-leb _ _ h in rw e refl

    pub is_again : (d : Held) → now - d.since + 1 < life_of d.frame → Again d.link (lowered (now - d.since + 1) d.frame) ≡ taken_at now d
    is_again d h = let e : nat_le (life_of d.frame) (now - d.since + 1) ≡ false = lt-leb _ _ h in rw e refl

  pub since_at : (now : ℕ) (hs : List Held) (i : ℕ) (d : Held) → position (is_of flow number) hs ≡ Some i → d ≡ get_or hs i d → All (λ (h : Held). h.since ≤ now) hs → d.since ≤ now
  since_at now hs i d at is past = let first = position-Some (is_of flow number) hs i d at in subst (λ (h : Held). h.since ≤ now) (sym is) (past i d first.0)

  abbrev with_held : ℕ → List Held → Shelf
  with_held room hs = record { room = room; held = hs }

  pub left_by : (room : ℕ) (hs rest : List Held) (shelf : Shelf) (i : ℕ) (d : Held) → with_held room hs ≡ shelf → position (is_of flow number) shelf.held ≡ Some i → d ≡ get_or hs i d → rest ≡ remove hs i → with_held room rest ≡ with_held shelf.room (pick flow number shelf.held).1
  left_by room hs rest shelf i d view at is left =
      subst (λ (s : Shelf). position (is_of flow number) s.held ≡ Some i → with_held room rest ≡ with_held s.room (pick flow number s.held).1) view
      (λ at. ap (with_held room) (left ∙ sym (ap (λ (r : Option Held × List Held). r.1) (picked hs i d at is)))) at
