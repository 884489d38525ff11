-- What leaves a shelf was held, and so was what stays.
use Rattle.std.proofs.Common.{◌≡◌, ◌<◌, ◌∷◌, [], All, List, Option, Some, None, arith, inl, inr, length, refl, subst, sym, ℕ}
use Rattle.std.specs.Option.{option_map}
use Rattle.std.proofs.lemmas.Bool.{cases_Bool}
use Rattle.std.proofs.lemmas.List.Elements.{All-cons, All-head, All-tail}
use Rattle.dt_units.specs.declared.endpoints.Flow.{Flow}
use Rattle.dt_shelf.specs.declared.taken.Taken.{Taken}
use Rattle.dt_shelf.specs.Shelves.{Held, Shelf, is_of, pick, take_held, taken_at}

-- WHAT IS TAKEN WAS HELD, and what is left was held too
module _ (flow : Flow) (number : ℕ) where
  pub pick_keeps : (P : Held → Type 0) (hs : List Held) → All P hs → All P (pick flow number hs).1
  pick_keeps P [] h = h
  pick_keeps P (x ∷ hs) h =
      elim (cases_Bool (is_of flow number x)) [
        | inl y ↦ rw y (All-tail P x hs h)
        | inr n ↦ rw n (All-cons P x (pick flow number hs).1 (All-head P x hs h) (pick_keeps P hs (All-tail P x hs h)))
      ]

  pub pick_had : (P : Held → Type 0) (hs : List Held) (x : Held) → (pick flow number hs).0 ≡ Some x → All P hs → P x
  pick_had P [] x e h = absurd cc
  pick_had P (y ∷ hs) x e h =
      elim (cases_Bool (is_of flow number y)) [
        | inl t ↦ let same : y ≡ x = let k : Some y ≡ Some x = rw t at e in cc in subst P same (All-head P y hs h)
        | inr n ↦ pick_had P hs x (rw n at e) (All-tail P y hs h)
      ]

  pub pick_falls : (hs : List Held) (x : Held) → (pick flow number hs).0 ≡ Some x → length (pick flow number hs).1 < length hs
  pick_falls [] x e = absurd cc
  pick_falls (y ∷ hs) x e =
      elim (cases_Bool (is_of flow number y)) [
        | inl t ↦ rw t (omega arith)
        | inr n ↦ rw n (let less = pick_falls hs x (rw n at e) in omega (arith, less))
      ]

  map_some : (now : ℕ) (o : Option Held) (t : Taken) → option_map (taken_at now) o ≡ Some t → (h : Held) × (o ≡ Some h) × (taken_at now h ≡ t)
  map_some now None t e = absurd cc
  map_some now (Some h) t e = (h, refl, cc)

  pub take_had : (now : ℕ) (shelf : Shelf) (t : Taken) → (take_held flow number now shelf).0 ≡ Some t → (h : Held) × ((pick flow number shelf.held).0 ≡ Some h) × (taken_at now h ≡ t)
  take_had now shelf t e = map_some now (pick flow number shelf.held).0 t e

  pub take_falls : (now : ℕ) (shelf after : Shelf) (t : Taken) → Some t ≡ (take_held flow number now shelf).0 → after ≡ (take_held flow number now shelf).1 → length after.held < length shelf.held
  take_falls now shelf after t e left =
      let h = take_had now shelf t (sym e) in
      subst (λ (s : Shelf). length s.held < length shelf.held) (sym left) (pick_falls shelf.held h.0 h.1)
