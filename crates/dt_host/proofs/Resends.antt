-- The moment of a resend as time goes on: it never gets less, and it changes only where one was missed.
use Rattle.std.proofs.Common.{ℕ, ◌≡◌, ◌+◌, ◌≤◌, Bool, true, false, List, [], ◌∷◌, Option, Some, None, refl, sym, ap, ◌∙◌, inl, inr, arith}
use Rattle.std.specs.Prelude.{◌||◌, max, min, nat_lt}
use Rattle.std.specs.List.{list_any}
use Rattle.std.proofs.lemmas.Bool.{cases_Bool, true≢false}
use Rattle.std.proofs.lemmas.Bool.Decides.{nat_tests}
use Rattle.dt_units.specs.declared.parameters.Params.{Params}
use Rattle.dt_units.specs.Moments.{earlier}
use Rattle.dt_flow_model.specs.SendRecord.{Segment}
use Rattle.dt_flow_model.specs.SendActs.{moment_if, resends_from}
use Rattle.dt_host.specs.Soonest.{is_missed}

module _ (p : Params) (since now : ℕ) (le : since ≤ now) where
  abbrev may : ℕ → Segment → Bool
  may t g = nat_lt (max t (g.last + p.rto)) (g.first + p.r)

  abbrev its : ℕ → Segment → Option ℕ
  its t g = moment_if (may t g) (g.last + p.rto)

  -- what may go later may go before
  may_before : (g : Segment) → may now g ≡ true → may since g ≡ true
  may_before g h = grind (arith, nat_tests)

  IsLater : Option ℕ → Option ℕ → Type 0
  IsLater a b = (m : ℕ) → b ≡ Some m → (v : ℕ) × (a ≡ Some v) × (v ≤ m)

  own_later : (g : Segment) (m : ℕ) → its now g ≡ Some m → (v : ℕ) × (its since g ≡ Some v) × (v ≤ m)
  own_later g m h =
      elim (cases_Bool (may now g)) [
        | inl y ↦
            let now_is : moment_if (may now g) (g.last + p.rto) ≡ Some (g.last + p.rto) = ap (λ (b : Bool). moment_if b (g.last + p.rto)) y in
            let same : Some (g.last + p.rto) ≡ Some m = sym now_is ∙ h in
            let is : g.last + p.rto ≡ m = cc in
            (g.last + p.rto, ap (λ (b : Bool). moment_if b (g.last + p.rto)) (may_before g y), omega arith)
        | inr n ↦ let none : None ≡ Some m = sym (ap (λ (b : Bool). moment_if b (g.last + p.rto)) n) ∙ h in absurd (no m none)
      ]
    where
      no : (m : ℕ) → None ≡ Some m → ⊥
      no m e = cc

  both_later : (a b c d : Option ℕ) → ((m : ℕ) → b ≡ Some m → (v : ℕ) × (a ≡ Some v) × (v ≤ m)) → ((m : ℕ) → d ≡ Some m → (v : ℕ) × (c ≡ Some v) × (v ≤ m)) → (m : ℕ) → earlier b d ≡ Some m → (v : ℕ) × (earlier a c ≡ Some v) × (v ≤ m)
  both_later a None c None h k m e = absurd (no m e)
    where
      no : (m : ℕ) → None ≡ Some m → ⊥
      no m e = cc
  both_later a None c (Some n) h k m e = by a (k m e)
    where
      by : (a : Option ℕ) → (v : ℕ) × (c ≡ Some v) × (v ≤ m) → (v : ℕ) × (earlier a c ≡ Some v) × (v ≤ m)
      by None w = w
      by (Some l) w = (min l w.0, ap (earlier (Some l)) w.1, let x = w.2 in omega arith)
  both_later a (Some n) c None h k m e = by c (h m e)
    where
      by : (c : Option ℕ) → (v : ℕ) × (a ≡ Some v) × (v ≤ m) → (v : ℕ) × (earlier a c ≡ Some v) × (v ≤ m)
      by None w = (w.0, ap (λ (o : Option ℕ). earlier o None) w.1, w.2)
      by (Some l) w = (min w.0 l, ap (λ (o : Option ℕ). earlier o (Some l)) w.1, let x = w.2 in omega arith)
  both_later a (Some n) c (Some i) h k m e =
      let v = h n refl in
      let w = k i refl in
      let is : min n i ≡ m = cc in
      let x = v.2 in
      let y = w.2 in
      (min v.0 w.0, ap (λ (o : Option ℕ). earlier o c) v.1 ∙ ap (earlier (Some v.0)) w.1, omega arith)

  pub resend_later : (gs : List Segment) (m : ℕ) → resends_from p now gs ≡ Some m → (v : ℕ) × (resends_from p since gs ≡ Some v) × (v ≤ m)
  resend_later [] m e = absurd (no m e)
    where
      no : (m : ℕ) → None ≡ Some m → ⊥
      no m e = cc
  resend_later (g ∷ gs) m e = both_later (its since g) (its now g) (resends_from p since gs) (resends_from p now gs) (own_later g) (resend_later gs) m e

  -- where none was missed it stands
  own_stands : (g : Segment) → is_missed p now g ≡ false → its since g ≡ its now g
  own_stands g h = ap (λ (b : Bool). moment_if b (g.last + p.rto)) same
    where
      same : may since g ≡ may now g
      same =
          elim (cases_Bool (may now g)) [
            | inl y ↦ may_before g y ∙ sym y
            | inr n ↦
                let off : may since g ≡ false = grind (arith, nat_tests) in off ∙ sym n
          ]

  pub none_missed : (gs : List Segment) → list_any (is_missed p now) gs ≡ false → resends_from p since gs ≡ resends_from p now gs
  none_missed [] h = refl
  none_missed (g ∷ gs) h =
      elim (cases_Bool (is_missed p now g)) [
        | inl y ↦ absurd (true≢false (sym (ap (λ (b : Bool). b || list_any (is_missed p now) gs) y) ∙ h))
        | inr n ↦
            let rest : list_any (is_missed p now) gs ≡ false = sym (ap (λ (b : Bool). b || list_any (is_missed p now) gs) n) ∙ h in
            ap (λ (o : Option ℕ). earlier o (resends_from p since gs)) (own_stands g n) ∙ ap (earlier (its now g)) (none_missed gs rest)
      ]
