-- Tables
use Rattle.std.proofs.Common.{ℕ, ◌≡◌, ◌==◌, Bool, true, false, List, [], ◌∷◌, Option, Some, None, refl, inl, inr, subst, arith}
use Rattle.std.proofs.lemmas.Bool.{cases_Bool, and_parts}
use Rattle.std.proofs.lemmas.Bool.Decides.{nat_tests}
use Rattle.dt_units.specs.declared.endpoints.Flow.{Flow}
use Rattle.dt_world_model.specs.Tables.{same_flow, look, write, erase, write_or_erase, Lacks, Distinct, AllEntries}
use Rattle.dt_flow_model.specs.Frames.{flow_between}

module _ (K A : Type 0) (same : K → K → Bool) (self : (k : K) → same k k ≡ true) (is : (j k : K) → same j k ≡ true → j ≡ k) where
  -- keys apart are apart both ways
  apart : (j k : K) → same j k ≡ false → same k j ≡ false
  apart j k h = elim (cases_Bool (same k j)) [ inl y ↦ (let e : k ≡ j = is k j y in let t : same j k ≡ true = subst (λ i. same i k ≡ true) e (self k) in absurd cc) | inr n ↦ n ]

  pub look_write : (k : K) (a : A) (es : List (K × A)) → look same k (write same k a es) ≡ Some a
  look_write k a [] = rw (self k)
  look_write k a (e ∷ es) = elim (cases_Bool (same e.0 k)) [ inl y ↦ rw (y, self k) | inr n ↦ rw (n, n) (look_write k a es) ]

  pub look_write_other : (j k : K) (a : A) (es : List (K × A)) → same k j ≡ false → look same j (write same k a es) ≡ look same j es
  look_write_other j k a [] h = rw h
  look_write_other j k a (e ∷ es) h =
      elim (cases_Bool (same e.0 k)) [
        | inl y ↦ let e' : e.0 ≡ k = is e.0 k y in let h' : same e.0 j ≡ false = rw e' h in rw (y, h, h')
        | inr n ↦ rw n (elim (cases_Bool (same e.0 j)) [ inl y' ↦ rw y' | inr n' ↦ rw n' (look_write_other j k a es h) ])
      ]

  pub look_lacks : (k : K) (es : List (K × A)) → Lacks same k es → look same k es ≡ None
  look_lacks k [] h = refl
  look_lacks k (e ∷ es) h = rw (h.0) (look_lacks k es h.1)

  pub look_erase : (k : K) (es : List (K × A)) → Distinct same es → look same k (erase same k es) ≡ None
  look_erase k [] h = refl
  look_erase k (e ∷ es) h =
      elim (cases_Bool (same e.0 k)) [
        | inl y ↦ let e' : e.0 ≡ k = is e.0 k y in let l : Lacks same k es = subst (λ i. Lacks same i es) e' h.0 in rw y (look_lacks k es l)
        | inr n ↦ rw (n, n) (look_erase k es h.1)
      ]

  pub look_erase_other : (j k : K) (es : List (K × A)) → same k j ≡ false → look same j (erase same k es) ≡ look same j es
  look_erase_other j k [] h = refl
  look_erase_other j k (e ∷ es) h =
      elim (cases_Bool (same e.0 k)) [
        | inl y ↦ let e' : e.0 ≡ k = is e.0 k y in let h' : same e.0 j ≡ false = rw e' h in rw (y, h')
        | inr n ↦ rw n (elim (cases_Bool (same e.0 j)) [ inl y' ↦ rw y' | inr n' ↦ rw n' (look_erase_other j k es h) ])
      ]

  pub look_set : (k : K) (o : Option A) (es : List (K × A)) → Distinct same es → look same k (write_or_erase same k o es) ≡ o
  look_set k None es h = look_erase k es h
  look_set k (Some a) es h = look_write k a es

  pub look_set_other : (j k : K) (o : Option A) (es : List (K × A)) → same k j ≡ false → look same j (write_or_erase same k o es) ≡ look same j es
  look_set_other j k None es h = look_erase_other j k es h
  look_set_other j k (Some a) es h = look_write_other j k a es h

  lacks_write : (j k : K) (a : A) (es : List (K × A)) → same k j ≡ false → Lacks same j es → Lacks same j (write same k a es)
  lacks_write j k a [] h l = (h, tt)
  lacks_write j k a (e ∷ es) h l = elim (cases_Bool (same e.0 k)) [ inl y ↦ rw y (h, l.1) | inr n ↦ rw n (l.0, lacks_write j k a es h l.1) ]

  lacks_erase : (j k : K) (es : List (K × A)) → Lacks same j es → Lacks same j (erase same k es)
  lacks_erase j k [] l = tt
  lacks_erase j k (e ∷ es) l = elim (cases_Bool (same e.0 k)) [ inl y ↦ rw y (l.1) | inr n ↦ rw n (l.0, lacks_erase j k es l.1) ]

  pub distinct_write : (k : K) (a : A) (es : List (K × A)) → Distinct same es → Distinct same (write same k a es)
  distinct_write k a [] h = (tt, tt)
  distinct_write k a (e ∷ es) h =
      elim (cases_Bool (same e.0 k)) [
        | inl y ↦ let e' : e.0 ≡ k = is e.0 k y in let l : Lacks same k es = subst (λ i. Lacks same i es) e' h.0 in rw y (l, h.1)
        | inr n ↦ rw n (lacks_write e.0 k a es (apart e.0 k n) h.0, distinct_write k a es h.1)
      ]

  pub distinct_erase : (k : K) (es : List (K × A)) → Distinct same es → Distinct same (erase same k es)
  distinct_erase k [] h = tt
  distinct_erase k (e ∷ es) h = elim (cases_Bool (same e.0 k)) [ inl y ↦ rw y (h.1) | inr n ↦ rw n (lacks_erase e.0 k es h.0, distinct_erase k es h.1) ]

  pub distinct_set : (k : K) (o : Option A) (es : List (K × A)) → Distinct same es → Distinct same (write_or_erase same k o es)
  distinct_set k None es h = distinct_erase k es h
  distinct_set k (Some a) es h = distinct_write k a es h

  module _ (P : K → A → Type 0) where
    pub all_write : (k : K) (a : A) (es : List (K × A)) → P k a → AllEntries P es → AllEntries P (write same k a es)
    all_write k a [] p h = (p, tt)
    all_write k a (e ∷ es) p h = elim (cases_Bool (same e.0 k)) [ inl y ↦ rw y (p, h.1) | inr n ↦ rw n (h.0, all_write k a es p h.1) ]

    pub all_erase : (k : K) (es : List (K × A)) → AllEntries P es → AllEntries P (erase same k es)
    all_erase k [] h = tt
    all_erase k (e ∷ es) h = elim (cases_Bool (same e.0 k)) [ inl y ↦ rw y (h.1) | inr n ↦ rw n (h.0, all_erase k es h.1) ]

    pub all_set : (k : K) (o : Option A) (es : List (K × A)) → ((a : A) → o ≡ Some a → P k a) → AllEntries P es → AllEntries P (write_or_erase same k o es)
    all_set k None es p h = all_erase k es h
    all_set k (Some a) es p h = all_write k a es (p a refl) h

    pub all_look : (k : K) (a : A) (es : List (K × A)) → look same k es ≡ Some a → AllEntries P es → P k a
    all_look k a [] e h = absurd cc
    all_look k a (x ∷ es) e h =
        elim (cases_Bool (same x.0 k)) [
          | inl y ↦ let v : Some x.1 ≡ Some a = rw y at e in let v' : x.1 ≡ a = cc in let k' : x.0 ≡ k = is x.0 k y in subst (λ i. P i a) k' (subst (λ b. P x.0 b) v' h.0)
          | inr n ↦ let r : look same k es ≡ Some a = rw n at e in all_look k a es r h.1
        ]

  -- what holds of each entry that is found holds of each entry
  pub all_found : (P : K → A → Type 0) (es : List (K × A)) → Distinct same es → ((k : K) (a : A) → look same k es ≡ Some a → P k a) → AllEntries P es
  all_found P [] h on = tt
  all_found P (e ∷ es) h on = (on e.0 e.1 (rw (self e.0) refl), all_found P es h.1 (λ k a found. on k a (behind k a found)))
    where
      behind : (k : K) (a : A) → look same k es ≡ Some a → look same k (e ∷ es) ≡ Some a
      behind k a found =
          elim (cases_Bool (same e.0 k)) [
            | inl y ↦ let l : Lacks same k es = subst (λ i. Lacks same i es) (is e.0 k y) h.0 in let none = look_lacks k es l in absurd cc
            | inr n ↦ rw n found
          ]

-- equal flows
pub nat_self : (n : ℕ) → (n == n) ≡ true
nat_self n = grind (arith, nat_tests)

pub nat_is : (m n : ℕ) → (m == n) ≡ true → m ≡ n
nat_is m n h = grind (arith, nat_tests)

pub flow_self : (f : Flow) → same_flow f f ≡ true
flow_self f = rw (nat_self f.from.0, nat_self f.from_port, nat_self f.to.0, nat_self f.to_port)

same_parts : (f g : Flow) → f.from.0 ≡ g.from.0 → f.from_port ≡ g.from_port → f.to.0 ≡ g.to.0 → f.to_port ≡ g.to_port → f ≡ g
same_parts f g a b c d = let e : flow_between f.from.0 f.from_port f.to.0 f.to_port ≡ flow_between g.from.0 g.from_port g.to.0 g.to_port = rw (a, b, c, d) in e

pub flow_is : (f g : Flow) → same_flow f g ≡ true → f ≡ g
flow_is f g h =
    let p = and_parts _ _ h in
    let q = and_parts _ _ p.0 in
    let r = and_parts _ _ q.0 in
    same_parts f g (nat_is f.from.0 g.from.0 r.0) (nat_is f.from_port g.from_port r.1) (nat_is f.to.0 g.to.0 q.1) (nat_is f.to_port g.to_port p.1)
