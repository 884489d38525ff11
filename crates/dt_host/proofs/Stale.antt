-- Moments of resends that are no more: as many as senders at most that missed one, and each look takes one away.
use Rattle.std.proofs.Common.{ℕ, zero, suc, ◌≡◌, ◌+◌, ◌≤◌, Bool, true, false, cond, List, [], ◌∷◌, set, Option, Some, None, refl, sym, ap, subst, ◌∙◌, inl, inr, arith}
use Rattle.std.specs.Prelude.{nat_eq, slice_get}
use Rattle.std.specs.Option.{option_eq}
use Rattle.std.proofs.lemmas.Bool.{cases_Bool, eq-eqb, eqb-true, false≢true}
use Rattle.dt_units.specs.declared.parameters.Params.{Params}
use Rattle.dt_units.specs.declared.endpoints.Flow.{Flow}
use Rattle.dt_flow_model.specs.declared.moments.SendMoments.{SendMoments}
use Rattle.dt_flow_model.specs.SendRecord.{SendRecord}
use Rattle.dt_flow_model.specs.SendActs.{resends_from}
use Rattle.dt_world_model.specs.Host.{one_if}
use Rattle.dt_host.specs.Notes.{SendNote, with_resend}
use Rattle.dt_table.specs.Tables.{AreNoted}
use Rattle.dt_host.specs.Notes.{IsSendNoted}
use Rattle.dt_host.specs.Soonest.{has_missed, missed_senders}
use Rattle.dt_table.proofs.Somes.{none_some, same_some}
use Rattle.dt_host.proofs.Resends.{none_missed}

abbrev differs : Option ℕ → Option ℕ → ℕ
differs None None = 0
differs None (Some m) = 1
differs (Some m) None = 1
differs (Some m) (Some n) = cond (nat_eq m n) 0 1

same_differs : (a b : Option ℕ) → a ≡ b → differs a b ≡ 0
same_differs a b e = ap (λ (o : Option ℕ). differs o b) e ∙ itself b
  where
    itself : (o : Option ℕ) → differs o o ≡ 0
    itself None = refl
    itself (Some m) = ap (λ (t : Bool). cond t 0 1) (eq-eqb m m refl)

most_differs : (a b : Option ℕ) → differs a b ≤ 1
most_differs None None = omega arith
most_differs None (Some m) = omega arith
most_differs (Some m) None = omega arith
most_differs (Some m) (Some n) = by (nat_eq m n)
  where
    by : (t : Bool) → cond t 0 1 ≤ 1
    by true = omega arith
    by false = omega arith

apart_differs : (a b : Option ℕ) → (a ≡ b → ⊥) → differs a b ≡ 1
apart_differs None None apart = absurd (apart refl)
apart_differs None (Some m) apart = refl
apart_differs (Some m) None apart = refl
apart_differs (Some m) (Some n) apart =
    elim (cases_Bool (nat_eq m n)) [
      | inl y ↦ absurd (apart (ap (λ (k : ℕ). Some k) (eqb-true m n y)))
      | inr f ↦ ap (λ (t : Bool). cond t 0 1) f
    ]

module _ (p : Params) (now : ℕ) where
  abbrev stale_one : SendRecord → SendNote → ℕ
  stale_one x n = differs n.moments.resend (resends_from p now x.outstanding)

  abbrev pub stale : List (Flow × SendRecord) → List SendNote → ℕ
  stale [] ns = 0
  stale (e ∷ rs) [] = 0
  stale (e ∷ rs) (n ∷ ns) = stale_one e.1 n + stale rs ns

  one_most : (x : SendRecord) (n : SendNote) → IsSendNoted p now x n → stale_one x n ≤ one_if (has_missed p now x)
  one_most x n is =
      elim (cases_Bool (has_missed p now x)) [
        | inl y ↦ let one = most_differs n.moments.resend (resends_from p now x.outstanding) in let e = ap one_if y in omega arith
        | inr f ↦
            let same = same_differs n.moments.resend (resends_from p now x.outstanding) (ap (λ (m : SendMoments). m.resend) is.moments ∙ none_missed p is.since now is.past x.outstanding f) in
            omega arith
      ]

  pub stale_most : (rs : List (Flow × SendRecord)) (ns : List SendNote) → AreNoted (IsSendNoted p now) rs ns → stale rs ns ≤ missed_senders p now rs
  stale_most [] ns all = omega arith
  stale_most (e ∷ rs) [] all = absurd all
  stale_most (e ∷ rs) (n ∷ ns) all = let a = one_most e.1 n all.0 in let b = stale_most rs ns all.1 in omega arith

  -- a note that is made right
  abbrev pub righted : SendRecord → SendNote → SendNote
  righted x n = with_resend n (resends_from p now x.outstanding)

  pub righted_is : (x : SendRecord) (n : SendNote) → IsSendNoted p now x n → IsSendNoted p now x (righted x n)
  righted_is x n is = record {
    since = now;
    past = omega arith;
    moments = ap (λ (m : SendMoments). let k : SendMoments = record m { resend = resends_from p now x.outstanding } in k) is.moments;
    wake = is.wake;
  }

  pub righted_all : (rs : List (Flow × SendRecord)) (ns : List SendNote) (i : ℕ) (e : Flow × SendRecord) (n : SendNote) → AreNoted (IsSendNoted p now) rs ns → slice_get rs i ≡ Some e → slice_get ns i ≡ Some n → AreNoted (IsSendNoted p now) rs (set ns i (righted e.1 n))
  righted_all [] ns i e n all at note = absurd (none_some e at)
  righted_all (d ∷ rs) [] i e n all at note = absurd all
  righted_all (d ∷ rs) (m ∷ ns) zero e n all at note =
      let is : IsSendNoted p now d.1 n = subst (IsSendNoted p now d.1) (same_some m n note) all.0 in
      (subst (λ (c : Flow × SendRecord). IsSendNoted p now d.1 (righted c.1 n)) (same_some d e at) (righted_is d.1 n is), all.1)
  righted_all (d ∷ rs) (m ∷ ns) (suc i) e n all at note = (all.0, righted_all rs ns i e n all.1 at note)

  pub one_less : (rs : List (Flow × SendRecord)) (ns : List SendNote) (i : ℕ) (e : Flow × SendRecord) (n : SendNote) → slice_get rs i ≡ Some e → slice_get ns i ≡ Some n → (n.moments.resend ≡ resends_from p now e.1.outstanding → ⊥) → stale rs (set ns i (righted e.1 n)) + 1 ≡ stale rs ns
  one_less [] ns i e n at note apart = absurd (none_some e at)
  one_less (d ∷ rs) [] i e n at note apart = absurd (none_some n note)
  one_less (d ∷ rs) (m ∷ ns) zero e n at note apart =
      let same = same_some d e at in
      let own = same_some m n note in
      let now_none : stale_one d.1 (righted e.1 n) ≡ 0 = same_differs (resends_from p now e.1.outstanding) (resends_from p now d.1.outstanding) (ap (λ (c : Flow × SendRecord). resends_from p now c.1.outstanding) (sym same)) in
      let was_one : stale_one d.1 m ≡ 1 = apart_differs m.moments.resend (resends_from p now d.1.outstanding) (λ f. apart (ap (λ (k : SendNote). k.moments.resend) (sym own) ∙ f ∙ ap (λ (c : Flow × SendRecord). resends_from p now c.1.outstanding) same)) in
      omega arith
  one_less (d ∷ rs) (m ∷ ns) (suc i) e n at note apart = let r = one_less rs ns i e n at note apart in omega arith

-- a moment that was compared
pub compared_same : (o : Option ℕ) (m : ℕ) → true ≡ option_eq nat_eq o (Some m) → o ≡ Some m
compared_same None m h = absurd cc
compared_same (Some n) m h = ap (λ (k : ℕ). Some k) (eqb-true n m (sym h))

pub compared_apart : (o : Option ℕ) (m : ℕ) → false ≡ option_eq nat_eq o (Some m) → o ≡ Some m → ⊥
compared_apart o m h e = false≢true (h ∙ ap (λ (k : Option ℕ). option_eq nat_eq k (Some m)) e ∙ eq-eqb m m refl)
