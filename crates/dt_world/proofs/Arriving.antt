-- A copy that isn't refused is there, and its octets are a frame that holds a packet.
use Rattle.std.proofs.Common.{Bool, ℕ, zero, suc, ◌<◌, ◌≤◌, ◌≡◌, ◌==◌, true, false, List, [], ◌∷◌, length, Some, None, Result, Ok, Err, refl, sym, ap, subst, inl, inr, arith}
use Rattle.std.specs.Prelude.{nat_lt, not, is_ok, IsOkAnd}
use Rattle.std.specs.List.{All}
use Rattle.std.proofs.Math.ListN.{get_or}
use Rattle.std.proofs.lemmas.Bool.{cases_Bool}
use Rattle.std.proofs.lemmas.Bool.Decides.{nat_tests}
use Rattle.std.proofs.lemmas.List.Elements.{All-head, All-tail}
use Rattle.dt_layout.specs.declared.limits.TheConstants.{MOST_FRAME}
use Rattle.dt_layout.specs.Carried.{IsGram}
use Rattle.dt_layout.specs.Reading.{gram_in}
use Rattle.dt_layout.specs.Spelling.{gram_spelling}
use Rattle.dt_layout.proofs.GramLemmas.{body_within}
use Rattle.dt_units.specs.Limits.{IsWithinLimits}
use Rattle.dt_reports.specs.declared.faults.StepFault.{StepFault}
use Rattle.dt_reports.specs.Entries.{Entry}
use Rattle.dt_flow_model.specs.Frames.{Mark}
use Rattle.dt_world_model.specs.Relay.{Parcel}
use Rattle.dt_world_model.specs.Station.{Arrive}
use Rattle.dt_world_model.specs.Tables.{look}
use Rattle.dt_world_model.specs.World.{Copy, Placed, World, view}
use Rattle.dt_world_model.specs.WorldFacts.{CanCome, IsCopy, IsPacket, WorldFacts}
use Rattle.dt_world_model.specs.WorldStep.{Arrives, after_event, at_station, copy_at, first_refusal, is_late_copy, is_lost, lacks_copy, link_for, refusals}
use Rattle.dt_world_laws.proofs.Worlds.{copy_can_come}
use Rattle.dt_world.specs.Outcomes.{Happens}
use Rattle.dt_world.specs.Stopping.{ComesAt, ComesTo}

is_less : (m n : ℕ) → nat_lt m n ≡ true → m < n
is_less m n h = grind (arith, nat_tests)

not_false : (b : Bool) → not b ≡ false → b ≡ true
not_false true e = refl
not_false false e = absurd cc

first_passed : {F : Type 0} (test : Bool × F) (rest : List (Bool × F)) → first_refusal (test ∷ rest) ≡ None → test.0 ≡ false
first_passed test rest e = elim (cases_Bool test.0) [ inl y ↦ let some : Some test.1 ≡ None = rw y at e in absurd cc | inr o ↦ o ]

pub copy_there : (w : World) (k : ℕ) (rest : List (Bool × StepFault)) → first_refusal (lacks_copy w k ∷ rest) ≡ None → k < length w.copies
copy_there w k rest e = is_less _ _ (not_false (nat_lt k (length w.copies)) (first_passed (lacks_copy w k) rest e))

all_get : (P : Copy → Type 0) (cs : List Copy) (k : ℕ) (d : Copy) → All P cs → k < length cs → P (get_or cs k d)
all_get P [] k d h lt = absurd (omega arith)
all_get P (c ∷ cs) zero d h lt = All-head P c cs h
all_get P (c ∷ cs) (suc k) d h lt = all_get P cs k d (All-tail P c cs h) (omega arith)

-- what an arriving copy's octets are
pub copy_packet : (w : World) (k : ℕ) → WorldFacts w → first_refusal (refusals w (Arrives k)) ≡ None → IsPacket w.params (view w) (copy_at w k).parcel
copy_packet w k facts clear =
    let is : IsCopy w.params w.now (view w) (copy_at w k) = all_get (IsCopy w.params w.now (view w)) w.copies k _ facts.copies (copy_there w k (is_lost w k ∷ is_late_copy w k ∷ []) clear) in
    is.packet

-- a frame is no longer than the longest
pub gram_short : (bytes : List ℕ) → IsGram bytes → length bytes ≤ MOST_FRAME
unfolding gram_spelling
gram_short bytes g = let count = ap (λ (l : List ℕ). length l) g.spelled in omega (arith, count, g.fits.body, body_within (gram_in bytes).version)

pub not_ok : {X E : Type 0} (r : Result X E) (e : E) → is_ok r ≡ true → r ≡ Err e → ⊥
not_ok (Ok x) e h is = cc
not_ok (Err f) e h is = cc

pub not_ok_and : {X E : Type 0} (r : Result X E) (e : E) (P : X → Type 0) → IsOkAnd r P → r ≡ Err e → ⊥
not_ok_and (Ok x) e P h is = cc
not_ok_and (Err f) e P h is = absurd h

-- WHAT COMES IS THE COPY, to the station at its link's end
module _ (w : World) (k : ℕ) (link n : ℕ) (parcel : Parcel Mark) (same_link : link ≡ (copy_at w k).link) (same_node : n ≡ (link_for w k).to) (same_parcel : parcel ≡ (copy_at w k).parcel) where
  pub copy_comes : IsWithinLimits w.params → WorldFacts w → first_refusal (refusals w (Arrives k)) ≡ None → (at : Placed) → look ◌==◌ n w.stations ≡ Some at → CanCome w n link parcel
  copy_comes limits facts begun at there =
      subst (λ (m : ℕ). CanCome w m link parcel) (sym same_node)
      (subst (λ (l : ℕ). CanCome w (link_for w k).to l parcel) (sym same_link)
      (subst (λ (p : Parcel Mark). CanCome w (link_for w k).to (copy_at w k).link p) (sym same_parcel)
      (copy_can_come w limits facts k at begun (subst (λ (m : ℕ). look ◌==◌ m w.stations ≡ Some at) same_node there))))

  pub copy_came : {L U E : Type 0} (tells : L → Entry → L → Type 0) (r : Result U E) (before after : L) (world : World) → Happens tells r w (ComesAt w n (Arrive link parcel)) (at_station w n (Arrive link parcel)) before after world → Happens tells r w (ComesTo w (Arrives k)) (after_event w (Arrives k)) before after world
  copy_came tells r before after world h =
      subst (λ (p : Parcel Mark). Happens tells r w (ComesAt w (link_for w k).to (Arrive (copy_at w k).link p)) (at_station w (link_for w k).to (Arrive (copy_at w k).link p)) before after world) same_parcel
      (subst (λ (l : ℕ). Happens tells r w (ComesAt w (link_for w k).to (Arrive l parcel)) (at_station w (link_for w k).to (Arrive l parcel)) before after world) same_link
      (subst (λ (m : ℕ). Happens tells r w (ComesAt w m (Arrive link parcel)) (at_station w m (Arrive link parcel)) before after world) same_node h))
