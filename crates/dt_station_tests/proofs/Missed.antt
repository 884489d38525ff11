-- How many senders missed a resend: none does before `r`.
use Rattle.std.proofs.Common.{ℕ, ◌≡◌, ◌<◌, false, List, [], ◌∷◌, refl, ◌∙◌, zero-add, arith}
use Rattle.std.specs.List.{list_any}
use Rattle.std.proofs.lemmas.Bool.Decides.{nat_tests}
use Rattle.dt_units.specs.declared.parameters.Params.{Params}
use Rattle.dt_units.specs.declared.endpoints.Flow.{Flow}
use Rattle.dt_flow_model.specs.SendRecord.{Segment, SendRecord}
use Rattle.dt_host.specs.Soonest.{is_missed, missed_senders}

module _ (p : Params) (now : ℕ) (early : now < p.r) where
  segment_missed : (g : Segment) → is_missed p now g ≡ false
  segment_missed g = grind (arith, nat_tests)

  segments_missed : (gs : List Segment) → list_any (is_missed p now) gs ≡ false
  segments_missed [] = refl
  segments_missed (g ∷ gs) = rw (segment_missed g) (segments_missed gs)

  pub none_missed : (rs : List (Flow × SendRecord)) → missed_senders p now rs ≡ 0
  none_missed [] = refl
  none_missed (r ∷ rs) = rw (segments_missed r.1.outstanding) (zero-add (missed_senders p now rs) ∙ none_missed rs)
