-- The act that is chosen is of the first kind whose moment has come.
use Rattle.std.proofs.Common.{ℕ, ◌≡◌, Option, Some, None, sym, ap, ◌∙◌}
use Rattle.dt_units.specs.declared.parameters.Params.{Params}
use Rattle.dt_flow_model.specs.declared.acts.SendKind.{SendKind}
use Rattle.dt_flow_model.specs.declared.moments.SendMoments.{SendMoments}
use Rattle.dt_flow_model.specs.SendRecord.{SendRecord}
use Rattle.dt_flow_model.specs.SendActs.{due_of, send_moments}
use Rattle.dt_send.specs.SendBuffer.{IsChosen}
use Rattle.dt_send.specs.Senders.{first_due}
use Rattle.dt_send.proofs.ActLemmas.{chosen_due}
use Rattle.dt_send.proofs.DueLemmas.{due_is}

module _ (p : Params) (now : ℕ) (x : SendRecord) (m : SendMoments) (due : Option (SendKind × ℕ)) (moments : m ≡ send_moments p now x) (first : due ≡ first_due now m) where
  pub chosen_first : (kind : SendKind) (moment : ℕ) → due ≡ Some (kind, moment) → IsChosen p now x kind
  chosen_first kind moment e = chosen_due p now x kind moment (due_is p now x ∙ ap (first_due now) (sym moments) ∙ sym first ∙ e)

  pub none_first : due ≡ None → due_of p now x ≡ None
  none_first e = due_is p now x ∙ ap (first_due now) (sym moments) ∙ sym first ∙ e
