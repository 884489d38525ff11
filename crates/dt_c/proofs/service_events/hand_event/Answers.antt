use Rattle.std.proofs.Common.{◌≡◌, ◌∙◌, None, ap, refl, subst, sym}
use Rattle.dt_service_model.specs.Ends.{next}
use Rattle.dt_service_model.specs.CallBook.{CallBook}
use Rattle.dt_service_model.specs.Turns.{Node}
use Rattle.dt_c.specs.Serving.{UsersAfter, buffer_with, event_after, event_status, taken_from, user_first}
use Rattle.dt_c.proofs.Fronts.{next_none}
use Rattle.dt_c.proofs.service_events.hand_event.Goals as goal

-- nothing was told
pub returns-in_default : goal.returns-in_default
returns-in_default c =
    let n = c.args.service.now in let buf = c.args.buf.now in let out = c.args.out.now in let us = c.args.users.now in
    let no_event : (next n.book).0 ≡ None = sym c.next.ensures.first ∙ c.in_default.is in (
      sym (ap (λ o. event_status o buf) no_event),
      sym (ap (λ o. buffer_with o buf) no_event),
      sym (ap (λ o. event_after o buf (user_first o us) out) no_event),
      c.next.ensures.others ∙ ap (λ (h : CallBook). record n { book = h }) (next_none n.book no_event) ∙ sym (ap (λ o. taken_from o buf n) no_event),
      subst (λ o. UsersAfter o buf us us) (sym no_event) refl,
    )
