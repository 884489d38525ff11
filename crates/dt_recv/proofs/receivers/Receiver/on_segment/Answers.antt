use Rattle.std.proofs.Common.{false, true, inl, inr, sym, ◌∙◌}
use Rattle.dt_items.specs.Unread.{items_of}
use Rattle.dt_flow_model.specs.declared.arrivals.Action.TheVariants.{Make, TellNumber, TellExpected, Accept, Skip}
use Rattle.dt_recv.proofs.Accepting.{accepted-marked, answered_by, left_by}
use Rattle.dt_recv.proofs.receivers.Receiver.on_segment.Goals as goal

pub returns-in-TellNumber-clause-after : goal.returns-in-TellNumber-clause-after
returns-in-TellNumber-clause-after g c =
    c.reply_number.ensures.after ∙ left_by c.args.self.now c.args.now.ms c.args.segment.now.drf c.args.segment.now.number (items_of c.args.segment.now.payload) TellNumber (sym c.action_on.ensures.packet ∙ c.in-TellNumber.is)

pub returns-in-TellNumber-clause-answer : goal.returns-in-TellNumber-clause-answer
returns-in-TellNumber-clause-answer g c =
    c.reply_number.ensures.answer ∙ answered_by c.args.self.now c.args.segment.now.drf c.args.segment.now.number (items_of c.args.segment.now.payload) TellNumber (sym c.action_on.ensures.packet ∙ c.in-TellNumber.is)

pub returns-in-TellExpected-clause-after : goal.returns-in-TellExpected-clause-after
returns-in-TellExpected-clause-after g c =
    c.reply_expected.ensures.after ∙ left_by c.args.self.now c.args.now.ms c.args.segment.now.drf c.args.segment.now.number (items_of c.args.segment.now.payload) TellExpected (sym c.action_on.ensures.packet ∙ c.in-TellExpected.is)

pub returns-in-TellExpected-clause-answer : goal.returns-in-TellExpected-clause-answer
returns-in-TellExpected-clause-answer g c =
    c.reply_expected.ensures.answer ∙ answered_by c.args.self.now c.args.segment.now.drf c.args.segment.now.number (items_of c.args.segment.now.payload) TellExpected (sym c.action_on.ensures.packet ∙ c.in-TellExpected.is)

pub returns-in-Accept-clause-after : goal.returns-in-Accept-clause-after
returns-in-Accept-clause-after g c =
    c.accept-in-Accept.ensures.after ∙ left_by c.args.self.now c.args.now.ms c.args.segment.now.drf c.args.segment.now.number (items_of c.args.segment.now.payload) Accept (sym c.action_on.ensures.packet ∙ c.in-Accept.is)

pub returns-in-Accept-clause-answer : goal.returns-in-Accept-clause-answer
returns-in-Accept-clause-answer g c =
    c.accept-in-Accept.ensures.answer ∙ accepted-marked false c.args.segment.now.payload.octets.now c.args.segment.now.payload.begin c.args.segment.now.payload.end ∙ answered_by c.args.self.now c.args.segment.now.drf c.args.segment.now.number (items_of c.args.segment.now.payload) Accept (sym c.action_on.ensures.packet ∙ c.in-Accept.is)

pub returns-in-Make-clause-after : goal.returns-in-Make-clause-after
returns-in-Make-clause-after g c =
    c.accept.ensures.after ∙ (elim c.in-Make.is [
      | inl e ↦ left_by c.args.self.now c.args.now.ms c.args.segment.now.drf c.args.segment.now.number (items_of c.args.segment.now.payload) Make (sym c.action_on.ensures.packet ∙ e)
      | inr e ↦ left_by c.args.self.now c.args.now.ms c.args.segment.now.drf c.args.segment.now.number (items_of c.args.segment.now.payload) Skip (sym c.action_on.ensures.packet ∙ e)
    ])

pub returns-in-Make-clause-answer : goal.returns-in-Make-clause-answer
returns-in-Make-clause-answer g c =
    c.accept.ensures.answer ∙ accepted-marked true c.args.segment.now.payload.octets.now c.args.segment.now.payload.begin c.args.segment.now.payload.end ∙ (elim c.in-Make.is [
      | inl e ↦ answered_by c.args.self.now c.args.segment.now.drf c.args.segment.now.number (items_of c.args.segment.now.payload) Make (sym c.action_on.ensures.packet ∙ e)
      | inr e ↦ answered_by c.args.self.now c.args.segment.now.drf c.args.segment.now.number (items_of c.args.segment.now.payload) Skip (sym c.action_on.ensures.packet ∙ e)
    ])
