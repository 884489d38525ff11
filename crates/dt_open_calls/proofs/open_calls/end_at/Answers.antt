use Rattle.std.proofs.Common.{rules, ◌∙◌, arith}
use Rattle.dt_open_calls.proofs.Found.{due_touched}
use Rattle.dt_open_calls.proofs.open_calls.end_at.Goals as goal

pub returns-clause-due : goal.returns-clause-due
returns-clause-due c = due_touched c.args.dues.now.items c.touch_slot.new.dues.items c.args.slots.now.items _ c.args.place c.end_slot.new.slot c.index.result.now c.requires.within c.touch_slot.ensures.earlier (λ call h. c.touch_slot.ensures.here call (c.index.ensures ∙ h)) c.requires.due (search rules)
