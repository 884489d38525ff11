use Rattle.std.proofs.lemmas.Grind.{common_steps}
use Rattle.std.proofs.Common.{IfOk, subst, sym, arith}
use Rattle.dt_text.specs.Said.{said}
use Rattle.dt_text.specs.Spelling.{IsLine}
use Rattle.dt_text.specs.declared.lines.Form.TheVariants.{Schedule, Script, Calls}
use Rattle.dt_text.proofs.LineLaws.{reads-within, reads-not_order}
use Rattle.dt_text.proofs.reading.read_line.Goals as goal

pub returns-in-Schedule-clause-within : goal.returns-in-Schedule-clause-within
returns-in-Schedule-clause-within c = subst (λ form. IfOk c.schedule_line.result (λ line. IsLine form (said line))) (sym c.in-Schedule.is) (reads-within Schedule c.new-words.result c.schedule_line.result c.schedule_line.ensures)

pub returns-in-Script-clause-within : goal.returns-in-Script-clause-within
returns-in-Script-clause-within c = subst (λ form. IfOk c.script_line.result (λ line. IsLine form (said line))) (sym c.in-Script.is) (reads-within Script c.new-words.result c.script_line.result c.script_line.ensures)

pub returns-in-Schedule-clause-not_order : goal.returns-in-Schedule-clause-not_order
returns-in-Schedule-clause-not_order c = reads-not_order Schedule c.new-words.result c.schedule_line.result c.schedule_line.ensures

pub returns-in-Script-clause-not_order : goal.returns-in-Script-clause-not_order
returns-in-Script-clause-not_order c = reads-not_order Script c.new-words.result c.script_line.result c.script_line.ensures

pub returns-in-Calls-clause-within : goal.returns-in-Calls-clause-within
returns-in-Calls-clause-within c = subst (λ form. IfOk c.calls_line.result (λ line. IsLine form (said line))) (sym c.in-Calls.is) (reads-within Calls c.new-words.result c.calls_line.result c.calls_line.ensures)

pub returns-in-Calls-clause-not_order : goal.returns-in-Calls-clause-not_order
returns-in-Calls-clause-not_order c = reads-not_order Calls c.new-words.result c.calls_line.result c.calls_line.ensures

-- refused here: no_comments
pub schedule_line-requires : goal.schedule_line-requires
schedule_line-requires c = grind (arith, common_steps)
