use Rattle.std.proofs.Common.{Result, ap, subst, sym, ◌∙◌}
use Rattle.dt_items.specs.declared.memory.NoMemory.{NoMemory}
use Rattle.dt_world.specs.Outcomes.{Answers}
use Rattle.dt_notes.specs.Events.{event_of}
use Rattle.dt_calls.specs.Happening.{Happens, ended}
use Rattle.dt_call_parts.specs.Hearing.{HeardValue, Hears}
use Rattle.dt_calls.proofs.Hearings.{happened}
use Rattle.dt_calls.proofs.reading.try_event.Goals as goal

pub returns : goal.returns
returns c =
    let e = event_of c.args.event.now in
    let w = c.args.world.now in
    let new = c.step-answer.new.self in
    let t = c.step-answer.new.lines in
    let answers = subst (λ (s : HeardValue). Answers Hears c.step-answer.result w e s t new) c.begin_event.ensures c.step-answer.ensures in
    subst (λ (r : Result (Unit {0}) NoMemory). Happens r e w c.args.heard.now new t) (sym (c.ended.ensures ∙ ap (ended c.step-answer.result) c.has_failed.ensures))
    (happened e w new c.args.heard.now t c.step-answer.result c.requires.unspent answers)
