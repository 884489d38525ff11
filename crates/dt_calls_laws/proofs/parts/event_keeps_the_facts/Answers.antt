use Rattle.dt_calls_laws.proofs.Happening.{event_course}
use Rattle.dt_calls_laws.proofs.parts.event_keeps_the_facts.Goals as goal

pub returns : goal.returns
returns c = event_course
