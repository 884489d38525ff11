use Rattle.dt_calls_laws.proofs.Courses.{whole_leads}
use Rattle.dt_calls_laws.proofs.parts.whole_message_leads_on.Goals as goal

pub returns : goal.returns
returns c = whole_leads
