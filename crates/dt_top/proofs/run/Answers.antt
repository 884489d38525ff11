use Rattle.dt_top.proofs.Answering.{answered}
use Rattle.dt_top.proofs.run.Goals as goal

pub returns-clause-answers : goal.returns-clause-answers
returns-clause-answers g c = answered c.serve_words-ending.result _ c.status_told.ensures.status c.serve_words-ending.ensures.ends c.status_told.ensures.says
