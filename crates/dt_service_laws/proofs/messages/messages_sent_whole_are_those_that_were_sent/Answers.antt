use Rattle.dt_service_laws.proofs.Pieces.{read_back}
use Rattle.dt_service_laws.proofs.messages.messages_sent_whole_are_those_that_were_sent.Goals as goal

pub returns : goal.returns
returns c = λ messages some. read_back messages some
