use Rattle.std.proofs.Common.{rules}
use Rattle.std.proofs.lemmas.Fn.{filter_same}
use Rattle.dt_service_model.specs.Turns.{has_receiver}
use Rattle.dt_call_book.proofs.begun_messages.keep_received.Goals as goal

pub returns : goal.returns
returns c = filter_same _ (has_receiver c.args.endpoint.now.state.host) _ (λ x b f' k. search rules) _ _ c.retain.ensures.filtered
