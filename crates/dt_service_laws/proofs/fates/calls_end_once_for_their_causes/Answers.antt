use Rattle.std.proofs.lemmas.List.Elements.{All-nil}
use Rattle.dt_service_laws.specs.Services.{new_services}
use Rattle.dt_service_laws.proofs.Judging.{IsCalm, turns_answer}
use Rattle.dt_service_laws.proofs.fates.calls_end_once_for_their_causes.Goals as goal

pub returns : goal.returns
returns c = λ setup most life kinds turns f limits lives agree served keeps differ name. record {
  made = c.calls_end_once.ensures.once setup most life turns f.from.0 name keeps differ;
  taken = c.services_take_calls_that_are_made_and_nothing_else.ensures setup most life kinds turns f limits lives agree served keeps;
  accounts = c.calls_end_once.ensures.accounts setup most life turns f.from.0 keeps;
  answered = λ answer told called. c.answers_are_what_the_service_gave.ensures setup most life kinds turns f limits lives agree served keeps differ (record { number = name; carried = answer })
      (turns_answer setup f.from.0 name answer turns (new_services setup most life) keeps (λ k e there open_k. All-nil (IsCalm e.latest)) told) called;
  causes = c.calls_are_unsure_for_their_causes.ensures.told setup most life turns keeps;
  patient = c.calls_are_unsure_for_their_causes.ensures.waits setup most life turns keeps;
}
