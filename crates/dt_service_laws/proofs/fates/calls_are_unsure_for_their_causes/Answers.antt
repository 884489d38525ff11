use Rattle.std.proofs.lemmas.List.Elements.{All-nil, All-weaker}
use Rattle.dt_service_laws.specs.Causes.{IsPatient}
use Rattle.dt_service_laws.specs.Services.{new_services}
use Rattle.dt_service_laws.proofs.Judging.{IsCalm, turns_judged}
use Rattle.dt_service_laws.proofs.fates.calls_are_unsure_for_their_causes.Goals as goal

pub returns-clause-told : goal.returns-clause-told
returns-clause-told c = λ setup most life turns keeps. (turns_judged setup turns (new_services setup most life) keeps (λ k e there open_k. All-nil (IsCalm e.latest))).0

pub returns-clause-waits : goal.returns-clause-waits
returns-clause-waits c = λ setup most life turns keeps n e there open_n.
    All-weaker (IsCalm e.latest) (IsPatient e.latest) (λ call calm. calm.patient) _ ((turns_judged setup turns (new_services setup most life) keeps (λ k e there open_k. All-nil (IsCalm e.latest))).1 n e there open_n)
