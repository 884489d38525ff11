use Rattle.dt_service_laws.proofs.Arriving.{answers_come}
use Rattle.dt_service_laws.proofs.Elsewhere.{IsLawful}
use Rattle.dt_service_laws.proofs.Lawful.{IsReached, lawful, new_on, new_reading, new_there}
use Rattle.dt_service_laws.proofs.Unread.{all_read}
use Rattle.dt_service_laws.proofs.requests.answers_are_what_the_service_gave.Goals as goal

pub returns : goal.returns
returns c = λ setup most life kinds turns f limits lives agree served keeps differ answer there called.
    let law : IsLawful setup (IsReached setup) = lawful setup (λ steps are keep. c.network_is_a_world.ensures setup steps limits are keep) in
    let reads = all_read setup (IsReached setup) law most life (new_there setup) (new_on setup most life) (new_reading setup most life) f turns keeps in
    answers_come setup (IsReached setup) law kinds most life lives (new_there setup) (new_on setup most life)
    (λ g steps are keep. c.what_is_read_is_what_was_sent.ensures setup steps g limits are keep) f served turns agree reads differ answer there called
