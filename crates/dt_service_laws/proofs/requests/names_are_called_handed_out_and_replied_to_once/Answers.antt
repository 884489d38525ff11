use Rattle.dt_service_laws.proofs.Arriving.{calls_few, replies_few, requests_few}
use Rattle.dt_service_laws.proofs.Elsewhere.{IsLawful}
use Rattle.dt_service_laws.proofs.Lawful.{IsReached, lawful, new_on, new_reading, new_there}
use Rattle.dt_service_laws.proofs.Unread.{all_read}
use Rattle.dt_service_laws.proofs.requests.names_are_called_handed_out_and_replied_to_once.Goals as goal

pub returns-clause-called : goal.returns-clause-called
returns-clause-called c = λ setup most life kinds turns f limits lives agree served keeps differ name.
    let law : IsLawful setup (IsReached setup) = lawful setup (λ steps are keep. c.network_is_a_world.ensures setup steps limits are keep) in
    let reads = all_read setup (IsReached setup) law most life (new_there setup) (new_on setup most life) (new_reading setup most life) f turns keeps in
    calls_few setup (IsReached setup) law kinds most life lives (new_there setup) (new_on setup most life)
    (λ g steps are keep. c.what_is_read_is_what_was_sent.ensures setup steps g limits are keep) f turns reads differ name

pub returns-clause-handed_out : goal.returns-clause-handed_out
returns-clause-handed_out c = λ setup most life kinds turns f limits lives agree served keeps name.
    let law : IsLawful setup (IsReached setup) = lawful setup (λ steps are keep. c.network_is_a_world.ensures setup steps limits are keep) in
    let reads = all_read setup (IsReached setup) law most life (new_there setup) (new_on setup most life) (new_reading setup most life) f turns keeps in
    requests_few setup (IsReached setup) law kinds most life lives (new_there setup) (new_on setup most life)
    (λ g steps are keep. c.what_is_read_is_what_was_sent.ensures setup steps g limits are keep) f served turns agree reads name

pub returns-clause-replied_to : goal.returns-clause-replied_to
returns-clause-replied_to c = λ setup most life kinds turns f limits lives agree served keeps name.
    let law : IsLawful setup (IsReached setup) = lawful setup (λ steps are keep. c.network_is_a_world.ensures setup steps limits are keep) in
    let reads = all_read setup (IsReached setup) law most life (new_there setup) (new_on setup most life) (new_reading setup most life) f turns keeps in
    replies_few setup (IsReached setup) law kinds most life lives (new_there setup) (new_on setup most life)
    (λ g steps are keep. c.what_is_read_is_what_was_sent.ensures setup steps g limits are keep) f turns reads name
