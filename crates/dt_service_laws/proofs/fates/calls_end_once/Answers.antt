use Rattle.std.proofs.Common.{arith}
use Rattle.dt_service_laws.specs.Fates.{all_by}
use Rattle.dt_service_laws.specs.Histories.{at_the}
use Rattle.dt_service_laws.specs.Services.{new_services}
use Rattle.dt_service_laws.proofs.Accounts.{turns_account}
use Rattle.dt_service_laws.proofs.Numbering.{numbers_once}
use Rattle.dt_service_laws.proofs.Posting.{fewer_of, sent_some}
use Rattle.dt_service_laws.proofs.fates.calls_end_once.Goals as goal

pub returns-clause-accounts : goal.returns-clause-accounts
returns-clause-accounts c = λ setup most life turns node keeps.
    let a = turns_account setup node turns (new_services setup most life) keeps in
    record { made = a.made; are = a.are; accounts = λ name. (let s = (a.sums name).sum in omega (arith, s)) }

pub returns-clause-once : goal.returns-clause-once
returns-clause-once c = λ setup most life turns node name keeps differ. (numbers_once setup node turns (new_services setup most life) name keeps differ).once

pub returns-clause-ends : goal.returns-clause-ends
returns-clause-ends c = λ setup most life turns node name keeps differ.
    let a = turns_account setup node turns (new_services setup most life) keeps in
    let s = (a.sums name).sum in
    let some = fewer_of name (sent_some setup (at_the node (λ n. all_by)) turns (new_services setup most life) a.made a.are) in
    let few = (numbers_once setup node turns (new_services setup most life) name keeps differ).once in
    omega (arith, s, some, few)
