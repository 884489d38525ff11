use Rattle.dt_mailbox_laws.proofs.Gaps.{follow_directly, none_lost}
use Rattle.dt_mailbox_laws.proofs.message_without_a_gap_directly_follows.Goals as goal

pub returns-clause-joiner : goal.returns-clause-joiner
returns-clause-joiner c = none_lost

pub returns-clause-octets : goal.returns-clause-octets
returns-clause-octets c = λ setup steps f before last since after limits does keeps all bare.
    let r = c.what_is_read_is_what_was_sent.ensures setup steps f limits does keeps in
    (r.0, r.1, follow_directly before last since after bare (rw all at r.2))
