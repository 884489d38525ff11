use Rattle.std.proofs.Common.{refl}
use Rattle.dt_inbox.specs.Mailboxes.{new_mailbox}
use Rattle.dt_network.specs.Network.{new_network}
use Rattle.dt_mailbox_laws.proofs.Handing.{handed_messages}
use Rattle.dt_mailbox_laws.proofs.mailbox_hands_out_messages_once_and_in_order.Goals as goal

-- src/lib.rt
pub returns : goal.returns
returns c = λ setup steps letters n f longest limits does keeps mails. handed_messages steps letters n f (new_mailbox longest) (new_network setup) tt refl mails (c.what_is_read_is_what_was_sent.ensures setup steps f limits does keeps)
