use Rattle.std.proofs.Common.{length, refl, subst}
use Rattle.dt_endpoint.specs.Calls.{Reads}
use Rattle.dt_endpoint.specs.declared.answers.Delivered.TheVariants as piece
use Rattle.dt_inbox.specs.Inboxes.{InboxValue}
use Rattle.dt_inbox.proofs.Readings.{piece_read}
use Rattle.dt_inbox.proofs.inboxes.Inbox.read.Goals as goal

pub returns-in-Read-clause-reads : goal.returns-in-Read-clause-reads
returns-in-Read-clause-reads c =
    let read = c.in-Read in
    let same = subst (λ (i : InboxValue). Reads (piece.Read read.len read.run' read.begin read.end) c.args.now i.flow (length c.args.buf.now) c.read.new.buf c.args.endpoint.now c.read.new.self) c.self.view_is read.ensures in
    piece_read c.args.now c.args.self.now.flow (length c.args.buf.now) c.join.result _ _ _ (record { len = read.len; buf = c.read.new.buf; reads = same; octets = refl }) c.join.ensures.joins
