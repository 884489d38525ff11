use Rattle.std.proofs.Common.{◌≡◌, length}
use Rattle.dt_inbox.specs.Inboxes.{ReadsOn}
use Rattle.dt_inbox.proofs.inboxes.Inbox.take.Given as goal

abbrev pub invariant-loop : goal.invariant-loop
invariant-loop l = record {
  flow : l.self.flow ≡ l.fn.self.flow;
  room : length l.buf ≡ length l.fn.buf;
  reads : ReadsOn l.fn.now l.fn.self.flow (length l.fn.buf) l.fn.self.joiner l.fn.endpoint l.counter l.self.joiner l.endpoint;
}
