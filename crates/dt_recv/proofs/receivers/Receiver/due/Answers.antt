use Rattle.dt_recv.proofs.Due.{none_exactly}
use Rattle.dt_recv.proofs.receivers.Receiver.due.Goals as goal

pub returns-clause-none : goal.returns-clause-none
returns-clause-none g c =
    rw (c.due.ensures, c.deref.ensures, ← c.self.view_is) (none_exactly c.self.inside.rules.value c.args.now _)
