use Rattle.std.proofs.Common.{◌≡◌, ◌∙◌, ℕ, arith, length, refl, subst}
use Rattle.dt_units.specs.declared.endpoints.Flow.{Flow}
use Rattle.dt_inbox.specs.Inboxes.{Ends, GoesOn, ReadsOn, no_read, one_more}
use Rattle.dt_inbox.proofs.Readings.{ended}
use Rattle.dt_inbox.proofs.inboxes.Inbox.take.Goals as goal

pub loop-init : goal.loop-init
loop-init c = record { flow = refl; room = refl; reads = no_read }

pub loop-preserved : goal.loop-preserved
loop-preserved c =
    let i = c.loop.invariant in
    let one = subst (λ (f : Flow). GoesOn c.args.now f (length c.args.buf.now) c.loop.self.joiner c.read.new.self.joiner c.loop.endpoint c.read.new.endpoint) i.flow
    (subst (λ (n : ℕ). GoesOn c.args.now c.loop.self.flow n c.loop.self.joiner c.read.new.self.joiner c.loop.endpoint c.read.new.endpoint) i.room c.in_default.ensures.reads) in
    record { flow = c.read.ensures.flow ∙ i.flow; room = c.read.ensures.room ∙ i.room; reads = one_more i.reads one }

pub returns-in-Some : goal.returns-in-Some
returns-in-Some c =
    let i = c.loop.invariant in
    let last = subst (λ (f : Flow). Ends c.in-Some.taken c.args.now f (length c.args.buf.now) c.loop.self.joiner c.read.new.self.joiner c.loop.endpoint c.read.new.endpoint) i.flow
    (subst (λ (n : ℕ). Ends c.in-Some.taken c.args.now c.loop.self.flow n c.loop.self.joiner c.read.new.self.joiner c.loop.endpoint c.read.new.endpoint) i.room c.in-Some.ensures.reads) in
    record { flow = c.read.ensures.flow ∙ i.flow; takes = ended c.args.now c.args.self.now.flow (length c.args.buf.now) c.in-Some.taken 65536 c.loop.counter _ _ _ _ i.reads last }

pub returns : goal.returns
returns c =
    let i = c.loop.invariant in
    let all : c.loop.counter ≡ 65536 = omega (arith, c.loop-test.false, c.loop.auto.counter-end) in
    record { flow = i.flow; takes = subst (λ (n : ℕ). ReadsOn c.args.now c.args.self.now.flow (length c.args.buf.now) c.args.self.now.joiner c.args.endpoint.now n c.loop.self.joiner c.loop.endpoint) all i.reads }
