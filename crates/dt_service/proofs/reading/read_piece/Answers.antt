use Rattle.std.proofs.Common.{ℕ, arith, subst}
use Rattle.dt_messages.specs.declared.joiners.Marks.{Marks}
use Rattle.dt_endpoint.specs.declared.answers.Delivered.TheVariants as piece
use Rattle.dt_endpoint.specs.Calls.{Reads}
use Rattle.dt_service_model.specs.Turns.{most_read}
use Rattle.dt_service.proofs.Events.{is_unread, reads_cut, reads_nothing, reads_some}
use Rattle.dt_service.proofs.reading.read_piece.Goals as goal

pub returns-in-Read : goal.returns-in-Read
returns-in-Read c =
    let r = c.in-Read in
    let marks : Marks = record { run = r.run'; begin = r.begin; end = r.end } in
    let read = subst (λ (n : ℕ). Reads (piece.Read r.len r.run' r.begin r.end) c.args.now c.args.flow n c.read.new.buf c.args.endpoint.now c.read.new.self) c.requires r.ensures in
    let so = reads_some marks r.len c.args.now c.args.flow most_read c.read.new.buf c.args.endpoint.now c.read.new.self read in
    record { found = so.found_is; within = omega (arith, so.within, c.read.auto.buf, c.requires); after = so.after; cut = tt }

pub returns-in-Nothing : goal.returns-in-Nothing
returns-in-Nothing c =
    let read = subst (λ (n : ℕ). Reads piece.Nothing c.args.now c.args.flow n c.read.new.buf c.args.endpoint.now c.read.new.self) c.requires c.in-Nothing.ensures in
    let so = reads_nothing c.args.now c.args.flow most_read c.read.new.buf c.args.endpoint.now c.read.new.self read in
    record { found = so.found_is; within = omega arith; after = so.after; cut = tt }

pub returns-in-NoMemory : goal.returns-in-NoMemory
returns-in-NoMemory c =
    let e = c.args.endpoint.now in let f = c.read.new.self in
    let read = subst (λ (n : ℕ). Reads c.read.result c.args.now c.args.flow n c.read.new.buf e f) c.requires c.read.ensures in
    record { found = tt; within = tt; after = tt; cut = reads_cut c.read.result c.args.now c.args.flow most_read c.read.new.buf e f (is_unread c.read.result c.in-NoMemory.is) read }
