use Rattle.std.proofs.Common.{◌≡◌, ◌∙◌, ℕ, List, take, Option, Some, ap, refl, sym}
use Rattle.dt_messages.specs.Joining.{piece_with}
use Rattle.dt_service_model.specs.Whole.{take_piece}
use Rattle.dt_service.specs.Nodes.{node_in, node_of, piece_found}
use Rattle.dt_service.specs.declared.reading.FoundPiece.{FoundPiece}
use Rattle.dt_service_model.specs.CallBook.{CallBook}
use Rattle.dt_service_model.specs.Stopping.{ReadStops}
use Rattle.dt_service_model.specs.Turns.{piece_at}
use Rattle.dt_service.proofs.Steps.{reads_on}
use Rattle.dt_service.proofs.Stops.{on_err, piece_lost, read_cut_off, read_heard}
use Rattle.dt_service.proofs.service_parts.ServiceParts.read.Goals as goal

pub returns-clause-read : goal.returns-clause-read
returns-clause-read c = λ again.
    let p = c.args.self.now in let q = c.hear_reports.new.self in let found = c.in-Some.found in let buf = c.read_piece.new.buf in let f = c.args.flow.now in
    let piece : Some (piece_with found.marks (take found.len buf)) ≡ piece_at c.args.now f p.endpoint = ap (λ (o : Option FoundPiece). piece_found o buf) (sym c.in-Some.is) ∙ c.in_ok-found.ensures.found in
    let taken : c.take_piece.new.self ≡ take_piece f (piece_with found.marks (take found.len buf)) q.book = c.in_ok-take_piece.ensures.taken ∙ ap (λ (xs : List ℕ). take_piece f (piece_with found.marks (take found.len xs)) q.book) (c.deref.ensures ∙ c.hear_reports.ensures.room) in
    reads_on c.args.now f (node_in p) (node_in q) c.read_piece.new.endpoint (Some (piece_with found.marks (take found.len buf))) (sym c.may_read.ensures ∙ c.if-not-may_read.false) piece c.in_ok-found.ensures.after c.in_ok-hear_reports.ensures.heard again
    ∙ ap (λ (x : CallBook). again (node_of q.endpoint x)) (sym taken)

pub returns-in_err-found-clause-stops : goal.returns-in_err-found-clause-stops
returns-in_err-found-clause-stops c =
    let p = c.args.self.now in let e = c.read_piece.new.endpoint in let f = c.args.flow.now in
    let may = sym c.may_read.ensures ∙ c.if-not-may_read.false in
    on_err c.from_residual.result (ReadStops c.args.now f (node_in p) (node_of e p.book)) (read_cut_off c.args.now f (node_in p) (node_of e p.book) e may c.in_err-found.ensures.cut refl)

pub returns-in_err-hear_reports-clause-stops : goal.returns-in_err-hear_reports-clause-stops
returns-in_err-hear_reports-clause-stops c =
    let p = c.args.self.now in let q = c.hear_reports.new.self in let f = c.args.flow.now in
    let may = sym c.may_read.ensures ∙ c.if-not-may_read.false in
    on_err c.from_residual-in_err-hear_reports.result (ReadStops c.args.now f (node_in p) (node_in q)) (read_heard c.args.now f (node_in p) (node_in q) c.read_piece.new.endpoint may c.in_ok-found.ensures.after c.in_err-hear_reports.ensures.stops)

pub returns-in_err-take_piece-clause-stops : goal.returns-in_err-take_piece-clause-stops
returns-in_err-take_piece-clause-stops c =
    let p = c.args.self.now in let q = c.hear_reports.new.self in let f = c.args.flow.now in let k = c.take_piece.new.self in
    let may = sym c.may_read.ensures ∙ c.if-not-may_read.false in
    on_err c.from_residual-in_err-take_piece.result (ReadStops c.args.now f (node_in p) (node_of q.endpoint k)) (piece_lost c.args.now f (node_in p) (node_in q) c.read_piece.new.endpoint k may c.in_ok-found.ensures.after c.in_ok-hear_reports.ensures.heard c.in_err-take_piece.ensures.same)
