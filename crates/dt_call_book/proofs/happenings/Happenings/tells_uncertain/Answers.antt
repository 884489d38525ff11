use Rattle.std.proofs.Common.{◌∙◌, ap, sym, arith}
use Rattle.std.specs.List.{list_any}
use Rattle.dt_service_model.specs.Hearing.{is_uncertain}
use Rattle.dt_call_book.proofs.Told.{none_uncertain}
use Rattle.dt_call_book.proofs.happenings.Happenings.tells_uncertain.Goals as goal

pub returns-then-len-self : goal.returns-then-len-self
returns-then-len-self c =
    let hs = c.self.inside.queue.items in
    sym (none_uncertain c.args.flow.now hs (omega (arith, c.if-len-self.true, c.len.ensures, c.self.invariant.0, c.self.invariant.1, c.self.inside.queue.ok)))
    ∙ ap (list_any (is_uncertain c.args.flow.now)) c.self.view_is
