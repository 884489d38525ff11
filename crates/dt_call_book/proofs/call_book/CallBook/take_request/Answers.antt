use Rattle.std.proofs.Common.{◌≡◌, ◌∙◌, ap, sym}
use Rattle.dt_service_model.specs.Whole.{without_token}
use Rattle.dt_tokens.proofs.TokenLists.{put_back}
use Rattle.dt_call_book.proofs.call_book.CallBook.take_request.Goals as goal

pub returns-in-Err-clause-same : goal.returns-in-Err-clause-same
returns-in-Err-clause-same c =
    let t = c.args.token in
    let ts = c.self.inside.tokens in
    let back : c.remove-in-Err.new.self ≡ ts = c.remove-in-Err.ensures ∙ ap (without_token t) c.in_ok-push.ensures.ok ∙ put_back t ts (sym c.contains.ensures ∙ c.if-contains.false) in
    rw (back, c.in-Err.ensures.same) c.self.view_is
