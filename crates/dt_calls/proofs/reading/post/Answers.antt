use Rattle.std.proofs.Common.{◌∙◌, ap, sym, length}
use Rattle.dt_ledger.specs.Flows.{ledger_in}
use Rattle.dt_calls.proofs.Postings.{posted_refused, posted_taken}
use Rattle.dt_calls.proofs.reading.post.Goals as goal

pub returns-then-is_refused : goal.returns-then-is_refused
returns-then-is_refused g c =
    posted_refused c.args.flow c.args.parts.now c.deref.result.now c.try_event.new.world c.try_event.new.heard c.deref.ensures.value c.in_ok-try_event.ensures (sym c.is_refused.ensures ∙ c.if-is_refused.true)

pub returns : goal.returns
returns g c =
    posted_taken c.args.flow c.args.parts.now c.deref.result.now c.try_event.new.world c.try_event.new.heard c.taken_count-place.result c.len-count.result c.deref.ensures.value c.in_ok-try_event.ensures (sym c.is_refused.ensures ∙ c.if-is_refused.false)
    (c.taken_count-place.ensures ∙ ap (λ rows. length (ledger_in rows c.args.flow).taken) c.ledger.ensures.rows) (c.len-count.ensures ∙ sym c.deref.ensures.len ∙ ap length c.deref.ensures.value)
