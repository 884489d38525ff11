use Rattle.std.proofs.Common.{◌≡◌, false, sym, ap, ◌∙◌, arith}
use Rattle.dt_items.specs.Unread.{marked}
use Rattle.dt_items.proofs.Marks.{length-marked}
use Rattle.dt_units.specs.declared.parameters.Params.{Params}
use Rattle.dt_flow_model.specs.SendRecord.{SendRecord}
use Rattle.dt_flow_model.specs.Keeping.{taken_by}
use Rattle.dt_flow_model.proofs.Records.{put_counts}
use Rattle.dt_send.specs.SendBuffer.{record_of}
use Rattle.dt_send.specs.Senders.{SenderValue}
use Rattle.dt_send.proofs.SenderLemmas.{full_after}
use Rattle.dt_send.proofs.senders.Sender.put.Goals as goal

pub returns-then-octets-free-clause-after : goal.returns-then-octets-free-clause-after
returns-then-octets-free-clause-after g c =
    let v = c.args.self.now in
    let items = marked c.args.octets.now c.args.begin c.args.end false in
    let cap : c.params.result.now.cap ≡ v.rules.cap = ap (λ (p : Params). p.cap) (c.params.ensures.same ∙ c.deref.ensures) ∙ ap (λ (u : SenderValue). u.rules.cap) c.self.view_is in
    let none = full_after v.rules v.state items (omega (arith, cap, c.held.ensures.value, length-marked c.args.octets.now c.args.begin c.args.end false)) in
    ap (λ (x : SendRecord). record v { state = x }) (sym none)

pub returns-clause-counted : goal.returns-clause-counted
returns-clause-counted g c =
    let items = marked c.args.octets.now c.args.begin c.args.end false in
    let seen = ap (λ (u : SenderValue). taken_by u.state) c.self.view_is in
    let put = ap taken_by c.put.ensures.record in
    omega (arith, seen, put, put_counts (record_of c.self.inside.buffer) items, length-marked c.args.octets.now c.args.begin c.args.end false)
