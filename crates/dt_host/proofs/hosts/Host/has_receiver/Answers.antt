use Rattle.std.proofs.Common.{◌≡◌, Bor, None, Some, ap, refl, subst, sym, ◌∙◌}
use Rattle.std.specs.Map.{lookup}
use Rattle.std.specs.Prelude.{Option, is_some}
use Rattle.std.specs.Option.{option_copied}
use Rattle.dt_flow_model.specs.ReceiveRecord.{Receiver}
use Rattle.dt_recv.specs.Receivers.{ReceiverValue}
use Rattle.dt_world_model.specs.Tables.{has_key, same_flow}
use Rattle.dt_world_model.proofs.Tables.{flow_is}
use Rattle.dt_host.specs.Hosts.{HostValue, receiver_in}
use Rattle.dt_host.specs.Sides.{RecvSideValue}
use Rattle.dt_table.proofs.Entries.{look_found, some_mapped}
use Rattle.dt_table.specs.Places.{equal_flows}
use Rattle.dt_world_model.proofs.Maps.{flows_agree}
use Rattle.dt_host.proofs.hosts.Host.has_receiver.Goals as goal

some_copied : {X : Type 0} (o : Option (Bor X)) → is_some (option_copied o) ≡ is_some o
some_copied None = refl
some_copied (Some x) = refl

pub returns : goal.returns
returns c =
    let h = c.self.inside in
    let f = c.args.flow.now in
    let f = c.args.flow.now in
    let here = look_found equal_flows same_flow flows_agree flow_is ReceiverValue Receiver receiver_in f h.receivers.value.entries in
    subst (λ (v : HostValue). c.is_some.result ≡ has_key same_flow f v.state.receivers) c.self.view_is
    (c.is_some.ensures ∙ sym (some_copied c.receiver.result) ∙ ap is_some (c.receiver.ensures.value ∙ ap (λ (r : RecvSideValue). lookup (equal_flows f) r.entries) c.deref.ensures) ∙ sym (ap (λ (o : Option Receiver). is_some o) here ∙ some_mapped receiver_in _))
