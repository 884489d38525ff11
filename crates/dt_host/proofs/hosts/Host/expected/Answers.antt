use Rattle.std.proofs.Common.{◌≡◌, sym, ap, subst, ◌∙◌}
use Rattle.std.specs.Map.{lookup}
use Rattle.std.specs.Prelude.{Option, unwrap_or, option_map}
use Rattle.dt_flow_model.specs.ReceiveRecord.{Receiver, expected_of}
use Rattle.dt_recv.specs.Receivers.{ReceiverValue}
use Rattle.dt_world_model.specs.Host.{no_receiver, receiver_at}
use Rattle.dt_world_model.proofs.Tables.{flow_is}
use Rattle.dt_host.specs.Hosts.{HostValue, receiver_in}
use Rattle.dt_host.specs.Sides.{RecvSideValue}
use Rattle.dt_table.proofs.Entries.{look_found}
use Rattle.dt_table.specs.Places.{equal_flows}
use Rattle.dt_world_model.proofs.Maps.{flows_agree}
use Rattle.dt_world_model.specs.Tables.{same_flow}
use Rattle.dt_host.proofs.hosts.Host.expected.Goals as goal

pub returns-in_err-receiver : goal.returns-in_err-receiver
returns-in_err-receiver c =
    let h = c.self.inside in
    let f = c.args.flow.now in
    let none = look_found equal_flows same_flow flows_agree flow_is ReceiverValue Receiver receiver_in f h.receivers.value.entries ∙ ap (option_map receiver_in) (sym (c.in_err-receiver.ensures.value ∙ ap (λ (r : RecvSideValue). lookup (equal_flows f) r.entries) c.deref.ensures)) in
    subst (λ (v : HostValue). c.from_residual.result ≡ expected_of (receiver_at v.state f).standing) c.self.view_is
    (c.from_residual.ensures ∙ sym (ap (λ (o : Option Receiver). expected_of (unwrap_or o no_receiver).standing) none))

pub returns : goal.returns
returns c =
    let h = c.self.inside in
    let f = c.args.flow.now in
    let here = look_found equal_flows same_flow flows_agree flow_is ReceiverValue Receiver receiver_in f h.receivers.value.entries ∙ ap (option_map receiver_in) (sym (c.in_ok-receiver.ensures.value ∙ ap (λ (r : RecvSideValue). lookup (equal_flows f) r.entries) c.deref.ensures)) in
    subst (λ (v : HostValue). c.expected.result ≡ expected_of (receiver_at v.state f).standing) c.self.view_is
    (c.expected.ensures ∙ sym (ap (λ (o : Option Receiver). expected_of (unwrap_or o no_receiver).standing) here))
