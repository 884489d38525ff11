use Rattle.std.proofs.Common.{◌≡◌, ap, subst, sym, ◌∙◌}
use Rattle.std.specs.Prelude.{length}
use Rattle.dt_host.specs.Hosts.{HostValue, receiver_in}
use Rattle.dt_host.specs.Sides.{RecvSideValue}
use Rattle.dt_table.proofs.Entries.{as_many}
use Rattle.dt_host.proofs.hosts.Host.receivers.Goals as goal

pub returns : goal.returns
returns c =
    let h = c.self.inside in
    subst (λ (v : HostValue). c.count.result ≡ length v.state.receivers) c.self.view_is (c.count.ensures.count ∙ ap (λ (r : RecvSideValue). length r.entries) c.deref.ensures ∙ sym (as_many receiver_in h.receivers.value.entries))
