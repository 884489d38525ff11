use Rattle.std.proofs.Common.{◌≡◌, ◌++◌, drop, length, refl, subst, ◌∙◌}
use Rattle.dt_items.specs.Unread.{octets_of, piece_told}
use Rattle.dt_world_model.specs.Host.{read_octets}
use Rattle.dt_host.specs.Hosts.{HostValue}
use Rattle.dt_host.proofs.HostParts.{host_in, lent}
use Rattle.dt_host.proofs.hosts.Host.read.Goals as goal

pub returns-clause-piece : goal.returns-clause-piece
returns-clause-piece g c =
    let h = c.self.inside in
    let r = c.deref_mut.result.now in
    let host = host_in h.me.0 h.until h.senders.value.entries r.entries in
    let is = lent h.me.0 h.until h.senders.value h.senders.value h.receivers.value r _ refl c.deref_mut.ensures.value c.self.invariant.0 c.self.invariant.1 (c.self.view_is ∙ c.reach.ensures) in
    let a = c.args in
    subst (λ (w : HostValue). c.read.result ≡ piece_told (read_octets w.rules w.latest a.flow.now (length a.buf.now) w.state).0) is.by_receivers (c.read.ensures.piece host)

pub returns-clause-octets : goal.returns-clause-octets
returns-clause-octets g c =
    let h = c.self.inside in
    let r = c.deref_mut.result.now in
    let host = host_in h.me.0 h.until h.senders.value.entries r.entries in
    let is = lent h.me.0 h.until h.senders.value h.senders.value h.receivers.value r _ refl c.deref_mut.ensures.value c.self.invariant.0 c.self.invariant.1 (c.self.view_is ∙ c.reach.ensures) in
    let a = c.args in
    subst (λ (w : HostValue). let taken = read_octets w.rules w.latest a.flow.now (length a.buf.now) w.state in c.read.new.buf ≡ octets_of taken.0 ++ drop (length taken.0) a.buf.now) is.by_receivers (c.read.ensures.octets host)
