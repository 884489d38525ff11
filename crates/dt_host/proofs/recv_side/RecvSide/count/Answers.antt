use Rattle.std.proofs.Common.{◌≡◌, length, subst, ◌∙◌}
use Rattle.dt_world_model.specs.Tables.{Distinct, same_flow}
use Rattle.dt_host.specs.Notes.{recv_kinds}
use Rattle.dt_host.specs.Hosts.{AreReceiveEntries, receiver_in, receivers_of}
use Rattle.dt_host.specs.Sides.{IsRecvKept, RecvSideValue}
use Rattle.dt_host.proofs.RecvSides.{all_recv}
use Rattle.dt_table.proofs.Tables.{as_many, each_once}
use Rattle.dt_host.proofs.recv_side.RecvSide.count.Goals as goal

pub returns-clause-count : goal.returns-clause-count
returns-clause-count c =
    let h = c.self.inside in
    subst (λ (v : RecvSideValue). c.count.result ≡ length v.entries) c.self.view_is (c.count.ensures.count ∙ as_many (IsRecvKept h.rules.value) recv_kinds h.table.places h.table.slots.items h.table.agenda c.self.invariant)

pub returns-clause-entries : goal.returns-clause-entries
returns-clause-entries c =
    let h = c.self.inside in
    subst (λ (v : RecvSideValue). AreReceiveEntries v.rules v.entries) c.self.view_is (all_recv h.rules.value h.table.places h.table.slots.items h.table.agenda c.self.invariant)

pub returns-clause-distinct : goal.returns-clause-distinct
returns-clause-distinct c =
    let h = c.self.inside in
    subst (λ (v : RecvSideValue). Distinct same_flow (receivers_of v.entries)) c.self.view_is (each_once (IsRecvKept h.rules.value) recv_kinds h.table.places h.table.slots.items h.table.agenda c.self.invariant receiver_in c.count.ensures.once)
