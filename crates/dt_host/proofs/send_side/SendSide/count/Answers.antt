use Rattle.std.proofs.Common.{◌≡◌, length, subst, ◌∙◌}
use Rattle.dt_world_model.specs.Tables.{Distinct, same_flow}
use Rattle.dt_host.specs.Notes.{send_kinds}
use Rattle.dt_host.specs.Hosts.{AreSendEntries, send_record, send_records}
use Rattle.dt_host.specs.Sides.{IsSendKept, SendSideValue}
use Rattle.dt_host.proofs.SendSides.{all_send}
use Rattle.dt_table.proofs.Tables.{as_many, each_once}
use Rattle.dt_host.proofs.send_side.SendSide.count.Goals as goal

pub returns-clause-count : goal.returns-clause-count
returns-clause-count c =
    let h = c.self.inside in
    subst (λ (v : SendSideValue). c.count.result ≡ length v.entries) c.self.view_is (c.count.ensures.count ∙ as_many (IsSendKept h.rules.value h.latest.ms) send_kinds h.table.places h.table.slots.items h.table.agenda c.self.invariant)

pub returns-clause-entries : goal.returns-clause-entries
returns-clause-entries c =
    let h = c.self.inside in
    subst (λ (v : SendSideValue). AreSendEntries v.rules v.entries) c.self.view_is (all_send h.rules.value h.latest.ms h.table.places h.table.slots.items h.table.agenda c.self.invariant)

pub returns-clause-distinct : goal.returns-clause-distinct
returns-clause-distinct c =
    let h = c.self.inside in
    subst (λ (v : SendSideValue). Distinct same_flow (send_records v.entries)) c.self.view_is (each_once (IsSendKept h.rules.value h.latest.ms) send_kinds h.table.places h.table.slots.items h.table.agenda c.self.invariant send_record c.count.ensures.once)
