use Rattle.std.proofs.Common.{◌≡◌, subst}
use Rattle.std.specs.Option.{option_copied}
use Rattle.std.specs.Map.{lookup}
use Rattle.dt_host.specs.Notes.{send_kinds}
use Rattle.dt_host.specs.Hosts.{AreSendEntries}
use Rattle.dt_table.specs.Places.{equal_flows}
use Rattle.dt_host.specs.Sides.{IsSendKept, SendSideValue}
use Rattle.dt_host.proofs.SendSides.{all_send}
use Rattle.dt_table.proofs.Tables.{whole}
use Rattle.dt_host.proofs.send_side.SendSide.sender.Goals as goal

pub find-requires : goal.find-requires
find-requires c =
    let h = c.self.inside in
    whole (IsSendKept h.rules.value h.latest.ms) send_kinds h.table.places h.table.slots.items h.table.agenda c.self.invariant

pub returns-clause-value : goal.returns-clause-value
returns-clause-value c = subst (λ (v : SendSideValue). option_copied c.find.result ≡ lookup (equal_flows c.args.flow.now) v.entries) c.self.view_is c.find.ensures

pub returns-clause-entries : goal.returns-clause-entries
returns-clause-entries c =
    let h = c.self.inside in
    subst (λ (v : SendSideValue). AreSendEntries v.rules v.entries) c.self.view_is (all_send h.rules.value h.latest.ms h.table.places h.table.slots.items h.table.agenda c.self.invariant)
