use Rattle.std.proofs.Common.{◌≡◌, subst}
use Rattle.std.specs.Option.{option_copied}
use Rattle.std.specs.Map.{lookup}
use Rattle.dt_host.specs.Notes.{recv_kinds}
use Rattle.dt_table.specs.Places.{equal_flows}
use Rattle.dt_host.specs.Sides.{IsRecvKept, RecvSideValue}
use Rattle.dt_table.proofs.Tables.{whole}
use Rattle.dt_host.proofs.recv_side.RecvSide.receiver.Goals as goal

pub find-requires : goal.find-requires
find-requires c =
    let h = c.self.inside in
    whole (IsRecvKept h.rules.value) recv_kinds h.table.places h.table.slots.items h.table.agenda c.self.invariant

pub returns : goal.returns
returns c = record { value = subst (λ (v : RecvSideValue). option_copied c.find.result ≡ lookup (equal_flows c.args.flow.now) v.entries) c.self.view_is c.find.ensures }
