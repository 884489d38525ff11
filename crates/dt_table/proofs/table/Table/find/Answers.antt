use Rattle.std.proofs.Common.{length, sym, ap, ◌∙◌}
use Rattle.std.specs.Option.{option_copied}
use Rattle.dt_table.proofs.Closing.{Any}
use Rattle.dt_table.proofs.Tables.{Read, found_there, never_empty}
use Rattle.dt_table.proofs.table.Table.find.Goals as goal

pub returns-in_err-place : goal.returns-in_err-place
returns-in_err-place g c =
    let t = c.args.self.now in
    ap option_copied c.from_residual.ensures ∙ sym c.in_err-place.ensures.none

pub unreachable-requires : goal.unreachable-requires
unreachable-requires g c =
    let t = c.args.self.now in
    never_empty Any (length t.agenda) t.places t.slots.items t.agenda c.requires c.place.ensures.once c.args.flow.now c.in_ok-place.place (sym c.in_ok-place.ensures.here) c.index.result.now c.index.ensures c.in-None.is

pub returns : goal.returns
returns g c =
    let t = c.args.self.now in
    let at : Read t.places t.slots.items c.args.flow.now c.in_ok-place.place = record { once = c.place.ensures.once; place = c.in_ok-place.ensures.here; read = c.index.result.now; from = c.index.ensures; owner = c.in-Some.field-0-0; value = c.in-Some.found; is = c.in-Some.is } in
    sym (found_there Any (length t.agenda) t.places t.slots.items t.agenda c.requires c.args.flow.now c.in_ok-place.place at)
