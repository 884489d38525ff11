use Rattle.std.proofs.Common.{◌≡◌, ◌++◌, List, Some, drop, length, refl, sym, ap, subst, ◌∙◌, arith}
use Rattle.std.proofs.lemmas.Bool.{false≢true}
use Rattle.dt_items.specs.declared.item.Item.{Item}
use Rattle.dt_items.specs.Unread.{octets_of, piece_told}
use Rattle.dt_world_model.specs.Host.{Host, read_octets}
use Rattle.dt_host.specs.Notes.{recv_kinds}
use Rattle.dt_host.specs.Hosts.{receivers_of}
use Rattle.dt_table.specs.Places.{present}
use Rattle.dt_host.specs.Sides.{IsRecvKept, RecvSideValue}
use Rattle.dt_host.proofs.RecvTurns.{look_none, no_octets, no_piece, no_read}
use Rattle.dt_host.proofs.RecvSides.{ReadDone, none_read, read_entry, read_gone, read_stayed, same_side, side_left, side_set, taken_here, unread_here}
use Rattle.dt_table.proofs.Tables.{Read, Written, never_empty, whole, written_placed}
use Rattle.dt_host.proofs.recv_side.RecvSide.read.Goals as goal

pub returns-in_err-place-clause-piece : goal.returns-in_err-place-clause-piece
returns-in_err-place-clause-piece g c =
    let h = c.self.inside in
    let none = look_none c.args.flow.now (present h.table.slots.items) c.in_err-place.ensures.none in
    subst (λ (v : RecvSideValue). (host : Host) → c.from_residual.result ≡ piece_told (read_octets v.rules v.latest c.args.flow.now (length c.args.buf.now) (record host { receivers = receivers_of v.entries })).0) c.self.view_is
    (λ host. c.from_residual.ensures ∙ no_piece c.args.flow.now (present h.table.slots.items) none h.rules.value h.latest.ms (length c.args.buf.now) host)

pub returns-in_err-place-clause-octets : goal.returns-in_err-place-clause-octets
returns-in_err-place-clause-octets g c =
    let h = c.self.inside in
    let none = look_none c.args.flow.now (present h.table.slots.items) c.in_err-place.ensures.none in
    subst (λ (v : RecvSideValue). (host : Host) → c.args.buf.now ≡ octets_of (read_octets v.rules v.latest c.args.flow.now (length c.args.buf.now) (record host { receivers = receivers_of v.entries })).0 ++ drop (length (read_octets v.rules v.latest c.args.flow.now (length c.args.buf.now) (record host { receivers = receivers_of v.entries })).0) c.args.buf.now) c.self.view_is
    (λ host. no_octets c.args.flow.now (present h.table.slots.items) none h.rules.value h.latest.ms (length c.args.buf.now) host c.args.buf.now)

pub returns-in_err-place-clause-after : goal.returns-in_err-place-clause-after
returns-in_err-place-clause-after g c =
    let h = c.self.inside in
    let none = look_none c.args.flow.now (present h.table.slots.items) c.in_err-place.ensures.none in
    subst (λ (v : RecvSideValue). (host : Host) → record host { receivers = receivers_of v.entries } ≡ (read_octets v.rules v.latest c.args.flow.now (length c.args.buf.now) (record host { receivers = receivers_of v.entries })).1) c.self.view_is
    (λ host. no_read c.args.flow.now (present h.table.slots.items) none h.rules.value h.latest.ms (length c.args.buf.now) host)

pub place-requires : goal.place-requires
place-requires g c = whole (IsRecvKept c.self.inside.rules.value) recv_kinds c.self.inside.table.places c.self.inside.table.slots.items c.self.inside.table.agenda c.self.invariant

pub unreachable-requires : goal.unreachable-requires
unreachable-requires g c = never_empty (IsRecvKept c.self.inside.rules.value) recv_kinds c.self.inside.table.places c.self.inside.table.slots.items c.self.inside.table.agenda c.self.invariant c.place.ensures.once c.args.flow.now c.in_ok-place.place (sym c.in_ok-place.ensures.here) c.index_mut.result.now c.index_mut.ensures.value c.in_default.is

pub remove-requires-clause-placed : goal.remove-requires-clause-placed
remove-requires-clause-placed g c =
    let h = c.self.inside in
    let at : Read h.table.places h.table.slots.items c.args.flow.now c.in_ok-place.place = record { once = c.place.ensures.once; place = c.in_ok-place.ensures.here; read = c.index_mut.result.now; from = c.index_mut.ensures.value; owner = c.in-Some.field-0-0; value = c.in-Some.receiver; is = c.in-Some.is } in
    written_placed (IsRecvKept h.rules.value) recv_kinds h.table.places h.table.slots.items h.table.agenda c.self.invariant c.args.flow.now c.in_ok-place.place at c.read.new.self

pub invariant_of-self : goal.invariant_of-self
invariant_of-self g c =
    let h = c.self.inside in
    let at : Read h.table.places h.table.slots.items c.args.flow.now c.in_ok-place.place = record { once = c.place.ensures.once; place = c.in_ok-place.ensures.here; read = c.index_mut.result.now; from = c.index_mut.ensures.value; owner = c.in-Some.field-0-0; value = c.in-Some.receiver; is = c.in-Some.is } in
    same_side h.rules.value h.table.places h.table.slots.items h.table.agenda c.self.invariant c.args.flow.now c.in_ok-place.place at c.read.new.self (unread_here c.self.invariant at c.self.inside.latest.ms (length c.args.buf.now) c.read.new.self c.read.ensures.after (c.in_err-piece.ensures.none.0 refl))

pub invariant_of-self-then-idle : goal.invariant_of-self-then-idle
invariant_of-self-then-idle g c =
    let h = c.self.inside in
    let at : Read h.table.places h.table.slots.items c.args.flow.now c.in_ok-place.place = record { once = c.place.ensures.once; place = c.in_ok-place.ensures.here; read = c.index_mut.result.now; from = c.index_mut.ensures.value; owner = c.in-Some.field-0-0; value = c.in-Some.receiver; is = c.in-Some.is } in
    side_left h.rules.value h.table.places h.table.slots.items h.table.agenda c.self.invariant c.args.flow.now c.in_ok-place.place at c.read.new.self c.remove.new.self.places c.remove.new.self.slots.items c.remove.new.self.agenda c.remove.ensures.placed c.remove.ensures.slots c.remove.ensures.notes

pub invariant_of-self-else-idle : goal.invariant_of-self-else-idle
invariant_of-self-else-idle g c =
    let h = c.self.inside in
    let at : Read h.table.places h.table.slots.items c.args.flow.now c.in_ok-place.place = record { once = c.place.ensures.once; place = c.in_ok-place.ensures.here; read = c.index_mut.result.now; from = c.index_mut.ensures.value; owner = c.in-Some.field-0-0; value = c.in-Some.receiver; is = c.in-Some.is } in
    side_set h.rules.value h.table.places h.table.slots.items h.table.agenda c.self.invariant c.args.flow.now c.in_ok-place.place at c.read.new.self (read_entry c.self.invariant at c.self.inside.latest.ms (length c.args.buf.now) c.read.new.self c.read.ensures.after (λ idle. false≢true (sym c.if-idle.false ∙ c.is_idle-idle.ensures.1 idle))) c.note.new.self c.note_of-note.result c.note.ensures.here c.note_of-note.ensures.note c.note.ensures.others c.note.ensures.room

pub returns-in_err-piece-clause-piece : goal.returns-in_err-piece-clause-piece
returns-in_err-piece-clause-piece g c =
    let h = c.self.inside in
    let at : Read h.table.places h.table.slots.items c.args.flow.now c.in_ok-place.place = record { once = c.place.ensures.once; place = c.in_ok-place.ensures.here; read = c.index_mut.result.now; from = c.index_mut.ensures.value; owner = c.in-Some.field-0-0; value = c.in-Some.receiver; is = c.in-Some.is } in
    subst (λ (v : RecvSideValue). (host : Host) → c.from_residual-in_err-piece.result ≡ piece_told (read_octets v.rules v.latest c.args.flow.now (length c.args.buf.now) (record host { receivers = receivers_of v.entries })).0) c.self.view_is
    (λ host. c.from_residual-in_err-piece.ensures ∙ c.in_err-piece.ensures.piece ∙ ap piece_told (sym (taken_here c.self.invariant at c.self.inside.latest.ms (length c.args.buf.now) host)))

pub returns-in_err-piece-clause-octets : goal.returns-in_err-piece-clause-octets
returns-in_err-piece-clause-octets g c =
    let h = c.self.inside in
    let at : Read h.table.places h.table.slots.items c.args.flow.now c.in_ok-place.place = record { once = c.place.ensures.once; place = c.in_ok-place.ensures.here; read = c.index_mut.result.now; from = c.index_mut.ensures.value; owner = c.in-Some.field-0-0; value = c.in-Some.receiver; is = c.in-Some.is } in
    subst (λ (v : RecvSideValue). (host : Host) → c.read.new.buf ≡ octets_of (read_octets v.rules v.latest c.args.flow.now (length c.args.buf.now) (record host { receivers = receivers_of v.entries })).0 ++ drop (length (read_octets v.rules v.latest c.args.flow.now (length c.args.buf.now) (record host { receivers = receivers_of v.entries })).0) c.args.buf.now) c.self.view_is
    (λ host. c.read.ensures.octets ∙ ap (λ (items : List Item). octets_of items ++ drop (length items) c.args.buf.now) (sym (taken_here c.self.invariant at c.self.inside.latest.ms (length c.args.buf.now) host)))

pub returns-in_err-piece-clause-after : goal.returns-in_err-piece-clause-after
returns-in_err-piece-clause-after g c =
    let h = c.self.inside in
    let at : Read h.table.places h.table.slots.items c.args.flow.now c.in_ok-place.place = record { once = c.place.ensures.once; place = c.in_ok-place.ensures.here; read = c.index_mut.result.now; from = c.index_mut.ensures.value; owner = c.in-Some.field-0-0; value = c.in-Some.receiver; is = c.in-Some.is } in
    subst (λ (v : RecvSideValue). (host : Host) → record host { receivers = receivers_of (present (Written h.table.slots.items c.in_ok-place.place at.owner c.read.new.self)) } ≡ (read_octets v.rules v.latest c.args.flow.now (length c.args.buf.now) (record host { receivers = receivers_of v.entries })).1) c.self.view_is
    (λ host. none_read c.self.invariant at c.self.inside.latest.ms (length c.args.buf.now) c.read.new.self c.read.ensures.after (c.in_err-piece.ensures.none.0 refl) host)

pub returns-then-idle : goal.returns-then-idle
returns-then-idle g c =
    let h = c.self.inside in
    let at : Read h.table.places h.table.slots.items c.args.flow.now c.in_ok-place.place = record { once = c.place.ensures.once; place = c.in_ok-place.ensures.here; read = c.index_mut.result.now; from = c.index_mut.ensures.value; owner = c.in-Some.field-0-0; value = c.in-Some.receiver; is = c.in-Some.is } in
    let d = subst (λ (v : RecvSideValue). ReadDone v.rules v.latest c.args.flow.now v.entries (present c.remove.new.self.slots.items) (Some c.in_ok-piece.piece) c.args.buf.now c.read.new.buf) c.self.view_is (read_gone c.self.invariant at c.self.inside.latest.ms c.in_ok-piece.piece c.args.buf.now c.read.new.buf c.read.new.self c.in_ok-piece.ensures.piece c.read.ensures.octets c.read.ensures.after (c.is_idle-idle.ensures.0 c.if-idle.true) c.remove.new.self.slots.items c.remove.ensures.slots) in
    record { piece = d.told; octets = d.octets; after = d.after; same = ap (λ (v : RecvSideValue). let w : RecvSideValue = record v { entries = (present c.remove.new.self.slots.items) } in w) c.self.view_is; looks = (let one = c.read.ensures.looks in omega arith) }

pub returns-else-idle : goal.returns-else-idle
returns-else-idle g c =
    let h = c.self.inside in
    let at : Read h.table.places h.table.slots.items c.args.flow.now c.in_ok-place.place = record { once = c.place.ensures.once; place = c.in_ok-place.ensures.here; read = c.index_mut.result.now; from = c.index_mut.ensures.value; owner = c.in-Some.field-0-0; value = c.in-Some.receiver; is = c.in-Some.is } in
    let d = subst (λ (v : RecvSideValue). ReadDone v.rules v.latest c.args.flow.now v.entries (present (Written h.table.slots.items c.in_ok-place.place at.owner c.read.new.self)) (Some c.in_ok-piece.piece) c.args.buf.now c.read.new.buf) c.self.view_is (read_stayed c.self.invariant at c.self.inside.latest.ms c.in_ok-piece.piece c.args.buf.now c.read.new.buf c.read.new.self c.in_ok-piece.ensures.piece c.read.ensures.octets c.read.ensures.after (λ idle. false≢true (sym c.if-idle.false ∙ c.is_idle-idle.ensures.1 idle))) in
    record { piece = d.told; octets = d.octets; after = d.after; same = ap (λ (v : RecvSideValue). let w : RecvSideValue = record v { entries = (present (Written h.table.slots.items c.in_ok-place.place at.owner c.read.new.self)) } in w) c.self.view_is; looks = (let one = c.read.ensures.looks in let two = c.note_of-note.ensures.looks in omega arith) }
