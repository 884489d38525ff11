use Rattle.std.proofs.Common.{◌≡◌, ◌-◌, take, drop, length, sym, ap, ◌∙◌, arith}
use Rattle.std.proofs.lemmas.List.{length-drop, length-map, length-take-le}
use Rattle.dt_items.specs.declared.item.Item.{Item}
use Rattle.dt_items.specs.Unread.{octets_of}
use Rattle.dt_units.specs.declared.parameters.Params.{Params}
use Rattle.dt_layout.specs.Spelling.{Data, PacketValue, carrying, gram_spelling}
use Rattle.dt_flow_model.specs.Numbering.{number_of}
use Rattle.dt_flow_model.specs.SendRecord.{begins, ends, leads}
use Rattle.dt_send.specs.SendBuffer.{record_of}
use Rattle.dt_send.proofs.TransmitLemmas.{begins-first, ends-last, item_within}
use Rattle.dt_send.proofs.send_buffer.SendBuffer.transmit.Goals as goal

pub append_octets-requires-clause-bounded : goal.append_octets-requires-clause-bounded
append_octets-requires-clause-bounded c = omega (arith, c.requires.bounded)

pub returns-clause-cut : goal.returns-clause-cut
returns-clause-cut c =
    let s = c.args.sent_segment.now in
    let from = s.offset - c.args.self.now.left in
    let all = c.args.self.now.items.items in
    let items = take s.length (drop from all) in
    let count : length items ≡ s.length = length-take-le s.length (drop from all) (omega (arith, length-drop from all, c.requires.there.0, c.requires.there.1)) in
    let some = c.requires.segment.some in
    let first : begins items ≡ c.item_in.result.begin = begins-first items c.item_in.result (omega arith) (item_within all from s.length 0 from c.item_in.result (omega arith) (omega arith) c.item_in.ensures) in
    let last : ends items ≡ c.item_in-2.result.end = ends-last items (s.length - 1) c.item_in-2.result c.requires.segment.piece (omega arith) (item_within all from s.length (s.length - 1) _ c.item_in-2.result (omega arith) (omega arith) c.item_in-2.ensures) in
    let number = c.number_at.ensures in
    cc

pub returns-clause-frame : goal.returns-clause-frame
returns-clause-frame c =
    let s = c.args.sent_segment.now in
    let f = c.args.context.now.flow.now in
    let from = s.offset - c.args.self.now.left in
    let all = c.args.self.now.items.items in
    let items = take s.length (drop from all) in
    let count : length items ≡ s.length = length-take-le s.length (drop from all) (omega (arith, length-drop from all, c.requires.there.0, c.requires.there.1)) in
    let some = c.requires.segment.some in
    let first : c.item_in.result.begin ≡ begins items = sym (begins-first items c.item_in.result (omega arith) (item_within all from s.length 0 from c.item_in.result (omega arith) (omega arith) c.item_in.ensures)) in
    let last : c.item_in-2.result.end ≡ ends items = sym (ends-last items (s.length - 1) c.item_in-2.result c.requires.segment.piece (omega arith) (item_within all from s.length (s.length - 1) _ c.item_in-2.result (omega arith) (omega arith) c.item_in-2.ensures)) in
    let number = c.number_at.ensures in
    let drf = leads (record_of c.args.self.now) s.offset in
    let same : Data f.from_port f.to_port c.number_at.result drf c.item_in.result.begin c.item_in-2.result.end (octets_of items) ≡ Data f.from_port f.to_port (number_of c.args.context.now.rules.now s.offset) drf (begins items) (ends items) (octets_of items) = cc in
    c.append_octets.ensures
    ∙ c.write.ensures.spelled (octets_of items) (length-map items (λ (item : Item). item.octet) ∙ count)
    ∙ ap (λ (v : PacketValue). gram_spelling (carrying c.params.result.now.mpl f.from.0 f.to.0 v)) same
    ∙ ap (λ (p : Params). gram_spelling (carrying p.mpl f.from.0 f.to.0 (Data f.from_port f.to_port (number_of c.args.context.now.rules.now s.offset) drf (begins items) (ends items) (octets_of items)))) c.params.ensures.same
