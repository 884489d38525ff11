use Rattle.std.proofs.Common.{◌≡◌, ◌+◌, ◌<◌, List, ◌∷◌, [], ◌++◌, false, get_or, length, map, None, take, sym, ap, append_assoc, ◌∙◌, arith}
use Rattle.std.proofs.lemmas.List.{map_push, take_all, take_more}
use Rattle.dt_items.specs.declared.item.Item.{Item}
use Rattle.dt_items.specs.Unread.{marked}
use Rattle.dt_items.proofs.Marks.{blank, length-marked, marked-at}
use Rattle.dt_flow_model.specs.declared.rows.Taken.{Taken}
use Rattle.dt_flow_model.specs.Ledger.{open_row}
use Rattle.dt_ledger.proofs.taken_rows.append.Goals as goal

pub loop-place-preserved : goal.loop-place-preserved
loop-place-preserved c =
    let k = c.args.taken.now in
    let items = marked k.octets.now k.begin k.end false in
    let place = c.loop-place.place in
    let long = length-marked k.octets.now k.begin k.end false in
    let there : place < length items = omega arith in
    let item = marked-at k.octets.now place k.begin k.end false blank c.loop-place-test.true in
    let row = open_row c.args.life None in
    let before = c.args.rows.now.items in
    let more : map row (take (place + 1) items) ≡ map row (take place items) ++ row (get_or items place blank) ∷ [] = ap (map row) (take_more items place blank there) ∙ map_push row (take place items) (get_or items place blank) in
    record {
      rows =
          c.push_reserved.ensures.items
          ∙ ap (λ (xs : List Taken). xs ++ c.open.result ∷ []) c.loop-place.invariant.rows
          ∙ ap (λ (r : Taken). before ++ map row (take place items) ++ r ∷ []) (c.open.ensures ∙ ap row (c.item_at.ensures ∙ sym item))
          ∙ append_assoc before (map row (take place items)) (row (get_or items place blank) ∷ [])
          ∙ ap (λ (xs : List Taken). before ++ xs) (sym more);
      len = omega arith;
      room = omega arith;
    }

pub returns : goal.returns
returns c =
    let k = c.args.taken.now in
    let items = marked k.octets.now k.begin k.end false in
    let long = length-marked k.octets.now k.begin k.end false in
    c.loop-place.invariant.rows
    ∙ ap (λ (xs : List Item). c.args.rows.now.items ++ map (open_row c.args.life None) xs) (take_all c.loop-place.place items (omega arith))
