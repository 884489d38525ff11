use Rattle.std.proofs.Common.{◌+◌, ◌≡◌, [], ◌∷◌, ◌++◌, length, map, drop, arith, ap, ◌∙◌, subst, sym}
use Rattle.std.proofs.lemmas.List.{drop-append-le}
use Rattle.std.specs.List.{All}
use Rattle.dt_machine.specs.declared.backlogs.Place.{Place}
use Rattle.dt_machine.specs.Backlogs.{Waiting, waiting_at, kept, IsPlace}
use Rattle.dt_machine.proofs.Packing.{alike, one_more, places_more, places_behind}
use Rattle.dt_machine.proofs.backlogs.Backlog.keep.Goals as goal

start : (c : goal.After-push_reserved) → c.len-start.result ≡ length c.self.inside.octets.items
start c = c.len-start.ensures ∙ c.self.inside.octets.ok.0

end : (c : goal.After-push_reserved) → c.len-2.result ≡ length c.self.inside.octets.items + length c.args.octets.now
end c = omega (arith, c.len-2.ensures, c.in-Ok.ensures.len, c.self.inside.octets.ok.0)

abbrev last : (c : goal.After-push_reserved) → Place
last c = record { link = c.args.link; start = c.len-start.result; end = c.len-2.result; empty = c.args.empty }

waits : (c : goal.After-push_reserved) → map (waiting_at c.extend_from_slice.new.self.items) (drop c.self.inside.handed c.push_reserved.new.self.items)
    ≡ map (waiting_at c.self.inside.octets.items) (drop c.self.inside.handed c.self.inside.places.items) ++ (record { link = c.args.link; octets = c.args.octets.now; empty = c.args.empty }) ∷ []
waits c =
    let i = c.self.inside in
    let now = c.extend_from_slice.new.self.items in
    let places : drop i.handed c.push_reserved.new.self.items ≡ drop i.handed i.places.items ++ last c ∷ [] =
    ap (drop i.handed) c.push_reserved.ensures.items ∙ drop-append-le i.handed i.places.items (last c ∷ []) (omega (arith, c.self.invariant.handed, i.places.ok.0)) in
    ap (map (waiting_at now)) places
    ∙ one_more c.args.link c.args.empty i.octets.items c.args.octets.now now (drop i.handed i.places.items) c.len-start.result c.len-2.result (start c) (end c) c.in-Ok.ensures.items (places_behind (length i.octets.items) i.handed i.places.items c.self.invariant.places)

pub invariant_of-self : goal.invariant_of-self
invariant_of-self c =
    let i = c.self.invariant in
    let now = c.extend_from_slice.new.self in
    let long : length now.items ≡ length c.self.inside.octets.items + length c.args.octets.now = omega (arith, sym now.ok.0, end c, c.len-2.ensures) in record {
      octets_fit = omega (arith, i.octets_fit, c.if-octets-len.false, c.len.ensures, c.len-else-len-ge-MOST_PLACES.ensures, c.in-Ok.ensures.len);
      octets_room = omega (arith, i.octets_room, c.in-Ok.ensures.capacity);
      places_fit = omega (arith, i.places_fit, c.if-len-ge-MOST_PLACES.false, c.len.ensures, c.push_reserved.ensures.len);
      places_room = omega (arith, i.places_room, c.push_reserved.ensures.capacity);
      handed = omega (arith, i.handed, c.push_reserved.ensures.len);
      places = subst (All (IsPlace (length now.items))) (sym c.push_reserved.ensures.items) (places_more c.self.inside.places.items (last c) (length c.self.inside.octets.items) (length now.items) (omega arith) i.places (record { link = c.requires; ordered = omega (arith, start c, end c); within = omega (arith, end c) }));
    }

pub returns-clause-kept : goal.returns-clause-kept
returns-clause-kept c =
    let i = c.self.inside in
    let before = map (waiting_at i.octets.items) (drop i.handed i.places.items) in
    let more : Waiting = record { link = c.args.link; octets = c.args.octets.now; empty = c.args.empty } in
    alike (map (waiting_at c.extend_from_slice.new.self.items) (drop i.handed c.push_reserved.new.self.items)) (before ++ more ∷ []) c.push_reserved.new.self.len (i.places.len + 1) c.extend_from_slice.new.self.len (i.octets.len + length c.args.octets.now) (waits c) c.push_reserved.ensures.len c.in-Ok.ensures.len
    ∙ ap (kept more) c.self.view_is
