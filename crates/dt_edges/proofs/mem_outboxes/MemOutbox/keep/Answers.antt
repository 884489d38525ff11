use Rattle.std.proofs.Common.{◌+◌, ◌≡◌, List, [], ◌∷◌, ◌++◌, length, map, arith, ap, ◌∙◌, subst, sym}
use Rattle.std.specs.List.{All}
use Rattle.dt_edges.specs.Wires.{Datagram, Departures, octets_in, departed}
use Rattle.dt_edges.specs.Spans.{datagram_at, IsWithin}
use Rattle.dt_edges.proofs.Spanning.{datagrams_more, octets_in_more, within_more}
use Rattle.dt_edges.proofs.mem_outboxes.MemOutbox.keep.Goals as goal

start : (c : goal.After-push_reserved) → c.len-start.result ≡ length c.self.inside.octets.items
start c = c.len-start.ensures ∙ c.self.inside.octets.ok.0

end : (c : goal.After-push_reserved) → c.len-2.result ≡ length c.self.inside.octets.items + length c.args.octets.now
end c = omega (arith, c.len-2.ensures, c.in-Ok.ensures.len, c.self.inside.octets.ok.0)

-- what the box holds is what it held, and this datagram
kept : (c : goal.After-push_reserved) → map (datagram_at c.extend_from_slice.new.self.items) c.push_reserved.new.self.items ≡ map (datagram_at c.self.inside.octets.items) c.self.inside.spans.items ++ (record { link = c.args.link; octets = c.args.octets.now }) ∷ []
kept c =
    ap (map (datagram_at c.extend_from_slice.new.self.items)) c.push_reserved.ensures.items
    ∙ datagrams_more c.args.link c.self.inside.octets.items c.args.octets.now c.extend_from_slice.new.self.items c.self.inside.spans.items c.len-start.result c.len-2.result (start c) (end c) c.in-Ok.ensures.items c.self.invariant.within

pub invariant_of-self : goal.invariant_of-self
invariant_of-self c =
    let i = c.self.invariant in
    let now = c.extend_from_slice.new.self in
    let olds = map (datagram_at c.self.inside.octets.items) c.self.inside.spans.items in
    let total : octets_in olds + length c.args.octets.now ≡ c.extend_from_slice.new.self.len = omega (arith, i.in_all, c.in-Ok.ensures.len) in
    let long : length now.items ≡ length c.self.inside.octets.items + length c.args.octets.now = omega (arith, sym now.ok.0, end c, c.len-2.ensures) in record {
      octets_fit = omega (arith, i.octets_fit, c.if-octets-self.false, c.len.ensures, c.len-else-octets-self.ensures, c.in-Ok.ensures.len);
      octets_room = omega (arith, i.octets_room, c.in-Ok.ensures.capacity);
      spans_fit = omega (arith, i.spans_fit, c.push_reserved.ensures.len);
      spans_room = omega (arith, i.spans_room, c.push_reserved.ensures.capacity);
      within = subst (All (IsWithin (length now.items))) (sym c.push_reserved.ensures.items) (within_more c.self.inside.spans.items (record { link = c.args.link; start = c.len-start.result; end = c.len-2.result }) (length c.self.inside.octets.items) (length now.items) (omega arith) i.within (record { ordered = omega (arith, start c, end c); within = omega (arith, end c) }));
      in_all = ap octets_in (kept c) ∙ octets_in_more olds (record { link = c.args.link; octets = c.args.octets.now }) ∙ total;
    }

pub returns-clause-kept : goal.returns-clause-kept
returns-clause-kept c =
    ap (λ (ds : List Datagram). (let d : Departures = record { room = c.self.inside.room; given = ds } in d)) (kept c)
    ∙ ap (departed (record { link = c.args.link; octets = c.args.octets.now })) c.self.view_is
