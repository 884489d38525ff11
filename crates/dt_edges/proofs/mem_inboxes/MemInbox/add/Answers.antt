use Rattle.std.proofs.Common.{ℕ, ◌+◌, ◌≡◌, List, [], ◌∷◌, ◌++◌, length, map, replicate, Option, Some, None, if◌then◌else◌, nat_lt, arith, ap, ◌∙◌}
use Rattle.std.specs.Option.{option_map}
use Rattle.dt_edges.specs.Counts.{last_count}
use Rattle.dt_edges.specs.Wires.{Datagram, Arrivals}
use Rattle.dt_edges.specs.Spans.{datagram_at, answers_of}
use Rattle.dt_edges.proofs.Spanning.{entries_with, answers_same}
use Rattle.dt_edges.proofs.mem_inboxes.MemInbox.add.Goals as goal

start : (c : goal.After-push_reserved) → c.len-start.result ≡ length c.self.inside.octets.items
start c = c.len-start.ensures ∙ c.self.inside.octets.ok.0

end : (c : goal.After-push_reserved) → c.len.result ≡ length c.self.inside.octets.items + length c.args.octets.now
end c = omega (arith, c.len.ensures, c.in_ok-extend_from_slice.ensures.len, c.self.inside.octets.ok.0)

-- the entries are those that there were, and this datagram
entries : (c : goal.After-push_reserved) → map (option_map (datagram_at c.extend_from_slice.new.self.items)) c.push_reserved.new.self.items ≡ map (option_map (datagram_at c.self.inside.octets.items)) c.self.inside.entries.items ++ Some (record { link = c.args.link; octets = c.args.octets.now }) ∷ []
entries c =
    ap (map (option_map (datagram_at c.extend_from_slice.new.self.items))) (c.push_reserved.ensures.items ∙ ap (λ es. es ++ Some (record { link = c.args.link; start = c.len-start.result; end = c.len.result }) ∷ []) c.make_room.ensures.entries.0)
    ∙ entries_with c.args.link c.self.inside.octets.items c.args.octets.now c.extend_from_slice.new.self.items c.self.inside.entries.items c.len-start.result c.len.result (start c) (end c) c.in_ok-extend_from_slice.ensures.items c.self.invariant.entries

-- what takes were answered stays
answers : (c : goal.After-push_reserved) → answers_of c.extend_from_slice.new.self.items c.make_room.new.found.items ≡ answers_of c.self.inside.octets.items c.self.inside.found.items
answers c =
    ap (answers_of c.extend_from_slice.new.self.items) c.make_room.ensures.found.0
    ∙ ap (λ octets. answers_of octets c.self.inside.found.items) c.in_ok-extend_from_slice.ensures.items
    ∙ answers_same c.self.inside.octets.items c.args.octets.now c.self.inside.found.items c.self.invariant.answers

-- an inbox as contracts see it, from its parts
seen : (idle answered : ℕ) → List (Option Datagram) → ℕ → List (Option Datagram) → Arrivals
seen idle answered es used answers = record {
  entries = es;
  used = used;
  answered = answered;
  taken = if nat_lt answered last_count then Some (answers ++ replicate idle None) else None;
}

seen_as : (idle answered : ℕ) (es es' : List (Option Datagram)) (used used' : ℕ) (xs xs' : List (Option Datagram)) → es ≡ es' → used ≡ used' → xs ≡ xs' → seen idle answered es used xs ≡ seen idle answered es' used' xs'
seen_as idle answered es es' used used' xs xs' e u a = cc

pub returns-clause-added : goal.returns-clause-added
unfolding seen
returns-clause-added c =
    let i = c.self.inside in
    seen_as i.idle i.answered _ _ _ _ _ _ (entries c) c.make_room.ensures.found.1 (answers c)
    ∙ ap (λ (a : Arrivals). (let b : Arrivals = record a { entries = a.entries ++ Some (record { link = c.args.link; octets = c.args.octets.now }) ∷ [] } in b)) c.self.view_is
