use Rattle.std.proofs.Common.{ℕ, ◌+◌, ◌≡◌, List, [], ◌∷◌, ◌++◌, length, map, replicate, slice_get, Option, None, if◌then◌else◌, nat_lt, vec_len, arith, ap, sym, ◌∙◌}
use Rattle.std.proofs.lemmas.List.{length-map}
use Rattle.std.specs.Option.{option_map, option_and_then}
use Rattle.dt_edges.specs.Wires.{Datagram, Arrivals, cut_to, entry_at, used_after, arrivals_after}
use Rattle.dt_edges.specs.Spans.{datagram_at, answers_of, cut_span}
use Rattle.dt_edges.proofs.Answering.{found_next, next_within, told_more}
use Rattle.dt_edges.proofs.mem_inboxes.MemInbox.next.Goals as goal

-- the span that was found, by the entries
next_span : (c : goal.After-slice_known-2-1) → c.answer-datagram.result ≡ option_map (cut_span (length c.args.buf.now)) (option_and_then (λ entry. entry) (slice_get c.self.inside.entries.items (vec_len c.self.inside.found)))
next_span c = c.answer-datagram.ensures.next ∙ ap (λ es. option_map (cut_span (length c.args.buf.now)) (option_and_then (λ entry. entry) (slice_get es (vec_len c.self.inside.found)))) c.deref.ensures.value

-- it is the next entry, cut to the buffer
found : (c : goal.After-slice_known-2-1) → option_map (datagram_at c.self.inside.octets.items) c.answer-datagram.result ≡ cut_to (length c.args.buf.now) (entry_at (map (option_map (datagram_at c.self.inside.octets.items)) c.self.inside.entries.items) (vec_len c.self.inside.found))
found c = found_next c.self.inside.octets.items c.self.inside.entries.items (vec_len c.self.inside.found) (length c.args.buf.now) c.answer-datagram.result (next_span c)

pub invariant_of-self : goal.invariant_of-self
invariant_of-self c =
    let i = c.self.invariant in
    let n = length c.self.inside.octets.items in record {
      used = grind (arith, c.answer-datagram.ensures.used, c.deref.ensures.len);
      room = omega (arith, i.room, c.answer-datagram.ensures.space);
      counted = omega (arith, i.counted, c.answer-datagram.ensures.counted, c.saturating_add-self-inside.ensures);
      entries = i.entries;
      answers = c.answer-datagram.ensures.entries n i.answers (next_within n c.self.inside.entries.items (vec_len c.self.inside.found) (length c.args.buf.now) c.answer-datagram.result (next_span c) i.entries);
    }

pub returns-clause-found : goal.returns-clause-found
returns-clause-found c =
    c.hand_over.ensures.handed
    ∙ ap (λ octets. option_map (datagram_at octets) c.answer-datagram.result) c.deref-2.ensures.value
    ∙ found c
    ∙ ap (λ (a : Arrivals). cut_to (length c.args.buf.now) (entry_at a.entries a.used)) c.self.view_is

seen_as : (es : List (Option Datagram)) (used used' answered answered' : ℕ) (told told' : Option (List (Option Datagram))) → used ≡ used' → answered ≡ answered' → told ≡ told'
    → (let a : Arrivals = record { entries = es; used = used; answered = answered; taken = told } in a) ≡ (let a : Arrivals = record { entries = es; used = used'; answered = answered'; taken = told' } in a)
seen_as es used used' answered answered' told told' u a t = cc

pub returns-clause-after : goal.returns-clause-after
returns-clause-after c =
    let i = c.self.inside in
    let entries = map (option_map (datagram_at i.octets.items)) i.entries.items in
    let used : vec_len c.answer-datagram.new.found ≡ used_after entries (vec_len i.found) =
    c.answer-datagram.ensures.used ∙ ap (λ n. if nat_lt (vec_len i.found) n then vec_len i.found + 1 else vec_len i.found) (ap length c.deref.ensures.value ∙ sym (length-map i.entries.items (option_map (datagram_at i.octets.items)))) in
    let told = told_more i.answered c.saturating_add-self-inside.result _ _ _ c.saturating_add-self-inside.ensures
    (λ below. c.answer-datagram.ensures.noted i.octets.items (omega (arith, below, c.self.invariant.counted)) ∙ ap (λ (d : Option Datagram). answers_of i.octets.items i.found.items ++ replicate i.idle None ++ d ∷ []) (found c)) in
    seen_as entries _ _ _ _ _ _ used c.saturating_add-self-inside.ensures told ∙ ap (arrivals_after (length c.args.buf.now)) c.self.view_is
