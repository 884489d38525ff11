-- Takes of a wire in memory: the entry that they use, and what is known of them.
use Rattle.std.proofs.Common.{◌≡◌, ℕ, ◌+◌, ◌-◌, ◌<◌, ◌≤◌, min, List, [], ◌∷◌, ◌++◌, map, take, drop, slice_get, Option, Some, None, if◌then◌else◌, nat_lt, refl, ap, sym, subst, ◌∙◌, arith, inl, inr, lt-ltb, take_all}
use borrow.Author.Tests.{ltb-true}
use Rattle.std.proofs.lemmas.Bool.Decides.{nat_tests}
use Rattle.std.proofs.lemmas.Bool.{cases_Bool}
use Rattle.std.proofs.lemmas.Option.{slice_get-map, slice_get_within, get_or_from_slice_get}
use Rattle.std.proofs.lemmas.List.{take-take, length-take}
use Rattle.std.specs.List.{All}
use Rattle.std.specs.Option.{option_map, option_and_then}
use Rattle.dt_edges.specs.declared.spans.Span.{Span}
use Rattle.dt_edges.specs.Counts.{last_count, next_count}
use Rattle.dt_edges.specs.Wires.{Datagram, cut_to, entry_at, noted_until}
use Rattle.dt_edges.specs.Spans.{datagram_at, IsEntry, cut_span}

-- the first n octets of the first k
take_twice : (n k : ℕ) (xs : List ℕ) → take (min n k) xs ≡ take n (take k xs)
take_twice n k xs =
    elim (cases_Bool (nat_lt n k)) [
      | inl y ↦ let less : n < k = ltb-true n k y in ap (λ m. take m xs) (let e : min n k ≡ n = omega arith in e) ∙ sym (take-take n k xs (omega arith))
      | inr over ↦
          let more : k ≤ n = grind (arith, nat_tests) in
          ap (λ m. take m xs) (let e : min n k ≡ k = omega arith in e) ∙ sym (take_all n (take k xs) (omega (arith, length-take k xs)))
    ]

-- an entry that is cut, and then seen as a datagram
cut_entry : (octets : List ℕ) (room : ℕ) (entry : Option Span) → option_map (datagram_at octets) (option_map (cut_span room) entry) ≡ cut_to room (option_map (datagram_at octets) entry)
cut_entry octets room None = refl
cut_entry octets room (Some s) =
    let part = drop s.start octets in
    let count : min s.end (s.start + room) - s.start ≡ min room (s.end - s.start) = omega arith in
    ap (λ (xs : List ℕ). (let o : Option Datagram = Some (record { link = s.link; octets = xs }) in o)) (ap (λ n. take n part) count ∙ take_twice room (s.end - s.start) part)

entry_of : (octets : List ℕ) (entry : Option (Option Span)) → option_and_then (λ e. e) (option_map (option_map (datagram_at octets)) entry) ≡ option_map (datagram_at octets) (option_and_then (λ e. e) entry)
entry_of octets None = refl
entry_of octets (Some e) = refl

-- the entry after those that were used, seen as a datagram
entry_seen : (octets : List ℕ) (entries : List (Option Span)) (used : ℕ) → entry_at (map (option_map (datagram_at octets)) entries) used ≡ option_map (datagram_at octets) (option_and_then (λ entry. entry) (slice_get entries used))
entry_seen octets entries used =
    ap (option_and_then (λ entry. entry)) (slice_get-map (option_map (datagram_at octets)) entries used) ∙ entry_of octets (slice_get entries used)

-- what a take finds: the next entry, cut to its buffer
pub found_next : (octets : List ℕ) (entries : List (Option Span)) (used room : ℕ) (found : Option Span) → found ≡ option_map (cut_span room) (option_and_then (λ entry. entry) (slice_get entries used))
    → option_map (datagram_at octets) found ≡ cut_to room (entry_at (map (option_map (datagram_at octets)) entries) used)
found_next octets entries used room found f =
    ap (option_map (datagram_at octets)) f ∙ cut_entry octets room (option_and_then (λ entry. entry) (slice_get entries used)) ∙ ap (cut_to room) (sym (entry_seen octets entries used))

cut_within : (len room : ℕ) (entry : Option Span) → IsEntry len entry → IsEntry len (option_map (cut_span room) entry)
cut_within len room None w = w
cut_within len room (Some s) w = (record { ordered = omega (arith, w.0.ordered); within = omega (arith, w.0.within) }, w.1)

one_within : (len : ℕ) (entries : List (Option Span)) (used : ℕ) (entry : Option (Option Span)) → slice_get entries used ≡ entry → All (IsEntry len) entries → IsEntry len (option_and_then (λ e. e) entry)
one_within len entries used None is all = tt
one_within len entries used (Some e) is all =
    subst (IsEntry len) (get_or_from_slice_get entries used e e is) (all used e (slice_get_within entries used e is))

-- what a take finds is an entry, too
pub next_within : (len : ℕ) (entries : List (Option Span)) (used room : ℕ) (found : Option Span) → found ≡ option_map (cut_span room) (option_and_then (λ entry. entry) (slice_get entries used)) → All (IsEntry len) entries → IsEntry len found
next_within len entries used room found f all =
    subst (IsEntry len) (sym f) (cut_within len room (option_and_then (λ entry. entry) (slice_get entries used)) (one_within len entries used (slice_get entries used) refl all))

-- what is told after one more answer
pub told_more : (answered after : ℕ) (before now : List (Option Datagram)) (answer : Option Datagram) → after ≡ next_count answered → (answered < last_count → now ≡ before ++ answer ∷ [])
    → (if nat_lt after last_count then Some now else None) ≡ noted_until (next_count answered) answer (if nat_lt answered last_count then Some before else None)
told_more answered after before now answer a n =
    rw a (
    elim (cases_Bool (nat_lt (next_count answered) last_count)) [
      | inl y ↦
          let below : answered < last_count = omega (arith, ltb-true (next_count answered) last_count y) in
          rw (y, lt-ltb answered last_count below) (ap (λ (xs : List (Option Datagram)). (let o : Option (List (Option Datagram)) = Some xs in o)) (n below))
      | inr over ↦ rw over refl
    ])
