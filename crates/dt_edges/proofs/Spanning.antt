-- Datagrams among others, when more octets come after them.
use Rattle.std.proofs.Common.{◌≡◌, ℕ, ◌+◌, ◌-◌, ◌≤◌, List, [], ◌∷◌, ◌++◌, length, map, take, drop, slice_range, Option, Some, None, refl, ap, ◌∙◌, arith, zero-add, length-drop, take_all}
use Rattle.std.proofs.lemmas.List.{take-append-le, drop-append-le}
use Rattle.std.proofs.Math.Seq.{drop-append_seam}
use Rattle.std.proofs.lemmas.List.{map-append}
use Rattle.std.proofs.lemmas.List.Elements.{All-head, All-tail, All-append, All-cons, All-nil}
use Rattle.std.proofs.lemmas.List.Sums.{sum_by-append}
use Rattle.std.specs.List.{All}
use Rattle.std.specs.Option.{option_map}
use Rattle.dt_edges.specs.declared.spans.Span.{Span}
use Rattle.dt_edges.specs.declared.mem_inboxes.Found.{Found}
use Rattle.dt_edges.specs.Wires.{Datagram, octets_in}
use Rattle.dt_edges.specs.Spans.{datagram_at, IsWithin, IsEntry, answers_of}

-- octets of a datagram that end within the first octets
range_same : (octets more : List ℕ) (start end : ℕ) → start ≤ end → end ≤ length octets → slice_range (octets ++ more) start end ≡ slice_range octets start end
range_same octets more start end o w =
    ap (take (end - start)) (drop-append-le start octets more (omega arith))
    ∙ take-append-le (end - start) (drop start octets) more (omega (arith, length-drop start octets))

-- a datagram that ends within the first octets
datagram_same : (octets more : List ℕ) (span : Span) → IsWithin (length octets) span → datagram_at (octets ++ more) span ≡ datagram_at octets span
datagram_same octets more span w =
    ap (λ (xs : List ℕ). (let d : Datagram = record { link = span.link; octets = xs } in d)) (range_same octets more span.start span.end w.ordered w.within)

-- the octets that came last
pub range_last : (octets more : List ℕ) → slice_range (octets ++ more) (length octets) (length octets + length more) ≡ more
range_last octets more =
    ap (take (length octets + length more - length octets)) (drop-append_seam octets more)
    ∙ take_all (length octets + length more - length octets) more (omega arith)

-- all of the datagrams stay the same, when more octets come after them
pub datagrams_same : (octets more : List ℕ) (spans : List Span) → All (IsWithin (length octets)) spans → map (datagram_at (octets ++ more)) spans ≡ map (datagram_at octets) spans
datagrams_same octets more [] w = refl
datagrams_same octets more (s ∷ ss) w =
    let head = datagram_same octets more s (All-head (IsWithin (length octets)) s ss w) in
    let tail = datagrams_same octets more ss (All-tail (IsWithin (length octets)) s ss w) in
    cc

entry_same : (octets more : List ℕ) (entry : Option Span) → IsEntry (length octets) entry → option_map (datagram_at (octets ++ more)) entry ≡ option_map (datagram_at octets) entry
entry_same octets more None w = refl
entry_same octets more (Some s) w = ap (λ (d : Datagram). (let o : Option Datagram = Some d in o)) (datagram_same octets more s w.0)

pub entries_same : (octets more : List ℕ) (entries : List (Option Span)) → All (IsEntry (length octets)) entries → map (option_map (datagram_at (octets ++ more))) entries ≡ map (option_map (datagram_at octets)) entries
entries_same octets more [] w = refl
entries_same octets more (e ∷ es) w =
    let head = entry_same octets more e (All-head (IsEntry (length octets)) e es w) in
    let tail = entries_same octets more es (All-tail (IsEntry (length octets)) e es w) in
    cc

pub answers_same : (octets more : List ℕ) (found : List Found) → All (λ (f : Found). IsEntry (length octets) f.datagram) found → answers_of (octets ++ more) found ≡ answers_of octets found
answers_same octets more [] w = refl
answers_same octets more (f ∷ fs) w =
    let P : Found → Type 0 = λ f. IsEntry (length octets) f.datagram in
    let head = entry_same octets more f.datagram (All-head P f fs w) in
    let tail = answers_same octets more fs (All-tail P f fs w) in
    cc

-- a datagram whose octets came last
pub datagram_last : (link : ℕ) (octets more now : List ℕ) (start end : ℕ) → start ≡ length octets → end ≡ length octets + length more → now ≡ octets ++ more → datagram_at now (record { link = link; start = start; end = end }) ≡ record { link = link; octets = more }
datagram_last link octets more now start end s e n =
    rw (s, e, n) (ap (λ (xs : List ℕ). (let d : Datagram = record { link = link; octets = xs } in d)) (range_last octets more))

-- one more datagram after the others
pub datagrams_more : (link : ℕ) (octets more now : List ℕ) (spans : List Span) (start end : ℕ) → start ≡ length octets → end ≡ length octets + length more → now ≡ octets ++ more → All (IsWithin (length octets)) spans
    → map (datagram_at now) (spans ++ (record { link = link; start = start; end = end }) ∷ []) ≡ map (datagram_at octets) spans ++ (record { link = link; octets = more }) ∷ []
datagrams_more link octets more now spans start end s e n w =
    let last : Span = record { link = link; start = start; end = end } in
    let old : map (datagram_at now) spans ≡ map (datagram_at octets) spans = rw n (datagrams_same octets more spans w) in
    let new = datagram_last link octets more now start end s e n in
    map-append (datagram_at now) spans (last ∷ []) ∙ ap (λ ds. ds ++ datagram_at now last ∷ []) old ∙ ap (λ (d : Datagram). map (datagram_at octets) spans ++ d ∷ []) new

pub octets_in_more : (ds : List Datagram) (d : Datagram) → octets_in (ds ++ d ∷ []) ≡ octets_in ds + length d.octets
octets_in_more ds d = sum_by-append (λ (x : Datagram). length x.octets) ds (d ∷ []) ∙ ap (λ n. octets_in ds + n) (zero-add (length d.octets))

-- one more place after the others
pub within_more : (spans : List Span) (last : Span) (n m : ℕ) → n ≤ m → All (IsWithin n) spans → IsWithin m last → All (IsWithin m) (spans ++ last ∷ [])
within_more spans last n m le w l =
    All-append (IsWithin m) spans (last ∷ []) (λ k d h. record { ordered = (w k d h).ordered; within = omega (arith, (w k d h).within) }) (All-cons (IsWithin m) last [] l (All-nil (IsWithin m)))

-- one more entry after the others, whose octets came last
pub entries_with : (link : ℕ) (octets more now : List ℕ) (entries : List (Option Span)) (start end : ℕ) → start ≡ length octets → end ≡ length octets + length more → now ≡ octets ++ more → All (IsEntry (length octets)) entries
    → map (option_map (datagram_at now)) (entries ++ Some (record { link = link; start = start; end = end }) ∷ []) ≡ map (option_map (datagram_at octets)) entries ++ Some (record { link = link; octets = more }) ∷ []
entries_with link octets more now entries start end s e n w =
    let last : Option Span = Some (record { link = link; start = start; end = end }) in
    let old : map (option_map (datagram_at now)) entries ≡ map (option_map (datagram_at octets)) entries = rw n (entries_same octets more entries w) in
    let new = datagram_last link octets more now start end s e n in
    map-append (option_map (datagram_at now)) entries (last ∷ []) ∙ ap (λ ds. ds ++ option_map (datagram_at now) last ∷ []) old ∙ ap (λ (d : Datagram). map (option_map (datagram_at octets)) entries ++ Some d ∷ []) new
