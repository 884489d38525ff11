-- Datagrams that stand one after the other, when more come after them.
use Rattle.std.proofs.Common.{◌≡◌, ℕ, ◌+◌, ◌-◌, ◌≤◌, List, [], ◌∷◌, ◌++◌, length, map, take, drop, slice_range, refl, ap, ◌∙◌, arith, zero, suc, length-drop, take_all}
use Rattle.std.proofs.lemmas.List.{take-append-le, drop-append-le, map-append}
use Rattle.std.proofs.Math.Seq.{drop-append_seam}
use Rattle.std.proofs.lemmas.List.Elements.{All-head, All-tail, All-append, All-cons, All-nil}
use Rattle.std.specs.List.{All}
use Rattle.dt_machine.specs.declared.backlogs.Place.{Place}
use Rattle.dt_machine.specs.Backlogs.{Waiting, Backlogged, waiting_at, IsPlace}

-- octets that end within the first octets
range_same : (octets more : List ℕ) (start end : ℕ) → start ≤ end → end ≤ length octets → slice_range (octets ++ more) start end ≡ slice_range octets start end
range_same octets more start end o w =
    ap (take (end - start)) (drop-append-le start octets more (omega arith))
    ∙ take-append-le (end - start) (drop start octets) more (omega (arith, length-drop start octets))

-- the octets that came last
range_last : (octets more : List ℕ) → slice_range (octets ++ more) (length octets) (length octets + length more) ≡ more
range_last octets more =
    ap (take (length octets + length more - length octets)) (drop-append_seam octets more)
    ∙ take_all (length octets + length more - length octets) more (omega arith)

waiting_same : (octets more : List ℕ) (p : Place) → IsPlace (length octets) p → waiting_at (octets ++ more) p ≡ waiting_at octets p
waiting_same octets more p w =
    ap (λ (xs : List ℕ). (let d : Waiting = record { link = p.link; octets = xs; empty = p.empty } in d)) (range_same octets more p.start p.end w.ordered w.within)

-- all stay the same, when more octets come after theirs
all_same : (octets more : List ℕ) (ps : List Place) → All (IsPlace (length octets)) ps → map (waiting_at (octets ++ more)) ps ≡ map (waiting_at octets) ps
all_same octets more [] w = refl
all_same octets more (p ∷ ps) w =
    let head = waiting_same octets more p (All-head (IsPlace (length octets)) p ps w) in
    let tail = all_same octets more ps (All-tail (IsPlace (length octets)) p ps w) in
    cc

-- one more after the others, whose octets came last
pub one_more : (link empty : ℕ) (octets more now : List ℕ) (ps : List Place) (start end : ℕ) → start ≡ length octets → end ≡ length octets + length more → now ≡ octets ++ more → All (IsPlace (length octets)) ps
    → map (waiting_at now) (ps ++ (record { link = link; start = start; end = end; empty = empty }) ∷ []) ≡ map (waiting_at octets) ps ++ (record { link = link; octets = more; empty = empty }) ∷ []
one_more link empty octets more now ps start end s e n w =
    let last : Place = record { link = link; start = start; end = end; empty = empty } in
    let old : map (waiting_at now) ps ≡ map (waiting_at octets) ps = rw n (all_same octets more ps w) in
    let new : waiting_at now last ≡ record { link = link; octets = more; empty = empty } =
    rw (s, e, n) (ap (λ (xs : List ℕ). (let d : Waiting = record { link = link; octets = xs; empty = empty } in d)) (range_last octets more)) in
    map-append (waiting_at now) ps (last ∷ []) ∙ ap (λ ds. ds ++ waiting_at now last ∷ []) old ∙ ap (λ (d : Waiting). map (waiting_at octets) ps ++ d ∷ []) new

-- one more place after the others
pub places_more : (ps : List Place) (last : Place) (n m : ℕ) → n ≤ m → All (IsPlace n) ps → IsPlace m last → All (IsPlace m) (ps ++ last ∷ [])
places_more ps last n m le w l =
    All-append (IsPlace m) ps (last ∷ []) (λ k d h. record { link = (w k d h).link; ordered = (w k d h).ordered; within = omega (arith, (w k d h).within) }) (All-cons (IsPlace m) last [] l (All-nil (IsPlace m)))

-- the same of the places after the first so many
pub places_behind : (n k : ℕ) (ps : List Place) → All (IsPlace n) ps → All (IsPlace n) (drop k ps)
places_behind n zero ps w = w
places_behind n (suc k) [] w = w
places_behind n (suc k) (p ∷ ps) w = places_behind n k ps (All-tail (IsPlace n) p ps w)

-- two that agree in all parts
pub alike : (ws vs : List Waiting) (p q o r : ℕ) → ws ≡ vs → p ≡ q → o ≡ r → (let b : Backlogged = record { waiting = ws; places = p; octets = o } in b) ≡ record { waiting = vs; places = q; octets = r }
alike ws vs p q o r w e f = rw (w, e, f) refl

-- those that wait, without the first
pub without_first : (f : Place → Waiting) (k : ℕ) (ps : List Place) → map f (drop (suc k) ps) ≡ drop 1 (map f (drop k ps))
without_first f zero [] = refl
without_first f zero (p ∷ ps) = refl
without_first f (suc k) [] = refl
without_first f (suc k) (p ∷ ps) = without_first f k ps
