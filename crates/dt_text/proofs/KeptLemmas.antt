-- The words of a line that were kept so far.
use Rattle.std.proofs.Common.{◌≡◌, ℕ, ◌+◌, ◌<◌, ◌≤◌, List, [], ◌∷◌, ◌++◌, length, take, set, map, Bor, sym, ap, ◌∙◌, arith, append_assoc, length-append}
use Rattle.std.proofs.Math.Numerals.{add-one}
use Rattle.std.proofs.Math.Seq.{take-suc-set}
use Rattle.std.proofs.lemmas.List.{map-append, length-map, length-take-le, get_or_append_left, get_or-take}
use Rattle.std.specs.List.{take-map}
use Rattle.dt_text.specs.Splitting.{word}

abbrev pub contents : List (Bor (List ℕ)) → List (List ℕ)
contents kept = map (λ kept. kept.now) kept

pub kept-next : (kept : List (Bor (List ℕ))) (len : ℕ) (first : Bor (List ℕ)) (all rest more : List (List ℕ)) → len < length kept
    → all ≡ contents (take len kept) ++ rest → rest ≡ first.now ∷ more → all ≡ contents (take (len + 1) (set kept len first)) ++ more
kept-next kept len first all rest more inside so_far next =
    so_far
    ∙ ap (λ rest. contents (take len kept) ++ rest) next
    ∙ sym (append_assoc (contents (take len kept)) (first.now ∷ []) more)
    ∙ ap (λ front. front ++ more) (sym (map-append (λ kept. kept.now) (take len kept) (first ∷ [])))
    ∙ ap (λ front. contents front ++ more) (sym (take-suc-set kept len first inside))
    ∙ ap (λ n. contents (take n (set kept len first)) ++ more) (sym (add-one len))

pub kept-length : (kept : List (Bor (List ℕ))) (len : ℕ) (all more : List (List ℕ)) → len ≤ length kept → all ≡ contents (take len kept) ++ more → length all ≡ len + length more
kept-length kept len all more inside h =
    ap length h ∙ length-append (contents (take len kept)) more ∙ ap (λ n. n + length more) (length-map (take len kept) (λ kept. kept.now) ∙ length-take-le len kept inside)

pub kept-word : (kept : List (Bor (List ℕ))) (len : ℕ) (all more : List (List ℕ)) → len ≤ length kept → all ≡ contents (take len kept) ++ more → (k : ℕ) → k < len → word k (contents kept) ≡ word k all
kept-word kept len all more inside h k below =
    let front : length (contents (take len kept)) ≡ len = length-map (take len kept) (λ kept. kept.now) ∙ length-take-le len kept inside in
    sym (
    ap (word k) h
    ∙ get_or_append_left (contents (take len kept)) more [] k (omega arith)
    ∙ ap (word k) (sym (take-map (λ (kept : Bor (List ℕ)). kept.now) len kept))
    ∙ get_or-take len (contents kept) k [] below
    )
