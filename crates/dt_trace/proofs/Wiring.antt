-- What was recorded of takes is added to a wire, one after another.
use Rattle.std.proofs.Common.{◌≡◌, ℕ, ◌+◌, ◌<◌, List, [], ◌∷◌, ◌++◌, length, map, take, get_or, Option, Some, None, refl, sym, ap, ◌∙◌, arith}
use Rattle.std.proofs.Math.Numerals.{add-one}
use Rattle.std.proofs.Math.Seq.{take-suc}
use Rattle.std.specs.List.{take-map}
use Rattle.std.proofs.lemmas.List.{map-append}
use Rattle.dt_edges.specs.Wires.{Datagram, WireInMemory}
use Rattle.dt_trace.specs.Traces.{Recorded, wire_of}

-- the first of what the takes find, and one more
pub wire_more : (A : Type 0) (seen : A → Option Datagram) (t : Recorded) (items : List A) (d found : A) (i : ℕ) (w v : WireInMemory) → found ≡ get_or items i d → t.takes ≡ map seen items → i < length items → w ≡ record (wire_of t) { entries = take i t.takes }
    → v ≡ record w { entries = w.entries ++ seen found ∷ [] } → v ≡ record (wire_of t) { entries = take (i + 1) t.takes }
wire_more A seen t items d found i w v item all inside before after =
    let next : take (i + 1) t.takes ≡ take i t.takes ++ seen (get_or items i d) ∷ [] =
    ap (take (i + 1)) all ∙ take-map seen (i + 1) items ∙ ap (λ n. map seen (take n items)) (add-one i) ∙ ap (map seen) (take-suc items i d inside) ∙ map-append seen (take i items) (get_or items i d ∷ [])
    ∙ ap (λ front. front ++ seen (get_or items i d) ∷ []) (sym (take-map seen i items) ∙ ap (take i) (sym all)) in
    after ∙ ap (λ (x : A). record w { entries = w.entries ++ seen x ∷ [] }) item ∙ ap (λ (x : WireInMemory). record x { entries = x.entries ++ seen (get_or items i d) ∷ [] }) before ∙ ap (λ (es : List (Option Datagram)). record (wire_of t) { entries = es }) (sym next)
