-- A sink behind a buffer: what it holds when what waited was put, or a first part of it.
use Rattle.std.proofs.Common.{◌≡◌, ℕ, ◌+◌, Bool, List, [], ◌++◌, length, take, drop, Option, Some, None, Result, Ok, Err, min, refl, ap, sym, subst, ◌∙◌, append_assoc, append-nil}
use Rattle.std.proofs.Math.Seq.{take-append-add}
use Rattle.std.proofs.lemmas.List.{append_cancel_left, take-append-drop}
use Rattle.std.specs.Io.KnownBytes.{Appends, append_known}
use Rattle.std.proofs.KnownBytes.{Appends-nil}
use Rattle.dt_edges.specs.Counts.{HasRisen}
use Rattle.dt_edges.specs.Sinks.{Grows, SinkSight}
use Rattle.dt_fold.specs.declared.stops.Stop.{Stop}
use Rattle.dt_fold.specs.declared.stops.Stop.TheVariants as stops
use Rattle.dt_fold.specs.Folds.{Folded}
use Rattle.dt_fold.specs.Logging.{Fills, FillsBehind, HasPart, Passes, PassesRest}
use Rattle.dt_fold.proofs.Stopping.{first_of}

none_waits : (held : Option (List ℕ)) → append_known held [] ≡ held
none_waits None = refl
none_waits (Some x) = ap Some (append-nil x)

-- nothing waited at first
pub from_empty : (a b : Option (List ℕ)) (text : List ℕ) → Appends (append_known a []) b text → Appends a b text
from_empty a b text h = subst (λ c. Appends c b text) (none_waits a) h

-- all that waited was put
pub all_put : (a m end : Option (List ℕ)) (waiting text : List ℕ) → Appends a (append_known m waiting) text → Appends m end waiting → Appends a end text
all_put None m end waiting text h e = tt
all_put (Some x) None end waiting text h e = absurd h
all_put (Some x) (Some y) None waiting text h e = absurd e
all_put (Some x) (Some y) (Some z) waiting text h e = e ∙ h

-- of what waited the first n octets were put
pub part_put : (a m end : Option (List ℕ)) (waiting text : List ℕ) (n : ℕ) (g : Grows a m) → Appends a (append_known m waiting) text → Appends m end (take n waiting) → Appends a end (take (length g.0 + n) text)
part_put None m end waiting text n g h e = tt
part_put (Some x) None end waiting text n g h e = absurd h
part_put (Some x) (Some y) None waiting text n g h e = absurd e
part_put (Some x) (Some y) (Some z) waiting text n g h e =
    let p = g.0 in
    let whole : p ++ waiting ≡ text = append_cancel_left x (p ++ waiting) text (sym (append_assoc x p waiting) ∙ ap (λ l. l ++ waiting) (sym g.1) ∙ h) in
    e
    ∙ ap (λ l. l ++ take n waiting) g.1
    ∙ append_assoc x p (take n waiting)
    ∙ ap (λ l. x ++ l) (sym (take-append-add p waiting n) ∙ ap (take (length p + n)) whole)

-- a first part of a first part
pub part_of_part : (text : List ℕ) (count : ℕ) (a b : SinkSight) → HasPart (take count text) a b → HasPart text a b
part_of_part text count a b h =
    let part = take count text in
    (min h.0 (length part), subst (Appends a.held b.held) (first_of part (drop count text) h.0 ∙ ap (take (min h.0 (length part))) (take-append-drop count text)) h.1)

pub risen_from : (m n k : ℕ) → n ≡ m → HasRisen n k → HasRisen m k
risen_from m n k e h = subst (λ i. HasRisen i k) e h

module _ {S : Type 0} (all : Folded S) (a mid end : SinkSight) (waiting : List ℕ) where
  -- the rest was put after all was logged
  after_all : (accepted : Bool) (result : Result Bool Stop) → FillsBehind all (Ok accepted) a [] mid waiting → Passes (Ok accepted) result waiting mid end → Fills all result a end
  after_all accepted (Ok b) f p = let same : b ≡ accepted = cc in (same ∙ f.0.0, all_put a.held mid.held end.held waiting all.text (from_empty a.held _ _ f.0.1) p.1, p.2 ∙ f.0.2)
  after_all accepted (Err stops.NoMemory) f p = cc
  after_all accepted (Err stops.WriteFault) f p =
      ((length f.1.0 + p.0.0, part_put a.held mid.held end.held waiting all.text p.0.0 f.1 (from_empty a.held _ _ f.0.1) p.0.1), risen_from a.faults mid.faults end.faults f.0.2 p.1)

  -- the rest was put after memory ran out
  after_want : (result : Result Bool Stop) → FillsBehind all (Err stops.NoMemory) a [] mid waiting → Passes (Err stops.NoMemory) result waiting mid end → Fills all result a end
  after_want (Ok b) f p = cc
  after_want (Err stops.NoMemory) f p = ((f.0.0.0, all_put a.held mid.held end.held waiting (take f.0.0.0 all.text) (from_empty a.held _ _ f.0.0.1) p.1), p.2 ∙ f.0.1)
  after_want (Err stops.WriteFault) f p =
      let text = all.text in
      let part = take f.0.0.0 text in
      (part_of_part text f.0.0.0 a end (length f.1.0 + p.0.0, part_put a.held mid.held end.held waiting part p.0.0 f.1 (from_empty a.held _ _ f.0.0.1) p.0.1), risen_from a.faults mid.faults end.faults f.0.1 p.1)

  -- nothing more was put
  after_fault : (result : Result Bool Stop) → FillsBehind all (Err stops.WriteFault) a [] mid waiting → PassesRest (Err stops.WriteFault) result waiting mid end → Fills all result a end
  after_fault result f p =
      let text = all.text in
      let part = take f.0.0.0 text in
      let held : HasPart text a mid = part_of_part text f.0.0.0 a mid (length f.1.0 + 0, part_put a.held mid.held mid.held waiting part 0 f.1 (from_empty a.held _ _ f.0.0.1) (Appends-nil mid.held)) in
      subst (λ r. Fills all r a end) (sym p.0) (subst (λ s. Fills all (Err stops.WriteFault) a s) (sym p.1) (held, f.0.1))

  pub filled : (folded result : Result Bool Stop) → FillsBehind all folded a [] mid waiting → PassesRest folded result waiting mid end → Fills all result a end
  filled (Ok accepted) result f p = after_all accepted result f p
  filled (Err stops.NoMemory) result f p = after_want result f p
  filled (Err stops.WriteFault) result f p = after_fault result f p
