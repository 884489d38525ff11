-- The entries of the maps under their calls are the definition's tables.
use Rattle.std.proofs.Common.{ℕ, ◌≡◌, ◌+◌, ◌≤◌, ◌==◌, nat_eq, true, List, [], ◌∷◌, Option, Some, None, Result, Ok, Err, OnOk, refl, sym, ap, subst, ◌∙◌, arith}
use Rattle.std.specs.Prelude.{unwrap_or}
use Rattle.std.proofs.lemmas.Bool.Decides.{nat_tests}
use Rattle.std.specs.Map.{lookup, set_value}
use Rattle.indexmap.specs.IndexMap.{insert_entry}
use Rattle.dt_items.specs.declared.memory.NoMemory.{NoMemory}
use Rattle.dt_units.specs.declared.endpoints.Flow.{Flow}
use Rattle.dt_world_model.specs.Tables.{same_flow, write}
use Rattle.dt_world_model.proofs.Maps.{equal_flows, flow_inserted as inserted_so, flow_looked, flow_written, inserted, looked}
use Rattle.dt_world_model.proofs.Tables.{all_look, all_write, flow_is, flow_self, nat_is}
use Rattle.dt_audit.specs.declared.flow_facts.FlowFact.{FlowFact}
use Rattle.dt_audit.specs.declared.flow_facts.Lives.{Lives}
use Rattle.dt_audit.specs.declared.flaws.Flaw.{Flaw}
use Rattle.dt_audit.specs.Books.{Book, begin_again, change_flow, kept, life_in, lives_of, wrote}
use Rattle.dt_audit.specs.FlowNotes.{Notes, TakenWithin, by_notes, no_notes, notes_after}
use Rattle.dt_audit.specs.Noting.{NotesTo}

-- NODES
nat_agree : (m n : ℕ) → nat_eq m n ≡ (n == m)
nat_agree m n = grind (arith, nat_tests)

pub life_looked : (node : ℕ) (lives : List (ℕ × ℕ)) → unwrap_or (lookup (nat_eq node) lives) 0 ≡ life_in lives node
life_looked node lives = ap (λ (o : Option ℕ). unwrap_or o 0) (looked nat_eq ◌==◌ nat_agree nat_is node lives)

pub life_inserted : (node life : ℕ) (lives : List (ℕ × ℕ)) → insert_entry nat_eq lives node life ≡ write ◌==◌ node life lives
life_inserted node life lives = inserted nat_eq ◌==◌ nat_agree nat_is node (insert_entry nat_eq) (λ b. refl) (λ b e rest. refl) life lives

-- FLOWS
flow_inserted : (f : Flow) (a : Notes) (es : List (Flow × Notes)) → insert_entry equal_flows es f a ≡ write same_flow f a es
flow_inserted f a es = inserted_so f (insert_entry equal_flows) (λ b. refl) (λ b e rest. refl) a es

-- HOW MANY OCTETS A FLOW TOOK
pub taken_more : (most more : ℕ) (es : List (Flow × Notes)) → most ≤ more → TakenWithin most es → TakenWithin more es
taken_more most more [] le h = tt
taken_more most more (e ∷ es) le h = (omega (arith, h.0), taken_more most more es le h.1)

pub taken_found : (most : ℕ) (f : Flow) (n : Notes) (es : List (Flow × Notes)) → Some n ≡ lookup (equal_flows f) es → TakenWithin most es → n.taken ≤ most
taken_found most f n es found h = all_look Flow Notes same_flow flow_self flow_is (λ g m. m.taken ≤ most) f n es (sym (flow_looked f es) ∙ sym found) h

taken_written : (most : ℕ) (f : Flow) (after : Notes) (es : List (Flow × Notes)) → after.taken ≤ most + 4294967295 → TakenWithin most es → TakenWithin (most + 4294967295) (write same_flow f after es)
taken_written most f after es le h = all_write Flow Notes same_flow flow_self flow_is (λ g m. m.taken ≤ most + 4294967295) f after es le (taken_more most (most + 4294967295) es (omega arith) h)

pub taken_there : (most : ℕ) (f : Flow) (n after : Notes) (es new : List (Flow × Notes)) → Some n ≡ lookup (equal_flows f) es → after.taken ≤ n.taken + 4294967295 → new ≡ set_value (equal_flows f) es after → TakenWithin most es → TakenWithin (most + 4294967295) new
taken_there most f n after es new found le e h =
    subst (TakenWithin (most + 4294967295)) (sym (e ∙ flow_written f after n es (sym found))) (taken_written most f after es (omega (arith, taken_found most f n es found h, le)) h)

pub taken_absent : (most : ℕ) (f : Flow) (start after : Notes) (es new : List (Flow × Notes)) → start ≡ no_notes → after.taken ≤ start.taken + 4294967295 → new ≡ insert_entry equal_flows es f after → TakenWithin most es → TakenWithin (most + 4294967295) new
taken_absent most f start after es new first le e h =
    let none : start.taken ≡ 0 = ap (λ (n : Notes). n.taken) first in
    subst (TakenWithin (most + 4294967295)) (sym (e ∙ flow_inserted f after es)) (taken_written most f after es (omega (arith, le, none)) h)

-- what holds anyway holds where a call is Ok
pub on_any : {X Y P : Type 0} (r : Result X Y) → P → OnOk r P
on_any (Ok x) p = p
on_any (Err y) p = tt

abbrev pub book_with : List (ℕ × ℕ) → List (Flow × Notes) → Book Notes
book_with lives flows = record { lives = lives; flows = flows }

module _ (f : Flow) (change : FlowFact) (book : Book Notes) (lives : List (ℕ × ℕ)) (es : List (Flow × Notes)) (is : book_with lives es ≡ book) (pair : Lives) (of_flow : pair ≡ lives_of book.lives f) where
  change_is : (n : Notes) → kept by_notes es f ≡ n → change_flow by_notes f change book ≡ wrote by_notes f (book_with lives es) (notes_after pair change n)
  change_is n e =
      ap (change_flow by_notes f change) (sym is)
      ∙ ap (λ (m : Notes). wrote by_notes f (book_with lives es) (notes_after (lives_of lives f) change m)) e
      ∙ ap (λ (l : Lives). wrote by_notes f (book_with lives es) (notes_after l change n)) (sym (of_flow ∙ ap (λ (b : Book Notes). lives_of b.lives f) (sym is)))

  -- the notes of the flow are changed, and they are written
  changed : (n after : Notes) (r : Result (Option Flaw) NoMemory) (new : List (Flow × Notes)) → kept by_notes es f ≡ n → NotesTo (notes_after pair change n) r after → new ≡ write same_flow f after es
      → NotesTo (change_flow by_notes f change book) r (book_with lives new)
  changed n after (Ok None) new k h e = change_is n k ∙ ap (wrote by_notes f (book_with lives es)) h ∙ ap (λ (w : List (Flow × Notes)). Ok (book_with lives w)) (sym e)
  changed n after (Ok (Some flaw)) new k h e = change_is n k ∙ ap (wrote by_notes f (book_with lives es)) h
  changed n after (Err memory) new k h e = tt

  -- the flow is there, and its notes are changed where they stand
  pub there_changed : (n after : Notes) (r : Result (Option Flaw) NoMemory) (new : List (Flow × Notes)) → Some n ≡ lookup (equal_flows f) es → NotesTo (notes_after pair change n) r after → new ≡ set_value (equal_flows f) es after
      → NotesTo (change_flow by_notes f change book) r (book_with lives new)
  there_changed n after r new found h e =
      changed n after r new (ap (λ (o : Option Notes). unwrap_or o no_notes) (sym (flow_looked f es) ∙ sym found)) h (e ∙ flow_written f after n es (sym found))

  -- it isn't there, and comes after all others; a line with a flaw changes nothing
  absent : None ≡ lookup (equal_flows f) es → kept by_notes es f ≡ no_notes
  absent none = ap (λ (o : Option Notes). unwrap_or o no_notes) (sym (flow_looked f es) ∙ sym none)

  pub absent_flawed : (start after : Notes) (found : Option Flaw) (flaw : Flaw) → None ≡ lookup (equal_flows f) es → start ≡ no_notes → NotesTo (notes_after pair change start) (Ok found) after → found ≡ Some flaw → change_flow by_notes f change book ≡ Err flaw
  absent_flawed start after None flaw none first h is_flaw = absurd cc
  absent_flawed start after (Some other) flaw none first h is_flaw =
      let same : other ≡ flaw = cc in
      change_is start (absent none ∙ sym first) ∙ ap (wrote by_notes f (book_with lives es)) (h ∙ ap (λ (x : Flaw). Err x) same)

  pub absent_changed : (start after : Notes) (found : Option Flaw) (new : List (Flow × Notes)) → None ≡ lookup (equal_flows f) es → start ≡ no_notes → NotesTo (notes_after pair change start) (Ok found) after → ((flaw : Flaw) → found ≡ Some flaw → ⊥)
      → new ≡ insert_entry equal_flows es f after → change_flow by_notes f change book ≡ Ok (book_with lives new)
  absent_changed start after None new none first h passes e = changed start after (Ok None) new (absent none ∙ sym first) h (e ∙ flow_inserted f after es)
  absent_changed start after (Some flaw) new none first h passes e = absurd (passes flaw refl)

-- a node begins again
pub begun_again : (node life : ℕ) (book : Book Notes) (lives : List (ℕ × ℕ)) (flows : List (Flow × Notes)) (new : List (ℕ × ℕ)) → book_with lives flows ≡ book → life ≡ life_in book.lives node + 1 → new ≡ insert_entry nat_eq lives node life
    → begin_again by_notes node life book ≡ Ok (book_with new flows)
begun_again node life book lives flows new is next e =
    let old : life ≡ life_in lives node + 1 = next ∙ ap (λ (b : Book Notes). life_in b.lives node + 1) (sym is) in
    let t : (life == life_in lives node + 1) ≡ true = grind (arith, nat_tests) in
    ap (begin_again by_notes node life) (sym is) ∙ rw t (ap (λ (l : List (ℕ × ℕ)). Ok (book_with l flows)) (sym (life_inserted node life lives) ∙ sym e))
