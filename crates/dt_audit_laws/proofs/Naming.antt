-- A packet's number names its place, and a first transmission keeps the numbers of a log.
use Rattle.std.proofs.Common.{ℕ, zero, suc, ◌≡◌, ◌+◌, ◌-◌, ◌<◌, ◌≤◌, ◌==◌, true, false, List, [], ◌∷◌, length, map, take, Some, Result, Ok, refl, sym, ap, ◌∙◌, arith}
use Rattle.std.specs.Prelude.{nat_le, nat_lt}
use Rattle.std.proofs.Math.Numerals.{add-one}
use Rattle.std.proofs.lemmas.Bool.Decides.{nat_tests}
use Rattle.std.proofs.lemmas.Bool.{and_parts, le-leb}
use Rattle.dt_units.specs.declared.parameters.Params.{Params}
use Rattle.dt_units.specs.Numbers.{number_after, number_distance}
use Rattle.dt_flow_model.specs.declared.rows.Taken.{Taken}
use Rattle.dt_flow_model.specs.Flow.{Run}
use Rattle.dt_flow_model.specs.Ledger.{first_unsent, is_open, is_unsent}
use Rattle.dt_flow_model.specs.Numbering.{number_of}
use Rattle.dt_flow_laws.proofs.Modular.{after_number, distance_from}
use Rattle.dt_world_model.specs.Ledgers.{FlowLedger, Occasion}
use Rattle.dt_audit.specs.declared.flaws.Flaw.{Flaw}
use Rattle.dt_audit.specs.LogRows.{FlowLog, behind_last, first_place, is_unsent_in, place_back, places_where, send, send_rows, unsent_places}
use Rattle.dt_audit_laws.specs.Numbering.{IsNumbered}
use Rattle.dt_audit_laws.specs.Showing.{AllUnsent, Shows, UnsentFrom, UnsentLast, shown, shown_first}
use Rattle.dt_audit_laws.proofs.Shown.{unsent_count, unsent_in_same, unsent_same, waits_not}

-- the place of a number is counted back from the edge
pub named : (p : Params) (run : Run) (offset : ℕ) (log : FlowLog) → IsNumbered p (Some run) log → run.base + offset ≤ log.edge → log.edge < run.base + offset + 4294967296 → first_place (number_of p offset) log ≡ Some (run.base + offset)
named p run offset log numbered le near =
    let back : number_distance log.next (number_of p offset) ≡ log.edge - run.base - offset =
    ap (λ n. number_distance n (number_of p offset)) numbered.1 ∙ distance_from p offset (log.edge - run.base) (omega (arith, numbered.0)) (omega (arith, numbered.0)) in
    let within : nat_le (log.edge - run.base - offset) log.edge ≡ true = le-leb (log.edge - run.base - offset) log.edge (omega arith) in
    let place : log.edge - (log.edge - run.base - offset) ≡ run.base + offset = omega arith in
    ap (place_back log.edge) back ∙ rw within (ap (λ n. Some n) place)

-- the edge after the places that are sent
all_behind : (life at count before : ℕ) (rows : List Taken) → AllUnsent life rows → suc count ≤ length rows → behind_last before (take (suc count) (places_where (is_unsent_in life) at (map shown rows))) ≡ at + suc count
all_behind life at count before [] h le = absurd (omega arith)
all_behind life at zero before (row ∷ rows) h le =
    let of_life : (row.life == life) ≡ true = (and_parts (is_open row.fate) (row.life == life) h.1).1 in
    let unsent : is_unsent (shown_first row.first) ≡ true = unsent_same row.first ∙ h.0 in
    rw (unsent, of_life) (omega arith)
all_behind life at (suc count) before (row ∷ rows) h le =
    let of_life : (row.life == life) ≡ true = (and_parts (is_open row.fate) (row.life == life) h.1).1 in
    let unsent : is_unsent (shown_first row.first) ≡ true = unsent_same row.first ∙ h.0 in
    rw (unsent, of_life) (let e = all_behind life (suc at) count (suc at) rows h.2 (omega arith) in omega arith)

pub sent_behind : (life at from count before : ℕ) (rows : List Taken) → UnsentFrom life from rows → from + suc count ≤ length rows → behind_last before (take (suc count) (places_where (is_unsent_in life) at (map shown rows))) ≡ at + first_unsent life rows + suc count
sent_behind life at zero count before [] h le = absurd (omega arith)
sent_behind life at zero count before (row ∷ rows) h le =
    let first : first_unsent life (row ∷ rows) ≡ 0 = rw (h.1, h.0) refl in
    rw first (let e = all_behind life at count before (row ∷ rows) h (omega arith) in omega arith)
sent_behind life at (suc from) count before [] h le = elim h [ ]
sent_behind life at (suc from) count before (row ∷ rows) h le =
    let other : is_unsent_in life (shown row) ≡ false = unsent_in_same life row ∙ h.0 in
    rw (waits_not life row h.0, other) (let e = sent_behind life (suc at) from count before rows h.1 (omega arith) in omega arith)

-- a first transmission of so many octets from an offset on, whose place is the leftmost that waits, keeps the numbers
pub numbers_kept : (p : Params) (run : Run) (offset count : ℕ) (log next : FlowLog) → next.edge ≡ run.base + offset + count → next.next ≡ number_after (number_of p offset) count → IsNumbered p (Some run) next
numbers_kept p run offset count log next edge number =
    let rest : next.edge - run.base ≡ offset + count = omega arith in
    (omega arith, number ∙ after_number p (number_of p offset) offset count refl ∙ ap (number_of p) (sym rest))

-- what a first transmission leaves of a log
abbrev after_sending : ℕ → ℕ → ℕ → FlowLog → FlowLog
after_sending life number count log =
    record { taken = send_rows life count log.taken; given = log.given; edge = behind_last log.edge (take count (unsent_places life log)); next = number_after number count }

pub sends_numbered : (p : Params) (run : Run) (o : Occasion) (offset count : ℕ) (ledger : FlowLedger) (log next : FlowLog) → Shows ledger log → UnsentLast o.life ledger.taken → count < length (unsent_places o.life log)
    → run.base + offset ≡ first_unsent o.life ledger.taken → send o.life (number_of p offset) (count + 1) log ≡ Ok next → IsNumbered p (Some run) next
sends_numbered p run o offset count ledger log next shows last lt at sent =
    let there : last.0 + length (unsent_places o.life log) ≡ length ledger.taken = ap (λ rows. last.0 + length (places_where (is_unsent_in o.life) 0 rows)) shows.taken ∙ unsent_count o.life 0 last.0 ledger.taken last.1 in
    let passes : nat_lt (length (unsent_places o.life log)) (count + 1) ≡ false = grind (arith, nat_tests) in
    let done : after_sending (o.life) (number_of p offset) (count + 1) log ≡ next = ok_is _ _ (sym (rw passes refl) ∙ sent) in
    let edge : behind_last log.edge (take (count + 1) (unsent_places o.life log)) ≡ 0 + first_unsent o.life ledger.taken + suc count =
    ap (λ rows. behind_last log.edge (take (count + 1) (places_where (is_unsent_in o.life) 0 rows))) shows.taken
    ∙ ap (λ n. behind_last log.edge (take n (places_where (is_unsent_in o.life) 0 (map shown ledger.taken)))) (add-one count)
    ∙ sent_behind o.life 0 last.0 count log.edge ledger.taken last.1 (omega arith) in
    numbers_kept p run offset (count + 1) log next
    (ap (λ (l : FlowLog). l.edge) (sym done) ∙ edge ∙ omega arith)
    (ap (λ (l : FlowLog). l.next) (sym done))
  where
    ok_is : (a b : FlowLog) → (let r : Result FlowLog Flaw = Ok a in r) ≡ Ok b → a ≡ b
    ok_is a b h = cc
