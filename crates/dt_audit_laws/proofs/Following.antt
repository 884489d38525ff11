-- Each report's line passes, and the rows of the log are those of the ledger after it.
use Rattle.std.proofs.Common.{ℕ, zero, suc, ◌≡◌, ◌+◌, ◌-◌, ◌<◌, ◌≤◌, ◌==◌, Bool, true, false, not, List, [], ◌∷◌, ◌++◌, length, map, take, Option, None, Some, refl, sym, ap, subst, ◌∙◌, inl, inr, arith, length-append}
use Rattle.std.specs.Prelude.{◌||◌, nat_lt}
use Rattle.std.specs.List.{list_all}
use Rattle.std.proofs.lemmas.Bool.{and_from, cases_Bool, cases_lt, eq-eqb, eqb-true}
use Rattle.std.proofs.lemmas.Bool.Decides.{nat_tests}
use Rattle.std.proofs.lemmas.List.{map-append}
use Rattle.dt_items.specs.declared.item.Item.{Item}
use Rattle.dt_units.specs.Numbers.{number_after}
use Rattle.dt_flow_model.specs.declared.rows.Fate.TheVariants.{Acked, Uncertain}
use Rattle.dt_flow_model.specs.declared.rows.Taken.{Taken}
use Rattle.dt_flow_model.specs.declared.rows.Given.{Given}
use Rattle.dt_flow_model.specs.Facts.{last_of}
use Rattle.dt_flow_model.specs.Ledger.{given_at, given_rows, is_given, is_open_in, row_at, settle, take_rows, top, top_from}
use Rattle.dt_flow_model.specs.Safe.{Follows, SafeLedger}
use Rattle.dt_world_model.specs.Ledgers.{Accepts, FlowLedger, GivesUp, Occasion, Settles, Takes, Transmits, ledger_after}
use Rattle.dt_audit.specs.declared.flow_facts.FlowFact.TheVariants as changes
use Rattle.dt_audit.specs.LogRows.{FlowLog, accept_at, all_passed, behind_last, blank, ends_sent, first_place, follows, give, is_passed, is_sent, is_uncertain, is_unsent_in, open_places, places_where, send_rows, unsent_places, with_fate}
use Rattle.dt_flow_laws.proofs.Frame.{top_append, top_rows}
use Rattle.dt_audit.proofs.Sound.{given_append}
use Rattle.dt_audit.proofs.Standing.{passed_all}
use Rattle.dt_audit_laws.specs.Showing.{Passes, Shows, UnsentLast, shown, shown_given}
use Rattle.dt_audit_laws.proofs.Shown.{follows_shown, given_shown, new_given_shown, open_shown, row_shown, sending_shown, sent_shown, settled_shown, took_shown, top_shown, unsent_count}

enough : (count n : ℕ) → count ≤ n → nat_lt n count ≡ false
enough count n le = grind (arith, nat_tests)

-- TOOK
pub took : (o : Occasion) (receiver : ℕ) (ledger : FlowLedger) (log : FlowLog) → Shows ledger log → Passes (record { sender = o.life; receiver = receiver }) (changes.Took (length o.items)) log (ledger_after o Takes ledger)
took o receiver ledger log s = record {
  next = record { taken = take_rows o.life (blank (length o.items)) log.taken; given = log.given; edge = log.edge; next = log.next };
  passes = refl;
  shows = record { taken = ap (take_rows o.life (blank (length o.items))) s.taken ∙ sym (took_shown o.life o.items ledger.taken); given = s.given };
  edge = refl;
  number = refl;
}

-- SENT
pub sent : (o : Occasion) (receiver number count : ℕ) (ledger : FlowLedger) (log : FlowLog) → Shows ledger log → UnsentLast o.life ledger.taken → count ≤ length (unsent_places o.life log)
    → Passes (record { sender = o.life; receiver = receiver }) (changes.Sent number count) log (ledger_after o (Transmits count) ledger)
sent o receiver number count ledger log s last le =
    let there : last.0 + length (unsent_places o.life log) ≡ length ledger.taken = ap (λ rows. last.0 + length (places_where (is_unsent_in o.life) 0 rows)) s.taken ∙ unsent_count o.life 0 last.0 ledger.taken last.1 in
    let passes = enough count (length (unsent_places o.life log)) le in
    record {
      next = record { taken = send_rows o.life count log.taken; given = log.given; edge = behind_last log.edge (take count (unsent_places o.life log)); next = number_after number count };
      passes = rw passes refl;
      shows = record { taken = ap (send_rows o.life count) s.taken ∙ sym (sending_shown o.life o.now last.0 count ledger.taken last.1 (omega arith)); given = s.given };
      edge = refl;
      number = refl;
    }

-- UNCERTAIN
pub given_up : (o : Occasion) (receiver count : ℕ) (ledger : FlowLedger) (log : FlowLog) → Shows ledger log → count ≤ length (open_places o.life log)
    → Passes (record { sender = o.life; receiver = receiver }) (changes.Uncertain count) log (ledger_after o (GivesUp count) ledger)
given_up o receiver count ledger log s le =
    let passes = enough count (length (open_places o.life log)) le in
    record {
      next = with_fate o.life Uncertain count log;
      passes = rw passes refl;
      shows = record { taken = ap (settle o.life Uncertain count) s.taken ∙ sym (settled_shown o.life Uncertain count ledger.taken); given = s.given };
      edge = refl;
      number = refl;
    }

-- SETTLED: those that are settled are acknowledged then, so they are given
settled_good : (life at count : ℕ) (rows : List Taken) (good : ℕ → Bool) → ((p : ℕ) → (row_at (settle life Acked count rows) p).fate ≡ Acked → good (at + p) ≡ true) → list_all good (take count (places_where (is_open_in life) at rows)) ≡ true
settled_good life at zero rows good on = refl
settled_good life at (suc count) [] good on = refl
settled_good life at (suc count) (row ∷ rows) good on =
    elim (cases_Bool (is_open_in life row)) [
      | inl y ↦
          let here : good at ≡ true = (let e : at + 0 ≡ at = omega arith in subst (λ k. good k ≡ true) e (on 0 (rw y refl))) in
          rw (y, here) (settled_good life (suc at) count rows good (λ p e. let next : at + suc p ≡ suc at + p = omega arith in subst (λ k. good k ≡ true) next (on (suc p) (rw y e))))
      | inr n ↦
          rw n (settled_good life (suc at) (suc count) rows good (λ p e. let next : at + suc p ≡ suc at + p = omega arith in subst (λ k. good k ≡ true) next (on (suc p) (rw n e))))
    ]

pub acknowledged : (o : Occasion) (receiver count : ℕ) (ledger : FlowLedger) (log : FlowLog) → Shows ledger log → count ≤ length (open_places o.life log)
    → SafeLedger o.life (settle o.life Acked count ledger.taken) ledger.given ledger.reads → Passes (record { sender = o.life; receiver = receiver }) (changes.Settled count) log (ledger_after o (Settles count) ledger)
acknowledged o receiver count ledger log s le safe =
    let passes = enough count (length (open_places o.life log)) le in
    let places : open_places o.life log ≡ places_where (is_open_in o.life) 0 ledger.taken = ap (places_where (is_open_in o.life) 0) s.taken ∙ open_shown o.life 0 ledger.taken in
    let all : list_all (is_given log.given) (take count (open_places o.life log)) ≡ true =
    subst (λ ps. list_all (is_given log.given) (take count ps) ≡ true) (sym places)
    (settled_good o.life 0 count ledger.taken (is_given log.given)
    (λ p e. let same : 0 + p ≡ p = omega arith in subst (λ k. is_given log.given k ≡ true) (sym same) (ap (λ g. is_given g p) s.given ∙ given_shown ledger.given p ∙ safe.acknowledged_given p e))) in
    record {
      next = with_fate o.life Acked count log;
      passes = rw (passes, all) refl;
      shows = record { taken = ap (settle o.life Acked count) s.taken ∙ sym (settled_shown o.life Acked count ledger.taken); given = s.given };
      edge = refl;
      number = refl;
    }

-- ACCEPTED
at_left : (xs ys : List Given) (k : ℕ) → k < length xs → given_at (xs ++ ys) k ≡ given_at xs k
at_left [] ys k h = absurd (omega arith)
at_left (x ∷ xs) ys zero h = refl
at_left (x ∷ xs) ys (suc k) h = at_left xs ys k (omega arith)

at_right : (xs ys : List Given) → given_at (xs ++ ys) (length xs) ≡ given_at ys 0
at_right [] [] = refl
at_right [] (y ∷ ys) = refl
at_right (x ∷ xs) ys = at_right xs ys

top_last : (n : ℕ) (x : Given) (xs : List Given) → top_from n (x ∷ xs) ≡ suc (given_at (x ∷ xs) (length xs)).place
top_last n x [] = refl
top_last n x (y ∷ ys) = top_last (suc x.place) y ys

last_is : (before : Option Given) (x : Given) (xs : List Given) → last_of before (x ∷ xs) ≡ Some (given_at (x ∷ xs) (length xs))
last_is before x [] = refl
last_is before x (y ∷ ys) = last_is (Some x) y ys

given_position : (given : List Given) (p : ℕ) → is_given given p ≡ true → (k : ℕ) × (k < length given) × ((given_at given k).place ≡ p)
given_position [] p h = absurd cc
given_position (row ∷ rows) p h =
    elim (cases_Bool (row.place == p)) [
      | inl y ↦ (0, omega arith, eqb-true row.place p y)
      | inr n ↦ let rest : is_given rows p ≡ true = rw n at h in let k = given_position rows p rest in (suc k.0, omega (arith, k.1), k.2)
    ]

below_new : (life at : ℕ) (run : Bool) (place : ℕ) (items : List Item) (p : ℕ) → p < place → is_given (given_rows life at run place items) p ≡ false
below_new life at run place [] p lt = refl
below_new life at run place (item ∷ items) p lt = let other : (place == p) ≡ false = grind (arith, nat_tests) in rw other (below_new life at false (suc place) items p (omega arith))

-- the new rows begin with one of the place, and with the run mark or without
first_new : (life at : ℕ) (run : Bool) (place : ℕ) (items : List Item) → 0 < length items → ((given_at (given_rows life at run place items) 0).place ≡ place) × ((given_at (given_rows life at run place items) 0).run ≡ run) × ((given_at (given_rows life at run place items) 0).life ≡ life)
first_new life at run place [] h = absurd (omega arith)
first_new life at run place (item ∷ items) h = (refl, refl, refl)

length_new : (life at : ℕ) (run : Bool) (place : ℕ) (items : List Item) → length (given_rows life at run place items) ≡ length items
length_new life at run place [] = refl
length_new life at run place (item ∷ items) = ap suc (length_new life at false (suc place) items)

above : (xs ys : List Given) (place : ℕ) → 0 < length ys → (given_at ys 0).place ≡ place → ((j k : ℕ) → j < k → k < length (xs ++ ys) → (given_at (xs ++ ys) j).place < (given_at (xs ++ ys) k).place) → top xs ≤ place
above [] ys place some first order = omega arith
above (x ∷ xs) ys place some first order =
    let lt = order (length xs) (length (x ∷ xs)) (omega arith) (omega (arith, length-append (x ∷ xs) ys)) in
    let left = ap (λ (g : Given). g.place) (at_left (x ∷ xs) ys (length xs) (omega arith)) in
    let right = ap (λ (g : Given). g.place) (at_right (x ∷ xs) ys) in
    omega (arith, lt, left, right, top_last 0 x xs)

goes : (xs ys : List Given) (run : Bool) (life place : ℕ) → 0 < length ys → (given_at ys 0).place ≡ place → (given_at ys 0).run ≡ run → (given_at ys 0).life ≡ life → run ≡ false
    → (0 < length (xs ++ ys) → (given_at (xs ++ ys) 0).run ≡ true) → ((k : ℕ) → k + 1 < length (xs ++ ys) → (given_at (xs ++ ys) (k + 1)).run ≡ false → Follows (given_at (xs ++ ys) k) (given_at (xs ++ ys) (k + 1)))
    → follows life place (last_of None xs) ≡ true
goes [] ys run life place some at mark of_life off first unbroken = let yes = first some in absurd cc
goes (x ∷ xs) ys run life place some at mark of_life off first unbroken =
    let k = length xs in
    let next : length xs + 1 ≡ length (x ∷ xs) = omega arith in
    let right : given_at ((x ∷ xs) ++ ys) (length xs + 1) ≡ given_at ys 0 = ap (given_at ((x ∷ xs) ++ ys)) next ∙ at_right (x ∷ xs) ys in
    let left : given_at ((x ∷ xs) ++ ys) (length xs) ≡ given_at (x ∷ xs) (length xs) = at_left (x ∷ xs) ys (length xs) (omega arith) in
    let joined = unbroken (length xs) (omega (arith, length-append (x ∷ xs) ys)) (ap (λ (g : Given). g.run) right ∙ mark ∙ off) in
    let a : (suc (given_at (x ∷ xs) (length xs)).place == place) ≡ true =
    (let e : suc (given_at (x ∷ xs) (length xs)).place ≡ place = omega (arith, joined.place, ap (λ (g : Given). g.place) left, ap (λ (g : Given). g.place) right, at) in eq-eqb _ _ e) in
    let b : ((given_at (x ∷ xs) (length xs)).life == life) ≡ true =
    eq-eqb _ _ (sym (ap (λ (g : Given). g.life) left) ∙ joined.life ∙ ap (λ (g : Given). g.life) right ∙ of_life) in
    rw (last_is None x xs, a, b) refl

-- no given row is of a place from the top on
none_above : (xs ys : List Given) (p : ℕ) → ((j k : ℕ) → j < k → k < length (xs ++ ys) → (given_at (xs ++ ys) j).place < (given_at (xs ++ ys) k).place) → top xs ≤ p → is_given xs p ≡ false
none_above [] ys p order le = refl
none_above (x ∷ xs) ys p order le =
    elim (cases_Bool (is_given (x ∷ xs) p)) [
      | inl y ↦
          let k = given_position (x ∷ xs) p y in
          let left = ap (λ (g : Given). g.place) (at_left (x ∷ xs) ys k.0 k.1) in
          let last = ap (λ (g : Given). g.place) (at_left (x ∷ xs) ys (length xs) (omega arith)) in
          elim (cases_lt k.0 (length xs)) [
            | inl lt ↦ absurd (omega (arith, order k.0 (length xs) lt (omega (arith, length-append (x ∷ xs) ys)), left, last, k.2, top_last 0 x xs))
            | inr ge ↦
                let same : k.0 ≡ length xs = omega (arith, k.1) in
                absurd (omega (arith, ap (λ i. (given_at (x ∷ xs) i).place) same, k.2, top_last 0 x xs))
          ]
      | inr n ↦ n
    ]

passed_row : (sender : ℕ) (row : Taken) → (sender ≤ row.life → row.fate ≡ Uncertain) → is_passed sender row ≡ true
passed_row sender row on =
    elim (cases_lt row.life sender) [
      | inl lt ↦ let a : nat_lt row.life sender ≡ true = grind (arith, nat_tests) in rw a (either (is_uncertain row.fate))
      | inr ge ↦ let u = on ge in rw u refl
    ]
  where
    either : (b : Bool) → (b || true) ≡ true
    either true = refl
    either false = refl

pub accepted : (o : Occasion) (sender number : ℕ) (run : Bool) (ledger : FlowLedger) (log : FlowLog) → Shows ledger log → 0 < length o.items → first_place number log ≡ Some o.place
    → is_sent ledger.taken o.place ≡ true → is_sent ledger.taken (o.place + length o.items - 1) ≡ true → SafeLedger sender ledger.taken (ledger.given ++ given_rows o.life o.now run o.place o.items) ledger.reads
    → Passes (record { sender = sender; receiver = o.life }) (changes.Accepted number (length o.items) run) log (ledger_after o (Accepts run) ledger)
accepted o sender number run ledger log s some found first last safe =
    let new = given_rows o.life o.now run o.place o.items in
    let there : 0 < length new = omega (arith, length_new o.life o.now run o.place o.items) in
    let head = first_new o.life o.now run o.place o.items some in
    let above' = above ledger.given new o.place there head.0 safe.in_order in
    let same_top : top log.given ≡ top ledger.given = ap top s.given ∙ top_shown 0 ledger.given in
    let top_after : top (ledger.given ++ new) ≡ o.place + length o.items = top_append 0 ledger.given new ∙ top_rows o.life o.now run o.place (top ledger.given) o.items some in
    let a1 : is_sent log.taken o.place ≡ true = ap (λ rows. is_sent rows o.place) s.taken ∙ sent_shown ledger.taken o.place ∙ first in
    let a2 : is_sent log.taken (o.place + length o.items - 1) ≡ true = ap (λ rows. is_sent rows (o.place + length o.items - 1)) s.taken ∙ sent_shown ledger.taken (o.place + length o.items - 1) ∙ last in
    let a : ends_sent o.place (length o.items) log ≡ true = and_from _ _ a1 a2 in
    let b : nat_lt o.place (top log.given) ≡ false = grind (arith, nat_tests) in
    let c : not (run || follows o.life o.place (last_of None log.given)) ≡ false =
    by_mark run (follows o.life o.place (last_of None log.given)) (λ off. ap (λ g. follows o.life o.place (last_of None g)) s.given ∙ follows_shown o.life o.place ledger.given
    ∙ goes ledger.given new run o.life o.place there head.0 head.1 head.2 off safe.first_runs safe.unbroken) in
    let d : all_passed sender o.place log ≡ true =
    passed_all (is_passed sender) log.taken (top log.given) (o.place - top log.given)
    (λ p ge lt inside.
    let row : row_at log.taken p ≡ shown (row_at ledger.taken p) = ap (λ rows. row_at rows p) s.taken ∙ row_shown ledger.taken p in
    let off : is_given (ledger.given ++ new) p ≡ false =
    given_append ledger.given new p ∙ neither _ _ (none_above ledger.given new p safe.in_order (omega arith)) (below_new o.life o.now run o.place o.items p (omega arith)) in
    ap (is_passed sender) row ∙ passed_row sender (shown (row_at ledger.taken p)) (λ le. safe.skips_reported p (omega arith) off le)) in
    record {
      next = give o.life run o.place (length o.items) log;
      passes = ap (λ f. accept_at (record { sender = sender; receiver = o.life }) run (length o.items) f log) found ∙ rw (a, b, c, d) refl;
      shows = record {
        taken = s.taken;
        given = ap (λ g. g ++ given_rows o.life 0 run o.place (blank (length o.items))) s.given
            ∙ ap (λ g. map shown_given ledger.given ++ g) (sym (new_given_shown o.life o.now run o.place o.items)) ∙ sym (map-append shown_given ledger.given new);
      };
      edge = refl;
      number = refl;
    }
  where
    by_mark : (run b : Bool) → (run ≡ false → b ≡ true) → not (run || b) ≡ false
    by_mark true b on = refl
    by_mark false b on = let yes = on refl in rw yes refl

    neither : (a b : Bool) → a ≡ false → b ≡ false → (a || b) ≡ false
    neither true b h k = absurd cc
    neither false b h k = k
