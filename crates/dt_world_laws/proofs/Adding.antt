-- The totals of a flow add up.
use Rattle.std.proofs.Common.{ℕ, zero, suc, ◌+◌, ◌<◌, ◌≤◌, ◌≡◌, ◌≢◌, ◌==◌, false, List, [], ◌∷◌, length, refl, sym, ap, subst, inl, inr, arith}
use Rattle.std.specs.Prelude.{fold, if◌then◌else◌}
use Rattle.std.proofs.lemmas.Bool.{cases_Bool}
use Rattle.std.proofs.lemmas.Bool.Decides.{nat_tests}
use Rattle.dt_items.specs.declared.item.Item.{Item}
use Rattle.dt_reports.specs.declared.flow_totals.Totals.{Totals}
use Rattle.dt_flow_model.specs.declared.rows.Fate.{Fate}
use Rattle.dt_flow_model.specs.declared.rows.Fate.TheVariants as fate
use Rattle.dt_flow_model.specs.declared.rows.Given.{Given}
use Rattle.dt_flow_model.specs.declared.rows.ReadCount.{ReadCount}
use Rattle.dt_flow_model.specs.declared.rows.Taken.{Taken}
use Rattle.dt_flow_model.specs.Ledger.{HasNoEntry, OneEntryEach, given_at, given_in, given_item_of, read_count_at, read_in}
use Rattle.dt_flow_model.specs.Safe.{SafeLedger}
use Rattle.dt_world_model.specs.Ledgers.{FlowLedger, and_fate, totals_begun, totals_of}
use Rattle.dt_world_model.specs.Script.{Along, Ask, Done, Hand, Handler, Script, Tell}
use Rattle.dt_world_model.specs.Tables.{total}
use Rattle.dt_world_model.proofs.Tables.{nat_is, nat_self}

-- each row counts once, by its fate
pub record IsCounted (rows : List Taken) (t u : Totals) : Type 0 where
  pub fates : u.acked + u.uncertain + u.unsettled ≡ t.acked + t.uncertain + t.unsettled + length rows
  pub taken : u.taken ≡ t.taken
  pub given : u.given ≡ t.given
  pub read : u.read ≡ t.read

one_counted : (fate : Fate) (t : Totals) → ((and_fate fate t).acked + (and_fate fate t).uncertain + (and_fate fate t).unsettled ≡ t.acked + t.uncertain + t.unsettled + 1) × ((and_fate fate t).taken ≡ t.taken) × ((and_fate fate t).given ≡ t.given) × ((and_fate fate t).read ≡ t.read)
one_counted fate.Open t = (omega arith, refl, refl, refl)
one_counted fate.Acked t = (omega arith, refl, refl, refl)
one_counted fate.Uncertain t = (omega arith, refl, refl, refl)

counted : (rows : List Taken) (t : Totals) → IsCounted rows t (fold (λ t row. and_fate row.fate t) t rows)
counted [] t = record { fates = omega arith; taken = refl; given = refl; read = refl }
counted (row ∷ rows) t =
    let k = counted rows (and_fate row.fate t) in
    let one = one_counted row.fate t in
    record { fates = omega (arith, k.fates, one.0); taken = omega (arith, k.taken, one.1); given = omega (arith, k.given, one.2); read = omega (arith, k.read, one.3) }

pub totals_add : (l : FlowLedger) → (totals_of l).acked + (totals_of l).uncertain + (totals_of l).unsettled ≡ (totals_of l).taken
totals_add l = let k = counted l.taken (totals_begun l) in omega (arith, k.fates, k.taken)

pub totals_taken : (l : FlowLedger) → ((totals_of l).taken ≡ length l.taken) × ((totals_of l).given ≡ length l.given)
totals_taken l = let k = counted l.taken (totals_begun l) in (k.taken, k.given)

-- places that strictly increase from 0 on are no less than their positions
place_from : (life : ℕ) (taken : List Taken) (given : List Given) (reads : List ReadCount) → SafeLedger life taken given reads → (k : ℕ) → k < length given → k ≤ (given_at given k).place
place_from life taken given reads h zero lt = omega arith
place_from life taken given reads h (suc k) lt = let before = place_from life taken given reads h k (omega (arith, lt)) in let next = h.in_order k (suc k) (omega arith) lt in omega (arith, before, next)

pub given_within : (life : ℕ) (taken : List Taken) (given : List Given) (reads : List ReadCount) → SafeLedger life taken given reads → length given ≤ length taken
given_within life taken given reads h = by_count (length given) refl
  where
    by_count : (n : ℕ) → length given ≡ n → length given ≤ length taken
    by_count zero e = omega (arith, e)
    by_count (suc k) e = let at = place_from life taken given reads h k (omega (arith, e)) in let there = h.in_ledger k (omega (arith, e)) in omega (arith, at, there, e)

-- WHAT WAS READ over all lives: what was given in a life and the rest are all that was given
abbrev others : ℕ → List Given → List Given
others life [] = []
others life (row ∷ rows) = if row.life == life then others life rows else row ∷ others life rows

parted : (life : ℕ) (rows : List Given) → length rows ≡ length (given_in life rows) + length (others life rows)
parted life [] = refl
parted life (row ∷ rows) =
    let rest = parted life rows in
    elim (cases_Bool (row.life == life)) [ inl y ↦ rw y (omega (arith, rest)) | inr o ↦ rw o (omega (arith, rest)) ]

other_life : (life l : ℕ) (rows : List Given) → (l == life) ≡ false → given_in l (others life rows) ≡ given_in l rows
other_life life l [] h = refl
other_life life l (row ∷ rows) h =
    let rest = other_life life l rows h in
    elim (cases_Bool (row.life == life)) [
      | inl y ↦ let apart : (row.life == l) ≡ false = grind (arith, nat_tests) in rw (y, apart) rest
      | inr o ↦ rw o (elim (cases_Bool (row.life == l)) [ inl y ↦ rw y (ap (λ (is : List Item). given_item_of row ∷ is) rest) | inr n ↦ rw n rest ])
    ]

apart_lives : (life l : ℕ) → life ≢ l → (life == l) ≡ false
apart_lives life l h = elim (cases_Bool (life == l)) [ inl y ↦ absurd (h (nat_is life l y)) | inr n ↦ n ]

none_read : (life : ℕ) (rs : List ReadCount) → HasNoEntry life rs → read_in life rs ≡ 0
none_read life [] h = refl
none_read life (r ∷ rs) h = let n = apart_lives r.life life h.0 in rw n (none_read life rs h.1)

no_entry : (life : ℕ) (rs : List ReadCount) → ((k : ℕ) → k < length rs → (read_count_at rs k).life ≢ life) → HasNoEntry life rs
no_entry life [] h = tt
no_entry life (r ∷ rs) h = (h 0 (omega arith), no_entry life rs (λ k lt. h (suc k) (omega (arith, lt))))

one_each : (rs : List ReadCount) → ((j k : ℕ) → j < k → k < length rs → (read_count_at rs j).life ≢ (read_count_at rs k).life) → OneEntryEach rs
one_each [] h = tt
one_each (r ∷ rs) h =
    (no_entry r.life rs (λ k lt e. h 0 (suc k) (omega arith) (omega (arith, lt)) (sym e)), one_each rs (λ j k jk lt. h (suc j) (suc k) (omega (arith, jk)) (omega (arith, lt))))

all_read : (rs : List ReadCount) (given : List Given) → OneEntryEach rs → ((l : ℕ) → read_in l rs ≤ length (given_in l given)) → total (λ r. r.count) rs ≤ length given
all_read [] given one fits = omega arith
all_read (r ∷ rs) given one fits =
    let here : r.count ≤ length (given_in r.life given) = let f = fits r.life in let self = nat_self r.life in (rw self at f) in
    let rest = all_read rs (others r.life given) one.1 rest_fits in
    omega (arith, here, rest, parted r.life given)
  where
    rest_fits : (l : ℕ) → read_in l rs ≤ length (given_in l (others r.life given))
    rest_fits l =
        elim (cases_Bool (l == r.life)) [
          | inl y ↦
              let none : read_in l rs ≡ 0 = subst (λ (k : ℕ). read_in k rs ≡ 0) (sym (nat_is l r.life y)) (none_read r.life rs one.0) in
              omega (arith, none)
          | inr n ↦
              let apart : (r.life == l) ≡ false = grind (arith, nat_tests) in
              let f = fits l in
              let all : read_in l rs ≤ length (given_in l given) = rw apart at f in
              let same : length (given_in l (others r.life given)) ≡ length (given_in l given) = ap (λ (is : List Item). length is) (other_life r.life l given n) in
              omega (arith, all, same)
        ]

pub read_within_given : (life : ℕ) (taken : List Taken) (given : List Given) (reads : List ReadCount) → SafeLedger life taken given reads → total (λ r. r.count) reads ≤ length given
read_within_given life taken given reads h = all_read reads given (one_each reads h.one_entry) h.read_within

-- what follows from a fact that holds all along does so too
pub along_weaker : {S T A : Type 0} (handler : Handler S T) (fact weaker : S → Type 0) → ((s : S) → fact s → weaker s) → (script : Script T A) (s : S) → Along handler fact script s → Along handler weaker script s
along_weaker handler fact weaker f (Done a) s h = f s h
along_weaker handler fact weaker f (Tell r script) s h = (f s h.0, along_weaker handler fact weaker f script (handler.tell r s) h.1)
along_weaker handler fact weaker f (Ask host octets script) s h = (f s h.0, along_weaker handler fact weaker f (script (handler.tag host octets s)) s h.1)
along_weaker handler fact weaker f (Hand link q script) s h = (f s h.0, along_weaker handler fact weaker f script (handler.hand link q s) h.1)
