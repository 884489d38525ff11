-- What changes of rows do to what a log shows of them.
use Rattle.std.proofs.Common.{ℕ, zero, suc, ◌≡◌, ◌+◌, ◌≤◌, ◌==◌, ◌&&◌, Bool, true, false, not, List, [], ◌∷◌, ◌++◌, length, map, Option, None, Some, refl, ap, ◌∙◌, inl, inr, arith}
use Rattle.std.specs.Prelude.{◌||◌}
use Rattle.std.proofs.lemmas.Bool.{and_parts, cases_Bool}
use Rattle.std.proofs.lemmas.List.{map-append}
use Rattle.dt_items.specs.declared.item.Item.{Item}
use Rattle.dt_flow_model.specs.declared.rows.Fate.{Fate}
use Rattle.dt_flow_model.specs.declared.rows.Taken.{Taken}
use Rattle.dt_flow_model.specs.declared.rows.Given.{Given}
use Rattle.dt_flow_model.specs.Facts.{last_of}
use Rattle.dt_flow_model.specs.Ledger.{first_unsent, given_rows, is_given, is_open, is_open_in, is_unsent, note_first, no_item, open_row, row_at, settle, take_rows, top_from}
use Rattle.dt_audit.specs.LogRows.{blank, follows, is_sent, is_unsent_in, places_where, send_rows}
use Rattle.dt_audit_laws.specs.Showing.{AllUnsent, UnsentFrom, shown, shown_first, shown_given}

-- ROWS
pub new_shown : (life : ℕ) (items : List Item) → map shown (map (open_row life None) items) ≡ map (open_row life None) (blank (length items))
new_shown life [] = refl
new_shown life (item ∷ items) = ap (λ rows. open_row life None no_item ∷ rows) (new_shown life items)

pub took_shown : (life : ℕ) (items : List Item) (rows : List Taken) → map shown (take_rows life items rows) ≡ take_rows life (blank (length items)) (map shown rows)
took_shown life items rows = map-append shown rows (map (open_row life None) items) ∙ ap (λ new. map shown rows ++ new) (new_shown life items)

pub settled_shown : (life : ℕ) (fate : Fate) (count : ℕ) (rows : List Taken) → map shown (settle life fate count rows) ≡ settle life fate count (map shown rows)
settled_shown life fate zero rows = refl
settled_shown life fate (suc count) [] = refl
settled_shown life fate (suc count) (row ∷ rows) =
    elim (cases_Bool (is_open_in life row)) [
      | inl y ↦ rw y (ap (λ rest. shown (record row { fate = fate }) ∷ rest) (settled_shown life fate count rows))
      | inr n ↦ rw n (ap (λ rest. shown row ∷ rest) (settled_shown life fate (suc count) rows))
    ]

pub open_shown : (life at : ℕ) (rows : List Taken) → places_where (is_open_in life) at (map shown rows) ≡ places_where (is_open_in life) at rows
open_shown life at [] = refl
open_shown life at (row ∷ rows) =
    elim (cases_Bool (is_open_in life row)) [ inl y ↦ rw y (ap (λ ps. at ∷ ps) (open_shown life (suc at) rows)) | inr n ↦ rw n (open_shown life (suc at) rows) ]

pub unsent_same : (first : Option ℕ) → is_unsent (shown_first first) ≡ is_unsent first
unsent_same None = refl
unsent_same (Some moment) = refl

pub row_shown : (rows : List Taken) (place : ℕ) → row_at (map shown rows) place ≡ shown (row_at rows place)
row_shown [] place = refl
row_shown (row ∷ rows) zero = refl
row_shown (row ∷ rows) (suc place) = row_shown rows place

pub sent_shown : (rows : List Taken) (place : ℕ) → is_sent (map shown rows) place ≡ is_sent rows place
sent_shown rows place = ap (λ (row : Taken). not (is_unsent row.first)) (row_shown rows place) ∙ ap not (unsent_same (row_at rows place).first)

-- SENDING: those that weren't sent come last, so the leftmost of them are the ones from the first on
note_all : (life at count : ℕ) (rows : List Taken) → AllUnsent life rows → count ≤ length rows → map shown (note_first at 0 count rows) ≡ send_rows life count (map shown rows)
note_all life at zero [] h le = refl
note_all life at zero (row ∷ rows) h le = refl
note_all life at (suc count) [] h le = absurd (omega arith)
note_all life at (suc count) (row ∷ rows) h le =
    let of_life : (row.life == life) ≡ true = (and_parts (is_open row.fate) (row.life == life) h.1).1 in
    let unsent : is_unsent (shown_first row.first) ≡ true = unsent_same row.first ∙ h.0 in
    rw (unsent, of_life) (ap (λ rest. shown (record row { first = Some at }) ∷ rest) (note_all life at count rows h.2 (omega arith)))

first_all : (life : ℕ) (row : Taken) (rows : List Taken) → AllUnsent life (row ∷ rows) → first_unsent life (row ∷ rows) ≡ 0
first_all life row rows h = rw (h.1, h.0) refl

pub waits_not : (life : ℕ) (row : Taken) → is_unsent_in life row ≡ false → (is_open_in life row && is_unsent row.first) ≡ false
waits_not life row h = by (is_open row.fate) (row.life == life) (is_unsent row.first) h
  where
    by : (a b c : Bool) → (c && b) ≡ false → ((a && b) && c) ≡ false
    by true true true k = k
    by true true false k = refl
    by true false c k = refl
    by false b c k = refl

pub unsent_in_same : (life : ℕ) (row : Taken) → is_unsent_in life (shown row) ≡ is_unsent_in life row
unsent_in_same life row = ap (λ u. u && (row.life == life)) (unsent_same row.first)

pub sending_shown : (life at from count : ℕ) (rows : List Taken) → UnsentFrom life from rows → from + count ≤ length rows → map shown (note_first at (first_unsent life rows) count rows) ≡ send_rows life count (map shown rows)
sending_shown life at zero zero [] h le = refl
sending_shown life at zero (suc count) [] h le = absurd (omega arith)
sending_shown life at zero count (row ∷ rows) h le = rw (first_all life row rows h) (note_all life at count (row ∷ rows) h (omega arith))
sending_shown life at (suc from) count [] h le = elim h [ ]
sending_shown life at (suc from) zero (row ∷ rows) h le = rw (waits_not life row h.0) (ap (λ rest. shown row ∷ rest) (sending_shown life at from zero rows h.1 (omega arith)))
sending_shown life at (suc from) (suc count) (row ∷ rows) h le =
    let other : is_unsent_in life (shown row) ≡ false = unsent_in_same life row ∙ h.0 in
    rw (waits_not life row h.0, other) (ap (λ rest. shown row ∷ rest) (sending_shown life at from (suc count) rows h.1 (omega arith)))

unsent_all : (life at : ℕ) (rows : List Taken) → AllUnsent life rows → length (places_where (is_unsent_in life) at (map shown rows)) ≡ length rows
unsent_all life at [] h = refl
unsent_all life at (row ∷ rows) h =
    let of_life : (row.life == life) ≡ true = (and_parts (is_open row.fate) (row.life == life) h.1).1 in
    let unsent : is_unsent (shown_first row.first) ≡ true = unsent_same row.first ∙ h.0 in
    rw (unsent, of_life) (ap suc (unsent_all life (suc at) rows h.2))

pub unsent_count : (life at from : ℕ) (rows : List Taken) → UnsentFrom life from rows → from + length (places_where (is_unsent_in life) at (map shown rows)) ≡ length rows
unsent_count life at zero rows h = let e = unsent_all life at rows h in omega arith
unsent_count life at (suc from) [] h = elim h [ ]
unsent_count life at (suc from) (row ∷ rows) h =
    let other : is_unsent_in life (shown row) ≡ false = unsent_in_same life row ∙ h.0 in
    rw other (let e = unsent_count life (suc at) from rows h.1 in omega arith)

-- GIVEN ROWS
pub given_shown : (given : List Given) (place : ℕ) → is_given (map shown_given given) place ≡ is_given given place
given_shown [] place = refl
given_shown (row ∷ rows) place = ap (λ b. (row.place == place) || b) (given_shown rows place)

pub top_shown : (from : ℕ) (given : List Given) → top_from from (map shown_given given) ≡ top_from from given
top_shown from [] = refl
top_shown from (row ∷ rows) = top_shown (suc row.place) rows

pub new_given_shown : (life at : ℕ) (run : Bool) (place : ℕ) (items : List Item) → map shown_given (given_rows life at run place items) ≡ given_rows life 0 run place (blank (length items))
new_given_shown life at run place [] = refl
new_given_shown life at run place (item ∷ items) =
    ap (λ (rest : List Given). (record { place = place; octet = 0; begin = false; end = false; run = run; life = life; at = 0 }) ∷ rest) (new_given_shown life at false (suc place) items)

last_shown : (life place : ℕ) (before : Option Given) (row : Given) (given : List Given) → follows life place (last_of (Some (shown_given row)) (map shown_given given)) ≡ follows life place (last_of (Some row) given)
last_shown life place before row [] = refl
last_shown life place before row (next ∷ given) = last_shown life place before next given

pub follows_shown : (life place : ℕ) (given : List Given) → follows life place (last_of None (map shown_given given)) ≡ follows life place (last_of None given)
follows_shown life place [] = refl
follows_shown life place (row ∷ given) = last_shown life place None row given
