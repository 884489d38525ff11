-- Rows that were given, of which some were read: what was read is what was taken, with some of it left out.
use Rattle.std.proofs.Common.{◌≡◌, ◌∙◌, ◌+◌, ◌-◌, ◌<◌, ℕ, zero, suc, Bool, true, false, List, [], ◌∷◌, ◌++◌, drop, length, map, take, Option, Some, None, refl, sym, ap, subst, arith}
use Rattle.std.proofs.Math.Seq.{drop-cons}
use Rattle.std.proofs.lemmas.List.{drop-drop}
use Rattle.dt_items.specs.declared.item.Item.{Item}
use Rattle.dt_flow_model.specs.declared.rows.Given.{Given}
use Rattle.dt_flow_model.specs.declared.rows.Taken.{Taken}
use Rattle.dt_flow_model.specs.Facts.{AllGivenFacts, JoinsTo, Joined, Rising}
use Rattle.dt_flow_model.specs.Ledger.{given_item_of, item_of, no_row, row_at, sent_item_of}
use Rattle.dt_network.specs.Books.{Chosen, lost, none, picked}
use Rattle.dt_network.specs.Octets.{IsReadOf, leaves, nothing, reads}

-- what holds with nothing known of the row before holds always
pub chosen_so : {life : ℕ} {joined : Bool} {rows : List Given} {items : List Item} → Chosen life false rows items → Chosen life joined rows items
chosen_so none = none
chosen_so (picked run rest) = picked (λ e. let no : false ≡ true = run e in absurd cc) rest
chosen_so (lost below rest) = lost below rest

-- rows of lives below one
abbrev pub AllBelow : ℕ → List Given → Type 0
AllBelow life [] = Unit {0}
AllBelow life (row ∷ rows) = (row.life < life) × AllBelow life rows

pub below_drop : (life n : ℕ) (rows : List Given) → AllBelow life rows → AllBelow life (drop n rows)
below_drop life zero rows h = h
below_drop life (suc n) [] h = tt
below_drop life (suc n) (row ∷ rows) h = below_drop life n rows h.1

pub below_take : (life n : ℕ) (rows : List Given) → AllBelow life rows → AllBelow life (take n rows)
below_take life zero rows h = tt
below_take life (suc n) [] h = tt
below_take life (suc n) (row ∷ rows) h = (h.0, below_take life n rows h.1)

pub all_lost : (life : ℕ) (joined : Bool) (rows rest : List Given) (items : List Item) → AllBelow life rows → Chosen life false rest items → Chosen life joined (rows ++ rest) items
all_lost life joined [] rest items below h = chosen_so h
all_lost life joined (row ∷ rows) rest items below h = lost below.0 (all_lost life false rows rest items below.1 h)

-- the row before some rows was read, or one of them
abbrev pub joined_after : Bool → List Given → Bool
joined_after joined [] = joined
joined_after joined (row ∷ rows) = true

abbrev pub MayBegin : Bool → List Given → Type 0
MayBegin joined [] = Unit {0}
MayBegin joined (row ∷ rows) = row.run ≡ false → joined ≡ true

all_on : (life : ℕ) (rows rest : List Given) (items : List Item) → Chosen life true rest items → Chosen life true (rows ++ rest) (map given_item_of rows ++ items)
all_on life [] rest items h = h
all_on life (row ∷ rows) rest items h = picked (λ e. refl) (all_on life rows rest items h)

pub all_picked : (life : ℕ) (joined : Bool) (rows rest : List Given) (items : List Item) → MayBegin joined rows → Chosen life (joined_after joined rows) rest items → Chosen life joined (rows ++ rest) (map given_item_of rows ++ items)
all_picked life joined [] rest items may h = h
all_picked life joined (row ∷ rows) rest items may h = picked may (all_on life rows rest items h)

-- READ OF WHAT WAS TAKEN
read_so : {joined : Bool} {read taken : List Item} → IsReadOf false read taken → IsReadOf joined read taken
read_so nothing = nothing
read_so (reads run same rest) = reads (λ e. let no : false ≡ true = run e in absurd cc) same rest
read_so (leaves rest) = leaves rest

pass : (joined : Bool) (n : ℕ) (taken : List Taken) (read : List Item) → IsReadOf false read (map item_of (drop n taken)) → IsReadOf joined read (map item_of taken)
pass joined zero taken read h = read_so h
pass joined (suc n) [] read h = read_so h
pass joined (suc n) (x ∷ taken) read h = leaves (pass false n taken read h)

-- the place after a row
abbrev pub place_behind : Option Given → ℕ
place_behind None = 0
place_behind (Some row) = suc row.place

is_there : (taken : List Taken) (place first : ℕ) → (row_at taken place).first ≡ Some first → place < length taken
is_there [] place first h = absurd cc
is_there (x ∷ taken) zero first h = omega arith
is_there (x ∷ taken) (suc place) first h = omega (arith, is_there taken place first h)

follows : (before : Option Given) (row : Given) → JoinsTo before row → place_behind before ≡ row.place
follows None row h = absurd h
follows (Some b) row h = h.0

-- a row that was read, at its place or after some that were left out
at_row : (taken : List Taken) (before : Option Given) (row : Given) (joined : Bool) (read : List Item) (n : ℕ) → place_behind before + n ≡ row.place → (row.run ≡ false → JoinsTo before row) → (row.run ≡ false → joined ≡ true) → row.place < length taken → item_of (row_at taken row.place) ≡ sent_item_of row
    → IsReadOf true read (map item_of (drop (suc row.place) taken)) → IsReadOf joined (given_item_of row ∷ read) (map item_of (drop (place_behind before) taken))
at_row taken before row joined read zero at joins run there item rest =
    let here : place_behind before ≡ row.place = omega (arith, at) in
    let split : drop (place_behind before) taken ≡ row_at taken row.place ∷ drop (suc row.place) taken = ap (λ (k : ℕ). drop k taken) here ∙ drop-cons taken row.place no_row there in
    subst (λ (ts : List Taken). IsReadOf joined (given_item_of row ∷ read) (map item_of ts)) (sym split) (reads run (sym item) rest)
at_row taken before row joined read (suc n) at joins run there item rest =
    let split : drop (suc n) (drop (place_behind before) taken) ≡ row_at taken row.place ∷ drop (suc row.place) taken =
    drop-drop (suc n) (place_behind before) taken ∙ ap (λ (k : ℕ). drop k taken) at ∙ drop-cons taken row.place no_row there in
    let no_gap : row.run ≡ false → false ≡ true = λ e. let same = follows before row (joins e) in absurd (omega (arith, same, at)) in
    pass joined (suc n) (drop (place_behind before) taken) (given_item_of row ∷ read)
    (subst (λ (ts : List Taken). IsReadOf false (given_item_of row ∷ read) (map item_of ts)) (sym split) (reads no_gap (sym item) rest))

pub read_of_taken : (life : ℕ) (taken : List Taken) (before : Option Given) (joined : Bool) (rows : List Given) (items : List Item) → Rising (place_behind before) rows → AllGivenFacts taken rows → Joined before rows → Chosen life joined rows items → IsReadOf joined items (map item_of (drop (place_behind before) taken))
read_of_taken life taken before joined [] [] rising facts join none = nothing
read_of_taken life taken before joined [] (item ∷ items) rising facts join h = elim h [ ]
read_of_taken life taken before joined (row ∷ rows) (item ∷ items) rising facts join (picked run rest) =
    let there = is_there taken row.place facts.0.first facts.0.first_is in
    at_row taken before row joined items (row.place - place_behind before) (omega (arith, rising.0)) join.0 run there facts.0.item (read_of_taken life taken (Some row) true rows items rising.1 facts.1 join.1 rest)
read_of_taken life taken before joined (row ∷ rows) items rising facts join (lost below rest) =
    let n = suc row.place - place_behind before in
    let at : place_behind before + n ≡ suc row.place = omega (arith, rising.0) in
    let split : drop n (drop (place_behind before) taken) ≡ drop (suc row.place) taken = drop-drop n (place_behind before) taken ∙ ap (λ (k : ℕ). drop k taken) at in
    pass joined n (drop (place_behind before) taken) items
    (subst (λ (ts : List Taken). IsReadOf false items (map item_of ts)) (sym split) (read_of_taken life taken (Some row) false rows items rising.1 facts.1 join.1 rest))
