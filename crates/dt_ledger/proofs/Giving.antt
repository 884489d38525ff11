-- Given rows from gives and octets.
use Rattle.std.proofs.Common.{ℕ, zero, suc, ◌≡◌, ◌+◌, ◌-◌, ◌<◌, ◌^◌, Bool, false, List, [], ◌∷◌, ◌++◌, length, take, drop, get_or, slice_get, Some, append_assoc, refl, sym, ap, subst, ◌∙◌, arith}
use Rattle.std.proofs.lemmas.List.{append-nil, drop-append-le, length-append, length-drop, length-take-le, nil_from_length, take-append-le, take_all}
use Rattle.std.proofs.lemmas.Option.{get_or_from_slice_get}
use Rattle.dt_items.specs.declared.item.Item.{Item}
use Rattle.dt_items.specs.Unread.{marked}
use Rattle.dt_items.proofs.Marks.{length-marked}
use Rattle.dt_flow_model.specs.declared.rows.Given.{Given}
use Rattle.dt_flow_model.specs.Ledger.{given_rows, top, top_from}
use Rattle.dt_ledger.specs.declared.gives.Give.{Give}
use Rattle.dt_ledger.specs.Gives.{HaveOctets, given_in_all, rows_of}

length-given_rows : (life at : ℕ) (run : Bool) (place : ℕ) (items : List Item) → length (given_rows life at run place items) ≡ length items
length-given_rows life at run place [] = refl
length-given_rows life at run place (item ∷ items) = ap suc (length-given_rows life at false (suc place) items)

length-rows_of : (give : Give) (octets : List ℕ) → length (rows_of give octets) ≡ length octets
length-rows_of give octets = length-given_rows give.life give.at give.run give.place (marked octets give.begin give.end false) ∙ length-marked octets give.begin give.end false

-- each octet has a row
pub length-given_in_all : (gives : List Give) (octets : List ℕ) → HaveOctets gives octets → length (given_in_all gives octets) ≡ length octets
length-given_in_all [] octets h = sym h
length-given_in_all (give ∷ gives) octets h =
    let first = take give.count octets in
    let rest = drop give.count octets in
    omega (
      arith,
      length-append (rows_of give first) (given_in_all gives rest),
      length-rows_of give first,
      length-take-le give.count octets h.1,
      length-given_in_all gives rest h.3,
      length-drop give.count octets,
      h.1,
    )

-- a give more
pub given_in_all-push : (gives : List Give) (octets : List ℕ) (give : Give) (more : List ℕ) → HaveOctets gives octets → give.count ≡ length more → given_in_all (gives ++ give ∷ []) (octets ++ more) ≡ given_in_all gives octets ++ rows_of give more
given_in_all-push [] octets give more h e =
    let none : octets ≡ [] = nil_from_length octets h in
    ap (λ (xs : List ℕ). given_in_all (give ∷ []) (xs ++ more)) none
    ∙ append-nil (rows_of give (take give.count more))
    ∙ ap (rows_of give) (take_all give.count more (omega arith))
given_in_all-push (first ∷ gives) octets give more h e =
    let rows = rows_of first (take first.count octets) in
    let rest = drop first.count octets in
    ap (λ (xs : List ℕ). rows_of first xs ++ given_in_all (gives ++ give ∷ []) (drop first.count (octets ++ more))) (take-append-le first.count octets more h.1)
    ∙ ap (λ (xs : List ℕ). rows ++ given_in_all (gives ++ give ∷ []) xs) (drop-append-le first.count octets more h.1)
    ∙ ap (λ (xs : List Given). rows ++ xs) (given_in_all-push gives rest give more h.3 e)
    ∙ sym (append_assoc rows (given_in_all gives rest) (rows_of give more))

pub have_octets-push : (gives : List Give) (octets : List ℕ) (give : Give) (more : List ℕ) → HaveOctets gives octets → give.count ≡ length more → 0 < length more → give.place + length more < 2 ^ 62 → HaveOctets (gives ++ give ∷ []) (octets ++ more)
have_octets-push [] octets give more h e some below =
    let none : octets ≡ [] = nil_from_length octets h in
    subst (λ (xs : List ℕ). HaveOctets (give ∷ []) (xs ++ more)) (sym none) (omega arith, omega arith, omega arith, omega (arith, length-drop give.count more))
have_octets-push (first ∷ gives) octets give more h e some below =
    let rest = drop first.count octets in (
      h.0,
      omega (arith, h.1, length-append octets more),
      h.2,
      subst (HaveOctets (gives ++ give ∷ [])) (sym (drop-append-le first.count octets more h.1)) (have_octets-push gives rest give more h.3 e some below),
    )

-- the last give
last_has : (gives : List Give) (octets : List ℕ) (d : Give) (last : ℕ) → HaveOctets gives octets → suc last ≡ length gives → (0 < (get_or gives last d).count) × ((get_or gives last d).place + (get_or gives last d).count < 2 ^ 62)
last_has [] octets d last h l = absurd (omega arith)
last_has (give ∷ []) octets d zero h l = (h.0, h.2)
last_has (give ∷ []) octets d (suc last) h l = absurd (omega arith)
last_has (give ∷ next ∷ gives) octets d zero h l = absurd (omega arith)
last_has (give ∷ next ∷ gives) octets d (suc last) h l = last_has (next ∷ gives) (drop give.count octets) d last h.3 (omega arith)

top_from-given_rows : (life at : ℕ) (run : Bool) (place : ℕ) (items : List Item) → top_from place (given_rows life at run place items) ≡ place + length items
top_from-given_rows life at run place [] = omega arith
top_from-given_rows life at run place (item ∷ items) = top_from-given_rows life at false (suc place) items ∙ omega arith

top_from-some : (life at : ℕ) (run : Bool) (from place : ℕ) (items : List Item) → 0 < length items → top_from from (given_rows life at run place items) ≡ place + length items
top_from-some life at run from place [] l = absurd (omega arith)
top_from-some life at run from place (item ∷ items) l = top_from-given_rows life at false (suc place) items ∙ omega arith

top_from-append : (from : ℕ) (rows more : List Given) → top_from from (rows ++ more) ≡ top_from (top_from from rows) more
top_from-append from [] more = refl
top_from-append from (row ∷ rows) more = top_from-append (suc row.place) rows more

top_from-last : (gives : List Give) (octets : List ℕ) (d : Give) (from last : ℕ) → HaveOctets gives octets → suc last ≡ length gives → top_from from (given_in_all gives octets) ≡ (get_or gives last d).place + (get_or gives last d).count
top_from-last [] octets d from last h l = absurd (omega arith)
top_from-last (give ∷ []) octets d from zero h l =
    let first = take give.count octets in
    let items = marked first give.begin give.end false in
    let long : length items ≡ give.count = length-marked first give.begin give.end false ∙ length-take-le give.count octets h.1 in
    ap (top_from from) (append-nil (rows_of give first))
    ∙ top_from-some give.life give.at give.run from give.place items (omega (arith, h.0))
    ∙ ap (λ (n : ℕ). give.place + n) long
top_from-last (give ∷ []) octets d from (suc last) h l = absurd (omega arith)
top_from-last (give ∷ next ∷ gives) octets d from zero h l = absurd (omega arith)
top_from-last (give ∷ next ∷ gives) octets d from (suc last) h l =
    let rows = rows_of give (take give.count octets) in
    let rest = drop give.count octets in
    top_from-append from rows (given_in_all (next ∷ gives) rest)
    ∙ top_from-last (next ∷ gives) rest d (top_from from rows) last h.3 (omega arith)

-- where there is a give there are rows
some_rows : (gives : List Give) (octets : List ℕ) → HaveOctets gives octets → 0 < length gives → 0 < length (given_in_all gives octets)
some_rows [] octets h l = absurd (omega arith)
some_rows (give ∷ gives) octets h l = omega (arith, length-given_in_all (give ∷ gives) octets h, h.0, h.1)

there_is : (gives : List Give) (last : Give) → slice_get gives (length gives - 1) ≡ Some last → 0 < length gives
there_is [] last e = absurd cc
there_is (give ∷ gives) last e = omega arith

-- what the last give says of the rows
pub record IsLast (gives : List Give) (octets : List ℕ) (last : Give) : Type 0 where
  pub some : 0 < last.count
  pub below : last.place + last.count < 2 ^ 62
  pub rows : 0 < length (given_in_all gives octets)
  pub top_is : top (given_in_all gives octets) ≡ last.place + last.count

pub last_is : (gives : List Give) (octets : List ℕ) (last : Give) → HaveOctets gives octets → slice_get gives (length gives - 1) ≡ Some last → IsLast gives octets last
last_is gives octets last h e =
    let there = there_is gives last e in
    let it : get_or gives (length gives - 1) last ≡ last = get_or_from_slice_get gives (length gives - 1) last last e in
    let has = last_has gives octets last (length gives - 1) h (omega arith) in
    let tops = top_from-last gives octets last 0 (length gives - 1) h (omega arith) in
    record {
      some = subst (λ (g : Give). 0 < g.count) it has.0;
      below = subst (λ (g : Give). g.place + g.count < 2 ^ 62) it has.1;
      rows = some_rows gives octets h there;
      top_is = tops ∙ ap (λ (g : Give). g.place + g.count) it;
    }
