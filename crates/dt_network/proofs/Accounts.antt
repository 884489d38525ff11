-- What a step of the world does to what a flow took and to what is gone of it, beside what the call tells.
use Rattle.std.proofs.Common.{◌≡◌, ◌∙◌, ◌⊎◌, ◌==◌, ◌+◌, ◌-◌, ◌<◌, ◌≤◌, ℕ, zero, suc, Bool, true, false, List, [], ◌∷◌, ◌++◌, append-nil, drop, length, length-drop, map, take, Option, Some, None, refl, sym, ap, subst, arith, inl, inr}
use Rattle.std.proofs.Math.Seq.{drop-cons, take-add}
use Rattle.std.proofs.lemmas.Bool.{cases_Bool}
use Rattle.std.proofs.lemmas.List.{take-append-drop, take-map}
use Rattle.dt_items.proofs.Pieces.{first_piece-prefix}
use Rattle.dt_items.specs.declared.item.Item.{Item}
use Rattle.dt_items.specs.Unread.{first_piece}
use Rattle.dt_units.specs.declared.endpoints.Flow.{Flow}
use Rattle.dt_flow_laws.proofs.Ledger.{fall_end}
use Rattle.dt_flow_model.specs.declared.rows.Given.{Given}
use Rattle.dt_flow_model.specs.Facts.{JoinsTo, Joined, NeverFall, last_of, life_from, lives_given}
use Rattle.dt_flow_model.specs.Ledger.{given_at, given_item_of, no_given}
use Rattle.dt_world_model.proofs.Tables.{look_write, look_write_other, nat_is, nat_self}
use Rattle.dt_world_model.specs.Tables.{look, write}
use Rattle.dt_world_model.specs.World.{World, placed, view}
use Rattle.dt_world_model.specs.WorldFacts.{WorldFacts}
use Rattle.dt_calls_laws.proofs.UnreadEnd.{unread_end}
use Rattle.dt_calls_laws.specs.Calm.{AllIsGone, Calm, PieceIsGone, count_gone, count_read, items_taken, rows_given}
use Rattle.dt_calls_model.specs.CallFacts.{rows_gone}
use Rattle.dt_endpoint.specs.Endpoints.{EndpointValue}
use Rattle.dt_network.proofs.Events.{called}
use Rattle.dt_network.proofs.Picking.{AllBelow, MayBegin, all_lost, all_picked, joined_after, below_drop, below_take}
use Rattle.dt_network.specs.Books.{Chosen}
use Rattle.dt_network.specs.Network.{Network}

-- no row that is gone is of the reader's present life
abbrev pub IsClear : World → Flow → Type 0
IsClear w g = (rows_gone w g ≡ []) ⊎ (life_from 0 (rows_gone w g) < (placed w g.to.0).life)

-- the reader's endpoint found no memory
pub record IsSpentAt (net : Network) (g : Flow) : Type 0 where
  pub reader : EndpointValue
  pub there : look ◌==◌ g.to.0 net.endpoints ≡ Some reader
  pub spent : reader.spent ≡ true

-- where the last row that is gone wasn't read, the next that is read begins a life
abbrev pub Sure : Network → World → Flow → Bool → Type 0
Sure net w g joined = joined ≡ false → IsClear w g ⊎ IsSpentAt net g

-- WHAT A STEP DOES to a flow: the octets that it took, and the rows that are gone by it, of which it read some or lost all
pub record Account (w v : World) (net : Network) (g : Flow) (takes : List Item → Type 0) (read : List Item) (joined : Bool) : Type 0 where
  pub taken : List Item
  pub takes_them : takes taken
  pub items : items_taken v g ≡ items_taken w g ++ taken
  pub rows : List Given
  pub gone : rows_gone v g ≡ rows_gone w g ++ rows
  pub next : Bool
  pub sure : Sure net v g next
  pub rise : (placed w g.to.0).life ≤ (placed v g.to.0).life
  -- what is lost is of an earlier life of the reader, or of this one where the reader found no memory
  pub chosen : (life : ℕ) → (placed v g.to.0).life ≤ life → (IsSpentAt net g → ⊥) ⊎ ((placed v g.to.0).life < life) → (rest : List Given) (more : List Item) → Chosen life next rest more → Chosen life joined (rows ++ rest) (read ++ more)

-- NOTHING is gone
module _ (w v : World) (before after : Network) (g : Flow) (takes : List Item → Type 0) (read : List Item) (joined : Bool) where
  clear_still : rows_gone v g ≡ rows_gone w g → (placed v g.to.0).life ≡ (placed w g.to.0).life → IsClear w g → IsClear v g
  clear_still gone life (inl none) = inl (gone ∙ none)
  clear_still gone life (inr earlier) = inr (omega (arith, earlier, life, ap (life_from 0) gone))

  sure_still : rows_gone v g ≡ rows_gone w g → (placed v g.to.0).life ≡ (placed w g.to.0).life → (IsSpentAt before g → IsSpentAt after g) → IsClear w g ⊎ IsSpentAt before g → IsClear v g ⊎ IsSpentAt after g
  sure_still gone life on (inl clear) = inl (clear_still gone life clear)
  sure_still gone life on (inr spent) = inr (on spent)

  pub taking_account : (taken : List Item) → takes taken → items_taken v g ≡ items_taken w g ++ taken → rows_gone v g ≡ rows_gone w g → (placed v g.to.0).life ≡ (placed w g.to.0).life → (IsSpentAt before g → IsSpentAt after g) → read ≡ [] → Sure before w g joined → Account w v after g takes read joined
  taking_account taken is items gone life on none sure = record {
    taken = taken;
    takes_them = is;
    items = items;
    rows = [];
    gone = gone ∙ sym (append-nil (rows_gone w g));
    next = joined;
    sure = λ e. sure_still gone life on (sure e);
    rise = omega (arith, life);
    chosen = λ last by memory rest more k. subst (λ (r : List Item). Chosen last joined rest (r ++ more)) (sym none) k;
  }

  pub calm_account : Calm w v g → takes [] → (IsSpentAt before g → IsSpentAt after g) → read ≡ [] → Sure before w g joined → Account w v after g takes read joined
  calm_account calm is on none sure = taking_account [] is (calm.items ∙ sym (append-nil (items_taken w g))) calm.steady.gone calm.steady.life on none sure

-- lives never fall
life_below : (n life : ℕ) (rows : List Given) → NeverFall n life (lives_given rows) → life_from n rows ≤ life
life_below n life [] h = h
life_below n life (row ∷ rows) h = life_below row.life life rows h.1

last_life : (n : ℕ) (before : Option Given) (rows : List Given) (last : Given) → last_of None rows ≡ Some last → life_from n rows ≡ last.life
last_life n before [] last e = absurd cc
last_life n before (row ∷ rows) last e = by_last row rows last e
  where
    by_last : (row : Given) (rows : List Given) (last : Given) → last_of (Some row) rows ≡ Some last → life_from row.life rows ≡ last.life
    by_last row [] last e = let same : row ≡ last = cc in ap (λ (r : Given). r.life) same
    by_last row (next ∷ rows) last e = by_last next rows last e

all_below : (n life last : ℕ) (rows : List Given) → life < last → NeverFall n life (lives_given rows) → AllBelow last rows
all_below n life last [] less h = tt
all_below n life last (row ∷ rows) less h = let up : row.life ≤ life = fall_end row.life life (lives_given rows) h.1 in (omega (arith, up, less), all_below row.life life last rows less h.1)

-- THE READER STARTS AGAIN: what was unread is lost
pub restart_account : (w v : World) (after : Network) (g : Flow) (takes : List Item → Type 0) (read : List Item) (joined : Bool) → WorldFacts w → AllIsGone w v g → (placed v g.to.0).life ≡ (placed w g.to.0).life + 1 → takes [] → read ≡ [] → Account w v after g takes read joined
restart_account w v after g takes read joined facts all life is none =
    let given = rows_given w g in
    let k = count_gone w g in
    let low : life_from 0 given ≤ (placed w g.to.0).life = life_below 0 (placed w g.to.0).life given (facts.flows g).read_side.lives in
    record {
      taken = [];
      takes_them = is;
      items = all.items ∙ sym (append-nil (items_taken w g));
      rows = drop k given;
      gone = all.gone ∙ sym (take-append-drop k given);
      next = false;
      sure = λ e. inl (inr (omega (arith, low, life, ap (life_from 0) all.gone)));
      rise = omega (arith, life);
      chosen = λ last by memory rest more h. subst (λ (r : List Item). Chosen last joined (drop k given ++ rest) (r ++ more)) (sym none)
          (all_lost last joined (drop k given) rest more (below_drop last k given (all_below 0 (placed w g.to.0).life last given (omega (arith, life, by)) (facts.flows g).read_side.lives)) h);
    }

-- A READ
joined_behind : (before : Option Given) (xs ys : List Given) → Joined before (xs ++ ys) → Joined (last_of before xs) ys
joined_behind before [] ys h = h
joined_behind before (x ∷ xs) ys h = joined_behind (Some x) xs ys h.1

pub joined_front : (before : Option Given) (xs ys : List Given) → Joined before (xs ++ ys) → Joined before xs
joined_front before [] ys h = tt
joined_front before (x ∷ xs) ys h = (h.0, joined_front (Some x) xs ys h.1)

head_is : (n : ℕ) (xs : List Given) (row : Given) (rest : List Given) → take n xs ≡ row ∷ rest → xs ≡ row ∷ drop 1 xs
head_is zero xs row rest same = absurd cc
head_is (suc n) [] row rest same = absurd cc
head_is (suc n) (x ∷ xs) row rest same = let is : x ≡ row = cc in ap (λ (r : Given). r ∷ xs) is

any_begins : (joined : Bool) (rows : List Given) → joined ≡ true → MayBegin joined rows
any_begins joined [] is = tt
any_begins joined (row ∷ rows) is = λ no_run. is

module _ (w v : World) (before after : Network) (g : Flow) (takes : List Item → Type 0) (joined : Bool) (most : ℕ) (facts : WorldFacts w) (gone : PieceIsGone w v g most) where
  abbrev the_rows : List Given
  the_rows = take (count_read w g most) (drop (count_gone w g) (rows_given w g))

  rows_are : rows_gone v g ≡ rows_gone w g ++ the_rows
  rows_are = gone.gone ∙ take-add (count_gone w g) (count_read w g most) (rows_given w g)

  items_are : map given_item_of the_rows ≡ first_piece most (view w g).unread
  items_are =
      let behind = drop (count_gone w g) (rows_given w g) in
      sym (take-map given_item_of (count_read w g most) behind)
      ∙ ap (λ (is : List Item). take (count_read w g most) is) (sym (unread_end w g facts).items)
      ∙ first_piece-prefix most (view w g).unread

  -- the first row that is read
  begins : (rows : List Given) → Joined (last_of None (rows_gone w g)) rows → ((row : Given) (rest : List Given) → rows ≡ row ∷ rest → row.life ≡ (placed w g.to.0).life) → IsClear w g → MayBegin joined rows
  begins [] join lives clear = tt
  begins (row ∷ rows) join lives clear = λ no_run. absurd (by_last (last_of None (rows_gone w g)) refl (join.0 no_run) (lives row rows refl) clear)
    where
      by_last : (o : Option Given) → last_of None (rows_gone w g) ≡ o → JoinsTo o row → row.life ≡ (placed w g.to.0).life → IsClear w g → ⊥
      by_last None e join life clear = join
      by_last (Some last) e join life (inl none) = let no : None ≡ Some last = sym (ap (last_of None) none) ∙ e in absurd cc
      by_last (Some last) e join life (inr earlier) = let same = last_life 0 None (rows_gone w g) last e in absurd (omega (arith, earlier, same, join.1, life))

  rows_live : (row : Given) (rest : List Given) → the_rows ≡ row ∷ rest → row.life ≡ (placed w g.to.0).life
  rows_live row rest same =
      let k = count_gone w g in
      let given = rows_given w g in
      let first : drop k given ≡ row ∷ drop 1 (drop k given) = head_is (count_read w g most) (drop k given) row rest same in
      let count : length given - k ≡ suc (length (drop 1 (drop k given))) = sym (length-drop k given) ∙ ap (λ (rs : List Given). length rs) first in
      let inside : k < length given = omega (arith, count) in
      let there : given_at given k ∷ drop (suc k) given ≡ row ∷ drop 1 (drop k given) = sym (drop-cons given k no_given inside) ∙ first in
      let is : given_at given k ≡ row = cc in
      sym (ap (λ (r : Given). r.life) is) ∙ (unread_end w g facts).lives k (omega arith) inside

  rows_join : Joined (last_of None (rows_gone w g)) the_rows
  rows_join =
      let k = count_gone w g in
      let given = rows_given w g in
      let all : Joined None (take k given ++ drop k given) = subst (Joined None) (sym (take-append-drop k given)) (facts.flows g).read_side.joined in
      let behind : Joined (last_of None (rows_gone w g)) (drop k given) = joined_behind None (take k given) (drop k given) all in
      joined_front (last_of None (rows_gone w g)) the_rows (drop (count_read w g most) (drop k given)) (subst (Joined (last_of None (rows_gone w g))) (sym (take-append-drop (count_read w g most) (drop k given))) behind)

  may : (IsSpentAt before g → ⊥) → Sure before w g joined → MayBegin joined the_rows
  may unspent sure = by_joined joined refl
    where
      by_clear : IsClear w g ⊎ IsSpentAt before g → MayBegin joined the_rows
      by_clear (inl clear) = begins the_rows rows_join rows_live clear
      by_clear (inr spent) = absurd (unspent spent)

      by_joined : (b : Bool) → joined ≡ b → MayBegin joined the_rows
      by_joined true is = any_begins joined the_rows is
      by_joined false is = by_clear (sure is)

  -- it was answered
  pub read_account : (read : List Item) → read ≡ first_piece most (view w g).unread → takes [] → (IsSpentAt before g → ⊥) → Sure before w g joined → Account w v after g takes read joined
  read_account read same is unspent sure = record {
    taken = [];
    takes_them = is;
    items = gone.items ∙ sym (append-nil (items_taken w g));
    rows = the_rows;
    gone = rows_are;
    next = joined_after joined the_rows;
    sure = sure_after the_rows rows_are;
    rise = omega (arith, gone.life);
    chosen = λ last by memory rest more k. subst (λ (r : List Item). Chosen last joined (the_rows ++ rest) (r ++ more)) (items_are ∙ sym same) (all_picked last joined the_rows rest more (may unspent sure) k);
  }
    where
      by_clear : (rows : List Given) → rows ≡ [] → rows_gone v g ≡ rows_gone w g ++ rows → IsClear w g ⊎ IsSpentAt before g → IsClear v g ⊎ IsSpentAt after g
      by_clear rows none are (inl clear) = inl (clear_still w v before after g takes read joined (are ∙ ap (λ (rs : List Given). rows_gone w g ++ rs) none ∙ append-nil (rows_gone w g)) gone.life clear)
      by_clear rows none are (inr spent) = absurd (unspent spent)

      sure_after : (rows : List Given) → rows_gone v g ≡ rows_gone w g ++ rows → Sure after v g (joined_after joined rows)
      sure_after [] are = λ e. by_clear [] refl are (sure e)
      sure_after (row ∷ rows) are = λ e. absurd cc

  -- or there was no memory, and what it would have answered is lost
  pub lost_account : (read : List Item) → read ≡ [] → takes [] → IsSpentAt after g → Account w v after g takes read joined
  lost_account read none is spent = record {
    taken = [];
    takes_them = is;
    items = gone.items ∙ sym (append-nil (items_taken w g));
    rows = the_rows;
    gone = rows_are;
    next = false;
    sure = λ e. inr spent;
    rise = omega (arith, gone.life);
    chosen = λ last by memory rest more k. subst (λ (r : List Item). Chosen last joined (the_rows ++ rest) (r ++ more)) (sym none) (all_lost last joined the_rows rest more (below last memory) k);
  }
    where
      below : (last : ℕ) → (IsSpentAt after g → ⊥) ⊎ ((placed v g.to.0).life < last) → AllBelow last the_rows
      below last (inl unspent) = absurd (unspent spent)
      below last (inr less) =
          below_take last (count_read w g most) (drop (count_gone w g) (rows_given w g))
          (below_drop last (count_gone w g) (rows_given w g) (all_below 0 (placed w g.to.0).life last (rows_given w g) (omega (arith, gone.life, less)) (facts.flows g).read_side.lives))

-- WHETHER AN ENDPOINT IS SPENT after a call of one
module _ (net : Network) (n : ℕ) (e f : EndpointValue) (g : Flow) (there : look ◌==◌ n net.endpoints ≡ Some e) where
  spent_there : (s : IsSpentAt net g) → (n == g.to.0) ≡ true → e.spent ≡ true
  spent_there s y =
      let found : look ◌==◌ g.to.0 net.endpoints ≡ Some e = subst (λ (k : ℕ). look ◌==◌ k net.endpoints ≡ Some e) (nat_is n g.to.0 y) there in
      let both : Some e ≡ Some s.reader = sym found ∙ s.there in
      let is : e ≡ s.reader = cc in
      ap (λ (x : EndpointValue). x.spent) is ∙ s.spent

  spent_elsewhere : IsSpentAt net g → (n == g.to.0) ≡ false → IsSpentAt (called net n e f) g
  spent_elsewhere s o = record { reader = s.reader; there = look_write_other ℕ EndpointValue ◌==◌ nat_self nat_is g.to.0 n f net.endpoints o ∙ s.there; spent = s.spent }

  pub spent_here : (n == g.to.0) ≡ true → f.spent ≡ true → IsSpentAt (called net n e f) g
  spent_here y spent = record { reader = f; there = subst (λ (k : ℕ). look ◌==◌ k (write ◌==◌ n f net.endpoints) ≡ Some f) (nat_is n g.to.0 y) (look_write ℕ EndpointValue ◌==◌ nat_self nat_is n f net.endpoints); spent = spent }

  pub spent_still : f.spent ≡ e.spent → IsSpentAt net g → IsSpentAt (called net n e f) g
  spent_still same s = elim (cases_Bool (n == g.to.0)) [ inl y ↦ spent_here y (same ∙ spent_there s y) | inr o ↦ spent_elsewhere s o ]

  pub spent_event : e.spent ≡ false → IsSpentAt net g → IsSpentAt (called net n e f) g
  spent_event unspent s = elim (cases_Bool (n == g.to.0)) [ inl y ↦ let no : true ≡ false = sym (spent_there s y) ∙ unspent in absurd cc | inr o ↦ spent_elsewhere s o ]

  pub spent_restart : (n == g.to.0) ≡ false → IsSpentAt net g → IsSpentAt (called net n e f) g
  spent_restart o s = spent_elsewhere s o

  pub unspent_here : (n == g.to.0) ≡ true → e.spent ≡ false → IsSpentAt net g → ⊥
  unspent_here y unspent s = let no : true ≡ false = sym (spent_there s y) ∙ unspent in absurd cc

  pub none_spent : f.spent ≡ false → (IsSpentAt net g → ⊥) → IsSpentAt (called net n e f) g → ⊥
  none_spent unspent before s =
      elim (cases_Bool (n == g.to.0)) [
        | inl y ↦
            let found : look ◌==◌ g.to.0 (write ◌==◌ n f net.endpoints) ≡ Some f = subst (λ (k : ℕ). look ◌==◌ k (write ◌==◌ n f net.endpoints) ≡ Some f) (nat_is n g.to.0 y) (look_write ℕ EndpointValue ◌==◌ nat_self nat_is n f net.endpoints) in
            let both : Some f ≡ Some s.reader = sym found ∙ s.there in
            let is : f ≡ s.reader = cc in
            let no : true ≡ false = sym s.spent ∙ sym (ap (λ (x : EndpointValue). x.spent) is) ∙ unspent in
            absurd cc
        | inr o ↦ before (record { reader = s.reader; there = sym (look_write_other ℕ EndpointValue ◌==◌ nat_self nat_is g.to.0 n f net.endpoints o) ∙ s.there; spent = s.spent })
      ]
