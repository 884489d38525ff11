-- What is unread are the last given rows, and a piece is the first of them.
use Rattle.std.proofs.Common.{ℕ, zero, suc, ◌+◌, ◌-◌, ◌<◌, ◌≤◌, ◌≡◌, ◌==◌, Bool, true, false, List, [], ◌∷◌, length, map, take, drop, get_or, Some, refl, ap, sym, subst, ◌∙◌, arith, length-drop, length-take}
use Rattle.std.proofs.lemmas.List.{drop-drop, drop-map, get_or-drop, get_or-map, get_or-take, length-map}
use Rattle.dt_items.specs.declared.item.Item.{Item}
use Rattle.dt_items.specs.Unread.{IsOnePiece, first_piece, last_item, octets_of}
use Rattle.dt_items.proofs.Longest.{first_piece-is_longest}
use Rattle.dt_items.proofs.Pieces.{first_piece-prefix}
use Rattle.dt_units.specs.declared.endpoints.Flow.{Flow}
use Rattle.dt_flow_model.specs.declared.rows.Given.{Given}
use Rattle.dt_flow_model.specs.Facts.{NeverFall, lives_given}
use Rattle.dt_flow_model.specs.Ledger.{given_at, given_in, given_item_of, no_given, no_item, read_in}
use Rattle.dt_flow_laws.proofs.Ledger.{fall_end}
use Rattle.dt_world_model.specs.World.{World, placed, view}
use Rattle.dt_world_model.specs.WorldFacts.{WorldFacts}
use Rattle.dt_world_model.proofs.Tables.{nat_is, nat_self}
use Rattle.dt_calls_model.specs.Messages.{Piece}
use Rattle.dt_calls_laws.specs.Calm.{count_gone, rows_given}
use Rattle.dt_calls_laws.specs.ReadTold.{piece_of}
use Rattle.dt_calls_laws.specs.Unread.{ArePiece, UnreadIsTheEnd}

-- THE ROWS OF THE LAST LIFE are the last rows.
record Tail (life : ℕ) (rows : List Given) : Type 0 where
  pub from : ℕ
  pub fits : from ≤ length rows
  pub items : given_in life rows ≡ map given_item_of (drop from rows)
  pub lives : (k : ℕ) → from ≤ k → k < length rows → (given_at rows k).life ≡ life

-- after a row of the last life all are of it
all_of : (life : ℕ) (rows : List Given) → NeverFall life life (lives_given rows) → given_in life rows ≡ map given_item_of rows
all_of life [] h = refl
all_of life (g ∷ gs) h =
    let up = fall_end g.life life (lives_given gs) h.1 in
    let is : g.life ≡ life = omega (arith, h.0, up) in
    let same : (g.life == life) ≡ true = rw is (nat_self life) in
    rw same (ap (λ (is : List Item). given_item_of g ∷ is) (all_of life gs (subst (λ (n : ℕ). NeverFall n life (lives_given gs)) is h.1)))

all_lives : (life : ℕ) (rows : List Given) (k : ℕ) → NeverFall life life (lives_given rows) → k < length rows → (given_at rows k).life ≡ life
all_lives life [] k h lt = absurd (omega arith)
all_lives life (g ∷ gs) zero h lt = let up = fall_end g.life life (lives_given gs) h.1 in omega (arith, h.0, up)
all_lives life (g ∷ gs) (suc k) h lt =
    let up = fall_end g.life life (lives_given gs) h.1 in
    let is : g.life ≡ life = omega (arith, h.0, up) in
    all_lives life gs k (subst (λ (n : ℕ). NeverFall n life (lives_given gs)) is h.1) (omega arith)

tail_from : (life : ℕ) (g : Given) (gs : List Given) (b : Bool) → (g.life == life) ≡ b → NeverFall g.life life (lives_given gs) → Tail life gs → Tail life (g ∷ gs)
tail_from life g gs true e h t =
    let is : g.life ≡ life = nat_is g.life life e in
    let rest : NeverFall life life (lives_given gs) = subst (λ (n : ℕ). NeverFall n life (lives_given gs)) is h in
    record {
      from = 0;
      fits = omega arith;
      items = rw e (ap (λ (is : List Item). given_item_of g ∷ is) (all_of life gs rest));
      lives = λ k le lt. all_lives life (g ∷ gs) k (omega arith, h) lt;
    }
tail_from life g gs false e h t = record {
  from = suc t.from;
  fits = omega (arith, t.fits);
  items = rw e (t.items);
  lives = later;
}
  where
    later : (k : ℕ) → suc t.from ≤ k → k < length (g ∷ gs) → (given_at (g ∷ gs) k).life ≡ life
    later zero le lt = absurd (omega arith)
    later (suc k) le lt = t.lives k (omega arith) (omega arith)

tail_of : (n life : ℕ) (rows : List Given) → NeverFall n life (lives_given rows) → Tail life rows
tail_of n life [] h = record { from = 0; fits = omega arith; items = refl; lives = λ k le lt. absurd (omega arith) }
tail_of n life (g ∷ gs) h = tail_from life g gs (g.life == life) refl h.1 (tail_of g.life life gs h.1)

pub unread_end : (w : World) (f : Flow) → WorldFacts w → UnreadIsTheEnd w f
unread_end w f facts =
    let h = (facts.flows f).read_side in
    let life = (placed w f.to.0).life in
    let rows = rows_given w f in
    let reads = (view w f).reads in
    let n = read_in life reads in
    let t : Tail life rows = tail_of 0 life rows h.lives in
    let us = (view w f).unread in
    let is : us ≡ map given_item_of (drop (t.from + n) rows) =
    h.unread_is ∙ ap (λ (is : List Item). drop n is) t.items ∙ drop-map given_item_of n (drop t.from rows) ∙ ap (map given_item_of) (drop-drop n t.from rows) in
    let all : length (given_in life rows) ≡ length rows - t.from = ap (λ (is : List Item). length is) t.items ∙ length-map (drop t.from rows) given_item_of ∙ length-drop t.from rows in
    let len : length us ≡ length rows - (t.from + n) = ap (λ (is : List Item). length is) is ∙ length-map (drop (t.from + n) rows) given_item_of ∙ length-drop (t.from + n) rows in
    let within = h.within life in
    let count : t.from + n ≡ count_gone w f = omega (arith, all, len, within, t.fits) in
    record {
      items = is ∙ ap (λ (k : ℕ). map given_item_of (drop k rows)) count;
      lives = λ k le lt. t.lives k (omega (arith, count)) lt;
    }

-- THE PIECE
last_at : (i : Item) (is : List Item) (d : Item) → last_item i is ≡ get_or (i ∷ is) (length is) d
last_at i [] d = refl
last_at i (j ∷ is) d = last_at j is d

pub some_is : {A : Type 0} (a b : A) → Some a ≡ Some b → a ≡ b
some_is a b e = cc

module _ (given : List Given) (from life most : ℕ) (unread : List Item) (is : unread ≡ map given_item_of (drop from given)) (lives : (k : ℕ) → from ≤ k → k < length given → (given_at given k).life ≡ life) where
  len_unread : length unread ≡ length given - from
  len_unread = ap (λ (us : List Item). length us) is ∙ length-map (drop from given) given_item_of ∙ length-drop from given

  module _ (items : List Item) (first : first_piece most unread ≡ items) where
    cut : take (length items) unread ≡ items
    cut = ap (λ (us : List Item). take (length us) unread) (sym first) ∙ first_piece-prefix most unread ∙ first

    fits : length items ≤ length unread
    fits = omega (arith, ap (λ (us : List Item). length us) cut, length-take (length items) unread)

    at : (k : ℕ) → k < length items → get_or items k no_item ≡ given_item_of (given_at given (from + k))
    at k lt =
        let some : k < length (drop from given) = omega (arith, fits, len_unread, length-drop from given) in
        ap (λ (us : List Item). get_or us k no_item) (sym cut)
        ∙ get_or-take (length items) unread k no_item lt
        ∙ ap (λ (us : List Item). get_or us k no_item) is
        ∙ get_or-map given_item_of (drop from given) k no_given no_item some
        ∙ ap given_item_of (get_or-drop from given k no_given)

    one : IsOnePiece items
    one = subst IsOnePiece first (first_piece-is_longest most unread).one

  pub are_piece : (items : List Item) (p : Piece) → first_piece most unread ≡ items → piece_of items ≡ Some p → from ≤ length given → ArePiece given from (length items) life p
  are_piece [] p first told le = absurd cc
  are_piece (i ∷ is) p first told le =
      let items = i ∷ is in
      let q : Piece = record { run = i.run; begin = i.begin; end = (last_item i is).end; octets = octets_of items } in
      let whole : ArePiece given from (length items) life q = record {
        fits = omega (arith, fits items first, len_unread);
        some = omega arith;
        lives = λ k lt. lives (from + k) (omega arith) (omega (arith, fits items first, len_unread));
        one_run = λ k lt. sym (ap (λ (j : Item). j.run) (at items first (suc k) lt)) ∙ (one items first).run_first (suc k) no_item (omega arith) lt;
        one_end = λ k lt. sym (ap (λ (j : Item). j.end) (at items first k (omega arith))) ∙ (one items first).end_last k no_item (omega arith);
        run = ap (λ (j : Item). j.run) (at items first 0 (omega arith)) ∙ ap (λ (n : ℕ). (given_at given n).run) (let e : from + 0 ≡ from = omega arith in e);
        begin = ap (λ (j : Item). j.begin) (at items first 0 (omega arith)) ∙ ap (λ (n : ℕ). (given_at given n).begin) (let e : from + 0 ≡ from = omega arith in e);
        end = λ k e. (let same : length is ≡ k = omega arith in ap (λ (j : Item). j.end) (last_at i is no_item) ∙ ap (λ (n : ℕ). (get_or items n no_item).end) same ∙ ap (λ (j : Item). j.end) (at items first k (omega arith)));
        many = length-map items (λ (j : Item). j.octet);
        octets = λ k lt. get_or-map (λ (j : Item). j.octet) items k no_item 0 lt ∙ ap (λ (j : Item). j.octet) (at items first k lt);
      } in
      subst (λ (r : Piece). ArePiece given from (length items) life r) (some_is q p told) whole
