-- A piece goes on the first part of a message, or makes it whole.
use Rattle.std.proofs.Common.{ℕ, zero, suc, ◌+◌, ◌-◌, ◌<◌, ◌≤◌, ◌≡◌, ◌⊎◌, ◌==◌, Bool, true, false, List, [], ◌∷◌, ◌++◌, length, take, get_or, Option, Some, None, refl, ap, sym, subst, ◌∙◌, inl, inr, arith, length-append}
use Rattle.std.specs.Prelude.{◌||◌, option_map}
use Rattle.std.specs.List.{Contains}
use Rattle.std.proofs.Math.ListN.{get_or-map as mapped}
use Rattle.std.proofs.lemmas.Bool.Decides.{nat_tests}
use Rattle.std.proofs.lemmas.List.{ext_get_or, get_or-append_right, get_or-take, get_or_append_left, get_or_default, length-map, length-take-le}
use Rattle.std.proofs.lemmas.List.Elements.{All-contains}
use Rattle.dt_items.specs.declared.item.Item.{Item}
use Rattle.dt_items.specs.Unread.{first_piece}
use Rattle.dt_units.specs.declared.endpoints.Flow.{Flow}
use Rattle.dt_flow_model.specs.declared.rows.Given.{Given}
use Rattle.dt_flow_model.specs.Ledger.{given_at, is_given, item_of, no_item, no_row, sent_item_of}
use Rattle.dt_flow_model.specs.Safe.{Follows}
use Rattle.dt_world_model.specs.World.{World, placed, view}
use Rattle.dt_world_model.specs.WorldFacts.{WorldFacts}
use Rattle.dt_world_laws.proofs.Promise.{facts_are_safe}
use Rattle.dt_calls_model.specs.CallFacts.{AreBegun, IsBegun, LieSideBySide, Span, rows_gone, taken_rows}
use Rattle.dt_calls_model.specs.Messages.{Piece, begun_with, joined, message_of, whole_with}
use Rattle.dt_calls_laws.specs.Calm.{PieceIsGone, count_gone, count_read, items_taken, rows_given}
use Rattle.dt_calls_laws.specs.Joins.{IsWhole, Joins}
use Rattle.dt_calls_laws.specs.ReadTold.{piece_of}
use Rattle.dt_calls_laws.specs.Unread.{ArePiece}
use Rattle.dt_calls_laws.proofs.Spans.{IsIn, Lie, ends_before, ends_last, item_in, lie_at, lie_starts, octet_at, to_lie, whole}
use Rattle.dt_calls_laws.proofs.UnreadEnd.{are_piece, some_is, unread_end}
use Rattle.dt_calls_laws.proofs.OneMessage.{side}

-- THE GIVEN ROWS of a flow, and the items that it took
record AreGiven (items : List Item) (given : List Given) : Type 0 where
  pub in_order : (j k : ℕ) → j < k → k < length given → (given_at given j).place < (given_at given k).place
  pub there : (k : ℕ) → k < length given → (given_at given k).place < length items
  pub intact : (k : ℕ) → k < length given → get_or items (given_at given k).place no_item ≡ sent_item_of (given_at given k)
  pub unbroken : (k : ℕ) → k + 1 < length given → (given_at given (k + 1)).run ≡ false → Follows (given_at given k) (given_at given (k + 1))

are_given : (w : World) (f : Flow) → WorldFacts w → AreGiven (items_taken w f) (rows_given w f)
are_given w f facts =
    let h = (facts_are_safe w f facts).ledger in
    record {
      in_order = h.in_order;
      there = λ k lt. omega (arith, h.in_ledger k lt, length-map (taken_rows w f) item_of);
      intact = λ k lt. mapped item_of (taken_rows w f) (given_at (rows_given w f) k).place no_row ∙ h.intact k lt;
      unbroken = h.unbroken;
    }

-- A PART of a message: the last rows before a position
record Part (given : List Given) (upto place life : ℕ) (octets : List ℕ) : Type 0 where
  pub fits : length octets ≤ upto
  pub rows : (k : ℕ) → k < length octets → let row = given_at given (upto - length octets + k) in (row.place ≡ place + k) × (row.life ≡ life) × (row.octet ≡ get_or octets k 0)

abbrev IsRow : Given → ℕ → ℕ → ℕ → Type 0
IsRow row place life octet = (row.place ≡ place) × (row.life ≡ life) × (row.octet ≡ octet)

module _ (items : List Item) (given : List Given) (are : AreGiven items given) (from n life : ℕ) (p : Piece) (piece : ArePiece given from n life p) where
  -- rows without a run mark follow each other
  places : (a : ℕ) → (given_at given from).place ≡ a → (j : ℕ) → j < n → (given_at given (from + j)).place ≡ a + j
  places a e zero lt = ap (λ (i : ℕ). (given_at given i).place) (let s : from + 0 ≡ from = omega arith in s) ∙ e ∙ (let s : a ≡ a + 0 = omega arith in s)
  places a e (suc j) lt =
      let next : from + suc j ≡ (from + j) + 1 = omega arith in
      let run : (given_at given ((from + j) + 1)).run ≡ false = ap (λ (i : ℕ). (given_at given i).run) (sym next) ∙ piece.one_run j lt in
      let follows = are.unbroken (from + j) (omega (arith, piece.fits)) run in
      let before = places a e j (omega arith) in
      ap (λ (i : ℕ). (given_at given i).place) next ∙ (let s : (given_at given ((from + j) + 1)).place ≡ a + suc j = omega (arith, follows.place, before) in s)

  module _ (a : ℕ) (octets : List ℕ) (part : Part given from a life octets) (on : (given_at given from).place ≡ a + length octets) where
    abbrev all : List ℕ
    all = octets ++ p.octets

    len : length all ≡ length octets + n
    len = length-append octets p.octets ∙ ap (λ (m : ℕ). length octets + m) piece.many

    row_before : (k : ℕ) → k < length octets → IsRow (given_at given (from + n - length all + k)) (a + k) life (get_or all k 0)
    row_before k lt =
        let at : from - length octets + k ≡ from + n - length all + k = omega (arith, len, part.fits) in
        let row = part.rows k lt in
        subst (λ (i : ℕ). IsRow (given_at given i) (a + k) life (get_or all k 0)) at (row.0, row.1, row.2 ∙ sym (get_or_append_left octets p.octets 0 k lt))

    row_behind : (j k : ℕ) → k ≡ length octets + j → j < n → IsRow (given_at given (from + n - length all + k)) (a + k) life (get_or all k 0)
    row_behind j k e lt =
        let at : from + j ≡ from + n - length all + k = omega (arith, len, e, part.fits) in
        let place : (given_at given (from + j)).place ≡ a + k = (let h = places (a + length octets) on j lt in omega (arith, h, e)) in
        let octet : get_or all k 0 ≡ get_or p.octets j 0 = get_or-append_right octets p.octets (length octets) k 0 refl (omega (arith, e)) ∙ ap (λ (i : ℕ). get_or p.octets i 0) (let s : k - length octets ≡ j = omega (arith, e) in s) in
        subst (λ (i : ℕ). IsRow (given_at given i) (a + k) life (get_or all k 0)) at (place, piece.lives j lt, sym (octet ∙ piece.octets j lt))

    longer : Part given (from + n) a life all
    longer = record {
      fits = omega (arith, len, part.fits);
      rows = λ k lt. elim (side k (length octets)) [ inl l ↦ row_before k l | inr r ↦ row_behind (k - length octets) k (omega (arith, r)) (omega (arith, lt, len, r)) ];
    }

    module _ (s : Span) (carried : List ℕ) (is : IsIn items carried s) (at : s.place ≡ a) (part_of : length octets < s.count) where
      abbrev message : List ℕ
      message = message_of s.call carried

      -- the octets of the piece, as they stand in the message
      item_at : (j : ℕ) → j < n → length octets + j < s.count → get_or (whole s.call carried) (length octets + j) no_item ≡ sent_item_of (given_at given (from + j))
      item_at j lt inside =
          let q = length octets + j in
          let place : (given_at given (from + j)).place ≡ s.place + q = (let h = places (a + length octets) on j lt in omega (arith, h, at)) in
          sym (item_in items carried s q is inside) ∙ ap (λ (i : ℕ). get_or items i no_item) (sym place) ∙ are.intact (from + j) (omega (arith, piece.fits))

      last : ℕ
      last = n - 1

      last_is : suc (n - 1) ≡ n
      last_is = omega (arith, piece.some)

      ends_if : (b : Bool) → length octets + n ≤ s.count → (get_or (whole s.call carried) (length octets + (n - 1)) no_item).end ≡ b → p.end ≡ b
      ends_if b le e =
          piece.end (n - 1) last_is
          ∙ sym (ap (λ (i : Item). i.end) (item_at (n - 1) (omega (arith, piece.some)) (omega (arith, le, piece.some))))
          ∙ e

      too_long : s.count < length octets + n → ⊥
      too_long lt =
          let j = s.count - 1 - length octets in
          let last_end = ends_last message true true (length octets + j) (omega (arith, part_of, is.count)) in
          let inside : (given_at given (from + j)).end ≡ false = piece.one_end j (omega (arith, lt, part_of)) in
          let same = ap (λ (i : Item). i.end) (item_at j (omega (arith, lt, part_of)) (omega (arith, part_of))) in
          let no : true ≡ false = sym last_end ∙ same ∙ inside in
          absurd cc

      same_octets : length all ≡ s.count → all ≡ message
      same_octets e =
          ext_get_or 0 all message (e ∙ sym is.count)
          (λ k lt.
          let row = longer.rows k lt in
          let i = from + n - length all + k in
          let place : (given_at given i).place ≡ s.place + k = (let h = row.0 in omega (arith, h, at)) in
          sym row.2
          ∙ sym (ap (λ (x : Item). x.octet) (ap (λ (x : ℕ). get_or items x no_item) (sym place) ∙ are.intact i (omega (arith, lt, len, piece.fits, part.fits))))
          ∙ ap (λ (x : Item). x.octet) (item_in items carried s k is (omega (arith, lt, e)))
          ∙ octet_at message true true k (omega (arith, lt, e, is.count)))

      grows : ((p.end ≡ true) × (length all ≡ s.count) × (all ≡ message)) ⊎ ((p.end ≡ false) × (length all < s.count))
      grows =
          elim (side (length octets + n) s.count) [
            | inl less ↦ inr (ends_if false (omega (arith, less)) (ends_before message true true (length octets + (n - 1)) (omega (arith, less, piece.some, is.count))), omega (arith, len, less))
            | inr more ↦
                elim (side s.count (length octets + n)) [
                  | inl less ↦ absurd (too_long less)
                  | inr le ↦
                      let e : length all ≡ s.count = omega (arith, len, more, le) in
                      inl (ends_if true le (ends_last message true true (length octets + (n - 1)) (omega (arith, more, le, piece.some, is.count))), e, same_octets e)
                ]
          ]

-- WHETHER ROWS NAME A PLACE
apart_from : (m n : ℕ) → m < n → (m == n) ≡ false
apart_from m n h = grind (arith, nat_tests)

same_as : (m n : ℕ) → m ≡ n → (m == n) ≡ true
same_as m n h = grind (arith, nat_tests)

none_given : (rows : List Given) (place : ℕ) → ((k : ℕ) → k < length rows → (given_at rows k).place < place) → is_given rows place ≡ false
none_given [] place h = refl
none_given (row ∷ rows) place h = rw (apart_from row.place place (h 0 (omega arith))) (none_given rows place (λ k lt. h (suc k) (omega arith)))

pub or_true : (a b : Bool) → b ≡ true → (a || b) ≡ true
or_true true b h = refl
or_true false b h = h

one_given : (rows : List Given) (k : ℕ) (place : ℕ) → k < length rows → (given_at rows k).place ≡ place → is_given rows place ≡ true
one_given [] k place lt e = absurd (omega arith)
one_given (row ∷ rows) zero place lt e = rw (same_as row.place place e) refl
one_given (row ∷ rows) (suc k) place lt e = or_true (row.place == place) (is_given rows place) (one_given rows k place (omega arith) e)

-- IN THE WORLD
module _ (w : World) (f : Flow) (spans : List Span) where
  begun_part : (octets : List ℕ) (b : IsBegun w f spans octets) → Part (rows_given w f) (count_gone w f) b.span.place (placed w f.to.0).life octets
  begun_part octets b =
      let d = count_gone w f in
      let given = rows_given w f in
      let len : length (rows_gone w f) ≡ d = length-take-le d given (omega arith) in
      record {
        fits = omega (arith, b.gone, len);
        rows = λ k lt.
            let row = b.rows k lt in
            let at : length (rows_gone w f) - length octets + k ≡ d - length octets + k = omega (arith, len) in
            let is : given_at (rows_gone w f) (length (rows_gone w f) - length octets + k) ≡ given_at given (d - length octets + k) =
            ap (λ (i : ℕ). given_at (rows_gone w f) i) at ∙ get_or-take d given (d - length octets + k) _ (omega (arith, lt, b.gone, len)) in
            subst (λ (r : Given). IsRow r (b.span.place + k) (placed w f.to.0).life (get_or octets k 0)) is (row.0, row.1, row.2 ∙ get_or_default octets k _ 0 lt);
      }

  -- a part of a message that isn't whole is begun
  part_begun : (given : List Given) (d life : ℕ) (octets : List ℕ) (s : Span) → rows_gone w f ≡ take d given → d ≤ length given → life ≡ (placed w f.to.0).life → Contains spans s → 0 < length octets → length octets < s.count
      → Part given d s.place life octets → IsBegun w f spans octets
  part_begun given d life octets s gone le same there some less part =
      let len : length (rows_gone w f) ≡ d = ap (λ (rs : List Given). length rs) gone ∙ length-take-le d given le in
      record {
        span = s;
        there = there;
        some = some;
        part = less;
        gone = omega (arith, len, part.fits);
        rows = λ k lt.
            let row = part.rows k lt in
            let at : length (rows_gone w f) - length octets + k ≡ d - length octets + k = omega (arith, len) in
            let is : given_at given (d - length octets + k) ≡ given_at (rows_gone w f) (length (rows_gone w f) - length octets + k) =
            sym (ap (λ (i : ℕ). given_at (rows_gone w f) i) at ∙ ap (λ (rs : List Given). given_at rs (d - length octets + k)) gone ∙ get_or-take d given (d - length octets + k) _ (omega (arith, lt, part.fits))) in
            let whole : IsRow (given_at given (d - length octets + k)) (s.place + k) (placed w f.to.0).life (get_or octets k 0) = (row.0, row.1 ∙ same, row.2) in
            let moved = subst (λ (r : Given). IsRow r (s.place + k) (placed w f.to.0).life (get_or octets k 0)) is whole in
            (moved.0, moved.1, moved.2 ∙ get_or_default octets k 0 _ lt);
      }

-- WHAT JOINED IS
joined_begins : (begun : Option (List ℕ)) (p : Piece) → p.begin ≡ true → joined begun p ≡ Some p.octets
joined_begins begun p e = rw e refl

joined_runs : (begun : Option (List ℕ)) (p : Piece) → p.begin ≡ false → p.run ≡ true → joined begun p ≡ None
joined_runs begun p e k = rw (e, k) refl

joined_goes : (begun : Option (List ℕ)) (p : Piece) → p.begin ≡ false → p.run ≡ false → joined begun p ≡ option_map (λ before. before ++ p.octets) begun
joined_goes begun p e k = rw (e, k) refl

module _ (w after : World) (f : Flow) (most : ℕ) (p : Piece) (facts : WorldFacts w) (goes : PieceIsGone w after f most) (told : piece_of (first_piece most (view w f).unread) ≡ Some p) (spans : List Span) (carried : Span → List ℕ) (lie : Lie (items_taken w f) carried 0 spans) where
  abbrev given : List Given
  given = rows_given w f

  abbrev d : ℕ
  d = count_gone w f

  abbrev n : ℕ
  n = count_read w f most

  abbrev life : ℕ
  life = (placed w f.to.0).life

  are : AreGiven (items_taken w f) given
  are = are_given w f facts

  piece : ArePiece given d n life p
  piece = let e = unread_end w f facts in are_piece given d life most (view w f).unread e.items e.lives (first_piece most (view w f).unread) p refl told (omega arith)

  -- what the piece makes of octets that were begun
  abbrev Grown : Option (List ℕ) → Type 0
  Grown None = Unit {0}
  Grown (Some all) = ((p.end ≡ true) × IsWhole w after f spans carried all) ⊎ ((p.end ≡ false) × IsBegun after f spans all)

  grown_from : (octets : List ℕ) (s : Span) → Contains spans s → Part given d s.place life octets → (given_at given d).place ≡ s.place + length octets → length octets < s.count → Grown (Some (octets ++ p.octets))
  grown_from octets s there part on less =
      let is : IsIn (items_taken w f) (carried s) s = All-contains (λ t. IsIn (items_taken w f) (carried t) t) spans s (lie_at (items_taken w f) carried 0 spans lie) there in
      let long : Part given (d + n) s.place life (octets ++ p.octets) = longer (items_taken w f) given are d n life p piece s.place octets part on in
      let many : length (octets ++ p.octets) ≡ length octets + n = len (items_taken w f) given are d n life p piece s.place octets part on in
      elim (grows (items_taken w f) given are d n life p piece s.place octets part on s (carried s) is refl less) [
        | inl full ↦
            let last : (given_at given (d + (n - 1))).place ≡ s.place + s.count - 1 =
            (let h = places (items_taken w f) given are d n life p piece (s.place + length octets) on (n - 1) (omega (arith, piece.some)) in omega (arith, h, full.1, many, piece.some)) in
            inl (
              full.0,
              record {
                span = s;
                there = there;
                is = full.2;
                new = none_given (rows_gone w f) (s.place + s.count - 1)
                    (λ k lt.
                    let inside : k < d = (let l = length-take-le d given (omega arith) in omega (arith, lt, l)) in
                    let row : given_at (rows_gone w f) k ≡ given_at given k = get_or-take d given k _ inside in
                    let before = are.in_order k (d + (n - 1)) (omega (arith, inside)) (omega (arith, piece.fits, piece.some)) in
                    let places_are : (given_at (rows_gone w f) k).place ≡ (given_at given k).place = ap (λ (r : Given). r.place) row in
                    omega (arith, before, last, places_are));
                gone = subst (λ (rows : List Given). is_given rows (s.place + s.count - 1) ≡ true) (sym goes.gone)
                    (one_given (take (d + n) given) (d + (n - 1)) (s.place + s.count - 1) (let l = length-take-le (d + n) given piece.fits in omega (arith, l, piece.some))
                    (ap (λ (r : Given). r.place) (get_or-take (d + n) given (d + (n - 1)) _ (omega (arith, piece.some))) ∙ last));
              },
            )
        | inr some ↦ inr (some.0, part_begun after f spans given (d + n) life (octets ++ p.octets) s goes.gone piece.fits (sym goes.life) there (omega (arith, many, piece.some)) some.1 long)
      ]

  no_part : (a : ℕ) → Part given d a life []
  no_part a = record { fits = omega arith; rows = λ k lt. absurd (omega arith) }

  -- a begin mark begins a message
  begins_one : p.begin ≡ true → Grown (Some p.octets)
  begins_one e =
      let a = (given_at given d).place in
      let in_given : d < length given = omega (arith, piece.fits, piece.some) in
      let item : get_or (items_taken w f) a no_item ≡ sent_item_of (given_at given d) = are.intact d in_given in
      let mark : (get_or (items_taken w f) a no_item).begin ≡ true = ap (λ (i : Item). i.begin) item ∙ sym piece.begin ∙ e in
      let start = lie_starts (items_taken w f) carried 0 spans a lie (omega arith) (are.there d in_given) mark in
      let s = start.0 in
      let is : IsIn (items_taken w f) (carried s) s = All-contains (λ t. IsIn (items_taken w f) (carried t) t) spans s (lie_at (items_taken w f) carried 0 spans lie) start.1 in
      grown_from [] s start.1 (no_part s.place) (omega (arith, start.2)) (omega (arith, is.count))

  goes_on : p.run ≡ false → (begun : Option (List ℕ)) → AreBegun w f spans begun → Grown (option_map (λ before. before ++ p.octets) begun)
  goes_on e None b = tt
  goes_on e (Some octets) b =
      let in_given : d < length given = omega (arith, piece.fits, piece.some) in
      let part = begun_part w f spans octets b in
      let some = b.some in
      let next : (d - 1) + 1 ≡ d = omega (arith, part.fits, some) in
      let run : (given_at given ((d - 1) + 1)).run ≡ false = ap (λ (i : ℕ). (given_at given i).run) next ∙ sym piece.run ∙ e in
      let follows = are.unbroken (d - 1) (omega (arith, next, in_given)) run in
      let row = part.rows (length octets - 1) (omega (arith, some)) in
      let before : d - length octets + (length octets - 1) ≡ d - 1 = omega (arith, part.fits, some) in
      let last : (given_at given (d - 1)).place ≡ b.span.place + (length octets - 1) = ap (λ (i : ℕ). (given_at given i).place) (sym before) ∙ row.0 in
      let here : (given_at given ((d - 1) + 1)).place ≡ (given_at given d).place = ap (λ (i : ℕ). (given_at given i).place) next in
      grown_from octets b.span b.there part (omega (arith, follows.place, last, here, some)) b.part

  grown_by : (begin run : Bool) → p.begin ≡ begin → p.run ≡ run → (begun : Option (List ℕ)) → AreBegun w f spans begun → Grown (joined begun p)
  grown_by true run e k begun b = subst Grown (sym (joined_begins begun p e)) (begins_one e)
  grown_by false true e k begun b = subst Grown (sym (joined_runs begun p e k)) tt
  grown_by false false e k begun b = subst Grown (sym (joined_goes begun p e k)) (goes_on k begun b)

  joins_as : (begun j : Option (List ℕ)) (end : Bool) → joined begun p ≡ j → p.end ≡ end → Grown j → Joins w after f spans carried begun p
  joins_as begun j true e k h =
      let waits : begun_with begun p ≡ None = rw k refl in
      let whole_is : whole_with begun p ≡ j = rw k e in
      record {
        waits = subst (λ (o : Option (List ℕ)). AreBegun after f spans o) (sym waits) tt;
        whole = λ message is. whole_in j h message (sym whole_is ∙ is);
      }
    where
      whole_in : (j : Option (List ℕ)) → Grown j → (message : List ℕ) → j ≡ Some message → IsWhole w after f spans carried message
      whole_in None h message is = absurd cc
      whole_in (Some all) (inl full) message is = subst (λ (m : List ℕ). IsWhole w after f spans carried m) (some_is all message is) full.1
      whole_in (Some all) (inr some) message is = let no : true ≡ false = sym k ∙ some.0 in absurd cc
  joins_as begun j false e k h =
      let waits : begun_with begun p ≡ j = rw k e in
      let whole_is : whole_with begun p ≡ None = rw k refl in
      record {
        waits = subst (λ (o : Option (List ℕ)). AreBegun after f spans o) (sym waits) (begun_in j h);
        whole = λ message is. let no : None ≡ Some message = sym whole_is ∙ is in absurd cc;
      }
    where
      begun_in : (j : Option (List ℕ)) → Grown j → AreBegun after f spans j
      begun_in None h = tt
      begun_in (Some all) (inl full) = let no : true ≡ false = sym full.0 ∙ k in absurd cc
      begun_in (Some all) (inr some) = some.1

  pub joins : (begun : Option (List ℕ)) → AreBegun w f spans begun → Joins w after f spans carried begun p
  joins begun b = joins_as begun (joined begun p) p.end refl refl (grown_by p.begin p.run refl refl begun b)

-- by the messages of the flow
pub piece_joins : (w after : World) (f : Flow) (most : ℕ) (p : Piece) (spans : List Span) (carried : Span → List ℕ) (begun : Option (List ℕ)) → WorldFacts w → PieceIsGone w after f most → piece_of (first_piece most (view w f).unread) ≡ Some p
    → LieSideBySide w f carried 0 spans → AreBegun w f spans begun → Joins w after f spans carried begun p
piece_joins w after f most p spans carried begun facts goes told lie b = joins w after f most p facts goes told spans carried (to_lie w f carried 0 spans lie) begun b
