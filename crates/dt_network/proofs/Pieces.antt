-- A piece that a read answers is its octets with the marks that are told.
use Rattle.std.proofs.Common.{◌≡◌, ◌∙◌, ℕ, zero, suc, Bool, true, false, List, [], ◌∷◌, length, take, refl, sym, ap, subst, inl, inr}
use Rattle.std.specs.Prelude.{◌||◌, not}
use Rattle.std.proofs.lemmas.Bool.{cases_Bool}
use Rattle.dt_items.specs.declared.item.Item.{Item}
use Rattle.dt_items.specs.Unread.{first_piece, following, goes_on, last_item, marked, octets_of, piece_told}
use Rattle.dt_endpoint.specs.declared.answers.Delivered.{Delivered}
use Rattle.dt_endpoint.specs.Calls.{piece_of}
use Rattle.dt_network.proofs.Outcomes.{IsPieceOf}
use Rattle.dt_network.specs.Octets.{items_read}

record GoesOn (before item : Item) : Type 0 where
  end : before.end ≡ false
  begin : item.begin ≡ false
  run : item.run ≡ false

no_parts : (a b c : Bool) → not (a || (b || c)) ≡ true → (a ≡ false) × (b ≡ false) × (c ≡ false)
no_parts true b c h = absurd cc
no_parts false true c h = absurd cc
no_parts false false true h = absurd cc
no_parts false false false h = (refl, refl, refl)

goes_on_marked : (before next : Item) (rest : List Item) → GoesOn before next → (next ∷ rest) ≡ marked (octets_of (next ∷ rest)) next.begin (last_item next rest).end next.run
    → (before ∷ next ∷ rest) ≡ marked (octets_of (before ∷ next ∷ rest)) before.begin (last_item before (next ∷ rest)).end before.run
goes_on_marked before next rest on h =
    let inner : (next ∷ rest) ≡ marked (octets_of (next ∷ rest)) false (last_item next rest).end false =
    h
    ∙ ap (λ (b : Bool). marked (octets_of (next ∷ rest)) b (last_item next rest).end next.run) on.begin
    ∙ ap (λ (r : Bool). marked (octets_of (next ∷ rest)) false (last_item next rest).end r) on.run in
    ap (λ (is : List Item). before ∷ is) inner
    ∙ ap (λ (e : Bool). let i : Item = record { octet = before.octet; begin = before.begin; end = e; run = before.run } in i ∷ marked (octets_of (next ∷ rest)) false (last_item next rest).end false) on.end

marked_following : (n : ℕ) (before : Item) (items : List Item) → (before ∷ following n before items) ≡ marked (octets_of (before ∷ following n before items)) before.begin (last_item before (following n before items)).end before.run
marked_following n before [] = refl
marked_following zero before (item ∷ items) = refl
marked_following (suc n) before (item ∷ items) =
    elim (cases_Bool (goes_on before item)) [
      | inl y ↦
          let parts = no_parts before.end item.begin item.run y in
          rw y (goes_on_marked before item (following n item items) (record { end = parts.0; begin = parts.1; run = parts.2 }) (marked_following n item items))
      | inr o ↦ rw o refl
    ]

told_of : (n : ℕ) (items : List Item) (buf : List ℕ) → let piece = first_piece n items in take (length (octets_of piece)) buf ≡ octets_of piece → items_read (piece_of (length (octets_of piece)) (piece_told piece)) buf ≡ piece
told_of n [] buf h = refl
told_of zero (item ∷ items) buf h = refl
told_of (suc n) (item ∷ items) buf h =
    let rest = following n item items in
    ap (λ (os : List ℕ). marked os item.begin (last_item item rest).end item.run) h ∙ sym (marked_following n item items)

pub piece_read : (answer : Delivered) (buf : List ℕ) (n : ℕ) (items piece : List Item) → piece ≡ first_piece n items → IsPieceOf answer buf piece → items_read answer buf ≡ first_piece n items
piece_read answer buf n items piece same h =
    let is : IsPieceOf answer buf (first_piece n items) = subst (IsPieceOf answer buf) same h in
    ap (λ (a : Delivered). items_read a buf) is.told ∙ told_of n items buf is.octets
