-- The messages of a flow, and all that it took.
use Rattle.std.proofs.Common.{ℕ, ◌+◌, ◌<◌, ◌^◌, ◌≡◌, true, false, List, [], ◌∷◌, ◌++◌, drop, map, take, refl, ap, sym, ◌∙◌, arith}
use Rattle.std.proofs.Math.Seq.{drop-length}
use Rattle.std.proofs.lemmas.List.{drop-drop, map-append, take-append-drop}
use Rattle.std.proofs.lemmas.Nat.{from_be_bytes-to_be_bytes_8}
use Rattle.dt_items.specs.declared.item.Item.{Item}
use Rattle.dt_items.specs.Unread.{marked}
use Rattle.dt_units.specs.declared.endpoints.Flow.{Flow}
use Rattle.dt_flow_model.specs.declared.rows.Taken.{Taken}
use Rattle.dt_flow_model.specs.Ledger.{item_of}
use Rattle.dt_world_model.specs.World.{World}
use Rattle.dt_calls_model.specs.Messages.{carried_in, message_of, number_in}
use Rattle.dt_calls_model.specs.CallFacts.{LieSideBySide, Span, taken_rows}
use Rattle.dt_calls_laws.specs.Wholes.{AreSome, items_of_all}
use Rattle.dt_calls_laws.specs.SideBySide.{messages_of}

-- A MESSAGE is read back.
pub number_back : (n : ℕ) (carried : List ℕ) → n < 2 ^ 64 → number_in (message_of n carried) ≡ n
number_back n carried h = from_be_bytes-to_be_bytes_8 n h

pub carried_back : (n : ℕ) (carried : List ℕ) → carried_in (message_of n carried) ≡ carried
carried_back n carried = refl

pub messages_some : (carried : Span → List ℕ) (spans : List Span) → AreSome (messages_of carried spans)
messages_some carried [] = tt
messages_some carried (s ∷ spans) = (omega arith, messages_some carried spans)

-- ALL THAT A FLOW TOOK, from a place on, are the items of its messages from there on.
module _ (w : World) (f : Flow) (carried : Span → List ℕ) where
  abbrev items_from : ℕ → List Item
  items_from place = map item_of (drop place (taken_rows w f))

  pub lie_as_items : (place : ℕ) (spans : List Span) → LieSideBySide w f carried place spans → items_from place ≡ items_of_all (messages_of carried spans)
  lie_as_items place [] h = ap (λ (n : ℕ). items_from n) (sym h) ∙ ap (map item_of) (drop-length (taken_rows w f))
  lie_as_items place (s ∷ spans) h =
      let rows = drop place (taken_rows w f) in
      let split : rows ≡ take s.count rows ++ drop (place + s.count) (taken_rows w f) = sym (take-append-drop s.count rows) ∙ ap (λ (rest : List Taken). take s.count rows ++ rest) (drop-drop s.count place (taken_rows w f)) in
      ap (map item_of) split
      ∙ map-append item_of (take s.count rows) (drop (place + s.count) (taken_rows w f))
      ∙ ap (λ (is : List Item). is ++ items_from (place + s.count)) (ap (λ (n : ℕ). map item_of (take s.count (drop n (taken_rows w f)))) (sym h.0) ∙ h.1.items)
      ∙ ap (λ (is : List Item). marked (message_of s.call (carried s)) true true false ++ is) (lie_as_items (place + s.count) spans h.2)

pub all_taken : (w : World) (f : Flow) (carried : Span → List ℕ) (spans : List Span) → LieSideBySide w f carried 0 spans → map item_of (taken_rows w f) ≡ items_of_all (messages_of carried spans)
all_taken w f carried spans h = lie_as_items w f carried 0 spans h
