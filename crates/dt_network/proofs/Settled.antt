-- What was settled was accepted: its row in the book of what was given is found by its place.
use Rattle.std.proofs.Common.{◌≡◌, ◌∙◌, ◌==◌, ◌<◌, ℕ, zero, suc, Bool, true, false, List, [], ◌∷◌, length, map, refl, sym, ap, subst, arith, inl, inr}
use Rattle.std.proofs.lemmas.Bool.{cases_Bool}
use Rattle.std.proofs.lemmas.List.{length-map}
use Rattle.dt_items.specs.declared.item.Item.{Item}
use Rattle.dt_units.specs.declared.endpoints.Flow.{Flow}
use Rattle.dt_flow_model.specs.declared.rows.Fate.TheVariants.{Acked}
use Rattle.dt_flow_model.specs.declared.rows.Given.{Given}
use Rattle.dt_flow_model.specs.Ledger.{given_at, is_given, item_of, row_at, sent_item_of}
use Rattle.dt_world_model.proofs.Tables.{nat_is}
use Rattle.dt_network.specs.Books.{Book, IsSafeBook, WasAccepted, unplaced}
use Rattle.dt_network.specs.Network.{Network}

record IsFound (given : List Given) (place : ℕ) : Type 0 where
  index : ℕ
  within : index < length given
  there : (given_at given index).place ≡ place

found : (given : List Given) (place : ℕ) → is_given given place ≡ true → IsFound given place
found [] place h = absurd cc
found (row ∷ rows) place h =
    elim (cases_Bool (row.place == place)) [
      | inl y ↦ record { index = 0; within = omega arith; there = nat_is row.place place y }
      | inr o ↦
          let rest : is_given rows place ≡ true = rw o at h in
          let r = found rows place rest in
          record { index = suc r.index; within = omega (arith, r.within); there = r.there }
    ]

unplaced_at : (given : List Given) (index : ℕ) → index < length given → sent_item_of (given_at (map unplaced given) index) ≡ sent_item_of (given_at given index)
unplaced_at [] index h = absurd (omega arith)
unplaced_at (row ∷ rows) zero h = refl
unplaced_at (row ∷ rows) (suc index) h = unplaced_at rows index (omega arith)

pub settled_accepted : (f : Flow) (net : Network) (book : Book) (read : List Item) (place : ℕ) → IsSafeBook f net book read → (row_at book.rows place).fate ≡ Acked → WasAccepted book.given (row_at book.rows place)
settled_accepted f net book read place h acked =
    let r = found h.given place (h.safe.acknowledged_given place acked) in
    subst (λ (given : List Given). WasAccepted given (row_at book.rows place)) h.accepted
    (record {
      index = r.index;
      within = omega (arith, length-map h.given unplaced, r.within);
      same = unplaced_at h.given r.index r.within ∙ sym (h.safe.intact r.index r.within) ∙ ap (λ (k : ℕ). item_of (row_at book.rows k)) r.there;
    })
