-- Whole messages of what was read are whole messages of what was sent.
use Rattle.std.proofs.Common.{ℕ, ◌≡◌, ◌⊎◌, Bool, true, false, List, [], ◌∷◌, ◌++◌, Option, Some, None, refl, ap, sym, subst, inl, inr}
use Rattle.std.specs.Prelude.{cond, option_map}
use Rattle.dt_items.specs.declared.item.Item.{Item}
use Rattle.dt_flow_model.specs.Ledger.{plain}
use Rattle.dt_calls_model.specs.Messages.{begun_with, joined, whole_with}
use Rattle.dt_network.specs.Octets.{IsReadOf, leaves, nothing, reads}
use Rattle.dt_service_laws.specs.Orders.{AreSomeOf, none}
use Rattle.dt_service_laws.specs.Wholes.{listed, messages_from, messages_in, piece_at}
use Rattle.dt_service_laws.proofs.Orders.{keep, skip}

-- what a reader has begun is nothing, or what those octets that were sent have begun too. Where some were left out, the next octet that is read has a run mark, and nothing is asked
abbrev pub IsSameOrNone : Option (List ℕ) → Option (List ℕ) → Type 0
IsSameOrNone r t = (r ≡ None) ⊎ (r ≡ t)

abbrev Follows : Bool → Option (List ℕ) → Option (List ℕ) → Type 0
Follows true r t = IsSameOrNone r t
Follows false r t = Unit {0}

sure : (joined : Bool) (r t : Option (List ℕ)) → joined ≡ true → Follows joined r t → IsSameOrNone r t
sure true r t e f = f
sure false r t e f = absurd cc

-- what is put together with one octet more
joins : (i : Item) (j : Bool) (r t : Option (List ℕ)) → (i.run ≡ false → j ≡ true) → Follows j r t → IsSameOrNone (joined r (piece_at i)) (joined t (piece_at (plain i)))
joins i j r t run f = by_begin i.begin i.run run
  where
    by_run : (u : Bool) → (u ≡ false → j ≡ true) → IsSameOrNone (cond u None (option_map (λ (before : List ℕ). before ++ (i.octet ∷ [])) r)) (option_map (λ (before : List ℕ). before ++ (i.octet ∷ [])) t)
    by_run true run = inl refl
    by_run false run = elim (sure j r t (run refl) f) [ inl e ↦ inl (ap (option_map (λ (before : List ℕ). before ++ (i.octet ∷ []))) e) | inr e ↦ inr (ap (option_map (λ (before : List ℕ). before ++ (i.octet ∷ []))) e) ]

    by_begin : (b u : Bool) → (u ≡ false → j ≡ true)
        → IsSameOrNone (cond b (Some (i.octet ∷ [])) (cond u None (option_map (λ (before : List ℕ). before ++ (i.octet ∷ [])) r))) (cond b (Some (i.octet ∷ [])) (option_map (λ (before : List ℕ). before ++ (i.octet ∷ [])) t))
    by_begin true u run = inr refl
    by_begin false u run = by_run u run

-- the end mark
ends : (e : Bool) (r t : Option (List ℕ)) (xs ys : List (List ℕ)) → IsSameOrNone r t → AreSomeOf xs ys → AreSomeOf (listed (cond e r None) ++ xs) (listed (cond e t None) ++ ys)
ends true r t xs ys (inl lost) h = subst (λ (o : Option (List ℕ)). AreSomeOf (listed o ++ xs) (listed t ++ ys)) (sym lost) (skip (listed t) h)
ends true r t xs ys (inr same) h = subst (λ (o : Option (List ℕ)). AreSomeOf (listed o ++ xs) (listed t ++ ys)) (sym same) (keep (listed t) h)
ends false r t xs ys same h = h

begins : (e : Bool) (r t : Option (List ℕ)) → IsSameOrNone r t → IsSameOrNone (cond e None r) (cond e None t)
begins true r t same = inl refl
begins false r t same = same

pub wholes_are_sent : {joined : Bool} {read taken : List Item} (r t : Option (List ℕ)) → IsReadOf joined read taken → Follows joined r t → AreSomeOf (messages_from r read) (messages_from t taken)
wholes_are_sent r t nothing f = none
wholes_are_sent r t (leaves {x} rest) f = skip (listed (whole_with t (piece_at x))) (wholes_are_sent r (begun_with t (piece_at x)) rest tt)
wholes_are_sent {joined} r t (reads {item} {x} {read} {taken} run same rest) f =
    subst (λ (y : Item). AreSomeOf (messages_from r (item ∷ read)) (messages_from t (y ∷ taken))) same
    (let j = joins item joined r t run f in
    ends item.end _ _ _ _ j (wholes_are_sent (begun_with r (piece_at item)) (begun_with t (piece_at (plain item))) rest (begins item.end _ _ j)))

pub in_order : (read taken : List Item) → IsReadOf false read taken → AreSomeOf (messages_in read) (messages_in taken)
in_order read taken h = wholes_are_sent None None h tt
