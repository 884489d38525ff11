-- A piece is its octets, one by one.
use Rattle.std.proofs.Common.{ℕ, ◌≡◌, Bool, true, false, List, [], ◌∷◌, ◌++◌, length, Option, Some, None, refl, ap, sym, subst, ◌∙◌, inl, inr, append_assoc, append-nil, arith}
use Rattle.std.specs.Prelude.{cond, option_map, nat_le}
use Rattle.dt_items.specs.declared.item.Item.{Item}
use Rattle.dt_items.specs.Unread.{marked}
use Rattle.dt_calls_model.specs.Messages.{Piece, begun_with, joined, whole_with}
use Rattle.dt_messages.specs.Joining.{begun_within, joined_within, whole_within, within}
use Rattle.dt_calls_laws.specs.Wholes.{AreSome, items_of_all}
use Rattle.dt_service_laws.specs.Orders.{AreSomeOf, none}
use Rattle.dt_service_laws.specs.Wholes.{begun_after, listed, messages_from, messages_in, piece_at}
use Rattle.dt_service_laws.proofs.Orders.{all_of}
use Rattle.dt_service_laws.proofs.Wholes.{IsSameOrNone}

pub messages_append : (b : Option (List ℕ)) (xs ys : List Item) → messages_from b (xs ++ ys) ≡ messages_from b xs ++ messages_from (begun_after b xs) ys
messages_append b [] ys = refl
messages_append b (x ∷ xs) ys =
    ap (λ (ms : List (List ℕ)). listed (whole_with b (piece_at x)) ++ ms) (messages_append (begun_with b (piece_at x)) xs ys)
    ∙ sym (append_assoc (listed (whole_with b (piece_at x))) (messages_from (begun_with b (piece_at x)) xs) (messages_from (begun_after b (x ∷ xs)) ys))

pub begun_append : (b : Option (List ℕ)) (xs ys : List Item) → begun_after b (xs ++ ys) ≡ begun_after (begun_after b xs) ys
begun_append b [] ys = refl
begun_append b (x ∷ xs) ys = begun_append (begun_with b (piece_at x)) xs ys

abbrev pub piece_with : Bool → Bool → Bool → List ℕ → Piece
piece_with begin end run octets = record { run = run; begin = begin; end = end; octets = octets }

-- what is put together with a first octet, and with more
joined_more : (begun : Option (List ℕ)) (o : ℕ) (more : List ℕ) (begin e f run : Bool)
    → option_map (λ (before : List ℕ). before ++ more) (joined begun (piece_with begin e run (o ∷ []))) ≡ joined begun (piece_with begin f run (o ∷ more))
joined_more begun o more true e f run = refl
joined_more begun o more false e f true = refl
joined_more None o more false e f false = refl
joined_more (Some octets) o more false e f false = ap Some (append_assoc octets (o ∷ []) more)

pub piece_begun : (begun : Option (List ℕ)) (o : ℕ) (more : List ℕ) (begin end run : Bool) → begun_after begun (marked (o ∷ more) begin end run) ≡ begun_with begun (piece_with begin end run (o ∷ more))
piece_begun begun o [] begin end run = refl
piece_begun begun o (next ∷ more) begin end run =
    piece_begun (joined begun (piece_with begin false run (o ∷ []))) next more false end false
    ∙ ap (λ (j : Option (List ℕ)). cond end None j) (joined_more begun o (next ∷ more) begin false end run)

pub piece_messages : (begun : Option (List ℕ)) (o : ℕ) (more : List ℕ) (begin end run : Bool) → messages_from begun (marked (o ∷ more) begin end run) ≡ listed (whole_with begun (piece_with begin end run (o ∷ more)))
piece_messages begun o [] begin end run = append-nil (listed (whole_with begun (piece_with begin end run (o ∷ []))))
piece_messages begun o (next ∷ more) begin end run =
    piece_messages (joined begun (piece_with begin false run (o ∷ []))) next more false end false
    ∙ ap (λ (j : Option (List ℕ)). listed (cond end j None)) (joined_more begun o (next ∷ more) begin false end run)

-- A READER that may lose what was begun, and that puts nothing together that is longer than a longest message, has the same begun or nothing
lost_or_same : (longest : Option ℕ) (o : Option (List ℕ)) → IsSameOrNone (within longest o) o
lost_or_same None o = inr refl
lost_or_same (Some most) None = inl refl
lost_or_same (Some most) (Some octets) = by_test (nat_le (length octets) most)
  where
    by_test : (b : Bool) → IsSameOrNone (cond b (Some octets) None) (Some octets)
    by_test true = inr refl
    by_test false = inl refl

same_through : (a b c : Option (List ℕ)) → IsSameOrNone a b → IsSameOrNone b c → IsSameOrNone a c
same_through a b c (inl e) k = inl e
same_through a b c (inr e) (inl f) = inl (e ∙ f)
same_through a b c (inr e) (inr f) = inr (e ∙ f)

joined_same : (r t : Option (List ℕ)) (p : Piece) → IsSameOrNone r t → IsSameOrNone (joined r p) (joined t p)
joined_same r t p (inr same) = inr (ap (λ (o : Option (List ℕ)). joined o p) same)
joined_same r t p (inl lost) = subst (λ (o : Option (List ℕ)). IsSameOrNone (joined o p) (joined t p)) (sym lost) (by_marks p.begin p.run)
  where
    by_marks : (b u : Bool) → IsSameOrNone (cond b (Some p.octets) (cond u None None)) (cond b (Some p.octets) (cond u None (option_map (λ (before : List ℕ). before ++ p.octets) t)))
    by_marks true u = inr refl
    by_marks false true = inl refl
    by_marks false false = inl refl

within_same : (longest : Option ℕ) (r t : Option (List ℕ)) (p : Piece) → IsSameOrNone r t → IsSameOrNone (joined_within longest r p) (joined t p)
within_same longest r t p same = same_through _ _ _ (lost_or_same longest (joined r p)) (joined_same r t p same)

begun_if : (e : Bool) (r t : Option (List ℕ)) → IsSameOrNone r t → IsSameOrNone (cond e None r) (cond e None t)
begun_if true r t same = inl refl
begun_if false r t same = same

listed_some : (r t : Option (List ℕ)) → IsSameOrNone r t → AreSomeOf (listed r) (listed t)
listed_some r t (inl lost) = subst (λ (o : Option (List ℕ)). AreSomeOf (listed o) (listed t)) (sym lost) none
listed_some r t (inr same) = subst (λ (o : Option (List ℕ)). AreSomeOf (listed o) (listed t)) (sym same) (all_of (listed t))

whole_if : (e : Bool) (r t : Option (List ℕ)) → IsSameOrNone r t → AreSomeOf (listed (cond e r None)) (listed (cond e t None))
whole_if true r t same = listed_some r t same
whole_if false r t same = none

pub begun_stays : (longest : Option ℕ) (r t : Option (List ℕ)) (p : Piece) → IsSameOrNone r t → IsSameOrNone (begun_within longest r p) (begun_with t p)
begun_stays longest r t p same = begun_if p.end _ _ (within_same longest r t p same)

pub whole_stays : (longest : Option ℕ) (r t : Option (List ℕ)) (p : Piece) → IsSameOrNone r t → AreSomeOf (listed (whole_within longest r p)) (listed (whole_with t p))
whole_stays longest r t p same = whole_if p.end _ _ (within_same longest r t p same)

-- MESSAGES SIDE BY SIDE are what they are
pub read_back : (ms : List (List ℕ)) → AreSome ms → messages_in (items_of_all ms) ≡ ms
read_back [] some = refl
read_back ([] ∷ ms) some = absurd (omega arith)
read_back ((o ∷ m) ∷ ms) some =
    messages_append None (marked (o ∷ m) true true false) (items_of_all ms)
    ∙ ap (λ (xs : List (List ℕ)). xs ++ messages_from (begun_after None (marked (o ∷ m) true true false)) (items_of_all ms)) (piece_messages None o m true true false)
    ∙ ap (λ (b : Option (List ℕ)). (o ∷ m) ∷ messages_from b (items_of_all ms)) (piece_begun None o m true true false)
    ∙ ap (λ (xs : List (List ℕ)). (o ∷ m) ∷ xs) (read_back ms some.1)
