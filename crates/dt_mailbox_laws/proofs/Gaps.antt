-- Between two messages without a gap nothing was left out.
use Rattle.std.proofs.Common.{◌≡◌, ◌∙◌, ℕ, Bool, true, false, List, [], ◌∷◌, ◌++◌, map, Option, Some, None, refl, sym, ap, subst}
use Rattle.std.specs.Prelude.{◌&&◌, ◌||◌, is_some, not, option_map}
use Rattle.std.specs.List.{All}
use Rattle.std.proofs.lemmas.List.Elements.{All-head, All-tail}
use Rattle.dt_items.specs.declared.item.Item.{Item}
use Rattle.dt_calls_model.specs.Messages.{Piece}
use Rattle.dt_flow_model.specs.Ledger.{plain}
use Rattle.dt_messages.specs.Joining.{JoinerValue, MessageValue, NoneWhole, has_gap, joiner_after, joiner_by, message_with, outgrows, whole_within}
use Rattle.dt_network.specs.Octets.{IsReadOf, leaves, nothing, reads}
use Rattle.dt_mailbox_laws.specs.Gaps.{FollowDirectly, NoneLost}

-- A MESSAGE WITHOUT A GAP: nothing before its last piece left one
none_of : (gap run out : Bool) → (gap || run || out) ≡ false → (gap ≡ false) × (run ≡ false) × (out ≡ false)
none_of false false false h = (refl, refl, refl)
none_of false false true h = absurd cc
none_of false true out h = absurd cc
none_of true run out h = absurd cc

last_by : (gap : Bool) (whole : Option (List ℕ)) (m : MessageValue) → option_map (λ octets. let w : MessageValue = record { octets = octets; gap = gap } in w) whole ≡ Some m → m.gap ≡ gap
last_by gap None m is = absurd cc
last_by gap (Some octets) m is = cc

unfinished_by : (gap g : Bool) (whole : Option (List ℕ)) → option_map (λ octets. let w : MessageValue = record { octets = octets; gap = g } in w) whole ≡ None → (gap && not (is_some whole)) ≡ false → gap ≡ false
unfinished_by false g whole none h = refl
unfinished_by true g None none h = absurd cc
unfinished_by true g (Some octets) none h = absurd cc

no_gap_before : (j : JoinerValue) (p : Piece) → message_with j p ≡ None → (joiner_after j p).gap ≡ false → has_gap j p ≡ false
no_gap_before j p none h = unfinished_by (has_gap j p) (has_gap j p) (whole_within j.longest j.begun p) none h

pub none_lost : (j : JoinerValue) (pieces : List Piece) (q : Piece) (next : MessageValue) → NoneWhole j pieces → message_with (joiner_by j pieces) q ≡ Some next → next.gap ≡ false → (j.gap ≡ false) × NoneLost j (pieces ++ q ∷ [])
none_lost j [] q next none is h =
    let parts = none_of j.gap q.run (outgrows j.longest j.begun q) (sym (last_by (has_gap j q) (whole_within j.longest j.begun q) next is) ∙ h) in
    (parts.0, (parts.1, parts.2, tt))
none_lost j (p ∷ pieces) q next none is h =
    let rest = none_lost (joiner_after j p) pieces q next none.1 is h in
    let parts = none_of j.gap p.run (outgrows j.longest j.begun p) (no_gap_before j p none.0 rest.0) in
    (parts.0, (parts.1, parts.2, rest.1))

-- OCTETS WITHOUT A RUN MARK follow the one that was read before them
abbrev IsBare : Item → Type 0
IsBare i = i.run ≡ false

never : {item : Item} {read taken : List Item} → IsBare item → IsReadOf false (item ∷ read) taken → ⊥
never bare (reads run same rest) = let joined : false ≡ true = run bare in cc
never bare (leaves rest) = never bare rest

heads : (a b : Item) (xs ys : List Item) → a ∷ xs ≡ b ∷ ys → a ≡ b
heads a b xs ys e = cc

tails : (a b : Item) (xs ys : List Item) → a ∷ xs ≡ b ∷ ys → xs ≡ ys
tails a b xs ys e = cc

moved : {taken : List Item} (read other : List Item) → read ≡ other → IsReadOf false read taken → IsReadOf false other taken
moved {taken} read other e h = subst (λ (r : List Item). IsReadOf false r taken) e h

since_follow : (since after read : List Item) {taken : List Item} → All IsBare since → read ≡ since ++ after → IsReadOf true read taken → (later : List Item) × (taken ≡ map plain since ++ later)
since_follow [] after read {taken} bare e h = (taken, refl)
since_follow (i ∷ since) after _ bare e nothing = absurd cc
since_follow (i ∷ since) after _ bare e (reads {item} {x} {read} {taken} run same rest) =
    let k = since_follow since after read (All-tail IsBare i since bare) (tails item i read (since ++ after) e) rest in
    let is : x ≡ plain i = sym same ∙ ap plain (heads item i read (since ++ after) e) in
    (k.0, ap (λ (y : Item). y ∷ taken) is ∙ ap (λ (ys : List Item). plain i ∷ ys) k.1)
since_follow (i ∷ since) after read bare e (leaves rest) = absurd (never (All-head IsBare i since bare) (moved read (i ∷ (since ++ after)) e rest))

one_more : {last : Item} {since taken : List Item} (x : Item) → FollowDirectly last since taken → FollowDirectly last since (x ∷ taken)
one_more x f = record { earlier = x ∷ f.earlier; later = f.later; split = ap (λ (ys : List Item). x ∷ ys) f.split }

follows_in : (before : List Item) (last : Item) (since after read : List Item) {joined : Bool} {taken : List Item} → All IsBare since → read ≡ before ++ last ∷ (since ++ after) → IsReadOf joined read taken → FollowDirectly last since taken
follows_in [] last since after _ bare e nothing = absurd cc
follows_in (b ∷ before) last since after _ bare e nothing = absurd cc
follows_in [] last since after _ bare e (reads {item} {x} {read} {taken} run same rest) =
    let k = since_follow since after read bare (tails item last read (since ++ after) e) rest in
    let is : x ≡ plain last = sym same ∙ ap plain (heads item last read (since ++ after) e) in
    record { earlier = []; later = k.0; split = ap (λ (y : Item). y ∷ taken) is ∙ ap (λ (ys : List Item). plain last ∷ ys) k.1 }
follows_in (b ∷ before) last since after _ bare e (reads {item} {x} {read} run same rest) = one_more x (follows_in before last since after read bare (tails item b read (before ++ last ∷ (since ++ after)) e) rest)
follows_in [] last since after read bare e (leaves {x} rest) = one_more x (follows_in [] last since after read bare e rest)
follows_in (b ∷ before) last since after read bare e (leaves {x} rest) = one_more x (follows_in (b ∷ before) last since after read bare e rest)

pub follow_directly : (before : List Item) (last : Item) (since after : List Item) {joined : Bool} {taken : List Item} → All (λ (i : Item). i.run ≡ false) since → IsReadOf joined (before ++ last ∷ (since ++ after)) taken → FollowDirectly last since taken
follow_directly before last since after bare h = follows_in before last since after (before ++ last ∷ (since ++ after)) bare refl h
