-- What small steps give is of a life that the receiver had in them. So where its life and what was read stay, the rows that are gone stay.
use Rattle.std.proofs.Common.{Bool, List, ℕ, [], ap, append-nil, append_assoc, arith, drop, false, inl, inr, length, length-append, length-drop, map, refl, subst, suc, sym, take, true, ◌++◌, ◌+◌, ◌-◌, ◌==◌, ◌∙◌, ◌∷◌, ◌≡◌, ◌≤◌}
use Rattle.std.proofs.lemmas.Bool.{cases_Bool}
use Rattle.std.proofs.lemmas.List.{drop-append-le, length-map, take-append-le}
use Rattle.dt_items.specs.declared.item.Item.{Item}
use Rattle.dt_units.specs.declared.parameters.Params.{Params}
use Rattle.dt_flow_model.specs.declared.rows.Given.{Given}
use Rattle.dt_flow_model.specs.Flow.{FlowState, Packet}
use Rattle.dt_flow_model.specs.Ledger.{given_in, given_item_of, given_rows, read_in}
use Rattle.dt_flow_model.specs.Steps.{Step, accepts, accepts_first, gives_up, is_acked, makes, meets, passes, reads, receiver_releases, receiver_restarts, releases, renews, resends, sender_restarts, sends, takes, tells_expected, tells_number}
use Rattle.dt_world_model.proofs.Tables.{nat_self}
use Rattle.dt_world_laws.specs.Lift.{IsLifted, Lifts, both, nothing, one}
use Rattle.dt_flow_laws.proofs.ReadKept.{ReadOf}

-- rows of lives from the one to the other
abbrev pub OfLives : ℕ → ℕ → List Given → Type 0
OfLives low high [] = Unit {0}
OfLives low high (row ∷ rows) = (low ≤ row.life) × (row.life ≤ high) × OfLives low high rows

wider : (low high low' high' : ℕ) (rows : List Given) → low' ≤ low → high ≤ high' → OfLives low high rows → OfLives low' high' rows
wider low high low' high' [] l h of = tt
wider low high low' high' (row ∷ rows) l h of = (omega (arith, of.0, l), omega (arith, of.1, h), wider low high low' high' rows l h of.2)

lives_append : (low high : ℕ) (xs ys : List Given) → OfLives low high xs → OfLives low high ys → OfLives low high (xs ++ ys)
lives_append low high [] ys h k = k
lives_append low high (row ∷ rows) ys h k = (h.0, h.1, lives_append low high rows ys h.2 k)

lives_rows : (life at : ℕ) (run : Bool) (place : ℕ) (items : List Item) → OfLives life life (given_rows life at run place items)
lives_rows life at run place [] = tt
lives_rows life at run place (item ∷ items) = (omega arith, omega arith, lives_rows life at false (suc place) items)

pub record Gives (s after : FlowState) : Type 0 where
  pub rise : s.receiver_life ≤ after.receiver_life
  pub more : List Given
  pub given : after.given ≡ s.given ++ more
  pub lives : OfLives s.receiver_life after.receiver_life more

gives_none : (s after : FlowState) → s.receiver_life ≤ after.receiver_life → after.given ≡ s.given → Gives s after
gives_none s after rise same = record { rise = rise; more = []; given = same ∙ sym (append-nil s.given); lives = tt }

gives_then : (s mid after : FlowState) → Gives s mid → Gives mid after → Gives s after
gives_then s mid after h k = record {
  rise = omega (arith, h.rise, k.rise);
  more = h.more ++ k.more;
  given = k.given ∙ ap (λ g. g ++ k.more) h.given ∙ append_assoc s.given h.more k.more;
  lives = lives_append s.receiver_life after.receiver_life h.more k.more (wider s.receiver_life mid.receiver_life s.receiver_life after.receiver_life h.more (omega arith) k.rise h.lives) (wider mid.receiver_life after.receiver_life s.receiver_life after.receiver_life k.more h.rise (omega arith) k.lives);
}

step_gives : (p : Params) (s after : FlowState) (ins made : List Packet) → Step p s ins made after → Gives s after
step_gives p s after ins made (passes t by) = gives_none t _ (omega arith) refl
step_gives p s after ins made (sender_restarts t a) = gives_none t _ (omega arith) refl
step_gives p s after ins made (receiver_restarts t) = gives_none t _ (omega arith) refl
step_gives p s after ins made (makes t edge a b d) = gives_none t _ (omega arith) refl
step_gives p s after ins made (takes t x items a b) = gives_none t _ (omega arith) refl
step_gives p s after ins made (gives_up t x g rest a b) = gives_none t _ (omega arith) refl
step_gives p s after ins made (releases t x a b d e) = gives_none t _ (omega arith) refl
step_gives p s after ins made (renews t x edge a b d e) = gives_none t _ (omega arith) refl
step_gives p s after ins made (resends t x pre post g a b d) = gives_none t _ (omega arith) refl
step_gives p s after ins made (sends t x cut rest a b d e g) = gives_none t _ (omega arith) refl
step_gives p s after ins made (meets t x a b d) = gives_none t _ (omega arith) refl
step_gives p s after ins made (is_acked t x q window gone rest edge a b d e g) = gives_none t _ (omega arith) refl
step_gives p s after ins made (accepts_first t q items due told a b d e g) =
    record { rise = omega arith; more = given_rows t.receiver_life t.now true q.place items; given = refl; lives = lives_rows t.receiver_life t.now true q.place items }
step_gives p s after ins made (accepts t y q drf run items due a b d e g k) =
    record { rise = omega arith; more = given_rows t.receiver_life t.now run q.place items; given = refl; lives = lives_rows t.receiver_life t.now run q.place items }
step_gives p s after ins made (tells_number t q y window a b d) = gives_none t _ (omega arith) refl
step_gives p s after ins made (tells_expected t y due told window a b) = gives_none t _ (omega arith) refl
step_gives p s after ins made (receiver_releases t y a b) = gives_none t _ (omega arith) refl
step_gives p s after ins made (reads t y piece rest a b) = gives_none t _ (omega arith) refl

lift_gives : (p : Params) (s after : FlowState) (ins made : List Packet) → Lifts p s ins made after → Gives s after
lift_gives p s after ins made (nothing {s = t}) = gives_none t t (omega arith) refl
lift_gives p s after ins made (one {s = t} {after = u} {ins = i} {made = m} fit step) = step_gives p t u i m step
lift_gives p s after ins made (both {s = t} {mid = v} {after = u} {ins = i} {made = m} {ins' = i'} {made' = m'} h k) = gives_then t v u (lift_gives p t v i m h) (lift_gives p v u i' m' k)

pub lifted_gives : (p : Params) (s after : FlowState) → IsLifted p s after → Gives s after
lifted_gives p s after h = lift_gives p s after h.ins h.made h.steps

-- THE ROWS THAT ARE GONE
abbrev pub count_gone : FlowState → ℕ
count_gone s = length s.given - length s.unread

abbrev pub gone_of : FlowState → List Given
gone_of s = take (count_gone s) s.given

in_append : (life : ℕ) (xs ys : List Given) → given_in life (xs ++ ys) ≡ given_in life xs ++ given_in life ys
in_append life [] ys = refl
in_append life (g ∷ gs) ys = elim (cases_Bool (g.life == life)) [ inl y ↦ rw (y, in_append life gs ys) | inr n ↦ rw (n, in_append life gs ys) ]

in_length : (life : ℕ) (rows : List Given) → length (given_in life rows) ≤ length rows
in_length life [] = omega arith
in_length life (g ∷ gs) = elim (cases_Bool (g.life == life)) [ inl y ↦ rw y (omega (arith, in_length life gs)) | inr n ↦ rw n (omega (arith, in_length life gs)) ]

same_life : (low high life : ℕ) → low ≤ life → life ≤ high → low ≡ high → (life == high) ≡ true
same_life low high life l h e = let is : life ≡ high = omega arith in rw is (nat_self high)

in_items : (low high : ℕ) (rows : List Given) → low ≡ high → OfLives low high rows → given_in high rows ≡ map given_item_of rows
in_items low high [] e of = refl
in_items low high (row ∷ rows) e of = rw (same_life low high row.life of.0 of.1 e) (ap (λ (is : List Item). given_item_of row ∷ is) (in_items low high rows e of.2))

pub unread_fits : (s : FlowState) → ReadOf s → length s.unread ≤ length s.given
unread_fits s h =
    let all = given_in s.receiver_life s.given in
    let n = read_in s.receiver_life s.reads in
    let len : length s.unread ≡ length all - n = ap (λ us. length us) h.unread_is ∙ length-drop n all in
    omega (arith, len, in_length s.receiver_life s.given)

-- what is given is unread where nothing was read
pub unread_grows : (s after : FlowState) (g : Gives s after) → ReadOf s → ReadOf after → after.receiver_life ≡ s.receiver_life → after.reads ≡ s.reads → after.unread ≡ s.unread ++ map given_item_of g.more
unread_grows s after g h k life same =
    let l = s.receiver_life in
    let n = read_in l s.reads in
    let all = given_in l s.given in
    let new = given_in l g.more in
    let is : after.unread ≡ drop n (all ++ new) =
    k.unread_is
    ∙ ap (λ (m : ℕ). drop (read_in m after.reads) (given_in m after.given)) life
    ∙ ap (λ rs. drop (read_in l rs) (given_in l after.given)) same
    ∙ ap (λ gs. drop n (given_in l gs)) g.given
    ∙ ap (λ us. drop n us) (in_append l s.given g.more) in
    let split : drop n (all ++ new) ≡ s.unread ++ new = drop-append-le n all new (h.within l) ∙ ap (λ us. us ++ new) (sym h.unread_is) in
    let whole : new ≡ map given_item_of g.more = subst (λ (m : ℕ). given_in m g.more ≡ map given_item_of g.more) life (in_items l after.receiver_life g.more (sym life) g.lives) in
    is ∙ split ∙ ap (λ us. s.unread ++ us) whole

pub gone_stays : (s after : FlowState) → Gives s after → ReadOf s → ReadOf after → after.receiver_life ≡ s.receiver_life → after.reads ≡ s.reads → gone_of after ≡ gone_of s
gone_stays s after g h k life same =
    let more = ap (λ us. length us) (unread_grows s after g h k life same) ∙ length-append s.unread (map given_item_of g.more) in
    let rows = length-map g.more given_item_of in
    let len : length after.given ≡ length s.given + length g.more = ap (λ gs. length gs) g.given ∙ length-append s.given g.more in
    let fits = unread_fits s h in
    let count : count_gone after ≡ count_gone s = omega (arith, more, rows, len, fits) in
    ap (λ (n : ℕ). take n after.given) count
    ∙ ap (λ gs. take (count_gone s) gs) g.given
    ∙ take-append-le (count_gone s) s.given g.more (omega arith)
