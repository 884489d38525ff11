-- The small steps keep what is unread, the run marks and the lives.
use Rattle.std.proofs.Common.{ℕ, suc, ◌+◌, ◌-◌, ◌<◌, ◌≤◌, ◌≡◌, ◌==◌, Bool, true, false, List, [], ◌∷◌, ◌++◌, length, Option, Some, None, refl, ap, sym, ◌∙◌, subst, inl, inr, arith, drop, length-append, length-drop, ◌≢◌}
use Rattle.std.proofs.lemmas.List.{drop-append-le, drop_at, drop-drop, drop_all}
use Rattle.std.proofs.lemmas.Bool.{cases_Bool}
use Rattle.std.proofs.lemmas.Bool.Decides.{nat_tests}
use Rattle.dt_flow_laws.proofs.Timed.{AllFitTime, Timed}
use Rattle.dt_flow_model.specs.Facts.{IsOfLife, Joined, NeverFall, ReadSide, ReceiveSide, last_of, life_from, lives_given}
use Rattle.dt_flow_model.specs.Flow.{FlowState, Packet}
use Rattle.dt_flow_model.specs.Ledger.{HasNoEntry, OneEntryEach, given_in, given_rows, note_read, read_in, top, top_from, unread_items}
use Rattle.dt_flow_model.specs.ReceiveRecord.{ReceiveRecord}
use Rattle.dt_flow_model.specs.Steps.{IsSameRecord, Step, accepts, accepts_first, gives_up, is_acked, makes, meets, passes, reads, receiver_releases, receiver_restarts, releases, renews, resends, sender_restarts, sends, takes, tells_expected, tells_number}
use Rattle.dt_flow_model.specs.declared.rows.Given.{Given}
use Rattle.dt_flow_model.specs.declared.rows.ReadCount.{ReadCount}
use Rattle.dt_items.specs.declared.item.Item.{Item}
use Rattle.dt_units.specs.declared.parameters.Params.{Params}
use Rattle.dt_flow_laws.proofs.Ledger.{fall_end, fall_more, fall_append}

nat_self : (n : ℕ) → (n == n) ≡ true
nat_self n = grind (arith, nat_tests)

nat_is : (m n : ℕ) → (m == n) ≡ true → m ≡ n
nat_is m n h = grind (arith, nat_tests)

nat_apart : (m n : ℕ) → m < n → (m == n) ≡ false
nat_apart m n h = grind (arith, nat_tests)

in_append : (life : ℕ) (xs ys : List Given) → given_in life (xs ++ ys) ≡ given_in life xs ++ given_in life ys
in_append life [] ys = refl
in_append life (g ∷ gs) ys = elim (cases_Bool (g.life == life)) [ inl y ↦ rw (y, in_append life gs ys) | inr n ↦ rw (n, in_append life gs ys) ]

in_given : (life at : ℕ) (mark : Bool) (place : ℕ) (items : List Item) → given_in life (given_rows life at mark place items) ≡ unread_items mark items
in_given life at mark place [] = refl
in_given life at mark place (item ∷ items) = rw (nat_self life, in_given life at false (suc place) items)

-- rows of later lives are none
in_later : (n m life : ℕ) (given : List Given) → m < life → NeverFall n m (lives_given given) → given_in life given ≡ []
in_later n m life [] lt h = refl
in_later n m life (g ∷ gs) lt h = let le = fall_end g.life m (lives_given gs) h.1 in rw (nat_apart g.life life (omega arith)) (in_later g.life m life gs lt h.1)

lives_append : (xs ys : List Given) → lives_given (xs ++ ys) ≡ lives_given xs ++ lives_given ys
lives_append [] ys = refl
lives_append (g ∷ gs) ys = ap (λ ls. g.life ∷ ls) (lives_append gs ys)

lives_rows : (n life at : ℕ) (mark : Bool) (place : ℕ) (items : List Item) → n ≤ life → NeverFall n life (lives_given (given_rows life at mark place items))
lives_rows n life at mark place [] h = h
lives_rows n life at mark place (item ∷ items) h = (h, lives_rows life life at false (suc place) items (omega arith))

life_append : (n : ℕ) (xs ys : List Given) → life_from n (xs ++ ys) ≡ life_from (life_from n xs) ys
life_append n [] ys = refl
life_append n (g ∷ gs) ys = life_append g.life gs ys

life_on : (life at : ℕ) (mark : Bool) (place : ℕ) (items : List Item) → life_from life (given_rows life at mark place items) ≡ life
life_on life at mark place [] = refl
life_on life at mark place (item ∷ items) = life_on life at false (suc place) items

life_rows : (n life at : ℕ) (mark : Bool) (place : ℕ) (items : List Item) → 0 < length items → life_from n (given_rows life at mark place items) ≡ life
life_rows n life at mark place [] h = absurd (omega arith)
life_rows n life at mark place (item ∷ items) h = life_on life at false (suc place) items

joined_append : (before : Option Given) (xs ys : List Given) → Joined before xs → Joined (last_of before xs) ys → Joined before (xs ++ ys)
joined_append before [] ys p q = q
joined_append before (g ∷ gs) ys p q = (p.0, joined_append (Some g) gs ys p.1 q)

joined_on : (life at place : ℕ) (g : Given) (items : List Item) → suc g.place ≡ place → g.life ≡ life → Joined (Some g) (given_rows life at false place items)
joined_on life at place g [] e k = tt
joined_on life at place g (item ∷ items) e k = ((λ h. (e, k)), joined_on life at (suc place) _ items refl refl)

joined_rows : (before : Option Given) (life at : ℕ) (mark : Bool) (place : ℕ) (items : List Item) → (mark ≡ false → (h : Given) × (before ≡ Some h) × (suc h.place ≡ place) × (h.life ≡ life)) → Joined before (given_rows life at mark place items)
joined_rows before life at mark place [] h = tt
joined_rows before life at mark place (item ∷ items) h = ((λ e. let q = h e in rw (q.1) (q.2, q.3)), joined_on life at (suc place) _ items refl refl)

last_found : (n l : ℕ) (g : Given) (gs : List Given) → (h : Given) × (last_of (Some g) gs ≡ Some h) × (suc h.place ≡ top_from (suc g.place) gs) × (h.life ≡ life_from g.life gs)
last_found n l g [] = (g, refl, refl, refl)
last_found n l g (g' ∷ gs) = last_found n l g' gs

last_there : (given : List Given) → 0 < top given → (h : Given) × (last_of None given ≡ Some h) × (suc h.place ≡ top given) × (h.life ≡ life_from 0 given)
last_there [] h = absurd (omega arith)
last_there (g ∷ gs) h = last_found 0 0 g gs

-- counts
counted_note : (life n : ℕ) (es : List ReadCount) → read_in life (note_read life n es) ≡ read_in life es + n
counted_note life n [] = rw (nat_self life) (omega arith)
counted_note life n (e ∷ es) = elim (cases_Bool (e.life == life)) [ inl y ↦ rw (y, nat_self life) | inr o ↦ rw (o, o) (counted_note life n es) ]

counted_other : (life l n : ℕ) (es : List ReadCount) → (life == l) ≡ false → read_in l (note_read life n es) ≡ read_in l es
counted_other life l n [] h = rw h
counted_other life l n (e ∷ es) h =
    elim (cases_Bool (e.life == life)) [
      | inl y ↦ let same : e.life ≡ life = nat_is e.life life y in let h' : (e.life == l) ≡ false = rw same h in rw (y, h, h')
      | inr o ↦ rw o (elim (cases_Bool (e.life == l)) [ inl y ↦ rw y | inr n' ↦ rw n' (counted_other life l n es h) ])
    ]

-- each life has one entry still
absent_note : (life l n : ℕ) (es : List ReadCount) → (life == l) ≡ false → HasNoEntry l es → HasNoEntry l (note_read life n es)
absent_note life l n [] other h = ((λ e. let t : (life == l) ≡ true = grind (arith, nat_tests) in cc), tt)
absent_note life l n (e ∷ es) other h = elim (cases_Bool (e.life == life)) [ inl y ↦ rw y (subst (λ (k : ℕ). k ≢ l) (nat_is e.life life y) h.0, h.1) | inr o ↦ rw o (h.0, absent_note life l n es other h.1) ]

noted_once : (life n : ℕ) (es : List ReadCount) → OneEntryEach es → OneEntryEach (note_read life n es)
noted_once life n [] h = (tt, tt)
noted_once life n (e ∷ es) h =
    elim (cases_Bool (e.life == life)) [
      | inl y ↦ let same : e.life ≡ life = nat_is e.life life y in rw y (subst (λ (k : ℕ). HasNoEntry k es) same h.0, h.1)
      | inr o ↦ let o' : (life == e.life) ≡ false = grind (arith, nat_tests) in rw o (absent_note life e.life n es o' h.0, noted_once life n es h.1)
    ]

-- an acceptance
accepted : (life at place : ℕ) (mark : Bool) (y y' : Option ReceiveRecord) (unread : List Item) (counts : List ReadCount) (given : List Given) (items : List Item) → 0 < length items
    → (mark ≡ false → (h : Given) × (last_of None given ≡ Some h) × (suc h.place ≡ place) × (h.life ≡ life)) → ReadSide life y unread counts given → IsOfLife life (given ++ given_rows life at mark place items) y'
    → ReadSide life y' (unread ++ unread_items mark items) counts (given ++ given_rows life at mark place items)
accepted life at place mark y y' unread counts given items some joins h of_life =
    let rows = given_rows life at mark place items in
    let more : given_in life (given ++ rows) ≡ given_in life given ++ unread_items mark items = rw (in_append life given rows, in_given life at mark place items) in
    record {
      unread_is = rw (more, drop-append-le (read_in life counts) (given_in life given) (unread_items mark items) (h.within life)) (ap (λ us. us ++ unread_items mark items) h.unread_is);
      within = λ l. omega (arith, h.within l, ap (λ us. length us) (in_append l given rows), length-append (given_in l given) (given_in l rows));
      one_entry = h.one_entry;
      lives = rw (lives_append given rows) (fall_append 0 life (lives_given given) (lives_given rows) h.lives (λ k le. lives_rows k life at mark place items le));
      joined = joined_append None given rows h.joined (joined_rows (last_of None given) life at mark place items joins);
      of_life = of_life;
    }

-- a piece is read
read : (life : ℕ) (y y' : Option ReceiveRecord) (unread piece rest : List Item) (counts : List ReadCount) (given : List Given) → unread ≡ piece ++ rest → IsOfLife life given y' → ReadSide life y unread counts given
    → ReadSide life y' rest (note_read life (length piece) counts) given
read life y y' unread piece rest counts given split of_life h =
    let n = read_in life counts in
    let rows = given_in life given in
    let len : length unread ≡ length rows - n = ap (λ us. length us) h.unread_is ∙ length-drop n rows in
    let len' : length unread ≡ length piece + length rest = ap (λ us. length us) split ∙ length-append piece rest in
    record {
      unread_is = rw (counted_note life (length piece) counts)
          (sym (drop_at piece rest (length piece) refl) ∙ ap (λ us. drop (length piece) us) (sym split ∙ h.unread_is) ∙ drop-drop (length piece) n rows);
      within = λ l. elim (cases_Bool (life == l)) [
        | inl e ↦ let same : life ≡ l = nat_is life l e in subst (λ k. read_in k (note_read life (length piece) counts) ≤ length (given_in k given)) same (omega (arith, counted_note life (length piece) counts, h.within life))
        | inr o ↦ rw (counted_other life l (length piece) counts o) (h.within l)
      ];
      one_entry = noted_once life (length piece) counts h.one_entry;
      lives = h.lives;
      joined = h.joined;
      of_life = of_life;
    }

same_life : (life : ℕ) (given : List Given) (y y' : Option ReceiveRecord) → IsSameRecord y y' → IsOfLife life given y → IsOfLife life given y'
same_life life given None None e h = tt
same_life life given None (Some y') e h = elim e [ ]
same_life life given (Some y) None e h = tt
same_life life given (Some y) (Some y') e h = h

-- the record goes, or a new life begins
gone : (life : ℕ) (y : Option ReceiveRecord) (unread : List Item) (counts : List ReadCount) (given : List Given) → ReadSide life y unread counts given → ReadSide life None unread counts given
gone life y unread counts given h = record { unread_is = h.unread_is; within = h.within; one_entry = h.one_entry; lives = h.lives; joined = h.joined; of_life = tt }

reborn : (life : ℕ) (y : Option ReceiveRecord) (unread : List Item) (counts : List ReadCount) (given : List Given) → ReadSide life y unread counts given → ReadSide (life + 1) None [] counts given
reborn life y unread counts given h = record {
  unread_is = rw (in_later 0 life (life + 1) given (omega arith) h.lives) (sym (drop_all (read_in (life + 1) counts) [] (omega arith)));
  within = h.within;
  one_entry = h.one_entry;
  lives = fall_more 0 life (life + 1) (lives_given given) (omega arith) h.lives;
  joined = h.joined;
  of_life = tt;
}

abbrev pub ReadOf : FlowState → Type 0
ReadOf s = ReadSide s.receiver_life s.receiver s.unread s.reads s.given

pub read_kept : (c : Params) (s after : FlowState) (ins made : List Packet) → Step c s ins made after → Timed c s → AllFitTime c s ins → ReadOf s → ReadOf after
read_kept c s after ins made (passes t d) f i h = h
read_kept c s after ins made (sender_restarts t a) f i h = h
read_kept c s after ins made (receiver_restarts t) f i h = reborn t.receiver_life t.receiver t.unread t.reads t.given h
read_kept c s after ins made (makes t edge a b d) f i h = h
read_kept c s after ins made (takes t x items a b) f i h = h
read_kept c s after ins made (gives_up t x g rest a b) f i h = h
read_kept c s after ins made (releases t x a b d e) f i h = h
read_kept c s after ins made (renews t x edge a b d e) f i h = h
read_kept c s after ins made (resends t x pre post g a b d) f i h = h
read_kept c s after ins made (sends t x cut rest a b d e g) f i h = h
read_kept c s after ins made (meets t x a b d) f i h = h
read_kept c s after ins made (is_acked t x p window gone rest edge a b d e g) f i h = h
read_kept c s after ins made (accepts_first t p items due told a b d e g) f i h =
    accepted t.receiver_life t.now p.place true t.receiver _ t.unread t.reads t.given items e (λ k. absurd cc) h
    (life_append 0 t.given (given_rows t.receiver_life t.now true p.place items) ∙ life_rows (life_from 0 t.given) t.receiver_life t.now true p.place items e)
read_kept c s after ins made (accepts t y p drf mark items due a b d e g k) f i h =
    let fy : ReceiveSide c t.now t.receiver_zero t.receiver_until t.sender_life t.run t.taken t.given (Some y) = rw a at f.receive_side in
    let l = last_there t.given fy.record_facts.accepted in
    let mine : life_from 0 t.given ≡ t.receiver_life = subst (λ z. IsOfLife t.receiver_life t.given z) a h.of_life in
    accepted t.receiver_life t.now p.place mark t.receiver _ t.unread t.reads t.given items e
    (λ off. elim k [ inl next ↦ (l.0, l.1, omega (arith, l.2, next.0), l.3 ∙ mine) | inr skip ↦ absurd (cc (skip.2)) ])
    h
    (life_append 0 t.given (given_rows t.receiver_life t.now mark p.place items) ∙ life_rows (life_from 0 t.given) t.receiver_life t.now mark p.place items e)
read_kept c s after ins made (tells_number t p y window a b d) f i h =
    record { unread_is = h.unread_is; within = h.within; one_entry = h.one_entry; lives = h.lives; joined = h.joined; of_life = same_life t.receiver_life t.given t.receiver y d h.of_life }
read_kept c s after ins made (tells_expected t y due told window a b) f i h =
    let mine : life_from 0 t.given ≡ t.receiver_life = subst (λ z. IsOfLife t.receiver_life t.given z) a h.of_life in
    record { unread_is = h.unread_is; within = h.within; one_entry = h.one_entry; lives = h.lives; joined = h.joined; of_life = mine }
read_kept c s after ins made (receiver_releases t y a b) f i h = gone t.receiver_life t.receiver t.unread t.reads t.given h
read_kept c s after ins made (reads t y piece rest a b) f i h = read t.receiver_life t.receiver y t.unread piece rest t.reads t.given a (same_life t.receiver_life t.given t.receiver y b h.of_life) h
