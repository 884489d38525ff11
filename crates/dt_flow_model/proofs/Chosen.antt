-- The act that a send record chooses is due, and a cut is of the octets that wait.
use Rattle.std.proofs.Common.{ℕ, zero, suc, ◌+◌, ◌<◌, ◌≤◌, ◌≡◌, ◌⊎◌, Bool, true, false, List, [], ◌∷◌, ◌++◌, length, Option, Some, None, refl, ap, sym, subst, inl, inr, arith}
use Rattle.std.specs.Prelude.{not, ◌&&◌, nat_lt, nat_le, if◌then◌else◌}
use Rattle.std.proofs.lemmas.List.{take-append-drop, length-take-le}
use Rattle.std.proofs.lemmas.Bool.{cases_Bool, and_parts}
use Rattle.std.proofs.lemmas.Bool.Decides.{nat_tests}
use Rattle.dt_flow_model.specs.SendActs.{Act, IsDue, act_if, act_of, better, can_send, could_meet, give_up, giving_up, is_late, may_send_from, meet, meeting, most_segments, or_else, release, release_or_renew, releasing, renew, resend, resending, send, sending}
use Rattle.dt_flow_model.specs.SendRecord.{Segment, SendRecord, cut_length, cut_of, cut_size, may_go, next_of, rest_of}
use Rattle.dt_flow_model.specs.Numbering.{up_to_crossing}
use Rattle.dt_items.specs.declared.item.Item.{Item}
use Rattle.dt_units.specs.Times.{send_time}
use Rattle.dt_units.specs.declared.parameters.Params.{Params}

pub le_true : (m n : ℕ) → nat_le m n ≡ true → m ≤ n
le_true m n h = grind (arith, nat_tests)

pub lt_true : (m n : ℕ) → nat_lt m n ≡ true → m < n
lt_true m n h = grind (arith, nat_tests)

pub true_le : (m n : ℕ) → m ≤ n → nat_le m n ≡ true
true_le m n h = grind (arith, nat_tests)

pub true_lt : (m n : ℕ) → m < n → nat_lt m n ≡ true
true_lt m n h = grind (arith, nat_tests)

pub both : (a b : Bool) → a ≡ true → b ≡ true → (a && b) ≡ true
both true true h k = refl
both true false h k = k
both false b h k = h

pub when_is : (b : Bool) (a d : Act) → act_if b a ≡ Some d → (b ≡ true) × (a ≡ d)
when_is true a d h = (refl, cc)
when_is false a d h = absurd cc

-- a cut is of the waiting items
pub cut_within : (most : ℕ) (first : Bool) (items : List Item) → cut_length most first items ≤ length items
cut_within zero first items = omega arith
cut_within (suc most) first [] = omega arith
cut_within (suc most) first (i ∷ is) = step (i.begin && not first) i.end (cut_within most false is)
  where
    step : (stop last : Bool) → cut_length most false is ≤ length is → (if stop then 0 else suc (if last then 0 else cut_length most false is)) ≤ suc (length is)
    step true last h = omega arith
    step false true h = omega arith
    step false false h = omega arith

pub cut_whole : (p : Params) (x : SendRecord) → x.waiting ≡ cut_of p x ++ rest_of p x
cut_whole p x = sym (take-append-drop (cut_size p x) x.waiting)

pub cut_count : (p : Params) (x : SendRecord) → length (cut_of p x) ≡ cut_size p x
cut_count p x = length-take-le (cut_size p x) x.waiting (cut_within (may_go p x) true x.waiting)

pub cut_at_most : (most : ℕ) (first : Bool) (items : List Item) → cut_length most first items ≤ most
cut_at_most zero first items = omega arith
cut_at_most (suc most) first [] = omega arith
cut_at_most (suc most) first (i ∷ is) = step (i.begin && not first) i.end (cut_at_most most false is)
  where
    step : (stop last : Bool) → cut_length most false is ≤ most → (if stop then 0 else suc (if last then 0 else cut_length most false is)) ≤ suc most
    step true last h = omega arith
    step false true h = omega arith
    step false false h = omega arith

-- a cut ends at or before the next crossing
pub cut_within_crossing : (p : Params) (x : SendRecord) → length (cut_of p x) ≤ up_to_crossing p (next_of x)
cut_within_crossing p x = omega (arith, cut_count p x, cut_at_most (may_go p x) true x.waiting)

-- what the first of two may do, either may do
pub either : (a b : Option Act) (d : Act) → or_else a b ≡ Some d → (a ≡ Some d) ⊎ (b ≡ Some d)
either None b d h = inr h
either (Some a) b d h = inl h

-- an act of a list of segments
abbrev pub DueOf : Params → ℕ → List Segment → Act → Type 0
DueOf u now gs (give_up g rest) = ⊥
DueOf u now gs release = ⊥
DueOf u now gs renew = ⊥
DueOf u now gs (resend before g after) = (gs ≡ before ++ g ∷ after) × (g.last + u.rto ≤ now) × (now < g.first + u.r)
DueOf u now gs (send cut rest) = ⊥
DueOf u now gs meet = ⊥

first_here : (u : Params) (now : ℕ) (g : Segment) (gs : List Segment) (d : Act) → (g.last + u.rto ≤ now) × (now < g.first + u.r) → Some (resend [] g gs) ≡ Some d → DueOf u now (g ∷ gs) d
first_here u now g gs d lt e = let same : resend [] g gs ≡ d = cc in subst (λ k. DueOf u now (g ∷ gs) k) same (refl, lt.0, lt.1)

further : (u : Params) (now : ℕ) (g : Segment) (gs pre post : List Segment) (h : Segment) (d : Act) → DueOf u now gs (resend pre h post) → Some (resend (g ∷ pre) h post) ≡ Some d → DueOf u now (g ∷ gs) d
further u now g gs pre post h d may e = let same : resend (g ∷ pre) h post ≡ d = cc in subst (λ k. DueOf u now (g ∷ gs) k) same (ap (λ (xs : List Segment). g ∷ xs) may.0, may.1, may.2)

better_may : (u : Params) (now : ℕ) (g : Segment) (gs : List Segment) (o : Option Act) → ((d : Act) → o ≡ Some d → DueOf u now gs d) → (b : Bool) → (b ≡ true → (g.last + u.rto ≤ now) × (now < g.first + u.r)) → (d : Act) → better g gs b o ≡ Some d → DueOf u now (g ∷ gs) d
better_may u now g gs (Some (resend pre h post)) may true lt d e =
    elim (cases_Bool (nat_le g.last h.last)) [
      | inl y ↦ first_here u now g gs d (lt refl) (rw y at e)
      | inr o ↦ further u now g gs pre post h d (may (resend pre h post) refl) (rw o at e)
    ]
better_may u now g gs (Some (resend pre h post)) may false lt d e = further u now g gs pre post h d (may (resend pre h post) refl) e
better_may u now g gs None may true lt d e = first_here u now g gs d (lt refl) e
better_may u now g gs None may false lt d e = absurd cc
better_may u now g gs (Some (give_up a z)) may b lt d e = elim (may (give_up a z) refl) [ ]
better_may u now g gs (Some release) may b lt d e = elim (may release refl) [ ]
better_may u now g gs (Some renew) may b lt d e = elim (may renew refl) [ ]
better_may u now g gs (Some (send a z)) may b lt d e = elim (may (send a z) refl) [ ]
better_may u now g gs (Some meet) may b lt d e = elim (may meet refl) [ ]

late_is : (u : Params) (now : ℕ) (g : Segment) → is_late u now g ≡ true → (g.last + u.rto ≤ now) × (now < g.first + u.r)
late_is u now g e = let h = and_parts _ _ e in (le_true _ _ h.0, lt_true _ _ h.1)

pub resend_may : (u : Params) (now : ℕ) (gs : List Segment) (d : Act) → resending u now gs ≡ Some d → DueOf u now gs d
resend_may u now [] d h = absurd cc
resend_may u now (g ∷ gs) d h = better_may u now g gs (resending u now gs) (resend_may u now gs) (is_late u now g) (late_is u now g) d h

of_list : (u : Params) (now : ℕ) (x : SendRecord) (d : Act) → DueOf u now x.outstanding d → IsDue u now x d
of_list u now x (give_up g rest) h = elim h [ ]
of_list u now x release h = elim h [ ]
of_list u now x renew h = elim h [ ]
of_list u now x (resend pre g post) h = h
of_list u now x (send cut rest) h = elim h [ ]
of_list u now x meet h = elim h [ ]

gives_up_may : (u : Params) (now : ℕ) (x : SendRecord) (out : List Segment) → x.outstanding ≡ out → (d : Act) → giving_up u now out ≡ Some d → IsDue u now x d
gives_up_may u now x [] is d h = absurd cc
gives_up_may u now x (g ∷ gs) is d h = let w = when_is _ (give_up g gs) d h in subst (λ k. IsDue u now x k) w.1 (is, le_true _ _ w.0)

pub release_may : (u : Params) (now : ℕ) (x : SendRecord) (waiting : List Item) → x.waiting ≡ waiting → x.outstanding ≡ [] → x.touched + send_time u ≤ now → IsDue u now x (release_or_renew waiting)
release_may u now x [] is none le = (none, is, le)
release_may u now x (i ∷ is') is none le = (none, rw is (omega arith), le)

frees_may : (u : Params) (now : ℕ) (x : SendRecord) (out : List Segment) → x.outstanding ≡ out → (d : Act) → releasing u now x out ≡ Some d → IsDue u now x d
frees_may u now x (g ∷ gs) is d h = absurd cc
frees_may u now x [] is d h = let w = when_is _ (release_or_renew x.waiting) d h in subst (λ k. IsDue u now x k) w.1 (release_may u now x x.waiting refl is (le_true _ _ w.0))

sends_may : (u : Params) (now : ℕ) (x : SendRecord) (d : Act) → sending u now x ≡ Some d → IsDue u now x d
sends_may u now x d h =
    let w = when_is _ _ d h in
    let both : (can_send u x ≡ true) × (nat_le (may_send_from u x) now ≡ true) = and_parts _ _ w.0 in
    let parts : (nat_lt 0 (cut_size u x) ≡ true) × (nat_lt (length x.outstanding) most_segments ≡ true) = and_parts _ _ both.0 in
    subst (λ k. IsDue u now x k) w.1 (refl, refl, omega (arith, lt_true _ _ parts.0, cut_count u x), lt_true _ _ parts.1, le_true _ _ both.1)

could_is : (x : SendRecord) (out : List Segment) (waiting : List Item) → x.outstanding ≡ out → x.waiting ≡ waiting → could_meet x out waiting ≡ true → (x.outstanding ≡ []) × (0 < length x.waiting) × (x.edge ≤ next_of x)
could_is x [] [] is is' h = absurd cc
could_is x [] (i ∷ w) is is' h = (is, rw is' (omega arith), le_true _ _ h)
could_is x (g ∷ gs) w is is' h = absurd cc

meets_may : (u : Params) (now : ℕ) (x : SendRecord) (d : Act) → meeting u now x ≡ Some d → IsDue u now x d
meets_may u now x d h =
    let w = when_is _ meet d h in
    let parts = and_parts _ _ w.0 in
    let c = could_is x x.outstanding x.waiting refl refl parts.0 in
    subst (λ k. IsDue u now x k) w.1 (c.0, c.1, c.2, le_true _ _ parts.1)

pub act_is_due : (u : Params) (now : ℕ) (x : SendRecord) (d : Act) → act_of u now x ≡ Some d → IsDue u now x d
act_is_due u now x d h =
    elim (either (giving_up u now x.outstanding) _ d h) [
      | inl a ↦ gives_up_may u now x x.outstanding refl d a
      | inr h2 ↦
          elim (either (releasing u now x x.outstanding) _ d h2) [
            | inl a ↦ frees_may u now x x.outstanding refl d a
            | inr h3 ↦
                elim (either (resending u now x.outstanding) _ d h3) [
                  | inl a ↦ of_list u now x d (resend_may u now x.outstanding d a)
                  | inr h4 ↦ elim (either (sending u now x) (meeting u now x) d h4) [ inl a ↦ sends_may u now x d a | inr a ↦ meets_may u now x d a ]
                ]
          ]
    ]
