-- What a turn does to the account of a number: nothing.
use Rattle.std.proofs.Common.{ℕ, ◌+◌, ◌-◌, ◌≡◌, Bool, true, false, List, [], ◌∷◌, ◌++◌, map, filter, refl, ap, ◌∙◌, arith}
use Rattle.std.specs.Prelude.{◌&&◌, ◌||◌, cond, is_some, nat_le, nat_lt, Option, Some, None}
use Rattle.std.specs.List.{cons_option, filter_map, list_any}
use Rattle.dt_units.specs.declared.endpoints.Flow.{Flow}
use Rattle.dt_world_model.specs.Host.{one_if}
use Rattle.dt_world_model.specs.Tables.{same_flow}
use Rattle.dt_calls_model.specs.Messages.{reversed}
use Rattle.dt_service_model.specs.declared.calls.OpenCall.{OpenCall}
use Rattle.dt_service_model.specs.declared.calls.Cause.{Cause}
use Rattle.dt_service_model.specs.declared.calls.Cause.TheVariants as cause
use Rattle.dt_service_model.specs.declared.happenings.Happening.{Happening}
use Rattle.dt_service_model.specs.declared.happenings.Happening.TheVariants.{ReplyUncertain}
use Rattle.dt_service_model.specs.declared.names.CallNumber.{CallNumber}
use Rattle.dt_service_model.specs.Names.{same_number}
use Rattle.dt_service_model.specs.CallBook.{CallBook, is_service, kind_in}
use Rattle.dt_service_model.specs.Hearing.{Accepts, GivesUp, Heard, NoMatter, Settles, hear_as, is_uncertain, with_fate, with_fates, with_flow}
use Rattle.dt_service_model.specs.Ends.{cause_of, is_kept, judge, judged_as, judged_call, unsure_by, unsure_of}
use Rattle.dt_service_model.specs.Accounts.{account, ends_in, has_cause, waits_in, waits_with}

pub ends_append : (n : CallNumber) (xs ys : List Happening) → ends_in n (xs ++ ys) ≡ ends_in n xs + ends_in n ys
ends_append n [] ys = omega arith
ends_append n (x ∷ xs) ys = let e = ends_append n xs ys in omega (arith, e)

-- WHAT IS HEARD changes no call's waiting
fates_if : (n : CallNumber) (b : Bool) (one other : List OpenCall) (k : ℕ) → waits_in n one ≡ k → waits_in n other ≡ k → waits_in n (cond b one other) ≡ k
fates_if n true one other k h g = h
fates_if n false one other k h g = g

fates_wait : (n : CallNumber) (given_up : Bool) (f : Flow) (count : ℕ) (calls : List OpenCall) → waits_in n (with_fates given_up f count calls) ≡ waits_in n calls
fates_wait n given_up f count [] = refl
fates_wait n given_up f count (call ∷ calls) =
    fates_if n (same_flow call.flow f) (with_fate given_up count call ∷ with_fates given_up f (count - call.left) calls) (call ∷ with_fates given_up f count calls) (waits_in n (call ∷ calls))
    (ap (λ (k : ℕ). one_if (waits_with n call) + k) (fates_wait n given_up f (count - call.left) calls))
    (ap (λ (k : ℕ). one_if (waits_with n call) + k) (fates_wait n given_up f count calls))

-- A CALL IS JUDGED: it waits on, or its end is reported
kept_if : (n : CallNumber) (call : OpenCall) (w l : Bool) (calls : List OpenCall) (k : ℕ) → waits_in n calls ≡ k
    → waits_in n (cond (w || l) (record call { waits = w } ∷ calls) calls) ≡ one_if (w && same_number call.number n) + k
kept_if n call true l calls k e = ap (λ (m : ℕ). one_if (same_number call.number n) + m) e
kept_if n call false true calls k e = ap (λ (m : ℕ). 0 + m) e
kept_if n call false false calls k e = omega (arith, e)

kept_waits : (n : CallNumber) (calls : List OpenCall) → waits_in n (filter is_kept calls) ≡ waits_in n calls
kept_waits n [] = refl
kept_waits n (call ∷ calls) = kept_if n call call.waits (nat_lt 0 call.left) (filter is_kept calls) (waits_in n calls) (kept_waits n calls)

-- what is reported of one call, by whether it waits and its cause
counted_as : (same w : Bool) → Option Cause → ℕ
counted_as same w None = one_if (w && same)
counted_as same w (Some cause) = one_if same

counted_when : (same w d l : Bool) → counted_as same w (cond (w && d) (Some cause.GivenUp) (cond (w && l) (Some cause.Patience) None)) ≡ one_if (w && same)
unfolding counted_as
counted_when same true true l = refl
counted_when same true false true = refl
counted_when same true false false = refl
counted_when same false d l = refl

judged_with : (n : CallNumber) (call : OpenCall) (o : Option Cause) (calls : List OpenCall) (told : List Happening) (rest : ℕ) → waits_in n calls + ends_in n told ≡ rest
    → waits_in n (judged_as call o ∷ calls) + ends_in n (cons_option (unsure_by call o) told) ≡ counted_as (same_number call.number n) call.waits o + rest
unfolding counted_as
judged_with n call None calls told rest e = omega (arith, e)
judged_with n call (Some c) calls told rest e = omega (arith, e)

judged_account : (n : CallNumber) (now : ℕ) (calls : List OpenCall) → waits_in n (map (judged_call now) calls) + ends_in n (filter_map (unsure_of now) calls) ≡ waits_in n calls
judged_account n now [] = refl
judged_account n now (call ∷ calls) =
    judged_with n call (cause_of now call) (map (judged_call now) calls) (filter_map (unsure_of now) calls) (waits_in n calls) (judged_account n now calls)
    ∙ ap (λ (k : ℕ). k + waits_in n calls) (counted_when (same_number call.number n) call.waits call.has_given_up (nat_le call.deadline now))

pub judge_keeps : (n : CallNumber) (now : ℕ) (h : CallBook) → account n (judge now h) ≡ account n h
judge_keeps n now h =
    let a = kept_waits n (map (judged_call now) h.calls) in
    let b = judged_account n now h.calls in
    let c = ends_append n h.happenings (filter_map (unsure_of now) h.calls) in
    omega (arith, a, b, c)

accepted : (n : CallNumber) (b : Bool) (f : Flow) (h : CallBook) → account n (cond b (record h { unread = with_flow f h.unread }) h) ≡ account n h
accepted n true f h = refl
accepted n false f h = refl

given_up_ends : (n : CallNumber) (b c : Bool) (f : Flow) (told : List Happening) → ends_in n (cond b (cond c told (told ++ ReplyUncertain f ∷ [])) told) ≡ ends_in n told
given_up_ends n true true f told = refl
given_up_ends n true false f told = let e = ends_append n told (ReplyUncertain f ∷ []) in omega (arith, e)
given_up_ends n false c f told = refl

pub hear_keeps : (n : CallNumber) (x : Heard) (h : CallBook) → account n (hear_as x h) ≡ account n h
hear_keeps n (Settles f count) h = ap (λ (k : ℕ). k + ends_in n h.happenings) (fates_wait n false f count h.calls)
hear_keeps n (GivesUp f count) h =
    let a = fates_wait n true f count h.calls in
    let b = given_up_ends n (is_service (kind_in f.from_port h.ports)) (list_any (is_uncertain (reversed f)) h.happenings) (reversed f) h.happenings in
    omega (arith, a, b)
hear_keeps n (Accepts f) h = accepted n (is_some (kind_in f.to_port h.ports)) f h
hear_keeps n NoMatter h = refl

-- WHAT WAITS AFTER IT has no cause
waits_as : Bool → Option Cause → Bool
waits_as w None = w
waits_as w (Some cause) = false

sure_when : (w d l : Bool) → let o = cond (w && d) (Some cause.GivenUp) (cond (w && l) (Some cause.Patience) None) in
    cond (waits_as w o && false) (Some cause.GivenUp) (cond (waits_as w o && l) (Some cause.Patience) None) ≡ None
unfolding waits_as
sure_when true true l = refl
sure_when true false true = refl
sure_when true false false = refl
sure_when false d l = refl

cause_as : (now : ℕ) (call : OpenCall) (o : Option Cause) → cause_of now (judged_as call o) ≡ cond (waits_as call.waits o && false) (Some cause.GivenUp) (cond (waits_as call.waits o && nat_le call.deadline now) (Some cause.Patience) None)
unfolding waits_as
cause_as now call None = refl
cause_as now call (Some c) = refl

sure_one : (now : ℕ) (call : OpenCall) → cause_of now (judged_call now call) ≡ None
sure_one now call = cause_as now call (cause_of now call) ∙ sure_when call.waits call.has_given_up (nat_le call.deadline now)

sure_if : (now : ℕ) (b : Bool) (call : OpenCall) (calls : List OpenCall) → cause_of now call ≡ None → list_any (has_cause now) calls ≡ false → list_any (has_cause now) (cond b (call ∷ calls) calls) ≡ false
sure_if now true call calls h e = ap (λ (o : Option Cause). is_some o || list_any (has_cause now) calls) h ∙ e
sure_if now false call calls h e = e

sure_all : (now : ℕ) (calls : List OpenCall) → list_any (has_cause now) (filter is_kept (map (judged_call now) calls)) ≡ false
sure_all now [] = refl
sure_all now (call ∷ calls) = sure_if now (is_kept (judged_call now call)) (judged_call now call) (filter is_kept (map (judged_call now) calls)) (sure_one now call) (sure_all now calls)

pub judge_leaves_none : (now : ℕ) (h : CallBook) → list_any (has_cause now) (judge now h).calls ≡ false
judge_leaves_none now h = sure_all now h.calls
