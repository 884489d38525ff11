-- How many of what happened are requests, and how many are ends of calls.
use Rattle.std.proofs.Common.{ℕ, ◌≡◌, ◌+◌, ◌-◌, ◌≤◌, Bool, true, false, List, [], ◌∷◌, ◌++◌, Option, Some, None, cond, length, length-append, refl, ap, ◌∙◌, inl, inr, arith}
use Rattle.std.specs.Prelude.{count_by, filter_map}
use Rattle.std.specs.List.{cons_option, list_any}
use Rattle.std.proofs.lemmas.Bool.{cases_Bool}
use Rattle.std.proofs.lemmas.List.Sums.{sum_by-append, sum_by-cons}
use Rattle.dt_units.specs.declared.endpoints.Flow.{Flow}
use Rattle.dt_service_model.specs.declared.calls.OpenCall.{OpenCall}
use Rattle.dt_service_model.specs.declared.calls.Cause.{Cause}
use Rattle.dt_service_model.specs.declared.happenings.Happening.{Happening}
use Rattle.dt_service_model.specs.declared.happenings.Happening.TheVariants.{Answered, ReplyUncertain, Request, Unsure}
use Rattle.dt_service_model.specs.CallBook.{is_end, is_request}
use Rattle.dt_service_model.specs.Ends.{cause_of, unsure_by, unsure_of}
use Rattle.dt_service_model.specs.Hearing.{is_uncertain}

count_cons : {A : Type 0} (test : A → Bool) (x : A) (xs : List A) → count_by test (x ∷ xs) ≡ cond (test x) 1 0 + count_by test xs
count_cons test x xs = sum_by-cons (λ y. cond (test y) 1 0) x xs

-- what happened is one of the two at most, and what is uncertain is neither
either_at_most : (h : Happening) → cond (is_request h) 1 0 + cond (is_end h) 1 0 ≤ 1
either_at_most (Request token payload) = omega arith
either_at_most (Answered call answer) = omega arith
either_at_most (Unsure call cause) = omega arith
either_at_most (ReplyUncertain flow) = omega arith

pub told_within : (hs : List Happening) → count_by is_request hs + count_by is_end hs ≤ length hs
told_within [] = omega arith
told_within (h ∷ hs) = omega (arith, told_within hs, either_at_most h, count_cons is_request h hs, count_cons is_end h hs)

neither : (f : Flow) (h : Happening) → is_uncertain f h ≡ true → cond (is_request h) 1 0 + cond (is_end h) 1 0 ≡ 0
neither f (Request token payload) u = cc
neither f (Answered call answer) u = cc
neither f (Unsure call cause) u = cc
neither f (ReplyUncertain flow) u = refl

any_cons : (f : Flow) (h : Happening) (hs : List Happening) → is_uncertain f h ≡ false → list_any (is_uncertain f) (h ∷ hs) ≡ list_any (is_uncertain f) hs
any_cons f h hs n = rw n refl

-- where all are requests and ends, none is uncertain
pub none_uncertain : (f : Flow) (hs : List Happening) → length hs ≤ count_by is_request hs + count_by is_end hs → list_any (is_uncertain f) hs ≡ false
none_uncertain f [] le = refl
none_uncertain f (h ∷ hs) le = elim (cases_Bool (is_uncertain f h)) [
  | inl y ↦ absurd (omega (arith, le, told_within hs, neither f h y, count_cons is_request h hs, count_cons is_end h hs))
  | inr n ↦ any_cons f h hs n ∙ none_uncertain f hs (omega (arith, le, either_at_most h, count_cons is_request h hs, count_cons is_end h hs))
]

-- CALLS THAT ARE UNSURE have their ends, and aren't requests
ends_unsure : (now : ℕ) (calls : List OpenCall) → count_by is_end (filter_map (unsure_of now) calls) ≡ length (filter_map (unsure_of now) calls)
ends_unsure now [] = refl
ends_unsure now (call ∷ calls) = by (cause_of now call) (ends_unsure now calls)
  where
    by : (o : Option Cause) → count_by is_end (filter_map (unsure_of now) calls) ≡ length (filter_map (unsure_of now) calls)
        → count_by is_end (cons_option (unsure_by call o) (filter_map (unsure_of now) calls)) ≡ length (cons_option (unsure_by call o) (filter_map (unsure_of now) calls))
    by None r = r
    by (Some cause) r = omega (arith, r, count_cons is_end (Unsure call.number cause) (filter_map (unsure_of now) calls))

requests_unsure : (now : ℕ) (calls : List OpenCall) → count_by is_request (filter_map (unsure_of now) calls) ≡ 0
requests_unsure now [] = refl
requests_unsure now (call ∷ calls) = by (cause_of now call) (requests_unsure now calls)
  where
    by : (o : Option Cause) → count_by is_request (filter_map (unsure_of now) calls) ≡ 0 → count_by is_request (cons_option (unsure_by call o) (filter_map (unsure_of now) calls)) ≡ 0
    by None r = r
    by (Some cause) r = omega (arith, r, count_cons is_request (Unsure call.number cause) (filter_map (unsure_of now) calls))

module _ (now : ℕ) (calls : List OpenCall) (hs after : List Happening) (told : after ≡ hs ++ filter_map (unsure_of now) calls) where
  pub requests_judged : count_by is_request after ≡ count_by is_request hs
  requests_judged = ap (count_by is_request) told ∙ omega (arith, sum_by-append (λ h. cond (is_request h) 1 0) hs (filter_map (unsure_of now) calls), requests_unsure now calls)

  pub ends_judged : count_by is_end after ≡ count_by is_end hs + (length after - length hs)
  ends_judged =
      let more : length after ≡ length hs + length (filter_map (unsure_of now) calls) = ap (λ (l : List Happening). length l) told ∙ length-append hs (filter_map (unsure_of now) calls) in
      ap (count_by is_end) told ∙ omega (arith, more, sum_by-append (λ h. cond (is_end h) 1 0) hs (filter_map (unsure_of now) calls), ends_unsure now calls)
