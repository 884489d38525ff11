-- A call adds one to the account of its number where it is made, and nothing else does.
use Rattle.std.proofs.Common.{ℕ, ◌+◌, ◌≡◌, Bool, true, false, List, [], ◌∷◌, ◌++◌, length, refl, ap, ◌∙◌, arith}
use Rattle.std.specs.Prelude.{cond, fold, is_some, Option, Some, None}
use Rattle.dt_units.specs.declared.endpoints.Flow.{Flow}
use Rattle.dt_reports.specs.declared.faults.Refusal.{Refusal}
use Rattle.dt_reports.specs.declared.faults.Refusal.TheVariants as refusal
use Rattle.dt_reports.specs.Told.{Told}
use Rattle.dt_world_model.specs.Host.{one_if}
use Rattle.dt_world_model.specs.WorldStep.{first_refusal}
use Rattle.dt_calls_model.specs.Messages.{message_of}
use Rattle.dt_endpoint.specs.Calls.{send_answer}
use Rattle.dt_endpoint.specs.Endpoints.{after_event, moment_of}
use Rattle.dt_service_model.specs.declared.answers.Made.{Made}
use Rattle.dt_service_model.specs.declared.calls.OpenCall.{OpenCall}
use Rattle.dt_service_model.specs.declared.names.CallNumber.{CallNumber}
use Rattle.dt_service_model.specs.Names.{to_u64, same_number}
use Rattle.dt_service_model.specs.CallBook.{CallBook, kind_in}
use Rattle.dt_service_model.specs.Hearing.{Accepts, GivesUp, Heard, NoMatter, Settles, hear, hear_as, heard, with_flow}
use Rattle.dt_service_model.specs.Accounts.{account, made_in, waits_in}
use Rattle.dt_service_model.specs.Turns.{Node, happens, with_book}
use Rattle.dt_service_model.specs.Asked.{call, call_refusals, made_by, made_of, message_event, new_call, next_number, unless, with_call_unless}
use Rattle.dt_service_model.proofs.Turning.{end_keeps, happens_keeps}

waits_append : (n : CallNumber) (xs ys : List OpenCall) → waits_in n (xs ++ ys) ≡ waits_in n xs + waits_in n ys
waits_append n [] ys = omega arith
waits_append n (x ∷ xs) ys = let e = waits_append n xs ys in omega (arith, e)

-- what is heard changes no number
number_if : (b : Bool) (f : Flow) (h : CallBook) → next_number (cond b (record h { unread = with_flow f h.unread }) h) ≡ next_number h
number_if true f h = refl
number_if false f h = refl

number_heard : (x : Heard) (h : CallBook) → next_number (hear_as x h) ≡ next_number h
number_heard (Settles f count) h = refl
number_heard (GivesUp f count) h = refl
number_heard (Accepts f) h = number_if (is_some (kind_in f.to_port h.ports)) f h
number_heard NoMatter h = refl

pub numbers_heard : (told : List Told) (h : CallBook) → next_number (fold hear h told) ≡ next_number h
numbers_heard [] h = refl
numbers_heard (t ∷ told) h = numbers_heard told (hear h t) ∙ number_heard (heard t) h

-- the call is kept where its request was taken
pub added : (n : CallNumber) (o : Option Refusal) (f : Flow) (count deadline : ℕ) (g h : CallBook) → next_number g ≡ next_number h → account n (with_call_unless o f count deadline g) ≡ account n g + made_in n (made_of o h)
added n None f count deadline g h e =
    let a = waits_append n g.calls (new_call f count deadline g ∷ []) in
    let b = ap (λ (m : CallNumber). one_if (same_number m n)) e in
    omega (arith, a, b)
added n (Some (refusal.Quiet until)) f count deadline g h e = omega arith
added n (Some (refusal.Full free)) f count deadline g h e = omega arith

made_keeps : (n : CallNumber) (now : ℕ) (f : Flow) (message : List ℕ) (patience : ℕ) (x : Node) → account n (made_by now f message patience x).1.book ≡ account n x.book + made_in n (made_by now f message patience x).0
made_keeps n now f message patience x =
    let o = send_answer now f message true true x.endpoint in
    let y = happens now (message_event f message) x in
    let deadline = moment_of now x.endpoint + patience in
    let a = end_keeps n now (with_book (with_call_unless o f (length message) deadline) y) in
    let b = added n o f (length message) deadline y.book x.book (numbers_heard (after_event now (message_event f message) x.endpoint).reports x.book) in
    let c = happens_keeps n now (message_event f message) x in
    a ∙ b ∙ ap (λ (k : ℕ). k + made_in n (made_of o x.book)) c

-- a refusal makes none
refusals_make : (n : CallNumber) → Option Made → ℕ
refusals_make n None = 0
refusals_make n (Some m) = made_in n m

first_if : (n : CallNumber) (b : Bool) (m : Made) (o : Option Made) → made_in n m ≡ 0 → refusals_make n o ≡ 0 → refusals_make n (cond b (Some m) o) ≡ 0
unfolding refusals_make
first_if n true m o h e = h
first_if n false m o h e = e

none_made : (n : CallNumber) → refusals_make n None ≡ 0
unfolding refusals_make
none_made n = refl

abbrev NoneMade : CallNumber → List (Bool × Made) → Type 0
NoneMade n [] = Unit {0}
NoneMade n (test ∷ tests) = (made_in n test.1 ≡ 0) × NoneMade n tests

first_makes_none : (n : CallNumber) (tests : List (Bool × Made)) → NoneMade n tests → refusals_make n (first_refusal tests) ≡ 0
first_makes_none n [] h = none_made n
first_makes_none n (test ∷ tests) h = first_if n test.0 test.1 (first_refusal tests) h.0 (first_makes_none n tests h.1)

call_if : (n : CallNumber) (o : Option Made) (x : Node) (done : Made × Node) → refusals_make n o ≡ 0 → account n done.1.book ≡ account n x.book + made_in n done.0
    → account n (unless o x done).1.book ≡ account n x.book + made_in n (unless o x done).0
unfolding refusals_make
call_if n None x done h e = e
call_if n (Some m) x done h e = omega (arith, h)

pub call_keeps : (n : CallNumber) (now : ℕ) (f : Flow) (payload : List ℕ) (patience : ℕ) (x : Node) → account n (call now f payload patience x).1.book ≡ account n x.book + made_in n (call now f payload patience x).0
call_keeps n now f payload patience x =
    call_if n (first_refusal (call_refusals x f payload patience)) x (made_by now f (message_of (to_u64 (next_number x.book)) payload) patience x)
    (first_makes_none n (call_refusals x f payload patience) (refl, (refl, (refl, (refl, (refl, (refl, (refl, (refl, tt)))))))))
    (made_keeps n now f (message_of (to_u64 (next_number x.book)) payload) patience x)
