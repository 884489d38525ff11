-- Where only numbers of calls that wait are kept, they are all of these.
use Rattle.std.proofs.Common.{ℕ, suc, ◌+◌, ◌≡◌, ◌<◌, ◌≤◌, Bool, true, false, if◌then◌else◌, List, [], ◌∷◌, ◌++◌, drop, get_or, length, set, take, refl, ap, sym, subst, ◌∙◌, inl, inr, arith, add-one, append-nil}
use Rattle.std.proofs.lemmas.List.{get_or_default}
use Rattle.dt_calls_model.specs.declared.calls.Call.{Call}
use Rattle.dt_calls_model.specs.Calls.{call_in, no_call}
use Rattle.dt_calls_model.specs.CallStep.{is_waiting}
use Rattle.dt_call_parts.specs.Waiting.{Covers, waiting_from}
use Rattle.dt_call_parts.proofs.JudgeWaiting.{none_from, take_set}

-- each of these numbers is that of a call that waits, of the calls from a number on
abbrev pub Wait : ℕ → List ℕ → List Call → Type 0
Wait n [] calls = Unit {0}
Wait n (k ∷ ks) calls = ((i : ℕ) → n + i ≡ k → is_waiting (call_in calls i).state ≡ true) × Wait n ks calls

wait_next : (n : ℕ) (ks : List ℕ) (call : Call) (calls : List Call) → Wait n ks (call ∷ calls) → Wait (suc n) ks calls
wait_next n [] call calls h = tt
wait_next n (k ∷ ks) call calls h = (λ i e. h.0 (suc i) (omega arith), wait_next n ks call calls h.1)

pub wait_push : (n : ℕ) (ks : List ℕ) (k : ℕ) (calls : List Call) → Wait n ks calls → ((i : ℕ) → n + i ≡ k → is_waiting (call_in calls i).state ≡ true) → Wait n (ks ++ k ∷ []) calls
wait_push n [] k calls h new = (new, tt)
wait_push n (x ∷ xs) k calls h new = (h.0, wait_push n xs k calls h.1 new)

pub number_waits : (calls : List Call) (xs : List ℕ) (kept number : ℕ) (d : Call) → kept < length xs → number < length calls → is_waiting (get_or calls number d).state ≡ true → Wait 0 (take kept xs) calls → Wait 0 (take (kept + 1) (set xs kept number)) calls
number_waits calls xs kept number d there found_there waits w =
    let found : get_or calls number d ≡ call_in calls number = get_or_default calls number d no_call found_there in
    let here : is_waiting (call_in calls number).state ≡ true = subst (λ (x : Call). is_waiting x.state ≡ true) found waits in
    let front : take (kept + 1) (set xs kept number) ≡ take kept xs ++ number ∷ [] = ap (λ (n : ℕ). take n (set xs kept number)) (add-one kept) ∙ take_set kept xs number there in
    subst (λ (r : List ℕ). Wait 0 r calls) (sym front) (wait_push 0 (take kept xs) number calls w (λ i e. let same : i ≡ number = omega arith in subst (λ (k : ℕ). is_waiting (call_in calls k).state ≡ true) (sym same) here))

left_out : (n : ℕ) (call : Call) (rest : List ℕ) → is_waiting call.state ≡ false → (if is_waiting call.state then n ∷ [] else []) ++ rest ≡ rest
left_out n call rest h = ap (λ (b : Bool). (if b then n ∷ [] else []) ++ rest) h

taken_in : (n : ℕ) (call : Call) (rest : List ℕ) → is_waiting call.state ≡ true → (if is_waiting call.state then n ∷ [] else []) ++ rest ≡ n ∷ rest
taken_in n call rest h = ap (λ (b : Bool). (if b then n ∷ [] else []) ++ rest) h

all_left : (n : ℕ) (ks : List ℕ) (calls : List Call) → Covers n ks calls → Wait n ks calls → ks ≡ waiting_from n calls
all_left n [] [] h w = refl
all_left n (k ∷ ks) [] h w = absurd h
all_left n [] (x ∷ xs) h w = all_left (suc n) [] xs h.1 tt ∙ sym (left_out n x (waiting_from (suc n) xs) h.0)
all_left n (k ∷ ks) (x ∷ xs) (inl h) w =
    let waits : is_waiting x.state ≡ true = w.0 0 (let e = sym h.0 in omega arith) in
    let rest : ks ≡ waiting_from (suc n) xs = all_left (suc n) ks xs h.1 (wait_next n ks x xs w.1) in
    ap (λ (m : ℕ). m ∷ ks) h.0 ∙ ap (λ (r : List ℕ). n ∷ r) rest ∙ sym (taken_in n x (waiting_from (suc n) xs) waits)
all_left n (k ∷ ks) (x ∷ xs) (inr h) w = all_left (suc n) (k ∷ ks) xs h.1 (wait_next n (k ∷ ks) x xs w) ∙ sym (left_out n x (waiting_from (suc n) xs) h.0)

pub all_kept : (xs : List ℕ) (kept place : ℕ) (calls : List Call) → length xs ≤ place → Covers 0 (take kept xs ++ drop place xs) calls → Wait 0 (take kept xs) calls → take kept xs ≡ waiting_from 0 calls
all_kept xs kept place calls past h w =
    let none : take kept xs ++ drop place xs ≡ take kept xs = ap (λ (r : List ℕ). take kept xs ++ r) (none_from xs place past) ∙ append-nil (take kept xs) in
    all_left 0 (take kept xs) calls (subst (λ (r : List ℕ). Covers 0 r calls) none h) w
