-- What keeps the numbers of the calls that wait.
use Rattle.std.proofs.Common.{ℕ, zero, suc, ◌+◌, ◌≡◌, ◌<◌, Bool, true, false, if◌then◌else◌, List, [], ◌∷◌, ◌++◌, length, set, Option, Some, None, refl, sym, subst, ◌∙◌, inl, inr, arith}
use Rattle.std.specs.Prelude.{◌&&◌}
use Rattle.dt_units.specs.declared.endpoints.Flow.{Flow}
use Rattle.dt_calls_model.specs.declared.calls.Call.{Call}
use Rattle.dt_calls_model.specs.declared.calls.CallState.{CallState}
use Rattle.dt_calls_model.specs.declared.calls.CallState.TheVariants as state
use Rattle.dt_calls_model.specs.Calls.{Client, Server, Side, call_at, call_in, is_call}
use Rattle.dt_calls_model.specs.CallStep.{is_waiting}
use Rattle.dt_calls_model.specs.Messages.{carried_in, has_number, number_in}
use Rattle.dt_calls_model.specs.Reads.{Course, answered_if, take_message, take_whole}
use Rattle.dt_call_parts.specs.Waiting.{Covers}

-- A CALL CHANGES, and waits only if it did
abbrev WaitsOnlyIf : Call → Call → Type 0
WaitsOnlyIf new old = is_waiting new.state ≡ true → is_waiting old.state ≡ true

still_not : (new old : Call) → WaitsOnlyIf new old → is_waiting old.state ≡ false → is_waiting new.state ≡ false
still_not new old only not = by_new (is_waiting new.state) refl
  where
    by_new : (b : Bool) → is_waiting new.state ≡ b → is_waiting new.state ≡ false
    by_new true e = absurd (let yes : is_waiting old.state ≡ true = only e in let wrong : true ≡ false = sym yes ∙ not in cc)
    by_new false e = e

pub covers_set : (n : ℕ) (ks : List ℕ) (calls : List Call) (i : ℕ) (new : Call) → (is_waiting new.state ≡ true → is_waiting (call_in calls i).state ≡ true) → Covers n ks calls → Covers n ks (set calls i new)
covers_set n [] [] i new only h = h
covers_set n (k ∷ ks) [] i new only h = absurd h
covers_set n [] (x ∷ xs) zero new only h = (still_not new x only h.0, h.1)
covers_set n [] (x ∷ xs) (suc i) new only h = (h.0, covers_set (suc n) [] xs i new only h.1)
covers_set n (k ∷ ks) (x ∷ xs) zero new only (inl h) = inl (h.0, h.1)
covers_set n (k ∷ ks) (x ∷ xs) zero new only (inr h) = inr (still_not new x only h.0, h.1)
covers_set n (k ∷ ks) (x ∷ xs) (suc i) new only (inl h) = inl (h.0, covers_set (suc n) ks xs i new only h.1)
covers_set n (k ∷ ks) (x ∷ xs) (suc i) new only (inr h) = inr (h.0, covers_set (suc n) (k ∷ ks) xs i new only h.1)

-- A CALL IS ADDED with its number
number : (m : ℕ) (cs : List Call) → suc m + length cs ≡ m + suc (length cs)
number m cs = omega arith

covers_push : (n : ℕ) (ks : List ℕ) (calls : List Call) (call : Call) → Covers n ks calls → Covers n (ks ++ (n + length calls) ∷ []) (calls ++ call ∷ [])
covers_push n [] [] call h = inl (let e : n + 0 ≡ n = omega arith in e, tt)
covers_push n (k ∷ ks) [] call h = absurd h
covers_push n [] (x ∷ xs) call h = inr (h.0, subst (λ (m : ℕ). Covers (suc n) (m ∷ []) (xs ++ call ∷ [])) (number n xs) (covers_push (suc n) [] xs call h.1))
covers_push n (k ∷ ks) (x ∷ xs) call (inl h) = inl (h.0, subst (λ (m : ℕ). Covers (suc n) (ks ++ m ∷ []) (xs ++ call ∷ [])) (number n xs) (covers_push (suc n) ks xs call h.1))
covers_push n (k ∷ ks) (x ∷ xs) call (inr h) = inr (h.0, subst (λ (m : ℕ). Covers (suc n) (k ∷ (ks ++ m ∷ [])) (xs ++ call ∷ [])) (number n xs) (covers_push (suc n) (k ∷ ks) xs call h.1))

pub covers_added : (ks : List ℕ) (calls : List Call) (call : Call) → Covers 0 ks calls → Covers 0 (ks ++ length calls ∷ []) (calls ++ call ∷ [])
covers_added ks calls call h = subst (λ (n : ℕ). Covers 0 (ks ++ n ∷ []) (calls ++ call ∷ [])) (let e : 0 + length calls ≡ length calls = omega arith in e) (covers_push 0 ks calls call h)

-- A MESSAGE IS TAKEN: at most one call changes, and it waits no more than before.
module _ (answer : List ℕ → List ℕ) (ks : List ℕ) where
  abbrev Covered : Course → Type 0
  Covered c = Covers 0 ks c.calls.calls

  answer_covers : (s : CallState) (n : ℕ) (octets : List ℕ) (c : Course) → Covered c → Covered (answered_if s n octets c)
  answer_covers state.Waiting n octets c h = covers_set 0 ks c.calls.calls n (record (call_at c.calls n) { state = state.Answered }) (λ e. absurd cc) h
  answer_covers state.Answered n octets c h = h
  answer_covers state.Unsure n octets c h = h
  answer_covers state.Declined n octets c h = h

  message_covers : (side : Side) (f : Flow) (message : List ℕ) (c : Course) → Covered c → Covered (take_message answer side f message c)
  message_covers Server f message c h = covers_set 0 ks c.calls.calls (number_in message) _ (λ e. e) h
  message_covers Client f message c h = let n = number_in message in answer_covers (call_at c.calls n).state n (carried_in message) c h

  if_covers : (b : Bool) (x y : Course) → Covered x → Covered y → Covered (if b then x else y)
  if_covers b x y done not = elim b as (λ v. Covered (if v then x else y)) [ true ↦ done | false ↦ not ]

  pub whole_covers : (side : Side) (f : Flow) (whole : Option (List ℕ)) (c : Course) → Covered c → Covered (take_whole answer side f whole c)
  whole_covers side f None c h = h
  whole_covers side f (Some message) c h = if_covers (has_number message && is_call c.calls f (number_in message)) (take_message answer side f message c) c (message_covers side f message c h) h

-- A NUMBER IS DROPPED whose call doesn't wait
pub covers_drop : (n : ℕ) (xs : List ℕ) (k : ℕ) (ys : List ℕ) (calls : List Call) → Covers n (xs ++ k ∷ ys) calls → ((i : ℕ) → n + i ≡ k → is_waiting (call_in calls i).state ≡ false) → Covers n (xs ++ ys) calls
covers_drop n [] k ys [] h not = absurd h
covers_drop n (x ∷ xs) k ys [] h not = absurd h
covers_drop n [] k [] (c ∷ cs) (inl h) not = (not 0 (let e = sym h.0 in omega arith), h.1)
covers_drop n [] k [] (c ∷ cs) (inr h) not = (h.0, covers_drop (suc n) [] k [] cs h.1 (λ i e. not (suc i) (omega arith)))
covers_drop n [] k (y ∷ ys) (c ∷ cs) (inl h) not = inr (not 0 (let e = sym h.0 in omega arith), h.1)
covers_drop n [] k (y ∷ ys) (c ∷ cs) (inr h) not = inr (h.0, covers_drop (suc n) [] k (y ∷ ys) cs h.1 (λ i e. not (suc i) (omega arith)))
covers_drop n (x ∷ xs) k ys (c ∷ cs) (inl h) not = inl (h.0, covers_drop (suc n) xs k ys cs h.1 (λ i e. not (suc i) (omega arith)))
covers_drop n (x ∷ xs) k ys (c ∷ cs) (inr h) not = inr (h.0, covers_drop (suc n) (x ∷ xs) k ys cs h.1 (λ i e. not (suc i) (omega arith)))

-- each of the numbers is that of a call
pub covers_there : (n : ℕ) (xs : List ℕ) (k : ℕ) (ys : List ℕ) (calls : List Call) → Covers n (xs ++ k ∷ ys) calls → k < n + length calls
covers_there n [] k ys [] h = absurd h
covers_there n (x ∷ xs) k ys [] h = absurd h
covers_there n [] k ys (c ∷ cs) (inl h) = let e = h.0 in omega arith
covers_there n [] k ys (c ∷ cs) (inr h) = let e = covers_there (suc n) [] k ys cs h.1 in omega arith
covers_there n (x ∷ xs) k ys (c ∷ cs) (inl h) = let e = covers_there (suc n) xs k ys cs h.1 in omega arith
covers_there n (x ∷ xs) k ys (c ∷ cs) (inr h) = let e = covers_there (suc n) (x ∷ xs) k ys cs h.1 in omega arith
