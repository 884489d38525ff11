-- The numbers that a step looks at when it judges: those of all calls that wait are among them, in their order.
use Rattle.std.specs.Prelude.{ℕ, suc, ◌≡◌, ◌⊎◌, false, if◌then◌else◌, List, [], ◌∷◌, ◌++◌}
use Rattle.dt_calls_model.specs.declared.calls.Call.{Call}
use Rattle.dt_calls_model.specs.CallStep.{is_waiting}

-- of the calls from a number on
abbrev pub Covers : ℕ → List ℕ → List Call → Type 0
Covers n [] [] = Unit {0}
Covers n (k ∷ ks) [] = ⊥
Covers n [] (call ∷ calls) = (is_waiting call.state ≡ false) × Covers (suc n) [] calls
Covers n (k ∷ ks) (call ∷ calls) = ((k ≡ n) × Covers (suc n) ks calls) ⊎ ((is_waiting call.state ≡ false) × Covers (suc n) (k ∷ ks) calls)

-- THE NUMBERS OF THE CALLS THAT WAIT, and no others, in their order: of the calls from a number on
abbrev pub waiting_from : ℕ → List Call → List ℕ
waiting_from n [] = []
waiting_from n (call ∷ calls) = (if is_waiting call.state then n ∷ [] else []) ++ waiting_from (suc n) calls
