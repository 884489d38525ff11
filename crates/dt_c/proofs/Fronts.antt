-- What stands in front of a queue.
use Rattle.std.proofs.Common.{◌≡◌, Bool, true, false, List, [], ◌∷◌, None, drop, length, arith, refl, ap}
use Rattle.std.specs.Prelude.{cond}
use Rattle.dt_service_model.specs.declared.calls.OpenCall.{OpenCall}
use Rattle.dt_service_model.specs.declared.happenings.Happening.{Happening}
use Rattle.dt_service_model.specs.Ends.{next, next_call, next_in}
use Rattle.dt_service_model.specs.CallBook.{CallBook}

pub none_waits : {A : Type 0} (xs : List A) → xs ≡ drop 1 xs → xs ≡ []
none_waits [] e = refl
none_waits (x ∷ xs) e = let longer = ap length e in absurd (omega arith)

-- where nothing was told, taking the next of it changes nothing
calls_none : (calls : List OpenCall) (h : CallBook) → (next_call calls h).0 ≡ None → (next_call calls h).1 ≡ h
calls_none [] h none = refl
calls_none (call ∷ calls) h none = cc

closed_none : (closed : Bool) (h : CallBook) → (cond closed (next_call h.calls h) (None, h)).0 ≡ None → (cond closed (next_call h.calls h) (None, h)).1 ≡ h
closed_none true h none = calls_none h.calls h none
closed_none false h none = refl

told_none : (told : List Happening) (h : CallBook) → (next_in told h).0 ≡ None → (next_in told h).1 ≡ h
told_none [] h none = closed_none h.closed h none
told_none (happening ∷ told) h none = cc

pub next_none : (h : CallBook) → (next h).0 ≡ None → (next h).1 ≡ h
next_none h none = told_none h.happenings h none
