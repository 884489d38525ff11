-- What the tests of a hearing say.
use Rattle.std.proofs.Common.{◌≡◌, Bool, true, false, sym, subst, refl}
use Rattle.std.specs.Prelude.{◌&&◌, not, if◌then◌else◌}
use Rattle.dt_orders_model.specs.declared.lanes.Hearing.{Hearing}
use Rattle.dt_orders_model.specs.declared.lanes.Hearing.TheVariants as hearing

abbrev IsHearing : Hearing → Hearing → Type 0
IsHearing hearing.Used hearing.Used = Unit {0}
IsHearing hearing.Alarm hearing.Alarm = Unit {0}
IsHearing _ _ = ⊥

-- an answer that is used names the attempt, and may be used
pub used_same : (t : Bool) (y : Hearing) → (if not t then hearing.Strange else y) ≡ hearing.Used → t ≡ true
used_same true y e = refl
used_same false y e = let z : IsHearing hearing.Used hearing.Strange = subst (λ (x : Hearing). IsHearing hearing.Used x) (sym e) tt in absurd z

pub used_tests : (t f n u : Bool) → (if not t then hearing.Strange else if f then (if n then hearing.Alarm else hearing.Unsure) else if u then hearing.Used else hearing.Unsure) ≡ hearing.Used → u ≡ true
used_tests false f n u e = let y : IsHearing hearing.Used hearing.Strange = subst (λ (z : Hearing). IsHearing hearing.Used z) (sym e) tt in absurd y
used_tests true true true u e = let y : IsHearing hearing.Used hearing.Alarm = subst (λ (z : Hearing). IsHearing hearing.Used z) (sym e) tt in absurd y
used_tests true true false u e = let y : IsHearing hearing.Used hearing.Unsure = subst (λ (z : Hearing). IsHearing hearing.Used z) (sym e) tt in absurd y
used_tests true false n true e = refl
used_tests true false n false e = let y : IsHearing hearing.Used hearing.Unsure = subst (λ (z : Hearing). IsHearing hearing.Used z) (sym e) tt in absurd y

-- an alarm names the attempt, and its call carried what is known now
pub alarm_tests : (t f n u : Bool) → (if not t then hearing.Strange else if f then (if n then hearing.Alarm else hearing.Unsure) else if u then hearing.Used else hearing.Unsure) ≡ hearing.Alarm → (t ≡ true) × (n ≡ true)
alarm_tests false f n u e = let y : IsHearing hearing.Alarm hearing.Strange = subst (λ (z : Hearing). IsHearing hearing.Alarm z) (sym e) tt in absurd y
alarm_tests true true true u e = (refl, refl)
alarm_tests true true false u e = let y : IsHearing hearing.Alarm hearing.Unsure = subst (λ (z : Hearing). IsHearing hearing.Alarm z) (sym e) tt in absurd y
alarm_tests true false n true e = let y : IsHearing hearing.Alarm hearing.Used = subst (λ (z : Hearing). IsHearing hearing.Alarm z) (sym e) tt in absurd y
alarm_tests true false n false e = let y : IsHearing hearing.Alarm hearing.Unsure = subst (λ (z : Hearing). IsHearing hearing.Alarm z) (sym e) tt in absurd y

-- a client that counts on no transport that delivers once
pub not_once : (only one : Bool) → one ≡ false → false ≡ (only && one)
not_once true one e = sym e
not_once false one e = refl
