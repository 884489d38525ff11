-- What a verdict says of the row.
use Rattle.std.proofs.Common.{◌≡◌, ◌≤◌, ◌<◌, ℕ, Bool, true, false, arith, refl}
use Rattle.std.specs.Prelude.{◌==◌, ◌&&◌, not, nat_le, nat_lt, if◌then◌else◌, Option, Some, None}
use Rattle.std.proofs.lemmas.Bool.Decides.{nat_tests}
use Rattle.dt_orders_model.specs.declared.registers.Meta.{Meta}
use Rattle.dt_orders_model.specs.declared.registers.Row.{Row}
use Rattle.dt_orders_model.specs.declared.registers.RowState.{RowState}
use Rattle.dt_orders_model.specs.declared.registers.RowState.TheVariants as state
use Rattle.dt_orders_model.specs.declared.requests.Asked.{Asked}
use Rattle.dt_orders_model.specs.declared.requests.Kind.{Kind}
use Rattle.dt_orders_model.specs.declared.requests.Places.{Places}
use Rattle.dt_orders_model.specs.declared.requests.Verdict.{Verdict}
use Rattle.dt_orders_model.specs.declared.requests.Verdict.TheVariants as verdict
use Rattle.dt_orders_model.specs.Chains.{shared_by}
use Rattle.dt_orders_model.specs.Closing.{IsOpen}
use Rattle.dt_orders_model.specs.Judging.{is_ask, is_forked, is_met, judged_above, judged_by, said, stale_by, verdict_of, wanted}

-- verdicts by which an order is taken
abbrev pub Takes : Verdict → Type 0
Takes verdict.Execute = Unit {0}
Takes verdict.Cancel = Unit {0}
Takes _ = ⊥

-- what comes behind a test whose verdict takes nothing
behind : (t : Bool) (v w : Verdict) → (Takes v → ⊥) → Takes (if t then v else w) → Takes w
behind true v w h takes = absurd (h takes)
behind false v w h takes = takes

said_takes_none : (s : RowState) → Takes (said s) → ⊥
said_takes_none state.AtWork h = h
said_takes_none state.Cancelled h = h
said_takes_none state.Done h = h

stale_takes_none : (t : Bool) → Takes (if t then verdict.Touch else verdict.Stale) → ⊥
stale_takes_none true h = h
stale_takes_none false h = h

above_takes : (floor shared : ℕ) (k : Kind) (t : Bool) → nat_lt shared floor ≡ t → Takes (if t then verdict.Old else wanted k) → floor ≤ shared
above_takes floor shared k true e h = absurd h
above_takes floor shared k false e h = grind (arith, nat_tests)

row_takes : (r : Row) (a : Asked) (shared : ℕ) (t u : Bool) → nat_le a.number r.number ≡ u → Takes (if t then said r.state else if u then stale_by r shared else judged_above r.born a.kind shared) → (r.number < a.number) × (r.born ≤ shared)
row_takes r a shared true u e h = absurd (said_takes_none r.state h)
row_takes r a shared false true e h = absurd (stale_takes_none (nat_le r.stamp shared) h)
row_takes r a shared false false e h = (grind (arith, nat_tests), above_takes r.born shared a.kind (nat_lt shared r.born) refl h)

judged_takes : (horizon : ℕ) (row : Option Row) (a : Asked) (shared : ℕ) → Takes (judged_by horizon row a shared) → IsOpen horizon row a.number shared
judged_takes horizon None a shared h = above_takes horizon shared a.kind (nat_lt shared horizon) refl h
judged_takes horizon (Some r) a shared h = row_takes r a shared (r.number == a.number && r.tag == a.tag) (nat_le a.number r.number) refl h

-- WHAT IS TAKEN IS OPEN
pub takes_open : (m : Meta) (row : Option Row) (a : Asked) (p : Places) (strict : Bool) → Takes (verdict_of m row a p strict) → IsOpen m.horizon row a.number (shared_by a.since.clock p.since)
takes_open m row a p strict h =
    let by = judged_by m.horizon row a (shared_by a.since.clock p.since) in
    let met : Verdict = if strict && not (is_met m.nonce a.knows) then verdict.Hello else by in
    let asks : Verdict = if is_ask a.kind then verdict.Read else met in
    judged_takes m.horizon row a (shared_by a.since.clock p.since)
    (behind (strict && not (is_met m.nonce a.knows)) verdict.Hello by (λ x. x)
    (behind (is_ask a.kind) verdict.Read met (λ x. x)
    (behind (is_forked a.knows p.knows) verdict.Forked asks (λ x. x) h)))
