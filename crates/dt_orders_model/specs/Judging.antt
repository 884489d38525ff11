-- How a request is judged.
use Rattle.std.specs.Prelude.{ℕ, ◌==◌, ◌&&◌, Bool, true, false, not, nat_le, nat_lt, if◌then◌else◌, Option, Some, None}
use Rattle.dt_orders_model.specs.declared.knowledge.Known.{Known}
use Rattle.dt_orders_model.specs.declared.knowledge.Place.{Place}
use Rattle.dt_orders_model.specs.declared.registers.Meta.{Meta}
use Rattle.dt_orders_model.specs.declared.registers.Row.{Row}
use Rattle.dt_orders_model.specs.declared.registers.RowState.{RowState}
use Rattle.dt_orders_model.specs.declared.registers.RowState.TheVariants as state
use Rattle.dt_orders_model.specs.declared.requests.Asked.{Asked}
use Rattle.dt_orders_model.specs.declared.requests.Kind.{Kind}
use Rattle.dt_orders_model.specs.declared.requests.Kind.TheVariants as kind
use Rattle.dt_orders_model.specs.declared.requests.Places.{Places}
use Rattle.dt_orders_model.specs.declared.requests.Verdict.{Verdict}
use Rattle.dt_orders_model.specs.declared.requests.Verdict.TheVariants as verdict
use Rattle.dt_orders_model.specs.Chains.{is_on_by, shared_by}

-- what an order that is open comes to
abbrev pub wanted : Kind → Verdict
wanted kind.Order = verdict.Execute
wanted kind.Cancel = verdict.Cancel
wanted kind.Ask = verdict.Read

abbrev pub said : RowState → Verdict
said state.AtWork = verdict.AtWork
said state.Cancelled = verdict.Never
said state.Done = verdict.Done

-- a number that isn't above the row's is stale, and leaves a stamp above what its order is shared up to
abbrev pub stale_by : Row → ℕ → Verdict
stale_by r shared = if nat_le r.stamp shared then verdict.Touch else verdict.Stale

-- an order that no row closes by its number
abbrev pub judged_above : ℕ → Kind → ℕ → Verdict
judged_above floor kind shared = if nat_lt shared floor then verdict.Old else wanted kind

-- BY THE ROW of the lane, the horizon where it has none, and the clock up to which the order is shared
abbrev pub judged_by : ℕ → Option Row → Asked → ℕ → Verdict
judged_by horizon None a shared = judged_above horizon a.kind shared
judged_by horizon (Some r) a shared = if r.number == a.number && r.tag == a.tag then said r.state else if nat_le a.number r.number then stale_by r shared else judged_above r.born a.kind shared

-- the client knows of a commit that isn't on the path
abbrev pub is_forked : Option Known → Place → Bool
is_forked None p = false
is_forked (Some q) p = not (is_on_by q.clock p)

-- the client knows of the present opening
abbrev pub is_met : ℕ → Option Known → Bool
is_met nonce None = false
is_met nonce (Some q) = q.nonce == nonce

abbrev pub is_ask : Kind → Bool
is_ask kind.Order = false
is_ask kind.Cancel = false
is_ask kind.Ask = true

-- THE VERDICT: the first test that holds. `strict` asks that the client knows of the present opening
abbrev pub verdict_of : Meta → Option Row → Asked → Places → Bool → Verdict
verdict_of m row a p strict = if is_forked a.knows p.knows then verdict.Forked else if is_ask a.kind then verdict.Read else if strict && not (is_met m.nonce a.knows) then verdict.Hello else judged_by m.horizon row a (shared_by a.since.clock p.since)
