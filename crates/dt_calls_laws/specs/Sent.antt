-- What a send leaves: its octets after all that its flow took before, or nothing where it was refused.
use Rattle.std.specs.Prelude.{ℕ, ◌≡◌, Bool, true, false, List, ◌++◌, map}
use Rattle.dt_items.specs.Unread.{marked}
use Rattle.dt_units.specs.declared.endpoints.Flow.{Flow}
use Rattle.dt_flow_model.specs.Ledger.{item_of}
use Rattle.dt_world_model.specs.Ledgers.{FlowLedger, Ledgers, ledger_of}
use Rattle.dt_world_model.specs.Tables.{same_flow}
use Rattle.dt_calls_laws.specs.HasRead.{KeepsOctets}

pub record TakesOctets (octets : List ℕ) (begin end : Bool) (l after : FlowLedger) : Type 0 where
  pub taken : map item_of after.taken ≡ map item_of l.taken ++ marked octets begin end false
  pub given : after.given ≡ l.given

pub record HasSent (f : Flow) (octets : List ℕ) (begin end : Bool) (all after : Ledgers) : Type 0 where
  pub here : TakesOctets octets begin end (ledger_of all f) (ledger_of after f)
  pub others : (g : Flow) → same_flow f g ≡ false → KeepsOctets (ledger_of all g) (ledger_of after g)

-- by whether the lines tell a refusal
abbrev pub SendLeaves : Bool → Flow → List ℕ → (begin end : Bool) → Ledgers → Ledgers → Type 0
SendLeaves true f octets begin end all after = (g : Flow) → KeepsOctets (ledger_of all g) (ledger_of after g)
SendLeaves false f octets begin end all after = HasSent f octets begin end all after
