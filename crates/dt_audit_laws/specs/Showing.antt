-- What a log shows of the ledger of a flow.
use Rattle.std.specs.Prelude.{ℕ, zero, suc, ◌≡◌, true, false, Option, None, Some, List, [], ◌∷◌, map, take, Ok}
use Rattle.dt_units.specs.Numbers.{number_after}
use Rattle.dt_flow_model.specs.declared.rows.Taken.{Taken}
use Rattle.dt_flow_model.specs.declared.rows.Given.{Given}
use Rattle.dt_flow_model.specs.Ledger.{is_open_in, is_unsent}
use Rattle.dt_world_model.specs.Ledgers.{FlowLedger}
use Rattle.dt_audit.specs.declared.flow_facts.FlowFact.{FlowFact}
use Rattle.dt_audit.specs.declared.flow_facts.Lives.{Lives}
use Rattle.dt_audit.specs.declared.flow_facts.FlowFact.TheVariants.{Took, Sent, Settled, Uncertain, Accepted}
use Rattle.dt_audit.specs.LogRows.{FlowLog, behind_last, is_unsent_in, rows_after, unsent_places}

-- of a first moment a log's rows have whether there is one
abbrev pub shown_first : Option ℕ → Option ℕ
shown_first None = None
shown_first (Some moment) = Some 0

-- rows without octets, marks and moments
abbrev pub shown : Taken → Taken
shown row = record { life = row.life; octet = 0; begin = false; end = false; first = shown_first row.first; fate = row.fate }

abbrev pub shown_given : Given → Given
shown_given row = record { place = row.place; octet = 0; begin = false; end = false; run = row.run; life = row.life; at = 0 }

-- the rows of a log are those of a ledger
pub record Shows (ledger : FlowLedger) (log : FlowLog) : Type 0 where
  pub taken : log.taken ≡ map shown ledger.taken
  pub given : log.given ≡ map shown_given ledger.given

-- where the edge of a log stands after a line that passes, and which number is the next one: a first transmission moves them, and nothing else does
abbrev pub edge_after : Lives → FlowFact → FlowLog → ℕ
edge_after lives (Took count) log = log.edge
edge_after lives (Sent number count) log = behind_last log.edge (take count (unsent_places lives.sender log))
edge_after lives (Settled count) log = log.edge
edge_after lives (Uncertain count) log = log.edge
edge_after lives (Accepted number count run) log = log.edge

abbrev pub next_after : FlowFact → FlowLog → ℕ
next_after (Took count) log = log.next
next_after (Sent number count) log = number_after number count
next_after (Settled count) log = log.next
next_after (Uncertain count) log = log.next
next_after (Accepted number count run) log = log.next

-- a line passes, and leads to what the ledger is then
pub record Passes (lives : Lives) (change : FlowFact) (log : FlowLog) (after : FlowLedger) : Type 0 where
  pub next : FlowLog
  pub passes : rows_after lives change log ≡ Ok next
  pub shows : Shows after next
  pub edge : next.edge ≡ edge_after lives change log
  pub number : next.next ≡ next_after change log

-- The rows of a life that weren't sent are open, and come last.
abbrev pub AllUnsent : ℕ → List Taken → Type 0
AllUnsent life [] = Unit {0}
AllUnsent life (row ∷ rows) = (is_unsent row.first ≡ true) × (is_open_in life row ≡ true) × AllUnsent life rows

abbrev pub UnsentFrom : ℕ → ℕ → List Taken → Type 0
UnsentFrom life zero rows = AllUnsent life rows
UnsentFrom life (suc from) [] = ⊥
UnsentFrom life (suc from) (row ∷ rows) = (is_unsent_in life row ≡ false) × UnsentFrom life from rows

abbrev pub UnsentLast : ℕ → List Taken → Type 0
UnsentLast life rows = (from : ℕ) × UnsentFrom life from rows
