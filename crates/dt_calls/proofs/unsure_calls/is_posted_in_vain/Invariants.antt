use Rattle.std.proofs.Common.{ℕ, ◌≡◌, ◌<◌, ◌≤◌, false}
use Rattle.dt_world_model.specs.Ledgers.{ledger_of}
use Rattle.dt_flow_model.specs.Ledger.{row_at}
use Rattle.dt_calls_model.specs.CallStep.{is_in_vain}
use Rattle.dt_calls.proofs.unsure_calls.is_posted_in_vain.Given as goal

abbrev pub invariant-loop-at : goal.invariant-loop-at
invariant-loop-at l = (k : ℕ) → l.place ≤ k → k < l.at → is_in_vain l.life (row_at (ledger_of l.world.state.ledgers l.flow).taken k) ≡ false
