-- Histories of both ends whose wire keeps the order of calls, as services do.
use Rattle.std.specs.Prelude.{◌≡◌, ◌⊎◌, ℕ, List, [], ◌∷◌}
use Rattle.dt_orders_model.specs.declared.lanes.Word.{Word}
use Rattle.dt_orders_model.specs.Histories.{World}
use Rattle.dt_orders_model.specs.Stores.{Among, heard}
use Rattle.dt_orders_world_laws.specs.Both.{Both, Rules, Step, first_both, handled}
use Rattle.dt_orders_world_laws.specs.Wires.{Handles, Sent, reply_to}

-- a call was made after another one
abbrev pub WasMadeAfter : Sent → Sent → List Sent → Type 0
WasMadeAfter s c [] = ⊥
WasMadeAfter s c (x ∷ sent) = ((x ≡ s) × Among c sent) ⊎ WasMadeAfter s c sent

-- A CALL THAT MAY STILL BE HANDED OUT: it was made after each call of its lane that was
abbrev pub MayComeNext : List Sent → List Sent → Sent → Type 0
MayComeNext sent out s = (c : Sent) → Among c out → c.lane ≡ s.lane → WasMadeAfter s c sent

-- ANY HISTORY IN ORDER, with the calls that were handed out: those of a lane in the order in which they were made, each once at most, over all lives and set backs of both ends
pub data RunsInOrder (rules : Rules) : Both → List Sent → Type 0 where
  begins : (nonce : ℕ) (nonces : ℕ → ℕ) → ((i j : ℕ) → nonces i ≡ nonces j → i ≡ j) → RunsInOrder rules (first_both nonce nonces) []
  hands_out : {w : Both} {out : List Sent} (s : Sent) (v : World) (said : Word) (value : ℕ) (result : List ℕ) → RunsInOrder rules w out → Among s w.sent → MayComeNext w.sent out s → Handles rules.strict w.server s v said result → RunsInOrder rules (handled w v (reply_to s (heard v.present) said value result w.sent)) (s ∷ out)
  -- any other step: none of these answers a call
  goes : {w : Both} {out : List Sent} (v : Both) → RunsInOrder rules w out → Step rules w v → v.made ≡ w.made → RunsInOrder rules v out
