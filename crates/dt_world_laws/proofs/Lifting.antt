-- Lifts: of nothing, of a step, of two parts, and what they keep.
use Rattle.std.proofs.Common.{◌≡◌, List, [], ◌∷◌, ◌++◌, refl, sym, subst}
use Rattle.dt_units.specs.declared.parameters.Params.{Params}
use Rattle.dt_flow_model.specs.Facts.{AllFit, KeepsFates}
use Rattle.dt_flow_model.specs.Flow.{FlowState, Packet}
use Rattle.dt_flow_model.specs.Steps.{Step, Steps, more, none}
use Rattle.dt_flow_laws.proofs.Fates as fates
use Rattle.dt_world_laws.specs.Lift.{IsLifted, Lifts, both, nothing, one}

pub left_nil : {X : Type 0} (xs ys : List X) → xs ++ ys ≡ [] → xs ≡ []
left_nil [] ys e = refl
left_nil (x ∷ xs) ys e = absurd cc

pub right_nil : {X : Type 0} (xs ys : List X) → xs ++ ys ≡ [] → ys ≡ []
right_nil [] ys e = e
right_nil (x ∷ xs) ys e = absurd cc

-- steps that no packet comes in
steps_lift : (p : Params) (s after : FlowState) (ins made : List Packet) → Steps p s ins made after → ins ≡ [] → Lifts p s ins made after
steps_lift p s after ins made (none {s = t}) e = nothing
steps_lift p s after ins made (more {s = t} {mid = mid} {after = end} {ins = i} {made = m} {ins' = i'} {made' = m'} step rest) e =
    both (one (subst (λ (qs : List Packet). AllFit p t qs) (sym (left_nil i i' e)) tt) step) (steps_lift p mid end i' m' rest (right_nil i i' e))

pub no_lift : (p : Params) (s : FlowState) → IsLifted p s s
no_lift p s = record { ins = []; made = []; steps = nothing }

pub step_lift : (p : Params) (s after : FlowState) (ins made : List Packet) → AllFit p s ins → Step p s ins made after → IsLifted p s after
step_lift p s after ins made fit step = record { ins = ins; made = made; steps = one fit step }

pub many_lift : (p : Params) (s after : FlowState) (made : List Packet) → Steps p s [] made after → IsLifted p s after
many_lift p s after made steps = record { ins = []; made = made; steps = steps_lift p s after [] made steps refl }

pub lift_then : (p : Params) (s mid after : FlowState) → IsLifted p s mid → IsLifted p mid after → IsLifted p s after
lift_then p s mid after h k = record { ins = h.ins ++ k.ins; made = h.made ++ k.made; steps = both h.steps k.steps }

-- A FATE THAT ISN'T OPEN STAYS
lifts_fates : (p : Params) (s after : FlowState) (ins made : List Packet) → Lifts p s ins made after → KeepsFates s.taken after.taken
lifts_fates p s after ins made (nothing {s = t}) = fates.same t.taken
lifts_fates p s after ins made (one {s = t} {after = end} {ins = i} {made = m} fit step) = fates.fates_kept p t end i m step
lifts_fates p s after ins made (both {s = t} {mid = mid} {after = end} {ins = i} {made = m} {ins' = i'} {made' = m'} h k) = fates.trans t.taken mid.taken end.taken (lifts_fates p t mid i m h) (lifts_fates p mid end i' m' k)

pub lifted_fates : (p : Params) (s after : FlowState) → IsLifted p s after → KeepsFates s.taken after.taken
lifted_fates p s after h = lifts_fates p s after h.ins h.made h.steps
