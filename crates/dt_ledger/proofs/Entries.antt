-- The entries of the map under its calls are the model's table under the model's calls.
use Rattle.std.proofs.Common.{◌≡◌, true, false, List, [], Option, Some, None, Result, OnErr, OnOk, Bor, is_some, refl, sym, ap, ◌∙◌}
use Rattle.std.proofs.lemmas.Result.{on_err_weaker, on_ok_weaker}
use Rattle.std.specs.Prelude.{OnSome, unwrap_or}
use Rattle.std.specs.Borrow.{MutBor}
use Rattle.std.specs.Option.{option_copied, option_copied_mut}
use Rattle.std.specs.Map.{lookup, set_value}
use Rattle.indexmap.specs.IndexMap.{insert_entry}
use Rattle.dt_units.specs.declared.endpoints.Flow.{Flow}
use Rattle.dt_world_model.specs.Ledgers.{FlowLedger}
use Rattle.dt_world_model.specs.Tables.{look, same_flow, write}
use Rattle.dt_world_model.proofs.Maps.{equal_flows, flow_inserted, flow_stays, flow_written}
use Rattle.dt_world_model.proofs.Tables.{flow_is, flow_self, look_write}
use Rattle.dt_ledger.specs.Flows.{ledger_in}

pub inserted : (f : Flow) (a : FlowLedger) (es : List (Flow × FlowLedger)) → insert_entry equal_flows es f a ≡ write same_flow f a es
inserted f a es = flow_inserted f (insert_entry equal_flows) (λ b. refl) (λ b e rest. refl) a es

-- what is written through a loan of the map's value
pub lent : (f : Flow) (r : Option (MutBor FlowLedger)) (w : FlowLedger) (es after : List (Flow × FlowLedger)) → option_copied_mut r ≡ lookup (equal_flows f) es → after ≡ set_value (equal_flows f) es w → OnSome r (after ≡ write same_flow f w es)
lent f None w es after v e = tt
lent f (Some b) w es after v e = e ∙ flow_written f w b.now es (sym v)

-- what holds of a loan holds where there is one
pub on_some : {X P : Type 0} (r : Option X) (x : X) → r ≡ Some x → OnSome r P → P
on_some None x e h = absurd cc
on_some (Some y) x e h = h

-- a call on the ledger of a flow that is there
pub ledger_there : (f : Flow) (rows : List (Flow × FlowLedger)) (l : FlowLedger) → Some l ≡ look same_flow f rows → l ≡ ledger_in rows f
ledger_there f rows l e = ap (λ (o : Option FlowLedger). unwrap_or o (record { taken = []; given = []; reads = [] })) e

pub changed : (change : FlowLedger → FlowLedger) (f : Flow) (old new : List (Flow × FlowLedger)) (l after : FlowLedger) → Some l ≡ look same_flow f old → after ≡ change l → new ≡ write same_flow f after old → new ≡ write same_flow f (change (ledger_in old f)) old
changed change f old new l after there is e =
    e ∙ ap (λ (a : FlowLedger). write same_flow f a old) (is ∙ ap change (ledger_there f old l there))

-- a flow that isn't there
ledger_absent : (f : Flow) (rows : List (Flow × FlowLedger)) → None ≡ look same_flow f rows → record { taken = []; given = []; reads = [] } ≡ ledger_in rows f
ledger_absent f rows e = ap (λ (o : Option FlowLedger). unwrap_or o (record { taken = []; given = []; reads = [] })) e

-- where a call on the flow's ledger changes it, or leaves it
unchanged : (f : Flow) (old new : List (Flow × FlowLedger)) (l after : FlowLedger) → Some l ≡ look same_flow f old → after ≡ l → new ≡ write same_flow f after old → new ≡ old
unchanged f old new l after there is e = e ∙ ap (λ (a : FlowLedger). write same_flow f a old) is ∙ flow_stays f l old (sym there)

-- A CALL ON THE LEDGER OF A FLOW, over plain variables
module _ (change : FlowLedger → FlowLedger) (f : Flow) (old : List (Flow × FlowLedger)) where
  -- the flow is there, and the call goes by a loan of its ledger
  module _ {B T E : Type 0} (r : Result T E) (loan : Option B) (b : B) (l after : FlowLedger) (new : List (Flow × FlowLedger)) (is : loan ≡ Some b) (wrote : OnSome loan (new ≡ write same_flow f after old)) (there : Some l ≡ look same_flow f old) where
    pub there_ok : OnOk r (after ≡ change l) → OnOk r (new ≡ write same_flow f (change (ledger_in old f)) old)
    there_ok h = on_ok_weaker r (λ e. changed change f old new l after there e (on_some loan b is wrote)) h

    pub there_err : OnErr r (after ≡ l) → OnErr r (new ≡ old)
    there_err h = on_err_weaker r (λ e. unchanged f old new l after there e (on_some loan b is wrote)) h

  -- it isn't, and comes after all others with what the call makes of an empty ledger
  pub absent_ok : {T E : Type 0} (r : Result T E) (first after : FlowLedger) (inside new : List (Flow × FlowLedger)) → None ≡ look same_flow f old → first ≡ record { taken = []; given = []; reads = [] } → after ≡ change first → inside ≡ old → OnOk r (new ≡ write same_flow f after inside)
      → OnOk r (new ≡ write same_flow f (change (ledger_in old f)) old)
  absent_ok r first after inside new none is made same h =
      let made_of : after ≡ change (ledger_in old f) = made ∙ ap change (is ∙ ledger_absent f old none) in
      on_ok_weaker r (λ e. e ∙ ap (λ (rows : List (Flow × FlowLedger)). write same_flow f after rows) same ∙ ap (λ (l : FlowLedger). write same_flow f l old) made_of) h

-- a flow that is there is written as it was
pub begun_already : (f : Flow) (r : Option (Bor FlowLedger)) (rows : List (Flow × FlowLedger)) → option_copied r ≡ look same_flow f rows → true ≡ is_some r → rows ≡ write same_flow f (ledger_in rows f) rows
begun_already f None rows v e = absurd cc
begun_already f (Some b) rows v e = sym (flow_stays f b.now rows (sym v)) ∙ ap (λ (l : FlowLedger). write same_flow f l rows) (ledger_there f rows b.now v)

-- of one that isn't there nothing is found
pub none_there : (f : Flow) (r : Option (Bor FlowLedger)) (rows : List (Flow × FlowLedger)) → option_copied r ≡ look same_flow f rows → false ≡ is_some r → None ≡ look same_flow f rows
none_there f None rows v e = v
none_there f (Some b) rows v e = absurd cc

-- what was written is there
pub written_there : {T E : Type 0} (r : Result T E) (f : Flow) (l : FlowLedger) (old new : List (Flow × FlowLedger)) → OnOk r (new ≡ write same_flow f l old) → OnOk r (is_some (look same_flow f new) ≡ true)
written_there r f l old new h =
    on_ok_weaker r (λ e. ap (λ (rows : List (Flow × FlowLedger)). is_some (look same_flow f rows)) e ∙ ap is_some (look_write Flow FlowLedger same_flow flow_self flow_is f l old)) h
