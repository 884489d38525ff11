-- The flows that are followed: the entries of their map are the definitions' table.
use Rattle.std.proofs.Common.{◌≡◌, ◌∙◌, true, false, List, Option, Some, None, Result, Ok, Err, refl, sym, ap}
use Rattle.std.specs.Prelude.{OnErr, OnOk, is_err, is_some}
use Rattle.std.specs.Map.{lookup}
use Rattle.std.proofs.lemmas.Bool.{false≢true}
use Rattle.indexmap.specs.IndexMap.{insert_entry}
use Rattle.dt_units.specs.declared.endpoints.Flow.{Flow}
use Rattle.dt_reports.specs.Told.{Told}
use Rattle.dt_world_model.specs.Tables.{look, same_flow, write}
use Rattle.dt_world_model.proofs.Maps.{equal_flows, flow_inserted, flow_looked}
use Rattle.dt_endpoint.specs.declared.counts.Octets.{Octets}
use Rattle.dt_endpoint.specs.Counts.{flow_begun, flow_counts, flow_told, flows_told, no_octets, octets_told, with_flow}

pub inserted : (f : Flow) (o : Octets) (es : List (Flow × Octets)) → insert_entry equal_flows es f o ≡ write same_flow f o es
inserted f o es = flow_inserted f (insert_entry equal_flows) (λ b. refl) (λ b e rest. refl) o es

-- an answer that is known
pub on_ok : {A E : Type 0} {P : Type 0} (r : Result A E) → is_err r ≡ false → OnOk r P → P
on_ok (Ok a) e h = h
on_ok (Err x) e h = absurd (false≢true (sym e))

pub on_err : {A E : Type 0} {P : Type 0} (r : Result A E) → is_err r ≡ true → OnErr r P → P
on_err (Ok a) e h = absurd (false≢true e)
on_err (Err x) e h = h

-- a flow that is there isn't absent
pub not_absent : (f : Flow) (o : Octets) (es : List (Flow × Octets)) → Some o ≡ look same_flow f es → lookup (equal_flows f) es ≡ None → ⊥
not_absent f o es there none = let both : Some o ≡ None = there ∙ sym (flow_looked f es) ∙ none in absurd cc

-- what a report adds to the octets of a flow that is followed
pub noted : (t : Told) (f : Flow) (before after : Octets) (flows : List (Flow × Octets)) → Some f ≡ flow_told t → Some before ≡ look same_flow f flows → after ≡ octets_told t before → write same_flow f after flows ≡ flows_told t (flow_told t) flows
noted t f before after flows of there is = ap (λ (o : Octets). write same_flow f o flows) is ∙ ap (λ (o : Option Octets). flow_counts t f o flows) there ∙ ap (λ (o : Option Flow). flows_told t o flows) of

pub begun : (f : Flow) (o : Option Octets) (v : Octets) (flows : List (Flow × Octets)) → is_some o ≡ false → o ≡ look same_flow f flows → v ≡ no_octets → write same_flow f v flows ≡ with_flow f flows
begun f None v flows e there is = ap (λ (x : Octets). write same_flow f x flows) is ∙ ap (λ (x : Option Octets). flow_begun f x flows) there
begun f (Some x) v flows e there is = absurd (false≢true (sym e))
