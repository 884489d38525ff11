-- A flow has one spelling.
use Rattle.std.proofs.Common.{◌≡◌, ℕ, ◌<◌, ◌^◌, List, ◌∷◌, ◌++◌, Option, Some, None, refl, ap, subst, ◌∙◌, arith, inr}
use Rattle.std.specs.Option.{option_and_then}
use Rattle.std.specs.Fmt.{decimal}
use Rattle.dt_units.specs.declared.endpoints.Flow.{Flow}
use Rattle.dt_text.specs.Numerals.{numeral}
use Rattle.dt_text.specs.Splitting.{cut}
use Rattle.dt_text.specs.Endpoints.{endpoint_read, flow_read}
use Rattle.dt_log.specs.Words.{endpoint_text, flow_text}
use Rattle.dt_units.specs.Flows.{IsFlow}
use Rattle.dt_text.proofs.NumberLaws.{numeral-decimal, numeral-only}
use Rattle.dt_text.proofs.CutLaws.{IsFree-append, IsFree-cons, IsFree-decimal, cut-at, cut-found}

-- what was found by two steps was found by each
pub both_found : {A B : Type 0} (read : Option A) (next : A → Option B) (y : B) → option_and_then next read ≡ Some y → (x : A) × (read ≡ Some x) × (next x ≡ Some y)
both_found None next y h = cc
both_found (Some x) next y h = (x, refl, h)

pub endpoint-text : (node port : ℕ) → node < 2 ^ 32 → port < 2 ^ 16 → endpoint_read (endpoint_text node port) ≡ Some (node, port)
unfolding endpoint_read
endpoint-text node port small small_port =
    let parts = cut-at 58 (decimal node) (decimal port) (IsFree-decimal 58 node (inr (omega arith)) (omega arith)) in
    let node_read = numeral-decimal 4294967295 node (omega arith) (omega arith) in
    let port_read = numeral-decimal 65535 port (omega arith) (omega arith) in
    rw (parts, node_read, port_read) refl

pub endpoint-only : (word : List ℕ) (node port : ℕ) → endpoint_read word ≡ Some (node, port) → (word ≡ endpoint_text node port) × (node < 2 ^ 32) × (port < 2 ^ 16)
unfolding endpoint_read
endpoint-only word node port h =
    let parts = both_found (cut 58 word) _ (node, port) h in
    let node_read = both_found (numeral 4294967295 parts.0.0) _ (node, port) parts.2 in
    let port_read = both_found (numeral 65535 parts.0.1) _ (node, port) node_read.2 in
    let pair : ◌≡◌ {A = ℕ × ℕ} (node_read.0, port_read.0) (node, port) = cc in
    let node_is : node_read.0 ≡ node = ap (λ (p : ℕ × ℕ). p.0) pair in
    let port_is : port_read.0 ≡ port = ap (λ (p : ℕ × ℕ). p.1) pair in
    let node_text = numeral-only 4294967295 node_read.0 parts.0.0 (omega arith) node_read.1 in
    let port_text = numeral-only 65535 port_read.0 parts.0.1 (omega arith) port_read.1 in (
      cut-found 58 word parts.0.0 parts.0.1 parts.1
          ∙ ap (λ front. front ++ 58 ∷ parts.0.1) (node_text.0 ∙ ap decimal node_is)
          ∙ ap (λ after. decimal node ++ 58 ∷ after) (port_text.0 ∙ ap decimal port_is),
      omega arith,
      omega arith,
    )

pub flow-text : (f : Flow) → IsFlow f → flow_read (flow_text f) ≡ Some f
unfolding flow_read flow_text
flow-text f fits =
    let free = IsFree-append 62 (decimal f.from.0) (58 ∷ decimal f.from_port) (IsFree-decimal 62 f.from.0 (inr (omega arith)) (omega (arith, fits.from))) (IsFree-cons 62 58 (decimal f.from_port) refl (IsFree-decimal 62 f.from_port (inr (omega arith)) (omega (arith, fits.from_port)))) in
    let ends = cut-at 62 (endpoint_text f.from.0 f.from_port) (endpoint_text f.to.0 f.to_port) free in
    let from = endpoint-text f.from.0 f.from_port fits.from fits.from_port in
    let to = endpoint-text f.to.0 f.to_port fits.to fits.to_port in
    rw (ends, from, to) refl

pub flow-only : (word : List ℕ) (f : Flow) → flow_read word ≡ Some f → (word ≡ flow_text f) × IsFlow f
unfolding flow_read flow_text
flow-only word f h =
    let ends = both_found (cut 62 word) _ f h in
    let from = both_found (endpoint_read ends.0.0) _ f ends.2 in
    let to = both_found (endpoint_read ends.0.1) _ f from.2 in
    let made : Flow = record { from = record { 0 = from.0.0 }; from_port = from.0.1; to = record { 0 = to.0.0 }; to_port = to.0.1 } in
    let is : made ≡ f = cc in
    let from_text = endpoint-only ends.0.0 from.0.0 from.0.1 from.1 in
    let to_text = endpoint-only ends.0.1 to.0.0 to.0.1 to.1 in
    let fits : IsFlow made = record { from = from_text.1; from_port = from_text.2; to = to_text.1; to_port = to_text.2 } in (
      cut-found 62 word ends.0.0 ends.0.1 ends.1
          ∙ ap (λ front. front ++ 62 ∷ ends.0.1) from_text.0
          ∙ ap (λ after. endpoint_text from.0.0 from.0.1 ++ 62 ∷ after) to_text.0
          ∙ ap flow_text is,
      subst IsFlow is fits,
    )
