use Rattle.std.proofs.Common.{ℕ, ◌≡◌, ◌++◌, ◌∷◌, [], List, length, sym, subst, rules}
use Rattle.dt_calls_model.specs.declared.calls.Call.{Call}
use Rattle.dt_call_parts.specs.Kept.{AreShort}
use Rattle.dt_call_parts.specs.Waiting.{Covers}
use Rattle.dt_calls.proofs.Makings.{call_for, on_ok}
use Rattle.dt_call_parts.proofs.Requests.{short_added}
use Rattle.dt_call_parts.proofs.Waiting.{covers_added}
use Rattle.dt_calls.proofs.making.add_call.Goals as goal

pub returns-clause-waiting : goal.returns-clause-waiting
returns-clause-waiting g c =
    let p = c.args.parts.now in
    let call : Call = call_for c.args.flow c.args.request in
    let n = length p.calls.items in
    let more : c.push-2.new.self.items ≡ p.calls.items ++ call ∷ [] = search rules in
    let numbers : c.push.new.self.items ≡ p.waiting.items ++ n ∷ [] = search rules in
    on_ok _ c.add_flow.result (λ h.
    subst (λ (ks : List ℕ). Covers 0 ks c.push-2.new.self.items) (sym numbers)
    (subst (λ (cs : List Call). Covers 0 (p.waiting.items ++ n ∷ []) cs) (sym more) (covers_added p.waiting.items p.calls.items call h)))

pub returns-clause-requests : goal.returns-clause-requests
returns-clause-requests g c =
    let p = c.args.parts.now in
    let call : Call = call_for c.args.flow c.args.request in
    let more : c.push-2.new.self.items ≡ p.calls.items ++ call ∷ [] = search rules in
    on_ok _ c.add_flow.result (λ one h. subst AreShort (sym more) (short_added p.calls.items call one h))
