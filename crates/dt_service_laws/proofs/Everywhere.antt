-- What holds of each node of a network of services, and stays where one becomes another.
use Rattle.std.proofs.Common.{ℕ, ◌≡◌, ◌==◌, Bool, Some, sym, subst, ◌∙◌, inl, inr}
use Rattle.std.specs.Prelude.{cond}
use Rattle.std.proofs.lemmas.Bool.{cases_Bool}
use Rattle.dt_world_model.proofs.Tables.{look_write_other, nat_is, nat_self}
use Rattle.dt_world_model.specs.Tables.{look, write}
use Rattle.dt_endpoint.specs.Endpoints.{EndpointValue}
use Rattle.dt_service_model.specs.Turns.{Node}
use Rattle.dt_service_laws.specs.Services.{Services, node_with, with_node}
use Rattle.dt_service_laws.proofs.Runs.{IsAt, written_there}

abbrev pub IsOfEach : (Node → Type 0) → Services → Type 0
IsOfEach P s = (k : ℕ) (e : EndpointValue) → IsAt k s.network e → P (node_with k s e)

pub written_each : (P : Node → Type 0) (n : ℕ) (s : Services) (y : Node) → IsOfEach P s → P y → IsOfEach P (with_node n s y)
written_each P n s y all one k e there =
    elim (cases_Bool (n == k)) [
      | inl is ↦
          let first : look ◌==◌ k (write ◌==◌ n y.endpoint s.network.endpoints) ≡ Some y.endpoint = subst (λ (j : ℕ). look ◌==◌ j (write ◌==◌ n y.endpoint s.network.endpoints) ≡ Some y.endpoint) (nat_is n k is) (written_there n y.endpoint s.network.endpoints) in
          let two : Some y.endpoint ≡ Some e = sym first ∙ there in
          let same : y.endpoint ≡ e = cc in
          let here : P (record { endpoint = y.endpoint; book = cond (n == k) y.book (s.book k) }) = subst (λ (b : Bool). P (record { endpoint = y.endpoint; book = cond b y.book (s.book k) })) (sym is) one in
          subst (λ (z : EndpointValue). P (record { endpoint = z; book = cond (n == k) y.book (s.book k) })) same here
      | inr other ↦
          let was : P (node_with k s e) = all k e (sym (look_write_other ℕ EndpointValue ◌==◌ nat_self nat_is k n y.endpoint s.network.endpoints other) ∙ there) in
          subst (λ (b : Bool). P (record { endpoint = e; book = cond b y.book (s.book k) })) (sym other) was
    ]
