-- No act is chosen exactly where none is due.
use Rattle.std.proofs.Common.{◌≡◌, ℕ, ◌≤◌, ◌<◌, ◌+◌, ◌↔◌, Bool, true, false, if◌then◌else◌, nat_le, Option, Some, None, IsNone, refl, arith}
use Rattle.std.proofs.lemmas.Bool.{leb-false}
use borrow.Author.Tests.{leb-true}
use Rattle.dt_units.specs.declared.parameters.Params.{Params}
use Rattle.dt_units.specs.Times.{receive_time}
use Rattle.dt_flow_model.specs.declared.acts.RecvKind.{RecvKind}
use Rattle.dt_flow_model.specs.declared.acts.RecvKind.TheVariants.{Release, Ack}
use Rattle.dt_flow_model.specs.ReceiveRecord.{ReceiveRecord, IsOwed, IsRecvDue, owing, recv_due_of, recv_moment_if}

owing_if : (now moment : ℕ) (b : Bool) → nat_le moment now ≡ b → IsNone (recv_moment_if b Ack moment) ↔ (moment ≤ now → ⊥)
owing_if now moment true e = let by : moment ≤ now = omega (arith, leb-true) in (λ none _. cc, λ never. absurd (never by))
owing_if now moment false e = let after : now < moment = omega (arith, leb-false) in (λ _ by. absurd (omega arith), λ _. refl)

owing_none : (now : ℕ) (due : Option ℕ) → IsNone (owing now due) ↔ (IsOwed now due → ⊥)
owing_none now None = (λ _ owed. owed, λ _. refl)
owing_none now (Some moment) = owing_if now moment _ refl

release_if : (p : Params) (now : ℕ) (y : ReceiveRecord) (b : Bool) → nat_le (y.touched + receive_time p) now ≡ b
    → IsNone (if b then Some (Release, y.touched + receive_time p) else owing now y.due) ↔ ((kind : RecvKind) → IsRecvDue p (Some y) kind now → ⊥)
release_if p now y true e =
    let by : y.touched + receive_time p ≤ now = omega (arith, leb-true) in
    (λ none _ _. cc, λ never. absurd (never Release by))
release_if p now y false e =
    let after : now < y.touched + receive_time p = omega (arith, leb-false) in
    let owed = owing_none now y.due in (
      λ none kind. elim kind as (λ k. IsRecvDue p (Some y) k now → ⊥) [
        | Release ↦ λ by. absurd (omega arith)
        | Ack ↦ owed.0 none
      ],
      λ never. owed.1 (never Ack),
    )

pub none_exactly : (p : Params) (now : ℕ) (standing : Option ReceiveRecord) → IsNone (recv_due_of p now standing) ↔ ((kind : RecvKind) → IsRecvDue p standing kind now → ⊥)
none_exactly p now None = (λ _ _ owed. owed, λ _. refl)
none_exactly p now (Some y) = release_if p now y _ refl
