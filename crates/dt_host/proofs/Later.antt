-- Notes as time goes on, and when a host is to be woken by them.
use Rattle.std.proofs.Common.{ℕ, ◌≡◌, ◌≤◌, List, [], ◌∷◌, Option, refl, ap, ◌∙◌, arith}
use Rattle.dt_units.specs.declared.parameters.Params.{Params}
use Rattle.dt_units.specs.declared.endpoints.Flow.{Flow}
use Rattle.dt_units.specs.Moments.{earlier}
use Rattle.dt_flow_model.specs.SendRecord.{SendRecord}
use Rattle.dt_flow_model.specs.SendActs.{wake_of}
use Rattle.dt_flow_model.specs.ReceiveRecord.{Receiver, recv_wake_of}
use Rattle.dt_world_model.specs.Tables.{earliest}
use Rattle.dt_flow_model.specs.declared.moments.RecvMoments.{RecvMoments}
use Rattle.dt_host.specs.Notes.{SendNote, recv_wake}
use Rattle.dt_table.specs.Tables.{AreNoted}
use Rattle.dt_host.specs.Notes.{IsRecvNoted, IsSendNoted}

-- a note is that of a moment of the past at each later moment
pub later_noted : (p : Params) (latest now : ℕ) → latest ≤ now → (x : SendRecord) (n : SendNote) → IsSendNoted p latest x n → IsSendNoted p now x n
later_noted p latest now le x n is = let past = is.past in record { since = is.since; past = omega arith; moments = is.moments; wake = is.wake }

pub senders_wake : (p : Params) (latest : ℕ) (rs : List (Flow × SendRecord)) (ns : List SendNote) → AreNoted (IsSendNoted p latest) rs ns → earliest (λ (n : SendNote). n.wake) ns ≡ earliest (λ (e : Flow × SendRecord). wake_of p e.1) rs
senders_wake p latest [] [] all = refl
senders_wake p latest [] (n ∷ ns) all = absurd all
senders_wake p latest (e ∷ rs) [] all = absurd all
senders_wake p latest (e ∷ rs) (n ∷ ns) all = ap (λ (o : Option ℕ). earlier o (earliest (λ (n : SendNote). n.wake) ns)) all.0.wake ∙ ap (earlier (wake_of p e.1)) (senders_wake p latest rs ns all.1)

pub receivers_wake : (p : Params) (rs : List (Flow × Receiver)) (ns : List RecvMoments) → AreNoted (IsRecvNoted p) rs ns → earliest recv_wake ns ≡ earliest (λ (e : Flow × Receiver). recv_wake_of p e.1.standing) rs
receivers_wake p [] [] all = refl
receivers_wake p [] (n ∷ ns) all = absurd all
receivers_wake p (e ∷ rs) [] all = absurd all
receivers_wake p (e ∷ rs) (n ∷ ns) all = ap (λ (o : Option ℕ). earlier o (earliest recv_wake ns)) (ap recv_wake all.0) ∙ ap (earlier (recv_wake_of p e.1.standing)) (receivers_wake p rs ns all.1)
