-- The host of the model that a host is, by its parts.
use Rattle.std.proofs.Common.{ℕ, ◌≡◌, List, ap, subst, sym, ◌∙◌}
use Rattle.dt_units.specs.declared.endpoints.Flow.{Flow}
use Rattle.dt_units.specs.declared.parameters.Params.{Params}
use Rattle.dt_send.specs.Senders.{SenderValue}
use Rattle.dt_recv.specs.Receivers.{ReceiverValue}
use Rattle.dt_world_model.specs.Host.{Host}
use Rattle.dt_host.specs.Hosts.{HostValue, receivers_of, send_records}
use Rattle.dt_host.specs.Sides.{RecvSideValue, SendSideValue}

abbrev pub host_in : ℕ → ℕ → List (Flow × SenderValue) → List (Flow × ReceiverValue) → Host
host_in me until ss rs = record { me = me; until = until; senders = send_records ss; receivers = receivers_of rs }

-- as its callers see it
abbrev pub seen : Params → ℕ → Host → HostValue
seen p latest host = record { rules = p; latest = latest; state = host }

-- by the parameters and the latest moment of its other side
pub either_seen : (p q : Params) (m n : ℕ) (host : Host) → q ≡ p → n ≡ m → seen q n host ≡ seen p m host
either_seen p q m n host e f = ap (λ (r : Params). seen r n host) e ∙ ap (λ (k : ℕ). seen p k host) f

-- A host of two sides, as its callers see it.
pub record IsHostOf (me until : ℕ) (s : SendSideValue) (r : RecvSideValue) (v : HostValue) : Type 0 where
  pub rules : r.rules ≡ s.rules
  pub latest : r.latest ≡ s.latest
  pub by_senders : seen s.rules s.latest (host_in me until s.entries r.entries) ≡ v
  pub by_receivers : seen r.rules r.latest (host_in me until s.entries r.entries) ≡ v

-- of its sides as they are lent from their boxes
pub lent : (me until : ℕ) (s t : SendSideValue) (r q : RecvSideValue) (v : HostValue) → t ≡ s → q ≡ r → r.rules ≡ s.rules → r.latest ≡ s.latest → seen s.rules s.latest (host_in me until s.entries r.entries) ≡ v → IsHostOf me until t q v
lent me until s t r q v senders receivers rules latest is =
    subst (λ (u : SendSideValue). IsHostOf me until u q v) (sym senders)
    (subst (λ (u : RecvSideValue). IsHostOf me until s u v) (sym receivers) (record {
      rules = rules;
      latest = latest;
      by_senders = is;
      by_receivers = either_seen s.rules r.rules s.latest r.latest (host_in me until s.entries r.entries) rules latest ∙ is;
    }))
