-- The act of a host that comes next, by its two sides.
use Rattle.std.proofs.Common.{ℕ, ◌≡◌, ◌<◌, Option, Some, None, refl, sym, subst, ◌∙◌}
use Rattle.std.specs.Prelude.{IfSome}
use Rattle.dt_units.specs.declared.parameters.Params.{Params}
use Rattle.dt_flow_model.specs.declared.acts.SendKind.{SendKind}
use Rattle.dt_flow_model.specs.declared.acts.SendKind.TheVariants as S
use Rattle.dt_flow_model.specs.declared.acts.RecvKind.{RecvKind}
use Rattle.dt_world_model.specs.Host.{Host, recv_class, send_class}
use Rattle.dt_world_model.specs.Tables.{Distinct, same_flow}
use Rattle.dt_host.specs.declared.dues.DueAct.{DueAct}
use Rattle.dt_host.specs.declared.dues.DueKind.TheVariants as due
use Rattle.dt_host.specs.Dues.{IsNext, soonest_recv, soonest_send}
use Rattle.dt_host.specs.Hosts.{AreReceiveEntries, AreSendEntries, receivers_of, send_records}
use Rattle.dt_host.specs.Sides.{RecvSideValue, SendSideValue}
use Rattle.dt_host.specs.Soonest.{IsQuiet, IsSoonest, receiver_moment, sender_moment}
use Rattle.dt_host.proofs.HostParts.{host_in}
use Rattle.dt_host.proofs.Offered.{either_way, receiver_first, sender_first}
use Rattle.dt_host.proofs.Turns.{next_is}
use Rattle.dt_host.proofs.Walks.{walk_is}

-- nothing of a kind is due on a side, or this is due first
abbrev pub SendQuiet : SendSideValue → SendKind → Type 0
SendQuiet s k = IsQuiet (sender_moment s.rules s.latest k) s.latest s.entries

abbrev pub RecvQuiet : RecvSideValue → RecvKind → Type 0
RecvQuiet r k = IsQuiet (receiver_moment r.rules k) r.latest r.entries

abbrev pub SendFirst : SendSideValue → SendKind → DueAct → Type 0
SendFirst s k d = IsSoonest (sender_moment s.rules s.latest k) s.latest s.entries (due.Send k) d

abbrev pub RecvFirst : RecvSideValue → RecvKind → DueAct → Type 0
RecvFirst r k d = IsSoonest (receiver_moment r.rules k) r.latest r.entries (due.Recv k) d

module _ (me until : ℕ) (s : SendSideValue) (r : RecvSideValue) (rules : r.rules ≡ s.rules) (latest : r.latest ≡ s.latest) (all_s : AreSendEntries s.rules s.entries) (all_r : AreReceiveEntries r.rules r.entries)
    (one_s : Distinct same_flow (send_records s.entries)) (one_r : Distinct same_flow (receivers_of r.entries)) where
  abbrev pub host : Host
  host = host_in me until s.entries r.entries

  received : AreReceiveEntries s.rules r.entries
  received = subst (λ (p : Params). AreReceiveEntries p r.entries) rules all_r

  quiet_here : (k : RecvKind) → RecvQuiet r k → IsQuiet (receiver_moment s.rules k) s.latest r.entries
  quiet_here k h = subst (λ (n : ℕ). IsQuiet (receiver_moment s.rules k) n r.entries) latest (subst (λ (p : Params). IsQuiet (receiver_moment p k) r.latest r.entries) rules h)

  first_here : (k : RecvKind) (d : DueAct) → RecvFirst r k d → IsSoonest (receiver_moment s.rules k) s.latest r.entries (due.Recv k) d
  first_here k d h = subst (λ (n : ℕ). IsSoonest (receiver_moment s.rules k) n r.entries (due.Recv k) d) latest (subst (λ (p : Params). IsSoonest (receiver_moment p k) r.latest r.entries (due.Recv k) d) rules h)

  next_of : (d : Option DueAct) → d ≡ soonest_recv s.latest (soonest_send s.latest None s.entries) r.entries → IsNext s.rules s.latest host d
  next_of d e = next_is s.rules s.latest host one_s one_r d (e ∙ walk_is s.rules s.latest host s.entries r.entries all_s received refl refl)

  pub sender_next : (k : SendKind) → ((j : SendKind) → send_class j < send_class k → SendQuiet s j) → ((j : RecvKind) → recv_class j < send_class k → RecvQuiet r j) → (d : DueAct) → SendFirst s k d → IsNext s.rules s.latest host (Some d)
  sender_next k low_s low_r d first = next_of (Some d) (sym (sender_first s.rules s.latest s.entries all_s r.entries received k low_s (λ j h. quiet_here j (low_r j h)) d first))

  pub receiver_next : (k : RecvKind) → ((j : SendKind) → send_class j < recv_class k → SendQuiet s j) → ((j : RecvKind) → recv_class j < recv_class k → RecvQuiet r j) → (d : DueAct) → RecvFirst r k d → IsNext s.rules s.latest host (Some d)
  receiver_next k low_s low_r d first = next_of (Some d) (sym (receiver_first s.rules s.latest s.entries all_s r.entries received k low_s (λ j h. quiet_here j (low_r j h)) d (first_here k d first)))

  pub last_next : ((j : SendKind) → send_class j < 6 → SendQuiet s j) → ((j : RecvKind) → recv_class j < 6 → RecvQuiet r j) → (o : Option DueAct) → (o ≡ None → SendQuiet s S.Meet) → IfSome o (λ d. SendFirst s S.Meet d) → IsNext s.rules s.latest host o
  last_next low_s low_r o quiet found = next_of o (either_way s.rules s.latest s.entries all_s r.entries received low_s (λ j h. quiet_here j (low_r j h)) o quiet found)
