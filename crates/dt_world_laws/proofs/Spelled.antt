-- What a host keeps of its send records, each act keeps; and what an act makes can be spelled.
use Rattle.std.proofs.Common.{ℕ, ◌<◌, ◌^◌, ◌≡◌, Bool, List, length, Some, arith}
use Rattle.dt_items.specs.declared.item.Item.{Item}
use Rattle.dt_units.specs.declared.parameters.Params.{Params}
use Rattle.dt_units.specs.declared.endpoints.Flow.{Flow}
use Rattle.dt_units.specs.Limits.{IsWithinLimits}
use Rattle.dt_flow_model.specs.SendRecord.{Segment, SendRecord, next_of, cut_of}
use Rattle.dt_flow_model.specs.SendActs.{Act, IsDue, record_after}
use Rattle.dt_flow_model.specs.ReceiveRecord.{free_of}
use Rattle.dt_flow_model.specs.Numbering.{number_of}
use Rattle.dt_flow_model.specs.Frames.{ack_packet, data_packet, meet_packet}
use Rattle.dt_units.specs.Flows.{IsFlow}
use Rattle.dt_flow_model.specs.Keeping.{IsSegment}
use Rattle.dt_flow_model.proofs.Records.{act_kept, data_rules, meet_rules}
use Rattle.dt_flow_laws.proofs.Records.{ack_rules}
use Rattle.dt_flow_model.proofs.Records as flow
use Rattle.dt_world_model.specs.Host.{IsSender}
use Rattle.dt_world_laws.proofs.Frames.{CanBeSpelled}

module _ (p : Params) (limits : IsWithinLimits p) (me : ℕ) (f : Flow) (x : SendRecord) (h : IsSender p me f x) where
  pub cut_segment : (now : ℕ) (cut rest : List Item) → cut ≡ cut_of p x → 0 < length cut → IsSegment p (record { offset = next_of x; items = cut; first = now; last = now })
  cut_segment now cut rest e some = flow.cut_segment p limits x h.kept now cut rest e some

  pub record_kept : (now : ℕ) (act : Act) (after : SendRecord) → IsDue p now x act → record_after p now x act ≡ Some after → IsSender p me f after
  record_kept now act after due e = record { flow = h.flow; from = h.from; kept = act_kept p limits x h.kept now act after due e }

  -- its packets can be spelled
  pub data_spelled : (g : Segment) (drf : Bool) → IsSegment p g → CanBeSpelled p.mpl f.from.0 f.to.0 (data_packet f (number_of p g.offset) drf g.items)
  data_spelled g drf k =
      record {
        rules = data_rules p f g drf limits k;
        ports = (h.flow.from_port, h.flow.to_port);
        alive = omega (arith, limits.mpl);
        life = omega (arith, limits.mpl);
        from = h.flow.from;
        to = h.flow.to;
      }

  pub meet_spelled : CanBeSpelled p.mpl f.from.0 f.to.0 (meet_packet f (number_of p x.left))
  meet_spelled =
      record {
        rules = meet_rules p f x.left;
        ports = (h.flow.from_port, h.flow.to_port);
        alive = omega (arith, limits.mpl);
        life = omega (arith, limits.mpl);
        from = h.flow.from;
        to = h.flow.to;
      }

-- an acknowledgement of a flow can be spelled
pub ack_spelled : (p : Params) (f : Flow) (unread : List Item) (number : ℕ) → IsWithinLimits p → IsFlow f → number < 2 ^ 32 → CanBeSpelled p.mpl f.to.0 f.from.0 (ack_packet f number (free_of p unread))
ack_spelled p f unread number limits flow lt =
    record {
      rules = ack_rules p f unread number limits lt;
      ports = (flow.to_port, flow.from_port);
      alive = omega (arith, limits.mpl);
      life = omega (arith, limits.mpl);
      from = flow.to;
      to = flow.from;
    }
