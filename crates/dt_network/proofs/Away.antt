-- A station that was away for the quiet time starts again without silence, and all facts stand.
use Rattle.std.proofs.Common.{◌≡◌, ◌∙◌, ◌==◌, ◌+◌, ◌<◌, ◌≤◌, ℕ, true, false, List, [], ◌∷◌, map, Option, Some, None, refl, sym, ap, subst, arith, inl, inr}
use Rattle.std.specs.Prelude.{unwrap_or}
use Rattle.std.proofs.lemmas.Bool.{cases_Bool}
use Rattle.std.proofs.lemmas.List.Elements.{All-nil, All-weaker}
use Rattle.dt_units.specs.declared.endpoints.Flow.{Flow}
use Rattle.dt_units.specs.declared.parameters.Params.{Params}
use Rattle.dt_units.specs.Limits.{IsWithinLimits}
use Rattle.dt_units.specs.Times.{quiet_time}
use Rattle.dt_flow_model.specs.Facts.{Facts, free_from}
use Rattle.dt_flow_model.specs.Flow.{Run}
use Rattle.dt_flow_model.specs.Frames.{Mark}
use Rattle.dt_flow_model.specs.Ledger.{last_at, top}
use Rattle.dt_world_laws.proofs.Books.{no_placed}
use Rattle.dt_world_laws.proofs.Good.{Onward, all_outs_weaker, copy_on, waiting_on}
use Rattle.dt_world_laws.proofs.Promise.{facts_are_safe}
use Rattle.dt_world_model.proofs.Tables.{all_look, all_write, look_write, look_write_other, nat_is, nat_self}
use Rattle.dt_world_model.specs.Ledgers.{FlowLedger, FlowRun, ledger_of, run_of}
use Rattle.dt_world_model.specs.Relay.{Out, Waiting, charge_of, empty_out}
use Rattle.dt_world_model.specs.Tables.{look, write}
use Rattle.dt_world_model.specs.World.{Placed, ReceiverSide, SenderSide, World, flow_state, placed, receiver_side, sender_side, view}
use Rattle.dt_world_model.specs.WorldFacts.{AllOuts, IsCopy, IsPlaced, IsWaiting, SafeWorld, WorldFacts}
use Rattle.dt_world_model.specs.WorldStep.{link_in, restart_at, restarted}
use Rattle.dt_network.proofs.Rerouting.{all_entries_weaker}
use Rattle.dt_network.proofs.Worlds.{goes_by_restart}
use Rattle.dt_network.specs.Away.{WasAway, open_at_once, opened_at_once}

all_emptied : (P : Waiting Mark → Type 0) (outs : List (Out Mark)) → AllOuts P (map (λ (o : Out Mark). let q : Out Mark = empty_out o.link o.pace in q) outs)
all_emptied P [] = tt
all_emptied P (o ∷ os) = (All-nil P, all_emptied P os)

free_by : (p : Params) (now : ℕ) (o : Option Run) → ((run : Run) → o ≡ Some run → run.sent + quiet_time p ≤ now) → free_from p o ≤ now
free_by p now None h = omega arith
free_by p now (Some run) h = h run refl

module _ (w : World) (n : ℕ) (at : Placed) (there : look ◌==◌ n w.stations ≡ Some at) (limits : IsWithinLimits w.params) (facts : WorldFacts w) (away : WasAway w n) where
  abbrev silent : Placed
  silent = restarted w.params w.now at

  abbrev loud : Placed
  loud = opened_at_once w.params w.now at

  abbrev before : World
  before = (restart_at w n (Some at)).1

  abbrev after : World
  after = open_at_once w n at

  facts_before : WorldFacts before
  facts_before = (goes_by_restart w n at there limits facts).facts

  loud_there : look ◌==◌ n after.stations ≡ Some loud
  loud_there = look_write ℕ Placed ◌==◌ nat_self nat_is n loud w.stations

  placed_before : (m : ℕ) → (n == m) ≡ true → placed before m ≡ silent
  placed_before m y = subst (λ (k : ℕ). placed before k ≡ silent) (nat_is n m y) (ap (λ (o : Option Placed). unwrap_or o (no_placed n)) (look_write ℕ Placed ◌==◌ nat_self nat_is n silent w.stations))

  placed_after : (m : ℕ) → (n == m) ≡ true → placed after m ≡ loud
  placed_after m y = subst (λ (k : ℕ). placed after k ≡ loud) (nat_is n m y) (ap (λ (o : Option Placed). unwrap_or o (no_placed n)) loud_there)

  placed_other : (m : ℕ) → (n == m) ≡ false → placed before m ≡ placed after m
  placed_other m o =
      ap (λ (x : Option Placed). unwrap_or x (no_placed m)) (look_write_other ℕ Placed ◌==◌ nat_self nat_is m n silent w.stations o)
      ∙ sym (ap (λ (x : Option Placed). unwrap_or x (no_placed m)) (look_write_other ℕ Placed ◌==◌ nat_self nat_is m n loud w.stations o))

  -- the ends of a flow
  sender_opens : (f : Flow) (y : ReceiverSide) (l : FlowLedger) (r : FlowRun) → free_from w.params r.run ≤ w.now → Facts w.params (flow_state w.now (sender_side silent f) y l r) → Facts w.params (flow_state w.now (sender_side loud f) y l r)
  sender_opens f y l r free k = record {
    send_side = record { old = k.send_side.old; ledger = k.send_side.ledger; past = k.send_side.past; lives = k.send_side.lives; record_facts = omega (arith, free) };
    receive_side = k.receive_side;
    read_side = k.read_side;
    spacing = record { crossings = k.spacing.crossings; sender = k.spacing.sender; given_in_time = k.spacing.given_in_time };
  }

  receiver_opens : (f : Flow) (x : SenderSide) (l : FlowLedger) (r : FlowRun) → (0 < top l.given → last_at l.given + quiet_time w.params ≤ w.now) → Facts w.params (flow_state w.now x (receiver_side silent f) l r) → Facts w.params (flow_state w.now x (receiver_side loud f) l r)
  receiver_opens f x l r past k =
      let side = k.receive_side in
      record {
        send_side = k.send_side;
        receive_side = record {
          sent_now = side.sent_now;
          began = side.began;
          first_end = side.first_end;
          firsts = side.firsts;
          given_facts = side.given_facts;
          moments = side.moments;
          last_now = side.last_now;
          last_before = side.last_before;
          record_facts = λ some. omega (arith, past some);
          rising = side.rising;
          skipped = side.skipped;
          acked = side.acked;
        };
        read_side = k.read_side;
        spacing = record { crossings = k.spacing.crossings; sender = k.spacing.sender; given_in_time = k.spacing.given_in_time };
      }

  flow_opens : (f : Flow) → Facts w.params (view after f)
  flow_opens f =
      elim (cases_Bool (n == f.to.0)) [
        | inl y ↦
            subst (λ (s : Placed). Facts w.params (flow_state w.now (sender_side (placed after f.from.0) f) (receiver_side s f) l r)) (sym (placed_after f.to.0 y))
            (receiver_opens f (sender_side (placed after f.from.0) f) l r (away.accepted f (sym (nat_is n f.to.0 y)))
            (subst (λ (s : Placed). Facts w.params (flow_state w.now (sender_side (placed after f.from.0) f) (receiver_side s f) l r)) (placed_before f.to.0 y) half))
        | inr o ↦ subst (λ (s : Placed). Facts w.params (flow_state w.now (sender_side (placed after f.from.0) f) (receiver_side s f) l r)) (placed_other f.to.0 o) half
      ]
    where
      l : FlowLedger
      l = ledger_of w.ledgers f

      r : FlowRun
      r = run_of w.ledgers f

      there_still : ReceiverSide
      there_still = receiver_side (placed before f.to.0) f

      half : Facts w.params (flow_state w.now (sender_side (placed after f.from.0) f) there_still l r)
      half =
          elim (cases_Bool (n == f.from.0)) [
            | inl y ↦
                subst (λ (s : Placed). Facts w.params (flow_state w.now (sender_side s f) there_still l r)) (sym (placed_after f.from.0 y))
                (sender_opens f there_still l r (free_by w.params w.now r.run (λ run is. away.sent f run (sym (nat_is n f.from.0 y)) is))
                (subst (λ (s : Placed). Facts w.params (flow_state w.now (sender_side s f) there_still l r)) (placed_before f.from.0 y) (facts_before.flows f)))
            | inr o ↦ subst (λ (s : Placed). Facts w.params (flow_state w.now (sender_side s f) there_still l r)) (placed_other f.from.0 o) (facts_before.flows f)
          ]

  -- what is under way is of the same ledgers
  on : Onward w.params (view w) (view after)
  on g q h = record { facts = h.facts; near = h.near }

  placed_on : (m : ℕ) (a : Placed) → IsPlaced w.params w.now (view w) m a → IsPlaced w.params w.now (view after) m a
  placed_on m a h = record { me = h.me; host = h.host; waiting = all_outs_weaker (IsWaiting w.params w.now a.zero (view w)) (IsWaiting w.params w.now a.zero (view after)) (λ x k. waiting_on w.params w.now a.zero (view w) (view after) x on k) a.station.relay.outs h.waiting; transmitted = h.transmitted }

  pub opening_keeps : WorldFacts after
  opening_keeps =
      let old = all_look ℕ Placed ◌==◌ nat_self nat_is (IsPlaced w.params w.now (view w)) n at w.stations there facts.stations in
      record {
        flows = flow_opens;
        copies = All-weaker (IsCopy w.params w.now (view w)) (IsCopy w.params w.now (view after)) (λ c z. copy_on w.params w.now (view w) (view after) c on z) w.copies facts.copies;
        stations = all_write ℕ Placed ◌==◌ nat_self nat_is (IsPlaced w.params w.now (view after)) n loud w.stations
            (record { me = old.me; host = record { one_sender = tt; one_receiver = tt; senders = tt; receivers = tt }; waiting = all_emptied (IsWaiting w.params w.now at.zero (view after)) at.station.relay.outs; transmitted = tt })
            (all_entries_weaker (IsPlaced w.params w.now (view w)) (IsPlaced w.params w.now (view after)) placed_on w.stations facts.stations);
        charges = λ link a e.
            let to = (link_in link w.links).to in
            elim (cases_Bool (n == to)) [
              | inl y ↦
                  let same : n ≡ to = nat_is n to y in
                  let found : look ◌==◌ to (write ◌==◌ n loud w.stations) ≡ Some loud = subst (λ (k : ℕ). look ◌==◌ k (write ◌==◌ n loud w.stations) ≡ Some loud) same loud_there in
                  let one : Some loud ≡ Some a = sym found ∙ e in
                  let is : loud ≡ a = cc in
                  sym (ap (λ (x : Placed). charge_of link x.station.relay.ins) is) ∙ facts.charges link at (subst (λ (k : ℕ). look ◌==◌ k w.stations ≡ Some at) same there)
              | inr o ↦ facts.charges link a (sym (look_write_other ℕ Placed ◌==◌ nat_self nat_is to n loud w.stations o) ∙ e)
            ];
      }

  pub opening_is_safe : SafeWorld after
  opening_is_safe f = facts_are_safe after f opening_keeps
