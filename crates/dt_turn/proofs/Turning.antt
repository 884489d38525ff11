-- The parts of a turn, one after another.
use Rattle.std.proofs.Common.{◌≡◌, ℕ, ◌+◌, ◌<◌, ◌≤◌, zero, suc, true, false, nat_le, List, [], ◌∷◌, length, map, drop, get_or, Option, Some, None, Result, refl, sym, ap, subst, ◌∙◌, arith, add-one, drop-cons, le-leb}
use borrow.Author.Tests.{lt-leb}
use Rattle.std.specs.Prelude.{All}
use Rattle.std.proofs.lemmas.List.Elements.{All-head, All-tail}
use Rattle.dt_units.specs.declared.parameters.Params.{Params}
use Rattle.dt_edges.specs.Wires.{Datagram}
use Rattle.dt_reports.specs.Told.{Told}
use Rattle.dt_reports.specs.declared.reports.Report.TheVariants.{End}
use Rattle.dt_world_model.specs.Host.{Host}
use Rattle.dt_world_model.specs.Relay.{Parcel}
use Rattle.dt_world_model.specs.Script.{Script, Done, Tell, ◌>>=◌, Plays, Stops, Concludes}
use Rattle.dt_flow_model.specs.SendActs.{IsBefore}
use Rattle.dt_world_model.specs.Station.{Station, station_event, station_wake, Tick}
use Rattle.dt_world_laws.proofs.Wakes.{tick_before_wake}
use Rattle.dt_station.proofs.Playing.{Leads, leads_after, plays_bind, stops_within, stops_after, ends_after}
use Rattle.dt_shelf.specs.Shelves.{Shelf}
use Rattle.dt_script.specs.declared.orders.TimedCommand as code
use Rattle.dt_script.specs.Codes.{IsCommandOf, IsTaskOf, command_seen}
use Rattle.dt_script.specs.Orders.{Command, Orders}
use Rattle.dt_turn.specs.Nodes.{Node, node_with}
use Rattle.dt_turn.specs.Turns.{event_of, hand_in, do_due, finish, turn}

due_now : (p : Params) (now : ℕ) (shelf : Option Shelf) (c : Command) (rest : List Command) (st : Station (Unit {0})) → c.at ≤ now → do_due p now shelf (c ∷ rest) st ≡ (station_event p now (event_of c.task) st >>= λ after. do_due p now shelf rest after)
due_now p now shelf c rest st h = let y : nat_le c.at now ≡ true = le-leb _ _ h in rw y refl

due_later : (p : Params) (now : ℕ) (shelf : Option Shelf) (c : Command) (rest : List Command) (st : Station (Unit {0})) → now < c.at → do_due p now shelf (c ∷ rest) st ≡ Done (node_with st (c ∷ rest) shelf)
due_later p now shelf c rest st h = let n : nat_le c.at now ≡ false = lt-leb _ _ h in rw n refl

-- the next command of those that are left
pub left_next : (cs : List code.TimedCommand) (n : ℕ) (c : code.TimedCommand) → n < length cs → c ≡ get_or cs n c → map command_seen (drop n cs) ≡ command_seen c ∷ map command_seen (drop (n + 1) cs)
left_next cs n c h e = rw add-one (ap (map command_seen) (drop-cons cs n c h) ∙ ap (λ (x : code.TimedCommand). command_seen x ∷ map command_seen (drop (suc n) cs)) (sym e))

pub task_at : (me : ℕ) (cs : List code.TimedCommand) (n : ℕ) (c : code.TimedCommand) → n < length cs → c ≡ get_or cs n c → All (IsCommandOf me) (map command_seen cs) → IsTaskOf me (command_seen c).task
task_at me [] n c h e t = absurd (omega arith)
task_at me (d ∷ cs) zero c h e t = subst (λ (x : code.TimedCommand). IsTaskOf me (command_seen x).task) (sym e) (All-head (IsCommandOf me) (command_seen d) (map command_seen cs) t)
task_at me (d ∷ cs) (suc n) c h e t = task_at me cs n c (omega arith) e (All-tail (IsCommandOf me) (command_seen d) (map command_seen cs) t)

module _ {V : Type 0} (tells : V → Told → V → Type 0) (tags : V → Host → List ℕ → Unit {0} → V → Type 0) (hands : V → ℕ → Parcel (Unit {0}) → V → Type 0) (fails : V → V → Type 0) where
  module _ {A : Type 0} (whole : Script (Unit {0}) A) (first here : V) (p q : Params) (now : ℕ) (shelf : Option Shelf) (cs : List Command) (c : Command) (rest : List Command) (st : Station (Unit {0})) (params : q ≡ p) (left : cs ≡ c ∷ rest) where
    begun : c.at ≤ now → do_due p now shelf cs st ≡ (station_event q now (event_of c.task) st >>= λ after. do_due p now shelf rest after)
    begun due =
        ap (λ cs. do_due p now shelf cs st) left ∙ due_now p now shelf c rest st due
        ∙ ap (λ q. station_event q now (event_of c.task) st >>= λ after. do_due p now shelf rest after) (sym params)

  module _ (whole : Script (Unit {0}) Node) (first here : V) (p q : Params) (now : ℕ) (shelf : Option Shelf) (cs : List Command) (c : Command) (rest : List Command) (st : Station (Unit {0})) (params : q ≡ p) (left : cs ≡ c ∷ rest) (leads : Leads tells tags hands fails whole first (do_due p now shelf cs st) here) where
    pub due_goes : (there : V) (after : Station (Unit {0})) → c.at ≤ now → Plays tells tags hands (station_event q now (event_of c.task) st) here there after → Leads tells tags hands fails whole first (do_due p now shelf rest after) there
    due_goes there after due h =
        leads_after tells tags hands fails whole first (station_event q now (event_of c.task) st) (λ after. do_due p now shelf rest after) here there after
        (subst (λ (s : Script (Unit {0}) Node). Leads tells tags hands fails whole first s here) (begun whole first here p q now shelf cs c rest st params left due) leads) h

    pub due_stops : (there : V) → c.at ≤ now → Stops tells tags hands fails (station_event q now (event_of c.task) st) here there → Stops tells tags hands fails whole first there
    due_stops there due h =
        let l = subst (λ (s : Script (Unit {0}) Node). Leads tells tags hands fails whole first s here) (begun whole first here p q now shelf cs c rest st params left due) leads in
        l.stops there (stops_within tells tags hands fails (station_event q now (event_of c.task) st) (λ after. do_due p now shelf rest after) here there h)

    pub due_ends : now < c.at → Plays tells tags hands whole first here (node_with st cs shelf)
    due_ends late =
        let l = subst (λ (s : Script (Unit {0}) Node). Leads tells tags hands fails whole first s here) (ap (λ cs. do_due p now shelf cs st) left ∙ due_later p now shelf c rest st late) leads in
        l.plays here (node_with st cs shelf) (refl, ap (λ cs. node_with st cs shelf) (sym left))

  module _ (o : Orders) (now : ℕ) (node : Node) (v w : V) where
    stop_now : o.stop ≤ now → finish o now node ≡ Tell End (Done None)
    stop_now h = let y : nat_le o.stop now ≡ true = le-leb _ _ h in rw y refl

    stop_later : now < o.stop → finish o now node ≡ (station_event o.setup.params now Tick node.station >>= λ after. Done (Some (node_with after node.commands node.shelf)))
    stop_later h = let n : nat_le o.stop now ≡ false = lt-leb _ _ h in rw n refl

    pub stopped_plays : o.stop ≤ now → tells v End w → Plays tells tags hands (finish o now node) v w None
    stopped_plays h t = subst (λ (s : Script (Unit {0}) (Option Node)). Plays tells tags hands s v w None) (sym (stop_now h)) (w, t, (refl, refl))

    pub ticked_plays : (q : Params) (after : Station (Unit {0})) → q ≡ o.setup.params → now < o.stop → Plays tells tags hands (station_event q now Tick node.station) v w after → Plays tells tags hands (finish o now node) v w (Some (node_with after node.commands node.shelf))
    ticked_plays q after e h k =
        subst (λ (s : Script (Unit {0}) (Option Node)). Plays tells tags hands s v w (Some (node_with after node.commands node.shelf))) (sym (stop_later h))
        (plays_bind tells tags hands fails (station_event o.setup.params now Tick node.station) (λ after. Done (Some (node_with after node.commands node.shelf))) v w w after (Some (node_with after node.commands node.shelf))
        (subst (λ (q : Params). Plays tells tags hands (station_event q now Tick node.station) v w after) e k) (refl, refl))

    pub ticked_stops : (q : Params) → q ≡ o.setup.params → now < o.stop → Stops tells tags hands fails (station_event q now Tick node.station) v w → Stops tells tags hands fails (finish o now node) v w
    ticked_stops q e h k =
        subst (λ (s : Script (Unit {0}) (Option Node)). Stops tells tags hands fails s v w) (sym (stop_later h))
        (stops_within tells tags hands fails (station_event o.setup.params now Tick node.station) (λ after. Done (Some (node_with after node.commands node.shelf))) v w
        (subst (λ (q : Params). Stops tells tags hands fails (station_event q now Tick node.station) v w) e k))

  module _ (o : Orders) (q : Params) (now : ℕ) (came : Option Datagram) (node : Node) (v : V) (params : q ≡ o.setup.params) where
    pub first_stops : (w : V) → Stops tells tags hands fails (hand_in q now came node.station node.shelf) v w → Stops tells tags hands fails (turn o now came node) v w
    first_stops w h = stops_within tells tags hands fails (hand_in o.setup.params now came node.station node.shelf) (λ r. do_due o.setup.params now r.1 node.commands r.0 >>= λ done. finish o now done) v w (subst (λ (q : Params). Stops tells tags hands fails (hand_in q now came node.station node.shelf) v w) params h)

    pub second_stops : (m w : V) (r : Station (Unit {0}) × Option Shelf) → Plays tells tags hands (hand_in q now came node.station node.shelf) v m r → Stops tells tags hands fails (do_due o.setup.params now r.1 node.commands r.0) m w → Stops tells tags hands fails (turn o now came node) v w
    second_stops m w r h k =
        stops_after tells tags hands fails (hand_in o.setup.params now came node.station node.shelf) (λ r. do_due o.setup.params now r.1 node.commands r.0 >>= λ done. finish o now done) v m w r
        (subst (λ (q : Params). Plays tells tags hands (hand_in q now came node.station node.shelf) v m r) params h)
        (stops_within tells tags hands fails (do_due o.setup.params now r.1 node.commands r.0) (λ done. finish o now done) m w k)

    pub third_ends : {U E : Type 0} (m n w : V) (r : Station (Unit {0}) × Option Shelf) (done : Node) (b : Option Node) (result : Result U E) → Plays tells tags hands (hand_in q now came node.station node.shelf) v m r → Plays tells tags hands (do_due o.setup.params now r.1 node.commands r.0) m n done → Concludes tells tags hands fails result (finish o now done) n w b → Concludes tells tags hands fails result (turn o now came node) v w b
    third_ends m n w r done b result h k l =
        ends_after tells tags hands fails (hand_in o.setup.params now came node.station node.shelf) (λ r. do_due o.setup.params now r.1 node.commands r.0 >>= λ done. finish o now done) v m w r b result
        (subst (λ (q : Params). Plays tells tags hands (hand_in q now came node.station node.shelf) v m r) params h)
        (ends_after tells tags hands fails (do_due o.setup.params now r.1 node.commands r.0) (λ done. finish o now done) m n w done b result k l)

  -- before its wake a station's tick does nothing
  pub no_tick : (p : Params) (now : ℕ) (st : Station (Unit {0})) (v : V) → IsBefore now (station_wake p st) → Plays tells tags hands (station_event p now Tick st) v v st
  no_tick p now st v h =
      subst (λ (s : Script (Unit {0}) (Station (Unit {0}))). Plays tells tags hands s v v st) (sym (tick_before_wake p now st h)) (refl, refl)
