-- A run from turn to turn, and how it ends.
use Rattle.std.proofs.Common.{◌≡◌, ◌+◌, ◌*◌, ◌^◌, ◌<◌, ◌≤◌, ◌==◌, ℕ, Bool, false, List, [], ◌∷◌, ◌++◌, length, map, Option, Some, None, Ok, refl, sym, ap, subst, ◌∙◌, arith, length-append}
use Rattle.std.specs.Option.{IfSome}
use Rattle.std.proofs.lemmas.List.{map-append}
use Rattle.std.specs.Io.KnownBytes.{Appends}
use Rattle.std.proofs.KnownBytes.{Appends-nil, Appends-trans}
use Rattle.dt_edges.specs.Clocks.{ClockSight, ReadsOne}
use Rattle.dt_edges.specs.Wires.{Datagram, HasWaited, OpensOne, TakesOne, WireSight}
use Rattle.dt_trace.specs.Inputs.{Input, Reading, Taken as Found}
use Rattle.dt_trace.specs.Lines.{most_number, most_taken}
use Rattle.dt_trace.specs.Standing.{HasFound}
use Rattle.dt_node.specs.declared.output_forms.OutputForm.{OutputForm}
use Rattle.dt_node.specs.declared.watch.Watch.{Watch}
use Rattle.dt_script.specs.Orders.{Orders, opening_of}
use Rattle.dt_turn.specs.Nodes.{Node, first_node}
use Rattle.dt_node.specs.Acts.{Act, Deed, act_of, fates}
use Rattle.dt_turn.specs.Turns.{turn}
use Rattle.dt_node.specs.Runs.{moment, most_equal, first_watch, next_watch}
use Rattle.dt_node.specs.Deeds.{Scene, Wrote, TurnEnds, counted, deeds_text}
use Rattle.dt_node.specs.Logging.{noted_text}
use Rattle.dt_node.specs.Serving.{Edges}
use Rattle.dt_node.proofs.Doing.{counted_more, fates_more}
use Rattle.dt_node.specs.TakingIn.{failed_gives}
use Rattle.dt_node.proofs.Listing.{ListCame, ListComes, ListTook, list_came, list_first, list_next, list_took}
use Rattle.dt_node.specs.Waiting.{pause_of, wait_in}
use Rattle.dt_node.proofs.Waited.{Asking, PausesCame, PausesCome, PausesTook, asking_first, asking_next, asking_take, asking_turn}
use Rattle.dt_node.proofs.Tracing.{SoFar, far_none, far_take, far_turn}
use Rattle.dt_node.proofs.RunsOn.{Comes, Came, comes_first, came_of, comes_next}
use Rattle.dt_node.proofs.Keeping.{Read, read_none, read_more, Taken, taken_none, taken_more, taken_on, Given, given_none, given_on, given_then}

pub some_map : {A : Type 0} (o : Option A) (P Q : A → Type 0) → ((x : A) → P x → Q x) → IfSome o P → IfSome o Q
some_map None P Q f h = tt
some_map (Some x) P Q f h = f x h

pub some_both : {A : Type 0} (o : Option A) (P Q R : A → Type 0) → ((x : A) → P x → Q x → R x) → IfSome o P → IfSome o Q → IfSome o R
some_both None P Q R f h k = tt
some_both (Some x) P Q R f h k = f x h k

pub some_any : {A : Type 0} (o : Option A) (P : A → Type 0) → ((x : A) → P x) → IfSome o P
some_any None P f = tt
some_any (Some x) P f = f x

abbrev pub scene_of : ℕ → Edges → Scene
scene_of gives n = record { gives = gives; wire = n.wire; held = n.held; faults = n.faults }

abbrev pub edges_of : Scene → ClockSight → Edges
edges_of t c = record { wire = t.wire; clock = c; held = t.held; faults = t.faults }

abbrev pub with_wire : Edges → WireSight → Edges
with_wire n v = record { wire = v; clock = n.clock; held = n.held; faults = n.faults }

abbrev pub with_held : Edges → WireSight → Option (List ℕ) → ℕ → Edges
with_held n v held faults = record { wire = v; clock = n.clock; held = held; faults = faults }

-- what is known of the edges after these readings, takes and deeds, and after this was written
pub record Kept (o : Orders) (b : Edges) (readings : List ℕ) (takes : List (Option Datagram)) (deeds : List Deed) (gives : ℕ) (text : List ℕ) (n : Edges) : Type 0 where
  pub held : Appends b.held n.held text
  pub calls : gives ≡ counted 0 (fates deeds)
  pub faults : n.faults ≡ b.faults
  pub given : Given deeds b.wire n.wire
  pub taken : Taken (opening_of o) takes b.wire n.wire
  pub read : Read readings b.clock n.clock
  pub counted : length takes + 1 ≡ length readings
  pub few : length readings ≤ most_equal * o.stop + 1
  pub small : o.stop < 2 ^ 32

-- a turn comes, whose reading isn't written yet
pub record Going (form : OutputForm) (o : Orders) (b : Edges) (reading gives : ℕ) (watch : Watch) (came : Option Datagram) (node : Node) (n : Edges) : Type 0 where
  pub earlier : List ℕ
  pub takes : List (Option Datagram)
  pub deeds : List Deed
  pub text : List ℕ
  pub inputs : List Input
  pub fits : reading ≤ most_number
  pub far : SoFar form o.setup.me inputs earlier takes deeds text
  pub list : ListComes o earlier reading takes deeds inputs watch came node
  pub kept : Kept o b (earlier ++ reading ∷ []) takes deeds gives text n
  pub comes : Comes o (earlier ++ reading ∷ []) takes (map act_of deeds) watch came node
  pub asks : Asking (PausesCome o (earlier ++ reading ∷ []) takes watch came node) (length takes) b.wire n.wire
  pub paced : length (earlier ++ reading ∷ []) ≤ most_equal * moment watch + watch.equal

-- a turn was made
pub record Passed (form : OutputForm) (o : Orders) (b : Edges) (gives : ℕ) (watch : Watch) (answer : Option Node) (n : Edges) : Type 0 where
  pub readings : List ℕ
  pub takes : List (Option Datagram)
  pub deeds : List Deed
  pub text : List ℕ
  pub inputs : List Input
  pub far : SoFar form o.setup.me inputs readings takes deeds text
  pub list : ListCame o readings takes deeds inputs watch answer
  pub kept : Kept o b readings takes deeds gives text n
  pub came : Came o readings takes (map act_of deeds) watch answer
  pub asks : Asking (PausesCame o readings takes watch answer) (length takes) b.wire n.wire
  pub paced : length readings ≤ most_equal * moment watch + watch.equal

module _ (form : OutputForm) (o : Orders) (b : Edges) where
  -- the first turn
  pub going_first : (v : WireSight) (r : ℕ) (d : ClockSight) → r ≤ most_number → o.stop < 2 ^ 32 → OpensOne (opening_of o) b.wire v → ReadsOne r b.clock d → Going form o b r 0 (first_watch r) None (first_node o) (record { wire = v; clock = d; held = b.held; faults = b.faults })
  going_first v r d fits small h k = record {
    earlier = [];
    takes = [];
    deeds = [];
    text = [];
    inputs = [];
    fits = fits;
    far = far_none form o.setup.me;
    list = list_first o r;
    kept = record {
      held = Appends-nil b.held;
      calls = refl;
      faults = refl;
      given = given_none b.wire v h.same;
      taken = taken_none (opening_of o) b.wire v h;
      read = read_more [] r b.clock b.clock d (read_none b.clock) k;
      counted = refl;
      few = omega arith;
      small = small;
    };
    comes = comes_first o r;
    asks = asking_first o r (opening_of o) b.wire v h;
    paced = omega arith;
  }

  pub kept_turn : (rs : List ℕ) (ts : List (Option Datagram)) (ds more : List Deed) (gives : ℕ) (text first : List ℕ) (n : Edges) (t : Scene) → Kept o b rs ts ds gives text n → Wrote form o.setup.me first more (scene_of gives n) t
      → Kept o b rs ts (ds ++ more) t.gives (text ++ (first ++ deeds_text form gives o.setup.me more)) (edges_of t n.clock)
  kept_turn rs ts ds more gives text first n t h k = record {
    held = Appends-trans b.held n.held t.held text (first ++ deeds_text form gives o.setup.me more) h.held k.held;
    calls = k.gives ∙ ap (λ (c : ℕ). counted c (fates more)) h.calls ∙ sym (counted_more 0 (fates ds) (fates more)) ∙ ap (counted 0) (sym (fates_more ds more));
    faults = k.faults ∙ h.faults;
    given = given_then ds more b.wire n.wire t.wire h.taken.plan h.given k.wire;
    taken = taken_on (opening_of o) ts b.wire n.wire t.wire h.taken k.wire.same;
    read = h.read;
    counted = h.counted;
    few = h.few;
    small = h.small;
  }

  -- a turn that was played whole
  pub passed_by : (reading gives : ℕ) (watch : Watch) (came : Option Datagram) (node : Node) (n : Edges) (t : Scene) (now : ℕ) (answer : Option Node) (stopped : Bool) → now ≡ moment watch → Going form o b reading gives watch came node n
      → TurnEnds (Ok stopped) form o.setup.me now (noted_text form (Reading reading)) (turn o now came node) answer (scene_of gives n) t → Passed form o b t.gives watch answer (edges_of t n.clock)
  passed_by reading gives watch came node n t now answer stopped e h (more, acts, wrote, answers) = record {
    readings = h.earlier ++ reading ∷ [];
    takes = h.takes;
    deeds = h.deeds ++ more;
    text = h.text ++ (noted_text form (Reading reading) ++ deeds_text form gives o.setup.me more);
    inputs = h.inputs ++ Reading reading ∷ failed_gives (counted 0 (fates h.deeds)) more;
    far = far_turn form o.setup.me h.inputs h.earlier h.takes h.deeds more h.text reading gives h.fits h.kept.calls h.far;
    list = list_came o h.earlier reading h.takes h.deeds more h.inputs watch came node now answer e acts answers h.list;
    kept = kept_turn (h.earlier ++ reading ∷ []) h.takes h.deeds more gives h.text (noted_text form (Reading reading)) n t h.kept wrote;
    came = subst (λ (xs : List Act). Came o (h.earlier ++ reading ∷ []) h.takes xs watch answer) (sym (map-append act_of h.deeds more))
        (came_of o (h.earlier ++ reading ∷ []) h.takes (map act_of h.deeds) (map act_of more) watch came node now answer e acts answers h.comes);
    asks = asking_turn o (h.earlier ++ reading ∷ []) h.takes watch b.wire n.wire t.wire came node now answer e answers wrote.wire.same h.asks;
    paced = h.paced;
  }

  -- and then what its take found is written
  pub record Noted (gives : ℕ) (watch : Watch) (node : Node) (t : Option Datagram) (n : Edges) : Type 0 where
    pub readings : List ℕ
    pub takes : List (Option Datagram)
    pub deeds : List Deed
    pub text : List ℕ
    pub inputs : List Input
    pub far : SoFar form o.setup.me inputs readings (takes ++ t ∷ []) deeds text
    pub list : ListTook o readings (takes ++ t ∷ []) deeds inputs watch t node
    pub held : Appends b.held n.held text
    pub faults : n.faults ≡ b.faults
    pub calls : gives ≡ counted 0 (fates deeds)
    pub given : Given deeds b.wire n.wire
    pub taken : Taken (opening_of o) (takes ++ t ∷ []) b.wire n.wire
    pub read : Read readings b.clock n.clock
    pub counted : length takes + 1 ≡ length readings
    pub few : length readings ≤ most_equal * o.stop + 1
    pub small : o.stop < 2 ^ 32
    pub came : Came o readings takes (map act_of deeds) watch (Some node)
    pub asks : Asking (PausesTook o readings (takes ++ t ∷ []) watch t node) (length (takes ++ t ∷ [])) b.wire n.wire
    pub paced : length readings ≤ most_equal * moment watch + watch.equal

  pub noted_take : (gives : ℕ) (watch : Watch) (node : Node) (n : Edges) (t : Option Datagram) (v : WireSight) (held : Option (List ℕ)) (faults wait : ℕ) → HasFound t → Appends n.held held (noted_text form (Found t)) → faults ≡ n.faults
      → Passed form o b gives watch (Some node) n → TakesOne most_taken t n.wire v → HasWaited wait v → wait ≡ wait_in (pause_of o watch node) → Noted gives watch node t (with_held n v held faults)
  noted_take gives watch node n t v held faults wait fits put same h k waited is = record {
    readings = h.readings;
    takes = h.takes;
    deeds = h.deeds;
    text = h.text ++ noted_text form (Found t);
    inputs = h.inputs ++ Found t ∷ [];
    far = far_take form o.setup.me h.inputs h.readings h.takes h.deeds h.text t fits h.far;
    list = list_took o h.readings h.takes t h.deeds h.inputs watch node h.list;
    held = Appends-trans b.held n.held held h.text (noted_text form (Found t)) h.kept.held put;
    faults = same ∙ h.kept.faults;
    calls = h.kept.calls;
    given = given_on h.deeds b.wire n.wire v h.kept.given k.same;
    taken = taken_more (opening_of o) h.takes t b.wire n.wire v h.kept.taken k;
    read = h.kept.read;
    counted = h.kept.counted;
    few = h.kept.few;
    small = h.kept.small;
    came = h.came;
    asks = asking_take o h.readings h.takes watch b.wire n.wire v node t wait k.same waited is h.asks;
    paced = h.paced;
  }

  -- and the next turn comes
  pub going_on : (gives : ℕ) (watch : Watch) (node : Node) (n : Edges) (t : Option Datagram) (r : ℕ) (d : ClockSight) → r ≤ most_number → (watch.equal == most_equal) ≡ false → watch.equal < most_equal → moment watch < o.stop →
      ((n : ℕ) → n ≤ most_equal * moment watch + watch.equal → n + 1 ≤ most_equal * moment (next_watch r watch) + (next_watch r watch).equal) →
      Noted gives watch node t n → ReadsOne r n.clock d → Going form o b r gives (next_watch r watch) t node (record { wire = n.wire; clock = d; held = n.held; faults = n.faults })
  going_on gives watch node n t r d fits e l m pace h j =
      let more : length (h.readings ++ r ∷ []) ≡ length h.readings + 1 = length-append h.readings (r ∷ []) in
      let further : length (h.takes ++ t ∷ []) ≡ length h.takes + 1 = length-append h.takes (t ∷ []) in
      record {
        earlier = h.readings;
        takes = h.takes ++ t ∷ [];
        deeds = h.deeds;
        text = h.text;
        inputs = h.inputs;
        fits = fits;
        far = h.far;
        list = list_next o h.readings r (h.takes ++ t ∷ []) t h.deeds h.inputs watch node h.list;
        kept = record {
          held = h.held;
          calls = h.calls;
          faults = h.faults;
          given = h.given;
          taken = h.taken;
          read = read_more h.readings r b.clock n.clock d h.read j;
          counted = omega (arith, more, further, h.counted);
          few = omega (arith, more, h.paced);
          small = h.small;
        };
        comes = comes_next o h.readings h.takes r t (map act_of h.deeds) watch node e h.came;
        asks = asking_next o h.readings r (h.takes ++ t ∷ []) t watch node (length (h.takes ++ t ∷ [])) b.wire n.wire h.asks;
        paced = subst (λ (m : ℕ). m ≤ most_equal * moment (next_watch r watch) + (next_watch r watch).equal) (sym more) (pace (length h.readings) h.paced);
      }
