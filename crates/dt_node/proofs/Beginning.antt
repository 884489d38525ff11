-- What is written before something else: the line of an input, and then the lines of a turn.
use Rattle.std.proofs.Common.{◌≡◌, ℕ, ◌+◌, Bool, List, [], ◌++◌, length, map, take, Option, Result, Ok, Err, refl, sym, ap, subst, ◌∙◌}
use Rattle.std.specs.Io.KnownBytes.{Appends}
use Rattle.std.proofs.KnownBytes.{Appends-trans}
use Rattle.std.proofs.Math.Seq.{take-append-add}
use Rattle.dt_edges.specs.Sinks.{SinkSight, Takes, TakesPart}
use Rattle.dt_edges.specs.Wires.{WireSight}
use Rattle.dt_edges.proofs.Puts.{takes_nothing, takes_part_first}
use Rattle.dt_fold.specs.declared.stops.Stop.{Stop}
use Rattle.dt_fold.specs.declared.stops.Stop.TheVariants as stops
use Rattle.dt_trace.specs.Inputs.{Input, Reading}
use Rattle.dt_world_model.specs.Script.{Script}
use Rattle.dt_node.specs.declared.output_forms.OutputForm.{OutputForm}
use Rattle.dt_node.specs.declared.output_forms.OutputForm.TheVariants as forms
use Rattle.dt_turn.specs.Codes.{node_seen}
use Rattle.dt_turn.specs.declared.nodes.Node.{Node}
use Rattle.dt_node.specs.declared.turns.Turn.{Turn}
use Rattle.dt_node.specs.Acts.{acts_of}
use Rattle.dt_node.specs.Deeds.{FaultsBy, Scene, TurnEnds, deeds_text, scene, unlost}
use Rattle.dt_node.specs.Logging.{Notes, noted_text}
use Rattle.dt_node.specs.Serving.{AppendsPart}
use Rattle.dt_node.specs.TurnScripts.{PlaysTurn, turn_script, turned}
use Rattle.dt_node.proofs.Doing.{acts_unlost, gave_none, gave_some, some_more_given}

-- a first part after a whole
pub part_then : (xs ys zs : List ℕ) (a m c : Option (List ℕ)) → xs ++ ys ≡ zs → Appends a m xs → AppendsPart ys m c → AppendsPart zs a c
part_then xs ys zs a m c e h (count, k) =
    (length xs + count, subst (Appends a c) (sym (take-append-add xs ys count) ∙ ap (take (length xs + count)) e) (Appends-trans a m c xs (take count ys) h k))

-- an input was noted, or its put failed
pub noted_takes : {K T : Type 0} (E : Type 0) (sight : K → SinkSight) (form : OutputForm) (input : Input) (done : T) (old new : K) → Notes {E = E} sight form input (Ok done) old new → Takes (noted_text form input) (sight old) (sight new)
noted_takes E sight forms.Log input done old new h = subst (λ k. Takes [] (sight old) (sight k)) (sym h) (takes_nothing (sight old))
noted_takes E sight forms.Trace input done old new h = h

pub noted_fails : {K E : Type 0} (T : Type 0) (sight : K → SinkSight) (form : OutputForm) (input : Input) (fault : E) (old new : K) → Notes {T = T} sight form input (Err fault) old new → TakesPart (noted_text form input) (sight old) (sight new)
noted_fails T sight forms.Log input fault old new h = absurd h
noted_fails T sight forms.Trace input fault old new h = h

module _ {A : Type 0} (form : OutputForm) (me now : ℕ) (first : List ℕ) (script : Script (Unit {0}) A) (answer : A) (gives : ℕ) (wire : WireSight) (a b : SinkSight) where
  -- a turn after it
  pub begun : (result : Result _ Stop) (t : Scene) → Takes first a b → TurnEnds result form me now [] script answer (scene gives wire b) t → TurnEnds result form me now first script answer (scene gives wire a) t
  begun (Ok stopped) t h (deeds, acts, wrote, answers) =
      (deeds, acts, record { gives = wrote.gives; held = Appends-trans a.held b.held t.held first (deeds_text form gives me deeds) h.held wrote.held; faults = wrote.faults ∙ h.faults; wire = wrote.wire }, answers)
  begun (Err stop) t h (deeds, acts, some) = (
    deeds,
    acts,
    record {
      held = part_then first (deeds_text form gives me deeds) (first ++ deeds_text form gives me deeds) a.held b.held t.held refl h.held some.held;
      faults = subst (λ (n : ℕ). FaultsBy stop n t.faults) h.faults some.faults;
      wire = some.wire;
    },
  )

  -- none, since its put failed
  pub begun_not : TakesPart first a b → TurnEnds (Err stops.WriteFault) form me now first script answer (scene gives wire a) (scene gives wire b)
  begun_not h =
      let deeds = map unlost (acts_of now script) in
      let more = takes_part_first first (deeds_text form gives me deeds) a b h in
      (deeds, acts_unlost (acts_of now script), record { held = (more.count, more.held); faults = more.faults; wire = some_more_given [] (acts_of now script) wire wire (gave_some [] wire wire (gave_none wire)) })

-- A TURN THAT IS TAKEN, after the line of its reading
module _ (form : OutputForm) (me now : ℕ) (t : Turn) (old : Node) (gives : ℕ) (wire : WireSight) (a b : SinkSight) where
  -- which was put
  pub turn_begun : (result : Result Bool Stop) (new : Node) (s : Scene) → Takes (noted_text form (Reading t.reading)) a b
      → TurnEnds result form me now [] (turn_script t old) (turned result (node_seen t.orders.now new)) (scene gives wire b) s → PlaysTurn form me now t result old new (scene gives wire a) s
  turn_begun result new s h e = begun form me now (noted_text form (Reading t.reading)) (turn_script t old) (turned result (node_seen t.orders.now new)) gives wire a b result s h e

  -- or not
  pub turn_not_begun : TakesPart (noted_text form (Reading t.reading)) a b → PlaysTurn form me now t (Err stops.WriteFault) old old (scene gives wire a) (scene gives wire b)
  turn_not_begun h = begun_not form me now (noted_text form (Reading t.reading)) (turn_script t old) (turned (Err stops.WriteFault) (node_seen t.orders.now old)) gives wire a b h
