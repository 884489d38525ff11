-- The lines of a turn, or of an input, are gathered, and then put.
use Rattle.std.proofs.Common.{◌≡◌, ℕ, ◌+◌, Bool, List, [], ◌++◌, length, take, map, Option, Result, Ok, Err, sym, ap, subst, ◌∙◌}
use Rattle.std.specs.Io.KnownBytes.{Appends, append_known}
use Rattle.std.proofs.KnownBytes.{Appends-nil}
use Rattle.dt_edges.specs.Counts.{HasRisen}
use Rattle.std.specs.Result.{IsErr}
use Rattle.dt_edges.specs.Sinks.{Grows, Puts, SinkSight, Takes, TakesPart}
use Rattle.dt_edges.specs.Wires.{WireSight}
use Rattle.dt_fold.specs.declared.stops.Stop.{Stop}
use Rattle.dt_fold.specs.declared.stops.Stop.TheVariants as stops
use Rattle.dt_fold.specs.Logging.{HasAll, HasPart, Passes, PassesRest, with_waiting}
use Rattle.dt_fold.proofs.Waiting.{all_put, from_empty, part_of_part, part_put, risen_from}
use Rattle.dt_world_model.specs.Script.{Script}
use Rattle.dt_trace.specs.Inputs.{Input, input_text}
use Rattle.dt_node.specs.Logging.{NotesBehind}
use Rattle.dt_node.specs.declared.output_forms.OutputForm.{OutputForm}
use Rattle.dt_node.specs.declared.output_forms.OutputForm.TheVariants as forms
use Rattle.dt_node.specs.Acts.{Deed, act_of, acts_of, answer_of}
use Rattle.dt_node.specs.TurnScripts.{turned}
use Rattle.dt_turn.specs.Nodes.{Node}
use Rattle.dt_node.proofs.Doing.{gave_some}
use Rattle.dt_node.specs.Deeds.{TurnEnds, Wrote, WroteSome, deeds_text, scene}

module _ (text : List ℕ) (a mid end : SinkSight) (waiting : List ℕ) (grows : Grows a.held mid.held) where
  -- a text was gathered and put
  pub all_of : Appends (append_known a.held []) (append_known mid.held waiting) text → HasAll waiting mid end → HasAll text a end
  all_of h p = all_put a.held mid.held end.held waiting text (from_empty a.held (append_known mid.held waiting) text h) p

  -- or a part of it
  pub part_after : Appends (append_known a.held []) (append_known mid.held waiting) text → HasPart waiting mid end → HasPart text a end
  part_after h p = (length grows.0 + p.0, part_put a.held mid.held end.held waiting text p.0 grows (from_empty a.held (append_known mid.held waiting) text h) p.1)

module _ (text : List ℕ) (a mid end : SinkSight) (waiting : List ℕ) (grows : Grows a.held mid.held) (count : ℕ) (h : Appends (append_known a.held []) (append_known mid.held waiting) (take count text)) where
  -- a part was gathered, and put
  pub part_all : HasAll waiting mid end → HasPart text a end
  part_all p = (count, all_of (take count text) a mid end waiting grows h p)

  -- or a part of that
  pub part_part : HasPart waiting mid end → HasPart text a end
  part_part p = part_of_part text count a end (part_after (take count text) a mid end waiting grows h p)

-- or nothing more was put
pub part_there : (text : List ℕ) (a mid : SinkSight) (waiting : List ℕ) (grows : Grows a.held mid.held) (count : ℕ) → Appends (append_known a.held []) (append_known mid.held waiting) (take count text) → HasPart text a mid
part_there text a mid waiting grows count h = part_part text a mid mid waiting grows count h (0, Appends-nil mid.held)

module _ (form : OutputForm) (me now gives after : ℕ) (first : List ℕ) (script : Script (Unit {0}) (Option Node)) (w v : WireSight) (a mid end : SinkSight) (waiting : List ℕ) (grows : Grows a.held mid.held) where
  abbrev Ends : Result Bool Stop → Node → Type 0
  Ends result node = TurnEnds result form me now first script (turned result node) (scene gives w a) (scene after v end)

  -- after a turn that was played whole
  after_whole : (stopped : Bool) (result : Result Bool Stop) (node : Node) (deeds : List Deed) → map act_of deeds ≡ acts_of now script → Wrote form me first deeds (scene gives w (with_waiting a [])) (scene after v (with_waiting mid waiting)) → answer_of script ≡ turned (Ok stopped) node → Passes (Ok stopped) result waiting mid end → Ends result node
  after_whole stopped (Ok b) node deeds acts wrote answers p =
      let same : b ≡ stopped = cc in
      (deeds, acts, record { gives = wrote.gives; held = all_of (first ++ deeds_text form gives me deeds) a mid end waiting grows wrote.held p.1; faults = p.2 ∙ wrote.faults; wire = wrote.wire }, answers ∙ ap (λ (x : Bool). turned (Ok x) node) (sym same))
  after_whole stopped (Err stops.NoMemory) node deeds acts wrote answers p = absurd cc
  after_whole stopped (Err stops.WriteFault) node deeds acts wrote answers p =
      (deeds, acts, record { held = part_after (first ++ deeds_text form gives me deeds) a mid end waiting grows wrote.held p.0; faults = risen_from a.faults mid.faults end.faults wrote.faults p.1; wire = gave_some deeds w v wrote.wire })

  -- after one that stopped for want of memory
  after_want : (result : Result Bool Stop) (node : Node) (deeds : List Deed) → map act_of deeds ≡ acts_of now script → WroteSome form me first deeds stops.NoMemory (scene gives w (with_waiting a [])) (scene after v (with_waiting mid waiting)) → Passes (Err stops.NoMemory) result waiting mid end → Ends result node
  after_want (Ok b) node deeds acts some p = absurd cc
  after_want (Err stops.NoMemory) node deeds acts some p =
      (deeds, acts, record { held = part_all (first ++ deeds_text form gives me deeds) a mid end waiting grows some.held.0 some.held.1 p.1; faults = p.2 ∙ some.faults; wire = some.wire })
  after_want (Err stops.WriteFault) node deeds acts some p =
      (deeds, acts, record { held = part_part (first ++ deeds_text form gives me deeds) a mid end waiting grows some.held.0 some.held.1 p.0; faults = risen_from a.faults mid.faults end.faults some.faults p.1; wire = some.wire })

  -- after a put that failed
  after_fault : (result : Result Bool Stop) (node : Node) (deeds : List Deed) → map act_of deeds ≡ acts_of now script → WroteSome form me first deeds stops.WriteFault (scene gives w (with_waiting a [])) (scene after v (with_waiting mid waiting)) → result ≡ Err stops.WriteFault → end ≡ mid → Ends result node
  after_fault (Ok b) node deeds acts some e f = absurd cc
  after_fault (Err stops.NoMemory) node deeds acts some e f = absurd cc
  after_fault (Err stops.WriteFault) node deeds acts some e f =
      subst (λ (s : SinkSight). TurnEnds (Err stops.WriteFault) form me now first script (turned (Err stops.WriteFault) node) (scene gives w a) (scene after v s)) (sym f)
      (deeds, acts, record { held = part_there (first ++ deeds_text form gives me deeds) a mid waiting grows some.held.0 some.held.1; faults = some.faults; wire = some.wire })

  -- A TURN WHOSE LINES WERE PUT
  pub gathered : (turn result : Result Bool Stop) (node : Node) → TurnEnds turn form me now first script (turned turn node) (scene gives w (with_waiting a [])) (scene after v (with_waiting mid waiting)) → PassesRest turn result waiting mid end → Ends result node
  gathered (Ok stopped) result node (deeds, acts, wrote, answers) p = after_whole stopped result node deeds acts wrote answers p
  gathered (Err stops.NoMemory) result node (deeds, acts, some) p = after_want result node deeds acts some p
  gathered (Err stops.WriteFault) result node (deeds, acts, some) p = after_fault result node deeds acts some p.0 p.1

-- THE LINE OF AN INPUT, which was put, or not
from_here : (a mid : SinkSight) (waiting before text : List ℕ) → before ≡ [] → Appends (append_known a.held before) (append_known mid.held waiting) text → Appends (append_known a.held []) (append_known mid.held waiting) text
from_here a mid waiting before text empty h = subst (λ (xs : List ℕ). Appends (append_known a.held xs) (append_known mid.held waiting) text) empty h

module _ {T E : Type 0} (form : OutputForm) (input : Input) (a mid : SinkSight) (waiting before : List ℕ) (is : form ≡ forms.Trace) (empty : before ≡ []) (grows : Grows a.held mid.held) where
  noted_trace : (result : Result T E) (end : SinkSight) → NotesBehind forms.Trace input result a end → NotesBehind form input result a end
  noted_trace result end h = subst (λ (f : OutputForm). NotesBehind f input result a end) (sym is) h

  pub noted_put : {K : Type 0} (sight : K → SinkSight) (between new : K) (result : Result T E) → mid ≡ sight between → Appends (append_known a.held before) (append_known mid.held waiting) (input_text input) → mid.faults ≡ a.faults → Puts sight waiting result between new → NotesBehind form input result a (sight new)
  noted_put sight between new (Ok done) e h faults puts =
      let took = subst (λ (s : SinkSight). Takes waiting s (sight new)) (sym e) puts in
      noted_trace (Ok done) (sight new) (all_of (input_text input) a mid (sight new) waiting grows (from_here a mid waiting before (input_text input) empty h) took.held, took.faults ∙ faults)
  noted_put sight between new (Err fault) e h faults puts =
      let part = subst (λ (s : SinkSight). TakesPart waiting s (sight new)) (sym e) puts in
      noted_trace (Err fault) (sight new) (part_after (input_text input) a mid (sight new) waiting grows (from_here a mid waiting before (input_text input) empty h) (part.count, part.held), risen_from a.faults mid.faults (sight new).faults faults part.faults)

  pub noted_unput : (result : Result T E) (count : ℕ) → IsErr result → Appends (append_known a.held before) (append_known mid.held waiting) (take count (input_text input)) → HasRisen a.faults mid.faults → NotesBehind form input result a mid
  noted_unput (Ok done) count failed h risen = absurd cc
  noted_unput (Err fault) count failed h risen = noted_trace (Err fault) mid (part_there (input_text input) a mid waiting grows count (from_here a mid waiting before (take count (input_text input)) empty h), risen)
