-- A run that no fault ends meets its stop, where the clock goes on.
use Rattle.std.proofs.Common.{◌≡◌, ◌⊎◌, ◌==◌, if◌then◌else◌, inl, inr, ℕ, zero, suc, ◌<◌, Bool, true, false, nat_le, List, [], ◌∷◌, length, map, Option, Some, None, refl, sym, ap, subst, ◌∙◌, arith}
use Rattle.std.specs.Option.{IfSome}
use Rattle.std.specs.List.{range_with_len}
use Rattle.std.proofs.lemmas.Bool.{cases_Bool, eqb-true}
use borrow.Author.Tests.{leb-false}
use Rattle.dt_edges.specs.Clocks.{reading_at}
use Rattle.dt_edges.specs.Counts.{HasRisen}
use Rattle.dt_edges.specs.Wires.{Datagram}
use Rattle.dt_world_model.specs.Script.{Script, Done as Ends, Tell, Ask, Hand, ◌>>=◌}
use Rattle.dt_node.specs.declared.outcomes.NodeOutcome.{NodeOutcome}
use Rattle.dt_node.specs.declared.outcomes.NodeOutcome.TheVariants.{Done, Refused, NoMemory, WireFault, ClockStill, WriteFault}
use Rattle.dt_node.specs.declared.output_forms.OutputForm.{OutputForm}
use Rattle.dt_node.specs.declared.watch.Watch.{Watch}
use Rattle.dt_node.specs.Acts.{answer_of}
use Rattle.dt_node.specs.Answering.{Answers, AnswersBy}
use Rattle.dt_node.specs.Completing.{Completes, ReachesStop, planned_watch, watch_on}
use Rattle.dt_script.specs.Drafts.{refusal_text}
use Rattle.dt_script.specs.Orders.{Orders}
use Rattle.dt_turn.specs.Nodes.{Node, first_node}
use Rattle.dt_node.specs.Runs.{Run, StoodStill, after_turn, ends_at, first_watch, moment, most_equal, next_watch, node_run, run_from}
use Rattle.dt_node.specs.Serving.{Edges, Serves, first_readings}
use Rattle.dt_turn.specs.Turns.{do_due, finish, hand_in, turn}
use Rattle.dt_node.proofs.RunsOn.{next_of, run_from_is}

-- A TURN THAT GOES ON comes before the stop
pub answer_then : {A B : Type 0} (s : Script (Unit {0}) A) (k : A → Script (Unit {0}) B) → answer_of (s >>= k) ≡ answer_of (k (answer_of s))
answer_then (Ends a) k = refl
answer_then (Tell r s) k = answer_then s k
answer_then (Ask host octets s) k = answer_then (s tt) k
answer_then (Hand link parcel s) k = answer_then s k

finish_goes : (o : Orders) (now : ℕ) (node after : Node) → answer_of (finish o now node) ≡ Some after → now < o.stop
finish_goes o now node after e =
    elim (cases_Bool (nat_le o.stop now)) [
      | inl y ↦ let stops : None ≡ Some after = rw y at e in absurd cc
      | inr n ↦ omega (arith, leb-false _ _ n)
    ]

turn_goes : (o : Orders) (now : ℕ) (came : Option Datagram) (node after : Node) → answer_of (turn o now came node) ≡ Some after → now < o.stop
turn_goes o now came node after e =
    let first = hand_in o.setup.params now came node.station node.shelf in
    let second = do_due o.setup.params now (answer_of first).1 node.commands (answer_of first).0 in
    finish_goes o now (answer_of second) after
    (sym (answer_then first (λ r. do_due o.setup.params now r.1 node.commands r.0 >>= λ done. finish o now done) ∙ answer_then second (λ done. finish o now done)) ∙ e)

-- A RUN THAT STOOD STILL did so at its last reading, before the stop
abbrev Still : Orders → Watch → Type 0
Still o watch = (watch.equal ≡ most_equal) × (moment watch < o.stop)

ends_still : (o : Orders) (watch : Watch) (rs : List ℕ) (ts : List (Option Datagram)) → watch.equal ≡ most_equal → moment watch < o.stop → (ends_at rs ts StoodStill).ending ≡ StoodStill → Still o (watch_on watch rs)
ends_still o watch [] [] e less h = (e, less)
ends_still o watch [] (t ∷ ts) e less h = absurd cc
ends_still o watch (r ∷ rs) ts e less h = absurd cc

still_if : (o : Orders) (watch : Watch) (rs : List ℕ) (ts : List (Option Datagram)) (next : Run) (b : Bool) → (watch.equal == most_equal) ≡ b → moment watch < o.stop → (next.ending ≡ StoodStill → Still o (watch_on watch rs)) → (if b then ends_at rs ts StoodStill else next).ending ≡ StoodStill → Still o (watch_on watch rs)
still_if o watch rs ts next true e less on h = ends_still o watch rs ts (eqb-true watch.equal most_equal e) less h
still_if o watch rs ts next false e less on h = on h

after_still : (o : Orders) (watch : Watch) (answer : Option Node) (rs : List ℕ) (takes : List (Option Datagram)) (next : Option Datagram → Node → List (Option Datagram) → Run) → ((node : Node) → answer ≡ Some node → moment watch < o.stop) →
    ((t : Option Datagram) (node : Node) (ts : List (Option Datagram)) → (next t node ts).ending ≡ StoodStill → Still o (watch_on watch rs)) → (after_turn watch answer rs takes next).ending ≡ StoodStill → Still o (watch_on watch rs)
after_still o watch None [] [] next less on h = absurd cc
after_still o watch None [] (t ∷ ts) next less on h = absurd cc
after_still o watch None (r ∷ rs) ts next less on h = absurd cc
after_still o watch (Some node) [] [] next less on h = absurd cc
after_still o watch (Some node) (r ∷ rs) [] next less on h = absurd cc
after_still o watch (Some node) rs (t ∷ ts) next less on h = still_if o watch rs ts (next t node ts) (watch.equal == most_equal) refl (less node refl) (on t node ts) h

run_still : (o : Orders) (watch : Watch) (came : Option Datagram) (node : Node) (rs : List ℕ) (ts : List (Option Datagram)) → (run_from o watch came node rs ts).ending ≡ StoodStill → Still o (watch_on watch rs)
run_still o watch came node [] ts h =
    after_still o watch (answer_of (turn o (moment watch) came node)) [] ts (next_of o watch []) (λ after e. turn_goes o (moment watch) came node after e) (λ t n k e. absurd cc)
    (sym (ap (λ (r : Run). r.ending) (run_from_is o watch came node [] ts)) ∙ h)
run_still o watch came node (r ∷ rs) ts h =
    after_still o watch (answer_of (turn o (moment watch) came node)) (r ∷ rs) ts (next_of o watch (r ∷ rs)) (λ after e. turn_goes o (moment watch) came node after e) (λ t n k e. run_still o (next_watch r watch) t n rs k e)
    (sym (ap (λ (x : Run). x.ending) (run_from_is o watch came node (r ∷ rs) ts)) ∙ h)

planned_still : (o : Orders) (plan : List ℕ) (count : ℕ) (ts : List (Option Datagram)) → (node_run o (first_readings plan count) ts).ending ≡ StoodStill → (n : ℕ) × Still o (planned_watch plan n)
unfolding node_run
planned_still o plan zero ts h = absurd cc
planned_still o plan (suc n) ts h = (n, run_still o (first_watch (reading_at plan 0)) None (first_node o) (map (reading_at plan) (range_with_len 1 n)) ts h)

-- THE ANSWERS
module _ (form : OutputForm) (o : Orders) (plan : List ℕ) (b a : Edges) (planned : b.clock.plan ≡ Some plan) (fresh : b.clock.readings ≡ Some []) (reaches : ReachesStop o.stop plan) (wire : HasRisen b.wire.take_faults a.wire.take_faults → ⊥) (sink : HasRisen b.faults a.faults → ⊥) where
  still_never : Serves form o ClockStill b a → ⊥
  still_never h =
      let same = (subst (λ (p : Option (List ℕ)). IfSome p (λ p. b.clock.readings ≡ Some [] → h.readings ≡ first_readings p (length h.readings))) planned h.planned_readings) fresh in
      let still = planned_still o plan (length h.readings) h.takes (subst (λ (rs : List ℕ). (node_run o rs h.takes).ending ≡ StoodStill) same h.ends) in
      let few = reaches still.0 still.1.1 in
      omega (arith, few, still.1.0)

  served_whole : (outcome : NodeOutcome) → Serves form o outcome b a → (outcome ≡ Done) ⊎ (outcome ≡ NoMemory)
  served_whole Done h = inl refl
  served_whole Refused h = absurd h.ends
  served_whole NoMemory h = inr refl
  served_whole WireFault h = absurd (wire h.take_faults)
  served_whole ClockStill h = absurd (still_never h)
  served_whole WriteFault h = absurd (sink h.sink_faults)

pub completes : (form : OutputForm) (octets : List ℕ) (outcome : NodeOutcome) (b a : Edges) → Answers form octets outcome b a → Completes octets outcome b a
completes form octets outcome b a h o plan accepted planned fresh reaches wire sink =
    served_whole form o plan b a planned fresh reaches wire sink outcome (subst (λ (x : Option Orders). AnswersBy form x (refusal_text octets) outcome b a) accepted h)
