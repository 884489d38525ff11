-- A run that has ended leaves over what comes after.
use Rattle.std.proofs.Common.{◌≡◌, ◌⊎◌, inl, inr, if◌then◌else◌, ℕ, ◌+◌, ◌<◌, ◌==◌, Bool, true, false, List, [], ◌∷◌, ◌++◌, length, Option, Some, None, refl, subst, ◌∙◌, arith}
use Rattle.dt_edges.specs.Wires.{Datagram}
use Rattle.dt_node.specs.declared.watch.Watch.{Watch}
use Rattle.dt_node.specs.Acts.{answer_of}
use Rattle.dt_script.specs.Orders.{Orders}
use Rattle.dt_turn.specs.Nodes.{Node, first_node}
use Rattle.dt_node.specs.Runs.{Ending, LeftOver, Run, StoodStill, Stopped, Unfinished, after_turn, ends, ends_at, first_watch, moment, most_equal, next_watch, node_run, run_from}
use Rattle.dt_turn.specs.Turns.{turn}

abbrev pub HasEnded : Ending → Type 0
HasEnded ending = (ending ≡ Stopped) ⊎ (ending ≡ StoodStill)

left_never : HasEnded LeftOver → ⊥
left_never (inl h) = absurd cc
left_never (inr h) = absurd cc

unfinished_never : HasEnded Unfinished → ⊥
unfinished_never (inl h) = absurd cc
unfinished_never (inr h) = absurd cc

left_over : (rs : List ℕ) (ts : List (Option Datagram)) (ending : Ending) → 0 < length rs + length ts → (ends_at rs ts ending).ending ≡ LeftOver
left_over [] [] ending some = absurd (omega (arith, some))
left_over [] (t ∷ ts) ending some = refl
left_over (r ∷ rs) ts ending some = refl

-- a turn whose moment may be the last of many
more_if : (b : Bool) (rs more : List ℕ) (ts further : List (Option Datagram)) (next on : Run) → 0 < length more + length further → (HasEnded next.ending → on.ending ≡ LeftOver)
    → HasEnded (if b then ends_at rs ts StoodStill else next).ending → (if b then ends_at (rs ++ more) (ts ++ further) StoodStill else on).ending ≡ LeftOver
more_if true [] more [] further next on some goes h = left_over more further StoodStill some
more_if true [] more (t ∷ ts) further next on some goes h = absurd (left_never h)
more_if true (r ∷ rs) more ts further next on some goes h = absurd (left_never h)
more_if false rs more ts further next on some goes h = goes h

abbrev Next : Type 0
Next = Option Datagram → Node → List (Option Datagram) → Run

after_more : (watch : Watch) (answer : Option Node) (rs more : List ℕ) (ts further : List (Option Datagram)) (next on : Next) → 0 < length more + length further
    → ((t : Option Datagram) (node : Node) (ts : List (Option Datagram)) → HasEnded (next t node ts).ending → (on t node (ts ++ further)).ending ≡ LeftOver)
    → HasEnded (after_turn watch answer rs ts next).ending → (after_turn watch answer (rs ++ more) (ts ++ further) on).ending ≡ LeftOver
after_more watch None [] more [] further next on some goes h = left_over more further Stopped some
after_more watch None [] more (t ∷ ts) further next on some goes h = absurd (left_never h)
after_more watch None (r ∷ rs) more ts further next on some goes h = absurd (left_never h)
after_more watch (Some node) [] more [] further next on some goes h = absurd (unfinished_never h)
after_more watch (Some node) (r ∷ rs) more [] further next on some goes h = absurd (left_never h)
after_more watch (Some node) rs more (t ∷ ts) further next on some goes h = more_if (watch.equal == most_equal) rs more ts further (next t node ts) (on t node (ts ++ further)) some (goes t node ts) h

-- the turns of the readings that are left
abbrev next_of : Orders → Watch → List ℕ → Next
next_of o watch [] t n ts = ends Unfinished
next_of o watch (r ∷ rs) t n ts = run_from o (next_watch r watch) t n rs ts

run_from_ends : (o : Orders) (watch : Watch) (came : Option Datagram) (node : Node) (rs : List ℕ) (ts : List (Option Datagram))
    → (run_from o watch came node rs ts).ending ≡ (after_turn watch (answer_of (turn o (moment watch) came node)) rs ts (next_of o watch rs)).ending
unfolding run_from
run_from_ends o watch came node [] ts = refl
run_from_ends o watch came node (r ∷ rs) ts = refl

run_more : (o : Orders) (watch : Watch) (came : Option Datagram) (node : Node) (rs more : List ℕ) (ts further : List (Option Datagram)) → 0 < length more + length further
    → HasEnded (run_from o watch came node rs ts).ending → (run_from o watch came node (rs ++ more) (ts ++ further)).ending ≡ LeftOver
run_more o watch came node [] more ts further some h =
    run_from_ends o watch came node more (ts ++ further)
    ∙ after_more watch (answer_of (turn o (moment watch) came node)) [] more ts further (next_of o watch []) (next_of o watch more) some (λ t n k e. absurd (unfinished_never e))
    (subst (λ (e : Ending). HasEnded e) (run_from_ends o watch came node [] ts) h)
run_more o watch came node (r ∷ rs) more ts further some h =
    run_from_ends o watch came node (r ∷ (rs ++ more)) (ts ++ further)
    ∙ after_more watch (answer_of (turn o (moment watch) came node)) (r ∷ rs) more ts further (next_of o watch (r ∷ rs)) (next_of o watch (r ∷ (rs ++ more))) some (λ t n k e. run_more o (next_watch r watch) t n rs more k further some e)
    (subst (λ (e : Ending). HasEnded e) (run_from_ends o watch came node (r ∷ rs) ts) h)

pub run_leaves : (o : Orders) (rs more : List ℕ) (ts further : List (Option Datagram)) → 0 < length more + length further → HasEnded (node_run o rs ts).ending → (node_run o (rs ++ more) (ts ++ further)).ending ≡ LeftOver
unfolding node_run
run_leaves o [] more ts further some h = absurd (unfinished_never h)
run_leaves o (r ∷ rs) more ts further some h = run_more o (first_watch r) None (first_node o) rs more ts further some h
