-- A run, turn after turn.
use Rattle.std.proofs.Common.{◌≡◌, if◌then◌else◌, ℕ, ◌==◌, Bool, true, false, List, [], ◌∷◌, ◌++◌, Option, Some, None, refl, sym, ap, ◌∙◌, append_assoc}
use Rattle.std.proofs.lemmas.List.{append-nil}
use Rattle.dt_edges.specs.Wires.{Datagram}
use Rattle.dt_node.specs.declared.watch.Watch.{Watch}
use Rattle.dt_script.specs.Orders.{Orders}
use Rattle.dt_turn.specs.Nodes.{Node, first_node}
use Rattle.dt_node.specs.Acts.{Act, acts_of, answer_of}
use Rattle.dt_turn.specs.Turns.{turn}
use Rattle.dt_node.specs.Runs.{Run, Ending, Stopped, StoodStill, Unfinished, LeftOver, ends, behind, after_turn, turn_then, run_from, node_run, first_watch, next_watch, moment, most_equal}

-- the turns of the readings that are left
abbrev pub next_of : Orders → Watch → List ℕ → Option Datagram → Node → List (Option Datagram) → Run
next_of o watch [] t n ts = ends Unfinished
next_of o watch (r ∷ rs) t n ts = run_from o (next_watch r watch) t n rs ts

pub run_from_is : (o : Orders) (watch : Watch) (came : Option Datagram) (node : Node) (more : List ℕ) (further : List (Option Datagram)) → run_from o watch came node more further ≡ turn_then o watch came node more further (next_of o watch more)
unfolding run_from
run_from_is o watch came node [] further = refl
run_from_is o watch came node (r ∷ rs) further = refl

behind_behind : (a b : List Act) (r : Run) → behind a (behind b r) ≡ behind (a ++ b) r
behind_behind a b r = ap (λ (xs : List Act). let run : Run = record { acts = xs; ending = r.ending } in run) (sym (append_assoc a b r.acts))

-- The run of all readings and takes that begin with these: what was done so far, and then the turn that has come.
abbrev pub Comes : Orders → List ℕ → List (Option Datagram) → List Act → Watch → Option Datagram → Node → Type 0
Comes o rs ts acts watch came node = (more : List ℕ) (further : List (Option Datagram)) → node_run o (rs ++ more) (ts ++ further) ≡ behind acts (run_from o watch came node more further)

-- The same after a turn.
abbrev pub Came : Orders → List ℕ → List (Option Datagram) → List Act → Watch → Option Node → Type 0
Came o rs ts acts watch answer = (more : List ℕ) (further : List (Option Datagram)) → node_run o (rs ++ more) (ts ++ further) ≡ behind acts (after_turn watch answer more further (next_of o watch more))

pub comes_first : (o : Orders) (r : ℕ) → Comes o (r ∷ []) [] [] (first_watch r) None (first_node o)
unfolding node_run
comes_first o r more further = refl

pub came_of : (o : Orders) (rs : List ℕ) (ts : List (Option Datagram)) (acts done : List Act) (watch : Watch) (came : Option Datagram) (node : Node) (now : ℕ) (answer : Option Node) → now ≡ moment watch → done ≡ acts_of now (turn o now came node) → answer_of (turn o now came node) ≡ answer → Comes o rs ts acts watch came node → Came o rs ts (acts ++ done) watch answer
came_of o rs ts acts done watch came node now answer n d a h more further =
    h more further ∙ ap (behind acts) (run_from_is o watch came node more further)
    ∙ behind_behind acts (acts_of (moment watch) (turn o (moment watch) came node)) (after_turn watch (answer_of (turn o (moment watch) came node)) more further (next_of o watch more))
    ∙ ap (λ (now : ℕ). behind (acts ++ acts_of now (turn o now came node)) (after_turn watch (answer_of (turn o now came node)) more further (next_of o watch more))) (sym n)
    ∙ ap (λ (xs : List Act). behind (acts ++ xs) (after_turn watch (answer_of (turn o now came node)) more further (next_of o watch more))) (sym d)
    ∙ ap (λ (x : Option Node). behind (acts ++ done) (after_turn watch x more further (next_of o watch more))) a

-- the run of exactly these
at_end : (o : Orders) (rs : List ℕ) (ts : List (Option Datagram)) (r : Run) → node_run o (rs ++ []) (ts ++ []) ≡ r → node_run o rs ts ≡ r
at_end o rs ts r h = sym (ap (λ xs. node_run o xs (ts ++ [])) (append-nil rs) ∙ ap (node_run o rs) (append-nil ts)) ∙ h

behind_ends : (acts : List Act) (e : Ending) → behind acts (ends e) ≡ record { acts = acts; ending = e }
behind_ends acts e = ap (λ (xs : List Act). let run : Run = record { acts = xs; ending = e } in run) (append-nil acts)

abbrev pub ran : List Act → Ending → Run
ran acts e = record { acts = acts; ending = e }

pub run_stopped : (o : Orders) (rs : List ℕ) (ts : List (Option Datagram)) (acts : List Act) (watch : Watch) → Came o rs ts acts watch None → node_run o rs ts ≡ ran acts Stopped
run_stopped o rs ts acts watch h = at_end o rs ts (ran acts Stopped) (h [] [] ∙ behind_ends acts Stopped)

pub run_unfinished : (o : Orders) (rs : List ℕ) (ts : List (Option Datagram)) (acts : List Act) (watch : Watch) (node : Node) → Came o rs ts acts watch (Some node) → node_run o rs ts ≡ ran acts Unfinished
run_unfinished o rs ts acts watch node h = at_end o rs ts (ran acts Unfinished) (h [] [] ∙ behind_ends acts Unfinished)

cut_acts : (acts : List Act) (watch : Watch) (answer : Option Node) (k : Option Datagram → Node → List (Option Datagram) → Run) → (behind acts (after_turn watch answer [] [] k)).acts ≡ acts
cut_acts acts watch None k = append-nil acts
cut_acts acts watch (Some node) k = append-nil acts

-- a turn that was cut off
pub run_cut : (o : Orders) (rs : List ℕ) (ts : List (Option Datagram)) (acts : List Act) (watch : Watch) (answer : Option Node) → Came o rs ts acts watch answer → (node_run o rs ts).acts ≡ acts
run_cut o rs ts acts watch answer h =
    ap (λ (r : Run). r.acts) (at_end o rs ts _ (h [] [])) ∙ cut_acts acts watch answer (next_of o watch [])

pub run_still : (o : Orders) (rs : List ℕ) (ts : List (Option Datagram)) (t : Option Datagram) (acts : List Act) (watch : Watch) (node : Node) → (watch.equal == most_equal) ≡ true → Came o rs ts acts watch (Some node) → node_run o rs (ts ++ t ∷ []) ≡ ran acts StoodStill
run_still o rs ts t acts watch node e h =
    sym (ap (λ xs. node_run o xs (ts ++ t ∷ [])) (append-nil rs)) ∙ h [] (t ∷ [])
    ∙ ap (λ (b : Bool). behind acts (if b then ends StoodStill else next_of o watch [] t node [])) e
    ∙ behind_ends acts StoodStill

-- a take was made, and nothing more
taken_acts : (acts : List Act) (b : Bool) → (behind acts (if b then ends StoodStill else ends Unfinished)).acts ≡ acts
taken_acts acts true = append-nil acts
taken_acts acts false = append-nil acts

pub run_taken : (o : Orders) (rs : List ℕ) (ts : List (Option Datagram)) (t : Option Datagram) (acts : List Act) (watch : Watch) (node : Node) → Came o rs ts acts watch (Some node) → (node_run o rs (ts ++ t ∷ [])).acts ≡ acts
run_taken o rs ts t acts watch node h =
    ap (λ (r : Run). r.acts) (sym (ap (λ xs. node_run o xs (ts ++ t ∷ [])) (append-nil rs)) ∙ h [] (t ∷ []))
    ∙ taken_acts acts (watch.equal == most_equal)

pub comes_next : (o : Orders) (rs : List ℕ) (ts : List (Option Datagram)) (r : ℕ) (t : Option Datagram) (acts : List Act) (watch : Watch) (node : Node) → (watch.equal == most_equal) ≡ false → Came o rs ts acts watch (Some node) → Comes o (rs ++ r ∷ []) (ts ++ t ∷ []) acts (next_watch r watch) t node
comes_next o rs ts r t acts watch node e h more further =
    ap (λ xs. node_run o xs ((ts ++ t ∷ []) ++ further)) (append_assoc rs (r ∷ []) more)
    ∙ ap (node_run o (rs ++ r ∷ more)) (append_assoc ts (t ∷ []) further)
    ∙ h (r ∷ more) (t ∷ further)
    ∙ ap (λ (b : Bool). behind acts (if b then ends LeftOver else run_from o (next_watch r watch) t node more further)) e

pub run_nothing : (o : Orders) → node_run o [] [] ≡ ran [] Unfinished
unfolding node_run
run_nothing o = refl
