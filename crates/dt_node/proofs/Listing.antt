-- The inputs of a run, turn after turn.
use Rattle.std.proofs.Common.{◌≡◌, ℕ, true, false, List, [], ◌∷◌, ◌++◌, length, map, take, drop, Option, Some, None, refl, sym, ap, ◌∙◌, append_assoc}
use Rattle.std.proofs.lemmas.List.{append-nil, length-map}
use Rattle.std.proofs.Math.Seq.{drop-append_seam, take-append_seam}
use Rattle.dt_edges.specs.Wires.{Datagram}
use Rattle.dt_trace.specs.Inputs.{Input, Reading, Taken, FailedTake, FailedOpen}
use Rattle.dt_node.specs.declared.watch.Watch.{Watch}
use Rattle.dt_script.specs.Orders.{Orders}
use Rattle.dt_turn.specs.Nodes.{Node, first_node}
use Rattle.dt_node.specs.Acts.{Deed, act_of, acts_of, answer_of, fates}
use Rattle.dt_node.specs.Deeds.{counted}
use Rattle.dt_turn.specs.Turns.{turn}
use Rattle.dt_node.specs.Runs.{first_watch, moment, next_watch}
use Rattle.dt_node.specs.TakingIn.{failed_gives, inputs_from, inputs_in, run_inputs, take_then, turn_inputs}
use Rattle.dt_node.proofs.Doing.{counted_more, fates_more}

-- the turns of the readings that are left
abbrev pub listed_of : Orders → Watch → List ℕ → Option Datagram → Node → List (Option Datagram) → ℕ → List Deed → List Input
listed_of o watch [] t n ts gives deeds = []
listed_of o watch (r ∷ rs) t n ts gives deeds = inputs_from o (next_watch r watch) t n r rs ts gives deeds

inputs_from_is : (o : Orders) (watch : Watch) (came : Option Datagram) (node : Node) (r : ℕ) (rs : List ℕ) (ts : List (Option Datagram)) (gives : ℕ) (deeds : List Deed) → inputs_from o watch came node r rs ts gives deeds ≡ turn_inputs o watch came node r ts gives deeds (listed_of o watch rs)
unfolding inputs_from
inputs_from_is o watch came node r [] ts gives deeds = refl
inputs_from_is o watch came node r (q ∷ rs) ts gives deeds = refl

-- The inputs of all readings, takes and deeds that begin with these: what was listed so far, and then the turn that has come.
abbrev pub ListComes : Orders → List ℕ → (reading : ℕ) → List (Option Datagram) → List Deed → List Input → Watch → Option Datagram → Node → Type 0
ListComes o rs reading ts ds inputs watch came node =
    (more : List ℕ) (further : List (Option Datagram)) (after : List Deed) → inputs_in o (rs ++ reading ∷ more) (ts ++ further) (ds ++ after) ≡ inputs ++ inputs_from o watch came node reading more further (counted 0 (fates ds)) after

-- the same after a turn
abbrev pub ListCame : Orders → List ℕ → List (Option Datagram) → List Deed → List Input → Watch → Option Node → Type 0
ListCame o rs ts ds inputs watch answer =
    (more : List ℕ) (further : List (Option Datagram)) (after : List Deed) → inputs_in o (rs ++ more) (ts ++ further) (ds ++ after) ≡ inputs ++ take_then answer further (λ t n us. listed_of o watch more t n us (counted 0 (fates ds)) after)

-- and after its take
abbrev pub ListTook : Orders → List ℕ → List (Option Datagram) → List Deed → List Input → Watch → Option Datagram → Node → Type 0
ListTook o rs ts ds inputs watch t node =
    (more : List ℕ) (further : List (Option Datagram)) (after : List Deed) → inputs_in o (rs ++ more) (ts ++ further) (ds ++ after) ≡ inputs ++ listed_of o watch more t node further (counted 0 (fates ds)) after

pub list_first : (o : Orders) (r : ℕ) → ListComes o [] r [] [] [] (first_watch r) None (first_node o)
unfolding inputs_in
list_first o r more further after = refl

-- a turn, whose deeds are these, stands in front of those after it
own_deeds : (o : Orders) (watch : Watch) (came : Option Datagram) (node : Node) (r : ℕ) (ts : List (Option Datagram)) (gives : ℕ) (own after : List Deed) (next : Option Datagram → Node → List (Option Datagram) → ℕ → List Deed → List Input) → length (acts_of (moment watch) (turn o (moment watch) came node)) ≡ length own
    → turn_inputs o watch came node r ts gives (own ++ after) next ≡ Reading r ∷ (failed_gives gives own ++ take_then (answer_of (turn o (moment watch) came node)) ts (λ t n us. next t n us (counted gives (fates own)) after))
own_deeds o watch came node r ts gives own after next e =
    let answer = answer_of (turn o (moment watch) came node) in
    ap (λ (k : ℕ). Reading r ∷ (failed_gives gives (take k (own ++ after)) ++ take_then answer ts (λ t n us. next t n us (counted gives (fates (take k (own ++ after)))) (drop k (own ++ after))))) e
    ∙ ap (λ (ds : List Deed). Reading r ∷ (failed_gives gives ds ++ take_then answer ts (λ t n us. next t n us (counted gives (fates ds)) (drop (length own) (own ++ after))))) (take-append_seam own after)
    ∙ ap (λ (ds : List Deed). Reading r ∷ (failed_gives gives own ++ take_then answer ts (λ t n us. next t n us (counted gives (fates own)) ds))) (drop-append_seam own after)

module _ (o : Orders) (rs : List ℕ) (r : ℕ) (ts : List (Option Datagram)) (ds own : List Deed) (inputs : List Input) (watch : Watch) (came : Option Datagram) (node : Node) (now : ℕ) (answer : Option Node) where
  pub list_came : now ≡ moment watch → map act_of own ≡ acts_of now (turn o now came node) → answer_of (turn o now came node) ≡ answer → ListComes o rs r ts ds inputs watch came node
      → ListCame o (rs ++ r ∷ []) ts (ds ++ own) (inputs ++ Reading r ∷ failed_gives (counted 0 (fates ds)) own) watch answer
  list_came n d a h more further after =
      let gives = counted 0 (fates ds) in
      let count : length (acts_of (moment watch) (turn o (moment watch) came node)) ≡ length own = ap (λ (k : ℕ). length (acts_of k (turn o k came node))) (sym n) ∙ ap length (sym d) ∙ length-map own act_of in
      let is : answer_of (turn o (moment watch) came node) ≡ answer = ap (λ (k : ℕ). answer_of (turn o k came node)) (sym n) ∙ a in
      let given : counted gives (fates own) ≡ counted 0 (fates (ds ++ own)) = sym (counted_more 0 (fates ds) (fates own)) ∙ ap (counted 0) (sym (fates_more ds own)) in
      ap (λ xs. inputs_in o xs (ts ++ further) ((ds ++ own) ++ after)) (append_assoc rs (r ∷ []) more)
      ∙ ap (inputs_in o (rs ++ r ∷ more) (ts ++ further)) (append_assoc ds own after)
      ∙ h more further (own ++ after)
      ∙ ap (λ (xs : List Input). inputs ++ xs) (inputs_from_is o watch came node r more further gives (own ++ after)
      ∙ own_deeds o watch came node r further gives own after (listed_of o watch more) count
      ∙ ap (λ (x : Option Node). Reading r ∷ (failed_gives gives own ++ take_then x further (λ t n us. listed_of o watch more t n us (counted gives (fates own)) after))) is
      ∙ ap (λ (g : ℕ). Reading r ∷ (failed_gives gives own ++ take_then answer further (λ t n us. listed_of o watch more t n us g after))) given)
      ∙ sym (append_assoc inputs (Reading r ∷ failed_gives gives own) (take_then answer further (λ t n us. listed_of o watch more t n us (counted 0 (fates (ds ++ own))) after)))

pub list_took : (o : Orders) (rs : List ℕ) (ts : List (Option Datagram)) (t : Option Datagram) (ds : List Deed) (inputs : List Input) (watch : Watch) (node : Node) → ListCame o rs ts ds inputs watch (Some node) → ListTook o rs (ts ++ t ∷ []) ds (inputs ++ Taken t ∷ []) watch t node
list_took o rs ts t ds inputs watch node h more further after =
    ap (λ xs. inputs_in o (rs ++ more) xs (ds ++ after)) (append_assoc ts (t ∷ []) further)
    ∙ h more (t ∷ further) after
    ∙ sym (append_assoc inputs (Taken t ∷ []) (listed_of o watch more t node further (counted 0 (fates ds)) after))

pub list_next : (o : Orders) (rs : List ℕ) (r : ℕ) (ts : List (Option Datagram)) (t : Option Datagram) (ds : List Deed) (inputs : List Input) (watch : Watch) (node : Node) → ListTook o rs ts ds inputs watch t node → ListComes o rs r ts ds inputs (next_watch r watch) t node
list_next o rs r ts t ds inputs watch node h more further after = h (r ∷ more) further after

-- the inputs of exactly these
at_end : (o : Orders) (rs : List ℕ) (ts : List (Option Datagram)) (ds : List Deed) → inputs_in o rs ts ds ≡ inputs_in o (rs ++ []) (ts ++ []) (ds ++ [])
at_end o rs ts ds =
    sym (ap (λ xs. inputs_in o xs (ts ++ []) (ds ++ [])) (append-nil rs) ∙ ap (λ xs. inputs_in o rs xs (ds ++ [])) (append-nil ts) ∙ ap (inputs_in o rs ts) (append-nil ds))

nothing_behind : (answer : Option Node) (inputs : List Input) (next : Option Datagram → Node → List (Option Datagram) → List Input) → inputs ++ take_then answer [] next ≡ inputs
nothing_behind None inputs next = append-nil inputs
nothing_behind (Some node) inputs next = append-nil inputs

pub came_list : (o : Orders) (rs : List ℕ) (ts : List (Option Datagram)) (ds : List Deed) (inputs : List Input) (watch : Watch) (answer : Option Node) → ListCame o rs ts ds inputs watch answer → inputs_in o rs ts ds ≡ inputs
came_list o rs ts ds inputs watch answer h = at_end o rs ts ds ∙ h [] [] [] ∙ nothing_behind answer inputs (λ t n us. listed_of o watch [] t n us (counted 0 (fates ds)) [])

pub took_list : (o : Orders) (rs : List ℕ) (ts : List (Option Datagram)) (ds : List Deed) (inputs : List Input) (watch : Watch) (t : Option Datagram) (node : Node) → ListTook o rs ts ds inputs watch t node → inputs_in o rs ts ds ≡ inputs
took_list o rs ts ds inputs watch t node h = at_end o rs ts ds ∙ h [] [] [] ∙ append-nil inputs

pub no_list : (o : Orders) → inputs_in o [] [] [] ≡ []
unfolding inputs_in
no_list o = refl

-- with what failed
pub whole_list : (o : Orders) (rs : List ℕ) (ts : List (Option Datagram)) (ds : List Deed) (inputs : List Input) → inputs_in o rs ts ds ≡ inputs → run_inputs o rs ts ds [] false ≡ inputs
whole_list o rs ts ds inputs e = append-nil (inputs_in o rs ts ds) ∙ e

pub failed_list : (o : Orders) (rs : List ℕ) (ts : List (Option Datagram)) (ds : List Deed) (inputs : List Input) (number : ℕ) → inputs_in o rs ts ds ≡ inputs → run_inputs o rs ts ds (number ∷ []) false ≡ inputs ++ FailedTake ∷ []
failed_list o rs ts ds inputs number e = ap (λ (xs : List Input). xs ++ FailedTake ∷ []) e

pub unopened_list : (o : Orders) → run_inputs o [] [] [] [] true ≡ FailedOpen ∷ []
unopened_list o = ap (λ (xs : List Input). FailedOpen ∷ (xs ++ [])) (no_list o)
