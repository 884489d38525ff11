-- What a script says that isn't refused a node can carry out: its parameters are within their limits, its peers differ, and each command is of the node.
use Rattle.std.proofs.Common.{◌≡◌, ◌≢◌, ◌==◌, ◌||◌, ◌+◌, ◌*◌, ◌^◌, ◌<◌, ◌≤◌, ◌⊎◌, ℕ, zero, suc, Bool, true, false, List, [], ◌∷◌, ◌++◌, length, get_or, Option, Some, None, Result, Ok, Err, refl, sym, ap, subst, ◌∙◌, arith, inl, inr, IsTrue, length-append, rules}
use Rattle.std.specs.Prelude.{AllPairs, All}
use Rattle.std.proofs.lemmas.Bool.{cases_Bool, eq-eqb, eqb-true, false≢true}
use Rattle.std.proofs.lemmas.List.Elements.{All-append, All-nil, All-cons}
use Rattle.std.proofs.lemmas.List.Quantifiers.{all_pairs_push}
use Rattle.dt_units.specs.declared.parameters.Params.{Params}
use Rattle.dt_units.specs.declared.parameters.Field.{Field}
use Rattle.dt_units.specs.Limits.{IsWithinLimits, first_out_of_range}
use Rattle.dt_units.proofs.Within.{within_limits}
use Rattle.dt_edges.specs.declared.addresses.Address.{Address}
use Rattle.dt_edges.specs.declared.addresses.Peer.{Peer}
use Rattle.dt_reports.specs.declared.faults.Fault.{Fault}
use Rattle.dt_reports.specs.declared.faults.LineFault.{LineFault}
use Rattle.dt_reports.specs.declared.faults.SetupFault.{SetupFault}
use Rattle.dt_text.specs.declared.lines.Form.TheVariants.{Script}
use Rattle.dt_text.specs.declared.stages.Stage.{Stage}
use Rattle.dt_text.specs.InputLines.{in_front, lines_of}
use Rattle.dt_text.specs.Lines.{line_of}
use Rattle.dt_text.specs.declared.lines.Line.TheVariants as said
use Rattle.dt_text.specs.declared.lines.NodeLine.{NodeLine}
use Rattle.dt_text.specs.declared.lines.NodeLine.TheVariants as nodes
use Rattle.dt_text.specs.declared.lines.ScriptLine.{ScriptLine}
use Rattle.dt_text.specs.declared.lines.ScriptLine.TheVariants as scripts
use Rattle.dt_text.specs.Said.{Said}
use Rattle.dt_text.specs.Spelling.{IsLine, IsSpelling}
use Rattle.dt_text.specs.Stages.{stage_after}
use Rattle.dt_text.specs.Tasks.{IsTask, Reads, Sends, Task, task_of}
use Rattle.dt_text.proofs.LineLaws.{line-only}
use Rattle.dt_text.proofs.TaskLaws.{at_task}
use Rattle.dt_fold.specs.Folds.{Folded, Turned, closed, fold_from, fold_on}
use Rattle.dt_world_model.specs.declared.links.InLink.{InLink}
use Rattle.dt_script.specs.Codes.{IsCommandOf, IsGood, IsGoodSetup, IsTaskOf, SameLinks, most_commands}
use Rattle.dt_script.specs.Drafts.{Collects, Complete, Draft, Empty, Named, Prepares, Ruled, by_command, by_local, by_me, by_node, by_params, by_peer, by_route, by_script, by_shelf, closed_with, done_by, done_if, ends_of, has_link, in_commands, in_setup, orders_in, read_script, route_fault, route_unless, shelf_unless, script_turns, stage_of, to_draft, turn_line, turn_read}
use Rattle.dt_script.specs.Orders.{Command, Orders, Setup}

-- PEERS

same_push : (ps : List Peer) (is : List InLink) (p : Peer) (i : InLink) → SameLinks ps is → p.link ≡ i.link → SameLinks (ps ++ p ∷ []) (is ++ i ∷ [])
same_push [] [] p i h e = (e, tt)
same_push [] (j ∷ is) p i h e = absurd h
same_push (q ∷ ps) [] p i h e = absurd h
same_push (q ∷ ps) (j ∷ is) p i h e = (h.0, same_push ps is p i h.1 e)

first_false : (a b : Bool) → (a || b) ≡ false → a ≡ false
first_false true b h = absurd cc
first_false false b h = refl

rest_false : (a b : Bool) → (a || b) ≡ false → b ≡ false
rest_false true b h = absurd cc
rest_false false b h = h

other : (a b : ℕ) → (a == b) ≡ false → a ≢ b
other a b h e = false≢true (sym h ∙ eq-eqb a b e)

same_differs : (ps : List Peer) (is : List InLink) (link : ℕ) → SameLinks ps is → has_link link is ≡ false → (k : ℕ) (d : Peer) → k < length ps → (get_or ps k d).link ≢ link
same_differs [] is link h n k d l = absurd (omega arith)
same_differs (p ∷ ps) [] link h n k d l = absurd h
same_differs (p ∷ ps) (i ∷ is) link h n zero d l = λ e. other i.link link (first_false (i.link == link) (has_link link is) n) (sym h.0 ∙ e)
same_differs (p ∷ ps) (i ∷ is) link h n (suc k) d l = same_differs ps is link h.1 (rest_false (i.link == link) (has_link link is) n) k d (omega arith)

-- WHAT IS KNOWN OF A DRAFT, of which so many lines were read

abbrev Commands : ℕ → Setup → List Command → Type 0
Commands lines s cs = IsGoodSetup s × All (IsCommandOf s.me) cs × (length cs ≤ lines)

abbrev IsFit : ℕ → Draft → Type 0
IsFit lines Empty = Unit {0}
IsFit lines (Ruled p) = IsWithinLimits p
IsFit lines (Named p me again) = IsWithinLimits p
IsFit lines (Prepares s) = IsGoodSetup s
IsFit lines (Collects s cs last) = Commands lines s cs
IsFit lines (Complete o) = Commands lines o.setup o.commands × (o.stop < 2 ^ 32)

abbrev IsKept : ℕ → Result (Turned Draft) Fault → Type 0
IsKept lines (Ok turned) = IsFit lines turned.state × (turned.text ≡ [])
IsKept lines (Err fault) = Unit {0}

-- more lines were read
fit_in : (lines more : ℕ) (draft : Draft) → IsFit lines draft → IsFit (lines + more) draft
fit_in lines more Empty h = h
fit_in lines more (Ruled p) h = h
fit_in lines more (Named p me again) h = h
fit_in lines more (Prepares s) h = h
fit_in lines more (Collects s cs last) h = (h.0, h.1, omega (arith, h.2))
fit_in lines more (Complete o) h = ((h.0.0, h.0.1, omega (arith, h.0.2)), h.1)

-- EACH LINE

params_kept : (lines : ℕ) (p : Params) (field : Option Field) → first_out_of_range p ≡ field → IsKept lines (by_params p field)
params_kept lines p None h = (within_limits p h, refl)
params_kept lines p (Some field) h = tt

me_kept : (lines : ℕ) (draft : Draft) (n : ℕ) (again : Bool) → IsFit lines draft → IsKept lines (by_me draft n again)
me_kept lines Empty n again h = tt
me_kept lines (Ruled p) n again h = (h, refl)
me_kept lines (Named p me before) n again h = tt
me_kept lines (Prepares s) n again h = tt
me_kept lines (Collects s cs last) n again h = tt
me_kept lines (Complete o) n again h = tt

no_pairs : AllPairs (λ (p : Peer) (q : Peer). p.link ≢ q.link) []
no_pairs = search rules

local_kept : (lines : ℕ) (draft : Draft) (local : Address) → IsFit lines draft → IsKept lines (by_local draft local)
local_kept lines Empty local h = tt
local_kept lines (Ruled p) local h = tt
local_kept lines (Named p me again) local h = (record { limits = h; differ = no_pairs; same = tt }, refl)
local_kept lines (Prepares s) local h = tt
local_kept lines (Collects s cs last) local h = tt
local_kept lines (Complete o) local h = tt

peer_added : (lines link : ℕ) (address : Address) (charge pace : ℕ) (s : Setup) → IsGoodSetup s → has_link link s.ins ≡ false → IsFit lines (Prepares (record s {
  peers = s.peers ++ (record { link = link; address = address }) ∷ [];
  outs = s.outs ++ (record { link = link; pace = pace }) ∷ [];
  ins = s.ins ++ (record { link = link; charge = charge }) ∷ [];
}))
peer_added lines link address charge pace s h new = record {
  limits = h.limits;
  differ = all_pairs_push (λ (p : Peer) (q : Peer). p.link ≢ q.link) s.peers (record { link = link; address = address }) h.differ (λ k d below. same_differs s.peers s.ins link h.same new k d below);
  same = same_push s.peers s.ins (record { link = link; address = address }) (record { link = link; charge = charge }) h.same refl;
}

peer_kept : (lines link : ℕ) (address : Address) (charge pace : ℕ) (s : Setup) → IsGoodSetup s → IsKept lines (by_peer link address charge pace s)
peer_kept lines link address charge pace s h =
    elim (cases_Bool (has_link link s.ins)) [
      | inl y ↦ rw y tt
      | inr n ↦ rw n (peer_added lines link address charge pace s h n, refl)
    ]

route_kept : (lines to link : ℕ) (s : Setup) (fault : Option SetupFault) → IsGoodSetup s → IsKept lines (route_unless to link s fault)
route_kept lines to link s None h = (record { limits = h.limits; differ = h.differ; same = h.same }, refl)
route_kept lines to link s (Some fault) h = tt

shelf_kept : (lines room : ℕ) (s : Setup) (o : Option ℕ) → IsGoodSetup s → IsKept lines (shelf_unless room s o)
shelf_kept lines room s None h = (record { limits = h.limits; differ = h.differ; same = h.same }, refl)
shelf_kept lines room s (Some other) h = tt

in_setup_kept : (lines : ℕ) (draft : Draft) (does : Setup → Result (Turned Draft) Fault) → IsFit lines draft → ((s : Setup) → IsGoodSetup s → IsKept (lines + 1) (does s)) → IsKept (lines + 1) (in_setup draft does)
in_setup_kept lines Empty does h on = tt
in_setup_kept lines (Ruled p) does h on = tt
in_setup_kept lines (Named p me again) does h on = tt
in_setup_kept lines (Prepares s) does h on = on s h
in_setup_kept lines (Collects s cs last) does h on = tt
in_setup_kept lines (Complete o) does h on = tt

in_commands_kept : (lines : ℕ) (draft : Draft) (does : Setup → List Command → Result (Turned Draft) Fault) → IsFit lines draft → ((s : Setup) (cs : List Command) → Commands lines s cs → IsKept (lines + 1) (does s cs)) → IsKept (lines + 1) (in_commands draft does)
in_commands_kept lines Empty does h on = tt
in_commands_kept lines (Ruled p) does h on = tt
in_commands_kept lines (Named p me again) does h on = tt
in_commands_kept lines (Prepares s) does h on = tt
in_commands_kept lines (Collects s cs last) does h on = on s cs h
in_commands_kept lines (Complete o) does h on = tt

-- a task is the node's where its flow begins or ends there, and the other end is another node
task_is : (me : ℕ) (task : Task) → IsTask task → (ends_of task).0 ≡ me → (ends_of task).1 ≢ me → IsTaskOf me task
task_is me (Sends flow begin end octets) h here there = (here, there, h.1, h.2)
task_is me (Reads flow most) h here there = (here, there, h.1, h.2)

command_kept : (lines at : ℕ) (task : Task) (s : Setup) (cs : List Command) → IsTask task → Commands lines s cs → IsKept (lines + 1) (by_command at task s cs)
command_kept lines at task s cs is h =
    elim (cases_Bool ((ends_of task).0 == s.me)) [
      | inr n ↦ rw n tt
      | inl y ↦
          elim (cases_Bool ((ends_of task).1 == s.me)) [
            | inl z ↦ rw (y, z) tt
            | inr n ↦
                let c : Command = record { at = at; task = task } in
                let more : length (cs ++ c ∷ []) ≡ length cs + 1 = length-append cs (c ∷ []) in
                let own = task_is s.me task is (eqb-true (ends_of task).0 s.me y) (other (ends_of task).1 s.me n) in
                rw (y, n) ((h.0, All-append (IsCommandOf s.me) cs (c ∷ []) h.1 (All-cons (IsCommandOf s.me) c [] own (All-nil (IsCommandOf s.me))), omega (arith, more, h.2)), refl)
          ]
    ]

-- what is known of the words of a line after `go`
abbrev HasWordsAlone : ScriptLine → Type 0
HasWordsAlone (scripts.Me n again) = Unit {0}
HasWordsAlone (scripts.Local address) = Unit {0}
HasWordsAlone (scripts.Node line) = Unit {0}
HasWordsAlone (scripts.At at does) = IsTask (task_of does)
HasWordsAlone (scripts.Stop at) = at < 2 ^ 32

abbrev HasWords : Said → Type 0
HasWords said.Blank = Unit {0}
HasWords (said.Params p) = Unit {0}
HasWords said.Go = Unit {0}
HasWords (said.Setup line) = Unit {0}
HasWords (said.Run line) = Unit {0}
HasWords (said.Script line) = HasWordsAlone line

words_alone : (line : ScriptLine) → IsLine Script (said.Script line) → HasWordsAlone line
words_alone (scripts.Me n again) h = tt
words_alone (scripts.Local address) h = tt
words_alone (scripts.Node line) h = tt
words_alone (scripts.At at does) h = at_task at does h
words_alone (scripts.Stop at) h = omega (arith, h.1.0.1)

line_words : (line : Said) → IsLine Script line → HasWords line
line_words said.Blank h = tt
line_words (said.Params p) h = tt
line_words said.Go h = tt
line_words (said.Setup line) h = tt
line_words (said.Run line) h = tt
line_words (said.Script line) h = words_alone line h

read_words : (line : Said) (octets : List ℕ) → (line ≡ said.Blank) ⊎ (IsLine Script line × IsSpelling Script line octets) → HasWords line
read_words line octets (inl blank) = subst HasWords (sym blank) tt
read_words line octets (inr read) = line_words line read.0

-- A line that changes neither parameters nor peers keeps what is known of a setup.
node_kept : (lines : ℕ) (line : NodeLine) (s : Setup) → IsGoodSetup s → IsKept lines (by_node line s)
node_kept lines (nodes.Peer link address charge pace) s h = peer_kept lines link address charge pace s h
node_kept lines line s h = search (route_kept, shelf_kept)

script_kept : (lines : ℕ) (draft : Draft) (line : ScriptLine) → IsFit lines draft → HasWordsAlone line → IsKept (lines + 1) (by_script draft line)
script_kept lines draft (scripts.Me n again) h words = me_kept (lines + 1) draft n again (fit_in lines 1 draft h)
script_kept lines draft (scripts.Local address) h words = local_kept (lines + 1) draft address (fit_in lines 1 draft h)
script_kept lines draft (scripts.Node line) h words = in_setup_kept lines draft (by_node line) h (λ s k. node_kept (lines + 1) line s k)
script_kept lines draft (scripts.At at does) h words = in_commands_kept lines draft (by_command at (task_of does)) h (λ s cs k. command_kept lines at (task_of does) s cs words k)
script_kept lines draft (scripts.Stop at) h words =
    in_commands_kept lines draft (λ s cs. to_draft (Complete (record { setup = s; commands = cs; stop = at }))) h (λ s cs k. (((k.0, k.1, omega (arith, k.2)), words), refl))

done_kept : (lines : ℕ) (draft : Draft) (line : Said) → IsFit lines draft → HasWords line → IsKept (lines + 1) (done_by draft line)
done_kept lines draft said.Blank h words = (fit_in lines 1 draft h, refl)
done_kept lines draft (said.Params p) h words = params_kept (lines + 1) p (first_out_of_range p) refl
done_kept lines draft said.Go h words = in_setup_kept lines draft (λ s. to_draft (Collects s [] 0)) h (λ s k. ((k, All-nil (IsCommandOf s.me), omega arith), refl))
done_kept lines draft (said.Setup line) h words = tt
done_kept lines draft (said.Run line) h words = tt
done_kept lines draft (said.Script line) h words = script_kept lines draft line h words

if_kept : (lines : ℕ) (draft : Draft) (line : Said) (stage : Option Stage) → IsFit lines draft → HasWords line → IsKept (lines + 1) (done_if stage draft line)
if_kept lines draft line None h words = tt
if_kept lines draft line (Some stage) h words = done_kept lines draft line h words

turn_kept : (lines : ℕ) (draft : Draft) (octets : List ℕ) (r : Result Said LineFault) → line_of Script octets ≡ r → IsFit lines draft → IsKept (lines + 1) (turn_read draft r)
turn_kept lines draft octets (Err fault) e h = tt
turn_kept lines draft octets (Ok line) e h = if_kept lines draft line (stage_after Script (stage_of draft) line) h (read_words line octets (line-only Script octets line e))

-- A WHOLE SCRIPT: where no line is refused, nothing is logged and its orders are there
pub record IsRead (lines : ℕ) (all : Folded Draft) : Type 0 where
  pub fit : IsFit lines all.state
  pub text : all.accepted ≡ true → all.text ≡ []
  pub there : all.accepted ≡ true → (o : Orders) × (orders_in all.state ≡ Some o)

closed_read : (lines number : ℕ) (draft : Draft) (o : Option Orders) → orders_in draft ≡ o → IsFit lines draft → IsRead lines (closed number draft (closed_with o))
closed_read lines number draft None e h = record { fit = h; text = λ a. absurd cc; there = λ a. absurd cc }
closed_read lines number draft (Some o) e h = record { fit = h; text = λ a. refl; there = λ a. (o, e) }

on_read : (lines most number : ℕ) (draft : Draft) (rest : Draft → Folded Draft) (r : Result (Turned Draft) Fault) → IsFit most draft → IsKept (lines + 1) r → ((next : Draft) → IsFit (lines + 1) next → IsRead most (rest next)) → IsRead most (fold_on number draft rest r)
on_read lines most number draft rest (Err fault) h kept on = record { fit = h; text = λ a. absurd cc; there = λ a. absurd cc }
on_read lines most number draft rest (Ok turned) h kept on =
    let k = on turned.state kept.0 in
    record { fit = k.fit; text = λ a. ap (λ xs. xs ++ (rest turned.state).text) kept.1 ∙ k.text a; there = k.there }

lines_read : (lines number : ℕ) (draft : Draft) (rest : List (List ℕ)) → IsFit lines draft → IsRead (lines + length rest) (fold_from script_turns number draft rest)
unfolding fold_from
lines_read lines number draft [] h = closed_read (lines + 0) number draft (orders_in draft) refl (fit_in lines 0 draft h)
lines_read lines number draft (line ∷ rest) h =
    on_read lines (lines + length (line ∷ rest)) number draft (λ next. fold_from script_turns (suc number) next rest) (turn_line draft line) (fit_in lines (length (line ∷ rest)) draft h) (turn_kept lines draft line (line_of Script line) refl h)
    (λ next kept. let same : (lines + 1) + length rest ≡ lines + length (line ∷ rest) = omega arith in subst (λ (n : ℕ). IsRead n (fold_from script_turns (suc number) next rest)) same (lines_read (lines + 1) (suc number) next rest kept))

-- there are no more lines than octets
front_count : (octet : ℕ) (lines : List (List ℕ)) → length (in_front octet lines) ≤ length lines + 1
front_count octet [] = omega arith
front_count octet (line ∷ lines) = omega arith

lines_count : (octets : List ℕ) → length (lines_of octets) ≤ length octets
lines_count [] = omega arith
lines_count (octet ∷ octets) =
    elim (cases_Bool (octet == 10)) [
      | inl y ↦ rw y (omega (arith, lines_count octets))
      | inr n ↦ rw n (omega (arith, lines_count octets, front_count octet (lines_of octets)))
    ]

pub script_read : (octets : List ℕ) → IsRead (length (lines_of octets)) (read_script octets)
unfolding read_script
script_read octets = let same : 0 + length (lines_of octets) ≡ length (lines_of octets) = omega arith in subst (λ (n : ℕ). IsRead n (read_script octets)) same (lines_read 0 1 Empty (lines_of octets) tt)

orders_good : (lines : ℕ) (draft : Draft) (o : Orders) → IsFit lines draft → orders_in draft ≡ Some o → lines ≤ most_commands → IsGood o
orders_good lines Empty o h e few = absurd cc
orders_good lines (Ruled p) o h e few = absurd cc
orders_good lines (Named p me again) o h e few = absurd cc
orders_good lines (Prepares s) o h e few = absurd cc
orders_good lines (Collects s cs last) o h e few = absurd cc
orders_good lines (Complete k) o h e few =
    let same : k ≡ o = cc in
    subst (λ (x : Orders). IsGood x) same (record { setup = h.0.0; tasks = h.0.1; few = omega (arith, h.0.2); stop = h.1 })

-- so a node can carry them out
pub script_good : (octets : List ℕ) (o : Orders) → length octets ≤ most_commands → orders_in (read_script octets).state ≡ Some o → IsGood o
script_good octets o few e = orders_good (length (lines_of octets)) (read_script octets).state o (script_read octets).fit e (omega (arith, lines_count octets))
