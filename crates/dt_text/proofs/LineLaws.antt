-- The lines of each form, by their rows: each way to write a line is read as that line, and nothing else is.
use Rattle.std.proofs.Common.{◌≡◌, ◌≢◌, ℕ, Bool, true, false, not, cond, eqb, ltb, ◌||◌, ◌⊎◌, inl, inr, List, [], ◌∷◌, ◌++◌, None, Result, Ok, Err, length, get_or, refl, sym, ap, subst, ◌∙◌, arith, codes, IfOk}
use Rattle.std.specs.Str.{bytes_eq}
use Rattle.std.specs.List.{join_with_byte}
use Rattle.std.proofs.lemmas.Bool.{eqb-true}
use Rattle.std.proofs.lemmas.Bool.Decides.{nat_tests}
use Rattle.std.proofs.lemmas.List.Splits.{join_with_byte-slice_split}
use Rattle.dt_reports.specs.declared.faults.LineFault.{LineFault}
use Rattle.dt_reports.specs.declared.faults.LineFault.TheVariants as faults
use Rattle.dt_text.specs.declared.lines.Form.{Form}
use Rattle.dt_text.specs.declared.lines.Form.TheVariants.{Schedule, Script, Calls}
use Rattle.dt_text.specs.declared.lines.Line.{Line}
use Rattle.dt_text.specs.declared.lines.Line.TheVariants as lines
use Rattle.dt_text.specs.declared.lines.Line.TheVariants.{Blank}
use Rattle.dt_text.specs.declared.lines.NodeLine.{NodeLine}
use Rattle.dt_text.specs.declared.lines.NodeLine.TheVariants as nodes
use Rattle.dt_text.specs.declared.lines.RunLine.{RunLine}
use Rattle.dt_text.specs.declared.lines.RunLine.TheVariants as runs
use Rattle.dt_text.specs.declared.lines.ScriptLine.{ScriptLine}
use Rattle.dt_text.specs.declared.lines.ScriptLine.TheVariants as scripts
use Rattle.dt_text.specs.declared.lines.SetupLine.{SetupLine}
use Rattle.dt_text.specs.declared.lines.SetupLine.TheVariants as setups
use Rattle.dt_text.specs.declared.lines.UserLine.{UserLine}
use Rattle.dt_text.specs.declared.lines.UserLine.TheVariants as users
use Rattle.dt_text.specs.declared.lines.WorldLine.{WorldLine}
use Rattle.dt_text.specs.declared.lines.WorldLine.TheVariants as worlds
use Rattle.dt_text.specs.Splitting.{cut, words, word}
use Rattle.dt_text.specs.Said.{Said, ReadAs, said}
use Rattle.dt_text.specs.Rows.{Part, Fixed, Given, Makes, LineRow, LineKind, params_row, of_schedules, of_scripts, of_calls, behind_moments}
use Rattle.dt_text.specs.Lines.{said_by, said_as, name_at, said_by_name, said_at, said_in, line_of}
use Rattle.dt_text.specs.Spelling.{Values, made, texts, AreOfKinds, Way, in_world, in_schedule, in_script, setup_ways, world_ways, user_ways, run_ways, node_ways, at_ways, script_ways, ways, IsLine, way_text, IsSpelledBy, IsSpelling}
use Rattle.dt_text.proofs.CutLemmas.{words-cut_none, words-cut_some, cut-cons_no, onto_front}
use Rattle.dt_text.proofs.CutLaws.{IsFree, cut-at}
use Rattle.dt_text.proofs.WordLaws.{IsTold, told-err, told-choice, not_order, chosen, is_text}
use Rattle.dt_text.proofs.RowLaws.{are_sound, Stand, row-read, row-only, row-free, row-told, AreFree}

-- What is written is read.

cut-free : (text : List ℕ) → IsFree 32 text → cut 32 text ≡ None
unfolding IsFree
cut-free [] h = refl
cut-free (x ∷ text) h = cut-cons_no 32 x text h.0 ∙ ap (onto_front x) (cut-free text h.1)

-- words with single spaces between them are these words
words-join : (w : List ℕ) (ws : List (List ℕ)) → AreFree (w ∷ ws) → words (join_with_byte 32 (w ∷ ws)) ≡ w ∷ ws
words-join w [] h = words-cut_none w (cut-free w h.0)
words-join w (v ∷ ws) h =
    words-cut_some (w ++ 32 ∷ join_with_byte 32 (v ∷ ws)) w (join_with_byte 32 (v ∷ ws)) (cut-at 32 w (join_with_byte 32 (v ∷ ws)) h.0)
    ∙ ap (λ rest. w ∷ rest) (words-join v ws h.1)

join-first : (x : ℕ) (text : List ℕ) (ws : List (List ℕ)) → (more : List ℕ) × (join_with_byte 32 ((x ∷ text) ∷ ws) ≡ x ∷ more)
join-first x text [] = (text, refl)
join-first x text (w ∷ ws) = (text ++ 32 ∷ join_with_byte 32 (w ∷ ws), refl)

-- the first word is fixed, and no comment begins with it
abbrev is_named : List Part → Bool
is_named [] = false
is_named (Given kind ∷ parts) = false
is_named (Fixed [] ∷ parts) = false
is_named (Fixed (x ∷ text) ∷ parts) = not (eqb x 35)

not_blank : (first : ℕ) (more : List ℕ) → not (eqb first 35) ≡ true → (eqb (length (first ∷ more)) 0 || eqb first 35) ≡ false
not_blank first more h = grind (arith, nat_tests)

text-read : (form : Form) (parts : List Part) (makes : Makes parts) (values : Values parts) → are_sound parts ≡ true → is_named parts ≡ true → said_in form (texts parts values) ≡ said_by parts makes 0 (texts parts values) → AreOfKinds parts values
    → line_of form (join_with_byte 32 (texts parts values)) ≡ Ok (made parts makes values)
unfolding line_of
text-read form [] makes values sound named found kinds = cc
text-read form (Given kind ∷ parts) makes values sound named found kinds = cc
text-read form (Fixed [] ∷ parts) makes values sound named found kinds = cc
text-read form (Fixed (x ∷ text) ∷ parts) makes values sound named found kinds =
    let row : List Part = Fixed (x ∷ text) ∷ parts in
    let joined = join-first x text (texts parts values) in
    ap (line_of form) joined.1
    ∙ ap (λ (b : Bool). cond b (Ok Blank) (said_in form (words (x ∷ joined.0)))) (not_blank x joined.0 named)
    ∙ ap (said_in form) (ap words (sym joined.1) ∙ words-join (x ∷ text) (texts parts values) (row-free row values sound kinds))
    ∙ found
    ∙ row-read row makes values sound kinds

-- a row is found by its words
abbrev IsFound : Form → Way → Type 0
IsFound form way =
    (are_sound way.row.words ≡ true) × (is_named way.row.words ≡ true) × (said_in form (texts way.row.words way.values) ≡ said_by way.row.words way.row.says 0 (texts way.row.words way.values))

abbrev AreFound : Form → List Way → Type 0
AreFound form [] = Unit {0}
AreFound form (way ∷ ways) = IsFound form way × AreFound form ways

-- the rows of the ways to write a line are found by their words, for each kind of line
setup-found : (form : Form) (line : SetupLine) → AreFound form (in_world form (setup_ways line))
unfolding said_as
setup-found Schedule (setups.Station n zero) = search refl
setup-found Script (setups.Station n zero) = search refl
setup-found Calls (setups.Station n zero) = search refl
setup-found form line = search refl

world-found : (form : Form) (line : WorldLine) → AreFound form (in_world form (world_ways line))
unfolding said_as
world-found Schedule (worlds.Pass by) = search refl
world-found Script (worlds.Pass by) = search refl
world-found Calls (worlds.Pass by) = search refl
world-found form line = search refl

-- lines of schedules alone, and of scripts alone
schedule-found : (form : Form) (some : List Way) → AreFound Schedule some → AreFound form (in_schedule form some)
schedule-found Schedule some h = h
schedule-found Script some h = tt
schedule-found Calls some h = tt

script-found : (form : Form) (some : List Way) → AreFound Script some → AreFound form (in_script form some)
script-found Schedule some h = tt
script-found Script some h = h
script-found Calls some h = tt

user-found : (line : UserLine) → AreFound Schedule (user_ways line)
unfolding said_as
user-found (users.Read flow max) = search refl
user-found line = search refl

run-found : (form : Form) (line : RunLine) → AreFound form (run_ways form line)
unfolding said_as
run-found form (runs.World line) = world-found form line
run-found form (runs.User line) = schedule-found form (user_ways line) (user-found line)
run-found Schedule (runs.Call flow hex) = search refl
run-found Script (runs.Call flow hex) = search refl
run-found Calls (runs.Call flow hex) = search refl

node-found : (line : NodeLine) → AreFound Script (node_ways line)
unfolding said_as
node-found (nodes.Route to link) = search refl
node-found line = search refl

at-found : (at : ℕ) (does : UserLine) → AreFound Script (at_ways at does)
unfolding said_as said_at
at-found at (users.Read flow max) = search refl
at-found at does = search refl

script_line-found : (line : ScriptLine) → AreFound Script (script_ways line)
unfolding said_as said_at
script_line-found (scripts.Node line) = node-found line
script_line-found (scripts.At at does) = at-found at does
script_line-found line = search refl

ways-found : (form : Form) (line : Said) → (line ≡ Blank) ⊎ AreFound form (ways form line)
unfolding said_as
ways-found Schedule Blank = inl refl
ways-found Script Blank = inl refl
ways-found Calls Blank = inl refl
ways-found form (lines.Setup line) = inr (setup-found form line)
ways-found form (lines.Run line) = inr (run-found form line)
ways-found form (lines.Script line) = inr (script-found form (script_ways line) (script_line-found line))
ways-found form line = inr (search refl)

spelled-read : (form : Form) (line : Said) (octets : List ℕ) (some : List Way) → AreFound form some → IsSpelledBy line octets some → line_of form octets ≡ Ok line
unfolding way_text
spelled-read form line octets [] found h = absurd h
spelled-read form line octets (way ∷ some) found (inl h) =
    ap (line_of form) h.1
    ∙ text-read form way.row.words way.row.says way.values found.0.0 found.0.1 found.0.2 h.0.1
    ∙ ap (λ (s : Said). Ok s) h.0.0
spelled-read form line octets (way ∷ some) found (inr h) = spelled-read form line octets some found.1 h

blank-read : (form : Form) (octets : List ℕ) → IsSpelling form Blank octets → line_of form octets ≡ Ok Blank
unfolding line_of way_text
blank-read form octets (inl h) = ap (line_of form) h.1
blank-read form octets (inr h) = absurd h

pub line-read : (form : Form) (line : Said) (octets : List ℕ) → IsSpelling form line octets → line_of form octets ≡ Ok line
line-read form line octets h =
    elim (ways-found form line) [
      | inl blank ↦ blank-read form octets (subst (λ (s : Said). IsSpelling form s octets) blank h) ∙ ap (λ (s : Said). Ok s) (sym blank)
      | inr found ↦ spelled-read form line octets (ways form line) found h
    ]

-- Nothing else is read.

-- what a row makes is a line of the form, and the row's text is a spelling of it
abbrev RowFits : Form → LineRow → Type 0
RowFits form row = (values : Values row.words) → AreOfKinds row.words values
    → IsLine form (made row.words row.says values) × IsSpelling form (made row.words row.says values) (way_text (record { row = row; values = values }))

abbrev RowsFit : Form → List (List ℕ) → LineKind → Type 0
RowsFit form line [] = Unit {0}
RowsFit form line (row ∷ rows) = (Stand 0 row.words line × (are_sound row.words ≡ true) × RowFits form row) × RowsFit form line rows

-- the rows of the kinds, where the word at the place names the kind
abbrev KindsFit : Form → ℕ → List (List ℕ) → List LineKind → Type 0
KindsFit form place line [] = Unit {0}
KindsFit form place line (kind ∷ kinds) = (word place line ≡ name_at place kind → RowsFit form line kind) × KindsFit form place line kinds

-- parameters without START are those with the START 0
params-fit : (form : Form) → RowFits form params_row
params-fit form values kinds = ((refl, search arith depth 24), inr (inl ((refl, kinds), refl)))

schedules-fit : (line : List (List ℕ)) → KindsFit Schedule 0 line of_schedules
schedules-fit line = search (params-fit, refl, inl) depth 24

scripts-fit : (line : List (List ℕ)) → KindsFit Script 0 line of_scripts
scripts-fit line = search (params-fit, refl, inl) depth 24

calls-fit : (line : List (List ℕ)) → KindsFit Calls 0 line of_calls
calls-fit line = search (params-fit, refl, inl) depth 24

moments-fit : (line : List (List ℕ)) → word 0 line ≡ codes "at" → KindsFit Script 2 line behind_moments
moments-fit line at = search (refl, inl) depth 24

-- the words are those of the line, and it is a line of the form
abbrev pub IsHeld : Form → List (List ℕ) → Said → Type 0
IsHeld form line said = IsLine form said × IsSpelling form said (join_with_byte 32 line)

row-held : (form : Form) (row : LineRow) (line : List (List ℕ)) (what : Said) → Stand 0 row.words line → are_sound row.words ≡ true → RowFits form row → length line ≡ length row.words → said_by row.words row.says 0 line ≡ Ok what
    → IsHeld form line what
unfolding way_text
row-held form row line what stand sound fits len h =
    let read = row-only row.words row.says line what sound stand len h in
    let held : IsHeld form (texts row.words read.0) (made row.words row.says read.0) = fits read.0 read.2 in
    subst (λ (ws : List (List ℕ)). IsHeld form ws what) (sym read.3) (subst (λ (s : Said). IsHeld form (texts row.words read.0) s) read.1 held)

kind-held : (form : Form) (kind : LineKind) (line : List (List ℕ)) (what : Said) → RowsFit form line kind → said_as kind line ≡ Ok what → IsHeld form line what
unfolding said_as
kind-held form [] line what fit h = cc
kind-held form (row ∷ rows) line what fit h =
    elim (chosen (eqb (length line) (length row.words)) _ _ what h) [
      | inl read ↦ row-held form row line what fit.0.0 fit.0.1 fit.0.2 (eqb-true (length line) (length row.words) read.0) read.1
      | inr other ↦ kind-held form rows line what fit.1 other
    ]

named-held : (form : Form) (place : ℕ) (kinds : List LineKind) (line : List (List ℕ)) (what : Said) → KindsFit form place line kinds → said_by_name place kinds line ≡ Ok what → IsHeld form line what
named-held form place [] line what fit h = cc
named-held form place (kind ∷ kinds) line what fit h =
    elim (chosen (bytes_eq (word place line) (name_at place kind)) _ _ what h) [
      | inl read ↦ kind-held form kind line what (fit.0 (is_text (word place line) (name_at place kind) read.0)) read.1
      | inr other ↦ named-held form place kinds line what fit.1 other
    ]

at-held : (line : List (List ℕ)) (what : Said) → word 0 line ≡ codes "at" → said_at line ≡ Ok what → IsHeld Script line what
unfolding said_at
at-held line what at h =
    elim (chosen (ltb (length line) 3) _ _ what h) [
      | inl few ↦ cc
      | inr read ↦ named-held Script 2 behind_moments line what (moments-fit line at) read
    ]

pub form-held : (form : Form) (line : List (List ℕ)) (what : Said) → said_in form line ≡ Ok what → IsHeld form line what
form-held Schedule line what h = named-held Schedule 0 of_schedules line what (schedules-fit line) h
form-held Calls line what h = named-held Calls 0 of_calls line what (calls-fit line) h
form-held Script line what h =
    elim (chosen (bytes_eq (word 0 line) (codes "at")) _ _ what h) [
      | inl read ↦ at-held line what (is_text (word 0 line) (codes "at") read.0) read.1
      | inr read ↦ named-held Script 0 of_scripts line what (scripts-fit line) read
    ]

pub line-only : (form : Form) (octets : List ℕ) (line : Said) → line_of form octets ≡ Ok line → (line ≡ Blank) ⊎ (IsLine form line × IsSpelling form line octets)
unfolding line_of
line-only form octets line h =
    elim (chosen (eqb (length octets) 0 || eqb (get_or octets 0 0) 35) _ _ line h) [
      | inl read ↦ let is : Blank ≡ line = cc in inl (sym is)
      | inr read ↦ let held = form-held form (words octets) line read in inr (held.0, subst (IsSpelling form line) (join_with_byte-slice_split 32 octets) held.1)
    ]

-- what was read of words is a line of the form
pub reads-within : (form : Form) (line : List (List ℕ)) (read : Result Line LineFault) → ReadAs read (said_in form line) → IfOk read (λ value. IsLine form (said value))
reads-within form line (Ok value) reads = (form-held form line (said value) reads).0
reads-within form line (Err fault) reads = tt

-- No fault is Order.

kind-told : (kind : LineKind) (line : List (List ℕ)) → IsTold (said_as kind line)
unfolding said_as
kind-told [] line = told-err _ faults.Count (λ h. cc)
kind-told (row ∷ rows) line = told-choice (eqb (length line) (length row.words)) _ _ (row-told row.words row.says 0 line) (kind-told rows line)

named-told : (place : ℕ) (kinds : List LineKind) (line : List (List ℕ)) → IsTold (said_by_name place kinds line)
named-told place [] line = told-err _ faults.Word (λ h. cc)
named-told place (kind ∷ kinds) line = told-choice (bytes_eq (word place line) (name_at place kind)) _ _ (kind-told kind line) (named-told place kinds line)

at-told : (line : List (List ℕ)) → IsTold (said_at line)
unfolding said_at
at-told line = told-choice (ltb (length line) 3) _ _ (told-err _ faults.Count (λ h. cc)) (named-told 2 behind_moments line)

form-told : (form : Form) (line : List (List ℕ)) → IsTold (said_in form line)
form-told Schedule line = named-told 0 of_schedules line
form-told Calls line = named-told 0 of_calls line
form-told Script line = told-choice (bytes_eq (word 0 line) (codes "at")) _ _ (at-told line) (named-told 0 of_scripts line)

reads-told : (read : Result Line LineFault) (line : Result Said LineFault) → ReadAs read line → IsTold line → read ≢ Err faults.Order
reads-told (Ok value) line reads told = λ h. cc
reads-told (Err fault) line reads told = λ h. let is : fault ≡ faults.Order = cc in not_order line told (reads ∙ ap (λ (f : LineFault). Err f) is)

-- what was read of words is no fault Order
pub reads-not_order : (form : Form) (line : List (List ℕ)) (read : Result Line LineFault) → ReadAs read (said_in form line) → read ≢ Err faults.Order
reads-not_order form line read reads = reads-told read (said_in form line) reads (form-told form line)
