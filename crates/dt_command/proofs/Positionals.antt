-- What `clap` makes of the command line: it takes two positional words, and leaves out the first `--`.
use Rattle.std.proofs.Common.{◌≡◌, ◌⊎◌, ℕ, zero, suc, ◌≤◌, ◌==◌, Bool, true, false, List, [], ◌∷◌, length, Option, Some, None, refl, sym, ap, ap₂, ◌∙◌, subst, inl, inr, arith, fold, codes, slice_get, if◌then◌else◌, eqb-true, option_and_then, is_some, bytes_eq, chars}
use Rattle.clap.specs.Words.{App, Row, Rule, Kinds, new_app, new_rule, with_rule, is_simple_and_free, first_of, matches_of, fault_of}
use Rattle.clap.specs.Simple.{Shape, built, on_top, entered}
use Rattle.clap.specs.Kinds.{or_else}
use Rattle.clap.specs.Faults.{word_fault, turn_fault, walk_fault, entered_fault, settle_fault, defaults_fault, check_fault, flags_fault, bundle_fault, bundle_step_fault, flag_word_fault, step_fault}
use Rattle.clap.specs.Walk.{Text, Held, Walk, Step, idle, value, trailing, nothing_held, walked, word_met, settled, finished, bundle_met, bundle_step, after_step, after_flag, long_or_other, short_or_plain, plain}
use Rattle.clap.specs.declared.error.kind.ErrorKind.{ErrorKind}
use Rattle.clap.specs.declared.error.kind.ErrorKind.TheVariants as kind
use Rattle.clap.specs.Lexer.{long_of, long_of_rest, short_of, short_of_rest, strip_byte}
use Rattle.std.specs.Option.{option_map_or}
use Rattle.std.proofs.lemmas.Slice.Eq.{bytes_eq-Decides}
use Rattle.dt_command.specs.Words.{without_mark}

-- THE COMMAND LINE

abbrev pub command_rule : Rule
command_rule = record (new_rule (codes "command")) { required = true }

abbrev pub count_rule : Rule
count_rule = new_rule (codes "count")

abbrev pub line : App
line = with_rule (with_rule (on_top (λ s. record s { no_binary_name = true; disable_help_flag = true; disable_version_flag = true }) (new_app (codes "deltat"))) command_rule) count_rule

abbrev shape : Shape
shape = (built line).top

abbrev rules : List Rule
rules = shape.rules

pub is_free : is_simple_and_free line ≡ true
is_free = refl

-- WHERE THE WALK STANDS, after the mark or not, with none of the positional words, one or two

abbrev at0 : Bool → Walk
at0 behind = record { held = nothing_held; waiting = idle; position = 1; is_trailing = behind; stopped = None }

abbrev held1 : Text → Held
held1 a = record { rows = []; pending = Some (codes "command", a ∷ []); skip = 0 }

abbrev at1 : Bool → Text → Walk
at1 behind a = record { held = held1 a; waiting = idle; position = 2; is_trailing = behind; stopped = None }

abbrev held2 : Text → Text → Held
held2 a b = record { rows = (settled rules (held1 a)).rows; pending = Some (codes "count", b ∷ []); skip = 0 }

abbrev at2 : Bool → Text → Text → Walk
at2 behind a b = record { held = held2 a b; waiting = idle; position = 3; is_trailing = behind; stopped = None }

behind0 : (a : Text) → walked rules [] (at0 true) a ≡ at1 true a
unfolding walked
behind0 a = refl

behind1 : (a b : Text) → walked rules [] (at1 true a) b ≡ at2 true a b
unfolding walked
behind1 a b = refl

-- ONE WORD before the mark: it is the mark, or it is taken, or it is a fault

abbrev held : List Row → Option (Text × List Text) → Held
held rows pending = record { rows = rows; pending = pending; skip = 0 }

abbrev fault : Text → Held → Kinds
fault word h = word_fault shape [] false idle word h

abbrev met : ℕ → Text → Held → Held × Step
met position word h = word_met rules [] false idle position word h

record IsMark (position : ℕ) (word : Text) (h : Held) : Type 0 where
  is : bytes_eq word (codes "--") ≡ true
  met : met position word h ≡ (h, trailing position)

record IsTaken (position : ℕ) (word : Text) (h : Held) : Type 0 where
  is : bytes_eq word (codes "--") ≡ false
  met : met position word h ≡ (h, value)

-- the word doesn't begin with a hyphen
abbrev pub NoHyphen : Text → Type 0
NoHyphen [] = Unit {0}
NoHyphen (x ∷ word) = (x == 45) ≡ false

some_kind : {k : ErrorKind} {ks : Kinds} → k ∷ ks ≡ [] → ⊥
some_kind e = cc

-- a word of which these three are known
is_taken : (position : ℕ) (word : Text) (h : Held) → bytes_eq word (codes "--") ≡ false → long_of word ≡ None → short_of word ≡ None → IsTaken position word h
is_taken position word h mark long short = record {
  is = mark;
  met = ap (λ b. if b then (h, trailing position) else long_or_other rules idle word (long_of word) h) mark
      ∙ ap (λ l. long_or_other rules idle word l h) long ∙ ap (λ s. short_or_plain rules idle word s h) short;
}

-- how a word is refused of which the first two are known
unfoldable refused_by : Text → Held → Option Text → Kinds
refused_by word h short = option_map_or (λ flags. bundle_fault rules shape.args_override_self flags h) short []

fault_by : (word : Text) (h : Held) (short : Option Text) → bytes_eq word (codes "--") ≡ false → long_of word ≡ None → short_of word ≡ short → fault word h ≡ refused_by word h short
unfolding refused_by
fault_by word h short mark long is =
    ap (λ b. if b then [] else flag_word_fault rules shape.args_override_self (long_of word) word h) mark
    ∙ ap (λ l. flag_word_fault rules shape.args_override_self l word h) long
    ∙ ap (λ s. option_map_or (λ flags. bundle_fault rules shape.args_override_self flags h) s []) is

no_mark : (x : ℕ) (word : Text) → (x == 45) ≡ false → bytes_eq (x ∷ word) (codes "--") ≡ false
no_mark x word h = rw h refl

no_long : (x : ℕ) (word : Text) → (x == 45) ≡ false → long_of (x ∷ word) ≡ None
no_long x word h = ap (λ b. option_and_then long_of_rest (option_and_then (strip_byte 45) (if b then Some word else None))) h

no_short : (x : ℕ) (word : Text) → (x == 45) ≡ false → short_of (x ∷ word) ≡ None
no_short x word h = ap (λ b. option_and_then short_of_rest (if b then Some word else None)) h

taken_plain : (position : ℕ) (word : Text) (h : Held) → NoHyphen word → IsTaken position word h
taken_plain position [] h n = is_taken position [] h refl refl refl
taken_plain position (x ∷ word) h n = is_taken position (x ∷ word) h (no_mark x word n) (no_long x word n) (no_short x word n)

no_fault_plain : (word : Text) (h : Held) → NoHyphen word → fault word h ≡ []
unfolding refused_by
no_fault_plain [] h n = fault_by [] h None refl refl refl
no_fault_plain (x ∷ word) h n = fault_by (x ∷ word) h None (no_mark x word n) (no_long x word n) (no_short x word n)

-- AFTER `--NAME` or `-x`: no argument has such a name

long_is_fault : (rows : List Row) (pending : Option (Text × List Text)) (z : ℕ) (zs : Text) → fault (45 ∷ 45 ∷ z ∷ zs) (held rows pending) ≡ kind.UnknownArgument ∷ []
long_is_fault rows pending z zs = refl

no_mark_behind : (y : ℕ) (ys : Text) → (y == 45) ≡ false → bytes_eq (45 ∷ y ∷ ys) (codes "--") ≡ false
no_mark_behind y ys e = rw e refl

no_long_behind : (y : ℕ) (ys : Text) → (y == 45) ≡ false → long_of (45 ∷ y ∷ ys) ≡ None
no_long_behind y ys e = ap (λ b. option_and_then long_of_rest (if b then Some ys else None)) e

short_behind : (y : ℕ) (ys : Text) → (y == 45) ≡ false → short_of (45 ∷ y ∷ ys) ≡ Some (y ∷ ys)
short_behind y ys e = ap (λ b. if b then None else Some (y ∷ ys)) e

-- `-x..`: a fault, or, where the rest isn't text, a word as any other
bundle_fault_is : (found : Option ℕ) (y : ℕ) (ys : Text) (rows : List Row) (pending : Option (Text × List Text)) → slice_get (chars (y ∷ ys)) 0 ≡ found
    → refused_by (45 ∷ y ∷ ys) (held rows pending) (Some (y ∷ ys)) ≡ bundle_step_fault rules shape.args_override_self found (y ∷ ys) 0 (held rows pending) (flags_fault rules shape.args_override_self (length ys))
unfolding refused_by flags_fault
bundle_fault_is found y ys rows pending f = ap (λ o. bundle_step_fault rules shape.args_override_self o (y ∷ ys) 0 (held rows pending) (flags_fault rules shape.args_override_self (length ys))) f

bundle_plain : (position y : ℕ) (ys : Text) (rows : List Row) (pending : Option (Text × List Text)) → (y == 45) ≡ false → slice_get (chars (y ∷ ys)) 0 ≡ None → IsTaken position (45 ∷ y ∷ ys) (held rows pending)
unfolding bundle_met
bundle_plain position y ys rows pending e f =
    let word = 45 ∷ y ∷ ys in
    let h = held rows pending in
    record {
      is = no_mark_behind y ys e;
      met = ap (λ b. if b then (h, trailing position) else long_or_other rules idle word (long_of word) h) (no_mark_behind y ys e)
          ∙ ap (λ l. long_or_other rules idle word l h) (no_long_behind y ys e)
          ∙ ap (λ s. short_or_plain rules idle word s h) (short_behind y ys e)
          ∙ ap (λ o. after_flag rules idle word (bundle_step rules o (y ∷ ys) 0 plain h (bundle_met rules (length ys))).0 (bundle_step rules o (y ∷ ys) 0 plain h (bundle_met rules (length ys))).1) f;
    }

bundle_outcome : (found : Option ℕ) (position y : ℕ) (ys : Text) (rows : List Row) (pending : Option (Text × List Text)) → (y == 45) ≡ false → slice_get (chars (y ∷ ys)) 0 ≡ found
    → fault (45 ∷ y ∷ ys) (held rows pending) ≡ [] → IsTaken position (45 ∷ y ∷ ys) (held rows pending)
bundle_outcome None position y ys rows pending e f h = bundle_plain position y ys rows pending e f
bundle_outcome (Some x) position y ys rows pending e f h =
    let is = fault_by (45 ∷ y ∷ ys) (held rows pending) (Some (y ∷ ys)) (no_mark_behind y ys e) (no_long_behind y ys e) (short_behind y ys e) ∙ bundle_fault_is (Some x) y ys rows pending f in
    let bad : kind.UnknownArgument ∷ [] ≡ [] = sym is ∙ h in
    absurd (some_kind bad)

-- any word before the mark that is no fault
word_is : (position : ℕ) (word : Text) (rows : List Row) (pending : Option (Text × List Text)) → fault word (held rows pending) ≡ [] → IsMark position word (held rows pending) ⊎ IsTaken position word (held rows pending)
word_is position [] rows pending h = inr (taken_plain position [] _ tt)
word_is position (x ∷ word) rows pending h = first (x == 45) refl
  where
    third : (zs : Text) → fault (45 ∷ 45 ∷ zs) (held rows pending) ≡ [] → IsMark position (45 ∷ 45 ∷ zs) (held rows pending) ⊎ IsTaken position (45 ∷ 45 ∷ zs) (held rows pending)
    third [] k = inl (record { is = refl; met = refl })
    third (z ∷ zs) k = absurd (some_kind (sym (long_is_fault rows pending z zs) ∙ k))

    second : (y : ℕ) (ys : Text) (b : Bool) → (y == 45) ≡ b → fault (45 ∷ y ∷ ys) (held rows pending) ≡ [] → IsMark position (45 ∷ y ∷ ys) (held rows pending) ⊎ IsTaken position (45 ∷ y ∷ ys) (held rows pending)
    second y ys true e k = subst (λ n. fault (45 ∷ n ∷ ys) (held rows pending) ≡ [] → IsMark position (45 ∷ n ∷ ys) (held rows pending) ⊎ IsTaken position (45 ∷ n ∷ ys) (held rows pending)) (sym (eqb-true y 45 e)) (third ys) k
    second y ys false e k = inr (bundle_outcome (slice_get (chars (y ∷ ys)) 0) position y ys rows pending e refl k)

    behind : (ys : Text) → fault (45 ∷ ys) (held rows pending) ≡ [] → IsMark position (45 ∷ ys) (held rows pending) ⊎ IsTaken position (45 ∷ ys) (held rows pending)
    behind [] k = inr (is_taken position (45 ∷ []) _ refl refl refl)
    behind (y ∷ ys) k = second y ys (y == 45) refl k

    first : (b : Bool) → (x == 45) ≡ b → IsMark position (x ∷ word) (held rows pending) ⊎ IsTaken position (x ∷ word) (held rows pending)
    first true e = subst (λ n. fault (n ∷ word) (held rows pending) ≡ [] → IsMark position (n ∷ word) (held rows pending) ⊎ IsTaken position (n ∷ word) (held rows pending)) (sym (eqb-true x 45 e)) (behind word) h
    first false e = inr (taken_plain position (x ∷ word) _ e)

-- ALL OF THE WORDS

split : (first next : Kinds) → or_else first next ≡ [] → (first ≡ []) × (next ≡ [])
split [] next h = (refl, h)
split (k ∷ ks) next h = absurd (some_kind h)

abbrev walked_over : Walk → List Text → Walk
walked_over w words = fold (walked rules []) w words

-- where the walk ends that took these words
abbrev Ended : Walk → List Text → Type 0
Ended end [] = (behind : Bool) × (end ≡ at0 behind)
Ended end (a ∷ []) = (behind : Bool) × (end ≡ at1 behind a)
Ended end (a ∷ b ∷ []) = (behind : Bool) × (end ≡ at2 behind a b)
Ended end (a ∷ b ∷ c ∷ more) = ⊥

stray : (a b c : Text) (words : List Text) → walk_fault shape [] (at2 true a b) (c ∷ words) ≡ [] → ⊥
unfolding walk_fault
stray a b c words h = some_kind h

tail2 : (a b : Text) (words : List Text) → walk_fault shape [] (at2 true a b) words ≡ [] → Ended (walked_over (at2 true a b) words) (a ∷ b ∷ words)
tail2 a b [] h = (true, refl)
tail2 a b (c ∷ words) h = absurd (stray a b c words h)

tail1 : (a : Text) (words : List Text) → walk_fault shape [] (at1 true a) words ≡ [] → Ended (walked_over (at1 true a) words) (a ∷ words)
unfolding walk_fault walked
tail1 a [] h = (true, refl)
tail1 a (b ∷ words) h = tail2 a b words h

tail0 : (words : List Text) → walk_fault shape [] (at0 true) words ≡ [] → Ended (walked_over (at0 true) words) words
unfolding walk_fault walked
tail0 [] h = (true, refl)
tail0 (a ∷ words) h = tail1 a words h

-- the walk after a word before the mark
marked0 : (word : Text) → IsMark 1 word nothing_held → walked rules [] (at0 false) word ≡ at0 true
unfolding walked
marked0 word m = ap (λ (met : Held × Step). after_step rules word (at0 false) met.0 met.1) m.met

taken0 : (word : Text) → IsTaken 1 word nothing_held → walked rules [] (at0 false) word ≡ at1 false word
unfolding walked
taken0 word t = ap (λ (met : Held × Step). after_step rules word (at0 false) met.0 met.1) t.met

marked1 : (a word : Text) → IsMark 2 word (held1 a) → walked rules [] (at1 false a) word ≡ at1 true a
unfolding walked
marked1 a word m = ap (λ (met : Held × Step). after_step rules word (at1 false a) met.0 met.1) m.met

taken1 : (a word : Text) → IsTaken 2 word (held1 a) → walked rules [] (at1 false a) word ≡ at2 false a word
unfolding walked
taken1 a word t = ap (λ (met : Held × Step). after_step rules word (at1 false a) met.0 met.1) t.met

marked2 : (a b word : Text) → IsMark 3 word (held2 a b) → walked rules [] (at2 false a b) word ≡ at2 true a b
unfolding walked
marked2 a b word m = ap (λ (met : Held × Step). after_step rules word (at2 false a b) met.0 met.1) m.met

-- a third word that is taken is a fault
third_is_fault : (a b word : Text) → IsTaken 3 word (held2 a b) → step_fault shape 3 (met 3 word (held2 a b)).0 (met 3 word (held2 a b)).1 ≡ [] → ⊥
third_is_fault a b word t h = some_kind (sym (ap (λ (m : Held × Step). step_fault shape 3 m.0 m.1) t.met) ∙ h)

mark_cut : (word : Text) (words : List Text) → bytes_eq word (codes "--") ≡ true → without_mark (word ∷ words) ≡ words
mark_cut word words e = ap (λ b. if b then words else word ∷ without_mark words) e

mark_kept : (word : Text) (words : List Text) → bytes_eq word (codes "--") ≡ false → without_mark (word ∷ words) ≡ word ∷ without_mark words
mark_kept word words e = ap (λ b. if b then words else word ∷ without_mark words) e

-- what is known from a walk on is known from one that leads there
goes_to : (w v : Walk) (words given texts : List Text) → w ≡ v → given ≡ texts → (walk_fault shape [] v words ≡ [] → Ended (walked_over v words) texts) → walk_fault shape [] w words ≡ [] → Ended (walked_over w words) given
goes_to w v words given texts e f rest =
    subst (λ u. walk_fault shape [] u words ≡ [] → Ended (walked_over u words) given) (sym e)
    (subst (λ t. walk_fault shape [] v words ≡ [] → Ended (walked_over v words) t) (sym f) rest)

head2 : (a b : Text) (words : List Text) → walk_fault shape [] (at2 false a b) words ≡ [] → Ended (walked_over (at2 false a b) words) (a ∷ b ∷ without_mark words)
unfolding walk_fault
head2 a b [] h = (false, refl)
head2 a b (word ∷ words) h =
    let parts = split (turn_fault shape [] (at2 false a b) word) (walk_fault shape [] (walked rules [] (at2 false a b) word) words) h in
    let turn = split (fault word (held2 a b)) (step_fault shape 3 (met 3 word (held2 a b)).0 (met 3 word (held2 a b)).1) parts.0 in
    elim (word_is 3 word (held2 a b).rows (held2 a b).pending turn.0) [
      | inl m ↦ goes_to _ (at2 true a b) words _ (a ∷ b ∷ words) (marked2 a b word m) (ap (λ t. a ∷ b ∷ t) (mark_cut word words m.is)) (tail2 a b words) parts.1
      | inr t ↦ absurd (third_is_fault a b word t turn.1)
    ]

head1 : (a : Text) (words : List Text) → walk_fault shape [] (at1 false a) words ≡ [] → Ended (walked_over (at1 false a) words) (a ∷ without_mark words)
unfolding walk_fault
head1 a [] h = (false, refl)
head1 a (word ∷ words) h =
    let parts = split (turn_fault shape [] (at1 false a) word) (walk_fault shape [] (walked rules [] (at1 false a) word) words) h in
    let turn = split (fault word (held1 a)) (step_fault shape 2 (met 2 word (held1 a)).0 (met 2 word (held1 a)).1) parts.0 in
    elim (word_is 2 word (held1 a).rows (held1 a).pending turn.0) [
      | inl m ↦ goes_to _ (at1 true a) words _ (a ∷ words) (marked1 a word m) (ap (λ t. a ∷ t) (mark_cut word words m.is)) (tail1 a words) parts.1
      | inr t ↦ goes_to _ (at2 false a word) words _ (a ∷ word ∷ without_mark words) (taken1 a word t) (ap (λ ts. a ∷ ts) (mark_kept word words t.is)) (head2 a word words) parts.1
    ]

head0 : (words : List Text) → walk_fault shape [] (at0 false) words ≡ [] → Ended (walked_over (at0 false) words) (without_mark words)
unfolding walk_fault
head0 [] h = (false, refl)
head0 (word ∷ words) h =
    let parts = split (turn_fault shape [] (at0 false) word) (walk_fault shape [] (walked rules [] (at0 false) word) words) h in
    let turn = split (fault word nothing_held) (step_fault shape 1 (met 1 word nothing_held).0 (met 1 word nothing_held).1) parts.0 in
    elim (word_is 1 word [] None turn.0) [
      | inl m ↦ goes_to _ (at0 true) words _ words (marked0 word m) (mark_cut word words m.is) (tail0 words) parts.1
      | inr t ↦ goes_to _ (at1 false word) words _ (word ∷ without_mark words) (taken0 word t) (mark_kept word words t.is) (head1 word words) parts.1
    ]

-- AFTER THE WALK

-- what is refused after a walk that ends so
closing : Walk → Kinds
closing end =
    or_else (entered_fault (built line) end.stopped)
    (or_else (settle_fault rules shape.args_override_self end.held)
    (or_else (defaults_fault (settled rules end.held).rows rules)
    (check_fault shape (finished rules end.held) (is_some (entered (built line) end.stopped)))))

fault_parts : (words : List Text) → fault_of line words ≡ or_else (walk_fault shape [] (at0 false) words) (closing (walked_over (at0 false) words))
unfolding closing
fault_parts words = refl

closing0 : (behind : Bool) → closing (at0 behind) ≡ kind.MissingRequiredArgument ∷ []
unfolding closing defaults_fault
closing0 behind = refl

closing1 : (behind : Bool) (a : Text) → closing (at1 behind a) ≡ []
unfolding closing defaults_fault
closing1 behind a = refl

closing2 : (behind : Bool) (a b : Text) → closing (at2 behind a b) ≡ []
unfolding closing defaults_fault
closing2 behind a b = refl

-- WHAT `clap` READS from words that it takes: the words without the mark, of which there are one or two
pub record Reads (words : List Text) : Type 0 where
  pub count : length (without_mark words) ≤ 2
  pub word : first_of (codes "command") (matches_of line words) ≡ slice_get (without_mark words) 0
  pub next : first_of (codes "count") (matches_of line words) ≡ slice_get (without_mark words) 1

abbrev rows_at : Walk → List Row
rows_at end = finished rules end.held

reads_texts : (texts : List Text) (end : Walk) → Ended end texts → (length texts ≤ 2) × (closing end ≡ [] → (first_of (codes "command") (rows_at end) ≡ slice_get texts 0) × (first_of (codes "count") (rows_at end) ≡ slice_get texts 1))
reads_texts [] end e = (omega arith, λ c. absurd (some_kind (sym (ap closing e.1 ∙ closing0 e.0) ∙ c)))
reads_texts (a ∷ []) end e = (omega arith, λ c. (ap (λ w. first_of (codes "command") (rows_at w)) e.1, ap (λ w. first_of (codes "count") (rows_at w)) e.1))
reads_texts (a ∷ b ∷ []) end e = (omega arith, λ c. (ap (λ w. first_of (codes "command") (rows_at w)) e.1, ap (λ w. first_of (codes "count") (rows_at w)) e.1))
reads_texts (a ∷ b ∷ c ∷ more) end e = absurd e

pub reads : (words : List Text) → fault_of line words ≡ [] → Reads words
reads words h =
    let parts = split (walk_fault shape [] (at0 false) words) (closing (walked_over (at0 false) words)) (sym (fault_parts words) ∙ h) in
    let read = reads_texts (without_mark words) (walked_over (at0 false) words) (head0 words parts.0) in
    let rows = read.1 parts.1 in
    record { count = read.0; word = rows.0; next = rows.1 }

-- WHICH WORDS `clap` TAKES

-- at most so many words, none of which begins with a hyphen
abbrev CanTake : ℕ → List Text → Type 0
CanTake most [] = Unit {0}
CanTake zero (word ∷ words) = ⊥
CanTake (suc most) (word ∷ words) = NoHyphen word × CanTake most words

join : (first next : Kinds) → first ≡ [] → next ≡ [] → or_else first next ≡ []
join first next f n = ap₂ or_else f n

tail_takes2 : (a b : Text) (words : List Text) → CanTake 0 words → walk_fault shape [] (at2 true a b) words ≡ []
unfolding walk_fault
tail_takes2 a b [] h = refl
tail_takes2 a b (word ∷ words) h = absurd h

tail_takes1 : (a : Text) (words : List Text) → CanTake 1 words → walk_fault shape [] (at1 true a) words ≡ []
unfolding walk_fault walked
tail_takes1 a [] h = refl
tail_takes1 a (word ∷ words) h = tail_takes2 a word words h.1

tail_takes0 : (words : List Text) → CanTake 2 words → walk_fault shape [] (at0 true) words ≡ []
unfolding walk_fault walked
tail_takes0 [] h = refl
tail_takes0 (word ∷ words) h = tail_takes1 word words h.1

-- after the mark, where the walk stands in a place that the mark leaves as it is
mark_is : (word : Text) → bytes_eq word (codes "--") ≡ true → word ≡ codes "--"
mark_is word e = (bytes_eq-Decides word (codes "--")).0 e

marks : (w v : Walk) (word : Text) (words : List Text) → bytes_eq word (codes "--") ≡ true → walk_fault shape [] w (codes "--" ∷ words) ≡ walk_fault shape [] v words → walk_fault shape [] v words ≡ [] → walk_fault shape [] w (word ∷ words) ≡ []
marks w v word words e same h = ap (λ t. walk_fault shape [] w (t ∷ words)) (mark_is word e) ∙ same ∙ h

mark0 : (words : List Text) → walk_fault shape [] (at0 false) (codes "--" ∷ words) ≡ walk_fault shape [] (at0 true) words
unfolding walk_fault walked
mark0 words = refl

mark1 : (a : Text) (words : List Text) → walk_fault shape [] (at1 false a) (codes "--" ∷ words) ≡ walk_fault shape [] (at1 true a) words
unfolding walk_fault walked
mark1 a words = refl

mark2 : (a b : Text) (words : List Text) → walk_fault shape [] (at2 false a b) (codes "--" ∷ words) ≡ walk_fault shape [] (at2 true a b) words
unfolding walk_fault walked
mark2 a b words = refl

-- a test is one of the two
pub by_test : {C : Type 0} (b : Bool) → (b ≡ true → C) → (b ≡ false → C) → C
by_test true holds fails = holds refl
by_test false holds fails = fails refl

head_takes2 : (a b : Text) (words : List Text) → CanTake 0 (without_mark words) → walk_fault shape [] (at2 false a b) words ≡ []
unfolding walk_fault
head_takes2 a b [] h = refl
head_takes2 a b (word ∷ words) h = by_test (bytes_eq word (codes "--"))
    (λ e. marks (at2 false a b) (at2 true a b) word words e (mark2 a b words) (tail_takes2 a b words (subst (CanTake 0) (mark_cut word words e) h)))
    (λ e. absurd (subst (CanTake 0) (mark_kept word words e) h))

head_takes1 : (a : Text) (words : List Text) → CanTake 1 (without_mark words) → walk_fault shape [] (at1 false a) words ≡ []
unfolding walk_fault
head_takes1 a [] h = refl
head_takes1 a (word ∷ words) h = by_test (bytes_eq word (codes "--"))
    (λ e. marks (at1 false a) (at1 true a) word words e (mark1 a words) (tail_takes1 a words (subst (CanTake 1) (mark_cut word words e) h)))
    (λ e.
    let can = subst (CanTake 1) (mark_kept word words e) h in
    let taken = taken_plain 2 word (held1 a) can.0 in
    join (turn_fault shape [] (at1 false a) word) (walk_fault shape [] (walked rules [] (at1 false a) word) words)
    (join (fault word (held1 a)) (step_fault shape 2 (met 2 word (held1 a)).0 (met 2 word (held1 a)).1) (no_fault_plain word (held1 a) can.0) (ap (λ (m : Held × Step). step_fault shape 2 m.0 m.1) taken.met))
    (ap (λ w. walk_fault shape [] w words) (taken1 a word taken) ∙ head_takes2 a word words can.1))

head_takes0 : (words : List Text) → CanTake 2 (without_mark words) → walk_fault shape [] (at0 false) words ≡ []
unfolding walk_fault
head_takes0 [] h = refl
head_takes0 (word ∷ words) h = by_test (bytes_eq word (codes "--"))
    (λ e. marks (at0 false) (at0 true) word words e (mark0 words) (tail_takes0 words (subst (CanTake 2) (mark_cut word words e) h)))
    (λ e.
    let can = subst (CanTake 2) (mark_kept word words e) h in
    let taken = taken_plain 1 word nothing_held can.0 in
    join (turn_fault shape [] (at0 false) word) (walk_fault shape [] (walked rules [] (at0 false) word) words)
    (join (fault word nothing_held) (step_fault shape 1 (met 1 word nothing_held).0 (met 1 word nothing_held).1) (no_fault_plain word nothing_held can.0) (ap (λ (m : Held × Step). step_fault shape 1 m.0 m.1) taken.met))
    (ap (λ w. walk_fault shape [] w words) (taken0 word taken) ∙ head_takes1 word words can.1))

closes : (texts : List Text) (end : Walk) → Ended end texts → 1 ≤ length texts → closing end ≡ []
closes [] end e some = absurd (omega (arith, some))
closes (a ∷ []) end e some = ap closing e.1 ∙ closing1 e.0 a
closes (a ∷ b ∷ []) end e some = ap closing e.1 ∙ closing2 e.0 a b
closes (a ∷ b ∷ c ∷ more) end e some = absurd e

takes : (words : List Text) → CanTake 2 (without_mark words) → 1 ≤ length (without_mark words) → fault_of line words ≡ []
takes words can some =
    let walk = head_takes0 words can in
    fault_parts words ∙ join (walk_fault shape [] (at0 false) words) (closing (walked_over (at0 false) words)) walk (closes (without_mark words) (walked_over (at0 false) words) (head0 words walk) some)

-- one word that doesn't begin with a hyphen
pub takes_one : (words : List Text) (a : Text) → without_mark words ≡ a ∷ [] → NoHyphen a → fault_of line words ≡ []
takes_one words a e n = takes words (subst (CanTake 2) (sym e) (n, tt)) (omega (arith, ap length e))

-- and a second one
pub takes_two : (words : List Text) (a b : Text) → without_mark words ≡ a ∷ b ∷ [] → NoHyphen a → NoHyphen b → fault_of line words ≡ []
takes_two words a b e n m = takes words (subst (CanTake 2) (sym e) (n, (m, tt))) (omega (arith, ap length e))
