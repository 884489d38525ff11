-- A row: what is written by it is read, nothing else is, and no line is refused for its order.
use Rattle.std.proofs.Common.{◌≡◌, ℕ, suc, ◌+◌, Bool, true, false, ◌&&◌, List, [], ◌∷◌, Result, Ok, Err, length, refl, sym, ap, ◌∙◌, arith}
use Rattle.std.proofs.Math.Numerals.{add-one}
use Rattle.dt_reports.specs.declared.faults.LineFault.{LineFault}
use Rattle.dt_text.specs.Splitting.{word}
use Rattle.dt_text.specs.Said.{Said}
use Rattle.dt_text.specs.WordKinds.{value_read}
use Rattle.dt_text.specs.Rows.{Part, Fixed, Given, Makes}
use Rattle.dt_text.specs.Lines.{◌>>=◌, said_by}
use Rattle.dt_text.specs.Spelling.{Values, made, texts, AreOfKinds}
use Rattle.dt_text.proofs.CutLaws.{IsFree}
use Rattle.dt_text.proofs.WordLaws.{is_small, is_free, free_text, value-text, value-only, value-free, value-told, IsTold, told-ok}

pub both : (a b : Bool) → (a && b) ≡ true → (a ≡ true) × (b ≡ true)
both true b h = (refl, h)
both false b h = cc

-- fixed words without a space, and numbers of at most 64 bits
abbrev pub are_sound : List Part → Bool
are_sound [] = true
are_sound (Fixed text ∷ parts) = is_free text && are_sound parts
are_sound (Given kind ∷ parts) = is_small kind && are_sound parts

-- the words of a line, from a place on
abbrev pub AreWords : ℕ → List (List ℕ) → List (List ℕ) → Type 0
AreWords place line [] = Unit {0}
AreWords place line (w ∷ ws) = (word place line ≡ w) × AreWords (place + 1) line ws

-- its fixed words stand in a line, from a place on
abbrev pub Stand : ℕ → List Part → List (List ℕ) → Type 0
Stand place [] line = Unit {0}
Stand place (Fixed text ∷ parts) line = (word place line ≡ text) × Stand (place + 1) parts line
Stand place (Given kind ∷ parts) line = Stand (place + 1) parts line

word-later : (place : ℕ) (x : List ℕ) (line : List (List ℕ)) → word (place + 1) (x ∷ line) ≡ word place line
word-later place x line = rw (add-one place) refl

later : (place : ℕ) (x : List ℕ) (line ws : List (List ℕ)) → AreWords place line ws → AreWords (place + 1) (x ∷ line) ws
later place x line [] h = tt
later place x line (w ∷ ws) h = (word-later place x line ∙ h.0, later (place + 1) x line ws h.1)

earlier : (place : ℕ) (x : List ℕ) (line ws : List (List ℕ)) → AreWords (place + 1) (x ∷ line) ws → AreWords place line ws
earlier place x line [] h = tt
earlier place x line (w ∷ ws) h = (sym (word-later place x line) ∙ h.0, earlier (place + 1) x line ws h.1)

-- each word stands at its place
own : (ws : List (List ℕ)) → AreWords 0 ws ws
own [] = tt
own (w ∷ ws) = (refl, later 0 w ws ws (own ws))

same : (line ws : List (List ℕ)) → length line ≡ length ws → AreWords 0 line ws → line ≡ ws
same [] [] len h = refl
same [] (w ∷ ws) len h = absurd (omega arith)
same (x ∷ line) [] len h = absurd (omega arith)
same (x ∷ line) (w ∷ ws) len h = ap (λ y. y ∷ line) h.0 ∙ ap (λ rest. w ∷ rest) (same line ws (omega arith) (earlier 0 x line ws h.1))

length-texts : (parts : List Part) (values : Values parts) → length (texts parts values) ≡ length parts
length-texts [] values = refl
length-texts (Fixed text ∷ parts) values = ap suc (length-texts parts values)
length-texts (Given kind ∷ parts) values = ap suc (length-texts parts values.1)

-- What is written is read.

step : {A B : Type 0} (read : Result A LineFault) (next : A → Result B LineFault) (value : A) (line : Result B LineFault) → read ≡ Ok value → next value ≡ line → (read >>= next) ≡ line
step read next value line h rest = ap (λ (r : Result _ LineFault). r >>= next) h ∙ rest

parts-read : (parts : List Part) (makes : Makes parts) (place : ℕ) (line : List (List ℕ)) (values : Values parts) → are_sound parts ≡ true → AreOfKinds parts values → AreWords place line (texts parts values)
    → said_by parts makes place line ≡ Ok (made parts makes values)
parts-read [] makes place line values sound kinds stand = refl
parts-read (Fixed text ∷ parts) makes place line values sound kinds stand = parts-read parts makes (place + 1) line values (both (is_free text) (are_sound parts) sound).1 kinds stand.1
parts-read (Given kind ∷ parts) makes place line values sound kinds stand =
    let tests = both (is_small kind) (are_sound parts) sound in
    step (value_read kind (word place line)) (λ value. said_by parts (makes value) (place + 1) line) values.0 _
    (ap (value_read kind) stand.0 ∙ value-text kind values.0 tests.0 kinds.0)
    (parts-read parts (makes values.0) (place + 1) line values.1 tests.1 kinds.1 stand.1)

pub row-read : (parts : List Part) (makes : Makes parts) (values : Values parts) → are_sound parts ≡ true → AreOfKinds parts values → said_by parts makes 0 (texts parts values) ≡ Ok (made parts makes values)
row-read parts makes values sound kinds = parts-read parts makes 0 (texts parts values) values sound kinds (own (texts parts values))

-- Nothing else is read.

found : {A B : Type 0} (read : Result A LineFault) (next : A → Result B LineFault) (line : B) → (read >>= next) ≡ Ok line → (value : A) × (read ≡ Ok value) × (next value ≡ Ok line)
found (Ok value) next line h = (value, refl, h)
found (Err fault) next line h = cc

-- the values by which a line says what it says
abbrev pub IsSaid : (parts : List Part) → Makes parts → ℕ → List (List ℕ) → Said → Type 0
IsSaid parts makes place line said = (values : Values parts) × (made parts makes values ≡ said) × AreOfKinds parts values × AreWords place line (texts parts values)

parts-only : (parts : List Part) (makes : Makes parts) (place : ℕ) (line : List (List ℕ)) (said : Said) → are_sound parts ≡ true → Stand place parts line → said_by parts makes place line ≡ Ok said → IsSaid parts makes place line said
parts-only [] makes place line said sound stand h = let is : makes ≡ said = cc in (tt, is, tt, tt)
parts-only (Fixed text ∷ parts) makes place line said sound stand h =
    let rest = parts-only parts makes (place + 1) line said (both (is_free text) (are_sound parts) sound).1 stand.1 h in
    (rest.0, rest.1, rest.2, (stand.0, rest.3))
parts-only (Given kind ∷ parts) makes place line said sound stand h =
    let tests = both (is_small kind) (are_sound parts) sound in
    let first = found (value_read kind (word place line)) (λ value. said_by parts (makes value) (place + 1) line) said h in
    let written = value-only kind (word place line) first.0 tests.0 first.1 in
    let rest = parts-only parts (makes first.0) (place + 1) line said tests.1 stand first.2 in
    ((first.0, rest.0), rest.1, (written.1, rest.2), (written.0, rest.3))

-- the values by which all words of a line say what it says
abbrev pub IsSaidBy : (parts : List Part) → Makes parts → List (List ℕ) → Said → Type 0
IsSaidBy parts makes line said = (values : Values parts) × (made parts makes values ≡ said) × AreOfKinds parts values × (line ≡ texts parts values)

pub row-only : (parts : List Part) (makes : Makes parts) (line : List (List ℕ)) (said : Said) → are_sound parts ≡ true → Stand 0 parts line → length line ≡ length parts → said_by parts makes 0 line ≡ Ok said → IsSaidBy parts makes line said
row-only parts makes line said sound stand len h =
    let all = parts-only parts makes 0 line said sound stand h in
    (all.0, all.1, all.2, same line (texts parts all.0) (len ∙ sym (length-texts parts all.0)) all.3)

-- Its words have no space.

abbrev pub AreFree : List (List ℕ) → Type 0
AreFree [] = Unit {0}
AreFree (w ∷ ws) = IsFree 32 w × AreFree ws

pub row-free : (parts : List Part) (values : Values parts) → are_sound parts ≡ true → AreOfKinds parts values → AreFree (texts parts values)
row-free [] values sound kinds = tt
row-free (Fixed text ∷ parts) values sound kinds = let tests = both (is_free text) (are_sound parts) sound in (free_text text tests.0, row-free parts values tests.1 kinds)
row-free (Given kind ∷ parts) values sound kinds =
    let tests = both (is_small kind) (are_sound parts) sound in
    (value-free kind values.0 tests.0 kinds.0, row-free parts values.1 tests.1 kinds.1)

-- No fault is Order.

then : {A B : Type 0} (read : Result A LineFault) (next : A → Result B LineFault) → IsTold read → ((value : A) → IsTold (next value)) → IsTold (read >>= next)
unfolding IsTold
then (Ok value) next told rest = rest value
then (Err fault) next told rest = told

pub row-told : (parts : List Part) (makes : Makes parts) (place : ℕ) (line : List (List ℕ)) → IsTold (said_by parts makes place line)
row-told [] makes place line = told-ok makes
row-told (Fixed text ∷ parts) makes place line = row-told parts makes (place + 1) line
row-told (Given kind ∷ parts) makes place line = then (value_read kind (word place line)) _ (value-told kind (word place line)) (λ value. row-told parts (makes value) (place + 1) line)
