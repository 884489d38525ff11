-- The lines of a log one after another, and the text of a verdict.
use Rattle.std.proofs.Common.{ℕ, suc, ◌≡◌, ◌+◌, List, [], ◌∷◌, ◌++◌, codes, decimal, Option, Some, None, Result, Ok, Err, sym, ap, ◌∙◌, length, arith, append_assoc}
use Rattle.std.proofs.Math.Numerals.{add-one}
use Rattle.dt_log.specs.LogLines.{at_line}
use Rattle.dt_log.specs.Words.{row_text, spaced}
use Rattle.dt_text.specs.InputLines.{lines_of}
use Rattle.dt_audit.specs.declared.flaws.Flaw.{Flaw}
use Rattle.dt_audit.specs.declared.flaws.Flaw.TheVariants.{Line, Stray, Breaks}
use Rattle.dt_audit.specs.Books.{Book, flaw_in, follow_line, follow_lines, follow_on}
use Rattle.dt_audit.specs.Flaws.{flaw_words}
use Rattle.dt_audit.specs.FlowNotes.{Notes, by_notes}

-- what is found in the lines that are left
abbrev pub found_from : ℕ → List ℕ → Book Notes → Option (ℕ × Flaw)
found_from number rest book = flaw_in (follow_lines by_notes number (lines_of rest) book)

step_is : (number : ℕ) (line rest more : List ℕ) (book : Book Notes) → lines_of rest ≡ line ∷ lines_of more
    → found_from number rest book ≡ flaw_in (follow_on by_notes number (follow_lines by_notes (suc number) (lines_of more)) (follow_line by_notes line book))
unfolding follow_lines
step_is number line rest more book e = ap (λ (ls : List (List ℕ)). flaw_in (follow_lines by_notes number ls book)) e

-- a line passes, and the others are left
pub passed_on : (number : ℕ) (line rest more : List ℕ) (book after : Book Notes) (all : Option (ℕ × Flaw)) → lines_of rest ≡ line ∷ lines_of more → follow_line by_notes line book ≡ Ok after
    → all ≡ found_from number rest book → all ≡ found_from (number + 1) more after
passed_on number line rest more book after all e h so_far =
    so_far ∙ step_is number line rest more book e
    ∙ ap (λ (r : Result (Book Notes) Flaw). flaw_in (follow_on by_notes number (follow_lines by_notes (suc number) (lines_of more)) r)) h
    ∙ ap (λ (n : ℕ). found_from n more after) (sym (add-one number))

-- it has a flaw
pub flawed : (number : ℕ) (line rest more : List ℕ) (book : Book Notes) (flaw : Flaw) (all : Option (ℕ × Flaw)) → lines_of rest ≡ line ∷ lines_of more → follow_line by_notes line book ≡ Err flaw
    → all ≡ found_from number rest book → Some (number, flaw) ≡ all
flawed number line rest more book flaw all e h so_far =
    sym (so_far ∙ step_is number line rest more book e ∙ ap (λ (r : Result (Book Notes) Flaw). flaw_in (follow_on by_notes number (follow_lines by_notes (suc number) (lines_of more)) r)) h)

-- no line is left
pub none_left : (number : ℕ) (rest : List ℕ) (book : Book Notes) (all : Option (ℕ × Flaw)) → length rest ≡ 0 → all ≡ found_from number rest book → None ≡ all
unfolding follow_lines
none_left number [] book all e so_far = sym so_far
none_left number (octet ∷ rest) book all e so_far = absurd (omega arith)

-- the line of a flaw in the parts that are put
pub flaw_line : (line : ℕ) (flaw : Flaw) → row_text (at_line line (flaw_words flaw)) ≡ codes "line " ++ ((decimal line ++ codes ": ") ++ (spaced (flaw_words flaw) ++ codes "\n"))
flaw_line line (Line fault) = simp append_assoc
flaw_line line Stray = simp append_assoc
flaw_line line (Breaks promise) = simp append_assoc
