-- An input that is put together of a script and a trace is cut where it was put together.
use Rattle.std.proofs.Common.{◌≡◌, inl, inr, ℕ, suc, ◌==◌, Bool, true, false, if◌then◌else◌, List, [], ◌∷◌, ◌++◌, codes, Option, Some, None, Result, Ok, Err, refl, sym, ap, subst, ◌∙◌}
use Rattle.std.specs.Option.{option_map}
use Rattle.std.proofs.lemmas.Bool.{cases_Bool}
use Rattle.std.proofs.lemmas.List.{append-nil}
use Rattle.dt_text.specs.InputLines.{in_front, lines_of}
use Rattle.dt_text.proofs.WordLaws.{is_text}
use Rattle.dt_fold.specs.Folds.{Folded, Turned, fold_from, fold_on}
use Rattle.dt_reports.specs.declared.faults.Fault.{Fault}
use Rattle.dt_reports.specs.declared.faults.LineFault.{LineFault}
use Rattle.dt_reports.specs.declared.faults.LineFault.TheVariants.{Word}
use Rattle.dt_text.specs.declared.lines.Form.TheVariants.{Script}
use Rattle.dt_text.specs.Lines.{line_of}
use Rattle.dt_text.specs.Said.{Said}
use Rattle.dt_script.specs.Drafts.{Draft, Empty, orders_in, read_script, script_of, script_turns, turn_line, turn_read}
use Rattle.dt_script.specs.Orders.{Orders}
use Rattle.dt_node.specs.InputParts.{cut_lines, is_mark, text_of, with_line}
use Rattle.dt_node.specs.Repeating.{joined}
use Rattle.dt_node.proofs.Cutting.{not_mark}

-- THE LINES of an input are those of its text, whatever stands after it
line_first : (b : Bool) (x : ℕ) (lines : List (List ℕ)) (rest : List ℕ) → (x == 10) ≡ b → lines_of (text_of lines ++ rest) ≡ lines ++ lines_of rest
    → lines_of (text_of (if b then [] ∷ lines else in_front x lines) ++ rest) ≡ (if b then [] ∷ lines else in_front x lines) ++ lines_of rest
line_first true x lines rest e h = ap (λ (ls : List (List ℕ)). [] ∷ ls) h
line_first false x [] rest e h = rw e refl
line_first false x (line ∷ lines) rest e h = rw e (ap (in_front x) h)

pub lines_back : (xs rest : List ℕ) → lines_of (text_of (lines_of xs) ++ rest) ≡ lines_of xs ++ lines_of rest
lines_back [] rest = refl
lines_back (x ∷ xs) rest = line_first (x == 10) x (lines_of xs) rest refl (lines_back xs rest)

-- A SCRIPT that isn't refused has no line `trace`
goes_on : (n : ℕ) (d : Draft) (rest : Draft → Folded Draft) (r : Result (Turned Draft) Fault) → (fold_on n d rest r).accepted ≡ true → (next : Draft) × ((rest next).accepted ≡ true)
goes_on n d rest (Ok turned) h = (turned.state, h)
goes_on n d rest (Err fault) h = absurd cc

trace_refused : line_of Script (codes "trace") ≡ Err Word
unfolding line_of
trace_refused = refl

mark_refused : (n : ℕ) (d : Draft) (rest : Draft → Folded Draft) → (fold_on n d rest (turn_line d (codes "trace"))).accepted ≡ true → ⊥
mark_refused n d rest h = let e : false ≡ true = ap (λ (r : Result Said LineFault). (fold_on n d rest (turn_read d r)).accepted) (sym trace_refused) ∙ h in absurd cc

cut_after : (n : ℕ) (d : Draft) (lines more : List (List ℕ)) → (fold_from script_turns n d lines).accepted ≡ true → cut_lines (lines ++ codes "trace" ∷ more) ≡ Some (lines, more)
unfolding fold_from
cut_after n d [] more h = refl
cut_after n d (line ∷ lines) more h = elim (cases_Bool (is_mark line)) [
  | inl y ↦ absurd (mark_refused n d (λ next. fold_from script_turns (suc n) next lines) (subst (λ (l : List ℕ). (fold_on n d (λ next. fold_from script_turns (suc n) next lines) (turn_line d l)).accepted ≡ true) (is_text line (codes "trace") y) h))
  | inr other ↦ (
      let on = goes_on n d (λ next. fold_from script_turns (suc n) next lines) (turn_line d line) h in
      not_mark line (lines ++ codes "trace" ∷ more) other ∙ ap (option_map (with_line line)) (cut_after (suc n) on.0 lines more on.1)
      )
]

is_accepted : (b : Bool) (o : Orders) (found : Option Orders) → (if b then found else None) ≡ Some o → b ≡ true
is_accepted true o found h = refl
is_accepted false o found h = absurd cc

accepted : (script : List ℕ) (o : Orders) → script_of script ≡ Some o → (read_script script).accepted ≡ true
accepted script o h = is_accepted (read_script script).accepted o (orders_in (read_script script).state) h

pub joined_cut : (script trace : List ℕ) (o : Orders) → script_of script ≡ Some o → cut_lines (lines_of (joined script trace)) ≡ Some (lines_of script, lines_of trace)
unfolding read_script
joined_cut script trace o h = ap cut_lines (lines_back script (codes "trace\n" ++ trace)) ∙ cut_after 1 Empty (lines_of script) (lines_of trace) (accepted script o h)

-- and its text is the same script
by_lines : (xs ys : List ℕ) → lines_of xs ≡ lines_of ys → read_script xs ≡ read_script ys
unfolding read_script
by_lines xs ys h = ap (fold_from script_turns 1 Empty) h

pub same_script : (script : List ℕ) → script_of (text_of (lines_of script)) ≡ script_of script
same_script script =
    let lines : lines_of (text_of (lines_of script)) ≡ lines_of script = ap lines_of (sym (append-nil (text_of (lines_of script)))) ∙ lines_back script [] ∙ append-nil (lines_of script) in
    ap (λ (r : Folded Draft). if r.accepted then orders_in r.state else None) (by_lines (text_of (lines_of script)) script lines)
