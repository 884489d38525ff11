-- An input is cut line by line, up to the first that is `trace`.
use Rattle.std.proofs.Common.{◌≡◌, ◌⊎◌, inl, inr, ℕ, ◌+◌, ◌-◌, ◌<◌, ◌≤◌, ◌^◌, true, false, List, [], ◌∷◌, ◌++◌, length, take, Option, Some, None, refl, sym, ap, ◌∙◌, arith, append_assoc, length-append}
use Rattle.std.specs.Option.{option_map}
use Rattle.std.proofs.lemmas.List.{append-nil}
use Rattle.std.proofs.lemmas.List.Concat.{flat_map-append}
use Rattle.std.proofs.Math.Seq.{take-append-add}
use Rattle.dt_text.specs.InputLines.{lines_of, most_input}
use Rattle.dt_node.specs.declared.cut_inputs.CutInput.{CutInput}
use Rattle.dt_node.specs.InputParts.{IsCut, cut_lines, is_mark, text_of, with_line}

abbrev pub Cut : Type 0
Cut = Option (List (List ℕ) × List (List ℕ))

-- more lines in front
abbrev pub in_front : List (List ℕ) → Cut → Cut
in_front lines None = None
in_front lines (Some (script, trace)) = Some (lines ++ script, trace)

-- the lines so far, of which none is `trace`
pub record Passed (octets rest : List ℕ) (lines : ℕ) : Type 0 where
  pub before : List (List ℕ)
  pub whole : 0 < length rest → octets ≡ text_of before ++ rest
  pub cut : lines_of octets ≡ before ++ lines_of rest
  pub count : lines ≡ length before
  pub none : (more : List (List ℕ)) → cut_lines (before ++ more) ≡ in_front before (cut_lines more)
  pub few : lines + length rest ≤ length octets

front_none : (c : Cut) → c ≡ in_front [] c
front_none None = refl
front_none (Some (script, trace)) = refl

pub passed_none : (octets : List ℕ) → Passed octets octets 0
passed_none octets = record { before = []; whole = λ some. refl; cut = refl; count = refl; none = λ more. front_none (cut_lines more); few = omega arith }

front_more : (before : List (List ℕ)) (line : List ℕ) (c : Cut) → in_front before (option_map (with_line line) c) ≡ in_front (before ++ line ∷ []) c
front_more before line None = refl
front_more before line (Some (script, trace)) = ap (λ (xs : List (List ℕ)). Some (xs, trace)) (sym (append_assoc before (line ∷ []) script))

pub not_mark : (line : List ℕ) (lines : List (List ℕ)) → is_mark line ≡ false → cut_lines (line ∷ lines) ≡ option_map (with_line line) (cut_lines lines)
not_mark line lines h = rw h refl

mark : (line : List ℕ) (lines : List (List ℕ)) → is_mark line ≡ true → cut_lines (line ∷ lines) ≡ Some ([], lines)
mark line lines h = rw h refl

text_more : (before : List (List ℕ)) (line : List ℕ) → text_of (before ++ line ∷ []) ≡ text_of before ++ (line ++ 10 ∷ [])
text_more before line = flat_map-append (λ (l : List ℕ). l ++ 10 ∷ []) before (line ∷ []) ∙ ap (λ (xs : List ℕ). text_of before ++ xs) (append-nil (line ++ 10 ∷ []))

whole_more : (octets rest line more : List ℕ) (before : List (List ℕ)) → octets ≡ text_of before ++ rest → (rest ≡ line ++ 10 ∷ more) ⊎ ((rest ≡ line) × (more ≡ [])) → 0 < length more → octets ≡ text_of (before ++ line ∷ []) ++ more
whole_more octets rest line more before h (inl e) some =
    h ∙ ap (λ (xs : List ℕ). text_of before ++ xs) (e ∙ sym (append_assoc line (10 ∷ []) more)) ∙ sym (append_assoc (text_of before) (line ++ 10 ∷ []) more) ∙ ap (λ (xs : List ℕ). xs ++ more) (sym (text_more before line))
whole_more octets rest line more before h (inr e) some = let none : length more ≡ 0 = ap length e.1 in absurd (omega (arith, none, some))

pub passed_more : (octets rest line more : List ℕ) (lines : ℕ) → 0 < length rest → Passed octets rest lines → lines_of rest ≡ line ∷ lines_of more → (rest ≡ line ++ 10 ∷ more) ⊎ ((rest ≡ line) × (more ≡ [])) → length more < length rest → is_mark line ≡ false → Passed octets more (lines + 1)
passed_more octets rest line more lines some h cut parts fewer other = record {
  before = h.before ++ line ∷ [];
  whole = λ left. whole_more octets rest line more h.before (h.whole some) parts left;
  cut = h.cut ∙ ap (λ (xs : List (List ℕ)). h.before ++ xs) cut ∙ sym (append_assoc h.before (line ∷ []) (lines_of more));
  count = ap (λ (n : ℕ). n + 1) h.count ∙ sym (length-append h.before (line ∷ []));
  none = λ further. ap cut_lines (append_assoc h.before (line ∷ []) further) ∙ h.none (line ∷ further) ∙ ap (in_front h.before) (not_mark line further other) ∙ front_more h.before line (cut_lines further);
  few = omega (arith, h.few, fewer);
}

-- what stands before the rest
before_rest : (xs rest : List ℕ) → take (length (xs ++ rest) - length rest) (xs ++ rest) ≡ xs
before_rest xs rest =
    let n : length (xs ++ rest) - length rest ≡ length xs + 0 = omega (arith, length-append xs rest) in
    ap (λ (k : ℕ). take k (xs ++ rest)) n ∙ take-append-add xs rest 0 ∙ append-nil xs

-- the line `trace` was found
pub cut_found : (octets rest line more : List ℕ) (lines : ℕ) (p : CutInput) → 0 < length rest → length octets ≤ most_input → Passed octets rest lines → lines_of rest ≡ line ∷ lines_of more → length more < length rest → is_mark line ≡ true
    → p.script.now ≡ take (length octets - length rest) octets → p.mark ≡ lines + 1 → p.trace.now ≡ more → (parts : List (List ℕ) × List (List ℕ)) × (cut_lines (lines_of octets) ≡ Some parts) × IsCut p parts
cut_found octets rest line more lines p some least h cut fewer is script number trace =
    let whole = h.whole some in
    let text : p.script.now ≡ text_of h.before = script ∙ ap (λ (xs : List ℕ). take (length xs - length rest) xs) whole ∙ before_rest (text_of h.before) rest in
    let long : length octets ≡ length (text_of h.before) + length rest = ap length whole ∙ length-append (text_of h.before) rest in (
      (h.before, lines_of more),
      ap cut_lines (h.cut ∙ ap (λ (xs : List (List ℕ)). h.before ++ xs) cut) ∙ h.none (line ∷ lines_of more) ∙ ap (in_front h.before) (mark line (lines_of more) is) ∙ ap (λ (xs : List (List ℕ)). Some (xs, lines_of more)) (append-nil h.before),
      record {
        script = text;
        mark = number ∙ ap (λ (n : ℕ). n + 1) h.count;
        trace = ap lines_of trace;
        short = omega (arith, ap length text, long, least);
        few = omega (arith, number, ap length trace, h.few, fewer, least);
        least = omega (arith, ap length trace, h.few, fewer, least);
      },
    )

-- there was none
pub cut_none : (octets rest : List ℕ) (lines : ℕ) → length rest ≡ 0 → length octets ≤ most_input → Passed octets rest lines → (cut_lines (lines_of octets) ≡ None) × (lines ≡ length (lines_of octets)) × (lines < 2 ^ 32)
cut_none octets [] lines none least h = (
  ap cut_lines h.cut ∙ h.none [],
  h.count ∙ sym (ap length (h.cut ∙ append-nil h.before)),
  omega (arith, h.few, least),
)
cut_none octets (x ∷ rest) lines none least h = absurd (omega (arith, none))
