-- The lines that are written of reports are read as the facts that they state.
use Rattle.std.proofs.Common.{ℕ, suc, ◌≡◌, ◌<◌, ◌^◌, ◌==◌, Bool, true, false, List, [], ◌∷◌, ◌++◌, map, length, codes, decimal, Option, Some, None, Result, Ok, Err, is_some, refl, sym, ap, ◌∙◌, inl, inr, arith}
use Rattle.std.specs.Prelude.{nat_le, nat_lt}
use Rattle.std.specs.List.{onto_first, slice_split}
use Rattle.std.proofs.lemmas.Bool.{and_left, and_right, cases_Bool, le-leb}
use Rattle.std.proofs.lemmas.List.Splits.{slice_split-cons_no, slice_split-cons_yes}
use Rattle.dt_reports.specs.Entries.{Entry}
use Rattle.dt_reports.specs.Told.{Told}
use Rattle.dt_reports.specs.declared.reports.Report.TheVariants as report
use Rattle.dt_log.specs.LogLines.{line_words}
use Rattle.dt_log.specs.Logs.{entry_words, log_text}
use Rattle.dt_log.specs.Words.{Text, flow_text, sent_letters, spaced}
use Rattle.dt_log.proofs.WordLaws.{lines_again, words_again}
use Rattle.dt_text.specs.InputLines.{in_front, lines_of}
use Rattle.dt_text.specs.Numerals.{digits_number, numeral}
use Rattle.dt_text.proofs.FlowLaws.{flow-text}
use Rattle.dt_text.proofs.NumberLaws.{numeral-decimal}
use Rattle.dt_audit.specs.declared.facts.Fact.TheVariants.{Other}
use Rattle.dt_audit.specs.declared.flaws.Flaw.{Flaw}
use Rattle.dt_audit.specs.Books.{Book, Keeping, begun, follow_fact, follow_lines, follow_log, follow_on, follow_read}
use Rattle.dt_audit.specs.Facts.{fact_of, is_told, letters_read, named_fact, told_fact}
use Rattle.dt_audit.specs.Telling.{AreWritten, IsInRange, IsWritten, NodeInRange, fact_by, fact_in, fact_told, follow_facts}

-- a line that no node reports, or that has another name
other_named : (ws : List Text) → named_fact ws ≡ Ok Other → told_fact ws ≡ Ok Other
other_named ws h =
    elim (cases_Bool (nat_lt (length ws) 3)) [
      | inl y ↦ rw y refl
      | inr n ↦ rw n (elim (cases_Bool (is_told ws)) [ inl y ↦ rw y h | inr n ↦ rw n refl ])
    ]

not_told : (ws : List Text) → is_told ws ≡ false → told_fact ws ≡ Ok Other
not_told ws h = elim (cases_Bool (nat_lt (length ws) 3)) [ inl y ↦ rw y refl | inr n ↦ rw (n, h) refl ]

-- numbers as they are written
long : (n : ℕ) → n < 2 ^ 64 → numeral 18446744073709551615 (decimal n) ≡ Some n
long n h = numeral-decimal 18446744073709551615 n (omega arith) (omega arith)

short : (n : ℕ) → n < 2 ^ 32 → numeral 4294967295 (decimal n) ≡ Some n
short n h = numeral-decimal 4294967295 n (omega arith) (omega arith)

from_0 : (n : ℕ) → nat_le 0 n ≡ true
from_0 n = le-leb 0 n (omega arith)

letters : (drf begin end : Bool) → letters_read (sent_letters drf begin end) ≡ Ok tt
letters true true true = refl
letters true true false = refl
letters true false true = refl
letters true false false = refl
letters false true true = refl
letters false true false = refl
letters false false true = refl
letters false false false = refl

-- WHAT EACH REPORT'S LINE TELLS, where no node reports it
by_none : (moment : ℕ) (told : Told) → told_fact (line_words moment None told) ≡ Ok Other
unfolding numeral digits_number
by_none moment (report.FlowTotals f taken acked uncertain unsettled given read) = not_told (line_words moment None (report.FlowTotals f taken acked uncertain unsettled given read)) (and_left (is_some (numeral 18446744073709551615 (codes "flow"))) (is_some (numeral 4294967295 (flow_text f))) refl)
by_none moment report.End = refl
by_none moment (report.Fault line fault) = not_told (line_words moment None (report.Fault line fault)) (and_left (is_some (numeral 18446744073709551615 (codes "line"))) (is_some (numeral 4294967295 (decimal line ++ codes ":"))) refl)
by_none moment other = not_told (line_words moment None other) (and_right _ _ refl)

-- and where a node does
by_node : (moment node : ℕ) (told : Told) → moment < 2 ^ 64 → node < 2 ^ 32 → IsInRange told → told_fact (line_words moment (Some node) told) ≡ Ok (fact_by node told)
by_node moment node (report.Took f count) m k h = rw (long moment m, short node k, flow-text f h.0, short count h.1, from_0 count) refl
by_node moment node (report.Sent f number count drf begin end) m k h = rw (long moment m, short node k, flow-text f h.0, short number h.1, short count h.2, from_0 number, from_0 count, letters drf begin end) refl
by_node moment node (report.Uncertain f count) m k h = rw (long moment m, short node k, flow-text f h.0, short count h.1, from_0 count) refl
by_node moment node (report.Accepted f number count true) m k h = rw (long moment m, short node k, flow-text f h.0, short number h.1, short count h.2, from_0 number, from_0 count) refl
by_node moment node (report.Accepted f number count false) m k h = rw (long moment m, short node k, flow-text f h.0, short number h.1, short count h.2, from_0 number, from_0 count) refl
by_node moment node (report.Settled f count window) m k h = rw (long moment m, short node k, flow-text f h.0, short count h.1, short window h.2, from_0 count, from_0 window) refl
by_node moment node (report.Restarted life) m k h = rw (long moment m, short node k, short life h, from_0 node, from_0 life) refl
by_node moment node (report.Lost copy) m k h = by_none moment (report.Lost copy)
by_node moment node (report.FlowTotals f taken acked uncertain unsettled given read) m k h = by_none moment (report.FlowTotals f taken acked uncertain unsettled given read)
by_node moment node report.End m k h = by_none moment report.End
by_node moment node (report.Fault line fault) m k h = by_none moment (report.Fault line fault)
by_node moment node other m k h = other_named (line_words moment (Some node) other) refl

pub told_is : (entry : Entry) → IsWritten entry → told_fact (entry_words entry) ≡ Ok (fact_told entry)
told_is entry h = by entry.node h.node
  where
    by : (node : Option ℕ) → NodeInRange node → told_fact (line_words entry.moment node entry.told) ≡ Ok (fact_in node entry.told)
    by None k = by_none entry.moment entry.told
    by (Some node) k = by_node entry.moment node entry.told h.moment k h.told

-- a line of a log, read
pub line_tells : (entry : Entry) → IsWritten entry → fact_of (spaced (entry_words entry)) ≡ Ok (fact_told entry)
unfolding fact_of
line_tells entry h = ap told_fact (words_again entry) ∙ told_is entry h

-- A LOG IN LINES
never_empty : (p : ℕ → Bool) (xs : List ℕ) → slice_split p xs ≡ [] → ⊥
never_empty p [] h = cc
never_empty p (x ∷ xs) h =
    elim (cases_Bool (p x)) [
      | inl y ↦ let e = sym (slice_split-cons_yes p x xs y) ∙ h in cc
      | inr n ↦ by (slice_split p xs) (sym (slice_split-cons_no p x xs n) ∙ h) (never_empty p xs)
    ]
  where
    by : (parts : List (List ℕ)) → onto_first x parts ≡ [] → (parts ≡ [] → ⊥) → ⊥
    by [] e some = some refl
    by (part ∷ parts) e some = cc

-- parts at line feeds, of which the last is empty, are lines
lines_from_split : (xs : List ℕ) (ls : List (List ℕ)) → slice_split (λ octet. octet == 10) xs ≡ ls ++ [] ∷ [] → lines_of xs ≡ ls
lines_from_split [] [] h = refl
lines_from_split [] (l ∷ []) h = let e : [] ∷ [] ≡ l ∷ [] ∷ [] = h in absurd cc
lines_from_split [] (l ∷ m ∷ ls) h = absurd cc
lines_from_split (x ∷ xs) ls h =
    elim (cases_Bool (x == 10)) [
      | inl y ↦ rw y (at_feed ls (sym (slice_split-cons_yes (λ octet. octet == 10) x xs y) ∙ h) (lines_from_split xs))
      | inr n ↦ rw n (on ls (slice_split (λ octet. octet == 10) xs) refl (sym (slice_split-cons_no (λ octet. octet == 10) x xs n) ∙ h) (lines_from_split xs))
    ]
  where
    at_feed : (ls : List (List ℕ)) → [] ∷ slice_split (λ octet. octet == 10) xs ≡ ls ++ [] ∷ [] → ((ms : List (List ℕ)) → slice_split (λ octet. octet == 10) xs ≡ ms ++ [] ∷ [] → lines_of xs ≡ ms) → [] ∷ lines_of xs ≡ ls
    at_feed [] e rest = absurd (never_empty (λ octet. octet == 10) xs cc)
    at_feed (l ∷ ls) e rest = let tail : slice_split (λ octet. octet == 10) xs ≡ ls ++ [] ∷ [] = cc in let head : [] ≡ l = cc in let more = rest ls tail in cc

    on : (ls parts : List (List ℕ)) → slice_split (λ octet. octet == 10) xs ≡ parts → onto_first x (slice_split (λ octet. octet == 10) xs) ≡ ls ++ [] ∷ [] → ((ms : List (List ℕ)) → slice_split (λ octet. octet == 10) xs ≡ ms ++ [] ∷ [] → lines_of xs ≡ ms) → in_front x (lines_of xs) ≡ ls
    on ls [] is e rest = absurd (never_empty (λ octet. octet == 10) xs is)
    on [] (part ∷ parts) is e rest = let e' : (x ∷ part) ∷ parts ≡ [] ∷ [] = rw is at e in absurd cc
    on (l ∷ ls) (part ∷ parts) is e rest =
        let e' : (x ∷ part) ∷ parts ≡ l ∷ (ls ++ [] ∷ []) = rw is at e in
        let head : x ∷ part ≡ l = cc in
        let tail : parts ≡ ls ++ [] ∷ [] = cc in
        let more = rest (part ∷ ls) (is ∙ ap (λ ps. part ∷ ps) tail) in
        rw more (ap (λ k. k ∷ ls) head)

abbrev line_text : Entry → Text
line_text entry = spaced (entry_words entry)

log_lines : (entries : List Entry) → lines_of (log_text entries) ≡ map line_text entries
log_lines entries = lines_from_split (log_text entries) (map line_text entries) (lines_again entries)

module _ {A : Type 0} (keeping : Keeping A) where
  rest_same : (number : ℕ) (rest rest' : Book A → Result (Book A) (ℕ × Flaw)) (r : Result (Book A) Flaw) → ((book : Book A) → rest book ≡ rest' book) → follow_on keeping number rest r ≡ follow_on keeping number rest' r
  rest_same number rest rest' (Ok book) same = same book
  rest_same number rest rest' (Err flaw) same = refl

  lines_tell : (entries : List Entry) (number : ℕ) (book : Book A) → AreWritten entries → follow_lines keeping number (map line_text entries) book ≡ follow_facts keeping number (map fact_told entries) book
  unfolding follow_lines follow_facts
  lines_tell [] number book h = refl
  lines_tell (entry ∷ entries) number book h =
      ap (λ read. follow_on keeping number (follow_lines keeping (suc number) (map line_text entries)) (follow_read keeping book read)) (line_tells entry h.0)
      ∙ rest_same number _ _ (follow_fact keeping (fact_told entry) book) (λ next. lines_tell entries (suc number) next h.1)

  -- the log of entries is followed as their facts are
  pub log_tells : (entries : List Entry) → AreWritten entries → follow_log keeping (log_text entries) ≡ follow_facts keeping 1 (map fact_told entries) (begun keeping)
  log_tells entries h = ap (λ lines. follow_lines keeping 1 lines (begun keeping)) (log_lines entries) ∙ lines_tell entries 1 (begun keeping) h
