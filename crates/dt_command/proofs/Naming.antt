-- What `clap` reads of the words, and that it takes all words that name a command.
use Rattle.std.proofs.Common.{arith, ◌≡◌, ◌⊎◌, ℕ, ◌≤◌, ◌==◌, true, List, [], ◌∷◌, length, Option, Some, None, Result, Ok, Err, IfOk, IfErr, sym, refl, ap, subst, ◌∙◌, inl, inr, codes, slice_get, if◌then◌else◌, eqb-true, bytes_eq, option_map}
use Rattle.std.proofs.lemmas.Slice.Eq.{bytes_eq-Decides}
use Rattle.clap.specs.Words.{FailsBy, IsAmong, HasMatchesOf, fault_of, found_of, first_of, first_value, kind_of}
use Rattle.clap.specs.declared.error.Error.{Error}
use Rattle.clap.specs.declared.error.kind.ErrorKind.TheVariants as kind
use Rattle.clap.specs.declared.parser.matches.ArgMatches.{ArgMatches}
use Rattle.clap.proofs.WalkLemmas.{first_value-rows}
use Rattle.dt_log.specs.Words.{Text}
use Rattle.dt_text.specs.Numerals.{numeral, digits_number}
use Rattle.dt_make.specs.Schedules.{most_rounds}
use Rattle.dt_command.specs.declared.command.Command.TheVariants.{Make}
use Rattle.dt_command.specs.Words.{without_mark, from_one, rounds_of}
use Rattle.dt_command.specs.Commands.{alone, counted, named, named_by}
use Rattle.dt_command.proofs.Positionals.{line, NoHyphen, reads, takes_one, takes_two, by_test}

-- a number doesn't begin with a hyphen
number_begins : (most n : ℕ) (word : Text) → numeral most word ≡ Some n → NoHyphen word
unfolding numeral digits_number
number_begins most n [] h = tt
number_begins most n (x ∷ word) h = by_test (x == 45)
    (λ e. absurd (is_none (ap (λ y. numeral most (y ∷ word)) (sym (eqb-true x 45 e)) ∙ h)))
    (λ e. e)
  where
    is_none : numeral most (45 ∷ word) ≡ Some n → ⊥
    is_none k = cc

-- a word that is a command begins with no hyphen
alone_begins : (word : Text) → (alone word ≡ None) ⊎ NoHyphen word
alone_begins [] = inr tt
alone_begins (x ∷ word) = by_test (x == 45)
    (λ e. inl (ap (λ y. alone (y ∷ word)) (eqb-true x 45 e)))
    (λ e. inr e)

-- nor do a word and a count that are one
counted_begins : (word count : Text) → (counted word count ≡ None) ⊎ (NoHyphen word × NoHyphen count)
counted_begins word count = by_test (bytes_eq word (codes "make"))
    (λ is. number is (numeral most_rounds count) refl)
    (λ no. inl (ap (λ b. if b then option_map Make (rounds_of count) else None) no))
  where
    number : bytes_eq word (codes "make") ≡ true → (o : Option ℕ) → numeral most_rounds count ≡ o → (counted word count ≡ None) ⊎ (NoHyphen word × NoHyphen count)
    number is None none = inl (ap (λ b. if b then option_map Make (rounds_of count) else None) is ∙ ap (λ o. option_map Make (from_one o)) none)
    number is (Some n) some = inr (subst NoHyphen (sym ((bytes_eq-Decides word (codes "make")).0 is)) refl, number_begins most_rounds n count some)

-- two words at most name what the first and the next name
pub named_parts : (texts : List Text) → length texts ≤ 2 → named_by (slice_get texts 0) (slice_get texts 1) ≡ named texts
named_parts [] few = refl
named_parts (word ∷ []) few = refl
named_parts (word ∷ count ∷ []) few = refl
named_parts (word ∷ count ∷ next ∷ more) few = absurd (omega (arith, few))

-- words that `clap` doesn't take name no command
pub none_or_taken : (words texts : List Text) → without_mark words ≡ texts → (named texts ≡ None) ⊎ (fault_of line words ≡ [])
none_or_taken words [] e = inl refl
none_or_taken words (word ∷ []) e = elim (alone_begins word) [
  | inl none ↦ inl none
  | inr begins ↦ inr (takes_one words word e begins)
]
none_or_taken words (word ∷ count ∷ []) e = elim (counted_begins word count) [
  | inl none ↦ inl none
  | inr begin ↦ inr (takes_two words word count e begin.0 begin.1)
]
none_or_taken words (word ∷ count ∷ next ∷ more) e = inl refl

-- what the matches say of the words
pub record ReadsAll (words : List Text) (matches : ArgMatches) : Type 0 where
  pub count : length (without_mark words) ≤ 2
  pub word : first_value (found_of matches) (codes "command") ≡ slice_get (without_mark words) 0
  pub next : first_value (found_of matches) (codes "count") ≡ slice_get (without_mark words) 1

pub read_by_clap : (words : List Text) (r : Result ArgMatches Error) → FailsBy (fault_of line words) r → IfOk r (HasMatchesOf line words) → IfOk r (ReadsAll words)
read_by_clap words (Ok matches) f h =
    let read = reads words f in
    let rows = (h refl).0 in
    record {
      count = read.count;
      word = first_value-rows (found_of matches) (codes "command") ∙ ap (first_of (codes "command")) rows ∙ read.word;
      next = first_value-rows (found_of matches) (codes "count") ∙ ap (first_of (codes "count")) rows ∙ read.next;
    }
read_by_clap words (Err e) f h = tt

pub refused_by_clap : (words : List Text) (r : Result ArgMatches Error) → FailsBy (fault_of line words) r → IfErr r (λ e. (kind_of e ≡ kind.OutOfMemory) ⊎ (named (without_mark words) ≡ None))
refused_by_clap words (Ok matches) f = tt
refused_by_clap words (Err e) f = elim f [
  | inl memory ↦ inl memory
  | inr among ↦ elim (none_or_taken words (without_mark words) refl) [
    | inl none ↦ inr none
    | inr taken ↦ absurd (subst (IsAmong (kind_of e)) taken among)
  ]
]
