-- No word of a log's line has a space or a line feed, so cutting gives the words and the lines back.
use Rattle.std.proofs.Common.{◌≡◌, ℕ, zero, suc, ◌/◌, ◌%◌, ◌<◌, ◌≤◌, Bool, true, false, ◌&&◌, ◌==◌, nat_lt, List, [], ◌∷◌, ◌++◌, map, codes, Option, Some, None, refl, ap, ◌∙◌, append_assoc, arith, if◌then◌else◌}
use Rattle.std.specs.Fmt.{decimal, digits, digits_onto, digit_glyph}
use Rattle.std.specs.List.{slice_split, onto_first}
use Rattle.std.proofs.lemmas.Bool.Decides.{nat_tests}
use Rattle.std.proofs.lemmas.List.Splits.{slice_split-cons_yes, slice_split-cons_no}
use Rattle.dt_units.specs.declared.endpoints.Flow.{Flow}
use Rattle.dt_units.specs.declared.parameters.Field.{Field}
use Rattle.dt_units.specs.declared.parameters.Field.TheVariants as fields
use Rattle.dt_layout.specs.declared.faults.LayoutFault.{LayoutFault}
use Rattle.dt_layout.specs.declared.faults.LayoutFault.TheVariants as layout_faults
use Rattle.dt_reports.specs.declared.faults.Fault.{Fault}
use Rattle.dt_reports.specs.declared.faults.Fault.TheVariants as faults
use Rattle.dt_reports.specs.declared.faults.LineFault.{LineFault}
use Rattle.dt_reports.specs.declared.faults.LineFault.TheVariants as line_faults
use Rattle.dt_reports.specs.declared.faults.SetupFault.{SetupFault}
use Rattle.dt_reports.specs.declared.faults.SetupFault.TheVariants as setup_faults
use Rattle.dt_reports.specs.declared.faults.StepFault.{StepFault}
use Rattle.dt_reports.specs.declared.faults.StepFault.TheVariants as step_faults
use Rattle.dt_reports.specs.declared.faults.Refusal.{Refusal}
use Rattle.dt_reports.specs.declared.faults.Refusal.TheVariants as refusals
use Rattle.dt_reports.specs.declared.reports.Report.TheVariants as reports
use Rattle.dt_reports.specs.Told.{Told}
use Rattle.dt_reports.specs.Entries.{Entry}
use Rattle.dt_log.specs.Words.{Text, endpoint_text, flow_text, hex_text, sent_letters, read_letters, record_text, run_text, spaced}
use Rattle.dt_log.specs.FaultWords.{refusal_words, layout_fault_words, field_text, line_fault_text, setup_fault_words, step_fault_words, fault_words}
use Rattle.dt_log.specs.LogLines.{node_words, line_words}
use Rattle.dt_log.specs.Logs.{entry_words, log_text}

-- each octet of the text is above this one
abbrev IsAbove : ℕ → Text → Type 0
IsAbove low [] = Unit {0}
IsAbove low (octet ∷ text) = (low < octet) × IsAbove low text

above_append : (low : ℕ) (front text : Text) → IsAbove low front → IsAbove low text → IsAbove low (front ++ text)
above_append low [] text f t = t
above_append low (octet ∷ front) text f t = (f.0, above_append low front text f.1 t)

above_less : (low lower : ℕ) (text : Text) → lower ≤ low → IsAbove low text → IsAbove lower text
above_less low lower [] h t = tt
above_less low lower (octet ∷ text) h t = (omega (arith, h, t.0), above_less low lower text h t.1)

-- a word: each octet is above the space
abbrev IsWord : Text → Type 0
IsWord text = IsAbove 32 text

abbrev AreWords : List Text → Type 0
AreWords [] = Unit {0}
AreWords (word ∷ words) = IsWord word × AreWords words

-- a line has one word at least
abbrev IsWords : List Text → Type 0
IsWords [] = ⊥
IsWords (word ∷ words) = IsWord word × AreWords words

-- WORDS AS THEY STAND

abbrev is_word : Text → Bool
is_word [] = true
is_word (octet ∷ text) = nat_lt 32 octet && is_word text

both : (a b : Bool) → (a && b) ≡ true → (a ≡ true) × (b ≡ true)
both true b h = (refl, h)
both false b h = cc

above_space : (octet : ℕ) → nat_lt 32 octet ≡ true → 32 < octet
above_space octet h = grind (arith, nat_tests)

as_it_stands : (text : Text) → is_word text ≡ true → IsWord text
as_it_stands [] h = tt
as_it_stands (octet ∷ text) h = let parts = both (nat_lt 32 octet) (is_word text) h in (above_space octet parts.0, as_it_stands text parts.1)

-- NUMBERS, FLOWS, OCTETS

either : (b : Bool) (x y : Text) → IsWord x → IsWord y → IsWord (if b then x else y)
either true x y h k = h
either false x y h k = k

glyph : (digit : ℕ) → 32 < digit_glyph false digit
glyph digit = grind (arith, nat_tests)

digits_above : (k n : ℕ) (text : Text) → IsWord text → IsWord (digits_onto k 10 false n text)
digits_above zero n text h = h
digits_above (suc k) n text h =
    let more : IsWord (digit_glyph false (n % 10) ∷ text) = (glyph (n % 10), h) in
    either (n / 10 == 0) (digit_glyph false (n % 10) ∷ text) (digits_onto k 10 false (n / 10) (digit_glyph false (n % 10) ∷ text)) more (digits_above k (n / 10) (digit_glyph false (n % 10) ∷ text) more)

number_word : (n : ℕ) → IsWord (decimal n)
unfolding digits
number_word n = digits_above 64 n [] tt

endpoint_word : (node port : ℕ) → IsWord (endpoint_text node port)
endpoint_word node port = above_append 32 (decimal node) (58 ∷ decimal port) (number_word node) ((as_it_stands (codes ":") refl).0, number_word port)

flow_word : (f : Flow) → IsWord (flow_text f)
unfolding flow_text
flow_word f =
    above_append 32 (endpoint_text f.from.0 f.from_port) (62 ∷ endpoint_text f.to.0 f.to_port) (endpoint_word f.from.0 f.from_port) ((as_it_stands (codes ">") refl).0, endpoint_word f.to.0 f.to_port)

hex_word : (octets : List ℕ) → IsWord (hex_text octets)
hex_word [] = tt
hex_word (octet ∷ octets) = (glyph (octet / 16), (glyph (octet % 16), hex_word octets))

-- MARKS

sent_word : (drf begin end : Bool) → IsWord (sent_letters drf begin end)
sent_word true true true = as_it_stands (codes "dbe") refl
sent_word true true false = as_it_stands (codes "db") refl
sent_word true false true = as_it_stands (codes "de") refl
sent_word true false false = as_it_stands (codes "d") refl
sent_word false true true = as_it_stands (codes "be") refl
sent_word false true false = as_it_stands (codes "b") refl
sent_word false false true = as_it_stands (codes "e") refl
sent_word false false false = as_it_stands (codes "-") refl

read_word : (run begin end : Bool) → IsWord (read_letters run begin end)
read_word true true true = as_it_stands (codes "rbe") refl
read_word true true false = as_it_stands (codes "rb") refl
read_word true false true = as_it_stands (codes "re") refl
read_word true false false = as_it_stands (codes "r") refl
read_word false true true = as_it_stands (codes "be") refl
read_word false true false = as_it_stands (codes "b") refl
read_word false false true = as_it_stands (codes "e") refl
read_word false false false = as_it_stands (codes "-") refl

record_word : (sending : Bool) → IsWord (record_text sending)
record_word true = as_it_stands (codes "send") refl
record_word false = as_it_stands (codes "receive") refl

run_word : (run : Bool) → IsWord (run_text run)
run_word true = as_it_stands (codes "run") refl
run_word false = as_it_stands (codes "on") refl

-- FAULTS

-- a word as it stands, and more words
stands : (text : Text) (words : List Text) → is_word text ≡ true → AreWords words → AreWords (text ∷ words)
stands text words h more = (as_it_stands text h, more)

numbers1 : (n : ℕ) → AreWords (decimal n ∷ [])
numbers1 n = (number_word n, tt)

numbers2 : (n m : ℕ) → AreWords (decimal n ∷ decimal m ∷ [])
numbers2 n m = (number_word n, numbers1 m)

named : (text : Text) (n : ℕ) → is_word text ≡ true → AreWords (text ∷ decimal n ∷ [])
named text n h = (as_it_stands text h, numbers1 n)

refusal_are : (refusal : Refusal) → AreWords (refusal_words refusal)
refusal_are (refusals.Quiet until) = named (codes "quiet") until refl
refusal_are (refusals.Full free) = named (codes "full") free refl

layout_are : (fault : LayoutFault) → AreWords (layout_fault_words fault)
layout_are (layout_faults.Short len) = named (codes "short") len refl
layout_are (layout_faults.Version octet) = named (codes "version") octet refl
layout_are (layout_faults.Length told there) = (as_it_stands (codes "length") refl, numbers2 told there)
layout_are layout_faults.Dead = (as_it_stands (codes "dead") refl, tt)
layout_are (layout_faults.Protocol octet) = named (codes "protocol") octet refl
layout_are (layout_faults.Kind octet) = named (codes "kind") octet refl
layout_are (layout_faults.Flags octet) = named (codes "flags") octet refl
layout_are (layout_faults.Window value) = named (codes "window") value refl
layout_are (layout_faults.Size len) = named (codes "size") len refl

field_word : (field : Field) → is_word (field_text field) ≡ true
field_word fields.Mpl = refl
field_word fields.R = refl
field_word fields.A = refl
field_word fields.Rto = refl
field_word fields.Probe = refl
field_word fields.Seg = refl
field_word fields.Cap = refl
field_word fields.Rcap = refl
field_word fields.Window = refl
field_word fields.RunLimit = refl

line_fault_word : (fault : LineFault) → is_word (line_fault_text fault) ≡ true
line_fault_word line_faults.Word = refl
line_fault_word line_faults.Count = refl
line_fault_word line_faults.Number = refl
line_fault_word line_faults.Flow = refl
line_fault_word line_faults.Hex = refl
line_fault_word line_faults.Order = refl

no_memory : AreWords (codes "out" ∷ codes "of" ∷ codes "memory" ∷ [])
no_memory = (as_it_stands (codes "out") refl, (as_it_stands (codes "of") refl, (as_it_stands (codes "memory") refl, tt)))

setup_are : (fault : SetupFault) → AreWords (setup_fault_words fault)
setup_are (setup_faults.Twice n) = named (codes "twice") n refl
setup_are (setup_faults.Unknown n) = named (codes "unknown") n refl
setup_are (setup_faults.Stray n) = named (codes "stray") n refl
setup_are setup_faults.NoMemory = no_memory

step_are : (fault : StepFault) → AreWords (step_fault_words fault)
step_are step_faults.BadFlow = (as_it_stands (codes "bad") refl, (as_it_stands (codes "flow") refl, tt))
step_are (step_faults.NoStation n) = (as_it_stands (codes "no") refl, named (codes "station") n refl)
step_are (step_faults.NoCopy n) = (as_it_stands (codes "no") refl, named (codes "copy") n refl)
step_are (step_faults.Lost n) = named (codes "lost") n refl
step_are (step_faults.TooLate held charge) = (as_it_stands (codes "too") refl, (as_it_stands (codes "late") refl, numbers2 held charge))
step_are step_faults.NoMemory = no_memory

fault_are : (fault : Fault) → AreWords (fault_words fault)
fault_are (faults.Line fault) = (as_it_stands (line_fault_text fault) (line_fault_word fault), tt)
fault_are (faults.Param fault) = (as_it_stands (codes "param") refl, (as_it_stands (field_text fault.field) (field_word fault.field), numbers1 fault.value))
fault_are (faults.Setup fault) = setup_are fault
fault_are (faults.Step fault) = step_are fault

-- LINES

-- of these the search finds the words of a line one by one
record Word (text : Text) : Type 0 where
  is : IsWord text

record Words (words : List Text) : Type 0 where
  are : AreWords words

record Line (words : List Text) : Type 0 where
  are : IsWords words

line : (word : Text) (words : List Text) → Word word → Words words → Line (word ∷ words)
line word words h more = record { are = (h.is, more.are) }

none : Words []
none = record { are = tt }

some : (word : Text) (words : List Text) → Word word → Words words → Words (word ∷ words)
some word words h more = record { are = (h.is, more.are) }

-- after the word of the node, where a node reports the line
behind : (reporter : Option ℕ) (words : List Text) → Words words → Words (node_words reporter ++ words)
behind None words h = h
behind (Some node) words h = record { are = (number_word node, h.are) }

stood : (text : Text) → is_word text ≡ true → Word text
stood text h = record { is = as_it_stands text h }

number : (n : ℕ) → Word (decimal n)
number n = record { is = number_word n }

of_line : (n : ℕ) → Word (decimal n ++ codes ":")
of_line n = record { is = above_append 32 (decimal n) (codes ":") (number_word n) (as_it_stands (codes ":") refl) }

flow : (f : Flow) → Word (flow_text f)
flow f = record { is = flow_word f }

hex : (octets : List ℕ) → Word (hex_text octets)
hex octets = record { is = hex_word octets }

sent : (drf begin end : Bool) → Word (sent_letters drf begin end)
sent drf begin end = record { is = sent_word drf begin end }

read : (run begin end : Bool) → Word (read_letters run begin end)
read run begin end = record { is = read_word run begin end }

released : (sending : Bool) → Word (record_text sending)
released sending = record { is = record_word sending }

run : (run : Bool) → Word (run_text run)
run mark = record { is = run_word mark }

refused : (refusal : Refusal) → Words (refusal_words refusal)
refused refusal = record { are = refusal_are refusal }

bad : (fault : LayoutFault) → Words (layout_fault_words fault)
bad fault = record { are = layout_are fault }

faulty : (fault : Fault) → Words (fault_words fault)
faulty fault = record { are = fault_are fault }

ruleset words = (line, none, some, behind, stood, number, of_line, flow, hex, sent, read, released, run, refused, bad, faulty)

-- The last clause has each line that isn't named before.
line_are : (moment : ℕ) (reporter : Option ℕ) (told : Told) → Line (line_words moment reporter told)
line_are moment reporter reports.End = search (words, refl) depth 24
line_are moment reporter told = search (words, refl) depth 24

-- CUTTING

not_there : (low octet : ℕ) → low < octet → (octet == low) ≡ false
not_there low octet h = grind (arith, nat_tests)

there : (octet : ℕ) → (octet == octet) ≡ true
there octet = grind (arith, nat_tests)

cut_last : (low : ℕ) (text : Text) → IsAbove low text → slice_split (λ octet. octet == low) text ≡ text ∷ []
cut_last low [] h = refl
cut_last low (octet ∷ text) h = slice_split-cons_no (λ o. o == low) octet text (not_there low octet h.0) ∙ ap (onto_first octet) (cut_last low text h.1)

cut_first : (low : ℕ) (text rest : Text) → IsAbove low text → slice_split (λ octet. octet == low) (text ++ low ∷ rest) ≡ text ∷ slice_split (λ octet. octet == low) rest
cut_first low [] rest h = slice_split-cons_yes (λ o. o == low) low rest (there low)
cut_first low (octet ∷ text) rest h =
    slice_split-cons_no (λ o. o == low) octet (text ++ low ∷ rest) (not_there low octet h.0) ∙ ap (onto_first octet) (cut_first low text rest h.1)

-- words with spaces between them are cut into the words
words_cut : (words : List Text) → IsWords words → slice_split (λ octet. octet == 32) (spaced words) ≡ words
words_cut [] h = absurd h
words_cut (word ∷ []) h = cut_last 32 word h.0
words_cut (word ∷ next ∷ more) h = cut_first 32 word (spaced (next ∷ more)) h.0 ∙ ap (λ rest. word ∷ rest) (words_cut (next ∷ more) h.1)

-- words with spaces between them have no line feed
in_line : (words : List Text) → AreWords words → IsAbove 10 (spaced words)
in_line [] h = tt
in_line (word ∷ []) h = above_less 32 10 word (omega arith) h.0
in_line (word ∷ next ∷ more) h = above_append 10 word (32 ∷ spaced (next ∷ more)) (above_less 32 10 word (omega arith) h.0) (omega arith, in_line (next ∷ more) h.1)

are_words : (words : List Text) → IsWords words → AreWords words
are_words [] h = tt
are_words (word ∷ words) h = h

pub words_again : (entry : Entry) → slice_split (λ octet. octet == 32) (spaced (entry_words entry)) ≡ entry_words entry
words_again entry = words_cut (entry_words entry) (line_are entry.moment entry.node entry.told).are

pub lines_again : (entries : List Entry) → slice_split (λ octet. octet == 10) (log_text entries) ≡ map (λ entry. spaced (entry_words entry)) entries ++ [] ∷ []
lines_again [] = refl
lines_again (entry ∷ entries) =
    let line = spaced (entry_words entry) in
    ap (slice_split (λ octet. octet == 10)) (append_assoc line (codes "\n") (log_text entries))
    ∙ cut_first 10 line (log_text entries) (in_line (entry_words entry) (are_words (entry_words entry) (line_are entry.moment entry.node entry.told).are))
    ∙ ap (λ rest. line ∷ rest) (lines_again entries)
