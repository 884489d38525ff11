-- The lines of a log, one more at a time.
use Rattle.std.proofs.Common.{ℕ, ◌≡◌, List, [], ◌∷◌, ◌++◌, map, Ok, refl, sym, subst, ◌∙◌}
use Rattle.dt_units.specs.declared.parameters.Params.{Params}
use Rattle.dt_units.specs.declared.endpoints.Flow.{Flow}
use Rattle.dt_reports.specs.Entries.{Entry}
use Rattle.dt_reports.specs.Matters as matter
use Rattle.dt_reports.specs.Matters.{Matter, matter_of}
use Rattle.dt_reports.specs.Told.{Told}
use Rattle.dt_reports.specs.declared.reports.Report.TheVariants as report
use Rattle.dt_flow_model.specs.Flow.{FlowState}
use Rattle.dt_world_model.specs.Ledgers.{effect_of}
use Rattle.dt_world_model.specs.World.{world_told}
use Rattle.dt_audit.specs.declared.facts.Fact.{Fact}
use Rattle.dt_audit.specs.declared.facts.Fact.TheVariants.{Other}
use Rattle.dt_audit.specs.Books.{Book, follow_fact, kept}
use Rattle.dt_audit.specs.LogRows.{FlowLog, by_rows}
use Rattle.dt_audit.specs.Telling.{IsInRange, IsMatterInRange, fact_by, fact_by_matter, fact_told}
use Rattle.dt_audit_laws.specs.Books.{FollowsAll, GoesOn}
use Rattle.dt_audit_laws.specs.Following.{FollowsFlow}
use Rattle.dt_audit_laws.specs.Logs.{AreInRange, FactsPass, LogOf, ShowsAlike}
use Rattle.dt_audit_laws.specs.Numbering.{IsNumbered}
use Rattle.dt_audit_laws.proofs.Keeping.{same_follows}

-- one line more
one_more : (lines : List Entry) (entry : Entry) (start book next : Book FlowLog) → FactsPass (map fact_told lines) start book → follow_fact by_rows (fact_told entry) book ≡ Ok next → FactsPass (map fact_told (lines ++ entry ∷ [])) start next
one_more [] entry start book next same e = (next, subst (λ (b : Book FlowLog). follow_fact by_rows (fact_told entry) b ≡ Ok next) same e, refl)
one_more (line ∷ lines) entry start book next h e = (h.0, h.1, one_more lines entry h.0 book next h.2 e)

one_in_range : (lines : List Entry) (entry : Entry) → AreInRange lines → IsInRange entry.told → AreInRange (lines ++ entry ∷ [])
one_in_range [] entry h k = (k, tt)
one_in_range (line ∷ lines) entry h k = (h.0, one_in_range lines entry h.1 k)

pub line_goes : (p : Params) (before after : Flow → FlowState) (start : Book FlowLog) (lines : List Entry) (entry : Entry) → LogOf p before start lines → IsInRange entry.told → ((book : Book FlowLog) → FollowsAll p before book → GoesOn p after (fact_told entry) book) → LogOf p after start (lines ++ entry ∷ [])
line_goes p before after start lines entry h within goes =
    let g = goes h.book h.follows in record { book = g.next; passes = one_more lines entry start h.book g.next h.passes g.passes; follows = g.follows; ranges = one_in_range lines entry h.ranges within }

-- flows that a log shows alike
pub alike_follows : (p : Params) (s t : FlowState) (log : FlowLog) → ShowsAlike s t → FollowsFlow p s log → FollowsFlow p t log
alike_follows p s t log a f = same_follows p s t log a.taken a.given a.sender (subst (λ r. IsNumbered p r log) (sym a.run) f.numbered) f

pub alike_all : (p : Params) (before after : Flow → FlowState) (book : Book FlowLog) → ((f : Flow) → ShowsAlike (before f) (after f)) → FollowsAll p before book → FollowsAll p after book
alike_all p before after book a h = record {
  flows = λ f. alike_follows p (before f) (after f) (kept by_rows book.flows f) (a f) (h.flows f);
  senders = λ f. h.senders f ∙ sym (a f).sender;
  receivers = λ f. h.receivers f ∙ sym (a f).receiver;
}

pub alike_log : (p : Params) (before after : Flow → FlowState) (start : Book FlowLog) (lines : List Entry) → ((f : Flow) → ShowsAlike (before f) (after f)) → LogOf p before start lines → LogOf p after start lines
alike_log p before after start lines a h = record { book = h.book; passes = h.passes; follows = alike_all p before after h.book a h.follows; ranges = h.ranges }

-- a line that says nothing of octets and lives
pub other_goes : (p : Params) (before after : Flow → FlowState) (start : Book FlowLog) (lines : List Entry) (entry : Entry) → fact_told entry ≡ Other → IsInRange entry.told → ((f : Flow) → ShowsAlike (before f) (after f)) → LogOf p before start lines → LogOf p after start (lines ++ entry ∷ [])
other_goes p before after start lines entry other within a h =
    line_goes p before after start lines entry h within
    (λ book all. subst (λ (fact : Fact). GoesOn p after fact book) (sym other) (let g : GoesOn p after Other book = record { next = book; passes = refl; follows = alike_all p before after book a all } in g))

-- what the world adds to a report says nothing of octets
pub world_fact : (node copies : ℕ) (told : Told) → fact_by node (world_told copies told (effect_of told)) ≡ fact_by node told
world_fact node copies (report.Put link life) = refl
world_fact node copies other = search

-- nor leaves it a range
pub world_range : (copies : ℕ) (told : Told) → IsInRange told → IsInRange (world_told copies told (effect_of told))
world_range copies (report.Put link life) h = h
world_range copies other h = search

-- what says nothing of octets and lives has no range
abbrev pub SaysNothing : Told → Type 0
SaysNothing told = (node : ℕ) → fact_by node told ≡ Other

matter_in_range : (m : Matter) → ((node : ℕ) → fact_by_matter node m ≡ Other) → IsMatterInRange m
matter_in_range (matter.Taken f count) h = let k = h 0 in absurd cc
matter_in_range (matter.Refused f fault) h = tt
matter_in_range (matter.Transmitted f number count) h = let k = h 0 in absurd cc
matter_in_range (matter.Retransmitted f) h = tt
matter_in_range (matter.GivenUp f count) h = let k = h 0 in absurd cc
matter_in_range (matter.Acknowledged f count window) h = let k = h 0 in absurd cc
matter_in_range (matter.Accepted f number count run) h = let k = h 0 in absurd cc
matter_in_range (matter.Replied f number) h = tt
matter_in_range (matter.Dropped f) h = tt
matter_in_range (matter.ReadOut f run begin end octets) h = tt
matter_in_range (matter.NothingRead f) h = tt
matter_in_range (matter.Left link life) h = tt
matter_in_range (matter.Begun life) h = let k = h 0 in absurd cc
matter_in_range matter.Neither h = tt

pub nothing_in_range : (told : Told) → SaysNothing told → IsInRange told
nothing_in_range told h = matter_in_range (matter_of told) h

-- WHAT THE LINES LEAD TO, from the end of some to that of others
pub passes_then : (facts more : List Fact) (start book next : Book FlowLog) → FactsPass facts start book → FactsPass more book next → FactsPass (facts ++ more) start next
passes_then [] more start book next same h = subst (λ (b : Book FlowLog). FactsPass more b next) same h
passes_then (fact ∷ facts) more start book next h k = (h.0, h.1, passes_then facts more h.0 book next h.2 k)
