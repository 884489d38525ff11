-- How a log is read: each line that states a fact changes what is kept of its flow or of the lives of nodes, or has a flaw. What is kept of a flow may be one thing or another; the rule of the lines is the same.
use Rattle.std.specs.Prelude.{ℕ, suc, ◌+◌, ◌==◌, if◌then◌else◌, unwrap_or, List, [], ◌∷◌, Option, Some, None, Result, Ok, Err}
use Rattle.dt_reports.specs.declared.faults.LineFault.{LineFault}
use Rattle.dt_text.specs.InputLines.{lines_of}
use Rattle.dt_units.specs.declared.endpoints.Flow.{Flow}
use Rattle.dt_world_model.specs.Tables.{look, same_flow, write}
use Rattle.dt_audit.specs.declared.flow_facts.FlowFact.{FlowFact}
use Rattle.dt_audit.specs.declared.flow_facts.FlowFact.TheVariants as changes
use Rattle.dt_audit.specs.declared.flow_facts.Lives.{Lives}
use Rattle.dt_audit.specs.declared.facts.Fact.{Fact}
use Rattle.dt_audit.specs.declared.facts.Fact.TheVariants.{Took, Sent, Settled, Uncertain, Accepted, Restarted, Other}
use Rattle.dt_audit.specs.declared.flaws.Flaw.{Flaw}
use Rattle.dt_audit.specs.declared.flaws.Flaw.TheVariants.{Line, Stray}
use Rattle.dt_audit.specs.Facts.{fact_of}

-- what is kept: the lives of the nodes that began again, and something of each flow that was spoken of
pub record Book (A : Type 0) : Type 0 where
  pub lives : List (ℕ × ℕ)
  pub flows : List (Flow × A)

-- a way to keep flows: what there is of one that wasn't spoken of, and what a line makes of it, by the lives of its two nodes
pub record Keeping (A : Type 0) : Type 0 where
  pub nothing : A
  pub follow : Lives → FlowFact → A → Result A Flaw

-- each node's life is 0 at first
abbrev pub life_in : List (ℕ × ℕ) → ℕ → ℕ
life_in lives node = unwrap_or (look ◌==◌ node lives) 0

abbrev pub lives_of : List (ℕ × ℕ) → Flow → Lives
lives_of lives f = record { sender = life_in lives f.from.0; receiver = life_in lives f.to.0 }

module _ {A : Type 0} (keeping : Keeping A) where
  -- what is kept of a flow
  abbrev pub kept : List (Flow × A) → Flow → A
  kept flows f = unwrap_or (look same_flow f flows) keeping.nothing

  abbrev pub begun : Book A
  begun = record { lives = []; flows = [] }

  abbrev pub wrote : Flow → Book A → Result A Flaw → Result (Book A) Flaw
  wrote f book (Ok after) = Ok (record { lives = book.lives; flows = write same_flow f after book.flows })
  wrote f book (Err flaw) = Err flaw

  -- a line changes what is kept of its flow
  abbrev pub change_flow : Flow → FlowFact → Book A → Result (Book A) Flaw
  change_flow f change book = wrote f book (keeping.follow (lives_of book.lives f) change (kept book.flows f))

  -- a node begins again: in the life after its last one
  abbrev pub begin_again : ℕ → ℕ → Book A → Result (Book A) Flaw
  begin_again node life book =
      if life == life_in book.lives node + 1 then Ok (record { lives = write ◌==◌ node life book.lives; flows = book.flows }) else Err Stray

  -- what a fact does
  abbrev pub follow_fact : Fact → Book A → Result (Book A) Flaw
  follow_fact (Took f count) book = change_flow f (changes.Took count) book
  follow_fact (Sent f number count) book = change_flow f (changes.Sent number count) book
  follow_fact (Settled f count) book = change_flow f (changes.Settled count) book
  follow_fact (Uncertain f count) book = change_flow f (changes.Uncertain count) book
  follow_fact (Accepted f number count run) book = change_flow f (changes.Accepted number count run) book
  follow_fact (Restarted node life) book = begin_again node life book
  follow_fact Other book = Ok book

  -- a line is read, and then it does what its fact does
  abbrev pub follow_read : Book A → Result Fact LineFault → Result (Book A) Flaw
  follow_read book (Ok fact) = follow_fact fact book
  follow_read book (Err fault) = Err (Line fault)

  abbrev pub follow_line : List ℕ → Book A → Result (Book A) Flaw
  follow_line line book = follow_read book (fact_of line)

  -- THE LINES one after another, from the one with this number on, up to the first that has a flaw
  abbrev pub follow_on : ℕ → (Book A → Result (Book A) (ℕ × Flaw)) → Result (Book A) Flaw → Result (Book A) (ℕ × Flaw)
  follow_on number rest (Ok book) = rest book
  follow_on number rest (Err flaw) = Err (number, flaw)

  unfoldable pub follow_lines : ℕ → List (List ℕ) → Book A → Result (Book A) (ℕ × Flaw)
  follow_lines number [] book = Ok book
  follow_lines number (line ∷ lines) book = follow_on number (follow_lines (suc number) lines) (follow_line line book)

  -- a whole log
  abbrev pub follow_log : List ℕ → Result (Book A) (ℕ × Flaw)
  follow_log octets = follow_lines 1 (lines_of octets) begun

-- the line that has a flaw, by its number from 1 on, and the first flaw that it meets; there is none where every line passes
abbrev pub flaw_in : {A : Type 0} → Result (Book A) (ℕ × Flaw) → Option (ℕ × Flaw)
flaw_in (Ok book) = None
flaw_in (Err flaw) = Some flaw
