-- The notes of a log tell the same verdict as its rows, and the rows of a log that passes are safe.
use Rattle.std.proofs.Common.{ℕ, suc, ◌≡◌, ◌+◌, ◌==◌, ◌≤◌, false, List, [], ◌∷◌, Some, Result, Ok, Err, IfOk, refl, sym, ap, subst, inl, inr, arith}
use Rattle.std.specs.Prelude.{if◌then◌else◌, unwrap_or}
use Rattle.std.proofs.lemmas.Bool.{cases_Bool, eqb-true}
use Rattle.dt_reports.specs.declared.faults.LineFault.{LineFault}
use Rattle.dt_text.specs.InputLines.{lines_of}
use Rattle.dt_units.specs.declared.endpoints.Flow.{Flow}
use Rattle.dt_world_model.specs.Tables.{look, same_flow, write}
use Rattle.dt_world_model.proofs.Tables.{flow_is, flow_self, look_write, look_write_other, nat_is, nat_self}
use Rattle.dt_audit.specs.declared.flow_facts.FlowFact.{FlowFact}
use Rattle.dt_audit.specs.declared.flow_facts.FlowFact.TheVariants as changes
use Rattle.dt_audit.specs.declared.facts.Fact.{Fact}
use Rattle.dt_audit.specs.declared.facts.Fact.TheVariants.{Took, Sent, Settled, Uncertain, Accepted, Restarted, Other}
use Rattle.dt_audit.specs.declared.flaws.Flaw.{Flaw}
use Rattle.dt_audit.specs.declared.flaws.Flaw.TheVariants.{Stray}
use Rattle.dt_audit.specs.Audits.{AreSafe, ledger_of}
use Rattle.dt_audit.specs.Books.{Book, begin_again, begun, change_flow, flaw_in, follow_fact, follow_line, follow_lines, follow_log, follow_on, follow_read, kept, life_in, lives_of, wrote}
use Rattle.dt_audit.specs.Facts.{fact_of}
use Rattle.dt_audit.specs.FlowNotes.{Notes, by_notes, no_notes, notes_after}
use Rattle.dt_audit.specs.LogRows.{FlowLog, by_rows, no_rows, rows_after}
use Rattle.dt_audit.proofs.Sound.{sound_is_safe, sound_later}
use Rattle.dt_audit.proofs.Standing.{Agrees, Stands, line_agrees, nothing_stands}

-- what is kept in notes stands for what is kept in rows
pub record Matches (notes : Book Notes) (rows : Book FlowLog) : Type 0 where
  pub lives : notes.lives ≡ rows.lives
  pub flows : (f : Flow) → Stands (kept by_notes notes.flows f) (kept by_rows rows.flows f)
  pub within : (f : Flow) → (kept by_notes notes.flows f).life ≤ life_in notes.lives f.from.0

abbrev BothFollow : Result (Book Notes) Flaw → Result (Book FlowLog) Flaw → Type 0
BothFollow (Ok notes) (Ok rows) = Matches notes rows
BothFollow (Ok notes) (Err flaw) = ⊥
BothFollow (Err flaw) (Ok rows) = ⊥
BothFollow (Err flaw) (Err other) = flaw ≡ other

-- A FLOW
pub kept_same : (A : Type 0) (d a : A) (f : Flow) (es : List (Flow × A)) → unwrap_or (look same_flow f (write same_flow f a es)) d ≡ a
kept_same A d a f es = ap (λ o. unwrap_or o d) (look_write Flow A same_flow flow_self flow_is f a es)

pub kept_other : (A : Type 0) (d a : A) (f g : Flow) (es : List (Flow × A)) → same_flow f g ≡ false → unwrap_or (look same_flow g (write same_flow f a es)) d ≡ unwrap_or (look same_flow g es) d
kept_other A d a f g es apart = ap (λ o. unwrap_or o d) (look_write_other Flow A same_flow flow_self flow_is g f a es apart)

flow_written : (f : Flow) (notes : Book Notes) (rows : Book FlowLog) (n : Result Notes Flaw) (l : Result FlowLog Flaw) → Matches notes rows → Agrees (life_in notes.lives f.from.0) n l → BothFollow (wrote by_notes f notes n) (wrote by_rows f rows l)
flow_written f notes rows (Ok n) (Err flaw) m a = elim a [ ]
flow_written f notes rows (Err flaw) (Ok l) m a = elim a [ ]
flow_written f notes rows (Err flaw) (Err other) m a = a
flow_written f notes rows (Ok n) (Ok l) m a = record {
  lives = m.lives;
  flows = λ g.
      elim (cases_Bool (same_flow f g)) [
        | inl y ↦
            let here : f ≡ g = flow_is f g y in
            subst (λ (h : Flow). Stands (kept by_notes (write same_flow f n notes.flows) h) (kept by_rows (write same_flow f l rows.flows) h)) here
            (subst (λ (k : Notes). Stands k (kept by_rows (write same_flow f l rows.flows) f)) (sym (kept_same Notes no_notes n f notes.flows))
            (subst (λ (k : FlowLog). Stands n k) (sym (kept_same FlowLog no_rows l f rows.flows)) a.0))
        | inr apart ↦
            subst (λ (k : Notes). Stands k (kept by_rows (write same_flow f l rows.flows) g)) (sym (kept_other Notes no_notes n f g notes.flows apart))
            (subst (λ (k : FlowLog). Stands (kept by_notes notes.flows g) k) (sym (kept_other FlowLog no_rows l f g rows.flows apart)) (m.flows g))
      ];
  within = λ g.
      elim (cases_Bool (same_flow f g)) [
        | inl y ↦
            let here : f ≡ g = flow_is f g y in
            subst (λ (h : Flow). (kept by_notes (write same_flow f n notes.flows) h).life ≤ life_in notes.lives h.from.0) here
            (subst (λ (k : Notes). k.life ≤ life_in notes.lives f.from.0) (sym (kept_same Notes no_notes n f notes.flows)) (omega (arith, a.1)))
        | inr apart ↦ subst (λ (k : Notes). k.life ≤ life_in notes.lives g.from.0) (sym (kept_other Notes no_notes n f g notes.flows apart)) (m.within g)
      ];
}

flow_changed : (f : Flow) (change : FlowFact) (notes : Book Notes) (rows : Book FlowLog) → Matches notes rows → BothFollow (change_flow by_notes f change notes) (change_flow by_rows f change rows)
flow_changed f change notes rows m =
    flow_written f notes rows (notes_after (lives_of notes.lives f) change (kept by_notes notes.flows f)) (rows_after (lives_of rows.lives f) change (kept by_rows rows.flows f)) m
    (subst (λ lives. Agrees (life_in notes.lives f.from.0) (notes_after (lives_of notes.lives f) change (kept by_notes notes.flows f)) (rows_after (lives_of lives f) change (kept by_rows rows.flows f))) m.lives
    (line_agrees (lives_of notes.lives f) change (kept by_notes notes.flows f) (kept by_rows rows.flows f) (m.within f) (m.flows f)))

-- A NODE
life_written : (node life other : ℕ) (lives : List (ℕ × ℕ)) → life_in lives node ≤ life → life_in lives other ≤ life_in (write ◌==◌ node life lives) other
life_written node life other lives le =
    elim (cases_Bool (node == other)) [
      | inl y ↦
          let here : node ≡ other = nat_is node other y in
          subst (λ n. life_in lives n ≤ life_in (write ◌==◌ node life lives) n) here
          (omega (arith, ap (λ o. unwrap_or o 0) (look_write ℕ ℕ ◌==◌ nat_self nat_is node life lives)))
      | inr apart ↦ omega (arith, ap (λ o. unwrap_or o 0) (look_write_other ℕ ℕ ◌==◌ nat_self nat_is other node life lives apart))
    ]

node_began : (node life : ℕ) (notes : Book Notes) (rows : Book FlowLog) → Matches notes rows → BothFollow (begin_again by_notes node life notes) (begin_again by_rows node life rows)
node_began node life notes rows m =
    subst (λ lives. BothFollow (begin_again by_notes node life notes) (if life == life_in lives node + 1 then Ok (record { lives = write ◌==◌ node life lives; flows = rows.flows }) else Err Stray)) m.lives
    (elim (cases_Bool (life == life_in notes.lives node + 1)) [
      | inl y ↦
          let next : life ≡ life_in notes.lives node + 1 = eqb-true _ _ y in
          rw y (record {
            lives = refl;
            flows = m.flows;
            within = λ f. omega (arith, m.within f, life_written node life f.from.0 notes.lives (omega arith));
          })
      | inr n ↦ rw n refl
    ])

-- EACH FACT AND EACH LINE
fact_followed : (fact : Fact) (notes : Book Notes) (rows : Book FlowLog) → Matches notes rows → BothFollow (follow_fact by_notes fact notes) (follow_fact by_rows fact rows)
fact_followed (Took f count) notes rows m = flow_changed f (changes.Took count) notes rows m
fact_followed (Sent f number count) notes rows m = flow_changed f (changes.Sent number count) notes rows m
fact_followed (Settled f count) notes rows m = flow_changed f (changes.Settled count) notes rows m
fact_followed (Uncertain f count) notes rows m = flow_changed f (changes.Uncertain count) notes rows m
fact_followed (Accepted f number count run) notes rows m = flow_changed f (changes.Accepted number count run) notes rows m
fact_followed (Restarted node life) notes rows m = node_began node life notes rows m
fact_followed Other notes rows m = m

line_followed : (read : Result Fact LineFault) (notes : Book Notes) (rows : Book FlowLog) → Matches notes rows → BothFollow (follow_read by_notes notes read) (follow_read by_rows rows read)
line_followed (Ok fact) notes rows m = fact_followed fact notes rows m
line_followed (Err fault) notes rows m = refl

-- ALL LINES
abbrev BothEnd : Result (Book Notes) (ℕ × Flaw) → Result (Book FlowLog) (ℕ × Flaw) → Type 0
BothEnd (Ok notes) (Ok rows) = Matches notes rows
BothEnd (Ok notes) (Err flaw) = ⊥
BothEnd (Err flaw) (Ok rows) = ⊥
BothEnd (Err flaw) (Err other) = flaw ≡ other

on_end : (number : ℕ) (rest : Book Notes → Result (Book Notes) (ℕ × Flaw)) (rest' : Book FlowLog → Result (Book FlowLog) (ℕ × Flaw)) (r : Result (Book Notes) Flaw) (r' : Result (Book FlowLog) Flaw)
    → ((notes : Book Notes) (rows : Book FlowLog) → Matches notes rows → BothEnd (rest notes) (rest' rows)) → BothFollow r r' → BothEnd (follow_on by_notes number rest r) (follow_on by_rows number rest' r')
on_end number rest rest' (Ok notes) (Ok rows) on m = on notes rows m
on_end number rest rest' (Ok notes) (Err flaw) on m = elim m [ ]
on_end number rest rest' (Err flaw) (Ok rows) on m = elim m [ ]
on_end number rest rest' (Err flaw) (Err other) on m = ap (λ (x : Flaw). (number, x)) m

lines_followed : (lines : List (List ℕ)) (number : ℕ) (notes : Book Notes) (rows : Book FlowLog) → Matches notes rows → BothEnd (follow_lines by_notes number lines notes) (follow_lines by_rows number lines rows)
unfolding follow_lines
lines_followed [] number notes rows m = m
lines_followed (line ∷ lines) number notes rows m =
    on_end number (follow_lines by_notes (suc number) lines) (follow_lines by_rows (suc number) lines) (follow_line by_notes line notes) (follow_line by_rows line rows)
    (λ n r k. lines_followed lines (suc number) n r k) (line_followed (fact_of line) notes rows m)

nothing_kept : Matches (begun by_notes) (begun by_rows)
nothing_kept = record { lives = refl; flows = λ f. nothing_stands; within = λ f. omega arith }

log_followed : (octets : List ℕ) → BothEnd (follow_log by_notes octets) (follow_log by_rows octets)
log_followed octets = lines_followed (lines_of octets) 1 (begun by_notes) (begun by_rows) nothing_kept

pub same_flaw : (octets : List ℕ) → flaw_in (follow_log by_rows octets) ≡ flaw_in (follow_log by_notes octets)
same_flaw octets = by (follow_log by_notes octets) (follow_log by_rows octets) (log_followed octets)
  where
    by : (n : Result (Book Notes) (ℕ × Flaw)) (r : Result (Book FlowLog) (ℕ × Flaw)) → BothEnd n r → flaw_in r ≡ flaw_in n
    by (Ok notes) (Ok rows) h = refl
    by (Ok notes) (Err flaw) h = elim h [ ]
    by (Err flaw) (Ok rows) h = elim h [ ]
    by (Err flaw) (Err other) h = ap (λ (x : ℕ × Flaw). Some x) (sym h)

-- the rows of a log that passes are safe
rows_safe : (notes : Book Notes) (rows : Book FlowLog) → Matches notes rows → AreSafe rows
rows_safe notes rows m f =
    let l = kept by_rows rows.flows f in
    let le : (kept by_notes notes.flows f).life ≤ life_in rows.lives f.from.0 = subst (λ lives. (kept by_notes notes.flows f).life ≤ life_in lives f.from.0) m.lives (m.within f) in
    sound_is_safe (life_in rows.lives f.from.0) l (sound_later (kept by_notes notes.flows f).life (life_in rows.lives f.from.0) l le (m.flows f).sound)

pub log_is_safe : (octets : List ℕ) → IfOk (ledger_of octets) AreSafe
log_is_safe octets = by (follow_log by_notes octets) (ledger_of octets) (log_followed octets)
  where
    by : (n : Result (Book Notes) (ℕ × Flaw)) (r : Result (Book FlowLog) (ℕ × Flaw)) → BothEnd n r → IfOk r AreSafe
    by (Ok notes) (Ok rows) h = rows_safe notes rows h
    by (Ok notes) (Err flaw) h = tt
    by (Err flaw) (Ok rows) h = elim h [ ]
    by (Err flaw) (Err other) h = tt
