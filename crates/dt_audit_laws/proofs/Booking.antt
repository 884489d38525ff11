-- A report that is about one flow changes what is kept of it, and nothing else.
use Rattle.std.proofs.Common.{ℕ, ◌≡◌, false, [], ◌∷◌, Ok, refl, sym, ap, subst, ◌∙◌, inl, inr}
use Rattle.std.proofs.lemmas.Bool.{cases_Bool}
use Rattle.dt_units.specs.declared.parameters.Params.{Params}
use Rattle.dt_units.specs.declared.endpoints.Flow.{Flow}
use Rattle.dt_flow_model.specs.Flow.{FlowState}
use Rattle.dt_world_model.specs.Tables.{same_flow, write}
use Rattle.dt_world_model.proofs.Tables.{flow_is}
use Rattle.dt_audit.specs.declared.flow_facts.FlowFact.{FlowFact}
use Rattle.dt_audit.specs.declared.flow_facts.FlowFact.TheVariants as changes
use Rattle.dt_audit.specs.declared.flow_facts.Lives.{Lives}
use Rattle.dt_audit.specs.declared.facts.Fact.{Fact}
use Rattle.dt_audit.specs.declared.facts.Fact.TheVariants.{Took, Sent, Settled, Uncertain, Accepted, Restarted, Other}
use Rattle.dt_audit.specs.Books as books
use Rattle.dt_audit.specs.Books.{Book, change_flow, follow_fact, kept, life_in, wrote}
use Rattle.dt_audit.specs.LogRows.{FlowLog, by_rows, no_rows, rows_after}
use Rattle.dt_audit.proofs.Agreement.{kept_other, kept_same}
use Rattle.dt_audit_laws.specs.Books.{FollowsAll, GoesOn, IsAbout}
use Rattle.dt_audit_laws.specs.Following.{Followed, FollowsFlow, lives_of}
use Rattle.dt_audit_laws.specs.Telling.{changes_in}

-- the lives that are kept are those of the flow
lives_are : (p : Params) (views : Flow → FlowState) (book : Book FlowLog) (f : Flow) → FollowsAll p views book → books.lives_of book.lives f ≡ lives_of (views f)
lives_are p views book f h =
    ap (λ (n : ℕ). let l : Lives = record { sender = n; receiver = life_in book.lives f.to.0 } in l) (h.senders f)
    ∙ ap (λ (n : ℕ). let l : Lives = record { sender = (views f).sender_life; receiver = n } in l) (h.receivers f)

module _ (p : Params) (views after : Flow → FlowState) (book : Book FlowLog) (f : Flow) (all : FollowsAll p views book)
    (others : (g : Flow) → same_flow f g ≡ false → after g ≡ views g) (sender : (after f).sender_life ≡ (views f).sender_life) (receiver : (after f).receiver_life ≡ (views f).receiver_life) where
  abbrev book_with : FlowLog → Book FlowLog
  book_with next = record { lives = book.lives; flows = write same_flow f next book.flows }

  -- the lives stay
  senders_stay : (g : Flow) → life_in book.lives g.from.0 ≡ (after g).sender_life
  senders_stay g =
      elim (cases_Bool (same_flow f g)) [
        | inl y ↦ subst (λ (k : Flow). life_in book.lives k.from.0 ≡ (after k).sender_life) (flow_is f g y) (all.senders f ∙ sym sender)
        | inr apart ↦ all.senders g ∙ ap (λ (s : FlowState). s.sender_life) (sym (others g apart))
      ]

  receivers_stay : (g : Flow) → life_in book.lives g.to.0 ≡ (after g).receiver_life
  receivers_stay g =
      elim (cases_Bool (same_flow f g)) [
        | inl y ↦ subst (λ (k : Flow). life_in book.lives k.to.0 ≡ (after k).receiver_life) (flow_is f g y) (all.receivers f ∙ sym receiver)
        | inr apart ↦ all.receivers g ∙ ap (λ (s : FlowState). s.receiver_life) (sym (others g apart))
      ]

  -- the flow is followed by what is written, and the others as before
  written : (next : FlowLog) → FollowsFlow p (after f) next → FollowsAll p after (book_with next)
  written next h = record {
    flows = λ g.
        elim (cases_Bool (same_flow f g)) [
          | inl y ↦
              subst (λ (k : Flow). FollowsFlow p (after k) (kept by_rows (write same_flow f next book.flows) k)) (flow_is f g y)
              (subst (λ (l : FlowLog). FollowsFlow p (after f) l) (sym (kept_same FlowLog no_rows next f book.flows)) h)
          | inr apart ↦
              subst (λ (s : FlowState). FollowsFlow p s (kept by_rows (write same_flow f next book.flows) g)) (sym (others g apart))
              (subst (λ (l : FlowLog). FollowsFlow p (views g) l) (sym (kept_other FlowLog no_rows next f g book.flows apart)) (all.flows g))
        ];
    senders = senders_stay;
    receivers = receivers_stay;
  }

  -- what is kept of the flow stays
  kept_so : FollowsFlow p (after f) (kept by_rows book.flows f) → FollowsAll p after book
  kept_so h = record {
    flows = λ g.
        elim (cases_Bool (same_flow f g)) [
          | inl y ↦ subst (λ (k : Flow). FollowsFlow p (after k) (kept by_rows book.flows k)) (flow_is f g y) h
          | inr apart ↦ subst (λ (s : FlowState). FollowsFlow p s (kept by_rows book.flows g)) (sym (others g apart)) (all.flows g)
        ];
    senders = senders_stay;
    receivers = receivers_stay;
  }

  one : (change : FlowFact) → Followed p (views f) (after f) (change ∷ []) (kept by_rows book.flows f) → (next : Book FlowLog) × (change_flow by_rows f change book ≡ Ok next) × FollowsAll p after next
  one change h =
      let line = h.passes in
      let passes : rows_after (books.lives_of book.lives f) change (kept by_rows book.flows f) ≡ Ok line.0 =
      ap (λ (l : Lives). rows_after l change (kept by_rows book.flows f)) (lives_are p views book f all) ∙ line.1 in
      (book_with line.0, ap (wrote by_rows f book) passes, written line.0 (subst (λ (l : FlowLog). FollowsFlow p (after f) l) line.2 h.follows))

  none : Followed p (views f) (after f) [] (kept by_rows book.flows f) → FollowsAll p after book
  none h = kept_so (subst (λ (l : FlowLog). FollowsFlow p (after f) l) h.passes h.follows)

  gone_on : (change : FlowFact) (fact : Fact) → Followed p (views f) (after f) (change ∷ []) (kept by_rows book.flows f) → follow_fact by_rows fact book ≡ change_flow by_rows f change book → GoesOn p after fact book
  gone_on change fact h is = let r = one change h in record { next = r.0; passes = is ∙ r.1; follows = r.2 }

  pub report_goes_on : (fact : Fact) → IsAbout f fact → Followed p (views f) (after f) (changes_in fact) (kept by_rows book.flows f) → GoesOn p after fact book
  report_goes_on (Took g count) at h = gone_on (changes.Took count) (Took g count) h (ap (λ (k : Flow). change_flow by_rows k (changes.Took count) book) at)
  report_goes_on (Sent g number count) at h = gone_on (changes.Sent number count) (Sent g number count) h (ap (λ (k : Flow). change_flow by_rows k (changes.Sent number count) book) at)
  report_goes_on (Settled g count) at h = gone_on (changes.Settled count) (Settled g count) h (ap (λ (k : Flow). change_flow by_rows k (changes.Settled count) book) at)
  report_goes_on (Uncertain g count) at h = gone_on (changes.Uncertain count) (Uncertain g count) h (ap (λ (k : Flow). change_flow by_rows k (changes.Uncertain count) book) at)
  report_goes_on (Accepted g number count run) at h = gone_on (changes.Accepted number count run) (Accepted g number count run) h (ap (λ (k : Flow). change_flow by_rows k (changes.Accepted number count run) book) at)
  report_goes_on (Restarted node life) at h = elim at [ ]
  report_goes_on Other at h = record { next = book; passes = refl; follows = none h }
