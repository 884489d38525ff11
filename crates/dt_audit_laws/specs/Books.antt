-- What a log has of the states of all flows.
use Rattle.std.specs.Prelude.{◌≡◌, Ok}
use Rattle.dt_units.specs.declared.parameters.Params.{Params}
use Rattle.dt_units.specs.declared.endpoints.Flow.{Flow}
use Rattle.dt_flow_model.specs.Flow.{FlowState}
use Rattle.dt_audit.specs.declared.facts.Fact.{Fact}
use Rattle.dt_audit.specs.declared.facts.Fact.TheVariants.{Took, Sent, Settled, Uncertain, Accepted, Restarted, Other}
use Rattle.dt_audit.specs.Books.{Book, follow_fact, kept, life_in}
use Rattle.dt_audit.specs.LogRows.{FlowLog, by_rows}
use Rattle.dt_audit_laws.specs.Following.{FollowsFlow}

-- each flow is followed by what is kept of it, and the lives of its two stations are those that are kept
pub record FollowsAll (p : Params) (views : Flow → FlowState) (book : Book FlowLog) : Type 0 where
  pub flows : (f : Flow) → FollowsFlow p (views f) (kept by_rows book.flows f)
  pub senders : (f : Flow) → life_in book.lives f.from.0 ≡ (views f).sender_life
  pub receivers : (f : Flow) → life_in book.lives f.to.0 ≡ (views f).receiver_life

-- the fact is about the flow, or about none
abbrev pub IsAbout : Flow → Fact → Type 0
IsAbout f (Took g count) = g ≡ f
IsAbout f (Sent g number count) = g ≡ f
IsAbout f (Settled g count) = g ≡ f
IsAbout f (Uncertain g count) = g ≡ f
IsAbout f (Accepted g number count run) = g ≡ f
IsAbout f (Restarted node life) = ⊥
IsAbout f Other = Unit {0}

-- a line passes, and all flows are followed then
pub record GoesOn (p : Params) (after : Flow → FlowState) (fact : Fact) (book : Book FlowLog) : Type 0 where
  pub next : Book FlowLog
  pub passes : follow_fact by_rows fact book ≡ Ok next
  pub follows : FollowsAll p after next
