-- The calls of a world in the course of a step, and what is kept of them.
use Rattle.std.specs.Prelude.{ℕ, ◌≡◌, false, Bool, List}
use Rattle.dt_calls_model.specs.CallFacts.{CourseFacts}
use Rattle.dt_calls_model.specs.Calls.{Calls}
use Rattle.dt_calls_model.specs.Promises.{AreServedOnce}
use Rattle.dt_calls.specs.declared.call_courses.CallsParts.{CallsParts}
use Rattle.dt_calls.specs.CallOutcomes.{CallsValue}
use Rattle.dt_calls.specs.Parts.{IsWhole, calls_seen}

-- what its functions see of it
pub record CourseValue (H : Type 0) : Type 0 where
  pub calls : Calls
  -- the numbers of the calls that are judged next
  pub waiting : List ℕ
  pub handler : H
  -- something found no memory: the calls are used no more
  pub spent : Bool

module _ {H : Type 0} where
  abbrev pub course_seen : CallsParts H → Bool → CourseValue H
  course_seen p spent = record { calls = calls_seen p; waiting = p.waiting.items; handler = p.handler; spent = spent }

  -- what is seen of it between two steps
  abbrev pub calls_value : CourseValue H → CallsValue H
  calls_value c = record { calls = c.calls; handler = c.handler; spent = c.spent }

  -- BETWEEN TWO PARTS OF A STEP nothing failed, and what is true of calls holds that is so also where something is unread.
  pub record IsOnCourse (answer : List ℕ → List ℕ) (p : CallsParts H) : Type 0 where
    pub whole : IsWhole p
    pub course : CourseFacts answer (calls_seen p)

  -- WHAT IS KEPT after any answer: also of spent calls each was served at most once, and one that is answered was served once.
  pub record IsKeptCourse (answer : List ℕ → List ℕ) (spent : Bool) (p : CallsParts H) : Type 0 where
    pub once : AreServedOnce (calls_seen p)
    pub on : spent ≡ false → IsOnCourse answer p
