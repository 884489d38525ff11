-- What a node hears of its endpoint's reports: the fates of the octets of its calls and replies, and at which flows something may be unread.
use Rattle.std.specs.Prelude.{ℕ, ◌-◌, ◌&&◌, ◌||◌, Bool, true, false, nat_lt, is_some, List, [], ◌∷◌, ◌++◌, fold, if◌then◌else◌}
use Rattle.std.specs.List.{list_any}
use Rattle.dt_units.specs.declared.endpoints.Flow.{Flow}
use Rattle.dt_reports.specs.Matters as matter
use Rattle.dt_reports.specs.Matters.{Matter, matter_of}
use Rattle.dt_reports.specs.Told.{Told}
use Rattle.dt_world_model.specs.Tables.{same_flow}
use Rattle.dt_calls_model.specs.Messages.{reversed}
use Rattle.dt_service_model.specs.declared.calls.OpenCall.{OpenCall}
use Rattle.dt_service_model.specs.declared.happenings.Happening.{Happening}
use Rattle.dt_service_model.specs.declared.happenings.Happening.TheVariants.{Answered, ReplyUncertain, Request, Unsure}
use Rattle.dt_service_model.specs.declared.ports.Port.{Port}
use Rattle.dt_service_model.specs.CallBook.{CallBook, is_service, kind_in}

pub data Heard : Type 0 where
  Settles : (flow : Flow) → (count : ℕ) → Heard
  GivesUp : (flow : Flow) → (count : ℕ) → Heard
  Accepts : (flow : Flow) → Heard
  NoMatter : Heard

abbrev pub heard_by : Matter → Heard
heard_by (matter.Taken f count) = NoMatter
heard_by (matter.Refused f fault) = NoMatter
heard_by (matter.Transmitted f number count) = NoMatter
heard_by (matter.Retransmitted f) = NoMatter
heard_by (matter.GivenUp f count) = GivesUp f count
heard_by (matter.Acknowledged f count window) = Settles f count
heard_by (matter.Accepted f number count run) = Accepts f
heard_by (matter.Replied f number) = NoMatter
heard_by (matter.Dropped f) = NoMatter
heard_by (matter.ReadOut f run begin end octets) = NoMatter
heard_by (matter.NothingRead f) = NoMatter
heard_by (matter.Left link life) = NoMatter
heard_by (matter.Begun life) = NoMatter
heard_by matter.Neither = NoMatter

abbrev pub heard : Told → Heard
heard told = heard_by (matter_of told)

-- SO MANY OCTETS OF A FLOW HAVE THEIR FATE, the leftmost first: those of its calls, in the order of making. A call of which one was given up has given up.
abbrev pub with_fate : (given_up : Bool) → (count : ℕ) → OpenCall → OpenCall
with_fate given_up count call = record call { left = call.left - count; has_given_up = call.has_given_up || (given_up && nat_lt 0 count && nat_lt 0 call.left) }

abbrev pub with_fates : (given_up : Bool) → Flow → (count : ℕ) → List OpenCall → List OpenCall
with_fates given_up f count [] = []
with_fates given_up f count (call ∷ calls) =
    if same_flow call.flow f then with_fate given_up count call ∷ with_fates given_up f (count - call.left) calls
    else call ∷ with_fates given_up f count calls

-- A FLOW COMES IN: where its port has a kind it is to be read
abbrev pub with_flow : Flow → List Flow → List Flow
with_flow f flows = if list_any (λ g. same_flow g f) flows then flows else flows ++ f ∷ []

-- OCTETS OF A REPLY WERE GIVEN UP: what went from a service's port. The flow of its request is told, unless that was told before and wasn't taken
abbrev pub is_uncertain : Flow → Happening → Bool
is_uncertain f (ReplyUncertain g) = same_flow g f
is_uncertain f (Request token payload) = false
is_uncertain f (Answered call answer) = false
is_uncertain f (Unsure call cause) = false

abbrev pub with_uncertain : Flow → List Happening → List Happening
with_uncertain f told = if list_any (is_uncertain f) told then told else told ++ ReplyUncertain f ∷ []

abbrev pub told_given_up : Flow → List Port → List Happening → List Happening
told_given_up f ports told = if is_service (kind_in f.from_port ports) then with_uncertain (reversed f) told else told

abbrev pub hear_as : Heard → CallBook → CallBook
hear_as (Settles f count) h = record h { calls = with_fates false f count h.calls }
hear_as (GivesUp f count) h = record h { calls = with_fates true f count h.calls; happenings = told_given_up f h.ports h.happenings }
hear_as (Accepts f) h = if is_some (kind_in f.to_port h.ports) then record h { unread = with_flow f h.unread } else h
hear_as NoMatter h = h

abbrev pub hear : CallBook → Told → CallBook
hear h told = hear_as (heard told) h

abbrev pub hear_all : List Told → CallBook → CallBook
hear_all told h = fold hear h told
