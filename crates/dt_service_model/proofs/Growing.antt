-- The end of a turn tells more and forgets nothing that was told, and closes no node.
use Rattle.std.proofs.Common.{ℕ, ◌≡◌, Bool, true, false, List, [], ◌∷◌, ◌++◌, Option, Some, None, refl, ap, sym, subst, ◌∙◌, append-nil, append_assoc}
use Rattle.std.specs.Prelude.{All, cond, filter_map, fold, is_some, take}
use Rattle.std.specs.List.{list_any, position}
use Rattle.std.proofs.lemmas.List.Elements.{All-append, All-cons, All-nil}
use Rattle.dt_units.specs.declared.endpoints.Flow.{Flow}
use Rattle.dt_reports.specs.Told.{Told}
use Rattle.dt_world_model.specs.Station.{Event, Read}
use Rattle.dt_calls_model.specs.Messages.{Piece, carried_in, has_number, number_in, reversed}
use Rattle.dt_messages.specs.Joining.{whole_within}
use Rattle.dt_endpoint.specs.Endpoints.{after_event, moment_of}
use Rattle.dt_service_model.specs.declared.calls.OpenCall.{OpenCall}
use Rattle.dt_service_model.specs.declared.happenings.Happening.{Happening}
use Rattle.dt_service_model.specs.declared.happenings.Happening.TheVariants.{Answered, ReplyUncertain, Request, Unsure}
use Rattle.dt_service_model.specs.declared.names.CallNumber.{CallNumber}
use Rattle.dt_service_model.specs.declared.names.Token.{Token}
use Rattle.dt_service_model.specs.declared.ports.PortKind.{PortKind}
use Rattle.dt_service_model.specs.declared.ports.PortKind.TheVariants.{Caller, Service}
use Rattle.dt_service_model.specs.Ends.{judge, unsure_of}
use Rattle.dt_service_model.specs.CallBook.{CallBook, counted_up, is_service, kind_in, longest_message}
use Rattle.dt_service_model.specs.Hearing.{Accepts, GivesUp, Heard, NoMatter, Settles, hear, hear_as, heard, is_uncertain, with_fates, with_flow}
use Rattle.dt_service_model.specs.Names.{from_u64, token_with}
use Rattle.dt_service_model.specs.Stopping.{EventStops, breaks_off, hears_part}
use Rattle.dt_service_model.specs.Turns.{Node, happens, most_read, turn_end}
use Rattle.dt_service_model.specs.Whole.{begun_of, grown, is_open, is_waiting_call, take_as, take_piece, take_reply_at, take_whole, without_token}
use Rattle.dt_service_model.proofs.Halting.{Any, IsKeptToStop}
use Rattle.dt_service_model.proofs.Walking.{IsKept, read_through, reads_kept}

pub record Grows (h k : CallBook) : Type 0 where
  pub closed : k.closed ≡ h.closed
  pub told : List Happening
  pub happenings : k.happenings ≡ h.happenings ++ told

pub grows_same : (h k : CallBook) → k.closed ≡ h.closed → k.happenings ≡ h.happenings → Grows h k
grows_same h k closed same = record { closed = closed; told = []; happenings = same ∙ sym (append-nil h.happenings) }

unfoldable pub grows_through : (h k l : CallBook) → Grows h k → Grows k l → Grows h l
grows_through h k l p q = record {
  closed = q.closed ∙ p.closed;
  told = p.told ++ q.told;
  happenings = q.happenings ∙ ap (λ (hs : List Happening). hs ++ q.told) p.happenings ∙ append_assoc h.happenings p.told q.told;
}

-- up to its end a turn tells of no call that it is unsure
abbrev pub NotUnsure : Happening → Type 0
NotUnsure (Request token payload) = Unit {0}
NotUnsure (Answered number answer) = Unit {0}
NotUnsure (Unsure number cause) = ⊥
NotUnsure (ReplyUncertain flow) = Unit {0}

pub record Tells (h k : CallBook) : Type 0 where
  pub grows : Grows h k
  pub sure : All NotUnsure grows.told

pub tells_same : (h k : CallBook) → k.closed ≡ h.closed → k.happenings ≡ h.happenings → Tells h k
tells_same h k closed same = record { grows = record { closed = closed; told = []; happenings = same ∙ sym (append-nil h.happenings) }; sure = All-nil NotUnsure }

pub tells_through : (h k l : CallBook) → Tells h k → Tells k l → Tells h l
unfolding grows_through
tells_through h k l p q = record { grows = grows_through h k l p.grows q.grows; sure = All-append NotUnsure p.grows.told q.grows.told p.sure q.sure }

tells_one : (h k : CallBook) (happening : Happening) → k.closed ≡ h.closed → k.happenings ≡ h.happenings ++ happening ∷ [] → NotUnsure happening → Tells h k
tells_one h k happening closed same sure = record { grows = record { closed = closed; told = happening ∷ []; happenings = same }; sure = All-cons NotUnsure happening [] sure (All-nil NotUnsure) }

-- WHAT IS HEARD
accepts_tells : (b : Bool) (f : Flow) (h : CallBook) → Tells h (cond b (record h { unread = with_flow f h.unread }) h)
accepts_tells true f h = tells_same h (record h { unread = with_flow f h.unread }) refl refl
accepts_tells false f h = tells_same h h refl refl

given_up_tells : (b c : Bool) (f : Flow) (calls : List OpenCall) (h : CallBook) → Tells h (record h { calls = calls; happenings = cond b (cond c h.happenings (h.happenings ++ ReplyUncertain f ∷ [])) h.happenings })
given_up_tells true true f calls h = tells_same h _ refl refl
given_up_tells true false f calls h = tells_one h _ (ReplyUncertain f) refl refl tt
given_up_tells false c f calls h = tells_same h _ refl refl

hear_tells : (what : Heard) (h : CallBook) → Tells h (hear_as what h)
hear_tells (Settles f count) h = tells_same h (hear_as (Settles f count) h) refl refl
hear_tells (GivesUp f count) h = given_up_tells (is_service (kind_in f.from_port h.ports)) (list_any (is_uncertain (reversed f)) h.happenings) (reversed f) (with_fates true f count h.calls) h
hear_tells (Accepts f) h = accepts_tells (is_some (kind_in f.to_port h.ports)) f h
hear_tells NoMatter h = tells_same h h refl refl

pub all_hear_tells : (told : List Told) (h : CallBook) → Tells h (fold hear h told)
all_hear_tells [] h = tells_same h h refl refl
all_hear_tells (r ∷ told) h = tells_through h (hear h r) (fold hear (hear h r) told) (hear_tells (heard r) h) (all_hear_tells told (hear h r))

pub happens_tells : (now : ℕ) (event : Event (Unit {0})) (x : Node) → Tells x.book (happens now event x).book
happens_tells now event x = all_hear_tells (after_event now event x.endpoint).reports x.book

-- A MESSAGE
reply_tells : (o : Option ℕ) (n : CallNumber) (answer : List ℕ) (h : CallBook) → Tells h (take_reply_at o n answer h)
reply_tells None n answer h = tells_same h (take_reply_at None n answer h) refl refl
reply_tells (Some place) n answer h = tells_one h (take_reply_at (Some place) n answer h) (Answered n answer) refl refl tt

request_tells : (b : Bool) (token : Token) (payload : List ℕ) (h : CallBook)
    → Tells h (cond b (record h { tokens = without_token token h.tokens; counts = record (h.counts) { reused = counted_up h.counts.reused } }) (record h { tokens = h.tokens ++ token ∷ []; happenings = h.happenings ++ Request token payload ∷ [] }))
request_tells true token payload h = tells_same h _ refl refl
request_tells false token payload h = tells_one h _ (Request token payload) refl refl tt

as_tells : (kind : Option PortKind) (f : Flow) (n : CallNumber) (carried : List ℕ) (h : CallBook) → Tells h (take_as kind f n carried h)
as_tells None f n carried h = tells_same h h refl refl
as_tells (Some Caller) f n carried h = reply_tells (position (is_waiting_call (reversed f) n) h.calls) n carried h
as_tells (Some Service) f n carried h = request_tells (is_open (token_with f n) h) (token_with f n) carried h

message_tells : (b : Bool) (f : Flow) (n : CallNumber) (carried : List ℕ) (h : CallBook) → Tells h (cond b (take_as (kind_in f.to_port h.ports) f n carried h) (record h { counts = record (h.counts) { short = counted_up h.counts.short } }))
message_tells true f n carried h = as_tells (kind_in f.to_port h.ports) f n carried h
message_tells false f n carried h = tells_same h _ refl refl

whole_tells : (f : Flow) (o : Option (List ℕ)) (h : CallBook) → Tells h (take_whole f o h)
whole_tells f None h = tells_same h h refl refl
whole_tells f (Some m) h = message_tells (has_number m) f (from_u64 (number_in m)) (carried_in m) h

pub piece_tells : (f : Flow) (p : Piece) (h : CallBook) → Tells h (take_piece f p h)
piece_tells f p h =
    let g = grown f (begun_of f h) p h in
    tells_through h g (take_piece f p h) (tells_same h g refl refl) (whole_tells f (whole_within (Some longest_message) (begun_of f h) p) g)

-- THE END OF A TURN
tells_kept : (now : ℕ) → IsKept now (λ (x y : Node). Tells x.book y.book)
tells_kept now = record {
  itself = λ x. tells_same x.book x.book refl refl;
  through = λ x y z. tells_through x.book y.book z.book;
  hears = λ f x. happens_tells now (Read f most_read) x;
  done = λ f x. tells_same x.book _ refl refl;
  takes = λ f p x. piece_tells f p x.book;
  swept = λ x. tells_same x.book _ refl refl;
}

unfoldable pub judge_grows : (now : ℕ) (h : CallBook) → Grows h (judge now h)
judge_grows now h = record { closed = refl; told = filter_map (unsure_of now) h.calls; happenings = refl }

pub end_grows : (now : ℕ) (x : Node) → Grows x.book (turn_end now x).book
end_grows now x =
    let y = read_through now x in
    grows_through x.book y.book (turn_end now x).book (reads_kept now (λ (u v : Node). Tells u.book v.book) (tells_kept now) x).grows (judge_grows (moment_of now y.endpoint) y.book)

-- WHERE A TURN STOPS for want of memory
event_tells : (now : ℕ) (event : Event (Unit {0})) (x st : Node) → EventStops now event x st → Tells x.book st.book
event_tells now event x st (breaks_off e b is) = subst (λ (y : Node). Tells x.book y.book) (sym is) (tells_same x.book x.book refl refl)
event_tells now event x st (hears_part count is) = subst (λ (y : Node). Tells x.book y.book) (sym is) (all_hear_tells (take count (after_event now event x.endpoint).reports) x.book)

pub tells_stopped : IsKeptToStop (λ (x y : Node). Tells x.book y.book) Any
tells_stopped = record {
  kept = tells_kept;
  reads = λ now f x. tt;
  hears = λ now event x may. happens_tells now event x;
  stops = λ now event x st may stops. event_tells now event x st stops;
  lost = λ begun counts x. tells_same x.book _ refl refl;
}
