-- A turn that found no memory comes to calls of its endpoint: those of a first part of it, and at the end one that broke off or isn't wholly heard.
use Rattle.std.proofs.Common.{ℕ, zero, suc, ◌≡◌, ◌==◌, Bool, true, false, List, [], ◌∷◌, ◌++◌, drop, length, take, Option, refl, ap, sym, subst}
use Rattle.std.specs.Prelude.{All, fold, not, ◌||◌}
use Rattle.std.proofs.Math.Seq.{drop-length, take-length}
use Rattle.std.proofs.lemmas.Bool.{and_parts}
use Rattle.std.proofs.lemmas.List.Elements.{All-cons, All-head, All-nil, All-tail}
use Rattle.dt_items.specs.declared.item.Item.{Item}
use Rattle.dt_items.specs.Unread.{last_item, octets_of}
use Rattle.dt_reports.specs.Told.{Told}
use Rattle.dt_units.specs.declared.endpoints.Flow.{Flow}
use Rattle.dt_units.specs.Flows.{IsFlow}
use Rattle.dt_world_model.specs.Station.{Read}
use Rattle.dt_calls_model.specs.Messages.{Piece}
use Rattle.dt_endpoint.specs.declared.answers.Delivered.{Delivered as Answer}
use Rattle.dt_endpoint.specs.declared.answers.Delivered.TheVariants as answer
use Rattle.dt_endpoint.specs.Acts.{acts_of, frames_in}
use Rattle.dt_endpoint.specs.Calls.{ReadDoes, Unless, read_answer}
use Rattle.dt_endpoint.specs.Endpoints.{Breaks, EndpointValue, after_event, script_of}
use Rattle.dt_network.specs.Duties.{KeepsTime}
use Rattle.dt_network.specs.Network.{Network, Setup}
use Rattle.dt_network.specs.Octets.{Takes, items_read, read_by, read_if}
use Rattle.dt_network.specs.Steps.{Call, CallRead, Calls, Step}
use Rattle.dt_service_model.specs.declared.call_counts.CallCounts.{CallCounts}
use Rattle.dt_service_model.specs.Ends.{close}
use Rattle.dt_service_model.specs.CallBook.{CallBook, may_read}
use Rattle.dt_service_model.specs.Hearing.{hear_all}
use Rattle.dt_service_model.specs.Stopping.{EndStops, EventStops, ReadStops, at_flow, at_judging, at_piece, breaks_off, heard_in_part, hears_part, in_read, not_begun, not_read}
use Rattle.dt_service_model.specs.Turns.{Node, comes_in, happens, hears, most_read, read_flow, read_times, reads as reads_all, sweep, with_book}
use Rattle.dt_service_laws.proofs.Elsewhere.{IsLawful, not_here}
use Rattle.dt_service_laws.proofs.Ending.{Goes, flows, goes_then, may_read_with, none_refused, not_true, time_later, times}
use Rattle.dt_service_laws.proofs.Moves.{IsQuiet, MayCall, changes, rests}
use Rattle.dt_service_laws.proofs.Quiet.{all_heard_quiet, close_quiet, quiet_same, quiet_then, sweep_quiet}
use Rattle.dt_service_laws.proofs.Runs.{IsAt}
use Rattle.dt_service_laws.proofs.Ways.{AreNone, CanCall, Way, last_way, moves_way, pulled, way_then}

drop_one : {A : Type 0} (k : ℕ) (xs : List A) → drop (suc k) xs ≡ drop 1 (drop k xs)
drop_one zero xs = refl
drop_one (suc k) [] = refl
drop_one (suc k) (x ∷ xs) = drop_one k xs

all_parts : {A : Type 0} (P : A → Type 0) (xs : List A) (x : A) (ys : List A) → All P (xs ++ x ∷ ys) → All P xs × P x
all_parts P [] x ys all = (All-nil P, All-head P x ys all)
all_parts P (z ∷ xs) x ys all =
    let more = all_parts P xs x ys (All-tail P z (xs ++ x ∷ ys) all) in
    (All-cons P z xs (All-head P z (xs ++ x ∷ ys) all) more.0, more.1)

-- what was begun and counted is no matter once the node is closed
lost_quiet : (h : CallBook) (begun : List (Flow × List ℕ)) (counts : CallCounts) → IsQuiet h (close (record h { begun = begun; counts = counts }))
lost_quiet h begun counts = quiet_then h (close h) (close (record h { begun = begun; counts = counts })) (close_quiet h) (quiet_same (close h) (close (record h { begun = begun; counts = counts })) refl (λ c. c) refl refl refl refl refl refl)

module _ (setup : Setup) (Good : Network → Type 0) (law : IsLawful setup Good) (n : ℕ) (base : Network) where
  pub record Stop (Posts : Flow → List Item → Type 0) (x y : Node) : Type 0 where
    pub steps : List Step
    pub way : Way setup Good law n base Posts x steps y

  stop_there : (Posts : Flow → List Item → Type 0) (x y z : Node) → z ≡ y → Stop Posts x (with_book close y) → Stop Posts x (with_book close z)
  stop_there Posts x y z is stop = subst (λ (k : Node). Stop Posts x (with_book close k)) (sym is) stop

  -- at once
  pub stop_here : (x : Node) → x.endpoint.spent ≡ false → Stop AreNone x (with_book close x)
  stop_here x unspent = record { steps = []; way = moves_way setup Good law n base x (with_book close x) [] (changes (close x.book) (close_quiet x.book) rests) unspent }

  -- after moves
  stop_then : (x y z : Node) → x.endpoint.spent ≡ false → Goes setup n base x y → Stop AreNone y z → Stop AreNone x z
  stop_then x y z unspent g s = record { steps = g.steps ++ s.steps; way = way_then setup Good law n base AreNone x y z g.steps s.steps (moves_way setup Good law n base x y g.steps g.moves unspent) s.way }

  pub can_of : (call : Call) (e f : EndpointValue) → MayCall setup n base call e f → CanCall setup Good law n base call e f
  can_of call e f may = record { does = may.does; keeps = may.keeps; frames = may.frames; appended = may.appended }

  -- A CALL of which this is taken, and of which nothing is read elsewhere
  pub record LastCall (Posts : Flow → List Item → Type 0) (call : Call) (x : Node) (f : EndpointValue) : Type 0 where
    pub can : CanCall setup Good law n base call x.endpoint f
    pub takes : (g : Flow) (taken : List Item) → Takes g call taken → Posts g taken
    pub reads : (g : Flow) → (n == g.to.0) ≡ false → (m : Network) → IsAt n m x.endpoint → Good m → read_by g call ≡ []

  -- it broke off
  pub broke_stop : (Posts : Flow → List Item → Type 0) (call : Call) (x : Node) (f : EndpointValue) → LastCall Posts call x f → Stop Posts x (with_book close (record x { endpoint = f }))
  broke_stop Posts call x f last = record { steps = Calls n call f ∷ pulled n 0 f f.reports; way = last_way setup Good law n base Posts x call f 0 (close x.book) last.can (close_quiet x.book) refl last.takes last.reads }

  -- it was done, and a first part of its reports was heard
  pub heard_stop : (Posts : Flow → List Item → Type 0) (call : Call) (x : Node) (f : EndpointValue) (count : ℕ) → LastCall Posts call x f → Stop Posts x (with_book close (heard_in_part count (record x { endpoint = f })))
  heard_stop Posts call x f count last =
      let h = close (hear_all (take count f.reports) x.book) in
      let way = last_way setup Good law n base Posts x call f (suc count) h last.can (quiet_then x.book (hear_all (take count f.reports) x.book) h (all_heard_quiet (take count f.reports) x.book) (close_quiet (hear_all (take count f.reports) x.book))) refl last.takes last.reads in
      record { steps = Calls n call f ∷ pulled n (suc count) f f.reports; way = subst (λ (rs : List Told). Way setup Good law n base Posts x (Calls n call f ∷ pulled n (suc count) f f.reports) (record { endpoint = record f { reports = rs }; book = h })) (drop_one count f.reports) way }

  -- all of them were heard, and what it read is lost
  pub lost_stop : (Posts : Flow → List Item → Type 0) (call : Call) (x : Node) (f : EndpointValue) (begun : List (Flow × List ℕ)) (counts : CallCounts) → LastCall Posts call x f → Stop Posts x (with_book close (with_book (λ h. record h { begun = begun; counts = counts }) (hears (record x { endpoint = f }))))
  lost_stop Posts call x f begun counts last =
      let heard = hear_all f.reports x.book in
      let h = close (record heard { begun = begun; counts = counts }) in
      let way = last_way setup Good law n base Posts x call f (length f.reports) h last.can (quiet_then x.book heard h (all_heard_quiet f.reports x.book) (lost_quiet heard begun counts)) refl last.takes last.reads in
      record { steps = Calls n call f ∷ pulled n (length f.reports) f f.reports; way = subst (λ (rs : List Told). Way setup Good law n base Posts x (Calls n call f ∷ pulled n (length f.reports) f f.reports) (record { endpoint = record f { reports = rs }; book = h })) (drop-length f.reports) way }

  -- A READ
  module _ (now : ℕ) (time : KeepsTime setup base n now) where
    module _ (f : Flow) (flow : IsFlow f) (x : Node) (unspent : x.endpoint.spent ≡ false) (comes : comes_in x f ≡ true) where
      reads_here : (buf : List ℕ) (a : Answer) → (g : Flow) → (n == g.to.0) ≡ false → (m : Network) → IsAt n m x.endpoint → Good m → read_by g (CallRead now f most_read buf a) ≡ []
      reads_here buf a g other m there good = ap (λ (t : Bool). read_if t (items_read a buf)) (not_here setup Good law n base g other x f m good there unspent comes)

      record ReadCall : Type 0 where
        buf : List ℕ
        found : Answer
        last : LastCall AreNone (CallRead now f most_read buf found) x (after_event now (Read f most_read) x.endpoint)

      last_read : (buf : List ℕ) (a : Answer) (e : EndpointValue) → CanCall setup Good law n base (CallRead now f most_read buf a) x.endpoint e → LastCall AreNone (CallRead now f most_read buf a) x e
      last_read buf a e can = record { can = can; takes = λ g taken t. t; reads = reads_here buf a }

      read_by_items : (items : List Item) → read_answer now f most_read x.endpoint ≡ items → ReadCall
      read_by_items [] is = record {
        buf = [];
        found = answer.Nothing;
        last = last_read [] answer.Nothing (after_event now (Read f most_read) x.endpoint) (can_of (CallRead now f most_read [] answer.Nothing) x.endpoint (after_event now (Read f most_read) x.endpoint) (may_read_with setup n base now time f flow x [] answer.Nothing [] unspent comes is (refl, refl, refl)));
      }
      read_by_items (i ∷ items) is =
          let p : Piece = record { run = i.run; begin = i.begin; end = (last_item i items).end; octets = octets_of (i ∷ items) } in
          let a = answer.Read (length p.octets) p.run p.begin p.end in
          record { buf = p.octets; found = a; last = last_read p.octets a (after_event now (Read f most_read) x.endpoint) (can_of (CallRead now f most_read p.octets a) x.endpoint (after_event now (Read f most_read) x.endpoint) (may_read_with setup n base now time f flow x (i ∷ items) a p.octets unspent comes is (refl, take-length p.octets, refl))) }

      read_call : ReadCall
      read_call = read_by_items (read_answer now f most_read x.endpoint) refl

      broken_read : (e : EndpointValue) → Breaks now (Read f most_read) x.endpoint e → LastCall AreNone (CallRead now f most_read [] answer.NoMemory) x e
      broken_read e b = last_read [] answer.NoMemory e (record {
        does = (flow, subst (λ (o : Option Answer). Unless o answer.NoMemory x.endpoint e (ReadDoes answer.NoMemory now (read_answer now f most_read x.endpoint) (Read f most_read) [] x.endpoint e)) (sym (none_refused x.endpoint.spent (not (f.to.0 == x.endpoint.state.host.me) || (f.from.0 == x.endpoint.state.host.me)) unspent (not_true _ comes))) b);
        keeps = time_later setup n base now time;
        frames = frames_in (take b.count (acts_of (script_of now (Read f most_read) x.endpoint)));
        appended = b.frames;
      })

      event_of_read : (st : Node) → EventStops now (Read f most_read) x st → Stop AreNone x (with_book close st)
      event_of_read st (breaks_off e b is) = stop_there AreNone x (record x { endpoint = e }) st is (broke_stop AreNone (CallRead now f most_read [] answer.NoMemory) x e (broken_read e b))
      event_of_read st (hears_part count is) =
          let r = read_call in
          stop_there AreNone x (heard_in_part count (record x { endpoint = after_event now (Read f most_read) x.endpoint })) st is (heard_stop AreNone (CallRead now f most_read r.buf r.found) x (after_event now (Read f most_read) x.endpoint) count r.last)

      piece_of_read : (st : Node) (begun : List (Flow × List ℕ)) (counts : CallCounts) → st ≡ with_book (λ h. record h { begun = begun; counts = counts }) (happens now (Read f most_read) x) → Stop AreNone x (with_book close st)
      piece_of_read st begun counts is =
          let r = read_call in
          stop_there AreNone x (with_book (λ h. record h { begun = begun; counts = counts }) (happens now (Read f most_read) x)) st is (lost_stop AreNone (CallRead now f most_read r.buf r.found) x (after_event now (Read f most_read) x.endpoint) begun counts r.last)

    read_stopped : (f : Flow) → IsFlow f → (x st : Node) → x.endpoint.spent ≡ false → ReadStops now f x st → Stop AreNone x (with_book close st)
    read_stopped f flow x st unspent (not_read is) = stop_there AreNone x x st is (stop_here x unspent)
    read_stopped f flow x st unspent (in_read may stops) = event_of_read f flow x unspent (and_parts (comes_in x f) (may_read f x.book) may).0 st stops
    read_stopped f flow x st unspent (at_piece may begun counts is) = piece_of_read f flow x unspent (and_parts (comes_in x f) (may_read f x.book) may).0 st begun counts is

    -- THE END OF A TURN
    pub end_stopped : (x st : Node) → All IsFlow x.book.unread → x.endpoint.spent ≡ false → EndStops now x st → Stop AreNone x (with_book close st)
    end_stopped x st all unspent (not_begun is) = stop_there AreNone x x st is (stop_here x unspent)
    end_stopped x st all unspent (at_flow done left f count is stops) =
        let parts = all_parts IsFlow done f left (subst (All IsFlow) is all) in
        let y = fold (read_flow now) x done in
        let z = read_times count now f y in
        let first = flows setup n base now time done parts.0 x unspent in
        let second = times setup n base now time f parts.1 count y first.unspent in
        let both = goes_then setup n base x y z first second in
        stop_then x z (with_book close st) unspent both (read_stopped f parts.1 z st second.unspent stops)
    end_stopped x st all unspent (at_judging is) =
        let read = reads_all now x in
        let r = flows setup n base now time x.book.unread all x unspent in
        let swept = sweep read.endpoint.state.host read.book in
        let z : Node = record read { book = swept } in
        let more : Goes setup n base read z = record { steps = []; moves = changes swept (sweep_quiet read.endpoint.state.host read.book) rests; unspent = r.unspent } in
        stop_there AreNone x z st is (stop_then x z (with_book close z) unspent (goes_then setup n base x read z r more) (stop_here z r.unspent))
