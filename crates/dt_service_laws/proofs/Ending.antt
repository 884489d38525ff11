-- The end of a turn, as moves: what is unread is read, and then calls are judged.
use Rattle.std.proofs.Common.{ℕ, zero, suc, ◌+◌, ◌≡◌, Bool, true, false, List, [], ◌∷◌, length, Option, None, refl, ap, sym, subst, ◌∙◌}
use Rattle.std.specs.Prelude.{All, cond, fold, not, ◌&&◌, ◌||◌, ◌==◌}
use Rattle.std.proofs.lemmas.Bool.{and_parts}
use Rattle.std.proofs.lemmas.List.Elements.{All-head, All-tail}
use Rattle.std.proofs.Math.Seq.{take-length}
use Rattle.dt_items.specs.declared.item.Item.{Item}
use Rattle.dt_items.specs.Unread.{last_item, octets_of, piece_told}
use Rattle.dt_units.specs.declared.endpoints.Flow.{Flow}
use Rattle.dt_units.specs.Flows.{IsFlow}
use Rattle.dt_world_model.specs.Station.{Read}
use Rattle.dt_world_model.specs.Tables.{same_flow}
use Rattle.dt_world_model.specs.WorldStep.{first_refusal}
use Rattle.dt_calls_model.specs.Messages.{Piece}
use Rattle.dt_endpoint.specs.declared.answers.Delivered.{Delivered as Answer}
use Rattle.dt_endpoint.specs.declared.answers.Delivered.TheVariants as answer
use Rattle.dt_endpoint.specs.Acts.{acts_of, frames_in}
use Rattle.dt_endpoint.specs.Calls.{ReadDoes, Unless, read_answer}
use Rattle.dt_endpoint.specs.Endpoints.{after_event, moment_of, script_of}
use Rattle.dt_network.specs.Duties.{KeepsTime}
use Rattle.dt_network.specs.Network.{Network, Setup, clock_of}
use Rattle.dt_network.specs.Octets.{read_if as items_if}
use Rattle.dt_network.specs.Steps.{CallRead, Step}
use Rattle.dt_service_model.specs.Ends.{judge}
use Rattle.dt_service_model.specs.CallBook.{may_read}
use Rattle.dt_service_model.specs.Turns.{Node, comes_in, done_with, happens, most_read, most_reads, piece_at, piece_with, read_flow, read_times, reads as reads_all, sweep, take_read, turn_end, with_book}
use Rattle.dt_service_model.specs.Whole.{take_piece}
use Rattle.dt_service_laws.proofs.Moves.{IsLater, MayCall, Moves, calls, changes, reads, rests}
use Rattle.dt_service_laws.proofs.Quiet.{done_quiet, judge_quiet, sweep_quiet}

pub not_true : (b : Bool) → not b ≡ true → b ≡ false
not_true true h = absurd cc
not_true false h = refl

pub none_refused : (s t : Bool) → s ≡ false → t ≡ false → first_refusal {F = Answer} ((s, answer.Spent) ∷ (t, answer.BadFlow) ∷ (most_read == 0, answer.NoRoom) ∷ []) ≡ None
none_refused true t h k = absurd cc
none_refused false true h k = absurd cc
none_refused false false h k = refl

pub none_read : (b : Bool) → items_if b [] ≡ []
none_read true = refl
none_read false = refl

pub time_later : (setup : Setup) (n : ℕ) (base : Network) (now : ℕ) → KeepsTime setup base n now → (m : Network) → IsLater base m → KeepsTime setup m n now
time_later setup n base now time m later = record { clock = time.clock ∙ ap (λ (k : ℕ). k + clock_of setup n) (sym later.now); most = time.most }

module _ (setup : Setup) (n : ℕ) (base : Network) where
  -- MOVES that leave an endpoint that goes on
  pub record Goes (x y : Node) : Type 0 where
    pub steps : List Step
    pub moves : Moves setup n base x steps y
    pub unspent : y.endpoint.spent ≡ false

  pub goes_nowhere : (x : Node) → x.endpoint.spent ≡ false → Goes x x
  goes_nowhere x unspent = record { steps = []; moves = rests; unspent = unspent }

  moves_then : (x y z : Node) (steps : List Step) → Moves setup n base x steps y → Goes y z → Goes x z
  moves_then x y z steps rests k = k
  moves_then x y z steps (changes {x = u} {y = v} {steps = ss} h quiet more) k =
      let r = moves_then (record u { book = h }) v z ss more k in record { steps = r.steps; moves = changes h quiet r.moves; unspent = r.unspent }
  moves_then x y z steps (calls {x = u} {y = v} {steps = ss} call f may none taken more) k =
      let r = moves_then _ v z ss more k in record { steps = _; moves = calls call f may none taken r.moves; unspent = r.unspent }
  moves_then x y z steps (reads {x = u} {y = v} {steps = ss} now g p o os f comes some may more) k =
      let r = moves_then _ v z ss more k in record { steps = _; moves = reads now g p o os f comes some may r.moves; unspent = r.unspent }

  pub goes_then : (x y z : Node) → Goes x y → Goes y z → Goes x z
  goes_then x y z h k = moves_then x y z h.steps h.moves k

  module _ (now : ℕ) (time : KeepsTime setup base n now) where
    module _ (f : Flow) (flow : IsFlow f) where
      pub may_read_with : (x : Node) (items : List Item) (a : Answer) (buf : List ℕ) → x.endpoint.spent ≡ false → comes_in x f ≡ true → read_answer now f most_read x.endpoint ≡ items
          → ReadDoes a now items (Read f most_read) buf x.endpoint (after_event now (Read f most_read) x.endpoint)
          → MayCall setup n base (CallRead now f most_read buf a) x.endpoint (after_event now (Read f most_read) x.endpoint)
      may_read_with x items a buf unspent comes is does = record {
        does = (
          flow,
          subst (λ (o : Option Answer). Unless o a x.endpoint (after_event now (Read f most_read) x.endpoint) (ReadDoes a now (read_answer now f most_read x.endpoint) (Read f most_read) buf x.endpoint (after_event now (Read f most_read) x.endpoint)))
              (sym (none_refused x.endpoint.spent (not (f.to.0 == x.endpoint.state.host.me) || (f.from.0 == x.endpoint.state.host.me)) unspent (not_true _ comes)))
              (subst (λ (is : List Item). ReadDoes a now is (Read f most_read) buf x.endpoint (after_event now (Read f most_read) x.endpoint)) (sym is) does),
        );
        keeps = time_later setup n base now time;
        frames = frames_in (acts_of (script_of now (Read f most_read) x.endpoint));
        appended = refl;
        unspent = refl;
      }

      by_items : (again : Node → Node) → ((y : Node) → y.endpoint.spent ≡ false → Goes y (again y)) → (x : Node) → x.endpoint.spent ≡ false → comes_in x f ≡ true → (items : List Item) → read_answer now f most_read x.endpoint ≡ items
          → Goes x (take_read again f (piece_with (octets_of items) (piece_told items)) (happens now (Read f most_read) x))
      by_items again more x unspent comes [] is =
          let y = happens now (Read f most_read) x in
          record {
            steps = _;
            moves = calls (CallRead now f most_read [] answer.Nothing) (after_event now (Read f most_read) x.endpoint) (may_read_with x [] answer.Nothing [] unspent comes is (refl, refl, refl)) (λ g. none_read (same_flow f g)) (λ g taken h. h)
                (changes (done_with f y.book) (done_quiet f y.book) rests);
            unspent = refl;
          }
      by_items again more x unspent comes (i ∷ items) is =
          let p : Piece = record { run = i.run; begin = i.begin; end = (last_item i items).end; octets = octets_of (i ∷ items) } in
          let r = more (with_book (take_piece f p) (happens now (Read f most_read) x)) refl in
          record {
            steps = _;
            moves = reads now f p i.octet (octets_of items) (after_event now (Read f most_read) x.endpoint) comes refl
                (may_read_with x (i ∷ items) (answer.Read (length p.octets) p.run p.begin p.end) p.octets unspent comes is (refl, take-length p.octets, refl))
                r.moves;
            unspent = r.unspent;
          }

      by_test : (again : Node → Node) → ((y : Node) → y.endpoint.spent ≡ false → Goes y (again y)) → (x : Node) → x.endpoint.spent ≡ false → (b : Bool) → (comes_in x f && may_read f x.book) ≡ b
          → Goes x (cond b (take_read again f (piece_at now f x.endpoint) (happens now (Read f most_read) x)) x)
      by_test again more x unspent true is = by_items again more x unspent (and_parts (comes_in x f) (may_read f x.book) is).0 (read_answer now f most_read x.endpoint) refl
      by_test again more x unspent false is = goes_nowhere x unspent

      pub times : (most : ℕ) (x : Node) → x.endpoint.spent ≡ false → Goes x (read_times most now f x)
      times zero x unspent = goes_nowhere x unspent
      times (suc most) x unspent = by_test (read_times most now f) (λ y on. times most y on) x unspent (comes_in x f && may_read f x.book) refl

    pub flows : (fs : List Flow) → All IsFlow fs → (x : Node) → x.endpoint.spent ≡ false → Goes x (fold (read_flow now) x fs)
    flows [] all x unspent = goes_nowhere x unspent
    flows (f ∷ fs) all x unspent =
        let first = times f (All-head IsFlow f fs all) most_reads x unspent in
        goes_then x (read_flow now x f) (fold (read_flow now) (read_flow now x f) fs) first (flows fs (All-tail IsFlow f fs all) (read_flow now x f) first.unspent)

    -- THE END OF A TURN
    pub end_goes : (x : Node) → All IsFlow x.book.unread → x.endpoint.spent ≡ false → Goes x (turn_end now x)
    end_goes x all unspent =
        let read = reads_all now x in
        let r = flows x.book.unread all x unspent in
        let swept = sweep read.endpoint.state.host read.book in
        goes_then x read (turn_end now x) r (record { steps = []; moves = changes swept (sweep_quiet read.endpoint.state.host read.book) (changes (judge (moment_of now read.endpoint) swept) (judge_quiet (moment_of now read.endpoint) swept) rests); unspent = r.unspent })
