-- What is done at a node are steps of its network, of which it is known what they take and read.
use Rattle.std.proofs.Common.{ℕ, ◌+◌, ◌≤◌, ◌≡◌, ◌⊎◌, ◌==◌, true, false, inl, List, [], ◌∷◌, ◌++◌, drop, length, map, Option, refl, ap, sym, subst, ◌∙◌, append-nil, append_assoc, arith}
use Rattle.std.specs.Prelude.{All, Contains, drop, fold}
use Rattle.std.proofs.Math.Seq.{drop-append_seam, drop-length}
use Rattle.dt_items.specs.declared.item.Item.{Item}
use Rattle.dt_units.specs.declared.endpoints.Flow.{Flow}
use Rattle.dt_units.specs.Flows.{IsFlow}
use Rattle.dt_endpoint.specs.Endpoints.{EndpointValue}
use Rattle.dt_network.specs.Duties.{KeepsDuties, KeepsTime}
use Rattle.dt_network.specs.Network.{Network, Setup}
use Rattle.dt_network.specs.Octets.{AreTaken, Takes, all_read, read_by}
use Rattle.dt_network.specs.Steps.{AreSteps, Call, Calls, PullFrame, Step, network_after, network_by}
use Rattle.dt_service_model.specs.declared.happenings.Happening.{Happening}
use Rattle.dt_service_model.specs.CallBook.{CallBook}
use Rattle.dt_service_model.specs.Hearing.{hear}
use Rattle.dt_service_model.specs.Turns.{Node, hears, turn_end}
use Rattle.dt_service_model.specs.declared.names.Token.{Token}
use Rattle.dt_service_laws.specs.Histories.{Message, answer_in, count_of, each_of, request_in}
use Rattle.dt_service_laws.specs.Orders.{AreSomeOf, none}
use Rattle.dt_service_laws.specs.Services.{told_between}
use Rattle.dt_service_laws.specs.Wholes.{begun_after, messages_from}
use Rattle.dt_service_laws.proofs.Answering.{IsOther, not_in_none, unsure_answers}
use Rattle.dt_service_laws.proofs.Elsewhere.{IsLawful, behind}
use Rattle.dt_service_laws.proofs.Ending.{end_goes}
use Rattle.dt_service_laws.proofs.Moves.{AreKeptFrom, IsLater, IsQuiet, MayCall, Tracks, open_count, pulls}
use Rattle.dt_service_laws.proofs.Quiet.{all_heard_quiet, kept_itself}
use Rattle.dt_service_laws.proofs.Runs.{IsAt, Runs, heard_calls, no_steps, one_put}
use Rattle.dt_service_laws.proofs.Sending.{Takings, behind_takes, takes_first, takes_nothing}
use Rattle.dt_service_laws.proofs.Telling.{Tells, behind_read, each_append, quiet_tells, said, tells_then, unsure_requests}
use Rattle.dt_service_laws.proofs.Ways.{AreNone, Way, moves_way}

-- A NODE GOES ON, or it was closed
abbrev pub IsOn : Node → Type 0
IsOn x = (x.endpoint.spent ≡ false) ⊎ (x.book.closed ≡ true)

module _ (setup : Setup) (n : ℕ) where
  -- A NODE REACHES ANOTHER by steps of its network; between an event and the end of its turn its book is `h`
  pub record Reaches (x : Node) (h : CallBook) (y : Node) (m : Network) (Posts : Flow → List Item → Type 0) : Type 0 where
    pub steps : List Step
    pub are : AreSteps setup steps m
    pub keep : KeepsDuties setup steps m
    pub ends : network_by steps m ≡ network_after (Calls n PullFrame y.endpoint) m
    pub on : IsOn y
    pub takes : (g : Flow) (taken : List Item) → AreTaken g steps taken → Posts g taken
    pub begun : (g : Flow) (b : Option (List ℕ)) → Tracks g b x.book.begun → Tracks g (begun_after b (all_read g steps)) y.book.begun
    pub requests : (g : Flow) (b : Option (List ℕ)) → Tracks g b x.book.begun → AreSomeOf (each_of (request_in g) (told_between x y)) (map said (messages_from b (all_read g steps)))
    pub waits : AreKeptFrom h.calls y.book.calls
    pub opens : (g : Flow) (b : Option (List ℕ)) → Tracks g b x.book.begun → (t : Token) → open_count t y.book.tokens ≤ open_count t h.tokens + count_of t.number (each_of (request_in t.flow) (told_between x y))
    pub answers : (g : Flow) (b : Option (List ℕ)) → Tracks g b x.book.begun → (a : Message) → Contains (each_of answer_in (told_between x y)) a → Contains (map said (messages_from b (all_read g steps))) a ⊎ IsOther g h.calls a
    pub elsewhere : (g : Flow) → (n == g.to.0) ≡ false → (all_read g steps ≡ []) × (each_of (request_in g) (told_between x y) ≡ [])

  -- and it is known what is taken
  abbrev pub Comes : Node → CallBook → Node → Network → (Flow → List Item) → Type 0
  Comes x h y m posted = Reaches x h y m (λ g taken. taken ≡ posted g)

  -- what is taken may be said otherwise
  pub reposted : (P Q : Flow → List Item → Type 0) (x : Node) (h : CallBook) (y : Node) (m : Network) → ((g : Flow) (taken : List Item) → P g taken → Q g taken) → Reaches x h y m P → Reaches x h y m Q
  reposted P Q x h y m to c = record {
    steps = c.steps;
    are = c.are;
    keep = c.keep;
    ends = c.ends;
    on = c.on;
    takes = λ g taken t. to g taken (c.takes g taken t);
    begun = c.begun;
    requests = c.requests;
    waits = c.waits;
    opens = c.opens;
    answers = c.answers;
    elsewhere = c.elsewhere;
  }

  pub ends_of : (e f : EndpointValue) (steps : List Step) (m : Network) → IsAt n m e → Runs setup n e f steps m → network_by steps m ≡ network_after (Calls n PullFrame f) m
  ends_of e f steps m there r = r.ends ∙ sym (one_put n PullFrame e f r.frames m there r.appended)

  pub told_is : (x y : Node) (told : List Happening) → y.book.happenings ≡ x.book.happenings ++ told → told_between x y ≡ told
  told_is x y told is = ap (drop (length x.book.happenings)) is ∙ drop-append_seam x.book.happenings told

  -- BESIDE ITS ENDPOINT alone
  pub comes_quietly : (x : Node) (h : CallBook) (m : Network) → IsAt n m x.endpoint → IsOn (record x { book = h }) → ((g : Flow) (b : Option (List ℕ)) → Tracks g b x.book.begun → Tracks g b h.begun) → drop (length x.book.happenings) h.happenings ≡ []
      → Comes x h (record x { book = h }) m (λ g. [])
  comes_quietly x h m there on begun told =
      let r = no_steps setup n x.endpoint m there in
      record {
        steps = [];
        are = r.are;
        keep = r.keep;
        ends = ends_of x.endpoint x.endpoint [] m there r;
        on = on;
        takes = λ g. takes_nothing g;
        begun = begun;
        requests = λ g b tracks. subst (λ (ts : List Happening). AreSomeOf (each_of (request_in g) ts) []) (sym told) none;
        waits = kept_itself h.calls;
        opens = λ g b tracks t. omega arith;
        answers = λ g b tracks a there. absurd (not_in_none (each_of answer_in (told_between x (record x { book = h }))) a (ap (each_of answer_in) told) there);
        elsewhere = λ g other. (refl, ap (each_of (request_in g)) told);
      }

  pub comes_nowhere : (x : Node) (m : Network) → IsAt n m x.endpoint → IsOn x → Comes x x.book x m (λ g. [])
  comes_nowhere x m there on = comes_quietly x x.book m there on (λ g b tracks. tracks) (drop-length x.book.happenings)

  -- BY ONE STEP that is no turn
  pub comes_by_step : (x : Node) (m : Network) (y : Node) (s : Step) → AreSteps setup (s ∷ []) m → KeepsDuties setup (s ∷ []) m → network_after s m ≡ network_after (Calls n PullFrame y.endpoint) m → IsOn y → ((g : Flow) → all_read g (s ∷ []) ≡ []) → ((g : Flow) → Takings g (s ∷ []) [])
      → ((g : Flow) (b : Option (List ℕ)) → Tracks g b x.book.begun → Tracks g b y.book.begun) → told_between x y ≡ [] → Comes x y.book y m (λ g. [])
  comes_by_step x m y s are keep ends on read takes begun told = record {
    steps = s ∷ [];
    are = are;
    keep = keep;
    ends = ends;
    on = on;
    takes = takes;
    begun = λ g b tracks. subst (λ (is : List Item). Tracks g (begun_after b is) y.book.begun) (sym (read g)) (begun g b tracks);
    requests = λ g b tracks. subst (λ (ts : List Happening). AreSomeOf (each_of (request_in g) ts) (map said (messages_from b (all_read g (s ∷ []))))) (sym told) none;
    waits = kept_itself y.book.calls;
    opens = λ g b tracks t. omega arith;
    answers = λ g b tracks a there. absurd (not_in_none (each_of answer_in (told_between x y)) a (ap (each_of answer_in) told) there);
    elsewhere = λ g other. (read g, ap (each_of (request_in g)) told);
  }

  -- what stays where an event's turn is under way and its end is still to come
  pub record IsBetween (h k : CallBook) : Type 0 where
    pub begun : k.begun ≡ h.begun
    pub happenings : k.happenings ≡ h.happenings

  pub nothing_between : (h : CallBook) → IsBetween h h
  nothing_between h = record { begun = refl; happenings = refl }

  between_tells : (g : Flow) (b : Option (List ℕ)) (h k : CallBook) → IsBetween h k → Tracks g b h.begun → Tells g b [] h k
  between_tells g b h k between tracks = record {
    told = [];
    happenings = between.happenings ∙ sym (append-nil h.happenings);
    begun = subst (λ (es : List (Flow × List ℕ)). Tracks g b es) (sym between.begun) tracks;
    requests = none;
  }

  from_tells : (g : Flow) (b : Option (List ℕ)) (items : List Item) (x y : Node) → Tells g b items x.book y.book → AreSomeOf (each_of (request_in g) (told_between x y)) (map said (messages_from b items))
  from_tells g b items x y t = subst (λ (ts : List Happening). AreSomeOf (each_of (request_in g) ts) (map said (messages_from b items))) (sym (told_is x y t.told t.happenings)) t.requests

  -- what is told is what was heard, which says no request and no answer, and what the moves tell
  opens_by : (x y : Node) (h : CallBook) (heard told : List Happening) (t : Token) → y.book.happenings ≡ x.book.happenings ++ (heard ++ told) → each_of (request_in t.flow) heard ≡ [] → open_count t y.book.tokens ≤ open_count t h.tokens + count_of t.number (each_of (request_in t.flow) told)
      → open_count t y.book.tokens ≤ open_count t h.tokens + count_of t.number (each_of (request_in t.flow) (told_between x y))
  opens_by x y h heard told t is clear le =
      let same = ap (count_of t.number) (ap (each_of (request_in t.flow)) (told_is x y (heard ++ told) is) ∙ each_append (request_in t.flow) heard told ∙ ap (λ (ms : List Message). ms ++ each_of (request_in t.flow) told) clear) in
      omega (arith, same, le)

  answer_by : (x y : Node) (heard told : List Happening) (a : Message) → y.book.happenings ≡ x.book.happenings ++ (heard ++ told) → each_of answer_in heard ≡ [] → Contains (each_of answer_in (told_between x y)) a → Contains (each_of answer_in told) a
  answer_by x y heard told a is clear there = subst (λ (ms : List Message). Contains ms a) (ap (each_of answer_in) (told_is x y (heard ++ told) is) ∙ each_append answer_in heard told ∙ ap (λ (ms : List Message). ms ++ each_of answer_in told) clear) there

  -- AN EVENT, and the end of its turn
  module _ (x : Node) (m : Network) (there : IsAt n m x.endpoint) (now : ℕ) (time : KeepsTime setup m n now) (Good : Network → Type 0) (law : IsLawful setup Good) (good : Good m) where
    itself : IsLater m m
    itself = record { now = refl; left = λ g h. h }

    pub reaches_by_event : (Posts : Flow → List Item → Type 0) (call : Call) (f : EndpointValue) (h : CallBook) (y : Node) (steps : List Step) → MayCall setup n m call x.endpoint f → ((g : Flow) → read_by g call ≡ []) → ((g : Flow) (taken : List Item) → Takes g call taken → Posts g taken)
        → IsBetween (fold hear x.book f.reports) h → Way setup Good law n m AreNone (record { endpoint = record f { reports = [] }; book = h }) steps y → IsOn y → Reaches x h y m Posts
    reaches_by_event Posts call f h y steps may reads_none takes_it between way on =
        let z0 : Node = hears (record x { endpoint = f }) in
        let z1 : Node = record { endpoint = record f { reports = [] }; book = h } in
        let quiet = all_heard_quiet f.reports x.book in
        let heard_told = quiet.told in
        let mid_tracks : (g : Flow) (b : Option (List ℕ)) → Tracks g b x.book.begun → Tracks g b h.begun = λ (g : Flow) (b : Option (List ℕ)) (tracks : Tracks g b x.book.begun). subst (λ (es : List (Flow × List ℕ)). Tracks g b es) (sym between.begun) (quiet.begun g b tracks) in
        let told_in : (more : List Happening) → y.book.happenings ≡ h.happenings ++ more → y.book.happenings ≡ x.book.happenings ++ (quiet.told ++ more) =
        λ (more : List Happening) (is : y.book.happenings ≡ h.happenings ++ more). is ∙ ap (λ (hs : List Happening). hs ++ more) (between.happenings ∙ quiet.happenings) ∙ append_assoc x.book.happenings quiet.told more in
        let rest = pulls setup n f f.reports ++ steps in
        let run = heard_calls setup n m x call f y.endpoint steps m may itself there (λ k later at. way.runs k later at) in
        let read_is : (g : Flow) → all_read g (Calls n call f ∷ rest) ≡ all_read g steps = λ (g : Flow). ap (λ (is : List Item). is ++ all_read g rest) (reads_none g) ∙ behind_read setup n g f f.reports steps in
        let tells : (g : Flow) (b : Option (List ℕ)) → Tracks g b x.book.begun → Tells g b (all_read g (Calls n call f ∷ rest)) x.book y.book =
        λ (g : Flow) (b : Option (List ℕ)) (tracks : Tracks g b x.book.begun).
        let heard = quiet_tells g b x.book z0.book (all_heard_quiet f.reports x.book) tracks in
        let mid = between_tells g b z0.book h between heard.begun in
        let end = way.tells g b mid.begun in
        subst (λ (is : List Item). Tells g b is x.book y.book) (sym (read_is g)) (tells_then g b [] (all_read g steps) x.book z0.book y.book heard (tells_then g b [] (all_read g steps) z0.book h y.book mid end)) in
        record {
          steps = Calls n call f ∷ rest;
          are = run.are;
          keep = run.keep;
          ends = ends_of x.endpoint y.endpoint (Calls n call f ∷ rest) m there run;
          on = on;
          takes = λ g. takes_first g (Calls n call f) rest (Posts g) (takes_it g) (behind_takes setup n g f f.reports steps [] (way.takes g));
          begun = λ g b tracks. (tells g b tracks).begun;
          requests = λ g b tracks. from_tells g b (all_read g (Calls n call f ∷ rest)) x y (tells g b tracks);
          waits = way.waits;
          opens = λ g b tracks t.
              let a = way.answers g b (mid_tracks g b tracks) in
              opens_by x y h quiet.told a.told t (told_in a.told a.happenings) (unsure_requests t.flow quiet.told quiet.unsure) (a.opens t);
          answers = λ g b tracks a there.
              let c = way.answers g b (mid_tracks g b tracks) in
              subst (λ (is : List Item). Contains (map said (messages_from b is)) a ⊎ IsOther g h.calls a) (sym (read_is g)) (c.from a (answer_by x y quiet.told c.told a (told_in c.told c.happenings) (unsure_answers quiet.told quiet.unsure) there));
          elsewhere = λ g other.
              let s = behind setup Good law n m m x call f may itself there good in
              let c = way.elsewhere g other s.net s.later s.there s.good in
              let told : y.book.happenings ≡ x.book.happenings ++ (heard_told ++ c.told) = c.happenings ∙ ap (λ (hs : List Happening). hs ++ c.told) (between.happenings ∙ quiet.happenings) ∙ append_assoc x.book.happenings heard_told c.told in
              (read_is g ∙ c.none, ap (each_of (request_in g)) (told_is x y (heard_told ++ c.told) told) ∙ each_append (request_in g) heard_told c.told ∙ ap (λ (ms : List Message). ms ++ each_of (request_in g) c.told) (unsure_requests g heard_told quiet.unsure) ∙ c.requests);
        }

    pub comes_by_event : (call : Call) (f : EndpointValue) (h : CallBook) (posted : Flow → List Item) → MayCall setup n m call x.endpoint f → ((g : Flow) → read_by g call ≡ []) → ((g : Flow) (taken : List Item) → Takes g call taken → taken ≡ posted g)
        → IsBetween (fold hear x.book f.reports) h → All IsFlow h.unread
        → Comes x h (turn_end now (record { endpoint = record f { reports = [] }; book = h })) m posted
    comes_by_event call f h posted may reads_none takes_it between flows =
        let z1 : Node = record { endpoint = record f { reports = [] }; book = h } in
        let r = end_goes setup n m now time z1 flows may.unspent in
        reaches_by_event (λ g taken. taken ≡ posted g) call f h (turn_end now z1) r.steps may reads_none takes_it between (moves_way setup Good law n m z1 (turn_end now z1) r.steps r.moves may.unspent) (inl r.unspent)

    -- the end of a turn without an event
    pub reaches_by_end : (Posts : Flow → List Item → Type 0) (h : CallBook) (y : Node) (steps : List Step) → IsQuiet x.book h → Way setup Good law n m Posts (record x { book = h }) steps y → IsOn y → Reaches x h y m Posts
    reaches_by_end Posts h y steps quiet way on =
        let run = way.runs m itself there in
        let told_in : (more : List Happening) → y.book.happenings ≡ h.happenings ++ more → y.book.happenings ≡ x.book.happenings ++ (quiet.told ++ more) =
        λ (more : List Happening) (is : y.book.happenings ≡ h.happenings ++ more). is ∙ ap (λ (hs : List Happening). hs ++ more) quiet.happenings ∙ append_assoc x.book.happenings quiet.told more in
        let tells : (g : Flow) (b : Option (List ℕ)) → Tracks g b x.book.begun → Tells g b (all_read g steps) x.book y.book =
        λ (g : Flow) (b : Option (List ℕ)) (tracks : Tracks g b x.book.begun).
        let first = quiet_tells g b x.book h quiet tracks in
        tells_then g b [] (all_read g steps) x.book h y.book first (way.tells g b first.begun) in
        record {
          steps = steps;
          are = run.are;
          keep = run.keep;
          ends = ends_of x.endpoint y.endpoint steps m there run;
          on = on;
          takes = λ g. way.takes g;
          begun = λ g b tracks. (tells g b tracks).begun;
          requests = λ g b tracks. from_tells g b (all_read g steps) x y (tells g b tracks);
          waits = way.waits;
          opens = λ g b tracks t.
              let a = way.answers g b (quiet.begun g b tracks) in
              opens_by x y h quiet.told a.told t (told_in a.told a.happenings) (unsure_requests t.flow quiet.told quiet.unsure) (a.opens t);
          answers = λ g b tracks a there.
              let c = way.answers g b (quiet.begun g b tracks) in
              c.from a (answer_by x y quiet.told c.told a (told_in c.told c.happenings) (unsure_answers quiet.told quiet.unsure) there);
          elsewhere = λ g other.
              let c = way.elsewhere g other m itself there good in
              let told : y.book.happenings ≡ x.book.happenings ++ (quiet.told ++ c.told) = c.happenings ∙ ap (λ (hs : List Happening). hs ++ c.told) quiet.happenings ∙ append_assoc x.book.happenings quiet.told c.told in
              (c.none, ap (each_of (request_in g)) (told_is x y (quiet.told ++ c.told) told) ∙ each_append (request_in g) quiet.told c.told ∙ ap (λ (ms : List Message). ms ++ each_of (request_in g) c.told) (unsure_requests g quiet.told quiet.unsure) ∙ c.requests);
        }

    pub comes_by_end : (h : CallBook) → IsQuiet x.book h → All IsFlow h.unread → x.endpoint.spent ≡ false → Comes x h (turn_end now (record x { book = h })) m (λ g. [])
    comes_by_end h quiet flows unspent =
        let z1 : Node = record x { book = h } in
        let r = end_goes setup n m now time z1 flows unspent in
        reaches_by_end AreNone h (turn_end now z1) r.steps quiet (moves_way setup Good law n m z1 (turn_end now z1) r.steps r.moves unspent) (inl r.unspent)
