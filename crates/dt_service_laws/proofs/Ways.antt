-- A way from a node to another: steps of its network, of which it is known what they take and read, and what is told over them.
use Rattle.std.proofs.Common.{ℕ, zero, suc, ◌≡◌, ◌==◌, false, List, [], ◌∷◌, ◌++◌, drop, map, Option, refl, ap, sym, subst, ◌∙◌, inl, append_assoc, append-nil, arith}
use Rattle.std.specs.Prelude.{fold}
use Rattle.std.proofs.lemmas.List.Elements.{Contains-append_left}
use Rattle.dt_items.specs.declared.item.Item.{Item}
use Rattle.dt_reports.specs.Told.{Told}
use Rattle.dt_units.specs.declared.endpoints.Flow.{Flow}
use Rattle.dt_endpoint.specs.Acts.{OutFrameValue}
use Rattle.dt_endpoint.specs.Endpoints.{EndpointValue}
use Rattle.dt_network.specs.Duties.{KeepsCall}
use Rattle.dt_network.specs.Network.{Network, Setup}
use Rattle.dt_network.specs.Octets.{AreTaken, Takes, all_read, read_by}
use Rattle.dt_network.specs.Steps.{Call, Calls, Does, PullReport, Step, network_by}
use Rattle.dt_service_model.specs.declared.happenings.Happening.{Happening}
use Rattle.dt_service_model.specs.CallBook.{CallBook}
use Rattle.dt_service_model.specs.Hearing.{hear}
use Rattle.dt_service_model.specs.Turns.{Node, hears, with_book}
use Rattle.dt_service_model.specs.Whole.{take_piece}
use Rattle.dt_service_laws.specs.Histories.{Message, answer_in, count_of, each_of, request_in}
use Rattle.dt_service_laws.specs.Orders.{AreSomeOf, none}
use Rattle.dt_service_laws.specs.Wholes.{begun_after, messages_from}
use Rattle.dt_service_laws.proofs.Answering.{Answers, answers_then, moves_answer, not_in_none, unsure_answers}
use Rattle.dt_service_laws.proofs.Elsewhere.{IsElsewhere, IsLawful, elsewhere}
use Rattle.dt_service_laws.proofs.Keeping.{piece_keeps}
use Rattle.dt_service_laws.proofs.Moves.{AreKeptFrom, IsLater, IsQuiet, Moves, Tracks, calls, changes, reads, rests}
use Rattle.dt_service_laws.proofs.Quiet.{all_heard_quiet, kept_itself, kept_through}
use Rattle.dt_service_laws.proofs.Runs.{IsAt, Runs, by_append, duties_append, no_steps, one_more, put_in, put_more, puts, runs, steps_append, written_there}
use Rattle.dt_service_laws.proofs.Sending.{Takings, moves_take, takes_first, takes_more, takes_nothing, takes_start}
use Rattle.dt_service_laws.proofs.Telling.{Tells, each_append, moves_tell, read_append, said, tells_then, unsure_requests}

-- nothing is taken
abbrev pub AreNone : Flow → List Item → Type 0
AreNone g taken = taken ≡ []

elsewhere_then : (g : Flow) (xs ys : List Step) (h k l : CallBook) → IsElsewhere g xs h k → IsElsewhere g ys k l → IsElsewhere g (xs ++ ys) h l
elsewhere_then g xs ys h k l p q = record {
  none = read_append g xs ys ∙ ap (λ (is : List Item). is ++ all_read g ys) p.none ∙ q.none;
  told = p.told ++ q.told;
  happenings = q.happenings ∙ ap (λ (hs : List Happening). hs ++ q.told) p.happenings ∙ append_assoc h.happenings p.told q.told;
  requests = each_append (request_in g) p.told q.told ∙ ap (λ (ms : List Message). ms ++ each_of (request_in g) q.told) p.requests ∙ q.requests;
}

-- steps after steps
runs_then : (setup : Setup) (n : ℕ) (e f g : EndpointValue) (xs ys : List Step) (m : Network) → Runs setup n e f xs m → Runs setup n f g ys (network_by xs m) → Runs setup n e g (xs ++ ys) m
runs_then setup n e f g xs ys m r rest = record {
  are = steps_append setup xs ys m r.are rest.are;
  keep = duties_append setup xs ys m r.keep rest.keep;
  frames = r.frames ++ rest.frames;
  appended = rest.appended ∙ ap (λ (fs : List OutFrameValue). fs ++ rest.frames) r.appended ∙ append_assoc e.frames r.frames rest.frames;
  ends = by_append xs ys m ∙ rest.ends ∙ ap (put_in n g rest.frames) r.ends ∙ put_more n f g r.frames rest.frames m;
}

-- so many reports are pulled
abbrev pub pulled : (n count : ℕ) → EndpointValue → List Told → List Step
pulled n zero e rs = []
pulled n (suc count) e [] = []
pulled n (suc count) e (r ∷ rs) = Calls n PullReport (record e { reports = rs }) ∷ pulled n count e rs

some_pulled : (setup : Setup) (n count : ℕ) (e : EndpointValue) (rs : List Told) (m : Network) → IsAt n m (record e { reports = rs }) → Runs setup n (record e { reports = rs }) (record e { reports = drop count rs }) (pulled n count e rs) m
some_pulled setup n zero e rs m there = no_steps setup n (record e { reports = rs }) m there
some_pulled setup n (suc count) e [] m there = no_steps setup n (record e { reports = [] }) m there
some_pulled setup n (suc count) e (r ∷ rs) m there =
    one_more setup n PullReport (record e { reports = r ∷ rs }) (record e { reports = rs }) (record e { reports = drop count rs }) (pulled n count e rs) m there refl tt [] (sym (append-nil e.frames))
    (some_pulled setup n count e rs (put_in n (record e { reports = rs }) [] m) (written_there n (record e { reports = rs }) m.endpoints))

pulled_reads : (n count : ℕ) (g : Flow) (e : EndpointValue) (rs : List Told) → all_read g (pulled n count e rs) ≡ []
pulled_reads n zero g e rs = refl
pulled_reads n (suc count) g e [] = refl
pulled_reads n (suc count) g e (r ∷ rs) = pulled_reads n count g e rs

pulled_takes : (n count : ℕ) (g : Flow) (e : EndpointValue) (rs : List Told) → Takings g (pulled n count e rs) []
pulled_takes n zero g e rs = takes_nothing g
pulled_takes n (suc count) g e [] = takes_nothing g
pulled_takes n (suc count) g e (r ∷ rs) = takes_more g (Calls n PullReport (record e { reports = rs })) (pulled n count e rs) [] [] (λ first h. h) (pulled_takes n count g e rs)

module _ (setup : Setup) (n : ℕ) where
  moves_wait : (base : Network) (x y : Node) (steps : List Step) → Moves setup n base x steps y → AreKeptFrom x.book.calls y.book.calls
  moves_wait base x y steps (rests {x = z}) = kept_itself z.book.calls
  moves_wait base x y steps (changes {x = z} {y = u} {steps = ss} h quiet more) = kept_through z.book.calls h.calls u.book.calls quiet.waits (moves_wait base (record z { book = h }) u ss more)
  moves_wait base x y steps (calls {x = z} {y = u} {steps = ss} call f may nothing taken more) =
      kept_through z.book.calls (fold hear z.book f.reports).calls u.book.calls (all_heard_quiet f.reports z.book).waits (moves_wait base (hears (record z { endpoint = f })) u ss more)
  moves_wait base x y steps (reads {x = z} {y = u} {steps = ss} now k p o os f comes some may more) =
      let heard = fold hear z.book f.reports in
      kept_through z.book.calls heard.calls u.book.calls (all_heard_quiet f.reports z.book).waits (kept_through heard.calls (take_piece k p heard).calls u.book.calls (piece_keeps k p heard).waits (moves_wait base (with_book (take_piece k p) (hears (record z { endpoint = f }))) u ss more))

module _ (setup : Setup) (Good : Network → Type 0) (law : IsLawful setup Good) (n : ℕ) (base : Network) where
  pub record Way (Posts : Flow → List Item → Type 0) (x : Node) (steps : List Step) (y : Node) : Type 0 where
    pub runs : (m : Network) → IsLater base m → IsAt n m x.endpoint → Runs setup n x.endpoint y.endpoint steps m
    pub takes : (g : Flow) (taken : List Item) → AreTaken g steps taken → Posts g taken
    pub tells : (g : Flow) (b : Option (List ℕ)) → Tracks g b x.book.begun → Tells g b (all_read g steps) x.book y.book
    pub answers : (g : Flow) (b : Option (List ℕ)) → Tracks g b x.book.begun → Answers g b (all_read g steps) x.book y.book
    pub waits : AreKeptFrom x.book.calls y.book.calls
    pub elsewhere : (g : Flow) → (n == g.to.0) ≡ false → (m : Network) → IsLater base m → IsAt n m x.endpoint → Good m → IsElsewhere g steps x.book y.book

  -- the moves of an endpoint that goes on are one
  pub moves_way : (x y : Node) (steps : List Step) → Moves setup n base x steps y → x.endpoint.spent ≡ false → Way AreNone x steps y
  moves_way x y steps moves unspent = record {
    runs = λ m later there. runs setup n base x y steps moves m later there;
    takes = λ g. moves_take setup n base g x y steps moves;
    tells = λ g b tracks. moves_tell setup n base g b x y steps moves tracks;
    answers = λ g b tracks. moves_answer setup n base g b x y steps moves tracks;
    waits = moves_wait setup n base x y steps moves;
    elsewhere = λ g other m later there good. elsewhere setup Good law n base g other x y steps moves m later there good unspent;
  }

  -- a way after another, on which nothing is taken
  pub way_then : (Posts : Flow → List Item → Type 0) (x y z : Node) (xs ys : List Step) → Way Posts x xs y → Way AreNone y ys z → Way Posts x (xs ++ ys) z
  way_then Posts x y z xs ys p q =
      let later : (m : Network) → IsLater base m → Runs setup n x.endpoint y.endpoint xs m → IsLater base (network_by xs m) =
      λ (m : Network) (on : IsLater base m) (r : Runs setup n x.endpoint y.endpoint xs m). subst (IsLater base) (sym r.ends) (record { now = on.now; left = λ fl h. Contains-append_left m.left (puts m.now r.frames) fl (on.left fl h) }) in
      let at : (m : Network) → Runs setup n x.endpoint y.endpoint xs m → IsAt n (network_by xs m) y.endpoint =
      λ (m : Network) (r : Runs setup n x.endpoint y.endpoint xs m). subst (λ (k : Network). IsAt n k y.endpoint) (sym r.ends) (written_there n y.endpoint m.endpoints) in
      record {
        runs = λ m on there. (let r = p.runs m on there in runs_then setup n x.endpoint y.endpoint z.endpoint xs ys m r (q.runs (network_by xs m) (later m on r) (at m r)));
        takes = λ g. takes_start g xs ys (Posts g) (p.takes g) (q.takes g);
        tells = λ g b tracks.
            let first = p.tells g b tracks in
            subst (λ (is : List Item). Tells g b is x.book z.book) (sym (read_append g xs ys)) (tells_then g b (all_read g xs) (all_read g ys) x.book y.book z.book first (q.tells g (begun_after b (all_read g xs)) first.begun));
        answers = λ g b tracks.
            subst (λ (is : List Item). Answers g b is x.book z.book) (sym (read_append g xs ys)) (answers_then g b (all_read g xs) (all_read g ys) x.book y.book z.book (p.answers g b tracks) (q.answers g (begun_after b (all_read g xs)) (p.tells g b tracks).begun));
        waits = kept_through x.book.calls y.book.calls z.book.calls p.waits q.waits;
        elsewhere = λ g other m on there good.
            let r = p.runs m on there in
            elsewhere_then g xs ys x.book y.book z.book (p.elsewhere g other m on there good) (q.elsewhere g other (network_by xs m) (later m on r) (at m r) (law.on m xs good r.are r.keep));
      }

  -- A CALL that may be made, whatever becomes of its endpoint
  pub record CanCall (call : Call) (e f : EndpointValue) : Type 0 where
    pub does : Does setup n call e f
    pub keeps : (m : Network) → IsLater base m → KeepsCall setup m n call e
    pub frames : List OutFrameValue
    pub appended : f.frames ≡ e.frames ++ frames

  -- THE LAST CALL before a node closes: so many of its reports are pulled. What it read is lost
  pub last_way : (Posts : Flow → List Item → Type 0) (x : Node) (call : Call) (f : EndpointValue) (count : ℕ) (h : CallBook) → CanCall call x.endpoint f → IsQuiet x.book h → h.begun ≡ [] → ((g : Flow) (taken : List Item) → Takes g call taken → Posts g taken)
      → ((g : Flow) → (n == g.to.0) ≡ false → (m : Network) → IsAt n m x.endpoint → Good m → read_by g call ≡ [])
      → Way Posts x (Calls n call f ∷ pulled n count f f.reports) (record { endpoint = record f { reports = drop count f.reports }; book = h })
  last_way Posts x call f count h can quiet begun takes_it reads_none =
      let rest = pulled n count f f.reports in
      record {
        runs = λ m later there. one_more setup n call x.endpoint f (record f { reports = drop count f.reports }) rest m there can.does (can.keeps m later) can.frames can.appended (some_pulled setup n count f f.reports (put_in n f can.frames m) (written_there n f m.endpoints));
        takes = λ g. takes_first g (Calls n call f) rest (Posts g) (takes_it g) (pulled_takes n count g f f.reports);
        tells = λ g b tracks. record {
          told = quiet.told;
          happenings = quiet.happenings;
          begun = subst (λ (es : List (Flow × List ℕ)). Tracks g (begun_after b (all_read g (Calls n call f ∷ rest))) es) (sym begun) (inl refl);
          requests = subst (λ (ms : List Message). AreSomeOf ms (map said (messages_from b (all_read g (Calls n call f ∷ rest))))) (sym (unsure_requests g quiet.told quiet.unsure)) none;
        };
        answers = λ g b tracks. record {
          told = quiet.told;
          happenings = quiet.happenings;
          waits = quiet.waits;
          opens = λ t. (let l = quiet.opens t in let no = ap (count_of t.number) (unsure_requests t.flow quiet.told quiet.unsure) in omega (arith, l, no));
          from = λ a at. absurd (not_in_none (each_of answer_in quiet.told) a (unsure_answers quiet.told quiet.unsure) at);
        };
        waits = quiet.waits;
        elsewhere = λ g other m later there good. record {
          none = ap (λ (is : List Item). is ++ all_read g rest) (reads_none g other m there good) ∙ pulled_reads n count g f f.reports;
          told = quiet.told;
          happenings = quiet.happenings;
          requests = unsure_requests g quiet.told quiet.unsure;
        };
      }
