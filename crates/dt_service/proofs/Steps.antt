-- The steps of a turn, one after another, are the definition's.
use Rattle.std.proofs.Common.{ℕ, zero, suc, ◌+◌, ◌-◌, ◌≡◌, ◌<◌, ◌≤◌, Bool, true, false, List, [], ◌∷◌, ◌++◌, length, get_or, drop, Option, refl, ap, sym, subst, ◌∙◌, arith, add-one}
use Rattle.std.specs.Prelude.{◌&&◌, cond, fold}
use Rattle.dt_units.specs.declared.endpoints.Flow.{Flow}
use Rattle.dt_reports.specs.Told.{Told}
use Rattle.dt_world_model.specs.Station.{Read}
use Rattle.dt_calls_model.specs.Messages.{Piece}
use Rattle.dt_endpoint.specs.Endpoints.{EndpointValue, after_event, moment_of}
use Rattle.dt_service_model.specs.Ends.{judge}
use Rattle.dt_service_model.specs.CallBook.{CallBook, may_read}
use Rattle.dt_service_model.specs.Hearing.{hear}
use Rattle.dt_service_model.specs.Turns.{Node, comes_in, happens, hears, most_read, piece_at, read_if, read_times, reads, sweep, take_read, turn_end}
use Rattle.dt_service.specs.Nodes.{node_of}

-- ONE REPORT is heard
pub hears_step : (e f : EndpointValue) (h k : CallBook) (t : Told) → e.reports ≡ (t ∷ []) ++ f.reports → f ≡ record e { reports = drop 1 e.reports } → k ≡ hear h t → hears (node_of f k) ≡ hears (node_of e h)
hears_step e f h k t reports rest is =
    let same : record f { reports = [] } ≡ record e { reports = [] } = ap (λ (x : EndpointValue). record x { reports = [] }) rest in
    let all : fold hear k f.reports ≡ fold hear h e.reports = ap (λ (x : CallBook). fold hear x f.reports) is ∙ ap (λ (xs : List Told). fold hear h xs) (sym reports) in
    ap (λ (x : EndpointValue). node_of x (fold hear k f.reports)) same ∙ ap (λ (x : CallBook). node_of (record e { reports = [] }) x) all

no_more : (xs ys : List Told) → xs ≡ [] ++ ys → ys ≡ drop 1 xs → xs ≡ []
no_more [] ys h k = refl
no_more (x ∷ xs) ys h k = let same : length (x ∷ xs) ≡ length xs = ap length (h ∙ k) in absurd (omega (arith, same))

-- and there is none
pub hears_end : (e f : EndpointValue) (h : CallBook) → e.reports ≡ [] ++ f.reports → f ≡ record e { reports = drop 1 e.reports } → node_of f h ≡ hears (node_of e h)
hears_end e f h reports rest =
    let none : e.reports ≡ [] = no_more e.reports f.reports reports (ap (λ (x : EndpointValue). x.reports) rest) in
    let same : f ≡ record e { reports = [] } = rest ∙ ap (λ (xs : List Told). record e { reports = drop 1 xs }) none in
    ap (λ (x : EndpointValue). node_of x h) same ∙ ap (λ (xs : List Told). node_of (record e { reports = [] }) (fold hear h xs)) (sym none)

-- ONE READ
if_false : (b : Bool) (x y : Node) → b ≡ false → cond b x y ≡ y
if_false false x y h = refl
if_false true x y h = cc

if_true : (b : Bool) (x y : Node) → b ≡ true → cond b x y ≡ x
if_true false x y h = cc
if_true true x y h = refl

module _ (now : ℕ) (f : Flow) where
  pub kept_out : (n : Node) → (comes_in n f && may_read f n.book) ≡ false → (again : Node → Node) → read_if again now f n ≡ n
  kept_out n out again = if_false (comes_in n f && may_read f n.book) (take_read again f (piece_at now f n.endpoint) (happens now (Read f most_read) n)) n out

  -- an event of the endpoint, and what is heard of it
  pub reads_on : (n m : Node) (e : EndpointValue) (o : Option Piece) → (comes_in n f && may_read f n.book) ≡ true → o ≡ piece_at now f n.endpoint → e ≡ after_event now (Read f most_read) n.endpoint → m ≡ hears (node_of e n.book)
      → (again : Node → Node) → read_if again now f n ≡ take_read again f o m
  reads_on n m e o may piece after heard again =
      if_true (comes_in n f && may_read f n.book) (take_read again f (piece_at now f n.endpoint) (happens now (Read f most_read) n)) n may
      ∙ ap (λ (p : Option Piece). take_read again f p (happens now (Read f most_read) n)) (sym piece)
      ∙ ap (λ (x : Node). take_read again f o x) (sym (heard ∙ ap (λ (x : EndpointValue). hears (node_of x n.book)) after))

  -- SO MANY READS
  one_less : (most i : ℕ) → i < most → most - i ≡ suc (most - (i + 1))
  one_less most i lt = omega arith

  pub times_stepped : (most i : ℕ) (n m target : Node) → i < most → ((again : Node → Node) → read_if again now f n ≡ again m) → read_times (most - i) now f n ≡ target → read_times (most - (i + 1)) now f m ≡ target
  times_stepped most i n m target lt read so =
      sym (read (read_times (most - (i + 1)) now f)) ∙ (ap (λ (k : ℕ). read_times k now f n) (sym (one_less most i lt)) ∙ so)

  pub times_stopped : (most i : ℕ) (n m target : Node) → i < most → ((again : Node → Node) → read_if again now f n ≡ m) → read_times (most - i) now f n ≡ target → m ≡ target
  times_stopped most i n m target lt read so =
      sym (read (read_times (most - (i + 1)) now f)) ∙ (ap (λ (k : ℕ). read_times k now f n) (sym (one_less most i lt)) ∙ so)

  all_done : (most i : ℕ) → most ≤ i → most - i ≡ 0
  all_done most i le = omega arith

  pub times_ended : (most i : ℕ) (n target : Node) → most ≤ i → read_times (most - i) now f n ≡ target → n ≡ target
  times_ended most i n target le so = ap (λ (k : ℕ). read_times k now f n) (sym (all_done most i le)) ∙ so

-- ONE FLOW AFTER ANOTHER
module _ {A : Type 0} (step : Node → A → Node) where
  from_suc : (i : ℕ) (xs : List A) (d : A) (n : Node) → i < length xs → fold step (step n (get_or xs i d)) (drop (suc i) xs) ≡ fold step n (drop i xs)
  from_suc i [] d n lt = absurd (omega arith)
  from_suc zero (x ∷ xs) d n lt = refl
  from_suc (suc i) (x ∷ xs) d n lt = from_suc i xs d n (omega arith)

  pub fold_stepped : (i : ℕ) (xs : List A) (d : A) (n m target : Node) → i < length xs → m ≡ step n (get_or xs i d) → fold step n (drop i xs) ≡ target → fold step m (drop (i + 1) xs) ≡ target
  fold_stepped i xs d n m target lt is so =
      subst (λ (x : Node). fold step x (drop (i + 1) xs) ≡ target) (sym is)
      (subst (λ (k : ℕ). fold step (step n (get_or xs i d)) (drop k xs) ≡ target) (sym (add-one i)) (from_suc i xs d n lt ∙ so))

  pub fold_ended : (i : ℕ) (xs : List A) (n : Node) → length xs ≤ i → fold step n (drop i xs) ≡ n
  fold_ended zero [] n le = refl
  fold_ended (suc i) [] n le = refl
  fold_ended zero (x ∷ xs) n le = absurd (omega arith)
  fold_ended (suc i) (x ∷ xs) n le = fold_ended i xs n (omega arith)

-- THE END OF A TURN
judged : (now : ℕ) → Node → Node
judged now r = record { endpoint = r.endpoint; book = judge (moment_of now r.endpoint) (sweep r.endpoint.state.host r.book) }

pub turn_ended : (now : ℕ) (n r : Node) (h k : CallBook) (m : ℕ) → r ≡ reads now n → h ≡ sweep r.endpoint.state.host r.book → m ≡ moment_of now r.endpoint → k ≡ judge m h → node_of r.endpoint k ≡ turn_end now n
unfolding judged
turn_ended now n r h k m read swept moment is =
    let one : k ≡ judge (moment_of now r.endpoint) (sweep r.endpoint.state.host r.book) = is ∙ (ap (λ (x : ℕ). judge x h) moment ∙ ap (λ (x : CallBook). judge (moment_of now r.endpoint) x) swept) in
    ap (λ (x : CallBook). node_of r.endpoint x) one ∙ ap (λ (x : Node). judged now x) read
