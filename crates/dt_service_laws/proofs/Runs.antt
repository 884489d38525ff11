-- The moves of a node are steps of its network, and each keeps the duties.
use Rattle.std.proofs.Common.{ℕ, ◌≡◌, ◌==◌, List, [], ◌∷◌, ◌++◌, drop, length, map, Option, Some, refl, ap, sym, subst, ◌∙◌, inl, inr, append_assoc, append-nil}
use Rattle.std.specs.Prelude.{Contains}
use Rattle.std.proofs.Math.Seq.{drop-append_seam}
use Rattle.std.proofs.lemmas.Bool.{cases_Bool}
use Rattle.std.proofs.lemmas.List.{map-append}
use Rattle.std.proofs.lemmas.List.Elements.{Contains-append_left}
use Rattle.dt_reports.specs.Told.{Told}
use Rattle.dt_world_model.proofs.Tables.{look_write, nat_is, nat_self}
use Rattle.dt_world_model.specs.Tables.{look, write}
use Rattle.dt_calls_laws.proofs.Unread.{write_same}
use Rattle.dt_endpoint.specs.declared.answers.Delivered.TheVariants as answer
use Rattle.dt_endpoint.specs.Acts.{OutFrameValue}
use Rattle.dt_endpoint.specs.Endpoints.{EndpointValue}
use Rattle.dt_network.specs.Duties.{KeepsDuties, KeepsFrom}
use Rattle.dt_network.specs.Network.{Flight, Network, Setup, flights}
use Rattle.dt_network.specs.Steps.{AreSteps, Call, CallRead, Calls, Does, DoesFrom, PullReport, Step, network_after, network_by}
use Rattle.dt_service_model.specs.Turns.{Node, hears, most_read}
use Rattle.dt_service_laws.proofs.Moves.{IsLater, MayCall, Moves, calls, changes, pulls, reads, rests}

-- LISTS OF STEPS
pub steps_append : (setup : Setup) (xs ys : List Step) (net : Network) → AreSteps setup xs net → AreSteps setup ys (network_by xs net) → AreSteps setup (xs ++ ys) net
steps_append setup [] ys net h k = k
steps_append setup (x ∷ xs) ys net h k = (h.0, steps_append setup xs ys (network_after x net) h.1 k)

pub duties_append : (setup : Setup) (xs ys : List Step) (net : Network) → KeepsDuties setup xs net → KeepsDuties setup ys (network_by xs net) → KeepsDuties setup (xs ++ ys) net
duties_append setup [] ys net h k = k
duties_append setup (x ∷ xs) ys net h k = (h.0, duties_append setup xs ys (network_after x net) h.1 k)

pub by_append : (xs ys : List Step) (net : Network) → network_by (xs ++ ys) net ≡ network_by ys (network_by xs net)
by_append [] ys net = refl
by_append (x ∷ xs) ys net = by_append xs ys (network_after x net)

-- A NETWORK in which a node's endpoint has become another, and has sent off frames
abbrev pub puts : ℕ → List OutFrameValue → List Flight
puts now frames = map (λ (g : OutFrameValue). record { frame = g; put = now }) frames

abbrev pub put_in : (n : ℕ) → EndpointValue → List OutFrameValue → Network → Network
put_in n f frames m = record { now = m.now; endpoints = write ◌==◌ n f m.endpoints; left = m.left ++ puts m.now frames }

abbrev pub IsAt : (n : ℕ) → Network → EndpointValue → Type 0
IsAt n m e = look ◌==◌ n m.endpoints ≡ Some e

pub written_there : (n : ℕ) (f : EndpointValue) (es : List (ℕ × EndpointValue)) → look ◌==◌ n (write ◌==◌ n f es) ≡ Some f
written_there n f es = look_write ℕ EndpointValue ◌==◌ nat_self nat_is n f es

write_again : (n : ℕ) (e f : EndpointValue) (es : List (ℕ × EndpointValue)) → write ◌==◌ n f (write ◌==◌ n e es) ≡ write ◌==◌ n f es
write_again n e f [] = rw (nat_self n)
write_again n e f (x ∷ es) = elim (cases_Bool (x.0 == n)) [ inl y ↦ rw (y, nat_self n) | inr o ↦ rw (o, o) (ap (λ (rest : List (ℕ × EndpointValue)). x ∷ rest) (write_again n e f es)) ]

pub one_put : (n : ℕ) (call : Call) (e f : EndpointValue) (frames : List OutFrameValue) (m : Network) → IsAt n m e → f.frames ≡ e.frames ++ frames → network_after (Calls n call f) m ≡ put_in n f frames m
one_put n call e f frames m there appended =
    ap (λ (o : Option EndpointValue). let r : Network = record { now = m.now; endpoints = write ◌==◌ n f m.endpoints; left = m.left ++ flights m.now o f } in r) there
    ∙ ap (λ (fs : List OutFrameValue). let r : Network = record { now = m.now; endpoints = write ◌==◌ n f m.endpoints; left = m.left ++ puts m.now (drop (length e.frames) fs) } in r) appended
    ∙ ap (λ (fs : List OutFrameValue). put_in n f fs m) (drop-append_seam e.frames frames)

pub put_more : (n : ℕ) (e f : EndpointValue) (xs ys : List OutFrameValue) (m : Network) → put_in n f ys (put_in n e xs m) ≡ put_in n f (xs ++ ys) m
put_more n e f xs ys m =
    ap (λ (es : List (ℕ × EndpointValue)). let r : Network = record { now = m.now; endpoints = es; left = (m.left ++ puts m.now xs) ++ puts m.now ys } in r) (write_again n e f m.endpoints)
    ∙ ap (λ (ls : List Flight). let r : Network = record { now = m.now; endpoints = write ◌==◌ n f m.endpoints; left = ls } in r) (append_assoc m.left (puts m.now xs) (puts m.now ys) ∙ ap (λ (ls : List Flight). m.left ++ ls) (sym (map-append (λ (g : OutFrameValue). record { frame = g; put = m.now }) xs ys)))

put_nothing : (n : ℕ) (e : EndpointValue) (m : Network) → IsAt n m e → m ≡ put_in n e [] m
put_nothing n e m there =
    sym (ap (λ (es : List (ℕ × EndpointValue)). let r : Network = record { now = m.now; endpoints = es; left = m.left ++ [] } in r) (write_same n e m.endpoints there)
    ∙ ap (λ (ls : List Flight). let r : Network = record { now = m.now; endpoints = m.endpoints; left = ls } in r) (append-nil m.left))

module _ (setup : Setup) (n : ℕ) where
  -- STEPS FROM ONE ENDPOINT TO ANOTHER
  pub record Runs (e f : EndpointValue) (steps : List Step) (m : Network) : Type 0 where
    pub are : AreSteps setup steps m
    pub keep : KeepsDuties setup steps m
    pub frames : List OutFrameValue
    pub appended : f.frames ≡ e.frames ++ frames
    pub ends : network_by steps m ≡ put_in n f frames m

  pub no_steps : (e : EndpointValue) (m : Network) → IsAt n m e → Runs e e [] m
  no_steps e m there = record { are = tt; keep = tt; frames = []; appended = sym (append-nil e.frames); ends = put_nothing n e m there }

  -- one call, and steps after it
  pub one_more : (call : Call) (e f g : EndpointValue) (steps : List Step) (m : Network) → IsAt n m e → Does setup n call e f → KeepsFrom setup m n call (Some e) → (frames : List OutFrameValue) → f.frames ≡ e.frames ++ frames
      → Runs f g steps (put_in n f frames m) → Runs e g (Calls n call f ∷ steps) m
  one_more call e f g steps m there does keeps frames appended r =
      let after = one_put n call e f frames m there appended in
      record {
        are = (subst (DoesFrom setup n call f) (sym there) does, subst (AreSteps setup steps) (sym after) r.are);
        keep = (subst (KeepsFrom setup m n call) (sym there) keeps, subst (KeepsDuties setup steps) (sym after) r.keep);
        frames = frames ++ r.frames;
        appended = r.appended ∙ ap (λ (fs : List OutFrameValue). fs ++ r.frames) appended ∙ append_assoc e.frames frames r.frames;
        ends = ap (network_by steps) after ∙ r.ends ∙ put_more n f g frames r.frames m;
      }

  -- all reports are pulled
  pub all_pulled : (e : EndpointValue) (rs : List Told) (g : EndpointValue) (steps : List Step) (m : Network) → IsAt n m (record e { reports = rs })
      → ((k : Network) → k.now ≡ m.now → ((l : Flight) → Contains m.left l → Contains k.left l) → IsAt n k (record e { reports = [] }) → Runs (record e { reports = [] }) g steps k)
      → Runs (record e { reports = rs }) g (pulls setup n e rs ++ steps) m
  all_pulled e [] g steps m there rest = rest m refl (λ l h. h) there
  all_pulled e (r ∷ rs) g steps m there rest =
      one_more PullReport (record e { reports = r ∷ rs }) (record e { reports = rs }) g (pulls setup n e rs ++ steps) m there refl tt [] (sym (append-nil e.frames))
      (all_pulled e rs g steps (put_in n (record e { reports = rs }) [] m) (written_there n (record e { reports = rs }) m.endpoints)
      (λ k now left at. rest k now (λ l h. left l (Contains-append_left m.left [] l h)) at))

  later_on : (base m k : Network) → IsLater base m → k.now ≡ m.now → ((l : Flight) → Contains m.left l → Contains k.left l) → IsLater base k
  later_on base m k later now left = record { now = now ∙ later.now; left = λ g h. left g (later.left g h) }

  pub heard_calls : (base : Network) (x : Node) (call : Call) (f g : EndpointValue) (steps : List Step) (m : Network) → MayCall setup n base call x.endpoint f → IsLater base m → IsAt n m x.endpoint
      → ((k : Network) → IsLater base k → IsAt n k (record f { reports = [] }) → Runs (record f { reports = [] }) g steps k)
      → Runs x.endpoint g (Calls n call f ∷ (pulls setup n f f.reports ++ steps)) m
  heard_calls base x call f g steps m may later there rest =
      one_more call x.endpoint f g (pulls setup n f f.reports ++ steps) m there may.does (may.keeps m later) may.frames may.appended
      (all_pulled f f.reports g steps (put_in n f may.frames m) (written_there n f m.endpoints)
      (λ k now left at. rest k (later_on base m k later now (λ l h. left l (Contains-append_left m.left (puts m.now may.frames) l h))) at))

  pub runs : (base : Network) (x y : Node) (steps : List Step) → Moves setup n base x steps y → (m : Network) → IsLater base m → IsAt n m x.endpoint → Runs x.endpoint y.endpoint steps m
  runs base x y steps (rests {x = z}) m later there = no_steps z.endpoint m there
  runs base x y steps (changes {x = z} {y = u} {steps = ss} h quiet more) m later there = runs base (record z { book = h }) u ss more m later there
  runs base x y steps (calls {x = z} {y = u} {steps = ss} call f may none taken more) m later there =
      heard_calls base z call f u.endpoint ss m may later there (λ k on at. runs base (hears (record z { endpoint = f })) u ss more k on at)
  runs base x y steps (reads {x = z} {y = u} {steps = ss} now g p o os f comes some may more) m later there =
      heard_calls base z (CallRead now g most_read p.octets (answer.Read (length p.octets) p.run p.begin p.end)) f u.endpoint ss m may later there (λ k on at. runs base _ u ss more k on at)
