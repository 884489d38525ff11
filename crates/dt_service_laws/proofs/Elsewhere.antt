-- A node that isn't the end of a flow reads nothing of it, and hands out no request of it.
use Rattle.std.proofs.Common.{ℕ, ◌≡◌, ◌==◌, Bool, true, false, List, [], ◌∷◌, ◌++◌, length, Some, refl, ap, sym, subst, ◌∙◌, inl, inr, append-nil, append_assoc}
use Rattle.std.specs.Prelude.{Contains, cond, fold, map, not, ◌||◌}
use Rattle.std.proofs.lemmas.Bool.{cases_Bool}
use Rattle.dt_items.specs.declared.item.Item.{Item}
use Rattle.dt_units.specs.declared.endpoints.Flow.{Flow}
use Rattle.dt_world_model.proofs.Tables.{flow_is, nat_is, nat_self}
use Rattle.dt_world_model.specs.Tables.{same_flow}
use Rattle.dt_calls_model.specs.Messages.{Piece}
use Rattle.dt_messages.specs.Joining.{whole_within}
use Rattle.dt_endpoint.specs.declared.answers.Delivered.TheVariants as answer
use Rattle.dt_endpoint.specs.Endpoints.{EndpointValue}
use Rattle.dt_network.specs.Duties.{KeepsDuties}
use Rattle.dt_network.specs.Network.{Flight, Network, Setup}
use Rattle.dt_network.specs.Octets.{all_read, items_read, read_if}
use Rattle.dt_network.specs.Steps.{AreSteps, Call, CallRead, Calls, Step, network_by}
use Rattle.dt_service_model.specs.declared.happenings.Happening.{Happening}
use Rattle.dt_service_model.specs.CallBook.{CallBook, longest_message}
use Rattle.dt_service_model.specs.Hearing.{hear}
use Rattle.dt_service_model.specs.Turns.{Node, comes_in, hears, most_read, with_book}
use Rattle.dt_service_model.specs.Whole.{begun_of, grown, take_piece}
use Rattle.dt_service_laws.specs.Histories.{Message, each_of, request_in}
use Rattle.dt_service_laws.specs.Orders.{AreSomeOf, none}
use Rattle.dt_service_laws.specs.Wholes.{listed}
use Rattle.dt_service_laws.proofs.Flows.{IsParcel}
use Rattle.dt_service_laws.proofs.Moves.{IsLater, MayCall, Moves, calls, changes, pulls, reads, rests}
use Rattle.dt_service_laws.proofs.Quiet.{all_heard_quiet}
use Rattle.dt_service_laws.proofs.Runs.{IsAt, heard_calls, no_steps, puts, written_there}
use Rattle.dt_service_laws.proofs.Telling.{behind_read, each_append, said, unsure_requests, whole_tells}
use Rattle.std.proofs.lemmas.List.Elements.{Contains-append_left}

-- networks that keep to the laws: steps lead on to others, an endpoint is its node's, and each frame that left carries a packet
pub record IsLawful (setup : Setup) (Good : Network → Type 0) : Type 0 where
  pub on : (m : Network) (steps : List Step) → Good m → AreSteps setup steps m → KeepsDuties setup steps m → Good (network_by steps m)
  pub named : (m : Network) (n : ℕ) (e : EndpointValue) → Good m → IsAt n m e → e.spent ≡ false → e.state.host.me ≡ n
  pub packets : (m : Network) (g : Flight) → Good m → Contains m.left g → IsParcel g.frame.octets

some_of_none : {A : Type 0} {xs : List A} → AreSomeOf xs [] → xs ≡ []
some_of_none none = refl

abbrev TellsNone : Flow → List Happening → Type 0
TellsNone g told = each_of (request_in g) told ≡ []

pub record IsElsewhere (g : Flow) (steps : List Step) (h k : CallBook) : Type 0 where
  pub none : all_read g steps ≡ []
  pub told : List Happening
  pub happenings : k.happenings ≡ h.happenings ++ told
  pub requests : each_of (request_in g) told ≡ []

none_then : (g : Flow) (steps more : List Step) (h k l : CallBook) (told : List Happening) → all_read g more ≡ all_read g steps → k.happenings ≡ h.happenings ++ told → TellsNone g told → IsElsewhere g steps k l → IsElsewhere g more h l
none_then g steps more h k l told same is nothing e = record {
  none = same ∙ e.none;
  told = told ++ e.told;
  happenings = e.happenings ∙ ap (λ (hs : List Happening). hs ++ e.told) is ∙ append_assoc h.happenings told e.told;
  requests = each_append (request_in g) told e.told ∙ ap (λ (ms : List Message). ms ++ each_of (request_in g) e.told) nothing ∙ e.requests;
}

module _ (setup : Setup) (Good : Network → Type 0) (law : IsLawful setup Good) (n : ℕ) (base : Network) where
  -- the network after a call and its pulls
  pub record Behind (f : EndpointValue) : Type 0 where
    pub net : Network
    pub later : IsLater base net
    pub there : IsAt n net (record f { reports = [] })
    pub good : Good net

  pub behind : (m : Network) (x : Node) (call : Call) (f : EndpointValue) → MayCall setup n base call x.endpoint f → IsLater base m → IsAt n m x.endpoint → Good m → Behind f
  behind m x call f may later there good =
      let steps = Calls n call f ∷ (pulls setup n f f.reports ++ []) in
      let r = heard_calls setup n base x call f (record f { reports = [] }) [] m may later there (λ k on at. no_steps setup n (record f { reports = [] }) k at) in
      record {
        net = network_by steps m;
        later = subst (IsLater base) (sym r.ends) (record { now = later.now; left = λ fl h. Contains-append_left m.left (puts m.now r.frames) fl (later.left fl h) });
        there = subst (λ (k : Network). IsAt n k (record f { reports = [] })) (sym r.ends) (written_there n (record f { reports = [] }) m.endpoints);
        good = law.on m steps good r.are r.keep;
      }

module _ (setup : Setup) (Good : Network → Type 0) (law : IsLawful setup Good) (n : ℕ) (base : Network) (g : Flow) (other : (n == g.to.0) ≡ false) where
  pub not_here : (x : Node) (k : Flow) (m : Network) → Good m → IsAt n m x.endpoint → x.endpoint.spent ≡ false → comes_in x k ≡ true → same_flow k g ≡ false
  not_here x k m good there unspent comes =
      let me = law.named m n x.endpoint good there unspent in
      let to : (k.to.0 == x.endpoint.state.host.me) ≡ true = first_of_both (k.to.0 == x.endpoint.state.host.me) (k.from.0 == x.endpoint.state.host.me) comes in
      let is : k.to.0 ≡ n = nat_is k.to.0 x.endpoint.state.host.me to ∙ me in
      elim (cases_Bool (same_flow k g)) [
        | inl y ↦
            let same = flow_is k g y in
            let here : n ≡ g.to.0 = sym is ∙ ap (λ (f : Flow). f.to.0) same in
            let yes : (n == g.to.0) ≡ true = subst (λ (j : ℕ). (n == j) ≡ true) here (nat_self n) in
            absurd cc
        | inr o ↦ o
      ]
    where
      first_of_both : (a b : Bool) → not (not a || b) ≡ true → a ≡ true
      first_of_both true b h = refl
      first_of_both false b h = absurd cc

  piece_none : (k : Flow) (p : Piece) (h : CallBook) → same_flow k g ≡ false → (told : List Happening) × ((take_piece k p h).happenings ≡ h.happenings ++ told) × TellsNone g told
  piece_none k p h apart =
      let whole = whole_within (Some longest_message) (begun_of k h) p in
      let w = whole_tells k g whole (grown k (begun_of k h) p h) in
      (w.told, w.happenings, some_of_none (subst (λ (t : Bool). AreSomeOf (each_of (request_in g) w.told) (cond t (map said (listed whole)) [])) apart w.requests))

  pub elsewhere : (x y : Node) (steps : List Step) → Moves setup n base x steps y → (m : Network) → IsLater base m → IsAt n m x.endpoint → Good m → x.endpoint.spent ≡ false → IsElsewhere g steps x.book y.book
  elsewhere x y steps (rests {x = z}) m later there good unspent = record { none = refl; told = []; happenings = sym (append-nil z.book.happenings); requests = refl }
  elsewhere x y steps (changes {x = z} {y = u} {steps = ss} h quiet more) m later there good unspent =
      none_then g ss ss z.book h u.book quiet.told refl quiet.happenings (unsure_requests g quiet.told quiet.unsure) (elsewhere (record z { book = h }) u ss more m later there good unspent)
  elsewhere x y steps (calls {x = z} {y = u} {steps = ss} call f may nothing taken more) m later there good unspent =
      let b = behind setup Good law n base m z call f may later there good in
      let quiet = all_heard_quiet f.reports z.book in
      none_then g ss (Calls n call f ∷ (pulls setup n f f.reports ++ ss)) z.book (fold hear z.book f.reports) u.book quiet.told (ap (λ (is : List Item). is ++ all_read g (pulls setup n f f.reports ++ ss)) (nothing g) ∙ behind_read setup n g f f.reports ss) quiet.happenings (unsure_requests g quiet.told quiet.unsure)
      (elsewhere (hears (record z { endpoint = f })) u ss more b.net b.later b.there b.good may.unspent)
  elsewhere x y steps (reads {x = z} {y = u} {steps = ss} now k p o os f comes some may more) m later there good unspent =
      let b = behind setup Good law n base m z (CallRead now k most_read p.octets (answer.Read (length p.octets) p.run p.begin p.end)) f may later there good in
      let apart = not_here z k m good there unspent comes in
      let heard = fold hear z.book f.reports in
      let quiet = all_heard_quiet f.reports z.book in
      let piece = piece_none k p heard apart in
      let rest = elsewhere (with_book (take_piece k p) (hears (record z { endpoint = f }))) u ss more b.net b.later b.there b.good may.unspent in
      let same : read_if (same_flow k g) (items_read (answer.Read (length p.octets) p.run p.begin p.end) p.octets) ++ all_read g (pulls setup n f f.reports ++ ss) ≡ all_read g ss =
      ap (λ (t : Bool). read_if t (items_read (answer.Read (length p.octets) p.run p.begin p.end) p.octets) ++ all_read g (pulls setup n f f.reports ++ ss)) apart ∙ behind_read setup n g f f.reports ss in
      none_then g ss _ z.book heard u.book quiet.told same quiet.happenings (unsure_requests g quiet.told quiet.unsure) (none_then g ss ss heard (take_piece k p heard) u.book piece.0 refl piece.1 piece.2 rest)
