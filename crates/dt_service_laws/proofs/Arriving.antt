-- The requests of a flow that are handed out are calls of it, in their order.
use Rattle.std.proofs.Common.{ℕ, ◌+◌, ◌<◌, ◌≤◌, ◌^◌, ◌≡◌, ◌==◌, Bool, true, false, List, [], ◌∷◌, ◌++◌, map, Option, Some, None, refl, ap, sym, subst, ◌∙◌, inl, inr, append-nil, arith}
use Rattle.std.specs.Prelude.{Contains, cond, option_map}
use Rattle.std.proofs.lemmas.Bool.{cases_Bool}
use Rattle.std.proofs.lemmas.List.Elements.{All-nil}
use Rattle.dt_items.specs.declared.item.Item.{Item}
use Rattle.dt_units.specs.declared.endpoints.Flow.{Flow}
use Rattle.dt_world_model.proofs.Tables.{flow_is, nat_is}
use Rattle.dt_world_model.specs.Host.{one_if}
use Rattle.dt_world_model.specs.Tables.{look, same_flow}
use Rattle.dt_calls_laws.specs.Wholes.{AreSome}
use Rattle.dt_calls_model.specs.Messages.{reversed}
use Rattle.dt_endpoint.specs.Endpoints.{EndpointValue}
use Rattle.dt_network.specs.Duties.{KeepsDuties}
use Rattle.dt_network.specs.Network.{Network, Setup, new_network}
use Rattle.dt_network.specs.Octets.{AreTaken, IsReadOf, all_read}
use Rattle.dt_network.specs.Steps.{AreSteps, Step}
use Rattle.dt_service_model.specs.declared.calls.OpenCall.{OpenCall}
use Rattle.dt_service_model.specs.declared.names.CallNumber.{CallNumber}
use Rattle.dt_service_model.specs.declared.ports.PortKind.{PortKind}
use Rattle.dt_service_model.specs.declared.ports.Most.{Most}
use Rattle.dt_service_model.specs.Names.{same_number}
use Rattle.dt_service_model.specs.Turns.{Node}
use Rattle.dt_service_laws.specs.Fates.{calls_at}
use Rattle.dt_service_laws.specs.Histories.{Message, answers_at, at_node, call_by, calls_on, count_of, in_turn, lives_at, replies_on, reply_by, requests_on, spelled}
use Rattle.dt_service_laws.specs.Orders.{AreSomeOf, none, skips, takes}
use Rattle.dt_service_laws.specs.Premises.{Differ, IsLife, IsServed, KeepsKind, KeepsKinds}
use Rattle.dt_service_laws.specs.Services.{Deed, Does, Passes, Services, Turn, new_services, node_after, node_does, node_with, services_after}
use Rattle.dt_service_laws.specs.Tie.{AreSentOf, IsSentOf, TakesCallsAlone, has_memory}
use Rattle.dt_service_laws.specs.Wholes.{messages_in}
use Rattle.dt_service_laws.proofs.Answering.{contains_first, contains_more, contains_parts, number_is, number_self, some_contains}
use Rattle.dt_service_laws.proofs.Numbering.{numbers_once, two_flows}
use Rattle.dt_service_laws.proofs.Elsewhere.{IsLawful}
use Rattle.dt_service_laws.proofs.Moves.{Tracks}
use Rattle.dt_service_laws.proofs.Orders.{mapped, some_through}
use Rattle.dt_service_laws.proofs.Owed.{KeepsFrom, KeepsTurn, KeepsTurns, all_owed}
use Rattle.dt_service_laws.proofs.Pieces.{read_back}
use Rattle.dt_service_laws.proofs.Posting.{fewer_of, sent_some}
use Rattle.dt_service_laws.proofs.Sound.{AreFit, IsSound, calls_fit, fit_said, new_sound, no_call_back, no_reply_there, said_again, sound_deed}
use Rattle.dt_service_laws.proofs.Telling.{said}
use Rattle.dt_service_laws.proofs.Sent.{sent_on}
use Rattle.dt_service_laws.proofs.Turned.{AreOn, Waits, and_then, calls_made, made_in, ran, turned}
use Rattle.dt_service_laws.proofs.Wholes.{in_order}

pub fit_both : (xs ys : List Message) → AreFit xs → AreFit ys → AreFit (xs ++ ys)
fit_both [] ys h k = k
fit_both (x ∷ xs) ys h k = (h.0, h.1, fit_both xs ys h.2 k)

pub some_fit : {xs ys : List Message} → AreSomeOf xs ys → AreFit ys → AreFit xs
some_fit none fit = tt
some_fit (takes h) fit = (fit.0, fit.1, some_fit h fit.2)
some_fit (skips h) fit = some_fit h fit.2

-- counting
counts_some : (ms : List Message) (x : Message) → Contains ms x → 0 < count_of x.number ms
counts_some [] x there = absurd (let lt = there.1 in omega (arith, lt))
counts_some (m ∷ ms) x there =
    elim (contains_parts m x ms there) [
      | inl same ↦ (let one : one_if (same_number m.number x.number) ≡ 1 = ap one_if (ap (λ (y : Message). same_number y.number x.number) same ∙ number_self x.number) in omega (arith, one))
      | inr more ↦ (let l = counts_some ms x more in omega (arith, l))
    ]

counted_some : (n : CallNumber) (ms : List Message) → 0 < count_of n ms → (m : Message) × Contains ms m × (m.number ≡ n)
counted_some n [] some = absurd (omega (arith, some))
counted_some n (m ∷ ms) some =
    elim (cases_Bool (same_number m.number n)) [
      | inl y ↦ (m, contains_first m m ms refl, number_is m.number n y)
      | inr o ↦
          let here : one_if (same_number m.number n) ≡ 0 = ap one_if o in
          let more = counted_some n ms (omega (arith, some, here)) in
          (more.0, contains_more m more.0 ms more.1, more.2)
    ]

fit_at : (ms : List Message) (x : Message) → AreFit ms → Contains ms x → (x.number.life < 2 ^ 32) × (x.number.count < 2 ^ 32)
fit_at [] x fit there = absurd (let lt = there.1 in omega (arith, lt))
fit_at (m ∷ ms) x fit there = elim (contains_parts m x ms there) [ inl same ↦ subst (λ (y : Message). (y.number.life < 2 ^ 32) × (y.number.count < 2 ^ 32)) same (fit.0, fit.1) | inr more ↦ fit_at ms x fit.2 more ]

from_mapped : (g : Message → Message) (ms : List Message) (a : Message) → Contains (map g ms) a → (m : Message) × Contains ms m × (g m ≡ a)
from_mapped g [] a there = absurd (let lt = there.1 in omega (arith, lt))
from_mapped g (m ∷ ms) a there =
    elim (contains_parts (g m) a (map g ms) there) [
      | inl same ↦ (m, contains_first m m ms refl, same)
      | inr more ↦ (let f = from_mapped g ms a more in (f.0, contains_more m f.0 ms f.1, f.2))
    ]

map_twice : (ms : List Message) → map said (map spelled ms) ≡ map (λ (x : Message). said (spelled x)) ms
map_twice [] = refl
map_twice (m ∷ ms) = ap (λ (xs : List Message). said (spelled m) ∷ xs) (map_twice ms)

-- what is read of messages that were sent is what they say, and what is said of replies is a reply
read_said : (read taken : List (List ℕ)) (ms : List Message) → AreSomeOf read taken → taken ≡ map spelled ms → AreSomeOf (map said read) (map said (map spelled ms))
read_said read taken ms some is = subst (λ (l : List (List ℕ)). AreSomeOf (map said read) (map said l)) is (mapped said some)

given_back : (replies requests calls : List Message) (a : Message) → Contains (map said (map spelled replies)) a → AreFit calls → ((m : CallNumber) → count_of m replies ≤ count_of m requests) → ((m : CallNumber) → count_of m requests ≤ count_of m calls) → Contains replies a
given_back replies requests calls a given fit few fewer =
    let from = from_mapped (λ (x : Message). said (spelled x)) replies a (subst (λ (ms : List Message). Contains ms a) (map_twice replies) given) in
    let once = counts_some replies from.0 from.1 in
    let l = few from.0.number in
    let m = fewer from.0.number in
    let call = counted_some from.0.number calls (omega (arith, once, l, m)) in
    let fits = fit_at calls call.0 fit call.1 in
    let same : from.0 ≡ a = sym (said_again from.0 (subst (λ (k : CallNumber). k.life < 2 ^ 32) call.2 fits.0) (subst (λ (k : CallNumber). k.count < 2 ^ 32) call.2 fits.1)) ∙ from.2 in
    subst (λ (x : Message). Contains replies x) same from.1

pub spelled_some : (ms : List Message) → AreSome (map spelled ms)
spelled_some [] = tt
spelled_some (m ∷ ms) = (omega arith, spelled_some ms)

module _ (setup : Setup) (Good : Network → Type 0) (law : IsLawful setup Good) (kinds : (node port : ℕ) → PortKind) where
  abbrev pub AreSound : Services → Type 0
  AreSound s = (k : ℕ) → IsSound kinds k (s.book k)

  -- one turn
  pub record Alone (f : Flow) (v : Services) (sent calls returned replies : List Message) : Type 0 where
    pub sound : AreSound v
    pub alone : sent ≡ calls
    pub fit : AreFit calls
    pub back : returned ≡ replies

  alone_at : (f : Flow) → IsServed kinds f → (s : Services) → Good s.network → AreOn setup Good law s → AreSound s → (n : ℕ) (deed : Deed) → KeepsKind kinds n deed → (o : Option EndpointValue) → look ◌==◌ n s.network.endpoints ≡ o → KeepsFrom setup s.network n deed (option_map (node_with n s) o)
      → Alone f (node_does setup n deed s (option_map (node_with n s) o)) (at_node (sent_on f deed) (option_map (node_with n s) o)) (at_node (call_by f deed) (option_map (node_with n s) o)) (at_node (sent_on (reversed f) deed) (option_map (node_with n s) o)) (at_node (reply_by f deed) (option_map (node_with n s) o))
  alone_at f served s good on sound n deed agrees None found keeps = record { sound = sound; alone = refl; fit = tt; back = refl }
  alone_at f served s good on sound n deed agrees (Some e) found keeps =
      let x = node_with n s e in
      let y = node_after setup n deed x in
      let here = sound_deed kinds n setup s.network x deed agrees keeps.0 (sound n) in
      let me = law.named s.network n e good found in
      record {
        sound = λ k. by_test k (n == k) refl here;
        alone = ap (λ (ms : List Message). call_by f deed x ++ ms) (no_reply_there kinds n f served x (sound n) me deed) ∙ append-nil (call_by f deed x);
        fit = calls_fit f deed x (sound n).life;
        back = ap (λ (ms : List Message). ms ++ reply_by f deed x) (no_call_back kinds n f served x (sound n) me deed);
      }
    where
      by_test : (k : ℕ) (b : Bool) → (n == k) ≡ b → IsSound kinds n (node_after setup n deed (node_with n s e)).book → IsSound kinds k (cond b (node_after setup n deed (node_with n s e)).book (s.book k))
      by_test k true is h = subst (λ (j : ℕ). IsSound kinds j (node_after setup n deed (node_with n s e)).book) (nat_is n k is) h
      by_test k false is h = sound k

  abbrev pub KeepsKindIn : Turn → Type 0
  KeepsKindIn (Passes by) = Unit {0}
  KeepsKindIn (Does n deed) = KeepsKind kinds n deed

  pub alone_in : (f : Flow) → IsServed kinds f → (s : Services) → Good s.network → AreOn setup Good law s → AreSound s → (t : Turn) → KeepsKindIn t → KeepsTurn setup t s → Alone f (services_after setup t s) (in_turn (λ n. sent_on f) t s) (in_turn (λ n. call_by f) t s) (in_turn (λ n. sent_on (reversed f)) t s) (in_turn (λ n. reply_by f) t s)
  alone_in f served s good on sound (Passes by) agrees keeps = record { sound = sound; alone = refl; fit = tt; back = refl }
  alone_in f served s good on sound (Does n deed) agrees keeps = alone_at f served s good on sound n deed agrees (look ◌==◌ n s.network.endpoints) refl keeps

  pub kinds_parts : (t : Turn) (turns : List Turn) → KeepsKinds kinds (t ∷ turns) → KeepsKindIn t × KeepsKinds kinds turns
  kinds_parts (Passes by) turns h = (tt, h)
  kinds_parts (Does n deed) turns h = h

  -- all turns
  pub record AllAlone (f : Flow) (turns : List Turn) (s : Services) : Type 0 where
    pub fit : AreFit (calls_on f setup turns s)
    pub sent : (all : List Message) → AreSentOf (λ n. sent_on f) setup turns s all → AreSentOf (λ n. call_by f) setup turns s all
    pub back : (all : List Message) → AreSentOf (λ n. sent_on (reversed f)) setup turns s all → AreSentOf (λ n. reply_by f) setup turns s all

  same_sent : (some others : ℕ → Deed → Node → List Message) (t : Turn) (turns : List Turn) (s : Services) → in_turn some t s ≡ in_turn others t s → ((all : List Message) → AreSentOf some setup turns (services_after setup t s) all → AreSentOf others setup turns (services_after setup t s) all)
      → (all : List Message) → AreSentOf some setup (t ∷ turns) s all → AreSentOf others setup (t ∷ turns) s all
  same_sent some others t turns s same rest all h = (h.0, h.1, subst (λ (ms : List Message). IsSentOf (has_memory t) ms h.0) same h.2, rest h.1 h.3, h.4)

  pub calls_alone : (f : Flow) → IsServed kinds f → (turns : List Turn) (b : Option (List ℕ)) (past : Flow → CallNumber → ℕ) (s : Services) → Good s.network → AreOn setup Good law s → AreSound s → Tracks f b (s.book f.to.0).begun → Waits setup Good law past (s.book f.to.0).calls → KeepsKinds kinds turns → KeepsTurns setup turns s → AllAlone f turns s
  calls_alone f served [] b past s good on sound tracks waits agree keeps = record { fit = tt; sent = λ all h. h; back = λ all h. h }
  calls_alone f served (t ∷ turns) b past s good on sound tracks waits agree keeps =
      let parts = kinds_parts t turns agree in
      let first = turned setup Good law f b past s good on tracks waits t keeps.0 in
      let one = alone_in f served s good on sound t parts.0 keeps.0 in
      let v = services_after setup t s in
      let good_next : Good v.network = subst Good first.ends (law.on s.network first.steps good first.are first.keep) in
      let rest = calls_alone f served turns _ (and_then setup Good law past (made_in setup Good law f t s)) v good_next first.on one.sound first.begun first.waits parts.1 keeps.1 in
      record {
        fit = fit_both (in_turn (λ n. call_by f) t s) (calls_on f setup turns v) one.fit rest.fit;
        sent = same_sent (λ n. sent_on f) (λ n. call_by f) t turns s one.alone rest.sent;
        back = same_sent (λ n. sent_on (reversed f)) (λ n. reply_by f) t turns s one.back rest.back;
      }

  -- REQUESTS ARE CALLS, where what is read is what was sent
  module _ (most : ℕ → Most) (life : ℕ → ℕ) (lives : (n : ℕ) → IsLife (life n)) (new : Good (new_network setup)) (on : AreOn setup Good law (new_services setup most life))
      (network : (f : Flow) (steps : List Step) → AreSteps setup steps (new_network setup) → KeepsDuties setup steps (new_network setup) → (taken : List Item) × AreTaken f steps taken × IsReadOf false (all_read f steps) taken) where
    abbrev start : Services
    start = new_services setup most life

    no_waits : Waits setup Good law (λ g m. 0) []
    no_waits = All-nil (λ (c : OpenCall). c.waits ≡ true → 0 < 0)

    -- what is sent on a flow, and what comes of it
    pub record SentCome (f : Flow) (turns : List Turn) : Type 0 where
      pub all : List Message
      pub sent : AreSentOf (λ n. sent_on f) setup turns start all
      pub come : AreSomeOf (requests_on f setup turns start) (map said (map spelled all))

    pub sent_come : (f : Flow) (turns : List Turn) → KeepsTurns setup turns start → SentCome f turns
    sent_come f turns keeps =
        let r = ran setup Good law f turns None (λ g m. 0) start new on (inl refl) no_waits keeps in
        let t = network f r.steps r.are r.keep in
        let sent = r.takes t.0 t.1 in
        let taken : messages_in t.0 ≡ map spelled sent.0 = ap messages_in sent.2 ∙ read_back (map spelled sent.0) (spelled_some sent.0) in
        record {
          all = sent.0;
          sent = sent.1;
          come = subst (λ (ms : List (List ℕ)). AreSomeOf (requests_on f setup turns start) (map said ms)) taken (some_through r.some (mapped said (in_order (all_read f r.steps) t.0 t.2)));
        }

    all_alone : (f : Flow) → IsServed kinds f → (turns : List Turn) → KeepsKinds kinds turns → KeepsTurns setup turns start → AllAlone f turns start
    all_alone f served turns agree keeps = calls_alone f served turns None (λ g m. 0) start new on (λ k. new_sound kinds k (most k) (life k) (lives k)) (inl refl) no_waits agree keeps

    pub requests_come : (f : Flow) → IsServed kinds f → (turns : List Turn) → KeepsKinds kinds turns → KeepsTurns setup turns start → AreSomeOf (requests_on f setup turns start) (calls_on f setup turns start)
    requests_come f served turns agree keeps =
        let c = all_alone f served turns agree keeps in
        let s = sent_come f turns keeps in
        let some = sent_some setup (λ n. call_by f) turns start s.all (c.sent s.all s.sent) in
        some_through (subst (λ (ms : List Message). AreSomeOf (requests_on f setup turns start) ms) (fit_said s.all (some_fit some c.fit)) s.come) some

    -- a caller's flow takes its calls alone
    pub calls_taken : (f : Flow) → IsServed kinds f → (turns : List Turn) → KeepsKinds kinds turns → KeepsTurns setup turns start → TakesCallsAlone setup f turns start
    calls_taken f served turns agree keeps =
        let r = ran setup Good law f turns None (λ g m. 0) start new on (inl refl) no_waits keeps in
        let c = all_alone f served turns agree keeps in
        record { steps = r.steps; are = r.are; keep = r.keep; taken = λ taken t. (let sent = r.takes taken t in (sent.0, c.sent sent.0 sent.1, sent.2)) }

    -- how often a name stands among calls, requests and replies
    pub requests_few : (f : Flow) → IsServed kinds f → (turns : List Turn) → KeepsKinds kinds turns → KeepsTurns setup turns start → (m : CallNumber) → count_of m (requests_on f setup turns start) ≤ count_of m (calls_on f setup turns start)
    requests_few f served turns agree keeps m = fewer_of m (requests_come f served turns agree keeps)

    pub replies_few : (f : Flow) (turns : List Turn) → KeepsTurns setup turns start → (m : CallNumber) → count_of m (replies_on f setup turns start) ≤ count_of m (requests_on f setup turns start)
    replies_few f turns keeps m = let o = (ran setup Good law f turns None (λ g n. 0) start new on (inl refl) no_waits keeps).opens m in omega (arith, o)

    calls_few_at : (f : Flow) (turns : List Turn) → KeepsTurns setup turns start → calls_on f setup turns start ≡ calls_made setup Good law (reversed f) turns start f
    calls_few_at f turns keeps = (ran setup Good law (reversed f) turns None (λ g n. 0) start new on (inl refl) no_waits keeps).here f refl

    -- a flow that no call has
    abbrev nowhere : Flow → Flow
    nowhere f = record { from = f.from; from_port = f.from_port; to = f.to; to_port = f.to_port + 1 }

    nowhere_apart : (f : Flow) → same_flow (nowhere f) f ≡ false
    nowhere_apart f = by_test (same_flow (nowhere f) f) refl
      where
        by_test : (b : Bool) → same_flow (nowhere f) f ≡ b → b ≡ false
        by_test true is = (let e : f.to_port + 1 ≡ f.to_port = ap (λ (g : Flow). g.to_port) (flow_is (nowhere f) f is) in absurd (omega (arith, e)))
        by_test false is = refl

    all_few : (c : ℕ) (turns : List Turn) → KeepsTurns setup turns start → Differ (life c ∷ lives_at c setup turns start) → (m : CallNumber) → count_of m (calls_at c setup turns start) ≤ 1
    all_few c turns keeps differ m = (numbers_once setup c turns start m (all_owed setup turns start keeps) differ).once

    pub calls_few : (f : Flow) (turns : List Turn) → KeepsTurns setup turns start → Differ (life f.from.0 ∷ lives_at f.from.0 setup turns start) → (m : CallNumber) → count_of m (calls_on f setup turns start) ≤ 1
    calls_few f turns keeps differ m =
        let e = ap (count_of m) (calls_few_at f turns keeps) in
        let two = two_flows setup f.from.0 m f (nowhere f) (nowhere_apart f) turns start in
        let all = all_few f.from.0 turns keeps differ m in
        omega (arith, e, two, all)

    -- ANSWERS
    pub answers_come : (f : Flow) → IsServed kinds f → (turns : List Turn) → KeepsKinds kinds turns → KeepsTurns setup turns start → Differ (life f.from.0 ∷ lives_at f.from.0 setup turns start)
        → (a : Message) → Contains (answers_at f.from.0 setup turns start) a → 0 < count_of a.number (calls_on f setup turns start) → Contains (replies_on f setup turns start) a
    answers_come f served turns agree keeps differ a there called =
        let r = ran setup Good law (reversed f) turns None (λ g n. 0) start new on (inl refl) no_waits keeps in
        let c = all_alone f served turns agree keeps in
        elim (r.answered a there) [
          | inl read ↦
              let t = network (reversed f) r.steps r.are r.keep in
              let sent = r.takes t.0 t.1 in
              let replies = replies_on f setup turns start in
              let some_replies = sent_some setup (λ n. reply_by f) turns start sent.0 (c.back sent.0 sent.1) in
              let taken : messages_in t.0 ≡ map spelled sent.0 = ap messages_in sent.2 ∙ read_back (map spelled sent.0) (spelled_some sent.0) in
              let some = read_said (messages_in (all_read (reversed f) r.steps)) (messages_in t.0) sent.0 (in_order (all_read (reversed f) r.steps) t.0 t.2) taken in
              let few : (m : CallNumber) → count_of m sent.0 ≤ count_of m (requests_on f setup turns start) = λ (m : CallNumber). (let l = fewer_of m some_replies in let k = replies_few f turns keeps m in omega (arith, l, k)) in
              some_contains a some_replies (given_back sent.0 (requests_on f setup turns start) (calls_on f setup turns start) a (some_contains a some read) c.fit few (requests_few f served turns agree keeps))
          | inr o ↦
              let e = ap (count_of a.number) (calls_few_at f turns keeps) in
              let two = two_flows setup f.from.0 a.number f o.flow o.other turns start in
              let all = all_few f.from.0 turns keeps differ a.number in
              let made = o.made in
              absurd (omega (arith, called, e, two, all, made))
        ]
