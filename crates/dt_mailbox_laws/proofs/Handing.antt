-- What a mailbox hands out of a flow are messages of what its reads found.
use Rattle.std.proofs.Common.{◌≡◌, ◌∙◌, ◌<◌, ℕ, Bool, true, false, List, [], ◌∷◌, ◌++◌, append-nil, append_assoc, drop, length, take, Option, Some, None, refl, sym, ap, subst, inl, inr}
use Rattle.std.specs.Prelude.{Result, Ok, Err, set, slice_index_or}
use Rattle.std.proofs.Math.Seq.{take-append_seam}
use Rattle.std.proofs.lemmas.Bool.{cases_Bool}
use Rattle.dt_items.specs.declared.item.Item.{Item}
use Rattle.dt_units.specs.declared.endpoints.Flow.{Flow}
use Rattle.dt_world_model.specs.Tables.{same_flow}
use Rattle.dt_endpoint.specs.Endpoints.{EndpointValue}
use Rattle.dt_inbox.specs.declared.inboxes.TakenMessage.{TakenMessage}
use Rattle.dt_inbox.specs.declared.inboxes.TakenMessage.TheVariants as taken
use Rattle.dt_inbox.specs.declared.mailboxes.Handed.{Handed}
use Rattle.dt_inbox.specs.declared.mailboxes.Handed.TheVariants as handed
use Rattle.dt_inbox.specs.declared.mailboxes.Letter.{Letter}
use Rattle.dt_inbox.specs.FlowInboxes.{FlowInboxValue, FlowInboxesValue, PassesOn, TakesAny, TakesFrom, TakesNext, is_due, is_of, is_over, no_pass, piece_room}
use Rattle.dt_inbox.specs.FlowInboxes as passes
use Rattle.dt_inbox.specs.Inboxes.{most_reads}
use Rattle.dt_inbox.specs.Mailboxes.{Fetches, HandsFetched, HandsOut, MailboxValue, TakesInto, buffer_after, handed_of, has_room, letter_in, letter_of, waiting_after}
use Rattle.dt_network.specs.Network.{Network}
use Rattle.dt_network.specs.Octets.{AreTaken, IsReadOf, all_read}
use Rattle.dt_network.specs.Steps.{Step}
use Rattle.dt_service_laws.specs.Orders.{AreSomeOf, none}
use Rattle.dt_service_laws.specs.Wholes.{begun_after, messages_from, messages_in}
use Rattle.dt_service_laws.proofs.Orders.{all_of, both, keep, skip, some_through}
use Rattle.dt_service_laws.proofs.Pieces.{begun_append, messages_append}
use Rattle.dt_service_laws.proofs.Wholes.{IsSameOrNone, in_order}
use Rattle.dt_mailbox_laws.specs.Mails.{Mails, anew, forgets, goes, hears, letters_of, messages_for, octets_if, reads_any, reads_fetched, reads_from, reads_into, reads_next, reads_passed, rests, takes}
use Rattle.dt_mailbox_laws.proofs.Kept.{IsKept, kept_begun, kept_heard, kept_removed, kept_set, kept_without, placed_within}
use Rattle.dt_mailbox_laws.proofs.Finding.{in_goes, in_other, read_append, whole_of}

-- the message of a flow that was made whole, and the one that waits
abbrev messages_if : Bool → List (List ℕ) → List (List ℕ)
messages_if true ms = ms
messages_if false ms = []

abbrev whole_for : Flow → Option (Flow × TakenMessage) → List (List ℕ)
whole_for f None = []
whole_for f (Some a) = messages_if (same_flow a.0 f) (whole_of a.1)

abbrev waiting_for : Flow → Option Letter → List (List ℕ)
waiting_for f None = []
waiting_for f (Some l) = octets_if (same_flow l.flow f) l.message.octets

if_one : (b : Bool) (octets : List ℕ) → messages_if b (octets ∷ []) ≡ octets_if b octets
if_one true octets = refl
if_one false octets = refl

some_of_same : (xs ys : List (List ℕ)) → xs ≡ ys → AreSomeOf xs ys
some_of_same xs ys same = subst (λ (zs : List (List ℕ)). AreSomeOf xs zs) same (all_of xs)

-- INBOXES after some reads
record InboxesGo (f : Flow) (answer : Option (Flow × TakenMessage)) (w : FlowInboxesValue) (t : Option (List ℕ)) (items : List Item) : Type 0 where
  kept : IsKept f (begun_after t items) w.inboxes
  whole : AreSomeOf (whole_for f answer) (messages_from t items)

module _ (f : Flow) (n : ℕ) where
  module _ {answer : Flow × TakenMessage} {now room : ℕ} {v w : FlowInboxesValue} {e g : EndpointValue} (h : TakesFrom answer now room v w e g) (t : Option (List ℕ)) (kept : IsKept f t v.inboxes) where
    abbrev flow : Flow
    flow = h.before.inbox.flow

    abbrev items : List Item
    items = all_read f (reads_from n h)

    within : h.place < length v.inboxes
    within = placed_within is_due v.inboxes h.place h.first

    same_flow_after : is_of f h.after ≡ is_of f h.before
    same_flow_after = ap (λ (x : Flow). same_flow x f) h.takes.takes.flow

    -- the inbox at the place is another
    set_kept : (u : Option (List ℕ)) → (is_of f h.before ≡ true → IsSameOrNone h.after.inbox.joiner.begun u) → (is_of f h.before ≡ false → u ≡ t) → IsKept f u (set v.inboxes h.place h.after)
    set_kept u change still =
        let at = slice_index_or v.inboxes h.place h.after in
        kept_set f t u v.inboxes h.place h.after h.after within (same_flow_after ∙ ap (is_of f) h.found)
        (λ y s. change (ap (is_of f) h.found ∙ y)) (λ o. still (ap (is_of f) h.found ∙ o)) kept

    after_kept : (u : Option (List ℕ)) → IsKept f u (set v.inboxes h.place h.after) → IsKept f u w.inboxes
    after_kept u k = subst (λ (x : FlowInboxesValue). IsKept f u x.inboxes) (sym h.others) (elim (cases_Bool (is_over h.after g)) [ inl y ↦ rw y (kept_removed f u (set v.inboxes h.place h.after) h.place k) | inr o ↦ rw o k ])

    of_flow : same_flow flow f ≡ true → InboxesGo f (Some answer) w t items
    of_flow y =
        let was : IsSameOrNone h.before.inbox.joiner.begun t =
        subst (λ (x : FlowInboxValue). IsSameOrNone x.inbox.joiner.begun t) (sym h.found) (kept_begun f t v.inboxes h.place h.after within kept (sym (ap (is_of f) h.found) ∙ y)) in
        let go = in_goes f n now flow room y answer.1 most_reads h.before.inbox.joiner h.after.inbox.joiner e g h.takes.takes.takes t was in
        let here : same_flow answer.0 f ≡ true = ap (λ (x : Flow). same_flow x f) h.takes.flow ∙ y in
        record {
          kept = after_kept (begun_after t items) (set_kept (begun_after t items) (λ z. go.begun) (λ o. let no : true ≡ false = sym y ∙ o in absurd cc));
          whole = subst (λ (b : Bool). AreSomeOf (messages_if b (whole_of answer.1)) (messages_from t items)) (sym here) go.whole;
        }

    of_other : same_flow flow f ≡ false → InboxesGo f (Some answer) w t items
    of_other o =
        let nothing : items ≡ [] = in_other f n now flow room o answer.1 most_reads h.before.inbox.joiner h.after.inbox.joiner e g h.takes.takes.takes in
        let still : begun_after t items ≡ t = ap (begun_after t) nothing in
        let other : same_flow answer.0 f ≡ false = ap (λ (x : Flow). same_flow x f) h.takes.flow ∙ o in
        record {
          kept = after_kept (begun_after t items) (set_kept (begun_after t items) (λ y. let no : true ≡ false = sym y ∙ o in absurd cc) (λ z. still));
          whole = subst (λ (b : Bool). AreSomeOf (messages_if b (whole_of answer.1)) (messages_from t items)) (sym other) none;
        }

    from_goes : InboxesGo f (Some answer) w t items
    from_goes = elim (cases_Bool (same_flow flow f)) [ inl y ↦ of_flow y | inr o ↦ of_other o ]

  passes_go : {now : ℕ} {v : FlowInboxesValue} {e : EndpointValue} {count : ℕ} {w : FlowInboxesValue} {g : EndpointValue} (h : PassesOn now v e count w g) (t : Option (List ℕ)) → IsKept f t v.inboxes → IsKept f (begun_after t (all_read f (reads_passed n h))) w.inboxes
  passes_go no_pass t kept = kept
  passes_go (passes.one_more {x} answer before last on) t kept =
      let xs = all_read f (reads_passed n before) in
      let ys = all_read f (reads_from n last) in
      let go = from_goes last (begun_after t xs) (passes_go before t kept) in
      subst (λ (is : List Item). IsKept f (begun_after t is) x.inboxes) (sym (read_append f (reads_passed n before) (reads_from n last)))
      (subst (λ (o : Option (List ℕ)). IsKept f o x.inboxes) (sym (begun_append t xs ys)) go.kept)

  any_goes : (answer : Option (Flow × TakenMessage)) (now room : ℕ) (v w : FlowInboxesValue) (e g : EndpointValue) (h : TakesAny answer now room v w e g) (t : Option (List ℕ)) → IsKept f t v.inboxes → InboxesGo f answer w t (all_read f (reads_any n answer now room v w e g h))
  any_goes None now room v w e g h t kept = record { kept = subst (λ (x : FlowInboxesValue). IsKept f t x.inboxes) (sym h.1) kept; whole = none }
  any_goes (Some answer) now room v w e g h t kept = from_goes h t kept

  next_goes : {answer : Option (Flow × TakenMessage)} {now : ℕ} {v x : FlowInboxesValue} {e g : EndpointValue} (h : TakesNext answer now v x e g) (t : Option (List ℕ)) → IsKept f t v.inboxes → InboxesGo f answer x t (all_read f (reads_next n h))
  next_goes {answer} {now} {x} {g} h t kept =
      let xs = all_read f (reads_passed n h.passes) in
      let any = reads_any n answer now piece_room h.before x h.host g h.last in
      let ys = all_read f any in
      let go = any_goes answer now piece_room h.before x h.host g h.last (begun_after t xs) (passes_go h.passes t kept) in
      subst (λ (is : List Item). InboxesGo f answer x t is) (sym (read_append f (reads_passed n h.passes) any)) (record {
        kept = subst (λ (o : Option (List ℕ)). IsKept f o x.inboxes) (sym (begun_append t xs ys)) go.kept;
        whole = subst (λ (ms : List (List ℕ)). AreSomeOf (whole_for f answer) ms) (sym (messages_append t xs ys)) (skip (messages_from t xs) go.whole);
      })

  -- A LETTER is the message that was made whole, and there is none where it is told why not
  in_letter : (flow : Flow) (m : TakenMessage) (why : Handed) (after : List ℕ) → Err why ≡ letter_in flow m → letters_of why after ≡ []
  in_letter flow (taken.Whole message) why after h = absurd cc
  in_letter flow taken.Lost why after h = let same : why ≡ handed.Lost flow = cc in ap (λ (x : Handed). letters_of x after) same
  in_letter flow taken.Nothing why after h = let same : why ≡ handed.More = cc in ap (λ (x : Handed). letters_of x after) same
  in_letter flow taken.Unfinished why after h = let same : why ≡ handed.More = cc in ap (λ (x : Handed). letters_of x after) same
  in_letter flow taken.BadFlow why after h = let same : why ≡ handed.More = cc in ap (λ (x : Handed). letters_of x after) same
  in_letter flow taken.NoRoom why after h = let same : why ≡ handed.More = cc in ap (λ (x : Handed). letters_of x after) same
  in_letter flow taken.NoMemory why after h = let same : why ≡ handed.NoMemory = cc in ap (λ (x : Handed). letters_of x after) same
  in_letter flow taken.Spent why after h = let same : why ≡ handed.Spent = cc in ap (λ (x : Handed). letters_of x after) same

  no_letter : (answer : Option (Flow × TakenMessage)) (why : Handed) (after : List ℕ) → Err why ≡ letter_of answer → letters_of why after ≡ []
  no_letter None why after h = let same : why ≡ handed.Nothing = cc in ap (λ (x : Handed). letters_of x after) same
  no_letter (Some a) why after h = in_letter a.0 a.1 why after h

  whole_letter : (flow : Flow) (m : TakenMessage) (letter : Letter) → Ok letter ≡ letter_in flow m → messages_if (same_flow flow f) (whole_of m) ≡ waiting_for f (Some letter)
  whole_letter flow (taken.Whole message) letter h =
      let made : Letter = record { flow = flow; message = message } in
      let same : letter ≡ made = cc in
      if_one (same_flow flow f) message.octets ∙ sym (ap (λ (l : Letter). waiting_for f (Some l)) same)
  whole_letter flow taken.Lost letter h = absurd cc
  whole_letter flow taken.Nothing letter h = absurd cc
  whole_letter flow taken.Unfinished letter h = absurd cc
  whole_letter flow taken.BadFlow letter h = absurd cc
  whole_letter flow taken.NoRoom letter h = absurd cc
  whole_letter flow taken.NoMemory letter h = absurd cc
  whole_letter flow taken.Spent letter h = absurd cc

  a_letter : (answer : Option (Flow × TakenMessage)) (letter : Letter) → Ok letter ≡ letter_of answer → whole_for f answer ≡ waiting_for f (Some letter)
  a_letter None letter h = absurd cc
  a_letter (Some a) letter h = whole_letter a.0 a.1 letter h

  -- ONE THAT WAITS is handed out or waits on
  hands_one : (o : Option Letter) (before : List ℕ) → messages_for f (letters_of (handed_of o before) (buffer_after o before)) ++ waiting_for f (waiting_after o before) ≡ waiting_for f o
  hands_one None before = refl
  hands_one (Some l) before =
      elim (cases_Bool (has_room l before)) [
        | inl y ↦
            let octets = l.message.octets in
            let whole : take (length octets) (octets ++ drop (length octets) before) ≡ octets = take-append_seam octets (drop (length octets) before) in
            let of : List (List ℕ) = octets_if (same_flow l.flow f) (take (length octets) (octets ++ drop (length octets) before)) in
            rw y (append-nil (of ++ []) ∙ append-nil of ∙ ap (octets_if (same_flow l.flow f)) whole)
        | inr o ↦ rw o refl
      ]

  hands_out : (answer : Handed) (before after : List ℕ) (m k : MailboxValue) → HandsOut answer before after m k → messages_for f (letters_of answer after) ++ waiting_for f k.waiting ≡ waiting_for f m.waiting
  hands_out answer before after m k h =
      ap (λ (a : Handed). messages_for f (letters_of a after) ++ waiting_for f k.waiting) h.0
      ∙ ap (λ (b : List ℕ). messages_for f (letters_of (handed_of m.waiting before) b) ++ waiting_for f k.waiting) h.1
      ∙ ap (λ (x : MailboxValue). messages_for f (letters_of (handed_of m.waiting before) (buffer_after m.waiting before)) ++ waiting_for f x.waiting) h.2
      ∙ hands_one m.waiting before

  -- A TAKE
  record MailGoes (letters : List Letter) (waiting : Option Letter) (k : MailboxValue) (t : Option (List ℕ)) (items : List Item) : Type 0 where
    kept : IsKept f (begun_after t items) k.inboxes.inboxes
    some : AreSomeOf (messages_for f letters ++ waiting_for f k.waiting) (waiting_for f waiting ++ messages_from t items)

  fetched_goes : (fetched : Option Handed) (answer : Handed) (now : ℕ) (before after : List ℕ) (m between k : MailboxValue) (e g : EndpointValue) (fetches : Fetches fetched now m between e g) → HandsFetched fetched answer before after between k → m.waiting ≡ None → (t : Option (List ℕ)) → IsKept f t m.inboxes.inboxes → MailGoes (letters_of answer after) None k t (all_read f (reads_fetched n fetched now m between e g fetches))
  fetched_goes (Some why) answer now before after m between k e g fetches hands empty t kept =
      let go = next_goes fetches.0.takes t kept in
      let items = all_read f (reads_next n fetches.0.takes) in
      let no_one : letters_of answer after ≡ [] = ap (λ (a : Handed). letters_of a after) hands.0 ∙ no_letter fetches.0.answer why after fetches.0.is in
      let none_waits : waiting_for f k.waiting ≡ [] = ap (λ (x : MailboxValue). waiting_for f x.waiting) hands.2 ∙ ap (waiting_for f) (fetches.1 ∙ empty) in
      let nothing : messages_for f (letters_of answer after) ++ waiting_for f k.waiting ≡ [] = ap (λ (ls : List Letter). messages_for f ls ++ waiting_for f k.waiting) no_one ∙ none_waits in
      record {
        kept = subst (λ (x : MailboxValue). IsKept f (begun_after t items) x.inboxes.inboxes) (sym hands.2) go.kept;
        some = subst (λ (ms : List (List ℕ)). AreSomeOf ms (messages_from t items)) (sym nothing) none;
      }
  fetched_goes None answer now before after m between k e g fetches hands empty t kept =
      let go = next_goes fetches.1.takes t kept in
      let items = all_read f (reads_next n fetches.1.takes) in
      let out : messages_for f (letters_of answer after) ++ waiting_for f k.waiting ≡ whole_for f fetches.1.answer = hands_out answer before after between k hands ∙ ap (waiting_for f) fetches.2 ∙ sym (a_letter fetches.1.answer fetches.0 fetches.1.is) in
      record {
        kept = subst (λ (x : MailboxValue). IsKept f (begun_after t items) x.inboxes.inboxes) (sym hands.2) go.kept;
        some = subst (λ (ms : List (List ℕ)). AreSomeOf ms (messages_from t items)) (sym out) go.whole;
      }

  take_goes : (waiting : Option Letter) (answer : Handed) (now : ℕ) (before after : List ℕ) (m k : MailboxValue) (e g : EndpointValue) (h : TakesInto waiting answer now before after m k e g) → m.waiting ≡ waiting → (t : Option (List ℕ)) → IsKept f t m.inboxes.inboxes → MailGoes (letters_of answer after) waiting k t (all_read f (reads_into n waiting answer now before after m k e g h))
  take_goes (Some letter) answer now before after m k e g h is t kept =
      let all : messages_for f (letters_of answer after) ++ waiting_for f k.waiting ≡ waiting_for f (Some letter) ++ [] = hands_out answer before after m k h.0 ∙ ap (waiting_for f) is ∙ sym (append-nil (waiting_for f (Some letter))) in
      record { kept = subst (λ (x : MailboxValue). IsKept f t x.inboxes.inboxes) (sym h.0.2) kept; some = some_of_same _ _ all }
  take_goes None answer now before after m k e g h is t kept = fetched_goes h.fetched answer now before after m h.between k e g h.fetches h.hands is t kept

  for_append : (xs ys : List Letter) → messages_for f (xs ++ ys) ≡ messages_for f xs ++ messages_for f ys
  for_append [] ys = refl
  for_append (x ∷ xs) ys = ap (λ (ms : List (List ℕ)). octets_if (same_flow x.flow f) x.message.octets ++ ms) (for_append xs ys) ∙ sym (append_assoc (octets_if (same_flow x.flow f) x.message.octets) (messages_for f xs) (messages_for f ys))

  -- ALL TURNS
  mails_go : {m : MailboxValue} {net : Network} {steps : List Step} {letters : List Letter} → Mails n f m net steps letters → (t : Option (List ℕ)) → IsKept f t m.inboxes.inboxes → AreSomeOf (messages_for f letters) (waiting_for f m.waiting ++ messages_from t (all_read f steps))
  mails_go rests t kept = none
  mails_go {m} (goes {steps} {letters} s nothing rest) t kept =
      subst (λ (is : List Item). AreSomeOf (messages_for f letters) (waiting_for f m.waiting ++ messages_from t (is ++ all_read f steps))) (sym nothing) (mails_go rest t kept)
  mails_go {m} (anew longest rest) t kept = skip (waiting_for f m.waiting) (mails_go rest t tt)
  mails_go {m} (hears flow rest) t kept = mails_go rest t (kept_heard f flow t m.inboxes kept)
  mails_go {m} (forgets flow rest) t kept = mails_go rest t (kept_without f flow t m.inboxes kept)
  mails_go {m} (takes {steps} {letters} now answer before after k e g there h rest) t kept =
      let go = take_goes m.waiting answer now before after m k e g h refl t kept in
      let reads = reads_into n m.waiting answer now before after m k e g h in
      let xs = all_read f reads in
      let ys = all_read f steps in
      let out = letters_of answer after in
      let more = messages_from (begun_after t xs) ys in
      let later : AreSomeOf (messages_for f letters) (waiting_for f k.waiting ++ more) = mails_go rest (begun_after t xs) go.kept in
      let first : AreSomeOf ((messages_for f out ++ waiting_for f k.waiting) ++ more) ((waiting_for f m.waiting ++ messages_from t xs) ++ more) = both go.some (all_of more) in
      let second : AreSomeOf (messages_for f out ++ messages_for f letters) ((messages_for f out ++ waiting_for f k.waiting) ++ more) =
      subst (λ (ms : List (List ℕ)). AreSomeOf (messages_for f out ++ messages_for f letters) ms) (sym (append_assoc (messages_for f out) (waiting_for f k.waiting) more)) (keep (messages_for f out) later) in
      let found : (waiting_for f m.waiting ++ messages_from t xs) ++ more ≡ waiting_for f m.waiting ++ messages_from t (all_read f (reads ++ steps)) =
      append_assoc (waiting_for f m.waiting) (messages_from t xs) more
      ∙ ap (λ (ms : List (List ℕ)). waiting_for f m.waiting ++ ms) (sym (messages_append t xs ys) ∙ ap (messages_from t) (sym (read_append f reads steps))) in
      subst (λ (ms : List (List ℕ)). AreSomeOf ms (waiting_for f m.waiting ++ messages_from t (all_read f (reads ++ steps)))) (sym (for_append out letters))
      (subst (λ (ms : List (List ℕ)). AreSomeOf (messages_for f out ++ messages_for f letters) ms) found (some_through second first))

-- where what is read is what was sent
pub handed_messages : (steps : List Step) (letters : List Letter) (n : ℕ) (f : Flow) (m : MailboxValue) (net : Network) → IsKept f None m.inboxes.inboxes → m.waiting ≡ None → Mails n f m net steps letters → (taken : List Item) × AreTaken f steps taken × IsReadOf false (all_read f steps) taken
    → (taken : List Item) × AreTaken f steps taken × AreSomeOf (messages_for f letters) (messages_in taken)
handed_messages steps letters n f m net kept empty mails r =
    let some : AreSomeOf (messages_for f letters) (messages_in (all_read f steps)) =
    subst (λ (o : Option Letter). AreSomeOf (messages_for f letters) (waiting_for f o ++ messages_in (all_read f steps))) empty (mails_go f n mails None kept) in
    (r.0, r.1, some_through some (in_order (all_read f steps) r.0 r.2))
