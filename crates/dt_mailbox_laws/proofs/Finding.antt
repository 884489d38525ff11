-- What the reads of a take find of a flow, and what is begun after them.
use Rattle.std.proofs.Common.{◌≡◌, ◌∙◌, ◌⊎◌, ℕ, Bool, true, false, List, [], ◌∷◌, ◌++◌, append-nil, append_assoc, Option, Some, None, refl, sym, ap, subst, inl, inr}
use Rattle.dt_items.specs.declared.item.Item.{Item}
use Rattle.dt_items.specs.Unread.{marked}
use Rattle.dt_units.specs.declared.endpoints.Flow.{Flow}
use Rattle.dt_world_model.specs.Tables.{same_flow}
use Rattle.dt_messages.specs.Joining.{JoinerValue, whole_within}
use Rattle.dt_endpoint.specs.declared.answers.Delivered.{Delivered}
use Rattle.dt_endpoint.specs.declared.answers.Delivered.TheVariants as piece
use Rattle.dt_endpoint.specs.Endpoints.{EndpointValue}
use Rattle.dt_inbox.specs.declared.inboxes.TakenMessage.{TakenMessage}
use Rattle.dt_inbox.specs.declared.inboxes.TakenMessage.TheVariants as taken
use Rattle.dt_inbox.specs.Inboxes.{EndsAt, Ends, FindsNone, JoinerTakes, ReadsOn, TakesIn, no_read, one_more}
use Rattle.dt_network.specs.Octets.{all_read, items_read, read_if, read_in_step}
use Rattle.dt_network.specs.Steps.{Step}
use Rattle.dt_service_laws.specs.Orders.{AreSomeOf, none}
use Rattle.dt_service_laws.specs.Wholes.{begun_after, listed, messages_from}
use Rattle.dt_service_laws.proofs.Orders.{skip}
use Rattle.dt_service_laws.proofs.Pieces.{begun_append, messages_append}
use Rattle.dt_service_laws.proofs.Wholes.{IsSameOrNone}
use Rattle.dt_mailbox_laws.specs.Mails.{read_last, read_step, reads_in, reads_on}
use Rattle.dt_mailbox_laws.proofs.Pieces.{items_of, piece_grows, whole_is}

pub read_append : (f : Flow) (xs ys : List Step) → all_read f (xs ++ ys) ≡ all_read f xs ++ all_read f ys
read_append f [] ys = refl
read_append f (s ∷ xs) ys = ap (λ (is : List Item). read_in_step f s ++ is) (read_append f xs ys) ∙ sym (append_assoc (read_in_step f s) (all_read f xs) (all_read f ys))

-- one read more
and_step : (f : Flow) (xs : List Step) (s : Step) → all_read f (xs ++ s ∷ []) ≡ all_read f xs ++ read_in_step f s
and_step f xs s = read_append f xs (s ∷ []) ∙ ap (λ (is : List Item). all_read f xs ++ is) (append-nil (read_in_step f s))

-- the message that is whole
abbrev pub whole_of : TakenMessage → List (List ℕ)
whole_of (taken.Whole message) = message.octets ∷ []
whole_of taken.Lost = []
whole_of taken.Nothing = []
whole_of taken.NoMemory = []
whole_of taken.Spent = []
whole_of taken.BadFlow = []
whole_of taken.NoRoom = []
whole_of taken.Unfinished = []

-- WHAT A TAKE DOES to a flow: what its joiner has begun after its reads, and the message that it made whole
pub record TakeGoes (answer : TakenMessage) (k : JoinerValue) (t : Option (List ℕ)) (items : List Item) : Type 0 where
  pub begun : IsSameOrNone k.begun (begun_after t items)
  pub whole : AreSomeOf (whole_of answer) (messages_from t items)

module _ (f : Flow) (n now : ℕ) (flow : Flow) (room : ℕ) where
  -- A READ of another flow finds nothing of this one
  pub on_other : same_flow flow f ≡ false → {j : JoinerValue} {e : EndpointValue} {count : ℕ} {k : JoinerValue} {g : EndpointValue} (h : ReadsOn now flow room j e count k g) → all_read f (reads_on n h) ≡ []
  on_other o no_read = refl
  on_other o (one_more {g} before last) =
      let s = read_step n now flow room last.reads.buf (piece.Read last.reads.len last.piece.run last.piece.begin last.piece.end) g in
      let nothing : read_in_step f s ≡ [] = rw o refl in
      and_step f (reads_on n before) s ∙ ap (λ (is : List Item). is ++ read_in_step f s) (on_other o before) ∙ nothing

  last_other : same_flow flow f ≡ false → (answer : TakenMessage) (j k : JoinerValue) (e g : EndpointValue) (h : Ends answer now flow room j k e g) → all_read f (read_last n answer now flow room j k e g h) ≡ []
  last_other o (taken.Whole message) j k e g h = rw o refl
  last_other o taken.Lost j k e g h = rw o refl
  last_other o taken.Nothing j k e g h = rw o refl
  last_other o taken.NoMemory j k e g h = rw o refl
  last_other o taken.Spent j k e g h = rw o refl
  last_other o taken.BadFlow j k e g h = rw o refl
  last_other o taken.NoRoom j k e g h = rw o refl
  last_other o taken.Unfinished j k e g h = absurd h

  both_other : same_flow flow f ≡ false → (answer : TakenMessage) (j k : JoinerValue) (e g : EndpointValue) (h : TakesIn answer now flow room j k e g) → all_read f (reads_on n h.reads ++ read_last n answer now flow room h.before k h.host g h.ends) ≡ []
  both_other o answer j k e g h =
      read_append f (reads_on n h.reads) (read_last n answer now flow room h.before k h.host g h.ends)
      ∙ ap (λ (is : List Item). is ++ all_read f (read_last n answer now flow room h.before k h.host g h.ends)) (on_other o h.reads)
      ∙ last_other o answer h.before k h.host g h.ends

  pub in_other : same_flow flow f ≡ false → (answer : TakenMessage) (most : ℕ) (j k : JoinerValue) (e g : EndpointValue) (h : JoinerTakes answer most now flow room j k e g) → all_read f (reads_in n answer most now flow room j k e g h) ≡ []
  in_other o taken.Unfinished most j k e g h = on_other o h
  in_other o (taken.Whole message) most j k e g h = both_other o (taken.Whole message) j k e g h
  in_other o taken.Lost most j k e g h = both_other o taken.Lost j k e g h
  in_other o taken.Nothing most j k e g h = both_other o taken.Nothing j k e g h
  in_other o taken.NoMemory most j k e g h = both_other o taken.NoMemory j k e g h
  in_other o taken.Spent most j k e g h = both_other o taken.Spent j k e g h
  in_other o taken.BadFlow most j k e g h = both_other o taken.BadFlow j k e g h
  in_other o taken.NoRoom most j k e g h = both_other o taken.NoRoom j k e g h

  -- READS OF THE FLOW
  module _ (y : same_flow flow f ≡ true) where
    on_begun : {j : JoinerValue} {e : EndpointValue} {count : ℕ} {k : JoinerValue} {g : EndpointValue} (h : ReadsOn now flow room j e count k g) (t : Option (List ℕ)) → IsSameOrNone j.begun t → IsSameOrNone k.begun (begun_after t (all_read f (reads_on n h)))
    on_begun no_read t same = same
    on_begun (one_more {k} {l} {f = e} {g} before last) t same =
        let first = on_begun before t same in
        let xs = all_read f (reads_on n before) in
        let s = read_step n now flow room last.reads.buf (piece.Read last.reads.len last.piece.run last.piece.begin last.piece.end) g in
        let items = items_of now flow room last.piece e g last.reads in
        let here : read_in_step f s ≡ items = rw y refl in
        let all : all_read f (reads_on n before ++ s ∷ []) ≡ xs ++ items = and_step f (reads_on n before) s ∙ ap (λ (is : List Item). xs ++ is) here in
        let grows = piece_grows now flow room last.piece e g last.reads k.longest k.begun (begun_after t xs) first in
        let after : IsSameOrNone l.begun (begun_after (begun_after t xs) items) = subst (λ (x : JoinerValue). IsSameOrNone x.begun (begun_after (begun_after t xs) items)) (sym last.after) grows.begun in
        subst (λ (is : List Item). IsSameOrNone l.begun (begun_after t is)) (sym all) (subst (λ (o : Option (List ℕ)). IsSameOrNone l.begun o) (sym (begun_append t xs items)) after)

    -- a last read that finds no piece
    none_goes : (answer : TakenMessage) (found : Delivered) (j k : JoinerValue) (e g : EndpointValue) (h : FindsNone found now flow room j k e g) (t : Option (List ℕ)) → whole_of answer ≡ [] → items_read found h.buf ≡ [] → IsSameOrNone j.begun t → TakeGoes answer k t (read_if (same_flow flow f) (items_read found h.buf) ++ [])
    none_goes answer found j k e g h t no_message nothing same =
        let items : read_if (same_flow flow f) (items_read found h.buf) ++ [] ≡ [] = rw y (append-nil (items_read found h.buf) ∙ nothing) in
        subst (λ (is : List Item). TakeGoes answer k t is) (sym items) (record {
          begun = subst (λ (x : JoinerValue). IsSameOrNone x.begun t) (sym h.same) same;
          whole = subst (λ (ms : List (List ℕ)). AreSomeOf ms []) (sym no_message) none;
        })

    last_goes : (answer : TakenMessage) (j k : JoinerValue) (e g : EndpointValue) (h : Ends answer now flow room j k e g) (t : Option (List ℕ)) → IsSameOrNone j.begun t → TakeGoes answer k t (all_read f (read_last n answer now flow room j k e g h))
    last_goes (taken.Whole message) j k e g h t same =
        let items = items_of now flow room h.piece e g h.reads in
        let grows = piece_grows now flow room h.piece e g h.reads j.longest j.begun t same in
        let all : read_if (same_flow flow f) items ++ [] ≡ items = rw y (append-nil items) in
        subst (λ (is : List Item). TakeGoes (taken.Whole message) k t is) (sym all) (record {
          begun = subst (λ (x : JoinerValue). IsSameOrNone x.begun (begun_after t items)) (sym h.ends.1) grows.begun;
          whole = subst (λ (o : Option (List ℕ)). AreSomeOf (listed o) (messages_from t items)) (whole_is j h.piece message h.ends.0) grows.whole;
        })
    last_goes taken.Lost j k e g h t same =
        let items = items_of now flow room h.piece e g h.reads in
        record { begun = inl (ap (λ (x : JoinerValue). x.begun) h.ends); whole = none }
    last_goes taken.Nothing j k e g h t same = none_goes taken.Nothing piece.Nothing j k e g h t refl refl same
    last_goes taken.NoMemory j k e g h t same = none_goes taken.NoMemory piece.NoMemory j k e g h t refl refl same
    last_goes taken.Spent j k e g h t same = none_goes taken.Spent piece.Spent j k e g h t refl refl same
    last_goes taken.BadFlow j k e g h t same = none_goes taken.BadFlow piece.BadFlow j k e g h t refl refl same
    last_goes taken.NoRoom j k e g h t same = none_goes taken.NoRoom piece.NoRoom j k e g h t refl refl same
    last_goes taken.Unfinished j k e g h t same = absurd h

    both_go : (answer : TakenMessage) (j k : JoinerValue) (e g : EndpointValue) (h : TakesIn answer now flow room j k e g) (t : Option (List ℕ)) → IsSameOrNone j.begun t → TakeGoes answer k t (all_read f (reads_on n h.reads ++ read_last n answer now flow room h.before k h.host g h.ends))
    both_go answer j k e g h t same =
        let xs = all_read f (reads_on n h.reads) in
        let last = read_last n answer now flow room h.before k h.host g h.ends in
        let ys = all_read f last in
        let first = on_begun h.reads t same in
        let goes = last_goes answer h.before k h.host g h.ends (begun_after t xs) first in
        subst (λ (is : List Item). TakeGoes answer k t is) (sym (read_append f (reads_on n h.reads) last)) (record {
          begun = subst (λ (o : Option (List ℕ)). IsSameOrNone k.begun o) (sym (begun_append t xs ys)) goes.begun;
          whole = subst (λ (ms : List (List ℕ)). AreSomeOf (whole_of answer) ms) (sym (messages_append t xs ys)) (skip (messages_from t xs) goes.whole);
        })

    pub in_goes : (answer : TakenMessage) (most : ℕ) (j k : JoinerValue) (e g : EndpointValue) (h : JoinerTakes answer most now flow room j k e g) (t : Option (List ℕ)) → IsSameOrNone j.begun t → TakeGoes answer k t (all_read f (reads_in n answer most now flow room j k e g h))
    in_goes taken.Unfinished most j k e g h t same = record { begun = on_begun h t same; whole = none }
    in_goes (taken.Whole message) most j k e g h t same = both_go (taken.Whole message) j k e g h t same
    in_goes taken.Lost most j k e g h t same = both_go taken.Lost j k e g h t same
    in_goes taken.Nothing most j k e g h t same = both_go taken.Nothing j k e g h t same
    in_goes taken.NoMemory most j k e g h t same = both_go taken.NoMemory j k e g h t same
    in_goes taken.Spent most j k e g h t same = both_go taken.Spent j k e g h t same
    in_goes taken.BadFlow most j k e g h t same = both_go taken.BadFlow j k e g h t same
    in_goes taken.NoRoom most j k e g h t same = both_go taken.NoRoom j k e g h t same
