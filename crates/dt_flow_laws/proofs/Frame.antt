-- What stays of the facts where the ledger, the time or the run moves on.
use Rattle.std.proofs.Common.{ℕ, zero, suc, ◌+◌, ◌<◌, ◌≤◌, ◌≡◌, ◌≢◌, ◌⊎◌, Bool, false, List, [], ◌∷◌, ◌++◌, length, Option, Some, None, refl, sym, ◌∙◌, subst, inl, inr, arith}
use Rattle.dt_flow_laws.proofs.Rows.{KeepsRows}
use Rattle.dt_flow_model.specs.Facts.{AllGivenFacts, Covers, IsGiven, IsOlder, IsPresent, KindFacts, MomentsRise, OfRun, PacketFacts, ReceiveSide, ReceiverFacts, RecvFacts, Rising, accepted_before, births_end, firsts_end, free_from}
use Rattle.dt_flow_model.specs.Flow.{Ack, Data, Kind, Meet, Packet, Run}
use Rattle.dt_flow_model.specs.Ledger.{given_rows, last_at, last_from, row_at, top, top_from}
use Rattle.dt_flow_model.specs.ReceiveRecord.{IsLive, ReceiveRecord}
use Rattle.dt_flow_model.specs.declared.rows.Fate.TheVariants.{Acked, Open, Uncertain}
use Rattle.dt_flow_model.specs.declared.rows.Given.{Given}
use Rattle.dt_flow_model.specs.declared.rows.Taken.{Taken}
use Rattle.dt_items.specs.declared.item.Item.{Item}
use Rattle.dt_units.specs.Times.{send_time}
use Rattle.dt_units.specs.declared.parameters.Params.{Params}
use Rattle.dt_flow_laws.proofs.Ledger.{over_at, over_first, over_item, over_length, over_done, first_within, SameFirsts}

-- given rows
pub given_left : (xs ys : List Given) (p : ℕ) → IsGiven xs p → IsGiven (xs ++ ys) p
given_left [] ys p h = elim h [ ]
given_left (x ∷ xs) ys p (inl h) = inl h
given_left (x ∷ xs) ys p (inr h) = inr (given_left xs ys p h)

pub given_right : (xs ys : List Given) (p : ℕ) → IsGiven ys p → IsGiven (xs ++ ys) p
given_right [] ys p h = h
given_right (x ∷ xs) ys p h = inr (given_right xs ys p h)

pub given_here : (life at : ℕ) (mark : Bool) (place : ℕ) (items : List Item) (p k : ℕ) → p ≡ place + k → k < length items → IsGiven (given_rows life at mark place items) p
given_here life at mark place [] p k e h = absurd (omega arith)
given_here life at mark place (item ∷ items) p zero e h = inl (omega arith)
given_here life at mark place (item ∷ items) p (suc k) e h = inr (given_here life at false (suc place) items p k (omega arith) (omega arith))

pub rising_append : (n : ℕ) (xs ys : List Given) → Rising n xs → Rising (top_from n xs) ys → Rising n (xs ++ ys)
rising_append n [] ys p q = q
rising_append n (x ∷ xs) ys p q = (p.0, rising_append (suc x.place) xs ys p.1 q)

pub rising_rows : (life at : ℕ) (mark : Bool) (place n : ℕ) (items : List Item) → n ≤ place → Rising n (given_rows life at mark place items)
rising_rows life at mark place n [] h = tt
rising_rows life at mark place n (item ∷ items) h = (h, rising_rows life at false (suc place) (suc place) items (omega arith))

pub moments_append : (n : ℕ) (xs ys : List Given) → MomentsRise n xs → MomentsRise (last_from n xs) ys → MomentsRise n (xs ++ ys)
moments_append n [] ys p q = q
moments_append n (x ∷ xs) ys p q = (p.0, moments_append x.at xs ys p.1 q)

pub moments_rows : (life at : ℕ) (mark : Bool) (place n : ℕ) (items : List Item) → n ≤ at → MomentsRise n (given_rows life at mark place items)
moments_rows life at mark place n [] h = tt
moments_rows life at mark place n (item ∷ items) h = (h, moments_rows life at false (suc place) at items (omega arith))

pub top_append : (n : ℕ) (xs ys : List Given) → top_from n (xs ++ ys) ≡ top_from (top_from n xs) ys
top_append n [] ys = refl
top_append n (x ∷ xs) ys = top_append (suc x.place) xs ys

top_on : (life at : ℕ) (mark : Bool) (place : ℕ) (items : List Item) → top_from place (given_rows life at mark place items) ≡ place + length items
top_on life at mark place [] = omega arith
top_on life at mark place (item ∷ items) = omega (arith, top_on life at false (suc place) items)

pub top_rows : (life at : ℕ) (mark : Bool) (place n : ℕ) (items : List Item) → 0 < length items → top_from n (given_rows life at mark place items) ≡ place + length items
top_rows life at mark place n [] h = absurd (omega arith)
top_rows life at mark place n (item ∷ items) h = omega (arith, top_on life at false (suc place) items)

pub last_append : (n : ℕ) (xs ys : List Given) → last_from n (xs ++ ys) ≡ last_from (last_from n xs) ys
last_append n [] ys = refl
last_append n (x ∷ xs) ys = last_append x.at xs ys

last_on : (life at : ℕ) (mark : Bool) (place : ℕ) (items : List Item) → last_from at (given_rows life at mark place items) ≡ at
last_on life at mark place [] = refl
last_on life at mark place (item ∷ items) = last_on life at false (suc place) items

pub last_rows : (life at : ℕ) (mark : Bool) (place n : ℕ) (items : List Item) → 0 < length items → last_from n (given_rows life at mark place items) ≡ at
last_rows life at mark place n [] h = absurd (omega arith)
last_rows life at mark place n (item ∷ items) h = last_on life at false (suc place) items

pub given_ok_append : (taken : List Taken) (xs ys : List Given) → AllGivenFacts taken xs → AllGivenFacts taken ys → AllGivenFacts taken (xs ++ ys)
given_ok_append taken [] ys p q = q
given_ok_append taken (x ∷ xs) ys p q = (p.0, given_ok_append taken xs ys p.1 q)

pub given_ok_over : (xs ys : List Taken) → KeepsRows xs ys → (given : List Given) → AllGivenFacts xs given → AllGivenFacts ys given
given_ok_over xs ys o [] h = tt
given_ok_over xs ys o (g ∷ gs) h = (
  record {
    first = h.0.first;
    first_is = over_first xs ys o g.place h.0.first h.0.first_is;
    after = h.0.after;
    item = over_item xs ys o g.place h.0.first h.0.first_is ∙ h.0.item;
  },
  given_ok_over xs ys o gs h.1,
)

-- what was given stands in the ledger
pub top_within : (taken : List Taken) (n : ℕ) (given : List Given) → AllGivenFacts taken given → n ≤ length taken → top_from n given ≤ length taken
top_within taken n [] h le = le
top_within taken n (g ∷ gs) h le = top_within taken (suc g.place) gs h.1 (first_within taken g.place h.0.first h.0.first_is)

-- the last given place has a first moment, no later than the last acceptance
last_first_of : (taken : List Taken) (g : Given) (gs : List Given) → AllGivenFacts taken (g ∷ gs) → (p : ℕ) → top_from (suc g.place) gs ≡ suc p
    → (first : ℕ) × ((row_at taken p).first ≡ Some first) × (first ≤ last_from g.at gs)
last_first_of taken g [] h p e = let same : g.place ≡ p = omega arith in (h.0.first, subst (λ q. (row_at taken q).first ≡ Some h.0.first) same h.0.first_is, h.0.after)
last_first_of taken g (g' ∷ gs) h p e = last_first_of taken g' gs h.1 p e

pub last_first : (taken : List Taken) (given : List Given) → AllGivenFacts taken given → (p : ℕ) → top given ≡ suc p
    → (first : ℕ) × ((row_at taken p).first ≡ Some first) × (first ≤ last_at given)
last_first taken [] h p e = absurd (omega arith)
last_first taken (g ∷ gs) h p e = last_first_of taken g gs h p e

-- the ledger moves
done_over : (xs ys : List Taken) → KeepsRows xs ys → (given : List Given) (p : ℕ) → p < length xs → IsGiven given p ⊎ ((row_at xs p).fate ≢ Open) → IsGiven given p ⊎ ((row_at ys p).fate ≢ Open)
done_over xs ys o given p h (inl g) = inl g
done_over xs ys o given p h (inr d) = inr (over_done xs ys o p h d)

skipped_over : (xs ys : List Taken) → KeepsRows xs ys → (given : List Given) (life p : ℕ) → p < length xs
    → IsGiven given p ⊎ ((row_at xs p).fate ≡ Uncertain) ⊎ ((row_at xs p).life < life) → IsGiven given p ⊎ ((row_at ys p).fate ≡ Uncertain) ⊎ ((row_at ys p).life < life)
skipped_over xs ys o given life p h (inl g) = inl g
skipped_over xs ys o given life p h (inr (inl u)) = let k = over_at xs ys o p h in inr (inl (k.fate (λ e. cc) ∙ u))
skipped_over xs ys o given life p h (inr (inr l)) = let k = over_at xs ys o p h in inr (inr (rw k.life l))

skipped_later : (taken : List Taken) (given : List Given) (life p : ℕ) → IsGiven given p ⊎ ((row_at taken p).fate ≡ Uncertain) ⊎ ((row_at taken p).life < life) → IsGiven given p ⊎ ((row_at taken p).fate ≡ Uncertain) ⊎ ((row_at taken p).life < life + 1)
skipped_later taken given life p (inl g) = inl g
skipped_later taken given life p (inr (inl u)) = inr (inl u)
skipped_later taken given life p (inr (inr l)) = inr (inr (omega arith))

module _ (c : Params) (now z until life : ℕ) (run : Option Run) (xs ys : List Taken) (given : List Given) (over : KeepsRows xs ys) where
  y_moved : (y : Option ReceiveRecord) → top given ≤ length xs → ReceiverFacts c now z until run xs given y → ReceiverFacts c now z until run ys given y
  y_moved None le h = h
  y_moved (Some y) le h = record {
    accepted = h.accepted;
    touched = h.touched;
    receiving = λ live. let r = h.receiving live in (r.0, r.1, record { offset = r.2.offset; some = r.2.some; place = r.2.place; number = r.2.number; covered = λ p from to. done_over xs ys over given p (omega arith) (r.2.covered p from to) });
  }

  pub rest_moved : (y : Option ReceiveRecord) → SameFirsts xs ys → ((p : ℕ) → (row_at ys p).fate ≡ Acked → IsGiven given p) → ReceiveSide c now z until life run xs given y → ReceiveSide c now z until life run ys given y
  rest_moved y same acked f =
      let within : top given ≤ length xs = top_within xs 0 given f.given_facts (omega arith) in record {
        sent_now = f.sent_now;
        began = f.began;
        first_end = λ p F h. f.first_end p F (sym (same p) ∙ h);
        firsts = λ p q F G le h k. f.firsts p q F G le (sym (same p) ∙ h) (sym (same q) ∙ k);
        given_facts = given_ok_over xs ys over given f.given_facts;
        moments = f.moments;
        last_now = f.last_now;
        last_before = f.last_before;
        record_facts = y_moved y within f.record_facts;
        rising = f.rising;
        skipped = λ p h. skipped_over xs ys over given life p (omega arith) (f.skipped p h);
        acked = acked;
      }

-- some rows get a first moment, which is now; no row past them has one
pub firsts_noted : (xs ys : List Taken) (from now end : ℕ) → ((p F : ℕ) → (row_at ys p).first ≡ Some F → ((row_at xs p).first ≡ Some F) × (p < from) ⊎ (F ≡ now) × (from ≤ p))
    → ((p F : ℕ) → (row_at xs p).first ≡ Some F → F < end) → end ≤ suc now → ((p q F G : ℕ) → p ≤ q → (row_at xs p).first ≡ Some F → (row_at xs q).first ≡ Some G → F ≤ G)
    → (p q F G : ℕ) → p ≤ q → (row_at ys p).first ≡ Some F → (row_at ys q).first ≡ Some G → F ≤ G
firsts_noted xs ys from now end new below late old p q F G le h k = go (new p F h) (new q G k)
  where
    go : ((row_at xs p).first ≡ Some F) × (p < from) ⊎ (F ≡ now) × (from ≤ p) → ((row_at xs q).first ≡ Some G) × (q < from) ⊎ (G ≡ now) × (from ≤ q) → F ≤ G
    go (inl a) (inl b) = old p q F G le a.0 b.0
    go (inl a) (inr b) = omega (arith, below p F a.0)
    go (inr a) (inl b) = absurd (omega arith)
    go (inr a) (inr b) = omega arith

pub rest_noted : (c : Params) (now z until life from : ℕ) (run : Option Run) (xs ys : List Taken) (given : List Given) (y : Option ReceiveRecord) → KeepsRows xs ys → now < firsts_end run
    → ((p F : ℕ) → (row_at ys p).first ≡ Some F → ((row_at xs p).first ≡ Some F) × (p < from) ⊎ (F ≡ now) × (from ≤ p)) → ((p : ℕ) → (row_at ys p).fate ≡ Acked → IsGiven given p)
    → ReceiveSide c now z until life run xs given y → ReceiveSide c now z until life run ys given y
rest_noted c now z until life from run xs ys given y over sent new acked f =
    let within : top given ≤ length xs = top_within xs 0 given f.given_facts (omega arith) in record {
      sent_now = f.sent_now;
      began = f.began;
      first_end = λ p F h. elim (new p F h) [ inl a ↦ f.first_end p F a.0 | inr b ↦ omega arith ];
      firsts = firsts_noted xs ys from now (firsts_end run) new f.first_end f.sent_now f.firsts;
      given_facts = given_ok_over xs ys over given f.given_facts;
      moments = f.moments;
      last_now = f.last_now;
      last_before = f.last_before;
      record_facts = y_moved c now z until life run xs ys given over y within f.record_facts;
      rising = f.rising;
      skipped = λ p h. skipped_over xs ys over given life p (omega arith) (f.skipped p h);
      acked = acked;
    }

-- time passes
module _ (c : Params) (now z until life d : ℕ) (run : Option Run) (taken : List Taken) (given : List Given) where
  y_later : (y : Option ReceiveRecord) → ReceiverFacts c now z until run taken given y → ReceiverFacts c (now + d) z until run taken given y
  y_later None h = λ some. omega (arith, h some)
  y_later (Some y) h = record { accepted = h.accepted; touched = h.touched; receiving = λ live. h.receiving (omega arith) }

  pub rest_later : (y : Option ReceiveRecord) → ReceiveSide c now z until life run taken given y → ReceiveSide c (now + d) z until life run taken given y
  rest_later y f = record {
    sent_now = omega arith;
    began = f.began;
    first_end = f.first_end;
    firsts = f.firsts;
    given_facts = f.given_facts;
    moments = f.moments;
    last_now = omega arith;
    last_before = f.last_before;
    record_facts = y_later y f.record_facts;
    rising = f.rising;
    skipped = f.skipped;
    acked = f.acked;
  }

-- the run goes on: the same base, a later transmission
abbrev pub Later : Option Run → Option Run → Type 0
Later None run = Unit {0}
Later (Some r) None = ⊥
Later (Some r) (Some r') = (r'.base ≡ r.base) × (r.sent ≤ r'.sent) × (r'.began ≡ r.began)

pub later_refl : (run : Option Run) → Later run run
later_refl None = tt
later_refl (Some r) = (refl, omega arith, refl)

later_ends : (run run' : Option Run) → Later run run' → firsts_end run ≤ firsts_end run'
later_ends None run' h = omega arith
later_ends (Some r) None h = elim h [ ]
later_ends (Some r) (Some r') h = omega arith

later_limit : (c : Params) (run run' : Option Run) → Later run run' → accepted_before c run ≤ accepted_before c run'
later_limit c None run' h = omega arith
later_limit c (Some r) None h = elim h [ ]
later_limit c (Some r) (Some r') h = omega arith

later_birth : (c : Params) (run run' : Option Run) (kind : Kind) → Later run run' → births_end c run kind ≤ births_end c run' kind
later_birth c run run' (Data drf items) h = later_ends run run' h
later_birth c run run' Meet h = later_ends run run' h
later_birth c None run' (Ack window) h = omega arith
later_birth c (Some r) None (Ack window) h = elim h [ ]
later_birth c (Some r) (Some r') (Ack window) h = omega arith

-- the same run, later
later_run : (run run' : Option Run) → Later run run' → (r : Run) → run ≡ Some r → (r' : Run) × (run' ≡ Some r') × (r'.base ≡ r.base) × (r.sent ≤ r'.sent) × (r'.began ≡ r.began)
later_run None run' h r e = absurd cc
later_run (Some q) None h r e = elim h [ ]
later_run (Some q) (Some r') h r e = let same : q ≡ r = cc in (r', refl, rw (← same) h.0, rw (← same) h.1, rw (← same) h.2)

pub earlier_run : (run run' : Option Run) → Later run run' → (q : Run) → run ≡ Some q → (r' : Run) → run' ≡ Some r' → (r'.base ≡ q.base) × (q.sent ≤ r'.sent) × (r'.began ≡ q.began)
earlier_run run run' h q e r' e' = let k = later_run run run' h q e in let same : k.0 ≡ r' = cc (k.1, e') in rw (← same) (k.2, k.3, k.4)

module _ (c : Params) (now z until life : ℕ) (run run' : Option Run) (taken : List Taken) (given : List Given) (later : Later run run') (began : (r : Run) → run' ≡ Some r → r.began ≤ r.sent) (sent : firsts_end run' ≤ suc now) where
  y_on : (y : Option ReceiveRecord) → ReceiverFacts c now z until run taken given y → ReceiverFacts c now z until run' taken given y
  y_on None h = h
  y_on (Some y) h = record {
    accepted = h.accepted;
    touched = h.touched;
    receiving = λ live.
        let q = h.receiving live in let k = later_run run run' later q.0 q.1 in
        (k.0, k.1, record { offset = q.2.offset; some = q.2.some; place = rw k.2 q.2.place; number = q.2.number; covered = λ p from to. q.2.covered p (omega arith) to });
  }

  pub rest_on : (y : Option ReceiveRecord) → ReceiveSide c now z until life run taken given y → ReceiveSide c now z until life run' taken given y
  rest_on y f = let le : firsts_end run ≤ firsts_end run' = later_ends run run' later in let le' : accepted_before c run ≤ accepted_before c run' = later_limit c run run' later in record {
    sent_now = sent;
    began = began;
    first_end = λ p F h. omega (arith, f.first_end p F h);
    firsts = f.firsts;
    given_facts = f.given_facts;
    moments = f.moments;
    last_now = f.last_now;
    last_before = λ some. omega (arith, f.last_before some);
    record_facts = y_on y f.record_facts;
    rising = f.rising;
    skipped = f.skipped;
    acked = f.acked;
  }

-- a new run begins: whatever is of the old one is over
fresh_live : (c : Params) (now z : ℕ) (run : Option Run) (taken : List Taken) (given : List Given) (y : ReceiveRecord) → RecvFacts c now z run taken given y → (0 < top given → last_at given < accepted_before c run) → free_from c run ≤ now → IsLive c (now + z) y → ⊥
fresh_live c now z None taken given y h accepted_before free live = absurd (cc ((h.receiving live).1))
fresh_live c now z (Some r) taken given y h accepted_before free live = omega (arith, h.touched, accepted_before h.accepted)

fresh_limit : (c : Params) (now : ℕ) (run : Option Run) (r : Run) → free_from c run ≤ now → r.sent ≡ now → (firsts_end run ≤ firsts_end (Some r)) × (accepted_before c run ≤ accepted_before c (Some r))
fresh_limit c now None r h e = omega arith
fresh_limit c now (Some q) r h e = omega arith

module _ (c : Params) (now z until life : ℕ) (run : Option Run) (r : Run) (taken : List Taken) (given : List Given) (free : free_from c run ≤ now) (sent : r.sent ≡ now) (began : r.began ≡ now) where
  y_fresh : (y : Option ReceiveRecord) → (0 < top given → last_at given < accepted_before c run) → ReceiverFacts c now z until run taken given y → ReceiverFacts c now z until (Some r) taken given y
  y_fresh None accepted_before h = h
  y_fresh (Some y) accepted_before h = record {
    accepted = h.accepted;
    touched = h.touched;
    receiving = λ live. absurd (fresh_live c now z run taken given y h accepted_before free live);
  }

  pub rest_fresh : (y : Option ReceiveRecord) → ReceiveSide c now z until life run taken given y → ReceiveSide c now z until life (Some r) taken given y
  rest_fresh y f = let le = fresh_limit c now run r free sent in record {
    sent_now = omega arith;
    began = λ q e. let same : r ≡ q = cc in rw (← same) (omega arith);
    first_end = λ p F h. omega (arith, f.first_end p F h, le);
    firsts = f.firsts;
    given_facts = f.given_facts;
    moments = f.moments;
    last_now = f.last_now;
    last_before = λ some. omega (arith, f.last_before some, le);
    record_facts = y_fresh y f.last_before f.record_facts;
    rising = f.rising;
    skipped = f.skipped;
    acked = f.acked;
  }

-- packets
kind_over : (c : Params) (xs ys : List Taken) → KeepsRows xs ys → (p : Packet) (kind : Kind) → KindFacts c xs p kind → KindFacts c ys p kind
kind_over c xs ys o p (Data drf items) h = record {
  some = h.some;
  first = h.first;
  firsts = λ k lt. over_first xs ys o (p.place + k) h.first (h.firsts k lt);
  items_are = λ k lt. over_item xs ys o (p.place + k) h.first (h.firsts k lt) ∙ h.items_are k lt;
  after = h.after;
  within = h.within;
}
kind_over c xs ys o p (Ack window) h = tt
kind_over c xs ys o p Meet h = tt

covers_over : (xs ys : List Taken) → KeepsRows xs ys → (given given' : List Given) → ((q : ℕ) → IsGiven given q → IsGiven given' q) → (r r' : Run) → r'.base ≡ r.base → (p : Packet) → p.place ≤ length xs → (kind : Kind)
    → Covers xs given r p kind → Covers ys given' r' p kind
covers_over xs ys o given given' more r r' same p within (Data drf items) h = λ d q from to. over_done xs ys o q (omega arith) (h d q (omega arith) to)
covers_over xs ys o given given' more r r' same p within (Ack window) h = λ q from to. elim (h q (omega arith) to) [ inl g ↦ inl (more q g) | inr d ↦ inr (over_done xs ys o q (omega arith) d) ]
covers_over xs ys o given given' more r r' same p within Meet h = λ q from to. over_done xs ys o q (omega arith) (h q (omega arith) to)

-- the origin goes by when the run began
pub present_same : (c : Params) (r r' : Run) (birth : ℕ) (kind : Kind) → r'.began ≡ r.began → IsPresent c r birth kind → IsPresent c r' birth kind
present_same c r r' birth (Data drf items) e h = omega arith
present_same c r r' birth (Ack window) e h = omega arith
present_same c r r' birth Meet e h = omega arith

older_same : (c : Params) (r r' : Run) (birth : ℕ) (kind : Kind) → r'.began ≡ r.began → IsOlder c r birth kind → IsOlder c r' birth kind
older_same c r r' birth (Data drf items) e h = omega arith
older_same c r r' birth (Ack window) e h = omega arith
older_same c r r' birth Meet e h = omega arith

pub not_both : (c : Params) (r : Run) (birth : ℕ) (kind : Kind) → 0 < c.mpl → IsPresent c r birth kind → IsOlder c r birth kind → ⊥
not_both c r birth (Data drf items) pos h k = omega arith
not_both c r birth (Ack window) pos h k = omega arith
not_both c r birth Meet pos h k = omega arith

-- a packet's facts stay while ledger, time, what was given and the run go on
module _ (c : Params) (now now' : ℕ) (run run' : Option Run) (xs ys : List Taken) (given given' : List Given)
    (time : now ≤ now') (later : Later run run') (over : KeepsRows xs ys) (more : (q : ℕ) → IsGiven given q → IsGiven given' q) where
  pub packet_on : (p : Packet) → PacketFacts c run xs given p → PacketFacts c run' ys given' p
  packet_on p h = record {
    in_ledger = omega (arith, over_length xs ys over);
    birth = omega (arith, later_birth c run run' p.kind later);
    kind_facts = kind_over c xs ys over p p.kind h.kind_facts;
    started = let k = later_run run run' later h.started.0 h.started.1 in (k.0, k.1);
    origin = λ r e.
        let q = h.started in let k = earlier_run run run' later q.0 q.1 r e in
        elim (h.origin q.0 q.1) [ inl a ↦ inl (present_same c q.0 r p.birth p.kind k.2 a) | inr o ↦ inr (older_same c q.0 r p.birth p.kind k.2 o) ];
    present = λ r e a.
        let q = h.started in let k = earlier_run run run' later q.0 q.1 r e in
        let w = h.present q.0 q.1 (present_same c r q.0 p.birth p.kind (sym k.2) a) in
        record { offset = w.offset; place = omega (arith, w.place, k.0); number = w.number; covers = covers_over xs ys over given given' more q.0 r k.0 p h.in_ledger p.kind w.covers };
  }

-- a packet of an older run is dead where a new run may begin
pub dead : (c : Params) (now : ℕ) (run : Option Run) (kind : Kind) (birth : ℕ) → birth < births_end c run kind → free_from c run ≤ now → birth + c.mpl ≤ now
dead c now None (Data drf items) birth h free = absurd (omega arith)
dead c now None (Ack window) birth h free = absurd (omega arith)
dead c now None Meet birth h free = absurd (omega arith)
dead c now (Some r) (Data drf items) birth h free = omega arith
dead c now (Some r) (Ack window) birth h free = omega arith
dead c now (Some r) Meet birth h free = omega arith

fresh_birth : (c : Params) (now : ℕ) (run : Option Run) (r : Run) (kind : Kind) (birth : ℕ) → 0 < c.mpl → birth < births_end c run kind → free_from c run ≤ now → r.sent ≡ now → birth < births_end c (Some r) kind
fresh_birth c now run r (Data drf items) birth pos h free e = omega (arith, dead c now run (Data drf items) birth h free)
fresh_birth c now run r (Ack window) birth pos h free e = omega (arith, dead c now run (Ack window) birth h free)
fresh_birth c now run r Meet birth pos h free e = omega (arith, dead c now run Meet birth h free)

pub older : (c : Params) (now : ℕ) (run : Option Run) (r : Run) (kind : Kind) (birth : ℕ) → birth < births_end c run kind → free_from c run ≤ now → r.began ≡ now → IsOlder c r birth kind
older c now None r (Data drf items) birth h free e = absurd (omega arith)
older c now None r (Ack window) birth h free e = absurd (omega arith)
older c now None r Meet birth h free e = absurd (omega arith)
older c now (Some q) r (Data drf items) birth h free e = omega arith
older c now (Some q) r (Ack window) birth h free e = omega arith
older c now (Some q) r Meet birth h free e = omega arith

module _ (c : Params) (now : ℕ) (run : Option Run) (r : Run) (xs ys : List Taken) (given : List Given) (free : free_from c run ≤ now) (sent : r.sent ≡ now) (began : r.began ≡ now) (over : KeepsRows xs ys) (pos : 0 < c.mpl) where
  pub packet_fresh : (p : Packet) → PacketFacts c run xs given p → PacketFacts c (Some r) ys given p
  packet_fresh p h = record {
    in_ledger = omega (arith, over_length xs ys over);
    birth = fresh_birth c now run r p.kind p.birth pos h.birth free sent;
    kind_facts = kind_over c xs ys over p p.kind h.kind_facts;
    started = (r, refl);
    origin = λ q e. let same : r ≡ q = cc in inr (rw (← same) (older c now run r p.kind p.birth h.birth free began));
    present = λ q e a. let same : r ≡ q = cc in absurd (not_both c q p.birth p.kind pos a (rw (← same) (older c now run r p.kind p.birth h.birth free began)));
  }

-- a packet that can still arrive is of the present run
older_dead : (c : Params) (r : Run) (birth : ℕ) (kind : Kind) → IsOlder c r birth kind → birth + c.mpl ≤ r.began
older_dead c r birth (Data drf items) h = omega arith
older_dead c r birth (Ack window) h = h
older_dead c r birth Meet h = omega arith

ends_of_some : (run : Option Run) (r : Run) → run ≡ Some r → firsts_end run ≡ suc r.sent
ends_of_some run r e = rw e

pub alive_present : (c : Params) (now z until life : ℕ) (run : Option Run) (taken : List Taken) (given : List Given) (y : Option ReceiveRecord) (p : Packet) → ReceiveSide c now z until life run taken given y → PacketFacts c run taken given p → now < p.birth + c.mpl
    → (r : Run) × (run ≡ Some r) × OfRun c taken given p r
alive_present c now z until life run taken given y p f h live =
    let q = h.started in
    elim (h.origin q.0 q.1) [
      | inl a ↦ (q.0, q.1, h.present q.0 q.1 a)
      | inr o ↦ absurd (omega (arith, older_dead c q.0 p.birth p.kind o, f.began q.0 q.1, f.sent_now, ends_of_some run q.0 q.1))
    ]

-- a packet that is made now is of the present run
now_present : (c : Params) (now : ℕ) (r : Run) (kind : Kind) → 0 < c.mpl → r.began ≤ now → IsPresent c r now kind
now_present c now r (Data drf items) pos h = h
now_present c now r (Ack window) pos h = omega arith
now_present c now r Meet pos h = h

pub made_now : (c : Params) (now : ℕ) (run : Option Run) (r : Run) (taken : List Taken) (given : List Given) (p : Packet) → 0 < c.mpl → run ≡ Some r → r.began ≤ now → p.birth ≡ now → p.place ≤ length taken → p.birth < births_end c run p.kind → KindFacts c taken p p.kind → OfRun c taken given p r
    → PacketFacts c run taken given p
made_now c now run r taken given p pos is began born within birth kind w = record {
  in_ledger = within;
  birth = birth;
  kind_facts = kind;
  started = (r, is);
  origin = λ q e. let same : r ≡ q = cc in inl (rw (← same) (rw born (now_present c now r p.kind pos began)));
  present = λ q e a. let same : r ≡ q = cc in rw (← same) w;
}

pub run_now : (c : Params) (run : Option Run) (now : ℕ) → firsts_end run ≤ suc now → free_from c run ≤ now + send_time c
run_now c None now h = omega arith
run_now c (Some r) now h = omega arith

-- What is kept of the receiving side where its record changes, or the moment until which its station is silent, or the life of the sender, and nothing else.
rest_as : (c : Params) (now z until until' life life' : ℕ) (run : Option Run) (taken : List Taken) (given : List Given) (y y' : Option ReceiveRecord) → ReceiveSide c now z until life run taken given y → ReceiverFacts c now z until' run taken given y'
    → ((p : ℕ) → p < top given → IsGiven given p ⊎ ((row_at taken p).fate ≡ Uncertain) ⊎ ((row_at taken p).life < life')) → ReceiveSide c now z until' life' run taken given y'
rest_as c now z until until' life life' run taken given y y' f ok skips = record {
  sent_now = f.sent_now;
  began = f.began;
  first_end = f.first_end;
  firsts = f.firsts;
  given_facts = f.given_facts;
  moments = f.moments;
  last_now = f.last_now;
  last_before = f.last_before;
  record_facts = ok;
  rising = f.rising;
  skipped = skips;
  acked = f.acked;
}

-- the receive record changes, or the moment until which its station is silent
pub rest_with : (c : Params) (now z until until' life : ℕ) (run : Option Run) (taken : List Taken) (given : List Given) (y y' : Option ReceiveRecord) → ReceiveSide c now z until life run taken given y → ReceiverFacts c now z until' run taken given y' → ReceiveSide c now z until' life run taken given y'
rest_with c now z until until' life run taken given y y' f ok = rest_as c now z until until' life life run taken given y y' f ok f.skipped

-- the sender restarts
pub rest_reborn : (c : Params) (now z until life : ℕ) (run : Option Run) (taken : List Taken) (given : List Given) (y : Option ReceiveRecord) → ReceiveSide c now z until life run taken given y → ReceiveSide c now z until (life + 1) run taken given y
rest_reborn c now z until life run taken given y f = rest_as c now z until until life (life + 1) run taken given y y f f.record_facts (λ p h. skipped_later taken given life p (f.skipped p h))
