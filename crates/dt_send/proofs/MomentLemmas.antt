-- The moments of the rings are those of the record.
use Rattle.std.proofs.Common.{ℕ, zero, suc, ◌+◌, ◌≡◌, Bool, true, false, List, [], ◌∷◌, length, drop, Some, None, refl, sym, ap, ◌∙◌, arith}
use Rattle.std.specs.Prelude.{nat_lt, nat_le, max, not, ◌==◌, ◌&&◌, if◌then◌else◌}
use Rattle.std.specs.List.{slice_get}
use Rattle.std.proofs.lemmas.List.{drop_all}
use Rattle.std.proofs.lemmas.Bool.Decides.{nat_tests}
use Rattle.dt_items.specs.declared.item.Item.{Item}
use Rattle.dt_units.specs.Times.{give_time}
use Rattle.dt_units.specs.declared.parameters.Params.{Params}
use Rattle.dt_units.specs.Moments.{earlier}
use Rattle.dt_flow_model.specs.SendRecord.{Segment, SendRecord, cut_length, cut_size, may_go, next_of}
use Rattle.dt_flow_model.specs.SendActs.{better, can_send, could_meet, gives_up_from, is_late, moment_if, releases_from, resending, resends_from}
use Rattle.dt_send.specs.declared.sent_segments.SentSegment.{SentSegment}
use Rattle.dt_send.specs.declared.send_buffer.SendBuffer.{SendBuffer}
use Rattle.dt_send.specs.SentSegments.{segments_of, octets_in}
use Rattle.dt_send.specs.SendBuffer.{IsSendBuffer, record_of}
use Rattle.dt_send.proofs.SentSegmentLemmas.{drop_at, segments-length}
use Rattle.dt_send.proofs.RingLemmas.{waits}

no_zero : (n : ℕ) → (suc n == 0) ≡ false
no_zero n = grind arith

some : (n : ℕ) → nat_lt 0 (suc n) ≡ true
some n = grind (arith, nat_tests)

pub gives_none : (p : Params) (ss : List SentSegment) (items : List Item) → (length ss == 0) ≡ true → gives_up_from p (segments_of ss items) ≡ None
gives_none p [] items h = refl
gives_none p (s ∷ ss) items h = let e = no_zero (length ss) in absurd cc

pub gives_some : (p : Params) (ss : List SentSegment) (items : List Item) (s : SentSegment) → slice_get ss 0 ≡ Some s → gives_up_from p (segments_of ss items) ≡ Some (s.first + give_time p)
gives_some p [] items s h = absurd cc
gives_some p (t ∷ ss) items s h = let same : t ≡ s = cc in ap (λ (x : SentSegment). Some (x.first + give_time p)) same

pub releases_none : (p : Params) (x : SendRecord) (ss : List SentSegment) (items : List Item) → (length ss == 0) ≡ false → releases_from p x (segments_of ss items) ≡ None
releases_none p x [] items h = cc
releases_none p x (s ∷ ss) items h = refl

shut_is : (x : SendRecord) (ss : List SentSegment) (items : List Item) → ((length ss == 0) && not (length items == 0) && nat_le x.edge (next_of x)) ≡ could_meet x (segments_of ss items) (drop (octets_in ss) items)
shut_is x [] [] = refl
shut_is x [] (i ∷ is) = rw (no_zero (length is)) refl
shut_is x (s ∷ ss) items = rw (no_zero (length ss)) refl

pub shut : (p : Params) (k : SendBuffer) → IsSendBuffer p k → ((length k.outstanding_segments.items == 0) && not (length k.items.items == 0) && nat_le k.edge k.next) ≡ could_meet (record_of k) (record_of k).outstanding (record_of k).waiting
shut p k r = ap (λ (n : ℕ). (length k.outstanding_segments.items == 0) && not (length k.items.items == 0) && nat_le k.edge n) r.next ∙ shut_is (record_of k) k.outstanding_segments.items k.items.items

first_in : (b : Bool) → (b && not true) ≡ false
first_in true = refl
first_in false = refl

-- a cut can be made where something may go and something waits
cut_some : (most : ℕ) (items : List Item) → nat_lt 0 (cut_length most true items) ≡ (nat_lt 0 most && nat_lt 0 (length items))
cut_some zero items = refl
cut_some (suc most) [] = rw (some most) refl
cut_some (suc most) (i ∷ is) =
    ap (λ (b : Bool). nat_lt 0 (if b then 0 else suc (if i.end then 0 else cut_length most false is))) (first_in i.begin)
    ∙ some (if i.end then 0 else cut_length most false is)
    ∙ rw (some most, some (length is)) refl

more_wait : (a b w : ℕ) → w + a ≡ b → nat_lt a b ≡ nat_lt 0 w
more_wait a b zero h = grind (arith, nat_tests)
more_wait a b (suc w) h = grind (arith, nat_tests)

pub sendable : (p : Params) (k : SendBuffer) → IsSendBuffer p k → (nat_lt 0 (may_go p (record_of k)) && nat_lt (octets_in k.outstanding_segments.items) (length k.items.items) && nat_lt (length k.outstanding_segments.items) 64) ≡ can_send p (record_of k)
sendable p k r =
    let x = record_of k in
    ap (λ (b : Bool). nat_lt 0 (may_go p x) && b && nat_lt (length k.outstanding_segments.items) 64) (more_wait (octets_in k.outstanding_segments.items) (length k.items.items) (length x.waiting) (waits p k r))
    ∙ ap (λ (b : Bool). b && nat_lt (length k.outstanding_segments.items) 64) (sym (cut_some (may_go p x) x.waiting))
    ∙ ap (λ (n : ℕ). nat_lt 0 (cut_size p x) && nat_lt n 64) (sym (segments-length k.outstanding_segments.items k.items.items))

-- no segment stands after the last
pub none_behind : (ss : List SentSegment) (items : List Item) (place : ℕ) → place ≡ length ss → drop place (segments_of ss items) ≡ []
none_behind ss items place h = drop_all place (segments_of ss items) (omega (arith, segments-length ss items))

-- the scans, one segment after another from the last to the first
module _ (p : Params) (now : ℕ) (gs : List Segment) (i : ℕ) (g : Segment) (is : slice_get gs i ≡ Some g) where
  pub resends_more : resends_from p now (drop i gs) ≡ earlier (moment_if (nat_lt (max now (g.last + p.rto)) (g.first + p.r)) (g.last + p.rto)) (resends_from p now (drop (i + 1) gs))
  resends_more = ap (resends_from p now) (drop_at gs i g is)

  pub resending_more : resending p now (drop i gs) ≡ better g (drop (i + 1) gs) (is_late p now g) (resending p now (drop (i + 1) gs))
  resending_more = ap (resending p now) (drop_at gs i g is)
