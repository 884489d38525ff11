-- What a send record keeps, each of its steps keeps; and what it makes can be spelled.
use Rattle.std.proofs.Common.{ℕ, suc, true, ◌+◌, ◌<◌, ◌≤◌, ◌^◌, ◌≡◌, Bool, List, [], ◌∷◌, ◌++◌, length, Some, refl, sym, ap, subst, ◌∙◌, arith, length-append}
use Rattle.std.specs.List.{All}
use Rattle.std.proofs.lemmas.List.{length-map}
use Rattle.std.proofs.lemmas.Nat.{mod_below}
use Rattle.std.proofs.lemmas.List.Elements.{All-nil, All-append, All-cons, All-tail}
use Rattle.dt_items.specs.declared.item.Item.{Item}
use Rattle.dt_units.specs.declared.parameters.Params.{Params}
use Rattle.dt_units.specs.declared.endpoints.Flow.{Flow}
use Rattle.dt_units.specs.Limits.{IsWithinLimits}
use Rattle.dt_layout.specs.Spelling.{KeepsRules}
use Rattle.dt_flow_model.specs.Facts.{Chain}
use Rattle.dt_flow_model.specs.Frames.{data_packet, meet_packet}
use Rattle.dt_flow_model.specs.Keeping.{HasNoRun, IsPieceSent, IsSegment, IsSendRecord, most_window, taken_by}
use Rattle.dt_flow_model.specs.Numbering.{number_of}
use Rattle.dt_flow_model.specs.SendRecord.{Segment, SendRecord, crossed_after, cut_of, cut_size, end_of, held_of, items_in, may_go, new_record, next_from, next_of, put, record_acked}
use Rattle.dt_flow_model.specs.SendActs.{Act, IsDue, give_up, release, renew, resend, send, meet, record_after}
use Rattle.dt_flow_model.proofs.Chains.{all_at, all_drop, all_rest, all_swap, chain_join, chain_rest, items_append, next_append, swap_chain}
use Rattle.dt_flow_model.proofs.Chosen.{cut_at_most, cut_count, cut_whole}
use Rattle.dt_flow_model.proofs.Pieces.{cut_piece}

-- a record that begins
pub new_kept : (p : Params) (now : ℕ) → IsWithinLimits p → IsSendRecord p (new_record p now [])
new_kept p now limits = record { segments = All-nil (IsSegment p); chain = tt; waiting = All-nil HasNoRun; held = omega arith; few = omega arith; edge = omega (arith, limits.window) }

-- octets that fit are put into it
pub put_kept : (p : Params) (x : SendRecord) (items : List Item) → IsSendRecord p x → All HasNoRun items → held_of x + length items ≤ p.cap → IsSendRecord p (put items x)
put_kept p x items h plain fits = record {
  segments = h.segments;
  chain = h.chain;
  waiting = All-append HasNoRun x.waiting items h.waiting plain;
  held = omega (arith, fits, length-append x.waiting items);
  few = h.few;
  edge = h.edge;
}

-- its first segments are acknowledged
pub acked_kept : (p : Params) (x : SendRecord) (gone rest : List Segment) (w : ℕ) → IsSendRecord p x → x.outstanding ≡ gone ++ rest → w ≤ most_window → IsSendRecord p (record_acked x gone rest w)
acked_kept p x gone rest w h split le =
    let all : All (IsSegment p) (gone ++ rest) = rw split at h.segments in
    let chain : Chain x.left (gone ++ rest) = rw split at h.chain in
    let count : items_in x.outstanding ≡ items_in gone + items_in rest = rw split (items_append gone rest) in
    let size : length x.outstanding ≡ length gone + length rest = rw split (length-append gone rest) in
    record {
      segments = all_rest (IsSegment p) gone rest all;
      chain = chain_rest x.left gone rest chain;
      waiting = h.waiting;
      held = omega (arith, h.held, count);
      few = omega (arith, h.few, size);
      edge = omega arith;
    }

module _ (p : Params) (limits : IsWithinLimits p) (x : SendRecord) (h : IsSendRecord p x) where
  -- a segment that is cut now
  pub cut_segment : (now : ℕ) (cut rest : List Item) → cut ≡ cut_of p x → 0 < length cut → IsSegment p (record { offset = next_of x; items = cut; first = now; last = now })
  cut_segment now cut rest e some =
      let size : length cut ≡ cut_size p x = ap (λ (c : List Item). length c) e ∙ cut_count p x in
      let most = cut_at_most (may_go p x) true x.waiting in
      record {
        piece = subst (λ (c : List Item). IsPieceSent c) (sym e) (cut_piece (may_go p x) x.waiting h.waiting);
        some = some;
        fits = omega (arith, size, most);
      }

  -- Each act keeps it.
  pub act_kept : (now : ℕ) (act : Act) (after : SendRecord) → IsDue p now x act → record_after p now x act ≡ Some after → IsSendRecord p after
  act_kept now (give_up g rest) after due e =
      let all : All (IsSegment p) (g ∷ rest) = rw (due.0) at h.segments in
      let chain : Chain x.left (g ∷ rest) = rw (due.0) at h.chain in
      let count : items_in x.outstanding ≡ length g.items + items_in rest = rw (due.0) refl in
      let size : length x.outstanding ≡ suc (length rest) = rw (due.0) refl in
      let t : IsSendRecord p (record x { left = end_of g; outstanding = rest }) = record { segments = All-tail (IsSegment p) g rest all; chain = chain.2; waiting = h.waiting; held = omega (arith, h.held, count); few = omega (arith, h.few, size); edge = omega (arith, h.edge, chain.0) } in
      let same : record x { left = end_of g; outstanding = rest } ≡ after = cc in
      subst (λ (y : SendRecord). IsSendRecord p y) same t
  act_kept now release after due e = absurd cc
  act_kept now renew after due e =
      let t : IsSendRecord p (new_record p now x.waiting) = record { segments = All-nil (IsSegment p); chain = tt; waiting = h.waiting; held = omega (arith, h.held); few = omega arith; edge = omega (arith, limits.window) } in
      let same : new_record p now x.waiting ≡ after = cc in
      subst (λ (y : SendRecord). IsSendRecord p y) same t
  act_kept now (resend before g rest) after due e =
      let all : All (IsSegment p) (before ++ g ∷ rest) = rw (due.0) at h.segments in
      let chain : Chain x.left (before ++ g ∷ rest) = rw (due.0) at h.chain in
      let one = all_at (IsSegment p) before rest g all in
      let again : Segment = record g { last = now } in
      let k : IsSegment p again = record { piece = one.piece; some = one.some; fits = one.fits } in
      let count : items_in (before ++ again ∷ rest) ≡ items_in x.outstanding = rw (due.0, items_append before (again ∷ rest), items_append before (g ∷ rest)) refl in
      let size : length (before ++ again ∷ rest) ≡ length x.outstanding = rw (due.0, length-append before (again ∷ rest), length-append before (g ∷ rest)) refl in
      let t : IsSendRecord p (record x { touched = now; outstanding = before ++ again ∷ rest }) = record { segments = all_swap (IsSegment p) before rest g again k all; chain = swap_chain x.left before g rest now chain; waiting = h.waiting; held = omega (arith, h.held, count); few = omega (arith, h.few, size); edge = h.edge } in
      let same : record x { touched = now; outstanding = before ++ again ∷ rest } ≡ after = cc in
      subst (λ (y : SendRecord). IsSendRecord p y) same t
  act_kept now (send cut rest) after due e =
      let g : Segment = record { offset = next_of x; items = cut; first = now; last = now } in
      let whole : x.waiting ≡ cut ++ rest = rw (due.0, due.1) (cut_whole p x) in
      let waits : length x.waiting ≡ length cut + length rest = ap (λ (is : List Item). length is) whole ∙ length-append cut rest in
      let t : IsSendRecord p (record x { touched = now; crossed = crossed_after p now x; outstanding = x.outstanding ++ g ∷ []; waiting = rest }) =
      record {
        segments = All-append (IsSegment p) x.outstanding (g ∷ []) h.segments (All-cons (IsSegment p) g [] (cut_segment now cut rest due.0 due.2) (All-nil (IsSegment p)));
        chain = chain_join x.left x.outstanding (g ∷ []) h.chain (refl, due.2, tt);
        waiting = subst (λ (is : List Item). All HasNoRun is) (sym due.1) (all_drop HasNoRun (cut_size p x) x.waiting h.waiting);
        held = omega (arith, h.held, waits, items_append x.outstanding (g ∷ []));
        few = omega (arith, due.3, length-append x.outstanding (g ∷ []));
        edge = h.edge;
      } in
      let same : record x { touched = now; crossed = crossed_after p now x; outstanding = x.outstanding ++ g ∷ []; waiting = rest } ≡ after = cc in
      subst (λ (y : SendRecord). IsSendRecord p y) same t
  act_kept now meet after due e =
      let t : IsSendRecord p (record x { touched = now }) = record { segments = h.segments; chain = h.chain; waiting = h.waiting; held = h.held; few = h.few; edge = h.edge } in
      let same : record x { touched = now } ≡ after = cc in
      subst (λ (y : SendRecord). IsSendRecord p y) same t

-- its packets keep the rules of the layout
pub number_fits : (p : Params) (offset : ℕ) → number_of p offset < 2 ^ 32
number_fits p offset = mod_below (p.start + offset) (2 ^ 32) (omega arith)

pub data_rules : (p : Params) (f : Flow) (g : Segment) (drf : Bool) → IsWithinLimits p → IsSegment p g → KeepsRules (data_packet f (number_of p g.offset) drf g.items)
data_rules p f g drf limits k = let count = length-map g.items (λ (i : Item). i.octet) in (omega (arith, count, k.some), omega (arith, count, k.fits, limits.seg), number_fits p g.offset)

pub meet_rules : (p : Params) (f : Flow) (offset : ℕ) → KeepsRules (meet_packet f (number_of p offset))
meet_rules p f offset = number_fits p offset

-- THE OFFSETS: they end where what was taken ends, which no act moves on
pub act_counts : (p : Params) (now : ℕ) (x : SendRecord) (act : Act) (after : SendRecord) → IsDue p now x act → record_after p now x act ≡ Some after → taken_by after ≤ taken_by x
act_counts p now x (give_up g rest) after due e =
    let same : record x { left = end_of g; outstanding = rest } ≡ after = cc in
    subst (λ (y : SendRecord). taken_by y ≤ taken_by x) same (rw (due.0) (omega arith))
act_counts p now x release after due e = absurd cc
act_counts p now x renew after due e =
    let same : new_record p now x.waiting ≡ after = cc in
    subst (λ (y : SendRecord). taken_by y ≤ taken_by x) same (omega arith)
act_counts p now x (resend before g rest) after due e =
    let again : Segment = record g { last = now } in
    let same : record x { touched = now; outstanding = before ++ again ∷ rest } ≡ after = cc in
    let next : next_from x.left (before ++ again ∷ rest) ≡ next_from x.left x.outstanding = rw (due.0, next_append x.left before (again ∷ rest), next_append x.left before (g ∷ rest)) refl in
    subst (λ (y : SendRecord). taken_by y ≤ taken_by x) same (omega (arith, next))
act_counts p now x (send cut rest) after due e =
    let g : Segment = record { offset = next_of x; items = cut; first = now; last = now } in
    let same : record x { touched = now; crossed = crossed_after p now x; outstanding = x.outstanding ++ g ∷ []; waiting = rest } ≡ after = cc in
    let next : next_from x.left (x.outstanding ++ g ∷ []) ≡ next_of x + length cut = next_append x.left x.outstanding (g ∷ []) in
    let whole : x.waiting ≡ cut ++ rest = rw (due.0, due.1) (cut_whole p x) in
    let waits : length x.waiting ≡ length cut + length rest = ap (λ (is : List Item). length is) whole ∙ length-append cut rest in
    subst (λ (y : SendRecord). taken_by y ≤ taken_by x) same (omega (arith, next, waits))
act_counts p now x meet after due e =
    let same : record x { touched = now } ≡ after = cc in
    subst (λ (y : SendRecord). taken_by y ≤ taken_by x) same (omega arith)

pub acked_counts : (x : SendRecord) (gone rest : List Segment) (w : ℕ) → x.outstanding ≡ gone ++ rest → taken_by (record_acked x gone rest w) ≡ taken_by x
acked_counts x gone rest w split = let next : next_from (next_from x.left gone) rest ≡ next_of x = rw (split, next_append x.left gone rest) refl in omega (arith, next)

pub put_counts : (x : SendRecord) (items : List Item) → taken_by (put items x) ≡ taken_by x + length items
put_counts x items = omega (arith, length-append x.waiting items)
