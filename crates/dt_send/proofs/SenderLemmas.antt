-- What callers see of a sender, from its rings.
use Rattle.std.proofs.Common.{ℕ, ◌+◌, ◌<◌, ◌≤◌, ◌≡◌, false, List, [], ◌∷◌, ◌++◌, length, take, drop, Option, Some, None, refl, sym, ap, ◌∙◌, subst, arith, rules, append_assoc}
use Rattle.std.specs.Prelude.{IfSome, IsSome, nat_le, unwrap_or}
use Rattle.std.proofs.lemmas.Bool.Decides.{nat_tests}
use Rattle.dt_units.specs.declared.endpoints.Flow.{Flow}
use Rattle.dt_flow_model.specs.declared.acts.SendAct.{SendAct}
use Rattle.dt_flow_model.specs.declared.acts.SendKind.{SendKind}
use Rattle.dt_flow_model.specs.declared.moments.SendMoments.{SendMoments}
use Rattle.dt_flow_model.specs.Frames.{frame_of_act}
use Rattle.dt_flow_model.specs.SendRecord.{SendRecord, after_put, held_of}
use Rattle.dt_flow_model.specs.SendActs.{Act, act_of, due_of, kind_and_moment, record_after, send_moments, told_of}
use Rattle.std.proofs.lemmas.List.{drop-drop, take-append-drop}
use Rattle.circular_buffer.specs.Buffer.{buffer}
use Rattle.dt_items.specs.declared.item.Item.{Item}
use Rattle.dt_units.specs.declared.parameters.Params.{Params}
use Rattle.dt_send.specs.declared.sent_segments.SentSegment.{SentSegment}
use Rattle.dt_send.specs.declared.send_buffer.SendBuffer.{SendBuffer}
use Rattle.dt_send.specs.SentSegments.{segments_of, octets_in}
use Rattle.dt_send.specs.SendBuffer.{Acts, IsSendBuffer, record_of}
use Rattle.dt_send.specs.Senders.{SenderValue, first_due}
use Rattle.dt_flow_model.specs.Keeping.{taken_by}
use Rattle.dt_flow_model.proofs.Chosen.{act_is_due}
use Rattle.dt_flow_model.proofs.Records.{act_counts}
use Rattle.dt_send.proofs.DueLemmas.{due_is}
use Rattle.dt_send.specs.Items.{outstanding_items}

-- the outstanding and then the waiting items are all
all_items : (ss : List SentSegment) (items : List Item) → outstanding_items (segments_of ss items) ++ drop (octets_in ss) items ≡ items
all_items [] items = refl
all_items (s ∷ ss) items =
    append_assoc (take s.length items) (outstanding_items (segments_of ss (drop s.length items))) (drop (s.length + octets_in ss) items)
    ∙ ap (λ l. take s.length items ++ (outstanding_items (segments_of ss (drop s.length items)) ++ l)) (sym (drop-drop (octets_in ss) s.length items))
    ∙ ap (λ l. take s.length items ++ l) (all_items ss (drop s.length items))
    ∙ take-append-drop s.length items

pub ring_is : (p : Params) (k : SendBuffer) → IsSendBuffer p k → k.items ≡ buffer (outstanding_items (record_of k).outstanding ++ (record_of k).waiting) p.cap
ring_is p k r = ap (λ n. buffer k.items.items n) r.room ∙ ap (λ l. buffer l p.cap) (sym (all_items k.outstanding_segments.items k.items.items))

abbrev pub seen : Params → Flow → SendRecord → SenderValue
seen p f x = record { rules = p; flow = f; state = x }

-- what is said of the rings is said of the value that callers see
module _ (p : Params) (f : Flow) (x : SendRecord) (v : SenderValue) (same : (seen p f x) ≡ v) (now : ℕ) where
  pub due_seen : (m : SendMoments) (due : Option (SendKind × ℕ)) → m ≡ send_moments p now x → due ≡ first_due now m → due ≡ due_of v.rules now v.state
  due_seen m due e h = subst (λ (u : SenderValue). due ≡ due_of u.rules now u.state) same (h ∙ ap (first_due now) e ∙ sym (due_is p now x))

  module _ (told : SendAct) (after : SendRecord) (was frame : List ℕ) (a : Acts p f now x told after was frame) where
    pub told_seen : IfSome (act_of v.rules now v.state) (λ act. told ≡ told_of v.rules v.state act)
    told_seen = subst (λ (u : SenderValue). IfSome (act_of u.rules now u.state) (λ act. told ≡ told_of u.rules u.state act)) same a.told_is

    pub frame_seen : IfSome (act_of v.rules now v.state) (λ act. frame ≡ unwrap_or (frame_of_act v.rules v.flow v.state act) was)
    frame_seen = subst (λ (u : SenderValue). IfSome (act_of u.rules now u.state) (λ act. frame ≡ unwrap_or (frame_of_act u.rules u.flow u.state act) was)) same a.frame_is

    whole : (o : Option Act) → IfSome o (λ act. after ≡ unwrap_or (record_after p now x act) x) → IfSome o (λ act. (seen p f after) ≡ (seen p f (unwrap_or (record_after p now x act) x)))
    whole None h = h
    whole (Some act) h = ap (λ (y : SendRecord). seen p f y) h

    pub after_seen : IfSome (act_of v.rules now v.state) (λ act. (seen p f after) ≡ record v { state = unwrap_or (record_after v.rules now v.state act) v.state })
    after_seen = subst (λ (u : SenderValue). IfSome (act_of u.rules now u.state) (λ act. (seen p f after) ≡ record u { state = unwrap_or (record_after u.rules now u.state act) u.state })) same (whole (act_of p now x) a.after_is)

too_many : (m n : ℕ) → n < m → nat_le m n ≡ false
too_many m n h = grind (arith, nat_tests)

-- octets that don't fit change nothing
pub full_after : (p : Params) (x : SendRecord) (items : List Item) → p.cap < held_of x + length items → after_put p items x ≡ x
full_after p x items h = rw (too_many (held_of x + length items) p.cap h) refl

-- an act takes nothing
module _ (p : Params) (f : Flow) (now : ℕ) (x : SendRecord) (told : SendAct) (after : SendRecord) (was frame : List ℕ) (a : Acts p f now x told after was frame) where
  counts : (act : Act) → act_of p now x ≡ Some act → (o : Option SendRecord) → record_after p now x act ≡ o → after ≡ unwrap_or o x → taken_by after ≤ taken_by x
  counts act chosen None e h = subst (λ (y : SendRecord). taken_by y ≤ taken_by x) (sym h) (omega arith)
  counts act chosen (Some y) e h = subst (λ (z : SendRecord). taken_by z ≤ taken_by x) (sym h) (act_counts p now x act y (act_is_due p now x act chosen) e)

  from : (o : Option Act) → act_of p now x ≡ o → IfSome o (λ act. after ≡ unwrap_or (record_after p now x act) x) → IsSome (kind_and_moment p x o) → taken_by after ≤ taken_by x
  from None e h due = let no : IsSome {T = SendKind × ℕ} None = due in search rules
  from (Some act) e h due = counts act e (record_after p now x act) refl h

  pub acts_count : IsSome (due_of p now x) → taken_by after ≤ taken_by x
  acts_count due = from (act_of p now x) refl a.after_is due

pub act_counted : (p : Params) (f : Flow) (x : SendRecord) (v : SenderValue) → seen p f x ≡ v → (now : ℕ) (told : SendAct) (after : SendRecord) (was frame : List ℕ) → Acts p f now x told after was frame → IsSome (due_of v.rules now v.state) → taken_by after ≤ taken_by v.state
act_counted p f x v same now told after was frame a due =
    let here : IsSome (due_of p now x) = subst (λ (u : SenderValue). IsSome (due_of u.rules now u.state)) (sym same) due in
    subst (λ (u : SenderValue). taken_by after ≤ taken_by u.state) same (acts_count p f now x told after was frame a here)
