-- What a program is told.
use Rattle.std.proofs.Common.{List, ◌≡◌, ◌≢◌, ◌≤◌, ℕ, Bool, true, false, ◌⊎◌, inl, inr, ap, sym, subst, arith, refl}
use Rattle.std.specs.Prelude.{◌&&◌, min, not, if◌then◌else◌, Some}
use Rattle.dt_orders_model.specs.declared.lanes.Fate.{Fate}
use Rattle.dt_orders_model.specs.declared.lanes.Fate.TheVariants as fate
use Rattle.dt_orders_model.specs.declared.requests.Verdict.{Verdict}
use Rattle.dt_orders_model.specs.declared.requests.Verdict.TheVariants as verdict
use Rattle.dt_orders_model.specs.Closing.{IsOpen}
use Rattle.dt_orders_model.specs.Fates.{WasExecuted, WasWithdrawn}
use Rattle.dt_orders_model.specs.Histories.{asked_of, known_or, verdict_at}
use Rattle.dt_orders_model.specs.Judging.{is_ask, is_forked, is_met, judged_by}
use Rattle.dt_orders_model.specs.Stores.{Among, Name, Store, Taken, Withdrawn, executions, heard, is_same, place_of, row_of, shared}
use Rattle.dt_orders_laws.proofs.Closed.{open_is_not_closed}
use Rattle.dt_orders_laws.proofs.Ends as history
use Rattle.dt_orders_laws.proofs.Lawful.{untaken_by}
use Rattle.dt_orders_laws.proofs.Lists.{same_itself}
use Rattle.dt_orders_laws.proofs.Moving.{lawful_of, opened_by}
use Rattle.dt_orders_laws.proofs.Settling.{closed_lower}
use Rattle.dt_orders_world_laws.specs.Both.{Both, Rules, Runs, Told}
use Rattle.dt_orders_world_laws.specs.Ordered.{MayComeNext, RunsInOrder}
use Rattle.dt_orders_world_laws.specs.Wires.{Sent, call_as, name_of, note_of}
use Rattle.dt_orders_world_laws.proofs.Acting.{AreKept, stays_of}
use Rattle.dt_orders_world_laws.proofs.Called.{uncalled_is_not_executed}
use Rattle.dt_orders_world_laws.proofs.Facing.{MetBy, ShutAs}
use Rattle.dt_orders_world_laws.proofs.Puts.{apart}
use Rattle.dt_orders_world_laws.proofs.Staying.{SealedAs}
use Rattle.dt_orders_world_laws.proofs.Strict.{faces_of}
use Rattle.dt_orders_world_laws.proofs.Holding.{DoneAt, FateIs}
use Rattle.dt_orders_world_laws.proofs.InOrder.{settled_in_order}
use Rattle.dt_orders_world_laws.proofs.Orderly.{IsCallOf}
use Rattle.dt_orders_world_laws.proofs.Serving.{of_order}
use Rattle.dt_orders_world_laws.proofs.Stepping.{holds_of}

pub once_at_most : (rules : Rules) (w : Both) (s : Store) (o : Name) → Runs rules w → Among s w.server.past → executions o s.log ≤ 1
once_at_most rules w s o r m = history.once_at_most w.server s o (holds_of rules w r).reached m

pub uncalled : (rules : Rules) (w : Both) (s : Store) (o : Name) → Runs rules w → Among s w.server.past → ((c : Sent) → Among c w.sent → name_of c ≡ o → ⊥) → executions o s.log ≡ 0
uncalled rules w s o r m none = uncalled_is_not_executed rules w s o r m (λ c n is. none c n is.name)

-- DONE, at the commit that the answer named
pub done_named : (rules : Rules) (w : Both) (t : Told) → Runs rules w → Among t w.told → t.ended.fate ≡ fate.Done → (s : Store) × Among s w.server.past × (t.ended.heard ≡ Some (heard s)) × WasExecuted s t.ended.name t.ended.result
done_named rules w t r m e =
    let d : DoneAt w.server.past t.ended = subst (λ (f : Fate). FateIs w.server.past t.ended f) e ((holds_of rules w r).told t m) in
    (d.store, d.there, d.is, d.executed)

-- what a fate says is so at each store that a crash may leave
sealed_of : (rules : Rules) (w : Both) (t : Told) (f : Fate) → AreKept rules → Runs rules w → Among t w.told → t.ended.fate ≡ f → SealedAs w.alive w.sent t.ended f
sealed_of rules w t f k r m e =
    let x = stays_of rules w k r in
    let sealed = (x.each t.client).sealed t.ended (x.told t m).there in
    subst (λ (y : Fate). SealedAs w.alive w.sent t.ended y) e sealed

pub done_now : (rules : Rules) (w : Both) (t : Told) → rules.server ≡ false → rules.clients ≡ false → Runs rules w → Among t w.told → t.ended.fate ≡ fate.Done → WasExecuted w.server.present t.ended.name t.ended.result
done_now rules w t s c r m e = sealed_of rules w t fate.Done (record { server = s; clients = c }) r m e w.server.present (stays_of rules w (record { server = s; clients = c }) r).present

pub never_now : (rules : Rules) (w : Both) (t : Told) → rules.server ≡ false → rules.clients ≡ false → Runs rules w → Among t w.told → t.ended.fate ≡ fate.Never → executions t.ended.name w.server.present.log ≡ 0
never_now rules w t s c r m e = by (sealed_of rules w t fate.Never (record { server = s; clients = c }) r m e)
  where
    by : ((x : Store) → Among x w.alive → WasWithdrawn x t.ended.name) ⊎ ((d : Sent) → Among d w.sent → IsCallOf d t.ended.name → ⊥) → executions t.ended.name w.server.present.log ≡ 0
    by (inl h) =
        let x = stays_of rules w (record { server = s; clients = c }) r in
        history.never_by w.server.present t.ended.name (history.sound_now w.server (holds_of rules w r).reached) (h w.server.present x.present)
    by (inr h) =
        let x = holds_of rules w r in
        let y = stays_of rules w (record { server = s; clients = c }) r in
        uncalled_is_not_executed rules w w.server.present t.ended.name r (x.alive w.server.present y.present) h

-- what is shared isn't above the commit's clock
shared_clock : (clock : ℕ) (t : Bool) (left : ℕ) → (if t then min clock left else 0) ≤ clock
shared_clock clock true left = omega arith
shared_clock clock false left = omega arith

pub unknown_now : (rules : Rules) (w : Both) (t : Told) (c : Sent) (strict : Bool) → rules.server ≡ false → rules.clients ≡ false → Runs rules w → Among t w.told → t.ended.fate ≡ fate.Unknown → Among c w.sent → name_of c ≡ t.ended.name → verdict_at strict w.server.present (call_as c) ≢ verdict.Execute
unknown_now rules w t c strict s k r m e n name v =
    let x = stays_of rules w (record { server = s; clients = k }) r in
    let call : IsCallOf c t.ended.name = record { kind = of_order strict w.server.present c verdict.Execute (λ h. h) v; name = name } in
    let closed = sealed_of rules w t fate.Unknown (record { server = s; clients = k }) r m e c n call w.server.present x.present in
    let is_open = opened_by w.server strict (call_as c) verdict.Execute tt v in
    let named : IsOpen w.server.present.horizon (row_of (w.server.present.rows t.ended.name.lane)) t.ended.name.number (shared c.called.since w.server.present) = subst (λ (o : Name). IsOpen w.server.present.horizon (row_of (w.server.present.rows o.lane)) o.number (shared c.called.since w.server.present)) name is_open in
    let less = shared_clock c.called.since.clock (place_of c.called.since w.server.present).is_there (place_of c.called.since w.server.present).left in
    open_is_not_closed w.server.present.horizon (row_of (w.server.present.rows t.ended.name.lane)) t.ended.name.number (shared c.called.since w.server.present) named
    (closed_lower w.server.present.horizon (row_of (w.server.present.rows t.ended.name.lane)) t.ended.name.number c.called.since.clock (shared c.called.since w.server.present) less closed)

-- ONE FATE, whatever the server's store is set back to
pub one_fate : (rules : Rules) (w : Both) (t u : Told) → rules.clients ≡ false → Runs rules w → Among t w.told → Among u w.told → t.ended.name ≡ u.ended.name → t.ended ≡ u.ended
one_fate rules w t u c r m n name =
    let x = faces_of rules w c r in
    let a = (x.told t m).there in
    let b = (x.told u n).there in
    let mine = ((x.each t.client).orderly.named t.ended a).mine in
    let yours = ((x.each u.client).orderly.named u.ended b).mine in
    let tag : t.ended.name.tag ≡ u.ended.name.tag = ap (λ (o : Name). o.tag) name in
    let same : u.client ≡ t.client = (holds_of rules w r).apart u.client t.client t.ended.name.tag (subst (λ (y : ℕ). Among y (w.clients u.client).nonces) (sym tag) yours) mine in
    let there : Among u.ended (w.clients t.client).fates = subst (λ (y : ℕ). Among u.ended (w.clients y).fates) same b in
    (x.each t.client).orderly.once t.ended u.ended a there name

-- a strict server executes only calls that know of its present opening
abbrev IsExecute : Verdict → Type 0
IsExecute verdict.Execute = Unit {0}
IsExecute _ = ⊥

met_by : (t u m : Bool) (v : Verdict) → (if t then verdict.Forked else if u then verdict.Read else if true && not m then verdict.Hello else v) ≡ verdict.Execute → m ≡ true
met_by true u m v e = let x : IsExecute verdict.Forked = subst IsExecute (sym e) tt in absurd x
met_by false true m v e = let x : IsExecute verdict.Read = subst IsExecute (sym e) tt in absurd x
met_by false false true v e = refl
met_by false false false v e = let x : IsExecute verdict.Hello = subst IsExecute (sym e) tt in absurd x

met_of : (s : Store) (c : Sent) → verdict_at true s (call_as c) ≡ verdict.Execute → MetBy c s.opening.nonce
met_of s c v = met_by (is_forked c.called.knows (place_of (known_or c.called.since c.called.knows) s)) (is_ask c.called.kind) (is_met s.opening.nonce c.called.knows) (judged_by s.horizon (row_of (s.rows c.lane)) (asked_of (call_as c)) (shared c.called.since s)) v

-- NEVER AND UNKNOWN over set backs of a strict server
module _ (rules : Rules) (w : Both) (t : Told) (c : Sent) (clients : rules.clients ≡ false) (r : Runs rules w) (m : Among t w.told) (there : Among c w.sent) (name : name_of c ≡ t.ended.name) (v : verdict_at true w.server.present (call_as c) ≡ verdict.Execute) where
  call : IsCallOf c t.ended.name
  call = record { kind = of_order true w.server.present c verdict.Execute (λ h. h) v; name = name }

  shut : (f : Fate) → t.ended.fate ≡ f → ShutAs w.server.present w.sent t.ended f
  shut f e = let x = faces_of rules w clients r in subst (λ (y : Fate). ShutAs w.server.present w.sent t.ended y) e ((x.each t.client).sealed t.ended (x.told t m).there)

  is_open : IsOpen w.server.present.horizon (row_of (w.server.present.rows c.lane)) c.called.number (shared c.called.since w.server.present)
  is_open = opened_by w.server true (call_as c) verdict.Execute tt v

  never_shut : t.ended.fate ≡ fate.Never → ⊥
  never_shut e =
      let h = holds_of rules w r in
      let l = lawful_of w.server h.reached in
      let gone = shut fate.Never e c there call (met_of w.server.present c v) in
      let d : Taken = record { name = t.ended.name; stamp = gone.stamp; act = Withdrawn } in
      let other = untaken_by w.server l w.server.present l.here (note_of c) ((h.calls c there).noted call.kind) is_open d gone.there (is_same t.ended.name (name_of c)) refl in
      let same : is_same t.ended.name (name_of c) ≡ true = subst (λ (o : Name). is_same t.ended.name o ≡ true) (sym name) (same_itself t.ended.name) in
      apart same other

  unknown_shut : t.ended.fate ≡ fate.Unknown → ⊥
  unknown_shut e =
      let closed = shut fate.Unknown e c there call (met_of w.server.present c v) in
      let named : IsOpen w.server.present.horizon (row_of (w.server.present.rows t.ended.name.lane)) t.ended.name.number (shared c.called.since w.server.present) = subst (λ (o : Name). IsOpen w.server.present.horizon (row_of (w.server.present.rows o.lane)) o.number (shared c.called.since w.server.present)) name is_open in
      open_is_not_closed w.server.present.horizon (row_of (w.server.present.rows t.ended.name.lane)) t.ended.name.number (shared c.called.since w.server.present) named closed

  by_fate : (t.ended.fate ≡ fate.Never) ⊎ (t.ended.fate ≡ fate.Unknown) → ⊥
  by_fate (inl e) = never_shut e
  by_fate (inr e) = unknown_shut e

pub settled : (rules : Rules) (w : Both) (t : Told) (c : Sent) → rules.clients ≡ false → Runs rules w → Among t w.told → (t.ended.fate ≡ fate.Never) ⊎ (t.ended.fate ≡ fate.Unknown) → Among c w.sent → name_of c ≡ t.ended.name → verdict_at true w.server.present (call_as c) ≢ verdict.Execute
settled rules w t c k r m f n name v = by_fate rules w t c k r m n name v f

-- NEVER AND UNKNOWN over set backs, where the wire keeps the order of calls
pub settled_in_their_order : (rules : Rules) (w : Both) (out : List Sent) (t : Told) (c : Sent) → rules.clients ≡ false → RunsInOrder rules w out → Among t w.told → (t.ended.fate ≡ fate.Never) ⊎ (t.ended.fate ≡ fate.Unknown) → Among c w.sent → is_ask c.called.kind ≡ false → name_of c ≡ t.ended.name → MayComeNext w.sent out c → ⊥
settled_in_their_order rules w out t c k r m f n kind name next = settled_in_order rules w out t c k r m f n (record { kind = kind; name = name }) next
