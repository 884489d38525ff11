-- A packet that enters the queue of its link, where it may find no memory.
use Rattle.std.proofs.Common.{◌≡◌, ◌∙◌, ℕ, ◌++◌, [], ◌∷◌, Bool, true, false, cond, Result, Ok, Err, IfOk, OnOk, OnErr, get_or, length, nat_lt, slice_set, ap, subst, sym}
use Rattle.std.proofs.lemmas.List.{set-get_or}
use Rattle.dt_world_model.specs.declared.links.Entered.{Entered}
use Rattle.dt_world_model.specs.declared.links.Entered.TheVariants.{Full, Queued}
use Rattle.dt_world_model.specs.Relay.{Out, Parcel, Relay, enter, most_on_link, push, with_outs, with_waits}
use Rattle.dt_relay.specs.Ways.{StaysUnlessQueued}
use Rattle.dt_relay.proofs.Links.{put_at, put_in}

-- a queue that is put back as it was leaves the relay as it was
put_back : {T : Type 0} (relay : Relay T) (k : ℕ) (queue : Out T) → queue ≡ get_or relay.outs k queue → with_outs relay (slice_set relay.outs k queue) ≡ relay
put_back relay k queue is = ap (with_outs relay) (ap (slice_set relay.outs k) is ∙ set-get_or relay.outs k queue)

back : {T : Type 0} (relay new : Relay T) (k : ℕ) (queue left : Out T) → queue ≡ get_or relay.outs k queue → new ≡ with_outs relay (slice_set relay.outs k left) → left ≡ queue → new ≡ relay
back relay new k queue left is sets h = sets ∙ (ap (λ (q : Out _). with_outs relay (slice_set relay.outs k q)) h ∙ put_back relay k queue is)

stays_by : {T : Type 0} (b : Bool) (waiting : Out T) (a : Entered) (relay new : Relay T) (k : ℕ) (queue left : Out T) → queue ≡ get_or relay.outs k queue → new ≡ with_outs relay (slice_set relay.outs k left) →
    a ≡ (cond {A = Entered × Out T} b (Queued queue.link, waiting) (Full queue.link, queue)).0 →
    left ≡ (cond {A = Entered × Out T} b (Queued queue.link, waiting) (Full queue.link, queue)).1 →
    StaysUnlessQueued a relay new
stays_by true waiting a relay new k queue left is sets h q = subst (λ (e : Entered). StaysUnlessQueued e relay new) (sym h) tt
stays_by false waiting a relay new k queue left is sets h q = subst (λ (e : Entered). StaysUnlessQueued e relay new) (sym h) (back relay new k queue left is sets q)

module _ {T E : Type 0} (parcel : Parcel T) (now : ℕ) where
  pub answers : (r : Result Entered E) (queue : Out T) (x : Entered) → IfOk r (λ a. a ≡ (push parcel now queue).0) → (push parcel now queue).0 ≡ x → IfOk r (λ a. a ≡ x)
  answers (Ok a) queue x h e = h ∙ e
  answers (Err f) queue x h e = tt

  module _ (relay new : Relay T) (k : ℕ) (queue left : Out T) (is : queue ≡ get_or relay.outs k queue) (sets : new ≡ with_outs relay (slice_set relay.outs k left)) where
    pub after : (r : Result Entered E) → OnOk r (left ≡ (push parcel now queue).1) → enter parcel now relay ≡ put_in relay (put_at relay.outs k (push parcel now queue)) → OnOk r (new ≡ (enter parcel now relay).1)
    after (Ok a) h e = sets ∙ ap (λ (q : Out T). with_outs relay (slice_set relay.outs k q)) h ∙ sym (ap (λ (p : Entered × Relay T). p.1) e)
    after (Err f) h e = tt

    pub same : (r : Result Entered E) → OnErr r (left ≡ queue) → OnErr r (new ≡ relay)
    same (Ok a) h = tt
    same (Err f) h = back relay new k queue left is sets h

    pub stays : (r : Result Entered E) → IfOk r (λ a. a ≡ (push parcel now queue).0) → OnOk r (left ≡ (push parcel now queue).1) → IfOk r (λ a. StaysUnlessQueued a relay new)
    stays (Ok a) h q = stays_by (nat_lt (length queue.waits) most_on_link) (with_waits queue (queue.waits ++ (record { parcel = parcel; since = now }) ∷ []) queue.last) a relay new k queue left is sets h q
    stays (Err f) h q = tt
