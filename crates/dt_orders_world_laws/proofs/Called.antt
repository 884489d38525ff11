-- What is executed or withdrawn was called by some client.
use Rattle.std.proofs.Common.{◌≡◌, ◌+◌, ◌∙◌, ℕ, List, [], ◌∷◌, Bool, inl, inr, ap, arith, refl}
use Rattle.std.proofs.lemmas.Bool.{cases_lt}
use Rattle.dt_orders_model.specs.declared.requests.Verdict.TheVariants as verdict
use Rattle.dt_orders_model.specs.declared.lanes.Word.{Word}
use Rattle.dt_orders_model.specs.Histories.{World}
use Rattle.dt_orders_model.specs.Stores.{Act, Among, Executed, Name, Store, Taken, Withdrawn, executions}
use Rattle.dt_orders_laws.proofs.Lists.{AreAlike, alike_of, either_of, its_execution}
use Rattle.dt_orders_world_laws.specs.Both.{Both, Rules, Runs, Step, adopts, asks, begins, calls, cancels, dies, ends, first_both, gives, handles, hears, leaves, makes, opens, restores, set_back, stores, syncs, tells, with_client, works}
use Rattle.dt_orders_world_laws.specs.Both as both
use Rattle.dt_orders_world_laws.specs.Wires.{Handles, Sent, Works, finishes, forgets, name_of}
use Rattle.dt_orders_world_laws.specs.Wires as wire
use Rattle.dt_orders_world_laws.proofs.Holding.{Holds}
use Rattle.dt_orders_world_laws.proofs.Orderly.{IsCallOf}
use Rattle.dt_orders_world_laws.proofs.Serving.{of_order}
use Rattle.dt_orders_world_laws.proofs.Stepping.{holds_of}
use Rattle.dt_orders_laws.proofs.Moving.{lawful_of}

pub record WasCalled (sent : List Sent) (o : Name) : Type 0 where
  pub call : Sent
  pub there : Among call sent
  pub is : IsCallOf call o

abbrev AllCalled : List Sent → Store → Type 0
AllCalled sent s = (d : Taken) → Among d s.log → WasCalled sent d.name

abbrev AreCalled : List Sent → List Store → Type 0
AreCalled sent past = (s : Store) → Among s past → AllCalled sent s

called_more : (sent : List Sent) (c : Sent) (past : List Store) → AreCalled sent past → AreCalled (c ∷ sent) past
called_more sent c past all s m d n = let x = all s m d n in record { call = x.call; there = inr x.there; is = x.is }

module _ (strict : Bool) (w : World) (sent : List Sent) (all : AreCalled sent w.past) (here : Among w.present w.past) where
  -- an order more is taken
  taken_more : (s : Sent) (act : Act) → Among s sent → IsCallOf s (name_of s) → (d : Taken) → Among d (record { name = name_of s; stamp = w.present.clock + 1; act = act } ∷ w.present.log) → WasCalled sent d.name
  taken_more s act m is = either_of (λ d. WasCalled sent d.name) (record { name = name_of s; stamp = w.present.clock + 1; act = act }) w.present.log (record { call = s; there = m; is = is }) (all w.present here)

  pub handled_called : (s : Sent) (v : World) (said : Word) (result : List ℕ) → Among s sent → Handles strict w s v said result → AreCalled sent v.past
  handled_called s v said result m (wire.executes x e) = either_of (AllCalled sent) _ w.past (taken_more s Executed m (record { kind = of_order strict w.present s verdict.Execute (λ h. h) e; name = refl })) all
  handled_called s v said result m (wire.begins e) = either_of (AllCalled sent) _ w.past (taken_more s Executed m (record { kind = of_order strict w.present s verdict.Execute (λ h. h) e; name = refl })) all
  handled_called s v said result m (wire.fails e) = all
  handled_called s v said result m (wire.cancels e) = either_of (AllCalled sent) _ w.past (taken_more s Withdrawn m (record { kind = of_order strict w.present s verdict.Cancel (λ h. h) e; name = refl })) all
  handled_called s v said result m (wire.touches entry is e) = either_of (AllCalled sent) _ w.past (all w.present here) all
  handled_called s v said result m (wire.answers entry is e) = all
  handled_called s v said result m (wire.says x y e is) = all

  pub works_called : (s : Store) → Works w s → AreCalled sent (s ∷ w.past)
  works_called s (finishes lane e result is at_work) = either_of (AllCalled sent) _ w.past (all w.present here) all
  works_called s (forgets lane e is other) = either_of (AllCalled sent) _ w.past (all w.present here) all

step_called : (rules : Rules) (w v : Both) → Holds w → AreCalled w.sent w.server.past → Step rules w v → AreCalled v.sent v.server.past
step_called rules w v h all (handles s y said value result m d) = handled_called rules.strict w.server w.sent all (lawful_of w.server h.reached).here s y said result m d
step_called rules w v h all (works s d) = works_called rules.strict w.server w.sent all (lawful_of w.server h.reached).here s d
step_called rules w v h all (syncs kept some m) = all
step_called rules w v h all (leaves r m firm) = all
step_called rules w v h all (opens s nonce m drawn) = either_of (AllCalled w.sent) _ w.server.past (all s (h.alive s m)) all
step_called rules w v h all (set_back may s nonce m drawn) = either_of (AllCalled w.sent) _ w.server.past (all s m) all
step_called rules w v h all (gives i lane uid l o e is) = all
step_called rules w v h all (calls i lane c e) = called_more w.sent _ w.server.past all
step_called rules w v h all (asks i lane since knows may) = called_more w.sent _ w.server.past all
step_called rules w v h all (ends i lane) = all
step_called rules w v h all (hears i lane c r m e) = all
step_called rules w v h all (cancels i lane) = all
step_called rules w v h all (adopts i told) = all
step_called rules w v h all (stores i stored kept within some least) = all
step_called rules w v h all (tells i e m within) = all
step_called rules w v h all (dies i nonce k m fresh) = all
step_called rules w v h all (restores may i nonce k m fresh) = all

pub called_of_runs : (rules : Rules) (w : Both) → Runs rules w → AreCalled w.sent w.server.past
called_of_runs rules w (begins nonce nonces differ) = either_of (AllCalled []) _ [] (λ d m. elim m [ ]) (λ s m. elim m [ ])
called_of_runs rules w (both.goes {w = u} v r s) = step_called rules u v (holds_of rules u r) (called_of_runs rules u r) s

-- names that are the same
named : (a b : Name) → AreAlike a b → a ≡ b
named a b x = ap (λ (n : ℕ). record { lane = n; number = a.number; tag = a.tag }) x.lane ∙ (ap (λ (n : ℕ). record { lane = b.lane; number = n; tag = a.tag }) x.number ∙ ap (λ (n : ℕ). record { lane = b.lane; number = b.number; tag = n }) x.tag)

-- WHAT NOBODY CALLED is never executed
pub uncalled_is_not_executed : (rules : Rules) (w : Both) (s : Store) (o : Name) → Runs rules w → Among s w.server.past → ((c : Sent) → Among c w.sent → IsCallOf c o → ⊥) → executions o s.log ≡ 0
uncalled_is_not_executed rules w s o r m none =
    elim (cases_lt 0 (executions o s.log)) [
      | inl some ↦
          let d = its_execution o s.log (omega arith) in
          let c = called_of_runs rules w r s m d.0 d.1 in
          absurd (none c.call c.there (record { kind = c.is.kind; name = c.is.name ∙ named d.0.name o (alike_of d.0.name o d.2) }))
      | inr zero ↦ omega arith
    ]
