-- The worked run is a history.
use Rattle.std.proofs.Common.{◌≡◌, ◌+◌, ◌≤◌, ℕ, List, [], ◌∷◌, true, inl, inr, arith, refl}
use Rattle.std.specs.Prelude.{None, take}
use Rattle.dt_orders_model.specs.declared.knowledge.Known.{Known}
use Rattle.dt_orders_model.specs.declared.lanes.Word.TheVariants as word
use Rattle.dt_orders_model.specs.declared.registers.RowState.TheVariants.{Done}
use Rattle.dt_orders_model.specs.declared.requests.Verdict.TheVariants as verdict
use Rattle.dt_orders_model.specs.Histories.{first_store}
use Rattle.dt_orders_model.specs.Lanes.{lane_noted}
use Rattle.dt_orders_model.specs.Stores.{Among, Entry, Store, is_on}
use Rattle.dt_orders_laws.proofs.Lists.{either_of}
use Rattle.dt_orders_world_laws.specs.Both.{AreAmong, IsFirm, IsFresh, Runs, asks, begins, calls, dies, ends, gives, goes, handled, handles, hears, leaves, opens, stores, syncs, tells}
use Rattle.dt_orders_world_laws.specs.Clients.{Kept, Process, kept_of, put_at}
use Rattle.dt_orders_world_laws.specs.Wires.{answers, executes, says}
use Rattle.dt_orders_world_laws.specs.Worked.{answer, answered, asked, called_once, called_thrice, called_twice, done, executed_again, executed_once, fate_of_order, gave, greeted, greeting, its_store, kept_history, lost_call, lost_history, met, no_set_back, nothing_heard, opened, order, powered, question, second_call, start, stored, synced, third_call, told, unsure}
use Rattle.dt_orders_world_laws.proofs.Puts.{at_put}

firm_one : (q : Known) (s : Store) → is_on q s ≡ true → IsFirm q (s ∷ [])
firm_one q s e = either_of (λ x. is_on q x ≡ true) s [] e (λ x m. elim m [ ])

one_is : {A : Type 0} (x : A) (xs : List A) → AreAmong (x ∷ []) (x ∷ xs)
one_is x xs y (inl e) = inl e
one_is x xs y (inr m) = elim m [ ]

at_start : Runs no_set_back start
at_start = begins 9 (λ i. i + 100) (λ i j e. omega (arith, e))

at_asked : Runs no_set_back asked
at_asked = goes asked at_start (asks 1 5 nothing_heard None (inl refl))

at_greeted : Runs no_set_back greeted
at_greeted = goes greeted (goes (handled asked asked.server greeting) at_asked (handles question asked.server word.Told 0 [] (inl refl) (says verdict.Read word.Told refl refl)))
    (leaves greeting (inl refl) (either_of (λ x. is_on greeting.answer.heard x ≡ true) (first_store 9) (first_store 9 ∷ []) refl (firm_one greeting.answer.heard (first_store 9) refl)))

at_met : Runs no_set_back met
at_met = goes met at_greeted (hears 1 5 question.called greeting (inl refl) refl)

at_gave : Runs no_set_back gave
at_gave = goes gave at_met (gives 1 5 7 (lane_noted ((met.clients 1).lanes 5) 7 101 order.since 1) order refl refl)

at_stored : Runs no_set_back (stored gave)
at_stored = goes (stored gave) at_gave (stores 1 1 (take 1 (gave.clients 1).alive) (omega arith) (one_is its_store (met.clients 1).alive) (either_of (λ k. 1 ≤ k.number) its_store [] (omega arith) (λ k m. elim m [ ])))

at_called_once : Runs no_set_back called_once
at_called_once = goes called_once at_stored (calls 1 5 lost_call.called refl)

at_executed_once : Runs no_set_back executed_once
at_executed_once = goes executed_once at_called_once (handles lost_call lost_history word.Done 0 (1 ∷ []) (inl refl) (executes (1 ∷ []) refl))

at_powered : Runs no_set_back powered
at_powered = goes powered at_executed_once (opens (first_store 9) 10 (inr (inl refl)) (((λ e. omega (arith, e)), tt), (((λ e. omega (arith, e)), tt), tt)))

at_called_twice : Runs no_set_back called_twice
at_called_twice = goes called_twice (goes unsure at_powered (ends 1 5)) (calls 1 5 second_call.called refl)

at_synced : Runs no_set_back synced
at_synced = goes synced (goes executed_again at_called_twice (handles second_call kept_history word.Done 0 (2 ∷ []) (inl refl) (executes (2 ∷ []) refl)))
    (syncs (take 1 executed_again.alive) (one_is kept_history.present called_twice.alive) (inl refl))

-- no client has the nonce 5
fresh_put : (clients : ℕ → Process) (p : Process) → IsFresh 5 clients → (Among 5 p.nonces → ⊥) → IsFresh 5 (put_at clients 1 p)
fresh_put clients p rest one = at_put (λ i x. Among 5 x.nonces → ⊥) clients 1 p one rest

not_its : Among {A = ℕ} 5 (101 ∷ []) → ⊥
not_its (inl e) = omega (arith, e)
not_its (inr m) = elim m [ ]

fresh_start : IsFresh 5 start.clients
fresh_start i (inl e) = omega (arith, e)
fresh_start i (inr m) = elim m [ ]

fresh_met : IsFresh 5 met.clients
fresh_met = fresh_put greeted.clients (met.clients 1) (fresh_put start.clients (asked.clients 1) fresh_start not_its) not_its

fresh_called : IsFresh 5 called_once.clients
fresh_called = fresh_put (stored gave).clients (called_once.clients 1) (fresh_put gave.clients ((stored gave).clients 1) (fresh_put met.clients (gave.clients 1) fresh_met not_its) not_its) not_its

fresh_synced : IsFresh 5 synced.clients
fresh_synced = fresh_put unsure.clients (called_twice.clients 1) (fresh_put powered.clients (unsure.clients 1) fresh_called not_its) not_its

at_opened : Runs no_set_back opened
at_opened = goes opened at_synced (dies 1 5 its_store (inl refl) fresh_synced)

at_called_thrice : Runs no_set_back called_thrice
at_called_thrice = goes called_thrice at_opened (calls 1 5 third_call.called refl)

abbrev entry : Entry
entry = record { row = record { number = 1; tag = 101; state = Done; stamp = 3; born = 0 }; result = 2 ∷ [] }

at_answered : Runs no_set_back answered
at_answered = goes answered (goes (handled called_thrice called_thrice.server answer) at_called_thrice (handles third_call called_thrice.server word.Done 0 (2 ∷ []) (inl refl) (answers entry refl refl)))
    (leaves answer (inl refl) (either_of (λ x. is_on answer.answer.heard x ≡ true) kept_history.present (kept_history.present ∷ []) refl (firm_one answer.answer.heard kept_history.present refl)))

at_done : Runs no_set_back done
at_done = goes done at_answered (hears 1 5 third_call.called answer (inl refl) refl)

-- its store after the record of the fate
abbrev last_kept : Kept
last_kept = kept_of (record (opened.clients 1) { client = (done.clients 1).client; lanes = (done.clients 1).lanes; fates = (done.clients 1).fates })

pub at_told : Runs no_set_back told
at_told = goes told (goes (stored done) at_done (stores 1 2 (take 1 (done.clients 1).alive) (omega arith) (one_is last_kept (answered.clients 1).alive) (either_of (λ k. 2 ≤ k.number) last_kept [] (omega arith) (λ k m. elim m [ ])))) (tells 1 fate_of_order (inl refl) (omega arith))
