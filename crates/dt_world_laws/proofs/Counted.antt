-- A station's life number is at most the count of its restarts.
use Rattle.std.proofs.Common.{ℕ, ◌+◌, ◌≤◌, ◌≡◌, ◌==◌, List, [], ◌∷◌, true, false, Option, Some, None, refl, ap, subst, inl, inr, arith}
use Rattle.std.specs.Prelude.{unwrap_or}
use Rattle.std.proofs.lemmas.Bool.{cases_Bool}
use Rattle.dt_reports.specs.Entries.{Entry}
use Rattle.dt_reports.specs.declared.faults.StepFault.{StepFault}
use Rattle.dt_flow_model.specs.Frames.{Mark, flow_between}
use Rattle.dt_world_model.specs.Host.{one_if}
use Rattle.dt_world_model.specs.Script.{play}
use Rattle.dt_world_model.specs.Setup.{Setup, new_world}
use Rattle.dt_world_model.specs.Station.{Event, Send, Read, Tick, Arrive, station_event}
use Rattle.dt_world_model.specs.Tables.{look, write}
use Rattle.dt_world_model.specs.World.{Noted, Placed, SenderSide, World, placed, world_handler}
use Rattle.dt_world_model.specs.WorldStep.{WorldEvent, Passes, Sends, Reads, Ticks, Arrives, Loses, Restarts, after_event, copy_at, event_at, first_refusal, link_for, noted_at, occasion, refusals, restart_at, restarted, run_from, step_unless, then_step, world_after, world_step, world_with}
use Rattle.dt_world_laws.specs.Lives.{restart_in, restarts_in}
use Rattle.dt_world_laws.proofs.Books.{no_placed}
use Rattle.dt_world_laws.proofs.Starts.{new_sender}
use Rattle.dt_world_model.proofs.Tables.{look_write, look_write_other, nat_is, nat_self}

abbrev life_in : ℕ → Option Placed → ℕ
life_in n o = (unwrap_or o (no_placed n)).life

module _ (n m : ℕ) (at : Placed) (es : List (ℕ × Placed)) where
  written_here : (n == m) ≡ true → life_in m (look ◌==◌ m (write ◌==◌ n at es)) ≡ at.life
  written_here y = ap (life_in m) (subst (λ (k : ℕ). look ◌==◌ k (write ◌==◌ n at es) ≡ Some at) (nat_is n m y) (look_write ℕ Placed ◌==◌ nat_self nat_is n at es))

  written_there : (n == m) ≡ false → life_in m (look ◌==◌ m (write ◌==◌ n at es)) ≡ life_in m (look ◌==◌ m es)
  written_there o = ap (life_in m) (look_write_other ℕ Placed ◌==◌ nat_self nat_is m n at es o)

  life_here : (n == m) ≡ true → (was : Placed) → look ◌==◌ n es ≡ Some was → life_in m (look ◌==◌ m es) ≡ was.life
  life_here y was there = ap (life_in m) (subst (λ (k : ℕ). look ◌==◌ k es ≡ Some was) (nat_is n m y) there)

played_lives : (w : World) (n m : ℕ) (at after : Placed) (d : Noted) → after.life ≡ at.life → look ◌==◌ n w.stations ≡ Some at → (placed (world_with w n after d) m).life ≤ (placed w m).life
played_lives w n m at after d same there =
    elim (cases_Bool (n == m)) [
      | inl y ↦ let a = written_here n m after w.stations y in let b = life_here n m at w.stations y at there in omega (arith, a, b, same)
      | inr o ↦ let a = written_there n m after w.stations o in omega (arith, a)
    ]

event_lives : (w : World) (n m : ℕ) (e : Event Mark) (o : Option Placed) → look ◌==◌ n w.stations ≡ o → (placed (event_at w n e o).1 m).life ≤ (placed w m).life
event_lives w n m e None there = omega arith
event_lives w n m e (Some at) there =
    let r = play (world_handler (occasion w n e)) (station_event w.params (w.now + at.zero) e at.station) (noted_at w) in
    played_lives w n m at (record { zero = at.zero; life = at.life; station = r.1 }) r.0 refl there

restart_lives : (w : World) (n m : ℕ) (o : Option Placed) → look ◌==◌ n w.stations ≡ o → (placed (restart_at w n o).1 m).life ≤ (placed w m).life + one_if (n == m)
restart_lives w n m None there = omega arith
restart_lives w n m (Some at) there =
    elim (cases_Bool (n == m)) [
      | inl y ↦ let a = written_here n m (restarted w.params w.now at) w.stations y in let b = life_here n m at w.stations y at there in rw y (omega (arith, a, b))
      | inr o ↦ let a = written_there n m (restarted w.params w.now at) w.stations o in rw o (omega (arith, a))
    ]

effect_lives : (w : World) (e : WorldEvent) (m : ℕ) → (placed (after_event w e).1 m).life ≤ (placed w m).life + restart_in m e
effect_lives w (Passes by) m = omega arith
effect_lives w (Sends f octets begin end) m = let k = event_lives w f.from.0 m (Send f octets begin end) (look ◌==◌ f.from.0 w.stations) refl in omega (arith, k)
effect_lives w (Reads f most) m = let k = event_lives w f.to.0 m (Read f most) (look ◌==◌ f.to.0 w.stations) refl in omega (arith, k)
effect_lives w (Ticks n) m = let k = event_lives w n m Tick (look ◌==◌ n w.stations) refl in omega (arith, k)
effect_lives w (Arrives c) m = let k = event_lives w (link_for w c).to m (Arrive (copy_at w c).link (copy_at w c).parcel) (look ◌==◌ (link_for w c).to w.stations) refl in omega (arith, k)
effect_lives w (Loses c) m = omega arith
effect_lives w (Restarts n) m = restart_lives w n m (look ◌==◌ n w.stations) refl

step_lives : (r : List Entry × World) (e : WorldEvent) (m : ℕ) (o : Option StepFault) → (placed (then_step r (step_unless o (after_event r.1 e))).1 m).life ≤ (placed r.1 m).life + restart_in m e
step_lives r e m None = effect_lives r.1 e m
step_lives r e m (Some fault) = omega arith

run_lives : (es : List WorldEvent) (r : List Entry × World) (m : ℕ) → (placed (run_from es r).1 m).life ≤ (placed r.1 m).life + restarts_in m es
run_lives [] r m = omega arith
run_lives (e ∷ es) r m =
    let one = step_lives r e m (first_refusal (refusals r.1 e)) in
    let rest = run_lives es (then_step r (world_step r.1 e)) m in
    omega (arith, one, rest)

pub lives_counted : (setup : Setup) (es : List WorldEvent) (n : ℕ) → (placed (world_after (new_world setup) es) n).life ≤ restarts_in n es
lives_counted setup es n =
    let first : (placed (new_world setup) n).life ≡ 0 = ap (λ (s : SenderSide). s.life) (new_sender setup setup.stations n (flow_between 0 0 0 0)) in
    let k = run_lives es ([], new_world setup) n in
    omega (arith, first, k)
