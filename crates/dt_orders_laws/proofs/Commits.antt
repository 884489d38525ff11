-- Each commit leaves a sound store.
use Rattle.std.proofs.Common.{◌≡◌, ◌≢◌, ◌+◌, ◌≤◌, ◌<◌, ◌∙◌, ℕ, suc, List, [], ◌∷◌, Bool, true, false, ◌⊎◌, inl, inr, ap, sym, subst, arith, refl}
use Rattle.std.specs.Prelude.{if◌then◌else◌, Option, Some, None}
use Rattle.dt_orders_model.specs.declared.registers.RowState.{RowState}
use Rattle.dt_orders_model.specs.declared.registers.RowState.TheVariants.{AtWork, Cancelled, Done}
use Rattle.dt_orders_model.specs.Closing.{IsClosed, IsOpen}
use Rattle.dt_orders_model.specs.Stores.{Act, Among, Entry, Executed, Given, Name, Store, Taken, Withdrawn, is_same, put, results_of, row_of, times}
use Rattle.dt_orders_model.specs.Writing.{horizon_after, row_after, row_finished, row_touched}
use Rattle.dt_orders_laws.proofs.Closed.{KeepsClosed, closed_by_itself, closed_finished, closed_forgotten, closed_touched, closed_written, keeps_put}
use Rattle.dt_orders_laws.proofs.Lists.{at_put, name_at, other_lane, results_alike, same_by, same_itself, untaken, was_taken}
use Rattle.dt_orders_laws.proofs.Sound.{Grows, IsNewly, IsRow, MoreBy, RowHolds, Sound, Told, floor_within, nothing_more, row_more}

-- AN ORDER IS TAKEN that is open and wasn't taken before
module _ (s : Store) (o : Name) (open_at : ℕ) (sound : Sound s) (is_open : IsOpen s.horizon (row_of (s.rows o.lane)) o.number open_at) (new : (d : Taken) → Among d s.log → is_same d.name o ≡ false) where
  abbrev row_then : RowState → List ℕ → Entry
  row_then state result = record { row = row_after (s.clock + 1) s.horizon (row_of (s.rows o.lane)) o.number o.tag state; result = result }

  abbrev entry_then : Act → Taken
  entry_then act = record { name = o; stamp = s.clock + 1; act = act }

  keeps_taken : (state : RowState) (result : List ℕ) → KeepsClosed s.clock s.horizon s.rows s.horizon (put s.rows o.lane (Some (row_then state result)))
  keeps_taken state result = keeps_put s.clock s.horizon s.horizon s.rows o.lane (Some (row_then state result)) (omega arith)
      (λ number shared within c. closed_written (s.clock + 1) s.horizon (row_of (s.rows o.lane)) o.number o.tag state open_at number shared is_open (omega arith) c)

  new_to : (p : Name) → is_same o p ≡ true → (d : Taken) → Among d s.log → (t : Bool) → is_same d.name p ≡ t → is_same d.name p ≡ false
  new_to p same d m true e =
      let back : is_same d.name o ≡ true = same_by p d.name o (alike_back d.name p e) (alike_back o p same) in
      absurd (apart (is_same d.name o) back (new d m))
    where
      alike_back : (a b : Name) → is_same a b ≡ true → is_same b a ≡ true
      alike_back a b h = same_by a b a h (same_itself a)

      apart : (b : Bool) → b ≡ true → b ≡ false → ⊥
      apart b x y = cc
  new_to p same d m false e = e

  once_by : (p : Name) (t : Bool) → is_same o p ≡ t → (if t then suc (times p s.log) else times p s.log) ≤ 1
  once_by p true e = let none = untaken p s.log (λ d m. new_to p e d m (is_same d.name p) refl) in omega arith
  once_by p false e = sound.once p

  -- its row is there: open in the table that is put
  closed_then : (state : RowState) (result : List ℕ) (shared : ℕ) → shared < s.clock + 1 → IsClosed s.horizon (row_of (put s.rows o.lane (Some (row_then state result)) o.lane)) o.number shared
  closed_then state result shared below =
      at_put (λ l e. l ≡ o.lane → IsClosed s.horizon (row_of e) o.number shared) s.rows o.lane (Some (row_then state result))
      (λ e. closed_by_itself (s.clock + 1) s.horizon (row_of (s.rows o.lane)) o.number o.tag state shared below)
      (λ l other e. absurd (other e)) o.lane refl

  taken_then : (act : Act) (state : RowState) (result : List ℕ) (d : Taken) → Among d (entry_then act ∷ s.log) → Among d s.log ⊎ IsNewly s.clock s.horizon (put s.rows o.lane (Some (row_then state result))) d
  taken_then act state result d (inr m) = inl m
  taken_then act state result d (inl e) = inr (subst (λ (x : Taken). IsNewly s.clock s.horizon (put s.rows o.lane (Some (row_then state result))) x) (sym e) (record { stamp = refl; closed = closed_then state result }))

  more_then : (act : Act) (results : List Given) → ((g : Given) → Among g s.results → Among g results) → ((p : Name) → (o.lane ≡ p.lane → ⊥) → results_of p results ≡ results_of p s.results) → (l : ℕ) → l ≢ o.lane → MoreBy l s.log s.results (entry_then act ∷ s.log) results
  more_then act results more same l other = record {
    taken = λ d m. inr m;
    given = more;
    same = λ p e. same p (λ h. other (sym e ∙ sym h));
  }

  rows_then : (act : Act) (state : RowState) (result : List ℕ) (results : List Given) → ((g : Given) → Among g s.results → Among g results) → ((p : Name) → (o.lane ≡ p.lane → ⊥) → results_of p results ≡ results_of p s.results) → Told (entry_then act ∷ s.log) results o state result → (l : ℕ) → RowHolds (s.clock + 1) s.horizon (entry_then act ∷ s.log) results l (put s.rows o.lane (Some (row_then state result)) l)
  rows_then act state result results more same told =
      at_put (λ l e. RowHolds (s.clock + 1) s.horizon (entry_then act ∷ s.log) results l e) s.rows o.lane (Some (row_then state result))
      (record {
        born = floor_within s.clock s.horizon o.lane s.log s.results (s.rows o.lane) (sound.rows o.lane);
        stamp = omega arith;
        told = told;
      })
      (λ l other. row_more s.clock s.horizon (s.clock + 1) s.horizon l s.log s.results (entry_then act ∷ s.log) results (s.rows l) (omega arith) (omega arith) (more_then act results more same l other) (sound.rows l))

  grows_taken : (act : Act) (state : RowState) (result : List ℕ) (results : List Given) → ((g : Given) → Among g s.results → Among g results) → ((p : Name) → (o.lane ≡ p.lane → ⊥) → results_of p results ≡ results_of p s.results) → Told (entry_then act ∷ s.log) results o state result → ((p : Name) → results_of p results ≤ times p (entry_then act ∷ s.log)) → Grows s s.horizon (put s.rows o.lane (Some (row_then state result))) (entry_then act ∷ s.log) results
  grows_taken act state result results more same told given = record {
    within = let h = sound.horizon in omega arith;
    keeps = keeps_taken state result;
    rows_hold = rows_then act state result results more same told;
    taken = taken_then act state result;
    once = λ p. once_by p (is_same o p) refl;
    given = given;
  }

  -- the results of an order that wasn't taken are none
  none_yet : results_of o s.results ≡ 0
  none_yet = let a = sound.results o in let b = untaken o s.log new in omega arith

  given_one : (p : Name) (t : Bool) → (if t then suc (results_of p s.results) else results_of p s.results) ≤ (if t then suc (times p s.log) else times p s.log)
  given_one p true = let a = sound.results p in omega arith
  given_one p false = sound.results p

  given_none : (p : Name) (t : Bool) → results_of p s.results ≤ (if t then suc (times p s.log) else times p s.log)
  given_none p true = let a = sound.results p in omega arith
  given_none p false = sound.results p

  elsewhere : (result : List ℕ) (p : Name) → (o.lane ≡ p.lane → ⊥) → results_of p (record { name = o; result = result } ∷ s.results) ≡ results_of p s.results
  elsewhere result p other = ap (λ (b : Bool). if b then suc (results_of p s.results) else results_of p s.results) (other_lane o p other)

  pub grows_executed : (result : List ℕ) → Grows s s.horizon (put s.rows o.lane (Some (row_then Done result))) (entry_then Executed ∷ s.log) (record { name = o; result = result } ∷ s.results)
  grows_executed result = grows_taken Executed Done result (record { name = o; result = result } ∷ s.results) (λ g m. inr m) (elsewhere result)
      ((s.clock + 1, inl refl), inl refl) (λ p. given_one p (is_same o p))

  pub grows_begun : Grows s s.horizon (put s.rows o.lane (Some (row_then AtWork []))) (entry_then Executed ∷ s.log) s.results
  grows_begun = grows_taken Executed AtWork [] s.results (λ g m. m) (λ p other. refl) ((s.clock + 1, inl refl), none_yet) (λ p. given_none p (is_same o p))

  pub grows_withdrawn : Grows s s.horizon (put s.rows o.lane (Some (row_then Cancelled []))) (entry_then Withdrawn ∷ s.log) s.results
  grows_withdrawn = grows_taken Withdrawn Cancelled [] s.results (λ g m. m) (λ p other. refl) (s.clock + 1, inl refl) (λ p. given_none p (is_same o p))

-- A ROW THAT IS THERE changes
module _ (s : Store) (lane : ℕ) (e : Entry) (sound : Sound s) (is : s.rows lane ≡ Some e) where
  pub its_row : IsRow s.clock s.horizon s.log s.results lane e
  its_row = subst (λ (x : Option Entry). RowHolds s.clock s.horizon s.log s.results lane x) is (sound.rows lane)

  closed_there : (number shared : ℕ) → IsClosed s.horizon (row_of (s.rows lane)) number shared → IsClosed s.horizon (Some e.row) number shared
  closed_there number shared c = subst (λ (x : Option Entry). IsClosed s.horizon (row_of x) number shared) is c

  pub grows_touched : Grows s s.horizon (put s.rows lane (Some (record e { row = row_touched (s.clock + 1) e.row }))) s.log s.results
  grows_touched = record {
    within = let h = sound.horizon in omega arith;
    keeps = keeps_put s.clock s.horizon s.horizon s.rows lane (Some (record e { row = row_touched (s.clock + 1) e.row })) (omega arith)
        (λ number shared within c. closed_touched (s.clock + 1) s.horizon e.row number shared (omega arith) (closed_there number shared c));
    rows_hold = at_put (λ l x. RowHolds (s.clock + 1) s.horizon s.log s.results l x) s.rows lane (Some (record e { row = row_touched (s.clock + 1) e.row }))
        (record { born = its_row.born; stamp = omega arith; told = its_row.told })
        (λ l other. row_more s.clock s.horizon (s.clock + 1) s.horizon l s.log s.results s.log s.results (s.rows l) (omega arith) (omega arith) (nothing_more l s.log s.results) (sound.rows l));
    taken = λ d m. inl m;
    once = sound.once;
    given = sound.results;
  }

  pub grows_forgotten : Grows s (horizon_after s.horizon e.row) (put s.rows lane None) s.log s.results
  grows_forgotten = record {
    within = let h = sound.horizon in let t = its_row.stamp in omega arith;
    keeps = keeps_put s.clock s.horizon (horizon_after s.horizon e.row) s.rows lane None (omega arith)
        (λ number shared within c. closed_forgotten s.horizon e.row number shared its_row.born (closed_there number shared c));
    rows_hold = at_put (λ l x. RowHolds (s.clock + 1) (horizon_after s.horizon e.row) s.log s.results l x) s.rows lane None tt
        (λ l other. row_more s.clock s.horizon (s.clock + 1) (horizon_after s.horizon e.row) l s.log s.results s.log s.results (s.rows l) (omega arith) (omega arith) (nothing_more l s.log s.results) (sound.rows l));
    taken = λ d m. inl m;
    once = sound.once;
    given = sound.results;
  }

  module _ (result : List ℕ) (at_work : e.row.state ≡ AtWork) where
    abbrev its_name : Name
    its_name = name_at lane e.row.number e.row.tag

    its_work : Told s.log s.results its_name AtWork e.result
    its_work = subst (λ (x : RowState). Told s.log s.results its_name x e.result) at_work its_row.told

    given_now : (p : Name) (t : Bool) → is_same its_name p ≡ t → (if t then suc (results_of p s.results) else results_of p s.results) ≤ times p s.log
    given_now p true same =
        let none = its_work.1 in
        let alike = results_alike its_name p s.results same in
        let some = was_taken p s.log (record { name = its_name; stamp = its_work.0.0; act = Executed }) its_work.0.1 same in
        omega arith
    given_now p false same = sound.results p

    apart_from : (p : Name) → (lane ≡ p.lane → ⊥) → results_of p (record { name = its_name; result = result } ∷ s.results) ≡ results_of p s.results
    apart_from p other = ap (λ (b : Bool). if b then suc (results_of p s.results) else results_of p s.results) (other_lane its_name p other)

    pub grows_finished : Grows s s.horizon (put s.rows lane (Some (record { row = row_finished (s.clock + 1) e.row; result = result }))) s.log (record { name = its_name; result = result } ∷ s.results)
    grows_finished = record {
      within = let h = sound.horizon in omega arith;
      keeps = keeps_put s.clock s.horizon s.horizon s.rows lane (Some (record { row = row_finished (s.clock + 1) e.row; result = result })) (omega arith)
          (λ number shared within c. closed_finished (s.clock + 1) s.horizon e.row number shared (omega arith) (closed_there number shared c));
      rows_hold = at_put (λ l x. RowHolds (s.clock + 1) s.horizon s.log (record { name = its_name; result = result } ∷ s.results) l x) s.rows lane (Some (record { row = row_finished (s.clock + 1) e.row; result = result }))
          (record { born = its_row.born; stamp = omega arith; told = (its_work.0, inl refl) })
          (λ l other. row_more s.clock s.horizon (s.clock + 1) s.horizon l s.log s.results s.log (record { name = its_name; result = result } ∷ s.results) (s.rows l) (omega arith) (omega arith)
          (record { taken = λ d m. m; given = λ g m. inr m; same = λ p h. apart_from p (λ x. other (sym h ∙ sym x)) }) (sound.rows l));
      taken = λ d m. inl m;
      once = sound.once;
      given = λ p. given_now p (is_same its_name p) refl;
    }
