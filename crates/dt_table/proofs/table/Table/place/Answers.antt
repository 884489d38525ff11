use Rattle.std.proofs.Common.{ℕ, suc, ◌≡◌, ◌<◌, Option, Some, None, length, refl, sym, ◌∙◌}
use Rattle.std.specs.Prelude.{IfNone, IfSome}
use Rattle.std.specs.Map.{lookup}
use Rattle.dt_table.specs.Agendas.{HasRoom}
use Rattle.dt_table.specs.Places.{equal_flows, place_in, present}
use Rattle.dt_table.proofs.Closing.{Any}
use Rattle.dt_table.proofs.Tables.{none_there, place_room, place_within}
use Rattle.dt_table.proofs.table.Table.place.Goals as goal

if_some : {A : Type 0} (P : A → Type 0) (o : Option A) → ((a : A) → Some a ≡ o → P a) → IfSome o P
if_some P None h = tt
if_some P (Some a) h = h a refl

if_none : {A : Type 0} (P : Type 0) (o : Option A) → (None ≡ o → P) → IfNone o P
if_none P None h = h refl
if_none P (Some a) h = tt

pub returns : goal.returns
returns g c =
    let t = c.args.self.now in
    record {
      here = if_some (λ (i : ℕ). place_in c.args.flow.now t.places ≡ Some i) c.find.result (λ i e. sym c.find.ensures.place ∙ sym e);
      within = if_some (λ (i : ℕ). i < length t.slots.items) c.find.result (λ i e. place_within Any (length t.agenda) t.places t.slots.items t.agenda c.requires c.find.ensures.once c.args.flow.now i (e ∙ c.find.ensures.place));
      room = if_some (λ (i : ℕ). HasRoom (suc i) t.agenda) c.find.result (λ i e. place_room Any (length t.agenda) t.places t.slots.items t.agenda c.requires c.find.ensures.once c.args.flow.now i (e ∙ c.find.ensures.place));
      none = if_none (lookup (equal_flows c.args.flow.now) (present t.slots.items) ≡ None) c.find.result (λ e. none_there Any (length t.agenda) t.places t.slots.items t.agenda c.requires c.args.flow.now (e ∙ c.find.ensures.place));
      once = c.find.ensures.once;
    }
