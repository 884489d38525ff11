-- What an event that found no memory leaves: on its way the ledgers only grow, and the lives stay.
use Rattle.std.proofs.Common.{ℕ, ◌≤◌, ◌≡◌, ◌==◌, true, false, List, [], ◌∷◌, ◌++◌, Option, Some, refl, sym, ap, subst, ◌∙◌, inl, inr, append_assoc, arith}
use Rattle.std.specs.Prelude.{unwrap_or}
use Rattle.std.proofs.lemmas.Bool.{cases_Bool}
use Rattle.std.proofs.lemmas.List.{append-nil}
use Rattle.dt_units.specs.declared.endpoints.Flow.{Flow}
use Rattle.dt_flow_model.specs.Facts.{KeepsFates}
use Rattle.dt_flow_model.specs.Frames.{Mark}
use Rattle.dt_flow_model.specs.Ledger.{given_rows, note_first, note_read, read_in, take_rows}
use Rattle.dt_flow_model.specs.declared.rows.Fate.TheVariants as fate
use Rattle.dt_flow_model.specs.declared.rows.Given.{Given}
use Rattle.dt_flow_model.specs.declared.rows.ReadCount.{ReadCount}
use Rattle.dt_flow_model.specs.declared.rows.Taken.{Taken}
use Rattle.dt_flow_laws.proofs.Fates.{same, trans}
use Rattle.dt_flow_laws.proofs.Ledger.{note_fates, note_length, over_append, over_at, over_length, over_settle}
use Rattle.dt_flow_laws.proofs.Rows.{KeepsRows}
use Rattle.dt_world_model.specs.Ledgers.{Accepts, Change, Changes, Effect, FlowLedger, GivesUp, Leaves, Ledgers, Neither, Occasion, ReadsOut, Settles, Takes, Transmits, TransmitsAgain, effect_of, ledger_after, ledger_of, ledgers_after, ledgers_by, mark_of}
use Rattle.dt_world_model.specs.Script.{Ask, Done, Hand, Script, Tell}
use Rattle.dt_world_model.specs.Station.{Station}
use Rattle.dt_world_model.specs.Tables.{look, same_flow}
use Rattle.dt_world_model.specs.World.{Noted, Placed, World, note_copy, note_told, placed, world_handler}
use Rattle.dt_world_model.specs.WorldFacts.{SafeLedgers}
use Rattle.dt_world_model.specs.WorldStep.{world_with}
use Rattle.dt_world_model.proofs.Tables.{flow_is, flow_self, look_write, look_write_other, nat_is, nat_self}
use Rattle.dt_flow_model.specs.Safe.{SafeLedger}
use Rattle.dt_world_laws.proofs.Books.{no_placed}
use Rattle.dt_world_laws.specs.Visits.{IsOnTheWay}
use Rattle.dt_world.specs.Stopping.{HasNoted, KeepsLedger}

-- ONE CHANGE keeps what the ledger has
over : (rows after : List Taken) → KeepsRows rows after → KeepsFates rows after
over rows after h = record { no_row_goes = over_length rows after h; fates = λ p lt d. (over_at rows after h p lt).fate d }

noted : (at place count : ℕ) (rows : List Taken) → KeepsFates rows (note_first at place count rows)
noted at place count rows = record { no_row_goes = omega (arith, note_length at place count rows); fates = λ p lt d. note_fates at place count rows p }

more_read : (life count at : ℕ) (rs : List ReadCount) → read_in at rs ≤ read_in at (note_read life count rs)
more_read life count at [] = omega arith
more_read life count at (r ∷ rs) =
    elim (cases_Bool (r.life == life)) [
      | inl y ↦ elim (cases_Bool (r.life == at)) [ inl z ↦ let is : life ≡ at = sym (nat_is r.life life y) ∙ nat_is r.life at z in let here : (life == at) ≡ true = rw is (nat_self at) in rw (y, z, here) (omega arith) | inr o ↦ let is : r.life ≡ life = nat_is r.life life y in let here : (life == at) ≡ false = subst (λ (k : ℕ). (k == at) ≡ false) is o in rw (y, o, here) (omega arith) ]
      | inr n ↦ elim (cases_Bool (r.life == at)) [ inl z ↦ rw (n, z) (omega arith) | inr o ↦ rw (n, o) (more_read life count at rs) ]
    ]

same_rows : (l : FlowLedger) (taken : List Taken) → KeepsFates l.taken taken → KeepsLedger l (record l { taken = taken })
same_rows l taken h = record { fates = h; more = []; given = sym (append-nil l.given); reads = λ life. omega arith }

keeps_all : (l : FlowLedger) → KeepsLedger l l
keeps_all l = record { fates = same l.taken; more = []; given = sym (append-nil l.given); reads = λ life. omega arith }

keeps_then : (a b c : FlowLedger) → KeepsLedger a b → KeepsLedger b c → KeepsLedger a c
keeps_then a b c h k =
    record {
      fates = trans a.taken b.taken c.taken h.fates k.fates;
      more = h.more ++ k.more;
      given = k.given ∙ ap (λ (xs : List Given). xs ++ k.more) h.given ∙ append_assoc a.given h.more k.more;
      reads = λ life. let one = h.reads life in let two = k.reads life in omega (arith, one, two);
    }

change_keeps : (o : Occasion) (c : Change) (l : FlowLedger) → KeepsLedger l (ledger_after o c l)
change_keeps o Takes l = same_rows l (take_rows o.life o.items l.taken) (over l.taken _ (over_append l.taken _))
change_keeps o (Transmits count) l = same_rows l _ (noted o.now _ count l.taken)
change_keeps o TransmitsAgain l = keeps_all l
change_keeps o (GivesUp count) l = same_rows l _ (over l.taken _ (over_settle o.life fate.Uncertain count l.taken))
change_keeps o (Settles count) l = same_rows l _ (over l.taken _ (over_settle o.life fate.Acked count l.taken))
change_keeps o (Accepts run) l = record { fates = same l.taken; more = given_rows o.life o.now run o.place o.items; given = refl; reads = λ life. omega arith }
change_keeps o (ReadsOut count) l = record { fates = same l.taken; more = []; given = sym (append-nil l.given); reads = λ life. more_read o.life count life l.reads }

-- ON THE WAY of an event every flow's ledger keeps what it has
abbrev pub Keeps : Ledgers → Ledgers → Type 0
Keeps all after = (f : Flow) → KeepsLedger (ledger_of all f) (ledger_of after f)

module _ (o : Occasion) where
  written : (g : Flow) (change : Change) (all : Ledgers) → ledger_of (ledgers_by o (Changes g change) all) g ≡ ledger_after o change (ledger_of all g)
  written g change all = ap (λ (l : Option FlowLedger). unwrap_or l (record { taken = []; given = []; reads = [] })) (look_write Flow FlowLedger same_flow flow_self flow_is g (ledger_after o change (ledger_of all g)) all.rows)

  left : (g : Flow) (change : Change) (all : Ledgers) (f : Flow) → same_flow g f ≡ false → ledger_of (ledgers_by o (Changes g change) all) f ≡ ledger_of all f
  left g change all f apart = ap (λ (l : Option FlowLedger). unwrap_or l (record { taken = []; given = []; reads = [] })) (look_write_other Flow FlowLedger same_flow flow_self flow_is f g (ledger_after o change (ledger_of all g)) all.rows apart)

  effect_keeps : (e : Effect) (all : Ledgers) → Keeps all (ledgers_by o e all)
  effect_keeps (Changes g change) all f =
      elim (cases_Bool (same_flow g f)) [
        | inl y ↦
            subst (λ (k : Flow). KeepsLedger (ledger_of all k) (ledger_of (ledgers_by o (Changes g change) all) k)) (flow_is g f y)
            (subst (λ (l : FlowLedger). KeepsLedger (ledger_of all g) l) (sym (written g change all)) (change_keeps o change (ledger_of all g)))
        | inr n ↦ subst (λ (l : FlowLedger). KeepsLedger (ledger_of all f) l) (sym (left g change all f n)) (keeps_all (ledger_of all f))
      ]
  effect_keeps (Leaves link life) all f = keeps_all (ledger_of all f)
  effect_keeps Neither all f = keeps_all (ledger_of all f)

  here : (d t : Noted) → t ≡ d → Keeps d.ledgers t.ledgers
  here d t e f = subst (λ (u : Noted). KeepsLedger (ledger_of d.ledgers f) (ledger_of u.ledgers f)) (sym e) (keeps_all (ledger_of d.ledgers f))

  pub way_keeps : {A : Type 0} (script : Script Mark A) (d t : Noted) → IsOnTheWay (world_handler o) script d t → Keeps d.ledgers t.ledgers
  way_keeps (Done a) d t e = here d t e
  way_keeps (Tell r script) d t (inl e) = here d t e
  way_keeps (Tell r script) d t (inr rest) = λ f. keeps_then (ledger_of d.ledgers f) (ledger_of (ledgers_after o r d.ledgers) f) (ledger_of t.ledgers f) (effect_keeps (effect_of r) d.ledgers f) (way_keeps script (note_told o r d) t rest f)
  way_keeps (Ask host octets script) d t (inl e) = here d t e
  way_keeps (Ask host octets script) d t (inr rest) = way_keeps (script (mark_of o d.ledgers host octets)) d t rest
  way_keeps (Hand link q script) d t (inl e) = here d t e
  way_keeps (Hand link q script) d t (inr rest) = way_keeps script (note_copy o link q d) t rest

  -- the first state is on the way
  pub first_on_the_way : {A : Type 0} (script : Script Mark A) (d : Noted) → IsOnTheWay (world_handler o) script d d
  first_on_the_way (Done a) d = refl
  first_on_the_way (Tell r script) d = inl refl
  first_on_the_way (Ask host octets script) d = inl refl
  first_on_the_way (Hand link q script) d = inl refl

pub all_kept : (all after : Ledgers) → after ≡ all → Keeps all after
all_kept all after same f = subst (λ (l : Ledgers). KeepsLedger (ledger_of all f) (ledger_of l f)) (sym same) (keeps_all (ledger_of all f))

-- THE WORLD WITH WHAT WAS NOTED at a station has the lives and the clocks that it had
module _ (w : World) (n : ℕ) (at : Placed) (there : look ◌==◌ n w.stations ≡ Some at) (station : Station Mark) (d : Noted) where
  abbrev pub stopped_with : World
  stopped_with = world_with w n (record { zero = at.zero; life = at.life; station = station }) d

  abbrev same_in : (Placed → ℕ) → ℕ → Type 0
  same_in part m = part (placed stopped_with m) ≡ part (placed w m)

  same_part : (part : Placed → ℕ) → part (record { zero = at.zero; life = at.life; station = station }) ≡ part at → (m : ℕ) → same_in part m
  same_part part is m =
      elim (cases_Bool (n == m)) [
        | inl y ↦
            subst (λ (k : ℕ). same_in part k) (nat_is n m y)
            (ap (λ (o : Option Placed). part (unwrap_or o (no_placed n))) (look_write ℕ Placed ◌==◌ nat_self nat_is n (record { zero = at.zero; life = at.life; station = station }) w.stations)
            ∙ is ∙ ap (λ (o : Option Placed). part (unwrap_or o (no_placed n))) (sym there))
        | inr o ↦ ap (λ (p : Option Placed). part (unwrap_or p (no_placed m))) (look_write_other ℕ Placed ◌==◌ nat_self nat_is m n (record { zero = at.zero; life = at.life; station = station }) w.stations o)
      ]

  pub has_noted : HasNoted w d stopped_with
  has_noted = record { params = refl; now = refl; links = refl; copies = refl; ledgers = refl; lives = same_part (λ p. p.life) refl; zeros = same_part (λ p. p.zero) refl }

-- safe ledgers are so with the same lives
pub safe_with : (w world : World) (all : Ledgers) → ((n : ℕ) → (placed world n).life ≡ (placed w n).life) → SafeLedgers w all → SafeLedgers world all
safe_with w world all lives safe f = subst (λ (life : ℕ). SafeLedger life (ledger_of all f).taken (ledger_of all f).given (ledger_of all f).reads) (sym (lives f.from.0)) (safe f)
