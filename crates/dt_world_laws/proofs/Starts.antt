-- A new world has the facts.
use Rattle.std.proofs.Common.{ℕ, ◌≡◌, ◌==◌, true, false, List, [], ◌∷◌, map, Some, None, refl, sym, ap, subst, inl, inr, ◌∙◌}
use Rattle.std.specs.Prelude.{if◌then◌else◌, unwrap_or}
use Rattle.std.proofs.lemmas.Bool.{cases_Bool}
use Rattle.std.proofs.lemmas.List.Elements.{All-nil}
use Rattle.dt_units.specs.declared.endpoints.Flow.{Flow}
use Rattle.dt_flow_model.specs.Facts.{Facts}
use Rattle.dt_flow_model.specs.Flow.{FlowState, new_flow}
use Rattle.dt_flow_laws.proofs.Reached.{start_facts}
use Rattle.dt_world_model.specs.declared.links.Link.{Link}
use Rattle.dt_world_model.specs.declared.links.OutLink.{OutLink}
use Rattle.dt_world_model.specs.Tables.{AllEntries, look}
use Rattle.dt_flow_model.specs.Frames.{Mark}
use Rattle.dt_world_model.specs.Relay.{Out, Waiting, charge_of, empty_out}
use Rattle.dt_world_laws.proofs.Books.{Book, flow_state, no_placed}
use Rattle.dt_world_model.specs.Host.{no_receiver}
use Rattle.dt_world_model.specs.World.{Placed, ReceiverSide, SenderSide, placed, receiver_side, sender_side, view}
use Rattle.dt_world_model.specs.WorldStep.{link_in}
use Rattle.dt_world_model.proofs.Tables.{nat_is, nat_self}
use Rattle.dt_world_model.specs.Setup.{Setup, ins_of, new_world, outs_of, placed_first}
use Rattle.dt_world_model.specs.WorldFacts.{AllOuts, IsCopy, IsPlaced, IsWaiting, WorldFacts}

abbrev no_book : Book
no_book = record { taken = []; given = []; reads = []; run = None; crossings = [] }

abbrev placed_of : Setup → List (ℕ × ℕ) → List (ℕ × Placed)
placed_of setup ss = map (λ (e : ℕ × ℕ). (e.0, placed_first setup e.0 e.1)) ss

-- the clock of a station
abbrev ahead_of : List (ℕ × ℕ) → ℕ → ℕ
ahead_of [] n = 0
ahead_of (s ∷ ss) n = if s.0 == n then s.1 else ahead_of ss n

pub new_sender : (setup : Setup) (ss : List (ℕ × ℕ)) (n : ℕ) (f : Flow) → sender_side (unwrap_or (look ◌==◌ n (placed_of setup ss)) (no_placed n)) f ≡ record { zero = ahead_of ss n; life = 0; until = 0; sender = None }
new_sender setup [] n f = refl
new_sender setup (s ∷ ss) n f = elim (cases_Bool (s.0 == n)) [ inl y ↦ rw y refl | inr o ↦ rw o (new_sender setup ss n f) ]

new_receiver : (setup : Setup) (ss : List (ℕ × ℕ)) (n : ℕ) (f : Flow) → receiver_side (unwrap_or (look ◌==◌ n (placed_of setup ss)) (no_placed n)) f ≡ record { zero = ahead_of ss n; life = 0; until = 0; receiver = no_receiver }
new_receiver setup [] n f = refl
new_receiver setup (s ∷ ss) n f = elim (cases_Bool (s.0 == n)) [ inl y ↦ rw y refl | inr o ↦ rw o (new_receiver setup ss n f) ]

new_view : (setup : Setup) (f : Flow) → view (new_world setup) f ≡ new_flow (ahead_of setup.stations f.from.0) (ahead_of setup.stations f.to.0)
new_view setup f =
    ap (λ (x : SenderSide). flow_state 0 x (receiver_side (placed (new_world setup) f.to.0) f) no_book) (new_sender setup setup.stations f.from.0 f)
    ∙ ap (λ (y : ReceiverSide). flow_state 0 (record { zero = ahead_of setup.stations f.from.0; life = 0; until = 0; sender = None }) y no_book) (new_receiver setup setup.stations f.to.0 f)

nothing_waits : (P : Waiting Mark → Type 0) (os : List OutLink) → AllOuts P (map (λ (o : OutLink). let q : Out Mark = empty_out o.link o.pace in q) os)
nothing_waits P [] = tt
nothing_waits P (o ∷ os) = (All-nil P, nothing_waits P os)

new_placed : (setup : Setup) (views : Flow → FlowState) (ss : List (ℕ × ℕ)) → AllEntries (IsPlaced setup.params 0 views) (placed_of setup ss)
new_placed setup views [] = tt
new_placed setup views (s ∷ ss) =
    (record { me = refl; host = record { one_sender = tt; one_receiver = tt; senders = tt; receivers = tt }; waiting = nothing_waits (IsWaiting setup.params 0 s.1 views) (outs_of s.0 setup.links); transmitted = tt }, new_placed setup views ss)

-- a station charges what the link charges
new_charge : (link : ℕ) (ls : List Link) → charge_of link (ins_of (link_in link ls).to ls) ≡ (link_in link ls).charge
new_charge link [] = refl
new_charge link (l ∷ ls) =
    elim (cases_Bool (l.link == link)) [
      | inl y ↦ let here : link_in link (l ∷ ls) ≡ l = rw y refl in subst (λ (k : Link). charge_of link (ins_of k.to (l ∷ ls)) ≡ k.charge) (sym here) (by_self y)
      | inr o ↦ let there : link_in link (l ∷ ls) ≡ link_in link ls = rw o refl in subst (λ (k : Link). charge_of link (ins_of k.to (l ∷ ls)) ≡ k.charge) (sym there) (behind (link_in link ls).to o (new_charge link ls))
    ]
  where
    by_self : (l.link == link) ≡ true → charge_of link (ins_of l.to (l ∷ ls)) ≡ l.charge
    by_self y = rw (nat_self l.to, y) refl

    behind : (to : ℕ) → (l.link == link) ≡ false → charge_of link (ins_of to ls) ≡ (link_in link ls).charge → charge_of link (ins_of to (l ∷ ls)) ≡ (link_in link ls).charge
    behind to o k = elim (cases_Bool (l.to == to)) [ inl t ↦ rw (t, o) k | inr t ↦ rw t k ]

new_ins : (setup : Setup) (ss : List (ℕ × ℕ)) (n : ℕ) (a : Placed) → look ◌==◌ n (placed_of setup ss) ≡ Some a → a.station.relay.ins ≡ ins_of n setup.links
new_ins setup [] n a e = absurd cc
new_ins setup (s ∷ ss) n a e =
    elim (cases_Bool (s.0 == n)) [
      | inl y ↦
          let found : Some (placed_first setup s.0 s.1) ≡ Some a = rw y at e in
          let same : placed_first setup s.0 s.1 ≡ a = cc in
          sym (ap (λ (x : Placed). x.station.relay.ins) same) ∙ ap (λ (k : ℕ). ins_of k setup.links) (nat_is s.0 n y)
      | inr o ↦ let found : look ◌==◌ n (placed_of setup ss) ≡ Some a = rw o at e in new_ins setup ss n a found
    ]

pub new_world_facts : (setup : Setup) → WorldFacts (new_world setup)
new_world_facts setup = record {
  flows = λ f. subst (λ (s : FlowState). Facts setup.params s) (sym (new_view setup f)) (start_facts setup.params (ahead_of setup.stations f.from.0) (ahead_of setup.stations f.to.0));
  copies = All-nil (IsCopy setup.params 0 (view (new_world setup)));
  stations = new_placed setup (view (new_world setup)) setup.stations;
  charges = λ link a e. ap (charge_of link) (new_ins setup setup.stations (link_in link setup.links).to a e) ∙ new_charge link setup.links;
}
