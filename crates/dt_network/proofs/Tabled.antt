-- The table of a world's links is that of its stations: each station charges what the table says.
use Rattle.std.proofs.Common.{ℕ, ◌≡◌, ◌∙◌, ◌⊎◌, ◌==◌, true, false, List, [], ◌∷◌, map, Option, Some, None, refl, sym, ap, subst, inl, inr}
use Rattle.std.specs.Prelude.{option_map, unwrap_or}
use Rattle.std.proofs.lemmas.Bool.{cases_Bool}
use Rattle.std.proofs.lemmas.List.Elements.{All-nil}
use Rattle.dt_flow_model.specs.Frames.{Mark}
use Rattle.dt_world_model.proofs.Tables.{all_look, nat_is, nat_self}
use Rattle.dt_world_model.specs.declared.links.InLink.{InLink}
use Rattle.dt_world_model.specs.declared.links.Link.{Link}
use Rattle.dt_world_model.specs.declared.links.OutLink.{OutLink}
use Rattle.dt_world_model.specs.Relay.{Out, Waiting, charge_of, empty_out}
use Rattle.dt_world_model.specs.Tables.{AllEntries, look}
use Rattle.dt_world_model.specs.World.{Placed}
use Rattle.dt_world_model.specs.WorldFacts.{AllOuts}
use Rattle.dt_world_model.specs.WorldStep.{link_in, numbered}
use Rattle.dt_network.specs.Stations.{ins_in, links_of, links_to}

pub nothing_waits : (P : Waiting Mark → Type 0) (os : List OutLink) → AllOuts P (map (λ (o : OutLink). let q : Out Mark = empty_out o.link o.pace in q) os)
nothing_waits P [] = tt
nothing_waits P (o ∷ os) = (All-nil P, nothing_waits P os)

-- the first of some links that has a number
abbrev first_of : ℕ → List Link → Option Link
first_of link links = look ◌==◌ link (numbered links)

-- A LINK OF THE TABLE comes to a station that charges it so
record IsCharged (all : List (ℕ × Placed)) (link : ℕ) (links : List Link) : Type 0 where
  first : Link
  found : first_of link links ≡ Some first
  charge : charge_of link (ins_in all first.to) ≡ first.charge

-- those of one station, before others
record IsPassed (n link : ℕ) (ins : List InLink) (links rest : List Link) : Type 0 where
  free : charge_of link ins ≡ 0
  same : first_of link links ≡ first_of link rest

record IsMet (n link : ℕ) (ins : List InLink) (links : List Link) : Type 0 where
  first : Link
  found : first_of link links ≡ Some first
  to : first.to ≡ n
  charge : charge_of link ins ≡ first.charge

of_one : (n link : ℕ) (ins : List InLink) (rest : List Link) → IsMet n link ins (links_to n ins rest) ⊎ IsPassed n link ins (links_to n ins rest) rest
of_one n link [] rest = inr (record { free = refl; same = refl })
of_one n link (i ∷ ins) rest =
    elim (cases_Bool (i.link == link)) [
      | inl y ↦ inl (record { first = record { link = i.link; from = n; to = n; charge = i.charge; pace = 0 }; found = rw y refl; to = refl; charge = rw y refl })
      | inr o ↦ later o (of_one n link ins rest)
    ]
  where
    later : (i.link == link) ≡ false → IsMet n link ins (links_to n ins rest) ⊎ IsPassed n link ins (links_to n ins rest) rest → IsMet n link (i ∷ ins) (links_to n (i ∷ ins) rest) ⊎ IsPassed n link (i ∷ ins) (links_to n (i ∷ ins) rest) rest
    later o (inl h) = inl (record { first = h.first; found = rw o h.found; to = h.to; charge = rw o h.charge })
    later o (inr h) = inr (record { free = rw o h.free; same = rw o h.same })

-- where no station has a link of that number, each of them charges nothing for it
abbrev IsFree : List (ℕ × Placed) → ℕ → ℕ → Placed → Type 0
IsFree all link n at = charge_of link (ins_in all n) ≡ 0

of_all : (all : List (ℕ × Placed)) (link : ℕ) (ss : List (ℕ × Placed)) → IsCharged all link (links_of all ss) ⊎ ((first_of link (links_of all ss) ≡ None) × AllEntries (IsFree all link) ss)
of_all all link [] = inr (refl, tt)
of_all all link (s ∷ ss) = by_one (of_one s.0 link (ins_in all s.0) (links_of all ss)) (of_all all link ss)
  where
    by_one : IsMet s.0 link (ins_in all s.0) (links_of all (s ∷ ss)) ⊎ IsPassed s.0 link (ins_in all s.0) (links_of all (s ∷ ss)) (links_of all ss) → IsCharged all link (links_of all ss) ⊎ ((first_of link (links_of all ss) ≡ None) × AllEntries (IsFree all link) ss)
        → IsCharged all link (links_of all (s ∷ ss)) ⊎ ((first_of link (links_of all (s ∷ ss)) ≡ None) × AllEntries (IsFree all link) (s ∷ ss))
    by_one (inl h) rest = inl (record { first = h.first; found = h.found; charge = ap (λ (k : ℕ). charge_of link (ins_in all k)) h.to ∙ h.charge })
    by_one (inr h) (inl k) = inl (record { first = k.first; found = h.same ∙ k.found; charge = k.charge })
    by_one (inr h) (inr k) = inr (h.same ∙ k.0, (h.free, k.1))

abbrev no_link : Link
no_link = record { link = 0; from = 0; to = 0; charge = 0; pace = 0 }

-- EACH STATION CHARGES what the table says
pub links_charge : (all : List (ℕ × Placed)) (link : ℕ) (at : Placed) → look ◌==◌ (link_in link (links_of all all)).to all ≡ Some at → charge_of link at.station.relay.ins ≡ (link_in link (links_of all all)).charge
links_charge all link at there = by_all (of_all all link all)
  where
    ins_there : (n : ℕ) → look ◌==◌ n all ≡ Some at → ins_in all n ≡ at.station.relay.ins
    ins_there n found = ap (λ (o : Option Placed). unwrap_or (option_map (λ (a : Placed). a.station.relay.ins) o) []) found

    by_all : IsCharged all link (links_of all all) ⊎ ((first_of link (links_of all all) ≡ None) × AllEntries (IsFree all link) all) → charge_of link at.station.relay.ins ≡ (link_in link (links_of all all)).charge
    by_all (inl h) =
        let is : link_in link (links_of all all) ≡ h.first = ap (λ (o : Option Link). unwrap_or o no_link) h.found in
        let found : look ◌==◌ h.first.to all ≡ Some at = subst (λ (l : Link). look ◌==◌ l.to all ≡ Some at) is there in
        sym (ap (charge_of link) (ins_there h.first.to found)) ∙ h.charge ∙ sym (ap (λ (l : Link). l.charge) is)
    by_all (inr h) =
        let is : link_in link (links_of all all) ≡ no_link = ap (λ (o : Option Link). unwrap_or o no_link) h.0 in
        let found : look ◌==◌ 0 all ≡ Some at = subst (λ (l : Link). look ◌==◌ l.to all ≡ Some at) is there in
        sym (ap (charge_of link) (ins_there 0 found)) ∙ all_look ℕ Placed ◌==◌ nat_self nat_is (IsFree all link) 0 at all found h.1 ∙ sym (ap (λ (l : Link). l.charge) is)
