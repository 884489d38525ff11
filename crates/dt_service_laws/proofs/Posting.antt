-- What steps take of messages: all, or of what found no memory all or nothing.
use Rattle.std.proofs.Common.{ℕ, ◌≤◌, ◌≡◌, ◌⊎◌, Bool, true, false, List, [], ◌∷◌, map, refl, sym, subst, inl, inr, arith}
use Rattle.dt_items.specs.declared.item.Item.{Item}
use Rattle.dt_calls_laws.specs.Wholes.{items_of_all}
use Rattle.dt_network.specs.Network.{Setup}
use Rattle.dt_service_model.specs.declared.names.CallNumber.{CallNumber}
use Rattle.dt_service_model.specs.Turns.{Node}
use Rattle.dt_service_laws.specs.Histories.{Message, count_of, in_turn, in_turns, spelled}
use Rattle.dt_service_laws.specs.Orders.{AreSomeOf, none, skips, takes}
use Rattle.dt_service_laws.specs.Services.{Deed, Services, Turn, services_after}
use Rattle.dt_service_laws.specs.Tie.{AreSentOf, IsSentOf, has_memory}
use Rattle.dt_service_laws.proofs.Orders.{all_of, both}

abbrev pub IsPosted : (memory : Bool) → List Message → List Item → Type 0
IsPosted true ms taken = taken ≡ items_of_all (map spelled ms)
IsPosted false ms taken = (taken ≡ items_of_all (map spelled ms)) ⊎ (taken ≡ [])

pub posted_none : (memory : Bool) (taken : List Item) → taken ≡ [] → IsPosted memory [] taken
posted_none true taken is = is
posted_none false taken is = inr is

-- by the messages of which it is
pub sent_posted : (memory : Bool) (ms : List Message) (taken : List Item) → IsPosted memory ms taken → (first : List Message) × IsSentOf memory ms first × (taken ≡ items_of_all (map spelled first))
sent_posted true ms taken is = (ms, refl, is)
sent_posted false ms taken (inl is) = (ms, inl refl, is)
sent_posted false ms taken (inr nothing) = ([], inr refl, nothing)

-- what is sent are some of the messages
some_in : (memory : Bool) (ms sent : List Message) → IsSentOf memory ms sent → AreSomeOf sent ms
some_in true ms sent is = subst (λ (xs : List Message). AreSomeOf xs ms) (sym is) (all_of ms)
some_in false ms sent (inl is) = subst (λ (xs : List Message). AreSomeOf xs ms) (sym is) (all_of ms)
some_in false ms sent (inr nothing) = subst (λ (xs : List Message). AreSomeOf xs ms) (sym nothing) none

pub sent_some : (setup : Setup) (some : ℕ → Deed → Node → List Message) (turns : List Turn) (s : Services) (all : List Message) → AreSentOf some setup turns s all → AreSomeOf all (in_turns some setup turns s)
sent_some setup some [] s all h = subst (λ (xs : List Message). AreSomeOf xs []) (sym h) none
sent_some setup some (t ∷ turns) s all h =
    subst (λ (xs : List Message). AreSomeOf xs (in_turns some setup (t ∷ turns) s)) (sym h.4)
    (both (some_in (has_memory t) (in_turn some t s) h.0 h.2) (sent_some setup some turns (services_after setup t s) h.1 h.3))

-- and no number stands among them more often
pub fewer_of : {xs ys : List Message} (m : CallNumber) → AreSomeOf xs ys → count_of m xs ≤ count_of m ys
fewer_of m none = omega arith
fewer_of m (takes h) = let l = fewer_of m h in omega (arith, l)
fewer_of m (skips h) = let l = fewer_of m h in omega (arith, l)
