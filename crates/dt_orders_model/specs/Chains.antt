-- What a store's list of openings says of a commit that somebody heard.
use Rattle.std.specs.Prelude.{ℕ, ◌-◌, ◌==◌, ◌&&◌, Bool, false, min, nat_le, length, if◌then◌else◌, List, [], ◌∷◌, Option, Some, None}
use Rattle.dt_orders_model.specs.declared.knowledge.Known.{Known}
use Rattle.dt_orders_model.specs.declared.knowledge.Opening.{Opening}
use Rattle.dt_orders_model.specs.declared.knowledge.Place.{Place}

abbrev pub nowhere : Place
nowhere = record { is_there = false; left = 0 }

-- THE PLACE of an opening, by its number and its nonce, in a list of openings, the newest first, of which the newest was left at this clock
abbrev pub place_in : (number nonce left : ℕ) → List Opening → Place
place_in number nonce left [] = nowhere
place_in number nonce left (o ∷ older) = if number == length older then record { is_there = o.nonce == nonce; left = left } else place_in number nonce (o.first - 1) older

-- where an opening was left: before the next one, or not yet
abbrev pub left_before : ℕ → Option Opening → ℕ
left_before clock None = clock
left_before clock (Some next) = next.first - 1

-- the same place, by the opening of that number and the next one
abbrev pub place_by : ℕ → Known → Option Opening → Option Opening → Place
place_by clock q None next = nowhere
place_by clock q (Some here) next = record { is_there = here.nonce == q.nonce; left = left_before clock next }

-- the opening of a number
abbrev pub opening_at : ℕ → List Opening → Option Opening
opening_at number [] = None
opening_at number (o ∷ older) = if number == length older then Some o else opening_at number older

-- SHARED: a clock up to which the history of the commit is surely this store's too
abbrev pub shared_by : ℕ → Place → ℕ
shared_by clock p = if p.is_there then min clock p.left else 0

-- ON THE PATH: the commit is one of this store's history
abbrev pub is_on_by : ℕ → Place → Bool
is_on_by clock p = p.is_there && nat_le clock p.left
