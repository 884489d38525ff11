-- The tables of an agenda after a change of one: what is noted of each place.
use Rattle.std.proofs.Common.{ℕ, zero, suc, ◌≡◌, ◌≢◌, ◌+◌, ◌<◌, ◌≤◌, ◌++◌, List, [], ◌∷◌, length, length-set, set, take, Option, None, Some, refl, sym, ap, subst, ◌∙◌, arith, get_or-set_same, get_or-set_other}
use Rattle.std.specs.Prelude.{slice_get, slice_index_or, unwrap_or}
use Rattle.dt_timers.specs.Deadlines.{HasNoMoment, IsFirst, moment_at}
use Rattle.dt_table.specs.Agendas.{HasRoom, Note, Tables, moment_of_kind, no_note, note_at}
use Rattle.dt_table.specs.Places.{slot}

-- as many kinds are noted of a place as there are tables
pub kinds_noted : (ts : Tables) (i : ℕ) → length (note_at ts i) ≡ length ts
kinds_noted [] i = refl
kinds_noted (t ∷ ts) i = ap suc (kinds_noted ts i)

pub same_kinds : (ts us : Tables) (i : ℕ) → note_at us i ≡ note_at ts i → length us ≡ length ts
same_kinds ts us i e = sym (kinds_noted us i) ∙ ap (λ (n : Note). length n) e ∙ kinds_noted ts i

pub one_more_kind : (ts : Tables) (i : ℕ) → note_at (ts ++ [] ∷ []) i ≡ note_at ts i ++ None ∷ []
one_more_kind [] i = refl
one_more_kind (t ∷ ts) i = ap (λ (n : Note). moment_at t i ∷ n) (one_more_kind ts i)

-- ONE TABLE
pub kind_at : (ts : Tables) (k i : ℕ) → slot (note_at ts i) k ≡ moment_at (slice_index_or ts k []) i
kind_at [] k i = refl
kind_at (t ∷ ts) zero i = refl
kind_at (t ∷ ts) (suc k) i = kind_at ts k i

pub read_table : (ts : Tables) (k : ℕ) (t : List (Option ℕ)) → t ≡ slice_index_or ts k t → k < length ts → t ≡ slice_index_or ts k []
read_table [] k t v within = absurd (omega arith)
read_table (u ∷ ts) zero t v within = v
read_table (u ∷ ts) (suc k) t v within = read_table ts k t v (omega arith)

note_set : (ts : Tables) (k i : ℕ) (t : List (Option ℕ)) → note_at (set ts k t) i ≡ set (note_at ts i) k (moment_at t i)
note_set [] k i t = refl
note_set (u ∷ ts) zero i t = refl
note_set (u ∷ ts) (suc k) i t = ap (λ (n : Note). moment_at u i ∷ n) (note_set ts k i t)

set_same : (n : Note) (k : ℕ) (o : Option ℕ) → slot n k ≡ o → set n k o ≡ n
set_same [] k o h = refl
set_same (m ∷ n) zero o h = ap (λ (x : Option ℕ). x ∷ n) (sym h)
set_same (m ∷ n) (suc k) o h = ap (λ (l : Note). m ∷ l) (set_same n k o h)

-- ROOM
pub room_at : (count : ℕ) (ts : Tables) (k : ℕ) → HasRoom count ts → k < length ts → count ≤ length (slice_index_or ts k [])
room_at count [] k room within = absurd (omega arith)
room_at count (t ∷ ts) zero room within = room.0
room_at count (t ∷ ts) (suc k) room within = room_at count ts k room.1 (omega arith)

pub room_set : (count : ℕ) (ts : Tables) (k : ℕ) (t : List (Option ℕ)) → HasRoom count ts → (count ≤ length (slice_index_or ts k []) → count ≤ length t) → HasRoom count (set ts k t)
room_set count [] k t room longer = tt
room_set count (u ∷ ts) zero t room longer = (longer room.0, room.1)
room_set count (u ∷ ts) (suc k) t room longer = (room.0, room_set count ts k t room.1 longer)

pub room_less : (few many : ℕ) (ts : Tables) → few ≤ many → HasRoom many ts → HasRoom few ts
room_less few many [] le room = tt
room_less few many (t ∷ ts) le room = (let a = room.0 in omega arith, room_less few many ts le room.1)

pub room_got : (count : ℕ) (ts : Tables) (k : ℕ) (t : List (Option ℕ)) → slice_get ts k ≡ Some t → HasRoom count ts → count ≤ length t
room_got count [] k t e room = absurd cc
room_got count (u ∷ ts) zero t e room = subst (λ (w : List (Option ℕ)). count ≤ length w) (ap (λ (o : Option (List (Option ℕ))). unwrap_or o []) e) room.0
room_got count (u ∷ ts) (suc k) t e room = room_got count ts k t e room.1

pub got_there : (ts : Tables) (k : ℕ) → k < length ts → slice_get ts k ≡ None → ⊥
got_there [] k within e = omega arith
got_there (t ∷ ts) zero within e = absurd cc
got_there (t ∷ ts) (suc k) within e = got_there ts k (omega arith) e

-- ONE MOMENT IS NOTED
module _ (ts : Tables) (k place : ℕ) (t : List (Option ℕ)) (v : t ≡ slice_index_or ts k t) (within : k < length ts) (m : Option ℕ) where
  its_table : t ≡ slice_index_or ts k []
  its_table = read_table ts k t v within

  pub place_there : HasRoom (suc place) ts → place < length t
  place_there room = let a = room_at (suc place) ts k room within in let e = ap (λ (l : List (Option ℕ)). length l) its_table in omega arith

  pub one_here : HasRoom (suc place) ts → note_at (set ts k (set t place m)) place ≡ set (note_at ts place) k m
  one_here room = note_set ts k place (set t place m) ∙ ap (λ (o : Option ℕ). set (note_at ts place) k o) (get_or-set_same t place m None (place_there room))

  pub one_other : (i : ℕ) → i ≢ place → note_at (set ts k (set t place m)) i ≡ note_at ts i
  one_other i apart =
      note_set ts k i (set t place m)
      ∙ set_same (note_at ts i) k (moment_at (set t place m) i) (kind_at ts k i ∙ ap (λ (l : List (Option ℕ)). moment_at l i) (sym its_table) ∙ sym (get_or-set_other t place i m None apart))

  pub one_room : (count : ℕ) → HasRoom count ts → HasRoom count (set ts k (set t place m))
  one_room count room =
      let long = length-set t place m in
      let e = ap (λ (l : List (Option ℕ)). length l) its_table in
      room_set count ts k (set t place m) room (λ le. omega arith)

-- A TABLE GETS MORE ROOM
module _ (ts : Tables) (k : ℕ) (t more : List (Option ℕ)) (v : t ≡ slice_index_or ts k t) (within : k < length ts) (same : (i : ℕ) → moment_at more i ≡ moment_at t i) where
  pub still_noted : (i : ℕ) → note_at (set ts k more) i ≡ note_at ts i
  still_noted i =
      note_set ts k i more
      ∙ set_same (note_at ts i) k (moment_at more i) (kind_at ts k i ∙ ap (λ (l : List (Option ℕ)). moment_at l i) (sym (read_table ts k t v within)) ∙ sym (same i))

  pub still_room : (count : ℕ) → length t ≤ length more → HasRoom count ts → HasRoom count (set ts k more)
  still_room count le room =
      let e = ap (λ (l : List (Option ℕ)). length l) (read_table ts k t v within) in
      room_set count ts k more room (λ least. omega arith)

-- the tables so far have room for one place more
first_room : (count k : ℕ) (ts : Tables) (t : List (Option ℕ)) → k < length ts → count ≤ length t → HasRoom count (take k ts) → HasRoom count (take (suc k) (set ts k t))
first_room count k [] t within longer room = absurd (omega arith)
first_room count zero (u ∷ ts) t within longer room = (longer, tt)
first_room count (suc k) (u ∷ ts) t within longer room = (room.0, first_room count k ts t (omega arith) longer room.1)

pub next_room : (count k : ℕ) (ts : Tables) (t : List (Option ℕ)) → k < length ts → count ≤ length t → HasRoom count (take k ts) → HasRoom count (take (k + 1) (set ts k t))
next_room count k ts t within longer room = let e : suc k ≡ k + 1 = omega arith in subst (λ (n : ℕ). HasRoom count (take n (set ts k t))) e (first_room count k ts t within longer room)

pub whole_room : (count k : ℕ) (ts : Tables) → length ts ≤ k → HasRoom count (take k ts) → HasRoom count ts
whole_room count k [] le room = tt
whole_room count zero (t ∷ ts) le room = absurd (omega arith)
whole_room count (suc k) (t ∷ ts) le room = (room.0, whole_room count k ts (omega arith) room.1)

-- KIND BY KIND: of the first so many kinds the moments of one note, of the rest those of another
abbrev pub blend : ℕ → Note → Note → Note
blend zero ms ns = ns
blend (suc k) [] ns = ns
blend (suc k) (m ∷ ms) [] = []
blend (suc k) (m ∷ ms) (n ∷ ns) = m ∷ blend k ms ns

blend_more : (k : ℕ) (ms ns : Note) (d : Option ℕ) → k < length ms → set (blend k ms ns) k (slice_index_or ms k d) ≡ blend (suc k) ms ns
blend_more k [] ns d within = absurd (omega arith)
blend_more zero (m ∷ ms) [] d within = refl
blend_more zero (m ∷ ms) (n ∷ ns) d within = refl
blend_more (suc k) (m ∷ ms) [] d within = refl
blend_more (suc k) (m ∷ ms) (n ∷ ns) d within = ap (λ (l : Note). m ∷ l) (blend_more k ms ns d (omega arith))

-- one kind more is written, whatever stands for a moment beyond the last
pub blend_next : (k : ℕ) (ms ns : Note) (d : Option ℕ) → k < length ms → set (blend k ms ns) k (slice_index_or ms k d) ≡ blend (k + 1) ms ns
blend_next k ms ns d within = let e : suc k ≡ k + 1 = omega arith in blend_more k ms ns d within ∙ ap (λ (n : ℕ). blend n ms ns) e

pub none_noted : (kinds k : ℕ) → slot (no_note kinds) k ≡ None
none_noted zero k = refl
none_noted (suc kinds) zero = refl
none_noted (suc kinds) (suc k) = none_noted kinds k

pub so_many : (kinds : ℕ) → length (no_note kinds) ≡ kinds
so_many zero = refl
so_many (suc kinds) = ap suc (so_many kinds)

pub no_room : (ts : Tables) → HasRoom 0 ts
no_room [] = tt
no_room (t ∷ ts) = (omega arith, no_room ts)

pub blend_all : (k : ℕ) (ms ns : Note) → length ms ≡ k → length ns ≡ k → blend k ms ns ≡ ms
blend_all zero [] [] a b = refl
blend_all zero [] (n ∷ ns) a b = absurd (omega arith)
blend_all zero (m ∷ ms) ns a b = absurd (omega arith)
blend_all (suc k) [] ns a b = absurd (omega arith)
blend_all (suc k) (m ∷ ms) [] a b = absurd (omega arith)
blend_all (suc k) (m ∷ ms) (n ∷ ns) a b = ap (λ (l : Note). m ∷ l) (blend_all k ms ns (omega arith) (omega arith))

-- THE FIRST of a kind is that of its table
module _ (ts : Tables) (k : ℕ) (t : List (Option ℕ)) (is : t ≡ slice_index_or ts k []) where
  moments_are : (i : ℕ) → moment_of_kind ts k i ≡ moment_at t i
  moments_are i = kind_at ts k i ∙ ap (λ (l : List (Option ℕ)). moment_at l i) (sym is)

  pub none_of_kind : HasNoMoment (moment_at t) → HasNoMoment (moment_of_kind ts k)
  none_of_kind none = λ i m h. none i m (sym (moments_are i) ∙ h)

  pub first_of_kind : (m i : ℕ) → IsFirst (moment_at t) m i → IsFirst (moment_of_kind ts k) m i
  first_of_kind m i first = record { there = moments_are i ∙ first.there; least = λ j n h. first.least j n (sym (moments_are j) ∙ h) }

-- A KIND by another name of its place
module _ (ts : Tables) (k l : ℕ) (e : k ≡ l) where
  pub none_at : HasNoMoment (moment_of_kind ts k) → HasNoMoment (moment_of_kind ts l)
  none_at none = subst (λ (n : ℕ). HasNoMoment (moment_of_kind ts n)) e none

  pub first_at : (m i : ℕ) → IsFirst (moment_of_kind ts k) m i → IsFirst (moment_of_kind ts l) m i
  first_at m i first = subst (λ (n : ℕ). IsFirst (moment_of_kind ts n) m i) e first
