-- Slots and the octets that they name.
use Rattle.std.proofs.Common.{ℕ, zero, suc, ◌+◌, ◌-◌, ◌<◌, ◌≤◌, ◌≡◌, List, [], ◌∷◌, ◌++◌, length, get_or, map, set, take, drop, refl, sym, ap, ◌∙◌, arith, true}
use Rattle.std.specs.Prelude.{slice_range}
use Rattle.std.proofs.lemmas.List.{map-append, map-set, take-append-le, drop-append-le, drop_at, take_all, length-drop}
use Rattle.dt_world_model.specs.World.{Copy}
use Rattle.dt_notes.specs.declared.copies.CopySlot.{CopySlot}
use Rattle.dt_notes.specs.Copies.{AreWithin, copies_of, copy_in, copy_of, lost_copy, no_copy}

-- more octets at the end leave those of a slot
slice_kept : (xs ys : List ℕ) (i n : ℕ) → i + n ≤ length xs → slice_range (xs ++ ys) i (i + n) ≡ slice_range xs i (i + n)
slice_kept xs ys i n h =
    let few : i ≤ length xs = omega arith in
    let long : (i + n) - i ≤ length (drop i xs) = omega (arith, length-drop i xs) in
    ap (take ((i + n) - i)) (drop-append-le i xs ys few) ∙ take-append-le ((i + n) - i) (drop i xs) ys long

slice_last : (xs ys : List ℕ) → slice_range (xs ++ ys) (length xs) (length xs + length ys) ≡ ys
slice_last xs ys =
    let all : length ys ≤ (length xs + length ys) - length xs = omega arith in
    ap (take ((length xs + length ys) - length xs)) (drop_at xs ys (length xs) refl) ∙ take_all ((length xs + length ys) - length xs) ys all

-- what holds of all slots holds of the rest
rest_within : (n : ℕ) (s : CopySlot) (slots : List CopySlot) → AreWithin n (s ∷ slots) → AreWithin n slots
rest_within n s slots h = λ k d l. h (suc k) d (omega arith)

first_within : (n : ℕ) (s : CopySlot) (slots : List CopySlot) → AreWithin n (s ∷ slots) → s.start + s.length ≤ n
first_within n s slots h = h 0 s (omega arith)

pub copies_kept : (xs ys : List ℕ) (slots : List CopySlot) → AreWithin (length xs) slots → copies_of (xs ++ ys) slots ≡ copies_of xs slots
copies_kept xs ys [] h = refl
copies_kept xs ys (s ∷ slots) h = rw (slice_kept xs ys s.start s.length (first_within (length xs) s slots h), copies_kept xs ys slots (rest_within (length xs) s slots h)) refl

pub added_seen : (octets more : List ℕ) (slots : List CopySlot) (s : CopySlot) → s.start ≡ length octets → s.length ≡ length more → AreWithin (length octets) slots
    → copies_of (octets ++ more) (slots ++ s ∷ []) ≡ copies_of octets slots ++ (record { link = s.link; parcel = record { octets = more; tag = record { birth = s.birth; place = s.place } }; put = s.put; lost = s.lost }) ∷ []
added_seen octets more slots s start long h =
    map-append (copy_of (octets ++ more)) slots (s ∷ [])
    ∙ ap (λ (cs : List Copy). cs ++ copy_of (octets ++ more) s ∷ []) (copies_kept octets more slots h)
    ∙ ap (λ (own : List ℕ). copies_of octets slots ++ (let c : Copy = record { link = s.link; parcel = record { octets = own; tag = record { birth = s.birth; place = s.place } }; put = s.put; lost = s.lost } in c) ∷ []) (rw (start, long) (slice_last octets more))

-- what is mapped at a place
pub get_or-map : {A B : Type 0} (f : A → B) (xs : List A) (i : ℕ) (d : A) (e : B) → i < length xs → get_or (map f xs) i e ≡ f (get_or xs i d)
get_or-map f [] i d e h = absurd (omega arith)
get_or-map f (x ∷ xs) zero d e h = refl
get_or-map f (x ∷ xs) (suc i) d e h = get_or-map f xs i d e (omega arith)

-- a slot that is marked lost names the same octets
pub lost_seen : (octets : List ℕ) (slots : List CopySlot) (i : ℕ) (s : CopySlot) → i < length slots → (d : CopySlot) → get_or slots i d ≡ s → copies_of octets (set slots i (record s { lost = true })) ≡ set (copies_of octets slots) i (lost_copy (copy_in (copies_of octets slots) i))
lost_seen octets slots i s l d is =
    map-set (copy_of octets) slots i (record s { lost = true })
    ∙ ap (λ (c : Copy). set (copies_of octets slots) i (lost_copy c)) (sym (get_or-map (copy_of octets) slots i d no_copy l ∙ ap (copy_of octets) is))
