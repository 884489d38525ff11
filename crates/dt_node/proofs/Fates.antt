-- What was done is known by the acts and by which of the gives failed.
use Rattle.std.proofs.Common.{◌≡◌, ℕ, suc, ◌+◌, ◌<◌, ◌≤◌, ◌^◌, ◌==◌, Bool, true, false, List, [], ◌∷◌, length, map, refl, ap, ◌∙◌, arith}
use borrow.Author.Tests.{eq-eqb, ne_eqb}
use Rattle.dt_edges.specs.Counts.{is_planned, last_count, next_count}
use Rattle.dt_node.specs.Acts.{Deed, Gives, Says, act_of, fates}
use Rattle.dt_node.specs.Deeds.{FatesFrom, lost_numbers}

-- THE NUMBERS of the gives that failed tell which of them did

-- the numbers after a place are greater
later_unplanned : (calls k : ℕ) (gone : List Bool) → calls + length gone ≤ last_count → k ≤ calls → is_planned (lost_numbers calls gone) k ≡ false
later_unplanned calls k [] few less = refl
later_unplanned calls k (true ∷ gone) few less =
    let next : next_count calls ≡ calls + 1 = omega (arith, few) in
    let here : (next_count calls == k) ≡ false = ne_eqb (next_count calls) k (λ e. omega (arith, next, e, less)) in
    rw here (later_unplanned (next_count calls) k gone (omega (arith, few, next)) (omega (arith, next, less)))
later_unplanned calls k (false ∷ gone) few less =
    let next : next_count calls ≡ calls + 1 = omega (arith, few) in
    later_unplanned (next_count calls) k gone (omega (arith, few, next)) (omega (arith, next, less))

first_planned : (calls : ℕ) (lost : Bool) (gone : List Bool) → calls + suc (length gone) ≤ last_count → is_planned (lost_numbers calls (lost ∷ gone)) (calls + 1) ≡ lost
first_planned calls true gone few =
    let next : next_count calls ≡ calls + 1 = omega (arith, few) in
    let here : (next_count calls == calls + 1) ≡ true = eq-eqb (next_count calls) (calls + 1) next in
    rw here refl
first_planned calls false gone few =
    let next : next_count calls ≡ calls + 1 = omega (arith, few) in
    later_unplanned (next_count calls) (calls + 1) gone (omega (arith, few, next)) (omega (arith, next))

rest_planned : (calls k : ℕ) (lost : Bool) (gone : List Bool) → calls + suc (length gone) ≤ last_count → calls + 1 < k → is_planned (lost_numbers calls (lost ∷ gone)) k ≡ is_planned (lost_numbers (calls + 1) gone) k
rest_planned calls k true gone few less =
    let next : next_count calls ≡ calls + 1 = omega (arith, few) in
    let here : (next_count calls == k) ≡ false = ne_eqb (next_count calls) k (λ e. omega (arith, next, e, less)) in
    rw here (ap (λ (n : ℕ). is_planned (lost_numbers n gone) k) next)
rest_planned calls k false gone few less =
    let next : next_count calls ≡ calls + 1 = omega (arith, few) in
    ap (λ (n : ℕ). is_planned (lost_numbers n gone) k) next

-- gives that fail as these did
same_fates : (failing : List ℕ) (calls : ℕ) (gone again : List Bool) → ((k : ℕ) → calls < k → is_planned failing k ≡ is_planned (lost_numbers calls gone) k) → length again ≡ length gone → calls + length gone ≤ last_count → FatesFrom failing calls again → again ≡ gone
same_fates failing calls [] [] same long few h = refl
same_fates failing calls [] (a ∷ again) same long few h = absurd (omega (arith, long))
same_fates failing calls (g ∷ gone) [] same long few h = absurd (omega (arith, long))
same_fates failing calls (g ∷ gone) (a ∷ again) same long few h =
    let here : a ≡ g = h.0 ∙ same (calls + 1) (omega arith) ∙ first_planned calls g gone few in
    let there : again ≡ gone = same_fates failing (calls + 1) gone again (λ k less. same k (omega (arith, less)) ∙ rest_planned calls k g gone few less) (omega (arith, long)) (omega (arith, few)) h.1 in
    ap (λ (b : Bool). b ∷ again) here ∙ ap (λ (bs : List Bool). g ∷ bs) there

pub fates_again : (gone again : List Bool) → length again ≡ length gone → length gone < 2 ^ 64 → FatesFrom (lost_numbers 0 gone) 0 again → again ≡ gone
fates_again gone again long few h = same_fates (lost_numbers 0 gone) 0 gone again (λ k less. refl) long (omega (arith, few)) h

-- THE DEEDS

pub as_many_gives : (ds es : List Deed) → map act_of ds ≡ map act_of es → length (fates ds) ≡ length (fates es)
as_many_gives [] [] h = refl
as_many_gives [] (e ∷ es) h = absurd cc
as_many_gives (d ∷ ds) [] h = absurd cc
as_many_gives (Says n told ∷ ds) (Says m said ∷ es) h = let tail : map act_of ds ≡ map act_of es = cc in as_many_gives ds es tail
as_many_gives (Says n told ∷ ds) (Gives m link octets lost ∷ es) h = absurd cc
as_many_gives (Gives m link octets lost ∷ ds) (Says n told ∷ es) h = absurd cc
as_many_gives (Gives m link octets lost ∷ ds) (Gives n to others gone ∷ es) h = let tail : map act_of ds ≡ map act_of es = cc in ap suc (as_many_gives ds es tail)

pub same_deeds : (ds es : List Deed) → map act_of ds ≡ map act_of es → fates ds ≡ fates es → ds ≡ es
same_deeds [] [] h f = refl
same_deeds [] (e ∷ es) h f = absurd cc
same_deeds (d ∷ ds) [] h f = absurd cc
same_deeds (Says n told ∷ ds) (Says m said ∷ es) h f =
    let tail : map act_of ds ≡ map act_of es = cc in
    let there : ds ≡ es = same_deeds ds es tail f in
    let when : n ≡ m = cc in
    let what : told ≡ said = cc in
    cc
same_deeds (Says n told ∷ ds) (Gives m link octets lost ∷ es) h f = absurd cc
same_deeds (Gives m link octets lost ∷ ds) (Says n told ∷ es) h f = absurd cc
same_deeds (Gives m link octets lost ∷ ds) (Gives n to others gone ∷ es) h f =
    let tail : map act_of ds ≡ map act_of es = cc in
    let fate : lost ≡ gone = cc in
    let rest : fates ds ≡ fates es = cc in
    let there : ds ≡ es = same_deeds ds es tail rest in
    cc
