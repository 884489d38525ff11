-- Lists that may be told, and that calls put more at the end of.
use Rattle.std.specs.Prelude.{◌≡◌, List, [], ◌∷◌, ◌++◌, Option, Some, IfSome}

-- Where the list is told after a call, it was told before, and this was put at its end.
abbrev pub Notes : {A : Type 0} → A → Option (List A) → Option (List A) → Type 0
Notes x before after = IfSome after (λ xs. (ys : List _) × (before ≡ Some ys) × (xs ≡ ys ++ x ∷ []))

-- Where the list is told after some calls, it was told before, and all of these were put at its end, in order.
abbrev pub NotesAll : {A : Type 0} → List A → Option (List A) → Option (List A) → Type 0
NotesAll xs before after = IfSome after (λ all. (ys : List _) × (before ≡ Some ys) × (all ≡ ys ++ xs))

-- Where the list is told after a call, it is what was told before.
abbrev pub NotesNothing : {A : Type 0} → Option (List A) → Option (List A) → Type 0
NotesNothing before after = IfSome after (λ xs. before ≡ Some xs)
