-- Which member of a list has the first moment.
use Rattle.std.specs.Prelude.{ℕ, ◌≡◌, ◌<◌, ◌≤◌, List, slice_get, Option, Some}
use Rattle.std.specs.Option.{option_and_then}

-- THE FIRST of the moments that members of a list have: the least, and of equals that of the member that stands first.
module _ {A : Type 0} (moment : A → Option ℕ) where
  abbrev pub moment_in : List A → ℕ → Option ℕ
  moment_in xs i = option_and_then moment (slice_get xs i)

  pub record IsFirstIn (xs : List A) (first index : ℕ) : Type 0 where
    pub there : moment_in xs index ≡ Some first
    pub least : (i m : ℕ) → moment_in xs i ≡ Some m → first ≤ m
    pub before : (i m : ℕ) → i < index → moment_in xs i ≡ Some m → first < m

  abbrev pub HasNone : List A → Type 0
  HasNone xs = (i m : ℕ) → moment_in xs i ≡ Some m → ⊥
