-- The numbers that the rounds are drawn from, one after another.
use Rattle.std.proofs.Common.{◌≡◌, ℕ, ◌+◌, ◌<◌, ◌≤◌, ◌∙◌, ap, ap₂, sym, refl, add-one, arith, ◌++◌, flat_map, codes}
use Rattle.dt_make.specs.Draws.{next_x, x_after, draw_of, draw_at, length_of}
use Rattle.dt_make.specs.Kinds.{kind_of, copies_of, lines_of}
use Rattle.dt_make.specs.Lines.{line_text}
use Rattle.dt_make.specs.Rounds.{message, send_text, round_lines}
use Rattle.dt_make.specs.Schedules.{copies_before, round_text}
use Rattle.dt_make.specs.declared.round_kinds.RoundKind.{RoundKind}
use Rattle.dt_make.specs.declared.round_kinds.RoundKind.TheVariants.{Plain, Lost, Twice}

pub x_starts : 1 ≡ x_after 0
unfolding x_after
x_starts = refl

pub x_goes_on : (i x next : ℕ) → x ≡ x_after i → next ≡ next_x x → next ≡ x_after (i + 1)
unfolding x_after
x_goes_on i x next e n = rw add-one (n ∙ ap next_x e)

pub x_within : (x next : ℕ) → next ≡ next_x x → next < 2147483648
x_within x next n = omega (arith, n)

-- a draw of the number after x is that of its round
pub drawn : (i x next draw : ℕ) → x ≡ x_after i → next ≡ next_x x → draw ≡ draw_of next → draw ≡ draw_at i
unfolding x_after
drawn i x next draw e n d = d ∙ ap draw_of (n ∙ ap next_x e)

pub round_is : (i draw c : ℕ) → draw ≡ draw_at i → c ≡ copies_before i → round_lines i draw c ≡ round_text i
round_is i draw c d e = ap₂ (round_lines i) d e

-- a round in the parts in which the code puts it
pub round_parts : (i draw c length : ℕ) (kind : RoundKind) → length ≡ length_of draw → kind ≡ kind_of draw → round_lines i draw c ≡ send_text (message i length) ++ (flat_map line_text (lines_of kind c) ++ codes "read 1:10>2:20 65536\n")
round_parts i draw c length kind l k =
    sym (ap₂ (λ n what. send_text (message i n) ++ (flat_map line_text (lines_of what c) ++ codes "read 1:10>2:20 65536\n")) l k)

pub no_copies : 0 ≡ copies_before 0
unfolding copies_before
no_copies = refl

pub copies_go_on : (i draw c more : ℕ) (kind : RoundKind) → draw ≡ draw_at i → c ≡ copies_before i → kind ≡ kind_of draw → more ≡ copies_of kind → c + more ≡ copies_before (i + 1)
unfolding copies_before
copies_go_on i draw c more kind d e k m = rw add-one (ap₂ (λ a b. a + b) e (m ∙ ap copies_of (k ∙ ap kind_of d)))

pub copies_few : (kind : RoundKind) → copies_of kind ≤ 3
copies_few Plain = omega arith
copies_few Lost = omega arith
copies_few Twice = omega arith
