-- What a line of a user asks is a task: of a schedule, and of a script at a moment.
use Rattle.std.proofs.Common.{ℕ, ◌*◌, ◌<◌, ◌≤◌, List, [], ◌∷◌, length, IsTrue, arith}
use Rattle.dt_text.specs.declared.lines.Form.TheVariants.{Schedule, Script}
use Rattle.dt_text.specs.declared.lines.Line.TheVariants as lines
use Rattle.dt_text.specs.declared.lines.RunLine.TheVariants.{User}
use Rattle.dt_text.specs.declared.lines.ScriptLine.TheVariants.{At}
use Rattle.dt_text.specs.declared.lines.UserLine.{UserLine}
use Rattle.dt_text.specs.declared.lines.UserLine.TheVariants as users
use Rattle.dt_text.specs.Hexadecimal.{are_pairs, octets_of_hex}
use Rattle.dt_text.specs.Spelling.{IsLine}
use Rattle.dt_text.specs.Tasks.{HasPairs, IsTask, most_octets, task_of}
use Rattle.dt_text.specs.WordKinds.{IsHex}

octets_some : (hex : List ℕ) → 0 < length hex → IsTrue (are_pairs hex) → 0 < length (octets_of_hex hex)
octets_some [] h p = absurd (omega arith)
octets_some (a ∷ []) h p = absurd cc
octets_some (a ∷ b ∷ more) h p = omega arith

octets_few : (hex : List ℕ) → 2 * length (octets_of_hex hex) ≤ length hex
octets_few [] = omega arith
octets_few (a ∷ []) = omega arith
octets_few (a ∷ b ∷ more) = omega (arith, octets_few more)

octets_within : (hex : List ℕ) → IsHex most_octets hex → (0 < length (octets_of_hex hex)) × (length (octets_of_hex hex) ≤ most_octets)
octets_within hex h = (octets_some hex h.some h.pairs, omega (arith, octets_few hex, h.within))

pub user_pairs : (line : UserLine) → IsLine Schedule (lines.Run (User line)) → HasPairs line
user_pairs (users.Send flow begin end hex) h = h.1.1.1.0.pairs
user_pairs line h = tt

pub user_task : (line : UserLine) → IsLine Schedule (lines.Run (User line)) → IsTask (task_of line)
user_task (users.Send flow begin end hex) h = let w = octets_within hex.now h.1.1.1.0 in (h.1.0, w.0, w.1)
user_task line h = (h.1.0, h.1.1.0.0, h.1.1.0.1)

pub at_pairs : (at : ℕ) (line : UserLine) → IsLine Script (lines.Script (At at line)) → HasPairs line
at_pairs at (users.Send flow begin end hex) h = h.1.1.1.1.0.pairs
at_pairs at line h = tt

pub at_task : (at : ℕ) (line : UserLine) → IsLine Script (lines.Script (At at line)) → IsTask (task_of line)
at_task at (users.Send flow begin end hex) h = let w = octets_within hex.now h.1.1.1.1.0 in (h.1.1.0, w.0, w.1)
at_task at line h = (h.1.1.0, h.1.1.1.0.0, h.1.1.1.0.1)
