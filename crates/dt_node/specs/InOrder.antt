-- How the lines of a node stand: no act tells an `unsent` line, and each frame stands directly after the `put` line of its link.
use Rattle.std.specs.Prelude.{◌≡◌, ◌==◌, ℕ, Bool, true, false, not, List, [], ◌∷◌, codes, filter, Option, Some, None}
use Rattle.std.specs.List.{join_with_byte, slice_index_or, slice_split}
use Rattle.std.specs.Str.{bytes_eq}
use Rattle.dt_reports.specs.Entries.{Entry}
use Rattle.dt_reports.specs.Told.{Told}
use Rattle.dt_reports.specs.declared.reports.Report.TheVariants.{Put, Unsent}
use Rattle.dt_world_model.specs.Script.{Script, Done, Tell, Ask, Hand}
use Rattle.dt_node.specs.Acts.{Act, Tells, Hands}

abbrev pub is_unsent : Told → Bool
is_unsent (Unsent link) = true
is_unsent _ = false

-- the link of a `put` line
abbrev pub link_put : Told → Option ℕ
link_put (Put link life) = Some link
link_put _ = None

-- `before` is the link of the `put` line that stands directly before, if one does
abbrev pub InOrder : Option ℕ → List Act → Type 0
InOrder before [] = Unit {0}
InOrder before (Tells moment told ∷ acts) = (is_unsent told ≡ false) × InOrder (link_put told) acts
InOrder before (Hands moment link octets ∷ acts) = (before ≡ Some link) × InOrder None acts

-- the same of what a script does
abbrev pub Orderly : {A : Type 0} → Option ℕ → Script (Unit {0}) A → Type 0
Orderly before (Done a) = Unit {0}
Orderly before (Tell told s) = (is_unsent told ≡ false) × Orderly (link_put told) s
Orderly before (Ask host octets s) = Orderly before (s tt)
Orderly before (Hand link parcel s) = (before ≡ Some link) × Orderly None s

-- THE LINES OF A LOG, among them `unsent` lines. Each of these stands directly after the `put` line of its link; `before` is as above
abbrev pub UnsentInOrder : Option ℕ → List Entry → Type 0
UnsentInOrder before [] = Unit {0}
UnsentInOrder before (e ∷ es) = ((link : ℕ) → e.told ≡ Unsent link → before ≡ Some link) × UnsentInOrder (link_put e.told) es

-- the lines but for those that tell of a frame that was lost
abbrev pub without_unsent : List Entry → List Entry
without_unsent entries = filter (λ e. not (is_unsent e.told)) entries

-- the same of the text of a log: the lines whose third word is `unsent`
abbrev pub is_third : List (List ℕ) → Bool
is_third words = bytes_eq (slice_index_or words 2 []) (codes "unsent")

abbrev pub is_unsent_line : List ℕ → Bool
is_unsent_line line = is_third (slice_split (λ octet. octet == 32) line)

abbrev pub without_unsent_lines : List ℕ → List ℕ
without_unsent_lines text = join_with_byte 10 (filter (λ line. not (is_unsent_line line)) (slice_split (λ octet. octet == 10) text))
