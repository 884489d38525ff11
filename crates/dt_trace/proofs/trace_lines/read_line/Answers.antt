use Rattle.std.proofs.Common.{◌<◌, List, ℕ, length, subst, sym}
use Rattle.dt_text.proofs.CutLemmas.{words-some}
use Rattle.dt_trace.proofs.trace_lines.read_line.Goals as goal

pub input_line-requires : goal.input_line-requires
input_line-requires c = subst (λ (line : List (List ℕ)). 0 < length line) (sym c.new-words.ensures) (words-some c.args.bytes.now)
