use Rattle.std.proofs.Common.{◌++◌, codes}
use Rattle.dt_log.specs.Wording.{word_text, after_spaces}
use Rattle.dt_edges.proofs.Puts.{puts_then, puts_failed}
use Rattle.dt_log.proofs.Parts.{puts_as, row_parts}
use Rattle.dt_log.proofs.words.put_row.Goals as goal

pub returns-in_err-put_word : goal.returns-in_err-put_word
returns-in_err-put_word g c =
    puts_as _ _ _ _ _ _ (row_parts c.args.first c.args.some.now c.args.more.now (codes "\n"))
    (puts_failed _ (word_text c.args.first) (after_spaces c.args.some.now ++ (after_spaces c.args.more.now ++ codes "\n")) _ _ _ c.in_err-put_word.ensures c.from_residual.ensures.0)

pub returns : goal.returns
returns g c =
    puts_as _ _ _ _ _ _ (row_parts c.args.first c.args.some.now c.args.more.now (codes "\n"))
    (puts_then _ (word_text c.args.first) (after_spaces c.args.some.now ++ (after_spaces c.args.more.now ++ codes "\n")) _ _ _ _ c.in_ok-put_word.ensures c.put_following.ensures)
