use Rattle.dt_log.specs.Wording.{word_text, after_space}
use Rattle.dt_log.proofs.Parts.{takes_next, text_around, puts_failed_between}
use Rattle.dt_log.proofs.words.put_words.Goals as goal

pub returns-in_err-put_spaced_word : goal.returns-in_err-put_spaced_word
returns-in_err-put_spaced_word g c =
    puts_failed_between _ _ _ _ _ _ _ _ _ (text_around (λ word. after_space (word_text word)) c.args.words.now c.loop-word.word-index _ c.loop-word-test.true) c.loop-word.invariant c.in_err-put_spaced_word.ensures c.from_residual.ensures.0

pub loop-word-preserved : goal.loop-word-preserved
loop-word-preserved g c = takes_next (λ word. after_space (word_text word)) c.args.words.now c.loop-word.word-index _ _ _ _ c.loop-word-test.true c.loop-word.invariant c.in_ok-put_spaced_word.ensures
