use Rattle.dt_log.proofs.WordLaws.{lines_again, words_again}
use Rattle.dt_log.proofs.laws.logs_are_cut_into_their_words.Goals as goal

pub returns-clause-lines : goal.returns-clause-lines
returns-clause-lines c entries = lines_again entries

pub returns-clause-words : goal.returns-clause-words
returns-clause-words c entry = words_again entry
