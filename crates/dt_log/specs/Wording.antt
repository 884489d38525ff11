-- The words that the code makes a line of.
use Rattle.std.specs.Prelude.{List, ◌∷◌, ◌++◌, flat_map, codes, decimal}
use Rattle.dt_log.specs.declared.words.Word.{Word}
use Rattle.dt_log.specs.declared.words.Word.TheVariants.{Text, Number, Long, Flow, Hex, Line}
use Rattle.dt_log.specs.Words as texts
use Rattle.dt_log.specs.Words.{flow_text, hex_text}

abbrev pub word_text : Word → texts.Text
word_text (Text text) = text.now
word_text (Number n) = decimal n
word_text (Long n) = decimal n
word_text (Flow flow) = flow_text flow
word_text (Hex octets) = hex_text octets.now
word_text (Line n) = decimal n ++ codes ":"

abbrev pub after_space : texts.Text → texts.Text
after_space text = 32 ∷ text

-- words, each after a space
abbrev pub after_spaces : List Word → texts.Text
after_spaces words = flat_map (λ word. after_space (word_text word)) words
