-- The text of a log.
use Rattle.std.specs.Prelude.{List, flat_map}
use Rattle.dt_reports.specs.Entries.{Entry}
use Rattle.dt_log.specs.Words.{Text, row_text}
use Rattle.dt_log.specs.LogLines.{line_words}

-- the words of an entry's line
abbrev pub entry_words : Entry → List Text
entry_words entry = line_words entry.moment entry.node entry.told

-- the line of an entry, with its line feed
abbrev pub entry_text : Entry → Text
entry_text entry = row_text (entry_words entry)

-- the lines of the entries, one after another
abbrev pub log_text : List Entry → Text
log_text entries = flat_map entry_text entries
