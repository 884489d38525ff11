-- The lines of the log: one table, with one row for each report.
use Rattle.std.specs.Prelude.{ℕ, List, [], ◌∷◌, ◌++◌, codes, decimal, Option, Some, None}
use Rattle.dt_units.specs.declared.endpoints.Flow.{Flow}
use Rattle.dt_reports.specs.declared.flow_totals.Totals.{Totals}
use Rattle.dt_reports.specs.declared.reports.Report.TheVariants as reports
use Rattle.dt_reports.specs.Told.{Told}
use Rattle.dt_log.specs.Words.{Text, flow_text, hex_text, sent_letters, read_letters, record_text, run_text}
use Rattle.dt_log.specs.FaultWords.{refusal_words, layout_fault_words, fault_words}

-- the word of the node, where a node reports the line
abbrev pub node_words : Option ℕ → List Text
node_words (Some node) = decimal node ∷ []
node_words None = []

-- what a node reports: the moment, the node, and then these words
abbrev pub at_node : ℕ → Option ℕ → List Text → List Text
at_node moment reporter words = decimal moment ∷ node_words reporter ++ words

-- what is reported of a line of an input: its number, and then these words
abbrev pub at_line : ℕ → List Text → List Text
at_line line words = codes "line" ∷ (decimal line ++ codes ":") ∷ words

-- the totals of a flow
abbrev pub totals_words : Flow → Totals → List Text
totals_words flow t =
    codes "flow" ∷ flow_text flow ∷ codes "taken" ∷ decimal t.taken ∷ codes "acked" ∷ decimal t.acked ∷ codes "uncertain" ∷ decimal t.uncertain
    ∷ codes "open" ∷ decimal t.unsettled ∷ codes "given" ∷ decimal t.given ∷ codes "read" ∷ decimal t.read ∷ []

-- The words of a line. The loss of a copy is the world's and has no node; the totals of a flow, the end
-- and a refused line have a form of their own.
abbrev pub line_words : ℕ → Option ℕ → Told → List Text
line_words moment reporter (reports.Took flow count) = at_node moment reporter (codes "took" ∷ flow_text flow ∷ decimal count ∷ [])
line_words moment reporter (reports.Refused flow fault) = at_node moment reporter (codes "refused" ∷ flow_text flow ∷ refusal_words fault)
line_words moment reporter (reports.Sent flow number length drf begin end) = at_node moment reporter (codes "sent" ∷ flow_text flow ∷ decimal number ∷ decimal length ∷ sent_letters drf begin end ∷ [])
line_words moment reporter (reports.Resent flow number length drf begin end) = at_node moment reporter (codes "resent" ∷ flow_text flow ∷ decimal number ∷ decimal length ∷ sent_letters drf begin end ∷ [])
line_words moment reporter (reports.Met flow number) = at_node moment reporter (codes "met" ∷ flow_text flow ∷ decimal number ∷ [])
line_words moment reporter (reports.Uncertain flow count) = at_node moment reporter (codes "uncertain" ∷ flow_text flow ∷ decimal count ∷ [])
line_words moment reporter (reports.Released flow sending) = at_node moment reporter (codes "released" ∷ flow_text flow ∷ record_text sending ∷ [])
line_words moment reporter (reports.Renewed flow) = at_node moment reporter (codes "renewed" ∷ flow_text flow ∷ [])
line_words moment reporter (reports.Acked flow number window) = at_node moment reporter (codes "acked" ∷ flow_text flow ∷ decimal number ∷ decimal window ∷ [])
line_words moment reporter (reports.Replied flow number window) = at_node moment reporter (codes "replied" ∷ flow_text flow ∷ decimal number ∷ decimal window ∷ [])
line_words moment reporter (reports.Accepted flow number length run) = at_node moment reporter (codes "accepted" ∷ flow_text flow ∷ decimal number ∷ decimal length ∷ run_text run ∷ [])
line_words moment reporter (reports.Dropped flow number) = at_node moment reporter (codes "dropped" ∷ flow_text flow ∷ decimal number ∷ [])
line_words moment reporter (reports.Closing flow number) = at_node moment reporter (codes "closing" ∷ flow_text flow ∷ decimal number ∷ [])
line_words moment reporter (reports.Settled flow count window) = at_node moment reporter (codes "settled" ∷ flow_text flow ∷ decimal count ∷ decimal window ∷ [])
line_words moment reporter (reports.Ignored flow number window) = at_node moment reporter (codes "ignored" ∷ flow_text flow ∷ decimal number ∷ decimal window ∷ [])
line_words moment reporter (reports.Quiet until) = at_node moment reporter (codes "quiet" ∷ decimal until ∷ [])
line_words moment reporter (reports.Read flow run begin end octets) = at_node moment reporter (codes "read" ∷ flow_text flow ∷ read_letters run begin end ∷ hex_text octets.now ∷ [])
line_words moment reporter (reports.Nothing flow) = at_node moment reporter (codes "nothing" ∷ flow_text flow ∷ [])
line_words moment reporter (reports.Put link life) = at_node moment reporter (codes "put" ∷ decimal link ∷ decimal life ∷ [])
line_words moment reporter (reports.PutAs link life copy) = at_node moment reporter (codes "put" ∷ decimal link ∷ decimal life ∷ codes "as" ∷ decimal copy ∷ [])
line_words moment reporter (reports.ExpiredIn link) = at_node moment reporter (codes "expired" ∷ codes "in" ∷ decimal link ∷ [])
line_words moment reporter (reports.ExpiredOut link) = at_node moment reporter (codes "expired" ∷ codes "out" ∷ decimal link ∷ [])
line_words moment reporter (reports.NoRoute to) = at_node moment reporter (codes "noroute" ∷ decimal to ∷ [])
line_words moment reporter (reports.Full link) = at_node moment reporter (codes "full" ∷ decimal link ∷ [])
line_words moment reporter (reports.Bad fault) = at_node moment reporter (codes "bad" ∷ layout_fault_words fault)
line_words moment reporter (reports.Unsent link) = at_node moment reporter (codes "unsent" ∷ decimal link ∷ [])
line_words moment reporter (reports.Shelved flow number) = at_node moment reporter (codes "shelved" ∷ flow_text flow ∷ decimal number ∷ [])
line_words moment reporter (reports.NoShelf flow number) = at_node moment reporter (codes "noshelf" ∷ flow_text flow ∷ decimal number ∷ [])
line_words moment reporter (reports.Again flow number) = at_node moment reporter (codes "again" ∷ flow_text flow ∷ decimal number ∷ [])
line_words moment reporter (reports.Stale flow number) = at_node moment reporter (codes "stale" ∷ flow_text flow ∷ decimal number ∷ [])
line_words moment reporter (reports.Restarted life) = at_node moment reporter (codes "restarted" ∷ decimal life ∷ [])
line_words moment reporter (reports.Lost copy) = decimal moment ∷ codes "lost" ∷ decimal copy ∷ []
line_words moment reporter (reports.FlowTotals flow taken acked uncertain unsettled given read) =
    totals_words flow (record { taken = taken; acked = acked; uncertain = uncertain; unsettled = unsettled; given = given; read = read })
line_words moment reporter reports.End = codes "end" ∷ decimal moment ∷ []
line_words moment reporter (reports.Fault line fault) = at_line line (fault_words fault)
