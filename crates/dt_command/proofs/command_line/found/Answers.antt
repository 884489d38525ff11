use Rattle.std.proofs.Common.{rules, ◌≡◌, ◌∙◌, ap, ap₂, true, subst, IfOk, map, string_bytes}
use Rattle.std.proofs.lemmas.Result.{IfOk-weaker}
use Rattle.clap.specs.Words.{FailsBy, HasMatchesOf, app_of, fault_of, is_simple_and_free, rule_of, with_rule}
use Rattle.clap.specs.Simple.{app_of_fields, on_top}
use Rattle.dt_command.proofs.Positionals.{line, command_rule, count_rule, is_free}
use Rattle.dt_command.proofs.Naming.{ReadsAll, read_by_clap, refused_by_clap}
use Rattle.dt_command.proofs.command_line.found.Goals as goal
use Rattle.dt_command.proofs.command_line.found.Goals.{After-try_get_matches_from}

-- the command line that the code makes
line_is : (c : After-try_get_matches_from) → app_of c.in_ok-line.line ≡ line
line_is c =
    let command_is : rule_of c.required-command.result ≡ command_rule = search rules in
    let count_is : rule_of c.new-count.result ≡ count_rule = search rules in
    let named : app_of c.no_binary_name.result ≡ on_top (λ s. record s { no_binary_name = true }) (app_of c.new-2.result) = ap app_of_fields c.no_binary_name.ensures in
    let no_help : app_of c.disable_help_flag.result ≡ on_top (λ s. record s { disable_help_flag = true }) (app_of c.no_binary_name.result) = ap app_of_fields c.disable_help_flag.ensures in
    let no_version : app_of c.disable_version_flag.result ≡ on_top (λ s. record s { disable_version_flag = true }) (app_of c.disable_help_flag.result) = ap app_of_fields c.disable_version_flag.ensures in
    let bare = no_version ∙ ap (on_top (λ s. record s { disable_version_flag = true })) (no_help ∙ ap (on_top (λ s. record s { disable_help_flag = true })) (named ∙ ap (on_top (λ s. record s { no_binary_name = true })) c.new-2.ensures.app)) in
    c.in_ok-line.ensures.shape (search rules) ∙ ap₂ with_rule (c.in_ok-arg.ensures.shape (search rules) ∙ ap₂ with_rule bare command_is) count_is

fails : (c : After-try_get_matches_from) → FailsBy (fault_of line (map string_bytes c.args.words.now)) c.try_get_matches_from.result
fails c = subst (λ a. is_simple_and_free a ≡ true → FailsBy (fault_of a (map string_bytes c.args.words.now)) c.try_get_matches_from.result) (line_is c) c.try_get_matches_from.ensures.kinds is_free

read : (c : After-try_get_matches_from) → IfOk c.try_get_matches_from.result (ReadsAll (map string_bytes c.args.words.now))
read c = read_by_clap (map string_bytes c.args.words.now) c.try_get_matches_from.result (fails c)
    (subst (λ a. IfOk c.try_get_matches_from.result (HasMatchesOf a (map string_bytes c.args.words.now))) (line_is c) c.try_get_matches_from.ensures.matches)

pub returns-clause-count : goal.returns-clause-count
returns-clause-count c = IfOk-weaker c.try_get_matches_from.result _ _ (λ m r. r.count) (read c)

pub returns-clause-word : goal.returns-clause-word
returns-clause-word c = IfOk-weaker c.try_get_matches_from.result _ _ (λ m r. r.word) (read c)

pub returns-clause-next : goal.returns-clause-next
returns-clause-next c = IfOk-weaker c.try_get_matches_from.result _ _ (λ m r. r.next) (read c)

pub returns-clause-lacks : goal.returns-clause-lacks
returns-clause-lacks c = refused_by_clap (map string_bytes c.args.words.now) c.try_get_matches_from.result (fails c)
