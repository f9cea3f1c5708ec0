use Rattle.std.proofs.Common.{◌≡◌, ◌∙◌, Some, ap, ap₂, rules}
use Rattle.command_words.proofs.Matches.{some_and}
use Rattle.std.proofs.lemmas.Result.{IfOk-weaker}
use Rattle.clap.specs.Words.{rule_of, with_rule}
use Rattle.command_words.specs.Asked.{dialect_rule, files_rule}
use Rattle.command_words.proofs.lines.translate_line.Goals as goal

pub returns : goal.returns
returns c =
    let dialect_is : rule_of c.default_value-dialect.result ≡ dialect_rule = search rules in
    let range_is : c.num_args-files.result.num_vals ≡ Some (record { start_inclusive = 1; end_inclusive = 64 }) = some_and _ _ c.num_args-files.ensures.1 ∙ ap Some c.number_of_files.ensures in
    let files_is : rule_of c.num_args-files.result ≡ files_rule = search rules in
    IfOk-weaker c.arg-2.result _ _ (λ line adds. adds.shape (search rules) ∙ ap₂ with_rule (c.in_ok-arg.ensures.shape (search rules) ∙ ap₂ with_rule c.new-3.ensures.app dialect_is) files_is) c.arg-2.ensures
