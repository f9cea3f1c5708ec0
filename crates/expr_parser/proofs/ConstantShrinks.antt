-- No parser of labels or constants gives tokens back.
use Rattle.p2c_text.specs.declared.dialect.Dialect.{Dialect}
use Rattle.std.proofs.Common.{List, [], ◌∷◌, Option}
use Rattle.p2c_text.specs.declared.place.Span.{Span}
use Rattle.dialect_lexer.specs.declared.token.Symbol.TheVariants as mark
use Rattle.pascal_tree.specs.declared.constants.Sign.{Sign}
use Rattle.pascal_tree.specs.declared.constants.CaseLabel.{CaseLabel}
use Rattle.token_parsing.specs.Parser.{begins}
use Rattle.token_parsing.proofs.Tracked.{Shrinks, one_shrinks, then_shrinks, pure_shrinks, either_shrinks, repeat_shrinks}
use Rattle.expr_parser.specs.Tokens.{Placed}
use Rattle.expr_parser.specs.Classes.{identifiers, texts, symbols}
use Rattle.expr_parser.specs.Expressions.{factor}
use Rattle.expr_parser.specs.Constants.{named_label, number_label, begins_named_label, label, begins_label, optional_label, text_constant, name_constant, number_constant, unsigned_constant, signed_constant, constant, begins_range, optional_last, case_label, next_case_label, more_case_labels, case_labels}
use Rattle.expr_parser.proofs.Shrinks.{sign_shrinks, factor_shrinks}

module _ (d : Dialect) (end : Span) where
  pub label_shrinks : Shrinks (label d end)
  unfolding label named_label number_label
  label_shrinks = either_shrinks (begins_named_label d) (then_shrinks (one_shrinks _) (λ n. pure_shrinks _)) (λ n from l. then_shrinks (one_shrinks _) (λ v. λ n r k. pure_shrinks _ n r k) n from l)

  pub optional_label_shrinks : Shrinks (optional_label d end)
  unfolding optional_label
  optional_label_shrinks = either_shrinks (begins_label d) (then_shrinks label_shrinks (λ x. then_shrinks (one_shrinks _) (λ _. pure_shrinks _))) (pure_shrinks _)

  pub unsigned_shrinks : (from : List Placed) (s : Option Sign) → Shrinks (unsigned_constant end from s)
  unfolding unsigned_constant name_constant number_constant
  unsigned_shrinks from s = either_shrinks (begins identifiers) (then_shrinks (one_shrinks _) (λ n. λ n r k. pure_shrinks _ n r k)) (then_shrinks (one_shrinks _) (λ v. λ n r k. pure_shrinks _ n r k))

  signed_shrinks : Shrinks (signed_constant end)
  unfolding signed_constant
  signed_shrinks n from l = then_shrinks (sign_shrinks end (factor d end 0) (factor_shrinks d end 0)) (λ s. unsigned_shrinks from s) n from l

  pub constant_shrinks : Shrinks (constant end)
  unfolding constant text_constant
  constant_shrinks = either_shrinks (begins texts) (λ n from l. then_shrinks (one_shrinks _) (λ v. λ n r k. pure_shrinks _ n r k) n from l) signed_shrinks

  pub optional_last_shrinks : Shrinks (optional_last d end)
  unfolding optional_last
  optional_last_shrinks = either_shrinks (begins_range d) (then_shrinks (one_shrinks _) (λ _. then_shrinks constant_shrinks (λ c. pure_shrinks _))) (pure_shrinks _)

  pub case_label_shrinks : Shrinks (case_label d end)
  unfolding case_label
  case_label_shrinks n from l = then_shrinks constant_shrinks (λ a. then_shrinks optional_last_shrinks (λ b. λ n r k. pure_shrinks _ n r k)) n from l

  next_case_label_shrinks : (all : List CaseLabel) → Shrinks (next_case_label d end all)
  unfolding next_case_label
  next_case_label_shrinks all = then_shrinks (one_shrinks _) (λ _. then_shrinks case_label_shrinks (λ x. pure_shrinks _))

  pub case_labels_shrinks : Shrinks (case_labels d end)
  unfolding case_labels more_case_labels
  case_labels_shrinks = then_shrinks case_label_shrinks (λ x. repeat_shrinks (begins (symbols mark.Comma)) (next_case_label d end) next_case_label_shrinks (x ∷ []))
