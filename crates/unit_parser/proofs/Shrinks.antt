-- No parser of declarations, blocks or whole texts gives tokens back.
use Rattle.std.proofs.Common.{ℕ, zero, suc, List, [], ◌∷◌}
use Rattle.p2c_text.specs.declared.dialect.Dialect.{Dialect}
use Rattle.p2c_text.specs.declared.place.Span.{Span}
use Rattle.dialect_lexer.specs.Dialects.{is_iso}
use Rattle.dialect_lexer.specs.declared.token.Word.{Word as WordSymbol}
use Rattle.dialect_lexer.specs.declared.token.Word.TheVariants as word_
use Rattle.dialect_lexer.specs.declared.token.Symbol.TheVariants as mark
use Rattle.pascal_tree.specs.declared.names.Label.{Label}
use Rattle.pascal_tree.specs.declared.expressions.Expr.{Expr}
use Rattle.pascal_tree.specs.declared.types.TypeNode.{TypeNode}
use Rattle.pascal_tree.specs.declared.declarations.Formals.{Formals}
use Rattle.pascal_tree.specs.declared.declarations.ConstDefinition.{ConstDefinition}
use Rattle.pascal_tree.specs.declared.declarations.TypeDefinition.{TypeDefinition}
use Rattle.pascal_tree.specs.declared.declarations.VarSection.{VarSection}
use Rattle.pascal_tree.specs.declared.declarations.Declaration.{Declaration}
use Rattle.pascal_tree.specs.declared.declarations.Block.{Block}
use Rattle.pascal_tree.specs.declared.files.Public.{Public}
use Rattle.token_parsing.specs.Parser.{Parser, begins}
use Rattle.token_parsing.proofs.Tracked.{Shrinks, one_shrinks, then_shrinks, pure_shrinks, stop_shrinks, either_shrinks, repeat_shrinks}
use Rattle.expr_parser.specs.Tokens.{Placed}
use Rattle.expr_parser.specs.Classes.{identifiers, words, symbols}
use Rattle.expr_parser.specs.Expressions.{expr, factor}
use Rattle.expr_parser.proofs.Shrinks.{expr_shrinks}
use Rattle.expr_parser.proofs.ConstantShrinks.{label_shrinks, constant_shrinks}
use Rattle.type_parser.specs.Levels.{type_node, formals}
use Rattle.type_parser.proofs.Shrinks.{names_shrinks, result_shrinks, optional_formals_shrinks, type_shrinks, formals_shrinks}
use Rattle.stmt_parser.specs.Statements.{stmts}
use Rattle.stmt_parser.specs.Levels.{stmt}
use Rattle.stmt_parser.proofs.Shrinks.{stmts_shrinks, stmt_shrinks}
use Rattle.unit_parser.specs.Dialects.{has_value_expressions, uses_word}
use Rattle.unit_parser.specs.Parts.{next_label, more_labels, labels, label_part, constant_value, expression_value, value, const_definition, next_const_definition, const_definitions, const_part, type_definition, next_type_definition, type_definitions, type_part, var_section, next_var_section, var_sections, var_part, procedure_heading, optional_result, function_heading, heading}
use Rattle.unit_parser.specs.Blocks.{routine_body, routine, labels_declared, constants_declared, types_declared, variables_declared, routine_declared, declaration, next_declaration, routine_words, declaration_words, routines, any_declarations, optional_declaration, ordered_declarations, declarations, block_by, block}
use Rattle.unit_parser.specs.Files.{uses, optional_uses, optional_parameters, head, is_headless, optional_head, program, constants_public, types_public, variables_public, heading_public, public, next_public, public_words, publics, name_after, interface, exports, implementation, optional_initial, last_end, unit, module_text, source_file}

-- ---- parts of declarations

module _ (d : Dialect) (end : Span) where
  pub next_label_shrinks : (all : List Label) → Shrinks (next_label d end all)
  unfolding next_label
  next_label_shrinks all = then_shrinks (one_shrinks _) (λ _. then_shrinks (label_shrinks d end) (λ x. pure_shrinks _))

  pub labels_shrinks : Shrinks (labels d end)
  unfolding labels more_labels
  labels_shrinks = then_shrinks (label_shrinks d end) (λ x. repeat_shrinks (begins (symbols mark.Comma)) (next_label d end) next_label_shrinks (x ∷ []))

  pub label_part_shrinks : Shrinks (label_part d end)
  unfolding label_part
  label_part_shrinks n from l = then_shrinks (one_shrinks _) (λ _. then_shrinks labels_shrinks (λ all. then_shrinks (one_shrinks _) (λ u. λ n r k. pure_shrinks _ n r k))) n from l

  module _ (child : Parser Placed Expr) (h : Shrinks child) where
    pub value_shrinks : Shrinks (value d end child)
    unfolding value constant_value expression_value
    value_shrinks = either_shrinks (λ s. has_value_expressions d) (then_shrinks h (λ x. pure_shrinks _)) (then_shrinks (constant_shrinks d end) (λ x. pure_shrinks _))

    pub const_definition_shrinks : Shrinks (const_definition d end child)
    unfolding const_definition
    const_definition_shrinks n from l = then_shrinks (one_shrinks _) (λ x. then_shrinks (one_shrinks _) (λ _. then_shrinks value_shrinks (λ v. then_shrinks (one_shrinks _) (λ u. λ n r k. pure_shrinks _ n r k)))) n from l

    pub next_const_definition_shrinks : (all : List ConstDefinition) → Shrinks (next_const_definition d end child all)
    unfolding next_const_definition
    next_const_definition_shrinks all = then_shrinks const_definition_shrinks (λ x. pure_shrinks _)

    pub const_definitions_shrinks : (all : List ConstDefinition) → Shrinks (const_definitions d end child all)
    unfolding const_definitions
    const_definitions_shrinks all = repeat_shrinks (begins identifiers) (next_const_definition d end child) next_const_definition_shrinks all

    pub const_part_shrinks : Shrinks (const_part d end child)
    unfolding const_part
    const_part_shrinks n from l = then_shrinks (one_shrinks _) (λ _. then_shrinks (next_const_definition_shrinks []) (λ x. then_shrinks (const_definitions_shrinks x) (λ all. λ n r k. pure_shrinks _ n r k))) n from l

  module _ (child : Parser Placed TypeNode) (h : Shrinks child) where
    pub type_definition_shrinks : Shrinks (type_definition end child)
    unfolding type_definition
    type_definition_shrinks n from l = then_shrinks (one_shrinks _) (λ x. then_shrinks (one_shrinks _) (λ _. then_shrinks h (λ t. then_shrinks (one_shrinks _) (λ u. λ n r k. pure_shrinks _ n r k)))) n from l

    pub next_type_definition_shrinks : (all : List TypeDefinition) → Shrinks (next_type_definition end child all)
    unfolding next_type_definition
    next_type_definition_shrinks all = then_shrinks type_definition_shrinks (λ x. pure_shrinks _)

    pub type_definitions_shrinks : (all : List TypeDefinition) → Shrinks (type_definitions end child all)
    unfolding type_definitions
    type_definitions_shrinks all = repeat_shrinks (begins identifiers) (next_type_definition end child) next_type_definition_shrinks all

    pub type_part_shrinks : Shrinks (type_part end child)
    unfolding type_part
    type_part_shrinks n from l = then_shrinks (one_shrinks _) (λ _. then_shrinks (next_type_definition_shrinks []) (λ x. then_shrinks (type_definitions_shrinks x) (λ all. λ n r k. pure_shrinks _ n r k))) n from l

    pub var_section_shrinks : Shrinks (var_section end child)
    unfolding var_section
    var_section_shrinks n from l = then_shrinks names_shrinks (λ ns. then_shrinks (one_shrinks _) (λ _. then_shrinks h (λ t. then_shrinks (one_shrinks _) (λ u. λ n r k. pure_shrinks _ n r k)))) n from l

    pub next_var_section_shrinks : (all : List VarSection) → Shrinks (next_var_section end child all)
    unfolding next_var_section
    next_var_section_shrinks all = then_shrinks var_section_shrinks (λ x. pure_shrinks _)

    pub var_sections_shrinks : (all : List VarSection) → Shrinks (var_sections end child all)
    unfolding var_sections
    var_sections_shrinks all = repeat_shrinks (begins identifiers) (next_var_section end child) next_var_section_shrinks all

    pub var_part_shrinks : Shrinks (var_part end child)
    unfolding var_part
    var_part_shrinks n from l = then_shrinks (one_shrinks _) (λ _. then_shrinks (next_var_section_shrinks []) (λ x. then_shrinks (var_sections_shrinks x) (λ all. λ n r k. pure_shrinks _ n r k))) n from l

  module _ (child : Parser Placed Formals) (h : Shrinks child) where
    pub procedure_heading_shrinks : Shrinks (procedure_heading end child)
    unfolding procedure_heading
    procedure_heading_shrinks n from l = then_shrinks (one_shrinks _) (λ _. then_shrinks (one_shrinks _) (λ x. then_shrinks (optional_formals_shrinks end child h) (λ f. λ n r k. pure_shrinks _ n r k))) n from l

    pub optional_result_shrinks : Shrinks (optional_result end)
    unfolding optional_result
    optional_result_shrinks = either_shrinks (begins (symbols mark.Colon)) (then_shrinks (result_shrinks end child h) (λ t. pure_shrinks _)) (pure_shrinks _)

    pub function_heading_shrinks : Shrinks (function_heading end child)
    unfolding function_heading
    function_heading_shrinks n from l = then_shrinks (one_shrinks _) (λ _. then_shrinks (one_shrinks _) (λ x. then_shrinks (optional_formals_shrinks end child h) (λ f. then_shrinks optional_result_shrinks (λ t. λ n r k. pure_shrinks _ n r k)))) n from l

    pub heading_shrinks : Shrinks (heading end child)
    unfolding heading
    heading_shrinks = either_shrinks (begins (words word_.KwFunction)) function_heading_shrinks procedure_heading_shrinks

  -- ---- declarations and blocks

  module _ (n : ℕ) where
    pub constants_declared_shrinks : Shrinks (constants_declared d end n)
    unfolding constants_declared
    constants_declared_shrinks = then_shrinks (const_part_shrinks (expr d end n) (expr_shrinks d end n)) (λ p. pure_shrinks _)

    pub types_declared_shrinks : Shrinks (types_declared d end n)
    unfolding types_declared
    types_declared_shrinks = then_shrinks (type_part_shrinks (type_node d end n) (type_shrinks d end n)) (λ p. pure_shrinks _)

    pub variables_declared_shrinks : Shrinks (variables_declared d end n)
    unfolding variables_declared
    variables_declared_shrinks = then_shrinks (var_part_shrinks (type_node d end n) (type_shrinks d end n)) (λ p. pure_shrinks _)

    pub body_shrinks : Shrinks (stmts (stmt d end n))
    body_shrinks = stmts_shrinks d end (expr d end n) (expr_shrinks d end n) (stmt d end n) (stmt_shrinks d end n)

    module _ (child : Parser Placed Block) (h : Shrinks child) where
      pub routine_body_shrinks : Shrinks (routine_body child)
      unfolding routine_body
      routine_body_shrinks = either_shrinks (begins identifiers) (then_shrinks (one_shrinks _) (λ x. pure_shrinks _)) (then_shrinks h (λ b. pure_shrinks _))

      pub routine_shrinks : Shrinks (routine end n child)
      unfolding routine
      routine_shrinks m from l = then_shrinks (heading_shrinks (formals end n) (formals_shrinks end n)) (λ x. then_shrinks (one_shrinks _) (λ _. then_shrinks routine_body_shrinks (λ b. then_shrinks (one_shrinks _) (λ u. λ m r k. pure_shrinks _ m r k)))) m from l

      pub declaration_shrinks : Shrinks (declaration d end n child)
      unfolding declaration labels_declared routine_declared
      declaration_shrinks =
          either_shrinks (begins (words word_.KwLabel)) (then_shrinks label_part_shrinks (λ p. pure_shrinks _))
          (either_shrinks (begins (words word_.KwConst)) constants_declared_shrinks
          (either_shrinks (begins (words word_.KwType)) types_declared_shrinks
          (either_shrinks (begins (words word_.KwVar)) variables_declared_shrinks (then_shrinks routine_shrinks (λ r. pure_shrinks _)))))

      pub next_declaration_shrinks : (all : List Declaration) → Shrinks (next_declaration d end n child all)
      unfolding next_declaration
      next_declaration_shrinks all = then_shrinks declaration_shrinks (λ x. pure_shrinks _)

      pub routines_shrinks : (all : List Declaration) → Shrinks (routines d end n child all)
      unfolding routines
      routines_shrinks all = repeat_shrinks (begins routine_words) (next_declaration d end n child) next_declaration_shrinks all

      pub any_declarations_shrinks : (all : List Declaration) → Shrinks (any_declarations d end n child all)
      unfolding any_declarations
      any_declarations_shrinks all = repeat_shrinks (begins declaration_words) (next_declaration d end n child) next_declaration_shrinks all

      pub optional_declaration_shrinks : (w : WordSymbol) (all : List Declaration) → Shrinks (optional_declaration w d end n child all)
      unfolding optional_declaration
      optional_declaration_shrinks w all = either_shrinks (begins (words w)) (next_declaration_shrinks all) (pure_shrinks _)

      pub ordered_declarations_shrinks : Shrinks (ordered_declarations d end n child)
      unfolding ordered_declarations
      ordered_declarations_shrinks =
          then_shrinks (optional_declaration_shrinks word_.KwLabel []) (λ a. then_shrinks (optional_declaration_shrinks word_.KwConst a) (λ a. then_shrinks (optional_declaration_shrinks word_.KwType a) (λ a. then_shrinks (optional_declaration_shrinks word_.KwVar a) (λ a. routines_shrinks a))))

      pub declarations_shrinks : Shrinks (declarations d end n child)
      unfolding declarations
      declarations_shrinks = either_shrinks (λ s. is_iso d) ordered_declarations_shrinks (any_declarations_shrinks [])

      pub block_by_shrinks : Shrinks (block_by d end n child)
      unfolding block_by
      block_by_shrinks m from l = then_shrinks declarations_shrinks (λ all. then_shrinks (one_shrinks _) (λ _. then_shrinks body_shrinks (λ b. then_shrinks (one_shrinks _) (λ u. λ m r k. pure_shrinks _ m r k)))) m from l

pub block_shrinks : (d : Dialect) (end : Span) (k : ℕ) → Shrinks (block d end k)
unfolding block
block_shrinks d end zero = stop_shrinks
block_shrinks d end (suc k) = block_by_shrinks d end k (block d end k) (block_shrinks d end k)

-- ---- whole texts

module _ (d : Dialect) (end : Span) where
  pub uses_shrinks : Shrinks (uses d end)
  unfolding uses
  uses_shrinks n from l = then_shrinks (one_shrinks _) (λ _. then_shrinks names_shrinks (λ ns. then_shrinks (one_shrinks _) (λ u. λ n r k. pure_shrinks _ n r k))) n from l

  pub optional_uses_shrinks : Shrinks (optional_uses d end)
  unfolding optional_uses
  optional_uses_shrinks = either_shrinks (begins (words (uses_word d))) (then_shrinks uses_shrinks (λ u. pure_shrinks _)) (pure_shrinks _)

  pub parameters_shrinks : Shrinks optional_parameters
  unfolding optional_parameters
  parameters_shrinks = either_shrinks (begins (symbols mark.Open)) (then_shrinks (one_shrinks _) (λ _. then_shrinks names_shrinks (λ ns. then_shrinks (one_shrinks _) (λ _. pure_shrinks _)))) (pure_shrinks _)

  pub head_shrinks : Shrinks (head end)
  unfolding head
  head_shrinks n from l = then_shrinks (one_shrinks _) (λ _. then_shrinks (one_shrinks _) (λ x. then_shrinks parameters_shrinks (λ ns. then_shrinks (one_shrinks _) (λ u. λ n r k. pure_shrinks _ n r k)))) n from l

  pub optional_head_shrinks : Shrinks (optional_head d end)
  unfolding optional_head
  optional_head_shrinks = either_shrinks (is_headless d) (pure_shrinks _) (then_shrinks head_shrinks (λ h. pure_shrinks _))

  pub name_after_shrinks : (w : WordSymbol) → Shrinks (name_after w)
  unfolding name_after
  name_after_shrinks w = then_shrinks (one_shrinks _) (λ _. then_shrinks (one_shrinks _) (λ x. then_shrinks (one_shrinks _) (λ _. pure_shrinks _)))

  pub last_end_shrinks : Shrinks last_end
  unfolding last_end
  last_end_shrinks = then_shrinks (one_shrinks _) (λ _. one_shrinks _)

  module _ (n : ℕ) where
    pub program_shrinks : Shrinks (program d end n)
    unfolding program
    program_shrinks m from l = then_shrinks optional_head_shrinks (λ h. then_shrinks optional_uses_shrinks (λ u. then_shrinks (block_shrinks d end n) (λ b. then_shrinks (one_shrinks _) (λ v. λ m r k. pure_shrinks _ m r k)))) m from l

    pub heading_public_shrinks : Shrinks (heading_public end n)
    unfolding heading_public
    heading_public_shrinks m from l = then_shrinks (heading_shrinks d end (formals end n) (formals_shrinks end n)) (λ h. then_shrinks (one_shrinks _) (λ u. λ m r k. pure_shrinks _ m r k)) m from l

    pub public_shrinks : Shrinks (public d end n)
    unfolding public constants_public types_public variables_public
    public_shrinks =
        either_shrinks (begins (words word_.KwConst)) (then_shrinks (const_part_shrinks d end (expr d end n) (expr_shrinks d end n)) (λ p. pure_shrinks _))
        (either_shrinks (begins (words word_.KwType)) (then_shrinks (type_part_shrinks d end (type_node d end n) (type_shrinks d end n)) (λ p. pure_shrinks _))
        (either_shrinks (begins (words word_.KwVar)) (then_shrinks (var_part_shrinks d end (type_node d end n) (type_shrinks d end n)) (λ p. pure_shrinks _)) heading_public_shrinks))

    pub next_public_shrinks : (all : List Public) → Shrinks (next_public d end n all)
    unfolding next_public
    next_public_shrinks all = then_shrinks public_shrinks (λ x. pure_shrinks _)

    pub publics_shrinks : (all : List Public) → Shrinks (publics d end n all)
    unfolding publics
    publics_shrinks all = repeat_shrinks (begins public_words) (next_public d end n) next_public_shrinks all

    pub interface_shrinks : Shrinks (interface d end n)
    unfolding interface
    interface_shrinks = then_shrinks (one_shrinks _) (λ _. then_shrinks optional_uses_shrinks (λ u. then_shrinks (publics_shrinks []) (λ all. pure_shrinks _)))

    pub exports_shrinks : Shrinks (exports d end n)
    unfolding exports
    exports_shrinks = then_shrinks optional_uses_shrinks (λ u. then_shrinks (one_shrinks _) (λ _. then_shrinks (publics_shrinks []) (λ all. pure_shrinks _)))

    pub implementation_shrinks : (w : WordSymbol) → Shrinks (implementation w d end n)
    unfolding implementation
    implementation_shrinks w = then_shrinks (one_shrinks _) (λ _. then_shrinks optional_uses_shrinks (λ u. then_shrinks (declarations_shrinks d end n (block d end n) (block_shrinks d end n)) (λ all. pure_shrinks _)))

    pub initial_shrinks : Shrinks (optional_initial d end n)
    unfolding optional_initial
    initial_shrinks = either_shrinks (begins (words word_.KwBegin)) (then_shrinks (one_shrinks _) (λ _. then_shrinks (body_shrinks d end n) (λ b. pure_shrinks _))) (pure_shrinks _)

    pub unit_shrinks : Shrinks (unit d end n)
    unfolding unit
    unit_shrinks m from l = then_shrinks (name_after_shrinks word_.KwUnit) (λ x. then_shrinks interface_shrinks (λ i. then_shrinks (implementation_shrinks word_.KwImplementation) (λ p. then_shrinks initial_shrinks (λ b. then_shrinks last_end_shrinks (λ u. λ m r k. pure_shrinks _ m r k))))) m from l

    pub module_shrinks : Shrinks (module_text d end n)
    unfolding module_text
    module_shrinks m from l = then_shrinks (name_after_shrinks word_.KwModule) (λ x. then_shrinks exports_shrinks (λ i. then_shrinks (implementation_shrinks word_.KwImplement) (λ p. then_shrinks last_end_shrinks (λ u. λ m r k. pure_shrinks _ m r k)))) m from l

    pub source_file_shrinks : Shrinks (source_file d end n)
    unfolding source_file
    source_file_shrinks =
        either_shrinks (begins (words word_.KwUnit)) (then_shrinks unit_shrinks (λ u. pure_shrinks _))
        (either_shrinks (begins (words word_.KwModule)) (then_shrinks module_shrinks (λ m. pure_shrinks _)) (then_shrinks program_shrinks (λ p. pure_shrinks _)))
