-- No parser of types or of formal parameters gives tokens back.
use Rattle.std.proofs.Common.{ℕ, zero, suc, List, [], ◌∷◌}
use Rattle.p2c_text.specs.declared.dialect.Dialect.{Dialect}
use Rattle.p2c_text.specs.declared.place.Span.{Span}
use Rattle.dialect_lexer.specs.declared.token.Word.TheVariants as word_
use Rattle.dialect_lexer.specs.declared.token.Symbol.TheVariants as mark
use Rattle.pascal_tree.specs.declared.names.Identifier.{Identifier}
use Rattle.pascal_tree.specs.declared.types.TypeNode.{TypeNode}
use Rattle.pascal_tree.specs.declared.types.Fields.{Fields}
use Rattle.pascal_tree.specs.declared.types.FixedSection.{FixedSection}
use Rattle.pascal_tree.specs.declared.types.Variant.{Variant}
use Rattle.pascal_tree.specs.declared.declarations.Formal.{Formal}
use Rattle.pascal_tree.specs.declared.declarations.Formals.{Formals}
use Rattle.token_parsing.specs.Parser.{Parser, begins}
use Rattle.token_parsing.proofs.Tracked.{Shrinks, one_shrinks, then_shrinks, pure_shrinks, stop_shrinks, either_shrinks, repeat_shrinks}
use Rattle.expr_parser.specs.Tokens.{Placed}
use Rattle.expr_parser.specs.Classes.{identifiers, words, symbols}
use Rattle.expr_parser.proofs.ConstantShrinks.{constant_shrinks, case_labels_shrinks}
use Rattle.type_parser.specs.Names.{next_name, more_names, names, string_name, type_name}
use Rattle.type_parser.specs.Types.{pointer, enumeration, subrange, named, optional_limit, string_type, begins_name_alone, simple_type, of_type, next_type, more_types, types, indexes, array, record_type, set_type, file_type, structure, optional_packed, structured, struct_words, type_by}
use Rattle.type_parser.specs.Fields.{section, begins_next_section, next_section, more_sections, fixed, group, variant, begins_next_variant, next_variant, more_variants, variant_list, begins_tag, optional_tag, selector, variants, begins_more_variants, optional_variants, optional_semicolon, with_fixed, only_variants, no_fields, fields_by}
use Rattle.type_parser.specs.Formals.{optional_formals, optional_var, result, variables, procedure, function, formal, next_formal, more_formals, listed_formals, formals_by}
use Rattle.type_parser.specs.Levels.{type_node, fields, formals}

-- ---- names

pub next_name_shrinks : (all : List Identifier) → Shrinks (next_name all)
unfolding next_name
next_name_shrinks all = then_shrinks (one_shrinks _) (λ _. then_shrinks (one_shrinks _) (λ x. pure_shrinks _))

pub names_shrinks : Shrinks names
unfolding names more_names
names_shrinks = then_shrinks (one_shrinks _) (λ x. repeat_shrinks (begins (symbols mark.Comma)) next_name next_name_shrinks (x ∷ []))

pub type_name_shrinks : (end : Span) → Shrinks (type_name end)
unfolding type_name string_name
type_name_shrinks end = either_shrinks (begins identifiers) (then_shrinks (one_shrinks _) (λ x. pure_shrinks _)) (λ n from l. then_shrinks (one_shrinks _) (λ u. λ n r k. pure_shrinks _ n r k) n from l)

-- ---- types without types in them

module _ (d : Dialect) (end : Span) where
  pointer_shrinks : Shrinks (pointer end)
  unfolding pointer
  pointer_shrinks n from l = then_shrinks (one_shrinks _) (λ _. then_shrinks (one_shrinks _) (λ x. λ n r k. pure_shrinks _ n r k)) n from l

  enumeration_shrinks : Shrinks (enumeration end)
  unfolding enumeration
  enumeration_shrinks n from l = then_shrinks (one_shrinks _) (λ _. then_shrinks names_shrinks (λ ns. then_shrinks (one_shrinks _) (λ u. λ n r k. pure_shrinks _ n r k))) n from l

  subrange_shrinks : Shrinks (subrange end)
  unfolding subrange
  subrange_shrinks n from l = then_shrinks (constant_shrinks d end) (λ a. then_shrinks (one_shrinks _) (λ _. then_shrinks (constant_shrinks d end) (λ b. λ n r k. pure_shrinks _ n r k))) n from l

  named_shrinks : Shrinks named
  unfolding named
  named_shrinks = then_shrinks (one_shrinks _) (λ x. pure_shrinks _)

  pub limit_shrinks : Shrinks (optional_limit end)
  unfolding optional_limit
  limit_shrinks = either_shrinks (begins (symbols mark.OpenBracket)) (then_shrinks (one_shrinks _) (λ _. then_shrinks (constant_shrinks d end) (λ c. then_shrinks (one_shrinks _) (λ _. pure_shrinks _)))) (pure_shrinks _)

  string_shrinks : Shrinks (string_type end)
  unfolding string_type
  string_shrinks n from l = then_shrinks (one_shrinks _) (λ _. then_shrinks limit_shrinks (λ c. λ n r k. pure_shrinks _ n r k)) n from l

  pub simple_shrinks : Shrinks (simple_type end)
  unfolding simple_type
  simple_shrinks =
      either_shrinks begins_name_alone named_shrinks
      (either_shrinks (begins (symbols mark.Caret)) pointer_shrinks
      (either_shrinks (begins (symbols mark.Open)) enumeration_shrinks
      (either_shrinks (begins (words word_.KwString)) string_shrinks subrange_shrinks)))

  pub packed_shrinks : Shrinks optional_packed
  unfolding optional_packed
  packed_shrinks = either_shrinks (begins (words word_.KwPacked)) (then_shrinks (one_shrinks _) (λ _. pure_shrinks _)) (pure_shrinks _)

  pub tag_shrinks : Shrinks optional_tag
  unfolding optional_tag
  tag_shrinks = either_shrinks begins_tag (then_shrinks (one_shrinks _) (λ x. then_shrinks (one_shrinks _) (λ _. pure_shrinks _))) (pure_shrinks _)

  pub selector_shrinks : Shrinks (selector end)
  unfolding selector
  selector_shrinks = then_shrinks (one_shrinks _) (λ _. then_shrinks tag_shrinks (λ t. then_shrinks (type_name_shrinks end) (λ x. then_shrinks (one_shrinks _) (λ _. pure_shrinks _))))

  pub semicolon_shrinks : Shrinks optional_semicolon
  unfolding optional_semicolon
  semicolon_shrinks = either_shrinks (begins (symbols mark.Semicolon)) (then_shrinks (one_shrinks _) (λ _. pure_shrinks _)) (pure_shrinks _)

  pub no_fields_shrinks : Shrinks (no_fields end)
  unfolding no_fields
  no_fields_shrinks n from l = pure_shrinks _ n from l

  -- ---- types and lists of fields

  module _ (child : Parser Placed TypeNode) (h : Shrinks child) where
    pub of_type_shrinks : Shrinks (of_type child)
    unfolding of_type
    of_type_shrinks = then_shrinks (one_shrinks _) (λ _. h)

    pub next_type_shrinks : (all : List TypeNode) → Shrinks (next_type child all)
    unfolding next_type
    next_type_shrinks all = then_shrinks (one_shrinks _) (λ _. then_shrinks h (λ t. pure_shrinks _))

    pub types_shrinks : Shrinks (types child)
    unfolding types more_types
    types_shrinks = then_shrinks h (λ t. repeat_shrinks (begins (symbols mark.Comma)) (next_type child) next_type_shrinks (t ∷ []))

    pub indexes_shrinks : Shrinks (indexes child)
    unfolding indexes
    indexes_shrinks = then_shrinks (one_shrinks _) (λ _. then_shrinks types_shrinks (λ all. then_shrinks (one_shrinks _) (λ _. pure_shrinks _)))

    pub array_shrinks : Shrinks (array end child)
    unfolding array
    array_shrinks n from l = then_shrinks (one_shrinks _) (λ _. then_shrinks indexes_shrinks (λ all. then_shrinks of_type_shrinks (λ t. λ n r k. pure_shrinks _ n r k))) n from l

    pub set_shrinks : Shrinks (set_type end child)
    unfolding set_type
    set_shrinks n from l = then_shrinks (one_shrinks _) (λ _. then_shrinks of_type_shrinks (λ t. λ n r k. pure_shrinks _ n r k)) n from l

    pub file_shrinks : Shrinks (file_type end child)
    unfolding file_type
    file_shrinks n from l = then_shrinks (one_shrinks _) (λ _. then_shrinks of_type_shrinks (λ t. λ n r k. pure_shrinks _ n r k)) n from l

    pub section_shrinks : Shrinks (section end child)
    unfolding section
    section_shrinks n from l = then_shrinks names_shrinks (λ ns. then_shrinks (one_shrinks _) (λ _. then_shrinks h (λ t. λ n r k. pure_shrinks _ n r k))) n from l

    pub next_section_shrinks : (all : List FixedSection) → Shrinks (next_section end child all)
    unfolding next_section
    next_section_shrinks all = then_shrinks (one_shrinks _) (λ _. then_shrinks section_shrinks (λ x. pure_shrinks _))

    pub more_sections_shrinks : (all : List FixedSection) → Shrinks (more_sections end child all)
    unfolding more_sections
    more_sections_shrinks all = repeat_shrinks begins_next_section (next_section end child) next_section_shrinks all

    pub fixed_shrinks : Shrinks (fixed end child)
    unfolding fixed
    fixed_shrinks n from l = then_shrinks section_shrinks (λ x. then_shrinks (more_sections_shrinks (x ∷ [])) (λ all. λ n r k. pure_shrinks _ n r k)) n from l

  module _ (inner : Parser Placed Fields) (g : Shrinks inner) where
    pub record_shrinks : Shrinks (record_type end inner)
    unfolding record_type
    record_shrinks n from l = then_shrinks (one_shrinks _) (λ _. then_shrinks g (λ f. then_shrinks (one_shrinks _) (λ u. λ n r k. pure_shrinks _ n r k))) n from l

    pub group_shrinks : Shrinks (group inner)
    unfolding group
    group_shrinks = then_shrinks (one_shrinks _) (λ _. then_shrinks g (λ f. then_shrinks (one_shrinks _) (λ _. pure_shrinks _)))

    pub variant_shrinks : Shrinks (variant d end inner)
    unfolding variant
    variant_shrinks n from l = then_shrinks (case_labels_shrinks d end) (λ ls. then_shrinks (one_shrinks _) (λ _. then_shrinks group_shrinks (λ f. λ n r k. pure_shrinks _ n r k))) n from l

    pub next_variant_shrinks : (all : List Variant) → Shrinks (next_variant d end inner all)
    unfolding next_variant
    next_variant_shrinks all = then_shrinks (one_shrinks _) (λ _. then_shrinks variant_shrinks (λ v. pure_shrinks _))

    pub more_variants_shrinks : (all : List Variant) → Shrinks (more_variants d end inner all)
    unfolding more_variants
    more_variants_shrinks all = repeat_shrinks begins_next_variant (next_variant d end inner) next_variant_shrinks all

    pub variant_list_shrinks : Shrinks (variant_list d end inner)
    unfolding variant_list
    variant_list_shrinks = then_shrinks variant_shrinks (λ v. more_variants_shrinks (v ∷ []))

    pub variants_shrinks : Shrinks (variants d end inner)
    unfolding variants
    variants_shrinks n from l = then_shrinks selector_shrinks (λ h. then_shrinks variant_list_shrinks (λ all. λ n r k. pure_shrinks _ n r k)) n from l

    pub optional_variants_shrinks : Shrinks (optional_variants d end inner)
    unfolding optional_variants
    optional_variants_shrinks = either_shrinks begins_more_variants (then_shrinks (one_shrinks _) (λ _. then_shrinks variants_shrinks (λ v. pure_shrinks _))) (pure_shrinks _)

    pub only_variants_shrinks : Shrinks (only_variants d end inner)
    unfolding only_variants
    only_variants_shrinks n from l = then_shrinks variants_shrinks (λ v. then_shrinks semicolon_shrinks (λ c. λ n r k. pure_shrinks _ n r k)) n from l

  module _ (child : Parser Placed TypeNode) (h : Shrinks child) (inner : Parser Placed Fields) (g : Shrinks inner) where
    pub structure_shrinks : Shrinks (structure end child inner)
    unfolding structure
    structure_shrinks =
        either_shrinks (begins (words word_.KwArray)) (array_shrinks child h)
        (either_shrinks (begins (words word_.KwRecord)) (record_shrinks inner g)
        (either_shrinks (begins (words word_.KwSet)) (set_shrinks child h) (file_shrinks child h)))

    pub structured_shrinks : Shrinks (structured end child inner)
    unfolding structured
    structured_shrinks n from l = then_shrinks packed_shrinks (λ p. then_shrinks structure_shrinks (λ s. λ n r k. pure_shrinks _ n r k)) n from l

    pub type_by_shrinks : Shrinks (type_by end child inner)
    unfolding type_by
    type_by_shrinks = either_shrinks (begins struct_words) structured_shrinks simple_shrinks

    pub with_fixed_shrinks : Shrinks (with_fixed d end child inner)
    unfolding with_fixed
    with_fixed_shrinks n from l = then_shrinks (fixed_shrinks child h) (λ f. then_shrinks (optional_variants_shrinks inner g) (λ v. then_shrinks semicolon_shrinks (λ c. λ n r k. pure_shrinks _ n r k))) n from l

    pub fields_by_shrinks : Shrinks (fields_by d end child inner)
    unfolding fields_by
    fields_by_shrinks = either_shrinks (begins identifiers) with_fixed_shrinks (either_shrinks (begins (words word_.KwCase)) (only_variants_shrinks inner g) no_fields_shrinks)

mutual
  unfolding type_node fields

  pub type_shrinks : (d : Dialect) (end : Span) (k : ℕ) → Shrinks (type_node d end k)
  type_shrinks d end zero = stop_shrinks
  type_shrinks d end (suc k) = type_by_shrinks d end (type_node d end k) (type_shrinks d end k) (fields d end k) (fields_shrinks d end k)

  pub fields_shrinks : (d : Dialect) (end : Span) (k : ℕ) → Shrinks (fields d end k)
  fields_shrinks d end zero = stop_shrinks
  fields_shrinks d end (suc k) = fields_by_shrinks d end (type_node d end k) (type_shrinks d end k) (fields d end k) (fields_shrinks d end k)

-- ---- formal parameters

module _ (end : Span) (child : Parser Placed Formals) (h : Shrinks child) where
  pub optional_formals_shrinks : Shrinks (optional_formals child)
  unfolding optional_formals
  optional_formals_shrinks = either_shrinks (begins (symbols mark.Open)) (then_shrinks h (λ f. pure_shrinks _)) (pure_shrinks _)

  pub var_shrinks : Shrinks optional_var
  unfolding optional_var
  var_shrinks = either_shrinks (begins (words word_.KwVar)) (then_shrinks (one_shrinks _) (λ _. pure_shrinks _)) (pure_shrinks _)

  pub result_shrinks : Shrinks (result end)
  unfolding result
  result_shrinks = then_shrinks (one_shrinks _) (λ _. type_name_shrinks end)

  pub variables_shrinks : Shrinks (variables end)
  unfolding variables
  variables_shrinks n from l = then_shrinks var_shrinks (λ r. then_shrinks names_shrinks (λ ns. then_shrinks result_shrinks (λ t. λ n r k. pure_shrinks _ n r k))) n from l

  pub procedure_shrinks : Shrinks (procedure end child)
  unfolding procedure
  procedure_shrinks n from l = then_shrinks (one_shrinks _) (λ _. then_shrinks (one_shrinks _) (λ x. then_shrinks optional_formals_shrinks (λ f. λ n r k. pure_shrinks _ n r k))) n from l

  pub function_shrinks : Shrinks (function end child)
  unfolding function
  function_shrinks n from l = then_shrinks (one_shrinks _) (λ _. then_shrinks (one_shrinks _) (λ x. then_shrinks optional_formals_shrinks (λ f. then_shrinks result_shrinks (λ t. λ n r k. pure_shrinks _ n r k)))) n from l

  pub formal_shrinks : Shrinks (formal end child)
  unfolding formal
  formal_shrinks = either_shrinks (begins (words word_.KwProcedure)) procedure_shrinks (either_shrinks (begins (words word_.KwFunction)) function_shrinks variables_shrinks)

  pub next_formal_shrinks : (all : List Formal) → Shrinks (next_formal end child all)
  unfolding next_formal
  next_formal_shrinks all = then_shrinks (one_shrinks _) (λ _. then_shrinks formal_shrinks (λ f. pure_shrinks _))

  pub listed_formals_shrinks : Shrinks (listed_formals end child)
  unfolding listed_formals more_formals
  listed_formals_shrinks = then_shrinks formal_shrinks (λ f. repeat_shrinks (begins (symbols mark.Semicolon)) (next_formal end child) next_formal_shrinks (f ∷ []))

  pub formals_by_shrinks : Shrinks (formals_by end child)
  unfolding formals_by
  formals_by_shrinks n from l = then_shrinks (one_shrinks _) (λ _. then_shrinks listed_formals_shrinks (λ all. then_shrinks (one_shrinks _) (λ u. λ n r k. pure_shrinks _ n r k))) n from l

pub formals_shrinks : (end : Span) (k : ℕ) → Shrinks (formals end k)
unfolding formals
formals_shrinks end zero = stop_shrinks
formals_shrinks end (suc k) = formals_by_shrinks end (formals end k) (formals_shrinks end k)
