-- The greatest number of counted nodes on one path of what a declaration, a block or a whole text is written as is its height.
use Rattle.std.proofs.Common.{◌≡◌, ℕ, ◌≤◌, List, map, Option, Some, None, sym, ap, subst, arith}
use Rattle.std.specs.Option.{option_map}
use Rattle.p2c_text.specs.declared.dialect.Dialect.{Dialect}
use Rattle.p2c_text.specs.declared.place.Span.{Span}
use Rattle.dialect_lexer.specs.declared.token.Word.TheVariants as word_
use Rattle.dialect_lexer.specs.declared.token.Symbol.TheVariants as mark
use Rattle.pascal_tree.specs.declared.names.Identifier.{Identifier}
use Rattle.pascal_tree.specs.declared.statements.Stmt.{Stmt}
use Rattle.pascal_tree.specs.declared.declarations.LabelPart.{LabelPart}
use Rattle.pascal_tree.specs.declared.declarations.ConstDefinition.{ConstDefinition}
use Rattle.pascal_tree.specs.declared.declarations.ConstPart.{ConstPart}
use Rattle.pascal_tree.specs.declared.declarations.TypeDefinition.{TypeDefinition}
use Rattle.pascal_tree.specs.declared.declarations.TypePart.{TypePart}
use Rattle.pascal_tree.specs.declared.declarations.VarSection.{VarSection}
use Rattle.pascal_tree.specs.declared.declarations.VarPart.{VarPart}
use Rattle.pascal_tree.specs.declared.declarations.Value.{Value}
use Rattle.pascal_tree.specs.declared.declarations.Value.TheVariants as value
use Rattle.pascal_tree.specs.declared.declarations.Heading.{Heading}
use Rattle.pascal_tree.specs.declared.declarations.Heading.TheVariants as heading
use Rattle.pascal_tree.specs.declared.declarations.Declaration.TheOpen as part
use Rattle.pascal_tree.specs.declared.declarations.Declaration.TheOpen.{Declaration-F, RoutineBody-F, Block-F, Routine-F}
use Rattle.pascal_tree.specs.declared.declarations.Declaration.{Declaration, roll-Declaration, map-Declaration, fold-roll-Declaration, ind-Declaration}
use Rattle.pascal_tree.specs.declared.declarations.RoutineBody.{RoutineBody, roll-RoutineBody, map-RoutineBody, fold-roll-RoutineBody}
use Rattle.pascal_tree.specs.declared.declarations.Block.{Block, roll-Block, map-Block, fold-roll-Block, ind-Block}
use Rattle.pascal_tree.specs.declared.declarations.Routine.{Routine, roll-Routine, map-Routine, fold-roll-Routine}
use Rattle.pascal_tree.specs.declared.files.Head.{Head}
use Rattle.pascal_tree.specs.declared.files.Uses.{Uses}
use Rattle.pascal_tree.specs.declared.files.Program.{Program}
use Rattle.pascal_tree.specs.declared.files.UnitNode.{UnitNode}
use Rattle.pascal_tree.specs.declared.files.Module.{Module}
use Rattle.pascal_tree.specs.declared.files.Public.{Public}
use Rattle.pascal_tree.specs.declared.files.Public.TheVariants as item
use Rattle.pascal_tree.specs.declared.files.SourceFile.{SourceFile}
use Rattle.pascal_tree.specs.declared.files.SourceFile.TheVariants as text
use Rattle.pascal_tree.specs.BlockHeights as heights
use Rattle.pascal_tree.specs.BlockHeights.{value_height, definition_height, constants_height, type_definition_height, types_height, section_height, variables_height, heading_height, declarations_height, declaration_height, body_height, block_height, routine_height}
use Rattle.pascal_tree.specs.Height.{public_height, initial_height, height}
use Rattle.expr_parser.specs.Tokens.{Placed, plain}
use Rattle.expr_parser.specs.Layout.{Layout, Done, ◌&◌, word, symbol, tokens_of, height_of, in_row, with_commas}
use Rattle.expr_parser.specs.Semicolons.{optional_part}
use Rattle.expr_parser.specs.ConstantNodes.{write_label}
use Rattle.expr_parser.proofs.Layouts.{height_join}
use Rattle.expr_parser.proofs.Heights.{HasHeight, Known, with_parts, nodes, row_height, row_levels, commas_flat, label_flat, constant_flat, expr_levels}
use Rattle.type_parser.specs.Writing.{write_names, write_type_name, write_type, write_formals}
use Rattle.type_parser.proofs.Heights.{names_flat, type_name_flat, type_levels, formals_levels}
use Rattle.stmt_parser.proofs.Heights.{stmts_levels}
use Rattle.unit_parser.specs.Writing as writing
use Rattle.unit_parser.specs.Writing.{write_labels, write_value, write_const_definition, write_constants, write_type_definition, write_types, write_var_section, write_variables, write_heading, write_stmts, write_declaration, write_body, write_block, write_routine, optional_parameters, write_head, optional_uses, write_program, write_public, optional_initial, write_implementation, write_unit, write_module, write_file}
use Rattle.unit_parser.specs.Grammar.{IsFile}
use Rattle.unit_parser.specs.Text.{Derives, NoFlatText}

-- ---- parts

labels_flat : (p : LabelPart) → height_of (write_labels p) ≡ 0
labels_flat p = omega (arith, height_join (with_commas (map write_label p.labels)) (symbol mark.Semicolon), commas_flat write_label label_flat p.labels)

value_levels : (v : Value) → height_of (write_value v) ≡ value_height v
value_levels (value.Constant constant) = constant_flat constant
value_levels (value.Expression expr) = expr_levels expr

definition_levels : (x : ConstDefinition) → height_of (write_const_definition x) ≡ definition_height x
definition_levels x = omega (arith, height_join (write_value x.value) (symbol mark.Semicolon), value_levels x.value)

constants_levels : (p : ConstPart) → height_of (write_constants p) ≡ constants_height p
constants_levels p = omega (arith, row_levels write_const_definition definition_height definition_levels p.definitions)

type_definition_levels : (x : TypeDefinition) → height_of (write_type_definition x) ≡ type_definition_height x
type_definition_levels x = omega (arith, height_join (write_type x.of) (symbol mark.Semicolon), type_levels x.of)

types_levels : (p : TypePart) → height_of (write_types p) ≡ types_height p
types_levels p = omega (arith, row_levels write_type_definition type_definition_height type_definition_levels p.definitions)

section_levels : (x : VarSection) → height_of (write_var_section x) ≡ section_height x
section_levels x =
    omega (arith, height_join (write_names x.names) (symbol mark.Colon & write_type x.of & symbol mark.Semicolon), names_flat x.names, height_join (write_type x.of) (symbol mark.Semicolon), type_levels x.of)

variables_levels : (p : VarPart) → height_of (write_variables p) ≡ variables_height p
variables_levels p = omega (arith, row_levels write_var_section section_height section_levels p.sections)

heading_levels : (h : Heading) → height_of (write_heading h) ≡ heading_height h
heading_levels (heading.Procedure name None span) = omega arith
heading_levels (heading.Procedure name (Some formals) span) = omega (arith, formals_levels formals)
heading_levels (heading.Function name None None span) = omega arith
heading_levels (heading.Function name None (Some result) span) = omega (arith, type_name_flat result)
heading_levels (heading.Function name (Some formals) None span) = omega (arith, height_join (write_formals formals) Done, formals_levels formals)
heading_levels (heading.Function name (Some formals) (Some result) span) =
    omega (arith, height_join (write_formals formals) (symbol mark.Colon & write_type_name result), formals_levels formals, type_name_flat result)

module _ (d : Dialect) where
  -- ---- nodes of which the heights of the parts are known

  abbrev Known-Declaration : Type 0
  Known-Declaration = Known (write_declaration d) declaration_height

  abbrev Known-RoutineBody : Type 0
  Known-RoutineBody = Known (write_body d) body_height

  abbrev Known-Block : Type 0
  Known-Block = Known (write_block d) block_height

  abbrev Known-Routine : Type 0
  Known-Routine = Known (write_routine d) routine_height

  abbrev WithKnown : (Type 0 → Type 0 → Type 0 → Type 0 → Type 0) → Type 0
  WithKnown F = F Known-Declaration Known-RoutineBody Known-Block Known-Routine

  abbrev WithNodes : (Type 0 → Type 0 → Type 0 → Type 0 → Type 0) → Type 0
  WithNodes F = F Declaration RoutineBody Block Routine

  abbrev bare_declaration : WithKnown Declaration-F → WithNodes Declaration-F
  bare_declaration y = map-Declaration Known-Declaration Known-RoutineBody Known-Block Known-Routine Declaration RoutineBody Block Routine (λ x. x.0) (λ x. x.0) (λ x. x.0) (λ x. x.0) y

  abbrev bare_body : WithKnown RoutineBody-F → WithNodes RoutineBody-F
  bare_body y = map-RoutineBody Known-Declaration Known-RoutineBody Known-Block Known-Routine Declaration RoutineBody Block Routine (λ x. x.0) (λ x. x.0) (λ x. x.0) (λ x. x.0) y

  abbrev bare_block : WithKnown Block-F → WithNodes Block-F
  bare_block y = map-Block Known-Declaration Known-RoutineBody Known-Block Known-Routine Declaration RoutineBody Block Routine (λ x. x.0) (λ x. x.0) (λ x. x.0) (λ x. x.0) y

  abbrev bare_routine : WithKnown Routine-F → WithNodes Routine-F
  bare_routine y = map-Routine Known-Declaration Known-RoutineBody Known-Block Known-Routine Declaration RoutineBody Block Routine (λ x. x.0) (λ x. x.0) (λ x. x.0) (λ x. x.0) y

  -- ---- what is written of a node by its parts has the height that it has by its parts

  abbrev Meets-Declaration : WithKnown Declaration-F → Type 0
  Meets-Declaration y = height_of (writing.of_declaration (map-Declaration Declaration RoutineBody Block Routine Layout Layout Layout Layout (write_declaration d) (write_body d) (write_block d) (write_routine d) (bare_declaration y))) ≡ heights.of_declaration (map-Declaration Declaration RoutineBody Block Routine ℕ ℕ ℕ ℕ declaration_height body_height block_height routine_height (bare_declaration y))

  abbrev Meets-RoutineBody : WithKnown RoutineBody-F → Type 0
  Meets-RoutineBody y = height_of (writing.of_body (map-RoutineBody Declaration RoutineBody Block Routine Layout Layout Layout Layout (write_declaration d) (write_body d) (write_block d) (write_routine d) (bare_body y))) ≡ heights.of_body (map-RoutineBody Declaration RoutineBody Block Routine ℕ ℕ ℕ ℕ declaration_height body_height block_height routine_height (bare_body y))

  abbrev Meets-Block : WithKnown Block-F → Type 0
  Meets-Block y = height_of ((writing.of_block d) (map-Block Declaration RoutineBody Block Routine Layout Layout Layout Layout (write_declaration d) (write_body d) (write_block d) (write_routine d) (bare_block y))) ≡ heights.of_block (map-Block Declaration RoutineBody Block Routine ℕ ℕ ℕ ℕ declaration_height body_height block_height routine_height (bare_block y))

  abbrev Meets-Routine : WithKnown Routine-F → Type 0
  Meets-Routine y = height_of (writing.of_routine (map-Routine Declaration RoutineBody Block Routine Layout Layout Layout Layout (write_declaration d) (write_body d) (write_block d) (write_routine d) (bare_routine y))) ≡ heights.of_routine (map-Routine Declaration RoutineBody Block Routine ℕ ℕ ℕ ℕ declaration_height body_height block_height routine_height (bare_routine y))

  meets_declaration : (y : WithKnown Declaration-F) → Meets-Declaration y
  meets_declaration (part.Labels labels) = labels_flat labels
  meets_declaration (part.Constants constants) = constants_levels constants
  meets_declaration (part.Types types) = types_levels types
  meets_declaration (part.Variables variables) = variables_levels variables
  meets_declaration (part.Routine routine) = routine.1

  meets_body : (y : WithKnown RoutineBody-F) → Meets-RoutineBody y
  meets_body (part.Block block) = block.1
  meets_body (part.Directive name) = omega arith

  meets_block : (y : WithKnown Block-F) → Meets-Block y
  meets_block y =
      let rows = in_row (map (write_declaration d) (nodes (write_declaration d) declaration_height y.declarations)) in
      omega (arith, height_join rows (word word_.KwBegin & write_stmts d y.body & word word_.KwEnd), row_height (write_declaration d) declaration_height y.declarations, height_join (write_stmts d y.body) (word word_.KwEnd), stmts_levels d y.body)

  meets_routine : (y : WithKnown Routine-F) → Meets-Routine y
  meets_routine y =
      omega (arith, height_join (write_heading y.heading) (symbol mark.Semicolon & write_body d y.body.0 & symbol mark.Semicolon), heading_levels y.heading, height_join (write_body d y.body.0) (symbol mark.Semicolon), y.body.1)

  -- ---- so it has the height of the node

  step_declaration : (x : WithNodes Declaration-F) (y : WithKnown Declaration-F) → bare_declaration y ≡ x → HasHeight (write_declaration d) declaration_height (roll-Declaration x)
  unfolding write_declaration write_body write_block write_routine declaration_height body_height block_height routine_height
  step_declaration x y is = subst (λ z. HasHeight (write_declaration d) declaration_height (roll-Declaration z)) is (with_parts (ap (λ l. height_of l) (fold-roll-Declaration Layout Layout Layout Layout writing.of_declaration writing.of_body (writing.of_block d) writing.of_routine (bare_declaration y))) (fold-roll-Declaration ℕ ℕ ℕ ℕ heights.of_declaration heights.of_body heights.of_block heights.of_routine (bare_declaration y)) (meets_declaration y))

  step_body : (x : WithNodes RoutineBody-F) (y : WithKnown RoutineBody-F) → bare_body y ≡ x → HasHeight (write_body d) body_height (roll-RoutineBody x)
  unfolding write_declaration write_body write_block write_routine declaration_height body_height block_height routine_height
  step_body x y is = subst (λ z. HasHeight (write_body d) body_height (roll-RoutineBody z)) is (with_parts (ap (λ l. height_of l) (fold-roll-RoutineBody Layout Layout Layout Layout writing.of_declaration writing.of_body (writing.of_block d) writing.of_routine (bare_body y))) (fold-roll-RoutineBody ℕ ℕ ℕ ℕ heights.of_declaration heights.of_body heights.of_block heights.of_routine (bare_body y)) (meets_body y))

  step_block : (x : WithNodes Block-F) (y : WithKnown Block-F) → bare_block y ≡ x → HasHeight (write_block d) block_height (roll-Block x)
  unfolding write_declaration write_body write_block write_routine declaration_height body_height block_height routine_height
  step_block x y is = subst (λ z. HasHeight (write_block d) block_height (roll-Block z)) is (with_parts (ap (λ l. height_of l) (fold-roll-Block Layout Layout Layout Layout writing.of_declaration writing.of_body (writing.of_block d) writing.of_routine (bare_block y))) (fold-roll-Block ℕ ℕ ℕ ℕ heights.of_declaration heights.of_body heights.of_block heights.of_routine (bare_block y)) (meets_block y))

  step_routine : (x : WithNodes Routine-F) (y : WithKnown Routine-F) → bare_routine y ≡ x → HasHeight (write_routine d) routine_height (roll-Routine x)
  unfolding write_declaration write_body write_block write_routine declaration_height body_height block_height routine_height
  step_routine x y is = subst (λ z. HasHeight (write_routine d) routine_height (roll-Routine z)) is (with_parts (ap (λ l. height_of l) (fold-roll-Routine Layout Layout Layout Layout writing.of_declaration writing.of_body (writing.of_block d) writing.of_routine (bare_routine y))) (fold-roll-Routine ℕ ℕ ℕ ℕ heights.of_declaration heights.of_body heights.of_block heights.of_routine (bare_routine y)) (meets_routine y))

  pub declaration_levels : (x : Declaration) → height_of (write_declaration d x) ≡ declaration_height x
  declaration_levels = ind-Declaration (HasHeight (write_declaration d) declaration_height) (HasHeight (write_body d) body_height) (HasHeight (write_block d) block_height) (HasHeight (write_routine d) routine_height) step_declaration step_body step_block step_routine

  pub block_levels : (x : Block) → height_of (write_block d x) ≡ block_height x
  block_levels = ind-Block (HasHeight (write_declaration d) declaration_height) (HasHeight (write_body d) body_height) (HasHeight (write_block d) block_height) (HasHeight (write_routine d) routine_height) step_declaration step_body step_block step_routine

  -- ---- whole texts

  uses_flat : (u : Option Uses) → height_of (optional_uses d u) ≡ 0
  uses_flat None = omega arith
  uses_flat (Some u) = omega (arith, height_join (write_names u.names) (symbol mark.Semicolon), names_flat u.names)

  parameters_flat : (p : Option (List Identifier)) → height_of (optional_parameters p) ≡ 0
  parameters_flat None = omega arith
  parameters_flat (Some names) = omega (arith, height_join (write_names names) (symbol mark.Close), names_flat names)

  head_flat : (h : Option Head) → height_of (optional_part (option_map write_head h)) ≡ 0
  head_flat None = omega arith
  head_flat (Some h) = omega (arith, height_join (optional_parameters h.parameters) (symbol mark.Semicolon), parameters_flat h.parameters)

  program_levels : (p : Program) → height_of (write_program d p) ≡ block_height p.block
  program_levels p =
      omega (arith, height_join (optional_part (option_map write_head p.head)) (optional_uses d p.uses & write_block d p.block & symbol mark.Dot), head_flat p.head, height_join (optional_uses d p.uses) (write_block d p.block & symbol mark.Dot), uses_flat p.uses, height_join (write_block d p.block) (symbol mark.Dot), block_levels p.block)

  public_levels : (p : Public) → height_of (write_public p) ≡ public_height p
  public_levels (item.Constants constants) = constants_levels constants
  public_levels (item.Types types) = types_levels types
  public_levels (item.Variables variables) = variables_levels variables
  public_levels (item.Heading heading span) = omega (arith, height_join (write_heading heading) (symbol mark.Semicolon), heading_levels heading)

  initial_levels : (i : Option (List Stmt)) → height_of (optional_initial d i) ≡ initial_height i
  initial_levels None = omega arith
  initial_levels (Some all) = omega (arith, stmts_levels d all)

  implementation_levels : (u : Option Uses) (all : List Declaration) → height_of (write_implementation d u all) ≡ declarations_height all
  implementation_levels u all =
      omega (arith, height_join (optional_uses d u) (in_row (map (write_declaration d) all)), uses_flat u, row_levels (write_declaration d) declaration_height declaration_levels all)

  unit_levels : (u : UnitNode) → height_of (write_unit d u) ≡ height (text.UnitText u)
  unit_levels u =
      let inside = write_implementation d u.implementation_uses u.declarations in
      let end = optional_initial d u.initial & word word_.KwEnd & symbol mark.Dot in
      omega (arith, height_join (optional_uses d u.interface_uses) (in_row (map write_public u.publics) & word word_.KwImplementation & inside & end), uses_flat u.interface_uses, height_join (in_row (map write_public u.publics)) (word word_.KwImplementation & inside & end), row_levels write_public public_height public_levels u.publics, height_join inside end, implementation_levels u.implementation_uses u.declarations, height_join (optional_initial d u.initial) (word word_.KwEnd & symbol mark.Dot), initial_levels u.initial)

  module_levels : (m : Module) → height_of (write_module d m) ≡ height (text.Module m)
  module_levels m =
      let inside = write_implementation d m.implementation_uses m.declarations in
      let end = word word_.KwEnd & symbol mark.Dot in
      omega (arith, height_join (optional_uses d m.interface_uses) (word word_.KwExport & in_row (map write_public m.publics) & word word_.KwImplement & inside & end), uses_flat m.interface_uses, height_join (in_row (map write_public m.publics)) (word word_.KwImplement & inside & end), row_levels write_public public_height public_levels m.publics, height_join inside end, implementation_levels m.implementation_uses m.declarations)

  -- the levels of a text are its height
  pub file_levels : (f : SourceFile) → height_of (write_file d f) ≡ height f
  file_levels (text.Program program) = program_levels program
  file_levels (text.UnitText u) = unit_levels u
  file_levels (text.Module m) = module_levels m

  -- a tree that is read is at most 400 high
  pub derived_is_low : (end : Span) (f : SourceFile) (tokens : List Placed) → Derives d end f tokens → height f ≤ 400
  derived_is_low end f tokens h = subst (λ n. n ≤ 400) (file_levels f) h.fits

  -- where no text has so few levels, the trees of the tokens are higher
  pub none_is_low : (n : ℕ) (tokens : List Placed) → NoFlatText d n tokens → (f : SourceFile) → IsFile d f → tokens_of (write_file d f) ≡ plain tokens → height f ≤ n → ⊥
  none_is_low n tokens none f is spelled low = none f is spelled (subst (λ m. m ≤ n) (sym (file_levels f)) low)
