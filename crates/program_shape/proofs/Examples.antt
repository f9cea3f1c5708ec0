-- Worked examples of operations, outlines and C programs.
use Rattle.std.proofs.Common.{◌≡◌, ℕ, ◌+◌, Bool, true, false, List, [], ◌∷◌, ◌++◌, Option, Some, None, refl}
use Rattle.std.specs.Prelude.{pos, negsuc, codes, map}
use Rattle.std.specs.List.{list_any}
use Rattle.std.specs.Fmt.{digits}
use Rattle.p2c_text.specs.declared.dialect.Dialect.{Dialect}
use Rattle.p2c_text.specs.declared.dialect.Dialect.TheVariants.{Iso, Turbo, Ucsd, Hp}
use Rattle.typed_tree.specs.declared.types.Types.{Types}
use Rattle.typed_tree.specs.declared.types.PasType.{PasType}
use Rattle.typed_tree.specs.declared.types.PasType.TheVariants.{Array, DynString, RecordOf}
use Rattle.typed_tree.specs.declared.declarations.Typed.{Typed}
use Rattle.typed_tree.specs.declared.declarations.Owner.TheVariants.{Program, Routine as RoutineOwner}
use Rattle.typed_tree.specs.declared.expressions.Selector.TheVariants.{Index, Field}
use Rattle.typed_tree.specs.declared.operations.BinaryOp.TheVariants as op
use Rattle.typed_tree.specs.declared.operations.UnaryOp.TheVariants as un
use Rattle.typed_tree.specs.declared.operations.PredefCall.TheVariants as call
use Rattle.typed_tree.specs.declared.statements.TypedStmt as S
use Rattle.typed_tree.specs.declared.statements.TypedStmt.{TypedStmt}
use Rattle.pascal_meaning.specs.declared.operations.Primitive.{Primitive}
use Rattle.pascal_meaning.specs.declared.operations.Primitive.TheVariants as p
use Rattle.pascal_meaning.proofs.Examples.Build.{integer, small, char, boolean, own, known_types, range, label_of, field, arm, variant_part, num, letter, truth, unary, chain, read, variable, shown, wide, assign_to, while, repeat_until, for_of, case_of, case_else, labelled, perform, of_type, section, procedure, whole as program}
use Rattle.c_tree.specs.Tree.{Statement as CStatement, Call, While, Goto, Label, Empty, Then, Read, Variable, Int}
use Rattle.c_tree.specs.declared.program.CMember.{CMember}
use Rattle.c_tree.specs.declared.program.CDeclaration.TheVariants.{Struct}
use Rattle.c_tree.specs.declared.statement.CCallee.TheVariants.{Direct}
use Rattle.program_shape.specs.Outlines.{BodyOutline, RoutineOutline}
use Rattle.program_shape.specs.Functions.{whiles, statement_whiles, body_whiles, jumps, statement_jumps, body_jumps, Lands, Leaps, sites, statement_sites, body_sites, first_of}
use Rattle.program_shape.specs.Shape.{c_name, captured_only}
use Rattle.typed_tree.specs.Ranges.{type_at, range_of, Range, host_of, Hosted}
use Rattle.typed_tree.specs.Fields.{as_variable, part_fields, arms_fields, arm_fields, inner_fields, variant, variants_of, choice, has_field, deeper, around_part, around_arms, around_arm, around_inner, tag_in_part, tag_in_arms, tag_in_inner, optional_fields, record_fields, or_none, variants_around, tag_choice}
use Rattle.program_shape.specs.Nodes.{number_of, negated, constant, lies_in, is_settled, is_positive, has_named_tag, is_turbo, is_string, reads, is_read_through, selections, from_root, inside, index_inside, chosen, parts, elements, argument, arguments, operand, operands, width, whole, choice as nodes_choice, place, of_each, with_part, nodes, all_nodes, arms, otherwise}
use Rattle.program_shape.specs.Uses.{is_set, is_text, range_uses, store_uses, pass_uses, string_uses, on_sets, comparison, operator_uses, unary_uses, parts_uses, elements_uses, is_wide, given, all_given, joins, concat_uses, function_uses, write_uses, read_uses, status_uses, call_uses, expression_uses, unmatched_uses, statement_uses, variant_uses, index_uses, selector_uses, root_uses, uses}
use Rattle.program_shape.specs.Raises.{is_inside, reach, fits, store_raises_by, store_raises, are_strings, operator_raises, parts_raise, sign_raises, members_raise, any_string, function_raises, width_raises, written_raise, is_some, call_raises, expression_raises, unmatched_raises, statement_raises, has_hidden_tag, selector_raises, root_raises, raises}
use Rattle.program_shape.specs.OfTyped.{has_number, loops_in, has_label, body_outline, section_names, result_names, own_names, callee_names, root_names, names, all_names, routine_nodes, named_elsewhere, among_numbers, captured, names_other, statement_leaves, leaves, routine_outline, bodies_nodes, routines_nodes, main_nodes, all_uses, outline_of}
use Rattle.pascal_meaning.specs.Places.{root_type, base_range}
use Rattle.pascal_meaning.specs.Meaning.{type_after, place_type, expr_type, parts_type}

abbrev types_in : Dialect → List PasType → Types
types_in d ts = record { dialect = d; list = known_types ++ ts }

-- whether an operation of the statement raises
unfoldable raising : Dialect → List PasType → TypedStmt → Bool
unfolding type_at range_of Range host_of Hosted as_variable part_fields arms_fields arm_fields inner_fields variant variants_of choice has_field deeper around_part around_arms around_arm around_inner tag_in_part tag_in_arms tag_in_inner optional_fields record_fields or_none variants_around tag_choice number_of negated constant lies_in is_settled is_positive has_named_tag is_turbo is_string reads is_read_through selections from_root inside index_inside chosen parts elements argument arguments operand operands width whole nodes_choice place of_each with_part nodes all_nodes arms otherwise is_set is_text range_uses store_uses pass_uses string_uses on_sets comparison operator_uses unary_uses parts_uses elements_uses is_wide given all_given joins concat_uses function_uses write_uses read_uses status_uses call_uses expression_uses unmatched_uses statement_uses variant_uses index_uses selector_uses root_uses uses is_inside reach fits store_raises_by store_raises are_strings operator_raises parts_raise sign_raises members_raise any_string function_raises width_raises written_raise is_some call_raises expression_raises unmatched_raises statement_raises has_hidden_tag selector_raises root_raises raises has_number loops_in has_label body_outline section_names result_names own_names callee_names root_names names all_names routine_nodes named_elsewhere among_numbers captured names_other statement_leaves leaves routine_outline bodies_nodes routines_nodes main_nodes all_uses outline_of root_type base_range type_after place_type expr_type parts_type
raising d ts s = list_any (raises (types_in d ts)) (nodes (types_in d ts) s)

-- the primitives that operations of the statement use
unfoldable using : Dialect → List PasType → TypedStmt → List Primitive
unfolding type_at range_of Range host_of Hosted as_variable part_fields arms_fields arm_fields inner_fields variant variants_of choice has_field deeper around_part around_arms around_arm around_inner tag_in_part tag_in_arms tag_in_inner optional_fields record_fields or_none variants_around tag_choice number_of negated constant lies_in is_settled is_positive has_named_tag is_turbo is_string reads is_read_through selections from_root inside index_inside chosen parts elements argument arguments operand operands width whole nodes_choice place of_each with_part nodes all_nodes arms otherwise is_set is_text range_uses store_uses pass_uses string_uses on_sets comparison operator_uses unary_uses parts_uses elements_uses is_wide given all_given joins concat_uses function_uses write_uses read_uses status_uses call_uses expression_uses unmatched_uses statement_uses variant_uses index_uses selector_uses root_uses uses is_inside reach fits store_raises_by store_raises are_strings operator_raises parts_raise sign_raises members_raise any_string function_raises width_raises written_raise is_some call_raises expression_raises unmatched_raises statement_raises has_hidden_tag selector_raises root_raises raises has_number loops_in has_label body_outline section_names result_names own_names callee_names root_names names all_names routine_nodes named_elsewhere among_numbers captured names_other statement_leaves leaves routine_outline bodies_nodes routines_nodes main_nodes all_uses outline_of root_type base_range type_after place_type expr_type parts_type
using d ts s = all_uses (types_in d ts) (nodes (types_in d ts) s)

-- the C names of variables: a, b and so on
abbrev letter_of : ℕ → List ℕ
letter_of d = (96 + d) ∷ []

unfoldable outlined : Typed → List RoutineOutline × BodyOutline
unfolding type_at range_of Range host_of Hosted as_variable part_fields arms_fields arm_fields inner_fields variant variants_of choice has_field deeper around_part around_arms around_arm around_inner tag_in_part tag_in_arms tag_in_inner optional_fields record_fields or_none variants_around tag_choice number_of negated constant lies_in is_settled is_positive has_named_tag is_turbo is_string reads is_read_through selections from_root inside index_inside chosen parts elements argument arguments operand operands width whole nodes_choice place of_each with_part nodes all_nodes arms otherwise is_set is_text range_uses store_uses pass_uses string_uses on_sets comparison operator_uses unary_uses parts_uses elements_uses is_wide given all_given joins concat_uses function_uses write_uses read_uses status_uses call_uses expression_uses unmatched_uses statement_uses variant_uses index_uses selector_uses root_uses uses is_inside reach fits store_raises_by store_raises are_strings operator_raises parts_raise sign_raises members_raise any_string function_raises width_raises written_raise is_some call_raises expression_raises unmatched_raises statement_raises has_hidden_tag selector_raises root_raises raises has_number loops_in has_label body_outline section_names result_names own_names callee_names root_names names all_names routine_nodes named_elsewhere among_numbers captured names_other statement_leaves leaves routine_outline bodies_nodes routines_nodes main_nodes all_uses outline_of root_type base_range type_after place_type expr_type parts_type
outlined t = let o = outline_of letter_of t in (o.routines, o.main)

-- ---- what raises

-- i := 5
a_constant_inside_the_range_is_stored_without_a_check : raising Iso [] (assign_to integer (variable 1 integer) [] (num 5)) ≡ false
unfolding raising
a_constant_inside_the_range_is_stored_without_a_check = refl

-- i := -5
its_sign_raises_nothing : raising Iso [] (assign_to integer (variable 1 integer) [] (unary integer un.Minus (num 5))) ≡ false
unfolding raising
its_sign_raises_nothing = refl

-- i := -j
a_computed_sign_raises : raising Iso [] (assign_to integer (variable 1 integer) [] (unary integer un.Minus (read (variable 2 integer) []))) ≡ true
unfolding raising
a_computed_sign_raises = refl

-- i := 40000, where integer ends at 32767
a_constant_outside_the_range_raises : raising Turbo [] (assign_to small (variable 1 small) [] (num 40000)) ≡ true
unfolding raising
a_constant_outside_the_range_raises = refl

-- i := j
a_variable_of_the_same_range_raises_nothing : raising Ucsd [] (assign_to small (variable 1 small) [] (read (variable 2 small) [])) ≡ false
unfolding raising
a_variable_of_the_same_range_raises_nothing = refl

-- var d: 0..9; d := i
a_variable_of_a_wider_range_raises : raising Iso (range (pos 0) (pos 9) ∷ []) (assign_to own (variable 1 own) [] (read (variable 2 integer) [])) ≡ true
unfolding raising
a_variable_of_a_wider_range_raises = refl

-- write('x':0)
a_width_below_one_raises_but_in_turbo : (raising Iso [] (perform call.Write (wide (letter 120) (num 0) ∷ [])) ≡ true) × (raising Turbo [] (perform call.Write (wide (letter 120) (num 0) ∷ [])) ≡ false)
unfolding raising
a_width_below_one_raises_but_in_turbo = (refl, refl)

-- write('x':3)
a_constant_width_raises_nothing : raising Hp [] (perform call.Write (wide (letter 120) (num 3) ∷ [])) ≡ false
unfolding raising
a_constant_width_raises_nothing = refl

-- case i of 1: end
a_case_without_a_rest_raises_in_iso_and_hp : (raising Iso [] (case_of (read (variable 1 integer) []) ((label_of (pos 1) ∷ [], S.Empty) ∷ [])) ≡ true) × (raising Hp [] (case_of (read (variable 1 integer) []) ((label_of (pos 1) ∷ [], S.Empty) ∷ [])) ≡ true)
    × (raising Turbo [] (case_of (read (variable 1 integer) []) ((label_of (pos 1) ∷ [], S.Empty) ∷ [])) ≡ false) × (raising Ucsd [] (case_of (read (variable 1 integer) []) ((label_of (pos 1) ∷ [], S.Empty) ∷ [])) ≡ false)
unfolding raising
a_case_without_a_rest_raises_in_iso_and_hp = (refl, refl, refl, refl)

-- case i of 1: otherwise end
a_case_with_a_rest_raises_nothing : raising Hp [] (case_else (read (variable 1 integer) []) ((label_of (pos 1) ∷ [], S.Empty) ∷ []) S.Empty) ≡ false
unfolding raising
a_case_with_a_rest_raises_nothing = refl

-- for i := 1 to 10 do
constant_limits_raise_nothing : raising Iso [] (for_of integer 1 false (num 1) (num 10) S.Empty) ≡ false
unfolding raising
constant_limits_raise_nothing = refl

-- for i := 1 to j + 1 do
a_computed_limit_raises : raising Iso [] (for_of integer 1 false (num 1) (chain (read (variable 2 integer) []) ((op.Add, num 1, integer) ∷ [])) S.Empty) ≡ true
unfolding raising
a_computed_limit_raises = refl

-- s := 'x'
a_store_into_a_string_raises : raising Turbo (DynString 5 ∷ []) (assign_to own (variable 1 own) [] (letter 120)) ≡ true
unfolding raising
a_store_into_a_string_raises = refl

-- var a: array [1..3] of char; a[1] := 'x'
an_index_raises : raising Iso (range (pos 1) (pos 3) ∷ Array false own char ∷ []) (assign_to char (variable 1 6) (Index (num 1) 6 char ∷ []) (letter 120)) ≡ true
unfolding raising
an_index_raises = refl

-- readln
the_end_of_the_input_raises_but_in_turbo : (raising Ucsd [] (perform call.Readln []) ≡ true) × (raising Turbo [] (perform call.Readln []) ≡ false)
unfolding raising
the_end_of_the_input_raises_but_in_turbo = (refl, refl)

-- record case t: Boolean of true: (a: char) end, and the same with a hidden tag
abbrev variant_record : Option (List ℕ) → PasType
variant_record name = RecordOf false [] (Some (variant_part 20 name boolean (arm (label_of (pos 1) ∷ []) (field 21 char ∷ []) None ∷ [])))

-- r.a := 'x'
a_named_tag_raises_and_a_hidden_one_is_set : (raising Iso (variant_record (Some (codes "t")) ∷ []) (assign_to char (variable 1 own) (Field 21 char ∷ []) (letter 120)) ≡ true)
    × (raising Iso (variant_record None ∷ []) (assign_to char (variable 1 own) (Field 21 char ∷ []) (letter 120)) ≡ false)
unfolding raising
a_named_tag_raises_and_a_hidden_one_is_set = (refl, refl)

-- c := r.a
a_hidden_tag_raises_where_the_field_is_read : raising Iso (variant_record None ∷ []) (assign_to char (variable 1 char) [] (read (variable 2 own) (Field 21 char ∷ []))) ≡ true
unfolding raising
a_hidden_tag_raises_where_the_field_is_read = refl

-- ---- which primitives are used

-- i := i + 1
a_sum_and_the_range_of_its_target : using Iso [] (assign_to integer (variable 1 integer) [] (chain (read (variable 1 integer) []) ((op.Add, num 1, integer) ∷ []))) ≡ p.Range (negsuc 2147483647) (pos 2147483647) ∷ p.Add ∷ []
unfolding using
a_sum_and_the_range_of_its_target = refl

-- writeln(i, 'x':3)
each_value_that_is_written : using Iso [] (perform call.Writeln (shown (read (variable 1 integer) []) ∷ wide (letter 120) (num 3) ∷ [])) ≡ p.Write integer false ∷ p.Write char true ∷ p.Writeln ∷ []
unfolding using
each_value_that_is_written = refl

-- r.a := 'x'
the_variant_of_a_field : using Iso (variant_record None ∷ []) (assign_to char (variable 1 own) (Field 21 char ∷ []) (letter 120)) ≡ p.Range (pos 0) (pos 255) ∷ p.Selected own 21 ∷ []
unfolding using
the_variant_of_a_field = refl

-- ---- outlines

-- procedure p(a: integer); var b: integer;
--   procedure q; begin b := a end;
-- begin repeat while true do 1: until true end;
abbrev nested : Typed
nested = program Iso [] (
    procedure 1 Program (section integer (1 ∷ []) ∷ []) (of_type integer 2 ∷ of_type integer 3 ∷ []) (9 ∷ []) (repeat_until (while (truth 1) (labelled 9 S.Empty) ∷ []) (truth 1) ∷ [])
    ∷ procedure 2 (RoutineOwner 1) [] [] [] (assign_to integer (variable 2 integer) [] (read (variable 1 integer) []) ∷ [])
    ∷ []) [] [] [] []

loops_labels_and_captured_names : outlined nested ≡ (
  (record { name = []; number = 1; captured = 1 ∷ 2 ∷ []; body = record { loops = 2; labelled = true } }
      ∷ record { name = []; number = 2; captured = []; body = record { loops = 0; labelled = false } } ∷ []),
  record { loops = 0; labelled = false },
)
unfolding outlined
loops_labels_and_captured_names = refl

-- ---- structs

abbrev members : List (List ℕ) → List CMember
members = map (λ n. record { name = n; of = Int; length = None })

-- the two procedures, and a struct with these members for the first of them
unfoldable held : (variable_name : ℕ → List ℕ) → List (List ℕ) → Bool
unfolding digits
held variable_name names = captured_only variable_name (outlined nested).0 (Struct (record { name = codes "_1"; members = members names }) ∷ [])

each_captured_variable_is_a_member : (held letter_of (codes "a" ∷ codes "b" ∷ []) ≡ true) × (held letter_of (codes "p2c_up" ∷ codes "b" ∷ codes "a" ∷ codes "p2c_identity" ∷ []) ≡ true)
unfolding held outlined
each_captured_variable_is_a_member = (refl, refl)

a_member_has_another_name : held letter_of (codes "a" ∷ codes "c" ∷ []) ≡ false
unfolding held outlined
a_member_has_another_name = refl

a_member_is_no_captured_variable : held letter_of (codes "a" ∷ codes "b" ∷ codes "c" ∷ []) ≡ false
unfolding held outlined
a_member_is_no_captured_variable = refl

a_member_stands_twice : (held letter_of (codes "a" ∷ codes "b" ∷ codes "b" ∷ []) ≡ false) × (held letter_of (codes "a" ∷ codes "b" ∷ codes "p2c_up" ∷ codes "p2c_up" ∷ []) ≡ false)
unfolding held outlined
a_member_stands_twice = (refl, refl)

a_captured_variable_is_no_member : held letter_of (codes "b" ∷ []) ≡ false
unfolding held outlined
a_captured_variable_is_no_member = refl

two_captured_variables_have_one_name : held (λ d. codes "a") (codes "a" ∷ []) ≡ false
unfolding held outlined
two_captured_variables_have_one_name = refl

-- ---- C programs

-- again: ; while (p2c_escape) { again_2(); goto again; }
abbrev turning : List CStatement
turning = Label (codes "again") ∷ While (Read (Variable (codes "p2c_escape"))) (Then (Call None (Direct (codes "again_2")) []) (Then (Goto (codes "again")) Empty)) ∷ []

loops_and_jumps : (whiles turning ≡ 1) × (jumps turning ≡ Lands (codes "again") ∷ Leaps (codes "again") ∷ [])
unfolding whiles statement_whiles body_whiles jumps statement_jumps body_jumps
loops_and_jumps = (refl, refl)

a_call_and_the_statement_after_it : sites turning ≡ record { callee = Direct (codes "again_2"); next = Some (Goto (codes "again")) } ∷ []
unfolding sites statement_sites body_sites first_of
a_call_and_the_statement_after_it = refl

the_name_of_a_routine : c_name (record { name = codes "place"; number = 12; captured = []; body = record { loops = 0; labelled = false } }) ≡ codes "place_12"
unfolding digits
the_name_of_a_routine = refl
