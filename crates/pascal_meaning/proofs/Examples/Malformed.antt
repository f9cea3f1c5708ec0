-- Trees that no elaboration makes.
use Rattle.std.proofs.Common.{◌≡◌, List, [], ◌∷◌, refl, false, None}
use Rattle.std.specs.Prelude.{codes, pos}
use Rattle.p2c_text.specs.declared.dialect.Dialect.TheVariants.{Iso, Turbo, Ucsd, Hp}
use Rattle.typed_tree.specs.declared.types.PasType.TheVariants.{Array, Pointer, RecordOf}
use Rattle.typed_tree.specs.declared.declarations.Callee.TheVariants.{Routine as CalleeRoutine, Formal}
use Rattle.typed_tree.specs.declared.declarations.Owner.TheVariants.{Program}
use Rattle.typed_tree.specs.declared.expressions.Root.TheVariants as root
use Rattle.typed_tree.specs.declared.expressions.Selector.TheVariants as selector
use Rattle.typed_tree.specs.declared.expressions.TypedExpr as X
use Rattle.typed_tree.specs.declared.expressions.TypedArg.TheVariants as arg
use Rattle.typed_tree.specs.declared.declarations.VarDecl.{VarDecl}
use Rattle.typed_tree.specs.declared.declarations.Routine.{Routine}
use Rattle.typed_tree.specs.declared.types.PasType.{PasType}
use Rattle.typed_tree.specs.declared.operations.BinaryOp.TheVariants as op
use Rattle.typed_tree.specs.declared.operations.UnaryOp.TheVariants as unary_op
use Rattle.typed_tree.specs.declared.operations.PredefCall.TheVariants as call
use Rattle.typed_tree.specs.declared.statements.TypedStmt as S
use Rattle.typed_tree.specs.declared.statements.TypedStmt.{TypedStmt}
use Rattle.meanings.specs.Values.{Whole}
use Rattle.meanings.specs.Worlds.{World}
use Rattle.meanings.specs.Outcomes.{Malformed, Exits}
use Rattle.meanings.specs.Code.{MalformedAfter, UndefinedAfter}
use Rattle.pascal_meaning.specs.declared.operations.Primitive.TheVariants as p
use Rattle.pascal_meaning.specs.Predefined.{Given}
use Rattle.pascal_meaning.specs.Whole.{run, perform_in}
use Rattle.pascal_meaning.proofs.Examples.Build.{integer, char, boolean, own, known_types, set_of, field, num, letter, quoted, unary, chain, read, variable, call, set, predefined, value_for, by_reference, shown, wide, assign_to, if_then, while, for_of, try, case_of, perform, of_type, section, section_var, section_procedures, procedure, whole, InEach}

-- the program with these types, routines and variables writes x, and then this statement is malformed, in each dialect
abbrev IsMalformed : List PasType → List Routine → List VarDecl → TypedStmt → Type 0
IsMalformed ts rs vs s = InEach (Iso ∷ Turbo ∷ Ucsd ∷ Hp ∷ []) (λ d. whole d ts rs [] vs [] (perform call.Write (shown (letter 120) ∷ []) ∷ s ∷ [])) [] 1 (MalformedAfter (codes "x") [])

-- ---- names of nothing

store_to_no_variable : IsMalformed [] [] [] (assign_to integer (variable 1 integer) [] (num 1))
unfolding run
store_to_no_variable = (refl, (refl, (refl, (refl, tt))))

read_of_no_variable : IsMalformed [] [] [] (perform call.Write (shown (read (variable 1 integer) []) ∷ []))
unfolding run
read_of_no_variable = (refl, (refl, (refl, (refl, tt))))

reference_to_no_variable : IsMalformed [] [] [] (perform call.Read (by_reference (variable 1 char) [] ∷ []))
unfolding run
reference_to_no_variable = (refl, (refl, (refl, (refl, tt))))

input_is_no_variable : IsMalformed [] [] [] (assign_to char root.Input [] (letter 97))
unfolding run
input_is_no_variable = (refl, (refl, (refl, (refl, tt))))

no_label : IsMalformed [] [] [] (S.Goto 5)
unfolding run
no_label = (refl, (refl, (refl, (refl, tt))))

no_field : IsMalformed (RecordOf false (field 1 integer ∷ []) None ∷ []) [] (of_type 5 2 ∷ []) (perform call.Write (shown (read (variable 2 5) (selector.Field 3 integer ∷ [])) ∷ []))
unfolding run
no_field = (refl, (refl, (refl, (refl, tt))))

-- ---- routines

no_routine : IsMalformed [] [] [] (S.Call (CalleeRoutine 7) [])
unfolding run
no_routine = (refl, (refl, (refl, (refl, tt))))

variable_that_is_called : IsMalformed [] [] (of_type integer 1 ∷ []) (S.Call (Formal 1) [])
unfolding run
variable_that_is_called = (refl, (refl, (refl, (refl, tt))))

-- procedure p(n: integer); begin end; begin write('x'); p end.
too_few_arguments : IsMalformed [] (procedure 1 Program (section integer (1 ∷ []) ∷ []) [] [] (S.Empty ∷ []) ∷ []) [] (S.Call (CalleeRoutine 1) [])
unfolding run
too_few_arguments = (refl, (refl, (refl, (refl, tt))))

-- procedure p; begin end; begin write('x'); p(1) end.
too_many_arguments : IsMalformed [] (procedure 1 Program [] [] [] (S.Empty ∷ []) ∷ []) [] (S.Call (CalleeRoutine 1) (value_for integer (num 1) ∷ []))
unfolding run
too_many_arguments = (refl, (refl, (refl, (refl, tt))))

written_argument : IsMalformed [] (procedure 1 Program (section integer (1 ∷ []) ∷ []) [] [] (S.Empty ∷ []) ∷ []) [] (S.Call (CalleeRoutine 1) (shown (num 1) ∷ []))
unfolding run
written_argument = (refl, (refl, (refl, (refl, tt))))

-- procedure p; begin end; begin write(p) end.
value_of_a_procedure : InEach (Iso ∷ Hp ∷ []) (λ d. whole d [] (procedure 1 Program [] [] [] (S.Empty ∷ []) ∷ []) [] [] [] (perform call.Write (shown (call (CalleeRoutine 1) [] char) ∷ []) ∷ [])) [] 1 (MalformedAfter [] (1 ∷ []))
unfolding run
value_of_a_procedure = (refl, (refl, tt))

-- procedure p; begin end; begin write('x'); exit(p) end.
exit_of_a_routine_that_does_not_enclose : IsMalformed [] (procedure 1 Program [] [] [] (S.Empty ∷ []) ∷ []) [] (perform call.ExitRoutine (arg.RoutineValue (CalleeRoutine 1) ∷ []))
unfolding run
exit_of_a_routine_that_does_not_enclose = (refl, (refl, (refl, (refl, tt))))

value_for_a_variable_parameter : IsMalformed [] (procedure 1 Program (section_var integer (1 ∷ []) ∷ []) [] [] (S.Empty ∷ []) ∷ []) [] (S.Call (CalleeRoutine 1) (value_for integer (num 1) ∷ []))
unfolding run
value_for_a_variable_parameter = (refl, (refl, (refl, (refl, tt))))

routine_for_a_value_parameter : IsMalformed [] (procedure 1 Program (section integer (1 ∷ []) ∷ []) [] [] (S.Empty ∷ []) ∷ []) [] (S.Call (CalleeRoutine 1) (arg.RoutineValue (CalleeRoutine 1) ∷ []))
unfolding run
routine_for_a_value_parameter = (refl, (refl, (refl, (refl, tt))))

value_for_a_procedural_parameter : IsMalformed [] (procedure 1 Program (section_procedures (1 ∷ []) ∷ []) [] [] (S.Empty ∷ []) ∷ []) [] (S.Call (CalleeRoutine 1) (value_for integer (num 1) ∷ []))
unfolding run
value_for_a_procedural_parameter = (refl, (refl, (refl, (refl, tt))))

-- ---- values of another kind

-- if [] then
set_that_is_tested : IsMalformed [] [] [] (if_then (set own []) S.Empty)
unfolding run
set_that_is_tested = (refl, (refl, (refl, (refl, tt))))

-- while nil do
pointer_that_is_tested : IsMalformed [] [] [] (while X.Nil S.Empty)
unfolding run
pointer_that_is_tested = (refl, (refl, (refl, (refl, tt))))

-- case 'ab' of
text_that_selects_a_case : IsMalformed [] [] [] (case_of (quoted own (codes "ab")) [])
unfolding run
text_that_selects_a_case = (refl, (refl, (refl, (refl, tt))))

-- var i: integer; for i := 1 to nil do
pointer_as_a_limit : IsMalformed [] [] (of_type integer 1 ∷ []) (for_of integer 1 false (num 1) X.Nil S.Empty)
unfolding run
pointer_as_a_limit = (refl, (refl, (refl, (refl, tt))))

-- var i: integer; i := nil
pointer_for_a_number : IsMalformed [] [] (of_type integer 1 ∷ []) (assign_to integer (variable 1 integer) [] X.Nil)
unfolding run
pointer_for_a_number = (refl, (refl, (refl, (refl, tt))))

-- var p: ^integer; p := 1
number_for_a_pointer : IsMalformed (Pointer integer ∷ []) [] (of_type 5 1 ∷ []) (assign_to 5 (variable 1 5) [] (num 1))
unfolding run
number_for_a_pointer = (refl, (refl, (refl, (refl, tt))))

-- var s: set of Boolean; s := 1
number_for_a_set : IsMalformed (set_of boolean ∷ []) [] (of_type 5 1 ∷ []) (assign_to 5 (variable 1 5) [] (num 1))
unfolding run
number_for_a_set = (refl, (refl, (refl, (refl, tt))))

-- var r: record a: integer end; r := 1
number_for_a_record : IsMalformed (RecordOf false (field 1 integer ∷ []) None ∷ []) [] (of_type 5 2 ∷ []) (assign_to 5 (variable 2 5) [] (num 1))
unfolding run
number_for_a_record = (refl, (refl, (refl, (refl, tt))))

-- var i: integer; i.a := 1
field_of_a_number : IsMalformed [] [] (of_type integer 1 ∷ []) (assign_to integer (variable 1 integer) (selector.Field 2 integer ∷ []) (num 1))
unfolding run
field_of_a_number = (refl, (refl, (refl, (refl, tt))))

-- ---- operands

-- begin write('x'); new(1) end.
new_of_a_value : IsMalformed [] [] [] (perform call.New (value_for integer (num 1) ∷ []))
unfolding run
new_of_a_value = (refl, (refl, (refl, (refl, tt))))

-- begin write('x'); dispose(1) end.
dispose_of_a_number : IsMalformed [] [] [] (perform call.Dispose (value_for integer (num 1) ∷ []))
unfolding run
dispose_of_a_number = (refl, (refl, (refl, (refl, tt))))

-- begin write('x'); write(nil + nil) end.
sum_of_pointers : IsMalformed [] [] [] (perform call.Write (shown (chain X.Nil ((op.Add, X.Nil, integer) ∷ [])) ∷ []))
unfolding run
sum_of_pointers = (refl, (refl, (refl, (refl, tt))))

-- begin write('x'); write([] div []) end.
quotient_of_sets : IsMalformed [] [] [] (perform call.Write (shown (chain (set own []) ((op.Div, set own [], integer) ∷ [])) ∷ []))
unfolding run
quotient_of_sets = (refl, (refl, (refl, (refl, tt))))

set_that_is_written : IsMalformed [] [] [] (perform call.Write (shown (set own []) ∷ []))
unfolding run
set_that_is_written = (refl, (refl, (refl, (refl, tt))))

-- var i: integer; begin i := 1; write(i^) end.
number_that_is_followed : InEach (Iso ∷ Hp ∷ []) (λ d. whole d [] [] [] (of_type integer 1 ∷ []) [] (assign_to integer (variable 1 integer) [] (num 1) ∷ perform call.Write (shown (read (variable 1 integer) (selector.Follow integer ∷ [])) ∷ []) ∷ [])) [] 0 (MalformedAfter [] [])
unfolding run
number_that_is_followed = (refl, (refl, tt))

number_with_an_index : IsMalformed [] [] (of_type integer 1 ∷ []) (perform call.Write (shown (read (variable 1 integer) (selector.Index (num 1) integer integer ∷ [])) ∷ []))
unfolding run
number_with_an_index = (refl, (refl, (refl, (refl, tt))))

value_that_is_read_into : IsMalformed [] [] [] (perform call.Read (value_for integer (num 1) ∷ []))
unfolding run
value_that_is_read_into = (refl, (refl, (refl, (refl, tt))))

function_that_is_no_statement : IsMalformed [] [] [] (perform call.Abs (value_for integer (num 1) ∷ []))
unfolding run
function_that_is_no_statement = (refl, (refl, (refl, (refl, tt))))

-- begin write('x'); write(abs([])) end.
absolute_value_of_a_set : IsMalformed [] [] [] (perform call.Write (shown (predefined call.Abs (value_for own (set own []) ∷ []) integer) ∷ []))
unfolding run
absolute_value_of_a_set = (refl, (refl, (refl, (refl, tt))))

-- begin write('x'); write(abs(1, 2)) end.
absolute_value_of_two_numbers : IsMalformed [] [] [] (perform call.Write (shown (predefined call.Abs (value_for integer (num 1) ∷ value_for integer (num 2) ∷ []) integer) ∷ []))
unfolding run
absolute_value_of_two_numbers = (refl, (refl, (refl, (refl, tt))))

-- begin write('x'); write(-nil) end.
sign_before_a_pointer : IsMalformed [] [] [] (perform call.Write (shown (unary integer unary_op.Minus X.Nil) ∷ []))
unfolding run
sign_before_a_pointer = (refl, (refl, (refl, (refl, tt))))

-- begin write('x'); write('ab' + 'cd') end., where `+` is that of numbers
sum_of_texts : IsMalformed [] [] [] (perform call.Write (shown (chain (quoted own (codes "ab")) ((op.Add, quoted own (codes "cd"), integer) ∷ [])) ∷ []))
unfolding run
sum_of_texts = (refl, (refl, (refl, (refl, tt))))

-- begin write('x'); write(nil = 1) end.
pointer_compared_with_a_number : IsMalformed [] [] [] (perform call.Write (shown (chain X.Nil ((op.Equal, num 1, boolean) ∷ [])) ∷ []))
unfolding run
pointer_compared_with_a_number = (refl, (refl, (refl, (refl, tt))))

-- begin write('x'); write(1: nil) end.
pointer_as_a_width : IsMalformed [] [] [] (perform call.Write (wide (num 1) X.Nil ∷ []))
unfolding run
pointer_as_a_width = (refl, (refl, (refl, (refl, tt))))

-- begin write('x'); halt(1, 2) end.
halt_with_two_numbers : IsMalformed [] [] [] (perform call.Halt (value_for integer (num 1) ∷ value_for integer (num 2) ∷ []))
unfolding run
halt_with_two_numbers = (refl, (refl, (refl, (refl, tt))))

sum_of_one_operand : (w : World) → perform_in (record { dialect = Iso; list = known_types }) p.Add (Given integer (Whole (pos 1)) ∷ []) w ≡ Exits Malformed w
unfolding perform_in
sum_of_one_operand w = refl

-- ---- types

variable_of_no_type : InEach (Iso ∷ Turbo ∷ Ucsd ∷ Hp ∷ []) (λ d. whole d [] [] [] (of_type 9 1 ∷ []) [] (perform call.Write (shown (read (variable 1 9) []) ∷ []) ∷ [])) [] 0 (MalformedAfter [] [])
unfolding run
variable_of_no_type = (refl, (refl, (refl, (refl, tt))))

-- a type of components that is not there before it
components_of_no_type : InEach (Iso ∷ Turbo ∷ Ucsd ∷ Hp ∷ []) (λ d. whole d (Array false boolean 6 ∷ []) [] [] (of_type 5 1 ∷ []) [] (S.Empty ∷ [])) [] 0 (MalformedAfter [] [])
unfolding run
components_of_no_type = (refl, (refl, (refl, (refl, tt))))

local_of_no_type : IsMalformed [] (procedure 1 Program [] (of_type 9 1 ∷ []) [] (S.Empty ∷ []) ∷ []) [] (S.Call (CalleeRoutine 1) [])
unfolding run
local_of_no_type = (refl, (refl, (refl, (refl, tt))))

target_of_no_type : IsMalformed [] [] (of_type integer 1 ∷ []) (assign_to 9 (variable 1 integer) [] (num 1))
unfolding run
target_of_no_type = (refl, (refl, (refl, (refl, tt))))

pointer_to_no_type : IsMalformed (Pointer 9 ∷ []) [] (of_type 5 1 ∷ []) (perform call.New (by_reference (variable 1 5) [] ∷ []))
unfolding run
pointer_to_no_type = (refl, (refl, (refl, (refl, tt))))

-- ---- what goes on

-- begin write('x'); try i := 1 recover end.
malformed_statement_in_a_try : IsMalformed [] [] [] (try (assign_to integer (variable 1 integer) [] (num 1) ∷ []) S.Empty)
unfolding run
malformed_statement_in_a_try = (refl, (refl, (refl, (refl, tt))))

-- an undefined variable is none of these
undefined_variable_is_well_formed : run (whole Iso [] [] [] (of_type integer 1 ∷ []) [] (perform call.Write (shown (read (variable 1 integer) []) ∷ []) ∷ [])) [] 0 ≡ UndefinedAfter [] []
unfolding run
undefined_variable_is_well_formed = refl
