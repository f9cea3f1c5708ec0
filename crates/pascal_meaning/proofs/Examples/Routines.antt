-- Routines, their arguments and their activations.
use Rattle.std.proofs.Common.{[], ◌∷◌, refl, false, None}
use Rattle.std.specs.Prelude.{codes, pos}
use Rattle.p2c_text.specs.declared.dialect.Dialect.TheVariants.{Iso, Turbo, Ucsd, Hp}
use Rattle.typed_tree.specs.declared.types.Host.TheVariants.{Whole as WholeHost}
use Rattle.typed_tree.specs.declared.types.PasType.TheVariants.{Ordinal, Array, RecordOf}
use Rattle.typed_tree.specs.declared.declarations.Callee.TheVariants.{Routine as CalleeRoutine, Formal}
use Rattle.typed_tree.specs.declared.declarations.Owner.TheVariants as Owner
use Rattle.typed_tree.specs.declared.declarations.Owner.TheVariants.{Program}
use Rattle.typed_tree.specs.declared.expressions.Selector.TheVariants as selector
use Rattle.typed_tree.specs.declared.expressions.TypedArg.TheVariants as arg
use Rattle.typed_tree.specs.declared.operations.BinaryOp.TheVariants as op
use Rattle.typed_tree.specs.declared.operations.PredefCall.TheVariants as call
use Rattle.typed_tree.specs.declared.statements.TypedStmt as S
use Rattle.meanings.specs.Code.{End, CutAfter, UndefinedAfter}
use Rattle.pascal_meaning.specs.Whole.{run}
use Rattle.pascal_meaning.proofs.Examples.Build.{integer, small, boolean, field, num, letter, truth, chain, read, variable, outcome, call, value_for, by_reference, shown, assign_to, seq, if_then, if_else, perform, of_type, section, section_var, section_procedures, procedure, function, whole, InEach}

-- var i: integer; procedure p(var x: integer); begin x := x + 1 end; begin i := 3; p(i); write(i) end.
variable_parameter_in_iso_and_hp : InEach (Iso ∷ Hp ∷ []) (λ d. whole d [] (procedure 1 Program (section_var integer (2 ∷ []) ∷ []) [] [] (assign_to integer (variable 2 integer) [] (chain (read (variable 2 integer) []) ((op.Add, num 1, integer) ∷ [])) ∷ []) ∷ []) [] (of_type integer 1 ∷ []) [] (assign_to integer (variable 1 integer) [] (num 3) ∷ S.Call (CalleeRoutine 1) (by_reference (variable 1 integer) [] ∷ []) ∷ perform call.Write (shown (read (variable 1 integer) []) ∷ []) ∷ [])) [] 1 (End (codes "4") 0 (1 ∷ []))
unfolding run
variable_parameter_in_iso_and_hp = (refl, (refl, tt))

variable_parameter_in_turbo_and_ucsd : InEach (Turbo ∷ Ucsd ∷ []) (λ d. whole d [] (procedure 1 Program (section_var small (2 ∷ []) ∷ []) [] [] (assign_to small (variable 2 small) [] (chain (read (variable 2 small) []) ((op.Add, num 1, small) ∷ [])) ∷ []) ∷ []) [] (of_type small 1 ∷ []) [] (assign_to small (variable 1 small) [] (num 3) ∷ S.Call (CalleeRoutine 1) (by_reference (variable 1 small) [] ∷ []) ∷ perform call.Write (shown (read (variable 1 small) []) ∷ []) ∷ [])) [] 1 (End (codes "4") 0 (1 ∷ []))
unfolding run
variable_parameter_in_turbo_and_ucsd = (refl, (refl, tt))

-- each call is an entry, and what was written stays
-- procedure q(n: integer); begin if n = 0 then write(1 div n) else q(n - 1); write('b') end; begin write('a'); q(3) end.
error_in_the_fourth_call_in_iso_and_hp : InEach (Iso ∷ Hp ∷ []) (λ d. whole d [] (procedure 1 Program (section integer (1 ∷ []) ∷ []) [] [] (if_else (chain (read (variable 1 integer) []) ((op.Equal, num 0, boolean) ∷ [])) (perform call.Write (shown (chain (num 1) ((op.Div, read (variable 1 integer) [], integer) ∷ [])) ∷ [])) (S.Call (CalleeRoutine 1) (value_for integer (chain (read (variable 1 integer) []) ((op.Sub, num 1, integer) ∷ [])) ∷ [])) ∷ perform call.Write (shown (letter 98) ∷ []) ∷ []) ∷ []) [] [] [] (perform call.Write (shown (letter 97) ∷ []) ∷ S.Call (CalleeRoutine 1) (value_for integer (num 3) ∷ []) ∷ [])) [] 9 (End (codes "a") 200 (1 ∷ 1 ∷ 1 ∷ 1 ∷ []))
unfolding run
error_in_the_fourth_call_in_iso_and_hp = (refl, (refl, tt))

error_in_the_fourth_call_in_turbo_and_ucsd : InEach (Turbo ∷ Ucsd ∷ []) (λ d. whole d [] (procedure 1 Program (section small (1 ∷ []) ∷ []) [] [] (if_else (chain (read (variable 1 small) []) ((op.Equal, num 0, boolean) ∷ [])) (perform call.Write (shown (chain (num 1) ((op.Div, read (variable 1 small) [], small) ∷ [])) ∷ [])) (S.Call (CalleeRoutine 1) (value_for small (chain (read (variable 1 small) []) ((op.Sub, num 1, small) ∷ [])) ∷ [])) ∷ perform call.Write (shown (letter 98) ∷ []) ∷ []) ∷ []) [] [] [] (perform call.Write (shown (letter 97) ∷ []) ∷ S.Call (CalleeRoutine 1) (value_for small (num 3) ∷ []) ∷ [])) [] 9 (End (codes "a") 200 (1 ∷ 1 ∷ 1 ∷ 1 ∷ []))
unfolding run
error_in_the_fourth_call_in_turbo_and_ucsd = (refl, (refl, tt))

-- four calls need the bound 4
-- procedure q(n: integer); begin if n = 0 then write(1 div n) else q(n - 1); write('b') end; begin write('a'); q(3) end.
call_is_cut_in_iso_and_hp : InEach (Iso ∷ Hp ∷ []) (λ d. whole d [] (procedure 1 Program (section integer (1 ∷ []) ∷ []) [] [] (if_else (chain (read (variable 1 integer) []) ((op.Equal, num 0, boolean) ∷ [])) (perform call.Write (shown (chain (num 1) ((op.Div, read (variable 1 integer) [], integer) ∷ [])) ∷ [])) (S.Call (CalleeRoutine 1) (value_for integer (chain (read (variable 1 integer) []) ((op.Sub, num 1, integer) ∷ [])) ∷ [])) ∷ perform call.Write (shown (letter 98) ∷ []) ∷ []) ∷ []) [] [] [] (perform call.Write (shown (letter 97) ∷ []) ∷ S.Call (CalleeRoutine 1) (value_for integer (num 3) ∷ []) ∷ [])) [] 3 (CutAfter (codes "a") (1 ∷ 1 ∷ 1 ∷ []))
unfolding run
call_is_cut_in_iso_and_hp = (refl, (refl, tt))

call_is_cut_in_turbo_and_ucsd : InEach (Turbo ∷ Ucsd ∷ []) (λ d. whole d [] (procedure 1 Program (section small (1 ∷ []) ∷ []) [] [] (if_else (chain (read (variable 1 small) []) ((op.Equal, num 0, boolean) ∷ [])) (perform call.Write (shown (chain (num 1) ((op.Div, read (variable 1 small) [], small) ∷ [])) ∷ [])) (S.Call (CalleeRoutine 1) (value_for small (chain (read (variable 1 small) []) ((op.Sub, num 1, small) ∷ [])) ∷ [])) ∷ perform call.Write (shown (letter 98) ∷ []) ∷ []) ∷ []) [] [] [] (perform call.Write (shown (letter 97) ∷ []) ∷ S.Call (CalleeRoutine 1) (value_for small (num 3) ∷ []) ∷ [])) [] 3 (CutAfter (codes "a") (1 ∷ 1 ∷ 1 ∷ []))
unfolding run
call_is_cut_in_turbo_and_ucsd = (refl, (refl, tt))

-- the call of f in the argument has an entry, that of p has none
-- function f: integer; begin write('f'); f := 1 end; procedure p(n: integer); begin write('p'); n := f end; begin p(f) end.
arguments_are_evaluated_before_the_bound_is_due_in_iso_and_hp : InEach (Iso ∷ Hp ∷ []) (λ d. whole d [] (function 1 Program [] (of_type integer 1) [] (perform call.Write (shown (letter 102) ∷ []) ∷ assign_to integer (outcome 1 integer) [] (num 1) ∷ []) ∷ procedure 2 Program (section integer (2 ∷ []) ∷ []) [] [] (perform call.Write (shown (letter 112) ∷ []) ∷ assign_to integer (variable 2 integer) [] (call (CalleeRoutine 1) [] integer) ∷ []) ∷ []) [] [] [] (S.Call (CalleeRoutine 2) (value_for integer (call (CalleeRoutine 1) [] integer) ∷ []) ∷ [])) [] 1 (CutAfter (codes "fp") (1 ∷ 2 ∷ []))
unfolding run
arguments_are_evaluated_before_the_bound_is_due_in_iso_and_hp = (refl, (refl, tt))

arguments_are_evaluated_before_the_bound_is_due_in_turbo_and_ucsd : InEach (Turbo ∷ Ucsd ∷ []) (λ d. whole d [] (function 1 Program [] (of_type small 1) [] (perform call.Write (shown (letter 102) ∷ []) ∷ assign_to small (outcome 1 small) [] (num 1) ∷ []) ∷ procedure 2 Program (section small (2 ∷ []) ∷ []) [] [] (perform call.Write (shown (letter 112) ∷ []) ∷ assign_to small (variable 2 small) [] (call (CalleeRoutine 1) [] small) ∷ []) ∷ []) [] [] [] (S.Call (CalleeRoutine 2) (value_for small (call (CalleeRoutine 1) [] small) ∷ []) ∷ [])) [] 1 (CutAfter (codes "fp") (1 ∷ 2 ∷ []))
unfolding run
arguments_are_evaluated_before_the_bound_is_due_in_turbo_and_ucsd = (refl, (refl, tt))

-- procedure o; var v: integer; procedure i; begin v := v + 1 end; begin v := 1; i; i; write(v) end; begin o end.
variable_of_an_enclosing_routine_in_iso_and_hp : InEach (Iso ∷ Hp ∷ []) (λ d. whole d [] (procedure 1 Program [] (of_type integer 1 ∷ []) [] (assign_to integer (variable 1 integer) [] (num 1) ∷ S.Call (CalleeRoutine 2) [] ∷ S.Call (CalleeRoutine 2) [] ∷ perform call.Write (shown (read (variable 1 integer) []) ∷ []) ∷ []) ∷ procedure 2 (Owner.Routine 1) [] [] [] (assign_to integer (variable 1 integer) [] (chain (read (variable 1 integer) []) ((op.Add, num 1, integer) ∷ [])) ∷ []) ∷ []) [] [] [] (S.Call (CalleeRoutine 1) [] ∷ [])) [] 3 (End (codes "3") 0 (1 ∷ 2 ∷ 2 ∷ []))
unfolding run
variable_of_an_enclosing_routine_in_iso_and_hp = (refl, (refl, tt))

variable_of_an_enclosing_routine_in_turbo_and_ucsd : InEach (Turbo ∷ Ucsd ∷ []) (λ d. whole d [] (procedure 1 Program [] (of_type small 1 ∷ []) [] (assign_to small (variable 1 small) [] (num 1) ∷ S.Call (CalleeRoutine 2) [] ∷ S.Call (CalleeRoutine 2) [] ∷ perform call.Write (shown (read (variable 1 small) []) ∷ []) ∷ []) ∷ procedure 2 (Owner.Routine 1) [] [] [] (assign_to small (variable 1 small) [] (chain (read (variable 1 small) []) ((op.Add, num 1, small) ∷ [])) ∷ []) ∷ []) [] [] [] (S.Call (CalleeRoutine 1) [] ∷ [])) [] 3 (End (codes "3") 0 (1 ∷ 2 ∷ 2 ∷ []))
unfolding run
variable_of_an_enclosing_routine_in_turbo_and_ucsd = (refl, (refl, tt))

-- numbers go by the first headings
-- procedure a(n: integer); forward; procedure b(n: integer); begin if n <> 0 then a(n) end; procedure a; begin write('y'); b(0) end; begin a(1) end.
forward_routines_call_each_other_in_iso_and_hp : InEach (Iso ∷ Hp ∷ []) (λ d. whole d [] (procedure 1 Program (section integer (1 ∷ []) ∷ []) [] [] (perform call.Write (shown (letter 121) ∷ []) ∷ S.Call (CalleeRoutine 2) (value_for integer (num 0) ∷ []) ∷ []) ∷ procedure 2 Program (section integer (2 ∷ []) ∷ []) [] [] (if_then (chain (read (variable 2 integer) []) ((op.Unequal, num 0, boolean) ∷ [])) (S.Call (CalleeRoutine 1) (value_for integer (read (variable 2 integer) []) ∷ [])) ∷ []) ∷ []) [] [] [] (S.Call (CalleeRoutine 1) (value_for integer (num 1) ∷ []) ∷ [])) [] 3 (End (codes "y") 0 (1 ∷ 2 ∷ []))
unfolding run
forward_routines_call_each_other_in_iso_and_hp = (refl, (refl, tt))

forward_routines_call_each_other_in_turbo_and_ucsd : InEach (Turbo ∷ Ucsd ∷ []) (λ d. whole d [] (procedure 1 Program (section small (1 ∷ []) ∷ []) [] [] (perform call.Write (shown (letter 121) ∷ []) ∷ S.Call (CalleeRoutine 2) (value_for small (num 0) ∷ []) ∷ []) ∷ procedure 2 Program (section small (2 ∷ []) ∷ []) [] [] (if_then (chain (read (variable 2 small) []) ((op.Unequal, num 0, boolean) ∷ [])) (S.Call (CalleeRoutine 1) (value_for small (read (variable 2 small) []) ∷ [])) ∷ []) ∷ []) [] [] [] (S.Call (CalleeRoutine 1) (value_for small (num 1) ∷ []) ∷ [])) [] 3 (End (codes "y") 0 (1 ∷ 2 ∷ []))
unfolding run
forward_routines_call_each_other_in_turbo_and_ucsd = (refl, (refl, tt))

-- var i: integer; procedure p(n: integer); begin n := n + 1; write(n) end; begin i := 3; p(i); write(i) end.
value_parameter_is_a_copy_in_iso_and_hp : InEach (Iso ∷ Hp ∷ []) (λ d. whole d [] (procedure 1 Program (section integer (2 ∷ []) ∷ []) [] [] (assign_to integer (variable 2 integer) [] (chain (read (variable 2 integer) []) ((op.Add, num 1, integer) ∷ [])) ∷ perform call.Write (shown (read (variable 2 integer) []) ∷ []) ∷ []) ∷ []) [] (of_type integer 1 ∷ []) [] (assign_to integer (variable 1 integer) [] (num 3) ∷ S.Call (CalleeRoutine 1) (value_for integer (read (variable 1 integer) []) ∷ []) ∷ perform call.Write (shown (read (variable 1 integer) []) ∷ []) ∷ [])) [] 1 (End (codes "43") 0 (1 ∷ []))
unfolding run
value_parameter_is_a_copy_in_iso_and_hp = (refl, (refl, tt))

value_parameter_is_a_copy_in_turbo_and_ucsd : InEach (Turbo ∷ Ucsd ∷ []) (λ d. whole d [] (procedure 1 Program (section small (2 ∷ []) ∷ []) [] [] (assign_to small (variable 2 small) [] (chain (read (variable 2 small) []) ((op.Add, num 1, small) ∷ [])) ∷ perform call.Write (shown (read (variable 2 small) []) ∷ []) ∷ []) ∷ []) [] (of_type small 1 ∷ []) [] (assign_to small (variable 1 small) [] (num 3) ∷ S.Call (CalleeRoutine 1) (value_for small (read (variable 1 small) []) ∷ []) ∷ perform call.Write (shown (read (variable 1 small) []) ∷ []) ∷ [])) [] 1 (End (codes "43") 0 (1 ∷ []))
unfolding run
value_parameter_is_a_copy_in_turbo_and_ucsd = (refl, (refl, tt))

-- it is checked in its turn, before the routine is entered
-- type s = 1..5; procedure p(a: s; b: integer); begin write('p') end; function f: integer; begin write('f'); f := 1 end; begin p(9, f) end.
value_argument_out_of_range_in_iso_and_hp : InEach (Iso ∷ Hp ∷ []) (λ d. whole d (Ordinal WholeHost (pos 1) (pos 5) ∷ []) (procedure 1 Program (section 5 (1 ∷ []) ∷ section integer (2 ∷ []) ∷ []) [] [] (perform call.Write (shown (letter 112) ∷ []) ∷ []) ∷ function 2 Program [] (of_type integer 3) [] (perform call.Write (shown (letter 102) ∷ []) ∷ assign_to integer (outcome 3 integer) [] (num 1) ∷ []) ∷ []) [] [] [] (S.Call (CalleeRoutine 1) (value_for 5 (num 9) ∷ value_for integer (call (CalleeRoutine 2) [] integer) ∷ []) ∷ [])) [] 5 (End [] 201 [])
unfolding run
value_argument_out_of_range_in_iso_and_hp = (refl, (refl, tt))

value_argument_out_of_range_in_turbo_and_ucsd : InEach (Turbo ∷ Ucsd ∷ []) (λ d. whole d (Ordinal WholeHost (pos 1) (pos 5) ∷ []) (procedure 1 Program (section 5 (1 ∷ []) ∷ section small (2 ∷ []) ∷ []) [] [] (perform call.Write (shown (letter 112) ∷ []) ∷ []) ∷ function 2 Program [] (of_type small 3) [] (perform call.Write (shown (letter 102) ∷ []) ∷ assign_to small (outcome 3 small) [] (num 1) ∷ []) ∷ []) [] [] [] (S.Call (CalleeRoutine 1) (value_for 5 (num 9) ∷ value_for small (call (CalleeRoutine 2) [] small) ∷ []) ∷ [])) [] 5 (End [] 201 [])
unfolding run
value_argument_out_of_range_in_turbo_and_ucsd = (refl, (refl, tt))

-- function f(n: integer): integer; begin write(n); f := n end; procedure p(a, b: integer); begin write(a + b) end; begin p(f(1), f(2)) end.
arguments_from_left_to_right_in_iso_and_hp : InEach (Iso ∷ Hp ∷ []) (λ d. whole d [] (function 1 Program (section integer (2 ∷ []) ∷ []) (of_type integer 1) [] (perform call.Write (shown (read (variable 2 integer) []) ∷ []) ∷ assign_to integer (outcome 1 integer) [] (read (variable 2 integer) []) ∷ []) ∷ procedure 2 Program (section integer (3 ∷ 4 ∷ []) ∷ []) [] [] (perform call.Write (shown (chain (read (variable 3 integer) []) ((op.Add, read (variable 4 integer) [], integer) ∷ [])) ∷ []) ∷ []) ∷ []) [] [] [] (S.Call (CalleeRoutine 2) (value_for integer (call (CalleeRoutine 1) (value_for integer (num 1) ∷ []) integer) ∷ value_for integer (call (CalleeRoutine 1) (value_for integer (num 2) ∷ []) integer) ∷ []) ∷ [])) [] 2 (End (codes "123") 0 (1 ∷ 1 ∷ 2 ∷ []))
unfolding run
arguments_from_left_to_right_in_iso_and_hp = (refl, (refl, tt))

arguments_from_left_to_right_in_turbo_and_ucsd : InEach (Turbo ∷ Ucsd ∷ []) (λ d. whole d [] (function 1 Program (section small (2 ∷ []) ∷ []) (of_type small 1) [] (perform call.Write (shown (read (variable 2 small) []) ∷ []) ∷ assign_to small (outcome 1 small) [] (read (variable 2 small) []) ∷ []) ∷ procedure 2 Program (section small (3 ∷ 4 ∷ []) ∷ []) [] [] (perform call.Write (shown (chain (read (variable 3 small) []) ((op.Add, read (variable 4 small) [], small) ∷ [])) ∷ []) ∷ []) ∷ []) [] [] [] (S.Call (CalleeRoutine 2) (value_for small (call (CalleeRoutine 1) (value_for small (num 1) ∷ []) small) ∷ value_for small (call (CalleeRoutine 1) (value_for small (num 2) ∷ []) small) ∷ []) ∷ [])) [] 2 (End (codes "123") 0 (1 ∷ 1 ∷ 2 ∷ []))
unfolding run
arguments_from_left_to_right_in_turbo_and_ucsd = (refl, (refl, tt))

-- type r = record a, b: integer end; var x: r; procedure p(y: r); begin y.a := 9; write(y.a) end; begin x.a := 1; p(x); write(x.a) end.
record_is_passed_as_a_copy_in_iso_and_hp : InEach (Iso ∷ Hp ∷ []) (λ d. whole d (RecordOf false (field 1 integer ∷ field 2 integer ∷ []) None ∷ []) (procedure 1 Program (section 5 (4 ∷ []) ∷ []) [] [] (assign_to integer (variable 4 5) (selector.Field 1 integer ∷ []) (num 9) ∷ perform call.Write (shown (read (variable 4 5) (selector.Field 1 integer ∷ [])) ∷ []) ∷ []) ∷ []) [] (of_type 5 3 ∷ []) [] (assign_to integer (variable 3 5) (selector.Field 1 integer ∷ []) (num 1) ∷ S.Call (CalleeRoutine 1) (value_for 5 (read (variable 3 5) []) ∷ []) ∷ perform call.Write (shown (read (variable 3 5) (selector.Field 1 integer ∷ [])) ∷ []) ∷ [])) [] 1 (End (codes "91") 0 (1 ∷ []))
unfolding run
record_is_passed_as_a_copy_in_iso_and_hp = (refl, (refl, tt))

record_is_passed_as_a_copy_in_turbo_and_ucsd : InEach (Turbo ∷ Ucsd ∷ []) (λ d. whole d (RecordOf false (field 1 small ∷ field 2 small ∷ []) None ∷ []) (procedure 1 Program (section 5 (4 ∷ []) ∷ []) [] [] (assign_to small (variable 4 5) (selector.Field 1 small ∷ []) (num 9) ∷ perform call.Write (shown (read (variable 4 5) (selector.Field 1 small ∷ [])) ∷ []) ∷ []) ∷ []) [] (of_type 5 3 ∷ []) [] (assign_to small (variable 3 5) (selector.Field 1 small ∷ []) (num 1) ∷ S.Call (CalleeRoutine 1) (value_for 5 (read (variable 3 5) []) ∷ []) ∷ perform call.Write (shown (read (variable 3 5) (selector.Field 1 small ∷ [])) ∷ []) ∷ [])) [] 1 (End (codes "91") 0 (1 ∷ []))
unfolding run
record_is_passed_as_a_copy_in_turbo_and_ucsd = (refl, (refl, tt))

-- it is read when the activation ends
-- function f: integer; begin write('f'); if false then f := 1 end; begin write(f) end.
undefined_result_in_iso_and_hp : InEach (Iso ∷ Hp ∷ []) (λ d. whole d [] (function 1 Program [] (of_type integer 1) [] (perform call.Write (shown (letter 102) ∷ []) ∷ if_then (truth 0) (assign_to integer (outcome 1 integer) [] (num 1)) ∷ []) ∷ []) [] [] [] (perform call.Write (shown (call (CalleeRoutine 1) [] integer) ∷ []) ∷ [])) [] 1 (UndefinedAfter (codes "f") (1 ∷ []))
unfolding run
undefined_result_in_iso_and_hp = (refl, (refl, tt))

undefined_result_in_turbo_and_ucsd : InEach (Turbo ∷ Ucsd ∷ []) (λ d. whole d [] (function 1 Program [] (of_type small 1) [] (perform call.Write (shown (letter 102) ∷ []) ∷ if_then (truth 0) (assign_to small (outcome 1 small) [] (num 1)) ∷ []) ∷ []) [] [] [] (perform call.Write (shown (call (CalleeRoutine 1) [] small) ∷ []) ∷ [])) [] 1 (UndefinedAfter (codes "f") (1 ∷ []))
unfolding run
undefined_result_in_turbo_and_ucsd = (refl, (refl, tt))

-- function f: integer; procedure g; begin f := 7 end; begin g end; begin write(f) end.
result_of_an_inner_assignment_in_iso_and_hp : InEach (Iso ∷ Hp ∷ []) (λ d. whole d [] (function 1 Program [] (of_type integer 1) [] (S.Call (CalleeRoutine 2) [] ∷ []) ∷ procedure 2 (Owner.Routine 1) [] [] [] (assign_to integer (outcome 1 integer) [] (num 7) ∷ []) ∷ []) [] [] [] (perform call.Write (shown (call (CalleeRoutine 1) [] integer) ∷ []) ∷ [])) [] 2 (End (codes "7") 0 (1 ∷ 2 ∷ []))
unfolding run
result_of_an_inner_assignment_in_iso_and_hp = (refl, (refl, tt))

result_of_an_inner_assignment_in_turbo_and_ucsd : InEach (Turbo ∷ Ucsd ∷ []) (λ d. whole d [] (function 1 Program [] (of_type small 1) [] (S.Call (CalleeRoutine 2) [] ∷ []) ∷ procedure 2 (Owner.Routine 1) [] [] [] (assign_to small (outcome 1 small) [] (num 7) ∷ []) ∷ []) [] [] [] (perform call.Write (shown (call (CalleeRoutine 1) [] small) ∷ []) ∷ [])) [] 2 (End (codes "7") 0 (1 ∷ 2 ∷ []))
unfolding run
result_of_an_inner_assignment_in_turbo_and_ucsd = (refl, (refl, tt))

-- function fac(n: integer): integer; begin if n < 2 then fac := 1 else fac := n * fac(n - 1) end; begin write(fac(5)) end.
recursion_keeps_its_own_variables_in_iso_and_hp : InEach (Iso ∷ Hp ∷ []) (λ d. whole d [] (function 1 Program (section integer (2 ∷ []) ∷ []) (of_type integer 1) [] (if_else (chain (read (variable 2 integer) []) ((op.Less, num 2, boolean) ∷ [])) (assign_to integer (outcome 1 integer) [] (num 1)) (assign_to integer (outcome 1 integer) [] (chain (read (variable 2 integer) []) ((op.Mul, call (CalleeRoutine 1) (value_for integer (chain (read (variable 2 integer) []) ((op.Sub, num 1, integer) ∷ [])) ∷ []) integer, integer) ∷ []))) ∷ []) ∷ []) [] [] [] (perform call.Write (shown (call (CalleeRoutine 1) (value_for integer (num 5) ∷ []) integer) ∷ []) ∷ [])) [] 5 (End (codes "120") 0 (1 ∷ 1 ∷ 1 ∷ 1 ∷ 1 ∷ []))
unfolding run
recursion_keeps_its_own_variables_in_iso_and_hp = (refl, (refl, tt))

recursion_keeps_its_own_variables_in_turbo_and_ucsd : InEach (Turbo ∷ Ucsd ∷ []) (λ d. whole d [] (function 1 Program (section small (2 ∷ []) ∷ []) (of_type small 1) [] (if_else (chain (read (variable 2 small) []) ((op.Less, num 2, boolean) ∷ [])) (assign_to small (outcome 1 small) [] (num 1)) (assign_to small (outcome 1 small) [] (chain (read (variable 2 small) []) ((op.Mul, call (CalleeRoutine 1) (value_for small (chain (read (variable 2 small) []) ((op.Sub, num 1, small) ∷ [])) ∷ []) small, small) ∷ []))) ∷ []) ∷ []) [] [] [] (perform call.Write (shown (call (CalleeRoutine 1) (value_for small (num 5) ∷ []) small) ∷ []) ∷ [])) [] 5 (End (codes "120") 0 (1 ∷ 1 ∷ 1 ∷ 1 ∷ 1 ∷ []))
unfolding run
recursion_keeps_its_own_variables_in_turbo_and_ucsd = (refl, (refl, tt))

-- procedure twice(procedure q(n: integer)); begin q(1); q(2) end; procedure out(n: integer); begin write(n) end; begin twice(out) end.
procedural_parameter_in_iso_and_hp : InEach (Iso ∷ Hp ∷ []) (λ d. whole d [] (procedure 1 Program (section_procedures (1 ∷ []) ∷ []) [] [] (S.Call (Formal 1) (value_for integer (num 1) ∷ []) ∷ S.Call (Formal 1) (value_for integer (num 2) ∷ []) ∷ []) ∷ procedure 2 Program (section integer (2 ∷ []) ∷ []) [] [] (perform call.Write (shown (read (variable 2 integer) []) ∷ []) ∷ []) ∷ []) [] [] [] (S.Call (CalleeRoutine 1) (arg.RoutineValue (CalleeRoutine 2) ∷ []) ∷ [])) [] 2 (End (codes "12") 0 (1 ∷ 2 ∷ 2 ∷ []))
unfolding run
procedural_parameter_in_iso_and_hp = (refl, (refl, tt))

procedural_parameter_in_turbo_and_ucsd : InEach (Turbo ∷ Ucsd ∷ []) (λ d. whole d [] (procedure 1 Program (section_procedures (1 ∷ []) ∷ []) [] [] (S.Call (Formal 1) (value_for small (num 1) ∷ []) ∷ S.Call (Formal 1) (value_for small (num 2) ∷ []) ∷ []) ∷ procedure 2 Program (section small (2 ∷ []) ∷ []) [] [] (perform call.Write (shown (read (variable 2 small) []) ∷ []) ∷ []) ∷ []) [] [] [] (S.Call (CalleeRoutine 1) (arg.RoutineValue (CalleeRoutine 2) ∷ []) ∷ [])) [] 2 (End (codes "12") 0 (1 ∷ 2 ∷ 2 ∷ []))
unfolding run
procedural_parameter_in_turbo_and_ucsd = (refl, (refl, tt))

-- q runs with the v of its own activation
-- procedure r(n: integer; procedure q); var v: integer; procedure me; begin write(v) end; begin v := n; if n = 1 then r(2, me) else begin q; me end end; procedure none; begin end; begin r(1, none) end.
procedural_parameter_keeps_its_environment_in_iso_and_hp : InEach (Iso ∷ Hp ∷ []) (λ d. whole d [] (procedure 1 Program (section integer (1 ∷ []) ∷ section_procedures (2 ∷ []) ∷ []) (of_type integer 3 ∷ []) [] (assign_to integer (variable 3 integer) [] (read (variable 1 integer) []) ∷ if_else (chain (read (variable 1 integer) []) ((op.Equal, num 1, boolean) ∷ [])) (S.Call (CalleeRoutine 1) (value_for integer (num 2) ∷ arg.RoutineValue (CalleeRoutine 2) ∷ [])) (seq (S.Call (Formal 2) [] ∷ S.Call (CalleeRoutine 2) [] ∷ [])) ∷ []) ∷ procedure 2 (Owner.Routine 1) [] [] [] (perform call.Write (shown (read (variable 3 integer) []) ∷ []) ∷ []) ∷ procedure 3 Program [] [] [] (S.Empty ∷ []) ∷ []) [] [] [] (S.Call (CalleeRoutine 1) (value_for integer (num 1) ∷ arg.RoutineValue (CalleeRoutine 3) ∷ []) ∷ [])) [] 4 (End (codes "12") 0 (1 ∷ 1 ∷ 2 ∷ 2 ∷ []))
unfolding run
procedural_parameter_keeps_its_environment_in_iso_and_hp = (refl, (refl, tt))

procedural_parameter_keeps_its_environment_in_turbo_and_ucsd : InEach (Turbo ∷ Ucsd ∷ []) (λ d. whole d [] (procedure 1 Program (section small (1 ∷ []) ∷ section_procedures (2 ∷ []) ∷ []) (of_type small 3 ∷ []) [] (assign_to small (variable 3 small) [] (read (variable 1 small) []) ∷ if_else (chain (read (variable 1 small) []) ((op.Equal, num 1, boolean) ∷ [])) (S.Call (CalleeRoutine 1) (value_for small (num 2) ∷ arg.RoutineValue (CalleeRoutine 2) ∷ [])) (seq (S.Call (Formal 2) [] ∷ S.Call (CalleeRoutine 2) [] ∷ [])) ∷ []) ∷ procedure 2 (Owner.Routine 1) [] [] [] (perform call.Write (shown (read (variable 3 small) []) ∷ []) ∷ []) ∷ procedure 3 Program [] [] [] (S.Empty ∷ []) ∷ []) [] [] [] (S.Call (CalleeRoutine 1) (value_for small (num 1) ∷ arg.RoutineValue (CalleeRoutine 3) ∷ []) ∷ [])) [] 4 (End (codes "12") 0 (1 ∷ 1 ∷ 2 ∷ 2 ∷ []))
unfolding run
procedural_parameter_keeps_its_environment_in_turbo_and_ucsd = (refl, (refl, tt))

-- var i: integer; procedure a(var x: integer); begin x := x + 1 end; procedure b(var y: integer); begin a(y); y := y * 10 end; begin i := 1; b(i); write(i) end.
reference_through_two_routines_in_iso_and_hp : InEach (Iso ∷ Hp ∷ []) (λ d. whole d [] (procedure 1 Program (section_var integer (2 ∷ []) ∷ []) [] [] (assign_to integer (variable 2 integer) [] (chain (read (variable 2 integer) []) ((op.Add, num 1, integer) ∷ [])) ∷ []) ∷ procedure 2 Program (section_var integer (3 ∷ []) ∷ []) [] [] (S.Call (CalleeRoutine 1) (by_reference (variable 3 integer) [] ∷ []) ∷ assign_to integer (variable 3 integer) [] (chain (read (variable 3 integer) []) ((op.Mul, num 10, integer) ∷ [])) ∷ []) ∷ []) [] (of_type integer 1 ∷ []) [] (assign_to integer (variable 1 integer) [] (num 1) ∷ S.Call (CalleeRoutine 2) (by_reference (variable 1 integer) [] ∷ []) ∷ perform call.Write (shown (read (variable 1 integer) []) ∷ []) ∷ [])) [] 2 (End (codes "20") 0 (2 ∷ 1 ∷ []))
unfolding run
reference_through_two_routines_in_iso_and_hp = (refl, (refl, tt))

reference_through_two_routines_in_turbo_and_ucsd : InEach (Turbo ∷ Ucsd ∷ []) (λ d. whole d [] (procedure 1 Program (section_var small (2 ∷ []) ∷ []) [] [] (assign_to small (variable 2 small) [] (chain (read (variable 2 small) []) ((op.Add, num 1, small) ∷ [])) ∷ []) ∷ procedure 2 Program (section_var small (3 ∷ []) ∷ []) [] [] (S.Call (CalleeRoutine 1) (by_reference (variable 3 small) [] ∷ []) ∷ assign_to small (variable 3 small) [] (chain (read (variable 3 small) []) ((op.Mul, num 10, small) ∷ [])) ∷ []) ∷ []) [] (of_type small 1 ∷ []) [] (assign_to small (variable 1 small) [] (num 1) ∷ S.Call (CalleeRoutine 2) (by_reference (variable 1 small) [] ∷ []) ∷ perform call.Write (shown (read (variable 1 small) []) ∷ []) ∷ [])) [] 2 (End (codes "20") 0 (2 ∷ 1 ∷ []))
unfolding run
reference_through_two_routines_in_turbo_and_ucsd = (refl, (refl, tt))

-- the index is evaluated once, before the routine runs
-- var a: array [1..2] of integer; i: integer; procedure p(var x: integer); begin i := 2; x := 5 end; begin a[1] := 1; a[2] := 2; i := 1; p(a[i]); write(a[1], a[2]) end.
reference_is_made_in_its_turn_in_iso_and_hp : InEach (Iso ∷ Hp ∷ []) (λ d. whole d (Ordinal WholeHost (pos 1) (pos 2) ∷ Array false 5 integer ∷ []) (procedure 1 Program (section_var integer (3 ∷ []) ∷ []) [] [] (assign_to integer (variable 2 integer) [] (num 2) ∷ assign_to integer (variable 3 integer) [] (num 5) ∷ []) ∷ []) [] (of_type 6 1 ∷ of_type integer 2 ∷ []) [] (assign_to integer (variable 1 6) (selector.Index (num 1) 6 integer ∷ []) (num 1) ∷ assign_to integer (variable 1 6) (selector.Index (num 2) 6 integer ∷ []) (num 2) ∷ assign_to integer (variable 2 integer) [] (num 1) ∷ S.Call (CalleeRoutine 1) (by_reference (variable 1 6) (selector.Index (read (variable 2 integer) []) 6 integer ∷ []) ∷ []) ∷ perform call.Write (shown (read (variable 1 6) (selector.Index (num 1) 6 integer ∷ [])) ∷ shown (read (variable 1 6) (selector.Index (num 2) 6 integer ∷ [])) ∷ []) ∷ [])) [] 1 (End (codes "52") 0 (1 ∷ []))
unfolding run
reference_is_made_in_its_turn_in_iso_and_hp = (refl, (refl, tt))

reference_is_made_in_its_turn_in_turbo_and_ucsd : InEach (Turbo ∷ Ucsd ∷ []) (λ d. whole d (Ordinal WholeHost (pos 1) (pos 2) ∷ Array false 5 small ∷ []) (procedure 1 Program (section_var small (3 ∷ []) ∷ []) [] [] (assign_to small (variable 2 small) [] (num 2) ∷ assign_to small (variable 3 small) [] (num 5) ∷ []) ∷ []) [] (of_type 6 1 ∷ of_type small 2 ∷ []) [] (assign_to small (variable 1 6) (selector.Index (num 1) 6 small ∷ []) (num 1) ∷ assign_to small (variable 1 6) (selector.Index (num 2) 6 small ∷ []) (num 2) ∷ assign_to small (variable 2 small) [] (num 1) ∷ S.Call (CalleeRoutine 1) (by_reference (variable 1 6) (selector.Index (read (variable 2 small) []) 6 small ∷ []) ∷ []) ∷ perform call.Write (shown (read (variable 1 6) (selector.Index (num 1) 6 small ∷ [])) ∷ shown (read (variable 1 6) (selector.Index (num 2) 6 small ∷ [])) ∷ []) ∷ [])) [] 1 (End (codes "52") 0 (1 ∷ []))
unfolding run
reference_is_made_in_its_turn_in_turbo_and_ucsd = (refl, (refl, tt))

-- making a reference reads nothing
-- var i: integer; procedure p(var x: integer); begin x := 3 end; begin p(i); write(i) end.
undefined_variable_by_reference_in_iso_and_hp : InEach (Iso ∷ Hp ∷ []) (λ d. whole d [] (procedure 1 Program (section_var integer (2 ∷ []) ∷ []) [] [] (assign_to integer (variable 2 integer) [] (num 3) ∷ []) ∷ []) [] (of_type integer 1 ∷ []) [] (S.Call (CalleeRoutine 1) (by_reference (variable 1 integer) [] ∷ []) ∷ perform call.Write (shown (read (variable 1 integer) []) ∷ []) ∷ [])) [] 1 (End (codes "3") 0 (1 ∷ []))
unfolding run
undefined_variable_by_reference_in_iso_and_hp = (refl, (refl, tt))

undefined_variable_by_reference_in_turbo_and_ucsd : InEach (Turbo ∷ Ucsd ∷ []) (λ d. whole d [] (procedure 1 Program (section_var small (2 ∷ []) ∷ []) [] [] (assign_to small (variable 2 small) [] (num 3) ∷ []) ∷ []) [] (of_type small 1 ∷ []) [] (S.Call (CalleeRoutine 1) (by_reference (variable 1 small) [] ∷ []) ∷ perform call.Write (shown (read (variable 1 small) []) ∷ []) ∷ [])) [] 1 (End (codes "3") 0 (1 ∷ []))
unfolding run
undefined_variable_by_reference_in_turbo_and_ucsd = (refl, (refl, tt))
