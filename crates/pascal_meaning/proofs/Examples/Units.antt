-- Units and their initial parts.
use Rattle.std.proofs.Common.{◌≡◌, [], ◌∷◌, refl, false}
use Rattle.std.specs.Prelude.{codes}
use Rattle.p2c_text.specs.declared.dialect.Dialect.TheVariants.{Turbo, Ucsd, Hp}
use Rattle.typed_tree.specs.declared.types.PasType.TheVariants.{Literal}
use Rattle.typed_tree.specs.declared.declarations.Callee.TheVariants.{Routine as CalleeRoutine}
use Rattle.typed_tree.specs.declared.declarations.Owner.TheVariants as Owner
use Rattle.typed_tree.specs.declared.declarations.Owner.TheVariants.{Program}
use Rattle.typed_tree.specs.declared.operations.BinaryOp.TheVariants as op
use Rattle.typed_tree.specs.declared.operations.PredefCall.TheVariants as call
use Rattle.typed_tree.specs.declared.statements.TypedStmt as S
use Rattle.meanings.specs.Code.{End}
use Rattle.pascal_meaning.specs.Whole.{run}
use Rattle.pascal_meaning.proofs.Examples.Build.{integer, small, num, letter, quoted, chain, read, variable, shown, assign_to, seq, for_of, labelled, perform, of_type, procedure, unit_of, whole, InEach}

-- unit 1: begin write('a') end.
-- unit 2: begin write('b') end.
-- begin write('p') end.
initial_parts_in_order : InEach (Turbo ∷ Ucsd ∷ Hp ∷ []) (λ d. whole d [] [] (unit_of [] [] (perform call.Write (shown (letter 97) ∷ []) ∷ []) ∷ unit_of [] [] (perform call.Write (shown (letter 98) ∷ []) ∷ []) ∷ []) [] [] (perform call.Write (shown (letter 112) ∷ []) ∷ [])) [] 0 (End (codes "abp") 0 [])
unfolding run
initial_parts_in_order = (refl, (refl, (refl, tt)))

-- unit 1: begin write('b') end.
-- unit 2: begin write('a') end.
-- begin write('p') end.
other_order : InEach (Turbo ∷ Ucsd ∷ Hp ∷ []) (λ d. whole d [] [] (unit_of [] [] (perform call.Write (shown (letter 98) ∷ []) ∷ []) ∷ unit_of [] [] (perform call.Write (shown (letter 97) ∷ []) ∷ []) ∷ []) [] [] (perform call.Write (shown (letter 112) ∷ []) ∷ [])) [] 0 (End (codes "bap") 0 [])
unfolding run
other_order = (refl, (refl, (refl, tt)))

-- unit 1: procedure hi; begin write('m') end;
-- begin hi end.
procedure_of_a_module : run (whole Hp [] (procedure 1 (Owner.UnitPart 0) [] [] [] (perform call.Write (shown (letter 109) ∷ []) ∷ []) ∷ []) (unit_of [] [] [] ∷ []) [] [] (S.Call (CalleeRoutine 1) [] ∷ [])) [] 1 ≡ End (codes "m") 0 (1 ∷ [])
unfolding run
procedure_of_a_module = refl

-- it is found from the program, and from a routine of a later unit
-- unit 1: var v: integer; begin v := 5 end.
-- unit 2: procedure show; begin write(v) end;
-- begin v := v + 1; show end.
variable_of_a_unit_in_turbo_and_ucsd : InEach (Turbo ∷ Ucsd ∷ []) (λ d. whole d [] (procedure 1 (Owner.UnitPart 1) [] [] [] (perform call.Write (shown (read (variable 1 small) []) ∷ []) ∷ []) ∷ []) (unit_of (of_type small 1 ∷ []) [] (assign_to small (variable 1 small) [] (num 5) ∷ []) ∷ unit_of [] [] [] ∷ []) [] [] (assign_to small (variable 1 small) [] (chain (read (variable 1 small) []) ((op.Add, num 1, small) ∷ [])) ∷ S.Call (CalleeRoutine 1) [] ∷ [])) [] 1 (End (codes "6") 0 (1 ∷ []))
unfolding run
variable_of_a_unit_in_turbo_and_ucsd = (refl, (refl, tt))

variable_of_a_unit_in_hp : run (whole Hp [] (procedure 1 (Owner.UnitPart 1) [] [] [] (perform call.Write (shown (read (variable 1 integer) []) ∷ []) ∷ []) ∷ []) (unit_of (of_type integer 1 ∷ []) [] (assign_to integer (variable 1 integer) [] (num 5) ∷ []) ∷ unit_of [] [] [] ∷ []) [] [] (assign_to integer (variable 1 integer) [] (chain (read (variable 1 integer) []) ((op.Add, num 1, integer) ∷ [])) ∷ S.Call (CalleeRoutine 1) [] ∷ [])) [] 1 ≡ End (codes "6") 0 (1 ∷ [])
unfolding run
variable_of_a_unit_in_hp = refl

-- unit 1: begin write('a'); exit; write('no') end.
-- begin write('p'); exit; write('no') end.
exit_ends_the_initial_part : run (whole Turbo (Literal 2 ∷ []) [] (unit_of [] [] (perform call.Write (shown (letter 97) ∷ []) ∷ perform call.Exit [] ∷ perform call.Write (shown (quoted 5 (codes "no")) ∷ []) ∷ []) ∷ []) [] [] (perform call.Write (shown (letter 112) ∷ []) ∷ perform call.Exit [] ∷ perform call.Write (shown (quoted 5 (codes "no")) ∷ []) ∷ [])) [] 0 ≡ End (codes "ap") 0 []
unfolding run
exit_ends_the_initial_part = refl

-- unit 1: begin write('a'); exit(program) end.
-- begin write('p') end.
exit_of_the_program_in_an_initial_part : run (whole Ucsd [] [] (unit_of [] [] (perform call.Write (shown (letter 97) ∷ []) ∷ perform call.ExitProgram [] ∷ []) ∷ []) [] [] (perform call.Write (shown (letter 112) ∷ []) ∷ [])) [] 0 ≡ End (codes "a") 0 []
unfolding run
exit_of_the_program_in_an_initial_part = refl

-- unit 1: label 1; begin write('a'); goto 1; write('no'); 1: end.
-- begin write('p') end.
goto_in_an_initial_part : InEach (Turbo ∷ Ucsd ∷ Hp ∷ []) (λ d. whole d (Literal 2 ∷ []) [] (unit_of [] (1 ∷ []) (perform call.Write (shown (letter 97) ∷ []) ∷ S.Goto 1 ∷ perform call.Write (shown (quoted 5 (codes "no")) ∷ []) ∷ labelled 1 (S.Empty) ∷ []) ∷ []) [] [] (perform call.Write (shown (letter 112) ∷ []) ∷ [])) [] 1 (End (codes "ap") 0 [])
unfolding run
goto_in_an_initial_part = (refl, (refl, (refl, tt)))

-- unit 1: begin write('a'); write(1 div 0) end.
-- begin write('p') end.
error_in_an_initial_part_in_turbo_and_ucsd : InEach (Turbo ∷ Ucsd ∷ []) (λ d. whole d [] [] (unit_of [] [] (perform call.Write (shown (letter 97) ∷ []) ∷ perform call.Write (shown (chain (num 1) ((op.Div, num 0, small) ∷ [])) ∷ []) ∷ []) ∷ []) [] [] (perform call.Write (shown (letter 112) ∷ []) ∷ [])) [] 0 (End (codes "a") 200 [])
unfolding run
error_in_an_initial_part_in_turbo_and_ucsd = (refl, (refl, tt))

error_in_an_initial_part_in_hp : run (whole Hp [] [] (unit_of [] [] (perform call.Write (shown (letter 97) ∷ []) ∷ perform call.Write (shown (chain (num 1) ((op.Div, num 0, integer) ∷ [])) ∷ []) ∷ []) ∷ []) [] [] (perform call.Write (shown (letter 112) ∷ []) ∷ [])) [] 0 ≡ End (codes "a") 200 []
unfolding run
error_in_an_initial_part_in_hp = refl

-- a routine of the first unit finds a variable of the second
-- unit 1: procedure show; begin write(w) end;
-- unit 2: var w: integer; begin w := 7 end.
-- begin show end.
unit_uses_a_later_one : run (whole Turbo [] (procedure 1 (Owner.UnitPart 0) [] [] [] (perform call.Write (shown (read (variable 1 small) []) ∷ []) ∷ []) ∷ []) (unit_of [] [] [] ∷ unit_of (of_type small 1 ∷ []) [] (assign_to small (variable 1 small) [] (num 7) ∷ []) ∷ []) [] [] (S.Call (CalleeRoutine 1) [] ∷ [])) [] 1 ≡ End (codes "7") 0 (1 ∷ [])
unfolding run
unit_uses_a_later_one = refl

-- each turn begins by storing its value, whatever a routine of the second unit stored before
-- unit 1: var i: integer; begin for i := 1 to 3 do begin q; write(i) end end.
-- unit 2: procedure q; begin write(i); i := 7 end;
-- begin end.
assignment_by_another_unit_changes_no_turn : InEach (Turbo ∷ Ucsd ∷ []) (λ d. whole d [] (procedure 1 (Owner.UnitPart 1) [] [] [] (perform call.Write (shown (read (variable 1 small) []) ∷ []) ∷ assign_to small (variable 1 small) [] (num 7) ∷ []) ∷ []) (unit_of (of_type small 1 ∷ []) [] (for_of small 1 false (num 1) (num 3) (seq (S.Call (CalleeRoutine 1) [] ∷ perform call.Write (shown (read (variable 1 small) []) ∷ []) ∷ [])) ∷ []) ∷ unit_of [] [] [] ∷ []) [] [] []) [] 6 (End (codes "172737") 0 (1 ∷ 1 ∷ 1 ∷ []))
unfolding run
assignment_by_another_unit_changes_no_turn = (refl, (refl, tt))
