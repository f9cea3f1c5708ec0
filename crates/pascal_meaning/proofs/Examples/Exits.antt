-- Goto, exit, halt, try and escape.
use Rattle.std.proofs.Common.{◌≡◌, [], ◌∷◌, refl, false}
use Rattle.std.specs.Prelude.{codes}
use Rattle.p2c_text.specs.declared.dialect.Dialect.TheVariants.{Iso, Turbo, Ucsd, Hp}
use Rattle.typed_tree.specs.declared.types.PasType.TheVariants.{Literal}
use Rattle.typed_tree.specs.declared.declarations.Callee.TheVariants.{Routine as CalleeRoutine, Formal}
use Rattle.typed_tree.specs.declared.declarations.Owner.TheVariants as Owner
use Rattle.typed_tree.specs.declared.declarations.Owner.TheVariants.{Program}
use Rattle.typed_tree.specs.declared.expressions.TypedArg.TheVariants as arg
use Rattle.typed_tree.specs.declared.operations.BinaryOp.TheVariants as op
use Rattle.typed_tree.specs.declared.operations.PredefCall.TheVariants as call
use Rattle.typed_tree.specs.declared.statements.TypedStmt as S
use Rattle.meanings.specs.Code.{End, CutAfter}
use Rattle.pascal_meaning.specs.Whole.{run}
use Rattle.pascal_meaning.proofs.Examples.Build.{integer, small, boolean, num, letter, truth, quoted, chain, read, variable, outcome, call, predefined, value_for, shown, assign_to, seq, if_then, if_else, for_of, try, labelled, perform, of_type, section, section_procedures, procedure, function, whole, line, InEach}

-- procedure o; procedure i; begin exit(o) end; begin write('a'); i; write('b') end; begin o; write('c') end.
exit_of_an_enclosing_routine : run (whole Ucsd [] (procedure 1 Program [] [] [] (perform call.Write (shown (letter 97) ∷ []) ∷ S.Call (CalleeRoutine 2) [] ∷ perform call.Write (shown (letter 98) ∷ []) ∷ []) ∷ procedure 2 (Owner.Routine 1) [] [] [] (perform call.ExitRoutine (arg.RoutineValue (CalleeRoutine 1) ∷ []) ∷ []) ∷ []) [] [] [] (S.Call (CalleeRoutine 1) [] ∷ perform call.Write (shown (letter 99) ∷ []) ∷ [])) [] 2 ≡ End (codes "ac") 0 (1 ∷ 2 ∷ [])
unfolding run
exit_of_an_enclosing_routine = refl

-- not the newest activation of o is left
-- procedure o(n: integer; procedure q); procedure i; begin exit(o) end; begin if n = 1 then begin o(2, i); write('x') end else begin q; write('y') end end; procedure none; begin end; begin o(1, none); write('c') end.
exit_of_the_statically_enclosing_activation : run (whole Ucsd [] (procedure 1 Program (section small (1 ∷ []) ∷ section_procedures (2 ∷ []) ∷ []) [] [] (if_else (chain (read (variable 1 small) []) ((op.Equal, num 1, boolean) ∷ [])) (seq (S.Call (CalleeRoutine 1) (value_for small (num 2) ∷ arg.RoutineValue (CalleeRoutine 2) ∷ []) ∷ perform call.Write (shown (letter 120) ∷ []) ∷ [])) (seq (S.Call (Formal 2) [] ∷ perform call.Write (shown (letter 121) ∷ []) ∷ [])) ∷ []) ∷ procedure 2 (Owner.Routine 1) [] [] [] (perform call.ExitRoutine (arg.RoutineValue (CalleeRoutine 1) ∷ []) ∷ []) ∷ procedure 3 Program [] [] [] (S.Empty ∷ []) ∷ []) [] [] [] (S.Call (CalleeRoutine 1) (value_for small (num 1) ∷ arg.RoutineValue (CalleeRoutine 3) ∷ []) ∷ perform call.Write (shown (letter 99) ∷ []) ∷ [])) [] 3 ≡ End (codes "c") 0 (1 ∷ 1 ∷ 2 ∷ [])
unfolding run
exit_of_the_statically_enclosing_activation = refl

-- procedure p; begin write('p'); exit(program) end; begin p; write('no') end.
exit_of_the_program : run (whole Ucsd (Literal 2 ∷ []) (procedure 1 Program [] [] [] (perform call.Write (shown (letter 112) ∷ []) ∷ perform call.ExitProgram [] ∷ []) ∷ []) [] [] [] (S.Call (CalleeRoutine 1) [] ∷ perform call.Write (shown (quoted 5 (codes "no")) ∷ []) ∷ [])) [] 1 ≡ End (codes "p") 0 (1 ∷ [])
unfolding run
exit_of_the_program = refl

-- procedure p(n: integer); begin write('a'); if n = 1 then exit; write('b') end; begin p(1); p(2); exit; write('no') end.
exit_of_the_routine : run (whole Turbo (Literal 2 ∷ []) (procedure 1 Program (section small (1 ∷ []) ∷ []) [] [] (perform call.Write (shown (letter 97) ∷ []) ∷ if_then (chain (read (variable 1 small) []) ((op.Equal, num 1, boolean) ∷ [])) (perform call.Exit []) ∷ perform call.Write (shown (letter 98) ∷ []) ∷ []) ∷ []) [] [] [] (S.Call (CalleeRoutine 1) (value_for small (num 1) ∷ []) ∷ S.Call (CalleeRoutine 1) (value_for small (num 2) ∷ []) ∷ perform call.Exit [] ∷ perform call.Write (shown (quoted 5 (codes "no")) ∷ []) ∷ [])) [] 2 ≡ End (codes "aab") 0 (1 ∷ 1 ∷ [])
unfolding run
exit_of_the_routine = refl

-- function f: integer; begin f := 3; exit; f := 4 end; begin write(f) end.
exit_gives_the_result : run (whole Turbo [] (function 1 Program [] (of_type small 1) [] (assign_to small (outcome 1 small) [] (num 3) ∷ perform call.Exit [] ∷ assign_to small (outcome 1 small) [] (num 4) ∷ []) ∷ []) [] [] [] (perform call.Write (shown (call (CalleeRoutine 1) [] small) ∷ []) ∷ [])) [] 1 ≡ End (codes "3") 0 (1 ∷ [])
unfolding run
exit_gives_the_result = refl

-- begin try escape(7) recover writeln(escapecode); escape(5) end.
escape_is_caught_once : run (whole Hp [] [] [] [] [] (try (perform call.Escape (value_for integer (num 7) ∷ []) ∷ []) (perform call.Writeln (shown (predefined call.EscapeCode [] integer) ∷ [])) ∷ perform call.Escape (value_for integer (num 5) ∷ []) ∷ [])) [] 0 ≡ End (line (codes "7")) 209 []
unfolding run
escape_is_caught_once = refl

-- its code is that of the range error
-- begin try escape(2147483648) recover write(escapecode) end.
escape_out_of_range : run (whole Hp [] [] [] [] [] (try (perform call.Escape (value_for integer (num 2147483648) ∷ []) ∷ []) (perform call.Write (shown (predefined call.EscapeCode [] integer) ∷ [])) ∷ [])) [] 0 ≡ End (codes "-201") 0 []
unfolding run
escape_out_of_range = refl

-- procedure p; begin try halt(4) recover write('no') end; begin p end.
halt_passes_a_try : run (whole Hp (Literal 2 ∷ []) (procedure 1 Program [] [] [] (try (perform call.Halt (value_for integer (num 4) ∷ []) ∷ []) (perform call.Write (shown (quoted 5 (codes "no")) ∷ [])) ∷ []) ∷ []) [] [] [] (S.Call (CalleeRoutine 1) [] ∷ [])) [] 1 ≡ End [] 4 (1 ∷ [])
unfolding run
halt_passes_a_try = refl

-- procedure p; begin write('p'); halt end; begin p; write('no') end.
halt_without_a_number : InEach (Turbo ∷ Ucsd ∷ Hp ∷ []) (λ d. whole d (Literal 2 ∷ []) (procedure 1 Program [] [] [] (perform call.Write (shown (letter 112) ∷ []) ∷ perform call.Halt [] ∷ []) ∷ []) [] [] [] (S.Call (CalleeRoutine 1) [] ∷ perform call.Write (shown (quoted 5 (codes "no")) ∷ []) ∷ [])) [] 1 (End (codes "p") 0 (1 ∷ []))
unfolding run
halt_without_a_number = (refl, (refl, (refl, tt)))

-- each resumed sequence is at the bound below
-- label 1; var i: integer; begin i := 0; 1: i := i + 1; if i < 4 then goto 1; write(i) end.
goto_repeats_a_sequence_in_iso_and_hp : InEach (Iso ∷ Hp ∷ []) (λ d. whole d [] [] [] (of_type integer 2 ∷ []) (1 ∷ []) (assign_to integer (variable 2 integer) [] (num 0) ∷ labelled 1 (assign_to integer (variable 2 integer) [] (chain (read (variable 2 integer) []) ((op.Add, num 1, integer) ∷ []))) ∷ if_then (chain (read (variable 2 integer) []) ((op.Less, num 4, boolean) ∷ [])) (S.Goto 1) ∷ perform call.Write (shown (read (variable 2 integer) []) ∷ []) ∷ [])) [] 3 (End (codes "4") 0 [])
unfolding run
goto_repeats_a_sequence_in_iso_and_hp = (refl, (refl, tt))

goto_repeats_a_sequence_in_turbo_and_ucsd : InEach (Turbo ∷ Ucsd ∷ []) (λ d. whole d [] [] [] (of_type small 2 ∷ []) (1 ∷ []) (assign_to small (variable 2 small) [] (num 0) ∷ labelled 1 (assign_to small (variable 2 small) [] (chain (read (variable 2 small) []) ((op.Add, num 1, small) ∷ []))) ∷ if_then (chain (read (variable 2 small) []) ((op.Less, num 4, boolean) ∷ [])) (S.Goto 1) ∷ perform call.Write (shown (read (variable 2 small) []) ∷ []) ∷ [])) [] 3 (End (codes "4") 0 [])
unfolding run
goto_repeats_a_sequence_in_turbo_and_ucsd = (refl, (refl, tt))

-- label 1; var i: integer; begin i := 0; 1: i := i + 1; write(i); if i < 4 then goto 1; write('x') end.
goto_is_cut_in_iso_and_hp : InEach (Iso ∷ Hp ∷ []) (λ d. whole d [] [] [] (of_type integer 2 ∷ []) (1 ∷ []) (assign_to integer (variable 2 integer) [] (num 0) ∷ labelled 1 (assign_to integer (variable 2 integer) [] (chain (read (variable 2 integer) []) ((op.Add, num 1, integer) ∷ []))) ∷ perform call.Write (shown (read (variable 2 integer) []) ∷ []) ∷ if_then (chain (read (variable 2 integer) []) ((op.Less, num 4, boolean) ∷ [])) (S.Goto 1) ∷ perform call.Write (shown (letter 120) ∷ []) ∷ [])) [] 2 (CutAfter (codes "123") [])
unfolding run
goto_is_cut_in_iso_and_hp = (refl, (refl, tt))

goto_is_cut_in_turbo_and_ucsd : InEach (Turbo ∷ Ucsd ∷ []) (λ d. whole d [] [] [] (of_type small 2 ∷ []) (1 ∷ []) (assign_to small (variable 2 small) [] (num 0) ∷ labelled 1 (assign_to small (variable 2 small) [] (chain (read (variable 2 small) []) ((op.Add, num 1, small) ∷ []))) ∷ perform call.Write (shown (read (variable 2 small) []) ∷ []) ∷ if_then (chain (read (variable 2 small) []) ((op.Less, num 4, boolean) ∷ [])) (S.Goto 1) ∷ perform call.Write (shown (letter 120) ∷ []) ∷ [])) [] 2 (CutAfter (codes "123") [])
unfolding run
goto_is_cut_in_turbo_and_ucsd = (refl, (refl, tt))

-- label 1; var i: integer; begin for i := 1 to 9 do begin write(i); if i = 2 then goto 1 end; write('no'); 1: write('out') end.
goto_leaves_loops_in_iso_and_hp : InEach (Iso ∷ Hp ∷ []) (λ d. whole d (Literal 2 ∷ Literal 3 ∷ []) [] [] (of_type integer 2 ∷ []) (1 ∷ []) (for_of integer 2 false (num 1) (num 9) (seq (perform call.Write (shown (read (variable 2 integer) []) ∷ []) ∷ if_then (chain (read (variable 2 integer) []) ((op.Equal, num 2, boolean) ∷ [])) (S.Goto 1) ∷ [])) ∷ perform call.Write (shown (quoted 5 (codes "no")) ∷ []) ∷ labelled 1 (perform call.Write (shown (quoted 6 (codes "out")) ∷ [])) ∷ [])) [] 3 (End (codes "12out") 0 [])
unfolding run
goto_leaves_loops_in_iso_and_hp = (refl, (refl, tt))

goto_leaves_loops_in_turbo_and_ucsd : InEach (Turbo ∷ Ucsd ∷ []) (λ d. whole d (Literal 2 ∷ Literal 3 ∷ []) [] [] (of_type small 2 ∷ []) (1 ∷ []) (for_of small 2 false (num 1) (num 9) (seq (perform call.Write (shown (read (variable 2 small) []) ∷ []) ∷ if_then (chain (read (variable 2 small) []) ((op.Equal, num 2, boolean) ∷ [])) (S.Goto 1) ∷ [])) ∷ perform call.Write (shown (quoted 5 (codes "no")) ∷ []) ∷ labelled 1 (perform call.Write (shown (quoted 6 (codes "out")) ∷ [])) ∷ [])) [] 3 (End (codes "12out") 0 [])
unfolding run
goto_leaves_loops_in_turbo_and_ucsd = (refl, (refl, tt))

-- label 1; var i: integer; begin i := 0; if true then 1: begin i := i + 1; write(i); if i < 3 then goto 1 end; write('b') end.
goto_to_the_statement_around_in_iso_and_hp : InEach (Iso ∷ Hp ∷ []) (λ d. whole d [] [] [] (of_type integer 2 ∷ []) (1 ∷ []) (assign_to integer (variable 2 integer) [] (num 0) ∷ if_then (truth 1) (labelled 1 (seq (assign_to integer (variable 2 integer) [] (chain (read (variable 2 integer) []) ((op.Add, num 1, integer) ∷ [])) ∷ perform call.Write (shown (read (variable 2 integer) []) ∷ []) ∷ if_then (chain (read (variable 2 integer) []) ((op.Less, num 3, boolean) ∷ [])) (S.Goto 1) ∷ []))) ∷ perform call.Write (shown (letter 98) ∷ []) ∷ [])) [] 3 (End (codes "123b") 0 [])
unfolding run
goto_to_the_statement_around_in_iso_and_hp = (refl, (refl, tt))

goto_to_the_statement_around_in_turbo_and_ucsd : InEach (Turbo ∷ Ucsd ∷ []) (λ d. whole d [] [] [] (of_type small 2 ∷ []) (1 ∷ []) (assign_to small (variable 2 small) [] (num 0) ∷ if_then (truth 1) (labelled 1 (seq (assign_to small (variable 2 small) [] (chain (read (variable 2 small) []) ((op.Add, num 1, small) ∷ [])) ∷ perform call.Write (shown (read (variable 2 small) []) ∷ []) ∷ if_then (chain (read (variable 2 small) []) ((op.Less, num 3, boolean) ∷ [])) (S.Goto 1) ∷ []))) ∷ perform call.Write (shown (letter 98) ∷ []) ∷ [])) [] 3 (End (codes "123b") 0 [])
unfolding run
goto_to_the_statement_around_in_turbo_and_ucsd = (refl, (refl, tt))

-- the sequence of the body is resumed, and the turn goes on
-- label 1; var i, n: integer; begin n := 0; for i := 1 to 2 do begin 1: n := n + 1; write(n); if n = 2 then goto 1 end end.
goto_within_a_loop_in_iso_and_hp : InEach (Iso ∷ Hp ∷ []) (λ d. whole d [] [] [] (of_type integer 2 ∷ of_type integer 3 ∷ []) (1 ∷ []) (assign_to integer (variable 3 integer) [] (num 0) ∷ for_of integer 2 false (num 1) (num 2) (seq (labelled 1 (assign_to integer (variable 3 integer) [] (chain (read (variable 3 integer) []) ((op.Add, num 1, integer) ∷ []))) ∷ perform call.Write (shown (read (variable 3 integer) []) ∷ []) ∷ if_then (chain (read (variable 3 integer) []) ((op.Equal, num 2, boolean) ∷ [])) (S.Goto 1) ∷ [])) ∷ [])) [] 9 (End (codes "123") 0 [])
unfolding run
goto_within_a_loop_in_iso_and_hp = (refl, (refl, tt))

goto_within_a_loop_in_turbo_and_ucsd : InEach (Turbo ∷ Ucsd ∷ []) (λ d. whole d [] [] [] (of_type small 2 ∷ of_type small 3 ∷ []) (1 ∷ []) (assign_to small (variable 3 small) [] (num 0) ∷ for_of small 2 false (num 1) (num 2) (seq (labelled 1 (assign_to small (variable 3 small) [] (chain (read (variable 3 small) []) ((op.Add, num 1, small) ∷ []))) ∷ perform call.Write (shown (read (variable 3 small) []) ∷ []) ∷ if_then (chain (read (variable 3 small) []) ((op.Equal, num 2, boolean) ∷ [])) (S.Goto 1) ∷ [])) ∷ [])) [] 9 (End (codes "123") 0 [])
unfolding run
goto_within_a_loop_in_turbo_and_ucsd = (refl, (refl, tt))

-- label 1; var i: integer; function f: integer; begin f := 1; goto 1 end; begin i := 5; i := f; write('no'); 1: write(i) end.
goto_out_of_a_function_in_iso_and_hp : InEach (Iso ∷ Hp ∷ []) (λ d. whole d (Literal 2 ∷ []) (function 1 Program [] (of_type integer 3) [] (assign_to integer (outcome 3 integer) [] (num 1) ∷ S.Goto 1 ∷ []) ∷ []) [] (of_type integer 2 ∷ []) (1 ∷ []) (assign_to integer (variable 2 integer) [] (num 5) ∷ assign_to integer (variable 2 integer) [] (call (CalleeRoutine 1) [] integer) ∷ perform call.Write (shown (quoted 5 (codes "no")) ∷ []) ∷ labelled 1 (perform call.Write (shown (read (variable 2 integer) []) ∷ [])) ∷ [])) [] 2 (End (codes "5") 0 (1 ∷ []))
unfolding run
goto_out_of_a_function_in_iso_and_hp = (refl, (refl, tt))

goto_out_of_a_function_in_turbo_and_ucsd : InEach (Turbo ∷ Ucsd ∷ []) (λ d. whole d (Literal 2 ∷ []) (function 1 Program [] (of_type small 3) [] (assign_to small (outcome 3 small) [] (num 1) ∷ S.Goto 1 ∷ []) ∷ []) [] (of_type small 2 ∷ []) (1 ∷ []) (assign_to small (variable 2 small) [] (num 5) ∷ assign_to small (variable 2 small) [] (call (CalleeRoutine 1) [] small) ∷ perform call.Write (shown (quoted 5 (codes "no")) ∷ []) ∷ labelled 1 (perform call.Write (shown (read (variable 2 small) []) ∷ [])) ∷ [])) [] 2 (End (codes "5") 0 (1 ∷ []))
unfolding run
goto_out_of_a_function_in_turbo_and_ucsd = (refl, (refl, tt))

-- begin try write('a'); write('b') recover write('no'); write(escapecode) end.
try_without_a_raise : run (whole Hp (Literal 2 ∷ []) [] [] [] [] (try (perform call.Write (shown (letter 97) ∷ []) ∷ perform call.Write (shown (letter 98) ∷ []) ∷ []) (perform call.Write (shown (quoted 5 (codes "no")) ∷ [])) ∷ perform call.Write (shown (predefined call.EscapeCode [] integer) ∷ []) ∷ [])) [] 0 ≡ End (codes "ab0") 0 []
unfolding run
try_without_a_raise = refl

-- it goes on outward, and the code is the last caught one
-- begin try try escape(1) recover begin write(escapecode); escape(2) end recover write(escapecode); write(escapecode) end.
raise_in_the_recover_part : run (whole Hp [] [] [] [] [] (try (try (perform call.Escape (value_for integer (num 1) ∷ []) ∷ []) (seq (perform call.Write (shown (predefined call.EscapeCode [] integer) ∷ []) ∷ perform call.Escape (value_for integer (num 2) ∷ []) ∷ [])) ∷ []) (perform call.Write (shown (predefined call.EscapeCode [] integer) ∷ [])) ∷ perform call.Write (shown (predefined call.EscapeCode [] integer) ∷ []) ∷ [])) [] 0 ≡ End (codes "122") 0 []
unfolding run
raise_in_the_recover_part = refl

-- var i: integer; begin i := 1; try i := 2; write('a'); escape(3); i := 3 recover write(i) end.
what_was_done_before_the_raise_stays : run (whole Hp [] [] [] (of_type integer 1 ∷ []) [] (assign_to integer (variable 1 integer) [] (num 1) ∷ try (assign_to integer (variable 1 integer) [] (num 2) ∷ perform call.Write (shown (letter 97) ∷ []) ∷ perform call.Escape (value_for integer (num 3) ∷ []) ∷ assign_to integer (variable 1 integer) [] (num 3) ∷ []) (perform call.Write (shown (read (variable 1 integer) []) ∷ [])) ∷ [])) [] 0 ≡ End (codes "a2") 0 []
unfolding run
what_was_done_before_the_raise_stays = refl

-- begin try escape(3) recover write(1 div 0) end.
error_number_is_the_status : run (whole Hp [] [] [] [] [] (try (perform call.Escape (value_for integer (num 3) ∷ []) ∷ []) (perform call.Write (shown (chain (num 1) ((op.Div, num 0, integer) ∷ [])) ∷ [])) ∷ [])) [] 0 ≡ End [] 200 []
unfolding run
error_number_is_the_status = refl
