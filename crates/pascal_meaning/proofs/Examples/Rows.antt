-- Small programs of many kinds.
use Rattle.std.proofs.Common.{◌≡◌, [], ◌∷◌, ◌++◌, refl, false, Some, None}
use Rattle.std.specs.Prelude.{codes, pos}
use Rattle.p2c_text.specs.declared.dialect.Dialect.TheVariants.{Iso, Turbo, Ucsd, Hp}
use Rattle.typed_tree.specs.declared.types.Host.TheVariants.{Whole as WholeHost}
use Rattle.typed_tree.specs.declared.types.Packing.TheVariants.{Either}
use Rattle.typed_tree.specs.declared.types.PasType.TheVariants.{Ordinal, Pointer, Array, DynString, Literal, RecordOf, SetOf as SetType}
use Rattle.typed_tree.specs.declared.declarations.Callee.TheVariants.{Routine as CalleeRoutine, Formal}
use Rattle.typed_tree.specs.declared.declarations.Owner.TheVariants as Owner
use Rattle.typed_tree.specs.declared.declarations.Owner.TheVariants.{Program}
use Rattle.typed_tree.specs.declared.expressions.Root.TheVariants as root
use Rattle.typed_tree.specs.declared.expressions.Selector.TheVariants as selector
use Rattle.typed_tree.specs.declared.expressions.TypedArg.TheVariants as arg
use Rattle.typed_tree.specs.declared.expressions.TypedExpr as X
use Rattle.typed_tree.specs.declared.operations.BinaryOp.TheVariants as op
use Rattle.typed_tree.specs.declared.operations.UnaryOp.TheVariants as un
use Rattle.typed_tree.specs.declared.operations.PredefCall.TheVariants as call
use Rattle.typed_tree.specs.declared.statements.TypedStmt as S
use Rattle.meanings.specs.Code.{End, CutAfter}
use Rattle.pascal_meaning.specs.Whole.{run}
use Rattle.pascal_meaning.proofs.Examples.Build.{integer, small, char, boolean, set_of, field, label_of, arm, variant_part, num, letter, truth, quoted, unary, chain, read, variable, outcome, call, set, predefined, value_for, by_reference, shown, wide, assign_to, seq, if_else, repeat_until, for_of, with_part, with_all, try, labelled, case_of, perform, of_type, section, section_procedures, section_functions, procedure, function, unit_of, whole, line, InEach}

-- a quote is written twice
-- begin writeln('it''s') end.
quote_in_a_text : InEach (Iso ∷ Turbo ∷ Ucsd ∷ Hp ∷ []) (λ d. whole d (Literal 4 ∷ []) [] [] [] [] (perform call.Writeln (shown (quoted 5 (codes "it's")) ∷ []) ∷ [])) [] 0 (End (line (codes "it's")) 0 [])
unfolding run
quote_in_a_text = (refl, (refl, (refl, (refl, tt))))

-- nothing is done
-- begin end.
empty_program : InEach (Iso ∷ Turbo ∷ Ucsd ∷ Hp ∷ []) (λ d. whole d [] [] [] [] [] (S.Empty ∷ [])) [] 0 (End [] 0 [])
unfolding run
empty_program = (refl, (refl, (refl, (refl, tt))))

-- the sum is exact, and the store is out of range
-- var x: integer; begin writeln(maxint); x := maxint + 1; writeln('no') end.
integer_of_sixteen_bits : run (whole Turbo (Literal 2 ∷ []) [] [] (of_type small 1 ∷ []) [] (perform call.Writeln (shown (num 32767) ∷ []) ∷ assign_to small (variable 1 small) [] (chain (num 32767) ((op.Add, num 1, small) ∷ [])) ∷ perform call.Writeln (shown (quoted 5 (codes "no")) ∷ []) ∷ [])) [] 0 ≡ End (line (codes "32767")) 201 []
unfolding run
integer_of_sixteen_bits = refl

-- a sign stands before the whole term
-- begin writeln((-7) mod 3, ' ', -7 mod 3) end.
remainder_with_the_divisors_sign : InEach (Iso ∷ Hp ∷ []) (λ d. whole d [] [] [] [] [] (perform call.Writeln (shown (chain (unary integer un.Minus (num 7)) ((op.Mod, num 3, integer) ∷ [])) ∷ shown (letter 32) ∷ shown (unary integer un.Minus (chain (num 7) ((op.Mod, num 3, integer) ∷ []))) ∷ []) ∷ [])) [] 0 (End (line (codes "2 -1")) 0 [])
unfolding run
remainder_with_the_divisors_sign = (refl, (refl, tt))

-- begin writeln((-7) mod 3, ' ', -7 mod 3) end.
remainder_with_the_dividends_sign : InEach (Turbo ∷ Ucsd ∷ []) (λ d. whole d [] [] [] [] [] (perform call.Writeln (shown (chain (unary small un.Minus (num 7)) ((op.Mod, num 3, small) ∷ [])) ∷ shown (letter 32) ∷ shown (unary small un.Minus (chain (num 7) ((op.Mod, num 3, small) ∷ []))) ∷ []) ∷ [])) [] 0 (End (line (codes "-1 -1")) 0 [])
unfolding run
remainder_with_the_dividends_sign = (refl, (refl, tt))

-- begin writeln(5 mod 0) end.
remainder_by_zero_in_iso_and_hp : InEach (Iso ∷ Hp ∷ []) (λ d. whole d [] [] [] [] [] (perform call.Writeln (shown (chain (num 5) ((op.Mod, num 0, integer) ∷ [])) ∷ []) ∷ [])) [] 0 (End [] 200 [])
unfolding run
remainder_by_zero_in_iso_and_hp = (refl, (refl, tt))

remainder_by_zero_in_turbo_and_ucsd : InEach (Turbo ∷ Ucsd ∷ []) (λ d. whole d [] [] [] [] [] (perform call.Writeln (shown (chain (num 5) ((op.Mod, num 0, small) ∷ [])) ∷ []) ∷ [])) [] 0 (End [] 200 [])
unfolding run
remainder_by_zero_in_turbo_and_ucsd = (refl, (refl, tt))

-- a loop ends at the greatest value, and another has no turn
-- var c: char; i: integer; begin for c := chr(254) to chr(255) do write(ord(c):4); for i := 5 to 4 do write('x') end.
up_to_the_last_char_in_iso_and_hp : InEach (Iso ∷ Hp ∷ []) (λ d. whole d [] [] [] (of_type char 1 ∷ of_type integer 2 ∷ []) [] (for_of char 1 false (predefined call.Chr (value_for integer (num 254) ∷ []) char) (predefined call.Chr (value_for integer (num 255) ∷ []) char) (perform call.Write (wide (predefined call.Ord (value_for char (read (variable 1 char) []) ∷ []) integer) (num 4) ∷ [])) ∷ for_of integer 2 false (num 5) (num 4) (perform call.Write (shown (letter 120) ∷ [])) ∷ [])) [] 5 (End (codes " 254 255") 0 [])
unfolding run
up_to_the_last_char_in_iso_and_hp = (refl, (refl, tt))

up_to_the_last_char_in_turbo_and_ucsd : InEach (Turbo ∷ Ucsd ∷ []) (λ d. whole d [] [] [] (of_type char 1 ∷ of_type small 2 ∷ []) [] (for_of char 1 false (predefined call.Chr (value_for small (num 254) ∷ []) char) (predefined call.Chr (value_for small (num 255) ∷ []) char) (perform call.Write (wide (predefined call.Ord (value_for char (read (variable 1 char) []) ∷ []) small) (num 4) ∷ [])) ∷ for_of small 2 false (num 5) (num 4) (perform call.Write (shown (letter 120) ∷ [])) ∷ [])) [] 5 (End (codes " 254 255") 0 [])
unfolding run
up_to_the_last_char_in_turbo_and_ucsd = (refl, (refl, tt))

-- begin case 3 of 1: write('a') end end.
case_without_a_label_raises : InEach (Iso ∷ Hp ∷ []) (λ d. whole d [] [] [] [] [] (case_of (num 3) (((label_of (pos 1) ∷ []), perform call.Write (shown (letter 97) ∷ [])) ∷ []) ∷ [])) [] 0 (End [] 204 [])
unfolding run
case_without_a_label_raises = (refl, (refl, tt))

-- begin case 3 of 1: write('a') end end.
case_without_a_label_does_nothing : InEach (Turbo ∷ Ucsd ∷ []) (λ d. whole d [] [] [] [] [] (case_of (num 3) (((label_of (pos 1) ∷ []), perform call.Write (shown (letter 97) ∷ [])) ∷ []) ∷ [])) [] 0 (End [] 0 [])
unfolding run
case_without_a_label_does_nothing = (refl, (refl, tt))

-- f assigns a after a was read
-- var a: integer; function f: integer; begin a := 10; f := 5 end; begin a := 1; writeln(a + f) end.
left_operand_is_read_first_in_iso_and_hp : InEach (Iso ∷ Hp ∷ []) (λ d. whole d [] (function 1 Program [] (of_type integer 2) [] (assign_to integer (variable 1 integer) [] (num 10) ∷ assign_to integer (outcome 2 integer) [] (num 5) ∷ []) ∷ []) [] (of_type integer 1 ∷ []) [] (assign_to integer (variable 1 integer) [] (num 1) ∷ perform call.Writeln (shown (chain (read (variable 1 integer) []) ((op.Add, call (CalleeRoutine 1) [] integer, integer) ∷ [])) ∷ []) ∷ [])) [] 1 (End (line (codes "6")) 0 (1 ∷ []))
unfolding run
left_operand_is_read_first_in_iso_and_hp = (refl, (refl, tt))

left_operand_is_read_first_in_turbo_and_ucsd : InEach (Turbo ∷ Ucsd ∷ []) (λ d. whole d [] (function 1 Program [] (of_type small 2) [] (assign_to small (variable 1 small) [] (num 10) ∷ assign_to small (outcome 2 small) [] (num 5) ∷ []) ∷ []) [] (of_type small 1 ∷ []) [] (assign_to small (variable 1 small) [] (num 1) ∷ perform call.Writeln (shown (chain (read (variable 1 small) []) ((op.Add, call (CalleeRoutine 1) [] small, small) ∷ [])) ∷ []) ∷ [])) [] 1 (End (line (codes "6")) 0 (1 ∷ []))
unfolding run
left_operand_is_read_first_in_turbo_and_ucsd = (refl, (refl, tt))

-- a routine value keeps the activation of its parent
-- function a(k: integer; function x1: integer; function x2: integer; function x3: integer; function x4: integer; function x5: integer): integer; function b: integer; begin k := k - 1; b := a(k, b, x1, x2, x3, x4) end; begin if k <= 0 then a := x4 + x5 else a := b end; function p: integer; begin p := 1 end; function n: integer; begin n := -1 end; function z: integer; begin z := 0 end; begin writeln(a(4, p, n, n, p, z)) end.
man_or_boy_in_iso_and_hp : InEach (Iso ∷ Hp ∷ []) (λ d. whole d [] (function 1 Program (section integer (2 ∷ []) ∷ section_functions integer (3 ∷ []) ∷ section_functions integer (4 ∷ []) ∷ section_functions integer (5 ∷ []) ∷ section_functions integer (6 ∷ []) ∷ section_functions integer (7 ∷ []) ∷ []) (of_type integer 1) [] (if_else (chain (read (variable 2 integer) []) ((op.LessEq, num 0, boolean) ∷ [])) (assign_to integer (outcome 1 integer) [] (chain (call (Formal 6) [] integer) ((op.Add, call (Formal 7) [] integer, integer) ∷ []))) (assign_to integer (outcome 1 integer) [] (call (CalleeRoutine 2) [] integer)) ∷ []) ∷ function 2 (Owner.Routine 1) [] (of_type integer 8) [] (assign_to integer (variable 2 integer) [] (chain (read (variable 2 integer) []) ((op.Sub, num 1, integer) ∷ [])) ∷ assign_to integer (outcome 8 integer) [] (call (CalleeRoutine 1) (value_for integer (read (variable 2 integer) []) ∷ arg.RoutineValue (CalleeRoutine 2) ∷ arg.RoutineValue (Formal 3) ∷ arg.RoutineValue (Formal 4) ∷ arg.RoutineValue (Formal 5) ∷ arg.RoutineValue (Formal 6) ∷ []) integer) ∷ []) ∷ function 3 Program [] (of_type integer 9) [] (assign_to integer (outcome 9 integer) [] (num 1) ∷ []) ∷ function 4 Program [] (of_type integer 10) [] (assign_to integer (outcome 10 integer) [] (unary integer un.Minus (num 1)) ∷ []) ∷ function 5 Program [] (of_type integer 11) [] (assign_to integer (outcome 11 integer) [] (num 0) ∷ []) ∷ []) [] [] [] (perform call.Writeln (shown (call (CalleeRoutine 1) (value_for integer (num 4) ∷ arg.RoutineValue (CalleeRoutine 3) ∷ arg.RoutineValue (CalleeRoutine 4) ∷ arg.RoutineValue (CalleeRoutine 4) ∷ arg.RoutineValue (CalleeRoutine 3) ∷ arg.RoutineValue (CalleeRoutine 5) ∷ []) integer) ∷ []) ∷ [])) [] 40 (End (line (codes "1")) 0 (1 ∷ 2 ∷ 1 ∷ 2 ∷ 1 ∷ 2 ∷ 1 ∷ 2 ∷ 1 ∷ 2 ∷ 1 ∷ 2 ∷ 1 ∷ 2 ∷ 1 ∷ 3 ∷ 4 ∷ 3 ∷ []))
unfolding run
man_or_boy_in_iso_and_hp = (refl, (refl, tt))

man_or_boy_in_turbo_and_ucsd : InEach (Turbo ∷ Ucsd ∷ []) (λ d. whole d [] (function 1 Program (section small (2 ∷ []) ∷ section_functions small (3 ∷ []) ∷ section_functions small (4 ∷ []) ∷ section_functions small (5 ∷ []) ∷ section_functions small (6 ∷ []) ∷ section_functions small (7 ∷ []) ∷ []) (of_type small 1) [] (if_else (chain (read (variable 2 small) []) ((op.LessEq, num 0, boolean) ∷ [])) (assign_to small (outcome 1 small) [] (chain (call (Formal 6) [] small) ((op.Add, call (Formal 7) [] small, small) ∷ []))) (assign_to small (outcome 1 small) [] (call (CalleeRoutine 2) [] small)) ∷ []) ∷ function 2 (Owner.Routine 1) [] (of_type small 8) [] (assign_to small (variable 2 small) [] (chain (read (variable 2 small) []) ((op.Sub, num 1, small) ∷ [])) ∷ assign_to small (outcome 8 small) [] (call (CalleeRoutine 1) (value_for small (read (variable 2 small) []) ∷ arg.RoutineValue (CalleeRoutine 2) ∷ arg.RoutineValue (Formal 3) ∷ arg.RoutineValue (Formal 4) ∷ arg.RoutineValue (Formal 5) ∷ arg.RoutineValue (Formal 6) ∷ []) small) ∷ []) ∷ function 3 Program [] (of_type small 9) [] (assign_to small (outcome 9 small) [] (num 1) ∷ []) ∷ function 4 Program [] (of_type small 10) [] (assign_to small (outcome 10 small) [] (unary small un.Minus (num 1)) ∷ []) ∷ function 5 Program [] (of_type small 11) [] (assign_to small (outcome 11 small) [] (num 0) ∷ []) ∷ []) [] [] [] (perform call.Writeln (shown (call (CalleeRoutine 1) (value_for small (num 4) ∷ arg.RoutineValue (CalleeRoutine 3) ∷ arg.RoutineValue (CalleeRoutine 4) ∷ arg.RoutineValue (CalleeRoutine 4) ∷ arg.RoutineValue (CalleeRoutine 3) ∷ arg.RoutineValue (CalleeRoutine 5) ∷ []) small) ∷ []) ∷ [])) [] 40 (End (line (codes "1")) 0 (1 ∷ 2 ∷ 1 ∷ 2 ∷ 1 ∷ 2 ∷ 1 ∷ 2 ∷ 1 ∷ 2 ∷ 1 ∷ 2 ∷ 1 ∷ 2 ∷ 1 ∷ 3 ∷ 4 ∷ 3 ∷ []))
unfolding run
man_or_boy_in_turbo_and_ucsd = (refl, (refl, tt))

-- the goto ends all activations after its target
-- procedure r(d: integer; procedure q); label 1; procedure me; begin goto 1 end; begin if d = 1 then r(2, me) else if d < 4 then r(d + 1, q) else q; writeln('no'); 1: writeln(d) end; procedure none; begin end; begin r(1, none) end.
goto_passes_newer_activations_in_iso_and_hp : InEach (Iso ∷ Hp ∷ []) (λ d. whole d (Literal 2 ∷ []) (procedure 1 Program (section integer (1 ∷ []) ∷ section_procedures (2 ∷ []) ∷ []) [] (3 ∷ []) (if_else (chain (read (variable 1 integer) []) ((op.Equal, num 1, boolean) ∷ [])) (S.Call (CalleeRoutine 1) (value_for integer (num 2) ∷ arg.RoutineValue (CalleeRoutine 2) ∷ [])) (if_else (chain (read (variable 1 integer) []) ((op.Less, num 4, boolean) ∷ [])) (S.Call (CalleeRoutine 1) (value_for integer (chain (read (variable 1 integer) []) ((op.Add, num 1, integer) ∷ [])) ∷ arg.RoutineValue (Formal 2) ∷ [])) (S.Call (Formal 2) [])) ∷ perform call.Writeln (shown (quoted 5 (codes "no")) ∷ []) ∷ labelled 3 (perform call.Writeln (shown (read (variable 1 integer) []) ∷ [])) ∷ []) ∷ procedure 2 (Owner.Routine 1) [] [] [] (S.Goto 3 ∷ []) ∷ procedure 3 Program [] [] [] (S.Empty ∷ []) ∷ []) [] [] [] (S.Call (CalleeRoutine 1) (value_for integer (num 1) ∷ arg.RoutineValue (CalleeRoutine 3) ∷ []) ∷ [])) [] 12 (End (line (codes "1")) 0 (1 ∷ 1 ∷ 1 ∷ 1 ∷ 2 ∷ []))
unfolding run
goto_passes_newer_activations_in_iso_and_hp = (refl, (refl, tt))

goto_passes_newer_activations_in_turbo_and_ucsd : InEach (Turbo ∷ Ucsd ∷ []) (λ d. whole d (Literal 2 ∷ []) (procedure 1 Program (section small (1 ∷ []) ∷ section_procedures (2 ∷ []) ∷ []) [] (3 ∷ []) (if_else (chain (read (variable 1 small) []) ((op.Equal, num 1, boolean) ∷ [])) (S.Call (CalleeRoutine 1) (value_for small (num 2) ∷ arg.RoutineValue (CalleeRoutine 2) ∷ [])) (if_else (chain (read (variable 1 small) []) ((op.Less, num 4, boolean) ∷ [])) (S.Call (CalleeRoutine 1) (value_for small (chain (read (variable 1 small) []) ((op.Add, num 1, small) ∷ [])) ∷ arg.RoutineValue (Formal 2) ∷ [])) (S.Call (Formal 2) [])) ∷ perform call.Writeln (shown (quoted 5 (codes "no")) ∷ []) ∷ labelled 3 (perform call.Writeln (shown (read (variable 1 small) []) ∷ [])) ∷ []) ∷ procedure 2 (Owner.Routine 1) [] [] [] (S.Goto 3 ∷ []) ∷ procedure 3 Program [] [] [] (S.Empty ∷ []) ∷ []) [] [] [] (S.Call (CalleeRoutine 1) (value_for small (num 1) ∷ arg.RoutineValue (CalleeRoutine 3) ∷ []) ∷ [])) [] 12 (End (line (codes "1")) 0 (1 ∷ 1 ∷ 1 ∷ 1 ∷ 2 ∷ []))
unfolding run
goto_passes_newer_activations_in_turbo_and_ucsd = (refl, (refl, tt))

-- however many calls deep
-- procedure q; var z: integer; begin z := 0; z := 1 div z end; procedure p; begin q end; begin try p recover writeln(escapecode) end.
try_catches_a_runtime_error : run (whole Hp [] (procedure 1 Program [] (of_type integer 1 ∷ []) [] (assign_to integer (variable 1 integer) [] (num 0) ∷ assign_to integer (variable 1 integer) [] (chain (num 1) ((op.Div, read (variable 1 integer) [], integer) ∷ [])) ∷ []) ∷ procedure 2 Program [] [] [] (S.Call (CalleeRoutine 1) [] ∷ []) ∷ []) [] [] [] (try (S.Call (CalleeRoutine 2) [] ∷ []) (perform call.Writeln (shown (predefined call.EscapeCode [] integer) ∷ [])) ∷ [])) [] 3 ≡ End (line (codes "-200")) 0 (2 ∷ 1 ∷ [])
unfolding run
try_catches_a_runtime_error = refl

-- label 1; begin try goto 1 recover writeln('no'); 1: writeln('out') end.
try_lets_a_goto_pass : run (whole Hp (Literal 2 ∷ Literal 3 ∷ []) [] [] [] (1 ∷ []) (try (S.Goto 1 ∷ []) (perform call.Writeln (shown (quoted 5 (codes "no")) ∷ [])) ∷ labelled 1 (perform call.Writeln (shown (quoted 6 (codes "out")) ∷ [])) ∷ [])) [] 1 ≡ End (line (codes "out")) 0 []
unfolding run
try_lets_a_goto_pass = refl

-- var x: record case k: Boolean of true: (a: integer); false: (b: integer) end; begin x.k := true; x.a := 5; x.k := true; writeln(x.a); x.k := false; writeln('b'); writeln(x.a) end.
same_variant_keeps_its_fields_in_iso_and_hp : InEach (Iso ∷ Hp ∷ []) (λ d. whole d (RecordOf false [] (Some (variant_part 1 (Some []) boolean (arm (label_of (pos 1) ∷ []) (field 2 integer ∷ []) None ∷ arm (label_of (pos 0) ∷ []) (field 3 integer ∷ []) None ∷ []))) ∷ []) [] [] (of_type 5 4 ∷ []) [] (assign_to boolean (variable 4 5) (selector.Field 1 boolean ∷ []) (truth 1) ∷ assign_to integer (variable 4 5) (selector.Field 2 integer ∷ []) (num 5) ∷ assign_to boolean (variable 4 5) (selector.Field 1 boolean ∷ []) (truth 1) ∷ perform call.Writeln (shown (read (variable 4 5) (selector.Field 2 integer ∷ [])) ∷ []) ∷ assign_to boolean (variable 4 5) (selector.Field 1 boolean ∷ []) (truth 0) ∷ perform call.Writeln (shown (letter 98) ∷ []) ∷ perform call.Writeln (shown (read (variable 4 5) (selector.Field 2 integer ∷ [])) ∷ []) ∷ [])) [] 0 (End (line (codes "5") ++ line (codes "b")) 205 [])
unfolding run
same_variant_keeps_its_fields_in_iso_and_hp = (refl, (refl, tt))

same_variant_keeps_its_fields_in_turbo_and_ucsd : InEach (Turbo ∷ Ucsd ∷ []) (λ d. whole d (RecordOf false [] (Some (variant_part 1 (Some []) boolean (arm (label_of (pos 1) ∷ []) (field 2 small ∷ []) None ∷ arm (label_of (pos 0) ∷ []) (field 3 small ∷ []) None ∷ []))) ∷ []) [] [] (of_type 5 4 ∷ []) [] (assign_to boolean (variable 4 5) (selector.Field 1 boolean ∷ []) (truth 1) ∷ assign_to small (variable 4 5) (selector.Field 2 small ∷ []) (num 5) ∷ assign_to boolean (variable 4 5) (selector.Field 1 boolean ∷ []) (truth 1) ∷ perform call.Writeln (shown (read (variable 4 5) (selector.Field 2 small ∷ [])) ∷ []) ∷ assign_to boolean (variable 4 5) (selector.Field 1 boolean ∷ []) (truth 0) ∷ perform call.Writeln (shown (letter 98) ∷ []) ∷ perform call.Writeln (shown (read (variable 4 5) (selector.Field 2 small ∷ [])) ∷ []) ∷ [])) [] 0 (End (line (codes "5") ++ line (codes "b")) 205 [])
unfolding run
same_variant_keeps_its_fields_in_turbo_and_ucsd = (refl, (refl, tt))

-- var s: string[3]; begin s := 'abcdef'; writeln(s, ord(s[0])) end.
long_text_is_cut : run (whole Turbo (DynString 3 ∷ Literal 6 ∷ []) [] [] (of_type 5 1 ∷ []) [] (assign_to 5 (variable 1 5) [] (quoted 6 (codes "abcdef")) ∷ perform call.Writeln (shown (read (variable 1 5) []) ∷ shown (predefined call.Ord (value_for char (read (variable 1 5) (selector.Index (num 0) 5 char ∷ [])) ∷ []) small) ∷ []) ∷ [])) [] 0 ≡ End (line (codes "abc3")) 0 []
unfolding run
long_text_is_cut = refl

-- var s: string[3]; begin s := 'abcdef'; writeln(s) end.
long_text_raises : InEach (Ucsd ∷ Hp ∷ []) (λ d. whole d (DynString 3 ∷ Literal 6 ∷ []) [] [] (of_type 5 1 ∷ []) [] (assign_to 5 (variable 1 5) [] (quoted 6 (codes "abcdef")) ∷ perform call.Writeln (shown (read (variable 1 5) []) ∷ []) ∷ [])) [] 0 (End [] 207 [])
unfolding run
long_text_raises = (refl, (refl, tt))

-- var i: integer; begin read(i); writeln(i) end.
number_is_read_in_iso_and_hp : InEach (Iso ∷ Hp ∷ []) (λ d. whole d [] [] [] (of_type integer 1 ∷ []) [] (perform call.Read (by_reference (variable 1 integer) [] ∷ []) ∷ perform call.Writeln (shown (read (variable 1 integer) []) ∷ []) ∷ [])) (codes "12") 0 (End (line (codes "12")) 0 [])
unfolding run
number_is_read_in_iso_and_hp = (refl, (refl, tt))

number_is_read_in_turbo_and_ucsd : InEach (Turbo ∷ Ucsd ∷ []) (λ d. whole d [] [] [] (of_type small 1 ∷ []) [] (perform call.Read (by_reference (variable 1 small) [] ∷ []) ∷ perform call.Writeln (shown (read (variable 1 small) []) ∷ []) ∷ [])) (codes "12") 0 (End (line (codes "12")) 0 [])
unfolding run
number_is_read_in_turbo_and_ucsd = (refl, (refl, tt))

-- var i: integer; begin read(i); writeln(i) end.
sign_without_a_digit_in_iso_and_hp : InEach (Iso ∷ Hp ∷ []) (λ d. whole d [] [] [] (of_type integer 1 ∷ []) [] (perform call.Read (by_reference (variable 1 integer) [] ∷ []) ∷ perform call.Writeln (shown (read (variable 1 integer) []) ∷ []) ∷ [])) (codes "-") 0 (End [] 206 [])
unfolding run
sign_without_a_digit_in_iso_and_hp = (refl, (refl, tt))

sign_without_a_digit_in_turbo_and_ucsd : InEach (Turbo ∷ Ucsd ∷ []) (λ d. whole d [] [] [] (of_type small 1 ∷ []) [] (perform call.Read (by_reference (variable 1 small) [] ∷ []) ∷ perform call.Writeln (shown (read (variable 1 small) []) ∷ []) ∷ [])) (codes "-") 0 (End [] 206 [])
unfolding run
sign_without_a_digit_in_turbo_and_ucsd = (refl, (refl, tt))

-- var i: integer; begin read(i); writeln(i) end.
number_past_the_end_in_iso_and_hp : InEach (Iso ∷ Hp ∷ []) (λ d. whole d [] [] [] (of_type integer 1 ∷ []) [] (perform call.Read (by_reference (variable 1 integer) [] ∷ []) ∷ perform call.Writeln (shown (read (variable 1 integer) []) ∷ []) ∷ [])) [] 0 (End [] 208 [])
unfolding run
number_past_the_end_in_iso_and_hp = (refl, (refl, tt))

number_past_the_end_in_turbo_and_ucsd : InEach (Turbo ∷ Ucsd ∷ []) (λ d. whole d [] [] [] (of_type small 1 ∷ []) [] (perform call.Read (by_reference (variable 1 small) [] ∷ []) ∷ perform call.Writeln (shown (read (variable 1 small) []) ∷ []) ∷ [])) [] 0 (End [] 208 [])
unfolding run
number_past_the_end_in_turbo_and_ucsd = (refl, (refl, tt))

-- var i: integer; c: char; begin read(i); read(c); write(i, '[', c, ']') end.
line_end_is_a_space_in_iso_and_hp : InEach (Iso ∷ Hp ∷ []) (λ d. whole d [] [] [] (of_type integer 1 ∷ of_type char 2 ∷ []) [] (perform call.Read (by_reference (variable 1 integer) [] ∷ []) ∷ perform call.Read (by_reference (variable 2 char) [] ∷ []) ∷ perform call.Write (shown (read (variable 1 integer) []) ∷ shown (letter 91) ∷ shown (read (variable 2 char) []) ∷ shown (letter 93) ∷ []) ∷ [])) (line (codes "7") ++ line (codes "x")) 0 (End (codes "7[ ]") 0 [])
unfolding run
line_end_is_a_space_in_iso_and_hp = (refl, (refl, tt))

line_end_is_a_space_in_turbo_and_ucsd : InEach (Turbo ∷ Ucsd ∷ []) (λ d. whole d [] [] [] (of_type small 1 ∷ of_type char 2 ∷ []) [] (perform call.Read (by_reference (variable 1 small) [] ∷ []) ∷ perform call.Read (by_reference (variable 2 char) [] ∷ []) ∷ perform call.Write (shown (read (variable 1 small) []) ∷ shown (letter 91) ∷ shown (read (variable 2 char) []) ∷ shown (letter 93) ∷ []) ∷ [])) (line (codes "7") ++ line (codes "x")) 0 (End (codes "7[ ]") 0 [])
unfolding run
line_end_is_a_space_in_turbo_and_ucsd = (refl, (refl, tt))

-- begin write(5:3, 'abc':2) end.
width_cuts_a_text : InEach (Iso ∷ Ucsd ∷ Hp ∷ []) (λ d. whole d (Literal 3 ∷ []) [] [] [] [] (perform call.Write (wide (num 5) (num 3) ∷ wide (quoted 5 (codes "abc")) (num 2) ∷ []) ∷ [])) [] 0 (End (codes "  5ab") 0 [])
unfolding run
width_cuts_a_text = (refl, (refl, (refl, tt)))

-- begin write(5:3, 'abc':2) end.
width_cuts_no_text : run (whole Turbo (Literal 3 ∷ []) [] [] [] [] (perform call.Write (wide (num 5) (num 3) ∷ wide (quoted 5 (codes "abc")) (num 2) ∷ []) ∷ [])) [] 0 ≡ End (codes "  5abc") 0 []
unfolding run
width_cuts_no_text = refl

-- the routine of a unit is called from the program
-- unit 1: procedure hi; begin writeln('hi') end; begin write('u') end.
-- begin hi end.
initial_part_comes_first : run (whole Turbo (Literal 2 ∷ []) (procedure 1 (Owner.UnitPart 0) [] [] [] (perform call.Writeln (shown (quoted 5 (codes "hi")) ∷ []) ∷ []) ∷ []) (unit_of [] [] (perform call.Write (shown (letter 117) ∷ []) ∷ []) ∷ []) [] [] (S.Call (CalleeRoutine 1) [] ∷ [])) [] 1 ≡ End (line (codes "uhi")) 0 (1 ∷ [])
unfolding run
initial_part_comes_first = refl

-- at each bound, with one turn for each
-- begin repeat write('a') until false end.
endless_loop_is_cut : InEach (Iso ∷ Turbo ∷ Ucsd ∷ Hp ∷ []) (λ d. whole d [] [] [] [] [] (repeat_until (perform call.Write (shown (letter 97) ∷ []) ∷ []) (truth 0) ∷ [])) [] 5 (CutAfter (codes "aaaaa") [])
unfolding run
endless_loop_is_cut = (refl, (refl, (refl, (refl, tt))))

-- a number outside 0..255 is in no set, and a member outside it is an error
-- var s: set of 1..9; i: integer; begin i := 300; write(i in [1..3]); s := [i] end.
number_is_in_no_set_in_iso_and_hp : InEach (Iso ∷ Hp ∷ []) (λ d. whole d (Ordinal WholeHost (pos 1) (pos 9) ∷ set_of 5 ∷ SetType Either (Some integer) ∷ []) [] [] (of_type 6 1 ∷ of_type integer 2 ∷ []) [] (assign_to integer (variable 2 integer) [] (num 300) ∷ perform call.Write (shown (chain (read (variable 2 integer) []) ((op.Member, set 7 ((num 1, Some (num 3)) ∷ []), boolean) ∷ [])) ∷ []) ∷ assign_to 6 (variable 1 6) [] (set 7 ((read (variable 2 integer) [], None) ∷ [])) ∷ [])) [] 0 (End (codes "FALSE") 201 [])
unfolding run
number_is_in_no_set_in_iso_and_hp = (refl, (refl, tt))

number_is_in_no_set_in_turbo_and_ucsd : InEach (Turbo ∷ Ucsd ∷ []) (λ d. whole d (Ordinal WholeHost (pos 1) (pos 9) ∷ set_of 5 ∷ SetType Either (Some small) ∷ []) [] [] (of_type 6 1 ∷ of_type small 2 ∷ []) [] (assign_to small (variable 2 small) [] (num 300) ∷ perform call.Write (shown (chain (read (variable 2 small) []) ((op.Member, set 7 ((num 1, Some (num 3)) ∷ []), boolean) ∷ [])) ∷ []) ∷ assign_to 6 (variable 1 6) [] (set 7 ((read (variable 2 small) [], None) ∷ [])) ∷ [])) [] 0 (End (codes "FALSE") 201 [])
unfolding run
number_is_in_no_set_in_turbo_and_ucsd = (refl, (refl, tt))

-- type t = integer; var p: ^t; begin p := nil; p^ := 1 end.
nil_is_followed_in_iso_and_hp : InEach (Iso ∷ Hp ∷ []) (λ d. whole d (Pointer integer ∷ []) [] [] (of_type 5 1 ∷ []) [] (assign_to 5 (variable 1 5) [] (X.Nil) ∷ assign_to integer (variable 1 5) (selector.Follow integer ∷ []) (num 1) ∷ [])) [] 0 (End [] 202 [])
unfolding run
nil_is_followed_in_iso_and_hp = (refl, (refl, tt))

nil_is_followed_in_turbo_and_ucsd : InEach (Turbo ∷ Ucsd ∷ []) (λ d. whole d (Pointer small ∷ []) [] [] (of_type 5 1 ∷ []) [] (assign_to 5 (variable 1 5) [] (X.Nil) ∷ assign_to small (variable 1 5) (selector.Follow small ∷ []) (num 1) ∷ [])) [] 0 (End [] 202 [])
unfolding run
nil_is_followed_in_turbo_and_ucsd = (refl, (refl, tt))

-- begin halt(3) end.
halt_gives_the_status_in_turbo : run (whole Turbo [] [] [] [] [] (perform call.Halt (value_for small (num 3) ∷ []) ∷ [])) [] 0 ≡ End [] 3 []
unfolding run
halt_gives_the_status_in_turbo = refl

halt_gives_the_status_in_hp : run (whole Hp [] [] [] [] [] (perform call.Halt (value_for integer (num 3) ∷ []) ∷ [])) [] 0 ≡ End [] 3 []
unfolding run
halt_gives_the_status_in_hp = refl

-- begin halt(200) end.
halt_out_of_range_in_turbo : run (whole Turbo [] [] [] [] [] (perform call.Halt (value_for small (num 200) ∷ []) ∷ [])) [] 0 ≡ End [] 201 []
unfolding run
halt_out_of_range_in_turbo = refl

halt_out_of_range_in_hp : run (whole Hp [] [] [] [] [] (perform call.Halt (value_for integer (num 200) ∷ []) ∷ [])) [] 0 ≡ End [] 201 []
unfolding run
halt_out_of_range_in_hp = refl

-- var a: array [1..2] of record x: integer end; i: integer; begin i := 1; with a[i] do begin i := 2; x := 5 end; write(a[1].x) end.
with_keeps_its_reference_in_iso_and_hp : InEach (Iso ∷ Hp ∷ []) (λ d. whole d (Ordinal WholeHost (pos 1) (pos 2) ∷ RecordOf false (field 1 integer ∷ []) None ∷ Array false 5 6 ∷ []) [] [] (of_type 7 2 ∷ of_type integer 3 ∷ []) [] (assign_to integer (variable 3 integer) [] (num 1) ∷ with_all (with_part 4 (variable 2 7) (selector.Index (read (variable 3 integer) []) 7 6 ∷ []) ∷ []) (seq (assign_to integer (variable 3 integer) [] (num 2) ∷ assign_to integer (root.WithRef 4 6) (selector.Field 1 integer ∷ []) (num 5) ∷ [])) ∷ perform call.Write (shown (read (variable 2 7) (selector.Index (num 1) 7 6 ∷ selector.Field 1 integer ∷ [])) ∷ []) ∷ [])) [] 0 (End (codes "5") 0 [])
unfolding run
with_keeps_its_reference_in_iso_and_hp = (refl, (refl, tt))

with_keeps_its_reference_in_turbo_and_ucsd : InEach (Turbo ∷ Ucsd ∷ []) (λ d. whole d (Ordinal WholeHost (pos 1) (pos 2) ∷ RecordOf false (field 1 small ∷ []) None ∷ Array false 5 6 ∷ []) [] [] (of_type 7 2 ∷ of_type small 3 ∷ []) [] (assign_to small (variable 3 small) [] (num 1) ∷ with_all (with_part 4 (variable 2 7) (selector.Index (read (variable 3 small) []) 7 6 ∷ []) ∷ []) (seq (assign_to small (variable 3 small) [] (num 2) ∷ assign_to small (root.WithRef 4 6) (selector.Field 1 small ∷ []) (num 5) ∷ [])) ∷ perform call.Write (shown (read (variable 2 7) (selector.Index (num 1) 7 6 ∷ selector.Field 1 small ∷ [])) ∷ []) ∷ [])) [] 0 (End (codes "5") 0 [])
unfolding run
with_keeps_its_reference_in_turbo_and_ucsd = (refl, (refl, tt))
