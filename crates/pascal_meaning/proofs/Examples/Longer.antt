-- Longer programs.
use Rattle.std.proofs.Common.{[], ◌∷◌, ◌++◌, refl, false, Some, None}
use Rattle.std.specs.Prelude.{codes, pos, negsuc}
use Rattle.p2c_text.specs.declared.dialect.Dialect.TheVariants.{Iso, Turbo, Ucsd, Hp}
use Rattle.typed_tree.specs.declared.types.Host.TheVariants.{Whole as WholeHost}
use Rattle.typed_tree.specs.declared.types.Packing.TheVariants.{Either}
use Rattle.typed_tree.specs.declared.types.PasType.TheVariants.{Ordinal, Array, SetOf as SetType}
use Rattle.typed_tree.specs.declared.declarations.Callee.TheVariants.{Routine as CalleeRoutine}
use Rattle.typed_tree.specs.declared.declarations.Owner.TheVariants.{Program}
use Rattle.typed_tree.specs.declared.expressions.Selector.TheVariants as selector
use Rattle.typed_tree.specs.declared.operations.BinaryOp.TheVariants as op
use Rattle.typed_tree.specs.declared.operations.UnaryOp.TheVariants as un
use Rattle.typed_tree.specs.declared.operations.PredefCall.TheVariants as call
use Rattle.typed_tree.specs.declared.statements.TypedStmt as S
use Rattle.meanings.specs.Code.{End}
use Rattle.pascal_meaning.specs.Whole.{run}
use Rattle.pascal_meaning.proofs.Examples.Build.{integer, small, char, boolean, set_of, num, letter, truth, unary, chain, read, variable, set, predefined, value_for, by_reference, shown, wide, assign_to, seq, if_then, if_else, while, for_of, perform, of_type, section, procedure, whole, line, InEach}

-- all placings of four queens
-- var i: integer; a: array [1..4] of Boolean; b: array [2..8] of Boolean; c: array [-3..3] of Boolean; x: array [1..4] of integer; procedure print; var k: integer; begin for k := 1 to 4 do begin if k > 1 then write(' '); write(x[k]:1) end; writeln end; procedure place(i: integer); var j: integer; begin for j := 1 to 4 do if a[j] and b[i + j] and c[i - j] then begin x[i] := j; a[j] := false; b[i + j] := false; c[i - j] := false; if i < 4 then place(i + 1) else print; a[j] := true; b[i + j] := true; c[i - j] := true end end; begin for i := 1 to 4 do a[i] := true; for i := 2 to 8 do b[i] := true; for i := -3 to 3 do c[i] := true; place(1) end.
queens_in_iso_and_hp : InEach (Iso ∷ Hp ∷ []) (λ d. whole d (Ordinal WholeHost (pos 1) (pos 4) ∷ Array false 5 boolean ∷ Ordinal WholeHost (pos 2) (pos 8) ∷ Array false 7 boolean ∷ Ordinal WholeHost (negsuc 2) (pos 3) ∷ Array false 9 boolean ∷ Ordinal WholeHost (pos 1) (pos 4) ∷ Array false 11 integer ∷ []) (procedure 1 Program [] (of_type integer 6 ∷ []) [] (for_of integer 6 false (num 1) (num 4) (seq (if_then (chain (read (variable 6 integer) []) ((op.Greater, num 1, boolean) ∷ [])) (perform call.Write (shown (letter 32) ∷ [])) ∷ perform call.Write (wide (read (variable 5 12) (selector.Index (read (variable 6 integer) []) 12 integer ∷ [])) (num 1) ∷ []) ∷ [])) ∷ perform call.Writeln [] ∷ []) ∷ procedure 2 Program (section integer (7 ∷ []) ∷ []) (of_type integer 8 ∷ []) [] (for_of integer 8 false (num 1) (num 4) (if_then (chain (read (variable 2 6) (selector.Index (read (variable 8 integer) []) 6 boolean ∷ [])) ((op.And, read (variable 3 8) (selector.Index (chain (read (variable 7 integer) []) ((op.Add, read (variable 8 integer) [], integer) ∷ [])) 8 boolean ∷ []), boolean) ∷ (op.And, read (variable 4 10) (selector.Index (chain (read (variable 7 integer) []) ((op.Sub, read (variable 8 integer) [], integer) ∷ [])) 10 boolean ∷ []), boolean) ∷ [])) (seq (assign_to integer (variable 5 12) (selector.Index (read (variable 7 integer) []) 12 integer ∷ []) (read (variable 8 integer) []) ∷ assign_to boolean (variable 2 6) (selector.Index (read (variable 8 integer) []) 6 boolean ∷ []) (truth 0) ∷ assign_to boolean (variable 3 8) (selector.Index (chain (read (variable 7 integer) []) ((op.Add, read (variable 8 integer) [], integer) ∷ [])) 8 boolean ∷ []) (truth 0) ∷ assign_to boolean (variable 4 10) (selector.Index (chain (read (variable 7 integer) []) ((op.Sub, read (variable 8 integer) [], integer) ∷ [])) 10 boolean ∷ []) (truth 0) ∷ if_else (chain (read (variable 7 integer) []) ((op.Less, num 4, boolean) ∷ [])) (S.Call (CalleeRoutine 2) (value_for integer (chain (read (variable 7 integer) []) ((op.Add, num 1, integer) ∷ [])) ∷ [])) (S.Call (CalleeRoutine 1) []) ∷ assign_to boolean (variable 2 6) (selector.Index (read (variable 8 integer) []) 6 boolean ∷ []) (truth 1) ∷ assign_to boolean (variable 3 8) (selector.Index (chain (read (variable 7 integer) []) ((op.Add, read (variable 8 integer) [], integer) ∷ [])) 8 boolean ∷ []) (truth 1) ∷ assign_to boolean (variable 4 10) (selector.Index (chain (read (variable 7 integer) []) ((op.Sub, read (variable 8 integer) [], integer) ∷ [])) 10 boolean ∷ []) (truth 1) ∷ []))) ∷ []) ∷ []) [] (of_type integer 1 ∷ of_type 6 2 ∷ of_type 8 3 ∷ of_type 10 4 ∷ of_type 12 5 ∷ []) [] (for_of integer 1 false (num 1) (num 4) (assign_to boolean (variable 2 6) (selector.Index (read (variable 1 integer) []) 6 boolean ∷ []) (truth 1)) ∷ for_of integer 1 false (num 2) (num 8) (assign_to boolean (variable 3 8) (selector.Index (read (variable 1 integer) []) 8 boolean ∷ []) (truth 1)) ∷ for_of integer 1 false (unary integer un.Minus (num 3)) (num 3) (assign_to boolean (variable 4 10) (selector.Index (read (variable 1 integer) []) 10 boolean ∷ []) (truth 1)) ∷ S.Call (CalleeRoutine 2) (value_for integer (num 1) ∷ []) ∷ [])) [] 20 (End (line (codes "2 4 1 3") ++ line (codes "3 1 4 2")) 0 (2 ∷ 2 ∷ 2 ∷ 2 ∷ 2 ∷ 2 ∷ 2 ∷ 2 ∷ 1 ∷ 2 ∷ 2 ∷ 2 ∷ 1 ∷ 2 ∷ 2 ∷ 2 ∷ 2 ∷ []))
unfolding run
queens_in_iso_and_hp = (refl, (refl, tt))

queens_in_turbo_and_ucsd : InEach (Turbo ∷ Ucsd ∷ []) (λ d. whole d (Ordinal WholeHost (pos 1) (pos 4) ∷ Array false 5 boolean ∷ Ordinal WholeHost (pos 2) (pos 8) ∷ Array false 7 boolean ∷ Ordinal WholeHost (negsuc 2) (pos 3) ∷ Array false 9 boolean ∷ Ordinal WholeHost (pos 1) (pos 4) ∷ Array false 11 small ∷ []) (procedure 1 Program [] (of_type small 6 ∷ []) [] (for_of small 6 false (num 1) (num 4) (seq (if_then (chain (read (variable 6 small) []) ((op.Greater, num 1, boolean) ∷ [])) (perform call.Write (shown (letter 32) ∷ [])) ∷ perform call.Write (wide (read (variable 5 12) (selector.Index (read (variable 6 small) []) 12 small ∷ [])) (num 1) ∷ []) ∷ [])) ∷ perform call.Writeln [] ∷ []) ∷ procedure 2 Program (section small (7 ∷ []) ∷ []) (of_type small 8 ∷ []) [] (for_of small 8 false (num 1) (num 4) (if_then (chain (read (variable 2 6) (selector.Index (read (variable 8 small) []) 6 boolean ∷ [])) ((op.And, read (variable 3 8) (selector.Index (chain (read (variable 7 small) []) ((op.Add, read (variable 8 small) [], small) ∷ [])) 8 boolean ∷ []), boolean) ∷ (op.And, read (variable 4 10) (selector.Index (chain (read (variable 7 small) []) ((op.Sub, read (variable 8 small) [], small) ∷ [])) 10 boolean ∷ []), boolean) ∷ [])) (seq (assign_to small (variable 5 12) (selector.Index (read (variable 7 small) []) 12 small ∷ []) (read (variable 8 small) []) ∷ assign_to boolean (variable 2 6) (selector.Index (read (variable 8 small) []) 6 boolean ∷ []) (truth 0) ∷ assign_to boolean (variable 3 8) (selector.Index (chain (read (variable 7 small) []) ((op.Add, read (variable 8 small) [], small) ∷ [])) 8 boolean ∷ []) (truth 0) ∷ assign_to boolean (variable 4 10) (selector.Index (chain (read (variable 7 small) []) ((op.Sub, read (variable 8 small) [], small) ∷ [])) 10 boolean ∷ []) (truth 0) ∷ if_else (chain (read (variable 7 small) []) ((op.Less, num 4, boolean) ∷ [])) (S.Call (CalleeRoutine 2) (value_for small (chain (read (variable 7 small) []) ((op.Add, num 1, small) ∷ [])) ∷ [])) (S.Call (CalleeRoutine 1) []) ∷ assign_to boolean (variable 2 6) (selector.Index (read (variable 8 small) []) 6 boolean ∷ []) (truth 1) ∷ assign_to boolean (variable 3 8) (selector.Index (chain (read (variable 7 small) []) ((op.Add, read (variable 8 small) [], small) ∷ [])) 8 boolean ∷ []) (truth 1) ∷ assign_to boolean (variable 4 10) (selector.Index (chain (read (variable 7 small) []) ((op.Sub, read (variable 8 small) [], small) ∷ [])) 10 boolean ∷ []) (truth 1) ∷ []))) ∷ []) ∷ []) [] (of_type small 1 ∷ of_type 6 2 ∷ of_type 8 3 ∷ of_type 10 4 ∷ of_type 12 5 ∷ []) [] (for_of small 1 false (num 1) (num 4) (assign_to boolean (variable 2 6) (selector.Index (read (variable 1 small) []) 6 boolean ∷ []) (truth 1)) ∷ for_of small 1 false (num 2) (num 8) (assign_to boolean (variable 3 8) (selector.Index (read (variable 1 small) []) 8 boolean ∷ []) (truth 1)) ∷ for_of small 1 false (unary small un.Minus (num 3)) (num 3) (assign_to boolean (variable 4 10) (selector.Index (read (variable 1 small) []) 10 boolean ∷ []) (truth 1)) ∷ S.Call (CalleeRoutine 2) (value_for small (num 1) ∷ []) ∷ [])) [] 20 (End (line (codes "2 4 1 3") ++ line (codes "3 1 4 2")) 0 (2 ∷ 2 ∷ 2 ∷ 2 ∷ 2 ∷ 2 ∷ 2 ∷ 2 ∷ 1 ∷ 2 ∷ 2 ∷ 2 ∷ 1 ∷ 2 ∷ 2 ∷ 2 ∷ 2 ∷ []))
unfolding run
queens_in_turbo_and_ucsd = (refl, (refl, tt))

-- a routine, a loop and a number of several digits
-- var g: integer; procedure p1(n: integer); begin g := (g + n * 375) mod 10000 end; begin g := 0; p1(1); writeln(g) end.
sum_of_squares_in_iso_and_hp : InEach (Iso ∷ Hp ∷ []) (λ d. whole d [] (procedure 1 Program (section integer (2 ∷ []) ∷ []) [] [] (assign_to integer (variable 1 integer) [] (chain (chain (read (variable 1 integer) []) ((op.Add, chain (read (variable 2 integer) []) ((op.Mul, num 375, integer) ∷ []), integer) ∷ [])) ((op.Mod, num 10000, integer) ∷ [])) ∷ []) ∷ []) [] (of_type integer 1 ∷ []) [] (assign_to integer (variable 1 integer) [] (num 0) ∷ S.Call (CalleeRoutine 1) (value_for integer (num 1) ∷ []) ∷ perform call.Writeln (shown (read (variable 1 integer) []) ∷ []) ∷ [])) [] 1 (End (line (codes "375")) 0 (1 ∷ []))
unfolding run
sum_of_squares_in_iso_and_hp = (refl, (refl, tt))

sum_of_squares_in_turbo_and_ucsd : InEach (Turbo ∷ Ucsd ∷ []) (λ d. whole d [] (procedure 1 Program (section small (2 ∷ []) ∷ []) [] [] (assign_to small (variable 1 small) [] (chain (chain (read (variable 1 small) []) ((op.Add, chain (read (variable 2 small) []) ((op.Mul, num 375, small) ∷ []), small) ∷ [])) ((op.Mod, num 10000, small) ∷ [])) ∷ []) ∷ []) [] (of_type small 1 ∷ []) [] (assign_to small (variable 1 small) [] (num 0) ∷ S.Call (CalleeRoutine 1) (value_for small (num 1) ∷ []) ∷ perform call.Writeln (shown (read (variable 1 small) []) ∷ []) ∷ [])) [] 1 (End (line (codes "375")) 0 (1 ∷ []))
unfolding run
sum_of_squares_in_turbo_and_ucsd = (refl, (refl, tt))

-- var n: integer; c: char; inside: Boolean; begin n := 0; inside := false; while not eof do begin read(c); if c = ' ' then inside := false else if not inside then begin inside := true; n := n + 1 end end; writeln(n) end.
words_are_counted_in_iso_and_hp : InEach (Iso ∷ Hp ∷ []) (λ d. whole d [] [] [] (of_type integer 1 ∷ of_type char 2 ∷ of_type boolean 3 ∷ []) [] (assign_to integer (variable 1 integer) [] (num 0) ∷ assign_to boolean (variable 3 boolean) [] (truth 0) ∷ while (unary boolean un.Not (predefined call.Eof [] boolean)) (seq (perform call.Read (by_reference (variable 2 char) [] ∷ []) ∷ if_else (chain (read (variable 2 char) []) ((op.Equal, letter 32, boolean) ∷ [])) (assign_to boolean (variable 3 boolean) [] (truth 0)) (if_then (unary boolean un.Not (read (variable 3 boolean) [])) (seq (assign_to boolean (variable 3 boolean) [] (truth 1) ∷ assign_to integer (variable 1 integer) [] (chain (read (variable 1 integer) []) ((op.Add, num 1, integer) ∷ [])) ∷ []))) ∷ [])) ∷ perform call.Writeln (shown (read (variable 1 integer) []) ∷ []) ∷ [])) (line (codes "to be  or") ++ codes "not") 40 (End (line (codes "4")) 0 [])
unfolding run
words_are_counted_in_iso_and_hp = (refl, (refl, tt))

words_are_counted_in_turbo_and_ucsd : InEach (Turbo ∷ Ucsd ∷ []) (λ d. whole d [] [] [] (of_type small 1 ∷ of_type char 2 ∷ of_type boolean 3 ∷ []) [] (assign_to small (variable 1 small) [] (num 0) ∷ assign_to boolean (variable 3 boolean) [] (truth 0) ∷ while (unary boolean un.Not (predefined call.Eof [] boolean)) (seq (perform call.Read (by_reference (variable 2 char) [] ∷ []) ∷ if_else (chain (read (variable 2 char) []) ((op.Equal, letter 32, boolean) ∷ [])) (assign_to boolean (variable 3 boolean) [] (truth 0)) (if_then (unary boolean un.Not (read (variable 3 boolean) [])) (seq (assign_to boolean (variable 3 boolean) [] (truth 1) ∷ assign_to small (variable 1 small) [] (chain (read (variable 1 small) []) ((op.Add, num 1, small) ∷ [])) ∷ []))) ∷ [])) ∷ perform call.Writeln (shown (read (variable 1 small) []) ∷ []) ∷ [])) (line (codes "to be  or") ++ codes "not") 40 (End (line (codes "4")) 0 [])
unfolding run
words_are_counted_in_turbo_and_ucsd = (refl, (refl, tt))

-- a set as a sieve
-- var s: set of 2..30; i, j: integer; begin s := [2..30]; for i := 2 to 30 do if i in s then begin write(i, ' '); j := i; while j <= 30 do begin s := s - [j]; j := j + i end end end.
primes_in_iso_and_hp : InEach (Iso ∷ Hp ∷ []) (λ d. whole d (Ordinal WholeHost (pos 2) (pos 30) ∷ set_of 5 ∷ SetType Either (Some integer) ∷ []) [] [] (of_type 6 1 ∷ of_type integer 2 ∷ of_type integer 3 ∷ []) [] (assign_to 6 (variable 1 6) [] (set 7 ((num 2, Some (num 30)) ∷ [])) ∷ for_of integer 2 false (num 2) (num 30) (if_then (chain (read (variable 2 integer) []) ((op.Member, read (variable 1 6) [], boolean) ∷ [])) (seq (perform call.Write (shown (read (variable 2 integer) []) ∷ shown (letter 32) ∷ []) ∷ assign_to integer (variable 3 integer) [] (read (variable 2 integer) []) ∷ while (chain (read (variable 3 integer) []) ((op.LessEq, num 30, boolean) ∷ [])) (seq (assign_to 6 (variable 1 6) [] (chain (read (variable 1 6) []) ((op.Difference, set 7 ((read (variable 3 integer) [], None) ∷ []), 6) ∷ [])) ∷ assign_to integer (variable 3 integer) [] (chain (read (variable 3 integer) []) ((op.Add, read (variable 2 integer) [], integer) ∷ [])) ∷ [])) ∷ []))) ∷ [])) [] 50 (End (codes "2 3 5 7 11 13 17 19 23 29 ") 0 [])
unfolding run
primes_in_iso_and_hp = (refl, (refl, tt))

primes_in_turbo_and_ucsd : InEach (Turbo ∷ Ucsd ∷ []) (λ d. whole d (Ordinal WholeHost (pos 2) (pos 30) ∷ set_of 5 ∷ SetType Either (Some small) ∷ []) [] [] (of_type 6 1 ∷ of_type small 2 ∷ of_type small 3 ∷ []) [] (assign_to 6 (variable 1 6) [] (set 7 ((num 2, Some (num 30)) ∷ [])) ∷ for_of small 2 false (num 2) (num 30) (if_then (chain (read (variable 2 small) []) ((op.Member, read (variable 1 6) [], boolean) ∷ [])) (seq (perform call.Write (shown (read (variable 2 small) []) ∷ shown (letter 32) ∷ []) ∷ assign_to small (variable 3 small) [] (read (variable 2 small) []) ∷ while (chain (read (variable 3 small) []) ((op.LessEq, num 30, boolean) ∷ [])) (seq (assign_to 6 (variable 1 6) [] (chain (read (variable 1 6) []) ((op.Difference, set 7 ((read (variable 3 small) [], None) ∷ []), 6) ∷ [])) ∷ assign_to small (variable 3 small) [] (chain (read (variable 3 small) []) ((op.Add, read (variable 2 small) [], small) ∷ [])) ∷ [])) ∷ []))) ∷ [])) [] 50 (End (codes "2 3 5 7 11 13 17 19 23 29 ") 0 [])
unfolding run
primes_in_turbo_and_ucsd = (refl, (refl, tt))
