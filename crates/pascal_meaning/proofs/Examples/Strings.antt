-- Dynamic strings and the calls on texts.
use Rattle.std.proofs.Common.{◌≡◌, [], ◌∷◌, refl, true, false, Some, None}
use Rattle.std.specs.Prelude.{codes, pos, negsuc}
use Rattle.p2c_text.specs.declared.dialect.Dialect.TheVariants.{Turbo, Ucsd, Hp}
use Rattle.typed_tree.specs.declared.types.Host.TheVariants.{Whole as WholeHost}
use Rattle.typed_tree.specs.declared.types.PasType.TheVariants.{Ordinal, Array, DynString, Literal, RecordOf}
use Rattle.typed_tree.specs.declared.declarations.Callee.TheVariants.{Routine as CalleeRoutine}
use Rattle.typed_tree.specs.declared.declarations.Owner.TheVariants.{Program}
use Rattle.typed_tree.specs.declared.expressions.Selector.TheVariants as selector
use Rattle.typed_tree.specs.declared.operations.BinaryOp.TheVariants as op
use Rattle.typed_tree.specs.declared.operations.UnaryOp.TheVariants as un
use Rattle.typed_tree.specs.declared.operations.PredefCall.TheVariants as call
use Rattle.typed_tree.specs.declared.statements.TypedStmt as S
use Rattle.meanings.specs.Code.{End, UndefinedAfter}
use Rattle.pascal_meaning.specs.Whole.{run}
use Rattle.pascal_meaning.proofs.Examples.Build.{integer, small, char, boolean, text, range, field, label_of, arm, variant_part, num, letter, quoted, unary, chain, read, variable, outcome, call, predefined, value_for, by_reference, shown, wide, assign_to, if_then, for_of, perform, of_type, section, section_var, procedure, function, whole, line, InEach}

-- var s: string; begin s := 'ab' + 'cd'; delete(s, 2, 2); insert('xy', s, 2); writeln(s, length(s), pos('y', s)) end.
delete_and_insert : run (whole Turbo (DynString 255 ∷ Literal 2 ∷ []) [] [] (of_type 5 1 ∷ []) [] (assign_to 5 (variable 1 5) [] (chain (quoted 6 (codes "ab")) ((op.Join, quoted 6 (codes "cd"), text) ∷ [])) ∷ perform call.Delete (by_reference (variable 1 5) [] ∷ value_for small (num 2) ∷ value_for small (num 2) ∷ []) ∷ perform call.Insert (value_for 6 (quoted 6 (codes "xy")) ∷ by_reference (variable 1 5) [] ∷ value_for small (num 2) ∷ []) ∷ perform call.Writeln (shown (read (variable 1 5) []) ∷ shown (predefined call.Length (value_for 5 (read (variable 1 5) []) ∷ []) small) ∷ shown (predefined call.Pos (value_for char (letter 121) ∷ value_for 5 (read (variable 1 5) []) ∷ []) small) ∷ []) ∷ [])) [] 0 ≡ End (line (codes "axyd43")) 0 []
unfolding run
delete_and_insert = refl

-- var i, c: integer; begin val(' 12x', i, c); write(i, c) end.
val_stops_at_a_letter : run (whole Turbo (Literal 4 ∷ []) [] [] (of_type small 1 ∷ of_type small 2 ∷ []) [] (perform call.Val (value_for 5 (quoted 5 (codes " 12x")) ∷ by_reference (variable 1 small) [] ∷ by_reference (variable 2 small) [] ∷ []) ∷ perform call.Write (shown (read (variable 1 small) []) ∷ shown (read (variable 2 small) []) ∷ []) ∷ [])) [] 0 ≡ End (codes "04") 0 []
unfolding run
val_stops_at_a_letter = refl

-- var i, c: integer; begin val('12', i, c); write(i, ' ', c, ' '); val(' -7', i, c); write(i, ' ', c, ' '); val('+3', i, c); write(i, ' ', c, ' '); val('', i, c); write(i, ' ', c, ' '); val('-', i, c); write(i, ' ', c, ' '); val('1 ', i, c); write(i, ' ', c) end.
val_of_numbers : run (whole Turbo (Literal 2 ∷ Literal 4 ∷ Literal 0 ∷ []) [] [] (of_type small 1 ∷ of_type small 2 ∷ []) [] (perform call.Val (value_for 5 (quoted 5 (codes "12")) ∷ by_reference (variable 1 small) [] ∷ by_reference (variable 2 small) [] ∷ []) ∷ perform call.Write (shown (read (variable 1 small) []) ∷ shown (letter 32) ∷ shown (read (variable 2 small) []) ∷ shown (letter 32) ∷ []) ∷ perform call.Val (value_for 6 (quoted 6 (codes "  -7")) ∷ by_reference (variable 1 small) [] ∷ by_reference (variable 2 small) [] ∷ []) ∷ perform call.Write (shown (read (variable 1 small) []) ∷ shown (letter 32) ∷ shown (read (variable 2 small) []) ∷ shown (letter 32) ∷ []) ∷ perform call.Val (value_for 5 (quoted 5 (codes "+3")) ∷ by_reference (variable 1 small) [] ∷ by_reference (variable 2 small) [] ∷ []) ∷ perform call.Write (shown (read (variable 1 small) []) ∷ shown (letter 32) ∷ shown (read (variable 2 small) []) ∷ shown (letter 32) ∷ []) ∷ perform call.Val (value_for 7 (quoted 7 []) ∷ by_reference (variable 1 small) [] ∷ by_reference (variable 2 small) [] ∷ []) ∷ perform call.Write (shown (read (variable 1 small) []) ∷ shown (letter 32) ∷ shown (read (variable 2 small) []) ∷ shown (letter 32) ∷ []) ∷ perform call.Val (value_for char (letter 45) ∷ by_reference (variable 1 small) [] ∷ by_reference (variable 2 small) [] ∷ []) ∷ perform call.Write (shown (read (variable 1 small) []) ∷ shown (letter 32) ∷ shown (read (variable 2 small) []) ∷ shown (letter 32) ∷ []) ∷ perform call.Val (value_for 5 (quoted 5 (codes "1 ")) ∷ by_reference (variable 1 small) [] ∷ by_reference (variable 2 small) [] ∷ []) ∷ perform call.Write (shown (read (variable 1 small) []) ∷ shown (letter 32) ∷ shown (read (variable 2 small) []) ∷ []) ∷ [])) [] 0 ≡ End (codes "12 0 -7 0 3 0 0 1 0 2 0 2") 0 []
unfolding run
val_of_numbers = refl

-- the place of the digit at which the range is left
-- var i: longint; c: integer; begin val('9223372036854775808', i, c); write(i, ' ', c) end.
val_past_64_bits : run (whole Turbo (range (negsuc 2147483647) (pos 2147483647) ∷ Literal 19 ∷ []) [] [] (of_type 5 1 ∷ of_type small 2 ∷ []) [] (perform call.Val (value_for 6 (quoted 6 (codes "9223372036854775808")) ∷ by_reference (variable 1 5) [] ∷ by_reference (variable 2 small) [] ∷ []) ∷ perform call.Write (shown (read (variable 1 5) []) ∷ shown (letter 32) ∷ shown (read (variable 2 small) []) ∷ []) ∷ [])) [] 0 ≡ End (codes "0 19") 0 []
unfolding run
val_past_64_bits = refl

-- the code is not stored
-- var i, c: integer; begin c := 9; val('40000', i, c); write('no') end.
val_out_of_range : run (whole Turbo (Literal 5 ∷ Literal 2 ∷ []) [] [] (of_type small 1 ∷ of_type small 2 ∷ []) [] (assign_to small (variable 2 small) [] (num 9) ∷ perform call.Val (value_for 5 (quoted 5 (codes "40000")) ∷ by_reference (variable 1 small) [] ∷ by_reference (variable 2 small) [] ∷ []) ∷ perform call.Write (shown (quoted 6 (codes "no")) ∷ []) ∷ [])) [] 0 ≡ End [] 201 []
unfolding run
val_out_of_range = refl

-- var s: string[5]; begin s := 'ab'; strappend(s, 'cd'); setstrlen(s, 3); writeln(s, strmax(s)); setstrlen(s, 6) end.
append_and_length : run (whole Hp (DynString 5 ∷ Literal 2 ∷ []) [] [] (of_type 5 1 ∷ []) [] (assign_to 5 (variable 1 5) [] (quoted 6 (codes "ab")) ∷ perform call.StrAppend (by_reference (variable 1 5) [] ∷ value_for 6 (quoted 6 (codes "cd")) ∷ []) ∷ perform call.SetStrLen (by_reference (variable 1 5) [] ∷ value_for integer (num 3) ∷ []) ∷ perform call.Writeln (shown (read (variable 1 5) []) ∷ shown (predefined call.StrMax (by_reference (variable 1 5) [] ∷ []) integer) ∷ []) ∷ perform call.SetStrLen (by_reference (variable 1 5) [] ∷ value_for integer (num 6) ∷ []) ∷ [])) [] 0 ≡ End (line (codes "abc5")) 207 []
unfolding run
append_and_length = refl

-- begin write('ab' < 'abc', 'b' < 'abc') end.
prefix_is_less : InEach (Turbo ∷ Ucsd ∷ Hp ∷ []) (λ d. whole d (Literal 2 ∷ Literal 3 ∷ []) [] [] [] [] (perform call.Write (shown (chain (quoted 5 (codes "ab")) ((op.Less, quoted 6 (codes "abc"), boolean) ∷ [])) ∷ shown (chain (letter 98) ((op.Less, quoted 6 (codes "abc"), boolean) ∷ [])) ∷ []) ∷ [])) [] 0 (End (codes "TRUEFALSE") 0 [])
unfolding run
prefix_is_less = (refl, (refl, (refl, tt)))

-- var s: string[5]; z: packed array [1..2] of char; c: char; begin s := 'ab'; z := 'ab'; c := 'a'; write(s = z, s > c, c <= z, z <> s, c = 'a') end.
texts_of_unlike_kinds_are_compared : InEach (Turbo ∷ Ucsd ∷ Hp ∷ []) (λ d. whole d (DynString 5 ∷ Ordinal WholeHost (pos 1) (pos 2) ∷ Array true 6 char ∷ Literal 2 ∷ []) [] [] (of_type 5 1 ∷ of_type 7 2 ∷ of_type char 3 ∷ []) [] (assign_to 5 (variable 1 5) [] (quoted 8 (codes "ab")) ∷ assign_to 7 (variable 2 7) [] (quoted 8 (codes "ab")) ∷ assign_to char (variable 3 char) [] (letter 97) ∷ perform call.Write (shown (chain (read (variable 1 5) []) ((op.Equal, read (variable 2 7) [], boolean) ∷ [])) ∷ shown (chain (read (variable 1 5) []) ((op.Greater, read (variable 3 char) [], boolean) ∷ [])) ∷ shown (chain (read (variable 3 char) []) ((op.LessEq, read (variable 2 7) [], boolean) ∷ [])) ∷ shown (chain (read (variable 2 7) []) ((op.Unequal, read (variable 1 5) [], boolean) ∷ [])) ∷ shown (chain (read (variable 3 char) []) ((op.Equal, letter 97, boolean) ∷ [])) ∷ []) ∷ [])) [] 0 (End (codes "TRUETRUETRUEFALSETRUE") 0 [])
unfolding run
texts_of_unlike_kinds_are_compared = (refl, (refl, (refl, tt)))

-- var s: string; c: char; procedure p(var x: char); begin x := 'z' end; begin s := 'ab'; c := 'q'; p(s[1]); p(c); write(s, c) end.
component_of_a_string_by_reference : run (whole Turbo (DynString 255 ∷ Literal 2 ∷ []) (procedure 1 Program (section_var char (3 ∷ []) ∷ []) [] [] (assign_to char (variable 3 char) [] (letter 122) ∷ []) ∷ []) [] (of_type 5 1 ∷ of_type char 2 ∷ []) [] (assign_to 5 (variable 1 5) [] (quoted 6 (codes "ab")) ∷ assign_to char (variable 2 char) [] (letter 113) ∷ S.Call (CalleeRoutine 1) (by_reference (variable 1 5) (selector.Index (num 1) 5 char ∷ []) ∷ []) ∷ S.Call (CalleeRoutine 1) (by_reference (variable 2 char) [] ∷ []) ∷ perform call.Write (shown (read (variable 1 5) []) ∷ shown (read (variable 2 char) []) ∷ []) ∷ [])) [] 1 ≡ End (codes "zbz") 0 (1 ∷ 1 ∷ [])
unfolding run
component_of_a_string_by_reference = refl

-- cell 0 is the length, and the bytes above it stay
-- var s: string[5]; begin s := 'abcde'; s := 'xy'; s[0] := chr(4); write(s) end.
length_cell : run (whole Turbo (DynString 5 ∷ Literal 5 ∷ Literal 2 ∷ []) [] [] (of_type 5 1 ∷ []) [] (assign_to 5 (variable 1 5) [] (quoted 6 (codes "abcde")) ∷ assign_to 5 (variable 1 5) [] (quoted 7 (codes "xy")) ∷ assign_to char (variable 1 5) (selector.Index (num 0) 5 char ∷ []) (predefined call.Chr (value_for small (num 4) ∷ []) char) ∷ perform call.Write (shown (read (variable 1 5) []) ∷ []) ∷ [])) [] 0 ≡ End (codes "xycd") 0 []
unfolding run
length_cell = refl

-- reading the text raises, its cells do not
-- var s: string[3]; begin s := 'abc'; s[0] := chr(4); write(ord(s[0]), s[3]); write(s) end.
length_above_the_limit : run (whole Turbo (DynString 3 ∷ Literal 3 ∷ []) [] [] (of_type 5 1 ∷ []) [] (assign_to 5 (variable 1 5) [] (quoted 6 (codes "abc")) ∷ assign_to char (variable 1 5) (selector.Index (num 0) 5 char ∷ []) (predefined call.Chr (value_for small (num 4) ∷ []) char) ∷ perform call.Write (shown (predefined call.Ord (value_for char (read (variable 1 5) (selector.Index (num 0) 5 char ∷ [])) ∷ []) small) ∷ shown (read (variable 1 5) (selector.Index (num 3) 5 char ∷ [])) ∷ []) ∷ perform call.Write (shown (read (variable 1 5) []) ∷ []) ∷ [])) [] 0 ≡ End (codes "4c") 207 []
unfolding run
length_above_the_limit = refl

-- var s: string[3]; begin s := 'abc'; s[0] := chr(9); write('x'); write(length(s)) end.
length_call_above_the_limit : run (whole Turbo (DynString 3 ∷ Literal 3 ∷ []) [] [] (of_type 5 1 ∷ []) [] (assign_to 5 (variable 1 5) [] (quoted 6 (codes "abc")) ∷ assign_to char (variable 1 5) (selector.Index (num 0) 5 char ∷ []) (predefined call.Chr (value_for small (num 9) ∷ []) char) ∷ perform call.Write (shown (letter 120) ∷ []) ∷ perform call.Write (shown (predefined call.Length (value_for 5 (read (variable 1 5) []) ∷ []) small) ∷ []) ∷ [])) [] 0 ≡ End (codes "x") 207 []
unfolding run
length_call_above_the_limit = refl

-- var s: string[3]; begin s := 'a'; s[3] := 'z'; write('x'); s[4] := 'y' end.
index_past_the_limit : run (whole Turbo (DynString 3 ∷ []) [] [] (of_type 5 1 ∷ []) [] (assign_to 5 (variable 1 5) [] (letter 97) ∷ assign_to char (variable 1 5) (selector.Index (num 3) 5 char ∷ []) (letter 122) ∷ perform call.Write (shown (letter 120) ∷ []) ∷ assign_to char (variable 1 5) (selector.Index (num 4) 5 char ∷ []) (letter 121) ∷ [])) [] 0 ≡ End (codes "x") 201 []
unfolding run
index_past_the_limit = refl

-- var s: string[3]; begin s := 'ab'; s[2] := 'z'; write(s); s[3] := 'y' end.
index_past_the_length : InEach (Ucsd ∷ Hp ∷ []) (λ d. whole d (DynString 3 ∷ Literal 2 ∷ []) [] [] (of_type 5 1 ∷ []) [] (assign_to 5 (variable 1 5) [] (quoted 6 (codes "ab")) ∷ assign_to char (variable 1 5) (selector.Index (num 2) 5 char ∷ []) (letter 122) ∷ perform call.Write (shown (read (variable 1 5) []) ∷ []) ∷ assign_to char (variable 1 5) (selector.Index (num 3) 5 char ∷ []) (letter 121) ∷ [])) [] 0 (End (codes "az") 201 [])
unfolding run
index_past_the_length = (refl, (refl, tt))

-- the length is read
-- var s: string[3]; begin write('x'); s[1] := 'a' end.
index_of_an_undefined_string : InEach (Ucsd ∷ Hp ∷ []) (λ d. whole d (DynString 3 ∷ []) [] [] (of_type 5 1 ∷ []) [] (perform call.Write (shown (letter 120) ∷ []) ∷ assign_to char (variable 1 5) (selector.Index (num 1) 5 char ∷ []) (letter 97) ∷ [])) [] 0 (UndefinedAfter (codes "x") [])
unfolding run
index_of_an_undefined_string = (refl, (refl, tt))

-- var s: string[3]; begin write('x'); write(s) end.
undefined_string : InEach (Turbo ∷ Ucsd ∷ Hp ∷ []) (λ d. whole d (DynString 3 ∷ []) [] [] (of_type 5 1 ∷ []) [] (perform call.Write (shown (letter 120) ∷ []) ∷ perform call.Write (shown (read (variable 1 5) []) ∷ []) ∷ [])) [] 0 (UndefinedAfter (codes "x") [])
unfolding run
undefined_string = (refl, (refl, (refl, tt)))

-- var s: string[3]; begin s[0] := chr(2); s[1] := 'a'; write(length(s)); write(s) end.
undefined_cell_of_a_string : run (whole Turbo (DynString 3 ∷ []) [] [] (of_type 5 1 ∷ []) [] (assign_to char (variable 1 5) (selector.Index (num 0) 5 char ∷ []) (predefined call.Chr (value_for small (num 2) ∷ []) char) ∷ assign_to char (variable 1 5) (selector.Index (num 1) 5 char ∷ []) (letter 97) ∷ perform call.Write (shown (predefined call.Length (value_for 5 (read (variable 1 5) []) ∷ []) small) ∷ []) ∷ perform call.Write (shown (read (variable 1 5) []) ∷ []) ∷ [])) [] 0 ≡ UndefinedAfter (codes "2") []
unfolding run
undefined_cell_of_a_string = refl

-- the cells of the copy are those before f
-- var s: string[5]; function f: char; begin s := 'zz'; f := 'c' end; begin s := 'ab'; write(s + f) end.
operand_is_copied_and_read_later : run (whole Turbo (DynString 5 ∷ Literal 2 ∷ []) (function 1 Program [] (of_type char 2) [] (assign_to 5 (variable 1 5) [] (quoted 6 (codes "zz")) ∷ assign_to char (outcome 2 char) [] (letter 99) ∷ []) ∷ []) [] (of_type 5 1 ∷ []) [] (assign_to 5 (variable 1 5) [] (quoted 6 (codes "ab")) ∷ perform call.Write (shown (chain (read (variable 1 5) []) ((op.Join, call (CalleeRoutine 1) [] char, text) ∷ [])) ∷ []) ∷ [])) [] 1 ≡ End (codes "abc") 0 (1 ∷ [])
unfolding run
operand_is_copied_and_read_later = refl

-- f is called before the text is read
-- var s: string[5]; function f: char; begin write('f'); f := 'c' end; begin write(s + f) end.
undefined_operand_is_copied : run (whole Turbo (DynString 5 ∷ []) (function 1 Program [] (of_type char 2) [] (perform call.Write (shown (letter 102) ∷ []) ∷ assign_to char (outcome 2 char) [] (letter 99) ∷ []) ∷ []) [] (of_type 5 1 ∷ []) [] (perform call.Write (shown (chain (read (variable 1 5) []) ((op.Join, call (CalleeRoutine 1) [] char, text) ∷ [])) ∷ []) ∷ [])) [] 1 ≡ UndefinedAfter (codes "f") (1 ∷ [])
unfolding run
undefined_operand_is_copied = refl

-- var c: char; function f: char; begin write('f'); f := 'c' end; begin write('x'); write(c + f) end.
character_operand_is_read_at_once : run (whole Turbo [] (function 1 Program [] (of_type char 2) [] (perform call.Write (shown (letter 102) ∷ []) ∷ assign_to char (outcome 2 char) [] (letter 99) ∷ []) ∷ []) [] (of_type char 1 ∷ []) [] (perform call.Write (shown (letter 120) ∷ []) ∷ perform call.Write (shown (chain (read (variable 1 char) []) ((op.Join, call (CalleeRoutine 1) [] char, text) ∷ [])) ∷ []) ∷ [])) [] 1 ≡ UndefinedAfter (codes "x") []
unfolding run
character_operand_is_read_at_once = refl

-- no cell behind it is read
-- var a, b: packed array [1..3] of char; begin a[1] := 'a'; b[1] := 'b'; write(a < b); a[1] := 'b'; write(a < b) end.
comparison_stops_at_the_first_difference : InEach (Turbo ∷ Ucsd ∷ Hp ∷ []) (λ d. whole d (Ordinal WholeHost (pos 1) (pos 3) ∷ Array true 5 char ∷ []) [] [] (of_type 6 1 ∷ of_type 6 2 ∷ []) [] (assign_to char (variable 1 6) (selector.Index (num 1) 6 char ∷ []) (letter 97) ∷ assign_to char (variable 2 6) (selector.Index (num 1) 6 char ∷ []) (letter 98) ∷ perform call.Write (shown (chain (read (variable 1 6) []) ((op.Less, read (variable 2 6) [], boolean) ∷ [])) ∷ []) ∷ assign_to char (variable 1 6) (selector.Index (num 1) 6 char ∷ []) (letter 98) ∷ perform call.Write (shown (chain (read (variable 1 6) []) ((op.Less, read (variable 2 6) [], boolean) ∷ [])) ∷ []) ∷ [])) [] 0 (UndefinedAfter (codes "TRUE") [])
unfolding run
comparison_stops_at_the_first_difference = (refl, (refl, (refl, tt)))

-- var a, b: string[3]; begin a := 'a'; write('x'); write(a < b) end.
comparison_reads_both_lengths_first : run (whole Turbo (DynString 3 ∷ []) [] [] (of_type 5 1 ∷ of_type 5 2 ∷ []) [] (assign_to 5 (variable 1 5) [] (letter 97) ∷ perform call.Write (shown (letter 120) ∷ []) ∷ perform call.Write (shown (chain (read (variable 1 5) []) ((op.Less, read (variable 2 5) [], boolean) ∷ [])) ∷ []) ∷ [])) [] 0 ≡ UndefinedAfter (codes "x") []
unfolding run
comparison_reads_both_lengths_first = refl

-- var a, b: string[3]; begin a := 'a'; b[0] := chr(2); b[1] := 'a'; write(a < b) end.
comparison_reads_no_cell_past_the_shorter : run (whole Turbo (DynString 3 ∷ []) [] [] (of_type 5 1 ∷ of_type 5 2 ∷ []) [] (assign_to 5 (variable 1 5) [] (letter 97) ∷ assign_to char (variable 2 5) (selector.Index (num 0) 5 char ∷ []) (predefined call.Chr (value_for small (num 2) ∷ []) char) ∷ assign_to char (variable 2 5) (selector.Index (num 1) 5 char ∷ []) (letter 97) ∷ perform call.Write (shown (chain (read (variable 1 5) []) ((op.Less, read (variable 2 5) [], boolean) ∷ [])) ∷ []) ∷ [])) [] 0 ≡ End (codes "TRUE") 0 []
unfolding run
comparison_reads_no_cell_past_the_shorter = refl

-- its length is above the limit, and the right one is undefined
-- var a, b: string[3]; begin a := 'abc'; a[0] := chr(7); write('x'); a := a + b end.
left_text_is_read_first : run (whole Turbo (DynString 3 ∷ Literal 3 ∷ []) [] [] (of_type 5 1 ∷ of_type 5 2 ∷ []) [] (assign_to 5 (variable 1 5) [] (quoted 6 (codes "abc")) ∷ assign_to char (variable 1 5) (selector.Index (num 0) 5 char ∷ []) (predefined call.Chr (value_for small (num 7) ∷ []) char) ∷ perform call.Write (shown (letter 120) ∷ []) ∷ assign_to 5 (variable 1 5) [] (chain (read (variable 1 5) []) ((op.Join, read (variable 2 5) [], text) ∷ [])) ∷ [])) [] 0 ≡ End (codes "x") 207 []
unfolding run
left_text_is_read_first = refl

-- var s: string; i: integer; begin s := 'x'; for i := 1 to 8 do s := s + s; write(length(s)) end.
join_is_cut_at_255 : run (whole Turbo (DynString 255 ∷ []) [] [] (of_type 5 1 ∷ of_type small 2 ∷ []) [] (assign_to 5 (variable 1 5) [] (letter 120) ∷ for_of small 2 false (num 1) (num 8) (assign_to 5 (variable 1 5) [] (chain (read (variable 1 5) []) ((op.Join, read (variable 1 5) [], text) ∷ []))) ∷ perform call.Write (shown (predefined call.Length (value_for 5 (read (variable 1 5) []) ∷ []) small) ∷ []) ∷ [])) [] 9 ≡ End (codes "255") 0 []
unfolding run
join_is_cut_at_255 = refl

-- var s: string; i: integer; begin s := 'x'; for i := 1 to 8 do s := s + s; write(strlen(s)) end.
join_above_255 : run (whole Hp (DynString 255 ∷ []) [] [] (of_type 5 1 ∷ of_type integer 2 ∷ []) [] (assign_to 5 (variable 1 5) [] (letter 120) ∷ for_of integer 2 false (num 1) (num 8) (assign_to 5 (variable 1 5) [] (chain (read (variable 1 5) []) ((op.Join, read (variable 1 5) [], text) ∷ []))) ∷ perform call.Write (shown (predefined call.StrLen (value_for 5 (read (variable 1 5) []) ∷ []) integer) ∷ []) ∷ [])) [] 9 ≡ End [] 207 []
unfolding run
join_above_255 = refl

-- begin write(copy('abcde', 2, 3), '/', copy('abc', 3, 9), '/', copy('abc', 9, 1), '/', copy('abc', 1, 0), '/', copy('abc', 1, -1)); write(copy('abc', 0, 1)) end.
copy_of_a_part : InEach (Turbo ∷ Ucsd ∷ []) (λ d. whole d (Literal 5 ∷ Literal 3 ∷ []) [] [] [] [] (perform call.Write (shown (predefined call.Copy (value_for 5 (quoted 5 (codes "abcde")) ∷ value_for small (num 2) ∷ value_for small (num 3) ∷ []) text) ∷ shown (letter 47) ∷ shown (predefined call.Copy (value_for 6 (quoted 6 (codes "abc")) ∷ value_for small (num 3) ∷ value_for small (num 9) ∷ []) text) ∷ shown (letter 47) ∷ shown (predefined call.Copy (value_for 6 (quoted 6 (codes "abc")) ∷ value_for small (num 9) ∷ value_for small (num 1) ∷ []) text) ∷ shown (letter 47) ∷ shown (predefined call.Copy (value_for 6 (quoted 6 (codes "abc")) ∷ value_for small (num 1) ∷ value_for small (num 0) ∷ []) text) ∷ shown (letter 47) ∷ shown (predefined call.Copy (value_for 6 (quoted 6 (codes "abc")) ∷ value_for small (num 1) ∷ value_for small (unary small un.Minus (num 1)) ∷ []) text) ∷ []) ∷ perform call.Write (shown (predefined call.Copy (value_for 6 (quoted 6 (codes "abc")) ∷ value_for small (num 0) ∷ value_for small (num 1) ∷ []) text) ∷ []) ∷ [])) [] 0 (End (codes "bcd/c///") 201 [])
unfolding run
copy_of_a_part = (refl, (refl, tt))

-- begin write(pos('b', 'abcb'), pos('cb', 'abcb'), pos('x', 'abc'), pos('', 'abc'), pos('abcd', 'abc')) end.
place_of_a_text : InEach (Turbo ∷ Ucsd ∷ []) (λ d. whole d (Literal 4 ∷ Literal 2 ∷ Literal 3 ∷ Literal 0 ∷ []) [] [] [] [] (perform call.Write (shown (predefined call.Pos (value_for char (letter 98) ∷ value_for 5 (quoted 5 (codes "abcb")) ∷ []) small) ∷ shown (predefined call.Pos (value_for 6 (quoted 6 (codes "cb")) ∷ value_for 5 (quoted 5 (codes "abcb")) ∷ []) small) ∷ shown (predefined call.Pos (value_for char (letter 120) ∷ value_for 7 (quoted 7 (codes "abc")) ∷ []) small) ∷ shown (predefined call.Pos (value_for 8 (quoted 8 []) ∷ value_for 7 (quoted 7 (codes "abc")) ∷ []) small) ∷ shown (predefined call.Pos (value_for 5 (quoted 5 (codes "abcd")) ∷ value_for 7 (quoted 7 (codes "abc")) ∷ []) small) ∷ []) ∷ [])) [] 0 (End (codes "23000") 0 [])
unfolding run
place_of_a_text = (refl, (refl, tt))

-- var s: string[9]; begin s := 'b'; write(concat('a', s, 'cd'), concat('x')) end.
concat : InEach (Turbo ∷ Ucsd ∷ []) (λ d. whole d (DynString 9 ∷ Literal 2 ∷ []) [] [] (of_type 5 1 ∷ []) [] (assign_to 5 (variable 1 5) [] (letter 98) ∷ perform call.Write (shown (predefined call.Concat (value_for char (letter 97) ∷ value_for 5 (read (variable 1 5) []) ∷ value_for 6 (quoted 6 (codes "cd")) ∷ []) text) ∷ shown (predefined call.Concat (value_for char (letter 120) ∷ []) text) ∷ []) ∷ [])) [] 0 (End (codes "abcdx") 0 [])
unfolding run
concat = (refl, (refl, tt))

-- var s: string[200]; i: integer; begin s := ''; for i := 1 to 200 do s := concat(s, 'x'); write(length(s)); write(concat(s, s)) end.
concat_above_255 : run (whole Ucsd (DynString 200 ∷ Literal 0 ∷ []) [] [] (of_type 5 1 ∷ of_type small 2 ∷ []) [] (assign_to 5 (variable 1 5) [] (quoted 6 []) ∷ for_of small 2 false (num 1) (num 200) (assign_to 5 (variable 1 5) [] (predefined call.Concat (value_for 5 (read (variable 1 5) []) ∷ value_for char (letter 120) ∷ []) text)) ∷ perform call.Write (shown (predefined call.Length (value_for 5 (read (variable 1 5) []) ∷ []) small) ∷ []) ∷ perform call.Write (shown (predefined call.Concat (value_for 5 (read (variable 1 5) []) ∷ value_for 5 (read (variable 1 5) []) ∷ []) text) ∷ []) ∷ [])) [] 200 ≡ End (codes "200") 207 []
unfolding run
concat_above_255 = refl

-- var s: string[9]; begin s := 'abc'; insert('x', s, 9); write(s); insert('y', s, 1); write(s); insert('z', s, 0) end.
insert_at_the_end : InEach (Turbo ∷ Ucsd ∷ []) (λ d. whole d (DynString 9 ∷ Literal 3 ∷ []) [] [] (of_type 5 1 ∷ []) [] (assign_to 5 (variable 1 5) [] (quoted 6 (codes "abc")) ∷ perform call.Insert (value_for char (letter 120) ∷ by_reference (variable 1 5) [] ∷ value_for small (num 9) ∷ []) ∷ perform call.Write (shown (read (variable 1 5) []) ∷ []) ∷ perform call.Insert (value_for char (letter 121) ∷ by_reference (variable 1 5) [] ∷ value_for small (num 1) ∷ []) ∷ perform call.Write (shown (read (variable 1 5) []) ∷ []) ∷ perform call.Insert (value_for char (letter 122) ∷ by_reference (variable 1 5) [] ∷ value_for small (num 0) ∷ []) ∷ [])) [] 0 (End (codes "abcxyabcx") 201 [])
unfolding run
insert_at_the_end = (refl, (refl, tt))

-- var s: string[4]; begin s := 'abcd'; insert('xy', s, 2); write(s) end.
insert_past_the_limit_is_cut : run (whole Turbo (DynString 4 ∷ Literal 4 ∷ Literal 2 ∷ []) [] [] (of_type 5 1 ∷ []) [] (assign_to 5 (variable 1 5) [] (quoted 6 (codes "abcd")) ∷ perform call.Insert (value_for 7 (quoted 7 (codes "xy")) ∷ by_reference (variable 1 5) [] ∷ value_for small (num 2) ∷ []) ∷ perform call.Write (shown (read (variable 1 5) []) ∷ []) ∷ [])) [] 0 ≡ End (codes "axyb") 0 []
unfolding run
insert_past_the_limit_is_cut = refl

-- var s: string[4]; begin s := 'abcd'; insert('xy', s, 2); write(s) end.
insert_past_the_limit_raises : run (whole Ucsd (DynString 4 ∷ Literal 4 ∷ Literal 2 ∷ []) [] [] (of_type 5 1 ∷ []) [] (assign_to 5 (variable 1 5) [] (quoted 6 (codes "abcd")) ∷ perform call.Insert (value_for 7 (quoted 7 (codes "xy")) ∷ by_reference (variable 1 5) [] ∷ value_for small (num 2) ∷ []) ∷ perform call.Write (shown (read (variable 1 5) []) ∷ []) ∷ [])) [] 0 ≡ End [] 207 []
unfolding run
insert_past_the_limit_raises = refl

-- var s: string[9]; begin s := 'abcd'; delete(s, 3, 9); write(s); delete(s, 9, 1); write(s); delete(s, 1, 0); write(s); delete(s, 1, -2); write(s); delete(s, 0, 1) end.
delete_what_is_there : InEach (Turbo ∷ Ucsd ∷ []) (λ d. whole d (DynString 9 ∷ Literal 4 ∷ []) [] [] (of_type 5 1 ∷ []) [] (assign_to 5 (variable 1 5) [] (quoted 6 (codes "abcd")) ∷ perform call.Delete (by_reference (variable 1 5) [] ∷ value_for small (num 3) ∷ value_for small (num 9) ∷ []) ∷ perform call.Write (shown (read (variable 1 5) []) ∷ []) ∷ perform call.Delete (by_reference (variable 1 5) [] ∷ value_for small (num 9) ∷ value_for small (num 1) ∷ []) ∷ perform call.Write (shown (read (variable 1 5) []) ∷ []) ∷ perform call.Delete (by_reference (variable 1 5) [] ∷ value_for small (num 1) ∷ value_for small (num 0) ∷ []) ∷ perform call.Write (shown (read (variable 1 5) []) ∷ []) ∷ perform call.Delete (by_reference (variable 1 5) [] ∷ value_for small (num 1) ∷ value_for small (unary small un.Minus (num 2)) ∷ []) ∷ perform call.Write (shown (read (variable 1 5) []) ∷ []) ∷ perform call.Delete (by_reference (variable 1 5) [] ∷ value_for small (num 0) ∷ value_for small (num 1) ∷ []) ∷ [])) [] 0 (End (codes "abababab") 201 [])
unfolding run
delete_what_is_there = (refl, (refl, tt))

-- var s: string[4]; begin str(-7:5, s); write(s, '|'); str(12, s); write(s, '|'); str(3:0, s); write(s) end.
number_as_a_text : run (whole Turbo (DynString 4 ∷ []) [] [] (of_type 5 1 ∷ []) [] (perform call.Str (wide (unary small un.Minus (num 7)) (num 5) ∷ by_reference (variable 1 5) [] ∷ []) ∷ perform call.Write (shown (read (variable 1 5) []) ∷ shown (letter 124) ∷ []) ∷ perform call.Str (shown (num 12) ∷ by_reference (variable 1 5) [] ∷ []) ∷ perform call.Write (shown (read (variable 1 5) []) ∷ shown (letter 124) ∷ []) ∷ perform call.Str (wide (num 3) (num 0) ∷ by_reference (variable 1 5) [] ∷ []) ∷ perform call.Write (shown (read (variable 1 5) []) ∷ []) ∷ [])) [] 0 ≡ End (codes "   -|12|3") 0 []
unfolding run
number_as_a_text = refl

-- of a fixed string no cell is read
-- var z: packed array [1..3] of char; begin write(length(z), length('abcd'), length('x')) end.
lengths_of_texts : InEach (Turbo ∷ Ucsd ∷ []) (λ d. whole d (Ordinal WholeHost (pos 1) (pos 3) ∷ Array true 5 char ∷ Literal 4 ∷ []) [] [] (of_type 6 1 ∷ []) [] (perform call.Write (shown (predefined call.Length (value_for 6 (read (variable 1 6) []) ∷ []) small) ∷ shown (predefined call.Length (value_for 7 (quoted 7 (codes "abcd")) ∷ []) small) ∷ shown (predefined call.Length (value_for char (letter 120) ∷ []) small) ∷ []) ∷ [])) [] 0 (End (codes "341") 0 [])
unfolding run
lengths_of_texts = (refl, (refl, tt))

-- var s: string[9]; begin s := ' ab '; write('[', strltrim(s), '][', strrtrim(s), ']') end.
trimmed_texts : run (whole Hp (DynString 9 ∷ Literal 5 ∷ Literal 2 ∷ []) [] [] (of_type 5 1 ∷ []) [] (assign_to 5 (variable 1 5) [] (quoted 6 (codes "  ab ")) ∷ perform call.Write (shown (letter 91) ∷ shown (predefined call.StrLTrim (value_for 5 (read (variable 1 5) []) ∷ []) text) ∷ shown (quoted 7 (codes "][")) ∷ shown (predefined call.StrRTrim (value_for 5 (read (variable 1 5) []) ∷ []) text) ∷ shown (letter 93) ∷ []) ∷ [])) [] 0 ≡ End (codes "[ab ][  ab]") 0 []
unfolding run
trimmed_texts = refl

-- all of it has to be there
-- begin write(str('abcde', 2, 3), '/', str('abc', 4, 0), '/'); write(str('abc', 3, 2)) end.
part_of_a_text : run (whole Hp (Literal 5 ∷ Literal 3 ∷ []) [] [] [] [] (perform call.Write (shown (predefined call.Str (value_for 5 (quoted 5 (codes "abcde")) ∷ value_for integer (num 2) ∷ value_for integer (num 3) ∷ []) text) ∷ shown (letter 47) ∷ shown (predefined call.Str (value_for 6 (quoted 6 (codes "abc")) ∷ value_for integer (num 4) ∷ value_for integer (num 0) ∷ []) text) ∷ shown (letter 47) ∷ []) ∷ perform call.Write (shown (predefined call.Str (value_for 6 (quoted 6 (codes "abc")) ∷ value_for integer (num 3) ∷ value_for integer (num 2) ∷ []) text) ∷ []) ∷ [])) [] 0 ≡ End (codes "bcd//") 201 []
unfolding run
part_of_a_text = refl

-- begin write(strrpt('ab', 3), strrpt('x', 0), '/'); write(strrpt('ab', -1)) end.
repeated_text : run (whole Hp (Literal 2 ∷ []) [] [] [] [] (perform call.Write (shown (predefined call.StrRpt (value_for 5 (quoted 5 (codes "ab")) ∷ value_for integer (num 3) ∷ []) text) ∷ shown (predefined call.StrRpt (value_for char (letter 120) ∷ value_for integer (num 0) ∷ []) text) ∷ shown (letter 47) ∷ []) ∷ perform call.Write (shown (predefined call.StrRpt (value_for 5 (quoted 5 (codes "ab")) ∷ value_for integer (unary integer un.Minus (num 1)) ∷ []) text) ∷ []) ∷ [])) [] 0 ≡ End (codes "ababab/") 201 []
unfolding run
repeated_text = refl

-- begin write('x'); write(strrpt('ab', 128)) end.
repeated_text_above_255 : run (whole Hp (Literal 2 ∷ []) [] [] [] [] (perform call.Write (shown (letter 120) ∷ []) ∷ perform call.Write (shown (predefined call.StrRpt (value_for 5 (quoted 5 (codes "ab")) ∷ value_for integer (num 128) ∷ []) text) ∷ []) ∷ [])) [] 0 ≡ End (codes "x") 207 []
unfolding run
repeated_text_above_255 = refl

-- var s: string[3]; begin s := 'ab'; strappend(s, 'c'); write(s); strappend(s, 'd') end.
append_past_the_limit : run (whole Hp (DynString 3 ∷ Literal 2 ∷ []) [] [] (of_type 5 1 ∷ []) [] (assign_to 5 (variable 1 5) [] (quoted 6 (codes "ab")) ∷ perform call.StrAppend (by_reference (variable 1 5) [] ∷ value_for char (letter 99) ∷ []) ∷ perform call.Write (shown (read (variable 1 5) []) ∷ []) ∷ perform call.StrAppend (by_reference (variable 1 5) [] ∷ value_for char (letter 100) ∷ []) ∷ [])) [] 0 ≡ End (codes "abc") 207 []
unfolding run
append_past_the_limit = refl

-- var s: string[3]; begin setstrlen(s, 1); s[1] := 'a'; write(s, strlen(s)); setstrlen(s, -1) end.
length_is_set_without_reading : run (whole Hp (DynString 3 ∷ []) [] [] (of_type 5 1 ∷ []) [] (perform call.SetStrLen (by_reference (variable 1 5) [] ∷ value_for integer (num 1) ∷ []) ∷ assign_to char (variable 1 5) (selector.Index (num 1) 5 char ∷ []) (letter 97) ∷ perform call.Write (shown (read (variable 1 5) []) ∷ shown (predefined call.StrLen (value_for 5 (read (variable 1 5) []) ∷ []) integer) ∷ []) ∷ perform call.SetStrLen (by_reference (variable 1 5) [] ∷ value_for integer (unary integer un.Minus (num 1)) ∷ []) ∷ [])) [] 0 ≡ End (codes "a1") 207 []
unfolding run
length_is_set_without_reading = refl

-- no cell is read
-- var s: string[7]; begin write(strmax(s)) end.
greatest_length_of_an_undefined_string : run (whole Hp (DynString 7 ∷ []) [] [] (of_type 5 1 ∷ []) [] (perform call.Write (shown (predefined call.StrMax (by_reference (variable 1 5) [] ∷ []) integer) ∷ []) ∷ [])) [] 0 ≡ End (codes "7") 0 []
unfolding run
greatest_length_of_an_undefined_string = refl

-- a text of any kind is converted to its type
-- type t = string[3]; procedure p(s: t); begin write(s); s[1] := 'x'; write(s) end; begin p('ab'); p('c') end.
string_parameter_by_value : InEach (Turbo ∷ Ucsd ∷ Hp ∷ []) (λ d. whole d (DynString 3 ∷ Literal 2 ∷ []) (procedure 1 Program (section 5 (1 ∷ []) ∷ []) [] [] (perform call.Write (shown (read (variable 1 5) []) ∷ []) ∷ assign_to char (variable 1 5) (selector.Index (num 1) 5 char ∷ []) (letter 120) ∷ perform call.Write (shown (read (variable 1 5) []) ∷ []) ∷ []) ∷ []) [] [] [] (S.Call (CalleeRoutine 1) (value_for 5 (quoted 6 (codes "ab")) ∷ []) ∷ S.Call (CalleeRoutine 1) (value_for 5 (letter 99) ∷ []) ∷ [])) [] 2 (End (codes "abxbcx") 0 (1 ∷ 1 ∷ []))
unfolding run
string_parameter_by_value = (refl, (refl, (refl, tt)))

-- type t = string[2]; procedure p(s: t); begin write(s) end; begin p('abc') end.
string_argument_is_cut : run (whole Turbo (DynString 2 ∷ Literal 3 ∷ []) (procedure 1 Program (section 5 (1 ∷ []) ∷ []) [] [] (perform call.Write (shown (read (variable 1 5) []) ∷ []) ∷ []) ∷ []) [] [] [] (S.Call (CalleeRoutine 1) (value_for 5 (quoted 6 (codes "abc")) ∷ []) ∷ [])) [] 1 ≡ End (codes "ab") 0 (1 ∷ [])
unfolding run
string_argument_is_cut = refl

-- before the routine is entered
-- type t = string[2]; procedure p(s: t); begin write(s) end; begin p('abc') end.
string_argument_is_too_long : InEach (Ucsd ∷ Hp ∷ []) (λ d. whole d (DynString 2 ∷ Literal 3 ∷ []) (procedure 1 Program (section 5 (1 ∷ []) ∷ []) [] [] (perform call.Write (shown (read (variable 1 5) []) ∷ []) ∷ []) ∷ []) [] [] [] (S.Call (CalleeRoutine 1) (value_for 5 (quoted 6 (codes "abc")) ∷ []) ∷ [])) [] 1 (End [] 207 [])
unfolding run
string_argument_is_too_long = (refl, (refl, tt))

-- cell 0 is read at the end of the activation
-- type t = string[3]; function f(n: integer): t; begin if n = 1 then f := 'ab' end; begin write(f(1)); write('x'); write(f(2)) end.
string_result_in_turbo_and_ucsd : InEach (Turbo ∷ Ucsd ∷ []) (λ d. whole d (DynString 3 ∷ Literal 2 ∷ []) (function 1 Program (section small (2 ∷ []) ∷ []) (of_type 5 1) [] (if_then (chain (read (variable 2 small) []) ((op.Equal, num 1, boolean) ∷ [])) (assign_to 5 (outcome 1 5) [] (quoted 6 (codes "ab"))) ∷ []) ∷ []) [] [] [] (perform call.Write (shown (call (CalleeRoutine 1) (value_for small (num 1) ∷ []) 5) ∷ []) ∷ perform call.Write (shown (letter 120) ∷ []) ∷ perform call.Write (shown (call (CalleeRoutine 1) (value_for small (num 2) ∷ []) 5) ∷ []) ∷ [])) [] 1 (UndefinedAfter (codes "abx") (1 ∷ 1 ∷ []))
unfolding run
string_result_in_turbo_and_ucsd = (refl, (refl, tt))

string_result_in_hp : run (whole Hp (DynString 3 ∷ Literal 2 ∷ []) (function 1 Program (section integer (2 ∷ []) ∷ []) (of_type 5 1) [] (if_then (chain (read (variable 2 integer) []) ((op.Equal, num 1, boolean) ∷ [])) (assign_to 5 (outcome 1 5) [] (quoted 6 (codes "ab"))) ∷ []) ∷ []) [] [] [] (perform call.Write (shown (call (CalleeRoutine 1) (value_for integer (num 1) ∷ []) 5) ∷ []) ∷ perform call.Write (shown (letter 120) ∷ []) ∷ perform call.Write (shown (call (CalleeRoutine 1) (value_for integer (num 2) ∷ []) 5) ∷ []) ∷ [])) [] 1 ≡ UndefinedAfter (codes "abx") (1 ∷ 1 ∷ [])
unfolding run
string_result_in_hp = refl

-- var r, q: record s: string[3]; a: integer end; begin r.s[1] := 'z'; r.a := 1; q := r; write(q.a, q.s[1]); write(q.s) end.
string_as_a_component_is_copied : run (whole Turbo (DynString 3 ∷ RecordOf false (field 1 5 ∷ field 2 small ∷ []) None ∷ []) [] [] (of_type 6 3 ∷ of_type 6 4 ∷ []) [] (assign_to char (variable 3 6) (selector.Field 1 5 ∷ selector.Index (num 1) 5 char ∷ []) (letter 122) ∷ assign_to small (variable 3 6) (selector.Field 2 small ∷ []) (num 1) ∷ assign_to 6 (variable 4 6) [] (read (variable 3 6) []) ∷ perform call.Write (shown (read (variable 4 6) (selector.Field 2 small ∷ [])) ∷ shown (read (variable 4 6) (selector.Field 1 5 ∷ selector.Index (num 1) 5 char ∷ [])) ∷ []) ∷ perform call.Write (shown (read (variable 4 6) (selector.Field 1 5 ∷ [])) ∷ []) ∷ [])) [] 0 ≡ UndefinedAfter (codes "1z") []
unfolding run
string_as_a_component_is_copied = refl

-- var r: record case Boolean of true: (s: string[3]); false: (b: integer) end; begin r.s := 'ab'; write(r.s); r.b := 1; write('x'); write(r.s) end.
string_in_a_variant_in_turbo_and_ucsd : InEach (Turbo ∷ Ucsd ∷ []) (λ d. whole d (DynString 3 ∷ RecordOf false [] (Some (variant_part 1 None boolean (arm (label_of (pos 1) ∷ []) (field 2 5 ∷ []) None ∷ arm (label_of (pos 0) ∷ []) (field 3 small ∷ []) None ∷ []))) ∷ Literal 2 ∷ []) [] [] (of_type 6 4 ∷ []) [] (assign_to 5 (variable 4 6) (selector.Field 2 5 ∷ []) (quoted 7 (codes "ab")) ∷ perform call.Write (shown (read (variable 4 6) (selector.Field 2 5 ∷ [])) ∷ []) ∷ assign_to small (variable 4 6) (selector.Field 3 small ∷ []) (num 1) ∷ perform call.Write (shown (letter 120) ∷ []) ∷ perform call.Write (shown (read (variable 4 6) (selector.Field 2 5 ∷ [])) ∷ []) ∷ [])) [] 0 (End (codes "abx") 205 [])
unfolding run
string_in_a_variant_in_turbo_and_ucsd = (refl, (refl, tt))

string_in_a_variant_in_hp : run (whole Hp (DynString 3 ∷ RecordOf false [] (Some (variant_part 1 None boolean (arm (label_of (pos 1) ∷ []) (field 2 5 ∷ []) None ∷ arm (label_of (pos 0) ∷ []) (field 3 integer ∷ []) None ∷ []))) ∷ Literal 2 ∷ []) [] [] (of_type 6 4 ∷ []) [] (assign_to 5 (variable 4 6) (selector.Field 2 5 ∷ []) (quoted 7 (codes "ab")) ∷ perform call.Write (shown (read (variable 4 6) (selector.Field 2 5 ∷ [])) ∷ []) ∷ assign_to integer (variable 4 6) (selector.Field 3 integer ∷ []) (num 1) ∷ perform call.Write (shown (letter 120) ∷ []) ∷ perform call.Write (shown (read (variable 4 6) (selector.Field 2 5 ∷ [])) ∷ []) ∷ [])) [] 0 ≡ End (codes "abx") 205 []
unfolding run
string_in_a_variant_in_hp = refl

-- only the cells that are written are read
-- var z: packed array [1..3] of char; begin z[1] := 'a'; write(z:1); write(z:2) end.
string_longer_than_its_width : run (whole Ucsd (Ordinal WholeHost (pos 1) (pos 3) ∷ Array true 5 char ∷ []) [] [] (of_type 6 1 ∷ []) [] (assign_to char (variable 1 6) (selector.Index (num 1) 6 char ∷ []) (letter 97) ∷ perform call.Write (wide (read (variable 1 6) []) (num 1) ∷ []) ∷ perform call.Write (wide (read (variable 1 6) []) (num 2) ∷ []) ∷ [])) [] 0 ≡ UndefinedAfter (codes "a") []
unfolding run
string_longer_than_its_width = refl

-- the cells that are cut afterwards are read too
-- var s: string[1]; t: string[3]; begin t[0] := chr(2); t[1] := 'a'; write('x'); s := t; write('y') end.
cut_cells_are_read : run (whole Turbo (DynString 1 ∷ DynString 3 ∷ []) [] [] (of_type 5 1 ∷ of_type 6 2 ∷ []) [] (assign_to char (variable 2 6) (selector.Index (num 0) 6 char ∷ []) (predefined call.Chr (value_for small (num 2) ∷ []) char) ∷ assign_to char (variable 2 6) (selector.Index (num 1) 6 char ∷ []) (letter 97) ∷ perform call.Write (shown (letter 120) ∷ []) ∷ assign_to 5 (variable 1 5) [] (read (variable 2 6) []) ∷ perform call.Write (shown (letter 121) ∷ []) ∷ [])) [] 0 ≡ UndefinedAfter (codes "x") []
unfolding run
cut_cells_are_read = refl

-- even where nothing is removed
-- var s: string[3]; begin write('x'); delete(s, 1, 0) end.
changed_string_is_read : InEach (Turbo ∷ Ucsd ∷ []) (λ d. whole d (DynString 3 ∷ []) [] [] (of_type 5 1 ∷ []) [] (perform call.Write (shown (letter 120) ∷ []) ∷ perform call.Delete (by_reference (variable 1 5) [] ∷ value_for small (num 1) ∷ value_for small (num 0) ∷ []) ∷ [])) [] 0 (UndefinedAfter (codes "x") [])
unfolding run
changed_string_is_read = (refl, (refl, tt))

-- the place 0 would be an error
-- var s: string[3]; begin write('x'); write(copy(s, 0, 1)) end.
text_is_read_before_the_checks : InEach (Turbo ∷ Ucsd ∷ []) (λ d. whole d (DynString 3 ∷ []) [] [] (of_type 5 1 ∷ []) [] (perform call.Write (shown (letter 120) ∷ []) ∷ perform call.Write (shown (predefined call.Copy (value_for 5 (read (variable 1 5) []) ∷ value_for small (num 0) ∷ value_for small (num 1) ∷ []) text) ∷ []) ∷ [])) [] 0 (UndefinedAfter (codes "x") [])
unfolding run
text_is_read_before_the_checks = (refl, (refl, tt))
