-- Text input and output.
use Rattle.std.proofs.Common.{◌≡◌, [], ◌∷◌, ◌++◌, refl, true, false}
use Rattle.std.specs.Prelude.{codes, pos}
use Rattle.p2c_text.specs.declared.dialect.Dialect.TheVariants.{Iso, Turbo, Ucsd, Hp}
use Rattle.typed_tree.specs.declared.types.Host.TheVariants.{Whole as WholeHost, Char as CharHost}
use Rattle.typed_tree.specs.declared.types.PasType.TheVariants.{Ordinal, Array, DynString, Literal}
use Rattle.typed_tree.specs.declared.declarations.Callee.TheVariants.{Routine as CalleeRoutine}
use Rattle.typed_tree.specs.declared.declarations.Owner.TheVariants.{Program}
use Rattle.typed_tree.specs.declared.expressions.Root.TheVariants as root
use Rattle.typed_tree.specs.declared.expressions.Selector.TheVariants as selector
use Rattle.typed_tree.specs.declared.operations.BinaryOp.TheVariants as op
use Rattle.typed_tree.specs.declared.operations.UnaryOp.TheVariants as un
use Rattle.typed_tree.specs.declared.operations.PredefCall.TheVariants as call
use Rattle.meanings.specs.Code.{End}
use Rattle.pascal_meaning.specs.Whole.{run}
use Rattle.pascal_meaning.proofs.Examples.Build.{integer, small, char, boolean, num, letter, truth, quoted, unary, chain, read, variable, outcome, call, predefined, by_reference, shown, wide, assign_to, seq, while, try, perform, of_type, function, whole, line, InEach}

-- var c: char; begin while not eof do begin while not eoln do begin read(c); write(c) end; readln; writeln end end.
lines_are_copied : InEach (Iso ∷ Turbo ∷ Ucsd ∷ Hp ∷ []) (λ d. whole d [] [] [] (of_type char 1 ∷ []) [] (while (unary boolean un.Not (predefined call.Eof [] boolean)) (seq (while (unary boolean un.Not (predefined call.Eoln [] boolean)) (seq (perform call.Read (by_reference (variable 1 char) [] ∷ []) ∷ perform call.Write (shown (read (variable 1 char) []) ∷ []) ∷ [])) ∷ perform call.Readln [] ∷ perform call.Writeln [] ∷ [])) ∷ [])) (line (codes "ab") ++ codes "c") 9 (End (line (codes "ab") ++ line (codes "c")) 0 [])
unfolding run
lines_are_copied = (refl, (refl, (refl, (refl, tt))))

-- it is taken whole
-- var i: integer; begin read(i) end.
number_outside_64_bits_in_iso_and_hp : InEach (Iso ∷ Hp ∷ []) (λ d. whole d [] [] [] (of_type integer 1 ∷ []) [] (perform call.Read (by_reference (variable 1 integer) [] ∷ []) ∷ [])) (codes "99999999999999999999") 0 (End [] 206 [])
unfolding run
number_outside_64_bits_in_iso_and_hp = (refl, (refl, tt))

number_outside_64_bits_in_turbo_and_ucsd : InEach (Turbo ∷ Ucsd ∷ []) (λ d. whole d [] [] [] (of_type small 1 ∷ []) [] (perform call.Read (by_reference (variable 1 small) [] ∷ []) ∷ [])) (codes "99999999999999999999") 0 (End [] 206 [])
unfolding run
number_outside_64_bits_in_turbo_and_ucsd = (refl, (refl, tt))

-- var i: integer; begin read(i) end.
number_outside_the_variable : InEach (Turbo ∷ Ucsd ∷ []) (λ d. whole d [] [] [] (of_type small 1 ∷ []) [] (perform call.Read (by_reference (variable 1 small) [] ∷ []) ∷ [])) (codes "32768") 0 (End [] 201 [])
unfolding run
number_outside_the_variable = (refl, (refl, tt))

-- line ends too
-- var i, j: integer; begin read(i, j); write(i, ' ', j) end.
blanks_before_a_number_in_iso_and_hp : InEach (Iso ∷ Hp ∷ []) (λ d. whole d [] [] [] (of_type integer 1 ∷ of_type integer 2 ∷ []) [] (perform call.Read (by_reference (variable 1 integer) [] ∷ by_reference (variable 2 integer) [] ∷ []) ∷ perform call.Write (shown (read (variable 1 integer) []) ∷ shown (letter 32) ∷ shown (read (variable 2 integer) []) ∷ []) ∷ [])) (line (32 ∷ 9 ∷ []) ++ line (codes " +5") ++ codes "-6x") 0 (End (codes "5 -6") 0 [])
unfolding run
blanks_before_a_number_in_iso_and_hp = (refl, (refl, tt))

blanks_before_a_number_in_turbo_and_ucsd : InEach (Turbo ∷ Ucsd ∷ []) (λ d. whole d [] [] [] (of_type small 1 ∷ of_type small 2 ∷ []) [] (perform call.Read (by_reference (variable 1 small) [] ∷ by_reference (variable 2 small) [] ∷ []) ∷ perform call.Write (shown (read (variable 1 small) []) ∷ shown (letter 32) ∷ shown (read (variable 2 small) []) ∷ []) ∷ [])) (line (32 ∷ 9 ∷ []) ++ line (codes " +5") ++ codes "-6x") 0 (End (codes "5 -6") 0 [])
unfolding run
blanks_before_a_number_in_turbo_and_ucsd = (refl, (refl, tt))

-- var i: integer; begin try read(i) recover write(escapecode, eof) end.
blanks_are_taken_before_the_end : run (whole Hp [] [] [] (of_type integer 1 ∷ []) [] (try (perform call.Read (by_reference (variable 1 integer) [] ∷ []) ∷ []) (perform call.Write (shown (predefined call.EscapeCode [] integer) ∷ shown (predefined call.Eof [] boolean) ∷ [])) ∷ [])) (line (codes "  ")) 0 ≡ End (codes "-208TRUE") 0 []
unfolding run
blanks_are_taken_before_the_end = refl

-- var i: integer; c: char; begin try read(i) recover begin read(c); write(escapecode, c) end end.
sign_is_taken_before_the_error : run (whole Hp [] [] [] (of_type integer 1 ∷ of_type char 2 ∷ []) [] (try (perform call.Read (by_reference (variable 1 integer) [] ∷ []) ∷ []) (seq (perform call.Read (by_reference (variable 2 char) [] ∷ []) ∷ perform call.Write (shown (predefined call.EscapeCode [] integer) ∷ shown (read (variable 2 char) []) ∷ []) ∷ [])) ∷ [])) (codes " -x") 0 ≡ End (codes "-206x") 0 []
unfolding run
sign_is_taken_before_the_error = refl

-- var i: integer; c: char; begin try read(i) recover begin read(c); write(escapecode, c) end end.
great_number_is_taken_before_the_error : run (whole Hp [] [] [] (of_type integer 1 ∷ of_type char 2 ∷ []) [] (try (perform call.Read (by_reference (variable 1 integer) [] ∷ []) ∷ []) (seq (perform call.Read (by_reference (variable 2 char) [] ∷ []) ∷ perform call.Write (shown (predefined call.EscapeCode [] integer) ∷ shown (read (variable 2 char) []) ∷ []) ∷ [])) ∷ [])) (codes "99999999999999999999x") 0 ≡ End (codes "-206x") 0 []
unfolding run
great_number_is_taken_before_the_error = refl

-- then it is read
-- var a: array [1..2] of integer; i: integer; begin i := 1; read(i, a[i]); write(a[2]) end.
variable_is_selected_first_in_iso_and_hp : InEach (Iso ∷ Hp ∷ []) (λ d. whole d (Ordinal WholeHost (pos 1) (pos 2) ∷ Array false 5 integer ∷ []) [] [] (of_type 6 1 ∷ of_type integer 2 ∷ []) [] (assign_to integer (variable 2 integer) [] (num 1) ∷ perform call.Read (by_reference (variable 2 integer) [] ∷ by_reference (variable 1 6) (selector.Index (read (variable 2 integer) []) 6 integer ∷ []) ∷ []) ∷ perform call.Write (shown (read (variable 1 6) (selector.Index (num 2) 6 integer ∷ [])) ∷ []) ∷ [])) (codes "2 7") 0 (End (codes "7") 0 [])
unfolding run
variable_is_selected_first_in_iso_and_hp = (refl, (refl, tt))

variable_is_selected_first_in_turbo_and_ucsd : InEach (Turbo ∷ Ucsd ∷ []) (λ d. whole d (Ordinal WholeHost (pos 1) (pos 2) ∷ Array false 5 small ∷ []) [] [] (of_type 6 1 ∷ of_type small 2 ∷ []) [] (assign_to small (variable 2 small) [] (num 1) ∷ perform call.Read (by_reference (variable 2 small) [] ∷ by_reference (variable 1 6) (selector.Index (read (variable 2 small) []) 6 small ∷ []) ∷ []) ∷ perform call.Write (shown (read (variable 1 6) (selector.Index (num 2) 6 small ∷ [])) ∷ []) ∷ [])) (codes "2 7") 0 (End (codes "7") 0 [])
unfolding run
variable_is_selected_first_in_turbo_and_ucsd = (refl, (refl, tt))

-- var i, j: integer; begin read(i, j) end.
read_stores_before_it_reads_on_in_iso_and_hp : InEach (Iso ∷ Hp ∷ []) (λ d. whole d [] [] [] (of_type integer 1 ∷ of_type integer 2 ∷ []) [] (perform call.Read (by_reference (variable 1 integer) [] ∷ by_reference (variable 2 integer) [] ∷ []) ∷ [])) (codes "1 x") 0 (End [] 206 [])
unfolding run
read_stores_before_it_reads_on_in_iso_and_hp = (refl, (refl, tt))

read_stores_before_it_reads_on_in_turbo_and_ucsd : InEach (Turbo ∷ Ucsd ∷ []) (λ d. whole d [] [] [] (of_type small 1 ∷ of_type small 2 ∷ []) [] (perform call.Read (by_reference (variable 1 small) [] ∷ by_reference (variable 2 small) [] ∷ []) ∷ [])) (codes "1 x") 0 (End [] 206 [])
unfolding run
read_stores_before_it_reads_on_in_turbo_and_ucsd = (refl, (refl, tt))

-- var c: char; begin read(c); write(c); read(c); write('[', c, ']'); read(c) end.
character_past_the_end : InEach (Iso ∷ Turbo ∷ Ucsd ∷ Hp ∷ []) (λ d. whole d [] [] [] (of_type char 1 ∷ []) [] (perform call.Read (by_reference (variable 1 char) [] ∷ []) ∷ perform call.Write (shown (read (variable 1 char) []) ∷ []) ∷ perform call.Read (by_reference (variable 1 char) [] ∷ []) ∷ perform call.Write (shown (letter 91) ∷ shown (read (variable 1 char) []) ∷ shown (letter 93) ∷ []) ∷ perform call.Read (by_reference (variable 1 char) [] ∷ []) ∷ [])) (codes "a") 0 (End (codes "a[ ]") 208 [])
unfolding run
character_past_the_end = (refl, (refl, (refl, (refl, tt))))

-- it takes nothing; a line end is a space
-- begin write(input^, input^); get(input); write('[', input^, ']', eoln); get; write(eof); write(input^) end.
look_ahead : InEach (Iso ∷ Turbo ∷ Ucsd ∷ Hp ∷ []) (λ d. whole d [] [] [] [] [] (perform call.Write (shown (read (root.Input) (selector.Follow char ∷ [])) ∷ shown (read (root.Input) (selector.Follow char ∷ [])) ∷ []) ∷ perform call.Get [] ∷ perform call.Write (shown (letter 91) ∷ shown (read (root.Input) (selector.Follow char ∷ [])) ∷ shown (letter 93) ∷ shown (predefined call.Eoln [] boolean) ∷ []) ∷ perform call.Get [] ∷ perform call.Write (shown (predefined call.Eof [] boolean) ∷ []) ∷ perform call.Write (shown (read (root.Input) (selector.Follow char ∷ [])) ∷ []) ∷ [])) (codes "a") 0 (End (codes "aa[ ]TRUETRUE") 208 [])
unfolding run
look_ahead = (refl, (refl, (refl, (refl, tt))))

-- begin write(eof); get(input) end.
get_past_the_end : InEach (Iso ∷ Turbo ∷ Ucsd ∷ Hp ∷ []) (λ d. whole d [] [] [] [] [] (perform call.Write (shown (predefined call.Eof [] boolean) ∷ []) ∷ perform call.Get [] ∷ [])) [] 0 (End (codes "TRUE") 208 [])
unfolding run
get_past_the_end = (refl, (refl, (refl, (refl, tt))))

-- begin write('x'); write(eoln) end.
line_end_at_the_end_raises : InEach (Iso ∷ Ucsd ∷ Hp ∷ []) (λ d. whole d [] [] [] [] [] (perform call.Write (shown (letter 120) ∷ []) ∷ perform call.Write (shown (predefined call.Eoln [] boolean) ∷ []) ∷ [])) [] 0 (End (codes "x") 208 [])
unfolding run
line_end_at_the_end_raises = (refl, (refl, (refl, tt)))

-- begin write('x'); write(eoln); readln; write('y') end.
line_end_at_the_end : run (whole Turbo [] [] [] [] [] (perform call.Write (shown (letter 120) ∷ []) ∷ perform call.Write (shown (predefined call.Eoln [] boolean) ∷ []) ∷ perform call.Readln [] ∷ perform call.Write (shown (letter 121) ∷ []) ∷ [])) [] 0 ≡ End (codes "xTRUEy") 0 []
unfolding run
line_end_at_the_end = refl

-- begin write('x'); readln; write('y') end.
line_past_the_end : InEach (Iso ∷ Ucsd ∷ Hp ∷ []) (λ d. whole d [] [] [] [] [] (perform call.Write (shown (letter 120) ∷ []) ∷ perform call.Readln [] ∷ perform call.Write (shown (letter 121) ∷ []) ∷ [])) [] 0 (End (codes "x") 208 [])
unfolding run
line_past_the_end = (refl, (refl, (refl, tt)))

-- var i, j: integer; begin readln(i); readln(j); write(i, ' ', j, eof) end.
rest_of_the_line_is_skipped_in_iso_and_hp : InEach (Iso ∷ Hp ∷ []) (λ d. whole d [] [] [] (of_type integer 1 ∷ of_type integer 2 ∷ []) [] (perform call.Readln (by_reference (variable 1 integer) [] ∷ []) ∷ perform call.Readln (by_reference (variable 2 integer) [] ∷ []) ∷ perform call.Write (shown (read (variable 1 integer) []) ∷ shown (letter 32) ∷ shown (read (variable 2 integer) []) ∷ shown (predefined call.Eof [] boolean) ∷ []) ∷ [])) (line (codes "1 2 3") ++ line (codes "4 5")) 0 (End (codes "1 4TRUE") 0 [])
unfolding run
rest_of_the_line_is_skipped_in_iso_and_hp = (refl, (refl, tt))

rest_of_the_line_is_skipped_in_turbo_and_ucsd : InEach (Turbo ∷ Ucsd ∷ []) (λ d. whole d [] [] [] (of_type small 1 ∷ of_type small 2 ∷ []) [] (perform call.Readln (by_reference (variable 1 small) [] ∷ []) ∷ perform call.Readln (by_reference (variable 2 small) [] ∷ []) ∷ perform call.Write (shown (read (variable 1 small) []) ∷ shown (letter 32) ∷ shown (read (variable 2 small) []) ∷ shown (predefined call.Eof [] boolean) ∷ []) ∷ [])) (line (codes "1 2 3") ++ line (codes "4 5")) 0 (End (codes "1 4TRUE") 0 [])
unfolding run
rest_of_the_line_is_skipped_in_turbo_and_ucsd = (refl, (refl, tt))

-- which is left
-- var s: string[9]; begin read(s); write('[', s, ']', eoln); readln; read(s); write('[', s, ']') end.
string_is_read_to_the_line_end : InEach (Turbo ∷ Ucsd ∷ Hp ∷ []) (λ d. whole d (DynString 9 ∷ []) [] [] (of_type 5 1 ∷ []) [] (perform call.Read (by_reference (variable 1 5) [] ∷ []) ∷ perform call.Write (shown (letter 91) ∷ shown (read (variable 1 5) []) ∷ shown (letter 93) ∷ shown (predefined call.Eoln [] boolean) ∷ []) ∷ perform call.Readln [] ∷ perform call.Read (by_reference (variable 1 5) [] ∷ []) ∷ perform call.Write (shown (letter 91) ∷ shown (read (variable 1 5) []) ∷ shown (letter 93) ∷ []) ∷ [])) (line (codes "ab c") ++ line (codes "d")) 0 (End (codes "[ab c]TRUE[d]") 0 [])
unfolding run
string_is_read_to_the_line_end = (refl, (refl, (refl, tt)))

-- var s: string[3]; c: char; begin read(s); read(c); write(s, '/', c) end.
string_takes_no_more_than_its_limit : InEach (Turbo ∷ Ucsd ∷ Hp ∷ []) (λ d. whole d (DynString 3 ∷ []) [] [] (of_type 5 1 ∷ of_type char 2 ∷ []) [] (perform call.Read (by_reference (variable 1 5) [] ∷ []) ∷ perform call.Read (by_reference (variable 2 char) [] ∷ []) ∷ perform call.Write (shown (read (variable 1 5) []) ∷ shown (letter 47) ∷ shown (read (variable 2 char) []) ∷ []) ∷ [])) (codes "abcdef") 0 (End (codes "abc/d") 0 [])
unfolding run
string_takes_no_more_than_its_limit = (refl, (refl, (refl, tt)))

-- var s: string[3]; begin read(s); write('[', s, ']') end.
empty_line_gives_an_empty_string : InEach (Turbo ∷ Ucsd ∷ Hp ∷ []) (λ d. whole d (DynString 3 ∷ []) [] [] (of_type 5 1 ∷ []) [] (perform call.Read (by_reference (variable 1 5) [] ∷ []) ∷ perform call.Write (shown (letter 91) ∷ shown (read (variable 1 5) []) ∷ shown (letter 93) ∷ []) ∷ [])) (line [] ++ codes "ab") 0 (End (codes "[]") 0 [])
unfolding run
empty_line_gives_an_empty_string = (refl, (refl, (refl, tt)))

-- var s: string[3]; begin read(s); write('[', s, ']') end.
string_at_the_end : run (whole Turbo (DynString 3 ∷ []) [] [] (of_type 5 1 ∷ []) [] (perform call.Read (by_reference (variable 1 5) [] ∷ []) ∷ perform call.Write (shown (letter 91) ∷ shown (read (variable 1 5) []) ∷ shown (letter 93) ∷ []) ∷ [])) [] 0 ≡ End (codes "[]") 0 []
unfolding run
string_at_the_end = refl

-- var s: string[3]; begin write('x'); read(s) end.
string_past_the_end : InEach (Ucsd ∷ Hp ∷ []) (λ d. whole d (DynString 3 ∷ []) [] [] (of_type 5 1 ∷ []) [] (perform call.Write (shown (letter 120) ∷ []) ∷ perform call.Read (by_reference (variable 1 5) [] ∷ []) ∷ [])) [] 0 (End (codes "x") 208 [])
unfolding run
string_past_the_end = (refl, (refl, tt))

-- begin write(true:2, 12:0) end.
widths : run (whole Iso [] [] [] [] [] (perform call.Write (wide (truth 1) (num 2) ∷ wide (num 12) (num 0) ∷ []) ∷ [])) [] 0 ≡ End (codes "TR") 201 []
unfolding run
widths = refl

-- begin write(true:2, 12:0) end.
widths_in_turbo : run (whole Turbo [] [] [] [] [] (perform call.Write (wide (truth 1) (num 2) ∷ wide (num 12) (num 0) ∷ []) ∷ [])) [] 0 ≡ End (codes "TRUE12") 0 []
unfolding run
widths_in_turbo = refl

-- begin write(-5:4, 'a':3, true:6, 'ab':3, 12345:2) end.
spaces_fill_on_the_left_in_iso_and_hp : InEach (Iso ∷ Hp ∷ []) (λ d. whole d (Literal 2 ∷ []) [] [] [] [] (perform call.Write (wide (unary integer un.Minus (num 5)) (num 4) ∷ wide (letter 97) (num 3) ∷ wide (truth 1) (num 6) ∷ wide (quoted 5 (codes "ab")) (num 3) ∷ wide (num 12345) (num 2) ∷ []) ∷ [])) [] 0 (End (codes "  -5  a  TRUE ab12345") 0 [])
unfolding run
spaces_fill_on_the_left_in_iso_and_hp = (refl, (refl, tt))

spaces_fill_on_the_left_in_turbo_and_ucsd : InEach (Turbo ∷ Ucsd ∷ []) (λ d. whole d (Literal 2 ∷ []) [] [] [] [] (perform call.Write (wide (unary small un.Minus (num 5)) (num 4) ∷ wide (letter 97) (num 3) ∷ wide (truth 1) (num 6) ∷ wide (quoted 5 (codes "ab")) (num 3) ∷ wide (num 12345) (num 2) ∷ []) ∷ [])) [] 0 (End (codes "  -5  a  TRUE ab12345") 0 [])
unfolding run
spaces_fill_on_the_left_in_turbo_and_ucsd = (refl, (refl, tt))

-- then the width is checked, and then the text is read
-- var z: packed array [1..2] of char; function f: integer; begin write('f'); f := 0 end; begin write(z:f) end.
width_comes_after_the_value : run (whole Ucsd (Ordinal WholeHost (pos 1) (pos 2) ∷ Array true 5 char ∷ []) (function 1 Program [] (of_type small 2) [] (perform call.Write (shown (letter 102) ∷ []) ∷ assign_to small (outcome 2 small) [] (num 0) ∷ []) ∷ []) [] (of_type 6 1 ∷ []) [] (perform call.Write (wide (read (variable 1 6) []) (call (CalleeRoutine 1) [] small) ∷ []) ∷ [])) [] 1 ≡ End (codes "f") 201 (1 ∷ [])
unfolding run
width_comes_after_the_value = refl

-- begin write('a'); page; page(output) end.
page : InEach (Iso ∷ Turbo ∷ Ucsd ∷ Hp ∷ []) (λ d. whole d [] [] [] [] [] (perform call.Write (shown (letter 97) ∷ []) ∷ perform call.Page [] ∷ perform call.Page [] ∷ [])) [] 0 (End (97 ∷ 12 ∷ 12 ∷ []) 0 [])
unfolding run
page = (refl, (refl, (refl, (refl, tt))))

-- begin write(-9223372036854775807 - 1) end.
least_number_in_iso_and_hp : InEach (Iso ∷ Hp ∷ []) (λ d. whole d [] [] [] [] [] (perform call.Write (shown (chain (unary integer un.Minus (num 9223372036854775807)) ((op.Sub, num 1, integer) ∷ [])) ∷ []) ∷ [])) [] 0 (End (codes "-9223372036854775808") 0 [])
unfolding run
least_number_in_iso_and_hp = (refl, (refl, tt))

least_number_in_turbo_and_ucsd : InEach (Turbo ∷ Ucsd ∷ []) (λ d. whole d [] [] [] [] [] (perform call.Write (shown (chain (unary small un.Minus (num 9223372036854775807)) ((op.Sub, num 1, small) ∷ [])) ∷ []) ∷ [])) [] 0 (End (codes "-9223372036854775808") 0 [])
unfolding run
least_number_in_turbo_and_ucsd = (refl, (refl, tt))

-- var c: 'a'..'c'; begin read(c); write(c); read(c) end.
character_of_a_subrange : InEach (Iso ∷ Turbo ∷ Ucsd ∷ Hp ∷ []) (λ d. whole d (Ordinal CharHost (pos 97) (pos 99) ∷ []) [] [] (of_type 5 1 ∷ []) [] (perform call.Read (by_reference (variable 1 5) [] ∷ []) ∷ perform call.Write (shown (read (variable 1 5) []) ∷ []) ∷ perform call.Read (by_reference (variable 1 5) [] ∷ []) ∷ [])) (codes "bx") 0 (End (codes "b") 201 [])
unfolding run
character_of_a_subrange = (refl, (refl, (refl, (refl, tt))))
