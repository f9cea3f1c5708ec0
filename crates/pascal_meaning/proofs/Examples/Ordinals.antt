-- Ordinals and structured statements.
use Rattle.std.proofs.Common.{◌≡◌, [], ◌∷◌, refl, true, false}
use Rattle.std.specs.Prelude.{codes, pos}
use Rattle.p2c_text.specs.declared.dialect.Dialect.TheVariants.{Iso, Turbo, Ucsd, Hp}
use Rattle.typed_tree.specs.declared.types.Host.TheVariants.{Whole as WholeHost, Enumeration}
use Rattle.typed_tree.specs.declared.types.PasType.TheVariants.{Ordinal}
use Rattle.typed_tree.specs.declared.declarations.Callee.TheVariants.{Routine as CalleeRoutine}
use Rattle.typed_tree.specs.declared.declarations.Owner.TheVariants.{Program}
use Rattle.typed_tree.specs.declared.expressions.TypedExpr as X
use Rattle.typed_tree.specs.declared.operations.BinaryOp.TheVariants as op
use Rattle.typed_tree.specs.declared.operations.UnaryOp.TheVariants as un
use Rattle.typed_tree.specs.declared.operations.PredefCall.TheVariants as call
use Rattle.meanings.specs.Code.{End, CutAfter, UndefinedAfter}
use Rattle.pascal_meaning.specs.Whole.{run}
use Rattle.pascal_meaning.proofs.Examples.Build.{integer, small, char, boolean, label_of, labels, num, letter, truth, unary, chain, read, variable, outcome, call, predefined, value_for, by_reference, shown, assign_to, seq, if_then, if_else, while, repeat_until, for_of, case_of, case_else, perform, of_type, section, function, whole, InEach}

-- no value past the last is ever computed
-- var v: 9223372036854775806..9223372036854775807; begin for v := 9223372036854775806 to 9223372036854775807 do write('x') end.
loop_ends_at_the_greatest_number : InEach (Iso ∷ Turbo ∷ Ucsd ∷ Hp ∷ []) (λ d. whole d (Ordinal WholeHost (pos 9223372036854775806) (pos 9223372036854775807) ∷ []) [] [] (of_type 5 1 ∷ []) [] (for_of 5 1 false (num 9223372036854775806) (num 9223372036854775807) (perform call.Write (shown (letter 120) ∷ [])) ∷ [])) [] 4 (End (codes "xx") 0 [])
unfolding run
loop_ends_at_the_greatest_number = (refl, (refl, (refl, (refl, tt))))

-- begin write(maxint * maxint); write(maxint * maxint * 3) end.
product_of_64_bits : InEach (Iso ∷ Hp ∷ []) (λ d. whole d [] [] [] [] [] (perform call.Write (shown (chain (num 2147483647) ((op.Mul, num 2147483647, integer) ∷ [])) ∷ []) ∷ perform call.Write (shown (chain (num 2147483647) ((op.Mul, num 2147483647, integer) ∷ (op.Mul, num 3, integer) ∷ [])) ∷ []) ∷ [])) [] 0 (End (codes "4611686014132420609") 203 [])
unfolding run
product_of_64_bits = (refl, (refl, tt))

-- var c: (red, green); i: integer; begin c := green; i := 0; repeat i := i + 1 until (i = 3) or (c = red); write(i, ord(succ(red))) end.
enumeration_and_repeat_in_iso_and_hp : InEach (Iso ∷ Hp ∷ []) (λ d. whole d (Ordinal (Enumeration 5) (pos 0) (pos 1) ∷ []) [] [] (of_type 5 1 ∷ of_type integer 2 ∷ []) [] (assign_to 5 (variable 1 5) [] (X.Number (pos 1) 5) ∷ assign_to integer (variable 2 integer) [] (num 0) ∷ repeat_until (assign_to integer (variable 2 integer) [] (chain (read (variable 2 integer) []) ((op.Add, num 1, integer) ∷ [])) ∷ []) (chain (chain (read (variable 2 integer) []) ((op.Equal, num 3, boolean) ∷ [])) ((op.Or, chain (read (variable 1 5) []) ((op.Equal, X.Number (pos 0) 5, boolean) ∷ []), boolean) ∷ [])) ∷ perform call.Write (shown (read (variable 2 integer) []) ∷ shown (predefined call.Ord (value_for 5 (predefined call.Succ (value_for 5 (X.Number (pos 0) 5) ∷ []) 5) ∷ []) integer) ∷ []) ∷ [])) [] 4 (End (codes "31") 0 [])
unfolding run
enumeration_and_repeat_in_iso_and_hp = (refl, (refl, tt))

enumeration_and_repeat_in_turbo_and_ucsd : InEach (Turbo ∷ Ucsd ∷ []) (λ d. whole d (Ordinal (Enumeration 5) (pos 0) (pos 1) ∷ []) [] [] (of_type 5 1 ∷ of_type small 2 ∷ []) [] (assign_to 5 (variable 1 5) [] (X.Number (pos 1) 5) ∷ assign_to small (variable 2 small) [] (num 0) ∷ repeat_until (assign_to small (variable 2 small) [] (chain (read (variable 2 small) []) ((op.Add, num 1, small) ∷ [])) ∷ []) (chain (chain (read (variable 2 small) []) ((op.Equal, num 3, boolean) ∷ [])) ((op.Or, chain (read (variable 1 5) []) ((op.Equal, X.Number (pos 0) 5, boolean) ∷ []), boolean) ∷ [])) ∷ perform call.Write (shown (read (variable 2 small) []) ∷ shown (predefined call.Ord (value_for 5 (predefined call.Succ (value_for 5 (X.Number (pos 0) 5) ∷ []) 5) ∷ []) small) ∷ []) ∷ [])) [] 4 (End (codes "31") 0 [])
unfolding run
enumeration_and_repeat_in_turbo_and_ucsd = (refl, (refl, tt))

-- begin write(ord(succ(true))) end.
no_value_after_true_in_iso_and_hp : InEach (Iso ∷ Hp ∷ []) (λ d. whole d [] [] [] [] [] (perform call.Write (shown (predefined call.Ord (value_for boolean (predefined call.Succ (value_for boolean (truth 1) ∷ []) boolean) ∷ []) integer) ∷ []) ∷ [])) [] 0 (End [] 201 [])
unfolding run
no_value_after_true_in_iso_and_hp = (refl, (refl, tt))

no_value_after_true_in_turbo_and_ucsd : InEach (Turbo ∷ Ucsd ∷ []) (λ d. whole d [] [] [] [] [] (perform call.Write (shown (predefined call.Ord (value_for boolean (predefined call.Succ (value_for boolean (truth 1) ∷ []) boolean) ∷ []) small) ∷ []) ∷ [])) [] 0 (End [] 201 [])
unfolding run
no_value_after_true_in_turbo_and_ucsd = (refl, (refl, tt))

-- begin write(ord(pred(chr(0)))) end.
no_value_before_the_first_character_in_iso_and_hp : InEach (Iso ∷ Hp ∷ []) (λ d. whole d [] [] [] [] [] (perform call.Write (shown (predefined call.Ord (value_for char (predefined call.Pred (value_for char (predefined call.Chr (value_for integer (num 0) ∷ []) char) ∷ []) char) ∷ []) integer) ∷ []) ∷ [])) [] 0 (End [] 201 [])
unfolding run
no_value_before_the_first_character_in_iso_and_hp = (refl, (refl, tt))

no_value_before_the_first_character_in_turbo_and_ucsd : InEach (Turbo ∷ Ucsd ∷ []) (λ d. whole d [] [] [] [] [] (perform call.Write (shown (predefined call.Ord (value_for char (predefined call.Pred (value_for char (predefined call.Chr (value_for small (num 0) ∷ []) char) ∷ []) char) ∷ []) small) ∷ []) ∷ [])) [] 0 (End [] 201 [])
unfolding run
no_value_before_the_first_character_in_turbo_and_ucsd = (refl, (refl, tt))

-- var c: (red, green); begin c := green; c := succ(c) end.
no_value_after_the_last_of_an_enumeration : InEach (Iso ∷ Turbo ∷ Ucsd ∷ Hp ∷ []) (λ d. whole d (Ordinal (Enumeration 5) (pos 0) (pos 1) ∷ []) [] [] (of_type 5 1 ∷ []) [] (assign_to 5 (variable 1 5) [] (X.Number (pos 1) 5) ∷ assign_to 5 (variable 1 5) [] (predefined call.Succ (value_for 5 (read (variable 1 5) []) ∷ []) 5) ∷ [])) [] 0 (End [] 201 [])
unfolding run
no_value_after_the_last_of_an_enumeration = (refl, (refl, (refl, (refl, tt))))

-- it may pass the type of its variable
-- begin write(succ(32767), pred(-32768)) end.
successor_of_a_number_is_exact : run (whole Turbo [] [] [] [] [] (perform call.Write (shown (predefined call.Succ (value_for small (num 32767) ∷ []) small) ∷ shown (predefined call.Pred (value_for small (unary small un.Minus (num 32768)) ∷ []) small) ∷ []) ∷ [])) [] 0 ≡ End (codes "32768-32769") 0 []
unfolding run
successor_of_a_number_is_exact = refl

-- begin write(pred(9223372036854775807), succ(9223372036854775807)) end.
successor_past_64_bits_in_iso_and_hp : InEach (Iso ∷ Hp ∷ []) (λ d. whole d [] [] [] [] [] (perform call.Write (shown (predefined call.Pred (value_for integer (num 9223372036854775807) ∷ []) integer) ∷ shown (predefined call.Succ (value_for integer (num 9223372036854775807) ∷ []) integer) ∷ []) ∷ [])) [] 0 (End (codes "9223372036854775806") 203 [])
unfolding run
successor_past_64_bits_in_iso_and_hp = (refl, (refl, tt))

successor_past_64_bits_in_turbo_and_ucsd : InEach (Turbo ∷ Ucsd ∷ []) (λ d. whole d [] [] [] [] [] (perform call.Write (shown (predefined call.Pred (value_for small (num 9223372036854775807) ∷ []) small) ∷ shown (predefined call.Succ (value_for small (num 9223372036854775807) ∷ []) small) ∷ []) ∷ [])) [] 0 (End (codes "9223372036854775806") 203 [])
unfolding run
successor_past_64_bits_in_turbo_and_ucsd = (refl, (refl, tt))

-- begin write(abs(-5), ' ', sqr(-4), ' ', odd(-3), ' ', odd(2), ' ', ord('a'), ' ', chr(98)) end.
functions_on_numbers_in_iso_and_hp : InEach (Iso ∷ Hp ∷ []) (λ d. whole d [] [] [] [] [] (perform call.Write (shown (predefined call.Abs (value_for integer (unary integer un.Minus (num 5)) ∷ []) integer) ∷ shown (letter 32) ∷ shown (predefined call.Sqr (value_for integer (unary integer un.Minus (num 4)) ∷ []) integer) ∷ shown (letter 32) ∷ shown (predefined call.Odd (value_for integer (unary integer un.Minus (num 3)) ∷ []) boolean) ∷ shown (letter 32) ∷ shown (predefined call.Odd (value_for integer (num 2) ∷ []) boolean) ∷ shown (letter 32) ∷ shown (predefined call.Ord (value_for char (letter 97) ∷ []) integer) ∷ shown (letter 32) ∷ shown (predefined call.Chr (value_for integer (num 98) ∷ []) char) ∷ []) ∷ [])) [] 0 (End (codes "5 16 TRUE FALSE 97 b") 0 [])
unfolding run
functions_on_numbers_in_iso_and_hp = (refl, (refl, tt))

functions_on_numbers_in_turbo_and_ucsd : InEach (Turbo ∷ Ucsd ∷ []) (λ d. whole d [] [] [] [] [] (perform call.Write (shown (predefined call.Abs (value_for small (unary small un.Minus (num 5)) ∷ []) small) ∷ shown (letter 32) ∷ shown (predefined call.Sqr (value_for small (unary small un.Minus (num 4)) ∷ []) small) ∷ shown (letter 32) ∷ shown (predefined call.Odd (value_for small (unary small un.Minus (num 3)) ∷ []) boolean) ∷ shown (letter 32) ∷ shown (predefined call.Odd (value_for small (num 2) ∷ []) boolean) ∷ shown (letter 32) ∷ shown (predefined call.Ord (value_for char (letter 97) ∷ []) small) ∷ shown (letter 32) ∷ shown (predefined call.Chr (value_for small (num 98) ∷ []) char) ∷ []) ∷ [])) [] 0 (End (codes "5 16 TRUE FALSE 97 b") 0 [])
unfolding run
functions_on_numbers_in_turbo_and_ucsd = (refl, (refl, tt))

-- begin write(sqr(3037000500)) end.
square_past_64_bits_in_iso_and_hp : InEach (Iso ∷ Hp ∷ []) (λ d. whole d [] [] [] [] [] (perform call.Write (shown (predefined call.Sqr (value_for integer (num 3037000500) ∷ []) integer) ∷ []) ∷ [])) [] 0 (End [] 203 [])
unfolding run
square_past_64_bits_in_iso_and_hp = (refl, (refl, tt))

square_past_64_bits_in_turbo_and_ucsd : InEach (Turbo ∷ Ucsd ∷ []) (λ d. whole d [] [] [] [] [] (perform call.Write (shown (predefined call.Sqr (value_for small (num 3037000500) ∷ []) small) ∷ []) ∷ [])) [] 0 (End [] 203 [])
unfolding run
square_past_64_bits_in_turbo_and_ucsd = (refl, (refl, tt))

-- -2^63 has none
-- begin write(abs(-9223372036854775807 - 1)) end.
absolute_value_past_64_bits_in_iso_and_hp : InEach (Iso ∷ Hp ∷ []) (λ d. whole d [] [] [] [] [] (perform call.Write (shown (predefined call.Abs (value_for integer (chain (unary integer un.Minus (num 9223372036854775807)) ((op.Sub, num 1, integer) ∷ [])) ∷ []) integer) ∷ []) ∷ [])) [] 0 (End [] 203 [])
unfolding run
absolute_value_past_64_bits_in_iso_and_hp = (refl, (refl, tt))

absolute_value_past_64_bits_in_turbo_and_ucsd : InEach (Turbo ∷ Ucsd ∷ []) (λ d. whole d [] [] [] [] [] (perform call.Write (shown (predefined call.Abs (value_for small (chain (unary small un.Minus (num 9223372036854775807)) ((op.Sub, num 1, small) ∷ [])) ∷ []) small) ∷ []) ∷ [])) [] 0 (End [] 203 [])
unfolding run
absolute_value_past_64_bits_in_turbo_and_ucsd = (refl, (refl, tt))

-- begin write(chr(256)) end.
character_out_of_range_in_iso_and_hp : InEach (Iso ∷ Hp ∷ []) (λ d. whole d [] [] [] [] [] (perform call.Write (shown (predefined call.Chr (value_for integer (num 256) ∷ []) char) ∷ []) ∷ [])) [] 0 (End [] 201 [])
unfolding run
character_out_of_range_in_iso_and_hp = (refl, (refl, tt))

character_out_of_range_in_turbo_and_ucsd : InEach (Turbo ∷ Ucsd ∷ []) (λ d. whole d [] [] [] [] [] (perform call.Write (shown (predefined call.Chr (value_for small (num 256) ∷ []) char) ∷ []) ∷ [])) [] 0 (End [] 201 [])
unfolding run
character_out_of_range_in_turbo_and_ucsd = (refl, (refl, tt))

-- begin write(7 div 2, ' ', (-7) div 2, ' ', 7 div (-2)) end.
division_truncates_in_iso_and_hp : InEach (Iso ∷ Hp ∷ []) (λ d. whole d [] [] [] [] [] (perform call.Write (shown (chain (num 7) ((op.Div, num 2, integer) ∷ [])) ∷ shown (letter 32) ∷ shown (chain (unary integer un.Minus (num 7)) ((op.Div, num 2, integer) ∷ [])) ∷ shown (letter 32) ∷ shown (chain (num 7) ((op.Div, unary integer un.Minus (num 2), integer) ∷ [])) ∷ []) ∷ [])) [] 0 (End (codes "3 -3 -3") 0 [])
unfolding run
division_truncates_in_iso_and_hp = (refl, (refl, tt))

division_truncates_in_turbo_and_ucsd : InEach (Turbo ∷ Ucsd ∷ []) (λ d. whole d [] [] [] [] [] (perform call.Write (shown (chain (num 7) ((op.Div, num 2, small) ∷ [])) ∷ shown (letter 32) ∷ shown (chain (unary small un.Minus (num 7)) ((op.Div, num 2, small) ∷ [])) ∷ shown (letter 32) ∷ shown (chain (num 7) ((op.Div, unary small un.Minus (num 2), small) ∷ [])) ∷ []) ∷ [])) [] 0 (End (codes "3 -3 -3") 0 [])
unfolding run
division_truncates_in_turbo_and_ucsd = (refl, (refl, tt))

-- begin write(7 div 0) end.
division_by_zero_in_iso_and_hp : InEach (Iso ∷ Hp ∷ []) (λ d. whole d [] [] [] [] [] (perform call.Write (shown (chain (num 7) ((op.Div, num 0, integer) ∷ [])) ∷ []) ∷ [])) [] 0 (End [] 200 [])
unfolding run
division_by_zero_in_iso_and_hp = (refl, (refl, tt))

division_by_zero_in_turbo_and_ucsd : InEach (Turbo ∷ Ucsd ∷ []) (λ d. whole d [] [] [] [] [] (perform call.Write (shown (chain (num 7) ((op.Div, num 0, small) ∷ [])) ∷ []) ∷ [])) [] 0 (End [] 200 [])
unfolding run
division_by_zero_in_turbo_and_ucsd = (refl, (refl, tt))

-- begin write((-9223372036854775807 - 1) div (-1)) end.
division_past_64_bits_in_iso_and_hp : InEach (Iso ∷ Hp ∷ []) (λ d. whole d [] [] [] [] [] (perform call.Write (shown (chain (chain (unary integer un.Minus (num 9223372036854775807)) ((op.Sub, num 1, integer) ∷ [])) ((op.Div, unary integer un.Minus (num 1), integer) ∷ [])) ∷ []) ∷ [])) [] 0 (End [] 203 [])
unfolding run
division_past_64_bits_in_iso_and_hp = (refl, (refl, tt))

division_past_64_bits_in_turbo_and_ucsd : InEach (Turbo ∷ Ucsd ∷ []) (λ d. whole d [] [] [] [] [] (perform call.Write (shown (chain (chain (unary small un.Minus (num 9223372036854775807)) ((op.Sub, num 1, small) ∷ [])) ((op.Div, unary small un.Minus (num 1), small) ∷ [])) ∷ []) ∷ [])) [] 0 (End [] 203 [])
unfolding run
division_past_64_bits_in_turbo_and_ucsd = (refl, (refl, tt))

-- begin write(-(-9223372036854775807 - 1)) end.
sign_past_64_bits_in_iso_and_hp : InEach (Iso ∷ Hp ∷ []) (λ d. whole d [] [] [] [] [] (perform call.Write (shown (unary integer un.Minus (chain (unary integer un.Minus (num 9223372036854775807)) ((op.Sub, num 1, integer) ∷ []))) ∷ []) ∷ [])) [] 0 (End [] 203 [])
unfolding run
sign_past_64_bits_in_iso_and_hp = (refl, (refl, tt))

sign_past_64_bits_in_turbo_and_ucsd : InEach (Turbo ∷ Ucsd ∷ []) (λ d. whole d [] [] [] [] [] (perform call.Write (shown (unary small un.Minus (chain (unary small un.Minus (num 9223372036854775807)) ((op.Sub, num 1, small) ∷ []))) ∷ []) ∷ [])) [] 0 (End [] 203 [])
unfolding run
sign_past_64_bits_in_turbo_and_ucsd = (refl, (refl, tt))

-- begin write(7 mod (-3)) end.
remainder_by_a_negative_number : InEach (Iso ∷ Hp ∷ []) (λ d. whole d [] [] [] [] [] (perform call.Write (shown (chain (num 7) ((op.Mod, unary integer un.Minus (num 3), integer) ∷ [])) ∷ []) ∷ [])) [] 0 (End [] 200 [])
unfolding run
remainder_by_a_negative_number = (refl, (refl, tt))

-- begin write(7 mod (-3), (-7) mod (-3)) end.
remainder_by_a_negative_number_has_the_dividends_sign : InEach (Turbo ∷ Ucsd ∷ []) (λ d. whole d [] [] [] [] [] (perform call.Write (shown (chain (num 7) ((op.Mod, unary small un.Minus (num 3), small) ∷ [])) ∷ shown (chain (unary small un.Minus (num 7)) ((op.Mod, unary small un.Minus (num 3), small) ∷ [])) ∷ []) ∷ [])) [] 0 (End (codes "1-1") 0 [])
unfolding run
remainder_by_a_negative_number_has_the_dividends_sign = (refl, (refl, tt))

-- f is called once
-- function f: Boolean; begin write('f'); f := true end; begin if false and f then write('a'); if true or f then write('b'); if true and f then write('c') end.
right_operand_is_not_needed : InEach (Iso ∷ Turbo ∷ Ucsd ∷ Hp ∷ []) (λ d. whole d [] (function 1 Program [] (of_type boolean 1) [] (perform call.Write (shown (letter 102) ∷ []) ∷ assign_to boolean (outcome 1 boolean) [] (truth 1) ∷ []) ∷ []) [] [] [] (if_then (chain (truth 0) ((op.And, call (CalleeRoutine 1) [] boolean, boolean) ∷ [])) (perform call.Write (shown (letter 97) ∷ [])) ∷ if_then (chain (truth 1) ((op.Or, call (CalleeRoutine 1) [] boolean, boolean) ∷ [])) (perform call.Write (shown (letter 98) ∷ [])) ∷ if_then (chain (truth 1) ((op.And, call (CalleeRoutine 1) [] boolean, boolean) ∷ [])) (perform call.Write (shown (letter 99) ∷ [])) ∷ [])) [] 1 (End (codes "bfc") 0 (1 ∷ []))
unfolding run
right_operand_is_not_needed = (refl, (refl, (refl, (refl, tt))))

-- begin write(not true, not false) end.
not_of_a_truth_value : InEach (Iso ∷ Turbo ∷ Ucsd ∷ Hp ∷ []) (λ d. whole d [] [] [] [] [] (perform call.Write (shown (unary boolean un.Not (truth 1)) ∷ shown (unary boolean un.Not (truth 0)) ∷ []) ∷ [])) [] 0 (End (codes "FALSETRUE") 0 [])
unfolding run
not_of_a_truth_value = (refl, (refl, (refl, (refl, tt))))

-- begin write(1 < 2, 2 > 3, 2 <= 2, 2 >= 3, 1 = 1, 1 <> 1, 'a' < 'b', false < true) end.
comparisons_of_ordinals : InEach (Iso ∷ Turbo ∷ Ucsd ∷ Hp ∷ []) (λ d. whole d [] [] [] [] [] (perform call.Write (shown (chain (num 1) ((op.Less, num 2, boolean) ∷ [])) ∷ shown (chain (num 2) ((op.Greater, num 3, boolean) ∷ [])) ∷ shown (chain (num 2) ((op.LessEq, num 2, boolean) ∷ [])) ∷ shown (chain (num 2) ((op.GreaterEq, num 3, boolean) ∷ [])) ∷ shown (chain (num 1) ((op.Equal, num 1, boolean) ∷ [])) ∷ shown (chain (num 1) ((op.Unequal, num 1, boolean) ∷ [])) ∷ shown (chain (letter 97) ((op.Less, letter 98, boolean) ∷ [])) ∷ shown (chain (truth 0) ((op.Less, truth 1, boolean) ∷ [])) ∷ []) ∷ [])) [] 0 (End (codes "TRUEFALSETRUEFALSETRUEFALSETRUETRUE") 0 [])
unfolding run
comparisons_of_ordinals = (refl, (refl, (refl, (refl, tt))))

-- var i: integer; begin write('a'); i := i + 1 end.
undefined_variable_in_iso_and_hp : InEach (Iso ∷ Hp ∷ []) (λ d. whole d [] [] [] (of_type integer 1 ∷ []) [] (perform call.Write (shown (letter 97) ∷ []) ∷ assign_to integer (variable 1 integer) [] (chain (read (variable 1 integer) []) ((op.Add, num 1, integer) ∷ [])) ∷ [])) [] 0 (UndefinedAfter (codes "a") [])
unfolding run
undefined_variable_in_iso_and_hp = (refl, (refl, tt))

undefined_variable_in_turbo_and_ucsd : InEach (Turbo ∷ Ucsd ∷ []) (λ d. whole d [] [] [] (of_type small 1 ∷ []) [] (perform call.Write (shown (letter 97) ∷ []) ∷ assign_to small (variable 1 small) [] (chain (read (variable 1 small) []) ((op.Add, num 1, small) ∷ [])) ∷ [])) [] 0 (UndefinedAfter (codes "a") [])
unfolding run
undefined_variable_in_turbo_and_ucsd = (refl, (refl, tt))

-- var i: 1..5; begin i := 5; i := i + 1 end.
store_out_of_a_subrange_in_iso_and_hp : InEach (Iso ∷ Hp ∷ []) (λ d. whole d (Ordinal WholeHost (pos 1) (pos 5) ∷ []) [] [] (of_type 5 1 ∷ []) [] (assign_to 5 (variable 1 5) [] (num 5) ∷ assign_to 5 (variable 1 5) [] (chain (read (variable 1 5) []) ((op.Add, num 1, integer) ∷ [])) ∷ [])) [] 0 (End [] 201 [])
unfolding run
store_out_of_a_subrange_in_iso_and_hp = (refl, (refl, tt))

store_out_of_a_subrange_in_turbo_and_ucsd : InEach (Turbo ∷ Ucsd ∷ []) (λ d. whole d (Ordinal WholeHost (pos 1) (pos 5) ∷ []) [] [] (of_type 5 1 ∷ []) [] (assign_to 5 (variable 1 5) [] (num 5) ∷ assign_to 5 (variable 1 5) [] (chain (read (variable 1 5) []) ((op.Add, num 1, small) ∷ [])) ∷ [])) [] 0 (End [] 201 [])
unfolding run
store_out_of_a_subrange_in_turbo_and_ucsd = (refl, (refl, tt))

-- three turns need the bound 3
-- var i: integer; begin i := 0; while i < 3 do begin i := i + 1; write(i) end end.
while_turns_are_counted_in_iso_and_hp : InEach (Iso ∷ Hp ∷ []) (λ d. whole d [] [] [] (of_type integer 1 ∷ []) [] (assign_to integer (variable 1 integer) [] (num 0) ∷ while (chain (read (variable 1 integer) []) ((op.Less, num 3, boolean) ∷ [])) (seq (assign_to integer (variable 1 integer) [] (chain (read (variable 1 integer) []) ((op.Add, num 1, integer) ∷ [])) ∷ perform call.Write (shown (read (variable 1 integer) []) ∷ []) ∷ [])) ∷ [])) [] 3 (End (codes "123") 0 [])
unfolding run
while_turns_are_counted_in_iso_and_hp = (refl, (refl, tt))

while_turns_are_counted_in_turbo_and_ucsd : InEach (Turbo ∷ Ucsd ∷ []) (λ d. whole d [] [] [] (of_type small 1 ∷ []) [] (assign_to small (variable 1 small) [] (num 0) ∷ while (chain (read (variable 1 small) []) ((op.Less, num 3, boolean) ∷ [])) (seq (assign_to small (variable 1 small) [] (chain (read (variable 1 small) []) ((op.Add, num 1, small) ∷ [])) ∷ perform call.Write (shown (read (variable 1 small) []) ∷ []) ∷ [])) ∷ [])) [] 3 (End (codes "123") 0 [])
unfolding run
while_turns_are_counted_in_turbo_and_ucsd = (refl, (refl, tt))

-- var i: integer; begin i := 0; while i < 3 do begin i := i + 1; write(i) end end.
while_is_cut_in_iso_and_hp : InEach (Iso ∷ Hp ∷ []) (λ d. whole d [] [] [] (of_type integer 1 ∷ []) [] (assign_to integer (variable 1 integer) [] (num 0) ∷ while (chain (read (variable 1 integer) []) ((op.Less, num 3, boolean) ∷ [])) (seq (assign_to integer (variable 1 integer) [] (chain (read (variable 1 integer) []) ((op.Add, num 1, integer) ∷ [])) ∷ perform call.Write (shown (read (variable 1 integer) []) ∷ []) ∷ [])) ∷ [])) [] 2 (CutAfter (codes "12") [])
unfolding run
while_is_cut_in_iso_and_hp = (refl, (refl, tt))

while_is_cut_in_turbo_and_ucsd : InEach (Turbo ∷ Ucsd ∷ []) (λ d. whole d [] [] [] (of_type small 1 ∷ []) [] (assign_to small (variable 1 small) [] (num 0) ∷ while (chain (read (variable 1 small) []) ((op.Less, num 3, boolean) ∷ [])) (seq (assign_to small (variable 1 small) [] (chain (read (variable 1 small) []) ((op.Add, num 1, small) ∷ [])) ∷ perform call.Write (shown (read (variable 1 small) []) ∷ []) ∷ [])) ∷ [])) [] 2 (CutAfter (codes "12") [])
unfolding run
while_is_cut_in_turbo_and_ucsd = (refl, (refl, tt))

-- needs no bound
-- begin while false do write('a'); write('b') end.
while_without_a_turn : InEach (Iso ∷ Turbo ∷ Ucsd ∷ Hp ∷ []) (λ d. whole d [] [] [] [] [] (while (truth 0) (perform call.Write (shown (letter 97) ∷ [])) ∷ perform call.Write (shown (letter 98) ∷ []) ∷ [])) [] 0 (End (codes "b") 0 [])
unfolding run
while_without_a_turn = (refl, (refl, (refl, (refl, tt))))

-- begin repeat write('a') until true end.
repeat_has_a_turn : InEach (Iso ∷ Turbo ∷ Ucsd ∷ Hp ∷ []) (λ d. whole d [] [] [] [] [] (repeat_until (perform call.Write (shown (letter 97) ∷ []) ∷ []) (truth 1) ∷ [])) [] 0 (CutAfter [] [])
unfolding run
repeat_has_a_turn = (refl, (refl, (refl, (refl, tt))))

-- var i: integer; begin for i := 3 downto 1 do write(i) end.
downto_in_iso_and_hp : InEach (Iso ∷ Hp ∷ []) (λ d. whole d [] [] [] (of_type integer 1 ∷ []) [] (for_of integer 1 true (num 3) (num 1) (perform call.Write (shown (read (variable 1 integer) []) ∷ [])) ∷ [])) [] 3 (End (codes "321") 0 [])
unfolding run
downto_in_iso_and_hp = (refl, (refl, tt))

downto_in_turbo_and_ucsd : InEach (Turbo ∷ Ucsd ∷ []) (λ d. whole d [] [] [] (of_type small 1 ∷ []) [] (for_of small 1 true (num 3) (num 1) (perform call.Write (shown (read (variable 1 small) []) ∷ [])) ∷ [])) [] 3 (End (codes "321") 0 [])
unfolding run
downto_in_turbo_and_ucsd = (refl, (refl, tt))

-- the first limit and then the last
-- var i: integer; function f(n: integer): integer; begin write('f', n); f := n end; begin for i := f(1) to f(3) do write(i) end.
limits_are_evaluated_once_in_iso_and_hp : InEach (Iso ∷ Hp ∷ []) (λ d. whole d [] (function 1 Program (section integer (3 ∷ []) ∷ []) (of_type integer 2) [] (perform call.Write (shown (letter 102) ∷ shown (read (variable 3 integer) []) ∷ []) ∷ assign_to integer (outcome 2 integer) [] (read (variable 3 integer) []) ∷ []) ∷ []) [] (of_type integer 1 ∷ []) [] (for_of integer 1 false (call (CalleeRoutine 1) (value_for integer (num 1) ∷ []) integer) (call (CalleeRoutine 1) (value_for integer (num 3) ∷ []) integer) (perform call.Write (shown (read (variable 1 integer) []) ∷ [])) ∷ [])) [] 9 (End (codes "f1f3123") 0 (1 ∷ 1 ∷ []))
unfolding run
limits_are_evaluated_once_in_iso_and_hp = (refl, (refl, tt))

limits_are_evaluated_once_in_turbo_and_ucsd : InEach (Turbo ∷ Ucsd ∷ []) (λ d. whole d [] (function 1 Program (section small (3 ∷ []) ∷ []) (of_type small 2) [] (perform call.Write (shown (letter 102) ∷ shown (read (variable 3 small) []) ∷ []) ∷ assign_to small (outcome 2 small) [] (read (variable 3 small) []) ∷ []) ∷ []) [] (of_type small 1 ∷ []) [] (for_of small 1 false (call (CalleeRoutine 1) (value_for small (num 1) ∷ []) small) (call (CalleeRoutine 1) (value_for small (num 3) ∷ []) small) (perform call.Write (shown (read (variable 1 small) []) ∷ [])) ∷ [])) [] 9 (End (codes "f1f3123") 0 (1 ∷ 1 ∷ []))
unfolding run
limits_are_evaluated_once_in_turbo_and_ucsd = (refl, (refl, tt))

-- var i: 1..3; begin for i := 0 to 2 do write('a') end.
first_limit_is_checked_first : InEach (Iso ∷ Turbo ∷ Ucsd ∷ Hp ∷ []) (λ d. whole d (Ordinal WholeHost (pos 1) (pos 3) ∷ []) [] [] (of_type 5 1 ∷ []) [] (for_of 5 1 false (num 0) (num 2) (perform call.Write (shown (letter 97) ∷ [])) ∷ [])) [] 9 (End [] 201 [])
unfolding run
first_limit_is_checked_first = (refl, (refl, (refl, (refl, tt))))

-- var i: 1..3; begin for i := 1 to 4 do write('a') end.
last_limit_is_checked : InEach (Iso ∷ Turbo ∷ Ucsd ∷ Hp ∷ []) (λ d. whole d (Ordinal WholeHost (pos 1) (pos 3) ∷ []) [] [] (of_type 5 1 ∷ []) [] (for_of 5 1 false (num 1) (num 4) (perform call.Write (shown (letter 97) ∷ [])) ∷ [])) [] 9 (End [] 201 [])
unfolding run
last_limit_is_checked = (refl, (refl, (refl, (refl, tt))))

-- var i: 1..3; begin for i := 9 to 8 do write('a'); write('b') end.
limits_without_a_turn_are_not_checked : InEach (Iso ∷ Turbo ∷ Ucsd ∷ Hp ∷ []) (λ d. whole d (Ordinal WholeHost (pos 1) (pos 3) ∷ []) [] [] (of_type 5 1 ∷ []) [] (for_of 5 1 false (num 9) (num 8) (perform call.Write (shown (letter 97) ∷ [])) ∷ perform call.Write (shown (letter 98) ∷ []) ∷ [])) [] 0 (End (codes "b") 0 [])
unfolding run
limits_without_a_turn_are_not_checked = (refl, (refl, (refl, (refl, tt))))

-- it is undefined
-- var i: integer; begin for i := 1 to 2 do write(i); write(i) end.
variable_after_a_loop_in_iso_and_hp : InEach (Iso ∷ Hp ∷ []) (λ d. whole d [] [] [] (of_type integer 1 ∷ []) [] (for_of integer 1 false (num 1) (num 2) (perform call.Write (shown (read (variable 1 integer) []) ∷ [])) ∷ perform call.Write (shown (read (variable 1 integer) []) ∷ []) ∷ [])) [] 9 (UndefinedAfter (codes "12") [])
unfolding run
variable_after_a_loop_in_iso_and_hp = (refl, (refl, tt))

variable_after_a_loop_in_turbo_and_ucsd : InEach (Turbo ∷ Ucsd ∷ []) (λ d. whole d [] [] [] (of_type small 1 ∷ []) [] (for_of small 1 false (num 1) (num 2) (perform call.Write (shown (read (variable 1 small) []) ∷ [])) ∷ perform call.Write (shown (read (variable 1 small) []) ∷ []) ∷ [])) [] 9 (UndefinedAfter (codes "12") [])
unfolding run
variable_after_a_loop_in_turbo_and_ucsd = (refl, (refl, tt))

-- it is undefined too
-- var i: integer; begin i := 5; for i := 2 to 1 do write(i); write(i) end.
variable_after_a_loop_without_a_turn_in_iso_and_hp : InEach (Iso ∷ Hp ∷ []) (λ d. whole d [] [] [] (of_type integer 1 ∷ []) [] (assign_to integer (variable 1 integer) [] (num 5) ∷ for_of integer 1 false (num 2) (num 1) (perform call.Write (shown (read (variable 1 integer) []) ∷ [])) ∷ perform call.Write (shown (read (variable 1 integer) []) ∷ []) ∷ [])) [] 9 (UndefinedAfter [] [])
unfolding run
variable_after_a_loop_without_a_turn_in_iso_and_hp = (refl, (refl, tt))

variable_after_a_loop_without_a_turn_in_turbo_and_ucsd : InEach (Turbo ∷ Ucsd ∷ []) (λ d. whole d [] [] [] (of_type small 1 ∷ []) [] (assign_to small (variable 1 small) [] (num 5) ∷ for_of small 1 false (num 2) (num 1) (perform call.Write (shown (read (variable 1 small) []) ∷ [])) ∷ perform call.Write (shown (read (variable 1 small) []) ∷ []) ∷ [])) [] 9 (UndefinedAfter [] [])
unfolding run
variable_after_a_loop_without_a_turn_in_turbo_and_ucsd = (refl, (refl, tt))

-- var i: integer; begin for i := 1 to 3 do case i of 1, 3: write('a'); 2: write('b') end end.
case_takes_its_label_in_iso_and_hp : InEach (Iso ∷ Hp ∷ []) (λ d. whole d [] [] [] (of_type integer 1 ∷ []) [] (for_of integer 1 false (num 1) (num 3) (case_of (read (variable 1 integer) []) (((label_of (pos 1) ∷ label_of (pos 3) ∷ []), perform call.Write (shown (letter 97) ∷ [])) ∷ ((label_of (pos 2) ∷ []), perform call.Write (shown (letter 98) ∷ [])) ∷ [])) ∷ [])) [] 3 (End (codes "aba") 0 [])
unfolding run
case_takes_its_label_in_iso_and_hp = (refl, (refl, tt))

case_takes_its_label_in_turbo_and_ucsd : InEach (Turbo ∷ Ucsd ∷ []) (λ d. whole d [] [] [] (of_type small 1 ∷ []) [] (for_of small 1 false (num 1) (num 3) (case_of (read (variable 1 small) []) (((label_of (pos 1) ∷ label_of (pos 3) ∷ []), perform call.Write (shown (letter 97) ∷ [])) ∷ ((label_of (pos 2) ∷ []), perform call.Write (shown (letter 98) ∷ [])) ∷ [])) ∷ [])) [] 3 (End (codes "aba") 0 [])
unfolding run
case_takes_its_label_in_turbo_and_ucsd = (refl, (refl, tt))

-- function f: integer; begin write('f'); f := 2 end; begin case f of 1: write('a'); 2: write('b') end end.
case_evaluates_its_selector_once_in_iso_and_hp : InEach (Iso ∷ Hp ∷ []) (λ d. whole d [] (function 1 Program [] (of_type integer 1) [] (perform call.Write (shown (letter 102) ∷ []) ∷ assign_to integer (outcome 1 integer) [] (num 2) ∷ []) ∷ []) [] [] [] (case_of (call (CalleeRoutine 1) [] integer) (((label_of (pos 1) ∷ []), perform call.Write (shown (letter 97) ∷ [])) ∷ ((label_of (pos 2) ∷ []), perform call.Write (shown (letter 98) ∷ [])) ∷ []) ∷ [])) [] 1 (End (codes "fb") 0 (1 ∷ []))
unfolding run
case_evaluates_its_selector_once_in_iso_and_hp = (refl, (refl, tt))

case_evaluates_its_selector_once_in_turbo_and_ucsd : InEach (Turbo ∷ Ucsd ∷ []) (λ d. whole d [] (function 1 Program [] (of_type small 1) [] (perform call.Write (shown (letter 102) ∷ []) ∷ assign_to small (outcome 1 small) [] (num 2) ∷ []) ∷ []) [] [] [] (case_of (call (CalleeRoutine 1) [] small) (((label_of (pos 1) ∷ []), perform call.Write (shown (letter 97) ∷ [])) ∷ ((label_of (pos 2) ∷ []), perform call.Write (shown (letter 98) ∷ [])) ∷ []) ∷ [])) [] 1 (End (codes "fb") 0 (1 ∷ []))
unfolding run
case_evaluates_its_selector_once_in_turbo_and_ucsd = (refl, (refl, tt))

-- begin case 3 of 1: write('a') else write('b'); write('c') end end.
case_with_else : run (whole Turbo [] [] [] [] [] (case_else (num 3) (((label_of (pos 1) ∷ []), perform call.Write (shown (letter 97) ∷ [])) ∷ []) (seq (perform call.Write (shown (letter 98) ∷ []) ∷ perform call.Write (shown (letter 99) ∷ []) ∷ [])) ∷ [])) [] 0 ≡ End (codes "bc") 0 []
unfolding run
case_with_else = refl

-- labels may be ranges
-- begin case 3 of 1..2: write('a') otherwise write('b') end; case 2 of 1..2: write('a') otherwise write('b') end end.
case_with_otherwise : run (whole Hp [] [] [] [] [] (case_else (num 3) (((labels (pos 1) (pos 2) ∷ []), perform call.Write (shown (letter 97) ∷ [])) ∷ []) (seq (perform call.Write (shown (letter 98) ∷ []) ∷ [])) ∷ case_else (num 2) (((labels (pos 1) (pos 2) ∷ []), perform call.Write (shown (letter 97) ∷ [])) ∷ []) (seq (perform call.Write (shown (letter 98) ∷ []) ∷ [])) ∷ [])) [] 0 ≡ End (codes "ba") 0 []
unfolding run
case_with_otherwise = refl

-- begin if 1 = 2 then write('a') else write('b'); if 1 = 1 then write('c'); if 1 = 2 then write('d') end.
if_and_else : InEach (Iso ∷ Turbo ∷ Ucsd ∷ Hp ∷ []) (λ d. whole d [] [] [] [] [] (if_else (chain (num 1) ((op.Equal, num 2, boolean) ∷ [])) (perform call.Write (shown (letter 97) ∷ [])) (perform call.Write (shown (letter 98) ∷ [])) ∷ if_then (chain (num 1) ((op.Equal, num 1, boolean) ∷ [])) (perform call.Write (shown (letter 99) ∷ [])) ∷ if_then (chain (num 1) ((op.Equal, num 2, boolean) ∷ [])) (perform call.Write (shown (letter 100) ∷ [])) ∷ [])) [] 0 (End (codes "bc") 0 [])
unfolding run
if_and_else = (refl, (refl, (refl, (refl, tt))))

-- var i: integer; c: char; begin i := 5; inc(i); inc(i, 10); dec(i, 2); dec(i); c := 'a'; inc(c); write(i, c) end.
inc_and_dec : run (whole Turbo [] [] [] (of_type small 1 ∷ of_type char 2 ∷ []) [] (assign_to small (variable 1 small) [] (num 5) ∷ perform call.Inc (by_reference (variable 1 small) [] ∷ []) ∷ perform call.Inc (by_reference (variable 1 small) [] ∷ value_for small (num 10) ∷ []) ∷ perform call.Dec (by_reference (variable 1 small) [] ∷ value_for small (num 2) ∷ []) ∷ perform call.Dec (by_reference (variable 1 small) [] ∷ []) ∷ assign_to char (variable 2 char) [] (letter 97) ∷ perform call.Inc (by_reference (variable 2 char) [] ∷ []) ∷ perform call.Write (shown (read (variable 1 small) []) ∷ shown (read (variable 2 char) []) ∷ []) ∷ [])) [] 0 ≡ End (codes "13b") 0 []
unfolding run
inc_and_dec = refl

-- var i: integer; begin i := 32767; inc(i) end.
inc_out_of_range : run (whole Turbo [] [] [] (of_type small 1 ∷ []) [] (assign_to small (variable 1 small) [] (num 32767) ∷ perform call.Inc (by_reference (variable 1 small) [] ∷ []) ∷ [])) [] 0 ≡ End [] 201 []
unfolding run
inc_out_of_range = refl

-- var i: integer; begin i := 1; inc(i, 9223372036854775807) end.
inc_past_64_bits : run (whole Turbo [] [] [] (of_type small 1 ∷ []) [] (assign_to small (variable 1 small) [] (num 1) ∷ perform call.Inc (by_reference (variable 1 small) [] ∷ value_for small (num 9223372036854775807) ∷ []) ∷ [])) [] 0 ≡ End [] 203 []
unfolding run
inc_past_64_bits = refl

-- n is evaluated before x is read
-- var i: integer; function f: integer; begin i := 10; f := 1 end; begin i := 1; inc(i, f); write(i) end.
inc_reads_after_its_number : run (whole Turbo [] (function 1 Program [] (of_type small 2) [] (assign_to small (variable 1 small) [] (num 10) ∷ assign_to small (outcome 2 small) [] (num 1) ∷ []) ∷ []) [] (of_type small 1 ∷ []) [] (assign_to small (variable 1 small) [] (num 1) ∷ perform call.Inc (by_reference (variable 1 small) [] ∷ value_for small (call (CalleeRoutine 1) [] small) ∷ []) ∷ perform call.Write (shown (read (variable 1 small) []) ∷ []) ∷ [])) [] 1 ≡ End (codes "11") 0 (1 ∷ [])
unfolding run
inc_reads_after_its_number = refl

-- begin write(upcase('a'), upcase('z'), upcase('A'), upcase('1')) end.
upper_case : run (whole Turbo [] [] [] [] [] (perform call.Write (shown (predefined call.UpCase (value_for char (letter 97) ∷ []) char) ∷ shown (predefined call.UpCase (value_for char (letter 122) ∷ []) char) ∷ shown (predefined call.UpCase (value_for char (letter 65) ∷ []) char) ∷ shown (predefined call.UpCase (value_for char (letter 49) ∷ []) char) ∷ []) ∷ [])) [] 0 ≡ End (codes "AZA1") 0 []
unfolding run
upper_case = refl

-- begin write(6 and 3, ' ', 6 xor 3, ' ', not 0, ' ', 1 shl 4); write(1 shl 63) end.
bits_of_whole_numbers : run (whole Turbo [] [] [] [] [] (perform call.Write (shown (chain (num 6) ((op.BitAnd, num 3, small) ∷ [])) ∷ shown (letter 32) ∷ shown (chain (num 6) ((op.BitXor, num 3, small) ∷ [])) ∷ shown (letter 32) ∷ shown (unary small un.BitNot (num 0)) ∷ shown (letter 32) ∷ shown (chain (num 1) ((op.Shl, num 4, small) ∷ [])) ∷ []) ∷ perform call.Write (shown (chain (num 1) ((op.Shl, num 63, small) ∷ [])) ∷ []) ∷ [])) [] 0 ≡ End (codes "2 5 -1 16") 203 []
unfolding run
bits_of_whole_numbers = refl

-- begin write((-1) and 5, ' ', -8 or 3, ' ', -1 xor 1, ' ', not 5, ' ', 100 shr 3) end.
bits_of_negative_numbers : run (whole Turbo [] [] [] [] [] (perform call.Write (shown (chain (unary small un.Minus (num 1)) ((op.BitAnd, num 5, small) ∷ [])) ∷ shown (letter 32) ∷ shown (chain (unary small un.Minus (num 8)) ((op.BitOr, num 3, small) ∷ [])) ∷ shown (letter 32) ∷ shown (chain (unary small un.Minus (num 1)) ((op.BitXor, num 1, small) ∷ [])) ∷ shown (letter 32) ∷ shown (unary small un.BitNot (num 5)) ∷ shown (letter 32) ∷ shown (chain (num 100) ((op.Shr, num 3, small) ∷ [])) ∷ []) ∷ [])) [] 0 ≡ End (codes "5 -5 -2 -6 12") 0 []
unfolding run
bits_of_negative_numbers = refl

-- begin write(1 shl 64) end.
shift_by_too_much : run (whole Turbo [] [] [] [] [] (perform call.Write (shown (chain (num 1) ((op.Shl, num 64, small) ∷ [])) ∷ []) ∷ [])) [] 0 ≡ End [] 203 []
unfolding run
shift_by_too_much = refl

-- begin write(1 shr (-1)) end.
shift_by_less_than_none : run (whole Turbo [] [] [] [] [] (perform call.Write (shown (chain (num 1) ((op.Shr, unary small un.Minus (num 1), small) ∷ [])) ∷ []) ∷ [])) [] 0 ≡ End [] 203 []
unfolding run
shift_by_less_than_none = refl

-- to the left it is a product
-- begin write((-3) shl 2, ' '); write((-3) shr 1) end.
shift_of_a_negative_number : run (whole Turbo [] [] [] [] [] (perform call.Write (shown (chain (unary small un.Minus (num 3)) ((op.Shl, num 2, small) ∷ [])) ∷ shown (letter 32) ∷ []) ∷ perform call.Write (shown (chain (unary small un.Minus (num 3)) ((op.Shr, num 1, small) ∷ [])) ∷ []) ∷ [])) [] 0 ≡ End (codes "-12 ") 203 []
unfolding run
shift_of_a_negative_number = refl
