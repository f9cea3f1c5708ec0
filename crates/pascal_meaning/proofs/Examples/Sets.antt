-- Sets.
use Rattle.std.proofs.Common.{[], ◌∷◌, refl, false, Some, None}
use Rattle.std.specs.Prelude.{codes, pos}
use Rattle.p2c_text.specs.declared.dialect.Dialect.TheVariants.{Iso, Turbo, Ucsd, Hp}
use Rattle.typed_tree.specs.declared.types.Host.TheVariants.{Whole as WholeHost}
use Rattle.typed_tree.specs.declared.types.Packing.TheVariants.{Either}
use Rattle.typed_tree.specs.declared.types.PasType.TheVariants.{Ordinal, SetOf as SetType}
use Rattle.typed_tree.specs.declared.declarations.Callee.TheVariants.{Routine as CalleeRoutine}
use Rattle.typed_tree.specs.declared.declarations.Owner.TheVariants.{Program}
use Rattle.typed_tree.specs.declared.operations.BinaryOp.TheVariants as op
use Rattle.typed_tree.specs.declared.operations.UnaryOp.TheVariants as un
use Rattle.typed_tree.specs.declared.operations.PredefCall.TheVariants as call
use Rattle.typed_tree.specs.declared.statements.TypedStmt as S
use Rattle.meanings.specs.Code.{End, UndefinedAfter}
use Rattle.pascal_meaning.specs.Whole.{run}
use Rattle.pascal_meaning.proofs.Examples.Build.{integer, small, char, boolean, set_of, num, letter, unary, chain, read, variable, outcome, call, set, value_for, shown, assign_to, if_then, for_of, perform, of_type, section, procedure, function, whole, InEach}

-- var s: set of 0..255; i: integer; begin s := [1, 3..5] * [4..9] + [200]; for i := 0 to 255 do if i in s then write(i, ' ') end.
union_and_intersection_in_iso_and_hp : InEach (Iso ∷ Hp ∷ []) (λ d. whole d (Ordinal WholeHost (pos 0) (pos 255) ∷ set_of 5 ∷ SetType Either (Some integer) ∷ []) [] [] (of_type 6 1 ∷ of_type integer 2 ∷ []) [] (assign_to 6 (variable 1 6) [] (chain (chain (set 7 ((num 1, None) ∷ (num 3, Some (num 5)) ∷ [])) ((op.Intersection, set 7 ((num 4, Some (num 9)) ∷ []), 7) ∷ [])) ((op.Union, set 7 ((num 200, None) ∷ []), 7) ∷ [])) ∷ for_of integer 2 false (num 0) (num 255) (if_then (chain (read (variable 2 integer) []) ((op.Member, read (variable 1 6) [], boolean) ∷ [])) (perform call.Write (shown (read (variable 2 integer) []) ∷ shown (letter 32) ∷ []))) ∷ [])) [] 300 (End (codes "4 5 200 ") 0 [])
unfolding run
union_and_intersection_in_iso_and_hp = (refl, (refl, tt))

union_and_intersection_in_turbo_and_ucsd : InEach (Turbo ∷ Ucsd ∷ []) (λ d. whole d (Ordinal WholeHost (pos 0) (pos 255) ∷ set_of 5 ∷ SetType Either (Some small) ∷ []) [] [] (of_type 6 1 ∷ of_type small 2 ∷ []) [] (assign_to 6 (variable 1 6) [] (chain (chain (set 7 ((num 1, None) ∷ (num 3, Some (num 5)) ∷ [])) ((op.Intersection, set 7 ((num 4, Some (num 9)) ∷ []), 7) ∷ [])) ((op.Union, set 7 ((num 200, None) ∷ []), 7) ∷ [])) ∷ for_of small 2 false (num 0) (num 255) (if_then (chain (read (variable 2 small) []) ((op.Member, read (variable 1 6) [], boolean) ∷ [])) (perform call.Write (shown (read (variable 2 small) []) ∷ shown (letter 32) ∷ []))) ∷ [])) [] 300 (End (codes "4 5 200 ") 0 [])
unfolding run
union_and_intersection_in_turbo_and_ucsd = (refl, (refl, tt))

-- var s: set of 0..255; begin s := [63, 64, 255]; write(63 in s, 64 in s, 65 in s, s <= [0..255]) end.
set_comparisons_in_iso_and_hp : InEach (Iso ∷ Hp ∷ []) (λ d. whole d (Ordinal WholeHost (pos 0) (pos 255) ∷ set_of 5 ∷ SetType Either (Some integer) ∷ []) [] [] (of_type 6 1 ∷ []) [] (assign_to 6 (variable 1 6) [] (set 7 ((num 63, None) ∷ (num 64, None) ∷ (num 255, None) ∷ [])) ∷ perform call.Write (shown (chain (num 63) ((op.Member, read (variable 1 6) [], boolean) ∷ [])) ∷ shown (chain (num 64) ((op.Member, read (variable 1 6) [], boolean) ∷ [])) ∷ shown (chain (num 65) ((op.Member, read (variable 1 6) [], boolean) ∷ [])) ∷ shown (chain (read (variable 1 6) []) ((op.LessEq, set 7 ((num 0, Some (num 255)) ∷ []), boolean) ∷ [])) ∷ []) ∷ [])) [] 0 (End (codes "TRUETRUEFALSETRUE") 0 [])
unfolding run
set_comparisons_in_iso_and_hp = (refl, (refl, tt))

set_comparisons_in_turbo_and_ucsd : InEach (Turbo ∷ Ucsd ∷ []) (λ d. whole d (Ordinal WholeHost (pos 0) (pos 255) ∷ set_of 5 ∷ SetType Either (Some small) ∷ []) [] [] (of_type 6 1 ∷ []) [] (assign_to 6 (variable 1 6) [] (set 7 ((num 63, None) ∷ (num 64, None) ∷ (num 255, None) ∷ [])) ∷ perform call.Write (shown (chain (num 63) ((op.Member, read (variable 1 6) [], boolean) ∷ [])) ∷ shown (chain (num 64) ((op.Member, read (variable 1 6) [], boolean) ∷ [])) ∷ shown (chain (num 65) ((op.Member, read (variable 1 6) [], boolean) ∷ [])) ∷ shown (chain (read (variable 1 6) []) ((op.LessEq, set 7 ((num 0, Some (num 255)) ∷ []), boolean) ∷ [])) ∷ []) ∷ [])) [] 0 (End (codes "TRUETRUEFALSETRUE") 0 [])
unfolding run
set_comparisons_in_turbo_and_ucsd = (refl, (refl, tt))

-- var s: set of 0..9; begin s := [1, 2]; write(s = [2, 1], s <> [1], s >= [1], s <= [1], s - [1] = [2]) end.
equality_and_inclusion_in_iso_and_hp : InEach (Iso ∷ Hp ∷ []) (λ d. whole d (Ordinal WholeHost (pos 0) (pos 9) ∷ set_of 5 ∷ SetType Either (Some integer) ∷ []) [] [] (of_type 6 1 ∷ []) [] (assign_to 6 (variable 1 6) [] (set 7 ((num 1, None) ∷ (num 2, None) ∷ [])) ∷ perform call.Write (shown (chain (read (variable 1 6) []) ((op.Equal, set 7 ((num 2, None) ∷ (num 1, None) ∷ []), boolean) ∷ [])) ∷ shown (chain (read (variable 1 6) []) ((op.Unequal, set 7 ((num 1, None) ∷ []), boolean) ∷ [])) ∷ shown (chain (read (variable 1 6) []) ((op.GreaterEq, set 7 ((num 1, None) ∷ []), boolean) ∷ [])) ∷ shown (chain (read (variable 1 6) []) ((op.LessEq, set 7 ((num 1, None) ∷ []), boolean) ∷ [])) ∷ shown (chain (chain (read (variable 1 6) []) ((op.Difference, set 7 ((num 1, None) ∷ []), 6) ∷ [])) ((op.Equal, set 7 ((num 2, None) ∷ []), boolean) ∷ [])) ∷ []) ∷ [])) [] 0 (End (codes "TRUETRUETRUEFALSETRUE") 0 [])
unfolding run
equality_and_inclusion_in_iso_and_hp = (refl, (refl, tt))

equality_and_inclusion_in_turbo_and_ucsd : InEach (Turbo ∷ Ucsd ∷ []) (λ d. whole d (Ordinal WholeHost (pos 0) (pos 9) ∷ set_of 5 ∷ SetType Either (Some small) ∷ []) [] [] (of_type 6 1 ∷ []) [] (assign_to 6 (variable 1 6) [] (set 7 ((num 1, None) ∷ (num 2, None) ∷ [])) ∷ perform call.Write (shown (chain (read (variable 1 6) []) ((op.Equal, set 7 ((num 2, None) ∷ (num 1, None) ∷ []), boolean) ∷ [])) ∷ shown (chain (read (variable 1 6) []) ((op.Unequal, set 7 ((num 1, None) ∷ []), boolean) ∷ [])) ∷ shown (chain (read (variable 1 6) []) ((op.GreaterEq, set 7 ((num 1, None) ∷ []), boolean) ∷ [])) ∷ shown (chain (read (variable 1 6) []) ((op.LessEq, set 7 ((num 1, None) ∷ []), boolean) ∷ [])) ∷ shown (chain (chain (read (variable 1 6) []) ((op.Difference, set 7 ((num 1, None) ∷ []), 6) ∷ [])) ((op.Equal, set 7 ((num 2, None) ∷ []), boolean) ∷ [])) ∷ []) ∷ [])) [] 0 (End (codes "TRUETRUETRUEFALSETRUE") 0 [])
unfolding run
equality_and_inclusion_in_turbo_and_ucsd = (refl, (refl, tt))

-- var i: integer; begin i := 300; write(1 in [i..2]); write(1 in [1..i]) end.
empty_range_checks_nothing_in_iso_and_hp : InEach (Iso ∷ Hp ∷ []) (λ d. whole d (SetType Either (Some integer) ∷ []) [] [] (of_type integer 1 ∷ []) [] (assign_to integer (variable 1 integer) [] (num 300) ∷ perform call.Write (shown (chain (num 1) ((op.Member, set 5 ((read (variable 1 integer) [], Some (num 2)) ∷ []), boolean) ∷ [])) ∷ []) ∷ perform call.Write (shown (chain (num 1) ((op.Member, set 5 ((num 1, Some (read (variable 1 integer) [])) ∷ []), boolean) ∷ [])) ∷ []) ∷ [])) [] 0 (End (codes "FALSE") 201 [])
unfolding run
empty_range_checks_nothing_in_iso_and_hp = (refl, (refl, tt))

empty_range_checks_nothing_in_turbo_and_ucsd : InEach (Turbo ∷ Ucsd ∷ []) (λ d. whole d (SetType Either (Some small) ∷ []) [] [] (of_type small 1 ∷ []) [] (assign_to small (variable 1 small) [] (num 300) ∷ perform call.Write (shown (chain (num 1) ((op.Member, set 5 ((read (variable 1 small) [], Some (num 2)) ∷ []), boolean) ∷ [])) ∷ []) ∷ perform call.Write (shown (chain (num 1) ((op.Member, set 5 ((num 1, Some (read (variable 1 small) [])) ∷ []), boolean) ∷ [])) ∷ []) ∷ [])) [] 0 (End (codes "FALSE") 201 [])
unfolding run
empty_range_checks_nothing_in_turbo_and_ucsd = (refl, (refl, tt))

-- var i: integer; begin i := -1; write(1 in [1, i]) end.
member_out_of_range_in_iso_and_hp : InEach (Iso ∷ Hp ∷ []) (λ d. whole d (SetType Either (Some integer) ∷ []) [] [] (of_type integer 1 ∷ []) [] (assign_to integer (variable 1 integer) [] (unary integer un.Minus (num 1)) ∷ perform call.Write (shown (chain (num 1) ((op.Member, set 5 ((num 1, None) ∷ (read (variable 1 integer) [], None) ∷ []), boolean) ∷ [])) ∷ []) ∷ [])) [] 0 (End [] 201 [])
unfolding run
member_out_of_range_in_iso_and_hp = (refl, (refl, tt))

member_out_of_range_in_turbo_and_ucsd : InEach (Turbo ∷ Ucsd ∷ []) (λ d. whole d (SetType Either (Some small) ∷ []) [] [] (of_type small 1 ∷ []) [] (assign_to small (variable 1 small) [] (unary small un.Minus (num 1)) ∷ perform call.Write (shown (chain (num 1) ((op.Member, set 5 ((num 1, None) ∷ (read (variable 1 small) [], None) ∷ []), boolean) ∷ [])) ∷ []) ∷ [])) [] 0 (End [] 201 [])
unfolding run
member_out_of_range_in_turbo_and_ucsd = (refl, (refl, tt))

-- the first before the second is evaluated
-- var i: integer; function f: integer; begin write('f'); f := 1 end; begin i := 256; write(1 in [f, i, f]) end.
members_are_checked_one_by_one_in_iso_and_hp : InEach (Iso ∷ Hp ∷ []) (λ d. whole d (SetType Either (Some integer) ∷ []) (function 1 Program [] (of_type integer 2) [] (perform call.Write (shown (letter 102) ∷ []) ∷ assign_to integer (outcome 2 integer) [] (num 1) ∷ []) ∷ []) [] (of_type integer 1 ∷ []) [] (assign_to integer (variable 1 integer) [] (num 256) ∷ perform call.Write (shown (chain (num 1) ((op.Member, set 5 ((call (CalleeRoutine 1) [] integer, None) ∷ (read (variable 1 integer) [], None) ∷ (call (CalleeRoutine 1) [] integer, None) ∷ []), boolean) ∷ [])) ∷ []) ∷ [])) [] 5 (End (codes "f") 201 (1 ∷ []))
unfolding run
members_are_checked_one_by_one_in_iso_and_hp = (refl, (refl, tt))

members_are_checked_one_by_one_in_turbo_and_ucsd : InEach (Turbo ∷ Ucsd ∷ []) (λ d. whole d (SetType Either (Some small) ∷ []) (function 1 Program [] (of_type small 2) [] (perform call.Write (shown (letter 102) ∷ []) ∷ assign_to small (outcome 2 small) [] (num 1) ∷ []) ∷ []) [] (of_type small 1 ∷ []) [] (assign_to small (variable 1 small) [] (num 256) ∷ perform call.Write (shown (chain (num 1) ((op.Member, set 5 ((call (CalleeRoutine 1) [] small, None) ∷ (read (variable 1 small) [], None) ∷ (call (CalleeRoutine 1) [] small, None) ∷ []), boolean) ∷ [])) ∷ []) ∷ [])) [] 5 (End (codes "f") 201 (1 ∷ []))
unfolding run
members_are_checked_one_by_one_in_turbo_and_ucsd = (refl, (refl, tt))

-- then they are checked
-- var i: integer; function f: integer; begin write('f'); f := 400 end; begin i := 300; write(1 in [i..f]) end.
range_ends_are_evaluated_both_in_iso_and_hp : InEach (Iso ∷ Hp ∷ []) (λ d. whole d (SetType Either (Some integer) ∷ []) (function 1 Program [] (of_type integer 2) [] (perform call.Write (shown (letter 102) ∷ []) ∷ assign_to integer (outcome 2 integer) [] (num 400) ∷ []) ∷ []) [] (of_type integer 1 ∷ []) [] (assign_to integer (variable 1 integer) [] (num 300) ∷ perform call.Write (shown (chain (num 1) ((op.Member, set 5 ((read (variable 1 integer) [], Some (call (CalleeRoutine 1) [] integer)) ∷ []), boolean) ∷ [])) ∷ []) ∷ [])) [] 5 (End (codes "f") 201 (1 ∷ []))
unfolding run
range_ends_are_evaluated_both_in_iso_and_hp = (refl, (refl, tt))

range_ends_are_evaluated_both_in_turbo_and_ucsd : InEach (Turbo ∷ Ucsd ∷ []) (λ d. whole d (SetType Either (Some small) ∷ []) (function 1 Program [] (of_type small 2) [] (perform call.Write (shown (letter 102) ∷ []) ∷ assign_to small (outcome 2 small) [] (num 400) ∷ []) ∷ []) [] (of_type small 1 ∷ []) [] (assign_to small (variable 1 small) [] (num 300) ∷ perform call.Write (shown (chain (num 1) ((op.Member, set 5 ((read (variable 1 small) [], Some (call (CalleeRoutine 1) [] small)) ∷ []), boolean) ∷ [])) ∷ []) ∷ [])) [] 5 (End (codes "f") 201 (1 ∷ []))
unfolding run
range_ends_are_evaluated_both_in_turbo_and_ucsd = (refl, (refl, tt))

-- var s: set of 1..5; begin s := [1, 5]; write('x'); s := s + [6] end.
store_out_of_the_base_in_iso_and_hp : InEach (Iso ∷ Hp ∷ []) (λ d. whole d (Ordinal WholeHost (pos 1) (pos 5) ∷ set_of 5 ∷ SetType Either (Some integer) ∷ []) [] [] (of_type 6 1 ∷ []) [] (assign_to 6 (variable 1 6) [] (set 7 ((num 1, None) ∷ (num 5, None) ∷ [])) ∷ perform call.Write (shown (letter 120) ∷ []) ∷ assign_to 6 (variable 1 6) [] (chain (read (variable 1 6) []) ((op.Union, set 7 ((num 6, None) ∷ []), 6) ∷ [])) ∷ [])) [] 0 (End (codes "x") 201 [])
unfolding run
store_out_of_the_base_in_iso_and_hp = (refl, (refl, tt))

store_out_of_the_base_in_turbo_and_ucsd : InEach (Turbo ∷ Ucsd ∷ []) (λ d. whole d (Ordinal WholeHost (pos 1) (pos 5) ∷ set_of 5 ∷ SetType Either (Some small) ∷ []) [] [] (of_type 6 1 ∷ []) [] (assign_to 6 (variable 1 6) [] (set 7 ((num 1, None) ∷ (num 5, None) ∷ [])) ∷ perform call.Write (shown (letter 120) ∷ []) ∷ assign_to 6 (variable 1 6) [] (chain (read (variable 1 6) []) ((op.Union, set 7 ((num 6, None) ∷ []), 6) ∷ [])) ∷ [])) [] 0 (End (codes "x") 201 [])
unfolding run
store_out_of_the_base_in_turbo_and_ucsd = (refl, (refl, tt))

-- var s: set of char; c: char; begin s := ['a'..'c', 'x']; for c := 'a' to 'z' do if c in s then write(c) end.
set_of_characters : InEach (Iso ∷ Turbo ∷ Ucsd ∷ Hp ∷ []) (λ d. whole d (set_of char ∷ SetType Either (Some char) ∷ []) [] [] (of_type 5 1 ∷ of_type char 2 ∷ []) [] (assign_to 5 (variable 1 5) [] (set 6 ((letter 97, Some (letter 99)) ∷ (letter 120, None) ∷ [])) ∷ for_of char 2 false (letter 97) (letter 122) (if_then (chain (read (variable 2 char) []) ((op.Member, read (variable 1 5) [], boolean) ∷ [])) (perform call.Write (shown (read (variable 2 char) []) ∷ []))) ∷ [])) [] 30 (End (codes "abcx") 0 [])
unfolding run
set_of_characters = (refl, (refl, (refl, (refl, tt))))

-- a set is a scalar
-- var s: set of 1..5; begin write('x'); write(1 in s) end.
undefined_set : InEach (Iso ∷ Turbo ∷ Ucsd ∷ Hp ∷ []) (λ d. whole d (Ordinal WholeHost (pos 1) (pos 5) ∷ set_of 5 ∷ []) [] [] (of_type 6 1 ∷ []) [] (perform call.Write (shown (letter 120) ∷ []) ∷ perform call.Write (shown (chain (num 1) ((op.Member, read (variable 1 6) [], boolean) ∷ [])) ∷ []) ∷ [])) [] 0 (UndefinedAfter (codes "x") [])
unfolding run
undefined_set = (refl, (refl, (refl, (refl, tt))))

-- it is checked against the base of the parameter
-- type t = set of 1..5; procedure p(s: t); begin write(3 in s) end; begin p([1..3]); p([6]) end.
set_is_passed_as_a_value_in_iso_and_hp : InEach (Iso ∷ Hp ∷ []) (λ d. whole d (Ordinal WholeHost (pos 1) (pos 5) ∷ set_of 5 ∷ SetType Either (Some integer) ∷ []) (procedure 1 Program (section 6 (1 ∷ []) ∷ []) [] [] (perform call.Write (shown (chain (num 3) ((op.Member, read (variable 1 6) [], boolean) ∷ [])) ∷ []) ∷ []) ∷ []) [] [] [] (S.Call (CalleeRoutine 1) (value_for 6 (set 7 ((num 1, Some (num 3)) ∷ [])) ∷ []) ∷ S.Call (CalleeRoutine 1) (value_for 6 (set 7 ((num 6, None) ∷ [])) ∷ []) ∷ [])) [] 2 (End (codes "TRUE") 201 (1 ∷ []))
unfolding run
set_is_passed_as_a_value_in_iso_and_hp = (refl, (refl, tt))

set_is_passed_as_a_value_in_turbo_and_ucsd : InEach (Turbo ∷ Ucsd ∷ []) (λ d. whole d (Ordinal WholeHost (pos 1) (pos 5) ∷ set_of 5 ∷ SetType Either (Some small) ∷ []) (procedure 1 Program (section 6 (1 ∷ []) ∷ []) [] [] (perform call.Write (shown (chain (num 3) ((op.Member, read (variable 1 6) [], boolean) ∷ [])) ∷ []) ∷ []) ∷ []) [] [] [] (S.Call (CalleeRoutine 1) (value_for 6 (set 7 ((num 1, Some (num 3)) ∷ [])) ∷ []) ∷ S.Call (CalleeRoutine 1) (value_for 6 (set 7 ((num 6, None) ∷ [])) ∷ []) ∷ [])) [] 2 (End (codes "TRUE") 201 (1 ∷ []))
unfolding run
set_is_passed_as_a_value_in_turbo_and_ucsd = (refl, (refl, tt))

-- var s: set of 1..5; begin s := []; write(s = [], 1 in []) end.
empty_set : InEach (Iso ∷ Turbo ∷ Ucsd ∷ Hp ∷ []) (λ d. whole d (Ordinal WholeHost (pos 1) (pos 5) ∷ set_of 5 ∷ SetType Either None ∷ []) [] [] (of_type 6 1 ∷ []) [] (assign_to 6 (variable 1 6) [] (set 7 []) ∷ perform call.Write (shown (chain (read (variable 1 6) []) ((op.Equal, set 7 [], boolean) ∷ [])) ∷ shown (chain (num 1) ((op.Member, set 7 [], boolean) ∷ [])) ∷ []) ∷ [])) [] 0 (End (codes "TRUEFALSE") 0 [])
unfolding run
empty_set = (refl, (refl, (refl, (refl, tt))))
