-- Pointers and what they point to.
use Rattle.std.proofs.Common.{[], ◌∷◌, refl, false, Some, None}
use Rattle.std.specs.Prelude.{codes, pos}
use Rattle.p2c_text.specs.declared.dialect.Dialect.TheVariants.{Iso, Turbo, Ucsd, Hp}
use Rattle.typed_tree.specs.declared.types.PasType.TheVariants.{Pointer, Literal, RecordOf}
use Rattle.typed_tree.specs.declared.declarations.Callee.TheVariants.{Routine as CalleeRoutine}
use Rattle.typed_tree.specs.declared.declarations.Owner.TheVariants.{Program}
use Rattle.typed_tree.specs.declared.expressions.Root.TheVariants as root
use Rattle.typed_tree.specs.declared.expressions.Selector.TheVariants as selector
use Rattle.typed_tree.specs.declared.expressions.TypedExpr as X
use Rattle.typed_tree.specs.declared.operations.BinaryOp.TheVariants as op
use Rattle.typed_tree.specs.declared.operations.PredefCall.TheVariants as call
use Rattle.typed_tree.specs.declared.statements.TypedStmt as S
use Rattle.meanings.specs.Code.{End, UndefinedAfter}
use Rattle.pascal_meaning.specs.Whole.{run}
use Rattle.pascal_meaning.proofs.Examples.Build.{integer, small, boolean, field, label_of, arm, variant_part, num, letter, truth, quoted, chain, read, variable, outcome, call, value_for, by_reference, shown, assign_to, seq, while, for_of, with_part, with_all, perform, of_type, section, section_var, procedure, function, whole, InEach}

-- type p = ^r; r = record v: integer; n: p end; var h, q: p; i: integer; begin h := nil; for i := 1 to 3 do begin new(q); q^.v := i; q^.n := h; h := q end; while h <> nil do begin write(h^.v); q := h; h := h^.n; dispose(q) end end.
list_on_the_heap_in_iso_and_hp : InEach (Iso ∷ Hp ∷ []) (λ d. whole d (Pointer 6 ∷ RecordOf false (field 1 integer ∷ field 2 5 ∷ []) None ∷ []) [] [] (of_type 5 3 ∷ of_type 5 4 ∷ of_type integer 5 ∷ []) [] (assign_to 5 (variable 3 5) [] (X.Nil) ∷ for_of integer 5 false (num 1) (num 3) (seq (perform call.New (by_reference (variable 4 5) [] ∷ []) ∷ assign_to integer (variable 4 5) (selector.Follow 6 ∷ selector.Field 1 integer ∷ []) (read (variable 5 integer) []) ∷ assign_to 5 (variable 4 5) (selector.Follow 6 ∷ selector.Field 2 5 ∷ []) (read (variable 3 5) []) ∷ assign_to 5 (variable 3 5) [] (read (variable 4 5) []) ∷ [])) ∷ while (chain (read (variable 3 5) []) ((op.Unequal, X.Nil, boolean) ∷ [])) (seq (perform call.Write (shown (read (variable 3 5) (selector.Follow 6 ∷ selector.Field 1 integer ∷ [])) ∷ []) ∷ assign_to 5 (variable 4 5) [] (read (variable 3 5) []) ∷ assign_to 5 (variable 3 5) [] (read (variable 3 5) (selector.Follow 6 ∷ selector.Field 2 5 ∷ [])) ∷ perform call.Dispose (value_for 5 (read (variable 4 5) []) ∷ []) ∷ [])) ∷ [])) [] 8 (End (codes "321") 0 [])
unfolding run
list_on_the_heap_in_iso_and_hp = (refl, (refl, tt))

list_on_the_heap_in_turbo_and_ucsd : InEach (Turbo ∷ Ucsd ∷ []) (λ d. whole d (Pointer 6 ∷ RecordOf false (field 1 small ∷ field 2 5 ∷ []) None ∷ []) [] [] (of_type 5 3 ∷ of_type 5 4 ∷ of_type small 5 ∷ []) [] (assign_to 5 (variable 3 5) [] (X.Nil) ∷ for_of small 5 false (num 1) (num 3) (seq (perform call.New (by_reference (variable 4 5) [] ∷ []) ∷ assign_to small (variable 4 5) (selector.Follow 6 ∷ selector.Field 1 small ∷ []) (read (variable 5 small) []) ∷ assign_to 5 (variable 4 5) (selector.Follow 6 ∷ selector.Field 2 5 ∷ []) (read (variable 3 5) []) ∷ assign_to 5 (variable 3 5) [] (read (variable 4 5) []) ∷ [])) ∷ while (chain (read (variable 3 5) []) ((op.Unequal, X.Nil, boolean) ∷ [])) (seq (perform call.Write (shown (read (variable 3 5) (selector.Follow 6 ∷ selector.Field 1 small ∷ [])) ∷ []) ∷ assign_to 5 (variable 4 5) [] (read (variable 3 5) []) ∷ assign_to 5 (variable 3 5) [] (read (variable 3 5) (selector.Follow 6 ∷ selector.Field 2 5 ∷ [])) ∷ perform call.Dispose (value_for 5 (read (variable 4 5) []) ∷ []) ∷ [])) ∷ [])) [] 8 (End (codes "321") 0 [])
unfolding run
list_on_the_heap_in_turbo_and_ucsd = (refl, (refl, tt))

-- type t = ^integer; var q: t; begin q := nil; dispose(q) end.
dispose_of_nil_in_iso_and_hp : InEach (Iso ∷ Hp ∷ []) (λ d. whole d (Pointer integer ∷ []) [] [] (of_type 5 1 ∷ []) [] (assign_to 5 (variable 1 5) [] (X.Nil) ∷ perform call.Dispose (value_for 5 (read (variable 1 5) []) ∷ []) ∷ [])) [] 0 (End [] 202 [])
unfolding run
dispose_of_nil_in_iso_and_hp = (refl, (refl, tt))

dispose_of_nil_in_turbo_and_ucsd : InEach (Turbo ∷ Ucsd ∷ []) (λ d. whole d (Pointer small ∷ []) [] [] (of_type 5 1 ∷ []) [] (assign_to 5 (variable 1 5) [] (X.Nil) ∷ perform call.Dispose (value_for 5 (read (variable 1 5) []) ∷ []) ∷ [])) [] 0 (End [] 202 [])
unfolding run
dispose_of_nil_in_turbo_and_ucsd = (refl, (refl, tt))

-- reading it is undefined
-- type t = ^integer; var p, q: t; begin new(p); q := p; dispose(p); write('x'); q := q end.
pointer_to_a_disposed_variable_in_iso_and_hp : InEach (Iso ∷ Hp ∷ []) (λ d. whole d (Pointer integer ∷ []) [] [] (of_type 5 1 ∷ of_type 5 2 ∷ []) [] (perform call.New (by_reference (variable 1 5) [] ∷ []) ∷ assign_to 5 (variable 2 5) [] (read (variable 1 5) []) ∷ perform call.Dispose (value_for 5 (read (variable 1 5) []) ∷ []) ∷ perform call.Write (shown (letter 120) ∷ []) ∷ assign_to 5 (variable 2 5) [] (read (variable 2 5) []) ∷ [])) [] 0 (UndefinedAfter (codes "x") [])
unfolding run
pointer_to_a_disposed_variable_in_iso_and_hp = (refl, (refl, tt))

pointer_to_a_disposed_variable_in_turbo_and_ucsd : InEach (Turbo ∷ Ucsd ∷ []) (λ d. whole d (Pointer small ∷ []) [] [] (of_type 5 1 ∷ of_type 5 2 ∷ []) [] (perform call.New (by_reference (variable 1 5) [] ∷ []) ∷ assign_to 5 (variable 2 5) [] (read (variable 1 5) []) ∷ perform call.Dispose (value_for 5 (read (variable 1 5) []) ∷ []) ∷ perform call.Write (shown (letter 120) ∷ []) ∷ assign_to 5 (variable 2 5) [] (read (variable 2 5) []) ∷ [])) [] 0 (UndefinedAfter (codes "x") [])
unfolding run
pointer_to_a_disposed_variable_in_turbo_and_ucsd = (refl, (refl, tt))

-- type t = ^integer; var p: t; begin new(p); p^ := 1; write(p^); dispose(p); p^ := 2 end.
following_a_disposed_variable_in_iso_and_hp : InEach (Iso ∷ Hp ∷ []) (λ d. whole d (Pointer integer ∷ []) [] [] (of_type 5 1 ∷ []) [] (perform call.New (by_reference (variable 1 5) [] ∷ []) ∷ assign_to integer (variable 1 5) (selector.Follow integer ∷ []) (num 1) ∷ perform call.Write (shown (read (variable 1 5) (selector.Follow integer ∷ [])) ∷ []) ∷ perform call.Dispose (value_for 5 (read (variable 1 5) []) ∷ []) ∷ assign_to integer (variable 1 5) (selector.Follow integer ∷ []) (num 2) ∷ [])) [] 0 (UndefinedAfter (codes "1") [])
unfolding run
following_a_disposed_variable_in_iso_and_hp = (refl, (refl, tt))

following_a_disposed_variable_in_turbo_and_ucsd : InEach (Turbo ∷ Ucsd ∷ []) (λ d. whole d (Pointer small ∷ []) [] [] (of_type 5 1 ∷ []) [] (perform call.New (by_reference (variable 1 5) [] ∷ []) ∷ assign_to small (variable 1 5) (selector.Follow small ∷ []) (num 1) ∷ perform call.Write (shown (read (variable 1 5) (selector.Follow small ∷ [])) ∷ []) ∷ perform call.Dispose (value_for 5 (read (variable 1 5) []) ∷ []) ∷ assign_to small (variable 1 5) (selector.Follow small ∷ []) (num 2) ∷ [])) [] 0 (UndefinedAfter (codes "1") [])
unfolding run
following_a_disposed_variable_in_turbo_and_ucsd = (refl, (refl, tt))

-- copying a record reads no pointer
-- type t = ^integer; r = record p: t; a: integer end; var x, y: r; begin new(x.p); x.a := 1; dispose(x.p); y := x; write(y.a); x.p := y.p end.
copy_with_a_pointer_to_a_disposed_variable_in_iso_and_hp : InEach (Iso ∷ Hp ∷ []) (λ d. whole d (Pointer integer ∷ RecordOf false (field 1 5 ∷ field 2 integer ∷ []) None ∷ []) [] [] (of_type 6 3 ∷ of_type 6 4 ∷ []) [] (perform call.New (by_reference (variable 3 6) (selector.Field 1 5 ∷ []) ∷ []) ∷ assign_to integer (variable 3 6) (selector.Field 2 integer ∷ []) (num 1) ∷ perform call.Dispose (value_for 5 (read (variable 3 6) (selector.Field 1 5 ∷ [])) ∷ []) ∷ assign_to 6 (variable 4 6) [] (read (variable 3 6) []) ∷ perform call.Write (shown (read (variable 4 6) (selector.Field 2 integer ∷ [])) ∷ []) ∷ assign_to 5 (variable 3 6) (selector.Field 1 5 ∷ []) (read (variable 4 6) (selector.Field 1 5 ∷ [])) ∷ [])) [] 0 (UndefinedAfter (codes "1") [])
unfolding run
copy_with_a_pointer_to_a_disposed_variable_in_iso_and_hp = (refl, (refl, tt))

copy_with_a_pointer_to_a_disposed_variable_in_turbo_and_ucsd : InEach (Turbo ∷ Ucsd ∷ []) (λ d. whole d (Pointer small ∷ RecordOf false (field 1 5 ∷ field 2 small ∷ []) None ∷ []) [] [] (of_type 6 3 ∷ of_type 6 4 ∷ []) [] (perform call.New (by_reference (variable 3 6) (selector.Field 1 5 ∷ []) ∷ []) ∷ assign_to small (variable 3 6) (selector.Field 2 small ∷ []) (num 1) ∷ perform call.Dispose (value_for 5 (read (variable 3 6) (selector.Field 1 5 ∷ [])) ∷ []) ∷ assign_to 6 (variable 4 6) [] (read (variable 3 6) []) ∷ perform call.Write (shown (read (variable 4 6) (selector.Field 2 small ∷ [])) ∷ []) ∷ assign_to 5 (variable 3 6) (selector.Field 1 5 ∷ []) (read (variable 4 6) (selector.Field 1 5 ∷ [])) ∷ [])) [] 0 (UndefinedAfter (codes "1") [])
unfolding run
copy_with_a_pointer_to_a_disposed_variable_in_turbo_and_ucsd = (refl, (refl, tt))

-- type t = ^integer; var p: t; begin new(p); write('x'); write(p^) end.
new_variable_is_undefined_in_iso_and_hp : InEach (Iso ∷ Hp ∷ []) (λ d. whole d (Pointer integer ∷ []) [] [] (of_type 5 1 ∷ []) [] (perform call.New (by_reference (variable 1 5) [] ∷ []) ∷ perform call.Write (shown (letter 120) ∷ []) ∷ perform call.Write (shown (read (variable 1 5) (selector.Follow integer ∷ [])) ∷ []) ∷ [])) [] 0 (UndefinedAfter (codes "x") [])
unfolding run
new_variable_is_undefined_in_iso_and_hp = (refl, (refl, tt))

new_variable_is_undefined_in_turbo_and_ucsd : InEach (Turbo ∷ Ucsd ∷ []) (λ d. whole d (Pointer small ∷ []) [] [] (of_type 5 1 ∷ []) [] (perform call.New (by_reference (variable 1 5) [] ∷ []) ∷ perform call.Write (shown (letter 120) ∷ []) ∷ perform call.Write (shown (read (variable 1 5) (selector.Follow small ∷ [])) ∷ []) ∷ [])) [] 0 (UndefinedAfter (codes "x") [])
unfolding run
new_variable_is_undefined_in_turbo_and_ucsd = (refl, (refl, tt))

-- type t = ^integer; var p, q: t; begin new(p); q := p; write(p = q); new(q); write(p = q, p <> q, p = nil, nil = nil) end.
pointers_are_equal_where_their_variable_is_in_iso_and_hp : InEach (Iso ∷ Hp ∷ []) (λ d. whole d (Pointer integer ∷ []) [] [] (of_type 5 1 ∷ of_type 5 2 ∷ []) [] (perform call.New (by_reference (variable 1 5) [] ∷ []) ∷ assign_to 5 (variable 2 5) [] (read (variable 1 5) []) ∷ perform call.Write (shown (chain (read (variable 1 5) []) ((op.Equal, read (variable 2 5) [], boolean) ∷ [])) ∷ []) ∷ perform call.New (by_reference (variable 2 5) [] ∷ []) ∷ perform call.Write (shown (chain (read (variable 1 5) []) ((op.Equal, read (variable 2 5) [], boolean) ∷ [])) ∷ shown (chain (read (variable 1 5) []) ((op.Unequal, read (variable 2 5) [], boolean) ∷ [])) ∷ shown (chain (read (variable 1 5) []) ((op.Equal, X.Nil, boolean) ∷ [])) ∷ shown (chain (X.Nil) ((op.Equal, X.Nil, boolean) ∷ [])) ∷ []) ∷ [])) [] 0 (End (codes "TRUEFALSETRUEFALSETRUE") 0 [])
unfolding run
pointers_are_equal_where_their_variable_is_in_iso_and_hp = (refl, (refl, tt))

pointers_are_equal_where_their_variable_is_in_turbo_and_ucsd : InEach (Turbo ∷ Ucsd ∷ []) (λ d. whole d (Pointer small ∷ []) [] [] (of_type 5 1 ∷ of_type 5 2 ∷ []) [] (perform call.New (by_reference (variable 1 5) [] ∷ []) ∷ assign_to 5 (variable 2 5) [] (read (variable 1 5) []) ∷ perform call.Write (shown (chain (read (variable 1 5) []) ((op.Equal, read (variable 2 5) [], boolean) ∷ [])) ∷ []) ∷ perform call.New (by_reference (variable 2 5) [] ∷ []) ∷ perform call.Write (shown (chain (read (variable 1 5) []) ((op.Equal, read (variable 2 5) [], boolean) ∷ [])) ∷ shown (chain (read (variable 1 5) []) ((op.Unequal, read (variable 2 5) [], boolean) ∷ [])) ∷ shown (chain (read (variable 1 5) []) ((op.Equal, X.Nil, boolean) ∷ [])) ∷ shown (chain (X.Nil) ((op.Equal, X.Nil, boolean) ∷ [])) ∷ []) ∷ [])) [] 0 (End (codes "TRUEFALSETRUEFALSETRUE") 0 [])
unfolding run
pointers_are_equal_where_their_variable_is_in_turbo_and_ucsd = (refl, (refl, tt))

-- it was taken before f disposed its variable
-- type t = ^integer; var p: t; function f: t; begin dispose(p); f := nil end; begin new(p); write('x'); write(p = f) end.
pointer_is_read_again_where_it_is_compared_in_iso_and_hp : InEach (Iso ∷ Hp ∷ []) (λ d. whole d (Pointer integer ∷ []) (function 1 Program [] (of_type 5 2) [] (perform call.Dispose (value_for 5 (read (variable 1 5) []) ∷ []) ∷ assign_to 5 (outcome 2 5) [] (X.Nil) ∷ []) ∷ []) [] (of_type 5 1 ∷ []) [] (perform call.New (by_reference (variable 1 5) [] ∷ []) ∷ perform call.Write (shown (letter 120) ∷ []) ∷ perform call.Write (shown (chain (read (variable 1 5) []) ((op.Equal, call (CalleeRoutine 1) [] 5, boolean) ∷ [])) ∷ []) ∷ [])) [] 1 (UndefinedAfter (codes "x") (1 ∷ []))
unfolding run
pointer_is_read_again_where_it_is_compared_in_iso_and_hp = (refl, (refl, tt))

pointer_is_read_again_where_it_is_compared_in_turbo_and_ucsd : InEach (Turbo ∷ Ucsd ∷ []) (λ d. whole d (Pointer small ∷ []) (function 1 Program [] (of_type 5 2) [] (perform call.Dispose (value_for 5 (read (variable 1 5) []) ∷ []) ∷ assign_to 5 (outcome 2 5) [] (X.Nil) ∷ []) ∷ []) [] (of_type 5 1 ∷ []) [] (perform call.New (by_reference (variable 1 5) [] ∷ []) ∷ perform call.Write (shown (letter 120) ∷ []) ∷ perform call.Write (shown (chain (read (variable 1 5) []) ((op.Equal, call (CalleeRoutine 1) [] 5, boolean) ∷ [])) ∷ []) ∷ [])) [] 1 (UndefinedAfter (codes "x") (1 ∷ []))
unfolding run
pointer_is_read_again_where_it_is_compared_in_turbo_and_ucsd = (refl, (refl, tt))

-- before the routine is entered
-- type t = ^integer; var p: t; function f: integer; begin dispose(p); f := 1 end; procedure q(a: t; n: integer); begin write('no') end; begin new(p); write('x'); q(p, f) end.
pointer_argument_is_read_again_in_iso_and_hp : InEach (Iso ∷ Hp ∷ []) (λ d. whole d (Pointer integer ∷ Literal 2 ∷ []) (function 1 Program [] (of_type integer 2) [] (perform call.Dispose (value_for 5 (read (variable 1 5) []) ∷ []) ∷ assign_to integer (outcome 2 integer) [] (num 1) ∷ []) ∷ procedure 2 Program (section 5 (3 ∷ []) ∷ section integer (4 ∷ []) ∷ []) [] [] (perform call.Write (shown (quoted 6 (codes "no")) ∷ []) ∷ []) ∷ []) [] (of_type 5 1 ∷ []) [] (perform call.New (by_reference (variable 1 5) [] ∷ []) ∷ perform call.Write (shown (letter 120) ∷ []) ∷ S.Call (CalleeRoutine 2) (value_for 5 (read (variable 1 5) []) ∷ value_for integer (call (CalleeRoutine 1) [] integer) ∷ []) ∷ [])) [] 2 (UndefinedAfter (codes "x") (1 ∷ []))
unfolding run
pointer_argument_is_read_again_in_iso_and_hp = (refl, (refl, tt))

pointer_argument_is_read_again_in_turbo_and_ucsd : InEach (Turbo ∷ Ucsd ∷ []) (λ d. whole d (Pointer small ∷ Literal 2 ∷ []) (function 1 Program [] (of_type small 2) [] (perform call.Dispose (value_for 5 (read (variable 1 5) []) ∷ []) ∷ assign_to small (outcome 2 small) [] (num 1) ∷ []) ∷ procedure 2 Program (section 5 (3 ∷ []) ∷ section small (4 ∷ []) ∷ []) [] [] (perform call.Write (shown (quoted 6 (codes "no")) ∷ []) ∷ []) ∷ []) [] (of_type 5 1 ∷ []) [] (perform call.New (by_reference (variable 1 5) [] ∷ []) ∷ perform call.Write (shown (letter 120) ∷ []) ∷ S.Call (CalleeRoutine 2) (value_for 5 (read (variable 1 5) []) ∷ value_for small (call (CalleeRoutine 1) [] small) ∷ []) ∷ [])) [] 2 (UndefinedAfter (codes "x") (1 ∷ []))
unfolding run
pointer_argument_is_read_again_in_turbo_and_ucsd = (refl, (refl, tt))

-- before the routine is entered
-- type t = ^integer; var p: t; function f: integer; begin dispose(p); f := 1 end; procedure q(var a: integer; n: integer); begin write('no') end; begin new(p); write('x'); q(p^, f) end.
reference_argument_into_a_disposed_variable_in_iso_and_hp : InEach (Iso ∷ Hp ∷ []) (λ d. whole d (Pointer integer ∷ Literal 2 ∷ []) (function 1 Program [] (of_type integer 2) [] (perform call.Dispose (value_for 5 (read (variable 1 5) []) ∷ []) ∷ assign_to integer (outcome 2 integer) [] (num 1) ∷ []) ∷ procedure 2 Program (section_var integer (3 ∷ []) ∷ section integer (4 ∷ []) ∷ []) [] [] (perform call.Write (shown (quoted 6 (codes "no")) ∷ []) ∷ []) ∷ []) [] (of_type 5 1 ∷ []) [] (perform call.New (by_reference (variable 1 5) [] ∷ []) ∷ perform call.Write (shown (letter 120) ∷ []) ∷ S.Call (CalleeRoutine 2) (by_reference (variable 1 5) (selector.Follow integer ∷ []) ∷ value_for integer (call (CalleeRoutine 1) [] integer) ∷ []) ∷ [])) [] 2 (UndefinedAfter (codes "x") (1 ∷ []))
unfolding run
reference_argument_into_a_disposed_variable_in_iso_and_hp = (refl, (refl, tt))

reference_argument_into_a_disposed_variable_in_turbo_and_ucsd : InEach (Turbo ∷ Ucsd ∷ []) (λ d. whole d (Pointer small ∷ Literal 2 ∷ []) (function 1 Program [] (of_type small 2) [] (perform call.Dispose (value_for 5 (read (variable 1 5) []) ∷ []) ∷ assign_to small (outcome 2 small) [] (num 1) ∷ []) ∷ procedure 2 Program (section_var small (3 ∷ []) ∷ section small (4 ∷ []) ∷ []) [] [] (perform call.Write (shown (quoted 6 (codes "no")) ∷ []) ∷ []) ∷ []) [] (of_type 5 1 ∷ []) [] (perform call.New (by_reference (variable 1 5) [] ∷ []) ∷ perform call.Write (shown (letter 120) ∷ []) ∷ S.Call (CalleeRoutine 2) (by_reference (variable 1 5) (selector.Follow small ∷ []) ∷ value_for small (call (CalleeRoutine 1) [] small) ∷ []) ∷ [])) [] 2 (UndefinedAfter (codes "x") (1 ∷ []))
unfolding run
reference_argument_into_a_disposed_variable_in_turbo_and_ucsd = (refl, (refl, tt))

-- selecting a place in it follows the reference
-- type t = ^r; r = record a: integer end; var p: t; begin new(p); with p^ do begin a := 1; write(a); dispose(p); write('x'); a := 2 end end.
with_over_a_disposed_variable_in_iso_and_hp : InEach (Iso ∷ Hp ∷ []) (λ d. whole d (Pointer 6 ∷ RecordOf false (field 1 integer ∷ []) None ∷ []) [] [] (of_type 5 2 ∷ []) [] (perform call.New (by_reference (variable 2 5) [] ∷ []) ∷ with_all (with_part 3 (variable 2 5) (selector.Follow 6 ∷ []) ∷ []) (seq (assign_to integer (root.WithRef 3 6) (selector.Field 1 integer ∷ []) (num 1) ∷ perform call.Write (shown (read (root.WithRef 3 6) (selector.Field 1 integer ∷ [])) ∷ []) ∷ perform call.Dispose (value_for 5 (read (variable 2 5) []) ∷ []) ∷ perform call.Write (shown (letter 120) ∷ []) ∷ assign_to integer (root.WithRef 3 6) (selector.Field 1 integer ∷ []) (num 2) ∷ [])) ∷ [])) [] 0 (UndefinedAfter (codes "1x") [])
unfolding run
with_over_a_disposed_variable_in_iso_and_hp = (refl, (refl, tt))

with_over_a_disposed_variable_in_turbo_and_ucsd : InEach (Turbo ∷ Ucsd ∷ []) (λ d. whole d (Pointer 6 ∷ RecordOf false (field 1 small ∷ []) None ∷ []) [] [] (of_type 5 2 ∷ []) [] (perform call.New (by_reference (variable 2 5) [] ∷ []) ∷ with_all (with_part 3 (variable 2 5) (selector.Follow 6 ∷ []) ∷ []) (seq (assign_to small (root.WithRef 3 6) (selector.Field 1 small ∷ []) (num 1) ∷ perform call.Write (shown (read (root.WithRef 3 6) (selector.Field 1 small ∷ [])) ∷ []) ∷ perform call.Dispose (value_for 5 (read (variable 2 5) []) ∷ []) ∷ perform call.Write (shown (letter 120) ∷ []) ∷ assign_to small (root.WithRef 3 6) (selector.Field 1 small ∷ []) (num 2) ∷ [])) ∷ [])) [] 0 (UndefinedAfter (codes "1x") [])
unfolding run
with_over_a_disposed_variable_in_turbo_and_ucsd = (refl, (refl, tt))

-- type t = ^integer; var p: t; procedure q(var a: integer); begin a := 1; write(a); dispose(p); write('x'); write(a) end; begin new(p); q(p^) end.
parameter_into_a_disposed_variable_in_iso_and_hp : InEach (Iso ∷ Hp ∷ []) (λ d. whole d (Pointer integer ∷ []) (procedure 1 Program (section_var integer (2 ∷ []) ∷ []) [] [] (assign_to integer (variable 2 integer) [] (num 1) ∷ perform call.Write (shown (read (variable 2 integer) []) ∷ []) ∷ perform call.Dispose (value_for 5 (read (variable 1 5) []) ∷ []) ∷ perform call.Write (shown (letter 120) ∷ []) ∷ perform call.Write (shown (read (variable 2 integer) []) ∷ []) ∷ []) ∷ []) [] (of_type 5 1 ∷ []) [] (perform call.New (by_reference (variable 1 5) [] ∷ []) ∷ S.Call (CalleeRoutine 1) (by_reference (variable 1 5) (selector.Follow integer ∷ []) ∷ []) ∷ [])) [] 1 (UndefinedAfter (codes "1x") (1 ∷ []))
unfolding run
parameter_into_a_disposed_variable_in_iso_and_hp = (refl, (refl, tt))

parameter_into_a_disposed_variable_in_turbo_and_ucsd : InEach (Turbo ∷ Ucsd ∷ []) (λ d. whole d (Pointer small ∷ []) (procedure 1 Program (section_var small (2 ∷ []) ∷ []) [] [] (assign_to small (variable 2 small) [] (num 1) ∷ perform call.Write (shown (read (variable 2 small) []) ∷ []) ∷ perform call.Dispose (value_for 5 (read (variable 1 5) []) ∷ []) ∷ perform call.Write (shown (letter 120) ∷ []) ∷ perform call.Write (shown (read (variable 2 small) []) ∷ []) ∷ []) ∷ []) [] (of_type 5 1 ∷ []) [] (perform call.New (by_reference (variable 1 5) [] ∷ []) ∷ S.Call (CalleeRoutine 1) (by_reference (variable 1 5) (selector.Follow small ∷ []) ∷ []) ∷ [])) [] 1 (UndefinedAfter (codes "1x") (1 ∷ []))
unfolding run
parameter_into_a_disposed_variable_in_turbo_and_ucsd = (refl, (refl, tt))

-- type t = ^integer; var p: t; begin p := nil; write('x'); write(p^ + 1) end.
nil_in_an_expression_in_iso_and_hp : InEach (Iso ∷ Hp ∷ []) (λ d. whole d (Pointer integer ∷ []) [] [] (of_type 5 1 ∷ []) [] (assign_to 5 (variable 1 5) [] (X.Nil) ∷ perform call.Write (shown (letter 120) ∷ []) ∷ perform call.Write (shown (chain (read (variable 1 5) (selector.Follow integer ∷ [])) ((op.Add, num 1, integer) ∷ [])) ∷ []) ∷ [])) [] 0 (End (codes "x") 202 [])
unfolding run
nil_in_an_expression_in_iso_and_hp = (refl, (refl, tt))

nil_in_an_expression_in_turbo_and_ucsd : InEach (Turbo ∷ Ucsd ∷ []) (λ d. whole d (Pointer small ∷ []) [] [] (of_type 5 1 ∷ []) [] (assign_to 5 (variable 1 5) [] (X.Nil) ∷ perform call.Write (shown (letter 120) ∷ []) ∷ perform call.Write (shown (chain (read (variable 1 5) (selector.Follow small ∷ [])) ((op.Add, num 1, small) ∷ [])) ∷ []) ∷ [])) [] 0 (End (codes "x") 202 [])
unfolding run
nil_in_an_expression_in_turbo_and_ucsd = (refl, (refl, tt))

-- type t = ^integer; var p: t; function f: t; begin f := p end; begin new(p); dispose(f); write('x'); dispose(p) end.
dispose_of_what_a_function_gives_in_iso_and_hp : InEach (Iso ∷ Hp ∷ []) (λ d. whole d (Pointer integer ∷ []) (function 1 Program [] (of_type 5 2) [] (assign_to 5 (outcome 2 5) [] (read (variable 1 5) []) ∷ []) ∷ []) [] (of_type 5 1 ∷ []) [] (perform call.New (by_reference (variable 1 5) [] ∷ []) ∷ perform call.Dispose (value_for 5 (call (CalleeRoutine 1) [] 5) ∷ []) ∷ perform call.Write (shown (letter 120) ∷ []) ∷ perform call.Dispose (value_for 5 (read (variable 1 5) []) ∷ []) ∷ [])) [] 1 (UndefinedAfter (codes "x") (1 ∷ []))
unfolding run
dispose_of_what_a_function_gives_in_iso_and_hp = (refl, (refl, tt))

dispose_of_what_a_function_gives_in_turbo_and_ucsd : InEach (Turbo ∷ Ucsd ∷ []) (λ d. whole d (Pointer small ∷ []) (function 1 Program [] (of_type 5 2) [] (assign_to 5 (outcome 2 5) [] (read (variable 1 5) []) ∷ []) ∷ []) [] (of_type 5 1 ∷ []) [] (perform call.New (by_reference (variable 1 5) [] ∷ []) ∷ perform call.Dispose (value_for 5 (call (CalleeRoutine 1) [] 5) ∷ []) ∷ perform call.Write (shown (letter 120) ∷ []) ∷ perform call.Dispose (value_for 5 (read (variable 1 5) []) ∷ []) ∷ [])) [] 1 (UndefinedAfter (codes "x") (1 ∷ []))
unfolding run
dispose_of_what_a_function_gives_in_turbo_and_ucsd = (refl, (refl, tt))

-- it is read at the end of the activation
-- type t = ^integer; var p: t; function f: t; begin f := p; dispose(p); write('f') end; begin new(p); p := f end.
result_that_points_to_a_disposed_variable_in_iso_and_hp : InEach (Iso ∷ Hp ∷ []) (λ d. whole d (Pointer integer ∷ []) (function 1 Program [] (of_type 5 2) [] (assign_to 5 (outcome 2 5) [] (read (variable 1 5) []) ∷ perform call.Dispose (value_for 5 (read (variable 1 5) []) ∷ []) ∷ perform call.Write (shown (letter 102) ∷ []) ∷ []) ∷ []) [] (of_type 5 1 ∷ []) [] (perform call.New (by_reference (variable 1 5) [] ∷ []) ∷ assign_to 5 (variable 1 5) [] (call (CalleeRoutine 1) [] 5) ∷ [])) [] 1 (UndefinedAfter (codes "f") (1 ∷ []))
unfolding run
result_that_points_to_a_disposed_variable_in_iso_and_hp = (refl, (refl, tt))

result_that_points_to_a_disposed_variable_in_turbo_and_ucsd : InEach (Turbo ∷ Ucsd ∷ []) (λ d. whole d (Pointer small ∷ []) (function 1 Program [] (of_type 5 2) [] (assign_to 5 (outcome 2 5) [] (read (variable 1 5) []) ∷ perform call.Dispose (value_for 5 (read (variable 1 5) []) ∷ []) ∷ perform call.Write (shown (letter 102) ∷ []) ∷ []) ∷ []) [] (of_type 5 1 ∷ []) [] (perform call.New (by_reference (variable 1 5) [] ∷ []) ∷ assign_to 5 (variable 1 5) [] (call (CalleeRoutine 1) [] 5) ∷ [])) [] 1 (UndefinedAfter (codes "f") (1 ∷ []))
unfolding run
result_that_points_to_a_disposed_variable_in_turbo_and_ucsd = (refl, (refl, tt))

-- type t = ^r; r = record case k: Boolean of true: (a: integer); false: (b: integer) end; var p: t; begin new(p); p^.k := true; p^.a := 3; write(p^.a); write(p^.b) end.
variants_on_the_heap_in_iso_and_hp : InEach (Iso ∷ Hp ∷ []) (λ d. whole d (Pointer 6 ∷ RecordOf false [] (Some (variant_part 1 (Some []) boolean (arm (label_of (pos 1) ∷ []) (field 2 integer ∷ []) None ∷ arm (label_of (pos 0) ∷ []) (field 3 integer ∷ []) None ∷ []))) ∷ []) [] [] (of_type 5 4 ∷ []) [] (perform call.New (by_reference (variable 4 5) [] ∷ []) ∷ assign_to boolean (variable 4 5) (selector.Follow 6 ∷ selector.Field 1 boolean ∷ []) (truth 1) ∷ assign_to integer (variable 4 5) (selector.Follow 6 ∷ selector.Field 2 integer ∷ []) (num 3) ∷ perform call.Write (shown (read (variable 4 5) (selector.Follow 6 ∷ selector.Field 2 integer ∷ [])) ∷ []) ∷ perform call.Write (shown (read (variable 4 5) (selector.Follow 6 ∷ selector.Field 3 integer ∷ [])) ∷ []) ∷ [])) [] 0 (End (codes "3") 205 [])
unfolding run
variants_on_the_heap_in_iso_and_hp = (refl, (refl, tt))

variants_on_the_heap_in_turbo_and_ucsd : InEach (Turbo ∷ Ucsd ∷ []) (λ d. whole d (Pointer 6 ∷ RecordOf false [] (Some (variant_part 1 (Some []) boolean (arm (label_of (pos 1) ∷ []) (field 2 small ∷ []) None ∷ arm (label_of (pos 0) ∷ []) (field 3 small ∷ []) None ∷ []))) ∷ []) [] [] (of_type 5 4 ∷ []) [] (perform call.New (by_reference (variable 4 5) [] ∷ []) ∷ assign_to boolean (variable 4 5) (selector.Follow 6 ∷ selector.Field 1 boolean ∷ []) (truth 1) ∷ assign_to small (variable 4 5) (selector.Follow 6 ∷ selector.Field 2 small ∷ []) (num 3) ∷ perform call.Write (shown (read (variable 4 5) (selector.Follow 6 ∷ selector.Field 2 small ∷ [])) ∷ []) ∷ perform call.Write (shown (read (variable 4 5) (selector.Follow 6 ∷ selector.Field 3 small ∷ [])) ∷ []) ∷ [])) [] 0 (End (codes "3") 205 [])
unfolding run
variants_on_the_heap_in_turbo_and_ucsd = (refl, (refl, tt))
