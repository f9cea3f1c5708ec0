-- Further cases.
use Rattle.std.proofs.Common.{◌≡◌, [], ◌∷◌, refl, false, Some, None}
use Rattle.std.specs.Prelude.{codes, pos, negsuc}
use Rattle.p2c_text.specs.declared.dialect.Dialect.TheVariants.{Iso, Turbo, Ucsd, Hp}
use Rattle.typed_tree.specs.declared.types.Host.TheVariants.{Whole as WholeHost, Enumeration}
use Rattle.typed_tree.specs.declared.types.Packing.TheVariants.{Either}
use Rattle.typed_tree.specs.declared.types.PasType.TheVariants.{Ordinal, Pointer, Array, DynString, Literal, RecordOf, SetOf as SetType}
use Rattle.typed_tree.specs.declared.declarations.Callee.TheVariants.{Routine as CalleeRoutine, Formal}
use Rattle.typed_tree.specs.declared.declarations.Owner.TheVariants as Owner
use Rattle.typed_tree.specs.declared.declarations.Owner.TheVariants.{Program}
use Rattle.typed_tree.specs.declared.expressions.Root.TheVariants as root
use Rattle.typed_tree.specs.declared.expressions.Selector.TheVariants as selector
use Rattle.typed_tree.specs.declared.expressions.TypedArg.TheVariants as arg
use Rattle.typed_tree.specs.declared.expressions.TypedExpr as X
use Rattle.typed_tree.specs.declared.operations.BinaryOp.TheVariants as op
use Rattle.typed_tree.specs.declared.operations.UnaryOp.TheVariants as un
use Rattle.typed_tree.specs.declared.operations.PredefCall.TheVariants as call
use Rattle.typed_tree.specs.declared.statements.TypedStmt as S
use Rattle.meanings.specs.Code.{End, UndefinedAfter}
use Rattle.pascal_meaning.specs.Whole.{run}
use Rattle.pascal_meaning.proofs.Examples.Build.{integer, small, char, boolean, text, set_of, field, label_of, arm, variant_part, num, letter, truth, quoted, unary, chain, read, variable, outcome, call, set, predefined, value_for, by_reference, shown, assign_to, seq, if_then, if_else, while, for_of, with_part, with_all, try, labelled, case_of, perform, of_type, section, section_var, section_functions, procedure, function, whole, InEach}

-- begin write(+5, +5 - 2) end.
plus_sign_in_iso_and_hp : InEach (Iso ∷ Hp ∷ []) (λ d. whole d [] [] [] [] [] (perform call.Write (shown (unary integer un.Plus (num 5)) ∷ shown (chain (unary integer un.Plus (num 5)) ((op.Sub, num 2, integer) ∷ [])) ∷ []) ∷ [])) [] 0 (End (codes "53") 0 [])
unfolding run
plus_sign_in_iso_and_hp = (refl, (refl, tt))

plus_sign_in_turbo_and_ucsd : InEach (Turbo ∷ Ucsd ∷ []) (λ d. whole d [] [] [] [] [] (perform call.Write (shown (unary small un.Plus (num 5)) ∷ shown (chain (unary small un.Plus (num 5)) ((op.Sub, num 2, small) ∷ [])) ∷ []) ∷ [])) [] 0 (End (codes "53") 0 [])
unfolding run
plus_sign_in_turbo_and_ucsd = (refl, (refl, tt))

-- const n = 3; m = -n; q = 'it'; c = 'x'; begin write(n, m, q, c) end.
named_constants_in_iso_and_hp : InEach (Iso ∷ Hp ∷ []) (λ d. whole d (Literal 2 ∷ []) [] [] [] [] (perform call.Write (shown (num 3) ∷ shown (X.Number (negsuc 2) integer) ∷ shown (quoted 5 (codes "it")) ∷ shown (letter 120) ∷ []) ∷ [])) [] 0 (End (codes "3-3itx") 0 [])
unfolding run
named_constants_in_iso_and_hp = (refl, (refl, tt))

named_constants_in_turbo_and_ucsd : InEach (Turbo ∷ Ucsd ∷ []) (λ d. whole d (Literal 2 ∷ []) [] [] [] [] (perform call.Write (shown (num 3) ∷ shown (X.Number (negsuc 2) small) ∷ shown (quoted 5 (codes "it")) ∷ shown (letter 120) ∷ []) ∷ [])) [] 0 (End (codes "3-3itx") 0 [])
unfolding run
named_constants_in_turbo_and_ucsd = (refl, (refl, tt))

-- var r: record case k: integer of 1: (a: integer); 2: (b: integer) end; begin r.k := 1; r.a := 5; inc(r.k); write(r.k); r.b := 6; write(r.b); dec(r.k); write('x'); write(r.a) end.
tag_is_read_and_stepped : run (whole Turbo (RecordOf false [] (Some (variant_part 1 (Some []) small (arm (label_of (pos 1) ∷ []) (field 2 small ∷ []) None ∷ arm (label_of (pos 2) ∷ []) (field 3 small ∷ []) None ∷ []))) ∷ []) [] [] (of_type 5 4 ∷ []) [] (assign_to small (variable 4 5) (selector.Field 1 small ∷ []) (num 1) ∷ assign_to small (variable 4 5) (selector.Field 2 small ∷ []) (num 5) ∷ perform call.Inc (by_reference (variable 4 5) (selector.Field 1 small ∷ []) ∷ []) ∷ perform call.Write (shown (read (variable 4 5) (selector.Field 1 small ∷ [])) ∷ []) ∷ assign_to small (variable 4 5) (selector.Field 3 small ∷ []) (num 6) ∷ perform call.Write (shown (read (variable 4 5) (selector.Field 3 small ∷ [])) ∷ []) ∷ perform call.Dec (by_reference (variable 4 5) (selector.Field 1 small ∷ []) ∷ []) ∷ perform call.Write (shown (letter 120) ∷ []) ∷ perform call.Write (shown (read (variable 4 5) (selector.Field 2 small ∷ [])) ∷ []) ∷ [])) [] 0 ≡ UndefinedAfter (codes "26x") []
unfolding run
tag_is_read_and_stepped = refl

-- reading the same value again leaves the fields
-- var r: record case k: integer of 1: (a: integer); 2: (b: integer) end; begin r.k := 1; r.a := 5; read(r.k); write(r.a); read(r.k); write(r.k); write(r.a) end.
tag_is_read_into_in_iso_and_hp : InEach (Iso ∷ Hp ∷ []) (λ d. whole d (RecordOf false [] (Some (variant_part 1 (Some []) integer (arm (label_of (pos 1) ∷ []) (field 2 integer ∷ []) None ∷ arm (label_of (pos 2) ∷ []) (field 3 integer ∷ []) None ∷ []))) ∷ []) [] [] (of_type 5 4 ∷ []) [] (assign_to integer (variable 4 5) (selector.Field 1 integer ∷ []) (num 1) ∷ assign_to integer (variable 4 5) (selector.Field 2 integer ∷ []) (num 5) ∷ perform call.Read (by_reference (variable 4 5) (selector.Field 1 integer ∷ []) ∷ []) ∷ perform call.Write (shown (read (variable 4 5) (selector.Field 2 integer ∷ [])) ∷ []) ∷ perform call.Read (by_reference (variable 4 5) (selector.Field 1 integer ∷ []) ∷ []) ∷ perform call.Write (shown (read (variable 4 5) (selector.Field 1 integer ∷ [])) ∷ []) ∷ perform call.Write (shown (read (variable 4 5) (selector.Field 2 integer ∷ [])) ∷ []) ∷ [])) (codes "1 2") 0 (End (codes "52") 205 [])
unfolding run
tag_is_read_into_in_iso_and_hp = (refl, (refl, tt))

tag_is_read_into_in_turbo_and_ucsd : InEach (Turbo ∷ Ucsd ∷ []) (λ d. whole d (RecordOf false [] (Some (variant_part 1 (Some []) small (arm (label_of (pos 1) ∷ []) (field 2 small ∷ []) None ∷ arm (label_of (pos 2) ∷ []) (field 3 small ∷ []) None ∷ []))) ∷ []) [] [] (of_type 5 4 ∷ []) [] (assign_to small (variable 4 5) (selector.Field 1 small ∷ []) (num 1) ∷ assign_to small (variable 4 5) (selector.Field 2 small ∷ []) (num 5) ∷ perform call.Read (by_reference (variable 4 5) (selector.Field 1 small ∷ []) ∷ []) ∷ perform call.Write (shown (read (variable 4 5) (selector.Field 2 small ∷ [])) ∷ []) ∷ perform call.Read (by_reference (variable 4 5) (selector.Field 1 small ∷ []) ∷ []) ∷ perform call.Write (shown (read (variable 4 5) (selector.Field 1 small ∷ [])) ∷ []) ∷ perform call.Write (shown (read (variable 4 5) (selector.Field 2 small ∷ [])) ∷ []) ∷ [])) (codes "1 2") 0 (End (codes "52") 205 [])
unfolding run
tag_is_read_into_in_turbo_and_ucsd = (refl, (refl, tt))

-- it is selected when the value is stored
-- var r: record case Boolean of true: (a: integer); false: (b: integer) end; begin r.a := 5; read(r.b); write(r.b); write(r.a) end.
read_into_a_hidden_variant_in_iso_and_hp : InEach (Iso ∷ Hp ∷ []) (λ d. whole d (RecordOf false [] (Some (variant_part 1 None boolean (arm (label_of (pos 1) ∷ []) (field 2 integer ∷ []) None ∷ arm (label_of (pos 0) ∷ []) (field 3 integer ∷ []) None ∷ []))) ∷ []) [] [] (of_type 5 4 ∷ []) [] (assign_to integer (variable 4 5) (selector.Field 2 integer ∷ []) (num 5) ∷ perform call.Read (by_reference (variable 4 5) (selector.Field 3 integer ∷ []) ∷ []) ∷ perform call.Write (shown (read (variable 4 5) (selector.Field 3 integer ∷ [])) ∷ []) ∷ perform call.Write (shown (read (variable 4 5) (selector.Field 2 integer ∷ [])) ∷ []) ∷ [])) (codes "7") 0 (End (codes "7") 205 [])
unfolding run
read_into_a_hidden_variant_in_iso_and_hp = (refl, (refl, tt))

read_into_a_hidden_variant_in_turbo_and_ucsd : InEach (Turbo ∷ Ucsd ∷ []) (λ d. whole d (RecordOf false [] (Some (variant_part 1 None boolean (arm (label_of (pos 1) ∷ []) (field 2 small ∷ []) None ∷ arm (label_of (pos 0) ∷ []) (field 3 small ∷ []) None ∷ []))) ∷ []) [] [] (of_type 5 4 ∷ []) [] (assign_to small (variable 4 5) (selector.Field 2 small ∷ []) (num 5) ∷ perform call.Read (by_reference (variable 4 5) (selector.Field 3 small ∷ []) ∷ []) ∷ perform call.Write (shown (read (variable 4 5) (selector.Field 3 small ∷ [])) ∷ []) ∷ perform call.Write (shown (read (variable 4 5) (selector.Field 2 small ∷ [])) ∷ []) ∷ [])) (codes "7") 0 (End (codes "7") 205 [])
unfolding run
read_into_a_hidden_variant_in_turbo_and_ucsd = (refl, (refl, tt))

-- var r: record case Boolean of true: (a: integer); false: (b: integer) end; begin r.a := 5; try read(r.b) recover write(r.a) end.
failed_read_selects_no_variant : run (whole Hp (RecordOf false [] (Some (variant_part 1 None boolean (arm (label_of (pos 1) ∷ []) (field 2 integer ∷ []) None ∷ arm (label_of (pos 0) ∷ []) (field 3 integer ∷ []) None ∷ []))) ∷ []) [] [] (of_type 5 4 ∷ []) [] (assign_to integer (variable 4 5) (selector.Field 2 integer ∷ []) (num 5) ∷ try (perform call.Read (by_reference (variable 4 5) (selector.Field 3 integer ∷ []) ∷ []) ∷ []) (perform call.Write (shown (read (variable 4 5) (selector.Field 2 integer ∷ [])) ∷ [])) ∷ [])) (codes "x") 0 ≡ End (codes "5") 0 []
unfolding run
failed_read_selects_no_variant = refl

-- the tag is copied with the fields
-- type t = record case Boolean of true: (a: integer); false: (b: integer) end; var r, s: t; begin r.a := 1; s := r; r.b := 2; write(s.a, r.b) end.
copy_of_a_record_with_a_hidden_tag_in_iso_and_hp : InEach (Iso ∷ Hp ∷ []) (λ d. whole d (RecordOf false [] (Some (variant_part 1 None boolean (arm (label_of (pos 1) ∷ []) (field 2 integer ∷ []) None ∷ arm (label_of (pos 0) ∷ []) (field 3 integer ∷ []) None ∷ []))) ∷ []) [] [] (of_type 5 4 ∷ of_type 5 5 ∷ []) [] (assign_to integer (variable 4 5) (selector.Field 2 integer ∷ []) (num 1) ∷ assign_to 5 (variable 5 5) [] (read (variable 4 5) []) ∷ assign_to integer (variable 4 5) (selector.Field 3 integer ∷ []) (num 2) ∷ perform call.Write (shown (read (variable 5 5) (selector.Field 2 integer ∷ [])) ∷ shown (read (variable 4 5) (selector.Field 3 integer ∷ [])) ∷ []) ∷ [])) [] 0 (End (codes "12") 0 [])
unfolding run
copy_of_a_record_with_a_hidden_tag_in_iso_and_hp = (refl, (refl, tt))

copy_of_a_record_with_a_hidden_tag_in_turbo_and_ucsd : InEach (Turbo ∷ Ucsd ∷ []) (λ d. whole d (RecordOf false [] (Some (variant_part 1 None boolean (arm (label_of (pos 1) ∷ []) (field 2 small ∷ []) None ∷ arm (label_of (pos 0) ∷ []) (field 3 small ∷ []) None ∷ []))) ∷ []) [] [] (of_type 5 4 ∷ of_type 5 5 ∷ []) [] (assign_to small (variable 4 5) (selector.Field 2 small ∷ []) (num 1) ∷ assign_to 5 (variable 5 5) [] (read (variable 4 5) []) ∷ assign_to small (variable 4 5) (selector.Field 3 small ∷ []) (num 2) ∷ perform call.Write (shown (read (variable 5 5) (selector.Field 2 small ∷ [])) ∷ shown (read (variable 4 5) (selector.Field 3 small ∷ [])) ∷ []) ∷ [])) [] 0 (End (codes "12") 0 [])
unfolding run
copy_of_a_record_with_a_hidden_tag_in_turbo_and_ucsd = (refl, (refl, tt))

-- making the reference selects, reading checks
-- var r: record case Boolean of true: (a: array [1..2] of integer); false: (b: integer) end; procedure p(var x: integer); begin x := 4 end; begin p(r.a[2]); write(r.a[2]); r.b := 1; write('x'); write(r.a[2]) end.
array_in_a_hidden_variant_in_iso_and_hp : InEach (Iso ∷ Hp ∷ []) (λ d. whole d (Ordinal WholeHost (pos 1) (pos 2) ∷ Array false 5 integer ∷ RecordOf false [] (Some (variant_part 1 None boolean (arm (label_of (pos 1) ∷ []) (field 2 6 ∷ []) None ∷ arm (label_of (pos 0) ∷ []) (field 3 integer ∷ []) None ∷ []))) ∷ []) (procedure 1 Program (section_var integer (5 ∷ []) ∷ []) [] [] (assign_to integer (variable 5 integer) [] (num 4) ∷ []) ∷ []) [] (of_type 7 4 ∷ []) [] (S.Call (CalleeRoutine 1) (by_reference (variable 4 7) (selector.Field 2 6 ∷ selector.Index (num 2) 6 integer ∷ []) ∷ []) ∷ perform call.Write (shown (read (variable 4 7) (selector.Field 2 6 ∷ selector.Index (num 2) 6 integer ∷ [])) ∷ []) ∷ assign_to integer (variable 4 7) (selector.Field 3 integer ∷ []) (num 1) ∷ perform call.Write (shown (letter 120) ∷ []) ∷ perform call.Write (shown (read (variable 4 7) (selector.Field 2 6 ∷ selector.Index (num 2) 6 integer ∷ [])) ∷ []) ∷ [])) [] 1 (End (codes "4x") 205 (1 ∷ []))
unfolding run
array_in_a_hidden_variant_in_iso_and_hp = (refl, (refl, tt))

array_in_a_hidden_variant_in_turbo_and_ucsd : InEach (Turbo ∷ Ucsd ∷ []) (λ d. whole d (Ordinal WholeHost (pos 1) (pos 2) ∷ Array false 5 small ∷ RecordOf false [] (Some (variant_part 1 None boolean (arm (label_of (pos 1) ∷ []) (field 2 6 ∷ []) None ∷ arm (label_of (pos 0) ∷ []) (field 3 small ∷ []) None ∷ []))) ∷ []) (procedure 1 Program (section_var small (5 ∷ []) ∷ []) [] [] (assign_to small (variable 5 small) [] (num 4) ∷ []) ∷ []) [] (of_type 7 4 ∷ []) [] (S.Call (CalleeRoutine 1) (by_reference (variable 4 7) (selector.Field 2 6 ∷ selector.Index (num 2) 6 small ∷ []) ∷ []) ∷ perform call.Write (shown (read (variable 4 7) (selector.Field 2 6 ∷ selector.Index (num 2) 6 small ∷ [])) ∷ []) ∷ assign_to small (variable 4 7) (selector.Field 3 small ∷ []) (num 1) ∷ perform call.Write (shown (letter 120) ∷ []) ∷ perform call.Write (shown (read (variable 4 7) (selector.Field 2 6 ∷ selector.Index (num 2) 6 small ∷ [])) ∷ []) ∷ [])) [] 1 (End (codes "4x") 205 (1 ∷ []))
unfolding run
array_in_a_hidden_variant_in_turbo_and_ucsd = (refl, (refl, tt))

-- following it reads it, and that checks the tag
-- type t = ^integer; var r: record case Boolean of true: (p: t); false: (b: integer) end; begin new(r.p); r.p^ := 3; write(r.p^); r.b := 1; write('x'); r.p^ := 4 end.
pointer_in_a_hidden_variant_in_iso_and_hp : InEach (Iso ∷ Hp ∷ []) (λ d. whole d (Pointer integer ∷ RecordOf false [] (Some (variant_part 1 None boolean (arm (label_of (pos 1) ∷ []) (field 2 5 ∷ []) None ∷ arm (label_of (pos 0) ∷ []) (field 3 integer ∷ []) None ∷ []))) ∷ []) [] [] (of_type 6 4 ∷ []) [] (perform call.New (by_reference (variable 4 6) (selector.Field 2 5 ∷ []) ∷ []) ∷ assign_to integer (variable 4 6) (selector.Field 2 5 ∷ selector.Follow integer ∷ []) (num 3) ∷ perform call.Write (shown (read (variable 4 6) (selector.Field 2 5 ∷ selector.Follow integer ∷ [])) ∷ []) ∷ assign_to integer (variable 4 6) (selector.Field 3 integer ∷ []) (num 1) ∷ perform call.Write (shown (letter 120) ∷ []) ∷ assign_to integer (variable 4 6) (selector.Field 2 5 ∷ selector.Follow integer ∷ []) (num 4) ∷ [])) [] 0 (End (codes "3x") 205 [])
unfolding run
pointer_in_a_hidden_variant_in_iso_and_hp = (refl, (refl, tt))

pointer_in_a_hidden_variant_in_turbo_and_ucsd : InEach (Turbo ∷ Ucsd ∷ []) (λ d. whole d (Pointer small ∷ RecordOf false [] (Some (variant_part 1 None boolean (arm (label_of (pos 1) ∷ []) (field 2 5 ∷ []) None ∷ arm (label_of (pos 0) ∷ []) (field 3 small ∷ []) None ∷ []))) ∷ []) [] [] (of_type 6 4 ∷ []) [] (perform call.New (by_reference (variable 4 6) (selector.Field 2 5 ∷ []) ∷ []) ∷ assign_to small (variable 4 6) (selector.Field 2 5 ∷ selector.Follow small ∷ []) (num 3) ∷ perform call.Write (shown (read (variable 4 6) (selector.Field 2 5 ∷ selector.Follow small ∷ [])) ∷ []) ∷ assign_to small (variable 4 6) (selector.Field 3 small ∷ []) (num 1) ∷ perform call.Write (shown (letter 120) ∷ []) ∷ assign_to small (variable 4 6) (selector.Field 2 5 ∷ selector.Follow small ∷ []) (num 4) ∷ [])) [] 0 (End (codes "3x") 205 [])
unfolding run
pointer_in_a_hidden_variant_in_turbo_and_ucsd = (refl, (refl, tt))

-- var r: record case Boolean of true: (s: record a: integer end); false: (b: integer) end; begin with r.s do begin a := 1; r.b := 2; a := 3 end; write(r.b) end.
with_selects_a_hidden_variant_in_iso_and_hp : InEach (Iso ∷ Hp ∷ []) (λ d. whole d (RecordOf false (field 2 integer ∷ []) None ∷ RecordOf false [] (Some (variant_part 1 None boolean (arm (label_of (pos 1) ∷ []) (field 3 5 ∷ []) None ∷ arm (label_of (pos 0) ∷ []) (field 4 integer ∷ []) None ∷ []))) ∷ []) [] [] (of_type 6 5 ∷ []) [] (with_all (with_part 6 (variable 5 6) (selector.Field 3 5 ∷ []) ∷ []) (seq (assign_to integer (root.WithRef 6 5) (selector.Field 2 integer ∷ []) (num 1) ∷ assign_to integer (variable 5 6) (selector.Field 4 integer ∷ []) (num 2) ∷ assign_to integer (root.WithRef 6 5) (selector.Field 2 integer ∷ []) (num 3) ∷ [])) ∷ perform call.Write (shown (read (variable 5 6) (selector.Field 4 integer ∷ [])) ∷ []) ∷ [])) [] 0 (End (codes "2") 0 [])
unfolding run
with_selects_a_hidden_variant_in_iso_and_hp = (refl, (refl, tt))

with_selects_a_hidden_variant_in_turbo_and_ucsd : InEach (Turbo ∷ Ucsd ∷ []) (λ d. whole d (RecordOf false (field 2 small ∷ []) None ∷ RecordOf false [] (Some (variant_part 1 None boolean (arm (label_of (pos 1) ∷ []) (field 3 5 ∷ []) None ∷ arm (label_of (pos 0) ∷ []) (field 4 small ∷ []) None ∷ []))) ∷ []) [] [] (of_type 6 5 ∷ []) [] (with_all (with_part 6 (variable 5 6) (selector.Field 3 5 ∷ []) ∷ []) (seq (assign_to small (root.WithRef 6 5) (selector.Field 2 small ∷ []) (num 1) ∷ assign_to small (variable 5 6) (selector.Field 4 small ∷ []) (num 2) ∷ assign_to small (root.WithRef 6 5) (selector.Field 2 small ∷ []) (num 3) ∷ [])) ∷ perform call.Write (shown (read (variable 5 6) (selector.Field 4 small ∷ [])) ∷ []) ∷ [])) [] 0 (End (codes "2") 0 [])
unfolding run
with_selects_a_hidden_variant_in_turbo_and_ucsd = (refl, (refl, tt))

-- var a: array [1..2] of array [0..1] of integer; i, j: integer; begin for i := 1 to 2 do for j := 0 to 1 do a[i][j] := 10 * i + j; write(a[1, 0], a[1][1], a[2, 0], a[2, 1]); a[1] := a[2]; write(a[1, 1]) end.
arrays_of_arrays_in_iso_and_hp : InEach (Iso ∷ Hp ∷ []) (λ d. whole d (Ordinal WholeHost (pos 1) (pos 2) ∷ Ordinal WholeHost (pos 0) (pos 1) ∷ Array false 6 integer ∷ Array false 5 7 ∷ []) [] [] (of_type 8 1 ∷ of_type integer 2 ∷ of_type integer 3 ∷ []) [] (for_of integer 2 false (num 1) (num 2) (for_of integer 3 false (num 0) (num 1) (assign_to integer (variable 1 8) (selector.Index (read (variable 2 integer) []) 8 7 ∷ selector.Index (read (variable 3 integer) []) 7 integer ∷ []) (chain (chain (num 10) ((op.Mul, read (variable 2 integer) [], integer) ∷ [])) ((op.Add, read (variable 3 integer) [], integer) ∷ [])))) ∷ perform call.Write (shown (read (variable 1 8) (selector.Index (num 1) 8 7 ∷ selector.Index (num 0) 7 integer ∷ [])) ∷ shown (read (variable 1 8) (selector.Index (num 1) 8 7 ∷ selector.Index (num 1) 7 integer ∷ [])) ∷ shown (read (variable 1 8) (selector.Index (num 2) 8 7 ∷ selector.Index (num 0) 7 integer ∷ [])) ∷ shown (read (variable 1 8) (selector.Index (num 2) 8 7 ∷ selector.Index (num 1) 7 integer ∷ [])) ∷ []) ∷ assign_to 7 (variable 1 8) (selector.Index (num 1) 8 7 ∷ []) (read (variable 1 8) (selector.Index (num 2) 8 7 ∷ [])) ∷ perform call.Write (shown (read (variable 1 8) (selector.Index (num 1) 8 7 ∷ selector.Index (num 1) 7 integer ∷ [])) ∷ []) ∷ [])) [] 9 (End (codes "1011202121") 0 [])
unfolding run
arrays_of_arrays_in_iso_and_hp = (refl, (refl, tt))

arrays_of_arrays_in_turbo_and_ucsd : InEach (Turbo ∷ Ucsd ∷ []) (λ d. whole d (Ordinal WholeHost (pos 1) (pos 2) ∷ Ordinal WholeHost (pos 0) (pos 1) ∷ Array false 6 small ∷ Array false 5 7 ∷ []) [] [] (of_type 8 1 ∷ of_type small 2 ∷ of_type small 3 ∷ []) [] (for_of small 2 false (num 1) (num 2) (for_of small 3 false (num 0) (num 1) (assign_to small (variable 1 8) (selector.Index (read (variable 2 small) []) 8 7 ∷ selector.Index (read (variable 3 small) []) 7 small ∷ []) (chain (chain (num 10) ((op.Mul, read (variable 2 small) [], small) ∷ [])) ((op.Add, read (variable 3 small) [], small) ∷ [])))) ∷ perform call.Write (shown (read (variable 1 8) (selector.Index (num 1) 8 7 ∷ selector.Index (num 0) 7 small ∷ [])) ∷ shown (read (variable 1 8) (selector.Index (num 1) 8 7 ∷ selector.Index (num 1) 7 small ∷ [])) ∷ shown (read (variable 1 8) (selector.Index (num 2) 8 7 ∷ selector.Index (num 0) 7 small ∷ [])) ∷ shown (read (variable 1 8) (selector.Index (num 2) 8 7 ∷ selector.Index (num 1) 7 small ∷ [])) ∷ []) ∷ assign_to 7 (variable 1 8) (selector.Index (num 1) 8 7 ∷ []) (read (variable 1 8) (selector.Index (num 2) 8 7 ∷ [])) ∷ perform call.Write (shown (read (variable 1 8) (selector.Index (num 1) 8 7 ∷ selector.Index (num 1) 7 small ∷ [])) ∷ []) ∷ [])) [] 9 (End (codes "1011202121") 0 [])
unfolding run
arrays_of_arrays_in_turbo_and_ucsd = (refl, (refl, tt))

-- type t = ^r; r = record a: integer end; function f: t; var p: t; begin new(p); p^.a := 8; f := p end; var q: t; begin q := f; write(q^.a) end.
function_with_a_pointer_result_in_iso_and_hp : InEach (Iso ∷ Hp ∷ []) (λ d. whole d (Pointer 6 ∷ RecordOf false (field 1 integer ∷ []) None ∷ []) (function 1 Program [] (of_type 5 2) (of_type 5 3 ∷ []) (perform call.New (by_reference (variable 3 5) [] ∷ []) ∷ assign_to integer (variable 3 5) (selector.Follow 6 ∷ selector.Field 1 integer ∷ []) (num 8) ∷ assign_to 5 (outcome 2 5) [] (read (variable 3 5) []) ∷ []) ∷ []) [] (of_type 5 4 ∷ []) [] (assign_to 5 (variable 4 5) [] (call (CalleeRoutine 1) [] 5) ∷ perform call.Write (shown (read (variable 4 5) (selector.Follow 6 ∷ selector.Field 1 integer ∷ [])) ∷ []) ∷ [])) [] 1 (End (codes "8") 0 (1 ∷ []))
unfolding run
function_with_a_pointer_result_in_iso_and_hp = (refl, (refl, tt))

function_with_a_pointer_result_in_turbo_and_ucsd : InEach (Turbo ∷ Ucsd ∷ []) (λ d. whole d (Pointer 6 ∷ RecordOf false (field 1 small ∷ []) None ∷ []) (function 1 Program [] (of_type 5 2) (of_type 5 3 ∷ []) (perform call.New (by_reference (variable 3 5) [] ∷ []) ∷ assign_to small (variable 3 5) (selector.Follow 6 ∷ selector.Field 1 small ∷ []) (num 8) ∷ assign_to 5 (outcome 2 5) [] (read (variable 3 5) []) ∷ []) ∷ []) [] (of_type 5 4 ∷ []) [] (assign_to 5 (variable 4 5) [] (call (CalleeRoutine 1) [] 5) ∷ perform call.Write (shown (read (variable 4 5) (selector.Follow 6 ∷ selector.Field 1 small ∷ [])) ∷ []) ∷ [])) [] 1 (End (codes "8") 0 (1 ∷ []))
unfolding run
function_with_a_pointer_result_in_turbo_and_ucsd = (refl, (refl, tt))

-- function twice(function f(n: integer): integer; n: integer): integer; begin twice := f(f(n)) end; function inc1(n: integer): integer; begin inc1 := n + 1 end; begin write(twice(inc1, 5)) end.
functions_as_arguments_in_iso_and_hp : InEach (Iso ∷ Hp ∷ []) (λ d. whole d [] (function 1 Program (section_functions integer (2 ∷ []) ∷ section integer (3 ∷ []) ∷ []) (of_type integer 1) [] (assign_to integer (outcome 1 integer) [] (call (Formal 2) (value_for integer (call (Formal 2) (value_for integer (read (variable 3 integer) []) ∷ []) integer) ∷ []) integer) ∷ []) ∷ function 2 Program (section integer (5 ∷ []) ∷ []) (of_type integer 4) [] (assign_to integer (outcome 4 integer) [] (chain (read (variable 5 integer) []) ((op.Add, num 1, integer) ∷ [])) ∷ []) ∷ []) [] [] [] (perform call.Write (shown (call (CalleeRoutine 1) (arg.RoutineValue (CalleeRoutine 2) ∷ value_for integer (num 5) ∷ []) integer) ∷ []) ∷ [])) [] 3 (End (codes "7") 0 (1 ∷ 2 ∷ 2 ∷ []))
unfolding run
functions_as_arguments_in_iso_and_hp = (refl, (refl, tt))

functions_as_arguments_in_turbo_and_ucsd : InEach (Turbo ∷ Ucsd ∷ []) (λ d. whole d [] (function 1 Program (section_functions small (2 ∷ []) ∷ section small (3 ∷ []) ∷ []) (of_type small 1) [] (assign_to small (outcome 1 small) [] (call (Formal 2) (value_for small (call (Formal 2) (value_for small (read (variable 3 small) []) ∷ []) small) ∷ []) small) ∷ []) ∷ function 2 Program (section small (5 ∷ []) ∷ []) (of_type small 4) [] (assign_to small (outcome 4 small) [] (chain (read (variable 5 small) []) ((op.Add, num 1, small) ∷ [])) ∷ []) ∷ []) [] [] [] (perform call.Write (shown (call (CalleeRoutine 1) (arg.RoutineValue (CalleeRoutine 2) ∷ value_for small (num 5) ∷ []) small) ∷ []) ∷ [])) [] 3 (End (codes "7") 0 (1 ∷ 2 ∷ 2 ∷ []))
unfolding run
functions_as_arguments_in_turbo_and_ucsd = (refl, (refl, tt))

-- the loop of the newer activation is left for good
-- procedure o; label 1; var n: integer; procedure a; procedure b; begin n := n + 1; if n < 3 then goto 1 end; begin while true do b end; begin n := 0; 1: write(n); if n < 2 then a; write('e') end; begin o end.
goto_out_of_two_routines_and_a_loop_in_iso_and_hp : InEach (Iso ∷ Hp ∷ []) (λ d. whole d [] (procedure 1 Program [] (of_type integer 2 ∷ []) (1 ∷ []) (assign_to integer (variable 2 integer) [] (num 0) ∷ labelled 1 (perform call.Write (shown (read (variable 2 integer) []) ∷ [])) ∷ if_then (chain (read (variable 2 integer) []) ((op.Less, num 2, boolean) ∷ [])) (S.Call (CalleeRoutine 2) []) ∷ perform call.Write (shown (letter 101) ∷ []) ∷ []) ∷ procedure 2 (Owner.Routine 1) [] [] [] (while (truth 1) (S.Call (CalleeRoutine 3) []) ∷ []) ∷ procedure 3 (Owner.Routine 2) [] [] [] (assign_to integer (variable 2 integer) [] (chain (read (variable 2 integer) []) ((op.Add, num 1, integer) ∷ [])) ∷ if_then (chain (read (variable 2 integer) []) ((op.Less, num 3, boolean) ∷ [])) (S.Goto 1) ∷ []) ∷ []) [] [] [] (S.Call (CalleeRoutine 1) [] ∷ [])) [] 12 (End (codes "012e") 0 (1 ∷ 2 ∷ 3 ∷ 2 ∷ 3 ∷ []))
unfolding run
goto_out_of_two_routines_and_a_loop_in_iso_and_hp = (refl, (refl, tt))

goto_out_of_two_routines_and_a_loop_in_turbo_and_ucsd : InEach (Turbo ∷ Ucsd ∷ []) (λ d. whole d [] (procedure 1 Program [] (of_type small 2 ∷ []) (1 ∷ []) (assign_to small (variable 2 small) [] (num 0) ∷ labelled 1 (perform call.Write (shown (read (variable 2 small) []) ∷ [])) ∷ if_then (chain (read (variable 2 small) []) ((op.Less, num 2, boolean) ∷ [])) (S.Call (CalleeRoutine 2) []) ∷ perform call.Write (shown (letter 101) ∷ []) ∷ []) ∷ procedure 2 (Owner.Routine 1) [] [] [] (while (truth 1) (S.Call (CalleeRoutine 3) []) ∷ []) ∷ procedure 3 (Owner.Routine 2) [] [] [] (assign_to small (variable 2 small) [] (chain (read (variable 2 small) []) ((op.Add, num 1, small) ∷ [])) ∷ if_then (chain (read (variable 2 small) []) ((op.Less, num 3, boolean) ∷ [])) (S.Goto 1) ∷ []) ∷ []) [] [] [] (S.Call (CalleeRoutine 1) [] ∷ [])) [] 12 (End (codes "012e") 0 (1 ∷ 2 ∷ 3 ∷ 2 ∷ 3 ∷ []))
unfolding run
goto_out_of_two_routines_and_a_loop_in_turbo_and_ucsd = (refl, (refl, tt))

-- type c = (red, green, blue); var s: set of c; x: c; begin s := [red, blue]; for x := red to blue do write(x in s); write(s * [green] = []) end.
set_of_an_enumeration : InEach (Iso ∷ Turbo ∷ Ucsd ∷ Hp ∷ []) (λ d. whole d (Ordinal (Enumeration 5) (pos 0) (pos 2) ∷ set_of 5 ∷ SetType Either (Some 5) ∷ SetType Either None ∷ []) [] [] (of_type 6 1 ∷ of_type 5 2 ∷ []) [] (assign_to 6 (variable 1 6) [] (set 7 ((X.Number (pos 0) 5, None) ∷ (X.Number (pos 2) 5, None) ∷ [])) ∷ for_of 5 2 false (X.Number (pos 0) 5) (X.Number (pos 2) 5) (perform call.Write (shown (chain (read (variable 2 5) []) ((op.Member, read (variable 1 6) [], boolean) ∷ [])) ∷ [])) ∷ perform call.Write (shown (chain (chain (read (variable 1 6) []) ((op.Intersection, set 7 ((X.Number (pos 1) 5, None) ∷ []), 6) ∷ [])) ((op.Equal, set 8 [], boolean) ∷ [])) ∷ []) ∷ [])) [] 5 (End (codes "TRUEFALSETRUETRUE") 0 [])
unfolding run
set_of_an_enumeration = (refl, (refl, (refl, (refl, tt))))

-- var c: char; begin for c := 'a' to 'e' do case c of 'a', 'e': write('v'); 'b', 'c', 'd': write('k') end end.
case_over_characters : InEach (Iso ∷ Turbo ∷ Ucsd ∷ Hp ∷ []) (λ d. whole d [] [] [] (of_type char 1 ∷ []) [] (for_of char 1 false (letter 97) (letter 101) (case_of (read (variable 1 char) []) (((label_of (pos 97) ∷ label_of (pos 101) ∷ []), perform call.Write (shown (letter 118) ∷ [])) ∷ ((label_of (pos 98) ∷ label_of (pos 99) ∷ label_of (pos 100) ∷ []), perform call.Write (shown (letter 107) ∷ [])) ∷ [])) ∷ [])) [] 5 (End (codes "vkkkv") 0 [])
unfolding run
case_over_characters = (refl, (refl, (refl, (refl, tt))))

-- var s: string[5]; begin s := 'abc'; write(s = 'abc', s < 'abd', s > 'ab', s <> '') end.
string_compared_with_a_literal : InEach (Turbo ∷ Ucsd ∷ Hp ∷ []) (λ d. whole d (DynString 5 ∷ Literal 3 ∷ Literal 2 ∷ Literal 0 ∷ []) [] [] (of_type 5 1 ∷ []) [] (assign_to 5 (variable 1 5) [] (quoted 6 (codes "abc")) ∷ perform call.Write (shown (chain (read (variable 1 5) []) ((op.Equal, quoted 6 (codes "abc"), boolean) ∷ [])) ∷ shown (chain (read (variable 1 5) []) ((op.Less, quoted 6 (codes "abd"), boolean) ∷ [])) ∷ shown (chain (read (variable 1 5) []) ((op.Greater, quoted 7 (codes "ab"), boolean) ∷ [])) ∷ shown (chain (read (variable 1 5) []) ((op.Unequal, quoted 8 [], boolean) ∷ [])) ∷ []) ∷ [])) [] 0 (End (codes "TRUETRUETRUETRUE") 0 [])
unfolding run
string_compared_with_a_literal = (refl, (refl, (refl, tt)))

-- type t = string[3]; var s: t; procedure p(x: t); begin x := 'zz'; write(x) end; begin s := 'ab'; p(s); write(s) end.
value_parameter_of_a_string_keeps_its_argument : InEach (Turbo ∷ Ucsd ∷ Hp ∷ []) (λ d. whole d (DynString 3 ∷ Literal 2 ∷ []) (procedure 1 Program (section 5 (2 ∷ []) ∷ []) [] [] (assign_to 5 (variable 2 5) [] (quoted 6 (codes "zz")) ∷ perform call.Write (shown (read (variable 2 5) []) ∷ []) ∷ []) ∷ []) [] (of_type 5 1 ∷ []) [] (assign_to 5 (variable 1 5) [] (quoted 6 (codes "ab")) ∷ S.Call (CalleeRoutine 1) (value_for 5 (read (variable 1 5) []) ∷ []) ∷ perform call.Write (shown (read (variable 1 5) []) ∷ []) ∷ [])) [] 1 (End (codes "zzab") 0 (1 ∷ []))
unfolding run
value_parameter_of_a_string_keeps_its_argument = (refl, (refl, (refl, tt)))

-- type t = string[3]; var s: t; procedure p(var x: t); begin x := 'zz' end; begin s := 'abc'; p(s); write(s) end.
string_by_reference : InEach (Turbo ∷ Ucsd ∷ Hp ∷ []) (λ d. whole d (DynString 3 ∷ Literal 2 ∷ Literal 3 ∷ []) (procedure 1 Program (section_var 5 (2 ∷ []) ∷ []) [] [] (assign_to 5 (variable 2 5) [] (quoted 6 (codes "zz")) ∷ []) ∷ []) [] (of_type 5 1 ∷ []) [] (assign_to 5 (variable 1 5) [] (quoted 7 (codes "abc")) ∷ S.Call (CalleeRoutine 1) (by_reference (variable 1 5) [] ∷ []) ∷ perform call.Write (shown (read (variable 1 5) []) ∷ []) ∷ [])) [] 1 (End (codes "zz") 0 (1 ∷ []))
unfolding run
string_by_reference = (refl, (refl, (refl, tt)))

-- the innermost one catches, and gotos pass both
-- label 1; procedure p(n: integer); begin if n = 0 then escape(9) else p(n - 1) end; begin try try p(2) recover begin write('a', escapecode); goto 1 end recover write('no'); write('no'); 1: write('b') end.
nested_tries : run (whole Hp (Literal 2 ∷ []) (procedure 1 Program (section integer (2 ∷ []) ∷ []) [] [] (if_else (chain (read (variable 2 integer) []) ((op.Equal, num 0, boolean) ∷ [])) (perform call.Escape (value_for integer (num 9) ∷ [])) (S.Call (CalleeRoutine 1) (value_for integer (chain (read (variable 2 integer) []) ((op.Sub, num 1, integer) ∷ [])) ∷ [])) ∷ []) ∷ []) [] [] (1 ∷ []) (try (try (S.Call (CalleeRoutine 1) (value_for integer (num 2) ∷ []) ∷ []) (seq (perform call.Write (shown (letter 97) ∷ shown (predefined call.EscapeCode [] integer) ∷ []) ∷ S.Goto 1 ∷ [])) ∷ []) (perform call.Write (shown (quoted 5 (codes "no")) ∷ [])) ∷ perform call.Write (shown (quoted 5 (codes "no")) ∷ []) ∷ labelled 1 (perform call.Write (shown (letter 98) ∷ [])) ∷ [])) [] 5 ≡ End (codes "a9b") 0 (1 ∷ 1 ∷ 1 ∷ [])
unfolding run
nested_tries = refl

-- the activation that is left ends normally, and its result is read
-- function f: integer; procedure g; begin exit(f) end; begin f := 4; g; f := 5 end; begin write(f) end.
exit_of_a_function_by_an_inner_routine : run (whole Ucsd [] (function 1 Program [] (of_type small 1) [] (assign_to small (outcome 1 small) [] (num 4) ∷ S.Call (CalleeRoutine 2) [] ∷ assign_to small (outcome 1 small) [] (num 5) ∷ []) ∷ procedure 2 (Owner.Routine 1) [] [] [] (perform call.ExitRoutine (arg.RoutineValue (CalleeRoutine 1) ∷ []) ∷ []) ∷ []) [] [] [] (perform call.Write (shown (call (CalleeRoutine 1) [] small) ∷ []) ∷ [])) [] 2 ≡ End (codes "4") 0 (1 ∷ 2 ∷ [])
unfolding run
exit_of_a_function_by_an_inner_routine = refl

-- label 1; function f: integer; begin goto 1; f := 1 end; begin write('a'); write(f); 1: write('b') end.
goto_reads_no_result_in_iso_and_hp : InEach (Iso ∷ Hp ∷ []) (λ d. whole d [] (function 1 Program [] (of_type integer 2) [] (S.Goto 1 ∷ assign_to integer (outcome 2 integer) [] (num 1) ∷ []) ∷ []) [] [] (1 ∷ []) (perform call.Write (shown (letter 97) ∷ []) ∷ perform call.Write (shown (call (CalleeRoutine 1) [] integer) ∷ []) ∷ labelled 1 (perform call.Write (shown (letter 98) ∷ [])) ∷ [])) [] 2 (End (codes "ab") 0 (1 ∷ []))
unfolding run
goto_reads_no_result_in_iso_and_hp = (refl, (refl, tt))

goto_reads_no_result_in_turbo_and_ucsd : InEach (Turbo ∷ Ucsd ∷ []) (λ d. whole d [] (function 1 Program [] (of_type small 2) [] (S.Goto 1 ∷ assign_to small (outcome 2 small) [] (num 1) ∷ []) ∷ []) [] [] (1 ∷ []) (perform call.Write (shown (letter 97) ∷ []) ∷ perform call.Write (shown (call (CalleeRoutine 1) [] small) ∷ []) ∷ labelled 1 (perform call.Write (shown (letter 98) ∷ [])) ∷ [])) [] 2 (End (codes "ab") 0 (1 ∷ []))
unfolding run
goto_reads_no_result_in_turbo_and_ucsd = (refl, (refl, tt))

-- var i, n: integer; begin n := 3; for i := 1 to n do begin n := 1; write(i) end end.
last_limit_is_not_evaluated_again_in_iso_and_hp : InEach (Iso ∷ Hp ∷ []) (λ d. whole d [] [] [] (of_type integer 1 ∷ of_type integer 2 ∷ []) [] (assign_to integer (variable 2 integer) [] (num 3) ∷ for_of integer 1 false (num 1) (read (variable 2 integer) []) (seq (assign_to integer (variable 2 integer) [] (num 1) ∷ perform call.Write (shown (read (variable 1 integer) []) ∷ []) ∷ [])) ∷ [])) [] 3 (End (codes "123") 0 [])
unfolding run
last_limit_is_not_evaluated_again_in_iso_and_hp = (refl, (refl, tt))

last_limit_is_not_evaluated_again_in_turbo_and_ucsd : InEach (Turbo ∷ Ucsd ∷ []) (λ d. whole d [] [] [] (of_type small 1 ∷ of_type small 2 ∷ []) [] (assign_to small (variable 2 small) [] (num 3) ∷ for_of small 1 false (num 1) (read (variable 2 small) []) (seq (assign_to small (variable 2 small) [] (num 1) ∷ perform call.Write (shown (read (variable 1 small) []) ∷ []) ∷ [])) ∷ [])) [] 3 (End (codes "123") 0 [])
unfolding run
last_limit_is_not_evaluated_again_in_turbo_and_ucsd = (refl, (refl, tt))

-- f makes the string longer
-- var s: string[5]; function f: integer; begin s := 'abc'; f := 3 end; begin s := 'a'; s[f] := 'z'; write(s) end.
length_is_read_after_the_index_in_ucsd : run (whole Ucsd (DynString 5 ∷ Literal 3 ∷ []) (function 1 Program [] (of_type small 2) [] (assign_to 5 (variable 1 5) [] (quoted 6 (codes "abc")) ∷ assign_to small (outcome 2 small) [] (num 3) ∷ []) ∷ []) [] (of_type 5 1 ∷ []) [] (assign_to 5 (variable 1 5) [] (letter 97) ∷ assign_to char (variable 1 5) (selector.Index (call (CalleeRoutine 1) [] small) 5 char ∷ []) (letter 122) ∷ perform call.Write (shown (read (variable 1 5) []) ∷ []) ∷ [])) [] 1 ≡ End (codes "abz") 0 (1 ∷ [])
unfolding run
length_is_read_after_the_index_in_ucsd = refl

length_is_read_after_the_index_in_hp : run (whole Hp (DynString 5 ∷ Literal 3 ∷ []) (function 1 Program [] (of_type integer 2) [] (assign_to 5 (variable 1 5) [] (quoted 6 (codes "abc")) ∷ assign_to integer (outcome 2 integer) [] (num 3) ∷ []) ∷ []) [] (of_type 5 1 ∷ []) [] (assign_to 5 (variable 1 5) [] (letter 97) ∷ assign_to char (variable 1 5) (selector.Index (call (CalleeRoutine 1) [] integer) 5 char ∷ []) (letter 122) ∷ perform call.Write (shown (read (variable 1 5) []) ∷ []) ∷ [])) [] 1 ≡ End (codes "abz") 0 (1 ∷ [])
unfolding run
length_is_read_after_the_index_in_hp = refl

-- f changes the variable after it was copied
-- var s: string[5]; function f: char; begin s := 'b'; f := 'a' end; begin s := 'a'; write(s = f, s) end.
left_text_was_copied : InEach (Turbo ∷ Ucsd ∷ Hp ∷ []) (λ d. whole d (DynString 5 ∷ []) (function 1 Program [] (of_type char 2) [] (assign_to 5 (variable 1 5) [] (letter 98) ∷ assign_to char (outcome 2 char) [] (letter 97) ∷ []) ∷ []) [] (of_type 5 1 ∷ []) [] (assign_to 5 (variable 1 5) [] (letter 97) ∷ perform call.Write (shown (chain (read (variable 1 5) []) ((op.Equal, call (CalleeRoutine 1) [] char, boolean) ∷ [])) ∷ shown (read (variable 1 5) []) ∷ []) ∷ [])) [] 1 (End (codes "TRUEb") 0 (1 ∷ []))
unfolding run
left_text_was_copied = (refl, (refl, (refl, tt)))

-- begin write('x'); dispose(nil) end.
dispose_of_nil_itself : InEach (Iso ∷ Turbo ∷ Ucsd ∷ Hp ∷ []) (λ d. whole d [] [] [] [] [] (perform call.Write (shown (letter 120) ∷ []) ∷ perform call.Dispose (value_for text (X.Nil) ∷ []) ∷ [])) [] 0 (End (codes "x") 202 [])
unfolding run
dispose_of_nil_itself = (refl, (refl, (refl, (refl, tt))))

-- each activation has its own reference
-- var a: array [1..3] of record x: integer end; procedure p(n: integer); begin with a[n] do begin x := n; if n < 3 then p(n + 1); write(x) end end; begin p(1) end.
with_in_a_recursive_routine_in_iso_and_hp : InEach (Iso ∷ Hp ∷ []) (λ d. whole d (Ordinal WholeHost (pos 1) (pos 3) ∷ RecordOf false (field 1 integer ∷ []) None ∷ Array false 5 6 ∷ []) (procedure 1 Program (section integer (3 ∷ []) ∷ []) [] [] (with_all (with_part 4 (variable 2 7) (selector.Index (read (variable 3 integer) []) 7 6 ∷ []) ∷ []) (seq (assign_to integer (root.WithRef 4 6) (selector.Field 1 integer ∷ []) (read (variable 3 integer) []) ∷ if_then (chain (read (variable 3 integer) []) ((op.Less, num 3, boolean) ∷ [])) (S.Call (CalleeRoutine 1) (value_for integer (chain (read (variable 3 integer) []) ((op.Add, num 1, integer) ∷ [])) ∷ [])) ∷ perform call.Write (shown (read (root.WithRef 4 6) (selector.Field 1 integer ∷ [])) ∷ []) ∷ [])) ∷ []) ∷ []) [] (of_type 7 2 ∷ []) [] (S.Call (CalleeRoutine 1) (value_for integer (num 1) ∷ []) ∷ [])) [] 3 (End (codes "321") 0 (1 ∷ 1 ∷ 1 ∷ []))
unfolding run
with_in_a_recursive_routine_in_iso_and_hp = (refl, (refl, tt))

with_in_a_recursive_routine_in_turbo_and_ucsd : InEach (Turbo ∷ Ucsd ∷ []) (λ d. whole d (Ordinal WholeHost (pos 1) (pos 3) ∷ RecordOf false (field 1 small ∷ []) None ∷ Array false 5 6 ∷ []) (procedure 1 Program (section small (3 ∷ []) ∷ []) [] [] (with_all (with_part 4 (variable 2 7) (selector.Index (read (variable 3 small) []) 7 6 ∷ []) ∷ []) (seq (assign_to small (root.WithRef 4 6) (selector.Field 1 small ∷ []) (read (variable 3 small) []) ∷ if_then (chain (read (variable 3 small) []) ((op.Less, num 3, boolean) ∷ [])) (S.Call (CalleeRoutine 1) (value_for small (chain (read (variable 3 small) []) ((op.Add, num 1, small) ∷ [])) ∷ [])) ∷ perform call.Write (shown (read (root.WithRef 4 6) (selector.Field 1 small ∷ [])) ∷ []) ∷ [])) ∷ []) ∷ []) [] (of_type 7 2 ∷ []) [] (S.Call (CalleeRoutine 1) (value_for small (num 1) ∷ []) ∷ [])) [] 3 (End (codes "321") 0 (1 ∷ 1 ∷ 1 ∷ []))
unfolding run
with_in_a_recursive_routine_in_turbo_and_ucsd = (refl, (refl, tt))

-- var i: integer; begin i := 1; try i := 1 div 0 recover write(i) end.
error_in_a_value_leaves_the_target : run (whole Hp [] [] [] (of_type integer 1 ∷ []) [] (assign_to integer (variable 1 integer) [] (num 1) ∷ try (assign_to integer (variable 1 integer) [] (chain (num 1) ((op.Div, num 0, integer) ∷ [])) ∷ []) (perform call.Write (shown (read (variable 1 integer) []) ∷ [])) ∷ [])) [] 0 ≡ End (codes "1") 0 []
unfolding run
error_in_a_value_leaves_the_target = refl

-- procedure p(n: integer); begin write('p') end; begin write('x'); p(1 div 0) end.
error_in_an_argument_enters_no_routine_in_iso_and_hp : InEach (Iso ∷ Hp ∷ []) (λ d. whole d [] (procedure 1 Program (section integer (1 ∷ []) ∷ []) [] [] (perform call.Write (shown (letter 112) ∷ []) ∷ []) ∷ []) [] [] [] (perform call.Write (shown (letter 120) ∷ []) ∷ S.Call (CalleeRoutine 1) (value_for integer (chain (num 1) ((op.Div, num 0, integer) ∷ [])) ∷ []) ∷ [])) [] 1 (End (codes "x") 200 [])
unfolding run
error_in_an_argument_enters_no_routine_in_iso_and_hp = (refl, (refl, tt))

error_in_an_argument_enters_no_routine_in_turbo_and_ucsd : InEach (Turbo ∷ Ucsd ∷ []) (λ d. whole d [] (procedure 1 Program (section small (1 ∷ []) ∷ []) [] [] (perform call.Write (shown (letter 112) ∷ []) ∷ []) ∷ []) [] [] [] (perform call.Write (shown (letter 120) ∷ []) ∷ S.Call (CalleeRoutine 1) (value_for small (chain (num 1) ((op.Div, num 0, small) ∷ [])) ∷ []) ∷ [])) [] 1 (End (codes "x") 200 [])
unfolding run
error_in_an_argument_enters_no_routine_in_turbo_and_ucsd = (refl, (refl, tt))

-- each component has its own
-- var a: array [1..2] of record case Boolean of true: (x: integer); false: (y: integer) end; begin a[1].x := 1; a[2].y := 2; write(a[1].x, a[2].y); write(a[2].x) end.
hidden_tag_of_an_array_component_in_iso_and_hp : InEach (Iso ∷ Hp ∷ []) (λ d. whole d (Ordinal WholeHost (pos 1) (pos 2) ∷ RecordOf false [] (Some (variant_part 1 None boolean (arm (label_of (pos 1) ∷ []) (field 2 integer ∷ []) None ∷ arm (label_of (pos 0) ∷ []) (field 3 integer ∷ []) None ∷ []))) ∷ Array false 5 6 ∷ []) [] [] (of_type 7 4 ∷ []) [] (assign_to integer (variable 4 7) (selector.Index (num 1) 7 6 ∷ selector.Field 2 integer ∷ []) (num 1) ∷ assign_to integer (variable 4 7) (selector.Index (num 2) 7 6 ∷ selector.Field 3 integer ∷ []) (num 2) ∷ perform call.Write (shown (read (variable 4 7) (selector.Index (num 1) 7 6 ∷ selector.Field 2 integer ∷ [])) ∷ shown (read (variable 4 7) (selector.Index (num 2) 7 6 ∷ selector.Field 3 integer ∷ [])) ∷ []) ∷ perform call.Write (shown (read (variable 4 7) (selector.Index (num 2) 7 6 ∷ selector.Field 2 integer ∷ [])) ∷ []) ∷ [])) [] 0 (End (codes "12") 205 [])
unfolding run
hidden_tag_of_an_array_component_in_iso_and_hp = (refl, (refl, tt))

hidden_tag_of_an_array_component_in_turbo_and_ucsd : InEach (Turbo ∷ Ucsd ∷ []) (λ d. whole d (Ordinal WholeHost (pos 1) (pos 2) ∷ RecordOf false [] (Some (variant_part 1 None boolean (arm (label_of (pos 1) ∷ []) (field 2 small ∷ []) None ∷ arm (label_of (pos 0) ∷ []) (field 3 small ∷ []) None ∷ []))) ∷ Array false 5 6 ∷ []) [] [] (of_type 7 4 ∷ []) [] (assign_to small (variable 4 7) (selector.Index (num 1) 7 6 ∷ selector.Field 2 small ∷ []) (num 1) ∷ assign_to small (variable 4 7) (selector.Index (num 2) 7 6 ∷ selector.Field 3 small ∷ []) (num 2) ∷ perform call.Write (shown (read (variable 4 7) (selector.Index (num 1) 7 6 ∷ selector.Field 2 small ∷ [])) ∷ shown (read (variable 4 7) (selector.Index (num 2) 7 6 ∷ selector.Field 3 small ∷ [])) ∷ []) ∷ perform call.Write (shown (read (variable 4 7) (selector.Index (num 2) 7 6 ∷ selector.Field 2 small ∷ [])) ∷ []) ∷ [])) [] 0 (End (codes "12") 205 [])
unfolding run
hidden_tag_of_an_array_component_in_turbo_and_ucsd = (refl, (refl, tt))
