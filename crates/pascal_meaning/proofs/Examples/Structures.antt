-- Arrays, records, variants and `with`.
use Rattle.std.proofs.Common.{◌≡◌, [], ◌∷◌, refl, true, false, Some, None}
use Rattle.std.specs.Prelude.{codes, pos, negsuc}
use Rattle.p2c_text.specs.declared.dialect.Dialect.TheVariants.{Iso, Turbo, Ucsd, Hp}
use Rattle.typed_tree.specs.declared.types.Host.TheVariants.{Whole as WholeHost, Char as CharHost}
use Rattle.typed_tree.specs.declared.types.PasType.TheVariants.{Ordinal, Array, Literal, RecordOf}
use Rattle.typed_tree.specs.declared.declarations.Callee.TheVariants.{Routine as CalleeRoutine}
use Rattle.typed_tree.specs.declared.declarations.Owner.TheVariants.{Program}
use Rattle.typed_tree.specs.declared.expressions.Root.TheVariants as root
use Rattle.typed_tree.specs.declared.expressions.Selector.TheVariants as selector
use Rattle.typed_tree.specs.declared.operations.BinaryOp.TheVariants as op
use Rattle.typed_tree.specs.declared.operations.UnaryOp.TheVariants as un
use Rattle.typed_tree.specs.declared.operations.PredefCall.TheVariants as call
use Rattle.typed_tree.specs.declared.statements.TypedStmt as S
use Rattle.meanings.specs.Code.{End, UndefinedAfter}
use Rattle.pascal_meaning.specs.Whole.{run}
use Rattle.pascal_meaning.proofs.Examples.Build.{integer, small, char, boolean, field, label_of, arm, variant_part, num, letter, truth, quoted, unary, chain, read, variable, outcome, call, predefined, value_for, by_reference, shown, assign_to, seq, for_of, with_part, with_all, perform, of_type, section_var, procedure, function, whole, InEach}

-- reading a field of the other variant is an error
-- var r: record case Boolean of true: (a: integer); false: (b: integer) end; begin r.a := 1; write(r.a); write(r.b) end.
hidden_tag_is_selected_by_a_store_in_iso_and_hp : InEach (Iso ∷ Hp ∷ []) (λ d. whole d (RecordOf false [] (Some (variant_part 1 None boolean (arm (label_of (pos 1) ∷ []) (field 2 integer ∷ []) None ∷ arm (label_of (pos 0) ∷ []) (field 3 integer ∷ []) None ∷ []))) ∷ []) [] [] (of_type 5 4 ∷ []) [] (assign_to integer (variable 4 5) (selector.Field 2 integer ∷ []) (num 1) ∷ perform call.Write (shown (read (variable 4 5) (selector.Field 2 integer ∷ [])) ∷ []) ∷ perform call.Write (shown (read (variable 4 5) (selector.Field 3 integer ∷ [])) ∷ []) ∷ [])) [] 0 (End (codes "1") 205 [])
unfolding run
hidden_tag_is_selected_by_a_store_in_iso_and_hp = (refl, (refl, tt))

hidden_tag_is_selected_by_a_store_in_turbo_and_ucsd : InEach (Turbo ∷ Ucsd ∷ []) (λ d. whole d (RecordOf false [] (Some (variant_part 1 None boolean (arm (label_of (pos 1) ∷ []) (field 2 small ∷ []) None ∷ arm (label_of (pos 0) ∷ []) (field 3 small ∷ []) None ∷ []))) ∷ []) [] [] (of_type 5 4 ∷ []) [] (assign_to small (variable 4 5) (selector.Field 2 small ∷ []) (num 1) ∷ perform call.Write (shown (read (variable 4 5) (selector.Field 2 small ∷ [])) ∷ []) ∷ perform call.Write (shown (read (variable 4 5) (selector.Field 3 small ∷ [])) ∷ []) ∷ [])) [] 0 (End (codes "1") 205 [])
unfolding run
hidden_tag_is_selected_by_a_store_in_turbo_and_ucsd = (refl, (refl, tt))

-- the field of the other variant is undefined then
-- var r: record case Boolean of true: (a: integer); false: (b: integer) end; begin r.a := 1; r.b := 2; write(r.b); r.a := 3; write(r.a); write(r.b) end.
hidden_tag_changes_in_iso_and_hp : InEach (Iso ∷ Hp ∷ []) (λ d. whole d (RecordOf false [] (Some (variant_part 1 None boolean (arm (label_of (pos 1) ∷ []) (field 2 integer ∷ []) None ∷ arm (label_of (pos 0) ∷ []) (field 3 integer ∷ []) None ∷ []))) ∷ []) [] [] (of_type 5 4 ∷ []) [] (assign_to integer (variable 4 5) (selector.Field 2 integer ∷ []) (num 1) ∷ assign_to integer (variable 4 5) (selector.Field 3 integer ∷ []) (num 2) ∷ perform call.Write (shown (read (variable 4 5) (selector.Field 3 integer ∷ [])) ∷ []) ∷ assign_to integer (variable 4 5) (selector.Field 2 integer ∷ []) (num 3) ∷ perform call.Write (shown (read (variable 4 5) (selector.Field 2 integer ∷ [])) ∷ []) ∷ perform call.Write (shown (read (variable 4 5) (selector.Field 3 integer ∷ [])) ∷ []) ∷ [])) [] 0 (End (codes "23") 205 [])
unfolding run
hidden_tag_changes_in_iso_and_hp = (refl, (refl, tt))

hidden_tag_changes_in_turbo_and_ucsd : InEach (Turbo ∷ Ucsd ∷ []) (λ d. whole d (RecordOf false [] (Some (variant_part 1 None boolean (arm (label_of (pos 1) ∷ []) (field 2 small ∷ []) None ∷ arm (label_of (pos 0) ∷ []) (field 3 small ∷ []) None ∷ []))) ∷ []) [] [] (of_type 5 4 ∷ []) [] (assign_to small (variable 4 5) (selector.Field 2 small ∷ []) (num 1) ∷ assign_to small (variable 4 5) (selector.Field 3 small ∷ []) (num 2) ∷ perform call.Write (shown (read (variable 4 5) (selector.Field 3 small ∷ [])) ∷ []) ∷ assign_to small (variable 4 5) (selector.Field 2 small ∷ []) (num 3) ∷ perform call.Write (shown (read (variable 4 5) (selector.Field 2 small ∷ [])) ∷ []) ∷ perform call.Write (shown (read (variable 4 5) (selector.Field 3 small ∷ [])) ∷ []) ∷ [])) [] 0 (End (codes "23") 205 [])
unfolding run
hidden_tag_changes_in_turbo_and_ucsd = (refl, (refl, tt))

-- var r: record case Boolean of true: (a: integer); false: (b: integer) end; begin write('x'); write(r.a) end.
hidden_tag_is_undefined_at_first_in_iso_and_hp : InEach (Iso ∷ Hp ∷ []) (λ d. whole d (RecordOf false [] (Some (variant_part 1 None boolean (arm (label_of (pos 1) ∷ []) (field 2 integer ∷ []) None ∷ arm (label_of (pos 0) ∷ []) (field 3 integer ∷ []) None ∷ []))) ∷ []) [] [] (of_type 5 4 ∷ []) [] (perform call.Write (shown (letter 120) ∷ []) ∷ perform call.Write (shown (read (variable 4 5) (selector.Field 2 integer ∷ [])) ∷ []) ∷ [])) [] 0 (UndefinedAfter (codes "x") [])
unfolding run
hidden_tag_is_undefined_at_first_in_iso_and_hp = (refl, (refl, tt))

hidden_tag_is_undefined_at_first_in_turbo_and_ucsd : InEach (Turbo ∷ Ucsd ∷ []) (λ d. whole d (RecordOf false [] (Some (variant_part 1 None boolean (arm (label_of (pos 1) ∷ []) (field 2 small ∷ []) None ∷ arm (label_of (pos 0) ∷ []) (field 3 small ∷ []) None ∷ []))) ∷ []) [] [] (of_type 5 4 ∷ []) [] (perform call.Write (shown (letter 120) ∷ []) ∷ perform call.Write (shown (read (variable 4 5) (selector.Field 2 small ∷ [])) ∷ []) ∷ [])) [] 0 (UndefinedAfter (codes "x") [])
unfolding run
hidden_tag_is_undefined_at_first_in_turbo_and_ucsd = (refl, (refl, tt))

-- making the reference selects the variant, and it is never checked again
-- var r: record case Boolean of true: (a: integer); false: (b: integer) end; procedure p(var x: integer); begin r.b := 7; x := 5 end; begin p(r.a); write(r.b) end.
hidden_tag_is_selected_by_a_reference_in_iso_and_hp : InEach (Iso ∷ Hp ∷ []) (λ d. whole d (RecordOf false [] (Some (variant_part 1 None boolean (arm (label_of (pos 1) ∷ []) (field 2 integer ∷ []) None ∷ arm (label_of (pos 0) ∷ []) (field 3 integer ∷ []) None ∷ []))) ∷ []) (procedure 1 Program (section_var integer (5 ∷ []) ∷ []) [] [] (assign_to integer (variable 4 5) (selector.Field 3 integer ∷ []) (num 7) ∷ assign_to integer (variable 5 integer) [] (num 5) ∷ []) ∷ []) [] (of_type 5 4 ∷ []) [] (S.Call (CalleeRoutine 1) (by_reference (variable 4 5) (selector.Field 2 integer ∷ []) ∷ []) ∷ perform call.Write (shown (read (variable 4 5) (selector.Field 3 integer ∷ [])) ∷ []) ∷ [])) [] 1 (End (codes "7") 0 (1 ∷ []))
unfolding run
hidden_tag_is_selected_by_a_reference_in_iso_and_hp = (refl, (refl, tt))

hidden_tag_is_selected_by_a_reference_in_turbo_and_ucsd : InEach (Turbo ∷ Ucsd ∷ []) (λ d. whole d (RecordOf false [] (Some (variant_part 1 None boolean (arm (label_of (pos 1) ∷ []) (field 2 small ∷ []) None ∷ arm (label_of (pos 0) ∷ []) (field 3 small ∷ []) None ∷ []))) ∷ []) (procedure 1 Program (section_var small (5 ∷ []) ∷ []) [] [] (assign_to small (variable 4 5) (selector.Field 3 small ∷ []) (num 7) ∷ assign_to small (variable 5 small) [] (num 5) ∷ []) ∷ []) [] (of_type 5 4 ∷ []) [] (S.Call (CalleeRoutine 1) (by_reference (variable 4 5) (selector.Field 2 small ∷ []) ∷ []) ∷ perform call.Write (shown (read (variable 4 5) (selector.Field 3 small ∷ [])) ∷ []) ∷ [])) [] 1 (End (codes "7") 0 (1 ∷ []))
unfolding run
hidden_tag_is_selected_by_a_reference_in_turbo_and_ucsd = (refl, (refl, tt))

-- the value reads the old variant first
-- var r: record case Boolean of true: (a: integer); false: (b: integer) end; begin r.a := 4; r.b := r.a + 1; write(r.b) end.
hidden_tag_is_selected_when_the_value_is_stored_in_iso_and_hp : InEach (Iso ∷ Hp ∷ []) (λ d. whole d (RecordOf false [] (Some (variant_part 1 None boolean (arm (label_of (pos 1) ∷ []) (field 2 integer ∷ []) None ∷ arm (label_of (pos 0) ∷ []) (field 3 integer ∷ []) None ∷ []))) ∷ []) [] [] (of_type 5 4 ∷ []) [] (assign_to integer (variable 4 5) (selector.Field 2 integer ∷ []) (num 4) ∷ assign_to integer (variable 4 5) (selector.Field 3 integer ∷ []) (chain (read (variable 4 5) (selector.Field 2 integer ∷ [])) ((op.Add, num 1, integer) ∷ [])) ∷ perform call.Write (shown (read (variable 4 5) (selector.Field 3 integer ∷ [])) ∷ []) ∷ [])) [] 0 (End (codes "5") 0 [])
unfolding run
hidden_tag_is_selected_when_the_value_is_stored_in_iso_and_hp = (refl, (refl, tt))

hidden_tag_is_selected_when_the_value_is_stored_in_turbo_and_ucsd : InEach (Turbo ∷ Ucsd ∷ []) (λ d. whole d (RecordOf false [] (Some (variant_part 1 None boolean (arm (label_of (pos 1) ∷ []) (field 2 small ∷ []) None ∷ arm (label_of (pos 0) ∷ []) (field 3 small ∷ []) None ∷ []))) ∷ []) [] [] (of_type 5 4 ∷ []) [] (assign_to small (variable 4 5) (selector.Field 2 small ∷ []) (num 4) ∷ assign_to small (variable 4 5) (selector.Field 3 small ∷ []) (chain (read (variable 4 5) (selector.Field 2 small ∷ [])) ((op.Add, num 1, small) ∷ [])) ∷ perform call.Write (shown (read (variable 4 5) (selector.Field 3 small ∷ [])) ∷ []) ∷ [])) [] 0 (End (codes "5") 0 [])
unfolding run
hidden_tag_is_selected_when_the_value_is_stored_in_turbo_and_ucsd = (refl, (refl, tt))

-- var r: record case k: Boolean of true: (a: integer); false: (b: integer) end; begin write('x'); r.a := 1 end.
variant_without_a_tag_value_in_iso_and_hp : InEach (Iso ∷ Hp ∷ []) (λ d. whole d (RecordOf false [] (Some (variant_part 1 (Some []) boolean (arm (label_of (pos 1) ∷ []) (field 2 integer ∷ []) None ∷ arm (label_of (pos 0) ∷ []) (field 3 integer ∷ []) None ∷ []))) ∷ []) [] [] (of_type 5 4 ∷ []) [] (perform call.Write (shown (letter 120) ∷ []) ∷ assign_to integer (variable 4 5) (selector.Field 2 integer ∷ []) (num 1) ∷ [])) [] 0 (UndefinedAfter (codes "x") [])
unfolding run
variant_without_a_tag_value_in_iso_and_hp = (refl, (refl, tt))

variant_without_a_tag_value_in_turbo_and_ucsd : InEach (Turbo ∷ Ucsd ∷ []) (λ d. whole d (RecordOf false [] (Some (variant_part 1 (Some []) boolean (arm (label_of (pos 1) ∷ []) (field 2 small ∷ []) None ∷ arm (label_of (pos 0) ∷ []) (field 3 small ∷ []) None ∷ []))) ∷ []) [] [] (of_type 5 4 ∷ []) [] (perform call.Write (shown (letter 120) ∷ []) ∷ assign_to small (variable 4 5) (selector.Field 2 small ∷ []) (num 1) ∷ [])) [] 0 (UndefinedAfter (codes "x") [])
unfolding run
variant_without_a_tag_value_in_turbo_and_ucsd = (refl, (refl, tt))

-- var r: record case k: Boolean of true: (a: integer); false: (b: integer) end; begin r.k := false; r.b := 1; r.k := true; r.k := false; write('x'); write(r.b) end.
fields_of_the_new_variant_are_undefined_in_iso_and_hp : InEach (Iso ∷ Hp ∷ []) (λ d. whole d (RecordOf false [] (Some (variant_part 1 (Some []) boolean (arm (label_of (pos 1) ∷ []) (field 2 integer ∷ []) None ∷ arm (label_of (pos 0) ∷ []) (field 3 integer ∷ []) None ∷ []))) ∷ []) [] [] (of_type 5 4 ∷ []) [] (assign_to boolean (variable 4 5) (selector.Field 1 boolean ∷ []) (truth 0) ∷ assign_to integer (variable 4 5) (selector.Field 3 integer ∷ []) (num 1) ∷ assign_to boolean (variable 4 5) (selector.Field 1 boolean ∷ []) (truth 1) ∷ assign_to boolean (variable 4 5) (selector.Field 1 boolean ∷ []) (truth 0) ∷ perform call.Write (shown (letter 120) ∷ []) ∷ perform call.Write (shown (read (variable 4 5) (selector.Field 3 integer ∷ [])) ∷ []) ∷ [])) [] 0 (UndefinedAfter (codes "x") [])
unfolding run
fields_of_the_new_variant_are_undefined_in_iso_and_hp = (refl, (refl, tt))

fields_of_the_new_variant_are_undefined_in_turbo_and_ucsd : InEach (Turbo ∷ Ucsd ∷ []) (λ d. whole d (RecordOf false [] (Some (variant_part 1 (Some []) boolean (arm (label_of (pos 1) ∷ []) (field 2 small ∷ []) None ∷ arm (label_of (pos 0) ∷ []) (field 3 small ∷ []) None ∷ []))) ∷ []) [] [] (of_type 5 4 ∷ []) [] (assign_to boolean (variable 4 5) (selector.Field 1 boolean ∷ []) (truth 0) ∷ assign_to small (variable 4 5) (selector.Field 3 small ∷ []) (num 1) ∷ assign_to boolean (variable 4 5) (selector.Field 1 boolean ∷ []) (truth 1) ∷ assign_to boolean (variable 4 5) (selector.Field 1 boolean ∷ []) (truth 0) ∷ perform call.Write (shown (letter 120) ∷ []) ∷ perform call.Write (shown (read (variable 4 5) (selector.Field 3 small ∷ [])) ∷ []) ∷ [])) [] 0 (UndefinedAfter (codes "x") [])
unfolding run
fields_of_the_new_variant_are_undefined_in_turbo_and_ucsd = (refl, (refl, tt))

-- var r: record case k: Boolean of true: (a: integer); false: (b: integer) end; begin r.k := true; write('x'); r.b := 1 end.
store_into_another_variant_in_iso_and_hp : InEach (Iso ∷ Hp ∷ []) (λ d. whole d (RecordOf false [] (Some (variant_part 1 (Some []) boolean (arm (label_of (pos 1) ∷ []) (field 2 integer ∷ []) None ∷ arm (label_of (pos 0) ∷ []) (field 3 integer ∷ []) None ∷ []))) ∷ []) [] [] (of_type 5 4 ∷ []) [] (assign_to boolean (variable 4 5) (selector.Field 1 boolean ∷ []) (truth 1) ∷ perform call.Write (shown (letter 120) ∷ []) ∷ assign_to integer (variable 4 5) (selector.Field 3 integer ∷ []) (num 1) ∷ [])) [] 0 (End (codes "x") 205 [])
unfolding run
store_into_another_variant_in_iso_and_hp = (refl, (refl, tt))

store_into_another_variant_in_turbo_and_ucsd : InEach (Turbo ∷ Ucsd ∷ []) (λ d. whole d (RecordOf false [] (Some (variant_part 1 (Some []) boolean (arm (label_of (pos 1) ∷ []) (field 2 small ∷ []) None ∷ arm (label_of (pos 0) ∷ []) (field 3 small ∷ []) None ∷ []))) ∷ []) [] [] (of_type 5 4 ∷ []) [] (assign_to boolean (variable 4 5) (selector.Field 1 boolean ∷ []) (truth 1) ∷ perform call.Write (shown (letter 120) ∷ []) ∷ assign_to small (variable 4 5) (selector.Field 3 small ∷ []) (num 1) ∷ [])) [] 0 (End (codes "x") 205 [])
unfolding run
store_into_another_variant_in_turbo_and_ucsd = (refl, (refl, tt))

-- it is checked when it is made
-- var r: record case k: Boolean of true: (a: integer); false: (b: integer) end; procedure p(var x: integer); begin write('no') end; begin r.k := true; write('x'); p(r.b) end.
reference_into_another_variant_in_iso_and_hp : InEach (Iso ∷ Hp ∷ []) (λ d. whole d (RecordOf false [] (Some (variant_part 1 (Some []) boolean (arm (label_of (pos 1) ∷ []) (field 2 integer ∷ []) None ∷ arm (label_of (pos 0) ∷ []) (field 3 integer ∷ []) None ∷ []))) ∷ Literal 2 ∷ []) (procedure 1 Program (section_var integer (5 ∷ []) ∷ []) [] [] (perform call.Write (shown (quoted 6 (codes "no")) ∷ []) ∷ []) ∷ []) [] (of_type 5 4 ∷ []) [] (assign_to boolean (variable 4 5) (selector.Field 1 boolean ∷ []) (truth 1) ∷ perform call.Write (shown (letter 120) ∷ []) ∷ S.Call (CalleeRoutine 1) (by_reference (variable 4 5) (selector.Field 3 integer ∷ []) ∷ []) ∷ [])) [] 1 (End (codes "x") 205 [])
unfolding run
reference_into_another_variant_in_iso_and_hp = (refl, (refl, tt))

reference_into_another_variant_in_turbo_and_ucsd : InEach (Turbo ∷ Ucsd ∷ []) (λ d. whole d (RecordOf false [] (Some (variant_part 1 (Some []) boolean (arm (label_of (pos 1) ∷ []) (field 2 small ∷ []) None ∷ arm (label_of (pos 0) ∷ []) (field 3 small ∷ []) None ∷ []))) ∷ Literal 2 ∷ []) (procedure 1 Program (section_var small (5 ∷ []) ∷ []) [] [] (perform call.Write (shown (quoted 6 (codes "no")) ∷ []) ∷ []) ∷ []) [] (of_type 5 4 ∷ []) [] (assign_to boolean (variable 4 5) (selector.Field 1 boolean ∷ []) (truth 1) ∷ perform call.Write (shown (letter 120) ∷ []) ∷ S.Call (CalleeRoutine 1) (by_reference (variable 4 5) (selector.Field 3 small ∷ []) ∷ []) ∷ [])) [] 1 (End (codes "x") 205 [])
unfolding run
reference_into_another_variant_in_turbo_and_ucsd = (refl, (refl, tt))

-- var r: record case k: integer of 1: (a: integer); 2: (b: integer) end; begin r.k := 1; r.a := 5; r.k := 3; r.k := 4; write('x'); r.a := 1 end.
tag_value_without_a_variant_in_iso_and_hp : InEach (Iso ∷ Hp ∷ []) (λ d. whole d (RecordOf false [] (Some (variant_part 1 (Some []) integer (arm (label_of (pos 1) ∷ []) (field 2 integer ∷ []) None ∷ arm (label_of (pos 2) ∷ []) (field 3 integer ∷ []) None ∷ []))) ∷ []) [] [] (of_type 5 4 ∷ []) [] (assign_to integer (variable 4 5) (selector.Field 1 integer ∷ []) (num 1) ∷ assign_to integer (variable 4 5) (selector.Field 2 integer ∷ []) (num 5) ∷ assign_to integer (variable 4 5) (selector.Field 1 integer ∷ []) (num 3) ∷ assign_to integer (variable 4 5) (selector.Field 1 integer ∷ []) (num 4) ∷ perform call.Write (shown (letter 120) ∷ []) ∷ assign_to integer (variable 4 5) (selector.Field 2 integer ∷ []) (num 1) ∷ [])) [] 0 (End (codes "x") 205 [])
unfolding run
tag_value_without_a_variant_in_iso_and_hp = (refl, (refl, tt))

tag_value_without_a_variant_in_turbo_and_ucsd : InEach (Turbo ∷ Ucsd ∷ []) (λ d. whole d (RecordOf false [] (Some (variant_part 1 (Some []) small (arm (label_of (pos 1) ∷ []) (field 2 small ∷ []) None ∷ arm (label_of (pos 2) ∷ []) (field 3 small ∷ []) None ∷ []))) ∷ []) [] [] (of_type 5 4 ∷ []) [] (assign_to small (variable 4 5) (selector.Field 1 small ∷ []) (num 1) ∷ assign_to small (variable 4 5) (selector.Field 2 small ∷ []) (num 5) ∷ assign_to small (variable 4 5) (selector.Field 1 small ∷ []) (num 3) ∷ assign_to small (variable 4 5) (selector.Field 1 small ∷ []) (num 4) ∷ perform call.Write (shown (letter 120) ∷ []) ∷ assign_to small (variable 4 5) (selector.Field 2 small ∷ []) (num 1) ∷ [])) [] 0 (End (codes "x") 205 [])
unfolding run
tag_value_without_a_variant_in_turbo_and_ucsd = (refl, (refl, tt))

-- the tag may change within one variant
-- var r: record case k: integer of 1, 2: (a: integer); 3: (b: integer) end; begin r.k := 1; r.a := 5; r.k := 2; write(r.a) end.
tag_with_more_labels_in_iso_and_hp : InEach (Iso ∷ Hp ∷ []) (λ d. whole d (RecordOf false [] (Some (variant_part 1 (Some []) integer (arm (label_of (pos 1) ∷ label_of (pos 2) ∷ []) (field 2 integer ∷ []) None ∷ arm (label_of (pos 3) ∷ []) (field 3 integer ∷ []) None ∷ []))) ∷ []) [] [] (of_type 5 4 ∷ []) [] (assign_to integer (variable 4 5) (selector.Field 1 integer ∷ []) (num 1) ∷ assign_to integer (variable 4 5) (selector.Field 2 integer ∷ []) (num 5) ∷ assign_to integer (variable 4 5) (selector.Field 1 integer ∷ []) (num 2) ∷ perform call.Write (shown (read (variable 4 5) (selector.Field 2 integer ∷ [])) ∷ []) ∷ [])) [] 0 (End (codes "5") 0 [])
unfolding run
tag_with_more_labels_in_iso_and_hp = (refl, (refl, tt))

tag_with_more_labels_in_turbo_and_ucsd : InEach (Turbo ∷ Ucsd ∷ []) (λ d. whole d (RecordOf false [] (Some (variant_part 1 (Some []) small (arm (label_of (pos 1) ∷ label_of (pos 2) ∷ []) (field 2 small ∷ []) None ∷ arm (label_of (pos 3) ∷ []) (field 3 small ∷ []) None ∷ []))) ∷ []) [] [] (of_type 5 4 ∷ []) [] (assign_to small (variable 4 5) (selector.Field 1 small ∷ []) (num 1) ∷ assign_to small (variable 4 5) (selector.Field 2 small ∷ []) (num 5) ∷ assign_to small (variable 4 5) (selector.Field 1 small ∷ []) (num 2) ∷ perform call.Write (shown (read (variable 4 5) (selector.Field 2 small ∷ [])) ∷ []) ∷ [])) [] 0 (End (codes "5") 0 [])
unfolding run
tag_with_more_labels_in_turbo_and_ucsd = (refl, (refl, tt))

-- var r: record x: integer; case k: Boolean of true: (a: integer; case j: Boolean of true: (c: integer); false: (d: integer)); false: (b: integer) end; begin r.x := 9; r.k := true; r.a := 1; r.j := false; r.d := 4; write(r.a, r.d, r.x); r.k := false; r.b := 6; write(r.b, r.x); r.k := true; write('y'); write(r.j) end.
nested_variants_in_iso_and_hp : InEach (Iso ∷ Hp ∷ []) (λ d. whole d (RecordOf false (field 1 integer ∷ []) (Some (variant_part 2 (Some []) boolean (arm (label_of (pos 1) ∷ []) (field 3 integer ∷ []) (Some (variant_part 4 (Some []) boolean (arm (label_of (pos 1) ∷ []) (field 5 integer ∷ []) None ∷ arm (label_of (pos 0) ∷ []) (field 6 integer ∷ []) None ∷ []))) ∷ arm (label_of (pos 0) ∷ []) (field 7 integer ∷ []) None ∷ []))) ∷ []) [] [] (of_type 5 8 ∷ []) [] (assign_to integer (variable 8 5) (selector.Field 1 integer ∷ []) (num 9) ∷ assign_to boolean (variable 8 5) (selector.Field 2 boolean ∷ []) (truth 1) ∷ assign_to integer (variable 8 5) (selector.Field 3 integer ∷ []) (num 1) ∷ assign_to boolean (variable 8 5) (selector.Field 4 boolean ∷ []) (truth 0) ∷ assign_to integer (variable 8 5) (selector.Field 6 integer ∷ []) (num 4) ∷ perform call.Write (shown (read (variable 8 5) (selector.Field 3 integer ∷ [])) ∷ shown (read (variable 8 5) (selector.Field 6 integer ∷ [])) ∷ shown (read (variable 8 5) (selector.Field 1 integer ∷ [])) ∷ []) ∷ assign_to boolean (variable 8 5) (selector.Field 2 boolean ∷ []) (truth 0) ∷ assign_to integer (variable 8 5) (selector.Field 7 integer ∷ []) (num 6) ∷ perform call.Write (shown (read (variable 8 5) (selector.Field 7 integer ∷ [])) ∷ shown (read (variable 8 5) (selector.Field 1 integer ∷ [])) ∷ []) ∷ assign_to boolean (variable 8 5) (selector.Field 2 boolean ∷ []) (truth 1) ∷ perform call.Write (shown (letter 121) ∷ []) ∷ perform call.Write (shown (read (variable 8 5) (selector.Field 4 boolean ∷ [])) ∷ []) ∷ [])) [] 0 (UndefinedAfter (codes "14969y") [])
unfolding run
nested_variants_in_iso_and_hp = (refl, (refl, tt))

nested_variants_in_turbo_and_ucsd : InEach (Turbo ∷ Ucsd ∷ []) (λ d. whole d (RecordOf false (field 1 small ∷ []) (Some (variant_part 2 (Some []) boolean (arm (label_of (pos 1) ∷ []) (field 3 small ∷ []) (Some (variant_part 4 (Some []) boolean (arm (label_of (pos 1) ∷ []) (field 5 small ∷ []) None ∷ arm (label_of (pos 0) ∷ []) (field 6 small ∷ []) None ∷ []))) ∷ arm (label_of (pos 0) ∷ []) (field 7 small ∷ []) None ∷ []))) ∷ []) [] [] (of_type 5 8 ∷ []) [] (assign_to small (variable 8 5) (selector.Field 1 small ∷ []) (num 9) ∷ assign_to boolean (variable 8 5) (selector.Field 2 boolean ∷ []) (truth 1) ∷ assign_to small (variable 8 5) (selector.Field 3 small ∷ []) (num 1) ∷ assign_to boolean (variable 8 5) (selector.Field 4 boolean ∷ []) (truth 0) ∷ assign_to small (variable 8 5) (selector.Field 6 small ∷ []) (num 4) ∷ perform call.Write (shown (read (variable 8 5) (selector.Field 3 small ∷ [])) ∷ shown (read (variable 8 5) (selector.Field 6 small ∷ [])) ∷ shown (read (variable 8 5) (selector.Field 1 small ∷ [])) ∷ []) ∷ assign_to boolean (variable 8 5) (selector.Field 2 boolean ∷ []) (truth 0) ∷ assign_to small (variable 8 5) (selector.Field 7 small ∷ []) (num 6) ∷ perform call.Write (shown (read (variable 8 5) (selector.Field 7 small ∷ [])) ∷ shown (read (variable 8 5) (selector.Field 1 small ∷ [])) ∷ []) ∷ assign_to boolean (variable 8 5) (selector.Field 2 boolean ∷ []) (truth 1) ∷ perform call.Write (shown (letter 121) ∷ []) ∷ perform call.Write (shown (read (variable 8 5) (selector.Field 4 boolean ∷ [])) ∷ []) ∷ [])) [] 0 (UndefinedAfter (codes "14969y") [])
unfolding run
nested_variants_in_turbo_and_ucsd = (refl, (refl, tt))

-- the outer tag is read first
-- var r: record case k: Boolean of true: (a: integer; case j: Boolean of true: (c: integer); false: (d: integer)); false: (b: integer) end; begin r.k := false; write('x'); r.c := 1 end.
nested_variant_under_another_one_in_iso_and_hp : InEach (Iso ∷ Hp ∷ []) (λ d. whole d (RecordOf false [] (Some (variant_part 1 (Some []) boolean (arm (label_of (pos 1) ∷ []) (field 2 integer ∷ []) (Some (variant_part 3 (Some []) boolean (arm (label_of (pos 1) ∷ []) (field 4 integer ∷ []) None ∷ arm (label_of (pos 0) ∷ []) (field 5 integer ∷ []) None ∷ []))) ∷ arm (label_of (pos 0) ∷ []) (field 6 integer ∷ []) None ∷ []))) ∷ []) [] [] (of_type 5 7 ∷ []) [] (assign_to boolean (variable 7 5) (selector.Field 1 boolean ∷ []) (truth 0) ∷ perform call.Write (shown (letter 120) ∷ []) ∷ assign_to integer (variable 7 5) (selector.Field 4 integer ∷ []) (num 1) ∷ [])) [] 0 (End (codes "x") 205 [])
unfolding run
nested_variant_under_another_one_in_iso_and_hp = (refl, (refl, tt))

nested_variant_under_another_one_in_turbo_and_ucsd : InEach (Turbo ∷ Ucsd ∷ []) (λ d. whole d (RecordOf false [] (Some (variant_part 1 (Some []) boolean (arm (label_of (pos 1) ∷ []) (field 2 small ∷ []) (Some (variant_part 3 (Some []) boolean (arm (label_of (pos 1) ∷ []) (field 4 small ∷ []) None ∷ arm (label_of (pos 0) ∷ []) (field 5 small ∷ []) None ∷ []))) ∷ arm (label_of (pos 0) ∷ []) (field 6 small ∷ []) None ∷ []))) ∷ []) [] [] (of_type 5 7 ∷ []) [] (assign_to boolean (variable 7 5) (selector.Field 1 boolean ∷ []) (truth 0) ∷ perform call.Write (shown (letter 120) ∷ []) ∷ assign_to small (variable 7 5) (selector.Field 4 small ∷ []) (num 1) ∷ [])) [] 0 (End (codes "x") 205 [])
unfolding run
nested_variant_under_another_one_in_turbo_and_ucsd = (refl, (refl, tt))

-- the outermost is selected first
-- var r: record case Boolean of true: (case Boolean of true: (c: integer); false: (d: integer)); false: (b: integer) end; begin r.c := 1; write(r.c); r.b := 2; write(r.b); r.d := 3; write(r.d); write(r.c) end.
nested_hidden_tags_in_iso_and_hp : InEach (Iso ∷ Hp ∷ []) (λ d. whole d (RecordOf false [] (Some (variant_part 1 None boolean (arm (label_of (pos 1) ∷ []) [] (Some (variant_part 2 None boolean (arm (label_of (pos 1) ∷ []) (field 3 integer ∷ []) None ∷ arm (label_of (pos 0) ∷ []) (field 4 integer ∷ []) None ∷ []))) ∷ arm (label_of (pos 0) ∷ []) (field 5 integer ∷ []) None ∷ []))) ∷ []) [] [] (of_type 5 6 ∷ []) [] (assign_to integer (variable 6 5) (selector.Field 3 integer ∷ []) (num 1) ∷ perform call.Write (shown (read (variable 6 5) (selector.Field 3 integer ∷ [])) ∷ []) ∷ assign_to integer (variable 6 5) (selector.Field 5 integer ∷ []) (num 2) ∷ perform call.Write (shown (read (variable 6 5) (selector.Field 5 integer ∷ [])) ∷ []) ∷ assign_to integer (variable 6 5) (selector.Field 4 integer ∷ []) (num 3) ∷ perform call.Write (shown (read (variable 6 5) (selector.Field 4 integer ∷ [])) ∷ []) ∷ perform call.Write (shown (read (variable 6 5) (selector.Field 3 integer ∷ [])) ∷ []) ∷ [])) [] 0 (End (codes "123") 205 [])
unfolding run
nested_hidden_tags_in_iso_and_hp = (refl, (refl, tt))

nested_hidden_tags_in_turbo_and_ucsd : InEach (Turbo ∷ Ucsd ∷ []) (λ d. whole d (RecordOf false [] (Some (variant_part 1 None boolean (arm (label_of (pos 1) ∷ []) [] (Some (variant_part 2 None boolean (arm (label_of (pos 1) ∷ []) (field 3 small ∷ []) None ∷ arm (label_of (pos 0) ∷ []) (field 4 small ∷ []) None ∷ []))) ∷ arm (label_of (pos 0) ∷ []) (field 5 small ∷ []) None ∷ []))) ∷ []) [] [] (of_type 5 6 ∷ []) [] (assign_to small (variable 6 5) (selector.Field 3 small ∷ []) (num 1) ∷ perform call.Write (shown (read (variable 6 5) (selector.Field 3 small ∷ [])) ∷ []) ∷ assign_to small (variable 6 5) (selector.Field 5 small ∷ []) (num 2) ∷ perform call.Write (shown (read (variable 6 5) (selector.Field 5 small ∷ [])) ∷ []) ∷ assign_to small (variable 6 5) (selector.Field 4 small ∷ []) (num 3) ∷ perform call.Write (shown (read (variable 6 5) (selector.Field 4 small ∷ [])) ∷ []) ∷ perform call.Write (shown (read (variable 6 5) (selector.Field 3 small ∷ [])) ∷ []) ∷ [])) [] 0 (End (codes "123") 205 [])
unfolding run
nested_hidden_tags_in_turbo_and_ucsd = (refl, (refl, tt))

-- selecting reads it, and that checks the hidden tag
-- var r: record case Boolean of true: (case j: Boolean of true: (c: integer); false: (d: integer)); false: (b: integer) end; begin r.j := true; r.c := 1; write(r.c); r.b := 2; write('x'); r.c := 3 end.
tag_in_a_hidden_variant_in_iso_and_hp : InEach (Iso ∷ Hp ∷ []) (λ d. whole d (RecordOf false [] (Some (variant_part 1 None boolean (arm (label_of (pos 1) ∷ []) [] (Some (variant_part 2 (Some []) boolean (arm (label_of (pos 1) ∷ []) (field 3 integer ∷ []) None ∷ arm (label_of (pos 0) ∷ []) (field 4 integer ∷ []) None ∷ []))) ∷ arm (label_of (pos 0) ∷ []) (field 5 integer ∷ []) None ∷ []))) ∷ []) [] [] (of_type 5 6 ∷ []) [] (assign_to boolean (variable 6 5) (selector.Field 2 boolean ∷ []) (truth 1) ∷ assign_to integer (variable 6 5) (selector.Field 3 integer ∷ []) (num 1) ∷ perform call.Write (shown (read (variable 6 5) (selector.Field 3 integer ∷ [])) ∷ []) ∷ assign_to integer (variable 6 5) (selector.Field 5 integer ∷ []) (num 2) ∷ perform call.Write (shown (letter 120) ∷ []) ∷ assign_to integer (variable 6 5) (selector.Field 3 integer ∷ []) (num 3) ∷ [])) [] 0 (End (codes "1x") 205 [])
unfolding run
tag_in_a_hidden_variant_in_iso_and_hp = (refl, (refl, tt))

tag_in_a_hidden_variant_in_turbo_and_ucsd : InEach (Turbo ∷ Ucsd ∷ []) (λ d. whole d (RecordOf false [] (Some (variant_part 1 None boolean (arm (label_of (pos 1) ∷ []) [] (Some (variant_part 2 (Some []) boolean (arm (label_of (pos 1) ∷ []) (field 3 small ∷ []) None ∷ arm (label_of (pos 0) ∷ []) (field 4 small ∷ []) None ∷ []))) ∷ arm (label_of (pos 0) ∷ []) (field 5 small ∷ []) None ∷ []))) ∷ []) [] [] (of_type 5 6 ∷ []) [] (assign_to boolean (variable 6 5) (selector.Field 2 boolean ∷ []) (truth 1) ∷ assign_to small (variable 6 5) (selector.Field 3 small ∷ []) (num 1) ∷ perform call.Write (shown (read (variable 6 5) (selector.Field 3 small ∷ [])) ∷ []) ∷ assign_to small (variable 6 5) (selector.Field 5 small ∷ []) (num 2) ∷ perform call.Write (shown (letter 120) ∷ []) ∷ assign_to small (variable 6 5) (selector.Field 3 small ∷ []) (num 3) ∷ [])) [] 0 (End (codes "1x") 205 [])
unfolding run
tag_in_a_hidden_variant_in_turbo_and_ucsd = (refl, (refl, tt))

-- the fields of the record are found by the reference
-- var r: record case k: Boolean of true: (a: integer); false: (b: integer) end; begin with r do begin k := true; a := 3; write(a); k := false; b := 4; write(b); write(a) end end.
with_over_a_variant_in_iso_and_hp : InEach (Iso ∷ Hp ∷ []) (λ d. whole d (RecordOf false [] (Some (variant_part 1 (Some []) boolean (arm (label_of (pos 1) ∷ []) (field 2 integer ∷ []) None ∷ arm (label_of (pos 0) ∷ []) (field 3 integer ∷ []) None ∷ []))) ∷ []) [] [] (of_type 5 4 ∷ []) [] (with_all (with_part 5 (variable 4 5) [] ∷ []) (seq (assign_to boolean (root.WithRef 5 5) (selector.Field 1 boolean ∷ []) (truth 1) ∷ assign_to integer (root.WithRef 5 5) (selector.Field 2 integer ∷ []) (num 3) ∷ perform call.Write (shown (read (root.WithRef 5 5) (selector.Field 2 integer ∷ [])) ∷ []) ∷ assign_to boolean (root.WithRef 5 5) (selector.Field 1 boolean ∷ []) (truth 0) ∷ assign_to integer (root.WithRef 5 5) (selector.Field 3 integer ∷ []) (num 4) ∷ perform call.Write (shown (read (root.WithRef 5 5) (selector.Field 3 integer ∷ [])) ∷ []) ∷ perform call.Write (shown (read (root.WithRef 5 5) (selector.Field 2 integer ∷ [])) ∷ []) ∷ [])) ∷ [])) [] 0 (End (codes "34") 205 [])
unfolding run
with_over_a_variant_in_iso_and_hp = (refl, (refl, tt))

with_over_a_variant_in_turbo_and_ucsd : InEach (Turbo ∷ Ucsd ∷ []) (λ d. whole d (RecordOf false [] (Some (variant_part 1 (Some []) boolean (arm (label_of (pos 1) ∷ []) (field 2 small ∷ []) None ∷ arm (label_of (pos 0) ∷ []) (field 3 small ∷ []) None ∷ []))) ∷ []) [] [] (of_type 5 4 ∷ []) [] (with_all (with_part 5 (variable 4 5) [] ∷ []) (seq (assign_to boolean (root.WithRef 5 5) (selector.Field 1 boolean ∷ []) (truth 1) ∷ assign_to small (root.WithRef 5 5) (selector.Field 2 small ∷ []) (num 3) ∷ perform call.Write (shown (read (root.WithRef 5 5) (selector.Field 2 small ∷ [])) ∷ []) ∷ assign_to boolean (root.WithRef 5 5) (selector.Field 1 boolean ∷ []) (truth 0) ∷ assign_to small (root.WithRef 5 5) (selector.Field 3 small ∷ []) (num 4) ∷ perform call.Write (shown (read (root.WithRef 5 5) (selector.Field 3 small ∷ [])) ∷ []) ∷ perform call.Write (shown (read (root.WithRef 5 5) (selector.Field 2 small ∷ [])) ∷ []) ∷ [])) ∷ [])) [] 0 (End (codes "34") 205 [])
unfolding run
with_over_a_variant_in_turbo_and_ucsd = (refl, (refl, tt))

-- each reference is made in the scope of those before it
-- var r: record a: integer; s: record b: integer end end; begin r.a := 1; with r, s do begin b := 2; a := 3 end; write(r.a, r.s.b) end.
with_selects_in_order_in_iso_and_hp : InEach (Iso ∷ Hp ∷ []) (λ d. whole d (RecordOf false (field 2 integer ∷ []) None ∷ RecordOf false (field 1 integer ∷ field 3 5 ∷ []) None ∷ []) [] [] (of_type 6 4 ∷ []) [] (assign_to integer (variable 4 6) (selector.Field 1 integer ∷ []) (num 1) ∷ with_all (with_part 5 (variable 4 6) [] ∷ with_part 6 (root.WithRef 5 6) (selector.Field 3 5 ∷ []) ∷ []) (seq (assign_to integer (root.WithRef 6 5) (selector.Field 2 integer ∷ []) (num 2) ∷ assign_to integer (root.WithRef 5 6) (selector.Field 1 integer ∷ []) (num 3) ∷ [])) ∷ perform call.Write (shown (read (variable 4 6) (selector.Field 1 integer ∷ [])) ∷ shown (read (variable 4 6) (selector.Field 3 5 ∷ selector.Field 2 integer ∷ [])) ∷ []) ∷ [])) [] 0 (End (codes "32") 0 [])
unfolding run
with_selects_in_order_in_iso_and_hp = (refl, (refl, tt))

with_selects_in_order_in_turbo_and_ucsd : InEach (Turbo ∷ Ucsd ∷ []) (λ d. whole d (RecordOf false (field 2 small ∷ []) None ∷ RecordOf false (field 1 small ∷ field 3 5 ∷ []) None ∷ []) [] [] (of_type 6 4 ∷ []) [] (assign_to small (variable 4 6) (selector.Field 1 small ∷ []) (num 1) ∷ with_all (with_part 5 (variable 4 6) [] ∷ with_part 6 (root.WithRef 5 6) (selector.Field 3 5 ∷ []) ∷ []) (seq (assign_to small (root.WithRef 6 5) (selector.Field 2 small ∷ []) (num 2) ∷ assign_to small (root.WithRef 5 6) (selector.Field 1 small ∷ []) (num 3) ∷ [])) ∷ perform call.Write (shown (read (variable 4 6) (selector.Field 1 small ∷ [])) ∷ shown (read (variable 4 6) (selector.Field 3 5 ∷ selector.Field 2 small ∷ [])) ∷ []) ∷ [])) [] 0 (End (codes "32") 0 [])
unfolding run
with_selects_in_order_in_turbo_and_ucsd = (refl, (refl, tt))

-- var a: array [1..2] of integer; i: integer; begin i := 3; a[i] := 0 end.
index_out_of_range_in_iso_and_hp : InEach (Iso ∷ Hp ∷ []) (λ d. whole d (Ordinal WholeHost (pos 1) (pos 2) ∷ Array false 5 integer ∷ []) [] [] (of_type 6 1 ∷ of_type integer 2 ∷ []) [] (assign_to integer (variable 2 integer) [] (num 3) ∷ assign_to integer (variable 1 6) (selector.Index (read (variable 2 integer) []) 6 integer ∷ []) (num 0) ∷ [])) [] 0 (End [] 201 [])
unfolding run
index_out_of_range_in_iso_and_hp = (refl, (refl, tt))

index_out_of_range_in_turbo_and_ucsd : InEach (Turbo ∷ Ucsd ∷ []) (λ d. whole d (Ordinal WholeHost (pos 1) (pos 2) ∷ Array false 5 small ∷ []) [] [] (of_type 6 1 ∷ of_type small 2 ∷ []) [] (assign_to small (variable 2 small) [] (num 3) ∷ assign_to small (variable 1 6) (selector.Index (read (variable 2 small) []) 6 small ∷ []) (num 0) ∷ [])) [] 0 (End [] 201 [])
unfolding run
index_out_of_range_in_turbo_and_ucsd = (refl, (refl, tt))

-- var a: array [-2..1] of integer; i: integer; begin a[-2] := 5; write(a[-2]); i := -3; write(a[i]) end.
index_below_the_range_in_iso_and_hp : InEach (Iso ∷ Hp ∷ []) (λ d. whole d (Ordinal WholeHost (negsuc 1) (pos 1) ∷ Array false 5 integer ∷ []) [] [] (of_type 6 1 ∷ of_type integer 2 ∷ []) [] (assign_to integer (variable 1 6) (selector.Index (unary integer un.Minus (num 2)) 6 integer ∷ []) (num 5) ∷ perform call.Write (shown (read (variable 1 6) (selector.Index (unary integer un.Minus (num 2)) 6 integer ∷ [])) ∷ []) ∷ assign_to integer (variable 2 integer) [] (unary integer un.Minus (num 3)) ∷ perform call.Write (shown (read (variable 1 6) (selector.Index (read (variable 2 integer) []) 6 integer ∷ [])) ∷ []) ∷ [])) [] 0 (End (codes "5") 201 [])
unfolding run
index_below_the_range_in_iso_and_hp = (refl, (refl, tt))

index_below_the_range_in_turbo_and_ucsd : InEach (Turbo ∷ Ucsd ∷ []) (λ d. whole d (Ordinal WholeHost (negsuc 1) (pos 1) ∷ Array false 5 small ∷ []) [] [] (of_type 6 1 ∷ of_type small 2 ∷ []) [] (assign_to small (variable 1 6) (selector.Index (unary small un.Minus (num 2)) 6 small ∷ []) (num 5) ∷ perform call.Write (shown (read (variable 1 6) (selector.Index (unary small un.Minus (num 2)) 6 small ∷ [])) ∷ []) ∷ assign_to small (variable 2 small) [] (unary small un.Minus (num 3)) ∷ perform call.Write (shown (read (variable 1 6) (selector.Index (read (variable 2 small) []) 6 small ∷ [])) ∷ []) ∷ [])) [] 0 (End (codes "5") 201 [])
unfolding run
index_below_the_range_in_turbo_and_ucsd = (refl, (refl, tt))

-- the first before the second is evaluated
-- var a: array [1..2, 1..2] of integer; function f: integer; begin write('f'); f := 1 end; begin a[1, f] := 3; write(a[1, 1]); write(a[f + 1, 2 div (f - 1)]) end.
indexes_are_checked_one_by_one_in_iso_and_hp : InEach (Iso ∷ Hp ∷ []) (λ d. whole d (Ordinal WholeHost (pos 1) (pos 2) ∷ Ordinal WholeHost (pos 1) (pos 2) ∷ Array false 6 integer ∷ Array false 5 7 ∷ []) (function 1 Program [] (of_type integer 2) [] (perform call.Write (shown (letter 102) ∷ []) ∷ assign_to integer (outcome 2 integer) [] (num 1) ∷ []) ∷ []) [] (of_type 8 1 ∷ []) [] (assign_to integer (variable 1 8) (selector.Index (num 1) 8 7 ∷ selector.Index (call (CalleeRoutine 1) [] integer) 7 integer ∷ []) (num 3) ∷ perform call.Write (shown (read (variable 1 8) (selector.Index (num 1) 8 7 ∷ selector.Index (num 1) 7 integer ∷ [])) ∷ []) ∷ perform call.Write (shown (read (variable 1 8) (selector.Index (chain (call (CalleeRoutine 1) [] integer) ((op.Add, num 1, integer) ∷ [])) 8 7 ∷ selector.Index (chain (num 2) ((op.Div, chain (call (CalleeRoutine 1) [] integer) ((op.Sub, num 1, integer) ∷ []), integer) ∷ [])) 7 integer ∷ [])) ∷ []) ∷ [])) [] 9 (End (codes "f3ff") 200 (1 ∷ 1 ∷ 1 ∷ []))
unfolding run
indexes_are_checked_one_by_one_in_iso_and_hp = (refl, (refl, tt))

indexes_are_checked_one_by_one_in_turbo_and_ucsd : InEach (Turbo ∷ Ucsd ∷ []) (λ d. whole d (Ordinal WholeHost (pos 1) (pos 2) ∷ Ordinal WholeHost (pos 1) (pos 2) ∷ Array false 6 small ∷ Array false 5 7 ∷ []) (function 1 Program [] (of_type small 2) [] (perform call.Write (shown (letter 102) ∷ []) ∷ assign_to small (outcome 2 small) [] (num 1) ∷ []) ∷ []) [] (of_type 8 1 ∷ []) [] (assign_to small (variable 1 8) (selector.Index (num 1) 8 7 ∷ selector.Index (call (CalleeRoutine 1) [] small) 7 small ∷ []) (num 3) ∷ perform call.Write (shown (read (variable 1 8) (selector.Index (num 1) 8 7 ∷ selector.Index (num 1) 7 small ∷ [])) ∷ []) ∷ perform call.Write (shown (read (variable 1 8) (selector.Index (chain (call (CalleeRoutine 1) [] small) ((op.Add, num 1, small) ∷ [])) 8 7 ∷ selector.Index (chain (num 2) ((op.Div, chain (call (CalleeRoutine 1) [] small) ((op.Sub, num 1, small) ∷ []), small) ∷ [])) 7 small ∷ [])) ∷ []) ∷ [])) [] 9 (End (codes "f3ff") 200 (1 ∷ 1 ∷ 1 ∷ []))
unfolding run
indexes_are_checked_one_by_one_in_turbo_and_ucsd = (refl, (refl, tt))

-- var a: array ['a'..'c'] of integer; c: char; begin for c := 'a' to 'c' do a[c] := ord(c); write(a['b']) end.
index_by_a_character_in_iso_and_hp : InEach (Iso ∷ Hp ∷ []) (λ d. whole d (Ordinal CharHost (pos 97) (pos 99) ∷ Array false 5 integer ∷ []) [] [] (of_type 6 1 ∷ of_type char 2 ∷ []) [] (for_of char 2 false (letter 97) (letter 99) (assign_to integer (variable 1 6) (selector.Index (read (variable 2 char) []) 6 integer ∷ []) (predefined call.Ord (value_for char (read (variable 2 char) []) ∷ []) integer)) ∷ perform call.Write (shown (read (variable 1 6) (selector.Index (letter 98) 6 integer ∷ [])) ∷ []) ∷ [])) [] 3 (End (codes "98") 0 [])
unfolding run
index_by_a_character_in_iso_and_hp = (refl, (refl, tt))

index_by_a_character_in_turbo_and_ucsd : InEach (Turbo ∷ Ucsd ∷ []) (λ d. whole d (Ordinal CharHost (pos 97) (pos 99) ∷ Array false 5 small ∷ []) [] [] (of_type 6 1 ∷ of_type char 2 ∷ []) [] (for_of char 2 false (letter 97) (letter 99) (assign_to small (variable 1 6) (selector.Index (read (variable 2 char) []) 6 small ∷ []) (predefined call.Ord (value_for char (read (variable 2 char) []) ∷ []) small)) ∷ perform call.Write (shown (read (variable 1 6) (selector.Index (letter 98) 6 small ∷ [])) ∷ []) ∷ [])) [] 3 (End (codes "98") 0 [])
unfolding run
index_by_a_character_in_turbo_and_ucsd = (refl, (refl, tt))

-- var a: array [Boolean] of integer; begin a[false] := 1; a[true] := 2; write(a[1 < 2], a[1 > 2]) end.
index_by_a_truth_value_in_iso_and_hp : InEach (Iso ∷ Hp ∷ []) (λ d. whole d (Array false boolean integer ∷ []) [] [] (of_type 5 1 ∷ []) [] (assign_to integer (variable 1 5) (selector.Index (truth 0) 5 integer ∷ []) (num 1) ∷ assign_to integer (variable 1 5) (selector.Index (truth 1) 5 integer ∷ []) (num 2) ∷ perform call.Write (shown (read (variable 1 5) (selector.Index (chain (num 1) ((op.Less, num 2, boolean) ∷ [])) 5 integer ∷ [])) ∷ shown (read (variable 1 5) (selector.Index (chain (num 1) ((op.Greater, num 2, boolean) ∷ [])) 5 integer ∷ [])) ∷ []) ∷ [])) [] 0 (End (codes "21") 0 [])
unfolding run
index_by_a_truth_value_in_iso_and_hp = (refl, (refl, tt))

index_by_a_truth_value_in_turbo_and_ucsd : InEach (Turbo ∷ Ucsd ∷ []) (λ d. whole d (Array false boolean small ∷ []) [] [] (of_type 5 1 ∷ []) [] (assign_to small (variable 1 5) (selector.Index (truth 0) 5 small ∷ []) (num 1) ∷ assign_to small (variable 1 5) (selector.Index (truth 1) 5 small ∷ []) (num 2) ∷ perform call.Write (shown (read (variable 1 5) (selector.Index (chain (num 1) ((op.Less, num 2, boolean) ∷ [])) 5 small ∷ [])) ∷ shown (read (variable 1 5) (selector.Index (chain (num 1) ((op.Greater, num 2, boolean) ∷ [])) 5 small ∷ [])) ∷ []) ∷ [])) [] 0 (End (codes "21") 0 [])
unfolding run
index_by_a_truth_value_in_turbo_and_ucsd = (refl, (refl, tt))

-- copying reads nothing
-- var a, b: array [1..2] of integer; begin a[1] := 1; b := a; write(b[1]); write(b[2]) end.
copy_of_an_undefined_component_in_iso_and_hp : InEach (Iso ∷ Hp ∷ []) (λ d. whole d (Ordinal WholeHost (pos 1) (pos 2) ∷ Array false 5 integer ∷ []) [] [] (of_type 6 1 ∷ of_type 6 2 ∷ []) [] (assign_to integer (variable 1 6) (selector.Index (num 1) 6 integer ∷ []) (num 1) ∷ assign_to 6 (variable 2 6) [] (read (variable 1 6) []) ∷ perform call.Write (shown (read (variable 2 6) (selector.Index (num 1) 6 integer ∷ [])) ∷ []) ∷ perform call.Write (shown (read (variable 2 6) (selector.Index (num 2) 6 integer ∷ [])) ∷ []) ∷ [])) [] 0 (UndefinedAfter (codes "1") [])
unfolding run
copy_of_an_undefined_component_in_iso_and_hp = (refl, (refl, tt))

copy_of_an_undefined_component_in_turbo_and_ucsd : InEach (Turbo ∷ Ucsd ∷ []) (λ d. whole d (Ordinal WholeHost (pos 1) (pos 2) ∷ Array false 5 small ∷ []) [] [] (of_type 6 1 ∷ of_type 6 2 ∷ []) [] (assign_to small (variable 1 6) (selector.Index (num 1) 6 small ∷ []) (num 1) ∷ assign_to 6 (variable 2 6) [] (read (variable 1 6) []) ∷ perform call.Write (shown (read (variable 2 6) (selector.Index (num 1) 6 small ∷ [])) ∷ []) ∷ perform call.Write (shown (read (variable 2 6) (selector.Index (num 2) 6 small ∷ [])) ∷ []) ∷ [])) [] 0 (UndefinedAfter (codes "1") [])
unfolding run
copy_of_an_undefined_component_in_turbo_and_ucsd = (refl, (refl, tt))

-- var r, s: record a: integer; b: char end; begin r.a := 1; r.b := 'x'; s := r; r.a := 2; write(s.a, s.b, r.a) end.
copy_of_a_record_in_iso_and_hp : InEach (Iso ∷ Hp ∷ []) (λ d. whole d (RecordOf false (field 1 integer ∷ field 2 char ∷ []) None ∷ []) [] [] (of_type 5 3 ∷ of_type 5 4 ∷ []) [] (assign_to integer (variable 3 5) (selector.Field 1 integer ∷ []) (num 1) ∷ assign_to char (variable 3 5) (selector.Field 2 char ∷ []) (letter 120) ∷ assign_to 5 (variable 4 5) [] (read (variable 3 5) []) ∷ assign_to integer (variable 3 5) (selector.Field 1 integer ∷ []) (num 2) ∷ perform call.Write (shown (read (variable 4 5) (selector.Field 1 integer ∷ [])) ∷ shown (read (variable 4 5) (selector.Field 2 char ∷ [])) ∷ shown (read (variable 3 5) (selector.Field 1 integer ∷ [])) ∷ []) ∷ [])) [] 0 (End (codes "1x2") 0 [])
unfolding run
copy_of_a_record_in_iso_and_hp = (refl, (refl, tt))

copy_of_a_record_in_turbo_and_ucsd : InEach (Turbo ∷ Ucsd ∷ []) (λ d. whole d (RecordOf false (field 1 small ∷ field 2 char ∷ []) None ∷ []) [] [] (of_type 5 3 ∷ of_type 5 4 ∷ []) [] (assign_to small (variable 3 5) (selector.Field 1 small ∷ []) (num 1) ∷ assign_to char (variable 3 5) (selector.Field 2 char ∷ []) (letter 120) ∷ assign_to 5 (variable 4 5) [] (read (variable 3 5) []) ∷ assign_to small (variable 3 5) (selector.Field 1 small ∷ []) (num 2) ∷ perform call.Write (shown (read (variable 4 5) (selector.Field 1 small ∷ [])) ∷ shown (read (variable 4 5) (selector.Field 2 char ∷ [])) ∷ shown (read (variable 3 5) (selector.Field 1 small ∷ [])) ∷ []) ∷ [])) [] 0 (End (codes "1x2") 0 [])
unfolding run
copy_of_a_record_in_turbo_and_ucsd = (refl, (refl, tt))

-- then the value is evaluated
-- var a: array [1..2] of integer; i: integer; function f: integer; begin i := 2; f := 7 end; begin i := 1; a[2] := 0; a[i] := f; write(a[1], a[2]) end.
target_is_selected_first_in_iso_and_hp : InEach (Iso ∷ Hp ∷ []) (λ d. whole d (Ordinal WholeHost (pos 1) (pos 2) ∷ Array false 5 integer ∷ []) (function 1 Program [] (of_type integer 3) [] (assign_to integer (variable 2 integer) [] (num 2) ∷ assign_to integer (outcome 3 integer) [] (num 7) ∷ []) ∷ []) [] (of_type 6 1 ∷ of_type integer 2 ∷ []) [] (assign_to integer (variable 2 integer) [] (num 1) ∷ assign_to integer (variable 1 6) (selector.Index (num 2) 6 integer ∷ []) (num 0) ∷ assign_to integer (variable 1 6) (selector.Index (read (variable 2 integer) []) 6 integer ∷ []) (call (CalleeRoutine 1) [] integer) ∷ perform call.Write (shown (read (variable 1 6) (selector.Index (num 1) 6 integer ∷ [])) ∷ shown (read (variable 1 6) (selector.Index (num 2) 6 integer ∷ [])) ∷ []) ∷ [])) [] 1 (End (codes "70") 0 (1 ∷ []))
unfolding run
target_is_selected_first_in_iso_and_hp = (refl, (refl, tt))

target_is_selected_first_in_turbo_and_ucsd : InEach (Turbo ∷ Ucsd ∷ []) (λ d. whole d (Ordinal WholeHost (pos 1) (pos 2) ∷ Array false 5 small ∷ []) (function 1 Program [] (of_type small 3) [] (assign_to small (variable 2 small) [] (num 2) ∷ assign_to small (outcome 3 small) [] (num 7) ∷ []) ∷ []) [] (of_type 6 1 ∷ of_type small 2 ∷ []) [] (assign_to small (variable 2 small) [] (num 1) ∷ assign_to small (variable 1 6) (selector.Index (num 2) 6 small ∷ []) (num 0) ∷ assign_to small (variable 1 6) (selector.Index (read (variable 2 small) []) 6 small ∷ []) (call (CalleeRoutine 1) [] small) ∷ perform call.Write (shown (read (variable 1 6) (selector.Index (num 1) 6 small ∷ [])) ∷ shown (read (variable 1 6) (selector.Index (num 2) 6 small ∷ [])) ∷ []) ∷ [])) [] 1 (End (codes "70") 0 (1 ∷ []))
unfolding run
target_is_selected_first_in_turbo_and_ucsd = (refl, (refl, tt))

-- var z: packed array [1..3] of char; begin z := 'abc'; write(z); z[2] := 'x'; write(z) end.
fixed_string : InEach (Iso ∷ Hp ∷ Ucsd ∷ []) (λ d. whole d (Ordinal WholeHost (pos 1) (pos 3) ∷ Array true 5 char ∷ Literal 3 ∷ []) [] [] (of_type 6 1 ∷ []) [] (assign_to 6 (variable 1 6) [] (quoted 7 (codes "abc")) ∷ perform call.Write (shown (read (variable 1 6) []) ∷ []) ∷ assign_to char (variable 1 6) (selector.Index (num 2) 6 char ∷ []) (letter 120) ∷ perform call.Write (shown (read (variable 1 6) []) ∷ []) ∷ [])) [] 0 (End (codes "abcaxc") 0 [])
unfolding run
fixed_string = (refl, (refl, (refl, tt)))

-- var z: array [1..3] of char; begin z := 'abc'; write(z) end.
fixed_string_without_packed : run (whole Turbo (Ordinal WholeHost (pos 1) (pos 3) ∷ Array false 5 char ∷ Literal 3 ∷ []) [] [] (of_type 6 1 ∷ []) [] (assign_to 6 (variable 1 6) [] (quoted 7 (codes "abc")) ∷ perform call.Write (shown (read (variable 1 6) []) ∷ []) ∷ [])) [] 0 ≡ End (codes "abc") 0 []
unfolding run
fixed_string_without_packed = refl

-- all of the packed array is wanted, else nothing is assigned
-- var a: array [1..5] of char; z: packed array [1..3] of char; i: integer; begin for i := 1 to 5 do a[i] := chr(96 + i); pack(a, 2, z); write(z); pack(a, 4, z) end.
pack_from_an_index : InEach (Iso ∷ Hp ∷ []) (λ d. whole d (Ordinal WholeHost (pos 1) (pos 5) ∷ Array false 5 char ∷ Ordinal WholeHost (pos 1) (pos 3) ∷ Array true 7 char ∷ []) [] [] (of_type 6 1 ∷ of_type 8 2 ∷ of_type integer 3 ∷ []) [] (for_of integer 3 false (num 1) (num 5) (assign_to char (variable 1 6) (selector.Index (read (variable 3 integer) []) 6 char ∷ []) (predefined call.Chr (value_for integer (chain (num 96) ((op.Add, read (variable 3 integer) [], integer) ∷ [])) ∷ []) char)) ∷ perform call.Pack (value_for 6 (read (variable 1 6) []) ∷ value_for integer (num 2) ∷ by_reference (variable 2 8) [] ∷ []) ∷ perform call.Write (shown (read (variable 2 8) []) ∷ []) ∷ perform call.Pack (value_for 6 (read (variable 1 6) []) ∷ value_for integer (num 4) ∷ by_reference (variable 2 8) [] ∷ []) ∷ [])) [] 5 (End (codes "bcd") 201 [])
unfolding run
pack_from_an_index = (refl, (refl, tt))

-- var a: array [1..5] of char; z: packed array [1..3] of char; i: integer; begin for i := 1 to 5 do a[i] := '-'; z := 'xyz'; unpack(z, a, 3); for i := 1 to 5 do write(a[i]); unpack(z, a, 0) end.
unpack_to_an_index : InEach (Iso ∷ Hp ∷ []) (λ d. whole d (Ordinal WholeHost (pos 1) (pos 5) ∷ Array false 5 char ∷ Ordinal WholeHost (pos 1) (pos 3) ∷ Array true 7 char ∷ Literal 3 ∷ []) [] [] (of_type 6 1 ∷ of_type 8 2 ∷ of_type integer 3 ∷ []) [] (for_of integer 3 false (num 1) (num 5) (assign_to char (variable 1 6) (selector.Index (read (variable 3 integer) []) 6 char ∷ []) (letter 45)) ∷ assign_to 8 (variable 2 8) [] (quoted 9 (codes "xyz")) ∷ perform call.Unpack (value_for 8 (read (variable 2 8) []) ∷ by_reference (variable 1 6) [] ∷ value_for integer (num 3) ∷ []) ∷ for_of integer 3 false (num 1) (num 5) (perform call.Write (shown (read (variable 1 6) (selector.Index (read (variable 3 integer) []) 6 char ∷ [])) ∷ [])) ∷ perform call.Unpack (value_for 8 (read (variable 2 8) []) ∷ by_reference (variable 1 6) [] ∷ value_for integer (num 0) ∷ []) ∷ [])) [] 10 (End (codes "--xyz") 201 [])
unfolding run
unpack_to_an_index = (refl, (refl, tt))

-- var a: array [1..3] of char; z: packed array [1..2] of char; begin a[1] := 'a'; write('x'); pack(a, 1, z) end.
pack_reads_its_components : InEach (Iso ∷ Hp ∷ []) (λ d. whole d (Ordinal WholeHost (pos 1) (pos 3) ∷ Array false 5 char ∷ Ordinal WholeHost (pos 1) (pos 2) ∷ Array true 7 char ∷ []) [] [] (of_type 6 1 ∷ of_type 8 2 ∷ []) [] (assign_to char (variable 1 6) (selector.Index (num 1) 6 char ∷ []) (letter 97) ∷ perform call.Write (shown (letter 120) ∷ []) ∷ perform call.Pack (value_for 6 (read (variable 1 6) []) ∷ value_for integer (num 1) ∷ by_reference (variable 2 8) [] ∷ []) ∷ [])) [] 0 (UndefinedAfter (codes "x") [])
unfolding run
pack_reads_its_components = (refl, (refl, tt))

-- an undefined field is copied
-- type r = record b, c: integer end; var a: array [1..2] of r; z: packed array [1..2] of r; begin a[1].b := 1; a[2].b := 2; pack(a, 1, z); write(z[1].b, z[2].b); write(z[1].c) end.
pack_copies_records : InEach (Iso ∷ Hp ∷ []) (λ d. whole d (RecordOf false (field 1 integer ∷ field 2 integer ∷ []) None ∷ Ordinal WholeHost (pos 1) (pos 2) ∷ Array false 6 5 ∷ Ordinal WholeHost (pos 1) (pos 2) ∷ Array true 8 5 ∷ []) [] [] (of_type 7 3 ∷ of_type 9 4 ∷ []) [] (assign_to integer (variable 3 7) (selector.Index (num 1) 7 5 ∷ selector.Field 1 integer ∷ []) (num 1) ∷ assign_to integer (variable 3 7) (selector.Index (num 2) 7 5 ∷ selector.Field 1 integer ∷ []) (num 2) ∷ perform call.Pack (value_for 7 (read (variable 3 7) []) ∷ value_for integer (num 1) ∷ by_reference (variable 4 9) [] ∷ []) ∷ perform call.Write (shown (read (variable 4 9) (selector.Index (num 1) 9 5 ∷ selector.Field 1 integer ∷ [])) ∷ shown (read (variable 4 9) (selector.Index (num 2) 9 5 ∷ selector.Field 1 integer ∷ [])) ∷ []) ∷ perform call.Write (shown (read (variable 4 9) (selector.Index (num 1) 9 5 ∷ selector.Field 2 integer ∷ [])) ∷ []) ∷ [])) [] 0 (UndefinedAfter (codes "12") [])
unfolding run
pack_copies_records = (refl, (refl, tt))

-- var z, y: packed array [1..3] of char; begin z := 'abc'; y := 'abd'; write(z < y, z = y, z <> y, z >= y, y > z, z <= 'abc') end.
fixed_strings_are_compared : InEach (Iso ∷ Turbo ∷ Ucsd ∷ Hp ∷ []) (λ d. whole d (Ordinal WholeHost (pos 1) (pos 3) ∷ Array true 5 char ∷ Literal 3 ∷ []) [] [] (of_type 6 1 ∷ of_type 6 2 ∷ []) [] (assign_to 6 (variable 1 6) [] (quoted 7 (codes "abc")) ∷ assign_to 6 (variable 2 6) [] (quoted 7 (codes "abd")) ∷ perform call.Write (shown (chain (read (variable 1 6) []) ((op.Less, read (variable 2 6) [], boolean) ∷ [])) ∷ shown (chain (read (variable 1 6) []) ((op.Equal, read (variable 2 6) [], boolean) ∷ [])) ∷ shown (chain (read (variable 1 6) []) ((op.Unequal, read (variable 2 6) [], boolean) ∷ [])) ∷ shown (chain (read (variable 1 6) []) ((op.GreaterEq, read (variable 2 6) [], boolean) ∷ [])) ∷ shown (chain (read (variable 2 6) []) ((op.Greater, read (variable 1 6) [], boolean) ∷ [])) ∷ shown (chain (read (variable 1 6) []) ((op.LessEq, quoted 7 (codes "abc"), boolean) ∷ [])) ∷ []) ∷ [])) [] 0 (End (codes "TRUEFALSETRUEFALSETRUETRUE") 0 [])
unfolding run
fixed_strings_are_compared = (refl, (refl, (refl, (refl, tt))))
