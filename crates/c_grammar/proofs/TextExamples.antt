-- Worked examples: texts, by what follows the head lines. A failing demand is named by the number of tokens before it.
use Rattle.std.proofs.Common.{◌≡◌, [], ◌∷◌, refl}
use Rattle.std.specs.Prelude.{codes}
use Rattle.c_grammar.specs.declared.fault.CTextKind.TheVariants.{BadGoto, DoubleName, BadType}
use Rattle.c_grammar.proofs.Worked.{tokens_of, tree_of, Shows, levels_of}

writes_a_byte : Shows (codes "int main(void) { putchar(INT64_C(104)); return INT64_C(0); }") []
unfolding tokens_of tree_of
writes_a_byte = (refl, refl)

-- ---- gotos

goto_in_the_same_list : Shows (codes "int main(void) { goto a; a: ; }") []
unfolding tokens_of tree_of
goto_in_the_same_list = (refl, refl)

goto_out_of_a_loop : Shows (codes "int main(void) { while (NULL) { if (NULL) { goto a; } else { goto a; } } a: ; }") []
unfolding tokens_of tree_of
goto_out_of_a_loop = (refl, refl)

goto_into_a_loop : Shows (codes "int main(void) { goto a; while (NULL) { a: ; } }") ((7, BadGoto) ∷ [])
unfolding tokens_of tree_of
goto_into_a_loop = (refl, refl)

goto_into_the_other_branch : Shows (codes "int main(void) { if (NULL) { goto a; } else { a: ; } }") ((12, BadGoto) ∷ [])
unfolding tokens_of tree_of
goto_into_the_other_branch = (refl, refl)

-- ---- names

equal_labels : Shows (codes "int main(void) { a: ; if (NULL) { a: ; } else { b: ; a: ; } }") ((14, DoubleName) ∷ (23, DoubleName) ∷ [])
unfolding tokens_of tree_of
equal_labels = (refl, refl)

labels_of_two_functions : Shows (codes "void f(void) { a: ; } int main(void) { int64_t a; a: ; }") []
unfolding tokens_of tree_of
labels_of_two_functions = (refl, refl)

local_as_a_parameter : Shows (codes "void f(int64_t a) { int64_t a; } int main(void) { }") ((8, DoubleName) ∷ [])
unfolding tokens_of tree_of
local_as_a_parameter = (refl, refl)

equal_parameters : Shows (codes "void f(int64_t a, int64_t a); int main(void) { }") ((7, DoubleName) ∷ [])
unfolding tokens_of tree_of
equal_parameters = (refl, refl)

function_as_a_global : Shows (codes "int64_t a; void a(void) { } int main(void) { }") ((4, DoubleName) ∷ [])
unfolding tokens_of tree_of
function_as_a_global = (refl, refl)

global_as_a_typedef : Shows (codes "typedef void (*a)(void); int64_t a; int main(void) { }") ((11, DoubleName) ∷ [])
unfolding tokens_of tree_of
global_as_a_typedef = (refl, refl)

announced_twice : Shows (codes "void f(void); void f(void); void f(void) { } int main(void) { }") []
unfolding tokens_of tree_of
announced_twice = (refl, refl)

equal_functions : Shows (codes "void f(void) { } void f(void) { } int main(void) { }") ((8, DoubleName) ∷ [])
unfolding tokens_of tree_of
equal_functions = (refl, refl)

equal_structs_and_members : Shows (codes "struct s { int64_t a; int64_t a; }; struct s { int64_t a; }; int main(void) { }") ((7, DoubleName) ∷ (12, DoubleName) ∷ [])
unfolding tokens_of tree_of
equal_structs_and_members = (refl, refl)

two_forward_lines : Shows (codes "struct s; struct s; struct s { int64_t s; }; int64_t s; int main(void) { }") ((4, DoubleName) ∷ [])
unfolding tokens_of tree_of
two_forward_lines = (refl, refl)

-- ---- types

pointer_to_itself : Shows (codes "struct s { struct s *next; }; int main(void) { struct s *a; a = ((struct s *) NULL); }") []
unfolding tokens_of tree_of
pointer_to_itself = (refl, refl)

itself_by_value : Shows (codes "struct s { struct s next; }; int main(void) { }") ((4, BadType) ∷ [])
unfolding tokens_of tree_of
itself_by_value = (refl, refl)

forwarded_behind_a_pointer : Shows (codes "struct s; struct t { struct s *a; }; struct s a; int main(void) { struct s *b; }") ((14, BadType) ∷ [])
unfolding tokens_of tree_of
forwarded_behind_a_pointer = (refl, refl)

forwarded_in_a_typedef : Shows (codes "struct s; typedef struct s (*f)(struct s, struct t *); int main(void) { f a; g b; }") ((15, BadType) ∷ (28, BadType) ∷ [])
unfolding tokens_of tree_of
forwarded_in_a_typedef = (refl, refl)

not_declared : Shows (codes "int main(void) { a = malloc(sizeof(struct s)); a = ((struct s *) a); }") ((13, BadType) ∷ (22, BadType) ∷ [])
unfolding tokens_of tree_of
not_declared = (refl, refl)

array_lengths : Shows (codes "struct s { int64_t a[0]; int64_t b[1]; int64_t c[16777215]; }; int main(void) { }") ((6, BadType) ∷ [])
unfolding tokens_of tree_of
array_lengths = (refl, refl)

too_many_cells : Shows (codes "struct s { int64_t a; int64_t c[16777216]; }; struct t { struct s *a[16777216]; }; struct u { struct t a[2]; }; int main(void) { }") ((1, BadType) ∷ (28, BadType) ∷ (34, BadType) ∷ [])
unfolding tokens_of tree_of
too_many_cells = (refl, refl)

-- ---- nesting

nested : levels_of (codes "int main(void) { while (a[INT64_C(1)].b) { (* p).c = (- (a + b)); } }") ≡ ((6, 1) ∷ (8, 2) ∷ (10, 3) ∷ (19, 2) ∷ (21, 3) ∷ (26, 3) ∷ (28, 4) ∷ (29, 5) ∷ (31, 5) ∷ [])
unfolding tokens_of tree_of
nested = refl
