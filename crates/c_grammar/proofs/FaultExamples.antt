-- Worked examples: one whole text with its tree, and faults.
use Rattle.std.proofs.Common.{◌≡◌, ℕ, ◌<◌, List, [], ◌∷◌, ◌++◌, length, Some, None, refl, sym, ap, inl, inr, lit<, arith}
use Rattle.std.specs.Prelude.{codes, slice_index}
use Rattle.c_tree.specs.Tree.{Null, Number, PutChar, While, Goto, Label, Return, Empty, Then}
use Rattle.c_tree.specs.declared.program.CProgram.{CProgram}
use Rattle.c_grammar.specs.declared.fault.CTextKind.TheVariants.{BadByte, BadGoto, NoMain}
use Rattle.c_grammar.specs.Token.{Identifier, placed, form, form_by, nothing, head_lines}
use Rattle.c_grammar.specs.Grammar.{IsName, IsProgram}
use Rattle.c_grammar.specs.Demands.{Leads, program_demands}
use Rattle.c_grammar.specs.Text.{CText, IsCTree, Faults}
use Rattle.c_grammar.proofs.Worked.{placed_of, are_tokens}
use Rattle.c_grammar.proofs.Deciding.{none_failing}

abbrev body : List ℕ
body = codes "int main(void) { putchar(INT64_C(104)); return INT64_C(0); }"

abbrev tree : CProgram
tree = record {
  forwards = [];
  declarations = [];
  globals = [];
  prototypes = [];
  functions = [];
  main = record { locals = []; body = PutChar (Number 104) ∷ Return (Some (Number 0)) ∷ [] };
}

is_tree : IsCTree tree
is_tree = record { of_grammar = (tt, tt, tt, tt, tt, (tt, (lit< tt, (lit< tt, tt)))); conditions = none_failing (program_demands tree) refl }

writes_a_byte : CText (head_lines ++ body) tree
unfolding placed_of
writes_a_byte = record { tokens = placed_of body; cut = are_tokens body _ _ refl; spelled = refl; tree = is_tree }

-- ---- faults

differ : (a b : ℕ) (more others : List ℕ) → a < b → b ∷ more ≡ a ∷ others → ⊥
differ a b more others h e = let same : b ≡ a = ap (λ l. slice_index l 0) e in omega arith

-- the first line is `/* p2c 2 */`
other_version : Faults (codes "/* p2c 2 */\n") BadByte 7
other_version = inl (codes "/* p2c ", 49, codes " */\n#include <stdint.h>\n#include <stdio.h>\n#include <stdlib.h>\n", codes "2 */\n", refl, refl, (λ more e. differ 49 50 _ more (lit< tt) e), refl)

-- the text ends within the head lines
no_text : Faults [] BadByte 0
no_text = inl ([], 47, codes "* p2c 1 */\n#include <stdint.h>\n#include <stdio.h>\n#include <stdlib.h>\n", [], refl, refl, (λ more e. cc), refl)

head_lines_alone : Faults head_lines NoMain (length head_lines)
head_lines_alone = ([], ([], refl, nothing (length head_lines) []), (λ h. omega (arith, h.1)), refl)

too_long : (b c : ℕ) (front after : List ℕ) → codes "@" ≡ b ∷ c ∷ front ++ after → ⊥
too_long b c front after e = let same : 1 ≡ length (b ∷ c ∷ front ++ after) = ap length e in grind arith

no_form : (front after : List ℕ) → codes "@" ≡ front ++ after → form front ≡ None
unfolding form_by
no_form [] after e = refl
no_form (b ∷ []) after e = let same : 64 ≡ b = ap (λ l. slice_index l 0) e in ap (λ k. form (k ∷ [])) (sym same)
no_form (b ∷ c ∷ front) after e = absurd (too_long b c front after e)

-- after the head lines an `@`
at_sign : Faults (head_lines ++ codes "@") BadByte (length head_lines)
at_sign = inr ([], 64, [], (codes "@", refl, nothing (length head_lines) (codes "@")), refl, no_form, refl)

-- ---- a goto into a loop

abbrev into_a_loop : List ℕ
into_a_loop = codes "int main(void) { goto a; while (NULL) { a: ; } }"

abbrev loop_tree : CProgram
loop_tree = record {
  forwards = [];
  declarations = [];
  globals = [];
  prototypes = [];
  functions = [];
  main = record { locals = []; body = Goto (codes "a") ∷ While Null (Then (Label (codes "a")) Empty) ∷ [] };
}

name_a : IsName (codes "a")
unfolding form_by
name_a = refl

loop_is : IsProgram loop_tree
loop_is = (tt, tt, tt, tt, tt, (tt, (name_a, ((tt, (name_a, tt)), tt))))

bad_goto : Faults (head_lines ++ into_a_loop) BadGoto 93
unfolding placed_of
bad_goto = (placed_of into_a_loop, loop_tree, are_tokens into_a_loop _ _ refl, record { of_grammar = loop_is; spelled = refl }, 7, Leads (codes "a") [], (1, lit< tt, refl), refl, (λ h. cc), placed (Identifier (codes "a")) 93, refl, refl)
