-- The tokens determine the tree, and so do the bytes.
use Rattle.std.proofs.Common.{◌≡◌, ℕ, ◌+◌, ◌≤◌, List, [], ◌∷◌, ◌++◌, refl, sym, ◌∙◌, ap, arith}
use Rattle.std.proofs.lemmas.List.{append-nil}
use Rattle.std.specs.Prelude.{map}
use Rattle.c_tree.specs.declared.program.CVariable.{CVariable}
use Rattle.c_tree.specs.declared.program.CDeclaration.{CDeclaration}
use Rattle.c_tree.specs.declared.program.CPrototype.{CPrototype}
use Rattle.c_tree.specs.declared.program.CFunction.{CFunction}
use Rattle.c_tree.specs.declared.program.CMain.{CMain}
use Rattle.c_tree.specs.declared.program.CProgram.{CProgram}
use Rattle.c_grammar.specs.Token.{Token}
use Rattle.c_grammar.specs.Spelling.{Spelling, spell_all, spell_forward, spell_declaration, spell_variable_line, spell_prototype, spell_function, spell_main, program_tokens}
use Rattle.c_grammar.specs.Text.{CText, plain}
use Rattle.c_grammar.proofs.ReadingProgram.{Part, Forward, Declaration, Global, Prototype, Function, spell_part, read_program}
use Rattle.c_grammar.proofs.ReadsList.{list_need}
use Rattle.c_grammar.proofs.ReadsProgram.{part_need, block_need, program_read}
use Rattle.c_grammar.proofs.Unique.{same_tokens}

-- ---- a program as a list of parts

abbrev pub parts : CProgram → List Part
parts c = map Forward c.forwards ++ (map Declaration c.declarations ++ (map Global c.globals ++ (map Prototype c.prototypes ++ (map Function c.functions ++ []))))

spell_mapped : {A : Type 0} (as_part : A → Part) (spell : Spelling A) → ((a : A) (rest : List Token) → spell_part (as_part a) rest ≡ spell a rest)
    → (all : List A) (more : List Part) (rest : List Token) → spell_all spell_part (map as_part all ++ more) rest ≡ spell_all spell all (spell_all spell_part more rest)
spell_mapped as_part spell same [] more rest = refl
spell_mapped as_part spell same (a ∷ all) more rest = same a (spell_all spell_part (map as_part all ++ more) rest) ∙ ap (spell a) (spell_mapped as_part spell same all more rest)

pub spelled : (c : CProgram) → spell_all spell_part (parts c) (spell_main c.main []) ≡ program_tokens c
spelled c =
    let m = spell_main c.main [] in
    spell_mapped Forward spell_forward (λ a rest. refl) c.forwards _ m
    ∙ ap (spell_all spell_forward c.forwards) (spell_mapped Declaration spell_declaration (λ a rest. refl) c.declarations _ m
    ∙ ap (spell_all spell_declaration c.declarations) (spell_mapped Global spell_variable_line (λ a rest. refl) c.globals _ m
    ∙ ap (spell_all spell_variable_line c.globals) (spell_mapped Prototype spell_prototype (λ a rest. refl) c.prototypes _ m
    ∙ ap (spell_all spell_prototype c.prototypes) (spell_mapped Function spell_function (λ a rest. refl) c.functions [] m))))

-- ---- the parts by their kinds

abbrev pub forwards_in : List Part → List (List ℕ)
forwards_in [] = []
forwards_in (Forward n ∷ more) = n ∷ forwards_in more
forwards_in (p ∷ more) = forwards_in more

abbrev pub declarations_in : List Part → List CDeclaration
declarations_in [] = []
declarations_in (Declaration d ∷ more) = d ∷ declarations_in more
declarations_in (p ∷ more) = declarations_in more

abbrev pub globals_in : List Part → List CVariable
globals_in [] = []
globals_in (Global v ∷ more) = v ∷ globals_in more
globals_in (p ∷ more) = globals_in more

abbrev pub prototypes_in : List Part → List CPrototype
prototypes_in [] = []
prototypes_in (Prototype p ∷ more) = p ∷ prototypes_in more
prototypes_in (p ∷ more) = prototypes_in more

abbrev pub functions_in : List Part → List CFunction
functions_in [] = []
functions_in (Function f ∷ more) = f ∷ functions_in more
functions_in (p ∷ more) = functions_in more

-- a function that keeps what stands for some parts gives them all
kept : {A B : Type 0} (as_part : A → Part) (items : List Part → List B) (from : A → B) → ((a : A) (more : List Part) → items (as_part a ∷ more) ≡ from a ∷ items more)
    → (all : List A) (more : List Part) → items (map as_part all ++ more) ≡ map from all ++ items more
kept as_part items from keeps [] more = refl
kept as_part items from keeps (a ∷ all) more = keeps a (map as_part all ++ more) ∙ ap (λ l. from a ∷ l) (kept as_part items from keeps all more)

skipped : {A B : Type 0} (as_part : A → Part) (items : List Part → List B) → ((a : A) (more : List Part) → items (as_part a ∷ more) ≡ items more)
    → (all : List A) (more : List Part) → items (map as_part all ++ more) ≡ items more
skipped as_part items skips [] more = refl
skipped as_part items skips (a ∷ all) more = skips a (map as_part all ++ more) ∙ skipped as_part items skips all more

map_itself : {A : Type 0} (all : List A) → map (λ (a : A). a) all ≡ all
map_itself [] = refl
map_itself (a ∷ all) = ap (λ l. a ∷ l) (map_itself all)

all_kept : {A : Type 0} (all : List A) (rest : List A) → rest ≡ [] → map (λ (a : A). a) all ++ rest ≡ all
all_kept all rest e = ap (λ r. map (λ a. a) all ++ r) e ∙ append-nil (map (λ a. a) all) ∙ map_itself all

module _ (c : CProgram) where
  forwards_are : forwards_in (parts c) ≡ c.forwards
  forwards_are =
      kept Forward forwards_in (λ a. a) (λ a more. refl) c.forwards _
      ∙ all_kept c.forwards _ (skipped Declaration forwards_in (λ a more. refl) c.declarations _ ∙ skipped Global forwards_in (λ a more. refl) c.globals _
      ∙ skipped Prototype forwards_in (λ a more. refl) c.prototypes _ ∙ skipped Function forwards_in (λ a more. refl) c.functions [])

  declarations_are : declarations_in (parts c) ≡ c.declarations
  declarations_are =
      skipped Forward declarations_in (λ a more. refl) c.forwards _
      ∙ kept Declaration declarations_in (λ a. a) (λ a more. refl) c.declarations _
      ∙ all_kept c.declarations _ (skipped Global declarations_in (λ a more. refl) c.globals _
      ∙ skipped Prototype declarations_in (λ a more. refl) c.prototypes _ ∙ skipped Function declarations_in (λ a more. refl) c.functions [])

  globals_are : globals_in (parts c) ≡ c.globals
  globals_are =
      skipped Forward globals_in (λ a more. refl) c.forwards _ ∙ skipped Declaration globals_in (λ a more. refl) c.declarations _
      ∙ kept Global globals_in (λ a. a) (λ a more. refl) c.globals _
      ∙ all_kept c.globals _ (skipped Prototype globals_in (λ a more. refl) c.prototypes _ ∙ skipped Function globals_in (λ a more. refl) c.functions [])

  prototypes_are : prototypes_in (parts c) ≡ c.prototypes
  prototypes_are =
      skipped Forward prototypes_in (λ a more. refl) c.forwards _ ∙ skipped Declaration prototypes_in (λ a more. refl) c.declarations _
      ∙ skipped Global prototypes_in (λ a more. refl) c.globals _
      ∙ kept Prototype prototypes_in (λ a. a) (λ a more. refl) c.prototypes _
      ∙ all_kept c.prototypes _ (skipped Function prototypes_in (λ a more. refl) c.functions [])

  functions_are : functions_in (parts c) ≡ c.functions
  functions_are =
      skipped Forward functions_in (λ a more. refl) c.forwards _ ∙ skipped Declaration functions_in (λ a more. refl) c.declarations _
      ∙ skipped Global functions_in (λ a more. refl) c.globals _ ∙ skipped Prototype functions_in (λ a more. refl) c.prototypes _
      ∙ kept Function functions_in (λ a. a) (λ a more. refl) c.functions [] ∙ all_kept c.functions [] refl

-- ---- the laws

abbrev pub program_of : List Part × CMain → CProgram
program_of p = record {
  forwards = forwards_in p.0;
  declarations = declarations_in p.0;
  globals = globals_in p.0;
  prototypes = prototypes_in p.0;
  functions = functions_in p.0;
  main = p.1;
}

program_is : (c : CProgram) → program_of (parts c, c.main) ≡ c
program_is c = λ i. record {
  forwards = forwards_are c i;
  declarations = declarations_are c i;
  globals = globals_are c i;
  prototypes = prototypes_are c i;
  functions = functions_are c i;
  main = c.main;
}

abbrev program_need : CProgram → ℕ
program_need c = let m = c.main in list_need part_need (parts c) + block_need m.locals m.body

-- the tree is read back from its tokens, where at least so much is allowed
read_back : (g : ℕ) (c : CProgram) → program_need c ≤ g → program_of (read_program g (program_tokens c)) ≡ c
read_back g c h = ap (λ ts. program_of (read_program g ts)) (sym (spelled c)) ∙ ap program_of (program_read g (parts c) c.main h) ∙ program_is c

pub same_tree : (c d : CProgram) → program_tokens c ≡ program_tokens d → c ≡ d
same_tree c d e =
    let g = program_need c + program_need d in
    sym (read_back g c (omega arith)) ∙ ap (λ ts. program_of (read_program g ts)) e ∙ read_back g d (omega arith)

pub same_text : (bytes : List ℕ) (c d : CProgram) → CText bytes c → CText bytes d → c ≡ d
same_text bytes c d s t = same_tree c d (s.spelled ∙ ap plain (same_tokens bytes s.tokens t.tokens s.cut t.cut) ∙ sym t.spelled)
