-- Places in a program after some of its parts.
use Rattle.std.proofs.Common.{◌≡◌, ℕ, ◌+◌, Bool, true, false, List, [], ◌∷◌, length, refl, sym, ap, subst, ◌∙◌, arith}
use Rattle.std.specs.List.{AllByRecursion}
use Rattle.c_tree.specs.declared.program.CVariable.{CVariable}
use Rattle.c_tree.specs.declared.program.CDeclaration.{CDeclaration}
use Rattle.c_tree.specs.declared.program.CPrototype.{CPrototype}
use Rattle.c_tree.specs.declared.program.CFunction.{CFunction}
use Rattle.c_tree.specs.declared.program.CMain.{CMain}
use Rattle.c_grammar.specs.Token.{Token}
use Rattle.c_grammar.specs.Spelling.{Spelling, count, spell_all, spell_forward, spell_declaration, spell_variable_line, spell_prototype, spell_function, spell_main}
use Rattle.c_grammar.specs.Grammar.{IsName, IsVariable, IsDeclaration, IsPrototype, IsFunction, IsMain}
use Rattle.c_grammar.specs.Types.{Known}
use Rattle.c_grammar.specs.Demands.{Names, Demands, and_function, function_demands, main_demands}
use Rattle.c_grammar.proofs.Spelled.{count_more, all_follow}
use Rattle.c_grammar.proofs.SpelledProgram.{forward_follow, declaration_follow, line_follow, prototype_follow, function_follow}
use Rattle.c_parser.specs.declared.program.Parts.{Parts}
use Rattle.c_parser.specs.Programs.{is_empty, both, no_functions, no_prototypes, no_globals, no_declarations, with_forward, with_declaration, with_global, with_prototype, with_function, program_of}
use Rattle.c_expr_parser.proofs.Holes.{Among, Filled, in_first, in_second, in_after, NoLevel}
use Rattle.c_parser.proofs.Pushed.{all_pushed, each_pushed, all_last}

abbrev pub spell_parts : Parts → List Token → List Token
spell_parts p u = spell_all spell_forward p.forwards (spell_all spell_declaration p.declarations (spell_all spell_variable_line p.globals
    (spell_all spell_prototype p.prototypes (spell_all spell_function p.functions u))))

abbrev pub AreParts : Parts → Type 0
AreParts p = AllByRecursion IsName p.forwards × AllByRecursion IsDeclaration p.declarations × AllByRecursion IsVariable p.globals × AllByRecursion IsPrototype p.prototypes × AllByRecursion IsFunction p.functions

-- ---- a part more

-- what empty lists spell
empty_spelled : {A : Type 0} (spell : Spelling A) (all : List A) (u : List Token) → is_empty all ≡ true → spell_all spell all u ≡ u
empty_spelled spell [] u e = refl
empty_spelled spell (a ∷ all) u e = absurd cc

both_first : (a b : Bool) → both a b ≡ true → a ≡ true
both_first true b e = refl
both_first false b e = absurd cc

both_second : (a b : Bool) → both a b ≡ true → b ≡ true
both_second true b e = e
both_second false b e = absurd cc

abbrev functions_of : Parts → List Token → List Token
functions_of p u = spell_all spell_function p.functions u

abbrev prototypes_of : Parts → List Token → List Token
prototypes_of p u = spell_all spell_prototype p.prototypes (functions_of p u)

abbrev globals_of : Parts → List Token → List Token
globals_of p u = spell_all spell_variable_line p.globals (prototypes_of p u)

abbrev declarations_of : Parts → List Token → List Token
declarations_of p u = spell_all spell_declaration p.declarations (globals_of p u)

no_functions_spelled : (p : Parts) (u : List Token) → no_functions p ≡ true → functions_of p u ≡ u
no_functions_spelled p u e = empty_spelled spell_function p.functions u e

no_prototypes_spelled : (p : Parts) (u : List Token) → no_prototypes p ≡ true → prototypes_of p u ≡ u
no_prototypes_spelled p u e =
    empty_spelled spell_prototype p.prototypes (functions_of p u) (both_first (is_empty p.prototypes) (no_functions p) e) ∙ no_functions_spelled p u (both_second (is_empty p.prototypes) (no_functions p) e)

no_globals_spelled : (p : Parts) (u : List Token) → no_globals p ≡ true → globals_of p u ≡ u
no_globals_spelled p u e =
    empty_spelled spell_variable_line p.globals (prototypes_of p u) (both_first (is_empty p.globals) (no_prototypes p) e) ∙ no_prototypes_spelled p u (both_second (is_empty p.globals) (no_prototypes p) e)

no_declarations_spelled : (p : Parts) (u : List Token) → no_declarations p ≡ true → declarations_of p u ≡ u
no_declarations_spelled p u e =
    empty_spelled spell_declaration p.declarations (globals_of p u) (both_first (is_empty p.declarations) (no_globals p) e) ∙ no_globals_spelled p u (both_second (is_empty p.declarations) (no_globals p) e)

pub forward_pushed : (p : Parts) (n : List ℕ) (u : List Token) → no_declarations p ≡ true → spell_parts (with_forward p n) u ≡ spell_parts p (spell_forward n u)
forward_pushed p n u e =
    all_pushed spell_forward p.forwards n (declarations_of p u)
    ∙ ap (λ z. spell_all spell_forward p.forwards (spell_forward n z)) (no_declarations_spelled p u e)
    ∙ ap (λ z. spell_all spell_forward p.forwards z) (sym (no_declarations_spelled p (spell_forward n u) e))

pub declaration_pushed : (p : Parts) (d : CDeclaration) (u : List Token) → no_globals p ≡ true → spell_parts (with_declaration p d) u ≡ spell_parts p (spell_declaration d u)
declaration_pushed p d u e =
    let before : List Token → List Token = λ z. spell_all spell_forward p.forwards z in
    ap before (all_pushed spell_declaration p.declarations d (globals_of p u))
    ∙ ap (λ z. before (spell_all spell_declaration p.declarations (spell_declaration d z))) (no_globals_spelled p u e)
    ∙ ap (λ z. before (spell_all spell_declaration p.declarations z)) (sym (no_globals_spelled p (spell_declaration d u) e))

pub global_pushed : (p : Parts) (v : CVariable) (u : List Token) → no_prototypes p ≡ true → spell_parts (with_global p v) u ≡ spell_parts p (spell_variable_line v u)
global_pushed p v u e =
    let before : List Token → List Token = λ z. spell_all spell_forward p.forwards (spell_all spell_declaration p.declarations z) in
    ap before (all_pushed spell_variable_line p.globals v (prototypes_of p u))
    ∙ ap (λ z. before (spell_all spell_variable_line p.globals (spell_variable_line v z))) (no_prototypes_spelled p u e)
    ∙ ap (λ z. before (spell_all spell_variable_line p.globals z)) (sym (no_prototypes_spelled p (spell_variable_line v u) e))

pub prototype_pushed : (p : Parts) (x : CPrototype) (u : List Token) → no_functions p ≡ true → spell_parts (with_prototype p x) u ≡ spell_parts p (spell_prototype x u)
prototype_pushed p x u e =
    let before : List Token → List Token = λ z. spell_all spell_forward p.forwards (spell_all spell_declaration p.declarations (spell_all spell_variable_line p.globals z)) in
    ap before (all_pushed spell_prototype p.prototypes x (functions_of p u))
    ∙ ap (λ z. before (spell_all spell_prototype p.prototypes (spell_prototype x z))) (no_functions_spelled p u e)
    ∙ ap (λ z. before (spell_all spell_prototype p.prototypes z)) (sym (no_functions_spelled p (spell_prototype x u) e))

pub function_pushed : (p : Parts) (f : CFunction) (u : List Token) → spell_parts (with_function p f) u ≡ spell_parts p (spell_function f u)
function_pushed p f u =
    ap (λ z. spell_all spell_forward p.forwards (spell_all spell_declaration p.declarations (spell_all spell_variable_line p.globals (spell_all spell_prototype p.prototypes z)))) (all_pushed spell_function p.functions f u)

-- ---- holes

abbrev pub empty_main : CMain
empty_main = record { locals = []; body = [] }

-- how many tokens the parts have
parts_long : (p : Parts) → length (spell_parts p []) ≡ count (spell_all spell_forward) p.forwards + (count (spell_all spell_declaration) p.declarations
    + (count (spell_all spell_variable_line) p.globals + (count (spell_all spell_prototype) p.prototypes + count (spell_all spell_function) p.functions)))
parts_long p =
    let a = count_more (spell_all spell_forward) (all_follow spell_forward forward_follow) p.forwards (declarations_of p []) in
    let b = count_more (spell_all spell_declaration) (all_follow spell_declaration declaration_follow) p.declarations (globals_of p []) in
    let c = count_more (spell_all spell_variable_line) (all_follow spell_variable_line line_follow) p.globals (prototypes_of p []) in
    let d = count_more (spell_all spell_prototype) (all_follow spell_prototype prototype_follow) p.prototypes (functions_of p []) in
    omega (arith, a, b, c, d)

moved : {all : Demands} {n l : ℕ} (m : ℕ) → n ≡ m → Among all n l → Among all m l
moved {all} {n} {l} m e h = subst (λ k. Among all k l) e h

abbrev pub FunctionHas : CFunction → ℕ → ℕ → Type 0
FunctionHas f n l = (k : Known) (above : Names) → Among (function_demands k above f) n l

pub filled_function : (p : Parts) → AreParts p → (f : CFunction) → IsFunction f → Filled (spell_parts p) (spell_function f) (FunctionHas f)
filled_function p is f isf = record {
  c = program_of (with_function p f) empty_main;
  more = spell_main empty_main [];
  of_grammar = (is.0, is.1, is.2, is.3, each_pushed IsFunction p.functions f is.4 isf, (tt, tt));
  is_spelled = function_pushed p f (spell_main empty_main []);
  kept = λ n l h. moved (length (spell_parts p []) + n) (omega (arith, parts_long p))
      (in_second _ (in_after (count (spell_all spell_forward) p.forwards)
      (in_second _ (in_after (count (spell_all spell_declaration) p.declarations)
      (in_second _ (in_after (count (spell_all spell_variable_line) p.globals)
      (in_second _ (in_after (count (spell_all spell_prototype) p.prototypes)
      (in_first _ (all_last spell_function function_follow and_function (function_demands _) (λ s. Unit {0}) (λ s a i. tt) _ tt p.functions f n l (λ s i. h _ s)))))))))));
}

abbrev pub MainHas : CMain → ℕ → ℕ → Type 0
MainHas m n l = (k : Known) → Among (main_demands k m) n l

pub filled_main : (p : Parts) → AreParts p → (m : CMain) → IsMain m → Filled (spell_parts p) (spell_main m) (MainHas m)
filled_main p is m ism = record {
  c = program_of p m;
  more = [];
  of_grammar = (is.0, is.1, is.2, is.3, is.4, ism);
  is_spelled = refl;
  kept = λ n l h. moved (length (spell_parts p []) + n) (omega (arith, parts_long p))
      (in_second _ (in_after (count (spell_all spell_forward) p.forwards)
      (in_second _ (in_after (count (spell_all spell_declaration) p.declarations)
      (in_second _ (in_after (count (spell_all spell_variable_line) p.globals)
      (in_second _ (in_after (count (spell_all spell_prototype) p.prototypes)
      (in_second _ (in_after (count (spell_all spell_function) p.functions) (in_first _ (h _))))))))))));
}

pub filled_forward : (p : Parts) → AreParts p → no_declarations p ≡ true → (n : List ℕ) → IsName n → Filled (spell_parts p) (spell_forward n) NoLevel
filled_forward p is e n isn = record {
  c = program_of (with_forward p n) empty_main;
  more = spell_main empty_main [];
  of_grammar = (each_pushed IsName p.forwards n is.0 isn, is.1, is.2, is.3, is.4, (tt, tt));
  is_spelled = forward_pushed p n (spell_main empty_main []) e;
  kept = λ n l h. absurd h;
}

pub filled_declaration : (p : Parts) → AreParts p → no_globals p ≡ true → (d : CDeclaration) → IsDeclaration d → Filled (spell_parts p) (spell_declaration d) NoLevel
filled_declaration p is e d isd = record {
  c = program_of (with_declaration p d) empty_main;
  more = spell_main empty_main [];
  of_grammar = (is.0, each_pushed IsDeclaration p.declarations d is.1 isd, is.2, is.3, is.4, (tt, tt));
  is_spelled = declaration_pushed p d (spell_main empty_main []) e;
  kept = λ n l h. absurd h;
}

pub filled_global : (p : Parts) → AreParts p → no_prototypes p ≡ true → (v : CVariable) → IsVariable v → Filled (spell_parts p) (spell_variable_line v) NoLevel
filled_global p is e v isv = record {
  c = program_of (with_global p v) empty_main;
  more = spell_main empty_main [];
  of_grammar = (is.0, is.1, each_pushed IsVariable p.globals v is.2 isv, is.3, is.4, (tt, tt));
  is_spelled = global_pushed p v (spell_main empty_main []) e;
  kept = λ n l h. absurd h;
}

pub filled_prototype : (p : Parts) → AreParts p → no_functions p ≡ true → (x : CPrototype) → IsPrototype x → Filled (spell_parts p) (spell_prototype x) NoLevel
filled_prototype p is e x isx = record {
  c = program_of (with_prototype p x) empty_main;
  more = spell_main empty_main [];
  of_grammar = (is.0, is.1, is.2, each_pushed IsPrototype p.prototypes x is.3 isx, is.4, (tt, tt));
  is_spelled = prototype_pushed p x (spell_main empty_main []) e;
  kept = λ n l h. absurd h;
}
