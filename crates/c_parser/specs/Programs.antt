-- Declarations and programs are read.
use Rattle.std.specs.Prelude.{ℕ, Bool, true, false, List, [], ◌∷◌, ◌++◌, length, Option, Some, None, Ok, Err}
use Rattle.c_tree.specs.Tree.{ObjectType, Struct, Statement}
use Rattle.c_tree.specs.declared.program.CVariable.{CVariable}
use Rattle.c_tree.specs.declared.program.CMember.{CMember}
use Rattle.c_tree.specs.declared.program.CStruct.{CStruct}
use Rattle.c_tree.specs.declared.program.CTypedef.{CTypedef}
use Rattle.c_tree.specs.declared.program.CDeclaration.{CDeclaration}
use Rattle.c_tree.specs.declared.program.CDeclaration.TheVariants as declared
use Rattle.c_tree.specs.declared.program.CPrototype.{CPrototype}
use Rattle.c_tree.specs.declared.program.CFunction.{CFunction}
use Rattle.c_tree.specs.declared.program.CMain.{CMain}
use Rattle.c_tree.specs.declared.program.CProgram.{CProgram}
use Rattle.c_grammar.specs.declared.token.Word.{Word as QuotedWord}
use Rattle.c_grammar.specs.declared.token.Word.TheVariants as word
use Rattle.c_grammar.specs.declared.token.Mark.TheVariants as mark
use Rattle.c_grammar.specs.Token.{Token, Identifier, Numeral, Quoted, Sign}
use Rattle.token_parsing.specs.declared.refusal.Refusal.TheVariants.{Unexpected}
use Rattle.token_parsing.specs.Parser.{Parser, Class, ◌>>=◌, pure, refuse, one_of, begins, rest, either, repeat}
use Rattle.c_parser.specs.declared.program.Parts.{Parts}
use Rattle.c_expr_parser.specs.Classes.{names, numbers, words, marks, expect, expect_word}
use Rattle.c_expr_parser.specs.Types.{object_type, result_type, stars}
use Rattle.c_expr_parser.specs.Expressions.{largest_int}
use Rattle.c_parser.specs.Statements.{no_brace, statements, statement}

abbrev pub variable_of : ObjectType → List ℕ → CVariable
variable_of of n = record { name = n; of = of }

-- Type Id
unfoldable pub variable : Parser Token CVariable
variable = object_type >>= λ of. one_of names >>= λ n. pure (variable_of of n)

-- ---- structs

-- ["[" Num "]"]
unfoldable pub array_length : Parser Token (Option ℕ)
array_length = either (begins (marks mark.OpenBracket)) (expect mark.OpenBracket >>= λ _. one_of (numbers largest_int) >>= λ n. expect mark.CloseBracket >>= λ _. pure (Some n)) (pure None)

abbrev pub member_of : CVariable → Option ℕ → CMember
member_of v l = record { name = v.name; of = v.of; length = l }

-- Member = Type Id ["[" Num "]"] ";"
unfoldable pub member : Parser Token CMember
member = variable >>= λ v. array_length >>= λ l. expect mark.Semicolon >>= λ _. pure (member_of v l)

unfoldable pub next_member : List CMember → Parser Token (List CMember)
next_member all = member >>= λ m. pure (all ++ m ∷ [])

-- "{" Member {Member} "}" ";"
unfoldable pub members : Parser Token (List CMember)
members = expect mark.OpenBrace >>= λ _. member >>= λ m. repeat no_brace next_member (m ∷ []) >>= λ all. expect mark.CloseBrace >>= λ _. expect mark.Semicolon >>= λ _. pure all

-- ---- typedefs

-- "," Type
unfoldable pub next_type : List ObjectType → Parser Token (List ObjectType)
next_type all = expect mark.Comma >>= λ _. object_type >>= λ of. pure (all ++ of ∷ [])

abbrev pub types_after : Option ObjectType → Parser Token (List ObjectType)
types_after None = pure []
types_after (Some of) = repeat (begins (marks mark.Comma)) next_type (of ∷ [])

-- Types = "void" | Type {"," Type}
unfoldable pub types : Parser Token (List ObjectType)
types = result_type >>= types_after

abbrev pub typedef_of : Option ObjectType → List ℕ → List ObjectType → CTypedef
typedef_of r n all = record { name = n; result = r; parameters = all }

-- "(" "*" Id ")"
unfoldable pub pointer_name : Parser Token (List ℕ)
pointer_name = expect mark.Open >>= λ _. expect mark.Star >>= λ _. one_of names >>= λ n. expect mark.Close >>= λ _. pure n

-- Typedef = "typedef" Ret "(" "*" Id ")" "(" Types ")" ";"
unfoldable pub typedef : Parser Token CTypedef
typedef = expect_word word.Typedef >>= λ _. result_type >>= λ r. pointer_name >>= λ n. expect mark.Open >>= λ _. types >>= λ all.
    expect mark.Close >>= λ _. expect mark.Semicolon >>= λ _. pure (typedef_of r n all)

-- ---- parameters

-- "," Type Id
unfoldable pub next_parameter : List CVariable → Parser Token (List CVariable)
next_parameter all = expect mark.Comma >>= λ _. variable >>= λ v. pure (all ++ v ∷ [])

abbrev pub parameters_after : Option ObjectType → Parser Token (List CVariable)
parameters_after None = pure []
parameters_after (Some of) = one_of names >>= λ n. repeat (begins (marks mark.Comma)) next_parameter (variable_of of n ∷ [])

-- "(" Params ")"
unfoldable pub parameters : Parser Token (List CVariable)
parameters = expect mark.Open >>= λ _. result_type >>= λ r. parameters_after r >>= λ all. expect mark.Close >>= λ _. pure all

-- ---- blocks

abbrev pub type_word_of : QuotedWord → Option (Unit {0})
type_word_of word.Int64Type = Some tt
type_word_of word.Uint64Type = Some tt
type_word_of word.Unsigned = Some tt
type_word_of word.Struct = Some tt
type_word_of word.Void = Some tt
type_word_of _ = None

-- the words with which a type begins
abbrev pub type_words : Class Token (Unit {0})
type_words (Quoted w) = type_word_of w
type_words (Identifier n) = None
type_words (Numeral n) = None
type_words (Sign m) = None

-- a name and then a star or a name, or the first word of a type
unfoldable pub begins_local : List Token → Bool
begins_local s = elim (begins names s) [ true ↦ elim (begins names (rest s)) [ true ↦ true | false ↦ begins (marks mark.Star) (rest s) ] | false ↦ begins type_words s ]

-- Type Id ";"
unfoldable pub next_local : List CVariable → Parser Token (List CVariable)
next_local all = variable >>= λ v. expect mark.Semicolon >>= λ _. pure (all ++ v ∷ [])

-- {Type Id ";"}
unfoldable pub locals : Parser Token (List CVariable)
locals = repeat begins_local next_local []

-- "{" {Type Id ";"} {Stmt} "}"
unfoldable pub block : Parser Token (List CVariable × List Statement)
block = expect mark.OpenBrace >>= λ _. locals >>= λ all. statements (statement 2400) >>= λ body. expect mark.CloseBrace >>= λ _. pure (all, body)

-- ---- the parts of a program, each after those of its kind and of the kinds before

abbrev pub is_empty : {A : Type 0} → List A → Bool
is_empty [] = true
is_empty (a ∷ more) = false

abbrev pub both : Bool → Bool → Bool
both a b = elim a [ true ↦ b | false ↦ false ]

abbrev pub no_functions : Parts → Bool
no_functions p = is_empty p.functions

abbrev pub no_prototypes : Parts → Bool
no_prototypes p = both (is_empty p.prototypes) (no_functions p)

abbrev pub no_globals : Parts → Bool
no_globals p = both (is_empty p.globals) (no_prototypes p)

abbrev pub no_declarations : Parts → Bool
no_declarations p = both (is_empty p.declarations) (no_globals p)

abbrev pub with_forward : Parts → List ℕ → Parts
with_forward p n = record p { forwards = p.forwards ++ n ∷ [] }

abbrev pub with_declaration : Parts → CDeclaration → Parts
with_declaration p d = record p { declarations = p.declarations ++ d ∷ [] }

abbrev pub with_global : Parts → CVariable → Parts
with_global p v = record p { globals = p.globals ++ v ∷ [] }

abbrev pub with_prototype : Parts → CPrototype → Parts
with_prototype p x = record p { prototypes = p.prototypes ++ x ∷ [] }

abbrev pub with_function : Parts → CFunction → Parts
with_function p f = record p { functions = p.functions ++ f ∷ [] }

-- only where it may stand
abbrev pub when : {A : Type 0} → Bool → Parser Token A → Parser Token A
when allowed p = λ s. elim allowed [ true ↦ p s | false ↦ refuse s ]

-- after "struct" Id: ";"
unfoldable pub forward : Parts → List ℕ → Parser Token Parts
forward p n = when (no_declarations p) (expect mark.Semicolon >>= λ _. pure (with_forward p n))

abbrev pub struct_of : List ℕ → List CMember → CStruct
struct_of n all = record { name = n; members = all }

unfoldable pub structure : Parts → List ℕ → Parser Token Parts
structure p n = when (no_globals p) (members >>= λ all. pure (with_declaration p (declared.Struct (struct_of n all))))

unfoldable pub type_definition : Parts → Parser Token Parts
type_definition p = when (no_globals p) (typedef >>= λ t. pure (with_declaration p (declared.Typedef t)))

abbrev pub global : Parts → Option ObjectType → List ℕ → Parser Token Parts
global p None n = refuse
global p (Some of) n = when (no_prototypes p) (expect mark.Semicolon >>= λ _. pure (with_global p (variable_of of n)))

abbrev pub prototype_of : Option ObjectType → List ℕ → List CVariable → CPrototype
prototype_of r n all = record { name = n; result = r; parameters = all }

unfoldable pub prototype : Parts → Option ObjectType → List ℕ → List CVariable → Parser Token Parts
prototype p r n all = when (no_functions p) (expect mark.Semicolon >>= λ _. pure (with_prototype p (prototype_of r n all)))

abbrev pub function_of : Option ObjectType → List ℕ → List CVariable → List CVariable × List Statement → CFunction
function_of r n all b = record { name = n; result = r; parameters = all; locals = b.0; body = b.1 }

unfoldable pub function : Parts → Option ObjectType → List ℕ → List CVariable → Parser Token Parts
function p r n all = block >>= λ b. pure (with_function p (function_of r n all b))

-- after Ret Id "(" Params ")"
unfoldable pub after_parameters : Parts → Option ObjectType → List ℕ → List CVariable → Parser Token Parts
after_parameters p r n all = either (begins (marks mark.Semicolon)) (prototype p r n all) (function p r n all)

-- after Ret Id
unfoldable pub after_name : Parts → Option ObjectType → List ℕ → Parser Token Parts
after_name p r n = either (begins (marks mark.Semicolon)) (global p r n) (parameters >>= after_parameters p r n)

-- after Ret
unfoldable pub after_result : Parts → Option ObjectType → Parser Token Parts
after_result p r = one_of names >>= after_name p r

unfoldable pub after_struct_name : Parts → List ℕ → Parser Token Parts
after_struct_name p n =
    either (begins (marks mark.Semicolon)) (forward p n) (either (begins (marks mark.OpenBrace)) (structure p n) (stars (Struct n) >>= λ of. after_result p (Some of)))

unfoldable pub after_struct : Parts → Parser Token Parts
after_struct p = expect_word word.Struct >>= λ _. one_of names >>= after_struct_name p

unfoldable pub next_part : Parts → Parser Token Parts
next_part p = either (begins (words word.Typedef)) (type_definition p) (either (begins (words word.Struct)) (after_struct p) (result_type >>= after_result p))

-- ---- programs

abbrev pub no_int : List Token → Bool
no_int s = elim (begins (words word.Int) s) [ true ↦ false | false ↦ true ]

abbrev pub no_parts : Parts
no_parts = record { forwards = []; declarations = []; globals = []; prototypes = []; functions = [] }

-- all before `int`
unfoldable pub parts : Parser Token Parts
parts = repeat no_int next_part no_parts

abbrev pub main_of : List CVariable × List Statement → CMain
main_of b = record { locals = b.0; body = b.1 }

-- Main = "int" "main" "(" "void" ")" "{" {Type Id ";"} {Stmt} "}"
unfoldable pub main : Parser Token CMain
main = expect_word word.Int >>= λ _. expect_word word.Main >>= λ _. expect mark.Open >>= λ _. expect_word word.Void >>= λ _. expect mark.Close >>= λ _. block >>= λ b. pure (main_of b)

abbrev pub program_of : Parts → CMain → CProgram
program_of p m = record { forwards = p.forwards; declarations = p.declarations; globals = p.globals; prototypes = p.prototypes; functions = p.functions; main = m }

-- no token is left
abbrev pub end_of : {A : Type 0} → A → Parser Token A
end_of a [] = Ok (a, [])
end_of a (t ∷ s) = Err (Unexpected (length (t ∷ s)))

unfoldable pub program : Parser Token CProgram
program = parts >>= λ p. main >>= λ m. end_of (program_of p m)
