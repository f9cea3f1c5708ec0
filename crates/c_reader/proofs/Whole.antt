-- No text of the grammar goes on: the brace that closes the block of `main` is its last token.
use Rattle.std.proofs.Common.{◌≡◌, ℕ, zero, suc, List, [], ◌∷◌, ◌++◌, Option, Some, None, refl, sym, ap, ◌∙◌}
use Rattle.c_tree.specs.Tree.{Int, Word, Byte, Struct, Named, VoidPointer, Pointer, Read, Number, WordNumber, Null, Address, Unary, Binary, Cast, Variable, Pointee, Member, Index, Statement, Assign, Call, Malloc, Free, GetChar, PutChar, If, IfElse, While, Goto, Label, Return, Empty, Then, body_of}
use Rattle.c_tree.specs.declared.operators.CUnary.{CUnary}
use Rattle.c_tree.specs.declared.operators.CUnary.TheVariants.{Minus, Not, Complement}
use Rattle.c_tree.specs.declared.operators.CBinary.{CBinary}
use Rattle.c_tree.specs.declared.operators.CBinary.TheVariants.{Add}
use Rattle.c_tree.specs.declared.operators.CCast.TheVariants as cast
use Rattle.c_tree.specs.declared.statement.CCallee.TheVariants.{Direct, Indirect}
use Rattle.c_tree.specs.declared.program.CVariable.{CVariable}
use Rattle.c_tree.specs.declared.program.CDeclaration.TheVariants as declared
use Rattle.c_tree.specs.declared.program.CMain.{CMain}
use Rattle.c_tree.specs.declared.program.CProgram.{CProgram}
use Rattle.c_grammar.specs.declared.token.Word.TheVariants as word
use Rattle.c_grammar.specs.declared.token.Mark.TheVariants as mark
use Rattle.c_grammar.specs.Token.{Token, Identifier, Quoted, Sign}
use Rattle.c_grammar.specs.Spelling.{Spelling, spell_all, spell_next, spell_listed, spell_or_void, spell_type, spell_result, spell_cast, unary_mark, binary_mark, spell_expr, spell_place, spell_into, spell_callee, spell_value, spell_statement, spell_body, spell_variable, spell_variable_line, spell_length, spell_member, spell_forward, spell_declaration, spell_parameters, spell_prototype, spell_block, spell_function, spell_main, program_tokens}

-- ---- a walk to the brace that closes the block of `main`

-- what a token is to the walk
data Role : Type 0 where
  Other : Role
  Opening : Role
  Closing : Role
  Main : Role

abbrev role : Token → Role
role (Quoted word.Main) = Main
role (Sign mark.OpenBrace) = Opening
role (Sign mark.CloseBrace) = Closing
role _ = Other

-- before `main` nothing counts; after it, how many braces are open
abbrev Phase : Type 0
Phase = Option ℕ

abbrev deeper : Phase → Phase
deeper None = None
deeper (Some n) = Some (suc n)

-- after a token in this role, before the tokens s
abbrev turn : (Phase → Option (List Token)) → Role → Phase → List Token → Option (List Token)
turn go Other p s = go p
turn go Opening p s = go (deeper p)
turn go Main p s = go (Some 0)
turn go Closing None s = go None
turn go Closing (Some zero) s = go (Some zero)
turn go Closing (Some (suc zero)) s = Some s
turn go Closing (Some (suc (suc n))) s = go (Some (suc n))

-- what comes after the closing brace
abbrev walk : Phase → List Token → Option (List Token)
walk p [] = None
walk p (t ∷ s) = turn (λ q. walk q s) (role t) p s

module _ (s more r : List Token) (go : (p : Phase) → walk p s ≡ Some r → walk p (s ++ more) ≡ Some (r ++ more)) where
  turn_goes_on : (k : Role) (p : Phase) → turn (λ q. walk q s) k p s ≡ Some r → turn (λ q. walk q (s ++ more)) k p (s ++ more) ≡ Some (r ++ more)
  turn_goes_on Other p e = go p e
  turn_goes_on Opening p e = go (deeper p) e
  turn_goes_on Main p e = go (Some 0) e
  turn_goes_on Closing None e = go None e
  turn_goes_on Closing (Some zero) e = go (Some zero) e
  turn_goes_on Closing (Some (suc zero)) e = let same : s ≡ r = cc in ap (λ l. Some (l ++ more)) same
  turn_goes_on Closing (Some (suc (suc n))) e = go (Some (suc n)) e

goes_on : (s more r : List Token) (p : Phase) → walk p s ≡ Some r → walk p (s ++ more) ≡ Some (r ++ more)
goes_on [] more r p e = absurd cc
goes_on (t ∷ s) more r p e = turn_goes_on s more r (goes_on s more r) (role t) p e

-- ---- what is walked over

-- in the phase before `main`, or within its block
abbrev Passed : {A : Type 0} → Spelling A → Type 0
Passed {A} spell = (p : Phase) (a : A) (rest : List Token) → walk (deeper p) (spell a rest) ≡ walk (deeper p) rest

closed : (p : Phase) (s : List Token) → walk (deeper (deeper p)) (Sign mark.CloseBrace ∷ s) ≡ walk (deeper p) s
closed None s = refl
closed (Some n) s = refl

all_passed : {A : Type 0} (spell : Spelling A) → Passed spell → Passed (spell_all spell)
all_passed spell h p [] rest = refl
all_passed spell h p (a ∷ more) rest = h p a (spell_all spell more rest) ∙ all_passed spell h p more rest

next_passed : {A : Type 0} (spell : Spelling A) → Passed spell → Passed (spell_next spell)
next_passed spell h p a rest = h p a rest

listed_passed : {A : Type 0} (spell : Spelling A) → Passed spell → Passed (spell_listed spell)
listed_passed spell h p [] rest = refl
listed_passed spell h p (a ∷ more) rest = h p a (spell_all (spell_next spell) more rest) ∙ all_passed (spell_next spell) (next_passed spell h) p more rest

or_void_passed : {A : Type 0} (spell : Spelling A) → Passed spell → Passed (spell_or_void spell)
or_void_passed spell h p [] rest = refl
or_void_passed spell h p (a ∷ more) rest = listed_passed spell h p (a ∷ more) rest

type_passed : Passed spell_type
type_passed p Int rest = refl
type_passed p Word rest = refl
type_passed p Byte rest = refl
type_passed p (Struct n) rest = refl
type_passed p (Named n) rest = refl
type_passed p VoidPointer rest = refl
type_passed p (Pointer of) rest = type_passed p of (Sign mark.Star ∷ rest)

result_passed : Passed spell_result
result_passed p None rest = refl
result_passed p (Some of) rest = type_passed p of rest

cast_passed : Passed spell_cast
cast_passed p cast.Int rest = refl
cast_passed p cast.Word rest = refl
cast_passed p cast.VoidPointer rest = refl
cast_passed p (cast.StructPointer n) rest = refl

unary_passed : (op : CUnary) (p : Phase) (s : List Token) → walk p (Sign (unary_mark op) ∷ s) ≡ walk p s
unary_passed Minus p s = refl
unary_passed Not p s = refl
unary_passed Complement p s = refl

binary_passed : (op : CBinary) (p : Phase) (s : List Token) → walk p (Sign (binary_mark op) ∷ s) ≡ walk p s
binary_passed Add p s = refl
binary_passed _ p s = refl

mutual
  expr_passed : Passed spell_expr
  expr_passed p (Read a) rest = place_passed p a rest
  expr_passed p (Number n) rest = refl
  expr_passed p (WordNumber n) rest = refl
  expr_passed p Null rest = refl
  expr_passed p (Address a) rest = place_passed p a (Sign mark.Close ∷ rest)
  expr_passed p (Unary op a) rest = unary_passed op (deeper p) (spell_expr a (Sign mark.Close ∷ rest)) ∙ expr_passed p a (Sign mark.Close ∷ rest)
  expr_passed p (Binary op a b) rest =
      let after = spell_expr b (Sign mark.Close ∷ rest) in expr_passed p a (Sign (binary_mark op) ∷ after) ∙ binary_passed op (deeper p) after ∙ expr_passed p b (Sign mark.Close ∷ rest)
  expr_passed p (Cast to a) rest = cast_passed p to (Sign mark.Close ∷ spell_expr a (Sign mark.Close ∷ rest)) ∙ expr_passed p a (Sign mark.Close ∷ rest)

  place_passed : Passed spell_place
  place_passed p (Variable n) rest = refl
  place_passed p (Pointee a) rest = expr_passed p a (Sign mark.Close ∷ rest)
  place_passed p (Member a n) rest = place_passed p a (Sign mark.Dot ∷ Identifier n ∷ rest)
  place_passed p (Index a e) rest = place_passed p a (Sign mark.OpenBracket ∷ spell_expr e (Sign mark.CloseBracket ∷ rest)) ∙ expr_passed p e (Sign mark.CloseBracket ∷ rest)

into_passed : Passed spell_into
into_passed p None rest = refl
into_passed p (Some a) rest = place_passed p a (Sign mark.Assign ∷ rest)

callee_passed : Passed spell_callee
callee_passed p (Direct n) rest = refl
callee_passed p (Indirect a) rest = expr_passed p a (Sign mark.Close ∷ rest)

value_passed : Passed spell_value
value_passed p None rest = refl
value_passed p (Some a) rest = expr_passed p a rest

mutual
  statement_passed : Passed spell_statement
  statement_passed p (Assign a e) rest = place_passed p a (Sign mark.Assign ∷ spell_expr e (Sign mark.Semicolon ∷ rest)) ∙ expr_passed p e (Sign mark.Semicolon ∷ rest)
  statement_passed p (Call into c all) rest =
      let after = spell_listed spell_expr all (Sign mark.Close ∷ Sign mark.Semicolon ∷ rest) in
      into_passed p into (spell_callee c (Sign mark.Open ∷ after)) ∙ callee_passed p c (Sign mark.Open ∷ after) ∙ listed_passed spell_expr expr_passed p all (Sign mark.Close ∷ Sign mark.Semicolon ∷ rest)
  statement_passed p (Malloc a of) rest =
      let after = Sign mark.Close ∷ Sign mark.Close ∷ Sign mark.Semicolon ∷ rest in
      place_passed p a (Sign mark.Assign ∷ Quoted word.Malloc ∷ Sign mark.Open ∷ Quoted word.SizeOf ∷ Sign mark.Open ∷ spell_type of after) ∙ type_passed p of after
  statement_passed p (Free a) rest = expr_passed p a (Sign mark.Close ∷ Sign mark.Semicolon ∷ rest)
  statement_passed p (GetChar a) rest = place_passed p a (Sign mark.Assign ∷ Quoted word.GetChar ∷ Sign mark.Open ∷ Sign mark.Close ∷ Sign mark.Semicolon ∷ rest)
  statement_passed p (PutChar a) rest = expr_passed p a (Sign mark.Close ∷ Sign mark.Semicolon ∷ rest)
  statement_passed p (If test a) rest =
      expr_passed p test (Sign mark.Close ∷ Sign mark.OpenBrace ∷ spell_body a (Sign mark.CloseBrace ∷ rest)) ∙ body_passed (deeper p) a (Sign mark.CloseBrace ∷ rest) ∙ closed p rest
  statement_passed p (IfElse test a b) rest =
      let second = Quoted word.Else ∷ Sign mark.OpenBrace ∷ spell_body b (Sign mark.CloseBrace ∷ rest) in
      expr_passed p test (Sign mark.Close ∷ Sign mark.OpenBrace ∷ spell_body a (Sign mark.CloseBrace ∷ second)) ∙ body_passed (deeper p) a (Sign mark.CloseBrace ∷ second) ∙ closed p second
      ∙ body_passed (deeper p) b (Sign mark.CloseBrace ∷ rest) ∙ closed p rest
  statement_passed p (While test a) rest =
      expr_passed p test (Sign mark.Close ∷ Sign mark.OpenBrace ∷ spell_body a (Sign mark.CloseBrace ∷ rest)) ∙ body_passed (deeper p) a (Sign mark.CloseBrace ∷ rest) ∙ closed p rest
  statement_passed p (Goto l) rest = refl
  statement_passed p (Label l) rest = refl
  statement_passed p (Return a) rest = value_passed p a (Sign mark.Semicolon ∷ rest)

  body_passed : Passed spell_body
  body_passed p Empty rest = refl
  body_passed p (Then s more) rest = statement_passed p s (spell_body more rest) ∙ body_passed p more rest

variable_passed : Passed spell_variable
variable_passed p v rest = type_passed p v.of (Identifier v.name ∷ rest)

line_passed : Passed spell_variable_line
line_passed p v rest = variable_passed p v (Sign mark.Semicolon ∷ rest)

length_passed : Passed spell_length
length_passed p None rest = refl
length_passed p (Some n) rest = refl

member_passed : Passed spell_member
member_passed p m rest = type_passed p m.of (Identifier m.name ∷ spell_length m.length (Sign mark.Semicolon ∷ rest)) ∙ length_passed p m.length (Sign mark.Semicolon ∷ rest)

forward_passed : Passed spell_forward
forward_passed p name rest = refl

declaration_passed : Passed spell_declaration
declaration_passed p (declared.Typedef t) rest =
    let after = spell_or_void spell_type t.parameters (Sign mark.Close ∷ Sign mark.Semicolon ∷ rest) in
    result_passed p t.result (Sign mark.Open ∷ Sign mark.Star ∷ Identifier t.name ∷ Sign mark.Close ∷ Sign mark.Open ∷ after) ∙ or_void_passed spell_type type_passed p t.parameters (Sign mark.Close ∷ Sign mark.Semicolon ∷ rest)
declaration_passed p (declared.Struct s) rest = all_passed spell_member member_passed (deeper p) s.members (Sign mark.CloseBrace ∷ Sign mark.Semicolon ∷ rest) ∙ closed p (Sign mark.Semicolon ∷ rest)

parameters_passed : Passed spell_parameters
parameters_passed p all rest = or_void_passed spell_variable variable_passed p all (Sign mark.Close ∷ rest)

prototype_passed : Passed spell_prototype
prototype_passed p f rest = result_passed p f.result (Identifier f.name ∷ spell_parameters f.parameters (Sign mark.Semicolon ∷ rest)) ∙ parameters_passed p f.parameters (Sign mark.Semicolon ∷ rest)

-- up to the brace that closes it
block_passed : (p : Phase) (locals : List CVariable) (body : List Statement) (rest : List Token) → walk (deeper p) (spell_block locals body rest) ≡ walk (deeper (deeper p)) (Sign mark.CloseBrace ∷ rest)
block_passed p locals body rest =
    let b = body_of body in
    all_passed spell_variable_line line_passed (deeper p) locals (spell_body b (Sign mark.CloseBrace ∷ rest)) ∙ body_passed (deeper p) b (Sign mark.CloseBrace ∷ rest)

function_passed : Passed spell_function
function_passed p f rest =
    let after = spell_block f.locals f.body rest in
    result_passed p f.result (Identifier f.name ∷ spell_parameters f.parameters after) ∙ parameters_passed p f.parameters after ∙ block_passed p f.locals f.body rest ∙ closed p rest

main_ends : (m : CMain) → walk None (spell_main m []) ≡ Some []
main_ends m =
    let b = body_of m.body in
    all_passed spell_variable_line line_passed (Some 0) m.locals (spell_body b (Sign mark.CloseBrace ∷ [])) ∙ body_passed (Some 0) b (Sign mark.CloseBrace ∷ [])

-- ---- texts

text_ends : (c : CProgram) → walk None (program_tokens c) ≡ Some []
text_ends c =
    all_passed spell_forward forward_passed None c.forwards _ ∙ all_passed spell_declaration declaration_passed None c.declarations _ ∙ all_passed spell_variable_line line_passed None c.globals _
    ∙ all_passed spell_prototype prototype_passed None c.prototypes _ ∙ all_passed spell_function function_passed None c.functions _ ∙ main_ends c.main

pub nothing_after : (c d : CProgram) (more : List Token) → program_tokens d ≡ program_tokens c ++ more → more ≡ []
nothing_after c d more e =
    let here : walk None (program_tokens c ++ more) ≡ Some more = goes_on (program_tokens c) more [] None (text_ends c) in
    let there : walk None (program_tokens c ++ more) ≡ Some [] = ap (walk None) (sym e) ∙ text_ends d in
    cc
