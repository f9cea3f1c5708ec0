-- A program is read back from the tokens that it spells.
use Rattle.std.proofs.Common.{◌≡◌, ℕ, ◌+◌, ◌≤◌, true, false, not, List, [], ◌∷◌, length, Option, Some, None, refl, ◌∙◌, ap, arith}
use Rattle.std.specs.List.{AllByRecursion}
use Rattle.c_tree.specs.Tree.{ObjectType, Int, Word, Byte, Struct, Named, VoidPointer, Pointer, Place, Variable, Pointee, Member, Index, Statement, Assign, Call, Malloc, Free, GetChar, PutChar, If, IfElse, While, Goto, Label, Return, Body, Empty, Then, body_of, list_of-body_of}
use Rattle.c_tree.specs.declared.statement.CCallee.{CCallee}
use Rattle.c_tree.specs.declared.statement.CCallee.TheVariants.{Direct, Indirect}
use Rattle.c_tree.specs.declared.program.CVariable.{CVariable}
use Rattle.c_tree.specs.declared.program.CMember.{CMember}
use Rattle.c_tree.specs.declared.program.CStruct.{CStruct}
use Rattle.c_tree.specs.declared.program.CTypedef.{CTypedef}
use Rattle.c_tree.specs.declared.program.CDeclaration.{CDeclaration}
use Rattle.c_tree.specs.declared.program.CDeclaration.TheVariants as declared
use Rattle.c_tree.specs.declared.program.CMain.{CMain}
use Rattle.c_grammar.specs.declared.token.Word.TheVariants as word
use Rattle.c_grammar.specs.declared.token.Mark.TheVariants as mark
use Rattle.c_grammar.specs.Token.{Token, Identifier, Quoted, Sign}
use Rattle.c_grammar.specs.Spelling.{spell_all, spell_or_void, spell_type, spell_result, spell_place, spell_callee, spell_statement, spell_body, spell_variable, spell_variable_line, spell_length, spell_member, spell_parameters, spell_block, spell_main}
use Rattle.c_grammar.proofs.Reading.{tail, at_mark, is_star, stars, read_type, result_by, some_with, read_result}
use Rattle.c_grammar.proofs.ReadingProgram.{Part, Forward, Declaration, Global, Prototype, Function, spell_part, is_open_bracket, at_brace, at_int, variable_with, read_variable, line_with, read_line, member_by, member_with, read_member, or_void_by, or_void, goes_on_as_type, no_local, Block, block_of, block_with, read_block, others, struct_kind, part_kind, struct_with, typedef_of, typedef_with, function_with, heading_with, other_with, part_by, read_part, main_with, parts_with, read_program}
use Rattle.c_grammar.proofs.ReadsExpr.{type_read, no_void}
use Rattle.c_grammar.proofs.ReadsList.{Item, many_read, list_need, length_needed, listed_read}
use Rattle.c_grammar.proofs.ReadsStatement.{body_need, body_read}

-- ---- types and variables

no_stars : (of : ObjectType) (rest : List Token) → at_mark is_star rest ≡ false → stars of rest ≡ (of, rest)
unfolding stars
no_stars of [] h = refl
no_stars of (t ∷ rest) h = rw (h, stars) refl

type_whole : (of : ObjectType) (rest : List Token) → at_mark is_star rest ≡ false → read_type (spell_type of rest) ≡ (of, rest)
type_whole of rest h = type_read of rest ∙ no_stars of rest h

result_read : (r : Option ObjectType) (rest : List Token) → at_mark is_star rest ≡ false → read_result (spell_result r rest) ≡ (r, rest)
result_read None rest h = ap (λ b. result_by (not b) (Quoted word.Void ∷ rest)) h
result_read (Some of) rest h = ap (λ b. result_by b (spell_type of rest)) (no_void of rest) ∙ ap some_with (type_whole of rest h)

variable_read : (v : CVariable) (rest : List Token) → read_variable (spell_variable v rest) ≡ (v, rest)
variable_read v rest = ap variable_with (type_whole v.of (Identifier v.name ∷ rest) refl)

line_read : (v : CVariable) (rest : List Token) → read_line (spell_variable_line v rest) ≡ (v, rest)
line_read v rest = ap line_with (variable_read v (Sign mark.Semicolon ∷ rest))

length_read : (of : ObjectType) (n : List ℕ) (l : Option ℕ) (rest : List Token)
    → member_by of n (at_mark is_open_bracket (spell_length l (Sign mark.Semicolon ∷ rest))) (spell_length l (Sign mark.Semicolon ∷ rest)) ≡ (record { name = n; of = of; length = l }, rest)
length_read of n None rest = refl
length_read of n (Some l) rest = refl

member_read : (m : CMember) (rest : List Token) → read_member (spell_member m rest) ≡ (m, rest)
member_read m rest = ap member_with (type_whole m.of (Identifier m.name ∷ spell_length m.length (Sign mark.Semicolon ∷ rest)) refl) ∙ length_read m.of m.name m.length rest

-- ---- what comes first

type_brace : (of : ObjectType) (rest : List Token) → at_brace (spell_type of rest) ≡ false
type_brace Int rest = refl
type_brace Word rest = refl
type_brace Byte rest = refl
type_brace (Struct n) rest = refl
type_brace (Named n) rest = refl
type_brace VoidPointer rest = refl
type_brace (Pointer of) rest = type_brace of (Sign mark.Star ∷ rest)

type_int : (of : ObjectType) (rest : List Token) → at_int (spell_type of rest) ≡ false
type_int Int rest = refl
type_int Word rest = refl
type_int Byte rest = refl
type_int (Struct n) rest = refl
type_int (Named n) rest = refl
type_int VoidPointer rest = refl
type_int (Pointer of) rest = type_int of (Sign mark.Star ∷ rest)

type_local : (of : ObjectType) (rest : List Token) → goes_on_as_type rest ≡ true → no_local (spell_type of rest) ≡ false
type_local Int rest h = refl
type_local Word rest h = refl
type_local Byte rest h = refl
type_local (Struct n) rest h = refl
type_local (Named n) rest h = ap not h
type_local VoidPointer rest h = refl
type_local (Pointer of) rest h = type_local of (Sign mark.Star ∷ rest) refl

type_other : (of : ObjectType) (rest : List Token) → struct_kind rest ≡ others → part_kind (spell_type of rest) ≡ others
type_other Int rest h = refl
type_other Word rest h = refl
type_other Byte rest h = refl
type_other (Struct n) rest h = h
type_other (Named n) rest h = refl
type_other VoidPointer rest h = refl
type_other (Pointer of) rest h = type_other of (Sign mark.Star ∷ rest) refl

result_other : (r : Option ObjectType) (n : List ℕ) (rest : List Token) → part_kind (spell_result r (Identifier n ∷ rest)) ≡ others
result_other None n rest = refl
result_other (Some of) n rest = type_other of (Identifier n ∷ rest) refl

result_int : (r : Option ObjectType) (rest : List Token) → at_int (spell_result r rest) ≡ false
result_int None rest = refl
result_int (Some of) rest = type_int of rest

place_local : (p : Place) (rest : List Token) → goes_on_as_type rest ≡ false → no_local (spell_place p rest) ≡ true
place_local (Variable n) rest h = ap not h
place_local (Pointee a) rest h = refl
place_local (Member p n) rest h = place_local p _ refl
place_local (Index p a) rest h = place_local p _ refl

callee_local : (c : CCallee) (rest : List Token) → no_local (spell_callee c (Sign mark.Open ∷ rest)) ≡ true
callee_local (Direct n) rest = refl
callee_local (Indirect a) rest = refl

statement_local : (s : Statement) (rest : List Token) → no_local (spell_statement s rest) ≡ true
statement_local (Assign p a) rest = place_local p _ refl
statement_local (Call None c all) rest = callee_local c _
statement_local (Call (Some p) c all) rest = place_local p _ refl
statement_local (Malloc p of) rest = place_local p _ refl
statement_local (Free a) rest = refl
statement_local (GetChar p) rest = place_local p _ refl
statement_local (PutChar a) rest = refl
statement_local (If test a) rest = refl
statement_local (IfElse test a b) rest = refl
statement_local (While test a) rest = refl
statement_local (Goto l) rest = refl
statement_local (Label l) rest = refl
statement_local (Return a) rest = refl

body_local : (b : Body) (rest : List Token) → no_local (spell_body b (Sign mark.CloseBrace ∷ rest)) ≡ true
body_local Empty rest = refl
body_local (Then s more) rest = statement_local s _

-- ---- lists

-- anything may follow
abbrev Anything : List Token → Type 0
Anything rest = Unit {0}

lines_items : (all : List CVariable) → AllByRecursion (Item spell_variable_line read_line no_local Anything) all
lines_items [] = tt
lines_items (v ∷ more) = (record { read = λ rest f. line_read v rest; goes_on = λ rest. type_local v.of (Identifier v.name ∷ Sign mark.Semicolon ∷ rest) refl; follows = λ rest. tt }, lines_items more)

members_items : (all : List CMember) → AllByRecursion (Item spell_member read_member at_brace Anything) all
members_items [] = tt
members_items (m ∷ more) = (record { read = λ rest f. member_read m rest; goes_on = λ rest. type_brace m.of (Identifier m.name ∷ spell_length m.length (Sign mark.Semicolon ∷ rest)); follows = λ rest. tt }, members_items more)

abbrev nothing_needed : {A : Type 0} → A → ℕ
nothing_needed a = 0

types_read : (all : List ObjectType) (g : ℕ) (rest : List Token) → list_need nothing_needed all ≤ g → or_void read_type g (spell_or_void spell_type all (Sign mark.Close ∷ rest)) ≡ (all, Sign mark.Close ∷ rest)
types_read [] g rest h = refl
types_read (of ∷ more) g rest h =
    ap (λ b. or_void_by read_type g b (spell_or_void spell_type (of ∷ more) (Sign mark.Close ∷ rest))) (no_void of _)
    ∙ listed_read spell_type read_type (λ rest. at_mark is_star rest ≡ false) nothing_needed g (λ of rest n f. type_whole of rest f) (λ rest. refl) of more (Sign mark.Close ∷ rest) h refl refl

variables_read : (all : List CVariable) (g : ℕ) (rest : List Token) → list_need nothing_needed all ≤ g → or_void read_variable g (spell_or_void spell_variable all (Sign mark.Close ∷ rest)) ≡ (all, Sign mark.Close ∷ rest)
variables_read [] g rest h = refl
variables_read (v ∷ more) g rest h =
    ap (λ b. or_void_by read_variable g b (spell_or_void spell_variable (v ∷ more) (Sign mark.Close ∷ rest))) (no_void v.of _)
    ∙ listed_read spell_variable read_variable Anything nothing_needed g (λ v rest n f. variable_read v rest) (λ rest. tt) v more (Sign mark.Close ∷ rest) h tt refl

-- ---- parts

abbrev pub block_need : List CVariable → List Statement → ℕ
block_need locals body = length locals + body_need (body_of body)

block_read : (g : ℕ) (locals : List CVariable) (body : List Statement) (rest : List Token) → block_need locals body ≤ g
    → read_block g (tail (spell_block locals body rest)) ≡ (record { locals = locals; body = body }, rest)
block_read g locals body rest h =
    let b = body_of body in
    ap (block_with g) (many_read spell_variable_line read_line no_local Anything locals g (spell_body b (Sign mark.CloseBrace ∷ rest)) (lines_items locals) (omega arith) tt (body_local b rest))
    ∙ ap (block_of locals) (body_read b g g g rest (omega arith) (omega arith) (omega arith))
    ∙ ap (λ (l : List Statement). let made : Block = record { locals = locals; body = l } in (made, rest)) (list_of-body_of body)

abbrev pub declaration_need : CDeclaration → ℕ
declaration_need (declared.Typedef t) = list_need nothing_needed t.parameters
declaration_need (declared.Struct s) = length s.members

abbrev pub part_need : Part → ℕ
part_need (Forward n) = 0
part_need (Declaration d) = declaration_need d
part_need (Global v) = 0
part_need (Prototype p) = list_need nothing_needed p.parameters
part_need (Function f) = list_need nothing_needed f.parameters + block_need f.locals f.body

struct_read : (g : ℕ) (s : CStruct) (rest : List Token) → length s.members ≤ g → read_part g (spell_part (Declaration (declared.Struct s)) rest) ≡ (Declaration (declared.Struct s), rest)
struct_read g s rest h = ap (struct_with s.name) (many_read spell_member read_member at_brace Anything s.members g (Sign mark.CloseBrace ∷ Sign mark.Semicolon ∷ rest) (members_items s.members) h tt refl)

typedef_read : (g : ℕ) (t : CTypedef) (rest : List Token) → list_need nothing_needed t.parameters ≤ g → read_part g (spell_part (Declaration (declared.Typedef t)) rest) ≡ (Declaration (declared.Typedef t), rest)
typedef_read g t rest h =
    ap (typedef_with g) (result_read t.result (Sign mark.Open ∷ Sign mark.Star ∷ Identifier t.name ∷ Sign mark.Close ∷ Sign mark.Open ∷ spell_or_void spell_type t.parameters (Sign mark.Close ∷ Sign mark.Semicolon ∷ rest)) refl)
    ∙ ap (typedef_of t.result t.name) (types_read t.parameters g (Sign mark.Semicolon ∷ rest) h)

global_read : (g : ℕ) (v : CVariable) (rest : List Token) → read_part g (spell_part (Global v) rest) ≡ (Global v, rest)
global_read g v rest =
    let after = Identifier v.name ∷ Sign mark.Semicolon ∷ rest in
    ap (λ k. part_by g k (spell_type v.of after)) (type_other v.of after refl)
    ∙ ap (other_with g) (result_read (Some v.of) after refl)

-- up to the parenthesis that closes the parameters
heading_read : (g : ℕ) (returned : Option ObjectType) (n : List ℕ) (all : List CVariable) (rest : List Token) → list_need nothing_needed all ≤ g
    → read_part g (spell_result returned (Identifier n ∷ spell_parameters all rest)) ≡ heading_with g returned n (all, Sign mark.Close ∷ rest)
heading_read g returned n all rest h =
    let after = spell_parameters all rest in
    ap (λ k. part_by g k (spell_result returned (Identifier n ∷ after))) (result_other returned n after)
    ∙ ap (other_with g) (result_read returned (Identifier n ∷ after) refl)
    ∙ ap (heading_with g returned n) (variables_read all g rest h)

part_read : (g : ℕ) (p : Part) (rest : List Token) → part_need p ≤ g → read_part g (spell_part p rest) ≡ (p, rest)
part_read g (Forward n) rest h = refl
part_read g (Declaration (declared.Typedef t)) rest h = typedef_read g t rest h
part_read g (Declaration (declared.Struct s)) rest h = struct_read g s rest h
part_read g (Global v) rest h = global_read g v rest
part_read g (Prototype p) rest h = heading_read g p.result p.name p.parameters (Sign mark.Semicolon ∷ rest) h
part_read g (Function f) rest h =
    heading_read g f.result f.name f.parameters (spell_block f.locals f.body rest) (omega arith)
    ∙ ap (function_with f.result f.name f.parameters) (block_read g f.locals f.body rest (omega arith))

pub part_int : (p : Part) (rest : List Token) → at_int (spell_part p rest) ≡ false
part_int (Forward n) rest = refl
part_int (Declaration (declared.Typedef t)) rest = refl
part_int (Declaration (declared.Struct s)) rest = refl
part_int (Global v) rest = type_int v.of _
part_int (Prototype p) rest = result_int p.result _
part_int (Function f) rest = result_int f.result _

part_items : (g : ℕ) (all : List Part) → list_need part_need all ≤ g → AllByRecursion (Item spell_part (read_part g) at_int Anything) all
part_items g [] h = tt
part_items g (p ∷ more) h = (record { read = λ rest f. part_read g p rest (omega arith); goes_on = λ rest. part_int p rest; follows = λ rest. tt }, part_items g more (omega arith))

pub program_read : (g : ℕ) (parts : List Part) (m : CMain) → list_need part_need parts + block_need m.locals m.body ≤ g → read_program g (spell_all spell_part parts (spell_main m [])) ≡ (parts, m)
unfolding read_program
program_read g parts m h =
    ap (parts_with g) (many_read spell_part (read_part g) at_int Anything parts g (spell_main m []) (part_items g parts (omega arith)) (omega (arith, length_needed part_need parts)) tt refl)
    ∙ ap (main_with parts) (block_read g m.locals m.body [] (omega arith))
