-- The way back from tokens to the parts of a program.
use Rattle.std.proofs.Common.{ℕ, Bool, true, false, not, List, [], ◌∷◌, Option, Some, None}
use Rattle.c_tree.specs.Tree.{ObjectType, Int, Statement, Body, list_of}
use Rattle.c_tree.specs.declared.program.CVariable.{CVariable}
use Rattle.c_tree.specs.declared.program.CMember.{CMember}
use Rattle.c_tree.specs.declared.program.CDeclaration.{CDeclaration}
use Rattle.c_tree.specs.declared.program.CDeclaration.TheVariants as declared
use Rattle.c_tree.specs.declared.program.CPrototype.{CPrototype}
use Rattle.c_tree.specs.declared.program.CFunction.{CFunction}
use Rattle.c_tree.specs.declared.program.CMain.{CMain}
use Rattle.c_grammar.specs.declared.token.Word.{Word}
use Rattle.c_grammar.specs.declared.token.Word.TheVariants as word
use Rattle.c_grammar.specs.declared.token.Mark.{Mark}
use Rattle.c_grammar.specs.declared.token.Mark.TheVariants as mark
use Rattle.c_grammar.specs.Token.{Token, Identifier, Numeral, Quoted, Sign}
use Rattle.c_grammar.specs.Spelling.{Spelling, spell_forward, spell_declaration, spell_variable_line, spell_prototype, spell_function}
use Rattle.c_grammar.proofs.Reading.{Reader, tail, tail2, name_at, value_at, at_mark, at_word, is_star, many, listed, read_type, read_result, void_alone}
use Rattle.c_grammar.proofs.ReadingStatement.{is_semicolon, is_close_brace, read_body, read_statement}

-- a part of a program
pub data Part : Type 0 where
  Forward : (name : List ℕ) → Part
  Declaration : (declaration : CDeclaration) → Part
  Global : (variable : CVariable) → Part
  Prototype : (prototype : CPrototype) → Part
  Function : (function : CFunction) → Part

abbrev pub spell_part : Spelling Part
spell_part (Forward n) rest = spell_forward n rest
spell_part (Declaration d) rest = spell_declaration d rest
spell_part (Global v) rest = spell_variable_line v rest
spell_part (Prototype p) rest = spell_prototype p rest
spell_part (Function f) rest = spell_function f rest

abbrev pub is_open_brace : Mark → Bool
is_open_brace mark.OpenBrace = true
is_open_brace _ = false

abbrev pub is_open_bracket : Mark → Bool
is_open_bracket mark.OpenBracket = true
is_open_bracket _ = false

abbrev pub is_int : Word → Bool
is_int word.Int = true
is_int _ = false

abbrev pub at_brace : List Token → Bool
at_brace ts = at_mark is_close_brace ts

abbrev pub at_int : List Token → Bool
at_int ts = at_word is_int ts

-- ---- variables and members

abbrev pub variable_with : ObjectType × List Token → CVariable × List Token
variable_with of = (record { name = name_at of.1; of = of.0 }, tail of.1)

abbrev pub read_variable : Reader CVariable
read_variable ts = variable_with (read_type ts)

abbrev pub line_with : CVariable × List Token → CVariable × List Token
line_with v = (v.0, tail v.1)

abbrev pub read_line : Reader CVariable
read_line ts = line_with (read_variable ts)

abbrev pub member_by : ObjectType → List ℕ → Bool → Reader CMember
member_by of n true ts = (record { name = n; of = of; length = Some (value_at (tail ts)) }, tail2 (tail2 ts))
member_by of n false ts = (record { name = n; of = of; length = None }, tail ts)

abbrev pub member_with : ObjectType × List Token → CMember × List Token
member_with of = member_by of.0 (name_at of.1) (at_mark is_open_bracket (tail of.1)) (tail of.1)

abbrev pub read_member : Reader CMember
read_member ts = member_with (read_type ts)

abbrev pub or_void_by : {A : Type 0} → Reader A → ℕ → Bool → Reader (List A)
or_void_by r g true ts = ([], tail ts)
or_void_by r g false ts = listed r g ts

abbrev pub or_void : {A : Type 0} → Reader A → ℕ → Reader (List A)
or_void r g ts = or_void_by r g (void_alone ts) ts

-- ---- blocks

-- after a name with which a local variable may begin: a name or a star
abbrev pub goes_on_as_type : List Token → Bool
goes_on_as_type [] = false
goes_on_as_type (Sign m ∷ rest) = is_star m
goes_on_as_type (Identifier n ∷ rest) = true
goes_on_as_type (Numeral n ∷ rest) = false
goes_on_as_type (Quoted w ∷ rest) = false

abbrev pub begins_type : Word → Bool
begins_type word.Int64Type = true
begins_type word.Uint64Type = true
begins_type word.Unsigned = true
begins_type word.Struct = true
begins_type word.Void = true
begins_type _ = false

abbrev pub no_local : List Token → Bool
no_local [] = true
no_local (Sign m ∷ rest) = true
no_local (Identifier n ∷ rest) = not (goes_on_as_type rest)
no_local (Numeral n ∷ rest) = true
no_local (Quoted w ∷ rest) = not (begins_type w)

pub record Block : Type 0 where
  pub locals : List CVariable
  pub body : List Statement

abbrev pub block_of : List CVariable → Body × List Token → Block × List Token
block_of locals b = (record { locals = locals; body = list_of b.0 }, tail b.1)

abbrev pub block_with : ℕ → List CVariable × List Token → Block × List Token
block_with g locals = block_of locals.0 (read_body (read_statement g g) g locals.1)

-- after its opening brace
abbrev pub read_block : ℕ → Reader Block
read_block g ts = block_with g (many no_local read_line g ts)

-- ---- parts

pub data PartKind : Type 0 where
  forwards : PartKind
  structs : PartKind
  typedefs : PartKind
  others : PartKind

abbrev pub struct_mark : Mark → PartKind
struct_mark mark.Semicolon = forwards
struct_mark mark.OpenBrace = structs
struct_mark _ = others

-- after `struct` and a name
abbrev pub struct_kind : List Token → PartKind
struct_kind [] = others
struct_kind (Sign m ∷ rest) = struct_mark m
struct_kind (Identifier n ∷ rest) = others
struct_kind (Numeral n ∷ rest) = others
struct_kind (Quoted w ∷ rest) = others

abbrev pub word_part : Word → List Token → PartKind
word_part word.Struct ts = struct_kind (tail ts)
word_part word.Typedef ts = typedefs
word_part _ ts = others

abbrev pub part_kind : List Token → PartKind
part_kind [] = others
part_kind (Sign m ∷ rest) = others
part_kind (Identifier n ∷ rest) = others
part_kind (Numeral n ∷ rest) = others
part_kind (Quoted w ∷ rest) = word_part w rest

abbrev pub struct_with : List ℕ → List CMember × List Token → Part × List Token
struct_with n members = (Declaration (declared.Struct (record { name = n; members = members.0 })), tail2 members.1)

abbrev pub typedef_of : Option ObjectType → List ℕ → List ObjectType × List Token → Part × List Token
typedef_of returned n all = (Declaration (declared.Typedef (record { name = n; result = returned; parameters = all.0 })), tail2 all.1)

abbrev pub typedef_with : ℕ → Option ObjectType × List Token → Part × List Token
typedef_with g r = typedef_of r.0 (name_at (tail2 r.1)) (or_void read_type g (tail2 (tail2 (tail r.1))))

abbrev pub the_type : Option ObjectType → ObjectType
the_type None = Int
the_type (Some of) = of

abbrev pub function_with : Option ObjectType → List ℕ → List CVariable → Block × List Token → Part × List Token
function_with returned n all b = let block = b.0 in (Function (record { name = n; result = returned; parameters = all; locals = block.locals; body = block.body }), b.1)

abbrev pub heading_by : ℕ → Option ObjectType → List ℕ → List CVariable → Bool → Reader Part
heading_by g returned n all true ts = (Prototype (record { name = n; result = returned; parameters = all }), tail ts)
heading_by g returned n all false ts = function_with returned n all (read_block g (tail ts))

abbrev pub heading_with : ℕ → Option ObjectType → List ℕ → List CVariable × List Token → Part × List Token
heading_with g returned n all = heading_by g returned n all.0 (at_mark is_semicolon (tail all.1)) (tail all.1)

abbrev pub other_by : ℕ → Option ObjectType → List ℕ → Bool → Reader Part
other_by g returned n true ts = (Global (record { name = n; of = the_type returned }), tail ts)
other_by g returned n false ts = heading_with g returned n (or_void read_variable g (tail ts))

abbrev pub other_with : ℕ → Option ObjectType × List Token → Part × List Token
other_with g r = other_by g r.0 (name_at r.1) (at_mark is_semicolon (tail r.1)) (tail r.1)

abbrev pub part_by : ℕ → PartKind → Reader Part
part_by g forwards ts = (Forward (name_at (tail ts)), tail (tail2 ts))
part_by g structs ts = struct_with (name_at (tail ts)) (many at_brace read_member g (tail (tail2 ts)))
part_by g typedefs ts = typedef_with g (read_result (tail ts))
part_by g others ts = other_with g (read_result ts)

abbrev pub read_part : ℕ → Reader Part
read_part g ts = part_by g (part_kind ts) ts

-- ---- programs

abbrev pub main_with : List Part → Block × List Token → List Part × CMain
main_with parts b = let block = b.0 in (parts, record { locals = block.locals; body = block.body })

abbrev pub parts_with : ℕ → List Part × List Token → List Part × CMain
parts_with g parts = main_with parts.0 (read_block g (tail2 (tail2 (tail2 parts.1))))

unfoldable pub read_program : ℕ → List Token → List Part × CMain
read_program g ts = parts_with g (many at_int (read_part g) g ts)
