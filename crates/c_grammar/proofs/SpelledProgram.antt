-- What declarations spell before other tokens is what they spell alone, and then those.
use Rattle.std.proofs.Common.{List, [], ◌∷◌, Some, None, refl, ◌∙◌, ap}
use Rattle.c_tree.specs.Tree.{body_of}
use Rattle.c_tree.specs.declared.program.CVariable.{CVariable}
use Rattle.c_tree.specs.declared.program.CDeclaration.TheVariants as declared
use Rattle.c_grammar.specs.declared.token.Word.TheVariants as word
use Rattle.c_grammar.specs.declared.token.Mark.TheVariants as mark
use Rattle.c_grammar.specs.Token.{Token, Identifier, Quoted, Sign}
use Rattle.c_grammar.specs.Spelling.{Spelling, spell_all, spell_or_void, spell_type, spell_result, spell_body, spell_variable, spell_variable_line, spell_length, spell_member, spell_forward, spell_declaration, spell_parameters, spell_prototype, spell_block, spell_function}
use Rattle.c_grammar.proofs.Spelled.{Follow, all_follow, listed_follow, type_follow, body_follow}

pub or_void_follow : {A : Type 0} (spell : Spelling A) → Follow spell → Follow (spell_or_void spell)
or_void_follow spell follow [] u v = refl
or_void_follow spell follow (a ∷ more) u v = listed_follow spell follow (a ∷ more) u v

pub result_follow : Follow spell_result
result_follow None u v = refl
result_follow (Some of) u v = type_follow of u v

pub variable_follow : Follow spell_variable
variable_follow a u v = type_follow a.of (Identifier a.name ∷ u) v

pub line_follow : Follow spell_variable_line
line_follow a u v = variable_follow a (Sign mark.Semicolon ∷ u) v

pub length_follow : Follow spell_length
length_follow None u v = refl
length_follow (Some n) u v = refl

pub member_follow : Follow spell_member
member_follow m u v =
    let end = Sign mark.Semicolon ∷ u in
    ap (λ l. spell_type m.of (Identifier m.name ∷ l)) (length_follow m.length end v) ∙ type_follow m.of (Identifier m.name ∷ spell_length m.length end) v

pub forward_follow : Follow spell_forward
forward_follow n u v = refl

pub declaration_follow : Follow spell_declaration
declaration_follow (declared.Typedef t) u v =
    let end = Sign mark.Close ∷ Sign mark.Semicolon ∷ u in
    let before : List Token → List Token = λ l. Sign mark.Open ∷ Sign mark.Star ∷ Identifier t.name ∷ Sign mark.Close ∷ Sign mark.Open ∷ l in
    ap (λ l. Quoted word.Typedef ∷ spell_result t.result (before l)) (or_void_follow spell_type type_follow t.parameters end v)
    ∙ ap (λ l. Quoted word.Typedef ∷ l) (result_follow t.result (before (spell_or_void spell_type t.parameters end)) v)
declaration_follow (declared.Struct s) u v =
    ap (λ l. Quoted word.Struct ∷ Identifier s.name ∷ Sign mark.OpenBrace ∷ l) (all_follow spell_member member_follow s.members (Sign mark.CloseBrace ∷ Sign mark.Semicolon ∷ u) v)

pub parameters_follow : Follow spell_parameters
parameters_follow all u v = ap (λ l. Sign mark.Open ∷ l) (or_void_follow spell_variable variable_follow all (Sign mark.Close ∷ u) v)

pub prototype_follow : Follow spell_prototype
prototype_follow p u v =
    let end = Sign mark.Semicolon ∷ u in
    ap (λ l. spell_result p.result (Identifier p.name ∷ l)) (parameters_follow p.parameters end v) ∙ result_follow p.result (Identifier p.name ∷ spell_parameters p.parameters end) v

pub block_follow : (locals : List CVariable) → Follow (spell_block locals)
block_follow locals body u v =
    let b = body_of body in let end = Sign mark.CloseBrace ∷ u in
    ap (λ l. Sign mark.OpenBrace ∷ spell_all spell_variable_line locals l) (body_follow b end v)
    ∙ ap (λ l. Sign mark.OpenBrace ∷ l) (all_follow spell_variable_line line_follow locals (spell_body b end) v)

pub function_follow : Follow spell_function
function_follow f u v =
    let block = spell_block f.locals f.body u in
    ap (λ l. spell_result f.result (Identifier f.name ∷ spell_parameters f.parameters l)) (block_follow f.locals f.body u v)
    ∙ ap (λ l. spell_result f.result (Identifier f.name ∷ l)) (parameters_follow f.parameters block v)
    ∙ result_follow f.result (Identifier f.name ∷ spell_parameters f.parameters block) v
