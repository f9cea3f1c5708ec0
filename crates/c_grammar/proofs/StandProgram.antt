-- The demands of declarations and programs stand at the tokens of which they speak.
use Rattle.std.proofs.Common.{◌≡◌, ℕ, ◌+◌, List, [], ◌∷◌, Option, Some, None, refl, ◌∙◌, ap, arith}
use Rattle.std.specs.Prelude.{slice_get}
use Rattle.c_tree.specs.Tree.{ObjectType, Statement, body_of}
use Rattle.c_tree.specs.declared.program.CVariable.{CVariable}
use Rattle.c_tree.specs.declared.program.CMember.{CMember}
use Rattle.c_tree.specs.declared.program.CStruct.{CStruct}
use Rattle.c_tree.specs.declared.program.CDeclaration.{CDeclaration}
use Rattle.c_tree.specs.declared.program.CDeclaration.TheVariants as declared
use Rattle.c_tree.specs.declared.program.CPrototype.{CPrototype}
use Rattle.c_tree.specs.declared.program.CFunction.{CFunction}
use Rattle.c_tree.specs.declared.program.CMain.{CMain}
use Rattle.c_tree.specs.declared.program.CProgram.{CProgram}
use Rattle.c_grammar.specs.declared.token.Mark.TheVariants as mark
use Rattle.c_grammar.specs.Token.{Token, Identifier, Numeral, Sign}
use Rattle.c_grammar.specs.Types.{Seen, see, seen_first, seen_last, Known, known, known_in_typedef, known_in_struct, named_cells, member_cells}
use Rattle.c_grammar.specs.Spelling.{Spelling, count, spell_all, spell_or_void, spell_type, spell_result, spell_body, spell_variable, spell_variable_line, spell_length, spell_member, spell_forward, spell_declaration, spell_parameters, spell_prototype, spell_block, spell_function, spell_main, program_tokens}
use Rattle.c_grammar.specs.Demands.{Names, Differs, Demands, after, all_demands, listed_demands, same, type_demands, result_demands, own_labels, body_demands, variable_demands, and_variable, and_variables, length_demands, member_demands, and_member, forward_demands, and_name, declaration_demands, heading_demands, prototype_demands, block_demands, function_demands, and_function, main_demands, in_row, program_demands}
use Rattle.c_grammar.proofs.Spelled.{Follow, all_follow, type_follow}
use Rattle.c_grammar.proofs.SpelledProgram.{or_void_follow, result_follow, variable_follow, line_follow, member_follow, forward_follow, declaration_follow, prototype_follow, function_follow}
use Rattle.c_grammar.proofs.Stand.{Stand, Later, here, one, over, stand_later, stand_both, all_stand, listed_stand}
use Rattle.c_grammar.proofs.StandStatement.{type_stand, body_stand}

result_stand : (k : Known) (r : Option ObjectType) (rest : List Token) → Stand (spell_result r rest) (result_demands k r)
result_stand k None rest = tt
result_stand k (Some of) rest = type_stand k of rest

-- a demand of a name that comes so much later
named_later : {tokens rest : List Token} {n : ℕ} {name : List ℕ} → Later tokens n (Identifier name ∷ rest) → (m : ℕ) (others : Names) (all : Demands) → m ≡ n + 0 → Stand tokens all → Stand tokens ((m, Differs name others) ∷ all)
named_later {tokens} {rest} {n} {name} l m others all e s =
    let found = stand_later l n ((0, Differs name others) ∷ []) refl ((Identifier name, refl, refl), tt) in
    let at = found.0 in
    ((at.0, ap (slice_get tokens) e ∙ at.1, at.2), s)

variable_stand : (k : Known) (above : Names) (v : CVariable) (rest : List Token) → Stand (spell_variable v rest) (variable_demands k above v)
variable_stand k above v rest =
    stand_both (spell_variable v rest) (type_demands k v.of) ((count spell_type v.of, Differs v.name above) ∷ []) (type_stand k v.of (Identifier v.name ∷ rest))
    (named_later {rest = rest} (over spell_type type_follow v.of here) (count spell_type v.of) above [] (omega arith) tt)

line_stand : (k : Known) (above : Names) (v : CVariable) (rest : List Token) → Stand (spell_variable_line v rest) (variable_demands k above v)
line_stand k above v rest = variable_stand k above v (Sign mark.Semicolon ∷ rest)

length_stand : (cells : ℕ) (l : Option ℕ) (rest : List Token) → Stand (spell_length l rest) (length_demands cells l)
length_stand cells None rest = tt
length_stand cells (Some n) rest = ((Numeral n, refl, refl), ((Numeral n, refl, tt), tt))

member_stand : (k : Known) (structs : List CStruct) (above : Names) (m : CMember) (rest : List Token) → Stand (spell_member m rest) (member_demands k structs above m)
member_stand k structs above m rest =
    let ts = spell_member m rest in let n = count spell_type m.of in
    let end = spell_length m.length (Sign mark.Semicolon ∷ rest) in
    let dl = length_demands (member_cells (named_cells structs) m) m.length in
    stand_both ts (type_demands k m.of) ((n, Differs m.name above) ∷ after (n + 1) dl) (type_stand k m.of (Identifier m.name ∷ end))
    (named_later {rest = end} (over spell_type type_follow m.of here) n above (after (n + 1) dl) (omega arith)
    (stand_later (over spell_type type_follow m.of (one _ here)) (n + 1) dl (omega arith) (length_stand (member_cells (named_cells structs) m) m.length (Sign mark.Semicolon ∷ rest))))

or_void_stand : {S A : Type 0} (spell : Spelling A) → Follow spell → (step : S → A → S) (demands : S → A → Demands) → ((s : S) (a : A) (rest : List Token) → Stand (spell a rest) (demands s a))
    → (s : S) (all : List A) (rest : List Token) → Stand (spell_or_void spell all rest) (listed_demands spell step demands s all)
or_void_stand spell follow step demands each s [] rest = tt
or_void_stand spell follow step demands each s (a ∷ more) rest = listed_stand spell follow step demands each s (a ∷ more) rest

forward_stand : (above : Names) (n : List ℕ) (rest : List Token) → Stand (spell_forward n rest) (forward_demands above n)
forward_stand above n rest = ((Identifier n, refl, refl), tt)

declaration_stand : (seen : Seen) (d : CDeclaration) (rest : List Token) → Stand (spell_declaration d rest) (declaration_demands seen d)
declaration_stand seen (declared.Typedef t) rest =
    let ts = spell_declaration (declared.Typedef t) rest in let k = known_in_typedef seen in let n = count spell_result t.result in
    let end = Sign mark.Close ∷ Sign mark.Semicolon ∷ rest in
    let after_name = Sign mark.Close ∷ Sign mark.Open ∷ spell_or_void spell_type t.parameters end in
    let dr = result_demands k t.result in let dp = listed_demands spell_type same type_demands k t.parameters in
    stand_both ts (after 1 dr) ((n + 3, Differs t.name seen.typedefs) ∷ after (n + 6) dp)
    (stand_later (one _ here) 1 dr (omega arith) (result_stand k t.result (Sign mark.Open ∷ Sign mark.Star ∷ Identifier t.name ∷ after_name)))
    (named_later {rest = after_name} (one _ (over spell_result result_follow t.result (one _ (one _ here)))) (n + 3) seen.typedefs (after (n + 6) dp) (omega arith)
    (stand_later (one _ (over spell_result result_follow t.result (one _ (one _ (one _ (one _ (one _ here))))))) (n + 6) dp (omega arith)
    (or_void_stand spell_type type_follow same type_demands (λ s a rest. type_stand s a rest) k t.parameters end)))
declaration_stand seen (declared.Struct s) rest =
    let k = known seen in
    let dm = all_demands spell_member and_member (member_demands (known_in_struct s.name seen) seen.structs) [] s.members in (
      (Identifier s.name, refl, refl),
      (
        (Identifier s.name, refl, tt),
        stand_later (one _ (one _ (one _ here))) 3 dm (omega arith)
            (all_stand spell_member member_follow and_member (member_demands (known_in_struct s.name seen) seen.structs) (λ s' a rest. member_stand (known_in_struct s.name seen) seen.structs s' a rest) [] s.members (Sign mark.CloseBrace ∷ Sign mark.Semicolon ∷ rest)),
      ),
    )

heading_stand : (k : Known) (above : Names) (returned : Option ObjectType) (n : List ℕ) (all : List CVariable) (rest : List Token)
    → Stand (spell_result returned (Identifier n ∷ spell_parameters all rest)) (heading_demands k above returned n all)
heading_stand k above returned n all rest =
    let ts = spell_result returned (Identifier n ∷ spell_parameters all rest) in let c = count spell_result returned in
    let dp = listed_demands spell_variable and_variable (variable_demands k) [] all in
    stand_both ts (result_demands k returned) ((c, Differs n above) ∷ after (c + 2) dp) (result_stand k returned (Identifier n ∷ spell_parameters all rest))
    (named_later {rest = spell_parameters all rest} (over spell_result result_follow returned here) c above (after (c + 2) dp) (omega arith)
    (stand_later (over spell_result result_follow returned (one _ (one _ here))) (c + 2) dp (omega arith)
    (or_void_stand spell_variable variable_follow and_variable (variable_demands k) (λ s a rest. variable_stand k s a rest) [] all (Sign mark.Close ∷ rest))))

prototype_stand : (k : Known) (above : Names) (p : CPrototype) (rest : List Token) → Stand (spell_prototype p rest) (prototype_demands k above p)
prototype_stand k above p rest = heading_stand k above p.result p.name p.parameters (Sign mark.Semicolon ∷ rest)

-- after the opening brace
block_stand : (k : Known) (above : Names) (locals : List CVariable) (body : List Statement) (rest : List Token)
    → Stand (spell_all spell_variable_line locals (spell_body (body_of body) (Sign mark.CloseBrace ∷ rest))) (block_demands k above locals body)
block_stand k above locals body rest =
    let b = body_of body in let end = Sign mark.CloseBrace ∷ rest in
    let dl = all_demands spell_variable_line and_variable (variable_demands k) above locals in let db = body_demands k (own_labels b) [] 1 b in
    let n = count (spell_all spell_variable_line) locals in
    stand_both (spell_all spell_variable_line locals (spell_body b end)) dl (after n db)
    (all_stand spell_variable_line line_follow and_variable (variable_demands k) (λ s a rest. line_stand k s a rest) above locals (spell_body b end))
    (stand_later (over (spell_all spell_variable_line) (all_follow spell_variable_line line_follow) locals here) n db (omega arith) (body_stand k (own_labels b) [] 1 b end))

function_stand : (k : Known) (above : Names) (f : CFunction) (rest : List Token) → Stand (spell_function f rest) (function_demands k above f)
function_stand k above f rest =
    let ts = spell_function f rest in
    let db = block_demands k (and_variables [] f.parameters) f.locals f.body in
    let n = count spell_result f.result + count (spell_or_void spell_variable) f.parameters + 4 in
    stand_both ts (heading_demands k above f.result f.name f.parameters) (after n db) (heading_stand k above f.result f.name f.parameters (spell_block f.locals f.body rest))
    (stand_later (over spell_result result_follow f.result (one _ (one _ (over (spell_or_void spell_variable) (or_void_follow spell_variable variable_follow) f.parameters (one _ (one _ here)))))) n db (omega arith)
    (block_stand k (and_variables [] f.parameters) f.locals f.body rest))

main_stand : (k : Known) (m : CMain) (rest : List Token) → Stand (spell_main m rest) (main_demands k m)
main_stand k m rest = stand_later (one _ (one _ (one _ (one _ (one _ (one _ here)))))) 6 (block_demands k [] m.locals m.body) (omega arith) (block_stand k [] m.locals m.body rest)

-- ---- programs

record Row (tokens : List Token) (parts : List (ℕ × Demands)) : Type 0 where
  stand : Stand tokens (in_row parts)

-- a part in a row, before those after it
part_stand : {A : Type 0} {rest : List Token} {all : Demands} {more : List (ℕ × Demands)} (spell : Spelling A) → Follow spell → (a : A)
    → Stand (spell a rest) all → Row rest more → Row (spell a rest) ((count spell a, all) ∷ more)
part_stand {A} {rest} {all} {more} spell follow a s t = record {
  stand = stand_both (spell a rest) all (after (count spell a) (in_row more)) s (stand_later (over spell follow a here) (count spell a) (in_row more) (omega arith) t.stand);
}

last_stand : (ts : List Token) (all : Demands) → Stand ts all → Row ts ((0, all) ∷ [])
last_stand ts all s = record { stand = stand_both ts all [] s tt }

-- items of one kind are a part
items_stand : {S A : Type 0} {rest : List Token} {more : List (ℕ × Demands)} (spell : Spelling A) → Follow spell → (step : S → A → S) (demands : S → A → Demands)
    → ((s : S) (a : A) (rest : List Token) → Stand (spell a rest) (demands s a)) → (s : S) (all : List A)
    → Row rest more → Row (spell_all spell all rest) ((count (spell_all spell) all, all_demands spell step demands s all) ∷ more)
items_stand {S} {A} {rest} spell follow step demands each s all t =
    part_stand (spell_all spell) (all_follow spell follow) all (all_stand spell follow step demands each s all rest) t

pub program_stand : (c : CProgram) → Stand (program_tokens c) (program_demands c)
program_stand c =
    let seen = seen_last c in let k = known seen in let with_globals = and_variables seen.typedefs c.globals in
    let rows =
    items_stand spell_forward forward_follow and_name forward_demands forward_stand [] c.forwards
    (items_stand spell_declaration declaration_follow see declaration_demands declaration_stand (seen_first c) c.declarations
    (items_stand spell_variable_line line_follow and_variable (variable_demands k) (line_stand k) seen.typedefs c.globals
    (items_stand spell_prototype prototype_follow same (prototype_demands k) (prototype_stand k) with_globals c.prototypes
    (items_stand spell_function function_follow and_function (function_demands k) (function_stand k) with_globals c.functions
    (last_stand (spell_main c.main []) (main_demands k c.main) (main_stand k c.main [])))))) in
    rows.stand
