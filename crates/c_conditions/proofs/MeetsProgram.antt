-- That the steps over a program find whether its demands hold.
use Rattle.std.proofs.Common.{◌≡◌, ℕ, ◌+◌, Bool, true, false, not, ◌||◌, List, [], ◌∷◌, ◌++◌, length, Option, Some, None, Ok, Err, refl, sym, subst, ◌∙◌, arith, append_assoc}
use Rattle.std.specs.Prelude.{MatchResult, Result}
use Rattle.std.proofs.lemmas.Result.{MatchResult-at_ok, MatchResult-at_err}
use Rattle.std.specs.List.{fold}
use Rattle.std.specs.Str.{bytes_eq}
use Rattle.std.proofs.lemmas.List.{append-nil}
use Rattle.c_tree.specs.Tree.{ObjectType, Statement, body_of}
use Rattle.c_tree.specs.declared.program.CVariable.{CVariable}
use Rattle.c_tree.specs.declared.program.CPrototype.{CPrototype}
use Rattle.c_tree.specs.declared.program.CFunction.{CFunction}
use Rattle.c_tree.specs.declared.program.CMain.{CMain}
use Rattle.c_tree.specs.declared.program.CProgram.{CProgram}
use Rattle.c_grammar.specs.declared.fault.CTextKind.TheVariants.{DoubleName}
use Rattle.c_grammar.specs.declared.token.Mark.TheVariants as mark
use Rattle.c_grammar.specs.Token.{Token, Identifier, Sign}
use Rattle.c_grammar.specs.Types.{Seen, seen_first, seen_last, known}
use Rattle.c_grammar.specs.Spelling.{count, spell_all, spell_next, spell_or_void, spell_type, spell_result, spell_body, spell_variable, spell_variable_line, spell_forward, spell_declaration, spell_parameters, spell_prototype, spell_block, spell_function, spell_main}
use Rattle.c_grammar.specs.Demands.{Names, Differs, after, listed_demands, same, among, result_demands, labels_of, variable_demands, and_variable, and_variables, and_name, heading_demands, prototype_demands, block_demands, function_demands, and_function, main_demands, program_demands}
use Rattle.c_grammar.proofs.Spelled.{count_more, all_follow, next_follow, type_follow, body_follow}
use Rattle.c_grammar.proofs.SpelledProgram.{or_void_follow, result_follow, variable_follow, line_follow, prototype_follow, function_follow}
use Rattle.c_conditions.specs.declared.fault.ConditionFault.{ConditionFault}
use Rattle.c_conditions.specs.declared.fault.ConditionFault.TheVariants.{At, Memory}
use Rattle.c_conditions.specs.Names.{none, zero, with_name}
use Rattle.c_conditions.specs.World.{World}
use Rattle.c_conditions.specs.Steps.{Failure, Step, Gives, ◌>>◌, each, first}
use Rattle.c_conditions.specs.StatementSteps.{block}
use Rattle.c_conditions.specs.DeclarationSteps.{declaration}
use Rattle.c_conditions.specs.ProgramSteps.{variable, next_parameter, parameters, local, inner_block, global, returned_type, heading, prototype, function, main, program}
use Rattle.c_conditions.specs.Conditions.{HoldAllButLevels, FailsAt, IsFailure}
use Rattle.c_conditions.proofs.Meets.{Meets, at, pass_first, seq, passed, pass_last, changed, tested, recount, restate, retarget, rebase, each_meets, concluded}
use Rattle.c_conditions.proofs.MeetsExpr.{Knows, type_meets}
use Rattle.c_conditions.proofs.MeetsStatement.{new_name, old_name, scene, block_meets}
use Rattle.c_conditions.proofs.MeetsDeclaration.{structs_of, structs_known, world, world_after, world_forwarded, inner_then, forwards_meet, declarations_meet}
use Rattle.c_conditions.proofs.Reach.{seen_names}

-- behind the declarations: the typedefs, globals and functions above, and the parameters and locals
abbrev world_in : Seen → (names inner : Names) → World
world_in seen names inner = let k = known seen in world seen.structs k.pointed seen.typedefs names inner

knows : (seen : Seen) (names inner : Names) → Knows (known seen) (world_in seen names inner)
knows seen names inner = record { by_value = structs_known seen.structs; others = record { behind = λ q. refl; named = λ q. refl } }

-- ---- parameters and locals

variable_meets : (seen : Seen) (names above : Names) (v : CVariable) (place : ℕ)
    → Meets (at (world_in seen names above) place) (variable_demands (known seen) above v) (count spell_variable v) (world_in seen names (v.name ∷ above)) (variable v (at (world_in seen names above) place))
variable_meets seen names above v place =
    let w = world_in seen names above in
    recount (count spell_variable v) (sym (count_more spell_type type_follow v.of (Identifier v.name ∷ [])))
    (inner_then (count spell_type v.of) v.name above refl refl (rebase w place (type_meets (known seen) (at w place) (knows seen names above) v.of)))

next_meets : (seen : Seen) (names above : Names) (v : CVariable) (place : ℕ)
    → Meets (at (world_in seen names above) place) (after 1 (variable_demands (known seen) above v)) (count (spell_next spell_variable) v) (world_in seen names (v.name ∷ above)) (next_parameter v (at (world_in seen names above) place))
next_meets seen names above v place = recount (count (spell_next spell_variable) v) (omega arith) (pass_first 1 refl refl (variable_meets seen names above v (place + 1)))

parameters_meet : (seen : Seen) (names : Names) (all : List CVariable) (place : ℕ)
    → Meets (at (world_in seen names []) place) (listed_demands spell_variable and_variable (variable_demands (known seen)) [] all) (count (spell_or_void spell_variable) all) (world_in seen names (and_variables [] all)) (parameters all (at (world_in seen names []) place))
parameters_meet seen names [] place = rebase (world_in seen names []) place (passed (at (world_in seen names []) place) 1)
parameters_meet seen names (v ∷ more) place =
    recount (count (spell_or_void spell_variable) (v ∷ more)) (sym (count_more spell_variable variable_follow v (spell_all (spell_next spell_variable) more [])))
    (seq (each next_parameter more) (count spell_variable v) refl (variable_meets seen names [] v place)
    (each_meets (spell_next spell_variable) (next_follow spell_variable variable_follow) and_variable (λ s a. after 1 (variable_demands (known seen) s a)) next_parameter (world_in seen names) (next_meets seen names) (v.name ∷ []) more (place + count spell_variable v)))

line_count : (v : CVariable) → count spell_variable v + 1 ≡ count spell_variable_line v
line_count v = omega (arith, count_more spell_type type_follow v.of (Identifier v.name ∷ []), count_more spell_type type_follow v.of (Identifier v.name ∷ Sign mark.Semicolon ∷ []))

local_meets : (seen : Seen) (names above : Names) (v : CVariable) (place : ℕ)
    → Meets (at (world_in seen names above) place) (variable_demands (known seen) above v) (count spell_variable_line v) (world_in seen names (v.name ∷ above)) (local v (at (world_in seen names above) place))
local_meets seen names above v place = recount (count spell_variable_line v) (line_count v) (pass_last 1 (variable_meets seen names above v place))

-- the locals and statements of a function, with the labels that it has then
inner_meets : (seen : Seen) (names above : Names) (locals : List CVariable) (body : List Statement) (place : ℕ)
    → Meets (at (world_in seen names above) place) (block_demands (known seen) above locals body) (count (spell_all spell_variable_line) locals + count spell_body (body_of body))
    (scene (world_in seen names (fold and_variable above locals)) place (labels_of (body_of body)) zero) (inner_block locals (body_of body) (at (world_in seen names above) place))
inner_meets seen names above locals body place =
    let n = count (spell_all spell_variable_line) locals in let v = world_in seen names (fold and_variable above locals) in
    seq (block (body_of body)) n refl
    (each_meets spell_variable_line line_follow and_variable (variable_demands (known seen)) local (world_in seen names) (local_meets seen names) above locals place)
    (rebase (scene v place (labels_of (body_of body)) zero) (place + n) (block_meets (known seen) v (knows seen names (fold and_variable above locals)) (body_of body) (place + n)))

-- ---- globals and functions

inner_count : (locals : List CVariable) (body : List Statement) → count (spell_all spell_variable_line) locals + count spell_body (body_of body) + 2 ≡ length (spell_block locals body [])
inner_count locals body =
    omega (arith, count_more (spell_all spell_variable_line) (all_follow spell_variable_line line_follow) locals (spell_body (body_of body) (Sign mark.CloseBrace ∷ [])), count_more spell_body body_follow (body_of body) (Sign mark.CloseBrace ∷ []))

main_count : (m : CMain) → 6 + (count (spell_all spell_variable_line) m.locals + count spell_body (body_of m.body)) + 1 ≡ count spell_main m
main_count m = omega (arith, inner_count m.locals m.body)

global_meets : (seen : Seen) (names : Names) (v : CVariable) (place : ℕ)
    → Meets (at (world_in seen names []) place) (variable_demands (known seen) names v) (count spell_variable_line v) (world_in seen (v.name ∷ names) []) (global v (at (world_in seen names []) place))
global_meets seen names v place =
    let w = world_in seen names [] in let n = count spell_type v.of in
    recount (count spell_variable_line v) (sym (count_more spell_type type_follow v.of (Identifier v.name ∷ Sign mark.Semicolon ∷ [])))
    (pass_last 2 (changed (λ u. record u { names = with_name v.name u.names }) (world_in seen (v.name ∷ names) []) (λ p. refl)
    (tested (λ u. not (u.names v.name)) DoubleName n (Differs v.name names) refl refl (new_name (among v.name names)) (old_name (among v.name names))
    (rebase w place (type_meets (known seen) (at w place) (knows seen names []) v.of)))))

returned_meets : (seen : Seen) (names : Names) (of : Option ObjectType) (place : ℕ)
    → Meets (at (world_in seen names []) place) (result_demands (known seen) of) (count spell_result of) (world_in seen names []) (returned_type of (at (world_in seen names []) place))
returned_meets seen names None place = rebase (world_in seen names []) place (passed (at (world_in seen names []) place) 1)
returned_meets seen names (Some of) place = rebase (world_in seen names []) place (type_meets (known seen) (at (world_in seen names []) place) (knows seen names []) of)

heading_meets : (seen : Seen) (names : Names) (returned : Option ObjectType) (name : List ℕ) (all : List CVariable) (place : ℕ)
    → Meets (at (world_in seen names []) place) (heading_demands (known seen) names returned name all) (count spell_result returned + count (spell_or_void spell_variable) all + 3)
    (world_in seen names (and_variables [] all)) (heading returned name all (at (world_in seen names []) place))
heading_meets seen names returned name all place =
    let n = count spell_result returned in let k = known seen in
    let listed = listed_demands spell_variable and_variable (variable_demands k) [] all in
    recount (n + count (spell_or_void spell_variable) all + 3) (three n (count (spell_or_void spell_variable) all))
    (pass_last 1 (restate (heading_demands k names returned name all) (append_assoc (result_demands k returned) ((n, Differs name names) ∷ []) (after (n + 2) listed))
    (seq (parameters all) (n + 2) refl
    (pass_last 2 (tested (λ u. not (u.names name)) DoubleName n (Differs name names) refl refl (new_name (among name names)) (old_name (among name names)) (returned_meets seen names returned place)))
    (parameters_meet seen names all (place + (n + 2))))))
  where
    three : (a b : ℕ) → a + 2 + b + 1 ≡ a + b + 3
    three a b = omega arith

-- how many tokens a heading has with others behind it
heading_count : (returned : Option ObjectType) (name : List ℕ) (all : List CVariable) (rest : List Token)
    → length (spell_result returned (Identifier name ∷ spell_parameters all rest)) ≡ count spell_result returned + count (spell_or_void spell_variable) all + 3 + length rest
heading_count returned name all rest =
    omega (arith, count_more spell_result result_follow returned (Identifier name ∷ spell_parameters all rest), count_more (spell_or_void spell_variable) (or_void_follow spell_variable variable_follow) all (Sign mark.Close ∷ rest))

prototype_meets : (seen : Seen) (names : Names) (p : CPrototype) (place : ℕ)
    → Meets (at (world_in seen names []) place) (prototype_demands (known seen) names p) (count spell_prototype p) (world_in seen names []) (prototype p (at (world_in seen names []) place))
prototype_meets seen names p place =
    recount (count spell_prototype p) (sym (heading_count p.result p.name p.parameters (Sign mark.Semicolon ∷ [])))
    (pass_last 1 (changed (λ u. record u { inner = none; labels = none }) (world_in seen names []) (λ q. refl)
    (heading_meets seen names p.result p.name p.parameters place)))

function_count : (f : CFunction)
    → count spell_result f.result + count (spell_or_void spell_variable) f.parameters + 3 + 1 + (count (spell_all spell_variable_line) f.locals + count spell_body (body_of f.body)) + 1 ≡ count spell_function f
function_count f = omega (arith, heading_count f.result f.name f.parameters (spell_block f.locals f.body []), inner_count f.locals f.body)

function_meets : (seen : Seen) (names : Names) (f : CFunction) (place : ℕ)
    → Meets (at (world_in seen names []) place) (function_demands (known seen) names f) (count spell_function f) (world_in seen (f.name ∷ names) []) (function f (at (world_in seen names []) place))
function_meets seen names f place =
    let heading = count spell_result f.result + count (spell_or_void spell_variable) f.parameters in
    let body = body_of f.body in let above = and_variables [] f.parameters in
    let v = scene (world_in seen names (fold and_variable above f.locals)) (place + (heading + 3 + 1)) (labels_of body) zero in
    recount (count spell_function f) (function_count f)
    (pass_last 1 (changed (λ u. record u { inner = none; labels = none }) (world_in seen (f.name ∷ names) []) (λ q. refl)
    (changed (λ u. record u { names = with_name f.name u.names }) (record v { names = seen_names (f.name ∷ names) }) (λ q. refl)
    (seq (inner_block f.locals body) (heading + 4) (four heading) (pass_last 1 (heading_meets seen names f.result f.name f.parameters place))
    (inner_meets seen names above f.locals f.body (place + (heading + 3 + 1)))))))
  where
    four : (n : ℕ) → n + 4 ≡ n + 3 + 1
    four n = omega arith

main_meets : (seen : Seen) (names : Names) (m : CMain) (place : ℕ)
    → Meets (at (world_in seen names []) place) (main_demands (known seen) m) (count spell_main m)
    (scene (world_in seen names (fold and_variable [] m.locals)) (place + 6) (labels_of (body_of m.body)) zero) (main m (at (world_in seen names []) place))
main_meets seen names m place =
    recount (count spell_main m) (main_count m) (pass_last 1 (pass_first 6 refl refl (inner_meets seen names [] m.locals m.body (place + 6))))

-- ---- programs

or_turned : (a b c : Bool) → (a || (b || c)) ≡ (b || a || c)
or_turned true true c = refl
or_turned true false c = refl
or_turned false true c = refl
or_turned false false c = refl

among_turned : (name : List ℕ) (above all : Names) → among name (fold and_name above all) ≡ (among name all || among name above)
among_turned name above [] = refl
among_turned name above (n ∷ all) = among_turned name (n ∷ above) all ∙ or_turned (among name all) (bytes_eq n name) (among name above)

or_false : (a : Bool) → (a || false) ≡ a
or_false true = refl
or_false false = refl

forwarded : (all : Names) → seen_names (fold and_name [] all) ≡ seen_names all
forwarded all = λ i name. (among_turned name [] all ∙ or_false (among name all)) i

fold_same : (names : Names) (all : List CPrototype) → fold same names all ≡ names
fold_same names [] = refl
fold_same names (p ∷ all) = fold_same names all

pub program_concluded : (c : CProgram) → MatchResult (program c first) (λ u. HoldAllButLevels (program_demands c)) (λ f. FailsAt (program_demands c) f.kind f.token)
unfolding structs_of
program_concluded c =
    let seen = seen_last c in let k = known seen in
    let behind : Names → World = λ names. world_in seen names [] in
    let with_globals = and_variables seen.typedefs c.globals in
    let with_functions = fold and_function with_globals c.functions in
    let n1 = count (spell_all spell_forward) c.forwards in
    let n2 = count (spell_all spell_declaration) c.declarations in
    let n3 = count (spell_all spell_variable_line) c.globals in
    let n4 = count (spell_all spell_prototype) c.prototypes in
    let n5 = count (spell_all spell_function) c.functions in
    let functions : Step = each function c.functions >> main c.main in
    let prototypes : Step = each prototype c.prototypes >> functions in
    let globals : Step = each global c.globals >> prototypes in
    let declarations : Step = each declaration c.declarations >> globals in
    concluded refl
    (seq declarations n1 refl
    (retarget (world_after (seen_first c)) (λ i. record (world_forwarded []) { pointed = forwarded c.forwards i }) (forwards_meet c.forwards))
    (seq globals n2 refl
    (declarations_meet (seen_first c) c.declarations (0 + n1))
    (seq prototypes n3 refl
    (each_meets spell_variable_line line_follow and_variable (variable_demands k) global behind (global_meets seen) seen.typedefs c.globals (0 + n1 + n2))
    (seq functions n4 refl
    (retarget (behind with_globals) (λ i. behind (fold_same with_globals c.prototypes i))
    (each_meets spell_prototype prototype_follow same (prototype_demands k) prototype behind (prototype_meets seen) with_globals c.prototypes (0 + n1 + n2 + n3)))
    (seq (main c.main) n5 refl
    (each_meets spell_function function_follow and_function (function_demands k) function behind (function_meets seen) with_globals c.functions (0 + n1 + n2 + n3 + n4))
    (restate (main_demands k c.main ++ []) (sym (append-nil (main_demands k c.main))) (main_meets seen with_functions c.main (0 + n1 + n2 + n3 + n4 + n5))))))))

-- ---- what the code answers

pub checked : (c : CProgram) (w new : World) (r : Result (Unit {0}) ConditionFault) → w ≡ first → Gives r new (program c w)
    → MatchResult r (λ done. HoldAllButLevels (program_demands c)) (IsFailure (program_demands c))
checked c w new r e g = by r (subst (λ u. Gives r new (program c u)) e g)
  where
    by : (r : Result (Unit {0}) ConditionFault) → Gives r new (program c first) → MatchResult r (λ done. HoldAllButLevels (program_demands c)) (IsFailure (program_demands c))
    by (Ok done) g = MatchResult-at_ok (λ u. HoldAllButLevels (program_demands c)) (λ (f : Failure). FailsAt (program_demands c) f.kind f.token) new g (program_concluded c)
    by (Err (At kind token)) g =
        MatchResult-at_err (λ (u : World). HoldAllButLevels (program_demands c)) (λ f. FailsAt (program_demands c) f.kind f.token) (record { kind = kind; token = token }) g (program_concluded c)
    by (Err (Memory e)) g = tt
