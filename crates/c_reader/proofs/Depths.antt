-- A tree whose conditions all hold is not nested too deep.
use Rattle.std.proofs.Common.{ℕ, suc, ◌+◌, ◌≤◌, List, [], ◌∷◌, ◌++◌, Option, Some, None, arith}
use Rattle.std.specs.List.{AllByRecursion}
use Rattle.c_tree.specs.Tree.{Expr, Read, Number, WordNumber, Null, Address, Unary, Binary, Cast, Place, Variable, Pointee, Member, Index, Statement, Assign, Call, Malloc, Free, GetChar, PutChar, If, IfElse, While, Goto, Label, Return, Body, Empty, Then, body_of}
use Rattle.c_tree.specs.declared.statement.CCallee.{CCallee}
use Rattle.c_tree.specs.declared.statement.CCallee.TheVariants.{Direct, Indirect}
use Rattle.c_tree.specs.declared.program.CVariable.{CVariable}
use Rattle.c_tree.specs.declared.program.CFunction.{CFunction}
use Rattle.c_tree.specs.declared.program.CProgram.{CProgram}
use Rattle.c_grammar.specs.Types.{Known, see, seen_first, seen_last, known}
use Rattle.c_grammar.specs.Spelling.{count, spell_all, spell_next, spell_or_void, spell_result, spell_cast, spell_expr, spell_place, spell_into, spell_callee, spell_statement, spell_body, spell_variable, spell_variable_line, spell_forward, spell_declaration, spell_prototype, spell_function}
use Rattle.c_grammar.specs.Demands.{Names, Demands, HoldAll, after, all_demands, listed_demands, same, type_demands, cast_demands, expr_demands, place_demands, into_demands, callee_demands, value_demands, own_labels, labels_in, labels_of, statement_demands, body_demands, variable_demands, and_variable, and_variables, forward_demands, and_name, declaration_demands, heading_demands, prototype_demands, block_demands, function_demands, and_function, main_demands, program_demands}
use Rattle.c_grammar.proofs.Hold.{held_before, hold_first, hold_second}
use Rattle.c_expr_parser.specs.Depth.{expr_depth, place_depth, into_depth, callee_depth, value_depth, arguments_depth, statement_depth, body_depth, Fits}

-- the demands of a part that begins n tokens later, behind those of another
behind : (first : Demands) (n : ℕ) (second : Demands) → HoldAll (first ++ after n second) → HoldAll second
behind first n second h = held_before n second (hold_second first (after n second) h)

-- ---- expressions and places

mutual
  expr_fits : (k : Known) (level : ℕ) (e : Expr) → HoldAll (expr_demands k level e) → level + expr_depth e ≤ 2401
  expr_fits k level (Read p) (low, h) = let inner = place_fits k (suc level) p (omega arith) h in omega arith
  expr_fits k level (Number n) (low, h) = omega arith
  expr_fits k level (WordNumber n) (low, h) = omega arith
  expr_fits k level Null (low, h) = omega arith
  expr_fits k level (Address p) (low, h) = let inner = place_fits k (suc level) p (omega arith) (held_before 2 (place_demands k (suc level) p) h) in omega arith
  expr_fits k level (Unary op a) (low, h) = let inner = expr_fits k (suc level) a (held_before 2 (expr_demands k (suc level) a) h) in omega arith
  expr_fits k level (Binary op a b) (low, h) =
      let first = expr_demands k (suc level) a in let second = expr_demands k (suc level) b in let n = count spell_expr a + 2 in
      let left = expr_fits k (suc level) a (held_before 1 first (hold_first (after 1 first) (after n second) h)) in
      let right = expr_fits k (suc level) b (behind (after 1 first) n second h) in omega arith
  expr_fits k level (Cast to a) (low, h) = let inner = expr_fits k (suc level) a (behind (after 2 (cast_demands k to)) (count spell_cast to + 3) (expr_demands k (suc level) a) h) in omega arith

  place_fits : (k : Known) (level : ℕ) (p : Place) → level ≤ 2401 → HoldAll (place_demands k level p) → level + place_depth p ≤ 2401
  place_fits k level (Variable n) low h = omega arith
  place_fits k level (Pointee a) low h = expr_fits k level a (held_before 2 (expr_demands k level a) h)
  place_fits k level (Member p n) low h = place_fits k level p low h
  place_fits k level (Index p a) low h =
      let first = place_demands k level p in let second = expr_demands k level a in let n = count spell_place p + 1 in
      let left = place_fits k level p low (hold_first first (after n second) h) in
      let right = expr_fits k level a (behind first n second h) in omega arith

into_fits : (k : Known) (level : ℕ) (p : Option Place) → level ≤ 2401 → HoldAll (into_demands k level p) → level + into_depth p ≤ 2401
into_fits k level None low h = omega arith
into_fits k level (Some p) low h = place_fits k level p low h

callee_fits : (k : Known) (level : ℕ) (c : CCallee) → level ≤ 2401 → HoldAll (callee_demands k level c) → level + callee_depth c ≤ 2401
callee_fits k level (Direct n) low h = omega arith
callee_fits k level (Indirect a) low h = expr_fits k level a (held_before 2 (expr_demands k level a) h)

value_fits : (k : Known) (level : ℕ) (a : Option Expr) → level ≤ 2401 → HoldAll (value_demands k level a) → level + value_depth a ≤ 2401
value_fits k level None low h = omega arith
value_fits k level (Some a) low h = expr_fits k level a h

abbrev next_demands : Known → ℕ → List Expr → Demands
next_demands k level all = all_demands (spell_next spell_expr) same (λ s a. after 1 (expr_demands k s a)) level all

-- arguments behind the first
more_fit : (k : Known) (level : ℕ) (all : List Expr) → level ≤ 2401 → HoldAll (next_demands k level all) → level + arguments_depth all ≤ 2401
more_fit k level [] low h = omega arith
more_fit k level (a ∷ more) low h =
    let first = expr_demands k level a in let second = next_demands k level more in let n = count (spell_next spell_expr) a in
    let left = expr_fits k level a (held_before 1 first (hold_first (after 1 first) (after n second) h)) in
    let right = more_fit k level more low (behind (after 1 first) n second h) in omega arith

arguments_fit : (k : Known) (level : ℕ) (all : List Expr) → level ≤ 2401 → HoldAll (listed_demands spell_expr same (expr_demands k) level all) → level + arguments_depth all ≤ 2401
arguments_fit k level [] low h = omega arith
arguments_fit k level (a ∷ more) low h =
    let first = expr_demands k level a in let second = next_demands k level more in let n = count spell_expr a in
    let left = expr_fits k level a (hold_first first (after n second) h) in
    let right = more_fit k level more low (behind first n second h) in omega arith

-- ---- statements

test_fits : (k : Known) (level : ℕ) (test : Expr) (more : Demands) → HoldAll (after 2 (expr_demands k level test) ++ more) → level + expr_depth test ≤ 2401
test_fits k level test more h = let inner = expr_demands k level test in expr_fits k level test (held_before 2 inner (hold_first (after 2 inner) more h))

mutual
  statement_fits : (k : Known) (reached above : Names) (level : ℕ) (s : Statement) → HoldAll (statement_demands k reached above level s) → level + statement_depth s ≤ 2401
  statement_fits k reached above level (Assign p a) (low, h) =
      let first = place_demands k (suc level) p in let second = expr_demands k (suc level) a in let n = count spell_place p + 1 in
      let left = place_fits k (suc level) p (omega arith) (hold_first first (after n second) h) in
      let right = expr_fits k (suc level) a (behind first n second h) in omega arith
  statement_fits k reached above level (Call into callee all) (low, h) =
      let first = into_demands k (suc level) into in let second = callee_demands k (suc level) callee in
      let third = listed_demands spell_expr same (expr_demands k) (suc level) all in
      let n = count spell_into into in let m = n + count spell_callee callee + 1 in
      let both = hold_first (first ++ after n second) (after m third) h in
      let left = into_fits k (suc level) into (omega arith) (hold_first first (after n second) both) in
      let middle = callee_fits k (suc level) callee (omega arith) (behind first n second both) in
      let right = arguments_fit k (suc level) all (omega arith) (behind (first ++ after n second) m third h) in omega arith
  statement_fits k reached above level (Malloc p of) (low, h) =
      let left = place_fits k (suc level) p (omega arith) (hold_first (place_demands k (suc level) p) (after (count spell_place p + 5) (type_demands k of)) h) in omega arith
  statement_fits k reached above level (Free a) (low, h) = let inner = expr_fits k (suc level) a (held_before 2 (expr_demands k (suc level) a) h) in omega arith
  statement_fits k reached above level (GetChar p) (low, h) = let inner = place_fits k (suc level) p (omega arith) h in omega arith
  statement_fits k reached above level (PutChar a) (low, h) = let inner = expr_fits k (suc level) a (held_before 2 (expr_demands k (suc level) a) h) in omega arith
  statement_fits k reached above level (If test a) (low, h) =
      let first = after 2 (expr_demands k (suc level) test) in let second = body_demands k (own_labels a ++ reached) above (suc level) a in let n = count spell_expr test + 4 in
      let left = test_fits k (suc level) test (after n second) h in
      let right = body_fits k (own_labels a ++ reached) above (suc level) a (omega arith) (behind first n second h) in omega arith
  statement_fits k reached above level (IfElse test a b) (low, h) =
      let first = after 2 (expr_demands k (suc level) test) in let second = body_demands k (own_labels a ++ reached) above (suc level) a in
      let third = body_demands k (own_labels b ++ reached) (above ++ labels_of a) (suc level) b in
      let n = count spell_expr test + 4 in let m = count spell_expr test + count spell_body a + 7 in
      let both = hold_first (first ++ after n second) (after m third) h in
      let left = test_fits k (suc level) test (after n second) both in
      let middle = body_fits k (own_labels a ++ reached) above (suc level) a (omega arith) (behind first n second both) in
      let right = body_fits k (own_labels b ++ reached) (above ++ labels_of a) (suc level) b (omega arith) (behind (first ++ after n second) m third h) in omega arith
  statement_fits k reached above level (While test a) (low, h) =
      let first = after 2 (expr_demands k (suc level) test) in let second = body_demands k (own_labels a ++ reached) above (suc level) a in let n = count spell_expr test + 4 in
      let left = test_fits k (suc level) test (after n second) h in
      let right = body_fits k (own_labels a ++ reached) above (suc level) a (omega arith) (behind first n second h) in omega arith
  statement_fits k reached above level (Goto l) (low, h) = omega arith
  statement_fits k reached above level (Label l) (low, h) = omega arith
  statement_fits k reached above level (Return a) (low, h) = let inner = value_fits k (suc level) a (omega arith) (held_before 1 (value_demands k (suc level) a) h) in omega arith

  body_fits : (k : Known) (reached above : Names) (level : ℕ) (b : Body) → level ≤ 2401 → HoldAll (body_demands k reached above level b) → level + body_depth b ≤ 2401
  body_fits k reached above level Empty low h = omega arith
  body_fits k reached above level (Then s more) low h =
      let first = statement_demands k reached above level s in let second = body_demands k reached (above ++ labels_in s) level more in let n = count spell_statement s in
      let left = statement_fits k reached above level s (hold_first first (after n second) h) in
      let right = body_fits k reached (above ++ labels_in s) level more low (behind first n second h) in omega arith

-- ---- programs

block_fits : (k : Known) (above : Names) (locals : List CVariable) (body : List Statement) → HoldAll (block_demands k above locals body) → body_depth (body_of body) ≤ 2400
block_fits k above locals body h =
    let b = body_of body in
    let inner = behind (all_demands spell_variable_line and_variable (variable_demands k) above locals) (count (spell_all spell_variable_line) locals) (body_demands k (own_labels b) [] 1 b) h in
    let whole = body_fits k (own_labels b) [] 1 b (omega arith) inner in omega arith

function_fits : (k : Known) (above : Names) (f : CFunction) → HoldAll (function_demands k above f) → body_depth (body_of f.body) ≤ 2400
function_fits k above f h =
    let n = count spell_result f.result + count (spell_or_void spell_variable) f.parameters + 4 in
    block_fits k (and_variables [] f.parameters) f.locals f.body (behind (heading_demands k above f.result f.name f.parameters) n (block_demands k (and_variables [] f.parameters) f.locals f.body) h)

functions_fit : (k : Known) (above : Names) (all : List CFunction) → HoldAll (all_demands spell_function and_function (function_demands k) above all)
    → AllByRecursion (λ (f : CFunction). body_depth (body_of f.body) ≤ 2400) all
functions_fit k above [] h = tt
functions_fit k above (f ∷ more) h =
    let first = function_demands k above f in let second = all_demands spell_function and_function (function_demands k) (and_function above f) more in let n = count spell_function f in
    (function_fits k above f (hold_first first (after n second) h), functions_fit k (and_function above f) more (behind first n second h))

pub program_fits : (c : CProgram) → HoldAll (program_demands c) → Fits 2400 c
program_fits c h =
    let seen = seen_last c in let k = known seen in let with_globals = and_variables seen.typedefs c.globals in
    let main = main_demands k c.main ++ after 0 [] in
    let functions = all_demands spell_function and_function (function_demands k) with_globals c.functions in let from_functions = functions ++ after (count (spell_all spell_function) c.functions) main in
    let prototypes = all_demands spell_prototype same (prototype_demands k) with_globals c.prototypes in let from_prototypes = prototypes ++ after (count (spell_all spell_prototype) c.prototypes) from_functions in
    let globals = all_demands spell_variable_line and_variable (variable_demands k) seen.typedefs c.globals in let from_globals = globals ++ after (count (spell_all spell_variable_line) c.globals) from_prototypes in
    let declarations = all_demands spell_declaration see declaration_demands (seen_first c) c.declarations in let from_declarations = declarations ++ after (count (spell_all spell_declaration) c.declarations) from_globals in
    let forwards = all_demands spell_forward and_name forward_demands [] c.forwards in
    let a = behind forwards (count (spell_all spell_forward) c.forwards) from_declarations h in
    let b = behind declarations (count (spell_all spell_declaration) c.declarations) from_globals a in
    let d = behind globals (count (spell_all spell_variable_line) c.globals) from_prototypes b in
    let e = behind prototypes (count (spell_all spell_prototype) c.prototypes) from_functions d in
    let block = block_demands k [] c.main.locals c.main.body in (
      functions_fit k with_globals c.functions (hold_first functions (after (count (spell_all spell_function) c.functions) main) e),
      block_fits k [] c.main.locals c.main.body (held_before 6 block (hold_first (after 6 block) (after 0 []) (behind functions (count (spell_all spell_function) c.functions) main e))),
    )
