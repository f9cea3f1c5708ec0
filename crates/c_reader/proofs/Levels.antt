-- A tree that is not nested too deep, and whose other conditions hold, is one whose conditions all hold.
use Rattle.std.proofs.Common.{ℕ, suc, ◌+◌, ◌≤◌, List, [], ◌∷◌, ◌++◌, Option, Some, None, arith}
use Rattle.std.specs.List.{AllByRecursion, Contains}
use Rattle.std.proofs.lemmas.List.Elements.{All-contains, All-from_recursion}
use Rattle.c_tree.specs.Tree.{ObjectType, Int, Word, Byte, Struct, Named, VoidPointer, Pointer, Expr, Read, Number, WordNumber, Null, Address, Unary, Binary, Cast, Place, Variable, Pointee, Member, Index, Statement, Assign, Call, Malloc, Free, GetChar, PutChar, If, IfElse, While, Goto, Label, Return, Body, Empty, Then, body_of}
use Rattle.c_tree.specs.declared.operators.CCast.{CCast}
use Rattle.c_tree.specs.declared.operators.CCast.TheVariants as cast
use Rattle.c_tree.specs.declared.statement.CCallee.{CCallee}
use Rattle.c_tree.specs.declared.statement.CCallee.TheVariants.{Direct, Indirect}
use Rattle.c_tree.specs.declared.program.CVariable.{CVariable}
use Rattle.c_tree.specs.declared.program.CMember.{CMember}
use Rattle.c_tree.specs.declared.program.CStruct.{CStruct}
use Rattle.c_tree.specs.declared.program.CDeclaration.{CDeclaration}
use Rattle.c_tree.specs.declared.program.CDeclaration.TheVariants as declared
use Rattle.c_tree.specs.declared.program.CFunction.{CFunction}
use Rattle.c_tree.specs.declared.program.CProgram.{CProgram}
use Rattle.c_grammar.specs.Types.{Seen, see, seen_first, seen_last, Known, known, known_in_typedef, known_in_struct, named_cells, member_cells}
use Rattle.c_grammar.specs.Spelling.{Spelling, count, spell_next, spell_type, spell_result, spell_cast, spell_expr, spell_place, spell_into, spell_callee, spell_statement, spell_body, spell_variable, spell_variable_line, spell_member, spell_forward, spell_declaration, spell_or_void, spell_all, spell_prototype, spell_function}
use Rattle.c_grammar.specs.Demands.{Names, Demand, Level, Leads, Differs, Declared, Length, Cells, Demands, HoldAll, after, all_demands, listed_demands, same, pointed_demands, type_demands, result_demands, cast_demands, expr_demands, place_demands, into_demands, callee_demands, value_demands, own_labels, labels_in, labels_of, statement_demands, body_demands, variable_demands, and_variable, and_variables, length_demands, member_demands, and_member, forward_demands, and_name, declaration_demands, heading_demands, prototype_demands, block_demands, function_demands, and_function, main_demands, program_demands}
use Rattle.c_conditions.specs.Conditions.{HoldAllButLevels}
use Rattle.c_expr_parser.specs.Depth.{expr_depth, place_depth, into_depth, callee_depth, value_depth, arguments_depth, statement_depth, body_depth, Fits}

abbrev LevelHolds : Demand → Type 0
LevelHolds (Level n) = n ≤ 2400
LevelHolds (Leads label labels) = Unit {0}
LevelHolds (Differs name others) = Unit {0}
LevelHolds (Declared name above) = Unit {0}
LevelHolds (Length n) = Unit {0}
LevelHolds (Cells n) = Unit {0}

-- no level is too deep
abbrev Within : Demands → Type 0
Within all = AllByRecursion (λ (d : ℕ × Demand). LevelHolds d.1) all

hold_both : (all : Demands) → HoldAllButLevels all → Within all → HoldAll all
hold_both [] h l = tt
hold_both ((n, Level m) ∷ all) h l = (l.0, hold_both all h.1 l.1)
hold_both ((n, Leads label labels) ∷ all) h l = (h.0, hold_both all h.1 l.1)
hold_both ((n, Differs name others) ∷ all) h l = (h.0, hold_both all h.1 l.1)
hold_both ((n, Declared name above) ∷ all) h l = (h.0, hold_both all h.1 l.1)
hold_both ((n, Length m) ∷ all) h l = (h.0, hold_both all h.1 l.1)
hold_both ((n, Cells m) ∷ all) h l = (h.0, hold_both all h.1 l.1)

both : (a b : Demands) → Within a → Within b → Within (a ++ b)
both [] b g h = h
both (d ∷ more) b g h = (g.0, both more b g.1 h)

later : (n : ℕ) (all : Demands) → Within all → Within (after n all)
later n [] h = tt
later n (d ∷ more) h = (h.0, later n more h.1)

module _ {S A : Type 0} (spell : Spelling A) (step : S → A → S) (demands : S → A → Demands) where
  each_within : ((s : S) (a : A) → Within (demands s a)) → (s : S) (all : List A) → Within (all_demands spell step demands s all)
  each_within h s [] = tt
  each_within h s (a ∷ more) = both (demands s a) (after (count spell a) (all_demands spell step demands (step s a) more)) (h s a) (later (count spell a) (all_demands spell step demands (step s a) more) (each_within h (step s a) more))

listed_within : {S A : Type 0} (spell : Spelling A) (step : S → A → S) (demands : S → A → Demands) → ((s : S) (a : A) → Within (demands s a)) → (s : S) (all : List A) → Within (listed_demands spell step demands s all)
listed_within spell step demands h s [] = tt
listed_within {S} {A} spell step demands h s (a ∷ more) =
    let next : S → A → Demands = λ s a. after 1 (demands s a) in
    both (demands s a) (after (count spell a) (all_demands (spell_next spell) step next (step s a) more)) (h s a)
    (later (count spell a) (all_demands (spell_next spell) step next (step s a) more) (each_within (spell_next spell) step next (λ s a. later 1 (demands s a) (h s a)) (step s a) more))

-- ---- types have no levels

pointed_within : (k : Known) (of : ObjectType) → Within (pointed_demands k of)
pointed_within k Int = tt
pointed_within k Word = tt
pointed_within k Byte = tt
pointed_within k VoidPointer = tt
pointed_within k (Struct n) = (tt, tt)
pointed_within k (Named n) = (tt, tt)
pointed_within k (Pointer of) = pointed_within k of

type_within : (k : Known) (of : ObjectType) → Within (type_demands k of)
type_within k Int = tt
type_within k Word = tt
type_within k Byte = tt
type_within k VoidPointer = tt
type_within k (Struct n) = (tt, tt)
type_within k (Named n) = (tt, tt)
type_within k (Pointer of) = pointed_within k of

result_within : (k : Known) (of : Option ObjectType) → Within (result_demands k of)
result_within k None = tt
result_within k (Some of) = type_within k of

cast_within : (k : Known) (to : CCast) → Within (cast_demands k to)
cast_within k cast.Int = tt
cast_within k cast.Word = tt
cast_within k cast.VoidPointer = tt
cast_within k (cast.StructPointer n) = (tt, tt)

-- ---- expressions and places

mutual
  expr_within : (k : Known) (level : ℕ) (e : Expr) → level + expr_depth e ≤ 2401 → Within (expr_demands k level e)
  expr_within k level (Read p) h = (omega arith, place_within k (suc level) p (omega arith))
  expr_within k level (Number n) h = (omega arith, tt)
  expr_within k level (WordNumber n) h = (omega arith, tt)
  expr_within k level Null h = (omega arith, tt)
  expr_within k level (Address p) h = (omega arith, later 2 (place_demands k (suc level) p) (place_within k (suc level) p (omega arith)))
  expr_within k level (Unary op a) h = (omega arith, later 2 (expr_demands k (suc level) a) (expr_within k (suc level) a (omega arith)))
  expr_within k level (Binary op a b) h =
      let first = expr_demands k (suc level) a in let second = expr_demands k (suc level) b in
      (omega arith, both (after 1 first) (after (count spell_expr a + 2) second) (later 1 first (expr_within k (suc level) a (omega arith))) (later (count spell_expr a + 2) second (expr_within k (suc level) b (omega arith))))
  expr_within k level (Cast to a) h =
      let inner = expr_demands k (suc level) a in
      (omega arith, both (after 2 (cast_demands k to)) (after (count spell_cast to + 3) inner) (later 2 (cast_demands k to) (cast_within k to)) (later (count spell_cast to + 3) inner (expr_within k (suc level) a (omega arith))))

  place_within : (k : Known) (level : ℕ) (p : Place) → level + place_depth p ≤ 2401 → Within (place_demands k level p)
  place_within k level (Variable n) h = tt
  place_within k level (Pointee a) h = later 2 (expr_demands k level a) (expr_within k level a h)
  place_within k level (Member p n) h = place_within k level p h
  place_within k level (Index p a) h =
      both (place_demands k level p) (after (count spell_place p + 1) (expr_demands k level a)) (place_within k level p (omega arith)) (later (count spell_place p + 1) (expr_demands k level a) (expr_within k level a (omega arith)))

into_within : (k : Known) (level : ℕ) (p : Option Place) → level + into_depth p ≤ 2401 → Within (into_demands k level p)
into_within k level None h = tt
into_within k level (Some p) h = place_within k level p h

callee_within : (k : Known) (level : ℕ) (c : CCallee) → level + callee_depth c ≤ 2401 → Within (callee_demands k level c)
callee_within k level (Direct n) h = tt
callee_within k level (Indirect a) h = later 2 (expr_demands k level a) (expr_within k level a h)

value_within : (k : Known) (level : ℕ) (a : Option Expr) → level + value_depth a ≤ 2401 → Within (value_demands k level a)
value_within k level None h = tt
value_within k level (Some a) h = expr_within k level a h

-- arguments behind the first
more_within : (k : Known) (level : ℕ) (all : List Expr) → level + arguments_depth all ≤ 2401 → Within (all_demands (spell_next spell_expr) same (λ s a. after 1 (expr_demands k s a)) level all)
more_within k level [] h = tt
more_within k level (a ∷ more) h =
    let first = after 1 (expr_demands k level a) in
    let rest = all_demands (spell_next spell_expr) same (λ s a. after 1 (expr_demands k s a)) level more in
    both first (after (count (spell_next spell_expr) a) rest) (later 1 (expr_demands k level a) (expr_within k level a (omega arith))) (later (count (spell_next spell_expr) a) rest (more_within k level more (omega arith)))

arguments_within : (k : Known) (level : ℕ) (all : List Expr) → level + arguments_depth all ≤ 2401 → Within (listed_demands spell_expr same (expr_demands k) level all)
arguments_within k level [] h = tt
arguments_within k level (a ∷ more) h =
    let rest = all_demands (spell_next spell_expr) same (λ s a. after 1 (expr_demands k s a)) level more in
    both (expr_demands k level a) (after (count spell_expr a) rest) (expr_within k level a (omega arith)) (later (count spell_expr a) rest (more_within k level more (omega arith)))

-- ---- statements

mutual
  statement_within : (k : Known) (reached above : Names) (level : ℕ) (s : Statement) → level + statement_depth s ≤ 2401 → Within (statement_demands k reached above level s)
  statement_within k reached above level (Assign p a) h =
      let first = place_demands k (suc level) p in let second = expr_demands k (suc level) a in
      (omega arith, both first (after (count spell_place p + 1) second) (place_within k (suc level) p (omega arith)) (later (count spell_place p + 1) second (expr_within k (suc level) a (omega arith))))
  statement_within k reached above level (Call into callee all) h =
      let before = count spell_into into in let first = into_demands k (suc level) into in let second = callee_demands k (suc level) callee in
      let third = listed_demands spell_expr same (expr_demands k) (suc level) all in (
        omega arith,
        both (first ++ after before second) (after (before + count spell_callee callee + 1) third)
            (both first (after before second) (into_within k (suc level) into (omega arith)) (later before second (callee_within k (suc level) callee (omega arith))))
            (later (before + count spell_callee callee + 1) third (arguments_within k (suc level) all (omega arith))),
      )
  statement_within k reached above level (Malloc p of) h =
      (omega arith, both (place_demands k (suc level) p) (after (count spell_place p + 5) (type_demands k of)) (place_within k (suc level) p (omega arith)) (later (count spell_place p + 5) (type_demands k of) (type_within k of)))
  statement_within k reached above level (Free a) h = (omega arith, later 2 (expr_demands k (suc level) a) (expr_within k (suc level) a (omega arith)))
  statement_within k reached above level (GetChar p) h = (omega arith, place_within k (suc level) p (omega arith))
  statement_within k reached above level (PutChar a) h = (omega arith, later 2 (expr_demands k (suc level) a) (expr_within k (suc level) a (omega arith)))
  statement_within k reached above level (If test a) h =
      let first = after 2 (expr_demands k (suc level) test) in let second = body_demands k (own_labels a ++ reached) above (suc level) a in (
        omega arith,
        both first (after (count spell_expr test + 4) second) (later 2 (expr_demands k (suc level) test) (expr_within k (suc level) test (omega arith)))
            (later (count spell_expr test + 4) second (body_within k (own_labels a ++ reached) above (suc level) a (omega arith))),
      )
  statement_within k reached above level (IfElse test a b) h =
      let first = after 2 (expr_demands k (suc level) test) in let second = body_demands k (own_labels a ++ reached) above (suc level) a in
      let third = body_demands k (own_labels b ++ reached) (above ++ labels_of a) (suc level) b in (
        omega arith,
        both (first ++ after (count spell_expr test + 4) second) (after (count spell_expr test + count spell_body a + 7) third)
            (both first (after (count spell_expr test + 4) second) (later 2 (expr_demands k (suc level) test) (expr_within k (suc level) test (omega arith)))
            (later (count spell_expr test + 4) second (body_within k (own_labels a ++ reached) above (suc level) a (omega arith))))
            (later (count spell_expr test + count spell_body a + 7) third (body_within k (own_labels b ++ reached) (above ++ labels_of a) (suc level) b (omega arith))),
      )
  statement_within k reached above level (While test a) h =
      let first = after 2 (expr_demands k (suc level) test) in let second = body_demands k (own_labels a ++ reached) above (suc level) a in (
        omega arith,
        both first (after (count spell_expr test + 4) second) (later 2 (expr_demands k (suc level) test) (expr_within k (suc level) test (omega arith)))
            (later (count spell_expr test + 4) second (body_within k (own_labels a ++ reached) above (suc level) a (omega arith))),
      )
  statement_within k reached above level (Goto l) h = (omega arith, (tt, tt))
  statement_within k reached above level (Label l) h = (omega arith, (tt, tt))
  statement_within k reached above level (Return a) h = (omega arith, later 1 (value_demands k (suc level) a) (value_within k (suc level) a (omega arith)))

  body_within : (k : Known) (reached above : Names) (level : ℕ) (b : Body) → level + body_depth b ≤ 2401 → Within (body_demands k reached above level b)
  body_within k reached above level Empty h = tt
  body_within k reached above level (Then s more) h =
      let rest = body_demands k reached (above ++ labels_in s) level more in
      both (statement_demands k reached above level s) (after (count spell_statement s) rest) (statement_within k reached above level s (omega arith))
      (later (count spell_statement s) rest (body_within k reached (above ++ labels_in s) level more (omega arith)))

-- ---- declarations have no levels

variable_within : (k : Known) (above : Names) (v : CVariable) → Within (variable_demands k above v)
variable_within k above v = both (type_demands k v.of) ((count spell_type v.of, Differs v.name above) ∷ []) (type_within k v.of) (tt, tt)

length_within : (cells : ℕ) (l : Option ℕ) → Within (length_demands cells l)
length_within cells None = tt
length_within cells (Some n) = (tt, (tt, tt))

member_within : (k : Known) (structs : List CStruct) (above : Names) (m : CMember) → Within (member_demands k structs above m)
member_within k structs above m =
    let lengths = length_demands (member_cells (named_cells structs) m) m.length in
    both (type_demands k m.of) ((count spell_type m.of, Differs m.name above) ∷ after (count spell_type m.of + 1) lengths) (type_within k m.of)
    (tt, later (count spell_type m.of + 1) lengths (length_within (member_cells (named_cells structs) m) m.length))

declaration_within : (seen : Seen) (d : CDeclaration) → Within (declaration_demands seen d)
declaration_within seen (declared.Typedef t) =
    let k = known_in_typedef seen in let n = count spell_result t.result in let listed = listed_demands spell_type same type_demands k t.parameters in
    both (after 1 (result_demands k t.result)) ((n + 3, Differs t.name seen.typedefs) ∷ after (n + 6) listed) (later 1 (result_demands k t.result) (result_within k t.result))
    (tt, later (n + 6) listed (listed_within spell_type same type_demands type_within k t.parameters))
declaration_within seen (declared.Struct s) =
    let k = known_in_struct s.name seen in
    (tt, (tt, later 3 (all_demands spell_member and_member (member_demands k seen.structs) [] s.members) (each_within spell_member and_member (member_demands k seen.structs) (member_within k seen.structs) [] s.members)))

heading_within : (k : Known) (above : Names) (returned : Option ObjectType) (name : List ℕ) (all : List CVariable) → Within (heading_demands k above returned name all)
heading_within k above returned name all =
    let n = count spell_result returned in let listed = listed_demands spell_variable and_variable (variable_demands k) [] all in
    both (result_demands k returned) ((n, Differs name above) ∷ after (n + 2) listed) (result_within k returned) (tt, later (n + 2) listed (listed_within spell_variable and_variable (variable_demands k) (variable_within k) [] all))

block_within : (k : Known) (above : Names) (locals : List CVariable) (body : List Statement) → body_depth (body_of body) ≤ 2400 → Within (block_demands k above locals body)
block_within k above locals body h =
    let first = all_demands spell_variable_line and_variable (variable_demands k) above locals in let n = count (spell_all spell_variable_line) locals in
    let second = body_demands k (own_labels (body_of body)) [] 1 (body_of body) in
    both first (after n second) (each_within spell_variable_line and_variable (variable_demands k) (variable_within k) above locals) (later n second (body_within k (own_labels (body_of body)) [] 1 (body_of body) (omega arith)))

function_within : (k : Known) (above : Names) (f : CFunction) → body_depth (body_of f.body) ≤ 2400 → Within (function_demands k above f)
function_within k above f h =
    let n = count spell_result f.result + count (spell_or_void spell_variable) f.parameters + 4 in let inner = block_demands k (and_variables [] f.parameters) f.locals f.body in
    both (heading_demands k above f.result f.name f.parameters) (after n inner) (heading_within k above f.result f.name f.parameters) (later n inner (block_within k (and_variables [] f.parameters) f.locals f.body h))

functions_within : (k : Known) (above : Names) (all : List CFunction) → AllByRecursion (λ (f : CFunction). body_depth (body_of f.body) ≤ 2400) all → Within (all_demands spell_function and_function (function_demands k) above all)
functions_within k above [] h = tt
functions_within k above (f ∷ more) h =
    let rest = all_demands spell_function and_function (function_demands k) (and_function above f) more in
    both (function_demands k above f) (after (count spell_function f) rest) (function_within k above f h.0) (later (count spell_function f) rest (functions_within k (and_function above f) more h.1))

-- parts in a row
row_within : (n : ℕ) (first rest : Demands) → Within first → Within rest → Within (first ++ after n rest)
row_within n first rest g h = both first (after n rest) g (later n rest h)

program_within : (c : CProgram) → Fits 2400 c → Within (program_demands c)
program_within c h =
    let seen = seen_last c in let k = known seen in let with_globals = and_variables seen.typedefs c.globals in
    row_within (count (spell_all spell_forward) c.forwards) _ _ (each_within spell_forward and_name forward_demands (λ s a. (tt, tt)) [] c.forwards)
    (row_within (count (spell_all spell_declaration) c.declarations) _ _ (each_within spell_declaration see declaration_demands declaration_within (seen_first c) c.declarations)
    (row_within (count (spell_all spell_variable_line) c.globals) _ _ (each_within spell_variable_line and_variable (variable_demands k) (variable_within k) seen.typedefs c.globals)
    (row_within (count (spell_all spell_prototype) c.prototypes) _ _ (each_within spell_prototype same (prototype_demands k) (λ s p. heading_within k s p.result p.name p.parameters) with_globals c.prototypes)
    (row_within (count (spell_all spell_function) c.functions) _ _ (functions_within k with_globals c.functions h.0)
    (row_within 0 (main_demands k c.main) [] (later 6 (block_demands k [] c.main.locals c.main.body) (block_within k [] c.main.locals c.main.body h.1)) tt)))))

-- the conditions of a tree that is not nested too deep
pub hold_all : (c : CProgram) → HoldAllButLevels (program_demands c) → Fits 2400 c → HoldAll (program_demands c)
hold_all c h fits = hold_both (program_demands c) h (program_within c fits)

pub level_holds : (c : CProgram) → Fits 2400 c → (n level : ℕ) → Contains (program_demands c) (n, Level level) → level ≤ 2400
level_holds c fits n level h = let holds = λ (d : ℕ × Demand). LevelHolds d.1 in All-contains holds (program_demands c) (n, Level level) (All-from_recursion holds (program_demands c) (program_within c fits)) h
