-- The levels of a program rise by one.
use Rattle.std.proofs.Common.{ℕ, suc, ◌+◌, List, [], ◌∷◌, ◌++◌, Option, Some, None}
use Rattle.c_tree.specs.Tree.{ObjectType, Int, Word, Byte, Struct, Named, VoidPointer, Pointer, Expr, Read, Number, WordNumber, Null, Address, Unary, Binary, Cast, Place, Variable, Pointee, Member, Index, Statement, Assign, Call, Malloc, Free, GetChar, PutChar, If, IfElse, While, Goto, Label, Return, Body, Empty, Then, body_of}
use Rattle.c_tree.specs.declared.operators.CCast.{CCast}
use Rattle.c_tree.specs.declared.operators.CCast.TheVariants as cast
use Rattle.c_tree.specs.declared.statement.CCallee.{CCallee}
use Rattle.c_tree.specs.declared.statement.CCallee.TheVariants.{Direct, Indirect}
use Rattle.c_tree.specs.declared.program.CVariable.{CVariable}
use Rattle.c_tree.specs.declared.program.CMember.{CMember}
use Rattle.c_tree.specs.declared.program.CStruct.{CStruct}
use Rattle.c_tree.specs.declared.program.CDeclaration.{CDeclaration}
use Rattle.c_tree.specs.declared.program.CDeclaration.TheVariants as declared
use Rattle.c_tree.specs.declared.program.CFunction.{CFunction}
use Rattle.c_tree.specs.declared.program.CProgram.{CProgram}
use Rattle.c_grammar.specs.Types.{Seen, see, seen_first, seen_last, Known, known, known_in_typedef, known_in_struct, named_cells, member_cells}
use Rattle.c_grammar.specs.Spelling.{Spelling, count, spell_all, spell_next, spell_or_void, spell_type, spell_result, spell_cast, spell_expr, spell_place, spell_into, spell_callee, spell_statement, spell_body, spell_variable, spell_variable_line, spell_member, spell_forward, spell_declaration, spell_prototype, spell_function}
use Rattle.c_grammar.specs.Demands.{Names, Differs, Cells, Demands, after, all_demands, listed_demands, same, pointed_demands, type_demands, result_demands, cast_demands, expr_demands, place_demands, into_demands, callee_demands, value_demands, own_labels, labels_in, labels_of, statement_demands, body_demands, variable_demands, and_variable, and_variables, length_demands, member_demands, and_member, forward_demands, and_name, declaration_demands, heading_demands, prototype_demands, block_demands, function_demands, and_function, program_demands}
use Rattle.c_grammar.proofs.Levels.{Falls, empty, both, later, node}

-- ---- types have no levels

pointed_falls : {base : ℕ} (k : Known) (of : ObjectType) → Falls base (pointed_demands k of)
pointed_falls k Int = empty
pointed_falls k Word = empty
pointed_falls k Byte = empty
pointed_falls k (Struct n) = record { lower = λ l t h a b. h }
pointed_falls k (Named n) = record { lower = λ l t h a b. h }
pointed_falls k VoidPointer = empty
pointed_falls k (Pointer of) = pointed_falls k of

type_falls : {base : ℕ} (k : Known) (of : ObjectType) → Falls base (type_demands k of)
type_falls k Int = empty
type_falls k Word = empty
type_falls k Byte = empty
type_falls k (Struct n) = record { lower = λ l t h a b. h }
type_falls k (Named n) = record { lower = λ l t h a b. h }
type_falls k VoidPointer = empty
type_falls k (Pointer of) = pointed_falls k of

result_falls : {base : ℕ} (k : Known) (r : Option ObjectType) → Falls base (result_demands k r)
result_falls k None = empty
result_falls k (Some of) = type_falls k of

cast_falls : {base : ℕ} (k : Known) (to : CCast) → Falls base (cast_demands k to)
cast_falls k cast.Int = empty
cast_falls k cast.Word = empty
cast_falls k cast.VoidPointer = empty
cast_falls k (cast.StructPointer n) = record { lower = λ l t h a b. h }

-- ---- lists

abbrev EachFalls : ℕ → {S A : Type 0} → (S → A → Demands) → Type 0
EachFalls base {S} {A} demands = (s : S) (a : A) → Falls base (demands s a)

all_falls : {base : ℕ} {S A : Type 0} (spell : Spelling A) (step : S → A → S) (demands : S → A → Demands) → EachFalls base demands → (s : S) (all : List A) → Falls base (all_demands spell step demands s all)
all_falls spell step demands each s [] = empty
all_falls spell step demands each s (a ∷ more) = both (each s a) (later (count spell a) (all_falls spell step demands each (step s a) more))

listed_falls : {base : ℕ} {S A : Type 0} (spell : Spelling A) (step : S → A → S) (demands : S → A → Demands) → EachFalls base demands → (s : S) (all : List A) → Falls base (listed_demands spell step demands s all)
listed_falls spell step demands each s [] = empty
listed_falls spell step demands each s (a ∷ more) =
    both (each s a) (later (count spell a) (all_falls (spell_next spell) step (λ s a. after 1 (demands s a)) (λ s a. later 1 (each s a)) (step s a) more))

-- ---- expressions and statements

mutual
  expr_falls : (k : Known) (level : ℕ) (e : Expr) → Falls level (expr_demands k level e)
  expr_falls k level (Read p) = node (place_falls k (suc level) p)
  expr_falls k level (Number n) = node empty
  expr_falls k level (WordNumber n) = node empty
  expr_falls k level Null = node empty
  expr_falls k level (Address p) = node (later 2 (place_falls k (suc level) p))
  expr_falls k level (Unary op a) = node (later 2 (expr_falls k (suc level) a))
  expr_falls k level (Binary op a b) = node (both (later 1 (expr_falls k (suc level) a)) (later (count spell_expr a + 2) (expr_falls k (suc level) b)))
  expr_falls k level (Cast to a) = node (both (later 2 (cast_falls k to)) (later (count spell_cast to + 3) (expr_falls k (suc level) a)))

  place_falls : (k : Known) (level : ℕ) (p : Place) → Falls level (place_demands k level p)
  place_falls k level (Variable n) = empty
  place_falls k level (Pointee a) = later 2 (expr_falls k level a)
  place_falls k level (Member p n) = place_falls k level p
  place_falls k level (Index p a) = both (place_falls k level p) (later (count spell_place p + 1) (expr_falls k level a))

into_falls : (k : Known) (level : ℕ) (into : Option Place) → Falls level (into_demands k level into)
into_falls k level None = empty
into_falls k level (Some p) = place_falls k level p

callee_falls : (k : Known) (level : ℕ) (c : CCallee) → Falls level (callee_demands k level c)
callee_falls k level (Direct n) = empty
callee_falls k level (Indirect a) = later 2 (expr_falls k level a)

value_falls : (k : Known) (level : ℕ) (a : Option Expr) → Falls level (value_demands k level a)
value_falls k level None = empty
value_falls k level (Some a) = expr_falls k level a

-- the arguments all have one level
arguments_falls : (k : Known) (level : ℕ) (spell : Spelling Expr) (m : ℕ) (all : List Expr) → Falls level (all_demands spell same (λ level a. after m (expr_demands k level a)) level all)
arguments_falls k level spell m [] = empty
arguments_falls k level spell m (a ∷ more) = both (later m (expr_falls k level a)) (later (count spell a) (arguments_falls k level spell m more))

call_falls : (k : Known) (level : ℕ) (all : List Expr) → Falls level (listed_demands spell_expr same (expr_demands k) level all)
call_falls k level [] = empty
call_falls k level (a ∷ more) = both (expr_falls k level a) (later (count spell_expr a) (arguments_falls k level (spell_next spell_expr) 1 more))

mutual
  statement_falls : (k : Known) (reached above : Names) (level : ℕ) (s : Statement) → Falls level (statement_demands k reached above level s)
  statement_falls k reached above level (Assign p a) = node (both (place_falls k (suc level) p) (later (count spell_place p + 1) (expr_falls k (suc level) a)))
  statement_falls k reached above level (Call into c all) =
      node (both (both (into_falls k (suc level) into) (later (count spell_into into) (callee_falls k (suc level) c))) (later (count spell_into into + count spell_callee c + 1) (call_falls k (suc level) all)))
  statement_falls k reached above level (Malloc p of) = node (both (place_falls k (suc level) p) (later (count spell_place p + 5) (type_falls k of)))
  statement_falls k reached above level (Free a) = node (later 2 (expr_falls k (suc level) a))
  statement_falls k reached above level (GetChar p) = node (place_falls k (suc level) p)
  statement_falls k reached above level (PutChar a) = node (later 2 (expr_falls k (suc level) a))
  statement_falls k reached above level (If test a) = node (both (later 2 (expr_falls k (suc level) test)) (later (count spell_expr test + 4) (body_falls k (own_labels a ++ reached) above (suc level) a)))
  statement_falls k reached above level (IfElse test a b) =
      node (both (both (later 2 (expr_falls k (suc level) test)) (later (count spell_expr test + 4) (body_falls k (own_labels a ++ reached) above (suc level) a)))
      (later (count spell_expr test + count spell_body a + 7) (body_falls k (own_labels b ++ reached) (above ++ labels_of a) (suc level) b)))
  statement_falls k reached above level (While test a) = node (both (later 2 (expr_falls k (suc level) test)) (later (count spell_expr test + 4) (body_falls k (own_labels a ++ reached) above (suc level) a)))
  statement_falls k reached above level (Goto l) = node (record { lower = λ l t h a b. h })
  statement_falls k reached above level (Label l) = node (record { lower = λ l t h a b. h })
  statement_falls k reached above level (Return a) = node (later 1 (value_falls k (suc level) a))

  body_falls : (k : Known) (reached above : Names) (level : ℕ) (b : Body) → Falls level (body_demands k reached above level b)
  body_falls k reached above level Empty = empty
  body_falls k reached above level (Then s more) = both (statement_falls k reached above level s) (later (count spell_statement s) (body_falls k reached (above ++ labels_in s) level more))

-- ---- declarations

-- a demand of a name is no level
name_falls : {base : ℕ} {all : Demands} (n : ℕ) (name : List ℕ) (others : Names) → Falls base all → Falls base ((n, Differs name others) ∷ all)
name_falls n name others f = record { lower = λ l t h a b. f.lower l t h a b }

cells_falls : {base : ℕ} {all : Demands} (n cells : ℕ) → Falls base all → Falls base ((n, Cells cells) ∷ all)
cells_falls n cells f = record { lower = λ l t h a b. f.lower l t h a b }

variable_falls : {base : ℕ} (k : Known) (above : Names) (v : CVariable) → Falls base (variable_demands k above v)
variable_falls k above v = both (type_falls k v.of) (name_falls (count spell_type v.of) v.name above empty)

length_falls : {base : ℕ} (cells : ℕ) (l : Option ℕ) → Falls base (length_demands cells l)
length_falls cells None = empty
length_falls cells (Some n) = record { lower = λ l t h a b. h }

member_falls : {base : ℕ} (k : Known) (structs : List CStruct) (above : Names) (m : CMember) → Falls base (member_demands k structs above m)
member_falls k structs above m =
    both (type_falls k m.of) (name_falls (count spell_type m.of) m.name above (later (count spell_type m.of + 1) (length_falls (member_cells (named_cells structs) m) m.length)))

forward_falls : {base : ℕ} (above : Names) (name : List ℕ) → Falls base (forward_demands above name)
forward_falls above name = name_falls 1 name above empty

declaration_falls : {base : ℕ} (seen : Seen) (d : CDeclaration) → Falls base (declaration_demands seen d)
declaration_falls seen (declared.Typedef t) =
    let k = known_in_typedef seen in let n = count spell_result t.result in
    both (later 1 (result_falls k t.result)) (name_falls (n + 3) t.name seen.typedefs (later (n + 6) (listed_falls spell_type same type_demands (λ s a. type_falls s a) k t.parameters)))
declaration_falls seen (declared.Struct s) =
    let k = known seen in let inner = known_in_struct s.name seen in
    name_falls 1 s.name k.whole (cells_falls 1 _ (later 3 (all_falls spell_member and_member (member_demands inner seen.structs) (λ s a. member_falls inner seen.structs s a) [] s.members)))

heading_falls : {base : ℕ} (k : Known) (above : Names) (returned : Option ObjectType) (n : List ℕ) (all : List CVariable) → Falls base (heading_demands k above returned n all)
heading_falls k above returned n all =
    let c = count spell_result returned in
    both (result_falls k returned) (name_falls c n above (later (c + 2) (listed_falls spell_variable and_variable (variable_demands k) (λ s a. variable_falls k s a) [] all)))

block_falls : (k : Known) (above : Names) (locals : List CVariable) (body : List Statement) → Falls 1 (block_demands k above locals body)
block_falls k above locals body =
    let b = body_of body in
    both (all_falls spell_variable_line and_variable (variable_demands k) (λ s a. variable_falls k s a) above locals) (later (count (spell_all spell_variable_line) locals) (body_falls k (own_labels b) [] 1 b))

function_falls : (k : Known) (above : Names) (f : CFunction) → Falls 1 (function_demands k above f)
function_falls k above f =
    both (heading_falls k above f.result f.name f.parameters)
    (later (count spell_result f.result + count (spell_or_void spell_variable) f.parameters + 4) (block_falls k (and_variables [] f.parameters) f.locals f.body))

pub program_falls : (c : CProgram) → Falls 1 (program_demands c)
program_falls c =
    let seen = seen_last c in let k = known seen in let m = c.main in let with_globals = and_variables seen.typedefs c.globals in
    both (all_falls spell_forward and_name forward_demands (λ s a. forward_falls s a) [] c.forwards) (later (count (spell_all spell_forward) c.forwards)
    (both (all_falls spell_declaration see declaration_demands (λ s a. declaration_falls s a) (seen_first c) c.declarations) (later (count (spell_all spell_declaration) c.declarations)
    (both (all_falls spell_variable_line and_variable (variable_demands k) (λ s a. variable_falls k s a) seen.typedefs c.globals) (later (count (spell_all spell_variable_line) c.globals)
    (both (all_falls spell_prototype same (prototype_demands k) (λ s p. heading_falls k s p.result p.name p.parameters) with_globals c.prototypes) (later (count (spell_all spell_prototype) c.prototypes)
    (both (all_falls spell_function and_function (function_demands k) (λ s a. function_falls k s a) with_globals c.functions) (later (count (spell_all spell_function) c.functions)
    (both (later 6 (block_falls k [] m.locals m.body)) (later 0 empty)))))))))))
