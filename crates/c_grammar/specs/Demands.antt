-- The further conditions: what is demanded at which token of a tree.
use Rattle.std.specs.Prelude.{◌≡◌, ℕ, suc, ◌+◌, ◌≤◌, Bool, false, IsTrue, List, [], ◌∷◌, ◌++◌, Option, Some, None, map}
use Rattle.std.specs.List.{list_any, fold, AllByRecursion}
use Rattle.std.specs.Str.{bytes_eq}
use Rattle.c_tree.specs.Tree.{ObjectType, Struct, Named, Pointer, Expr, Read, Number, WordNumber, Null, Address, Unary, Binary, Cast, Place, Variable, Pointee, Member, Index, Statement, Assign, Call, Malloc, Free, GetChar, PutChar, If, IfElse, While, Goto, Label, Return, Body, Empty, Then, body_of}
use Rattle.c_tree.specs.declared.operators.CCast.{CCast}
use Rattle.c_tree.specs.declared.operators.CCast.TheVariants as cast
use Rattle.c_tree.specs.declared.statement.CCallee.{CCallee}
use Rattle.c_tree.specs.declared.statement.CCallee.TheVariants.{Direct, Indirect}
use Rattle.c_tree.specs.declared.program.CVariable.{CVariable}
use Rattle.c_tree.specs.declared.program.CMember.{CMember}
use Rattle.c_tree.specs.declared.program.CStruct.{CStruct}
use Rattle.c_tree.specs.declared.program.CTypedef.{CTypedef}
use Rattle.c_tree.specs.declared.program.CDeclaration.{CDeclaration}
use Rattle.c_tree.specs.declared.program.CDeclaration.TheVariants as declared
use Rattle.c_tree.specs.declared.program.CPrototype.{CPrototype}
use Rattle.c_tree.specs.declared.program.CFunction.{CFunction}
use Rattle.c_tree.specs.declared.program.CMain.{CMain}
use Rattle.c_tree.specs.declared.program.CProgram.{CProgram}
use Rattle.c_grammar.specs.declared.fault.CTextKind.{CTextKind}
use Rattle.c_grammar.specs.declared.fault.CTextKind.TheVariants as kind
use Rattle.c_grammar.specs.Spelling.{Spelling, count, spell_next, spell_type, spell_result, spell_cast, spell_expr, spell_place, spell_into, spell_callee, spell_statement, spell_body, spell_variable, spell_variable_line, spell_member, spell_forward, spell_declaration, spell_or_void, spell_all, spell_prototype, spell_function}
use Rattle.c_grammar.specs.Types.{Seen, see, seen_first, seen_last, Known, known, known_in_typedef, known_in_struct, named_cells, member_cells, struct_cells}

abbrev pub Names : Type 0
Names = List (List ℕ)

pub data Demand : Type 0 where
  -- a statement or expression of this level begins here, the outermost statement having level 1
  Level : (level : ℕ) → Demand
  -- a goto leads to one of these labels
  Leads : (label : List ℕ) (labels : Names) → Demand
  -- a name differs from these above it
  Differs : (name : List ℕ) (others : Names) → Demand
  -- the name of a type is one of these
  Declared : (name : List ℕ) (above : Names) → Demand
  -- an array has this length
  Length : (length : ℕ) → Demand
  -- a type has so many cells
  Cells : (cells : ℕ) → Demand

abbrev pub among : List ℕ → Names → Bool
among name names = list_any (λ n. bytes_eq n name) names

abbrev pub Holds : Demand → Type 0
Holds (Level n) = n ≤ 2400
Holds (Leads label labels) = IsTrue (among label labels)
Holds (Differs name others) = among name others ≡ false
Holds (Declared name above) = IsTrue (among name above)
Holds (Length n) = (1 ≤ n) × (n ≤ 16777216)
Holds (Cells n) = n ≤ 16777216

-- what is wrong where it does not hold
abbrev pub kind_of : Demand → CTextKind
kind_of (Level n) = kind.TooDeep
kind_of (Leads label labels) = kind.BadGoto
kind_of (Differs name others) = kind.DoubleName
kind_of (Declared name above) = kind.BadType
kind_of (Length n) = kind.BadType
kind_of (Cells n) = kind.BadType

-- demands, each with the number of tokens before it
abbrev pub Demands : Type 0
Demands = List (ℕ × Demand)

abbrev pub HoldAll : Demands → Type 0
HoldAll all = AllByRecursion (λ (d : ℕ × Demand). Holds d.1) all

-- the demands of what begins n tokens later
abbrev pub after : ℕ → Demands → Demands
after n all = map (λ (d : ℕ × Demand). (n + d.0, d.1)) all

module _ {S A : Type 0} (spell : Spelling A) (step : S → A → S) (demands : S → A → Demands) where
  -- items in a row, where each changes what the next one meets
  abbrev pub all_demands : S → List A → Demands
  all_demands s [] = []
  all_demands s (a ∷ more) = demands s a ++ after (count spell a) (all_demands (step s a) more)

-- items with commas between them
abbrev pub listed_demands : {S A : Type 0} → Spelling A → (S → A → S) → (S → A → Demands) → S → List A → Demands
listed_demands spell step demands s [] = []
listed_demands spell step demands s (a ∷ more) =
    demands s a ++ after (count spell a) (all_demands (spell_next spell) step (λ s a. after 1 (demands s a)) (step s a) more)

-- nothing changes
abbrev pub same : {S A : Type 0} → S → A → S
same s a = s

-- ---- types

-- the type behind a pointer
abbrev pub pointed_demands : Known → ObjectType → Demands
pointed_demands k (Struct n) = (1, Declared n k.pointed) ∷ []
pointed_demands k (Named n) = (0, Declared n k.typedefs) ∷ []
pointed_demands k (Pointer of) = pointed_demands k of
pointed_demands k _ = []

abbrev pub type_demands : Known → ObjectType → Demands
type_demands k (Struct n) = (1, Declared n k.whole) ∷ []
type_demands k (Named n) = (0, Declared n k.typedefs) ∷ []
type_demands k (Pointer of) = pointed_demands k of
type_demands k _ = []

abbrev pub result_demands : Known → Option ObjectType → Demands
result_demands k None = []
result_demands k (Some of) = type_demands k of

abbrev pub cast_demands : Known → CCast → Demands
cast_demands k (cast.StructPointer n) = (1, Declared n k.pointed) ∷ []
cast_demands k _ = []

-- ---- expressions, of the level given

abbrev mutual
  pub expr_demands : Known → ℕ → Expr → Demands
  expr_demands k level (Read p) = (0, Level level) ∷ place_demands k (suc level) p
  expr_demands k level (Number n) = (0, Level level) ∷ []
  expr_demands k level (WordNumber n) = (0, Level level) ∷ []
  expr_demands k level Null = (0, Level level) ∷ []
  expr_demands k level (Address p) = (0, Level level) ∷ after 2 (place_demands k (suc level) p)
  expr_demands k level (Unary op a) = (0, Level level) ∷ after 2 (expr_demands k (suc level) a)
  expr_demands k level (Binary op a b) = (0, Level level) ∷ after 1 (expr_demands k (suc level) a) ++ after (count spell_expr a + 2) (expr_demands k (suc level) b)
  expr_demands k level (Cast to a) = (0, Level level) ∷ after 2 (cast_demands k to) ++ after (count spell_cast to + 3) (expr_demands k (suc level) a)

  -- the expressions of a place have the level given
  pub place_demands : Known → ℕ → Place → Demands
  place_demands k level (Variable n) = []
  place_demands k level (Pointee a) = after 2 (expr_demands k level a)
  place_demands k level (Member p n) = place_demands k level p
  place_demands k level (Index p a) = place_demands k level p ++ after (count spell_place p + 1) (expr_demands k level a)

abbrev pub into_demands : Known → ℕ → Option Place → Demands
into_demands k level None = []
into_demands k level (Some p) = place_demands k level p

abbrev pub callee_demands : Known → ℕ → CCallee → Demands
callee_demands k level (Direct n) = []
callee_demands k level (Indirect a) = after 2 (expr_demands k level a)

abbrev pub value_demands : Known → ℕ → Option Expr → Demands
value_demands k level None = []
value_demands k level (Some a) = expr_demands k level a

-- ---- statements

-- the labels that stand in this list itself, to which its gotos may lead
abbrev pub own_labels : Body → Names
own_labels Empty = []
own_labels (Then (Label l) more) = l ∷ own_labels more
own_labels (Then _ more) = own_labels more

-- the labels anywhere inside
abbrev mutual
  pub labels_in : Statement → Names
  labels_in (If test a) = labels_of a
  labels_in (IfElse test a b) = labels_of a ++ labels_of b
  labels_in (While test a) = labels_of a
  labels_in (Label l) = l ∷ []
  labels_in _ = []

  pub labels_of : Body → Names
  labels_of Empty = []
  labels_of (Then s more) = labels_in s ++ labels_of more

-- With the types known, the labels to which a goto may lead, the labels above in the same function, and the level of the statement.
abbrev mutual
  pub statement_demands : Known → (reached above : Names) → ℕ → Statement → Demands
  statement_demands k reached above level (Assign p a) = (0, Level level) ∷ place_demands k (suc level) p ++ after (count spell_place p + 1) (expr_demands k (suc level) a)
  statement_demands k reached above level (Call into callee all) =
      let before = count spell_into into in
      (0, Level level) ∷ into_demands k (suc level) into ++ after before (callee_demands k (suc level) callee)
      ++ after (before + count spell_callee callee + 1) (listed_demands spell_expr same (expr_demands k) (suc level) all)
  statement_demands k reached above level (Malloc p of) = (0, Level level) ∷ place_demands k (suc level) p ++ after (count spell_place p + 5) (type_demands k of)
  statement_demands k reached above level (Free a) = (0, Level level) ∷ after 2 (expr_demands k (suc level) a)
  statement_demands k reached above level (GetChar p) = (0, Level level) ∷ place_demands k (suc level) p
  statement_demands k reached above level (PutChar a) = (0, Level level) ∷ after 2 (expr_demands k (suc level) a)
  statement_demands k reached above level (If test a) =
      (0, Level level) ∷ after 2 (expr_demands k (suc level) test) ++ after (count spell_expr test + 4) (body_demands k (own_labels a ++ reached) above (suc level) a)
  statement_demands k reached above level (IfElse test a b) =
      (0, Level level) ∷ after 2 (expr_demands k (suc level) test) ++ after (count spell_expr test + 4) (body_demands k (own_labels a ++ reached) above (suc level) a)
      ++ after (count spell_expr test + count spell_body a + 7) (body_demands k (own_labels b ++ reached) (above ++ labels_of a) (suc level) b)
  statement_demands k reached above level (While test a) =
      (0, Level level) ∷ after 2 (expr_demands k (suc level) test) ++ after (count spell_expr test + 4) (body_demands k (own_labels a ++ reached) above (suc level) a)
  statement_demands k reached above level (Goto l) = (0, Level level) ∷ (1, Leads l reached) ∷ []
  statement_demands k reached above level (Label l) = (0, Level level) ∷ (0, Differs l above) ∷ []
  statement_demands k reached above level (Return a) = (0, Level level) ∷ after 1 (value_demands k (suc level) a)

  pub body_demands : Known → (reached above : Names) → ℕ → Body → Demands
  body_demands k reached above level Empty = []
  body_demands k reached above level (Then s more) = statement_demands k reached above level s ++ after (count spell_statement s) (body_demands k reached (above ++ labels_in s) level more)

-- ---- variables and members, with the names above that they have to differ from

abbrev pub variable_demands : Known → Names → CVariable → Demands
variable_demands k above v = type_demands k v.of ++ (count spell_type v.of, Differs v.name above) ∷ []

abbrev pub and_variable : Names → CVariable → Names
and_variable above v = v.name ∷ above

abbrev pub and_variables : Names → List CVariable → Names
and_variables above all = fold and_variable above all

-- an array has a length and as many times the cells of its type
abbrev pub length_demands : ℕ → Option ℕ → Demands
length_demands cells None = []
length_demands cells (Some n) = (1, Length n) ∷ (1, Cells cells) ∷ []

abbrev pub member_demands : Known → List CStruct → Names → CMember → Demands
member_demands k structs above m = type_demands k m.of ++ (count spell_type m.of, Differs m.name above)
    ∷ after (count spell_type m.of + 1) (length_demands (member_cells (named_cells structs) m) m.length)

abbrev pub and_member : Names → CMember → Names
and_member above m = m.name ∷ above

-- ---- declarations

abbrev pub forward_demands : Names → List ℕ → Demands
forward_demands above name = (1, Differs name above) ∷ []

abbrev pub and_name : Names → List ℕ → Names
and_name above name = name ∷ above

abbrev pub struct_demands : Seen → CStruct → Demands
struct_demands seen s = (1, Differs s.name (known seen).whole) ∷ (1, Cells (struct_cells seen.structs s))
    ∷ after 3 (all_demands spell_member and_member (member_demands (known_in_struct s.name seen) seen.structs) [] s.members)

abbrev pub typedef_demands : Seen → CTypedef → Demands
typedef_demands seen t =
    let k = known_in_typedef seen in let n = count spell_result t.result in
    after 1 (result_demands k t.result) ++ (n + 3, Differs t.name seen.typedefs)
    ∷ after (n + 6) (listed_demands spell_type same type_demands k t.parameters)

abbrev pub declaration_demands : Seen → CDeclaration → Demands
declaration_demands seen (declared.Typedef t) = typedef_demands seen t
declaration_demands seen (declared.Struct s) = struct_demands seen s

-- the name of a function, after its result
abbrev pub heading_demands : Known → Names → Option ObjectType → List ℕ → List CVariable → Demands
heading_demands k above returned name parameters =
    let n = count spell_result returned in
    result_demands k returned ++ (n, Differs name above) ∷ after (n + 2) (listed_demands spell_variable and_variable (variable_demands k) [] parameters)

abbrev pub prototype_demands : Known → Names → CPrototype → Demands
prototype_demands k above p = heading_demands k above p.result p.name p.parameters

-- after the opening brace: the locals differ from each other and from the parameters
abbrev pub block_demands : Known → Names → List CVariable → List Statement → Demands
block_demands k above locals body =
    let b = body_of body in
    all_demands spell_variable_line and_variable (variable_demands k) above locals ++ after (count (spell_all spell_variable_line) locals) (body_demands k (own_labels b) [] 1 b)

-- above its block are its result, its name, its parameters, both parentheses and a brace
abbrev pub function_demands : Known → Names → CFunction → Demands
function_demands k above f = heading_demands k above f.result f.name f.parameters
    ++ after (count spell_result f.result + count (spell_or_void spell_variable) f.parameters + 4) (block_demands k (and_variables [] f.parameters) f.locals f.body)

abbrev pub and_function : Names → CFunction → Names
and_function above f = f.name ∷ above

abbrev pub main_demands : Known → CMain → Demands
main_demands k m = after 6 (block_demands k [] m.locals m.body)

-- ---- programs

-- parts in a row, each with the number of its tokens
abbrev pub in_row : List (ℕ × Demands) → Demands
in_row [] = []
in_row (part ∷ more) = part.1 ++ after part.0 (in_row more)

-- globals differ from typedef names, functions from both, and all from those above
abbrev pub program_demands : CProgram → Demands
program_demands c =
    let seen = seen_last c in
    let k = known seen in
    let with_globals = and_variables seen.typedefs c.globals in
    in_row (
    (count (spell_all spell_forward) c.forwards, all_demands spell_forward and_name forward_demands [] c.forwards)
    ∷ (count (spell_all spell_declaration) c.declarations, all_demands spell_declaration see declaration_demands (seen_first c) c.declarations)
    ∷ (count (spell_all spell_variable_line) c.globals, all_demands spell_variable_line and_variable (variable_demands k) seen.typedefs c.globals)
    ∷ (count (spell_all spell_prototype) c.prototypes, all_demands spell_prototype same (prototype_demands k) with_globals c.prototypes)
    ∷ (count (spell_all spell_function) c.functions, all_demands spell_function and_function (function_demands k) with_globals c.functions)
    ∷ (0, main_demands k c.main)
    ∷ [])
