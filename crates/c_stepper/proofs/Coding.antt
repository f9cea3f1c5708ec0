-- The code of the statement that comes next.
use Rattle.std.proofs.Common.{◌≡◌, ℕ, zero, suc, ◌+◌, ◌<◌, ◌≤◌, ◌^◌, List, [], ◌∷◌, ◌++◌, Bool, true, false, Option, Some, None, length, Bor, refl, sym, ap, subst, ◌∙◌, arith}
use Rattle.std.proofs.lemmas.List.{length_push}
use Rattle.std.specs.Prelude.{slice_get, if◌then◌else◌, IfSome}
use Rattle.std.specs.Option.{option_copied}
use Rattle.c_tree.specs.Tree as t
use Rattle.c_tree.specs.Tree.{Statement, Body, list_of}
use Rattle.c_tree.specs.declared.program.CVariable.{CVariable}
use Rattle.c_tree.specs.declared.program.CFunction.{CFunction}
use Rattle.c_tree.specs.declared.program.CProgram.{CProgram}
use Rattle.c_meaning.specs.Cells.{Blocks}
use Rattle.label_ways.specs.declared.level.Level.{Level}
use Rattle.c_stepper.specs.declared.resolved.code.Code.{Code}
use Rattle.c_stepper.specs.declared.resolved.code.Row.{Row}
use Rattle.c_stepper.specs.declared.resolved.code.Node.{Node}
use Rattle.c_stepper.specs.declared.resolved.note.ProgramCode.{ProgramCode}
use Rattle.c_stepper.specs.Codes.{is_loop, IsResolved, Noted, IsNode, IsRow, IsCode, AreCodes}
use Rattle.c_stepper.proofs.Noting.{noted_list}
use Rattle.c_stepper.specs.declared.guide.Guide.{Guide}
use Rattle.c_stepper.specs.declared.runner.Frame.{Frame}
use Rattle.c_stepper.specs.declared.spot.Spot.{Spot}
use Rattle.c_stepper.specs.Spots.{branch_of, branch_at, list_in, after_of, todo_at}
use Rattle.c_stepper.proofs.Todo.{todo_done}
use Rattle.c_stepper.specs.Guides.{IsGuide}
use Rattle.c_stepper.specs.Runners.{parts_of, variables_at, statement_at}
use Rattle.c_stepper.specs.Quick.{code_at, NextAt, Turns, IsCodeOf, IsRowAt, IsNodeAt, IsHere, Leaves, SameTodo}

pub main_code : (all : ProgramCode) → IsCodeOf all None all.main
main_code all = λ c h. h.main

there : (c : CProgram) (codes : List Code) (functions : List CFunction) (n : ℕ) (code : Code) → AreCodes c codes functions → slice_get codes n ≡ Some code → let p = parts_of (slice_get functions n) in IsCode c (p.parameters ++ p.locals) code p.body
there c [] [] n code h is = cc
there c (x ∷ codes) (f ∷ functions) zero code h is = let same : x ≡ code = cc in subst (λ (k : Code). IsCode c (f.parameters ++ f.locals) k f.body) same h.0
there c (x ∷ codes) (f ∷ functions) (suc n) code h is = there c codes functions n code h.1 is
there c [] (f ∷ functions) n code h is = absurd h
there c (x ∷ codes) [] n code h is = absurd h

pub function_code : (all : ProgramCode) (n : ℕ) (code : Code) → slice_get all.functions.items n ≡ Some code → IsCodeOf all (Some n) code
function_code all n code is = λ c h. there c all.functions.items c.functions n code h.functions is

pub is_here : (guide : Guide) (f : Frame) (code : Code) (node : Node) → IsCodeOf guide.code f.function code → IsNodeAt code f.spot.outer.items f.spot.at node → IsHere guide f node
is_here guide f code node own at = λ c h. let n = at c _ _ (own c h.code) in (n.0, n.1, n.2.resolved)

-- the node of a statement that is known to come next
pub node_is : (guide : Guide) (f : Frame) (node : Node) → IsHere guide f node → (c : CProgram) (s : Statement) → IsGuide c guide → statement_at c f ≡ Some s → IsResolved c (variables_at c f) node.resolved s
node_is guide f node here c s h next =
    let n = here c h in
    let same : n.0 ≡ s = let both : Some n.0 ≡ Some s = sym n.1 ∙ next in cc in
    subst (IsResolved c (variables_at c f) node.resolved) same n.2

-- ---- the walk to a statement

-- where the walk stands: what is noted in the row is what is noted in the body
abbrev pub Walks : Code → List Level → Row → (rest : List Level) → Type 0
Walks code outer row rest = (c : CProgram) (vars : List CVariable) (body : List Statement) → IsCode c vars code body
    → (here : List Statement) × IsRow c vars code.nodes.items row here × (list_in here rest ≡ list_in body outer)

pub begins : (code : Code) (outer : List Level) → Walks code outer code.row outer
begins code outer = λ c vars body h. (body, h, refl)

no_branch : (c : CProgram) (vars : List CVariable) (nodes : List Node) (row : Row) → row.count ≡ 0 → IsRow c vars nodes row []
no_branch c vars nodes row h = (λ i s h. cc, sym h)

module _ (c : CProgram) (vars : List CVariable) (nodes : List Node) (n : Node) where
  row : (at : Row) (a : Body) → Noted c vars nodes at.start a → length (list_of a) ≡ at.count → IsRow c vars nodes at (list_of a)
  row at a h count = (noted_list c vars nodes at.start a h, count)

  none : (second : Bool) → (n.first.count ≡ 0) × (n.second.count ≡ 0) → IsRow c vars nodes (if second then n.second else n.first) []
  none true h = no_branch c vars nodes n.second h.1
  none false h = no_branch c vars nodes n.first h.0

  branch : (second : Bool) (s : Statement) → IsNode c vars nodes n s → IsRow c vars nodes (if second then n.second else n.first) (branch_of second s)
  branch false (t.If e a) h = row n.first a h.inner.0 h.inner.1
  branch false (t.While e a) h = row n.first a h.inner.0 h.inner.1
  branch false (t.IfElse e a b) h = row n.first a h.inner.0 h.inner.1
  branch true (t.IfElse e a b) h = row n.second b h.inner.2 h.inner.3
  branch true (t.If e a) h = no_branch c vars nodes n.second h.inner.2
  branch true (t.While e a) h = no_branch c vars nodes n.second h.inner.2
  branch second (t.Assign at e) h = none second h.inner
  branch second (t.Call into who arguments) h = none second h.inner
  branch second (t.Malloc at of) h = none second h.inner
  branch second (t.Free e) h = none second h.inner
  branch second (t.GetChar at) h = none second h.inner
  branch second (t.PutChar e) h = none second h.inner
  branch second (t.Goto l) h = none second h.inner
  branch second (t.Label l) h = none second h.inner
  branch second (t.Return e) h = none second h.inner

there_at : (list : List Statement) (i : ℕ) → i < length list → (s : Statement) × (slice_get list i ≡ Some s)
there_at [] i h = absurd (omega (arith, h))
there_at (s ∷ list) zero h = (s, refl)
there_at (s ∷ list) (suc i) h = there_at list i (omega (arith, h))

-- the node at a place of a row
node_of : (c : CProgram) (vars : List CVariable) (nodes : List Node) (row : Row) (list : List Statement) (i : ℕ) (n : Node) → IsRow c vars nodes row list → i < row.count → slice_get nodes (row.start + i) ≡ Some n
    → (s : Statement) × (slice_get list i ≡ Some s) × IsNode c vars nodes n s
node_of c vars nodes row list i n h low node =
    let s = there_at list i (omega (arith, h.1, low)) in
    let m = h.0 i s.0 s.1 in
    let same : m.0 ≡ n = let both : Some m.0 ≡ Some n = sym m.1 ∙ node in cc in
    (s.0, s.1, subst (λ (k : Node). IsNode c vars nodes k s.0) same m.2)

pub walks : (code : Code) (outer rest after : List Level) (row : Row) (l : Level) (n : Node) → Walks code outer row rest → rest ≡ l ∷ after → slice_get code.nodes.items (row.start + l.at) ≡ Some n → l.at < row.count
    → Walks code outer (if l.second then n.second else n.first) after
walks code outer rest after row l n w split node low = λ c vars body h.
    let here = w c vars body h in
    let s = node_of c vars code.nodes.items row here.0 l.at n here.1 low node in
    let list : branch_at l.second (slice_get here.0 l.at) ≡ branch_of l.second s.0 = ap (branch_at l.second) s.1 in
    (branch_of l.second s.0, branch c vars code.nodes.items n l.second s.0 s.2, ap (λ (b : List Statement). list_in b after) (sym list) ∙ ap (list_in here.0) (sym split) ∙ here.2)

pub arrives : (code : Code) (outer rest : List Level) (row : Row) → Walks code outer row rest → rest ≡ [] → IsRowAt code outer row
arrives code outer rest row w none = λ c vars body h.
    let here = w c vars body h in
    subst (IsRow c vars code.nodes.items row) (ap (list_in here.0) (sym none) ∙ here.2) here.1

-- ---- a row

pub at_row : (code : Code) (outer : List Level) (row : Row) (at : ℕ) (n : Node) → IsRowAt code outer row → slice_get code.nodes.items (row.start + at) ≡ Some n → at < row.count → IsNodeAt code outer at n
at_row code outer row at n r node low = λ c vars body h. node_of c vars code.nodes.items row (list_in body outer) at n (r c vars body h) low node

list_in_last : (list : List Statement) (outer : List Level) (l : Level) → list_in list (outer ++ l ∷ []) ≡ branch_at l.second (slice_get (list_in list outer) l.at)
list_in_last list [] l = refl
list_in_last list (k ∷ outer) l = list_in_last (branch_at k.second (slice_get list k.at)) outer l

-- the row of a branch
pub branch_row : (code : Code) (outer : List Level) (l : Level) (n : Node) → IsNodeAt code outer l.at n → IsRowAt code (outer ++ l ∷ []) (if l.second then n.second else n.first)
branch_row code outer l n at = λ c vars body h.
    let s = at c vars body h in
    let list : list_in body (outer ++ l ∷ []) ≡ branch_of l.second s.0 = list_in_last body outer l ∙ ap (branch_at l.second) s.1 in
    subst (IsRow c vars code.nodes.items (if l.second then n.second else n.first)) (sym list) (branch c vars code.nodes.items n l.second s.0 s.2)

-- ---- lists that are done

after_is : (s : Statement) (at : ℕ) → after_of at (Some s) ≡ (if is_loop s then at else at + 1)
after_is (t.While e a) at = refl
after_is (t.If e a) at = refl
after_is (t.IfElse e a b) at = refl
after_is (t.Assign x e) at = refl
after_is (t.Call into who arguments) at = refl
after_is (t.Malloc x of) at = refl
after_is (t.Free e) at = refl
after_is (t.GetChar x) at = refl
after_is (t.PutChar e) at = refl
after_is (t.Goto l) at = refl
after_is (t.Label l) at = refl
after_is (t.Return e) at = refl

snoc_same : (a b : List Level) (x y : Level) → a ++ x ∷ [] ≡ b ++ y ∷ [] → (a ≡ b) × (x ≡ y)
snoc_same [] [] x y h = (refl, cc)
snoc_same (c ∷ a) (d ∷ b) x y h =
    let head : c ≡ d = cc in
    let tail : a ++ x ∷ [] ≡ b ++ y ∷ [] = cc in
    let both = snoc_same a b x y tail in
    (λ i. head i ∷ both.0 i, both.1)
snoc_same [] (d ∷ b) x y h = absurd (omega (arith, ap length h, length_push b y))
snoc_same (c ∷ a) [] x y h = absurd (omega (arith, ap length h, length_push a x))

pub leaves : (code : Code) (outer above : List Level) (last : Level) (n : Node) (at : ℕ) → outer ≡ above ++ last ∷ [] → IsNodeAt code above last.at n → at ≡ (if n.again then last.at else last.at + 1) → Leaves code outer at
leaves code outer above last n at split node is = λ above' last' split' c vars body h.
    let same = snoc_same above' above last' last (sym split' ∙ split) in
    let s = node c vars body h in
    let there : after_of last.at (slice_get (list_in body above) last.at) ≡ at =
    ap (after_of last.at) s.1 ∙ after_is s.0 last.at ∙ ap (λ q. if q then last.at else last.at + 1) (sym s.2.again) ∙ sym is in
    (λ i. after_of (same.1 i).at (slice_get (list_in body (same.0 i)) (same.1 i).at)) ∙ there

-- one list is left
pub left_one : (code : Code) (spot spot' : Spot) (last : Level) (row : Row) → IsRowAt code spot.outer.items row → row.count ≤ spot.at → spot.outer.items ≡ spot'.outer.items ++ last ∷ [] → Leaves code spot.outer.items spot'.at → SameTodo code spot spot'
left_one code spot spot' last row r done split after = λ c vars body h.
    let outer = spot'.outer.items in
    let long : length (list_in body (outer ++ last ∷ [])) ≤ spot.at =
    let count = (r c vars body h).1 in
    let same : length (list_in body spot.outer.items) ≡ length (list_in body (outer ++ last ∷ [])) = ap (λ o. length (list_in body o)) split in
    omega (arith, count, same, done) in
    sym (ap (λ o. todo_at body o spot.at) split ∙ todo_done body outer last spot.at long ∙ ap (todo_at body outer) (after outer last split c vars body h))

-- none is left
pub none_left : (code : Code) (spot spot' : Spot) → spot.outer.items ≡ [] → spot'.outer.items ≡ [] → spot'.at ≡ spot.at → SameTodo code spot spot'
none_left code spot spot' old new same = λ c vars body h. (λ i. todo_at body (new i) (same i)) ∙ ap (λ o. todo_at body o spot.at) (sym old)

pub still_todo : (code : Code) (a b d : Spot) → SameTodo code a b → SameTodo code b d → SameTodo code a d
still_todo code a b d h k = λ c vars body own. k c vars body own ∙ h c vars body own

-- ---- the same where something is found

pub code_found : (all : ProgramCode) (function : Option ℕ) (n : ℕ) (o : Option (Bor Code)) → function ≡ Some n → option_copied o ≡ slice_get all.functions.items n → IfSome o (λ found. IsCodeOf all function found.now)
code_found all function n None is h = tt
code_found all function n (Some code) is h = subst (λ (f : Option ℕ). IsCodeOf all f code.now) (sym is) (function_code all n code.now (sym h))

no_levels : (rest : List Level) → length rest ≡ 0 → rest ≡ []
no_levels [] h = refl
no_levels (l ∷ rest) h = absurd (omega (arith, h))

pub row_found : (code : Code) (outer rest : List Level) (row : Row) → Walks code outer row rest → length rest ≡ 0 → IsRowAt code outer row
row_found code outer rest row w none = arrives code outer rest row w (no_levels rest none)

pub node_found : (code : Code) (outer : List Level) (row : Row) (at : ℕ) (o : Option (Bor Node)) → IsRowAt code outer row → IfSome o (λ node. slice_get code.nodes.items (row.start + at) ≡ Some node.now) → IfSome o (λ _. at < row.count) → IfSome o (λ node. IsNodeAt code outer at node.now)
node_found code outer row at None r h low = tt
node_found code outer row at (Some node) r h low = at_row code outer row at node.now r h low

-- ---- where the next node stands

pub code_is : (all : ProgramCode) (function : Option ℕ) (code : Code) → code_at all function ≡ Some code → IsCodeOf all function code
code_is all None code h = let same : all.main ≡ code = cc in subst (λ (x : Code). IsCodeOf all None x) same (main_code all)
code_is all (Some n) code h = function_code all n code h

next_at : (guide : Guide) (f : Frame) (code : Code) (row : Row) (k : ℕ) → code_at guide.code f.function ≡ Some code → IsRowAt code f.spot.outer.items row → k ≡ row.start + f.spot.at → f.spot.at < row.count → f.spot.at + 1 < 2 ^ 64 → NextAt guide f k
next_at guide f code row k is at place within small = record {
  node = λ other node same there.
      let e : code ≡ other = let o : Some code ≡ Some other = sym is ∙ same in cc in
      let found : slice_get code.nodes.items (row.start + f.spot.at) ≡ Some node = ap (λ j. slice_get code.nodes.items j) (sym place) ∙ ap (λ (x : Code). slice_get x.nodes.items k) e ∙ there in
      is_here guide f code node (code_is guide.code f.function code is) (at_row code f.spot.outer.items row f.spot.at node at found within);
  small = small;
}

-- the same after a statement that was not done
pub next_stays : (guide : Guide) (f f' : Frame) (code : Code) (row : Row) (o : Option ℕ) (blocks blocks' : Blocks) → code_at guide.code f.function ≡ Some code → IsRowAt code f.spot.outer.items row → (IsCodeOf guide.code f.function code → Turns guide f f' blocks blocks' None)
    → IfSome o (λ at. at ≡ row.start + f'.spot.at) → IfSome o (λ _. f'.spot.at < row.count) → IfSome o (λ _. f'.spot.at + 1 < 2 ^ 64) → IfSome o (NextAt guide f')
next_stays guide f f' code row None blocks blocks' is at turns place within small = tt
next_stays guide f f' code row (Some k) blocks blocks' is at turns place within small =
    let stays = (turns (code_is guide.code f.function code is)).0 in
    let function : code_at guide.code f'.function ≡ Some code = ap (λ (x : Frame). code_at guide.code x.function) stays.rest ∙ is in
    next_at guide f' code row k function (subst (λ (outer : List Level). IsRowAt code outer row) (sym stays.outer) at) place within small

pub node_next : (guide : Guide) (f : Frame) (code : Code) (k : ℕ) (o : Option (Bor Node)) → NextAt guide f k → code_at guide.code f.function ≡ Some code → option_copied o ≡ slice_get code.nodes.items k → IfSome o (λ node. IsHere guide f node.now)
node_next guide f code k None next is there = tt
node_next guide f code k (Some node) next is there = next.node code node.now is (sym there)
