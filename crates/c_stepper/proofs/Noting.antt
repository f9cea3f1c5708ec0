-- The nodes of a text.
use Rattle.std.proofs.Common.{◌≡◌, ℕ, zero, suc, ◌+◌, List, [], ◌∷◌, ◌++◌, length, Some, refl, sym, ap, subst, ◌∙◌, append_assoc, ◌*◌, ◌<◌, arith}
use Rattle.std.proofs.lemmas.List.{append-nil}
use Rattle.std.specs.Prelude.{slice_get}
use Rattle.c_tree.specs.Tree as t
use Rattle.c_tree.specs.Tree.{Statement, Body, list_of, body_of, list_of-body_of, statement_size, body_size}
use Rattle.c_tree.specs.declared.program.CVariable.{CVariable}
use Rattle.c_tree.specs.declared.program.CProgram.{CProgram}
use Rattle.c_tree.specs.declared.program.CFunction.{CFunction}
use Rattle.c_stepper.specs.Codes.{Inner, Noted, IsNode, NotedList, IsRow, Extends, IsCode, AreCodes}
use Rattle.c_stepper.specs.declared.resolved.code.Code.{Code}
use Rattle.c_stepper.specs.declared.resolved.code.Row.{Row}
use Rattle.c_stepper.specs.declared.resolved.code.Node.{Node}

pub get_more : (nodes more : List Node) (i : ℕ) (n : Node) → slice_get nodes i ≡ Some n → slice_get (nodes ++ more) i ≡ Some n
get_more [] more i n h = cc
get_more (m ∷ nodes) more zero n h = h
get_more (m ∷ nodes) more (suc i) n h = get_more nodes more i n h

get_behind : (nodes more : List Node) (i : ℕ) (n : Node) → slice_get more i ≡ Some n → slice_get (nodes ++ more) (length nodes + i) ≡ Some n
get_behind [] more i n h = let place : 0 + i ≡ i = omega arith in ap (slice_get more) place ∙ h
get_behind (m ∷ nodes) more i n h = let place : suc (length nodes) + i ≡ suc (length nodes + i) = omega arith in ap (slice_get (m ∷ (nodes ++ more))) place ∙ get_behind nodes more i n h

module _ (c : CProgram) (vars : List CVariable) where
  mutual
    inner_more : (nodes more : List Node) (first second : Row) (s : Statement) → Inner c vars nodes first second s → Inner c vars (nodes ++ more) first second s
    inner_more nodes more first second (t.If e a) h = (noted_more nodes more first.start a h.0, h.1, h.2)
    inner_more nodes more first second (t.IfElse e a b) h = (noted_more nodes more first.start a h.0, h.1, noted_more nodes more second.start b h.2, h.3)
    inner_more nodes more first second (t.While e a) h = (noted_more nodes more first.start a h.0, h.1, h.2)
    inner_more nodes more first second (t.Assign at e) h = h
    inner_more nodes more first second (t.Call into who arguments) h = h
    inner_more nodes more first second (t.Malloc at of) h = h
    inner_more nodes more first second (t.Free e) h = h
    inner_more nodes more first second (t.GetChar at) h = h
    inner_more nodes more first second (t.PutChar e) h = h
    inner_more nodes more first second (t.Goto l) h = h
    inner_more nodes more first second (t.Label l) h = h
    inner_more nodes more first second (t.Return e) h = h

    pub noted_more : (nodes more : List Node) (at : ℕ) (a : Body) → Noted c vars nodes at a → Noted c vars (nodes ++ more) at a
    noted_more nodes more at t.Empty h = tt
    noted_more nodes more at (t.Then s rest) h = ((h.0.0, get_more nodes more at h.0.0 h.0.1, h.0.2, inner_more nodes more h.0.0.first h.0.0.second s h.0.3, h.0.4), noted_more nodes more (at + 1) rest h.1)

  pub node_more : (old new : List Node) (n : Node) (s : Statement) → Extends old new → IsNode c vars old n s → IsNode c vars new n s
  node_more old new n s e h = subst (λ (all : List Node). IsNode c vars all n s) (sym e.1) (record { resolved = h.resolved; inner = inner_more old e.0 n.first n.second s h.inner; again = h.again })

  pub body_more : (old new : List Node) (at : ℕ) (a : Body) → Extends old new → Noted c vars old at a → Noted c vars new at a
  body_more old new at a e h = subst (λ (all : List Node). Noted c vars all at a) (sym e.1) (noted_more old e.0 at a h)

  -- ---- lists and bodies

  next : (nodes : List Node) (at : ℕ) (s : Statement) (list : List Statement) → NotedList c vars nodes at (s ∷ list) → NotedList c vars nodes (at + 1) list
  next nodes at s list h = λ i x there.
      let n = h (suc i) x there in
      let place : at + suc i ≡ at + 1 + i = omega arith in
      (n.0, ap (slice_get nodes) (sym place) ∙ n.1, n.2)

  pub noted_body : (nodes : List Node) (at : ℕ) (list : List Statement) → NotedList c vars nodes at list → Noted c vars nodes at (body_of list)
  noted_body nodes at [] h = tt
  noted_body nodes at (s ∷ list) h =
      let n = h zero s refl in
      let place : at + zero ≡ at = omega arith in
      ((n.0, ap (slice_get nodes) (sym place) ∙ n.1, n.2.resolved, n.2.inner, n.2.again), noted_body nodes (at + 1) list (next nodes at s list h))

  noted_first : (nodes : List Node) (at : ℕ) (first : Statement) (list : List Statement) → (n : Node) × (slice_get nodes at ≡ Some n) × IsNode c vars nodes n first → NotedList c vars nodes (at + 1) list → NotedList c vars nodes at (first ∷ list)
  noted_first nodes at first list n h zero s there =
      let same : first ≡ s = cc in
      let place : at + zero ≡ at = omega arith in
      (n.0, ap (slice_get nodes) place ∙ n.1, subst (IsNode c vars nodes n.0) same n.2)
  noted_first nodes at first list n h (suc i) s there =
      let m = h i s there in
      let place : at + suc i ≡ at + 1 + i = omega arith in
      (m.0, ap (slice_get nodes) place ∙ m.1, m.2)

  pub noted_list : (nodes : List Node) (at : ℕ) (a : Body) → Noted c vars nodes at a → NotedList c vars nodes at (list_of a)
  noted_list nodes at t.Empty h = λ i s there. cc
  noted_list nodes at (t.Then first rest) h = noted_first nodes at first (list_of rest) (h.0.0, h.0.1, record { resolved = h.0.2; inner = h.0.3; again = h.0.4 }) (noted_list nodes (at + 1) rest h.1)

  -- ---- a list that is being noted

  -- the nodes of these statements, whose branches have theirs
  abbrev pub Each : List Node → List Node → List Statement → Type 0
  Each nodes [] [] = Unit {0}
  Each nodes (n ∷ own) (s ∷ list) = IsNode c vars nodes n s × Each nodes own list
  Each nodes _ _ = ⊥

  pub each_more : (old new own : List Node) (list : List Statement) → Extends old new → Each old own list → Each new own list
  each_more old new [] [] e h = tt
  each_more old new (n ∷ own) (s ∷ list) e h = (node_more old new n s e h.0, each_more old new own list e h.1)
  each_more old new [] (s ∷ list) e h = absurd h
  each_more old new (n ∷ own) [] e h = absurd h

  pub each_push : (nodes own : List Node) (list : List Statement) (n : Node) (s : Statement) → Each nodes own list → IsNode c vars nodes n s → Each nodes (own ++ n ∷ []) (list ++ s ∷ [])
  each_push nodes [] [] n s h is = (is, tt)
  each_push nodes (m ∷ own) (x ∷ list) n s h is = (h.0, each_push nodes own list n s h.1 is)
  each_push nodes [] (x ∷ list) n s h is = absurd h
  each_push nodes (m ∷ own) [] n s h is = absurd h

  found : (nodes own : List Node) (list : List Statement) (i : ℕ) (s : Statement) → Each nodes own list → slice_get list i ≡ Some s → (n : Node) × (slice_get own i ≡ Some n) × IsNode c vars nodes n s
  found nodes [] [] i s h there = cc
  found nodes (n ∷ own) (x ∷ list) zero s h there = let same : x ≡ s = cc in (n, refl, subst (IsNode c vars nodes n) same h.0)
  found nodes (n ∷ own) (x ∷ list) (suc i) s h there = found nodes own list i s h.1 there
  found nodes [] (x ∷ list) i s h there = absurd h
  found nodes (n ∷ own) [] i s h there = absurd h

  pub each_noted : (nodes own : List Node) (list : List Statement) → Each nodes own list → NotedList c vars (nodes ++ own) (length nodes) list
  each_noted nodes own list h = λ i s there.
      let n = found nodes own list i s h there in
      (n.0, get_behind nodes own i n.0 n.1, node_more nodes (nodes ++ own) n.0 s (own, refl) n.2)

pub extends_twice : (a b c : List Node) → Extends a b → Extends b c → Extends a c
extends_twice a b c h l = (h.0 ++ l.0, l.1 ∙ ap (λ x. x ++ l.0) h.1 ∙ append_assoc a h.0 l.0)

pub codes_push : (c : CProgram) (codes : List Code) (functions : List CFunction) (code : Code) (f : CFunction) → AreCodes c codes functions → IsCode c (f.parameters ++ f.locals) code f.body → AreCodes c (codes ++ code ∷ []) (functions ++ f ∷ [])
codes_push c [] [] code f h is = (is, tt)
codes_push c (x ∷ codes) (y ∷ functions) code f h is = (h.0, codes_push c codes functions code f h.1 is)
codes_push c [] (y ∷ functions) code f h is = absurd h
codes_push c (x ∷ codes) [] code f h is = absurd h

-- the code of the function with a number
pub code_at : (c : CProgram) (codes : List Code) (functions : List CFunction) (i : ℕ) (code : Code) (f : CFunction) → AreCodes c codes functions → slice_get codes i ≡ Some code → slice_get functions i ≡ Some f → IsCode c (f.parameters ++ f.locals) code f.body
code_at c [] [] i code f h there here = cc
code_at c (x ∷ codes) (y ∷ functions) zero code f h there here =
    let code_is : x ≡ code = cc in
    let function_is : y ≡ f = cc in
    subst (λ (f : CFunction). IsCode c (f.parameters ++ f.locals) code f.body) function_is (subst (λ (code : Code). IsCode c (y.parameters ++ y.locals) code y.body) code_is h.0)
code_at c (x ∷ codes) (y ∷ functions) (suc i) code f h there here = code_at c codes functions i code f h.1 there here
code_at c [] (y ∷ functions) i code f h there here = absurd h
code_at c (x ∷ codes) [] i code f h there here = absurd h

-- the next function's code
pub next_code : (c : CProgram) (all rest after : List CFunction) (codes codes' : List Code) (f : CFunction) (code : Code) → (done : List CFunction) × (done ++ rest ≡ all) × AreCodes c codes done
    → rest ≡ f ∷ after → codes' ≡ codes ++ code ∷ [] → IsCode c (f.parameters ++ f.locals) code f.body → (done : List CFunction) × (done ++ after ≡ all) × AreCodes c codes' done
next_code c all rest after codes codes' f code h split push is =
    (h.0 ++ f ∷ [], append_assoc h.0 (f ∷ []) after ∙ ap (λ l. h.0 ++ l) (sym split) ∙ h.1, subst (λ (l : List Code). AreCodes c l (h.0 ++ f ∷ [])) (sym push) (codes_push c codes h.0 code f h.2 is))

module _ (c : CProgram) (vars : List CVariable) where
  -- the next statement's node
  pub next_node : (all rest after : List Statement) (nodes nodes' own own' : List Node) (s : Statement) (n : Node) → (done : List Statement) × (done ++ rest ≡ all) × Each c vars nodes own done
      → rest ≡ s ∷ after → Extends nodes nodes' → own' ≡ own ++ n ∷ [] → IsNode c vars nodes' n s → (done : List Statement) × (done ++ after ≡ all) × Each c vars nodes' own' done
  next_node all rest after nodes nodes' own own' s n h split more push is =
      (h.0 ++ s ∷ [], append_assoc h.0 (s ∷ []) after ∙ ap (λ l. h.0 ++ l) (sym split) ∙ h.1, subst (λ (l : List Node). Each c vars nodes' l (h.0 ++ s ∷ [])) (sym push) (each_push c vars nodes' own h.0 n s (each_more c vars nodes nodes' own h.0 more h.2) is))

  no_rest : (rest : List Statement) → length rest ≡ 0 → rest ≡ []
  no_rest [] h = refl
  no_rest (s ∷ rest) h = absurd (omega (arith, h))

  -- all of them
  pub all_noted : (all rest : List Statement) (nodes nodes' own : List Node) (at : ℕ) → (done : List Statement) × (done ++ rest ≡ all) × Each c vars nodes own done → length rest ≡ 0 → nodes' ≡ nodes ++ own → at ≡ length nodes → NotedList c vars nodes' at all
  all_noted all rest nodes nodes' own at h none new place =
      let whole : h.0 ≡ all = sym (append-nil h.0) ∙ ap (λ l. h.0 ++ l) (sym (no_rest rest none)) ∙ h.1 in
      let e : Each c vars nodes own all = subst (Each c vars nodes own) whole h.2 in
      subst (λ (k : ℕ). NotedList c vars nodes' k all) (sym place) (subst (λ (l : List Node). NotedList c vars l (length nodes) all) (sym new) (each_noted c vars nodes own all e))

-- the row of the statements between braces
pub row_of : (c : CProgram) (vars : List CVariable) (nodes : List Node) (row : Row) (list : List Statement) → IsRow c vars nodes row list → Noted c vars nodes row.start (body_of list) × (length (list_of (body_of list)) ≡ row.count)
row_of c vars nodes row list h = (noted_body c vars nodes row.start list h.0, ap length (list_of-body_of list) ∙ h.1)

within : (s : Statement) (after done : List Statement) → 3 * statement_size s + 2 < 3 * body_size (body_of (done ++ s ∷ after))
within s after [] = omega arith
within s after (x ∷ done) = omega (arith, within s after done)

-- no statement is larger than its list
pub smaller : (all rest after done : List Statement) (s : Statement) → done ++ rest ≡ all → rest ≡ s ∷ after → 3 * statement_size s + 2 < 3 * body_size (body_of all)
smaller all rest after done s h split = subst (λ (l : List Statement). 3 * statement_size s + 2 < 3 * body_size (body_of l)) (ap (λ l. done ++ l) (sym split) ∙ h) (within s after done)
