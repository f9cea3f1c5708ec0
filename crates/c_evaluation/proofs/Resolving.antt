-- Variables and numbers whose names are resolved.
use Rattle.std.proofs.Common.{◌≡◌, ℕ, ◌+◌, List, [], ◌++◌, length, Option, Some, None, refl, sym, ap, subst, ◌∙◌, arith}
use Rattle.std.specs.Prelude.{ℤ, IfSome, not}
use Rattle.std.specs.Global.{Box}
use Rattle.c_tree.specs.Tree as t
use Rattle.c_tree.specs.Tree.{Expr, Place}
use Rattle.c_tree.specs.declared.operators.CBinary.{CBinary}
use Rattle.c_tree.specs.declared.program.CDeclaration.{CDeclaration}
use Rattle.c_tree.specs.declared.program.CVariable.{CVariable}
use Rattle.c_tree.specs.declared.program.CProgram.{CProgram}
use Rattle.c_meaning.specs.Cells.{Name, Int, Leaf, Block, Blocks, block_at, joined_option}
use Rattle.c_meaning.specs.Answer.{Got, ◌>>=◌, when}
use Rattle.c_meaning.specs.Types.{Plain, alike, type_eq}
use Rattle.c_meaning.specs.Values.{int, joined, leaf, int_cell, as_int, converted, is_zero}
use Rattle.c_meaning.specs.Evaluate.{View, Named, value, place, variable, name_value}
use Rattle.c_meaning.specs.States.{Names, global_from, number_of, numbered, store, store_named, view}
use Rattle.c_meaning.specs.Steps.{names_from, taken, put_root, put_value, assign}
use Rattle.c_cells.specs.Slots.{int_block, HoldsInt}
use Rattle.c_evaluation.specs.Numbers.{place_number, NamesVariable, Resolves, Holds, Evaluates, EvaluatesPair, EvaluatesTwo, Puts, Chooses, NamesNone}
use Rattle.c_evaluation.specs.Stores.{chosen, truth_in}
use Rattle.c_evaluation.specs.Evaluations.{name_in}
use Rattle.c_evaluation.specs.declared.numbers.Variable.{Variable}
use Rattle.c_evaluation.specs.declared.numbers.Variable.TheVariants as v
use Rattle.c_evaluation.specs.declared.numbers.Operand.{Operand}
use Rattle.c_evaluation.specs.declared.numbers.Operand.TheVariants as o
use Rattle.c_evaluation.specs.declared.numbers.Number.{Number}
use Rattle.c_evaluation.specs.declared.numbers.Number.TheVariants as n
use Rattle.c_evaluation.proofs.Names.{parameter, local, global}
use Rattle.c_evaluation.proofs.Evaluations.{read_name}
use Rattle.c_evaluation.proofs.Found.{read_int, two_given}

module _ (c : CProgram) (x : Name) (ps ls : List CVariable) where
  pub own_parameter : (i : ℕ) → global_from 0 x ps ≡ Some i → NamesVariable c (ps ++ ls) (v.Own i) x
  own_parameter i h = λ base. parameter c x base ps ls i h

  pub own_local : (i : ℕ) → global_from 0 x ps ≡ None → global_from 0 x ls ≡ Some i → NamesVariable c (ps ++ ls) (v.Own (length ps + i)) x
  own_local i h l = λ base. local c x base ps ls i h l ∙ ap Some (omega arith)

  pub own_global : (i : ℕ) → global_from 0 x ps ≡ None → global_from 0 x ls ≡ None → global_from 0 x c.globals ≡ Some i → NamesVariable c (ps ++ ls) (v.Global i) x
  own_global i h l g = λ base. global c x base ps ls h l ∙ g

pub no_variable : (c : CProgram) (x : Name) (ps ls : List CVariable) → global_from 0 x ps ≡ None → global_from 0 x ls ≡ None → global_from 0 x c.globals ≡ None → NamesNone c (ps ++ ls) x
no_variable c x ps ls h l g = λ base. global c x base ps ls h l ∙ g

pub variable_held : (blocks : Blocks) (base : ℕ) (variable : Variable) (z : ℤ) → block_at blocks (place_number base variable) ≡ Some (int_block (Int z)) → Holds blocks base (o.Variable variable) z
unfolding view numbered name_value
variable_held blocks base variable z held = λ c reach vars e r.
    let at = r.0 in
    let x = r.2.0 in
    let w : View = view c reach (names_from base vars) blocks in
    let named : w.named x ≡ Some (int_block (Int z)) = ap (numbered blocks) (r.2.2 base) ∙ held in
    ap (value w) (r.1 ∙ ap t.Read r.2.1) ∙ read_name w (t.Variable x) x refl ∙ ap (name_value w x) named ∙ read_int w t.Int (int_block (Int z)).tree (Some z) refl refl

pub number_written : (blocks : Blocks) (base : ℕ) (z : ℤ) → Holds blocks base (o.Written z) z
unfolding value
number_written blocks base z = λ c reach vars e r. ap (value (view c reach (names_from base vars) blocks)) r.1 ∙ ap (λ z. Got (int z)) r.2

pub held_variable : (blocks : Blocks) (base : ℕ) (operand : Operand) (variable : Variable) (found : Option ℤ) → operand ≡ o.Variable variable
    → IfSome found (λ z. block_at blocks (place_number base variable) ≡ Some (int_block (Int z))) → IfSome found (λ z. Holds blocks base operand z)
held_variable blocks base operand variable None is h = tt
held_variable blocks base operand variable (Some z) is h = subst (λ m. Holds blocks base m z) (sym is) (variable_held blocks base variable z h)

pub held_written : (blocks : Blocks) (base : ℕ) (operand : Operand) (z z' : ℤ) → operand ≡ o.Written z → z ≡ z' → Holds blocks base operand z'
held_written blocks base operand z z' is same = subst (λ m. Holds blocks base m z') (sym is) (subst (λ y. Holds blocks base (o.Written z) y) same (number_written blocks base z))

pub joined_pair : (blocks : Blocks) (base : ℕ) (op : CBinary) (a b : Operand) (x y : ℤ) (found : Option ℤ)
    → Holds blocks base a x → Holds blocks base b y → ((ds : List CDeclaration) → IfSome found (λ z. joined ds op (int x) (Got (int y)) ≡ Got (int z))) → IfSome found (λ z. EvaluatesPair blocks base op a b z)
joined_pair blocks base op a b x y None l r h = tt
joined_pair blocks base op a b x y (Some z) l r h = (x, y, l, r, h)

pub evaluated_operand : (blocks : Blocks) (base : ℕ) (number : Number) (operand : Operand) (found : Option ℤ) → number ≡ n.Operand operand → IfSome found (λ z. Holds blocks base operand z) → IfSome found (λ z. Evaluates blocks base number z)
evaluated_operand blocks base number operand None is h = tt
evaluated_operand blocks base number operand (Some z) is h = subst (λ m. Evaluates blocks base m z) (sym is) h

pub evaluated_pair : (blocks : Blocks) (base : ℕ) (number : Number) (op : CBinary) (a b : Operand) (found : Option ℤ) → number ≡ n.Pair op a b → IfSome found (λ z. EvaluatesPair blocks base op a b z) → IfSome found (λ z. Evaluates blocks base number z)
evaluated_pair blocks base number op a b None is h = tt
evaluated_pair blocks base number op a b (Some z) is h = subst (λ m. Evaluates blocks base m z) (sym is) (λ c reach vars e d.
    let w : View = view c reach (names_from base vars) blocks in
    ap (value w) d.2 ∙ two_given w op d.0 d.1 h.0 h.1 (Some z) (h.2 c reach vars d.0 d.3) (h.3 c reach vars d.1 d.4) (h.4 w.declared))

-- operands of an operator
pub resolved_pair : (op : CBinary) (x y : Number) (a b : Operand) → x ≡ n.Operand a → y ≡ n.Operand b
    → (c : CProgram) (vars : List CVariable) (e d : Expr) → Resolves c vars x e → Resolves c vars y d → Resolves c vars (n.Pair op a b) (t.Binary op e d)
resolved_pair op x y a b is_x is_y c vars e d h k = (e, d, refl, subst (λ m. Resolves c vars m e) is_x h, subst (λ m. Resolves c vars m d) is_y k)

pub evaluated_two : (blocks : Blocks) (base : ℕ) (number : Number) (op : CBinary) (a b : Box Number) (o : Option ℤ) → number ≡ n.Two op a b → IfSome o (λ z. EvaluatesTwo blocks base op a.value b.value z) → IfSome o (λ z. Evaluates blocks base number z)
evaluated_two blocks base number op a b None is h = tt
evaluated_two blocks base number op a b (Some z) is h = subst (λ m. Evaluates blocks base m z) (sym is) (λ c reach vars e d.
    let w : View = view c reach (names_from base vars) blocks in
    ap (value w) d.2 ∙ two_given w op d.0 d.1 h.0 h.1 (Some z) (h.2 c reach vars d.0 d.3) (h.3 c reach vars d.1 d.4) (h.4 w.declared))

pub joined_two : (blocks : Blocks) (base : ℕ) (op : CBinary) (a b : Number) (x y : ℤ) (o : Option ℤ)
    → Evaluates blocks base a x → Evaluates blocks base b y → ((ds : List CDeclaration) → IfSome o (λ z. joined ds op (int x) (Got (int y)) ≡ Got (int z))) → IfSome o (λ z. EvaluatesTwo blocks base op a b z)
joined_two blocks base op a b x y None l r h = tt
joined_two blocks base op a b x y (Some z) l r h = (x, y, l, r, h)

-- ---- statements

test_of : (v : View) (a : t.Expr) (z : ℤ) → value v a ≡ Got (int z) → chosen v a ≡ Got (not (is_zero z))
unfolding ◌>>=◌ as_int leaf int_cell int
test_of v a z h = ap (λ r. r >>= truth_in) h

stored : (c : CProgram) (reach : ℕ) (names : Names) (blocks : Blocks) (at : t.Place) (a : t.Expr) (x : Name) (n : ℕ) (b : Block) (z : ℤ)
    → name_in at ≡ Some x → number_of c names x ≡ Some n → block_at blocks n ≡ Some b → b.of ≡ t.Int → value (view c reach names blocks) a ≡ Got (int z)
    → store blocks n [] (Leaf (Int z)) ≡ assign (view c reach names blocks) at a
unfolding assign place variable view numbered put_value taken converted alike type_eq when put_root store_named int ◌>>=◌
stored c reach names blocks (t.Variable y) a x n b z is there here int_ h =
    let same : y ≡ x = cc in
    let v = view c reach names blocks in
    let number : number_of c names y ≡ Some n = ap (number_of c names) same ∙ there in
    let named : v.named y ≡ Some b = ap (numbered blocks) number ∙ here in
    sym (ap (λ o. variable v y o >>= (λ site. value v a >>= put_value v site)) named ∙ ap (λ r. r >>= put_value v (record { root = Named y; path = []; of = Plain b.of })) h
    ∙ ap (λ of. taken c.declarations (Plain of) (int z) >>= put_root v (Named y) []) int_ ∙ ap (λ o. store_named blocks o [] (Leaf (Int z))) number)
stored c reach names blocks (t.Pointee e) a x n b z is there here int_ h = cc
stored c reach names blocks (t.Member e m) a x n b z is there here int_ h = cc
stored c reach names blocks (t.Index e i) a x n b z is there here int_ h = cc

pub put : (old new : Blocks) (base : ℕ) (variable : Variable) (number : Number) (n : ℕ) (z : ℤ) → n ≡ place_number base variable → Evaluates old base number z → HoldsInt old n → store old n [] (Leaf (Int z)) ≡ Got new → Puts old new base variable number
unfolding block_at joined_option
put old new base variable number n z place found held done = λ c reach vars at e is r.
    let there : number_of c (names_from base vars) is.0 ≡ Some n = is.2 base ∙ ap Some (sym place) in
    sym (stored c reach (names_from base vars) old at e is.0 n (int_block held.0) z (ap name_in is.1) there (ap joined_option held.1) refl (found c reach vars e r)) ∙ done

pub chooses : (blocks : Blocks) (base : ℕ) (number : Number) (z : ℤ) → Evaluates blocks base number z → Chooses blocks base number (not (is_zero z))
chooses blocks base number z found = λ c reach vars e r. test_of (view c reach (names_from base vars) blocks) e z (found c reach vars e r)
