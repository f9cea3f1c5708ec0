-- Steps of evaluation.
use Rattle.std.specs.Prelude.{ℕ, ℤ, pos, Bool, true, false, List, [], ◌∷◌, Option, Some, None}
use Rattle.c_meaning.specs.Cells.{Name, Leaf, Int}
use Rattle.c_tree.specs.Tree as t
use Rattle.c_tree.specs.declared.operators.CBinary.{CBinary}
use Rattle.c_tree.specs.declared.operators.CBinary.TheVariants as b
use Rattle.c_tree.specs.declared.expr.CSelector.{CSelector}
use Rattle.c_tree.specs.declared.expr.CSelector.TheVariants as selector
use Rattle.c_meaning.specs.Types.{Of}
use Rattle.c_meaning.specs.Answer.{Answer, Got, ◌>>=◌}
use Rattle.c_meaning.specs.Values.{Value, Typed, int, as_int, is_zero}
use Rattle.c_meaning.specs.Evaluate.{View, Site, member, element, onward, value}

abbrev pub number_value : ℕ → Answer Value
number_value n = Got (int (pos n))

abbrev pub onto_member : View → Name → Site → Answer Site
onto_member v n site = member v.declared n site.of >>= (λ step. Got (onward site step))

abbrev pub onto_element : Site → Value → Answer Site
onto_element site x = as_int x >>= (λ i. element i site.of >>= (λ step. Got (onward site step)))

abbrev pub onto_index : View → t.Expr → Site → Answer Site
onto_index v a site = value v a >>= onto_element site

abbrev pub onto_selector : View → CSelector → Site → Answer Site
onto_selector v (selector.Member n) = onto_member v n
onto_selector v (selector.Index a) = onto_index v a

-- onto what selectors, one after another, select
abbrev pub onto_selectors : View → List CSelector → Site → Answer Site
onto_selectors v [] site = Got site
onto_selectors v (s ∷ rest) site = onto_selector v s site >>= onto_selectors v rest

-- a number, where it matters so whether the first operand is 0
abbrev pub deciding : (zero matters : Bool) → ℤ → Option Value
deciding true true z = Some (Typed (Of t.Int) (Leaf (Int z)))
deciding false false z = Some (Typed (Of t.Int) (Leaf (Int z)))
deciding _ _ z = None

-- what `&&` and `||` give where the first operand decides
abbrev pub decision : CBinary → Value → Answer (Option Value)
decision b.And x = as_int x >>= (λ z. Got (deciding (is_zero z) true (pos 0)))
decision b.Or x = as_int x >>= (λ z. Got (deciding (is_zero z) false (pos 1)))
decision _ x = Got None

-- the name, where the place is one
abbrev pub name_in : t.Place → Option Name
name_in (t.Variable name) = Some name
name_in _ = None
