-- What is selected of a place is no callee and no label.
use Rattle.std.proofs.Common.{◌≡◌, ◌≢◌, List, [], ◌∷◌, None, refl}
use Rattle.c_tree.specs.Tree.{Place}
use Rattle.c_tree.specs.expressions.View.{select, selected}
use Rattle.c_tree.specs.declared.expr.CSelector.{CSelector}
use Rattle.c_tree.specs.declared.expr.CSelector.TheVariants.{Member, Index}
use Rattle.c_parser.specs.Statements.{callee_of, label_of}

select_no_callee : (p : Place) (s : CSelector) → callee_of (select p s) ≡ None
select_no_callee p (Member n) = refl
select_no_callee p (Index a) = refl

more_no_callee : (p : Place) (all : List CSelector) → callee_of p ≡ None → callee_of (selected p all) ≡ None
more_no_callee p [] e = e
more_no_callee p (s ∷ rest) e = more_no_callee (select p s) rest (select_no_callee p s)

pub no_callee : (p : Place) (all : List CSelector) → all ≢ [] → callee_of (selected p all) ≡ None
no_callee p [] some = absurd (some refl)
no_callee p (s ∷ rest) some = more_no_callee (select p s) rest (select_no_callee p s)

select_no_label : (p : Place) (s : CSelector) → label_of (select p s) ≡ None
select_no_label p (Member n) = refl
select_no_label p (Index a) = refl

more_no_label : (p : Place) (all : List CSelector) → label_of p ≡ None → label_of (selected p all) ≡ None
more_no_label p [] e = e
more_no_label p (s ∷ rest) e = more_no_label (select p s) rest (select_no_label p s)

pub no_label : (p : Place) (all : List CSelector) → all ≢ [] → label_of (selected p all) ≡ None
no_label p [] some = absurd (some refl)
no_label p (s ∷ rest) some = more_no_label (select p s) rest (select_no_label p s)
