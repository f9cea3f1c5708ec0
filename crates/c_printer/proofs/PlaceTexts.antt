-- A place's text is that of its base, and then those of its selectors.
use Rattle.std.proofs.Common.{◌≡◌, ℕ, List, [], ◌∷◌, ◌++◌, sym, ap, ◌∙◌, append_assoc}
use Rattle.std.proofs.lemmas.List.{append-nil}
use Rattle.c_tree.specs.Tree.{Place}
use Rattle.c_tree.specs.expressions.View.{select, selected}
use Rattle.c_tree.specs.declared.expr.CSelector.{CSelector}
use Rattle.c_tree.specs.declared.expr.CSelector.TheVariants.{Member, Index}
use Rattle.c_printer.specs.Text.{place_text}
use Rattle.c_printer.specs.Selectors.{selector_text, selectors_text}

select_text : (p : Place) (s : CSelector) → place_text (select p s) ≡ place_text p ++ selector_text s
select_text p (Member n) = simp append_assoc
select_text p (Index a) = simp append_assoc

pub selected_text : (p : Place) (all : List CSelector) → place_text (selected p all) ≡ place_text p ++ selectors_text all
selected_text p [] = sym (append-nil (place_text p))
selected_text p (s ∷ rest) = selected_text (select p s) rest ∙ ap (λ t. t ++ selectors_text rest) (select_text p s) ∙ append_assoc (place_text p) (selector_text s) (selectors_text rest)

-- a base and then the selectors are written
pub place_written : (p b : Place) (all given : List CSelector) (before between after : List ℕ) → selected b all ≡ p → given ≡ all
    → between ≡ before ++ place_text b → after ≡ between ++ selectors_text given → after ≡ before ++ place_text p
place_written p b all given before between after whole same base rest =
    rest ∙ ap (λ l. l ++ selectors_text given) base ∙ append_assoc before (place_text b) (selectors_text given) ∙ ap (λ l. before ++ l) (ap (λ g. place_text b ++ selectors_text g) same ∙ sym (selected_text b all) ∙ ap place_text whole)
