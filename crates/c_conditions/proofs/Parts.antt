-- The steps over a type are those over its base and its stars, those over a place those over its base and its selectors.
use Rattle.std.proofs.Common.{◌≡◌, ℕ, zero, suc, ◌+◌, List, [], ◌∷◌, Result, Ok, Err, refl, sym, ap, ◌∙◌, arith}
use Rattle.c_tree.specs.Tree.{ObjectType, Place}
use Rattle.c_tree.specs.types.View.{pointers}
use Rattle.c_tree.specs.expressions.View.{select, selected}
use Rattle.c_tree.specs.declared.expr.CSelector.{CSelector}
use Rattle.c_tree.specs.declared.expr.CSelector.TheVariants.{Member, Index}
use Rattle.c_conditions.specs.World.{World}
use Rattle.c_conditions.specs.Steps.{Outcome, Step, go_on, ◌>>◌, pass, each}
use Rattle.c_conditions.specs.TypeSteps.{pointed_type}
use Rattle.c_conditions.specs.ExprSteps.{expr_step, place_step, selector_step}

grouped : (o : Outcome) (f g : Step) → go_on (go_on o f) g ≡ go_on o (f >> g)
grouped (Ok w) f g = refl
grouped (Err e) f g = refl

ended : (o : Outcome) → o ≡ go_on o Ok
ended (Ok w) = refl
ended (Err e) = refl

none_passed : (o : Outcome) → o ≡ go_on o (pass 0)
none_passed (Ok w) = ap (λ n. Ok (record w { place = n })) (omega arith)
none_passed (Err e) = refl

one_passed : (n : ℕ) (o : Outcome) → go_on (go_on o (pass n)) (pass 1) ≡ go_on o (pass (suc n))
one_passed n (Ok w) = ap (λ n. Ok (record w { place = n })) (omega arith)
one_passed n (Err e) = refl

pub stars_pass : (stars : ℕ) (of : ObjectType) (w : World) → pointed_type (pointers stars of) w ≡ go_on (pointed_type of w) (pass stars)
unfolding pointed_type
stars_pass zero of w = none_passed (pointed_type of w)
stars_pass (suc stars) of w = ap (λ o. go_on o (pass 1)) (stars_pass stars of w) ∙ one_passed stars (pointed_type of w)

select_step : (p : Place) (s : CSelector) (w : World) → place_step (select p s) w ≡ go_on (place_step p w) (selector_step s)
unfolding place_step
select_step p (Member n) w = refl
select_step p (Index a) w = ap (λ o. go_on o (pass 1)) (grouped (place_step p w) (pass 1) (expr_step a)) ∙ grouped (place_step p w) (pass 1 >> expr_step a) (pass 1)

pub selected_step : (p : Place) (all : List CSelector) (w : World) → place_step (selected p all) w ≡ go_on (place_step p w) (each selector_step all)
unfolding each
selected_step p [] w = ended (place_step p w)
selected_step p (s ∷ rest) w =
    selected_step (select p s) rest w ∙ ap (λ o. go_on o (each selector_step rest)) (select_step p s w) ∙ grouped (place_step p w) (selector_step s) (each selector_step rest)
