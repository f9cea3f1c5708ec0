-- What is selected of a place.
use Rattle.std.proofs.Common.{◌≡◌, ◌≢◌, ◌<◌, ◌≤◌, List, [], ◌∷◌, None, length, get_or, refl, sym, ap, ◌∙◌, arith}
use Rattle.c_tree.specs.Tree as t
use Rattle.c_tree.specs.expressions.View.{select, selected}
use Rattle.c_tree.specs.declared.expr.CSelector.{CSelector}
use Rattle.c_tree.specs.declared.expr.CSelector.TheVariants.{Member, Index}
use Rattle.c_meaning.specs.Answer.{Answer, Got, Bad, ◌>>=◌}
use Rattle.c_meaning.specs.Evaluate.{View, Site, value, place}
use Rattle.c_evaluation.specs.Evaluations.{onto_selector, onto_selectors, name_in}
use Rattle.c_evaluation.proofs.Signatures.{after, after_first}

-- ---- it is no name

select_no_name : (p : t.Place) (s : CSelector) → name_in (select p s) ≡ None
select_no_name p (Member n) = refl
select_no_name p (Index a) = refl

more_no_name : (p : t.Place) (all : List CSelector) → name_in p ≡ None → name_in (selected p all) ≡ None
more_no_name p [] e = e
more_no_name p (s ∷ rest) e = more_no_name (select p s) rest (select_no_name p s)

pub no_name : (p : t.Place) (all : List CSelector) → all ≢ [] → name_in (selected p all) ≡ None
no_name p [] some = absurd (some refl)
no_name p (s ∷ rest) some = more_no_name (select p s) rest (select_no_name p s)

-- ---- where it is

got : {A : Type 0} (a : Answer A) → a ≡ a >>= Got
unfolding ◌>>=◌
got (Got x) = refl
got (Bad kind) = refl

grouped : {A B C : Type 0} (a : Answer A) (f : A → Answer B) (g : B → Answer C) → a >>= f >>= g ≡ a >>= (λ x. f x >>= g)
unfolding ◌>>=◌
grouped (Got x) f g = refl
grouped (Bad kind) f g = refl

module _ (v : View) where
  select_place : (p : t.Place) (s : CSelector) → place v (select p s) ≡ place v p >>= onto_selector v s
  unfolding value place
  select_place p (Member n) = refl
  select_place p (Index a) = refl

  pub selected_place : (p : t.Place) (all : List CSelector) → place v (selected p all) ≡ place v p >>= onto_selectors v all
  selected_place p [] = got (place v p)
  selected_place p (s ∷ rest) = selected_place (select p s) rest ∙ ap (λ a. a >>= onto_selectors v rest) (select_place p s) ∙ grouped (place v p) (onto_selector v s) (onto_selectors v rest)

  pub none_selected : (all : List CSelector) (site : Site) → length all < 1 → onto_selectors v all site ≡ Got site
  none_selected [] site few = refl
  none_selected (s ∷ rest) site few = absurd (omega arith)

  pub next_selected : (s : CSelector) (rest : List CSelector) (site next : Site) → Got next ≡ onto_selector v s site → onto_selectors v rest next ≡ onto_selectors v (s ∷ rest) site
  unfolding ◌>>=◌
  next_selected s rest site next e = ap (λ a. a >>= onto_selectors v rest) e

-- the first of some selectors, as a pattern gives it
pub first_of : (all : List CSelector) (s : CSelector) → 1 ≤ length all → s ≡ get_or all 0 s → all ≡ s ∷ after all
first_of [] s some h = absurd (omega arith)
first_of (x ∷ rest) s some h = let same : s ≡ x = h in ap (λ y. y ∷ rest) (sym same) ∙ ap (λ l. s ∷ l) (sym (after_first x rest))
