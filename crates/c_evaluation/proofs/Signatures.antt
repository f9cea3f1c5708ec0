-- Lists of types, compared one after another.
use Rattle.std.proofs.Common.{◌≡◌, ◌-◌, ◌≤◌, true, false, List, [], ◌∷◌, ◌&&◌, map, take, drop, length, get_or, take_all, sym, ap, ◌∙◌, arith}
use Rattle.c_tree.specs.Tree.{ObjectType}
use Rattle.c_tree.specs.declared.program.CVariable.{CVariable}
use Rattle.c_meaning.specs.States.{variable_type}
use Rattle.c_meaning.specs.Types.{type_eq, types_eq}

-- a list without its first item, as a pattern gives it
abbrev pub after : {A : Type 0} → List A → List A
after l = take (length l - 1) (drop 1 l)

pub after_first : {A : Type 0} (x : A) (l : List A) → after (x ∷ l) ≡ l
after_first x l = take_all (length (x ∷ l) - 1) l (omega arith)

pub first_is : {A : Type 0} (x y : A) (l : List A) → x ≡ get_or (y ∷ l) 0 x → x ≡ y
first_is x y l h = h

variables_step : (xs ys : List CVariable) (x y : CVariable) → 1 ≤ length xs → 1 ≤ length ys → x ≡ get_or xs 0 x → y ≡ get_or ys 0 y
    → types_eq (map variable_type xs) (map variable_type ys) ≡ type_eq x.of y.of && types_eq (map variable_type (after xs)) (map variable_type (after ys))
unfolding types_eq variable_type
variables_step [] ys x y l m h k = absurd (omega arith)
variables_step (a ∷ xs) [] x y l m h k = absurd (omega arith)
variables_step (a ∷ xs) (b ∷ ys) x y l m h k =
    sym (ap (λ (v : CVariable). type_eq v.of y.of && types_eq (map variable_type (after (a ∷ xs))) (map variable_type (after (b ∷ ys)))) h
    ∙ ap (λ (v : CVariable). type_eq a.of v.of && types_eq (map variable_type (after (a ∷ xs))) (map variable_type (after (b ∷ ys)))) k
    ∙ ap (λ l. type_eq a.of b.of && types_eq (map variable_type l) (map variable_type (after (b ∷ ys)))) (after_first a xs)
    ∙ ap (λ l. type_eq a.of b.of && types_eq (map variable_type xs) (map variable_type l)) (after_first b ys))

pub variables_differ : (xs ys : List CVariable) (x y : CVariable) → 1 ≤ length xs → 1 ≤ length ys → x ≡ get_or xs 0 x → y ≡ get_or ys 0 y → type_eq x.of y.of ≡ false
    → types_eq (map variable_type xs) (map variable_type ys) ≡ false
variables_differ xs ys x y l m h k e = variables_step xs ys x y l m h k ∙ ap (λ q. q && types_eq (map variable_type (after xs)) (map variable_type (after ys))) e

pub variables_go_on : (xs ys : List CVariable) (x y : CVariable) → 1 ≤ length xs → 1 ≤ length ys → x ≡ get_or xs 0 x → y ≡ get_or ys 0 y → type_eq x.of y.of ≡ true
    → types_eq (map variable_type xs) (map variable_type ys) ≡ types_eq (map variable_type (after xs)) (map variable_type (after ys))
variables_go_on xs ys x y l m h k e = variables_step xs ys x y l m h k ∙ ap (λ q. q && types_eq (map variable_type (after xs)) (map variable_type (after ys))) e

have_step : (xs : List ObjectType) (ys : List CVariable) (x : ObjectType) (y : CVariable) → 1 ≤ length xs → 1 ≤ length ys → x ≡ get_or xs 0 x → y ≡ get_or ys 0 y
    → types_eq xs (map variable_type ys) ≡ type_eq x y.of && types_eq (after xs) (map variable_type (after ys))
unfolding types_eq variable_type
have_step [] ys x y l m h k = absurd (omega arith)
have_step (a ∷ xs) [] x y l m h k = absurd (omega arith)
have_step (a ∷ xs) (b ∷ ys) x y l m h k =
    sym (ap (λ v. type_eq v y.of && types_eq (after (a ∷ xs)) (map variable_type (after (b ∷ ys)))) h
    ∙ ap (λ (v : CVariable). type_eq a v.of && types_eq (after (a ∷ xs)) (map variable_type (after (b ∷ ys)))) k
    ∙ ap (λ l. type_eq a b.of && types_eq l (map variable_type (after (b ∷ ys)))) (after_first a xs)
    ∙ ap (λ l. type_eq a b.of && types_eq xs (map variable_type l)) (after_first b ys))

pub have_differ : (xs : List ObjectType) (ys : List CVariable) (x : ObjectType) (y : CVariable) → 1 ≤ length xs → 1 ≤ length ys → x ≡ get_or xs 0 x → y ≡ get_or ys 0 y → type_eq x y.of ≡ false
    → types_eq xs (map variable_type ys) ≡ false
have_differ xs ys x y l m h k e = have_step xs ys x y l m h k ∙ ap (λ q. q && types_eq (after xs) (map variable_type (after ys))) e

pub have_go_on : (xs : List ObjectType) (ys : List CVariable) (x : ObjectType) (y : CVariable) → 1 ≤ length xs → 1 ≤ length ys → x ≡ get_or xs 0 x → y ≡ get_or ys 0 y → type_eq x y.of ≡ true
    → types_eq xs (map variable_type ys) ≡ types_eq (after xs) (map variable_type (after ys))
have_go_on xs ys x y l m h k e = have_step xs ys x y l m h k ∙ ap (λ q. q && types_eq (after xs) (map variable_type (after ys))) e
