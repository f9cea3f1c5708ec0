-- The innermost scope, as the last of a list.
use Rattle.std.proofs.Common.{◌≡◌, ℕ, zero, suc, ◌-◌, ◌<◌, List, [], ◌∷◌, ◌++◌, length, take, map, true, false, is_some, Option, Some, None, refl, sym, ap, ◌∙◌, arith, slice_index_or, slice_set}
use Rattle.std.proofs.lemmas.List.{length-map}
use Rattle.scope_tables.specs.Scopes.{Scope, declared_in, or_else, found, deeper, depth_of, innermost, with_declared}

or_else_or_else : (a b c : Option ℕ) → or_else (or_else a b) c ≡ or_else a (or_else b c)
or_else_or_else None b c = refl
or_else_or_else (Some x) b c = refl

-- what is found with one more scope inside
pub found_inside : (outer : List Scope) (scope : Scope) (name : List ℕ) → found (outer ++ scope ∷ []) name ≡ or_else (declared_in scope name) (found outer name)
found_inside [] scope name = or_none (declared_in scope name)
  where
    or_none : (o : Option ℕ) → o ≡ or_else o None
    or_none None = refl
    or_none (Some decl) = refl
found_inside (s ∷ outer) scope name = ap (λ o. or_else o (declared_in s name)) (found_inside outer scope name) ∙ or_else_or_else (declared_in scope name) (found outer name) (declared_in s name)

-- the place that a name has where the scope of this place has it
abbrev pub place_or : ℕ → Option ℕ → Option ℕ → Option ℕ
place_or n None other = other
place_or n (Some decl) other = Some n

deeper_place : (n : ℕ) (here outer first : Option ℕ) → deeper (place_or n here outer) first ≡ place_or (suc n) here (deeper outer first)
deeper_place n None outer first = refl
deeper_place n (Some decl) outer first = refl

pub depth_inside : (outer : List Scope) (scope : Scope) (name : List ℕ) → depth_of (outer ++ scope ∷ []) name ≡ place_or (length outer) (declared_in scope name) (depth_of outer name)
depth_inside [] scope name = one (declared_in scope name)
  where
    one : (o : Option ℕ) → deeper None o ≡ place_or 0 o None
    one None = refl
    one (Some decl) = refl
depth_inside (s ∷ outer) scope name =
    ap (λ o. deeper o (declared_in s name)) (depth_inside outer scope name) ∙ deeper_place (length outer) (declared_in scope name) (depth_of outer name) (declared_in s name)

pub innermost_inside : (outer : List Scope) (scope : Scope) → innermost (outer ++ scope ∷ []) ≡ scope
innermost_inside [] scope = refl
innermost_inside (s ∷ []) scope = refl
innermost_inside (s ∷ t ∷ outer) scope = innermost_inside (t ∷ outer) scope

pub declared_inside : (outer : List Scope) (scope : Scope) (name : List ℕ) (decl : ℕ) → with_declared (outer ++ scope ∷ []) name decl ≡ outer ++ (scope ++ (name, decl) ∷ []) ∷ []
declared_inside [] scope name decl = refl
declared_inside (s ∷ []) scope name decl = refl
declared_inside (s ∷ t ∷ outer) scope name decl = ap (λ more. s ∷ more) (declared_inside (t ∷ outer) scope name decl)

pub map_inside : {A B : Type 0} (f : A → B) (xs : List A) (x : A) → map f (xs ++ x ∷ []) ≡ map f xs ++ f x ∷ []
map_inside f [] x = refl
map_inside f (y ∷ xs) x = ap (λ more. f y ∷ more) (map_inside f xs x)

-- ---- the last item of a list, with another one in its place

pub record Ends {A : Type 0} (xs : List A) (n : ℕ) (y : A) : Type 0 where
  pub last : A
  pub is : xs ≡ take n xs ++ last ∷ []
  pub at : (d : A) → slice_index_or xs n d ≡ last
  pub set : slice_set xs n y ≡ take n xs ++ y ∷ []

pub ends : {A : Type 0} (xs : List A) (n : ℕ) (y : A) → length xs ≡ suc n → Ends xs n y
ends [] n y h = absurd (omega arith)
ends (x ∷ []) zero y h = record { last = x; is = refl; at = λ d. refl; set = refl }
ends (x ∷ z ∷ xs) zero y h = absurd (omega arith)
ends (x ∷ []) (suc n) y h = absurd (omega arith)
ends (x ∷ z ∷ xs) (suc n) y h =
    let e = ends (z ∷ xs) n y (omega arith) in
    record { last = e.last; is = ap (λ more. x ∷ more) e.is; at = e.at; set = ap (λ more. x ∷ more) e.set }

-- ---- what is seen of a list of scopes that are more than their entries

-- the number of items before the last
pub before_last : {A B : Type 0} (f : A → B) (xs : List A) (seen : List B) (n : ℕ) → map f xs ≡ seen → 0 < length seen → n ≡ length xs → length xs ≡ suc (n - 1)
before_last f xs seen n e h l = let same = ap length e in let k = length-map xs f in omega (arith, same, k)

-- of which the innermost one is the last item
pub innermost_at : {A : Type 0} (f : A → Scope) (xs : List A) (n : ℕ) (x : A) → length xs ≡ suc n → x ≡ slice_index_or xs n x → innermost (map f xs) ≡ f x
innermost_at f xs n x h at =
    let e = ends xs n x h in
    ap innermost (ap (λ l. map f l) e.is ∙ map_inside f (take n xs) e.last) ∙ innermost_inside (map f (take n xs)) (f e.last) ∙ ap f (sym (at ∙ e.at x))

pub all_but_last : {A : Type 0} (f : A → Scope) (xs : List A) (n : ℕ) → length xs ≡ suc n → map f xs ≡ map f (take n xs) ++ innermost (map f xs) ∷ []
all_but_last f [] n h = absurd (omega arith)
all_but_last f (x ∷ xs) n h =
    let all = x ∷ xs in
    let e = ends all n x h in
    let seen = ap (λ l. map f l) e.is ∙ map_inside f (take n all) e.last in
    seen ∙ ap (λ s. map f (take n all) ++ s ∷ []) (sym (ap innermost seen ∙ innermost_inside (map f (take n all)) (f e.last)))

-- the last item declares a name as well
pub declared_at : {A : Type 0} (f : A → Scope) (xs : List A) (n : ℕ) (x y : A) (name : List ℕ) (decl : ℕ) → length xs ≡ suc n → x ≡ slice_index_or xs n x
    → f y ≡ f x ++ (name, decl) ∷ [] → map f (slice_set xs n y) ≡ with_declared (map f xs) name decl
declared_at f xs n x y name decl h at put =
    let e = ends xs n y h in
    let before = ap (λ l. map f l) e.is ∙ map_inside f (take n xs) e.last in
    ap (λ l. map f l) e.set ∙ map_inside f (take n xs) y ∙ ap (λ s. map f (take n xs) ++ s ∷ []) (put ∙ ap (λ s. s ++ (name, decl) ∷ []) (ap f (at ∙ e.at x)))
    ∙ sym (declared_inside (map f (take n xs)) (f e.last) name decl) ∙ sym (ap (λ l. with_declared l name decl) before)

-- the last item is seen as before
pub same_at : {A : Type 0} (f : A → Scope) (xs : List A) (n : ℕ) (x y : A) → length xs ≡ suc n → x ≡ slice_index_or xs n x → f y ≡ f x → map f (slice_set xs n y) ≡ map f xs
same_at f xs n x y h at put =
    let e = ends xs n y h in
    ap (λ l. map f l) e.set ∙ map_inside f (take n xs) y ∙ ap (λ s. map f (take n xs) ++ s ∷ []) (put ∙ ap f (at ∙ e.at x))
    ∙ sym (ap (λ l. map f l) e.is ∙ map_inside f (take n xs) e.last)

-- ---- one scope further out

pub found_here : (scopes outer : List Scope) (scope : Scope) (name : List ℕ) (all : Option ℕ) (decl : ℕ)
    → all ≡ found scopes name → scopes ≡ outer ++ scope ∷ [] → declared_in scope name ≡ Some decl → Some decl ≡ all
found_here scopes outer scope name all decl known e here =
    sym (known ∙ ap (λ l. found l name) e ∙ found_inside outer scope name ∙ ap (λ o. or_else o (found outer name)) here)

pub found_further : (scopes outer : List Scope) (scope : Scope) (name : List ℕ) (all : Option ℕ)
    → all ≡ found scopes name → scopes ≡ outer ++ scope ∷ [] → declared_in scope name ≡ None → all ≡ found outer name
found_further scopes outer scope name all known e here =
    known ∙ ap (λ l. found l name) e ∙ found_inside outer scope name ∙ ap (λ o. or_else o (found outer name)) here

pub depth_here : (scopes outer : List Scope) (scope : Scope) (name : List ℕ) (all : Option ℕ) (n : ℕ)
    → all ≡ depth_of scopes name → scopes ≡ outer ++ scope ∷ [] → is_some (declared_in scope name) ≡ true → n ≡ length outer → Some n ≡ all
depth_here scopes outer scope name all n known e here l =
    ap Some l ∙ sym (known ∙ ap (λ l. depth_of l name) e ∙ depth_inside outer scope name ∙ there (declared_in scope name) here)
  where
    there : (o : Option ℕ) → is_some o ≡ true → place_or (length outer) o (depth_of outer name) ≡ Some (length outer)
    there None h = absurd cc
    there (Some decl) h = refl

pub depth_further : (scopes outer : List Scope) (scope : Scope) (name : List ℕ) (all : Option ℕ)
    → all ≡ depth_of scopes name → scopes ≡ outer ++ scope ∷ [] → is_some (declared_in scope name) ≡ false → all ≡ depth_of outer name
depth_further scopes outer scope name all known e here =
    known ∙ ap (λ l. depth_of l name) e ∙ depth_inside outer scope name ∙ there (declared_in scope name) here
  where
    there : (o : Option ℕ) → is_some o ≡ false → place_or (length outer) o (depth_of outer name) ≡ depth_of outer name
    there None h = refl
    there (Some decl) h = absurd cc

pub is_none : {A : Type 0} (o : Option A) → is_some o ≡ false → o ≡ None
is_none None h = refl
is_none (Some a) h = absurd cc
