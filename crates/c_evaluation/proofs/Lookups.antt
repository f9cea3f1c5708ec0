-- Names are found where the tables say.
use Rattle.std.proofs.Common.{◌≡◌, ℕ, ◌+◌, ◌<◌, ◌≤◌, arith, List, [], ◌∷◌, length, map, take, true, false, Option, Some, None, refl, sym, ap, ◌∙◌}
use Rattle.std.specs.Prelude.{slice_get, if◌then◌else◌, IfSome, option_and_then}
use Rattle.std.specs.Option.{option_map}
use Rattle.std.specs.Str.{bytes_eq}
use Rattle.c_tree.specs.declared.program.CVariable.{CVariable}
use Rattle.c_tree.specs.declared.program.CPrototype.{CPrototype}
use Rattle.c_tree.specs.declared.program.CFunction.{CFunction}
use Rattle.c_tree.specs.declared.program.CDeclaration.{CDeclaration}
use Rattle.c_tree.specs.declared.program.CDeclaration.TheVariants as d
use Rattle.c_meaning.specs.Cells.{Name}
use Rattle.c_meaning.specs.Answer.{or_else}
use Rattle.c_meaning.specs.Types.{Signature, members_of, typedef_of}
use Rattle.c_meaning.specs.States.{variable_type, global_from, announced, written}
use Rattle.name_tables.specs.Places.{first_from, variable_name, prototype_name, function_name, struct_name, typedef_name}
use Rattle.name_tables.proofs.Finding.{first_item, item_at, absent, below, within, beyond, absent_of}
use Rattle.c_evaluation.specs.Declarations.{members_in, typedef_in}

pub global_first : (x : Name) (vs : List CVariable) (i : ℕ) → first_from i x (map variable_name vs) ≡ global_from i x vs
unfolding first_from global_from or_else
global_first x [] i = refl
global_first x (v ∷ vs) i =
    elim (bytes_eq x v.name) as (λ b. or_else (if b then Some i else None) (first_from (i + 1) x (map variable_name vs)) ≡ (if b then Some i else global_from (i + 1) x vs))
    [ true ↦ refl | false ↦ global_first x vs (i + 1) ]

-- ---- functions

abbrev prototype_signature : CPrototype → Signature
prototype_signature q = record { result = q.result; parameters = map variable_type q.parameters }

announced_is : (x : Name) (qs : List CPrototype) → announced x qs ≡ option_map prototype_signature (first_item prototype_name x qs)
unfolding announced
announced_is x [] = refl
announced_is x (q ∷ qs) =
    elim (bytes_eq x q.name) as (λ b. (if b then Some (prototype_signature q) else announced x qs) ≡ option_map prototype_signature (if b then Some q else first_item prototype_name x qs))
    [ true ↦ refl | false ↦ announced_is x qs ]

module _ (x : Name) (qs : List CPrototype) where
  pub announced_none : first_from 0 x (map prototype_name qs) ≡ None → announced x qs ≡ None
  announced_none h = announced_is x qs ∙ ap (option_map prototype_signature) (absent prototype_name x qs 0 h)

  pub announced_past : (p : ℕ) → first_from 0 x (map prototype_name qs) ≡ Some p → slice_get qs p ≡ None → announced x qs ≡ None
  announced_past p h l = announced_is x qs ∙ ap (option_map prototype_signature) (sym (item_at prototype_name x qs p h) ∙ l)

  pub announced_there : (p : ℕ) (q : CPrototype) → first_from 0 x (map prototype_name qs) ≡ Some p → slice_get qs p ≡ Some q → announced x qs ≡ Some (record { result = q.result; parameters = map variable_type q.parameters })
  announced_there p q h l = announced_is x qs ∙ ap (option_map prototype_signature) (sym (item_at prototype_name x qs p h) ∙ l)

abbrev function_signature : CFunction → Signature
function_signature f = record { result = f.result; parameters = map variable_type f.parameters }

written_is : (x : Name) (fs : List CFunction) → written x fs ≡ option_map function_signature (first_item function_name x fs)
unfolding written
written_is x [] = refl
written_is x (f ∷ fs) =
    elim (bytes_eq x f.name) as (λ b. (if b then Some (function_signature f) else written x fs) ≡ option_map function_signature (if b then Some f else first_item function_name x fs))
    [ true ↦ refl | false ↦ written_is x fs ]

module _ (x : Name) (fs : List CFunction) (reach : ℕ) where
  pub written_none : first_from 0 x (map function_name fs) ≡ None → written x (take reach fs) ≡ None
  written_none h = written_is x (take reach fs) ∙ ap (option_map function_signature) (absent_of function_name x fs 0 reach h)

  pub written_beyond : (p : ℕ) → first_from 0 x (map function_name fs) ≡ Some p → reach ≤ p → written x (take reach fs) ≡ None
  written_beyond p h l = written_is x (take reach fs) ∙ ap (option_map function_signature) (beyond function_name x fs p reach h l)

  pub written_past : (p : ℕ) → first_from 0 x (map function_name fs) ≡ Some p → p < reach → slice_get fs p ≡ None → written x (take reach fs) ≡ None
  written_past p h l e = written_is x (take reach fs) ∙ ap (option_map function_signature) (within function_name x fs p reach h l ∙ sym (item_at function_name x fs p h) ∙ e)

  pub written_there : (p : ℕ) (f : CFunction) → first_from 0 x (map function_name fs) ≡ Some p → p < reach → slice_get fs p ≡ Some f → written x (take reach fs) ≡ Some (record { result = f.result; parameters = map variable_type f.parameters })
  written_there p f h l e = written_is x (take reach fs) ∙ ap (option_map function_signature) (within function_name x fs p reach h l ∙ sym (item_at function_name x fs p h) ∙ e)

pub function_below : (x : Name) (fs : List CFunction) (o : Option ℕ) → o ≡ first_from 0 x (map function_name fs) → IfSome o (λ i. i < length fs)
function_below x fs None h = tt
function_below x fs (Some i) h = let low = below function_name x fs 0 i (sym h) in omega (arith, low)

-- ---- declarations

members_is : (x : Name) (ds : List CDeclaration) → members_of x ds ≡ option_and_then members_in (first_item struct_name x ds)
unfolding members_of
members_is x [] = refl
members_is x (d.Struct s ∷ rest) =
    elim (bytes_eq x s.name) as (λ b. (if b then Some s.members else members_of x rest) ≡ option_and_then members_in (if b then Some (d.Struct s) else first_item struct_name x rest))
    [ true ↦ refl | false ↦ members_is x rest ]
members_is x (d.Typedef f ∷ rest) = members_is x rest

typedef_is : (x : Name) (ds : List CDeclaration) → typedef_of x ds ≡ option_and_then typedef_in (first_item typedef_name x ds)
unfolding typedef_of
typedef_is x [] = refl
typedef_is x (d.Struct s ∷ rest) = typedef_is x rest
typedef_is x (d.Typedef f ∷ rest) =
    elim (bytes_eq x f.name) as (λ b. (if b then Some (record { result = f.result; parameters = f.parameters }) else typedef_of x rest) ≡ option_and_then typedef_in (if b then Some (d.Typedef f) else first_item typedef_name x rest))
    [ true ↦ refl | false ↦ typedef_is x rest ]

module _ (x : Name) (ds : List CDeclaration) where
  pub members_none : first_from 0 x (map struct_name ds) ≡ None → members_of x ds ≡ None
  members_none h = members_is x ds ∙ ap (option_and_then members_in) (absent struct_name x ds 0 h)

  pub members_past : (p : ℕ) → first_from 0 x (map struct_name ds) ≡ Some p → slice_get ds p ≡ None → members_of x ds ≡ None
  members_past p h l = members_is x ds ∙ ap (option_and_then members_in) (sym (item_at struct_name x ds p h) ∙ l)

  pub members_there : (p : ℕ) (a : CDeclaration) → first_from 0 x (map struct_name ds) ≡ Some p → slice_get ds p ≡ Some a → members_of x ds ≡ members_in a
  members_there p a h l = members_is x ds ∙ ap (option_and_then members_in) (sym (item_at struct_name x ds p h) ∙ l)

  pub typedef_none : first_from 0 x (map typedef_name ds) ≡ None → typedef_of x ds ≡ None
  typedef_none h = typedef_is x ds ∙ ap (option_and_then typedef_in) (absent typedef_name x ds 0 h)

  pub typedef_past : (p : ℕ) → first_from 0 x (map typedef_name ds) ≡ Some p → slice_get ds p ≡ None → typedef_of x ds ≡ None
  typedef_past p h l = typedef_is x ds ∙ ap (option_and_then typedef_in) (sym (item_at typedef_name x ds p h) ∙ l)

  pub typedef_there : (p : ℕ) (a : CDeclaration) → first_from 0 x (map typedef_name ds) ≡ Some p → slice_get ds p ≡ Some a → typedef_of x ds ≡ typedef_in a
  typedef_there p a h l = typedef_is x ds ∙ ap (option_and_then typedef_in) (sym (item_at typedef_name x ds p h) ∙ l)
