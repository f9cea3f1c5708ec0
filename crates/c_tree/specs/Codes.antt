-- What the codes of the trees are made of. A code, by which proofs tell trees apart, is a tree of numbers with a way back.
use Rattle.std.specs.Prelude.{◌≡◌, ℕ, zero, suc, List, [], ◌∷◌, Option, Some, None, refl}
use Rattle.std.specs.Coded.{Coded}
use Rattle.std.proofs.Common.{sym, ap, ◌∙◌}
use base.Stored.{Gv, gnil, gnum, gcons, num}

-- codes with a way back
pub record Stored (A : Type 0) : Type 0 where
  pub code : A → Gv
  pub back : Gv → A
  pub undoes : (x : A) → back (code x) ≡ x

abbrev pub coded : {A : Type 0} → Stored A → Coded A
coded s = record { code = s.code; inj = λ x y p. sym (s.undoes x) ∙ ap s.back p ∙ s.undoes y }

-- the number of a constructor with its parts
abbrev pub node : ℕ → Gv → Gv → Gv → Gv
node t x y z = gcons (gnum t) (gcons x (gcons y z))

-- the item at a place, or another past the end
abbrev pub pick : {A : Type 0} → List A → ℕ → A → A
pick [] n other = other
pick (x ∷ rest) zero other = x
pick (x ∷ rest) (suc n) other = pick rest n other

module _ {A : Type 0} (s : Stored A) where
  abbrev pub list_code : List A → Gv
  list_code [] = gnil
  list_code (x ∷ rest) = gcons (s.code x) (list_code rest)

  abbrev pub list_back : Gv → List A
  list_back (gcons x rest) = s.back x ∷ list_back rest
  list_back _ = []

  pub list_undoes : (all : List A) → list_back (list_code all) ≡ all
  list_undoes [] = refl
  list_undoes (x ∷ rest) = λ i. s.undoes x i ∷ list_undoes rest i

  abbrev pub lists : Stored (List A)
  lists = record { code = list_code; back = list_back; undoes = list_undoes }

  abbrev pub option_code : Option A → Gv
  option_code None = gnil
  option_code (Some x) = gcons gnil (s.code x)

  abbrev pub option_back : Gv → Option A
  option_back (gcons t x) = Some (s.back x)
  option_back _ = None

  pub option_undoes : (x : Option A) → option_back (option_code x) ≡ x
  option_undoes None = refl
  option_undoes (Some x) = ap Some (s.undoes x)

  abbrev pub options : Stored (Option A)
  options = record { code = option_code; back = option_back; undoes = option_undoes }

abbrev pub numbers : Stored ℕ
numbers = record { code = gnum; back = num; undoes = λ n. refl }

abbrev pub names : Stored (List ℕ)
names = lists numbers
