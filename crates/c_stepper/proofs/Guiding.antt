-- Which calls are counted.
use Rattle.std.proofs.Common.{◌≡◌, ◌∙◌, ℕ, zero, suc, List, [], ◌∷◌, ◌++◌, Bool, false, None, Some, length, map, refl, sym, ap, append_assoc, arith}
use Rattle.std.proofs.lemmas.List.{append-nil}
use Rattle.std.specs.Prelude.{slice_get}
use Rattle.std.specs.Option.{is_some}
use Rattle.c_tree.specs.declared.program.CFunction.{CFunction}
use Rattle.c_meaning.specs.Entries.{number_at_end, number_after, tail_number}
use Rattle.c_stepper.specs.Runners.{name_of}
use Rattle.c_stepper.specs.Guides.{is_counted}

pub counted_some : (fs : List CFunction) (n : ℕ) (b : Bool) → slice_get (map is_counted fs) n ≡ Some b → b ≡ is_some (number_at_end (name_of (slice_get fs n)))
counted_some [] n b h = cc
counted_some (f ∷ fs) zero b h = cc
counted_some (f ∷ fs) (suc n) b h = counted_some fs n b h

pub counted_none : (fs : List CFunction) (n : ℕ) → slice_get (map is_counted fs) n ≡ None → false ≡ is_some (number_at_end (name_of (slice_get fs n)))
unfolding number_at_end number_after tail_number
counted_none [] n h = refl
counted_none (f ∷ fs) zero h = cc
counted_none (f ∷ fs) (suc n) h = counted_none fs n h

-- the functions that are left, after these
pub next_counted : (all rest after : List CFunction) (list list' : List Bool) (f : CFunction) → list ++ map is_counted rest ≡ map is_counted all → rest ≡ f ∷ after → list' ≡ list ++ is_counted f ∷ [] → list' ++ map is_counted after ≡ map is_counted all
next_counted all rest after list list' f h split push =
    ap (λ l. l ++ map is_counted after) push ∙ append_assoc list (is_counted f ∷ []) (map is_counted after) ∙ ap (λ r. list ++ map is_counted r) (sym split) ∙ h

pub all_counted : (all rest : List CFunction) (list : List Bool) → list ++ map is_counted rest ≡ map is_counted all → length rest ≡ 0 → list ≡ map is_counted all
all_counted all [] list h none = sym (append-nil list) ∙ h
all_counted all (f ∷ rest) list h none = absurd (omega (arith, none))
