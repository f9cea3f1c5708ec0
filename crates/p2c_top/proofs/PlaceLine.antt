-- A line that names a place, offered in two calls.
use Rattle.std.proofs.Common.{◌≡◌, ℕ, List, ◌++◌, Option, sym, subst, ap, ◌∙◌, append_assoc}
use Rattle.p2c_outside.specs.Told.{Gains}
use Rattle.held_bytes.specs.Written.{GainsPart}
use Rattle.held_bytes.proofs.ToldLemmas.{GainsPart-second}

regroup : (a b c d : List ℕ) → a ++ (b ++ c ++ d) ≡ a ++ b ++ c ++ d
regroup a b c d = sym (ap (λ x. x ++ d) (append_assoc a b c) ∙ append_assoc a (b ++ c) d)

-- the first part of four was taken whole, and a proper prefix of the others
pub line_part : (old mid new : Option (List ℕ)) (a b c d : List ℕ) → Gains old mid a → GainsPart mid new (b ++ c ++ d) → GainsPart old new (a ++ b ++ c ++ d)
line_part old mid new a b c d p q = subst (GainsPart old new) (regroup a b c d) (GainsPart-second old mid new a (b ++ c ++ d) p q)
