-- Demands of parts in a row.
use Rattle.std.proofs.Common.{ℕ, [], ◌∷◌, ◌++◌}
use Rattle.c_grammar.specs.Demands.{Demands, HoldAll, after}

pub hold_after : (n : ℕ) (all : Demands) → HoldAll all → HoldAll (after n all)
hold_after n [] h = tt
hold_after n (d ∷ more) h = (h.0, hold_after n more h.1)

pub held_before : (n : ℕ) (all : Demands) → HoldAll (after n all) → HoldAll all
held_before n [] h = tt
held_before n (d ∷ more) h = (h.0, held_before n more h.1)

pub hold_both : (a b : Demands) → HoldAll a → HoldAll b → HoldAll (a ++ b)
hold_both [] b g h = h
hold_both (d ∷ more) b g h = (g.0, hold_both more b g.1 h)

pub hold_first : (a b : Demands) → HoldAll (a ++ b) → HoldAll a
hold_first [] b h = tt
hold_first (d ∷ more) b h = (h.0, hold_first more b h.1)

pub hold_second : (a b : Demands) → HoldAll (a ++ b) → HoldAll b
hold_second [] b h = h
hold_second (d ∷ more) b h = hold_second more b h.1
