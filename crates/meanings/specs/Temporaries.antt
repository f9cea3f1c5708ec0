-- Two programs that do the same, of which the second may also use temporaries.
use Rattle.std.specs.Prelude.{◌≡◌, ℕ, ◌≤◌, ◌<◌, List, [], ◌∷◌}
use Rattle.meanings.specs.Values.{RoutineValue}
use Rattle.meanings.specs.Worlds.{World, Temporaries, with_temporaries}
use Rattle.meanings.specs.Outcomes.{Exit, Outcome, Normal, Exits}
use Rattle.meanings.specs.Programs.{Passed, Run, Level, Setting, Prog}

-- two outcomes that are alike but for the temporaries of the second, of which K holds; activations were only added to the first n
pub data Both {X : Type 0} (n : ℕ) (K : Temporaries → Type 0) : Outcome X → Outcome X → Type 0 where
  Normals : (x : X) (w : World) (m : Temporaries) → n ≤ w.next → K m → Both n K (Normal x w) (Normal x (with_temporaries w m))
  BothExit : (e : Exit) (w : World) (m : Temporaries) → n ≤ w.next → K m → Both n K (Exits e w) (Exits e (with_temporaries w m))

-- of the activations below n, only temporaries of a from k on differ
pub record Kept (a k n : ℕ) (m m' : Temporaries) : Type 0 where
  pub others : (b d : ℕ) → b < n → (b ≡ a → ⊥) → m' b d ≡ m b d
  pub own : (d : ℕ) → d < k → m' a d ≡ m a d

-- no temporary of the activations below n differs
pub record KeptAll (n : ℕ) (m m' : Temporaries) : Type 0 where
  pub by : (b d : ℕ) → b < n → m' b d ≡ m b d

-- two runs of a routine, which leave the temporaries of older activations alone
pub record SameRuns (run run' : Run) : Type 0 where
  pub by : (c : RoutineValue) (args : List Passed) (w : World) (m : Temporaries) → Both w.next (KeptAll w.next m) (run c args w) (run' c args (with_temporaries w m))

pub data SameLevels : Level → Level → Type 0 where
  Ends : SameLevels [] []
  And : {run run' : Run} {l l' : Level} → SameRuns run run' → SameLevels l l' → SameLevels (run ∷ l) (run' ∷ l')

-- from every world, and with any temporaries, the second does what the first does, and changes own temporaries from k on alone
pub record Sim {X : Type 0} (k : ℕ) (p p' : Prog X) : Type 0 where
  pub by : (s : Setting) (l l' : Level) (w : World) (m : Temporaries) → SameLevels l l' → s.here < w.next
      → Both w.next (Kept s.here k w.next m) (p s l w) (p' s l' (with_temporaries w m))

-- a program that neither sees nor changes temporaries
pub record Same {X : Type 0} (p : Prog X) : Type 0 where
  pub at : (k : ℕ) → Sim k p p
