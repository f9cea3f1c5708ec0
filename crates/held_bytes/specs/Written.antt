-- How much of a text a sink took.
use Rattle.std.specs.Prelude.{ℕ, ◌<◌, ◌⊎◌, Option, List, length, take}
use Rattle.p2c_outside.specs.Counts.{Rose}
use Rattle.p2c_outside.specs.Told.{Gains}

-- what was written gained a proper prefix of the text
abbrev pub GainsPart : Option (List ℕ) → Option (List ℕ) → List ℕ → Type 0
GainsPart old new text = (n : ℕ) × (n < length text) × Gains old new (take n text)

-- what was written gained a prefix of the text, and the whole text where the count of faults did not rise
abbrev pub Says : Option (List ℕ) → Option (List ℕ) → ℕ → ℕ → List ℕ → Type 0
Says old new faults faults_now text = Gains old new text ⊎ (Rose faults faults_now × GainsPart old new text)
