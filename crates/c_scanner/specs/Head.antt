-- Taking lines off the front.
use Rattle.std.specs.Prelude.{ℕ, ◌+◌, ◌==◌, if◌then◌else◌, List, [], ◌∷◌, Result, Ok, Err}

abbrev pub later : ℕ → Result (List ℕ) ℕ → Result (List ℕ) ℕ
later n (Ok rest) = Ok rest
later n (Err m) = Err (n + m)

-- what follows these lines, or how many bytes agree with them
unfoldable pub strip : List ℕ → List ℕ → Result (List ℕ) ℕ
strip [] bytes = Ok bytes
strip (line ∷ lines) [] = Err 0
strip (line ∷ lines) (b ∷ more) = if b == line then later 1 (strip lines more) else Err 0
