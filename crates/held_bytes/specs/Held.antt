-- Bytes that are held, and those of the outside.
use Rattle.std.specs.Prelude.{◌≡◌, ℕ, false, List, [], ◌∷◌, ◌++◌, drop, take, Option, Some, None}
use Rattle.p2c_outside.specs.Told.{Gains}
use Rattle.held_bytes.specs.declared.input.HeldInput.{HeldInput}

-- the bytes that were taken and not read yet
abbrev pub bytes_in : HeldInput → List ℕ
bytes_in held = drop held.at (take held.end held.buffer.items)

-- no byte is held, and the end was not met
pub record IsDry (held : HeldInput) : Type 0 where
  pub empty : bytes_in held ≡ []
  pub going : held.over ≡ false

-- bytes are added behind those that are held, and some from the front are put
pub record Moves (held held' : List ℕ) (written written' : Option (List ℕ)) (added : List ℕ) : Type 0 where
  pub sent : List ℕ
  pub put : Gains written written' sent
  pub is : held ++ added ≡ sent ++ held'

-- the byte that comes next
abbrev pub first_of : List ℕ → Option ℕ
first_of [] = None
first_of (b ∷ rest) = Some b

-- what is left after it
abbrev pub rest_of : List ℕ → List ℕ
rest_of [] = []
rest_of (b ∷ rest) = rest
