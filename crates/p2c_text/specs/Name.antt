-- Letters of names.
use Rattle.std.specs.Prelude.{ℕ, ◌<◌, ◌⊎◌}

-- the byte is none of the letters A to Z
abbrev pub IsNoCapital : ℕ → Type 0
IsNoCapital byte = (byte < 65) ⊎ (90 < byte)
