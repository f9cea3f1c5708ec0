-- Which dialect it is.
use Rattle.std.specs.Prelude.{Bool, true, false}
use Rattle.p2c_text.specs.declared.dialect.Dialect.{Dialect}
use Rattle.p2c_text.specs.declared.dialect.Dialect.TheVariants.{Iso, Turbo, Ucsd, Hp}

abbrev pub is_iso : Dialect → Bool
is_iso Iso = true
is_iso Turbo = false
is_iso Ucsd = false
is_iso Hp = false

abbrev pub is_turbo : Dialect → Bool
is_turbo Iso = false
is_turbo Turbo = true
is_turbo Ucsd = false
is_turbo Hp = false

abbrev pub is_ucsd : Dialect → Bool
is_ucsd Iso = false
is_ucsd Turbo = false
is_ucsd Ucsd = true
is_ucsd Hp = false

abbrev pub is_hp : Dialect → Bool
is_hp Iso = false
is_hp Turbo = false
is_hp Ucsd = false
is_hp Hp = true
