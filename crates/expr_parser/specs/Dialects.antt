-- What each dialect has.
use Rattle.std.specs.Prelude.{Bool, true, false}
use Rattle.p2c_text.specs.declared.dialect.Dialect.{Dialect}
use Rattle.p2c_text.specs.declared.dialect.Dialect.TheVariants.{Iso, Turbo, Ucsd, Hp}

-- labels of statements that are names
abbrev pub has_named_labels : Dialect → Bool
has_named_labels Iso = false
has_named_labels Turbo = true
has_named_labels Ucsd = false
has_named_labels Hp = false

-- labels of a `case` from one value to another
abbrev pub has_label_ranges : Dialect → Bool
has_label_ranges Iso = false
has_label_ranges Turbo = true
has_label_ranges Ucsd = false
has_label_ranges Hp = true

-- what a `case` does without a matching label
abbrev pub has_rest : Dialect → Bool
has_rest Iso = false
has_rest Turbo = true
has_rest Ucsd = false
has_rest Hp = true
