-- How parts are written that may be absent, or between which semicolons stand.
use Rattle.std.specs.Prelude.{Bool, true, false, List, [], ◌∷◌, Option, Some, None}
use Rattle.dialect_lexer.specs.declared.token.Symbol.TheVariants.{Semicolon}
use Rattle.expr_parser.specs.Layout.{Layout, Done, ◌&◌, symbol}

-- [A]
abbrev pub optional_part : Option Layout → Layout
optional_part None = Done
optional_part (Some part) = part

-- [";"]
abbrev pub optional_semicolon : Bool → Layout
optional_semicolon true = symbol Semicolon
optional_semicolon false = Done

-- {";" A}
abbrev pub after_semicolons : List Layout → Layout
after_semicolons [] = Done
after_semicolons (part ∷ more) = symbol Semicolon & part & after_semicolons more

-- [A {";" A}]
abbrev pub with_semicolons : List Layout → Layout
with_semicolons [] = Done
with_semicolons (part ∷ more) = part & after_semicolons more
