-- What clauses see of a text: two lists of bytes.
use Rattle.std.specs.Prelude.{ℕ, List}

pub record NamedBytes : Type 0 where
  pub name : List ℕ
  pub bytes : List ℕ
