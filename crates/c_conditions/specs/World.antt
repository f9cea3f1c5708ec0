-- What is known at a token of a program.
use Rattle.std.specs.Prelude.{ℕ, Bool, List}
use Rattle.c_conditions.specs.declared.checker.Checker.{Checker}
use Rattle.c_conditions.specs.Names.{Numbers, look, has_of, count_of}

abbrev pub NameSet : Type 0
NameSet = List ℕ → Bool

-- The number of tokens before; the cells of the structs that are declared; the structs that may be named behind a pointer; the typedefs;
-- these, the globals and the functions; the members, or the parameters and locals; the labels above; how many of the lists around have a label.
pub record World : Type 0 where
  pub place : ℕ
  pub structs : Numbers
  pub pointed : NameSet
  pub typedefs : NameSet
  pub names : NameSet
  pub inner : NameSet
  pub labels : NameSet
  pub reached : List ℕ → ℕ

abbrev pub seen : Checker → World
seen c = record {
  place = c.place;
  structs = look c.structs;
  pointed = has_of c.pointed;
  typedefs = has_of c.typedefs;
  names = has_of c.names;
  inner = has_of c.inner;
  labels = has_of c.labels;
  reached = count_of c.reached;
}
