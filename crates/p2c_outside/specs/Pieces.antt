-- Pieces of bytes that one call moves.
use Rattle.std.specs.Prelude.{ℕ, List, ◌++◌, take, drop, min}

-- how many bytes a call moves, where it has this room, moves at most so many, and so many are there
abbrev pub moved : ℕ → ℕ → ℕ → ℕ
moved room most there = min (min room most) there

-- the slice `into` after its first n bytes became the first n bytes of `from`
abbrev pub with_front : ℕ → List ℕ → List ℕ → List ℕ
with_front n from into = take n from ++ drop n into
