-- Cells, by the structs that a table has.
use Rattle.std.specs.Prelude.{ℕ, min, nat_le, Bool, ◌&&◌, List}
use Rattle.std.specs.List.{sum_by}
use Rattle.std.specs.Option.{unwrap_or}
use Rattle.c_tree.specs.Tree.{ObjectType}
use Rattle.c_tree.specs.declared.program.CMember.{CMember}
use Rattle.c_grammar.specs.Types as grammar
use Rattle.c_conditions.specs.declared.table.Table.{Table}
use Rattle.c_conditions.specs.Names.{Numbers, look}

-- a struct that is not declared counts as one cell
abbrev pub named : Numbers → List ℕ → ℕ
named structs name = unwrap_or (structs name) 1

-- the greatest number of 64 bits stands for those above it
abbrev pub capped : ℕ → ℕ
capped n = min n 18446744073709551615

abbrev pub member_cells : Numbers → CMember → ℕ
member_cells structs m = capped (grammar.member_cells (named structs) m)

abbrev pub struct_cells : Numbers → List CMember → ℕ
struct_cells structs members = capped (sum_by (grammar.member_cells (named structs)) members)

abbrev pub is_length : ℕ → Bool
is_length n = nat_le 1 n && nat_le n 16777216

-- ---- by a table

abbrev pub type_cells : Table → ObjectType → ℕ
type_cells table of = grammar.cells_by (named (look table)) of

abbrev pub sum_of : Table → List CMember → ℕ
sum_of table members = sum_by (grammar.member_cells (named (look table))) members

abbrev pub capped_member : Table → CMember → ℕ
capped_member table m = member_cells (look table) m

abbrev pub capped_struct : Table → List CMember → ℕ
capped_struct table members = struct_cells (look table) members
