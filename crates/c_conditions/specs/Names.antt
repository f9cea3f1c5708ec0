-- What a table tells of each name.
use Rattle.std.specs.Prelude.{ℕ, ◌+◌, ◌-◌, Bool, false, ◌||◌, if◌then◌else◌, List, Option, None}
use Rattle.std.specs.Str.{bytes_eq}
use Rattle.std.specs.Option.{is_some, unwrap_or}
use Rattle.std.specs.Ordering.{nat_cmp}
use Rattle.std.specs.Cmp.Lexicographic.{slice_cmp}
use Rattle.std.specs.BTreeMap as tree
use Rattle.c_conditions.specs.declared.table.Table.{Table}

abbrev pub Numbers : Type 0
Numbers = List ℕ → Option ℕ

abbrev pub empty : Numbers
empty name = None

abbrev pub none : List ℕ → Bool
none name = false

abbrev pub zero : List ℕ → ℕ
zero name = 0

-- the number that a name has
unfoldable pub look : Table → Numbers
look table name = tree.get_by (λ k. slice_cmp nat_cmp name k.now) table.entries

-- whether it has one
unfoldable pub has_of : Table → List ℕ → Bool
has_of table name = is_some (look table name)

-- the number, or 0
unfoldable pub count_of : Table → List ℕ → ℕ
count_of table name = unwrap_or (look table name) 0

-- ---- changes

abbrev pub with_name : List ℕ → (List ℕ → Bool) → List ℕ → Bool
with_name added has name = bytes_eq added name || has name

abbrev pub raised : List ℕ → (List ℕ → ℕ) → List ℕ → ℕ
raised label count name = if bytes_eq label name then count label + 1 else count name

abbrev pub lowered : List ℕ → (List ℕ → ℕ) → List ℕ → ℕ
lowered label count name = if bytes_eq label name then count label - 1 else count name
