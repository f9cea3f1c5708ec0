use Rattle.std.proofs.Common.{◌≡◌, List, [], ℕ, Bor}
use Rattle.std.specs.Option.{is_some, unwrap_or}
use Rattle.std.specs.Ordering.{nat_cmp}
use Rattle.std.specs.Cmp.Lexicographic.{slice_cmp}
use Rattle.std.specs.BTreeMap.{is_at}
use Rattle.std.specs.Map.{lookup}
use Rattle.c_conditions.specs.Names.{look, empty, has_of, count_of}
use Rattle.c_conditions.specs.declared.table.Table.{Table}
use Rattle.c_conditions.proofs.table.Table.new.Goals as goal

looks : (t : Table) → t.entries.entries ≡ [] → look t ≡ empty
unfolding look
looks t e = λ i name. lookup (is_at (λ (k : Bor (List ℕ)). slice_cmp nat_cmp name k.now)) (e i)

pub returns-clause-look : goal.returns-clause-look
returns-clause-look c = looks (record { entries = c.new.result }) c.new.ensures.empty

pub returns-clause-has : goal.returns-clause-has
unfolding has_of
returns-clause-has c = λ i name. is_some (looks (record { entries = c.new.result }) c.new.ensures.empty i name)

pub returns-clause-count : goal.returns-clause-count
unfolding count_of
returns-clause-count c = λ i name. unwrap_or (looks (record { entries = c.new.result }) c.new.ensures.empty i name) 0
