use Rattle.std.proofs.Common.{◌≡◌, ◌<◌, ◌+◌, ℕ, List, [], ◌∷◌, length, sym, ◌∙◌, arith}
use Rattle.c_tree.specs.declared.program.CMember.{CMember}
use Rattle.c_conditions.specs.declared.table.Table.{Table}
use Rattle.c_conditions.specs.Cells.{capped, sum_of}
use Rattle.c_conditions.proofs.declaration.struct_cells.Goals as goal

at_end : (table : Table) (rest members : List CMember) (cells : ℕ) → length rest < 1 → cells < 18446744073709551616 → capped (sum_of table members) ≡ capped (cells + sum_of table rest) → cells ≡ capped (sum_of table members)
at_end table [] members cells h small e = sym (e ∙ same cells small)
  where
    same : (cells : ℕ) → cells < 18446744073709551616 → capped (cells + 0) ≡ cells
    same cells small = omega arith
at_end table (m ∷ rest) members cells h small e = absurd (omega arith)

pub returns : goal.returns
returns c =
    let i = c.loop-rest.invariant in
    let ended : length c.loop-rest.rest.now < 1 = omega arith in
    at_end c.args.structs.now c.loop-rest.rest.now c.args.members.now c.loop-rest.cells ended i.small i.value
