use Rattle.std.proofs.Common.{◌≡◌, ◌++◌, ◌∙◌, rules}
use Rattle.c_meaning.specs.Cells.{Blocks}
use Rattle.c_cells.proofs.memory.Memory.append.Goals as goal

pub returns-in_err-push_slot-clause-err : goal.returns-in_err-push_slot-clause-err
returns-in_err-push_slot-clause-err c =
    let made : (more : Blocks) × (c.push_slot.new.self ≡ c.args.self.now ++ more) = (c.loop-slot.yielded, c.in_err-push_slot.ensures.err ∙ c.loop-slot.invariant) in
    search (rules, made)
