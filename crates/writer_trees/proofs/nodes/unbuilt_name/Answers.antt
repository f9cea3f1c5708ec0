use Rattle.std.proofs.Common.{sym, ◌∙◌}
use Rattle.writer_trees.proofs.Firsts.{names_next, names_found, names_none}
use Rattle.writer_trees.proofs.nodes.unbuilt_name.Goals as goal

pub loop-name-init : goal.loop-name-init
loop-name-init c = λ d o f. f

pub loop-name-preserved : goal.loop-name-preserved
loop-name-preserved c =
    names_next c.args.names.now c.loop-name.rest.now c.in-Some.after.now c.in-Some.name.now c.loop-name.invariant c.in-Some.ensures.cases.0 (sym c.is_standard.ensures ∙ c.if-is_standard.true)

pub returns-else-is_standard : goal.returns-else-is_standard
returns-else-is_standard c =
    names_found c.args.names.now c.loop-name.rest.now c.in-Some.after.now c.in-Some.name.now c.loop-name.invariant c.in-Some.ensures.cases.0 (sym c.is_standard.ensures ∙ c.if-is_standard.false)

pub returns : goal.returns
returns c = names_none c.args.names.now c.loop-name.rest.now c.loop-name.invariant c.in_default.ensures.cases
