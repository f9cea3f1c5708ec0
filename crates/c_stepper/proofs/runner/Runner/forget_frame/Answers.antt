use Rattle.std.proofs.Common.{◌≡◌, ◌+◌, ◌++◌, ◌∙◌, ap, List, length, arith}
use Rattle.std.proofs.lemmas.List.{length-append}
use Rattle.c_tree.specs.Tree.{Statement}
use Rattle.c_tree.specs.declared.program.CVariable.{CVariable}
use Rattle.c_meaning.specs.Cells.{Blocks}
use Rattle.c_stepper.specs.Runners.{variables_at}
use Rattle.c_stepper.proofs.Leaving.{variables_gone}
use Rattle.c_stepper.proofs.runner.Runner.forget_frame.Goals as goal

pub returns : goal.returns
returns c =
    let old = c.args.self.now in
    let ps = c.written_text-text.result.parameters.now in
    let ls = c.written_text-text.result.locals.now in
    let vars = variables_at c.args.program.now old.frame in
    let same : ps ++ ls ≡ vars = ap (λ (x : List CVariable × List CVariable × List Statement). x.0 ++ x.1) c.written_text-text.ensures in
    let count : length ps + length ls ≡ length vars = let both : length (ps ++ ls) ≡ length ps + length ls = length-append ps ls in let one : length (ps ++ ls) ≡ length vars = ap length same in omega (arith, both, one) in
    let gone = c.end.ensures ∙ variables_gone vars old.frame.base (length ps + length ls) old.memory count in
    ap (λ (m : Blocks). record old { memory = m }) gone
