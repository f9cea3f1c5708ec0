use Rattle.std.proofs.Common.{◌≡◌, ◌+◌, ◌∙◌, ◌∷◌, ◌++◌, [], Option, Some, sym, ap, length, reverse, arith, List}
use Rattle.std.proofs.lemmas.List.{length-append}
use Rattle.std.specs.Prelude.{Bool, true, false}
use Rattle.c_tree.specs.declared.program.CVariable.{CVariable}
use Rattle.c_meaning.specs.Cells.{Blocks, Block}
use Rattle.c_meaning.specs.Steps.{parameter_blocks}
use Rattle.c_meaning.specs.Values as w
use Rattle.c_evaluation.specs.declared.value.Value.{Value}
use Rattle.c_evaluation.specs.Values.{value_of, values_of}
use Rattle.c_stepper.specs.Calls.{parameter_block}
use Rattle.c_stepper.proofs.Calling.{with_blocks, blocks_whole, block_next, block_none, too_few, too_many, just_so, cons_of, tail_of, no_items, values_pop, values_some, length_of, exit_by}
use Rattle.c_stepper.proofs.call.blocks_from.Goals as goal

pub loop-rest-init : goal.loop-rest-init
loop-rest-init c =
    let ds = c.args.scope.now.program.now.declarations in
    let qs = c.args.parameters.now in
    let xs = reverse (values_of c.args.values) in
    record {
      same = ap (λ (b : Blocks). with_blocks ds b qs xs) c.new-blocks.ensures ∙ blocks_whole ds qs xs;
      length = let none : length c.new-blocks.result ≡ 0 = ap length c.new-blocks.ensures in omega (arith, none);
    }

pub returns-in_default-pop-clause-value : goal.returns-in_default-pop-clause-value
returns-in_default-pop-clause-value c =
    let ds = c.args.scope.now.program.now.declarations in
    let done : Blocks = c.loop-rest.blocks in
    let rest = c.loop-rest.rest.now in
    let q = c.first-item.result in
    let split : rest ≡ q ∷ tail_of rest = cons_of rest q (omega arith) c.first-item.is in
    let none : c.loop-rest.left ≡ [] = c.in_default-pop.ensures.0 in
    sym (too_few ds done q (tail_of rest)) ∙ ap (λ (l : List Value). with_blocks ds done (q ∷ tail_of rest) (reverse (values_of l))) (sym none) ∙ ap (λ (qs : List CVariable). with_blocks ds done qs (reverse (values_of c.loop-rest.left))) (sym split) ∙ c.loop-rest.invariant.same

pub returns-in_err-block-clause-value : goal.returns-in_err-block-clause-value
returns-in_err-block-clause-value c =
    let ds = c.args.scope.now.program.now.declarations in
    let done : Blocks = c.loop-rest.blocks in
    let rest = c.loop-rest.rest.now in
    let q = c.first-item.result in
    let x = c.in-Some.value in
    let split : rest ≡ q ∷ tail_of rest = cons_of rest q (omega arith) c.first-item.is in
    let popped : reverse (values_of c.loop-rest.left) ≡ value_of x ∷ reverse (values_of c.pop.new.self) = ap (λ (l : List Value). reverse (values_of l)) c.in-Some.ensures ∙ values_pop c.pop.new.self x in
    exit_by (λ (b : Block). b) (λ (b : Blocks). b) c.in_err-block.field-0.0 c.from_residual.result (parameter_block ds q (value_of x)) (parameter_blocks ds c.args.parameters.now (reverse (values_of c.args.values))) c.from_residual.ensures.1 c.in_err-block.ensures
    (λ kind h. block_none ds done q (tail_of rest) (value_of x) (reverse (values_of c.pop.new.self)) kind h
    ∙ ap (λ (xs : List w.Value). with_blocks ds done (q ∷ tail_of rest) xs) (sym popped) ∙ ap (λ (qs : List CVariable). with_blocks ds done qs (reverse (values_of c.loop-rest.left))) (sym split) ∙ c.loop-rest.invariant.same)

pub loop-rest-preserved : goal.loop-rest-preserved
loop-rest-preserved c =
    let ds = c.args.scope.now.program.now.declarations in
    let done : Blocks = c.loop-rest.blocks in
    let rest = c.loop-rest.rest.now in
    let q = c.first-item.result in
    let x = c.in-Some.value in
    let b : Block = c.in_ok-block.block in
    let left = reverse (values_of c.pop.new.self) in
    let pushed : c.push.new.self ≡ done ++ Some b ∷ [] = c.in_ok-push.ensures.ok ∙ ap (λ (o : Option Block). done ++ o ∷ []) c.in_ok-new.ensures in
    let split : rest ≡ q ∷ tail_of rest = cons_of rest q (omega arith) c.first-item.is in
    let popped : reverse (values_of c.loop-rest.left) ≡ value_of x ∷ left = ap (λ (l : List Value). reverse (values_of l)) c.in-Some.ensures ∙ values_pop c.pop.new.self x in
    record {
      same = ap (λ (bs : Blocks). with_blocks ds bs (tail_of rest) left) pushed
          ∙ sym (block_next ds done q (tail_of rest) (value_of x) left b c.in_ok-block.ensures)
          ∙ ap (λ (xs : List w.Value). with_blocks ds done (q ∷ tail_of rest) xs) (sym popped) ∙ ap (λ (qs : List CVariable). with_blocks ds done qs (reverse (values_of c.loop-rest.left))) (sym split) ∙ c.loop-rest.invariant.same;
      length =
          let more : length c.push.new.self ≡ length done + 1 = ap length pushed ∙ length-append done (Some b ∷ []) in
          let fewer = length_of rest q (tail_of rest) split in
          omega (arith, more, fewer, c.loop-rest.invariant.length);
    }

pub returns-then-is_empty-clause-value : goal.returns-then-is_empty-clause-value
returns-then-is_empty-clause-value c =
    let ds = c.args.scope.now.program.now.declarations in
    let done : Blocks = c.loop-rest.blocks in
    let rest = c.loop-rest.rest.now in
    let no_rest : rest ≡ [] = no_items rest (omega arith) in
    let none : c.loop-rest.left ≡ [] = c.is_empty.ensures.0 c.if-is_empty.true in
    sym (just_so ds done) ∙ ap (λ (l : List Value). with_blocks ds done [] (reverse (values_of l))) (sym none) ∙ ap (λ (qs : List CVariable). with_blocks ds done qs (reverse (values_of c.loop-rest.left))) (sym no_rest) ∙ c.loop-rest.invariant.same

pub returns-clause-value : goal.returns-clause-value
returns-clause-value c =
    let ds = c.args.scope.now.program.now.declarations in
    let done : Blocks = c.loop-rest.blocks in
    let rest = c.loop-rest.rest.now in
    let no_rest : rest ≡ [] = no_items rest (omega arith) in
    let some = values_some c.loop-rest.left (λ e. let h : ◌≡◌ {A = Bool} true false = sym (c.is_empty.ensures.1 e) ∙ c.if-is_empty.false in cc) in
    sym (too_many ds done some.0 some.1) ∙ ap (λ (xs : List w.Value). with_blocks ds done [] xs) (sym some.2) ∙ ap (λ (qs : List CVariable). with_blocks ds done qs (reverse (values_of c.loop-rest.left))) (sym no_rest) ∙ c.loop-rest.invariant.same
