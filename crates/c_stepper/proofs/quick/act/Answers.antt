use Rattle.c_stepper.proofs.Quickly.{stores, tests, choices, store_moves, test_moves, choice_moves}
use Rattle.c_stepper.proofs.quick.act.Goals as goal

pub returns-in-Store-clause-does : goal.returns-in-Store-clause-does
returns-in-Store-clause-does c = λ guide here. stores guide c.args.frame.now c.store.new.frame c.args.memory.now c.store.new.memory c.args.node.now c.in-Store.variable c.in-Store.number c.store.result c.in-Store.is c.store.ensures here

pub returns-in-Store-clause-moves : goal.returns-in-Store-clause-moves
returns-in-Store-clause-moves c = store_moves c.args.frame.now c.store.new.frame c.args.memory.now c.store.new.memory c.in-Store.variable c.in-Store.number c.store.result c.store.ensures

pub returns-in-Test-clause-does : goal.returns-in-Test-clause-does
returns-in-Test-clause-does c = λ guide here. tests guide c.args.frame.now c.test.new.frame c.args.memory.now c.args.node.now c.in-Test.number c.test.result c.in-Test.is c.test.ensures here

pub returns-in-Test-clause-moves : goal.returns-in-Test-clause-moves
returns-in-Test-clause-moves c = test_moves c.args.frame.now c.test.new.frame c.args.memory.now c.in-Test.number c.test.result c.test.ensures

pub returns-in-Choose-clause-does : goal.returns-in-Choose-clause-does
returns-in-Choose-clause-does c = λ guide here. choices guide c.args.frame.now c.choose.new.frame c.args.memory.now c.args.node.now c.in-Choose.number c.choose.result c.in-Choose.is c.choose.ensures here

pub returns-in-Choose-clause-moves : goal.returns-in-Choose-clause-moves
returns-in-Choose-clause-moves c = choice_moves c.args.frame.now c.choose.new.frame c.args.memory.now c.in-Choose.number c.choose.result c.choose.ensures
