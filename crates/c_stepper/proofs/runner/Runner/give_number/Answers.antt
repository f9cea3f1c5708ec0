use Rattle.std.proofs.Common.{◌≡◌, subst, w64, to_z, of_z, arith}
use Rattle.std.proofs.lemmas.Int.{ints}
use Rattle.std.specs.Prelude.{ℤ}
use Rattle.c_stepper.specs.QuickReturns.{GivesNumber}
use Rattle.c_stepper.proofs.QuickReturning.{returns, fits_left, return_reads_not}
use Rattle.c_stepper.proofs.runner.Runner.give_number.Goals as goal

pub returns-in-Some-clause-act : goal.returns-in-Some-clause-act
returns-in-Some-clause-act c = λ left input output calls.
    let old = c.args.self.now in
    let z = c.args.z in
    let same : z ≡ to_z w64 (of_z w64 z) = grind (arith, ints) in
    returns c.args.program.now old c.leave_number.new.self c.in-Some.number _ (c.leave_number.ensures.leaves left) c.in-Some.ensures.below c.in-Some.ensures.target (c.gives_int.ensures c.if-not-gives_int.false) (subst (λ (y : ℤ). GivesNumber old.guide old.frame old.memory y) same c.requires.gives) c.requires.fits input output calls

pub returns-in-Some-clause-fits : goal.returns-in-Some-clause-fits
returns-in-Some-clause-fits c = λ left. fits_left c.args.program.now c.args.self.now c.leave_number.new.self c.in-Some.number _ (c.leave_number.ensures.leaves left) c.requires.fits

pub returns-in-Some-clause-reads_not : goal.returns-in-Some-clause-reads_not
returns-in-Some-clause-reads_not c = λ left. return_reads_not c.args.self.now.guide c.args.self.now.frame c.args.self.now.memory c.args.z c.requires.gives
