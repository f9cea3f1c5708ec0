use Rattle.std.proofs.Common.{ap, sym, subst, ◌∙◌, Err, ◌≡◌, refl, inr}
use Rattle.p2c_outside.specs.Told.{WhereTold}
use Rattle.p2c_top.specs.Answers.{RunAnswer}
use Rattle.p2c_top.proofs.Executions.{of_file, refused_answer, refused_fails}
use Rattle.p2c_top.proofs.execution.execute.Goals as goal

pub returns-in-Err-clause-answer : goal.returns-in-Err-clause-answer
returns-in-Err-clause-answer g c =
    let old = g.O.Sink.written c.args.out.now in
    let input = g.I.Source.left c.args.input.now in
    let told = g.F.Files.told c.args.files.now in
    subst (λ o. RunAnswer told c.args.name.now c.args.steps input old old o) (sym c.refused.ensures)
    (refused_answer told c.args.name.now c.args.steps input old c.in-Err.refusal (λ e. c.read_whole.ensures.too_long (c.in-Err.is ∙ ap Err e)) (λ e. c.read_whole.ensures.absent (c.in-Err.is ∙ ap Err e)))

pub returns-clause-answer : goal.returns-clause-answer
returns-clause-answer g c =
    let told = g.F.Files.told c.args.files.now in
    c.executed.ensures.answer told c.args.name.now (subst (λ l. WhereTold told c.args.name.now (λ b. l ≡ b)) (sym c.deref.ensures.value) c.in-Ok.ensures.whole)

pub returns-in-Err-clause-read_fault : goal.returns-in-Err-clause-read_fault
returns-in-Err-clause-read_fault g c = λ e.
    let old = g.O.Sink.written c.args.out.now in
    refused_fails (g.F.Files.told c.args.files.now) c.args.name.now c.args.steps (g.I.Source.left c.args.input.now) (g.I.Source.left c.args.input.now) old old c.in-Err.refusal
    (λ f. c.read_whole.ensures.failed (c.in-Err.is ∙ ap Err f)) (refl, refl) (sym c.refused.ensures ∙ e)

pub returns-clause-read_fault : goal.returns-clause-read_fault
returns-clause-read_fault g c = λ e.
    let told = g.F.Files.told c.args.files.now in
    inr (
      c.executed.ensures.read_fault e,
      (
        c.deref.result.now,
        subst (λ l. WhereTold told c.args.name.now (λ b. l ≡ b)) (sym c.deref.ensures.value) c.in-Ok.ensures.whole,
        c.executed.ensures.input_failed e,
      ),
    )

pub returns-clause-put_before : goal.returns-clause-put_before
returns-clause-put_before g c =
    let told = g.F.Files.told c.args.files.now in
    of_file told c.args.name.now c.deref.result.now _ (subst (λ l. WhereTold told c.args.name.now (λ b. l ≡ b)) (sym c.deref.ensures.value) c.in-Ok.ensures.whole) c.executed.ensures.put_before

pub returns-clause-ahead : goal.returns-clause-ahead
returns-clause-ahead g c =
    let told = g.F.Files.told c.args.files.now in
    of_file told c.args.name.now c.deref.result.now _ (subst (λ l. WhereTold told c.args.name.now (λ b. l ≡ b)) (sym c.deref.ensures.value) c.in-Ok.ensures.whole) c.executed.ensures.ahead
