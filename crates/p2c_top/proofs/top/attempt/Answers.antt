use Rattle.std.proofs.Common.{ap, sym, subst, ◌∙◌, ◌≡◌, inr, option_map, refl}
use Rattle.p2c_outside.specs.Counts.{Rose}
use Rattle.p2c_top.specs.Answers.{Answer, Counts, RunInput, Stays}
use Rattle.p2c_top.specs.Words.{Finds, task_of}
use Rattle.command_words.specs.Asked.{seen}
use Rattle.std.specs.Prelude.{option_and_then}
use Rattle.p2c_top.specs.declared.outcome.Outcome.TheVariants.{Usage, OutOfMemory}
use Rattle.p2c_top.proofs.Clauses.{memory_answer, still_counts, still_stays, no_run_input}
use Rattle.p2c_top.proofs.top.attempt.Goals as goal

pub returns-in-Ok-Some-clause-answers : goal.returns-in-Ok-Some-clause-answers
returns-in-Ok-Some-clause-answers g c = λ what found.
    subst (λ t. Answer (g.F.Files.told c.args.files.now) t (g.I.Source.left c.args.input.now) (g.O.Sink.written c.args.out.now) (g.O.Sink.written c.perform.new.out) c.perform.result)
    (ap (option_and_then task_of) (sym (ap (option_map seen) (rw c.in-Ok-Some.is at c.in-Ok-Some.field-0-is)) ∙ subst (λ a. Finds a what) c.in-Ok-Some.is found)) c.perform.ensures.answers

pub returns-in-Ok-Some-clause-counts : goal.returns-in-Ok-Some-clause-counts
returns-in-Ok-Some-clause-counts g c = λ what found.
    subst (λ t. Counts t (g.F.Files.missing c.args.files.now) (g.F.Files.missing c.perform.new.files) (g.F.Files.faults c.args.files.now) (g.F.Files.faults c.perform.new.files)
    (g.I.Source.faults c.args.input.now) (g.I.Source.faults c.perform.new.input) (g.O.Sink.faults c.args.out.now) (g.O.Sink.faults c.perform.new.out) c.perform.result)
    (ap (option_and_then task_of) (sym (ap (option_map seen) (rw c.in-Ok-Some.is at c.in-Ok-Some.field-0-is)) ∙ subst (λ a. Finds a what) c.in-Ok-Some.is found)) c.perform.ensures.counts

pub returns-in-Ok-Some-clause-stays : goal.returns-in-Ok-Some-clause-stays
returns-in-Ok-Some-clause-stays g c = λ what found.
    subst (λ t. Stays t c.args.input.now c.perform.new.input c.args.out.now c.perform.new.out c.perform.result)
    (ap (option_and_then task_of) (sym (ap (option_map seen) (rw c.in-Ok-Some.is at c.in-Ok-Some.field-0-is)) ∙ subst (λ a. Finds a what) c.in-Ok-Some.is found)) c.perform.ensures.stays

pub returns-in-Ok-None-clause-answers : goal.returns-in-Ok-None-clause-answers
returns-in-Ok-None-clause-answers g c = λ what found.
    let old = g.O.Sink.written c.args.out.now in
    subst (λ t. Answer (g.F.Files.told c.args.files.now) t (g.I.Source.left c.args.input.now) old old Usage)
    (ap (option_and_then task_of) (sym (ap (option_map seen) (rw c.in-Ok-None.is at c.in-Ok-None.field-0-is)) ∙ subst (λ a. Finds a what) c.in-Ok-None.is found)) (record { says = tt })

pub returns-in-Ok-None-clause-counts : goal.returns-in-Ok-None-clause-counts
returns-in-Ok-None-clause-counts g c = λ what found. still_counts (option_and_then task_of what) _ _ _ _ Usage (λ m. m) (λ e. absurd cc) (λ e. absurd cc)

pub returns-in-Ok-None-clause-stays : goal.returns-in-Ok-None-clause-stays
returns-in-Ok-None-clause-stays g c = λ what found. still_stays (option_and_then task_of what) _ _ Usage

pub returns-in-Err-clause-answers : goal.returns-in-Err-clause-answers
returns-in-Err-clause-answers g c = λ what found. record { says = memory_answer (g.F.Files.told c.args.files.now) (option_and_then task_of what) (g.I.Source.left c.args.input.now) (g.O.Sink.written c.args.out.now) }

pub returns-in-Err-clause-counts : goal.returns-in-Err-clause-counts
returns-in-Err-clause-counts g c = λ what found. still_counts (option_and_then task_of what) _ _ _ _ OutOfMemory (λ m. m) (λ e. absurd cc) (λ e. absurd cc)

pub returns-in-Err-clause-stays : goal.returns-in-Err-clause-stays
returns-in-Err-clause-stays g c = λ what found. still_stays (option_and_then task_of what) _ _ OutOfMemory

pub returns-in-Ok-Some-clause-of_input : goal.returns-in-Ok-Some-clause-of_input
returns-in-Ok-Some-clause-of_input g c = λ what found.
    subst (λ t. RunInput t (Rose (g.F.Files.faults c.args.files.now) (g.F.Files.faults c.perform.new.files)) (Rose (g.I.Source.faults c.args.input.now) (g.I.Source.faults c.perform.new.input))
    ((c.perform.new.input ≡ c.args.input.now) × (c.perform.new.out ≡ c.args.out.now)) (c.perform.new.input ≡ c.args.input.now)
    (g.F.Files.told c.args.files.now) (g.I.Source.left c.args.input.now) (g.I.Source.left c.perform.new.input) (g.O.Sink.written c.args.out.now) (g.O.Sink.written c.perform.new.out) c.perform.result)
    (ap (option_and_then task_of) (sym (ap (option_map seen) (rw c.in-Ok-Some.is at c.in-Ok-Some.field-0-is)) ∙ subst (λ a. Finds a what) c.in-Ok-Some.is found)) c.perform.ensures.of_input

pub returns-in-Ok-None-clause-of_input : goal.returns-in-Ok-None-clause-of_input
returns-in-Ok-None-clause-of_input g c = λ what found. no_run_input _ (option_and_then task_of what) _ _ _ _ Usage (inr (λ e. absurd cc)) refl

pub returns-in-Err-clause-of_input : goal.returns-in-Err-clause-of_input
returns-in-Err-clause-of_input g c = λ what found. no_run_input _ (option_and_then task_of what) _ _ _ _ OutOfMemory (inr (λ e. absurd cc)) refl
