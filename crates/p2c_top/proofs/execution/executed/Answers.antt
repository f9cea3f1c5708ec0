use Rattle.std.proofs.Common.{ap, sym, subst, ◌∙◌}
use Rattle.p2c_top.specs.Answers.{IsEarly, IsMissing, RunAnswer}
use Rattle.p2c_top.specs.Executed.{outcome_of_run}
use Rattle.p2c_top.specs.declared.outcome.Outcome.{Outcome}
use Rattle.p2c_top.proofs.Executions.{device_faults, early_kept, input_failed, kept_input, kept_map, kept_written, never_missing, puts_before, run_answer, taken_only}
use Rattle.p2c_top.proofs.execution.executed.Goals as goal

pub returns-clause-answer : goal.returns-clause-answer
returns-clause-answer g c = λ told name whole.
    let r = c.run_text-answer in
    let old = g.O.Sink.written c.args.out.now in
    subst (λ o. RunAnswer told name c.args.steps (g.I.Source.left c.args.input.now) old (g.O.Sink.written r.new.out) o) (sym c.finished.ensures)
    (run_answer told name c.args.bytes.now c.args.steps (g.I.Source.left c.args.input.now) (g.I.Source.left r.new.input) old (g.O.Sink.written r.new.out) r.result whole r.ensures.ran r.ensures.status r.ensures.refused
    (kept_written c.args.input.now r.new.input c.args.out.now r.new.out g.O.Sink.written r.result r.ensures.untouched))

pub returns-clause-there : goal.returns-clause-there
returns-clause-there g c = λ m. never_missing c.run_text-answer.result (subst IsMissing c.finished.ensures m)

pub returns-clause-read_fault : goal.returns-clause-read_fault
returns-clause-read_fault g c = λ e.
    let r = c.run_text-answer in
    (device_faults _ _ _ _ r.result r.ensures.faults (kept_map c.args.input.now r.new.input c.args.out.now r.new.out g.I.Source.faults g.O.Sink.faults r.result r.ensures.untouched)).input (sym c.finished.ensures ∙ e)

pub returns-clause-write_fault : goal.returns-clause-write_fault
returns-clause-write_fault g c = λ e.
    let r = c.run_text-answer in
    (device_faults _ _ _ _ r.result r.ensures.faults (kept_map c.args.input.now r.new.input c.args.out.now r.new.out g.I.Source.faults g.O.Sink.faults r.result r.ensures.untouched)).output (sym c.finished.ensures ∙ e)

pub returns-clause-no_input_fault : goal.returns-clause-no_input_fault
returns-clause-no_input_fault g c = λ x.
    let r = c.run_text-answer in
    (device_faults _ _ _ _ r.result r.ensures.faults (kept_map c.args.input.now r.new.input c.args.out.now r.new.out g.I.Source.faults g.O.Sink.faults r.result r.ensures.untouched)).no_input (λ e. x (c.finished.ensures ∙ e))

pub returns-clause-no_write_fault : goal.returns-clause-no_write_fault
returns-clause-no_write_fault g c = λ x.
    let r = c.run_text-answer in
    (device_faults _ _ _ _ r.result r.ensures.faults (kept_map c.args.input.now r.new.input c.args.out.now r.new.out g.I.Source.faults g.O.Sink.faults r.result r.ensures.untouched)).no_output (λ e. x (c.finished.ensures ∙ e))

pub returns-clause-early : goal.returns-clause-early
returns-clause-early g c = λ e.
    let r = c.run_text-answer in
    early_kept c.args.input.now r.new.input c.args.out.now r.new.out r.result r.ensures.untouched (subst IsEarly c.finished.ensures e)

pub returns-clause-input_failed : goal.returns-clause-input_failed
returns-clause-input_failed g c = λ e.
    let r = c.run_text-answer in
    input_failed c.args.bytes.now c.args.steps (g.I.Source.left c.args.input.now) (g.I.Source.left r.new.input) (g.O.Sink.written c.args.out.now) (g.O.Sink.written r.new.out) r.result r.ensures.ran (sym c.finished.ensures ∙ e)

pub returns-clause-put_before : goal.returns-clause-put_before
returns-clause-put_before g c =
    let r = c.run_text-answer in
    puts_before c.args.bytes.now c.args.steps (g.I.Source.left c.args.input.now) (g.I.Source.left r.new.input) (g.O.Sink.written c.args.out.now) (g.O.Sink.written r.new.out) r.result r.ensures.ran
    (kept_input c.args.input.now r.new.input c.args.out.now r.new.out r.result r.ensures.untouched)

pub returns-clause-ahead : goal.returns-clause-ahead
returns-clause-ahead g c =
    let r = c.run_text-answer in
    taken_only c.args.bytes.now c.args.steps (g.I.Source.left c.args.input.now) (g.I.Source.left r.new.input) (g.O.Sink.written c.args.out.now) (g.O.Sink.written r.new.out) c.finished.result r.result c.finished.ensures r.ensures.ran
    (kept_input c.args.input.now r.new.input c.args.out.now r.new.out r.result r.ensures.untouched)
