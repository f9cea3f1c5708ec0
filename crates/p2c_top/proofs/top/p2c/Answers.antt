use Rattle.std.proofs.Common.{◌≡◌, subst, sym}
use Rattle.held_bytes.specs.Written.{Says}
use Rattle.p2c_top.specs.Executed.{MayTake}
use Rattle.p2c_top.specs.Messages.{message_of}
use Rattle.command_words.specs.Asked.{asked}
use Rattle.p2c_top.proofs.Translations.{says}
use Rattle.p2c_top.proofs.Clauses.{usage_of, asked_of, absent_of, refused_of, done_of, cut_of, ran_of, not_run_of, run_cut_of, run_part_of, run_fault_of, missing_of, read_fault_of, write_fault_of, none_missing_of, no_read_fault_of, no_input_fault_of, no_write_fault_of, complete_of, run_complete_of, early_of, untouched_of, same_message}
use Rattle.p2c_top.proofs.top.p2c.Goals as goal

pub returns-clause-usage : goal.returns-clause-usage
returns-clause-usage g c = usage_of (c.attempt-outcome.ensures.answers (asked c.args.words.now) c.asked-asked.ensures) c.status.ensures

pub returns-clause-asked : goal.returns-clause-asked
returns-clause-asked g c = asked_of (c.attempt-outcome.ensures.answers (asked c.args.words.now) c.asked-asked.ensures) c.status.ensures

pub returns-clause-absent : goal.returns-clause-absent
returns-clause-absent g c = absent_of (c.attempt-outcome.ensures.answers (asked c.args.words.now) c.asked-asked.ensures) c.status.ensures

pub returns-clause-refused : goal.returns-clause-refused
returns-clause-refused g c = refused_of (c.attempt-outcome.ensures.answers (asked c.args.words.now) c.asked-asked.ensures) c.status.ensures

pub returns-clause-done : goal.returns-clause-done
returns-clause-done g c = done_of (c.attempt-outcome.ensures.answers (asked c.args.words.now) c.asked-asked.ensures) c.status.ensures

pub returns-clause-cut : goal.returns-clause-cut
returns-clause-cut g c = cut_of (c.attempt-outcome.ensures.answers (asked c.args.words.now) c.asked-asked.ensures) c.status.ensures

pub returns-clause-ran : goal.returns-clause-ran
returns-clause-ran g c = ran_of (c.attempt-outcome.ensures.answers (asked c.args.words.now) c.asked-asked.ensures) c.status.ensures

pub returns-clause-not_run : goal.returns-clause-not_run
returns-clause-not_run g c = not_run_of (c.attempt-outcome.ensures.answers (asked c.args.words.now) c.asked-asked.ensures) c.status.ensures

pub returns-clause-run_cut : goal.returns-clause-run_cut
returns-clause-run_cut g c = run_cut_of (c.attempt-outcome.ensures.answers (asked c.args.words.now) c.asked-asked.ensures) c.status.ensures

pub returns-clause-run_part : goal.returns-clause-run_part
returns-clause-run_part g c = run_part_of (c.attempt-outcome.ensures.answers (asked c.args.words.now) c.asked-asked.ensures) c.status.ensures

pub returns-clause-run_fault : goal.returns-clause-run_fault
returns-clause-run_fault g c = run_fault_of (c.attempt-outcome.ensures.answers (asked c.args.words.now) c.asked-asked.ensures) c.status.ensures (c.attempt-outcome.ensures.of_input (asked c.args.words.now) c.asked-asked.ensures)

pub returns-clause-ahead : goal.returns-clause-ahead
returns-clause-ahead g c = λ steps name is.
    let same : Type 0 = c.attempt-outcome.new.input ≡ c.args.input.now in
    subst (λ status. MayTake same (g.F.Files.told c.args.files.now) name steps (g.I.Source.left c.args.input.now) (g.I.Source.left c.attempt-outcome.new.input) status) (sym c.status.ensures)
    ((c.attempt-outcome.ensures.of_input (asked c.args.words.now) c.asked-asked.ensures).few steps name is)

pub returns-clause-put_before : goal.returns-clause-put_before
returns-clause-put_before g c = (c.attempt-outcome.ensures.of_input (asked c.args.words.now) c.asked-asked.ensures).put

pub returns-clause-missing : goal.returns-clause-missing
returns-clause-missing g c = missing_of (c.attempt-outcome.ensures.answers (asked c.args.words.now) c.asked-asked.ensures) c.status.ensures (c.attempt-outcome.ensures.counts (asked c.args.words.now) c.asked-asked.ensures)

pub returns-clause-read_fault : goal.returns-clause-read_fault
returns-clause-read_fault g c = read_fault_of (c.attempt-outcome.ensures.answers (asked c.args.words.now) c.asked-asked.ensures) c.status.ensures (c.attempt-outcome.ensures.counts (asked c.args.words.now) c.asked-asked.ensures)

pub returns-clause-write_fault : goal.returns-clause-write_fault
returns-clause-write_fault g c = write_fault_of (c.attempt-outcome.ensures.answers (asked c.args.words.now) c.asked-asked.ensures) c.status.ensures (c.attempt-outcome.ensures.counts (asked c.args.words.now) c.asked-asked.ensures)

pub returns-clause-none_missing : goal.returns-clause-none_missing
returns-clause-none_missing g c = none_missing_of c.status.ensures (c.attempt-outcome.ensures.counts (asked c.args.words.now) c.asked-asked.ensures)

pub returns-clause-no_read_fault : goal.returns-clause-no_read_fault
returns-clause-no_read_fault g c = no_read_fault_of c.status.ensures (c.attempt-outcome.ensures.counts (asked c.args.words.now) c.asked-asked.ensures)

pub returns-clause-no_input_fault : goal.returns-clause-no_input_fault
returns-clause-no_input_fault g c = no_input_fault_of c.status.ensures (c.attempt-outcome.ensures.counts (asked c.args.words.now) c.asked-asked.ensures)

pub returns-clause-no_write_fault : goal.returns-clause-no_write_fault
returns-clause-no_write_fault g c = no_write_fault_of c.status.ensures (c.attempt-outcome.ensures.counts (asked c.args.words.now) c.asked-asked.ensures)

pub returns-clause-complete : goal.returns-clause-complete
returns-clause-complete g c = complete_of c.args.words.now (c.attempt-outcome.ensures.answers (asked c.args.words.now) c.asked-asked.ensures) c.status.ensures (c.attempt-outcome.ensures.counts (asked c.args.words.now) c.asked-asked.ensures)

pub returns-clause-run_complete : goal.returns-clause-run_complete
returns-clause-run_complete g c = run_complete_of c.args.words.now (c.attempt-outcome.ensures.answers (asked c.args.words.now) c.asked-asked.ensures) c.status.ensures (c.attempt-outcome.ensures.counts (asked c.args.words.now) c.asked-asked.ensures)

pub returns-clause-early : goal.returns-clause-early
returns-clause-early g c = early_of (c.attempt-outcome.ensures.answers (asked c.args.words.now) c.asked-asked.ensures) c.status.ensures (c.attempt-outcome.ensures.stays (asked c.args.words.now) c.asked-asked.ensures)

pub returns-clause-untouched : goal.returns-clause-untouched
returns-clause-untouched g c = untouched_of c.status.ensures (c.attempt-outcome.ensures.stays (asked c.args.words.now) c.asked-asked.ensures)

pub returns-clause-input : goal.returns-clause-input
returns-clause-input g c = (c.attempt-outcome.ensures.stays (asked c.args.words.now) c.asked-asked.ensures).same_input

pub returns-clause-message : goal.returns-clause-message
returns-clause-message g c =
    let words = c.args.words.now in
    let o = c.attempt-outcome.result in
    let name = c.name_or_nothing.result.now in
    let old = g.E.Sink.written c.args.err.now in
    let new = g.E.Sink.written c.report.new.sink in
    let faults = g.E.Sink.faults c.args.err.now in
    let faults' = g.E.Sink.faults c.report.new.sink in
    let same = same_message c.asked-asked.result words o c.file.result name c.asked-asked.ensures c.file.ensures c.name_or_nothing.ensures c.attempt-outcome.ensures.wanting in (
      o,
      c.status.ensures,
      (c.attempt-outcome.ensures.answers (asked words) c.asked-asked.ensures).says,
      subst (λ text. Says old new faults faults' text) same (says old new faults faults' (message_of o name) c.report.result c.report.ensures.whole c.report.ensures.part c.report.ensures.fault),
    )
