use Rattle.std.proofs.Common.{◌≡◌, ◌≢◌, ◌+◌, ◌≤◌, ◌∙◌, refl, sym, subst, arith, List, ℕ, Option, Some, Bool, true, false, inl}
use Rattle.p2c_outside.specs.Counts.{Rose}
use Rattle.p2c_outside.specs.Told.{Gains}
use Rattle.c_machine.specs.Machines.{Ran, RunFaults, TakesFew, HasStatus, ended_by}
use Rattle.c_machine.specs.declared.machine.Stepped.TheVariants as s
use Rattle.c_machine.specs.declared.machine.Ended as e
use Rattle.c_machine.specs.declared.machine.Ended.TheVariants as ended
use Rattle.c_machine.proofs.Statuses.{taken_few}
use Rattle.c_machine.proofs.Running.{Along, along_at_start, along, dashed_along, ends_run, takes_few, put_before_taken, last_put, last_few, last_put_before, faults_of, spent_faults}
use Rattle.c_machine.proofs.machine.run_from.Goals as goal

pub loop-left-init : goal.loop-left-init
loop-left-init g c =
    let p = c.args.program.now in
    let m = c.args.machine in
    let w = g.O.Sink.written c.args.out.now in
    let b = c.requires.begins in
    record {
      is_for = c.requires.is_for;
      going = b.going;
      taken = let t = b.taken in omega (arith, t);
      end = λ h. absurd (let k : ◌≡◌ {A = Bool} true false = sym h ∙ b.input in cc);
      along = λ bytes is. subst (λ (o : Option (List ℕ)). Along p bytes m o w w) (sym is) (along_at_start p bytes m w b);
      put = λ bytes is. inl is;
      no_input = refl;
      no_output = refl;
    }

pub loop-left-preserved : goal.loop-left-preserved
loop-left-preserved g c =
    let p = c.args.program.now in
    let old = c.loop-left.machine in
    let mid = c.dash-dashed.new.self in
    let new = c.next_step.new.self in
    let i = c.loop-left.invariant in
    let d = c.dash-dashed.ensures.dashes in
    let told = c.in-Going.ensures in
    let more : new.taken ≡ mid.taken + 1 = told.taken in
    let w = g.O.Sink.written c.args.out.now in
    let w1 = g.O.Sink.written c.loop-left.out in
    let left = g.I.Source.left c.loop-left.input in
    record {
      is_for = told.is_for;
      going = told.over.going refl ∙ d.over ∙ i.going;
      taken = omega (arith, more, d.taken, i.taken, c.loop-left-test.true, c.dash-dashed.ensures.most);
      end = told.end;
      along = λ bytes is.
          along p bytes mid new left (g.I.Source.left c.next_step.new.input) w w1 (g.O.Sink.written c.next_step.new.out) s.Going (dashed_along p bytes old mid c.dash-dashed.result.taken left w w1 (i.along bytes is) d) told.takes more refl;
      put = λ bytes is.
          put_before_taken p bytes mid new left (g.I.Source.left c.next_step.new.input) w w1 (g.O.Sink.written c.next_step.new.out) s.Going (dashed_along p bytes old mid c.dash-dashed.result.taken left w w1 (i.along bytes is) d) told.takes
          c.args.steps (omega (arith, i.taken, d.taken, c.loop-left-test.true, c.dash-dashed.ensures.most)) (i.put bytes is);
      no_input = told.take_faults.none (λ e. cc) ∙ i.no_input;
      no_output = told.put_faults.none (λ e. cc) ∙ i.no_output;
    }

pub returns-in_default : goal.returns-in_default
returns-in_default g c =
    let p = c.args.program.now in
    let before = c.loop-left.machine in
    let old = c.dash-dashed.new.self in
    let new = c.next_step.new.self in
    let i = c.loop-left.invariant in
    let d = c.dash-dashed.ensures.dashes in
    let a = c.next_step.result in
    let told = c.next_step.ensures in
    let w = g.O.Sink.written c.args.out.now in
    let w1 = g.O.Sink.written c.loop-left.out in
    let w2 = g.O.Sink.written c.next_step.new.out in
    let left0 = g.I.Source.left c.loop-left.input in
    let left1 = g.I.Source.left c.next_step.new.input in
    let gives = c.last_answer.ensures in
    let same = c.in_default.answer-is in
    let last : c.last_answer.result ≡ ended_by new.calls a = cc in
    let n : a ≢ s.Going = c.in_default.not-Going in
    let within : old.taken + 1 ≤ c.args.steps = omega (arith, d.taken, i.taken, c.loop-left-test.true, c.dash-dashed.ensures.most) in
    let stands : (bytes : List ℕ) → g.I.Source.left c.args.input.now ≡ Some bytes → Along p bytes old left0 w w1 = λ bytes is. dashed_along p bytes before old c.dash-dashed.result.taken left0 w w1 (i.along bytes is) d in
    record {
      ran = λ bytes is.
          subst (λ (r : e.Ended). Ran p bytes left1 c.args.steps w w2 r) (sym last)
          (ends_run p bytes old new left0 left1 w w1 w2 a (stands bytes is) told.takes told.end c.args.steps within n);
      ahead = λ bytes is.
          subst (λ (r : e.Ended). TakesFew p bytes left1 c.args.steps r) (sym last)
          (takes_few p bytes old new left0 left1 w w1 w2 a (stands bytes is) told.takes told.end c.args.steps within n);
      put = λ bytes is. put_before_taken p bytes old new left0 left1 w w1 w2 a (stands bytes is) told.takes c.args.steps within (i.put bytes is);
      faults =
          subst (λ (t : ℕ). RunFaults t (g.I.Source.faults c.next_step.new.input) (g.O.Sink.faults c.args.out.now) (g.O.Sink.faults c.next_step.new.out) c.last_answer.result) i.no_input
          (subst (λ (t : ℕ). RunFaults (g.I.Source.faults c.loop-left.input) (g.I.Source.faults c.next_step.new.input) t (g.O.Sink.faults c.next_step.new.out) c.last_answer.result) i.no_output
          (subst (λ (r : e.Ended). RunFaults (g.I.Source.faults c.loop-left.input) (g.I.Source.faults c.next_step.new.input) (g.O.Sink.faults c.loop-left.out) (g.O.Sink.faults c.next_step.new.out) r) (sym last)
          (faults_of new.calls a (g.I.Source.faults c.loop-left.input) (g.I.Source.faults c.next_step.new.input) (g.O.Sink.faults c.loop-left.out) (g.O.Sink.faults c.next_step.new.out) told.take_faults told.put_faults)));
      status = subst HasStatus (sym last) (taken_few p old new left0 left1 w1 w2 a new.calls told.takes);
    }

pub returns-clause-ran : goal.returns-clause-ran
returns-clause-ran g c = λ bytes is.
    let p = c.args.program.now in
    let old = c.loop-left.machine in
    let i = c.loop-left.invariant in
    let left = g.I.Source.left c.loop-left.input in
    let w = g.O.Sink.written c.args.out.now in
    let w1 = g.O.Sink.written c.loop-left.out in
    let w2 = g.O.Sink.written c.spend.new.out in
    let done : old.taken ≡ c.args.steps = omega (arith, i.taken, c.loop-left-test.false) in
    let same : Type 0 = g.O.Sink.faults c.spend.new.out ≡ g.O.Sink.faults c.loop-left.out in
    let rose : Type 0 = Rose (g.O.Sink.faults c.loop-left.out) (g.O.Sink.faults c.spend.new.out) in
    subst (λ (n : ℕ). Ran p bytes left n w w2 c.spend.result) done
    (last_put p bytes old left w w1 w2 (i.along bytes is) i.end left same rose c.spend.result c.spend.ensures.whole c.spend.ensures.part)

pub returns-clause-ahead : goal.returns-clause-ahead
returns-clause-ahead g c = λ bytes is.
    let p = c.args.program.now in
    let old = c.loop-left.machine in
    let i = c.loop-left.invariant in
    let left = g.I.Source.left c.loop-left.input in
    let w1 = g.O.Sink.written c.loop-left.out in
    let w2 = g.O.Sink.written c.spend.new.out in
    let done : old.taken ≡ c.args.steps = omega (arith, i.taken, c.loop-left-test.false) in
    let put : Type 0 = Gains w1 w2 old.output.bytes.items in
    let same : Type 0 = g.O.Sink.faults c.spend.new.out ≡ g.O.Sink.faults c.loop-left.out in
    subst (λ (n : ℕ). TakesFew p bytes left n c.spend.result) done
    (last_few p bytes old left (g.O.Sink.written c.args.out.now) w1 w2 (i.along bytes is) i.end put same c.spend.result c.spend.ensures.whole (i.is_for.ahead i.going))

pub returns-clause-put : goal.returns-clause-put
returns-clause-put g c = λ bytes is.
    let p = c.args.program.now in
    let old = c.loop-left.machine in
    let i = c.loop-left.invariant in
    let left = g.I.Source.left c.loop-left.input in
    let w1 = g.O.Sink.written c.loop-left.out in
    let w2 = g.O.Sink.written c.spend.new.out in
    let spent : Type 0 = c.spend.result ≡ ended.Spent in
    let same : Type 0 = g.O.Sink.faults c.spend.new.out ≡ g.O.Sink.faults c.loop-left.out in
    let rose : Type 0 = Rose (g.O.Sink.faults c.loop-left.out) (g.O.Sink.faults c.spend.new.out) in
    last_put_before p bytes old left (g.O.Sink.written c.args.out.now) w1 w2 (i.along bytes is) i.end c.args.steps spent same rose c.spend.result c.spend.ensures.whole c.spend.ensures.part (i.put bytes is)

pub returns-clause-faults : goal.returns-clause-faults
returns-clause-faults g c =
    let i = c.loop-left.invariant in
    spent_faults (g.I.Source.faults c.args.input.now) (g.I.Source.faults c.loop-left.input) (g.O.Sink.faults c.args.out.now) (g.O.Sink.faults c.loop-left.out) (g.O.Sink.faults c.spend.new.out) c.spend.result
    i.no_input i.no_output c.spend.ensures.whole c.spend.ensures.part
