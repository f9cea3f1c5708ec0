-- What a run of a text answers.
use Rattle.std.proofs.Common.{◌≡◌, ◌≢◌, ℕ, ◌<◌, ◌≤◌, List, length, Option, Some, None, ◌⊎◌, inl, inr, refl, subst, ◌∙◌, ap, sym, arith, Result, Ok, Err, IfOk, IfErr}
use Rattle.c_meaning.specs.Runs.{CAnswer, CRun}
use Rattle.c_grammar.specs.declared.fault.CTextKind.{CTextKind}
use Rattle.c_reader.specs.Read.{IsFault, IsNoText}
use Rattle.c_reader.specs.declared.fault.CTextFault.{CTextFault}
use Rattle.c_reader.specs.declared.fault.CTextFault.TheVariants as fault
use Rattle.c_machine.specs.Machines.{RunFaults, HasStatus, told}
use Rattle.c_machine.specs.declared.machine.Ended as e
use Rattle.c_machine.specs.declared.machine.Ended.TheVariants as ended
use Rattle.p2c_outside.specs.Counts.{Rose}
use Rattle.p2c_outside.specs.Told.{Named, WhereTold, Gains}
use Rattle.run_core.specs.Answers.{IsRun}
use Rattle.p2c_top.specs.Answers.{RunAnswer, IsEarly, IsMissing}
use Rattle.p2c_top.specs.Executed.{Executes, ExecutesPart, InputFails, CutsOff, OfFile, PutsBefore, ReadFails, TakesOnly, ended_as, outcome_of_run}
use Rattle.p2c_top.specs.Messages.{status_of}
use Rattle.p2c_top.specs.Reading.{Lacks, outcome_of}
use Rattle.p2c_top.specs.declared.reading.ReadRefusal.{ReadRefusal}
use Rattle.p2c_top.specs.declared.reading.ReadRefusal.TheVariants as reading
use Rattle.p2c_top.specs.declared.outcome.Outcome.{Outcome}
use Rattle.p2c_top.specs.declared.outcome.Outcome.TheVariants.{Done, Ended, Usage, TooLong, BadSource, BadText, Missing, ReadFault, WriteFault, OutOfMemory, Spent, Stuck}
use Rattle.p2c_top.proofs.Translations.{told_more}

small_enough : (status : ℕ) → status < 210 → status ≤ 209
small_enough status h = omega (arith, h)

-- the answer of the runner, about the file that was read
pub run_answer : (files : Option Named) (name bytes : List ℕ) (steps : ℕ) (input left' old new : Option (List ℕ)) (a : Result e.Ended CTextFault)
    → WhereTold files name (λ b. bytes ≡ b) → IfOk a (IsRun bytes steps input left' old new) → IfOk a HasStatus → IfErr a (IsFault bytes) → IfErr a (λ f. new ≡ old)
    → RunAnswer files name steps input old new (outcome_of_run a)
run_answer files name bytes steps input left' old new (Ok (ended.Status status calls)) whole run few fails kept = (
  small_enough status few,
  (
    bytes,
    whole,
    record {
      program = run.program;
      text = run.text;
      ran = λ left is. let r = run.ran left is in (sym (ap ended_as r.2), subst (λ a. Gains old new (told a)) (sym r.2) r.4);
    },
  ),
)
run_answer files name bytes steps input left' old new (Ok ended.Spent) whole run few fails kept = (
  bytes,
  whole,
  record {
    program = run.program;
    text = run.text;
    ran = λ left is. let r = run.ran left is in (sym (ap ended_as r.2), subst (λ a. Gains old new (told a)) (sym r.2) r.3);
  },
)
run_answer files name bytes steps input left' old new (Ok (ended.Stuck kind)) whole run few fails kept = (
  bytes,
  whole,
  record {
    program = run.program;
    text = run.text;
    ran = λ left is. let r = run.ran left is in (sym (ap ended_as r.1), subst (λ a. Gains old new (told a)) (sym r.1) r.2);
  },
)
run_answer files name bytes steps input left' old new (Ok ended.InputFault) whole run few fails kept = tt
run_answer files name bytes steps input left' old new (Ok ended.OutputFault) whole run few fails kept = (
  bytes,
  whole,
  record {
    program = run.program;
    text = run.text;
    cut = run.ran;
  },
)
run_answer files name bytes steps input left' old new (Ok (ended.Memory error)) whole run few fails kept = inr (
  bytes,
  whole,
  record {
    program = run.program;
    text = run.text;
    ran = λ left is. let r = run.ran left is in (r.0.steps, r.0.within, subst (λ a. Gains old new (told a)) (sym r.0.is) r.1);
  },
)
run_answer files name bytes steps input left' old new (Err (fault.At kind line)) whole run few fails kept =
    told_more files name (λ b. bytes ≡ b) _ (λ b is. subst (λ s. IsNoText s kind line) is fails) whole
run_answer files name bytes steps input left' old new (Err (fault.Memory error)) whole run few fails kept = inl kept

-- a fault in reading is one of the input
pub input_failed : (bytes : List ℕ) (steps : ℕ) (input left' old new : Option (List ℕ)) (a : Result e.Ended CTextFault) → IfOk a (IsRun bytes steps input left' old new) → outcome_of_run a ≡ ReadFault
    → InputFails bytes steps input left' old new
input_failed bytes steps input left' old new (Ok ended.InputFault) run is = record { program = run.program; text = run.text; ran = run.ran }
input_failed bytes steps input left' old new (Ok (ended.Status status calls)) run is = absurd cc
input_failed bytes steps input left' old new (Ok ended.Spent) run is = absurd cc
input_failed bytes steps input left' old new (Ok (ended.Stuck kind)) run is = absurd cc
input_failed bytes steps input left' old new (Ok ended.OutputFault) run is = absurd cc
input_failed bytes steps input left' old new (Ok (ended.Memory error)) run is = absurd cc
input_failed bytes steps input left' old new (Err (fault.At kind line)) run is = absurd cc
input_failed bytes steps input left' old new (Err (fault.Memory error)) run is = absurd cc

-- where the text is run, few bytes are taken ahead
pub taken_only : {kept : Type 0} (bytes : List ℕ) (steps : ℕ) (input left' old new : Option (List ℕ)) (o : Outcome) (a : Result e.Ended CTextFault) → o ≡ outcome_of_run a
    → IfOk a (IsRun bytes steps input left' old new) → IfErr a (λ f. kept) → kept ⊎ TakesOnly bytes steps input left' (status_of o)
taken_only bytes steps input left' old new o (Ok ended) is run kept = inr (record { program = run.program; text = run.text; answer = ended; is = ap status_of is; few = run.ahead })
taken_only bytes steps input left' old new o (Err f) is run kept = inl kept

-- and what is written is put before more is taken
pub puts_before : {kept : Type 0} (bytes : List ℕ) (steps : ℕ) (input left' old new : Option (List ℕ)) (a : Result e.Ended CTextFault) → IfOk a (IsRun bytes steps input left' old new) → IfErr a (λ f. kept)
    → kept ⊎ PutsBefore bytes steps input left' old new
puts_before bytes steps input left' old new (Ok ended) run kept = inr (record { program = run.program; text = run.text; put = run.put })
puts_before bytes steps input left' old new (Err f) run kept = inl kept

pub kept_input : {I O : Type 0} (input input' : I) (out out' : O) (a : Result e.Ended CTextFault) → IfErr a (λ f. (input' ≡ input) × (out' ≡ out)) → IfErr a (λ f. input' ≡ input)
kept_input input input' out out' (Ok x) kept = kept
kept_input input input' out out' (Err f) kept = kept.0

-- of the file that was read
pub of_file : {kept : Type 0} (files : Option Named) (name bytes : List ℕ) (P : List ℕ → Type 0) → WhereTold files name (λ b. bytes ≡ b) → kept ⊎ P bytes → kept ⊎ OfFile files name P
of_file files name bytes P whole (inl kept) = inl kept
of_file files name bytes P whole (inr holds) = inr (bytes, whole, holds)

-- ---- what the outcome says of the answer

pub never_missing : (a : Result e.Ended CTextFault) → IsMissing (outcome_of_run a) → ⊥
never_missing (Ok (ended.Status status calls)) = λ m. m
never_missing (Ok ended.Spent) = λ m. m
never_missing (Ok (ended.Stuck kind)) = λ m. m
never_missing (Ok ended.InputFault) = λ m. m
never_missing (Ok ended.OutputFault) = λ m. m
never_missing (Ok (ended.Memory error)) = λ m. m
never_missing (Err (fault.At kind line)) = λ m. m
never_missing (Err (fault.Memory error)) = λ m. m

-- the source and the sink failed where the outcome says so, and else not
pub record DeviceFaults (taken taken' put put' : ℕ) (outcome : Outcome) : Type 0 where
  pub no_input : outcome ≢ ReadFault → taken' ≡ taken
  pub input : outcome ≡ ReadFault → Rose taken taken'
  pub no_output : outcome ≢ WriteFault → put' ≡ put
  pub output : outcome ≡ WriteFault → Rose put put'

pub device_faults : (taken taken' put put' : ℕ) (a : Result e.Ended CTextFault) → IfOk a (RunFaults taken taken' put put') → IfErr a (λ f. (taken' ≡ taken) × (put' ≡ put))
    → DeviceFaults taken taken' put put' (outcome_of_run a)
device_faults taken taken' put put' (Ok (ended.Status status calls)) run kept = record {
  no_input = λ x. run.no_input (λ z. absurd cc);
  input = λ x. absurd cc;
  no_output = λ x. run.no_output (λ z. absurd cc);
  output = λ x. absurd cc;
}
device_faults taken taken' put put' (Ok ended.Spent) run kept = record {
  no_input = λ x. run.no_input (λ z. absurd cc);
  input = λ x. absurd cc;
  no_output = λ x. run.no_output (λ z. absurd cc);
  output = λ x. absurd cc;
}
device_faults taken taken' put put' (Ok (ended.Stuck kind)) run kept = record {
  no_input = λ x. run.no_input (λ z. absurd cc);
  input = λ x. absurd cc;
  no_output = λ x. run.no_output (λ z. absurd cc);
  output = λ x. absurd cc;
}
device_faults taken taken' put put' (Ok ended.InputFault) run kept = record {
  no_input = λ x. absurd (x refl);
  input = λ x. run.input refl;
  no_output = λ x. run.no_output (λ z. absurd cc);
  output = λ x. absurd cc;
}
device_faults taken taken' put put' (Ok ended.OutputFault) run kept = record {
  no_input = λ x. run.no_input (λ z. absurd cc);
  input = λ x. absurd cc;
  no_output = λ x. absurd (x refl);
  output = λ x. run.output refl;
}
device_faults taken taken' put put' (Ok (ended.Memory error)) run kept = record {
  no_input = λ x. run.no_input (λ z. absurd cc);
  input = λ x. absurd cc;
  no_output = λ x. run.no_output (λ z. absurd cc);
  output = λ x. absurd cc;
}
device_faults taken taken' put put' (Err (fault.At kind line)) run kept = record {
  no_input = λ x. kept.0;
  input = λ x. absurd cc;
  no_output = λ x. kept.1;
  output = λ x. absurd cc;
}
device_faults taken taken' put put' (Err (fault.Memory error)) run kept = record {
  no_input = λ x. kept.0;
  input = λ x. absurd cc;
  no_output = λ x. kept.1;
  output = λ x. absurd cc;
}

-- what comes early is a refusal
pub early_kept : {I O : Type 0} (input input' : I) (out out' : O) (a : Result e.Ended CTextFault) → IfErr a (λ f. (input' ≡ input) × (out' ≡ out)) → IsEarly (outcome_of_run a)
    → (input' ≡ input) × (out' ≡ out)
early_kept input input' out out' (Ok (ended.Status status calls)) kept early = absurd early
early_kept input input' out out' (Ok ended.Spent) kept early = absurd early
early_kept input input' out out' (Ok (ended.Stuck kind)) kept early = absurd early
early_kept input input' out out' (Ok ended.InputFault) kept early = absurd early
early_kept input input' out out' (Ok ended.OutputFault) kept early = absurd early
early_kept input input' out out' (Ok (ended.Memory error)) kept early = absurd early
early_kept input input' out out' (Err (fault.At kind line)) kept early = kept
early_kept input input' out out' (Err (fault.Memory error)) kept early = kept

-- a fact of what was kept where the answer is a refusal
pub kept_map : {I O : Type 0} (input input' : I) (out out' : O) (taken : I → ℕ) (put : O → ℕ) (a : Result e.Ended CTextFault) → IfErr a (λ f. (input' ≡ input) × (out' ≡ out))
    → IfErr a (λ f. (taken input' ≡ taken input) × (put out' ≡ put out))
kept_map input input' out out' taken put (Ok x) kept = kept
kept_map input input' out out' taken put (Err f) kept = (ap taken kept.0, ap put kept.1)

pub kept_written : {I O : Type 0} (input input' : I) (out out' : O) (written : O → Option (List ℕ)) (a : Result e.Ended CTextFault) → IfErr a (λ f. (input' ≡ input) × (out' ≡ out))
    → IfErr a (λ f. written out' ≡ written out)
kept_written input input' out out' written (Ok x) kept = kept
kept_written input input' out out' written (Err f) kept = ap written kept.1

-- the answer where the file was not read
pub refused_answer : (files : Option Named) (name : List ℕ) (steps : ℕ) (input old : Option (List ℕ)) (r : ReadRefusal) → (r ≡ reading.TooLong → WhereTold files name (λ b. 67108864 < length b)) → (r ≡ reading.Missing → Lacks files name)
    → RunAnswer files name steps input old old (outcome_of 0 r)
refused_answer files name steps input old reading.Missing long absent = (absent refl, refl)
refused_answer files name steps input old reading.Failed long absent = tt
refused_answer files name steps input old reading.TooLong long absent = long refl
refused_answer files name steps input old reading.OutOfMemory long absent = inl refl

pub refused_fails : {failed taken kept : Type 0} (files : Option Named) (name : List ℕ) (steps : ℕ) (input left' old new : Option (List ℕ)) (r : ReadRefusal) → (r ≡ reading.Failed → failed) → kept → outcome_of 0 r ≡ ReadFault
    → ReadFails failed taken kept files name steps input left' old new
refused_fails files name steps input left' old new reading.Failed failed kept is = inl (failed refl, kept)
refused_fails files name steps input left' old new _ failed kept is = absurd cc
