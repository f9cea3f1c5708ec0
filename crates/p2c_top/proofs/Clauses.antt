-- The clauses of the top call, from the answer to what the words ask for and from its status.
use Rattle.std.proofs.Common.{◌≡◌, ◌≢◌, ℕ, List, Option, Some, None, ◌⊎◌, inl, inr, refl, subst, ◌∙◌, ap, sym, Result, Ok, Err, IfOk, IfErr, option_map}
use Rattle.std.specs.Bool.{⊤}
use Rattle.p2c_outside.specs.Counts.{Rose}
use Rattle.p2c_outside.specs.Told.{Named}
use Rattle.p2c_top.specs.Answers.{Answer, AnswersTo, Counts, RunInput, Stays, TranslationAnswer, RunAnswer, IsEarly, IsMissing, LacksOne}
use Rattle.p2c_top.specs.Executed.{AsksForText, CutsOff, EndsWith, IsOfRun, MayExecutePart, MayPutBefore, MayTake, NotRun, OfFile, ReadFails}
use Rattle.p2c_top.specs.Messages.{file_of, message_of, status_of}
use Rattle.p2c_top.specs.Translated.{AsksForAccepted, Refused, Translates, TranslatesPart}
use Rattle.p2c_text.specs.declared.dialect.Dialect.{Dialect}
use Rattle.command_words.specs.Asked.{asked, seen}
use Rattle.command_words.specs.declared.setting.Setting.{Setting}
use Rattle.p2c_top.specs.Words.{Task, Translating, Running, IsRunning, Finds, name_asked, name_in, task_asked}
use Rattle.p2c_top.specs.declared.outcome.Outcome.{Outcome}
use Rattle.p2c_top.specs.declared.outcome.Outcome.TheVariants.{Done, Usage, TooLong, BadSource, BadText, Missing, ReadFault, WriteFault, OutOfMemory}
use Rattle.p2c_top.proofs.Outcomes as by

-- ---- the answer

of_translation : (told : Option Named) (task : Option Task) (input old new : Option (List ℕ)) (o : Outcome) (d : Dialect) (names : List (List ℕ)) → Answer told task input old new o → task ≡ Some (Translating d names)
    → TranslationAnswer told d names old new o
of_translation told task input old new o d names a is = subst (λ t. AnswersTo told t input old new o) is a.says

of_run : (told : Option Named) (task : Option Task) (input old new : Option (List ℕ)) (o : Outcome) (steps : ℕ) (name : List ℕ) → Answer told task input old new o → task ≡ Some (Running steps name)
    → RunAnswer told name steps input old new o
of_run told task input old new o steps name a is = subst (λ t. AnswersTo told t input old new o) is a.says

pub usage_of : {told : Option Named} {task : Option Task} {input old new : Option (List ℕ)} {o : Outcome} {s : ℕ} → Answer told task input old new o → s ≡ status_of o → s ≡ 240 → task ≡ None
usage_of {told = told} {task = task} {input = input} {old = old} {new = new} {o = o} a is e =
    by.usage_none told task input old new (subst (λ x. AnswersTo told task input old new x) (by.usage_status o (by.low told task input old new o a.says) (sym is ∙ e)) a.says)

pub asked_of : {told : Option Named} {task : Option Task} {input old new : Option (List ℕ)} {o : Outcome} {s : ℕ} → Answer told task input old new o → s ≡ status_of o → task ≡ None → (s ≡ 240) ⊎ (s ≡ 245)
asked_of {told = told} {input = input} {old = old} {new = new} {o = o} a is none =
    subst (λ x. (x ≡ 240) ⊎ (x ≡ 245)) (sym is) (by.nothing_status o (subst (λ t. AnswersTo told t input old new o) none a.says))

pub absent_of : {told : Option Named} {task : Option Task} {input old new : Option (List ℕ)} {o : Outcome} {s : ℕ} → Answer told task input old new o → s ≡ status_of o → s ≡ 242 → LacksOne told task
absent_of {told = told} {task = task} {input = input} {old = old} {new = new} {o = o} a is e =
    by.missing_lacks told task input old new o (by.missing_status o (by.low told task input old new o a.says) (sym is ∙ e)) a.says

pub refused_of : {told : Option Named} {task : Option Task} {input old new : Option (List ℕ)} {o : Outcome} {s : ℕ} → Answer told task input old new o → s ≡ status_of o
    → (d : Dialect) (names : List (List ℕ)) → task ≡ Some (Translating d names) → s ≡ 241 → Refused told d names
refused_of {told = told} {task = task} {input = input} {old = old} {new = new} {o = o} a is d names asked e = by.status_refuses told d names old new o (of_translation told task input old new o d names a asked) (sym is ∙ e)

pub done_of : {told : Option Named} {task : Option Task} {input old new : Option (List ℕ)} {o : Outcome} {s : ℕ} → Answer told task input old new o → s ≡ status_of o
    → (d : Dialect) (names : List (List ℕ)) → task ≡ Some (Translating d names) → s ≡ 0 → Translates told d names old new
done_of {told = told} {task = task} {input = input} {old = old} {new = new} {o = o} a is d names asked e = by.done_translates told d names old new o (of_translation told task input old new o d names a asked) (sym is ∙ e)

pub cut_of : {told : Option Named} {task : Option Task} {input old new : Option (List ℕ)} {o : Outcome} {s : ℕ} → Answer told task input old new o → s ≡ status_of o
    → (d : Dialect) (names : List (List ℕ)) → task ≡ Some (Translating d names) → s ≡ 244 → TranslatesPart told d names old new
cut_of {told = told} {task = task} {input = input} {old = old} {new = new} {o = o} a is d names asked e = by.cut_translates told d names old new o (of_translation told task input old new o d names a asked) (sym is ∙ e)

pub ran_of : {told : Option Named} {task : Option Task} {input old new : Option (List ℕ)} {o : Outcome} {s : ℕ} → Answer told task input old new o → s ≡ status_of o
    → (steps : ℕ) (name : List ℕ) → task ≡ Some (Running steps name) → IsOfRun s → EndsWith s told name steps input old new
ran_of {told = told} {task = task} {input = input} {old = old} {new = new} {o = o} a is steps name asked r =
    subst (λ x. EndsWith x told name steps input old new) (sym is) (by.ends_with told name steps input old new o (of_run told task input old new o steps name a asked) (subst IsOfRun is r))

pub not_run_of : {told : Option Named} {task : Option Task} {input old new : Option (List ℕ)} {o : Outcome} {s : ℕ} → Answer told task input old new o → s ≡ status_of o
    → (steps : ℕ) (name : List ℕ) → task ≡ Some (Running steps name) → s ≡ 241 → NotRun told name
not_run_of {told = told} {task = task} {input = input} {old = old} {new = new} {o = o} a is steps name asked e = by.not_run told name steps input old new o (of_run told task input old new o steps name a asked) (sym is ∙ e)

pub run_cut_of : {told : Option Named} {task : Option Task} {input old new : Option (List ℕ)} {o : Outcome} {s : ℕ} → Answer told task input old new o → s ≡ status_of o
    → (steps : ℕ) (name : List ℕ) → task ≡ Some (Running steps name) → s ≡ 244 → OfFile told name (λ source. CutsOff source steps input old new)
run_cut_of {told = told} {task = task} {input = input} {old = old} {new = new} {o = o} a is steps name asked e = by.run_cut told name steps input old new o (of_run told task input old new o steps name a asked) (sym is ∙ e)

pub run_part_of : {told : Option Named} {task : Option Task} {input old new : Option (List ℕ)} {o : Outcome} {s : ℕ} → Answer told task input old new o → s ≡ status_of o
    → (steps : ℕ) (name : List ℕ) → task ≡ Some (Running steps name) → s ≡ 245 → MayExecutePart told name steps input old new
run_part_of {told = told} {task = task} {input = input} {old = old} {new = new} {o = o} a is steps name asked e = by.memory_part told name steps input old new o (of_run told task input old new o steps name a asked) (sym is ∙ e)

pub run_fault_of : {told : Option Named} {task : Option Task} {input input' old new : Option (List ℕ)} {o : Outcome} {s : ℕ} {failed taken kept same : Type 0} → Answer told task input old new o → s ≡ status_of o
    → RunInput task failed taken kept same told input input' old new o → (steps : ℕ) (name : List ℕ) → task ≡ Some (Running steps name) → s ≡ 243 → ReadFails failed taken kept told name steps input input' old new
run_fault_of {told = told} {task = task} {input = input} {old = old} {new = new} {o = o} a is run steps name asked e = run.fault steps name asked (by.read_status o (by.low told task input old new o a.says) (sym is ∙ e))

-- ---- what failed

pub missing_of : {told : Option Named} {task : Option Task} {input old new : Option (List ℕ)} {o : Outcome} {s m m' f f' t t' p p' : ℕ} → Answer told task input old new o → s ≡ status_of o → Counts task m m' f f' t t' p p' o → s ≡ 242 → Rose m m'
missing_of {told = told} {task = task} {input = input} {old = old} {new = new} {o = o} a is counts e = counts.missing (by.missing_status o (by.low told task input old new o a.says) (sym is ∙ e))

pub read_fault_of : {told : Option Named} {task : Option Task} {input old new : Option (List ℕ)} {o : Outcome} {s m m' f f' t t' p p' : ℕ} → Answer told task input old new o → s ≡ status_of o → Counts task m m' f f' t t' p p' o → s ≡ 243
    → Rose f f' ⊎ (IsRunning task × Rose t t')
read_fault_of {told = told} {task = task} {input = input} {old = old} {new = new} {o = o} a is counts e = counts.read_fault (by.read_status o (by.low told task input old new o a.says) (sym is ∙ e))

pub write_fault_of : {told : Option Named} {task : Option Task} {input old new : Option (List ℕ)} {o : Outcome} {s m m' f f' t t' p p' : ℕ} → Answer told task input old new o → s ≡ status_of o → Counts task m m' f f' t t' p p' o → s ≡ 244 → Rose p p'
write_fault_of {told = told} {task = task} {input = input} {old = old} {new = new} {o = o} a is counts e = counts.write_fault (by.write_status o (by.low told task input old new o a.says) (sym is ∙ e))

pub none_missing_of : {task : Option Task} {o : Outcome} {s m m' f f' t t' p p' : ℕ} → s ≡ status_of o → Counts task m m' f f' t t' p p' o → s ≢ 242 → s ≢ 243 → m' ≡ m
none_missing_of is counts a b = counts.none_missing (λ m. a (is ∙ by.status_missing _ m)) (λ e. b (is ∙ ap status_of e))

pub no_read_fault_of : {task : Option Task} {o : Outcome} {s m m' f f' t t' p p' : ℕ} → s ≡ status_of o → Counts task m m' f f' t t' p p' o → s ≢ 242 → s ≢ 243 → f' ≡ f
no_read_fault_of is counts a b = counts.no_read_fault (λ m. a (is ∙ by.status_missing _ m)) (λ e. b (is ∙ ap status_of e))

pub no_input_fault_of : {task : Option Task} {o : Outcome} {s m m' f f' t t' p p' : ℕ} → s ≡ status_of o → Counts task m m' f f' t t' p p' o → s ≢ 243 → t' ≡ t
no_input_fault_of is counts a = counts.no_input_fault (λ e. a (is ∙ ap status_of e))

pub no_write_fault_of : {task : Option Task} {o : Outcome} {s m m' f f' t t' p p' : ℕ} → s ≡ status_of o → Counts task m m' f f' t t' p p' o → s ≢ 244 → p' ≡ p
no_write_fault_of is counts a = counts.no_write_fault (λ e. a (is ∙ ap status_of e))

-- ---- completeness

read_running : (R : Type 0) (A S : Type 0) → R ⊎ (A × S) → (R → ⊥) → A
read_running R A S (inl x) calm = absurd (calm x)
read_running R A S (inr y) calm = y.0

read_neither : (R : Type 0) (A S : Type 0) → R ⊎ (A × S) → (R → ⊥) → (S → ⊥) → ⊥
read_neither R A S (inl x) calm still = calm x
read_neither R A S (inr y) calm still = still y.1

pub complete_of : (words : List (List ℕ)) {told : Option Named} {input old new : Option (List ℕ)} {o : Outcome} {s m m' f f' t t' p p' : ℕ} → Answer told (task_asked words) input old new o → s ≡ status_of o
    → Counts (task_asked words) m m' f f' t t' p p' o → AsksForAccepted told words → (Rose f f' → ⊥) → (Rose p p' → ⊥) → (s ≡ 0) ⊎ (s ≡ 245)
complete_of words {told = told} {input = input} {old = old} {new = new} {o = o} {f = f} {f' = f'} {t = t} {t' = t'} a is counts asks calm still =
    subst (λ x. (x ≡ 0) ⊎ (x ≡ 245)) (sym is)
    (by.completed told words input old new o asks a.says (λ e. read_running (Rose f f') (IsRunning (task_asked words)) (Rose t t') (counts.read_fault e) calm) (λ e. still (counts.write_fault e)))

pub run_complete_of : (words : List (List ℕ)) {told : Option Named} {input old new : Option (List ℕ)} {o : Outcome} {s m m' f f' t t' p p' : ℕ} → Answer told (task_asked words) input old new o → s ≡ status_of o
    → Counts (task_asked words) m m' f f' t t' p p' o → AsksForText told words → (Rose f f' → ⊥) → (Rose t t' → ⊥) → (Rose p p' → ⊥) → IsOfRun s ⊎ (s ≡ 245)
run_complete_of words {told = told} {input = input} {old = old} {new = new} {o = o} {f = f} {f' = f'} {t = t} {t' = t'} a is counts asks calm quiet still =
    subst (λ x. IsOfRun x ⊎ (x ≡ 245)) (sym is)
    (by.run_completed told words input old new o asks a.says (λ e. read_neither (Rose f f') (IsRunning (task_asked words)) (Rose t t') (counts.read_fault e) calm quiet) (λ e. still (counts.write_fault e)))

-- ---- what stays

pub early_of : {I O : Type 0} {told : Option Named} {task : Option Task} {left old new : Option (List ℕ)} {o : Outcome} {s : ℕ} {input input' : I} {out out' : O} → Answer told task left old new o → s ≡ status_of o
    → Stays task input input' out out' o → (s ≡ 240) ⊎ (s ≡ 241) ⊎ (s ≡ 242) → (input' ≡ input) × (out' ≡ out)
early_of {told = told} {task = task} {left = left} {old = old} {new = new} {o = o} a is stays e =
    stays.early (by.early_status o (by.low told task left old new o a.says) (subst (λ x. (x ≡ 240) ⊎ (x ≡ 241) ⊎ (x ≡ 242)) is e))

pub untouched_of : {I O : Type 0} {task : Option Task} {o : Outcome} {s : ℕ} {input input' : I} {out out' : O} → s ≡ status_of o → Stays task input input' out out' o
    → (IsRunning task → ⊥) → s ≢ 0 → s ≢ 244 → out' ≡ out
untouched_of is stays still a b = stays.same_out still (λ e. a (is ∙ ap status_of e)) (λ e. b (is ∙ ap status_of e))

-- ---- words that were not found, or ask for nothing

pub still_counts : (task : Option Task) (m f t p : ℕ) (o : Outcome) → (IsMissing o → ⊥) → o ≢ ReadFault → o ≢ WriteFault → Counts task m m f f t t p p o
still_counts task m f t p o a b c = record {
  missing = λ e. absurd (a e);
  read_fault = λ e. absurd (b e);
  write_fault = λ e. absurd (c e);
  none_missing = λ x y. refl;
  no_read_fault = λ x y. refl;
  no_input_fault = λ x. refl;
  no_write_fault = λ x. refl;
}

pub still_stays : {I O : Type 0} (task : Option Task) (input : I) (out : O) (o : Outcome) → Stays task input input out out o
still_stays task input out o = record {
  early = λ e. (refl, refl);
  same_input = λ x. refl;
  same_out = λ x y z. refl;
}

-- memory may be wanting whatever is asked for
pub memory_answer : (told : Option Named) (task : Option Task) (input old : Option (List ℕ)) → AnswersTo told task input old old OutOfMemory
memory_answer told None input old = tt
memory_answer told (Some (Translating d names)) input old = tt
memory_answer told (Some (Running steps name)) input old = inl refl

-- ---- tasks that are done

early_untouched : (o : Outcome) → IsEarly o → (o ≢ Done) × (o ≢ WriteFault)
early_untouched Usage early = (λ e. absurd cc, λ e. absurd cc)
early_untouched TooLong early = (λ e. absurd cc, λ e. absurd cc)
early_untouched (BadSource fault file line) early = (λ e. absurd cc, λ e. absurd cc)
early_untouched (BadText kind line) early = (λ e. absurd cc, λ e. absurd cc)
early_untouched (Missing file) early = (λ e. absurd cc, λ e. absurd cc)
early_untouched _ early = absurd early

pub translation_stays : {I O : Type 0} (task : Option Task) (input : I) (out out' : O) (o : Outcome) → (o ≢ Done → o ≢ WriteFault → out' ≡ out) → Stays task input input out out' o
translation_stays task input out out' o same = record {
  early = λ e. let far = early_untouched o e in (refl, same far.0 far.1);
  same_input = λ x. refl;
  same_out = λ x. same;
}

-- a run that could not read tells which count rose
pub run_read_fault : {A : Type 0} (R S K P : Type 0) → A → (R × K) ⊎ (S × P) → R ⊎ (A × S)
run_read_fault R S K P a (inl x) = inl x.0
run_read_fault R S K P a (inr y) = inr (a, y.0)

-- what the run of a task tells of its input
abbrev OfInput : (failed taken kept same : Type 0) → Option Named → (input input' old new : Option (List ℕ)) → Outcome → Option Task → Type 0
OfInput failed taken kept same told input input' old new o (Some (Running steps name)) = (o ≡ ReadFault → ReadFails failed taken kept told name steps input input' old new) × MayTake same told name steps input input' (status_of o) × MayPutBefore same told name steps input input' old new
OfInput failed taken kept same told input input' old new o _ = ⊤

pub run_input : {failed taken kept same : Type 0} (told : Option Named) (steps : ℕ) (name : List ℕ) (input input' old new : Option (List ℕ)) (o : Outcome)
    → (o ≡ ReadFault → ReadFails failed taken kept told name steps input input' old new) → MayTake same told name steps input input' (status_of o) → MayPutBefore same told name steps input input' old new → RunInput (Some (Running steps name)) failed taken kept same told input input' old new o
run_input {failed = failed} {taken = taken} {kept = kept} {same = same} told steps name input input' old new o fails takes puts = record {
  fault = λ n other is. (subst (λ t. OfInput failed taken kept same told input input' old new o t) is (fails, takes, puts)).0;
  few = λ n other is. (subst (λ t. OfInput failed taken kept same told input input' old new o t) is (fails, takes, puts)).1;
  put = λ n other is. (subst (λ t. OfInput failed taken kept same told input input' old new o t) is (fails, takes, puts)).2;
}

-- nothing was taken, and no run failed to read
pub no_run_input : {failed taken kept same : Type 0} (told : Option Named) (task : Option Task) (input input' old new : Option (List ℕ)) (o : Outcome) → ((IsRunning task → ⊥) ⊎ (o ≢ ReadFault)) → same
    → RunInput task failed taken kept same told input input' old new o
no_run_input told task input input' old new o (inl none) kept = record { fault = λ steps name is e. absurd (none (subst IsRunning (sym is) tt)); few = λ steps name is. inl kept; put = λ steps name is. inl kept }
no_run_input told task input input' old new o (inr none) kept = record { fault = λ steps name is e. absurd (none e); few = λ steps name is. inl kept; put = λ steps name is. inl kept }

-- ---- the line on standard error

pub same_message : {E : Type 0} (found : Result (Option Setting) E) (words : List (List ℕ)) (o : Outcome) (file : ℕ) (name : List ℕ) → Finds found (asked words) → file ≡ file_of o
    → IfOk found (λ some. name ≡ name_in (option_map seen some) file) → IfErr found (λ error. o ≡ OutOfMemory) → message_of o name ≡ message_of o (name_asked words (file_of o))
same_message (Ok some) words o file name finds is named wanting = ap (message_of o) (named ∙ ap (λ w. name_in w file) finds ∙ ap (name_in (asked words)) is)
same_message (Err error) words o file name finds is named wanting =
    ap (λ x. message_of x name) wanting ∙ sym (ap (λ x. message_of x (name_asked words (file_of o))) wanting)
