-- What the status of an answer tells of it.
use Rattle.std.proofs.Common.{◌≡◌, ℕ, ◌<◌, ◌≤◌, List, [], length, Option, Some, None, ◌⊎◌, inl, inr, refl, subst, ◌∙◌, ap, sym, arith}
use Rattle.std.specs.Bool.{⊤}
use Rattle.p2c_text.specs.declared.dialect.Dialect.{Dialect}
use Rattle.p2c_text.specs.Text.{NamedBytes}
use Rattle.c_tree.specs.declared.program.CProgram.{CProgram}
use Rattle.c_grammar.specs.Text.{CText}
use Rattle.p2c_outside.specs.Told.{Named, HasFile, WhereTold}
use Rattle.c_reader.specs.Read.{IsNoText}
use Rattle.agreement.specs.Writers.{Writing}
use Rattle.p2c_top.specs.Answers.{AnswersTo, NothingAnswer, TranslationAnswer, RunAnswer, IsEarly, IsMissing, LacksOne}
use Rattle.p2c_top.specs.Executed.{AsksForText, CutsOff, EndsWith, IsOfRun, MayExecutePart, NotRun, OfFile}
use Rattle.p2c_top.specs.Messages.{status_of}
use Rattle.p2c_top.specs.Reading.{AreTexts}
use Rattle.translate_core.specs.Accepted.{Accepts}
use Rattle.p2c_top.specs.Translated.{AsksForAccepted, Refused, Translates, TranslatesPart}
use Rattle.p2c_top.specs.Words.{Task, Translating, Running, IsRunning, task_asked}
use Rattle.p2c_top.specs.declared.outcome.Outcome.{Outcome}
use Rattle.p2c_top.specs.declared.outcome.Outcome.TheVariants.{Done, Ended, Usage, TooLong, BadSource, BadText, Missing, ReadFault, WriteFault, OutOfMemory, Spent, Stuck}
use Rattle.p2c_top.proofs.Translations.{told_more, not_accepted, passes_long, same_texts, all_there}

-- ---- the program's own status is at most 209

abbrev pub IsLow : Outcome → Type 0
IsLow (Ended status) = status ≤ 209
IsLow _ = ⊤

low_ended : (told : Option Named) (task : Option Task) (input old new : Option (List ℕ)) (status : ℕ) → AnswersTo told task input old new (Ended status) → status ≤ 209
low_ended told None input old new status a = absurd a
low_ended told (Some (Translating d names)) input old new status a = absurd a
low_ended told (Some (Running steps name)) input old new status a = a.0

pub low : (told : Option Named) (task : Option Task) (input old new : Option (List ℕ)) (o : Outcome) → AnswersTo told task input old new o → IsLow o
low told task input old new (Ended status) a = low_ended told task input old new status a
low told task input old new _ a = tt

-- ---- the answers that have their own status

pub usage_status : (o : Outcome) → IsLow o → status_of o ≡ 240 → o ≡ Usage
usage_status Usage small e = refl
usage_status (Ended status) small e = absurd (omega (arith, e, small))
usage_status _ small e = absurd (omega (arith, e))

pub missing_status : (o : Outcome) → IsLow o → status_of o ≡ 242 → IsMissing o
missing_status (Missing file) small e = tt
missing_status (Ended status) small e = absurd (omega (arith, e, small))
missing_status _ small e = absurd (omega (arith, e))

pub status_missing : (o : Outcome) → IsMissing o → status_of o ≡ 242
status_missing (Missing file) m = refl
status_missing _ m = absurd m

pub read_status : (o : Outcome) → IsLow o → status_of o ≡ 243 → o ≡ ReadFault
read_status ReadFault small e = refl
read_status (Ended status) small e = absurd (omega (arith, e, small))
read_status _ small e = absurd (omega (arith, e))

pub write_status : (o : Outcome) → IsLow o → status_of o ≡ 244 → o ≡ WriteFault
write_status WriteFault small e = refl
write_status (Ended status) small e = absurd (omega (arith, e, small))
write_status _ small e = absurd (omega (arith, e))

within : (s : ℕ) → (s ≡ 240) ⊎ (s ≡ 241) ⊎ (s ≡ 242) → (240 ≤ s) × (s ≤ 242)
within s (inl e) = (omega (arith, e), omega (arith, e))
within s (inr (inl e)) = (omega (arith, e), omega (arith, e))
within s (inr (inr e)) = (omega (arith, e), omega (arith, e))

not_within : (s : ℕ) → (s ≤ 239) ⊎ (243 ≤ s) → (s ≡ 240) ⊎ (s ≡ 241) ⊎ (s ≡ 242) → ⊥
not_within s (inl below) e = let w = within s e in omega (arith, w.0, w.1, below)
not_within s (inr above) e = let w = within s e in omega (arith, w.0, w.1, above)

pub early_status : (o : Outcome) → IsLow o → (status_of o ≡ 240) ⊎ (status_of o ≡ 241) ⊎ (status_of o ≡ 242) → IsEarly o
early_status (Ended status) small e = absurd (not_within status (inl (omega (arith, small))) e)
early_status Done small e = absurd (not_within 0 (inl (omega arith)) e)
early_status ReadFault small e = absurd (not_within 243 (inr (omega arith)) e)
early_status WriteFault small e = absurd (not_within 244 (inr (omega arith)) e)
early_status OutOfMemory small e = absurd (not_within 245 (inr (omega arith)) e)
early_status Spent small e = absurd (not_within 246 (inr (omega arith)) e)
early_status (Stuck kind) small e = absurd (not_within 247 (inr (omega arith)) e)
early_status _ small e = tt

-- ---- words that ask for nothing

pub usage_none : (told : Option Named) (task : Option Task) (input old new : Option (List ℕ)) → AnswersTo told task input old new Usage → task ≡ None
usage_none told None input old new a = refl
usage_none told (Some (Translating d names)) input old new a = absurd a
usage_none told (Some (Running steps name)) input old new a = absurd a

pub nothing_status : (o : Outcome) → NothingAnswer o → (status_of o ≡ 240) ⊎ (status_of o ≡ 245)
nothing_status Usage a = inl refl
nothing_status OutOfMemory a = inr refl
nothing_status _ a = absurd a

pub missing_lacks : (told : Option Named) (task : Option Task) (input old new : Option (List ℕ)) (o : Outcome) → IsMissing o → AnswersTo told task input old new o → LacksOne told task
missing_lacks told None input old new (Missing file) m a = absurd a
missing_lacks told (Some (Translating d names)) input old new (Missing file) m a = (file, a)
missing_lacks told (Some (Running steps name)) input old new (Missing file) m a = a.0
missing_lacks told task input old new _ m a = absurd m

-- ---- a translation

pub done_translates : (told : Option Named) (d : Dialect) (names : List (List ℕ)) (old new : Option (List ℕ)) (o : Outcome) → TranslationAnswer told d names old new o → status_of o ≡ 0 → Translates told d names old new
done_translates told d names old new Done a e = a
done_translates told d names old new (Ended status) a e = absurd a
done_translates told d names old new _ a e = absurd (omega (arith, e))

pub status_refuses : (told : Option Named) (d : Dialect) (names : List (List ℕ)) (old new : Option (List ℕ)) (o : Outcome) → TranslationAnswer told d names old new o → status_of o ≡ 241 → Refused told d names
status_refuses told d names old new TooLong a e = inl a
status_refuses told d names old new (BadSource fault file line) a e = inr (not_accepted told d names fault file line a)
status_refuses told d names old new (BadText kind line) a e = absurd a
status_refuses told d names old new (Ended status) a e = absurd a
status_refuses told d names old new _ a e = absurd (omega (arith, e))

pub cut_translates : (told : Option Named) (d : Dialect) (names : List (List ℕ)) (old new : Option (List ℕ)) (o : Outcome) → TranslationAnswer told d names old new o → status_of o ≡ 244 → TranslatesPart told d names old new
cut_translates told d names old new WriteFault a e = a
cut_translates told d names old new (Ended status) a e = absurd a
cut_translates told d names old new _ a e = absurd (omega (arith, e))

accepted_translated : (files : Named) (d : Dialect) (names : List (List ℕ)) (texts : List NamedBytes) (ws : List Writing) (old new : Option (List ℕ)) (o : Outcome) → AreTexts (Some files) names texts → Accepts d texts ws
    → TranslationAnswer (Some files) d names old new o → (o ≡ ReadFault → ⊥) → (o ≡ WriteFault → ⊥) → (status_of o ≡ 0) ⊎ (status_of o ≡ 245)
accepted_translated files d names texts ws old new Done are accepted a r w = inl refl
accepted_translated files d names texts ws old new OutOfMemory are accepted a r w = inr refl
accepted_translated files d names texts ws old new TooLong are accepted a r w = absurd (let long = passes_long files names texts 8388608 are a in let short = accepted.short in omega (arith, long, short))
accepted_translated files d names texts ws old new (BadSource fault file line) are accepted a r w =
    let (others, others_are, none) = not_accepted (Some files) d names fault file line a in
    absurd (none ws (subst (λ t. Accepts d t ws) (same_texts files names texts others are others_are) accepted))
accepted_translated files d names texts ws old new (Missing file) are accepted a r w = absurd (all_there files names texts file are a)
accepted_translated files d names texts ws old new ReadFault are accepted a r w = absurd (r refl)
accepted_translated files d names texts ws old new WriteFault are accepted a r w = absurd (w refl)
accepted_translated files d names texts ws old new _ are accepted a r w = absurd a

-- where no fault rose, the translation is done, or memory was wanting
pub completed : (told : Option Named) (words : List (List ℕ)) (input old new : Option (List ℕ)) (o : Outcome) → AsksForAccepted told words → AnswersTo told (task_asked words) input old new o
    → (o ≡ ReadFault → IsRunning (task_asked words)) → (o ≡ WriteFault → ⊥) → (status_of o ≡ 0) ⊎ (status_of o ≡ 245)
completed None words input old new o asks a r w = absurd asks
completed (Some files) words input old new o (d, names, texts, ws, asked, are, accepted) a r w =
    accepted_translated files d names texts ws old new o are accepted (subst (λ t. AnswersTo (Some files) t input old new o) asked a) (λ e. subst IsRunning asked (r e)) w

-- ---- a run

not_of_run : (s : ℕ) → 210 ≤ s → s ≤ 245 → IsOfRun s → ⊥
not_of_run s above below (inl e) = omega (arith, above, e)
not_of_run s above below (inr (inl e)) = omega (arith, below, e)
not_of_run s above below (inr (inr e)) = omega (arith, below, e)

pub ends_with : (told : Option Named) (name : List ℕ) (steps : ℕ) (input old new : Option (List ℕ)) (o : Outcome) → RunAnswer told name steps input old new o → IsOfRun (status_of o)
    → EndsWith (status_of o) told name steps input old new
ends_with told name steps input old new (Ended status) a r = (Ended status, refl, a.1)
ends_with told name steps input old new Spent a r = (Spent, refl, a)
ends_with told name steps input old new (Stuck kind) a r = (Stuck kind, refl, a)
ends_with told name steps input old new TooLong a r = absurd (not_of_run 241 (omega arith) (omega arith) r)
ends_with told name steps input old new (BadText kind line) a r = absurd (not_of_run 241 (omega arith) (omega arith) r)
ends_with told name steps input old new (Missing file) a r = absurd (not_of_run 242 (omega arith) (omega arith) r)
ends_with told name steps input old new ReadFault a r = absurd (not_of_run 243 (omega arith) (omega arith) r)
ends_with told name steps input old new WriteFault a r = absurd (not_of_run 244 (omega arith) (omega arith) r)
ends_with told name steps input old new OutOfMemory a r = absurd (not_of_run 245 (omega arith) (omega arith) r)
ends_with told name steps input old new _ a r = absurd a

pub not_run : (told : Option Named) (name : List ℕ) (steps : ℕ) (input old new : Option (List ℕ)) (o : Outcome) → RunAnswer told name steps input old new o → status_of o ≡ 241 → NotRun told name
not_run told name steps input old new TooLong a e = told_more told name _ _ (λ bytes long. inl long) a
not_run told name steps input old new (BadText kind line) a e = told_more told name (λ bytes. IsNoText bytes kind line) _ (λ bytes none. inr none.none) a
not_run told name steps input old new (Ended status) a e = absurd (let small = a.0 in omega (arith, e, small))
not_run told name steps input old new (BadSource fault file line) a e = absurd a
not_run told name steps input old new _ a e = absurd (omega (arith, e))

pub run_cut : (told : Option Named) (name : List ℕ) (steps : ℕ) (input old new : Option (List ℕ)) (o : Outcome) → RunAnswer told name steps input old new o → status_of o ≡ 244
    → OfFile told name (λ source. CutsOff source steps input old new)
run_cut told name steps input old new WriteFault a e = a
run_cut told name steps input old new (Ended status) a e = absurd (let small = a.0 in omega (arith, e, small))
run_cut told name steps input old new _ a e = absurd (omega (arith, e))

pub memory_part : (told : Option Named) (name : List ℕ) (steps : ℕ) (input old new : Option (List ℕ)) (o : Outcome) → RunAnswer told name steps input old new o → status_of o ≡ 245
    → MayExecutePart told name steps input old new
memory_part told name steps input old new OutOfMemory a e = a
memory_part told name steps input old new (Ended status) a e = absurd (let small = a.0 in omega (arith, e, small))
memory_part told name steps input old new _ a e = absurd (omega (arith, e))

text_run : (files : Named) (name source : List ℕ) (c : CProgram) (steps : ℕ) (input old new : Option (List ℕ)) (o : Outcome) → files name ≡ Some source → length source ≤ 67108864 → CText source c
    → RunAnswer (Some files) name steps input old new o → (o ≡ ReadFault → ⊥) → (o ≡ WriteFault → ⊥) → IsOfRun (status_of o) ⊎ (status_of o ≡ 245)
text_run files name source c steps input old new (Ended status) is short text a r w = inl (inl a.0)
text_run files name source c steps input old new Spent is short text a r w = inl (inr (inl refl))
text_run files name source c steps input old new (Stuck kind) is short text a r w = inl (inr (inr refl))
text_run files name source c steps input old new OutOfMemory is short text a r w = inr refl
text_run files name source c steps input old new TooLong is short text a r w = absurd (let long = subst (λ f. HasFile f (λ bytes. 67108864 < length bytes)) is a in omega (arith, long, short))
text_run files name source c steps input old new (BadText kind line) is short text a r w = absurd ((subst (λ f. HasFile f (λ bytes. IsNoText bytes kind line)) is a).none c text)
text_run files name source c steps input old new (Missing file) is short text a r w = absurd (let none = a.0 in cc)
text_run files name source c steps input old new ReadFault is short text a r w = absurd (r refl)
text_run files name source c steps input old new WriteFault is short text a r w = absurd (w refl)
text_run files name source c steps input old new _ is short text a r w = absurd a

-- where no fault rose, the text is run, or memory was wanting
pub run_completed : (told : Option Named) (words : List (List ℕ)) (input old new : Option (List ℕ)) (o : Outcome) → AsksForText told words → AnswersTo told (task_asked words) input old new o
    → (o ≡ ReadFault → ⊥) → (o ≡ WriteFault → ⊥) → IsOfRun (status_of o) ⊎ (status_of o ≡ 245)
run_completed None words input old new o asks a r w = absurd asks
run_completed (Some files) words input old new o (steps, name, source, c, asked, is, short, text) a r w =
    text_run files name source c steps input old new o is short text (subst (λ t. AnswersTo (Some files) t input old new o) asked a) r w
