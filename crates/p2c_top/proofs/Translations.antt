-- Files that are read, and their texts.
use Rattle.std.proofs.Common.{◌≡◌, ℕ, zero, suc, ◌+◌, ◌-◌, ◌<◌, ◌≤◌, List, [], ◌∷◌, ◌++◌, length, Option, Some, None, ◌⊎◌, inl, inr, refl, sym, subst, ◌∙◌, ap, arith}
use Rattle.std.specs.Prelude.{Result, Ok, Err, OnOk, OnErr}
use Rattle.std.specs.Bool.{⊤}
use Rattle.std.proofs.lemmas.Bool.Decides.{leb_tells}
use Rattle.std.proofs.lemmas.List.{append_assoc, append-nil, length-append}
use Rattle.p2c_text.specs.declared.dialect.Dialect.{Dialect}
use Rattle.p2c_text.specs.declared.place.Span.{Span}
use Rattle.p2c_text.specs.Text.{NamedBytes}
use Rattle.p2c_outside.specs.Counts.{Rose}
use Rattle.p2c_outside.specs.Told.{Named, HasFile, WhereTold, Gains}
use Rattle.held_bytes.specs.Written.{GainsPart, Says}
use Rattle.agreement.specs.Writers.{Writing}
use Rattle.dialect_lexer.specs.declared.fault.LexFault.TheVariants as lex
use Rattle.expr_parser.specs.declared.fault.SyntaxFault.TheVariants as syntax
use Rattle.translate_core.specs.Accepted.{size, Accepts}
use Rattle.translate_core.specs.Refused as core
use Rattle.translate_core.specs.Translated.{IsTranslation}
use Rattle.translate_core.specs.Laws.{IsOfTexts, RefusedAreNotAccepted}
use Rattle.translate_core.specs.declared.refusal.Refusal.{Refusal}
use Rattle.translate_core.specs.declared.refusal.Refusal.TheVariants as refusal
use Rattle.translate_core.proofs.NotAccepted.{refused_are_not_accepted}
use Rattle.p2c_top.specs.Answers.{TranslationAnswer}
use Rattle.p2c_top.specs.Reading.{AddsFile, AreTexts, FirstAbsent, Lacks, LacksFirst, Passes, ReadUpTo, outcome_of}
use Rattle.p2c_top.specs.Translated.{answer_to, RefusedWith}
use Rattle.p2c_top.specs.declared.outcome.SourceFault.{SourceFault}
use Rattle.p2c_top.specs.declared.outcome.Outcome.{Outcome}
use Rattle.p2c_top.specs.declared.outcome.Outcome.TheVariants.{Done, BadSource, WriteFault}
use Rattle.p2c_top.specs.declared.reading.ReadRefusal.{ReadRefusal}
use Rattle.p2c_top.specs.declared.reading.ReadRefusal.TheVariants as reading

-- ---- what is told of the file of a name

has_more : (f : Option (List ℕ)) (P Q : List ℕ → Type 0) → ((b : List ℕ) → P b → Q b) → HasFile f P → HasFile f Q
has_more None P Q f h = h
has_more (Some b) P Q f h = f b h

pub told_more : (told : Option Named) (name : List ℕ) (P Q : List ℕ → Type 0) → ((b : List ℕ) → P b → Q b) → WhereTold told name P → WhereTold told name Q
told_more None name P Q f h = h
told_more (Some files) name P Q f h = has_more (files name) P Q f h

has_same : (f : Option (List ℕ)) (x y : List ℕ) → HasFile f (λ b. x ≡ b) → HasFile f (λ b. y ≡ b) → x ≡ y
has_same None x y h k = absurd h
has_same (Some b) x y h k = h ∙ sym k

has_longer : (f : Option (List ℕ)) (x : List ℕ) (most : ℕ) → HasFile f (λ b. x ≡ b) → HasFile f (λ b. most < length b) → most < length x
has_longer None x most h k = absurd h
has_longer (Some b) x most h k = subst (λ l. most < length l) (sym h) k

is_there : (f : Option (List ℕ)) (P : List ℕ → Type 0) → HasFile f P → f ≡ None → ⊥
is_there None P h e = h
is_there (Some b) P h e = absurd cc

-- ---- texts that are told

same_text : (x y : NamedBytes) → x.name ≡ y.name → x.bytes ≡ y.bytes → x ≡ y
same_text x y names bytes = ap (λ n. record { name = n; bytes = x.bytes }) names ∙ ap (λ b. record { name = y.name; bytes = b }) bytes

pub same_texts : (files : Named) (names : List (List ℕ)) (a b : List NamedBytes) → AreTexts (Some files) names a → AreTexts (Some files) names b → a ≡ b
same_texts files [] [] [] h k = refl
same_texts files [] [] (y ∷ b) h k = absurd k
same_texts files [] (x ∷ a) b h k = absurd h
same_texts files (n ∷ names) [] b h k = absurd h
same_texts files (n ∷ names) (x ∷ a) [] h k = absurd k
same_texts files (n ∷ names) (x ∷ a) (y ∷ b) h k =
    ap (λ z. z ∷ a) (same_text x y (h.0 ∙ sym k.0) (has_same (files n) x.bytes y.bytes h.1 k.1)) ∙ ap (λ z. y ∷ z) (same_texts files names a b h.2 k.2)

pub passes_long : (files : Named) (names : List (List ℕ)) (texts : List NamedBytes) (most : ℕ) → AreTexts (Some files) names texts → Passes (Some files) most names → most < size texts
passes_long files [] texts most h p = absurd p
passes_long files (n ∷ names) [] most h p = absurd h
passes_long files (n ∷ names) (t ∷ texts) most h (inl long) = let more = has_longer (files n) t.bytes most h.1 long in omega (arith, more)
passes_long files (n ∷ names) (t ∷ texts) most h (inr (bytes, is, short, more)) =
    let rest = passes_long files names texts (most - length bytes) h.2 more in
    let same = ap length (has_same (files n) t.bytes bytes h.1 is) in
    omega (arith, rest, same, short)

pub all_there : (files : Named) (names : List (List ℕ)) (texts : List NamedBytes) (file : ℕ) → AreTexts (Some files) names texts → FirstAbsent files names file → ⊥
all_there files [] texts file h a = a
all_there files (n ∷ names) [] file h a = h
all_there files (n ∷ names) (t ∷ texts) zero h a = is_there (files n) (λ b. t.bytes ≡ b) h.1 a
all_there files (n ∷ names) (t ∷ texts) (suc file) h a = all_there files names texts file h.2 a.1

-- ---- refusals

of_texts : (r : Refusal) (fault : SourceFault) (file line : ℕ) → BadSource fault file line ≡ answer_to r → IsOfTexts r
of_texts refusal.TooLong fault file line e = tt
of_texts (refusal.Lex f) fault file line e = tt
of_texts (refusal.Syntax f) fault file line e = tt
of_texts (refusal.Unbuilt span) fault file line e = tt
of_texts (refusal.Memory error) fault file line e = absurd cc

pub not_accepted : (told : Option Named) (d : Dialect) (names : List (List ℕ)) (fault : SourceFault) (file line : ℕ) → RefusedWith told d names (BadSource fault file line)
    → (texts : List NamedBytes) × AreTexts told names texts × ((ws : List Writing) → Accepts d texts ws → ⊥)
not_accepted told d names fault file line (texts, r, are, refuses, is) = (texts, are, λ ws accepts. refused_are_not_accepted d texts r ws (of_texts r fault file line is) refuses accepts)

-- ---- files read one after another

texts_more : (told : Option Named) (before : List (List ℕ)) (texts : List NamedBytes) (name : List ℕ) (t : NamedBytes) → AreTexts told before texts → t.name ≡ name → WhereTold told name (λ b. t.bytes ≡ b)
    → AreTexts told (before ++ name ∷ []) (texts ++ t ∷ [])
texts_more told [] [] name t h is whole = (is, whole, tt)
texts_more told [] (x ∷ texts) name t h is whole = absurd h
texts_more told (n ∷ before) [] name t h is whole = absurd h
texts_more told (n ∷ before) (x ∷ texts) name t h is whole = (h.0, h.1, texts_more told before texts name t h.2 is whole)

-- a file that is too long behind those before
passes_behind : (told : Option Named) (before : List (List ℕ)) (texts : List NamedBytes) (rest : List (List ℕ)) (left most : ℕ) → AreTexts told before texts → size texts + left ≡ most → Passes told left rest → Passes told most (before ++ rest)
passes_behind told [] [] rest left most h room p = subst (λ m. Passes told m rest) (omega (arith, room)) p
passes_behind told [] (x ∷ texts) rest left most h room p = absurd h
passes_behind told (n ∷ before) [] rest left most h room p = absurd h
passes_behind told (n ∷ before) (x ∷ texts) rest left most h room p =
    inr (x.bytes, h.1, omega (arith, room), passes_behind told before texts rest left (most - length x.bytes) h.2 (omega (arith, room)) p)

-- a file that is absent behind those before
absent_behind : (files : Named) (before : List (List ℕ)) (texts : List NamedBytes) (name : List ℕ) (after : List (List ℕ)) → AreTexts (Some files) before texts → files name ≡ None
    → FirstAbsent files (before ++ name ∷ after) (length before)
absent_behind files [] texts name after h none = none
absent_behind files (n ∷ before) [] name after h none = absurd h
absent_behind files (n ∷ before) (x ∷ texts) name after h none = (has_more (files n) (λ b. x.bytes ≡ b) (λ b. ⊤) (λ b e. tt) h.1, absent_behind files before texts name after h.2 none)

lacks_behind : (told : Option Named) (before : List (List ℕ)) (texts : List NamedBytes) (name : List ℕ) (after : List (List ℕ)) → AreTexts told before texts → Lacks told name
    → LacksFirst told (before ++ name ∷ after) (length before)
lacks_behind None before texts name after h none = simp length-append (omega arith)
lacks_behind (Some files) before texts name after h none = absent_behind files before texts name after h none

pub read_begun : (told : Option Named) (names : List (List ℕ)) → ReadUpTo told names names [] 8388608
read_begun told names = record { before = []; is = refl; texts_are = tt; left = refl }

size_more : (texts : List NamedBytes) (t : NamedBytes) → size (texts ++ t ∷ []) ≡ size texts + length t.bytes
size_more [] t = omega arith
size_more (x ∷ texts) t = let more = size_more texts t in omega (arith, more)

pub read_more : (told : Option Named) (names rest : List (List ℕ)) (texts new : List NamedBytes) (room left : ℕ) (name : List ℕ) (after : List (List ℕ)) → ReadUpTo told names rest texts room → rest ≡ name ∷ after
    → AddsFile told name room texts new left → ReadUpTo told names after new left
read_more told names rest texts new room left name after h r (t, is, named, whole, sum) = record {
  before = h.before ++ name ∷ [];
  is = h.is ∙ ap (λ l. h.before ++ l) r ∙ sym (append_assoc h.before (name ∷ []) after);
  texts_are = subst (AreTexts told (h.before ++ name ∷ [])) (sym is) (texts_more told h.before texts name t h.texts_are named whole);
  left = let more = size_more texts t in let all = h.left in let same = ap size is in omega (arith, more, all, sum, same);
}

pub read_done : (told : Option Named) (names rest : List (List ℕ)) (texts : List NamedBytes) (room : ℕ) → ReadUpTo told names rest texts room → rest ≡ [] → AreTexts told names texts
read_done told names rest texts room h r = subst (λ l. AreTexts told l texts) (sym (h.is ∙ ap (λ l. h.before ++ l) r ∙ append-nil h.before)) h.texts_are

pub read_long : (told : Option Named) (names rest : List (List ℕ)) (texts : List NamedBytes) (room : ℕ) (name : List ℕ) (after : List (List ℕ)) → ReadUpTo told names rest texts room → rest ≡ name ∷ after
    → WhereTold told name (λ b. room < length b) → Passes told 8388608 names
read_long told names rest texts room name after h r long =
    subst (Passes told 8388608) (sym (h.is ∙ ap (λ l. h.before ++ l) r)) (passes_behind told h.before texts (name ∷ after) room 8388608 h.texts_are h.left (inl long))

pub read_lacks : (told : Option Named) (names rest : List (List ℕ)) (texts : List NamedBytes) (room : ℕ) (name : List ℕ) (after : List (List ℕ)) → ReadUpTo told names rest texts room → rest ≡ name ∷ after
    → Lacks told name → LacksFirst told names (length names - length rest)
read_lacks told names rest texts room name after h r none =
    let whole : names ≡ h.before ++ name ∷ after = h.is ∙ ap (λ l. h.before ++ l) r in
    let count : length names - length rest ≡ length h.before = let n = ap length whole in let m = ap length r in let k = length-append h.before (name ∷ after) in omega (arith, n, m, k) in
    subst (LacksFirst told names) (sym count) (subst (λ l. LacksFirst told l (length h.before)) (sym whole) (lacks_behind told h.before texts name after h.texts_are none))

-- ---- the answers of a translation

pub as_many : (told : Option Named) (names : List (List ℕ)) (texts : List NamedBytes) → AreTexts told names texts → length texts ≡ length names
as_many told [] [] h = refl
as_many told [] (t ∷ texts) h = absurd h
as_many told (n ∷ names) [] h = absurd h
as_many told (n ∷ names) (t ∷ texts) h = let more = as_many told names texts h.2 in omega (arith, more)

long_passes : (told : Option Named) (names : List (List ℕ)) (texts : List NamedBytes) (most : ℕ) → AreTexts told names texts → most < size texts → Passes told most names
long_passes told [] [] most h long = absurd (omega (arith, long))
long_passes told [] (t ∷ texts) most h long = absurd h
long_passes told (n ∷ names) [] most h long = absurd h
long_passes told (n ∷ names) (t ∷ texts) most h long = elim (leb_tells (length t.bytes) most) [
  | inl s ↦ inr (t.bytes, h.1, s.1, long_passes told names texts (most - length t.bytes) h.2 (let short : length t.bytes ≤ most = s.1 in omega (arith, long, short)))
  | inr s ↦ inl (told_more told n (λ b. t.bytes ≡ b) (λ b. most < length b) (λ b is. subst (λ l. most < length l) is s.1) h.1)
]

pub refused_with : (told : Option Named) (d : Dialect) (names : List (List ℕ)) (texts : List NamedBytes) (old : Option (List ℕ)) (r : Refusal) → AreTexts told names texts → core.Refuses d texts r
    → TranslationAnswer told d names old old (answer_to r)
refused_with told d names texts old refusal.TooLong are long = long_passes told names texts 8388608 are long
refused_with told d names texts old (refusal.Lex (lex.At kind span)) are h = (texts, refusal.Lex (lex.At kind span), are, h, refl)
refused_with told d names texts old (refusal.Lex (lex.Memory error)) are h = tt
refused_with told d names texts old (refusal.Syntax (syntax.Unexpected span)) are h = (texts, refusal.Syntax (syntax.Unexpected span), are, h, refl)
refused_with told d names texts old (refusal.Syntax (syntax.TooDeep span)) are h = (texts, refusal.Syntax (syntax.TooDeep span), are, h, refl)
refused_with told d names texts old (refusal.Syntax (syntax.Memory error)) are h = tt
refused_with told d names texts old (refusal.Unbuilt span) are h = (texts, refusal.Unbuilt span, are, h, refl)
refused_with told d names texts old (refusal.Memory error) are h = tt

pub unread_answer : (told : Option Named) (d : Dialect) (names : List (List ℕ)) (old : Option (List ℕ)) (file : ℕ) (r : ReadRefusal) → (r ≡ reading.TooLong → Passes told 8388608 names) → (r ≡ reading.Missing → LacksFirst told names file)
    → TranslationAnswer told d names old old (outcome_of file r)
unread_answer told d names old file reading.Missing long absent = absent refl
unread_answer told d names old file reading.Failed long absent = tt
unread_answer told d names old file reading.TooLong long absent = long refl
unread_answer told d names old file reading.OutOfMemory long absent = tt

pub written_answer : (told : Option Named) (d : Dialect) (names : List (List ℕ)) (texts : List NamedBytes) (text : List ℕ) (old new : Option (List ℕ)) (o : Outcome) → AreTexts told names texts → IsTranslation d texts text
    → (o ≡ Done) ⊎ (o ≡ WriteFault) → (o ≡ Done → Gains old new text) → (o ≡ WriteFault → GainsPart old new text) → TranslationAnswer told d names old new o
written_answer told d names texts text old new o are made (inl e) done cut = subst (TranslationAnswer told d names old new) (sym e) (texts, text, are, made, done e)
written_answer told d names texts text old new o are made (inr e) done cut = subst (TranslationAnswer told d names old new) (sym e) (texts, text, are, made, cut e)

-- ---- the line on standard error

pub says : {E : Type 0} (old new : Option (List ℕ)) (faults faults_now : ℕ) (text : List ℕ) (result : Result (Unit {0}) E)
    → OnOk result (Gains old new text) → OnErr result (GainsPart old new text) → OnErr result (Rose faults faults_now) → Says old new faults faults_now text
says old new f g text (Ok x) whole part fault = inl whole
says old new f g text (Err e) whole part fault = inr (fault, part)
