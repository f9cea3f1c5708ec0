-- From the parser to what its answers mean.
use Rattle.std.proofs.Common.{◌≡◌, ℕ, suc, ◌<◌, List, [], ◌∷◌, ◌++◌, length, Ok, Err, refl, sym, ap, subst, ◌∙◌, append_assoc, arith}
use Rattle.std.proofs.lemmas.List.{append-nil}
use Rattle.c_tree.specs.declared.program.CProgram.{CProgram}
use Rattle.c_grammar.specs.Token.{Token}
use Rattle.c_grammar.specs.Spelling.{program_tokens}
use Rattle.c_grammar.specs.Seen.{AreTokens}
use Rattle.c_grammar.specs.Text.{Spells, Begins, MayBegin}
use Rattle.token_parsing.specs.declared.refusal.Refusal.TheVariants.{Unexpected, TooDeep}
use Rattle.token_parsing.specs.Parser.{Outcome}
use Rattle.token_parsing.proofs.Fair.{Fair, reads, refuses, stops}
use Rattle.token_parsing.proofs.Tracked.{Along, along_all, along_front, Tracked, meets, past, refuses_past, too_deep}
use Rattle.c_expr_parser.specs.Depth.{Fits}
use Rattle.c_parser.specs.Programs.{program}
use Rattle.c_parser.specs.Laws.{Split, Ends, ReadIsSpelled, UnexpectedIsFirst, TooDeepIsDeep, SpelledIsRead}
use Rattle.c_parser.proofs.FairPrograms.{ReadProgram, program_fair}
use Rattle.c_parser.proofs.TrackedParts.{program_tracked}

-- the tree of an answer, or another where there is none
unfoldable tree_of : CProgram → Outcome Token CProgram → CProgram
tree_of other (Ok p) = p.0
tree_of other (Err e) = other

same_tree : (d c : CProgram) (r rest : List Token) → ◌≡◌ {A = Outcome Token CProgram} (Ok (d, r)) (Ok (c, rest)) → d ≡ c
unfolding tree_of
same_tree d c r rest e = ap (tree_of c) e

read_by : (tokens : List Token) (formed : AreTokens tokens) (c : CProgram) (rest : List Token) (o : Outcome Token CProgram) → Fair tokens Begins (MayBegin 2401) (ReadProgram tokens formed) o → o ≡ Ok (c, rest) → Spells c tokens × Fits 2400 c
read_by tokens formed c rest _ (reads d r h) e =
    let same = same_tree d c r rest e in subst (λ z. Spells z tokens × Fits 2400 z) same (record { of_grammar = h.1; spelled = sym h.0 }, h.2)
read_by tokens formed c rest _ (refuses v bad is h) e = absurd cc
read_by tokens formed c rest _ (stops v bad is h) e = absurd cc

pub read_is_spelled : ReadIsSpelled
read_is_spelled tokens c rest formed e = read_by tokens formed c rest (program tokens) (program_fair tokens formed) e

-- ---- refusals

not_refused : {n : ℕ} {W : Type 0} {c : CProgram} {k : ℕ} (o : Outcome Token CProgram) → Tracked n W c [] o → o ≡ Err (Unexpected k) → k < n
not_refused _ (meets r h) e = absurd cc
not_refused _ (past a r h) e = absurd cc
not_refused {n} {k} _ (refuses_past j h) e = let same : j ≡ k = cc in subst (λ z. z < n) same h
not_refused _ (too_deep j h) e = absurd cc

not_stopped : {n : ℕ} {W : Type 0} {c : CProgram} {k : ℕ} (o : Outcome Token CProgram) → Tracked n W c [] o → o ≡ Err (TooDeep k) → W → 0 < n
not_stopped _ (meets r h) e w = absurd cc
not_stopped _ (past a r h) e w = absurd cc
not_stopped _ (refuses_past j h) e w = absurd cc
not_stopped _ (too_deep j h) e w = h w

along_text : (c : CProgram) (tokens : List Token) → Spells c tokens → Along 0 (program_tokens c) tokens
along_text c tokens s = subst (λ w. Along 0 w tokens) (sym s.spelled) (along_all tokens)

ends : (tokens front bad : List Token) (left : ℕ) → tokens ≡ front ++ bad → length bad ≡ left → program tokens ≡ Err (Unexpected left) → Ends front bad
ends tokens front [] left is long e = λ c s.
    let whole : Spells c tokens = subst (λ z. Spells c z) (sym (is ∙ append-nil front)) s in
    let below = not_refused (program tokens) (program_tracked 0 ⊥ c whole.of_grammar (λ v. absurd v) tokens (along_text c tokens whole)) e in absurd (omega (arith, below))
ends tokens front (t ∷ more) left is long e = λ (c, rest, s).
    let text : program_tokens c ≡ front ++ t ∷ rest = s.spelled ∙ append_assoc front (t ∷ []) rest in
    let along = subst (λ w. Along (suc (length more)) w tokens) (sym text) (subst (λ z. Along (suc (length more)) (front ++ t ∷ rest) z) (sym is) (along_front front t rest more)) in
    let below = not_refused (program tokens) (program_tracked (suc (length more)) ⊥ c s.of_grammar (λ v. absurd v) tokens along) e in absurd (omega (arith, below, long))

refused_by : (tokens : List Token) (formed : AreTokens tokens) (left : ℕ) (o : Outcome Token CProgram) → Fair tokens Begins (MayBegin 2401) (ReadProgram tokens formed) o → o ≡ Err (Unexpected left)
    → (front bad : List Token) × Split tokens front bad left × Begins front
refused_by tokens formed left _ (reads d r h) e = absurd cc
refused_by tokens formed left _ (refuses v bad is h) e = (v, bad, record { is = is; long = cc }, h)
refused_by tokens formed left _ (stops v bad is h) e = absurd cc

pub unexpected_is_first : UnexpectedIsFirst
unexpected_is_first tokens left formed e =
    let (front, bad, split, begun) = refused_by tokens formed left (program tokens) (program_fair tokens formed) e in
    (front, bad, split, begun, ends tokens front bad left split.is split.long e)

stopped_by : (tokens : List Token) (formed : AreTokens tokens) (left : ℕ) (o : Outcome Token CProgram) → Fair tokens Begins (MayBegin 2401) (ReadProgram tokens formed) o → o ≡ Err (TooDeep left)
    → (front bad : List Token) × Split tokens front bad left × MayBegin 2401 front
stopped_by tokens formed left _ (reads d r h) e = absurd cc
stopped_by tokens formed left _ (refuses v bad is h) e = absurd cc
stopped_by tokens formed left _ (stops v bad is h) e = (v, bad, record { is = is; long = cc }, h)

no_text : (tokens : List Token) (left : ℕ) → program tokens ≡ Err (TooDeep left) → (c : CProgram) → Spells c tokens → Fits 2400 c → ⊥
no_text tokens left e c s fits =
    let below = not_stopped (program tokens) (program_tracked 0 (Fits 2400 c) c s.of_grammar (λ f. f) tokens (along_text c tokens s)) e fits in absurd (omega (arith, below))

pub too_deep_is_deep : TooDeepIsDeep
too_deep_is_deep tokens left formed e =
    let (front, bad, split, deep) = stopped_by tokens formed left (program tokens) (program_fair tokens formed) e in (front, bad, split, deep, no_text tokens left e)

-- ---- what is spelled

ended_along : {r : List Token} → Along 0 [] r → r ≡ []
ended_along h = nothing_left _ h
  where
    nothing_left : (r : List Token) → Along 0 [] r → r ≡ []
    nothing_left [] h = refl
    nothing_left (t ∷ r) h = absurd (elim h [ ])

found_by : (c : CProgram) (o : Outcome Token CProgram) → Tracked 0 (Unit {0}) c [] o → o ≡ Ok (c, [])
found_by c _ (meets r h) = ap (λ z. Ok (c, z)) (ended_along h)
found_by c _ (past a r h) = absurd (omega (arith, h))
found_by c _ (refuses_past k h) = absurd (omega (arith, h))
found_by c _ (too_deep k h) = absurd (omega (arith, h tt))

pub spelled_is_read : SpelledIsRead
spelled_is_read tokens c s fits = found_by c (program tokens) (program_tracked 0 (Unit {0}) c s.of_grammar (λ _. fits) tokens (along_text c tokens s))
