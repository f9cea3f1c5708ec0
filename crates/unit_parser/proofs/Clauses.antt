-- From the parser of whole texts to what its answers mean.
use Rattle.std.proofs.Common.{◌≡◌, ◌⊎◌, inl, inr, ℕ, zero, suc, ◌+◌, ◌-◌, ◌≤◌, List, [], ◌∷◌, ◌++◌, length, drop, Ok, Err, refl, sym, ap, subst, ◌∙◌, arith, length-append}
use Rattle.std.proofs.lemmas.List.{append-nil}
use Rattle.p2c_text.specs.declared.dialect.Dialect.{Dialect}
use Rattle.p2c_text.specs.declared.place.Span.{Span}
use Rattle.pascal_tree.specs.declared.files.SourceFile.{SourceFile}
use Rattle.token_parsing.specs.declared.refusal.Refusal.TheVariants.{Unexpected, TooDeep}
use Rattle.token_parsing.specs.Parser.{Outcome, and_then}
use Rattle.expr_parser.specs.Tokens.{Placed, plain}
use Rattle.expr_parser.specs.Spans.{next_place}
use Rattle.expr_parser.specs.Layout.{tokens_of, height_of}
use Rattle.expr_parser.specs.Grammar.{AreTokens}
use Rattle.expr_parser.specs.Text.{IsDerived, IsLongest, NoTree}
use Rattle.expr_parser.specs.Parsed.{place_left}
use Rattle.expr_parser.proofs.Layouts.{spell}
use Rattle.expr_parser.proofs.Followed.{Until, Along, Followed}
use Rattle.expr_parser.proofs.FollowedParts.{Part}
use Rattle.expr_parser.proofs.Openings.{whole}
use Rattle.expr_parser.proofs.Spots.{Answer, Reads}
use Rattle.expr_parser.proofs.Longest as longest
use Rattle.expr_parser.proofs.Longest.{first_spot, first_hole}
use Rattle.unit_parser.specs.Writing.{write_file}
use Rattle.unit_parser.specs.Grammar.{IsFile, formed_file}
use Rattle.unit_parser.specs.Text.{Derives, BeginsText, NoText, NoFlatText, UnexpectedToken, UnexpectedEnd, IsTooDeep}
use Rattle.unit_parser.specs.Files.{end_of, source_file, file}
use Rattle.unit_parser.specs.Laws.{ReadIsDerived, UnexpectedIsFirst, TooDeepIsDeep}
use Rattle.unit_parser.proofs.FollowedFiles.{source_file_followed}
use Rattle.unit_parser.proofs.SoundUnits.{source_file_sound}

-- ---- a text, whatever follows its last dot

sound : (d : Dialect) (end : Span) (levels outer : ℕ) (from : List Placed) → AreTokens d (plain from)
    → Answer d (write_file d) (formed_file d) end outer levels from (Reads d (write_file d) (formed_file d) end outer levels from (write_file d) (formed_file d) levels from) (source_file d end levels from)
sound d end levels outer from known =
    source_file_sound d (write_file d) (formed_file d) end outer levels from known levels whole from (first_spot d (write_file d) (formed_file d) end outer levels from) (first_hole d (write_file d) (formed_file d)) (omega arith)

follows : (d : Dialect) (end : Span) (levels : ℕ) (n : Until) (W : Type 0) (f : SourceFile) → Part W levels (write_file d f) (formed_file d f) → (s : List Placed) → Along n (spell (write_file d f) []) s → Followed n W [] (source_file d end levels s)
follows d end levels n W f part s h = source_file_followed n W d end levels f part [] s h

-- ---- a text and the end of the tokens

whole_read : (o : Outcome Placed SourceFile) (f : SourceFile) → and_then o end_of ≡ Ok (f, []) → o ≡ Ok (f, [])
whole_read (Err x) f e = absurd cc
whole_read (Ok p) f e = by p.0 p.1 e
  where
    by : (a : SourceFile) (r : List Placed) → end_of a r ≡ Ok (f, []) → ◌≡◌ {A = Outcome Placed SourceFile} (Ok (a, r)) (Ok (f, []))
    by a [] e = e
    by a (t ∷ r) e = absurd cc

abbrev left_of : Outcome Placed SourceFile → ℕ
left_of (Ok p) = 0
left_of (Err (Unexpected n)) = n
left_of (Err (TooDeep n)) = n

-- the text was refused, or a token stands behind it
abbrev Refused : Outcome Placed SourceFile → ℕ → Type 0
Refused o left = (o ≡ Err (Unexpected left)) ⊎ ((f : SourceFile) × (t : Placed) × (r : List Placed) × (o ≡ Ok (f, t ∷ r)) × (length (t ∷ r) ≡ left))

whole_refused : (o : Outcome Placed SourceFile) (left : ℕ) → and_then o end_of ≡ Err (Unexpected left) → Refused o left
whole_refused (Err x) left e = inl e
whole_refused (Ok p) left e = by p.0 p.1 e
  where
    by : (a : SourceFile) (r : List Placed) → end_of a r ≡ Err (Unexpected left) → Refused (Ok (a, r)) left
    by a [] e = absurd cc
    by a (t ∷ r) e = inr (a, t, r, refl, ap left_of e)

whole_stopped : (o : Outcome Placed SourceFile) (left : ℕ) → and_then o end_of ≡ Err (TooDeep left) → o ≡ Err (TooDeep left)
whole_stopped (Err x) left e = e
whole_stopped (Ok p) left e = by p.0 p.1 e
  where
    by : (a : SourceFile) (r : List Placed) → end_of a r ≡ Err (TooDeep left) → ◌≡◌ {A = Outcome Placed SourceFile} (Ok (a, r)) (Err (TooDeep left))
    by a [] e = absurd cc
    by a (t ∷ r) e = absurd cc

-- ---- places

dropped : (front bad : List Placed) (n : ℕ) → n ≡ length front → drop n (front ++ bad) ≡ bad
dropped [] bad n e = subst (λ k. drop k bad ≡ bad) (sym e) refl
dropped (t ∷ front) bad n e = subst (λ k. drop k (t ∷ front ++ bad) ≡ bad) (sym e) (dropped front bad (length front) refl)

place_is : (end : Span) (tokens front bad : List Placed) (left : ℕ) → tokens ≡ front ++ bad → length bad ≡ left → place_left end tokens left ≡ next_place end bad
place_is end tokens front bad left split long =
    subst (λ s. place_left end s left ≡ next_place end bad) (sym split) (ap (next_place end) (dropped front bad (length (front ++ bad) - left) (let size = length-append front bad in omega (arith, size, long))))

-- ---- laws

pub read_is_derived : ReadIsDerived
unfolding file
read_is_derived d end tokens f known is =
    let (tree, run, _) = longest.read_is_longest d (write_file d) (formed_file d) end 400 (source_file d end 400) (sound d end 400) (follows d end 400) tokens [] f known (whole_read (source_file d end 400 tokens) f is) in tree

-- no text begins with the longest run and the token after it; where none is after it, the run is no text
after_run : (d : Dialect) (end : Span) (tokens run rest : List Placed) (left : ℕ) → IsLongest d (write_file d) (formed_file d) tokens run rest → length rest ≡ left → NoTree d (write_file d) (formed_file d) run
    → UnexpectedToken d tokens (place_left end tokens left) ⊎ UnexpectedEnd d end tokens (place_left end tokens left)
after_run d end tokens run [] left h long none =
    let whole : run ≡ tokens = sym (append-nil run) ∙ sym h.is in
    inr (subst (λ s. BeginsText d (plain s)) whole h.begins, subst (NoText d) whole none, place_is end tokens run [] left h.is long)
after_run d end tokens run (t ∷ more) left h long none = inl (run, t, more, h.is, h.begins, h.no_longer t more refl, place_is end tokens run (t ∷ more) left h.is long)

pub unexpected_is_first : UnexpectedIsFirst
unfolding file
unexpected_is_first d end tokens left known is = by (whole_refused (source_file d end 400 tokens) left is)
  where
    by : Refused (source_file d end 400 tokens) left → UnexpectedToken d tokens (place_left end tokens left) ⊎ UnexpectedEnd d end tokens (place_left end tokens left)
    by (inl e) =
        let (run, rest, h, long, none) = longest.unexpected_is_after d (write_file d) (formed_file d) end 400 (source_file d end 400) (sound d end 400) (follows d end 400) left tokens known e in after_run d end tokens run rest left h long none
    by (inr (f, t, r, e, long)) =
        let (tree, run, h) = longest.read_is_longest d (write_file d) (formed_file d) end 400 (source_file d end 400) (sound d end 400) (follows d end 400) tokens (t ∷ r) f known e in
        inl (run, t, r, h.is, h.begins, h.no_longer t r refl, place_is end tokens run (t ∷ r) left h.is long)

pub too_deep_is_deep : TooDeepIsDeep
unfolding file
too_deep_is_deep d end tokens left known is =
    let ((front, bad, split, long, may), none) =
    longest.too_deep_is_deep d (write_file d) (formed_file d) end 400 (source_file d end 400) (sound d end 400) (follows d end 400) 1 left tokens known (whole_stopped (source_file d end 400 tokens) left is) in (
      λ f isf spelled fits.
          none tokens [] (record { is = sym (append-nil tokens); begins = (f, [], isf, spelled ∙ sym (append-nil (plain tokens))); no_longer = λ t more e. absurd cc }) f isf spelled fits,
      front,
      bad,
      split,
      may,
      place_is end tokens front bad left split long,
    )
