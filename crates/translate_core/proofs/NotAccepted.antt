-- Texts that are refused are not accepted.
use Rattle.std.proofs.Common.{◌≡◌, inl, inr, ℕ, suc, List, [], ◌∷◌, ◌++◌, length, refl, sym, subst, ap, ◌∙◌, arith}
use Rattle.std.proofs.lemmas.List.{append_assoc, append-nil, map-append}
use Rattle.p2c_text.specs.declared.dialect.Dialect.{Dialect}
use Rattle.p2c_text.specs.declared.place.Span.{Span}
use Rattle.p2c_text.specs.Text.{NamedBytes}
use Rattle.dialect_lexer.specs.FileTokens.{FileTokens}
use Rattle.dialect_lexer.specs.Tokens.{Lexes}
use Rattle.dialect_lexer.specs.declared.fault.LexFault.{LexFault}
use Rattle.dialect_lexer.specs.declared.fault.LexFault.TheVariants as lex
use Rattle.dialect_lexer.proofs.Unique.{same_tokens, no_tokens}
use Rattle.pascal_tree.specs.declared.files.SourceFile.{SourceFile}
use Rattle.expr_parser.specs.declared.fault.SyntaxFault.{SyntaxFault}
use Rattle.expr_parser.specs.declared.fault.SyntaxFault.TheVariants as syntax
use Rattle.expr_parser.specs.Parsed.{end_of}
use Rattle.expr_parser.specs.Tokens.{Placed, plain, seen}
use Rattle.expr_parser.specs.Layout.{tokens_of}
use Rattle.expr_parser.proofs.Layouts.{written_taken}
use Rattle.unit_parser.specs.Writing.{write_file}
use Rattle.unit_parser.specs.Text.{Derives, Faults}
use Rattle.unit_parser.proofs.ExactLaws.{derived_is_unique}
use Rattle.agreement.specs.Writers.{Writing}
use Rattle.writer_trees.specs.Unbuilt.{FirstUnbuilt}
use Rattle.writer_trees.proofs.Firsts.{unbuilt_is_no_writer}
use Rattle.translate_core.specs.Accepted.{AllLex, AllDerive, DerivesText, HaveTrees, Accepts}
use Rattle.translate_core.specs.Refused.{HasNoTokens, HasNoTree, FailsToLex, FailsToParse, FirstUnbuiltIn}
use Rattle.translate_core.specs.Laws.{RefusedAreNotAccepted}
use Rattle.translate_core.specs.declared.refusal.Refusal.TheVariants as refusal

-- ---- tokens

same_list : (a b : FileTokens) → a.file ≡ b.file → a.tokens ≡ b.tokens → a ≡ b
same_list a b files tokens = ap (λ f. record { file = f; tokens = a.tokens }) files ∙ ap (λ t. record { file = b.file; tokens = t }) tokens

-- texts have one list of tokens each
same_lists : (d : Dialect) (file : ℕ) (texts : List NamedBytes) (a b : List FileTokens) → AllLex d file texts a → AllLex d file texts b → a ≡ b
same_lists d file [] [] [] h k = refl
same_lists d file [] [] (y ∷ b) h k = absurd k
same_lists d file [] (x ∷ a) b h k = absurd h
same_lists d file (t ∷ texts) [] b h k = absurd h
same_lists d file (t ∷ texts) (x ∷ a) [] h k = absurd k
same_lists d file (t ∷ texts) (x ∷ a) (y ∷ b) h k =
    let files : x.file ≡ y.file = h.1 ∙ sym k.1 in
    let first : x ≡ y = same_list x y files (same_tokens d t.bytes x y h.0 k.0 files) in
    ap (λ z. z ∷ a) first ∙ ap (λ z. y ∷ z) (same_lists d (suc file) texts a b h.2 k.2)

lexed_there : (d : Dialect) (file : ℕ) (before : List NamedBytes) (t : NamedBytes) (after : List NamedBytes) (lists : List FileTokens) → AllLex d file (before ++ t ∷ after) lists → (list : FileTokens) × Lexes d t.bytes list
lexed_there d file [] t after [] h = absurd h
lexed_there d file [] t after (list ∷ lists) h = (list, h.0)
lexed_there d file (b ∷ before) t after [] h = absurd h
lexed_there d file (b ∷ before) t after (list ∷ lists) h = lexed_there d (suc file) before t after lists h.2

no_list : (d : Dialect) (file : ℕ) (bytes : List ℕ) (fault : LexFault) (list : FileTokens) → HasNoTokens d file bytes fault → Lexes d bytes list → ⊥
no_list d file bytes (lex.At kind span) list (n, fails, place) lexes = no_tokens d bytes list kind span.start lexes (n, fails)
no_list d file bytes (lex.Memory error) list none lexes = none

not_lexed : (d : Dialect) (texts : List NamedBytes) (fault : LexFault) (lists : List FileTokens) → FailsToLex d texts fault → AllLex d 0 texts lists → ⊥
not_lexed d texts fault lists f lexed =
    let (list, lexes) = lexed_there d 0 f.before f.failing f.after lists (subst (λ t. AllLex d 0 t lists) f.texts_are lexed) in
    no_list d (length f.before) f.failing.bytes fault list f.refused lexes

-- ---- trees

-- a tree of the tokens is written by them
spelled : (d : Dialect) (end : Span) (f : SourceFile) (tokens : List Placed) → Derives d end f tokens → tokens_of (write_file d f) ≡ plain tokens
spelled d end f tokens h =
    let t = written_taken end (write_file d f) tokens [] h.written in
    sym (ap plain (t.is ∙ append-nil t.tokens) ∙ t.are)

no_tree : (d : Dialect) (end : Span) (tokens : List Placed) (f : SourceFile) (place : Span) → Faults d end tokens (syntax.Unexpected place) → Derives d end f tokens → ⊥
no_tree d end tokens f place (inl (front, t, more, is, begun, none, at)) h =
    none (f, plain more, h.of_grammar, spelled d end f tokens h ∙ ap plain (is ∙ sym (append_assoc front (t ∷ []) more)) ∙ map-append (λ (x : Placed). x.token) (front ++ t ∷ []) more)
no_tree d end tokens f place (inr (begun, none, at)) h = none f h.of_grammar (spelled d end f tokens h)

no_flat_tree : (d : Dialect) (end : Span) (tokens : List Placed) (f : SourceFile) (place : Span) → Faults d end tokens (syntax.TooDeep place) → Derives d end f tokens → ⊥
no_flat_tree d end tokens f place deep h = deep.0 f h.of_grammar (spelled d end f tokens h) h.fits

has_no_tree : (d : Dialect) (t : NamedBytes) (list : FileTokens) (fault : SyntaxFault) (f : SourceFile) → HasNoTree d t list fault → DerivesText d t list f → ⊥
has_no_tree d t list (syntax.Unexpected place) f h k = no_tree d (end_of list.file t.bytes) (seen t.bytes list.tokens) f place h k
has_no_tree d t list (syntax.TooDeep place) f h k = no_flat_tree d (end_of list.file t.bytes) (seen t.bytes list.tokens) f place h k
has_no_tree d t list (syntax.Memory error) f h k = h

derived_there : (d : Dialect) (before : List NamedBytes) (t : NamedBytes) (after : List NamedBytes) (used : List FileTokens) (list : FileTokens) (more : List FileTokens) (trees all : List SourceFile)
    → AllDerive d before used trees → AllDerive d (before ++ t ∷ after) (used ++ list ∷ more) all → (f : SourceFile) × DerivesText d t list f
derived_there d [] t after [] list more trees [] h k = absurd k
derived_there d [] t after [] list more trees (f ∷ all) h k = (f, k.0)
derived_there d [] t after (u ∷ used) list more trees all h k = absurd (let e = h.0 in cc)
derived_there d (b ∷ before) t after [] list more trees all h k = absurd h
derived_there d (b ∷ before) t after (u ∷ used) list more [] all h k = absurd h
derived_there d (b ∷ before) t after (u ∷ used) list more (x ∷ trees) [] h k = absurd k
derived_there d (b ∷ before) t after (u ∷ used) list more (x ∷ trees) (f ∷ all) h k = derived_there d before t after used list more trees all h.1 k.1

not_parsed : (d : Dialect) (texts : List NamedBytes) (fault : SyntaxFault) (lists : List FileTokens) (all : List SourceFile) → FailsToParse d texts fault → AllLex d 0 texts lists → AllDerive d texts lists all → ⊥
not_parsed d texts fault lists all f lexed derived =
    let same : lists ≡ f.lists ++ f.list ∷ f.more = same_lists d 0 texts lists (f.lists ++ f.list ∷ f.more) lexed f.lexed in
    let there : AllDerive d (f.before ++ f.failing ∷ f.after) (f.lists ++ f.list ∷ f.more) all = subst (λ t. AllDerive d t (f.lists ++ f.list ∷ f.more) all) f.texts_are (subst (λ l. AllDerive d texts l all) same derived) in
    let (tree, derives) = derived_there d f.before f.failing f.after f.lists f.list f.more f.trees all f.derived there in
    has_no_tree d f.failing f.list fault tree f.refused derives

-- ---- each text has one tree

same_trees : (d : Dialect) (texts : List NamedBytes) (lists : List FileTokens) (a b : List SourceFile) → AllDerive d texts lists a → AllDerive d texts lists b → a ≡ b
same_trees d [] lists a b h k = h.1 ∙ sym k.1
same_trees d (t ∷ texts) [] a b h k = absurd h
same_trees d (t ∷ texts) (list ∷ lists) [] b h k = absurd h
same_trees d (t ∷ texts) (list ∷ lists) (x ∷ a) [] h k = absurd k
same_trees d (t ∷ texts) (list ∷ lists) (x ∷ a) (y ∷ b) h k =
    ap (λ z. z ∷ a) (derived_is_unique d (end_of list.file t.bytes) x y (seen t.bytes list.tokens) h.0 k.0) ∙ ap (λ z. y ∷ z) (same_trees d texts lists a b h.1 k.1)

built : (d : Dialect) (texts : List NamedBytes) (trees : List SourceFile) (span : Span) (ws : List Writing) → HaveTrees d texts trees → FirstUnbuiltIn d trees span → Accepts d texts ws → ⊥
built d texts trees span ws have first a =
    let lists : have.lists ≡ a.one.lists = same_lists d 0 texts have.lists a.one.lists have.lexed a.one.lexed in
    let same : trees ≡ a.tree ∷ [] = same_trees d texts a.one.lists trees (a.tree ∷ []) (subst (λ l. AllDerive d texts l trees) lists have.derived) a.one.derived in
    let unbuilt : FirstUnbuilt d a.tree span = subst (λ t. FirstUnbuiltIn d t span) same first in
    unbuilt_is_no_writer d a.tree span ws unbuilt a.writer

pub refused_are_not_accepted : RefusedAreNotAccepted
refused_are_not_accepted d texts refusal.TooLong ws of_texts long a = let short = a.short in omega (arith, long, short)
refused_are_not_accepted d texts (refusal.Lex fault) ws of_texts (short, fails) a = not_lexed d texts fault a.one.lists fails a.one.lexed
refused_are_not_accepted d texts (refusal.Syntax fault) ws of_texts (short, fails) a = not_parsed d texts fault a.one.lists (a.tree ∷ []) fails a.one.lexed a.one.derived
refused_are_not_accepted d texts (refusal.Unbuilt span) ws of_texts (short, (trees, have, first)) a = built d texts trees span ws have first a
refused_are_not_accepted d texts (refusal.Memory error) ws of_texts h a = of_texts
