-- Lists of texts, with their tokens and trees.
use Rattle.std.proofs.Common.{◌≡◌, ℕ, suc, ◌+◌, ◌≤◌, ◌<◌, List, [], ◌∷◌, ◌++◌, length, refl, sym, subst, ap, ◌∙◌, arith}
use Rattle.std.proofs.lemmas.List.{append_assoc, length_push}
use Rattle.p2c_text.specs.declared.dialect.Dialect.{Dialect}
use Rattle.p2c_text.specs.Text.{NamedBytes}
use Rattle.dialect_lexer.specs.FileTokens.{FileTokens}
use Rattle.pascal_tree.specs.declared.files.SourceFile.{SourceFile}
use Rattle.translate_core.specs.Accepted.{size, AllLex, AllDerive, DerivesText}
use Rattle.translate_core.specs.Reading.{IsLexed, LexedUpTo, ParsedUpTo}

-- a text is no longer than all of them
pub one_short : (before : List NamedBytes) (t : NamedBytes) (after : List NamedBytes) (most : ℕ) → size (before ++ t ∷ after) ≤ most → length t.bytes ≤ most
one_short [] t after most h = let k : length t.bytes + size after ≤ most = h in omega (arith, k)
one_short (b ∷ before) t after most h = let k : length b.bytes + size (before ++ t ∷ after) ≤ most = h in one_short before t after most (omega (arith, k))

-- ---- tokens

lex_more : (d : Dialect) (file : ℕ) (before : List NamedBytes) (lists : List FileTokens) (t : NamedBytes) (list : FileTokens) → AllLex d file before lists
    → IsLexed d (file + length before) t.bytes list → AllLex d file (before ++ t ∷ []) (lists ++ list ∷ [])
lex_more d file [] [] t list all one = (one.0, one.1 ∙ omega arith, tt)
lex_more d file [] (l ∷ lists) t list all one = absurd all
lex_more d file (b ∷ before) [] t list all one = absurd all
lex_more d file (b ∷ before) (l ∷ lists) t list all one = (all.0, all.1, lex_more d (suc file) before lists t list all.2 (one.0, one.1 ∙ omega arith))

pub lex_next : (d : Dialect) (texts : List NamedBytes) (t : NamedBytes) (after : List NamedBytes) (file : ℕ) (lists : List FileTokens) (list : FileTokens) → LexedUpTo d texts (t ∷ after) file lists
    → IsLexed d file t.bytes list → LexedUpTo d texts after (file + 1) (lists ++ list ∷ [])
lex_next d texts t after file lists list h one = record {
  before = h.before ++ t ∷ [];
  is = h.is ∙ sym (append_assoc h.before (t ∷ []) after);
  count = omega (arith, h.count, length_push h.before t);
  lexed = lex_more d 0 h.before lists t list h.lexed (one.0, one.1 ∙ h.count ∙ omega arith);
}

-- ---- trees

derive_more : (d : Dialect) (before : List NamedBytes) (used : List FileTokens) (trees : List SourceFile) (t : NamedBytes) (list : FileTokens) (tree : SourceFile) → AllDerive d before used trees
    → DerivesText d t list tree → AllDerive d (before ++ t ∷ []) (used ++ list ∷ []) (trees ++ tree ∷ [])
derive_more d [] used trees t list tree (no_lists, no_trees) one =
    subst (λ u. AllDerive d (t ∷ []) (u ++ list ∷ []) (trees ++ tree ∷ [])) (sym no_lists) (subst (λ a. AllDerive d (t ∷ []) (list ∷ []) (a ++ tree ∷ [])) (sym no_trees) (one, (refl, refl)))
derive_more d (b ∷ before) [] trees t list tree all one = absurd all
derive_more d (b ∷ before) (l ∷ used) [] t list tree all one = absurd all
derive_more d (b ∷ before) (l ∷ used) (a ∷ trees) t list tree all one = (all.0, derive_more d before used trees t list tree all.1 one)

pub parse_next : (d : Dialect) (texts : List NamedBytes) (t : NamedBytes) (after : List NamedBytes) (lists : List FileTokens) (list : FileTokens) (more : List FileTokens) (trees : List SourceFile) (tree : SourceFile)
    → ParsedUpTo d texts (t ∷ after) lists (list ∷ more) trees → DerivesText d t list tree → ParsedUpTo d texts after lists more (trees ++ tree ∷ [])
parse_next d texts t after lists list more trees tree h one = record {
  before = h.before ++ t ∷ [];
  used = h.used ++ list ∷ [];
  is = h.is ∙ sym (append_assoc h.before (t ∷ []) after);
  lists_are = h.lists_are ∙ sym (append_assoc h.used (list ∷ []) more);
  to_read = subst (λ n. AllLex d n after more) (omega (arith, length_push h.before t)) h.to_read.2;
  derived = derive_more d h.before h.used trees t list tree h.derived one;
}

pub as_many : (d : Dialect) (texts : List NamedBytes) (lists : List FileTokens) (trees : List SourceFile) → AllDerive d texts lists trees → 0 < length texts → 0 < length trees
as_many d [] lists trees all some = omega (arith, some)
as_many d (t ∷ texts) [] trees all some = absurd all
as_many d (t ∷ texts) (list ∷ lists) [] all some = absurd all
as_many d (t ∷ texts) (list ∷ lists) (tree ∷ trees) all some = omega arith

-- a text that is left is short
pub left_short : (texts before rest : List NamedBytes) (t : NamedBytes) (after : List NamedBytes) (most : ℕ) → size texts ≤ most → texts ≡ before ++ rest → rest ≡ t ∷ after → length t.bytes ≤ most
left_short texts before rest t after most short is r = one_short before t after most (subst (λ l. size l ≤ most) (is ∙ ap (λ l. before ++ l) r) short)
