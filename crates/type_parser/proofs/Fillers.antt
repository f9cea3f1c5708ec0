-- What may stand where a part is wanted.
use Rattle.std.proofs.Common.{true, false, [], ◌∷◌, map, None, refl, sym, subst, ◌∙◌}
use Rattle.std.specs.Prelude.{IsTrue}
use Rattle.p2c_text.specs.declared.dialect.Dialect.{Dialect}
use Rattle.p2c_text.specs.declared.dialect.Dialect.TheVariants as dialect
use Rattle.p2c_text.specs.declared.place.Span.{Span}
use Rattle.dialect_lexer.specs.Bytes.{start_of}
use Rattle.dialect_lexer.specs.Ends.{run}
use Rattle.dialect_lexer.specs.Words.{word_of, words_with}
use Rattle.dialect_lexer.specs.Cut.{cut_by, cut_name, cut_parenthesis}
use Rattle.dialect_lexer.specs.declared.token.TokenKind.TheVariants as kind
use Rattle.dialect_lexer.specs.declared.token.Word.TheVariants as word_
use Rattle.dialect_lexer.specs.declared.token.Symbol.TheVariants as mark
use Rattle.pascal_tree.specs.declared.names.Identifier.{Identifier}
use Rattle.pascal_tree.specs.declared.constants.Constant.{Constant}
use Rattle.pascal_tree.specs.declared.constants.Constant.TheVariants as constant
use Rattle.pascal_tree.specs.declared.constants.CaseLabel.{CaseLabel}
use Rattle.pascal_tree.specs.declared.types.TypeName.{TypeName}
use Rattle.pascal_tree.specs.declared.types.TypeName.TheVariants as type_name
use Rattle.pascal_tree.specs.declared.types.Fields.{Fields}
use Rattle.pascal_tree.specs.declared.types.Variant.{Variant}
use Rattle.pascal_tree.specs.declared.types.TypeNode.{TypeNode}
use Rattle.pascal_tree.specs.declared.types.TypeNode.TheVariants as node
use Rattle.dialect_lexer.proofs.Pieces.{cut_front}
use Rattle.pascal_tree.specs.declared.declarations.Formal.{Formal}
use Rattle.pascal_tree.specs.declared.declarations.Formal.TheVariants as formal
use Rattle.pascal_tree.specs.declared.declarations.Formals.{Formals}
use Rattle.expr_parser.specs.Tokens.{Word, Symbol}
use Rattle.expr_parser.specs.Layout.{Layout, Done, ◌&◌, symbol, spanned, counted, with_commas, tokens_of}
use Rattle.expr_parser.specs.Writing.{identifier}
use Rattle.expr_parser.specs.Grammar.{IsToken, AreTokens}
use Rattle.expr_parser.specs.Semicolons.{with_semicolons}
use Rattle.expr_parser.specs.ConstantNodes.{write_case_label}
use Rattle.expr_parser.proofs.FollowedParts.{and_in}
use Rattle.expr_parser.proofs.KnownTokens.{whole_known, name_known, close_known, colon_known}
use Rattle.type_parser.specs.Writing.{write_names, write_type_name, write_type, write_fields, write_variant, write_formal, write_formals}
use Rattle.type_parser.specs.Grammar.{formed_fields, formed_variant, formed_formal, formed_formals}
use Rattle.type_parser.specs.Fields.{variant_of, fields_of}
use Rattle.type_parser.specs.Formals.{formals_of}
use Rattle.type_parser.proofs.WrittenNodes.{write_type_named, write_fields_of, write_variant_of, write_formal_variables, write_formals_of}
use Rattle.type_parser.proofs.FormedNodes.{formed_fields_of, formed_variant_of, formed_formal_variables, formed_formals_of}

pub open_known : (d : Dialect) → IsToken d (Symbol mark.Open)
unfolding start_of cut_by cut_parenthesis
open_known dialect.Iso = whole_known dialect.Iso (40 ∷ []) (kind.Symbol mark.Open) (cut_front dialect.Iso 40 [])
open_known dialect.Turbo = whole_known dialect.Turbo (40 ∷ []) (kind.Symbol mark.Open) (cut_front dialect.Turbo 40 [])
open_known dialect.Ucsd = whole_known dialect.Ucsd (40 ∷ []) (kind.Symbol mark.Open) (cut_front dialect.Ucsd 40 [])
open_known dialect.Hp = whole_known dialect.Hp (40 ∷ []) (kind.Symbol mark.Open) (cut_front dialect.Hp 40 [])

pub set_known : (d : Dialect) → IsToken d (Word word_.KwSet)
unfolding start_of cut_by cut_name run word_of words_with
set_known dialect.Iso = whole_known dialect.Iso (115 ∷ 101 ∷ 116 ∷ []) (kind.Word word_.KwSet) (cut_front dialect.Iso 115 (101 ∷ 116 ∷ []))
set_known dialect.Turbo = whole_known dialect.Turbo (115 ∷ 101 ∷ 116 ∷ []) (kind.Word word_.KwSet) (cut_front dialect.Turbo 115 (101 ∷ 116 ∷ []))
set_known dialect.Ucsd = whole_known dialect.Ucsd (115 ∷ 101 ∷ 116 ∷ []) (kind.Word word_.KwSet) (cut_front dialect.Ucsd 115 (101 ∷ 116 ∷ []))
set_known dialect.Hp = whole_known dialect.Hp (115 ∷ 101 ∷ 116 ∷ []) (kind.Word word_.KwSet) (cut_front dialect.Hp 115 (101 ∷ 116 ∷ []))

-- ---- a name

abbrev pub no_span : Span
no_span = record { file = 0; start = 0; end = 0; line = 0 }

abbrev pub a_name : Identifier
a_name = record { name = 97 ∷ []; span = no_span }

abbrev pub a_constant : Constant
a_constant = constant.Name None a_name no_span

abbrev pub a_type : TypeNode
a_type = node.Name a_name

-- what is told of a type by its layout holds of the name
pub of_a_type : (P : Layout → Type 0) → P (counted (identifier a_name)) → P (write_type a_type)
of_a_type P h = subst P (sym (write_type_named a_name)) h

-- ---- a variant without fields

abbrev pub no_fields : Fields
no_fields = fields_of None None false no_span

-- what is told of a list of fields by its layout holds of none
pub of_no_fields : (P : Layout → Type 0) → P (counted (spanned no_span Done)) → P (write_fields no_fields)
of_no_fields P h = subst P (sym (write_fields_of None None false no_span)) h

pub no_fields_formed : (d : Dialect) → IsTrue (formed_fields d no_fields)
no_fields_formed d = formed_fields_of d None None false no_span

abbrev a_label : CaseLabel
a_label = record { first = a_constant; last = None; span = no_span }

abbrev pub a_variant : Variant
a_variant = variant_of (a_label ∷ []) no_fields no_span

pub a_variant_known : (d : Dialect) → AreTokens d (tokens_of (with_semicolons (map write_variant (a_variant ∷ []))))
a_variant_known d =
    subst (λ l. AreTokens d (tokens_of (with_semicolons (l ∷ [])))) (sym (write_variant_of (a_label ∷ []) no_fields no_span))
    (of_no_fields (λ l. AreTokens d (tokens_of (with_semicolons (spanned no_span (with_commas (map write_case_label (a_label ∷ [])) & symbol mark.Colon & symbol mark.Open & l & symbol mark.Close) ∷ [])))) (name_known d, (colon_known d, (open_known d, (close_known d, tt)))))

pub a_variant_formed : (d : Dialect) → IsTrue (formed_variant d a_variant)
a_variant_formed d = formed_variant_of d (a_label ∷ []) no_fields no_span ∙ no_fields_formed d

-- ---- formal parameters

abbrev a_type_name : TypeName
a_type_name = type_name.Name a_name

abbrev pub a_formal : Formal
a_formal = formal.Variables false (a_name ∷ []) a_type_name no_span

pub of_a_formal : (P : Layout → Type 0) → P (spanned no_span (write_names (a_name ∷ []) & symbol mark.Colon & write_type_name a_type_name)) → P (write_formal a_formal)
of_a_formal P h = subst P (sym (write_formal_variables false (a_name ∷ []) a_type_name no_span)) h

pub a_formal_formed : IsTrue (formed_formal a_formal)
a_formal_formed = formed_formal_variables false (a_name ∷ []) a_type_name no_span

abbrev pub some_formals : Formals
some_formals = formals_of (a_formal ∷ []) no_span

pub of_some_formals : (P : Layout → Type 0) → P (counted (spanned no_span (symbol mark.Open & with_semicolons (map write_formal (a_formal ∷ [])) & symbol mark.Close))) → P (write_formals some_formals)
of_some_formals P h = subst P (sym (write_formals_of (a_formal ∷ []) no_span)) h

pub some_formals_formed : IsTrue (formed_formals some_formals)
some_formals_formed = formed_formals_of (a_formal ∷ []) no_span ∙ and_in (formed_formal a_formal) true a_formal_formed refl

-- the tokens behind the parenthesis that opens them
pub formals_known : (d : Dialect) → AreTokens d (tokens_of (with_semicolons (map write_formal (a_formal ∷ [])) & symbol mark.Close))
formals_known d = of_a_formal (λ l. AreTokens d (tokens_of (with_semicolons (l ∷ []) & symbol mark.Close))) (name_known d, (colon_known d, (name_known d, (close_known d, tt))))

pub some_formals_known : (d : Dialect) → AreTokens d (tokens_of (write_formals some_formals))
some_formals_known d =
    of_some_formals (λ l. AreTokens d (tokens_of l))
    (of_a_formal (λ l. AreTokens d (tokens_of (counted (spanned no_span (symbol mark.Open & with_semicolons (l ∷ []) & symbol mark.Close))))) (open_known d, (name_known d, (colon_known d, (name_known d, (close_known d, tt))))))
