-- Variants of records that are written are read.
use Rattle.std.proofs.Common.{◌≡◌, ℕ, Bool, true, false, ◌&&◌, List, [], ◌∷◌, map, Option, Some, None, Ok, refl, ap, ◌∙◌}
use Rattle.std.specs.Option.{option_map}
use Rattle.p2c_text.specs.declared.dialect.Dialect.{Dialect}
use Rattle.p2c_text.specs.declared.place.Span.{Span}
use Rattle.dialect_lexer.specs.declared.token.Word.TheVariants as word_
use Rattle.dialect_lexer.specs.declared.token.Symbol.TheVariants as mark
use Rattle.pascal_tree.specs.declared.names.Identifier.{Identifier}
use Rattle.pascal_tree.specs.declared.types.TypeName.{TypeName}
use Rattle.pascal_tree.specs.declared.types.TypeName.TheVariants as name_
use Rattle.pascal_tree.specs.declared.types.Fields.{Fields}
use Rattle.pascal_tree.specs.declared.types.Variant.{Variant, out-Variant}
use Rattle.pascal_tree.specs.declared.types.Variants.{Variants, out-Variants}
use Rattle.token_parsing.specs.Parser.{Parser, begins, rest}
use Rattle.expr_parser.specs.Tokens.{Token, Placed, plain}
use Rattle.expr_parser.specs.Layout.{Layout, Done, ◌&◌, word, symbol, IsWritten}
use Rattle.expr_parser.specs.Semicolons.{with_semicolons}
use Rattle.expr_parser.specs.Writing.{identifier}
use Rattle.expr_parser.specs.Grammar.{some_all, optional}
use Rattle.expr_parser.specs.Classes.{identifiers, words, symbols, same_word, same_symbol}
use Rattle.expr_parser.specs.Constants.{begins_constant}
use Rattle.expr_parser.specs.ConstantNodes.{formed_case_label}
use Rattle.expr_parser.proofs.Lookahead.{looks_name, looks_word, looks_symbol, on_symbol, on_word, on_symbol_here, says_word, says_symbol}
use Rattle.expr_parser.proofs.Followed.{Looks, on_first}
use Rattle.expr_parser.proofs.FollowedParts.{Part, part_as, part_first, part_second, part_left, part_right, part_inside}
use Rattle.expr_parser.proofs.Exact.{written_as, written_split, written_inside, written_plain, ends_plain, name_rest, exact_then, exact_part, exact_token, exact_name, exact_made, exact_first, exact_second, looks_plain, looks_written}
use Rattle.expr_parser.proofs.ExactLists.{parts_exact}
use Rattle.expr_parser.proofs.ExactConstants.{case_labels_exact}
use Rattle.type_parser.specs.Writing.{optional_tag as write_tag, write_type_name, write_fields, write_variant, write_variants}
use Rattle.type_parser.specs.Grammar.{formed_fields, formed_variant, formed_variants}
use Rattle.type_parser.specs.Fields.{group, variant_of, variant, next_variant, more_variants, variant_list, begins_tag, optional_tag, selector, variants_of, variants, begins_more_variants, optional_variants}
use Rattle.type_parser.proofs.Views.{variant_is, variants_is}
use Rattle.type_parser.proofs.FollowedNames.{first_false, second_false, both_true}
use Rattle.type_parser.proofs.FollowedTypes.{Closing, at_close}
use Rattle.type_parser.proofs.FollowedRows.{NoMore, other, closing}
use Rattle.type_parser.proofs.FollowedVariants.{on_constant, looks_constant, labels_of, group_of, list_of, variant_written, variant_formed, variant_starts, variants_written, variants_formed, variants_spelled, write_more}
use Rattle.type_parser.proofs.ExactNames.{type_name_exact}
use Rattle.type_parser.proofs.ExactTypes.{FieldsExact}

-- ---- tests of two tokens

-- the tokens behind the next one
abbrev behind : List Token → List Token
behind [] = []
behind (x ∷ w) = w

plain_rest : (s : List Placed) → plain (rest s) ≡ behind (plain s)
plain_rest [] = refl
plain_rest (t ∷ s) = refl

-- where no part goes on
pub no_more : {first : List Placed → Bool} {on : Token → Bool} → Looks first on → (s : List Placed) (w : List Token) → plain s ≡ w → NoMore on w → (begins (symbols mark.Semicolon) s && first (rest s)) ≡ false
no_more {on} looks s _ is (other x w e) = first_false _ _ (looks_plain (looks_symbol mark.Semicolon) s ∙ ap (on_first (on_symbol mark.Semicolon)) is ∙ e)
no_more {on} looks s _ is (closing y w e) = second_false _ _ (looks_plain looks (rest s) ∙ ap (on_first on) (plain_rest s ∙ ap behind is) ∙ e)

module _ (end : Span) where
  -- ---- what stands before variants

  tag_exact : (tag : Option Identifier) (t : TypeName) (after : Layout) → (w : List Token) → on_first (on_symbol mark.Colon) w ≡ false → (s m m' : List Placed) → IsWritten end (write_tag tag) s m → IsWritten end (write_type_name t) m m' → plain m' ≡ w
      → optional_tag s ≡ Ok (tag, m)
  unfolding optional_tag
  tag_exact None (name_.String span) after w ends s m m' h name is =
      exact_second (begins_tag s) _ _ (first_false _ _ (ap (begins identifiers) h ∙ looks_written looks_name end (write_type_name (name_.String span)) m m' name)) (ap (λ z. Ok (None, z)) h)
  tag_exact None (name_.Name i) after w ends s m m' h name is =
      let colon : begins (symbols mark.Colon) (rest s) ≡ false = ap (λ z. begins (symbols mark.Colon) (rest z)) h ∙ ap (begins (symbols mark.Colon)) (name_rest end i m m' name) ∙ looks_plain (looks_symbol mark.Colon) m' ∙ ap (on_first (on_symbol mark.Colon)) is ∙ ends in
      exact_second (begins_tag s) _ _ (second_false (begins identifiers s) _ colon) (ap (λ z. Ok (None, z)) h)
  tag_exact (Some i) t after w ends s m m' h name is =
      let colon = symbol mark.Colon in let (n, left, right) = written_split end (identifier i) colon s m h in
      let dots : begins (symbols mark.Colon) (rest s) ≡ true = ap (begins (symbols mark.Colon)) (name_rest end i s n left) ∙ looks_written (looks_symbol mark.Colon) end colon n m right ∙ on_symbol_here mark.Colon in
      exact_first (begins_tag s) _ _ (both_true _ _ (looks_written looks_name end (identifier i & colon) s m h) dots)
      (exact_name _ i end colon s m h (λ n h. exact_token _ (symbols mark.Colon) (says_symbol mark.Colon) end Done n m h (λ n h. ap (λ z. Ok (Some i, z)) h)))

  selector_exact : (tag : Option Identifier) (t : TypeName) (after : Layout) (s r : List Placed) → IsWritten end (word word_.KwCase & write_tag tag & write_type_name t & word word_.KwOf & after) s r
      → (m : List Placed) × IsWritten end after m r × (selector end s ≡ Ok ((tag, t), m))
  unfolding selector same_symbol
  selector_exact tag t after s r (first, more, is, same, h) =
      let of = word word_.KwOf & after in
      let (a, tagged, others) = written_split end (write_tag tag) (write_type_name t & of) more r h in
      let (b, named, (last, m, is', same', right)) = written_split end (write_type_name t) of a r others in
      let of_written : IsWritten end of b r = (last, m, is', same', right) in (
        m,
        right,
        exact_token _ (words word_.KwCase) (says_word word_.KwCase) end (write_tag tag) s a (first, more, is, same, tagged) (λ n h.
            exact_then _ (tag_exact tag t after (plain b) (ap (on_first (on_symbol mark.Colon)) (written_plain end of b r of_written)) n a b h named refl)
            (exact_then _ (type_name_exact end t a b named)
            (exact_token _ (words word_.KwOf) (says_word word_.KwOf) end Done b m (last, m, is', same', refl) (λ n h. ap (λ z. Ok ((tag, t), z)) h)))),
      )

  -- ---- variants

  module _ (d : Dialect) (k : ℕ) (inner : Parser Placed Fields) (inner_good : FieldsExact d end k inner) where
    group_exact : (f : Fields) → Part (Unit {0}) k (write_fields f) (formed_fields d f) → (s r : List Placed) → IsWritten end (symbol mark.Open & write_fields f & symbol mark.Close) s r → group inner s ≡ Ok (f, r)
    unfolding group
    group_exact f part s r h =
        let close = symbol mark.Close in
        exact_token _ (symbols mark.Open) (says_symbol mark.Open) end (write_fields f & close) s r h (λ m h.
        exact_part _ f end (write_fields f) close m r h (λ m' left right. inner_good f part m m' left (ends_plain Closing end close m' r right (at_close _))) (λ m h.
        exact_token _ (symbols mark.Close) (says_symbol mark.Close) end Done m r h (λ m h. ap (λ z. Ok (f, z)) h)))

    variant_exact : (x : Variant) → Part (Unit {0}) k (write_variant x) (formed_variant d x) → (s r : List Placed) → IsWritten end (write_variant x) s r → Unit {0} → variant d end inner s ≡ Ok (x, r)
    unfolding variant same_symbol
    variant_exact x part s r h ends =
        let labels = labels_of x in let others = symbol mark.Colon & group_of x in let fields = write_fields (out-Variant x).fields in
        let p = part_inside _ (part_as (variant_written x) (variant_formed d x) part) in
        let formed_labels = some_all (map (formed_case_label d) (out-Variant x).labels) in
        let q = part_second labels others formed_labels (formed_fields d (out-Variant x).fields) p in
        let (place, inside) = written_inside end (out-Variant x).span (labels & others) s r (written_as end s r (variant_written x) h) in
        exact_part _ (out-Variant x).labels end labels others s r inside
        (λ m left right. case_labels_exact d end k (out-Variant x).labels (part_first labels others formed_labels (formed_fields d (out-Variant x).fields) p) s m left (ap (on_first (on_symbol mark.DotDot)) (written_plain end others m r right)) (ap (on_first (on_symbol mark.Comma)) (written_plain end others m r right))) (λ m h.
        exact_token _ (symbols mark.Colon) (says_symbol mark.Colon) end (group_of x) m r h (λ m h.
        exact_then _ (group_exact (out-Variant x).fields (part_left fields (symbol mark.Close) (part_right (symbol mark.Colon & symbol mark.Open) (fields & symbol mark.Close) q)) m r h)
        (exact_made end (out-Variant x).span (variant_of (out-Variant x).labels (out-Variant x).fields) s r r refl (variant_is x) place)))

    list_exact : (xs : List Variant) → Part (Unit {0}) k (with_semicolons (map write_variant xs)) (some_all (map (formed_variant d) xs)) → (s r : List Placed) → IsWritten end (with_semicolons (map write_variant xs)) s r → NoMore on_constant (plain r)
        → variant_list d end inner s ≡ Ok (xs, r)
    unfolding variant_list more_variants next_variant
    list_exact [] part s r h none = let no = part.formed in absurd cc
    list_exact (x ∷ xs) part s r h none =
        parts_exact end k write_variant (formed_variant d) (variant d end inner) (λ w. Unit {0}) (λ w. tt) begins_constant on_constant looks_constant (variant_starts d) variant_exact x xs part s r h tt (no_more looks_constant r (plain r) refl none)

    pub variants_exact : (x : Variants) → Part (Unit {0}) k (write_variants x) (formed_variants d x) → (s r : List Placed) → IsWritten end (write_variants x) s r → NoMore on_constant (plain r) → variants d end inner s ≡ Ok (x, r)
    unfolding variants
    variants_exact x part s r h none =
        let tag = write_tag (out-Variants x).tag in let name = write_type_name (out-Variants x).of in let l = word word_.KwCase & tag & name & word word_.KwOf & list_of x in
        let p = part_inside l (part_as (variants_written x) (variants_formed d x) part) in
        let q = part_right (word word_.KwOf) (list_of x) (part_right name (word word_.KwOf & list_of x) (part_right tag (name & word word_.KwOf & list_of x) (part_right (word word_.KwCase) (tag & name & word word_.KwOf & list_of x) p))) in
        let (place, inside) = written_inside end (out-Variants x).span l s r (written_as end s r (variants_written x) h) in
        let (m, others, is) = selector_exact (out-Variants x).tag (out-Variants x).of (list_of x) s r inside in
        exact_then _ is (exact_then _ (list_exact (out-Variants x).list q m r others none)
        (exact_made end (out-Variants x).span (variants_of ((out-Variants x).tag, (out-Variants x).of) (out-Variants x).list) s r r refl (variants_is x) place))

    -- ---- what may stand behind the fixed part

    pub optional_variants_exact : (x : Option Variants) → Part (Unit {0}) k (write_more x) (optional (option_map (formed_variants d) x)) → (s r : List Placed) → IsWritten end (write_more x) s r → NoMore (on_word word_.KwCase) (plain r) → NoMore on_constant (plain r)
        → optional_variants d end inner s ≡ Ok (x, r)
    unfolding optional_variants same_word
    optional_variants_exact None part s r h alone none =
        exact_second (begins_more_variants s) _ _ (ap begins_more_variants h ∙ no_more (looks_word word_.KwCase) r (plain r) refl alone) (ap (λ z. Ok (None, z)) h)
    optional_variants_exact (Some x) part s r (first, more, is, same, h) alone none =
        let l = symbol mark.Semicolon & write_variants x in let whole : IsWritten end l s r = (first, more, is, same, h) in
        let case_ : begins (words word_.KwCase) (rest s) ≡ true = ap (λ z. begins (words word_.KwCase) (rest z)) is ∙ looks_written (looks_word word_.KwCase) end (write_variants x) more r h ∙ ap (on_first (on_word word_.KwCase)) (variants_spelled x (plain r)) in
        exact_first (begins_more_variants s) _ _ (both_true _ _ (looks_written (looks_symbol mark.Semicolon) end l s r whole ∙ on_symbol_here mark.Semicolon) case_)
        (exact_token _ (symbols mark.Semicolon) (says_symbol mark.Semicolon) end (write_variants x) s r whole (λ m h. exact_then _ (variants_exact x (part_right (symbol mark.Semicolon) (write_variants x) part) m r h none) refl))
