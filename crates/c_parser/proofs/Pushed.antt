-- Lists that grow at their end: what they spell, and what they demand.
use Rattle.std.proofs.Common.{◌≡◌, ℕ, ◌+◌, ◌≤◌, List, [], ◌∷◌, ◌++◌, refl, ap, subst, arith}
use Rattle.std.specs.List.{AllByRecursion}
use Rattle.c_tree.specs.Tree.{Expr, Statement, body_of}
use Rattle.c_grammar.specs.Token.{Token}
use Rattle.c_grammar.specs.Spelling.{Spelling, count, spell_all, spell_statement, spell_body}
use Rattle.c_grammar.specs.Grammar.{IsStatement, IsBody}
use Rattle.c_grammar.specs.Demands.{Demands, Names, all_demands, body_demands, statement_demands, labels_in}
use Rattle.c_grammar.specs.Types.{Known}
use Rattle.c_grammar.proofs.Spelled.{Follow, count_more, statement_follow}
use Rattle.c_expr_parser.specs.Depth.{statement_depth, body_depth, expr_depth, arguments_depth}
use Rattle.c_expr_parser.proofs.Holes.{Among, in_first, in_second, in_after}

pub all_pushed : {A : Type 0} (spell : Spelling A) (all : List A) (a : A) (u : List Token) → spell_all spell (all ++ a ∷ []) u ≡ spell_all spell all (spell a u)
all_pushed spell [] a u = refl
all_pushed spell (x ∷ all) a u = ap (spell x) (all_pushed spell all a u)

pub each_pushed : {A : Type 0} (P : A → Type 0) (all : List A) (a : A) → AllByRecursion P all → P a → AllByRecursion P (all ++ a ∷ [])
each_pushed P [] a h k = (k, tt)
each_pushed P (x ∷ all) a h k = (h.0, each_pushed P all a h.1 k)

pub body_pushed : (all : List Statement) (a : Statement) (u : List Token) → spell_body (body_of (all ++ a ∷ [])) u ≡ spell_body (body_of all) (spell_statement a u)
body_pushed [] a u = refl
body_pushed (x ∷ all) a u = ap (spell_statement x) (body_pushed all a u)

pub is_body_pushed : (all : List Statement) (a : Statement) → IsBody (body_of all) → IsStatement a → IsBody (body_of (all ++ a ∷ []))
is_body_pushed [] a h k = (k, tt)
is_body_pushed (x ∷ all) a h k = (h.0, is_body_pushed all a h.1 k)

pub body_depth_pushed : (all : List Statement) (a : Statement) (d : ℕ) → body_depth (body_of all) ≤ d → statement_depth a ≤ d → body_depth (body_of (all ++ a ∷ [])) ≤ d
body_depth_pushed [] a d h k = grind arith
body_depth_pushed (x ∷ all) a d h k = let more = body_depth_pushed all a d (grind arith) k in grind (arith, more)

pub arguments_depth_pushed : (all : List Expr) (a : Expr) (d : ℕ) → arguments_depth all ≤ d → expr_depth a ≤ d → arguments_depth (all ++ a ∷ []) ≤ d
arguments_depth_pushed [] a d h k = grind arith
arguments_depth_pushed (x ∷ all) a d h k = let more = arguments_depth_pushed all a d (grind arith) k in grind (arith, more)

-- ---- the levels of the last item

moved : {all : Demands} {n l : ℕ} (m : ℕ) → n ≡ m → Among all n l → Among all m l
moved {all} {n} {l} m e h = subst (λ k. Among all k l) e h

pub all_last : {S A : Type 0} (spell : Spelling A) → Follow spell → (step : S → A → S) (demands : S → A → Demands) (I : S → Type 0) → ((s : S) (a : A) → I s → I (step s a)) → (s : S) → I s
    → (all : List A) (a : A) (n l : ℕ) → ((s : S) → I s → Among (demands s a) n l) → Among (all_demands spell step demands s (all ++ a ∷ [])) (count (spell_all spell) all + n) l
all_last spell follow step demands I kept s i [] a n l h = moved (0 + n) (omega arith) (in_first _ (h s i))
all_last spell follow step demands I kept s i (x ∷ all) a n l h =
    moved (count (spell_all spell) (x ∷ all) + n) (omega (arith, count_more spell follow x (spell_all spell all [])))
    (in_second _ (in_after (count spell x) (all_last spell follow step demands I kept (step s x) (kept s x i) all a n l h)))

pub body_last : (k : Known) (reached above : Names) (level : ℕ) (all : List Statement) (a : Statement) (n l : ℕ) → ((above : Names) → Among (statement_demands k reached above level a) n l)
    → Among (body_demands k reached above level (body_of (all ++ a ∷ []))) (count spell_body (body_of all) + n) l
body_last k reached above level [] a n l h = moved (0 + n) (omega arith) (in_first _ (h above))
body_last k reached above level (x ∷ all) a n l h =
    moved (count spell_body (body_of (x ∷ all)) + n) (omega (arith, count_more spell_statement statement_follow x (spell_body (body_of all) [])))
    (in_second _ (in_after (count spell_statement x) (body_last k reached (above ++ labels_in x) level all a n l h)))
