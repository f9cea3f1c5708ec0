-- Worked examples: an unexpected token, and an expression that may begin at each level.
use Rattle.std.proofs.Common.{◌≡◌, ℕ, zero, suc, ◌+◌, true, false, List, [], ◌∷◌, ◌++◌, length, Some, refl, sym, ◌∙◌, ap, subst, inl, arith}
use Rattle.std.specs.Prelude.{codes}
use Rattle.std.specs.List.{Contains}
use Rattle.std.proofs.lemmas.List.Elements.{Contains-append_left}
use Rattle.c_tree.specs.Tree.{Expr, Null, Unary, Return, Empty, Then}
use Rattle.c_tree.specs.declared.operators.CUnary.TheVariants.{Minus}
use Rattle.c_tree.specs.declared.program.CMain.{CMain}
use Rattle.c_tree.specs.declared.program.CProgram.{CProgram}
use Rattle.c_grammar.specs.declared.fault.CTextKind.TheVariants.{Unexpected}
use Rattle.c_grammar.specs.declared.token.Word.TheVariants as word
use Rattle.c_grammar.specs.declared.token.Mark.TheVariants as mark
use Rattle.c_grammar.specs.Token.{Token, Quoted, Sign, placed, head_lines}
use Rattle.c_grammar.specs.Spelling.{spell_all, spell_expr, spell_main}
use Rattle.c_grammar.specs.Grammar.{IsExpr}
use Rattle.c_grammar.specs.Types.{Known, known, seen_last}
use Rattle.c_grammar.specs.Demands.{Level, Demand, Demands, after, expr_demands, statement_demands, body_demands, program_demands}
use Rattle.c_grammar.specs.Text.{Begins, MayBegin, Faults}
use Rattle.c_grammar.proofs.ReadingProgram.{Part, spell_part, at_int}
use Rattle.c_grammar.proofs.ReadsProgram.{part_int}
use Rattle.c_grammar.proofs.UniqueTree.{parts, spelled}
use Rattle.c_grammar.proofs.Worked.{placed_of, are_tokens}

-- ---- `int` is followed by `main` alone

int_main : (all : List Part) (m : CMain) (more : List Token) → spell_all spell_part all (spell_main m []) ≡ Quoted word.Int ∷ Quoted word.Int ∷ more → ⊥
int_main [] m more e = cc
int_main (p ∷ all) m more e =
    let after = spell_all spell_part all (spell_main m []) in
    let other : true ≡ false = ap at_int (sym e) ∙ part_int p after in cc

int_int : Begins (Quoted word.Int ∷ Quoted word.Int ∷ []) → ⊥
int_int (c, more, s) = int_main (parts c) c.main more (spelled c ∙ s.spelled)

unexpected : Faults (head_lines ++ codes "int int") Unexpected 75
unfolding placed_of
unexpected = inl (placed (Quoted word.Int) 71 ∷ [], placed (Quoted word.Int) 75, ([], are_tokens (codes "int int") _ _ refl), int_int, refl)

-- ---- within minus signs an expression may begin at each level

abbrev minus : ℕ → Expr
minus zero = Null
minus (suc n) = Unary Minus (minus n)

abbrev opening : ℕ → List Token
opening zero = []
opening (suc n) = Sign mark.Open ∷ Sign mark.Minus ∷ opening n

minus_spelled : (n : ℕ) (rest : List Token) → (more : List Token) × (spell_expr (minus n) rest ≡ opening n ++ more)
minus_spelled zero rest = (Quoted word.Null ∷ rest, refl)
minus_spelled (suc n) rest = let (more, e) = minus_spelled n (Sign mark.Close ∷ rest) in (more, ap (λ l. Sign mark.Open ∷ Sign mark.Minus ∷ l) e)

minus_is : (n : ℕ) → IsExpr (minus n)
minus_is zero = tt
minus_is (suc n) = minus_is n

opening_long : (n : ℕ) → length (opening n) ≡ n + n
opening_long zero = refl
opening_long (suc n) = omega (arith, opening_long n)

contains_later : {X : Type 0} (y : X) (xs : List X) (x : X) → Contains xs x → Contains (y ∷ xs) x
contains_later y xs x (k, h, e) = (suc k, omega arith, e)

contains_after : (m n to : ℕ) (d : Demand) (all : Demands) → m + n ≡ to → Contains all (n, d) → Contains (after m all) (to, d)
contains_after m n to d [] e (k, h, f) = absurd (grind arith)
contains_after m n to d (x ∷ all) e (zero, h, f) = (0, omega arith, λ i. let y = f i in ((ap (λ q. m + q.0) f ∙ e) i, y.1))
contains_after m n to d (x ∷ all) e (suc k, h, f) = contains_later (m + x.0, x.1) (after m all) (to, d) (contains_after m n to d all e (k, omega arith, f))

minus_level : (k : Known) (level n : ℕ) → Contains (expr_demands k level (minus n)) (n + n, Level (level + n))
minus_level k level zero = let e : level ≡ level + 0 = omega arith in (0, omega arith, λ i. (0, Level (e i)))
minus_level k level (suc n) =
    let inner : Contains (expr_demands k (suc level) (minus n)) (n + n, Level (level + suc n)) =
    subst (λ l. Contains (expr_demands k (suc level) (minus n)) (n + n, Level l)) (omega arith) (minus_level k (suc level) n) in
    contains_later (0, Level level) (after 2 (expr_demands k (suc level) (minus n))) (suc n + suc n, Level (level + suc n)) (contains_after 2 (n + n) (suc n + suc n) (Level (level + suc n)) (expr_demands k (suc level) (minus n)) (omega arith) inner)

abbrev negates : ℕ → CProgram
negates n = record {
  forwards = [];
  declarations = [];
  globals = [];
  prototypes = [];
  functions = [];
  main = record { locals = []; body = Return (Some (minus n)) ∷ [] };
}

abbrev front : ℕ → List Token
front n = Quoted word.Int ∷ Quoted word.Main ∷ Sign mark.Open ∷ Quoted word.Void ∷ Sign mark.Close ∷ Sign mark.OpenBrace ∷ Quoted word.Return ∷ opening n

negates_level : (n : ℕ) → Contains (program_demands (negates n)) (n + n + 7, Level (2 + n))
negates_level n =
    let k = known (seen_last (negates n)) in let d = Level (2 + n) in let m = n + n + 7 in
    let value = expr_demands k 2 (minus n) in
    let statement = statement_demands k [] [] 1 (Return (Some (minus n))) in
    let body = body_demands k [] [] 1 (Then (Return (Some (minus n))) Empty) in
    let in_statement : Contains statement (n + n + 1, d) = contains_later (0, Level 1) (after 1 value) (n + n + 1, d) (contains_after 1 (n + n) (n + n + 1) d value (omega arith) (minus_level k 2 n)) in
    let in_body : Contains body (n + n + 1, d) = Contains-append_left statement [] (n + n + 1, d) in_statement in
    let in_block : Contains (after 0 body) (n + n + 1, d) = contains_after 0 (n + n + 1) (n + n + 1) d body (omega arith) in_body in
    let in_main : Contains (after 6 (after 0 body)) (m, d) = contains_after 6 (n + n + 1) m d (after 0 body) (omega arith) in_block in
    let last : Contains (after 6 (after 0 body) ++ []) (m, d) = Contains-append_left (after 6 (after 0 body)) [] (m, d) in_main in
    let once : (all : Demands) → Contains all (m, d) → Contains (after 0 all) (m, d) = λ all h. contains_after 0 m m d all (omega arith) h in
    let ds = after 6 (after 0 body) ++ [] in
    once (after 0 (after 0 (after 0 (after 0 ds)))) (once (after 0 (after 0 (after 0 ds))) (once (after 0 (after 0 ds)) (once (after 0 ds) (once ds last))))

begins_at_each_level : (n : ℕ) → MayBegin (2 + n) (front n)
begins_at_each_level n =
    let (more, e) = minus_spelled n (Sign mark.Semicolon ∷ Sign mark.CloseBrace ∷ []) in
    let same : n + n + 7 ≡ length (front n) = omega (arith, opening_long n) in (
      negates n,
      more,
      record {
        of_grammar = (tt, tt, tt, tt, tt, (tt, (minus_is n, tt)));
        spelled = ap (λ l. Quoted word.Int ∷ Quoted word.Main ∷ Sign mark.Open ∷ Quoted word.Void ∷ Sign mark.Close ∷ Sign mark.OpenBrace ∷ Quoted word.Return ∷ l) e;
      },
      subst (λ l. Contains (program_demands (negates n)) (l, Level (2 + n))) same (negates_level n),
    )
