-- That the steps over statements find whether their demands hold.
use Rattle.std.proofs.Common.{◌≡◌, ℕ, suc, ◌+◌, Bool, true, false, not, nat_lt, List, [], ◌∷◌, ◌++◌, Option, Some, None, Ok, Err, refl, sym, ap, subst, ◌∙◌, arith, append_assoc}
use Rattle.std.proofs.lemmas.List.{append-nil}
use Rattle.c_tree.specs.Tree.{ObjectType, Expr, Place, Statement, Assign, Call, Malloc, Free, GetChar, PutChar, If, IfElse, While, Goto, Label, Return, Body, Empty, Then}
use Rattle.c_tree.specs.declared.statement.CCallee.{CCallee}
use Rattle.c_tree.specs.declared.statement.CCallee.TheVariants.{Direct, Indirect}
use Rattle.c_grammar.specs.declared.fault.CTextKind.TheVariants.{BadGoto, DoubleName}
use Rattle.c_grammar.specs.declared.token.Word.TheVariants as word
use Rattle.c_grammar.specs.declared.token.Mark.TheVariants as mark
use Rattle.c_grammar.specs.Token.{Quoted, Sign}
use Rattle.c_grammar.specs.Types.{Known}
use Rattle.c_grammar.specs.Spelling.{count, spell_all, spell_next, spell_listed, spell_type, spell_expr, spell_place, spell_into, spell_callee, spell_value, spell_statement, spell_body}
use Rattle.c_grammar.specs.Demands.{Names, Leads, Differs, Demands, after, listed_demands, same, among, expr_demands, into_demands, callee_demands, value_demands, own_labels, labels_in, labels_of, statement_demands, body_demands}
use Rattle.c_grammar.proofs.Spelled.{count_more, next_follow, listed_follow, type_follow, expr_follow, place_follow, into_follow, callee_follow, value_follow, statement_follow, body_follow}
use Rattle.c_conditions.specs.Names.{zero, with_name}
use Rattle.c_conditions.specs.World.{World}
use Rattle.c_conditions.specs.Steps.{Outcome, Step, go_on, each}
use Rattle.c_conditions.specs.TypeSteps.{type_of}
use Rattle.c_conditions.specs.ExprSteps.{expr_step}
use Rattle.c_conditions.specs.StatementSteps.{assign, into, callee, next_argument, arguments, call, malloc, get_char, given, goto, label, returned, value, test, leave, within, statement, statements, block}
use Rattle.c_conditions.proofs.Meets.{Meets, MeetsBy, at, pass_first, seq, began, stayed, passed, pass_last, changed, tested, levelled, recount, retarget, rebase, each_meets}
use Rattle.c_conditions.proofs.MeetsExpr.{Knows, holds, fails, type_meets, expr_meets, place_meets}
use Rattle.c_conditions.proofs.Reach.{seen_names, label_added, raise_all, restored, Reaches, reaches_more, enter_is, leave_is}

-- ---- statements without others in them

assign_meets : (k : Known) (w : World) → Knows k w → (reached above : Names) (level : ℕ) (p : Place) (a : Expr)
    → Meets w (statement_demands k reached above level (Assign p a)) (count spell_statement (Assign p a)) w (assign p a w)
assign_meets k w g reached above level p a =
    recount (count spell_statement (Assign p a)) (omega (arith, count_more spell_place place_follow p (Sign mark.Assign ∷ spell_expr a (Sign mark.Semicolon ∷ [])), count_more spell_expr expr_follow a (Sign mark.Semicolon ∷ [])))
    (pass_last 1 (seq (expr_step a) (count spell_place p + 1) refl (levelled level (pass_last 1 (place_meets k w g (suc level) p)))
    (rebase w (w.place + (count spell_place p + 1)) (expr_meets k (at w (w.place + (count spell_place p + 1))) g (suc level) a))))

into_meets : (k : Known) (w : World) → Knows k w → (level : ℕ) (place : Option Place) → Meets w (into_demands k level place) (count spell_into place) w (into place w)
into_meets k w g level None = began w
into_meets k w g level (Some p) = recount (count spell_into (Some p)) (omega (arith, count_more spell_place place_follow p (Sign mark.Assign ∷ []))) (pass_last 1 (place_meets k w g level p))

callee_meets : (k : Known) (w : World) → Knows k w → (level : ℕ) (called : CCallee) → Meets w (callee_demands k level called) (count spell_callee called) w (callee called w)
callee_meets k w g level (Direct n) = passed w 1
callee_meets k w g level (Indirect a) =
    recount (count spell_callee (Indirect a)) (omega (arith, count_more spell_expr expr_follow a (Sign mark.Close ∷ [])))
    (pass_last 1 (pass_first 2 refl refl (rebase w (w.place + 2) (expr_meets k (at w (w.place + 2)) g level a))))

next_meets : (k : Known) (w : World) → Knows k w → (level : ℕ) (a : Expr) (place : ℕ) → Meets (at w place) (after 1 (expr_demands k level a)) (count (spell_next spell_expr) a) w (next_argument a (at w place))
next_meets k w g level a place =
    recount (count (spell_next spell_expr) a) (omega arith) (pass_first 1 refl refl (rebase w (place + 1) (expr_meets k (at w (place + 1)) g level a)))

arguments_meets : (k : Known) (w : World) → Knows k w → (level : ℕ) (all : List Expr) → Meets w (listed_demands spell_expr same (expr_demands k) level all) (count (spell_listed spell_expr) all) w (arguments all w)
arguments_meets k w g level [] = began w
arguments_meets k w g level (a ∷ more) =
    recount (count (spell_listed spell_expr) (a ∷ more)) (sym (count_more spell_expr expr_follow a (spell_all (spell_next spell_expr) more [])))
    (seq (each next_argument more) (count spell_expr a) refl (expr_meets k w g level a)
    (each_meets (spell_next spell_expr) (next_follow spell_expr expr_follow) same (λ s b. after 1 (expr_demands k s b)) next_argument (λ s. w) (λ s b place. next_meets k w g s b place) level more (w.place + count spell_expr a)))

call_meets : (k : Known) (w : World) → Knows k w → (reached above : Names) (level : ℕ) (place : Option Place) (called : CCallee) (all : List Expr)
    → Meets w (statement_demands k reached above level (Call place called all)) (count spell_statement (Call place called all)) w (call place called all w)
call_meets k w g reached above level place called all =
    let before = count spell_into place in let name = count spell_callee called in
    let end = Sign mark.Close ∷ Sign mark.Semicolon ∷ [] in
    let list = spell_listed spell_expr all end in
    recount (count spell_statement (Call place called all))
    (omega (arith, count_more spell_into into_follow place (spell_callee called (Sign mark.Open ∷ list)), count_more spell_callee callee_follow called (Sign mark.Open ∷ list), count_more (spell_listed spell_expr) (listed_follow spell_expr expr_follow) all end))
    (pass_last 2 (seq (arguments all) (before + name + 1) refl
    (pass_last 1 (seq (callee called) before refl (levelled level (into_meets k w g (suc level) place)) (rebase w (w.place + before) (callee_meets k (at w (w.place + before)) g (suc level) called))))
    (rebase w (w.place + (before + name + 1)) (arguments_meets k (at w (w.place + (before + name + 1))) g (suc level) all))))

malloc_meets : (k : Known) (w : World) → Knows k w → (reached above : Names) (level : ℕ) (p : Place) (of : ObjectType)
    → Meets w (statement_demands k reached above level (Malloc p of)) (count spell_statement (Malloc p of)) w (malloc p of w)
malloc_meets k w g reached above level p of =
    let end = Sign mark.Close ∷ Sign mark.Close ∷ Sign mark.Semicolon ∷ [] in
    recount (count spell_statement (Malloc p of))
    (omega (arith, count_more spell_place place_follow p (Sign mark.Assign ∷ Quoted word.Malloc ∷ Sign mark.Open ∷ Quoted word.SizeOf ∷ Sign mark.Open ∷ spell_type of end), count_more spell_type type_follow of end))
    (pass_last 3 (seq (type_of of) (count spell_place p + 5) refl (levelled level (pass_last 5 (place_meets k w g (suc level) p)))
    (rebase w (w.place + (count spell_place p + 5)) (type_meets k (at w (w.place + (count spell_place p + 5))) g of))))

given_meets : (k : Known) (w : World) → Knows k w → (level : ℕ) (a : Expr) → Meets w (after 2 (expr_demands k level a)) (count spell_expr a + 4) w (given a w)
given_meets k w g level a =
    recount (count spell_expr a + 4) (omega arith) (pass_last 2 (pass_first 2 refl refl (rebase w (w.place + 2) (expr_meets k (at w (w.place + 2)) g level a))))

given_count : (a : Expr) → count spell_expr a + 4 ≡ count spell_statement (Free a)
given_count a = omega (arith, count_more spell_expr expr_follow a (Sign mark.Close ∷ Sign mark.Semicolon ∷ []))

get_char_meets : (k : Known) (w : World) → Knows k w → (reached above : Names) (level : ℕ) (p : Place)
    → Meets w (statement_demands k reached above level (GetChar p)) (count spell_statement (GetChar p)) w (get_char p w)
get_char_meets k w g reached above level p =
    recount (count spell_statement (GetChar p)) (omega (arith, count_more spell_place place_follow p (Sign mark.Assign ∷ Quoted word.GetChar ∷ Sign mark.Open ∷ Sign mark.Close ∷ Sign mark.Semicolon ∷ [])))
    (levelled level (pass_last 5 (place_meets k w g (suc level) p)))

returned_meets : (k : Known) (w : World) → Knows k w → (level : ℕ) (a : Option Expr) → Meets w (value_demands k level a) (count spell_value a) w (returned a w)
returned_meets k w g level None = began w
returned_meets k w g level (Some a) = expr_meets k w g level a

value_meets : (k : Known) (w : World) → Knows k w → (reached above : Names) (level : ℕ) (a : Option Expr)
    → Meets w (statement_demands k reached above level (Return a)) (count spell_statement (Return a)) w (value a w)
value_meets k w g reached above level a =
    recount (count spell_statement (Return a)) (omega (arith, count_more spell_value value_follow a (Sign mark.Semicolon ∷ [])))
    (levelled level (pass_last 1 (pass_first 1 refl refl (rebase w (w.place + 1) (returned_meets k (at w (w.place + 1)) g (suc level) a)))))

test_meets : (k : Known) (w : World) → Knows k w → (level : ℕ) (a : Expr) → Meets w (after 2 (expr_demands k level a)) (count spell_expr a + 4) w (test a w)
test_meets k w g level a = given_meets k w g level a

goto_meets : (k : Known) (w : World) (reached above : Names) → Reaches reached w.reached → (level : ℕ) (l : List ℕ) → Meets w (statement_demands k reached above level (Goto l)) 3 w (goto l w)
goto_meets k w reached above h level l =
    levelled level (pass_last 2 (tested (λ u. nat_lt 0 (u.reached l)) BadGoto 1 (Leads l reached) refl refl (λ t. holds l reached (h l) t) (λ t. fails l reached (h l) t) (passed w 1)))

pub new_name : (b : Bool) → not b ≡ true → b ≡ false
new_name true e = cc
new_name false e = refl

pub old_name : (b : Bool) → not b ≡ false → b ≡ false → ⊥
old_name true e h = absurd cc
old_name false e h = absurd cc

-- ---- labels above and in reach

abbrev pub scene : World → ℕ → Names → (List ℕ → ℕ) → World
scene v place above f = record v { place = place; labels = seen_names above; reached = f }

label_meets : (k : Known) (v : World) (place : ℕ) (reached above : Names) (f : List ℕ → ℕ) (level : ℕ) (l : List ℕ)
    → Meets (scene v place above f) (statement_demands k reached above level (Label l)) 3 (scene v place (above ++ l ∷ []) f) (label l (scene v place above f))
label_meets k v place reached above f level l =
    levelled level (pass_last 3 (changed (λ u. record u { labels = with_name l u.labels }) (scene v place (above ++ l ∷ []) f) (λ p i. record v { place = p; labels = label_added l above i; reached = f })
    (tested (λ u. not (u.labels l)) DoubleName 0 (Differs l above) refl refl (new_name (among l above)) (old_name (among l above)) (began (scene v place above f)))))

-- a statement without labels in it
bare : {w : World} {all : Demands} {n : ℕ} {r : Outcome} (v : World) (place : ℕ) (above : Names) (f : List ℕ → ℕ) → Meets w all n (scene v place above f) r → Meets w all n (scene v place (above ++ []) f) r
bare v place above f h = retarget (scene v place (above ++ []) f) (λ i. scene v place (sym (append-nil above) i) f) h

-- ---- statements and lists of them

branch_count : (a : Expr) (body : Body) → count spell_expr a + 4 + count spell_body body + 1 ≡ count spell_statement (If a body)
branch_count a body = omega (arith, count_more spell_expr expr_follow a (Sign mark.Close ∷ Sign mark.OpenBrace ∷ spell_body body (Sign mark.CloseBrace ∷ [])), count_more spell_body body_follow body (Sign mark.CloseBrace ∷ []))

branches_count : (a : Expr) (body otherwise : Body) → count spell_expr a + 4 + count spell_body body + 3 + count spell_body otherwise + 1 ≡ count spell_statement (IfElse a body otherwise)
branches_count a body otherwise =
    let second = Sign mark.CloseBrace ∷ Quoted word.Else ∷ Sign mark.OpenBrace ∷ spell_body otherwise (Sign mark.CloseBrace ∷ []) in
    omega (arith, count_more spell_expr expr_follow a (Sign mark.Close ∷ Sign mark.OpenBrace ∷ spell_body body second), count_more spell_body body_follow body second, count_more spell_body body_follow otherwise (Sign mark.CloseBrace ∷ []))

seven : (a b : ℕ) → a + b + 7 ≡ a + 4 + b + 3
seven a b = omega arith

-- the labels of a list are in reach within it, and no longer behind it
within_meets : (v : World) (place later n : ℕ) (above beyond : Names) (f : List ℕ → ℕ) (body : Body) (inner : Step) (all : Demands)
    → Meets (scene v place above (raise_all (own_labels body) f)) all n (scene v later beyond (raise_all (own_labels body) f)) (inner (scene v place above (raise_all (own_labels body) f)))
    → Meets (scene v place above f) all n (scene v later beyond f) (within body inner (scene v place above f))
within_meets v place later n above beyond f body inner all h =
    subst (λ r. Meets (scene v place above f) all n (scene v later beyond f) (go_on (go_on r inner) (leave body))) (sym (enter_is body (scene v place above f))) (by (inner (scene v place above g)) h.is)
  where
    g : List ℕ → ℕ
    g = raise_all (own_labels body) f

    by : (r : Outcome) → MeetsBy (scene v place above g) all n (scene v later beyond g) r → Meets (scene v place above f) all n (scene v later beyond f) (go_on r (leave body))
    by (Ok u) l =
        let left : leave body u ≡ Ok (scene v (place + n) beyond f) =
        ap (leave body) l.1 ∙ leave_is body (scene v (place + n) beyond g) ∙ ap (λ k. Ok (scene v (place + n) beyond k)) (restored (own_labels body) f) in
        record { is = subst (λ r. MeetsBy (scene v place above f) all n (scene v later beyond f) r) (sym left) (l.0, refl) }
    by (Err e) l = record { is = l }

mutual
  unfolding statement statements

  statement_meets : (k : Known) (v : World) → Knows k v → (reached above : Names) (f : List ℕ → ℕ) → Reaches reached f → (level : ℕ) (s : Statement) (place : ℕ)
      → Meets (scene v place above f) (statement_demands k reached above level s) (count spell_statement s) (scene v place (above ++ labels_in s) f) (statement s (scene v place above f))
  statement_meets k v g reached above f h level (Assign p a) place = bare v place above f (assign_meets k (scene v place above f) g reached above level p a)
  statement_meets k v g reached above f h level (Call given_to called all) place = bare v place above f (call_meets k (scene v place above f) g reached above level given_to called all)
  statement_meets k v g reached above f h level (Malloc p of) place = bare v place above f (malloc_meets k (scene v place above f) g reached above level p of)
  statement_meets k v g reached above f h level (Free a) place =
      bare v place above f (recount (count spell_statement (Free a)) (given_count a) (levelled level (given_meets k (scene v place above f) g (suc level) a)))
  statement_meets k v g reached above f h level (GetChar p) place = bare v place above f (get_char_meets k (scene v place above f) g reached above level p)
  statement_meets k v g reached above f h level (PutChar a) place =
      bare v place above f (recount (count spell_statement (PutChar a)) (given_count a) (levelled level (given_meets k (scene v place above f) g (suc level) a)))
  statement_meets k v g reached above f h level (If a body) place =
      recount (count spell_statement (If a body)) (branch_count a body)
      (pass_last 1 (seq (within body (statements body)) (count spell_expr a + 4) refl (levelled level (test_meets k (scene v place above f) g (suc level) a))
      (within_meets v (place + (count spell_expr a + 4)) place (count spell_body body) above (above ++ labels_of body) f body (statements body) (body_demands k (own_labels body ++ reached) above (suc level) body)
      (statements_meets k v g (own_labels body ++ reached) above (raise_all (own_labels body) f) (reaches_more (own_labels body) reached f h) (suc level) body place (place + (count spell_expr a + 4))))))
  statement_meets k v g reached above f h level (IfElse a body otherwise) place =
      recount (count spell_statement (IfElse a body otherwise)) (branches_count a body otherwise)
      (pass_last 1 (retarget (scene v place (above ++ (labels_of body ++ labels_of otherwise)) f) (λ i. scene v place (append_assoc above (labels_of body) (labels_of otherwise) i) f)
      (seq (within otherwise (statements otherwise)) (count spell_expr a + count spell_body body + 7) (seven (count spell_expr a) (count spell_body body))
      (pass_last 3 (seq (within body (statements body)) (count spell_expr a + 4) refl (levelled level (test_meets k (scene v place above f) g (suc level) a))
      (within_meets v (place + (count spell_expr a + 4)) place (count spell_body body) above (above ++ labels_of body) f body (statements body) (body_demands k (own_labels body ++ reached) above (suc level) body)
      (statements_meets k v g (own_labels body ++ reached) above (raise_all (own_labels body) f) (reaches_more (own_labels body) reached f h) (suc level) body place (place + (count spell_expr a + 4))))))
      (within_meets v (place + (count spell_expr a + 4 + count spell_body body + 3)) place (count spell_body otherwise) (above ++ labels_of body) ((above ++ labels_of body) ++ labels_of otherwise) f otherwise (statements otherwise) (body_demands k (own_labels otherwise ++ reached) (above ++ labels_of body) (suc level) otherwise)
      (statements_meets k v g (own_labels otherwise ++ reached) (above ++ labels_of body) (raise_all (own_labels otherwise) f) (reaches_more (own_labels otherwise) reached f h) (suc level) otherwise place (place + (count spell_expr a + 4 + count spell_body body + 3)))))))
  statement_meets k v g reached above f h level (While a body) place =
      recount (count spell_statement (While a body)) (branch_count a body)
      (pass_last 1 (seq (within body (statements body)) (count spell_expr a + 4) refl (levelled level (test_meets k (scene v place above f) g (suc level) a))
      (within_meets v (place + (count spell_expr a + 4)) place (count spell_body body) above (above ++ labels_of body) f body (statements body) (body_demands k (own_labels body ++ reached) above (suc level) body)
      (statements_meets k v g (own_labels body ++ reached) above (raise_all (own_labels body) f) (reaches_more (own_labels body) reached f h) (suc level) body place (place + (count spell_expr a + 4))))))
  statement_meets k v g reached above f h level (Goto l) place = bare v place above f (goto_meets k (scene v place above f) reached above h level l)
  statement_meets k v g reached above f h level (Label l) place = label_meets k v place reached above f level l
  statement_meets k v g reached above f h level (Return a) place = bare v place above f (value_meets k (scene v place above f) g reached above level a)

  statements_meets : (k : Known) (v : World) → Knows k v → (reached above : Names) (f : List ℕ → ℕ) → Reaches reached f → (level : ℕ) (body : Body) (later place : ℕ)
      → Meets (scene v place above f) (body_demands k reached above level body) (count spell_body body) (scene v later (above ++ labels_of body) f) (statements body (scene v place above f))
  statements_meets k v g reached above f h level Empty later place = bare v later above f (stayed (scene v later above f) place)
  statements_meets k v g reached above f h level (Then s more) later place =
      recount (count spell_body (Then s more)) (sym (count_more spell_statement statement_follow s (spell_body more [])))
      (retarget (scene v later (above ++ (labels_in s ++ labels_of more)) f) (λ i. scene v later (append_assoc above (labels_in s) (labels_of more) i) f)
      (seq (statements more) (count spell_statement s) refl (statement_meets k v g reached above f h level s place)
      (statements_meets k v g reached (above ++ labels_in s) f h level more later (place + count spell_statement s))))

-- the statements of a function
pub block_meets : (k : Known) (v : World) → Knows k v → (body : Body) (place : ℕ)
    → Meets (scene v place [] zero) (body_demands k (own_labels body) [] 1 body) (count spell_body body) (scene v place (labels_of body) zero) (block body (scene v place [] zero))
block_meets k v g body place =
    let reach : Reaches (own_labels body) (raise_all (own_labels body) zero) =
    subst (λ ls. Reaches ls (raise_all (own_labels body) zero)) (append-nil (own_labels body)) (reaches_more (own_labels body) [] zero (λ name. refl)) in
    within_meets v place place (count spell_body body) [] (labels_of body) zero body (statements body) (body_demands k (own_labels body) [] 1 body)
    (statements_meets k v g (own_labels body) [] (raise_all (own_labels body) zero) reach 1 body place place)
