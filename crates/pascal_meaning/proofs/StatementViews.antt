-- The meaning of statements at the constructors as programs see them.
use Rattle.std.proofs.Common.{◌≡◌, ℕ, List, [], ◌∷◌, map, refl, ap, ◌∙◌, Bool, Option, Some, None}
use Rattle.typed_tree.specs.declared.expressions.TypedExpr.{TypedExpr}
use Rattle.typed_tree.specs.declared.statements.TypedStmt as S
use Rattle.typed_tree.specs.declared.statements.TypedStmt.{TypedStmt, Row_of-TypedStmt}
use Rattle.typed_tree.specs.declared.statements.TypedArm.{TypedArm}
use Rattle.typed_tree.specs.declared.statements.WithPart.{WithPart}
use Rattle.typed_tree.specs.declared.types.LabelRange.{LabelRange}
use Rattle.typed_tree.specs.declared.declarations.VarDecl.{VarDecl}
use Rattle.meanings.specs.Programs.{Prog, ◌>>=◌, pure}
use Rattle.pascal_meaning.specs.Statements.{choose_by, Item, sequence, while_loop, repeat_loop, for_loop, no_case, cases, with_all, try_recover}
use Rattle.pascal_meaning.specs.Meaning.{Value, Exec, items, arms, otherwise, with_part}

-- ---- rows

-- a statement of a sequence, with its label
pub item : TypedStmt → Item
item (S.Labelled' l p (S.more_of-TypedStmt body S.end_of-TypedStmt)) = record { label = Some l; run = Exec body }
item s = record { label = None; run = Exec s }

item_first : {n : _} (s : TypedStmt) (rest : Row_of-TypedStmt n) → items (S.more_of-TypedStmt s rest) ≡ item s ∷ items rest
unfolding Exec item
item_first (S.Labelled' l p (S.more_of-TypedStmt body S.end_of-TypedStmt)) rest = refl
item_first _ rest = refl

items_list : {n : _} (row : Row_of-TypedStmt n) → items row ≡ map item (S.items-the_row-TypedStmt n row)
unfolding Exec
items_list S.end_of-TypedStmt = refl
items_list (S.more_of-TypedStmt s rest) = item_first s rest ∙ ap (λ is. item s ∷ is) (items_list rest)

abbrev pub arm : TypedArm → List LabelRange × Prog (Unit {0})
arm a = (a.labels, Exec a.body)

arms_list : {n : _} (row : S.Row_of-TypedArm n) → arms row ≡ map arm (S.items-the_row-TypedArm n row)
unfolding Exec
arms_list S.end_of-TypedArm = refl
arms_list (S.more_of-TypedArm labels body rest) = ap (λ cs. (labels, Exec body) ∷ cs) (arms_list rest)

-- a part that may be missing, with what is done then
pub if_there : Prog (Unit {0}) → Option TypedStmt → Prog (Unit {0})
if_there p None = p
if_there p (Some s) = Exec s

none_is : (p : Prog (Unit {0})) → otherwise p S.None' ≡ p
unfolding Exec
none_is p = refl

some_is : (p : Prog (Unit {0})) (row : Row_of-TypedStmt 1) (s : TypedStmt) → S.items-the_row-TypedStmt 1 row ≡ s ∷ [] → otherwise p (S.Some' tt row) ≡ Exec s
unfolding Exec
some_is p (S.more_of-TypedStmt x S.end_of-TypedStmt) s h = let same : x ≡ s = cc in ap Exec same

-- ---- statements

seq_row : (shape : List (Unit {0})) (row : Row_of-TypedStmt _) (ss : List TypedStmt) → S.items-the_row-TypedStmt _ row ≡ ss → Exec (S.Seq' shape row) ≡ sequence (map item ss)
unfolding Exec
seq_row shape row ss h = ap sequence (items_list row ∙ ap (map item) h)

pub exec_seq : (ss : List TypedStmt) → Exec (S.Seq ss) ≡ sequence (map item ss)
exec_seq ss = seq_row _ _ ss (S.items_hidden-the_row-TypedStmt-0 ss)

if_row : (e : TypedExpr) (row : Row_of-TypedStmt 1) (s : TypedStmt) (other : S.Held-TypedStmt-If-2) → S.items-the_row-TypedStmt 1 row ≡ s ∷ []
    → Exec (S.If' e tt row other) ≡ (Value e >>= λ v. choose_by v (Exec s) (otherwise (pure tt) other))
unfolding Exec
if_row e (S.more_of-TypedStmt x S.end_of-TypedStmt) s other h = let same : x ≡ s = cc in ap (λ s. Value e >>= λ v. choose_by v (Exec s) (otherwise (pure tt) other)) same

pub exec_if : (e : TypedExpr) (s : TypedStmt) (other : Option TypedStmt) → Exec (S.If e s other) ≡ (Value e >>= λ v. choose_by v (Exec s) (if_there (pure tt) other))
unfolding if_there
exec_if e s None = if_row e _ s _ (S.items_hidden-the_row-TypedStmt-1 s) ∙ ap (λ p. Value e >>= λ v. choose_by v (Exec s) p) (none_is (pure tt))
exec_if e s (Some t) = if_row e _ s _ (S.items_hidden-the_row-TypedStmt-1 s) ∙ ap (λ p. Value e >>= λ v. choose_by v (Exec s) p) (some_is (pure tt) _ t (S.items_hidden-the_row-TypedStmt-1 t))

case_row : (e : TypedExpr) (shape : List (Unit {0})) (row : S.Row_of-TypedArm _) (as' : List TypedArm) (other : S.Held-TypedStmt-If-2) → S.items-the_row-TypedArm _ row ≡ as'
    → Exec (S.Case' e shape row other) ≡ (Value e >>= λ v. cases (map arm as') (otherwise no_case other) v)
unfolding Exec
case_row e shape row as' other h = ap (λ cs. Value e >>= λ v. cases cs (otherwise no_case other) v) (arms_list row ∙ ap (map arm) h)

pub exec_case : (e : TypedExpr) (as' : List TypedArm) (other : Option TypedStmt) → Exec (S.Case e as' other) ≡ (Value e >>= λ v. cases (map arm as') (if_there no_case other) v)
unfolding if_there
exec_case e as' None = case_row e _ _ as' _ (S.items_hidden-the_row-TypedArm-2 as') ∙ ap (λ p. Value e >>= λ v. cases (map arm as') p v) (none_is no_case)
exec_case e as' (Some t) = case_row e _ _ as' _ (S.items_hidden-the_row-TypedArm-2 as') ∙ ap (λ p. Value e >>= λ v. cases (map arm as') p v) (some_is no_case _ t (S.items_hidden-the_row-TypedStmt-1 t))

while_row : (e : TypedExpr) (row : Row_of-TypedStmt 1) (s : TypedStmt) → S.items-the_row-TypedStmt 1 row ≡ s ∷ [] → Exec (S.While' e tt row) ≡ while_loop (Value e) (Exec s)
unfolding Exec
while_row e (S.more_of-TypedStmt x S.end_of-TypedStmt) s h = let same : x ≡ s = cc in ap (λ s. while_loop (Value e) (Exec s)) same

pub exec_while : (e : TypedExpr) (s : TypedStmt) → Exec (S.While e s) ≡ while_loop (Value e) (Exec s)
exec_while e s = while_row e _ s (S.items_hidden-the_row-TypedStmt-1 s)

repeat_row : (shape : List (Unit {0})) (row : Row_of-TypedStmt _) (ss : List TypedStmt) (e : TypedExpr) → S.items-the_row-TypedStmt _ row ≡ ss → Exec (S.Repeat' shape row e) ≡ repeat_loop (sequence (map item ss)) (Value e)
unfolding Exec
repeat_row shape row ss e h = ap (λ is. repeat_loop (sequence is) (Value e)) (items_list row ∙ ap (map item) h)

pub exec_repeat : (ss : List TypedStmt) (e : TypedExpr) → Exec (S.Repeat ss e) ≡ repeat_loop (sequence (map item ss)) (Value e)
exec_repeat ss e = repeat_row _ _ ss e (S.items_hidden-the_row-TypedStmt-0 ss)

for_row : (x : VarDecl) (first last : TypedExpr) (down : Bool) (row : Row_of-TypedStmt 1) (s : TypedStmt) → S.items-the_row-TypedStmt 1 row ≡ s ∷ []
    → Exec (S.For' x first down last tt row) ≡ for_loop x.decl x.of down (Value first) (Value last) (Exec s)
unfolding Exec
for_row x first last down (S.more_of-TypedStmt t S.end_of-TypedStmt) s h = let same : t ≡ s = cc in ap (λ s. for_loop x.decl x.of down (Value first) (Value last) (Exec s)) same

pub exec_for : (x : VarDecl) (first last : TypedExpr) (down : Bool) (s : TypedStmt) → Exec (S.For x first down last s) ≡ for_loop x.decl x.of down (Value first) (Value last) (Exec s)
exec_for x first last down s = for_row x first last down _ s (S.items_hidden-the_row-TypedStmt-1 s)

with_row : (ps : List WithPart) (row : Row_of-TypedStmt 1) (s : TypedStmt) → S.items-the_row-TypedStmt 1 row ≡ s ∷ [] → Exec (S.With' ps tt row) ≡ with_all (map with_part ps) (Exec s)
unfolding Exec
with_row ps (S.more_of-TypedStmt x S.end_of-TypedStmt) s h = let same : x ≡ s = cc in ap (λ s. with_all (map with_part ps) (Exec s)) same

pub exec_with : (ps : List WithPart) (s : TypedStmt) → Exec (S.With ps s) ≡ with_all (map with_part ps) (Exec s)
exec_with ps s = with_row ps _ s (S.items_hidden-the_row-TypedStmt-1 s)

try_row : (shape : List (Unit {0})) (row : Row_of-TypedStmt _) (ss : List TypedStmt) (recover : Row_of-TypedStmt 1) (s : TypedStmt) → S.items-the_row-TypedStmt _ row ≡ ss → S.items-the_row-TypedStmt 1 recover ≡ s ∷ []
    → Exec (S.Try' shape row tt recover) ≡ try_recover (sequence (map item ss)) (Exec s)
unfolding Exec
try_row shape row ss (S.more_of-TypedStmt x S.end_of-TypedStmt) s h k = let same : x ≡ s = cc in
    ap (λ is. try_recover (sequence is) (Exec x)) (items_list row ∙ ap (map item) h) ∙ ap (λ s. try_recover (sequence (map item ss)) (Exec s)) same

pub exec_try : (ss : List TypedStmt) (s : TypedStmt) → Exec (S.Try ss s) ≡ try_recover (sequence (map item ss)) (Exec s)
exec_try ss s = try_row _ _ ss _ s (S.items_hidden-the_row-TypedStmt-0 ss) (S.items_hidden-the_row-TypedStmt-1 s)

labelled_row : (l : ℕ) (row : Row_of-TypedStmt 1) (s : TypedStmt) → S.items-the_row-TypedStmt 1 row ≡ s ∷ [] → Exec (S.Labelled' l tt row) ≡ sequence (record { label = Some l; run = Exec s } ∷ [])
unfolding Exec
labelled_row l (S.more_of-TypedStmt x S.end_of-TypedStmt) s h = let same : x ≡ s = cc in ap (λ s. sequence (record { label = Some l; run = Exec s } ∷ [])) same

pub exec_labelled : (l : ℕ) (s : TypedStmt) → Exec (S.Labelled l s) ≡ sequence (record { label = Some l; run = Exec s } ∷ [])
exec_labelled l s = labelled_row l _ s (S.items_hidden-the_row-TypedStmt-1 s)

-- the label of a labelled statement stands on its item
item_row : (l : ℕ) (row : Row_of-TypedStmt 1) (s : TypedStmt) → S.items-the_row-TypedStmt 1 row ≡ s ∷ [] → item (S.Labelled' l tt row) ≡ record { label = Some l; run = Exec s }
unfolding item
item_row l (S.more_of-TypedStmt x S.end_of-TypedStmt) s h = let same : x ≡ s = cc in ap (λ s. record { label = Some l; run = Exec s }) same

pub item_labelled : (l : ℕ) (s : TypedStmt) → item (S.Labelled l s) ≡ record { label = Some l; run = Exec s }
item_labelled l s = item_row l _ s (S.items_hidden-the_row-TypedStmt-1 s)
