-- The first node of a list that the form has not.
use Rattle.std.proofs.Common.{◌≡◌, ℕ, true, false, List, [], ◌∷◌, ◌++◌, map, Option, Some, None, refl, sym, ap, subst, ◌∙◌, append_assoc, append-nil, length, get_or, ◌<◌, arith}
use Rattle.std.specs.Prelude.{Result, Ok, Err, IfOk, IfErr}
use Rattle.std.specs.List.{AllByRecursion, AllZip}
use Rattle.p2c_text.specs.declared.dialect.Dialect.{Dialect}
use Rattle.p2c_text.specs.declared.place.Span.{Span}
use Rattle.pascal_tree.specs.declared.names.Identifier.{Identifier}
use Rattle.pascal_tree.specs.declared.statements.Stmt.{Stmt}
use Rattle.pascal_tree.specs.declared.declarations.Declaration.{Declaration, out-Declaration}
use Rattle.pascal_tree.specs.declared.declarations.Block.{out-Block}
use Rattle.pascal_tree.specs.declared.files.Uses.{Uses}
use Rattle.pascal_tree.specs.declared.files.Program.{Program}
use Rattle.pascal_tree.specs.declared.files.SourceFile.{SourceFile}
use Rattle.pascal_tree.specs.declared.files.SourceFile.TheVariants as text
use Rattle.writer_trees.specs.declared.fault.WriterFault.{WriterFault}
use Rattle.writer_trees.specs.declared.fault.WriterFault.TheVariants as fault
use Rattle.agreement.specs.Writers.{Writing, bytes_of, all_bytes}
use Rattle.writer_trees.specs.Files.{Writes, is_standard, IsStandard, parameters_of, IsWriterFile}
use Rattle.writer_trees.specs.Unbuilt.{Node, Whole, Parameter, Using, Declared, Stated, used, heads_of, nodes_of, IsBuilt, span_in, span_of, FirstUnbuiltOf, FirstUnbuilt, IsFirstOf, or_else, FileWrites, Refuses, StatementsWrite, RefusesStatements, Appends, RefusesStatement}

-- ---- lists

empty : {X : Type 0} (xs : List X) → length xs ≡ 0 → xs ≡ []
empty [] e = refl
empty (x ∷ xs) e = absurd (omega (arith, e))

all_append : {X : Type 0} (P : X → Type 0) (xs ys : List X) → AllByRecursion P xs → AllByRecursion P ys → AllByRecursion P (xs ++ ys)
all_append P [] ys h k = k
all_append P (x ∷ xs) ys h k = (h.0, all_append P xs ys h.1 k)

front : {X : Type 0} (P : X → Type 0) (xs ys : List X) → AllByRecursion P (xs ++ ys) → AllByRecursion P xs
front P [] ys h = tt
front P (x ∷ xs) ys h = (h.0, front P xs ys h.1)

back : {X : Type 0} (P : X → Type 0) (xs ys : List X) → AllByRecursion P (xs ++ ys) → AllByRecursion P ys
back P [] ys h = h
back P (x ∷ xs) ys h = back P xs ys h.1

first_in_front : (d : Dialect) (xs ys : List Node) (span : Span) → FirstUnbuiltOf d xs span → FirstUnbuiltOf d (xs ++ ys) span
first_in_front d xs ys span f = record {
  before = f.before;
  node = f.node;
  after = f.after ++ ys;
  nodes_are = ap (λ z. z ++ ys) f.nodes_are ∙ append_assoc f.before (f.node ∷ f.after) ys;
  built = f.built;
  unbuilt = f.unbuilt;
  place = f.place;
}

pub first_behind : (d : Dialect) (xs ys : List Node) (span : Span) → AllByRecursion (IsBuilt d) xs → FirstUnbuiltOf d ys span → FirstUnbuiltOf d (xs ++ ys) span
first_behind d xs ys span h f = record {
  before = xs ++ f.before;
  node = f.node;
  after = f.after;
  nodes_are = ap (λ z. xs ++ z) f.nodes_are ∙ sym (append_assoc xs f.before (f.node ∷ f.after));
  built = all_append (IsBuilt d) xs f.before h f.built;
  unbuilt = f.unbuilt;
  place = f.place;
}

pub first_here : (d : Dialect) (node : Node) (rest : List Node) → (IsBuilt d node → ⊥) → FirstUnbuiltOf d (node ∷ rest) (span_of node)
first_here d node rest h = record {
  before = [];
  node = node;
  after = rest;
  nodes_are = refl;
  built = tt;
  unbuilt = h;
  place = refl;
}

-- a node of the form comes before the others
pub one_more : (d : Dialect) (node : Node) (rest : List Node) (o : Option Span) → IsBuilt d node → IsFirstOf d rest o → IsFirstOf d (node ∷ rest) o
one_more d node rest None h f = (h, f)
one_more d node rest (Some span) h f = first_behind d (node ∷ []) rest span (h, tt) f

pub one_after_other : (d : Dialect) (xs ys : List Node) (o p : Option Span) → IsFirstOf d xs o → IsFirstOf d ys p → IsFirstOf d (xs ++ ys) (or_else o p)
one_after_other d xs ys None None h k = all_append (IsBuilt d) xs ys h k
one_after_other d xs ys None (Some span) h k = first_behind d xs ys span h k
one_after_other d xs ys (Some span) p h k = first_in_front d xs ys span h

-- ---- the nodes of a program

pub uses_unbuilt : (d : Dialect) (uses : Option Uses) (u : Uses) → uses ≡ Some u → FirstUnbuiltOf d (used uses) u.span
uses_unbuilt d uses u e = subst (λ o. FirstUnbuiltOf d (used o) u.span) (sym e) (first_here d (Using u) [] (λ b. b))

pub declaration_unbuilt : (all : List Declaration) (x : Declaration) (span : Span) → 0 < length all → x ≡ get_or all 0 x → span ≡ span_in (out-Declaration x) → (d : Dialect) → FirstUnbuiltOf d (map Declared all) span
declaration_unbuilt [] x span h e k d = absurd (omega (arith, h))
declaration_unbuilt (y ∷ all) x span h e k d =
    subst (λ s. FirstUnbuiltOf d (Declared y ∷ map Declared all) s) (sym (k ∙ ap (λ z. span_in (out-Declaration z)) e)) (first_here d (Declared y) (map Declared all) (λ b. b))

pub whole_unbuilt : (d : Dialect) (file : SourceFile) (span : Span) → nodes_of file ≡ Whole span ∷ [] → FirstUnbuilt d file span
whole_unbuilt d file span e = subst (λ ns. FirstUnbuiltOf d ns span) (sym e) (first_here d (Whole span) [] (λ b. b))

standard_all : (d : Dialect) (names : List Identifier) → AllByRecursion (IsBuilt d) (map Parameter names) → AllByRecursion IsStandard names
standard_all d [] h = tt
standard_all d (x ∷ xs) h = (h.0, standard_all d xs h.1)

all_standard : (d : Dialect) (names : List Identifier) → AllByRecursion IsStandard names → AllByRecursion (IsBuilt d) (map Parameter names)
all_standard d [] h = tt
all_standard d (x ∷ xs) h = (h.0, all_standard d xs h.1)

uses_none : (d : Dialect) (uses : Option Uses) → AllByRecursion (IsBuilt d) (used uses) → uses ≡ None
uses_none d None h = refl
uses_none d (Some u) h = absurd h.0

declarations_none : (d : Dialect) (all : List Declaration) → AllByRecursion (IsBuilt d) (map Declared all) → all ≡ []
declarations_none d [] h = refl
declarations_none d (x ∷ xs) h = absurd h.0

pub program_writes : (d : Dialect) (p : Program) (bytes : List ℕ) → AllByRecursion (IsBuilt d) (heads_of p) → StatementsWrite d (out-Block p.block).body bytes → FileWrites d (text.Program p) bytes
program_writes d p bytes h (ws, zipped, put) =
    let fronts = front (IsBuilt d) (map Parameter (parameters_of p.head) ++ used p.uses) (map Declared (out-Block p.block).declarations) h in (
      ws,
      record {
        program = p;
        is = refl;
        parameters = standard_all d (parameters_of p.head) (front (IsBuilt d) (map Parameter (parameters_of p.head)) (used p.uses) fronts);
        no_uses = uses_none d p.uses (back (IsBuilt d) (map Parameter (parameters_of p.head)) (used p.uses) fronts);
        no_declarations = declarations_none d (out-Block p.block).declarations (back (IsBuilt d) (map Parameter (parameters_of p.head) ++ used p.uses) (map Declared (out-Block p.block).declarations) h);
        statements = zipped;
      },
      put,
    )

-- ---- a program of the form has no node that the form has not

statements_built : (d : Dialect) (all : List Stmt) (ws : List Writing) → AllZip (Writes d) all ws → AllByRecursion (IsBuilt d) (map Stated all)
statements_built d [] [] h = tt
statements_built d [] (w ∷ ws) h = absurd h
statements_built d (s ∷ all) [] h = absurd h
statements_built d (s ∷ all) (w ∷ ws) h = ((w, h.0), statements_built d all ws h.1)

uses_built : (d : Dialect) (uses : Option Uses) → uses ≡ None → AllByRecursion (IsBuilt d) (used uses)
uses_built d None e = tt
uses_built d (Some u) e = absurd cc

declarations_built : (d : Dialect) (all : List Declaration) → all ≡ [] → AllByRecursion (IsBuilt d) (map Declared all)
declarations_built d [] e = tt
declarations_built d (x ∷ xs) e = absurd cc

nodes_built : (d : Dialect) (file : SourceFile) (ws : List Writing) → IsWriterFile d file ws → AllByRecursion (IsBuilt d) (nodes_of file)
nodes_built d file ws w =
    let p = w.program in
    let parameters = map Parameter (parameters_of p.head) in
    let declarations = map Declared (out-Block p.block).declarations in
    let heads = all_append (IsBuilt d) (parameters ++ used p.uses) declarations (all_append (IsBuilt d) parameters (used p.uses) (all_standard d (parameters_of p.head) w.parameters) (uses_built d p.uses w.no_uses)) (declarations_built d (out-Block p.block).declarations w.no_declarations) in
    let whole : AllByRecursion (IsBuilt d) (nodes_of (text.Program p)) = all_append (IsBuilt d) (heads_of p) (map Stated (out-Block p.block).body) heads (statements_built d (out-Block p.block).body ws w.statements) in
    subst (λ f. AllByRecursion (IsBuilt d) (nodes_of f)) (sym w.is) whole

pub unbuilt_is_no_writer : (d : Dialect) (file : SourceFile) (span : Span) (ws : List Writing) → FirstUnbuilt d file span → IsWriterFile d file ws → ⊥
unbuilt_is_no_writer d file span ws f w =
    let all = subst (AllByRecursion (IsBuilt d)) f.nodes_are (nodes_built d file ws w) in
    let here = back (IsBuilt d) f.before (f.node ∷ f.after) all in
    f.unbuilt here.0

-- ---- parameters, one after another

-- whatever is found of the names that are left holds of all
abbrev pub NamesSoFar : (names rest : List Identifier) → Type 0
NamesSoFar names rest = (d : Dialect) (o : Option Span) → IsFirstOf d (map Parameter rest) o → IsFirstOf d (map Parameter names) o

pub names_next : (names rest after : List Identifier) (x : Identifier) → NamesSoFar names rest → rest ≡ x ∷ after → is_standard x ≡ true → NamesSoFar names after
names_next names rest after x so e h = λ d o f. so d o (subst (λ r. IsFirstOf d (map Parameter r) o) (sym e) (one_more d (Parameter x) (map Parameter after) o h f))

pub names_found : (names rest after : List Identifier) (x : Identifier) → NamesSoFar names rest → rest ≡ x ∷ after → is_standard x ≡ false → (d : Dialect) → IsFirstOf d (map Parameter names) (Some x.span)
names_found names rest after x so e h d =
    let here : IsFirstOf d (map Parameter (x ∷ after)) (Some x.span) = first_here d (Parameter x) (map Parameter after) (λ k. let q : true ≡ false = sym k ∙ h in absurd cc) in
    so d (Some x.span) (subst (λ r. IsFirstOf d (map Parameter r) (Some x.span)) (sym e) here)

pub names_none : (names rest : List Identifier) → NamesSoFar names rest → length rest ≡ 0 → (d : Dialect) → IsFirstOf d (map Parameter names) None
names_none names rest so e d = so d None (subst (λ r. IsFirstOf d (map Parameter r) None) (sym (empty rest e)) tt)

pub head_first : (p : Program) (declared : List Declaration) (o u e before r : Option Span) → ((d : Dialect) → IsFirstOf d (map Parameter (parameters_of p.head)) o) → ((d : Dialect) → IsFirstOf d (used p.uses) u)
    → ((d : Dialect) → IsFirstOf d (map Declared declared) e) → declared ≡ (out-Block p.block).declarations → before ≡ or_else o u → r ≡ or_else before e → (d : Dialect) → IsFirstOf d (heads_of p) r
head_first p declared o u e before r h k l same b q d =
    let front = one_after_other d (map Parameter (parameters_of p.head)) (used p.uses) o u (h d) (k d) in
    let behind = subst (λ x. IsFirstOf d (map Declared x) e) same (l d) in
    let whole = one_after_other d (map Parameter (parameters_of p.head) ++ used p.uses) (map Declared (out-Block p.block).declarations) (or_else o u) e front behind in
    subst (IsFirstOf d (heads_of p)) (sym (q ∙ ap (λ x. or_else x e) b)) whole

-- ---- statements, one after another

-- whatever is found of the statements that are left holds of all
pub record SoFar (d : Dialect) (all rest : List Stmt) (written : List ℕ) : Type 0 where
  pub finds : (span : Span) → FirstUnbuiltOf d (map Stated rest) span → FirstUnbuiltOf d (map Stated all) span
  pub puts : (ws : List Writing) → AllZip (Writes d) rest ws → StatementsWrite d all (written ++ all_bytes ws)

pub none_so_far : (d : Dialect) (all : List Stmt) (written : List ℕ) → written ≡ [] → SoFar d all all written
none_so_far d all written e = record {
  finds = λ span f. f;
  puts = λ ws h. (ws, h, ap (λ z. z ++ all_bytes ws) e);
}

pub one_more_so_far : (d : Dialect) (all rest after : List Stmt) (s : Stmt) (old new : List ℕ) → SoFar d all rest old → rest ≡ s ∷ after → Appends d s old new → SoFar d all after new
one_more_so_far d all rest after s old new so is (w, h, e) = record {
  finds = λ span f. so.finds span (subst (λ r. FirstUnbuiltOf d (map Stated r) span) (sym is) (first_behind d (Stated s ∷ []) (map Stated after) span ((w, h), tt) f));
  puts = λ ws k. let p = so.puts (w ∷ ws) (subst (λ r. AllZip (Writes d) r (w ∷ ws)) (sym is) (h, k)) in (p.0, p.1, ap (λ z. z ++ all_bytes ws) e ∙ append_assoc old (bytes_of w) (all_bytes ws) ∙ p.2);
}

pub all_so_far : (d : Dialect) (all rest : List Stmt) (written : List ℕ) → SoFar d all rest written → length rest ≡ 0 → StatementsWrite d all written
all_so_far d all rest written so is = let p = so.puts [] (subst (λ r. AllZip (Writes d) r []) (sym (empty rest is)) tt) in (p.0, p.1, sym (append-nil written) ∙ p.2)

pub refused_so_far : (d : Dialect) (all rest after : List Stmt) (s : Stmt) (written : List ℕ) (e : WriterFault) → SoFar d all rest written → rest ≡ s ∷ after → RefusesStatement d s e → RefusesStatements d all e
refused_so_far d all rest after s written (fault.Unbuilt span) so is (h, place) =
    let here = first_here d (Stated s) (map Stated after) (λ b. h b.0 b.1) in
    so.finds span (subst (λ r. FirstUnbuiltOf d (map Stated r) span) (sym is) (subst (λ x. FirstUnbuiltOf d (Stated s ∷ map Stated after) x) (sym place) here))
refused_so_far d all rest after s written (fault.Memory error) so is h = tt

-- ---- whole programs

pub program_unbuilt : (d : Dialect) (p : Program) (span : Span) → ((d : Dialect) → IsFirstOf d (heads_of p) (Some span)) → Refuses d (text.Program p) (fault.Unbuilt span)
program_unbuilt d p span h = first_in_front d (heads_of p) (map Stated (out-Block p.block).body) span (h d)

pub program_ok : {V : Type 0} (items : V → List ℕ) (d : Dialect) (p : Program) (body : List Stmt) (r : Result V WriterFault) → ((d : Dialect) → IsFirstOf d (heads_of p) None) → body ≡ (out-Block p.block).body
    → IfOk r (λ v. StatementsWrite d body (items v)) → IfOk r (λ v. FileWrites d (text.Program p) (items v))
program_ok items d p body (Ok v) h e s = program_writes d p (items v) (h d) (subst (λ b. StatementsWrite d b (items v)) e s)
program_ok items d p body (Err f) h e s = tt

refused : (d : Dialect) (p : Program) (f : WriterFault) → AllByRecursion (IsBuilt d) (heads_of p) → RefusesStatements d (out-Block p.block).body f → Refuses d (text.Program p) f
refused d p (fault.Unbuilt span) h s = first_behind d (heads_of p) (map Stated (out-Block p.block).body) span h s
refused d p (fault.Memory error) h s = tt

pub program_err : {V : Type 0} (d : Dialect) (p : Program) (body : List Stmt) (r : Result V WriterFault) → ((d : Dialect) → IsFirstOf d (heads_of p) None) → body ≡ (out-Block p.block).body
    → IfErr r (RefusesStatements d body) → IfErr r (Refuses d (text.Program p))
program_err d p body (Ok v) h e s = tt
program_err d p body (Err f) h e s = refused d p f (h d) (subst (λ b. RefusesStatements d b f) e s)
