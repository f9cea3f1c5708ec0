-- Labels that are noted list by list.
use Rattle.std.proofs.Common.{◌≡◌, ℕ, zero, suc, ◌+◌, ◌<◌, ◌≤◌, arith, Bool, true, false, List, [], ◌∷◌, ◌++◌, length, map, take, drop, drop-cons, get_or, append_assoc, Option, Some, None, refl, sym, ap, ◌∙◌}
use Rattle.std.specs.Prelude.{slice_get}
use Rattle.std.specs.Option.{option_map}
use Rattle.std.proofs.lemmas.Option.{slice_get_read, slice_get-map}
use Rattle.std.proofs.lemmas.List.{take_all, map-append}
use Rattle.std.proofs.Math.Seq.{take-suc}
use Rattle.c_tree.specs.Tree as m
use Rattle.c_tree.specs.Tree.{Statement, Body, Expr, body_of, statement_size, body_size}
use Rattle.c_meaning.specs.Cells.{Name}
use Rattle.label_ways.specs.Labels as l
use Rattle.label_ways.specs.Labels.{or_way, inside, path_statement, path_in, path_of}
use Rattle.label_ways.specs.Ways.{way_in, below, Leads, LeadEach, Guides, body_if}
use Rattle.label_ways.specs.declared.level.Level.{Level}
use Rattle.label_ways.specs.declared.ways.Ways.{Ways}
use Rattle.label_ways.specs.declared.note.ProgramWays.{ProgramWays}
use Rattle.c_tree.specs.declared.program.CFunction.{CFunction}
use Rattle.c_tree.specs.declared.program.CProgram.{CProgram}
use Rattle.label_ways.proofs.Adding.{or_none}

pub path_list : (x : Name) (i : ℕ) (a : List Statement) → path_in x i (body_of a) ≡ path_of x i a
path_list x i [] = refl
path_list x i (s ∷ rest) = ap (or_way (path_statement x i s)) (path_list x (i + 1) rest)

or_or : (a b c : l.Way) → or_way (or_way a b) c ≡ or_way a (or_way b c)
or_or (Some p) b c = refl
or_or None b c = refl

below_or : (outer : List Level) (a b : l.Way) → below outer (or_way a b) ≡ or_way (below outer a) (below outer b)
below_or outer (Some p) b = refl
below_or outer None b = refl

-- a level further in
pub below_inside : (outer : List Level) (i : ℕ) (second : Bool) (w : l.Way) → below (outer ++ record { at = i; second = second } ∷ []) w ≡ below outer (inside i second w)
below_inside outer i second None = refl
below_inside outer i second (Some p) = ap (λ o. Some (o, p.1)) (append_assoc outer (record { at = i; second = second } ∷ []) p.0)

-- ---- sizes

pub item_get : (list : List Statement) (i : ℕ) (s : Statement) → i < length list → s ≡ get_or list i s → slice_get list i ≡ Some s
item_get list i s h e = slice_get_read list (length list) i s refl h e

pub item_size : (list : List Statement) (i : ℕ) (s : Statement) → slice_get list i ≡ Some s → statement_size s + 1 ≤ body_size (body_of list)
item_size [] i s h = cc
item_size (t ∷ list) zero s h = let e : t ≡ s = cc in omega (arith, ap statement_size e)
item_size (t ∷ list) (suc i) s h = omega (arith, item_size list i s h)

-- ---- lists

module _ (outer : List Level) (all : List Statement) (first : Ways) where
  -- what is noted, and what the statements from i on add
  abbrev pub Noted : Ways → ℕ → Type 0
  Noted t i = (x : Name) → or_way (way_in t x) (below outer (path_of x i (drop i all))) ≡ or_way (way_in first x) (below outer (path_of x 0 all))

  here : (i : ℕ) (s : Statement) → i < length all → s ≡ get_or all i s → drop i all ≡ s ∷ drop (i + 1) all
  here i s h e =
      let next : suc i ≡ i + 1 = omega arith in
      drop-cons all i s h ∙ ap (λ b. b ∷ drop (suc i) all) (sym e) ∙ ap (λ n. s ∷ drop n all) next

  pub noted_next : (t u : Ways) (i : ℕ) (s : Statement) → i < length all → s ≡ get_or all i s → Noted t i
      → ((x : Name) → way_in u x ≡ or_way (way_in t x) (below outer (path_statement x i s))) → Noted u (i + 1)
  noted_next t u i s h e b w x =
      let rest = path_of x (i + 1) (drop (i + 1) all) in
      ap (λ o. or_way o (below outer rest)) (w x) ∙ or_or (way_in t x) (below outer (path_statement x i s)) (below outer rest)
      ∙ ap (or_way (way_in t x)) (sym (below_or outer (path_statement x i s) rest))
      ∙ ap (λ list. or_way (way_in t x) (below outer (path_of x i list))) (sym (here i s h e)) ∙ b x

  drop_all : (list : List Statement) (i : ℕ) → length list ≤ i → drop i list ≡ []
  drop_all [] zero h = refl
  drop_all [] (suc i) h = refl
  drop_all (a ∷ list) zero h = absurd (omega (arith, h))
  drop_all (a ∷ list) (suc i) h = drop_all list i (omega (arith, h))

  pub noted_all : (t : Ways) (i : ℕ) → length all ≤ i → Noted t i → (x : Name) → way_in t x ≡ or_way (way_in first x) (below outer (path_of x 0 all))
  noted_all t i h b x =
      sym (or_none (way_in t x)) ∙ ap (λ list. or_way (way_in t x) (below outer (path_of x i list))) (sym (drop_all all i h)) ∙ b x

-- ---- statements

module _ (outer : List Level) (t u : Ways) (i : ℕ) where
  abbrev Adds : (Name → l.Way) → Type 0
  Adds f = (x : Name) → way_in u x ≡ or_way (way_in t x) (below outer (f x))

  pub if_added : (e : Expr) (a : List Statement) → Adds (λ x. inside i false (path_of x 0 a)) → Adds (λ x. path_statement x i (m.If e (body_of a)))
  if_added e a h x = h x ∙ ap (λ w. or_way (way_in t x) (below outer (inside i false w))) (sym (path_list x 0 a))

  pub while_added : (e : Expr) (a : List Statement) → Adds (λ x. inside i false (path_of x 0 a)) → Adds (λ x. path_statement x i (m.While e (body_of a)))
  while_added e a h x = h x ∙ ap (λ w. or_way (way_in t x) (below outer (inside i false w))) (sym (path_list x 0 a))

pub else_added : (outer : List Level) (t u v : Ways) (i : ℕ) (e : Expr) (a b : List Statement) → ((x : Name) → way_in u x ≡ or_way (way_in t x) (below outer (inside i false (path_of x 0 a))))
    → ((x : Name) → way_in v x ≡ or_way (way_in u x) (below outer (inside i true (path_of x 0 b)))) → (x : Name) → way_in v x ≡ or_way (way_in t x) (below outer (path_statement x i (m.IfElse e (body_of a) (body_of b))))
else_added outer t u v i e a b h k x =
    let first = inside i false (path_of x 0 a) in
    let second = inside i true (path_of x 0 b) in
    k x ∙ ap (λ w. or_way w (below outer second)) (h x) ∙ or_or (way_in t x) (below outer first) (below outer second) ∙ ap (or_way (way_in t x)) (sym (below_or outer first second))
    ∙ ap (λ w. or_way (way_in t x) (below outer (or_way (inside i false w) second))) (sym (path_list x 0 a))
    ∙ ap (λ w. or_way (way_in t x) (below outer (or_way (inside i false (path_in x 0 (body_of a))) (inside i true w)))) (sym (path_list x 0 b))

-- ---- functions

-- the ways of the functions below i
abbrev pub EachTo : List Ways → List CFunction → ℕ → Type 0
EachTo ts functions i = LeadEach ts (take i functions)

pub each_next : (ts : List Ways) (functions : List CFunction) (i : ℕ) (t : Ways) (f : CFunction) → i < length functions → f ≡ get_or functions i f → EachTo ts functions i → Leads t f.body
    → EachTo (ts ++ t ∷ []) functions (i + 1)
each_next ts functions i t f h e all leads x =
    let next : i + 1 ≡ suc i = omega arith in
    map-append (λ t. way_in t x) ts (t ∷ []) ∙ ap (λ l. l ++ way_in t x ∷ []) (all x) ∙ ap (λ w. map (λ f. path_of x 0 f.body) (take i functions) ++ w ∷ []) (leads x)
    ∙ sym (map-append (λ f. path_of x 0 f.body) (take i functions) (f ∷ []))
    ∙ ap (λ g. map (λ f. path_of x 0 f.body) (take i functions ++ g ∷ [])) e
    ∙ ap (map (λ f. path_of x 0 f.body)) (sym (take-suc functions i f h)) ∙ ap (λ n. map (λ f. path_of x 0 f.body) (take n functions)) (sym next)

pub each_all : (ts : List Ways) (functions : List CFunction) (i : ℕ) → length functions ≤ i → EachTo ts functions i → LeadEach ts functions
each_all ts functions i h all x = all x ∙ ap (map (λ f. path_of x 0 f.body)) (take_all i functions h)

abbrev option_or_way : Option l.Way → l.Way
option_or_way None = None
option_or_way (Some w) = w

module _ (c : CProgram) (t : ProgramWays) (n : ℕ) (x : Name) where
  at_number : Guides c t → option_map (λ w. way_in w x) (slice_get t.functions.items n) ≡ option_map (λ f. path_of x 0 f.body) (slice_get c.functions n)
  at_number g = sym (slice_get-map (λ w. way_in w x) t.functions.items n) ∙ ap (λ l. slice_get l n) (g.functions x) ∙ slice_get-map (λ f. path_of x 0 f.body) c.functions n

  by_function : (o : Option l.Way) (f : Option CFunction) → o ≡ option_map (λ f. path_of x 0 f.body) f → option_or_way o ≡ path_of x 0 (body_if f)
  by_function o None h = ap option_or_way h
  by_function o (Some f) h = ap option_or_way h

  -- the way of the function with the number
  pub guided : (w : Ways) → slice_get t.functions.items n ≡ Some w → Guides c t → way_in w x ≡ path_of x 0 (body_if (slice_get c.functions n))
  guided w is g = by_function (Some (way_in w x)) (slice_get c.functions n) (ap (option_map (λ w. way_in w x)) (sym is) ∙ at_number g)

  pub unguided : slice_get t.functions.items n ≡ None → Guides c t → None ≡ path_of x 0 (body_if (slice_get c.functions n))
  unguided is g = by_function None (slice_get c.functions n) (ap (option_map (λ w. way_in w x)) (sym is) ∙ at_number g)
