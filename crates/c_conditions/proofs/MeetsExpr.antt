-- That the steps over types, expressions and places find whether their demands hold.
use Rattle.std.proofs.Common.{◌≡◌, ℕ, suc, ◌+◌, Bool, true, false, IsTrue, List, [], ◌∷◌, refl, sym, ◌∙◌, arith}
use Rattle.std.specs.Option.{is_some}
use Rattle.c_tree.specs.Tree.{ObjectType, Int, Word, Byte, Struct, Named, VoidPointer, Pointer, Expr, Read, Number, WordNumber, Null, Address, Unary, Binary, Cast, Place, Variable, Pointee, Member, Index}
use Rattle.c_tree.specs.declared.operators.CCast.{CCast}
use Rattle.c_tree.specs.declared.operators.CCast.TheVariants as cast
use Rattle.c_grammar.specs.declared.fault.CTextKind.TheVariants.{BadType}
use Rattle.c_grammar.specs.declared.token.Mark.TheVariants as mark
use Rattle.c_grammar.specs.Token.{Identifier, Sign}
use Rattle.c_grammar.specs.Types.{Known}
use Rattle.c_grammar.specs.Spelling.{count, binary_mark, spell_type, spell_cast, spell_expr, spell_place}
use Rattle.c_grammar.specs.Demands.{Names, Declared, among, pointed_demands, type_demands, cast_demands, expr_demands, place_demands}
use Rattle.c_grammar.proofs.Spelled.{count_more, type_follow, cast_follow, expr_follow, place_follow}
use Rattle.c_conditions.specs.Names.{Numbers}
use Rattle.c_conditions.specs.World.{World, NameSet}
use Rattle.c_conditions.specs.TypeSteps.{whole_struct, pointed_struct, typedef_name, pointed_type, type_of}
use Rattle.c_conditions.specs.ExprSteps.{cast_step, expr_step, place_step}
use Rattle.c_conditions.proofs.Meets.{Meets, at, pass_first, seq, began, passed, pass_last, tested, levelled, recount, rebase}

-- the world knows the types that may be named behind a pointer
pub record Behind (k : Known) (pointed typedefs : NameSet) : Type 0 where
  pub behind : (name : List ℕ) → pointed name ≡ among name k.pointed
  pub named : (name : List ℕ) → typedefs name ≡ among name k.typedefs

-- it knows the types that are known
pub record Agree (k : Known) (structs : Numbers) (pointed typedefs : NameSet) : Type 0 where
  pub by_value : (name : List ℕ) → is_some (structs name) ≡ among name k.whole
  pub others : Behind k pointed typedefs

abbrev pub KnowsBehind : Known → World → Type 0
KnowsBehind k w = Behind k w.pointed w.typedefs

abbrev pub Knows : Known → World → Type 0
Knows k w = Agree k w.structs w.pointed w.typedefs

pub holds : {b : Bool} (name : List ℕ) (above : Names) → b ≡ among name above → b ≡ true → IsTrue (among name above)
holds name above e t = sym e ∙ t

pub fails : {b : Bool} (name : List ℕ) (above : Names) → b ≡ among name above → b ≡ false → IsTrue (among name above) → ⊥
fails name above e t h = let contra : true ≡ false = sym h ∙ sym e ∙ t in absurd cc

-- ---- types

pub whole_meets : (k : Known) (w : World) → Knows k w → (name : List ℕ) → Meets w ((1, Declared name k.whole) ∷ []) 2 w (whole_struct name w)
whole_meets k w g name =
    pass_last 1 (tested (λ u. is_some (u.structs name)) BadType 1 (Declared name k.whole) refl refl (λ t. holds name k.whole (g.by_value name) t) (λ t. fails name k.whole (g.by_value name) t) (passed w 1))

pub behind_meets : (k : Known) (w : World) → KnowsBehind k w → (name : List ℕ) → Meets w ((1, Declared name k.pointed) ∷ []) 2 w (pointed_struct name w)
behind_meets k w g name =
    pass_last 1 (tested (λ u. u.pointed name) BadType 1 (Declared name k.pointed) refl refl (λ t. holds name k.pointed (g.behind name) t) (λ t. fails name k.pointed (g.behind name) t) (passed w 1))

pub named_meets : (k : Known) (w : World) → KnowsBehind k w → (name : List ℕ) → Meets w ((0, Declared name k.typedefs) ∷ []) 1 w (typedef_name name w)
named_meets k w g name =
    pass_last 1 (tested (λ u. u.typedefs name) BadType 0 (Declared name k.typedefs) refl refl (λ t. holds name k.typedefs (g.named name) t) (λ t. fails name k.typedefs (g.named name) t) (began w))

pub star_count : (of : ObjectType) → count spell_type of + 1 ≡ count spell_type (Pointer of)
star_count of = omega (arith, count_more spell_type type_follow of (Sign mark.Star ∷ []))

pub pointed_meets : (k : Known) (w : World) → KnowsBehind k w → (of : ObjectType) → Meets w (pointed_demands k of) (count spell_type of) w (pointed_type of w)
unfolding pointed_type
pointed_meets k w g Int = passed w 1
pointed_meets k w g Word = passed w 1
pointed_meets k w g Byte = passed w 2
pointed_meets k w g VoidPointer = passed w 2
pointed_meets k w g (Struct name) = behind_meets k w g name
pointed_meets k w g (Named name) = named_meets k w g name
pointed_meets k w g (Pointer of) = recount (count spell_type (Pointer of)) (star_count of) (pass_last 1 (pointed_meets k w g of))

pub type_meets : (k : Known) (w : World) → Knows k w → (of : ObjectType) → Meets w (type_demands k of) (count spell_type of) w (type_of of w)
unfolding type_of pointed_type
type_meets k w g Int = passed w 1
type_meets k w g Word = passed w 1
type_meets k w g Byte = passed w 2
type_meets k w g VoidPointer = passed w 2
type_meets k w g (Struct name) = whole_meets k w g name
type_meets k w g (Named name) = named_meets k w g.others name
type_meets k w g (Pointer of) = recount (count spell_type (Pointer of)) (star_count of) (pass_last 1 (pointed_meets k w g.others of))

-- ---- expressions and places

cast_meets : (k : Known) (w : World) → KnowsBehind k w → (to : CCast) → Meets w (cast_demands k to) (count spell_cast to) w (cast_step to w)
cast_meets k w g cast.Int = passed w 1
cast_meets k w g cast.Word = passed w 1
cast_meets k w g cast.VoidPointer = passed w 2
cast_meets k w g (cast.StructPointer name) = pass_last 1 (behind_meets k w g name)

mutual
  unfolding expr_step place_step

  pub expr_meets : (k : Known) (w : World) → Knows k w → (level : ℕ) (e : Expr) → Meets w (expr_demands k level e) (count spell_expr e) w (expr_step e w)
  expr_meets k w g level (Read p) = levelled level (place_meets k w g (suc level) p)
  expr_meets k w g level (Number n) = levelled level (passed w 4)
  expr_meets k w g level (WordNumber n) = levelled level (passed w 4)
  expr_meets k w g level Null = levelled level (passed w 1)
  expr_meets k w g level (Address p) =
      levelled level (recount (count spell_expr (Address p)) (omega (arith, count_more spell_place place_follow p (Sign mark.Close ∷ [])))
      (pass_last 1 (pass_first 2 refl refl (rebase w (w.place + 2) (place_meets k (at w (w.place + 2)) g (suc level) p)))))
  expr_meets k w g level (Unary op a) =
      levelled level (recount (count spell_expr (Unary op a)) (omega (arith, count_more spell_expr expr_follow a (Sign mark.Close ∷ [])))
      (pass_last 1 (pass_first 2 refl refl (rebase w (w.place + 2) (expr_meets k (at w (w.place + 2)) g (suc level) a)))))
  expr_meets k w g level (Binary op a b) =
      levelled level (recount (count spell_expr (Binary op a b)) (omega (arith, count_more spell_expr expr_follow a (Sign (binary_mark op) ∷ spell_expr b (Sign mark.Close ∷ [])), count_more spell_expr expr_follow b (Sign mark.Close ∷ [])))
      (pass_last 1 (seq (expr_step b) (count spell_expr a + 2) (omega arith) (pass_last 1 (pass_first 1 refl refl (rebase w (w.place + 1) (expr_meets k (at w (w.place + 1)) g (suc level) a))))
      (rebase w (w.place + (1 + count spell_expr a + 1)) (expr_meets k (at w (w.place + (1 + count spell_expr a + 1))) g (suc level) b)))))
  expr_meets k w g level (Cast to a) =
      levelled level (recount (count spell_expr (Cast to a)) (omega (arith, count_more spell_cast cast_follow to (Sign mark.Close ∷ spell_expr a (Sign mark.Close ∷ [])), count_more spell_expr expr_follow a (Sign mark.Close ∷ [])))
      (pass_last 1 (seq (expr_step a) (count spell_cast to + 3) (omega arith) (pass_last 1 (pass_first 2 refl refl (rebase w (w.place + 2) (cast_meets k (at w (w.place + 2)) g.others to))))
      (rebase w (w.place + (2 + count spell_cast to + 1)) (expr_meets k (at w (w.place + (2 + count spell_cast to + 1))) g (suc level) a)))))

  pub place_meets : (k : Known) (w : World) → Knows k w → (level : ℕ) (p : Place) → Meets w (place_demands k level p) (count spell_place p) w (place_step p w)
  place_meets k w g level (Variable n) = passed w 1
  place_meets k w g level (Pointee a) =
      recount (count spell_place (Pointee a)) (omega (arith, count_more spell_expr expr_follow a (Sign mark.Close ∷ [])))
      (pass_last 1 (pass_first 2 refl refl (rebase w (w.place + 2) (expr_meets k (at w (w.place + 2)) g level a))))
  place_meets k w g level (Member p n) = recount (count spell_place (Member p n)) (omega (arith, count_more spell_place place_follow p (Sign mark.Dot ∷ Identifier n ∷ []))) (pass_last 2 (place_meets k w g level p))
  place_meets k w g level (Index p a) =
      recount (count spell_place (Index p a)) (omega (arith, count_more spell_place place_follow p (Sign mark.OpenBracket ∷ spell_expr a (Sign mark.CloseBracket ∷ [])), count_more spell_expr expr_follow a (Sign mark.CloseBracket ∷ [])))
      (pass_last 1 (seq (expr_step a) (count spell_place p + 1) refl (pass_last 1 (place_meets k w g level p))
      (rebase w (w.place + (count spell_place p + 1)) (expr_meets k (at w (w.place + (count spell_place p + 1))) g level a))))
