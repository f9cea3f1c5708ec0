-- The code of a type.
use Rattle.std.specs.Prelude.{◌≡◌, [], ◌∷◌, refl}
use Rattle.std.specs.Coded.{Coded}
use Rattle.std.proofs.Common.{ap}
use base.Stored.{Gv, gnil, gnum, gcons, num}
use Rattle.c_tree.specs.Codes.{Stored, coded, pick, names}
use Rattle.c_tree.specs.types.Tree.{ObjectType, Int, Word, Byte, Struct, Named, VoidPointer, Pointer}

abbrev code : ObjectType → Gv
code Int = gcons (gnum 0) gnil
code Word = gcons (gnum 1) gnil
code Byte = gcons (gnum 2) gnil
code VoidPointer = gcons (gnum 3) gnil
code (Struct n) = gcons (gnum 4) (names.code n)
code (Named n) = gcons (gnum 5) (names.code n)
code (Pointer of) = gcons (gnum 6) (code of)

abbrev back : Gv → ObjectType
back (gcons t x) = pick (Int ∷ Word ∷ Byte ∷ VoidPointer ∷ Struct (names.back x) ∷ Named (names.back x) ∷ []) (num t) (Pointer (back x))
back _ = Int

pub undoes : (x : ObjectType) → back (code x) ≡ x
undoes Int = refl
undoes Word = refl
undoes Byte = refl
undoes VoidPointer = refl
undoes (Struct n) = ap Struct (names.undoes n)
undoes (Named n) = ap Named (names.undoes n)
undoes (Pointer of) = ap Pointer (undoes of)

abbrev pub types : Stored ObjectType
types = record { code = code; back = back; undoes = undoes }

abbrev pub coded_type : Coded ObjectType
coded_type = coded types
