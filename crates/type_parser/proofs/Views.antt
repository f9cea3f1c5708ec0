-- Trees by cases.
use Rattle.std.proofs.Common.{◌≡◌, Bool, List, Option, sym, subst}
use Rattle.p2c_text.specs.declared.place.Span.{Span}
use Rattle.pascal_tree.specs.declared.names.Identifier.{Identifier}
use Rattle.pascal_tree.specs.declared.constants.Constant.{Constant}
use Rattle.pascal_tree.specs.declared.types.TypeName.{TypeName}
use Rattle.pascal_tree.specs.declared.types.Struct.TheOpen as part
use Rattle.pascal_tree.specs.declared.types.Struct.TheOpen.{Struct-F, TypeNode-F}
use Rattle.pascal_tree.specs.declared.types.Struct.{Struct, out-Struct, roll-Struct, roll-out-Struct}
use Rattle.pascal_tree.specs.declared.types.Struct.TheVariants as struct_
use Rattle.pascal_tree.specs.declared.types.TypeNode.{TypeNode, out-TypeNode, roll-TypeNode, roll-out-TypeNode}
use Rattle.pascal_tree.specs.declared.types.TypeNode.TheVariants as node
use Rattle.pascal_tree.specs.declared.types.Fields.{Fields, out-Fields, roll-out-Fields}
use Rattle.pascal_tree.specs.declared.types.Fixed.{Fixed, out-Fixed, roll-out-Fixed}
use Rattle.pascal_tree.specs.declared.types.FixedSection.{FixedSection, out-FixedSection, roll-out-FixedSection}
use Rattle.pascal_tree.specs.declared.types.Variant.{Variant, out-Variant, roll-out-Variant}
use Rattle.pascal_tree.specs.declared.types.Variants.{Variants, out-Variants, roll-out-Variants}
use Rattle.pascal_tree.specs.declared.declarations.Formal.TheOpen as formal
use Rattle.pascal_tree.specs.declared.declarations.Formal.TheOpen.{Formal-F}
use Rattle.pascal_tree.specs.declared.declarations.Formal.{Formal, out-Formal, roll-Formal, roll-out-Formal}
use Rattle.pascal_tree.specs.declared.declarations.Formal.TheVariants as formal_
use Rattle.pascal_tree.specs.declared.declarations.Formals.{Formals, out-Formals, roll-out-Formals}
use Rattle.type_parser.specs.Fields.{section_of, fixed_of, variant_of, variants_of, fields_of}
use Rattle.type_parser.specs.Formals.{formals_of}

pub fields_is : (x : Fields) → x ≡ fields_of (out-Fields x).fixed (out-Fields x).variants (out-Fields x).closed (out-Fields x).span
fields_is x = sym (roll-out-Fields x)

pub fixed_is : (x : Fixed) → x ≡ fixed_of (out-Fixed x).sections (out-Fixed x).span
fixed_is x = sym (roll-out-Fixed x)

pub section_is : (x : FixedSection) → x ≡ section_of (out-FixedSection x).names (out-FixedSection x).of (out-FixedSection x).span
section_is x = sym (roll-out-FixedSection x)

pub variant_is : (x : Variant) → x ≡ variant_of (out-Variant x).labels (out-Variant x).fields (out-Variant x).span
variant_is x = sym (roll-out-Variant x)

pub variants_is : (x : Variants) → x ≡ variants_of ((out-Variants x).tag, (out-Variants x).of) (out-Variants x).list (out-Variants x).span
variants_is x = sym (roll-out-Variants x)

pub formals_is : (x : Formals) → x ≡ formals_of (out-Formals x).list (out-Formals x).span
formals_is x = sym (roll-out-Formals x)

module _ (P : TypeNode → Type 0) where
  pub record TypeNodeCases : Type 0 where
    pub structured : (packed : Bool) (of : Struct) (span : Span) → P (node.Structured packed of span)
    pub pointer : (domain : Identifier) (span : Span) → P (node.Pointer domain span)
    pub enumeration : (names : List Identifier) (span : Span) → P (node.Enumeration names span)
    pub subrange : (first last : Constant) (span : Span) → P (node.Subrange first last span)
    pub named : (name : Identifier) → P (node.Name name)
    pub string : (limit : Option Constant) (span : Span) → P (node.String limit span)

  rolled_type : TypeNodeCases → (x : TypeNode-F Struct TypeNode Fields Fixed FixedSection Variant Variants) → P (roll-TypeNode x)
  rolled_type c (part.Structured packed of span) = subst P (sym (node.rolls-Structured packed of span)) (c.structured packed of span)
  rolled_type c (part.Pointer domain span) = subst P (sym (node.rolls-Pointer domain span)) (c.pointer domain span)
  rolled_type c (part.Enumeration names span) = subst P (sym (node.rolls-Enumeration names span)) (c.enumeration names span)
  rolled_type c (part.Subrange first last span) = subst P (sym (node.rolls-Subrange first last span)) (c.subrange first last span)
  rolled_type c (part.Name name) = subst P (sym (node.rolls-Name name)) (c.named name)
  rolled_type c (part.String limit span) = subst P (sym (node.rolls-String limit span)) (c.string limit span)

  pub type_cases : TypeNodeCases → (x : TypeNode) → P x
  type_cases c x = subst P (roll-out-TypeNode x) (rolled_type c (out-TypeNode x))

module _ (P : Struct → Type 0) where
  pub record StructCases : Type 0 where
    pub array : (indexes : List TypeNode) (component : TypeNode) (span : Span) → P (struct_.Array indexes component span)
    pub fields : (fields : Fields) (span : Span) → P (struct_.Record fields span)
    pub set : (base : TypeNode) (span : Span) → P (struct_.Set base span)
    pub file : (component : TypeNode) (span : Span) → P (struct_.File component span)

  rolled_struct : StructCases → (x : Struct-F Struct TypeNode Fields Fixed FixedSection Variant Variants) → P (roll-Struct x)
  rolled_struct c (part.Array indexes component span) = subst P (sym (struct_.rolls-Array indexes component span)) (c.array indexes component span)
  rolled_struct c (part.Record fields span) = subst P (sym (struct_.rolls-Record fields span)) (c.fields fields span)
  rolled_struct c (part.Set base span) = subst P (sym (struct_.rolls-Set base span)) (c.set base span)
  rolled_struct c (part.File component span) = subst P (sym (struct_.rolls-File component span)) (c.file component span)

  pub struct_cases : StructCases → (x : Struct) → P x
  struct_cases c x = subst P (roll-out-Struct x) (rolled_struct c (out-Struct x))

module _ (P : Formal → Type 0) where
  pub record FormalCases : Type 0 where
    pub variables : (r : Bool) (ns : List Identifier) (t : TypeName) (span : Span) → P (formal_.Variables r ns t span)
    pub procedure : (n : Identifier) (f : Option Formals) (span : Span) → P (formal_.Procedure n f span)
    pub function : (n : Identifier) (f : Option Formals) (t : TypeName) (span : Span) → P (formal_.Function n f t span)

  rolled_formal : FormalCases → (x : Formal-F Formal Formals) → P (roll-Formal x)
  rolled_formal c (formal.Variables r ns t span) = subst P (sym (formal_.rolls-Variables r ns t span)) (c.variables r ns t span)
  rolled_formal c (formal.Procedure n f span) = subst P (sym (formal_.rolls-Procedure n f span)) (c.procedure n f span)
  rolled_formal c (formal.Function n f t span) = subst P (sym (formal_.rolls-Function n f t span)) (c.function n f t span)

  pub formal_cases : FormalCases → (x : Formal) → P x
  formal_cases c x = subst P (roll-out-Formal x) (rolled_formal c (out-Formal x))
