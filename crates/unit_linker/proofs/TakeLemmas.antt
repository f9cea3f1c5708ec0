-- Taking files out of their places.
use Rattle.std.proofs.Common.{◌≡◌, ℕ, zero, suc, List, [], ◌∷◌, ◌++◌, length, inl, inr, Option, Some, None, refl, sym, ap, ◌∙◌, subst, append_assoc, arith, slice_set}
use Rattle.std.specs.List.{filter_map, cons_option}
use Rattle.pascal_tree.specs.declared.files.SourceFile.{SourceFile}
use Rattle.unit_linker.specs.Graph.{Among}
use Rattle.unit_linker.specs.Slots.{slot_at, IsOnce}

abbrev pub Slots : Type 0
Slots = List (Option SourceFile)

other_slot : (slots : Slots) (u v : ℕ) → (u ≡ v → ⊥) → slot_at (slice_set slots u None) v ≡ slot_at slots v
other_slot [] u v n = refl
other_slot (s ∷ slots) zero zero n = absurd (n refl)
other_slot (s ∷ slots) zero (suc v) n = refl
other_slot (s ∷ slots) (suc u) zero n = refl
other_slot (s ∷ slots) (suc u) (suc v) n = other_slot slots u v (λ e. n (ap suc e))

-- a loop through places, of which `rest` are left
pub record Taking (slots : Slots) (places rest : List ℕ) (now : Slots) (files : List SourceFile) : Type 0 where
  pub once : IsOnce rest
  pub same : (v : ℕ) → Among rest v → slot_at now v ≡ slot_at slots v
  pub others : (v : ℕ) → (Among places v → ⊥) → slot_at now v ≡ slot_at slots v
  pub among : (v : ℕ) → Among rest v → Among places v
  pub total : files ++ filter_map (slot_at slots) rest ≡ filter_map (slot_at slots) places

pub taking_begins : (slots : Slots) (places : List ℕ) (files : List SourceFile) → files ≡ [] → IsOnce places → Taking slots places places slots files
taking_begins slots places files h once = record { once = once; same = λ v a. refl; others = λ v n. refl; among = λ v a. a; total = ap (λ l. l ++ filter_map (slot_at slots) places) h }

cons_apart : (o : Option SourceFile) (l : List SourceFile) → cons_option o l ≡ cons_option o [] ++ l
cons_apart None l = refl
cons_apart (Some f) l = refl

taken : (slots : Slots) (places rest after : List ℕ) (now now' : Slots) (u : ℕ) (files files' : List SourceFile) → Taking slots places rest now files → rest ≡ u ∷ after → now' ≡ slice_set now u None
    → files' ≡ files ++ cons_option (slot_at now u) [] → Taking slots places after now' files'
taken slots places rest after now now' u files files' t h k e =
    let once : IsOnce (u ∷ after) = subst IsOnce h t.once in
    let in_rest : (v : ℕ) → Among (u ∷ after) v → Among rest v = λ v a. subst (λ l. Among l v) (sym h) a in
    record {
      once = once.1;
      same = λ v a. ap (λ l. slot_at l v) k ∙ other_slot now u v (λ same. once.0 (subst (Among after) (sym same) a)) ∙ t.same v (in_rest v (inr a));
      others = λ v n. ap (λ l. slot_at l v) k ∙ other_slot now u v (λ same. n (subst (Among places) same (t.among u (in_rest u (inl refl))))) ∙ t.others v n;
      among = λ v a. t.among v (in_rest v (inr a));
      total = ap (λ l. l ++ filter_map (slot_at slots) after) (e ∙ ap (λ o. files ++ cons_option o []) (t.same u (in_rest u (inl refl))))
          ∙ append_assoc files (cons_option (slot_at slots u) []) (filter_map (slot_at slots) after)
          ∙ ap (λ l. files ++ l) (sym (cons_apart (slot_at slots u) (filter_map (slot_at slots) after)) ∙ ap (filter_map (slot_at slots)) (sym h))
          ∙ t.total;
    }

pub some_taken : (slots : Slots) (places rest after : List ℕ) (now now' : Slots) (u : ℕ) (files files' : List SourceFile) (file : SourceFile) (result : Option SourceFile) → Taking slots places rest now files → rest ≡ u ∷ after
    → result ≡ slot_at now u → now' ≡ slice_set now u None → result ≡ Some file → files' ≡ files ++ file ∷ [] → Taking slots places after now' files'
some_taken slots places rest after now now' u files files' file result t h r k s e =
    taken slots places rest after now now' u files files' t h k (e ∙ ap (λ o. files ++ cons_option o []) (sym s ∙ r))

append_nil : (xs : List SourceFile) → xs ≡ xs ++ []
append_nil [] = refl
append_nil (x ∷ xs) = ap (λ l. x ∷ l) (append_nil xs)

pub none_taken : (slots : Slots) (places rest after : List ℕ) (now now' : Slots) (u : ℕ) (files : List SourceFile) (result : Option SourceFile) → Taking slots places rest now files → rest ≡ u ∷ after
    → result ≡ slot_at now u → now' ≡ slice_set now u None → result ≡ None → Taking slots places after now' files
none_taken slots places rest after now now' u files result t h r k s =
    taken slots places rest after now now' u files files t h k (append_nil files ∙ ap (λ o. files ++ cons_option o []) (sym s ∙ r))

no_items : (xs : List ℕ) → length xs ≡ 0 → xs ≡ []
no_items [] h = refl
no_items (x ∷ xs) h = absurd (omega arith)

pub all_taken : (slots : Slots) (places rest : List ℕ) (now : Slots) (files : List SourceFile) → Taking slots places rest now files → length rest ≡ 0 → files ≡ filter_map (slot_at slots) places
all_taken slots places rest now files t h = append_nil files ∙ ap (λ l. files ++ filter_map (slot_at slots) l) (sym (no_items rest h)) ∙ t.total
