-- Rows with one, two and three accesses, of which only the last may change its word: which old words
-- they find, where they can be done, and what they leave.
use Rattle.std.proofs.Common.{◌≡◌, ℕ, ◌≤◌, Bool, true, false, List, [], ◌∷◌, length, take, refl, sym, ap, ◌∙◌, subst, arith}
use Rattle.vm_word.specs.Word.{word_of_limbs}
use Rattle.vm_isa.specs.declared.instr.VmInstr.{VmInstr}
use Rattle.vm_isa.specs.declared.meaning.Place.{Place}
use Rattle.vm_isa.specs.Means.{Accessed, accessed_by, is_refused, new_at, places_by, places_of, word_at}
use Rattle.vm_isa.specs.Blocks.{Blocks, VmState, Meets, after_accesses, hints_used, is_block, with_block}
use Rattle.vm_isa.proofs.ReadsKept.{look, read_met, read_meets, after_read}
use Rattle.vm_isa.proofs.RowSteps.{accesses_of, Can}

abbrev pub is_at_block : Place → Bool
is_at_block p = is_block p.space p.pointer

abbrev pub put_at : Blocks → Place → List ℕ → Blocks
put_at blocks p word = with_block blocks p.space p.pointer word

abbrev pub access : (ℕ → List ℕ → List ℕ) → Place → List ℕ → Accessed
access new p x = record { slot = p.slot; space = p.space; pointer = p.pointer; old = x; new = new p.slot x }

-- no access
module _ (i : VmInstr) (s : VmState) (pl : (b c : ℕ) → places_by i b c ≡ []) where
  pub forced0 : (olds : List (List ℕ)) → Can i s olds → olds ≡ []
  forced0 [] can = refl
  forced0 (x ∷ olds) can =
      let none : length (places_of i (x ∷ olds)) ≡ 0 = ap (λ (ps : List Place). length ps) (pl _ _) in
      let long : length (x ∷ olds) ≡ length (places_of i (x ∷ olds)) = can.long in
      absurd (omega arith)

  pub can0 : is_refused i [] ≡ false → hints_used i.op ≤ length s.hints → Can i s []
  unfolding accessed_by Meets
  can0 fits enough = record {
    fits = fits;
    long = sym (ap (λ (ps : List Place). length ps) (pl _ _));
    meets = subst (λ (ps : List Place). Meets s.blocks (accessed_by (new_at i [] (take 4 s.hints)) ps [])) (sym (pl _ _)) tt;
    enough = enough;
  }

  pub after0 : (given : List ℕ) → after_accesses s.blocks (accesses_of i [] given) ≡ s.blocks
  unfolding accessed_by after_accesses
  after0 given = ap (λ (ps : List Place). after_accesses s.blocks (accessed_by (new_at i [] given) ps [])) (pl _ _)

-- one access
module _ (i : VmInstr) (s : VmState) (p : Place) (pl : (b c : ℕ) → places_by i b c ≡ p ∷ []) where
  pub forced1 : (X : List ℕ) → look s.blocks p ≡ X → (olds : List (List ℕ)) → Can i s olds → olds ≡ X ∷ []
  unfolding accessed_by Meets
  forced1 X hx [] can =
      let one : length (places_of i []) ≡ 1 = ap (λ (ps : List Place). length ps) (pl _ _) in
      let long : 0 ≡ length (places_of i []) = can.long in
      absurd (omega arith)
  forced1 X hx (x ∷ []) can =
      let meets = subst (λ (ps : List Place). Meets s.blocks (accessed_by (new_at i (x ∷ []) (take 4 s.hints)) ps (x ∷ []))) (pl _ _) can.meets in
      ap (λ (w : List ℕ). w ∷ []) (sym meets.1 ∙ hx)
  forced1 X hx (x ∷ y ∷ olds) can =
      let one : length (places_of i (x ∷ y ∷ olds)) ≡ 1 = ap (λ (ps : List Place). length ps) (pl _ _) in
      let long : length (x ∷ y ∷ olds) ≡ length (places_of i (x ∷ y ∷ olds)) = can.long in
      absurd (omega arith)

  pub can1 : (X : List ℕ) → look s.blocks p ≡ X → is_refused i (X ∷ []) ≡ false → is_at_block p ≡ true → hints_used i.op ≤ length s.hints → Can i s (X ∷ [])
  unfolding accessed_by Meets
  can1 X hx fits on enough = record {
    fits = fits;
    long = sym (ap (λ (ps : List Place). length ps) (pl _ _));
    meets = subst (λ (ps : List Place). Meets s.blocks (accessed_by (new_at i (X ∷ []) (take 4 s.hints)) ps (X ∷ []))) (sym (pl _ _)) (on, hx, tt);
    enough = enough;
  }

  pub after1 : (X given : List ℕ) → after_accesses s.blocks (accesses_of i (X ∷ []) given) ≡ put_at s.blocks p (new_at i (X ∷ []) given p.slot X)
  unfolding accessed_by after_accesses
  after1 X given = ap (λ (ps : List Place). after_accesses s.blocks (accessed_by (new_at i (X ∷ []) given) ps (X ∷ []))) (pl _ _)

-- two accesses, of which the first reads, and its word says where the second is
module _ (i : VmInstr) (s : VmState) (p : Place) (q : ℕ → Place) (pl : (b c : ℕ) → places_by i b c ≡ p ∷ q b ∷ [])
    (keep : (olds : List (List ℕ)) (given x : List ℕ) → new_at i olds given p.slot x ≡ x) where
  pub forced2 : (X Y : List ℕ) (b : ℕ) → look s.blocks p ≡ X → word_of_limbs X ≡ b → look s.blocks (q b) ≡ Y → (olds : List (List ℕ)) → Can i s olds → olds ≡ X ∷ Y ∷ []
  unfolding accessed_by Meets word_at
  forced2 X Y b hx hb hy [] can =
      let two : length (places_of i []) ≡ 2 = ap (λ (ps : List Place). length ps) (pl _ _) in
      let long : 0 ≡ length (places_of i []) = can.long in
      absurd (omega arith)
  forced2 X Y b hx hb hy (x ∷ []) can =
      let two : length (places_of i (x ∷ [])) ≡ 2 = ap (λ (ps : List Place). length ps) (pl _ _) in
      let long : length (x ∷ []) ≡ length (places_of i (x ∷ [])) = can.long in
      absurd (omega arith)
  forced2 X Y b hx hb hy (x ∷ y ∷ []) can =
      let new = new_at i (x ∷ y ∷ []) (take 4 s.hints) in
      let at : ℕ = word_of_limbs x in
      let meets = subst (λ (ps : List Place). Meets s.blocks (accessed_by new ps (x ∷ y ∷ []))) (pl _ _) can.meets in
      let first = read_met s.blocks (access new p x) (access new (q at) y ∷ []) (keep _ _ _) meets in
      let same : x ≡ X = sym first.1 ∙ hx in
      let number : at ≡ b = ap word_of_limbs same ∙ hb in
      let second : y ≡ Y = sym first.2.1 ∙ ap (λ (n : ℕ). look s.blocks (q n)) number ∙ hy in
      ap (λ (w : List ℕ). w ∷ y ∷ []) same ∙ ap (λ (w : List ℕ). X ∷ w ∷ []) second
  forced2 X Y b hx hb hy (x ∷ y ∷ z ∷ olds) can =
      let two : length (places_of i (x ∷ y ∷ z ∷ olds)) ≡ 2 = ap (λ (ps : List Place). length ps) (pl _ _) in
      let long : length (x ∷ y ∷ z ∷ olds) ≡ length (places_of i (x ∷ y ∷ z ∷ olds)) = can.long in
      absurd (omega arith)

  places2 : (X Y : List ℕ) (b : ℕ) → word_of_limbs X ≡ b → places_of i (X ∷ Y ∷ []) ≡ p ∷ q b ∷ []
  unfolding word_at
  places2 X Y b hb = pl (word_of_limbs X) (word_of_limbs Y) ∙ ap (λ (n : ℕ). p ∷ q n ∷ []) hb

  pub can2 : (X Y : List ℕ) (b : ℕ) → look s.blocks p ≡ X → word_of_limbs X ≡ b → look s.blocks (q b) ≡ Y → is_refused i (X ∷ Y ∷ []) ≡ false
      → is_at_block p ≡ true → is_at_block (q b) ≡ true → hints_used i.op ≤ length s.hints → Can i s (X ∷ Y ∷ [])
  unfolding accessed_by Meets
  can2 X Y b hx hb hy fits on_p on_q enough =
      let new = new_at i (X ∷ Y ∷ []) (take 4 s.hints) in
      record {
        fits = fits;
        long = sym (ap (λ (ps : List Place). length ps) (places2 X Y b hb));
        meets = subst (λ (ps : List Place). Meets s.blocks (accessed_by new ps (X ∷ Y ∷ []))) (sym (places2 X Y b hb))
            (read_meets s.blocks (access new p X) (access new (q b) Y ∷ []) (keep _ _ _) on_p hx (on_q, hy, tt));
        enough = enough;
      }

  pub blocks2 : (X Y : List ℕ) (b : ℕ) → word_of_limbs X ≡ b → Can i s (X ∷ Y ∷ []) → (is_at_block p ≡ true) × (is_at_block (q b) ≡ true)
  unfolding accessed_by Meets
  blocks2 X Y b hb can =
      let new = new_at i (X ∷ Y ∷ []) (take 4 s.hints) in
      let meets = subst (λ (ps : List Place). Meets s.blocks (accessed_by new ps (X ∷ Y ∷ []))) (places2 X Y b hb) can.meets in
      let first = read_met s.blocks (access new p X) (access new (q b) Y ∷ []) (keep _ _ _) meets in
      (first.0, first.2.0)

  pub after2 : (X Y : List ℕ) (b : ℕ) (given : List ℕ) → look s.blocks p ≡ X → word_of_limbs X ≡ b
      → after_accesses s.blocks (accesses_of i (X ∷ Y ∷ []) given) ≡ put_at s.blocks (q b) (new_at i (X ∷ Y ∷ []) given (q b).slot Y)
  unfolding accessed_by after_accesses
  after2 X Y b given hx hb =
      let new = new_at i (X ∷ Y ∷ []) given in
      ap (λ (ps : List Place). after_accesses s.blocks (accessed_by new ps (X ∷ Y ∷ []))) (places2 X Y b hb)
      ∙ after_read s.blocks (access new p X) (access new (q b) Y ∷ []) (keep _ _ _) hx

-- three accesses, of which the first two read
module _ (i : VmInstr) (s : VmState) (p : Place) (q r : ℕ → Place) (pl : (b c : ℕ) → places_by i b c ≡ p ∷ q b ∷ r b ∷ [])
    (keep_p : (olds : List (List ℕ)) (given x : List ℕ) → new_at i olds given p.slot x ≡ x)
    (keep_q : (b : ℕ) (olds : List (List ℕ)) (given x : List ℕ) → new_at i olds given (q b).slot x ≡ x) where
  pub forced3 : (X Y Z : List ℕ) (b : ℕ) → look s.blocks p ≡ X → word_of_limbs X ≡ b → look s.blocks (q b) ≡ Y → look s.blocks (r b) ≡ Z
      → (olds : List (List ℕ)) → Can i s olds → olds ≡ X ∷ Y ∷ Z ∷ []
  unfolding accessed_by Meets word_at
  forced3 X Y Z b hx hb hy hz [] can =
      let three : length (places_of i []) ≡ 3 = ap (λ (ps : List Place). length ps) (pl _ _) in
      let long : 0 ≡ length (places_of i []) = can.long in
      absurd (omega arith)
  forced3 X Y Z b hx hb hy hz (x ∷ []) can =
      let three : length (places_of i (x ∷ [])) ≡ 3 = ap (λ (ps : List Place). length ps) (pl _ _) in
      let long : length (x ∷ []) ≡ length (places_of i (x ∷ [])) = can.long in
      absurd (omega arith)
  forced3 X Y Z b hx hb hy hz (x ∷ y ∷ []) can =
      let three : length (places_of i (x ∷ y ∷ [])) ≡ 3 = ap (λ (ps : List Place). length ps) (pl _ _) in
      let long : length (x ∷ y ∷ []) ≡ length (places_of i (x ∷ y ∷ [])) = can.long in
      absurd (omega arith)
  forced3 X Y Z b hx hb hy hz (x ∷ y ∷ z ∷ []) can =
      let new = new_at i (x ∷ y ∷ z ∷ []) (take 4 s.hints) in
      let at : ℕ = word_of_limbs x in
      let meets = subst (λ (ps : List Place). Meets s.blocks (accessed_by new ps (x ∷ y ∷ z ∷ []))) (pl _ _) can.meets in
      let first = read_met s.blocks (access new p x) (access new (q at) y ∷ access new (r at) z ∷ []) (keep_p _ _ _) meets in
      let same : x ≡ X = sym first.1 ∙ hx in
      let number : at ≡ b = ap word_of_limbs same ∙ hb in
      let second = read_met s.blocks (access new (q at) y) (access new (r at) z ∷ []) (keep_q _ _ _ _) first.2 in
      let same_y : y ≡ Y = sym second.1 ∙ ap (λ (n : ℕ). look s.blocks (q n)) number ∙ hy in
      let same_z : z ≡ Z = sym second.2.1 ∙ ap (λ (n : ℕ). look s.blocks (r n)) number ∙ hz in
      ap (λ (w : List ℕ). w ∷ y ∷ z ∷ []) same ∙ ap (λ (w : List ℕ). X ∷ w ∷ z ∷ []) same_y ∙ ap (λ (w : List ℕ). X ∷ Y ∷ w ∷ []) same_z
  forced3 X Y Z b hx hb hy hz (x ∷ y ∷ z ∷ u ∷ olds) can =
      let three : length (places_of i (x ∷ y ∷ z ∷ u ∷ olds)) ≡ 3 = ap (λ (ps : List Place). length ps) (pl _ _) in
      let long : length (x ∷ y ∷ z ∷ u ∷ olds) ≡ length (places_of i (x ∷ y ∷ z ∷ u ∷ olds)) = can.long in
      absurd (omega arith)

  places3 : (X Y Z : List ℕ) (b : ℕ) → word_of_limbs X ≡ b → places_of i (X ∷ Y ∷ Z ∷ []) ≡ p ∷ q b ∷ r b ∷ []
  unfolding word_at
  places3 X Y Z b hb = pl (word_of_limbs X) (word_of_limbs Y) ∙ ap (λ (n : ℕ). p ∷ q n ∷ r n ∷ []) hb

  pub can3 : (X Y Z : List ℕ) (b : ℕ) → look s.blocks p ≡ X → word_of_limbs X ≡ b → look s.blocks (q b) ≡ Y → look s.blocks (r b) ≡ Z → is_refused i (X ∷ Y ∷ Z ∷ []) ≡ false
      → is_at_block p ≡ true → is_at_block (q b) ≡ true → is_at_block (r b) ≡ true → hints_used i.op ≤ length s.hints → Can i s (X ∷ Y ∷ Z ∷ [])
  unfolding accessed_by Meets
  can3 X Y Z b hx hb hy hz fits on_p on_q on_r enough =
      let new = new_at i (X ∷ Y ∷ Z ∷ []) (take 4 s.hints) in
      record {
        fits = fits;
        long = sym (ap (λ (ps : List Place). length ps) (places3 X Y Z b hb));
        meets = subst (λ (ps : List Place). Meets s.blocks (accessed_by new ps (X ∷ Y ∷ Z ∷ []))) (sym (places3 X Y Z b hb))
            (read_meets s.blocks (access new p X) (access new (q b) Y ∷ access new (r b) Z ∷ []) (keep_p _ _ _) on_p hx
            (read_meets s.blocks (access new (q b) Y) (access new (r b) Z ∷ []) (keep_q _ _ _ _) on_q hy (on_r, hz, tt)));
        enough = enough;
      }

  pub blocks3 : (X Y Z : List ℕ) (b : ℕ) → word_of_limbs X ≡ b → Can i s (X ∷ Y ∷ Z ∷ []) → (is_at_block p ≡ true) × (is_at_block (q b) ≡ true) × (is_at_block (r b) ≡ true)
  unfolding accessed_by Meets
  blocks3 X Y Z b hb can =
      let new = new_at i (X ∷ Y ∷ Z ∷ []) (take 4 s.hints) in
      let meets = subst (λ (ps : List Place). Meets s.blocks (accessed_by new ps (X ∷ Y ∷ Z ∷ []))) (places3 X Y Z b hb) can.meets in
      let first = read_met s.blocks (access new p X) (access new (q b) Y ∷ access new (r b) Z ∷ []) (keep_p _ _ _) meets in
      let second = read_met s.blocks (access new (q b) Y) (access new (r b) Z ∷ []) (keep_q _ _ _ _) first.2 in
      (first.0, second.0, second.2.0)

  pub after3 : (X Y Z : List ℕ) (b : ℕ) (given : List ℕ) → look s.blocks p ≡ X → word_of_limbs X ≡ b → look s.blocks (q b) ≡ Y
      → after_accesses s.blocks (accesses_of i (X ∷ Y ∷ Z ∷ []) given) ≡ put_at s.blocks (r b) (new_at i (X ∷ Y ∷ Z ∷ []) given (r b).slot Z)
  unfolding accessed_by after_accesses
  after3 X Y Z b given hx hb hy =
      let new = new_at i (X ∷ Y ∷ Z ∷ []) given in
      ap (λ (ps : List Place). after_accesses s.blocks (accessed_by new ps (X ∷ Y ∷ Z ∷ []))) (places3 X Y Z b hb)
      ∙ after_read s.blocks (access new p X) (access new (q b) Y ∷ access new (r b) Z ∷ []) (keep_p _ _ _) hx
      ∙ after_read s.blocks (access new (q b) Y) (access new (r b) Z ∷ []) (keep_q _ _ _ _) hy
