-- What the searches of an image find.
use Rattle.std.proofs.Common.{◌≡◌, ℕ, zero, suc, ◌+◌, ◌-◌, ◌<◌, ◌≤◌, true, false, List, [], ◌∷◌, length, get_or, slice_index, map, AllPairs, Option, None, Some, Less, Equal, Greater, nat_cmp, leb, leb-true, refl, sym, ap, subst, slice_get, ◌∙◌, arith, inl, inr}
use Rattle.std.specs.Ordering.{ordering_index}
use Rattle.std.specs.List.Sorted.{IsNonDecreasingBy, IsPartitionPoint}
use Rattle.std.proofs.lemmas.Bool.{cases_lt, cases_order}
use Rattle.std.proofs.lemmas.Bool.Decides.{nat_tests}
use Rattle.std.proofs.lemmas.Cmp.{ranked}
use Rattle.elf_image.specs.declared.headers.ProgramHeader.{ProgramHeader}
use Rattle.elf_image.specs.declared.TextWord.{TextWord}
use Rattle.std.proofs.lemmas.Option.{get_or_from_slice_get, slice_get_within}
use Rattle.elf_image.specs.Loaded.{Load, IsPlace, byte_in, text_below}
use Rattle.elf_image.specs.Image.{load_of}
use Rattle.elf_image.specs.Layout.{Begun, follow}
use Rattle.elf_image.proofs.Members.{In, in_at, place_in, in_map, map_in}
use Rattle.elf_image.proofs.Text.{Words, text_stands, text_complete, text_rises}
use Rattle.elf_image.proofs.Loads.{byte_found, byte_absent, apart_from_follow, bytes_within}

-- each load begins at the first address of the test or after it
follow_later : (from : ℕ) (headers : List ProgramHeader) → follow from headers ≡ true → (header : ProgramHeader) → In header headers → from ≤ header.p_vaddr
follow_later from [] f header h = absurd h
follow_later from (x ∷ xs) f header (inl same) = rw same (grind (arith, nat_tests))
follow_later from (x ∷ xs) f header (inr h) =
    let rest : follow (x.p_vaddr + x.p_memsz) xs ≡ true = grind (arith, nat_tests) in
    let first : from ≤ x.p_vaddr = grind (arith, nat_tests) in
    omega (arith, follow_later (x.p_vaddr + x.p_memsz) xs rest header h)

-- and where any before it ends, or after that
pub follow_pairs : (from : ℕ) (headers : List ProgramHeader) → follow from headers ≡ true → AllPairs (λ (a : ProgramHeader) (b : ProgramHeader). a.p_vaddr + a.p_memsz ≤ b.p_vaddr) headers
follow_pairs from [] f i j d below within = absurd (omega arith)
follow_pairs from (x ∷ xs) f zero zero d below within = absurd (omega arith)
follow_pairs from (x ∷ xs) f (suc i) zero d below within = absurd (omega arith)
follow_pairs from (x ∷ xs) f zero (suc j) d below within =
    let rest : follow (x.p_vaddr + x.p_memsz) xs ≡ true = grind (arith, nat_tests) in
    follow_later (x.p_vaddr + x.p_memsz) xs rest (get_or xs j d) (in_at xs j d (omega arith))
follow_pairs from (x ∷ xs) f (suc i) (suc j) d below within =
    let rest : follow (x.p_vaddr + x.p_memsz) xs ≡ true = grind (arith, nat_tests) in
    follow_pairs (x.p_vaddr + x.p_memsz) xs rest i j d (omega arith) (omega arith)

pub follow_rises : (headers : List ProgramHeader) → follow 0 headers ≡ true → IsNonDecreasingBy (λ (header : ProgramHeader). header.p_vaddr) headers
follow_rises headers f i j d low within =
    elim (cases_lt i j) [
      | inl below ↦ let k = follow_pairs 0 headers f i j d below within in omega (arith, k)
      | inr above ↦ let same : i ≡ j = omega arith in rw same (omega arith)
    ]

pub begun_from_parted : (headers : List ProgramHeader) (a k : ℕ) → IsPartitionPoint (λ (header : ProgramHeader). leb header.p_vaddr a ≡ true) (λ (header : ProgramHeader). leb header.p_vaddr a ≡ false) headers k → Begun headers a k
begun_from_parted headers a k parted = record {
  before = λ i d h. leb-true _ _ (parted.0 i d (omega arith) h);
  after = λ i d low high. let past = parted.1 i d low high in grind (arith, nat_tests);
}

module _ (file : List ℕ) (headers : List ProgramHeader) (follows : follow 0 headers ≡ true) (held : (header : ProgramHeader) → In header headers → header.p_filesz ≤ header.p_memsz) where
  module _ (a k : ℕ) (ends : Begun headers a k) where
    -- before the first load there is no byte
    pub byte_before : k ≡ 0 → byte_in (map (load_of file) headers) a ≡ 0
    byte_before e =
        byte_absent (map (load_of file) headers) a (λ load h given.
        let from = in_map (load_of file) load headers h in
        let at = place_in from.0 headers from.1 in
        let far : a < (get_or headers at.0 from.0).p_vaddr = ends.after at.0 from.0 (omega arith) at.1 in
        let begins : load.address ≤ a = given.low in
        let same : load.address ≡ (get_or headers at.0 from.0).p_vaddr = ap (λ (l : Load). l.address) from.2 ∙ sym (ap (λ (x : ProgramHeader). x.p_vaddr) (at.2 from.0)) in
        omega arith)

    module _ (header : ProgramHeader) (is : header ≡ get_or headers (k - 1) header) (some : 0 < k) (within : k ≤ length headers) where
      header_in : In header headers
      header_in = let h = in_at headers (k - 1) header (omega arith) in rw (← is) at h

      pub begins_before : header.p_vaddr ≤ a
      begins_before = let h = ends.before (k - 1) header (omega arith) in rw (← is) at h

      pub byte_here : a - header.p_vaddr < length (load_of file header).bytes → byte_in (map (load_of file) headers) a ≡ slice_index (load_of file header).bytes (a - header.p_vaddr)
      byte_here h =
          let apart = apart_from_follow file 0 headers follows held in
          byte_found 0 (map (load_of file) headers) (load_of file header) a apart (map_in (load_of file) header headers header_in)
          (record { low = begins_before; high = omega (arith, begins_before, h) })

      pub byte_past : length (load_of file header).bytes ≤ a - header.p_vaddr → byte_in (map (load_of file) headers) a ≡ 0
      byte_past past =
          byte_absent (map (load_of file) headers) a (λ load h given.
          let from = in_map (load_of file) load headers h in
          let at = place_in from.0 headers from.1 in
          let here = at.2 header in
          let same : load ≡ load_of file from.0 = from.2 in
          let address : load.address ≡ from.0.p_vaddr = ap (λ (l : Load). l.address) same in
          let bytes : length load.bytes ≡ length (load_of file from.0).bytes = ap (λ (l : Load). length l.bytes) same in
          let fits : length (load_of file from.0).bytes ≤ from.0.p_memsz = omega (arith, bytes_within file from.0, held from.0 from.1) in
          elim (cases_order at.0 (k - 1)) [
            | inl e ↦
                let one : from.0 ≡ header = sym here ∙ ap (λ i. get_or headers i header) e ∙ sym is in
                let own : length (load_of file from.0).bytes ≡ length (load_of file header).bytes = ap (λ x. length (load_of file x).bytes) one in
                let start : from.0.p_vaddr ≡ header.p_vaddr = ap (λ (x : ProgramHeader). x.p_vaddr) one in
                omega (arith, given.low, given.high, begins_before)
            | inr apart ↦ elim apart [
              | inl below ↦
                  let pair = follow_pairs 0 headers follows at.0 (k - 1) header below (omega arith) in
                  let left : (get_or headers at.0 header).p_vaddr + (get_or headers at.0 header).p_memsz ≡ from.0.p_vaddr + from.0.p_memsz = ap (λ (x : ProgramHeader). x.p_vaddr + x.p_memsz) here in
                  let right : (get_or headers (k - 1) header).p_vaddr ≡ header.p_vaddr = ap (λ (x : ProgramHeader). x.p_vaddr) (sym is) in
                  omega (arith, pair, given.high, begins_before)
              | inr above ↦
                  let far = ends.after at.0 header (omega arith) at.1 in
                  let right : (get_or headers at.0 header).p_vaddr ≡ from.0.p_vaddr = ap (λ (x : ProgramHeader). x.p_vaddr) here in
                  omega (arith, far, given.low)
            ]
          ])

pub at_pc : (a pc : ℕ) → nat_cmp a pc ≡ Equal → a ≡ pc
at_pc a pc equal = ranked a pc Equal (sym equal)

module _ (w : Words) (n pc : ℕ) where
  pub found_word : (place : ℕ) (t : TextWord) → place < length (text_below w n) → t ≡ get_or (text_below w n) place t → nat_cmp t.pc pc ≡ Equal → Some t.word ≡ w pc
  found_word place t within is equal =
      let at : In t (text_below w n) = let h = in_at (text_below w n) place t within in rw (← is) at h in
      let stand = text_stands w n t at in
      let same : t.pc ≡ pc = ranked t.pc pc Equal (sym equal) in
      sym (rw same at stand.1)

  pub absent_word : pc < n → (i : ℕ) → (IsNonDecreasingBy (λ (t : TextWord). ordering_index (nat_cmp t.pc pc)) (text_below w n) → IsPartitionPoint (λ (t : TextWord). nat_cmp t.pc pc ≡ Less) (λ (t : TextWord). nat_cmp t.pc pc ≡ Greater) (text_below w n) i) → None ≡ w pc
  absent_word low i parted = by_word (w pc) refl where
    rises : IsNonDecreasingBy (λ (t : TextWord). ordering_index (nat_cmp t.pc pc)) (text_below w n)
    rises i j d le within = let up = text_rises w n i j d le within in grind (arith, nat_tests)

    by_word : (o : Option ℕ) → w pc ≡ o → None ≡ o
    by_word None e = refl
    by_word (Some x) e =
        let t : TextWord = record { pc = pc; word = x } in
        let at = place_in t (text_below w n) (text_complete w n pc x low e) in
        let same : (get_or (text_below w n) at.0 t).pc ≡ pc = ap (λ (s : TextWord). s.pc) (at.2 t) in
        elim (cases_lt at.0 i) [
          | inl below ↦
              let smaller : (get_or (text_below w n) at.0 t).pc < pc = ranked _ pc Less (sym ((parted rises).0 at.0 t (omega arith) below)) in
              absurd (omega arith)
          | inr above ↦
              let greater : pc < (get_or (text_below w n) at.0 t).pc = ranked _ pc Greater (sym ((parted rises).1 at.0 t above at.1)) in
              absurd (omega arith)
        ]

  pub found_place : (place : ℕ) (t : TextWord) → slice_get (text_below w n) place ≡ Some t → t.pc ≡ pc → IsPlace (text_below w n) pc (w pc) (Some place)
  found_place place t at same =
      let within = slice_get_within (text_below w n) place t at in
      let is : get_or (text_below w n) place t ≡ t = get_or_from_slice_get (text_below w n) place t t at in
      let h : In t (text_below w n) = subst (λ (x : TextWord). In x (text_below w n)) is (in_at (text_below w n) place t within) in
      let stand = text_stands w n t h in
      let word : w pc ≡ Some t.word = subst (λ (p : ℕ). w p ≡ Some t.word) same stand.1 in
      let whole : t ≡ record { pc = pc; word = t.word } = ap (λ (p : ℕ). record { pc = p; word = t.word }) same in
      rw word (at ∙ ap Some whole)

  pub no_place : None ≡ w pc → IsPlace (text_below w n) pc (w pc) None
  no_place e = rw (← e) tt

-- what a place says
pub placed : (text : List TextWord) (pc : ℕ) (word : Option ℕ) (place : ℕ) → IsPlace text pc word (Some place)
    → (w : ℕ) × (word ≡ Some w) × (slice_get text place ≡ Some (record { pc = pc; word = w }))
placed text pc None place h = absurd h
placed text pc (Some w) place h = (w, refl, h)

pub not_placed : (text : List TextWord) (pc : ℕ) (word : Option ℕ) → IsPlace text pc word None → word ≡ None
not_placed text pc None h = refl
not_placed text pc (Some w) h = absurd h
