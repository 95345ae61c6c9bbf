-- Lines of any listing: which of them can fit a word, and that lines which fix some bits at two values
-- don't both fit.
use Rattle.std.proofs.Common.{◌≡◌, ℕ, suc, zero, Bool, true, false, not, ◌&&◌, ◌||◌, ◌==◌, List, [], ◌∷◌, ◌++◌, Option, Some, IfSome, filter, slice_get, refl, sym, ap, subst, ◌∙◌, arith}
use Rattle.std.specs.Bool.{if◌then◌else◌}
use Rattle.std.specs.List.{list_all}
use Rattle.std.proofs.lemmas.Bool.Decides.{nat_tests}
use Rattle.rv_decode.specs.declared.instr.Instr.{Instr}
use Rattle.rv_decode.specs.Bits.{bits}
use Rattle.rv_decode.specs.Formats.{Fixed, Line, fits}
use Rattle.rv_decode.specs.Listing.{listed_in}

-- bits high to low are not fixed at another value
abbrev pub allows : ℕ → ℕ → ℕ → List Fixed → Bool
allows high low value [] = true
allows high low value (f ∷ rest) =
    not ((f.high == high) && (f.low == low) && not (f.value == value)) && allows high low value rest

-- some bits are fixed at two values
abbrev pub clashes : List Fixed → List Fixed → Bool
clashes [] other = false
clashes (f ∷ rest) other = not (allows f.high f.low f.value other) || clashes rest other

-- each line clashes with each later one
abbrev pub all_clash : List Line → Bool
all_clash [] = true
all_clash (line ∷ rest) = list_all (λ other. clashes line.fixed other.fixed) rest && all_clash rest

same_value : (f : Fixed) (word high low value : ℕ) → bits high low word ≡ value
    → f.high ≡ high → f.low ≡ low → bits f.high f.low word ≡ f.value → f.value ≡ value
same_value f word high low value here h l fixed =
    sym fixed ∙ (ap (λ n. bits n f.low word) h ∙ (ap (λ n. bits high n word) l ∙ here))

pub allows-fits : (fixed : List Fixed) (word high low value : ℕ)
    → bits high low word ≡ value → fits fixed word ≡ true → allows high low value fixed ≡ true
allows-fits [] word high low value here fitting = refl
allows-fits (f ∷ rest) word high low value here fitting =
    let of_rest : fits rest word ≡ true → allows high low value rest ≡ true = allows-fits rest word high low value here in
    grind (arith, nat_tests, of_rest, same_value f word high low value here)

pub clashes-apart : (fixed other : List Fixed) (word : ℕ)
    → clashes fixed other ≡ true → fits fixed word ≡ true → fits other word ≡ true → ⊥
clashes-apart [] other word clash fitting both = cc
clashes-apart (f ∷ rest) other word clash fitting both =
    let of_rest : clashes rest other ≡ true → fits rest word ≡ true → ⊥ = λ c f. clashes-apart rest other word c f both in
    let allowed : bits f.high f.low word ≡ f.value → allows f.high f.low f.value other ≡ true =
    λ here. allows-fits other word f.high f.low f.value here both in
    grind (arith, nat_tests, of_rest, allowed)

-- only the lines that allow what the word has can fit it
pub listed_in-filter : (lines : List Line) (word high low value : ℕ) → bits high low word ≡ value
    → listed_in lines word ≡ listed_in (filter (λ line. allows high low value line.fixed) lines) word
listed_in-filter [] word high low value here = refl
listed_in-filter (line ∷ rest) word high low value here =
    let of_rest = listed_in-filter rest word high low value here in
    let allowed = allows-fits line.fixed word high low value here in
    grind (arith, of_rest, allowed)

list_all-slice_get : (p : Line → Bool) (lines : List Line) (place : ℕ) (line : Line)
    → list_all p lines ≡ true → slice_get lines place ≡ Some line → p line ≡ true
list_all-slice_get p [] place line all at = cc
list_all-slice_get p (x ∷ rest) zero line all at = grind arith
list_all-slice_get p (x ∷ rest) (suc place) line all at =
    let of_rest = list_all-slice_get p rest place line in
    grind (arith, of_rest)

-- a word that fits the first of such lines fits none of the others
first_alone : (first : Line) (rest : List Line) (word place : ℕ) (line : Line) → all_clash (first ∷ rest) ≡ true
    → slice_get rest place ≡ Some line → fits first.fixed word ≡ true → fits line.fixed word ≡ true → ⊥
first_alone first rest word place line clash at fitting both =
    let with_line = list_all-slice_get (λ other. clashes first.fixed other.fixed) rest place line in
    let apart = λ (c : clashes first.fixed line.fixed ≡ true). clashes-apart first.fixed line.fixed word c fitting both in
    grind (arith, with_line, apart)

all_clash-rest : (first : Line) (rest : List Line) → all_clash (first ∷ rest) ≡ true → all_clash rest ≡ true
all_clash-rest first rest clash = grind arith

fits_along : (x line : Line) (word : ℕ) → Some x ≡ Some line → fits line.fixed word ≡ true → fits x.fixed word ≡ true
fits_along x line word same fitting =
    let e : x ≡ line = cc in
    subst (λ (l : Line). fits l.fixed word ≡ true) (sym e) fitting

pub one_place : (lines : List Line) (word first second : ℕ) (line other : Line) → all_clash lines ≡ true
    → slice_get lines first ≡ Some line → slice_get lines second ≡ Some other
    → fits line.fixed word ≡ true → fits other.fixed word ≡ true → first ≡ second
one_place [] word first second line other clash here there fitting both = cc
one_place (x ∷ rest) word zero zero line other clash here there fitting both = refl
one_place (x ∷ rest) word zero (suc second) line other clash here there fitting both =
    absurd (first_alone x rest word second other clash there (fits_along x line word here fitting) both)
one_place (x ∷ rest) word (suc first) zero line other clash here there fitting both =
    absurd (first_alone x rest word first line clash here (fits_along x other word there both) fitting)
one_place (x ∷ rest) word (suc first) (suc second) line other clash here there fitting both =
    ap suc (one_place rest word first second line other (all_clash-rest x rest clash) here there fitting both)

pub listed_in-slice_get : (lines : List Line) (word place : ℕ) (line : Line) → all_clash lines ≡ true
    → slice_get lines place ≡ Some line → fits line.fixed word ≡ true → listed_in lines word ≡ Some (line.instr word)
listed_in-slice_get [] word place line clash here fitting = cc
listed_in-slice_get (x ∷ rest) word zero line clash here fitting =
    let fitting_x = fits_along x line word here fitting in
    let e : x ≡ line = cc in
    rw fitting_x (ap (λ (l : Line). Some (l.instr word)) e)
listed_in-slice_get (x ∷ rest) word (suc place) line clash here fitting =
    let alone = λ (h : fits x.fixed word ≡ true). first_alone x rest word place line clash here h fitting in
    let of_rest = listed_in-slice_get rest word place line (all_clash-rest x rest clash) here fitting in
    grind (arith, alone, of_rest)

if_some : (P : Instr → Type 0) (test : Bool) (instr : Instr) (xs xs_ys : Option Instr)
    → IfSome (if test then Some instr else xs) P → (IfSome xs P → IfSome xs_ys P) → IfSome (if test then Some instr else xs_ys) P
if_some P true instr xs xs_ys first rest = first
if_some P false instr xs xs_ys first rest = rest first

pub IfSome-listed_in_append : (P : Instr → Type 0) (xs ys : List Line) (word : ℕ)
    → IfSome (listed_in xs word) P → IfSome (listed_in ys word) P → IfSome (listed_in (xs ++ ys) word) P
IfSome-listed_in_append P [] ys word of_xs of_ys = of_ys
IfSome-listed_in_append P (line ∷ xs) ys word of_xs of_ys =
    if_some P (fits line.fixed word) (line.instr word) (listed_in xs word) (listed_in (xs ++ ys) word) of_xs
    (λ h. IfSome-listed_in_append P xs ys word h of_ys)
