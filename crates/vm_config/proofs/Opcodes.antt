-- Which opcodes tables own.
use Rattle.std.proofs.Common.{◌≡◌, inl, inr, ℕ, zero, suc, ◌<◌, ◌≤◌, Bool, true, false, not, ◌&&◌, ◌||◌, nat_eq, nat_le, List, [], ◌∷◌, refl, sym, ap, subst, ◌∙◌, arith}
use Rattle.std.specs.Prelude.{flat_map}
use Rattle.std.specs.List.{list_any, list_all}
use Rattle.std.proofs.lemmas.Bool.{eqb-true, leb-true, cases_lt}
use Rattle.std.proofs.lemmas.List.Folds.{list_any-append}
use Rattle.air_core.specs.System.{System, is_owned}
use Rattle.gadget_time.specs.Form.{Form}
use Rattle.vm_config.specs.Config.{standing}

or_cases : (a b : Bool) (C : Type 0) → (a || b) ≡ true → (a ≡ true → C) → (b ≡ true → C) → C
or_cases true b C e f g = f refl
or_cases false b C e f g = g e

-- the system owns these
abbrev pub Owns : System → List ℕ → Type 0
Owns x ops = (op : ℕ) → is_owned x.parts op ≡ list_any (nat_eq op) ops

abbrev pub opcodes_of : List Form → List ℕ
opcodes_of forms = flat_map (λ f. f.opcodes) forms

pub standing_owns : (hi : ℕ) (forms : List Form) → Owns (standing forms hi) (opcodes_of forms)
standing_owns hi [] op = refl
standing_owns hi (f ∷ fs) op = ap (λ (b : Bool). list_any (nat_eq op) f.opcodes || b) (standing_owns hi fs op) ∙ sym (list_any-append (nat_eq op) f.opcodes (opcodes_of fs))

-- no number stands in both lists
abbrev pub clear : List ℕ → List ℕ → Bool
clear [] ys = true
clear (x ∷ xs) ys = not (list_any (nat_eq x) ys) && clear xs ys

not_both : (a b : Bool) → (not a && b) ≡ true → a ≡ true → ⊥
not_both true b e a = absurd cc
not_both false b e a = absurd cc

both_second : (a b : Bool) → (not a && b) ≡ true → b ≡ true
both_second true b e = absurd cc
both_second false b e = e

apart : (xs ys : List ℕ) → clear xs ys ≡ true → (op : ℕ) → list_any (nat_eq op) xs ≡ true → list_any (nat_eq op) ys ≡ true → ⊥
apart [] ys c op a b = absurd cc
apart (x ∷ xs) ys c op a b =
    or_cases (nat_eq op x) (list_any (nat_eq op) xs) ⊥ a
    (λ same. not_both (list_any (nat_eq x) ys) (clear xs ys) c (subst (λ (k : ℕ). list_any (nat_eq k) ys ≡ true) (eqb-true op x same) b))
    (λ more. apart xs ys (both_second (list_any (nat_eq x) ys) (clear xs ys) c) op more b)

pub separate : (x y : System) (xs ys : List ℕ) → Owns x xs → Owns y ys → clear xs ys ≡ true → (op : ℕ) → is_owned x.parts op ≡ true → is_owned y.parts op ≡ true → ⊥
separate x y xs ys p q c op a b = apart xs ys c op (sym (p op) ∙ a) (sym (q op) ∙ b)

-- ---- the opcodes of all instructions

-- each number below this passes
abbrev pub each_below : (ℕ → Bool) → ℕ → Bool
each_below p zero = true
each_below p (suc n) = p n && each_below p n

and_first : (a b : Bool) → (a && b) ≡ true → a ≡ true
and_first true b e = refl
and_first false b e = absurd cc

and_second : (a b : Bool) → (a && b) ≡ true → b ≡ true
and_second true b e = e
and_second false b e = absurd cc

pub below_passes : (p : ℕ → Bool) (n k : ℕ) → each_below p n ≡ true → k < n → p k ≡ true
below_passes p zero k e lt = absurd (omega (arith, lt))
below_passes p (suc n) k e lt =
    elim (cases_lt k n) [
      | inl less ↦ below_passes p n k (and_second (p n) (each_below p n) e) less
      | inr le ↦ let same : n ≡ k = omega (arith, lt, le) in subst (λ (i : ℕ). p i ≡ true) same (and_first (p n) (each_below p n) e)
    ]

-- all numbers of a list are between these
pub within : (ops : List ℕ) → list_all (λ k. nat_le 1 k && nat_le k 40) ops ≡ true → (op : ℕ) → list_any (nat_eq op) ops ≡ true → (1 ≤ op) × (op ≤ 40)
within [] e op a = absurd cc
within (x ∷ xs) e op a =
    or_cases (nat_eq op x) (list_any (nat_eq op) xs) _ a
    (λ same.
    let low = and_first (nat_le 1 x && nat_le x 40) (list_all (λ k. nat_le 1 k && nat_le k 40) xs) e in
    subst (λ (k : ℕ). (1 ≤ k) × (k ≤ 40)) (sym (eqb-true op x same)) (leb-true 1 x (and_first (nat_le 1 x) (nat_le x 40) low), leb-true x 40 (and_second (nat_le 1 x) (nat_le x 40) low)))
    (λ more. within xs (and_second (nat_le 1 x && nat_le x 40) (list_all (λ k. nat_le 1 k && nat_le k 40) xs) e) op more)
