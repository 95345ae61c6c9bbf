-- Readings that read the same.
use Rattle.std.proofs.Common.{◌≡◌, ℕ, zero, suc, List, [], ◌∷◌, length, Option, None, Result, Ok, Err, refl, sym, ap, ◌∙◌, arith}
use Rattle.readings.specs.Readings.{Rest, Reading, after, refusing, both, unless, chain}
use Rattle.readings.proofs.Exacts.{after_ok, refusing_ok, ok_is, done}

module _ {R : Type 0} where
  pub after_same : {A B : Type 0} (y : Result (A × Rest) R) (f g : A → Reading R B) → ((x : A) (t : Rest) → y ≡ Ok (x, t) → f x t ≡ g x t) → after y f ≡ after y g
  after_same (Ok x) f g h = h x.0 x.1 refl
  after_same (Err e) f g h = refl

  pub after_after : {A B C : Type 0} (y : Result (A × Rest) R) (f : A → Reading R B) (g : B → Reading R C) → after (after y f) g ≡ after y (λ x t. after (f x t) g)
  after_after (Ok x) f g = refl
  after_after (Err e) f g = refl

  -- what follows is the same, for what is read first
  pub both_same : {A B : Type 0} (r : Reading R A) (f g : A → Reading R B) (s : Rest) → ((x : A) (t : Rest) → r s ≡ Ok (x, t) → f x t ≡ g x t) → both r f s ≡ both r g s
  both_same {A} {B} r f g s h =
      after_same (r s) (λ x t. after (f x t) (λ y u. Ok ((x, y), u))) (λ x t. after (g x t) (λ y u. Ok ((x, y), u)))
      (λ x t e. ap (λ (z : Result (B × Rest) R). after z (λ y u. Ok ((x, y), u))) (h x t e))

  -- two values, seen as one
  pub both_seen : {A B C : Type 0} (y : Result (A × Rest) R) (f : A → Reading R B) (g : A × B → C)
      → after (after y (λ a t. after (f a t) (λ b u. Ok ((a, b), u)))) (λ p u. done (g p, u)) ≡ after y (λ a t. after (f a t) (λ b u. done (g (a, b), u)))
  both_seen {A} {B} {C} y f g =
      after_after y (λ a t. after (f a t) (λ b u. Ok ((a, b), u))) (λ p u. done (g p, u))
      ∙ after_same y (λ a t. after (after (f a t) (λ b u. Ok ((a, b), u))) (λ p u. done (g p, u))) (λ a t. after (f a t) (λ b u. done (g (a, b), u)))
      (λ a t e. after_after (f a t) (λ b u. Ok ((a, b), u)) (λ p u. done (g p, u)))

  -- a chain has as many values as it was to have
  pub chain_long : {S V : Type 0} (r : S → Reading R V) (next : S → V → S) (n : ℕ) (x : S) (s t : Rest) (vs : List V) → chain r next n x s ≡ Ok (vs, t) → length vs ≡ n
  unfolding chain
  chain_long r next zero x s t vs e = sym (ap (λ (p : List _ × Rest). length p.0) (ok_is ([], s) (vs, t) e))
  chain_long r next (suc n) x s t vs e =
      let a = after_ok (r x s) (λ w k. after (chain r next n (next x w) k) (λ ws l. Ok (w ∷ ws, l))) (vs, t) e in
      let b = after_ok (chain r next n (next x a.0.0) a.0.1) (λ ws l. Ok (a.0.0 ∷ ws, l)) (vs, t) a.2 in
      let more : length b.0.0 ≡ n = chain_long r next n (next x a.0.0) a.0.1 b.0.1 b.0.0 b.1 in
      let same : length (a.0.0 ∷ b.0.0) ≡ length vs = ap (λ (p : List _ × Rest). length p.0) (ok_is (a.0.0 ∷ b.0.0, b.0.1) (vs, t) b.2) in
      omega (arith, more, same)

  -- what passes a test was read
  pub unless_ok : {V : Type 0} (refuse : V → Option R) (r : Reading R V) (s t : Rest) (v : V) → unless refuse r s ≡ Ok (v, t) → (r s ≡ Ok (v, t)) × (refuse v ≡ None)
  unless_ok refuse r s t v e =
      let a = after_ok (r s) (λ w u. refusing (refuse w) (w, u)) (v, t) e in
      let k = refusing_ok (refuse a.0.0) a.0 (v, t) a.2 in
      (a.1 ∙ ap done k.1, sym (ap (λ (p : _ × Rest). refuse p.0) k.1) ∙ k.0)
