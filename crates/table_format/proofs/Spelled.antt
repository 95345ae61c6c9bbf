-- Numbers that are spelled into a buffer.
use Rattle.std.proofs.Common.{◌≡◌, ℕ, zero, suc, ◌+◌, ◌*◌, ◌-◌, ◌≤◌, ◌<◌, List, [], ◌∷◌, ◌++◌, length, take, drop, get_or, refl, sym, ap, ◌∙◌, append_assoc, arith, length-append, length-take, length-drop}
use Rattle.std.specs.Prelude.{replicate}
use Rattle.std.specs.List.{flat_map}
use Rattle.std.proofs.Math.ListN.{drop_of_length-le}
use Rattle.std.proofs.lemmas.List.{append-nil, take_at, drop_at, drop-drop, take_all, length-replicate}
use Rattle.table_format.proofs.Putting.{one_text}
use Rattle.table_format.specs.Texts.{number_text}
use borrow.Rule.Slice.PartMut.{put_mid}

pub numbers_long : (ns : List ℕ) → length (flat_map number_text ns) ≡ 4 * length ns
numbers_long [] = refl
numbers_long (n ∷ ns) = let more = numbers_long ns in let whole = length-append (number_text n) (flat_map number_text ns) in omega (arith, whole, more)

-- one more
pub spelled_more : (ns : List ℕ) (i : ℕ) (n d : ℕ) (start text part : List ℕ) → i < length ns → n ≡ get_or ns i d → length start ≡ 4 * length ns → text ≡ flat_map number_text (take i ns) ++ drop (4 * i) start
    → part ≡ number_text n ++ drop 4 (take (length text - 4 * i) (drop (4 * i) text)) → put_mid (4 * i) (length text - 4 * i) text part ≡ flat_map number_text (take (i + 1) ns) ++ drop (4 * (i + 1)) start
spelled_more ns i n d start text part lt is long e p =
    let done : List ℕ = flat_map number_text (take i ns) in
    let left : List ℕ = drop (4 * i) start in
    let few : length (take i ns) ≡ i = omega (arith, lt, length-take i ns) in
    let done_long : length done ≡ 4 * i = omega (arith, numbers_long (take i ns), few) in
    let left_long : length left ≡ length start - 4 * i = length-drop (4 * i) start in
    let text_long : length text ≡ 4 * i + length left = ap length e ∙ length-append done left ∙ ap (λ n. n + length left) done_long in
    let front : take (4 * i) text ≡ done = ap (take (4 * i)) e ∙ take_at done left (4 * i) done_long in
    let behind : drop (4 * i) text ≡ left = ap (drop (4 * i)) e ∙ drop_at done left (4 * i) done_long in
    let all : length left ≤ length text - 4 * i = omega (arith, text_long) in
    let given : take (length text - 4 * i) (drop (4 * i) text) ≡ left = ap (take (length text - 4 * i)) behind ∙ take_all (length text - 4 * i) left all in
    let none : drop (length text - 4 * i) (drop (4 * i) text) ≡ [] = ap (drop (length text - 4 * i)) behind ∙ drop_of_length-le left all in
    let next : 4 * i + 4 ≡ 4 * (i + 1) = omega arith in
    let rest : drop 4 left ≡ drop (4 * (i + 1)) start = drop-drop 4 (4 * i) start ∙ ap (λ n. drop n start) next in
    let spelled : part ≡ number_text (get_or ns i d) ++ drop (4 * (i + 1)) start =
    p ∙ ap (λ m. number_text m ++ drop 4 (take (length text - 4 * i) (drop (4 * i) text))) is ∙ ap (λ xs. number_text (get_or ns i d) ++ drop 4 xs) given ∙ ap (λ xs. number_text (get_or ns i d) ++ xs) rest in
    ap (λ xs. xs ++ (part ++ drop (length text - 4 * i) (drop (4 * i) text))) front
    ∙ ap (λ xs. done ++ (part ++ xs)) none
    ∙ ap (λ xs. done ++ xs) (append-nil part ∙ spelled)
    ∙ sym (append_assoc done (number_text (get_or ns i d)) (drop (4 * (i + 1)) start))
    ∙ ap (λ xs. xs ++ drop (4 * (i + 1)) start) (sym (one_text number_text ns i d lt))

-- behind the bytes of a buffer that was made longer
pub put_behind : (n s : ℕ) (old grown shown part : List ℕ) → length old ≡ s → s ≤ n → grown ≡ take n old ++ replicate (n - s) 0 → shown ≡ grown → length part ≡ n - s
    → take n (put_mid s (length shown - s) shown part ++ drop (length (put_mid s (length shown - s) shown part)) grown) ≡ old ++ part
put_behind n s old grown shown part long le is same part_long =
    let kept : take n old ≡ old = take_all n old (omega (arith, long, le)) in
    let given : shown ≡ old ++ replicate (n - s) 0 = same ∙ is ∙ ap (λ xs. xs ++ replicate (n - s) 0) kept in
    let all : length shown ≡ n = ap length given ∙ omega (arith, length-append old (replicate (n - s) 0), length-replicate {A = ℕ} (n - s) 0, long, le) in
    let front : take s shown ≡ old = ap (take s) given ∙ take_at old (replicate (n - s) 0) s long in
    let none : drop (length shown - s) (drop s shown) ≡ [] = drop_of_length-le (drop s shown) (omega (arith, length-drop s shown)) in
    let whole : put_mid s (length shown - s) shown part ≡ old ++ part =
    ap (λ xs. xs ++ (part ++ drop (length shown - s) (drop s shown))) front ∙ ap (λ xs. old ++ (part ++ xs)) none ∙ ap (λ xs. old ++ xs) (append-nil part) in
    let whole_long : length (old ++ part) ≡ n = omega (arith, length-append old part, long, part_long, le) in
    ap (λ xs. take n (xs ++ drop (length xs) grown)) whole ∙ take_at (old ++ part) (drop (length (old ++ part)) grown) n whole_long
