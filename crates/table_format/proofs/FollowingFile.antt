-- What a reader gives while a segment and a file are read.
use Rattle.std.proofs.Common.{◌≡◌, ℕ, zero, suc, ◌+◌, ◌-◌, ◌<◌, ◌≤◌, Bool, true, false, nat_lt, List, [], ◌∷◌, ◌++◌, map, length, drop, get_or, Some, None, Result, Ok, Err, refl, sym, ap, subst, ◌∙◌, append_assoc, arith}
use Rattle.std.specs.Prelude.{if◌then◌else◌, slice_index}
use Rattle.std.proofs.lemmas.Bool.{lt-ltb, le-ltb}
use Rattle.std.proofs.lemmas.List.{append-nil, length-append, length-drop, length-map, drop_more}
use Rattle.readings.specs.Readings.{Rest, rest_at, Reading, after, gives, seen, both, unless, chain, listed, number, leftover}
use Rattle.readings.specs.Exact.{IsBytes, Takes, listed_text}
use Rattle.readings.proofs.Exacts.{after_ok, ok_is}
use Rattle.vm_trace.specs.declared.count.CountEntry.{CountEntry}
use Rattle.vm_trace.specs.declared.count.CountList.{CountList}
use Rattle.vm_trace.specs.declared.count.CountList.TheVariants.{Program, Xor, Range, ShaConst}
use Rattle.vm_trace.specs.Canonical.{Shape, height_of, IsCanonical}
use Rattle.vm_trace.specs.File.{Segment, File}
use Rattle.vm_trace.specs.Limits.{limits_of}
use Rattle.table_format.specs.declared.item.Item.TheVariants as item
use Rattle.table_format.specs.declared.stage.Stage.{Stage}
use Rattle.table_format.specs.declared.stage.Stage.TheVariants as stage
use Rattle.table_format.specs.declared.reason.Reason.{Reason}
use Rattle.table_format.specs.declared.reason.Reason.TheVariants as reason
use Rattle.table_format.specs.Order
use Rattle.table_format.specs.Order.{Tests, no_tests, Stand, next_stand, first_stand, PageAt, first_page, next_page, next_place, next_least, code, segment_of, without_siblings, Bounds, Counts, Inner}
use Rattle.table_format.specs.Texts.{flag_text, segment_text, claim_text, body_text, head_text}
use Rattle.table_format.specs.Items.{segment_item, claim_item}
use Rattle.table_format.specs.Reader.{Form, Spot, Step, at_stage, item_by, item_at, first_row, rows_from, behind_row, behind_heights, behind_mark, siblings_left, list_rows, with_height, entry_step, entries_step, page_step, siblings_step, behind_number}
use Rattle.table_format.specs.Given.{Given, alone, numbered, height_given, row_given, tables_given, entries_given, pages_given, siblings_given, segment_given, segments_given, file_given, GivesFrom, GivesUpTo, new_spot, AreItems, ItemsAreTheFile}
use Rattle.table_format.proofs.ExactItems.{exact_flag}
use Rattle.table_format.proofs.ExactFile.{exact_segment, exact_head, exact_body, IsBody, all_pass, small}
use Rattle.table_format.proofs.Following.{Pending, Follows, one_follows, silent_follows, none_follows, items_so, then_so, next_so, reading_so, unless_follows, seen_follows, both_follows, chain_more, chain_none, chain_follows, chained_length, behind, unchained, untested}

same_pred : (m n : ℕ) → suc m ≡ suc n → m ≡ n
same_pred m n e = omega (arith, e)

-- the first of what is left of a list, and the others
first_left : (xs : List ℕ) (i y : ℕ) (ys : List ℕ) → drop i xs ≡ y ∷ ys → (get_or xs i 0 ≡ y) × (drop (i + 1) xs ≡ ys)
first_left xs i y ys e =
    let long : length (drop i xs) ≡ length (y ∷ ys) = ap length e in
    let same : get_or xs i 0 ∷ drop (i + 1) xs ≡ y ∷ ys = sym (drop_more xs i 0 (omega (arith, length-drop i xs, long))) ∙ e in
    (cc, cc)

module _ (form : Form) where
  abbrev widths : List ℕ
  widths = form.shape.widths

  -- within a segment, behind these heights
  abbrev near : ℕ → List ℕ → Spot → Spot
  near k hs x = record { stage = x.stage; segments = k; heights = hs; row = x.row }

  abbrev within : ℕ → List ℕ → Stage → Pending
  within k hs st x = item_by form (near k hs x) st

  -- between segments
  abbrev between : ℕ → Stage → Pending
  between k st x = item_by form (near k x.heights x) st

  -- ---- heights

  bounds_follow : (k : ℕ) (s : Rest) → Follows form (between k stage.Segment) Order.bounds (λ b. alone (segment_item b) ∷ []) (λ b. within (k + 1) [] (behind_heights (length widths) [])) s
  bounds_follow k s =
      one_follows form (λ x b. (segment_item b, record { stage = behind_heights (length widths) []; segments = k + 1; heights = []; row = x.row })) (λ b. alone (segment_item b)) s
      (λ x. refl) (λ x b. refl) (λ x b t. (record { stage = behind_heights (length widths) []; segments = k + 1; heights = []; row = x.row }, refl))

  height_next : (at : Stand) (k : ℕ) (hs : List ℕ) (table : ℕ) (x : Spot) (s : Rest) → k ≡ at.number + 1 → table ≡ length hs → length hs < length widths
      → within k hs (behind_heights (length widths) hs) x s ≡ seen (λ c. (item.Height table (height_of c), with_height form (near k hs x) (height_of c))) (code (limits_of form.version) at table) s
  height_next at k hs table x s is place lt =
      let count : k - 1 ≡ at.number = omega (arith, is) in
      rw (lt-ltb (length hs) (length widths) lt, place, count) refl

  codes_follow : (at : Stand) (k : ℕ) → k ≡ at.number + 1 → (m : ℕ) (hs : List ℕ) (table : ℕ) (s : Rest) → table ≡ length hs → length hs + m ≡ length widths
      → Follows form (within k hs (behind_heights (length widths) hs)) (chain (code (limits_of form.version) at) next_place m table) (numbered height_given table)
      (λ cs. within k (hs ++ map height_of cs) (behind_heights (length widths) (hs ++ map height_of cs))) s
  codes_follow at k is zero hs table s place all =
      chain_none form (code (limits_of form.version) at) next_place table s (numbered height_given table) refl
      (λ y. (y, ap (λ (gs : List ℕ). within k gs (behind_heights (length widths) gs) y s) (sym (append-nil hs))))
  codes_follow at k is (suc m) hs table s place all =
      chain_more form (code (limits_of form.version) at) next_place m table s (λ c. height_given table c ∷ []) (λ c. numbered height_given (table + 1)) (numbered height_given table) (λ c cs. refl)
      (one_follows form (λ x c. (item.Height table (height_of c), with_height form (near k hs x) (height_of c))) (height_given table) s
      (λ x. height_next at k hs table x s is place (omega (arith, all))) (λ x c. refl)
      (λ x c t. (with_height form (near k hs x) (height_of c), refl)))
      (λ c t e.
      let one : length (hs ++ height_of c ∷ []) ≡ length hs + 1 = length-append hs (height_of c ∷ []) in
      then_so form (λ cs. within k (hs ++ map height_of (c ∷ cs)) (behind_heights (length widths) (hs ++ map height_of (c ∷ cs))))
      (λ cs y u f. (y, ap (λ (gs : List ℕ). within k gs (behind_heights (length widths) gs) y u) (append_assoc hs (height_of c ∷ []) (map height_of cs))))
      (codes_follow at k is m (hs ++ height_of c ∷ []) (table + 1) t (omega (arith, place, one)) (omega (arith, all, one))))

  -- ---- rows

  -- behind the rows of a table of which so many are left
  abbrev rows_left : List ℕ → ℕ → ℕ → Stage
  rows_left hs table zero = rows_from hs (table + 1)
  rows_left hs table (suc n) = stage.Row table (suc n)

  one_less : (hs : List ℕ) (table n : ℕ) → behind_row hs table (suc n) ≡ rows_left hs table n
  one_less hs table zero = refl
  one_less hs table (suc n) =
      let less : suc (suc n) - 1 ≡ suc n = omega arith in
      rw (lt-ltb 1 (suc (suc n)) (omega arith), less) refl

  module _ (most : ℕ) (at : Stand) (k : ℕ) where
    row_next : (hs : List ℕ) (table width n : ℕ) (x : Spot) (s : Rest) → slice_index widths table ≡ width
        → within k hs (stage.Row table (suc n)) x s
        ≡ seen (λ r. (item.Row table (slice_index hs table - suc n), record { stage = behind_row hs table (suc n); segments = k; heights = hs; row = r })) (Order.elements width) s
    row_next hs table width n x s wide = rw wide refl

    rows_follow : (hs : List ℕ) (table width height : ℕ) → slice_index widths table ≡ width → slice_index hs table ≡ height → (n place : ℕ) (s : Rest) → place + n ≡ height
        → Follows form (within k hs (rows_left hs table n)) (chain (Order.row (no_tests most) at table width) next_place n place) (numbered (row_given table) place) (λ rs. within k hs (rows_from hs (table + 1))) s
    rows_follow hs table width height wide high zero place s all =
        chain_none form (Order.row (no_tests most) at table width) next_place place s (numbered (row_given table) place) refl (λ y. (y, refl))
    rows_follow hs table width height wide high (suc n) place s all =
        let count : slice_index hs table - suc n ≡ place = omega (arith, high, all) in
        chain_more form (Order.row (no_tests most) at table width) next_place n place s (λ r. row_given table place r ∷ []) (λ r. numbered (row_given table) (place + 1)) (numbered (row_given table) place) (λ r rs. refl)
        (unless_follows form (one_follows form
        (λ x r. (item.Row table (slice_index hs table - suc n), record { stage = behind_row hs table (suc n); segments = k; heights = hs; row = r })) (row_given table place) s
        (λ x. row_next hs table width n x s wide) (λ x r. ap (λ (m : ℕ). row_given table m r) count)
        (λ x r t. (
          record { stage = behind_row hs table (suc n); segments = k; heights = hs; row = r },
          ap (λ (st : Stage). item_by form (record { stage = behind_row hs table (suc n); segments = k; heights = hs; row = r }) st t) (one_less hs table n),
        ))))
        (λ r t e. rows_follow hs table width height wide high n (place + 1) t (omega (arith, all)))

    -- the first row of what is left
    first_is : (hs : List ℕ) (table h : ℕ) (rest : List ℕ) → drop (table + 1) hs ≡ rest → first_row table (h ∷ rest) ≡ rows_left hs table h
    first_is hs table zero rest e = ap (first_row (table + 1)) (sym e)
    first_is hs table (suc n) rest e = rw (lt-ltb 0 (suc n) (omega arith)) refl

    tables_follow : (hs ws cs : List ℕ) (table : ℕ) (s : Rest) → drop table widths ≡ ws → drop table hs ≡ map height_of cs → length cs ≡ length ws
        → Follows form (within k hs (rows_from hs table)) (Order.tables (no_tests most) at table ws cs) (tables_given table) (λ ts. within k hs stage.Counts) s
    unfolding Order.tables
    tables_follow hs [] [] table s wide high same =
        items_so form (tables_given table) (λ v t e. ap (λ (z : List (List (List ℕ)) × Rest). tables_given table z.0) (ok_is ([], s) (v, t) e))
        (none_follows form [] s refl (λ x. (x, ap (λ (gs : List ℕ). item_by form (near k hs x) (first_row table gs) s) high)))
    tables_follow hs [] (c ∷ cs) table s wide high same = absurd (omega (arith, same))
    tables_follow hs (w ∷ ws) [] table s wide high same = absurd (omega (arith, same))
    tables_follow hs (w ∷ ws) (c ∷ cs) table s wide high same =
        let width = first_left widths table w ws wide in
        let height = first_left hs table (height_of c) (map height_of cs) high in
        seen_follows form (λ p. p.0 ∷ p.1) (both_follows form {k = λ z. within k hs stage.Counts}
        (next_so form (within k hs (rows_from hs table)) (λ x. (x, ap (λ (st : Stage). item_by form (near k hs x) st s) (ap (first_row table) high ∙ first_is hs table (height_of c) (map height_of cs) height.1)))
        (rows_follow hs table w (height_of c) width.0 height.0 (height_of c) 0 s (omega arith)))
        (λ rs t e. tables_follow hs ws cs (table + 1) t width.1 height.1 (omega (arith, same))))

  -- ---- entries, pages, siblings

  less_one : (n : ℕ) → suc n - 1 ≡ n
  less_one n = omega arith

  module _ (k : ℕ) (hs : List ℕ) where
    -- a list whose entries are told by its number, and what comes behind it
    module _ (list : CountList) (step : Spot → ℕ → ℕ → Reading Reason Step) (onward : Pending)
        (one : (x : Spot) (left least : ℕ) (s : Rest) → step x left least s ≡ (if nat_lt 0 left then entry_step form x list left least else onward x) s)
        (same : (x : Spot) (left least : ℕ) (s : Rest) → entries_step form x list left least s ≡ step x left least s) where
      abbrev entry_to : Spot → ℕ → ℕ → CountEntry → Step
      entry_to x left least e = (item.Count list e, at_stage (near k hs x) (stage.Entry list (left - 1) (e.place + 1)))

      entry_follows : (n least : ℕ) (s : Rest) → Follows form (λ x. step (near k hs x) (suc n) least) (Order.entry (list_rows form.shape.program_len list) least) (λ e. alone (item.Count list e) ∷ [])
          (λ e x. step (near k hs x) n (next_least least e)) s
      entry_follows n least s = one_follows form (λ x e. entry_to x (suc n) least e) (λ e. alone (item.Count list e)) s
          (λ x. one (near k hs x) (suc n) least s ∙ rw (lt-ltb 0 (suc n) (omega arith)) refl) (λ x e. refl)
          (λ x e t. ((entry_to x (suc n) least e).1, same (entry_to x (suc n) least e).1 (suc n - 1) (e.place + 1) t ∙ ap (λ (m : ℕ). step (entry_to x (suc n) least e).1 m (e.place + 1) t) (less_one n)))

      entries_follow : (s : Rest) → Follows form (λ x. behind_number (λ n. step (near k hs x) n 0)) (Order.entries (list_rows form.shape.program_len list)) (entries_given list) (λ es x. onward (near k hs x)) s
      entries_follow s = seen_follows form (λ p. p.1) (both_follows form {k = λ z x. onward (near k hs x)} (silent_follows form (λ n x. step (near k hs x) n 0) s)
          (λ n t e. then_so form (λ es x. onward (near k hs x)) (λ es y u f. (y, one (near k hs y) 0 _ u))
          (chain_follows form (λ m least x. step (near k hs x) m least) (Order.entry (list_rows form.shape.program_len list)) next_least (λ least e. alone (item.Count list e)) (λ least. entries_given list) (λ least. refl) (λ least e es. refl)
          entry_follows n 0 t)))

    counts_follow : (s : Rest) → Follows form (within k hs stage.Counts) (Order.counts form.shape.program_len)
        (λ c. entries_given Program c.0 ++ (entries_given Xor c.1.0 ++ (entries_given Range c.1.1.0 ++ entries_given ShaConst c.1.1.1))) (λ c x. behind_number (page_step (near k hs x))) s
    counts_follow s =
        both_follows form {k = λ c x. behind_number (page_step (near k hs x))}
        (entries_follow Program (λ x left least. entries_step form x Program left least) (λ x. behind_number (λ n. entries_step form x Xor n 0)) (λ x left least u. refl) (λ x left least u. refl) s)
        (λ a t e. both_follows form {k = λ c x. behind_number (page_step (near k hs x))}
        (entries_follow Xor (λ x left least. entries_step form x Xor left least) (λ x. behind_number (λ n. entries_step form x Range n 0)) (λ x left least u. refl) (λ x left least u. refl) t)
        (λ b u f. both_follows form {k = λ c x. behind_number (page_step (near k hs x))}
        (entries_follow Range (λ x left least. entries_step form x Range left least) (λ x. behind_number (λ n. entries_step form x ShaConst n 0)) (λ x left least u. refl) (λ x left least u. refl) u)
        (λ c v g. entries_follow ShaConst (λ x left least. entries_step form x ShaConst left least) (λ x. behind_number (page_step x)) (λ x left least u. refl) (λ x left least u. refl) v)))

    module _ (most : ℕ) (at : Stand) where
      page_follows : (n : ℕ) (place : PageAt) (s : Rest) → Follows form (λ x. page_step (near k hs x) (suc n)) (Order.page (no_tests most) at place) (λ p. alone (item.Page p) ∷ []) (λ p x. page_step (near k hs x) n) s
      page_follows n place s = unless_follows form (one_follows form (λ x p. (item.Page p, at_stage (near k hs x) (stage.Page (suc n - 1)))) (λ p. alone (item.Page p)) s
          (λ x. rw (lt-ltb 0 (suc n) (omega arith)) refl) (λ x p. refl)
          (λ x p t. (at_stage (near k hs x) (stage.Page (suc n - 1)), ap (λ (m : ℕ). page_step (at_stage (near k hs x) (stage.Page (suc n - 1))) m t) (less_one n))))

      pages_follow : (s : Rest) → Follows form (λ x. behind_number (page_step (near k hs x))) (Order.pages (no_tests most) at) pages_given (λ ps x. siblings_step (near k hs x)) s
      pages_follow s = seen_follows form (λ p. p.1) (both_follows form {k = λ z x. siblings_step (near k hs x)} (silent_follows form (λ n x. page_step (near k hs x) n) s)
          (λ n t e. then_so form (λ ps x. siblings_step (near k hs x)) (λ ps y u f. (y, refl))
          (chain_follows form (λ m place x. page_step (near k hs x) m) (Order.page (no_tests most) at) next_page (λ place p. alone (item.Page p)) (λ place. pages_given) (λ place. refl) (λ place p ps. refl) page_follows n first_page t)))

      sibling_follows : (n : ℕ) (place : ℕ) (s : Rest) → Follows form (within k hs (siblings_left (suc n))) Order.digest (λ d. alone (item.Sibling d) ∷ []) (λ d. within k hs (siblings_left n)) s
      sibling_follows n place s = one_follows form (λ x d. (item.Sibling d, at_stage (near k hs x) (siblings_left (suc n - 1)))) (λ d. alone (item.Sibling d)) s
          (λ x. rw (lt-ltb 0 (suc n) (omega arith)) refl) (λ x d. refl)
          (λ x d t. (at_stage (near k hs x) (siblings_left (suc n - 1)), ap (λ (m : ℕ). item_by form (at_stage (near k hs x) (siblings_left (suc n - 1))) (siblings_left m) t) (less_one n)))

      abbrev told_siblings : Reading Reason (ℕ × List (List ℕ))
      told_siblings = both (unless (λ n. None) (number reason.Cut)) (λ n. chain (λ i. Order.digest) next_place n 0)

      counted : (z : ℕ × List (List ℕ)) (u t : Rest) → told_siblings u ≡ Ok (z, t) → alone (item.SiblingCount z.0) ∷ map (λ d. alone (item.Sibling d)) z.1 ≡ siblings_given z.1
      counted z u t e =
          let a = after_ok (unless (λ n. None) (number reason.Cut) u) (λ n v. after (chain (λ i. Order.digest) next_place n 0 v) (λ b l. Ok ((n, b), l))) (z, t) e in
          let b = after_ok (chain (λ i. Order.digest) next_place a.0.0 0 a.0.1) (λ c l. Ok ((a.0.0, c), l)) (z, t) a.2 in
          let size = chained_length (λ i. Order.digest) next_place a.0.0 0 a.0.1 b.0.1 b.0.0 b.1 in
          subst (λ (w : (ℕ × List (List ℕ)) × Rest). alone (item.SiblingCount w.0.0) ∷ map (λ d. alone (item.Sibling d)) w.0.1 ≡ siblings_given w.0.1) (ok_is ((a.0.0, b.0.0), b.0.1) (z, t) b.2)
          (ap (λ (n : ℕ). alone (item.SiblingCount n) ∷ map (λ d. alone (item.Sibling d)) b.0.0) (sym size))

      siblings_follow : (g : Segment) (s : Rest) → Follows form (λ x. siblings_step (near k hs x)) (Order.siblings (no_tests most) at g) siblings_given (λ ds. between k stage.Marker) s
      siblings_follow g s = seen_follows form (λ p. p.1)
          (items_so form (λ z. siblings_given z.1) (λ z t e. counted z s t e)
          (both_follows form {k = λ z. between k stage.Marker}
          (unless_follows form (one_follows form {q = λ n. within k hs (siblings_left n)} (λ x n. (item.SiblingCount n, at_stage (near k hs x) (siblings_left n))) (λ n. alone (item.SiblingCount n)) s (λ x. refl) (λ x n. refl)
          (λ x n t. (at_stage (near k hs x) (siblings_left n), refl))))
          (λ n t e. then_so form (λ ds. between k stage.Marker) (λ ds y u f. (near k hs y, refl))
          (chain_follows form (λ m place. within k hs (siblings_left m)) (λ i. Order.digest) next_place (λ place d. alone (item.Sibling d)) (λ place ds. map (λ d. alone (item.Sibling d)) ds) (λ place. refl) (λ place d ds. refl) sibling_follows n 0 t))))

  -- ---- a segment

  module _ (most : ℕ) (at : Stand) where
    codes_length : (n : ℕ) (s t : Rest) (cs : List ℕ) → Order.codes (limits_of form.version) (no_tests most) at n s ≡ Ok (cs, t) → length cs ≡ n
    codes_length n s t cs e =
        chained_length (code (limits_of form.version) at) next_place n 0 s t cs (sym (untested (chain (code (limits_of form.version) at) next_place n 0 s)) ∙ e)

    -- behind all heights
    heights_end : (cs : List ℕ) → length cs ≡ length widths → behind_heights (length widths) (map height_of cs) ≡ rows_from (map height_of cs) 0
    heights_end cs same = rw (le-ltb (length (map height_of cs)) (length widths) (omega (arith, same, length-map cs height_of))) refl

    segment_follow : (s : Rest) → Follows form (between at.number stage.Segment) (Order.segment (limits_of form.version) form.shape (no_tests most) at) segment_given (λ g. between (at.number + 1) stage.Marker) s
    segment_follow s =
        let k = at.number + 1 in
        let end = between k stage.Marker in
        unless_follows form (seen_follows form segment_of (both_follows form {k = λ z. end} (bounds_follow at.number s)
        (λ h t e. both_follows form {k = λ z. end} (unless_follows form (codes_follow at k refl (length widths) [] 0 t refl (omega arith)))
        (λ cs u f.
        let same = codes_length (length widths) t u cs f in
        both_follows form {k = λ z. end}
        (next_so form (within k (map height_of cs) (behind_heights (length widths) (map height_of cs))) (λ x. (x, ap (λ (st : Stage). item_by form (near k (map height_of cs) x) st u) (heights_end cs same)))
        (tables_follow most at k (map height_of cs) widths cs 0 u refl refl same))
        (λ ts v g. both_follows form {k = λ z. end} (counts_follow k (map height_of cs) v)
        (λ ls w i. both_follows form {k = λ z. end} (pages_follow k (map height_of cs) most at w)
        (λ ps l j. siblings_follow k (map height_of cs) most at (without_siblings h cs ts ls ps) l)))))))

  -- ---- segments up to the last mark

  mark_follows : (k : ℕ) (s : Rest) → Follows form (between k stage.Marker) Order.flag (λ more. alone (item.Marker more) ∷ []) (λ more. between k (behind_mark more)) s
  mark_follows k s = one_follows form (λ x more. (item.Marker more, at_stage (near k x.heights x) (behind_mark more))) (λ more. alone (item.Marker more)) s (λ x. refl) (λ x more. refl)
      (λ x more t. (at_stage (near k x.heights x) (behind_mark more), refl))

  module _ (most : ℕ) where
    abbrev segments : ℕ → Stand → Reading Reason (List Segment)
    segments n at = listed reason.TooManySegments (λ at. None) (λ at. None) Order.flag (Order.segment (limits_of form.version) form.shape (no_tests most)) next_stand n at

    -- behind a mark
    abbrev behind_more : (ℕ → Stand → Reading Reason (List Segment)) → ℕ → Stand → Bool → Reading Reason (List Segment)
    behind_more all n at false = gives []
    behind_more all zero at true = λ s. Err reason.TooManySegments
    behind_more all (suc n) at true = seen (λ z. z.0 ∷ z.1) (both (Order.segment (limits_of form.version) form.shape (no_tests most) at) (λ g. all n (next_stand at g)))

    abbrev marked : ℕ → Stand → Reading Reason (List Segment)
    marked n at = seen (λ z. z.1) (both Order.flag (behind_more segments n at))

    marked_zero : (at : Stand) (r : Result (Bool × Rest) Reason)
        → after r (λ more t. if more then Err reason.TooManySegments else Ok ([], t)) ≡ after {A = Bool × List Segment} (after r (λ more t. after (behind_more segments 0 at more t) (λ vs u. Ok ((more, vs), u)))) (λ z u. Ok (z.1, u))
    marked_zero at (Err e) = refl
    marked_zero at (Ok (true, t)) = refl
    marked_zero at (Ok (false, t)) = refl

    marked_more : (n : ℕ) (at : Stand) (r : Result (Bool × Rest) Reason)
        → after r (λ more t. if more then after (Order.segment (limits_of form.version) form.shape (no_tests most) at t) (λ g k. after (segments n (next_stand at g) k) (λ gs l. Ok (g ∷ gs, l))) else Ok ([], t))
        ≡ after {A = Bool × List Segment} (after r (λ more t. after (behind_more segments (suc n) at more t) (λ vs u. Ok ((more, vs), u)))) (λ z u. Ok (z.1, u))
    marked_more n at (Err e) = refl
    marked_more n at (Ok (true, t)) = unchained (Order.segment (limits_of form.version) form.shape (no_tests most) at t) (λ g. segments n (next_stand at g)) ∙ sym (behind true (behind_more segments (suc n) at true t))
    marked_more n at (Ok (false, t)) = refl

    is_marked : (n : ℕ) (at : Stand) (s : Rest) → segments n at s ≡ marked n at s
    unfolding listed
    is_marked zero at s = marked_zero at (Order.flag s)
    is_marked (suc n) at s = marked_more n at (Order.flag s)

    -- the items behind a mark
    abbrev rest_given : List Segment → List Given
    rest_given [] = []
    rest_given (g ∷ gs) = segment_given g ++ segments_given gs

    abbrev to_claim : List Segment → Pending
    to_claim gs x = item_by form x stage.Claim

    rest_is : (n : ℕ) (at : Stand) (more : Bool) (u t : Rest) (gs : List Segment) → behind_more segments n at more u ≡ Ok (gs, t) → alone (item.Marker more) ∷ rest_given gs ≡ segments_given gs
    rest_is n at false u t gs e = subst (λ (z : List Segment × Rest). alone (item.Marker false) ∷ rest_given z.0 ≡ segments_given z.0) (ok_is ([], u) (gs, t) e) refl
    rest_is zero at true u t gs e = absurd cc
    rest_is (suc n) at true u t gs e =
        let a = after_ok (both (Order.segment (limits_of form.version) form.shape (no_tests most) at) (λ g. segments n (next_stand at g)) u) (λ z l. Ok (z.0 ∷ z.1, l)) (gs, t) e in
        subst (λ (z : List Segment × Rest). alone (item.Marker true) ∷ rest_given z.0 ≡ segments_given z.0) (ok_is (a.0.0.0 ∷ a.0.0.1, a.0.1) (gs, t) a.2) refl

    mark_is : (n : ℕ) (at : Stand) (s t : Rest) (z : Bool × List Segment) → both Order.flag (behind_more segments n at) s ≡ Ok (z, t) → alone (item.Marker z.0) ∷ rest_given z.1 ≡ segments_given z.1
    mark_is n at s t z e =
        let a = after_ok (Order.flag s) (λ more v. after (behind_more segments n at more v) (λ b l. Ok ((more, b), l))) (z, t) e in
        let b = after_ok (behind_more segments n at a.0.0 a.0.1) (λ c l. Ok ((a.0.0, c), l)) (z, t) a.2 in
        subst (λ (w : (Bool × List Segment) × Rest). alone (item.Marker w.0.0) ∷ rest_given w.0.1 ≡ segments_given w.0.1) (ok_is ((a.0.0, b.0.0), b.0.1) (z, t) b.2) (rest_is n at a.0.0 a.0.1 b.0.1 b.0.0 b.1)

    shorter : {s t : Rest} {text : List ℕ} → Takes s text t → length s.bytes ≡ length text + length t.bytes
    shorter {t = t} {text} took = ap length took.parts ∙ length-append text t.bytes

    abbrev Segments : ℕ → Type 0
    Segments n = (at : Stand) (s : Rest) → IsBytes s.bytes → length s.bytes ≤ n → Follows form (between at.number stage.Marker) (segments n at) segments_given to_claim s

    -- behind the mark, of one byte
    behind_follows : (n : ℕ) (at : Stand) (more : Bool) (s t : Rest) → ((m : ℕ) → suc m ≡ n → Segments m) → length s.bytes ≤ n → Takes s (flag_text more) t
        → Follows form (between at.number (behind_mark more)) (behind_more segments n at more) rest_given to_claim t
    behind_follows n at false s t all few took =
        items_so form rest_given (λ v u e. ap (λ (z : List Segment × Rest). rest_given z.0) (ok_is ([], t) (v, u) e)) (none_follows form [] t refl (λ x. (near at.number x.heights x, refl)))
    behind_follows zero at true s t all few took = absurd (omega (arith, few, shorter took))
    behind_follows (suc n) at true s t all few took = seen_follows form (λ z. z.0 ∷ z.1) (both_follows form {k = λ z. to_claim (z.0 ∷ z.1)} (segment_follow most at t)
        (λ g u e.
        let q = (exact_segment (limits_of form.version) form.shape (no_tests most) (small form.version) at).found t u g took.fits e in
        all n refl (next_stand at g) u q.1.fits (omega (arith, few, shorter took, shorter q.1))))

    marked_follows : (n : ℕ) → ((m : ℕ) → suc m ≡ n → Segments m) → Segments n
    marked_follows n all at s fits few = reading_so form (segments n at) (is_marked n at s) (seen_follows form (λ z. z.1) (items_so form (λ z. segments_given z.1) (λ z t e. mark_is n at s t z e)
        (both_follows form {k = λ z. to_claim z.1} (mark_follows at.number s) (λ more t e. behind_follows n at more s t all few (exact_flag.found s t more fits e).1))))

    segments_follow : (n : ℕ) → Segments n
    segments_follow zero = marked_follows 0 (λ m e. absurd (omega (arith, e)))
    segments_follow (suc n) = marked_follows (suc n) (λ m e. subst Segments (sym (same_pred m n e)) (segments_follow n))

    -- ---- a file

    claim_follows : (s : Rest) → Follows form (λ x. item_by form x stage.Claim) Order.claim (λ c. alone (claim_item c) ∷ []) (λ c x. item_by form x stage.End) s
    claim_follows s = one_follows form (λ x c. (claim_item c, at_stage x stage.End)) (λ c. alone (claim_item c)) s (λ x. refl) (λ x c. refl) (λ x c t. (at_stage x stage.End, refl))

    abbrev to_end : File → Pending
    to_end f x = item_by form x stage.End

    body_follows : (s : Rest) → IsBytes s.bytes → length s.bytes ≤ most → Follows form (between 0 stage.Marker) (Order.body form.version form.shape (no_tests most)) file_given to_end s
    body_follows s fits few = unless_follows form (seen_follows form (Order.file_of form.version) (both_follows form {k = λ z. to_end (Order.file_of form.version z)} (segments_follow most first_stand s fits few) (λ gs t e. claim_follows t)))

  ends_by : (y : Spot) (at : ℕ) (bytes : List ℕ) → GivesFrom form (item_by form y stage.End (rest_at at bytes)) [] (leftover (reason.Trailing at) bytes)
  ends_by y at [] = refl
  ends_by y at (b ∷ bytes) = rw (lt-ltb 0 (suc (length bytes)) (omega arith)) refl

  items_of : {p : Pending} {r : Reading Reason File} {s : Rest} (x : Spot) → p x s ≡ item_at form x s → Follows form p r file_given (λ f y. item_by form y stage.End) s → AreItems form x s r
  items_of {s = s} x is f = record {
    file = λ v t e.
        let g = f.goes x v t e in
        subst (λ (gs : List Given). GivesUpTo form x s gs (leftover (reason.Trailing t.at) t.bytes)) (append-nil (file_given v))
        (subst (λ (a : Result (Step × Rest) Reason). GivesFrom form a (file_given v ++ []) (leftover (reason.Trailing t.at) t.bytes)) is (g.1 [] (leftover (reason.Trailing t.at) t.bytes) (ends_by g.0 t.at t.bytes)));
    reason = λ e h. let g = f.stops x e h in (g.0, subst (λ (a : Result (Step × Rest) Reason). GivesFrom form a g.0 (Some e)) is g.1);
  }

-- ---- the law

body_given : (version : ℕ) (shape : Shape) (at : ℕ) (bytes : List ℕ) → IsBytes bytes
    → AreItems (record { version = version; shape = shape }) (new_spot stage.Marker) (rest_at at bytes) (Order.body version shape (no_tests (length bytes)))
body_given version shape at bytes fits =
    let form : Form = record { version = version; shape = shape } in
    items_of form (new_spot stage.Marker) refl (body_follows form (length bytes) (rest_at at bytes) fits (omega arith))

whole_follows : (shape : Shape) (bytes : List ℕ) → IsBytes bytes → (s : Rest) → s ≡ rest_at 0 bytes
    → Follows (record { version = 1; shape = shape }) (between (record { version = 1; shape = shape }) 0 stage.Head) (Order.file (λ v. shape) (λ v. no_tests (length bytes)) 1) file_given (λ f y. item_by (record { version = 1; shape = shape }) y stage.End) s
whole_follows shape bytes fits s is =
    let form : Form = record { version = 1; shape = shape } in
    let same : s.bytes ≡ bytes = ap (λ (t : Rest). t.bytes) is in
    seen_follows form (λ p. p.1) (both_follows form {k = λ z x. item_by form x stage.End} (silent_follows form (λ version. between form 0 stage.Marker) s)
    (λ version t e.
    let q = (exact_head 1).found s t version (subst IsBytes (sym same) fits) e in
    let one : version ≡ 1 = omega (arith, q.0.first, q.0.last) in
    let size = ap length q.1.parts ∙ length-append (head_text version) t.bytes in
    subst (λ (v : ℕ). Follows form (between form 0 stage.Marker) (Order.body v shape (no_tests (length bytes))) file_given (λ f y. item_by form y stage.End) t) (sym one)
    (body_follows form (length bytes) t q.1.fits (omega (arith, size, ap length same)))))

-- a segment's mark is a byte
as_many : (ss : List Segment) → length ss ≤ length (listed_text flag_text segment_text ss)
as_many [] = omega arith
as_many (s ∷ ss) = omega (arith, as_many ss, length-append (segment_text s) (listed_text flag_text segment_text ss))

spelled_given : (shape : Shape) (f : File) (at : ℕ) → IsCanonical shape f → IsBytes (body_text f) → GivesUpTo (record { version = f.version; shape = shape }) (new_spot stage.Marker) (rest_at at (body_text f)) (file_given f) None
spelled_given shape f at canonical fits =
    let most = length (body_text f) in
    let few : length f.segments ≤ most = omega (arith, as_many f.segments, length-append (listed_text flag_text segment_text f.segments) (claim_text f)) in
    let good : (f.version ≡ f.version) × IsBody f.version shape (no_tests most) f = (refl, record { segments = canonical.segments; claim = canonical.claim; passes = record { few = few; segments = all_pass most first_stand f.segments; claim = refl } }) in
    let again = (exact_body f.version shape (no_tests most)).again at f [] good in
    let read = ap (λ (k : List ℕ). Order.body f.version shape (no_tests most) (rest_at at k)) (sym (append-nil (body_text f))) ∙ again in
    (body_given f.version shape at (body_text f) fits).file f (rest_at (at + most) []) read

pub items_given : ItemsAreTheFile
items_given shape = record {
  whole = λ bytes fits. items_of (record { version = 1; shape = shape }) (new_spot stage.Head) refl (whole_follows shape bytes fits (rest_at 0 bytes) refl);
  body = λ version. body_given version shape;
  spelled = spelled_given shape;
}
