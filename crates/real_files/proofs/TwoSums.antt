-- The file of two sums is accepted.
use Rattle.std.proofs.Common.{◌≡◌, ◌≢◌, ℕ, zero, suc, ◌+◌, ◌*◌, ◌/◌, ◌^◌, ◌<◌, ◌≤◌, Bool, true, false, nat_eq, List, [], ◌∷◌, length, replicate, get_or, refl, sym, ap, ◌∙◌, subst, arith, Contains, lit<, lit≤, inl}
use Rattle.std.specs.Prelude.{All, Some, slice_get, nat_lt, nat_le}
use Rattle.std.specs.List.{AllByRecursion}
use Rattle.std.specs.List.Sorted.{IsStrictlyIncreasing}
use Rattle.std.proofs.lemmas.List.Elements.{All-from_recursion, recursion_from_All}
use Rattle.std.proofs.lemmas.Bool.{leb-true, ltb-true}
use Rattle.std.proofs.lemmas.Option.{slice_get_within}
use Rattle.elf_image.specs.Image.{HasImage}
use Rattle.elf_image.specs.Loaded.{Loaded}
use Rattle.vm_field.specs.Field.{modulus}
use Rattle.vm_isa.specs.declared.instr.VmInstr.{VmInstr}
use Rattle.vm_isa.specs.Blocks.{Terminates}
use Rattle.vm_isa.specs.Words.{IsBytes}
use Rattle.vm_trace.specs.declared.count.CountEntry.{CountEntry}
use Rattle.vm_trace.specs.declared.page.TheConstants.{REGISTER_LABEL, PUBLIC_LABEL}
use Rattle.vm_trace.specs.declared.page.Touched.{Touched}
use Rattle.vm_trace.specs.Canonical.{IsNumber, IsDigest, IsEntry, IsTable, HasWidth, IsCountList, IsCanonicalPage, IsCanonicalSegment, IsCanonical}
use Rattle.vm_trace.specs.File.{Segment, File}
use Rattle.vm_trace.specs.Limits.{limits_of}
use Rattle.vm_trace.specs.Pages.{IsLeaf, IsWhole}
use Rattle.vm_transpile.specs.Program.{program_of}
use Rattle.vm_transpile.proofs.Starts.{zero_bytes}
use Rattle.air_core.specs.Sheet.{IsRow}
use Rattle.chip_alu.specs.Alu.{alu_sheet}
use Rattle.page_tree.specs.Tree.{Leaves, root, replaced}
use Rattle.page_tree.specs.Opening.{siblings_of}
use Rattle.page_tree.specs.Parts.{labels_of, labelled_bytes, new_bytes_at, with_pages, AreRoots}
use Rattle.page_tree.specs.Path.{climb, path_of}
use Rattle.page_tree.specs.Start.{start_map}
use Rattle.page_tree.proofs.CompleteLemmas.{siblings_of-digests}
use Rattle.page_tree.proofs.PageLemmas.{own_roots}
use Rattle.page_tree.proofs.PathLemmas.{climb-path_of}
use Rattle.page_tree.proofs.StartLemmas.{start_map-out}
use Rattle.acceptance.specs.Accepts.{Accepts, ClaimHolds, IsPublic, shape_of}
use Rattle.acceptance.specs.Holds.{IsMachinePage, SegmentHolds}
use Rattle.acceptance.proofs.CanonicalTrees.{siblings_canonical, path_canonical}
use Rattle.acceptance.proofs.Example.{root_canonical, few_siblings, path_levels, path_digests_of, few_rows, end_in_range}
use Rattle.real_files.specs.Laws.{TwoSumsAreAccepted}
use Rattle.real_files.specs.TwoSums.{BeginsWithSums, two_tables, first_sum, second_sum, first_row, second_row, nothing_written, five_written, six_written, first_touched, second_touched, leaves_between, leaves_behind, entry, first_segment, second_segment, two_sums_file}
use Rattle.real_files.proofs.Balances.{first_balanced, second_balanced}
use Rattle.real_files.proofs.Rows.{first_holds, second_holds}
use Rattle.real_files.proofs.Tested.{all_below, each_below}

-- ---- pages and leaves

one_label : (page : Touched) → IsStrictlyIncreasing (labels_of (page ∷ []))
unfolding labels_of
one_label page = λ k h. absurd (omega (arith, h))

first_whole : IsWhole first_touched
unfolding each_below
first_whole = record {
  old = record { size = refl; bytes = all_below 256 nothing_written refl };
  new = record { size = refl; bytes = all_below 256 five_written refl };
  times = refl;
}

second_whole : IsWhole second_touched
unfolding each_below
second_whole = record {
  old = record { size = refl; bytes = all_below 256 five_written refl };
  new = record { size = refl; bytes = all_below 256 six_written refl };
  times = refl;
}

-- one page with a leaf's bytes before
opened : (m : Leaves) (page : Touched) → page.old ≡ m page.label → AreRoots (page ∷ []) (siblings_of m (labels_of (page ∷ []))) (root m) (root (with_pages m (page ∷ [])))
opened m page is = own_roots m (page ∷ []) (one_label page) (All-from_recursion (λ (p : Touched). p.old ≡ m p.label) (page ∷ []) (is, tt))

first_old : (image : Loaded) → first_touched.old ≡ start_map image first_touched.label
first_old image = sym (start_map-out image REGISTER_LABEL (λ e. omega (arith, e)))

second_old : (image : Loaded) → second_touched.old ≡ leaves_between image second_touched.label
unfolding with_pages replaced labels_of new_bytes_at labelled_bytes
second_old image = refl

public_leaf : (image : Loaded) → leaves_behind image PUBLIC_LABEL ≡ replicate 64 0
unfolding with_pages replaced labels_of new_bytes_at labelled_bytes
public_leaf image = start_map-out image PUBLIC_LABEL (λ e. omega (arith, e))

-- an entry of a literal place and count
some_entry : (least end place count : ℕ) → nat_le least place ≡ true → nat_lt place end ≡ true → nat_lt 0 count ≡ true → nat_lt place (2 ^ 32) ≡ true → nat_lt count (2 ^ 32) ≡ true → IsEntry end least (entry place count)
some_entry least end place count low high used place_few count_few = record {
  low = leb-true least place low;
  high = ltb-true place end high;
  used = ltb-true 0 count used;
  place = ltb-true place (2 ^ 32) place_few;
  count = ltb-true count (2 ^ 32) count_few;
}

-- ---- the segments hold

module _ (image : Loaded) (place : ℕ) where
  pub first_segment_holds : slice_get (program_of image) place ≡ Some first_sum → SegmentHolds two_tables (program_of image) (first_segment image place)
  unfolding each_below
  first_segment_holds stands = record {
    count = refl;
    are_rows = ((record { wide = refl; below = all_below modulus first_row refl }, tt), (tt, tt));
    hold = ((first_holds, tt), (tt, tt));
    slots = lit< tt;
    balanced = first_balanced (program_of image) image place stands;
    rising = one_label first_touched;
    pages = (record { label = inl refl; whole = first_whole }, tt);
    digests = siblings_of-digests (start_map image) (labels_of (first_touched ∷ []));
    roots = opened (start_map image) first_touched (first_old image);
  }

  pub second_segment_holds : slice_get (program_of image) place ≡ Some second_sum → SegmentHolds two_tables (program_of image) (second_segment image place)
  unfolding each_below
  second_segment_holds stands = record {
    count = refl;
    are_rows = ((record { wide = refl; below = all_below modulus second_row refl }, tt), (tt, tt));
    hold = ((second_holds, tt), (tt, tt));
    slots = lit< tt;
    balanced = second_balanced (program_of image) image place stands;
    rising = one_label second_touched;
    pages = (record { label = inl refl; whole = second_whole }, tt);
    digests = siblings_of-digests (leaves_between image) (labels_of (second_touched ∷ []));
    roots = opened (leaves_between image) second_touched (second_old image);
  }

  -- ---- and they are canonical

  one_entry : (row : VmInstr) → slice_get (program_of image) place ≡ Some row → IsCountList (length (program_of image)) (entry place 1 ∷ [])
  one_entry row stands =
      let within : place < length (program_of image) = slice_get_within (program_of image) place row stands in
      record { number = lit< tt; each = (record { low = omega arith; high = within; used = lit< tt; place = omega (arith, within, few_rows image); count = lit< tt }, tt) }

  pub first_segment_canonical : slice_get (program_of image) place ≡ Some first_sum → IsCanonicalSegment (limits_of 1) (shape_of two_tables image) (first_segment image place)
  unfolding each_below
  first_segment_canonical stands = record {
    pc_start = lit< tt;
    pc_end = lit< tt;
    end_time = lit< tt;
    start_root = root_canonical (start_map image);
    end_root = root_canonical (leaves_between image);
    tables = (record { low = lit≤ tt; height = refl; each = (record { wide = refl; elements = all_below modulus first_row refl }, tt) }, (record { low = lit≤ tt; height = refl; each = tt }, tt));
    program = one_entry first_sum stands;
    xor = record { number = lit< tt; each = (some_entry _ _ 0 3 refl refl refl refl refl, (some_entry _ _ 1799 1 refl refl refl refl refl, tt)) };
    range = record { number = lit< tt; each = (some_entry _ _ 255 2 refl refl refl refl refl, (some_entry _ _ 65535 1 refl refl refl refl refl, (some_entry _ _ 65537 1 refl refl refl refl refl, tt))) };
    constants = record { number = lit< tt; each = tt };
    page_number = lit< tt;
    pages = (record { label = lit< tt; whole = first_whole; times = all_below modulus first_touched.times refl }, tt);
    sibling_number = few_siblings (start_map image) (labels_of (first_touched ∷ []));
    siblings = siblings_canonical (start_map image) (labels_of (first_touched ∷ []));
  }

  pub second_segment_canonical : slice_get (program_of image) place ≡ Some second_sum → IsCanonicalSegment (limits_of 1) (shape_of two_tables image) (second_segment image place)
  unfolding each_below
  second_segment_canonical stands = record {
    pc_start = lit< tt;
    pc_end = lit< tt;
    end_time = lit< tt;
    start_root = root_canonical (leaves_between image);
    end_root = root_canonical (leaves_behind image);
    tables = (record { low = lit≤ tt; height = refl; each = (record { wide = refl; elements = all_below modulus second_row refl }, tt) }, (record { low = lit≤ tt; height = refl; each = tt }, tt));
    program = one_entry second_sum stands;
    xor = record { number = lit< tt; each = (some_entry _ _ 0 3 refl refl refl refl refl, (some_entry _ _ 3598 1 refl refl refl refl refl, tt)) };
    range = record { number = lit< tt; each = (some_entry _ _ 255 3 refl refl refl refl refl, (some_entry _ _ 65535 2 refl refl refl refl refl, (some_entry _ _ 65537 1 refl refl refl refl refl, tt))) };
    constants = record { number = lit< tt; each = tt };
    page_number = lit< tt;
    pages = (record { label = lit< tt; whole = second_whole; times = all_below modulus second_touched.times refl }, tt);
    sibling_number = few_siblings (leaves_between image) (labels_of (second_touched ∷ []));
    siblings = siblings_canonical (leaves_between image) (labels_of (second_touched ∷ []));
  }

-- ---- the whole

pub two_sums_accepted : TwoSumsAreAccepted
two_sums_accepted elf image first second code has begins ends =
    let end = end_in_range elf image 4104 code has ends in
    record {
      bits = refl;
      canonical = record {
        first = lit≤ tt;
        version = lit< tt;
        segments = (first_segment_canonical image first begins.first_stands, (second_segment_canonical image second begins.second_stands, tt));
        claim = record {
          code = end.byte;
          public_bytes = record { size = refl; bytes = zero_bytes 64 };
          levels = path_levels (leaves_behind image);
          path = path_canonical (leaves_behind image) PUBLIC_LABEL;
        };
      };
      claim = record {
        some = lit≤ tt;
        few = lit≤ tt;
        hold = (first_segment_holds image first begins.first_stands, (second_segment_holds image second begins.second_stands, tt));
        linked = (sym begins.entry, refl, (refl, refl, tt));
        ends = (refl, refl);
        terminates = ends;
        public = record {
          whole = record { size = refl; bytes = zero_bytes 64 };
          levels = path_levels (leaves_behind image);
          digests = path_digests_of (leaves_behind image) PUBLIC_LABEL;
          leads = subst (λ (leaf : List ℕ). climb PUBLIC_LABEL leaf (path_of (leaves_behind image) PUBLIC_LABEL) ≡ root (leaves_behind image))
              (public_leaf image) (climb-path_of (leaves_behind image) PUBLIC_LABEL (lit< tt));
        };
      };
    }
