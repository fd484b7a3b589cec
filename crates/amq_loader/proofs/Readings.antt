-- What a directory reads, as names with bytes.
use Rattle.std.proofs.Common.{◌≡◌, ℕ, Bool, true, false, cond, List, [], ◌∷◌, map, Some, refl, sym, ap, subst, ◌∙◌}
use Rattle.std.specs.Prelude.{T, option_map, ◌&&◌}
use Rattle.std.specs.Ordering.{eq_by_cmp, is_lt, nat_cmp}
use Rattle.std.specs.Cmp.Lexicographic.{slice_cmp}
use Rattle.std.specs.FinMap as finite
use Rattle.std.specs.FinMap.Entries.{below_all}
use Rattle.amq_model.specs.Files.{FileName, Files, File, Image, IsReading}
use Rattle.amq_loader.specs.Parts.{listing_of}

-- the bytes of each file
abbrev all_bytes : List (FileName × File) → List (FileName × List ℕ)
all_bytes es = map (λ e. (e.0, e.1.bytes)) es

still_below : (n : FileName) (es : List (FileName × File)) → below_all (slice_cmp nat_cmp) n (all_bytes es) ≡ below_all (slice_cmp nat_cmp) n es
still_below n [] = refl
still_below n (e ∷ es) = ap (λ (b : Bool). is_lt (slice_cmp nat_cmp n e.0) && b) (still_below n es)

still_sorted : (es : List (FileName × File)) → finite.is_sorted (slice_cmp nat_cmp) (all_bytes es) ≡ finite.is_sorted (slice_cmp nat_cmp) es
still_sorted [] = refl
still_sorted (e ∷ es) = ap (λ (b : Bool). b && finite.is_sorted (slice_cmp nat_cmp) (all_bytes es)) (still_below e.0 es) ∙ ap (λ (b : Bool). below_all (slice_cmp nat_cmp) e.0 es && b) (still_sorted es)

found_bytes : (n : FileName) (es : List (FileName × File)) → finite.find (slice_cmp nat_cmp) n (all_bytes es) ≡ option_map (λ f. f.bytes) (finite.find (slice_cmp nat_cmp) n es)
found_bytes n [] = refl
found_bytes n (e ∷ es) = by (eq_by_cmp (slice_cmp nat_cmp) n e.0) (found_bytes n es)
  where
    by : (b : Bool) → finite.find (slice_cmp nat_cmp) n (all_bytes es) ≡ option_map (λ f. f.bytes) (finite.find (slice_cmp nat_cmp) n es) → cond b (Some e.1.bytes) (finite.find (slice_cmp nat_cmp) n (all_bytes es)) ≡ option_map (λ (f : File). f.bytes) (cond b (Some e.1) (finite.find (slice_cmp nat_cmp) n es))
    by true rest = refl
    by false rest = rest

-- the image that a directory reads
pub reading_of : Files → Image
reading_of s = finite.from_sorted (all_bytes (finite.entries s))

pub is_reading : (s : Files) → IsReading s (reading_of s)
unfolding reading_of
is_reading s = λ n.
    let es = finite.entries s in
    let sorted : T (finite.is_sorted (slice_cmp nat_cmp) (all_bytes es)) = subst T (sym (still_sorted es)) (finite.entries_sorted s) in
    finite.get-from_sorted (slice_cmp nat_cmp) (all_bytes es) n sorted ∙ found_bytes n es ∙ sym (ap (option_map (λ (f : File). f.bytes)) (finite.get-entries s n))

-- its entries are those of the directory
pub reading_entries : (s : Files) → finite.entries (reading_of s) ≡ listing_of s
unfolding reading_of
reading_entries s =
    let es = finite.entries s in
    finite.entries-from_sorted (slice_cmp nat_cmp) (all_bytes es) (subst T (sym (still_sorted es)) (finite.entries_sorted s))
