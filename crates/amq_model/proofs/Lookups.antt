-- What a directory has under a name after each change.
use Rattle.std.specs.declared.cmp.Ordering.{Ordering}
use Rattle.std.proofs.Common.{◌≡◌, ◌⊎◌, inl, inr, true, false, cond, Option, None, Some, refl, ◌∙◌, ap}
use Rattle.std.specs.Ordering.{eq_by_cmp, is_eq, nat_cmp}
use Rattle.std.specs.declared.cmp.Ordering.TheVariants.{Less, Equal, Greater}
use Rattle.std.specs.Cmp.Lexicographic.{slice_cmp}
use Rattle.std.proofs.lemmas.Cmp.{nat_list_cmp_total, eq_by_cmp_equiv}
use Rattle.std.specs.FinMap as map
use Rattle.amq_model.specs.Files.{FileName, Files, File, put_where, changed, move_where, renamed}
use Rattle.amq_model.specs.Calls.{Call, Part, listing, reading, creating, writing, syncing, renaming, removing, undone, whole, short, absent, done, partly}
use Rattle.amq_model.specs.Leaves.{Within}

pub same_self : (n : FileName) → eq_by_cmp (slice_cmp nat_cmp) n n ≡ true
same_self n = (eq_by_cmp_equiv nat_list_cmp_total).refl n

pub same_other : (q n : FileName) → (q ≡ n → ⊥) → eq_by_cmp (slice_cmp nat_cmp) q n ≡ false
same_other q n ne =
    elim (slice_cmp nat_cmp q n) as (λ r. slice_cmp nat_cmp q n ≡ r → is_eq r ≡ false) [
      | Less ↦ λ e. refl
      | Equal ↦ λ e. absurd (ne (map.slice_cmp-IsAntisymmetric map.nat_cmp-IsAntisymmetric q n e))
      | Greater ↦ λ e. refl
    ] refl

abbrev Map : Type 0 → Type 0
Map X = map.FinMap (slice_cmp nat_cmp) X

module _ {X : Type 0} where
  pub get-insert_same : (s : Map X) (n : FileName) (f : X) → map.get (map.insert s n f) n ≡ Some f
  get-insert_same s n f = map.get-insert nat_list_cmp_total s n f n ∙ ap (λ b. cond b (Some f) (map.get s n)) (same_self n)

  pub get-insert_other : (s : Map X) (n q : FileName) (f : X) → (q ≡ n → ⊥) → map.get (map.insert s n f) q ≡ map.get s q
  get-insert_other s n q f ne = map.get-insert nat_list_cmp_total s n f q ∙ ap (λ b. cond b (Some f) (map.get s q)) (same_other q n ne)

  pub get-remove_same : (s : Map X) (n : FileName) → map.get (map.remove s n) n ≡ None
  get-remove_same s n = map.get-remove nat_list_cmp_total s n n ∙ ap (λ b. cond b None (map.get s n)) (same_self n)

  pub get-remove_other : (s : Map X) (n q : FileName) → (q ≡ n → ⊥) → map.get (map.remove s n) q ≡ map.get s q
  get-remove_other s n q ne = map.get-remove nat_list_cmp_total s n q ∙ ap (λ b. cond b None (map.get s q)) (same_other q n ne)

-- a change of one file
get-put_where : (found : Option File) (f : File → File) (s : Files) (n q : FileName) → (q ≡ n → ⊥) → map.get (put_where found f s n) q ≡ map.get s q
get-put_where None f s n q ne = refl
get-put_where (Some file) f s n q ne = get-insert_other s n q (f file) ne

pub get-changed_other : (n : FileName) (f : File → File) (s : Files) (q : FileName) → (q ≡ n → ⊥) → map.get (changed n f s) q ≡ map.get s q
get-changed_other n f s q ne = get-put_where (map.get s n) f s n q ne

pub get-changed_same : (n : FileName) (f : File → File) (s : Files) (file : File) → map.get s n ≡ Some file → map.get (changed n f s) n ≡ Some (f file)
get-changed_same n f s file is = ap (λ found. map.get (put_where found f s n) n) is ∙ get-insert_same s n (f file)

get-move_where : (found : Option File) (from to : FileName) (s : Files) (q : FileName) → (q ≡ from → ⊥) → (q ≡ to → ⊥) → map.get (move_where found from to s) q ≡ map.get s q
get-move_where None from to s q ne me = refl
get-move_where (Some file) from to s q ne me = get-insert_other (map.remove s from) to q file me ∙ get-remove_other s from q ne

pub get-renamed_other : (from to : FileName) (s : Files) (q : FileName) → (q ≡ from → ⊥) → (q ≡ to → ⊥) → map.get (renamed from to s) q ≡ map.get s q
get-renamed_other from to s q ne me = get-move_where (map.get s from) from to s q ne me

pub get-renamed_to : (from to : FileName) (s : Files) (file : File) → map.get s from ≡ Some file → map.get (renamed from to s) to ≡ Some file
get-renamed_to from to s file is = ap (λ found. map.get (move_where found from to s) to) is ∙ get-insert_same (map.remove s from) to file

pub get-renamed_from : (from to : FileName) (s : Files) (file : File) → map.get s from ≡ Some file → (from ≡ to → ⊥) → map.get (renamed from to s) from ≡ None
get-renamed_from from to s file is ne =
    ap (λ found. map.get (move_where found from to s) from) is ∙ get-insert_other (map.remove s from) to from file ne ∙ get-remove_same s from

-- the files that a call names to change them
abbrev pub Touches : Call → FileName → Type 0
Touches listing q = ⊥
Touches (reading n) q = ⊥
Touches (creating n len fill) q = q ≡ n
Touches (writing n place bytes) q = q ≡ n
Touches (syncing n) q = q ≡ n
Touches (renaming from to) q = (q ≡ from) ⊎ (q ≡ to)
Touches (removing n) q = q ≡ n

done_untouched : (call : Call) (o : Files) (q : FileName) → (Touches call q → ⊥) → map.get (done call o) q ≡ map.get o q
done_untouched listing o q free = refl
done_untouched (reading n) o q free = refl
done_untouched (creating n len fill) o q free = get-insert_other o n q _ free
done_untouched (writing n place bytes) o q free = get-changed_other n _ o q free
done_untouched (syncing n) o q free = get-changed_other n _ o q free
done_untouched (renaming from to) o q free = get-renamed_other from to o q (λ e. free (inl e)) (λ e. free (inr e))
done_untouched (removing n) o q free = get-remove_other o n q free

partly_untouched : (call : Call) (part : Part) (o : Files) (q : FileName) → (Touches call q → ⊥) → map.get (partly call part o) q ≡ map.get o q
partly_untouched listing part o q free = refl
partly_untouched (reading n) part o q free = refl
partly_untouched (creating n len fill) undone o q free = refl
partly_untouched (creating n len fill) whole o q free = get-insert_other o n q _ free
partly_untouched (creating n len fill) (short k) o q free = get-insert_other o n q _ free
partly_untouched (creating n len fill) absent o q free = get-remove_other o n q free
partly_untouched (writing n place bytes) undone o q free = get-changed_other n _ o q free
partly_untouched (writing n place bytes) whole o q free = get-changed_other n _ o q free
partly_untouched (writing n place bytes) (short k) o q free = get-changed_other n _ o q free
partly_untouched (writing n place bytes) absent o q free = get-changed_other n _ o q free
partly_untouched (syncing n) part o q free = refl
partly_untouched (renaming from to) undone o q free = refl
partly_untouched (renaming from to) whole o q free = get-renamed_other from to o q (λ e. free (inl e)) (λ e. free (inr e))
partly_untouched (renaming from to) (short k) o q free = refl
partly_untouched (renaming from to) absent o q free = refl
partly_untouched (removing n) undone o q free = refl
partly_untouched (removing n) whole o q free = get-remove_other o n q free
partly_untouched (removing n) (short k) o q free = refl
partly_untouched (removing n) absent o q free = refl

-- at each moment of a call every other file is as it was
pub untouched : (call : Call) (o s : Files) → Within call o s → (q : FileName) → (Touches call q → ⊥) → map.get s q ≡ map.get o q
untouched call o s (inl is) q free = ap (λ m. map.get m q) is
untouched call o s (inr (inl is)) q free = ap (λ m. map.get m q) is ∙ done_untouched call o q free
untouched call o s (inr (inr is)) q free = ap (λ m. map.get m q) is.1 ∙ partly_untouched call is.0 o q free

pub same_true : (q n : FileName) → eq_by_cmp (slice_cmp nat_cmp) q n ≡ true → q ≡ n
same_true q n is = map.slice_cmp-IsAntisymmetric map.nat_cmp-IsAntisymmetric q n (equal (slice_cmp nat_cmp q n) is)
  where
    equal : (r : Ordering) → is_eq r ≡ true → r ≡ Equal
    equal Less e = cc
    equal Equal e = refl
    equal Greater e = cc
