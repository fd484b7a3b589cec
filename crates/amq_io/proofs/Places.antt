-- Where the entry of a name stands, and what a change of it does.
use Rattle.std.proofs.Common.{◌≡◌, ℕ, zero, suc, ◌+◌, ◌-◌, ◌≤◌, Bool, true, false, cond, List, [], ◌∷◌, length, get_or, take, drop, Option, None, Some, refl, sym, ◌∙◌, ap, subst, arith, add-one}
use Rattle.std.proofs.Math.ListN.{set}
use Rattle.std.proofs.lemmas.List.{take_all}
use Rattle.std.specs.Prelude.{Result, Ok, Err, OnErr, IfSome, remove}
use Rattle.std.specs.Str.{bytes_eq}
use Rattle.std.specs.Ordering.{eq_by_cmp, is_eq, nat_cmp}
use Rattle.std.specs.declared.cmp.Ordering.{Ordering}
use Rattle.std.specs.declared.cmp.Ordering.TheVariants.{Less, Equal, Greater}
use Rattle.std.specs.Cmp.Lexicographic.{slice_cmp}
use Rattle.std.proofs.lemmas.Cmp.{nat_list_cmp_total}
use Rattle.std.proofs.lemmas.Map.Text.{is_eq-slice_cmp}
use Rattle.std.specs.FinMap as map
use Rattle.amq_model.specs.Files.{FileName, File, Files, put_where, changed, move_where, renamed}
use Rattle.amq_model.proofs.Lookups.{same_self, get-insert_same, get-insert_other, get-remove_same, get-remove_other}
use Rattle.amq_io.specs.declared.entries.Entry.{Entry}
use Rattle.amq_io.specs.Versions.{Versions}
use Rattle.amq_io.specs.Synced.{durable, settled}
use Rattle.amq_io.specs.Entries.{files_by, files_of, synced_of, IsFirst, IsAbsent, IsUnchanged}

-- two texts that a test tells apart
pub differs : (a b : List ℕ) → bytes_eq a b ≡ false → a ≡ b → ⊥
differs a b no_match same =
    let yes : bytes_eq b b ≡ true = sym (is_eq-slice_cmp b b) ∙ same_self b in
    let no : bytes_eq b b ≡ false = subst (λ a. bytes_eq a b ≡ false) same no_match in
    let t : true ≡ false = sym yes ∙ no in cc

rest_of : (e : Entry) (es : List Entry) → take (length (e ∷ es) - 1) (drop 1 (e ∷ es)) ≡ es
rest_of e es = take_all (length (e ∷ es) - 1) es (omega arith)

pub first_later : (n : FileName) (files : List Entry) (i : ℕ) (d : Entry) → 1 ≤ length files → d ≡ get_or files 0 d → (d.name ≡ n → ⊥) → IsFirst n (take (length files - 1) (drop 1 files)) i → IsFirst n files (i + 1)
first_later n [] i d some is other first = absurd (omega (arith, some))
first_later n (e ∷ es) i d some is other first =
    subst (IsFirst n (e ∷ es)) (sym (add-one i)) ((λ same. other (ap (λ (e : Entry). e.name) is ∙ same)), subst (λ rest. IsFirst n rest i) (rest_of e es) first)

pub absent_later : (n : FileName) (files : List Entry) (d : Entry) → 1 ≤ length files → d ≡ get_or files 0 d → (d.name ≡ n → ⊥) → IsAbsent n (take (length files - 1) (drop 1 files)) → IsAbsent n files
absent_later n [] d some is other absent = tt
absent_later n (e ∷ es) d some is other absent = ((λ same. other (ap (λ (e : Entry). e.name) is ∙ same)), subst (IsAbsent n) (rest_of e es) absent)

pub name_first : (n : FileName) (es : List Entry) (i : ℕ) (d : Entry) → IsFirst n es i → d ≡ get_or es i d → d.name ≡ n
name_first n [] i d first is = absurd first
name_first n (e ∷ es) zero d first is = ap (λ (e : Entry). e.name) is ∙ first
name_first n (e ∷ es) (suc i) d first is = name_first n es i d first.1 is

swapped : {X : Type 0} (b c : Bool) (x y z : X) → (b ≡ true → c ≡ true → ⊥) → cond b x (cond c y z) ≡ cond c y (cond b x z)
swapped true true x y z not_both = absurd (not_both refl refl)
swapped true false x y z not_both = refl
swapped false true x y z not_both = refl
swapped false false x y z not_both = refl

twice : {X : Type 0} (b : Bool) (x y z : X) → cond b x z ≡ cond b x (cond b y z)
twice true x y z = refl
twice false x y z = refl

pub same_true : (q n : FileName) → eq_by_cmp (slice_cmp nat_cmp) q n ≡ true → q ≡ n
same_true q n is = map.slice_cmp-IsAntisymmetric map.nat_cmp-IsAntisymmetric q n (equal (slice_cmp nat_cmp q n) is)
  where
    equal : (r : Ordering) → is_eq r ≡ true → r ≡ Equal
    equal Less e = cc
    equal Equal e = refl
    equal Greater e = cc

insert_same : (s : Files) (n : FileName) (f : File) → map.get s n ≡ Some f → map.insert s n f ≡ s
insert_same s n f is =
    map.same_map nat_list_cmp_total (map.slice_cmp-IsAntisymmetric map.nat_cmp-IsAntisymmetric) _ _
    (λ q. map.get-insert nat_list_cmp_total s n f q ∙ at q (eq_by_cmp (slice_cmp nat_cmp) q n) refl)
  where
    at : (q : FileName) (b : Bool) → eq_by_cmp (slice_cmp nat_cmp) q n ≡ b → cond b (Some f) (map.get s q) ≡ map.get s q
    at q true e = sym is ∙ ap (map.get s) (sym (same_true q n e))
    at q false e = refl

pub on_err : {T E : Type 0} (r : Result T E) (X : Type 0) → X → OnErr r X
on_err (Ok v) X x = tt
on_err (Err e) X x = x

pub first_in : (n : FileName) (xs es : List Entry) (i : ℕ) → xs ≡ es → IsFirst n xs i → IsFirst n es i
first_in n xs es i same first = subst (λ l. IsFirst n l i) same first

pub absent_in : (n : FileName) (xs es : List Entry) → xs ≡ es → IsAbsent n xs → IsAbsent n es
absent_in n xs es same absent = subst (IsAbsent n) same absent

pub removed_is : (n : FileName) (new old : Files) → map.get new n ≡ None → ((q : FileName) → (q ≡ n → ⊥) → map.get new q ≡ map.get old q) → new ≡ map.remove old n
removed_is n new old none others =
    map.same_map nat_list_cmp_total (map.slice_cmp-IsAntisymmetric map.nat_cmp-IsAntisymmetric) _ _
    (λ q. at q (eq_by_cmp (slice_cmp nat_cmp) q n) refl ∙ sym (map.get-remove nat_list_cmp_total old n q))
  where
    at : (q : FileName) (b : Bool) → eq_by_cmp (slice_cmp nat_cmp) q n ≡ b → map.get new q ≡ cond b None (map.get old q)
    at q true e = ap (map.get new) (same_true q n e) ∙ none
    at q false e = others q (λ same. let t : true ≡ false = sym (same_self n) ∙ ap (λ k. eq_by_cmp (slice_cmp nat_cmp) k n) (sym same) ∙ e in cc)

-- the two versions
abbrev pub reads : Versions → File
reads v = v.read

abbrev pub syncs : Versions → File
syncs v = durable v.synced

-- of one version of the files
module _ (V : Versions → File) where
  -- the entry of a name
  pub get_first : (n : FileName) (es : List Entry) (i : ℕ) (d : Entry) → IsFirst n es i → d ≡ get_or es i d → map.get (files_by V es) n ≡ Some (V d.file)
  get_first n [] i d first is = absurd first
  get_first n (e ∷ es) zero d first is =
      ap (map.get (files_by V (e ∷ es))) (sym first) ∙ get-insert_same (files_by V es) e.name (V e.file) ∙ ap (λ (e : Entry). Some (V e.file)) (sym is)
  get_first n (e ∷ es) (suc i) d first is =
      get-insert_other (files_by V es) e.name n (V e.file) (λ same. first.0 (sym same)) ∙ get_first n es i d first.1 is

  pub get_absent : (n : FileName) (es : List Entry) → IsAbsent n es → map.get (files_by V es) n ≡ None
  get_absent n [] absent = map.get-empty (slice_cmp nat_cmp) n
  get_absent n (e ∷ es) absent = get-insert_other (files_by V es) e.name n (V e.file) (λ same. absent.0 (sym same)) ∙ get_absent n es absent.1

  put_first : (n : FileName) (es : List Entry) (i : ℕ) (e' : Entry) → IsFirst n es i → e'.name ≡ n → (q : FileName) → map.get (files_by V (set es i e')) q ≡ cond (eq_by_cmp (slice_cmp nat_cmp) q n) (Some (V e'.file)) (map.get (files_by V es) q)
  put_first n [] i e' first named q = absurd first
  put_first n (e ∷ es) zero e' first named q =
      map.get-insert nat_list_cmp_total (files_by V es) e'.name (V e'.file) q
      ∙ ap (λ k. cond (eq_by_cmp (slice_cmp nat_cmp) q k) (Some (V e'.file)) (map.get (files_by V es) q)) named
      ∙ twice (eq_by_cmp (slice_cmp nat_cmp) q n) (Some (V e'.file)) (Some (V e.file)) (map.get (files_by V es) q)
      ∙ ap (λ k. cond (eq_by_cmp (slice_cmp nat_cmp) q n) (Some (V e'.file)) (cond (eq_by_cmp (slice_cmp nat_cmp) q k) (Some (V e.file)) (map.get (files_by V es) q))) (sym first)
      ∙ ap (λ o. cond (eq_by_cmp (slice_cmp nat_cmp) q n) (Some (V e'.file)) o) (sym (map.get-insert nat_list_cmp_total (files_by V es) e.name (V e.file) q))
  put_first n (e ∷ es) (suc i) e' first named q =
      map.get-insert nat_list_cmp_total (files_by V (set es i e')) e.name (V e.file) q
      ∙ ap (λ o. cond (eq_by_cmp (slice_cmp nat_cmp) q e.name) (Some (V e.file)) o) (put_first n es i e' first.1 named q)
      ∙ swapped (eq_by_cmp (slice_cmp nat_cmp) q e.name) (eq_by_cmp (slice_cmp nat_cmp) q n) _ _ _ (λ one two. first.0 (sym (same_true q e.name one) ∙ same_true q n two))
      ∙ ap (λ o. cond (eq_by_cmp (slice_cmp nat_cmp) q n) (Some (V e'.file)) o) (sym (map.get-insert nat_list_cmp_total (files_by V es) e.name (V e.file) q))

  -- another entry in the place of the first of that name
  pub set_file : (n : FileName) (es : List Entry) (i : ℕ) (e : Entry) → IsFirst n es i → e.name ≡ n → files_by V (set es i e) ≡ map.insert (files_by V es) n (V e.file)
  set_file n es i e first named =
      map.same_map nat_list_cmp_total (map.slice_cmp-IsAntisymmetric map.nat_cmp-IsAntisymmetric) _ _
      (λ q. put_first n es i e first named q ∙ sym (map.get-insert nat_list_cmp_total (files_by V es) n (V e.file) q))

  -- a change of the first of that name
  pub change_file : (n : FileName) (es : List Entry) (i : ℕ) (old new : Entry) (f : File → File) → IsFirst n es i → old ≡ get_or es i old → new.name ≡ old.name → V new.file ≡ f (V old.file)
      → files_by V (set es i new) ≡ changed n f (files_by V es)
  change_file n es i old new f first is named changes =
      set_file n es i new first (named ∙ name_first n es i old first is)
      ∙ ap (map.insert (files_by V es) n) changes
      ∙ sym (ap (λ found. put_where found f (files_by V es) n) (get_first n es i old first is))

  -- nothing is changed where there is no file of that name
  pub change_none : (n : FileName) (es : List Entry) (f : File → File) → IsAbsent n es → files_by V es ≡ changed n f (files_by V es)
  change_none n es f absent = sym (ap (λ found. put_where found f (files_by V es) n) (get_absent n es absent))

  -- an entry that stands for the same file
  pub same_file : (n : FileName) (es : List Entry) (i : ℕ) (old new : Entry) → IsFirst n es i → old ≡ get_or es i old → new.name ≡ old.name → V new.file ≡ V old.file → files_by V (set es i new) ≡ files_by V es
  same_file n es i old new first is named same =
      set_file n es i new first (named ∙ name_first n es i old first is) ∙ ap (map.insert (files_by V es) n) same ∙ insert_same (files_by V es) n (V old.file) (get_first n es i old first is)

  -- without the first of that name every other name finds the same
  pub drop_entry : (n : FileName) (es : List Entry) (i : ℕ) → IsFirst n es i → (q : FileName) → (q ≡ n → ⊥) → map.get (files_by V (remove es i)) q ≡ map.get (files_by V es) q
  drop_entry n [] i first q ne = absurd first
  drop_entry n (e ∷ es) zero first q ne = sym (get-insert_other (files_by V es) e.name q (V e.file) (λ same. ne (same ∙ first)))
  drop_entry n (e ∷ es) (suc i) first q ne =
      map.get-insert nat_list_cmp_total (files_by V (remove es i)) e.name (V e.file) q
      ∙ ap (λ o. cond (eq_by_cmp (slice_cmp nat_cmp) q e.name) (Some (V e.file)) o) (drop_entry n es i first.1 q ne)
      ∙ sym (map.get-insert nat_list_cmp_total (files_by V es) e.name (V e.file) q)

  without : (n : FileName) (es : List Entry) (i : ℕ) → IsFirst n es i → map.remove (files_by V (remove es i)) n ≡ map.remove (files_by V es) n
  without n es i first =
      removed_is n (map.remove (files_by V (remove es i)) n) (files_by V es) (get-remove_same (files_by V (remove es i)) n)
      (λ q ne. get-remove_other (files_by V (remove es i)) n q ne ∙ drop_entry n es i first q ne)

  pub rename_is : (from to : FileName) (es rest new : List Entry) (i : ℕ) (e e' : Entry) → IsFirst from es i → e ≡ get_or es i e → files_by V rest ≡ map.remove (files_by V (remove es i)) from → new ≡ e' ∷ rest
      → e'.name ≡ to → V e'.file ≡ V e.file → files_by V new ≡ renamed from to (files_by V es)
  rename_is from to es rest new i e e' first is gone put named same =
      ap (files_by V) put
      ∙ ap (λ k. map.insert (files_by V rest) k (V e'.file)) named
      ∙ ap (map.insert (files_by V rest) to) same
      ∙ ap (λ s. map.insert s to (V e.file)) (gone ∙ without from es i first)
      ∙ sym (ap (λ found. move_where found from to (files_by V es)) (get_first from es i e first is))

  pub rename_none : (from to : FileName) (es : List Entry) → IsAbsent from es → files_by V es ≡ renamed from to (files_by V es)
  rename_none from to es absent = sym (ap (λ found. move_where found from to (files_by V es)) (get_absent from es absent))

-- what a write requires of the file that is found
pub found_within : (n : FileName) (es : List Entry) (i end : ℕ) (d : Entry) → IsFirst n es i → d ≡ get_or es i d → IfSome (map.get (files_of es) n) (λ f. end ≤ length f.bytes) → end ≤ length d.file.read.bytes
found_within n es i end d first is within =
    let F : Option File → Type 0 = λ o. IfSome o (λ f. end ≤ length f.bytes) in subst F (get_first reads n es i d first is) within

-- a sync of the first of that name
pub settle_file : (n : FileName) (es : List Entry) (i : ℕ) (old new : Entry) → IsFirst n es i → old ≡ get_or es i old → new.name ≡ old.name → new.file.synced ≡ old.file.read.bytes
    → synced_of (set es i new) ≡ settled (map.get (files_of es) n) n (synced_of es)
settle_file n es i old new first is named same =
    set_file syncs n es i new first (named ∙ name_first n es i old first is)
    ∙ ap (λ (b : List ℕ). map.insert (synced_of es) n (durable b)) same
    ∙ sym (ap (λ found. settled found n (synced_of es)) (get_first reads n es i old first is))

-- a sync where there is no file of that name
pub settle_none : (n : FileName) (es : List Entry) → IsAbsent n es → synced_of es ≡ settled (map.get (files_of es) n) n (synced_of es)
settle_none n es absent = sym (ap (λ found. settled found n (synced_of es)) (get_absent reads n es absent))

-- an equal file in the place of the first of that name
pub keep_file : (n : FileName) (es : List Entry) (i : ℕ) (old new : Entry) → IsFirst n es i → old ≡ get_or es i old → new.name ≡ old.name → new.file ≡ old.file → IsUnchanged es (set es i new)
keep_file n es i old new first is named same = record {
  read = same_file reads n es i old new first is named (ap reads same);
  synced = same_file syncs n es i old new first is named (ap syncs same);
}
