-- What a crash may leave: of a create that is under way, and of calls that failed, settled or not.
use Rattle.std.proofs.Common.{◌≡◌, inl, inr, ℕ, zero, suc, ◌<◌, ◌≤◌, min, Bool, true, false, cond, List, [], ◌∷◌, length, replicate, slice_index, Contains, Option, None, Some, option_map, refl, sym, ap, subst, subst₂, ◌∙◌, arith}
use lib.ListN.{length-replicate}
use Rattle.std.specs.Ordering.{nat_cmp, eq_by_cmp}
use Rattle.std.specs.Cmp.Lexicographic.{slice_cmp}
use Rattle.std.proofs.lemmas.Cmp.{nat_list_cmp_total}
use Rattle.std.specs.FinMap as map
use Rattle.amq_model.specs.Files.{FileName, Range, File, Files, Image, IsPending, IsTorn, IsFileImage, IsImage, IsReading, created, written, pended, synced, renamed, changed, put_where, move_where}
use Rattle.amq_model.specs.Calls.{Part, Event, Past, listing, creating, writing, syncing, renaming, fine, broken, undone, whole, short, absent, partly}
use Rattle.amq_model.specs.Crash.{settled_since, ReadsBefore, nothing_since, Reads, ReadsSince, MayLeave}
use Rattle.amq_model.proofs.Literals.{are_bytes, unequal}

abbrev pub a : FileName
a = 97 ∷ []

abbrev b : FileName
b = 98 ∷ []

abbrev is : FileName → FileName → Bool
is q n = eq_by_cmp (slice_cmp nat_cmp) q n

abbrev pub file : List ℕ → List Range → File
file bytes pending = record { bytes = bytes; pending = pending }

-- a directory of one file, and one of none
abbrev pub nothing : {X : Type 0} → map.FinMap (slice_cmp nat_cmp) X
nothing = map.empty

abbrev pub one : {X : Type 0} → FileName → X → map.FinMap (slice_cmp nat_cmp) X
one n x = map.insert map.empty n x

-- that file is there, and no other
abbrev pub HasOne : {X : Type 0} → map.FinMap (slice_cmp nat_cmp) X → FileName → X → Type 0
HasOne m n x = (q : FileName) → map.get m q ≡ cond (is q n) (Some x) None

inserted : {X : Type 0} (m : map.FinMap (slice_cmp nat_cmp) X) (n : FileName) (x : X) (q : FileName) → map.get (map.insert m n x) q ≡ cond (is q n) (Some x) (map.get m q)
inserted m n x q = map.get-insert nat_list_cmp_total m n x q

pub has_one : {X : Type 0} (n : FileName) (x : X) → HasOne (one n x) n x
has_one n x q = inserted map.empty n x q ∙ ap (λ o. cond (is q n) (Some x) o) (map.get-empty (slice_cmp nat_cmp) q)

pub is_image : (s : Files) (n : FileName) (f : File) (bytes : List ℕ) → HasOne s n f → IsTorn f.pending f.bytes bytes → IsImage s (one n bytes)
is_image s n f bytes has torn q = subst₂ IsFileImage (sym (has q)) (sym (has_one n bytes q)) (by (is q n)) where
  by : (x : Bool) → IsFileImage (cond x (Some f) None) (cond x (Some bytes) None)
  by true = torn
  by false = tt

pub is_reading : (s : Files) (n : FileName) (f : File) → HasOne s n f → IsReading s (one n f.bytes)
is_reading s n f has q = has_one n f.bytes q ∙ by (is q n) ∙ ap (option_map (λ f. f.bytes)) (sym (has q)) where
  by : (x : Bool) → cond x (Some f.bytes) None ≡ option_map (λ f. f.bytes) (cond x (Some f) None)
  by true = refl
  by false = refl

no_image : (s : Files) → ((q : FileName) → map.get s q ≡ None) → IsImage s nothing
no_image s none q = subst₂ IsFileImage (sym (none q)) (sym (map.get-empty (slice_cmp nat_cmp) q)) tt

no_reading : (s : Files) → ((q : FileName) → map.get s q ≡ None) → IsReading s nothing
no_reading s none q = map.get-empty (slice_cmp nat_cmp) q ∙ ap (option_map (λ f. f.bytes)) (sym (none q))

none_there : (q : FileName) → map.get (nothing {X = File}) q ≡ None
none_there q = map.get-empty (slice_cmp nat_cmp) q

-- what an image has of a file by what the directory has
pub at_name : (s : Files) (image : Image) (n : FileName) (x : Option File) (y : Option (List ℕ)) → map.get s n ≡ x → map.get image n ≡ y → IsImage s image → IsFileImage x y
at_name s image n x y e g h = subst₂ IsFileImage e g (h n)

-- all of the file is pending
all_torn : (len : ℕ) (old new : List ℕ) → length old ≡ len → length new ≡ len → ((i : ℕ) → slice_index new i < 256) → IsTorn ((0, len) ∷ []) old new
all_torn len old new e g bytes = record { len = g ∙ sym e; same = λ i below kept. absurd (kept (inl (omega arith, omega arith))); bytes = bytes }

-- ---- a create that is under way

abbrev creates : Past
creates = record { start = nothing; calls = record { call = creating a 4 0x4a; outcome = fine; before = 0 } ∷ []; moment = 1 }

pub the_name_is_absent : MayLeave (Some creates) 0 nothing nothing
the_name_is_absent = (nothing, inl (omega arith, refl), no_reading _ none_there, no_image _ none_there)

-- two bytes of the four, and not those of the filling
pub a_short_file : MayLeave (Some creates) 0 (one a (0x4a ∷ 0x4a ∷ [])) (one a (7 ∷ 9 ∷ []))
a_short_file =
    let s : Files = created a 2 0x4a nothing in
    let f : File = file (0x4a ∷ 0x4a ∷ []) ((0, 2) ∷ []) in
    (s, inr (inl (omega arith, (nothing, refl, short 2, refl))), is_reading s a f (has_one a f), is_image s a f _ (has_one a f) (all_torn 2 _ _ refl refl (are_bytes (7 ∷ 9 ∷ []) tt)))

pub the_whole_file : MayLeave (Some creates) 1 (one a (0x4a ∷ 0x4a ∷ 0x4a ∷ 0x4a ∷ [])) (one a (0 ∷ 1 ∷ 2 ∷ 3 ∷ []))
the_whole_file =
    let s : Files = created a 4 0x4a nothing in
    let f : File = file (0x4a ∷ 0x4a ∷ 0x4a ∷ 0x4a ∷ []) ((0, 4) ∷ []) in
    (s, inr (inr (omega arith, (nothing, refl, (refl, tt)))), is_reading s a f (has_one a f), is_image s a f _ (has_one a f) (all_torn 4 _ _ refl refl (are_bytes (0 ∷ 1 ∷ 2 ∷ 3 ∷ []) tt)))

-- more bytes than were asked for aren't left
longer : (s : Files) (image : Image) (x : Option File) (bytes : List ℕ) → map.get s a ≡ x → map.get image a ≡ Some bytes → length bytes ≡ 5 → IsImage s image → (old : List ℕ) (pending : List Range) → x ≡ Some (file old pending) → length old ≤ 4 → ⊥
longer s image x bytes e g five h old pending is low = let torn : IsTorn pending old bytes = at_name s image a (Some (file old pending)) (Some bytes) (e ∙ is) g h in let len = torn.len in omega arith

pub a_longer_file : (reading image : Image) (bytes : List ℕ) → map.get image a ≡ Some bytes → length bytes ≡ 5 → MayLeave (Some creates) 0 reading image → ⊥
a_longer_file reading image bytes g five (s, since, read, left) = by since where
  not_there : map.get s a ≡ None → ⊥
  not_there e = at_name s image a None (Some bytes) e g left

  filled : (len : ℕ) → len ≤ 4 → s ≡ created a len 0x4a nothing → ⊥
  filled len low e =
      let found : map.get s a ≡ Some (file (replicate len 0x4a) ((0, len) ∷ [])) = ap (λ m. map.get m a) e ∙ has_one a _ a in
      longer s image _ bytes found g five left _ _ refl (subst (λ n. n ≤ 4) (sym (length-replicate len 0x4a)) low)

  partial : (part : Part) → s ≡ partly (creating a 4 0x4a) part nothing → ⊥
  partial undone e = not_there (ap (λ m. map.get m a) e ∙ none_there a)
  partial whole e = filled 4 (omega arith) e
  partial (short k) e = filled (min k 4) (omega arith) e
  partial absent e = not_there (ap (λ m. map.get m a) e ∙ map.get-remove nat_list_cmp_total nothing a a)

  by : ReadsSince creates.start creates.calls 1 0 s → ⊥
  by (inl (low, e)) = not_there (ap (λ m. map.get m a) e ∙ none_there a)
  by (inr (inl (low, (old, begun, part, e)))) = partial part (e ∙ ap (partly (creating a 4 0x4a) part) begun)
  by (inr (inr (low, (old, begun, (e, agrees))))) = filled 4 (omega arith) (e ∙ ap (created a 4 0x4a) begun)

-- once it answered, the name isn't absent
pub no_longer_absent : (reading image : Image) → map.get image a ≡ None → MayLeave (Some creates) 1 reading image → ⊥
no_longer_absent reading image g (s, inl (low, e), read, left) = omega arith
no_longer_absent reading image g (s, inr (inl (low, more)), read, left) = omega arith
no_longer_absent reading image g (s, inr (inr (low, (old, begun, (e, agrees)))), read, left) =
    let f : File = file (0x4a ∷ 0x4a ∷ 0x4a ∷ 0x4a ∷ []) ((0, 4) ∷ []) in
    at_name s image a (Some f) None (ap (λ m. map.get m a) (e ∙ ap (created a 4 0x4a) begun) ∙ has_one a f a) g left

-- ---- a rename that failed

abbrev start : Files
start = one a (file (1 ∷ []) [])

abbrev renames : Past
renames = record { start = start; calls = record { call = renaming a b; outcome = broken undone; before = 0 } ∷ []; moment = 1 }

pub durable : (bytes : List ℕ) → ((i : ℕ) → slice_index bytes i < 256) → IsTorn [] bytes bytes
durable bytes h = record { len = refl; same = λ i below kept. refl; bytes = h }

renamed_one : HasOne (renamed a b start) b (file (1 ∷ []) [])
renamed_one q = ap (λ found. map.get (move_where found a b start) q) (has_one a _ a) ∙ inserted (map.remove start a) b _ q ∙ ap (λ o. cond (is q b) (Some (file (1 ∷ []) [])) o) gone where
  gone : map.get (map.remove start a) q ≡ None
  gone = map.get-remove nat_list_cmp_total start a q ∙ ap (λ o. cond (is q a) None o) (has_one a _ q) ∙ by (is q a) where
    by : (x : Bool) → cond x None (cond x (Some (file (1 ∷ []) [])) None) ≡ None
    by true = refl
    by false = refl

pub under_the_old_name : MayLeave (Some renames) 1 (one a (1 ∷ [])) (one a (1 ∷ []))
under_the_old_name = (start, inr (inr (omega arith, (start, refl, (undone, (λ listed. absurd cc), refl)))), is_reading start a _ (has_one a _), is_image start a _ _ (has_one a _) (durable (1 ∷ []) (are_bytes (1 ∷ []) tt)))

pub under_the_new_name : MayLeave (Some renames) 1 (one b (1 ∷ [])) (one b (1 ∷ []))
under_the_new_name = (renamed a b start, inr (inr (omega arith, (start, refl, (whole, (λ listed. absurd cc), refl)))), is_reading (renamed a b start) b _ renamed_one, is_image (renamed a b start) b _ _ renamed_one (durable (1 ∷ []) (are_bytes (1 ∷ []) tt)))

-- but not under neither
pub under_neither : (reading image : Image) → map.get image a ≡ None → map.get image b ≡ None → MayLeave (Some renames) 0 reading image → ⊥
under_neither reading image no_a no_b (s, since, read, left) = by since where
  at_a : s ≡ start → ⊥
  at_a e = at_name s image a (Some (file (1 ∷ []) [])) None (ap (λ m. map.get m a) e ∙ has_one a _ a) no_a left

  at_b : s ≡ renamed a b start → ⊥
  at_b e = at_name s image b (Some (file (1 ∷ []) [])) None (ap (λ m. map.get m b) e ∙ renamed_one b) no_b left

  partial : (part : Part) → s ≡ partly (renaming a b) part start → ⊥
  partial undone e = at_a e
  partial whole e = at_b e
  partial (short k) e = at_a e
  partial absent e = at_a e

  by : ReadsSince renames.start renames.calls 1 0 s → ⊥
  by (inl (low, e)) = at_a e
  by (inr (inl (low, (old, begun, part, e)))) = partial part (e ∙ ap (partly (renaming a b) part) begun)
  by (inr (inr (low, (old, begun, (part, may, e))))) = partial part (e ∙ ap (partly (renaming a b) part) begun)

-- ---- a write that failed

abbrev pub two : Files
two = one a (file (1 ∷ 2 ∷ []) [])

changed_one : (s : Files) (n : FileName) (f : File) (g : File → File) → map.get s n ≡ Some f → HasOne s n f → HasOne (changed n g s) n (g f)
changed_one s n f g here has q = ap (λ found. map.get (put_where found g s n) q) here ∙ inserted s n (g f) q ∙ ap (λ o. cond (is q n) (Some (g f)) o) (has q) ∙ by (is q n) where
  by : (x : Bool) → cond x (Some (g f)) (cond x (Some f) None) ≡ cond x (Some (g f)) None
  by true = refl
  by false = refl

abbrev pub write : Event
write = record { call = writing a 0 (7 ∷ []); outcome = broken undone; before = 0 }

abbrev sync : Event
sync = record { call = syncing a; outcome = fine; before = 1 }

abbrev pub failed_write : Past
failed_write = record { start = two; calls = write ∷ []; moment = 1 }

abbrev settled_write : Past
settled_write = record { start = two; calls = sync ∷ write ∷ []; moment = 2 }

-- the range of the write
pub only_the_first : (x : ℕ) → x < 256 → IsTorn ((0, 1) ∷ []) (1 ∷ 2 ∷ []) (x ∷ 2 ∷ [])
only_the_first x low = record { len = refl; same = same; bytes = bytes } where
  same : (i : ℕ) → i < 2 → (IsPending ((0, 1) ∷ []) i → ⊥) → slice_index (x ∷ 2 ∷ []) i ≡ slice_index (1 ∷ 2 ∷ []) i
  same zero below kept = absurd (kept (inl (omega arith, omega arith)))
  same (suc i) below kept = refl

  bytes : (i : ℕ) → slice_index (x ∷ 2 ∷ []) i < 256
  bytes zero = low
  bytes (suc i) = are_bytes (2 ∷ []) tt i

pub not_written : HasOne (pended a 0 1 two) a (file (1 ∷ 2 ∷ []) ((0, 1) ∷ []))
not_written = changed_one two a _ _ (has_one a _ a) (has_one a _)

written_there : HasOne (written a 0 (7 ∷ []) two) a (file (7 ∷ 2 ∷ []) ((0, 1) ∷ []))
written_there = changed_one two a _ _ (has_one a _ a) (has_one a _)

-- any byte in its range, where it reads as it was
pub any_byte : MayLeave (Some failed_write) 1 (one a (1 ∷ 2 ∷ [])) (one a (9 ∷ 2 ∷ []))
any_byte = (pended a 0 1 two, inr (inr (omega arith, (two, refl, (undone, λ synced. refl, refl)))), is_reading (pended a 0 1 two) a _ not_written, is_image (pended a 0 1 two) a _ _ not_written (only_the_first 9 (omega arith)))

-- it may read as written too
pub as_written : (image : Image) → IsImage (written a 0 (7 ∷ []) two) image → MayLeave (Some failed_write) 1 (one a (7 ∷ 2 ∷ [])) image
as_written image left = (written a 0 (7 ∷ []) two, inr (inr (omega arith, (two, refl, (whole, (λ synced. absurd (none synced)), refl)))), is_reading (written a 0 (7 ∷ []) two) a _ written_there, left) where
  none : Contains [] a → ⊥
  none (k, below, e) = omega arith

synced_there : HasOne (synced a (pended a 0 1 two)) a (file (1 ∷ 2 ∷ []) [])
synced_there = changed_one (pended a 0 1 two) a _ _ (not_written a) not_written

-- after a sync that answered Ok what the disk told is left
pub as_told : MayLeave (Some settled_write) 2 (one a (1 ∷ 2 ∷ [])) (one a (1 ∷ 2 ∷ []))
as_told = (synced a (pended a 0 1 two), inr (inr (omega arith, (pended a 0 1 two, (two, refl, (undone, λ synced. refl, refl)), (refl, tt)))), is_reading (synced a (pended a 0 1 two)) a _ synced_there, is_image (synced a (pended a 0 1 two)) a _ _ synced_there (durable (1 ∷ 2 ∷ []) (are_bytes (1 ∷ 2 ∷ []) tt)))

-- and nothing else
pub no_longer_written : (reading image : Image) → map.get image a ≡ Some (7 ∷ 2 ∷ []) → MayLeave (Some settled_write) 2 reading image → ⊥
no_longer_written reading image g (s, since, read, left) = by since where
  by : ReadsSince two (sync ∷ write ∷ []) 2 2 s → ⊥
  by (inl (inl (low, more))) = omega arith
  by (inl (inr (inl (low, more)))) = omega arith
  by (inl (inr (inr (low, more)))) = omega arith
  by (inr (inl (low, more))) = omega arith
  by (inr (inr (low, (old, (first, begun, (other, may, e)), (f, agrees))))) =
      let part : other ≡ undone = may (0, omega arith, refl) in
      let before : old ≡ pended a 0 1 two = e ∙ ap (λ p. partly write.call p first) part ∙ ap (partly write.call undone) begun in
      let found : map.get s a ≡ Some (file (1 ∷ 2 ∷ []) []) = ap (λ m. map.get m a) (f ∙ ap (synced a) before) ∙ synced_there a in
      let torn : IsTorn [] (1 ∷ 2 ∷ []) (7 ∷ 2 ∷ []) = at_name s image a (Some (file (1 ∷ 2 ∷ []) [])) (Some (7 ∷ 2 ∷ [])) found g left in
      unequal 7 1 tt (torn.same 0 (omega arith) (λ p. p))

-- ---- a create that failed

abbrev create : Event
create = record { call = creating a 2 0x4a; outcome = broken whole; before = 0 }

abbrev list : Event
list = record { call = listing; outcome = fine; before = 2 }

-- no sync settles it: the name may be absent still
pub still_absent : MayLeave (Some (record { start = nothing; calls = sync ∷ create ∷ []; moment = 2 })) 2 nothing nothing
still_absent = (synced a nothing, inr (inr (omega arith, (nothing, (nothing, refl, (undone, (λ listed. absurd cc), refl)), (refl, tt)))), no_reading (synced a nothing) none, no_image (synced a nothing) none) where
  none : (q : FileName) → map.get (synced a nothing) q ≡ None
  none q = ap (λ found. map.get (put_where found (λ f. record { bytes = f.bytes; pending = [] }) nothing a) q) (none_there a) ∙ none_there q

-- a list does
pub listed : (reading image : Image) → map.get image a ≡ None → MayLeave (Some (record { start = nothing; calls = list ∷ sync ∷ create ∷ []; moment = 3 })) 3 reading image → ⊥
listed reading image g (s, since, read, left) = by since where
  told : Files
  told = synced a (created a 2 0x4a nothing)

  told_there : map.get told a ≡ Some (file (0x4a ∷ 0x4a ∷ []) [])
  told_there = changed_one (created a 2 0x4a nothing) a _ _ (has_one a _ a) (has_one a _) a

  tells : (x : Option File) → map.get s a ≡ x → option_map (λ f. length f.bytes) x ≡ Some 2 → ⊥
  tells None e f = absurd cc
  tells (Some f) e g' = at_name s image a (Some f) None e g left

  by : ReadsSince nothing (list ∷ sync ∷ create ∷ []) 3 3 s → ⊥
  by (inl (inl (inl (low, more)))) = omega arith
  by (inl (inl (inr (inl (low, more))))) = omega arith
  by (inl (inl (inr (inr (low, more))))) = omega arith
  by (inl (inr (inl (low, more)))) = omega arith
  by (inl (inr (inr (low, more)))) = omega arith
  by (inr (inl (low, more))) = omega arith
  by (inr (inr (low, (old, more, (e, agrees))))) = tells (map.get s a) refl (ap (λ m. option_map (λ f. length f.bytes) (map.get m a)) e ∙ agrees a ∙ ap (option_map (λ f. length f.bytes)) told_there)

-- what it told is left
pub listed_there : MayLeave (Some (record { start = nothing; calls = list ∷ sync ∷ create ∷ []; moment = 3 })) 3 (one a (0x4a ∷ 0x4a ∷ [])) (one a (0x4a ∷ 0x4a ∷ []))
listed_there = (told, inr (inr (omega arith, (told, (created a 2 0x4a nothing, (nothing, refl, (whole, (λ listed. refl), refl)), (refl, tt)), (refl, λ n. refl)))), is_reading told a _ there, is_image told a _ _ there (durable (0x4a ∷ 0x4a ∷ []) (are_bytes (0x4a ∷ 0x4a ∷ []) tt))) where
  told : Files
  told = synced a (created a 2 0x4a nothing)

  there : HasOne told a (file (0x4a ∷ 0x4a ∷ []) [])
  there = changed_one (created a 2 0x4a nothing) a _ _ (has_one a _ a) (has_one a _)

-- ---- a create that failed over a file of the same length

abbrev over : Event
over = record { call = creating a 2 0x4a; outcome = broken undone; before = 0 }

abbrev list_behind : Event
list_behind = record { call = listing; outcome = fine; before = 1 }

-- the disk reads the old file
pub old_file_is_read : Reads two (over ∷ []) two
old_file_is_read = (two, refl, (undone, (λ listed. refl), refl))

-- and the new one is another reading,
pub new_file_is_a_reading : Reads two (over ∷ []) (created a 2 0x4a two)
new_file_is_a_reading = (two, refl, (whole, (λ listed. absurd cc), refl))

pub another_reading : created a 2 0x4a two ≡ two → ⊥
another_reading e =
    let there : map.get (created a 2 0x4a two) a ≡ Some (file (0x4a ∷ 0x4a ∷ []) ((0, 2) ∷ [])) = inserted two a _ a in
    let both : Some (file (0x4a ∷ 0x4a ∷ []) ((0, 2) ∷ [])) ≡ Some (file (1 ∷ 2 ∷ []) []) = sym there ∙ ap (λ m. map.get m a) e ∙ has_one a _ a in
    unequal 0x4a 1 tt (ap first_byte both)
  where
    first_byte : Option File → ℕ
    first_byte None = 0
    first_byte (Some f) = slice_index f.bytes 0

-- but no longer behind a list that answered Ok: then what the disk reads is the only one.
pub only_as_listed : (s : Files) → Reads two (list_behind ∷ over ∷ []) s → s ≡ two
only_as_listed s (old, (first, begun, (other, may, e)), (is, agrees)) = is ∙ e ∙ ap (λ p. partly over.call p first) (may refl) ∙ begun

pub still_read_as_listed : Reads two (list_behind ∷ over ∷ []) two
still_read_as_listed = (two, old_before, (refl, λ n. refl)) where
  old_before : ReadsBefore (settled_since listing fine two nothing_since) two (over ∷ []) two
  old_before = (two, refl, (undone, (λ listed. refl), refl))
