-- What a sync and a list settle.
use Rattle.std.proofs.Common.{◌≡◌, ℕ, zero, ◌<◌, Bool, true, false, List, [], length, slice_index, Option, None, Some, refl, sym, ◌∙◌, ap, subst, arith}
use Rattle.std.specs.Prelude.{option_map}
use Rattle.std.specs.FinMap as map
use Rattle.amq_model.specs.Names.{same}
use Rattle.amq_model.specs.Files.{FileName, Range, File, Files, Image, IsPending, IsFileImage, IsImage, synced, put_where}
use Rattle.amq_model.specs.Calls.{Past, syncing, listing, fine, noted, content}
use Rattle.amq_model.specs.Crash.{settled_since, nothing_since}
use Rattle.amq_model.specs.Leaves.{Leaves, Within, Exactly, Unchanged, IsSyncedFile, Syncs, HasSettledNames, LeavesNothingNew, AllAgree, AllReads, NothingPending, IsSameFile, IsSettled, IsListedSame}
use Rattle.amq_model.proofs.Fewer.{reads_before}
use Rattle.amq_model.proofs.Lookups.{get-insert_same, get-changed_other}
use Rattle.amq_model.proofs.Moments.{one_done, go_on}
use Rattle.amq_model.proofs.Chain.{loosely}
use Rattle.amq_model.proofs.OneReading.{same_is, same_self, one_content_behind_list}

bytes-put : (found : Option File) (s : Files) (n : FileName) → map.get s n ≡ found → option_map (λ f. f.bytes) (map.get (put_where found (λ f. record { bytes = f.bytes; pending = [] }) s n) n) ≡ option_map (λ f. f.bytes) found
bytes-put None s n is = ap (option_map (λ (f : File). f.bytes)) is
bytes-put (Some f) s n is = ap (option_map (λ (f : File). f.bytes)) (get-insert_same s n (record { bytes = f.bytes; pending = [] }))

durable-put : (found : Option File) (s : Files) (n : FileName) → map.get s n ≡ found → NothingPending (map.get (put_where found (λ f. record { bytes = f.bytes; pending = [] }) s n) n)
durable-put None s n is = subst NothingPending (sym is) tt
durable-put (Some f) s n is = subst NothingPending (sym (get-insert_same s n (record { bytes = f.bytes; pending = [] }))) refl

bytes-synced : (n : FileName) (s : Files) → option_map (λ f. f.bytes) (map.get (synced n s) n) ≡ option_map (λ f. f.bytes) (map.get s n)
bytes-synced n s = bytes-put (map.get s n) s n refl

-- after a sync that answered Ok nothing of its file is pending, in each reading
pub synced_durable : (n : FileName) (old new : Option Past) → new ≡ option_map (noted (syncing n) fine) old → AllReads new (λ s. NothingPending (map.get s n))
synced_durable n None new notes = let F : Option Past → Type 0 = λ h. AllReads h (λ s. NothingPending (map.get s n)) in subst F (sym notes) tt
synced_durable n (Some p) new notes =
    let F : Option Past → Type 0 = λ h. AllReads h (λ s. NothingPending (map.get s n)) in
    subst F (sym notes) (λ s reads.
    let is : s ≡ synced n reads.0 = reads.2.0 in
    subst (λ s. NothingPending (map.get s n)) (sym is) (durable-put (map.get reads.0 n) reads.0 n refl))

-- a sync that answered Ok settles a file of which there was one content
pub sync_settles : (n : FileName) (old new : Option Past) → AllAgree old (IsSameFile n) → new ≡ option_map (noted (syncing n) fine) old → AllAgree new (IsSettled n)
sync_settles n None new agree notes = let F : Option Past → Type 0 = λ h. AllAgree h (IsSettled n) in subst F (sym notes) tt
sync_settles n (Some p) new agree notes =
    let F : Option Past → Type 0 = λ h. AllAgree h (IsSettled n) in
    subst F (sym notes) (λ s reads.
    let told = content p.start p.calls in
    let is : s ≡ synced n reads.0 = reads.2.0 in
    subst (IsSettled n (synced n told)) (sym is) (record {
      bytes = bytes-synced n reads.0 ∙ agree reads.0 (reads_before (settled_since (syncing n) fine told nothing_since) p.start p.calls reads.0 reads.1) ∙ sym (bytes-synced n told);
      durable = durable-put (map.get reads.0 n) reads.0 n refl;
    }))

-- a list that answered Ok settles which files are there
pub list_settles : (old new : Option Past) → new ≡ option_map (noted listing fine) old → AllAgree new IsListedSame
list_settles None new notes = let F : Option Past → Type 0 = λ h. AllAgree h IsListedSame in subst F (sym notes) tt
list_settles (Some p) new notes =
    let F : Option Past → Type 0 = λ h. AllAgree h IsListedSame in
    subst F (sym notes) (λ s reads. let told = content p.start p.calls in subst (IsListedSame told) (sym reads.2.0) reads.2.1)

-- and what is settled stays so through calls that lead alike from alike
pub agree_on : (I : Files → Files → Type 0) (f : Files → Files) (R S : Files → Files → Type 0) (a b : Option Past) → AllAgree a R → ((told o : Files) → R told o → S (f told) (f o)) → Leaves I (Exactly f) a b → AllAgree b S
agree_on I f R S None b all step leaves = let F : Option Past → Type 0 = λ h. AllAgree h S in subst F (sym leaves) tt
agree_on I f R S (Some p) b all step leaves =
    let F : Option Past → Type 0 = λ h. AllAgree h S in
    let q = leaves.0 in
    subst F (sym leaves.1) (λ s reads.
    let o = leaves.2.reads s reads in
    let P : Files → Type 0 = λ told. S told s in
    let Q : Files → Type 0 = λ s. S (f (content p.start p.calls)) s in
    subst P (sym leaves.2.told) (subst Q (sym o.2) (step (content p.start p.calls) o.0 (all o.0 o.1))))

-- Behind a list that answered Ok, where only asks and syncs came since, a sync that answered Ok settles its file: every failed write to it, and every create, rename and remove before the list, is as the disk reads it.
pub sync_settles_listed : (n : FileName) (old new : Option Past) → HasSettledNames old → new ≡ option_map (noted (syncing n) fine) old → AllAgree new (IsSettled n)
sync_settles_listed n None new names notes = let F : Option Past → Type 0 = λ h. AllAgree h (IsSettled n) in subst F (sym notes) tt
sync_settles_listed n (Some p) new names notes =
    let F : Option Past → Type 0 = λ h. AllAgree h (IsSettled n) in
    subst F (sym notes) (λ s reads.
    let told = content p.start p.calls in
    let is : s ≡ synced n reads.0 = reads.2.0 in
    subst (IsSettled n (synced n told)) (sym is) (record {
      bytes = bytes-synced n reads.0 ∙ one_content_behind_list (settled_since (syncing n) fine told nothing_since) p.start p.calls reads.0 n names (zero, omega arith, refl) reads.1 ∙ sym (bytes-synced n told);
      durable = durable-put (map.get reads.0 n) reads.0 n refl;
    }))

-- a sync of any file that answered Ok leaves the bytes and lengths of all, and makes nothing pending
file-synced : (n q : FileName) (s : Files) → IsSyncedFile (map.get s q) (map.get (synced n s) q)
file-synced n q s = by (same q n) refl where
  itself : (found : Option File) → IsSyncedFile found found
  itself None = tt
  itself (Some f) = (refl, λ i is. is)

  put : (found : Option File) → map.get s n ≡ found → IsSyncedFile found (map.get (put_where found (λ f. record { bytes = f.bytes; pending = [] }) s n) n)
  put None is = subst (IsSyncedFile None) (sym is) tt
  put (Some f) is = subst (IsSyncedFile (Some f)) (sym (get-insert_same s n (record { bytes = f.bytes; pending = [] }))) (refl, λ i pends. absurd pends)

  by : (b : Bool) → same q n ≡ b → IsSyncedFile (map.get s q) (map.get (synced n s) q)
  by true is = subst (λ (q : FileName). IsSyncedFile (map.get s q) (map.get (synced n s) q)) (sym (same_is q n is)) (put (map.get s n) refl)
  by false is = subst (IsSyncedFile (map.get s q)) (sym (get-changed_other n _ s q (λ e. let both : true ≡ false = sym (same_self q) ∙ ap (same q) e ∙ is in cc))) (itself (map.get s q))

pub synced_syncs : (n : FileName) (s : Files) → Syncs s (synced n s)
synced_syncs n s q = file-synced n q s

pub syncs_itself : (s : Files) → Syncs s s
syncs_itself s q = by (map.get s q) where
  by : (found : Option File) → IsSyncedFile found found
  by None = tt
  by (Some f) = (refl, λ i is. is)

pub unchanged_syncs : (o s : Files) → Unchanged o s → Syncs o s
unchanged_syncs o s is = subst (Syncs o) (sym is) (syncs_itself o)

pub syncs_then : (o m s : Files) → Syncs o m → Syncs m s → Syncs o s
syncs_then o m s one two q = by (map.get o q) (map.get m q) (map.get s q) (one q) (two q) where
  by : (x y z : Option File) → IsSyncedFile x y → IsSyncedFile y z → IsSyncedFile x z
  by None None None one two = tt
  by None None (Some h) one two = absurd two
  by None (Some g) z one two = absurd one
  by (Some f) None z one two = absurd one
  by (Some f) (Some g) None one two = absurd two
  by (Some f) (Some g) (Some h) one two = (two.0 ∙ one.0, λ i is. one.1 i (two.1 i is))

-- the same bytes
pub bytes_synced : (o s : Files) → Syncs o s → (q : FileName) → option_map (λ f. f.bytes) (map.get s q) ≡ option_map (λ f. f.bytes) (map.get o q)
bytes_synced o s syncs q = by (map.get o q) (map.get s q) (syncs q) where
  by : (x y : Option File) → IsSyncedFile x y → option_map (λ f. f.bytes) y ≡ option_map (λ f. f.bytes) x
  by None None is = refl
  by None (Some g) is = absurd is
  by (Some f) None is = absurd is
  by (Some f) (Some g) is = ap (λ (l : List ℕ). Some l) is.0

-- nothing of a file is pending where nothing was
pub durable_synced : (o s : Files) → Syncs o s → (q : FileName) → NothingPending (map.get o q) → (file : File) → map.get s q ≡ Some file → (i : ℕ) → IsPending file.pending i → ⊥
durable_synced o s syncs q nothing file is i pends = by (map.get o q) (map.get s q) (syncs q) nothing is where
  by : (x y : Option File) → IsSyncedFile x y → NothingPending x → y ≡ Some file → ⊥
  by None None kept nothing is = absurd cc
  by None (Some g) kept nothing is = absurd kept
  by (Some f) None kept nothing is = absurd kept
  by (Some f) (Some g) kept nothing is =
      let e : file ≡ g = cc in
      subst (λ (l : List Range). IsPending l i) nothing (kept.1 i (subst (λ (f : File). IsPending f.pending i) e pends))

-- calls that change nothing, as syncs
pub unchanged_are_syncs : (a b : Option Past) → Leaves Unchanged Unchanged a b → Leaves Syncs Syncs a b
unchanged_are_syncs a b leaves = loosely Unchanged Syncs Unchanged Syncs a b unchanged_syncs unchanged_syncs leaves

-- one run of syncs behind another
pub syncs_on : (a b c : Option Past) → Leaves Syncs Syncs a b → Leaves Syncs Syncs b c → Leaves Syncs Syncs a c
syncs_on a b c one two = go_on {I = Syncs} {J = Syncs} {K = Syncs} {E = Syncs} {F = Syncs} {G = Syncs} a b c (λ o s i. i) syncs_then syncs_then one two

-- what is left behind syncs could have been left before
pub syncs_leave_nothing_new : (a b : Option Past) → Leaves Syncs Syncs a b → LeavesNothingNew a b
syncs_leave_nothing_new None b leaves = tt
syncs_leave_nothing_new (Some p) b leaves =
    let F : Option Past → Type 0 = λ h. LeavesNothingNew (Some p) h in
    subst F (sym leaves.1) (λ image (s, reads, left). let from = leaves.2.reads s reads in (from.0, from.1, image_before from.0 s image from.2 left))
  where
    torn_before : (x y : Option File) (z : Option (List ℕ)) → IsSyncedFile x y → IsFileImage y z → IsFileImage x z
    torn_before None None z synced left = left
    torn_before None (Some g) z synced left = absurd synced
    torn_before (Some f) None z synced left = absurd synced
    torn_before (Some f) (Some g) None synced left = absurd left
    torn_before (Some f) (Some g) (Some bytes) synced left = record {
      len = left.len ∙ ap length synced.0;
      same = λ i low kept. left.same i (subst (λ (l : List ℕ). i < length l) (sym synced.0) low) (λ is. kept (synced.1 i is)) ∙ ap (λ (l : List ℕ). slice_index l i) synced.0;
      bytes = left.bytes;
    }

    image_before : (o s : Files) (image : Image) → Syncs o s → IsImage s image → IsImage o image
    image_before o s image syncs left q = torn_before (map.get o q) (map.get s q) (map.get image q) (syncs q) (left q)

durable-synced : (n m : FileName) (s : Files) → NothingPending (map.get s n) → NothingPending (map.get (synced m s) n)
durable-synced n m s nothing = by (same n m) refl where
  by : (b : Bool) → same n m ≡ b → NothingPending (map.get (synced m s) n)
  by true is = subst (λ (n : FileName). NothingPending (map.get (synced m s) n)) (sym (same_is n m is)) (durable-put (map.get s m) s m refl)
  by false is = subst NothingPending (sym (get-changed_other m _ s n (λ e. let both : true ≡ false = sym (same_self n) ∙ ap (same n) e ∙ is in cc))) nothing

-- what was settled stays so through a sync of any file that answered Ok
pub settled_synced : (n m : FileName) (old new : Option Past) → AllAgree old (IsSettled n) → new ≡ option_map (noted (syncing m) fine) old → AllAgree new (IsSettled n)
settled_synced n m old new agree notes = agree_on (Within (syncing m)) (synced m) (IsSettled n) (IsSettled n) old new agree step (one_done (syncing m) old new notes) where
  step : (told o : Files) → IsSettled n told o → IsSettled n (synced m told) (synced m o)
  step told o is = record {
    bytes = bytes_synced o (synced m o) (synced_syncs m o) n ∙ is.bytes ∙ sym (bytes_synced told (synced m told) (synced_syncs m told) n);
    durable = durable-synced n m o is.durable;
  }

lengths_synced : (o s : Files) → Syncs o s → (q : FileName) → option_map (λ f. length f.bytes) (map.get s q) ≡ option_map (λ f. length f.bytes) (map.get o q)
lengths_synced o s syncs q = by (map.get o q) (map.get s q) (syncs q) where
  by : (x y : Option File) → IsSyncedFile x y → option_map (λ f. length f.bytes) y ≡ option_map (λ f. length f.bytes) x
  by None None is = refl
  by None (Some g) is = absurd is
  by (Some f) None is = absurd is
  by (Some f) (Some g) is = ap (λ (l : List ℕ). Some (length l)) is.0

-- so does which files there are
pub listed_synced : (m : FileName) (old new : Option Past) → AllAgree old IsListedSame → new ≡ option_map (noted (syncing m) fine) old → AllAgree new IsListedSame
listed_synced m old new agree notes = agree_on (Within (syncing m)) (synced m) IsListedSame IsListedSame old new agree step (one_done (syncing m) old new notes) where
  step : (told o : Files) → IsListedSame told o → IsListedSame (synced m told) (synced m o)
  step told o is q = lengths_synced o (synced m o) (synced_syncs m o) q ∙ is q ∙ sym (lengths_synced told (synced m told) (synced_syncs m told) q)
