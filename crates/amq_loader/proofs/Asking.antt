-- The calls of a load, one behind the other.
use Rattle.std.proofs.Common.{◌≡◌, ◌⊎◌, inl, inr, ℕ, ◌+◌, ◌<◌, ◌≤◌, Bool, true, false, cond, leb, List, [], ◌∷◌, ◌++◌, length, take, drop, get_or, map, filter, Option, None, Some, refl, sym, ap, subst, ◌∙◌, append_assoc, arith}
use Rattle.std.specs.Prelude.{Result, Ok, Err, option_map, ◌&&◌, ◌==◌, nat_lt}
use Rattle.std.proofs.lemmas.Bool.{le-leb}
use Rattle.std.proofs.lemmas.Option.{same_Some, none-some}
use Rattle.std.proofs.lemmas.List.{map-append, map_more, take_all, take-append-drop, drop_more}
use Rattle.std.proofs.lemmas.List.Elements.{filter-append}
use Rattle.amq_model.specs.declared.directory.DirFault.{DirFault}
use Rattle.amq_model.specs.declared.directory.DirFault.TheVariants.{TooLong, Version, UserVersion, TwoFiles}
use Rattle.amq_model.specs.Files.{FileName, Files}
use Rattle.amq_model.specs.Names.{is_data}
use Rattle.amq_model.specs.Directory.{FileOf, file_of, fault_of}
use Rattle.amq_model.specs.Calls.{Call, Event, Past, listing, reading, fine, no_room, broken, noted}
use Rattle.amq_model.specs.Leaves.{Told}
use Rattle.amq_model.specs.LoadCalls.{AreCalls, AreFirstCalls, AreCallsBy, Makes, is_read, listed, names_among, load_calls, AreUpTo, AreReadUntil}
use Rattle.amq_model.proofs.Making.{all_then, first_then, first_more, all_are_first, none_are_first, made_none, made_one, made_passed, made_so, made_weaker, made_then}
use Rattle.amq_io.specs.Listed.{IsListed}
use Rattle.amq_io.specs.Notes.{Notes}
use Rattle.amq_io.specs.Faults.{as_error}
use Rattle.amq_io.specs.declared.disk.FileInfo.{FileInfo}
use Rattle.amq_io.specs.declared.faults.DiskFault.{DiskFault}
use Rattle.amq_io.specs.declared.faults.DiskFault.TheVariants as disk
use Rattle.amq_loader.specs.declared.faults.LoadFault.{LoadFault}
use Rattle.amq_loader.specs.declared.faults.LoadFault.TheVariants as f
use Rattle.amq_loader.specs.declared.part.Part.{Part}
use Rattle.amq_loader.specs.Causes.{load_fault, IsFaultOr, IsChecked}
use Rattle.amq_loader.specs.Parts.{HasFaultHere, shared_id}
use Rattle.amq_loader.specs.Asked.{HasLoadCalls, HasListCall, HasReads, HasRead, IsOwnFault, sizes}

-- ---- one call

one_call : (call : Call) (e : Event) → e.call ≡ call → AreCalls (call ∷ []) (e ∷ [])
one_call call e is = ap (λ (c : Call). c ∷ []) is

-- a call that answered Ok
pub call_done : (call : Call) (old new : Option Past) → new ≡ option_map (noted call fine) old → Makes (λ s. AreCalls (call ∷ [])) old new
call_done call old new notes = made_one (λ s. AreCalls (call ∷ [])) call fine old new (λ s e is. one_call call e is) notes

-- a call that had no answer
pub call_failed : (S : Type 0) (call : Call) (fault : DiskFault) (old new : Option Past) → Notes {T = S} call (as_error (Err fault)) old new → Makes (λ s. AreFirstCalls (call ∷ [])) old new
call_failed S call disk.NoMemory old new (inl notes) = made_passed (λ s. AreFirstCalls (call ∷ [])) old new (λ s. none_are_first (call ∷ [])) notes
call_failed S call disk.NoMemory old new (inr notes) = made_one (λ s. AreFirstCalls (call ∷ [])) call no_room old new (λ s e is. all_are_first (call ∷ []) (e ∷ []) (one_call call e is)) notes
call_failed S call (disk.Disk c) old new notes = made_one (λ s. AreFirstCalls (call ∷ [])) call (broken notes.0) old new (λ s e is. all_are_first (call ∷ []) (e ∷ []) (one_call call e is)) notes.1

-- ---- the list

pub list_failed : (S T : Type 0) (fault : DiskFault) (result : Result T LoadFault) (old new : Option Past) → result ≡ Err (load_fault fault) → Notes {T = S} listing (as_error (Err fault)) old new → Makes (HasListCall result) old new
list_failed S T fault result old new is notes = subst (λ (r : Result T LoadFault). Makes (HasListCall r) old new) (sym is) (by fault (call_failed S listing fault old new notes)) where
  by : (fault : DiskFault) → Makes (λ s. AreFirstCalls (listing ∷ [])) old new → Makes (HasListCall {T = T} (Err (load_fault fault))) old new
  by disk.NoMemory made = made
  by (disk.Disk c) made = made

-- ---- one file

not_long : (n : ℕ) → n < 16 → leb 16 n ≡ false
not_long n lt = grind arith

not_short : (n : ℕ) → 268435456 < n → leb n 268435456 ≡ false
not_short n lt = grind arith

and_false : (b : Bool) → (b && false) ≡ false
and_false true = refl
and_false false = refl

pub not_read : (name : FileName) (len : ℕ) → (is_data name ≡ false) ⊎ (len < 16) ⊎ (268435456 < len) → is_read name len ≡ false
not_read name len (inl e) = ap (λ (b : Bool). b && (leb 16 len && leb len 268435456)) e
not_read name len (inr (inl lt)) = ap (λ (b : Bool). is_data name && (b && leb len 268435456)) (not_long len lt) ∙ and_false (is_data name)
not_read name len (inr (inr lt)) = ap (λ (b : Bool). is_data name && (leb 16 len && b)) (not_short len lt) ∙ ap (λ (b : Bool). is_data name && b) (and_false (leb 16 len)) ∙ and_false (is_data name)

pub is_read_one : (name : FileName) (len : ℕ) → is_data name ≡ true → 16 ≤ len → len ≤ 268435456 → is_read name len ≡ true
is_read_one name len named long short =
    ap (λ (b : Bool). b && (leb 16 len && leb len 268435456)) named ∙ ap (λ (b : Bool). b && leb len 268435456) (le-leb 16 len long) ∙ le-leb len 268435456 short

none_among : (name : FileName) (len : ℕ) → is_read name len ≡ false → names_among ((name, len) ∷ []) ≡ []
none_among name len e = ap (λ (b : Bool). map (λ (f : FileName × ℕ). f.0) (cond b ((name, len) ∷ []) [])) e

one_among : (name : FileName) (len : ℕ) → is_read name len ≡ true → names_among ((name, len) ∷ []) ≡ name ∷ []
one_among name len e = ap (λ (b : Bool). map (λ (f : FileName × ℕ). f.0) (cond b ((name, len) ∷ []) [])) e

abbrev one_read : FileName → ℕ → List Call
one_read name len = map reading (names_among ((name, len) ∷ []))

is_no_read : (name : FileName) (len : ℕ) → is_read name len ≡ false → AreCalls (one_read name len) []
is_no_read name len is_not = sym (ap (map reading) (none_among name len is_not))

is_one_read : (name : FileName) (len : ℕ) → is_read name len ≡ true → reading name ∷ [] ≡ one_read name len
is_one_read name len is_so = sym (ap (map reading) (one_among name len is_so))

-- no call, where the file isn't read
pub nothing_read : (T : Type 0) (x : T) (name : FileName) (len : ℕ) (past : Option Past) → is_read name len ≡ false → Makes (HasRead (Ok x) name len) past past
nothing_read T x name len past is_not = made_none (λ s. AreCalls (one_read name len)) past (λ s. is_no_read name len is_not)

pub long_unread : (T : Type 0) (name : FileName) (len : ℕ) (e : LoadFault) (past : Option Past) → 268435456 < len → IsFaultOr (TooLong name len) e → Makes (HasRead {T = T} (Err e) name len) past past
long_unread T name len (f.Directory found) past long is =
    made_none (λ s events. IsOwnFault found name × AreCalls (one_read name len) events) past (λ s. (let P : DirFault → Type 0 = λ d. IsOwnFault d name in subst P (sym is) refl, is_no_read name len (not_read name len (inr (inr long)))))
long_unread T name len f.NotBuilt past long is = absurd is
long_unread T name len (f.Disk call) past long is = absurd is
long_unread T name len f.NoMemory past long is = made_none (λ s. AreFirstCalls (one_read name len)) past (λ s. none_are_first (one_read name len))

pub read_failed : (S T : Type 0) (name own : FileName) (len : ℕ) (fault : DiskFault) (result : Result T LoadFault) (old new : Option Past) → name ≡ own → is_read own len ≡ true → result ≡ Err (load_fault fault) → Notes {T = S} (reading name) (as_error (Err fault)) old new → Makes (HasRead result own len) old new
read_failed S T name own len fault result old new named is_so is notes =
    let calls : reading name ∷ [] ≡ one_read own len = ap (λ (n : FileName). reading n ∷ []) named ∙ is_one_read own len is_so in
    let made : Makes (λ s. AreFirstCalls (one_read own len)) old new = subst (λ (c : List Call). Makes (λ s. AreFirstCalls c) old new) calls (call_failed S (reading name) fault old new notes) in
    subst (λ (r : Result T LoadFault). Makes (HasRead r own len) old new) (sym is) (by fault made)
  where
    by : (fault : DiskFault) → Makes (λ s. AreFirstCalls (one_read own len)) old new → Makes (HasRead {T = T} (Err (load_fault fault)) own len) old new
    by disk.NoMemory made = made
    by (disk.Disk c) made = made

-- the fault of a file has its name
own_fault : (wanted : ℕ) (f : FileOf) (found : DirFault) → fault_of wanted f ≡ Some found → IsOwnFault found f.name
own_fault wanted f found = by (nat_lt 268435456 (length f.bytes)) (f.version == 2) (f.user_version == wanted) where
  by : (a b c : Bool) → cond a (Some (TooLong f.name (length f.bytes))) (cond b (cond c None (Some (UserVersion f.name f.user_version wanted))) (Some (Version f.name f.version))) ≡ Some found → IsOwnFault found f.name
  by true b c e = let P : DirFault → Type 0 = λ d. IsOwnFault d f.name in subst P (same_Some (TooLong f.name (length f.bytes)) found e) refl
  by false true true e = absurd (none-some found e)
  by false true false e = let P : DirFault → Type 0 = λ d. IsOwnFault d f.name in subst P (same_Some (UserVersion f.name f.user_version wanted) found e) refl
  by false false c e = let P : DirFault → Type 0 = λ d. IsOwnFault d f.name in subst P (same_Some (Version f.name f.version) found e) refl

pub part_read : (T : Type 0) (wanted : ℕ) (name own bytes : List ℕ) (len : ℕ) (result : Result T LoadFault) (old new : Option Past) → name ≡ own → is_read own len ≡ true → new ≡ option_map (noted (reading name) fine) old → HasFaultHere wanted own bytes result → Makes (HasRead result own len) old new
part_read T wanted name own bytes len result old new named is_so notes here =
    let calls : reading name ∷ [] ≡ one_read own len = ap (λ (n : FileName). reading n ∷ []) named ∙ is_one_read own len is_so in
    by result here (subst (λ (c : List Call). Makes (λ s. AreCalls c) old new) calls (call_done (reading name) old new notes))
  where
    by : (result : Result T LoadFault) → HasFaultHere wanted own bytes result → Makes (λ s. AreCalls (one_read own len)) old new → Makes (HasRead result own len) old new
    by (Ok x) here made = made
    by (Err (f.Directory found)) here made = made_weaker (λ s. AreCalls (one_read own len)) (HasRead {T = T} (Err (f.Directory found)) own len) old new (λ s events are. (own_fault wanted (file_of own bytes) found here.is, are)) made
    by (Err f.NotBuilt) here made = absurd here
    by (Err (f.Disk call)) here made = absurd here
    by (Err f.NoMemory) here made = made_weaker (λ s. AreCalls (one_read own len)) (λ s. AreFirstCalls (one_read own len)) old new (λ s. all_are_first (one_read own len)) made

-- ---- several files

names_then : (a b : List (FileName × ℕ)) → names_among (a ++ b) ≡ names_among a ++ names_among b
names_then a b =
    let test : FileName × ℕ → Bool = λ f. is_read f.0 f.1 in
    let name : FileName × ℕ → FileName = λ f. f.0 in
    ap (map name) (filter-append test a b) ∙ map-append name (filter test a) (filter test b)

abbrev reads : List (FileName × ℕ) → List Call
reads files = map reading (names_among files)

reads_then : (a b : List (FileName × ℕ)) → reads (a ++ b) ≡ reads a ++ reads b
reads_then a b = ap (map reading) (names_then a b) ∙ map-append reading (names_among a) (names_among b)

abbrev size : FileInfo → FileName × ℕ
size i = (i.name, i.len)

pub sizes_more : (infos : List FileInfo) (i : ℕ) (info : FileInfo) → i < length infos → info ≡ get_or infos i info → sizes (take (i + 1) infos) ≡ sizes (take i infos) ++ (info.name, info.len) ∷ []
sizes_more infos i info lt here = map_more {Y = FileName × ℕ} size infos i info lt ∙ ap (λ (j : FileInfo). sizes (take i infos) ++ (j.name, j.len) ∷ []) (sym here)

pub sizes_split : (infos : List FileInfo) (i : ℕ) (info : FileInfo) → i < length infos → info ≡ get_or infos i info → sizes infos ≡ sizes (take i infos) ++ (info.name, info.len) ∷ sizes (drop (i + 1) infos)
sizes_split infos i info lt here =
    ap sizes (sym (take-append-drop i infos)) ∙ map-append {B = FileName × ℕ} size (take i infos) (drop i infos)
    ∙ ap (λ (l : List FileInfo). sizes (take i infos) ++ sizes l) (drop_more infos i info lt)
    ∙ ap (λ (j : FileInfo). sizes (take i infos) ++ (j.name, j.len) ∷ sizes (drop (i + 1) infos)) (sym here)

pub sizes_parts : (i : ℕ) (infos : List FileInfo) → sizes infos ≡ sizes (take i infos) ++ sizes (drop i infos)
sizes_parts i infos = ap sizes (sym (take-append-drop i infos)) ∙ map-append {B = FileName × ℕ} size (take i infos) (drop i infos)

-- the reads of these files
abbrev pub AreReads : List (FileName × ℕ) → Files → List Event → Type 0
AreReads files s events = AreCalls (reads files) events

pub no_reads : (past : Option Past) → Makes (AreReads []) past past
no_reads past = made_none (AreReads []) past (λ s. refl)

pub one_more_read : (T : Type 0) (x : T) (files : List (FileName × ℕ)) (name : FileName) (len : ℕ) (a b c : Option Past) → Makes (AreReads files) a b → Makes (HasRead (Ok x) name len) b c → Makes (AreReads (files ++ (name, len) ∷ [])) a c
one_more_read T x files name len a b c so_far one =
    made_then (AreReads files) (HasRead (Ok x) name len) (AreReads (files ++ (name, len) ∷ [])) a b c
    (λ s now earlier later one two. all_then (reads files) (one_read name len) earlier later one two ∙ sym (reads_then files ((name, len) ∷ []))) so_far one

until_more : (found : DirFault) (files rest : List (FileName × ℕ)) (name : FileName) (len : ℕ) → IsOwnFault found name → AreReadUntil found (files ++ (name, len) ∷ rest) (names_among (files ++ (name, len) ∷ []))
until_more (TooLong n l) files rest name len own = record { before = files; len = len; behind = rest; split = ap (λ (m : FileName). files ++ (m, len) ∷ rest) (sym own); are = ap (λ (m : FileName). names_among (files ++ (m, len) ∷ [])) (sym own) }
until_more (Version n v) files rest name len own = record { before = files; len = len; behind = rest; split = ap (λ (m : FileName). files ++ (m, len) ∷ rest) (sym own); are = ap (λ (m : FileName). names_among (files ++ (m, len) ∷ [])) (sym own) }
until_more (UserVersion n v w) files rest name len own = record { before = files; len = len; behind = rest; split = ap (λ (m : FileName). files ++ (m, len) ∷ rest) (sym own); are = ap (λ (m : FileName). names_among (files ++ (m, len) ∷ [])) (sym own) }
until_more (TwoFiles id a b) files rest name len own = absurd own

-- the first ones of more
first_among : (files rest : List (FileName × ℕ)) (events : List Event) → AreFirstCalls (reads files) events → AreFirstCalls (reads (files ++ rest)) events
first_among files rest events first = subst (λ (c : List Call). AreFirstCalls c events) (sym (reads_then files rest)) (first_more (reads files) (reads rest) events first)

one_before : (files rest : List (FileName × ℕ)) (x : FileName × ℕ) → (files ++ x ∷ []) ++ rest ≡ files ++ x ∷ rest
one_before files rest x = append_assoc files (x ∷ []) rest

pub reads_failed : (S T : Type 0) (e : LoadFault) (result : Result T LoadFault) (files rest all : List (FileName × ℕ)) (name : FileName) (len : ℕ) (a b c : Option Past) → result ≡ Err e → all ≡ files ++ (name, len) ∷ rest
    → Makes (AreReads files) a b → Makes (HasRead {T = S} (Err e) name len) b c → Makes (HasReads result all) a c
reads_failed S T e result files rest all name len a b c is split so_far one =
    subst (λ (r : Result T LoadFault). Makes (HasReads r all) a c) (sym is) (subst (λ (l : List (FileName × ℕ)). Makes (HasReads {T = T} (Err e) l) a c) (sym split) (by e one))
  where
    first : (earlier later : List Event) → AreCalls (reads files) earlier → AreFirstCalls (one_read name len) later → AreFirstCalls (reads (files ++ (name, len) ∷ rest)) (later ++ earlier)
    first earlier later one two =
        let so : AreFirstCalls (reads (files ++ (name, len) ∷ [])) (later ++ earlier) = subst (λ (c : List Call). AreFirstCalls c (later ++ earlier)) (sym (reads_then files ((name, len) ∷ []))) (first_then (reads files) (one_read name len) earlier later one two) in
        subst (λ (l : List (FileName × ℕ)). AreFirstCalls (reads l) (later ++ earlier)) (one_before files rest (name, len)) (first_among (files ++ (name, len) ∷ []) rest (later ++ earlier) so)

    by : (e : LoadFault) → Makes (HasRead {T = S} (Err e) name len) b c → Makes (HasReads {T = T} (Err e) (files ++ (name, len) ∷ rest)) a c
    by (f.Directory found) one = made_then (AreReads files) (HasRead {T = S} (Err (f.Directory found)) name len) (HasReads {T = T} (Err (f.Directory found)) (files ++ (name, len) ∷ rest)) a b c
        (λ s now earlier later one two. (names_among (files ++ (name, len) ∷ []), until_more found files rest name len two.0, all_then (reads files) (one_read name len) earlier later one two.1 ∙ sym (reads_then files ((name, len) ∷ [])))) so_far one
    by f.NotBuilt one = made_then (AreReads files) (HasRead {T = S} (Err f.NotBuilt) name len) (HasReads {T = T} (Err f.NotBuilt) (files ++ (name, len) ∷ rest)) a b c (λ s now earlier later one two. two) so_far one
    by (f.Disk call) one = made_then (AreReads files) (HasRead {T = S} (Err (f.Disk call)) name len) (HasReads {T = T} (Err (f.Disk call)) (files ++ (name, len) ∷ rest)) a b c (λ s now earlier later one two. first earlier later one two) so_far one
    by f.NoMemory one = made_then (AreReads files) (HasRead {T = S} (Err f.NoMemory) name len) (HasReads {T = T} (Err f.NoMemory) (files ++ (name, len) ∷ rest)) a b c (λ s now earlier later one two. first earlier later one two) so_far one

-- no memory for what was read
pub reads_cut_off : (T : Type 0) (result : Result T LoadFault) (files rest all : List (FileName × ℕ)) (a b : Option Past) → result ≡ Err f.NoMemory → all ≡ files ++ rest → Makes (AreReads files) a b → Makes (HasReads result all) a b
reads_cut_off T result files rest all a b is split made =
    subst (λ (r : Result T LoadFault). Makes (HasReads r all) a b) (sym is)
    (made_weaker (AreReads files) (λ s. AreFirstCalls (reads all)) a b (λ s events are. subst (λ (l : List (FileName × ℕ)). AreFirstCalls (reads l) events) (sym split) (first_among files rest events (all_are_first (reads files) events are))) made)

-- two files of one id
two_share : (parts : List Part) (found : DirFault) → shared_id parts ≡ Some found → (id : ℕ) × (first : FileName) × (second : FileName) × (found ≡ TwoFiles id first second)
two_share [] found e = absurd (none-some found e)
two_share (p ∷ []) found e = absurd (none-some found e)
two_share (p ∷ q ∷ ps) found e = by (p.file.id == q.file.id) e (two_share (q ∷ ps) found) where
  by : (b : Bool) → cond b (Some (TwoFiles p.file.id p.file.name q.file.name)) (shared_id (q ∷ ps)) ≡ Some found → (shared_id (q ∷ ps) ≡ Some found → (id : ℕ) × (first : FileName) × (second : FileName) × (found ≡ TwoFiles id first second)) → (id : ℕ) × (first : FileName) × (second : FileName) × (found ≡ TwoFiles id first second)
  by true e rest = (p.file.id, p.file.name, q.file.name, sym (same_Some (TwoFiles p.file.id p.file.name q.file.name) found e))
  by false e rest = rest e

pub ids_failed : (S T : Type 0) (parts : List Part) (e : LoadFault) (result : Result T LoadFault) (files : List (FileName × ℕ)) (a b : Option Past) → result ≡ Err e → IsChecked {T = S} (shared_id parts) (Err e) → Makes (AreReads files) a b → Makes (HasReads result files) a b
ids_failed S T parts e result files a b is checked made = subst (λ (r : Result T LoadFault). Makes (HasReads r files) a b) (sym is) (by e checked) where
  by : (e : LoadFault) → IsChecked {T = S} (shared_id parts) (Err e) → Makes (HasReads {T = T} (Err e) files) a b
  by (f.Directory found) checked =
      let two = two_share parts found checked in
      let all : AreReadUntil found files (names_among files) = subst (λ (d : DirFault). AreReadUntil d files (names_among files)) (sym two.3) refl in
      made_weaker (AreReads files) (HasReads {T = T} (Err (f.Directory found)) files) a b (λ s events are. (names_among files, all, are)) made
  by f.NotBuilt checked = absurd checked
  by (f.Disk call) checked = absurd checked
  by f.NoMemory checked = made_weaker (AreReads files) (λ s. AreFirstCalls (reads files)) a b (λ s. all_are_first (reads files)) made

-- ---- the whole load

pub load_unlisted : (S T : Type 0) (e : LoadFault) (result : Result T LoadFault) (a b : Option Past) → result ≡ Err e → Makes (HasListCall {T = S} (Err e)) a b → Makes (HasLoadCalls result) a b
load_unlisted S T e result a b is made = subst (λ (r : Result T LoadFault). Makes (HasLoadCalls r) a b) (sym is) (by e made) where
  by : (e : LoadFault) → Makes (HasListCall {T = S} (Err e)) a b → Makes (HasLoadCalls {T = T} (Err e)) a b
  by (f.Directory found) made = made_weaker (HasListCall {T = S} (Err (f.Directory found))) (HasLoadCalls {T = T} (Err (f.Directory found))) a b (λ s events h. absurd h) made
  by f.NotBuilt made = made
  by (f.Disk call) made = made_weaker (λ s. AreFirstCalls (listing ∷ [])) (λ s. AreFirstCalls (load_calls s)) a b (λ s events first. first_more (listing ∷ []) (reads (listed s)) events first) made
  by f.NoMemory made = made_weaker (λ s. AreFirstCalls (listing ∷ [])) (λ s. AreFirstCalls (load_calls s)) a b (λ s events first. first_more (listing ∷ []) (reads (listed s)) events first) made

-- the list, and then other calls, of the directory that it tells
after_list : (infos : List FileInfo) (a b c : Option Past) (Q R : Files → List Event → Type 0) → Told a (IsListed infos) → Makes (λ s. AreCalls (listing ∷ [])) a b → Makes Q b c
    → ((s now : Files) (earlier later : List Event) → sizes infos ≡ listed s → AreCalls (listing ∷ []) earlier → Q now later → R s (later ++ earlier)) → Makes R a c
after_list infos a b c Q R told one two both =
    made_then (λ s events. (sizes infos ≡ listed s) × AreCalls (listing ∷ []) events) Q R a b c (λ s now earlier later x y. both s now earlier later x.0 x.1 y)
    (made_so (λ s. AreCalls (listing ∷ [])) (λ s events. (sizes infos ≡ listed s) × AreCalls (listing ∷ []) events) (IsListed infos) a b (λ s events is are. (is, are)) told one) two

pub load_failed : (S T : Type 0) (infos : List FileInfo) (e : LoadFault) (result : Result T LoadFault) (a b c : Option Past) → result ≡ Err e → Told a (IsListed infos) → Makes (λ s. AreCalls (listing ∷ [])) a b → Makes (HasReads {T = S} (Err e) (sizes infos)) b c → Makes (HasLoadCalls result) a c
load_failed S T infos e result a b c is told one two = subst (λ (r : Result T LoadFault). Makes (HasLoadCalls r) a c) (sym is) (by e two) where
  first : (s : Files) (earlier later : List Event) → sizes infos ≡ listed s → AreCalls (listing ∷ []) earlier → AreFirstCalls (reads (sizes infos)) later → AreFirstCalls (load_calls s) (later ++ earlier)
  first s earlier later is one two = subst (λ (l : List (FileName × ℕ)). AreFirstCalls (listing ∷ reads l) (later ++ earlier)) is (first_then (listing ∷ []) (reads (sizes infos)) earlier later one two)

  by : (e : LoadFault) → Makes (HasReads {T = S} (Err e) (sizes infos)) b c → Makes (HasLoadCalls {T = T} (Err e)) a c
  by (f.Directory found) two = after_list infos a b c (HasReads {T = S} (Err (f.Directory found)) (sizes infos)) (HasLoadCalls {T = T} (Err (f.Directory found))) told one two
      (λ s now earlier later is one two. (two.0, subst (λ (l : List (FileName × ℕ)). AreReadUntil found l two.0) is two.1, all_then (listing ∷ []) (map reading two.0) earlier later one two.2))
  by f.NotBuilt two = after_list infos a b c (HasReads {T = S} (Err f.NotBuilt) (sizes infos)) (HasLoadCalls {T = T} (Err f.NotBuilt)) told one two (λ s now earlier later is one two. absurd two)
  by (f.Disk call) two = after_list infos a b c (HasReads {T = S} (Err (f.Disk call)) (sizes infos)) (HasLoadCalls {T = T} (Err (f.Disk call))) told one two (λ s now earlier later is one two. first s earlier later is one two)
  by f.NoMemory two = after_list infos a b c (HasReads {T = S} (Err f.NoMemory) (sizes infos)) (HasLoadCalls {T = T} (Err f.NoMemory)) told one two (λ s now earlier later is one two. first s earlier later is one two)

-- all files were read
pub load_done : (infos : List FileInfo) (a b c : Option Past) → Told a (IsListed infos) → Makes (λ s. AreCalls (listing ∷ [])) a b → Makes (AreReads (sizes infos)) b c → Makes (λ s. AreCalls (load_calls s)) a c
load_done infos a b c told one two =
    after_list infos a b c (AreReads (sizes infos)) (λ s. AreCalls (load_calls s)) told one two
    (λ s now earlier later is one two. all_then (listing ∷ []) (reads (sizes infos)) earlier later one two ∙ ap (λ (l : List (FileName × ℕ)). listing ∷ reads l) is)

pub load_cut_off : (T : Type 0) (infos : List FileInfo) (result : Result T LoadFault) (a b c : Option Past) → result ≡ Err f.NoMemory → Told a (IsListed infos) → Makes (λ s. AreCalls (listing ∷ [])) a b → Makes (AreReads (sizes infos)) b c → Makes (HasLoadCalls result) a c
load_cut_off T infos result a b c is told one two =
    subst (λ (r : Result T LoadFault). Makes (HasLoadCalls r) a c) (sym is) (made_weaker (λ s. AreCalls (load_calls s)) (λ s. AreFirstCalls (load_calls s)) a c (λ s. all_are_first (load_calls s)) (load_done infos a b c told one two))

-- ---- one call for each of a list

pub calls_more : {X : Type 0} (call : X → Call) (xs : List X) (i : ℕ) (x : X) (a b c : Option Past) (made : Call) → made ≡ call x → i < length xs → x ≡ get_or xs i x → Makes (λ s. AreCalls (map call (take i xs))) a b → c ≡ option_map (noted made fine) b → Makes (λ s. AreCalls (map call (take (i + 1) xs))) a c
calls_more call xs i x a b c made is lt here so_far notes =
    made_then (λ s. AreCalls (map call (take i xs))) (λ s. AreCalls (made ∷ [])) (λ s. AreCalls (map call (take (i + 1) xs))) a b c
    (λ s now earlier later one two. all_then (map call (take i xs)) (made ∷ []) earlier later one two ∙ ap (λ (c : Call). map call (take i xs) ++ c ∷ []) (is ∙ ap call here) ∙ sym (map_more call xs i x lt)) so_far (call_done made b c notes)

pub calls_failed : {X : Type 0} (S T : Type 0) (call : X → Call) (xs : List X) (i : ℕ) (x : X) (a b c : Option Past) (made : Call) (fault : DiskFault) (result : Result T DiskFault) → result ≡ Err fault → made ≡ call x → i < length xs → x ≡ get_or xs i x
    → Makes (λ s. AreCalls (map call (take i xs))) a b → Notes {T = S} made (as_error (Err fault)) b c → Makes (λ s. AreCallsBy result (map call xs)) a c
calls_failed S T call xs i x a b c made fault result failed is lt here so_far notes =
    subst (λ (r : Result T DiskFault). Makes (λ s. AreCallsBy r (map call xs)) a c) (sym failed)
    (made_then (λ s. AreCalls (map call (take i xs))) (λ s. AreFirstCalls (made ∷ [])) (λ s. AreFirstCalls (map call xs)) a b c
    (λ s now earlier later one two. subst (λ (c : List Call). AreFirstCalls c (later ++ earlier)) (whole) (first_more (map call (take i xs) ++ made ∷ []) (map call (drop (i + 1) xs)) (later ++ earlier) (first_then (map call (take i xs)) (made ∷ []) earlier later one two))) so_far (call_failed S made fault b c notes))
  where
    whole : (map call (take i xs) ++ made ∷ []) ++ map call (drop (i + 1) xs) ≡ map call xs
    whole =
        append_assoc (map call (take i xs)) (made ∷ []) (map call (drop (i + 1) xs))
        ∙ ap (λ (c : Call). map call (take i xs) ++ c ∷ map call (drop (i + 1) xs)) (is ∙ ap call here)
        ∙ ap (λ (l : List _). map call (take i xs) ++ map call l) (sym (drop_more xs i x lt))
        ∙ sym (map-append call (take i xs) (drop i xs)) ∙ ap (map call) (take-append-drop i xs)

pub calls_done : {X : Type 0} (call : X → Call) (xs : List X) (i : ℕ) (a b : Option Past) → length xs ≤ i → Makes (λ s. AreCalls (map call (take i xs))) a b → Makes (λ s. AreCalls (map call xs)) a b
calls_done call xs i a b done made = subst (λ (l : List _). Makes (λ s. AreCalls (map call l)) a b) (take_all i xs done) made

pub no_calls : {X : Type 0} (call : X → Call) (past : Option Past) → Makes (λ s. AreCalls (map call [])) past past
no_calls call past = made_none (λ s. AreCalls (map call [])) past (λ s. refl)

-- ---- whatever it answers

-- a load makes the first of the calls of a whole one
pub load_begins : {T : Type 0} (result : Result T LoadFault) (s : Files) (events : List Event) → HasLoadCalls result s events → AreFirstCalls (load_calls s) events
load_begins (Ok x) s events are = all_are_first (load_calls s) events are
load_begins (Err f.NotBuilt) s events are = first_more (listing ∷ []) (reads (listed s)) events (all_are_first (listing ∷ []) events are)
load_begins (Err (f.Disk call)) s events are = are
load_begins (Err f.NoMemory) s events are = are
load_begins (Err (f.Directory found)) s events are = by found are.1 where
  up_to : (last : FileName) → AreUpTo last (listed s) are.0 → AreFirstCalls (load_calls s) events
  up_to last u =
      let front : List (FileName × ℕ) = u.before ++ (last, u.len) ∷ [] in
      let made : AreCalls (listing ∷ reads front) events = are.2 ∙ ap (λ (names : List FileName). listing ∷ map reading names) u.are in
      let whole : reads front ++ reads u.behind ≡ reads (listed s) = sym (reads_then front u.behind) ∙ ap reads (one_before u.before u.behind (last, u.len) ∙ sym u.split) in
      subst (λ (calls : List Call). AreFirstCalls (listing ∷ calls) events) whole (first_more (listing ∷ reads front) (reads u.behind) events (all_are_first (listing ∷ reads front) events made))

  by : (found : DirFault) → AreReadUntil found (listed s) are.0 → AreFirstCalls (load_calls s) events
  by (TooLong n l) u = up_to n u
  by (Version n v) u = up_to n u
  by (UserVersion n v w) u = up_to n u
  by (TwoFiles id a b) all = all_are_first (load_calls s) events (are.2 ∙ ap (λ (names : List FileName). listing ∷ map reading names) all)
