-- Files that a crash leaves of entries, and the directory that they make.
use Rattle.std.proofs.Common.{◌≡◌, ℕ, ◌+◌, ◌<◌, Bool, true, false, cond, List, [], ◌∷◌, ◌++◌, length, get_or, take, Option, None, Some, refl, sym, ◌∙◌, ap, subst, arith, Vec, Global}
use Rattle.std.proofs.lemmas.List.{take_more}
use Rattle.std.specs.Ordering.{eq_by_cmp, nat_cmp}
use Rattle.std.specs.Cmp.Lexicographic.{slice_cmp}
use Rattle.std.proofs.lemmas.Cmp.{nat_list_cmp_total}
use Rattle.std.specs.FinMap as map
use Rattle.std.specs.Prelude.{map as map_of, option_map, Result, Ok, Err, IfOk}
use Rattle.amq_model.specs.Files.{FileName, File, Files, IsFileImage}
use Rattle.amq_model.proofs.Keeping.{content_reads}
use Rattle.amq_model.proofs.Moments.{reads_now}
use Rattle.amq_io.specs.declared.entries.Entry.{Entry}
use Rattle.amq_io.specs.declared.pick.Pick.{Pick}
use Rattle.amq_io.specs.Synced.{durable}
use Rattle.amq_io.specs.Entries.{files_of, synced_of, durable_pair}
use Rattle.amq_io.specs.MemoryDisk.{Memory, from_pairs, content_of, last_synced_of, IsFresh, MayBeLeft}
use Rattle.amq_io.proofs.Starting.{fresh_content}
use Rattle.amq_io.specs.Torn.{IsTornBy, IsTornFile, IsLeftOf}
use Rattle.amq_io.specs.Left.{AreTorn}

abbrev pub Given : Type 0
Given = FileName × Vec ℕ Global

module _ (pick : Pick) where
  torn_push : (os : List Entry) (ns : List Given) (o : Entry) (n : Given) → AreTorn pick os ns → n.0 ≡ o.name → IsTornBy pick o.file.read o.file.synced n.1.items → AreTorn pick (os ++ o ∷ []) (ns ++ n ∷ [])
  torn_push [] [] o n are named is = (named, is, tt)
  torn_push [] (m ∷ ns) o n are named is = absurd are
  torn_push (p ∷ os) [] o n are named is = absurd are
  torn_push (p ∷ os) (m ∷ ns) o n are named is = (are.0, are.1, torn_push os ns o n are.2 named is)

  pub torn_more : (es : List Entry) (ns : List Given) (i : ℕ) (e : Entry) (n : Given) → i < length es → e ≡ get_or es i e → AreTorn pick (take i es) ns → n.0 ≡ e.name → IsTornBy pick e.file.read e.file.synced n.1.items
      → AreTorn pick (take (i + 1) es) (ns ++ n ∷ [])
  torn_more es ns i e n lt is are named torn =
      let P : List Entry → Type 0 = λ l. AreTorn pick l (ns ++ n ∷ []) in
      let more : take (i + 1) es ≡ take i es ++ e ∷ [] = take_more es i e lt ∙ ap (λ (e : Entry). take i es ++ e ∷ []) (sym is) in
      subst P (sym more) (torn_push (take i es) ns e n are named torn)

  -- a choice between two files, each of which is left of the other's
  chosen : (b : Bool) (o s n : File) (os ss ns : Option File) → IsTornFile pick (Some o) (Some s) (Some n) → IsTornFile pick os ss ns → IsTornFile pick (cond b (Some o) os) (cond b (Some s) ss) (cond b (Some n) ns)
  chosen true o s n os ss ns one rest = one
  chosen false o s n os ss ns one rest = rest

  pub left_of : (es : List Entry) (ns : List Given) → AreTorn pick es ns → IsLeftOf pick (files_of es) (synced_of es) (from_pairs (map_of (λ f. durable_pair f.0 f.1.items) ns))
  left_of [] [] are q =
      let P : Option File → Type 0 = λ f. IsTornFile pick f f f in
      subst P (sym (map.get-empty (slice_cmp nat_cmp) q)) tt
  left_of [] (n ∷ ns) are q = absurd are
  left_of (e ∷ es) [] are q = absurd are
  left_of (e ∷ es) (n ∷ ns) are q =
      let rest : Files = from_pairs (map_of (λ f. durable_pair f.0 f.1.items) ns) in
      let here : Bool = eq_by_cmp (slice_cmp nat_cmp) q e.name in
      let old = map.get-insert nat_list_cmp_total (files_of es) e.name e.file.read q in
      let synced = map.get-insert nat_list_cmp_total (synced_of es) e.name (durable e.file.synced) q in
      let new =
      map.get-insert nat_list_cmp_total rest n.0 (durable n.1.items) q
      ∙ ap (λ k. cond (eq_by_cmp (slice_cmp nat_cmp) q k) (Some (durable n.1.items)) (map.get rest q)) are.0 in
      let all = chosen here e.file.read (durable e.file.synced) (durable n.1.items) (map.get (files_of es) q) (map.get (synced_of es) q) (map.get rest q) (are.1, refl) (left_of es ns are.2 q) in
      let P : Option File → Type 0 = λ f. IsTornFile pick f (map.get (synced_of (e ∷ es)) q) (map.get (map.insert rest n.0 (durable n.1.items)) q) in
      let Q : Option File → Type 0 = λ f. IsTornFile pick (cond here (Some e.file.read) (map.get (files_of es) q)) f (map.get (map.insert rest n.0 (durable n.1.items)) q) in
      let R : Option File → Type 0 = λ f. IsTornFile pick (cond here (Some e.file.read) (map.get (files_of es) q)) (cond here (Some (durable e.file.synced)) (map.get (synced_of es) q)) f in
      subst P (sym old) (subst Q (sym synced) (subst R (sym new) all))

  -- what is left of a file is one of its images
  one_image : (old synced new : Option File) → IsTornFile pick old synced new → IsFileImage old (option_map (λ f. f.bytes) new)
  one_image None synced None torn = tt
  one_image None synced (Some new) torn = absurd torn
  one_image (Some old) synced None torn = absurd torn
  one_image (Some old) synced (Some new) torn = torn.0.torn

  pub may_be_left : (old new : Memory) → IsLeftOf pick (content_of old) (last_synced_of old) (content_of new) → MayBeLeft old new
  may_be_left old new left reading image reads is = (
    content_of old,
    reads_now (from_pairs old.start) old.calls old.moment old.moment (content_of old) (omega arith) (content_reads (from_pairs old.start) old.calls),
    reads,
    λ n. let P : Option (List ℕ) → Type 0 = λ o. IsFileImage (map.get (content_of old) n) o in
        subst P (sym (is n)) (one_image (map.get (content_of old) n) (map.get (last_synced_of old) n) (map.get (content_of new) n) (left n)),
  )

  pub left_started : {E : Type 0} (r : Result Memory E) (old : Memory) (es : List Entry) (ns : List Given) → files_of es ≡ content_of old → synced_of es ≡ last_synced_of old → AreTorn pick es ns
      → IfOk r IsFresh → IfOk r (λ d. d.start ≡ map_of (λ f. durable_pair f.0 f.1.items) ns) → IfOk r (λ d. IsLeftOf pick (content_of old) (last_synced_of old) (content_of d))
  left_started (Ok d) old es ns reads syncs are fresh start =
      let P : Files → Type 0 = λ s. IsLeftOf pick s (last_synced_of old) (content_of d) in
      let Q : Files → Type 0 = λ s. IsLeftOf pick (files_of es) s (content_of d) in
      let R : Files → Type 0 = λ s. IsLeftOf pick (files_of es) (synced_of es) s in
      subst P reads (subst Q syncs (subst R (sym (fresh_content d _ fresh.calls start)) (left_of es ns are)))
  left_started (Err e) old es ns reads syncs are fresh start = tt

  pub may_be_started : {E : Type 0} (r : Result Memory E) (old : Memory) → IfOk r (λ d. IsLeftOf pick (content_of old) (last_synced_of old) (content_of d)) → IfOk r (MayBeLeft old)
  may_be_started (Ok d) old left = may_be_left old d left
  may_be_started (Err e) old left = tt
