-- A list of names in their order, and the map that it is the list of.
use Rattle.std.proofs.Common.{◌≡◌, ℕ, zero, suc, ◌-◌, ◌<◌, ◌≤◌, true, false, List, [], ◌∷◌, length, get_or, take, drop, refl, sym, ◌∙◌, ap, arith}
use Rattle.std.specs.Prelude.{map as map_of, insert}
use Rattle.std.proofs.Math.ListN.{set}
use Rattle.std.proofs.lemmas.List.{take_all}
use Rattle.std.specs.Ordering.{nat_cmp}
use Rattle.std.specs.declared.cmp.Ordering.{Ordering}
use Rattle.std.specs.declared.cmp.Ordering.TheVariants.{Less, Equal, Greater}
use Rattle.std.specs.Cmp.Lexicographic.{slice_cmp}
use Rattle.std.proofs.lemmas.Cmp.{nat_list_cmp_total}
use Rattle.std.specs.FinMap as map
use Rattle.amq_model.specs.Files.{FileName, File}
use Rattle.amq_io.specs.declared.entries.Entry.{Entry}
use Rattle.amq_io.specs.declared.disk.FileInfo.{FileInfo}
use Rattle.amq_io.specs.Entries.{files_of}
use Rattle.amq_io.specs.Listing.{listed_of, info_of, IsPlace}

abbrev Put : FileName → ℕ → List (FileName × ℕ) → List (FileName × ℕ)
Put = map.put (slice_cmp nat_cmp)

pub put_found : (n : FileName) (len : ℕ) (es : List FileInfo) (i : ℕ) (d new : FileInfo) → IsPlace n es i true → d ≡ get_or es i d → new.name ≡ d.name → new.len ≡ len
    → map_of listed_of (set es i new) ≡ map.put (slice_cmp nat_cmp) n len (map_of listed_of es)
put_found n len [] i d new place is named long = let t : true ≡ false = place.1 in cc
put_found n len (e ∷ es) zero d new place is named long =
    let key : new.name ≡ e.name = named ∙ ap (λ (e : FileInfo). e.name) is in
    let head : listed_of new ≡ (e.name, len) = ap (λ (k : List ℕ). (k, new.len)) key ∙ ap (λ (l : ℕ). (e.name, l)) long in
    rw place (ap (λ (p : FileName × ℕ). p ∷ map_of listed_of es) head)
put_found n len (e ∷ es) (suc i) d new place is named long =
    rw place.0 (ap (λ (l : List (FileName × ℕ)). listed_of e ∷ l) (put_found n len es i d new place.1 is named long))

pub put_new : (n : FileName) (es : List FileInfo) (i : ℕ) (new : FileInfo) → IsPlace n es i false → new.name ≡ n → map_of listed_of (insert es i new) ≡ map.put (slice_cmp nat_cmp) n new.len (map_of listed_of es)
put_new n [] zero new place named = ap (λ (k : List ℕ). (k, new.len) ∷ []) named
put_new n [] (suc i) new place named = absurd (omega (arith, place.0))
put_new n (e ∷ es) zero new place named = rw place (ap (λ (k : List ℕ). (k, new.len) ∷ listed_of e ∷ map_of listed_of es) named)
put_new n (e ∷ es) (suc i) new place named = rw place.0 (ap (λ (l : List (FileName × ℕ)). listed_of e ∷ l) (put_new n es i new place.1 named))

map-put_at : (n : FileName) (f : File) (x : FileName × File) (xs : List (FileName × File)) → map_of info_of (map.put (slice_cmp nat_cmp) n f xs) ≡ map.put (slice_cmp nat_cmp) n (length f.bytes) (map_of info_of xs)
    → (r : Ordering) → slice_cmp nat_cmp n x.0 ≡ r → map_of info_of (map.put (slice_cmp nat_cmp) n f (x ∷ xs)) ≡ map.put (slice_cmp nat_cmp) n (length f.bytes) (map_of info_of (x ∷ xs))
map-put_at n f x xs rest Less e = rw e refl
map-put_at n f x xs rest Equal e = rw e refl
map-put_at n f x xs rest Greater e = rw e (ap (λ (l : List (FileName × ℕ)). info_of x ∷ l) rest)

map-put : (n : FileName) (f : File) (xs : List (FileName × File)) → map_of info_of (map.put (slice_cmp nat_cmp) n f xs) ≡ map.put (slice_cmp nat_cmp) n (length f.bytes) (map_of info_of xs)
map-put n f [] = refl
map-put n f (x ∷ xs) = map-put_at n f x xs (map-put n f xs) (slice_cmp nat_cmp n x.0) refl

nothing : {X : Type 0} (xs : List X) → length xs ≡ 0 → xs ≡ []
nothing [] e = refl
nothing (x ∷ xs) e = absurd (omega (arith, e))

pub list_none : (files : List Entry) (infos : List FileInfo) → length files < 1 → infos ≡ [] → map_of listed_of infos ≡ map_of info_of (map.entries (files_of files))
list_none [] infos few none =
    ap (map_of listed_of) none ∙ ap (map_of info_of) (sym (nothing (map.entries (files_of [])) (sym (map.len-entries (files_of [])) ∙ map.len-empty (slice_cmp nat_cmp) File)))
list_none (e ∷ es) infos few none = absurd (omega (arith, few))

pub list_more : (files : List Entry) (e : Entry) (old new : List FileInfo) (info : FileInfo) → 1 ≤ length files → e ≡ get_or files 0 e → map_of listed_of old ≡ map_of info_of (map.entries (files_of (take (length files - 1) (drop 1 files))))
    → info.name ≡ e.name → info.len ≡ length e.file.read.bytes → map_of listed_of new ≡ map.put (slice_cmp nat_cmp) info.name info.len (map_of listed_of old)
    → map_of listed_of new ≡ map_of info_of (map.entries (files_of files))
list_more [] e old new info some is was named long put = absurd (omega (arith, some))
list_more (e' ∷ es) e old new info some is was named long put =
    let rest : take (length (e' ∷ es) - 1) (drop 1 (e' ∷ es)) ≡ es = take_all (length (e' ∷ es) - 1) es (omega arith) in
    put
    ∙ ap (λ (k : List ℕ). Put k info.len (map_of listed_of old)) (named ∙ ap (λ (e : Entry). e.name) is)
    ∙ ap (λ (l : ℕ). Put e'.name l (map_of listed_of old)) (long ∙ ap (λ (e : Entry). length e.file.read.bytes) is)
    ∙ ap (λ (l : List (FileName × ℕ)). Put e'.name (length e'.file.read.bytes) l) (was ∙ ap (λ (l : List Entry). map_of info_of (map.entries (files_of l))) rest)
    ∙ sym (map-put e'.name e'.file.read (map.entries (files_of es)))
    ∙ ap (map_of info_of) (sym (map.entries-insert nat_list_cmp_total (files_of es) e'.name e'.file.read))
