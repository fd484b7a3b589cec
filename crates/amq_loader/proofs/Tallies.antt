-- What a loop over parts or names has taken in.
use Rattle.std.proofs.Common.{◌≡◌, ℕ, zero, suc, ◌+◌, ◌-◌, ◌<◌, ◌≤◌, Bool, true, false, cond, eqb, List, [], ◌∷◌, ◌++◌, length, take, drop, get_or, map, Option, None, Some, refl, sym, ap, ◌∙◌, append_assoc, arith}
use Rattle.std.specs.Prelude.{max, fold, filter, unwrap_or}
use Rattle.std.specs.List.{filter_map, cons_option}
use Rattle.std.proofs.lemmas.List.{map-append, append-nil, map_more, drop_more}
use Rattle.std.proofs.lemmas.List.Elements.{filter_map-append, filter-append}
use Rattle.std.proofs.lemmas.List.Sums.{fold-append}
use Rattle.amq_model.specs.declared.record.Placed.{Placed}
use Rattle.amq_model.specs.declared.directory.DataFile.{DataFile}
use Rattle.amq_model.specs.declared.directory.DirFault.TheVariants.{TwoFiles}
use Rattle.amq_model.specs.Directory.{placed}
use Rattle.amq_record.specs.declared.spot.Spot as code
use Rattle.amq_record.specs.Refs.{spot_of}
use Rattle.amq_state.specs.Fed.{placed_of}
use Rattle.amq_loader.specs.declared.part.Part.{Part}
use Rattle.amq_loader.specs.Parts.{all_records, shared_id}

pub greatest_more : (ps : List Part) (i : ℕ) (p : Part) (old new : ℕ) → i < length ps → p ≡ get_or ps i p → old ≡ fold max 0 (map (λ p. p.file.id) (take i ps)) → new ≡ max old p.file.id → new ≡ fold max 0 (map (λ p. p.file.id) (take (i + 1) ps))
greatest_more ps i p old new lt here before now =
    now ∙ ap (λ (n : ℕ). max n p.file.id) before ∙ sym (fold-append max 0 (map (λ (p : Part). p.file.id) (take i ps)) (p.file.id ∷ []))
    ∙ ap (λ (q : Part). fold max 0 (map (λ (p : Part). p.file.id) (take i ps) ++ q.file.id ∷ [])) here
    ∙ ap (fold max 0) (sym (map_more (λ (p : Part). p.file.id) ps i p lt))

-- the N of one name more
pub number_more : {X : Type 0} (name : X → List ℕ) (number : List ℕ → Option ℕ) (xs : List X) (i : ℕ) (x : X) (ids : List ℕ) (old new : ℕ) → i < length xs → x ≡ get_or xs i x
    → old ≡ fold max 0 (ids ++ filter_map number (map name (take i xs))) → new ≡ max old (unwrap_or (number (name x)) 0) → new ≡ fold max 0 (ids ++ filter_map number (map name (take (i + 1) xs)))
number_more {X = X} name number xs i x ids old new lt here before now =
    now ∙ ap (λ (n : ℕ). max n (unwrap_or (number (name x)) 0)) before
    ∙ by (number (name x))
    ∙ sym (fold-append max 0 (ids ++ filter_map number (map name (take i xs))) (filter_map number (name x ∷ [])))
    ∙ ap (fold max 0) (append_assoc ids (filter_map number (map name (take i xs))) (filter_map number (name x ∷ [])))
    ∙ ap (λ (ns : List ℕ). fold max 0 (ids ++ ns)) (sym (filter_map-append number (map name (take i xs)) (name x ∷ [])))
    ∙ ap (λ (y : X). fold max 0 (ids ++ filter_map number (map name (take i xs) ++ name y ∷ []))) here
    ∙ ap (λ (ns : List (List ℕ)). fold max 0 (ids ++ filter_map number ns)) (sym (map_more name xs i x lt))
  where
    by : (o : Option ℕ) → max (fold max 0 (ids ++ filter_map number (map name (take i xs)))) (unwrap_or o 0) ≡ fold max (fold max 0 (ids ++ filter_map number (map name (take i xs)))) (cons_option o [])
    by None = omega arith
    by (Some n) = refl

-- one name more, if it is kept
pub kept_more : {X : Type 0} (name : X → List ℕ) (test : List ℕ → Bool) (xs : List X) (i : ℕ) (x : X) (old new : List (List ℕ)) → i < length xs → x ≡ get_or xs i x
    → old ≡ filter test (map name (take i xs)) → new ≡ old ++ filter test (name x ∷ []) → new ≡ filter test (map name (take (i + 1) xs))
kept_more {X = X} name test xs i x old new lt here before now =
    now ∙ ap (λ (l : List (List ℕ)). l ++ filter test (name x ∷ [])) before
    ∙ sym (filter-append test (map name (take i xs)) (name x ∷ []))
    ∙ ap (λ (y : X). filter test (map name (take i xs) ++ name y ∷ [])) here
    ∙ ap (filter test) (sym (map_more name xs i x lt))

-- ---- parts

pub records_more : (ps : List Part) (p : Part) → all_records (ps ++ p ∷ []) ≡ all_records ps ++ p.records
records_more [] p = append-nil p.records
records_more (q ∷ ps) p = ap (λ (l : List Placed). q.records ++ l) (records_more ps p) ∙ sym (append_assoc q.records (all_records ps) p.records)

pub joined_more : (ps : List Part) (p : Part) (old new : List Placed) → old ≡ all_records ps → new ≡ old ++ p.records → new ≡ all_records (ps ++ p ∷ [])
joined_more ps p old new before now = now ∙ ap (λ (l : List Placed). l ++ p.records) before ∙ sym (records_more ps p)

pub files_more : (ps : List Part) (p : Part) (old new : List DataFile) → old ≡ map (λ p. p.file) ps → new ≡ old ++ p.file ∷ [] → new ≡ map (λ p. p.file) (ps ++ p ∷ [])
files_more ps p old new before now = now ∙ ap (λ (l : List DataFile). l ++ p.file ∷ []) before ∙ sym (map-append (λ (p : Part). p.file) ps (p ∷ []))

shared_two : (ps : List Part) (j i : ℕ) (p q : Part) → i ≡ j + 1 → i < length ps → p ≡ get_or ps j p → q ≡ get_or ps i q → shared_id (drop j ps) ≡ cond (eqb p.file.id q.file.id) (Some (TwoFiles p.file.id p.file.name q.file.name)) (shared_id (drop i ps))
shared_two ps j i p q is lt first second =
    let one : drop j ps ≡ p ∷ drop (j + 1) ps = drop_more ps j p (omega (arith, is, lt)) ∙ ap (λ (x : Part). x ∷ drop (j + 1) ps) (sym first) in
    let two : drop i ps ≡ q ∷ drop (i + 1) ps = drop_more ps i q lt ∙ ap (λ (x : Part). x ∷ drop (i + 1) ps) (sym second) in
    let one : drop j ps ≡ p ∷ drop i ps = one ∙ ap (λ (n : ℕ). p ∷ drop n ps) (sym is) in
    ap shared_id one ∙ ap (λ (l : List Part). shared_id (p ∷ l)) two
    ∙ ap (λ (l : List Part). cond (eqb p.file.id q.file.id) (Some (TwoFiles p.file.id p.file.name q.file.name)) (shared_id l)) (sym two)

pub shared_here : (ps : List Part) (i : ℕ) (p q : Part) → 1 ≤ i → i < length ps → p ≡ get_or ps (i - 1) p → q ≡ get_or ps i q → eqb p.file.id q.file.id ≡ true → shared_id ps ≡ shared_id (drop (i - 1) ps) → shared_id ps ≡ Some (TwoFiles p.file.id p.file.name q.file.name)
shared_here ps i p q some lt first second same before =
    before ∙ shared_two ps (i - 1) i p q (omega (arith, some)) lt first second
    ∙ ap (λ (b : Bool). cond b (Some (TwoFiles p.file.id p.file.name q.file.name)) (shared_id (drop i ps))) same

pub shared_later : (ps : List Part) (i j : ℕ) (p q : Part) → 1 ≤ i → i ≡ j → i < length ps → p ≡ get_or ps (i - 1) p → q ≡ get_or ps i q → eqb p.file.id q.file.id ≡ false → shared_id ps ≡ shared_id (drop (i - 1) ps) → shared_id ps ≡ shared_id (drop j ps)
shared_later ps i j p q some is lt first second other before =
    before ∙ shared_two ps (i - 1) i p q (omega (arith, some)) lt first second
    ∙ ap (λ (b : Bool). cond b (Some (TwoFiles p.file.id p.file.name q.file.name)) (shared_id (drop i ps))) other
    ∙ ap (λ (n : ℕ). shared_id (drop n ps)) is

last_alone : (ps : List Part) → length ps ≤ 1 → shared_id ps ≡ None
last_alone [] few = refl
last_alone (p ∷ []) few = refl
last_alone (p ∷ q ∷ ps) few = absurd (omega (arith, few))

drop_few : (n : ℕ) (ps : List Part) → length ps ≤ n + 1 → length (drop n ps) ≤ 1
drop_few zero ps few = omega (arith, few)
drop_few (suc n) [] few = omega arith
drop_few (suc n) (p ∷ ps) few = drop_few n ps (omega (arith, few))

pub shared_last : (ps : List Part) (i : ℕ) → length ps ≤ i → shared_id ps ≡ shared_id (drop (i - 1) ps) → shared_id ps ≡ None
shared_last ps i all before = before ∙ last_alone (drop (i - 1) ps) (drop_few (i - 1) ps (omega (arith, all)))

-- ---- spots

pub spots_placed : (id : ℕ) (items : List code.Spot) → map (placed_of id) items ≡ map (placed id) (map spot_of items)
spots_placed id [] = refl
spots_placed id (s ∷ ss) = ap (λ (ps : List Placed). placed id (spot_of s) ∷ ps) (spots_placed id ss)
