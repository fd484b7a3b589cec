-- A reading where later calls settle something is one where they settle less.
use Rattle.std.proofs.Common.{◌≡◌, zero, suc, Bool, true, false, cond, not, Option, None, Some, List, [], ◌∷◌, map, refl, sym, ap, subst, ◌∙◌, arith}
use Rattle.std.specs.Prelude.{Contains, filter}
use Rattle.std.specs.FinMap as finite
use Rattle.amq_model.specs.Names.{same}
use Rattle.amq_model.specs.Files.{FileName, File, Files}
use Rattle.amq_model.specs.Calls.{Call, Part, Outcome, undone, whole, short, absent, fine, no_room, broken, listing, reading, creating, writing, syncing, renaming, removing, Event, content}
use Rattle.amq_model.specs.Crash.{name_before, other_names, names_before, synced_since, Settling, listed_since, settled_since, MayHaveDone, Next, ReadsBefore, nothing_since, Reads}

-- each name of the first list is in the second
abbrev pub AreAmong : List FileName → List FileName → Type 0
AreAmong names more = (n : FileName) → Contains names n → Contains more n

among_cons : (names more : List FileName) (x : FileName) → AreAmong names more → AreAmong (x ∷ names) (x ∷ more)
among_cons names more x among n (zero, lt, is) = (zero, omega arith, is)
among_cons names more x among n (suc k, lt, is) = let there = among n (k, omega (arith, lt), is) in (suc there.0, omega (arith, there.1), there.2)

mapped : (f : FileName → FileName) (names : List FileName) (n : FileName) → Contains (map f names) n → (m : FileName) × Contains names m × (f m ≡ n)
mapped f [] n (k, lt, is) = absurd (omega (arith, lt))
mapped f (x ∷ xs) n (zero, lt, is) = (x, (zero, omega arith, refl), is)
mapped f (x ∷ xs) n (suc k, lt, is) = let from = mapped f xs n (k, omega (arith, lt), is) in (from.0, (suc from.1.0, omega (arith, from.1.1), from.1.2), from.2)

pub into_mapped : (f : FileName → FileName) (names : List FileName) (m n : FileName) → Contains names m → f m ≡ n → Contains (map f names) n
into_mapped f [] m n (k, lt, is) same = absurd (omega (arith, lt))
into_mapped f (x ∷ xs) m n (zero, lt, is) same = (zero, omega arith, cc)
into_mapped f (x ∷ xs) m n (suc k, lt, is) same = let there = into_mapped f xs m n (k, omega (arith, lt), is) same in (suc there.0, omega (arith, there.1), there.2)

among_mapped : (f : FileName → FileName) (names more : List FileName) → AreAmong names more → AreAmong (map f names) (map f more)
among_mapped f names more among n there = let from = mapped f names n there in into_mapped f more from.0 n (among from.0 from.1) from.2

-- what passes a test in the first list passes it in the second
kept : (t : FileName → Bool) (names : List FileName) (n : FileName) → Contains (filter t names) n → Contains names n × (t n ≡ true)
kept t [] n (k, lt, is) = absurd (omega (arith, lt))
kept t (x ∷ xs) n there = by (kept t xs n) (t x) refl there where
  by : (Contains (filter t xs) n → Contains xs n × (t n ≡ true)) → (b : Bool) → t x ≡ b → Contains (cond b (x ∷ filter t xs) (filter t xs)) n → Contains (x ∷ xs) n × (t n ≡ true)
  by rest true passed (zero, lt, is) = ((zero, omega arith, is), subst (λ (m : FileName). t m ≡ true) is passed)
  by rest true passed (suc k, lt, is) = let r = rest (k, omega (arith, lt), is) in ((suc r.0.0, omega (arith, r.0.1), r.0.2), r.1)
  by rest false failed there = let r = rest there in ((suc r.0.0, omega (arith, r.0.1), r.0.2), r.1)

pub into_kept : (t : FileName → Bool) (names : List FileName) (n : FileName) → Contains names n → t n ≡ true → Contains (filter t names) n
into_kept t [] n (k, lt, is) passed = absurd (omega (arith, lt))
into_kept t (x ∷ xs) n there passed = by (into_kept t xs n) (t x) refl there where
  by : (Contains xs n → t n ≡ true → Contains (filter t xs) n) → (b : Bool) → t x ≡ b → Contains (x ∷ xs) n → Contains (cond b (x ∷ filter t xs) (filter t xs)) n
  by rest true passes (zero, lt, is) = (zero, omega arith, is)
  by rest true passes (suc k, lt, is) = let r = rest (k, omega (arith, lt), is) passed in (suc r.0, omega (arith, r.1), r.2)
  by rest false fails (zero, lt, is) = absurd (let e : true ≡ false = sym passed ∙ ap t (sym is) ∙ fails in cc)
  by rest false fails (suc k, lt, is) = rest (k, omega (arith, lt), is) passed

among_others : (n : FileName) (names more : List FileName) → AreAmong names more → AreAmong (other_names n names) (other_names n more)
among_others n names more among m there = let r = kept (λ m. not (same m n)) names m there in into_kept (λ m. not (same m n)) more m (among m r.0) r.1

among_before : (found : Option File) (from to : FileName) (names more : List FileName) → AreAmong names more → AreAmong (names_before found from to names) (names_before found from to more)
among_before None from to names more among = among
among_before (Some file) from to names more among = among_mapped (name_before from to) names more among

among_since : (call : Call) (outcome : Outcome) (told : Files) (names more : List FileName) → AreAmong names more → AreAmong (synced_since call outcome told names) (synced_since call outcome told more)
among_since listing outcome told names more among = among
among_since (reading n) outcome told names more among = among
among_since (creating n len fill) fine told names more among = among_others n names more among
among_since (creating n len fill) no_room told names more among = among
among_since (creating n len fill) (broken undone) told names more among = among
among_since (creating n len fill) (broken whole) told names more among = among_others n names more among
among_since (creating n len fill) (broken (short k)) told names more among = among_others n names more among
among_since (creating n len fill) (broken absent) told names more among = among_others n names more among
among_since (writing n place bytes) outcome told names more among = among
among_since (syncing n) fine told names more among = among_cons names more n among
among_since (syncing n) no_room told names more among = among
among_since (syncing n) (broken part) told names more among = among
among_since (renaming from to) fine told names more among = among_before (finite.get told from) from to names more among
among_since (renaming from to) no_room told names more among = among
among_since (renaming from to) (broken undone) told names more among = among
among_since (renaming from to) (broken whole) told names more among = among_before (finite.get told from) from to names more among
among_since (renaming from to) (broken (short k)) told names more among = among
among_since (renaming from to) (broken absent) told names more among = among
among_since (removing n) outcome told names more among = among

-- what the first settles the second does
pub record SettlesMore (less more : Settling) : Type 0 where
  pub listed : less.listed ≡ true → more.listed ≡ true
  pub synced : AreAmong less.synced more.synced

listed_more : (call : Call) (outcome : Outcome) (less more : Bool) → (less ≡ true → more ≡ true) → listed_since call outcome less ≡ true → listed_since call outcome more ≡ true
listed_more listing fine less more goes is = refl
listed_more listing no_room less more goes is = goes is
listed_more listing (broken part) less more goes is = goes is
listed_more (reading n) outcome less more goes is = goes is
listed_more (creating n len fill) outcome less more goes is = goes is
listed_more (writing n place bytes) outcome less more goes is = goes is
listed_more (syncing n) outcome less more goes is = goes is
listed_more (renaming from to) outcome less more goes is = goes is
listed_more (removing n) outcome less more goes is = goes is

more_since : (call : Call) (outcome : Outcome) (told : Files) (less more : Settling) → SettlesMore less more → SettlesMore (settled_since call outcome told less) (settled_since call outcome told more)
more_since call outcome told less more among = record {
  listed = listed_more call outcome less.listed more.listed among.listed;
  synced = among_since call outcome told less.synced more.synced among.synced;
}

may_with_fewer : (call : Call) (part other : Part) (less more : Settling) → SettlesMore less more → MayHaveDone more call part other → MayHaveDone less call part other
may_with_fewer listing part other less more among may = tt
may_with_fewer (reading n) part other less more among may = tt
may_with_fewer (creating n len fill) part other less more among may = λ is. may (among.listed is)
may_with_fewer (writing n place bytes) part other less more among may = λ there. may (among.synced n there)
may_with_fewer (syncing n) part other less more among may = tt
may_with_fewer (renaming from to) part other less more among may = λ is. may (among.listed is)
may_with_fewer (removing n) part other less more among may = λ is. may (among.listed is)

next_with_fewer : (call : Call) (outcome : Outcome) (told o s : Files) (less more : Settling) → SettlesMore less more → Next more call outcome told o s → Next less call outcome told o s
next_with_fewer call fine told o s less more among next = next
next_with_fewer call no_room told o s less more among next = next
next_with_fewer call (broken part) told o s less more among next = (next.0, may_with_fewer call part next.0 less more among next.1, next.2)

reads_with_fewer : (less more : Settling) (start : Files) (es : List Event) (s : Files) → SettlesMore less more → ReadsBefore more start es s → ReadsBefore less start es s
reads_with_fewer less more start [] s among reads = reads
reads_with_fewer less more start (e ∷ es) s among reads = (
  reads.0,
  reads_with_fewer (settled_since e.call e.outcome (content start es) less) (settled_since e.call e.outcome (content start es) more) start es reads.0 (more_since e.call e.outcome (content start es) less more among) reads.1,
  next_with_fewer e.call e.outcome (content start es) reads.0 s less more among reads.2,
)

-- whatever is settled later on, it is a reading
pub reads_before : (later : Settling) (start : Files) (es : List Event) (s : Files) → ReadsBefore later start es s → Reads start es s
reads_before later start es s reads = reads_with_fewer nothing_since later start es s (record { listed = λ is. absurd cc; synced = λ n none. absurd (omega (arith, none.1)) }) reads
