-- The history of records one behind the other in several files, and how it answers and goes on.
use Rattle.std.proofs.Common.{◌≡◌, inl, inr, ℕ, suc, ◌+◌, ◌<◌, ◌≤◌, ◌-◌, ◌^◌, List, [], ◌∷◌, ◌++◌, length, Option, None, Some, refl, sym, ap, subst, ◌∙◌, append_assoc, arith}
use Rattle.std.specs.Prelude.{All, IsTrue, map as map_of}
use Rattle.std.proofs.lemmas.List.{length-map, map-append, append-nil}
use Rattle.std.proofs.lemmas.List.Elements.{All-head, All-tail, filter_map-append}
use Rattle.amq_model.specs.declared.record.Record.{Record}
use Rattle.amq_model.specs.declared.record.Placed.{Placed}
use Rattle.amq_model.specs.declared.command.Command.{Command}
use Rattle.amq_model.specs.declared.command.Command.TheVariants as c
use Rattle.amq_model.specs.declared.command.Reply.{Reply}
use Rattle.amq_model.specs.declared.command.Reply.TheVariants.{Appended, Begun, Durable}
use Rattle.amq_model.specs.declared.config.Config.{Config}
use Rattle.amq_model.specs.declared.history.Answer.{Answer}
use Rattle.amq_model.specs.declared.history.Answer.TheVariants.{Done, Refused}
use Rattle.amq_model.specs.declared.history.Step.{Step}
use Rattle.amq_model.specs.declared.refusal.Refusal.{Refusal}
use Rattle.amq_model.specs.declared.refusal.Refusal.TheVariants.{FileIdsSpent}
use Rattle.amq_model.specs.RecordAt.{whole_len}
use Rattle.amq_model.specs.Directory.{placed}
use Rattle.amq_model.specs.Answers.{record_of, history_of, too_large, tx_refusal, held, id_refusal, spent, refusal, first_some, accepted, answer, highest}
use Rattle.amq_tx.specs.Follows.{refusal_of, number_of_begin}
use Rattle.amq_model.specs.Legal.{StandsNext, end_of, needs_file, IsDone, IsAnswered, IsLegalStep, AreLegalFrom}
use Rattle.amq_scan.specs.Written.{Item, spelled, spots_from, end_from}
use Rattle.amq_scan.specs.Segments.{Segment, records_of}
use Rattle.amq_scan.proofs.Written.{spots_more}
use Rattle.amq_scan.proofs.Scans.{whole_len-pos}
use Rattle.amq_pool.specs.declared.pool.PoolFile.{PoolFile}
use Rattle.amq_engine.specs.Directory.{placed_in}
use Rattle.amq_engine.specs.Engine.{refused, bare_reply, records}

-- ---- places

-- the record that stands behind these in the file
abbrev pub behind : ℕ → List Item → Item → Placed
behind id items x = record { file = id; place = end_from 2 16 items; compact = x.compact; rec = x.rec }

pub placed-snoc : (id : ℕ) (items : List Item) (x : Item) → placed_in id (items ++ x ∷ []) ≡ placed_in id items ++ behind id items x ∷ []
placed-snoc id items x = ap (map_of (placed id)) (spots_more 2 16 items (x ∷ [])) ∙ map-append (placed id) (spots_from 2 16 items) (spots_from 2 (end_from 2 16 items) (x ∷ []))

pub records-snoc : (closed : List Segment) (used : PoolFile) (items : List Item) (x : Item) → records closed used (items ++ x ∷ []) ≡ records closed used items ++ behind used.id items x ∷ []
records-snoc closed used items x = ap (λ (l : List Placed). records_of closed ++ l) (placed-snoc used.id items x) ∙ sym (append_assoc (records_of closed) (placed_in used.id items) (behind used.id items x ∷ []))

length-spots : (place : ℕ) (items : List Item) → length (spots_from 2 place items) ≡ length items
length-spots place [] = refl
length-spots place (x ∷ xs) = ap suc (length-spots (place + whole_len 2 x.rec) xs)

pub length-placed : (id : ℕ) (items : List Item) → length (placed_in id items) ≡ length items
length-placed id items = length-map (spots_from 2 16 items) (placed id) ∙ length-spots 16 items

-- the last of several is that of those behind
end_behind : (xs : List Placed) (y : Placed) (ys : List Placed) → end_of (xs ++ y ∷ ys) ≡ end_of (y ∷ ys)
end_behind [] y ys = refl
end_behind (x ∷ []) y ys = refl
end_behind (x ∷ w ∷ xs) y ys = end_behind (w ∷ xs) y ys

end_from_place : (id place : ℕ) (items : List Item) (x : Item) → end_of (map_of (placed id) (spots_from 2 place (x ∷ items))) ≡ end_from 2 place (x ∷ items)
end_from_place id place [] x = refl
end_from_place id place (y ∷ ys) x = end_from_place id (place + whole_len 2 x.rec) ys y

-- where the last append ends, if it stands in the file in use
pub end_records : (closed : List Segment) (used : PoolFile) (items : List Item) → (items ≡ [] → ⊥) → end_of (records closed used items) ≡ end_from 2 16 items
end_records closed used [] some = absurd (some refl)
end_records closed used (x ∷ xs) some = end_behind (records_of closed) _ _ ∙ end_from_place used.id 16 xs x

-- each record takes room
few : (place : ℕ) (items : List Item) → place + length items ≤ end_from 2 place items
few place [] = omega arith
few place (x ∷ xs) = omega (arith, few (place + whole_len 2 x.rec) xs, whole_len-pos 2 x.rec)

pub few_records : (items : List Item) → 16 + length items ≤ end_from 2 16 items
few_records items = few 16 items

next_behind : (base xs : List Placed) (y : Placed) (ys : List Placed) (p : Placed) → StandsNext base (y ∷ ys) p → StandsNext base (xs ++ y ∷ ys) p
next_behind base [] y ys p next = next
next_behind base (x ∷ []) y ys p next = next
next_behind base (x ∷ w ∷ xs) y ys p next = next_behind base (w ∷ xs) y ys p next

next_from : (base : List Placed) (id place : ℕ) (items : List Item) (x y : Item) → StandsNext base (map_of (placed id) (spots_from 2 place (x ∷ items))) (record { file = id; place = end_from 2 place (x ∷ items); compact = y.compact; rec = y.rec })
next_from base id place [] x y = inl (refl, refl)
next_from base id place (z ∷ zs) x y = next_from base id (place + whole_len 2 x.rec) zs z y

-- the first record of a file above those before
next_above : (id : ℕ) (base xs : List Placed) (y : Item) → All (λ p. p.file < id) base → All (λ p. p.file < id) xs → StandsNext base xs (record { file = id; place = 16; compact = y.compact; rec = y.rec })
next_above id base [] y above below = (refl, above)
next_above id base (x ∷ []) y above below = inr (All-head (λ p. p.file < id) x [] below, refl)
next_above id base (x ∷ w ∷ xs) y above below = next_above id base (w ∷ xs) y above (All-tail (λ p. p.file < id) x (w ∷ xs) below)

pub stands_next : (base : List Placed) (closed : List Segment) (used : PoolFile) (items : List Item) (y : Item) → All (λ p. p.file < used.id) base → All (λ p. p.file < used.id) (records_of closed) → StandsNext base (records closed used items) (behind used.id items y)
stands_next base closed used [] y above below = subst (λ (l : List Placed). StandsNext base l (behind used.id [] y)) (sym (append-nil (records_of closed))) (next_above used.id base (records_of closed) y above below)
stands_next base closed used (x ∷ xs) y above below = next_behind base (records_of closed) _ _ (behind used.id (x ∷ xs) y) (next_from base used.id 16 xs x y)

pub spelled_some : (id : ℕ) (items : List Item) → spelled 2 id items ≡ [] → items ≡ []
spelled_some id [] is = refl
spelled_some id (x ∷ xs) is = absurd cc

-- ---- answers

abbrev pub answered_by : Option Refusal → Reply → Answer
answered_by (Some r) reply = Refused r
answered_by None reply = Done reply

-- the reply to a command that isn't refused
abbrev pub reply_behind : List Placed → List Step → Command → Reply
reply_behind base steps c.Begin = Begun (highest base steps + 1)
reply_behind base steps c.Flush = Durable (length (history_of steps))
reply_behind base steps _ = Appended (length (history_of steps))

pub accepted_is : (base : List Placed) (steps : List Step) (command : Command) → accepted base steps command ≡ Done (reply_behind base steps command)
accepted_is base steps (c.Add id user_type body) = refl
accepted_is base steps (c.Update id user_type body) = refl
accepted_is base steps (c.Delete id) = refl
accepted_is base steps c.Begin = refl
accepted_is base steps (c.AddTx tx id user_type body) = refl
accepted_is base steps (c.UpdateTx tx id user_type body) = refl
accepted_is base steps (c.DeleteTx tx id body) = refl
accepted_is base steps (c.Prepare tx extra) = refl
accepted_is base steps (c.Commit tx) = refl
accepted_is base steps (c.Rollback tx) = refl
accepted_is base steps c.Flush = refl

abbrev answer_by : Option Refusal → Answer → Answer
answer_by (Some r) otherwise = Refused r
answer_by None otherwise = otherwise

answer_opened : (base : List Placed) (steps : List Step) (config : Config) (command : Command) (o : Option Refusal) → refusal base steps config command ≡ o → answer base steps config command ≡ answer_by o (accepted base steps command)
answer_opened base steps config command None is = rw (is, answer) refl
answer_opened base steps config command (Some r) is = rw (is, answer) refl

one_of : (o : Option Refusal) → o ≡ first_some (o ∷ [])
one_of None = refl
one_of (Some r) = refl

regroup : (a : Option Refusal) (os : List (Option Refusal)) → first_some (a ∷ os) ≡ first_some (a ∷ first_some os ∷ [])
regroup (Some r) os = refl
regroup None os = one_of (first_some os)

-- what the journal of one thread answers a command
answer_is : (base : List Placed) (steps : List Step) (config : Config) (command : Command) (by_table : Option Refusal) → by_table ≡ refusal_of base steps command → answer base steps config command ≡ answered_by (first_some (too_large config command ∷ by_table ∷ [])) (reply_behind base steps command)
answer_is base steps config command by_table known =
    let refuses : List (Option Refusal) = tx_refusal base steps command ∷ held base steps command ∷ id_refusal base steps command ∷ spent base steps command ∷ [] in
    answer_opened base steps config command (first_some (too_large config command ∷ by_table ∷ []))
    (regroup (too_large config command) refuses ∙ ap (λ (o : Option Refusal). first_some (too_large config command ∷ o ∷ [])) (sym known))
    ∙ ap (answer_by (first_some (too_large config command ∷ by_table ∷ []))) (accepted_is base steps command)
    ∙ said (first_some (too_large config command ∷ by_table ∷ []))
  where
    said : (o : Option Refusal) → answer_by o (Done (reply_behind base steps command)) ≡ answered_by o (reply_behind base steps command)
    said None = refl
    said (Some r) = refl

two_none : (by_numbers a b : Option Refusal) → first_some (a ∷ b ∷ by_numbers ∷ []) ≡ None → first_some (a ∷ b ∷ []) ≡ None
two_none by_numbers (Some r) b is = absurd cc
two_none by_numbers None (Some r) is = absurd cc
two_none by_numbers None None is = refl

-- what nothing refuses, the journal of one thread doesn't either
pub none_refused : (base : List Placed) (steps : List Step) (config : Config) (command : Command) (by_table by_numbers : Option Refusal) → by_table ≡ refusal_of base steps command → refused config by_table by_numbers command ≡ None → refusal base steps config command ≡ None
none_refused base steps config command by_table by_numbers known none =
    regroup (too_large config command) (tx_refusal base steps command ∷ held base steps command ∷ id_refusal base steps command ∷ spent base steps command ∷ [])
    ∙ ap (λ (o : Option Refusal). first_some (too_large config command ∷ o ∷ [])) (sym known)
    ∙ two_none by_numbers (too_large config command) by_table none

-- a command that nothing refuses is answered by the journal of one thread
pub answered_none : (base : List Placed) (steps : List Step) (config : Config) (command : Command) (by_table by_numbers : Option Refusal) → by_table ≡ refusal_of base steps command → refused config by_table by_numbers command ≡ None → IsAnswered base steps config command (Done (reply_behind base steps command))
answered_none base steps config command by_table by_numbers known none =
    inl (sym (answer_is base steps config command by_table known ∙ ap (λ (o : Option Refusal). answered_by o (reply_behind base steps command)) (two_none by_numbers (too_large config command) by_table none)))

-- a command that something refuses is answered so, where the numbers of files are spent as they may be
pub answered_some : (base : List Placed) (steps : List Step) (config : Config) (command : Command) (by_table by_numbers : Option Refusal) (r : Refusal) → by_table ≡ refusal_of base steps command → refused config by_table by_numbers command ≡ Some r
    → (too_large config command ≡ None → by_numbers ≡ Some r → (r ≡ FileIdsSpent (2 ^ 31 - 1)) × IsTrue (needs_file (history_of steps) config command)) → IsAnswered base steps config command (Refused r)
answered_some base steps config command by_table by_numbers r known is spent_so = by (too_large config command) by_table refl refl is where
  said : (a b : Option Refusal) → too_large config command ≡ a → by_table ≡ b → answer base steps config command ≡ answered_by (first_some (a ∷ b ∷ [])) (reply_behind base steps command)
  said a b one other = answer_is base steps config command by_table known ∙ ap (λ (o : Option Refusal). answered_by (first_some (o ∷ by_table ∷ [])) (reply_behind base steps command)) one ∙ ap (λ (o : Option Refusal). answered_by (first_some (a ∷ o ∷ [])) (reply_behind base steps command)) other

  by : (a b : Option Refusal) → too_large config command ≡ a → by_table ≡ b → first_some (a ∷ b ∷ by_numbers ∷ []) ≡ Some r → IsAnswered base steps config command (Refused r)
  by (Some q) b one other first = inl (sym (said (Some q) b one other ∙ ap (λ (o : Option Refusal). answered_by o (reply_behind base steps command)) first))
  by None (Some q) one other first = inl (sym (said None (Some q) one other ∙ ap (λ (o : Option Refusal). answered_by o (reply_behind base steps command)) first))
  by None None one other first =
      let s = spent_so one (one_of by_numbers ∙ first) in
      inr (ap (λ (q : Refusal). Refused q) s.0, s.1, subst IsDone (sym (said None None one other)) tt)

-- ---- one more step

pub history-snoc : (steps : List Step) (s : Step) → history_of (steps ++ s ∷ []) ≡ history_of steps ++ history_of (s ∷ [])
history-snoc steps s = filter_map-append (λ s. s.placed) steps (s ∷ [])

pub legal_from : (base : List Placed) (config : Config) (before ss : List Step) (s : Step) → AreLegalFrom base config before ss → IsLegalStep base (before ++ ss) config s → AreLegalFrom base config before (ss ++ s ∷ [])
legal_from base config before [] s all one = (subst (λ (l : List Step). IsLegalStep base l config s) (append-nil before) one, tt)
legal_from base config before (t ∷ ts) s all one =
    (all.0, legal_from base config (before ++ t ∷ []) ts s all.1 (subst (λ (l : List Step). IsLegalStep base l config s) (sym (append_assoc before (t ∷ []) ts)) one))

-- ---- commands by their records

-- a command without a record asks for a flush, or begins a transaction
pub reply_bare : (base : List Placed) (steps : List Step) (command : Command) (given : Option ℕ) (reply : Reply) (n : ℕ) → given ≡ number_of_begin base steps command → record_of command 0 ≡ None → (given ≡ None → n ≡ length (history_of steps)) → reply ≡ bare_reply n given → reply ≡ reply_behind base steps command
reply_bare base steps c.Begin given reply n is none count said = said ∙ ap (bare_reply n) is
reply_bare base steps c.Flush given reply n is none count said = said ∙ ap (bare_reply n) is ∙ ap Durable (count is)
reply_bare base steps (c.Add id user_type body) given reply n is none count said = absurd cc
reply_bare base steps (c.Update id user_type body) given reply n is none count said = absurd cc
reply_bare base steps (c.Delete id) given reply n is none count said = absurd cc
reply_bare base steps (c.AddTx tx id user_type body) given reply n is none count said = absurd cc
reply_bare base steps (c.UpdateTx tx id user_type body) given reply n is none count said = absurd cc
reply_bare base steps (c.DeleteTx tx id body) given reply n is none count said = absurd cc
reply_bare base steps (c.Prepare tx extra) given reply n is none count said = absurd cc
reply_bare base steps (c.Commit tx) given reply n is none count said = absurd cc
reply_bare base steps (c.Rollback tx) given reply n is none count said = absurd cc

-- a command with a record is answered with its place
pub reply_appended : (base : List Placed) (steps : List Step) (command : Command) (given : Option ℕ) (rec : Record) (n m : ℕ) → record_of command m ≡ Some rec → n ≡ length (history_of steps) → Appended n ≡ reply_behind base steps command
reply_appended base steps c.Begin given rec n m is count = absurd cc
reply_appended base steps c.Flush given rec n m is count = absurd cc
reply_appended base steps (c.Add id user_type body) given rec n m is count = ap Appended count
reply_appended base steps (c.Update id user_type body) given rec n m is count = ap Appended count
reply_appended base steps (c.Delete id) given rec n m is count = ap Appended count
reply_appended base steps (c.AddTx tx id user_type body) given rec n m is count = ap Appended count
reply_appended base steps (c.UpdateTx tx id user_type body) given rec n m is count = ap Appended count
reply_appended base steps (c.DeleteTx tx id body) given rec n m is count = ap Appended count
reply_appended base steps (c.Prepare tx extra) given rec n m is count = ap Appended count
reply_appended base steps (c.Commit tx) given rec n m is count = ap Appended count
reply_appended base steps (c.Rollback tx) given rec n m is count = ap Appended count

-- whether there is a record doesn't depend on the number in it, nor does its length
pub no_record : (command : Command) (n : ℕ) → record_of command n ≡ None → record_of command 0 ≡ None
no_record c.Begin n is = refl
no_record c.Flush n is = refl
no_record (c.Add id user_type body) n is = absurd cc
no_record (c.Update id user_type body) n is = absurd cc
no_record (c.Delete id) n is = absurd cc
no_record (c.AddTx tx id user_type body) n is = absurd cc
no_record (c.UpdateTx tx id user_type body) n is = absurd cc
no_record (c.DeleteTx tx id body) n is = absurd cc
no_record (c.Prepare tx extra) n is = absurd cc
no_record (c.Commit tx) n is = absurd cc
no_record (c.Rollback tx) n is = absurd cc
