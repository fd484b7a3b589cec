-- The data files behind the calls of a replay.
use Rattle.std.proofs.Common.{◌≡◌, inl, inr, ⊎_elim, refl, sym, subst, ap, ℕ, ◌+◌, ◌≤◌, Bool, true, false, cond, List, Option, None, Some, arith}
use Rattle.std.specs.Prelude.{◌&&◌}
use Rattle.amq_model.specs.Answers.{history_of}
use Rattle.amq_model.specs.Files.{Files}
use Rattle.amq_model.specs.Leaves.{Leaves, Told, Unchanged}
use Rattle.amq_model.proofs.Moments.{go_on}
use Rattle.amq_model.specs.declared.config.Config.{Config}
use Rattle.amq_model.specs.declared.record.Placed.{Placed}
use Rattle.amq_model.specs.Calls.{Past}
use Rattle.amq_model.proofs.Chain.{told_then}
use Rattle.amq_loader.specs.Loads.{IsTidy}
use Rattle.amq_engine.specs.Lists.{Lists}
use Rattle.amq_engine.specs.DataFiles.{HasFilesMade, IsRenewed, SyncsAllBut, HasFilesOf, HasFilesSoFar}
use Rattle.amq_engine.proofs.DataFiles.{told_two, told_chain}
use Rattle.amq_model.specs.declared.history.Step.{Step}
use Rattle.amq_cli.specs.declared.status.Status.{Status}
use Rattle.amq_cli.specs.declared.status.Status.TheVariants as s
use Rattle.amq_cli.specs.declared.status.Unbuilt.TheVariants as u
use Rattle.amq_model.specs.declared.refusal.Refusal.{Refusal}
use Rattle.amq_model.specs.declared.refusal.Refusal.TheVariants as r
use Rattle.amq_model.specs.declared.directory.OpenFault.{OpenFault}
use Rattle.amq_model.specs.declared.directory.OpenFault.TheVariants as o
use Rattle.amq_cli.specs.Statuses.{status_of, status_of_opening}
use Rattle.amq_cli.specs.Offline.{is_done, is_past_script, HasRunFiles, IsEnd}

pub and_true : (b : Bool) → (b && true) ≡ b
and_true true = refl
and_true false = refl

-- what was noted is what answered
pub as_noted : (P : Bool → Type 0) (done noted ok : Bool) → noted ≡ ok → P (done && noted) → P (ok && done)
as_noted P true true true e p = p
as_noted P true false false e p = p
as_noted P false true true e p = p
as_noted P false false false e p = p
as_noted P done true false e p = absurd cc
as_noted P done false true e p = absurd cc

-- one more may be there where not all was done
last_or_one_more : (done : Bool) (most file : ℕ) → most ≤ cond done file (file + 1) → most ≤ file + 1
last_or_one_more true most file is = omega (arith, is)
last_or_one_more false most file is = is

-- the files of a history are so too where not all was done
pub files_unfinished : (done : Bool) (config : Config) (history : List Placed) (old new : Option Past) → HasFilesOf done config history old new → HasFilesOf false config history old new
files_unfinished done config history old new f = record {
  files = f.files;
  before = f.before;
  had = f.had;
  most = f.most;
  limit = f.limit;
  begun = f.begun;
  worked = record { last = f.worked.last; least = f.worked.least; within = f.worked.within; near = f.worked.near; all = λ is. absurd cc; works = f.worked.works };
  stands = f.stands;
  enough = λ is. absurd cc;
  tidy = λ is. absurd cc;
  no_more = ⊎_elim (λ le. inl (last_or_one_more done f.most _ le)) (λ few. inr few) f.no_more;
}

-- where all was done they are so either way
pub files_as : (done : Bool) (config : Config) (history : List Placed) (old new : Option Past) → HasFilesOf true config history old new → HasFilesOf done config history old new
files_as true config history old new f = f
files_as false config history old new f = files_unfinished true config history old new f

-- and so are those so far
pub so_far_unfinished : (done : Bool) (config : Config) (file end highest : ℕ) (l : Lists) (old new : Option Past) → HasFilesSoFar done config file end highest l old new → HasFilesSoFar false config file end highest l old new
unfolding files_unfinished
so_far_unfinished done config file end highest l old new f = record {
  files = files_unfinished done config _ old new f.files;
  reached = f.reached;
  next = f.next;
  all = λ is. absurd cc;
  begun = f.begun;
  stands = f.stands;
}

-- calls that only ask leave the files of a history
pub files_asked : (done : Bool) (config : Config) (history : List Placed) (old mid new : Option Past) → HasFilesOf done config history old mid → Leaves Unchanged Unchanged mid new → HasFilesOf done config history old new
files_asked done config history old mid new f asks =
    let K : Files → Files → Type 0 = SyncsAllBut (IsRenewed old f.before f.most) in
    let M : Files → Files → Type 0 = HasFilesMade config.file_size f.before f.worked.last in
    let Same : Files → Files → Type 0 = λ o s. s ≡ o in
    let same : Told mid (λ m. Told new (Same m)) = told_two Unchanged Unchanged Same Same mid new (λ s. Unit {0}) (trivial mid) (λ o s was is. is) asks in
    record {
      files = f.files;
      before = f.before;
      had = f.had;
      most = f.most;
      limit = f.limit;
      begun = f.begun;
      worked = record {
        last = f.worked.last;
        least = f.worked.least;
        within = f.worked.within;
        near = f.worked.near;
        all = f.worked.all;
        works = record {
          keeps = go_on {I = K} {J = Unchanged} {K = K} {E = K} {F = Unchanged} {G = K} old mid new (λ o s k. k) (λ o m s k is. subst (K o) (sym is) k) (λ o m s k is. subst (K o) (sym is) k) f.worked.works.keeps asks;
          files = told_chain K K Unchanged Unchanged M Same M old mid new (λ o m s made is. subst (M o) (sym is) made) f.worked.works.keeps asks f.worked.works.files same;
        };
      };
      stands = f.stands;
      enough = f.enough;
      tidy = λ is. told_then Unchanged Unchanged IsTidy IsTidy mid new (f.tidy is) (λ o s tidy same. subst IsTidy (sym same) tidy) asks;
      no_more = f.no_more;
    }
  where
    trivial : (h : Option Past) → Told h (λ s. Unit {0})
    trivial None = tt
    trivial (Some h) = tt

-- the files of a run, whatever the sink makes of its status
pub files_ended : (status outcome : Status) (config : Config) (steps : List Step) (old new : Option Past) (sink sink' : ℕ) → IsEnd status outcome sink sink' → HasRunFiles outcome config steps old new → HasRunFiles status config steps old new
files_ended status outcome config steps old new sink sink' (inl same) f = subst (λ (s : Status). HasRunFiles s config steps old new) (sym same) f
files_ended status outcome config steps old new sink sink' (inr (inl short)) (inl f) = inl (subst (λ (s : Status). HasFilesOf (is_done s) config (history_of steps) old new) (sym short) (files_unfinished (is_done outcome) config (history_of steps) old new f))
files_ended status outcome config steps old new sink sink' (inr (inl short)) (inr synced) = inr (ap is_done short, synced.1, synced.2)
files_ended status outcome config steps old new sink sink' (inr (inr failed)) f =
    subst (λ (s : Status). HasRunFiles s config steps old new) (sym failed.0) (subst (λ (s : Status). HasRunFiles s config steps old new) failed.1 f)

-- a run whose script wasn't read isn't done
pub not_done : (status : Status) → is_past_script status ≡ false → is_done status ≡ false
not_done s.Ok before = absurd cc
not_done s.SinkFault before = absurd cc
not_done s.DiskFault before = refl
not_done (s.Directory fault) before = refl
not_done s.NoMemory before = refl
not_done (s.FileIdsSpent highest) before = refl
not_done s.SourceFault before = refl
not_done (s.InputTooLong limit) before = refl
not_done (s.NotBuilt u.Words) before = refl
not_done (s.NotBuilt u.Script) before = refl
not_done (s.NotBuilt u.Directory) before = refl

-- a run that ended for a refusal isn't done
pub never_is_done : (refusal : Refusal) → is_done (status_of refusal) ≡ false
never_is_done (r.Closed fault) = refl
never_is_done (r.TooLarge len limit) = refl
never_is_done (r.NoTx tx) = refl
never_is_done (r.TxPrepared tx) = refl
never_is_done (r.Held id tx) = refl
never_is_done (r.AlreadyLive id) = refl
never_is_done (r.NoRecord id) = refl
never_is_done (r.TxNumbersSpent highest) = refl
never_is_done (r.Compacting phase) = refl
never_is_done (r.FileIdsSpent highest) = refl
never_is_done (r.Disk call) = refl
never_is_done r.NoMemory = refl

-- nor is one whose opening was refused
pub opening_not_done : (fault : OpenFault) → is_done (status_of_opening fault) ≡ false
opening_not_done (o.Directory fault) = refl
opening_not_done (o.FileIdsSpent highest) = refl
opening_not_done (o.Disk call) = refl
opening_not_done o.NoMemory = refl
opening_not_done o.NotBuilt = refl
