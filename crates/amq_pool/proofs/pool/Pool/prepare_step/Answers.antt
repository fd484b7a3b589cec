use Rattle.std.proofs.Common.{◌≡◌, List, ℕ, ap, ◌+◌, ◌-◌, ◌^◌, ◌<◌, arith}
use Rattle.amq_pool.specs.declared.pool.PoolFile.{PoolFile}
use Rattle.amq_pool.proofs.Nothing.{nothing_made, nothing_changed}
use Rattle.amq_pool.specs.Pools.{numbered_file}
use Rattle.amq_pool.proofs.Queue.{grown}
use Rattle.amq_pool.proofs.pool.Pool.prepare_step.Goals as goal

-- a file of this name and id
abbrev named : List ℕ → ℕ → PoolFile
named name id = record { name = name; id = id }

pub returns-then-self-ge-MOST_NUMBER-clause-crash : goal.returns-then-self-ge-MOST_NUMBER-clause-crash
returns-then-self-ge-MOST_NUMBER-clause-crash g c = nothing_made c.args.self.now.config (c.args.self.now.highest + 1) (g.D.Disk.past c.args.disk.now)

pub returns-then-is_err-clause-crash : goal.returns-then-is_err-clause-crash
returns-then-is_err-clause-crash g c = nothing_made c.args.self.now.config (c.args.self.now.highest + 1) (g.D.Disk.past c.args.disk.now)

pub returns-then-is_err-clause-memory : goal.returns-then-is_err-clause-memory
returns-then-is_err-clause-memory g c = nothing_changed c.args.self.now.config (c.args.self.now.highest + 1) (g.D.Disk.past c.args.disk.now)

pub invariant_of-self-2 : goal.invariant_of-self-2
invariant_of-self-2 g c =
    let file : PoolFile = record { name = c.in_ok-name.name; id = c.self.inside.highest + 1 } in
    let numbered : file ≡ numbered_file (c.self.inside.highest + 1) = ap (λ (name : List ℕ). named name (c.self.inside.highest + 1)) c.in_ok-name.ensures.name in
    let room : c.self.inside.highest < 2 ^ 31 - 1 = omega (arith, c.if-self-ge-MOST_NUMBER.false) in
    grown c.self.inside.config c.self.inside.highest c.self.inside.prepared.items c.try_reserve.new.self.items c.push_back_reserved.new.self.items file c.try_reserve.ensures.items c.push_back_reserved.ensures.items numbered room c.self.invariant

pub returns-clause-is : goal.returns-clause-is
returns-clause-is g c =
    let file : PoolFile = record { name = c.in_ok-name.name; id = c.self.inside.highest + 1 } in
    let numbered : file ≡ numbered_file (c.self.inside.highest + 1) = ap (λ (name : List ℕ). named name (c.self.inside.highest + 1)) c.in_ok-name.ensures.name in
    let room : c.self.inside.highest < 2 ^ 31 - 1 = omega (arith, c.if-self-ge-MOST_NUMBER.false) in
    grown c.self.inside.config c.self.inside.highest c.self.inside.prepared.items c.try_reserve.new.self.items c.push_back_reserved.new.self.items file c.try_reserve.ensures.items c.push_back_reserved.ensures.items numbered room c.self.invariant
