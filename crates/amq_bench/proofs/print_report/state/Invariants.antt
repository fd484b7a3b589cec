use Rattle.std.proofs.Common.{◌≡◌, vec_len}
use Rattle.amq_bench.proofs.print_report.state.Given as goal

abbrev pub invariant-loop-i : goal.invariant-loop-i
invariant-loop-i l = vec_len l.live ≡ l.i
