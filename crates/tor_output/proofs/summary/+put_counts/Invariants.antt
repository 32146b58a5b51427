use Rattle.std.proofs.Common.{length}
use Rattle.tor_output.proofs.summary.+put_counts.Given as goal

abbrev pub decreases-put_counts : goal.decreases-put_counts
decreases-put_counts l = length l.counts.now
