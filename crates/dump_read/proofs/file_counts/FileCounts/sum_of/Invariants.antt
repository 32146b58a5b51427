use Rattle.std.proofs.Common.{◌≡◌, drop}
use Rattle.dump_read.specs.Files.{together, with_all}
use Rattle.dump_read.proofs.file_counts.FileCounts.sum_of.Given as goal

-- what was counted so far, with the files that are left, is what all hold
abbrev pub invariant-loop-file : goal.invariant-loop-file
invariant-loop-file l = with_all l.all (drop l.file-index l.files) ≡ together l.fn.files
